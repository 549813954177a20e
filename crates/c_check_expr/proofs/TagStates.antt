-- What is known when a structure, union or enumeration is added to a table, and declared under a name.
use Rattle.std.proofs.Common.{◌≡◌, ℕ, ◌+◌, List, [], ◌∷◌, ◌++◌, length, refl, sym, ap, ◌∙◌, true≢false, inl, inr, arith}
use Rattle.std.specs.Prelude.{true, if◌then◌else◌}
use Rattle.std.proofs.lemmas.List.{length-append}
use Rattle.c_symbols.specs.Scoping.{Scoping}
use Rattle.c_types.specs.declared.type_form.TypeForm.{TypeForm}
use Rattle.c_types.specs.Layout.{Tag}
use Rattle.c_types.specs.Table.{Adds, Completed, Extends, Table, is_tagged, tag_of, tagged, tags, tags_of}
use Rattle.c_meaning.specs.State.{counted}
use Rattle.c_check_expr.specs.Known.{AreSymbolsIn, state_of}
use Rattle.c_check_expr.proofs.lemmas.KnownSymbols.{tagged-append}
use Rattle.c_check_expr.specs.SymbolsStay.{symbols_stay}

length-tags_of : (t : Table) (cs : List Completed) → length (tags_of t cs) ≡ length cs
length-tags_of t [] = refl
length-tags_of t (c ∷ cs) = (let h = length-tags_of t cs in omega (arith, length-append (tags_of t cs) (tag_of t c ∷ [])))

nothing : (ts : List Tag) → length ts ≡ 0 → ts ≡ []
nothing [] h = refl
nothing (t ∷ ts) h = absurd (omega arith)

-- without a further definition the definitions stay
pub tags_kept : (old new : Table) → Extends old new → new.completed ≡ old.completed → tags new ≡ tags old
tags_kept old new h e =
    let newer = h.tags_stay.0 in
    let n = ap length h.tags_stay.1 in
    let k = length-tags_of new new.completed in
    let m = length-tags_of old old.completed in
    let same = ap length e in
    let z : newer ≡ [] = nothing newer (omega (arith, length-append newer (tags old))) in
    h.tags_stay.1 ∙ ap (λ (ts : List Tag). ts ++ tags old) z

-- a type by itself is new
pub added : (old new : Table) (f : TypeForm) (id : ℕ) → Adds old f id new → is_tagged f ≡ true → new ≡ record { forms = old.forms ++ f ∷ []; completed = old.completed }
added old new f id (inl a) h = absurd (true≢false (sym h ∙ a.0))
added old new f id (inr a) h = a.2

pub state_counted : (s : Scoping) (old new : Table) (f : TypeForm) → Extends old new → new ≡ record { forms = old.forms ++ f ∷ []; completed = old.completed } → is_tagged f ≡ true → AreSymbolsIn (length old.forms) s.symbols →
    state_of s new ≡ counted (state_of s old)
state_counted s old new f h e g i =
    let more : tagged new.forms ≡ tagged old.forms + 1 = ap (λ (t : Table). tagged t.forms) e ∙ tagged-append old.forms f ∙ ap (λ b. tagged old.forms + (if b then 1 else 0)) g in
    rw (symbols_stay old new h s.symbols i, tags_kept old new h (ap (λ (t : Table). t.completed) e), more) refl
