-- Walks over a tag that stands alone, and over the specifiers that it is.
use Rattle.std.proofs.Common.{◌≡◌, ℕ, ◌<◌, List, [], ◌∷◌, length, refl, ◌∙◌}
use Rattle.std.specs.Prelude.{true, false, Some, None, Result, Ok, Err, IfOk, IfErr, IsErrAnd}
use Rattle.c_ast.specs.declared.specifier.RecordKind.{RecordKind}
use Rattle.c_symbols.specs.Scoping.{Scoping}
use Rattle.c_types.specs.CType.{CType}
use Rattle.c_types.specs.Table.{Grows, Table, tags, type_at}
use Rattle.c_meaning.specs.Declaring.{typed_alone}
use Rattle.c_meaning.specs.Nodes.{Typing}
use Rattle.c_meaning.specs.Nodes as node
use Rattle.c_meaning.specs.State.{State, counted, declared, known_at, place_here}
use Rattle.c_meaning.specs.TypeConstraints.{is_of_kind}
use Rattle.c_meaning.specs.TypeRows.{record_type, specified, tag_key, tagged}
use Rattle.c_meaning.specs.TypeRows as rows
use Rattle.c_meaning.specs.Typing.{Fine, Outcome, at, then_do}
use Rattle.c_values.specs.declared.check_fault.CheckFault.{CheckFault}
use Rattle.c_values.specs.declared.check_fault.CheckFault.TheVariants.{Constraint}
use Rattle.c_check_expr.specs.declared.parts.Specified.{Specified}
use Rattle.c_check_expr.specs.AtNode.{Tells}
use Rattle.c_check_expr.specs.Keeps.{Keeps}
use Rattle.c_check_expr.specs.Kept.{keeps_itself}
use Rattle.c_check_expr.specs.Known.{AreSymbolsIn, state_of}
use Rattle.c_check_expr.specs.PartsSeen.{specified_seen}
use Rattle.c_check_expr.proofs.lemmas.Walking.{first_stops, walk_as, walk_grown, walk_then}
use Rattle.c_check_expr.specs.Walks.{IsBelow, IsSpecifiedIn, Walks}
use Rattle.c_check_decl.specs.LoneTags.{lone_tag_in}
use Rattle.c_check_decl.proofs.LoneTagNodes.{alone_known, alone_new, alone_other, lone_tag_is}

-- ---- the tag

module _ (s : Scoping) (a : Table) (line : ℕ) (k : RecordKind) (tag : List ℕ) where
  pub lone_new : (u : Scoping) (b : Table) (id : ℕ) → place_here (state_of s a) (tag_key tag) ≡ None → state_of u b ≡ declared (counted (state_of s a)) (tag_key tag) (tagged line (length s.outer) (type_at b id) None) → type_at b id ≡ record_type k (state_of s a).count
      → id < length b.forms → Keeps s a u b → Walks type_at IsBelow (lone_tag_in s a line k tag) s a u b (Ok id)
  lone_new u b id h e o l keeps = record { ok = lone_tag_is s a line k tag ∙ alone_new (state_of s a) (state_of u b) line k tag (type_at b id) h e o; err = tt; within = l; keeps = keeps }

  pub lone_known : (id of : ℕ) → AreSymbolsIn (length a.forms) s.symbols → place_here (state_of s a) (tag_key tag) ≡ Some id → type_at a of ≡ (known_at (state_of s a) id).of → is_of_kind k (type_at a of) ≡ true
      → of < length a.forms → Walks type_at IsBelow (lone_tag_in s a line k tag) s a s a (Ok of)
  lone_known id of i h o e l = record { ok = lone_tag_is s a line k tag ∙ alone_known (state_of s a) line k tag id (type_at a of) h o e; err = tt; within = l; keeps = keeps_itself s a i }

  pub lone_other : (id of : ℕ) → AreSymbolsIn (length a.forms) s.symbols → place_here (state_of s a) (tag_key tag) ≡ Some id → type_at a of ≡ (known_at (state_of s a) id).of → is_of_kind k (type_at a of) ≡ false
      → Walks type_at IsBelow (lone_tag_in s a line k tag) s a s a (Err (Constraint 8 line))
  lone_other id of i h o e = record { ok = tt; err = lone_tag_is s a line k tag ∙ alone_other (state_of s a) line k tag id (type_at a of) h o e; within = tt; keeps = keeps_itself s a i }

-- ---- the specifiers

-- one whole type
abbrev pub at_specifiers : ℕ → CType → State → Outcome rows.Specified
at_specifiers line of s = at s line (Typing (node.Specifiers (node.Whole of ∷ []))) s (specified (node.Whole of ∷ []))

pub typed_alone_is : (s : Scoping) (a : Table) (line l : ℕ) (k : RecordKind) (tag : List ℕ) → typed_alone (state_of s a) line l k tag ≡ then_do (lone_tag_in s a l k tag) (λ s of. at_specifiers line of s)
unfolding lone_tag_in
typed_alone_is s a line l k tag = refl

pub alone_goes : (s u : Scoping) (a b d : Table) (line l : ℕ) (k : RecordKind) (tag : List ℕ) (of : ℕ) (r : Result Specified CheckFault) → Walks type_at IsBelow (lone_tag_in s a l k tag) s a u b (Ok of) → Grows b d
    → IfOk r (λ v. (s : State) → s.tags ≡ tags b → at_specifiers line (type_at b of) s ≡ Fine s (specified_seen d v)) → IfErr r (λ e. (s : State) → s.tags ≡ tags b → Tells e (at_specifiers line (type_at b of) s)) → IfOk r (IsSpecifiedIn (length d.forms))
    → Walks specified_seen IsSpecifiedIn (typed_alone (state_of s a) line l k tag) s a u d r
alone_goes s u a b d line l k tag of r w g ok err within =
    walk_as (then_do (lone_tag_in s a l k tag) (λ s of. at_specifiers line of s)) (typed_alone (state_of s a) line l k tag) (typed_alone_is s a line l k tag)
    (walk_then specified_seen IsSpecifiedIn (lone_tag_in s a l k tag) (λ s of. at_specifiers line of s) s u u a b d of r w (walk_grown specified_seen IsSpecifiedIn (at_specifiers line (type_at b of)) u b d r w.keeps.symbols g ok err within))

pub alone_stops : (s u : Scoping) (a b : Table) (line l : ℕ) (k : RecordKind) (tag : List ℕ) (e : CheckFault) (r : Result Specified CheckFault) → IsErrAnd r (λ d. d ≡ e) → Walks type_at IsBelow (lone_tag_in s a l k tag) s a u b (Err e)
    → Walks specified_seen IsSpecifiedIn (typed_alone (state_of s a) line l k tag) s a u b r
alone_stops s u a b line l k tag e r h w =
    walk_as (then_do (lone_tag_in s a l k tag) (λ s of. at_specifiers line of s)) (typed_alone (state_of s a) line l k tag) (typed_alone_is s a line l k tag)
    (first_stops specified_seen IsSpecifiedIn (lone_tag_in s a l k tag) (λ s of. at_specifiers line of s) r h w)
