-- A form without parts: what is known of it, and the number that a new structure or union has.
use Rattle.std.proofs.Common.{◌≡◌, ℕ, ◌<◌, Bool, true, false, List, [], ◌∷◌, length, take, refl, sym, ap, ◌∙◌, subst, true≢false, arith}
use Rattle.std.specs.Prelude.{None, Option, nat_eq}
use Rattle.std.proofs.lemmas.Option.{slice_get-get_or}
use Rattle.std.proofs.lemmas.List.{take_all}
use Rattle.std.proofs.lemmas.Bool.Decides.{nat_tests}
use Rattle.c_types.specs.declared.type_form.TypeForm.{TypeForm}
use Rattle.c_types.specs.declared.type_form.TypeForm.TheVariants as form
use Rattle.c_types.specs.declared.type_form.Enumerator.{Enumerator}
use Rattle.c_types.specs.declared.qualifiers.Qualifiers.{Qualifiers}
use Rattle.c_types.specs.declared.type_table.Facts.{Facts}
use Rattle.c_types.specs.Bounds.{IsBounded}
use Rattle.c_types.specs.CType.{depth}
use Rattle.c_types.specs.Layout.{known, no_object}
use Rattle.c_types.specs.Table.{Table, Completed, tags, tags_of, tag_of, tagged, excess, form_at, form_refusal, number_at, is_qualified, is_open_form}
use Rattle.c_types.specs.Keeps.{is_formed}
use Rattle.c_types.specs.Facts.{IsFactOf, type_of}
use Rattle.c_types.proofs.Known.{IsApart, apart_push, known_apart, number_grows}
use Rattle.c_types.proofs.Defined.{AreOpen, open_tagged}

pub no_object_bounded : IsBounded no_object
no_object_bounded = record { size = tt; some = omega arith; align = omega arith; nesting = omega arith }

-- a new number is no definition's
fresh : (t : Table) (cs : List Completed) → AreOpen t cs → IsApart (tagged t.forms) (tags_of t cs)
fresh t [] o = tt
fresh t (c ∷ cs) o =
    let g = number_grows t.forms c.place (length t.forms) (form_at t c.place) o.0 (slice_get-get_or t.forms c.place form.Void o.0) (open_tagged (form_at t c.place) o.1) in
    let a : take (length t.forms) t.forms ≡ t.forms = take_all (length t.forms) t.forms (omega arith) in
    let l : number_at t c.place < tagged t.forms = subst (λ fs. number_at t c.place < tagged fs) a g in
    let n : nat_eq (tagged t.forms) (number_at t c.place) ≡ false = grind (arith, nat_tests) in
    apart_push (tags_of t cs) (tag_of t c) (tagged t.forms) (fresh t cs o.2) n

pub fresh_known : (t : Table) → AreOpen t t.completed → known (tags t) (tagged t.forms) ≡ no_object
fresh_known t o = known_apart (tags t) (tagged t.forms) (fresh t t.completed o)

plain_facts : (t : Table) (f : TypeForm) (x : Facts) → is_qualified f ≡ false → depth (type_of t f) ≡ 1 → (is_formed f ≡ true → is_open_form f ≡ false → ⊥) → x.base ≡ length t.forms → x.qualifiers.0 ≡ 0 → x.depth ≡ 1 → x.extent ≡ no_object → IsFactOf t f x
plain_facts t f x q d never b z e w =
    record {
      own = λ h. (b, z);
      other = λ h. absurd (true≢false (sym h ∙ q));
      depth = e ∙ sym d;
      deep = omega (arith, e);
      bounded = subst IsBounded (sym w) no_object_bounded;
      extent = λ u h i. absurd (never u i);
      open_form = λ h. w;
      settled = λ u h i. absurd (never u i);
    }

pub record IsAlone (t : Table) (f : TypeForm) (x : Facts) : Type 0 where
  pub facts : IsFactOf t f x
  pub accepted : form_refusal t f ≡ None

pub alone : (t : Table) (f : TypeForm) (x : Facts) → known (tags t) (tagged t.forms) ≡ no_object → x.base ≡ length t.forms → x.qualifiers.0 ≡ 0 → x.depth ≡ 1 → x.extent ≡ no_object →
    ((to : ℕ) → f ≡ form.Pointer to → ⊥) → ((of : ℕ) (n : Option ℕ) → f ≡ form.Array of n → ⊥) → ((r : ℕ) (ps : Option (List ℕ)) (m : Bool) → f ≡ form.Function r ps m → ⊥) → ((ms : List Enumerator) → f ≡ form.Enumeration ms → ⊥) → ((of : ℕ) (q : Qualifiers) → f ≡ form.Qualified of q → ⊥) → IsAlone t f x
alone t form.Void x k b z e w p a g m q = record { facts = plain_facts t form.Void x refl refl (λ u h. true≢false (sym u)) b z e w; accepted = refl }
alone t form.Char x k b z e w p a g m q = record { facts = plain_facts t form.Char x refl refl (λ u h. true≢false (sym u)) b z e w; accepted = refl }
alone t form.SignedChar x k b z e w p a g m q = record { facts = plain_facts t form.SignedChar x refl refl (λ u h. true≢false (sym u)) b z e w; accepted = refl }
alone t form.UnsignedChar x k b z e w p a g m q = record { facts = plain_facts t form.UnsignedChar x refl refl (λ u h. true≢false (sym u)) b z e w; accepted = refl }
alone t form.Short x k b z e w p a g m q = record { facts = plain_facts t form.Short x refl refl (λ u h. true≢false (sym u)) b z e w; accepted = refl }
alone t form.UnsignedShort x k b z e w p a g m q = record { facts = plain_facts t form.UnsignedShort x refl refl (λ u h. true≢false (sym u)) b z e w; accepted = refl }
alone t form.Int x k b z e w p a g m q = record { facts = plain_facts t form.Int x refl refl (λ u h. true≢false (sym u)) b z e w; accepted = refl }
alone t form.Unsigned x k b z e w p a g m q = record { facts = plain_facts t form.Unsigned x refl refl (λ u h. true≢false (sym u)) b z e w; accepted = refl }
alone t form.Long x k b z e w p a g m q = record { facts = plain_facts t form.Long x refl refl (λ u h. true≢false (sym u)) b z e w; accepted = refl }
alone t form.UnsignedLong x k b z e w p a g m q = record { facts = plain_facts t form.UnsignedLong x refl refl (λ u h. true≢false (sym u)) b z e w; accepted = refl }
alone t form.Structure x k b z e w p a g m q = record { facts = plain_facts t form.Structure x refl refl (λ u h. true≢false h) b z e w; accepted = ap (excess 1) k }
alone t form.Union x k b z e w p a g m q = record { facts = plain_facts t form.Union x refl refl (λ u h. true≢false h) b z e w; accepted = ap (excess 1) k }
alone t (form.Pointer to) x k b z e w p a g m q = absurd (p to refl)
alone t (form.Array of n) x k b z e w p a g m q = absurd (a of n refl)
alone t (form.Function r ps d) x k b z e w p a g m q = absurd (g r ps d refl)
alone t (form.Enumeration ms) x k b z e w p a g m q = absurd (m ms refl)
alone t (form.Qualified of y) x k b z e w p a g m q = absurd (q of y refl)
