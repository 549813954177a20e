-- A new structure or union has no members.
use Rattle.std.proofs.Common.{◌≡◌, ℕ, ◌<◌, ◌≤◌, List, [], ◌∷◌, ◌++◌, length, get_or, Bool, false, refl, sym, ap, ◌∙◌, true, true≢false, arith}
use Rattle.std.specs.Prelude.{◌↔◌, IsTrue, None, Option, Some, is_some, nat_eq, not}
use Rattle.std.specs.Map.{lookup}
use Rattle.std.specs.Option.{option_map}
use Rattle.std.proofs.lemmas.Bool.Decides.{nat_tests}
use Rattle.std.proofs.lemmas.List.{length-append}
use Rattle.c_types.specs.declared.definition.Definition.{Definition}
use Rattle.c_types.specs.declared.type_form.Member.{Member}
use Rattle.c_types.specs.declared.type_form.TypeForm.{TypeForm}
use Rattle.c_types.specs.declared.type_form.TypeForm.TheVariants as form
use Rattle.c_types.specs.Members.{is_defined}
use Rattle.c_types.specs.Table.{Completed, IsOpen, Table, form_at, is_open_form, members_among, members_at, number_at, tags}
use Rattle.c_types.specs.Keeps.{completed_in}
use Rattle.c_types.proofs.Completing.{none_noted}
use Rattle.c_types.proofs.Defined.{AreOpen, defined_at, members_found, open_tagged}
use Rattle.c_types.proofs.Stays.{more}

last_form : (fs : List TypeForm) (f d : TypeForm) → get_or (fs ++ f ∷ []) (length fs) d ≡ f
last_form [] f d = refl
last_form (x ∷ fs) f d = last_form fs f d

none_among : (t : Table) (cs : List Completed) (id : ℕ) → AreOpen t cs → length t.forms ≤ id → members_among cs id ≡ None
none_among t [] id o l = refl
none_among t (c ∷ cs) id o l =
    let w = o.0 in
    let n : nat_eq id c.place ≡ false = grind (arith, nat_tests) in
    rw n (none_among t cs id o.2 l)

pub new_open : (t : Table) (f : TypeForm) (id : ℕ) → AreOpen t t.completed → id ≡ length t.forms → is_open_form f ≡ true → IsOpen (more t f) id
new_open t f id o e h =
    record {
      within = omega (arith, e, length-append t.forms (f ∷ []));
      form = ap is_open_form (ap (λ (j : ℕ). get_or (t.forms ++ f ∷ []) j form.Void) e ∙ last_form t.forms f form.Void) ∙ h;
      members = none_among t t.completed id o (omega (arith, e));
    }

-- what has no definition can be completed, and nothing else
pub open_test : (t : Table) (ds : List (ℕ × Definition)) (id : ℕ) → t.completed ≡ completed_in ds → id < length t.forms → is_open_form (form_at t id) ≡ true → (b : Bool) → b ≡ is_some (lookup (nat_eq id) ds) → IsTrue (not b) ↔ IsOpen t id
open_test t ds id e l f b d = (there b d, back b d)
  where
    members : members_at t id ≡ option_map (λ (x : Definition). x.members) (lookup (nat_eq id) ds)
    members = ap (λ (cs : List Completed). members_among cs id) e ∙ members_found ds id

    none : (o : Option Definition) → false ≡ is_some o → o ≡ None
    none None h = refl
    none (Some x) h = absurd (true≢false (sym h))

    there : (b : Bool) → b ≡ is_some (lookup (nat_eq id) ds) → IsTrue (not b) → IsOpen t id
    there true d h = absurd (true≢false (sym h))
    there false d h = record { within = l; form = f; members = members ∙ ap (option_map (λ (x : Definition). x.members)) (none (lookup (nat_eq id) ds) d) }

    back : (b : Bool) → b ≡ is_some (lookup (nat_eq id) ds) → IsOpen t id → IsTrue (not b)
    back false d o = refl
    back true d o = absurd (true≢false (d ∙ ap (λ (m : Option Definition). is_some m) (none_noted (lookup (nat_eq id) ds) (sym members ∙ o.members))))

some_mapped : {A B : Type 0} (f : A → B) (o : Option A) → is_some (option_map f o) ≡ is_some o
some_mapped f None = refl
some_mapped f (Some x) = refl

-- it can be completed where no definition has its number
pub open_number : (t : Table) (ds : List (ℕ × Definition)) (id : ℕ) → t.completed ≡ completed_in ds → AreOpen t t.completed → id < length t.forms → is_open_form (form_at t id) ≡ true → (b : Bool) → b ≡ is_some (lookup (nat_eq id) ds) → not b ≡ not (is_defined (tags t) (number_at t id))
open_number t ds id e o l f b d =
    let m : members_at t id ≡ option_map (λ (x : Definition). x.members) (lookup (nat_eq id) ds) = ap (λ (cs : List Completed). members_among cs id) e ∙ members_found ds id in
    let n : is_defined (tags t) (number_at t id) ≡ is_some (members_at t id) = defined_at t t.completed id o l (open_tagged (form_at t id) f) in
    ap not (d ∙ sym (some_mapped (λ (x : Definition). x.members) (lookup (nat_eq id) ds)) ∙ sym (ap (λ (x : Option (List Member)). is_some x) m) ∙ sym n)
