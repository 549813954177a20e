-- The first place of a symbol among objects tells the type of the first object that it names.
use Rattle.std.proofs.Common.{◌≡◌, ℕ, suc, ◌+◌, Bool, true, false, List, [], ◌∷◌, refl, sym, ap, ◌∙◌, subst, arith}
use Rattle.std.specs.Prelude.{◌==◌, Option, Some, None, slice_get, if◌then◌else◌}
use Rattle.c_check_decl.specs.declared.declares.DefinedObject.{DefinedObject}
use Rattle.c_standings.specs.declared.Standing.{Standing}
use Rattle.c_standings.specs.declared.Standing.TheVariants as standing
use Rattle.c_unit_ends.specs.Over.{first_type, place_of, symbols_of}
use Rattle.c_unit_ends.specs.Standing.{objects_from}

-- what places that are counted from this one on tell
abbrev IsFirst : ℕ → List DefinedObject → ℕ → ℕ → Option Standing → Type 0
IsFirst k os id of (Some (standing.Object n)) = (m : ℕ) × ((n ≡ k + m) × ((o : DefinedObject) × ((slice_get os m ≡ Some o) × (first_type os id of ≡ o.object.of))))
IsFirst k os id of (Some (standing.Function n)) = ⊥
IsFirst k os id of (Some (standing.BuiltIn b)) = ⊥
IsFirst k os id of None = first_type os id of ≡ of

later : (k : ℕ) (o : DefinedObject) (os : List DefinedObject) (id of : ℕ) (x : Option Standing) → (o.symbol == id) ≡ false → IsFirst (suc k) os id of x → IsFirst k (o ∷ os) id of x
later k o os id of (Some (standing.Object n)) e h = (suc h.0, (let p : n ≡ suc k + h.0 = h.1.0 in omega arith, (h.1.1.0, (h.1.1.1.0, ap (λ (b : Bool). if b then o.object.of else first_type os id of) e ∙ h.1.1.1.1))))
later k o os id of (Some (standing.Function n)) e h = h
later k o os id of (Some (standing.BuiltIn b)) e h = h
later k o os id of None e h = ap (λ (b : Bool). if b then o.object.of else first_type os id of) e ∙ h

first_from : (k : ℕ) (os : List DefinedObject) (id of : ℕ) → IsFirst k os id of (objects_from k (symbols_of os) id)
first_from k [] id of = refl
first_from k (o ∷ os) id of = by (first_from (suc k) os id of) (o.symbol == id) refl
  where
    by : IsFirst (suc k) os id of (objects_from (suc k) (symbols_of os) id) → (b : Bool) → (o.symbol == id) ≡ b → IsFirst k (o ∷ os) id of (if b then Some (standing.Object k) else objects_from (suc k) (symbols_of os) id)
    by next true e = (0, (omega arith, (o, (refl, ap (λ (b : Bool). if b then o.object.of else first_type os id of) e))))
    by next false e = later k o os id of (objects_from (suc k) (symbols_of os) id) e next

as_place : (x : Option Standing) (n : ℕ) → Some n ≡ place_of x → x ≡ Some (standing.Object n)
as_place (Some (standing.Object m)) n e = let f : n ≡ m = cc in ap (λ (k : ℕ). Some (standing.Object k)) (sym f)
as_place (Some (standing.Function m)) n e = absurd (cc)
as_place (Some (standing.BuiltIn b)) n e = absurd (cc)
as_place None n e = absurd (cc)

no_place : (k : ℕ) (os : List DefinedObject) (id of : ℕ) (x : Option Standing) → IsFirst k os id of x → None ≡ place_of x → of ≡ first_type os id of
no_place k os id of (Some (standing.Object m)) h e = absurd (cc)
no_place k os id of (Some (standing.Function m)) h e = absurd h
no_place k os id of (Some (standing.BuiltIn b)) h e = absurd h
no_place k os id of None h e = sym h

module _ (os : List DefinedObject) (id of : ℕ) (x : Option Standing) (e : x ≡ objects_from 0 (symbols_of os) id) where
  told : IsFirst 0 os id of x
  told = subst (IsFirst 0 os id of) (sym e) (first_from 0 os id of)

  pub type_of_none : None ≡ place_of x → of ≡ first_type os id of
  type_of_none f = no_place 0 os id of x told f

  pub type_of_object : (n : ℕ) → Some n ≡ place_of x → (o : DefinedObject) → slice_get os n ≡ Some o → o.object.of ≡ first_type os id of
  type_of_object n f o g =
      let h = subst (IsFirst 0 os id of) (as_place x n f) told in
      let p : n ≡ h.0 = omega (arith, h.1.0) in
      let q : Some o ≡ Some h.1.1.0 = sym g ∙ ap (slice_get os) p ∙ h.1.1.1.0 in
      let r : o ≡ h.1.1.0 = cc in
      ap (λ (y : DefinedObject). y.object.of) r ∙ sym h.1.1.1.1

  pub no_object : (n : ℕ) → Some n ≡ place_of x → slice_get os n ≡ None → of ≡ first_type os id of
  no_object n f g =
      let h = subst (IsFirst 0 os id of) (as_place x n f) told in
      let p : n ≡ h.0 = omega (arith, h.1.0) in
      let q : None ≡ Some h.1.1.0 = sym g ∙ ap (slice_get os) p ∙ h.1.1.1.0 in
      absurd (cc)
