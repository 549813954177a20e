-- The function named main of a whole unit is main, where one is and names differ.
use Rattle.std.proofs.Common.{◌≡◌, ℕ, suc, ◌+◌, Bool, true, false, not, ◌||◌, List, [], ◌∷◌, ◌++◌, map, refl, sym, ◌∙◌}
use Rattle.std.specs.Prelude.{Some, codes, slice_get, if◌then◌else◌}
use Rattle.std.specs.Str.{bytes_eq}
use Rattle.std.proofs.lemmas.Slice.Eq.{bytes_eq-Decides}
use Rattle.c_meaning.specs.declared.core_expr.CoreKind.{CoreKind}
use Rattle.c_meaning.specs.Units.{FunctionTree, are_different, is_main, is_same_among}
use Rattle.c_units.specs.Ends.{has_main}
use Rattle.c_units.specs.Functions.{DefinedFunction}
use Rattle.c_units.specs.Wholes.{main_from, whole_function, whole_functions}
use Rattle.c_fits.proofs.lemmas.Booleans.{and_left, and_right, never, not_true}
use Rattle.c_core_fits.proofs.lemmas.Lists.{first, later}

module _ (meant : ℕ → CoreKind) (texts : List (List ℕ)) (more : List (List ℕ)) where
  abbrev names_from : List DefinedFunction → List (List ℕ)
  names_from fs = map (λ (f : FunctionTree). f.name) (whole_functions meant texts fs) ++ more

  -- the name of a main stands among those that hold one
  main_named : (name : List ℕ) (fs : List DefinedFunction) → bytes_eq name (codes "main") ≡ true → has_main fs ≡ true → is_same_among name (names_from fs) ≡ true
  main_named name [] e h = never (sym h)
  main_named name (f ∷ fs) e h = by (is_main f.function) refl h (main_named name fs e)
    where
      same : (b : Bool) → is_main f.function ≡ true → bytes_eq name f.function.name ≡ b → (b || is_same_among name (names_from fs)) ≡ true
      same true k g = refl
      same false k g =
          let m = (bytes_eq-Decides f.function.name (codes "main")).0 (and_left (bytes_eq f.function.name (codes "main")) _ k) in
          let n = (bytes_eq-Decides name (codes "main")).0 e in
          never (sym ((bytes_eq-Decides name f.function.name).1 (n ∙ sym m)) ∙ g)

      other : (b : Bool) → is_same_among name (names_from fs) ≡ true → (b || is_same_among name (names_from fs)) ≡ true
      other true k = refl
      other false k = k

      by : (b : Bool) → is_main f.function ≡ b → (b || has_main fs) ≡ true → (has_main fs ≡ true → is_same_among name (names_from fs) ≡ true) → is_same_among name (names_from (f ∷ fs)) ≡ true
      by true k g r = same (bytes_eq name f.function.name) k refl
      by false k g r = other (bytes_eq name f.function.name) (r g)

  -- a function behind so many others that is main
  abbrev pub MainAt : ℕ → List DefinedFunction → ℕ → Type 0
  MainAt k fs n = (i : ℕ) × (n ≡ k + i) × ((f : FunctionTree) × (slice_get (whole_functions meant texts fs) i ≡ Some f) × (is_main f ≡ true))

  pub main_found : (k : ℕ) (fs : List DefinedFunction) → are_different (names_from fs) ≡ true → has_main fs ≡ true → MainAt k fs (main_from k fs)
  main_found k [] d h = never (sym h)
  main_found k (f ∷ fs) d h = by (bytes_eq f.function.name (codes "main")) refl (is_main f.function) refl h (main_found (suc k) fs rest)
    where
      among : is_same_among f.function.name (names_from fs) ≡ false
      among = not_true (is_same_among f.function.name (names_from fs)) (and_left (not (is_same_among f.function.name (names_from fs))) (are_different (names_from fs)) d)

      rest : are_different (names_from fs) ≡ true
      rest = and_right (not (is_same_among f.function.name (names_from fs))) (are_different (names_from fs)) d

      by : (b : Bool) → bytes_eq f.function.name (codes "main") ≡ b → (c : Bool) → is_main f.function ≡ c → (c || has_main fs) ≡ true → (has_main fs ≡ true → MainAt (suc k) fs (main_from (suc k) fs)) → MainAt k (f ∷ fs) (if b then k else main_from (suc k) fs)
      by true e true g h r = (0, first k k refl, (whole_function meant texts f.function, refl, g))
      by true e false g h r = never (sym (main_named f.function.name fs e h) ∙ among)
      by false e true g h r = never (sym (and_left (bytes_eq f.function.name (codes "main")) _ g) ∙ e)
      by false e false g h r = let a = r h in (suc a.0, a.1 ∙ later k a.0, a.2)
