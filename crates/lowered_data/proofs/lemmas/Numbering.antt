-- Names that are numbered stand for what they number.
use Rattle.std.specs.Prelude.{◌≡◌, ◌≤◌, ◌<◌, ℕ, zero, suc, ◌+◌, ◌-◌, ◌==◌, nat_lt, not, Bool, true, false, IsSome, is_some, Option, Some, None, List, [], ◌∷◌, length, find, position, slice_get, if◌then◌else◌}
use Rattle.std.specs.List.{prefix_len}
use Rattle.std.proofs.Common.{refl, ap, cond, ◌∙◌, arith, ⊎_elim}
use Rattle.std.proofs.lemmas.Bool.{eq-eqb, eqb-true}
use Rattle.std.proofs.lemmas.Bool.Decides.{nat_tests}
use Rattle.std.proofs.lemmas.Option.{slice_get_past, slice_get_within}
use Rattle.objects.specs.declared.value.Value.TheVariants.{Function}
use Rattle.op_forest.specs.Callees.{BuiltIn}
use Rattle.op_forest.specs.declared.lowered.LoweredFunction.{LoweredFunction}
use Rattle.op_forest.specs.declared.lowered.LoweredObject.{LoweredObject}
use Rattle.op_forest.specs.Lowered.{LoweredUnit}
use Rattle.op_forest.specs.Units.{function_of, object_place, built_in_named}
use Rattle.forests.specs.Units.{value_by, value_of}
use Rattle.c_meaning.specs.declared.built_in.BuiltIn.{BuiltIn as Old}
use Rattle.c_meaning.specs.Units.{UnitTree}
use Rattle.c_runs.specs.Calls.{built_in_at, built_ins, first_built_in, function_at}
use Rattle.lowered_data.specs.Laws.{NamesStand}
use Rattle.lowered_data.specs.Numbering.{AreNumbered}

-- ---- first places

pub differs : (m n : ℕ) → (m ≡ n → ⊥) → (m == n) ≡ false
differs m n h = by (m == n) refl
  where
    by : (b : Bool) → (m == n) ≡ b → (m == n) ≡ false
    by true e = absurd (h (eqb-true m n e))
    by false e = e

found : {A : Type 0} (p : A → Bool) (xs : List A) (n : ℕ) (x : A) → slice_get xs n ≡ Some x → p x ≡ true → ((k : ℕ) (y : A) → k < n → slice_get xs k ≡ Some y → p y ≡ false) → find p xs ≡ Some x
found p [] n x e t h = absurd (let never : ⊥ = cc in never)
found {A} p (y ∷ ys) zero x e t h =
    let same : y ≡ x = cc in
    let yes : p y ≡ true = ap p same ∙ t in
    ap (λ (b : Bool). cond b (Some y) (find p ys)) yes ∙ ap (λ (z : A). Some z) same
found p (y ∷ ys) (suc n) x e t h =
    ap (λ (b : Bool). cond b (Some y) (find p ys)) (h zero y (omega arith) refl)
    ∙ found p ys n x e t (λ k z l f. h (suc k) z (omega (arith, l)) f)

none_found : {A : Type 0} (p : A → Bool) (xs : List A) → ((k : ℕ) (y : A) → slice_get xs k ≡ Some y → p y ≡ false) → find p xs ≡ None
none_found p [] h = refl
none_found p (y ∷ ys) h = ap (λ (b : Bool). cond b (Some y) (find p ys)) (h zero y refl) ∙ none_found p ys (λ k z f. h (suc k) z f)

first_at : {A : Type 0} (p : A → Bool) (xs : List A) (n : ℕ) (x : A) → slice_get xs n ≡ Some x → p x ≡ true → ((k : ℕ) (y : A) → k < n → slice_get xs k ≡ Some y → p y ≡ false) → prefix_len (λ z. not (p z)) xs ≡ n
first_at p [] n x e t h = absurd (let never : ⊥ = cc in never)
first_at p (y ∷ ys) zero x e t h =
    let same : y ≡ x = cc in
    let yes : p y ≡ true = ap p same ∙ t in
    ap (λ (b : Bool). cond (not b) (1 + prefix_len (λ z. not (p z)) ys) 0) yes
first_at p (y ∷ ys) (suc n) x e t h =
    ap (λ (b : Bool). cond (not b) (1 + prefix_len (λ z. not (p z)) ys) 0) (h zero y (omega arith) refl)
    ∙ (let r = first_at p ys n x e t (λ k z l f. h (suc k) z (omega (arith, l)) f) in omega (arith, r))

none_at : {A : Type 0} (p : A → Bool) (xs : List A) → ((k : ℕ) (y : A) → slice_get xs k ≡ Some y → p y ≡ false) → prefix_len (λ z. not (p z)) xs ≡ length xs
none_at p [] h = refl
none_at p (y ∷ ys) h = ap (λ (b : Bool). cond (not b) (1 + prefix_len (λ z. not (p z)) ys) 0) (h zero y refl) ∙ (let r = none_at p ys (λ k z f. h (suc k) z f) in omega (arith, r))

below : (m n : ℕ) → m < n → nat_lt m n ≡ true
below m n h = search (nat_tests, arith)

not_below : (n : ℕ) → nat_lt n n ≡ false
not_below n = search (nat_tests, arith)

pub placed : {A : Type 0} (p : A → Bool) (xs : List A) (n : ℕ) (x : A) → slice_get xs n ≡ Some x → p x ≡ true → ((k : ℕ) (y : A) → k < n → slice_get xs k ≡ Some y → p y ≡ false) → position p xs ≡ Some n
placed p xs n x e t h =
    let at = first_at p xs n x e t h in
    ap (λ (m : ℕ). cond (nat_lt m (length xs)) (Some m) None) at ∙ ap (λ (b : Bool). cond b (Some n) None) (below n (length xs) (slice_get_within xs n x e))

none_placed : {A : Type 0} (p : A → Bool) (xs : List A) → ((k : ℕ) (y : A) → slice_get xs k ≡ Some y → p y ≡ false) → position p xs ≡ None
none_placed p xs h =
    ap (λ (m : ℕ). cond (nat_lt m (length xs)) (Some m) None) (none_at p xs h) ∙ ap (λ (b : Bool). cond b (Some (length xs)) None) (not_below (length xs))

one_there : {A : Type 0} (xs : List A) (n : ℕ) → n < length xs → (x : A) × (slice_get xs n ≡ Some x)
one_there [] n h = absurd (let never : ⊥ = omega arith in never)
one_there (x ∷ xs) zero h = (x, refl)
one_there (x ∷ xs) (suc n) h = one_there xs n (omega (arith, h))

-- ---- functions

pub function_there : (u : UnitTree) (l : LoweredUnit) → AreNumbered u l → (f : ℕ) (g : LoweredFunction) → slice_get l.functions f ≡ Some g → function_of l f ≡ Some g
function_there u l a f g h =
    found (λ x. x.name == f) l.functions f g h (eq-eqb g.name f (a.functions f g h))
    (λ k y less e. differs y.name f (λ same. let own = a.functions k y e in let never : ⊥ = omega (arith, own, same, less) in never))

pub no_function : (u : UnitTree) (l : LoweredUnit) → AreNumbered u l → (f : ℕ) → length u.functions ≤ f → function_of l f ≡ None
no_function u l a f h = none_found (λ x. x.name == f) l.functions (λ k y e. differs y.name f (λ same.
    let own = a.functions k y e in let less = slice_get_within l.functions k y e in let many = a.many in let never : ⊥ = omega (arith, own, same, less, many, h) in never))

pub no_object : (u : UnitTree) (l : LoweredUnit) → AreNumbered u l → (f : ℕ) → first_built_in u ≤ f → f < first_built_in u + length (built_ins u) → object_place l f ≡ None
no_object u l a f h i = none_placed (λ x. x.name == f) l.objects (λ k y e. differs y.name f (λ same. by k y e same (nat_lt k (length u.objects + length u.texts)) refl))
  where
    by : (k : ℕ) (y : LoweredObject) → slice_get l.objects k ≡ Some y → y.name ≡ f → (b : Bool) → nat_lt k (length u.objects + length u.texts) ≡ b → ⊥
    by k y e same true t =
        let less : k < length u.objects + length u.texts = search (nat_tests, arith) in
        let own = a.objects k y e less in omega (arith, own, same, less, h)
    by k y e same false t =
        let more : length u.objects + length u.texts ≤ k = search (nat_tests, arith) in
        let own = a.tables k y e more in omega (arith, own, same, i)

value_there : (l : LoweredUnit) (f : ℕ) (g : LoweredFunction) → function_of l f ≡ Some g → value_of l f ≡ Some (Function f)
value_there l f g e = ap (λ o. value_by l f o (object_place l f) (built_in_named l f)) e

value_built : (l : LoweredUnit) (f : ℕ) → function_of l f ≡ None → object_place l f ≡ None → IsSome (built_in_named l f) → value_of l f ≡ Some (Function f)
value_built l f e p b =
    ap (λ o. value_by l f o (object_place l f) (built_in_named l f)) e
    ∙ ap (λ o. value_by l f None o (built_in_named l f)) p
    ∙ by (built_in_named l f) b
  where
    by : (o : Option BuiltIn) → IsSome o → value_by l f None None o ≡ Some (Function f)
    by (Some x) h = refl
    by None h = absurd (let never : ⊥ = cc in never)

pub built_in_range : (u : UnitTree) (f : ℕ) → IsSome (built_in_at u f) → (first_built_in u ≤ f) × (f < first_built_in u + length (built_ins u))
built_in_range u f h = by (nat_lt f (first_built_in u)) refl h
  where
    some_in : (o : Option Old) → IsSome o → (x : Old) × (o ≡ Some x)
    some_in (Some x) i = (x, refl)
    some_in None i = absurd (let never : ⊥ = cc in never)

    by : (b : Bool) → nat_lt f (first_built_in u) ≡ b → IsSome (if b then None else slice_get (built_ins u) (f - first_built_in u)) → (first_built_in u ≤ f) × (f < first_built_in u + length (built_ins u))
    by true t i = absurd (let never : ⊥ = cc in never)
    by false t i =
        let x = some_in (slice_get (built_ins u) (f - first_built_in u)) i in
        let less = slice_get_within (built_ins u) (f - first_built_in u) x.0 x.1 in
        let more : first_built_in u ≤ f = search (nat_tests, arith) in
        (more, omega (arith, less, more))

-- ---- all of them

pub numbers_stand : (u : UnitTree) (l : LoweredUnit) → AreNumbered u l → NamesStand u (length u.objects + length u.texts) l
numbers_stand u l a = record {
  functions = λ f h. ⊎_elim (λ i. own f i) (λ i. built f i) h;
  objects = λ place h.
      let enough = a.enough in
      let o = one_there l.objects place (omega (arith, h, enough)) in
      let name : ℕ = length u.functions + place in
      let p = placed (λ x. x.name == name) l.objects place o.0 o.1 (eq-eqb o.0.name name (a.objects place o.0 o.1 h))
      (λ k y less e. differs y.name name (λ same. let other = a.objects k y e (omega (arith, less, h)) in let never : ⊥ = omega (arith, other, same, less) in never)) in
      ap (λ q. value_by l name q (object_place l name) (built_in_named l name)) (no_function u l a name (omega arith))
      ∙ ap (λ q. value_by l name None q (built_in_named l name)) p;
}
  where
    within : (f : ℕ) → IsSome (function_at u f) → f < length u.functions
    within f i = by (nat_lt f (length u.functions)) refl
      where
        by : (b : Bool) → nat_lt f (length u.functions) ≡ b → f < length u.functions
        by true t = search (nat_tests, arith)
        by false t =
            let more : length u.functions ≤ f = search (nat_tests, arith) in
            let none = slice_get_past u.functions f more in
            let some : is_some (function_at u f) ≡ true = i in
            absurd (let e = ap (λ o. is_some o) none in let never : ⊥ = cc in never)

    own : (f : ℕ) → IsSome (function_at u f) → value_of l f ≡ Some (Function f)
    own f i =
        let many = a.many in
        let less = within f i in
        let g = one_there l.functions f (omega (arith, less, many)) in
        value_there l f g.0 (function_there u l a f g.0 g.1)

    built : (f : ℕ) → IsSome (built_in_at u f) → value_of l f ≡ Some (Function f)
    built f i =
        let r = built_in_range u f i in
        let more = r.0 in
        value_built l f (no_function u l a f (omega (arith, more))) (no_object u l a f r.0 r.1) (a.built_ins f i)
