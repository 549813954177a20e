-- The function or the object that a symbol stands for is the unit's, and a symbol that is used stands for something.
use Rattle.std.proofs.Common.{◌≡◌, ℕ, zero, suc, ◌+◌, Bool, true, false, ◌||◌, List, [], ◌∷◌, refl, sym, ap, ◌∙◌, eqb-true}
use Rattle.std.specs.Prelude.{◌==◌, Option, Some, None, nat_le, slice_get, if◌then◌else◌}
use Rattle.c_meaning.specs.declared.core_expr.CoreKind.{CoreKind}
use Rattle.c_meaning.specs.Declarations.{Defined}
use Rattle.c_meaning.specs.Each.{EachIs}
use Rattle.c_meaning.specs.State.{State}
use Rattle.c_meaning.specs.Units.{FunctionTree, ObjectTree}
use Rattle.c_units.specs.Ends.{is_function_of, is_link, is_nothing_in, is_object_of, missing_from}
use Rattle.c_units.specs.Externals.{Parts}
use Rattle.c_units.specs.Functions.{DefinedFunction}
use Rattle.c_fits.proofs.lemmas.Lists.{some_id}
use Rattle.c_units.specs.Wholes.{function_from, object_from, whole_function, whole_functions, whole_object, whole_objects}
use Rattle.c_core_fits.proofs.lemmas.Lists.{first, later}

-- ---- by their symbols

-- an element behind so many others, with this symbol
abbrev pub FunctionAt : ℕ → List DefinedFunction → ℕ → ℕ → Type 0
FunctionAt k fs id n = (i : ℕ) × (n ≡ k + i) × ((f : DefinedFunction) × (slice_get fs i ≡ Some f) × (f.symbol ≡ id))

abbrev pub ObjectAt : ℕ → List Defined → ℕ → ℕ → Type 0
ObjectAt k os id n = (i : ℕ) × (n ≡ k + i) × ((o : Defined) × (slice_get os i ≡ Some o) × (o.symbol ≡ id))

pub function_found : (k : ℕ) (fs : List DefinedFunction) (id n : ℕ) → function_from k fs id ≡ Some n → FunctionAt k fs id n
function_found k [] id n h = absurd (let none : ⊥ = cc in none)
function_found k (f ∷ fs) id n h = by (f.symbol == id) refl h (function_found (suc k) fs id n)
  where
    by : (b : Bool) → (f.symbol == id) ≡ b → (if b then Some k else function_from (suc k) fs id) ≡ Some n → (function_from (suc k) fs id ≡ Some n → FunctionAt (suc k) fs id n) → FunctionAt k (f ∷ fs) id n
    by true e g r = (0, first k n (sym (some_id k n g)), (f, refl, eqb-true f.symbol id e))
    by false e g r = let a = r g in (suc a.0, a.1 ∙ later k a.0, a.2)

pub no_function : (k : ℕ) (fs : List DefinedFunction) (id : ℕ) → function_from k fs id ≡ None → is_function_of fs id ≡ false
no_function k [] id h = refl
no_function k (f ∷ fs) id h = by (f.symbol == id) h (no_function (suc k) fs id)
  where
    by : (b : Bool) → (if b then Some k else function_from (suc k) fs id) ≡ None → (function_from (suc k) fs id ≡ None → is_function_of fs id ≡ false) → (b || is_function_of fs id) ≡ false
    by true g r = absurd (let none : ⊥ = cc in none)
    by false g r = r g

pub object_found : (k : ℕ) (os : List Defined) (id n : ℕ) → object_from k os id ≡ Some n → ObjectAt k os id n
object_found k [] id n h = absurd (let none : ⊥ = cc in none)
object_found k (o ∷ os) id n h = by (o.symbol == id) refl h (object_found (suc k) os id n)
  where
    by : (b : Bool) → (o.symbol == id) ≡ b → (if b then Some k else object_from (suc k) os id) ≡ Some n → (object_from (suc k) os id ≡ Some n → ObjectAt (suc k) os id n) → ObjectAt k (o ∷ os) id n
    by true e g r = (0, first k n (sym (some_id k n g)), (o, refl, eqb-true o.symbol id e))
    by false e g r = let a = r g in (suc a.0, a.1 ∙ later k a.0, a.2)

pub no_object : (k : ℕ) (os : List Defined) (id : ℕ) → object_from k os id ≡ None → is_object_of os id ≡ false
no_object k [] id h = refl
no_object k (o ∷ os) id h = by (o.symbol == id) h (no_object (suc k) os id)
  where
    by : (b : Bool) → (if b then Some k else object_from (suc k) os id) ≡ None → (object_from (suc k) os id ≡ None → is_object_of os id ≡ false) → (b || is_object_of os id) ≡ false
    by true g r = absurd (let none : ⊥ = cc in none)
    by false g r = r g

-- ---- in the whole unit

pub whole_function_at : (meant : ℕ → CoreKind) (texts : List (List ℕ)) (fs : List DefinedFunction) (i : ℕ) (f : DefinedFunction) → slice_get fs i ≡ Some f
    → slice_get (whole_functions meant texts fs) i ≡ Some (whole_function meant texts f.function)
whole_function_at meant texts [] i f h = absurd (let none : ⊥ = cc in none)
whole_function_at meant texts (g ∷ fs) zero f h = ap (λ (o : Option DefinedFunction). made o) h
  where
    made : Option DefinedFunction → Option FunctionTree
    made None = None
    made (Some f) = Some (whole_function meant texts f.function)
whole_function_at meant texts (g ∷ fs) (suc i) f h = whole_function_at meant texts fs i f h

-- an object has its type there
pub whole_object_at : (s : State) (meant : ℕ → CoreKind) (texts : List (List ℕ)) (k : ℕ) (os : List Defined) (i : ℕ) (o : Defined) → slice_get os i ≡ Some o
    → (a : ObjectTree) × (slice_get (whole_objects s meant texts k os) i ≡ Some a) × (a.of ≡ o.object.of)
whole_object_at s meant texts k [] i o h = absurd (let none : ⊥ = cc in none)
whole_object_at s meant texts k (p ∷ os) zero o h =
    let e : p ≡ o = cc in
    (whole_object meant texts (is_link s.links p.symbol) k p.object, refl, ap (λ (o : Defined). o.object.of) e)
whole_object_at s meant texts k (p ∷ os) (suc i) o h = whole_object_at s meant texts (suc k) os i o h

-- ---- symbols that are used

abbrev pub IsKnown : State → Parts → ℕ × ℕ → Type 0
IsKnown s p x = is_nothing_in s p x.0 ≡ false

one_missing : (s : State) (p : Parts) (line : ℕ) (xs : List (ℕ × ℕ)) → missing_from s p (Some line) xs ≡ None → ⊥
one_missing s p line [] h = cc
one_missing s p line (x ∷ xs) h = by (is_nothing_in s p x.0) (nat_le line x.1) h (λ l k. one_missing s p l xs k)
  where
    by : (b c : Bool) → missing_from s p (if b then (if c then Some line else Some x.1) else Some line) xs ≡ None → ((l : ℕ) → missing_from s p (Some l) xs ≡ None → ⊥) → ⊥
    by true true g r = r line g
    by true false g r = r x.1 g
    by false c g r = r line g

pub none_missing : (s : State) (p : Parts) (xs : List (ℕ × ℕ)) → missing_from s p None xs ≡ None → EachIs (IsKnown s p) xs
none_missing s p [] h = tt
none_missing s p (x ∷ xs) h = by (is_nothing_in s p x.0) refl h (none_missing s p xs)
  where
    by : (b : Bool) → is_nothing_in s p x.0 ≡ b → missing_from s p (if b then Some x.1 else None) xs ≡ None → (missing_from s p None xs ≡ None → EachIs (IsKnown s p) xs) → EachIs (IsKnown s p) (x ∷ xs)
    by true e g r = absurd (one_missing s p x.1 xs g)
    by false e g r = (e, r g)
