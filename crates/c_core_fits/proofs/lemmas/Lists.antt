-- What holds of the elements of joined lists, and elements of joined lists by their places.
use Rattle.std.proofs.Common.{◌≡◌, ℕ, zero, suc, ◌+◌, List, [], ◌∷◌, ◌++◌, subst, arith}
use Rattle.std.specs.Prelude.{Some, slice_get}
use Rattle.c_meaning.specs.Each.{EachIs}

pub each_left : {A : Type 0} (P : A → Type 0) (xs ys : List A) → EachIs P (xs ++ ys) → EachIs P xs
each_left P [] ys h = tt
each_left P (x ∷ xs) ys h = (h.0, each_left P xs ys h.1)

pub each_right : {A : Type 0} (P : A → Type 0) (xs ys : List A) → EachIs P (xs ++ ys) → EachIs P ys
each_right P [] ys h = h
each_right P (x ∷ xs) ys h = each_right P xs ys h.1

pub each_as : {A : Type 0} (P Q : A → Type 0) (xs : List A) → ((x : A) → P x → Q x) → EachIs P xs → EachIs Q xs
each_as P Q [] f h = tt
each_as P Q (x ∷ xs) f h = (f x h.0, each_as P Q xs f h.1)

-- an element stays where it is with more behind it
pub get_before : {A : Type 0} (xs ys : List A) (i : ℕ) (a : A) → slice_get xs i ≡ Some a → slice_get (xs ++ ys) i ≡ Some a
get_before [] ys i a h = absurd (let none : ⊥ = cc in none)
get_before (x ∷ xs) ys zero a h = h
get_before (x ∷ xs) ys (suc i) a h = get_before xs ys i a h

same_element : {A : Type 0} (x a : A) → Some x ≡ Some a → x ≡ a
same_element x a e = cc

pub each_at : {A : Type 0} (P : A → Type 0) (xs : List A) (i : ℕ) (a : A) → EachIs P xs → slice_get xs i ≡ Some a → P a
each_at P [] i a h e = absurd (let none : ⊥ = cc in none)
each_at P (x ∷ xs) zero a h e = subst P (same_element x a e) h.0
each_at P (x ∷ xs) (suc i) a h e = each_at P xs i a h.1 e

-- ---- places of elements behind so many others

pub first : (k n : ℕ) → n ≡ k → n ≡ k + 0
first k n e = omega (arith, e)

pub later : (k i : ℕ) → suc k + i ≡ k + suc i
later k i = omega arith
