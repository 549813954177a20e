-- Arguments at their places.
use Rattle.std.proofs.Common.{◌≡◌, ℕ, zero, suc, ◌+◌, List, [], ◌∷◌, drop, refl, ap, ◌∙◌, arith}
use Rattle.std.specs.Prelude.{Some, None, slice_get}
use Rattle.std.proofs.lemmas.List.{drop_more}
use Rattle.std.proofs.lemmas.Option.{get_or_from_slice_get, slice_get_past, slice_get_within}
use Rattle.c_runs.specs.Calls.{Argument}
use Rattle.c_entries.specs.declared.argument.Argument.{Argument as PassedArgument}
use Rattle.c_entries.specs.Arguments.{ArePassedAs, IsPassedAs}

-- the list from the place of an element on
pub drop_at : {A : Type 0} (xs : List A) (n : ℕ) (x : A) → slice_get xs n ≡ Some x → drop n xs ≡ x ∷ drop (n + 1) xs
drop_at {A} xs n x e = drop_more xs n x (slice_get_within xs n x e) ∙ ap (λ (y : A). y ∷ drop (n + 1) xs) (get_or_from_slice_get xs n x x e)

pub drop_past : {A : Type 0} (xs : List A) (n : ℕ) → slice_get xs n ≡ None → drop n xs ≡ []
drop_past [] zero e = refl
drop_past [] (suc n) e = refl
drop_past (y ∷ ys) zero e = absurd (cc)
drop_past (y ∷ ys) (suc n) e = drop_past ys n e

same : (q p : PassedArgument) (x : Argument) → q ≡ p → IsPassedAs q x → IsPassedAs p x
same q p x e h = rw (← e) h

-- what is passed at a place
pub passed_at : (ps : List PassedArgument) (xs : List Argument) (n : ℕ) (p : PassedArgument) → ArePassedAs ps xs → slice_get ps n ≡ Some p → (x : Argument) × ((slice_get xs n ≡ Some x) × IsPassedAs p x)
passed_at [] xs n p h e = absurd (cc)
passed_at (q ∷ ps) [] n p h e = absurd h
passed_at (q ∷ ps) (x ∷ xs) zero p h e = (x, (refl, same q p x (cc) h.0))
passed_at (q ∷ ps) (x ∷ xs) (suc n) p h e = passed_at ps xs n p h.1 e

pub passed_past : (ps : List PassedArgument) (xs : List Argument) (n : ℕ) → ArePassedAs ps xs → slice_get ps n ≡ None → slice_get xs n ≡ None
passed_past [] [] n h e = slice_get_past [] n (omega arith)
passed_past [] (x ∷ xs) n h e = absurd h
passed_past (q ∷ ps) [] n h e = absurd h
passed_past (q ∷ ps) (x ∷ xs) zero h e = absurd (cc)
passed_past (q ∷ ps) (x ∷ xs) (suc n) h e = passed_past ps xs n h.1 e
