-- What lists of specifiers and of tokens keep in a loop.
use Rattle.std.proofs.Common.{◌≡◌, ◌≤◌, ◌<◌, ℕ, suc, length, Bool, true, false, Some, List, [], ◌∷◌, map, refl, ap, IsTrue, arith}
use Rattle.c_readings.specs.Reading.{State}
use Rattle.c_lexer.specs.declared.token.Token.{Token}
use Rattle.c_lexer.specs.PlacedTokens.{placed}
use Rattle.c_readings.specs.Readers.{some_specifiers}
use Rattle.c_ast.specs.declared.expr.Specifier.{Specifier}
use Rattle.c_ast.specs.Trees.{Specified}
use Rattle.c_ast.specs.Views.{specifier_list_of}
use Rattle.c_ast.specs.Seen.{specifier_seen}

-- a list that isn't empty, or is
pub filled : {A : Type 0} (xs : List A) (b : Bool) → b ≡ false → (xs ≡ [] → IsTrue b) → 1 ≤ length xs
filled [] b e h = let i : b ≡ true = h refl in absurd cc
filled (x ∷ xs) b e h = omega arith

pub emptied : {A : Type 0} (xs : List A) (b : Bool) → b ≡ true → (IsTrue b → xs ≡ []) → xs ≡ []
emptied xs b e h = h e

pub some_specified : (line : ℕ) (xs : List Specifier) (s : State) → 1 ≤ length xs → some_specifiers line (map specifier_seen xs) s ≡ Some (Specified line (specifier_list_of (map specifier_seen xs)), s)
some_specified line [] s h = absurd (omega (arith, h))
some_specified line (x ∷ xs) s h = refl

-- ---- tokens of a source

pub as_many : (source : List ℕ) (ts : List Token) → length (placed source ts) ≡ length ts
as_many source [] = refl
as_many source (t ∷ ts) = ap suc (as_many source ts)

pub fewer : (source : List ℕ) (ts us : List Token) → length ts < length us → length (placed source ts) < length (placed source us)
fewer source ts us h = omega (arith, h, as_many source ts, as_many source us)
