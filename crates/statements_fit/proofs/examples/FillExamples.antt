-- A string of four characters lies in an object of six bytes from the third one on, and not in one of five; a number from the fourth byte on. A
-- table begins at a number of 32 bits.
use Rattle.std.specs.Prelude.{ℕ, ◌<◌, ◌≤◌, ◌+◌, ◌^◌, Some, [], ◌∷◌}
use Rattle.std.proofs.Common.{arith}
use Rattle.c_types.specs.CType.{CType, Array, Char, Int, basic}
use Rattle.switch_tables.specs.Searches.{Search, Nowhere, At}
use Rattle.statements_fit.specs.Statements.{FillsWithin, HasWords}

abbrev text : CType
text = Array (basic Char) (Some 4)

string : FillsWithin [] 6 2 text
string = omega arith

too_long : FillsWithin [] 5 2 text → ⊥
too_long h = let e : 2 + 4 ≤ 5 = h in omega (arith, e)

number : FillsWithin [] 6 3 (basic Int)
number = omega arith

behind : FillsWithin [] 6 6 (basic Int) → ⊥
behind h = let e : 6 < 6 = h in omega (arith, e)

abbrev one : ℕ → Search
one low = At (record { low = low; labels = 7 ∷ [] }) Nowhere Nowhere

last_word : HasWords (one 4294967295)
last_word = (omega arith, tt, tt)

no_word : HasWords (one 4294967296) → ⊥
no_word h = let e : 4294967296 < 2 ^ 32 = h.0 in omega (arith, e)
