-- Tables of small switches. The default's label is 9.
use Rattle.std.proofs.Common.{◌≡◌, ℕ, true, false, List, [], ◌∷◌, refl, arith}
use Rattle.c_meaning.specs.declared.core_stmt.CoreCase.{CoreCase}
use Rattle.c_meaning.specs.Units.{are_apart, numbers}
use Rattle.switch_tables.specs.declared.table.Table.{Table}
use Rattle.switch_tables.specs.Cases.{AreWords}
use Rattle.switch_tables.specs.Order.{rising, IsRising}
use Rattle.switch_tables.specs.Tables.{tables_of}
use Rattle.switch_tables.specs.Laws.{IsHalfFull, IsGreedy, IsTable, AreLabels}
use Rattle.switch_tables.proofs.lemmas.TableParts.{are_tables}

abbrev pub case : ℕ → ℕ → CoreCase
case number label = record { number = number; label = label }

abbrev pub table : ℕ → List ℕ → Table
table low labels = record { low = low; labels = labels }

-- four of six numbers are cases: one table, whose holes lead to the default
dense : tables_of true 9 (case 3 13 ∷ case 1 11 ∷ case 6 16 ∷ case 2 12 ∷ []) ≡ table 1 (11 ∷ 12 ∷ 13 ∷ 9 ∷ 9 ∷ 16 ∷ []) ∷ []
dense = refl

-- a table and a test
mixed : tables_of true 9 (case 30 3 ∷ case 1 1 ∷ case 2 2 ∷ []) ≡ table 1 (1 ∷ 2 ∷ []) ∷ table 30 (3 ∷ []) ∷ []
mixed = refl

-- tests alone
sparse : tables_of false 9 (case 20 2 ∷ case 10 1 ∷ case 30 3 ∷ []) ≡ table 10 (1 ∷ []) ∷ table 20 (2 ∷ []) ∷ table 30 (3 ∷ []) ∷ []
sparse = refl

-- two of four numbers are half, two of five are less
half : tables_of true 9 (case 4 4 ∷ case 1 1 ∷ []) ≡ table 1 (1 ∷ 9 ∷ 9 ∷ 4 ∷ []) ∷ []
half = refl

less_than_half : tables_of true 9 (case 5 5 ∷ case 1 1 ∷ []) ≡ table 1 (1 ∷ []) ∷ table 5 (5 ∷ []) ∷ []
less_than_half = refl

-- 5 begins a table, though 6 and 7 would fill that of 1 by half again
greedy : tables_of true 9 (case 1 1 ∷ case 5 5 ∷ case 6 6 ∷ case 7 7 ∷ []) ≡ table 1 (1 ∷ []) ∷ table 5 (5 ∷ 6 ∷ 7 ∷ []) ∷ []
greedy = refl

-- -1, 1 and 2^31 - 1 in their order as signed numbers, and as unsigned ones
abbrev some : List CoreCase
some = case 4294967295 1 ∷ case 1 2 ∷ case 2147483647 3 ∷ []

as_signed : tables_of true 9 some ≡ table 4294967295 (1 ∷ 9 ∷ 2 ∷ []) ∷ table 2147483647 (3 ∷ []) ∷ []
as_signed = refl

as_unsigned : tables_of false 9 some ≡ table 1 (2 ∷ []) ∷ table 2147483647 (3 ∷ []) ∷ table 4294967295 (1 ∷ []) ∷ []
as_unsigned = refl

none : tables_of true 9 [] ≡ []
none = refl

-- what the laws ask of cases
apart : are_apart (numbers some) ≡ true
apart = refl

not_apart : are_apart (numbers (case 1 1 ∷ case 1 2 ∷ [])) ≡ false
not_apart = refl

words : AreWords some
words = (omega arith, (omega arith, (omega arith, tt)))

no_words : AreWords (case 4294967296 1 ∷ []) → ⊥
no_words h = absurd (omega (arith, h.0))

rises : IsRising true (rising true some)
rises = ((omega arith, (omega arith, tt)), ((omega arith, tt), (tt, tt)))

falls : IsRising false (rising true some) → ⊥
falls h = absurd (omega (arith, h.0.0))

full : IsHalfFull (case 1 1 ∷ case 4 4 ∷ [])
full = omega arith

not_full : IsHalfFull (case 1 1 ∷ case 5 5 ∷ []) → ⊥
not_full h = absurd (omega (arith, h))

greedy_cut : IsGreedy ((case 1 1 ∷ case 2 2 ∷ []) ∷ (case 30 3 ∷ []) ∷ [])
greedy_cut = ((refl, tt), (refl, (tt, (tt, tt))))

-- 2 joins 1
cut_too_often : IsGreedy ((case 1 1 ∷ []) ∷ (case 2 2 ∷ []) ∷ []) → ⊥
cut_too_often h = let e : true ≡ false = h.1.0 in cc

-- 5 doesn't join 1
cut_too_late : IsGreedy ((case 1 1 ∷ case 5 5 ∷ []) ∷ []) → ⊥
cut_too_late h = let e : false ≡ true = h.0.0 in cc

has_labels : IsTable true (table 4294967295 (1 ∷ 9 ∷ 2 ∷ []))
has_labels = (are_tables true some 9 words apart).0

has_none : IsTable true (table 1 []) → ⊥
has_none h = absurd (omega (arith, h.some))

known : AreLabels (1 ∷ 9 ∷ []) (table 1 (1 ∷ 9 ∷ []))
known = (refl, (refl, tt))

unknown : AreLabels (1 ∷ []) (table 1 (1 ∷ 9 ∷ [])) → ⊥
unknown h = let e : false ≡ true = h.1.0 in cc
