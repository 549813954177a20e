-- What a function's statements are lowered in: where its expressions stand, its locals' types, what it gives, the labels of its body, and
-- where its tables begin among the unit's names.
-- Source: Fraser and Hanson, A Retargetable C Compiler, chapters 10 and 11 (labels of statements, functions).
use Rattle.std.specs.Prelude.{ℕ, suc, ◌==◌, Bool, Option, Some, None, List, [], ◌∷◌, map, if◌then◌else◌}
use Rattle.c_types.specs.CType.{CType}
use Rattle.c_meaning.specs.declared.core_stmt.CoreCase.{CoreCase}
use Rattle.lowered_forms.specs.Contexts.{Context}

-- the labels in the order in which they stand in the body; and whether a return without a value gives 0, as main's does
pub record Function : Type 0 where
  pub context : Context
  pub locals : List CType
  pub result : CType
  pub gives_zero : Bool
  pub labels : List ℕ
  pub tables : ℕ

-- where `break` and `continue` go
pub record Exits : Type 0 where
  pub breaks : ℕ
  pub continues : ℕ

-- ---- labels: the program's have the first numbers, in the order in which they stand

abbrev pub place_in : ℕ → List ℕ → ℕ
place_in n [] = 0
place_in n (m ∷ ms) = if n == m then 0 else suc (place_in n ms)

abbrev pub label_at : Function → ℕ → ℕ
label_at f n = place_in n f.labels

abbrev pub placed_case : Function → CoreCase → CoreCase
placed_case f c = record { number = c.number; label = label_at f c.label }

abbrev pub placed_cases : Function → List CoreCase → List CoreCase
placed_cases f cases = map (placed_case f) cases

-- of a label that may be left away
abbrev pub label_or : Function → ℕ → Option ℕ → ℕ
label_or f end None = end
label_or f end (Some n) = label_at f n
