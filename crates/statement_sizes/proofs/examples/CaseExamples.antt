-- A switch with two cases, in a loop.
use Rattle.std.specs.Prelude.{◌≡◌, refl, ℕ, None, [], ◌∷◌}
use Rattle.c_types.specs.CType.{Int, basic}
use Rattle.c_meaning.specs.declared.core_stmt.CoreCase.{CoreCase}
use Rattle.c_meaning.specs.declared.core_expr.CoreKind.TheVariants as kind
use Rattle.c_meaning.specs.CoreTrees.{Core, none}
use Rattle.c_meaning.specs.StmtTrees as stmt
use Rattle.c_meaning.specs.Values.{CoreTree}
use Rattle.lowered_statements.specs.Statements.{StmtTree}
use Rattle.statement_sizes.specs.Cases.{case_count}

abbrev one : CoreTree
one = Core (kind.Number 1) (basic Int) 1 none

abbrev case_of : ℕ → ℕ → CoreCase
case_of number label = record { number = number; label = label }

abbrev looped : StmtTree
looped = stmt.While one (stmt.Switch one (case_of 0 0 ∷ case_of 7 1 ∷ []) None (stmt.Label 0 (stmt.Label 1 stmt.Break)))

looped_cases : case_count looped ≡ 2
looped_cases = refl
