-- The labels of a small function, and what isn't marked once.
use Rattle.std.specs.Prelude.{◌≡◌, refl, ℕ, codes, [], ◌∷◌, ◌<◌, false}
use Rattle.std.proofs.Common.{arith}
use Rattle.lcc_base.specs.declared.order.Order.TheVariants.{Little}
use Rattle.c_types.specs.CType.{Plain, Int, Function, Open, basic}
use Rattle.c_meaning.specs.declared.core_expr.CoreKind.TheVariants as kind
use Rattle.c_meaning.specs.CoreTrees.{Core, none}
use Rattle.c_meaning.specs.StmtTrees as stmt
use Rattle.c_meaning.specs.Units.{FunctionTree, UnitTree}
use Rattle.c_meaning.specs.Values.{CoreTree}
use Rattle.piece_runs.specs.Pieces.{Mark}
use Rattle.lowered_forms.specs.Lows.{Low}
use Rattle.lowered_blocks.specs.Known.{IsKnown}
use Rattle.lowered_statements.specs.FunctionBodies.{function_in, low_f}
use Rattle.lowered_labels.specs.Marks.{marks_of, times, marked_times, used_times, Marks}
use Rattle.lowered_labels.specs.Used.{GoesWithin}
use Rattle.lowered_labels.proofs.lemmas.FunctionMarks.{functions_mark}
use Rattle.lowered_labels.proofs.lemmas.KnownStatements.{functions_are_known}

-- ---- int main() { 4: while (1) goto 4; }

abbrev one : CoreTree
one = Core (kind.Number 1) (basic Int) 1 none

abbrev main : FunctionTree
main = record { name = codes "main"; of = Plain 0 (Function (basic Int) Open); parameters = 0; locals = []; body = stmt.Label 4 (stmt.While one (stmt.Goto 4)) }

abbrev unit : UnitTree
unit = record { functions = main ∷ []; objects = []; texts = []; tags = []; main = 0 }

-- the program's label is the first, and the loop's follow
main_marks : marks_of (low_f unit Little 0 1 main).low.pieces ≡ 0 ∷ 1 ∷ 2 ∷ 3 ∷ []
main_marks = refl

main_labels : (low_f unit Little 0 1 main).low.labels ≡ 4
main_labels = refl

each_once : (n : ℕ) → marked_times n (low_f unit Little 0 1 main).low ≡ used_times n (low_f unit Little 0 1 main).low
each_once = functions_mark unit Little 0 1 main refl

-- ---- a label that is used, and marked twice

abbrev begun : Low
begun = record { pieces = []; entries = []; slots = []; labels = 0 }

abbrev twice : Low
twice = record { pieces = Mark 0 ∷ Mark 0 ∷ []; entries = []; slots = []; labels = 1 }

counts : times 0 (0 ∷ 3 ∷ 0 ∷ []) ≡ 2
counts = refl

not_twice : Marks [] begun twice → ⊥
not_twice h = let e : 2 ≡ 1 = h.counts 0 in let never : ⊥ = omega (arith, e) in never

-- ---- jumps that stay in the function, and one that doesn't

main_is_known : IsKnown (low_f unit Little 0 1 main).low
main_is_known = functions_are_known unit Little 0 1 main (omega arith, omega arith)

not_within : GoesWithin (function_in unit Little 0 1 main) false false (stmt.Goto 5) → ⊥
not_within h = let e : 1 < 1 = h in let never : ⊥ = omega (arith, e) in never

not_in_a_loop : GoesWithin (function_in unit Little 0 1 main) false false stmt.Break → ⊥
not_in_a_loop h = let never : ⊥ = cc in never
