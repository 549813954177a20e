-- A constant comes to an operand at once and uses its own mark; it doesn't use the next one.
use Rattle.std.specs.Prelude.{◌≡◌, Bool, true, pos, Some, List, [], ◌∷◌}
use Rattle.std.proofs.Common.{refl}
use Rattle.op_forest.specs.declared.op.Op.TheVariants.{Cnst}
use Rattle.op_forest.specs.declared.suffix.Suffix.TheVariants.{I}
use Rattle.op_forest.specs.declared.sym.Sym.TheVariants.{Nothing}
use Rattle.c_types.specs.CType.{Int, basic}
use Rattle.c_meaning.specs.declared.core_expr.CoreKind.TheVariants as kind
use Rattle.c_meaning.specs.CoreTrees.{Core, none}
use Rattle.c_meaning.specs.Values.{CoreTree}
use Rattle.lowered_forms.specs.Contexts.{Context}
use Rattle.lowered_forms.specs.Expressions.{low_e}
use Rattle.lowered_forms.specs.Lows.{Low}
use Rattle.lowering_steps.specs.declared.operand.Operand.{Operand}
use Rattle.lowering_steps.specs.declared.operand.Source.TheVariants.{Leaf}
use Rattle.lowering_steps.specs.declared.state.State.{State}
use Rattle.lowering_steps.specs.States.{Shows}
use Rattle.c_lower_expr.specs.Lowering.{LowersTo}
use Rattle.c_lower_expr.specs.Marks.{marks}

abbrev one : CoreTree
one = Core (kind.Number 1) (basic Int) 1 none

abbrev one_operand : Operand
one_operand = record { source = Leaf (record { operator = record { op = Cnst; suffix = I }; sym = Nothing; value = Some (pos 1) }); suffix = I }

one_lowers : (c : Context) (s : State) (ms : List Bool) → LowersTo (λ l. low_e c one l) (marks one) s (true ∷ ms) one_operand s ms
one_lowers c s ms = record { is = λ l rest h e. (record { low = l; is = refl; shows = h }, cc) }

-- where its mark is left
one_left : (c : Context) (s : State) (l : Low) → Shows s l → LowersTo (λ l1. low_e c one l1) (marks one) s (true ∷ []) one_operand s (true ∷ []) → ⊥
one_left c s l h f = let x = f.is l [] h refl in let e : true ∷ [] ≡ [] = x.1 in cc
