-- int main(void) { return 0; }: its lowered unit, which is its lowering as the agreement asks; and a unit without the function.
use Rattle.std.specs.Prelude.{◌≡◌, pos, codes, false, Some, None, [], ◌∷◌}
use Rattle.std.proofs.Common.{refl, inl, arith}
use Rattle.lcc_base.specs.declared.order.Order.TheVariants.{Little}
use Rattle.op_forest.specs.declared.lowered.LoweredFunction.{LoweredFunction}
use Rattle.op_forest.specs.declared.op.Op.TheVariants as op
use Rattle.op_forest.specs.declared.suffix.Suffix.TheVariants.{I}
use Rattle.op_forest.specs.declared.sym.Sym.TheVariants as sym
use Rattle.op_forest.specs.Callees.{Provided}
use Rattle.op_forest.specs.Callees as callee
use Rattle.op_forest.specs.Lowered.{LoweredUnit}
use Rattle.op_forest.specs.Nodes.{Node, Leaf, One}
use Rattle.op_forest.specs.Units.{callee_of}
use Rattle.c_types.specs.CType.{CType, Plain, Function, Int, Listed, NoType, basic}
use Rattle.c_meaning.specs.declared.built_in.BuiltIn.TheVariants.{Getchar}
use Rattle.c_meaning.specs.declared.core_expr.CoreKind.TheVariants as kind
use Rattle.c_meaning.specs.CoreTrees.{Core, none}
use Rattle.c_meaning.specs.StmtTrees as stmt
use Rattle.c_meaning.specs.Units.{FunctionTree, UnitTree, IsFunction, IsUnit}
use Rattle.c_meaning.specs.Values.{CoreTree}
use Rattle.c_rows_agree.specs.Typed.{head, head_with}
use Rattle.c_runs.specs.Worlds.{World}
use Rattle.lowering_limits.specs.Limits.{IsWithin}
use Rattle.lowered_data.specs.Initial.{IsInitialData}
use Rattle.lowered_units.specs.LoweredUnits.{IsLoweredUnit}
use Rattle.c_checked_units.specs.Checked.{IsCheckedExpr, IsCheckedFunction, IsCheckedUnit}
use Rattle.c_entries_agree.specs.Lowered.{IsLoweringOf}
use Rattle.c_functions_agree.specs.Laws.{IsFairFunction}
use Rattle.lowered_units_agree.specs.Laws.{BlocksAreSplit}
use Rattle.lowered_units_agree.proofs.lemmas.Fair.{functions_fair}
use Rattle.lowered_units_agree.proofs.lemmas.Lowerings.{units_lowered}
use Rattle.lowered_units_agree.proofs.lemmas.Providing.{built_ins_provided}

abbrev int : CType
int = basic Int

abbrev zero : CoreTree
zero = Core (kind.Number 0) int 1 none

abbrev main : FunctionTree
main = record { name = codes "main"; of = Plain 0 (Function int (Listed NoType false)); parameters = 0; locals = []; body = stmt.Return (Some zero) }

abbrev unit : UnitTree
unit = record { functions = main ∷ []; objects = []; texts = []; tags = []; main = 0 }

-- ---- it is checked

expression : IsCheckedExpr unit main zero
expression = record { fits = (tt, (refl, refl)); tame = (omega arith, tt); moves = (tt, tt); names = (tt, tt); copies = tt }

is_function : IsFunction unit main
is_function = record {
  type = refl;
  result = refl;
  listed = (refl, refl);
  parameters = tt;
  locals = tt;
  blocks = refl;
  all = refl;
  copies = refl;
  once = refl;
  low = tt;
  body = (((tt, (refl, refl)), refl), (refl, refl));
  words = (omega arith, tt);
}

function : IsCheckedFunction unit main
function = record { fits = is_function; sizes = tt; own = record { cases = tt; labelled = tt; jumps = tt }; expressions = expression }

is_unit : IsUnit unit
is_unit = record { functions = (is_function, tt); objects = tt; names = refl; texts = refl; bytes = tt; main = (main, refl, refl); few = omega arith }

checked : IsCheckedUnit unit
checked = record { unit = is_unit; tame = record { functions = ((omega arith, tt), tt); objects = tt; texts = tt }; functions = (function, tt); objects = tt }

within : IsWithin unit
within = record { frames = (omega arith, tt); bytes = omega arith; nodes = (omega arith, tt) }

-- ---- it is lowered: the value, and the end, at which main gives 0

abbrev given : Node
given = One (head op.Ret I) (Leaf (head_with op.Cnst I sym.Nothing (Some (pos 0))))

abbrev main_lowered : LoweredFunction
main_lowered = record { name = 0; words = 0; forest = record { roots = given ∷ given ∷ []; frame = [] } }

abbrev lowered : LoweredUnit
lowered = record { functions = main_lowered ∷ []; objects = []; names = codes "main" ∷ codes "putchar" ∷ codes "getchar" ∷ codes "exit" ∷ []; order = Little }

abbrev start : World
start = record { storage = record { objects = []; made = 0 }; locals = []; input = []; trace = [] }

starts_empty : IsInitialData unit Little []
starts_empty = record {
  world = start;
  starts = λ calls input k. refl;
  sound = record { own = omega arith; others = []; live = refl; objects = tt; locals = tt; input = tt; trace = tt };
  made = refl;
  texts = λ n text e. absurd (let never : ⊥ = cc in never);
  live = refl;
  many = refl;
  homes = tt;
}

is_lowered : IsLoweredUnit unit Little lowered
is_lowered = record {
  functions = (record { name = refl; words = refl; slots = refl; roots = λ order home. refl }, tt);
  own = [];
  holds = starts_empty;
  objects = refl;
  names = record { own = codes "main" ∷ []; each = (inl ((refl, (refl, (refl, (refl, (refl, tt))))), refl), tt); is = refl };
  order_is = refl;
}

-- ---- as the agreement asks

is_lowering : BlocksAreSplit → IsLoweringOf unit lowered
is_lowering split = units_lowered split unit Little lowered checked within is_lowered

main_is_fair : IsFairFunction unit main
main_is_fair = (functions_fair unit checked).0

getchar_is_provided : callee_of lowered 2 ≡ Provided callee.Getchar
getchar_is_provided = built_ins_provided unit Little lowered is_lowered 2 Getchar refl

-- ---- the function is wanting

abbrev nothing : LoweredUnit
nothing = record { functions = []; objects = []; names = lowered.names; order = Little }

no_lowering : IsLoweringOf unit nothing → ⊥
no_lowering h = let f = h.functions 0 main refl in let e : None ≡ Some f.function = f.named in cc
