-- Examples of units that are typed, and of such that break a constraint where the nearest that doesn't stands beside it.
use Rattle.std.specs.Prelude.{◌≡◌, refl, codes, Some, [], ◌∷◌}
use Rattle.c_types.specs.CType.{Plain, Function, Open, Int, basic}
use Rattle.c_meaning.specs.StmtTrees.{Stmts, NoStmt}
use Rattle.c_meaning.specs.StmtTrees as code
use Rattle.c_meaning.specs.declared.core_expr.CoreKind.TheVariants as kind
use Rattle.c_meaning.specs.CoreTrees.{Core, none}
use Rattle.c_meaning.specs.Constants.{fold}
use Rattle.c_meaning.specs.Constraints.{fault_at}
use Rattle.c_meaning.specs.Declarations.{decl_fault}
use Rattle.c_meaning.specs.Initialising.{init_fault}
use Rattle.c_units.specs.Statements.{stmt_fault}
use Rattle.c_units.specs.Definitions.{definition_fault, parameter_fault}
use Rattle.c_units.specs.Ends.{unit_fault}
use Rattle.c_units.specs.UnitSamples.{main, return_, whole}

-- ---- a unit

-- int main() { return 0; }
smallest : whole (main 1 (return_ 0 ∷ []) ∷ []) ≡ Some (record {
  functions =
      record {
        name = codes "main";
        of = Plain 0 (Function (basic Int) Open);
        parameters = 0;
        locals = [];
        body = code.Block 0 0 (Stmts (code.Return (Some (Core (kind.Number 0) (basic Int) 1 none))) NoStmt);
      }
      ∷ [];
  objects = [];
  texts = [];
  tags = [];
  main = 0;
})
unfolding fold fault_at init_fault decl_fault stmt_fault definition_fault parameter_fault unit_fault
smallest = refl
