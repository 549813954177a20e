-- Examples: a unit whose numbers have 32 bits, and one with a number that has more.
use Rattle.std.proofs.Common.{◌^◌, ℕ, false, [], ◌∷◌, arith}
use Rattle.std.specs.Prelude.{Some, codes}
use Rattle.c_types.specs.CType.{Int, Function, Listed, NoType, Plain, basic}
use Rattle.c_meaning.specs.declared.core_expr.CoreKind.TheVariants as kind
use Rattle.c_meaning.specs.CoreTrees.{Core, none}
use Rattle.c_meaning.specs.StmtTrees.{Return}
use Rattle.c_meaning.specs.Units.{FunctionTree, UnitTree}
use Rattle.c_core_fits.specs.Counted.{IsCounted}

-- int main(void) { return n; }
abbrev main : ℕ → FunctionTree
main n =
    record {
      name = codes "main";
      of = Plain 0 (Function (basic Int) (Listed NoType false));
      parameters = 0;
      locals = [];
      body = Return (Some (Core (kind.Number n) (basic Int) 1 none));
    }

abbrev unit : ℕ → UnitTree
unit n = record { functions = main n ∷ []; objects = []; texts = codes "ab" ∷ []; tags = []; main = 0 }

counted : IsCounted (unit 3)
counted = record { functions = ((omega arith, tt), tt); objects = tt; bytes = ((omega arith, (omega arith, tt)), tt); few = omega arith }

not_counted : IsCounted (unit (2 ^ 32)) → ⊥
not_counted h = let l = h.functions.0.0 in omega (arith, l)

-- a text that isn't of bytes
abbrev wide : UnitTree
wide = record { functions = main 3 ∷ []; objects = []; texts = (256 ∷ []) ∷ []; tags = []; main = 0 }

not_bytes : IsCounted wide → ⊥
not_bytes h = let l = h.bytes.0.0 in omega (arith, l)
