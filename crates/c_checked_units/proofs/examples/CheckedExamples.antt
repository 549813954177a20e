-- Examples: checked expressions, functions and units, and such as no checked unit has.
use Rattle.std.proofs.Common.{◌^◌, ℕ, false, List, [], ◌∷◌, refl, arith, true≢false, sym}
use Rattle.std.specs.Prelude.{None, Some, codes}
use Rattle.c_types.specs.CType.{CType, Function, Int, Listed, NoType, Plain, Structure, basic}
use Rattle.c_meaning.specs.declared.built_in.BuiltIn.TheVariants.{Putchar}
use Rattle.c_meaning.specs.declared.core_expr.CoreKind.TheVariants as kind
use Rattle.c_meaning.specs.CoreTrees.{Core, none, one}
use Rattle.c_meaning.specs.StmtTrees.{Break, Label, Nothing, Return, StmtOf, Switch, While}
use Rattle.c_meaning.specs.Types.{pointer_to}
use Rattle.c_meaning.specs.Units.{FunctionTree, IsFunction, IsUnit, UnitTree}
use Rattle.c_meaning.specs.Values.{CoreTree}
use Rattle.c_checked_units.specs.Checked.{HasOwnCopies, HasOwnJumps, IsCheckedUnit, IsCheckedExpr, IsCheckedFunction, IsOwnCopy, NamesBuiltIns}

abbrev int : CType
int = basic Int

abbrev number : ℕ → CoreTree
number n = Core (kind.Number n) int 1 none

-- a function without parameters, of this name and with this body
abbrev named : List ℕ → StmtOf CType → FunctionTree
named name body = record { name = name; of = Plain 0 (Function int (Listed NoType false)); parameters = 0; locals = []; body = body }

abbrev main : StmtOf CType → FunctionTree
main body = named (codes "main") body

abbrev unit : List FunctionTree → UnitTree
unit fs = record { functions = fs; objects = []; texts = []; tags = []; main = 0 }

-- ---- jumps

-- while (1) break;
leaves : HasOwnJumps (main (While (number 1) Break))
leaves = record { cases = tt; labelled = tt; jumps = refl }

-- break;
leaves_nothing : HasOwnJumps (main Break) → ⊥
leaves_nothing h = true≢false (sym h.jumps)

-- a case whose number is no word
wide_case : HasOwnJumps (main (Switch (number 1) (record { number = 2 ^ 32; label = 0 } ∷ []) None Nothing)) → ⊥
wide_case h = let l = h.cases.0.0 in omega (arith, l)

-- switch (1) { case 7: ; }
own_case : HasOwnJumps (main (Switch (number 1) (record { number = 7; label = 0 } ∷ []) None (Label 0 Nothing)))
own_case = record { cases = ((omega arith, tt), tt); labelled = (omega arith, tt); jumps = tt }

-- a case that stands nowhere
no_case : HasOwnJumps (main (Switch (number 1) (record { number = 7; label = 0 } ∷ []) None Nothing)) → ⊥
no_case h = let l = h.labelled.0 in omega (arith, l)

-- ---- built-in functions

abbrev putchar : CoreTree
putchar = Core kind.Address (pointer_to (Plain 0 (Function int (Listed NoType false)))) 1 (one (Core (kind.BuiltIn Putchar) (Plain 0 (Function int (Listed NoType false))) 1 none))

names : NamesBuiltIns (unit (main (Return None) ∷ [])) putchar
names = (tt, ((refl, tt), tt))

-- in a unit that defines it
names_own : NamesBuiltIns (unit (main (Return None) ∷ named (codes "putchar") (Return None) ∷ [])) putchar → ⊥
names_own h = let e = h.1.0.0 in cc

-- ---- copies

abbrev pair : CType
pair = Plain 0 (Structure 0)

-- int f(struct pair a), with room for one copy
abbrev copying : FunctionTree
copying = record { name = codes "f"; of = Plain 0 (Function int (Listed NoType false)); parameters = 1; locals = pair ∷ pair ∷ []; body = Return None }

copies : IsOwnCopy copying (record { place = 1; of = pair })
copies = record { local = refl; behind = omega arith }

copies_none : HasOwnCopies copying (number 1)
copies_none = tt

-- its parameter is no copy
copies_parameter : IsOwnCopy copying (record { place = 0; of = pair }) → ⊥
copies_parameter h = let l = h.behind in omega (arith, l)

-- ---- all together

-- int main(void) { return n; }
abbrev returns : ℕ → UnitTree
returns n = unit (main (Return (Some (number n))) ∷ [])

expression : IsCheckedExpr (returns 3) (main (Return (Some (number 3)))) (number 3)
expression = record { fits = (tt, (refl, refl)); tame = (omega arith, tt); moves = (tt, tt); names = (tt, tt); copies = tt }

wide : (f : FunctionTree) → IsCheckedExpr (returns 3) f (number (2 ^ 32)) → ⊥
wide f h = let l = h.tame.0 in omega (arith, l)

is_function : IsFunction (returns 3) (main (Return (Some (number 3))))
is_function =
    record {
      type = refl;
      result = refl;
      listed = (refl, refl);
      parameters = tt;
      locals = tt;
      blocks = refl;
      all = refl;
      copies = refl;
      once = refl;
      low = tt;
      body = (((tt, (refl, refl)), refl), (refl, refl));
      words = (omega arith, tt);
    }

function : IsCheckedFunction (returns 3) (main (Return (Some (number 3))))
function = record { fits = is_function; sizes = tt; own = record { cases = tt; labelled = tt; jumps = tt }; expressions = expression }

is_unit : IsUnit (returns 3)
is_unit = record { functions = (is_function, tt); objects = tt; names = refl; texts = refl; bytes = tt; main = (main (Return (Some (number 3))), refl, refl); few = omega arith }

checked : IsCheckedUnit (returns 3)
checked = record { unit = is_unit; tame = record { functions = ((omega arith, tt), tt); objects = tt; texts = tt }; functions = (function, tt); objects = tt }

unchecked_function : IsCheckedFunction (returns (2 ^ 32)) (main (Return (Some (number (2 ^ 32))))) → ⊥
unchecked_function h = let l = h.expressions.tame.0 in omega (arith, l)

unchecked : IsCheckedUnit (returns (2 ^ 32)) → ⊥
unchecked h = unchecked_function h.functions.0
