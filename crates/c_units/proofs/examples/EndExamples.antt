-- Examples of what is told at a unit's end, each with the nearest unit that breaks nothing beside it.
use Rattle.std.specs.Prelude.{◌≡◌, true, false, refl, ℕ, codes, Option, Some, None, [], ◌∷◌, ◌++◌}
use Rattle.c_ast.specs.declared.specifier.Storage.TheVariants as class
use Rattle.c_ast.specs.declared.operator.BinaryOperator.TheVariants as binary
use Rattle.c_ast.specs.Trees.{Name, Binary, ByExpr, Expression, AnExpr, SizeofExpr, NoParameters}
use Rattle.c_meaning.specs.Constants.{fold}
use Rattle.c_meaning.specs.Constraints.{Fault, Breaks, fault_at}
use Rattle.c_meaning.specs.Declarations.{decl_fault}
use Rattle.c_meaning.specs.Initialising.{init_fault}
use Rattle.c_meaning.specs.DeclarationSamples.{of_int, with_class, name, array, open_array, of, is, k, pointer}
use Rattle.c_units.specs.Statements.{stmt_fault}
use Rattle.c_units.specs.Definitions.{definition_fault, parameter_fault}
use Rattle.c_meaning.specs.declared.built_in.BuiltIn.TheVariants as built_in
use Rattle.c_types.specs.CType.{NoType, And, Char, Int, Void, basic}
use Rattle.c_units.specs.Ends.{fits_built_in, function_type, unit_fault}
use Rattle.c_units.specs.UnitSamples.{number, void, function, with_body, main, call, use_of, declares, fault}

-- ---- 16: tentative definitions

-- static int k[];
internal_open_array : fault (declares 1 (of (with_class class.Static) (open_array k)) ++ main 2 [] ∷ []) ≡ Some (Breaks 16 1)
unfolding fold fault_at init_fault decl_fault stmt_fault definition_fault parameter_fault unit_fault
internal_open_array = refl

-- int k[]; which has one element
external_open_array : fault (declares 1 (of (of_int ∷ []) (open_array k)) ++ main 2 [] ∷ []) ≡ None
unfolding fold fault_at init_fault decl_fault stmt_fault definition_fault parameter_fault unit_fault
external_open_array = refl

-- ---- 24: an address past the end

-- extern int k[]; int *p = k + 3; int k[n];
abbrev past : ℕ → Option Fault
past size =
    fault
    (declares 1 (of (with_class class.Extern) (open_array k))
    ++ declares 2 (is (of_int ∷ []) (pointer (codes "p")) (ByExpr 2 (Binary 2 binary.Add (Name 2 k) (number 3))))
    ++ declares 3 (of (of_int ∷ []) (array k size))
    ++ main 4 [] ∷ [])

past_the_end : past 2 ≡ Some (Breaks 24 2)
unfolding fold fault_at init_fault decl_fault stmt_fault definition_fault parameter_fault unit_fault
past_the_end = refl

at_the_end : past 3 ≡ None
unfolding fold fault_at init_fault decl_fault stmt_fault definition_fault parameter_fault unit_fault
at_the_end = refl

-- ---- 52

-- int f() {}
no_main : fault (with_body 1 (codes "f") [] ∷ []) ≡ Some (Breaks 52 1)
unfolding fold fault_at init_fault decl_fault stmt_fault definition_fault parameter_fault unit_fault
no_main = refl

-- void main() {}
void_main : fault (function 3 (void ∷ []) (codes "main") (NoParameters 3) [] [] [] ∷ []) ≡ Some (Breaks 52 1)
unfolding fold fault_at init_fault decl_fault stmt_fault definition_fault parameter_fault unit_fault
void_main = refl

-- extern int k; used, and in sizeof alone
undefined_name : fault (declares 1 (of (with_class class.Extern) (name k)) ++ main 2 (use_of 3 k ∷ []) ∷ []) ≡ Some (Breaks 52 3)
unfolding fold fault_at init_fault decl_fault stmt_fault definition_fault parameter_fault unit_fault
undefined_name = refl

unused_name : fault (declares 1 (of (with_class class.Extern) (name k)) ++ main 2 (Expression 3 (AnExpr (SizeofExpr 3 (Name 3 k))) ∷ []) ∷ []) ≡ None
unfolding fold fault_at init_fault decl_fault stmt_fault definition_fault parameter_fault unit_fault
unused_name = refl

-- a call of a name that nothing declares or defines, and of a built-in one
undefined_function : fault (main 2 (call 3 (codes "f") ∷ []) ∷ []) ≡ Some (Breaks 52 3)
unfolding fold fault_at init_fault decl_fault stmt_fault definition_fault parameter_fault unit_fault
undefined_function = refl

built_in_function : fault (main 2 (call 3 (codes "getchar") ∷ []) ∷ []) ≡ None
unfolding fold fault_at init_fault decl_fault stmt_fault definition_fault parameter_fault unit_fault
built_in_function = refl

-- exit gives nothing, and may be declared as giving an int, also by a call
exit_undeclared : fault (main 2 (call 3 (codes "exit") ∷ []) ∷ []) ≡ None
unfolding fold fault_at init_fault decl_fault stmt_fault definition_fault parameter_fault unit_fault
exit_undeclared = refl

exit_fits : fits_built_in (Some built_in.Exit) (function_type (basic Void) (And (basic Int) NoType)) ≡ true
exit_fits = refl

exit_with_int : fits_built_in (Some built_in.Exit) (function_type (basic Int) (And (basic Int) NoType)) ≡ true
exit_with_int = refl

exit_with_char : fits_built_in (Some built_in.Exit) (function_type (basic Char) (And (basic Int) NoType)) ≡ false
exit_with_char = refl

putchar_of_nothing : fits_built_in (Some built_in.Putchar) (function_type (basic Void) (And (basic Int) NoType)) ≡ false
putchar_of_nothing = refl

-- int putchar[2]; as another object, which the unit defines; and as one that it doesn't
built_in_name_defined : fault (declares 1 (of (of_int ∷ []) (array (codes "putchar") 2)) ++ main 2 [] ∷ []) ≡ None
unfolding fold fault_at init_fault decl_fault stmt_fault definition_fault parameter_fault unit_fault
built_in_name_defined = refl

built_in_name_otherwise : fault (declares 1 (of (with_class class.Extern) (array (codes "putchar") 2)) ++ main 2 [] ∷ []) ≡ Some (Breaks 52 1)
unfolding fold fault_at init_fault decl_fault stmt_fault definition_fault parameter_fault unit_fault
built_in_name_otherwise = refl
