-- Examples of statements that break a constraint, each with the nearest that breaks none beside it.
use Rattle.std.specs.Prelude.{◌≡◌, refl, ℕ, codes, Option, Some, None, List, [], ◌∷◌}
use Rattle.c_ast.specs.declared.operator.PrefixOperator.TheVariants as prefix
use Rattle.c_ast.specs.Trees.{ExprTree, Name, Call, NoExprs, Prefix, StatementTree, Label, Case, Default, Expression, If, Switch, While, Do, Goto, Continue, Break, Return, NoExpr, AnExpr, NoParameters}
use Rattle.c_meaning.specs.Constants.{fold}
use Rattle.c_meaning.specs.Constraints.{Fault, Breaks, fault_at}
use Rattle.c_meaning.specs.Declarations.{decl_fault}
use Rattle.c_meaning.specs.Initialising.{init_fault}
use Rattle.c_meaning.specs.DeclarationSamples.{of_int, name, of}
use Rattle.c_units.specs.Statements.{stmt_fault}
use Rattle.c_units.specs.Definitions.{definition_fault, parameter_fault}
use Rattle.c_units.specs.Ends.{unit_fault}
use Rattle.c_units.specs.UnitSamples.{number, void, function, main, fault}

abbrev empty : ℕ → StatementTree
empty line = Expression line NoExpr

-- `int main() { int x; ..`, the statement on line 2 or behind it
abbrev in_main : List StatementTree → Option Fault
in_main ss = fault (function 1 (of_int ∷ []) (codes "main") (NoParameters 1) [] (of (of_int ∷ []) (name (codes "x"))) ss ∷ [])

-- behind `void f() ..`
abbrev in_void : List StatementTree → Option Fault
in_void ss = fault (function 1 (void ∷ []) (codes "f") (NoParameters 1) [] [] ss ∷ main 9 [] ∷ [])

abbrev behind_void : List StatementTree → Option Fault
behind_void ss = fault (function 1 (void ∷ []) (codes "f") (NoParameters 1) [] [] [] ∷ main 2 ss ∷ [])

abbrev x : ExprTree
x = Name 2 (codes "x")

abbrev of_f : ExprTree
of_f = Call 2 (Name 2 (codes "f")) NoExprs

-- ---- 46 and 47: tests

-- if (f()) ;
void_test : behind_void (If 2 of_f (empty 2) ∷ []) ≡ Some (Breaks 46 2)
unfolding fold fault_at init_fault decl_fault stmt_fault definition_fault parameter_fault unit_fault
void_test = refl

-- if (x) ;
scalar_test : in_main (If 2 x (empty 2) ∷ []) ≡ None
unfolding fold fault_at init_fault decl_fault stmt_fault definition_fault parameter_fault unit_fault
scalar_test = refl

-- switch (&x) ;
pointer_switch : in_main (Switch 2 (Prefix 2 prefix.Address x) (empty 2) ∷ []) ≡ Some (Breaks 47 2)
unfolding fold fault_at init_fault decl_fault stmt_fault definition_fault parameter_fault unit_fault
pointer_switch = refl

-- while (&x) ;
pointer_test : in_main (While 2 (Prefix 2 prefix.Address x) (empty 2) ∷ []) ≡ None
unfolding fold fault_at init_fault decl_fault stmt_fault definition_fault parameter_fault unit_fault
pointer_test = refl

-- ---- 48: cases

-- switch (x) { case 1: case 2: ; }
two_cases : in_main (Switch 2 x (Case 3 (number 1) (Case 4 (number 2) (empty 4))) ∷ []) ≡ None
unfolding fold fault_at init_fault decl_fault stmt_fault definition_fault parameter_fault unit_fault
two_cases = refl

-- switch (x) { case 1: case 1: ; }, of which the second in the text breaks it
equal_cases : in_main (Switch 2 x (Case 3 (number 1) (Case 4 (number 1) (empty 4))) ∷ []) ≡ Some (Breaks 48 4)
unfolding fold fault_at init_fault decl_fault stmt_fault definition_fault parameter_fault unit_fault
equal_cases = refl

-- case x:, and behind it case 0:
variable_case : in_main (Switch 2 x (Case 3 x (Case 4 (number 0) (empty 4))) ∷ []) ≡ Some (Breaks 48 3)
unfolding fold fault_at init_fault decl_fault stmt_fault definition_fault parameter_fault unit_fault
variable_case = refl

-- a switch in a case has cases of its own
inner_switch : in_main (Switch 2 x (Case 3 (number 1) (Switch 4 x (Case 5 (number 1) (empty 5)))) ∷ []) ≡ None
unfolding fold fault_at init_fault decl_fault stmt_fault definition_fault parameter_fault unit_fault
inner_switch = refl

-- default: default: ;
two_defaults : in_main (Switch 2 x (Default 3 (Default 4 (empty 4))) ∷ []) ≡ Some (Breaks 48 4)
unfolding fold fault_at init_fault decl_fault stmt_fault definition_fault parameter_fault unit_fault
two_defaults = refl

-- ---- 49: what stands in no switch or loop

-- case 1: case 1: ;
case_outside : in_main (Case 2 (number 1) (Case 3 (number 1) (empty 3)) ∷ []) ≡ Some (Breaks 49 3)
unfolding fold fault_at init_fault decl_fault stmt_fault definition_fault parameter_fault unit_fault
case_outside = refl

-- break;
break_outside : in_main (Break 2 ∷ []) ≡ Some (Breaks 49 2)
unfolding fold fault_at init_fault decl_fault stmt_fault definition_fault parameter_fault unit_fault
break_outside = refl

-- switch (x) break;
break_in_a_switch : in_main (Switch 2 x (Break 2) ∷ []) ≡ None
unfolding fold fault_at init_fault decl_fault stmt_fault definition_fault parameter_fault unit_fault
break_in_a_switch = refl

-- switch (x) continue;
continue_in_a_switch : in_main (Switch 2 x (Continue 2) ∷ []) ≡ Some (Breaks 49 2)
unfolding fold fault_at init_fault decl_fault stmt_fault definition_fault parameter_fault unit_fault
continue_in_a_switch = refl

-- do switch (x) continue; while (x);
continue_in_a_loop : in_main (Do 2 (Switch 2 x (Continue 2)) x ∷ []) ≡ None
unfolding fold fault_at init_fault decl_fault stmt_fault definition_fault parameter_fault unit_fault
continue_in_a_loop = refl

-- ---- 50: labels

-- l: l: ;
label_twice : in_main (Label 2 (codes "l") (Label 3 (codes "l") (empty 3)) ∷ []) ≡ Some (Breaks 50 3)
unfolding fold fault_at init_fault decl_fault stmt_fault definition_fault parameter_fault unit_fault
label_twice = refl

-- goto l; is told at the function's definition
goto_nowhere : in_main (Goto 2 (codes "l") ∷ []) ≡ Some (Breaks 50 1)
unfolding fold fault_at init_fault decl_fault stmt_fault definition_fault parameter_fault unit_fault
goto_nowhere = refl

-- goto l; l: ;
goto_forwards : in_main (Goto 2 (codes "l") ∷ Label 3 (codes "l") (empty 3) ∷ []) ≡ None
unfolding fold fault_at init_fault decl_fault stmt_fault definition_fault parameter_fault unit_fault
goto_forwards = refl

-- ---- 51: returns

-- return 1; in a void function
value_of_void : in_void (Return 2 (AnExpr (number 1)) ∷ []) ≡ Some (Breaks 51 2)
unfolding fold fault_at init_fault decl_fault stmt_fault definition_fault parameter_fault unit_fault
value_of_void = refl

-- return;
nothing_of_void : in_void (Return 2 NoExpr ∷ []) ≡ None
unfolding fold fault_at init_fault decl_fault stmt_fault definition_fault parameter_fault unit_fault
nothing_of_void = refl

-- return &x; where int is given
unfit_value : in_main (Return 2 (AnExpr (Prefix 2 prefix.Address x)) ∷ []) ≡ Some (Breaks 51 2)
unfolding fold fault_at init_fault decl_fault stmt_fault definition_fault parameter_fault unit_fault
unfit_value = refl

-- return f(); where f gives nothing: 46 goes first
void_value : behind_void (Return 2 (AnExpr of_f) ∷ []) ≡ Some (Breaks 46 2)
unfolding fold fault_at init_fault decl_fault stmt_fault definition_fault parameter_fault unit_fault
void_value = refl
