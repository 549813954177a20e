-- Statements whose parts are typed: their nodes, and the constraints on these.
-- Source: C89 3.6, in the profile of this compiler.
use Rattle.std.specs.Prelude.{ℕ, ◌||◌, not, Bool, false, Option, Some, None, List, [], ◌∷◌, is_none}
use Rattle.c_types.specs.CType.{CType, unqualified}
use Rattle.c_types.specs.Layout.{Tag}
use Rattle.c_meaning.specs.CoreTrees.{line_of}
use Rattle.c_meaning.specs.State.{State}
use Rattle.c_meaning.specs.Types.{is_void, is_scalar}
use Rattle.c_types.specs.Conversions.{is_integer}
use Rattle.c_meaning.specs.Values.{CoreTree, value, value_type}
use Rattle.c_meaning.specs.Constants.{fold}
use Rattle.c_meaning.specs.ExprConstraints.{is_assignable, is_open_record}
use Rattle.c_meaning.specs.Constraints.{Fault, broken_or, passed_fault}
use Rattle.c_meaning.specs.Postorder.{or_else}
use Rattle.c_meaning.specs.NodeConstraints.{ConstraintOn, on, first_of, passed_by}

-- ---- nodes

-- where a statement stands: in a loop, and in a switch
pub record Around : Type 0 where
  pub loop : Bool
  pub switch : Bool

pub data StmtNode : Type 0 where
  -- a label, and whether it stood before
  Label : (again : Bool) → StmtNode
  -- a case, and whether its number stood in the switch before; a default, and whether the switch had one
  Case : (e : CoreTree) (around : Around) (again : Bool) → StmtNode
  Default : (around : Around) (again : Bool) → StmtNode
  Expression : (e : CoreTree) → StmtNode
  -- an `if`, a `while` or a `do`, and its test
  Test : (e : CoreTree) → StmtNode
  For : (first test last : Option CoreTree) → StmtNode
  Switch : (e : CoreTree) → StmtNode
  Break : (around : Around) → StmtNode
  Continue : (around : Around) → StmtNode
  -- in a function with this result
  Return : (result : CType) (e : Option CoreTree) → StmtNode

-- ---- constraints

-- it has no value: it is void, or of incomplete type
abbrev pub is_nothing : List Tag → CType → Bool
is_nothing tags t = is_void t || is_open_record tags t

abbrev pub is_some_nothing : List Tag → Option CoreTree → Bool
is_some_nothing tags None = false
is_some_nothing tags (Some e) = is_nothing tags (value_type e)

-- 46: a void or incomplete value is used: as a test, a switch's value or what is returned
abbrev pub uses_nothing : State → StmtNode → Bool
uses_nothing s (Test e) = is_nothing s.tags (value_type e)
uses_nothing s (For first test last) = is_some_nothing s.tags test
uses_nothing s (Switch e) = is_nothing s.tags (value_type e)
uses_nothing s (Return result e) = is_some_nothing s.tags e
uses_nothing s n = false

abbrev pub is_no_test : Option CoreTree → Bool
is_no_test None = false
is_no_test (Some e) = not (is_scalar (value_type e))

-- 47: a test isn't scalar, or a switch not an integer
abbrev pub tests_nothing : State → StmtNode → Bool
tests_nothing s (Test e) = is_no_test (Some e)
tests_nothing s (For first test last) = is_no_test test
tests_nothing s (Switch e) = not (is_integer (value_type e))
tests_nothing s n = false

-- 48: a case isn't constant; two cases equal, or two defaults
abbrev pub is_bad_case : State → StmtNode → Bool
is_bad_case s (Case e around again) = is_none (fold e) || again
is_bad_case s (Default around again) = again
is_bad_case s n = false

-- 49: a case or default outside a switch, a break outside switch and loop, a continue outside a loop
abbrev pub is_misplaced : State → StmtNode → Bool
is_misplaced s (Case e around again) = not around.switch
is_misplaced s (Default around again) = not around.switch
is_misplaced s (Break around) = not (around.switch || around.loop)
is_misplaced s (Continue around) = not around.loop
is_misplaced s n = false

-- 50: a label stands twice
abbrev pub labels_again : State → StmtNode → Bool
labels_again s (Label again) = again
labels_again s n = false

-- 51: a return with a value in a void function, or of a value not assignable
abbrev pub returns_unfit : State → StmtNode → Bool
returns_unfit s (Return result (Some e)) = is_void result || not (is_assignable (unqualified result) (value e))
returns_unfit s n = false

-- all of them, smaller numbers first
abbrev pub stmt_constraints : List (ConstraintOn StmtNode)
stmt_constraints =
    on 46 uses_nothing ∷
    on 47 tests_nothing ∷
    on 48 is_bad_case ∷
    on 49 is_misplaced ∷
    on 50 labels_again ∷
    on 51 returns_unfit ∷ []

-- ---- limits

-- the limit that the type of an expression's value passes
abbrev pub value_fault : List Tag → Option CoreTree → Option Fault
value_fault tags None = None
value_fault tags (Some e) = passed_fault (line_of e) (passed_by tags (value_type e ∷ []))

-- of the expressions whose values a statement takes
abbrev pub values_fault : List Tag → StmtNode → Option Fault
values_fault tags (Expression e) = value_fault tags (Some e)
values_fault tags (Test e) = value_fault tags (Some e)
values_fault tags (For first test last) =
    or_else (value_fault tags first) (or_else (value_fault tags test) (value_fault tags last))
values_fault tags (Switch e) = value_fault tags (Some e)
values_fault tags (Return result e) = value_fault tags e
values_fault tags n = None

-- at one node constraints go before limits, smaller numbers first
unfoldable pub stmt_fault : State → ℕ → StmtNode → Option Fault
stmt_fault s line n = or_else (broken_or line (first_of stmt_constraints s n) None) (values_fault s.tags n)
