-- The expressions of checked units are such as the lowering asks for, where names of built-in functions stand for these.
-- Source: ISO/IEC 9899:1990, 6.3, 7.9.7 (putchar, getchar) and 7.10.4 (exit).
use Rattle.std.specs.Prelude.{◌≡◌, Some}
use Rattle.objects.specs.declared.value.Value.TheVariants.{Function}
use Rattle.c_meaning.specs.declared.built_in.BuiltIn.{BuiltIn}
use Rattle.c_meaning.specs.Each.{EachKind}
use Rattle.c_meaning.specs.Units.{FunctionTree}
use Rattle.c_meaning.specs.Values.{CoreTree}
use Rattle.c_runs.specs.Calls.{built_in_at, built_in_number}
use Rattle.c_expr_agreement.specs.Scenes.{Scene}
use Rattle.lowered_forms.specs.Contexts.{built_in_name}
use Rattle.c_straight_agree.specs.Checked.{IsModest}
use Rattle.c_checked_units.specs.Checked.{IsCheckedExpr}

-- the name of each built-in function that the unit doesn't define is the program's for it
abbrev pub StandsForBuiltIns : Scene → Type 0
StandsForBuiltIns s =
    (b : BuiltIn) → built_in_at s.unit (built_in_number s.unit b) ≡ Some b
    → s.body.setting.environment.global (built_in_name s.unit b) ≡ Some (Function (built_in_number s.unit b))

abbrev pub CheckedIsModest : Type 0
CheckedIsModest = (s : Scene) → StandsForBuiltIns s → (f : FunctionTree) (e : CoreTree) → IsCheckedExpr s.unit f e → EachKind (IsModest s) e
