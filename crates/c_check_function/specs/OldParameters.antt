-- An old-style parameter, over a table of types.
use Rattle.std.specs.Prelude.{ℕ, ◌<◌, ◌||◌, not, Option, Some, None, List, [], ◌∷◌, ◌++◌, is_none, if◌then◌else◌}
use Rattle.lcc_base.specs.declared.which.Which.{Which}
use Rattle.c_ast.specs.declared.specifier.Storage.{Storage}
use Rattle.c_types.specs.CType.{CType}
use Rattle.c_types.specs.Layout.{Tag}
use Rattle.c_types.specs.Table.{Table, type_at}
use Rattle.c_meaning.specs.Constraints.{formings, some_many}
use Rattle.c_meaning.specs.NodeConstraints.{passed_by}
use Rattle.c_meaning.specs.Nodes.{Step}
use Rattle.c_meaning.specs.TypeConstraints.{is_bad_element, is_bad_result, is_bad_size, is_name_list, some_step}
use Rattle.c_meaning.specs.TypeRows.{adjusted, formed}
use Rattle.c_meaning.specs.Types.{has_size, is_void}
use Rattle.c_check_expr.specs.PartsSeen.{AreStepsIn, steps_seen}
use Rattle.c_units.specs.Definitions.{OldParameter as OldTrees, or_which}
use Rattle.c_check_function.specs.declared.old_parameters.OldParameter.{OldParameter}

abbrev pub old_seen : Table → List Storage → OldParameter → OldTrees
old_seen t classes p =
    record { classes = classes; name = p.name; base = type_at t p.base; steps = steps_seen t p.steps; place = p.place; initialised = p.initialised }

-- its types stand below this place
pub record IsOldIn (n : ℕ) (p : OldParameter) : Type 0 where
  pub base : p.base < n
  pub steps : AreStepsIn n p.steps

-- the first constraint on its type and its place
abbrev pub old_broken : List Tag → OldTrees → Option ℕ
old_broken tags n =
    if some_step is_bad_size n.base n.steps then Some 13
    else if some_step (is_bad_element tags) n.base n.steps then Some 14
    else if some_step is_bad_result n.base n.steps then Some 15
    else if is_void (formed n.base n.steps) then Some 17
    else if is_none n.place || (n.initialised || some_step is_name_list n.base n.steps) then Some 19
    else if not (has_size tags (adjusted (formed n.base n.steps))) then Some 20
    else None

-- the limit that its type passes, or the number of parameters of a function in it
abbrev pub old_passed : List Tag → CType → List Step → Option Which
old_passed tags base ps = or_which (passed_by tags (formings base ps ++ adjusted (formed base ps) ∷ [])) (some_many ps)
