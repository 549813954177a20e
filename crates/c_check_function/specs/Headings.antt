-- The declarator of a function's definition, over a table of types.
use Rattle.std.specs.Prelude.{ℕ, ◌<◌, ◌||◌, not, Option, Some, None, List, if◌then◌else◌}
use Rattle.c_types.specs.CType.{CType}
use Rattle.c_types.specs.Layout.{Tag}
use Rattle.c_types.specs.Table.{Table, type_at}
use Rattle.c_meaning.specs.Nodes.{Step}
use Rattle.c_meaning.specs.Rows.{result_type}
use Rattle.c_meaning.specs.TypeConstraints.{is_bad_element, is_bad_result, is_bad_size, is_name_list, some_step}
use Rattle.c_meaning.specs.TypeRows.{formed}
use Rattle.c_check_decl.specs.Named.{linked}
use Rattle.c_check_expr.specs.PartsSeen.{AreStepsIn, steps_seen}
use Rattle.c_units.specs.Definitions.{Definition, before_own, has_more, is_definition_step, is_open_result, own_step, takes_open}
use Rattle.c_check_function.specs.declared.heading.Heading.{Heading}

abbrev pub heading_seen : Table → Heading → Definition
heading_seen t h =
    record {
      naming = record { class = h.class; name = h.name; of = formed (type_at t h.base) (steps_seen t h.steps); linkage = linked h.linkage };
      base = type_at t h.base;
      steps = steps_seen t h.steps;
    }

-- its types stand below this place
pub record IsHeadingIn (n : ℕ) (h : Heading) : Type 0 where
  pub base : h.base < n
  pub steps : AreStepsIn n h.steps

-- ---- constraints on its type

abbrev pub own_broken : List Tag → CType → List Step → Option ℕ
own_broken tags base ps =
    if not (is_definition_step (own_step ps)) then Some 18
    else if some_step is_name_list base (before_own ps) then Some 19
    else if takes_open tags (own_step ps) || is_open_result tags (result_type (formed base ps)) then Some 20
    else if has_more (own_step ps) then Some 21
    else None

abbrev pub steps_broken : List Tag → CType → List Step → Option ℕ
steps_broken tags base ps =
    if some_step is_bad_size base ps then Some 13
    else if some_step (is_bad_element tags) base ps then Some 14
    else if some_step is_bad_result base ps then Some 15
    else own_broken tags base ps
