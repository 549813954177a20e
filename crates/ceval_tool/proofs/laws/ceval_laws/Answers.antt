use Rattle.ceval_tool.proofs.Apart.{SourceLaws, ceval_apart, ceval_run, ceval_one, evaluable_apart}
use Rattle.ceval_tool.proofs.laws.ceval_laws.Goals as goal

pub returns-clause-apart : goal.returns-clause-apart
returns-clause-apart c =
    let laws : SourceLaws = record { one_list = c.one_list.ensures; one_unit = c.one_source_unit.ensures; decided = c.typing_units_is_decided.ensures.units } in
    ceval_apart laws

pub returns-clause-run : goal.returns-clause-run
returns-clause-run c =
    let laws : SourceLaws = record { one_list = c.one_list.ensures; one_unit = c.one_source_unit.ensures; decided = c.typing_units_is_decided.ensures.units } in
    ceval_run laws

pub returns-clause-one : goal.returns-clause-one
returns-clause-one c =
    let laws : SourceLaws = record { one_list = c.one_list.ensures; one_unit = c.one_source_unit.ensures; decided = c.typing_units_is_decided.ensures.units } in
    ceval_one laws

pub returns-clause-evaluable : goal.returns-clause-evaluable
returns-clause-evaluable c =
    let laws : SourceLaws = record { one_list = c.one_list.ensures; one_unit = c.one_source_unit.ensures; decided = c.typing_units_is_decided.ensures.units } in
    evaluable_apart laws
