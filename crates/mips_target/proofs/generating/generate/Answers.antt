use Rattle.std.proofs.Common.{◌≡◌, ◌≤◌, ◌<◌, length, get_or, subst, rules}
use Rattle.mips_target.specs.Generated.{IsFunction}
use Rattle.unit_text.proofs.lemmas.Collecting.{one_more, all_done}
use Rattle.mips_target.proofs.Printing.{printable}
use Rattle.mips_target.proofs.Making.{makes}
use Rattle.unit_text.proofs.lemmas.Placing.{unit_program}
use Rattle.mips_target.proofs.UnitBounds.{assembly}
use Rattle.mips_target.proofs.generating.generate.Goals as goal

pub loop-function-preserved : goal.loop-function-preserved
loop-function-preserved c =
    let u = c.args.lowered.now in
    let f = c.function-item.result in
    let here : f ≡ get_or u.functions c.loop-function.function-index f = search rules in
    let lt : c.loop-function.function-index < length u.functions = search rules in
    let more = c.in_ok-push_function.ensures in
    one_more (IsFunction u) u c.loop-function.function-index c.loop-function.lines c.push_function.new.lines f more.function lt c.loop-function.invariant (subst (λ x. IsFunction u x more.function) here more.is) more.adds

pub returns-clause-printable : goal.returns-clause-printable
returns-clause-printable c =
    let u = c.args.lowered.now in
    let lines = c.loop-function.lines in
    let long : length u.functions ≤ c.loop-function.function-index = search rules in
    printable u lines c.functions-function-items.ensures.is (all_done (IsFunction u) u c.loop-function.function-index lines long c.loop-function.invariant)

pub returns-clause-unit : goal.returns-clause-unit
returns-clause-unit c =
    let u = c.args.lowered.now in
    let lines = c.loop-function.lines in
    let long : length u.functions ≤ c.loop-function.function-index = search rules in
    λ p makes. unit_program (IsFunction u) u lines p (all_done (IsFunction u) u c.loop-function.function-index lines long c.loop-function.invariant) makes

pub returns-clause-assembly : goal.returns-clause-assembly
returns-clause-assembly c =
    let u = c.args.lowered.now in
    let lines = c.loop-function.lines in
    let long : length u.functions ≤ c.loop-function.function-index = search rules in
    λ p makes room most wide. assembly room most u p (unit_program (IsFunction u) u lines p (all_done (IsFunction u) u c.loop-function.function-index lines long c.loop-function.invariant) makes) wide

pub returns-clause-program : goal.returns-clause-program
returns-clause-program c =
    let u = c.args.lowered.now in
    let lines = c.loop-function.lines in
    let long : length u.functions ≤ c.loop-function.function-index = search rules in
    λ callable. makes u lines c.functions-function-items.ensures.is callable (all_done (IsFunction u) u c.loop-function.function-index lines long c.loop-function.invariant)
