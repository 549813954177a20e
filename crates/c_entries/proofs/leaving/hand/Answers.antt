use Rattle.std.proofs.Common.{sym, ◌∙◌, true}
use Rattle.std.specs.Prelude.{◌≡◌}
use Rattle.std.proofs.lemmas.Result.{err_from_is_err_and}
use Rattle.c_meaning.specs.Types.{is_record}
use Rattle.c_entries.proofs.Handed.{as_copy, placed, stopped}
use Rattle.c_entries.proofs.leaving.hand.Goals as goal
use Rattle.c_worlds.specs.Programs.{known}

pub returns-in_err-copy_structure-in-Some-clause-hands : goal.returns-in_err-copy_structure-in-Some-clause-hands
returns-in_err-copy_structure-in-Some-clause-hands c =
    let p = c.args.program.now in
    let w = c.args.world.now in
    let r : is_record (known p c.args.of) ≡ true = rw (← c.types.ensures) (sym c.is_record.ensures ∙ c.if-not-is_record.false) in
    let q = err_from_is_err_and c.from_residual.result c.from_residual.ensures.1 in
    rw (q.1, q.2)
    (stopped p c.args.of c.args.waiting c.args.value c.in-Some.copy c.args.line w c.copy_structure.new.world c.in_err-copy_structure-in-Some.field-0.0
    (placed p c.args.of c.args.waiting w r ∙ sym c.waiting.ensures ∙ c.in-Some.is) c.in_err-copy_structure-in-Some.ensures.becomes)

pub returns-in_ok-copy_structure-in-Some-clause-hands : goal.returns-in_ok-copy_structure-in-Some-clause-hands
returns-in_ok-copy_structure-in-Some-clause-hands c =
    let p = c.args.program.now in
    let w = c.args.world.now in
    let r : is_record (known p c.args.of) ≡ true = rw (← c.types.ensures) (sym c.is_record.ensures ∙ c.if-not-is_record.false) in
    as_copy p c.args.of c.args.waiting c.args.value c.in-Some.copy c.args.line w c.copy_structure.new.world
    (placed p c.args.of c.args.waiting w r ∙ sym c.waiting.ensures ∙ c.in-Some.is) c.in_ok-copy_structure-in-Some.ensures.becomes
