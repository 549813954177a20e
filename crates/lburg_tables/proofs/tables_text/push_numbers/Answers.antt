use Rattle.lburg_tables.proofs.Lines.{number_step}
use Rattle.lburg_tables.proofs.tables_text.push_numbers.Goals as goal

pub loop-place-preserved : goal.loop-place-preserved
loop-place-preserved c =
    number_step c.loop-place.place-index c.from.result c.args.places.now c.args.out.now c.loop-place.out c.extend.new.self c.push_number.new.out c.loop-place-test.true c.from.ensures c.loop-place.invariant c.in_ok-extend.ensures.ok c.in_ok-push_number.ensures
