use Rattle.c_rows_agree.specs.Places.{stored_as}
use Rattle.lowering_acts.proofs.lemmas.Spotting.{acts_if}
use Rattle.statement_steps.proofs.zeroing.zero_at.Goals as goal

pub returns : goal.returns
returns c = acts_if c.store.result c.args.block.now c.store.new.self _ _ (λ i. stored_as c.args.width (c.in_ok-place.ensures i) (c.number.ensures i)) c.store.ensures
