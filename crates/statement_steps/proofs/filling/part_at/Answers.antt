use Rattle.std.proofs.Common.{arith, ◌∙◌}
use Rattle.lowering_acts.proofs.lemmas.Spotting.{places_if}
use Rattle.lowering_steps.specs.Operands.{typed_of}
use Rattle.statement_steps.proofs.lemmas.Filling.{no_part, some_part}
use Rattle.statement_steps.proofs.filling.part_at.Goals as goal

pub returns-then-size-eq0 : goal.returns-then-size-eq0
returns-then-size-eq0 c = places_if c.displaced.result c.args.block.now c.displaced.new.self _ _ (no_part c.args.size c.args.offset (typed_of c.args.base) c.if-size-eq0.true) c.displaced.ensures

pub returns-in_ok-place : goal.returns-in_ok-place
returns-in_ok-place c = places_if c.placed.result c.args.block.now c.placed.new.self _ _ (c.in_ok-place.ensures ∙ some_part c.args.size c.args.offset (typed_of c.args.base) (omega arith)) c.placed.ensures
