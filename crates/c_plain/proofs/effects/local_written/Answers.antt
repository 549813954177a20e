use Rattle.c_plain.proofs.AtOnce.{writes_at_once}
use Rattle.c_plain.proofs.effects.local_written.Goals as goal

pub returns-then-number_stored-clause-done : goal.returns-then-number_stored-clause-done
returns-then-number_stored-clause-done c =
    writes_at_once c.args.program.now c.args.e.now c.in_ok-left.left.now c.in_ok-left.right.now c.args.world.now c.number_stored.new.storage c.in_ok-place.place.now c.in_ok-n.n
    c.in_ok-left.ensures.some c.requires.shape (c.in_ok-place.ensures c.args.program.now) c.in_ok-n.ensures (c.number_stored.ensures.written c.if-number_stored.true)
