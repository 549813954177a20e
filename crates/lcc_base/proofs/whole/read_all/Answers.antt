use Rattle.std.proofs.Common.{arith, take, ◌++◌, length-append, length-take}
use Rattle.std.proofs.lemmas.Grind.{common_steps}
use Rattle.std.proofs.KnownBytes.{Consumes-trans}
use Rattle.lcc_base.proofs.whole.read_all.Goals as goal

-- what came before the last piece, and the piece
pub returns-then-n-room-clause-too_long : goal.returns-then-n-room-clause-too_long
returns-then-n-room-clause-too_long g c _ = (
  c.loop-asked.bytes.items ++ take c.in_ok-n.n c.read.new.into,
  Consumes-trans _ _ _ _ _ c.loop-asked.invariant.bytes c.in_ok-n.ensures.bytes.0,
  grind (arith, common_steps, length-append, length-take),
)

pub returns-in_err-extend_from_slice-clause-memory : goal.returns-in_err-extend_from_slice-clause-memory
returns-in_err-extend_from_slice-clause-memory g c _ = (
  c.loop-asked.bytes.items ++ take c.in_ok-n.n c.read.new.into,
  Consumes-trans _ _ _ _ _ c.loop-asked.invariant.bytes c.in_ok-n.ensures.bytes.0,
  grind (arith, common_steps, length-append, length-take),
)
