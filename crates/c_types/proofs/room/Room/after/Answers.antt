use Rattle.std.proofs.Common.{arith}
use Rattle.c_types.proofs.Sizes.{or_zero_bound}
use Rattle.c_types.proofs.room.Room.after.Goals as goal

pub returns-in-None-clause-bound : goal.returns-in-None-clause-bound
returns-in-None-clause-bound c =
    let b = or_zero_bound c.args.extent.size c.requires.extent.size in
    omega (arith, b, c.unwrap_or.ensures, c.round_up.ensures.bound, c.requires.bytes)
