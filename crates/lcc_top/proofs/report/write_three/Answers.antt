use Rattle.std.proofs.Common.{◌++◌}
use Rattle.std.proofs.KnownBytes.{Appends-trans}
use Rattle.lcc_top.proofs.Pieces.{next_of, last_of}
use Rattle.lcc_top.proofs.report.write_three.Goals as goal

pub returns-in-Err-write_all-clause-prefix : goal.returns-in-Err-write_all-clause-prefix
returns-in-Err-write_all-clause-prefix g c =
    next_of _ _ _ c.args.a.now c.args.b.now c.args.c.now c.in-Ok.ensures.all c.in-Err-write_all.ensures.prefix

pub returns-in-Ok-write_all-clause-prefix : goal.returns-in-Ok-write_all-clause-prefix
returns-in-Ok-write_all-clause-prefix g c =
    let both = Appends-trans _ _ _ c.args.a.now c.args.b.now c.in-Ok.ensures.all c.in-Ok-write_all.ensures.all in
    last_of _ _ _ _ (c.args.a.now ++ c.args.b.now) c.args.c.now both c.write_all-in-Ok-write_all.ensures.prefix
