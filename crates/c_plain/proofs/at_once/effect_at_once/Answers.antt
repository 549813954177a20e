use Rattle.std.proofs.Common.{subst}
use Rattle.std.specs.Prelude.{IfSome}
use Rattle.c_worlds.specs.declared.world.World.{World}
use Rattle.c_plain.specs.AtOnce.{DoneAtOnce}
use Rattle.c_plain.proofs.at_once.effect_at_once.Goals as goal

pub returns-in-None-clause-comes : goal.returns-in-None-clause-comes
returns-in-None-clause-comes c =
    subst (λ (w : World). IfSome c.effect_in_full.result (λ r. DoneAtOnce c.args.program.now w c.effect_in_full.new.world c.args.e.now r)) c.in-None.ensures.same c.effect_in_full.ensures.comes
