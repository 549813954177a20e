use Rattle.std.proofs.Common.{arith}
use Rattle.lburg_faults.proofs.DeclareLists.{terms_more}
use Rattle.lburg_faults.proofs.known.Known.declare_terms.Goals as goal

pub loop-place-preserved : goal.loop-place-preserved
loop-place-preserved c =
    let r = terms_more c.args.tokens.now c.loop-place.place _ c.in_ok-fault.field-0 c.args.self.now c.loop-place.self c.declare_token.new.self (omega (arith, c.requires, c.loop-place-test.true)) c.in_default.is c.in_ok-fault.ensures.fits c.in_ok-fault.ensures.adds c.loop-place.invariant.fit c.loop-place.invariant.adds in
    record { fit = r.0; adds = r.1 }
