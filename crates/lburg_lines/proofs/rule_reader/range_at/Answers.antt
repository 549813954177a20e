use Rattle.std.proofs.Common.{refl}
use Rattle.lburg_lines.specs.Numbers.{written}
use Rattle.lburg_lines.proofs.Places.{on_stuck}
use Rattle.lburg_lines.proofs.Shapes.{shape_other, shape_numberless, shape_longer, shape_step}
use Rattle.lburg_lines.proofs.Rules.{range_fault}
use Rattle.lburg_lines.proofs.rule_reader.range_at.Goals as goal

pub returns-in_err-rest-clause-stuck : goal.returns-in_err-rest-clause-stuck
returns-in_err-rest-clause-stuck c =
    on_stuck _ _ _ c.from_residual.ensures.1 (range_fault _ _ (shape_other c.in_err-rest.ensures.no c.in_err-rest.ensures.err))

pub returns-in_err-rest-2-clause-stuck : goal.returns-in_err-rest-2-clause-stuck
returns-in_err-rest-2-clause-stuck c =
    on_stuck _ _ _ c.from_residual-in_err-rest-2.ensures.1 (range_fault _ _ (shape_step refl c.in_ok-rest.ensures.ok (shape_other c.in_err-rest-2.ensures.no c.in_err-rest-2.ensures.err)))

pub returns-in_err-rest-3-clause-stuck : goal.returns-in_err-rest-3-clause-stuck
returns-in_err-rest-3-clause-stuck c =
    on_stuck _ _ _ c.from_residual-in_err-rest-3.ensures.1 (range_fault _ _ (shape_step refl c.in_ok-rest.ensures.ok (shape_step refl c.in_ok-rest-2.ensures.ok (shape_other c.in_err-rest-3.ensures.no c.in_err-rest-3.ensures.err))))

pub returns-in_err-rest-4-clause-stuck : goal.returns-in_err-rest-4-clause-stuck
returns-in_err-rest-4-clause-stuck c =
    on_stuck _ _ _ c.from_residual-in_err-rest-4.ensures.1 (range_fault _ _ (shape_step refl c.in_ok-rest.ensures.ok (shape_step refl c.in_ok-rest-2.ensures.ok (shape_step refl c.in_ok-rest-3.ensures.ok (shape_other c.in_err-rest-4.ensures.no c.in_err-rest-4.ensures.err)))))

pub returns-in_err-low-clause-stuck : goal.returns-in_err-low-clause-stuck
returns-in_err-low-clause-stuck c =
    on_stuck _ _ _ c.from_residual-in_err-low.ensures.1 (range_fault _ _ (shape_step refl c.in_ok-rest.ensures.ok (shape_step refl c.in_ok-rest-2.ensures.ok (shape_step refl c.in_ok-rest-3.ensures.ok (shape_step refl c.in_ok-rest-4.ensures.ok (shape_numberless c.in_err-low.ensures.no c.in_err-low.ensures.err))))))

pub returns-in_err-rest-5-clause-stuck : goal.returns-in_err-rest-5-clause-stuck
returns-in_err-rest-5-clause-stuck c =
    on_stuck _ _ _ c.from_residual-in_err-rest-5.ensures.1 (range_fault _ _ (shape_step refl c.in_ok-rest.ensures.ok (shape_step refl c.in_ok-rest-2.ensures.ok (shape_step refl c.in_ok-rest-3.ensures.ok (shape_step refl c.in_ok-rest-4.ensures.ok (shape_step (written c.in_ok-low.low, c.in_ok-low.ensures.is, refl) c.in_ok-low.ensures.ok (shape_other c.in_err-rest-5.ensures.no c.in_err-rest-5.ensures.err)))))))

pub returns-in_err-high-clause-stuck : goal.returns-in_err-high-clause-stuck
returns-in_err-high-clause-stuck c =
    on_stuck _ _ _ c.from_residual-in_err-high.ensures.1 (range_fault _ _ (shape_step refl c.in_ok-rest.ensures.ok (shape_step refl c.in_ok-rest-2.ensures.ok (shape_step refl c.in_ok-rest-3.ensures.ok (shape_step refl c.in_ok-rest-4.ensures.ok (shape_step (written c.in_ok-low.low, c.in_ok-low.ensures.is, refl) c.in_ok-low.ensures.ok (shape_step refl c.in_ok-rest-5.ensures.ok (shape_numberless c.in_err-high.ensures.no c.in_err-high.ensures.err))))))))

pub returns-in_err-rest-6-clause-stuck : goal.returns-in_err-rest-6-clause-stuck
returns-in_err-rest-6-clause-stuck c =
    on_stuck _ _ _ c.from_residual-in_err-rest-6.ensures.1 (range_fault _ _ (shape_step refl c.in_ok-rest.ensures.ok (shape_step refl c.in_ok-rest-2.ensures.ok (shape_step refl c.in_ok-rest-3.ensures.ok (shape_step refl c.in_ok-rest-4.ensures.ok (shape_step (written c.in_ok-low.low, c.in_ok-low.ensures.is, refl) c.in_ok-low.ensures.ok (shape_step refl c.in_ok-rest-5.ensures.ok (shape_step (written c.in_ok-high.high, c.in_ok-high.ensures.is, refl) c.in_ok-high.ensures.ok (shape_other c.in_err-rest-6.ensures.no c.in_err-rest-6.ensures.err)))))))))

pub returns-in_err-end_of-clause-stuck : goal.returns-in_err-end_of-clause-stuck
returns-in_err-end_of-clause-stuck c =
    on_stuck _ _ _ c.from_residual-in_err-end_of.ensures.1 (range_fault _ _ (shape_step refl c.in_ok-rest.ensures.ok (shape_step refl c.in_ok-rest-2.ensures.ok (shape_step refl c.in_ok-rest-3.ensures.ok (shape_step refl c.in_ok-rest-4.ensures.ok (shape_step (written c.in_ok-low.low, c.in_ok-low.ensures.is, refl) c.in_ok-low.ensures.ok (shape_step refl c.in_ok-rest-5.ensures.ok (shape_step (written c.in_ok-high.high, c.in_ok-high.ensures.is, refl) c.in_ok-high.ensures.ok (shape_step refl c.in_ok-rest-6.ensures.ok (shape_longer c.in_err-end_of.ensures.no c.in_err-end_of.ensures.err))))))))))
