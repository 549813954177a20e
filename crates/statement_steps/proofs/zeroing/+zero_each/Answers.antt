use Rattle.std.proofs.Common.{arith}
use Rattle.std.specs.Prelude.{◌-◌, ◌+◌}
use Rattle.std.proofs.Common.{ap, ◌∙◌}
use Rattle.lowering_steps.specs.Operands.{typed_of}
use Rattle.statement_steps.proofs.lemmas.Zeroing.{zeroes_none, zeroes_more}
use Rattle.statement_steps.proofs.zeroing.+zero_each.Goals as goal

pub returns-then-count-eq0 : goal.returns-then-count-eq0
returns-then-count-eq0 t c = zeroes_none (typed_of c.args.base) c.args.width c.args.from c.args.count c.args.block.now c.if-count-eq0.true

pub returns : goal.returns
returns t c =
    zeroes_more c.zero_each.result (typed_of c.args.base) c.args.width c.args.from c.args.count c.in_ok-next.next (c.args.count - 1) c.args.block.now c.zero_at.new.block c.zero_each.new.block
    (omega arith) (c.in_ok-next.ensures ∙ ap (λ n. c.args.from + n) c.bytes.ensures.is) c.in_ok-zero_at.ensures c.zero_each.ensures
