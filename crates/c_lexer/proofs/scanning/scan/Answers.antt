use Rattle.std.proofs.Common.{length, arith, ◌∙◌, ap}
use Rattle.c_lexer.specs.Tokens.{first_place}
use Rattle.c_lexer.proofs.Lists.{leads_on, ends_well, ends_badly}
use Rattle.c_lexer.proofs.scanning.scan.Goals as goal

pub loop-count-preserved : goal.loop-count-preserved
loop-count-preserved c =
    let i = c.loop-count.invariant in
    let f = rw c.in-Ok-Some.field-0-is at c.in-Ok-Some.ensures.further in
    record {
      source = c.in-Ok-Some.ensures.source ∙ i.source;
      few = omega (arith, f.0, i.few);
      within = omega (arith, f.1, ap length i.source);
      tokens = leads_on c.args.source.now c.loop-count.lexer.source first_place c.loop-count.count c.loop-count.lexer.place c.in-Ok-Some.field-0 c.in-Ok-Some.field-0-0 c.next.new.self.place i.source c.in-Ok-Some.field-0-is i.tokens c.in-Ok-Some.ensures.cuts;
    }

pub returns-in-Ok-None : goal.returns-in-Ok-None
returns-in-Ok-None c =
    ends_well c.args.source.now c.loop-count.lexer.source first_place c.loop-count.count c.loop-count.lexer.place c.next.new.self.place c.in-Ok-None.field-0
    c.loop-count.invariant.source c.in-Ok-None.field-0-is c.loop-count.invariant.tokens c.in-Ok-None.ensures.cuts

pub returns-in-Err : goal.returns-in-Err
returns-in-Err c =
    ends_badly c.args.source.now c.loop-count.lexer.source first_place c.loop-count.count c.loop-count.lexer.place c.next.new.self.place c.in-Err.fault
    c.loop-count.invariant.source c.loop-count.invariant.tokens c.in-Err.ensures.cuts
