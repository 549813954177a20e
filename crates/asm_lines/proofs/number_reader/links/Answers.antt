use Rattle.std.proofs.Common.{◌∙◌, drop, sym, ap, arith}
use Rattle.asm_lines.specs.Tokens.{views}
use Rattle.asm_lines.proofs.Suffixes.{behind_next, behind_at}
use Rattle.asm_lines.proofs.NumberReads.{number_behind, linked_more, no_linked}
use Rattle.asm_lines.proofs.number_reader.links.Goals as goal

pub returns-in_err-value-clause-none : goal.returns-in_err-value-clause-none
returns-in_err-value-clause-none c =
    let s = c.in-Some.ensures.some in
    no_linked c.from_residual.result (views c.args.tokens.now) (views (drop c.loop-is_minus.at c.args.tokens.now)) (views c.in-Some.behind.now) c.args.from c.loop-is_minus.total s.0 c.in-Some.is_minus c.loop-is_minus.invariant.linked s.1 (ap views (sym c.split_at.ensures.back) ∙ s.2) c.in_err-value.ensures.none

pub loop-is_minus-preserved : goal.loop-is_minus-preserved
loop-is_minus-preserved c =
    let s = c.in-Some.ensures.some in
    let behind = views c.in-Some.behind.now in
    let left = c.split_at.result.1.now in
    let b = number_behind behind (views c.in_ok-value.rest.now) c.in_ok-value.value c.in_ok-value.ensures.some in
    record {
      within = omega arith;
      linked = linked_more (views c.args.tokens.now) (views (drop c.loop-is_minus.at c.args.tokens.now)) behind (views c.in_ok-value.rest.now) _ c.args.from c.loop-is_minus.total c.in_ok-value.value c.join-total.result s.0 c.in-Some.is_minus c.loop-is_minus.invariant.linked s.1 (ap views (sym c.split_at.ensures.back) ∙ s.2) c.in_ok-value.ensures.some (behind_at c.args.tokens.now left c.in_ok-value.rest.now c.loop-is_minus.at c.split_at.ensures.back (behind_next s.0 (views left) behind _ s.2 b)) c.join-total.ensures;
    }
