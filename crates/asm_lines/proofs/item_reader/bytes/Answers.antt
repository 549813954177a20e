use Rattle.std.proofs.Common.{◌≡◌, ◌<◌, ◌+◌, [], length, refl, ◌%◌, rules, arith}
use Rattle.asm_lines.specs.Tokens.{views}
use Rattle.asm_lines.specs.Operands.{IsPartItem}
use Rattle.asm_lines.proofs.OneOperand.{one_part}
use Rattle.asm_lines.proofs.ItemReads.{sum_behind, left_at, left_length, no_views, empty_views, found_here, found_more, found_last, no_found_item, no_found_comma}
use Rattle.asm_lines.proofs.item_reader.bytes.Goals as goal

pub returns-in_default-clause-only : goal.returns-in_default-clause-only
returns-in_default-clause-only c = λ all h.
    let f = found_here (IsPartItem 8) (views c.args.tokens.now) c.loop-value.bytes c.args.tokens.now c.split_at.result.1.now c.loop-value.at c.split_at.ensures.back c.loop-value.invariant.found in
    absurd (no_found_item (IsPartItem 8) (views c.args.tokens.now) (views c.split_at.result.1.now) c.loop-value.bytes f (λ a rest p g. c.in_default.ensures.none p.0 rest p.1 g) all h)

pub returns-then-is_empty-clause-found : goal.returns-then-is_empty-clause-found
returns-then-is_empty-clause-found c =
    let f = found_here (IsPartItem 8) (views c.args.tokens.now) c.loop-value.bytes c.args.tokens.now c.split_at.result.1.now c.loop-value.at c.split_at.ensures.back c.loop-value.invariant.found in
    let e : length c.in-Some.rest.now ≡ 0 = search rules in
    found_last (IsPartItem 8) (views c.args.tokens.now) (views c.split_at.result.1.now) (views c.in-Some.rest.now) c.loop-value.bytes c.push.new.self (c.in-Some.value % 256) f (c.in-Some.value, c.in-Some.ensures.some.0, refl) (empty_views c.in-Some.rest.now e) c.in_ok-push.ensures.ok

pub returns-in_default-comma-clause-only : goal.returns-in_default-comma-clause-only
returns-in_default-comma-clause-only c = λ all h.
    let f = found_here (IsPartItem 8) (views c.args.tokens.now) c.loop-value.bytes c.args.tokens.now c.split_at.result.1.now c.loop-value.at c.split_at.ensures.back c.loop-value.invariant.found in
    let e : c.in-Some.rest.now ≡ [] → ⊥ = search rules in
    absurd (no_found_comma (IsPartItem 8) (views c.args.tokens.now) (views c.split_at.result.1.now) (views c.in-Some.rest.now) c.loop-value.bytes (c.in-Some.value % 256) (one_part 8) f (c.in-Some.value, c.in-Some.ensures.some.0, refl) c.in-Some.ensures.some.1 (no_views c.in-Some.rest.now e) c.in_default-comma.ensures.none all h)

pub overflow_sub-at : goal.overflow_sub-at
overflow_sub-at c =
    let l : length c.in-Some-comma.behind.now + c.loop-value.at < length c.args.tokens.now = left_length c.args.tokens.now c.split_at.result.1.now c.in-Some-comma.behind.now (views c.in-Some.rest.now) c.loop-value.at c.split_at.ensures.back c.loop-value.invariant.within (sum_behind (views c.split_at.result.1.now) (views c.in-Some.rest.now) c.in-Some.value c.in-Some.ensures.some.0) c.in-Some-comma.ensures.some in
    omega arith

pub loop-value-smaller : goal.loop-value-smaller
loop-value-smaller c =
    let l : length c.in-Some-comma.behind.now + c.loop-value.at < length c.args.tokens.now = left_length c.args.tokens.now c.split_at.result.1.now c.in-Some-comma.behind.now (views c.in-Some.rest.now) c.loop-value.at c.split_at.ensures.back c.loop-value.invariant.within (sum_behind (views c.split_at.result.1.now) (views c.in-Some.rest.now) c.in-Some.value c.in-Some.ensures.some.0) c.in-Some-comma.ensures.some in
    omega arith

pub loop-value-preserved : goal.loop-value-preserved
loop-value-preserved c =
    let f = found_here (IsPartItem 8) (views c.args.tokens.now) c.loop-value.bytes c.args.tokens.now c.split_at.result.1.now c.loop-value.at c.split_at.ensures.back c.loop-value.invariant.found in
    record {
      within = omega arith;
      found = found_more (IsPartItem 8) (views c.args.tokens.now) (views c.split_at.result.1.now) (views c.in-Some.rest.now) (views c.in-Some-comma.behind.now) _ c.loop-value.bytes c.push.new.self (c.in-Some.value % 256) (one_part 8) f (c.in-Some.value, c.in-Some.ensures.some.0, refl) c.in-Some.ensures.some.1 c.in-Some-comma.ensures.some (left_at c.args.tokens.now c.split_at.result.1.now c.in-Some-comma.behind.now (views c.in-Some.rest.now) c.loop-value.at c.split_at.ensures.back (sum_behind (views c.split_at.result.1.now) (views c.in-Some.rest.now) c.in-Some.value c.in-Some.ensures.some.0) c.in-Some-comma.ensures.some) c.in_ok-push.ensures.ok;
    }
