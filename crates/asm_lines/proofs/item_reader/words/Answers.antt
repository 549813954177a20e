use Rattle.std.proofs.Common.{◌≡◌, ◌<◌, ◌+◌, [], length, map, ap, ◌∙◌, rules, arith}
use Rattle.std.proofs.lemmas.List.{map_push}
use Rattle.asm_lines.specs.Statements.{item_of}
use Rattle.asm_lines.specs.Tokens.{views}
use Rattle.asm_lines.specs.Operands.{IsWordItem}
use Rattle.asm_lines.proofs.OneOperand.{one_word}
use Rattle.asm_lines.proofs.ItemReads.{place_behind, left_at, left_length, no_views, found_here, found_more, no_found_item, no_found_comma}
use Rattle.asm_lines.proofs.item_reader.words.Goals as goal

pub returns-in_default-clause-only : goal.returns-in_default-clause-only
returns-in_default-clause-only c = λ all h.
    let f = found_here IsWordItem (views c.args.tokens.now) (map item_of c.loop-placed.items) c.args.tokens.now c.split_at.result.1.now c.loop-placed.at c.split_at.ensures.back c.loop-placed.invariant.found in
    absurd (no_found_item IsWordItem (views c.args.tokens.now) (views c.split_at.result.1.now) (map item_of c.loop-placed.items) f (λ a rest p g. c.in_default.ensures.none a.0 a.1 rest p g) all h)

pub returns-in_default-comma-clause-only : goal.returns-in_default-comma-clause-only
returns-in_default-comma-clause-only c = λ all h.
    let f = found_here IsWordItem (views c.args.tokens.now) (map item_of c.loop-placed.items) c.args.tokens.now c.split_at.result.1.now c.loop-placed.at c.split_at.ensures.back c.loop-placed.invariant.found in
    let e : c.in-Some.placed.rest.now ≡ [] → ⊥ = search rules in
    absurd (no_found_comma IsWordItem (views c.args.tokens.now) (views c.split_at.result.1.now) (views c.in-Some.placed.rest.now) (map item_of c.loop-placed.items) (item_of (record { name = c.in-Some.placed.name; value = c.in-Some.placed.offset })) one_word f c.in-Some.ensures.some.0 c.in-Some.ensures.some.1 (no_views c.in-Some.placed.rest.now e) c.in_default-comma.ensures.none all h)

pub overflow_sub-at : goal.overflow_sub-at
overflow_sub-at c =
    let l : length c.in-Some-comma.behind.now + c.loop-placed.at < length c.args.tokens.now = left_length c.args.tokens.now c.split_at.result.1.now c.in-Some-comma.behind.now (views c.in-Some.placed.rest.now) c.loop-placed.at c.split_at.ensures.back c.loop-placed.invariant.within (place_behind (views c.split_at.result.1.now) (views c.in-Some.placed.rest.now) _ c.in-Some.placed.offset c.in-Some.ensures.some.0) c.in-Some-comma.ensures.some in
    omega arith

pub loop-placed-smaller : goal.loop-placed-smaller
loop-placed-smaller c =
    let l : length c.in-Some-comma.behind.now + c.loop-placed.at < length c.args.tokens.now = left_length c.args.tokens.now c.split_at.result.1.now c.in-Some-comma.behind.now (views c.in-Some.placed.rest.now) c.loop-placed.at c.split_at.ensures.back c.loop-placed.invariant.within (place_behind (views c.split_at.result.1.now) (views c.in-Some.placed.rest.now) _ c.in-Some.placed.offset c.in-Some.ensures.some.0) c.in-Some-comma.ensures.some in
    omega arith

pub loop-placed-preserved : goal.loop-placed-preserved
loop-placed-preserved c =
    let f = found_here IsWordItem (views c.args.tokens.now) (map item_of c.loop-placed.items) c.args.tokens.now c.split_at.result.1.now c.loop-placed.at c.split_at.ensures.back c.loop-placed.invariant.found in
    record {
      within = omega arith;
      found = found_more IsWordItem (views c.args.tokens.now) (views c.split_at.result.1.now) (views c.in-Some.placed.rest.now) (views c.in-Some-comma.behind.now) _ (map item_of c.loop-placed.items) (map item_of c.push.new.self) (item_of (record { name = c.in-Some.placed.name; value = c.in-Some.placed.offset })) one_word f c.in-Some.ensures.some.0 c.in-Some.ensures.some.1 c.in-Some-comma.ensures.some (left_at c.args.tokens.now c.split_at.result.1.now c.in-Some-comma.behind.now (views c.in-Some.placed.rest.now) c.loop-placed.at c.split_at.ensures.back (place_behind (views c.split_at.result.1.now) (views c.in-Some.placed.rest.now) _ c.in-Some.placed.offset c.in-Some.ensures.some.0) c.in-Some-comma.ensures.some) (ap (map item_of) c.in_ok-push.ensures.ok ∙ map_push item_of c.loop-placed.items _);
    }
