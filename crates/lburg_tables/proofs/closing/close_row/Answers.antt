use Rattle.std.proofs.Common.{◌-◌, ◌^◌, ◌<◌, List, Option, length, get_or, sym, subst, arith}
use Rattle.std.proofs.lemmas.List.{length-map}
use Rattle.place_queue.specs.declared.key.Key.{Key}
use Rattle.lburg_tables.specs.RowOf.{seen, row_of}
use Rattle.lburg_tables.specs.Waits.{Matches}
use Rattle.lburg_tables.proofs.Waiting.{all_match, match_taken, waiting_cell}
use Rattle.lburg_tables.proofs.Closure.{dones, start, over, step, progress, none_done, all_done, more_done}
use Rattle.lburg_tables.proofs.closing.close_row.Goals as goal

pub loop-m-init : goal.loop-m-init
loop-m-init g c =
    let rules = c.args.node.now.rules.now in
    let row = row_of c.args.row.now in
    let queue = c.wait_all.new.queue in
    let none = none_done row queue c.wait_all.ensures rules in
    record { closing = start rules c.args.node.now.constant row queue c.wait_all.ensures (all_match row queue c.wait_all.ensures); steps = omega arith }

pub spread-requires-clause-cheap : goal.spread-requires-clause-cheap
spread-requires-clause-cheap g c =
    let closing = c.loop-m.invariant.closing in
    let from = get_or c.loop-m.row c.in-Some.m (record { cost = 0; count = 0; rule = 0 }) in
    let here = waiting_cell c.loop-m.row c.loop-m.queue c.in-Some.m c.in-Some.field-0-1 (record { cost = 0; count = 0; rule = 0 }) closing.matches c.in-Some.ensures.0 in
    let cheap = closing.cheap c.requires.are.cheap c.requires.cheap c.in-Some.m from here in
    let long = length-map c.args.row.now seen in
    let short = (closing.many (2 ^ 32 - 1 - length c.args.row.now) (λ n b at. let s = c.requires.short n b at in omega arith) c.in-Some.m from here).1 in
    let narrow = c.requires.are.narrow in
    omega arith

pub spread-requires-clause-short : goal.spread-requires-clause-short
spread-requires-clause-short g c =
    let closing = c.loop-m.invariant.closing in
    let from = get_or c.loop-m.row c.in-Some.m (record { cost = 0; count = 0; rule = 0 }) in
    let here = waiting_cell c.loop-m.row c.loop-m.queue c.in-Some.m c.in-Some.field-0-1 (record { cost = 0; count = 0; rule = 0 }) closing.matches c.in-Some.ensures.0 in
    let long = length-map c.args.row.now seen in
    let short = (closing.many (2 ^ 32 - 1 - length c.args.row.now) (λ n b at. let s = c.requires.short n b at in omega arith) c.in-Some.m from here).1 in
    let narrow = c.requires.are.narrow in
    omega arith

pub spread-requires-clause-matches : goal.spread-requires-clause-matches
spread-requires-clause-matches g c =
    let Fits : List (Option Key) → Type 0 = λ w. Matches (row_of c.loop-m.row) w in
    subst Fits (sym c.in-Some.ensures.2) (match_taken (row_of c.loop-m.row) c.loop-m.queue c.in-Some.m c.loop-m.invariant.closing.matches)

pub loop-m-smaller : goal.loop-m-smaller
loop-m-smaller g c =
    let closing = c.loop-m.invariant.closing in
    let from = get_or c.loop-m.row c.in-Some.m (record { cost = 0; count = 0; rule = 0 }) in
    let here = waiting_cell c.loop-m.row c.loop-m.queue c.in-Some.m c.in-Some.field-0-1 (record { cost = 0; count = 0; rule = 0 }) closing.matches c.in-Some.ensures.0 in
    let p = progress c.args.node.now.rules.now c.args.node.now.constant (row_of c.args.row.now) (row_of c.loop-m.row) c.loop-m.queue closing c.in-Some.m c.in-Some.field-0-1 from here c.take.new.self c.in-Some.ensures (row_of c.spread.new.row) c.spread.new.queue c.spread.ensures.spread c.spread.ensures.matches in
    let long = length-map c.loop-m.row seen in
    let same = c.spread.auto.row in
    let goal_is : length c.spread.new.row - dones (row_of c.spread.new.row) c.spread.new.queue < length c.loop-m.row - dones (row_of c.loop-m.row) c.loop-m.queue = omega (arith, p.0, p.1, p.2) in
    goal_is

pub loop-m-preserved : goal.loop-m-preserved
loop-m-preserved g c =
    let rules = c.args.node.now.rules.now in
    let constant = c.args.node.now.constant in
    let old = row_of c.args.row.now in
    let row = row_of c.loop-m.row in
    let m = c.in-Some.m in
    let key = c.in-Some.field-0-1 in
    let closing = c.loop-m.invariant.closing in
    let from = get_or c.loop-m.row m (record { cost = 0; count = 0; rule = 0 }) in
    let here = waiting_cell c.loop-m.row c.loop-m.queue m key (record { cost = 0; count = 0; rule = 0 }) closing.matches c.in-Some.ensures.0 in
    let more = more_done rules constant old row c.loop-m.queue closing m key from here c.take.new.self c.in-Some.ensures (row_of c.spread.new.row) c.spread.new.queue c.spread.ensures.spread c.spread.ensures.matches rules in
    record {
      closing = step rules constant old row c.loop-m.queue closing m key from here c.take.new.self c.in-Some.ensures (row_of c.spread.new.row) c.spread.new.queue c.spread.ensures.spread c.spread.ensures.matches;
      steps = omega (arith, more, c.loop-m.invariant.steps, c.spread.ensures.steps);
    }

pub returns-clause-closed : goal.returns-clause-closed
returns-clause-closed g c = over c.args.node.now.rules.now c.args.node.now.constant (row_of c.args.row.now) (row_of c.loop-m.row) c.loop-m.queue c.loop-m.invariant.closing c.in_default.ensures.0

pub returns-clause-steps : goal.returns-clause-steps
returns-clause-steps g c =
    let all = all_done (row_of c.loop-m.row) c.loop-m.queue c.in_default.ensures.0 c.args.node.now.rules.now in
    omega (arith, all, c.loop-m.invariant.steps)
