use Rattle.std.proofs.Common.{◌≡◌, ◌++◌, ◌^◌, length, ap, sym, ◌∙◌, subst, arith, rules}
use Rattle.std.specs.Vec.Iter.{into_iter_items}
use Rattle.vcode.specs.VirtualCode.{NamesBelow}
use Rattle.slot_allocator.specs.Slots.{allotted}
use Rattle.slot_allocator.specs.SlotCounts.{slots_needed}
use Rattle.vcode.specs.Allocation.{IsAllocation}
use Rattle.vcode.specs.Following.{Follows}
use Rattle.slot_allocator.proofs.Places.{all_pushed, all_counted}
use Rattle.slot_allocator.proofs.Stretches.{names_of_code, no_slot_of_code}
use Rattle.slot_allocator.proofs.Allocation.{allocation}
use Rattle.slot_allocator.proofs.Counts.{counted, machine_names, fitting_all}
use Rattle.slot_allocator.proofs.Runs.{follows}
use Rattle.slot_allocator.proofs.slots.give_slots.Goals as goal

pub loop-instr-init : goal.loop-instr-init
loop-instr-init g c =
    let m = g.T.Target.machine in
    let ts = c.args.temporaries.now in
    let items : into_iter_items c.into_iter-instr-iterator.result ≡ c.args.code.code = c.into_iter-instr-iterator.ensures.into_iter_gives.0 ∙ c.into_vec-instr-items.ensures ∙ c.into_code.ensures.value in
    record {
      pushed = ap (λ l. l ++ allotted m ts (into_iter_items c.into_iter-instr-iterator.result)) c.new-into.ensures ∙ ap (λ l. allotted m ts l) items;
      slots = let e = ap (λ l. slots_needed m l) items in omega (arith, e);
      below = subst (NamesBelow m (2 ^ 31)) (sym items) (names_of_code m c.args.code c.into_code.ensures.is);
    }

pub new-requires : goal.new-requires
new-requires g c =
    let m = g.T.Target.machine in
    let ts = c.args.temporaries.now in
    let all = all_pushed m ts c.loop-instr.into (into_iter_items c.loop-instr.instr-iterator) (allotted m ts c.args.code.code) c.loop-instr.invariant.pushed (search rules) in
    subst (NamesBelow m 64) (sym all) (machine_names m ts c.args.code.code c.requires.temporaries c.requires.three)

pub returns-clause-fits : goal.returns-clause-fits
returns-clause-fits g c =
    let m = g.T.Target.machine in
    let ts = c.args.temporaries.now in
    let rest = into_iter_items c.loop-instr.instr-iterator in
    let none : length rest ≡ 0 = search rules in
    let all = all_pushed m ts c.loop-instr.into rest (allotted m ts c.args.code.code) c.loop-instr.invariant.pushed none in
    let count = all_counted m c.loop-instr.slots (slots_needed m c.args.code.code) rest c.loop-instr.invariant.slots none in
    fitting_all m ts c.args.code.code c.new.result.code c.new.result.slots (ap (λ r. r.code) c.new.ensures ∙ all) (ap (λ r. r.slots) c.new.ensures ∙ count) (no_slot_of_code m c.args.code c.into_code.ensures.is)

pub returns-clause-added : goal.returns-clause-added
returns-clause-added g c =
    let m = g.T.Target.machine in
    let ts = c.args.temporaries.now in
    let all = all_pushed m ts c.loop-instr.into (into_iter_items c.loop-instr.instr-iterator) (allotted m ts c.args.code.code) c.loop-instr.invariant.pushed (search rules) in
    ap (λ r. length r.code) c.new.ensures ∙ ap length all ∙ counted m ts c.args.code.code c.requires.three

pub returns-clause-form : goal.returns-clause-form
returns-clause-form g c =
    let m = g.T.Target.machine in
    let ts = c.args.temporaries.now in
    let all = all_pushed m ts c.loop-instr.into (into_iter_items c.loop-instr.instr-iterator) (allotted m ts c.args.code.code) c.loop-instr.invariant.pushed (search rules) in
    subst (IsAllocation m ts c.args.code.code) (sym (ap (λ r. r.code) c.new.ensures ∙ all)) (allocation m ts c.args.code.code c.requires.three)

pub returns-clause-agrees : goal.returns-clause-agrees
returns-clause-agrees g c =
    let m = g.T.Target.machine in
    let ts = c.args.temporaries.now in
    let all = all_pushed m ts c.loop-instr.into (into_iter_items c.loop-instr.instr-iterator) (allotted m ts c.args.code.code) c.loop-instr.invariant.pushed (search rules) in
    subst (Follows m ts c.args.code.code) (sym (ap (λ r. r.code) c.new.ensures ∙ all)) (follows _ m ts c.args.code c.into_code.ensures.is c.requires.temporaries c.requires.three c.requires.names)
