use Rattle.std.proofs.Common.{◌+◌, ◌-◌, get_or, arith, sym}
use Rattle.place_queue.specs.Keys.{entry_of}
use Rattle.place_queue.proofs.Queues.{more_room, end_hole, end_links, end_keys, its_hole, its_above, its_links, its_keys, back}
use Rattle.place_queue.proofs.Turns.{many_of}
use Rattle.place_queue.proofs.heap.add.Goals as goal

pub slice_bounds-rise-end : goal.slice_bounds-rise-end
slice_bounds-rise-end c =
    omega (arith, more_room c.args.entries.now c.args.slots.now c.args.size c.requires.queue (entry_of c.args.place c.args.key) c.requires.place c.if-slot-eq0.true)

pub slice_bounds-rise-end-then-slot-eq0 : goal.slice_bounds-rise-end-then-slot-eq0
slice_bounds-rise-end-then-slot-eq0 c =
    let more = more_room c.args.entries.now c.args.slots.now c.args.size c.requires.queue (entry_of c.args.place c.args.key) c.requires.place c.if-slot-eq0.true in
    sym (many_of c.args.entries.now (c.args.size + 1) (omega (arith, more)))

pub rise-requires-clause-hole : goal.rise-requires-clause-hole
rise-requires-clause-hole c =
    end_hole c.args.entries.now c.args.slots.now c.args.size c.requires.queue (entry_of c.args.place c.args.key) c.requires.place c.if-slot-eq0.true

pub rise-requires-clause-linked : goal.rise-requires-clause-linked
rise-requires-clause-linked c =
    end_links c.args.entries.now c.args.slots.now c.args.size c.requires.queue (entry_of c.args.place c.args.key) c.requires.place c.if-slot-eq0.true

pub rise-requires-else-slot-eq0-clause-hole : goal.rise-requires-else-slot-eq0-clause-hole
rise-requires-else-slot-eq0-clause-hole c =
    its_hole c.args.entries.now c.args.slots.now c.args.size c.requires.queue (entry_of c.args.place c.args.key) _ (omega arith)

pub rise-requires-else-slot-eq0-clause-above : goal.rise-requires-else-slot-eq0-clause-above
rise-requires-else-slot-eq0-clause-above c =
    its_above c.args.entries.now c.args.slots.now c.args.size c.requires.queue (entry_of c.args.place c.args.key) _ (omega arith) c.requires.lower

pub rise-requires-else-slot-eq0-clause-linked : goal.rise-requires-else-slot-eq0-clause-linked
rise-requires-else-slot-eq0-clause-linked c =
    its_links c.args.entries.now c.args.slots.now c.args.size c.requires.queue (entry_of c.args.place c.args.key) _ (omega arith)

pub returns-then-slot-eq0 : goal.returns-then-slot-eq0
returns-then-slot-eq0 c =
    let es = c.args.entries.now in let slots = c.args.slots.now in let n = c.args.size in let q = c.requires.queue in
    let e = entry_of c.args.place c.args.key in
    let more = more_room es slots n q e c.requires.place c.if-slot-eq0.true in
    let now =
    back es c.rise.new.entries slots c.rise.new.slots _ _ (n + 1) (omega (arith, more)) q.long q.few c.rise.auto.entries c.rise.auto.slots c.rise.ensures.heap c.rise.ensures.linked
    (end_keys es slots n q e c.requires.place c.if-slot-eq0.true) in
    record { queue = now.0; keys = now.1 }

pub returns-else-slot-eq0 : goal.returns-else-slot-eq0
returns-else-slot-eq0 c =
    let es = c.args.entries.now in let slots = c.args.slots.now in let n = c.args.size in let q = c.requires.queue in
    let e = entry_of c.args.place c.args.key in
    let i = get_or slots e.place 0 - 1 in
    let rise = c.rise-else-slot-eq0 in
    let now =
    back es rise.new.entries slots rise.new.slots _ _ n q.within q.long q.few rise.auto.entries rise.auto.slots rise.ensures.heap rise.ensures.linked
    (its_keys es slots n q e i (omega arith)) in
    record { queue = now.0; keys = now.1 }
