use Rattle.std.proofs.Common.{◌-◌, arith}
use Rattle.std.proofs.lemmas.List.{length-set}
use Rattle.place_queue.specs.Keys.{entry_at}
use Rattle.place_queue.proofs.Queues.{first_key, first_least, last_taken, last_keys, turned_links, turned_keys, back}
use Rattle.place_queue.proofs.heap.remove_least.Goals as goal

pub sink-requires-clause-linked : goal.sink-requires-clause-linked
sink-requires-clause-linked c = turned_links c.args.entries.now c.args.slots.now c.args.size c.requires.queue c.requires.some c.if-end-gt0.true

pub returns-then-end-gt0 : goal.returns-then-end-gt0
returns-then-end-gt0 c =
    let es = c.args.entries.now in let slots = c.args.slots.now in let n = c.args.size in let q = c.requires.queue in
    let long = length-set slots (entry_at es 0).place 0 in
    let now =
    back es c.sink.new.entries slots c.sink.new.slots _ _ (n - 1) (omega (arith, q.within)) q.long q.few c.sink.auto.entries (omega (arith, c.sink.auto.slots, long)) c.sink.ensures.heap c.sink.ensures.linked
    (turned_keys es slots n q c.requires.some c.if-end-gt0.true) in
    record {
      queue = now.0;
      takes = (first_key es slots n q c.requires.some, first_least es slots n q c.requires.some, now.1);
    }

pub returns-else-end-gt0 : goal.returns-else-end-gt0
returns-else-end-gt0 c =
    let es = c.args.entries.now in let slots = c.args.slots.now in let n = c.args.size in let q = c.requires.queue in record {
      queue = last_taken es slots n q c.requires.some c.if-end-gt0.false;
      takes = (first_key es slots n q c.requires.some, first_least es slots n q c.requires.some, last_keys es slots n q c.requires.some c.if-end-gt0.false);
    }
