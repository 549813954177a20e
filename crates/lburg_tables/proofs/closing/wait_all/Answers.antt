use Rattle.std.proofs.Common.{◌+◌, List, Option, sym, ap, ◌∙◌, subst, arith}
use Rattle.std.specs.Prelude.{slice_set}
use Rattle.std.proofs.lemmas.List.{length-map}
use Rattle.place_queue.specs.declared.key.Key.{Key}
use Rattle.lburg_tables.specs.RowOf.{seen, row_of}
use Rattle.lburg_tables.proofs.lemmas.RowLaws.{seen_at}
use Rattle.lburg_tables.proofs.Waiting.{WaitsTo, waits_none, waits_more, waits_less, waits_over}
use Rattle.lburg_tables.proofs.closing.wait_all.Goals.{in-Some, in_default}
use Rattle.lburg_tables.proofs.closing.wait_all.Goals as goal

pub loop-n-init : goal.loop-n-init
loop-n-init c = let long = length-map c.args.row.now seen in waits_none (row_of c.args.row.now) c.args.queue.now (c.requires.0 ∙ sym long, c.requires.1)

pub put-requires-clause-within : goal.put-requires-clause-within
put-requires-clause-within c =
    let long = length-map c.args.row.now seen in
    let many = c.loop-n.invariant.many in
    let inside = c.loop-n-test.true in
    omega arith

pub put-requires-clause-lower : goal.put-requires-clause-lower
put-requires-clause-lower c = λ old waits. let none = c.loop-n.invariant.rest c.loop-n.n (omega arith) in cc

pub loop-n-preserved : goal.loop-n-preserved
loop-n-preserved c =
    let row = c.args.row.now in
    let n = c.loop-n.n in
    let queue = c.loop-n.queue in
    let inside = c.loop-n-test.true in
    let After : List (Option Key) → Type 0 = λ q. WaitsTo (row_of row) (n + 1) q in
    elim c.match-seen.branch [
      | in-Some w ↦
          let here = seen_at row n _ inside ∙ sym w.in-Some.ensures in
          subst After (sym (w.queue-is ∙ w.put.ensures ∙ ap (slice_set queue n) w.key.ensures)) (waits_more (row_of row) queue n w.in-Some.cell here c.loop-n.invariant)
      | in_default w ↦
          let here = seen_at row n _ inside ∙ sym w.in_default.ensures in
          subst After (sym w.queue-is) (waits_less (row_of row) queue n here c.loop-n.invariant)
    ]

pub returns : goal.returns
returns c =
    let long = length-map c.args.row.now seen in
    let over = c.loop-n-test.false in
    waits_over (row_of c.args.row.now) c.loop-n.queue c.loop-n.n (omega arith) c.loop-n.invariant
