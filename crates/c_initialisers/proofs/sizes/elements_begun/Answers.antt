use Rattle.std.proofs.Common.{take, sym, ap, ◌∙◌}
use Rattle.c_meaning.specs.Filling.{elements_begun}
use Rattle.c_initialisers.specs.Waiting.{waiting_in}
use Rattle.c_initialisers.specs.declared.waits.Waits.TheVariants as waits
use Rattle.c_initialisers.proofs.WaitingLists.{waiting_next}
use Rattle.c_initialisers.proofs.sizes.elements_begun.Goals as goal

pub loop-entry-preserved : goal.loop-entry-preserved
loop-entry-preserved c =
    let ws = c.args.waits.now in
    let i = c.loop-entry.entry-index in
    λ t.
    c.begun_with-begun.ensures t (waiting_in t (take i ws)) (c.loop-entry.invariant t)
    ∙ sym (ap elements_begun (waiting_next t ws i waits.Nowhere c.loop-entry-test.true))
