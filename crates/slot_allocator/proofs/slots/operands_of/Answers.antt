use Rattle.std.proofs.Common.{◌≤◌, length, sym, ◌∙◌, arith}
use Rattle.std.proofs.lemmas.List.{take_all}
use Rattle.slot_allocator.proofs.Places.{front_is_all}
use Rattle.slot_allocator.proofs.slots.operands_of.Goals as goal
use Rattle.slot_allocator.proofs.slots.operands_of.Goals.{else-loop-n-test, then-loop-n-test+in_default}

pub returns : goal.returns
returns g c =
    let m = g.T.Target.machine in
    let os = m.operands c.args.instr.now in
    elim c.loop-n-test.branch [
      | else-loop-n-test w ↦
          let few : length os ≤ c.loop-n.n = let f = m.few c.args.instr.now in omega (arith, f, w.loop-n-test.false) in
          c.loop-n.invariant.front ∙ take_all c.loop-n.n os few
      | then-loop-n-test+in_default w ↦ front_is_all os c.loop-n.operands.items c.loop-n.n c.loop-n.invariant.front (sym w.operand.ensures ∙ w.in_default.is)
    ]
