use Rattle.std.proofs.Common.{◌≡◌, ◌<◌, ◌++◌, ◌^◌, length, get_or, false, ap, sym, ◌∙◌, arith, rules, w32, SFits, to_z-of_z}
use Rattle.vcode.specs.declared.operand.Operand.{Operand}
use Rattle.slot_allocator.specs.Slots.{slot_of, loads}
use Rattle.slot_allocator.proofs.Places.{below_at, load_pushed, load_passed, loads_end}
use Rattle.slot_allocator.proofs.slots.push_loads.Goals as goal
use Rattle.slot_allocator.proofs.slots.push_loads.Goals.{then-is_loaded+in_ok-push, else-is_loaded}

pub slot_of-requires-clause-below : goal.slot_of-requires-clause-below
slot_of-requires-clause-below g c =
    below_at (2 ^ 31) c.args.operands.now c.loop-n.n (record { reg = 0; written = false }) c.requires.below (omega arith)

pub loop-n-preserved : goal.loop-n-preserved
loop-n-preserved g c =
    let m = g.T.Target.machine in
    let ts = c.args.temporaries.now in
    let os = c.args.operands.now in
    let n = c.loop-n.n in
    let d : Operand = record { reg = 0; written = false } in
    let all = c.args.into.now ++ loads m ts os in
    let within : n < length os = omega arith in
    let reaches : n < length ts = omega (arith, c.requires.temporaries) in
    elim c.if-is_loaded.branch [
      | then-is_loaded+in_ok-push w ↦
          let narrow : SFits w32 w.slot_of.result = search rules in
          let same : w.load_slot.result ≡ m.load (get_or ts n 0) (slot_of (get_or os n d).reg) = w.load_slot.ensures ∙ ap (λ z. m.load (get_or ts n 0) z) (to_z-of_z narrow ∙ w.slot_of.ensures) in
          load_pushed m ts os n 0 d c.loop-n.into c.if-is_loaded.into all w.load_slot.result reaches within (sym c.is_loaded.ensures ∙ w.if-is_loaded.true) same (w.into-is ∙ w.in_ok-push.ensures.ok) c.loop-n.invariant
      | else-is_loaded w ↦
          load_passed m ts os n 0 d c.loop-n.into c.if-is_loaded.into all reaches within (sym c.is_loaded.ensures ∙ w.if-is_loaded.false) w.into-is c.loop-n.invariant
    ]

pub returns : goal.returns
returns g c =
    loads_end g.T.Target.machine c.args.temporaries.now c.args.operands.now c.loop-n.n c.loop-n.into _ (omega arith) c.loop-n.invariant
