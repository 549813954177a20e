use Rattle.c_eval.specs.declared.focus.Focus.TheVariants as at
use Rattle.c_eval.proofs.Beginning.{leads_over, leads_seen}
use Rattle.c_eval.proofs.Leading.{leads_more, leads_nowhere}
use Rattle.c_eval.proofs.machine.Machine.run.Goals as goal

pub turn-init : goal.turn-init
turn-init c = leads_nowhere c.args.program.now c.args.self.now c.args.begun

pub returns-in-Over : goal.returns-in-Over
returns-in-Over c = leads_over c.args.program.now c.args.self.now c.turn.self c.until_turn.new.self c.args.begun c.turn.focus c.in-Over.how c.turn.invariant (rw c.in-Over.is at c.in_ok-s.ensures.leads)

pub turn-preserved-in_ok-focus-in-Repeat : goal.turn-preserved-in_ok-focus-in-Repeat
turn-preserved-in_ok-focus-in-Repeat c =
    let p = c.args.program.now in
    let m = c.args.self.now in
    leads_seen p m c.until_turn.new.self c.repeat.new.self c.args.begun (at.Repeat c.in-Repeat.s) c.in_ok-focus-in-Repeat.focus (leads_more p m c.turn.self c.until_turn.new.self c.args.begun c.turn.focus (at.Repeat c.in-Repeat.s) c.turn.invariant (rw c.in-Repeat.is at c.in_ok-s.ensures.leads)) (c.in_ok-focus-in-Repeat.ensures.same p) c.in_ok-focus-in-Repeat.ensures.output

pub turn-preserved-in_ok-focus-in-Jump : goal.turn-preserved-in_ok-focus-in-Jump
turn-preserved-in_ok-focus-in-Jump c =
    let p = c.args.program.now in
    let m = c.args.self.now in
    leads_seen p m c.until_turn.new.self c.jump.new.self c.args.begun (at.Jump c.in-Jump.statements c.in-Jump.label) c.in_ok-focus-in-Jump.focus (leads_more p m c.turn.self c.until_turn.new.self c.args.begun c.turn.focus (at.Jump c.in-Jump.statements c.in-Jump.label) c.turn.invariant (rw c.in-Jump.is at c.in_ok-s.ensures.leads)) (c.in_ok-focus-in-Jump.ensures.same p) c.in_ok-focus-in-Jump.ensures.output

pub turn-preserved : goal.turn-preserved
turn-preserved c =
    let p = c.args.program.now in
    let m = c.args.self.now in
    leads_more p m c.until_turn.new.self c.invoke.new.self c.args.begun (at.Invoke c.in-Invoke.n) c.in_ok-focus-in-Invoke.focus (leads_more p m c.turn.self c.until_turn.new.self c.args.begun c.turn.focus (at.Invoke c.in-Invoke.n) c.turn.invariant (rw c.in-Invoke.is at c.in_ok-s.ensures.leads)) c.in_ok-focus-in-Invoke.ensures.leads
