use Rattle.std.proofs.Common.{◌≡◌, ◌<◌, length, get_or, false, ap, ◌∙◌, arith}
use Rattle.std.proofs.lemmas.Bool.{le-leb, lt-leb}
use Rattle.vcode.specs.declared.operand.Operand.{Operand}
use Rattle.slot_allocator.proofs.Places.{named, not_named, renamed_end, rename_long}
use Rattle.slot_allocator.proofs.slots.renamed.Goals as goal
use Rattle.slot_allocator.proofs.slots.renamed.Goals.{then-operand-ge64, else-operand-ge64}

pub loop-n-preserved : goal.loop-n-preserved
loop-n-preserved g c =
    let m = g.T.Target.machine in
    let ts = c.args.temporaries.now in
    let os = c.args.operands.now in
    let n = c.loop-n.n in
    let d : Operand = record { reg = 0; written = false } in
    let o : Operand = get_or os n d in
    let within : n < length os = omega arith in
    let reaches : n < length ts = omega (arith, c.requires.temporaries) in
    elim c.if-operand-ge64.branch [
      | then-operand-ge64 w ↦
          let is : c.if-operand-ge64.instr ≡ m.rename c.loop-n.instr n (get_or ts n 0) = w.instr-is ∙ w.set_operand.ensures in
          record {
            rest = named m ts os c.loop-n.instr c.if-operand-ge64.instr _ n 0 d reaches within (le-leb 64 o.reg w.if-operand-ge64.true) is c.loop-n.invariant.rest;
            long = ap (λ i. length (m.operands i)) is ∙ rename_long m c.loop-n.instr n (get_or ts n 0) (length os) c.loop-n.invariant.long within;
          }
      | else-operand-ge64 w ↦
          record {
            rest = not_named m ts os c.loop-n.instr c.if-operand-ge64.instr _ n 0 d reaches within (lt-leb 64 o.reg w.if-operand-ge64.false) w.instr-is c.loop-n.invariant.rest;
            long = ap (λ i. length (m.operands i)) w.instr-is ∙ c.loop-n.invariant.long;
          }
    ]

pub returns : goal.returns
returns g c =
    renamed_end g.T.Target.machine c.args.temporaries.now c.args.operands.now c.loop-n.n c.loop-n.instr _ (omega arith) c.loop-n.invariant.rest
