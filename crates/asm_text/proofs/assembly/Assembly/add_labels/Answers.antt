use Rattle.std.proofs.Common.{◌≡◌, ◌⊎◌, List, inl, inr, drop, subst, sym}
use Rattle.asm_lines.specs.Tokens.{Spaced, views}
use Rattle.asm_text.specs.declared.asm_fault.AsmFault.{AsmFault}
use Rattle.asm_text.specs.declared.asm_fault.AsmFault.TheVariants.{DoubleLabel, Memory}
use Rattle.asm_text.specs.FirstFault.{HasDouble}
use Rattle.asm_text.specs.Lines.{NoLabel}
use Rattle.asm_text.proofs.DataAdded.{handed_on}
use Rattle.asm_text.proofs.LabelsAdded.{FoundLabels, found_more, found_double, found_all, label_rest, none_there}
use Rattle.asm_text.proofs.assembly.Assembly.add_labels.Goals as goal

pub loop-name-preserved : goal.loop-name-preserved
loop-name-preserved c =
    let m = c.args.self.now in
    let all = views c.args.tokens.now in
    let l = c.loop-name in
    let P : List Spaced → Type 0 = λ ts. FoundLabels m all ts c.add_label.new.self in
    subst P (sym (label_rest l.rest.now)) (found_more m all (views l.rest.now) (views (drop 2 l.rest.now)) l.self c.add_label.new.self c.in-Some.name.now c.in-Some.ensures.some c.in_ok-add_label.ensures.new c.in_ok-add_label.ensures.made l.invariant)

pub returns-clause-labels : goal.returns-clause-labels
returns-clause-labels c =
    let l = c.loop-name in
    found_all c.args.self.now (views c.args.tokens.now) (views l.rest.now) l.self (none_there c.label_at.result (NoLabel (views l.rest.now)) c.in_default.not-Some c.label_at.ensures.none) l.invariant

pub returns-in_err-add_label-clause-fault : goal.returns-in_err-add_label-clause-fault
returns-in_err-add_label-clause-fault c =
    let m = c.args.self.now in
    let all = views c.args.tokens.now in
    let l = c.loop-name in
    let e = c.in_err-add_label.field-0.0 in
    let P : AsmFault → Type 0 = λ f. (f ≡ Memory) ⊎ ((f ≡ DoubleLabel c.args.line) × HasDouble m all) in
    let told : P e = elim c.in_err-add_label.ensures.fault [
      | inl a ↦ inl a
      | inr b ↦ inr (b.0, found_double m all (views l.rest.now) (views (drop 2 l.rest.now)) l.self c.in-Some.name.now c.in-Some.ensures.some b.1 l.invariant)
    ] in
    handed_on c.from_residual.result e P c.from_residual.ensures.1 told
