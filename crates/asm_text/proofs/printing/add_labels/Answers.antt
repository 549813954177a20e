use Rattle.std.proofs.Common.{◌≡◌, ◌++◌, [], ℕ, List, get_or, sym, subst, ap, ◌∙◌}
use Rattle.std.proofs.lemmas.Option.{get_or_from_slice_get}
use Rattle.asm_lines.specs.Printed.{printed_label}
use Rattle.asm_text.specs.LineBack.{IsLabelBack}
use Rattle.asm_text.specs.Names.{name_at}
use Rattle.asm_text.proofs.PrintSteps.{label_text, label_more, label_all}
use Rattle.asm_text.proofs.printing.add_labels.Goals as goal

pub loop-label-preserved : goal.loop-label-preserved
loop-label-preserved c =
    let names = c.args.names.now in
    let labels = c.args.labels.now in
    let i = c.loop-label.label-index in
    let out = c.loop-label.out in
    let is : c.name.result.now ≡ name_at names (get_or labels i 0) = sym (get_or_from_slice_get names (get_or labels i 0) c.name.result.now [] c.name.ensures) in
    record {
      text = label_text (name_at names) out c.print_label.new.out _ labels i 0 c.loop-label-test.true c.loop-label.invariant.text (c.in_ok-print_label.ensures.text ∙ ap (λ (n : List ℕ). out ++ printed_label n) is);
      back = label_more (name_at names) labels i 0 c.loop-label-test.true c.loop-label.invariant.back (subst (λ (n : List ℕ). IsLabelBack n) is c.in_ok-print_label.ensures.read_back);
    }

pub returns-clause-back : goal.returns-clause-back
returns-clause-back c =
    label_all (name_at c.args.names.now) c.args.labels.now c.loop-label.label-index c.loop-label-test.false c.loop-label.invariant.back
