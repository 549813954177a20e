use Rattle.asm_text.specs.LineTable.{lines_behind}
use Rattle.asm_text.proofs.PrintSteps.{table_next, left_next, text_next, back_next, back_all}
use Rattle.asm_text.proofs.printing.add_lines.Goals as goal

pub loop-line-preserved : goal.loop-line-preserved
loop-line-preserved c =
    let names = c.args.names.now in
    let rest = c.loop-line.rest.now in
    let own = c.split_at.result.0.now in
    let behind = c.split_at.result.1.now in
    let lines = c.args.lines.now in
    let i = c.loop-line.line-index in
    let line = c.line-item.result in
    let seen = lines_behind names 1 c.args.labels.now lines in
    let v = c.loop-line.invariant in
    let split = c.split_at.ensures in
    record {
      table = table_next names rest own behind lines i line c.loop-line-test.true c.line-item.is v.table split.front split.back;
      left = left_next names rest own behind lines i line c.loop-line-test.true c.line-item.is v.table split.front split.back seen v.left;
      text = text_next names rest own behind lines i line c.loop-line-test.true c.line-item.is v.table split.front split.back seen v.left c.loop-line.out c.add_labels.new.out c.add_statement.new.out _ v.text c.in_ok-add_labels.ensures.text c.in_ok-add_statement.ensures.text;
      back = back_next names rest own behind lines i line c.loop-line-test.true c.line-item.is v.table split.front split.back seen v.left v.back c.in_ok-add_labels.ensures.back c.in_ok-add_statement.ensures.back;
    }

pub returns-clause-back : goal.returns-clause-back
returns-clause-back c =
    back_all c.args.names.now c.args.labels.now c.args.lines.now c.loop-line.line-index c.loop-line-test.false c.loop-line.invariant.back
