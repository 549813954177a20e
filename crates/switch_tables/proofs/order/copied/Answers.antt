use Rattle.c_meaning.specs.declared.core_stmt.CoreCase.{CoreCase}
use Rattle.switch_tables.proofs.lemmas.Filling.{copies_more, words_more}
use Rattle.switch_tables.proofs.order.copied.Goals as goal

pub loop-case-preserved : goal.loop-case-preserved
loop-case-preserved c =
    let cases = c.args.cases.now in
    let i = c.loop-case.case-index in
    let d : CoreCase = record { number = 0; label = 0 } in
    record {
      same = copies_more cases c.loop-case.copies.items c.push.new.self.items i d c.read_case.result c.loop-case-test.true c.loop-case.invariant.same c.read_case.ensures.same c.in_ok-push.ensures.items;
      words = words_more cases i d c.loop-case-test.true c.loop-case.invariant.words c.read_case.ensures.word;
    }
