use Rattle.std.proofs.Common.{ap, ◌∙◌, length}
use Rattle.lburg_model.specs.Pattern.{pattern_of}
use Rattle.lburg_tables.specs.Root.{root_of}
use Rattle.lburg_tables.proofs.Lists.{operators_more, chains_more, operators_many, chains_many, has_list}
use Rattle.lburg_tables.proofs.index.index_of.Goals as goal

pub loop-place-preserved : goal.loop-place-preserved
loop-place-preserved c =
    let place = c.loop-place.place in
    let rules = c.rules-rules.result.now in
    let rule = c.index-rules-place.result in
    let root = root_of (pattern_of rule.pattern) in
    let before = c.loop-place.index in
    let had = c.loop-place.invariant in
    let after = c.add.new.self in
    let now = c.in_ok-add.ensures in
    let fits = has_list c.args.d.now rules place rule (length before.operators.items) (length before.chains.items) c.rules-rules.ensures.is c.rules-rules.ensures.value c.loop-place-test.true c.index-rules-place.is had.operators_many had.chains_many in
    record {
      operators_many = ap length now.operators ∙ operators_many root place before.operators.items ∙ had.operators_many;
      chains_many = ap length now.chains ∙ chains_many root place before.chains.items ∙ had.chains_many;
      operators = operators_more rules place rule before.operators.items after.operators.items (length before.chains.items) c.loop-place-test.true c.index-rules-place.is fits now.operators had.operators;
      chains = chains_more rules place rule before.chains.items after.chains.items (length before.operators.items) c.loop-place-test.true c.index-rules-place.is fits now.chains had.chains;
    }
