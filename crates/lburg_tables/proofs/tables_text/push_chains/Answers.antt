use Rattle.std.proofs.Common.{ap, ◌∙◌, ◌++◌}
use Rattle.lburg_tables.specs.TablesText.{chain_line}
use Rattle.lburg_tables.proofs.Lines.{chain_step}
use Rattle.lburg_tables.proofs.tables_text.push_chains.Goals as goal

pub loop-place-preserved : goal.loop-place-preserved
loop-place-preserved c =
    let rules = c.args.tables.now.rules in
    let written = c.in_ok-push_chain.ensures ∙ ap (λ name. c.loop-place.out ++ chain_line rules c.loop-place.place name) c.as_slice.ensures in
    chain_step rules c.loop-place.place c.nonterminals-names.result.now c.index-names-place.result c.args.out.now c.loop-place.out c.push_chain.new.out c.loop-place-test.true c.index-names-place.is c.loop-place.invariant written
