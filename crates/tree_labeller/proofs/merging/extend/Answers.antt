use Rattle.std.proofs.Common.{◌≡◌, ◌<◌, Some, length, get_or, arith}
use Rattle.std.specs.Prelude.{slice_get}
use Rattle.std.proofs.lemmas.Option.{slice_get-get_or}
use Rattle.lburg_tables.specs.RowOf.{row_of}
use Rattle.lburg_tables.proofs.lemmas.RowLaws.{row_within}
use Rattle.tree_labeller.proofs.MergedRows.{extended_more}
use Rattle.tree_labeller.proofs.merging.extend.Goals as goal

pub loop-chain-preserved : goal.loop-chain-preserved
loop-chain-preserved g c =
    let chains = c.args.chains.now in
    let k = c.loop-chain.chain-index in
    let x = get_or chains k (record { cost = 0; count = 0; rule = 0; to = 0 }) in
    let here : slice_get chains k ≡ Some x = slice_get-get_or chains k _ c.loop-chain-test.true in
    let row = c.loop-chain.row in
    let inside : x.to < length row = (let to = (c.requires.fit k x here).to in let same = c.loop-chain.auto.row in omega arith) in
    let had = c.loop-chain.invariant in
    record {
      extended = extended_more chains c.args.from (row_of c.args.row.now) (row_of row) (row_of c.try_chain.new.row) k x here (row_within row x.to inside) had.extended c.try_chain.ensures;
      steps = let steps = had.steps in let tick = c.tick.ensures in omega arith;
    }
