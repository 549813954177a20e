use Rattle.std.proofs.Common.{refl}
use Rattle.lburg_tables.proofs.lemmas.RowLaws.{cheaper_declined}
use Rattle.tree_labeller.specs.Merged.{after_chain}
use Rattle.tree_labeller.proofs.merging.try_chain.Goals as goal

pub returns-then-is_below : goal.returns-then-is_below
returns-then-is_below c =
    let below = c.if-is_below.ensures.0 refl in
    cheaper_declined c.args.row.now c.args.chain.now.to _ (after_chain c.args.from c.args.chain.now) c.requires.fits.to below.1 below.0
