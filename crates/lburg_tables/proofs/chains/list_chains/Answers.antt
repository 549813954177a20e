use Rattle.std.proofs.Common.{◌+◌, List, sym, ◌∙◌, subst}
use Rattle.lburg_tables.specs.declared.best_chain.BestChain.{BestChain}
use Rattle.lburg_tables.specs.Listed.{Listed}
use Rattle.lburg_tables.specs.RowOf.{row_of}
use Rattle.lburg_tables.proofs.Chaining.{listed_none, listed_push, listed_skip}
use Rattle.lburg_tables.proofs.chains.list_chains.Goals.{in-Some+in_ok-push, in_default}
use Rattle.lburg_tables.proofs.chains.list_chains.Goals as goal

pub loop-to-init : goal.loop-to-init
loop-to-init c =
    let Of : List BestChain → Type 0 = λ l. Listed (row_of c.args.row.now) c.args.from 0 l in
    subst Of (sym c.new-chains.ensures) (listed_none (row_of c.args.row.now) c.args.from)

pub loop-to-preserved : goal.loop-to-preserved
loop-to-preserved c =
    let row = row_of c.args.row.now in
    let from = c.args.from in
    let to = c.loop-to.to in
    let chains = c.loop-to.chains in
    let After : List BestChain → Type 0 = λ l. Listed row from (to + 1) l in
    elim c.match-chain_to.branch [
      | in-Some+in_ok-push w ↦
          subst After (sym (w.chains-is ∙ w.in_ok-push.ensures.ok)) (listed_push row from to chains w.in-Some.chain (sym c.chain_to.ensures ∙ w.in-Some.is) c.loop-to.invariant)
      | in_default w ↦
          subst After (sym w.chains-is) (listed_skip row from to chains (sym c.chain_to.ensures ∙ w.in_default.is) c.loop-to.invariant)
    ]
