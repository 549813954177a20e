use Rattle.std.proofs.Common.{sym, ◌∙◌, arith}
use Rattle.std.proofs.lemmas.List.{length-map}
use Rattle.lburg_lines.specs.Tokens.{view, views}
use Rattle.lburg_faults.proofs.EndingTokens.{view_at}
use Rattle.lburg_faults.proofs.EndingNodes.{small_behind, limit_here, counted_name, counted_not}
use Rattle.lburg_faults.proofs.ending.node_too_many.Goals.{then-is_node+else-nodes-eq-MOST_NODES, else-is_node}
use Rattle.lburg_faults.proofs.ending.node_too_many.Goals as goal

pub returns-then-is_template-clause-none : goal.returns-then-is_template-clause-none
returns-then-is_template-clause-none c =
    let h = small_behind (views c.args.tokens.now) c.loop-place.place c.loop-place.nodes _ (view_at c.args.tokens.now c.loop-place.place _ c.loop-place-test.true) (sym c.is_template.ensures ∙ c.if-is_template.true) c.loop-place.invariant in
    λ place l p. h place (let e = length-map c.args.tokens.now view in omega arith) p

pub returns-then-nodes-eq-MOST_NODES-clause-some :
    goal.returns-then-nodes-eq-MOST_NODES-clause-some
returns-then-nodes-eq-MOST_NODES-clause-some c =
    let h = c.is_node.ensures.yes c.if-is_node.true in
    limit_here (views c.args.tokens.now) c.loop-place.place c.loop-place.nodes _ (view_at c.args.tokens.now c.loop-place.place _ c.loop-place-test.true) h.1 h.0 c.if-nodes-eq-MOST_NODES.true c.loop-place.invariant

pub loop-place-preserved : goal.loop-place-preserved
loop-place-preserved c =
    let at = view_at c.args.tokens.now c.loop-place.place _ c.loop-place-test.true in
    let plain = sym c.is_template.ensures ∙ c.if-is_template.false in
    elim c.if-is_node.branch [
      | then-is_node+else-nodes-eq-MOST_NODES w ↦
          let h = c.is_node.ensures.yes w.if-is_node.true in
          rw w.nodes-is (counted_name (views c.args.tokens.now) c.loop-place.place c.loop-place.nodes _ at plain h.1 h.0 w.if-nodes-eq-MOST_NODES.false c.loop-place.invariant)
      | else-is_node w ↦
          rw w.nodes-is (counted_not (views c.args.tokens.now) c.loop-place.place c.loop-place.nodes _ at plain (λ a b. (let e = c.is_node.ensures.no a b in let f = w.if-is_node.false in cc)) c.loop-place.invariant)
    ]

pub returns-clause-none : goal.returns-clause-none
returns-clause-none c = λ place l p. c.loop-place.invariant.small place (let h = c.loop-place-test.false in omega arith) p
