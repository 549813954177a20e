use Rattle.std.proofs.Common.{◌∙◌, ℕ, ap, sym, subst, None}
use Rattle.lburg_model.specs.Tree.{MTree}
use Rattle.lburg_model.specs.Shape.{tree_of}
use Rattle.lburg_trees.specs.Setting.{placed}
use Rattle.lburg_trees.specs.Known.{ReadsName}
use Rattle.lburg_trees.specs.PlainTree.{ReadsPlain}
use Rattle.lburg_trees.proofs.PlainTrees.{leaf_plain}
use Rattle.lburg_trees.proofs.plain_tree.plain_tree.Goals as goal

pub returns-then-head-eq0-clause-found :
    goal.returns-then-head-eq0-clause-found
returns-then-head-eq0-clause-found c =
    let d = c.args.d.now in
    let o = c.args.before.opened in
    let n = c.args.before.names in
    let head = c.in_ok-head.head in
    let bytes = c.args.bytes.now in
    let name = subst (λ (k : ℕ). ReadsName d bytes head.rest.now head.op k) c.if-head-eq0.true c.in_ok-head.ensures.found in
    subst (λ (z : MTree). ReadsPlain d (placed o n) bytes head.rest.now z) (sym (c.new-then-head-eq0.ensures ∙ ap (tree_of head.op None) c.new.ensures))
    (leaf_plain d o n bytes head.rest.now head.op name c.requires.open c.if-before-ge-MOST_NODES.false)
