use Rattle.std.proofs.Common.{◌∙◌, ℕ, List, [], ◌∷◌, ◌++◌, ap, sym, subst, None}
use Rattle.lburg_model.specs.Tree.{MTree, TLeaf}
use Rattle.lburg_model.specs.Shape.{tree_of}
use Rattle.lburg_trees.specs.Setting.{placed}
use Rattle.lburg_trees.specs.Known.{ReadsName}
use Rattle.lburg_trees.specs.PlainTree.{ReadsPlain}
use Rattle.lburg_trees.proofs.PlainTrees.{in_both, leaf_plain, one_plain, two_plain}
use Rattle.lburg_trees.proofs.plain_tree.+plain.Goals as goal

pub operands-returns-then-head-eq1-clause-found : goal.operands-returns-then-head-eq1-clause-found
operands-returns-then-head-eq1-clause-found t c = λ bytes h.
    let d = c.args.d.now in
    let o = c.args.before.opened in
    let n = c.args.before.names in
    let op = c.args.head.op in
    let behind = c.args.head.rest.now in
    let first = c.in_ok-first.first in
    let f = c.in_ok-first.ensures.found in
    let kids = f.added ∙ ap (λ (l : List MTree). l ++ f.tree ∷ []) c.in-Ok.ensures.items in
    let name = subst (λ (k : ℕ). ReadsName d bytes behind op k) c.if-head-eq1.true h in
    subst (λ (z : MTree). ReadsPlain d (placed o n) bytes c.in_ok-rest.rest.now z) (sym (c.new.ensures ∙ ap (tree_of op None) (c.from_vec.ensures ∙ kids)))
    (one_plain d o n bytes behind c.in_ok-after.field-0.now first.rest.now c.in_ok-rest.rest.now op f.tree name c.in_ok-after.ensures f.reads c.in_ok-rest.ensures)

pub operands-returns-clause-found : goal.operands-returns-clause-found
operands-returns-clause-found t c = λ bytes h.
    let d = c.args.d.now in
    let o = c.args.before.opened in
    let n = c.args.before.names in
    let op = c.args.head.op in
    let behind = c.args.head.rest.now in
    let first = c.in_ok-first.first in
    let second = c.in_ok-second.second in
    let f = c.in_ok-first.ensures.found in
    let s = c.in_ok-second.ensures.found in
    let kids = s.added ∙ ap (λ (l : List MTree). l ++ s.tree ∷ []) (f.added ∙ ap (λ (l : List MTree). l ++ f.tree ∷ []) c.in-Ok.ensures.items) in
    let name = subst (λ (k : ℕ). ReadsName d bytes behind op k) c.if-head-ne2.false h in
    subst (λ (z : MTree). ReadsPlain d (placed o n) bytes c.in_ok-rest-2.rest.now z) (sym (c.new-2.ensures ∙ ap (tree_of op None) (c.from_vec-2.ensures ∙ kids)))
    (two_plain d o n first.names bytes behind c.in_ok-after.field-0.now first.rest.now c.in_ok-after-2.field-0.now second.rest.now c.in_ok-rest-2.rest.now op f.tree s.tree name c.in_ok-after.ensures f.reads f.counted c.in_ok-after-2.ensures s.reads c.in_ok-rest-2.ensures)

pub plain_kid-returns-then-head-eq0-clause-found : goal.plain_kid-returns-then-head-eq0-clause-found
plain_kid-returns-then-head-eq0-clause-found t c =
    let d = c.args.d.now in
    let o = c.args.before.opened in
    let n = c.args.before.names in
    let head = c.in_ok-head.head in
    let bytes = c.args.bytes.now in
    let old = c.args.kids.now.items in
    let name = subst (λ (k : ℕ). ReadsName d bytes head.rest.now head.op k) c.if-head-eq0.true c.in_ok-head.ensures.found in
    let reads = leaf_plain d o n bytes head.rest.now head.op name c.requires.open c.if-before-ge-MOST_NODES.false in
    let is = c.new-leaf.ensures ∙ ap (tree_of head.op None) c.new.ensures in
    in_both c.add_kid.result _ _ _
    (λ f behind added.
    record {
      tree = TLeaf head.op None;
      reads = subst (λ (z : List ℕ). ReadsPlain d (placed o n) bytes z (TLeaf head.op None)) (sym behind.1) reads;
      counted = behind.0;
      added = added ∙ ap (λ (z : MTree). old ++ z ∷ []) is;
    })
    c.add_kid.ensures.behind c.add_kid.ensures.added
