use Rattle.std.proofs.Common.{◌≡◌, ◌≤◌, List, [], ◌∷◌, refl, sym, subst, arith}
use Rattle.lburg_lines.specs.declared.token.Token.{Token}
use Rattle.lburg_lines.specs.Tokens.{views}
use Rattle.lburg_lines.specs.Spelling.{Spells}
use Rattle.lburg_model.specs.Tree.{nodes}
use Rattle.lburg_trees.proofs.tail.take_line.Goals as goal

pub take_tree-requires-clause-count : goal.take_tree-requires-clause-count
take_tree-requires-clause-count g c = c.in_ok-line_tree.ensures.counted (c.in-Some.tree, c.in-Some.count) c.in-Some.is

pub take_tree-requires-clause-small : goal.take_tree-requires-clause-small
take_tree-requires-clause-small g c =
    let is = c.in_ok-line_tree.ensures.tree (c.in-Some.tree, c.in-Some.count) c.in-Some.is in
    let small : nodes c.in-Some.tree ≤ 65535 = is.small in
    let same : c.in-Some.count ≡ nodes c.in-Some.tree = c.in_ok-line_tree.ensures.counted (c.in-Some.tree, c.in-Some.count) c.in-Some.is in
    omega arith

pub returns-in_ok-take_tree-in-Some-clause-found : goal.returns-in_ok-take_tree-in-Some-clause-found
returns-in_ok-take_tree-in-Some-clause-found g c =
    let is = c.in_ok-line_tree.ensures.tree (c.in-Some.tree, c.in-Some.count) c.in-Some.is in
    let Spelled : List Token → Type 0 = λ ts. Spells (views ts) c.args.line.now in
    let spelled = subst Spelled (sym c.deref.ensures.value) c.in_ok-replace_tokens.ensures in
    (c.in-Some.tree ∷ [], (views c.deref.result.now, spelled, is), (c.take_tree.new.self, c.in_ok-take_tree-in-Some.ensures.taken, refl), refl)
