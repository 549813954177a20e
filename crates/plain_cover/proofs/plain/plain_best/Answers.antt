use Rattle.std.proofs.Common.{◌≡◌, ℕ, length, Option, sym, ap, ◌∙◌, subst, arith, List}
use Rattle.std.specs.Prelude.{IfSome, IfNone}
use Rattle.lburg_model.specs.declared.rule.Rule.{Rule}
use Rattle.lburg_model.specs.Tree.{MTree}
use Rattle.lburg_model.specs.Description.{MDescription}
use Rattle.lburg_model.specs.Derivation.{MDerivation}
use Rattle.lburg_model.specs.Best.{IsBest, HasNone}
use Rattle.plain_cover.specs.declared.plain.Found.{Found}
use Rattle.plain_cover.specs.Room.{room}
use Rattle.plain_cover.specs.Told.{told}
use Rattle.plain_cover.specs.IsLeastOf.{IsLeastOf}
use Rattle.plain_cover.specs.Within.{Within}
use Rattle.plain_cover.specs.AreRules.{AreRules}
use Rattle.plain_cover.proofs.Small.{room_small}
use Rattle.plain_cover.proofs.Search.{answered}
use Rattle.plain_cover.proofs.Whole.{are_rules, found_best, found_none}
use Rattle.plain_cover.proofs.plain.plain_best.Goals as goal

pub best_within-requires-clause-rules : goal.best_within-requires-clause-rules
best_within-requires-clause-rules g c = subst AreRules (sym c.rules.ensures.value) (are_rules c.args.description.now c.rules.ensures.is)

pub best_within-requires-clause-height : goal.best_within-requires-clause-height
best_within-requires-clause-height g c =
    let tree = g.N.TreeNode.tree c.args.tree.now in
    let few = c.rules.ensures.is.nonterminals in
    let same = ap (λ (l : List (List ℕ)). length l) c.nonterminals.ensures.value in
    let h = room_small (length c.nonterminals.result.now) tree (omega arith) in
    let e = c.room_of-height.ensures in
    omega (arith, c.requires)

-- what the search found, of the description and the tree's room
found : (d : MDescription) (rules : List Rule) (names : List (List ℕ)) (start height : ℕ) (t : MTree) (o : Option Found) → rules ≡ d.rules → names ≡ d.nonterminals → start ≡ d.start → height ≡ room (length names) t → IsLeastOf (told rules) (Within rules start t height) o → IsLeastOf (told d.rules) (Within d.rules d.start t (room (length d.nonterminals) t)) o
found d rules names start height t o a b e f h =
    let P : List Rule → ℕ → ℕ → Type 0 = λ rs n k. IsLeastOf (told rs) (Within rs n t k) o in
    let g : height ≡ room (length d.nonterminals) t = f ∙ ap (λ (l : List (List ℕ)). room (length l) t) b in
    subst (λ (k : ℕ). P d.rules d.start k) g (subst (λ (n : ℕ). P d.rules n height) e (subst (λ (rs : List Rule). P rs start height) a h))

pub returns-clause-some : goal.returns-clause-some
returns-clause-some g c =
    let d = c.args.description.now in
    let tree = g.N.TreeNode.tree c.args.tree.now in
    answered (IsLeastOf (told c.rules.result.now) (Within c.rules.result.now c.start.result tree c.room_of-height.result)) (λ o. IfSome o (λ f. (x : MDerivation) × IsBest d tree x × (f ≡ told d.rules x)))
    (λ o h. found_best d c.rules.ensures.is tree o (found d c.rules.result.now c.nonterminals.result.now c.start.result c.room_of-height.result tree o c.rules.ensures.value c.nonterminals.ensures.value c.start.ensures.value c.room_of-height.ensures h))
    c.best_within.result c.best_within.ensures

pub returns-clause-none : goal.returns-clause-none
returns-clause-none g c =
    let d = c.args.description.now in
    let tree = g.N.TreeNode.tree c.args.tree.now in
    answered (IsLeastOf (told c.rules.result.now) (Within c.rules.result.now c.start.result tree c.room_of-height.result)) (λ o. IfNone o (HasNone d tree))
    (λ o h. found_none d c.rules.ensures.is tree o (found d c.rules.result.now c.nonterminals.result.now c.start.result c.room_of-height.result tree o c.rules.ensures.value c.nonterminals.ensures.value c.start.ensures.value c.room_of-height.ensures h))
    c.best_within.result c.best_within.ensures
