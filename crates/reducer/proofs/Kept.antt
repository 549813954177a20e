-- The labels that cells keep of a tree, and what the start symbol's cell at its root says.
use Rattle.std.proofs.Common.{◌≡◌, ◌≢◌, ℕ, ◌+◌, ◌^◌, ◌<◌, Option, Some, None, List, length, Fits, w64, refl, sym, ap, ◌∙◌, subst, arith}
use Rattle.lburg_model.specs.declared.rule.Rule.{Rule}
use Rattle.lburg_model.specs.Tree.{MTree}
use Rattle.lburg_model.specs.Description.{MDescription}
use Rattle.lburg_model.specs.Derivation.{MDerivation, cost, count}
use Rattle.lburg_model.specs.Best.{IsBest, HasNone}
use Rattle.lburg_tables.specs.declared.cell.Cell.{Cell}
use Rattle.tree_labeller.specs.Rows.{Row}
use Rattle.tree_labeller.specs.MCells.{MCells}
use Rattle.tree_labeller.specs.Labelled.{Labelled, cell}
use Rattle.tree_labeller.specs.IsLabelled.{IsLabelled}
use Rattle.tree_labeller.specs.Totals.{sound_of}
use Rattle.tree_labeller.proofs.lemmas.Cover.{cell_is_best, no_cell}

-- the tree is labelled by the board and the rules
pub labelled_in : (d : MDescription) (k board : MCells) (rules : List Rule) (t : MTree) → board ≡ k → rules ≡ d.rules → IsLabelled d k t → Labelled board.rows rules board.nonterminals 0 t
labelled_in d k board rules t same_board same_rules labelled =
    let Board : MCells → Type 0 = λ z. Labelled z.rows rules z.nonterminals 0 t in
    let Rules : List Rule → Type 0 = λ z. Labelled k.rows z k.nonterminals 0 t in
    subst Board (sym same_board) (subst Rules (sym same_rules) labelled)

-- the place behind that of a labelled tree is within the rows
pub next_place : (rows : List Row) (d : List Rule) (w at : ℕ) (t : MTree) → Labelled rows d w at t → length rows < 2 ^ 64 → Fits w64 (at + 1)
next_place rows d w at t labelled room = let inside = (sound_of rows d w at t labelled).within in omega arith

-- the cell of the start symbol at the root, by equal boards and start symbols
start_found : (d : MDescription) (k board : MCells) (start : ℕ) (found : Option Cell) → board ≡ k → start ≡ d.start → found ≡ cell board.rows 0 start → cell k.rows 0 d.start ≡ found
start_found d k board start found same_board same_start is =
    ap (λ (z : MCells). cell z.rows 0 d.start) (sym same_board) ∙ ap (cell board.rows 0) (sym same_start) ∙ sym is

-- it has the best derivation's cost and count
pub start_best : (d : MDescription) (k board : MCells) (start : ℕ) (found : Option Cell) (c : Cell) (many : ℕ) (t : MTree) → board ≡ k → start ≡ d.start → found ≡ cell board.rows 0 start → found ≡ Some c → many ≡ c.count → IsLabelled d k t → (x : MDerivation) × IsBest d t x × (c.cost ≡ cost d.rules x) × (many ≡ count x)
start_best d k board start found c many t same_board same_start is some same_many labelled =
    let (x, best, of, rules) = cell_is_best k.rows d.rules k.nonterminals d.start t 0 c labelled (start_found d k board start found same_board same_start is ∙ some) in
    (x, best, of, same_many ∙ rules)

-- where there is none, the tree has no derivation
pub start_none : (d : MDescription) (k board : MCells) (start : ℕ) (found : Option Cell) (t : MTree) → board ≡ k → start ≡ d.start → found ≡ cell board.rows 0 start → found ≡ None → IsLabelled d k t → HasNone d t
start_none d k board start found t same_board same_start is empty labelled =
    no_cell k.rows d.rules k.nonterminals d.start t 0 labelled (start_found d k board start found same_board same_start is ∙ empty)

-- where the tree has a derivation, there is one
pub start_some : (d : MDescription) (k board : MCells) (start : ℕ) (t : MTree) → board ≡ k → start ≡ d.start → IsLabelled d k t → (HasNone d t → ⊥) → cell board.rows 0 start ≢ None
start_some d k board start t same_board same_start labelled covered = λ empty. covered (start_none d k board start None t same_board same_start (sym empty) refl labelled)
