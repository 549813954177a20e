-- tree = name [ "(" tree [ "," tree ] ")" ]
use Rattle.std.specs.Prelude.{ℕ, ◌+◌, max, List, ◌∷◌}
use Rattle.lburg_lines.specs.declared.token.Sign.TheVariants.{Open, Close, Comma}
use Rattle.lburg_lines.specs.declared.named_tree.NamedTree.{NamedTree, Leaf, Unary', Binary'}
use Rattle.lburg_lines.specs.Tokens.{Tok, Word, Mark}

-- a name with no, one or two operands
pub data MNamed : Type 0 where
  Alone : (name : List ℕ) → MNamed
  Over : (name : List ℕ) (a : MNamed) → MNamed
  Both : (name : List ℕ) (a b : MNamed) → MNamed

abbrev pub named_of : NamedTree → MNamed
named_of (Leaf n) = Alone n.now
named_of (Unary' n p a) = Over n.now (named_of a)
named_of (Binary' n p a q b) = Both n.now (named_of a) (named_of b)

-- the tokens of a tree, and rest behind them
abbrev pub tree_then : MNamed → List Tok → List Tok
tree_then (Alone n) rest = Word n ∷ rest
tree_then (Over n a) rest = Word n ∷ (Mark Open ∷ tree_then a (Mark Close ∷ rest))
tree_then (Both n a b) rest = Word n ∷ (Mark Open ∷ tree_then a (Mark Comma ∷ tree_then b (Mark Close ∷ rest)))

-- how many names stand in a tree
abbrev pub names_in : MNamed → ℕ
names_in (Alone n) = 1
names_in (Over n a) = names_in a + 1
names_in (Both n a b) = names_in a + names_in b + 1

-- how many names stand on the longest way down
abbrev pub height : MNamed → ℕ
height (Alone n) = 1
height (Over n a) = height a + 1
height (Both n a b) = max (height a) (height b) + 1
