-- The uses of names in patterns, and the first use of a name in a text.
use Rattle.std.specs.Prelude.{◌≡◌, ◌≤◌, ◌<◌, ℕ, ◌+◌, Some, List, length, drop, slice_get}
use Rattle.lburg_lines.specs.Tokens.{Tok}
use Rattle.lburg_lines.specs.NamedTree.{MNamed, Alone, Over, Both, tree_then, names_in}
use Rattle.lburg_lines.specs.Readings.{Ends}
use Rattle.lburg_lines.specs.Sections.{TokenLine}
use Rattle.lburg_faults.specs.Lines.{InPattern}

abbrev pub root_of : MNamed → List ℕ
root_of (Alone n) = n
root_of (Over n a) = n
root_of (Both n a b) = n

abbrev pub operands_of : MNamed → ℕ
operands_of (Alone n) = 0
operands_of (Over n a) = 1
operands_of (Both n a b) = 2

-- At the place stands a tree of a pattern, of at most 16 nodes: the name with so many operands, and its last token.
pub record IsUse (l : TokenLine) (place last : ℕ) (name : List ℕ) (operands : ℕ) : Type 0 where
  pub in_pattern : InPattern l place
  pub tree : MNamed
  pub rest : List Tok
  pub tokens : drop place l.tokens ≡ tree_then tree rest
  pub ends : Ends tree rest
  pub small : names_in tree ≤ 16
  pub name_is : root_of tree ≡ name
  pub operands_are : operands_of tree ≡ operands
  pub last_is : last + 1 + length rest ≡ length l.tokens

-- the lines use the name first with so many operands: first by the place of the name
pub record IsFirstUse (lines : List TokenLine) (name : List ℕ) (operands : ℕ) : Type 0 where
  pub index : ℕ
  pub line : TokenLine
  pub place : ℕ
  pub last : ℕ
  pub there : slice_get lines index ≡ Some line
  pub is_use : IsUse line place last name operands
  pub earlier : (i : ℕ) (l : TokenLine) (p q n : ℕ) → i < index → slice_get lines i ≡ Some l → IsUse l p q name n → ⊥
  pub left : (p q n : ℕ) → p < place → IsUse line p q name n → ⊥
