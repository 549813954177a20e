-- A line of a tail, as tokens: blank, or a tree.
--   tree = name [ "[" number "]" ] [ "(" tree [ "," tree ] ")" ]
use Rattle.std.specs.Prelude.{◌≡◌, ◌≢◌, ◌⊎◌, ℕ, Option, Some, None, List, [], ◌∷◌}
use Rattle.lcc_text.specs.Stops.{next}
use Rattle.lburg_lines.specs.declared.token.Sign.TheVariants.{Open, Close, Comma, OpenBracket, CloseBracket}
use Rattle.lburg_lines.specs.Tokens.{Tok, Word, Mark}
use Rattle.lburg_lines.specs.Numbers.{MNumber, IsNumber, number_token}

-- a name with no, one or two operands, and perhaps a constant
pub data MTail : Type 0 where
  Alone : (name : List ℕ) (constant : Option MNumber) → MTail
  Over : (name : List ℕ) (constant : Option MNumber) (a : MTail) → MTail
  Both : (name : List ℕ) (constant : Option MNumber) (a b : MTail) → MTail

-- the tokens of a constant, and rest behind them
abbrev pub constant_then : Option MNumber → List Tok → List Tok
constant_then None rest = rest
constant_then (Some number) rest = Mark OpenBracket ∷ (number_token number ∷ (Mark CloseBracket ∷ rest))

-- the tokens of a tree, and rest behind them
abbrev pub tree_then : MTail → List Tok → List Tok
tree_then (Alone n c) rest = Word n ∷ constant_then c rest
tree_then (Over n c a) rest = Word n ∷ constant_then c (Mark Open ∷ tree_then a (Mark Close ∷ rest))
tree_then (Both n c a b) rest = Word n ∷ constant_then c (Mark Open ∷ tree_then a (Mark Comma ∷ tree_then b (Mark Close ∷ rest)))

abbrev pub IsConstant : Option MNumber → Type 0
IsConstant None = Unit {0}
IsConstant (Some number) = IsNumber number

-- each constant is a number from -2147483648 to 4294967295
abbrev pub HasNumbers : MTail → Type 0
HasNumbers (Alone n c) = IsConstant c
HasNumbers (Over n c a) = IsConstant c × HasNumbers a
HasNumbers (Both n c a b) = IsConstant c × HasNumbers a × HasNumbers b

-- what stands behind a tree isn't part of it
abbrev pub Ends : MTail → List Tok → Type 0
Ends (Alone n None) rest = (next rest ≢ Some (Mark OpenBracket)) × (next rest ≢ Some (Mark Open))
Ends (Alone n (Some number)) rest = next rest ≢ Some (Mark Open)
Ends (Over n c a) rest = Unit {0}
Ends (Both n c a b) rest = Unit {0}

abbrev pub IsTreeLine : List Tok → Type 0
IsTreeLine tokens = (tokens ≡ []) ⊎ ((tree : MTail) × HasNumbers tree × (tokens ≡ tree_then tree []))

abbrev pub root_of : MTail → List ℕ
root_of (Alone n c) = n
root_of (Over n c a) = n
root_of (Both n c a b) = n

abbrev pub operands_of : MTail → ℕ
operands_of (Alone n c) = 0
operands_of (Over n c a) = 1
operands_of (Both n c a b) = 2
