-- Trees of operators over nodes that are there already: what a block is asked for, one node behind the other. And what they give.
-- Source: Fraser and Hanson, A Retargetable C Compiler, chapter 5.
use Rattle.std.specs.Prelude.{◌≡◌, ℕ, List, [], ◌∷◌}
use Rattle.op_forest.specs.Nodes.{Head}
use Rattle.forests.specs.Actions.{Action, Gave}
use Rattle.forests.specs.Addresses.{Environment}
use Rattle.forests.specs.Objects.{Object}
use Rattle.forests.specs.Rows.{acts}
use Rattle.forests.specs.Words.{Word}
use Rattle.c_match.specs.Ranges.{Map}

-- a node that is there, by its number; or an operator over no, one or two others
pub data Template : Type 0 where
  Given : (node : ℕ) → Template
  Leaf : (head : Head) → Template
  One : (head : Head) (a : Template) → Template
  Two : (head : Head) (a b : Template) → Template

-- what templates are read in: the ranges of C's objects, what rows read, the objects, and the values of the nodes that are there
pub record Scene : Type 0 where
  pub map : Map
  pub environment : Environment
  pub objects : List Object
  pub values : ℕ → Word

-- the word is the template's value, each operator over the values of its operands
abbrev pub Gives : Scene → Template → Word → Type 0
Gives k (Given n) w = k.values n ≡ w
Gives k (Leaf h) w = acts k.environment h [] k.objects ≡ Gave w
Gives k (One h a) w = (x : Word) × Gives k a x × (acts k.environment h (x ∷ []) k.objects ≡ Gave w)
Gives k (Two h a b) w = (x y : Word) × Gives k a x × Gives k b y × (acts k.environment h (x ∷ y ∷ []) k.objects ≡ Gave w)

-- a root with two operands, which acts once they have values
pub record Root : Type 0 where
  pub head : Head
  pub left : Template
  pub right : Template

pub record Acts (k : Scene) (r : Root) (x : Action) : Type 0 where
  pub first : Word
  pub second : Word
  pub left : Gives k r.left first
  pub right : Gives k r.right second
  pub does : acts k.environment r.head (first ∷ second ∷ []) k.objects ≡ x
