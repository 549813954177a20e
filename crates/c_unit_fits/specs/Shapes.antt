-- The shape of typed statements, apart from their expressions: which labels and locals they name.
-- Source: C89 3.1.2.1, 3.6.1, 3.6.4.2, 3.6.6.1.
use Rattle.std.specs.Prelude.{◌≡◌, ◌≤◌, ℕ, ◌+◌, true, IfSome, List, length}
use Rattle.c_types.specs.CType.{CType}
use Rattle.c_types.specs.Table.{AreBelow}
use Rattle.c_meaning.specs.BlockLocals.{declared_in, are_next}
use Rattle.c_meaning.specs.StmtTrees.{StmtOf, Block, If, While, Do, For, Switch, Label, Goto, StmtsOf, NoStmt, Stmts}
use Rattle.c_meaning.specs.Units.{are_among, are_apart, is_among, labels, numbers}
use Rattle.c_units.specs.Bodies.{Typed}

-- Blocks declare locals below this number; a switch's cases are apart, and its cases and default stand in its body; and a goto
-- names one of these labels.
abbrev mutual
  pub IsShaped : ℕ → List ℕ → StmtOf CType → Type 0
  IsShaped n ns (Block first locals ss) = (first + locals ≤ n) × AreShaped n ns ss
  IsShaped n ns (If e s t) = IsShaped n ns s × IsShaped n ns t
  IsShaped n ns (While e s) = IsShaped n ns s
  IsShaped n ns (Do s e) = IsShaped n ns s
  IsShaped n ns (For a b c s) = IsShaped n ns s
  IsShaped n ns (Switch e cases default s) =
      (are_apart (numbers cases) ≡ true)
      × ((are_among cases (labels s) ≡ true) × (IfSome default (λ m. is_among m (labels s) ≡ true) × IsShaped n ns s))
  IsShaped n ns (Label m s) = IsShaped n ns s
  IsShaped n ns (Goto m) = is_among m ns ≡ true
  IsShaped n ns s = Unit {0}

  pub AreShaped : ℕ → List ℕ → StmtsOf CType → Type 0
  AreShaped n ns NoStmt = Unit {0}
  AreShaped n ns (Stmts s ss) = IsShaped n ns s × AreShaped n ns ss

-- A function's body, whose parameters are the first locals: its labels are apart and below the number that it has of them, and the
-- locals of its blocks follow its parameters in order.
pub record HasShape (parameters : ℕ) (t : Typed (StmtOf CType)) : Type 0 where
  pub once : are_apart (labels t.code) ≡ true
  pub low : AreBelow t.body.marks (labels t.code)
  pub blocks : are_next parameters t.code ≡ true
  pub all : parameters + declared_in t.code ≡ length t.body.locals
  pub shaped : IsShaped (length t.body.locals) (labels t.code) t.code
