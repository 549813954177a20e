-- Templates of which each operator has the operands and the constant that it needs.
-- Source: Fraser and Hanson, A Retargetable C Compiler, chapter 5.
use Rattle.std.specs.Prelude.{◌≡◌, ◌≤◌, ℕ, IsTrue, Option, Some, List, [], ◌∷◌}
use Rattle.op_forest.specs.declared.op.Op.{Op}
use Rattle.op_forest.specs.declared.op.Op.TheVariants as op
use Rattle.op_forest.specs.declared.suffix.Suffix.{Suffix}
use Rattle.op_forest.specs.declared.suffix.Suffix.TheVariants.{I, U, P}
use Rattle.op_forest.specs.Nodes.{Head}
use Rattle.op_forest.specs.Operators.{number}
use Rattle.op_forest.specs.Signature.{takes, gives_value}
use Rattle.forests.specs.WellFormed.{HasPart}
use Rattle.c_rows_agree.specs.Templates.{Template, Given, Leaf, One, Two, Root}
use Rattle.c_rows_agree.specs.Typed.{Typed}

-- calls and the addresses of locals aren't among templates' operators
abbrev pub IsOrdinary : Op → Type 0
IsOrdinary op.Call = ⊥
IsOrdinary op.Addrl = ⊥
IsOrdinary o = Unit {0}

-- one of the 69 operators, with its constant and operands of these suffixes
pub record FitsHead (h : Head) (suffixes : List Suffix) : Type 0 where
  pub operator : 1 ≤ number h.operator.op h.operator.suffix
  pub part : HasPart h.operator.op h.operator.suffix h.sym h.value
  pub operands : takes h.operator.op h.operator.suffix ≡ suffixes
  pub ordinary : IsOrdinary h.operator.op

-- which gives a value of this suffix
pub record FitsNode (h : Head) (suffixes : List Suffix) (s : Suffix) : Type 0 where
  pub fits : FitsHead h suffixes
  pub value : IsTrue (gives_value h.operator.op h.operator.suffix)
  pub suffix : h.operator.suffix ≡ s

-- A template of a value of this suffix, where it is known which of the nodes that are there give values, and of which suffixes.
abbrev pub Fits : (ℕ → Option Suffix) → Template → Suffix → Type 0
Fits given (Given n) s = given n ≡ Some s
Fits given (Leaf h) s = FitsNode h [] s
Fits given (One h a) s = (t : Suffix) × FitsNode h (t ∷ []) s × Fits given a t
Fits given (Two h a b) s = (t u : Suffix) × FitsNode h (t ∷ u ∷ []) s × Fits given a t × Fits given b u

pub record FitsRoot (given : ℕ → Option Suffix) (r : Root) : Type 0 where
  pub first : Suffix
  pub second : Suffix
  pub fits : FitsHead r.head (first ∷ second ∷ [])
  pub left : Fits given r.left first
  pub right : Fits given r.right second

-- ---- values of C

abbrev pub IsInteger : Suffix → Type 0
IsInteger I = Unit {0}
IsInteger U = Unit {0}
IsInteger s = ⊥

abbrev pub IsScalar : Suffix → Type 0
IsScalar P = Unit {0}
IsScalar s = IsInteger s

pub record FitsTyped (given : ℕ → Option Suffix) (a : Typed) : Type 0 where
  pub fits : Fits given a.tree a.suffix
  pub scalar : IsScalar a.suffix

pub record FitsInteger (given : ℕ → Option Suffix) (a : Typed) : Type 0 where
  pub fits : Fits given a.tree a.suffix
  pub integer : IsInteger a.suffix
