-- What the names of functions stand for.
-- Source: ISO/IEC 9899:1990, 7.9.7 (putchar, getchar) and 7.10.4 (exit).
use Rattle.std.specs.Prelude.{ℕ, List}
use Rattle.op_forest.specs.declared.frame.Slot.{Slot}
use Rattle.op_forest.specs.Nodes.{Node}

-- a function: the number of its parameter words, its frame and its roots
pub record Body : Type 0 where
  pub words : ℕ
  pub slots : List Slot
  pub roots : List Node

pub data BuiltIn : Type 0 where
  Putchar : BuiltIn
  Getchar : BuiltIn
  Exit : BuiltIn

-- what a name of a function stands for
pub data Callee : Type 0 where
  Defined : (body : Body) → Callee
  Provided : (function : BuiltIn) → Callee
  Missing : Callee
