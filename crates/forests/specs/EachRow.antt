-- What holds of each kind of action holds of what each operator does: values, stores through pointers, arguments, calls;
-- returns to the caller alone, and comparisons and jumps alone go on at labels.
use Rattle.std.proofs.Common.{ℕ, Bool, true, false, List}
use Rattle.objects.specs.declared.byte.Byte.{Byte}
use Rattle.objects.specs.declared.value.Value.{Value}
use Rattle.op_forest.specs.declared.op.Op.{Op}
use Rattle.op_forest.specs.declared.op.Op.TheVariants as op
use Rattle.forests.specs.Words.{Word}
use Rattle.forests.specs.Objects.{Object, stored_through}
use Rattle.forests.specs.Worlds.{Next}
use Rattle.forests.specs.Actions.{Action, Gave, Stored, Passed, Called, Moved, Meaningless}

-- behind a jump or a comparison the run may go on at a label
abbrev pub jumps : Op → Bool
jumps op.Eq = true
jumps op.Ne = true
jumps op.Lt = true
jumps op.Le = true
jumps op.Gt = true
jumps op.Ge = true
jumps op.Jump = true
jumps o = false

-- what holds of actions, by their kinds
pub record IsOfKinds (Q : Action → Type 0) (objects : List Object) : Type 0 where
  pub value : (w : Word) → Q (Gave w)
  pub stored : (p : Value) (bytes : List (Byte Word)) → Q (Stored (stored_through objects p bytes))
  pub passed : (w : Word) → Q (Passed w)
  pub call : (valued : Bool) (f : ℕ) → Q (Called valued f)
  pub next : Q (Moved Next)
  pub nothing : Q Meaningless
