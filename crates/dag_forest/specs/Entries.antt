-- The entries of a block: nodes and roots in the order in which they were added. A node's number is its place among the
-- nodes.
use Rattle.std.specs.Prelude.{ℕ, ◌<◌, ℤ, Option, Bool, true, false}
use Rattle.op_forest.specs.declared.op.Op.{Op}
use Rattle.op_forest.specs.declared.op.Op.TheVariants as op
use Rattle.op_forest.specs.declared.operator.Operator.{Operator}
use Rattle.op_forest.specs.declared.sym.Sym.{Sym}
use Rattle.dag_forest.specs.declared.parts.Parts.{Parts}
use Rattle.dag_forest.specs.declared.kids.Kids.{Kids}
use Rattle.dag_forest.specs.declared.kids.Kids.TheVariants.{Zero, One, Two}

abbrev pub parts_of : Operator → Kids → Sym → Option ℤ → Parts
parts_of operator kids sym constant = record { operator = operator; kids = kids; sym = sym; constant = constant }

-- the operands are among the first n nodes
abbrev pub AreBelow : ℕ → Kids → Type 0
AreBelow n Zero = Unit {0}
AreBelow n (One a) = a < n
AreBelow n (Two a b) = (a < n) × (b < n)

abbrev pub is_call : Op → Bool
is_call op.Call = true
is_call o = false

abbrev pub is_write : Op → Bool
is_write op.Asgn = true
is_write o = false

abbrev pub is_read : Op → Bool
is_read op.Indir = true
is_read o = false
