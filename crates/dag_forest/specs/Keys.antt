-- When two nodes are equal: where their keys are the same.
use Rattle.std.specs.Prelude.{ℕ}
use Rattle.op_forest.specs.declared.op.Op.{Op}
use Rattle.op_forest.specs.declared.op.Op.TheVariants as op
use Rattle.dag_forest.specs.declared.parts.Parts.{Parts}
use Rattle.dag_forest.specs.declared.key.Key.{Key}

-- A read is equal to those of its stretch alone, a call to no other node, and any other node to all of the same parts.
abbrev pub mark_of : Op → ℕ → ℕ → ℕ
mark_of op.Indir stretch count = stretch
mark_of op.Call stretch count = count
mark_of o stretch count = 0

-- the key of a node that is added in a stretch, behind so many nodes
abbrev pub key_at : ℕ → ℕ → Parts → Key
key_at stretch count parts = record { parts = parts; mark = mark_of parts.operator.op stretch count }
