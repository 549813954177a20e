-- The labels among roots, and the roots behind them.
-- Source: Fraser and Hanson, A Retargetable C Compiler, chapter 5.
use Rattle.std.specs.Prelude.{ℕ, ◌==◌, Option, Some, None, List, [], ◌∷◌, if◌then◌else◌}
use Rattle.op_forest.specs.declared.op.Op.{Op}
use Rattle.op_forest.specs.declared.op.Op.TheVariants as op
use Rattle.op_forest.specs.declared.sym.Sym.{Sym}
use Rattle.op_forest.specs.declared.sym.Sym.TheVariants as sym
use Rattle.op_forest.specs.Nodes.{Node, head_of}

-- the label that a root is
abbrev pub label_by : Op → Sym → Option ℕ
label_by op.Label (sym.Label l) = Some l
label_by o x = None

abbrev pub label_of : Node → Option ℕ
label_of t = label_by (head_of t).operator.op (head_of t).sym

abbrev pub behind_by : Option ℕ → ℕ → List Node → Option (List Node) → Option (List Node)
behind_by None l rest later = later
behind_by (Some k) l rest later = if k == l then Some rest else later

-- the roots behind a label
abbrev pub behind : ℕ → List Node → Option (List Node)
behind l [] = None
behind l (t ∷ ts) = behind_by (label_of t) l ts (behind l ts)
