-- Operands as the code has them, and what they are: templates with the suffixes of their values.
-- Source: Fraser and Hanson, A Retargetable C Compiler, chapters 5 and 12.
use Rattle.op_forest.specs.declared.op.Op.TheVariants as op
use Rattle.op_forest.specs.declared.suffix.Suffix.{Suffix}
use Rattle.op_forest.specs.Nodes.{Head}
use Rattle.c_rows_agree.specs.Templates.{Template, Given, Leaf}
use Rattle.c_rows_agree.specs.Typed.{Typed, over}
use Rattle.c_pointers_agree.specs.Pointers.{local}
use Rattle.lowering_steps.specs.declared.operand.Stem.{Stem}
use Rattle.lowering_steps.specs.declared.operand.Source.{Source}
use Rattle.lowering_steps.specs.declared.operand.Source.TheVariants as from
use Rattle.lowering_steps.specs.declared.operand.Operand.{Operand}

abbrev pub head_of : Stem → Head
head_of s = record { operator = s.operator; sym = s.sym; value = s.value }

-- a node, an address or a constant, or what a slot holds
abbrev pub template_by : Source → Suffix → Template
template_by (from.Node n) s = Given n
template_by (from.Leaf h) s = Leaf (head_of h)
template_by (from.Slot z) s = over op.Indir s (local z).tree

abbrev pub template_of : Operand → Template
template_of a = template_by a.source a.suffix

abbrev pub typed_of : Operand → Typed
typed_of a = record { tree = template_of a; suffix = a.suffix }
