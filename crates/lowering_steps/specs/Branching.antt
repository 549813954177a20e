-- A root that jumps to a label, and the parts of the templates of bit-fields.
-- Source: Fraser and Hanson, A Retargetable C Compiler, chapter 5 (JUMP).
use Rattle.std.specs.Prelude.{ℕ, None}
use Rattle.op_forest.specs.declared.op.Op.TheVariants as op
use Rattle.op_forest.specs.declared.suffix.Suffix.TheVariants.{P, V}
use Rattle.op_forest.specs.declared.sym.Sym.TheVariants as sym
use Rattle.c_rows_agree.specs.Templates.{Leaf}
use Rattle.c_rows_agree.specs.Typed.{head, head_with}
use Rattle.lowered_forms.specs.Lows.{Low, acted_one}

-- it doesn't finish the block yet
abbrev pub jump_root : ℕ → Low → Low
jump_root n l = acted_one (head op.Jump V) (Leaf (head_with op.Addrg P (sym.Label n) None)) l
