-- What is known of a small expression's blocks, and what is refused.
use Rattle.std.specs.Prelude.{negsuc, false, None, [], ◌∷◌}
use Rattle.std.proofs.Common.{arith}
use Rattle.lcc_base.specs.declared.order.Order.TheVariants.{Little}
use Rattle.op_forest.specs.declared.op.Op.TheVariants as op
use Rattle.op_forest.specs.declared.suffix.Suffix.TheVariants.{I, P, V}
use Rattle.op_forest.specs.declared.sym.Sym.TheVariants as sym
use Rattle.c_types.specs.CType.{Int, basic}
use Rattle.c_meaning.specs.declared.core_expr.CoreKind.TheVariants as kind
use Rattle.c_meaning.specs.CoreTrees.{Core, none, one, two}
use Rattle.c_meaning.specs.Values.{CoreTree}
use Rattle.dag_forest.specs.declared.entry.Entry.TheVariants.{Value, Root}
use Rattle.dag_forest.specs.declared.kids.Kids.TheVariants as kids
use Rattle.dag_forest.specs.Entries.{parts_of}
use Rattle.piece_runs.specs.Pieces.{OfBlock, Mark}
use Rattle.lowered_forms.specs.Contexts.{Context}
use Rattle.lowered_forms.specs.Expressions.{low_e}
use Rattle.lowered_forms.specs.Lows.{Low}
use Rattle.lowered_forms.proofs.lemmas.Pending.{empty_block}
use Rattle.lowered_blocks.specs.Known.{AreNamed, IsKnown}
use Rattle.lowered_blocks.proofs.lemmas.ExpressionNames.{expressions_keep_known}

abbrev context : Context
context = record { unit = record { functions = []; objects = []; texts = []; tags = []; main = 0 }; order = Little; parameters = 0; places = negsuc 3 ∷ [] }

abbrev begun : Low
begun = record { pieces = []; entries = []; slots = []; labels = 0 }

-- x && x, of a local
abbrev read : CoreTree
read = Core kind.Read (basic Int) 1 (one (Core (kind.Local 0 false) (basic Int) 1 none))

abbrev both : CoreTree
both = Core kind.And (basic Int) 1 (two read read)

begun_known : IsKnown begun
begun_known = record { pieces = tt; block = empty_block; named = tt }

both_known : IsKnown (low_e context both begun).low
both_known = expressions_keep_known context both begun begun_known

-- ---- what is refused: a label that hasn't been used, a root that is a label, and a finished block without its operands

not_marked : IsKnown (record { pieces = Mark 3 ∷ []; entries = []; slots = []; labels = 3 }) → ⊥
not_marked h = let e = h.pieces.0 in let never : ⊥ = omega (arith, e) in never

not_named : AreNamed 3 (Value (parts_of (record { op = op.Addrg; suffix = P }) kids.Zero (sym.Label 3) None) ∷ []) → ⊥
not_named h = let e = h.0 in let never : ⊥ = omega (arith, e) in never

no_label_root : AreNamed 3 (Root (parts_of (record { op = op.Label; suffix = V }) kids.Zero (sym.Label 1) None) ∷ []) → ⊥
no_label_root h = h.0.0

not_a_block : IsKnown (record { pieces = OfBlock [] (Value (parts_of (record { op = op.Indir; suffix = I }) (kids.One 0) sym.Nothing None) ∷ []) ∷ []; entries = []; slots = []; labels = 0 }) → ⊥
not_a_block h = let e = h.pieces.0.0.formed.0 in let never : ⊥ = omega (arith, e) in never
