-- A bit-field that is changed again, which weighs most: `p.b &= 3` twice, p a structure that is passed by its address, b the field of three
-- bits behind two others. The second time weighs 51, with one use more of its value, where the bound of its four expressions is 60.
use Rattle.std.specs.Prelude.{◌≡◌, refl, ℕ, ◌+◌, ◌++◌, pos, true, false, Some, List, [], ◌∷◌}
use Rattle.lcc_base.specs.declared.order.Order.TheVariants.{Little}
use Rattle.objects.specs.declared.operators.Binary.TheVariants as binary
use Rattle.op_forest.specs.declared.op.Op.TheVariants as op
use Rattle.op_forest.specs.declared.suffix.Suffix.TheVariants.{I, U, P}
use Rattle.op_forest.specs.declared.sym.Sym.TheVariants as sym
use Rattle.c_types.specs.CType.{CType, Unsigned, basic}
use Rattle.c_meaning.specs.declared.core_expr.Change.TheVariants as change
use Rattle.c_meaning.specs.declared.core_expr.CoreKind.TheVariants as kind
use Rattle.c_meaning.specs.CoreTrees.{none, one, parts, two}
use Rattle.c_meaning.specs.Values.{CoreTree}
use Rattle.dag_forest.specs.declared.entry.Entry.{Entry}
use Rattle.dag_forest.specs.declared.kids.Kids.TheVariants.{Zero, One, Two}
use Rattle.dag_sizes.specs.Weights.{weight}
use Rattle.lowered_forms.specs.Contexts.{Context}
use Rattle.lowered_forms.specs.Expressions.{low_e}
use Rattle.lowered_forms.specs.Handed.{low_node}
use Rattle.lowered_forms.specs.Lows.{Low}
use Rattle.lowered_forms.specs.Sizes.{with_use}
use Rattle.lowered_forms.proofs.examples.Samples.{unit, int, tree, pair, number_of, node, over, constant, root}

abbrev passed : Context
passed = record { unit = unit; order = Little; parameters = 1; places = pos 0 ∷ [] }

abbrev with_entries : List Entry → Low
with_entries es = record { pieces = []; entries = es; slots = []; labels = 0 }

abbrev masked_as : CType → CoreTree
masked_as of =
    tree (kind.Change (change.Arithmetic binary.And true)) of
    (two (tree (kind.Member 0 2 3) of (one (tree (kind.Local 0 false) pair none))) (number_of 3))

-- ---- an unsigned field

abbrev masked : CoreTree
masked = masked_as (basic Unsigned)

masked_parts : parts masked ≡ 4
masked_parts = refl

abbrev constant_u : ℕ → Entry
constant_u n = node op.Cnst U Zero sym.Nothing (Some (pos n))

abbrev once : List Entry
once =
    node op.Addrf P Zero sym.Nothing (Some (pos 0)) ∷ over op.Indir P (One 0) ∷ over op.Indir I (One 1) ∷ constant (pos 27) ∷
    over op.Lsh I (Two 2 3) ∷ over op.Cvi U (One 4) ∷ constant (pos 29) ∷ over op.Rsh U (Two 5 6) ∷ constant (pos 3) ∷
    over op.Cvi U (One 8) ∷ over op.Band U (Two 7 9) ∷ constant_u 7 ∷ over op.Band U (Two 10 11) ∷ over op.Indir P (One 1) ∷
    over op.Cvp U (One 13) ∷ constant_u 4294967267 ∷ over op.Band U (Two 14 15) ∷ constant (pos 2) ∷ over op.Lsh U (Two 12 17) ∷
    over op.Bor U (Two 16 18) ∷ over op.Cvu I (One 19) ∷ root op.Asgn I (Two 1 20) ∷ []

once_lowered : (low_e passed masked (with_entries [])).low ≡ with_entries once
once_lowered = refl

-- the second time, in the block of the first, and its value as an integer
abbrev twice : List Entry
twice =
    once ++ over op.Indir P (One 0) ∷ over op.Indir I (One 21) ∷ over op.Lsh I (Two 22 3) ∷ over op.Cvi U (One 23) ∷ over op.Rsh U (Two 24 6) ∷
    over op.Band U (Two 25 9) ∷ over op.Band U (Two 26 11) ∷ over op.Indir P (One 21) ∷ over op.Cvp U (One 28) ∷
    over op.Band U (Two 29 15) ∷ over op.Lsh U (Two 27 17) ∷ over op.Bor U (Two 30 31) ∷ over op.Cvu I (One 32) ∷
    root op.Asgn I (Two 21 33) ∷ over op.Cvu I (One 27) ∷ []

twice_lowered : low_node passed masked (with_entries once) ≡ record { node = 34; low = with_entries twice }
twice_lowered = refl

once_weighs : weight once ≡ 31
once_weighs = refl

twice_weighs : weight (with_use 34 twice) ≡ weight once + 51
twice_weighs = refl

-- ---- a signed one

abbrev signed : CoreTree
signed = masked_as int

abbrev signed_once : List Entry
signed_once =
    node op.Addrf P Zero sym.Nothing (Some (pos 0)) ∷ over op.Indir P (One 0) ∷ over op.Indir I (One 1) ∷ constant (pos 27) ∷
    over op.Lsh I (Two 2 3) ∷ constant (pos 29) ∷ over op.Rsh I (Two 4 5) ∷ over op.Cvi U (One 6) ∷ constant (pos 3) ∷
    over op.Cvi U (One 8) ∷ over op.Band U (Two 7 9) ∷ over op.Cvu I (One 10) ∷ over op.Lsh I (Two 11 5) ∷ over op.Rsh I (Two 12 5) ∷
    over op.Indir P (One 1) ∷ over op.Cvp U (One 14) ∷ constant_u 4294967267 ∷ over op.Band U (Two 15 16) ∷ over op.Cvi U (One 12) ∷
    over op.Rsh U (Two 18 3) ∷ over op.Bor U (Two 17 19) ∷ over op.Cvu I (One 20) ∷ root op.Asgn I (Two 1 21) ∷ []

signed_once_lowered : (low_e passed signed (with_entries [])).low ≡ with_entries signed_once
signed_once_lowered = refl

-- its value is an integer already
abbrev signed_twice : List Entry
signed_twice =
    signed_once ++ over op.Indir P (One 0) ∷ over op.Indir I (One 22) ∷ over op.Lsh I (Two 23 3) ∷ over op.Rsh I (Two 24 5) ∷ over op.Cvi U (One 25) ∷
    over op.Band U (Two 26 9) ∷ over op.Cvu I (One 27) ∷ over op.Lsh I (Two 28 5) ∷ over op.Rsh I (Two 29 5) ∷ over op.Indir P (One 22) ∷
    over op.Cvp U (One 31) ∷ over op.Band U (Two 32 16) ∷ over op.Cvi U (One 29) ∷ over op.Rsh U (Two 34 3) ∷ over op.Bor U (Two 33 35) ∷
    over op.Cvu I (One 36) ∷ root op.Asgn I (Two 22 37) ∷ []

signed_twice_lowered : low_node passed signed (with_entries signed_once) ≡ record { node = 30; low = with_entries signed_twice }
signed_twice_lowered = refl

signed_twice_weighs : weight (with_use 30 signed_twice) ≡ weight signed_once + 51
signed_twice_weighs = refl
