-- Changes of bit-fields in each other, which weigh most for each expression: `p.s &= q.s &= r.s &= t.s &= 3` behind `p.s &= 3`, where these
-- structures are passed by their addresses, and s is a field of three bits with a sign, whose unit stands behind another member. Each further
-- change adds 43 for its three expressions: its place and the shifted value are used more than once, and three conversions are for the
-- operator, which has no sign.
use Rattle.std.specs.Prelude.{◌≡◌, refl, ℕ, ◌+◌, ℤ, pos, true, false, Option, Some, None, List, [], ◌∷◌, ◌++◌}
use Rattle.lcc_base.specs.declared.order.Order.TheVariants.{Little}
use Rattle.objects.specs.declared.operators.Binary.TheVariants as binary
use Rattle.op_forest.specs.declared.op.Op.{Op}
use Rattle.op_forest.specs.declared.op.Op.TheVariants as op
use Rattle.op_forest.specs.declared.suffix.Suffix.{Suffix}
use Rattle.op_forest.specs.declared.suffix.Suffix.TheVariants.{I, U, P}
use Rattle.op_forest.specs.declared.sym.Sym.TheVariants as sym
use Rattle.c_types.specs.CType.{CType, Plain, Structure, Int, basic}
use Rattle.c_types.specs.Layout.{MemberType, Tag}
use Rattle.c_meaning.specs.declared.core_expr.Change.TheVariants as change
use Rattle.c_meaning.specs.declared.core_expr.CoreKind.{CoreKind}
use Rattle.c_meaning.specs.declared.core_expr.CoreKind.TheVariants as kind
use Rattle.c_meaning.specs.CoreTrees.{Core, none, one, parts, two}
use Rattle.c_meaning.specs.Units.{UnitTree}
use Rattle.c_meaning.specs.Values.{CoreTree, CoreTrees}
use Rattle.dag_forest.specs.declared.entry.Entry.{Entry}
use Rattle.dag_forest.specs.declared.entry.Entry.TheVariants.{Value, Root}
use Rattle.dag_forest.specs.declared.kids.Kids.{Kids}
use Rattle.dag_forest.specs.declared.kids.Kids.TheVariants.{Zero, One, Two}
use Rattle.dag_forest.specs.Entries.{parts_of}
use Rattle.dag_sizes.specs.Weights.{weight}
use Rattle.lowered_forms.specs.Contexts.{Context}
use Rattle.lowered_forms.specs.Expressions.{low_e}
use Rattle.lowered_forms.specs.Handed.{low_node}
use Rattle.lowered_forms.specs.Lows.{Low}
use Rattle.lowered_forms.specs.Sizes.{with_use}

-- a structure of two units
abbrev unit_member : MemberType
unit_member = record { name = []; of = basic Int; width = None }

abbrev pair_tag : Tag
pair_tag = record { number = 0; is_union = false; members = unit_member ∷ unit_member ∷ [] }

abbrev unit : UnitTree
unit = record { functions = []; objects = []; texts = []; tags = pair_tag ∷ []; main = 0 }

-- four of them are passed
abbrev passed : Context
passed = record { unit = unit; order = Little; parameters = 4; places = pos 0 ∷ pos 4 ∷ pos 8 ∷ pos 12 ∷ [] }

abbrev tree : CoreKind → CType → CoreTrees → CoreTree
tree what of kids = Core what of 1 kids

abbrev masked : ℕ → CoreTree → CoreTree
masked n value =
    tree (kind.Change (change.Arithmetic binary.And true)) (basic Int)
    (two (tree (kind.Member 4 2 3) (basic Int) (one (tree (kind.Local n false) (Plain 0 (Structure 0)) none))) value)

abbrev three : CoreTree
three = tree (kind.Number 3) (basic Int) none

abbrev with_entries : List Entry → Low
with_entries es = record { pieces = []; entries = es; slots = []; labels = 0 }

-- ---- nodes and roots

abbrev node : Op → Suffix → Kids → Option ℤ → Entry
node o s kids z = Value (parts_of (record { op = o; suffix = s }) kids sym.Nothing z)

abbrev over : Op → Suffix → Kids → Entry
over o s kids = node o s kids None

abbrev word : ℤ → Entry
word z = node op.Addrf P Zero (Some z)

abbrev constant : ℤ → Entry
constant z = node op.Cnst I Zero (Some z)

abbrev constant_u : ℕ → Entry
constant_u n = node op.Cnst U Zero (Some (pos n))

abbrev root : Op → Suffix → Kids → Entry
root o s kids = Root (parts_of (record { op = o; suffix = s }) kids sym.Nothing None)

-- ---- once

abbrev once : List Entry
once =
    word (pos 0) ∷ over op.Indir P (One 0) ∷ constant (pos 4) ∷ over op.Add P (Two 1 2) ∷ over op.Indir I (One 3) ∷ constant (pos 27) ∷
    over op.Lsh I (Two 4 5) ∷ constant (pos 29) ∷ over op.Rsh I (Two 6 7) ∷ over op.Cvi U (One 8) ∷ constant (pos 3) ∷
    over op.Cvi U (One 10) ∷ over op.Band U (Two 9 11) ∷ over op.Cvu I (One 12) ∷ over op.Lsh I (Two 13 7) ∷ over op.Rsh I (Two 14 7) ∷
    over op.Indir P (One 3) ∷ over op.Cvp U (One 16) ∷ constant_u 4294967267 ∷ over op.Band U (Two 17 18) ∷ over op.Cvi U (One 14) ∷
    over op.Rsh U (Two 20 5) ∷ over op.Bor U (Two 19 21) ∷ over op.Cvu I (One 22) ∷ root op.Asgn I (Two 3 23) ∷ []

once_lowered : (low_e passed (masked 0 three) (with_entries [])).low ≡ with_entries once
once_lowered = refl

once_weighs : weight once ≡ 44
once_weighs = refl

-- ---- four times, in each other

abbrev four_times : CoreTree
four_times = masked 0 (masked 1 (masked 2 (masked 3 three)))

four_times_parts : parts four_times ≡ 13
four_times_parts = refl

abbrev more : List Entry
more =
    over op.Indir P (One 0) ∷ over op.Add P (Two 24 2) ∷ word (pos 4) ∷ over op.Indir P (One 26) ∷ over op.Add P (Two 27 2) ∷ word (pos 8) ∷
    over op.Indir P (One 29) ∷ over op.Add P (Two 30 2) ∷ word (pos 12) ∷ over op.Indir P (One 32) ∷ over op.Add P (Two 33 2) ∷
    over op.Indir I (One 34) ∷ over op.Lsh I (Two 35 5) ∷ over op.Rsh I (Two 36 7) ∷ over op.Cvi U (One 37) ∷ over op.Band U (Two 38 11) ∷
    over op.Cvu I (One 39) ∷ over op.Lsh I (Two 40 7) ∷ over op.Rsh I (Two 41 7) ∷ over op.Indir P (One 34) ∷ over op.Cvp U (One 43) ∷
    over op.Band U (Two 44 18) ∷ over op.Cvi U (One 41) ∷ over op.Rsh U (Two 46 5) ∷ over op.Bor U (Two 45 47) ∷ over op.Cvu I (One 48) ∷
    root op.Asgn I (Two 34 49) ∷ over op.Indir I (One 31) ∷ over op.Lsh I (Two 50 5) ∷ over op.Rsh I (Two 51 7) ∷ over op.Cvi U (One 52) ∷
    over op.Cvi U (One 42) ∷ over op.Band U (Two 53 54) ∷ over op.Cvu I (One 55) ∷ over op.Lsh I (Two 56 7) ∷ over op.Rsh I (Two 57 7) ∷
    over op.Indir P (One 31) ∷ over op.Cvp U (One 59) ∷ over op.Band U (Two 60 18) ∷ over op.Cvi U (One 57) ∷ over op.Rsh U (Two 62 5) ∷
    over op.Bor U (Two 61 63) ∷ over op.Cvu I (One 64) ∷ root op.Asgn I (Two 31 65) ∷ over op.Indir I (One 28) ∷ over op.Lsh I (Two 66 5) ∷
    over op.Rsh I (Two 67 7) ∷ over op.Cvi U (One 68) ∷ over op.Cvi U (One 58) ∷ over op.Band U (Two 69 70) ∷ over op.Cvu I (One 71) ∷
    over op.Lsh I (Two 72 7) ∷ over op.Rsh I (Two 73 7) ∷ over op.Indir P (One 28) ∷ over op.Cvp U (One 75) ∷ over op.Band U (Two 76 18) ∷
    over op.Cvi U (One 73) ∷ over op.Rsh U (Two 78 5) ∷ over op.Bor U (Two 77 79) ∷ over op.Cvu I (One 80) ∷ root op.Asgn I (Two 28 81) ∷
    over op.Indir I (One 25) ∷ over op.Lsh I (Two 82 5) ∷ over op.Rsh I (Two 83 7) ∷ over op.Cvi U (One 84) ∷ over op.Cvi U (One 74) ∷
    over op.Band U (Two 85 86) ∷ over op.Cvu I (One 87) ∷ over op.Lsh I (Two 88 7) ∷ over op.Rsh I (Two 89 7) ∷ over op.Indir P (One 25) ∷
    over op.Cvp U (One 91) ∷ over op.Band U (Two 92 18) ∷ over op.Cvi U (One 89) ∷ over op.Rsh U (Two 94 5) ∷ over op.Bor U (Two 93 95) ∷
    over op.Cvu I (One 96) ∷ root op.Asgn I (Two 25 97) ∷ []

four_times_lowered : low_node passed four_times (with_entries once) ≡ record { node = 90; low = with_entries (once ++ more) }
four_times_lowered = refl

-- 195 would be 15 for each expression; the root that uses the value is one
four_times_weigh : weight (with_use 90 (once ++ more)) ≡ weight once + 182
four_times_weigh = refl
