-- Places of objects, and of members of what stands at places. A member of an object that has a name is so many bytes further behind the
-- name; of any other place it is a place so many bytes further.
-- Source: ISO/IEC 9899:1990, 6.3.2.3, 6.5.2.1; Fraser and Hanson, A Retargetable C Compiler, chapters 5 and 13.
use Rattle.std.specs.Prelude.{ℕ, ◌-◌, ℤ, pos, negsuc, ◌+ℤ◌, nat_lt, ◌&&◌, Bool, true, false, Option, Some, None, slice_get, if◌then◌else◌}
use Rattle.op_forest.specs.declared.op.Op.{Op}
use Rattle.op_forest.specs.declared.op.Op.TheVariants as op
use Rattle.op_forest.specs.declared.suffix.Suffix.TheVariants.{P}
use Rattle.op_forest.specs.declared.sym.Sym.{Sym}
use Rattle.op_forest.specs.declared.sym.Sym.TheVariants as sym
use Rattle.op_forest.specs.Nodes.{Head}
use Rattle.c_types.specs.CType.{CType}
use Rattle.c_meaning.specs.declared.core_expr.CoreKind.{CoreKind}
use Rattle.c_meaning.specs.declared.core_expr.CoreKind.TheVariants as kind
use Rattle.c_meaning.specs.CoreTrees.{Core, NoCore, Cores}
use Rattle.c_meaning.specs.Types.{is_record}
use Rattle.c_meaning.specs.Values.{CoreTree, CoreTrees}
use Rattle.c_runs.specs.Places.{size_of}
use Rattle.c_rows_agree.specs.Templates.{Template, Leaf}
use Rattle.c_rows_agree.specs.Typed.{Typed, head_with}
use Rattle.c_rows_agree.specs.Integers.{number}
use Rattle.c_rows_agree.specs.Places.{loaded_pointer}
use Rattle.c_pointers_agree.specs.Pointers.{name, local, displaced}
use Rattle.lowered_forms.specs.Contexts.{Context}
use Rattle.lowered_forms.specs.Lows.{Low}
use Rattle.lowered_forms.specs.Values.{Lowered, Part, then_low, placed}

-- ---- locals

-- the place at an offset from the first parameter word
abbrev pub parameter : ℤ → Typed
parameter z = record { tree = Leaf (head_with op.Addrf P sym.Nothing (Some z)); suffix = P }

abbrev pub address_at : ℤ → Typed
address_at (pos n) = parameter (pos n)
address_at (negsuc n) = local (negsuc n)

-- a parameter of structure type, which is passed by its address
abbrev pub is_passed_whole : Context → ℕ → CType → Bool
is_passed_whole s n of = nat_lt n s.parameters && is_record of

abbrev pub local_by : Bool → Option ℤ → Typed
local_by whole None = number true 0
local_by true (Some z) = loaded_pointer (address_at z)
local_by false (Some z) = address_at z

abbrev pub local_place : Context → ℕ → CType → Typed
local_place s n of = local_by (is_passed_whole s n of) (slice_get s.places n)

-- ---- members

-- so many bytes of an expression's place are those of an object with a name, from the place on; none of any other's
abbrev pub room_by : Context → CoreKind → CType → ℕ → ℕ
room_by s (kind.Local n register) of first = if is_passed_whole s n of then 0 else size_of s.unit.tags of
room_by s (kind.Object n) of first = size_of s.unit.tags of
room_by s (kind.Text n) of first = size_of s.unit.tags of
room_by s (kind.Member offset bit width) of first = first - offset
room_by s what of first = 0

abbrev mutual
  pub room_of : Context → CoreTree → ℕ
  room_of s (Core what of line kids) = room_by s what of (first_room s kids)

  pub first_room : Context → CoreTrees → ℕ
  first_room s NoCore = 0
  first_room s (Cores c cs) = room_of s c

abbrev pub name_further : Sym → ℕ → Typed → Typed
name_further (sym.Global n z) by p = name n (z +ℤ pos by)
name_further x by p = displaced by p

abbrev pub local_further : Option ℤ → ℕ → Typed → Typed
local_further (Some z) by p = local (z +ℤ pos by)
local_further None by p = displaced by p

abbrev pub leaf_further : Op → Head → ℕ → Typed → Typed
leaf_further op.Addrg h by p = name_further h.sym by p
leaf_further op.Addrl h by p = local_further h.value by p
leaf_further o h by p = displaced by p

abbrev pub tree_further : Template → ℕ → Typed → Typed
tree_further (Leaf h) by p = leaf_further h.operator.op h by p
tree_further t by p = displaced by p

-- by whether the place is inside an object with a name
abbrev pub further : Bool → ℕ → Typed → Typed
further true by p = tree_further p.tree by p
further false by p = displaced by p

abbrev pub member : Context → ℕ → Part → Low → Lowered
member s offset a l = then_low (a.value l) (λ p l1. placed (further (nat_lt offset (room_of s a.tree)) offset p) l1)
