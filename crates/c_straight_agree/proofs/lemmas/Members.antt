-- Members of what stands at places.
use Rattle.std.specs.Prelude.{◌≡◌, ◌≤◌, ◌<◌, ℕ, zero, suc, ◌+◌, ◌-◌, ℤ, pos, negsuc, ◌+ℤ◌, nat_lt, Bool, true, false, Option, Some, None, Ok, List}
use Rattle.std.proofs.Common.{refl, sym, ap, subst, ◌∙◌, arith}
use Rattle.std.proofs.lemmas.Int.{ints}
use Rattle.objects.specs.declared.value.Value.{Value}
use Rattle.objects.specs.Objects.{Object as Old}
use Rattle.objects.specs.Pointers.{moved}
use Rattle.op_forest.specs.declared.op.Op.{Op}
use Rattle.op_forest.specs.declared.op.Op.TheVariants as op
use Rattle.op_forest.specs.declared.suffix.Suffix.{Suffix}
use Rattle.op_forest.specs.declared.suffix.Suffix.TheVariants.{P}
use Rattle.op_forest.specs.declared.sym.Sym.{Sym}
use Rattle.op_forest.specs.declared.sym.Sym.TheVariants as sym
use Rattle.op_forest.specs.Nodes.{Head}
use Rattle.forests.specs.Actions.{Gave, gave}
use Rattle.forests.specs.Addresses.{Environment, named, local}
use Rattle.forests.specs.Objects.{Object}
use Rattle.forests.specs.Rows.{leaf_row}
use Rattle.forests.specs.Words.{Word}
use Rattle.forests.specs.Worlds.{World}
use Rattle.c_match.specs.Ranges.{Map}
use Rattle.c_rows_agree.specs.Templates.{Template, Given, Leaf, One, Two, Scene as Seen, Gives}
use Rattle.c_rows_agree.specs.Typed.{Typed, Holds}
use Rattle.c_pointers_agree.specs.Held.{HoldsShort}
use Rattle.c_pointers_agree.specs.Pointers.{name, displaced}
use Rattle.c_pointers_agree.specs.Pointers as pointer
use Rattle.c_pointers_agree.proofs.lemmas.Names.{name_moves_on}
use Rattle.c_pointers_agree.proofs.lemmas.Slots.{slot_moves}
use Rattle.c_expr_agreement.specs.Scenes.{Scene}
use Rattle.lowered_forms.specs.Lows.{Low}
use Rattle.lowered_forms.specs.Places.{address_at, name_further, local_further, leaf_further, tree_further, further}
use Rattle.lowered_forms.specs.Values.{placed_tree, placed}
use Rattle.c_straight_agree.specs.Layouts.{FrameLayout, IsInSlot, IsRoomAt, IsLaidOut}
use Rattle.c_straight_agree.specs.Settled.{seen}

-- ---- what addresses are

name_row : (e : Environment) (h : Head) (os : List Object) (x : Suffix) (u : Word) → leaf_row e h os op.Addrg x ≡ Gave u → gave (named e os h.sym) ≡ Gave u
name_row e h os P u g = g
name_row e h os x u g = absurd (let never : ⊥ = cc in never)

local_row : (e : Environment) (h : Head) (os : List Object) (x : Suffix) (u : Word) → leaf_row e h os op.Addrl x ≡ Gave u → gave (local e.home h.value) ≡ Gave u
local_row e h os P u g = g
local_row e h os x u g = absurd (let never : ⊥ = cc in never)

name_leaf : (k : Seen) (h : Head) (n : ℕ) (z : ℤ) (u : Word) → h.operator.op ≡ op.Addrg → h.sym ≡ sym.Global n z → Gives k (Leaf h) u → Gives k (name n z).tree u
name_leaf k h n z u o y g =
    ap (λ (x : Sym). gave (named k.environment k.objects x)) (sym y) ∙ name_row k.environment h k.objects h.operator.suffix u (subst (λ (x : Op). leaf_row k.environment h k.objects x h.operator.suffix ≡ Gave u) o g)

local_leaf : (k : Seen) (h : Head) (z : ℤ) (u : Word) → h.operator.op ≡ op.Addrl → h.value ≡ Some z → Gives k (Leaf h) u → Gives k (pointer.local z).tree u
local_leaf k h z u o y g =
    ap (λ (x : Option ℤ). gave (local k.environment.home x)) (sym y) ∙ local_row k.environment h k.objects h.operator.suffix u (subst (λ (x : Op). leaf_row k.environment h k.objects x h.operator.suffix ≡ Gave u) o g)

-- ---- places with room in a slot

-- the address of a place in the frame has so many bytes behind it in its slot, if there are any
abbrev pub HasRoom : Scene → ℕ → Template → Type 0
HasRoom s room (Leaf h) = 0 < room → h.operator.op ≡ op.Addrl → (z : ℤ) → h.value ≡ Some z → IsInSlot s z room
HasRoom s room t = Unit {0}

further_on : (z a : ℤ) (start by : ℕ) → z ≡ a +ℤ pos start → a +ℤ pos (start + by) ≡ z +ℤ pos by
further_on z a start by e = omega (arith, ints, e)

less_so : (m n : ℕ) → nat_lt m n ≡ true → m < n
less_so m n e = grind (arith, e)

module _ (s : Scene) (y : FrameLayout) (laid : IsLaidOut s y) (map : Map) (values : ℕ → Word) (w : World) (old : List Old) (short : HoldsShort (seen s.body map values w) old) (by : ℕ) (p : Typed) (v u : Value) (h : Holds (seen s.body map values w) p v) (e : moved old v (pos by) ≡ Ok u) (displaces : Holds (seen s.body map values w) (displaced by p) u) where
  abbrev here : Seen
  here = seen s.body map values w

  global_so : (x : Head) (z : Sym) → p.tree ≡ Leaf x → x.operator.op ≡ op.Addrg → x.sym ≡ z → Holds here (name_further z by p) u
  global_so x sym.Nothing is o q = displaces
  global_so x (sym.Global n z) is o q =
      name_moves_on here old n z (pos by) v u short (record { word = h.word; gives = name_leaf here x n z h.word o q (subst (λ (t : Template). Gives here t h.word) is h.gives); is = h.is }) e
  global_so x (sym.Label l) is o q = displaces
  global_so x (sym.Block size align) is o q = displaces

  slot_so : (x : Head) (z : ℤ) (room : ℕ) → p.tree ≡ Leaf x → x.operator.op ≡ op.Addrl → x.value ≡ Some z → by < room → IsInSlot s z room → Holds here (pointer.local (z +ℤ pos by)) u
  slot_so x z room is o q lt slot =
      let at : Holds here (pointer.local z) v = record { word = h.word; gives = local_leaf here x z h.word o q (subst (λ (t : Template). Gives here t h.word) is h.gives); is = h.is } in
      let fits : slot.start + by < slot.slot.size = (let f = slot.fits in omega (arith, f, lt)) in
      subst (λ (i : ℤ). Holds here (pointer.local i) u) (further_on z slot.slot.offset slot.start by slot.is)
      (slot_moves here old slot.number slot.slot slot.start by v u laid.frame slot.there fits (subst (λ (i : ℤ). Holds here (pointer.local i) v) slot.is at) e)

  value_so : (x : Head) (o : Option ℤ) (room : ℕ) → p.tree ≡ Leaf x → x.operator.op ≡ op.Addrl → x.value ≡ o → by < room → HasRoom s room (Leaf x) → Holds here (local_further o by p) u
  value_so x None room is l q lt has = displaces
  value_so x (Some z) room is l q lt has = slot_so x z room is l q lt (has (omega (arith, lt)) l z q)

  leaf_so : (x : Head) (o : Op) (room : ℕ) → p.tree ≡ Leaf x → x.operator.op ≡ o → by < room → HasRoom s room (Leaf x) → Holds here (leaf_further o x by p) u
  leaf_so x op.Addrg room is q lt has = global_so x x.sym is q refl
  leaf_so x op.Addrl room is q lt has = value_so x x.value room is q refl lt has
  leaf_so x o room is q lt has = displaces

  tree_so : (t : Template) (room : ℕ) → p.tree ≡ t → by < room → HasRoom s room t → Holds here (tree_further t by p) u
  tree_so (Given n) room is lt has = displaces
  tree_so (Leaf x) room is lt has = leaf_so x x.operator.op room is refl lt has
  tree_so (One x a) room is lt has = displaces
  tree_so (Two x a b) room is lt has = displaces

  further_so : (b : Bool) (room : ℕ) → nat_lt by room ≡ b → HasRoom s room p.tree → Holds here (further b by p) u
  further_so true room lt has = tree_so p.tree room refl (less_so by room lt) has
  further_so false room lt has = displaces

  pub member_holds : (room : ℕ) → HasRoom s room p.tree → Holds here (further (nat_lt by room) by p) u
  member_holds room has = further_so (nat_lt by room) room refl has

-- ---- rooms of what expressions come to

abbrev some_place : ℤ → Option ℤ
some_place z = Some z

-- further in a slot there is less room
less_room : (s : Scene) (z : ℤ) (room by : ℕ) → 0 < room - by → IsInSlot s z room → IsInSlot s (z +ℤ pos by) (room - by)
less_room s z room by lt slot = record {
  number = slot.number;
  slot = slot.slot;
  start = slot.start + by;
  there = slot.there;
  is = sym (further_on z slot.slot.offset slot.start by slot.is);
  fits = (let f = slot.fits in omega (arith, f, lt));
}

some_same : (a b : ℤ) → some_place a ≡ some_place b → a ≡ b
some_same a b e = cc

displaced_room : (s : Scene) (room by : ℕ) (p : Typed) → HasRoom s room p.tree → HasRoom s (room - by) (displaced by p).tree
displaced_room s room zero p has = subst (λ (n : ℕ). HasRoom s n p.tree) (let e : room ≡ room - 0 = omega arith in e) has
displaced_room s room (suc by) p has = tt

pub never_local : (s : Scene) (n : ℕ) (z : ℤ) (room : ℕ) → HasRoom s room (name n z).tree
never_local s n z room lt is i e = absurd (let never : ⊥ = cc in never)

name_room : (s : Scene) (room by : ℕ) (x : Sym) (p : Typed) → HasRoom s room p.tree → HasRoom s (room - by) (name_further x by p).tree
name_room s room by sym.Nothing p has = displaced_room s room by p has
name_room s room by (sym.Global n z) p has = never_local s n (z +ℤ pos by) (room - by)
name_room s room by (sym.Label l) p has = displaced_room s room by p has
name_room s room by (sym.Block size align) p has = displaced_room s room by p has

local_room : (s : Scene) (room by : ℕ) (x : Head) (o : Option ℤ) (p : Typed) → x.operator.op ≡ op.Addrl → x.value ≡ o → HasRoom s room (Leaf x) → HasRoom s room p.tree → HasRoom s (room - by) (local_further o by p).tree
local_room s room by x None p l q has_x has = displaced_room s room by p has
local_room s room by x (Some z) p l q has_x has = λ lt is i e. subst (λ (j : ℤ). IsInSlot s j (room - by)) (some_same (z +ℤ pos by) i e) (less_room s z room by lt (has_x (omega (arith, lt)) l z q))

leaf_room : (s : Scene) (room by : ℕ) (x : Head) (o : Op) (p : Typed) → x.operator.op ≡ o → HasRoom s room (Leaf x) → HasRoom s room p.tree → HasRoom s (room - by) (leaf_further o x by p).tree
leaf_room s room by x op.Addrg p q has_x has = name_room s room by x.sym p has
leaf_room s room by x op.Addrl p q has_x has = local_room s room by x x.value p q refl has_x has
leaf_room s room by x o p q has_x has = displaced_room s room by p has

tree_room : (s : Scene) (room by : ℕ) (t : Template) (p : Typed) → HasRoom s room t → HasRoom s room p.tree → HasRoom s (room - by) (tree_further t by p).tree
tree_room s room by (Given n) p has_t has = displaced_room s room by p has
tree_room s room by (Leaf x) p has_t has = leaf_room s room by x x.operator.op p refl has_t has
tree_room s room by (One x a) p has_t has = displaced_room s room by p has
tree_room s room by (Two x a b) p has_t has = displaced_room s room by p has

pub further_room : (s : Scene) (room by : ℕ) (b : Bool) (p : Typed) → HasRoom s room p.tree → HasRoom s (room - by) (further b by p).tree
further_room s room by true p has = tree_room s room by p.tree p has has
further_room s room by false p has = displaced_room s room by p has

placed_tree_room : (s : Scene) (room : ℕ) (x : Suffix) (t : Template) (l : Low) → HasRoom s room t → HasRoom s room (placed_tree x t l).value.tree
placed_tree_room s room x (Given n) l has = tt
placed_tree_room s room x (Leaf h) l has = has
placed_tree_room s room x (One h a) l has = tt
placed_tree_room s room x (Two h a b) l has = tt

pub placed_room : (s : Scene) (room : ℕ) (a : Typed) (l : Low) → HasRoom s room a.tree → HasRoom s room (placed a l).value.tree
placed_room s room a l has = placed_tree_room s room a.suffix a.tree l has

pub address_room : (s : Scene) (z : ℤ) (room : ℕ) → IsRoomAt s z room → HasRoom s room (address_at z).tree
address_room s (pos n) room at = λ lt is i e. absurd (let never : ⊥ = cc in never)
address_room s (negsuc n) room at = λ lt is i e. subst (λ (j : ℤ). IsInSlot s j room) (some_same (negsuc n) i e) at

pub none_room : (s : Scene) (t : Template) → HasRoom s 0 t
none_room s (Given n) = tt
none_room s (Leaf h) = λ lt. absurd (let never : ⊥ = omega (arith, lt) in never)
none_room s (One h a) = tt
none_room s (Two h a b) = tt

-- fewer bytes have room, too
pub fewer_at : (s : Scene) (z : ℤ) (few many : ℕ) → few ≤ many → IsRoomAt s z many → IsRoomAt s z few
fewer_at s (pos n) few many le at = tt
fewer_at s (negsuc n) few many le at = record { number = at.number; slot = at.slot; start = at.start; there = at.there; is = at.is; fits = (let f = at.fits in omega (arith, f, le)) }
