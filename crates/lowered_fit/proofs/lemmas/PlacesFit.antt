-- Places of locals and of members.
use Rattle.std.specs.Prelude.{◌≡◌, ◌≤◌, ◌<◌, ℕ, zero, suc, ◌+◌, ◌-◌, ◌^◌, nat_lt, Bool, true, false, ℤ, pos, negsuc, ◌+ℤ◌, Option, Some, None, List, slice_get, if◌then◌else◌}
use Rattle.std.proofs.Common.{refl, subst, arith}
use Rattle.std.proofs.lemmas.Bool.{ltb-true}
use Rattle.std.proofs.lemmas.Int.{ints}
use Rattle.std.proofs.lemmas.Option.{none-some}
use Rattle.op_forest.specs.declared.frame.Slot.{Slot}
use Rattle.op_forest.specs.declared.op.Op.{Op}
use Rattle.op_forest.specs.declared.op.Op.TheVariants as op
use Rattle.op_forest.specs.declared.sym.Sym.{Sym}
use Rattle.op_forest.specs.declared.sym.Sym.TheVariants as symbol
use Rattle.op_forest.specs.Nodes.{Head}
use Rattle.forests.specs.WellFormed.{LiesInOne}
use Rattle.c_types.specs.CType.{CType}
use Rattle.c_runs.specs.Places.{size_of}
use Rattle.c_pointers_agree.specs.Pointers.{name, displaced}
use Rattle.c_rows_agree.proofs.lemmas.Fitting as laws
use Rattle.c_rows_agree.specs.Integers.{number}
use Rattle.c_rows_agree.specs.Templates.{Template, Given, Leaf, One, Two}
use Rattle.c_rows_agree.specs.Typed.{Typed}
use Rattle.lowered_forms.specs.Contexts.{Context}
use Rattle.lowered_forms.specs.Places.{address_at, parameter, local_by, is_passed_whole, local_place, name_further, local_further, leaf_further, tree_further, further}
use Rattle.lowered_fit.specs.Fitted.{Standing, FitsTyped}
use Rattle.lowered_fit.specs.States.{HasRoomBy, HasRoom, FitsOffset, FitsContext, FitsLocal, IsWider}
use Rattle.lowered_fit.proofs.lemmas.Grafts.{typed_in}
use Rattle.lowered_fit.proofs.lemmas.Operands.{local_fits, no_room}
use Rattle.lowered_fit.proofs.lemmas.RowsFit.{pointer_read_fits, member_fits}

-- ---- numbers and names

global_no : op.Addrg ≡ op.Addrl → ⊥
global_no e = cc

parameter_no : op.Addrf ≡ op.Addrl → ⊥
parameter_no e = cc

pub number_fits : (g : Standing) (signed : Bool) (n : ℕ) → n < 2 ^ 32 → FitsTyped g (number signed n)
number_fits g true n small = typed_in g (λ m. None) (λ m. Given m) (λ m s e. absurd (none-some s e)) (number true n) (laws.typed_integer (λ m. None) (number true n) (laws.number_fits (λ m. None) true n small))
number_fits g false n small = typed_in g (λ m. None) (λ m. Given m) (λ m s e. absurd (none-some s e)) (number false n) (laws.typed_integer (λ m. None) (number false n) (laws.number_fits (λ m. None) false n small))

pub name_fits : (g : Standing) (n : ℕ) (offset : ℤ) → FitsTyped g (name n offset)
name_fits g n offset = record { fits = record { fits = record { operator = omega arith; part = tt; operands = refl; local = λ e. absurd (global_no e) }; value = refl; suffix = refl }; scalar = tt }

-- ---- locals

pub parameter_fits : (g : Standing) (n : ℕ) → n < 2 ^ 32 → FitsTyped g (parameter (pos n))
parameter_fits g n h = record {
  fits = record { fits = record { operator = omega arith; part = (refl, (omega (arith, ints), omega (arith, ints, h))); operands = refl; local = λ e. absurd (parameter_no e) }; value = refl; suffix = refl };
  scalar = tt;
}

address_fits : (g : Standing) (z : ℤ) → FitsOffset g.slots z → FitsTyped g (address_at z)
address_fits g (pos n) h = parameter_fits g n h
address_fits g (negsuc n) h = local_fits g (negsuc n) h

pub by_fits : (g : Standing) (whole : Bool) (o : Option ℤ) → ((z : ℤ) → o ≡ Some z → FitsOffset g.slots z) → FitsTyped g (local_by whole o)
by_fits g true None h = number_fits g true 0 (omega arith)
by_fits g false None h = number_fits g true 0 (omega arith)
by_fits g true (Some z) h = let f = address_fits g z (h z refl) in pointer_read_fits g (address_at z) (address_at z) f f
by_fits g false (Some z) h = address_fits g z (h z refl)

pub offset_wider : (slots more : List Slot) (z : ℤ) → IsWider slots more → FitsOffset slots z → FitsOffset more z
offset_wider slots more (pos n) w h = h
offset_wider slots more (negsuc n) w h = w (negsuc n) h

pub place_fits : (s : Context) (slots : List Slot) (g : Standing) (n : ℕ) (of : CType) → FitsContext s slots → IsWider slots g.slots → FitsTyped g (local_place s n of)
place_fits s slots g n of c w = by_fits g (is_passed_whole s n of) (slice_get s.places n) (λ z e. offset_wider slots g.slots z w (c n z e))

address_room : (slots more : List Slot) (bytes : ℕ) (z : ℤ) → IsWider slots more → ((m : ℕ) → z ≡ negsuc m → (by : ℕ) → by < bytes → LiesInOne slots (negsuc m +ℤ pos by)) → HasRoom more bytes (address_at z).tree
address_room slots more bytes (pos n) w h = tt
address_room slots more bytes (negsuc m) w h = λ by lt. w (negsuc m +ℤ pos by) (h m refl by lt)

by_room : (slots more : List Slot) (bytes : ℕ) (whole : Bool) (o : Option ℤ) → IsWider slots more → ((m : ℕ) → o ≡ Some (negsuc m) → (by : ℕ) → by < bytes → LiesInOne slots (negsuc m +ℤ pos by))
    → HasRoom more (if whole then 0 else bytes) (local_by whole o).tree
by_room slots more bytes true None w h = tt
by_room slots more bytes false None w h = tt
by_room slots more bytes true (Some z) w h = no_room more (local_by true (Some z)).tree
by_room slots more bytes false (Some z) w h = address_room slots more bytes z w (λ m e by lt. h m (λ i. Some (e i)) by lt)

pub place_room : (s : Context) (slots more : List Slot) (n : ℕ) (of : CType) → IsWider slots more → FitsLocal s slots n of
    → HasRoom more (if is_passed_whole s n of then 0 else size_of s.unit.tags of) (local_place s n of).tree
place_room s slots more n of w h = by_room slots more (size_of s.unit.tags of) (is_passed_whole s n of) (slice_get s.places n) w h

-- all its bytes, where it isn't passed by its address; at what is read from memory none are asked for
by_any : (slots : List Slot) (bytes : ℕ) (whole : Bool) (o : Option ℤ) → ((m : ℕ) → o ≡ Some (negsuc m) → (by : ℕ) → by < bytes → LiesInOne slots (negsuc m +ℤ pos by))
    → HasRoom slots bytes (local_by whole o).tree
by_any slots bytes true None h = tt
by_any slots bytes false None h = tt
by_any slots bytes true (Some (pos n)) h = tt
by_any slots bytes true (Some (negsuc n)) h = tt
by_any slots bytes false (Some z) h = address_room slots slots bytes z (λ y e. e) (λ m e by lt. h m (λ i. Some (e i)) by lt)

pub any_room : (s : Context) (slots : List Slot) (n : ℕ) (of : CType) → FitsLocal s slots n of → HasRoom slots (size_of s.unit.tags of) (local_place s n of).tree
any_room s slots n of h = by_any slots (size_of s.unit.tags of) (is_passed_whole s n of) (slice_get s.places n) h

by_wider : (slots more : List Slot) (n : ℕ) (o : Op) (z : Option ℤ) → IsWider slots more → HasRoomBy slots n o z → HasRoomBy more n o z
by_wider slots more n op.Addrl (Some z) w h = λ by lt. w (z +ℤ pos by) (h by lt)
by_wider slots more n o z w h = tt

pub wider_room : (slots more : List Slot) (n : ℕ) (t : Template) → IsWider slots more → HasRoom slots n t → HasRoom more n t
wider_room slots more n (Given k) w h = tt
wider_room slots more n (Leaf x) w h = by_wider slots more n x.operator.op x.value w h
wider_room slots more n (One x a) w h = tt
wider_room slots more n (Two x a b) w h = tt

-- ---- members

-- what is further in an object fits, with the room that is left
pub record Further (g : Standing) (bytes : ℕ) (a : Typed) : Type 0 where
  pub fits : FitsTyped g a
  pub left : HasRoom g.slots bytes a.tree

by_less : (slots : List Slot) (m n : ℕ) (o : Op) (z : Option ℤ) → n ≤ m → HasRoomBy slots m o z → HasRoomBy slots n o z
by_less slots m n op.Addrl (Some z) le h = λ by lt. h by (omega (arith, le, lt))
by_less slots m n o z le h = tt

less_room : (slots : List Slot) (m n : ℕ) (t : Template) → n ≤ m → HasRoom slots m t → HasRoom slots n t
less_room slots m n (Given k) le h = tt
less_room slots m n (Leaf x) le h = by_less slots m n x.operator.op x.value le h
less_room slots m n (One x a) le h = tt
less_room slots m n (Two x a b) le h = tt

displaced_room : (slots : List Slot) (m by : ℕ) (a : Typed) → HasRoom slots m a.tree → HasRoom slots (m - by) (displaced by a).tree
displaced_room slots m zero a h = less_room slots m (m - 0) a.tree (omega arith) h
displaced_room slots m (suc n) a h = tt

displaced_further : (g : Standing) (m by : ℕ) (a : Typed) → by < 2 ^ 32 → FitsTyped g a → HasRoom g.slots m a.tree → Further g (m - by) (displaced by a)
displaced_further g m by a small h r = record { fits = member_fits g a a h h by small; left = displaced_room g.slots m by a r }

sym_further : (g : Standing) (m by : ℕ) (x : Sym) (a : Typed) → by < 2 ^ 32 → FitsTyped g a → HasRoom g.slots m a.tree → Further g (m - by) (name_further x by a)
sym_further g m by (symbol.Global n z) a small h r = record { fits = name_fits g n (z +ℤ pos by); left = tt }
sym_further g m by symbol.Nothing a small h r = displaced_further g m by a small h r
sym_further g m by (symbol.Label l) a small h r = displaced_further g m by a small h r
sym_further g m by (symbol.Block size align) a small h r = displaced_further g m by a small h r

offset_further : (g : Standing) (m by : ℕ) (o : Option ℤ) (a : Typed) → by < m → by < 2 ^ 32 → FitsTyped g a → HasRoom g.slots m a.tree → HasRoomBy g.slots m op.Addrl o → Further g (m - by) (local_further o by a)
offset_further g m by (Some z) a lt small h r k = record {
  fits = local_fits g (z +ℤ pos by) (k by lt);
  left = λ more less. subst (λ y. LiesInOne g.slots y) (further_on z by more) (k (by + more) (omega (arith, less)));
}
  where
    further_on : (z : ℤ) (m n : ℕ) → z +ℤ pos (m + n) ≡ (z +ℤ pos m) +ℤ pos n
    further_on z m n = omega (arith, ints)
offset_further g m by None a lt small h r k = displaced_further g m by a small h r

leaf_goes_further : (g : Standing) (m by : ℕ) (o : Op) (x : Head) (a : Typed) → by < m → by < 2 ^ 32 → FitsTyped g a → HasRoom g.slots m a.tree → HasRoomBy g.slots m o x.value → Further g (m - by) (leaf_further o x by a)
leaf_goes_further g m by op.Addrg x a lt small h r k = sym_further g m by x.sym a small h r
leaf_goes_further g m by op.Addrl x a lt small h r k = offset_further g m by x.value a lt small h r k
leaf_goes_further g m by o x a lt small h r k = displaced_further g m by a small h r

tree_goes_further : (g : Standing) (m by : ℕ) (t : Template) (a : Typed) → by < m → by < 2 ^ 32 → FitsTyped g a → HasRoom g.slots m a.tree → HasRoom g.slots m t → Further g (m - by) (tree_further t by a)
tree_goes_further g m by (Given n) a lt small h r k = displaced_further g m by a small h r
tree_goes_further g m by (Leaf x) a lt small h r k = leaf_goes_further g m by x.operator.op x a lt small h r k
tree_goes_further g m by (One x c) a lt small h r k = displaced_further g m by a small h r
tree_goes_further g m by (Two x c d) a lt small h r k = displaced_further g m by a small h r

pub within_further : (g : Standing) (m by : ℕ) (b : Bool) (a : Typed) → (b ≡ true → by < m) → by < 2 ^ 32 → FitsTyped g a → HasRoom g.slots m a.tree → Further g (m - by) (further b by a)
within_further g m by true a lt small h r = tree_goes_further g m by a.tree a (lt refl) small h r r
within_further g m by false a lt small h r = displaced_further g m by a small h r

pub goes_further : (g : Standing) (m by : ℕ) (a : Typed) → by < 2 ^ 32 → FitsTyped g a → HasRoom g.slots m a.tree → Further g (m - by) (further (nat_lt by m) by a)
goes_further g m by a small h r = within_further g m by (nat_lt by m) a (λ e. ltb-true by m e) small h r
