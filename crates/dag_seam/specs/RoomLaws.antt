-- Which nodes of a block have rooms.
use Rattle.std.specs.Prelude.{◌≡◌, ℕ, ◌<◌, ◌≤◌, true, false, Some, None, List, slice_get}
use Rattle.lcc_base.specs.declared.order.Order.{Order}
use Rattle.op_forest.specs.declared.frame.Slot.{Slot}
use Rattle.forests.specs.Addresses.{Home}
use Rattle.dag_forest.specs.declared.act.Act.{Act}
use Rattle.dag_forest.specs.declared.entry.Entry.{Entry}
use Rattle.dag_forest.specs.declared.key.Key.{Key}
use Rattle.dag_forest.specs.declared.parts.Parts.{Parts}
use Rattle.dag_forest.specs.Choice.{Room, counts, late, is_handed, kind_of}
use Rattle.dag_forest.specs.Entries.{is_call}
use Rattle.dag_forest.specs.Meaning.{Temporary}
use Rattle.dag_forest.specs.Schedules.{acts_of}
use Rattle.dag_forest.specs.Split.{room_of, room_count, keeps_of}
use Rattle.dag_forest.specs.Tally.{keys_of, node_count}
use Rattle.dag_seam.specs.Rooms.{IsMade, HasCause}
use Rattle.dag_seam.specs.Turns.{Makes}

-- ---- who has one

-- a call that is made and isn't handed to a root
abbrev pub CallHasRoom : Type 0
CallHasRoom = (es : List Entry) (n : ℕ) (x : Parts) (later : List Act) → IsMade (acts_of es) n x later → is_call x.operator.op ≡ true → is_handed later n ≡ false → (r : Room) × (room_of es n ≡ Some r)

-- no node without need
abbrev pub RoomHasCause : Type 0
RoomHasCause = (es : List Entry) (n : ℕ) (r : Room) → room_of es n ≡ Some r → HasCause es n r

-- a handed call has none
abbrev pub HandedHasNone : Type 0
HandedHasNone = (es : List Entry) (n : ℕ) (x : Parts) (later : List Act) → IsMade (acts_of es) n x later → is_call x.operator.op ≡ true → is_handed later n ≡ true → room_of es n ≡ None

-- nor has a node that is no call, and is used once and in its stretch
abbrev pub OnceHasNone : Type 0
OnceHasNone = (es : List Entry) (n : ℕ) (x : Parts) (later : List Act) → IsMade (acts_of es) n x later → is_call x.operator.op ≡ false → counts later n ≤ 1 → late later n ≡ false → room_of es n ≡ None

-- a room is of the kind of its node's suffix
abbrev pub RoomHasKind : Type 0
RoomHasKind = (es : List Entry) (n : ℕ) (r : Room) (k : Key) → room_of es n ≡ Some r → slice_get (keys_of es) n ≡ Some k → r.kind ≡ kind_of k.parts.operator.suffix

-- only nodes that the block makes have temporaries
abbrev pub KeptIsMade : Type 0
KeptIsMade = (order : Order) (home : Home) (before : List Slot) (es : List Entry) (m : ℕ) (t : Temporary) → keeps_of order home before es m ≡ Some t → Makes m (acts_of es)

-- ---- numbers

abbrev pub RoomsAreBelow : Type 0
RoomsAreBelow = (es : List Entry) (n : ℕ) (r : Room) → room_of es n ≡ Some r → r.number < room_count es

abbrev pub RoomsAreApart : Type 0
RoomsAreApart = (es : List Entry) (m n : ℕ) (r q : Room) → room_of es m ≡ Some r → room_of es n ≡ Some q → r.number ≡ q.number → m ≡ n

abbrev pub RoomsAreFew : Type 0
RoomsAreFew = (es : List Entry) → room_count es ≤ node_count es
