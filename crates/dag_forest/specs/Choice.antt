-- Which nodes of a block are kept in slots of the frame: none that is an address or a constant; each call that isn't handed to
-- the root right behind it; and of the others each that is used more than once, and one that is used behind its stretch and at
-- or below which a read or call stands that isn't kept.
-- Source: Fraser and Hanson, A Retargetable C Compiler, chapter 12 (common subexpressions).
use Rattle.std.specs.Prelude.{◌≡◌, ◌⊎◌, ℕ, zero, suc, ◌+◌, ◌<◌, ◌≤◌, ◌==◌, ◌&&◌, ◌||◌, not, Bool, true, false, Option, Some, None, List, [], ◌∷◌, cond, if◌then◌else◌}
use Rattle.op_forest.specs.declared.op.Op.{Op}
use Rattle.op_forest.specs.declared.op.Op.TheVariants as op
use Rattle.op_forest.specs.declared.suffix.Suffix.{Suffix}
use Rattle.op_forest.specs.declared.suffix.Suffix.TheVariants as suffix
use Rattle.dag_forest.specs.declared.kids.Kids.{Kids}
use Rattle.dag_forest.specs.declared.kids.Kids.TheVariants.{Zero, One, Two}
use Rattle.dag_forest.specs.declared.kind.Kind.{Kind}
use Rattle.dag_forest.specs.declared.kind.Kind.TheVariants.{Char, Short, Signed, Unsigned, Address}
use Rattle.dag_forest.specs.declared.parts.Parts.{Parts}
use Rattle.dag_forest.specs.declared.uses.Times.{Times}
use Rattle.dag_forest.specs.declared.uses.Times.TheVariants.{Never, Once, More}
use Rattle.dag_forest.specs.Entries.{AreBelow, is_call, is_read, is_write}
use Rattle.dag_forest.specs.Schedules.{Act, Made, Acts, kids_of, at}

-- ---- uses

abbrev pub hits : ℕ → ℕ → ℕ
hits m a = cond (m == a) 1 0

-- how often a node is one of the operands
abbrev pub in_kids : Kids → ℕ → ℕ
in_kids Zero m = 0
in_kids (One a) m = hits m a
in_kids (Two a c) m = hits m a + hits m c

-- how often a node is used in these acts
abbrev pub counts : List Act → ℕ → ℕ
counts [] m = 0
counts (a ∷ as') m = in_kids (kids_of a) m + counts as' m

abbrev pub times_of : ℕ → Times
times_of zero = Never
times_of (suc zero) = Once
times_of (suc (suc c)) = More

abbrev pub is_above : ℕ → Bool
is_above zero = false
is_above (suc c) = true

-- a stretch ends at a call, and at a root that writes or calls
abbrev pub ends_stretch : Act → Bool
ends_stretch (Made n x) = is_call x.operator.op
ends_stretch (Acts x) = is_write x.operator.op || is_call x.operator.op

-- whether a node is used behind the stretch that is open before these acts
abbrev pub late : List Act → ℕ → Bool
late [] m = false
late (a ∷ as') m = if ends_stretch a then is_above (counts as' m) else late as' m

-- ---- handed calls

-- the operands of a root
abbrev pub root_kids : Act → Kids
root_kids (Made n x) = Zero
root_kids (Acts x) = x.kids

-- those of the root right behind, if one is
abbrev pub next_kids : List Act → Kids
next_kids [] = Zero
next_kids (a ∷ as') = root_kids a

abbrev pub is_last : ℕ → Kids → Bool
is_last m Zero = false
is_last m (One a) = m == a
is_last m (Two a c) = m == c

abbrev pub is_once : Times → Bool
is_once Never = false
is_once Once = true
is_once More = false

-- A node that is made right before these acts is the last operand of the first of them, a root, and nothing else uses it. Such
-- a call is handed to the root: it is made in it, behind the root's other operand.
abbrev pub is_handed : List Act → ℕ → Bool
is_handed as' n = is_last n (next_kids as') && is_once (times_of (counts as' n))

-- ---- choice

abbrev pub is_leaf : Op → Bool
is_leaf op.Cnst = true
is_leaf op.Addrg = true
is_leaf op.Addrf = true
is_leaf op.Addrl = true
is_leaf o = false

abbrev pub has_kids : Kids → Bool
has_kids Zero = false
has_kids (One a) = true
has_kids (Two a c) = true

-- neither an address nor a constant, which have no operands
abbrev pub is_computed : Parts → Bool
is_computed x = has_kids x.kids || not (is_leaf x.operator.op)

-- whether a node that is used so often is kept: used more than once, or once where what it reads may have changed
abbrev pub is_needed : Times → Bool → Bool
is_needed Never stale = false
is_needed Once stale = stale
is_needed More stale = true

abbrev pub wants : Parts → Times → Bool → Bool → Bool → Bool
wants x times late handed reads = is_computed x && (if is_call x.operator.op then not handed else is_needed times (late && reads))

abbrev pub kids_read : (ℕ → Bool) → Kids → Bool
kids_read reads Zero = false
kids_read reads (One a) = reads a
kids_read reads (Two a c) = reads a || reads c

-- whether a read or a call that isn't kept stands at or below it
abbrev pub reads_by : (ℕ → Bool) → Parts → Bool
reads_by reads x = is_read x.operator.op || (is_call x.operator.op || kids_read reads x.kids)

abbrev pub kind_of : Suffix → Kind
kind_of suffix.C = Char
kind_of suffix.S = Short
kind_of suffix.U = Unsigned
kind_of suffix.P = Address
kind_of x = Signed

-- where a node is kept: in which of the new slots, from 0, and what it is
pub record Room : Type 0 where
  pub number : ℕ
  pub kind : Kind

abbrev pub room_by : Bool → Parts → ℕ → Option Room
room_by false x t = None
room_by true x t = Some (record { number = t; kind = kind_of x.operator.suffix })

abbrev pub next_by : Bool → ℕ → ℕ
next_by false t = t
next_by true t = suc t

-- whether a node that is made before these acts is kept
abbrev pub is_wanted : List Act → (ℕ → Bool) → ℕ → Parts → Bool
is_wanted as' reads n x = wants x (times_of (counts as' n)) (late as' n) (is_handed as' n) (reads_by reads x)

-- the rooms of the nodes that these acts make, of which the first is that of number t
abbrev pub chosen : List Act → (ℕ → Bool) → ℕ → (ℕ → Option Room)
chosen [] reads t = λ m. None
chosen (Made n x ∷ as') reads t =
    at (chosen as' (at reads n (not (is_wanted as' reads n x) && reads_by reads x)) (next_by (is_wanted as' reads n x) t)) n (room_by (is_wanted as' reads n x) x t)
chosen (Acts x ∷ as') reads t = chosen as' reads t

-- the number behind the last room
abbrev pub rooms_to : List Act → (ℕ → Bool) → ℕ → ℕ
rooms_to [] reads t = t
rooms_to (Made n x ∷ as') reads t = rooms_to as' (at reads n (not (is_wanted as' reads n x) && reads_by reads x)) (next_by (is_wanted as' reads n x) t)
rooms_to (Acts x ∷ as') reads t = rooms_to as' reads t

-- a node's number is below k, and its operands' numbers below its own; those of a root are below k
abbrev pub IsLow : ℕ → Act → Type 0
IsLow k (Made n x) = (n < k) × AreBelow n x.kids
IsLow k (Acts x) = AreBelow k x.kids

-- where a node has a room, this is so
abbrev pub IfRoom : Option Room → Type 0 → Type 0
IfRoom None P = Unit {0}
IfRoom (Some r) P = P

-- No node has a room without need: none that is an address or a constant, and no other than a call that isn't handed, what is
-- used more than once, and what is used behind its stretch.
abbrev pub AreSparing : (ℕ → Option Room) → List Act → Type 0
AreSparing rooms [] = Unit {0}
AreSparing rooms (Made n x ∷ as') = IfRoom (rooms n) ((is_computed x ≡ true) × (((is_call x.operator.op ≡ true) × (is_handed as' n ≡ false)) ⊎ (2 ≤ counts as' n) ⊎ (late as' n ≡ true))) × AreSparing rooms as'
AreSparing rooms (Acts x ∷ as') = AreSparing rooms as'
