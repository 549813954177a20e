-- What C's operations on pointers give, and what the templates do that stand for them. Operands of a run are sound: a number is a word,
-- and a pointer stays in its object, or is one past it.
-- Source: ISO/IEC 9899:1990, 6.3.2.2, 6.3.2.3, 6.3.3.3, 6.3.6, 6.3.8 and 6.3.9.
use Rattle.std.specs.Prelude.{◌≡◌, ◌<◌, ◌⊎◌, ℕ, ◌+◌, ◌^◌, ℤ, pos, ◌+ℤ◌, Bool, true, false, Some, Ok, List, [], ◌∷◌, slice_get}
use Rattle.objects.specs.declared.operators.Comparison.{Comparison}
use Rattle.objects.specs.declared.value.ObjectName.{ObjectName}
use Rattle.objects.specs.declared.value.Value.{Value}
use Rattle.objects.specs.declared.value.Value.TheVariants.{Pointer, Function}
use Rattle.objects.specs.Causes.{is_dead}
use Rattle.objects.specs.Objects.{Object as Old}
use Rattle.objects.specs.Pointers.{moved, subtracted}
use Rattle.lcc_base.specs.declared.cause.Cause.TheVariants.{CallMismatch}
use Rattle.op_forest.specs.declared.frame.Slot.{Slot}
use Rattle.op_forest.specs.Frames.{IsFrame}
use Rattle.forests.specs.Actions.{Called, Moved}
use Rattle.forests.specs.Rows.{acts}
use Rattle.forests.specs.Words.{Plain, IsWord}
use Rattle.c_types.specs.CType.{CType}
use Rattle.c_meaning.specs.Types.{is_pointer}
use Rattle.c_runs.specs.Calls.{Setting, Call, call_value}
use Rattle.c_runs.specs.Expressions.{moved_by, moved_among, compared_by, holds}
use Rattle.c_runs.specs.Outcomes.{undefined, truth}
use Rattle.c_runs.specs.Worlds.{World}
use Rattle.c_match.specs.Values.{IsValue, StaysInside}
use Rattle.c_rows_agree.specs.Templates.{Scene, Acts}
use Rattle.c_rows_agree.specs.Typed.{Typed, Holds}
use Rattle.c_pointers_agree.specs.Pointers as template
use Rattle.c_pointers_agree.specs.Pointers.{displaced, name, local, argument, difference, call_head}
use Rattle.c_rows_agree.specs.Integers.{compared, tested, move_where}
use Rattle.c_pointers_agree.specs.Held.{HoldsShort}

-- ---- moves

-- a pointer by as many elements as an integer of a type says
abbrev pub ElementsMove : Type 0
ElementsMove =
    (k : Scene) (old : List Old) (size : ℕ) (back : Bool) (t : CType) (a b : Typed) (p n q : Value)
    → HoldsShort k old → size < 2 ^ 32 → StaysInside p → IsWord (Plain n) → Holds k a p → Holds k b n → moved_by size back t old p n ≡ Ok q
    → Holds k (template.moved size back a b) q

-- the pointer may stand on either side
abbrev pub EitherSideMoves : Type 0
EitherSideMoves =
    (k : Scene) (old : List Old) (size : ℕ) (back : Bool) (t u : CType) (a b : Typed) (v w q : Value)
    → HoldsShort k old → size < 2 ^ 32 → StaysInside v → StaysInside w → IsWord (Plain v) → IsWord (Plain w) → Holds k a v → Holds k b w
    → moved_among size back t u old v w ≡ Ok q → Holds k (template.moved_among size back (is_pointer t) a b) q

-- a member of what a place holds
abbrev pub MembersAgree : Type 0
MembersAgree =
    (k : Scene) (old : List Old) (offset : ℕ) (a : Typed) (p q : Value)
    → HoldsShort k old → StaysInside p → Holds k a p → moved old p (pos offset) ≡ Ok q → Holds k (displaced offset a) q

-- what a name stands for, an object or a function, and a place behind it
abbrev pub NamesStand : Type 0
NamesStand =
    (k : Scene) (old : List Old) (n : ℕ) (by : ℤ) (v p q : Value)
    → HoldsShort k old → k.environment.global n ≡ Some v → IsValue k.map p (Plain v) → moved old p by ≡ Ok q → Holds k (name n by) q

-- a live pointer, and anything else, stays where it is moved by no byte
abbrev pub LiveStays : Type 0
LiveStays = (old : List Old) (p : Value) → StaysInside p → is_dead old p ≡ false → moved old p (pos 0) ≡ Ok p

-- a place behind another one that is behind the name's, too
abbrev pub NamesMove : Type 0
NamesMove =
    (k : Scene) (old : List Old) (n : ℕ) (offset by : ℤ) (p q : Value)
    → HoldsShort k old → Holds k (name n offset) p → moved old p by ≡ Ok q → Holds k (name n (offset +ℤ by)) q

-- The first so many bytes of a slot of the frame, which no other shares, are the places at the offsets from the slot's own on.
abbrev pub SlotsStand : Type 0
SlotsStand =
    (k : Scene) (i : ℕ) (s : Slot) (object : ObjectName) (start offset : ℕ)
    → IsFrame k.environment.home.slots → slice_get k.environment.home.slots i ≡ Some s
    → IsValue k.map (Pointer object offset) (Plain (Pointer (template.slot_name k.environment.home i s) start)) → start < s.size
    → Holds k (local (s.offset +ℤ pos start)) (Pointer object offset)

-- and a member of what stands there is further in the slot
abbrev pub SlotsMove : Type 0
SlotsMove =
    (k : Scene) (old : List Old) (i : ℕ) (s : Slot) (start by : ℕ) (p q : Value)
    → IsFrame k.environment.home.slots → slice_get k.environment.home.slots i ≡ Some s → start + by < s.size
    → Holds k (local (s.offset +ℤ pos start)) p → moved old p (pos by) ≡ Ok q → Holds k (local (s.offset +ℤ pos (start + by))) q

-- a parameter word
abbrev pub ArgumentsStand : Type 0
ArgumentsStand =
    (k : Scene) (i : ℕ) (p : Value)
    → i < k.environment.home.words → IsValue k.map p (Plain (Pointer (template.argument_name k.environment.home i) 0)) → Holds k (argument i) p

-- ---- differences

abbrev pub DifferencesAgree : Type 0
DifferencesAgree =
    (k : Scene) (old : List Old) (size : ℕ) (a b : Typed) (p q d : Value)
    → HoldsShort k old → size < 2 ^ 31 → StaysInside p → StaysInside q → Holds k a p → Holds k b q → subtracted old size p q ≡ Ok d
    → Holds k (difference size a b) d

-- ---- comparisons and tests

-- a jump that is taken where a comparison of two pointers holds, or where it doesn't
abbrev pub ComparisonsAgree : Type 0
ComparisonsAgree =
    (k : Scene) (old : List Old) (t : CType) (signed : Bool) (o : Comparison) (a b : Typed) (p q v : Value)
    → HoldsShort k old → StaysInside p → StaysInside q → Holds k a p → Holds k b q → is_pointer t ≡ true → compared_by t signed o old p q ≡ Ok v
    → (is : Bool) × (v ≡ truth is) × ((when : Bool) (l : ℕ) → Acts k (compared o false when l a b) (Moved (move_where when is l)))

-- or where a pointer isn't null
abbrev pub TestsAgree : Type 0
TestsAgree =
    (k : Scene) (old : List Old) (t : CType) (a : Typed) (p : Value) (is when : Bool) (l : ℕ)
    → HoldsShort k old → Holds k a p → is_pointer t ≡ true → holds t old p ≡ Ok is → Acts k (tested when l a) (Moved (move_where when is l))

-- ---- calls

-- a function's name stands for it
abbrev pub FunctionsStand : Type 0
FunctionsStand = (k : Scene) (n f : ℕ) → k.environment.global n ≡ Some (Function f) → Holds k (name n (pos 0)) (Function f)

-- What is called is a function, and the operator calls it; or C's call is undefined.
abbrev pub CalleesAgree : Type 0
CalleesAgree =
    (k : Scene) (s : Setting) (a : Typed) (v : Value) (call : ℕ → Call) (line turns : ℕ) (w : World)
    → (h : Holds k a v)
    → ((f : ℕ) × (v ≡ Function f) × ((valued : Bool) → acts k.environment (call_head valued) (h.word ∷ []) k.objects ≡ Called valued f))
    ⊎ (call_value s v call line turns w ≡ undefined CallMismatch line w)
