-- What every world of a run keeps: numbers are words, bytes are bytes, names were made, and what lives keeps its size.
use Rattle.std.specs.Prelude.{◌≡◌, ◌≤◌, ◌<◌, ◌^◌, ℕ, ◌+◌, IfSome, Option, Some, List, [], ◌∷◌, ◌++◌, length, map, slice_get, Ok}
use Rattle.lcc_base.specs.declared.order.Order.{Order}
use Rattle.lcc_base.specs.Traces.{Event, Wrote, Opened, Closed}
use Rattle.objects.specs.declared.byte.Byte.{Byte}
use Rattle.objects.specs.declared.byte.Byte.TheVariants.{Bits, Part}
use Rattle.objects.specs.declared.purpose.Purpose.{Purpose}
use Rattle.objects.specs.declared.value.Value.{Value}
use Rattle.objects.specs.declared.value.Value.TheVariants.{Number, Pointer, Function}
use Rattle.objects.specs.Objects.{Object}
use Rattle.c_types.specs.CType.{CType}
use Rattle.c_types.specs.Layout.{Tag}
use Rattle.c_meaning.specs.declared.core_expr.CoreKind.{CoreKind}
use Rattle.c_meaning.specs.declared.core_expr.CoreKind.TheVariants as kind
use Rattle.c_meaning.specs.StmtTrees.{FilledOf, StmtOf, StmtsOf}
use Rattle.c_meaning.specs.Each.{EachIs, EachKind, EachKinds, EachExpr, EachExprs}
use Rattle.c_meaning.specs.Numbers.{IsByte, IsText}
use Rattle.c_meaning.specs.Units.{CoreUnit, FunctionTree, ObjectTree, UnitTree, IsUnit, IsWhole, unit_seen}
use Rattle.c_meaning.specs.Values.{CoreTree, CoreTrees}
use Rattle.c_runs.specs.Worlds.{World, with_objects}
use Rattle.c_runs.specs.Outcomes.{How, Undefined, OutOfTurns, Exit, Result, Gives, GivesNone, Ends, Out, Next, Break, Continue, Return, Goto, Over}
use Rattle.c_runs.specs.Places.{size_of, assigned}
use Rattle.c_runs.specs.Expressions.{eval}
use Rattle.c_runs.specs.Statements.{Entry, exec}
use Rattle.c_runs.specs.Run.{context, run_tree, run}

-- ---- sizes

-- what never changes of an object while it lives: how many were made before it, and its size
pub record Outline : Type 0 where
  pub made : ℕ
  pub size : ℕ

abbrev pub outline : Object → Outline
outline x = record { made = x.made; size = length x.bytes }

abbrev pub outlines : List Object → List Outline
outlines os = map outline os

-- the unit's objects in order, each of the size that its type has, and its texts, each with a null behind it, so many made before
abbrev pub text_outlines : ℕ → List (List ℕ) → List Outline
text_outlines n [] = []
text_outlines n (t ∷ ts) = record { made = n; size = length (t ++ 0 ∷ []) } ∷ text_outlines (n + 1) ts

abbrev pub own_outlines : List Tag → ℕ → List ObjectTree → List (List ℕ) → List Outline
own_outlines tags n [] ts = text_outlines n ts
own_outlines tags n (o ∷ os) ts = record { made = n; size = size_of tags o.of } ∷ own_outlines tags (n + 1) os ts

abbrev pub declared : UnitTree → List Outline
declared u = own_outlines u.tags 0 u.objects u.texts

-- ---- worlds

-- a number is a word; a pointer's object was made, and the pointer stays in it
abbrev pub IsSoundValue : ℕ → Value → Type 0
IsSoundValue made (Number n) = n < 2 ^ 32
IsSoundValue made (Pointer name offset) = (name.made < made) × (offset ≤ name.size)
IsSoundValue made (Function f) = Unit {0}

abbrev pub IsSoundByte : ℕ → Byte Value → Type 0
IsSoundByte made (Bits known value) = (known < 256) × (value < 256)
IsSoundByte made (Part v place) = (place < 4) × IsSoundValue made v

abbrev pub IsSoundObject : ℕ → Object → Type 0
IsSoundObject made x = (x.made < made) × EachIs (IsSoundByte made) x.bytes

abbrev pub IsSoundEvent : Event → Type 0
IsSoundEvent (Wrote byte) = byte < 256
IsSoundEvent (Opened f) = Unit {0}
IsSoundEvent Closed = Unit {0}

-- a world in a run of the unit, whose own objects and texts were made and live, each of its size
pub record IsSound (u : UnitTree) (w : World) : Type 0 where
  pub own : length u.objects + length u.texts ≤ w.storage.made
  pub others : List Outline
  pub live : outlines w.storage.objects ≡ declared u ++ others
  pub objects : EachIs (IsSoundObject w.storage.made) w.storage.objects
  pub locals : EachIs (IsSoundValue w.storage.made) w.locals
  pub input : EachIs IsByte w.input
  pub trace : EachIs IsSoundEvent w.trace

-- ---- what a world keeps of an earlier one

-- names that were made stay made; the same objects live, each of its size; the running call has the same locals
pub record Keeps (old w : World) : Type 0 where
  pub made : old.storage.made ≤ w.storage.made
  pub lives : outlines w.storage.objects ≡ outlines old.storage.objects
  pub locals : w.locals ≡ old.locals

-- ---- the objects of the running call's locals

-- a pointer to the first byte of an object of so many bytes, which is among these
abbrev pub IsObjectOf : List Outline → ℕ → Value → Type 0
IsObjectOf lives size (Pointer name offset) = (offset ≡ 0) × ((name.size ≡ size) × (slice_get lives name.place ≡ Some (record { made = name.made; size = size })))
IsObjectOf lives size v = ⊥

-- one for each of these types, in order, of the size that the type has
abbrev pub AreObjectsOf : List Tag → List Outline → List CType → List Value → Type 0
AreObjectsOf tags lives [] [] = Unit {0}
AreObjectsOf tags lives (t ∷ ts) (v ∷ vs) = IsObjectOf lives (size_of tags t) v × AreObjectsOf tags lives ts vs
AreObjectsOf tags lives ts vs = ⊥

-- the running call's locals are these: each is an object that lives, and no other is there
abbrev pub AreLocalsOf : List Tag → List CType → World → Type 0
AreLocalsOf tags ts w = AreObjectsOf tags (outlines w.storage.objects) ts w.locals

-- ---- outcomes

abbrev pub IsSoundHow : How → Type 0
IsSoundHow (Undefined cause line) = Unit {0}
IsSoundHow OutOfTurns = Unit {0}
IsSoundHow (Exit status) = status < 2 ^ 32

abbrev pub IsSoundResult : UnitTree → World → Result → Type 0
IsSoundResult u old (Gives v k w) = IsSoundValue w.storage.made v × (IsSound u w × Keeps old w)
IsSoundResult u old (GivesNone line k w) = IsSound u w × Keeps old w
IsSoundResult u old (Ends how w) = IsSoundHow how × IsSound u w

abbrev pub IsSoundOut : UnitTree → World → Out → Type 0
IsSoundOut u old (Next k w) = IsSound u w × Keeps old w
IsSoundOut u old (Break k w) = IsSound u w × Keeps old w
IsSoundOut u old (Continue k w) = IsSound u w × Keeps old w
IsSoundOut u old (Return v line k w) = IfSome v (IsSoundValue w.storage.made) × (IsSound u w × Keeps old w)
IsSoundOut u old (Goto l k w) = IsSound u w × Keeps old w
IsSoundOut u old (Over how w) = IsSoundHow how × IsSound u w

-- ---- numbers are words, bit-fields lie in their units, and texts are of bytes

abbrev pub IsTameKind : CoreKind → Type 0
IsTameKind (kind.Number n) = n < 2 ^ 32
IsTameKind (kind.Member offset first width) = first + width ≤ 32
IsTameKind what = Unit {0}

abbrev pub IsTame : CoreTree → Type 0
IsTame c = EachKind IsTameKind c

abbrev pub AreTame : CoreTrees → Type 0
AreTame cs = EachKinds IsTameKind cs

abbrev pub IsTamePlace : FilledOf CType → Type 0
IsTamePlace p = (p.first + p.width ≤ 32) × IsTame p.value

abbrev pub IsMaybeTame : Option CoreTree → Type 0
IsMaybeTame e = IfSome e IsTame

abbrev pub IsTameStmt : StmtOf CType → Type 0
IsTameStmt s = EachExpr IsTame IsTamePlace s

abbrev pub AreTameStmts : StmtsOf CType → Type 0
AreTameStmts ss = EachExprs IsTame IsTamePlace ss

abbrev pub IsTameFunction : FunctionTree → Type 0
IsTameFunction f = IsTameStmt f.body

abbrev pub IsTameObject : ObjectTree → Type 0
IsTameObject o = EachIs IsTamePlace o.places

pub record IsTameUnit (u : UnitTree) : Type 0 where
  pub functions : EachIs IsTameFunction u.functions
  pub objects : EachIs IsTameObject u.objects
  pub texts : EachIs IsText u.texts

-- ---- a checked unit is so

abbrev pub UnitsAreTame : Type 0
UnitsAreTame = (u : UnitTree) → IsUnit u → IsTameUnit u

-- ---- the laws

abbrev pub EvalStaysSound : Type 0
EvalStaysSound =
    (u : UnitTree) (order : Order) (c : CoreTree) (k : ℕ) (w : World) → IsTameUnit u → IsTame c → IsSound u w
    → IsSoundResult u w (eval (context u order) c k w)

abbrev pub ExecStaysSound : Type 0
ExecStaysSound =
    (u : UnitTree) (order : Order) (s : StmtOf CType) (e : Entry) (k : ℕ) (w : World) → IsTameUnit u → IsTameStmt s → IsSound u w
    → IsSoundOut u w (exec (context u order) s e k w)

-- a structure copied, as calls do between their arguments
abbrev pub CopiesStaySound : Type 0
CopiesStaySound =
    (u : UnitTree) (purpose : Purpose) (of : CType) (from to : Value) (w : World) (os : List Object)
    → IsSound u w → assigned purpose u.tags of w.storage.objects from to ≡ Ok os → IsSound u (with_objects w os) × Keeps w (with_objects w os)

-- a whole run, from an input of bytes
abbrev pub RunStaysSound : Type 0
RunStaysSound =
    (u : UnitTree) (order : Order) (input : List ℕ) (k : ℕ) → IsTameUnit u → EachIs IsByte input
    → IsSoundHow (run_tree u order input k).how × IsSound u (run_tree u order input k).world

-- that of a checked unit, of which nothing more is asked
abbrev pub CoreStaysSound : Type 0
CoreStaysSound =
    (u : CoreUnit) (order : Order) (input : List ℕ) (k : ℕ) → IsWhole u → EachIs IsByte input
    → IsSoundHow (run u order input k).how × IsSound (unit_seen u) (run u order input k).world
