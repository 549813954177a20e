-- States of the lowering whose blocks fit the frame, the open one and those that are finished; and what expressions come to in them.
-- Source: Fraser and Hanson, A Retargetable C Compiler, chapters 5 and 12.
use Rattle.std.specs.Prelude.{◌≡◌, ◌≤◌, ◌<◌, ℕ, ◌+◌, ◌^◌, ℤ, pos, negsuc, ◌+ℤ◌, Option, Some, List, [], ◌∷◌, slice_get}
use Rattle.op_forest.specs.declared.frame.Slot.{Slot}
use Rattle.op_forest.specs.declared.op.Op.{Op}
use Rattle.op_forest.specs.declared.op.Op.TheVariants as op
use Rattle.op_forest.specs.declared.suffix.Suffix.{Suffix}
use Rattle.forests.specs.WellFormed.{LiesInOne}
use Rattle.c_types.specs.CType.{CType}
use Rattle.c_meaning.specs.declared.core_expr.Change.{Change}
use Rattle.c_meaning.specs.declared.core_expr.Change.TheVariants as change
use Rattle.c_meaning.specs.declared.core_expr.CoreKind.{CoreKind}
use Rattle.c_meaning.specs.declared.core_expr.CoreKind.TheVariants as kind
use Rattle.c_meaning.specs.CoreTrees.{Core, NoCore, Cores}
use Rattle.c_meaning.specs.Values.{CoreTree, CoreTrees}
use Rattle.c_runs.specs.Places.{size_of}
use Rattle.c_rows_agree.specs.Fitting.{IsScalar}
use Rattle.c_rows_agree.specs.Templates.{Template, Given, Leaf, One, Two}
use Rattle.c_rows_agree.specs.Typed.{Typed}
use Rattle.dag_seam.specs.Fitting.{Gives, FitsBlock}
use Rattle.piece_runs.specs.Pieces.{Piece, OfBlock, Mark}
use Rattle.lowered_forms.specs.Contexts.{Context}
use Rattle.lowered_forms.specs.Lows.{Low}
use Rattle.lowered_forms.specs.Values.{Lowered}
use Rattle.lowered_fit.specs.Fitted.{Standing, standing, FitsTree, FitsValue}

-- ---- states

-- each finished block fits the frame that was there when it was finished
abbrev pub AreFitPieces : List Piece → Type 0
AreFitPieces [] = Unit {0}
AreFitPieces (OfBlock before es ∷ ps) = FitsBlock before es × AreFitPieces ps
AreFitPieces (Mark n ∷ ps) = AreFitPieces ps

pub record IsFitState (l : Low) : Type 0 where
  pub current : FitsBlock l.slots l.entries
  pub pieces : AreFitPieces l.pieces

-- what lies in one of the first slots lies in one of the second
abbrev pub IsWider : List Slot → List Slot → Type 0
IsWider slots more = (z : ℤ) → LiesInOne slots z → LiesInOne more z

-- a later state
pub record IsFitAfter (l m : Low) : Type 0 where
  pub state : IsFitState m
  pub wide : IsWider l.slots m.slots

-- ---- operands

abbrev pub standing_in : Low → Standing
standing_in l = standing l.slots l.entries

-- where there are no nodes
abbrev pub bare : List Slot → Standing
bare slots = record { keys = []; slots = slots }

-- a node, an address or a constant, or what has no node in it
abbrev pub IsPending : Standing → Template → Suffix → Type 0
IsPending g (Given n) s = Gives g.keys s n
IsPending g (Leaf h) s = FitsValue g.slots h [] s
IsPending g (One h a) s = FitsTree (bare g.slots) (One h a) s
IsPending g (Two h a b) s = FitsTree (bare g.slots) (Two h a b) s

pub record FitsOperand (g : Standing) (a : Typed) : Type 0 where
  pub fits : IsPending g a.tree a.suffix
  pub scalar : IsScalar a.suffix

-- from the address of a local on, so many bytes are in slots
abbrev pub HasRoomBy : List Slot → ℕ → Op → Option ℤ → Type 0
HasRoomBy slots n op.Addrl (Some z) = (by : ℕ) → by < n → LiesInOne slots (z +ℤ pos by)
HasRoomBy slots n o z = Unit {0}

abbrev pub HasRoom : List Slot → ℕ → Template → Type 0
HasRoom slots n (Leaf h) = HasRoomBy slots n h.operator.op h.value
HasRoom slots n t = Unit {0}

-- what an expression comes to from a state on
pub record IsFitResult (bytes : ℕ) (l : Low) (r : Lowered) : Type 0 where
  pub state : IsFitState r.low
  pub wide : IsWider l.slots r.low.slots
  pub value : FitsOperand (standing_in r.low) r.value
  pub room : HasRoom r.low.slots bytes r.value.tree

-- ---- expressions

-- an offset from the frame's top is in a slot, and one from the first parameter word is a word
abbrev pub FitsOffset : List Slot → ℤ → Type 0
FitsOffset slots (pos n) = n < 2 ^ 32
FitsOffset slots (negsuc n) = LiesInOne slots (negsuc n)

-- each local has its place
abbrev pub FitsContext : Context → List Slot → Type 0
FitsContext s slots = (n : ℕ) (z : ℤ) → slice_get s.places n ≡ Some z → FitsOffset slots z

-- so have all bytes of a type at a local
abbrev pub FitsLocal : Context → List Slot → ℕ → CType → Type 0
FitsLocal s slots n of =
    (m : ℕ) → slice_get s.places n ≡ Some (negsuc m) → (by : ℕ) → by < size_of s.unit.tags of → LiesInOne slots (negsuc m +ℤ pos by)

abbrev pub IsSmallChange : Change → Type 0
IsSmallChange (change.Arithmetic o signed) = Unit {0}
IsSmallChange (change.Pointer size back) = size < 2 ^ 32

-- numbers, sizes and offsets are words, and bit-fields lie in their units
abbrev pub FitsKind : Context → List Slot → CoreKind → CType → Type 0
FitsKind s slots (kind.Local n register) of = FitsLocal s slots n of
FitsKind s slots (kind.Number n) of = n < 2 ^ 32
FitsKind s slots (kind.Member offset first width) of = (offset < 2 ^ 32) × (first + width ≤ 32)
FitsKind s slots (kind.Move size back) of = size < 2 ^ 32
FitsKind s slots (kind.Difference size) of = size < 2 ^ 32
FitsKind s slots (kind.Change by) of = IsSmallChange by
FitsKind s slots (kind.Postfix by) of = IsSmallChange by
FitsKind s slots what of = Unit {0}

abbrev mutual
  pub FitsCore : Context → List Slot → CoreTree → Type 0
  FitsCore s slots (Core what of line kids) = FitsKind s slots what of × FitsCores s slots kids

  pub FitsCores : Context → List Slot → CoreTrees → Type 0
  FitsCores s slots NoCore = Unit {0}
  FitsCores s slots (Cores c cs) = FitsCore s slots c × FitsCores s slots cs
