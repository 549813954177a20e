-- What virtual code keeps: it uses no spill slot, and it is cut into stretches, in each of which a virtual register is
-- read only after it was written there; a label stands first in its stretch, and what moves control last.
-- Source: Fraser and Hanson, A Retargetable C Compiler, chapter 15 (basic blocks and virtual registers).
use Rattle.std.specs.Prelude.{◌≡◌, ℕ, ◌+◌, ◌<◌, ◌≤◌, ◌^◌, ◌==◌, ◌||◌, not, nat_le, List, [], ◌∷◌, ◌++◌, Bool, false, length, All, IsTrue, if◌then◌else◌}
use Rattle.vcode.specs.declared.operand.Operand.{Operand}
use Rattle.vcode.specs.Machines.{Machine, Kind, Plain, Mark, Load, Store, Copy}

-- registers from 64 on are virtual, those below the machine's
abbrev pub is_virtual : ℕ → Bool
is_virtual r = nat_le 64 r

abbrev pub among : ℕ → List ℕ → Bool
among r [] = false
among r (q ∷ qs) = (r == q) || among r qs

-- the registers of the operands that are written
abbrev pub results : List Operand → List ℕ
results [] = []
results (o ∷ os) = if o.written then o.reg ∷ results os else results os

-- each virtual register that is read is among these
abbrev pub ReadsOnly : List ℕ → List Operand → Type 0
ReadsOnly known [] = Unit {0}
ReadsOnly known (o ∷ os) = IsTrue ((o.written || not (is_virtual o.reg)) || among o.reg known) × ReadsOnly known os

-- each virtual register is read only after it was written, where these have a value before
abbrev pub Flows : {I : Type 0} → Machine I → List ℕ → List I → Type 0
Flows m known [] = Unit {0}
Flows m known (i ∷ is) = ReadsOnly known (m.operands i) × Flows m (results (m.operands i) ++ known) is

abbrev pub AreBelow : ℕ → List Operand → Type 0
AreBelow limit [] = Unit {0}
AreBelow limit (o ∷ os) = (o.reg < limit) × AreBelow limit os

-- each register that the code names is below the limit
abbrev pub NamesBelow : {I : Type 0} → Machine I → ℕ → List I → Type 0
NamesBelow m limit [] = Unit {0}
NamesBelow m limit (i ∷ is) = AreBelow limit (m.operands i) × NamesBelow m limit is

abbrev pub IsMark : Kind → Type 0
IsMark Plain = ⊥
IsMark (Mark l) = Unit {0}
IsMark (Load z) = ⊥
IsMark (Store z) = ⊥
IsMark Copy = ⊥

abbrev pub UsesSlot : Kind → Type 0
UsesSlot Plain = ⊥
UsesSlot (Mark l) = ⊥
UsesSlot (Load z) = Unit {0}
UsesSlot (Store z) = Unit {0}
UsesSlot Copy = ⊥

-- no instruction reads or changes a spill slot
abbrev pub UsesNoSlot : {I : Type 0} → Machine I → List I → Type 0
UsesNoSlot m [] = Unit {0}
UsesNoSlot m (i ∷ is) = (UsesSlot (m.kind i) → ⊥) × UsesNoSlot m is

abbrev pub HasNoMark : {I : Type 0} → Machine I → List I → Type 0
HasNoMark m [] = Unit {0}
HasNoMark m (i ∷ is) = (IsMark (m.kind i) → ⊥) × HasNoMark m is

abbrev pub MovesNot : {I : Type 0} → Machine I → List I → Type 0
MovesNot m [] = Unit {0}
MovesNot m (i ∷ is) = (m.moves i ≡ false) × MovesNot m is

-- what moves control stands last
abbrev pub MovesLast : {I : Type 0} → Machine I → List I → Type 0
MovesLast m [] = Unit {0}
MovesLast m (i ∷ []) = Unit {0}
MovesLast m (i ∷ j ∷ is) = (m.moves i ≡ false) × MovesLast m (j ∷ is)

-- a label stands first
abbrev pub MarkedFirst : {I : Type 0} → Machine I → List I → Type 0
MarkedFirst m [] = Unit {0}
MarkedFirst m (i ∷ is) = HasNoMark m is

-- the code begins with this label
abbrev pub BeginsWithMark : {I : Type 0} → Machine I → ℕ → List I → Type 0
BeginsWithMark m l [] = ⊥
BeginsWithMark m l (i ∷ is) = m.kind i ≡ Mark l

pub record IsStretch {I : Type 0} (m : Machine I) (code : List I) : Type 0 where
  pub flows : Flows m [] code
  pub names : NamesBelow m (2 ^ 31) code
  pub slots : UsesNoSlot m code
  pub marks : MarkedFirst m code
  pub moves : MovesLast m code
  pub some : 1 ≤ length code

-- the places behind stretches that stand one behind the other from a place on
abbrev pub ends_from : {I : Type 0} → ℕ → List (List I) → List ℕ
ends_from place [] = []
ends_from place (code ∷ more) = (place + length code) ∷ ends_from (place + length code) more

abbrev pub joined : {I : Type 0} → List (List I) → List I
joined [] = []
joined (code ∷ more) = code ++ joined more

-- code and its cuts, which are the places behind its stretches
pub record MCode (I : Type 0) : Type 0 where
  pub code : List I
  pub cuts : List ℕ

pub record IsVirtualCode {I : Type 0} (m : Machine I) (c : MCode I) : Type 0 where
  pub stretches : List (List I)
  pub code : c.code ≡ joined stretches
  pub cuts : c.cuts ≡ ends_from 0 stretches
  pub each : All (IsStretch m) stretches

-- code over a machine's registers, and the number of its spill slots
pub record MAllocated (I : Type 0) : Type 0 where
  pub code : List I
  pub slots : ℕ
