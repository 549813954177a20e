-- Code in which each virtual register has a spill slot of its own: before an instruction the virtual operands that it
-- reads are loaded, each into a temporary of its own; behind it those that it writes are stored.
-- Source: Fraser and Hanson, A Retargetable C Compiler, chapter 15 (spilling).
use Rattle.std.specs.Prelude.{ℕ, suc, ◌-◌, ℤ, pos, List, [], ◌∷◌, ◌++◌, Bool, not, ◌&&◌, ◌||◌, IsTrue, if◌then◌else◌}
use Rattle.vcode.specs.declared.operand.Operand.{Operand}
use Rattle.vcode.specs.Machines.{Machine}
use Rattle.vcode.specs.VirtualCode.{is_virtual, among}
use Rattle.vcode.specs.Following.{is_kept}

-- the slot of a virtual register
abbrev pub slot_of : ℕ → ℤ
slot_of r = pos (r - 64)

abbrev pub is_loaded : Operand → Bool
is_loaded o = is_virtual o.reg && not o.written

abbrev pub is_stored : Operand → Bool
is_stored o = is_virtual o.reg && o.written

-- the loads of the virtual operands that are read, each into the temporary of its place
abbrev pub loads : {I : Type 0} → Machine I → List ℕ → List Operand → List I
loads m [] os = []
loads m (t ∷ ts) [] = []
loads m (t ∷ ts) (o ∷ os) = if is_loaded o then m.load t (slot_of o.reg) ∷ loads m ts os else loads m ts os

-- the stores of the virtual operands that are written, each from the temporary of its place
abbrev pub stores : {I : Type 0} → Machine I → List ℕ → List Operand → List I
stores m [] os = []
stores m (t ∷ ts) [] = []
stores m (t ∷ ts) (o ∷ os) = if is_stored o then m.store t (slot_of o.reg) ∷ stores m ts os else stores m ts os

-- the instruction with temporaries in place of its virtual operands, which are these from place n on
abbrev pub renamed : {I : Type 0} → Machine I → ℕ → List ℕ → List Operand → I → I
renamed m n [] os i = i
renamed m n (t ∷ ts) [] i = i
renamed m n (t ∷ ts) (o ∷ os) i = renamed m (suc n) ts os (if is_virtual o.reg then m.rename i n t else i)

-- an instruction between its loads and stores
abbrev pub spilled : {I : Type 0} → Machine I → List ℕ → I → List I
spilled m ts i = let os = m.operands i in loads m ts os ++ (renamed m 0 ts os i ∷ stores m ts os)

abbrev pub allotted : {I : Type 0} → Machine I → List ℕ → List I → List I
allotted m ts [] = []
allotted m ts (i ∷ is) = spilled m ts i ++ allotted m ts is

-- the registers are the machine's, all different, and the slot instructions keep them
abbrev pub AreTemporaries : {I : Type 0} → Machine I → List ℕ → Type 0
AreTemporaries m [] = Unit {0}
AreTemporaries m (t ∷ ts) = IsTrue ((not (is_virtual t) && not (m.scratch t)) && not (among t ts)) × AreTemporaries m ts

abbrev pub AreKept : {I : Type 0} → Machine I → List ℕ → List Operand → Type 0
AreKept m ts [] = Unit {0}
AreKept m ts (o ∷ os) = IsTrue (is_virtual o.reg || is_kept m ts o.reg) × AreKept m ts os

-- each machine register that the code names is kept
abbrev pub NamesKept : {I : Type 0} → Machine I → List ℕ → List I → Type 0
NamesKept m ts [] = Unit {0}
NamesKept m ts (i ∷ is) = AreKept m ts (m.operands i) × NamesKept m ts is
