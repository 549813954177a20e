-- What an allocation of registers makes of code, in form: beside slot loads, slot stores and copies that it puts in, the
-- instructions are those of the code in order, with machine registers in place of virtual ones. What the allocated code
-- does is `Follows`.
-- Source: Fraser and Hanson, A Retargetable C Compiler, chapter 15 (allocating and assigning registers, spilling).
use Rattle.std.specs.Prelude.{◌≡◌, ℕ, suc, ℤ, List, [], ◌∷◌, true, false, IsTrue}
use Rattle.vcode.specs.declared.operand.Operand.{Operand}
use Rattle.vcode.specs.Machines.{Machine}
use Rattle.vcode.specs.VirtualCode.{is_virtual, among}

-- The second instruction is the first one with usable registers in place of the virtual ones among these operands, which
-- are its operands from place n on. An operand that names a machine register is kept.
pub data IsRenaming {I : Type 0} (m : Machine I) (usable : List ℕ) : ℕ → List Operand → I → I → Type 0 where
  NoOperand : {n : ℕ} {i : I} → IsRenaming m usable n [] i i
  Kept : {n : ℕ} {o : Operand} {os : List Operand} {i j : I} → is_virtual o.reg ≡ false → IsRenaming m usable (suc n) os i j → IsRenaming m usable n (o ∷ os) i j
  Renamed : {n r : ℕ} {o : Operand} {os : List Operand} {i j : I} → is_virtual o.reg ≡ true → IsTrue (among r usable) → IsRenaming m usable (suc n) os (m.rename i n r) j → IsRenaming m usable n (o ∷ os) i j

-- The second code is the first one, allocated to these registers: each instruction of the first stands in it, renamed, in
-- order; between them stand slot loads, slot stores and copies of these registers.
pub data IsAllocation {I : Type 0} (m : Machine I) (usable : List ℕ) : List I → List I → Type 0 where
  NoCode : IsAllocation m usable [] []
  PutsLoad : {r : ℕ} {z : ℤ} {code more : List I} → IsTrue (among r usable) → IsAllocation m usable code more → IsAllocation m usable code (m.load r z ∷ more)
  PutsStore : {r : ℕ} {z : ℤ} {code more : List I} → IsTrue (among r usable) → IsAllocation m usable code more → IsAllocation m usable code (m.store r z ∷ more)
  PutsCopy : {to from : ℕ} {code more : List I} → IsTrue (among to usable) → IsTrue (among from usable) → IsAllocation m usable code more → IsAllocation m usable code (m.copy to from ∷ more)
  Renames : {i j : I} {code more : List I} → IsRenaming m usable 0 (m.operands i) i j → IsAllocation m usable code more → IsAllocation m usable (i ∷ code) (j ∷ more)
