-- How many spill slots code has, and how many of its operands are virtual.
use Rattle.std.specs.Prelude.{ℕ, ◌+◌, ◌-◌, max, List, [], ◌∷◌, if◌then◌else◌}
use Rattle.vcode.specs.declared.operand.Operand.{Operand}
use Rattle.vcode.specs.Machines.{Machine}
use Rattle.vcode.specs.VirtualCode.{is_virtual}

-- The greatest virtual register less 63, or 0 where none is virtual: virtual registers begin at 64, and slots at 0.
abbrev pub slots_for : List Operand → ℕ
slots_for [] = 0
slots_for (o ∷ os) = max (o.reg - 63) (slots_for os)

-- the same for all registers that the code names
abbrev pub slots_needed : {I : Type 0} → Machine I → List I → ℕ
slots_needed m [] = 0
slots_needed m (i ∷ is) = max (slots_for (m.operands i)) (slots_needed m is)

abbrev pub virtual_in : List Operand → ℕ
virtual_in [] = 0
virtual_in (o ∷ os) = (if is_virtual o.reg then 1 else 0) + virtual_in os

-- how many operands of the code are virtual
abbrev pub virtual_operands : {I : Type 0} → Machine I → List I → ℕ
virtual_operands m [] = 0
virtual_operands m (i ∷ is) = virtual_in (m.operands i) + virtual_operands m is
