-- Code that names no register but some.
use Rattle.std.specs.Prelude.{ℕ, List, [], ◌∷◌, IsTrue}
use Rattle.vcode.specs.declared.operand.Operand.{Operand}
use Rattle.vcode.specs.Machines.{Machine}
use Rattle.vcode.specs.VirtualCode.{among}

-- each register that the operands name is one of these
abbrev pub AreAmong : List ℕ → List Operand → Type 0
AreAmong rs [] = Unit {0}
AreAmong rs (o ∷ os) = IsTrue (among o.reg rs) × AreAmong rs os

abbrev pub NamesAmong : {I : Type 0} → Machine I → List ℕ → List I → Type 0
NamesAmong m rs [] = Unit {0}
NamesAmong m rs (i ∷ is) = AreAmong rs (m.operands i) × NamesAmong m rs is
