-- What a target says of its instructions: what each reads, writes, loses and does, and the laws that it keeps.
-- An instruction acts on the values of the operands that it reads, never on registers, slots or places, so most laws
-- of targets hold by the construction of the step (`step_by` in Execution).
-- Source: Fraser and Hanson, A Retargetable C Compiler, chapters 13 and 15.
use Rattle.std.specs.Prelude.{◌≡◌, ℕ, zero, suc, ℤ, ◌<◌, ◌≤◌, List, [], ◌∷◌, Bool, true, false, length}
use Rattle.forests.specs.Words.{Word}
use Rattle.forests.specs.Worlds.{Point, Move, Next, Effect, Went}
use Rattle.forests.specs.Bodies.{Setting}
use Rattle.vcode.specs.declared.operand.Operand.{Operand}

-- how an instruction stands to labels, spill slots and copies
pub data Kind : Type 0 where
  Plain : Kind
  Mark : (label : ℕ) → Kind
  Load : (slot : ℤ) → Kind
  Store : (slot : ℤ) → Kind
  Copy : Kind

-- the operands where operand n has this register
abbrev pub with_register : List Operand → ℕ → ℕ → List Operand
with_register [] n r = []
with_register (o ∷ os) zero r = record { reg = r; written = o.written } ∷ os
with_register (o ∷ os) (suc n) r = o ∷ with_register os n r

abbrev pub reads_one : ℕ → Operand
reads_one r = record { reg = r; written = false }

abbrev pub writes_one : ℕ → Operand
writes_one r = record { reg = r; written = true }

-- no operand is written
abbrev pub WritesNothing : List Operand → Type 0
WritesNothing [] = Unit {0}
WritesNothing (o ∷ os) = (o.written ≡ false) × WritesNothing os

abbrev pub nothing_lost : ℕ → Bool
nothing_lost r = false

pub record Machine (I : Type 0) : Type 0 where
  pub operands : I → List Operand
  -- the machine registers that it leaves unknown, but for those of its written operands
  pub loses : I → ℕ → Bool
  pub kind : I → Kind
  -- whether it may go on elsewhere than behind it
  pub moves : I → Bool
  -- what a plain instruction does with the values that it reads: the values of its written operands, in order
  pub acts : Setting → I → List Word → Point → Effect
  pub rename : I → ℕ → ℕ → I
  -- a slot's value to a register, a register's value to a slot, and a register's value to a register
  pub load : ℕ → ℤ → I
  pub store : ℕ → ℤ → I
  pub copy : ℕ → ℕ → I
  -- what these three lose
  pub scratch : ℕ → Bool
  pub stack_pointer : ℕ
  pub few : (i : I) → length (operands i) ≤ 3
  pub loses-machine : (i : I) (r : ℕ) → 64 ≤ r → loses i r ≡ false
  pub mark-bare : (i : I) (l : ℕ) → kind i ≡ Mark l → operands i ≡ []
  pub mark-loses : (i : I) (l : ℕ) → kind i ≡ Mark l → loses i ≡ nothing_lost
  pub moves-plain : (i : I) → moves i ≡ true → kind i ≡ Plain
  pub moves-writes : (i : I) → moves i ≡ true → WritesNothing (operands i)
  -- what moves no control goes on behind it
  pub stays : (s : Setting) (i : I) (reads ws : List Word) (p p' : Point) (mv : Move) → moves i ≡ false → acts s i reads p ≡ Went ws p' mv → mv ≡ Next
  -- with other registers it is the same instruction
  pub rename-operands : (i : I) (n r : ℕ) → n < length (operands i) → operands (rename i n r) ≡ with_register (operands i) n r
  pub rename-loses : (i : I) (n r : ℕ) → n < length (operands i) → loses (rename i n r) ≡ loses i
  pub rename-kind : (i : I) (n r : ℕ) → n < length (operands i) → kind (rename i n r) ≡ kind i
  pub rename-moves : (i : I) (n r : ℕ) → n < length (operands i) → moves (rename i n r) ≡ moves i
  pub rename-acts : (s : Setting) (i : I) (n r : ℕ) → n < length (operands i) → acts s (rename i n r) ≡ acts s i
  pub load-operands : (r : ℕ) (z : ℤ) → operands (load r z) ≡ writes_one r ∷ []
  pub load-kind : (r : ℕ) (z : ℤ) → kind (load r z) ≡ Load z
  pub load-loses : (r : ℕ) (z : ℤ) → loses (load r z) ≡ scratch
  pub store-operands : (r : ℕ) (z : ℤ) → operands (store r z) ≡ reads_one r ∷ []
  pub store-kind : (r : ℕ) (z : ℤ) → kind (store r z) ≡ Store z
  pub store-loses : (r : ℕ) (z : ℤ) → loses (store r z) ≡ scratch
  pub copy-operands : (to from : ℕ) → operands (copy to from) ≡ writes_one to ∷ reads_one from ∷ []
  pub copy-kind : (to from : ℕ) → kind (copy to from) ≡ Copy
  pub copy-loses : (to from : ℕ) → loses (copy to from) ≡ scratch
