-- What code does: virtual code over registers without number, and allocated code over a machine's registers and spill
-- slots, by one step.
-- Source: Fraser and Hanson, A Retargetable C Compiler, chapter 15.
use Rattle.std.specs.Prelude.{ℕ, zero, suc, ℤ, ◌==◌, List, [], ◌∷◌, Bool, false, Option, Some, None, if◌then◌else◌}
use Rattle.std.specs.Ordering.{int_eq}
use Rattle.forests.specs.Words.{Word, unknown}
use Rattle.forests.specs.Worlds.{Point, Move, Next, To, End, Effect, Went, goes, Outcome, Finished, Going, Failed}
use Rattle.forests.specs.Bodies.{Setting}
use Rattle.vcode.specs.declared.operand.Operand.{Operand}
use Rattle.vcode.specs.Machines.{Machine, Kind, Plain, Mark, Load, Store, Copy}

pub record State : Type 0 where
  pub registers : ℕ → Word
  pub slots : ℤ → Word
  pub point : Point

abbrev pub with_value : (ℕ → Word) → ℕ → Word → ℕ → Word
with_value f r w q = if q == r then w else f q

abbrev pub with_slot : (ℤ → Word) → ℤ → Word → ℤ → Word
with_slot f z w y = if int_eq y z then w else f y

-- the values of the operands that are read, in order
abbrev pub reads : List Operand → (ℕ → Word) → List Word
reads [] f = []
reads (o ∷ os) f = if o.written then reads os f else f o.reg ∷ reads os f

abbrev pub first_of : List Word → Word
first_of [] = unknown
first_of (w ∷ ws) = w

abbrev pub rest_of : List Word → List Word
rest_of [] = []
rest_of (w ∷ ws) = ws

-- the registers once the written operands have these values, in order
abbrev pub written : List Operand → List Word → (ℕ → Word) → ℕ → Word
written [] ws f = f
written (o ∷ os) ws f = if o.written then written os (rest_of ws) (with_value f o.reg (first_of ws)) else written os ws f

abbrev pub without : (ℕ → Bool) → (ℕ → Word) → ℕ → Word
without lost f q = if lost q then unknown else f q

-- what an instruction of the kind does, given what a plain one does
abbrev pub by_kind : Kind → Effect → List Word → State → Effect
by_kind Plain plain rs s = plain
by_kind (Mark l) plain rs s = Went [] s.point Next
by_kind (Load z) plain rs s = Went (s.slots z ∷ []) s.point Next
by_kind (Store z) plain rs s = Went [] s.point Next
by_kind Copy plain rs s = Went rs s.point Next

abbrev pub slots_by : Kind → List Word → (ℤ → Word) → ℤ → Word
slots_by Plain rs f = f
slots_by (Mark l) rs f = f
slots_by (Load z) rs f = f
slots_by (Store z) rs f = with_slot f z (first_of rs)
slots_by Copy rs f = f

-- One instruction: the operands that are read have their values before it, what it loses is unknown, and its written
-- operands have afterwards what it writes, also where they are lost.
abbrev pub effect : {I : Type 0} → Machine I → Setting → I → State → Effect
effect m s i st =
    let rs = reads (m.operands i) st.registers in by_kind (m.kind i) (m.acts s i rs st.point) rs st

abbrev pub state_by : {I : Type 0} → Machine I → I → State → List Word → Point → State
state_by m i st ws p = record {
  registers = written (m.operands i) ws (without (m.loses i) st.registers);
  slots = slots_by (m.kind i) (reads (m.operands i) st.registers) st.slots;
  point = p;
}

abbrev pub is_mark : Kind → ℕ → Bool
is_mark Plain l = false
is_mark (Mark k) l = k == l
is_mark (Load z) l = false
is_mark (Store z) l = false
is_mark Copy l = false

-- the code behind a label
abbrev pub code_behind : {I : Type 0} → Machine I → ℕ → List I → Option (List I)
code_behind m l [] = None
code_behind m l (i ∷ is) = if is_mark (m.kind i) l then Some is else code_behind m l is

abbrev pub at_mark : {I : Type 0} → Option (List I) → (List I → Outcome) → Outcome
at_mark None go = Failed
at_mark (Some is) go = go is

-- where the run goes on: behind the instruction, at a label, or nowhere
abbrev pub moved : {I : Type 0} → Machine I → List I → List I → Move → Point → (List I → Outcome) → Outcome
moved m code is Next p go = go is
moved m code is (To l) p go = at_mark (code_behind m l code) go
moved m code is (End v) p go = Finished v p

-- at most n instructions of the code, from the rest of it that is still to come; the end of the code is a step as well
abbrev pub executed : {I : Type 0} → Machine I → Setting → List I → ℕ → List I → State → Outcome
executed m s code zero is st = Going st.point.world
executed m s code (suc n) [] st = Finished None st.point
executed m s code (suc n) (i ∷ is) st =
    goes (effect m s i st) (λ ws p mv. moved m code is mv p (λ js. executed m s code n js (state_by m i st ws p)))
