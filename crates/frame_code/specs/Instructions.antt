-- The instructions of generated code, for every target, over registers without number: what each reads and writes, and what
-- it does with the values that it reads. With another number of values it has no meaning.
-- Source: Fraser and Hanson, A Retargetable C Compiler, chapters 13 to 16.
use Rattle.std.specs.Prelude.{ℕ, zero, suc, List, [], ◌∷◌, Bool, true, false, Some}
use Rattle.objects.specs.declared.operators.Unary.TheVariants.{Negate}
use Rattle.objects.specs.declared.operators.Binary.{Binary}
use Rattle.objects.specs.declared.operators.Binary.TheVariants as binary
use Rattle.objects.specs.declared.value.Value.TheVariants.{Number}
use Rattle.forests.specs.Words.{Word}
use Rattle.forests.specs.Words as word
use Rattle.forests.specs.Worlds.{Point, End, Effect}
use Rattle.forests.specs.Actions.{Action, Gave, Passed, Moved, Meaningless, gave, effect_of}
use Rattle.forests.specs.Bodies.{Setting}
use Rattle.forests.specs.Numbers.{of_one, of_two}
use Rattle.forests.specs.Rows.{called}
use Rattle.forests.specs.Units.{word_or_unknown}
use Rattle.vcode.specs.declared.operand.Operand.{Operand}
use Rattle.vcode.specs.Machines.{Kind, Plain, Load, Store, Copy, reads_one, writes_one}
use Rattle.frame_code.specs.declared.arithmetic.Arithmetic.{Arithmetic}
use Rattle.frame_code.specs.declared.arithmetic.Arithmetic.TheVariants.{Add, Subtract, Multiply}
use Rattle.frame_code.specs.declared.instr.Instr.{Instr}
use Rattle.frame_code.specs.declared.instr.Instr.TheVariants as instr
use Rattle.frame_code.specs.declared.instr.Source.{Source}
use Rattle.frame_code.specs.declared.instr.Source.TheVariants as source

abbrev pub source_operands : Source → List Operand
source_operands (source.Register r) = reads_one r ∷ []
source_operands (source.Number n) = []

-- the registers that are read and written, in the order to, from, operand
abbrev pub operands : Instr → List Operand
operands (instr.LoadNumber to n) = writes_one to ∷ []
operands (instr.Binary op to from operand) = writes_one to ∷ reads_one from ∷ source_operands operand
operands (instr.Negate to from) = writes_one to ∷ reads_one from ∷ []
operands (instr.Argument from) = reads_one from ∷ []
operands (instr.Call to name) = writes_one to ∷ []
operands (instr.Return from) = reads_one from ∷ []
operands (instr.Copy to from) = writes_one to ∷ reads_one from ∷ []
operands (instr.LoadSlot to slot) = writes_one to ∷ []
operands (instr.StoreSlot from slot) = reads_one from ∷ []

abbrev pub kind : Instr → Kind
kind (instr.LoadNumber to n) = Plain
kind (instr.Binary op to from operand) = Plain
kind (instr.Negate to from) = Plain
kind (instr.Argument from) = Plain
kind (instr.Call to name) = Plain
kind (instr.Return from) = Plain
kind (instr.Copy to from) = Copy
kind (instr.LoadSlot to slot) = Load slot
kind (instr.StoreSlot from slot) = Store slot

-- whether it may go on elsewhere than behind it
abbrev pub moves : Instr → Bool
moves (instr.LoadNumber to n) = false
moves (instr.Binary op to from operand) = false
moves (instr.Negate to from) = false
moves (instr.Argument from) = false
moves (instr.Call to name) = false
moves (instr.Return from) = true
moves (instr.Copy to from) = false
moves (instr.LoadSlot to slot) = false
moves (instr.StoreSlot from slot) = false

-- an instruction without its registers, numbers and names
pub data Shape : Type 0 where
  LoadsNumber : Shape
  Operates : (op : Arithmetic) → Shape
  Negates : Shape
  HandsOver : Shape
  Calls : Shape
  Returns : Shape
  Copies : Shape
  LoadsSlot : Shape
  StoresSlot : Shape

abbrev pub shape : Instr → Shape
shape (instr.LoadNumber to n) = LoadsNumber
shape (instr.Binary op to from operand) = Operates op
shape (instr.Negate to from) = Negates
shape (instr.Argument from) = HandsOver
shape (instr.Call to name) = Calls
shape (instr.Return from) = Returns
shape (instr.Copy to from) = Copies
shape (instr.LoadSlot to slot) = LoadsSlot
shape (instr.StoreSlot from slot) = StoresSlot

-- the operation of C that an operation is
abbrev pub combined : Arithmetic → Binary
combined Add = binary.Add
combined Subtract = binary.Subtract
combined Multiply = binary.Multiply

-- what is done where no value is read, one, or two
abbrev pub with_none : Action → List Word → Action
with_none a [] = a
with_none a (x ∷ xs) = Meaningless

abbrev pub with_one : (Word → Action) → List Word → Action
with_one f [] = Meaningless
with_one f (x ∷ []) = f x
with_one f (x ∷ y ∷ xs) = Meaningless

abbrev pub with_two : (Word → Word → Action) → List Word → Action
with_two f [] = Meaningless
with_two f (x ∷ []) = Meaningless
with_two f (x ∷ y ∷ []) = f x y
with_two f (x ∷ y ∷ z ∷ xs) = Meaningless

-- an operation on a register and its last operand
abbrev pub operates : Binary → Source → List Word → Action
operates op (source.Register r) ws = with_two (λ x y. gave (of_two true op x y)) ws
operates op (source.Number n) ws = with_one (λ x. gave (of_two true op x (word.Plain (Number n)))) ws

-- the value of a name, `unknown` where it has none
abbrev pub word_of_name : Setting → ℕ → Word
word_of_name s name = word_or_unknown (s.environment.global name)

-- what a plain instruction does with the values that it reads
abbrev pub does_with : Setting → Instr → List Word → Action
does_with s (instr.LoadNumber to n) ws = with_none (Gave (word.Plain (Number n))) ws
does_with s (instr.Binary op to from operand) ws = operates (combined op) operand ws
does_with s (instr.Negate to from) ws = with_one (λ x. gave (of_one Negate x)) ws
does_with s (instr.Argument from) ws = with_one (λ x. Passed x) ws
does_with s (instr.Call to name) ws = with_none (called true (word_of_name s name)) ws
does_with s (instr.Return from) ws = with_one (λ x. Moved (End (Some x))) ws
does_with s (instr.Copy to from) ws = Meaningless
does_with s (instr.LoadSlot to slot) ws = Meaningless
does_with s (instr.StoreSlot from slot) ws = Meaningless

abbrev pub acts : Setting → Instr → List Word → Point → Effect
acts s i ws p = effect_of s.call (does_with s i ws) p

abbrev pub with_source : Source → ℕ → Source
with_source (source.Register q) r = source.Register r
with_source (source.Number n) r = source.Number n

-- the instruction where operand n, from 0, has this register
abbrev pub rename : Instr → ℕ → ℕ → Instr
rename (instr.LoadNumber to n) k r = instr.LoadNumber r n
rename (instr.Binary op to from operand) zero r = instr.Binary op r from operand
rename (instr.Binary op to from operand) (suc zero) r = instr.Binary op to r operand
rename (instr.Binary op to from operand) (suc (suc k)) r = instr.Binary op to from (with_source operand r)
rename (instr.Negate to from) zero r = instr.Negate r from
rename (instr.Negate to from) (suc k) r = instr.Negate to r
rename (instr.Argument from) k r = instr.Argument r
rename (instr.Call to name) k r = instr.Call r name
rename (instr.Return from) k r = instr.Return r
rename (instr.Copy to from) zero r = instr.Copy r from
rename (instr.Copy to from) (suc k) r = instr.Copy to r
rename (instr.LoadSlot to slot) k r = instr.LoadSlot r slot
rename (instr.StoreSlot from slot) k r = instr.StoreSlot r slot
