-- Whole rows: which operation of a machine an operator is, and that a row's result is the number that it computes.
-- Source: Fraser and Hanson, A Retargetable C Compiler, chapter 5.
use Rattle.std.specs.Prelude.{◌≡◌, ◌<◌, ℕ, ℤ, ◌^◌, Bool, true, false, List, Option, Some, None, if◌then◌else◌}
use Rattle.objects.specs.declared.operators.Unary.TheVariants.{Negate, Complement}
use Rattle.objects.specs.declared.operators.Binary.{Binary}
use Rattle.objects.specs.declared.operators.Binary.TheVariants as binary
use Rattle.objects.specs.declared.operators.Comparison.{Comparison}
use Rattle.objects.specs.declared.operators.Comparison.TheVariants as comparison
use Rattle.objects.specs.Arithmetic.{unary_word, binary_word, word_cause, holds}
use Rattle.objects.specs.Conversions.{extended}
use Rattle.op_forest.specs.declared.op.Op.{Op}
use Rattle.op_forest.specs.declared.op.Op.TheVariants as op
use Rattle.op_forest.specs.declared.suffix.Suffix.{Suffix}
use Rattle.op_forest.specs.declared.suffix.Suffix.TheVariants.{C, S, I, U, P, V}
use Rattle.op_forest.specs.declared.sym.Sym.TheVariants as sym
use Rattle.op_forest.specs.Nodes.{Head}
use Rattle.forests.specs.Words.{Word, number_of}
use Rattle.forests.specs.Words.{IsWord as HasBits}
use Rattle.forests.specs.Objects.{Object}
use Rattle.forests.specs.Worlds.{Move, Next, To}
use Rattle.forests.specs.Actions.{Gave, Called, Moved}
use Rattle.forests.specs.Addresses.{Environment}
use Rattle.forests.specs.Rows.{leaf_row, unary_row, binary_row}
use Rattle.memory_map.specs.Maps.{Map, IsWord}
use Rattle.memory_map.specs.Lies.{IsLaid}
use Rattle.word_rows.specs.Comparisons.{AreApart, IsAmong}

-- an operation on two numbers, signed where it matters
pub record Operation : Type 0 where
  pub signed : Bool
  pub by : Binary

abbrev pub operation : Op → Suffix → Option Operation
operation op.Add I = Some (record { signed = true; by = binary.Add })
operation op.Add U = Some (record { signed = false; by = binary.Add })
operation op.Add P = Some (record { signed = false; by = binary.Add })
operation op.Sub I = Some (record { signed = true; by = binary.Subtract })
operation op.Sub U = Some (record { signed = false; by = binary.Subtract })
operation op.Sub P = Some (record { signed = false; by = binary.Subtract })
operation op.Mul I = Some (record { signed = true; by = binary.Multiply })
operation op.Mul U = Some (record { signed = false; by = binary.Multiply })
operation op.Div I = Some (record { signed = true; by = binary.Divide })
operation op.Div U = Some (record { signed = false; by = binary.Divide })
operation op.Mod I = Some (record { signed = true; by = binary.Remainder })
operation op.Mod U = Some (record { signed = false; by = binary.Remainder })
operation op.Lsh I = Some (record { signed = true; by = binary.ShiftLeft })
operation op.Lsh U = Some (record { signed = false; by = binary.ShiftLeft })
operation op.Rsh I = Some (record { signed = true; by = binary.ShiftRight })
operation op.Rsh U = Some (record { signed = false; by = binary.ShiftRight })
operation op.Band U = Some (record { signed = false; by = binary.And })
operation op.Bor U = Some (record { signed = false; by = binary.Or })
operation op.Bxor U = Some (record { signed = false; by = binary.Xor })
operation o x = None

-- a comparison of two numbers
pub record Test : Type 0 where
  pub signed : Bool
  pub by : Comparison

abbrev pub test_of : Op → Suffix → Option Test
test_of op.Eq I = Some (record { signed = false; by = comparison.Equal })
test_of op.Ne I = Some (record { signed = false; by = comparison.NotEqual })
test_of op.Lt I = Some (record { signed = true; by = comparison.Less })
test_of op.Lt U = Some (record { signed = false; by = comparison.Less })
test_of op.Le I = Some (record { signed = true; by = comparison.LessEqual })
test_of op.Le U = Some (record { signed = false; by = comparison.LessEqual })
test_of op.Gt I = Some (record { signed = true; by = comparison.Greater })
test_of op.Gt U = Some (record { signed = false; by = comparison.Greater })
test_of op.Ge I = Some (record { signed = true; by = comparison.GreaterEqual })
test_of op.Ge U = Some (record { signed = false; by = comparison.GreaterEqual })
test_of o x = None

-- what an operator with one operand makes of a number, where it doesn't read memory
abbrev pub unary_number : Op → Suffix → ℕ → ℕ
unary_number op.Cvc I n = extended true 8 n
unary_number op.Cvc U n = extended false 8 n
unary_number op.Cvs I n = extended true 16 n
unary_number op.Cvs U n = extended false 16 n
unary_number op.Neg I n = unary_word Negate n
unary_number op.Bcom U n = unary_word Complement n
unary_number o x n = n

abbrev pub is_load : Op → Suffix → Bool
is_load op.Indir C = true
is_load op.Indir S = true
is_load op.Indir I = true
is_load op.Indir P = true
is_load o x = false

-- operators with two operands that give a value
abbrev pub BinaryRowsGive : Type 0
BinaryRowsGive =
    (map : Map) (e : Environment) (h : Head) (objects : List Object) (o : Op) (x : Suffix)
    (a b u : Word) (m n : ℕ)
    → HasBits a → m < 2 ^ 32 → n < 2 ^ 32 → IsWord map a m → IsWord map b n
    → binary_row e h objects o x a b ≡ Gave u
    → (t : Operation) × (operation o x ≡ Some t) × (word_cause t.signed t.by m n ≡ None)
    × IsWord map u (binary_word t.signed t.by m n)

-- with one
abbrev pub UnaryRowsGive : Type 0
UnaryRowsGive =
    (map : Map) (e : Environment) (h : Head) (objects : List Object) (o : Op) (x : Suffix)
    (a u : Word) (m : ℕ)
    → HasBits a → m < 2 ^ 32 → IsWord map a m → is_load o x ≡ false
    → unary_row e h objects o x a ≡ Gave u
    → IsWord map u (unary_number o x m)

-- constants
abbrev pub ConstantRowsGive : Type 0
ConstantRowsGive =
    (map : Map) (e : Environment) (h : Head) (objects : List Object) (x : Suffix) (u : Word)
    → leaf_row e h objects op.Cnst x ≡ Gave u
    → (z : ℤ) × (h.value ≡ Some z) × IsWord map u (number_of z)

-- comparisons: the label is gone to where the machine's comparison holds
abbrev pub TestRowsMove : Type 0
TestRowsMove =
    (map : Map) (floor made : ℕ) (functions : ℕ → Bool) (e : Environment) (h : Head)
    (objects : List Object) (o : Op) (x : Suffix) (a b : Word) (m n : ℕ) (mv : Move)
    → IsLaid map floor made objects → AreApart map objects functions → IsAmong functions a
    → IsAmong functions b
    → IsWord map a m → IsWord map b n → binary_row e h objects o x a b ≡ Moved mv
    → (t : Test) × (l : ℕ) × (test_of o x ≡ Some t) × (h.sym ≡ sym.Label l)
    × (mv ≡ (if holds t.signed t.by m n then To l else Next))

-- jumps, and calls: the operand is the address
abbrev pub JumpsGo : Type 0
JumpsGo =
    (map : Map) (e : Environment) (h : Head) (objects : List Object) (a : Word) (m l : ℕ)
    → IsWord map a m → unary_row e h objects op.Jump V a ≡ Moved (To l)
    → m ≡ map.label e.home.function l

abbrev pub CallsGo : Type 0
CallsGo =
    (map : Map) (e : Environment) (h : Head) (objects : List Object) (x : Suffix) (a : Word)
    (m f : ℕ) (valued : Bool)
    → IsWord map a m → unary_row e h objects op.Call x a ≡ Called valued f → m ≡ map.function f
