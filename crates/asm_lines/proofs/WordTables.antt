-- All words, in the order in which they are looked at.
use Rattle.std.proofs.Common.{◌≢◌, ◌≤◌, ◌<◌, ℕ, List, [], ◌∷◌, slice_index_or, arith}
use Rattle.asm_lines.specs.declared.mnemonic.Mnemonic.{Mnemonic}
use Rattle.asm_lines.specs.declared.mnemonic.Mnemonic.TheVariants as mnemonic
use Rattle.asm_lines.specs.declared.mnemonic.DirectiveWord.{DirectiveWord}
use Rattle.asm_lines.specs.declared.mnemonic.DirectiveWord.TheVariants as directive
use Rattle.asm_lines.specs.declared.operator.UnaryOp.TheVariants as unary
use Rattle.asm_lines.specs.declared.operator.BinaryOp.TheVariants as binary
use Rattle.asm_lines.specs.declared.operator.LoadOp.TheVariants as load
use Rattle.asm_lines.specs.declared.operator.StoreOp.TheVariants as store
use Rattle.asm_lines.specs.declared.operator.Condition.TheVariants as condition
use Rattle.asm_lines.specs.Words.{word_of, directive_text}

-- none of a table before this place has the word
abbrev pub NoneBefore : {A : Type 0} → (A → List ℕ) → List A → A → ℕ → List ℕ → Type 0
NoneBefore text table first i word = (k : ℕ) → k < i → text (slice_index_or table k first) ≢ word

-- ---- mnemonics

abbrev pub mnemonics : List Mnemonic
mnemonics =
    mnemonic.Branch ∷ mnemonic.Jump ∷ mnemonic.LoadAddress ∷ mnemonic.LoadNumber
    ∷ mnemonic.Load load.Word ∷ mnemonic.Store store.Word ∷ mnemonic.Load load.Byte ∷ mnemonic.Load load.Half
    ∷ mnemonic.Store store.Byte ∷ mnemonic.Store store.Half ∷ mnemonic.Binary binary.Or ∷ mnemonic.Call
    ∷ mnemonic.Unary unary.Not ∷ mnemonic.Binary binary.Multiply ∷ mnemonic.Binary binary.Divide ∷ mnemonic.Binary binary.Remainder
    ∷ mnemonic.Binary binary.And ∷ mnemonic.Binary binary.Xor ∷ mnemonic.Binary binary.ShiftLeft ∷ mnemonic.Binary binary.ShiftRight
    ∷ mnemonic.Binary binary.ShiftRightArithmetic ∷ mnemonic.Load load.ByteUnsigned ∷ mnemonic.Load load.HalfUnsigned
    ∷ mnemonic.BranchIf condition.Equal ∷ mnemonic.BranchIf condition.NotEqual ∷ mnemonic.BranchIf condition.Less
    ∷ mnemonic.BranchIf condition.LessEqual ∷ mnemonic.BranchIf condition.Greater ∷ mnemonic.BranchIf condition.GreaterEqual
    ∷ mnemonic.Move ∷ mnemonic.Unary unary.Negate ∷ mnemonic.Binary binary.Add ∷ mnemonic.Binary binary.Subtract
    ∷ mnemonic.Binary binary.DivideUnsigned ∷ mnemonic.Binary binary.RemainderUnsigned
    ∷ mnemonic.BranchIf condition.LessUnsigned ∷ mnemonic.BranchIf condition.LessEqualUnsigned
    ∷ mnemonic.BranchIf condition.GreaterUnsigned ∷ mnemonic.BranchIf condition.GreaterEqualUnsigned ∷ []

-- the table has each mnemonic
pub no_mnemonic : (i : ℕ) (word : List ℕ) → 39 ≤ i → NoneBefore word_of mnemonics mnemonic.LoadAddress i word → (m : Mnemonic) → word_of m ≢ word
no_mnemonic i word l h mnemonic.Branch = h 0 (omega arith)
no_mnemonic i word l h mnemonic.Jump = h 1 (omega arith)
no_mnemonic i word l h mnemonic.LoadAddress = h 2 (omega arith)
no_mnemonic i word l h mnemonic.LoadNumber = h 3 (omega arith)
no_mnemonic i word l h (mnemonic.Load load.Word) = h 4 (omega arith)
no_mnemonic i word l h (mnemonic.Store store.Word) = h 5 (omega arith)
no_mnemonic i word l h (mnemonic.Load load.Byte) = h 6 (omega arith)
no_mnemonic i word l h (mnemonic.Load load.Half) = h 7 (omega arith)
no_mnemonic i word l h (mnemonic.Store store.Byte) = h 8 (omega arith)
no_mnemonic i word l h (mnemonic.Store store.Half) = h 9 (omega arith)
no_mnemonic i word l h (mnemonic.Binary binary.Or) = h 10 (omega arith)
no_mnemonic i word l h mnemonic.Call = h 11 (omega arith)
no_mnemonic i word l h (mnemonic.Unary unary.Not) = h 12 (omega arith)
no_mnemonic i word l h (mnemonic.Binary binary.Multiply) = h 13 (omega arith)
no_mnemonic i word l h (mnemonic.Binary binary.Divide) = h 14 (omega arith)
no_mnemonic i word l h (mnemonic.Binary binary.Remainder) = h 15 (omega arith)
no_mnemonic i word l h (mnemonic.Binary binary.And) = h 16 (omega arith)
no_mnemonic i word l h (mnemonic.Binary binary.Xor) = h 17 (omega arith)
no_mnemonic i word l h (mnemonic.Binary binary.ShiftLeft) = h 18 (omega arith)
no_mnemonic i word l h (mnemonic.Binary binary.ShiftRight) = h 19 (omega arith)
no_mnemonic i word l h (mnemonic.Binary binary.ShiftRightArithmetic) = h 20 (omega arith)
no_mnemonic i word l h (mnemonic.Load load.ByteUnsigned) = h 21 (omega arith)
no_mnemonic i word l h (mnemonic.Load load.HalfUnsigned) = h 22 (omega arith)
no_mnemonic i word l h (mnemonic.BranchIf condition.Equal) = h 23 (omega arith)
no_mnemonic i word l h (mnemonic.BranchIf condition.NotEqual) = h 24 (omega arith)
no_mnemonic i word l h (mnemonic.BranchIf condition.Less) = h 25 (omega arith)
no_mnemonic i word l h (mnemonic.BranchIf condition.LessEqual) = h 26 (omega arith)
no_mnemonic i word l h (mnemonic.BranchIf condition.Greater) = h 27 (omega arith)
no_mnemonic i word l h (mnemonic.BranchIf condition.GreaterEqual) = h 28 (omega arith)
no_mnemonic i word l h mnemonic.Move = h 29 (omega arith)
no_mnemonic i word l h (mnemonic.Unary unary.Negate) = h 30 (omega arith)
no_mnemonic i word l h (mnemonic.Binary binary.Add) = h 31 (omega arith)
no_mnemonic i word l h (mnemonic.Binary binary.Subtract) = h 32 (omega arith)
no_mnemonic i word l h (mnemonic.Binary binary.DivideUnsigned) = h 33 (omega arith)
no_mnemonic i word l h (mnemonic.Binary binary.RemainderUnsigned) = h 34 (omega arith)
no_mnemonic i word l h (mnemonic.BranchIf condition.LessUnsigned) = h 35 (omega arith)
no_mnemonic i word l h (mnemonic.BranchIf condition.LessEqualUnsigned) = h 36 (omega arith)
no_mnemonic i word l h (mnemonic.BranchIf condition.GreaterUnsigned) = h 37 (omega arith)
no_mnemonic i word l h (mnemonic.BranchIf condition.GreaterEqualUnsigned) = h 38 (omega arith)

-- ---- directives

abbrev pub directives : List DirectiveWord
directives = directive.Text ∷ directive.Data ∷ directive.Global ∷ directive.Align ∷ directive.Word ∷ directive.Half ∷ directive.Byte ∷ directive.Space ∷ []

-- the table has each directive
pub no_directive : (i : ℕ) (word : List ℕ) → 8 ≤ i → NoneBefore directive_text directives directive.Text i word → (d : DirectiveWord) → directive_text d ≢ word
no_directive i word l h directive.Text = h 0 (omega arith)
no_directive i word l h directive.Data = h 1 (omega arith)
no_directive i word l h directive.Global = h 2 (omega arith)
no_directive i word l h directive.Align = h 3 (omega arith)
no_directive i word l h directive.Word = h 4 (omega arith)
no_directive i word l h directive.Half = h 5 (omega arith)
no_directive i word l h directive.Byte = h 6 (omega arith)
no_directive i word l h directive.Space = h 7 (omega arith)
