-- Known words with the same text are one.
use Rattle.std.proofs.Common.{◌≡◌, ℕ, Bool, true, false, List, [], ◌∷◌, ◌++◌, map, refl, sym, ap, ◌∙◌}
use Rattle.std.specs.Prelude.{nat_eq, ◌&&◌, if◌then◌else◌}
use Rattle.asm_lines.specs.declared.mnemonic.Mnemonic.TheVariants as mnemonic
use Rattle.asm_lines.specs.declared.mnemonic.DirectiveWord.TheVariants as directive
use Rattle.asm_lines.specs.declared.operator.UnaryOp.TheVariants as unary
use Rattle.asm_lines.specs.declared.operator.BinaryOp.TheVariants as binary
use Rattle.asm_lines.specs.declared.operator.LoadOp.TheVariants as load
use Rattle.asm_lines.specs.declared.operator.StoreOp.TheVariants as store
use Rattle.asm_lines.specs.declared.operator.Condition.TheVariants as condition
use Rattle.asm_lines.specs.declared.statement_reader.Word.{Word}
use Rattle.asm_lines.specs.declared.statement_reader.Word.TheVariants as known
use Rattle.asm_lines.specs.KnownWords.{text_of}
use Rattle.asm_lines.proofs.WordTables.{mnemonics, directives}

abbrev same_bytes : List ℕ → List ℕ → Bool
same_bytes [] [] = true
same_bytes (a ∷ x) (b ∷ y) = nat_eq a b && same_bytes x y
same_bytes x y = false

-- the first of these words that has the text
abbrev looked_up : List Word → List ℕ → Word
looked_up [] text = known.Directive directive.Text
looked_up (w ∷ ws) text = if same_bytes (text_of w) text then w else looked_up ws text

abbrev known_words : List Word
known_words = map known.Instruction mnemonics ++ map known.Directive directives

found : (w : Word) → looked_up known_words (text_of w) ≡ w
found (known.Instruction (mnemonic.Unary unary.Negate)) = refl
found (known.Instruction (mnemonic.Binary binary.Add)) = refl
found (known.Instruction (mnemonic.Load load.Byte)) = refl
found (known.Instruction (mnemonic.Store store.Byte)) = refl
found (known.Instruction (mnemonic.BranchIf condition.Equal)) = refl
found (known.Directive directive.Text) = refl
found w = refl

pub one_text : (v w : Word) → text_of v ≡ text_of w → v ≡ w
one_text v w e = sym (found v) ∙ ap (λ (text : List ℕ). looked_up known_words text) e ∙ found w
