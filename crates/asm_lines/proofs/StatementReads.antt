-- What a line is that begins with a word, or breaks.
use Rattle.std.proofs.Common.{◌≡◌, ℕ, Some, List, ◌∷◌, refl, sym, ap, subst, ◌∙◌, inl, inr}
use Rattle.std.specs.Prelude.{◌⊎◌, Result, Ok, Err, IfOk, IfErr}
use Rattle.asm_lines.specs.declared.token.Kind.TheVariants as kind
use Rattle.asm_lines.specs.declared.token.Token.{Token}
use Rattle.asm_lines.specs.declared.instruction.Instruction.{Instruction}
use Rattle.asm_lines.specs.declared.mnemonic.Mnemonic.{Mnemonic}
use Rattle.asm_lines.specs.declared.statement_reader.Word.{Word as KnownWord}
use Rattle.asm_lines.specs.declared.statement_reader.Word.TheVariants as known
use Rattle.asm_lines.specs.declared.section.Section.{Section}
use Rattle.asm_lines.specs.declared.fault.StatementFault.{StatementFault}
use Rattle.asm_lines.specs.declared.fault.StatementFault.TheVariants as fault
use Rattle.asm_lines.specs.Tokens.{Word, Spaced, view, views}
use Rattle.asm_lines.specs.Operands.{AreOperands}
use Rattle.asm_lines.specs.Words.{head_of}
use Rattle.asm_lines.specs.KnownWords.{text_of}
use Rattle.asm_lines.specs.Statements.{MStatement, Does, IsApart, IsRow, IsStatement}
use Rattle.asm_lines.specs.Sections.{IsElsewhere, StandsIn}
use Rattle.asm_lines.specs.Faults.{IsKnown, StartsWith, OperandsApart, FaultStands}
use Rattle.asm_lines.proofs.OneStatement.{same_word, text_known, spoken, row_of}
use Rattle.asm_lines.proofs.OneFault.{apart}
use Rattle.asm_lines.proofs.Sections.{row_stands}

-- a word stands first, and rest behind it
abbrev pub Begins : List Spaced → List ℕ → List Spaced → Type 0
Begins ts word rest = (t : Spaced) × (ts ≡ t ∷ rest) × (t.tok ≡ Word word)

pub begins : (tokens operands : List Token) (first : Token) → tokens ≡ first ∷ operands → first.kind ≡ kind.Word → Begins (views tokens) first.text.now (views operands)
begins tokens operands first e k = (view first, ap views e, rw k refl)

starts : (ts : List Spaced) (word : List ℕ) (rest : List Spaced) → Begins ts word rest → StartsWith ts word
starts ts word rest b = let P : List Spaced → Type 0 = λ l. StartsWith l word in subst P (sym b.1) b.2

apart_in : (ts : List Spaced) (word : List ℕ) (rest : List Spaced) → Begins ts word rest → IsApart rest → OperandsApart ts
apart_in ts word rest b a = let P : List Spaced → Type 0 = λ l. OperandsApart l in subst P (sym b.1) a

apart_out : (ts : List Spaced) (word : List ℕ) (rest : List Spaced) → Begins ts word rest → OperandsApart ts → IsApart rest
apart_out ts word rest b a = let P : List Spaced → Type 0 = λ l. OperandsApart l in subst P b.1 a

row_behind : (ts : List Spaced) (word : List ℕ) (rest : List Spaced) (s : MStatement) → Begins ts word rest → IsStatement ts s → IsRow word rest s
row_behind ts word rest s b p =
    let P : List Spaced → Type 0 = λ l. IsStatement l s in
    let q : IsStatement (b.0 ∷ rest) s = subst P b.1 p in
    let Q : List ℕ → Type 0 = λ w. IsRow w rest s in
    subst Q (same_word b.0.tok q.0 word q.1 b.2) q.3

-- the row of a known word
pub row_read : (ts : List Spaced) (word : List ℕ) (rest : List Spaced) (w : KnownWord) (s : MStatement) → Begins ts word rest → word ≡ text_of w → IsStatement ts s → IsRow (text_of w) rest s
row_read ts word rest w s b e p = let P : List ℕ → Type 0 = λ l. IsRow l rest s in subst P e (row_behind ts word rest s b p)

-- no statement stands where a fault does
pub only_memory : (section : Section) (ts : List Spaced) (f : StatementFault) → FaultStands section ts f → (s : MStatement) → IsStatement ts s → StandsIn section s → f ≡ fault.Memory
only_memory section ts f q s p k = absurd (apart section ts s f p k q)

pub unknown : (section : Section) (ts : List Spaced) (word : List ℕ) (rest : List Spaced) → Begins ts word rest → (IsKnown word → ⊥) → FaultStands section ts fault.UnknownInstruction
unknown section ts word rest b h = (word, starts ts word rest b, h)

pub unspaced : (section : Section) (ts : List Spaced) (word : List ℕ) (rest : List Spaced) (w : KnownWord) → Begins ts word rest → word ≡ text_of w → (IsApart rest → ⊥) → FaultStands section ts fault.BadLine
unspaced section ts word rest w b e h = inr (inl (word, starts ts word rest b, text_known w word e, λ a. h (apart_out ts word rest b a)))

pub misplaced : (section : Section) (ts : List Spaced) (word : List ℕ) (rest : List Spaced) (w : KnownWord) → Begins ts word rest → word ≡ text_of w → IsElsewhere section (text_of w) → FaultStands section ts fault.BadLine
misplaced section ts word rest w b e h = let P : List ℕ → Type 0 = λ l. IsElsewhere section l in inr (inr (word, starts ts word rest b, subst P (sym e) h))

-- ---- a known word that has its place in the section, and its operands behind blanks

pub record Known (section : Section) (ts : List Spaced) (word : List ℕ) (rest : List Spaced) (w : KnownWord) : Type 0 where
  pub begins : Begins ts word rest
  pub text : word ≡ text_of w
  pub is_apart : IsApart rest
  pub is_here : IsElsewhere section (text_of w) → ⊥

pub known_here : (section : Section) (ts : List Spaced) (word : List ℕ) (rest : List Spaced) (w : KnownWord) → Begins ts word rest → word ≡ text_of w → IsApart rest → (IsElsewhere section (text_of w) → ⊥) → Known section ts word rest w
known_here section ts word rest w b e a h = record { begins = b; text = e; is_apart = a; is_here = h }

no_row : (section : Section) (ts : List Spaced) (word : List ℕ) (rest : List Spaced) (w : KnownWord) → Known section ts word rest w → ((s : MStatement) → IsRow (text_of w) rest s → ⊥) → FaultStands section ts fault.BadOperand
no_row section ts word rest w k h =
    let P : List ℕ → Type 0 = λ l. IsElsewhere section l in
    (word, starts ts word rest k.begins, text_known w word k.text, apart_in ts word rest k.begins k.is_apart, (λ p. k.is_here (subst P k.text p)), λ s p. h s (row_read ts word rest w s k.begins k.text p))

statement_of : (ts : List Spaced) (word : List ℕ) (rest : List Spaced) (s : MStatement) → Begins ts word rest → IsApart rest → IsRow word rest s → IsStatement ts s
statement_of ts word rest s b a r = let P : List Spaced → Type 0 = λ l. IsStatement l s in subst P (sym b.1) (word, b.2, a, r)

pub row_found : {A : Type 0} (r : Result A StatementFault) (seen : A → MStatement) (section : Section) (ts : List Spaced) (word : List ℕ) (rest : List Spaced) (w : KnownWord) → Known section ts word rest w → IfOk r (λ s. IsRow (text_of w) rest (seen s)) → IfOk r (λ s. IsStatement ts (seen s))
row_found {A} (Ok x) seen section ts word rest w k h =
    let P : List ℕ → Type 0 = λ l. IsRow l rest (seen x) in
    statement_of ts word rest (seen x) k.begins k.is_apart (subst P (sym k.text) h)
row_found {A} (Err f) seen section ts word rest w k h = tt

pub row_here : {A : Type 0} (r : Result A StatementFault) (seen : A → MStatement) (section : Section) (ts : List Spaced) (word : List ℕ) (rest : List Spaced) (w : KnownWord) → Known section ts word rest w → IfOk r (λ s. IsRow (text_of w) rest (seen s)) → IfOk r (λ s. StandsIn section (seen s))
row_here {A} (Ok x) seen section ts word rest w k h = row_stands section (text_of w) rest (seen x) h k.is_here
row_here {A} (Err f) seen section ts word rest w k h = tt

pub row_only : {A : Type 0} (r : Result A StatementFault) (section : Section) (ts : List Spaced) (word : List ℕ) (rest : List Spaced) (w : KnownWord) → Known section ts word rest w → ((s : MStatement) → IsRow (text_of w) rest s → IfErr r (λ e. e ≡ fault.Memory)) → (s : MStatement) → IsStatement ts s → IfErr r (λ e. e ≡ fault.Memory)
row_only {A} r section ts word rest w k only s p = only s (row_read ts word rest w s k.begins k.text p)

pub row_fault : {A : Type 0} (r : Result A StatementFault) (section : Section) (ts : List Spaced) (word : List ℕ) (rest : List Spaced) (w : KnownWord) → Known section ts word rest w → ((s : MStatement) → IsRow (text_of w) rest s → IfErr r (λ e. e ≡ fault.Memory)) → IfErr r (λ e. (e ≡ fault.Memory) ⊎ (e ≡ fault.BadOperand)) → IfErr r (λ f. (f ≡ fault.Memory) ⊎ FaultStands section ts f)
row_fault {A} (Ok x) section ts word rest w k only h = tt
row_fault {A} (Err f) section ts word rest w k only h = elim h [
  | inl m ↦ inl m
  | inr o ↦
      let P : StatementFault → Type 0 = λ g. FaultStands section ts g in
      inr (subst P (sym o) (no_row section ts word rest w k (λ s p. let m = only s p in cc)))
]

-- ---- rows

pub no_instruction_row : (rest : List Spaced) (w : KnownWord) (m : Mnemonic) → w ≡ known.Instruction m → ((i : Instruction (List ℕ)) → head_of i ≡ m → AreOperands rest i → ⊥) → (s : MStatement) → IsRow (text_of w) rest s → ⊥
no_instruction_row rest w m e h s p = row s (row_of w rest s p ∙ ap Some e) p where
  row : (u : MStatement) → spoken u ≡ Some (known.Instruction m) → IsRow (text_of w) rest u → ⊥
  row (Does i) e q = h i (cc) q.1
  row u e q = cc
