-- Tokens are one statement at most.
use Rattle.std.proofs.Common.{◌≡◌, ℕ, Option, Some, None, List, [], ◌∷◌, refl, sym, ap, subst, ◌∙◌, inl, inr}
use Rattle.asm_lines.specs.declared.instruction.Address.{Address}
use Rattle.asm_lines.specs.declared.instruction.Value.{Value}
use Rattle.asm_lines.specs.declared.instruction.Instruction.{Instruction}
use Rattle.asm_lines.specs.declared.instruction.Instruction.TheVariants.{LoadAddress, LoadNumber, Move, Unary, Binary, Load, Store, Branch, BranchIf, Jump, Call}
use Rattle.asm_lines.specs.declared.mnemonic.DirectiveWord.TheVariants as directive
use Rattle.asm_lines.specs.declared.statement_reader.Word.{Word as KnownWord}
use Rattle.asm_lines.specs.declared.statement_reader.Word.TheVariants as known
use Rattle.asm_lines.specs.Tokens.{Tok, Word, Spaced}
use Rattle.asm_lines.specs.Numbers.{IsNumber}
use Rattle.asm_lines.specs.Operands.{RegisterThen, NameThen, CommaThen, RegisterComma, ValueThen, IsAddress, AreOperands}
use Rattle.asm_lines.specs.Words.{head_of}
use Rattle.asm_lines.specs.KnownWords.{text_of}
use Rattle.asm_lines.specs.Statements.{MStatement, Nothing, Text, Data, Global, Align, Words, Halves, Bytes, Space, Does, IsRow, IsStatement}
use Rattle.asm_lines.specs.Faults.{IsKnown}
use Rattle.asm_lines.proofs.OneOperand.{one_number, one_count, one_register, one_name, one_comma, one_register_comma, one_value, one_target, one_address, one_words, one_parts}
use Rattle.asm_lines.proofs.OneWord.{one_text}

-- ---- operands

address_once : (ts : List Spaced) (d e : ℕ) (a b : Address (List ℕ)) → (mid : List Spaced) × RegisterComma ts d mid × IsAddress mid a → (mid : List Spaced) × RegisterComma ts e mid × IsAddress mid b → (d ≡ e) × (a ≡ b)
address_once ts d e a b p q =
    let r = one_register_comma ts p.0 q.0 d e p.1 q.1 in
    let P : List Spaced → Type 0 = λ l. IsAddress l b in
    (r.0, one_address p.0 a b p.2 (subst P (sym r.1) q.2))

number_once : (ts : List Spaced) (d e n k : ℕ) → (mid : List Spaced) × RegisterComma ts d mid × IsNumber mid n [] → (mid : List Spaced) × RegisterComma ts e mid × IsNumber mid k [] → (d ≡ e) × (n ≡ k)
number_once ts d e n k p q =
    let r = one_register_comma ts p.0 q.0 d e p.1 q.1 in
    let P : List Spaced → Type 0 = λ l. IsNumber l k [] in
    (r.0, (one_number p.0 [] [] n k p.2 (subst P (sym r.1) q.2)).0)

registers_once : (ts : List Spaced) (d e s r : ℕ) → (mid : List Spaced) × RegisterComma ts d mid × RegisterThen mid s [] → (mid : List Spaced) × RegisterComma ts e mid × RegisterThen mid r [] → (d ≡ e) × (s ≡ r)
registers_once ts d e s r p q =
    let f = one_register_comma ts p.0 q.0 d e p.1 q.1 in
    let P : List Spaced → Type 0 = λ l. RegisterThen l r [] in
    (f.0, (one_register p.0 [] [] s r p.2 (subst P (sym f.1) q.2)).0)

value_once : (ts : List Spaced) (d e s r : ℕ) (v w : Value) → (mid behind : List Spaced) × RegisterComma ts d mid × RegisterComma mid s behind × ValueThen behind v [] → (mid behind : List Spaced) × RegisterComma ts e mid × RegisterComma mid r behind × ValueThen behind w [] → (d ≡ e) × (s ≡ r) × (v ≡ w)
value_once ts d e s r v w p q =
    let f = one_register_comma ts p.0 q.0 d e p.2 q.2 in
    let P : List Spaced → Type 0 = λ l. RegisterComma l r q.1 in
    let g = one_register_comma p.0 p.1 q.1 s r p.3 (subst P (sym f.1) q.3) in
    let Q : List Spaced → Type 0 = λ l. ValueThen l w [] in
    (f.0, g.0, (one_value p.1 [] [] v w p.4 (subst Q (sym g.1) q.4)).0)

branch_once : (ts : List Spaced) (s r : ℕ) (v w : Value) (n m : List ℕ) → (mid behind last : List Spaced) × RegisterComma ts s mid × ValueThen mid v behind × CommaThen behind last × NameThen last n [] → (mid behind last : List Spaced) × RegisterComma ts r mid × ValueThen mid w behind × CommaThen behind last × NameThen last m [] → (s ≡ r) × (v ≡ w) × (n ≡ m)
branch_once ts s r v w n m p q =
    let f = one_register_comma ts p.0 q.0 s r p.3 q.3 in
    let P : List Spaced → Type 0 = λ l. ValueThen l w q.1 in
    let g = one_value p.0 p.1 q.1 v w p.4 (subst P (sym f.1) q.4) in
    let Q : List Spaced → Type 0 = λ l. CommaThen l q.2 in
    let h = one_comma p.1 p.2 q.2 p.5 (subst Q (sym g.1) q.5) in
    let R : List Spaced → Type 0 = λ l. NameThen l m [] in
    (f.0, g.0, (one_name p.2 [] [] n m p.6 (subst R (sym h) q.6)).0)

pub one_instruction : (ts : List Spaced) (i k : Instruction (List ℕ)) → head_of i ≡ head_of k → AreOperands ts i → AreOperands ts k → i ≡ k
one_instruction ts (LoadAddress d a) (LoadAddress e b) h p q = let f = address_once ts d e a b p q in let g = f.0 in let j = f.1 in cc
one_instruction ts (LoadNumber d n) (LoadNumber e k) h p q = let f = number_once ts d e n k p q in let g = f.0 in let j = f.1 in cc
one_instruction ts (Move d s) (Move e r) h p q = let f = registers_once ts d e s r p q in let g = f.0 in let j = f.1 in cc
one_instruction ts (Unary o d s) (Unary u e r) h p q = let f = registers_once ts d e s r p q in let g = f.0 in let j = f.1 in cc
one_instruction ts (Binary o d s v) (Binary u e r w) h p q = let f = value_once ts d e s r v w p q in let g = f.0 in let j = f.1 in let k = f.2 in cc
one_instruction ts (Load o d a) (Load u e b) h p q = let f = address_once ts d e a b p q in let g = f.0 in let j = f.1 in cc
one_instruction ts (Store o d a) (Store u e b) h p q = let f = address_once ts d e a b p q in let g = f.0 in let j = f.1 in cc
one_instruction ts (Branch n) (Branch m) h p q = ap Branch (one_name ts [] [] n m p q).0
one_instruction ts (BranchIf o s v n) (BranchIf u r w m) h p q = let f = branch_once ts s r v w n m p q in let g = f.0 in let j = f.1 in let k = f.2 in cc
one_instruction ts (Jump a) (Jump b) h p q = ap Jump (one_target ts a b p q)
one_instruction ts (Call a) (Call b) h p q = ap Call (one_target ts a b p q)
one_instruction ts i k h p q = absurd cc

-- ---- rows

-- the word of a statement
abbrev pub spoken : MStatement → Option KnownWord
spoken Nothing = None
spoken Text = Some (known.Directive directive.Text)
spoken Data = Some (known.Directive directive.Data)
spoken (Global name) = Some (known.Directive directive.Global)
spoken (Align n) = Some (known.Directive directive.Align)
spoken (Words items) = Some (known.Directive directive.Word)
spoken (Halves halves) = Some (known.Directive directive.Half)
spoken (Bytes bytes) = Some (known.Directive directive.Byte)
spoken (Space n) = Some (known.Directive directive.Space)
spoken (Does i) = Some (known.Instruction (head_of i))

row_word : (word : List ℕ) (ts : List Spaced) (s : MStatement) → IsRow word ts s → (w : KnownWord) × (spoken s ≡ Some w) × (word ≡ text_of w)
row_word word ts Nothing p = absurd p
row_word word ts Text p = (known.Directive directive.Text, refl, p.0)
row_word word ts Data p = (known.Directive directive.Data, refl, p.0)
row_word word ts (Global name) p = (known.Directive directive.Global, refl, p.0)
row_word word ts (Align n) p = (known.Directive directive.Align, refl, p.0)
row_word word ts (Words items) p = (known.Directive directive.Word, refl, p.0)
row_word word ts (Halves halves) p = (known.Directive directive.Half, refl, p.0)
row_word word ts (Bytes bytes) p = (known.Directive directive.Byte, refl, p.0)
row_word word ts (Space n) p = (known.Directive directive.Space, refl, p.0)
row_word word ts (Does i) p = (known.Instruction (head_of i), refl, p.0)

-- a row of a known word is a statement of that word
pub row_of : (w : KnownWord) (ts : List Spaced) (s : MStatement) → IsRow (text_of w) ts s → spoken s ≡ Some w
row_of w ts s p = let r = row_word (text_of w) ts s p in r.1 ∙ ap Some (sym (one_text w r.0 r.2))

pub text_known : (w : KnownWord) (word : List ℕ) → word ≡ text_of w → IsKnown word
text_known (known.Instruction m) word e = inl (m, e)
text_known (known.Directive d) word e = inr (d, e)

pub row_known : (word : List ℕ) (ts : List Spaced) (s : MStatement) → IsRow word ts s → IsKnown word
row_known word ts s p = let r = row_word word ts s p in text_known r.0 word r.2

same_rows : (word : List ℕ) (ts : List Spaced) (s u : MStatement) → spoken s ≡ spoken u → IsRow word ts s → IsRow word ts u → s ≡ u
same_rows word ts Nothing u e p q = absurd p
same_rows word ts Text Text e p q = refl
same_rows word ts Data Data e p q = refl
same_rows word ts (Global n) (Global m) e p q = ap Global (one_name ts [] [] n m p.1 q.1).0
same_rows word ts (Align n) (Align k) e p q = ap Align (one_count ts n k p.1 q.1)
same_rows word ts (Words a) (Words b) e p q = ap Words (one_words ts a b p.1 q.1)
same_rows word ts (Halves a) (Halves b) e p q = ap Halves (one_parts 16 ts a b p.1 q.1)
same_rows word ts (Bytes a) (Bytes b) e p q = ap Bytes (one_parts 8 ts a b p.1 q.1)
same_rows word ts (Space n) (Space k) e p q = ap Space (one_count ts n k p.1 q.1)
same_rows word ts (Does i) (Does k) e p q = ap Does (one_instruction ts i k (cc) p.1 q.1)
same_rows word ts s u e p q = absurd cc

one_row : (word : List ℕ) (ts : List Spaced) (s u : MStatement) → IsRow word ts s → IsRow word ts u → s ≡ u
one_row word ts s u p q =
    let a = row_word word ts s p in
    let b = row_word word ts u q in
    let e : a.0 ≡ b.0 = one_text a.0 b.0 (sym a.2 ∙ b.2) in
    same_rows word ts s u (a.1 ∙ ap Some e ∙ sym b.1) p q

-- ---- statements

pub same_word : (t : Tok) (a b : List ℕ) → t ≡ Word a → t ≡ Word b → a ≡ b
same_word t a b p q = let e : Word a ≡ Word b = sym p ∙ q in cc

pub one : (ts : List Spaced) (s u : MStatement) → IsStatement ts s → IsStatement ts u → s ≡ u
one [] s u p q = p ∙ sym q
one (t ∷ ts) s u p q =
    let P : List ℕ → Type 0 = λ w. IsRow w ts u in
    one_row p.0 ts s u p.3 (subst P (sym (same_word t.tok p.0 q.0 p.1 q.1)) q.3)
