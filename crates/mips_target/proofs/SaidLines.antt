-- The lines of templates say the instructions that rules add.
use Rattle.std.proofs.Common.{◌≡◌, ◌≤◌, ◌<◌, ◌+◌, ◌-◌, ◌%◌, ◌^◌, ℕ, true, false, List, [], ◌∷◌, ◌++◌, codes, decimal, refl, sym, ap, ◌∙◌, subst, append_assoc, inl, arith}
use Rattle.std.specs.Prelude.{ℤ, pos, negsuc, FitsSigned, IsTrue}
use Rattle.std.specs.Int.{w32}
use Rattle.std.specs.List.{AllZip, AllByRecursion}
use Rattle.std.proofs.lemmas.List.{append-nil}
use Rattle.std.proofs.lemmas.List.Elements.{recursion_from_All}
use Rattle.lcc_text.specs.Decimal.{value_of}
use Rattle.lcc_text.specs.Lines.{lines_of}
use Rattle.asm_lines.specs.declared.instruction.Instruction.TheVariants as machine
use Rattle.asm_lines.specs.declared.instruction.Target.TheVariants as target
use Rattle.asm_lines.specs.declared.instruction.Value.TheVariants as operand
use Rattle.asm_lines.specs.declared.mnemonic.Mnemonic.TheVariants as mnemonic
use Rattle.asm_lines.specs.declared.operator.UnaryOp.TheVariants as unary
use Rattle.asm_lines.specs.Tokens.{Tok, Word, Decimal, Dollar, Comma, Minus, text_of, IsName, IsToken}
use Rattle.asm_lines.specs.Spelling.{Spells}
use Rattle.asm_lines.specs.Numbers.{Plain, Negative, IsNumber}
use Rattle.asm_lines.specs.Words.{word_of, head_of}
use Rattle.asm_lines.specs.Operands.{IsRegister, AreOperands}
use Rattle.asm_lines.specs.Statements.{Does}
use Rattle.asm_lines.specs.ReadBack.{NoFeed}
use Rattle.asm_lines.proofs.lemmas.Numerals.{value_decimal, digits_decimal}
use Rattle.asm_lines.proofs.lemmas.Written.{AreSymbols, Fits, spaced, written, starts_symbol, digits_symbols, starts_of, next_of, spelled, feed_append, name_feed, no_feed, line_break}
use Rattle.asm_text.specs.Lines.{IsLine}
use Rattle.asm_text.specs.Program.{MInstruction}
use Rattle.op_forest.specs.Lowered.{IsUnitName, is_symbol}
use Rattle.forests.specs.Words.{number_of as word_number}
use Rattle.vcode.specs.Templates.{signed_decimal}
use Rattle.frame_code.specs.declared.arithmetic.Arithmetic.{Arithmetic}
use Rattle.frame_code.specs.declared.arithmetic.Arithmetic.TheVariants as arithmetic
use Rattle.mips_target.specs.FunctionCode.{binary_of}

-- ---- lines

-- the text is a line, without its line feed, that says the instruction
abbrev pub SaysInstruction : List ℕ → MInstruction → Type 0
SaysInstruction text i = IsLine text 1 (record { labels = []; statement = Does i; number = 1 })

-- the text has one line alone, which says the instruction
abbrev pub SaysAlone : List ℕ → MInstruction → Type 0
SaysAlone text i = AllZip SaysInstruction (lines_of text) (i ∷ [])

-- a word alone, and operands behind a blank
blank_spelled : (t : Tok) (ts : List Tok) → Fits (t ∷ ts) → Spells (spaced true (t ∷ ts)) (32 ∷ written (t ∷ ts))
blank_spelled t ts f = (32 ∷ [], text_of t ++ written ts, (refl, tt), starts_of t (written ts) f.0, refl, refl, inl (written ts, next_of t (written ts) f.0 f.1, spelled ts f.2))

word_spelled : (word : List ℕ) (t : Tok) (ts : List Tok) → IsName word → Fits (t ∷ ts) → Spells (record { tok = Word word; is_spaced = false } ∷ spaced true (t ∷ ts)) (word ++ 32 ∷ written (t ∷ ts))
word_spelled word t ts n f =
    let rest : List ℕ = 32 ∷ written (t ∷ ts) in
    ([], word ++ rest, tt, starts_of (Word word) rest n, refl, refl, inl (rest, next_of (Word word) rest n refl, blank_spelled t ts f))

-- tokens, and what stands behind them
abbrev ended : List Tok → List ℕ → List ℕ
ended [] rest = rest
ended (t ∷ ts) rest = text_of t ++ ended ts rest

ended_is : (ts : List Tok) (rest : List ℕ) → ended ts rest ≡ written ts ++ rest
ended_is [] rest = refl
ended_is (t ∷ ts) rest = ap (λ (l : List ℕ). text_of t ++ l) (ended_is ts rest) ∙ sym (append_assoc (text_of t) (written ts) rest)

-- a line feed ends a line that has none
one_line : (line : List ℕ) → NoFeed line → lines_of (line ++ 10 ∷ []) ≡ line ∷ []
one_line line h = ap lines_of (sym (append-nil (line ++ 10 ∷ []))) ∙ line_break line [] h

-- a line of a word and operands
said : (word : List ℕ) (t : Tok) (ts : List Tok) (i : MInstruction) (text : List ℕ) → IsName word → Fits (t ∷ ts) → word ≡ word_of (head_of i) → AreOperands (spaced true (t ∷ ts)) i → text ≡ word ++ 32 ∷ ended (t ∷ ts) (10 ∷ []) → SaysAlone text i
said word t ts i text n f head operands e =
    let line : List ℕ = word ++ 32 ∷ written (t ∷ ts) in
    let whole : text ≡ line ++ 10 ∷ [] = e ∙ ap (λ (l : List ℕ). word ++ 32 ∷ l) (ended_is (t ∷ ts) (10 ∷ [])) ∙ sym (append_assoc word (32 ∷ written (t ∷ ts)) (10 ∷ [])) in
    let feed : NoFeed line = feed_append word (32 ∷ written (t ∷ ts)) (name_feed word n) (refl, no_feed (t ∷ ts) f) in
    let says : SaysInstruction line i = record {
      tokens = record { tok = Word word; is_spaced = false } ∷ spaced true (t ∷ ts);
      spelled = word_spelled word t ts n f;
      are = record {
        rest = record { tok = Word word; is_spaced = false } ∷ spaced true (t ∷ ts);
        labels = refl;
        statement = (word, refl, refl, (head, operands));
      };
      number_is = refl;
    } in
    subst (λ (ls : List (List ℕ)). AllZip SaysInstruction ls (i ∷ [])) (sym (ap lines_of whole ∙ one_line line feed)) (says, tt)

-- ---- constants

abbrev pub number_tokens : ℤ → List Tok
number_tokens (pos n) = Decimal (decimal n) ∷ []
number_tokens (negsuc n) = Minus ∷ Decimal (decimal (n + 1)) ∷ []

number_ended : (z : ℤ) (rest : List ℕ) → ended (number_tokens z) rest ≡ signed_decimal z ++ rest
number_ended (pos n) rest = refl
number_ended (negsuc n) rest = refl

numeral_token : (n : ℕ) → n ≤ 4294967295 → IsToken (Decimal (decimal n))
numeral_token n h = digits_decimal n (omega (arith, h))

number_fits : (z : ℤ) → FitsSigned w32 z → Fits (number_tokens z)
number_fits (pos n) h = (numeral_token n (omega (arith, h)), tt, tt)
number_fits (negsuc n) h = (tt, tt, (numeral_token (n + 1) (omega (arith, h)), tt, tt))

small_bits : (n : ℕ) → n < 2 ^ 31 → n % 2 ^ 32 ≡ n
small_bits n h = omega (arith, h)

negative_bits : (n : ℕ) → n < 2 ^ 31 → 2 ^ 32 - 1 - n % 2 ^ 32 ≡ (2 ^ 32 - (n + 1)) % 2 ^ 32
negative_bits n h = omega (arith, h)

is_number : (z : ℤ) → FitsSigned w32 z → IsNumber (spaced false (number_tokens z)) (word_number z) []
is_number (pos n) h =
    let lt : n < 2 ^ 31 = omega (arith, h) in
    let e : value_of (decimal n) ≡ n = value_decimal n (omega (arith, lt)) in
    (Plain (decimal n), (refl, refl), omega (arith, e, lt), small_bits n lt ∙ sym e)
is_number (negsuc n) h =
    let lt : n < 2 ^ 31 = omega (arith, h) in
    let e : value_of (decimal (n + 1)) ≡ n + 1 = value_decimal (n + 1) (omega (arith, lt)) in
    (Negative (decimal (n + 1)), (refl, refl, refl, refl), omega (arith, e, lt), negative_bits n lt ∙ ap (λ (v : ℕ). (2 ^ 32 - v) % 2 ^ 32) (sym e))

-- ---- names

unit_symbols : (name : List ℕ) → AllByRecursion (λ b. IsTrue (is_symbol b)) name → AreSymbols name
unit_symbols [] h = tt
unit_symbols (b ∷ bs) h = (h.0, unit_symbols bs h.1)

-- a name of a unit is a name of assembly text
pub unit_name : (name : List ℕ) → IsUnitName name → IsName name
unit_name [] h = absurd h.begins
unit_name (b ∷ bs) h = (h.begins.0, unit_symbols (b ∷ bs) (recursion_from_All (λ c. IsTrue (is_symbol c)) (b ∷ bs) h.symbols))

-- ---- registers

abbrev register_token : ℕ → Tok
register_token r = Dollar (decimal r)

register_token_is : (r : ℕ) → r < 32 → IsToken (register_token r)
register_token_is r h = let d = digits_decimal r (omega (arith, h)) in (starts_symbol (decimal r) d.0, digits_symbols (decimal r) d.1)

last_fits : (r : ℕ) → r < 32 → Fits (register_token r ∷ [])
last_fits r h = (register_token_is r h, tt, tt)

comma_fits : (r : ℕ) (ts : List Tok) → r < 32 → Fits ts → Fits (register_token r ∷ Comma ∷ ts)
comma_fits r ts h f = (register_token_is r h, refl, (tt, tt, f))

is_register : (r : ℕ) → r < 32 → IsRegister (register_token r) r
is_register r h = inl (refl, h)

-- ---- the lines

-- the word of an operation
abbrev pub binary_text : Arithmetic → List ℕ
binary_text op = word_of (mnemonic.Binary (binary_of op))

binary_name : (op : Arithmetic) → IsName (binary_text op)
binary_name arithmetic.Add = (refl, (refl, (refl, (refl, (refl, tt)))))
binary_name arithmetic.Subtract = (refl, (refl, (refl, (refl, (refl, tt)))))
binary_name arithmetic.Multiply = (refl, (refl, (refl, (refl, tt))))

pub number_said : (z : ℤ) → FitsSigned w32 z → SaysAlone (codes "li $" ++ (decimal 8 ++ (44 ∷ (signed_decimal z ++ 10 ∷ [])))) (machine.LoadNumber 8 (word_number z))
number_said z h =
    said (codes "li") (register_token 8) (Comma ∷ number_tokens z) (machine.LoadNumber 8 (word_number z)) (codes "li $" ++ (decimal 8 ++ (44 ∷ (signed_decimal z ++ 10 ∷ []))))
    (refl, (refl, (refl, tt)))
    (comma_fits 8 (number_tokens z) (omega arith) (number_fits z h))
    refl
    (spaced false (number_tokens z), (_, (is_register 8 (omega arith), refl), (refl, refl)), is_number z h)
    (ap (λ (l : List ℕ). codes "li $" ++ (decimal 8 ++ (44 ∷ l))) (sym (number_ended z (10 ∷ []))))

pub registers_said : (op : Arithmetic) → SaysAlone (binary_text op ++ (codes " $" ++ (decimal 8 ++ (codes ",$" ++ (decimal 9 ++ (codes ",$" ++ (decimal 10 ++ 10 ∷ []))))))) (machine.Binary (binary_of op) 8 9 (operand.Register 10))
registers_said op =
    said (binary_text op) (register_token 8) (Comma ∷ register_token 9 ∷ Comma ∷ register_token 10 ∷ []) (machine.Binary (binary_of op) 8 9 (operand.Register 10)) (binary_text op ++ (codes " $" ++ (decimal 8 ++ (codes ",$" ++ (decimal 9 ++ (codes ",$" ++ (decimal 10 ++ 10 ∷ [])))))))
    (binary_name op)
    (comma_fits 8 (register_token 9 ∷ Comma ∷ register_token 10 ∷ []) (omega arith) (comma_fits 9 (register_token 10 ∷ []) (omega arith) (last_fits 10 (omega arith))))
    refl
    (spaced false (register_token 9 ∷ Comma ∷ register_token 10 ∷ []), spaced false (register_token 10 ∷ []), (_, (is_register 8 (omega arith), refl), (refl, refl)), (_, (is_register 9 (omega arith), refl), (refl, refl)), (is_register 10 (omega arith), refl))
    refl

pub with_number_said : (op : Arithmetic) (z : ℤ) → FitsSigned w32 z → SaysAlone (binary_text op ++ (codes " $" ++ (decimal 8 ++ (codes ",$" ++ (decimal 9 ++ (44 ∷ (signed_decimal z ++ 10 ∷ []))))))) (machine.Binary (binary_of op) 8 9 (operand.Number (word_number z)))
with_number_said op z h =
    said (binary_text op) (register_token 8) (Comma ∷ register_token 9 ∷ Comma ∷ number_tokens z) (machine.Binary (binary_of op) 8 9 (operand.Number (word_number z))) (binary_text op ++ (codes " $" ++ (decimal 8 ++ (codes ",$" ++ (decimal 9 ++ (44 ∷ (signed_decimal z ++ 10 ∷ [])))))))
    (binary_name op)
    (comma_fits 8 (register_token 9 ∷ Comma ∷ number_tokens z) (omega arith) (comma_fits 9 (number_tokens z) (omega arith) (number_fits z h)))
    refl
    (spaced false (register_token 9 ∷ Comma ∷ number_tokens z), spaced false (number_tokens z), (_, (is_register 8 (omega arith), refl), (refl, refl)), (_, (is_register 9 (omega arith), refl), (refl, refl)), is_number z h)
    (ap (λ (l : List ℕ). binary_text op ++ (codes " $" ++ (decimal 8 ++ (codes ",$" ++ (decimal 9 ++ (44 ∷ l)))))) (sym (number_ended z (10 ∷ []))))

pub negate_said : SaysAlone (codes "negu $" ++ (decimal 8 ++ (codes ",$" ++ (decimal 9 ++ 10 ∷ [])))) (machine.Unary unary.Negate 8 9)
negate_said =
    said (codes "negu") (register_token 8) (Comma ∷ register_token 9 ∷ []) (machine.Unary unary.Negate 8 9) (codes "negu $" ++ (decimal 8 ++ (codes ",$" ++ (decimal 9 ++ 10 ∷ []))))
    (refl, (refl, (refl, (refl, (refl, tt)))))
    (comma_fits 8 (register_token 9 ∷ []) (omega arith) (last_fits 9 (omega arith)))
    refl
    (spaced false (register_token 9 ∷ []), (_, (is_register 8 (omega arith), refl), (refl, refl)), (is_register 9 (omega arith), refl))
    refl

pub call_said : (name : List ℕ) → IsName name → SaysAlone (codes "jal " ++ (name ++ 10 ∷ [])) (machine.Call (target.Label name))
call_said name h =
    said (codes "jal") (Word name) [] (machine.Call (target.Label name)) (codes "jal " ++ (name ++ 10 ∷ []))
    (refl, (refl, (refl, (refl, tt))))
    (h, tt, tt)
    refl
    (refl, refl)
    refl
