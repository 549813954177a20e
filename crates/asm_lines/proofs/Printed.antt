-- Printed labels and statements are read back.
use Rattle.std.proofs.Common.{◌≡◌, ◌≤◌, ◌<◌, ◌%◌, ◌^◌, ℕ, Bool, true, false, Option, List, [], ◌∷◌, ◌++◌, decimal, refl, sym, ap, subst, ◌∙◌, append_assoc, arith}
use Rattle.std.specs.Prelude.{All, ◌&&◌, not}
use Rattle.std.proofs.lemmas.List.{append-nil}
use Rattle.std.proofs.lemmas.List.Elements.{All-head, All-tail}
use Rattle.lcc_text.specs.declared.class.Class.TheVariants.{Digit}
use Rattle.lcc_text.specs.Classes.{in_class, AllIn, StopsIn}
use Rattle.asm_lines.specs.declared.class.AsmClass.TheVariants.{Symbol}
use Rattle.asm_lines.specs.declared.mnemonic.Mnemonic.{Mnemonic}
use Rattle.asm_lines.specs.declared.mnemonic.Mnemonic.TheVariants as mnemonic
use Rattle.asm_lines.specs.declared.mnemonic.DirectiveWord.{DirectiveWord}
use Rattle.asm_lines.specs.declared.mnemonic.DirectiveWord.TheVariants as directive
use Rattle.asm_lines.specs.declared.operator.UnaryOp.TheVariants as unary
use Rattle.asm_lines.specs.declared.operator.BinaryOp.TheVariants as binary
use Rattle.asm_lines.specs.declared.operator.LoadOp.TheVariants as load
use Rattle.asm_lines.specs.declared.operator.StoreOp.TheVariants as store
use Rattle.asm_lines.specs.declared.operator.Condition.TheVariants as condition
use Rattle.asm_lines.specs.Classes.{in_asm}
use Rattle.asm_lines.specs.Tokens.{Tok, Word, Colon, Comma, Spaced, IsName}
use Rattle.asm_lines.specs.Spelling.{Spells}
use Rattle.asm_lines.specs.Words.{word_of, directive_text, head_of}
use Rattle.asm_lines.specs.Operands.{Listed, IsWordItem, IsPartItem}
use Rattle.asm_lines.specs.Statements.{MStatement, Nothing, Text, Data, Global, Align, Words, Halves, Bytes, Space, Does, IsApart, IsRow, IsStatement, IsLabelled}
use Rattle.asm_lines.specs.Printed.{printed_label, operands_text, item_text, more_text, listed_text, row_text, printed_statement}
use Rattle.asm_lines.specs.Within.{IsWithin}
use Rattle.asm_lines.specs.Printable.{IsNamed, IsPrintable}
use Rattle.asm_lines.specs.ReadBack.{NoFeed, ReadsBack}
use Rattle.asm_lines.proofs.lemmas.Written.{spaced, written, Fits, tab_spelled, word_spelled, label_spelled, feed_append, name_feed, no_feed, line_break}
use Rattle.asm_lines.proofs.PrintedTokens.{number_token, place_tokens, operand_tokens, place_written, operands_written, number_token_is, place_fits, operands_fit, is_count, is_sum, is_place, are_operands}

-- ---- words are names

abbrev all_symbols : List ℕ → Bool
all_symbols [] = true
all_symbols (b ∷ bs) = in_asm Symbol b && all_symbols bs

abbrev is_name : List ℕ → Bool
is_name [] = false
is_name (b ∷ bs) = not (in_class Digit b) && all_symbols (b ∷ bs)

both : (a b : Bool) → (a && b) ≡ true → (a ≡ true) × (b ≡ true)
both true true e = (refl, refl)
both true false e = absurd cc
both false b e = absurd cc

negated : (a : Bool) → not a ≡ true → a ≡ false
negated true e = cc
negated false e = refl

symbols_test : (bs : List ℕ) → all_symbols bs ≡ true → AllIn (in_asm Symbol) bs
symbols_test [] e = tt
symbols_test (b ∷ bs) e = let h = both (in_asm Symbol b) (all_symbols bs) e in (h.0, symbols_test bs h.1)

name_test : (n : List ℕ) → is_name n ≡ true → IsName n
name_test [] e = cc
name_test (b ∷ bs) e = let h = both (not (in_class Digit b)) (all_symbols (b ∷ bs)) e in (negated (in_class Digit b) h.0, symbols_test (b ∷ bs) h.1)

mnemonic_test : (m : Mnemonic) → is_name (word_of m) ≡ true
mnemonic_test (mnemonic.Unary unary.Negate) = refl
mnemonic_test (mnemonic.Binary binary.Add) = refl
mnemonic_test (mnemonic.Load load.Byte) = refl
mnemonic_test (mnemonic.Store store.Byte) = refl
mnemonic_test (mnemonic.BranchIf condition.Equal) = refl
mnemonic_test m = refl

mnemonic_name : (m : Mnemonic) → IsName (word_of m)
mnemonic_name m = name_test (word_of m) (mnemonic_test m)

directive_test : (d : DirectiveWord) → is_name (directive_text d) ≡ true
directive_test directive.Text = refl
directive_test d = refl

directive_name : (d : DirectiveWord) → IsName (directive_text d)
directive_name d = name_test (directive_text d) (directive_test d)

-- ---- lines

back : (Is : List Spaced → Type 0) (line : List ℕ) (ts : List Spaced) → NoFeed line → Spells ts line → Is ts → ReadsBack (line ++ 10 ∷ []) Is
back Is line ts h s i = record {
  line = line;
  ends = refl;
  no_feed = h;
  first = λ behind. line_break line behind h;
  tokens = ts;
  spelled = s;
  is = i;
}

-- a label before a line that is read back
pub label_back : (name : List ℕ) → IsName name → (text : List ℕ) (tokens : List Spaced) → ReadsBack text (λ ts. ts ≡ tokens) → ReadsBack (printed_label name ++ text) (λ ts. IsLabelled ts name tokens)
label_back name h text tokens r =
    let P : List ℕ → Type 0 = λ l. ReadsBack l (λ us. IsLabelled us name tokens) in
    let e : (name ++ 58 ∷ r.line) ++ 10 ∷ [] ≡ printed_label name ++ text = append_assoc name (58 ∷ r.line) (10 ∷ []) ∙ ap (λ (l : List ℕ). name ++ 58 ∷ l) (sym r.ends) ∙ sym (append_assoc name (58 ∷ []) text) in
    subst P e (back (λ us. IsLabelled us name tokens) (name ++ 58 ∷ r.line) (record { tok = Word name; is_spaced = false } ∷ record { tok = Colon; is_spaced = false } ∷ r.tokens) (feed_append name (58 ∷ r.line) (name_feed name h) (refl, r.no_feed)) (label_spelled name r.line r.tokens h r.spelled) (refl, refl, r.is))

is_apart : (ts : List Tok) → IsApart (spaced true ts)
is_apart [] = tt
is_apart (t ∷ ts) = refl

-- a word and its operands
row : (s : MStatement) (word operands : List ℕ) (ts : List Tok) → IsName word → written ts ≡ operands → Fits ts → IsRow word (spaced true ts) s → ReadsBack (row_text word operands ++ 10 ∷ []) (λ us. IsStatement us s)
row s word operands ts n e f r =
    let P : List ℕ → Type 0 = λ l. ReadsBack (row_text word l ++ 10 ∷ []) (λ us. IsStatement us s) in
    let h : NoFeed (row_text word (written ts)) = (refl, feed_append word (9 ∷ written ts) (name_feed word n) (refl, no_feed ts f)) in
    subst P e (back (λ us. IsStatement us s) (row_text word (written ts)) (record { tok = Word word; is_spaced = true } ∷ spaced true ts) h (word_spelled word (spaced true ts) (written ts) n (tab_spelled ts f)) (word, refl, is_apart ts, r))

-- a word alone
alone : (s : MStatement) (word : List ℕ) → IsName word → IsRow word [] s → ReadsBack ((9 ∷ word) ++ 10 ∷ []) (λ us. IsStatement us s)
alone s word n r =
    let ts : List Tok = Word word ∷ [] in
    let f : Fits ts = (n, tt, tt) in
    let P : List ℕ → Type 0 = λ l. ReadsBack ((9 ∷ l) ++ 10 ∷ []) (λ us. IsStatement us s) in
    subst P (append-nil word) (back (λ us. IsStatement us s) (9 ∷ written ts) (spaced true ts) (refl, no_feed ts f) (tab_spelled ts f) (word, refl, tt, r))

-- ---- items with commas between them

module _ {A : Type 0} (text : A → List ℕ) (tokens : A → List Tok → List Tok) (Good : A → Type 0) (Item : List Spaced → A → List Spaced → Type 0) (item_written : (a : A) (behind : List Tok) → written (tokens a behind) ≡ text a ++ written behind) (item_fits : (a : A) (behind : List Tok) → Good a → StopsIn (in_asm Symbol) (written behind) → Fits behind → Fits (tokens a behind)) (item_is : (s : Bool) (a : A) (behind : List Tok) → Good a → Item (spaced s (tokens a behind)) a (spaced false behind)) where
  abbrev more_tokens : List A → List Tok
  more_tokens [] = []
  more_tokens (a ∷ more) = Comma ∷ tokens a (more_tokens more)

  abbrev listed_tokens : List A → List Tok
  listed_tokens [] = []
  listed_tokens (a ∷ more) = tokens a (more_tokens more)

  more_written : (more : List A) → written (more_tokens more) ≡ more_text text more
  more_written [] = refl
  more_written (a ∷ more) = ap (λ (l : List ℕ). 44 ∷ l) (item_written a (more_tokens more) ∙ ap (λ (l : List ℕ). text a ++ l) (more_written more))

  listed_written : (all : List A) → written (listed_tokens all) ≡ listed_text text all
  listed_written [] = refl
  listed_written (a ∷ more) = item_written a (more_tokens more) ∙ ap (λ (l : List ℕ). text a ++ l) (more_written more)

  more_stops : (more : List A) → StopsIn (in_asm Symbol) (written (more_tokens more))
  more_stops [] = tt
  more_stops (a ∷ more) = refl

  more_fit : (more : List A) → All Good more → Fits (more_tokens more)
  more_fit [] h = tt
  more_fit (a ∷ more) h = (tt, tt, item_fits a (more_tokens more) (All-head Good a more h) (more_stops more) (more_fit more (All-tail Good a more h)))

  listed_fit : (all : List A) → All Good all → Fits (listed_tokens all)
  listed_fit [] h = tt
  listed_fit (a ∷ more) h = item_fits a (more_tokens more) (All-head Good a more h) (more_stops more) (more_fit more (All-tail Good a more h))

  are_items : (s : Bool) (a : A) (more : List A) → All Good (a ∷ more) → Listed Item (spaced s (tokens a (more_tokens more))) (a ∷ more)
  are_items s a [] h = item_is s a [] (All-head Good a [] h)
  are_items s a (b ∷ more) h = (spaced false (more_tokens (b ∷ more)), spaced false (tokens b (more_tokens more)), item_is s a (more_tokens (b ∷ more)) (All-head Good a (b ∷ more) h), (refl, refl), are_items false b more (All-tail Good a (b ∷ more) h))

  are_listed : (all : List A) → (all ≡ [] → ⊥) → All Good all → Listed Item (spaced true (listed_tokens all)) all
  are_listed [] n h = absurd (n refl)
  are_listed (a ∷ more) n h = are_items true a more h

  items_row : (s : MStatement) (word : List ℕ) (all : List A) → IsName word → All Good all → IsRow word (spaced true (listed_tokens all)) s → ReadsBack (row_text word (listed_text text all) ++ 10 ∷ []) (λ us. IsStatement us s)
  items_row s word all n h r = row s word (listed_text text all) (listed_tokens all) n (listed_written all) (listed_fit all h) r

abbrev number_tokens : ℕ → List Tok → List Tok
number_tokens n behind = number_token n ∷ behind

part_fits : (bits : ℕ) → 2 ^ bits ≤ 2 ^ 16 → (n : ℕ) (behind : List Tok) → n < 2 ^ bits → StopsIn (in_asm Symbol) (written behind) → Fits behind → Fits (number_tokens n behind)
part_fits bits b n behind h e f = (number_token_is n (omega (arith, b, h)), e, f)

kept : (n limit : ℕ) → n < limit → n ≡ n % limit
kept n limit h = grind arith

part_is : (bits : ℕ) → 2 ^ bits ≤ 2 ^ 16 → (s : Bool) (n : ℕ) (behind : List Tok) → n < 2 ^ bits → IsPartItem bits (spaced s (number_tokens n behind)) n (spaced false behind)
part_is bits b s n behind h = (n, is_sum s n behind (omega (arith, b, h)), kept n (2 ^ bits) h)

parts_row : (bits : ℕ) → 2 ^ bits ≤ 2 ^ 16 → (s : MStatement) (word : List ℕ) (all : List ℕ) → IsName word → (all ≡ [] → ⊥) → All (λ n. n < 2 ^ bits) all → ((ts : List Spaced) → Listed (IsPartItem bits) ts all → IsRow word ts s) → ReadsBack (row_text word (listed_text decimal all) ++ 10 ∷ []) (λ us. IsStatement us s)
parts_row bits b s word all n some h r =
    items_row decimal number_tokens (λ n. n < 2 ^ bits) (IsPartItem bits) (λ a behind. refl) (part_fits bits b) (part_is bits b) s word all n h (r _ (are_listed decimal number_tokens (λ n. n < 2 ^ bits) (IsPartItem bits) (λ a behind. refl) (part_fits bits b) (part_is bits b) all some h))

abbrev IsItemGood : Option (List ℕ) × ℕ → Type 0
IsItemGood item = IsNamed item.0 × (item.1 ≤ 4294967295)

abbrev item_tokens : Option (List ℕ) × ℕ → List Tok → List Tok
item_tokens item behind = place_tokens item.0 item.1 behind

words_row : (s : MStatement) (word : List ℕ) (all : List (Option (List ℕ) × ℕ)) → IsName word → (all ≡ [] → ⊥) → All IsItemGood all → ((ts : List Spaced) → Listed IsWordItem ts all → IsRow word ts s) → ReadsBack (row_text word (listed_text item_text all) ++ 10 ∷ []) (λ us. IsStatement us s)
words_row s word all n some h r =
    items_row item_text item_tokens IsItemGood IsWordItem (λ a behind. place_written a.0 a.1 behind) (λ a behind g e f. place_fits a.0 a.1 behind g.0 g.1 e f) (λ t a behind g. is_place t a.0 a.1 behind g.1) s word all n h (r _ (are_listed item_text item_tokens IsItemGood IsWordItem (λ a behind. place_written a.0 a.1 behind) (λ a behind g e f. place_fits a.0 a.1 behind g.0 g.1 e f) (λ t a behind g. is_place t a.0 a.1 behind g.1) all some h))

-- ---- statements

pub statement_back : (s : MStatement) → IsWithin s → IsPrintable s → ReadsBack (printed_statement s) (λ ts. IsStatement ts s)
statement_back Nothing w p = back (λ us. IsStatement us Nothing) [] [] tt ([], [], tt, tt, refl) refl
statement_back Text w p = alone Text (directive_text directive.Text) (directive_name directive.Text) (refl, refl)
statement_back Data w p = alone Data (directive_text directive.Data) (directive_name directive.Data) (refl, refl)
statement_back (Global name) w p = row (Global name) (directive_text directive.Global) name (Word name ∷ []) (directive_name directive.Global) (append-nil name) (p.0, tt, tt) (refl, (refl, refl))
statement_back (Align n) w p =
    let h : n ≤ 4294967295 = omega (arith, p.1) in
    row (Align n) (directive_text directive.Align) (decimal n) (number_token n ∷ []) (directive_name directive.Align) (append-nil (decimal n)) (number_token_is n h, tt, tt) (refl, is_count n h, p.1)
statement_back (Words items) w p = words_row (Words items) (directive_text directive.Word) items (directive_name directive.Word) p.1 (λ k d l. (p.0 k d l, w k d l)) (λ ts h. (refl, h))
statement_back (Halves halves) w p = parts_row 16 (omega arith) (Halves halves) (directive_text directive.Half) halves (directive_name directive.Half) p.1 w (λ ts h. (refl, h))
statement_back (Bytes bytes) w p = parts_row 8 (omega arith) (Bytes bytes) (directive_text directive.Byte) bytes (directive_name directive.Byte) p.1 w (λ ts h. (refl, h))
statement_back (Space n) w p = row (Space n) (directive_text directive.Space) (decimal n) (number_token n ∷ []) (directive_name directive.Space) (append-nil (decimal n)) (number_token_is n w, tt, tt) (refl, is_count n w)
statement_back (Does i) w p = row (Does i) (word_of (head_of i)) (operands_text i) (operand_tokens i) (mnemonic_name (head_of i)) (operands_written i) (operands_fit i w p.0) (refl, are_operands i w)
