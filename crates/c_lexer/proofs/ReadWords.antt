-- Names and keywords, before a blank and at the end, are read as themselves.
use Rattle.std.proofs.Common.{◌≡◌, ◌+◌, ℕ, suc, Bool, true, false, if◌then◌else◌, Option, Some, None, Ok, List, [], ◌∷◌, ◌++◌, length, refl, sym, ap, ◌∙◌, subst, arith}
use Rattle.std.specs.Prelude.{nat_le, ◌==◌, ◌||◌, ◌&&◌, slice_get}
use Rattle.std.specs.Char.{is_ascii_digit}
use Rattle.std.specs.List.{position_from}
use Rattle.std.specs.Str.{bytes_eq}
use Rattle.std.proofs.Math.Seq.{take-append_seam}
use Rattle.std.proofs.lemmas.Bool.Decides.{nat_tests}
use Rattle.std.proofs.lemmas.Slice.Eq.{bytes_eq-Decides}
use Rattle.lcc_text.specs.declared.class.Class.TheVariants.{Name as NameBytes}
use Rattle.lcc_text.specs.Classes.{in_class, AllIn, StopsIn}
use Rattle.c_ast.specs.declared.class.Class.TheVariants as class
use Rattle.c_ast.specs.Keywords.{keywords, keyword_of}
use Rattle.c_ast.specs.Lexemes.{Name, Keyword}
use Rattle.c_ast.specs.Printed.{text_at}
use Rattle.c_lexer.specs.declared.class.LexClass.TheVariants.{Space}
use Rattle.c_lexer.specs.declared.place.Place.{Place}
use Rattle.c_lexer.specs.declared.start.Start.{Start}
use Rattle.c_lexer.specs.declared.start.Start.TheVariants as start
use Rattle.c_lexer.specs.Classes.{in_lex}
use Rattle.c_lexer.specs.Gaps.{behind_gap}
use Rattle.c_lexer.specs.Runs.{run}
use Rattle.c_lexer.specs.Starts.{starts_with, starts_comment, start_of}
use Rattle.c_lexer.specs.Readings.{Reading, class_of_word, word_of, ReadsFrom, Reads}
use Rattle.c_lexer.proofs.GoodLexemes.{IsWord}
use Rattle.c_lexer.proofs.ReadLexemes.{IsEnd, IsRead}

-- ---- where a text stands in a table

pub record StandsAt (xs : List (List ℕ)) (w : List ℕ) (i k : ℕ) : Type 0 where
  pub index : ℕ
  pub sum : k ≡ i + index
  pub text : slice_get xs index ≡ Some w

same_some : (i k : ℕ) → Some i ≡ Some k → i ≡ k
same_some i k e = cc

stands : (xs : List (List ℕ)) (w : List ℕ) (i k : ℕ) → position_from (bytes_eq w) i xs ≡ Some k → StandsAt xs w i k
stands [] w i k e = absurd cc
stands (x ∷ xs) w i k e = by (bytes_eq w x) refl e (stands xs w (i + 1) k)
  where
    by : (b : Bool) → bytes_eq w x ≡ b → (if b then Some i else position_from (bytes_eq w) (i + 1) xs) ≡ Some k → (position_from (bytes_eq w) (i + 1) xs ≡ Some k → StandsAt xs w (i + 1) k) → StandsAt (x ∷ xs) w i k
    by true f g more = let h = same_some i k g in record { index = 0; sum = omega arith; text = ap (λ (z : List ℕ). Some z) (sym ((bytes_eq-Decides w x).0 f)) }
    by false f g more = let r = more g in let s = r.sum in record { index = suc r.index; sum = omega arith; text = r.text }

-- the text at the place where a text stands is that text
pub text_there : (xs : List (List ℕ)) (w : List ℕ) (k : ℕ) → position_from (bytes_eq w) 0 xs ≡ Some k → text_at (slice_get xs k) ≡ w
text_there xs w k e =
    let r = stands xs w 0 k e in
    let s = r.sum in
    let f : k ≡ r.index = omega arith in
    ap (λ n. text_at (slice_get xs n)) f ∙ ap text_at r.text

-- ---- no gap begins

pub no_gap : (b : ℕ) (bs : List ℕ) (p : Place) → (b == 10) ≡ false → in_lex Space b ≡ false → (nat_le 11 b && nat_le b 13) ≡ false → (b == 35) ≡ false → starts_comment b bs ≡ false → behind_gap (b ∷ bs) p ≡ None
no_gap b bs p f s w c m = rw (f, s, w, c, m) refl

-- ---- words

pub run_text : (c : ℕ → Bool) (w behind : List ℕ) → AllIn c w → StopsIn c behind → run c (w ++ behind) ≡ w
run_text c [] [] a s = refl
run_text c [] (b ∷ bs) a s = rw s refl
run_text c (x ∷ w) behind a s = rw a.0 (ap (λ z. x ∷ z) (run_text c w behind a.1 s))

abbrev pick : Bool → Bool → Bool → Bool → Bool → Bool → Start
pick a b c d e f = if a then start.Constant else (if b then start.Wide else (if c then start.Word else (if d then start.Character else (if e then start.Text else (if f then start.Comment else start.Sign)))))

picks_word : (digit point other l quote name d e f : Bool) → digit ≡ false → point ≡ false → quote ≡ false → name ≡ true → pick (digit || (point && other)) (l && quote) name d e f ≡ start.Word
picks_word digit point other true quote name d e f g h i j = rw (g, h, i, j) refl
picks_word digit point other false quote name d e f g h i j = rw (g, h, j) refl

no_point : (b : ℕ) → in_class NameBytes b ≡ true → (b == 46) ≡ false
no_point b h = grind (arith, nat_tests)

no_quote : (b : ℕ) → in_class NameBytes b ≡ true → (b == 39 || b == 34) ≡ false
no_quote b h = grind (arith, nat_tests)

no_feed : (b : ℕ) → in_class NameBytes b ≡ true → (b == 10) ≡ false
no_feed b h = grind (arith, nat_tests)

no_space : (b : ℕ) → in_class NameBytes b ≡ true → in_lex Space b ≡ false
no_space b h = grind (arith, nat_tests)

no_white : (b : ℕ) → in_class NameBytes b ≡ true → (nat_le 11 b && nat_le b 13) ≡ false
no_white b h = grind (arith, nat_tests)

no_control : (b : ℕ) → in_class NameBytes b ≡ true → (b == 35) ≡ false
no_control b h = grind (arith, nat_tests)

no_slash : (b : ℕ) → in_class NameBytes b ≡ true → (b == 47) ≡ false
no_slash b h = grind (arith, nat_tests)

pub word_no_gap : (b : ℕ) (bs : List ℕ) (p : Place) → in_class NameBytes b ≡ true → behind_gap (b ∷ bs) p ≡ None
word_no_gap b bs p h = no_gap b bs p (no_feed b h) (no_space b h) (no_white b h) (no_control b h) (ap (λ t. t && starts_with (λ a. a == 42) bs) (no_slash b h))

no_quotes : (bs behind : List ℕ) → AllIn (in_class NameBytes) bs → IsEnd behind → starts_with (λ a. a == 39 || a == 34) (bs ++ behind) ≡ false
no_quotes [] [] a e = refl
no_quotes [] (b ∷ behind) a e = rw e refl
no_quotes (b ∷ bs) behind a e = no_quote b a.0

word_stops : (behind : List ℕ) → IsEnd behind → StopsIn (in_class NameBytes) behind
word_stops [] e = tt
word_stops (b ∷ bs) e = rw e refl

reads_word : (w behind : List ℕ) (o : Option ℕ) → IsWord w → keyword_of w ≡ o → IsEnd behind → Reads (w ++ behind) (Ok (Some (class_of_word o, length w)))
reads_word [] behind o h k e = absurd h
reads_word (b ∷ bs) behind o h k e =
    let w = b ∷ bs in
    let s : start_of (w ++ behind) ≡ start.Word = picks_word (is_ascii_digit b) (b == 46) _ (b == 76) _ (in_class NameBytes b) _ _ _ h.0 (no_point b h.1.0) (no_quotes bs behind h.1.1 e) h.1.0 in
    let r : Reading = Ok (Some (class_of_word o, length w)) in
    let f : word_of (run (in_class NameBytes) (w ++ behind)) ≡ r = ap word_of (run_text (in_class NameBytes) w behind h.1 (word_stops behind e)) ∙ ap (λ z. Ok (Some (class_of_word z, length w))) k in
    subst (λ z. ReadsFrom z (w ++ behind) r) (sym s) (sym f)

word_gaps : (w behind : List ℕ) (p : Place) → IsWord w → behind_gap (w ++ behind) p ≡ None
word_gaps [] behind p h = absurd h
word_gaps (b ∷ bs) behind p h = word_no_gap b (bs ++ behind) p h.1.0

pub read_name : (n behind : List ℕ) → IsWord n → keyword_of n ≡ None → IsEnd behind → IsRead (Name n) n behind
read_name n behind h k e = record {
  class = class.Name;
  no_gap = λ p. word_gaps n behind p h;
  reads = reads_word n behind None h k e;
  lexeme = ap (λ z. Name z) (sym (take-append_seam n behind));
}

keyword_word : (k : ℕ) (w behind : List ℕ) → IsWord w → keyword_of w ≡ Some k → IsEnd behind → IsRead (Keyword k) w behind
keyword_word k w behind h f e = record {
  class = class.Keyword k;
  no_gap = λ p. word_gaps w behind p h;
  reads = reads_word w behind (Some k) h f e;
  lexeme = refl;
}

pub read_keyword : (k : ℕ) (w behind : List ℕ) → IsWord w → keyword_of w ≡ Some k → IsEnd behind → IsRead (Keyword k) (text_at (slice_get keywords k)) behind
read_keyword k w behind h f e = subst (λ z. IsRead (Keyword k) z behind) (sym (text_there keywords w k f)) (keyword_word k w behind h f e)
