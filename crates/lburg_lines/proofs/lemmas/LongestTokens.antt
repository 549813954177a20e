-- Laws of tokens: when what stands at the front is the longest token of its kind, and when none begins.
use Rattle.std.proofs.Common.{◌≡◌, ◌≤◌, ◌+◌, ℕ, suc, Bool, true, false, ◌==◌, ◌||◌, List, [], ◌∷◌, ◌++◌, length, take, drop, refl, sym, ap, subst, ◌∙◌, append_assoc, arith}
use Rattle.std.proofs.lemmas.List.{take-append-drop, length-append}
use Rattle.std.proofs.Math.Seq.{drop-append_seam, take-append_seam}
use Rattle.std.specs.Prelude.{◌≢◌}
use Rattle.std.proofs.lemmas.Bool.Decides.{nat_tests}
use Rattle.lcc_text.specs.declared.class.Class.TheVariants.{Letter, Digit, Name}
use Rattle.lcc_text.specs.Classes.{in_class, AllIn, StartsIn, StopsIn}
use Rattle.lcc_text.proofs.lemmas.Runs.{longest_run, run_exact, run_pos, starts_take}
use Rattle.lburg_lines.specs.declared.token.Sign.{Sign}
use Rattle.lburg_lines.specs.Tokens.{Tok, Word, Number, Negative, Template, Keyword, Mark, Bound, Wrong, text_of, IsToken, is_quoted, escapes_well, sign_code}
use Rattle.lburg_lines.specs.Spelling.{IsNext, NoToken}
use Rattle.lburg_lines.proofs.lemmas.FirstBytes.{kind, kind_of, first_kind, same_kind, other_kind}

or_left : (x y z : Bool) → x ≡ true → ((x || y) || z) ≡ true
or_left true y z h = refl
or_left false y z h = absurd cc

letter_name : (bytes : List ℕ) → StartsIn (in_class Letter) bytes → StartsIn (in_class Name) bytes
letter_name [] h = h
letter_name (b ∷ bs) h = or_left (in_class Letter b) _ _ h

-- a name is not empty
pub name_pos : (bytes : List ℕ) (n : ℕ) → StartsIn (in_class Letter) bytes → StopsIn (in_class Name) (drop n bytes) → 1 ≤ n
name_pos bytes n h k = run_pos (in_class Name) bytes n (letter_name bytes h) k

-- ---- names

word_longest : (n rest : List ℕ) → IsToken (Word n) → StopsIn (in_class Name) rest → (u : Tok) (z : List ℕ) → IsToken u → n ++ rest ≡ text_of u ++ z → length (text_of u) ≤ length n
word_longest n rest t k (Word m) z p e = longest_run (in_class Name) n m rest z p.1 k e
word_longest n rest t k u z p e = let h : 0 ≡ kind_of u = same_kind (Word n) u rest z t p e in absurd (omega arith)

pub word_next : (bytes : List ℕ) (n : ℕ) → StartsIn (in_class Letter) bytes → AllIn (in_class Name) (take n bytes) → StopsIn (in_class Name) (drop n bytes) → IsNext bytes (Word (take n bytes)) (drop n bytes)
word_next bytes n h f k =
    let t : IsToken (Word (take n bytes)) = (starts_take (in_class Letter) bytes n h (name_pos bytes n h k), f) in
    record {
      token = t;
      parts = sym (take-append-drop n bytes);
      longest = λ u z p q. word_longest (take n bytes) (drop n bytes) t k u z p (take-append-drop n bytes ∙ q);
    }

-- ---- numbers

number_longest : (n rest : List ℕ) → IsToken (Number n) → StopsIn (in_class Digit) rest → (u : Tok) (z : List ℕ) → IsToken u → n ++ rest ≡ text_of u ++ z → length (text_of u) ≤ length n
number_longest n rest t k (Number m) z p e = longest_run (in_class Digit) n m rest z p.1 k e
number_longest n rest t k u z p e = let h : 1 ≡ kind_of u = same_kind (Number n) u rest z t p e in absurd (omega arith)

pub number_next : (bytes : List ℕ) (n : ℕ) → StartsIn (in_class Digit) bytes → AllIn (in_class Digit) (take n bytes) → StopsIn (in_class Digit) (drop n bytes) → IsNext bytes (Number (take n bytes)) (drop n bytes)
number_next bytes n h f k =
    let t : IsToken (Number (take n bytes)) = (starts_take (in_class Digit) bytes n h (run_pos (in_class Digit) bytes n h k), f) in
    record {
      token = t;
      parts = sym (take-append-drop n bytes);
      longest = λ u z p q. number_longest (take n bytes) (drop n bytes) t k u z p (take-append-drop n bytes ∙ q);
    }

-- ---- negative numbers

same_tail : (a b : ℕ) (x y : List ℕ) → a ∷ x ≡ b ∷ y → x ≡ y
same_tail a b x y e = cc

negative_longest : (n rest : List ℕ) → StopsIn (in_class Digit) rest → (u : Tok) (z : List ℕ) → IsToken u → 45 ∷ (n ++ rest) ≡ text_of u ++ z → length (text_of u) ≤ suc (length n)
negative_longest n rest k (Negative m) z p e = let h = longest_run (in_class Digit) n m rest z p.1 k (same_tail _ _ _ _ e) in omega arith
negative_longest n rest k u z p e = let h : 6 ≡ kind_of u = first_kind (45 ∷ (n ++ rest)) u z p e in absurd (omega arith)

pub negative_next : (bytes : List ℕ) (n : ℕ) → StartsIn (in_class Digit) bytes → AllIn (in_class Digit) (take n bytes) → StopsIn (in_class Digit) (drop n bytes) → IsNext (45 ∷ bytes) (Negative (take n bytes)) (drop n bytes)
negative_next bytes n h f k =
    let t : IsToken (Negative (take n bytes)) = (starts_take (in_class Digit) bytes n h (run_pos (in_class Digit) bytes n h k), f) in
    record {
      token = t;
      parts = ap (λ (l : List ℕ). 45 ∷ l) (sym (take-append-drop n bytes));
      longest = λ u z p q. negative_longest (take n bytes) (drop n bytes) k u z p (ap (λ (l : List ℕ). 45 ∷ l) (take-append-drop n bytes) ∙ q);
    }

starts_front : (p : ℕ → Bool) (bytes m z : List ℕ) → StartsIn p m → bytes ≡ m ++ z → StartsIn p bytes
starts_front p bytes [] z h e = absurd h
starts_front p bytes (b ∷ m) z h e = rw e h

no_negative_at : (bytes : List ℕ) → (StartsIn (in_class Digit) bytes → ⊥) → (u : Tok) (z : List ℕ) → IsToken u → 45 ∷ bytes ≡ text_of u ++ z → ⊥
no_negative_at bytes h (Negative m) z p e = h (starts_front (in_class Digit) bytes m z p.0 (same_tail _ _ _ _ e))
no_negative_at bytes h u z p e = let k : 6 ≡ kind_of u = first_kind (45 ∷ bytes) u z p e in omega arith

-- a minus sign begins nothing without a digit
pub no_negative : (bytes : List ℕ) → (StartsIn (in_class Digit) bytes → ⊥) → NoToken (45 ∷ bytes)
no_negative bytes h = no_negative_at bytes h

-- ---- keywords

keyword_longest : (n rest : List ℕ) → StopsIn (in_class Name) rest → (u : Tok) (z : List ℕ) → IsToken u → 37 ∷ (n ++ rest) ≡ text_of u ++ z → length (text_of u) ≤ suc (length n)
keyword_longest n rest k (Keyword m) z p e = let h = longest_run (in_class Name) n m rest z p.1 k (same_tail _ _ _ _ e) in omega arith
keyword_longest n rest k u z p e = let h : 3 ≡ kind_of u = first_kind (37 ∷ (n ++ rest)) u z p e in absurd (omega arith)

pub keyword_next : (bytes : List ℕ) (n : ℕ) → StartsIn (in_class Letter) bytes → AllIn (in_class Name) (take n bytes) → StopsIn (in_class Name) (drop n bytes) → IsNext (37 ∷ bytes) (Keyword (take n bytes)) (drop n bytes)
keyword_next bytes n h f k =
    let t : IsToken (Keyword (take n bytes)) = (starts_take (in_class Letter) bytes n h (name_pos bytes n h k), f) in
    record {
      token = t;
      parts = ap (λ (l : List ℕ). 37 ∷ l) (sym (take-append-drop n bytes));
      longest = λ u z p q. keyword_longest (take n bytes) (drop n bytes) k u z p (ap (λ (l : List ℕ). 37 ∷ l) (take-append-drop n bytes) ∙ q);
    }

no_keyword_at : (bytes : List ℕ) → (StartsIn (in_class Letter) bytes → ⊥) → (u : Tok) (z : List ℕ) → IsToken u → 37 ∷ bytes ≡ text_of u ++ z → ⊥
no_keyword_at bytes h (Keyword m) z p e = h (starts_front (in_class Letter) bytes m z p.0 (same_tail _ _ _ _ e))
no_keyword_at bytes h u z p e = let k : 3 ≡ kind_of u = first_kind (37 ∷ bytes) u z p e in omega arith

-- a percent sign begins nothing without a name
pub no_keyword : (bytes : List ℕ) → (StartsIn (in_class Letter) bytes → ⊥) → NoToken (37 ∷ bytes)
no_keyword bytes h = no_keyword_at bytes h

-- ---- templates

text_longest : (n rest : List ℕ) (u : Tok) (z : List ℕ) → IsToken u → 34 ∷ (n ++ 34 ∷ rest) ≡ text_of u ++ z → length (text_of u) ≤ length n + 2
text_longest n rest (Template m) z p e =
    let h = longest_run is_quoted n m (34 ∷ rest) (34 ∷ z) p.0 refl (same_tail _ _ _ _ e ∙ append_assoc m (34 ∷ []) z) in
    omega (arith, length-append m (34 ∷ []))
text_longest n rest u z p e = let k : 2 ≡ kind_of u = first_kind (34 ∷ (n ++ 34 ∷ rest)) u z p e in absurd (omega arith)

text_parts : (bytes rest : List ℕ) (n : ℕ) → drop n bytes ≡ 34 ∷ rest → bytes ≡ take n bytes ++ 34 ∷ rest
text_parts bytes rest n e = sym (take-append-drop n bytes) ∙ ap (λ (l : List ℕ). take n bytes ++ l) e

pub text_next : (bytes rest : List ℕ) (n : ℕ) → AllIn is_quoted (take n bytes) → escapes_well (take n bytes) ≡ true → drop n bytes ≡ 34 ∷ rest → IsNext (34 ∷ bytes) (Template (take n bytes)) rest
text_next bytes rest n k w f =
    let h = text_parts bytes rest n f in
    record {
      token = (k, w);
      parts = ap (λ (l : List ℕ). 34 ∷ l) (h ∙ sym (append_assoc (take n bytes) (34 ∷ []) rest));
      longest = λ u z p q. (let g = text_longest (take n bytes) rest u z p (ap (λ (l : List ℕ). 34 ∷ l) (sym h) ∙ q) in omega (arith, length-append (take n bytes) (34 ∷ [])));
    }

-- the run is what stands before the closing quote
abbrev Runs : List ℕ → ℕ → Type 0
Runs bytes n = AllIn is_quoted (take n bytes) × StopsIn is_quoted (drop n bytes) × (n ≤ length bytes)

quoted : (m z : List ℕ) (n : ℕ) → AllIn is_quoted m → Runs (m ++ 34 ∷ z) n → n ≡ length m
quoted m z n p r = run_exact is_quoted m (34 ∷ z) n p refl r.0 r.1 r.2

-- the run of a template's bytes is closed, and escapes well
closed_by : (m z : List ℕ) (n : ℕ) → IsToken (Template m) → Runs (m ++ 34 ∷ z) n → (drop n (m ++ 34 ∷ z) ≡ 34 ∷ z) × (escapes_well (take n (m ++ 34 ∷ z)) ≡ true)
closed_by m z n p r =
    let e = quoted m z n p.0 r in
    (ap (λ (i : ℕ). drop i (m ++ 34 ∷ z)) e ∙ drop-append_seam m (34 ∷ z), ap (λ (i : ℕ). escapes_well (take i (m ++ 34 ∷ z))) e ∙ ap escapes_well (take-append_seam m (34 ∷ z)) ∙ p.1)

closed : (bytes m z : List ℕ) (n : ℕ) → IsToken (Template m) → Runs bytes n → bytes ≡ m ++ 34 ∷ z → (drop n bytes ≡ 34 ∷ z) × (escapes_well (take n bytes) ≡ true)
closed bytes m z n p r e =
    let P : List ℕ → Type 0 = λ l. Runs l n in
    let Q : List ℕ → Type 0 = λ l. (drop n l ≡ 34 ∷ z) × (escapes_well (take n l) ≡ true) in
    subst Q (sym e) (closed_by m z n p (subst P e r))

-- a second quote is missing, or a backslash begins no escape
abbrev Spoilt : List ℕ → ℕ → Type 0
Spoilt bytes n = (rest : List ℕ) → drop n bytes ≡ 34 ∷ rest → escapes_well (take n bytes) ≡ true → ⊥

no_text_at : (bytes : List ℕ) (n : ℕ) → Runs bytes n → Spoilt bytes n → (u : Tok) (z : List ℕ) → IsToken u → 34 ∷ bytes ≡ text_of u ++ z → ⊥
no_text_at bytes n r h (Template m) z p e =
    let k = closed bytes m z n p r (same_tail _ _ _ _ e ∙ append_assoc m (34 ∷ []) z) in
    h z k.0 k.1
no_text_at bytes n r h u z p e = let k : 2 ≡ kind_of u = first_kind (34 ∷ bytes) u z p e in omega arith

-- a quote begins nothing without a second, or with a bad escape
pub no_text : (bytes : List ℕ) (n : ℕ) → AllIn is_quoted (take n bytes) → StopsIn is_quoted (drop n bytes) → n ≤ length bytes → Spoilt bytes n → NoToken (34 ∷ bytes)
no_text bytes n f k b h = no_text_at bytes n (f, k, b) h

-- ---- signs

sign_longest : (s : Sign) (rest : List ℕ) (u : Tok) (z : List ℕ) → IsToken u → sign_code s ∷ rest ≡ text_of u ++ z → length (text_of u) ≤ 1
sign_longest s rest (Mark v) z p e = omega arith
sign_longest s rest u z p e = let k : 4 ≡ kind_of u = same_kind (Mark s) u rest z tt p e in absurd (omega arith)

pub sign_next : (s : Sign) (rest : List ℕ) → IsNext (sign_code s ∷ rest) (Mark s) rest
sign_next s rest = record { token = tt; parts = refl; longest = sign_longest s rest }

none_at : (b : ℕ) (bs : List ℕ) → kind b ≡ 4 → ((s : Sign) → sign_code s ≢ b) → (u : Tok) (z : List ℕ) → IsToken u → b ∷ bs ≡ text_of u ++ z → ⊥
none_at b bs h s (Mark v) z p e = s v cc
none_at b bs h s u z p e = let k : kind b ≡ kind_of u = first_kind (b ∷ bs) u z p e in omega arith

not_at : (a b : ℕ) → a ≢ b → (a == b) ≡ false
not_at a b h = grind (arith, nat_tests)

pub none_next : (b : ℕ) (bs : List ℕ) → ((s : Sign) → sign_code s ≢ b) → b ≢ 34 → b ≢ 37 → b ≢ 45 → in_class Letter b ≡ false → in_class Digit b ≡ false → NoToken (b ∷ bs)
none_next b bs s q r m l d = none_at b bs (other_kind b l d (not_at b 34 q) (not_at b 37 r) (not_at b 45 m)) s

none_empty_at : (u : Tok) (z : List ℕ) → IsToken u → [] ≡ text_of u ++ z → ⊥
none_empty_at (Bound b) z p e = p
none_empty_at Wrong z p e = p
none_empty_at u z p e = let k : 5 ≡ kind_of u = first_kind [] u z p e in omega arith

pub none_empty : NoToken []
none_empty = none_empty_at
