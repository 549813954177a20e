-- Operators and punctuators, before a blank and at the end, are read as themselves.
use Rattle.std.proofs.Common.{◌≡◌, ◌+◌, ℕ, suc, Bool, true, false, if◌then◌else◌, Option, Some, None, Ok, List, [], ◌∷◌, ◌++◌, length, refl, sym, ap, ◌∙◌, subst, arith}
use Rattle.std.specs.Prelude.{nat_le, not, ◌==◌, ◌||◌, ◌&&◌, slice_get}
use Rattle.std.specs.Char.{is_ascii_digit}
use Rattle.std.specs.List.{position_from, list_all}
use Rattle.std.specs.Str.{bytes_eq}
use Rattle.std.proofs.lemmas.Bool.Decides.{nat_tests}
use Rattle.std.proofs.lemmas.Slice.Eq.{bytes_eq-Decides}
use Rattle.c_ast.specs.declared.class.Class.TheVariants as class
use Rattle.c_ast.specs.Signs.{signs, sign_of}
use Rattle.c_ast.specs.Lexemes.{Sign}
use Rattle.c_ast.specs.Printed.{text_at}
use Rattle.c_lexer.specs.declared.class.LexClass.TheVariants.{Space}
use Rattle.c_lexer.specs.declared.place.Place.{Place}
use Rattle.c_lexer.specs.declared.start.Start.{Start}
use Rattle.c_lexer.specs.declared.start.Start.TheVariants as start
use Rattle.c_lexer.specs.Classes.{in_lex}
use Rattle.c_lexer.specs.Gaps.{behind_gap}
use Rattle.c_lexer.specs.LongestSigns.{or_else, with_length, longest_sign}
use Rattle.c_lexer.specs.Starts.{starts_with, starts_comment, start_of}
use Rattle.c_lexer.specs.Readings.{Reading, sign_or_fault, ReadsFrom}
use Rattle.c_lexer.proofs.ReadLexemes.{IsEnd, IsRead}
use Rattle.c_lexer.proofs.ReadWords.{text_there, no_gap}

-- ---- what holds of each sign

both : (a b : Bool) → (a && b) ≡ true → (a ≡ true) × (b ≡ true)
both true b h = (refl, h)
both false b h = absurd cc

holds_there : (test : List ℕ → Bool) (xs : List (List ℕ)) (w : List ℕ) (i k : ℕ) → list_all test xs ≡ true → position_from (bytes_eq w) i xs ≡ Some k → test w ≡ true
holds_there test [] w i k a e = absurd cc
holds_there test (x ∷ xs) w i k a e = let p = both (test x) (list_all test xs) a in by (bytes_eq w x) refl e p.0 (holds_there test xs w (i + 1) k p.1)
  where
    by : (b : Bool) → bytes_eq w x ≡ b → (if b then Some i else position_from (bytes_eq w) (i + 1) xs) ≡ Some k → test x ≡ true → (position_from (bytes_eq w) (i + 1) xs ≡ Some k → test w ≡ true) → test w ≡ true
    by true f g t more = subst (λ z. test z ≡ true) (sym ((bytes_eq-Decides w x).0 f)) t
    by false f g t more = more g

abbrev no_blank : List ℕ → Bool
no_blank x = list_all (λ b. not (b == 32)) x

abbrev is_sign : Start → Bool
is_sign start.Sign = true
is_sign start.End = false
is_sign start.Constant = false
is_sign start.Wide = false
is_sign start.Word = false
is_sign start.Character = false
is_sign start.Text = false
is_sign start.Comment = false

abbrev opens_gap : ℕ → List ℕ → Bool
opens_gap b bs = (b == 10 || in_lex Space b) || ((nat_le 11 b && nat_le b 13) || (b == 35 || starts_comment b bs))

abbrev is_plain : List ℕ → Bool
is_plain [] = false
is_plain (b ∷ bs) = is_sign (start_of (b ∷ bs)) && not (opens_gap b bs)

sign_plain : (x : List ℕ) (k : ℕ) → sign_of x ≡ Some k → is_plain x ≡ true
sign_plain x k e = holds_there is_plain signs x 0 k refl e

sign_short : (x : List ℕ) (k : ℕ) → sign_of x ≡ Some k → nat_le (length x) 3 ≡ true
sign_short x k e = holds_there (λ y. nat_le (length y) 3) signs x 0 k refl e

sign_no_blank : (x : List ℕ) (k : ℕ) → sign_of x ≡ Some k → no_blank x ≡ true
sign_no_blank x k e = holds_there no_blank signs x 0 k refl e

no_sign : (x : List ℕ) → no_blank x ≡ false → sign_of x ≡ None
no_sign x h = by (sign_of x) refl
  where
    by : (o : Option ℕ) → sign_of x ≡ o → o ≡ None
    by None e = refl
    by (Some k) e = absurd (let f = sign_no_blank x k e in cc)

neither : (t r : Bool) → r ≡ false → (t && r) ≡ false
neither true r e = e
neither false r e = refl

has_blank : (u v : List ℕ) → no_blank (u ++ 32 ∷ v) ≡ false
has_blank [] v = refl
has_blank (x ∷ u) v = neither (not (x == 32)) (no_blank (u ++ 32 ∷ v)) (has_blank u v)

no_blank_sign : (u v : List ℕ) → sign_of (u ++ 32 ∷ v) ≡ None
no_blank_sign u v = no_sign (u ++ 32 ∷ v) (has_blank u v)

-- ---- the longest is the sign itself

abbrev chosen : Option ℕ → Option ℕ → Option ℕ → ℕ → ℕ → ℕ → Option (ℕ × ℕ)
chosen o3 o2 o1 l3 l2 l1 = or_else (with_length o3 l3) (or_else (with_length o2 l2) (with_length o1 l1))

third : (o3 o2 o1 : Option ℕ) (l3 l2 l1 k : ℕ) → o3 ≡ Some k → chosen o3 o2 o1 l3 l2 l1 ≡ Some (k, l3)
third o3 o2 o1 l3 l2 l1 k e = rw e refl

second : (o3 o2 o1 : Option ℕ) (l3 l2 l1 k : ℕ) → o3 ≡ None → o2 ≡ Some k → chosen o3 o2 o1 l3 l2 l1 ≡ Some (k, l2)
second o3 o2 o1 l3 l2 l1 k e f = rw (e, f) refl

first : (o3 o2 o1 : Option ℕ) (l3 l2 l1 k : ℕ) → o3 ≡ None → o2 ≡ None → o1 ≡ Some k → chosen o3 o2 o1 l3 l2 l1 ≡ Some (k, l1)
first o3 o2 o1 l3 l2 l1 k e f g = rw (e, f, g) refl

too_long : (n : ℕ) → nat_le (suc (suc (suc (suc n)))) 3 ≡ true → ⊥
too_long n h = grind (arith, nat_tests)

longest_last : (x : List ℕ) (k : ℕ) → sign_of x ≡ Some k → longest_sign x ≡ Some (k, length x)
longest_last [] k e = third (sign_of []) (sign_of []) (sign_of []) 0 0 0 k e
longest_last (a ∷ []) k e = third (sign_of (a ∷ [])) (sign_of (a ∷ [])) (sign_of (a ∷ [])) 1 1 1 k e
longest_last (a ∷ b ∷ []) k e = third (sign_of (a ∷ b ∷ [])) (sign_of (a ∷ b ∷ [])) (sign_of (a ∷ [])) 2 2 1 k e
longest_last (a ∷ b ∷ c ∷ []) k e = third (sign_of (a ∷ b ∷ c ∷ [])) (sign_of (a ∷ b ∷ [])) (sign_of (a ∷ [])) 3 2 1 k e
longest_last (a ∷ b ∷ c ∷ d ∷ u) k e = absurd (too_long (length u) (sign_short (a ∷ b ∷ c ∷ d ∷ u) k e))

longest_before : (x : List ℕ) (k : ℕ) (more : List ℕ) → sign_of x ≡ Some k → longest_sign (x ++ 32 ∷ more) ≡ Some (k, length x)
longest_before [] k more e = absurd cc
longest_before (a ∷ []) k [] e = first (sign_of (a ∷ 32 ∷ [])) (sign_of (a ∷ 32 ∷ [])) (sign_of (a ∷ [])) 2 2 1 k (no_blank_sign (a ∷ []) []) (no_blank_sign (a ∷ []) []) e
longest_before (a ∷ []) k (m ∷ more) e = first (sign_of (a ∷ 32 ∷ m ∷ [])) (sign_of (a ∷ 32 ∷ [])) (sign_of (a ∷ [])) 3 2 1 k (no_blank_sign (a ∷ []) (m ∷ [])) (no_blank_sign (a ∷ []) []) e
longest_before (a ∷ b ∷ []) k more e = second (sign_of (a ∷ b ∷ 32 ∷ [])) (sign_of (a ∷ b ∷ [])) (sign_of (a ∷ [])) 3 2 1 k (no_blank_sign (a ∷ b ∷ []) []) e
longest_before (a ∷ b ∷ c ∷ []) k more e = third (sign_of (a ∷ b ∷ c ∷ [])) (sign_of (a ∷ b ∷ [])) (sign_of (a ∷ [])) 3 2 1 k e
longest_before (a ∷ b ∷ c ∷ d ∷ u) k more e = absurd (too_long (length u) (sign_short (a ∷ b ∷ c ∷ d ∷ u) k e))

append_nothing : (xs : List ℕ) → xs ++ [] ≡ xs
append_nothing [] = refl
append_nothing (x ∷ xs) = ap (λ z. x ∷ z) (append_nothing xs)

longest_is : (x behind : List ℕ) (k : ℕ) → sign_of x ≡ Some k → IsEnd behind → longest_sign (x ++ behind) ≡ Some (k, length x)
longest_is x [] k e h = ap longest_sign (append_nothing x) ∙ longest_last x k e
longest_is x (b ∷ more) k e h = ap (λ z. longest_sign (x ++ z ∷ more)) h ∙ longest_before x k more e

-- ---- what is behind a sign changes nothing

same_first : (c : ℕ → Bool) (bs behind : List ℕ) → c 32 ≡ false → IsEnd behind → starts_with c (bs ++ behind) ≡ starts_with c bs
same_first c [] [] h e = refl
same_first c [] (b ∷ more) h e = ap c e ∙ h
same_first c (b ∷ bs) behind h e = refl

same_start : (b : ℕ) (bs behind : List ℕ) → IsEnd behind → start_of (b ∷ (bs ++ behind)) ≡ start_of (b ∷ bs)
same_start b bs behind e =
    let d = same_first is_ascii_digit bs behind refl e in
    let q = same_first (λ a. a == 39 || a == 34) bs behind refl e in
    let s = same_first (λ a. a == 42) bs behind refl e in
    rw (d, q, s) refl

is_start : (s : Start) → is_sign s ≡ true → s ≡ start.Sign
is_start start.Sign h = refl
is_start start.End h = absurd cc
is_start start.Constant h = absurd cc
is_start start.Wide h = absurd cc
is_start start.Word h = absurd cc
is_start start.Character h = absurd cc
is_start start.Text h = absurd cc
is_start start.Comment h = absurd cc

-- none of five
pub record NoneOf (a b c d e : Bool) : Type 0 where
  pub first : a ≡ false
  pub second : b ≡ false
  pub third : c ≡ false
  pub fourth : d ≡ false
  pub fifth : e ≡ false

none_of : (a b c d e : Bool) → not ((a || b) || (c || (d || e))) ≡ true → NoneOf a b c d e
none_of true b c d e h = absurd cc
none_of false true c d e h = absurd cc
none_of false false true d e h = absurd cc
none_of false false false true e h = absurd cc
none_of false false false false true h = absurd cc
none_of false false false false false h = record { first = refl; second = refl; third = refl; fourth = refl; fifth = refl }

plain_no_gap : (x behind : List ℕ) (p : Place) → is_plain x ≡ true → IsEnd behind → behind_gap (x ++ behind) p ≡ None
plain_no_gap [] behind p h e = absurd cc
plain_no_gap (b ∷ bs) behind p h e =
    let n = none_of (b == 10) (in_lex Space b) (nat_le 11 b && nat_le b 13) (b == 35) (starts_comment b bs) (both (is_sign (start_of (b ∷ bs))) (not (opens_gap b bs)) h).1 in
    no_gap b (bs ++ behind) p n.first n.second n.third n.fourth (ap (λ t. b == 47 && t) (same_first (λ a. a == 42) bs behind refl e) ∙ n.fifth)

plain_start : (x behind : List ℕ) → is_plain x ≡ true → IsEnd behind → start_of (x ++ behind) ≡ start.Sign
plain_start [] behind h e = absurd cc
plain_start (b ∷ bs) behind h e = same_start b bs behind e ∙ is_start (start_of (b ∷ bs)) (both (is_sign (start_of (b ∷ bs))) (not (opens_gap b bs)) h).0

sign_text : (k : ℕ) (x behind : List ℕ) → sign_of x ≡ Some k → IsEnd behind → IsRead (Sign k) x behind
sign_text k x behind f e =
    let r : Reading = Ok (Some (class.Sign k, length x)) in
    let s : sign_or_fault (longest_sign (x ++ behind)) ≡ r = ap sign_or_fault (longest_is x behind k f e) in
    record {
      class = class.Sign k;
      no_gap = λ p. plain_no_gap x behind p (sign_plain x k f) e;
      reads = subst (λ z. ReadsFrom z (x ++ behind) r) (sym (plain_start x behind (sign_plain x k f) e)) (sym s);
      lexeme = refl;
    }

pub read_sign : (k : ℕ) (x behind : List ℕ) → sign_of x ≡ Some k → IsEnd behind → IsRead (Sign k) (text_at (slice_get signs k)) behind
read_sign k x behind f e = subst (λ z. IsRead (Sign k) z behind) (sym (text_there signs x k f)) (sign_text k x behind f e)
