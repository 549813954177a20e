-- Characters as they are printed, between quotes; character constants are read as themselves.
use Rattle.std.proofs.Common.{◌≡◌, ◌+◌, ◌-◌, ◌*◌, ◌≤◌, ◌<◌, ℕ, suc, Bool, true, false, if◌then◌else◌, Some, Ok, List, [], ◌∷◌, ◌++◌, length, take, refl, sym, ap, ◌∙◌, subst, arith, append_assoc, length-append}
use Rattle.std.specs.Prelude.{nat_le, nat_lt, ◌==◌, ◌/◌, ◌%◌, ℤ, pos, negsuc}
use Rattle.std.specs.Int.{cast_signed, cast_unsigned, w8, w32}
use Rattle.std.proofs.Math.Seq.{drop-append_seam}
use Rattle.std.proofs.lemmas.Bool.Decides.{nat_tests}
use Rattle.c_ast.specs.declared.class.Class.TheVariants as class
use Rattle.c_ast.specs.Lexemes
use Rattle.c_ast.specs.Printed.{stands_alone, octal_escape, character_text, lexeme_text}
use Rattle.c_lexer.specs.declared.class.LexClass.TheVariants.{Octal}
use Rattle.c_lexer.specs.declared.quoted.Quoted.TheVariants.{Character}
use Rattle.c_lexer.specs.Characters.{Characters}
use Rattle.c_lexer.specs.Classes.{in_lex}
use Rattle.c_lexer.specs.Runs.{run}
use Rattle.c_lexer.specs.Numbers.{digit_value, value_behind}
use Rattle.c_lexer.specs.Quoted.{numeric, octal, escape, quoted, behind_quoted}
use Rattle.c_lexer.specs.Readings.{Reading, one_character, character_of}
use Rattle.c_lexer.proofs.ReadLexemes.{IsRead}

-- ---- octal escapes

is_octal : (x : ℕ) → x < 8 → in_lex Octal (48 + x) ≡ true
is_octal x h = grind (arith, nat_tests)

octal_value : (x : ℕ) → x < 8 → digit_value (48 + x) ≡ x
octal_value x h = grind (arith, nat_tests)

no_feed : (x : ℕ) → (48 + x == 10) ≡ false
no_feed x = grind (arith, nat_tests)

run_three : (c : ℕ → Bool) (x y z : ℕ) → c x ≡ true → c y ≡ true → c z ≡ true → run c (x ∷ y ∷ z ∷ []) ≡ x ∷ y ∷ z ∷ []
run_three c x y z h i j = rw (h, i, j) refl

number_value : (x y z : ℕ) → x < 8 → y < 8 → z < 8 → value_behind 8 0 ((48 + x) ∷ (48 + y) ∷ (48 + z) ∷ []) ≡ 64 * x + 8 * y + z
number_value x y z h i j =
    let a = octal_value x h in
    let b = octal_value y i in
    let c = octal_value z j in
    omega arith

escapes : (b : ℕ) (bs : List ℕ) → (b == 10) ≡ false → in_lex Octal b ≡ true → escape (b ∷ bs) ≡ octal (run (in_lex Octal) (take 3 (b ∷ bs)))
escapes b bs f o = rw (f, o) refl

numeric_byte : (v len : ℕ) → nat_le v 255 ≡ true → numeric v len ≡ Character v len
numeric_byte v len h = rw h refl

octal_digits : (x y z : ℕ) (more : List ℕ) → x < 8 → y < 8 → z < 8 → escape ((48 + x) ∷ (48 + y) ∷ (48 + z) ∷ more) ≡ numeric (64 * x + 8 * y + z) 4
octal_digits x y z more h i j =
    escapes (48 + x) ((48 + y) ∷ (48 + z) ∷ more) (no_feed x) (is_octal x h)
    ∙ ap octal (run_three (in_lex Octal) (48 + x) (48 + y) (48 + z) (is_octal x h) (is_octal y i) (is_octal z j))
    ∙ ap (λ v. numeric v 4) (number_value x y z h i j)

digits_of_byte : (b : ℕ) → b ≤ 255 → 64 * (b / 64) + 8 * (b / 8 % 8) + b % 8 ≡ b
digits_of_byte b h = omega arith

byte_high : (b : ℕ) → b ≤ 255 → b / 64 < 8
byte_high b h = omega arith

byte_bound : (b : ℕ) → nat_le b 255 ≡ true → b ≤ 255
byte_bound b h = grind (arith, nat_tests)

below_eight : (n : ℕ) → n % 8 < 8
below_eight n = omega arith

escaped : (b : ℕ) (more : List ℕ) → nat_le b 255 ≡ true → escape ((48 + b / 64) ∷ (48 + b / 8 % 8) ∷ (48 + b % 8) ∷ more) ≡ Character b 4
escaped b more h =
    let l = byte_bound b h in
    octal_digits (b / 64) (b / 8 % 8) (b % 8) more (byte_high b l) (below_eight (b / 8)) (below_eight b)
    ∙ ap (λ v. numeric v 4) (digits_of_byte b l) ∙ numeric_byte b 4 h

-- ---- one character

quoted_escape : (quote : ℕ) (bs : List ℕ) → (92 == quote) ≡ false → quoted quote (92 ∷ bs) ≡ escape bs
quoted_escape quote bs h = rw h refl

quoted_alone : (quote b : ℕ) (bs : List ℕ) → (b == quote) ≡ false → (b == 10) ≡ false → (b == 92) ≡ false → quoted quote (b ∷ bs) ≡ Character b 1
quoted_alone quote b bs h i j = rw (h, i, j) refl

alone_feed : (b : ℕ) → stands_alone b ≡ true → (b == 10) ≡ false
alone_feed b h = grind (arith, nat_tests)

alone_backslash : (b : ℕ) → stands_alone b ≡ true → (b == 92) ≡ false
alone_backslash b h = grind (arith, nat_tests)

alone_one : (b : ℕ) → stands_alone b ≡ true → (b == 39) ≡ false
alone_one b h = grind (arith, nat_tests)

alone_two : (b : ℕ) → stands_alone b ≡ true → (b == 34) ≡ false
alone_two b h = grind (arith, nat_tests)

read_character : (quote b : ℕ) (more : List ℕ) → (92 == quote) ≡ false → (stands_alone b ≡ true → (b == quote) ≡ false) → nat_le b 255 ≡ true → quoted quote (character_text b ++ more) ≡ Character b (length (character_text b))
read_character quote b more q a h = by (stands_alone b) refl
  where
    by : (t : Bool) → stands_alone b ≡ t → quoted quote ((if t then b ∷ [] else octal_escape b) ++ more) ≡ Character b (length (if t then b ∷ [] else octal_escape b))
    by true e = quoted_alone quote b more (a e) (alone_feed b e) (alone_backslash b e)
    by false e = quoted_escape quote ((48 + b / 64) ∷ (48 + b / 8 % 8) ∷ (48 + b % 8) ∷ more) q ∙ escaped b more h

pub one_quoted : (b : ℕ) (more : List ℕ) → nat_le b 255 ≡ true → quoted 39 (character_text b ++ more) ≡ Character b (length (character_text b))
one_quoted b more h = read_character 39 b more refl (alone_one b) h

pub two_quoted : (b : ℕ) (more : List ℕ) → nat_le b 255 ≡ true → quoted 34 (character_text b ++ more) ≡ Character b (length (character_text b))
two_quoted b more h = read_character 34 b more refl (alone_two b) h

-- ---- character constants

pub no_zero : (n : ℕ) → 0 + n ≡ n
no_zero n = omega arith

abbrev constant_text : ℕ → List ℕ
constant_text b = 39 ∷ (character_text b ++ 39 ∷ [])

pub between : (t : List ℕ) (q : ℕ) → length (q ∷ (t ++ q ∷ [])) ≡ length t + 2
between t q = simp length-append (omega arith)

one_characters : (b : ℕ) (behind : List ℕ) → nat_le b 255 ≡ true → Characters 39 (character_text b ++ (39 ∷ behind)) (Ok (1, length (character_text b)))
one_characters b behind h =
    let t = character_text b in (
      (
        length t,
        ap (λ k. behind_quoted k 0) (one_quoted b (39 ∷ behind) h) ∙ ap (λ (n : ℕ). Some n) (no_zero (length t)),
        refl,
      ),
      ap (λ z. quoted 39 z) (drop-append_seam t (39 ∷ behind)),
    )

constant_reading : (b : ℕ) (behind : List ℕ) → nat_le b 255 ≡ true → ◌≡◌ {A = Reading} (Ok (Some (class.Character (cast_signed w8 b), length (constant_text b)))) (character_of (character_text b ++ (39 ∷ behind)) (Ok (1, length (character_text b))))
constant_reading b behind h =
    ap (λ n. Ok (Some (class.Character (cast_signed w8 b), n))) (between (character_text b) 39)
    ∙ sym (ap (λ k. one_character k (length (character_text b))) (one_quoted b (39 ∷ behind) h))

constant_read : (b : ℕ) (behind : List ℕ) → nat_le b 255 ≡ true → IsRead (Lexemes.Character (cast_signed w8 b)) (constant_text b) behind
constant_read b behind h =
    let t = character_text b in
    let r : Reading = Ok (Some (class.Character (cast_signed w8 b), length (constant_text b))) in
    let e : t ++ (39 ∷ behind) ≡ (t ++ 39 ∷ []) ++ behind = sym (append_assoc t (39 ∷ []) behind) in
    record {
      class = class.Character (cast_signed w8 b);
      no_gap = λ p. refl;
      reads = (Ok (1, length t), subst (λ (z : List ℕ). Characters 39 z (Ok (1, length t))) e (one_characters b behind h), subst (λ (z : List ℕ). r ≡ character_of z (Ok (1, length t))) e (constant_reading b behind h));
      lexeme = refl;
    }

signed_byte : (b : ℕ) → b ≤ 255 → cast_unsigned w32 (cast_signed w8 b) % 256 ≡ b
signed_byte b h = by (nat_lt b 128)
  where
    by : (t : Bool) → cast_unsigned w32 (if t then pos b else negsuc (256 - suc b)) % 256 ≡ b
    by true = omega arith
    by false = omega arith

pub read_constant : (v : ℤ) (b : ℕ) (behind : List ℕ) → nat_le b 255 ≡ true → v ≡ cast_signed w8 b → IsRead (Lexemes.Character v) (lexeme_text (Lexemes.Character v)) behind
read_constant v b behind h e =
    let f : cast_unsigned w32 v % 256 ≡ b = ap (λ z. cast_unsigned w32 z % 256) e ∙ signed_byte b (byte_bound b h) in
    subst (λ z. IsRead (Lexemes.Character v) (constant_text z) behind) (sym f) (subst (λ z. IsRead (Lexemes.Character z) (constant_text b) behind) (sym e) (constant_read b behind h))
