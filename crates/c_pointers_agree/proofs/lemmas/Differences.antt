-- Two pointers subtracted: bytes between them, divided by the size of an element.
use Rattle.std.proofs.Common.{◌≡◌, ◌≤◌, ◌<◌, ℕ, ◌+◌, ◌-◌, ◌%◌, ◌^◌, ℤ, pos, ◌-ℤ◌, ◌==◌, ◌||◌, ◌&&◌, not, Bool, true, false, Option, Some, Result, Ok, Err, List, [], ◌∷◌, refl, ap, sym, subst, ◌∙◌, arith}
use Rattle.std.specs.Prelude.{int_div, int_rem, if◌then◌else◌}
use Rattle.std.specs.Int.{cast_unsigned, w32, int_wrap}
use Rattle.std.specs.Int.RustNames.{unsigned_abs, FitsSigned}
use Rattle.std.proofs.Math.Facts.{Fits-of_lt, sfits_to_z}
use Rattle.std.proofs.lemmas.Bool.{eqb-true, eq-eqb, ne_eqb, true≢false}
use Rattle.std.proofs.lemmas.Int.{ints, to_z-of_z, of_z-to_z, fits_signed_from_abs, rem_below}
use Rattle.lcc_base.specs.declared.cause.Cause.{Cause}
use Rattle.lcc_base.specs.declared.cause.Cause.TheVariants.{Dead, PointerOrder, ZeroDivisor, DivideOverflow}
use Rattle.objects.specs.declared.operators.Binary.TheVariants.{Divide}
use Rattle.objects.specs.declared.value.ObjectName.{ObjectName}
use Rattle.objects.specs.declared.value.Value.{Value}
use Rattle.objects.specs.declared.value.Value.TheVariants.{Number, Pointer, Function}
use Rattle.objects.specs.Arithmetic.{signed_of, word_of}
use Rattle.objects.specs.Causes.{first_cause, unless, is_dead, is_no_multiple}
use Rattle.objects.specs.Objects.{Object as Old}
use Rattle.objects.specs.Pointers.{bytes_between, subtracted}
use Rattle.objects.specs.Values.{same_object}
use Rattle.op_forest.specs.declared.op.Op.TheVariants as op
use Rattle.op_forest.specs.declared.suffix.Suffix.TheVariants.{I, U}
use Rattle.forests.specs.Accesses.{defined}
use Rattle.forests.specs.Actions.{gave}
use Rattle.forests.specs.Addresses.{plain}
use Rattle.forests.proofs.lemmas.BitLaws.{signed_low}
use Rattle.forests.specs.Numbers.{of_two}
use Rattle.forests.specs.Objects.{shapes}
use Rattle.forests.specs.Words.{Word, Plain}
use Rattle.c_match.specs.Values.{StaysInside}
use Rattle.c_match_objects.proofs.lemmas.Compared.{pointers_subtracted}
use Rattle.c_rows_agree.specs.Templates.{Scene, Gives}
use Rattle.c_rows_agree.specs.Typed.{Typed, Holds, as_i, over_two, constant_i}
use Rattle.c_pointers_agree.specs.Pointers.{between, difference}
use Rattle.c_pointers_agree.specs.Held.{HoldsShort}
use Rattle.c_pointers_agree.proofs.lemmas.Near.{live_short}
use Rattle.c_pointers_agree.proofs.lemmas.Signed.{quotient_is, divided_by_one}
use Rattle.c_rows_agree.proofs.lemmas.Suffixes.{i_gives, u_gives, i_constant}

or_first : (a b : Bool) → (a || b) ≡ false → a ≡ false
or_first true b e = absurd (let never : ⊥ = cc in never)
or_first false b e = refl

or_rest : (a b : Bool) → (a || b) ≡ false → b ≡ false
or_rest true b e = absurd (let never : ⊥ = cc in never)
or_rest false b e = e

-- ---- what C's difference says

-- two pointers into one object that both live, or two numbers; and the size isn't 0
abbrev pub elements_between : ℤ → ℕ → Value
elements_between z size = Number (cast_unsigned w32 (int_wrap w32 (int_div z (pos size))))

abbrev by_tests : Bool → Bool → ℤ → ℕ → Result Value Cause
by_tests dead apart z size = unless (first_cause ((dead, Dead) ∷ (apart, PointerOrder) ∷ (is_no_multiple z size, PointerOrder) ∷ [])) (elements_between z size)

record Subtracts (dead apart : Bool) (z : ℤ) (size : ℕ) (d : Value) : Type 0 where
  pub live : dead ≡ false
  pub one : apart ≡ false
  pub some : (size ≡ 0) → ⊥
  pub is : elements_between z size ≡ d

multiple_of_some : (z : ℤ) (size : ℕ) → is_no_multiple z size ≡ false → size ≡ 0 → ⊥
multiple_of_some z size e zero_size =
    let f : is_no_multiple z 0 ≡ false = ap (λ (x : ℕ). is_no_multiple z x) (sym zero_size) ∙ e in
    true≢false f

subtracts : (dead apart : Bool) (z : ℤ) (size : ℕ) (d : Value) → by_tests dead apart z size ≡ Ok d → Subtracts dead apart z size d
subtracts true apart z size d e = absurd (let never : ⊥ = cc in never)
subtracts false true z size d e = absurd (let never : ⊥ = cc in never)
subtracts false false z size d e =
    elim (is_no_multiple z size) as (λ b. is_no_multiple z size ≡ b → Subtracts false false z size d) [
      | true ↦ (λ m. absurd (let f : Err PointerOrder ≡ Ok d = sym (ap (λ (b : Bool). unless (first_cause ((b, PointerOrder) ∷ [])) (elements_between z size)) m) ∙ e in let never : ⊥ = cc in never))
      | false ↦ (λ m. record { live = refl; one = refl; some = multiple_of_some z size m; is = (let f : Ok (elements_between z size) ≡ Ok d = sym (ap (λ (b : Bool). unless (first_cause ((b, PointerOrder) ∷ [])) (elements_between z size)) m) ∙ e in cc) })
    ] refl

-- in bytes
every_multiple : (z : ℤ) → is_no_multiple z 1 ≡ false
every_multiple z =
    let below : unsigned_abs (int_rem z (pos 1)) < 1 = rem_below z (pos 1) (omega arith) in
    ap (λ (b : Bool). not b) (eq-eqb (unsigned_abs (int_rem z (pos 1))) 0 (omega (arith, below)))

bytes_subtract : (dead apart : Bool) (z : ℤ) → dead ≡ false → apart ≡ false → by_tests dead apart z 1 ≡ Ok (elements_between z 1)
bytes_subtract dead apart z e f =
    ap (λ (b : Bool). by_tests b apart z 1) e
    ∙ ap (λ (b : Bool). by_tests false b z 1) f
    ∙ ap (λ (b : Bool). unless (first_cause ((b, PointerOrder) ∷ [])) (elements_between z 1)) (every_multiple z)

-- ---- quotients

by_causes : Bool → Bool → ℕ → Option Word
by_causes zero_divisor overflow n = plain (defined (unless (first_cause ((zero_divisor, ZeroDivisor) ∷ (overflow, DivideOverflow) ∷ [])) (Number n)))

last_false : (a b : Bool) → b ≡ false → (a && b) ≡ false
last_false true b e = e
last_false false b e = refl

-- a signed number divided by a size
divides : (m size : ℕ) (z : ℤ) → signed_of m ≡ z → FitsSigned w32 z → 0 < size → size < 2 ^ 31 → of_two true Divide (Plain (Number m)) (Plain (Number size)) ≡ Some (Plain (elements_between z size))
unfolding by_causes
divides m size z e fits some small =
    let n = word_of (int_div (signed_of m) (signed_of size)) in
    let no_zero : (size == 0) ≡ false = ne_eqb size 0 (λ (f : size ≡ 0). let never : ⊥ = omega (arith, some, f) in never) in
    let no_overflow : ((m == 2 ^ 31) && (size == 2 ^ 32 - 1)) ≡ false = last_false (m == 2 ^ 31) (size == 2 ^ 32 - 1) (ne_eqb size (2 ^ 32 - 1) (λ (f : size ≡ 2 ^ 32 - 1). let never : ⊥ = omega (arith, small, f) in never)) in
    let is : n ≡ cast_unsigned w32 (int_wrap w32 (int_div z (pos size))) = ap (λ (x : ℤ). word_of (int_div x (signed_of size))) e ∙ ap (λ (x : ℤ). word_of (int_div z x)) (signed_low size small) ∙ sym (quotient_is z size fits some) in
    ap (λ (b : Bool). by_causes b ((m == 2 ^ 31) && (size == 2 ^ 32 - 1)) n) no_zero
    ∙ ap (λ (b : Bool). by_causes false b n) no_overflow
    ∙ ap (λ (x : ℕ). Some (Plain (Number x))) is

-- ---- bytes between two pointers

-- a template of the word of a signed number
record IsBetween (k : Scene) (t : Typed) (z : ℤ) : Type 0 where
  pub word : ℕ
  pub gives : Gives k t.tree (Plain (Number word))
  pub signed : signed_of word ≡ z
  pub is : word ≡ word_of z
  pub fits : FitsSigned w32 z

by_size : (k : Scene) (a b : Typed) (z : ℤ) (size : ℕ) → IsBetween k (between a b) z → (size ≡ 0 → ⊥) → size < 2 ^ 31 → Holds k (difference size a b) (elements_between z size)
by_size k a b z size h some small =
    elim (size == 1) as (λ t. (size == 1) ≡ t → Holds k (if t then between a b else record { tree = over_two op.Div I (as_i (between a b)) (constant_i size); suffix = I }) (elements_between z size)) [
      | true ↦ (λ e. record {
        word = Plain (Number h.word);
        gives = h.gives;
        is = ap (λ (n : ℕ). Plain (Number n)) (h.is ∙ sym (ap (λ (n : ℕ). cast_unsigned w32 (int_wrap w32 (int_div z (pos n)))) (eqb-true size 1 e) ∙ quotient_is z 1 h.fits (omega arith) ∙ ap (λ (x : ℤ). word_of x) (divided_by_one z)));
      })
      | false ↦ (λ e. record {
        word = Plain (elements_between z size);
        gives = (Plain (Number h.word), Plain (Number size), i_gives k U (between a b).tree (Plain (Number h.word)) h.gives, i_constant k size (omega (arith, small)), ap gave (divides h.word size z h.signed h.fits (positive size some) small));
        is = refl;
      })
    ] refl
  where
    positive : (n : ℕ) → (n ≡ 0 → ⊥) → 0 < n
    positive n f = omega (arith, f)

-- two numbers
numbers_between : (k : Scene) (a b : Typed) (x y : ℕ) → Holds k a (Number x) → Holds k b (Number y) → IsBetween k (between a b) (signed_of ((x + 2 ^ 32 - y) % 2 ^ 32))
numbers_between k a b x y ha hb =
    let m = (x + 2 ^ 32 - y) % 2 ^ 32 in
    let below : m < 2 ^ 32 = omega arith in
    record {
      word = m;
      gives = (Plain (Number x), Plain (Number y), u_gives k a.suffix a.tree (Plain (Number x)) (subst (λ (w : Word). Gives k a.tree w) ha.is ha.gives), u_gives k b.suffix b.tree (Plain (Number y)) (subst (λ (w : Word). Gives k b.tree w) hb.is hb.gives), refl);
      signed = refl;
      is = sym (of_z-to_z w32 m below);
      fits = sfits_to_z {w = w32} {n = m} (Fits-of_lt {w = w32} {n = m} below);
    }

-- two places in short objects
places_near : (x y m n : ℕ) → x ≤ m → y ≤ n → m < 2 ^ 31 → n < 2 ^ 31 → unsigned_abs (pos x -ℤ pos y) < 2 ^ 31
places_near x y m n a b c d = omega (arith, ints, a, b, c, d)

pointers_between : (k : Scene) (old : List Old) (a b : Typed) (m n : ObjectName) (x y : ℕ) → HoldsShort k old → x ≤ m.size → y ≤ n.size → Holds k a (Pointer m x) → Holds k b (Pointer n y) → (is_dead old (Pointer m x) || is_dead old (Pointer n y)) ≡ false → not (same_object m n) ≡ false → IsBetween k (between a b) (pos x -ℤ pos y)
pointers_between k old a b m n x y h ix iy ha hb live one =
    let z = pos x -ℤ pos y in
    let d = elements_between z 1 in
    let p = Pointer ha.is.0.object (ha.is.0.start + x) in
    let q = Pointer hb.is.0.object (hb.is.0.start + y) in
    let c : subtracted old 1 (Pointer m x) (Pointer n y) ≡ Ok d = bytes_subtract (is_dead old (Pointer m x) || is_dead old (Pointer n y)) (not (same_object m n)) z live one in
    let s = pointers_subtracted k.map old k.objects 1 (Pointer m x) (Pointer n y) d (Plain p) (Plain q) h.held (ha.is.0, ha.is.1, refl) (hb.is.0, hb.is.1, refl) c in
    let first : s.0 ≡ p = (let e = s.2 in cc) in
    let second : s.1 ≡ q = (let e = s.3 in cc) in
    let there : subtracted (shapes k.objects) 1 p q ≡ Ok d = sym (ap (λ (v : Value). subtracted (shapes k.objects) 1 v s.1) first ∙ ap (λ (v : Value). subtracted (shapes k.objects) 1 p v) second) ∙ s.4 in
    let near = places_near x y m.size n.size ix iy (live_short old m x h.short (or_first (is_dead old (Pointer m x)) (is_dead old (Pointer n y)) live)) (live_short old n y h.short (or_rest (is_dead old (Pointer m x)) (is_dead old (Pointer n y)) live)) in
    let fits : FitsSigned w32 z = fits_signed_from_abs w32 z near in
    let word = cast_unsigned w32 (int_wrap w32 (int_div z (pos 1))) in
    let is : word ≡ word_of z = quotient_is z 1 fits (omega arith) ∙ ap (λ (v : ℤ). word_of v) (divided_by_one z) in
    record {
      word = word;
      gives = (Plain p, Plain q, u_gives k a.suffix a.tree (Plain p) (subst (λ (w : Word). Gives k a.tree w) ha.is.2 ha.gives), u_gives k b.suffix b.tree (Plain q) (subst (λ (w : Word). Gives k b.tree w) hb.is.2 hb.gives), ap (λ (r : Result Value Cause). gave (plain (defined r))) there);
      signed = ap (λ (n : ℕ). signed_of n) is ∙ to_z-of_z w32 z fits;
      is = is;
      fits = fits;
    }

by_between : (k : Scene) (a b : Typed) (dead apart : Bool) (z : ℤ) (size : ℕ) (d : Value) → size < 2 ^ 31 → by_tests dead apart z size ≡ Ok d → (dead ≡ false → apart ≡ false → IsBetween k (between a b) z) → Holds k (difference size a b) d
by_between k a b dead apart z size d small e h =
    let s = subtracts dead apart z size d e in
    subst (λ (v : Value). Holds k (difference size a b) v) s.is (by_size k a b z size (h s.live s.one) s.some small)

pub differences_agree : (k : Scene) (old : List Old) (size : ℕ) (a b : Typed) (p q d : Value) → HoldsShort k old → size < 2 ^ 31 → StaysInside p → StaysInside q → Holds k a p → Holds k b q → subtracted old size p q ≡ Ok d → Holds k (difference size a b) d
differences_agree k old size a b (Number x) (Number y) d h small ip iq ha hb e = by_between k a b false false (signed_of ((x + 2 ^ 32 - y) % 2 ^ 32)) size d small e (λ live one. numbers_between k a b x y ha hb)
differences_agree k old size a b (Pointer m x) (Pointer n y) d h small ip iq ha hb e = by_between k a b (is_dead old (Pointer m x) || is_dead old (Pointer n y)) (not (same_object m n)) (pos x -ℤ pos y) size d small e (λ live one. pointers_between k old a b m n x y h ip iq ha hb live one)
differences_agree k old size a b (Number x) (Pointer n y) d h small ip iq ha hb e = absurd (true≢false (subtracts (false || is_dead old (Pointer n y)) true (bytes_between (Number x) (Pointer n y)) size d e).one)
differences_agree k old size a b (Number x) (Function g) d h small ip iq ha hb e = absurd (true≢false (subtracts false true (bytes_between (Number x) (Function g)) size d e).one)
differences_agree k old size a b (Pointer m x) (Number y) d h small ip iq ha hb e = absurd (true≢false (subtracts (is_dead old (Pointer m x) || false) true (bytes_between (Pointer m x) (Number y)) size d e).one)
differences_agree k old size a b (Pointer m x) (Function g) d h small ip iq ha hb e = absurd (true≢false (subtracts (is_dead old (Pointer m x) || false) true (bytes_between (Pointer m x) (Function g)) size d e).one)
differences_agree k old size a b (Function f) (Number y) d h small ip iq ha hb e = absurd (true≢false (subtracts false true (bytes_between (Function f) (Number y)) size d e).one)
differences_agree k old size a b (Function f) (Pointer n y) d h small ip iq ha hb e = absurd (true≢false (subtracts (false || is_dead old (Pointer n y)) true (bytes_between (Function f) (Pointer n y)) size d e).one)
differences_agree k old size a b (Function f) (Function g) d h small ip iq ha hb e = absurd (true≢false (subtracts false true (bytes_between (Function f) (Function g)) size d e).one)
