-- Operations on one and two numbers.
use Rattle.std.specs.Prelude.{◌≡◌, ◌<◌, ℕ, ◌^◌, ◌&&◌, ◌||◌, nat_lt, Bool, true, false, Some, None, [], ◌∷◌, Result, Ok, if◌then◌else◌}
use Rattle.std.proofs.Common.{refl, sym, ap, subst, ◌∙◌}
use Rattle.lcc_base.specs.declared.cause.Cause.{Cause}
use Rattle.lcc_base.specs.declared.cause.Cause.TheVariants.{ZeroDivisor, DivideOverflow, ShiftCount, PointerNumber}
use Rattle.objects.specs.declared.operators.Unary.{Unary}
use Rattle.objects.specs.declared.operators.Unary.TheVariants as unary
use Rattle.objects.specs.declared.operators.Binary.{Binary}
use Rattle.objects.specs.declared.operators.Binary.TheVariants as binary
use Rattle.objects.specs.declared.value.Value.{Value}
use Rattle.objects.specs.declared.value.Value.TheVariants.{Number}
use Rattle.objects.specs.declared.width.Scalar.{Scalar}
use Rattle.objects.proofs.lemmas.AccessLaws.{first_not, first_rest, unless_none, unless_same}
use Rattle.objects.specs.Accesses.{number_or_zero}
use Rattle.objects.specs.Arithmetic.{unary_word, binary_word, is_division, is_shift, unary_value, binary_cause, binary_value}
use Rattle.objects.specs.Conversions.{as_type}
use Rattle.objects.specs.Causes.{first_cause, unless, is_zero, overflows, is_no_count, is_no_number}
use Rattle.forests.specs.Accesses.{defined}
use Rattle.forests.specs.Actions.{Action, Gave, gave}
use Rattle.forests.specs.Addresses.{plain}
use Rattle.forests.specs.Bits.{complemented}
use Rattle.forests.specs.Numbers.{of_one}
use Rattle.forests.specs.Rows.{acts}
use Rattle.forests.specs.Sound.{IsSoundEnvironment}
use Rattle.forests.specs.SoundRows.{IsSoundAction}
use Rattle.forests.proofs.lemmas.SoundRows.{acts_sound}
use Rattle.forests.specs.Words.{Word, Plain, IsWord}
use Rattle.c_match.specs.Values.{IsValue}
use Rattle.c_rows_agree.specs.Templates.{Scene}
use Rattle.c_rows_agree.specs.Typed.{Typed, Holds, head, suffix_by}
use Rattle.c_rows_agree.specs.Integers.{converted_to, unary_of, operator_of, has_sign, right_sign, binary_of}
use Rattle.c_rows_agree.proofs.lemmas.Conversions.{number_of_value, word_of_number, type_holds}
use Rattle.c_rows_agree.proofs.lemmas.Suffixes.{i_gives, u_gives, by_gives}

-- ---- C's operands are numbers

pub neither : (a b : Bool) → (a || b) ≡ false → (a ≡ false) × (b ≡ false)
neither true b e = absurd (let never : ⊥ = cc in never)
neither false b e = (refl, e)

pub both_numbers : (signed : Bool) (o : Binary) (v w u : Value) → binary_value signed o v w ≡ Ok u → (is_no_number v ≡ false) × (is_no_number w ≡ false)
both_numbers signed o v w u e =
    let last = (is_no_number v || is_no_number w, PointerNumber) ∷ [] in
    let third = (is_shift o && is_no_count w, ShiftCount) ∷ last in
    let second = (is_division o && (signed && overflows v w), DivideOverflow) ∷ third in
    let none = unless_none (binary_cause signed o v w) (Number (binary_word signed o (number_or_zero v) (number_or_zero w))) u e in
    let none2 = first_rest (is_division o && is_zero w) ZeroDivisor second none in
    let none3 = first_rest (is_division o && (signed && overflows v w)) DivideOverflow third none2 in
    let none4 = first_rest (is_shift o && is_no_count w) ShiftCount last none3 in
    neither (is_no_number v) (is_no_number w) (first_not (is_no_number v || is_no_number w) PointerNumber [] none4)

-- ---- rows over numbers

-- what C defines is what the row gives
defined_word : (r : Result Value Cause) (u : Value) → r ≡ Ok u → gave (plain (defined r)) ≡ Gave (Plain u)
defined_word r u e = ap (λ (x : Result Value Cause). gave (plain (defined x))) e

abbrev fine : Value → Result Value Cause
fine v = Ok v

same_value : (v u : Value) → fine v ≡ fine u → v ≡ u
same_value v u e = cc

given : (n : ℕ) (u : Value) → fine (Number n) ≡ fine u → Gave (Plain (Number n)) ≡ Gave (Plain u)
given n u e = ap (λ (x : Value). Gave (Plain x)) (same_value (Number n) u e)

counted : (far : Bool) (n : ℕ) (u : Value) → unless (if far then Some ShiftCount else None) (Number n) ≡ Ok u → gave (if far then None else Some (Plain (Number n))) ≡ Gave (Plain u)
counted true n u e = absurd (let never : ⊥ = cc in never)
counted false n u e = given n u e

-- the row of an operator over two numbers
number_row : (k : Scene) (o : Binary) (signed : Bool) (n m : ℕ) (u : Value) → binary_value signed o (Number n) (Number m) ≡ Ok u → acts k.environment (head (operator_of o) (suffix_by (has_sign signed o))) (Plain (Number n) ∷ Plain (Number m) ∷ []) k.objects ≡ Gave (Plain u)
number_row k binary.Add true n m u e = defined_word (binary_value true binary.Add (Number n) (Number m)) u e
number_row k binary.Add false n m u e = defined_word (binary_value false binary.Add (Number n) (Number m)) u e
number_row k binary.Subtract true n m u e = defined_word (binary_value true binary.Subtract (Number n) (Number m)) u e
number_row k binary.Subtract false n m u e = defined_word (binary_value false binary.Subtract (Number n) (Number m)) u e
number_row k binary.Multiply true n m u e = defined_word (binary_value true binary.Multiply (Number n) (Number m)) u e
number_row k binary.Multiply false n m u e = defined_word (binary_value false binary.Multiply (Number n) (Number m)) u e
number_row k binary.Divide true n m u e = defined_word (binary_value true binary.Divide (Number n) (Number m)) u e
number_row k binary.Divide false n m u e = defined_word (binary_value false binary.Divide (Number n) (Number m)) u e
number_row k binary.Remainder true n m u e = defined_word (binary_value true binary.Remainder (Number n) (Number m)) u e
number_row k binary.Remainder false n m u e = defined_word (binary_value false binary.Remainder (Number n) (Number m)) u e
number_row k binary.ShiftLeft true n m u e = counted (nat_lt 31 m) (binary_word true binary.ShiftLeft n m) u e
number_row k binary.ShiftLeft false n m u e = counted (nat_lt 31 m) (binary_word false binary.ShiftLeft n m) u e
number_row k binary.ShiftRight true n m u e = counted (nat_lt 31 m) (binary_word true binary.ShiftRight n m) u e
number_row k binary.ShiftRight false n m u e = counted (nat_lt 31 m) (binary_word false binary.ShiftRight n m) u e
number_row k binary.And signed n m u e = given (binary_word false binary.And n m) u e
number_row k binary.Or signed n m u e = given (binary_word false binary.Or n m) u e
number_row k binary.Xor signed n m u e = given (binary_word false binary.Xor n m) u e

-- ---- operations

result_number : (signed : Bool) (o : Binary) (v w u : Value) → binary_value signed o v w ≡ Ok u → u ≡ Number (binary_word signed o (number_or_zero v) (number_or_zero w))
result_number signed o v w u e = sym (unless_same (binary_cause signed o v w) (Number (binary_word signed o (number_or_zero v) (number_or_zero w))) u e)

pub binary_holds : (k : Scene) (o : Binary) (signed : Bool) (a b : Typed) (v w u : Value) → Holds k a v → Holds k b w → binary_value signed o v w ≡ Ok u → Holds k (binary_of o signed a b) u
binary_holds k o signed a b v w u h g e =
    let both = both_numbers signed o v w u e in
    let n = number_of_value v both.0 in
    let m = number_of_value w both.1 in
    let x = word_of_number k.map v n.0 h.word n.1 h.is in
    let y = word_of_number k.map w m.0 g.word m.1 g.is in
    let of_numbers : binary_value signed o (Number n.0) (Number m.0) ≡ Ok u = ap (λ (z : Value). binary_value signed o (Number n.0) z) (sym m.1) ∙ ap (λ (z : Value). binary_value signed o z w) (sym n.1) ∙ e in
    let h1 = head (operator_of o) (suffix_by (has_sign signed o)) in
    let is_u = result_number signed o v w u e in
    record {
      word = Plain u;
      gives = (
        h.word,
        g.word,
        by_gives k (has_sign signed o) a h.word h.gives,
        by_gives k (right_sign signed o) b g.word g.gives,
        ap (λ (z : Word). acts k.environment h1 (z ∷ g.word ∷ []) k.objects) x ∙ ap (λ (z : Word). acts k.environment h1 (Plain (Number n.0) ∷ z ∷ []) k.objects) y ∙ number_row k o signed n.0 m.0 u of_numbers,
      );
      is = subst (λ (z : Value). IsValue k.map z (Plain z)) (sym is_u) refl;
    }

one_number : (o : Unary) (v u : Value) → unary_value o v ≡ Ok u → (is_no_number v ≡ false) × (Number (unary_word o (number_or_zero v)) ≡ u)
one_number o v u e =
    let cause = first_cause ((is_no_number v, PointerNumber) ∷ []) in
    let number = Number (unary_word o (number_or_zero v)) in
    (first_not (is_no_number v) PointerNumber [] (unless_none cause number u e), unless_same cause number u e)

number_unary : (k : Scene) (o : Unary) (a : Typed) (n : ℕ) → Holds k a (Number n) → Holds k (unary_of o a) (Number (unary_word o n))
number_unary k unary.Plus a n h = h
number_unary k unary.Negate a n h = record {
  word = Plain (Number (unary_word unary.Negate n));
  gives = (h.word, i_gives k a.suffix a.tree h.word h.gives, ap (λ (x : Word). gave (of_one unary.Negate x)) h.is);
  is = refl;
}
number_unary k unary.Complement a n h = record {
  word = Plain (Number (unary_word unary.Complement n));
  gives = (h.word, u_gives k a.suffix a.tree h.word h.gives, ap (λ (x : Word). gave (complemented x)) h.is);
  is = refl;
}

pub unary_holds : (k : Scene) (o : Unary) (a : Typed) (v u : Value) → Holds k a v → unary_value o v ≡ Ok u → Holds k (unary_of o a) u
unary_holds k o a v u h e =
    let it = one_number o v u e in
    let n = number_of_value v it.0 in
    let same : Number (unary_word o n.0) ≡ u = ap (λ (z : Value). Number (unary_word o (number_or_zero z))) (sym n.1) ∙ it.1 in
    subst (λ (z : Value). Holds k (unary_of o a) z) same (number_unary k o a n.0 (subst (λ (z : Value). Holds k a z) n.1 h))

-- ---- a place's new value, of its type

-- a scene without names and objects, which operators on numbers need none of
abbrev bare : Scene → Scene
bare k = record { map = k.map; environment = record { global = λ n. None; order = k.environment.order; home = k.environment.home }; objects = []; values = k.values }

nameless : (k : Scene) → IsSoundEnvironment (bare k).environment
nameless k name v e = absurd (let never : ⊥ = cc in never)

binary_small : (k : Scene) (o : Binary) (signed : Bool) (n m : ℕ) (u : Value) → n < 2 ^ 32 → m < 2 ^ 32 → binary_value signed o (Number n) (Number m) ≡ Ok u → IsWord (Plain u)
binary_small k o signed n m u hn hm e =
    subst (λ (x : Action). IsSoundAction x) (number_row (bare k) o signed n m u e)
    (acts_sound (bare k).environment (head (operator_of o) (suffix_by (has_sign signed o))) [] (nameless k) tt (Plain (Number n) ∷ Plain (Number m) ∷ []) (hn, (hm, tt)))

pub change_holds : (k : Scene) (s : Scalar) (o : Binary) (signed : Bool) (a b : Typed) (v w u : Value) → IsWord (Plain v) → IsWord (Plain w) → Holds k a v → Holds k b w → binary_value signed o v w ≡ Ok u → Holds k (converted_to s (binary_of o signed a b)) (as_type s u)
change_holds k s o signed a b v w u hv hw h g e =
    let both = both_numbers signed o v w u e in
    let n = number_of_value v both.0 in
    let m = number_of_value w both.1 in
    let of_numbers : binary_value signed o (Number n.0) (Number m.0) ≡ Ok u = ap (λ (z : Value). binary_value signed o (Number n.0) z) (sym m.1) ∙ ap (λ (z : Value). binary_value signed o z w) (sym n.1) ∙ e in
    let small : IsWord (Plain u) = binary_small k o signed n.0 m.0 u (subst (λ (z : Value). IsWord (Plain z)) n.1 hv) (subst (λ (z : Value). IsWord (Plain z)) m.1 hw) of_numbers in
    let r = binary_word signed o (number_or_zero v) (number_or_zero w) in
    let is_u : u ≡ Number r = result_number signed o v w u e in
    let held : Holds k (binary_of o signed a b) (Number r) = subst (λ (z : Value). Holds k (binary_of o signed a b) z) is_u (binary_holds k o signed a b v w u h g e) in
    subst (λ (z : Value). Holds k (converted_to s (binary_of o signed a b)) (as_type s z)) (sym is_u)
    (type_holds k s (binary_of o signed a b) r (subst (λ (z : Value). IsWord (Plain z)) is_u small) held)
