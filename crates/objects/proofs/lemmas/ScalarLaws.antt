-- Laws of scalars: what was written is read back as the value converted to its type, in each width and order; and a word
-- that was written by halves.
use Rattle.std.specs.Prelude.{◌≡◌, ◌<◌, ℕ, ◌+◌, ◌-◌, ◌*◌, ◌%◌, ◌^◌, ◌==◌, ◌&&◌, Bool, true, false, nat_lt, ◌++◌, Ok, if◌then◌else◌}
use Rattle.std.proofs.Common.{refl, arith, ap, cond, ◌∙◌}
use Rattle.std.proofs.lemmas.Bool.{eq-eqb}
use Rattle.lcc_base.specs.declared.order.Order.{Order}
use Rattle.lcc_base.specs.declared.order.Order.TheVariants.{Big, Little}
use Rattle.lcc_base.specs.NumberIn.{number_in}
use Rattle.objects.specs.declared.value.ObjectName.{ObjectName}
use Rattle.objects.specs.declared.value.Value.{Value}
use Rattle.objects.specs.declared.value.Value.TheVariants.{Number, Pointer, Function}
use Rattle.objects.specs.declared.width.Width.{Width}
use Rattle.objects.specs.declared.width.Width.TheVariants.{One, Two, Four}
use Rattle.objects.specs.declared.width.Scalar.{Scalar}
use Rattle.objects.specs.Values.{bits_in, same_object, same_whole}
use Rattle.objects.specs.Bytes.{number_bytes, part_bytes}
use Rattle.objects.specs.Conversions.{sign_extended, extended, as_type, converted}
use Rattle.objects.specs.Scalars.{scalar_bytes, scalar_of}
use Rattle.objects.specs.NumberLaws.{by_order}
use Rattle.objects.proofs.lemmas.NumberLaws.{number_of_one, number_of_two, number_of_four, number_of_halves}

-- the low bits of a number's low bits
extended_low : (signed : Bool) (bits m n : ℕ) → m % 2 ^ bits ≡ n % 2 ^ bits → extended signed bits m ≡ extended signed bits n
extended_low signed bits m n e = ap (λ (low : ℕ). if signed then sign_extended bits low else low) e

number_back : (order : Order) (w : Width) (signed : Bool) (n : ℕ) → scalar_of order (record { width = w; signed = signed }) (scalar_bytes order w (Number n)) ≡ Ok (Number (extended signed (bits_in w) n))
number_back Big One signed n = ap (λ (m : ℕ). Ok (Number m)) (extended_low signed 8 (number_in Big (number_bytes Big 1 n)) n (omega (arith, number_of_one Big n)))
number_back Big Two signed n = ap (λ (m : ℕ). Ok (Number m)) (extended_low signed 16 (number_in Big (number_bytes Big 2 n)) n (omega (arith, number_of_two Big n)))
number_back Big Four signed n = ap (λ (m : ℕ). Ok (Number m)) (extended_low signed 32 (number_in Big (number_bytes Big 4 n)) n (omega (arith, number_of_four Big n)))
number_back Little One signed n = ap (λ (m : ℕ). Ok (Number m)) (extended_low signed 8 (number_in Little (number_bytes Little 1 n)) n (omega (arith, number_of_one Little n)))
number_back Little Two signed n = ap (λ (m : ℕ). Ok (Number m)) (extended_low signed 16 (number_in Little (number_bytes Little 2 n)) n (omega (arith, number_of_two Little n)))
number_back Little Four signed n = ap (λ (m : ℕ). Ok (Number m)) (extended_low signed 32 (number_in Little (number_bytes Little 4 n)) n (omega (arith, number_of_four Little n)))

both_true : (a b : Bool) → a ≡ true → b ≡ true → (a && b) ≡ true
both_true a b p q = cc

same_again : (name : ObjectName) → same_object name name ≡ true
same_again name =
    both_true (name.place == name.place) _ (eq-eqb name.place name.place refl)
    (both_true (name.made == name.made) _ (eq-eqb name.made name.made refl) (eq-eqb name.size name.size refl))

-- the four bytes of a value that is the same as itself are it
whole_back : (order : Order) (signed : Bool) (v : Value) → same_whole v v ≡ true → scalar_of order (record { width = Four; signed = signed }) (part_bytes order v) ≡ Ok (as_type (record { width = Four; signed = signed }) v)
whole_back Big signed v e = rw e refl
whole_back Little signed v e = rw e refl

pointer_back : (order : Order) (signed : Bool) (object : ObjectName) (offset : ℕ) → scalar_of order (record { width = Four; signed = signed }) (part_bytes order (Pointer object offset)) ≡ Ok (Pointer object offset)
pointer_back order signed object offset = whole_back order signed (Pointer object offset) (both_true _ _ (same_again object) (eq-eqb offset offset refl))

function_back : (order : Order) (signed : Bool) (f : ℕ) → scalar_of order (record { width = Four; signed = signed }) (part_bytes order (Function f)) ≡ Ok (Function f)
function_back order signed f = whole_back order signed (Function f) (eq-eqb f f refl)

by_width : (w : Width) (signed : Bool) (n : ℕ) → Ok (Number (extended signed (bits_in w) n)) ≡ converted (record { width = w; signed = signed }) (Number n)
by_width One signed n = refl
by_width Two signed n = refl
by_width Four signed n = refl

pointer_by : (order : Order) (width : Width) (signed : Bool) (object : ObjectName) (offset : ℕ) (w : Value) → converted (record { width = width; signed = signed }) (Pointer object offset) ≡ Ok w → scalar_of order (record { width = width; signed = signed }) (part_bytes order (Pointer object offset)) ≡ Ok w
pointer_by order One signed object offset w e = cc
pointer_by order Two signed object offset w e = cc
pointer_by order Four signed object offset w e = pointer_back order signed object offset ∙ e

function_by : (order : Order) (width : Width) (signed : Bool) (f : ℕ) (w : Value) → converted (record { width = width; signed = signed }) (Function f) ≡ Ok w → scalar_of order (record { width = width; signed = signed }) (part_bytes order (Function f)) ≡ Ok w
function_by order One signed f w e = cc
function_by order Two signed f w e = cc
function_by order Four signed f w e = function_back order signed f ∙ e

-- a number is converted to any type
converted_number : (s : Scalar) (n : ℕ) → Ok (Number (extended s.signed (bits_in s.width) n)) ≡ converted s (Number n)
converted_number s n = by_width s.width s.signed n

pointer_converted : (order : Order) (s : Scalar) (object : ObjectName) (offset : ℕ) (w : Value) → converted s (Pointer object offset) ≡ Ok w → scalar_of order s (part_bytes order (Pointer object offset)) ≡ Ok w
pointer_converted order s object offset w e = pointer_by order s.width s.signed object offset w e

function_converted : (order : Order) (s : Scalar) (f : ℕ) (w : Value) → converted s (Function f) ≡ Ok w → scalar_of order s (part_bytes order (Function f)) ≡ Ok w
function_converted order s f w e = function_by order s.width s.signed f w e

-- what was written is read back as the value converted to the type
pub read_back : (order : Order) (s : Scalar) (v w : Value) → converted s v ≡ Ok w → scalar_of order s (scalar_bytes order s.width v) ≡ Ok w
read_back order s (Number n) w e = number_back order s.width s.signed n ∙ converted_number s n ∙ e
read_back order s (Pointer object offset) w e = pointer_converted order s object offset w e
read_back order s (Function f) w e = function_converted order s f w e

signed_word : (m n : ℕ) → m ≡ n → n < 2 ^ 32 → sign_extended 32 (m % 2 ^ 32) ≡ n
signed_word m n e h = elim (nat_lt (m % 2 ^ 32) (2 ^ 31)) as (λ b. cond b (m % 2 ^ 32) (m % 2 ^ 32 + (2 ^ 32 - 2 ^ 32)) ≡ n) [ true ↦ omega arith | false ↦ omega arith ]

-- a word's low bits are it
whole_word : (signed : Bool) (m n : ℕ) → m ≡ n → n < 2 ^ 32 → extended signed 32 m ≡ n
whole_word true m n e h = signed_word m n e h
whole_word false m n e h = omega arith

-- a word that was written by halves is read as the word of these halves
pub halves_read : (order : Order) (signed : Bool) (a b : ℕ) → scalar_of order (record { width = Four; signed = signed }) (scalar_bytes order Two (Number a) ++ scalar_bytes order Two (Number b)) ≡ Ok (Number (by_order order (a % 2 ^ 16 * 2 ^ 16 + b % 2 ^ 16) (b % 2 ^ 16 * 2 ^ 16 + a % 2 ^ 16)))
halves_read Big signed a b = ap (λ (m : ℕ). Ok (Number m)) (whole_word signed _ _ (number_of_halves Big a b) (omega arith))
halves_read Little signed a b = ap (λ (m : ℕ). Ok (Number m)) (whole_word signed _ _ (number_of_halves Little a b) (omega arith))
