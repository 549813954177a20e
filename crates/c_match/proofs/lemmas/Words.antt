-- The bytes of words that stand for values of C stand for the values' bytes.
use Rattle.std.specs.Prelude.{◌≡◌, ℕ, ◌+◌, ◌%◌, ◌^◌, List, [], ◌∷◌}
use Rattle.std.proofs.Common.{refl, sym, subst, arith}
use Rattle.lcc_base.specs.declared.order.Order.{Order}
use Rattle.lcc_base.specs.declared.order.Order.TheVariants.{Big, Little}
use Rattle.objects.specs.declared.value.Value.{Value}
use Rattle.objects.specs.declared.value.Value.TheVariants.{Number, Pointer, Function}
use Rattle.objects.specs.declared.width.Width.{Width}
use Rattle.objects.specs.declared.width.Width.TheVariants.{One, Two, Four}
use Rattle.objects.specs.Values.{bytes_in, bits_in}
use Rattle.objects.specs.Bytes.{known_bytes, number_bytes, part_bytes}
use Rattle.objects.specs.Scalars.{scalar_bytes}
use Rattle.forests.proofs.lemmas.SoundBytes.{and_full_byte}
use Rattle.forests.specs.WordBytes.{word_bytes}
use Rattle.forests.specs.Words.{Word, Plain}
use Rattle.c_match.specs.Ranges.{Map}
use Rattle.c_match.specs.Values.{IsValue}
use Rattle.c_match.specs.Bytes.{AreBytesOf}
use Rattle.c_match.proofs.lemmas.Scalars.{AreSmall}

-- known bytes stand for the same bytes
pub same_known : (map : Map) (vs : List ℕ) → AreSmall vs → AreBytesOf map (known_bytes vs) (known_bytes vs)
same_known map [] h = tt
same_known map (v ∷ vs) h = ((refl, and_full_byte v h.0), same_known map vs h.1)

pub number_small : (order : Order) (width : Width) (n : ℕ) → AreSmall (number_bytes order (bytes_in width) n)
number_small Big One n = (omega arith, tt)
number_small Little One n = (omega arith, tt)
number_small Big Two n = (omega arith, (omega arith, tt))
number_small Little Two n = (omega arith, (omega arith, tt))
number_small Big Four n = (omega arith, (omega arith, (omega arith, (omega arith, tt))))
number_small Little Four n = (omega arith, (omega arith, (omega arith, (omega arith, tt))))

parts_are : (map : Map) (order : Order) (v : Value) (w : Word) → IsValue map v w → AreBytesOf map (part_bytes order v) (part_bytes order w)
parts_are map Big v w h = ((h, refl), ((h, refl), ((h, refl), ((h, refl), tt))))
parts_are map Little v w h = ((h, refl), ((h, refl), ((h, refl), ((h, refl), tt))))

pub word_has_bytes : (map : Map) (order : Order) (v : Value) (w : Word) → IsValue map v w → AreBytesOf map (scalar_bytes order Four v) (word_bytes order w)
word_has_bytes map order (Number n) w h =
    subst (λ (x : Word). AreBytesOf map (known_bytes (number_bytes order 4 n)) (word_bytes order x)) (sym h)
    (same_known map (number_bytes order 4 n) (number_small order Four n))
word_has_bytes map order (Pointer object offset) w h =
    subst (λ (x : Word). AreBytesOf map (part_bytes order (Pointer object offset)) (word_bytes order x)) (sym h.2)
    (parts_are map order (Pointer object offset) (Plain (Pointer h.0.object (h.0.start + offset))) (h.0, h.1, refl))
word_has_bytes map order (Function f) w h =
    subst (λ (x : Word). AreBytesOf map (part_bytes order (Function f)) (word_bytes order x)) (sym h)
    (parts_are map order (Function f) (Plain (Function f)) refl)

-- ---- narrower numbers

same_one : (a b : ℕ) → a ≡ b → a ∷ [] ≡ b ∷ []
same_one a b e = cc

same_two : (a b c d : ℕ) → a ≡ c → b ≡ d → a ∷ b ∷ [] ≡ c ∷ d ∷ []
same_two a b c d e f = cc

same_four : (a b c d e f g h : ℕ) → a ≡ e → b ≡ f → c ≡ g → d ≡ h → a ∷ b ∷ c ∷ d ∷ [] ≡ e ∷ f ∷ g ∷ h ∷ []
same_four a b c d e f g h p q r s = cc

-- the bytes of a number are those of its low bits
pub low_bytes_are : (order : Order) (width : Width) (n : ℕ) → number_bytes order (bytes_in width) (n % 2 ^ bits_in width) ≡ number_bytes order (bytes_in width) n
low_bytes_are Big One n = same_one _ _ (omega arith)
low_bytes_are Little One n = same_one _ _ (omega arith)
low_bytes_are Big Two n = same_two _ _ _ _ (omega arith) (omega arith)
low_bytes_are Little Two n = same_two _ _ _ _ (omega arith) (omega arith)
low_bytes_are Big Four n = same_four _ _ _ _ _ _ _ _ (omega arith) (omega arith) (omega arith) (omega arith)
low_bytes_are Little Four n = same_four _ _ _ _ _ _ _ _ (omega arith) (omega arith) (omega arith) (omega arith)

pub number_has_bytes : (map : Map) (order : Order) (width : Width) (n : ℕ) → AreBytesOf map (known_bytes (number_bytes order (bytes_in width) n)) (known_bytes (number_bytes order (bytes_in width) (n % 2 ^ bits_in width)))
number_has_bytes map order width n =
    subst (λ (vs : List ℕ). AreBytesOf map (known_bytes (number_bytes order (bytes_in width) n)) (known_bytes vs)) (sym (low_bytes_are order width n))
    (same_known map (number_bytes order (bytes_in width) n) (number_small order width n))
