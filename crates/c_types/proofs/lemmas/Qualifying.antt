-- Laws of types under qualifiers, whose sets are bits: no qualifiers, and the order in which they are joined.
use Rattle.std.proofs.Common.{◌≡◌, ◌+◌, ℕ, max, refl, sym, ap, ◌∙◌, arith}
use Rattle.std.specs.Prelude.{bit_or}
use Rattle.std.specs.Int.{bit_at}
use Rattle.std.proofs.lemmas.Nat.Bits.{bit_at_or, bit_at-zero, same_from_bits}
use Rattle.c_types.specs.CType.{CType, Plain, Array, qualify, depth}

max_zero : (a : ℕ) → max a 0 ≡ a
max_zero a = omega arith

max_assoc : (a b c : ℕ) → max (max a b) c ≡ max a (max b c)
max_assoc a b c = omega arith

pub or_none : (a : ℕ) → bit_or a 0 ≡ a
or_none a = same_from_bits (bit_or a 0) a (λ i. bit_at_or a 0 i ∙ ap (λ z. max (bit_at a i) z) (bit_at-zero i) ∙ max_zero (bit_at a i))

pub or_assoc : (a b c : ℕ) → bit_or (bit_or a b) c ≡ bit_or a (bit_or b c)
or_assoc a b c =
    same_from_bits (bit_or (bit_or a b) c) (bit_or a (bit_or b c)) (λ i.
    bit_at_or (bit_or a b) c i ∙ ap (λ z. max z (bit_at c i)) (bit_at_or a b i) ∙ max_assoc (bit_at a i) (bit_at b i) (bit_at c i)
    ∙ sym (bit_at_or a (bit_or b c) i ∙ ap (λ z. max (bit_at a i) z) (bit_at_or b c i)))

pub qualify_none : (t : CType) → qualify 0 t ≡ t
qualify_none (Plain q k) = ap (λ z. Plain z k) (or_none q)
qualify_none (Array t n) = ap (λ z. Array z n) (qualify_none t)

pub qualify_twice : (p q : ℕ) (t : CType) → qualify p (qualify q t) ≡ qualify (bit_or q p) t
qualify_twice p q (Plain r k) = ap (λ z. Plain z k) (or_assoc r q p)
qualify_twice p q (Array t n) = ap (λ z. Array z n) (qualify_twice p q t)

-- qualifiers don't make a type deeper
pub depth_qualify : (q : ℕ) (t : CType) → depth (qualify q t) ≡ depth t
depth_qualify q (Plain p k) = refl
depth_qualify q (Array t n) = ap (λ z. 1 + z) (depth_qualify q t)
