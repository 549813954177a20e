-- Values of registers and slots, where one was changed and elsewhere.
use Rattle.std.proofs.Common.{◌≡◌, ℕ, ◌-◌, pos, List, [], ◌∷◌, ◌++◌, Bool, true, false, ◌||◌, refl, ap, ◌∙◌, arith}
use Rattle.std.specs.Prelude.{◌==◌, if◌then◌else◌}
use Rattle.std.proofs.lemmas.Bool.{leb-true, eq-eqb, ne_eqb, both_ways, or_parts}
use Rattle.forests.specs.Words.{Word}
use Rattle.vcode.specs.declared.operand.Operand.{Operand}
use Rattle.vcode.specs.Execution.{with_value, first_of, rest_of, written, without}
use Rattle.vcode.specs.VirtualCode.{is_virtual, among}
use Rattle.slot_allocator.specs.Slots.{slot_of}

pub value_at : (f : ℕ → Word) (r : ℕ) (w : Word) → with_value f r w r ≡ w
value_at f r w = rw (eq-eqb r r refl) refl

pub value_off : (f : ℕ → Word) (r : ℕ) (w : Word) (q : ℕ) → (q ≡ r → ⊥) → with_value f r w q ≡ f q
value_off f r w q ne = rw (ne_eqb q r ne) refl

pub value_same : (f g : ℕ → Word) (r : ℕ) (w : Word) (q : ℕ) → f q ≡ g q → with_value f r w q ≡ with_value g r w q
value_same f g r w q e = ap (λ x. if q == r then w else x) e

pub kept_value : (lost : ℕ → Bool) (f : ℕ → Word) (q : ℕ) → lost q ≡ false → without lost f q ≡ f q
kept_value lost f q e = rw e refl

pos_same : (a b : ℕ) → pos a ≡ pos b → a ≡ b
pos_same a b e = cc

-- two virtual registers don't share a slot
pub slots_differ : (q r : ℕ) → is_virtual q ≡ true → is_virtual r ≡ true → (q ≡ r → ⊥) → slot_of q ≡ slot_of r → ⊥
slots_differ q r vq vr ne e =
    let p = pos_same (q - 64) (r - 64) e in
    let a = leb-true 64 q vq in
    let b = leb-true 64 r vr in
    let same : q ≡ r = omega (arith, p, a, b) in
    ne same

pub among_append : (q : ℕ) (xs ys : List ℕ) → among q (xs ++ ys) ≡ (among q xs || among q ys)
among_append q [] ys = refl
among_append q (x ∷ xs) ys = either (q == x) (among q xs) (among q ys) (among q (xs ++ ys)) (among_append q xs ys)
  where
    either : (a b c d : Bool) → d ≡ (b || c) → (a || d) ≡ ((a || b) || c)
    either true b c d e = refl
    either false b c d e = e

pub not_first : (q r : ℕ) (rs : List ℕ) → among q (r ∷ rs) ≡ false → (q ≡ r → ⊥)
not_first q r rs e h = both_ways (q == r) (or_parts (q == r) (among q rs) e).0 (eq-eqb q r h)

pub not_later : (q r : ℕ) (rs : List ℕ) → among q (r ∷ rs) ≡ false → among q rs ≡ false
not_later q r rs e = (or_parts (q == r) (among q rs) e).1

pub among_none : (q r : ℕ) (rs : List ℕ) → (q ≡ r → ⊥) → among q rs ≡ false → among q (r ∷ rs) ≡ false
among_none q r rs ne e = rw (ne_eqb q r ne, e) refl

-- no operand is this register
abbrev pub OthersThan : ℕ → List Operand → Type 0
OthersThan q [] = Unit {0}
OthersThan q (o ∷ os) = (q ≡ o.reg → ⊥) × OthersThan q os

written_off_one : (w : Bool) (r : ℕ) (os : List Operand) (ws : List Word) (f : ℕ → Word) (q : ℕ) → (q ≡ r → ⊥) → ((us : List Word) (g : ℕ → Word) → written os us g q ≡ g q) → (if w then written os (rest_of ws) (with_value f r (first_of ws)) else written os ws f) q ≡ f q
written_off_one true r os ws f q ne h = h (rest_of ws) (with_value f r (first_of ws)) ∙ value_off f r (first_of ws) q ne
written_off_one false r os ws f q ne h = h ws f

-- a register that the operands don't name keeps its value
pub written_off : (os : List Operand) (ws : List Word) (f : ℕ → Word) (q : ℕ) → OthersThan q os → written os ws f q ≡ f q
written_off [] ws f q h = refl
written_off (o ∷ os) ws f q h = written_off_one o.written o.reg os ws f q h.0 (λ us g. written_off os us g q h.1)

written_same_one : (w : Bool) (r : ℕ) (os : List Operand) (ws : List Word) (f g : ℕ → Word) (q : ℕ) → f q ≡ g q → ((us : List Word) (f' g' : ℕ → Word) → f' q ≡ g' q → written os us f' q ≡ written os us g' q) → (if w then written os (rest_of ws) (with_value f r (first_of ws)) else written os ws f) q ≡ (if w then written os (rest_of ws) (with_value g r (first_of ws)) else written os ws g) q
written_same_one true r os ws f g q e h = h (rest_of ws) (with_value f r (first_of ws)) (with_value g r (first_of ws)) (value_same f g r (first_of ws) q e)
written_same_one false r os ws f g q e h = h ws f g e

-- where a register has one value before, it has one afterwards
pub written_same : (os : List Operand) (ws : List Word) (f g : ℕ → Word) (q : ℕ) → f q ≡ g q → written os ws f q ≡ written os ws g q
written_same [] ws f g q e = e
written_same (o ∷ os) ws f g q e = written_same_one o.written o.reg os ws f g q e (λ us f' g' e'. written_same os us f' g' q e')
