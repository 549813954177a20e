-- An index times the size of an element.
use Rattle.std.proofs.Common.{◌≡◌, ◌≤◌, ◌<◌, ℕ, zero, suc, ◌*◌, ◌%◌, ◌^◌, ◌==◌, nat_lt, ℤ, pos, Bool, true, false, Some, None, refl, ap, sym, subst, ◌∙◌, arith}
use Rattle.std.specs.Prelude.{◌*ℤ◌, if◌then◌else◌}
use Rattle.std.specs.Int.RustNames.{unsigned_abs}
use Rattle.std.proofs.lemmas.Bool.{eqb-true}
use Rattle.objects.specs.declared.value.Value.TheVariants.{Number}
use Rattle.objects.specs.Arithmetic.{signed_of}
use Rattle.forests.specs.Actions.{Gave, gave}
use Rattle.forests.specs.Words.{Word, Plain}
use Rattle.c_rows_agree.specs.Templates.{Template, Scene, Gives}
use Rattle.c_rows_agree.specs.Typed.{Typed, as_i}
use Rattle.c_pointers_agree.specs.Pointers.{Scaling, Single, Shifted, Multiplied, exponent_in, shifted_or_multiplied, scaling_of, scaled_by, scaled}
use Rattle.c_pointers_agree.proofs.lemmas.Signed.{counted, index_scaled}
use Rattle.c_rows_agree.proofs.lemmas.Suffixes.{i_gives, i_constant}

-- ---- how a size is taken

-- an index is scaled by this size
abbrev pub IsBy : Scaling → ℕ → Type 0
IsBy Single size = size ≡ 1
IsBy (Shifted count) size = (count ≤ 31) × (size ≡ 2 ^ count)
IsBy (Multiplied n) size = (n ≡ size) × (size < 2 ^ 32)

exponent_is : (k n : ℕ) → k ≤ 31 → n < 2 ^ 32 → IsBy (shifted_or_multiplied (exponent_in k n) n) n
exponent_is zero n l h = (refl, h)
exponent_is (suc k) n l h =
    elim (n == 2 ^ suc k) as (λ b. (n == 2 ^ suc k) ≡ b → IsBy (shifted_or_multiplied (if b then Some (suc k) else exponent_in k n) n) n) [
      | true ↦ (λ e. (l, eqb-true n (2 ^ suc k) e))
      | false ↦ (λ e. exponent_is k n (omega (arith, l)) h)
    ] refl

pub scaling_is : (size : ℕ) → size < 2 ^ 32 → IsBy (scaling_of size) size
scaling_is size h =
    elim (size == 1) as (λ b. (size == 1) ≡ b → IsBy (if b then Single else shifted_or_multiplied (exponent_in 31 size) size) size) [
      | true ↦ (λ e. eqb-true size 1 e)
      | false ↦ (λ e. exponent_is 31 size (omega arith) h)
    ] refl

-- ---- what it gives

-- a word that is a multiple of the index
abbrev multiple : ℕ → ℕ → Word
multiple n size = Plain (Number ((n * size) % 2 ^ 32))

few : (count : ℕ) → count ≤ 31 → nat_lt 31 count ≡ false
few count h = grind (arith, h)

below_word : (count : ℕ) → count ≤ 31 → count < 2 ^ 32
below_word count h = omega (arith, h)

scaled_by_gives : (k : Scene) (s : Scaling) (t : Template) (n size : ℕ) → IsBy s size → n < 2 ^ 32 → Gives k t (Plain (Number n)) → Gives k (scaled_by s t) (multiple n size)
scaled_by_gives k Single t n size by h g =
    let one : n ≡ (n * 1) % 2 ^ 32 = omega (arith, h) in
    let same : n ≡ (n * size) % 2 ^ 32 = one ∙ sym (ap (λ (x : ℕ). (n * x) % 2 ^ 32) by) in
    subst (λ (x : ℕ). Gives k t (Plain (Number x))) same g
scaled_by_gives k (Shifted count) t n size by h g = (
  Plain (Number n),
  Plain (Number count),
  g,
  i_constant k count (below_word count by.0),
  ap (λ (b : Bool). gave (if b then None else Some (multiple n (2 ^ count)))) (few count by.0) ∙ ap (λ (x : ℕ). Gave (multiple n x)) (sym by.1),
)
scaled_by_gives k (Multiplied m) t n size by h g = (
  Plain (Number n),
  Plain (Number m),
  g,
  i_constant k m (subst (λ (x : ℕ). x < 2 ^ 32) (sym by.0) by.1),
  ap (λ (x : ℕ). Gave (multiple n x)) by.0,
)

-- The index as a signed or unsigned integer times the size, where that isn't too large to be a signed word.
pub record IsScaled (k : Scene) (size : ℕ) (b : Typed) (z : ℤ) : Type 0 where
  pub word : ℕ
  pub gives : Gives k (scaled size b) (Plain (Number word))
  pub is : signed_of word ≡ z

pub index_is_scaled : (k : Scene) (signed : Bool) (size n : ℕ) (b : Typed) → size < 2 ^ 32 → n < 2 ^ 32 → Gives k b.tree (Plain (Number n)) → unsigned_abs (pos size *ℤ counted signed n) < 2 ^ 31 → IsScaled k size b (pos size *ℤ counted signed n)
index_is_scaled k signed size n b small h g near = record {
  word = (n * size) % 2 ^ 32;
  gives = scaled_by_gives k (scaling_of size) (as_i b) n size (scaling_is size small) h (i_gives k b.suffix b.tree (Plain (Number n)) g);
  is = index_scaled signed n size h near;
}
