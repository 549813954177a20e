-- One limit at most is told.
use Rattle.std.proofs.Common.{◌≡◌, ◌<◌, ◌≤◌, ◌⊎◌, inl, inr, ℕ, zero, suc, List, [], ◌∷◌, take, refl, sym, ap, ◌∙◌, arith}
use Rattle.std.specs.Prelude.{Some, slice_get}
use Rattle.std.proofs.lemmas.Bool.{cases_lt}
use Rattle.lowering_limits.specs.declared.lower_fault.LowerFault.TheVariants as fault
use Rattle.lowering_limits.specs.Limits.{AreAtMost, IsFirstAbove, NoneWithin, OneLimit, frame_counts, most, node_counts}

-- each of them is at most the limit
at_most : (limit : ℕ) (ns : List ℕ) (k n : ℕ) → AreAtMost limit ns → slice_get ns k ≡ Some n → n ≤ limit
at_most limit [] k n h e = absurd cc
at_most limit (m ∷ ns) zero n h e = let same : m ≡ n = cc in let l = h.0 in omega (arith, same, l)
at_most limit (m ∷ ns) (suc k) n h e = at_most limit ns k n h.1 e

before_most : (limit : ℕ) (ns : List ℕ) (p k n : ℕ) → AreAtMost limit (take p ns) → k < p → slice_get ns k ≡ Some n → n ≤ limit
before_most limit [] p k n h l e = absurd cc
before_most limit (m ∷ ns) zero k n h l e = absurd (omega (arith, l))
before_most limit (m ∷ ns) (suc p) zero n h l e = let same : m ≡ n = cc in let b = h.0 in omega (arith, same, b)
before_most limit (m ∷ ns) (suc p) (suc k) n h l e = before_most limit ns p k n h.1 (omega (arith, l)) e

none_above : (limit : ℕ) (ns : List ℕ) (p n : ℕ) → AreAtMost limit ns → IsFirstAbove limit ns p n → ⊥
none_above limit ns p n h f = let l = at_most limit ns p n h f.is in let a = f.above in omega (arith, l, a)

same_place : (limit : ℕ) (ns : List ℕ) (p q n m : ℕ) → IsFirstAbove limit ns p n → IsFirstAbove limit ns q m → p ≡ q
same_place limit ns p q n m f g = by (cases_lt p q) (cases_lt q p) where
  by : (p < q) ⊎ (q ≤ p) → (q < p) ⊎ (p ≤ q) → p ≡ q
  by (inl l) o = absurd (let b = before_most limit ns q p n g.before l f.is in let a = f.above in omega (arith, a, b))
  by (inr l) (inl k) = absurd (let b = before_most limit ns p q m f.before k g.is in let a = g.above in omega (arith, a, b))
  by (inr l) (inr k) = omega (arith, l, k)

same_number : (limit : ℕ) (ns : List ℕ) (p q n m : ℕ) → IsFirstAbove limit ns p n → IsFirstAbove limit ns q m → n ≡ m
same_number limit ns p q n m f g =
    let e : Some n ≡ Some m = sym f.is ∙ ap (slice_get ns) (same_place limit ns p q n m f g) ∙ g.is in
    cc

pub one_limit : OneLimit
one_limit u fault.Memory b h k = inl refl
one_limit u (fault.FrameLimit f n) fault.Memory h k = inr (inl refl)
one_limit u (fault.DataLimit n) fault.Memory h k = inr (inl refl)
one_limit u (fault.NodeLimit f n) fault.Memory h k = inr (inl refl)
one_limit u (fault.FrameLimit f n) (fault.FrameLimit g m) h k = inr (inr (ap (λ p. fault.FrameLimit p n) (same_place most (frame_counts u) f g n m h k) ∙ ap (fault.FrameLimit g) (same_number most (frame_counts u) f g n m h k)))
one_limit u (fault.FrameLimit f n) (fault.DataLimit m) h k = absurd (none_above most (frame_counts u) f n k.0 h)
one_limit u (fault.FrameLimit f n) (fault.NodeLimit g m) h k = absurd (none_above most (frame_counts u) f n k.0 h)
one_limit u (fault.DataLimit n) (fault.FrameLimit g m) h k = absurd (none_above most (frame_counts u) g m h.0 k)
one_limit u (fault.DataLimit n) (fault.DataLimit m) h k = inr (inr (ap fault.DataLimit (h.1.0 ∙ sym k.1.0)))
one_limit u (fault.DataLimit n) (fault.NodeLimit g m) h k = absurd (let a = h.1.1 in let b = k.1 in omega (arith, a, b))
one_limit u (fault.NodeLimit f n) (fault.FrameLimit g m) h k = absurd (none_above most (frame_counts u) g m h.0 k)
one_limit u (fault.NodeLimit f n) (fault.DataLimit m) h k = absurd (let a = k.1.1 in let b = h.1 in omega (arith, a, b))
one_limit u (fault.NodeLimit f n) (fault.NodeLimit g m) h k = inr (inr (ap (λ p. fault.NodeLimit p n) (same_place most (node_counts u) f g n m h.2 k.2) ∙ ap (fault.NodeLimit g) (same_number most (node_counts u) f g n m h.2 k.2)))

pub none_within : NoneWithin
none_within u (fault.FrameLimit f n) w h = absurd (none_above most (frame_counts u) f n w.frames h)
none_within u (fault.DataLimit n) w h = absurd (let a = h.1.1 in let b = w.bytes in omega (arith, a, b))
none_within u fault.Memory w h = refl
none_within u (fault.NodeLimit f n) w h = absurd (none_above most (node_counts u) f n w.nodes h.2)
