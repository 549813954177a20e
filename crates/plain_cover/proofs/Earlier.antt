-- Lists that agree on their first places are compared by the rest.
use Rattle.std.proofs.Common.{◌≡◌, ℕ, suc, ◌+◌, ◌<◌, ◌≤◌, ◌≢◌, List, [], ◌∷◌, length, get_or, drop, sym, ap, ◌∙◌, arith, subst, inl, inr, ⊎_elim}
use Rattle.std.proofs.Math.Seq.{drop-cons}
use Rattle.std.proofs.lemmas.List.{drop_all}
use Rattle.lburg_model.specs.Best.{Earlier}

pub record Agree (a b : List ℕ) (i : ℕ) : Type 0 where
  pub within : i ≤ length b
  pub fore : Earlier a b → Earlier (drop i a) (drop i b)
  pub back : Earlier (drop i a) (drop i b) → Earlier a b

none_before_nil : (xs : List ℕ) → Earlier xs [] → ⊥
none_before_nil [] h = h
none_before_nil (x ∷ xs) h = h

opened : (a b : List ℕ) (i : ℕ) → i < length a → i < length b → Earlier (drop i a) (drop i b) ≡ Earlier (get_or a i 0 ∷ drop (suc i) a) (get_or b i 0 ∷ drop (suc i) b)
opened a b i h k = ap (λ (z : List ℕ). Earlier z (drop i b)) (drop-cons a i 0 h) ∙ ap (Earlier (get_or a i 0 ∷ drop (suc i) a)) (drop-cons b i 0 k)

pub agree_start : (a b : List ℕ) → Agree a b 0
agree_start a b = record { within = omega arith; fore = λ h. h; back = λ h. h }

pub agree_next : (a b : List ℕ) (i : ℕ) → i < length a → i ≢ length b → Agree a b i → get_or a i 0 ≡ get_or b i 0 → Agree a b (i + 1)
agree_next a b i h ne g e =
    let w = g.within in
    let k : i < length b = omega arith in
    let P : ℕ → Type 0 = λ j. Agree a b j in
    let o = opened a b i h k in
    subst P (let s : suc i ≡ i + 1 = omega arith in s)
    (record {
      within = k;
      fore = λ x. ⊎_elim (λ (lt : get_or a i 0 < get_or b i 0). absurd (omega arith)) (λ y. y.1) (subst (λ (T : Type 0). T) o (g.fore x));
      back = λ x. g.back (subst (λ (T : Type 0). T) (sym o) (inr (e, x)));
    })

pub agree_differ : (a b : List ℕ) (i : ℕ) → i < length a → i ≢ length b → Agree a b i → get_or a i 0 ≢ get_or b i 0 → (Earlier a b → get_or a i 0 < get_or b i 0) × (get_or a i 0 < get_or b i 0 → Earlier a b)
agree_differ a b i h ne g d =
    let w = g.within in
    let k : i < length b = omega arith in
    let o = opened a b i h k in (
      λ x. ⊎_elim (λ lt. lt) (λ y. absurd (d y.0)) (subst (λ (T : Type 0). T) o (g.fore x)),
      λ lt. g.back (subst (λ (T : Type 0). T) (sym o) (inl lt)),
    )

pub agree_end : (a b : List ℕ) (i : ℕ) → Agree a b i → i ≡ length b → Earlier a b → ⊥
agree_end a b i g e x = none_before_nil (drop i a) (subst (Earlier (drop i a)) (drop_all i b (omega arith)) (g.fore x))

pub agree_all : (a b : List ℕ) (i : ℕ) → Agree a b i → length a ≤ i → Earlier a b → ⊥
agree_all a b i g h x = let y : Earlier [] (drop i b) = subst (λ (z : List ℕ). Earlier z (drop i b)) (drop_all i a h) (g.fore x) in y
