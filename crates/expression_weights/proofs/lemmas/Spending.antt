-- What is so of prices where a node is used once more, where uses are dropped, and where a node or a root is added.
use Rattle.std.proofs.Common.{◌≡◌, ⊎_elim, ℕ, zero, suc, ◌+◌, ◌*◌, ◌≤◌, Bool, true, false, true≢false, List, [], ◌∷◌, ◌++◌, inl, inr, refl, sym, ap, ◌∙◌, subst, arith}
use Rattle.std.specs.Prelude.{◌⊎◌, ◌&&◌, ◌||◌, not, if◌then◌else◌}
use Rattle.std.proofs.lemmas.Bool.{cases_eq}
use Rattle.dag_forest.specs.declared.act.Act.{Act}
use Rattle.dag_forest.specs.declared.act.Act.TheVariants.{Made, Acts}
use Rattle.dag_forest.specs.declared.kids.Kids.{Kids}
use Rattle.dag_forest.specs.declared.kids.Kids.TheVariants.{Zero, One, Two}
use Rattle.dag_forest.specs.declared.parts.Parts.{Parts}
use Rattle.dag_forest.specs.Choice.{hits, in_kids, counts, late, ends_stretch, is_above, is_computed}
use Rattle.dag_forest.specs.Emission.{AreOnce}
use Rattle.dag_forest.specs.Entries.{is_call}
use Rattle.dag_forest.specs.Schedules.{at, kids_of}
use Rattle.dag_forest.proofs.lemmas.Maps.{at_new, at_old, still_made}
use Rattle.dag_seam.specs.Rooms.{AreActs}
use Rattle.dag_seam.proofs.lemmas.Acts.{IsAny}
use Rattle.dag_sizes.specs.Sizes.{store_size, read_size}
use Rattle.dag_sizes.proofs.lemmas.Uses.{hit, miss}
use Rattle.dag_sizes.proofs.lemmas.Weighing.{grows}
use Rattle.expression_weights.specs.Prices.{price, priced, has_end, MayBeLight, AreLight}
use Rattle.expression_weights.proofs.lemmas.Priced.{with_use, IsCheap}

-- ---- one use more of a node

other_price : (n m : ℕ) (light : ℕ → Bool) (due : ℕ → ℕ) (x : Parts) (c : ℕ) → (m ≡ n → ⊥) → price (at light n false m) x (c + (due m + hits m n)) ≡ price (light m) x (c + due m)
other_price n m light due x c ne =
    let h = miss m n ne in
    let q : due m + hits m n ≡ due m = omega (arith, h) in
    λ i. price (at_old light n false m ne i) x (c + q i)

-- where no act makes it
same_without : (n : ℕ) (light : ℕ → Bool) (due : ℕ → ℕ) (xs : List Act) (made : ℕ → Bool) → AreOnce xs made → made n ≡ true
    → priced (at light n false) (with_use n due) xs ≡ priced light due xs
same_without n light due [] made once h = refl
same_without n light due (Made m x ∷ xs) made once h =
    let a = other_price n m light due x (counts xs m) (λ e. true≢false (sym h ∙ ap made (sym e) ∙ once.0)) in
    let b = same_without n light due xs (at made m true) once.1 (still_made made m n h) in
    omega (arith, a, b)
same_without n light due (Acts x ∷ xs) made once h = let b = same_without n light due xs made once h in omega (arith, b)

pub spent_price : (k n : ℕ) (light : ℕ → Bool) (due : ℕ → ℕ) (xs : List Act) (made : ℕ → Bool) → AreOnce xs made → AreLight light due xs → AreActs (λ m x. m ≡ n → IsCheap k x) IsAny xs
    → priced (at light n false) (with_use n due) xs ≤ priced light due xs + k
spent_price k n light due [] made once may cheap = omega arith
spent_price k n light due (Made m x ∷ xs) made once may cheap = ⊎_elim
    (λ e.
    let h = hit m n e in
    let here = cheap.0 e (light m) (counts xs m + due m) (λ q. let f = (may.0 q).few in f) in
    let q : counts xs m + (due m + hits m n) ≡ (counts xs m + due m) + 1 = omega (arith, h) in
    let a : price (at light n false m) x (counts xs m + (due m + hits m n)) ≡ price false x ((counts xs m + due m) + 1) = (λ i. price ((ap (at light n false) e ∙ at_new light n false) i) x (q i)) in
    let b = same_without n light due xs (at made m true) once.1 (ap (at made m true) (sym e) ∙ at_new made m true) in
    omega (arith, here, a, b))
    (λ ne.
    let a = other_price n m light due x (counts xs m) ne in
    let b = spent_price k n light due xs (at made m true) once.1 may.1 cheap.1 in
    omega (arith, a, b))
    (cases_eq m n)
spent_price k n light due (Acts x ∷ xs) made once may cheap = let b = spent_price k n light due xs made once may cheap.1 in omega (arith, b)

pub spent_light : (n : ℕ) (light : ℕ → Bool) (due : ℕ → ℕ) (xs : List Act) → AreLight light due xs → AreLight (at light n false) (with_use n due) xs
spent_light n light due [] may = tt
spent_light n light due (Made m x ∷ xs) may = (
  (λ q. ⊎_elim
      (λ e. absurd (true≢false (sym q ∙ ap (at light n false) e ∙ at_new light n false)))
      (λ ne.
      let o = may.0 (sym (at_old light n false m ne) ∙ q) in
      let h = miss m n ne in
      record {
        plain = o.plain;
        few = (let f = o.few in omega (arith, f, h));
        early = o.early;
        open_ = λ u. o.open_ (omega (arith, u, h));
      })
      (cases_eq m n)),
  spent_light n light due xs may.1,
)
spent_light n light due (Acts x ∷ xs) may = spent_light n light due xs may

-- ---- uses that are dropped

less_price : (b : Bool) (x : Parts) (c d : ℕ) → c ≤ d → price b x c ≤ price b x d
less_price true x c d l = omega arith
less_price false x c d l = by (is_computed x)
  where
    by : (q : Bool) → (if q then 1 + store_size x.operator.suffix + read_size x.operator.suffix * c else c) ≤ (if q then 1 + store_size x.operator.suffix + read_size x.operator.suffix * d else d)
    by true = let g = grows (read_size x.operator.suffix) c d l in omega (arith, g)
    by false = l

pub dropped_price : (light : ℕ → Bool) (due due1 : ℕ → ℕ) (xs : List Act) → ((m : ℕ) → due1 m ≤ due m) → priced light due1 xs ≤ priced light due xs
dropped_price light due due1 [] less = omega arith
dropped_price light due due1 (Made m x ∷ xs) less =
    let l = less m in
    let a = less_price (light m) x (counts xs m + due1 m) (counts xs m + due m) (omega (arith, l)) in
    let b = dropped_price light due due1 xs less in
    omega (arith, a, b)
dropped_price light due due1 (Acts x ∷ xs) less = let b = dropped_price light due due1 xs less in omega (arith, b)

pub dropped_light : (light : ℕ → Bool) (due due1 : ℕ → ℕ) (xs : List Act) → ((m : ℕ) → due1 m ≤ due m) → AreLight light due xs → AreLight light due1 xs
dropped_light light due due1 [] less may = tt
dropped_light light due due1 (Made m x ∷ xs) less may = (
  (λ q.
      let o = may.0 q in
      let l = less m in
      record { plain = o.plain; few = (let f = o.few in omega (arith, f, l)); early = o.early; open_ = λ u. o.open_ (omega (arith, u, l)) }),
  dropped_light light due due1 xs less may.1,
)
dropped_light light due due1 (Acts x ∷ xs) less may = dropped_light light due due1 xs less may

-- ---- one act more

counts_with : (xs : List Act) (a : Act) (m : ℕ) → counts (xs ++ a ∷ []) m ≡ counts xs m + in_kids (kids_of a) m
counts_with [] a m = omega arith
counts_with (b ∷ xs) a m = let e = counts_with xs a m in omega (arith, e)

above_not : (c : ℕ) → is_above c ≡ false → c ≡ 0
above_not zero h = refl
above_not (suc c) h = absurd (true≢false h)

late_with : (xs : List Act) (a : Act) (m : ℕ) → late xs m ≡ false → (1 ≤ in_kids (kids_of a) m → has_end xs ≡ false) → late (xs ++ a ∷ []) m ≡ false
late_with [] a m e h = by (ends_stretch a)
  where
    by : (q : Bool) → (if q then false else false) ≡ false
    by true = refl
    by false = refl
late_with (b ∷ xs) a m e h = by (ends_stretch b) e h (λ f g. late_with xs a m f g)
  where
    none : (j : ℕ) → (1 ≤ j → true ≡ false) → j ≡ 0
    none zero h = refl
    none (suc j) h = absurd (true≢false (h (omega arith)))

    by : (q : Bool) → (if q then is_above (counts xs m) else late xs m) ≡ false → (1 ≤ in_kids (kids_of a) m → (q || has_end xs) ≡ false)
        → (late xs m ≡ false → (1 ≤ in_kids (kids_of a) m → has_end xs ≡ false) → late (xs ++ a ∷ []) m ≡ false)
        → (if q then is_above (counts (xs ++ a ∷ []) m) else late (xs ++ a ∷ []) m) ≡ false
    by true e h go =
        let z = above_not (counts xs m) e in
        let w = counts_with xs a m in
        let k : in_kids (kids_of a) m ≡ 0 = none (in_kids (kids_of a) m) h in
        let c : counts (xs ++ a ∷ []) m ≡ 0 = omega (arith, z, w, k) in
        ap is_above c
    by false e h go = go e h

end_with : (xs : List Act) (a : Act) → has_end xs ≡ false → ends_stretch a ≡ false → has_end (xs ++ a ∷ []) ≡ false
end_with [] a h e = λ i. e i || false
end_with (b ∷ xs) a h e = by (ends_stretch b) h (λ f. end_with xs a f e)
  where
    by : (q : Bool) → (q || has_end xs) ≡ false → (has_end xs ≡ false → has_end (xs ++ a ∷ []) ≡ false) → (q || has_end (xs ++ a ∷ [])) ≡ false
    by true h go = absurd (true≢false h)
    by false h go = go h

-- Nodes before the act are so, as by their numbers; they have their uses, and those by the act are no longer to come.
abbrev pub SameFor : (ℕ → Type 0) → Act → (ℕ → Bool) → (ℕ → Bool) → (ℕ → ℕ) → (ℕ → ℕ) → Type 0
SameFor P a light light1 due due1 = (m : ℕ) → P m → (light1 m ≡ light m) × (in_kids (kids_of a) m + due1 m ≡ due m)

abbrev pub AllNumbers : (ℕ → Type 0) → List Act → Type 0
AllNumbers P xs = AreActs (λ m x. P m) IsAny xs

pub price_with : (P : ℕ → Type 0) (a : Act) (light light1 : ℕ → Bool) (due due1 : ℕ → ℕ) (xs : List Act) → SameFor P a light light1 due due1 → AllNumbers P xs
    → priced light1 due1 (xs ++ a ∷ []) ≡ priced light due xs + priced light1 due1 (a ∷ [])
price_with P a light light1 due due1 [] same new = omega arith
price_with P a light light1 due due1 (Made m x ∷ xs) same new =
    let s = same m new.0 in
    let w = counts_with xs a m in
    let q : counts (xs ++ a ∷ []) m + due1 m ≡ counts xs m + due m = (let e = s.1 in omega (arith, w, e)) in
    let p : price (light1 m) x (counts (xs ++ a ∷ []) m + due1 m) ≡ price (light m) x (counts xs m + due m) = (λ i. price (s.0 i) x (q i)) in
    let r = price_with P a light light1 due due1 xs same new.1 in
    omega (arith, p, r)
price_with P a light light1 due due1 (Acts x ∷ xs) same new = let r = price_with P a light light1 due due1 xs same new.1 in omega (arith, r)

-- behind an end no use of a light node is to come
abbrev pub EndsFree : (ℕ → Type 0) → Act → (ℕ → Bool) → (ℕ → ℕ) → Type 0
EndsFree P a light1 due1 = ends_stretch a ≡ true → (m : ℕ) → P m → light1 m ≡ true → due1 m ≡ 0

no_end : (b : Bool) (d : ℕ) → (b ≡ true → d ≡ 0) → 1 ≤ d → b ≡ false
no_end true d z u = let e = z refl in absurd (omega (arith, e, u))
no_end false d z u = refl

pub light_with : (P : ℕ → Type 0) (a : Act) (light light1 : ℕ → Bool) (due due1 : ℕ → ℕ) (xs : List Act) → SameFor P a light light1 due due1 → AllNumbers P xs → EndsFree P a light1 due1
    → AreLight light due xs → AreLight light1 due1 (a ∷ []) → AreLight light1 due1 (xs ++ a ∷ [])
light_with P a light light1 due due1 [] same new ends may own = own
light_with P a light light1 due due1 (Made m x ∷ xs) same new ends may own = (
  (λ q.
      let s = same m new.0 in
      let o = may.0 (sym s.0 ∙ q) in
      let w = counts_with xs a m in
      let e = s.1 in
      record {
        plain = o.plain;
        few = (let f = o.few in omega (arith, f, w, e));
        early = late_with xs a m o.early (λ u. o.open_ (omega (arith, u, e)));
        open_ = λ u. end_with xs a (o.open_ (omega (arith, u, e))) (no_end (ends_stretch a) (due1 m) (λ z. ends z m new.0 q) u);
      }),
  light_with P a light light1 due due1 xs same new.1 ends may.1 own,
)
light_with P a light light1 due due1 (Acts x ∷ xs) same new ends may own = light_with P a light light1 due due1 xs same new.1 ends may own
