-- Lemmas: what follows of derivations from their definition.
use Rattle.std.specs.Prelude.{◌≡◌, ℕ, ◌+◌, ◌-◌, ◌<◌, Option, Some, None, List, [], ◌∷◌, ◌++◌, map, slice_get}
use Rattle.std.proofs.Common.{refl, sym, ap, ◌∙◌, subst, inl, inr, append_assoc}
use Rattle.std.proofs.Math.Nat.{lt_irrefl, lt_trans, add_right_cancel, add-sub_cancel}
use Rattle.std.proofs.lemmas.List.{map-append}
use Rattle.lburg_model.specs.declared.rule.Rule.{Rule}
use Rattle.lburg_model.specs.Tree.{MTree}
use Rattle.lburg_model.specs.Pattern.{Goal, pattern_of, goals_at}
use Rattle.lburg_model.specs.Derivation.{MDerivation, MParts, Apply, NoPart, Part, Derives, DeriveEach, numbers, numbers_in, goals_of_rule, goals_in, applied, applied_in}
use Rattle.lburg_model.specs.Best.{Earlier, Better, ByCost, ByCount, ByNumbers, IsBestOf}
use Rattle.lburg_model.specs.Laws.{number_of}

less_not : (a b : ℕ) → a < b → a ≡ b → ⊥
less_not a b h e = let F : ℕ → Type 0 = λ z. z < b in lt_irrefl b (subst F e h)

less_once : (a b : ℕ) → a < b → b < a → ⊥
less_once a b h k = lt_irrefl a (lt_trans h k)

earlier_once : (xs ys : List ℕ) → Earlier xs ys → Earlier ys xs → ⊥
earlier_once [] ys h k = h
earlier_once (x ∷ xs) [] h k = h
earlier_once (x ∷ xs) (y ∷ ys) (inl h) (inl k) = less_once x y h k
earlier_once (x ∷ xs) (y ∷ ys) (inl h) (inr k) = less_not x y h (sym k.0)
earlier_once (x ∷ xs) (y ∷ ys) (inr h) (inl k) = less_not y x k (sym h.0)
earlier_once (x ∷ xs) (y ∷ ys) (inr h) (inr k) = earlier_once xs ys h.1 k.1

better_once : (rules : List Rule) (x y : MDerivation) → Better rules x y → Better rules y x → ⊥
better_once rules x y (ByCost h) (ByCost k) = less_once _ _ h k
better_once rules x y (ByCost h) (ByCount e k) = less_not _ _ h (sym e)
better_once rules x y (ByCost h) (ByNumbers e f k) = less_not _ _ h (sym e)
better_once rules x y (ByCount e h) (ByCost k) = less_not _ _ k (sym e)
better_once rules x y (ByCount e h) (ByCount f k) = less_once _ _ h k
better_once rules x y (ByCount e h) (ByNumbers f g k) = less_not _ _ h (sym g)
better_once rules x y (ByNumbers e f h) (ByCost k) = less_not _ _ k (sym e)
better_once rules x y (ByNumbers e f h) (ByCount g k) = less_not _ _ k (sym f)
better_once rules x y (ByNumbers e f h) (ByNumbers g i k) = earlier_once _ _ h k

-- at most one derivation is the best
pub one_best : (rules : List Rule) (n : ℕ) (t : MTree) (x y : MDerivation) → IsBestOf rules n t x → IsBestOf rules n t y → x ≡ y
one_best rules n t x y a b =
    elim (a.others y b.derives) [
      | inl e ↦ e
      | inr h ↦ elim (b.others x a.derives) [ inl e ↦ sym e | inr k ↦ absurd (better_once rules x y h k) ]
    ]

abbrev first : List ℕ → ℕ
first [] = 0
first (x ∷ xs) = x

abbrev behind : List ℕ → List ℕ
behind [] = []
behind (x ∷ xs) = xs

abbrev value_or : {A : Type 0} → A → Option A → A
value_or a None = a
value_or a (Some b) = b

-- derivations of one nonterminal at one tree whose numbers begin alike are equal, and what follows is
mutual
  pub same_front : (rules : List Rule) (n : ℕ) (t : MTree) (x y : MDerivation) (us vs : List ℕ) → Derives rules n t x → Derives rules n t y → numbers x ++ us ≡ numbers y ++ vs → (x ≡ y) × (us ≡ vs)
  same_front rules n t (Apply a xs) (Apply b ys) us vs (i, r, goals, number, is, left, met, fits, each) (j, s, goals', number', is', left', met', fits', each') e =
      let ab : a ≡ b = ap first e in
      let ij : i ≡ j = add_right_cancel 1 (sym number ∙ ab ∙ number') in
      let rs : r ≡ s = ap (value_or r) (sym is ∙ ap (slice_get rules) ij ∙ is') in
      let gg : goals ≡ goals' = ap (value_or goals) (sym fits ∙ ap (λ (z : Rule). goals_at (pattern_of z.pattern) t) rs ∙ fits') in
      let rest = same_fronts rules goals xs ys us vs each (subst (λ (z : List Goal). DeriveEach rules z ys) (sym gg) each') (ap behind e) in
      (ap (Apply a) rest.0 ∙ ap (λ (z : ℕ). Apply z ys) ab, rest.1)

  same_fronts : (rules : List Rule) (gs : List Goal) (xs ys : MParts) (us vs : List ℕ) → DeriveEach rules gs xs → DeriveEach rules gs ys → numbers_in xs ++ us ≡ numbers_in ys ++ vs → (xs ≡ ys) × (us ≡ vs)
  same_fronts rules [] NoPart NoPart us vs a b e = (refl, e)
  same_fronts rules [] NoPart (Part y ys) us vs a b e = absurd b
  same_fronts rules [] (Part x xs) ys us vs a b e = absurd a
  same_fronts rules (g ∷ gs) NoPart ys us vs a b e = absurd a
  same_fronts rules (g ∷ gs) (Part x xs) NoPart us vs a b e = absurd b
  same_fronts rules (g ∷ gs) (Part x xs) (Part y ys) us vs a b e =
      let whole = sym (append_assoc (numbers x) (numbers_in xs) us) ∙ e ∙ append_assoc (numbers y) (numbers_in ys) vs in
      let one = same_front rules g.0 g.1 x y (numbers_in xs ++ us) (numbers_in ys ++ vs) a.0 b.0 whole in
      let others = same_fronts rules gs xs ys us vs a.1 b.1 one.1 in
      (ap (λ (z : MDerivation). Part z xs) one.0 ∙ ap (Part y) others.0, others.1)

-- derivations of one nonterminal at one tree with equal numbers are equal
pub same_numbers : (rules : List Rule) (n : ℕ) (t : MTree) (x y : MDerivation) → Derives rules n t x → Derives rules n t y → numbers x ≡ numbers y → x ≡ y
same_numbers rules n t x y a b e = (same_front rules n t x y [] [] a b (ap (λ (z : List ℕ). z ++ []) e)).0

-- the rule of a derivation leaves its goals
goals_left : (rules : List Rule) (t : MTree) (number i : ℕ) (r : Rule) (goals : List Goal) → number ≡ i + 1 → slice_get rules i ≡ Some r → goals_at (pattern_of r.pattern) t ≡ Some goals → goals_in (goals_of_rule (slice_get rules (number - 1)) t) ≡ goals
goals_left rules t number i r goals e is fits =
    let j : number - 1 ≡ i = ap (λ (k : ℕ). k - 1) e ∙ add-sub_cancel i 1 in
    ap (λ (k : ℕ). goals_in (goals_of_rule (slice_get rules k) t)) j ∙ ap (λ (o : Option Rule). goals_in (goals_of_rule o t)) is ∙ ap goals_in fits

-- the numbers with the subtrees at which the rules are applied are the derivation's numbers
mutual
  pub numbers_applied : (rules : List Rule) (n : ℕ) (t : MTree) (x : MDerivation) → Derives rules n t x → map number_of (applied rules t x) ≡ numbers x
  numbers_applied rules n t (Apply number parts) (i, r, goals, e, is, left, met, fits, each) =
      ap (λ (g : List Goal). number ∷ map number_of (applied_in rules g parts)) (goals_left rules t number i r goals e is fits) ∙ ap (λ (l : List ℕ). number ∷ l) (numbers_applied_in rules goals parts each)

  numbers_applied_in : (rules : List Rule) (goals : List Goal) (parts : MParts) → DeriveEach rules goals parts → map number_of (applied_in rules goals parts) ≡ numbers_in parts
  numbers_applied_in rules goals NoPart each = refl
  numbers_applied_in rules [] (Part x xs) each = absurd each
  numbers_applied_in rules (g ∷ gs) (Part x xs) each =
      map-append _ (applied rules g.1 x) (applied_in rules gs xs) ∙ ap (λ (l : List ℕ). l ++ map number_of (applied_in rules gs xs)) (numbers_applied rules g.0 g.1 x each.0) ∙ ap (λ (l : List ℕ). numbers x ++ l) (numbers_applied_in rules gs xs each.1)
