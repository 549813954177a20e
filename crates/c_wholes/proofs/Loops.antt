-- A loop that changes a list in place, place by place.
use Rattle.std.proofs.Common.{◌≡◌, ◌<◌, ℕ, ◌+◌, List, [], ◌∷◌, ◌++◌, length, take, drop, get_or, set, drop-set-lt, sym, ap, ◌∙◌, subst, arith}
use Rattle.std.proofs.lemmas.List.{drop_more, length-set, take_more, take_more_set}

-- what is done and what is left behind the place with x in the first list, when y stands there in the second
pub record Next {X : Type 0} (xs ys zs : List X) (i : ℕ) (x y : X) : Type 0 where
  pub old : take (i + 1) xs ≡ take i xs ++ x ∷ []
  pub new : take (i + 1) zs ≡ take i ys ++ y ∷ []
  pub left : drop (i + 1) zs ≡ drop (i + 1) xs
  pub behind : drop i xs ≡ x ∷ drop (i + 1) xs
  pub lengths : length zs ≡ length xs

module _ {X : Type 0} where
  first : (a b : X) (us vs : List X) → a ∷ us ≡ b ∷ vs → a ≡ b
  first a b us vs h = cc

  others : (a b : X) (us vs : List X) → a ∷ us ≡ b ∷ vs → us ≡ vs
  others a b us vs h = cc

  pub next : (xs ys : List X) (i : ℕ) (x y : X) → i < length xs → length ys ≡ length xs → drop i ys ≡ drop i xs → x ≡ get_or ys i x → Next xs ys (set ys i y) i x y
  next xs ys i x y l n h r =
      let k : i < length ys = subst (λ m. i < m) (sym n) l in
      let e : x ∷ drop (i + 1) ys ≡ get_or xs i x ∷ drop (i + 1) xs = ap (λ z. z ∷ drop (i + 1) ys) r ∙ sym (drop_more ys i x k) ∙ h ∙ drop_more xs i x l in
      let is = first _ _ _ _ e in
      record {
        old = take_more xs i x l ∙ ap (λ z. take i xs ++ z ∷ []) (sym is);
        new = take_more_set ys i y k;
        left = drop-set-lt (i + 1) ys i y (omega arith) ∙ others _ _ _ _ e;
        behind = drop_more xs i x l ∙ ap (λ z. z ∷ drop (i + 1) xs) (sym is);
        lengths = length-set ys i y ∙ n;
      }
