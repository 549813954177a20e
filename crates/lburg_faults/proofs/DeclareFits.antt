-- Names and numbers that may stand together: none twice, not too many, none too large.
use Rattle.std.proofs.Common.{◌≡◌, ◌<◌, ◌≤◌, inl, inr, ℕ, zero, suc, List, [], ◌∷◌, ◌++◌, take, Some, refl, sym, ap, ◌∙◌, subst, length, length-append, append_assoc, arith}
use Rattle.std.specs.Prelude.{slice_get}
use Rattle.std.proofs.lemmas.Option.{none-some}
use Rattle.std.proofs.lemmas.List.{append-nil}
use Rattle.lcc_text.specs.Decimal.{value_of}
use Rattle.lburg_lines.specs.Tokens.{Tok, Word, Number, Negative, Template, Keyword, Mark, Bound, Wrong}
use Rattle.lburg_faults.specs.Limits.{AreDistinct}
use Rattle.lburg_faults.specs.Declaring.{names_among, numbers_among, TokenFits, FitBefore}
use Rattle.lburg_faults.proofs.RuleLists.{in_front, distinct_more}
use Rattle.lburg_faults.proofs.DeclareLists.{names_append, numbers_append}

pub record Good (names : List (List ℕ)) (numbers : List ℕ) : Type 0 where
  pub once : AreDistinct names
  pub few : length names ≤ 1023
  pub small : (i n : ℕ) → slice_get numbers i ≡ Some n → n ≤ 2147483647

small_push : (ns : List ℕ) (m : ℕ) → ((i n : ℕ) → slice_get ns i ≡ Some n → n ≤ 2147483647) → m ≤ 2147483647 → (i n : ℕ) → slice_get (ns ++ m ∷ []) i ≡ Some n → n ≤ 2147483647
small_push ns m small h i n e = elim (in_front ns m i n e) [
  | inl l ↦ small i n l
  | inr r ↦ rw (← r.1) h
]

same_good : (names names' : List (List ℕ)) (numbers numbers' : List ℕ) → names' ≡ names → numbers' ≡ numbers → Good names numbers → Good names' numbers'
same_good names names' numbers numbers' e f g = subst (λ (x : List (List ℕ)). Good x numbers') (sym e) (subst (λ (y : List ℕ). Good names y) (sym f) g)

pub good_token : (names : List (List ℕ)) (numbers : List ℕ) (t : Tok) → Good names numbers → TokenFits names numbers t → Good (names ++ names_among (t ∷ [])) (numbers ++ numbers_among (t ∷ []))
good_token names numbers (Word n) g f = same_good (names ++ n ∷ []) (names ++ n ∷ []) numbers (numbers ++ []) refl (append-nil numbers) (record {
  once = distinct_more names n g.once f.0;
  few = omega (arith, f.1, length-append names (n ∷ []));
  small = g.small;
})
good_token names numbers (Number d) g f = same_good names (names ++ []) (numbers ++ value_of d ∷ []) (numbers ++ value_of d ∷ []) (append-nil names) refl (record {
  once = g.once;
  few = g.few;
  small = small_push numbers (value_of d) g.small f.1;
})
good_token names numbers (Negative d) g f = same_good names (names ++ []) numbers (numbers ++ []) (append-nil names) (append-nil numbers) g
good_token names numbers (Template b) g f = same_good names (names ++ []) numbers (numbers ++ []) (append-nil names) (append-nil numbers) g
good_token names numbers (Keyword b) g f = same_good names (names ++ []) numbers (numbers ++ []) (append-nil names) (append-nil numbers) g
good_token names numbers (Mark s) g f = same_good names (names ++ []) numbers (numbers ++ []) (append-nil names) (append-nil numbers) g
good_token names numbers (Bound b) g f = same_good names (names ++ []) numbers (numbers ++ []) (append-nil names) (append-nil numbers) g
good_token names numbers Wrong g f = same_good names (names ++ []) numbers (numbers ++ []) (append-nil names) (append-nil numbers) g

names_tail : (names : List (List ℕ)) (t : Tok) (ts : List Tok) → names ++ names_among (t ∷ ts) ≡ (names ++ names_among (t ∷ [])) ++ names_among ts
names_tail names t ts = ap (λ (x : List (List ℕ)). names ++ x) (names_append (t ∷ []) ts) ∙ sym (append_assoc names (names_among (t ∷ [])) (names_among ts))

numbers_tail : (numbers : List ℕ) (t : Tok) (ts : List Tok) → numbers ++ numbers_among (t ∷ ts) ≡ (numbers ++ numbers_among (t ∷ [])) ++ numbers_among ts
numbers_tail numbers t ts = ap (λ (x : List ℕ). numbers ++ x) (numbers_append (t ∷ []) ts) ∙ sym (append_assoc numbers (numbers_among (t ∷ [])) (numbers_among ts))

-- behind the first token
fit_tail : (names : List (List ℕ)) (numbers : List ℕ) (t : Tok) (ts : List Tok) (bound : ℕ) → FitBefore names numbers (t ∷ ts) (suc bound) → FitBefore (names ++ names_among (t ∷ [])) (numbers ++ numbers_among (t ∷ [])) ts bound
fit_tail names numbers t ts bound fit q token h e =
    subst (λ (x : List (List ℕ)). TokenFits x ((numbers ++ numbers_among (t ∷ [])) ++ numbers_among (take q ts)) token) (names_tail names t (take q ts)) (subst (λ (y : List ℕ). TokenFits (names ++ names_among (t ∷ take q ts)) y token) (numbers_tail numbers t (take q ts)) (fit (suc q) token (omega arith) e))

fit_first : (names : List (List ℕ)) (numbers : List ℕ) (t : Tok) (ts : List Tok) (bound : ℕ) → FitBefore names numbers (t ∷ ts) (suc bound) → TokenFits names numbers t
fit_first names numbers t ts bound fit = subst (λ (x : List (List ℕ)). TokenFits x numbers t) (append-nil names) (subst (λ (y : List ℕ). TokenFits (names ++ []) y t) (append-nil numbers) (fit 0 t (omega arith) refl))

-- with tokens that fit
pub good_more : (names : List (List ℕ)) (numbers : List ℕ) (ts : List Tok) → Good names numbers → FitBefore names numbers ts (length ts) → Good (names ++ names_among ts) (numbers ++ numbers_among ts)
good_more names numbers [] g fit = same_good names (names ++ []) numbers (numbers ++ []) (append-nil names) (append-nil numbers) g
good_more names numbers (t ∷ ts) g fit =
    same_good ((names ++ names_among (t ∷ [])) ++ names_among ts) (names ++ names_among (t ∷ ts)) ((numbers ++ numbers_among (t ∷ [])) ++ numbers_among ts) (numbers ++ numbers_among (t ∷ ts)) (names_tail names t ts) (numbers_tail numbers t ts)
    (good_more (names ++ names_among (t ∷ [])) (numbers ++ numbers_among (t ∷ [])) ts (good_token names numbers t g (fit_first names numbers t ts (length ts) fit)) (fit_tail names numbers t ts (length ts) fit))

take_get : {A : Type 0} (xs : List A) (p q : ℕ) (x : A) → slice_get (take p xs) q ≡ Some x → (q < p) × (slice_get xs q ≡ Some x)
take_get [] zero q x h = absurd (none-some x h)
take_get [] (suc p) q x h = absurd (none-some x h)
take_get (y ∷ xs) zero q x h = absurd (none-some x h)
take_get (y ∷ xs) (suc p) zero x h = (omega arith, h)
take_get (y ∷ xs) (suc p) (suc q) x h = let r = take_get xs p q x h in (omega (arith, r.0), r.1)

take_take : {A : Type 0} (xs : List A) (p q : ℕ) → q ≤ p → take q (take p xs) ≡ take q xs
take_take [] zero zero h = refl
take_take [] zero (suc q) h = refl
take_take [] (suc p) zero h = refl
take_take [] (suc p) (suc q) h = refl
take_take (y ∷ xs) zero zero h = refl
take_take (y ∷ xs) zero (suc q) h = absurd (omega arith)
take_take (y ∷ xs) (suc p) zero h = refl
take_take (y ∷ xs) (suc p) (suc q) h = ap (λ ys. y ∷ ys) (take_take xs p q (omega arith))

pub fit_front : (names : List (List ℕ)) (numbers : List ℕ) (ts : List Tok) (p : ℕ) → FitBefore names numbers ts p → FitBefore names numbers (take p ts) (length (take p ts))
fit_front names numbers ts p fit q token h e =
    let r = take_get ts p q token e in
    subst (λ (xs : List Tok). TokenFits (names ++ names_among xs) (numbers ++ numbers_among xs) token) (sym (take_take ts p q (omega (arith, r.0)))) (fit q token r.0 r.1)

-- with the tokens before a place
pub good_front : (names : List (List ℕ)) (numbers : List ℕ) (ts : List Tok) (p : ℕ) → Good names numbers → FitBefore names numbers ts p → Good (names ++ names_among (take p ts)) (numbers ++ numbers_among (take p ts))
good_front names numbers ts p g fit = good_more names numbers (take p ts) g (fit_front names numbers ts p fit)
