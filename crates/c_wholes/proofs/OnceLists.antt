-- Texts, each once, as a set holds them.
use Rattle.std.proofs.Common.{◌≡◌, ℕ, suc, ◌+◌, Bool, true, false, cond, List, [], ◌∷◌, ◌++◌, length, refl, sym, ap, ◌∙◌, arith}
use Rattle.std.proofs.lemmas.Bool.Decides.{nat_tests}
use Rattle.std.specs.Prelude.{Vec, Option, Some, None, ◌||◌, not, nat_lt, if◌then◌else◌, position, unwrap_or}
use Rattle.std.specs.List.{list_any, position_or_len}
use Rattle.std.specs.Str.{bytes_eq}
use Rattle.std.specs.declared.alloc.Global.{Global}
use Rattle.c_meaning.specs.Declarations.{or_zero}
use Rattle.c_meaning.specs.Units.{is_same_among}
use Rattle.c_units.specs.Functions.{place_from, place_in}
use Rattle.c_units.specs.Wholes.{once}
use Rattle.c_wholes.specs.TextLists.{texts_in}

-- more texts come behind what the first ones make
pub once_append : (b xs ys : List (List ℕ)) → once b (xs ++ ys) ≡ once (once b xs) ys
once_append b [] ys = refl
once_append b (t ∷ ts) ys = once_append (if is_same_among t b then b else b ++ t ∷ []) ts ys

pub once_two : (b xs ys x y : List (List ℕ)) → x ≡ once b xs → y ≡ once x ys → y ≡ once b (xs ++ ys)
once_two b xs ys x y h k = k ∙ ap (λ z. once z ys) h ∙ sym (once_append b xs ys)

pub texts_push : (vs : List (Vec ℕ Global)) (v : Vec ℕ Global) → texts_in (vs ++ v ∷ []) ≡ texts_in vs ++ v.items ∷ []
texts_push [] v = refl
texts_push (x ∷ xs) v = ap (λ ts. x.items ∷ ts) (texts_push xs v)

pub among_texts : (vs : List (Vec ℕ Global)) (t : List ℕ) → list_any (λ v. bytes_eq t v.items) vs ≡ is_same_among t (texts_in vs)
among_texts [] t = refl
among_texts (v ∷ vs) t = ap (λ b. bytes_eq t v.items || b) (among_texts vs t)

-- ---- the place of a text

more_less : (r n : ℕ) → nat_lt (1 + r) (suc n) ≡ nat_lt r n
more_less r n = grind (arith, nat_tests)

none_less : (n : ℕ) → nat_lt 0 (suc n) ≡ true
none_less n = grind (arith, nat_tests)

place_first : (k : ℕ) (b : Bool) (r n : ℕ) (o : Option ℕ) → o ≡ cond (nat_lt r n) (Some (suc k + r)) None
    → cond b (Some k) o ≡ cond (nat_lt (cond (not b) (1 + r) 0) (suc n)) (Some (k + cond (not b) (1 + r) 0)) None
place_first k true r n o h = (let e : k ≡ k + 0 = omega arith in ap Some e) ∙ ap (λ b. cond b (Some (k + 0)) None) (sym (none_less n))
place_first k false r n o h = h ∙ ap (λ m. cond (nat_lt r n) (Some m) None) (let e : suc k + r ≡ k + (1 + r) = omega arith in e) ∙ ap (λ b. cond b (Some (k + (1 + r))) None) (sym (more_less r n))

place_texts : (k : ℕ) (vs : List (Vec ℕ Global)) (t : List ℕ)
    → place_from k (texts_in vs) t ≡ cond (nat_lt (position_or_len (λ v. bytes_eq t v.items) vs) (length vs)) (Some (k + position_or_len (λ v. bytes_eq t v.items) vs)) None
place_texts k [] t = refl
place_texts k (v ∷ vs) t = place_first k (bytes_eq t v.items) _ _ _ (place_texts (suc k) vs t)

default_zero : (o : Option ℕ) → unwrap_or o 0 ≡ or_zero o
default_zero None = refl
default_zero (Some n) = refl

from_zero : (n : ℕ) → n ≡ 0 + n
from_zero n = omega arith

pub text_at : (vs : List (Vec ℕ Global)) (t : List ℕ) → unwrap_or (position (λ v. bytes_eq t v.items) vs) 0 ≡ or_zero (place_in (texts_in vs) t)
text_at vs t =
    let p = position_or_len (λ (v : Vec ℕ Global). bytes_eq t v.items) vs in
    default_zero (position (λ v. bytes_eq t v.items) vs)
    ∙ ap (λ (m : ℕ). or_zero (cond (nat_lt p (length vs)) (Some m) None)) (from_zero p) ∙ ap or_zero (sym (place_texts 0 vs t))
