-- Operands: numbers, negated operands and expressions in parentheses.
use Rattle.std.proofs.Common.{◌≡◌, ◌≤◌, ◌+◌, ◌-◌, ℕ, Bool, true, false, List, [], ◌∷◌, refl, sym, ap, ◌∙◌, subst, arith, codes, decimal}
use Rattle.std.specs.Str.{bytes_eq}
use Rattle.std.proofs.lemmas.Slice.Eq.{bytes_eq-Decides}
use Rattle.first_form.specs.declared.expression.Operator.{Operator}
use Rattle.first_form.specs.declared.expression.Operator.TheVariants.{Add, Subtract, Multiply}
use Rattle.first_form.specs.Tokens.{Token, starts_with_digit, Begins, AreTokens}
use Rattle.first_form.specs.Expression.{MExpression, Constant, Negated, Combined, Enclosed}
use Rattle.first_form.specs.Grammar.{tokens_then, level_of, Derives}
use Rattle.first_form.specs.Height.{height}
use Rattle.first_form.specs.Readings.{Ends, Reads, IsThere}
use Rattle.first_form.proofs.Cut.{tokens_behind}
use Rattle.first_form.proofs.Numbers.{digit_first, decimal_same, unlike}

-- ---- tokens that differ

-- tokens with other first bytes
pub apart : (a b : ℕ) (x y : List ℕ) (C : Type 0) → (a ≡ b → ⊥) → a ∷ x ≡ b ∷ y → C
apart a b x y C h e = let f : a ≡ b = cc in absurd (h f)

pub no_numeral : (t : Token) (n : ℕ) (C : Type 0) → n ≤ 2147483647 → starts_with_digit t ≡ false → decimal n ≡ t → C
no_numeral t n C h s e =
    let f : true ≡ false = sym (digit_first n (omega arith)) ∙ ap starts_with_digit e ∙ s in
    absurd cc

pub minus_open : (C : Type 0) → codes "-" ≡ codes "(" → C
minus_open C e = apart 45 40 [] [] C (λ f. omega arith) e

-- ---- heights

pub tall : (e : MExpression) → 1 ≤ height e
tall (Constant n) = omega arith
tall (Negated e) = omega arith
tall (Combined op a b) = omega arith
tall (Enclosed e) = omega arith

level_low : (op : Operator) → level_of op ≤ 1
level_low Add = omega arith
level_low Subtract = omega arith
level_low Multiply = omega arith

-- no operator's expression is an operand of the last level
pub no_operator : (op : Operator) (a b : MExpression) (C : Type 0) → Derives 2 (Combined op a b) → C
no_operator op a b C p = absurd (let f = p.0 in let g = level_low op in omega arith)

-- behind parentheses an expression ends
pub ends_close : (ts : List Token) → Ends 0 (codes ")" ∷ ts)
ends_close ts Add more h e = apart 41 43 [] [] ⊥ (λ f. omega arith) cc
ends_close ts Subtract more h e = apart 41 45 [] [] ⊥ (λ f. omega arith) cc
ends_close ts Multiply more h e = apart 41 42 [] [] ⊥ (λ f. omega arith) cc

pub ends_semicolon : (ts : List Token) → Ends 0 (codes ";" ∷ ts)
ends_semicolon ts Add more h e = apart 59 43 [] [] ⊥ (λ f. omega arith) cc
ends_semicolon ts Subtract more h e = apart 59 45 [] [] ⊥ (λ f. omega arith) cc
ends_semicolon ts Multiply more h e = apart 59 42 [] [] ⊥ (λ f. omega arith) cc

-- an operand of the last level ends anywhere
pub ends_operand : (ts : List Token) → Ends 2 ts
ends_operand ts op more h e = let g = level_low op in omega arith

-- ---- negated operands

negated_one : (bytes behind rest : List ℕ) (e : MExpression) → Begins bytes (codes "-") behind → Reads 2 behind e rest → (f : MExpression) (ts : List Token) → Derives 2 f → AreTokens (tokens_then f ts) bytes → (f ≡ Negated e) × AreTokens ts rest
negated_one bytes behind rest e b r (Constant n) ts p h = no_numeral (codes "-") n _ p refl (tokens_behind bytes (decimal n) (codes "-") behind ts b h).0
negated_one bytes behind rest e b r (Negated f) ts p h =
    let k = r.one f ts p (ends_operand ts) (tokens_behind bytes (codes "-") (codes "-") behind (tokens_then f ts) b h).1 in
    (ap Negated k.0, k.1)
negated_one bytes behind rest e b r (Combined op x y) ts p h = no_operator op x y _ p
negated_one bytes behind rest e b r (Enclosed f) ts p h = minus_open _ (sym (tokens_behind bytes (codes "(") (codes "-") behind (tokens_then f (codes ")" ∷ ts)) b h).0)

pub negated_reads : (bytes behind rest : List ℕ) (e : MExpression) → Begins bytes (codes "-") behind → Reads 2 behind e rest → Reads 2 bytes (Negated e) rest
negated_reads bytes behind rest e b r = record {
  within = r.within;
  read = λ ts h. (behind, b, r.read ts h);
  one = λ f ts p n h. negated_one bytes behind rest e b r f ts p h;
}

negated_in : (bytes behind : List ℕ) (limit : ℕ) → Begins bytes (codes "-") behind → (f : MExpression) (ts : List Token) → Derives 2 f → height f ≤ limit + 1 → AreTokens (tokens_then f ts) bytes → IsThere 2 limit behind
negated_in bytes behind limit b (Constant n) ts p l h = no_numeral (codes "-") n _ p refl (tokens_behind bytes (decimal n) (codes "-") behind ts b h).0
negated_in bytes behind limit b (Negated f) ts p l h = record {
  found = f;
  behind = ts;
  within = p;
  low = omega arith;
  ends = ends_operand ts;
  tokens = (tokens_behind bytes (codes "-") (codes "-") behind (tokens_then f ts) b h).1;
}
negated_in bytes behind limit b (Combined op x y) ts p l h = no_operator op x y _ p
negated_in bytes behind limit b (Enclosed f) ts p l h = minus_open _ (sym (tokens_behind bytes (codes "(") (codes "-") behind (tokens_then f (codes ")" ∷ ts)) b h).0)

-- where an operand begins with `-`, one stands behind it
pub negated_there : (bytes behind : List ℕ) (limit : ℕ) → Begins bytes (codes "-") behind → 1 ≤ limit → IsThere 2 limit bytes → IsThere 2 (limit - 1) behind
negated_there bytes behind limit b l t = negated_in bytes behind (limit - 1) b t.found t.behind t.within (let f = t.low in omega arith) t.tokens

-- ---- parentheses

enclosed_one : (bytes behind mid rest : List ℕ) (e : MExpression) → Begins bytes (codes "(") behind → Reads 0 behind e mid → Begins mid (codes ")") rest → (f : MExpression) (ts : List Token) → Derives 2 f → AreTokens (tokens_then f ts) bytes → (f ≡ Enclosed e) × AreTokens ts rest
enclosed_one bytes behind mid rest e b r d (Constant n) ts p h = no_numeral (codes "(") n _ p refl (tokens_behind bytes (decimal n) (codes "(") behind ts b h).0
enclosed_one bytes behind mid rest e b r d (Negated f) ts p h = minus_open _ (tokens_behind bytes (codes "-") (codes "(") behind (tokens_then f ts) b h).0
enclosed_one bytes behind mid rest e b r d (Combined op x y) ts p h = no_operator op x y _ p
enclosed_one bytes behind mid rest e b r d (Enclosed f) ts p h =
    let k = r.one f (codes ")" ∷ ts) p (ends_close ts) (tokens_behind bytes (codes "(") (codes "(") behind (tokens_then f (codes ")" ∷ ts)) b h).1 in
    (ap Enclosed k.0, (tokens_behind mid (codes ")") (codes ")") rest ts d k.1).1)

pub enclosed_reads : (bytes behind mid rest : List ℕ) (e : MExpression) → Begins bytes (codes "(") behind → Reads 0 behind e mid → Begins mid (codes ")") rest → Reads 2 bytes (Enclosed e) rest
enclosed_reads bytes behind mid rest e b r d = record {
  within = r.within;
  read = λ ts h. (behind, b, r.read (codes ")" ∷ ts) (rest, d, h));
  one = λ f ts p n h. enclosed_one bytes behind mid rest e b r d f ts p h;
}

enclosed_in : (bytes behind : List ℕ) (limit : ℕ) → Begins bytes (codes "(") behind → (f : MExpression) (ts : List Token) → Derives 2 f → height f ≤ limit + 1 → AreTokens (tokens_then f ts) bytes → IsThere 0 limit behind
enclosed_in bytes behind limit b (Constant n) ts p l h = no_numeral (codes "(") n _ p refl (tokens_behind bytes (decimal n) (codes "(") behind ts b h).0
enclosed_in bytes behind limit b (Negated f) ts p l h = minus_open _ (tokens_behind bytes (codes "-") (codes "(") behind (tokens_then f ts) b h).0
enclosed_in bytes behind limit b (Combined op x y) ts p l h = no_operator op x y _ p
enclosed_in bytes behind limit b (Enclosed f) ts p l h = record {
  found = f;
  behind = codes ")" ∷ ts;
  within = p;
  low = omega arith;
  ends = ends_close ts;
  tokens = (tokens_behind bytes (codes "(") (codes "(") behind (tokens_then f (codes ")" ∷ ts)) b h).1;
}

-- where an operand begins with `(`, an expression stands behind it
pub enclosed_there : (bytes behind : List ℕ) (limit : ℕ) → Begins bytes (codes "(") behind → 1 ≤ limit → IsThere 2 limit bytes → IsThere 0 (limit - 1) behind
enclosed_there bytes behind limit b l t = enclosed_in bytes behind (limit - 1) b t.found t.behind t.within (let f = t.low in omega arith) t.tokens

unclosed_in : (bytes behind mid : List ℕ) (e : MExpression) → Begins bytes (codes "(") behind → Reads 0 behind e mid → ((rest : List ℕ) → Begins mid (codes ")") rest → ⊥) → (f : MExpression) (ts : List Token) → Derives 2 f → AreTokens (tokens_then f ts) bytes → ⊥
unclosed_in bytes behind mid e b r d (Constant n) ts p h = no_numeral (codes "(") n _ p refl (tokens_behind bytes (decimal n) (codes "(") behind ts b h).0
unclosed_in bytes behind mid e b r d (Negated f) ts p h = minus_open _ (tokens_behind bytes (codes "-") (codes "(") behind (tokens_then f ts) b h).0
unclosed_in bytes behind mid e b r d (Combined op x y) ts p h = no_operator op x y _ p
unclosed_in bytes behind mid e b r d (Enclosed f) ts p h =
    let k = r.one f (codes ")" ∷ ts) p (ends_close ts) (tokens_behind bytes (codes "(") (codes "(") behind (tokens_then f (codes ")" ∷ ts)) b h).1 in
    let c = k.1 in
    d c.0 c.1

pub unclosed : (bytes behind mid : List ℕ) (limit : ℕ) (e : MExpression) → Begins bytes (codes "(") behind → Reads 0 behind e mid → ((rest : List ℕ) → Begins mid (codes ")") rest → ⊥) → IsThere 2 limit bytes → ⊥
unclosed bytes behind mid limit e b r d t = unclosed_in bytes behind mid e b r d t.found t.behind t.within t.tokens

-- ---- numbers

number_one : (bytes rest : List ℕ) (n : ℕ) → n ≤ 2147483647 → Begins bytes (decimal n) rest → (f : MExpression) (ts : List Token) → Derives 2 f → AreTokens (tokens_then f ts) bytes → (f ≡ Constant n) × AreTokens ts rest
number_one bytes rest n l b (Constant m) ts p h =
    let k = tokens_behind bytes (decimal m) (decimal n) rest ts b h in
    (ap Constant (decimal_same m n p l k.0), k.1)
number_one bytes rest n l b (Negated f) ts p h = no_numeral (codes "-") n _ l refl (sym (tokens_behind bytes (codes "-") (decimal n) rest (tokens_then f ts) b h).0)
number_one bytes rest n l b (Combined op x y) ts p h = no_operator op x y _ p
number_one bytes rest n l b (Enclosed f) ts p h = no_numeral (codes "(") n _ l refl (sym (tokens_behind bytes (codes "(") (decimal n) rest (tokens_then f (codes ")" ∷ ts)) b h).0)

pub number_reads : (bytes rest t : List ℕ) (n : ℕ) → n ≤ 2147483647 → t ≡ decimal n → Begins bytes t rest → Reads 2 bytes (Constant n) rest
number_reads bytes rest t n l e b =
    let P : Token → Type 0 = λ u. Begins bytes u rest in
    let d = subst P e b in
    record {
      within = l;
      read = λ ts h. (rest, d, h);
      one = λ f ts p m h. number_one bytes rest n l d f ts p h;
    }

other_in : (bytes t rest : List ℕ) → Begins bytes t rest → (t ≡ codes "-" → ⊥) → (t ≡ codes "(" → ⊥) → ((n : ℕ) → n ≤ 2147483647 → t ≡ decimal n → ⊥) → (f : MExpression) (ts : List Token) → Derives 2 f → AreTokens (tokens_then f ts) bytes → ⊥
other_in bytes t rest b m o d (Constant n) ts p h = d n p (sym (tokens_behind bytes (decimal n) t rest ts b h).0)
other_in bytes t rest b m o d (Negated f) ts p h = m (sym (tokens_behind bytes (codes "-") t rest (tokens_then f ts) b h).0)
other_in bytes t rest b m o d (Combined op x y) ts p h = no_operator op x y _ p
other_in bytes t rest b m o d (Enclosed f) ts p h = o (sym (tokens_behind bytes (codes "(") t rest (tokens_then f (codes ")" ∷ ts)) b h).0)

-- no operand begins with another token
pub other : (bytes t rest : List ℕ) (limit : ℕ) → Begins bytes t rest → (t ≡ codes "-" → ⊥) → (t ≡ codes "(" → ⊥) → ((n : ℕ) → n ≤ 2147483647 → t ≡ decimal n → ⊥) → IsThere 2 limit bytes → ⊥
other bytes t rest limit b m o d h = other_in bytes t rest b m o d h.found h.behind h.within h.tokens

none_in : (bytes : List ℕ) → ((t rest : List ℕ) → Begins bytes t rest → ⊥) → (f : MExpression) (ts : List Token) → Derives 2 f → AreTokens (tokens_then f ts) bytes → ⊥
none_in bytes n (Constant k) ts p h = n (decimal k) h.0 h.1
none_in bytes n (Negated f) ts p h = n (codes "-") h.0 h.1
none_in bytes n (Combined op x y) ts p h = no_operator op x y _ p
none_in bytes n (Enclosed f) ts p h = n (codes "(") h.0 h.1

-- nor where no token is
pub none : (bytes : List ℕ) (limit : ℕ) → ((t rest : List ℕ) → Begins bytes t rest → ⊥) → IsThere 2 limit bytes → ⊥
none bytes limit n h = none_in bytes n h.found h.behind h.within h.tokens

-- nothing is of no height
pub too_low : (level limit : ℕ) (bytes : List ℕ) → limit ≡ 0 → IsThere level limit bytes → ⊥
too_low level limit bytes e h = let f = tall h.found in let g = h.low in omega arith

-- ---- the same of what a reader compared and made

pub named : (bytes rest t u v : List ℕ) (r : Bool) → r ≡ bytes_eq t u → r ≡ true → u ≡ v → Begins bytes t rest → Begins bytes v rest
named bytes rest t u v r e f g b = let P : Token → Type 0 = λ w. Begins bytes w rest in subst P ((bytes_eq-Decides t u).0 (sym e ∙ f) ∙ g) b

pub unnamed : (t u v : List ℕ) (r : Bool) → r ≡ bytes_eq t u → r ≡ false → u ≡ v → t ≡ v → ⊥
unnamed t u v r e f g h = unlike t u r e f (h ∙ sym g)

pub made : (level : ℕ) (bytes rest : List ℕ) (e m : MExpression) → m ≡ e → Reads level bytes e rest → Reads level bytes m rest
made level bytes rest e m f r = let P : MExpression → Type 0 = λ g. Reads level bytes g rest in subst P (sym f) r
