-- Templates among the tokens of a rule, and with which token a line begins.
use Rattle.std.proofs.Common.{◌≡◌, ◌≤◌, ◌<◌, ℕ, ◌+◌, zero, suc, Bool, true, false, List, [], ◌∷◌, ◌++◌, take, drop, Some, refl, sym, ap, subst, arith, add-one}
use Rattle.std.specs.Prelude.{slice_get}
use Rattle.std.proofs.lemmas.Option.{none-some, same_Some}
use Rattle.lburg_lines.specs.declared.section.Section.{Section}
use Rattle.lburg_lines.specs.declared.section.Section.TheVariants.{Rules}
use Rattle.lburg_lines.specs.Tokens.{Tok, Word, Number, Negative, Template, Keyword, Mark, Bound, Wrong}
use Rattle.lburg_lines.specs.Grammar.{MLine, Blank, Divides, Opens, Closes, Declared, Ruled, IsLine, AreLineOf}
use Rattle.lburg_lines.specs.Sections.{TokenLine}
use Rattle.lburg_faults.specs.Lines.{IsRules, BeginsRule, has_template}
use Rattle.lburg_faults.specs.Grammatical.{IsBegun}

-- more tokens have the templates that fewer have
pub template_kept : (ts : List Tok) (n m : ℕ) → n ≤ m → has_template (take n ts) ≡ true → has_template (take m ts) ≡ true
template_kept [] zero zero l h = h
template_kept [] zero (suc m) l h = h
template_kept [] (suc n) zero l h = h
template_kept [] (suc n) (suc m) l h = h
template_kept (t ∷ ts) zero m l h = absurd cc
template_kept (t ∷ ts) (suc n) zero l h = absurd (omega arith)
template_kept (Template b ∷ ts) (suc n) (suc m) l h = refl
template_kept (Word b ∷ ts) (suc n) (suc m) l h = template_kept ts n m (omega arith) h
template_kept (Number b ∷ ts) (suc n) (suc m) l h = template_kept ts n m (omega arith) h
template_kept (Negative b ∷ ts) (suc n) (suc m) l h = template_kept ts n m (omega arith) h
template_kept (Keyword b ∷ ts) (suc n) (suc m) l h = template_kept ts n m (omega arith) h
template_kept (Mark b ∷ ts) (suc n) (suc m) l h = template_kept ts n m (omega arith) h
template_kept (Bound b ∷ ts) (suc n) (suc m) l h = template_kept ts n m (omega arith) h
template_kept (Wrong ∷ ts) (suc n) (suc m) l h = template_kept ts n m (omega arith) h

pub fewer_templates : (ts : List Tok) (n m : ℕ) → n ≤ m → has_template (take m ts) ≡ false → has_template (take n ts) ≡ false
fewer_templates ts n m l h = settled (has_template (take n ts)) refl where
  settled : (b : Bool) → has_template (take n ts) ≡ b → b ≡ false
  settled true e = absurd (let k = template_kept ts n m l e in cc)
  settled false e = refl

-- the token is no template
abbrev pub IsOther : Tok → Type 0
IsOther (Template b) = ⊥
IsOther t = Unit {0}

pub no_more_template : (ts : List Tok) (n : ℕ) (t : Tok) → slice_get ts n ≡ Some t → IsOther t → has_template (take n ts) ≡ false → has_template (take (suc n) ts) ≡ false
no_more_template [] n t e o h = absurd (none-some t e)
no_more_template (Template b ∷ ts) zero t e o h = absurd (subst IsOther (sym (same_Some (Template b) t e)) o)
no_more_template (Word b ∷ ts) zero t e o h = refl
no_more_template (Number b ∷ ts) zero t e o h = refl
no_more_template (Negative b ∷ ts) zero t e o h = refl
no_more_template (Keyword b ∷ ts) zero t e o h = refl
no_more_template (Mark b ∷ ts) zero t e o h = refl
no_more_template (Bound b ∷ ts) zero t e o h = refl
no_more_template (Wrong ∷ ts) zero t e o h = refl
no_more_template (Template b ∷ ts) (suc n) t e o h = absurd cc
no_more_template (Word b ∷ ts) (suc n) t e o h = no_more_template ts n t e o h
no_more_template (Number b ∷ ts) (suc n) t e o h = no_more_template ts n t e o h
no_more_template (Negative b ∷ ts) (suc n) t e o h = no_more_template ts n t e o h
no_more_template (Keyword b ∷ ts) (suc n) t e o h = no_more_template ts n t e o h
no_more_template (Mark b ∷ ts) (suc n) t e o h = no_more_template ts n t e o h
no_more_template (Bound b ∷ ts) (suc n) t e o h = no_more_template ts n t e o h
no_more_template (Wrong ∷ ts) (suc n) t e o h = no_more_template ts n t e o h

pub template_here : (ts : List Tok) (n : ℕ) (b : List ℕ) → slice_get ts n ≡ Some (Template b) → has_template (take (suc n) ts) ≡ true
template_here [] n b e = absurd (none-some (Template b) e)
template_here (t ∷ ts) zero b e = rw (same_Some t (Template b) e) refl
template_here (Template c ∷ ts) (suc n) b e = refl
template_here (Word c ∷ ts) (suc n) b e = template_here ts n b e
template_here (Number c ∷ ts) (suc n) b e = template_here ts n b e
template_here (Negative c ∷ ts) (suc n) b e = template_here ts n b e
template_here (Keyword c ∷ ts) (suc n) b e = template_here ts n b e
template_here (Mark c ∷ ts) (suc n) b e = template_here ts n b e
template_here (Bound c ∷ ts) (suc n) b e = template_here ts n b e
template_here (Wrong ∷ ts) (suc n) b e = template_here ts n b e

-- ---- what stands at a place

pub drop_first : {A : Type 0} (xs ys : List A) (n : ℕ) (x : A) → drop n xs ≡ x ∷ ys → slice_get xs n ≡ Some x
drop_first [] ys zero x e = absurd cc
drop_first [] ys (suc n) x e = absurd cc
drop_first (y ∷ xs) ys zero x e = ap (λ (z : _). Some z) (let f : y ≡ x = cc in f)
drop_first (y ∷ xs) ys (suc n) x e = drop_first xs ys n x e

second : {A : Type 0} (xs ys : List A) (n : ℕ) (x y : A) → drop n xs ≡ x ∷ (y ∷ ys) → slice_get xs (suc n) ≡ Some y
second [] ys zero x y e = absurd cc
second [] ys (suc n) x y e = absurd cc
second (z ∷ xs) ys zero x y e = drop_first xs ys 0 y cc
second (z ∷ xs) ys (suc n) x y e = second xs ys n x y e

pub drop_second : {A : Type 0} (xs ys : List A) (n : ℕ) (x y : A) → drop n xs ≡ x ∷ (y ∷ ys) → slice_get xs (n + 1) ≡ Some y
drop_second xs ys n x y e = rw add-one (second xs ys n x y e)

pub first_dropped : {A : Type 0} (xs : List A) (n : ℕ) (x : A) → slice_get xs n ≡ Some x → drop n xs ≡ x ∷ drop (suc n) xs
first_dropped [] n x e = absurd (none-some x e)
first_dropped (y ∷ xs) zero x e = ap (λ (z : _). z ∷ xs) (same_Some y x e)
first_dropped (y ∷ xs) (suc n) x e = first_dropped xs n x e

-- ---- the first token

pub begins : (ts : List Tok) (n : List ℕ) → slice_get ts 0 ≡ Some (Word n) → BeginsRule ts
begins [] n e = absurd (none-some (Word n) e)
begins (Bound b ∷ ts) n e = absurd cc
begins (t ∷ ts) n e = tt

-- the token is a name, or a border
abbrev pub IsFirst : Tok → Type 0
IsFirst (Word n) = Unit {0}
IsFirst (Bound b) = Unit {0}
IsFirst t = ⊥

abbrev StartsSo : List Tok → Type 0
StartsSo [] = ⊥
StartsSo (t ∷ ts) = IsFirst t

starts : (line : MLine) (t : Tok) (ts : List Tok) → IsLine Rules (t ∷ ts) line → StartsSo (t ∷ ts)
starts Blank t ts h = absurd (let e = h.1 in cc)
starts Divides t ts h = subst StartsSo (sym h.1) tt
starts (Ruled r) t ts h = subst StartsSo (sym h.1) tt
starts Opens t ts h = absurd h.0
starts Closes t ts h = absurd h.0
starts (Declared d) t ts h = absurd h.0

begun_so : (ts : List Tok) (bound : ℕ) (t : Tok) → 0 < bound → slice_get ts 0 ≡ Some t → (more : List Tok) × AreLineOf Rules (take bound ts ++ more) → IsFirst t
begun_so [] bound t l e h = absurd (none-some t e)
begun_so (u ∷ ts) zero t l e h = absurd (omega arith)
begun_so (u ∷ ts) (suc bound) t l e h = subst IsFirst (same_Some u t e) (starts h.1.0 u (take bound ts ++ h.0) h.1.1)

-- a line of the rules begins with a name or a border
pub begun_first : (l : TokenLine) (bound : ℕ) (t : Tok) → IsRules l → 0 < bound → slice_get l.tokens 0 ≡ Some t → IsBegun l bound → IsFirst t
begun_first l bound t r p e h =
    let P : Section → Type 0 = λ s. (more : List Tok) × AreLineOf s (take bound l.tokens ++ more) in
    begun_so l.tokens bound t p e (subst P r h)
