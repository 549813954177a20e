-- Counting the names of a pattern from the left.
use Rattle.std.proofs.Common.{◌≡◌, ◌≢◌, ◌≤◌, ◌<◌, ◌+◌, ◌⊎◌, ℕ, true, false, List, [], ◌∷◌, ◌++◌, length, take, drop, Some, refl, sym, ap, ◌∙◌, subst, arith, inl, inr}
use Rattle.std.specs.Prelude.{slice_get}
use Rattle.std.proofs.lemmas.Option.{slice_get_within}
use Rattle.std.proofs.lemmas.Bool.{cases_order, cases_lt}
use Rattle.std.proofs.lemmas.List.{length-take-le}
use Rattle.lburg_lines.specs.declared.section.Section.TheVariants.{Rules}
use Rattle.lburg_lines.specs.Tokens.{Tok, Word, Number, Negative, Template, Keyword, Mark, Bound, Wrong}
use Rattle.lburg_lines.specs.Sections.{TokenLine}
use Rattle.lburg_faults.specs.Lines.{has_template, words_in}
use Rattle.lburg_faults.specs.Limits.{IsPatternLimit}
use Rattle.lburg_faults.specs.Grammatical.{IsSmall}
use Rattle.lburg_faults.proofs.EndingTokens.{template_at, take_one, plain_more}

-- a line of the rules
abbrev pub of_rules : List Tok → TokenLine
of_rules ts = record { section = Rules; tokens = ts }

-- ---- counts of names

words_append : (xs ys : List Tok) → words_in (xs ++ ys) ≡ words_in xs + words_in ys
words_append [] ys = omega arith
words_append (Word b ∷ xs) ys = let e = words_append xs ys in omega arith
words_append (Template b ∷ xs) ys = words_append xs ys
words_append (Number b ∷ xs) ys = words_append xs ys
words_append (Negative b ∷ xs) ys = words_append xs ys
words_append (Keyword b ∷ xs) ys = words_append xs ys
words_append (Mark b ∷ xs) ys = words_append xs ys
words_append (Bound b ∷ xs) ys = words_append xs ys
words_append (Wrong ∷ xs) ys = words_append xs ys

-- names behind the first two tokens
abbrev pub nodes_in : List Tok → ℕ → ℕ
nodes_in ts i = words_in (drop 2 (take i ts))

words_last : (xs : List Tok) (t : Tok) → 2 ≤ length xs → words_in (drop 2 (xs ++ t ∷ [])) ≡ words_in (drop 2 xs) + words_in (t ∷ [])
words_last [] t h = absurd (omega arith)
words_last (a ∷ []) t h = absurd (omega arith)
words_last (a ∷ b ∷ xs) t h = words_append xs (t ∷ [])

pub nodes_more : (ts : List Tok) (i : ℕ) (t : Tok) → slice_get ts i ≡ Some t → 2 ≤ i → nodes_in ts (i + 1) ≡ nodes_in ts i + words_in (t ∷ [])
nodes_more ts i t h k =
    let w = slice_get_within ts i t h in
    ap (λ (l : List Tok). words_in (drop 2 l)) (take_one ts i t h) ∙ words_last (take i ts) t (omega (arith, length-take-le i ts))

few : (xs : List Tok) → length xs ≤ 2 → words_in (drop 2 xs) ≡ 0
few [] h = refl
few (a ∷ []) h = refl
few (a ∷ b ∷ []) h = refl
few (a ∷ b ∷ c ∷ xs) h = absurd (omega arith)

pub nodes_none : (ts : List Tok) (i : ℕ) (t : Tok) → slice_get ts i ≡ Some t → i < 2 → nodes_in ts (i + 1) ≡ nodes_in ts i
nodes_none ts i t h k =
    let w = slice_get_within ts i t h in
    few (take (i + 1) ts) (omega (arith, length-take-le (i + 1) ts)) ∙ sym (few (take i ts) (omega (arith, length-take-le i ts)))

-- ---- limits

small_more : (ts : List Tok) (i : ℕ) → IsSmall (of_rules ts) i → (IsPatternLimit (of_rules ts) i → ⊥) → IsSmall (of_rules ts) (i + 1)
small_more ts i h k = λ q l p. elim (cases_order q i) [
  | inl e ↦ k (subst (λ (n : ℕ). IsPatternLimit (of_rules ts) n) e p)
  | inr r ↦ elim r [
    | inl m ↦ h q m p
    | inr m ↦ absurd (omega arith)
  ]
]

-- what the loop knows before a place
pub record Counted (ts : List Tok) (i seen : ℕ) : Type 0 where
  pub plain : has_template (take i ts) ≡ false
  pub nodes : seen ≡ nodes_in ts i
  pub most : seen ≤ 16
  pub small : IsSmall (of_rules ts) i

pub counted_none : (ts : List Tok) → Counted ts 0 0
counted_none ts = record { plain = refl; nodes = refl; most = omega arith; small = λ q l p. omega arith }

no_word : (t : Tok) (n : List ℕ) → words_in (t ∷ []) ≡ 0 → t ≡ Word n → ⊥
no_word t n h e = let k : words_in (t ∷ []) ≡ 1 = ap (λ (u : Tok). words_in (u ∷ [])) e in omega arith

-- no name stands at the place
pub counted_other : (ts : List Tok) (i nodes : ℕ) (t : Tok) → slice_get ts i ≡ Some t → has_template (t ∷ []) ≡ false → words_in (t ∷ []) ≡ 0 → Counted ts i nodes → Counted ts (i + 1) nodes
counted_other ts i nodes t h p w c = record {
  plain = plain_more ts i t h c.plain p;
  nodes = elim (cases_order i 2) [
    | inl e ↦ c.nodes ∙ sym (nodes_more ts i t h (omega arith) ∙ (let k = w in omega arith))
    | inr r ↦ elim r [
      | inl m ↦ c.nodes ∙ sym (nodes_none ts i t h m)
      | inr m ↦ c.nodes ∙ sym (nodes_more ts i t h (omega arith) ∙ (let k = w in omega arith))
    ]
  ];
  most = c.most;
  small = small_more ts i c.small (λ q. (let e : t ≡ Word q.0 = (let f = sym h ∙ q.2 in cc) in no_word t q.0 w e));
}

-- the place isn't one of the pattern
pub counted_before : (ts : List Tok) (i nodes : ℕ) (t : Tok) → slice_get ts i ≡ Some t → has_template (t ∷ []) ≡ false → i < 2 → Counted ts i nodes → Counted ts (i + 1) nodes
counted_before ts i nodes t h p m c = record {
  plain = plain_more ts i t h c.plain p;
  nodes = c.nodes ∙ sym (nodes_none ts i t h m);
  most = c.most;
  small = small_more ts i c.small (λ q. (let k = q.1.1 in omega arith));
}

-- a name stands at the place
pub counted_name : (ts : List Tok) (i nodes : ℕ) (t : Tok) → slice_get ts i ≡ Some t → has_template (t ∷ []) ≡ false → words_in (t ∷ []) ≡ 1 → 2 ≤ i → nodes ≢ 16 → Counted ts i nodes → Counted ts (i + 1) (nodes + 1)
counted_name ts i nodes t h p w m n c = record {
  plain = plain_more ts i t h c.plain p;
  nodes = let e = nodes_more ts i t h m in let k = c.nodes in omega arith;
  most = let k = c.most in omega arith;
  small = small_more ts i c.small (λ q. (let a = q.3 in let k = c.nodes in let b = c.most in omega arith));
}

word_is : (t : Tok) → words_in (t ∷ []) ≡ 1 → (n : List ℕ) × (t ≡ Word n)
word_is (Word n) h = (n, refl)
word_is (Template b) h = absurd (omega arith)
word_is (Number b) h = absurd (omega arith)
word_is (Negative b) h = absurd (omega arith)
word_is (Keyword b) h = absurd (omega arith)
word_is (Mark b) h = absurd (omega arith)
word_is (Bound b) h = absurd (omega arith)
word_is Wrong h = absurd (omega arith)

-- the 17th name
pub limit_here : (ts : List Tok) (i nodes : ℕ) (t : Tok) → slice_get ts i ≡ Some t → words_in (t ∷ []) ≡ 1 → 2 ≤ i → nodes ≡ 16 → Counted ts i nodes → IsPatternLimit (of_rules ts) i × IsSmall (of_rules ts) i
limit_here ts i nodes t h w m n c =
    let e = word_is t w in
    ((e.0, (refl, m, c.plain), h ∙ ap (λ (u : Tok). Some u) e.1, (let k = c.nodes in omega arith)), c.small)

-- behind a template no pattern is
pub small_behind : (ts : List Tok) (i nodes : ℕ) (t : Tok) → slice_get ts i ≡ Some t → has_template (t ∷ []) ≡ true → Counted ts i nodes → IsSmall (of_rules ts) (length ts)
small_behind ts i nodes t h p c = λ q l k. elim (cases_order q i) [
  | inl e ↦ (let f : t ≡ Word k.0 = (let g = k.2 in cc) in let a : has_template (t ∷ []) ≡ false = ap (λ (u : Tok). has_template (u ∷ [])) f in cc)
  | inr r ↦ elim r [
    | inl m ↦ c.small q m k
    | inr m ↦ (let a = template_at ts i q t h p m in let b = k.1.2 in cc)
  ]
]

one_or_none : (t : Tok) → (words_in (t ∷ []) ≡ 1) ⊎ (words_in (t ∷ []) ≡ 0)
one_or_none (Word n) = inl refl
one_or_none (Template b) = inr refl
one_or_none (Number b) = inr refl
one_or_none (Negative b) = inr refl
one_or_none (Keyword b) = inr refl
one_or_none (Mark b) = inr refl
one_or_none (Bound b) = inr refl
one_or_none Wrong = inr refl

-- no node of a pattern stands at the place
pub counted_not : (ts : List Tok) (i nodes : ℕ) (t : Tok) → slice_get ts i ≡ Some t → has_template (t ∷ []) ≡ false → (2 ≤ i → words_in (t ∷ []) ≡ 1 → ⊥) → Counted ts i nodes → Counted ts (i + 1) nodes
counted_not ts i nodes t h p n c = elim (cases_lt i 2) [
  | inl m ↦ counted_before ts i nodes t h p m c
  | inr m ↦ elim (one_or_none t) [
    | inl w ↦ absurd (n m w)
    | inr w ↦ counted_other ts i nodes t h p w c
  ]
]
