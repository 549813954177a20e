-- The names of a rule's tokens, and the parts of its tree.
use Rattle.std.proofs.Common.{◌≡◌, ℕ, ◌+◌, ◌≤◌, zero, suc, ◌⊎◌, false, List, ◌∷◌, take, drop, Some, refl, ◌∙◌, inl, inr, arith}
use Rattle.std.specs.Prelude.{slice_get}
use Rattle.lburg_lines.specs.declared.token.Sign.TheVariants.{Close, Comma}
use Rattle.lburg_lines.specs.Tokens.{Tok, Word, Mark, Template}
use Rattle.lburg_lines.specs.NamedTree.{MNamed, Alone, Over, Both, tree_then, names_in}
use Rattle.lburg_lines.specs.Readings.{Ends}
use Rattle.lburg_lines.specs.Grammar.{MRule, rule_tokens, cost_tokens}
use Rattle.lburg_faults.specs.Lines.{has_template, words_in}

-- a part of a tree
abbrev pub IsPart : MNamed → MNamed → Type 0
IsPart (Alone n) part = Alone n ≡ part
IsPart (Over n a) part = (Over n a ≡ part) ⊎ IsPart a part
IsPart (Both n a b) part = (Both n a b ≡ part) ⊎ (IsPart a part ⊎ IsPart b part)

-- a part of the tree stands at this place of its tokens
pub record IsInside (tree : MNamed) (rest : List Tok) (q : ℕ) : Type 0 where
  pub part : MNamed
  pub more : List Tok
  pub is_part : IsPart tree part
  pub there : drop q (tree_then tree rest) ≡ tree_then part more
  pub ends : Ends part more
  pub few : words_in (take q (tree_then tree rest)) + 1 ≤ names_in tree

-- the name at this place stands behind the tree
pub record IsBehind (tree : MNamed) (rest : List Tok) (q : ℕ) (name : List ℕ) : Type 0 where
  pub place : ℕ
  pub plain : has_template (take place rest) ≡ false
  pub there : slice_get rest place ≡ Some (Word name)
  pub same : drop q (tree_then tree rest) ≡ drop place rest
  pub many : words_in (take q (tree_then tree rest)) ≡ names_in tree + words_in (take place rest)

abbrev pub WordIn : MNamed → List Tok → ℕ → List ℕ → Type 0
WordIn tree rest q name = IsInside tree rest q ⊎ IsBehind tree rest q name

ends_close : (a : MNamed) (rest : List Tok) → Ends a (Mark Close ∷ rest)
ends_close (Alone n) rest = λ e. cc
ends_close (Over n a) rest = tt
ends_close (Both n a b) rest = tt

ends_comma : (a : MNamed) (rest : List Tok) → Ends a (Mark Comma ∷ rest)
ends_comma (Alone n) rest = λ e. cc
ends_comma (Over n a) rest = tt
ends_comma (Both n a b) rest = tt

pub ends_template : (a : MNamed) (t : List ℕ) (rest : List Tok) → Ends a (Template t ∷ rest)
ends_template (Alone n) t rest = λ e. cc
ends_template (Over n a) t rest = tt
ends_template (Both n a b) t rest = tt

over : (n : List ℕ) (a : MNamed) (rest : List Tok) (q : ℕ) (name : List ℕ) → WordIn a (Mark Close ∷ rest) q name → WordIn (Over n a) rest (suc (suc q)) name
over n a rest q name (inl i) = inl (record { part = i.part; more = i.more; is_part = inr i.is_part; there = i.there; ends = i.ends; few = (let f = i.few in omega arith) })
over n a rest q name (inr b) = closed b.place b.plain b.there b.same b.many where
  closed : (k : ℕ) → has_template (take k (Mark Close ∷ rest)) ≡ false → slice_get (Mark Close ∷ rest) k ≡ Some (Word name) → drop q (tree_then a (Mark Close ∷ rest)) ≡ drop k (Mark Close ∷ rest)
      → words_in (take q (tree_then a (Mark Close ∷ rest))) ≡ names_in a + words_in (take k (Mark Close ∷ rest)) → WordIn (Over n a) rest (suc (suc q)) name
  closed zero h g e m = absurd cc
  closed (suc k) h g e m = inr (record { place = k; plain = h; there = g; same = e; many = omega arith })

second : (n : List ℕ) (a b : MNamed) (rest : List Tok) (q k : ℕ) (name : List ℕ) → drop q (tree_then a (Mark Comma ∷ tree_then b (Mark Close ∷ rest))) ≡ drop k (tree_then b (Mark Close ∷ rest))
    → words_in (take q (tree_then a (Mark Comma ∷ tree_then b (Mark Close ∷ rest)))) ≡ names_in a + words_in (take k (tree_then b (Mark Close ∷ rest))) → WordIn b (Mark Close ∷ rest) k name → WordIn (Both n a b) rest (suc (suc q)) name
second n a b rest q k name f w (inl i) = inl (record { part = i.part; more = i.more; is_part = inr (inr i.is_part); there = f ∙ i.there; ends = i.ends; few = (let v = i.few in omega arith) })
second n a b rest q k name f w (inr x) = closed x.place x.plain x.there x.same x.many where
  closed : (m : ℕ) → has_template (take m (Mark Close ∷ rest)) ≡ false → slice_get (Mark Close ∷ rest) m ≡ Some (Word name) → drop k (tree_then b (Mark Close ∷ rest)) ≡ drop m (Mark Close ∷ rest)
      → words_in (take k (tree_then b (Mark Close ∷ rest))) ≡ names_in b + words_in (take m (Mark Close ∷ rest)) → WordIn (Both n a b) rest (suc (suc q)) name
  closed zero h g e v = absurd cc
  closed (suc m) h g e v = inr (record { place = m; plain = h; there = g; same = f ∙ e; many = omega arith })

first : (n : List ℕ) (a b : MNamed) (rest : List Tok) (q : ℕ) (name : List ℕ) → ((k : ℕ) → has_template (take k (tree_then b (Mark Close ∷ rest))) ≡ false → slice_get (tree_then b (Mark Close ∷ rest)) k ≡ Some (Word name) → WordIn b (Mark Close ∷ rest) k name)
    → WordIn a (Mark Comma ∷ tree_then b (Mark Close ∷ rest)) q name → WordIn (Both n a b) rest (suc (suc q)) name
first n a b rest q name f (inl i) = inl (record { part = i.part; more = i.more; is_part = inr (inl i.is_part); there = i.there; ends = i.ends; few = (let v = i.few in omega arith) })
first n a b rest q name f (inr x) = behind x.place x.plain x.there x.same x.many where
  behind : (k : ℕ) → has_template (take k (Mark Comma ∷ tree_then b (Mark Close ∷ rest))) ≡ false → slice_get (Mark Comma ∷ tree_then b (Mark Close ∷ rest)) k ≡ Some (Word name)
      → drop q (tree_then a (Mark Comma ∷ tree_then b (Mark Close ∷ rest))) ≡ drop k (Mark Comma ∷ tree_then b (Mark Close ∷ rest))
      → words_in (take q (tree_then a (Mark Comma ∷ tree_then b (Mark Close ∷ rest)))) ≡ names_in a + words_in (take k (Mark Comma ∷ tree_then b (Mark Close ∷ rest))) → WordIn (Both n a b) rest (suc (suc q)) name
  behind zero h g e v = absurd cc
  behind (suc k) h g e v = second n a b rest q k name e v (f k h g)

-- what a name of a tree's tokens is
word_in : (tree : MNamed) (rest : List Tok) (q : ℕ) (name : List ℕ) → Ends tree rest → has_template (take q (tree_then tree rest)) ≡ false → slice_get (tree_then tree rest) q ≡ Some (Word name) → WordIn tree rest q name
word_in (Alone n) rest zero name e h g = inl (record { part = Alone n; more = rest; is_part = refl; there = refl; ends = e; few = omega arith })
word_in (Alone n) rest (suc q) name e h g = inr (record { place = q; plain = h; there = g; same = refl; many = omega arith })
word_in (Over n a) rest zero name e h g = inl (record { part = Over n a; more = rest; is_part = inl refl; there = refl; ends = tt; few = omega arith })
word_in (Over n a) rest (suc zero) name e h g = absurd cc
word_in (Over n a) rest (suc (suc q)) name e h g = over n a rest q name (word_in a (Mark Close ∷ rest) q name (ends_close a rest) h g)
word_in (Both n a b) rest zero name e h g = inl (record { part = Both n a b; more = rest; is_part = inl refl; there = refl; ends = tt; few = omega arith })
word_in (Both n a b) rest (suc zero) name e h g = absurd cc
word_in (Both n a b) rest (suc (suc q)) name e h g =
    first n a b rest q name (λ k u v. word_in b (Mark Close ∷ rest) k name (ends_close b rest) u v) (word_in a (Mark Comma ∷ tree_then b (Mark Close ∷ rest)) q name (ends_comma a (tree_then b (Mark Close ∷ rest))) h g)

no_template : (t : List ℕ) (cost : List Tok) (k : ℕ) (name : List ℕ) → has_template (take k (Template t ∷ cost)) ≡ false → slice_get (Template t ∷ cost) k ≡ Some (Word name) → ⊥
no_template t cost zero name h g = cc
no_template t cost (suc k) name h g = cc

-- a name of a rule's pattern is one of its tree
pub in_tree : (r : MRule) (q : ℕ) (name : List ℕ) → has_template (take (suc (suc q)) (rule_tokens r)) ≡ false → slice_get (rule_tokens r) (suc (suc q)) ≡ Some (Word name) → IsInside r.tree (Template r.template ∷ cost_tokens r.cost) q
in_tree r q name h g = elim (word_in r.tree (Template r.template ∷ cost_tokens r.cost) q name (ends_template r.tree r.template (cost_tokens r.cost)) h g) [
  | inl i ↦ i
  | inr b ↦ absurd (no_template r.template (cost_tokens r.cost) b.place name b.plain b.there)
]
