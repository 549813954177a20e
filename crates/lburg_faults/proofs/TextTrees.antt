-- The names of a pattern's tokens, and the leaves of its tree.
use Rattle.std.proofs.Common.{◌≡◌, ℕ, zero, suc, ◌⊎◌, false, List, ◌∷◌, take, drop, Some, refl, ap, subst, ◌∙◌, inl, inr}
use Rattle.std.specs.Prelude.{slice_get}
use Rattle.std.proofs.lemmas.Option.{same_Some}
use Rattle.lburg_lines.specs.declared.token.Sign.TheVariants.{Open, Close, Comma}
use Rattle.lburg_lines.specs.Tokens.{Tok, Word, Mark}
use Rattle.lburg_lines.specs.NamedTree.{MNamed, Alone, Over, Both, tree_then}
use Rattle.lburg_faults.specs.Lines.{has_template}
use Rattle.lburg_faults.specs.Ruling.{IsNamed, AreLeavesNamed, IsLeafUnnamed}

-- the name is a leaf's
abbrev pub IsLeafName : MNamed → List ℕ → Type 0
IsLeafName (Alone n) name = n ≡ name
IsLeafName (Over n a) name = IsLeafName a name
IsLeafName (Both n a b) name = IsLeafName a name ⊎ IsLeafName b name

pub named_leaf : (terminals lefts : List (List ℕ)) (tree : MNamed) (name : List ℕ) → AreLeavesNamed terminals lefts tree → IsLeafName tree name → IsNamed terminals lefts name
named_leaf terminals lefts (Alone n) name h e = let P : List ℕ → Type 0 = λ x. IsNamed terminals lefts x in subst P e h
named_leaf terminals lefts (Over n a) name h e = named_leaf terminals lefts a name h e
named_leaf terminals lefts (Both n a b) name h e = elim e [
  | inl l ↦ named_leaf terminals lefts a name h.0 l
  | inr r ↦ named_leaf terminals lefts b name h.1 r
]

-- ---- from the tokens to the leaves

-- a parenthesis follows the name
abbrev IsOpened : List Tok → ℕ → List ℕ → Type 0
IsOpened tokens q name = (more : List Tok) × (drop q tokens ≡ Word name ∷ (Mark Open ∷ more))

-- the name at this place stands behind the tree
pub record IsBehind (tree : MNamed) (rest : List Tok) (q : ℕ) (name : List ℕ) : Type 0 where
  pub place : ℕ
  pub plain : has_template (take place rest) ≡ false
  pub there : slice_get rest place ≡ Some (Word name)
  pub same : drop q (tree_then tree rest) ≡ drop place rest

abbrev pub WordIn : MNamed → List Tok → ℕ → List ℕ → Type 0
WordIn tree rest q name = IsLeafName tree name ⊎ (IsOpened (tree_then tree rest) q name ⊎ IsBehind tree rest q name)

opened : (tokens more : List Tok) (n name : List ℕ) → Some (Word n) ≡ Some (Word name) → IsOpened (Word n ∷ (Mark Open ∷ more)) zero name
opened tokens more n name e = (more, ap (λ (t : Tok). t ∷ (Mark Open ∷ more)) (same_Some (Word n) (Word name) e))

over : (n : List ℕ) (a : MNamed) (rest : List Tok) (q : ℕ) (name : List ℕ) → WordIn a (Mark Close ∷ rest) q name → WordIn (Over n a) rest (suc (suc q)) name
over n a rest q name w = elim w [
  | inl l ↦ inl l
  | inr r ↦ elim r [
    | inl o ↦ inr (inl o)
    | inr b ↦ closed b.place b.plain b.there b.same
  ]
] where
  closed : (k : ℕ) → has_template (take k (Mark Close ∷ rest)) ≡ false → slice_get (Mark Close ∷ rest) k ≡ Some (Word name) → drop q (tree_then a (Mark Close ∷ rest)) ≡ drop k (Mark Close ∷ rest) → WordIn (Over n a) rest (suc (suc q)) name
  closed zero h g e = absurd cc
  closed (suc k) h g e = inr (inr (record { place = k; plain = h; there = g; same = e }))

second : (n : List ℕ) (a b : MNamed) (rest : List Tok) (q k : ℕ) (name : List ℕ) → drop q (tree_then a (Mark Comma ∷ tree_then b (Mark Close ∷ rest))) ≡ drop k (tree_then b (Mark Close ∷ rest)) → WordIn b (Mark Close ∷ rest) k name → WordIn (Both n a b) rest (suc (suc q)) name
second n a b rest q k name f w = elim w [
  | inl l ↦ inl (inr l)
  | inr r ↦ elim r [
    | inl o ↦ inr (inl (o.0, f ∙ o.1))
    | inr b ↦ closed b.place b.plain b.there b.same
  ]
] where
  closed : (m : ℕ) → has_template (take m (Mark Close ∷ rest)) ≡ false → slice_get (Mark Close ∷ rest) m ≡ Some (Word name) → drop k (tree_then b (Mark Close ∷ rest)) ≡ drop m (Mark Close ∷ rest) → WordIn (Both n a b) rest (suc (suc q)) name
  closed zero h g e = absurd cc
  closed (suc m) h g e = inr (inr (record { place = m; plain = h; there = g; same = f ∙ e }))

first : (n : List ℕ) (a b : MNamed) (rest : List Tok) (q : ℕ) (name : List ℕ) → ((k : ℕ) → has_template (take k (tree_then b (Mark Close ∷ rest))) ≡ false → slice_get (tree_then b (Mark Close ∷ rest)) k ≡ Some (Word name) → WordIn b (Mark Close ∷ rest) k name) → WordIn a (Mark Comma ∷ tree_then b (Mark Close ∷ rest)) q name → WordIn (Both n a b) rest (suc (suc q)) name
first n a b rest q name f w = elim w [
  | inl l ↦ inl (inl l)
  | inr r ↦ elim r [
    | inl o ↦ inr (inl o)
    | inr m ↦ behind m.place m.plain m.there m.same
  ]
] where
  behind : (k : ℕ) → has_template (take k (Mark Comma ∷ tree_then b (Mark Close ∷ rest))) ≡ false → slice_get (Mark Comma ∷ tree_then b (Mark Close ∷ rest)) k ≡ Some (Word name) → drop q (tree_then a (Mark Comma ∷ tree_then b (Mark Close ∷ rest))) ≡ drop k (Mark Comma ∷ tree_then b (Mark Close ∷ rest)) → WordIn (Both n a b) rest (suc (suc q)) name
  behind zero h g e = absurd cc
  behind (suc k) h g e = second n a b rest q k name e (f k h g)

-- what a name of a tree's tokens is
pub word_in : (tree : MNamed) (rest : List Tok) (q : ℕ) (name : List ℕ) → has_template (take q (tree_then tree rest)) ≡ false → slice_get (tree_then tree rest) q ≡ Some (Word name) → WordIn tree rest q name
word_in (Alone n) rest zero name h g = inl cc
word_in (Alone n) rest (suc q) name h g = inr (inr (record { place = q; plain = h; there = g; same = refl }))
word_in (Over n a) rest zero name h g = inr (inl (opened rest (tree_then a (Mark Close ∷ rest)) n name g))
word_in (Over n a) rest (suc zero) name h g = absurd cc
word_in (Over n a) rest (suc (suc q)) name h g = over n a rest q name (word_in a (Mark Close ∷ rest) q name h g)
word_in (Both n a b) rest zero name h g = inr (inl (opened rest (tree_then a (Mark Comma ∷ tree_then b (Mark Close ∷ rest))) n name g))
word_in (Both n a b) rest (suc zero) name h g = absurd cc
word_in (Both n a b) rest (suc (suc q)) name h g =
    first n a b rest q name (λ k u v. word_in b (Mark Close ∷ rest) k name u v) (word_in a (Mark Comma ∷ tree_then b (Mark Close ∷ rest)) q name h g)

-- ---- from the leaves to the tokens

-- where a place behind a tree is
record Moved (tree : MNamed) (rest : List Tok) (k : ℕ) : Type 0 where
  pub place : ℕ
  pub there : slice_get (tree_then tree rest) place ≡ slice_get rest k
  pub plain : has_template (take place (tree_then tree rest)) ≡ has_template (take k rest)

moved : (tree : MNamed) (rest : List Tok) (k : ℕ) → Moved tree rest k
moved (Alone n) rest k = record { place = suc k; there = refl; plain = refl }
moved (Over n a) rest k = let m = moved a (Mark Close ∷ rest) (suc k) in record { place = suc (suc m.place); there = m.there; plain = m.plain }
moved (Both n a b) rest k =
    let m = moved b (Mark Close ∷ rest) (suc k) in
    let o = moved a (Mark Comma ∷ tree_then b (Mark Close ∷ rest)) (suc m.place) in
    record { place = suc (suc o.place); there = o.there ∙ m.there; plain = o.plain ∙ m.plain }

-- a leaf that is neither terminal nor left side stands there
pub record UnnamedAt (terminals lefts : List (List ℕ)) (tree : MNamed) (rest : List Tok) : Type 0 where
  pub place : ℕ
  pub name : List ℕ
  pub unnamed : IsNamed terminals lefts name → ⊥
  pub there : slice_get (tree_then tree rest) place ≡ Some (Word name)
  pub plain : has_template (take place (tree_then tree rest)) ≡ false

pub leaf_at : (terminals lefts : List (List ℕ)) (tree : MNamed) (rest : List Tok) → IsLeafUnnamed terminals lefts tree → UnnamedAt terminals lefts tree rest
leaf_at terminals lefts (Alone n) rest h = record { place = zero; name = n; unnamed = h; there = refl; plain = refl }
leaf_at terminals lefts (Over n a) rest h =
    let m = leaf_at terminals lefts a (Mark Close ∷ rest) h in
    record { place = suc (suc m.place); name = m.name; unnamed = m.unnamed; there = m.there; plain = m.plain }
leaf_at terminals lefts (Both n a b) rest h = elim h [
  | inl l ↦
      let m = leaf_at terminals lefts a (Mark Comma ∷ tree_then b (Mark Close ∷ rest)) l in
      record { place = suc (suc m.place); name = m.name; unnamed = m.unnamed; there = m.there; plain = m.plain }
  | inr r ↦
      let m = leaf_at terminals lefts b (Mark Close ∷ rest) r in
      let o = moved a (Mark Comma ∷ tree_then b (Mark Close ∷ rest)) (suc m.place) in
      record { place = suc (suc o.place); name = m.name; unnamed = m.unnamed; there = o.there ∙ m.there; plain = o.plain ∙ m.plain }
]
