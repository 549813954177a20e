-- Derivations as families over the nonterminal and the tree, for proofs by recursion on both.
use Rattle.std.specs.Prelude.{◌≡◌, ℕ, ◌+◌, ◌<◌, ◌⊎◌, Option, ℤ, List, [], ◌∷◌, ◌++◌}
use Rattle.lburg_model.specs.Best.{Earlier}
use Rattle.lburg_model.specs.Tree.{MTree, TLeaf, TOne, TTwo, value_of}
use Rattle.lburg_model.specs.Pattern.{MPattern, PHole, PLeaf, POne, PTwo, pattern_of}
use Rattle.lburg_model.specs.declared.rule.Rule.{Rule}
use Rattle.lburg_tables.specs.Offers.{Offers}
use Rattle.lburg_model.specs.Derivation.{MDerivation, MParts, Apply, NoPart, Part}

mutual
  -- a derivation of the nonterminal n at the tree t: a rule that applies, and parts for its pattern
  pub data Derivation (d : List Rule) : ℕ → MTree → Type 0 where
    Uses : {n : ℕ} {t : MTree} (i : ℕ) (r : Rule) → Offers d (value_of t) i r → r.left ≡ n → Parts d (pattern_of r.pattern) t → Derivation d n t

  -- the pattern fits the tree, with a derivation of each of its nonterminals at the subtree that it meets
  pub data Parts (d : List Rule) : MPattern → MTree → Type 0 where
    AtHole : {n : ℕ} {t : MTree} → Derivation d n t → Parts d (PHole n) t
    AtLeaf : {op : ℕ} {v : Option ℤ} → Parts d (PLeaf op) (TLeaf op v)
    AtOne : {op : ℕ} {v : Option ℤ} {p : MPattern} {a : MTree} → Parts d p a → Parts d (POne op p) (TOne op v a)
    AtTwo : {op : ℕ} {v : Option ℤ} {p q : MPattern} {a b : MTree} → Parts d p a → Parts d q b → Parts d (PTwo op p q) (TTwo op v a b)

-- the rules' costs, added up
abbrev mutual
  pub cost : {d : List Rule} {n : ℕ} {t : MTree} → Derivation d n t → ℕ
  cost (Uses i r at left parts) = r.cost + costs parts

  pub costs : {d : List Rule} {p : MPattern} {t : MTree} → Parts d p t → ℕ
  costs (AtHole e) = cost e
  costs AtLeaf = 0
  costs (AtOne x) = costs x
  costs (AtTwo x y) = costs x + costs y

-- how many rules are used
abbrev mutual
  pub count : {d : List Rule} {n : ℕ} {t : MTree} → Derivation d n t → ℕ
  count (Uses i r at left parts) = 1 + counts parts

  pub counts : {d : List Rule} {p : MPattern} {t : MTree} → Parts d p t → ℕ
  counts (AtHole e) = count e
  counts AtLeaf = 0
  counts (AtOne x) = counts x
  counts (AtTwo x y) = counts x + counts y

-- the rules' numbers, the whole's before its parts'
abbrev mutual
  pub numbers : {d : List Rule} {n : ℕ} {t : MTree} → Derivation d n t → List ℕ
  numbers (Uses i r at left parts) = (i + 1) ∷ numbers_in parts

  pub numbers_in : {d : List Rule} {p : MPattern} {t : MTree} → Parts d p t → List ℕ
  numbers_in (AtHole e) = numbers e
  numbers_in AtLeaf = []
  numbers_in (AtOne x) = numbers_in x
  numbers_in (AtTwo x y) = numbers_in x ++ numbers_in y

-- each rule's number, with the tree that it is used at, the whole's before its parts'
abbrev mutual
  pub visits : {d : List Rule} {n : ℕ} {t : MTree} → Derivation d n t → List (ℕ × MTree)
  visits {d} {n} {t} (Uses i r is left parts) = (i + 1, t) ∷ visits_in parts

  pub visits_in : {d : List Rule} {p : MPattern} {t : MTree} → Parts d p t → List (ℕ × MTree)
  visits_in (AtHole e) = visits e
  visits_in AtLeaf = []
  visits_in (AtOne x) = visits_in x
  visits_in (AtTwo x y) = visits_in x ++ visits_in y

-- the parts of the first, then those of the second
abbrev pub join : MParts → MParts → MParts
join NoPart ys = ys
join (Part x xs) ys = Part x (join xs ys)

-- the same derivation by rule numbers alone
abbrev mutual
  pub erase : {d : List Rule} {n : ℕ} {t : MTree} → Derivation d n t → MDerivation
  erase (Uses i r is left parts) = Apply (i + 1) (erase_in parts)

  pub erase_in : {d : List Rule} {p : MPattern} {t : MTree} → Parts d p t → MParts
  erase_in (AtHole e) = Part (erase e) NoPart
  erase_in AtLeaf = NoPart
  erase_in (AtOne x) = erase_in x
  erase_in (AtTwo x y) = join (erase_in x) (erase_in y)

-- smaller by cost, at equal cost by count, and at equal count by the first difference of the numbers
pub data Less : (cost count : ℕ) (numbers : List ℕ) (cost' count' : ℕ) (numbers' : List ℕ) → Type 0 where
  ByCost : {k m : ℕ} {xs : List ℕ} {k' m' : ℕ} {xs' : List ℕ} → k < k' → Less k m xs k' m' xs'
  ByCount : {k m : ℕ} {xs : List ℕ} {k' m' : ℕ} {xs' : List ℕ} → k ≡ k' → m < m' → Less k m xs k' m' xs'
  ByRules : {k m : ℕ} {xs : List ℕ} {k' m' : ℕ} {xs' : List ℕ} → k ≡ k' → m ≡ m' → Earlier xs xs' → Less k m xs k' m' xs'

-- each other derivation is greater
abbrev pub IsBest : {d : List Rule} {n : ℕ} {t : MTree} → Derivation d n t → Type 0
IsBest {d} {n} {t} e =
    (other : Derivation d n t) → (numbers e ≡ numbers other) ⊎ Less (cost e) (count e) (numbers e) (cost other) (count other) (numbers other)
