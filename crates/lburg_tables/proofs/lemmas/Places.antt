-- What follows of the places of the rules with one root: which they are, their order and their number.
use Rattle.std.specs.Prelude.{◌≡◌, ℕ, zero, suc, ◌+◌, ◌<◌, Some, List, [], ◌∷◌, ◌++◌, length, slice_get, slice_index_or, Bool, true, false, if◌then◌else◌}
use Rattle.std.proofs.Common.{refl, sym, ap, ◌∙◌, arith, get_or}
use Rattle.std.proofs.lemmas.Bool.{false≢true, eqb-true, eq-eqb}
use Rattle.std.proofs.lemmas.List.Recursion.{is_count_by}
use Rattle.std.proofs.lemmas.Option.{none-some, same_Some, slice_get_within, slice_get-get_or}
use Rattle.lburg_model.specs.declared.rule.Rule.{Rule}
use Rattle.lburg_model.specs.declared.pattern.Pattern.{Pattern, Nonterminal, Leaf, Unary', Binary'}
use Rattle.lburg_model.specs.Pattern.{pattern_of}
use Rattle.lburg_tables.specs.Root.{Root, Chain, Operator, root_of, same_root, has_root, places_from, places_with}
use Rattle.lburg_tables.specs.Places.{with_root, HasRoot, Rises, place_of}

same_is : (a b : Root) → same_root a b ≡ true → a ≡ b
same_is (Chain n) (Chain m) h = ap (λ (x : ℕ). Chain x) (eqb-true n m h)
same_is (Chain n) (Operator op) h = absurd (false≢true h)
same_is (Operator op) (Chain n) h = absurd (false≢true h)
same_is (Operator op) (Operator op') h = ap (λ (x : ℕ). Operator x) (eqb-true op op' h)

same_self : (a : Root) → same_root a a ≡ true
same_self (Chain n) = eq-eqb n n refl
same_self (Operator op) = eq-eqb op op refl

has_is : (root : Root) (r : Rule) → HasRoot root r → has_root root r ≡ true
has_is root r e = ap (λ (x : Root). same_root x root) e ∙ same_self root

-- ---- which they are

-- the place is that of a rule with this root, of rules of which the first has the place k
abbrev StandsFrom : Root → ℕ → List Rule → ℕ → Type 0
StandsFrom root k rules place = (j : ℕ) × (r : Rule) × (place ≡ k + j) × (slice_get rules j ≡ Some r) × HasRoot root r

stands_later : (root : Root) (k : ℕ) (q : Rule) (rs : List Rule) (place : ℕ) → StandsFrom root (k + 1) rs place → StandsFrom root k (q ∷ rs) place
stands_later root k q rs place (j, r, at, is, has) = (suc j, r, omega arith, is, has)

only_split : (root : Root) (k : ℕ) (q : Rule) (rs : List Rule) (xs : List ℕ) (b : Bool) → has_root root q ≡ b → ((i place : ℕ) → slice_get xs i ≡ Some place → StandsFrom root (k + 1) rs place) → (i place : ℕ) → slice_get (if b then k ∷ xs else xs) i ≡ Some place → StandsFrom root k (q ∷ rs) place
only_split root k q rs xs true e others zero place h =
    let same : k ≡ place = same_Some k place h in
    (0, q, omega arith, refl, same_is (root_of (pattern_of q.pattern)) root e)
only_split root k q rs xs true e others (suc i) place h = stands_later root k q rs place (others i place h)
only_split root k q rs xs false e others i place h = stands_later root k q rs place (others i place h)

only_from : (root : Root) (k : ℕ) (rs : List Rule) (i place : ℕ) → slice_get (places_from root k rs) i ≡ Some place → StandsFrom root k rs place
only_from root k [] i place h = absurd (none-some place h)
only_from root k (q ∷ rs) i place h = only_split root k q rs (places_from root (k + 1) rs) (has_root root q) refl (only_from root (k + 1) rs) i place h

-- each is the place of a rule with this root
pub only : (root : Root) (rules : List Rule) (i place : ℕ) → slice_get (places_with root rules) i ≡ Some place → (r : Rule) × (slice_get rules place ≡ Some r) × HasRoot root r
only root rules i place h =
    let (j, r, at, is, has) = only_from root 0 rules i place h in
    let same : place ≡ j = omega arith in
    (r, ap (λ (x : ℕ). slice_get rules x) same ∙ is, has)

-- the place stands in the list
abbrev StandsIn : List ℕ → ℕ → Type 0
StandsIn xs place = (i : ℕ) × (slice_get xs i ≡ Some place)

at_head : (b : Bool) (k place : ℕ) (xs : List ℕ) → b ≡ true → place ≡ k → StandsIn (if b then k ∷ xs else xs) place
at_head true k place xs e h = (0, ap (λ (x : ℕ). Some x) (sym h))
at_head false k place xs e h = absurd (false≢true e)

at_tail : (b : Bool) (k place : ℕ) (xs : List ℕ) → StandsIn xs place → StandsIn (if b then k ∷ xs else xs) place
at_tail true k place xs (i, h) = (suc i, h)
at_tail false k place xs h = h

all_from : (root : Root) (k : ℕ) (rs : List Rule) (j : ℕ) (r : Rule) (place : ℕ) → place ≡ k + j → slice_get rs j ≡ Some r → HasRoot root r → StandsIn (places_from root k rs) place
all_from root k [] j r place at h e = absurd (none-some r h)
all_from root k (q ∷ rs) zero r place at h e =
    let has : HasRoot root q = ap (λ (x : Rule). root_of (pattern_of x.pattern)) (same_Some q r h) ∙ e in
    at_head (has_root root q) k place (places_from root (k + 1) rs) (has_is root q has) (omega arith)
all_from root k (q ∷ rs) (suc j) r place at h e =
    at_tail (has_root root q) k place (places_from root (k + 1) rs) (all_from root (k + 1) rs j r place (omega arith) h e)

-- each rule with this root has its place among them
pub all : (root : Root) (rules : List Rule) (place : ℕ) (r : Rule) → slice_get rules place ≡ Some r → HasRoot root r → (i : ℕ) × (slice_get (places_with root rules) i ≡ Some place)
all root rules place r h e = all_from root 0 rules place r place (omega arith) h e

rises_split : (k : ℕ) (xs : List ℕ) (b : Bool) → ((i p : ℕ) → slice_get xs i ≡ Some p → k < p) → Rises xs → Rises (if b then k ∷ xs else xs)
rises_split k xs false above rises = rises
rises_split k xs true above rises = at where
  at : (i j p q : ℕ) → i < j → slice_get (k ∷ xs) i ≡ Some p → slice_get (k ∷ xs) j ≡ Some q → p < q
  at i zero p q l h g = absurd (omega arith)
  at zero (suc j) p q l h g =
      let same : k ≡ p = same_Some k p h in
      let more : k < q = above j q g in
      omega arith
  at (suc i) (suc j) p q l h g = rises i j p q (omega arith) h g

rising_from : (root : Root) (k : ℕ) (rs : List Rule) → Rises (places_from root k rs)
rising_from root k [] = λ i j p q l h g. absurd (none-some p h)
rising_from root k (r ∷ rs) =
    rises_split k (places_from root (k + 1) rs) (has_root root r)
    (λ i p h. let (j, q, at, is, has) = only_from root (k + 1) rs i p h in omega arith)
    (rising_from root (k + 1) rs)

-- they rise, so none stands twice
pub rising : (root : Root) (rules : List Rule) → Rises (places_with root rules)
rising root rules = rising_from root 0 rules

-- ---- their number

abbrev tally : Root → List Rule → ℕ
tally root [] = 0
tally root (r ∷ rs) = if has_root root r then 1 + tally root rs else tally root rs

many_split : (k n : ℕ) (xs : List ℕ) (b : Bool) → length xs ≡ n → length (if b then k ∷ xs else xs) ≡ (if b then 1 + n else n)
many_split k n xs true h = omega arith
many_split k n xs false h = h

many_from : (root : Root) (k : ℕ) (rs : List Rule) → length (places_from root k rs) ≡ tally root rs
many_from root k [] = refl
many_from root k (r ∷ rs) = many_split k (tally root rs) (places_from root (k + 1) rs) (has_root root r) (many_from root (k + 1) rs)

-- there are as many as rules with this root
pub many : (root : Root) (rules : List Rule) → length (places_with root rules) ≡ with_root root rules
many root rules = many_from root 0 rules ∙ is_count_by (tally root) (has_root root) refl (λ r rs. refl) rules

pushed_split : (k : ℕ) (xs ys zs : List ℕ) (b : Bool) → xs ≡ ys ++ zs → (if b then k ∷ xs else xs) ≡ (if b then k ∷ ys else ys) ++ zs
pushed_split k xs ys zs true e = ap (λ (l : List ℕ). k ∷ l) e
pushed_split k xs ys zs false e = e

pushed_from : (root : Root) (k : ℕ) (rs : List Rule) (r : Rule) (place : ℕ) → place ≡ k + length rs → places_from root k (rs ++ r ∷ []) ≡ places_from root k rs ++ place_of root r place
pushed_from root k [] r place h = ap (place_of root r) (omega arith)
pushed_from root k (q ∷ rs) r place h =
    pushed_split k (places_from root (k + 1) (rs ++ r ∷ [])) (places_from root (k + 1) rs) (place_of root r place) (has_root root q) (pushed_from root (k + 1) rs r place (omega arith))

-- a rule behind the others adds its place, where it has this root
pub pushed : (root : Root) (rules : List Rule) (r : Rule) → places_with root (rules ++ r ∷ []) ≡ places_with root rules ++ place_of root r (length rules)
pushed root rules r = pushed_from root 0 rules r (length rules) (omega arith)

-- ---- what stands there

-- a rule with this root is a chain rule
pub chain_of : (q : Pattern) (m : ℕ) → root_of (pattern_of q) ≡ Chain m → q ≡ Nonterminal m
chain_of (Nonterminal n) m e = let f : n ≡ m = cc in ap Nonterminal f
chain_of (Leaf op) m e = cc
chain_of (Unary' op x p) m e = cc
chain_of (Binary' op x p y q) m e = cc

-- a place of a list is a rule's
pub place_within : (rules : List Rule) (root : Root) (places : List ℕ) (k : ℕ) → places ≡ places_with root rules → k < length places → get_or places k 0 < length rules
place_within rules root places k are h =
    let place = get_or places k 0 in
    let here : slice_get places k ≡ Some place = slice_get-get_or places k 0 h in
    let o = only root rules k place (sym (ap (λ (l : List ℕ). slice_get l k) are) ∙ here) in
    slice_get_within rules place o.0 o.1

-- the rule at a place of a list
pub rule_there : (rules : List Rule) (root : Root) (places : List ℕ) (k i : ℕ) (r : Rule) → places ≡ places_with root rules → slice_get places k ≡ Some i → r ≡ slice_index_or rules i r → (slice_get rules i ≡ Some r) × (root_of (pattern_of r.pattern) ≡ root)
rule_there rules root places k i r are here is =
    let o = only root rules k i (sym (ap (λ (l : List ℕ). slice_get l k) are) ∙ here) in
    let at : slice_get rules i ≡ Some r = slice_get-get_or rules i r (slice_get_within rules i o.0 o.1) ∙ ap Some (sym is) in
    let same : o.0 ≡ r = (let f : Some o.0 ≡ Some r = sym o.1 ∙ at in cc) in
    (at, sym (ap (λ (z : Rule). root_of (pattern_of z.pattern)) same) ∙ o.2)
