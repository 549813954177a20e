-- The rules and chains that are tried at the nodes of a tree, counted.
use Rattle.std.proofs.Common.{◌≡◌, ◌≢◌, ℕ, zero, suc, ◌+◌, ◌*◌, ◌≤◌, ◌⊎◌, inl, inr, ⊎_elim, ◌∙◌, Option, Some, None, List, [], ◌∷◌, length, get_or, refl, sym, ap, subst, arith}
use Rattle.std.specs.Prelude.{slice_get, Bool, true, false, ◌==◌, if◌then◌else◌}
use Rattle.std.proofs.lemmas.Bool.Decides.{eqb_tells}
use Rattle.std.proofs.lemmas.Option.{none-some}
use Rattle.lburg_model.specs.declared.pattern.Pattern.{Pattern, Nonterminal}
use Rattle.lburg_model.specs.declared.rule.Rule.{Rule}
use Rattle.place_queue.specs.declared.key.Key.{Key}
use Rattle.lburg_model.specs.Tree.{MTree, TLeaf, TOne, TTwo, nodes, op_of, kids_of}
use Rattle.lburg_model.specs.Pattern.{MPattern, PHole, PLeaf, POne, PTwo, pattern_of}
use Rattle.lburg_model.specs.Derivation.{MDerivation, MParts, Apply, Derives}
use Rattle.lburg_model.specs.Description.{MDescription, RuleAt}
use Rattle.lburg_tables.specs.Counted.{Counted, NoNumber, One, Other}
use Rattle.lburg_tables.specs.declared.cell.Cell.{Cell}
use Rattle.lburg_tables.specs.Leads.{Leads, Empty, Then, IsReached}
use Rattle.lburg_tables.specs.ChainTries.{cell_weight, chain_tries_of, chain_tries}
use Rattle.lburg_tables.specs.Root.{Root, Operator, root_of, same_root}
use Rattle.lburg_tables.specs.Places.{with_root, HasRoot}
use Rattle.lburg_tables.specs.Row.{CellAt, Everywhere}
use Rattle.lburg_tables.proofs.lemmas.Weights.{root_weight, with_more}
use Rattle.tree_labeller.specs.ChainRules.{chain_weight, chain_rules}
use Rattle.tree_labeller.specs.Rows.{Row}
use Rattle.tree_labeller.specs.Labelled.{cell, total, base_total, Labelled, Started}
use Rattle.tree_labeller.specs.Tries.{row_tries, HasCell, ClosingTries, TriedRules, TriedChains}
use Rattle.tree_labeller.specs.Trials.{IsTried, RuleTrials, NoRule, Tried, Untried, IsBase, ChainTrials, NoStart, Start, Pass, RootTrials, ByRules, ByChains, Trials, AtRoot, TrialsOfEach, NoTree, Tree}
use Rattle.tree_labeller.specs.Indexed.{Derivation, Uses, erase, erase_in}
use Rattle.tree_labeller.proofs.lemmas.Erased.{derives, indexed}
use Rattle.tree_labeller.specs.Followed.{parted_of}
use Rattle.tree_labeller.proofs.lemmas.Least.{least_total}
use Rattle.tree_labeller.proofs.lemmas.Cover.{cell_is_best, no_cell}
use Rattle.tree_labeller.proofs.Finish.{Agree, base_agree, base_is_total}
use Rattle.tree_labeller.proofs.Roots.{operator_of}

-- ---- where each chain rule is tried by itself

module _ (rules : List Rule) (t : MTree) (row : List (Option Cell)) (some : (n : ℕ) (c : Cell) → CellAt row n c → (x : MDerivation) × Derives rules n t x) (none : (n : ℕ) → get_or row n None ≡ None → (x : MDerivation) → Derives rules n t x → ⊥) where
  -- how often a rule of this pattern is tried
  abbrev weight : MPattern → ℕ
  weight p = root_weight (Operator (op_of t)) p + chain_tries_of row p

  abbrev Told : MPattern → Type 0
  Told p = (IsTried rules t p × (weight p ≡ 1)) ⊎ ((IsTried rules t p → ⊥) × (weight p ≡ 0))

  by_operator : (p : MPattern) (op : ℕ) → (IsTried rules t p → op ≡ op_of t) → (op ≡ op_of t → IsTried rules t p) → weight p ≡ (if op == op_of t then 1 else 0) → Told p
  by_operator p op to from is =
      let w : Bool → ℕ = λ b. if b then 1 else 0 in
      ⊎_elim
      (λ same. inl (from same.1, is ∙ ap w same.0))
      (λ other. inr ((λ tried. other.1 (to tried)), is ∙ ap w other.0))
      (eqb_tells op (op_of t))

  told : (p : MPattern) → Told p
  told (PHole n) = by_cell (get_or row n None) refl
    where
      by_cell : (o : Option Cell) → get_or row n None ≡ o → Told (PHole n)
      by_cell None e = let f = ap cell_weight e in inr ((λ (x, dx). none n e x dx), omega arith)
      by_cell (Some c) e = let f = ap cell_weight e in inl (some n c e, omega arith)
  told (PLeaf op) = by_operator (PLeaf op) op (λ e. e) (λ e. e) (omega arith)
  told (POne op p) = by_operator (POne op p) op (λ e. e) (λ e. e) (omega arith)
  told (PTwo op p q) = by_operator (PTwo op p q) op (λ e. e) (λ e. e) (omega arith)

  tried_in : (rs : List Rule) → RuleTrials rules t rs (with_root (Operator (op_of t)) rs + chain_tries row rs)
  tried_in [] = NoRule
  tried_in (r ∷ rs) =
      let F : ℕ → Type 0 = λ z. RuleTrials rules t (r ∷ rs) z in
      let m = with_root (Operator (op_of t)) rs + chain_tries row rs in
      let all = with_root (Operator (op_of t)) (r ∷ rs) + chain_tries row (r ∷ rs) in
      let more = with_more (Operator (op_of t)) r rs in
      ⊎_elim
      (λ yes. let w = yes.1 in let e : m + 1 ≡ all = omega arith in subst F e (Tried yes.0 (tried_in rs)))
      (λ no. let w = no.1 in let e : m ≡ all = omega arith in subst F e (Untried no.0 (tried_in rs)))
      (told (pattern_of r.pattern))

-- what the filling of a labelled tree's own row tried
pub row_trials : (rows : List Row) (rules : List Rule) (w at : ℕ) (t : MTree) (row : List (Option Cell)) → Labelled rows rules w at t → ((n : ℕ) → cell rows at n ≡ get_or row n None) → RuleTrials rules t rules (row_tries (op_of t) row rules)
row_trials rows rules w at t row l own =
    tried_in rules t row
    (λ n c e. let best = cell_is_best rows rules w n t at c l (own n ∙ e) in (best.0, best.1.derives))
    (λ n e x dx. no_cell rows rules w n t at l (own n ∙ e) x dx)
    rules

-- ---- where chains are tried

base_of : (rows : List Row) (p : MPattern) (t : MTree) (at op : ℕ) (k : Key) → root_of p ≡ Operator op → total rows p t at ≡ Some k → base_total rows p t at ≡ Some k
base_of rows (PHole n) t at op k e h = cc
base_of rows (PLeaf op') t at op k e h = h
base_of rows (POne op' p) t at op k e h = h
base_of rows (PTwo op' p q) t at op k e h = h

chain_trials_as : (d : MDescription) (P Q : ℕ → Type 0) → ((m : ℕ) → P m → Q m) → ((m : ℕ) → Q m → P m) → (k n : ℕ) → ChainTrials d P k n → ChainTrials d Q k n
chain_trials_as d P Q to from k n NoStart = NoStart
chain_trials_as d P Q to from k n (Start {m = m} {n = i} is chains rest) = Start (to m is) chains (chain_trials_as d P Q to from m i rest)
chain_trials_as d P Q to from k n (Pass {m = m} {n = i} is_not rest) = Pass (λ q. is_not (from m q)) (chain_trials_as d P Q to from m i rest)

-- the rows before and after the tree's own row was stored
module _ (rows rows' : List Row) (d : MDescription) (w at : ℕ) (t : MTree) (base : List (Option Cell)) (labelled : Labelled rows' d.rules w at t) (agree : Agree rows rows' (at + 1) (at + nodes t)) (started : Started rows d.rules at t base Everywhere) where
  is_base : (m : ℕ) → HasCell base m → IsBase d t m
  is_base m (c, here) =
      let (j, r, k, is, left, tot, eq) = started.made m c here in
      let p = pattern_of r.pattern in
      let x = parted_of rows' d.rules w p t at k labelled (base_is_total rows' p t at k (base_agree rows rows' p t at agree ∙ tot)) in
      (j, r, erase_in x.0, is.0, operator_of rows p t at k tot, derives (Uses j r is left x.0))

  told_by : (m i : ℕ) (r : Rule) (parts : MParts) → RuleAt d i r → HasRoot (Operator (op_of t)) r → (e : Derivation d.rules m t) → erase e ≡ Apply (i + 1) parts → HasCell base m
  told_by m i r parts there root (Uses j q is left x) same =
      let number : j + 1 ≡ i + 1 = cc in
      let ji : j ≡ i = omega arith in
      let qr : q ≡ r = (let g : Some q ≡ Some r = sym is.0 ∙ ap (slice_get d.rules) ji ∙ there in cc) in
      let p = pattern_of q.pattern in
      let a = least_total rows' d.rules w x at labelled in
      let rooted : root_of p ≡ Operator (op_of t) = ap (λ (z : Rule). root_of (pattern_of z.pattern)) qr ∙ root in
      let tot = sym (base_agree rows rows' p t at agree) ∙ base_of rows' p t at (op_of t) a.0 rooted a.1 in
      let b = started.closed j q a.0 tt is tot in
      let At : ℕ → Type 0 = λ z. CellAt base z b.0 in
      (b.0, subst At left b.1)

  has_cell : (m : ℕ) → IsBase d t m → HasCell base m
  has_cell m (i, r, parts, there, root, derivation) =
      let f = indexed d.rules (Apply (i + 1) parts) m t derivation in
      told_by m i r parts there root f.0 f.1

  -- what the filling of the row tried is what is tried at the root
  pub root_trials : (row : List (Option Cell)) (n : ℕ) → ((m : ℕ) → cell rows' at m ≡ get_or row m None) → ClosingTries d base row n → RootTrials d t (with_root (Operator (op_of t)) d.rules + n)
  root_trials row n own (TriedRules ranged) = ByRules ranged (row_trials rows' d.rules w at t row labelled own)
  root_trials row n own (TriedChains {many = many} free chains) = ByChains free (chain_trials_as d (HasCell base) (IsBase d t) is_base has_cell (length d.nonterminals) many chains)

-- ---- a tree's trials

pub no_kids : (d : MDescription) (t : MTree) → length (kids_of t) ≡ 0 → TrialsOfEach d (kids_of t) 0
no_kids d (TLeaf op v) e = NoTree
no_kids d (TOne op v a) e = absurd (omega arith)
no_kids d (TTwo op v a b) e = absurd (omega arith)

pub one_kid : (d : MDescription) (t a : MTree) (n : ℕ) → length (kids_of t) ≡ 1 → slice_get (kids_of t) 0 ≡ Some a → Trials d a n → TrialsOfEach d (kids_of t) (n + 0)
one_kid d (TLeaf op v) a n e f h = absurd (omega arith)
one_kid d (TOne op v x) a n e f h = let g : a ≡ x = cc in let F : MTree → Type 0 = λ z. Trials d z n in Tree (subst F g h) NoTree
one_kid d (TTwo op v x y) a n e f h = absurd (omega arith)

pub two_kids : (d : MDescription) (t a b : MTree) (n m : ℕ) → slice_get (kids_of t) 0 ≡ Some a → slice_get (kids_of t) 1 ≡ Some b → Trials d a n → Trials d b m → TrialsOfEach d (kids_of t) (n + (m + 0))
two_kids d (TLeaf op v) a b n m e f h k = cc
two_kids d (TOne op v x) a b n m e f h k = cc
two_kids d (TTwo op v x y) a b n m e f h k =
    let ax : a ≡ x = cc in
    let by : b ≡ y = cc in
    let F : MTree → Type 0 = λ z. Trials d z n in
    let G : MTree → Type 0 = λ z. Trials d z m in
    Tree (subst F ax h) (Tree (subst G by k) NoTree)

-- ---- how many they are at most

-- the nodes of all trees of a list
abbrev all_nodes : List MTree → ℕ
all_nodes [] = 0
all_nodes (t ∷ ts) = nodes t + all_nodes ts

nodes_are : (t : MTree) → nodes t ≡ 1 + all_nodes (kids_of t)
nodes_are (TLeaf op v) = omega arith
nodes_are (TOne op v a) = omega arith
nodes_are (TTwo op v a b) = omega arith

-- the sum of the first n
abbrev sum_below : (ℕ → ℕ) → ℕ → ℕ
sum_below f zero = 0
sum_below f (suc n) = f n + sum_below f n

sum_next : (f : ℕ → ℕ) (n : ℕ) → sum_below f (n + 1) ≡ f n + sum_below f n
sum_next f n = let e : n + 1 ≡ suc n = omega arith in ap (sum_below f) e

-- the weight of a chain rule at its left side
abbrev weight_at : Rule → ℕ → ℕ
weight_at r n = if r.left == n then chain_weight (pattern_of r.pattern) else 0

-- how many chain rules have n as their left side
abbrev lefts : List Rule → ℕ → ℕ
lefts [] n = 0
lefts (r ∷ rs) n = weight_at r n + lefts rs n

one_left : (r : Rule) (k : ℕ) → (k ≤ r.left → sum_below (weight_at r) k ≡ 0) × (sum_below (weight_at r) k ≤ chain_weight (pattern_of r.pattern))
one_left r zero = ((λ h. refl), omega arith)
one_left r (suc k) =
    let a = one_left r k in
    let a1 = a.1 in
    let W : Bool → ℕ = λ b. if b then chain_weight (pattern_of r.pattern) else 0 in
    ⊎_elim
    (λ same. let w : weight_at r k ≡ chain_weight (pattern_of r.pattern) = ap W same.0 in let e = same.1 in let none = a.0 (omega arith) in ((λ h. absurd (omega arith)), omega arith))
    (λ other. let w : weight_at r k ≡ 0 = ap W other.0 in ((λ h. let none = a.0 (omega arith) in omega arith), omega arith))
    (eqb_tells r.left k)

sum_none : (k : ℕ) → sum_below (lefts []) k ≡ 0
sum_none zero = refl
sum_none (suc k) = let a = sum_none k in omega arith

sum_more : (r : Rule) (rs : List Rule) (k : ℕ) → sum_below (lefts (r ∷ rs)) k ≡ sum_below (weight_at r) k + sum_below (lefts rs) k
sum_more r rs zero = omega arith
sum_more r rs (suc k) = let a = sum_more r rs k in omega arith

all_lefts : (rs : List Rule) (k : ℕ) → sum_below (lefts rs) k ≤ chain_rules rs
all_lefts [] k = let a = sum_none k in omega arith
all_lefts (r ∷ rs) k = let a = sum_more r rs k in let b = (one_left r k).1 in let c = all_lefts rs k in omega arith

left_there : (rs : List Rule) (i : ℕ) (r : Rule) (p n : ℕ) → slice_get rs i ≡ Some r → r.pattern ≡ Nonterminal p → r.left ≡ n → 1 ≤ lefts rs n
left_there [] i r p n at is left = absurd (none-some r at)
left_there (q ∷ rs) zero r p n at is left =
    let f : q ≡ r = cc in
    let pattern : q.pattern ≡ Nonterminal p = ap (λ (z : Rule). z.pattern) f ∙ is in
    let one : chain_weight (pattern_of q.pattern) ≡ 1 = ap (λ (z : Pattern). chain_weight (pattern_of z)) pattern in
    let same : q.left ≡ n = ap (λ (z : Rule). z.left) f ∙ left in
    let W : Bool → ℕ = λ b. if b then chain_weight (pattern_of q.pattern) else 0 in
    ⊎_elim
    (λ eq. let w : weight_at q n ≡ chain_weight (pattern_of q.pattern) = ap W eq.0 in omega arith)
    (λ ne. absurd (ne.1 same))
    (eqb_tells q.left n)
left_there (q ∷ rs) (suc i) r p n at is left = let a = left_there rs i r p n at is left in omega arith

reached_left : (rules : List Rule) (m n cost count number : ℕ) → n ≢ m → Leads rules m n cost count number → 1 ≤ lefts rules n
reached_left rules m n cost count number ne (Empty e) = absurd (ne e)
reached_left rules m n cost count number ne (Then {p = p} i r before free left) = left_there rules i r p n free.0 free.1 left

counted_most : (P : ℕ → Type 0) (f : ℕ → ℕ) → ((n : ℕ) → P n → 1 ≤ f n) → (k many : ℕ) → Counted P k many → many ≤ sum_below f k
counted_most P f least k many NoNumber = omega arith
counted_most P f least k many (One {n = n} {many = i} is rest) = let a = counted_most P f least n i rest in let b = least n is in let c = sum_next f n in omega arith
counted_most P f least k many (Other {n = n} is_not rest) = let a = counted_most P f least n many rest in let c = sum_next f n in omega arith

-- each chain has a chain rule of its own at its end
few_chains : (rules : List Rule) (m k many : ℕ) → Counted (IsReached rules m) k many → many ≤ chain_rules rules
few_chains rules m k many counted =
    let a = counted_most (IsReached rules m) (lefts rules) (λ n (ne, cost, count, number, l). reached_left rules m n cost count number ne l) k many counted in
    let b = all_lefts rules k in
    omega arith

one_start : (m n many c : ℕ) → n ≤ m * c → many ≤ c → n + many ≤ (m + 1) * c
one_start m n many c h i = grind arith

one_pass : (m n c : ℕ) → n ≤ m * c → n ≤ (m + 1) * c
one_pass m n c h = grind arith

most_chains : (d : MDescription) (Starts : ℕ → Type 0) (k n : ℕ) → ChainTrials d Starts k n → n ≤ k * chain_rules d.rules
most_chains d Starts k n NoStart = omega arith
most_chains d Starts k n (Start {m = m} {n = i} {many = many} is chains rest) = one_start m i many (chain_rules d.rules) (most_chains d Starts m i rest) (few_chains d.rules m (length d.nonterminals) many chains)
most_chains d Starts k n (Pass {m = m} is_not rest) = one_pass m n (chain_rules d.rules) (most_chains d Starts m n rest)

most_rules : (rules : List Rule) (t : MTree) (rs : List Rule) (n : ℕ) → RuleTrials rules t rs n → n ≤ length rs
most_rules rules t [] n NoRule = omega arith
most_rules rules t (r ∷ rs) n (Tried {n = m} is rest) = let a = most_rules rules t rs m rest in omega arith
most_rules rules t (r ∷ rs) n (Untried is_not rest) = let a = most_rules rules t rs n rest in omega arith

one_or_none : (b : Bool) → (if b then 1 else 0) ≤ 1
one_or_none true = omega arith
one_or_none false = omega arith

most_with_root : (root : Root) (rs : List Rule) → with_root root rs ≤ length rs
most_with_root root [] = omega arith
most_with_root root (r ∷ rs) = let a = most_with_root root rs in let b = with_more root r rs in let c = one_or_none (same_root (root_of (pattern_of r.pattern)) root) in omega arith

-- the rules, and the chain rules from each nonterminal
abbrev pub most_at_node : MDescription → ℕ
most_at_node d = length d.rules + length d.nonterminals * chain_rules d.rules

most_at_root : (d : MDescription) (t : MTree) (n : ℕ) → RootTrials d t n → n ≤ most_at_node d
most_at_root d t n (ByRules ranged rest) = let a = most_rules d.rules t d.rules n rest in omega arith
most_at_root d t n (ByChains {n = m} free chains) =
    let a = most_chains d (IsBase d t) (length d.nonterminals) m chains in
    let b = most_with_root (Operator (op_of t)) d.rules in
    omega arith

sum_most : (n m k s q : ℕ) → n ≤ q → m ≤ s * q → k ≡ 1 + s → n + m ≤ k * q
sum_most n m k s q h i e = grind arith

sum_all : (n m k s q : ℕ) → n ≤ k * q → m ≤ s * q → n + m ≤ (k + s) * q
sum_all n m k s q h i = grind arith

mutual
  -- the trials of a tree, by its nodes
  pub most_trials : (d : MDescription) (t : MTree) (n : ℕ) → Trials d t n → n ≤ nodes t * most_at_node d
  most_trials d t n (AtRoot {n = k} {m = m} root rest) =
      sum_most k m (nodes t) (all_nodes (kids_of t)) (most_at_node d) (most_at_root d t k root) (most_of_each d (kids_of t) m rest) (nodes_are t)

  most_of_each : (d : MDescription) (ts : List MTree) (n : ℕ) → TrialsOfEach d ts n → n ≤ all_nodes ts * most_at_node d
  most_of_each d [] n NoTree = omega arith
  most_of_each d (t ∷ ts) n (Tree {n = k} {m = m} here rest) =
      sum_all k m (nodes t) (all_nodes ts) (most_at_node d) (most_trials d t k here) (most_of_each d ts m rest)
