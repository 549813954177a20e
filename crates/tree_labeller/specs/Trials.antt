-- The rules that the labelling of a tree tries, counted. At each node each rule is tried whose pattern has the node's
-- operator at its root. Then, where some chain rule has a range, each chain rule from a nonterminal that has a derivation
-- there; else the best chains: for each nonterminal that a rule with the node's operator derives there, one to each other
-- nonterminal that chain rules lead to from it.
-- Source: Aho, Ganapathi and Tjiang, Code generation using tree matching and dynamic programming, 1989; Fraser and Hanson,
-- A Retargetable C Compiler, chapter 14.
use Rattle.std.specs.Prelude.{◌≡◌, ℕ, ◌+◌, List, [], ◌∷◌, length}
use Rattle.lburg_model.specs.declared.rule.Rule.{Rule}
use Rattle.lburg_model.specs.Tree.{MTree, op_of, kids_of}
use Rattle.lburg_model.specs.Pattern.{MPattern, PHole, PLeaf, POne, PTwo, pattern_of}
use Rattle.lburg_model.specs.Derivation.{MDerivation, MParts, Apply, Derives}
use Rattle.lburg_model.specs.Description.{MDescription, RuleAt}
use Rattle.lburg_tables.specs.Counted.{Counted}
use Rattle.lburg_tables.specs.Leads.{HasRanged, IsReached}
use Rattle.lburg_tables.specs.Places.{HasRoot, with_root}
use Rattle.lburg_tables.specs.Root.{Operator}

-- a rule of this pattern is tried at the root of the tree, where each chain rule is tried by itself
abbrev pub IsTried : List Rule → MTree → MPattern → Type 0
IsTried rules t (PHole n) = (x : MDerivation) × Derives rules n t x
IsTried rules t (PLeaf op) = op ≡ op_of t
IsTried rules t (POne op p) = op ≡ op_of t
IsTried rules t (PTwo op p q) = op ≡ op_of t

-- so many of these rules are tried at the root of the tree
pub data RuleTrials (rules : List Rule) (t : MTree) : List Rule → ℕ → Type 0 where
  NoRule : RuleTrials rules t [] 0
  Tried : {r : Rule} {rs : List Rule} {n : ℕ} → IsTried rules t (pattern_of r.pattern) → RuleTrials rules t rs n → RuleTrials rules t (r ∷ rs) (n + 1)
  Untried : {r : Rule} {rs : List Rule} {n : ℕ} → (IsTried rules t (pattern_of r.pattern) → ⊥) → RuleTrials rules t rs n → RuleTrials rules t (r ∷ rs) n

-- a rule with the tree's operator at its root, which stands at the root of a derivation, derives the nonterminal
abbrev pub IsBase : MDescription → MTree → ℕ → Type 0
IsBase d t n = (i : ℕ) × (r : Rule) × (parts : MParts) × RuleAt d i r × HasRoot (Operator (op_of t)) r × Derives d.rules n t (Apply (i + 1) parts)

-- so many chains start from the nonterminals below a bound at which some start, each leading to another nonterminal
pub data ChainTrials (d : MDescription) (Starts : ℕ → Type 0) : ℕ → ℕ → Type 0 where
  NoStart : ChainTrials d Starts 0 0
  Start : {m n many : ℕ} → Starts m → Counted (IsReached d.rules m) (length d.nonterminals) many → ChainTrials d Starts m n → ChainTrials d Starts (m + 1) (n + many)
  Pass : {m n : ℕ} → (Starts m → ⊥) → ChainTrials d Starts m n → ChainTrials d Starts (m + 1) n

-- so many rules and chains are tried at the root of the tree
pub data RootTrials (d : MDescription) (t : MTree) : ℕ → Type 0 where
  ByRules : {n : ℕ} → HasRanged d.rules → RuleTrials d.rules t d.rules n → RootTrials d t n
  ByChains : {n : ℕ} → (HasRanged d.rules → ⊥) → ChainTrials d (IsBase d t) (length d.nonterminals) n → RootTrials d t (with_root (Operator (op_of t)) d.rules + n)

-- so many are tried at the nodes of the tree, and of all trees of a list
mutual
  pub data Trials (d : MDescription) : MTree → ℕ → Type 0 where
    AtRoot : {t : MTree} {n m : ℕ} → RootTrials d t n → TrialsOfEach d (kids_of t) m → Trials d t (n + m)

  pub data TrialsOfEach (d : MDescription) : List MTree → ℕ → Type 0 where
    NoTree : TrialsOfEach d [] 0
    Tree : {t : MTree} {ts : List MTree} {n m : ℕ} → Trials d t n → TrialsOfEach d ts m → TrialsOfEach d (t ∷ ts) (n + m)
