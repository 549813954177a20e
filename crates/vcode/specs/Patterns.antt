-- Where a rule's pattern fits a node, and what the pattern does with the values of its nonterminals.
-- Source: Fraser and Hanson, A Retargetable C Compiler, chapter 14.
use Rattle.std.specs.Prelude.{ℕ, ◌==◌, ◌&&◌, ◌||◌, not, Bool, true, false, Option, Some, None, List, [], ◌∷◌, ◌++◌, if◌then◌else◌}
use Rattle.lburg_model.specs.Pattern.{MPattern, PHole, PLeaf, POne, PTwo}
use Rattle.op_forest.specs.Nodes.{Node, Leaf, One, Two, number_of}
use Rattle.forests.specs.Words.{Word}
use Rattle.forests.specs.Worlds.{Point, Next, Effect, Went, Stuck, then_do}
use Rattle.forests.specs.Bodies.{Setting, does}
use Rattle.forests.specs.Bodies.{evaluate}

-- a nonterminal, and the node that it meets
abbrev pub Meeting : Type 0
Meeting = ℕ × Node

abbrev pub both : Option (List Meeting) → Option (List Meeting) → Option (List Meeting)
both None ys = None
both (Some xs) None = None
both (Some xs) (Some ys) = Some (xs ++ ys)

-- where the pattern fits, its nonterminals from left to right with the nodes that they meet
abbrev pub leaves_at : MPattern → Node → Option (List Meeting)
leaves_at (PHole n) t = Some ((n, t) ∷ [])
leaves_at (PLeaf op) (Leaf h) = if op == number_of h then Some [] else None
leaves_at (POne op p) (One h a) = if op == number_of h then leaves_at p a else None
leaves_at (PTwo op p q) (Two h a b) = if op == number_of h then both (leaves_at p a) (leaves_at q b) else None
leaves_at p t = None

-- A pattern below the root with its nonterminals' values, from left to right, each a list of at most one: its own
-- operators act, and then what follows does with its values and the values that are left.
abbrev pub inner : Setting → MPattern → Node → List (List Word) → Point → (List Word → List (List Word) → Point → Effect) → Effect
inner s (PHole n) t [] p go = Stuck
inner s (PHole n) t (ws ∷ vs) p go = go ws vs p
inner s (PLeaf op) (Leaf h) vs p go = then_do (does s h [] p) (λ ws p1. go ws vs p1)
inner s (POne op q) (One h a) vs p go = inner s q a vs p (λ xs us p1. then_do (does s h xs p1) (λ ws p2. go ws us p2))
inner s (PTwo op q r) (Two h a b) vs p go =
    inner s q a vs p (λ xs us p1. inner s r b us p1 (λ ys rest p2. then_do (does s h (xs ++ ys) p2) (λ ws p3. go ws rest p3)))
inner s q t vs p go = Stuck

-- what a rule's pattern does at a node with the values of its nonterminals; a chain rule hands its value on
abbrev pub pattern_effect : Setting → MPattern → Node → List (List Word) → Point → Effect
pattern_effect s (PHole n) t [] p = Stuck
pattern_effect s (PHole n) t (ws ∷ vs) p = Went ws p Next
pattern_effect s (PLeaf op) (Leaf h) vs p = does s h [] p
pattern_effect s (POne op q) (One h a) vs p = inner s q a vs p (λ xs us p1. does s h xs p1)
pattern_effect s (PTwo op q r) (Two h a b) vs p = inner s q a vs p (λ xs us p1. inner s r b us p1 (λ ys rest p2. does s h (xs ++ ys) p2))
pattern_effect s q t vs p = Stuck

-- the nodes from left to right, and then what follows with their values
abbrev pub each_of : Setting → List Node → Point → (List (List Word) → Point → Effect) → Effect
each_of s [] p go = go [] p
each_of s (t ∷ ts) p go = then_do (evaluate s t p) (λ ws p1. each_of s ts p1 (λ vs p2. go (ws ∷ vs) p2))

abbrev pub is_chain : MPattern → Bool
is_chain (PHole n) = true
is_chain (PLeaf op) = false
is_chain (POne op p) = false
is_chain (PTwo op p q) = false

abbrev pub has_hole : MPattern → Bool
has_hole (PHole n) = true
has_hole (PLeaf op) = false
has_hole (POne op p) = has_hole p
has_hole (PTwo op p q) = has_hole p || has_hole q

-- the operators whose value depends on their operands' values alone: CNSTI, NEGI, ADDI, SUBI, MULI
abbrev pub is_steady : ℕ → Bool
is_steady op = (op == 3) || ((op == 37) || ((op == 39) || ((op == 42) || (op == 45))))

abbrev pub all_steady : MPattern → Bool
all_steady (PHole n) = true
all_steady (PLeaf op) = is_steady op
all_steady (POne op p) = is_steady op && all_steady p
all_steady (PTwo op p q) = is_steady op && (all_steady p && all_steady q)

-- no nonterminal stands, in preorder, behind an operator that isn't steady, but below it
abbrev pub is_ordered : MPattern → Bool
is_ordered (PHole n) = true
is_ordered (PLeaf op) = true
is_ordered (POne op p) = is_ordered p
is_ordered (PTwo op p q) = is_ordered p && (is_ordered q && (all_steady p || not (has_hole q)))
