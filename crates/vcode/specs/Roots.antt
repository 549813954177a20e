-- What linearising asks of a forest's roots: how they are derived, and where labels and moves of control stand.
-- Source: Fraser and Hanson, A Retargetable C Compiler, chapter 5 (roots) and chapter 14.
use Rattle.std.specs.Prelude.{◌≡◌, ℕ, ◌||◌, true, false, List}
use Rattle.std.specs.List.{AllZip}
use Rattle.lburg_model.specs.Derivation.{MDerivation, Derives}
use Rattle.lburg_model.specs.Description.{MDescription}
use Rattle.op_forest.specs.declared.suffix.Suffix.TheVariants.{V}
use Rattle.op_forest.specs.declared.sym.Sym.TheVariants as sym
use Rattle.op_forest.specs.Nodes.{Head, Node, Leaf, One, Two, tree_of}
use Rattle.vcode.specs.RuleSets.{is_label, is_move}

-- the derivations, as many as there are nodes, derive the start symbol at these in order
abbrev pub AreDerived : MDescription → List Node → List MDerivation → Type 0
AreDerived d ts xs = AllZip (λ t x. Derives d.rules d.start (tree_of t) x) ts xs

-- neither a label nor a return, a jump or a comparison
abbrev pub IsStill : Head → Type 0
IsStill h = (is_label h.operator.op || is_move h.operator.op) ≡ false

abbrev pub AllStill : Node → Type 0
AllStill (Leaf h) = IsStill h
AllStill (One h a) = IsStill h × AllStill a
AllStill (Two h a b) = IsStill h × AllStill a × AllStill b

-- a label is a LABELV with its symbol
abbrev pub IsLabelled : Head → Type 0
IsLabelled h = is_label h.operator.op ≡ true → (h.operator.suffix ≡ V) × ((l : ℕ) × (h.sym ≡ sym.Label l))

-- labels and moves of control are roots alone, and a label has no operands
abbrev pub IsQuiet : Node → Type 0
IsQuiet (Leaf h) = IsLabelled h
IsQuiet (One h a) = (is_label h.operator.op ≡ false) × AllStill a
IsQuiet (Two h a b) = (is_label h.operator.op ≡ false) × AllStill a × AllStill b
