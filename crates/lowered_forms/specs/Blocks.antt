-- What blocks keep where they are asked for nodes, and that this is what a block's own answers are.
use Rattle.std.specs.Prelude.{◌≡◌, ◌⊎◌, ◌<◌, ◌≤◌, ℕ, Some, List, [], ◌∷◌, ◌++◌, slice_get}
use Rattle.op_forest.specs.Nodes.{Head}
use Rattle.dag_forest.specs.declared.entry.Entry.{Entry}
use Rattle.dag_forest.specs.declared.entry.Entry.TheVariants.{Value}
use Rattle.dag_forest.specs.declared.parts.Parts.{Parts}
use Rattle.dag_forest.specs.Tally.{keys_of, key_behind, AreDistinct, AreFormed, node_count}
use Rattle.c_rows_agree.specs.Templates.{Template, Given, Leaf, One, Two, Root}
use Rattle.lowered_forms.specs.Asked.{Asked, asked_parts, asked, rooted, rooted_one}

-- each operand is an earlier node, and no two nodes are equal
pub record IsBlock (es : List Entry) : Type 0 where
  pub formed : AreFormed es 0
  pub distinct : AreDistinct (keys_of es)

-- the nodes that a template finds are among the first n
abbrev pub IsWithin : ℕ → Template → Type 0
IsWithin n (Given m) = m < n
IsWithin n (Leaf h) = Unit {0}
IsWithin n (One h a) = IsWithin n a
IsWithin n (Two h a b) = IsWithin n a × IsWithin n b

-- the block is one still, with the node, and has its earlier nodes
pub record IsThere (es : List Entry) (a : Asked) : Type 0 where
  pub block : IsBlock a.entries
  pub below : a.node < node_count a.entries
  pub others : node_count es ≤ node_count a.entries

abbrev pub TemplatesAreThere : Type 0
TemplatesAreThere = (t : Template) (es : List Entry) → IsBlock es → IsWithin (node_count es) t → IsThere es (asked t es)

abbrev pub RootsAreThere : Type 0
RootsAreThere =
    (r : Root) (es : List Entry) → IsBlock es → IsWithin (node_count es) r.left → IsWithin (node_count es) r.right
    → IsBlock (rooted r es) × (node_count es ≤ node_count (rooted r es))

abbrev pub LoneRootsAreThere : Type 0
LoneRootsAreThere =
    (h : Head) (t : Template) (es : List Entry) → IsBlock es → IsWithin (node_count es) t
    → IsBlock (rooted_one h t es) × (node_count es ≤ node_count (rooted_one h t es))

-- ---- a block's answers

-- a block is asked for a node of these parts, and answers with its number; what it leaves
pub record IsAnswer (es : List Entry) (x : Parts) (n : ℕ) (new : List Entry) : Type 0 where
  pub node : slice_get (keys_of new) n ≡ Some (key_behind es x)
  pub again : (m : ℕ) → slice_get (keys_of es) m ≡ Some (key_behind es x) → (n ≡ m) × (new ≡ es)
  pub added : (new ≡ es) ⊎ (new ≡ es ++ Value x ∷ [])
  pub distinct : AreDistinct (keys_of new)

abbrev pub AnswersAreAsked : Type 0
AnswersAreAsked = (es new : List Entry) (x : Parts) (n : ℕ) → IsAnswer es x n new → asked_parts x es ≡ record { node = n; entries = new }
