-- The nodes that a block gives where it is asked for them: an equal one that is there, or else a new one behind all entries. A template
-- is asked for operand by operand, from left to right, and then as a whole.
-- Source: Fraser and Hanson, A Retargetable C Compiler, chapter 12 (common subexpressions).
use Rattle.std.specs.Prelude.{ℕ, suc, Bool, Option, Some, None, List, [], ◌∷◌, ◌++◌, length, if◌then◌else◌}
use Rattle.op_forest.specs.Nodes.{Head}
use Rattle.dag_forest.specs.contracts.key.KeyPartialEq.TheImpl as key_eq
use Rattle.dag_forest.specs.declared.entry.Entry.{Entry}
use Rattle.dag_forest.specs.declared.entry.Entry.TheVariants as entry
use Rattle.dag_forest.specs.declared.key.Key.{Key}
use Rattle.dag_forest.specs.declared.kids.Kids.{Kids}
use Rattle.dag_forest.specs.declared.kids.Kids.TheVariants as kids
use Rattle.dag_forest.specs.declared.parts.Parts.{Parts}
use Rattle.dag_forest.specs.Entries.{parts_of}
use Rattle.dag_forest.specs.Tally.{keys_of, key_behind}
use Rattle.c_rows_agree.specs.Templates.{Template, Given, Leaf, One, Two, Root}

-- ---- one node

abbrev pub is_same : Key → Key → Bool
is_same a b = key_eq.ghosts.eq a b

-- the place of a key among others, where the first has this one
abbrev pub key_place : Key → List Key → ℕ → Option ℕ
key_place k [] n = None
key_place k (x ∷ xs) n = if is_same k x then Some n else key_place k xs (suc n)

-- a node, and the entries behind which it is there
pub record Asked : Type 0 where
  pub node : ℕ
  pub entries : List Entry

abbrev pub found_or_new : Option ℕ → Parts → List Entry → Asked
found_or_new (Some n) x es = record { node = n; entries = es }
found_or_new None x es = record { node = length (keys_of es); entries = es ++ entry.Value x ∷ [] }

abbrev pub asked_parts : Parts → List Entry → Asked
asked_parts x es = found_or_new (key_place (key_behind es x) (keys_of es) 0) x es

-- ---- templates

abbrev pub with_kids : Head → Kids → Parts
with_kids h ks = parts_of h.operator ks h.sym h.value

-- behind an operand, and behind two
abbrev pub asked_over : Head → Asked → Asked
asked_over h a = asked_parts (with_kids h (kids.One a.node)) a.entries

abbrev pub asked_both : Head → ℕ → Asked → Asked
asked_both h m b = asked_parts (with_kids h (kids.Two m b.node)) b.entries

abbrev pub asked_then : Asked → (List Entry → Asked) → Head → Asked
asked_then a next h = asked_both h a.node (next a.entries)

abbrev pub asked : Template → List Entry → Asked
asked (Given n) es = record { node = n; entries = es }
asked (Leaf h) es = asked_parts (with_kids h kids.Zero) es
asked (One h a) es = asked_over h (asked a es)
asked (Two h a b) es = asked_then (asked a es) (λ fs. asked b fs) h

-- ---- roots

abbrev pub root_over : Head → Asked → List Entry
root_over h a = a.entries ++ entry.Root (with_kids h (kids.One a.node)) ∷ []

abbrev pub root_both : Head → ℕ → Asked → List Entry
root_both h m b = b.entries ++ entry.Root (with_kids h (kids.Two m b.node)) ∷ []

abbrev pub root_then : Asked → (List Entry → Asked) → Head → List Entry
root_then a next h = root_both h a.node (next a.entries)

-- a root with one operand, and one with two
abbrev pub rooted_one : Head → Template → List Entry → List Entry
rooted_one h a es = root_over h (asked a es)

abbrev pub rooted : Root → List Entry → List Entry
rooted r es = root_then (asked r.left es) (λ fs. asked r.right fs) r.head
