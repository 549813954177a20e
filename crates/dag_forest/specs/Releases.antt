-- The first root that each node stands below, by one walk over the entries from the last one on; and what a block does by a
-- second walk, which puts each node that waits into the list of that root.
use Rattle.std.specs.Prelude.{ℕ, suc, min, nat_le, Bool, true, false, ◌&&◌, ◌||◌, List, [], ◌∷◌, ◌++◌, length, get_or, set, replicate, if◌then◌else◌}
use Rattle.dag_forest.specs.declared.entry.Entry.{Entry}
use Rattle.dag_forest.specs.declared.entry.Entry.TheVariants.{Value, Root}
use Rattle.dag_forest.specs.declared.kids.Kids.{Kids}
use Rattle.dag_forest.specs.declared.kids.Kids.TheVariants.{Zero, One, Two}
use Rattle.dag_forest.specs.declared.parts.Parts.{Parts}
use Rattle.dag_forest.specs.Entries.{is_call}
use Rattle.dag_forest.specs.Schedules.{Act, Made, Acts}

abbrev pub root_count : List Entry → ℕ
root_count [] = 0
root_count (Value x ∷ es) = root_count es
root_count (Root x ∷ es) = suc (root_count es)

-- a node stands below a root too, which counts where it is the first
abbrev pub lowered : ℕ → ℕ → List ℕ → List ℕ
lowered root node first = set first node (min (get_or first node 0) root)

abbrev pub lowered_kids : ℕ → Kids → List ℕ → List ℕ
lowered_kids root Zero first = first
lowered_kids root (One a) first = lowered root a first
lowered_kids root (Two a b) first = lowered root b (lowered root a first)

-- by the nodes' numbers, where so many nodes and roots stand before the entries; for a node below no root, the number of all
-- roots
abbrev pub first_roots : List Entry → ℕ → ℕ → List ℕ
first_roots [] n r = replicate n r
first_roots (Value x ∷ es) n r = lowered_kids (get_or (first_roots es (suc n) r) n 0) x.kids (first_roots es (suc n) r)
first_roots (Root x ∷ es) n r = lowered_kids r x.kids (first_roots es n (suc r))

-- whether a node still waits behind so many roots
abbrev pub is_left : List ℕ → List Bool → ℕ → ℕ → Bool
is_left first waits r node = get_or waits node false && nat_le r (get_or first node 0)

abbrev pub has_kid_left : List ℕ → List Bool → ℕ → Kids → Bool
has_kid_left first waits r Zero = false
has_kid_left first waits r (One a) = is_left first waits r a
has_kid_left first waits r (Two a b) = is_left first waits r a || is_left first waits r b

abbrev pub waits_behind : List ℕ → List Bool → ℕ → Parts → Bool
waits_behind first waits r x = is_call x.operator.op || has_kid_left first waits r x.kids

-- the list of a root has one act more at its end
abbrev pub listed : ℕ → Act → List (List Act) → List (List Act)
listed i a lists = set lists i (get_or lists i [] ++ a ∷ [])

-- the entries behind so many roots, where it is known of each node before whether it was to wait, and what the lists hold
abbrev pub by_lists : List ℕ → List Entry → ℕ → List Bool → List (List Act) → List Act
by_lists first [] r waits lists = []
by_lists first (Value x ∷ es) r waits lists =
    if waits_behind first waits r x then by_lists first es r (waits ++ true ∷ []) (listed (get_or first (length waits) 0) (Made (length waits) x) lists)
    else Made (length waits) x ∷ by_lists first es r (waits ++ false ∷ []) lists
by_lists first (Root x ∷ es) r waits lists = get_or lists r [] ++ Acts x ∷ by_lists first es (suc r) waits lists
