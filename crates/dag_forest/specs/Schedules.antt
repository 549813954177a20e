-- What a block does, in order: its nodes are made and its roots act. A call acts in the first root that it stands below, right
-- before it; so do the nodes above it that were added before that root. Any other node is made where it was added. A node
-- that nothing uses isn't made.
use Rattle.std.specs.Prelude.{ℕ, suc, ◌==◌, ◌||◌, Bool, false, List, [], ◌∷◌, ◌++◌, cond, if◌then◌else◌}
use Rattle.op_forest.specs.Nodes.{Head}
use Rattle.forests.specs.Words.{Word}
pub use Rattle.dag_forest.specs.declared.act.Act.{Act}
pub use Rattle.dag_forest.specs.declared.act.Act.TheVariants.{Made, Acts}
use Rattle.dag_forest.specs.declared.entry.Entry.{Entry}
use Rattle.dag_forest.specs.declared.entry.Entry.TheVariants.{Value, Root}
use Rattle.dag_forest.specs.declared.kids.Kids.{Kids}
use Rattle.dag_forest.specs.declared.kids.Kids.TheVariants.{Zero, One, Two}
use Rattle.dag_forest.specs.declared.parts.Parts.{Parts}
use Rattle.dag_forest.specs.Entries.{is_call}

abbrev pub head_of : Parts → Head
head_of x = record { operator = x.operator; sym = x.sym; value = x.constant }

abbrev pub operands : Kids → (ℕ → Word) → List Word
operands Zero values = []
operands (One a) values = values a ∷ []
operands (Two a b) values = values a ∷ values b ∷ []

-- one value of a map is set
abbrev pub at : {A : Type 0} → (ℕ → A) → ℕ → A → ℕ → A
at f n v m = cond (m == n) v (f m)

-- ---- calls wait for a root

abbrev pub is_in : ℕ → List ℕ → Bool
is_in m [] = false
is_in m (n ∷ ns) = (m == n) || is_in m ns

abbrev pub has_kid_in : Kids → List ℕ → Bool
has_kid_in Zero ns = false
has_kid_in (One a) ns = is_in a ns
has_kid_in (Two a b) ns = is_in a ns || is_in b ns

abbrev pub kids_list : Kids → List ℕ
kids_list Zero = []
kids_list (One a) = a ∷ []
kids_list (Two a b) = a ∷ b ∷ []

abbrev pub number_of : Act → ℕ
number_of (Made n x) = n
number_of (Acts x) = 0

abbrev pub numbers : List Act → List ℕ
numbers [] = []
numbers (a ∷ as') = number_of a ∷ numbers as'

-- a call, or a node above one that waits
abbrev pub waits : Parts → List Act → Bool
waits x pending = is_call x.operator.op || has_kid_in x.kids (numbers pending)

abbrev pub kids_of : Act → Kids
kids_of (Made n x) = x.kids
kids_of (Acts x) = x.kids

-- of the nodes that wait, the last first, those that stand below these numbers, and those that don't
pub record Parted : Type 0 where
  pub below : List Act
  pub others : List Act

abbrev pub with_below : Act → Parted → Parted
with_below a p = record { below = p.below ++ a ∷ []; others = p.others }

abbrev pub with_other : Act → Parted → Parted
with_other a p = record { below = p.below; others = p.others ++ a ∷ [] }

abbrev pub parted : List ℕ → List Act → Parted
parted ns [] = record { below = []; others = [] }
parted ns (a ∷ as') =
    if is_in (number_of a) ns then with_below a (parted (ns ++ kids_list (kids_of a)) as') else with_other a (parted ns as')

abbrev pub reversed : List Act → List Act
reversed [] = []
reversed (a ∷ as') = reversed as' ++ a ∷ []

-- the entries behind so many nodes, where these wait
abbrev pub in_turn : List Entry → ℕ → List Act → List Act
in_turn [] n pending = []
in_turn (Value x ∷ es) n pending =
    if waits x pending then in_turn es (suc n) (pending ++ Made n x ∷ []) else Made n x ∷ in_turn es (suc n) pending
in_turn (Root x ∷ es) n pending =
    (parted (kids_list x.kids) (reversed pending)).below ++ Acts x ∷ in_turn es n (parted (kids_list x.kids) (reversed pending)).others

-- ---- unused nodes aren't made

abbrev pub uses_of : Act → List ℕ
uses_of a = kids_list (kids_of a)

abbrev pub all_uses : List Act → List ℕ
all_uses [] = []
all_uses (a ∷ as') = uses_of a ++ all_uses as'

abbrev pub if_used : Act → List Act → List Act
if_used (Made n x) later = if is_in n (all_uses later) then Made n x ∷ later else later
if_used (Acts x) later = Acts x ∷ later

abbrev pub used : List Act → List Act
used [] = []
used (a ∷ as') = if_used a (used as')

-- what a block does
abbrev pub acts_of : List Entry → List Act
acts_of entries = used (in_turn entries 0 [])
