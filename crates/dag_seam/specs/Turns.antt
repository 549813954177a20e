-- What waits behind the entries of a block: calls that stand below no root yet, and the nodes above them.
use Rattle.std.specs.Prelude.{◌≡◌, ◌⊎◌, ℕ, suc, List, [], ◌∷◌, ◌++◌, Bool, true, false, if◌then◌else◌}
use Rattle.dag_forest.specs.declared.entry.Entry.{Entry}
use Rattle.dag_forest.specs.declared.entry.Entry.TheVariants.{Value, Root}
use Rattle.dag_forest.specs.declared.act.Act.{Act}
use Rattle.dag_forest.specs.declared.act.Act.TheVariants.{Made, Acts}
use Rattle.dag_forest.specs.Schedules.{at, waits, parted, reversed, kids_list, in_turn}

-- behind these entries, where so many nodes stand before them and these acts wait
abbrev pub waiting_behind : List Entry → ℕ → List Act → List Act
waiting_behind [] n pending = pending
waiting_behind (Value x ∷ es) n pending = if waits x pending then waiting_behind es (suc n) (pending ++ Made n x ∷ []) else waiting_behind es (suc n) pending
waiting_behind (Root x ∷ es) n pending = waiting_behind es n (parted (kids_list x.kids) (reversed pending)).others

-- behind all entries of a block
abbrev pub waiting : List Entry → List Act
waiting entries = waiting_behind entries 0 []

-- which nodes are made behind these acts, where those were made before
abbrev pub made_behind : List Act → (ℕ → Bool) → (ℕ → Bool)
made_behind [] made = made
made_behind (Made n x ∷ as') made = made_behind as' (at made n true)
made_behind (Acts x ∷ as') made = made_behind as' made

-- which nodes of a block are made
abbrev pub made_of : List Entry → (ℕ → Bool)
made_of entries = made_behind (in_turn entries 0 []) (λ m. false)

-- one of these acts makes the node
abbrev pub Makes : ℕ → List Act → Type 0
Makes m [] = ⊥
Makes m (Made n x ∷ as') = (m ≡ n) ⊎ Makes m as'
Makes m (Acts x ∷ as') = Makes m as'
