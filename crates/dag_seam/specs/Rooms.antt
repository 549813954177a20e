-- Where a node is made, and which room it has there.
use Rattle.std.specs.Prelude.{◌≡◌, ◌⊎◌, ℕ, suc, ◌≤◌, true, false, List, [], ◌∷◌}
use Rattle.dag_forest.specs.declared.act.Act.{Act}
use Rattle.dag_forest.specs.declared.act.Act.TheVariants.{Made, Acts}
use Rattle.dag_forest.specs.declared.entry.Entry.{Entry}
use Rattle.dag_forest.specs.declared.entry.Entry.TheVariants.{Value, Root}
use Rattle.dag_forest.specs.declared.parts.Parts.{Parts}
use Rattle.dag_forest.specs.Choice.{Room, is_computed, counts, late, is_handed, kind_of}
use Rattle.dag_forest.specs.Entries.{is_call}
use Rattle.dag_forest.specs.Schedules.{acts_of}

-- a node of these parts is made by one of the acts, before these others
abbrev pub IsMade : List Act → ℕ → Parts → List Act → Type 0
IsMade [] m y later = ⊥
IsMade (Made n x ∷ as') m y later = ((m ≡ n) × (x ≡ y) × (as' ≡ later)) ⊎ IsMade as' m y later
IsMade (Acts x ∷ as') m y later = IsMade as' m y later

-- each node, by its number, is so, and each root
abbrev pub AreActs : (ℕ → Parts → Type 0) → (Parts → Type 0) → List Act → Type 0
AreActs P Q [] = Unit {0}
AreActs P Q (Made n x ∷ as') = P n x × AreActs P Q as'
AreActs P Q (Acts x ∷ as') = Q x × AreActs P Q as'

-- the same of entries, where so many nodes stand before
abbrev pub AreEntries : (ℕ → Parts → Type 0) → (Parts → Type 0) → List Entry → ℕ → Type 0
AreEntries P Q [] n = Unit {0}
AreEntries P Q (Value x ∷ es) n = P n x × AreEntries P Q es (suc n)
AreEntries P Q (Root x ∷ es) n = Q x × AreEntries P Q es n

-- a node of these parts, made before these acts, needs a room: it is computed, and a call that isn't handed to a root, or
-- used more than once, or behind its stretch
pub record IsNeeded (x : Parts) (later : List Act) (n : ℕ) : Type 0 where
  pub computed : is_computed x ≡ true
  pub cause : ((is_call x.operator.op ≡ true) × (is_handed later n ≡ false)) ⊎ (2 ≤ counts later n) ⊎ (late later n ≡ true)

-- why a node has this room
pub record HasCause (es : List Entry) (n : ℕ) (r : Room) : Type 0 where
  pub parts : Parts
  pub later : List Act
  pub made : IsMade (acts_of es) n parts later
  pub needed : IsNeeded parts later n
  pub kind : r.kind ≡ kind_of parts.operator.suffix
