-- A bound of a block's weight from a choice of light nodes, whichever it is: a light node is used at most once, and not behind its
-- stretch, and costs 1; any other one costs what a node costs that is kept. Uses that are to come count as those that are there.
-- Source: Fraser and Hanson, A Retargetable C Compiler, chapter 12 (common subexpressions).
use Rattle.std.specs.Prelude.{◌≡◌, ℕ, ◌+◌, ◌*◌, ◌≤◌, ◌||◌, Bool, true, false, List, [], ◌∷◌, if◌then◌else◌}
use Rattle.dag_forest.specs.declared.act.Act.{Act}
use Rattle.dag_forest.specs.declared.act.Act.TheVariants.{Made, Acts}
use Rattle.dag_forest.specs.declared.entry.Entry.{Entry}
use Rattle.dag_forest.specs.declared.parts.Parts.{Parts}
use Rattle.dag_forest.specs.Choice.{counts, ends_stretch, late, is_computed}
use Rattle.dag_forest.specs.Entries.{is_call}
use Rattle.dag_forest.specs.Schedules.{in_turn}
use Rattle.dag_forest.specs.Tally.{keys_of, node_count}
use Rattle.dag_seam.specs.Turns.{waiting}
use Rattle.dag_seam.specs.Rooms.{AreActs}
use Rattle.dag_seam.proofs.lemmas.Acts.{HasParts, IsAny}
use Rattle.dag_sizes.specs.Sizes.{store_size, read_size}

-- of a node with so many uses, by whether it is light
abbrev pub price : Bool → Parts → ℕ → ℕ
price true x c = 1
price false x c = if is_computed x then 1 + store_size x.operator.suffix + read_size x.operator.suffix * c else c

-- of what a block does, with these uses to come
abbrev pub priced : (ℕ → Bool) → (ℕ → ℕ) → List Act → ℕ
priced light due [] = 0
priced light due (Made n x ∷ as') = price (light n) x (counts as' n + due n) + priced light due as'
priced light due (Acts x ∷ as') = 1 + priced light due as'

-- one of the acts ends a stretch
abbrev pub has_end : List Act → Bool
has_end [] = false
has_end (a ∷ as') = ends_stretch a || has_end as'

-- a node that is made before these acts may be light; where its use is to come, its stretch is open still
pub record MayBeLight (due : ℕ → ℕ) (n : ℕ) (x : Parts) (as' : List Act) : Type 0 where
  pub plain : is_call x.operator.op ≡ false
  pub few : counts as' n + due n ≤ 1
  pub early : late as' n ≡ false
  pub open_ : 1 ≤ due n → has_end as' ≡ false

abbrev pub AreLight : (ℕ → Bool) → (ℕ → ℕ) → List Act → Type 0
AreLight light due [] = Unit {0}
AreLight light due (Made n x ∷ as') = (light n ≡ true → MayBeLight due n x as') × AreLight light due as'
AreLight light due (Acts x ∷ as') = AreLight light due as'

abbrev pub acts_in : List Entry → List Act
acts_in es = in_turn es 0 []

-- A block in which no call waits costs at most so much, with these uses to come of its nodes.
pub record Costs (es : List Entry) (due : ℕ → ℕ) (b : ℕ) : Type 0 where
  pub light : ℕ → Bool
  pub free : waiting es ≡ []
  pub may : AreLight light due (acts_in es)
  pub below : priced light due (acts_in es) ≤ b
  pub none : (m : ℕ) → node_count es ≤ m → due m ≡ 0
  pub known : AreActs (HasParts (keys_of es)) IsAny (acts_in es)
