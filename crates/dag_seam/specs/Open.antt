-- What the values of an open block's nodes are: each node that is no call, and no read of a stretch that has ended, has the
-- value that its operator gives now.
use Rattle.std.specs.Prelude.{◌≡◌, ℕ, Bool, true, false, Some, List, slice_get}
use Rattle.forests.specs.Words.{Word}
use Rattle.forests.specs.Worlds.{World}
use Rattle.forests.specs.Bodies.{Setting}
use Rattle.dag_forest.specs.declared.entry.Entry.{Entry}
use Rattle.dag_forest.specs.declared.key.Key.{Key}
use Rattle.dag_forest.specs.declared.parts.Parts.{Parts}
use Rattle.dag_forest.specs.Entries.{is_call, is_read}
use Rattle.dag_forest.specs.Meaning.{Keeps, HasNow}
use Rattle.dag_forest.specs.Schedules.{head_of, operands}
use Rattle.dag_forest.specs.Tally.{keys_of, tally}
use Rattle.dag_seam.specs.Turns.{made_of}

-- what the operator of a node gives now over the values of its operands
abbrev pub IsNow : Setting → Keeps → (ℕ → Bool) → Parts → (ℕ → Word) → World → Word → Type 0
IsNow s keeps made x values w v = HasNow (is_read x.operator.op) s keeps made (head_of x) (operands x.kids values) w v

pub record Open (s : Setting) (keeps : Keeps) (entries : List Entry) (values : ℕ → Word) (w : World) : Type 0 where
  pub now : (m : ℕ) (k : Key) → slice_get (keys_of entries) m ≡ Some k → is_call k.parts.operator.op ≡ false → (is_read k.parts.operator.op ≡ true → k.mark ≡ (tally entries).stretch) → IsNow s keeps (made_of entries) k.parts values w (values m)
