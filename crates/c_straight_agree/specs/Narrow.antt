-- What operators of the suffixes C and S give.
use Rattle.std.specs.Prelude.{◌≡◌, ℕ, List}
use Rattle.op_forest.specs.declared.suffix.Suffix.TheVariants.{C, S}
use Rattle.op_forest.specs.Nodes.{Head}
use Rattle.forests.specs.Actions.{Gave}
use Rattle.forests.specs.Addresses.{Environment}
use Rattle.forests.specs.Objects.{Object}
use Rattle.forests.specs.Rows.{acts}
use Rattle.forests.specs.Words.{Word, narrow}

abbrev pub CharsAreNarrow : Type 0
CharsAreNarrow = (e : Environment) → (h : Head) → (ws : List Word) → (objects : List Object) → (v : Word) → h.operator.suffix ≡ C → acts e h ws objects ≡ Gave v → (n : ℕ) × (v ≡ narrow 8 n)

abbrev pub ShortsAreNarrow : Type 0
ShortsAreNarrow = (e : Environment) → (h : Head) → (ws : List Word) → (objects : List Object) → (v : Word) → h.operator.suffix ≡ S → acts e h ws objects ≡ Gave v → (n : ℕ) × (v ≡ narrow 16 n)
