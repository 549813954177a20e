-- A block is copied part by part: changes one behind the other.
-- Source: Fraser and Hanson, A Retargetable C Compiler, chapter 13 (block copy).
use Rattle.std.specs.Prelude.{◌≡◌, ◌≤◌, ◌⊎◌, ℕ, ◌+◌, List, ◌++◌, Option, length}
use Rattle.memory_map.specs.Memory.{Changed, Stand}

-- they are one change
abbrev pub ChangesJoin : Type 0
ChangesJoin =
    (first second third : ℕ → Option ℕ) (at next : ℕ) (vs ws : List ℕ)
    → next ≡ at + length vs → Changed first second at vs → Changed second third next ws
    → Changed first third at (vs ++ ws)

-- what stands apart of a change stands on
abbrev pub ApartStands : Type 0
ApartStands =
    (old new : ℕ → Option ℕ) (at from : ℕ) (vs us : List ℕ)
    → Changed old new at vs → (from + length us ≤ at) ⊎ (at + length vs ≤ from) → Stand old from us
    → Stand new from us
