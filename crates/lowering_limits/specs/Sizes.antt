-- Bytes and nodes of what a unit is made of, over a table of types.
-- Source: the profile of this compiler (counts of nodes, frames and data).
use Rattle.std.specs.Prelude.{ℕ, ◌+◌, List, map, length}
use Rattle.c_types.specs.Table.{Table, tags, type_at, types}
use Rattle.c_meaning.specs.declared.core_unit.CoreFunction.{CoreFunction}
use Rattle.c_meaning.specs.declared.core_unit.CoreObject.{CoreObject}
use Rattle.c_meaning.specs.Units.{function_seen}
use Rattle.c_runs.specs.Counts.{sum, eights, frame_count, local_room, node_count, rounded_size}

-- of an object of the type at a place
abbrev pub bytes_at : Table → ℕ → ℕ
bytes_at t id = rounded_size (tags t) (type_at t id)

-- of a local one
abbrev pub room_at : Table → ℕ → ℕ
room_at t id = local_room (tags t) (type_at t id)

abbrev pub local_bytes : Table → List ℕ → ℕ
local_bytes t ids = sum (map (room_at t) ids)

abbrev pub object_bytes : Table → List CoreObject → ℕ
object_bytes t os = sum (map (λ (o : CoreObject). bytes_at t o.of) os)

abbrev pub text_bytes : List (List ℕ) → ℕ
text_bytes ts = sum (map (λ (t : List ℕ). eights (length t + 1)) ts)

abbrev pub frame_counts_in : Table → List CoreFunction → List ℕ
frame_counts_in t fs = map (frame_count (tags t)) (map (function_seen (types t)) fs)

abbrev pub node_counts_in : Table → List CoreFunction → List ℕ
node_counts_in t fs = map node_count (map (function_seen (types t)) fs)
