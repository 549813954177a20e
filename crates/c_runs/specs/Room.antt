-- What calls may take of the machine's memory, as sizes of the unit; and how deep a run goes.
use Rattle.std.specs.Prelude.{ℕ, ◌+◌, ◌*◌, Option, Some, None, List, [], ◌∷◌, slice_get}
use Rattle.c_types.specs.Layout.{Tag}
use Rattle.c_meaning.specs.Units.{FunctionTree, UnitTree}
use Rattle.lcc_base.specs.Traces.{depth_of}
use Rattle.c_runs.specs.Counts.{node_count, frame_count, data_count}
use Rattle.c_runs.specs.Run.{Ending}

-- the bytes by which a function's code may lower the stack pointer
abbrev pub frame_room : List Tag → FunctionTree → ℕ
frame_room tags f = 256 + (frame_count tags f + 64 * node_count f)

-- the instructions that its code may have
abbrev pub code_room : FunctionTree → ℕ
code_room f = 256 + 512 * node_count f

abbrev pub data_rooms : List Tag → List FunctionTree → ℕ
data_rooms tags [] = 0
data_rooms tags (f ∷ fs) = frame_count tags f + 64 * node_count f + data_rooms tags fs

-- the bytes of data that the whole assembly may have
abbrev pub data_room : UnitTree → ℕ
data_room u = data_count u + data_rooms u.tags u.functions

abbrev pub room_by : List Tag → Option FunctionTree → ℕ
room_by tags None = 0
room_by tags (Some f) = frame_room tags f

-- that of the function of a number; built-in functions have none
abbrev pub room : UnitTree → ℕ → ℕ
room u function = room_by u.tags (slice_get u.functions function)

-- the most that the calls which are open at one moment have together
abbrev pub depth : UnitTree → Ending → ℕ
depth u e = depth_of (room u) [] e.world.trace
