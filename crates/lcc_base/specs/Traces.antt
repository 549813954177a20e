-- What can be seen of a run, in order: bytes written, and functions opened and closed. Output, open calls and depth
-- are read off it.
use Rattle.std.specs.Prelude.{ℕ, ◌+◌, max, List, [], ◌∷◌}

pub data Event : Type 0 where
  Wrote : (byte : ℕ) → Event
  Opened : (function : ℕ) → Event
  Closed : Event

-- the bytes written
abbrev pub output_of : List Event → List ℕ
output_of [] = []
output_of (Wrote byte ∷ es) = byte ∷ output_of es
output_of (Opened f ∷ es) = output_of es
output_of (Closed ∷ es) = output_of es

abbrev pub outer : List ℕ → List ℕ
outer [] = []
outer (f ∷ fs) = fs

-- the open calls behind an event, the innermost first
abbrev pub opened_by : List ℕ → Event → List ℕ
opened_by calls (Wrote byte) = calls
opened_by calls (Opened f) = f ∷ calls
opened_by calls Closed = outer calls

-- the calls that are open behind the events, where these were open before
abbrev pub open_behind : List ℕ → List Event → List ℕ
open_behind calls [] = calls
open_behind calls (e ∷ es) = open_behind (opened_by calls e) es

-- what the open calls need together, given what each function needs
abbrev pub room_of : (ℕ → ℕ) → List ℕ → ℕ
room_of room [] = 0
room_of room (f ∷ fs) = room f + room_of room fs

-- the most that open calls need together at one moment
abbrev pub depth_of : (ℕ → ℕ) → List ℕ → List Event → ℕ
depth_of room calls [] = room_of room calls
depth_of room calls (e ∷ es) = max (room_of room calls) (depth_of room (opened_by calls e) es)
