-- When a state of allocated code and the machine are alike, and how the machine follows the code.
-- So far programs place no object in memory: no instruction has an object's address.
use Rattle.std.specs.Prelude.{◌≡◌, ◌≤◌, ◌<◌, ◌⊎◌, ℕ, suc, ◌+◌, ◌*◌, ◌%◌, ◌^◌, nat_lt, if◌then◌else◌, pos, List, [], ◌∷◌, length, Option, None, Some, slice_get, IsTrue}
use Rattle.std.specs.Int.{cast_signed, w32}
use Rattle.lcc_base.specs.declared.order.Order.{Order}
use Rattle.asm_text.specs.Program.{MProgram}
use Rattle.asm_text.specs.Runs.{Ended, StackOut}
use Rattle.asm_text.specs.IsPrefix.{IsPrefix}
use Rattle.forests.specs.Words.{Word}
use Rattle.lcc_base.specs.Traces.{output_of, open_behind, room_of, depth_of}
use Rattle.forests.specs.Worlds.{World, Point, Effect, Went, Exits, Unfinished, Stuck, Outcome, Finished, Exited, Going, Failed}
use Rattle.forests.specs.Begun.{CallsGrow}
use Rattle.vcode.specs.Execution.{State, first_of}
use Rattle.vcode.specs.VirtualCode.{among}
use Rattle.vcode.specs.Maps.{Map, IsWord, Grown, Lies}
use Rattle.asm_text.specs.Addresses.{stack_top, floor_of}
use Rattle.mips_machine.specs.State.{Cpu}
use Rattle.mips_machine.specs.StepTable.{register}
use Rattle.mips_target.specs.Frame.{frame_size}
use Rattle.mips_target.specs.Generated.{temporaries}
use Rattle.mips_programs.specs.Working.{AreBytes, Working, on, runs, Gets}
use Rattle.mips_programs.specs.Frames.{Waiting, Kept, Frame, stack_of, stack_word, frame_word, memory_of, Leaves}

-- no object lies in memory
abbrev pub IsBare : Map → Type 0
IsBare map = (o : ℕ) → map.object o ≡ None

-- these words stand at places k, k + 1 and so on
abbrev pub Handed : Map → (ℕ → ℕ) → ℕ → List Word → Type 0
Handed map at k [] = Unit {0}
Handed map at k (w ∷ ws) = IsWord map w (at k) × Handed map at (suc k) ws

-- The machine shows the world: what was printed, the input that is left, and the objects in memory. The map speaks of the
-- objects that the world has made.
pub record Shows (map : Map) (w : World) (h : Working) : Type 0 where
  pub printed : h.printed ≡ output_of w.trace
  pub input : h.left ≡ w.input
  pub lies : Lies map w.made w.objects (memory_of h.cpu.stack)

-- a state of allocated code in a call, and the machine
pub record Alike (order : Order) (room : ℕ → ℕ) (map : Map) (f : Frame) (s : State) (h : Working) : Type 0 where
  pub leaves : Leaves order f h.cpu.registers h.cpu.stack
  pub shows : Shows map s.point.world h
  pub temps : (r : ℕ) → IsTrue (among r temporaries) → IsWord map (s.registers r) (register h.cpu r)
  pub spilled : (z : ℕ) → z < f.layout.slots → IsWord map (s.slots (pos z)) (frame_word order f h.cpu.stack (f.layout.arguments + z))
  pub handed : Handed map (frame_word order f h.cpu.stack) 0 s.point.world.arguments
  pub few : length s.point.world.arguments ≤ f.layout.arguments
  pub back : frame_word order f h.cpu.stack (f.layout.arguments + f.layout.slots) ≡ f.back
  pub pointer : register h.cpu 29 ≡ f.low
  pub open_calls : open_behind [] s.point.world.trace ≡ f.open_calls
  pub deep : stack_top ≤ f.low + room_of room f.open_calls + 32

abbrev pub IsResult : Map → Option Word → ℕ → Type 0
IsResult map None h = Unit {0}
IsResult map (Some w) h = IsWord map w h

-- the call is back at its caller
pub record Returned (order : Order) (map : Map) (f : Frame) (v : Option Word) (w : World) (h : Working) : Type 0 where
  pub at : h.cpu.pc ≡ f.back
  pub leaves : Leaves order f h.cpu.registers h.cpu.stack
  pub shows : Shows map w h
  pub pointer : register h.cpu 29 ≡ f.low + frame_size f.layout
  pub result : IsResult map v (register h.cpu 2)
  pub open_calls : open_behind [] w.trace ≡ f.open_calls

-- the stack is too small, before this output is whole, and the open calls have room for more than it
pub record Spent (p : MProgram) (order : Order) (room : ℕ → ℕ) (stack : ℕ) (h : Working) (w : World) : Type 0 where
  pub steps : ℕ
  pub pc : ℕ
  pub printed : List ℕ
  pub out : runs p order h steps ≡ record { printed = printed; place = StackOut pc }
  pub part : IsPrefix printed (output_of w.trace)
  pub small : stack < depth_of room [] w.trace + 128

-- the machine is back with a value
pub record Back (p : MProgram) (order : Order) (map : Map) (f : Frame) (h : Working) (v : Option Word) (w : World) : Type 0 where
  pub later : Map
  pub place : Working
  pub gets : Gets p order h place
  pub grown : Grown map later
  pub bare : IsBare later
  pub returned : Returned order later f v w place

-- the machine has ended
pub record Over (p : MProgram) (order : Order) (h : Working) (status : ℕ) (w : World) : Type 0 where
  pub steps : ℕ
  pub ended : runs p order h steps ≡ record { printed = output_of w.trace; place = Ended (cast_signed w32 status) }

-- the machine is at work, with so many steps behind it that they pay for `turns`, where a turn is less than `long` steps
-- and some of them are still to come
pub record Still (p : MProgram) (order : Order) (long turns less : ℕ) (h : Working) (w : World) : Type 0 where
  pub steps : ℕ
  pub place : Working
  pub many : turns ≤ steps * long + less
  pub gets : runs p order h steps ≡ on place
  pub printed : place.printed ≡ output_of w.trace

-- From h the machine follows a run of code of at most n instructions, of which `len` are still to come here. `long` is
-- more than the instructions of any function.
abbrev pub Comes : MProgram → Order → (ℕ → ℕ) → Map → ℕ → Frame → ℕ → ℕ → Working → Outcome → Type 0
Comes p order room map long f n len h (Finished v q) = Back p order map f h v q.world ⊎ Spent p order room (stack_of f) h q.world
Comes p order room map long f n len h (Exited status w) = Over p order h status w ⊎ Spent p order room (stack_of f) h w
Comes p order room map long f n len h (Going w) = Still p order long n len h w ⊎ Spent p order room (stack_of f) h w
Comes p order room map long f n len h Failed = Unit {0}

-- argument word k of a call, where it begins: the first four are in $4 to $7, the others behind 16 bytes on the stack
abbrev pub passed_word : Order → Cpu → ℕ → ℕ
passed_word order cpu k = if nat_lt k 4 then register cpu (4 + k) else stack_word order cpu.stack (register cpu 29 + 4 * k)

-- what is so where a call begins
pub record Entry (order : Order) (room : ℕ → ℕ) (map : Map) (outer : List Waiting) (name : ℕ) (w : World) (h : Working) : Type 0 where
  pub at : h.cpu.pc ≡ map.function name
  pub words : (r : ℕ) → register h.cpu r < 2 ^ 32
  pub count : length h.cpu.registers ≡ 32
  pub within : length h.cpu.stack ≤ 16777216
  pub low : floor_of (length h.cpu.stack) ≤ register h.cpu 29
  pub high : register h.cpu 29 + 4 * length w.arguments ≤ stack_top
  pub four : register h.cpu 29 % 4 ≡ 0
  pub small : (x : ℕ) (b : ℕ) → slice_get h.cpu.stack x ≡ Some b → b < 256
  pub shows : Shows map w h
  pub passed : Handed map (passed_word order h.cpu) 0 w.arguments
  pub kept : (a : ℕ) → Kept outer a → (register h.cpu 29 + 4 * length w.arguments ≤ a) × (a + 4 ≤ stack_top) × (a % 4 ≡ 0)
  pub deep : stack_top ≤ register h.cpu 29 + room_of room (open_behind [] w.trace) + 32

-- a call is over: the machine is where it returns to, with the stack pointer and what the waiting calls keep as they were
pub record CameBack (p : MProgram) (order : Order) (map : Map) (outer : List Waiting) (u : World) (h : Working) (ws : List Word) (w : World) : Type 0 where
  pub later : Map
  pub place : Working
  pub gets : Gets p order h place
  pub grown : Grown map later
  pub bare : IsBare later
  pub at : place.cpu.pc ≡ register h.cpu 31
  pub words : (r : ℕ) → register place.cpu r < 2 ^ 32
  pub count : length place.cpu.registers ≡ 32
  pub room : length place.cpu.stack ≡ length h.cpu.stack
  pub small : (x : ℕ) (b : ℕ) → slice_get place.cpu.stack x ≡ Some b → b < 256
  pub above : (a : ℕ) → Kept outer a → stack_word order place.cpu.stack a ≡ stack_word order h.cpu.stack a
  pub pointer : register place.cpu 29 ≡ register h.cpu 29
  pub result : IsWord later (first_of ws) (register place.cpu 2)
  pub shows : Shows later w place
  pub open_calls : open_behind [] w.trace ≡ open_behind [] u.trace
  pub taken : w.arguments ≡ []

-- from the first instruction of a called function the machine follows what the call, which began in the world u, does
abbrev pub Answers : MProgram → Order → (ℕ → ℕ) → Map → ℕ → ℕ → List Waiting → World → Working → Effect → Type 0
Answers p order room map long far outer u h (Went ws q mv) = CameBack p order map outer u h ws q.world ⊎ Spent p order room (length h.cpu.stack) h q.world
Answers p order room map long far outer u h (Exits status w) = Over p order h status w ⊎ Spent p order room (length h.cpu.stack) h w
Answers p order room map long far outer u h (Unfinished w) = Still p order long far long h w ⊎ Spent p order room (length h.cpu.stack) h w
Answers p order room map long far outer u h Stuck = Unit {0}

-- where a name has an address, the map gives the function it
abbrev pub HasPlaces : Map → (ℕ → Option ℕ) → Type 0
HasPlaces map places = (name address : ℕ) → places name ≡ Some address → map.function name ≡ address

-- the machine follows each call of these names under this meaning, where functions have these addresses, and the input
-- that is left are bytes where the program reads it
pub record Calling (p : MProgram) (order : Order) (room : ℕ → ℕ) (places : ℕ → Option ℕ) (Reads : Type 0) (there : ℕ → Type 0) (long far : ℕ) (calls : ℕ → Point → Effect) : Type 0 where
  pub answers : (map : Map) (outer : List Waiting) (name : ℕ) (q : Point) (h : Working) → there name → (Reads → AreBytes h.left) → IsBare map → HasPlaces map places → Entry order room map outer name q.world h → Answers p order room map long far outer q.world h (calls name q)
  pub grows : CallsGrow calls
