-- The frames of open calls on the machine's stack.
use Rattle.std.specs.Prelude.{◌≡◌, ◌≤◌, ◌<◌, ◌⊎◌, ℕ, ◌+◌, ◌-◌, ◌*◌, ◌%◌, ◌^◌, ◌&&◌, nat_le, nat_lt, if◌then◌else◌, List, [], ◌∷◌, length, Option, None, slice_get, slice_index, take, drop}
use Rattle.lcc_base.specs.declared.order.Order.{Order}
use Rattle.lcc_base.specs.NumberIn.{number_in}
use Rattle.asm_text.specs.Addresses.{stack_top, floor_of}
use Rattle.mips_target.specs.declared.layout.Layout.{Layout}
use Rattle.mips_target.specs.Frame.{frame_size}

-- a call that waits for another: its stack pointer and its frame's layout
pub record Waiting : Type 0 where
  pub low : ℕ
  pub layout : Layout

-- the words of a frame that are read again behind a call: the spill slots and the return address, counted from the stack
-- pointer
abbrev pub IsOwn : Layout → ℕ → Type 0
IsOwn l k = (l.arguments ≤ k) × (k ≤ l.arguments + l.slots)

-- the addresses of the words that the waiting calls read again
abbrev pub Kept : List Waiting → ℕ → Type 0
Kept [] a = ⊥
Kept (x ∷ xs) a = ((k : ℕ) × IsOwn x.layout k × (a ≡ x.low + 4 * k)) ⊎ Kept xs a

-- A call that is run: its stack pointer, its frame's layout, the address to which it returns, the stack's bytes when it
-- began, the calls that wait for it, the innermost first, and the functions whose calls are open, this one first.
pub record Frame : Type 0 where
  pub low : ℕ
  pub layout : Layout
  pub back : ℕ
  pub bytes : List ℕ
  pub outer : List Waiting
  pub open_calls : List ℕ

-- the size of the stack
abbrev pub stack_of : Frame → ℕ
stack_of f = length f.bytes

-- the frame lies in the stack, below what the waiting calls keep
pub record IsSound (f : Frame) : Type 0 where
  pub within : stack_of f ≤ 16777216
  pub above : floor_of (stack_of f) ≤ f.low
  pub below : f.low + frame_size f.layout ≤ stack_top
  pub four : f.low % 4 ≡ 0
  pub back : f.back < 2 ^ 32
  pub outer : (a : ℕ) → Kept f.outer a → (f.low + frame_size f.layout ≤ a) × (a + 4 ≤ stack_top) × (a % 4 ≡ 0)

-- the word that stands at a place of bytes
abbrev pub word_at : Order → List ℕ → ℕ → ℕ
word_at order bytes place = number_in order (take 4 (drop place bytes))

-- the word at an address of the stack
abbrev pub stack_word : Order → List ℕ → ℕ → ℕ
stack_word order bytes a = word_at order bytes (a - floor_of (length bytes))

-- word k of the frame
abbrev pub frame_word : Order → Frame → List ℕ → ℕ → ℕ
frame_word order f bytes k = stack_word order bytes (f.low + 4 * k)

-- the byte at an address, if it is the stack's
abbrev pub memory_of : List ℕ → ℕ → Option ℕ
memory_of bytes a = if nat_le (floor_of (length bytes)) a && nat_lt a stack_top then slice_get bytes (a - floor_of (length bytes)) else None

-- what the machine keeps while a call is run: its words and bytes are such, and what the waiting calls keep is as it was
pub record Leaves (order : Order) (f : Frame) (registers bytes : List ℕ) : Type 0 where
  pub words : (r : ℕ) → slice_index registers r < 2 ^ 32
  pub count : length registers ≡ 32
  pub room : length bytes ≡ stack_of f
  pub small : (x : ℕ) → slice_index bytes x < 256
  pub above : (a : ℕ) → Kept f.outer a → stack_word order bytes a ≡ stack_word order f.bytes a
