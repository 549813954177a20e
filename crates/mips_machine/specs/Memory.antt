-- The bytes at addresses: of the data, from 0x10000000 up, or of the stack, below 0x7fff0000.
use Rattle.std.specs.Prelude.{ℕ, ◌+◌, ◌-◌, ◌%◌, ◌^◌, ◌&&◌, nat_le, nat_lt, List, [], ◌∷◌, ◌++◌, Bool, length, take, drop, if◌then◌else◌}
use Rattle.lcc_base.specs.declared.order.Order.{Order}
use Rattle.lcc_base.specs.NumberIn.{number_in}
use Rattle.asm_lines.specs.declared.operator.LoadOp.{LoadOp}
use Rattle.asm_lines.specs.declared.operator.LoadOp.TheVariants as load
use Rattle.asm_lines.specs.declared.operator.StoreOp.{StoreOp}
use Rattle.asm_lines.specs.declared.operator.StoreOp.TheVariants as store
use Rattle.asm_text.specs.Addresses.{data_start, stack_top, floor_of}
use Rattle.asm_text.specs.Linked.{half_bytes, word_bytes}
use Rattle.mips_machine.specs.State.{Cpu}

-- so many bytes from the address on are all of the stack
abbrev pub is_in_stack : Cpu → ℕ → ℕ → Bool
is_in_stack cpu size address = nat_le (floor_of (length cpu.stack)) address && nat_le (address + size) stack_top

-- they are all of the data
abbrev pub is_in_data : Cpu → ℕ → ℕ → Bool
is_in_data cpu size address = nat_le data_start address && nat_le (address + size) (data_start + length cpu.statics)

-- the bytes there
abbrev pub bytes_at : Cpu → ℕ → ℕ → List ℕ
bytes_at cpu size address =
    if is_in_stack cpu size address then take size (drop (address - floor_of (length cpu.stack)) cpu.stack)
    else take size (drop (address - data_start) cpu.statics)

-- bytes with others written over them at a place
abbrev pub with_bytes : List ℕ → ℕ → List ℕ → List ℕ
with_bytes bytes place new = take place bytes ++ new ++ drop (place + length new) bytes

-- the memory with these bytes there
abbrev pub with_bytes_at : Cpu → ℕ → List ℕ → Cpu
with_bytes_at cpu address new =
    if is_in_stack cpu (length new) address then record cpu { stack = with_bytes cpu.stack (address - floor_of (length cpu.stack)) new }
    else record cpu { statics = with_bytes cpu.statics (address - data_start) new }

-- ---- loads and stores

-- how many bytes a load reads
abbrev pub load_size : LoadOp → ℕ
load_size load.Byte = 1
load_size load.ByteUnsigned = 1
load_size load.Half = 2
load_size load.HalfUnsigned = 2
load_size load.Word = 4

-- the word of a number of so many bits, of which the highest is its sign
abbrev pub sign_extended : ℕ → ℕ → ℕ
sign_extended bits n = if nat_lt n (2 ^ (bits - 1)) then n else n + 2 ^ 32 - 2 ^ bits

-- the word that a load makes of the number that it reads
abbrev pub extended : LoadOp → ℕ → ℕ
extended load.Byte n = sign_extended 8 n
extended load.ByteUnsigned n = n
extended load.Half n = sign_extended 16 n
extended load.HalfUnsigned n = n
extended load.Word n = n

abbrev pub loaded : Order → Cpu → LoadOp → ℕ → ℕ
loaded order cpu op address = extended op (number_in order (bytes_at cpu (load_size op) address))

-- how many bytes a store writes
abbrev pub store_size : StoreOp → ℕ
store_size store.Byte = 1
store_size store.Half = 2
store_size store.Word = 4

-- the bytes that a store writes, the low ones of a word
abbrev pub store_bytes : Order → StoreOp → ℕ → List ℕ
store_bytes order store.Byte n = n % 256 ∷ []
store_bytes order store.Half n = half_bytes order n
store_bytes order store.Word n = word_bytes order n

abbrev pub stored : Order → Cpu → StoreOp → ℕ → ℕ → Cpu
stored order cpu op address n = with_bytes_at cpu address (store_bytes order op n)
