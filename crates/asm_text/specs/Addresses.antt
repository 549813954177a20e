-- The map of addresses that all machines have: code from 0x00400000, data from 0x10000000, and the stack below 0x7fff0000
-- down to its floor. The built-in functions and the end of a run have addresses of their own below the code.
use Rattle.std.specs.Prelude.{◌≡◌, ◌≤◌, ℕ, ◌+◌, ◌-◌, ◌*◌, List, codes, Option, Some, None, if◌then◌else◌}
use Rattle.std.specs.Str.{bytes_eq}
use Rattle.asm_text.specs.declared.place.Place.{Place}
use Rattle.asm_text.specs.declared.place.Place.TheVariants.{Code, Data}
use Rattle.asm_text.specs.Program.{MLabel, MProgram, place_of}

abbrev pub code_start : ℕ
code_start = 0x0040_0000

abbrev pub data_start : ℕ
data_start = 0x1000_0000

abbrev pub stack_top : ℕ
stack_top = 0x7fff_0000

-- the lowest address of a stack of so many bytes
abbrev pub floor_of : ℕ → ℕ
floor_of size = stack_top - size

abbrev pub putchar_at : ℕ
putchar_at = 0x0030_0000

abbrev pub getchar_at : ℕ
getchar_at = 0x0030_0004

abbrev pub exit_at : ℕ
exit_at = 0x0030_0008

abbrev pub end_at : ℕ
end_at = 0x0030_0040

-- the address of the built-in function of this name
abbrev pub built_in_at : List ℕ → Option ℕ
built_in_at name =
    if bytes_eq name (codes "putchar") then Some putchar_at
    else (if bytes_eq name (codes "getchar") then Some getchar_at
    else (if bytes_eq name (codes "exit") then Some exit_at
    else None))

-- the address of a place; an instruction takes 4 bytes
abbrev pub address_at : Place → ℕ
address_at (Code n) = code_start + 4 * n
address_at (Data n) = data_start + n

-- the address of a name, by the place of its label, if it has one: a label goes before the built-in function of its
-- name, and a name that is neither's has no address
abbrev pub address_by : List ℕ → Option Place → Option ℕ
address_by name None = built_in_at name
address_by name (Some place) = Some (address_at place)

abbrev pub address_of : MProgram → List ℕ → Option ℕ
address_of p name = address_by name (place_of p.labels name)

-- the name is a label's or a built-in function's
abbrev pub IsKnown : List MLabel → List ℕ → Type 0
IsKnown labels name = (address : ℕ) × (address_by name (place_of labels name) ≡ Some address)

-- the place is within the limits of code or data
abbrev pub IsAddressable : Place → Type 0
IsAddressable (Code n) = n ≤ 4194304
IsAddressable (Data n) = n ≤ 33554432
