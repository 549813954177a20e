-- The instruction at an address.
use Rattle.std.proofs.Common.{◌≡◌, ℕ, ◌+◌, ◌-◌, ◌*◌, ◌/◌, ◌%◌, ◌^◌, ◌<◌, ◌≤◌, Bool, true, false, List, length, None, w32, refl, ap, ◌∙◌, arith}
use Rattle.std.specs.Prelude.{◌==◌, ◌&&◌, bit_or, nat_le, if◌then◌else◌, slice_get}
use Rattle.std.specs.Int.{rotate_right}
use Rattle.std.proofs.lemmas.Bool.Decides.{nat_tests}
use Rattle.std.proofs.lemmas.Nat.{or_comm, or_shifted}
use Rattle.std.proofs.lemmas.Option.{slice_get_past}
use Rattle.asm_lines.specs.declared.instruction.Instruction.{Instruction}
use Rattle.asm_text.specs.Addresses.{code_start, data_start}
use Rattle.mips_machine.specs.StepTable.{fetched}

-- the low two bits stand above the others
rotated : (x : ℕ) → x < 2 ^ 32 → rotate_right w32 x 2 ≡ x % 4 * 2 ^ 30 + x / 4
rotated x h =
    let high : (x * 2 ^ 30) % 2 ^ 32 ≡ x % 4 * 2 ^ 30 = omega arith in
    or_comm (x / 4) ((x * 2 ^ 30) % 2 ^ 32) ∙ ap (λ (n : ℕ). bit_or n (x / 4)) high ∙ or_shifted (x % 4) 30 (x / 4) (omega arith)

abbrev below : ℕ → ℕ
below pc = (pc + 4290772992) % 2 ^ 32

-- a place above the end of the code, or the one in the code
at : (code : List (Instruction ℕ)) (pc k : ℕ) (a b : Bool) → nat_le code_start pc ≡ a → (pc % 4 == 0) ≡ b → length code ≤ 4194304 → pc < 2 ^ 32 → k ≡ below pc % 4 * 2 ^ 30 + below pc / 4 → slice_get code k ≡ (if a && b then slice_get code ((pc - code_start) / 4) else None)
at code pc k true true ea eb few hp is =
    let e : k ≡ (pc - code_start) / 4 = grind (arith, nat_tests) in
    ap (slice_get code) e
at code pc k true false ea eb few hp is =
    let past : length code ≤ k = grind (arith, nat_tests) in
    slice_get_past code k past
at code pc k false b ea eb few hp is =
    let past : length code ≤ k = grind (arith, nat_tests) in
    slice_get_past code k past

pub fetched-rotated : (code : List (Instruction ℕ)) (pc k : ℕ) → length code ≤ 4194304 → pc < 2 ^ 32 → k ≡ rotate_right w32 (below pc) 2 → slice_get code k ≡ fetched code pc
fetched-rotated code pc k few hp e =
    at code pc k (nat_le code_start pc) (pc % 4 == 0) refl refl few hp (e ∙ rotated (below pc) (omega arith))

pub rotated-low : (pc k : ℕ) → pc < 2 ^ 32 → k ≡ rotate_right w32 (below pc) 2 → k < 4194304 → pc < data_start
rotated-low pc k hp e few = omega (arith, e, rotated (below pc) (omega arith), few)
