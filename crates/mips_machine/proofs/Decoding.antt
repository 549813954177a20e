-- Code that is decoded, one instruction after another.
use Rattle.std.proofs.Common.{◌≡◌, ◌<◌, ◌≤◌, ◌+◌, ℕ, List, [], ◌∷◌, ◌++◌, length, map, take, get_or, sym, ap, ◌∙◌, subst}
use Rattle.std.specs.Prelude.{slice_get}
use Rattle.std.specs.Option.{option_map}
use Rattle.std.proofs.lemmas.List.{length-map, map-append, take_more}
use Rattle.std.proofs.lemmas.Option.{slice_get-map}
use Rattle.asm_lines.specs.declared.instruction.Instruction.{Instruction}
use Rattle.mips_machine.specs.InstructionOf.{instruction_of}
use Rattle.mips_machine.specs.StepTable.{fetched}
use Rattle.mips_machine.specs.declared.decoded.Decoded.{Decoded}

-- what stands at an address is what is decoded there
pub fetched-decoded : (code : List Decoded) (pc k : ℕ) → length code ≤ 4194304 → ((all : List (Instruction ℕ)) → length all ≤ 4194304 → slice_get all k ≡ fetched all pc) → option_map instruction_of (slice_get code k) ≡ fetched (map instruction_of code) pc
fetched-decoded code pc k few at =
    sym (slice_get-map instruction_of code k) ∙ at (map instruction_of code) (subst (λ (n : ℕ). n ≤ 4194304) (sym (length-map code instruction_of)) few)

-- one instruction more
pub decoded_more : (code : List (Instruction ℕ)) (i : ℕ) (old new : List Decoded) (d : Decoded) (x : Instruction ℕ) → i < length code → map instruction_of old ≡ take i code → instruction_of d ≡ get_or code i x → new ≡ old ++ d ∷ [] → map instruction_of new ≡ take (i + 1) code
decoded_more code i old new d x within before is e =
    ap (map instruction_of) e
    ∙ map-append instruction_of old (d ∷ [])
    ∙ ap (λ (l : List (Instruction ℕ)). l ++ instruction_of d ∷ []) before
    ∙ ap (λ (j : Instruction ℕ). take i code ++ j ∷ []) is
    ∙ sym (take_more code i x within)

-- all of them
pub decoded_length : (code : List (Instruction ℕ)) (decoded : List Decoded) → map instruction_of decoded ≡ code → length decoded ≡ length code
decoded_length code decoded e = sym (length-map decoded instruction_of) ∙ ap length e
