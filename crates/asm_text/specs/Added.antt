-- What a statement adds to what lines make, part by part.
use Rattle.std.specs.Prelude.{◌≡◌, ◌≤◌, ◌⊎◌, ℕ, Option, List, [], ◌∷◌, ◌++◌, map}
use Rattle.lcc_base.specs.declared.which.Which.TheVariants as which
use Rattle.asm_lines.specs.Statements.{MStatement, Align}
use Rattle.asm_text.specs.declared.asm_fault.AsmFault.{AsmFault}
use Rattle.asm_text.specs.declared.asm_fault.AsmFault.TheVariants.{TooLarge, Memory}
use Rattle.asm_text.specs.FirstFault.{IsPast}
use Rattle.asm_text.specs.Made.{Made, word_datum, with_uses}
use Rattle.asm_text.specs.Names.{names_of_items}
use Rattle.asm_text.specs.Program.{MInstruction, MDatum}

-- with names that the line uses
abbrev pub with_names : Made → ℕ → List (List ℕ) → Made
with_names m line names = record m { uses = with_uses line m.uses names }

-- with an instruction more
abbrev pub with_code : Made → ℕ → MInstruction → Made
with_code m line i = record m { code = m.code ++ i ∷ []; numbers = m.numbers ++ line ∷ [] }

-- with data more
abbrev pub with_data : Made → List MDatum → Made
with_data m datums = record m { datums = m.datums ++ datums }

-- with words of data more, and the names that they use
abbrev pub with_words : Made → ℕ → List (Option (List ℕ) × ℕ) → Made
with_words m line items = with_data (with_names m line (names_of_items items)) (map word_datum items)

-- an allocation was refused, or the data pass their limit in what would be made
abbrev pub IsDataFault : ℕ → Made → AsmFault → Type 0
IsDataFault line m f = (f ≡ Memory) ⊎ ((f ≡ TooLarge line which.Data) × IsPast m which.Data)

-- an alignment is to 2^4 bytes at most
abbrev pub IsAligned : MStatement → Type 0
IsAligned (Align n) = n ≤ 4
IsAligned s = Unit {0}
