-- The names that a statement, an instruction or a datum uses, in order, and a datum with other names.
use Rattle.std.specs.Prelude.{ℕ, Option, Some, None, List, [], ◌∷◌, ◌++◌, get_or}
use Rattle.asm_lines.specs.declared.instruction.Target.{Target}
use Rattle.asm_lines.specs.declared.instruction.Target.TheVariants as target
use Rattle.asm_lines.specs.declared.instruction.Instruction.{Instruction}
use Rattle.asm_lines.specs.declared.instruction.Instruction.TheVariants.{LoadAddress, Load, Store, Branch, BranchIf, Jump, Call}
use Rattle.asm_lines.specs.Statements.{MStatement, Global, Words, Does}
use Rattle.asm_text.specs.declared.datum.Datum.{Datum}
use Rattle.asm_text.specs.declared.datum.Datum.TheVariants.{Byte, Half, Word, Named, Zeros}

abbrev pub name_in : {N : Type 0} → Option N → List N
name_in None = []
name_in (Some name) = name ∷ []

abbrev pub target_names : {N : Type 0} → Target N → List N
target_names (target.Label name) = name ∷ []
target_names (target.Register r) = []

abbrev pub names_of_instruction : {N : Type 0} → Instruction N → List N
names_of_instruction (LoadAddress d a) = name_in a.name
names_of_instruction (Load op d a) = name_in a.name
names_of_instruction (Store op s a) = name_in a.name
names_of_instruction (Branch name) = name ∷ []
names_of_instruction (BranchIf c s t name) = name ∷ []
names_of_instruction (Jump to) = target_names to
names_of_instruction (Call to) = target_names to
names_of_instruction i = []

abbrev pub names_of_items : List (Option (List ℕ) × ℕ) → List (List ℕ)
names_of_items [] = []
names_of_items (item ∷ items) = name_in item.0 ++ names_of_items items

abbrev pub names_of : MStatement → List (List ℕ)
names_of (Global name) = name ∷ []
names_of (Words items) = names_of_items items
names_of (Does i) = names_of_instruction i
names_of s = []

abbrev pub names_of_datum : {N : Type 0} → Datum N → List N
names_of_datum (Named name n) = name ∷ []
names_of_datum d = []

-- the datum with other names
abbrev pub datum_with : {A B : Type 0} → (A → B) → Datum A → Datum B
datum_with f (Byte n) = Byte n
datum_with f (Half n) = Half n
datum_with f (Word n) = Word n
datum_with f (Named name n) = Named (f name) n
datum_with f (Zeros n) = Zeros n

-- the name at a place of a list of names
abbrev pub name_at : List (List ℕ) → ℕ → List ℕ
name_at names i = get_or names i []
