-- Lines of a unit can be written where their functions speak of names alone.
use Rattle.std.proofs.Common.{ℕ, ◌+◌, Option, Some, None, List, [], ◌∷◌, refl}
use Rattle.std.specs.Prelude.{All}
use Rattle.std.proofs.lemmas.List.Elements.{All-nil, All-cons}
use Rattle.asm_lines.specs.declared.instruction.Instruction.TheVariants.{LoadAddress, LoadNumber, Move, Unary, Binary, Load, Store, Branch, BranchIf, Jump, Call}
use Rattle.asm_lines.specs.declared.instruction.Target.{Target}
use Rattle.asm_lines.specs.declared.instruction.Target.TheVariants as target
use Rattle.asm_lines.specs.Printable.{IsNamed as IsNameIn, IsTargetNamed, AreInstructionNames, IsPrintable}
use Rattle.asm_lines.specs.Statements.{MStatement, Nothing, Text, Data, Global, Align, Words, Halves, Bytes, Space, Does}
use Rattle.asm_lines.specs.Tokens.{IsName}
use Rattle.asm_text.proofs.lemmas.CodeLines.{IsCode}
use Rattle.asm_text.specs.Names.{name_in, target_names, names_of_instruction, names_of}
use Rattle.asm_text.specs.Printable.{PrintableFrom, ArePrintable}
use Rattle.asm_text.specs.Program.{MInstruction}
use Rattle.unit_text.specs.UnitLines.{Item, Coded, plain, numbered, items_of, unit_lines}
use Rattle.unit_text.proofs.lemmas.CodeAlone.{AllCode, items_code}
use Rattle.unit_text.proofs.lemmas.Speaking.{EachName, ItemsSpeak, FunctionsSpeak, items_speak}

each_name : (names : List (List ℕ)) → EachName IsName names → All IsName names
each_name [] h = All-nil IsName
each_name (n ∷ ns) h = All-cons IsName n ns h.0 (each_name ns h.1)

name_named : (o : Option (List ℕ)) → EachName IsName (name_in o) → IsNameIn o
name_named None h = tt
name_named (Some name) h = h.0

target_named : (to : Target (List ℕ)) → EachName IsName (target_names to) → IsTargetNamed to
target_named (target.Label name) h = h.0
target_named (target.Register r) h = tt

instruction_named : (i : MInstruction) → EachName IsName (names_of_instruction i) → AreInstructionNames i
instruction_named (LoadAddress d a) h = name_named a.name h
instruction_named (LoadNumber d n) h = tt
instruction_named (Move d s) h = tt
instruction_named (Unary op d s) h = tt
instruction_named (Binary op d s t) h = tt
instruction_named (Load op d a) h = name_named a.name h
instruction_named (Store op s a) h = name_named a.name h
instruction_named (Branch name) h = h.0
instruction_named (BranchIf c s t name) h = h.0
instruction_named (Jump to) h = target_named to h
instruction_named (Call to) h = target_named to h

-- a statement of code whose names are names can be written
statement_printable : (s : MStatement) → IsCode s → EachName IsName (names_of s) → IsPrintable s
statement_printable Nothing c h = (tt, tt)
statement_printable Text c h = (tt, tt)
statement_printable Data c h = absurd c
statement_printable (Global name) c h = (h.0, tt)
statement_printable (Align n) c h = absurd c
statement_printable (Words items) c h = absurd c
statement_printable (Halves halves) c h = absurd c
statement_printable (Bytes bytes) c h = absurd c
statement_printable (Space n) c h = absurd c
statement_printable (Does i) c h = (instruction_named i h, tt)

numbered_printable : (n : ℕ) (xs : List Item) → AllCode xs → ItemsSpeak IsName IsName xs → PrintableFrom n (numbered n xs)
numbered_printable n [] c h = tt
numbered_printable n (x ∷ xs) c h = (each_name x.labels h.0, statement_printable x.statement c.0 h.1, refl, numbered_printable (n + 1) xs c.1 h.2)

pub unit_printable : (fs : List Coded) → FunctionsSpeak IsName IsName fs → ArePrintable (unit_lines fs)
unit_printable fs each =
    let items : ItemsSpeak IsName IsName (plain Text ∷ items_of fs) = (tt, tt, items_speak IsName IsName fs each) in numbered_printable 1 (plain Text ∷ items_of fs) (tt, items_code fs) items
