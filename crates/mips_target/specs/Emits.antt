-- Emits: a function's code, but for what keeps its frame, its argument words and its result, is the expanded templates of
-- derivations of its roots.
-- Source: Fraser and Hanson, A Retargetable C Compiler, chapters 13 and 14.
use Rattle.std.specs.Prelude.{◌≤◌, ℕ, ◌==◌, ◌&&◌, nat_lt, Bool, true, false, Option, Some, None, List, [], ◌∷◌, decimal, if◌then◌else◌}
use Rattle.std.specs.List.{AllZip}
use Rattle.lburg_model.specs.Derivation.{MDerivation}
use Rattle.asm_lines.specs.declared.instruction.Instruction.TheVariants.{Move, Binary, Load, Store, Jump}
use Rattle.asm_lines.specs.declared.instruction.Address.{Address}
use Rattle.asm_lines.specs.declared.instruction.Target.{Target}
use Rattle.asm_lines.specs.declared.instruction.Target.TheVariants as target
use Rattle.asm_lines.specs.declared.operator.LoadOp.TheVariants as load
use Rattle.asm_lines.specs.declared.operator.StoreOp.TheVariants as store
use Rattle.asm_text.specs.Lines.{IsLine}
use Rattle.asm_text.specs.Program.{MInstruction}
use Rattle.op_forest.specs.Nodes.{Node}
use Rattle.vcode.specs.Templates.{WritesRoots}
use Rattle.mips_rules.specs.MipsRows.{rows}
use Rattle.mips_target.specs.Bounds.{is_pointer}
use Rattle.unit_text.specs.Items.{CodeItem, Line as AnInstruction, Mark}
use Rattle.unit_text.specs.UnitLines.{item_of}

-- no name is written
abbrev pub has_no_name : Option (List ℕ) → Bool
has_no_name None = true
has_no_name (Some name) = false

-- a word of the frame's first so many bytes, which are its argument words, its spill slots and the return address
abbrev pub is_frame_word : ℕ → Address (List ℕ) → Bool
is_frame_word words a = has_no_name a.name && (is_pointer a.base && nat_lt a.offset words)

abbrev pub is_return : Target (List ℕ) → Bool
is_return (target.Label name) = false
is_return (target.Register r) = r == 31

-- Whether an instruction is no template's: a load or a store of a word of the frame, a register move, a change of the
-- stack pointer, or the return.
abbrev pub keeps_frame : ℕ → MInstruction → Bool
keeps_frame words (Move d s) = true
keeps_frame words (Binary op d s t) = d == 29
keeps_frame words (Load load.Word d a) = is_frame_word words a
keeps_frame words (Store store.Word s a) = is_frame_word words a
keeps_frame words (Jump to) = is_return to
keeps_frame words i = false

-- the items of templates, in order
abbrev pub from_templates : ℕ → List (CodeItem MInstruction) → List (CodeItem MInstruction)
from_templates words [] = []
from_templates words (AnInstruction i ∷ xs) = if keeps_frame words i then from_templates words xs else AnInstruction i ∷ from_templates words xs
from_templates words (Mark l ∷ xs) = Mark l ∷ from_templates words xs

-- the text is a line of assembly, without its line feed, that says this instruction, or that has this label alone
abbrev pub Says : (ℕ → List ℕ) → List ℕ → CodeItem MInstruction → Type 0
Says labels text x = IsLine text 1 (record { labels = (item_of labels x).labels; statement = (item_of labels x).statement; number = 1 })

-- The items of templates are the expanded templates of the roots' derivations, in order, where the function's labels have
-- these texts and its frame has so many bytes.
pub record Emits (names : List (List ℕ)) (labels : ℕ → List ℕ) (frame : ℕ) (derivations : List MDerivation) (roots : List Node) (code : List (CodeItem MInstruction)) : Type 0 where
  -- the bytes of the frame's argument words, spill slots and return address
  pub words : ℕ
  pub within : words ≤ frame
  pub lines : List (List ℕ)
  pub writes : WritesRoots rows names labels (decimal frame) derivations roots lines
  pub say : AllZip (Says labels) lines (from_templates words code)
