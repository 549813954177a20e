-- What is generated for a lowered unit: for each function the best derivations of its roots by the shipped description,
-- the virtual code that their rules add, code over the machine's registers and spill slots that does the same, and the
-- machine's instructions for that. How registers and slots are given is left open.
use Rattle.std.specs.Prelude.{◌≡◌, ◌≤◌, ℕ, ◌+◌, ◌*◌, List, ◌∷◌, [], ◌++◌, map, length, sum_by, All, get_or}
use Rattle.lburg_model.specs.Derivation.{MDerivation}
use Rattle.lburg_model.specs.Description.{MDescription}
use Rattle.reducer.specs.AreBest.{AreBest}
use Rattle.asm_text.specs.Lines.{MLine}
use Rattle.asm_text.specs.Program.{MInstruction}
use Rattle.op_forest.specs.declared.lowered.LoweredFunction.{LoweredFunction}
use Rattle.op_forest.specs.Lowered.{LoweredUnit}
use Rattle.op_forest.specs.Nodes.{Node, nodes, head_of, tree_of}
use Rattle.op_forest.specs.EachNode.{AtEachNode}
use Rattle.vcode.specs.VirtualCode.{MCode}
use Rattle.vcode.specs.Emission.{IsLinearised}
use Rattle.vcode.specs.SlotsBelow.{UsesSlotsBelow}
use Rattle.vcode.specs.Allocation.{IsAllocation}
use Rattle.vcode.specs.Following.{Follows}
use Rattle.frame_code.specs.declared.instr.Instr.{Instr}
use Rattle.mips_rules.specs.Mips.{mips}
use Rattle.mips_rules.specs.MipsRules.{mips_rules}
use Rattle.mips_rules.specs.Shipped.{IsShipped}
use Rattle.mips_target.specs.declared.layout.Layout.{Layout}
use Rattle.unit_text.specs.Callable.{IsCallable, HasCallable}
use Rattle.frame_code.specs.CalledNames.{CallsAre}
use Rattle.mips_target.specs.Frame.{frame_size}
use Rattle.mips_target.specs.FunctionCode.{function_code}
use Rattle.unit_text.specs.UnitOf.{AreLinesOf}
use Rattle.unit_text.specs.Items.{CodeItem, lines_in}
use Rattle.vcode.specs.NamesAmong.{NamesAmong}
use Rattle.mips_target.specs.Sizes.{Fits}
use Rattle.unit_text.specs.UnitLines.{Coded, numbered, function_items}
use Rattle.mips_target.specs.Emits.{Emits}

-- the registers that hold values of the virtual code
abbrev pub temporaries : List ℕ
temporaries = 8 ∷ 9 ∷ 10 ∷ []

-- the virtual code is that of the best derivations of these roots
pub record IsSelected (roots : List Node) (virtual : MCode Instr) : Type 0 where
  pub description : MDescription
  pub shipped : IsShipped description
  pub derivations : List MDerivation
  pub best : AreBest description (map tree_of roots) derivations
  pub linearised : IsLinearised mips mips_rules roots derivations virtual

-- how many bytes a frame and how many instructions a function may have, by the number of its nodes
abbrev pub frame_bound : ℕ → ℕ
frame_bound n = 256 + 4 * n

abbrev pub code_bound : ℕ → ℕ
code_bound n = 256 + 32 * n

-- the items are those of a function of the unit that has these roots, where its labels have these texts
pub record IsCodeOf (u : LoweredUnit) (labels : ℕ → List ℕ) (roots : List Node) (items : List (CodeItem MInstruction)) : Type 0 where
  pub virtual : MCode Instr
  pub selected : IsSelected roots virtual
  -- code over the machine's registers and the frame's slots, which does what the virtual code does: its instructions in
  -- order, with slot loads, slot stores and copies put in
  pub allocated : List Instr
  pub layout : Layout
  pub form : IsAllocation mips temporaries virtual.code allocated
  pub follows : Follows mips temporaries virtual.code allocated
  pub slots : UsesSlotsBelow mips layout.slots allocated
  pub registers : NamesAmong mips temporaries allocated
  pub fits : Fits u.names layout 0 allocated
  pub made : items ≡ function_code u.names layout allocated
  -- it calls only what the forest names
  pub calls : All (AtEachNode (λ t. HasCallable u (head_of t).sym)) roots → CallsAre (IsCallable u) allocated
  pub emits : Emits u.names labels (frame_size layout) selected.derivations roots items
  pub frame : frame_size layout ≤ frame_bound (sum_by nodes roots)
  pub short : length (lines_in items) ≤ code_bound (sum_by nodes roots)

-- a function's name and code
pub record IsFunction (u : LoweredUnit) (f : LoweredFunction) (c : Coded) : Type 0 where
  pub name : c.name ≡ get_or u.names f.name []
  pub code : IsCodeOf u c.labels f.forest.roots c.items

-- the lines of a function of the unit come behind others
pub record AddsFunction (u : LoweredUnit) (f : LoweredFunction) (before behind : List MLine) : Type 0 where
  pub function : Coded
  pub is : IsFunction u f function
  pub adds : behind ≡ before ++ numbered (length before + 1) (function_items function)

-- the lines are those of the unit's functions
abbrev pub IsGenerated : LoweredUnit → List MLine → Type 0
IsGenerated u lines = AreLinesOf (IsFunction u) u lines
