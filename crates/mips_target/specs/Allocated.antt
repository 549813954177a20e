-- How this target gives registers and slots: each virtual register has a spill slot of its own.
use Rattle.std.specs.Prelude.{◌≡◌, List}
use Rattle.op_forest.specs.Nodes.{Node}
use Rattle.vcode.specs.VirtualCode.{MCode, MAllocated}
use Rattle.slot_allocator.specs.Slots.{allotted}
use Rattle.vcode.specs.SlotsBelow.{UsesSlotsBelow}
use Rattle.slot_allocator.specs.SlotCounts.{slots_needed}
use Rattle.vcode.specs.Allocation.{IsAllocation}
use Rattle.vcode.specs.Following.{Follows}
use Rattle.frame_code.specs.declared.instr.Instr.{Instr}
use Rattle.mips_rules.specs.Mips.{mips}
use Rattle.mips_target.specs.Generated.{temporaries, IsSelected}

-- the code, with its spill slots, does what the virtual code of these roots does
pub record IsAllocated (roots : List Node) (c : MAllocated Instr) : Type 0 where
  pub virtual : MCode Instr
  pub selected : IsSelected roots virtual
  pub code : c.code ≡ allotted mips temporaries virtual.code
  pub slots : c.slots ≡ slots_needed mips virtual.code
  pub below : UsesSlotsBelow mips c.slots c.code
  pub form : IsAllocation mips temporaries virtual.code c.code
  pub follows : Follows mips temporaries virtual.code c.code
