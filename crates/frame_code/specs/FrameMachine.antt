-- The machine that these instructions are on a target, given what they lose there.
use Rattle.std.specs.Prelude.{◌≡◌, ◌≤◌, ℕ, Bool, false, refl}
use Rattle.std.proofs.Common.{ap}
use Rattle.vcode.specs.Machines.{Machine}
use Rattle.frame_code.specs.declared.instr.Instr.{Instr}
use Rattle.frame_code.specs.declared.instr.Instr.TheVariants as instr
use Rattle.frame_code.specs.Instructions.{Shape, Copies, LoadsSlot, StoresSlot, shape, operands, kind, moves, acts, rename}
use Rattle.frame_code.specs.InstructionLaws.{few, no_mark, moves-plain, moves-writes, stays, rename-operands, kept}

-- The registers that an instruction of a shape leaves unknown, each the machine's, and those that slot loads, slot stores
-- and copies do.
pub record Losses : Type 0 where
  pub loses : Shape → ℕ → Bool
  pub scratch : ℕ → Bool
  pub low : (x : Shape) (r : ℕ) → 64 ≤ r → loses x r ≡ false
  pub load-loses : loses LoadsSlot ≡ scratch
  pub store-loses : loses StoresSlot ≡ scratch
  pub copy-loses : loses Copies ≡ scratch

-- the machine with these losses and this stack pointer
abbrev pub frame_machine : Losses → ℕ → Machine Instr
frame_machine lost pointer = record {
  operands = operands;
  loses = λ i. lost.loses (shape i);
  kind = kind;
  moves = moves;
  acts = acts;
  rename = rename;
  load = λ r slot. instr.LoadSlot r slot;
  store = λ r slot. instr.StoreSlot r slot;
  copy = λ to from. instr.Copy to from;
  scratch = lost.scratch;
  stack_pointer = pointer;
  few = few;
  loses-machine = λ i r h. lost.low (shape i) r h;
  mark-bare = λ i l e. absurd (no_mark i l e);
  mark-loses = λ i l e. absurd (no_mark i l e);
  moves-plain = moves-plain;
  moves-writes = moves-writes;
  stays = stays;
  rename-operands = rename-operands;
  rename-loses = λ i n r h. ap lost.loses (kept i n r).shape_same;
  rename-kind = λ i n r h. (kept i n r).kind_same;
  rename-moves = λ i n r h. (kept i n r).moves_same;
  rename-acts = λ s i n r h. (kept i n r).acts_same s;
  load-operands = λ r slot. refl;
  load-kind = λ r slot. refl;
  load-loses = λ r slot. lost.load-loses;
  store-operands = λ r slot. refl;
  store-kind = λ r slot. refl;
  store-loses = λ r slot. lost.store-loses;
  copy-operands = λ to from. refl;
  copy-kind = λ to from. refl;
  copy-loses = λ to from. lost.copy-loses;
}
