-- What a machine is: its code, in which names are addresses, the order of its bytes, 32 registers, the bytes of its data
-- and those of its stack, each from its lowest address up, and the address of the next instruction.
use Rattle.std.specs.Prelude.{ℕ, List}
use Rattle.lcc_base.specs.declared.order.Order.{Order}
use Rattle.asm_lines.specs.declared.instruction.Instruction.{Instruction}

pub record Cpu : Type 0 where
  pub registers : List ℕ
  pub statics : List ℕ
  pub stack : List ℕ
  pub pc : ℕ

pub record MMachine : Type 0 where
  pub code : List (Instruction ℕ)
  pub order : Order
  pub cpu : Cpu
