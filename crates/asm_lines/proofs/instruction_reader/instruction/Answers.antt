use Rattle.asm_lines.specs.Tokens.{views}
use Rattle.asm_lines.proofs.OperandReads.{if_none}
use Rattle.asm_lines.proofs.InstructionReads.{no_load_address, no_load_number, no_move, no_unary, no_binary, no_load, no_store, no_branch_if}
use Rattle.asm_lines.proofs.instruction_reader.instruction.Goals as goal

pub returns-in_default-clause-none : goal.returns-in_default-clause-none
returns-in_default-clause-none c = no_load_address (views c.args.operands.now) c.args.mnemonic c.in-LoadAddress.is c.in_default.ensures.none

pub returns-in_err-to-in-LoadNumber-clause-none : goal.returns-in_err-to-in-LoadNumber-clause-none
returns-in_err-to-in-LoadNumber-clause-none c = if_none c.from_residual.result (no_load_number (views c.args.operands.now) c.args.mnemonic c.in-LoadNumber.is c.in_err-to-in-LoadNumber.ensures.none)

pub returns-in_err-to-in-Move-clause-none : goal.returns-in_err-to-in-Move-clause-none
returns-in_err-to-in-Move-clause-none c = if_none c.from_residual-in_err-to-in-Move.result (no_move (views c.args.operands.now) c.args.mnemonic c.in-Move.is c.in_err-to-in-Move.ensures.none)

pub returns-in_err-to-in-Unary-clause-none : goal.returns-in_err-to-in-Unary-clause-none
returns-in_err-to-in-Unary-clause-none c = if_none c.from_residual-in_err-to-in-Unary.result (no_unary (views c.args.operands.now) c.args.mnemonic c.in-Unary.op c.in-Unary.is c.in_err-to-in-Unary.ensures.none)

pub returns-in_err-to-in-Binary-clause-none : goal.returns-in_err-to-in-Binary-clause-none
returns-in_err-to-in-Binary-clause-none c = if_none c.from_residual-in_err-to-in-Binary.result (no_binary (views c.args.operands.now) c.args.mnemonic c.in-Binary.op c.in-Binary.is c.in_err-to-in-Binary.ensures.none)

pub returns-in_default-register_and_address-clause-none : goal.returns-in_default-register_and_address-clause-none
returns-in_default-register_and_address-clause-none c = no_load (views c.args.operands.now) c.args.mnemonic c.in-Load.op c.in-Load.is c.in_default-register_and_address.ensures.none

pub returns-in_default-register_and_address-2-clause-none : goal.returns-in_default-register_and_address-2-clause-none
returns-in_default-register_and_address-2-clause-none c = no_store (views c.args.operands.now) c.args.mnemonic c.in-Store.op c.in-Store.is c.in_default-register_and_address-2.ensures.none

pub returns-in_default-register_value_and_name-clause-none : goal.returns-in_default-register_value_and_name-clause-none
returns-in_default-register_value_and_name-clause-none c = no_branch_if (views c.args.operands.now) c.args.mnemonic c.in-BranchIf.condition c.in-BranchIf.is c.in_default-register_value_and_name.ensures.none
