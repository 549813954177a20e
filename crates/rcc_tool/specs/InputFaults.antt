-- What a fault of a text says of the command's input.
use Rattle.first_form.specs.declared.first_fault.FirstFault.{FirstFault}
use Rattle.first_form.specs.declared.first_fault.FirstFault.TheVariants as program
use Rattle.rcc_tool.specs.declared.input_fault.InputFault.{InputFault}
use Rattle.rcc_tool.specs.declared.input_fault.InputFault.TheVariants.{BadText, Memory}

abbrev pub of_program : FirstFault → InputFault
of_program program.BadText = BadText
of_program program.Memory = Memory
