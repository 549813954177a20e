-- What is printed of a description is a text of it.
use Rattle.lburg_model.specs.Description.{MDescription, IsDescription}
use Rattle.lburg_grammar.specs.DescriptionText.{IsText}
use Rattle.lburg_grammar.specs.Printed.{printed}
use Rattle.lburg_grammar.proofs.PrintedParts.{written_in}
use Rattle.lburg_grammar.proofs.PrintedLines.{written_from}
use Rattle.lburg_grammar.proofs.PrintedMeaning.{written_means}

pub printed_is_text : (d : MDescription) → IsDescription d → IsText d (printed d)
printed_is_text d is =
    let w = written_from d is in
    record { lines = w.0; are = w.1; written = written_in d; are_written = w.2; means = written_means d is }
