-- What `lburg tables` makes of the bytes of its input: the text of the tables of the description. The tail is not looked
-- at.
use Rattle.std.specs.Prelude.{◌≡◌, ℕ, List}
use Rattle.lburg_model.specs.Description.{MDescription}
use Rattle.lburg_grammar.specs.DescriptionText.{IsText}
use Rattle.lburg_tables.specs.TablesText.{tables_text}
use Rattle.outcomes.specs.declared.outcome.End.{End}
use Rattle.outcomes.specs.declared.outcome.End.TheVariants as ends
use Rattle.lburg_tool.specs.Cover.{RefusesDescription}
use Rattle.outcomes.specs.Behaviour.{Behaviour}

-- the input is a description's text, and this text is its tables'
pub record IsTables (input text : List ℕ) : Type 0 where
  pub description : MDescription
  pub is_text : IsText description input
  pub is_tables_text : text ≡ tables_text description

abbrev pub WritesTables : List ℕ → End → List ℕ → Type 0
WritesTables input ends.Finished text = IsTables input text
WritesTables input end text = ⊥

-- the first fault of the description is told
abbrev pub tables_behaviour : Behaviour
tables_behaviour = record { Writes = WritesTables; Refuses = RefusesDescription }
