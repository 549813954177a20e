-- What `lburg cover` makes of the bytes of its input.
use Rattle.std.specs.Prelude.{◌≡◌, ◌<◌, ◌⊎◌, ℕ, List}
use Rattle.lburg_model.specs.Tree.{MTree}
use Rattle.lburg_model.specs.Description.{MDescription}
use Rattle.lburg_model.specs.CoverText.{IsCoverText}
use Rattle.lburg_faults.specs.declared.desc_fault.DescFault.{DescFault}
use Rattle.lburg_faults.specs.FirstFault.{FirstFault}
use Rattle.lburg_trees.specs.declared.tree_fault.TreeFault.{TreeFault}
use Rattle.lburg_trees.specs.FirstFault.{FirstFault as FirstTreeFault}
use Rattle.lburg_trees.specs.TailText.{IsTail}
use Rattle.lburg_grammar.specs.DescriptionText.{IsText}
use Rattle.outcomes.specs.declared.outcome.End.{End}
use Rattle.outcomes.specs.declared.outcome.End.TheVariants as ends
use Rattle.outcomes.specs.declared.outcome.Refusal.{Refusal}
use Rattle.lburg_tool.specs.declared.text_fault.TextFault.TheVariants.{Refused}
use Rattle.lburg_tool.specs.TextFaults.{of_description, of_trees}
use Rattle.outcomes.specs.Behaviour.{Behaviour}

-- the input is a description's text with a tail of trees, and this text is the trees' cover text, in which so many
-- have no derivation
pub record IsCover (input text : List ℕ) (uncovered : ℕ) : Type 0 where
  pub description : MDescription
  pub trees : List MTree
  pub is_text : IsText description input
  pub is_tail : IsTail description trees input
  pub is_cover_text : IsCoverText description trees text uncovered

-- how a cover ends in which so many trees have no derivation
abbrev pub CoverEnds : ℕ → End → Type 0
CoverEnds uncovered ends.Finished = uncovered ≡ 0
CoverEnds uncovered (ends.NoCover n) = (uncovered ≡ n) × (0 < n)
CoverEnds uncovered end = ⊥

-- the text is the input's cover text, which ends so
abbrev pub WritesCover : List ℕ → End → List ℕ → Type 0
WritesCover input end text = (uncovered : ℕ) × IsCover input text uncovered × CoverEnds uncovered end

-- the first fault of the input as a description's text is told so
abbrev pub RefusesDescription : List ℕ → Refusal → Type 0
RefusesDescription input why = (f : DescFault) × FirstFault input f × (of_description f ≡ Refused why)

-- the first fault of the tail, behind the text of this description, is told so
abbrev pub RefusesTail : MDescription → List ℕ → Refusal → Type 0
RefusesTail d input why = (f : TreeFault) × FirstTreeFault d input f × (of_trees f ≡ Refused why)

-- The input has a fault, and the first is told: one of the description, or where the description has none, one of the
-- trees in its tail.
abbrev pub RefusesCover : List ℕ → Refusal → Type 0
RefusesCover input why = RefusesDescription input why ⊎ ((d : MDescription) × IsText d input × RefusesTail d input why)

abbrev pub cover_behaviour : Behaviour
cover_behaviour = record { Writes = WritesCover; Refuses = RefusesCover }
