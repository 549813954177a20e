-- An input isn't both worked on and refused, and one refusal stands at most.
use Rattle.std.proofs.Common.{◌≡◌, ◌⊎◌, ℕ, inl, inr, List, ap}
use Rattle.lburg_faults.specs.declared.desc_fault.DescFault.{DescFault}
use Rattle.lburg_faults.specs.FirstFault.{FirstFault}
use Rattle.lburg_model.specs.Tree.{MTree}
use Rattle.lburg_model.specs.Description.{MDescription, IsDescription}
use Rattle.lburg_model.specs.SameParts.{SameParts}
use Rattle.lburg_trees.specs.declared.tree_fault.TreeFault.{TreeFault}
use Rattle.lburg_trees.specs.FirstFault.{FirstFault as FirstTreeFault}
use Rattle.lburg_trees.specs.TailText.{IsTail}
use Rattle.lburg_grammar.specs.DescriptionText.{IsText}
use Rattle.outcomes.specs.declared.outcome.End.{End}
use Rattle.outcomes.specs.declared.outcome.End.TheVariants as ends
use Rattle.outcomes.specs.declared.outcome.Refusal.{Refusal}
use Rattle.outcomes.specs.Behaviour.{IsApart}
use Rattle.lburg_tool.specs.declared.text_fault.TextFault.TheVariants.{Refused}
use Rattle.lburg_tool.specs.TextFaults.{of_description, of_trees}
use Rattle.lburg_tool.specs.Cover.{RefusesDescription, RefusesCover, cover_behaviour}
use Rattle.lburg_tool.specs.Tables.{tables_behaviour}

-- what the laws of texts say: a text has one first fault, and a description's has none; it is one description's; a tail
-- has one first fault, and one of a description's trees has none
pub record TextLaws : Type 0 where
  pub one_fault : (text : List ℕ) (f g : DescFault) → FirstFault text f → FirstFault text g → f ≡ g
  pub no_fault : (text : List ℕ) (d : MDescription) (f : DescFault) → IsText d text → FirstFault text f → ⊥
  pub one_description : (text : List ℕ) (d e : MDescription) → IsText d text → IsText e text → SameParts d e
  pub one_tree_fault : (text : List ℕ) (d e : MDescription) (f g : TreeFault) → d.terminals ≡ e.terminals → FirstTreeFault d text f → FirstTreeFault e text g → f ≡ g
  pub no_tree_fault : (text : List ℕ) (d e : MDescription) (trees : List MTree) (f : TreeFault) → IsDescription d → d.terminals ≡ e.terminals → IsTail d trees text → FirstTreeFault e text f → ⊥

-- ---- lburg cover

pub cover_apart : TextLaws → IsApart cover_behaviour
cover_apart laws input end text why (n, cover, ends) (inl (f, first, gives)) = laws.no_fault input cover.description f cover.is_text first
cover_apart laws input end text why (n, cover, ends) (inr (e, is, (f, first, gives))) =
    laws.no_tree_fault input cover.description e cover.trees f cover.is_text.means.is (laws.one_description input cover.description e cover.is_text is).terminals cover.is_tail first

-- a fault of a description is told in one way
told_once : (f g : DescFault) (why other : Refusal) → f ≡ g → of_description f ≡ Refused why → of_description g ≡ Refused other → why ≡ other
told_once f g why other same gives also = let both : of_description f ≡ of_description g = ap of_description same in cc

-- and so is one of a tree
told_once_of_trees : (f g : TreeFault) (why other : Refusal) → f ≡ g → of_trees f ≡ Refused why → of_trees g ≡ Refused other → why ≡ other
told_once_of_trees f g why other same gives also = let both : of_trees f ≡ of_trees g = ap of_trees same in cc

pub cover_one : TextLaws → (input : List ℕ) (why other : Refusal) → RefusesCover input why → RefusesCover input other → why ≡ other
cover_one laws input why other (inl (f, first, gives)) (inl (g, also, tells)) = told_once f g why other (laws.one_fault input f g first also) gives tells
cover_one laws input why other (inl (f, first, gives)) (inr (e, is, tail)) = absurd (laws.no_fault input e f is first)
cover_one laws input why other (inr (d, is, tail)) (inl (g, also, tells)) = absurd (laws.no_fault input d g is also)
cover_one laws input why other (inr (d, is, (f, first, gives))) (inr (e, same, (g, also, tells))) =
    told_once_of_trees f g why other (laws.one_tree_fault input d e f g (laws.one_description input d e is same).terminals first also) gives tells

-- ---- lburg tables

pub tables_apart : ((text : List ℕ) (d : MDescription) (f : DescFault) → IsText d text → FirstFault text f → ⊥) → IsApart tables_behaviour
tables_apart no_fault input ends.Finished text why made (f, first, gives) = no_fault input made.description f made.is_text first
tables_apart no_fault input end text why none refused = none

pub tables_one : ((text : List ℕ) (f g : DescFault) → FirstFault text f → FirstFault text g → f ≡ g) → (input : List ℕ) (why other : Refusal) → RefusesDescription input why → RefusesDescription input other → why ≡ other
tables_one one_fault input why other (f, first, gives) (g, also, tells) = told_once f g why other (one_fault input f g first also) gives tells
