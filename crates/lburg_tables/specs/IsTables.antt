-- What tables keep: a description, the index of its rules, whether a chain rule has a range, and the best chains.
use Rattle.std.specs.Prelude.{◌↔◌, Bool, IsTrue, List}
use Rattle.lburg_model.specs.Description.{MDescription, IsDescription}
use Rattle.lburg_tables.specs.BestChains.{AreBestOfEach}
use Rattle.lburg_tables.specs.IsIndex.{IsIndex}
use Rattle.lburg_tables.specs.Leads.{HasRanged}
use Rattle.lburg_tables.specs.declared.best_chain.BestChain.{BestChain}
use Rattle.lburg_tables.specs.declared.index.Index.{Index}

pub record IsTables (d : MDescription) (index : Index) (is_ranged : Bool) (chains : List (List BestChain)) : Type 0 where
  pub description : IsDescription d
  pub lists : IsIndex d.rules index
  pub ranged : IsTrue is_ranged ↔ HasRanged d.rules
  pub best : AreBestOfEach d chains
