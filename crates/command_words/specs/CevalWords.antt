-- The options of `ceval`, by their texts: the order of bytes and the number of turns.
use Rattle.std.specs.Prelude.{◌≡◌, ℕ, List, codes, Option, Some, None}
use Rattle.lcc_base.specs.declared.order.Order.{Order}
use Rattle.lcc_base.specs.declared.order.Order.TheVariants.{Big, Little}
use Rattle.command_words.specs.declared.ceval_options.CevalOptions.{CevalOptions}
use Rattle.command_words.specs.NumberWords.{GivesNumber}

-- the text is the name of this order of bytes
abbrev pub IsOrder : List ℕ → Order → Type 0
IsOrder text Big = text ≡ codes "big"
IsOrder text Little = text ≡ codes "little"

-- an option's text is there, and is the name of an order
abbrev pub GivesOrder : Option (List ℕ) → Order → Type 0
GivesOrder (Some text) order = IsOrder text order
GivesOrder None order = ⊥

-- the options of an evaluation by their texts
pub record GivesCeval (o : CevalOptions) (text : List ℕ → Option (List ℕ)) : Type 0 where
  pub order : GivesOrder (text (codes "order")) o.order
  pub turns : GivesNumber 1 4294967295 10000000 (text (codes "turns")) o.turns
