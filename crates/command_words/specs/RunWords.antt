-- The options of `simrun`, by their texts: the target, the number of steps and the bytes of the stack.
use Rattle.std.specs.Prelude.{◌≡◌, ℕ, List, codes, Option, Some, None}
use Rattle.lcc_base.specs.declared.order.Order.{Order}
use Rattle.lcc_base.specs.declared.order.Order.TheVariants.{Big, Little}
use Rattle.command_words.specs.declared.run_options.RunOptions.{RunOptions}
use Rattle.command_words.specs.NumberWords.{GivesNumber}

-- the text is the target of this order of bytes
abbrev pub IsTarget : List ℕ → Order → Type 0
IsTarget text Big = text ≡ codes "mipseb"
IsTarget text Little = text ≡ codes "mipsel"

-- an option's text is there, and is a target
abbrev pub GivesTarget : Option (List ℕ) → Order → Type 0
GivesTarget (Some text) order = IsTarget text order
GivesTarget None order = ⊥

-- the options of a run by their texts
pub record GivesRun (o : RunOptions) (text : List ℕ → Option (List ℕ)) : Type 0 where
  pub target : GivesTarget (text (codes "target")) o.order
  pub steps : GivesNumber 1 4294967295 10000000 (text (codes "steps")) o.steps
  pub stack : GivesNumber 4096 16777216 1048576 (text (codes "stack")) o.stack
