-- The commands: what each does with its input.
use Rattle.std.specs.Prelude.{ℕ, List}
use Rattle.command_words.specs.declared.words.Command.{Command}
use Rattle.command_words.specs.declared.words.Command.TheVariants.{Cover, Tables, Simrun, Rcc, Ceval}
use Rattle.outcomes.specs.declared.outcome.Refusal.{Refusal}
use Rattle.outcomes.specs.Behaviour as behaviour
use Rattle.outcomes.specs.Behaviour.{Behaviour}
use Rattle.lburg_tool.specs.Cover.{cover_behaviour}
use Rattle.lburg_tool.specs.Tables.{tables_behaviour}
use Rattle.simrun_tool.specs.Simulation.{simrun_behaviour}
use Rattle.rcc_tool.specs.Compilation.{rcc_behaviour}
use Rattle.ceval_tool.specs.Evaluation.{ceval_behaviour}

abbrev pub behaviour_of : Command → Behaviour
behaviour_of Cover = cover_behaviour
behaviour_of Tables = tables_behaviour
behaviour_of (Simrun o) = simrun_behaviour o
behaviour_of Rcc = rcc_behaviour
behaviour_of (Ceval o) = ceval_behaviour o

-- a refusal of the command's input stands
abbrev pub Refuses : Command → List ℕ → Refusal → Type 0
Refuses c = (behaviour_of c).Refuses

-- no refusal of the command's input stands
abbrev pub Accepts : Command → List ℕ → Type 0
Accepts c = behaviour.Accepts (behaviour_of c)
