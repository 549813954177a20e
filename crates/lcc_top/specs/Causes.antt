-- What the outcome of a call says of it.
use Rattle.std.specs.Prelude.{ℕ, ◌≡◌, ◌⊎◌, List}
use Rattle.command_words.specs.declared.words.Command.{Command}
use Rattle.command_words.specs.Commands.{AreWordsOf, AreAccepted, reads}
use Rattle.outcomes.specs.declared.outcome.Outcome.{Outcome}
use Rattle.outcomes.specs.declared.outcome.Outcome.TheVariants as outcome
use Rattle.outcomes.specs.Call.{Call, IsUnread, IsUnwritten, IsCausedBy}
use Rattle.lcc_top.specs.Commands.{behaviour_of}

-- the words ask for this command, and the outcome is that of its work
pub record HasWorked (words : List (List ℕ)) (call : Call) (o : Outcome) : Type 0 where
  pub command : Command
  pub asked : AreWordsOf command words
  pub caused : IsCausedBy (reads command) (behaviour_of command) call o

-- the input and the output are as they were
pub record IsUntouched (call : Call) : Type 0 where
  pub unread : IsUnread call
  pub unwritten : IsUnwritten call

-- A command has worked; or the words are no command's, and nothing is touched; or memory was wanted while the words were
-- read, and nothing is touched.
abbrev pub IsCaused : List (List ℕ) → Call → Outcome → Type 0
IsCaused words call o =
    HasWorked words call o
    ⊎ ((AreAccepted words → ⊥) × (o ≡ outcome.Usage) × IsUntouched call)
    ⊎ ((o ≡ outcome.Memory) × IsUntouched call)
