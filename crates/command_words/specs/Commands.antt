-- The words of each command.
use Rattle.std.specs.Prelude.{◌≡◌, ℕ, List, [], ◌∷◌, ◌++◌, codes, Bool, true, false, Option, Some}
use Rattle.command_words.specs.declared.words.Command.{Command}
use Rattle.command_words.specs.declared.words.Command.TheVariants.{Cover, Tables, Simrun, Rcc, Ceval}
use Rattle.command_words.specs.OptionWords.{Options, AreOptions, value_of}
use Rattle.command_words.specs.RunWords.{GivesRun}
use Rattle.command_words.specs.CevalWords.{GivesCeval}

-- a command by its first words, its options, what their texts have to be, and whether it reads the input
pub record Words : Type 1 where
  pub first : List (List ℕ)
  pub options : Options
  pub Gives : (List ℕ → Option (List ℕ)) → Type 0
  pub reads : Bool

-- the words are these: the first ones, and then options that give what they have to
pub record AreWords (w : Words) (words : List (List ℕ)) : Type 0 where
  pub rest : List (List ℕ)
  pub parts : words ≡ w.first ++ rest
  pub options : AreOptions w.options rest
  pub gives : w.Gives (value_of w.options rest)

abbrev pub words_of : Command → Words
words_of Cover = record { first = codes "lburg" ∷ codes "cover" ∷ []; options = []; Gives = λ text. Unit {0}; reads = true }
words_of Tables = record { first = codes "lburg" ∷ codes "tables" ∷ []; options = []; Gives = λ text. Unit {0}; reads = true }
words_of (Simrun o) = record { first = codes "simrun" ∷ []; options = (codes "target", true) ∷ (codes "steps", false) ∷ (codes "stack", false) ∷ []; Gives = GivesRun o; reads = true }
words_of Rcc = record { first = codes "rcc" ∷ []; options = (codes "target", true) ∷ []; Gives = λ text. text (codes "target") ≡ Some (codes "mipseb"); reads = true }
words_of (Ceval o) = record { first = codes "ceval" ∷ []; options = (codes "order", true) ∷ (codes "turns", false) ∷ []; Gives = GivesCeval o; reads = true }

-- the words ask for this command
abbrev pub AreWordsOf : Command → List (List ℕ) → Type 0
AreWordsOf c = AreWords (words_of c)

-- the words ask for some command
abbrev pub AreAccepted : List (List ℕ) → Type 0
AreAccepted words = (c : Command) × AreWordsOf c words

-- the command reads the input
abbrev pub reads : Command → Bool
reads c = (words_of c).reads
