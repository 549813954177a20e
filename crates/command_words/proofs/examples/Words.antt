-- Words that ask for a run, in any order and with `=`, and words that ask for none.
use Rattle.std.proofs.Common.{◌≡◌, ℕ, List, [], ◌∷◌, refl, arith, true, false}
use Rattle.std.specs.Prelude.{codes, Some, None}
use Rattle.clap.proofs.OnLiterals.{clap_on_literals}
use Rattle.clap.specs.Words.{fault_of}
use Rattle.clap.specs.declared.error.kind.ErrorKind.TheVariants as kind
use Rattle.command_words.specs.OptionWords.{Options, app_for, value_of}
use Rattle.command_words.specs.NumberWords.{GivesNumber}

abbrev options : Options
options = (codes "target", true) ∷ (codes "steps", false) ∷ (codes "stack", false) ∷ []

-- the options in another order, one with `=`
abbrev turned : List (List ℕ)
turned = codes "--steps=10" ∷ codes "--target" ∷ codes "mipseb" ∷ []

fine : fault_of (app_for options) turned ≡ []
unfolding clap_on_literals
fine = refl

target_is : value_of options turned (codes "target") ≡ Some (codes "mipseb")
unfolding clap_on_literals
target_is = refl

steps_are : value_of options turned (codes "steps") ≡ Some (codes "10")
unfolding clap_on_literals
steps_are = refl

no_stack : value_of options turned (codes "stack") ≡ None
unfolding clap_on_literals
no_stack = refl

-- `--` ends the options, and no word may stand behind it
ended : fault_of (app_for options) (codes "--target" ∷ codes "mipseb" ∷ codes "--" ∷ []) ≡ []
unfolding clap_on_literals
ended = refl

no_word : fault_of (app_for options) (codes "--target" ∷ codes "mipseb" ∷ codes "--" ∷ codes "x" ∷ []) ≡ kind.UnknownArgument ∷ []
unfolding clap_on_literals
no_word = refl

no_options : fault_of (app_for []) (codes "--" ∷ []) ≡ []
unfolding clap_on_literals
no_options = refl

-- a name that is cut short, one hyphen, and two equals signs, of which the second is the value's
no_step : fault_of (app_for options) (codes "--target" ∷ codes "mipseb" ∷ codes "--step" ∷ codes "3" ∷ []) ≡ kind.UnknownArgument ∷ []
unfolding clap_on_literals
no_step = refl

no_letter : fault_of (app_for options) (codes "--target" ∷ codes "mipseb" ∷ codes "-h" ∷ []) ≡ kind.UnknownArgument ∷ []
unfolding clap_on_literals
no_letter = refl

equals : value_of options (codes "--steps==3" ∷ []) (codes "steps") ≡ Some (codes "=3")
unfolding clap_on_literals
equals = refl

-- an option that stands twice, one that is missing, and help
abbrev twice : List (List ℕ)
twice = codes "--target" ∷ codes "mipseb" ∷ codes "--target" ∷ codes "mipseb" ∷ []

no_second : fault_of (app_for options) twice ≡ kind.ArgumentConflict ∷ []
unfolding clap_on_literals
no_second = refl

no_target : fault_of (app_for options) (codes "--steps" ∷ codes "3" ∷ []) ≡ kind.MissingRequiredArgument ∷ []
unfolding clap_on_literals
no_target = refl

no_help : fault_of (app_for options) (codes "--help" ∷ []) ≡ kind.UnknownArgument ∷ []
unfolding clap_on_literals
no_help = refl

-- a number of eleven digits is none, and a number below the range
eleven : GivesNumber 1 4294967295 10000000 (Some (codes "00000000003")) 3 → ⊥
eleven is = let few = is.few in omega arith

none : GivesNumber 1 4294967295 10000000 (Some (codes "0")) 0 → ⊥
none is = let low = is.low in omega arith

ten : GivesNumber 1 4294967295 10000000 (Some (codes "10")) 10
ten = record { digits = (refl, (refl, tt)); some = omega arith; few = omega arith; value = refl; low = omega arith; high = omega arith }

-- ---- an evaluation

abbrev evaluation : Options
evaluation = (codes "order", true) ∷ (codes "turns", false) ∷ []

abbrev little : List (List ℕ)
little = codes "--turns=5" ∷ codes "--order" ∷ codes "little" ∷ []

order_is : value_of evaluation little (codes "order") ≡ Some (codes "little")
unfolding clap_on_literals
order_is = refl

turns_are : value_of evaluation little (codes "turns") ≡ Some (codes "5")
unfolding clap_on_literals
turns_are = refl

no_order : fault_of (app_for evaluation) (codes "--turns" ∷ codes "5" ∷ []) ≡ kind.MissingRequiredArgument ∷ []
unfolding clap_on_literals
no_order = refl
