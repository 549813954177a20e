-- The words of a command's options, as clap reads them: `--name value` or `--name=value`, in any order, each at most once.
use Rattle.std.specs.Prelude.{◌≡◌, ℕ, List, [], map, codes, Bool, true, Option, Some, None}
use Rattle.clap.specs.Words.{App, Rule, first_of, first_value, fault_of, found_of, matches_of, new_rule, new_app}
use Rattle.clap.specs.declared.builder.action.ArgAction.TheVariants.{Set}
use Rattle.clap.specs.declared.parser.matches.ArgMatches.{ArgMatches}
use Rattle.command_words.specs.declared.option_words.OptionRow.{OptionRow}

-- options with values, by their names, and whether the words have to give them
abbrev pub Options : Type 0
Options = List (List ℕ × Bool)

abbrev pub row_of : OptionRow → List ℕ × Bool
row_of o = (o.name.now, o.is_required)

abbrev pub rule_for : List ℕ × Bool → Rule
rule_for o = record (new_rule o.0) { long = Some o.0; action = Some Set; required = o.1 }

-- clap's command with these options, and with no option for help or version
abbrev pub app_for : Options → App
app_for options = record (new_app (codes "")) {
  top = record (new_app (codes "")).top {
    rules = map rule_for options;
    no_binary_name = true;
    disable_help_flag = true;
    disable_version_flag = true;
  };
}

-- the words are options of these: clap finds no fault in them
abbrev pub AreOptions : Options → List (List ℕ) → Type 0
AreOptions options words = fault_of (app_for options) words ≡ []

-- the text that the words give an option, by its name
abbrev pub value_of : Options → List (List ℕ) → List ℕ → Option (List ℕ)
value_of options words name = first_of name (matches_of (app_for options) words)

-- these are the options of the words, by name; or the words are no options
abbrev pub AreGiven : Options → List (List ℕ) → Option ArgMatches → Type 0
AreGiven options words (Some m) = AreOptions options words × ((name : List ℕ) → first_value (found_of m) name ≡ value_of options words name)
AreGiven options words None = AreOptions options words → ⊥
