-- What a parse of options by clap gives.
use Rattle.std.proofs.Common.{◌≡◌, ◌∙◌, List, ℕ, [], Bool, true, false, refl, ap, sym, subst}
use Rattle.std.specs.Prelude.{◌&&◌, Some}
use Rattle.clap.specs.Words.{App, app_of, fault_of, first_of, found_of, is_simple, is_simple_and_free, HasMatchesOf, matches_of}
use Rattle.clap.proofs.WalkLemmas.{first_value-rows}
use Rattle.clap.specs.declared.builder.command.Command.{Command}
use Rattle.clap.specs.declared.parser.matches.ArgMatches.{ArgMatches}
use Rattle.command_words.specs.OptionWords.{Options, app_for, AreGiven}

both : (a b : Bool) → (a && b) ≡ true → a ≡ true
both true b h = refl
both false b h = h

simple : (a : App) → is_simple_and_free a ≡ true → is_simple a ≡ true
simple a h = both (is_simple a) _ h

pub given : (options : Options) (words : List (List ℕ)) (c : Command) (m : ArgMatches) → app_of c ≡ app_for options → is_simple_and_free (app_for options) ≡ true → (is_simple_and_free (app_of c) ≡ true → fault_of (app_of c) words ≡ []) → HasMatchesOf (app_of c) words m → AreGiven options words (Some m)
given options words c m is free fine matches =
    let Free : App → Type 0 = λ a. is_simple_and_free a ≡ true in
    let free_c : Free (app_of c) = subst Free (sym is) free in
    let rows = (matches (simple (app_of c) free_c)).0 in (
      subst (λ (a : App). fault_of a words ≡ []) is (fine free_c),
      λ name. first_value-rows (found_of m) name ∙ ap (first_of name) rows ∙ ap (λ (a : App). first_of name (matches_of a words)) is,
    )
