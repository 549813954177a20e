-- A command of clap with one option more.
use Rattle.std.proofs.Common.{◌≡◌, ◌<◌, ◌+◌, ℕ, add-one, List, [], ◌∷◌, ◌++◌, map, take, get_or, length, ap, sym, ◌∙◌}
use Rattle.std.proofs.Math.Seq.{take-suc}
use Rattle.std.proofs.lemmas.List.{map_push}
use Rattle.clap.specs.Words.{Rule, App, with_rule}
use Rattle.command_words.specs.declared.option_words.OptionRow.{OptionRow}
use Rattle.command_words.specs.OptionWords.{Options, row_of, rule_for, app_for}

pub one_more : (options : Options) (o : List ℕ × _) → with_rule (app_for options) (rule_for o) ≡ app_for (options ++ o ∷ [])
one_more options o =
    let App_of : List Rule → App = λ rules. record (app_for []) { top = record (app_for []).top { rules = rules } } in
    ap App_of (sym (map_push rule_for options o))

pub next_row : (rows : List OptionRow) (i : ℕ) (d : OptionRow) → i < length rows → with_rule (app_for (map row_of (take i rows))) (rule_for (row_of (get_or rows i d))) ≡ app_for (map row_of (take (i + 1) rows))
next_row rows i d within =
    rw add-one (one_more (map row_of (take i rows)) (row_of (get_or rows i d))
    ∙ ap app_for (sym (ap (map row_of) (take-suc rows i d within) ∙ map_push row_of (take i rows) (get_or rows i d))))
