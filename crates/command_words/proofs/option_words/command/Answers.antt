use Rattle.std.proofs.Common.{rules, ◌∙◌, ap₂}
use Rattle.clap.specs.Words.{with_rule}
use Rattle.command_words.proofs.OptionRows.{next_row}
use Rattle.command_words.proofs.option_words.command.Goals as goal

pub loop-option-preserved : goal.loop-option-preserved
loop-option-preserved c =
    c.in_ok-command.ensures.shape c.arg.ensures.local
    ∙ ap₂ with_rule c.loop-option.invariant c.arg.ensures.rule
    ∙ next_row c.args.options.now c.loop-option.option-index _ (search rules)
