use Rattle.std.proofs.Common.{map, string_bytes}
use Rattle.command_words.specs.OptionWords.{row_of}
use Rattle.command_words.proofs.Given.{given}
use Rattle.command_words.proofs.option_words.options_in.Goals as goal

pub returns-in-Ok : goal.returns-in-Ok
returns-in-Ok c =
    given (map row_of c.args.options.now) (map string_bytes c.args.words.now) c.in_ok-command.command c.in-Ok.matches c.in_ok-command.ensures c.requires c.in-Ok.ensures.kinds c.in-Ok.ensures.matches
