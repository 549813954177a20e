use Rattle.std.proofs.Common.{◌≡◌, ℕ, List, sym, subst, rules}
use Rattle.lburg_grammar.specs.DescriptionText.{IsText}
use Rattle.lburg_grammar.specs.Printed.{printed}
use Rattle.lburg_grammar.proofs.PrintedText.{printed_is_text}
use Rattle.lburg_grammar.proofs.printed_text.print.Goals as goal

pub returns-clause-read_back : goal.returns-clause-read_back
returns-clause-read_back c =
    let e : c.push_rules.new.out ≡ printed c.args.d.now = search rules in
    let P : List ℕ → Type 0 = λ text. IsText c.args.d.now text in
    subst P (sym e) (printed_is_text c.args.d.now c.terminals.ensures.is)
