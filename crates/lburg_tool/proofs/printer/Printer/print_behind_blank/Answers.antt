use Rattle.std.proofs.Common.{ℕ, List, ◌++◌, ◌∷◌, sym, ap, ◌∙◌}
use Rattle.std.proofs.lemmas.Fmt.{decimal_digit}
use Rattle.lburg_tool.proofs.printer.Printer.print_behind_blank.Goals as goal

pub returns-then-number-lt10 : goal.returns-then-number-lt10
returns-then-number-lt10 c = λ fine.
    let (old_fine, text) = c.print.ensures fine in
    let digit = sym (decimal_digit c.args.number c.if-number-lt10.true) in
    (old_fine, text ∙ ap (λ (l : List ℕ). c.args.self.now.text ++ 32 ∷ l) digit)
