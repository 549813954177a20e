use Rattle.std.proofs.Common.{◌++◌, ℕ, List, sym, ap, ◌∙◌}
use Rattle.std.proofs.lemmas.List.{append-nil}
use Rattle.c_ast.specs.Lexemes.{Placed}
use Rattle.c_lexer.specs.PlacedTokens.{placed}
use Rattle.c_expr.proofs.Fronts.{no_texts}
use Rattle.c_expr.proofs.heads.literals_at.Goals as goal

pub returns-clause-texts : goal.returns-clause-texts
returns-clause-texts c =
    sym (append-nil c.loop-other.literals)
    ∙ ap (λ (p : List (List ℕ) × List Placed). c.loop-other.literals ++ p.0) (sym (no_texts (placed c.args.text.now c.loop-other.rest.now) c.in_default.ensures.none))
    ∙ c.loop-other.invariant.1

pub returns-clause-rest : goal.returns-clause-rest
returns-clause-rest c =
    ap (λ (p : List (List ℕ) × List Placed). p.1) (sym (no_texts (placed c.args.text.now c.loop-other.rest.now) c.in_default.ensures.none))
    ∙ c.loop-other.invariant.2
