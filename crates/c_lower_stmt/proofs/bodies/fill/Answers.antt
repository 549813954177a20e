use Rattle.std.proofs.Common.{map, ap, sym, ◌∙◌}
use Rattle.std.proofs.lemmas.List.{take-map}
use Rattle.std.proofs.lemmas.Result.{IfOk-weaker}
use Rattle.c_types.specs.Table.{types}
use Rattle.c_meaning.specs.Units.{function_seen}
use Rattle.lowered_statements.specs.Layouts.{first_word}
use Rattle.lowering_acts.specs.Sites.{type_in}
use Rattle.statement_steps.specs.Functions.{function_of}
use Rattle.statement_steps.proofs.lemmas.Trees.{tree_is}
use Rattle.c_lower_stmt.specs.Bodies.{function_in}
use Rattle.c_lower_stmt.specs.Trees.{stmt_in}
use Rattle.c_lower_stmt.proofs.lemmas.Bodying.{fills_body}
use Rattle.c_lower_stmt.proofs.bodies.fill.Goals as goal

pub returns : goal.returns
returns c =
    let site = c.args.site.now in let s = site.site in let k = type_in s in let f = c.args.f.now in
    IfOk-weaker c.finish.result _ _
    (λ u d. fills_body (function_of site) (function_in s.program f) c.first_word-first.result (map k c.parameters.result.now) (stmt_in s f.body) c.args.into.now c.store_parameters.new.block c.statement.new.into c.finish.new.into
    (c.first_word-first.ensures ∙ (λ i. first_word (function_seen (types (c.types.ensures i)) f)))
    (ap (map k) c.parameters.ensures ∙ sym (take-map k f.parameters f.locals))
    (tree_is k f.body) c.in_ok-store_parameters.ensures c.in_ok-statement.ensures d)
    c.finish.ensures
