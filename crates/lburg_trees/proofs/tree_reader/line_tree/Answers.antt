use Rattle.std.proofs.Common.{◌≡◌, Bool, false, ◌==◌, List, [], ◌∷◌, length, sym, subst}
use Rattle.std.proofs.lemmas.Result.{err_from_is_err_and}
use Rattle.lburg_lines.specs.declared.token.Token.{Token}
use Rattle.lburg_lines.specs.Tokens.{views}
use Rattle.lburg_trees.specs.declared.stop.Stop.{Stop}
use Rattle.lburg_trees.specs.Reading.{LineStops}
use Rattle.lburg_trees.proofs.Whole.{line_stops, more_behind, whole_tree, tree_fine}
use Rattle.lburg_trees.proofs.tree_reader.line_tree.Goals as goal

some_tokens : (ts : List Token) (b : Bool) → b ≡ false → b ≡ (length ts == 0) → views ts ≡ [] → ⊥
some_tokens [] b h e f = cc
some_tokens (t ∷ ts) b h e f = cc

pub returns-in_err-found-clause-fault : goal.returns-in_err-found-clause-fault
returns-in_err-found-clause-fault c =
    let p = err_from_is_err_and c.from_residual.result c.from_residual.ensures.1 in
    rw (p.1, p.2) (line_stops c.args.d.now (views c.args.tokens.now) _ (some_tokens c.args.tokens.now c.is_empty.result c.if-is_empty.false c.is_empty.ensures) c.in_err-found.ensures.stops)

pub returns-in-Err-clause-fault : goal.returns-in-Err-clause-fault
returns-in-Err-clause-fault c =
    let line = views c.args.tokens.now in
    subst (λ (s : Stop). LineStops c.args.d.now line s) (sym (c.broken.ensures _ c.in-Err.ensures.err)) (more_behind c.args.d.now line (views c.in_ok-found.found.rest.now) c.in_ok-found.found.tree c.in_ok-found.ensures.found c.in-Err.ensures.no)

pub returns-in-Ok-clause-fine : goal.returns-in-Ok-clause-fine
returns-in-Ok-clause-fine c =
    let line = views c.args.tokens.now in
    let t = c.in_ok-found.found.tree in
    tree_fine c.args.d.now line t c.in_ok-found.ensures.is (whole_tree c.args.d.now line (views c.in_ok-found.found.rest.now) t c.in_ok-found.ensures.found c.in-Ok.ensures.ok)
