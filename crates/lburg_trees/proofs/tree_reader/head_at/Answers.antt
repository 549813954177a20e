use Rattle.std.proofs.Common.{sym, subst, length}
use Rattle.std.proofs.lemmas.List.{length-map}
use Rattle.lburg_lines.specs.Tokens.{views, view}
use Rattle.lburg_trees.specs.declared.row.Row.TheVariants.{UnknownOp}
use Rattle.lburg_trees.specs.declared.stop.Stop.{Stop}
use Rattle.lburg_trees.specs.Reading.{StopsTree}
use Rattle.lburg_trees.specs.Setting.{placed}
use Rattle.lburg_trees.proofs.Heads.{no_name, unknown_name, past_most, broken_constant, at_name}
use Rattle.lburg_trees.proofs.tree_reader.head_at.Goals as goal

pub returns-in-Err-clause-stops : goal.returns-in-Err-clause-stops
returns-in-Err-clause-stops c =
    let b = placed c.args.before.opened c.args.before.names in
    subst (λ (s : Stop). StopsTree c.args.d.now b (views c.args.tokens.now) s) (sym (c.broken.ensures _ c.in-Err.ensures.err)) (no_name c.args.d.now b (views c.args.tokens.now) c.in-Err.ensures.no)

pub returns-in_default-clause-stops : goal.returns-in_default-clause-stops
returns-in_default-clause-stops c =
    let b = placed c.args.before.opened c.args.before.names in
    let n = c.in-Ok.found.0.now in
    let rest = views c.in-Ok.found.1.now in
    at_name c.args.d.now b (views c.args.tokens.now) rest n UnknownOp (length c.args.tokens.now) c.in-Ok.ensures.ok (sym (length-map c.args.tokens.now view)) (unknown_name c.args.d.now b n rest c.in_default.ensures.none)

pub returns-then-before-ge-MOST_NODES-clause-stops : goal.returns-then-before-ge-MOST_NODES-clause-stops
returns-then-before-ge-MOST_NODES-clause-stops c =
    let b = placed c.args.before.opened c.args.before.names in
    let n = c.in-Ok.found.0.now in
    let rest = views c.in-Ok.found.1.now in
    let t = c.in-Some.ensures.some in
    at_name c.args.d.now b (views c.args.tokens.now) rest n c.past_most.result (length c.args.tokens.now) c.in-Ok.ensures.ok (sym (length-map c.args.tokens.now view))
    (past_most c.args.d.now b n rest c.in-Some.op t.0 c.past_most.result c.in-Some.ensures.is.names t.1 c.if-before-ge-MOST_NODES.true c.past_most.ensures)

pub returns-in-Err-constant_at-clause-stops : goal.returns-in-Err-constant_at-clause-stops
returns-in-Err-constant_at-clause-stops c =
    let b = placed c.args.before.opened c.args.before.names in
    let n = c.in-Ok.found.0.now in
    let rest = views c.in-Ok.found.1.now in
    let t = c.in-Some.ensures.some in
    broken_constant c.args.d.now b n (views c.args.tokens.now) rest c.in-Some.op t.0 c.in-Err-constant_at.error _ c.in-Ok.ensures.ok t.1 c.if-before-ge-MOST_NODES.false c.in-Err-constant_at.ensures.stops c.broken-in-Err-constant_at.ensures
