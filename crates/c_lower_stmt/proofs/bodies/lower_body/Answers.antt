use Rattle.std.proofs.Common.{◌==◌, length, map, ap, sym, ◌∙◌}
use Rattle.c_types.specs.Table.{tags, type_at, types}
use Rattle.c_meaning.specs.Rows.{result_type}
use Rattle.c_meaning.specs.Units.{function_seen, labels}
use Rattle.c_worlds.specs.Programs.{known, unit_of}
use Rattle.lowered_statements.specs.FunctionBodies.{function_in}
use Rattle.lowered_statements.specs.Layouts.{Layout, layout}
use Rattle.statement_steps.proofs.lemmas.Trees.{tree_is}
use Rattle.c_lower_stmt.specs.Bodies.{function_in as tree_in}
use Rattle.c_lower_stmt.proofs.lemmas.Bodying.{begins, body_is}
use Rattle.c_lower_stmt.proofs.bodies.lower_body.Goals as goal

pub returns : goal.returns
returns c =
    let p = c.args.program.now in let f = c.args.f.now in let k = known p in let tree = tree_in p f in let u = unit_of p in
    let g = function_in u p.order c.args.number c.args.tables tree in let a = layout u.tags tree in
    let laid_is = c.in_ok-places.ensures ∙ (λ i. layout (tags (c.types.ensures i)) (function_seen (types (c.types.ensures i)) f)) in
    let labels_are = c.in_ok-labels.ensures k ∙ ap labels (tree_is k f.body) in
    let result_is = (λ i. type_at (sym c.types-2.ensures i) c.result_of.result) ∙ c.result_of.ensures ∙ (λ i. result_type (type_at (c.types-2.ensures i) f.of)) in
    let places_are = c.as_slice.ensures ∙ ap (λ (x : Layout). x.places) laid_is in
    let slots_are = ap (λ (x : Layout). x.slots) laid_is in
    body_is _ g tree a _ c.fill.new.into
    (λ i. record {
      context = record { unit = u; order = p.order; parameters = f.parameters; places = places_are i };
      locals = map k (c.as_slice-2.ensures i);
      result = result_is i;
      gives_zero = c.args.number == c.main.ensures i;
      labels = labels_are i;
      tables = c.args.tables;
    })
    (begins g a _ c.new.ensures.items c.new-2.ensures slots_are (c.in_ok-count.ensures ∙ ap length labels_are) c.new-3.ensures.items)
    c.in_ok-fill.ensures
