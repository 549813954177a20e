use Rattle.std.proofs.Common.{◌≡◌, true, sym, ap, ◌∙◌}
use Rattle.c_types.specs.Layout.{structure_extent}
use Rattle.c_types.specs.Table.{are_objects, fields_at, form_at, is_union}
use Rattle.c_types.proofs.Completing.{extent_laid, not_refused}
use Rattle.c_types.proofs.type_table.TypeTable.laying_of.Goals as goal

pub returns-clause-accepted : goal.returns-clause-accepted
returns-clause-accepted c =
    let t = c.args.self.now in
    let ms = c.args.members.now in
    let x = c.extent.result in
    let o : are_objects (fields_at t ms) ≡ true = sym c.are_objects.ensures.is ∙ c.if-not-are_objects.false in
    let e : x ≡ structure_extent (is_union (form_at t c.args.id)) (fields_at t ms) =
    extent_laid c.in_ok-laying.laying c.is_union.result (fields_at t ms) ms x c.in_ok-laying.ensures.ok c.extent.ensures.size c.extent.ensures.align c.extent.ensures.nesting ∙ ap (λ k. structure_extent k (fields_at t ms)) c.is_union.ensures in
    not_refused t c.args.id ms x o e c.in_ok-excess.ensures.ok
