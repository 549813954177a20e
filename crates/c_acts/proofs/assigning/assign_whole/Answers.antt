use Rattle.std.proofs.Common.{◌≡◌, ◌∙◌, Err, ap}
use Rattle.std.proofs.lemmas.Result.{err_from_is_err_and}
use Rattle.objects.specs.declared.purpose.Purpose.TheVariants.{Assignment}
use Rattle.objects.specs.Copies.{copied}
use Rattle.c_meaning.specs.CoreTrees.{line_of}
use Rattle.c_types.specs.Table.{Table, tags, type_at}
use Rattle.c_runs.specs.Expressions.{assigned_whole}
use Rattle.c_runs.specs.Outcomes.{stores}
use Rattle.c_runs.specs.Places.{align_of, size_of}
use Rattle.c_worlds.proofs.lemmas.Comings.{gets_alike}
use Rattle.c_worlds.specs.Programs.{known, setting_of, tree, unit_of}
use Rattle.c_worlds.specs.Shown.{shown}
use Rattle.c_acts.proofs.Storages.{stores_end, stores_give, with_storage}
use Rattle.c_acts.proofs.Structures.{unreadable_ends, readable_stores}
use Rattle.c_acts.proofs.assigning.assign_whole.Goals as goal

pub returns-in-Err-clause-gets : goal.returns-in-Err-clause-gets
returns-in-Err-clause-gets c =
    let size : c.size-size.result ≡ size_of (unit_of c.args.program.now).tags (known c.args.program.now c.args.of) = c.size-size.ensures ∙ ap (λ (t : Table). size_of (tags t) (type_at t c.args.of)) c.types-types.ensures in
    let alignment : c.alignment-alignment.result ≡ align_of (unit_of c.args.program.now).tags (known c.args.program.now c.args.of) = c.alignment-alignment.ensures.is ∙ ap (λ (t : Table). align_of (tags t) (type_at t c.args.of)) c.types-types.ensures in
    λ calls k t. rw (← c.source.view_is)
    (unreadable_ends (setting_of c.args.program.now calls) (known c.args.program.now c.args.of) c.source.inside.line c.args.line
    c.args.parts.now.left_value c.args.parts.now.right_value k (shown c.args.world.now t) c.size-size.result c.alignment-alignment.result
    c.in-Err.cause size alignment c.in-Err.ensures.err)

pub returns-in_err-copy_whole-in-Ok-clause-gets : goal.returns-in_err-copy_whole-in-Ok-clause-gets
returns-in_err-copy_whole-in-Ok-clause-gets c =
    let size : c.size-size.result ≡ size_of (unit_of c.args.program.now).tags (known c.args.program.now c.args.of) = c.size-size.ensures ∙ ap (λ (t : Table). size_of (tags t) (type_at t c.args.of)) c.types-types.ensures in
    let alignment : c.alignment-alignment.result ≡ align_of (unit_of c.args.program.now).tags (known c.args.program.now c.args.of) = c.alignment-alignment.ensures.is ∙ ap (λ (t : Table). align_of (tags t) (type_at t c.args.of)) c.types-types.ensures in
    let stop = err_from_is_err_and c.from_residual.result c.from_residual.ensures.1 in
    λ calls. rw (stop.1, stop.2)
    (gets_alike
    (λ k w. assigned_whole (setting_of c.args.program.now calls) (known c.args.program.now c.args.of) (line_of (tree c.args.program.now c.args.parts.now.right.now)) c.args.line c.args.parts.now.left_value c.args.parts.now.right_value k w)
    (λ k w. stores (copied Assignment c.args.world.now.storage.objects c.args.parts.now.right_value c.args.parts.now.left_value c.size-size.result c.alignment-alignment.result) c.args.parts.now.left_value c.args.line k w)
    c.args.world.now (with_storage c.args.world.now c.copy_whole.new.storage) (Err c.in_err-copy_whole-in-Ok.field-0.0)
    (stores_end (copied Assignment c.args.world.now.storage.objects c.args.parts.now.right_value c.args.parts.now.left_value c.size-size.result c.alignment-alignment.result)
    c.args.line c.args.world.now c.copy_whole.new.storage c.args.parts.now.left_value c.in_err-copy_whole-in-Ok.field-0.0 c.in_err-copy_whole-in-Ok.ensures)
    (λ k t. readable_stores (setting_of c.args.program.now calls) (known c.args.program.now c.args.of) (line_of (tree c.args.program.now c.args.parts.now.right.now)) c.args.line
    c.args.parts.now.left_value c.args.parts.now.right_value k (shown c.args.world.now t) c.size-size.result c.alignment-alignment.result
    size alignment c.in-Ok.ensures.ok))

pub returns-in_ok-copy_whole-in-Ok-clause-gets : goal.returns-in_ok-copy_whole-in-Ok-clause-gets
returns-in_ok-copy_whole-in-Ok-clause-gets c =
    let size : c.size-size.result ≡ size_of (unit_of c.args.program.now).tags (known c.args.program.now c.args.of) = c.size-size.ensures ∙ ap (λ (t : Table). size_of (tags t) (type_at t c.args.of)) c.types-types.ensures in
    let alignment : c.alignment-alignment.result ≡ align_of (unit_of c.args.program.now).tags (known c.args.program.now c.args.of) = c.alignment-alignment.ensures.is ∙ ap (λ (t : Table). align_of (tags t) (type_at t c.args.of)) c.types-types.ensures in
    λ calls k t.
    (readable_stores (setting_of c.args.program.now calls) (known c.args.program.now c.args.of) (line_of (tree c.args.program.now c.args.parts.now.right.now)) c.args.line
    c.args.parts.now.left_value c.args.parts.now.right_value k (shown c.args.world.now t) c.size-size.result c.alignment-alignment.result
    size alignment c.in-Ok.ensures.ok
    ∙ stores_give (copied Assignment c.args.world.now.storage.objects c.args.parts.now.right_value c.args.parts.now.left_value c.size-size.result c.alignment-alignment.result)
    c.args.line c.args.world.now c.copy_whole.new.storage c.args.parts.now.left_value k t tt c.in_ok-copy_whole-in-Ok.ensures)
