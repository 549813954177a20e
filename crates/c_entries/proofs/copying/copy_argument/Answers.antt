use Rattle.std.proofs.Common.{ℕ, subst, sym, ◌∙◌}
use Rattle.std.specs.Prelude.{Err}
use Rattle.std.proofs.lemmas.Result.{err_from_is_err_and}
use Rattle.c_meaning.specs.CoreTrees.{CoreOf, Core, cores_of}
use Rattle.c_entries.specs.Entered.{Copies}
use Rattle.c_entries.proofs.Copied.{copies, not_copied}
use Rattle.c_entries.proofs.copying.copy_argument.Goals as goal

pub returns-in_err-copy_structure-in-Some-clause-copies : goal.returns-in_err-copy_structure-in-Some-clause-copies
returns-in_err-copy_structure-in-Some-clause-copies c =
    let x = c.part.inside in
    let q = err_from_is_err_and c.from_residual.result c.from_residual.ensures.1 in
    let stop = c.in_err-copy_structure-in-Some.field-0.0 in
    rw (q.1, q.2)
    (subst (λ (e : CoreOf ℕ). Copies c.args.program.now e c.args.n c.args.value c.args.world.now c.copy_structure.new.world (Err stop)) c.part.view_is
    (not_copied c.args.program.now (Core x.what x.of x.line (cores_of x.kids)) c.args.n c.args.value c.in-Some.copy c.args.world.now c.copy_structure.new.world stop
    (sym c.get.ensures ∙ c.in-Some.is) c.in_err-copy_structure-in-Some.ensures.becomes))

pub returns-in_ok-copy_structure-in-Some-clause-copies : goal.returns-in_ok-copy_structure-in-Some-clause-copies
returns-in_ok-copy_structure-in-Some-clause-copies c =
    let x = c.part.inside in
    rw (← c.part.view_is)
    (copies c.args.program.now (Core x.what x.of x.line (cores_of x.kids)) c.args.n c.args.value c.in-Some.copy c.args.world.now c.copy_structure.new.world
    (sym c.get.ensures ∙ c.in-Some.is) c.in_ok-copy_structure-in-Some.ensures.becomes)
