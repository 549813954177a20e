use Rattle.std.proofs.Common.{subst}
use Rattle.std.specs.Prelude.{[], Some, Ok}
use Rattle.c_meaning.specs.CoreTrees.{line_of, type_of, what_of}
use Rattle.c_runs.specs.Expressions.{row}
use Rattle.c_worlds.specs.Programs.{known, setting_of}
use Rattle.c_worlds.specs.Shown.{Comes}
use Rattle.c_plain.proofs.AtOnce.{if_some}
use Rattle.c_plain.proofs.Steps.{leaf_goes}
use Rattle.c_plain.proofs.found.leaf_pointer.Goals as goal

pub returns-in_default : goal.returns-in_default
returns-in_default c =
    let p = c.args.program.now in
    let w = c.args.world.now in
    let e = c.args.e.now in
    if_some _ _ c.found.result c.found.ensures
    (λ v i calls. leaf_goes (setting_of p calls) (known p) e w w (Ok (Some v)) c.in-None.ensures.none
    (subst (λ r. Comes (λ k x. row (setting_of p calls) (what_of e) (known p (type_of e)) (line_of e) [] k x) w w r) i (c.leaf.ensures calls)))
