use Rattle.std.proofs.Common.{refl, sym, subst}
use Rattle.std.specs.Prelude.{None}
use Rattle.c_types.specs.Table.{type_at}
use Rattle.c_units.specs.Statements as node
use Rattle.c_stmt_parts.specs.Asked.{IsSound, maybe_core}
use Rattle.c_stmt_parts.proofs.NodeFaults.{return_first, sound_by}
use Rattle.c_stmt_parts.proofs.tests.returned.Goals as goal

pub returns-in-None-clause-sound : goal.returns-in-None-clause-sound
returns-in-None-clause-sound c =
    let t = c.args.types.now in
    let r = type_at t c.args.to in
    subst (λ o. IsSound t c.args.line (node.Return r (maybe_core t o))) (sym c.in-None.is) (sound_by t c.args.line (node.Return r None) (λ g. None) (return_first r None) refl refl)
