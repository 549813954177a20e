use Rattle.std.proofs.Common.{sym, ap}
use Rattle.std.specs.Prelude.{Some}
use Rattle.c_types.specs.Table.{type_at}
use Rattle.c_meaning.specs.CoreTrees.{line_of}
use Rattle.c_check_expr.specs.Walks.{core}
use Rattle.c_units.specs.Statements as node
use Rattle.c_stmt_parts.specs.Asked.{IsToldAt, return_broken}
use Rattle.c_stmt_parts.proofs.NodeFaults.{broken_by, handed_on, limit_by, return_first, sound_by}
use Rattle.c_stmt_parts.proofs.ValueLimits.{value_sound, value_told}
use Rattle.c_stmt_parts.proofs.tests.returned_value.Goals as goal

pub returns-in-Some-clause-told : goal.returns-in-Some-clause-told
returns-in-Some-clause-told c =
    let t = c.args.types.now in
    let r = type_at t c.args.to in
    let x = core t c.args.e in
    broken_by t c.args.line (node.Return r (Some x)) (λ g. return_broken g r x) (return_first r (Some x)) c.in-Some.number (sym c.in-Some.ensures)

pub returns-in_err-v-clause-told : goal.returns-in_err-v-clause-told
returns-in_err-v-clause-told c =
    let t = c.args.types.now in
    let r = type_at t c.args.to in
    let x = core t c.args.e in
    let e = c.in_err-v.field-0.0 in
    handed_on c.from_residual.result e (IsToldAt t c.args.line (node.Return r (Some x))) c.from_residual.ensures.1
    (limit_by t c.args.line (node.Return r (Some x)) (λ g. return_broken g r x) (return_first r (Some x)) e (sym c.in_default.ensures) (value_told t c.args.e c.types_are_within_limits.ensures c.requires.within e c.e.inside.line (ap line_of (sym c.e.view_is)) c.in_err-v.ensures.deep))

pub returns-then-is_record-clause-sound : goal.returns-then-is_record-clause-sound
returns-then-is_record-clause-sound c =
    let t = c.args.types.now in
    let r = type_at t c.args.to in
    let x = core t c.args.e in
    sound_by t c.args.line (node.Return r (Some x)) (λ g. return_broken g r x) (return_first r (Some x)) (sym c.in_default.ensures) (value_sound t c.args.e c.types_are_within_limits.ensures c.requires.within c.in_ok-v.ensures.shallow)

pub returns-clause-sound : goal.returns-clause-sound
returns-clause-sound c =
    let t = c.args.types.now in
    let r = type_at t c.args.to in
    let x = core t c.args.e in
    sound_by t c.args.line (node.Return r (Some x)) (λ g. return_broken g r x) (return_first r (Some x)) (sym c.in_default.ensures) (value_sound t c.args.e c.types_are_within_limits.ensures c.requires.within c.in_ok-v.ensures.shallow)
