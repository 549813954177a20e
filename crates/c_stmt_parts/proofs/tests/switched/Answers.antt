use Rattle.std.proofs.Common.{sym, ap, ◌∙◌}
use Rattle.c_types.specs.Conversions.{is_integer}
use Rattle.c_types.specs.Table.{tags}
use Rattle.c_meaning.specs.CoreTrees.{line_of}
use Rattle.c_meaning.specs.Values.{promoted_value}
use Rattle.c_check_expr.specs.Walks.{core}
use Rattle.c_units.specs.Statements.{is_nothing}
use Rattle.c_units.specs.Statements as node
use Rattle.c_stmt_parts.specs.Asked.{IsToldAt}
use Rattle.c_stmt_parts.proofs.NodeFaults.{broken_by, handed_on, limit_by, sound_by, switch_broken, switch_fine, switch_first, switch_nothing, switch_other}
use Rattle.c_stmt_parts.proofs.ValueLimits.{value_sound, value_told}
use Rattle.c_stmt_parts.proofs.tests.switched.Goals as goal

pub returns-then-is_nothing-clause-told : goal.returns-then-is_nothing-clause-told
returns-then-is_nothing-clause-told c =
    let t = c.args.types.now in
    let x = core t c.args.e in
    broken_by t c.args.line (node.Switch x) (λ g. switch_broken g x) (switch_first x) 46
    (switch_nothing (tags t) x (ap (is_nothing (tags t)) (sym c.value_type-v.ensures.is) ∙ sym c.is_nothing.ensures ∙ c.if-is_nothing.true))

pub returns-then-not-is_integer-clause-told : goal.returns-then-not-is_integer-clause-told
returns-then-not-is_integer-clause-told c =
    let t = c.args.types.now in
    let x = core t c.args.e in
    broken_by t c.args.line (node.Switch x) (λ g. switch_broken g x) (switch_first x) 47
    (switch_other (tags t) x (ap (is_nothing (tags t)) (sym c.value_type-v.ensures.is) ∙ sym c.is_nothing.ensures ∙ c.if-is_nothing.false) (ap is_integer (sym c.value_type-v.ensures.is) ∙ sym c.is_integer.ensures ∙ c.if-not-is_integer.true))

pub returns-in_err-v-clause-told : goal.returns-in_err-v-clause-told
returns-in_err-v-clause-told c =
    let t = c.args.types.now in
    let x = core t c.args.e in
    let fine = switch_fine (tags t) x (ap (is_nothing (tags t)) (sym c.value_type-v.ensures.is) ∙ sym c.is_nothing.ensures ∙ c.if-is_nothing.false) (ap is_integer (sym c.value_type-v.ensures.is) ∙ sym c.is_integer.ensures ∙ c.if-not-is_integer.false) in
    let e = c.in_err-v.field-0.0 in
    handed_on c.from_residual.result e (IsToldAt t c.args.line (node.Switch x)) c.from_residual.ensures.1
    (limit_by t c.args.line (node.Switch x) (λ g. switch_broken g x) (switch_first x) e fine (value_told t c.args.e c.types_are_within_limits.ensures c.requires e c.e.inside.line (ap line_of (sym c.e.view_is)) c.in_err-v.ensures.deep))

pub returns-clause-sound : goal.returns-clause-sound
returns-clause-sound c =
    let t = c.args.types.now in
    let x = core t c.args.e in
    let fine = switch_fine (tags t) x (ap (is_nothing (tags t)) (sym c.value_type-v.ensures.is) ∙ sym c.is_nothing.ensures ∙ c.if-is_nothing.false) (ap is_integer (sym c.value_type-v.ensures.is) ∙ sym c.is_integer.ensures ∙ c.if-not-is_integer.false) in
    sound_by t c.args.line (node.Switch x) (λ g. switch_broken g x) (switch_first x) fine (value_sound t c.args.e c.types_are_within_limits.ensures c.requires c.in_ok-v.ensures.shallow)

pub returns-clause-ok : goal.returns-clause-ok
returns-clause-ok c = c.in_ok-promoted.ensures.means ∙ ap promoted_value c.in_ok-v.ensures.means
