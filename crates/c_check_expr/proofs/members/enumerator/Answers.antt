use Rattle.std.proofs.Common.{◌≡◌, w32, w64, to_z, of_z, rules, refl, sym, ap, ◌∙◌}
use Rattle.std.specs.Prelude.{is_some}
use Rattle.std.proofs.lemmas.Int.{to_z-of_z}
use mir.Val.{SFits}
use Rattle.c_types.specs.CType.{Int, basic}
use Rattle.c_meaning.specs.TypeConstraints.{is_in_int, written_or}
use Rattle.c_types.specs.Table.{type_at}
use Rattle.c_meaning.specs.Nodes as node
use Rattle.c_meaning.specs.TypeRows.{enumerator_value, with_enumerator}
use Rattle.c_check_expr.specs.Known.{state_of}
use Rattle.c_check_expr.specs.PartsSeen.{size_seen}
use Rattle.c_check_expr.proofs.EnumeratorNodes.{enumerator_known, none_broken, taken_broken, value_broken, value_given}
use Rattle.c_check_expr.proofs.TypeNodes.{node_breaks, node_fine}
use Rattle.c_check_expr.proofs.members.enumerator.Goals as goal

pub returns-then-is_some-clause-err : goal.returns-then-is_some-clause-err
returns-then-is_some-clause-err c =
    let t = c.args.types.now in
    let s = state_of c.args.scopes.now t in
    let v = size_seen t c.args.value in
    node_breaks s c.args.line (node.Enumerator c.args.name.now v c.args.next) (with_enumerator s c.args.line c.args.name.now (enumerator_value v c.args.next)) (enumerator_value v c.args.next) 5
    (taken_broken s c.args.name.now v c.args.next (sym (ap is_some c.find_here.ensures.means) ∙ sym c.is_some.ensures ∙ c.if-is_some.true))

pub returns-in_default-clause-err : goal.returns-in_default-clause-err
returns-in_default-clause-err c =
    let t = c.args.types.now in
    let s = state_of c.args.scopes.now t in
    let v = size_seen t c.args.value in
    let e = c.written_or.ensures ∙ ap (written_or v) (to_z-of_z w64 c.args.next c.ranges.next) in
    node_breaks s c.args.line (node.Enumerator c.args.name.now v c.args.next) (with_enumerator s c.args.line c.args.name.now (enumerator_value v c.args.next)) (enumerator_value v c.args.next) 12
    (value_broken s c.args.name.now v c.args.next (sym (ap is_some c.find_here.ensures.means) ∙ sym c.is_some.ensures ∙ c.if-is_some.false) (ap is_in_int (sym e) ∙ c.in_default.ensures.none))

pub returns-clause-ok : goal.returns-clause-ok
returns-clause-ok c =
    let t = c.args.types.now in
    let s = state_of c.args.scopes.now t in
    let v = size_seen t c.args.value in
    let z = c.in-Some.number in
    let e : c.written_or.result ≡ written_or v c.args.next = c.written_or.ensures ∙ ap (written_or v) (to_z-of_z w64 c.args.next c.ranges.next) in
    let b = none_broken s c.args.name.now v c.args.next (sym (ap is_some c.find_here.ensures.means) ∙ sym c.is_some.ensures ∙ c.if-is_some.false) (ap is_in_int (sym e) ∙ c.in-Some.ensures.held) in
    let g : enumerator_value v c.args.next ≡ z = value_given v c.args.next z (sym e ∙ c.in-Some.ensures.some) in
    let narrow : SFits w32 z = search rules in
    let same : to_z w32 (of_z w32 z) ≡ z = to_z-of_z w32 z narrow in
    let wide : SFits w64 c.from.result = search rules in
    let written : to_z w64 (of_z w64 c.from.result) ≡ to_z w32 (of_z w32 z) = to_z-of_z w64 c.from.result wide ∙ c.from.ensures in
    let i : type_at t c.basic_type.result ≡ basic Int = ap (type_at t) c.basic_type.ensures.is ∙ c.basic_type.ensures.means in
    node_fine s c.args.line (node.Enumerator c.args.name.now v c.args.next) (with_enumerator s c.args.line c.args.name.now (enumerator_value v c.args.next)) (enumerator_value v c.args.next) b refl
    ∙ enumerator_known s (state_of c.declare.new.scopes t) c.args.line c.args.name.now (type_at t c.basic_type.result) c.in_ok-level.field-0 (enumerator_value v c.args.next) (to_z w64 (of_z w64 c.from.result)) (to_z w32 (of_z w32 z))
    c.in_ok-declare.ensures.state i c.in_ok-level.ensures written (g ∙ sym same)
