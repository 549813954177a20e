use Rattle.std.proofs.Common.{◌∙◌}
use Rattle.c_types.specs.Table.{tags, type_at}
use Rattle.c_meaning.specs.CoreTrees.{seen}
use Rattle.c_meaning.specs.Nodes as node
use Rattle.c_values.specs.declared.check_fault.CheckFault.{CheckFault}
use Rattle.c_check_expr.specs.AtNode.{IsRefused}
use Rattle.c_check_expr.proofs.BinaryNode.{binary_deep, binary_fine, binary_takes, values_combine, values_compare}
use Rattle.c_check_expr.proofs.NodeLimits.{node_broken}
use Rattle.c_check_expr.proofs.NodeTells.{passed_on}
use Rattle.c_check_expr.proofs.binary.binary.Goals as goal

pub returns-in-Some-clause-err : goal.returns-in-Some-clause-err
returns-in-Some-clause-err c =
    let t = type_at c.args.types.now in
    λ s h. node_broken s c.args.line c.in-Some.number (node.Binary c.args.op (seen t c.args.a) (seen t c.args.b)) (c.broken.ensures s h ∙ c.in-Some.is)

pub returns-in_err-v-clause-err : goal.returns-in_err-v-clause-err
returns-in_err-v-clause-err c =
    let t = type_at c.args.types.now in
    passed_on c.from_residual.result c.in_err-v.field-0.0
    (λ (e : CheckFault). IsRefused c.args.types.now c.args.line (node.Binary c.args.op (seen t c.args.a) (seen t c.args.b)) e)
    c.from_residual.ensures.1
    (binary_deep c.args.types.now c.types_are_within_limits.ensures c.args.line c.args.op c.args.a c.args.b c.requires.a c.requires.b (λ s h. c.broken.ensures s h ∙ c.in_default.is) c.in_err-v.field-0.0 c.in_err-v.ensures.deep)

pub combined-requires-clause-kinds : goal.combined-requires-clause-kinds
combined-requires-clause-kinds c =
    let old = c.args.types.now in
    let t = type_at old in
    let takes = binary_takes (tags old) c.args.op (seen t c.args.a) (seen t c.args.b) (λ s h. c.broken.ensures s h ∙ c.in_default.is) in
    values_combine (type_at c.into_two_values.new.types) c.args.op (seen t c.args.a) (seen t c.args.b) c.in_ok-v.v c.in_ok-v.w c.in_ok-v.ensures.first c.in_ok-v.ensures.second takes.0

pub combined-requires-clause-compares : goal.combined-requires-clause-compares
combined-requires-clause-compares c =
    let old = c.args.types.now in
    let t = type_at old in
    let takes = binary_takes (tags old) c.args.op (seen t c.args.a) (seen t c.args.b) (λ s h. c.broken.ensures s h ∙ c.in_default.is) in
    values_compare (type_at c.into_two_values.new.types) (tags old) (tags c.into_two_values.new.types) c.args.op (seen t c.args.a) (seen t c.args.b) c.in_ok-v.v c.in_ok-v.w c.into_two_values.ensures.grows.tags_same c.in_ok-v.ensures.first c.in_ok-v.ensures.second takes.1

pub returns-clause-ok : goal.returns-clause-ok
returns-clause-ok c =
    let t = type_at c.args.types.now in
    binary_fine c.args.types.now c.into_two_values.new.types c.types_are_within_limits-2.ensures c.into_two_values.ensures.grows.tags_same c.args.line c.args.op (seen t c.args.a) (seen t c.args.b) c.in_ok-v.v c.in_ok-v.w c.in_ok-core.core (λ s h. c.broken.ensures s h ∙ c.in_default.is) c.in_ok-v.ensures.first c.in_ok-v.ensures.first_within c.in_ok-v.ensures.second c.in_ok-v.ensures.second_within c.in_ok-core.ensures.means c.in_ok-core.ensures.within
