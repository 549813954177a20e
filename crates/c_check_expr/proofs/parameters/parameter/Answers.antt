use Rattle.std.proofs.Common.{refl, sym, ap, ◌∙◌}
use Rattle.c_types.specs.Table.{type_at}
use Rattle.c_meaning.specs.Constraints.{fault_at}
use Rattle.c_meaning.specs.Nodes as node
use Rattle.c_meaning.specs.TypeRows.{adjusted, with_parameter}
use Rattle.c_meaning.specs.Typing.{unless}
use Rattle.c_values.specs.declared.check_fault.CheckFault.{CheckFault}
use Rattle.c_check_expr.specs.AtNode.{Tells}
use Rattle.c_check_expr.specs.Known.{state_of}
use Rattle.c_check_expr.specs.ParameterNode.{parameter_at}
use Rattle.c_check_expr.proofs.DeclaratorNodes.{told_at}
use Rattle.c_check_expr.proofs.Handed.{handed_on}
use Rattle.c_check_expr.proofs.ParameterNodes.{broken_parameter, deep_parameter, fine_parameter, parameter_becomes, same_kept}
use Rattle.c_check_expr.specs.SymbolsStay.{symbols_in_later}
use Rattle.c_check_expr.proofs.parameters.parameter.Goals as goal

pub returns-in-Some-clause-err : goal.returns-in-Some-clause-err
returns-in-Some-clause-err c =
    let s = state_of c.args.scopes.now c.args.types.now in
    let spot = c.args.spot in
    let classes = c.args.classes.now in
    let name = c.args.shape.name in
    let of = type_at c.args.types.now c.args.shape.of in
    ap (λ f. unless f (with_parameter s spot.line spot.index classes name (adjusted of)) (record { name = name; of = adjusted of }))
    (broken_parameter s spot.line classes name of spot.alone c.in-Some.number (sym c.broken.ensures ∙ c.in-Some.is))

pub returns-in_err-of-clause-err : goal.returns-in_err-of-clause-err
returns-in_err-of-clause-err c =
    let s = state_of c.args.scopes.now c.args.types.now in
    let spot = c.args.spot in
    let classes = c.args.classes.now in
    let name = c.args.shape.name in
    let of = type_at c.args.types.now c.args.shape.of in
    let n = node.Typing (node.Parameter classes name of spot.alone) in
    let fault = c.in_err-of.field-0.0 in
    handed_on c.from_residual.result fault (λ (e : CheckFault). Tells e (parameter_at s spot classes name of)) c.from_residual.ensures.1
    (told_at s spot.line n (with_parameter s spot.line spot.index classes name (adjusted of)) (record { name = name; of = adjusted of }) (fault_at s spot.line n) fault refl
    (deep_parameter s spot.line classes name of spot.alone fault (sym c.broken.ensures ∙ c.in_default.is) (record { size = c.adjusted.ensures.size; nesting = c.adjusted.ensures.nesting }) c.in_err-of.ensures.deep))

pub returns-in_err-of-clause-keeps : goal.returns-in_err-of-clause-keeps
returns-in_err-of-clause-keeps c = same_kept c.args.scopes.now c.args.types.now c.adjusted.new.types c.adjusted.ensures.grows c.requires.symbols

pub declare_parameter-requires-clause-symbols : goal.declare_parameter-requires-clause-symbols
declare_parameter-requires-clause-symbols c = symbols_in_later c.args.types.now c.adjusted.new.types c.adjusted.ensures.grows.extends c.args.scopes.now.symbols c.requires.symbols

pub returns-clause-ok : goal.returns-clause-ok
returns-clause-ok c =
    let t = c.args.types.now in
    let spot = c.args.spot in
    let classes = c.args.classes.now in
    let name = c.args.shape.name in
    let of = type_at t c.args.shape.of in
    let x = c.in_ok-of.ensures in
    parameter_becomes c.args.scopes.now c.declare_parameter.new.scopes t c.adjusted.new.types spot classes name of c.in_ok-of.of x.grows c.requires.symbols c.in_ok-declare_parameter.ensures.state x.means
    (fine_parameter (state_of c.args.scopes.now t) spot.line classes name of spot.alone (sym c.broken.ensures ∙ c.in_default.is) (record { size = x.size; nesting = x.nesting }) x.shallow)
