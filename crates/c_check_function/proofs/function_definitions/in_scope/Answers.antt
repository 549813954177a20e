use Rattle.std.proofs.Common.{length, map, ap, sym, ◌∙◌}
use Rattle.c_ast.specs.SeenUnits.{declaration_seen}
use Rattle.c_meaning.specs.Linkage.{with_count}
use Rattle.c_check_expr.specs.Kept.{keeps_on}
use Rattle.c_check_expr.proofs.lemmas.Walking.{memory_stops, walk_as}
use Rattle.c_stmt_parts.specs.StatementsSeen.{block_seen}
use Rattle.c_check_function.specs.Defined.{AreDefinedIn, defines_in, in_scope_in}
use Rattle.c_check_function.specs.FunctionsSeen.{old_declarations_in}
use Rattle.c_check_function.specs.OwnParameters.{own_names, own_types}
use Rattle.c_check_function.proofs.BodyWalks.{body_breaks, body_fine, body_stops, own_later, scope_stops}
use Rattle.c_check_function.proofs.function_definitions.in_scope.Goals as goal

pub returns-in_err-old_declarations : goal.returns-in_err-old_declarations
returns-in_err-old_declarations c =
    let s = c.args.scopes.now in
    let a = c.args.types.now in
    let o = c.args.own in
    let f = c.args.f.now in
    scope_stops s a c.args.line o (map declaration_seen f.parameters) (block_seen f.body) c.old_declarations.new.scopes c.old_declarations.new.types c.in_err-old_declarations.field-0.0 c.from_residual.result c.from_residual.ensures.1
    (walk_as (old_declarations_in s a c.names-names.result.now (map declaration_seen c.as_slice.result.now)) (old_declarations_in s a (own_names o.parameters) (map declaration_seen f.parameters))
    (sym (ap (λ ns. old_declarations_in s a ns (map declaration_seen c.as_slice.result.now)) c.names-names.ensures ∙ ap (λ l. old_declarations_in s a (own_names o.parameters) (map declaration_seen l)) c.as_slice.ensures))
    c.in_err-old_declarations.ensures)

pub parameter_types-requires-clause-parameters : goal.parameter_types-requires-clause-parameters
parameter_types-requires-clause-parameters c = own_later c.args.types.now c.old_declarations.new.types c.in_ok-old_declarations.ensures.keeps.extends c.args.own.parameters c.requires.own.parameters

pub block-requires-clause-ready : goal.block-requires-clause-ready
block-requires-clause-ready c = record { result = c.result_of.ensures.within; body = c.new-body.ensures.within (length c.old_declarations.new.types.forms) c.in_ok-locals.ensures.within }

pub returns-in_err-code : goal.returns-in_err-code
returns-in_err-code c =
    let s = c.args.scopes.now in
    let a = c.args.types.now in
    let o = c.args.own in
    let f = c.args.f.now in
    let m = c.old_declarations.new.scopes in
    let t = c.old_declarations.new.types in
    let n = c.parameter_types.new.scopes in
    let v = c.set_count.new.scopes in
    let first = walk_as (old_declarations_in s a c.names-names.result.now (map declaration_seen c.as_slice.result.now)) (old_declarations_in s a (own_names o.parameters) (map declaration_seen f.parameters))
    (sym (ap (λ ns. old_declarations_in s a ns (map declaration_seen c.as_slice.result.now)) c.names-names.ensures ∙ ap (λ l. old_declarations_in s a (own_names o.parameters) (map declaration_seen l)) c.as_slice.ensures))
    c.in_ok-old_declarations.ensures in
    body_stops s a c.args.line o (map declaration_seen f.parameters) (block_seen f.body) m t first
    v c.in_ok-locals.locals c.len-count.result (record { result = c.result_of.result; labels = c.in_ok-labels.field-0 }) c.new-body.result c.requires.own.parameters c.requires.own.naming c.len-count.ensures
    (λ q e. c.in_ok-locals.ensures.types ∙ ap (λ y. own_types y t o.parameters) (c.in_ok-locals.ensures.state ∙ sym e))
    (c.in_ok-set_count.ensures.state ∙ ap (λ y. with_count y c.len-count.result) c.in_ok-locals.ensures.state) c.result_of.ensures.means c.in_ok-labels.ensures (c.new-body.ensures.is t)
    (keeps_on m n v t t t c.in_ok-locals.ensures.keeps c.in_ok-set_count.ensures.keeps)
    c.block.new.scopes c.block.new.types c.in_err-code.field-0.0 c.from_residual-in_err-code.result c.from_residual-in_err-code.ensures.1 c.in_err-code.ensures

pub returns-then-body : goal.returns-then-body
returns-then-body c =
    let s = c.args.scopes.now in
    let a = c.args.types.now in
    let o = c.args.own in
    let f = c.args.f.now in
    let m = c.old_declarations.new.scopes in
    let t = c.old_declarations.new.types in
    let n = c.parameter_types.new.scopes in
    let v = c.set_count.new.scopes in
    let first = walk_as (old_declarations_in s a c.names-names.result.now (map declaration_seen c.as_slice.result.now)) (old_declarations_in s a (own_names o.parameters) (map declaration_seen f.parameters))
    (sym (ap (λ ns. old_declarations_in s a ns (map declaration_seen c.as_slice.result.now)) c.names-names.ensures ∙ ap (λ l. old_declarations_in s a (own_names o.parameters) (map declaration_seen l)) c.as_slice.ensures))
    c.in_ok-old_declarations.ensures in
    body_breaks s a c.args.line o (map declaration_seen f.parameters) (block_seen f.body) m t first
    v c.in_ok-locals.locals c.len-count.result (record { result = c.result_of.result; labels = c.in_ok-labels.field-0 }) c.new-body.result c.requires.own.parameters c.requires.own.naming c.len-count.ensures
    (λ q e. c.in_ok-locals.ensures.types ∙ ap (λ y. own_types y t o.parameters) (c.in_ok-locals.ensures.state ∙ sym e))
    (c.in_ok-set_count.ensures.state ∙ ap (λ y. with_count y c.len-count.result) c.in_ok-locals.ensures.state) c.result_of.ensures.means c.in_ok-labels.ensures (c.new-body.ensures.is t)
    (keeps_on m n v t t t c.in_ok-locals.ensures.keeps c.in_ok-set_count.ensures.keeps)
    c.block.new.scopes c.block.new.types c.block.new.body c.in_ok-code.code c.in_ok-code.ensures c.if-body.true

pub returns-in_err-with_body : goal.returns-in_err-with_body
returns-in_err-with_body c =
    let s = c.args.scopes.now in
    let a = c.args.types.now in
    let o = c.args.own in
    let f = c.args.f.now in
    let m = c.old_declarations.new.scopes in
    let t = c.old_declarations.new.types in
    let n = c.parameter_types.new.scopes in
    let v = c.set_count.new.scopes in
    memory_stops defines_in AreDefinedIn (in_scope_in s a c.args.line o (map declaration_seen f.parameters) (block_seen f.body)) s c.block.new.scopes a c.block.new.types c.from_residual-in_err-with_body.result c.from_residual-in_err-with_body.ensures.1
    (keeps_on s m c.block.new.scopes a t c.block.new.types c.in_ok-old_declarations.ensures.keeps
    (keeps_on m v c.block.new.scopes t t c.block.new.types (keeps_on m n v t t t c.in_ok-locals.ensures.keeps c.in_ok-set_count.ensures.keeps) c.in_ok-code.ensures.keeps))

pub returns : goal.returns
returns c =
    let s = c.args.scopes.now in
    let a = c.args.types.now in
    let o = c.args.own in
    let f = c.args.f.now in
    let m = c.old_declarations.new.scopes in
    let t = c.old_declarations.new.types in
    let n = c.parameter_types.new.scopes in
    let v = c.set_count.new.scopes in
    let first = walk_as (old_declarations_in s a c.names-names.result.now (map declaration_seen c.as_slice.result.now)) (old_declarations_in s a (own_names o.parameters) (map declaration_seen f.parameters))
    (sym (ap (λ ns. old_declarations_in s a ns (map declaration_seen c.as_slice.result.now)) c.names-names.ensures ∙ ap (λ l. old_declarations_in s a (own_names o.parameters) (map declaration_seen l)) c.as_slice.ensures))
    c.in_ok-old_declarations.ensures in
    body_fine s a c.args.line o (map declaration_seen f.parameters) (block_seen f.body) m t first
    v c.in_ok-locals.locals c.len-count.result (record { result = c.result_of.result; labels = c.in_ok-labels.field-0 }) c.new-body.result c.requires.own.parameters c.requires.own.naming c.len-count.ensures
    (λ q e. c.in_ok-locals.ensures.types ∙ ap (λ y. own_types y t o.parameters) (c.in_ok-locals.ensures.state ∙ sym e))
    (c.in_ok-set_count.ensures.state ∙ ap (λ y. with_count y c.len-count.result) c.in_ok-locals.ensures.state) c.result_of.ensures.means c.in_ok-labels.ensures (c.new-body.ensures.is t)
    (keeps_on m n v t t t c.in_ok-locals.ensures.keeps c.in_ok-set_count.ensures.keeps)
    c.block.new.scopes c.block.new.types c.block.new.body c.in_ok-code.code c.in_ok-code.ensures
    c.in_ok-with_body.field-0 c.if-body.false (c.in_ok-with_body.ensures.is c.block.new.types) (c.in_ok-with_body.ensures.within (length c.block.new.types.forms))
