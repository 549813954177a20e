use Rattle.std.proofs.Common.{[], length, reverse, ap, ◌∙◌}
use Rattle.std.proofs.lemmas.Result.{on_ok_weaker}
use Rattle.c_ast.specs.InForce.{InForce, put}
use Rattle.names_in_force.proofs.Cuts.{names_put, starts_more, put_longer, some_start}
use Rattle.names_in_force.proofs.names.Names.put_alone.Goals as goal

pub invariant_of-self-else-is_err : goal.invariant_of-self-else-is_err
invariant_of-self-else-is_err c =
    let i = c.self.inside in
    starts_more (reverse i.starts.items) (length i.bindings.bound) (length c.put-result.new.self.bound)
    (some_start (reverse i.starts.items) i.bindings.bound [] c.args.self.now.scopes (ap (λ (n : InForce). n.scopes) (c.self.view_is ∙ c.in_ok-open.ensures.ok)))
    (put_longer c.put-result.result c.put-result.new.self.bound i.bindings.bound _ c.put-result.ensures.ok c.put-result.ensures.err)
    c.self.invariant

pub returns-else-is_err-clause-ok : goal.returns-else-is_err-clause-ok
returns-else-is_err-clause-ok c =
    let i = c.self.inside in
    let v = c.self.view_is ∙ c.in_ok-open.ensures.ok in
    on_ok_weaker c.put-result.result
    (λ e. names_put i.bindings c.put-result.new.self i.starts.items c.args.name.now c.args.typedef
    (some_start (reverse i.starts.items) i.bindings.bound [] c.args.self.now.scopes (ap (λ (n : InForce). n.scopes) v))
    c.self.invariant c.put-result.ensures.kept e
    ∙ ap (λ (n : InForce). put n c.args.name.now c.args.typedef) v)
    c.put-result.ensures.ok
