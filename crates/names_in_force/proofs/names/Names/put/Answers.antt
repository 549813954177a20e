use Rattle.std.proofs.Common.{◌≡◌, [], length, reverse, sym, ap, ◌∙◌}
use Rattle.std.specs.Prelude.{vec_len}
use Rattle.std.proofs.lemmas.Bool.{eqb-false}
use Rattle.std.proofs.lemmas.Result.{on_ok_weaker}
use Rattle.c_ast.specs.InForce.{InForce, put}
use Rattle.names_in_force.proofs.Cuts.{names_put, starts_more, put_longer, some_reversed}
use Rattle.names_in_force.proofs.names.Names.put.Goals as goal

begun : (c : goal.After-put) → reverse c.self.inside.starts.items ≡ [] → ⊥
begun c = some_reversed c.self.inside.starts.items (λ e. eqb-false (vec_len c.self.inside.starts) 0 (sym c.is_empty.ensures ∙ c.if-is_empty.false) (c.self.inside.starts.ok.0 ∙ e))

pub invariant_of-self : goal.invariant_of-self
invariant_of-self c =
    let i = c.self.inside in
    starts_more (reverse i.starts.items) (length i.bindings.bound) (length c.put.new.self.bound) (begun c)
    (put_longer c.put.result c.put.new.self.bound i.bindings.bound _ c.put.ensures.ok c.put.ensures.err)
    c.self.invariant

pub returns-clause-ok : goal.returns-clause-ok
returns-clause-ok c =
    let i = c.self.inside in
    on_ok_weaker c.put.result
    (λ e. names_put i.bindings c.put.new.self i.starts.items c.args.name.now c.args.typedef (begun c) c.self.invariant c.put.ensures.kept e
    ∙ ap (λ (n : InForce). put n c.args.name.now c.args.typedef) c.self.view_is)
    c.put.ensures.ok
