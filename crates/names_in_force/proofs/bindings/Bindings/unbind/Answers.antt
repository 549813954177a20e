use Rattle.std.proofs.Common.{◌-◌, List, length, map, take, sym, ap, subst, ◌∙◌}
use Rattle.c_ast.specs.InForce.{Binding}
use Rattle.names_in_force.specs.declared.bound.Bound.{Bound}
use Rattle.names_in_force.specs.Stacked.{Stacked}
use Rattle.names_in_force.specs.Numbered.{names_in, named, AreNumbered}
use Rattle.names_in_force.proofs.Numbering.{numbered_unbound, named_unbound, named_set}
use Rattle.names_in_force.proofs.bindings.Bindings.unbind.Goals as goal

pub invariant_of-self : goal.invariant_of-self
invariant_of-self c =
    let i = c.self.inside in
    numbered_unbound i.known.entries c.in-Some.last c.pop.new.self.items i.kept.items
    (subst (λ (bs : List Bound). AreNumbered i.known.entries bs i.kept.items) c.in-Some.ensures.items c.self.invariant)

pub returns-in-Some-clause-bound : goal.returns-in-Some-clause-bound
returns-in-Some-clause-bound c =
    let i = c.self.inside in
    named_unbound i.known.entries c.in-Some.last c.pop.new.self.items
    ∙ ap (λ (bs : List Binding). take (length bs - 1) bs) (ap (map (named (names_in i.known.entries))) (sym c.in-Some.ensures.items) ∙ ap (λ (s : Stacked). s.bound) c.self.view_is)

pub returns-in-Some-clause-kept : goal.returns-in-Some-clause-kept
returns-in-Some-clause-kept c =
    named_set c.self.inside.known.entries c.in-Some.last.number c.in-Some.last.before c.self.inside.kept.items ∙ ap (λ (s : Stacked). s.kept) c.self.view_is
