use Rattle.std.proofs.Common.{◌≡◌, reverse, false, sym, subst, ◌∙◌}
use Rattle.std.proofs.lemmas.Option.{get_or_from_slice_get}
use Rattle.c_ast.specs.InForce.{look_in}
use Rattle.names_in_force.specs.Stacked.{Stacked}
use Rattle.names_in_force.specs.Numbered.{typedefs_in}
use Rattle.names_in_force.proofs.Looks.{found_made, found_nothing}
use Rattle.names_in_force.proofs.bindings.Bindings.is_typedef.Goals as goal

pub returns-in-Some : goal.returns-in-Some
returns-in-Some c =
    let i = c.self.inside in
    let n = c.in-Some.number in
    subst (λ (s : Stacked). c.index.result.now ≡ look_in (reverse s.bound) c.args.name.now false) c.self.view_is
    (sym (get_or_from_slice_get (typedefs_in i.known.entries) n c.index.result.now false c.index.ensures)
    ∙ c.self.invariant.newest n c.in-Some.ensures.within
    ∙ sym (found_made i.known.entries i.bound.items c.args.name.now n c.self.invariant.of_bound (sym c.in-Some.ensures.index) c.in-Some.ensures.unique))

pub returns-in-None : goal.returns-in-None
returns-in-None c =
    let i = c.self.inside in
    subst (λ (s : Stacked). false ≡ look_in (reverse s.bound) c.args.name.now false) c.self.view_is
    (sym (found_nothing i.known.entries i.bound.items c.args.name.now c.self.invariant.of_bound (sym c.in-None.ensures.index)))
