use Rattle.std.proofs.Common.{◌≡◌, ◌-◌, ◌++◌, List, length, map, take, drop, sym, ap, ◌∙◌}
use Rattle.std.proofs.lemmas.List.{drop-map, take_rest}
use Rattle.names_in_force.specs.declared.bound.Bound.{Bound}
use Rattle.names_in_force.specs.Stacked.{Stacked}
use Rattle.names_in_force.specs.Numbered.{names_in, named}
use Rattle.names_in_force.proofs.bindings.Bindings.keep_from.Goals as goal

pub returns-clause-ok : goal.returns-clause-ok
returns-clause-ok c =
    let i = c.self.inside in
    let names = names_in i.known.entries in
    let e : c.extend_from_slice.new.self.items ≡ drop c.args.start i.bound.items =
    c.in_ok-extend_from_slice.ensures.items
    ∙ ap (λ (bs : List Bound). bs ++ take (length c.deref.result.now - c.args.start) (drop c.args.start c.deref.result.now)) c.new-kept.ensures.items
    ∙ take_rest c.deref.result.now c.args.start
    ∙ ap (drop c.args.start) c.deref.ensures.value
    in
    ap (map (named names)) e ∙ sym (drop-map (named names) c.args.start i.bound.items) ∙ ap (λ (s : Stacked). drop c.args.start s.bound) c.self.view_is
