use Rattle.std.proofs.Common.{◌≡◌, ◌<◌, ◌++◌, ◌∷◌, [], List, take, drop, get_or, length, sym, ap, subst, ◌∙◌, arith}
use Rattle.std.specs.Prelude.{Result, Ok, Err, OnOk}
use Rattle.std.proofs.lemmas.List.{length-map}
use Rattle.c_ast.specs.InForce.{Binding}
use Rattle.names_in_force.specs.Stacked.{Stacked}
use Rattle.names_in_force.specs.Numbered.{names_in, named}
use Rattle.names_in_force.proofs.Numbering.{one_of, binding}
use Rattle.names_in_force.proofs.bindings.Bindings.rebind.Goals as goal

appended : {A E : Type 0} (r : Result A E) (new old more other : List Binding) → more ≡ other → OnOk r (new ≡ old ++ other) → OnOk r (new ≡ old ++ more)
appended (Ok a) new old more other e h = h ∙ ap (λ bs. old ++ bs) (sym e)
appended (Err x) new old more other e h = h

pub returns-clause-ok : goal.returns-clause-ok
returns-clause-ok c =
    let i = c.self.inside in
    let b = c.index-again.result.now in
    let names = names_in i.known.entries in
    let l : c.args.place < length (i.kept.items) = omega (arith, subst (λ (s : Stacked). c.args.place < length s.kept) (sym c.self.view_is) c.requires, length-map i.kept.items (named names)) in
    appended c.bind.result c.bind.new.self.bound c.args.self.now.bound _ _
    (subst (λ (s : Stacked). take 1 (drop c.args.place s.kept) ≡ binding (get_or s.names b.number []) b.typedef ∷ []) c.self.view_is (one_of names i.kept.items c.args.place b l c.index-again.ensures))
    c.bind.ensures.ok
