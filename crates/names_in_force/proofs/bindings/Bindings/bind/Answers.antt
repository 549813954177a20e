use Rattle.std.proofs.Common.{◌<◌, ◌++◌, ◌∷◌, [], ℕ, Bool, length, get_or, sym, ap, subst, ◌∙◌, arith}
use Rattle.std.specs.Prelude.{Vec}
use Rattle.std.specs.declared.alloc.Global.{Global}
use Rattle.std.proofs.lemmas.List.{length-map}
use Rattle.names_in_force.specs.Stacked.{Stacked}
use Rattle.names_in_force.specs.Numbered.{names_in}
use Rattle.names_in_force.proofs.Numbering.{numbered_bound, named_bound, named_set, binding}
use Rattle.names_in_force.proofs.bindings.Bindings.bind.Goals as goal

pub invariant_of-self-2 : goal.invariant_of-self-2
invariant_of-self-2 c =
    let i = c.self.inside in
    let n = c.args.number in
    let h : n < length (names_in i.known.entries) = subst (λ (s : Stacked). n < length s.names) (sym c.self.view_is) c.requires in
    rw c.in_ok-push.ensures.items
    (numbered_bound i.known.entries n c.args.typedef c.index-before.result.now i.bound.items i.kept.items c.self.invariant c.index-before.ensures (omega (arith, length-map i.known.entries (λ (e : Vec ℕ Global × Bool). e.0.items))))

pub returns-clause-ok : goal.returns-clause-ok
returns-clause-ok c =
    let i = c.self.inside in
    rw c.in_ok-push.ensures.items
    (named_bound i.known.entries c.args.number c.args.typedef c.index-before.result.now i.bound.items
    ∙ ap (λ (s : Stacked). s.bound ++ binding (get_or s.names c.args.number []) c.args.typedef ∷ []) c.self.view_is)

pub returns-clause-kept : goal.returns-clause-kept
returns-clause-kept c = named_set c.self.inside.known.entries c.args.number c.args.typedef c.self.inside.kept.items ∙ ap (λ (s : Stacked). s.kept) c.self.view_is
