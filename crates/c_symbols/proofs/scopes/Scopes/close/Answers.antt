use Rattle.std.proofs.Common.{◌≡◌, ◌∙◌, List, sym, ap, subst}
use Rattle.c_symbols.specs.declared.hidden.Hidden.{Hidden}
use Rattle.c_symbols.specs.declared.open.Open.{Open}
use Rattle.c_symbols.specs.Meanings.{Meant}
use Rattle.c_symbols.specs.Hiding.{AreKept, HavePlaces, names_of, restored}
use Rattle.c_symbols.specs.Scoping.{found}
use Rattle.c_symbols.proofs.Hiding.{hide_places}
use Rattle.c_symbols.proofs.Keeping.{kept_closed}
use Rattle.c_symbols.proofs.scopes.Scopes.close.Goals as goal

pub restore-requires : goal.restore-requires
restore-requires c =
    let i = c.self.inside in
    subst (HavePlaces i.meanings) (sym (c.as_slice.ensures.value ∙ ap (λ (o : Open). o.hidden.items) c.replace-names.ensures.value))
    (hide_places i.meanings (found (names_of i.outer.items)) i.inner.names i.inner.hidden.items c.self.invariant.of_inner)

pub invariant_of-self : goal.invariant_of-self
invariant_of-self c =
    let i = c.self.inside in
    let outer = c.pop.new.self.items in
    let hs : c.as_slice.result.now ≡ i.inner.hidden.items = c.as_slice.ensures.value ∙ ap (λ (o : Open). o.hidden.items) c.replace-names.ensures.value in
    let k = kept_closed i.meanings i.outer.items outer c.in-Some.around i.inner i.links i.symbols.items c.in-Some.ensures.items c.self.invariant in
    subst (λ (o : Open). AreKept c.restore.new.self outer o i.links i.symbols.items) (sym c.replace-names.ensures.after)
    (subst (λ (m : Meant). AreKept m outer c.in-Some.around i.links i.symbols.items) (sym (c.restore.ensures ∙ ap (λ (xs : List Hidden). restored i.meanings xs) hs)) k)
