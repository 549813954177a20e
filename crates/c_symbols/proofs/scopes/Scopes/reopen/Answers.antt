use Rattle.std.proofs.Common.{◌≡◌, ◌++◌, ◌∷◌, [], ◌∙◌, List, length, sym, ap, subst}
use Rattle.c_symbols.specs.declared.hidden.Hidden.{Hidden}
use Rattle.c_symbols.specs.declared.open.Open.{Open}
use Rattle.c_symbols.specs.Meanings.{Meant, meaning}
use Rattle.c_symbols.specs.Hiding.{AreKept, HavePlaces, bound}
use Rattle.c_symbols.specs.Scoping.{AreBelow, Scoping}
use Rattle.c_symbols.proofs.Hiding.{hide_length, hide_places}
use Rattle.c_symbols.proofs.Keeping.{kept_opened, kept_same}
use Rattle.c_symbols.proofs.scopes.Scopes.reopen.Goals as goal

pub invariant_of-self-in_err-hidden : goal.invariant_of-self-in_err-hidden
invariant_of-self-in_err-hidden c =
    let i = c.self.inside in
    subst (λ (os : List Open). AreKept c.hide_all.new.self os i.inner i.links i.symbols.items) (sym c.in_ok-reserve.ensures.items)
    (kept_same i.meanings c.hide_all.new.self i.outer.items i.inner i.links i.symbols.items c.in_err-hidden.ensures.same c.self.invariant)

pub bind-requires-clause-places : goal.bind-requires-clause-places
bind-requires-clause-places c =
    let a = c.hide_all.new.self in
    subst (HavePlaces a) (sym c.as_slice.ensures.value) (hide_places a (meaning c.self.inside.meanings) c.args.names c.in_ok-hidden.hidden.items c.in_ok-hidden.ensures.hidden)

pub bind-requires-clause-each : goal.bind-requires-clause-each
bind-requires-clause-each c =
    ap (λ (hs : List Hidden). length hs) c.as_slice.ensures.value
    ∙ hide_length c.hide_all.new.self (meaning c.self.inside.meanings) c.args.names c.in_ok-hidden.hidden.items c.in_ok-hidden.ensures.hidden

pub invariant_of-self-2 : goal.invariant_of-self-2
invariant_of-self-2 c =
    let i = c.self.inside in
    let a = c.hide_all.new.self in
    let o : Open = record { names = c.args.names; hidden = c.in_ok-hidden.hidden } in
    let below : AreBelow (length i.symbols.items) c.args.names = subst (λ (s : Scoping). AreBelow (length s.symbols) c.args.names) (sym c.self.view_is) c.requires in
    let outer : c.push_reserved.new.self.items ≡ i.outer.items ++ i.inner ∷ [] = c.push_reserved.ensures.items
    ∙ ap (λ (os : List Open). os ++ c.replace-around.result ∷ []) c.in_ok-reserve.ensures.items
    ∙ ap (λ (x : Open). i.outer.items ++ x ∷ []) c.replace-around.ensures.value in
    let meant : c.bind.new.self ≡ bound a c.args.names c.in_ok-hidden.hidden.items = c.bind.ensures ∙ ap (λ (hs : List Hidden). bound a c.args.names hs) c.as_slice.ensures.value in
    let k = kept_opened i.meanings a i.outer.items i.inner o i.links i.symbols.items c.in_ok-hidden.ensures.same c.in_ok-hidden.ensures.hidden below c.self.invariant in
    subst (λ (x : Open). AreKept c.bind.new.self c.push_reserved.new.self.items x i.links i.symbols.items) (sym c.replace-around.ensures.after)
    (subst (λ (os : List Open). AreKept c.bind.new.self os o i.links i.symbols.items) (sym outer)
    (subst (λ (m : Meant). AreKept m (i.outer.items ++ i.inner ∷ []) o i.links i.symbols.items) (sym meant) k))
