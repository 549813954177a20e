use Rattle.std.proofs.Common.{◌≡◌, ◌++◌, ◌∷◌, [], length, List, Bool, subst, ap, sym, ◌∙◌, rules}
use Rattle.dag_forest.specs.declared.entry.Entry.{Entry}
use Rattle.dag_forest.specs.declared.key.Key.{Key}
use Rattle.dag_forest.specs.Entries.{AreBelow, parts_of}
use Rattle.dag_forest.specs.Keys.{key_at}
use Rattle.dag_forest.specs.Tally.{IsFresh, keys_of, tally, holds_call}
use Rattle.dag_forest.proofs.Tallies.{keys_here, grown_value}
use Rattle.dag_forest.proofs.block.Block.value.Goals as goal

pub invariant_of-self-then-is_new : goal.invariant_of-self-then-is_new
invariant_of-self-then-is_new c =
    let s = c.self.inside in
    let x = parts_of c.args.operator c.args.kids c.args.sym c.args.constant in
    let k : c.new-key.result ≡ key_at s.stretch (length s.keys.keys) x = c.new-key.ensures ∙ ap (λ n. key_at s.stretch n x) c.len.ensures.len in
    let calls : c.holds_call-calls.result ≡ holds_call s.calling.items x =
    c.holds_call-calls.ensures ∙ ap (λ (es : List Entry). holds_call (tally es).calling x) c.make_room.ensures.values ∙ ap (λ (l : List Bool). holds_call l x) (sym c.self.invariant.marked) in
    grown_value s.entries.values s.keys.keys s.calling.items s.stretch x c.push.new.self.values c.numbered.new.keys.keys c.push_reserved.new.self.items
    c.self.invariant
    (subst (λ (l : List Key). AreBelow (length l) c.args.kids) (ap keys_of (sym c.self.view_is) ∙ sym c.self.invariant.keyed) c.requires)
    (subst (λ u. IsFresh s.keys.keys u) k (c.in_ok-number.ensures.fresh c.if-is_new.true))
    (search rules)
    (c.in_ok-number.ensures.new c.if-is_new.true ∙ ap (λ u. s.keys.keys ++ u ∷ []) k)
    (c.push_reserved.ensures.items ∙ (λ i. c.reserve.ensures.items i ++ calls i ∷ []))

pub returns-then-is_new-clause-distinct : goal.returns-then-is_new-clause-distinct
returns-then-is_new-clause-distinct c = keys_here c.push.new.self.values c.numbered.new.keys.keys c.push_reserved.new.self.items c.self.inside.stretch (invariant_of-self-then-is_new c)
