use Rattle.std.proofs.Common.{◌≡◌, ◌+◌, None, length, List, Bool, subst, sym, ap, ◌∙◌, rules}
use mir.Val.{bool_byte}
use Rattle.dag_forest.specs.declared.entry.Entry.{Entry}
use Rattle.dag_forest.specs.declared.key.Key.{Key}
use Rattle.dag_forest.specs.Entries.{AreBelow, parts_of}
use Rattle.dag_forest.specs.Tally.{keys_of, tally, ends}
use Rattle.dag_forest.proofs.Tallies.{byte_is, grown_root}
use Rattle.dag_forest.proofs.block.Block.root.Goals as goal

pub invariant_of-self-3 : goal.invariant_of-self-3
invariant_of-self-3 c =
    let s = c.self.inside in
    let x = parts_of c.args.operator c.args.kids c.args.sym None in
    let same : c.make_room.new.entries.values ≡ s.entries.values = c.in_ok-make_room.ensures.values in
    grown_root s.entries.values s.keys.keys s.calling.items s.stretch x c.push.new.self.values (s.stretch + c.from.result) c.self.invariant
    (subst (λ (l : List Key). AreBelow (length l) c.args.kids) (ap keys_of (sym c.self.view_is) ∙ sym c.self.invariant.keyed) c.requires)
    (search rules)
    (ap (λ n. s.stretch + n) (c.from.ensures ∙ ap bool_byte (c.ends-ends.ensures ∙ ap (λ (es : List Entry). ends (tally es).calling x) same ∙ ap (λ (l : List Bool). ends l x) (sym c.self.invariant.marked)) ∙ byte_is (ends s.calling.items x)))
