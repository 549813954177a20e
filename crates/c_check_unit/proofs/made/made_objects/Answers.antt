use Rattle.std.proofs.Common.{rules, ◌≡◌, ℕ, false, List, ◌++◌, get_or, length, map, ap, ◌∙◌}
use Rattle.std.specs.Vec.Iter.{into_iter_items}
use Rattle.c_check_decl.specs.Declares.{defined_in}
use Rattle.c_meaning.specs.declared.core_unit.CoreObject.{CoreObject}
use Rattle.c_meaning.specs.Units.{object_seen}
use Rattle.c_types.specs.Table.{types}
use Rattle.c_units.specs.Ends.{is_link}
use Rattle.c_units.specs.Wholes.{whole_object, whole_objects}
use Rattle.c_check_expr.specs.Known.{state_of}
use Rattle.c_standings.specs.StandingLists.{meant}
use Rattle.c_check_unit.proofs.MadeLists.{objects_end, objects_placed, objects_turn}
use Rattle.c_check_unit.proofs.made.made_objects.Goals as goal

pub loop-o-preserved : goal.loop-o-preserved
loop-o-preserved c = record {
  is = λ t.
      ap (λ (l : List CoreObject). map (object_seen (types t)) l ++ whole_objects (state_of c.args.scopes.now t) (meant c.args.standings.now) c.args.texts.now (length l) (map (defined_in t) (into_iter_items c.next.new.self))) c.in_ok-push.ensures.ok
      ∙ objects_turn t (state_of c.args.scopes.now t) (meant c.args.standings.now) c.args.texts.now c.loop-o.list c.in_ok-object.object c.in-Some.o _ (into_iter_items c.next.new.self) (into_iter_items c.loop-o.o-iterator) _ c.in-Some.ensures.steps.0 (c.is_marked-is_linked.ensures ∙ ap (λ l. get_or l c.in-Some.o.symbol false) c.as_slice.ensures.value ∙ c.in_ok-linked.ensures.marks c.in-Some.o.symbol ∙ ap (λ ns. is_link ns c.in-Some.o.symbol) c.links.ensures) (c.in_ok-object.ensures.whole t ∙ ap (λ (n : ℕ). whole_object (meant c.args.standings.now) c.args.texts.now c.is_marked-is_linked.result n (object_seen (types t) c.in-Some.o.object)) c.len-place.ensures) (c.loop-o.invariant.is t);
  within = λ n h. objects_placed n c.loop-o.list _ c.in_ok-object.object c.in-Some.o (into_iter_items c.next.new.self) (into_iter_items c.loop-o.o-iterator) c.in-Some.ensures.steps.0 c.in_ok-push.ensures.ok c.in_ok-object.ensures.of (c.in_ok-object.ensures.places n) (c.loop-o.invariant.within n h);
}

pub returns-clause-is : goal.returns-clause-is
returns-clause-is c = λ t.
    let none : length (into_iter_items c.loop-o.o-iterator) ≡ 0 = search rules in
    objects_end t (state_of c.args.scopes.now t) (meant c.args.standings.now) c.args.texts.now c.loop-o.list (into_iter_items c.loop-o.o-iterator) _ none (c.loop-o.invariant.is t)

pub returns-clause-within : goal.returns-clause-within
returns-clause-within c = λ n h. (c.loop-o.invariant.within n h).0
