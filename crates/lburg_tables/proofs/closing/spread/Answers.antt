use Rattle.std.proofs.Common.{◌≡◌, ◌∙◌, ◌+◌, ◌<◌, ℕ, List, Option, Some, length, get_or, sym, ap, subst, arith}
use Rattle.std.specs.Prelude.{slice_get}
use Rattle.std.proofs.lemmas.Option.{slice_get-get_or}
use Rattle.lburg_model.specs.declared.rule.Rule.{Rule}
use Rattle.lburg_model.specs.declared.pattern.Pattern.{Nonterminal}
use Rattle.lburg_model.specs.Pattern.{pattern_of}
use Rattle.lburg_tables.specs.Root.{Chain, root_of}
use Rattle.lburg_tables.specs.IsIndex.{places_in}
use Rattle.lburg_tables.proofs.lemmas.Places.{all, many}
use Rattle.place_queue.specs.declared.key.Key.{Key}
use Rattle.lburg_tables.specs.declared.cell.Cell.{Cell}
use Rattle.lburg_tables.specs.RowOf.{row_of}
use Rattle.lburg_tables.specs.Waits.{Matches}
use Rattle.lburg_tables.specs.Row.{Spread, Among, Relaxed, IsMade}
use Rattle.lburg_tables.proofs.Waiting.{spread_all, spread_chain, spread_skip}
use Rattle.lburg_tables.proofs.lemmas.RowLaws.{row_within}
use Rattle.lburg_tables.proofs.lemmas.Places.{chain_of, place_within, rule_there}
use Rattle.lburg_tables.proofs.closing.spread.Goals.{in-Some, in_default}
use Rattle.lburg_tables.proofs.closing.spread.Goals as goal

pub bounds-node-place : goal.bounds-node-place
bounds-node-place g c =
    place_within c.args.node.now.rules.now (Chain c.args.m) c.places_at-places.result.now c.loop-k.k
    (c.places_at-places.ensures ∙ ap (λ l. places_in l c.args.m) c.deref.ensures.value ∙ c.requires.index.chains c.args.m) c.loop-k-test.true

pub made_from-requires-clause-place : goal.made_from-requires-clause-place
made_from-requires-clause-place g c =
    let inside = place_within c.args.node.now.rules.now (Chain c.args.m) c.places_at-places.result.now c.loop-k.k
    (c.places_at-places.ensures ∙ ap (λ l. places_in l c.args.m) c.deref.ensures.value ∙ c.requires.index.chains c.args.m) c.loop-k-test.true in
    let few = c.requires.are.few in
    omega arith

pub relax-requires-clause-within : goal.relax-requires-clause-within
relax-requires-clause-within g c =
    let rules = c.args.node.now.rules.now in
    let places = c.places_at-places.result.now in
    let place = get_or places c.loop-k.k 0 in
    let rule = c.index-node-place.result in
    let are = c.places_at-places.ensures ∙ ap (λ l. places_in l c.args.m) c.deref.ensures.value ∙ c.requires.index.chains c.args.m in
    let here : slice_get places c.loop-k.k ≡ Some place = slice_get-get_or places c.loop-k.k 0 c.loop-k-test.true in
    let there = rule_there rules (Chain c.args.m) places c.loop-k.k place rule are here c.index-node-place.is in
    let left = ap (λ (r : Rule). r.left) c.index-node-place.is in
    let inside = c.requires.are.lefts place rule there.0 in
    let same = c.loop-k.auto.row in
    omega arith

pub loop-k-preserved : goal.loop-k-preserved
loop-k-preserved g c =
    let rules = c.args.node.now.rules.now in
    let constant = c.args.node.now.constant in
    let m = c.args.m in
    let from = c.args.from in
    let old = row_of c.args.row.now in
    let waited = c.args.queue.now in
    let row = row_of c.loop-k.row in
    let waiting = c.loop-k.queue in
    let places = c.places_at-places.result.now in
    let k = c.loop-k.k in
    let place = get_or places k 0 in
    let rule = c.index-node-place.result in
    let inv = c.loop-k.invariant in
    let are = c.places_at-places.ensures ∙ ap (λ l. places_in l m) c.deref.ensures.value ∙ c.requires.index.chains m in
    let here : slice_get places k ≡ Some place = slice_get-get_or places k 0 c.loop-k-test.true in
    let there = rule_there rules (Chain m) places k place rule are here c.index-node-place.is in
    let chain : rule.pattern ≡ Nonterminal m = chain_of rule.pattern m there.1 in
    let Made : Option Cell → Type 0 = λ o. IsMade constant from place rule o in
    let There : Rule → Type 0 = λ r. IsMade constant from place r c.made_from.result in
    let made : Made c.made_from.result = subst There (sym c.index-node-place.is) c.made_from.ensures in
    let Row : List (Option Key) → List Cell → Type 0 = λ w x. Spread rules constant m from old waited (row_of x) w (Among places (k + 1)) in
    let Fits : List (Option Key) → List Cell → Type 0 = λ w x. Matches (row_of x) w in
    let inside : rule.left < length c.loop-k.row = (let l = c.requires.are.lefts place rule there.0 in let e = c.loop-k.auto.row in omega arith) in
    record {
      spread = elim c.match-made_from.branch [
        | in-Some w ↦
            let new = subst Made w.in-Some.is made in
            let Left : Rule → Type 0 = λ r. Relaxed row waiting r.left w.in-Some.cell (row_of w.relax.new.row) w.relax.new.queue in
            let New : Cell → Type 0 = λ x. Relaxed row waiting rule.left x (row_of w.relax.new.row) w.relax.new.queue in
            let relaxed = subst New new.1 (subst Left (sym c.index-node-place.is) w.relax.ensures.relaxed) in
            let after = spread_chain rules constant places m from old waited row waiting k place rule (row_of w.relax.new.row) w.relax.new.queue inv.matches inv.spread here ((there.0, new.0), chain) (row_within c.loop-k.row rule.left inside) relaxed in
            subst (Row c.match-made_from.queue) (sym w.row-is) (subst (λ (q : List (Option Key)). Row q w.relax.new.row) (sym w.queue-is) after)
        | in_default w ↦
            let after = spread_skip rules constant places m from old waited row waiting k place rule inv.spread here there.0 (subst Made w.in_default.is made) in
            subst (Row c.match-made_from.queue) (sym w.row-is) (subst (λ (q : List (Option Key)). Row q c.loop-k.row) (sym w.queue-is) after)
      ];
      matches = elim c.match-made_from.branch [
        | in-Some w ↦ subst (Fits c.match-made_from.queue) (sym w.row-is) (subst (λ (q : List (Option Key)). Fits q w.relax.new.row) (sym w.queue-is) w.relax.ensures.matches)
        | in_default w ↦ subst (Fits c.match-made_from.queue) (sym w.row-is) (subst (λ (q : List (Option Key)). Fits q c.loop-k.row) (sym w.queue-is) inv.matches)
      ];
      steps = let a = inv.steps in let b = c.tick.ensures in omega arith;
    }

pub returns-clause-spread : goal.returns-clause-spread
returns-clause-spread g c =
    let rules = c.args.node.now.rules.now in
    let places = c.places_at-places.result.now in
    let m = c.args.m in
    let are = c.places_at-places.ensures ∙ ap (λ l. places_in l m) c.deref.ensures.value ∙ c.requires.index.chains m in
    let over : length places ≡ c.loop-k.k = (let h = c.loop-k-test.false in omega arith) in
    spread_all rules c.args.node.now.constant places m c.args.from (row_of c.args.row.now) c.args.queue.now (row_of c.loop-k.row) c.loop-k.queue
    (λ j r ch. let a = all (Chain m) rules j r ch.0.0 (ap (λ q. root_of (pattern_of q)) ch.1) in (a.0, ap (λ (l : List ℕ). slice_get l a.0) are ∙ a.1))
    (rw over c.loop-k.invariant.spread)

pub returns-clause-steps : goal.returns-clause-steps
returns-clause-steps g c =
    let rules = c.args.node.now.rules.now in
    let are = c.places_at-places.ensures ∙ ap (λ l. places_in l c.args.m) c.deref.ensures.value ∙ c.requires.index.chains c.args.m in
    let long = ap (λ (l : List ℕ). length l) are in
    let number = many (Chain c.args.m) rules in
    let over = c.loop-k-test.false in
    let steps = c.loop-k.invariant.steps in
    omega arith
