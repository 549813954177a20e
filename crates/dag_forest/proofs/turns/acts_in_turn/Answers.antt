use Rattle.std.proofs.Common.{◌≡◌, ℕ, ◌+◌, ◌-◌, ◌≤◌, Bool, Some, Vec, Global, List, length, drop, map, arith, sym, ap, ◌∙◌}
use Rattle.std.proofs.lemmas.List.{length-map}
use Rattle.dag_forest.specs.Schedules.{Act}
use Rattle.dag_forest.specs.Releases.{root_count}
use Rattle.dag_forest.proofs.Counts.{node_or_root}
use Rattle.dag_forest.proofs.TurnLaws.{turned_none, turned_all, node_left, node_below, node_turned, root_left, root_turned}
use Rattle.dag_forest.proofs.turns.acts_in_turn.Goals as goal
use Rattle.dag_forest.proofs.turns.acts_in_turn.Goals.{in-Value+in_ok-add-in-Value, in-Root+in_ok-release-in-Root}

abbrev items_of : Vec Act Global → List Act
items_of v = v.items

abbrev roots_in : Vec ℕ Global → List ℕ
roots_in v = v.items

pub loop-id-init : goal.loop-id-init
loop-id-init c =
    let es = c.args.entries.now.values in
    let w = c.in_ok-waiting.waiting in
    let is : c.len.result - c.node_count-nodes.result ≡ root_count es = let a = c.len.ensures in let b = c.node_count-nodes.ensures.is in let o = node_or_root es in omega (arith, a, b, o) in
    turned_none es c.new-acts.result.items w.first.items w.waits.items (map items_of w.lists.items) (c.len.result - c.node_count-nodes.result) w.passed
    c.new-acts.ensures.items (ap roots_in c.in_ok-waiting.ensures.first ∙ c.in_ok-first.ensures) c.in_ok-waiting.ensures.waits is c.in_ok-waiting.ensures.lists c.in_ok-waiting.ensures.passed

pub add-requires-clause-room : goal.add-requires-clause-room
add-requires-clause-room c =
    node_left c.args.entries.now.values c.loop-id.id c.loop-id.acts.items c.loop-id.waiting.first.items c.loop-id.waiting.waits.items (map items_of c.loop-id.waiting.lists.items) c.loop-id.waiting.passed c.loop-id.invariant
    c.in-Value.parts (c.get.ensures ∙ ap Some c.in-Value.is)

pub add-requires-clause-kids : goal.add-requires-clause-kids
add-requires-clause-kids c =
    node_below c.args.entries.now.values c.loop-id.id c.loop-id.acts.items c.loop-id.waiting.first.items c.loop-id.waiting.waits.items (map items_of c.loop-id.waiting.lists.items) c.loop-id.waiting.passed c.loop-id.invariant
    c.in-Value.parts (c.get.ensures ∙ ap Some c.in-Value.is) c.requires

pub release-requires-clause-within : goal.release-requires-clause-within
release-requires-clause-within c =
    let within =
    root_left c.args.entries.now.values c.loop-id.id c.loop-id.acts.items c.loop-id.waiting.first.items c.loop-id.waiting.waits.items (map items_of c.loop-id.waiting.lists.items) c.loop-id.waiting.passed c.loop-id.invariant
    c.in-Root.parts (c.get.ensures ∙ ap Some c.in-Root.is) in
    let same = length-map c.loop-id.waiting.lists.items items_of in
    omega (arith, within, same)

pub release-requires-clause-few : goal.release-requires-clause-few
release-requires-clause-few c =
    let within =
    root_left c.args.entries.now.values c.loop-id.id c.loop-id.acts.items c.loop-id.waiting.first.items c.loop-id.waiting.waits.items (map items_of c.loop-id.waiting.lists.items) c.loop-id.waiting.passed c.loop-id.invariant
    c.in-Root.parts (c.get.ensures ∙ ap Some c.in-Root.is) in
    let rooms = c.loop-id.invariant.rooms in
    let o = node_or_root c.args.entries.now.values in
    let len = c.len.ensures in
    let fits = c.len.type_inv in
    omega (arith, within, rooms, o, len, fits)

pub loop-id-preserved : goal.loop-id-preserved
loop-id-preserved c =
    let es = c.args.entries.now.values in
    let id = c.loop-id.id in
    let old = c.loop-id.waiting in
    let h = c.loop-id.invariant in
    elim c.match-get.branch [
      | in-Value+in_ok-add-in-Value w ↦
          let new = w.add.new.self in
          rw (w.acts-is, w.waiting-is)
          (node_turned es id c.loop-id.acts.items old.first.items old.waits.items (map items_of old.lists.items) old.passed h w.in-Value.parts (c.get.ensures ∙ ap Some w.in-Value.is)
          w.add.new.acts.items new.first.items new.waits.items (map items_of new.lists.items) new.passed
          (w.in_ok-add-in-Value.ensures.acts (drop (id + 1) es)) (ap roots_in w.in_ok-add-in-Value.ensures.first) w.in_ok-add-in-Value.ensures.waits
          (length-map new.lists.items items_of ∙ w.in_ok-add-in-Value.ensures.lists ∙ sym (length-map old.lists.items items_of)) w.in_ok-add-in-Value.ensures.passed)
      | in-Root+in_ok-release-in-Root w ↦
          let new = w.release.new.self in
          rw (w.acts-is, w.waiting-is)
          (root_turned es id c.loop-id.acts.items old.first.items old.waits.items (map items_of old.lists.items) old.passed h w.in-Root.parts (c.get.ensures ∙ ap Some w.in-Root.is)
          w.release.new.acts.items new.first.items new.waits.items (map items_of new.lists.items) new.passed
          (w.in_ok-release-in-Root.ensures.acts (drop (id + 1) es)) (ap roots_in w.in_ok-release-in-Root.ensures.first) (ap (λ (z : Vec Bool Global). length z.items) w.in_ok-release-in-Root.ensures.waits)
          (ap (λ (z : Vec (Vec Act Global) Global). length (map items_of z.items)) w.in_ok-release-in-Root.ensures.lists) w.in_ok-release-in-Root.ensures.passed)
    ]

pub returns : goal.returns
returns c =
    let end : length c.args.entries.now.values ≤ c.loop-id.id = let t = c.loop-id-test.false in let len = c.len-id-end.ensures in omega (arith, t, len) in
    turned_all c.args.entries.now.values c.loop-id.id c.loop-id.acts.items c.loop-id.waiting.first.items c.loop-id.waiting.waits.items (map items_of c.loop-id.waiting.lists.items) c.loop-id.waiting.passed c.requires end c.loop-id.invariant
