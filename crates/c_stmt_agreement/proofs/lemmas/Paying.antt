-- Steps that pay for turns.
use Rattle.std.specs.Prelude.{◌≡◌, ◌≤◌, ℕ, suc, ◌+◌, List, []}
use Rattle.std.proofs.Common.{refl, ap, sym, ◌∙◌, subst, arith}
use Rattle.lcc_base.specs.Traces.{Event}
use Rattle.forests.specs.Budgets.{with_left, with_calls}
use Rattle.forests.specs.Meaning.{call_of}
use Rattle.forests.proofs.lemmas.OneRoot.{no_steps}
use Rattle.forests.specs.Words.{Word, unknown}
use Rattle.forests.specs.Worlds.{World, Point, Outcome}
use Rattle.dag_forest.specs.declared.entry.Entry.{Entry}
use Rattle.dag_forest.specs.Meaning.{Through}
use Rattle.c_runs.specs.Worlds as c
use Rattle.c_match.specs.Ranges.{Map}
use Rattle.piece_runs.specs.Pieces.{Piece, Front}
use Rattle.piece_runs.specs.Reaches.{BodyRun, roots_in, run_from, tail_at, Reaches, Stops}
use Rattle.c_expr_agreement.specs.Scenes.{Scene}
use Rattle.lowered_forms.specs.Lows.{Low}
use Rattle.c_straight_agree.specs.Standing.{Standing}
use Rattle.c_straight_agree.proofs.lemmas.At.{ready_fewer}
use Rattle.c_stmt_agreement.specs.Comings.{Activation, Origin, with_turn, Came}

-- what was paid of so many turns, of which k are left, is enough for so many others
abbrev pub IsEnough : ℕ → ℕ → ℕ → ℕ → Type 0
IsEnough turns k others j = (left steps : ℕ) → left + turns ≤ steps + k → left + others ≤ steps + j

pub one_less : (turns k : ℕ) → IsEnough (suc turns) k turns k
one_less turns k left steps paid = omega (arith, paid)

pub both_less : (turns k : ℕ) → IsEnough (suc turns) (suc k) turns k
both_less turns k left steps paid = omega (arith, paid)

pub both_more : (turns k : ℕ) → IsEnough turns k (suc turns) (suc k)
both_more turns k left steps paid = omega (arith, paid)

-- ---- the run is where it is

pub reaches_paid : (g : BodyRun) (start : ℕ → Outcome) (turns others : ℕ) (done : List Piece) (es : List Entry) (f : Front g.pieces done es) (values : ℕ → Word) (w : World) (k j : ℕ) → IsEnough turns k others j
    → Reaches g start turns done es f values w k → Reaches g start others done es f values w j
reaches_paid g start turns others done es f values w k j enough r = record {
  first = r.first;
  arrives = λ left.
      let m = r.arrives left in
      record { steps = m.steps; inside = m.inside; paid = enough left m.steps m.paid; runs = m.runs; block = m.block };
}

pub stands_paid : (s : Scene) (start : ℕ → Outcome) (turns others : ℕ) (l : Low) (f : Front s.body.pieces l.pieces l.entries) (map : Map) (old : c.World) (values : ℕ → Word) (w : World) (k j : ℕ) → j ≤ k → IsEnough turns k others j
    → Standing s start turns l f map old values w k → Standing s start others l f map old values w j
stands_paid s start turns others l f map old values w k j le enough st = record {
  stands = record {
    reaches = reaches_paid s.body start turns others l.pieces l.entries f values w k j enough st.stands.reaches;
    matches = st.stands.matches;
    frame = st.stands.frame;
    nodes = st.stands.nodes;
  };
  block = st.block;
  none_waits = st.none_waits;
  slots = st.slots;
  free = st.free;
  ready = ready_fewer s w k j le st.ready;
}

came_paid : (p : Activation) (o : Origin) (others : ℕ) (a : Low) (old : c.World) (k j : ℕ) → j ≤ k → IsEnough o.turns k others j → Came p o a old k → Came p (record { start = o.start; turns = others; map = o.map; old = o.old; world = o.world }) a old j
came_paid p o others a old k j le enough x = record {
  front = x.front;
  passed = record {
    later = x.passed.later;
    grown = x.passed.grown;
    others = x.passed.others;
    world = x.passed.world;
    stands = stands_paid p.scene o.start o.turns others a x.front x.passed.later old x.passed.others x.passed.world k j le enough x.passed.stands;
    alike = x.passed.alike;
    left = x.passed.left;
    private = x.passed.private;
  };
  sound = x.sound;
  wholes = x.wholes;
  result = x.result;
  opens = x.opens;
}

-- a step that nothing is bought for
pub came_unpaid : (p : Activation) (o : Origin) (a : Low) (old : c.World) (k : ℕ) → Came p (with_turn o) a old k → Came p o a old k
came_unpaid p o a old k x = came_paid p (with_turn o) o.turns a old k k (omega arith) (one_less o.turns k) x

-- a turn is spent
pub came_spent : (p : Activation) (o : Origin) (a : Low) (old : c.World) (k : ℕ) → Came p (with_turn o) a old (suc k) → Came p o a old k
came_spent p o a old k x = came_paid p (with_turn o) o.turns a old (suc k) k (omega arith) (both_less o.turns k) x

-- ---- there is none

pub stops_unpaid : (start : ℕ → Outcome) (turns : ℕ) (trace : List Event) → Stops start (suc turns) trace → Stops start turns trace
stops_unpaid start turns trace x = record { steps = x.steps; world = x.world; is = x.is; paid = (let h = x.paid in omega (arith, h)); seen = x.seen }

same_left : (values others : ℕ → Word) (p q : Point) → Through values p ≡ Through others q → p ≡ q
same_left values others p q e = cc

-- where a block begins, the run goes on with as many steps as there were turns
stopped : (g : BodyRun) (start : ℕ → Outcome) (turns : ℕ) (done : List Piece) (f : Front g.pieces done []) (values : ℕ → Word) (w : World) → Reaches g start turns done [] f values w 0 → Stops start turns w.trace
stopped g start turns done f values w r =
    let m = r.arrives 0 in
    let at : with_left 0 w ≡ with_left m.inside r.first = same_left values (λ n. unknown) (with_left 0 w) (with_left m.inside r.first) m.block in
    let paid = m.paid in
    record {
      steps = m.steps;
      world = w;
      is = m.runs ∙ ap (λ (p : Point). run_from g (tail_at g done [] f) p.left p.world) (sym at) ∙ no_steps (with_calls g.setting (call_of g.program)) (roots_in g g.pieces) (roots_in g (tail_at g done [] f)) w;
      paid = omega (arith, paid);
      seen = refl;
    }

stopped_at : (g : BodyRun) (start : ℕ → Outcome) (turns : ℕ) (done : List Piece) (es : List Entry) → es ≡ [] → (f : Front g.pieces done es) (values : ℕ → Word) (w : World) → Reaches g start turns done es f values w 0 → Stops start turns w.trace
stopped_at g start turns done es e =
    subst (λ (fs : List Entry). (f : Front g.pieces done fs) (values : ℕ → Word) (w : World) → Reaches g start turns done fs f values w 0 → Stops start turns w.trace) (sym e) (λ f values w r. stopped g start turns done f values w r)

same_trace : (start : ℕ → Outcome) (turns : ℕ) (a b : List Event) → a ≡ b → Stops start turns a → Stops start turns b
same_trace start turns a b e x = subst (λ (t : List Event). Stops start turns t) e x

pub came_stops : (p : Activation) (o : Origin) (a : Low) (old : c.World) → a.entries ≡ [] → Came p (with_turn o) a old 0 → Stops o.start o.turns old.trace
came_stops p o a old begins x =
    same_trace o.start o.turns x.passed.world.trace old.trace x.passed.stands.stands.matches.trace
    (stops_unpaid o.start o.turns x.passed.world.trace
    (stopped_at p.scene.body o.start (suc o.turns) a.pieces a.entries begins x.front x.passed.others x.passed.world x.passed.stands.stands.reaches))
