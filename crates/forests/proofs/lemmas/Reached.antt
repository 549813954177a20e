-- Lemmas: the run in which steps are counted over all calls is never ahead of the nested ones: what it has come to with so
-- many steps, calls come to with that budget, and with any larger one.
use Rattle.std.specs.Prelude.{◌≡◌, ℕ, zero, suc, ◌+◌, ◌-◌, ◌≤◌, List}
use Rattle.std.proofs.Common.{ap, ◌∙◌, subst, arith}
use Rattle.lcc_base.specs.Traces.{Event}
use Rattle.forests.specs.Worlds.{Point, Effect, Went, Exits, Unfinished, Stuck}
use Rattle.forests.specs.Bodies.{body_run}
use Rattle.forests.specs.Functions.{Program, setting_of}
use Rattle.forests.specs.Meaning.{call_of}
use Rattle.forests.specs.Budgets.{with_left}
use Rattle.forests.specs.Begun.{Begins, CallsGrow}
use Rattle.forests.proofs.lemmas.Begun.{body_begins, call_by_begins}
use Rattle.forests.specs.Further.{Further}
use Rattle.forests.proofs.lemmas.Further.{call_further}
use Rattle.forests.specs.Nested.{calls_at, Meets}
use Rattle.forests.proofs.lemmas.Nested.{calls_meet}
use Rattle.forests.specs.Reached.{Reaches}

further_reaches : (left d : ℕ) (e1 e2 : Effect) → Further left d e1 e2 → Reaches e1 e2
further_reaches left d (Went vs p mv) e2 h = (p.left + d, h.1)
further_reaches left d (Exits status w) e2 h = h
further_reaches left d (Unfinished w) e2 h = h.1
further_reaches left d Stuck e2 h = h

-- the same effect with so many steps left
abbrev leaving : ℕ → Effect → Effect
leaving left (Went vs p mv) = Went vs (with_left left p.world) mv
leaving left (Exits status w) = Exits status w
leaving left (Unfinished w) = Unfinished w
leaving left Stuck = Stuck

leaving_begins : (o : List Event) (left : ℕ) (e : Effect) → Begins o e → Begins o (leaving left e)
leaving_begins o left (Went vs p mv) h = h
leaving_begins o left (Exits status w) h = h
leaving_begins o left (Unfinished w) h = h
leaving_begins o left Stuck h = h

leaving_reaches : (left : ℕ) (e1 e2 : Effect) → Reaches e1 e2 → Reaches e1 (leaving left e2)
leaving_reaches left (Went vs p mv) e2 h = (left, ap (leaving left) h.1)
leaving_reaches left (Exits status w) e2 h = ap (leaving left) h
leaving_reaches left (Unfinished w) e2 h = leaving_begins w.trace left e2 h
leaving_reaches left Stuck e2 h = ap (leaving left) h

stuck_stays : (left d : ℕ) (e1 e2 : Effect) → e1 ≡ Stuck → Further left d e1 e2 → e2 ≡ Stuck
stuck_stays left d e1 e2 is h = subst (λ e. Further left d e e2) is h

-- of a run by steps
module _ (at : ℕ → Effect) (further : (left d : ℕ) → Further left d (at left) (at (left + d))) where
  reaches_at : (j k : ℕ) (e : Effect) → j ≤ k → at k ≡ e → Reaches (at j) e
  reaches_at j k e le is =
      let m : j + (k - j) ≡ k = omega (arith, le) in
      subst (λ x. Reaches (at j) x) (ap at m ∙ is) (further_reaches j (k - j) (at j) (at (j + (k - j))) (further j (k - j)))

  met_reaches : (j n : ℕ) (e : Effect) → j ≤ n → Meets n e at → Reaches (at j) e
  met_reaches j n (Went vs q mv) le m = leaving_reaches q.left (at j) _ (reaches_at j (m.0 + j) _ (omega arith) (m.1 j))
  met_reaches j n (Exits status w) le m = reaches_at j (m.0 + j) _ (omega arith) (m.1 j)
  met_reaches j n (Unfinished w) le m = reaches_at j m.0 _ (omega (arith, le, m.1)) m.2
  met_reaches j n Stuck le m = reaches_at j (m.0 + j) Stuck (omega arith) (stuck_stays m.0 j (at m.0) (at (m.0 + j)) m.1 (further m.0 j))

-- with j steps, and with a budget of j or more
pub nested_reaches : (g : Program) (name j n : ℕ) (p : Point) → j ≤ n → Reaches (call_of g name (record { left = j; world = p.world })) (calls_at g n name p)
nested_reaches g name j n p le = met_reaches (λ k. call_of g name (with_left k p.world)) (λ left d. call_further g name left d p.world) j n (calls_at g n name p) le (calls_meet g n name p)

-- nested calls grow
pub nested_begins : (g : Program) (n : ℕ) → CallsGrow (calls_at g n)
nested_begins g zero name p = call_by_begins g (λ s roots p1. body_run s roots zero roots p1) (λ other p1. Stuck) name (g.callee name) p
    (λ f p1. body_begins (setting_of g (λ other p2. Stuck) name f p.world) (λ other p2. tt) f.roots zero f.roots p1)
nested_begins g (suc n) name p = call_by_begins g (λ s roots p1. body_run s roots (suc n) roots p1) (calls_at g n) name (g.callee name) p
    (λ f p1. body_begins (setting_of g (calls_at g n) name f p.world) (nested_begins g n) f.roots (suc n) f.roots p1)
