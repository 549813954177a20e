-- Lemmas: fuel above the steps that are left makes no difference. So a call, and a body's run, can be read without it: a root
-- takes one step, and calls inside it take theirs of what is left.
use Rattle.std.specs.Prelude.{◌≡◌, ℕ, zero, suc, ◌+◌, ◌<◌, ◌≤◌, ◌==◌, None, List, [], ◌∷◌, length, if◌then◌else◌}
use Rattle.std.proofs.Common.{refl, sym, ap, ◌∙◌, arith}
use Rattle.op_forest.specs.Nodes.{Node}
use Rattle.forests.specs.Worlds.{World, Point, Effect, Went, Exits, Unfinished, Stuck, Outcome, Finished, Exited, Going, Failed}
use Rattle.op_forest.specs.Callees.{Callee, Defined, Provided, Missing}
use Rattle.forests.specs.Bodies.{Setting, act}
use Rattle.forests.specs.Functions.{Program, entered, answered, setting_of, call_by}
use Rattle.forests.specs.Meaning.{counted_run, counted_call, call_of}
use Rattle.forests.specs.Budgets.{with_left, with_more, with_calls}
use Rattle.forests.proofs.lemmas.Begun.{counted_begins, call_begins}
use Rattle.forests.specs.Further.{Further, FurtherIn, CallsFurther}
use Rattle.forests.proofs.lemmas.Further.{act_further, counted_further, counted_call_further, call_further}
use Rattle.forests.specs.OneRoot.{runs, runs_in}

-- no steps more are the same effect
same_effect : (left : ℕ) (e1 e2 : Effect) → Further left zero e1 e2 → e1 ≡ e2
same_effect left (Went ws p mv) e2 h = let e : p.left ≡ p.left + zero = omega arith in ap (λ x. Went ws (with_left x p.world) mv) e ∙ sym h.1
same_effect left (Exits status w) e2 h = sym h
same_effect left (Unfinished w) e2 h = sym (h.0 refl)
same_effect left Stuck e2 h = sym h

same_outcome : (left : ℕ) (e1 e2 : Outcome) → FurtherIn left zero e1 e2 → e1 ≡ e2
same_outcome left (Finished v p) e2 h = let e : p.left ≡ p.left + zero = omega arith in ap (λ x. Finished v (with_left x p.world)) e ∙ sym h.1
same_outcome left (Exited status w) e2 h = sym h
same_outcome left (Going w) e2 h = sym (h.0 refl)
same_outcome left Failed e2 h = sym h

module _ (g : Program) where
  -- calls with enough fuel are those with as much as there are steps
  calls_same : (fuel : ℕ) → CallsFurther fuel zero (counted_call g fuel) (call_of g)
  calls_same fuel name p lt = counted_call_further g fuel (suc (p.left + zero)) name zero p lt (omega arith)

  run_same : (s : Setting) (n : ℕ) (whole ts : List Node) (left fuel : ℕ) (w : World) → left ≤ fuel → left < n → counted_run n (with_calls s (counted_call g fuel)) whole ts (with_left left w) ≡ runs_in g s whole ts (with_left left w)
  run_same s n whole ts left fuel w le lt =
      let e : left + zero ≡ left = omega arith in
      same_outcome left _ _ (counted_further s (counted_call g fuel) (call_of g) fuel zero (calls_same fuel) (call_begins g) n (suc (left + zero)) whole ts left w le lt (omega arith))
      ∙ ap (λ x. runs_in g s whole ts (with_left x w)) e

  one_call_by : (name : ℕ) (c : Callee) (p : Point) → call_by g (λ s roots p1. counted_run (suc p.left) s roots roots p1) (counted_call g p.left) name c p ≡ call_by g (λ s roots p1. runs s roots roots p1) (call_of g) name c p
  one_call_by name (Defined f) p =
      ap (λ r. if length p.world.arguments == f.words then answered p.world r else Stuck)
      (run_same (setting_of g (call_of g) name f p.world) (suc p.left) f.roots f.roots p.left p.left (entered g.order name f p.world) (omega arith) (omega arith))
  one_call_by name (Provided b) p = refl
  one_call_by name Missing p = refl

  -- a call's body runs with the steps that are left, and so does each call in it
  pub one_call : (name : ℕ) (p : Point) → call_of g name p ≡ call_by g (λ s roots p1. runs s roots roots p1) (call_of g) name (g.callee name) p
  one_call name p = one_call_by name (g.callee name) p

  -- calls with d steps more
  pub calls_further : (bound d : ℕ) → CallsFurther bound d (call_of g) (call_of g)
  calls_further bound d name p lt = call_further g name p.left d p.world

  -- a body with d steps more
  pub runs_further : (s : Setting) (whole ts : List Node) (left d : ℕ) (w : World) → FurtherIn left d (runs_in g s whole ts (with_left left w)) (runs_in g s whole ts (with_left (left + d) w))
  runs_further s whole ts left d w = counted_further s (call_of g) (call_of g) left d (calls_further left d) (call_begins g) (suc left) (suc (left + d)) whole ts left w (omega arith) (omega arith) (omega arith)

  fuel_same : (s : Setting) (n : ℕ) (whole ts : List Node) (p : Point) → p.left < n → FurtherIn p.left zero (counted_run n (with_calls s (call_of g)) whole ts p) (runs_in g s whole ts (with_more zero p))
  fuel_same s n whole ts p lt = counted_further s (call_of g) (call_of g) p.left zero (calls_further p.left zero) (call_begins g) n (suc (p.left + zero)) whole ts p.left p.world (omega arith) lt (omega arith)

  -- one root takes one of the steps that are left
  pub one_root : (s : Setting) (whole : List Node) (t : Node) (ts : List Node) (left : ℕ) (w : World) → runs_in g s whole (t ∷ ts) (record { left = suc left; world = w }) ≡ act (with_calls s (call_of g)) whole t ts (record { left = left; world = w }) (λ js p. runs_in g s whole js p)
  one_root s whole t ts left w =
      let e : left + zero ≡ left = omega arith in
      same_outcome left _ _ (act_further s (call_of g) (call_of g) (suc left) zero (calls_further (suc left) zero) (call_begins g) whole t ts (with_left left w) _ (λ js p. runs_in g s whole js p) (omega arith)
      (λ js p le. fuel_same s (suc left) whole js p (omega (arith, le)))
      (λ js p. counted_begins (with_calls s (call_of g)) (call_begins g) (suc p.left) whole js p))
      ∙ ap (λ x. act (with_calls s (call_of g)) whole t ts (with_left x w) (λ js p. runs_in g s whole js p)) e

-- without steps left nothing is done
pub no_steps : (s : Setting) (whole ts : List Node) (w : World) → runs s whole ts (record { left = zero; world = w }) ≡ Going w
no_steps s whole [] w = refl
no_steps s whole (t ∷ ts) w = refl

-- the end of the roots takes one step
pub end_of_roots : (s : Setting) (whole : List Node) (left : ℕ) (w : World) → runs s whole [] (record { left = suc left; world = w }) ≡ Finished None (record { left = left; world = w })
end_of_roots s whole left w = refl
