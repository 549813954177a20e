-- What a run comes to behind what an expression or a statement came to.
use Rattle.std.specs.Prelude.{◌≡◌, ◌≤◌, ◌<◌, ℕ, zero, suc, Bool, true, false, []}
use Rattle.std.proofs.Common.{refl, arith}
use Rattle.objects.specs.declared.value.Value.{Value}
use Rattle.c_runs.specs.Laws.{Falls, FallsOut}
use Rattle.c_runs.specs.Outcomes.{Undefined, OutOfTurns, Exit, Result, Gives, GivesNone, Ends, Out, Next, Break, Continue, Return, Goto, Over, then_do, then_next, looped, spent, catch, either, is_true}
use Rattle.c_runs.specs.Worlds as c
use Rattle.lowered_forms.specs.Lows.{Low}
use Rattle.c_stmt_agreement.specs.Comings.{Activation, Origin, with_turn, Ways, Ending, Came, CameFrom}
use Rattle.c_stmt_agreement.specs.LoweredStmt.{Tested, CameTested}
use Rattle.c_stmt_agreement.proofs.lemmas.Paying.{came_spent, came_stops, stops_unpaid}

module _ (p : Activation) (y : Ways) (e : Ending) (o : Origin) (b d : Low) where
  -- what is behind the first place comes to what is asked of the second
  pub next_comes : (r : Out) (go : ℕ → c.World → Out) → CameFrom p y e o b r → ((k : ℕ) (old : c.World) → Came p o b old k → CameFrom p y e o d (go k old)) → CameFrom p y e o d (then_next r go)
  next_comes (Next k old) go x h = h k old x
  next_comes (Break k old) go x h = x
  next_comes (Continue k old) go x h = x
  next_comes (Return v line k old) go x h = x
  next_comes (Goto l k old) go x h = x
  next_comes (Over (Undefined cause line) old) go x h = tt
  next_comes (Over OutOfTurns old) go x h = x
  next_comes (Over (Exit status) old) go x h = x

-- so many turns are left at most where a goto, or what follows a loop's body, goes on
module _ (p : Activation) (y : Ways) (e : Ending) (o : Origin) where
  caught : (within : Bool) (b : Low) (l k : ℕ) (old : c.World) (n : ℕ) (go : ℕ → ℕ → c.World → Out) → (y.labels l).entries ≡ [] → Came p (with_turn o) (y.labels l) old k → k ≤ n
      → ((j : ℕ) → within ≡ true → j < n → Came p o (y.labels l) old j → CameFrom p y e o b (go l j old))
      → CameFrom p y e o b (either within (λ k1 w1. spent k1 w1 (λ k2. go l k2 w1)) (λ k1 w1. Goto l k1 w1) k old)
  caught true b l zero old n go begins x le h = came_stops p o (y.labels l) old begins x
  caught true b l (suc k) old n go begins x le h = h k refl (omega (arith, le)) (came_spent p o (y.labels l) old k x)
  caught false b l k old n go begins x le h = x

  pub catch_comes : (within : ℕ → Bool) (b : Low) (r : Out) (n : ℕ) (go : ℕ → ℕ → c.World → Out) → ((l : ℕ) → (y.labels l).entries ≡ []) → CameFrom p y e o b r → FallsOut n r
      → ((l j : ℕ) (old : c.World) → within l ≡ true → j < n → Came p o (y.labels l) old j → CameFrom p y e o b (go l j old))
      → CameFrom p y e o b (catch within r go)
  catch_comes within b (Next k old) n go begins x f h = x
  catch_comes within b (Break k old) n go begins x f h = x
  catch_comes within b (Continue k old) n go begins x f h = x
  catch_comes within b (Return v line k old) n go begins x f h = x
  catch_comes within b (Goto l k old) n go begins x f h = caught (within l) b l k old n go (begins l) x f (λ j is lt came. h l j old is lt came)
  catch_comes within b (Over (Undefined cause line) old) n go begins x f h = tt
  catch_comes within b (Over OutOfTurns old) n go begins x f h = x
  catch_comes within b (Over (Exit status) old) n go begins x f h = x

  -- a loop's body: what leaves it comes to the loop's end
  pub looped_comes : (next behind end : Low) (r : Out) (n : ℕ) (go : ℕ → c.World → Out) → CameFrom p (record { breaks = end; continues = next; labels = y.labels }) e o behind r → FallsOut n r
      → ((k : ℕ) (old : c.World) → k ≤ n → Came p o behind old k → CameFrom p y e o end (go k old))
      → ((k : ℕ) (old : c.World) → k ≤ n → Came p (with_turn o) next old k → CameFrom p y e o end (go k old))
      → CameFrom p y e o end (looped r go)
  looped_comes next behind end (Next k old) n go x f g h = g k old f x
  looped_comes next behind end (Break k old) n go x f g h = x
  looped_comes next behind end (Continue k old) n go x f g h = h k old f x
  looped_comes next behind end (Return v line k old) n go x f g h = x
  looped_comes next behind end (Goto l k old) n go x f g h = x
  looped_comes next behind end (Over (Undefined cause line) old) n go x f g h = tt
  looped_comes next behind end (Over OutOfTurns old) n go x f g h = x
  looped_comes next behind end (Over (Exit status) old) n go x f g h = x

  -- a test
  pub tested_comes : (jumps : Bool → Bool) (to on b : Low) (r : Result) (go : Value → ℕ → c.World → Out) → CameTested p o to on jumps r
      → ((v : Value) (k : ℕ) (old : c.World) → Tested (jumps (is_true v)) p o to on old k → CameFrom p y e o b (go v k old))
      → CameFrom p y e o b (then_do r go)
  tested_comes jumps to on b (Gives v k old) go x h = h v k old x
  tested_comes jumps to on b (GivesNone line k old) go x h = tt
  tested_comes jumps to on b (Ends (Undefined cause line) old) go x h = tt
  tested_comes jumps to on b (Ends OutOfTurns old) go x h = x
  tested_comes jumps to on b (Ends (Exit status) old) go x h = x

  -- one before which a step paid for a turn
  pub paid_test_comes : (jumps : Bool → Bool) (to on b : Low) (r : Result) (n : ℕ) (go : Value → ℕ → c.World → Out) → CameTested p (with_turn o) to on jumps r → Falls n r
      → ((v : Value) (k : ℕ) (old : c.World) → k ≤ n → Tested (jumps (is_true v)) p (with_turn o) to on old k → CameFrom p y e o b (go v k old))
      → CameFrom p y e o b (then_do r go)
  paid_test_comes jumps to on b (Gives v k old) n go x f h = h v k old f x
  paid_test_comes jumps to on b (GivesNone line k old) n go x f h = tt
  paid_test_comes jumps to on b (Ends (Undefined cause line) old) n go x f h = tt
  paid_test_comes jumps to on b (Ends OutOfTurns old) n go x f h = stops_unpaid o.start o.turns old.trace x
  paid_test_comes jumps to on b (Ends (Exit status) old) n go x f h = x
