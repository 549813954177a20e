-- The equations of loops and gotos: no table is opened again.
use Rattle.std.specs.Prelude.{◌≡◌, ℕ, ◌<◌, ◌≤◌, zero, suc, Bool, true, false, ◌==◌, refl}
use Rattle.std.proofs.Common.{sym, ◌∙◌, arith, subst, ⊎_elim, ◌≢◌}
use Rattle.std.proofs.lemmas.Bool.Decides.{eqb_tells}
use Rattle.objects.specs.declared.value.Value.{Value}
use Rattle.c_runs.specs.Worlds.{World}
use Rattle.c_runs.specs.Outcomes.{Result, Gives, GivesNone, Ends, Out, Next, Break, Continue, Return, Goto, Over, then_do, looped, spent, catch, either, branch, is_true}
use Rattle.c_runs.specs.Below.{below}
use Rattle.c_runs.specs.Statements.{round, rounds, loop, jumps, jump, no_turns, no_jumps}
use Rattle.c_runs.specs.Laws.{Falls, FallsOut, Falling, FallingOut, LoopIs, JumpIs}

if_true : {B : Type 0} (b : Bool) (x y : B) → b ≡ true → elim b as (λ c. B) [ true ↦ x | false ↦ y ] ≡ x
if_true b x y h = rw h refl

if_false : {B : Type 0} (b : Bool) (x y : B) → b ≡ false → elim b as (λ c. B) [ true ↦ x | false ↦ y ] ≡ y
if_false b x y h = rw h refl

pub below_is : {A B : Type 0} (none : A → B) (step : (ℕ → A → B) → ℕ → A → B) (n k : ℕ) (a : A) → k < n → below none step n k a ≡ step (λ j b. below none step k j b) k a
unfolding below
below_is none step zero k a h = absurd (omega arith)
below_is none step (suc n) k a h = ⊎_elim
    (λ x. if_true (k == n) (step (λ j b. below none step n j b) k a) (below none step n k a) x.0 ∙ subst (λ j. step (λ i b. below none step n i b) k a ≡ step (λ i b. below none step j i b) k a) (sym x.1) refl)
    (λ x. if_false (k == n) (step (λ j b. below none step n j b) k a) (below none step n k a) x.0 ∙ below_is none step n k a (let ne : k ≢ n = x.1 in omega arith))
    (eqb_tells k n)

either_same : (b : Bool) (go to other : ℕ → World → Out) (k : ℕ) (w : World) → go k w ≡ to k w → either b go other k w ≡ either b to other k w
either_same true go to other k w h = h
either_same false go to other k w h = refl

looped_same : (n : ℕ) (o : Out) (go to : ℕ → World → Out) → FallsOut n o → ((j : ℕ) (w : World) → j ≤ n → go j w ≡ to j w) → looped o go ≡ looped o to
looped_same n (Next k w) go to h g = g k w h
looped_same n (Break k w) go to h g = refl
looped_same n (Continue k w) go to h g = g k w h
looped_same n (Return v line k w) go to h g = refl
looped_same n (Goto l k w) go to h g = refl
looped_same n (Over how w) go to h g = refl

do_same : (n : ℕ) (r : Result) (go to : Value → ℕ → World → Out) → Falls n r → ((v : Value) (j : ℕ) (w : World) → j ≤ n → go v j w ≡ to v j w) → then_do r go ≡ then_do r to
do_same n (Gives v k w) go to h g = g v k w h
do_same n (GivesNone line k w) go to h g = refl
do_same n (Ends how w) go to h g = refl

catch_same : (n : ℕ) (within : ℕ → Bool) (o : Out) (go to : ℕ → ℕ → World → Out) → FallsOut n o → ((l j : ℕ) (w : World) → j < n → go l j w ≡ to l j w) → catch within o go ≡ catch within o to
catch_same n within (Next k w) go to h g = refl
catch_same n within (Break k w) go to h g = refl
catch_same n within (Continue k w) go to h g = refl
catch_same n within (Return v line k w) go to h g = refl
catch_same n within (Goto l zero w) go to h g = either_same (within l) (λ k1 w1. spent k1 w1 (λ k2. go l k2 w1)) (λ k1 w1. spent k1 w1 (λ k2. to l k2 w1)) (λ k1 w1. Goto l k1 w1) zero w refl
catch_same n within (Goto l (suc k) w) go to h g = either_same (within l) (λ k1 w1. spent k1 w1 (λ k2. go l k2 w1)) (λ k1 w1. spent k1 w1 (λ k2. to l k2 w1)) (λ k1 w1. Goto l k1 w1) (suc k) w (g l k w (omega arith))
catch_same n within (Over how w) go to h g = refl

-- rounds that go on alike at fewer turns are alike
round_same : (body : ℕ → World → Out) (between : ℕ → World → Result) (again to : ℕ → World → Out) → FallingOut body → Falling between → (k : ℕ) (w : World) → ((j : ℕ) (w1 : World) → j < k → again j w1 ≡ to j w1) → round body between again k w ≡ round body between to k w
round_same body between again to B T zero w g = refl
round_same body between again to B T (suc k) w g =
    looped_same k (body k w)
    (λ k2 w2. then_do (between k2 w2) (λ v k3 w3. branch v (λ k4 w4. again k4 w4) (λ k4 w4. Next k4 w4) k3 w3))
    (λ k2 w2. then_do (between k2 w2) (λ v k3 w3. branch v (λ k4 w4. to k4 w4) (λ k4 w4. Next k4 w4) k3 w3))
    (B k w)
    (λ j w1 b. do_same j (between j w1)
    (λ v k3 w3. branch v (λ k4 w4. again k4 w4) (λ k4 w4. Next k4 w4) k3 w3)
    (λ v k3 w3. branch v (λ k4 w4. to k4 w4) (λ k4 w4. Next k4 w4) k3 w3)
    (T j w1)
    (λ v i w2 c. either_same (is_true v) (λ k4 w4. again k4 w4) (λ k4 w4. to k4 w4) (λ k4 w4. Next k4 w4) i w2 (g i w2 (omega arith))))

-- a loop at fewer turns is what the table has there
pub rounds_are : (body : ℕ → World → Out) (between : ℕ → World → Result) (n k : ℕ) (w : World) → k < n → rounds body between n k w ≡ loop body between k w
unfolding rounds loop
rounds_are body between n k w h = below_is no_turns (λ again k1 w1. round body between again k1 w1) n k w h

pub loop_is : LoopIs
unfolding loop
loop_is body between B T k w = round_same body between (λ k1 w1. rounds body between k k1 w1) (λ k1 w1. loop body between k1 w1) B T k w (λ j w1 b. rounds_are body between k j w1 b)

pub jumps_are : (within : ℕ → Bool) (body : ℕ → ℕ → World → Out) (n l k : ℕ) (w : World) → k < n → jumps within body n l k w ≡ jump within body l k w
unfolding jumps jump
jumps_are within body n l k w h = below_is no_jumps (λ again k1 (a : ℕ × World). catch within (body a.0 k1 a.1) (λ m k2 w2. again k2 (m, w2))) n k (l, w) h

pub jump_is : JumpIs
unfolding jump
jump_is within body B l k w = catch_same k within (body l k w) (λ m k2 w2. jumps within body k m k2 w2) (λ m k2 w2. jump within body m k2 w2) (B l k w) (λ m j w1 b. jumps_are within body k m j w1 b)
