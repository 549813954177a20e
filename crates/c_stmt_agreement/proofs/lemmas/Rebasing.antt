-- A run that has come to a place, and then to what a statement comes to, has come to that from where it began.
use Rattle.std.specs.Prelude.{◌<◌, ℕ, suc, Bool, true, false, Option, Some, None, List, Result, Ok, Err, length}
use Rattle.std.proofs.Common.{refl, ◌∙◌, arith}
use Rattle.lcc_base.specs.declared.cause.Cause.{Cause}
use Rattle.objects.specs.declared.purpose.Purpose.TheVariants.{Initialisation}
use Rattle.objects.specs.declared.value.Value.{Value}
use Rattle.objects.specs.Objects.{Object as Old}
use Rattle.forests.specs.Words.{Word}
use Rattle.c_runs.specs.Outcomes.{Undefined, OutOfTurns, Exit, Out, Next, Break, Continue, Return, Goto, Over, Result as Came_to, Gives, GivesNone, Ends, is_true}
use Rattle.c_runs.specs.Places.{assigned}
use Rattle.c_runs.specs.Worlds as c
use Rattle.c_match.specs.Ranges.{Map}
use Rattle.c_match.proofs.lemmas.Growing.{grown_refl, grown_trans}
use Rattle.c_expr_agreement.specs.LoweredExpr.{Left}
use Rattle.lowered_forms.specs.Lows.{Low}
use Rattle.c_straight_agree.proofs.lemmas.Putting.{alike_length}
use Rattle.c_tests_agree.proofs.lemmas.Joining.{between_passed, between_joins}
use Rattle.c_stmt_agreement.specs.Comings.{Activation, Origin, Ways, Ending, Came, Returned, IsWordOf, IsNoValue, IsAnything, ReturnedCopy, ReturnedValue, ReturnedWith, CameFrom}
use Rattle.c_stmt_agreement.specs.LoweredStmt.{StandsAt, Tested, CameTested}

-- where it has come to
abbrev pub onward : (p : Activation) (o : Origin) (a : Low) (old : c.World) (k : ℕ) → Came p o a old k → Origin
onward p o a old k h = record { start = o.start; turns = o.turns; map = h.passed.later; old = old; world = h.passed.world }

abbrev pub stands_onward : (p : Activation) (o : Origin) (a : Low) (old : c.World) (k : ℕ) (h : Came p o a old k) → StandsAt p (onward p o a old k h) a k
stands_onward p o a old k h = record { front = h.front; values = h.passed.others; stands = h.passed.stands; sound = h.sound; wholes = h.wholes; result = h.result; opens = h.opens }

-- it stands where it began
pub came_itself : (p : Activation) (o : Origin) (a : Low) (k : ℕ) → StandsAt p o a k → Came p o a o.old k
came_itself p o a k h = record {
  front = h.front;
  passed = record {
    later = o.map;
    grown = grown_refl o.map;
    others = h.values;
    world = o.world;
    stands = h.stands;
    alike = refl;
    left = λ place lt private none. refl;
    private = λ place lt private. private;
  };
  sound = h.sound;
  wholes = h.wholes;
  result = h.result;
  opens = h.opens;
}

module _ (p : Activation) (o : Origin) (a : Low) (mid : c.World) (j : ℕ) (h : Came p o a mid j) where
  -- from there with so many turns at the start
  pub came_on : (turns : ℕ) (b : Low) (old : c.World) (k : ℕ) → Came p (record { start = o.start; turns = turns; map = h.passed.later; old = mid; world = h.passed.world }) b old k
      → Came p (record { start = o.start; turns = turns; map = o.map; old = o.old; world = o.world }) b old k
  came_on turns b old k x =
      let one = between_passed p.scene o.start o.turns p.locals a h.front o.map o.old o.world mid j h.passed in
      let two = between_passed p.scene o.start turns p.locals b x.front h.passed.later mid h.passed.world old k x.passed in
      let both = between_joins p.scene p.locals p.locals (omega arith) o.map o.old o.world h.passed.later mid h.passed.world one x.passed.later old x.passed.world two in
      record {
        front = x.front;
        passed = record {
          later = x.passed.later;
          grown = both.grown;
          others = x.passed.others;
          world = x.passed.world;
          stands = x.passed.stands;
          alike = both.alike;
          left = both.left;
          private = both.private;
        };
        sound = x.sound;
        wholes = x.wholes;
        result = x.result;
        opens = x.opens;
      }

  longer : (place : ℕ) → place < length o.world.objects → place < length h.passed.world.objects
  longer place lt = let e = alike_length o.world.objects h.passed.world.objects h.passed.alike in omega (arith, lt, e)

  pub returned_on : (given : Map → Option Word → Type 0) (old : c.World) (k : ℕ) → Returned p (onward p o a mid j h) given old k → Returned p o given old k
  returned_on given old k x = record {
    map = x.map;
    grown = grown_trans o.map h.passed.later x.map h.passed.grown x.grown;
    word = x.word;
    world = x.world;
    finishes = x.finishes;
    matches = x.matches;
    left = λ place lt private none. x.left place (longer place lt) (h.passed.private place lt private) none ∙ h.passed.left place lt private none;
    given = x.given;
  }

  copy_on : (old : c.World) (k : ℕ) (r : Result (List Old) Cause) → ReturnedCopy p (onward p o a mid j h) old k r → ReturnedCopy p o old k r
  copy_on old k (Ok os) x = returned_on IsAnything (c.with_objects old os) k x
  copy_on old k (Err cause) x = tt

  value_on : (e : Ending) (to : Option Value) (v : Value) (old : c.World) (k : ℕ) → ReturnedValue p e to (onward p o a mid j h) v old k → ReturnedValue p e to o v old k
  value_on e None v old k x = returned_on (IsWordOf v) old k x
  value_on e (Some to) v old k x = copy_on old k (assigned Initialisation p.scene.unit.tags e.of (c.objects old) v to) x

  with_on : (e : Ending) (v : Option Value) (old : c.World) (k : ℕ) → ReturnedWith p e (onward p o a mid j h) v old k → ReturnedWith p e o v old k
  with_on e None old k x = returned_on (IsNoValue e.gives_zero) old k x
  with_on e (Some v) old k x = value_on e e.copy v old k x

  left_from : (status : ℕ) (old : c.World) → Left p.scene o.start h.passed.later status old → Left p.scene o.start o.map status old
  left_from status old x = record { later = x.later; grown = grown_trans o.map h.passed.later x.later h.passed.grown x.grown; world = x.world; leaves = x.leaves; matches = x.matches }

  pub from_on : (y : Ways) (e : Ending) (b : Low) (r : Out) → CameFrom p y e (onward p o a mid j h) b r → CameFrom p y e o b r
  from_on y e b (Next k old) x = came_on o.turns b old k x
  from_on y e b (Break k old) x = came_on o.turns y.breaks old k x
  from_on y e b (Continue k old) x = came_on (suc o.turns) y.continues old k x
  from_on y e b (Return v line k old) x = with_on e v old k x
  from_on y e b (Goto l k old) x = came_on (suc o.turns) (y.labels l) old k x
  from_on y e b (Over (Undefined cause line) old) x = tt
  from_on y e b (Over OutOfTurns old) x = x
  from_on y e b (Over (Exit status) old) x = left_from status old x

  tested_on : (jumps : Bool) (to b : Low) (old : c.World) (k : ℕ) → Tested jumps p (onward p o a mid j h) to b old k → Tested jumps p o to b old k
  tested_on true to b old k x = came_on o.turns to old k x
  tested_on false to b old k x = came_on o.turns b old k x

  pub test_on : (jumps : Bool → Bool) (to b : Low) (r : Came_to) → CameTested p (onward p o a mid j h) to b jumps r → CameTested p o to b jumps r
  test_on jumps to b (Gives v k old) x = tested_on (jumps (is_true v)) to b old k x
  test_on jumps to b (GivesNone line k old) x = tt
  test_on jumps to b (Ends (Undefined cause line) old) x = tt
  test_on jumps to b (Ends OutOfTurns old) x = x
  test_on jumps to b (Ends (Exit status) old) x = left_from status old x
