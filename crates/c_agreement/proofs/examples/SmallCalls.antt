-- Calls that write, exit and go on, where no object lives: worked out by computing both.
use Rattle.std.specs.Prelude.{◌≡◌, ℕ, zero, suc, None, List, [], ◌∷◌, refl}
use Rattle.std.proofs.Common.{sym, subst, arith}
use Rattle.lcc_base.specs.Traces.{Wrote, Opened, Closed, Event}
use Rattle.op_forest.specs.Nodes.{Node}
use Rattle.objects.specs.declared.value.Value.TheVariants.{Number}
use Rattle.forests.specs.Sound.{AreWords}
use Rattle.forests.specs.Words.{Word, Plain, unknown}
use Rattle.forests.specs.Worlds.{World}
use Rattle.c_runs.specs.Below.{below}
use Rattle.c_runs.specs.Outcomes.{OutOfTurns, Exit, Result, GivesNone, Ends}
use Rattle.c_runs.specs.Run.{call, calls_below, context}
use Rattle.c_runs.specs.Soundness.{IsSound}
use Rattle.c_runs.specs.Statements.{rounds, loop}
use Rattle.c_runs.specs.Worlds as c
use Rattle.c_match_worlds.specs.Matches.{Matches}
use Rattle.c_agreement.specs.Pairs.{source_run}
use Rattle.c_agreement.specs.Called.{IsCalled}
use Rattle.c_agreement.specs.CameTo.{CameTo}
use Rattle.c_agreement.proofs.examples.SmallUnits.{source, three, writing, target, lowered_of, old, pair_at}

-- ---- worlds without objects match where the same was seen

abbrev pub old_seen : List Event → c.World
old_seen events = record { storage = record { objects = []; made = 0 }; locals = []; input = []; trace = events }

abbrev pub new_with : List Word → List Event → World
new_with words events = record { objects = []; made = 0; arguments = words; input = []; trace = events }

abbrev pub new_seen : List Event → World
new_seen events = new_with [] events

pub empty_match : (first second third fourth : List Node) (words : List Word) → AreWords words → (events : List Event) → Matches (lowered_of first second third fourth) 0 (λ m. None) (old_seen events) (new_with words events)
empty_match first second third fourth words are events = record {
  held = record { held = λ p x e. absurd (let never : ⊥ = cc in never); apart = λ p q x y r s e f ne i j. absurd (let never : ⊥ = cc in never) };
  made = λ m r e. absurd (let never : ⊥ = cc in never);
  whole = λ p h. absurd (let never : ⊥ = omega arith in never);
  constants = λ t o lt e locked. absurd (let never : ⊥ = cc in never);
  tables = λ t o h e. absurd (let never : ⊥ = cc in never);
  input = refl;
  trace = refl;
  sound = record { objects = tt; arguments = are; input = tt };
}

-- ---- both calls begin alike

sound_world : IsSound source old
sound_world = record { own = omega arith; others = []; live = refl; objects = tt; locals = tt; input = tt; trace = tt }

pub main_called : (first second third fourth : List Node) → IsCalled (pair_at (lowered_of first second third fourth) 0)
main_called first second third fourth = record {
  tree = three;
  defined = refl;
  fitting = refl;
  passed = record { world = sound_world; values = tt; copies = tt; result = λ e. absurd (let never : ⊥ = cc in never) };
  plain = λ e. refl;
  short = λ p x e. absurd (let never : ⊥ = cc in never);
  worlds = empty_match first second third fourth [] tt [];
  words = tt;
  copies = tt;
  result = λ v e. absurd (let never : ⊥ = cc in never);
}

pub write_called : IsCalled (pair_at target 1)
write_called = record {
  tree = writing;
  defined = refl;
  fitting = refl;
  passed = record { world = sound_world; values = tt; copies = tt; result = λ e. absurd (let never : ⊥ = cc in never) };
  plain = λ e. refl;
  short = λ p x e. absurd (let never : ⊥ = cc in never);
  worlds = empty_match _ _ _ _ [] tt [];
  words = tt;
  copies = tt;
  result = λ v e. absurd (let never : ⊥ = cc in never);
}

-- ---- write: the byte is written for a turn

abbrev written : List Event
written = Opened 1 ∷ Wrote 65 ∷ Closed ∷ []

write_needs_a_turn : source_run (pair_at target 1) 0 ≡ Ends OutOfTurns (old_seen (Opened 1 ∷ []))
unfolding context call calls_below below
write_needs_a_turn = refl

write_gives_none : (k : ℕ) → source_run (pair_at target 1) (suc k) ≡ GivesNone 9 k (old_seen written)
unfolding context call calls_below below
write_gives_none k = refl

pub write_comes : (k : ℕ) → CameTo (pair_at target 1) k (source_run (pair_at target 1) k)
write_comes zero = subst (λ (r : Result). CameTo (pair_at target 1) 0 r) (sym write_needs_a_turn) (record { steps = 0; world = new_seen (Opened 1 ∷ []); runs = refl; paid = omega arith; seen = refl })
write_comes (suc k) = subst (λ (r : Result). CameTo (pair_at target 1) (suc k) r) (sym (write_gives_none k)) (record {
  steps = 3;
  word = unknown;
  world = new_seen written;
  runs = refl;
  paid = omega arith;
  returned = record {
    later = record { map = λ m. None; grown = λ m r e. e; matches = empty_match _ _ _ _ [] tt written };
    value = λ e. absurd (let never : ⊥ = cc in never);
    left = λ place h. absurd (let never : ⊥ = omega arith in never);
  };
})

-- ---- leave: the status is 2

leave_needs_a_turn : source_run (pair_at target 2) 0 ≡ Ends OutOfTurns (old_seen (Opened 2 ∷ []))
unfolding context call calls_below below
leave_needs_a_turn = refl

leave_exits : (k : ℕ) → source_run (pair_at target 2) (suc k) ≡ Ends (Exit 2) (old_seen (Opened 2 ∷ []))
unfolding context call calls_below below
leave_exits k = refl

-- the argument word of exit is still there
pub leave_comes : (k : ℕ) → CameTo (pair_at target 2) k (source_run (pair_at target 2) k)
leave_comes zero = subst (λ (r : Result). CameTo (pair_at target 2) 0 r) (sym leave_needs_a_turn) (record { steps = 0; world = new_seen (Opened 2 ∷ []); runs = refl; paid = omega arith; seen = refl })
leave_comes (suc k) = subst (λ (r : Result). CameTo (pair_at target 2) (suc k) r) (sym (leave_exits k)) (record {
  steps = 2;
  world = new_with (Plain (Number 2) ∷ []) (Opened 2 ∷ []);
  runs = refl;
  later = record { map = λ m. None; grown = λ m r e. e; matches = empty_match _ _ _ _ (Plain (Number 2) ∷ []) (omega arith, tt) (Opened 2 ∷ []) };
})

-- ---- turn: it goes on, here with two turns; each is paid

turn_goes_on : source_run (pair_at target 3) 2 ≡ Ends OutOfTurns (old_seen (Opened 3 ∷ []))
unfolding context call calls_below below rounds loop
turn_goes_on = refl

pub turn_comes : CameTo (pair_at target 3) 2 (source_run (pair_at target 3) 2)
turn_comes = subst (λ (r : Result). CameTo (pair_at target 3) 2 r) (sym turn_goes_on) (record { steps = 2; world = new_seen (Opened 3 ∷ []); runs = refl; paid = omega arith; seen = refl })
