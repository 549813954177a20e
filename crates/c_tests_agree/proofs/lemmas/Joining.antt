-- One step behind another, where the last one is a test.
use Rattle.std.specs.Prelude.{◌≡◌, ◌≤◌, ◌<◌, ℕ, Bool, true, false, not, Option, Some, length}
use Rattle.std.proofs.Common.{refl, ◌∙◌, arith}
use Rattle.objects.specs.declared.value.Value.{Value}
use Rattle.forests.specs.Alike.{AreAlike}
use Rattle.forests.specs.Words.{Word}
use Rattle.forests.specs.Worlds.{World, Outcome}
use Rattle.c_runs.specs.Outcomes.{How, Undefined, OutOfTurns, Exit, Result, Gives, GivesNone, Ends, then_give}
use Rattle.c_runs.specs.Worlds as c
use Rattle.c_match.specs.Left.{IsPrivate}
use Rattle.c_match.specs.Ranges.{Map, Grown}
use Rattle.c_match.proofs.lemmas.Growing.{grown_trans}
use Rattle.c_rows_agree.specs.Typed.{Typed}
use Rattle.piece_runs.specs.Pieces.{Front}
use Rattle.c_expr_agreement.specs.Scenes.{Scene}
use Rattle.lowered_forms.specs.Lows.{Low}
use Rattle.c_straight_agree.specs.Agreement.{IsTaken, IsLeftBut, Came, CameTo}
use Rattle.c_straight_agree.proofs.lemmas.Putting.{alike_length}
use Rattle.c_tests_agree.specs.Tested.{Label, low_at, Passed, PassedBy, WentTo}

-- ---- what stays between two places of a run

pub record Between (s : Scene) (from : ℕ) (map : Map) (before : c.World) (first : World) (later : Map) (old : c.World) (world : World) : Type 0 where
  pub grown : Grown map later
  pub alike : AreAlike first.objects world.objects
  pub left : IsLeftBut s from map (c.objects before) first.objects world.objects
  pub private : (place : ℕ) → place < length first.objects → IsPrivate map (c.objects before) place → IsPrivate later (c.objects old) place

fewer_taken : (s : Scene) (from more place : ℕ) → from ≤ more → (IsTaken s from place → ⊥) → IsTaken s more place → ⊥
fewer_taken s from more place le none taken = none ((let a = taken.0 in omega (arith, le, a)), taken.1)

pub between_came : (s : Scene) (start : ℕ → Outcome) (turns : ℕ) (l m : Low) (h : Front s.body.pieces m.pieces m.entries) (a : Typed) (map : Map) (before : c.World) (values : ℕ → Word) (first : World) (v : Option Value) (old : c.World) (k : ℕ)
    → (one : Came s start turns l m h a map before values first v old k) → Between s (length l.slots) map before first one.later old one.world
between_came s start turns l m h a map before values first v old k one = record { grown = one.grown; alike = one.alike; left = one.left; private = one.private }

pub between_passed : (s : Scene) (start : ℕ → Outcome) (turns from : ℕ) (m : Low) (h : Front s.body.pieces m.pieces m.entries) (map : Map) (before : c.World) (first : World) (old : c.World) (k : ℕ)
    → (one : Passed s start turns from m h map before first old k) → Between s from map before first one.later old one.world
between_passed s start turns from m h map before first old k one = record { grown = one.grown; alike = one.alike; left = one.left; private = one.private }

module _ (s : Scene) (from more : ℕ) (le : from ≤ more) (map : Map) (before : c.World) (first : World) (later : Map) (old : c.World) (world : World) (one : Between s from map before first later old world) where
  longer : (place : ℕ) → place < length first.objects → place < length world.objects
  longer place lt = let e = alike_length first.objects world.objects one.alike in omega (arith, lt, e)

  pub between_joins : (last : Map) (new : c.World) (end : World) → Between s more later old world last new end → Between s from map before first last new end
  between_joins last new end two = record {
    grown = grown_trans map later last one.grown two.grown;
    alike = one.alike ∙ two.alike;
    left = λ place lt private none. two.left place (longer place lt) (one.private place lt private) (fewer_taken s from more place le none) ∙ one.left place lt private none;
    private = λ place lt private. two.private place (longer place lt) (one.private place lt private);
  }

  module _ (start : ℕ → Outcome) (turns : ℕ) where
    pub passed_joins : (m : Low) (h : Front s.body.pieces m.pieces m.entries) (new : c.World) (k : ℕ) → Passed s start turns more m h later old world new k → Passed s start turns from m h map before first new k
    passed_joins m h new k two =
        let b = between_joins two.later new two.world (between_passed s start turns more m h later old world new k two) in
        record { later = two.later; grown = b.grown; others = two.others; world = two.world; stands = two.stands; alike = b.alike; left = b.left; private = b.private }

    module _ (m : Low) (h : Front s.body.pieces m.pieces m.entries) (n : ℕ) (t : Label s n) where
      pub passed_by_joins : (b : Bool) (new : c.World) (k : ℕ) → PassedBy b s start turns more m h n t later old world new k → PassedBy b s start turns from m h n t map before first new k
      passed_by_joins false new k two = passed_joins m h new k two
      passed_by_joins true new k two = passed_joins (low_at s n t) t.front new k two

      -- what comes of the second, comes of both
      pub went_joins : (when : Bool) (r : Result) → WentTo s start turns more when m h n t later old world r → WentTo s start turns from when m h n t map before first r
      went_joins true (Gives v k new) two = (two.0, (two.1.0, passed_by_joins two.0 new k two.1.1))
      went_joins false (Gives v k new) two = (two.0, (two.1.0, passed_by_joins (not two.0) new k two.1.1))
      went_joins when (GivesNone line k new) two = two
      went_joins when (Ends (Undefined cause line) new) two = tt
      went_joins when (Ends OutOfTurns new) two = two
      went_joins when (Ends (Exit status) new) two = record { later = two.later; grown = grown_trans map later two.later one.grown two.grown; world = two.world; leaves = two.leaves; matches = two.matches }

-- ---- a value is tested

module _ (s : Scene) (start : ℕ → Outcome) (turns : ℕ) (l m p : Low) (h : Front s.body.pieces m.pieces m.entries) (q : Front s.body.pieces p.pieces p.entries) (a : Typed) (map : Map) (before : c.World) (values : ℕ → Word) (first : World) (from : ℕ) (when : Bool) (n : ℕ) (t : Label s n) where
  tested_ends : (how : How) (old : c.World) → CameTo s start turns l m h a map before values first (Ends how old) → WentTo s start turns from when p q n t map before first (Ends how old)
  tested_ends (Undefined cause line) old one = tt
  tested_ends OutOfTurns old one = one
  tested_ends (Exit status) old one = one

  pub came_then : (r : Result) (go : Value → ℕ → c.World → Result) → CameTo s start turns l m h a map before values first r
      → ((v : Value) (k : ℕ) (old : c.World) → r ≡ Gives v k old → Came s start turns l m h a map before values first (Some v) old k → WentTo s start turns from when p q n t map before first (go v k old))
      → WentTo s start turns from when p q n t map before first (then_give r go)
  came_then (Gives v k old) go one next = next v k old refl one
  came_then (GivesNone line k old) go one next = tt
  came_then (Ends how old) go one next = tested_ends how old one

-- what follows a value, and what follows that
pub then_both : (r : Result) (go next : Value → ℕ → c.World → Result) → then_give (then_give r go) next ≡ then_give r (λ v k w. then_give (go v k w) next)
then_both (Gives v k w) go next = refl
then_both (GivesNone line k w) go next = refl
then_both (Ends how w) go next = refl
