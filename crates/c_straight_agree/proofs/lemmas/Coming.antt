-- One expression behind another.
use Rattle.std.specs.Prelude.{◌≡◌, ◌≤◌, ◌<◌, ℕ, Option, Some, None, [], length}
use Rattle.std.proofs.Common.{refl, sym, subst, ◌∙◌, arith}
use Rattle.objects.specs.declared.value.Value.{Value}
use Rattle.forests.specs.Alike.{AreAlike}
use Rattle.forests.proofs.lemmas.Alike.{acts_alike}
use Rattle.forests.specs.Words.{Word, IsWord}
use Rattle.forests.specs.Worlds.{World, Outcome}
use Rattle.dag_forest.specs.Meaning.{Keeps}
use Rattle.dag_forest.specs.Tally.{node_count}
use Rattle.c_runs.specs.Outcomes.{How, Undefined, OutOfTurns, Exit, Result, Gives, GivesNone, Ends, then_give}
use Rattle.c_runs.specs.Worlds as c
use Rattle.c_match.specs.Ranges.{Map, Grown}
use Rattle.c_match.proofs.lemmas.Growing.{value_grows, grown_trans}
use Rattle.c_rows_agree.specs.Templates.{Template, Given, Leaf, One, Two}
use Rattle.c_rows_agree.specs.Templates as template
use Rattle.c_rows_agree.specs.Typed.{Typed}
use Rattle.piece_runs.specs.Pieces.{Front}
use Rattle.c_expr_agreement.specs.LoweredExpr.{GrowsTo}
use Rattle.c_expr_agreement.specs.Scenes.{Scene}
use Rattle.lowered_forms.specs.Blocks.{IsWithin}
use Rattle.lowered_forms.specs.Lows.{Low}
use Rattle.c_straight_agree.specs.Agreement.{Waits, HasValue, HasWord, HasResult, IsTaken, Came, CameTo}
use Rattle.c_straight_agree.specs.Settled.{seen, IsSettled}
use Rattle.c_straight_agree.specs.Standing.{place_of}
use Rattle.c_straight_agree.proofs.lemmas.Mild.{mild_still}
use Rattle.c_straight_agree.proofs.lemmas.Putting.{alike_length}

-- ---- operands that wait

waiting_settled : (keeps : Keeps) (k : template.Scene) (t : Template) (w : Word) → Waits t → IsWord w → template.Gives k t w → IsSettled keeps k t
waiting_settled keeps k (Given n) w waits word gives = subst IsWord (sym gives) word
waiting_settled keeps k (Leaf h) w waits word gives = waits
waiting_settled keeps k (One h a) w waits word gives = absurd waits
waiting_settled keeps k (Two h a b) w waits word gives = absurd waits

pub operand_settled : (keeps : Keeps) (s : Scene) (a : Typed) (map : Map) (values : ℕ → Word) (w : World) (v : Value) → HasValue s a map values w v → IsSettled keeps (seen s.body map values w) a.tree
operand_settled keeps s a map values w v h = waiting_settled keeps (seen s.body map values w) a.tree h.holds.word h.waits h.word h.holds.gives

pub word_settled : (keeps : Keeps) (s : Scene) (a : Typed) (map : Map) (values : ℕ → Word) (w : World) → HasWord s a map values w → IsSettled keeps (seen s.body map values w) a.tree
word_settled keeps s a map values w h = waiting_settled keeps (seen s.body map values w) a.tree h.word h.waits h.is h.gives

module _ (s : Scene) (map later : Map) (grown : Grown map later) (values others : ℕ → Word) (w world : World) (alike : AreAlike w.objects world.objects) (n : ℕ) (kept : (m : ℕ) → m < n → others m ≡ values m) where
  waiting_stays : (t : Template) (u : Word) → IsWithin n t → Waits t → template.Gives (seen s.body map values w) t u → template.Gives (seen s.body later others world) t u
  waiting_stays (Given m) u within waits gives = kept m within ∙ gives
  waiting_stays (Leaf h) u within waits gives = sym (acts_alike s.body.setting.environment h [] w.objects world.objects alike (mild_still h.operator.op waits)) ∙ gives
  waiting_stays (One h a) u within waits gives = absurd waits
  waiting_stays (Two h a b) u within waits gives = absurd waits

  -- an operand that waits has its value still
  pub value_stays : (a : Typed) (v : Value) → IsWithin n a.tree → HasValue s a map values w v → HasValue s a later others world v
  value_stays a v within h = record {
    holds = record { word = h.holds.word; gives = waiting_stays a.tree h.holds.word within h.waits h.holds.gives; is = value_grows map later v h.holds.word grown h.holds.is };
    word = h.word;
    waits = h.waits;
  }

-- a value has a word
pub value_word : (s : Scene) (a : Typed) (map : Map) (values : ℕ → Word) (w : World) (v : Value) → HasValue s a map values w v → HasWord s a map values w
value_word s a map values w v h = record { word = h.holds.word; gives = h.holds.gives; is = h.word; waits = h.waits }

pub result_word : (s : Scene) (a : Typed) (map : Map) (values : ℕ → Word) (w : World) (v : Option Value) → HasResult s a map values w v → HasWord s a map values w
result_word s a map values w None h = h
result_word s a map values w (Some v) h = value_word s a map values w v h

-- ---- what is left

pub fewer_taken : (s : Scene) (from more place : ℕ) → from ≤ more → (IsTaken s from place → ⊥) → IsTaken s more place → ⊥
fewer_taken s from more place le none taken = none ((let a = taken.0 in omega (arith, le, a)), taken.1)

-- ---- one behind the other

module _ (s : Scene) (start : ℕ → Outcome) (turns : ℕ) (l m p : Low) (h : Front s.body.pieces m.pieces m.entries) (q : Front s.body.pieces p.pieces p.entries) (a b : Typed) (map : Map) (before : c.World) (values : ℕ → Word) (first : World) (v : Option Value) (old : c.World) (k : ℕ)
    (le : length l.slots ≤ length m.slots) (grows : GrowsTo (place_of l) (place_of p) → GrowsTo (place_of l) (place_of m) × (GrowsTo (place_of m) (place_of p) × (node_count l.entries ≤ node_count m.entries)))
    (one : Came s start turns l m h a map before values first v old k) where
  joined : (u : Option Value) (new : c.World) (j : ℕ) → Came s start turns m p q b one.later old one.others one.world u new j → Came s start turns l p q b map before values first u new j
  joined u new j two = record {
    later = two.later;
    grown = grown_trans map one.later two.later one.grown two.grown;
    others = two.others;
    world = two.world;
    stands = two.stands;
    alike = one.alike ∙ two.alike;
    left = λ place lt private none.
        two.left place (longer place lt) (one.private place lt private) (fewer_taken s (length l.slots) (length m.slots) place le none)
        ∙ one.left place lt private none;
    private = λ place lt private. two.private place (longer place lt) (one.private place lt private);
    kept = λ g n lt. let r = grows g in two.kept r.1.0 n (let x = r.1.1 in omega (arith, lt, x)) ∙ one.kept r.0 n lt;
    has = two.has;
  }
    where
      longer : (place : ℕ) → place < length first.objects → place < length one.world.objects
      longer place lt = let e = alike_length first.objects one.world.objects one.alike in omega (arith, lt, e)

  -- what comes of the second, comes of both
  pub joins : (r : Result) → CameTo s start turns m p q b one.later old one.others one.world r → CameTo s start turns l p q b map before values first r
  joins (Gives u j new) two = joined (Some u) new j two
  joins (GivesNone line j new) two = joined None new j two
  joins (Ends (Undefined cause line) new) two = tt
  joins (Ends OutOfTurns new) two = two
  joins (Ends (Exit status) new) two = record { later = two.later; grown = grown_trans map one.later two.later one.grown two.grown; world = two.world; leaves = two.leaves; matches = two.matches }

module _ (s : Scene) (start : ℕ → Outcome) (turns : ℕ) (l m p : Low) (h : Front s.body.pieces m.pieces m.entries) (q : Front s.body.pieces p.pieces p.entries) (a b : Typed) (map : Map) (before : c.World) (values : ℕ → Word) (first : World) where
  pub ends_so : (how : How) (old : c.World) → CameTo s start turns l m h a map before values first (Ends how old) → CameTo s start turns l p q b map before values first (Ends how old)
  ends_so (Undefined cause line) old one = tt
  ends_so OutOfTurns old one = one
  ends_so (Exit status) old one = one

  -- a value is used by what follows
  pub gives_then : (r : Result) (go : Value → ℕ → c.World → Result) → CameTo s start turns l m h a map before values first r
      → ((v : Value) (k : ℕ) (old : c.World) → r ≡ Gives v k old → Came s start turns l m h a map before values first (Some v) old k → CameTo s start turns l p q b map before values first (go v k old))
      → CameTo s start turns l p q b map before values first (then_give r go)
  gives_then (Gives v k old) go one next = next v k old refl one
  gives_then (GivesNone line k old) go one next = tt
  gives_then (Ends how old) go one next = ends_so how old one
