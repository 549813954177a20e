-- Expressions whose values aren't used, and tests, where they are lowered so.
use Rattle.std.specs.Prelude.{◌≡◌, ◌≤◌, ℕ, Bool, true, false, Option, Some, None, Result as Checked, Ok, Err, length}
use Rattle.std.proofs.Common.{refl, sym, ap, subst, ◌∙◌, arith}
use Rattle.lcc_base.specs.declared.cause.Cause.{Cause}
use Rattle.objects.specs.declared.value.Value.{Value}
use Rattle.c_types.specs.CType.{CType}
use Rattle.c_meaning.specs.CoreTrees.{type_of, line_of}
use Rattle.c_meaning.specs.StmtTrees as stmt
use Rattle.c_meaning.specs.Units.{UnitTree}
use Rattle.c_meaning.specs.Values.{CoreTree}
use Rattle.c_runs.specs.Expressions.{eval, holds, test}
use Rattle.c_runs.specs.Outcomes.{Undefined, OutOfTurns, Exit, Result, Gives, GivesNone, Ends, Next, then_give, then_go, tells, truth, is_true}
use Rattle.c_runs.specs.Run.{context}
use Rattle.c_runs.specs.Soundness.{IsSound, Keeps, IsTame, IsSoundResult, EvalStaysSound}
use Rattle.c_runs.specs.Statements.{Start, At}
use Rattle.c_runs.specs.Worlds as c
use Rattle.c_rows_agree.specs.Typed.{Typed}
use Rattle.piece_runs.specs.Pieces.{Front}
use Rattle.lowered_forms.specs.Lows.{Low}
use Rattle.lowered_forms.specs.Values.{Lowered}
use Rattle.c_straight_agree.specs.Agreement.{CameTo, without_value, IsPerformed}
use Rattle.c_straight_agree.specs.Agreement as expression
use Rattle.c_straight_agree.specs.Standing.{IsSoundIn}
use Rattle.c_straight_agree.proofs.lemmas.Coming.{fewer_taken}
use Rattle.c_straight_agree.proofs.lemmas.Parts.{sound_on, sound_result}
use Rattle.c_straight_agree.proofs.lemmas.Wholes.{wholes_left}
use Rattle.c_tests_agree.specs.Tested.{Label, low_at, Passed, PassedBy, jumps, WentTo, IsTested}
use Rattle.c_stmt_agreement.specs.Comings.{Activation, HasFrame, Origin, Ways, Ending, Came, CameFrom}
use Rattle.c_stmt_agreement.specs.Laws.{IsFinal, TestIsLowered}
use Rattle.c_stmt_agreement.specs.LoweredStmt.{StandsAt, LoweredStmt, Tested, CameTested}
use Rattle.c_stmt_agreement.proofs.lemmas.Sequences.{no_label}
use Rattle.c_stmt_agreement.proofs.lemmas.Results.{result_left, opens_left}

-- ---- soundness

pub sound_in : (p : Activation) (before old : c.World) → IsSoundIn p.scene before → IsSound p.scene.unit old → Keeps before old → IsSoundIn p.scene old
sound_in p before old h sound keeps = sound_on p.scene before old h sound keeps

truth_sound : (u : UnitTree) (before : c.World) (b : Bool) (k : ℕ) (w : c.World) → IsSound u w → Keeps before w → IsSoundResult u before (Gives (truth b) k w)
truth_sound u before true k w sound keeps = (omega arith, (sound, keeps))
truth_sound u before false k w sound keeps = (omega arith, (sound, keeps))

told_sound : (u : UnitTree) (before : c.World) (told : Checked Bool Cause) (line k : ℕ) (w : c.World) → IsSound u w → Keeps before w → IsSoundResult u before (tells told line k w)
told_sound u before (Ok b) line k w sound keeps = truth_sound u before b k w sound keeps
told_sound u before (Err cause) line k w sound keeps = (tt, sound)

asked_sound : (u : UnitTree) (before : c.World) (of : CType) (line : ℕ) (r : Result) → IsSoundResult u before r → IsSoundResult u before (then_give r (λ v k1 w1. tells (holds of (c.objects w1) v) line k1 w1))
asked_sound u before of line (Gives v k w) h = told_sound u before (holds of (c.objects w) v) line k w h.1.0 h.1.1
asked_sound u before of line (GivesNone l k w) h = (tt, h.0)
asked_sound u before of line (Ends how w) h = h

is_true_truth : (b : Bool) → is_true (truth b) ≡ b
is_true_truth true = refl
is_true_truth false = refl

-- ---- places that a run passes

module _ (p : Activation) (frame : HasFrame p) (o : Origin) (a : Low) (k : ℕ) (at : StandsAt p o a k) (le : p.locals ≤ length a.slots) where
  -- what is left but for slots behind those that there are, is left but for those of the lowering
  abbrev pub passed_came : (b : Low) (f : Front p.scene.body.pieces b.pieces b.entries) (old : c.World) (j : ℕ) → IsSoundIn p.scene old → Passed p.scene o.start o.turns (length a.slots) b f o.map o.old o.world old j → Came p o b old j
  passed_came b f old j sound x = record {
    front = f;
    passed = record {
      later = x.later;
      grown = x.grown;
      others = x.others;
      world = x.world;
      stands = x.stands;
      alike = x.alike;
      left = λ place lt private none. x.left place lt private (fewer_taken p.scene p.locals (length a.slots) place le none);
      private = x.private;
    };
    sound = sound;
    wholes = wholes_left p.scene p.layout frame.laid o.map o.old o.world x.world at.stands.stands.frame.others x.alike (length a.slots) x.left at.wholes;
    result = result_left p frame o.map x.later x.grown o.old o.world x.world at.stands.stands.frame.others x.alike (length a.slots) x.left at.result;
    opens = opens_left p o.world x.world x.alike at.opens;
  }

  -- ---- expressions

  module _ (b : Low) (h : Front p.scene.body.pieces b.pieces b.entries) (w : Typed) where
    abbrev pub given_came : (v : Option Value) (old : c.World) (j : ℕ) → IsSoundIn p.scene old → expression.Came p.scene o.start o.turns a b h w o.map o.old at.values o.world v old j → Came p o b old j
    given_came v old j sound x = passed_came b h old j sound (record { later = x.later; grown = x.grown; others = x.others; world = x.world; stands = x.stands; alike = x.alike; left = x.left; private = x.private })

    pub dropped_came : (y : Ways) (e : Ending) (r : Result) → IsSoundResult p.scene.unit o.old r → CameTo p.scene o.start o.turns a b h w o.map o.old at.values o.world (without_value r) → CameFrom p y e o b (then_go r (λ j old. Next j old))
    dropped_came y e (Gives v j old) s x = given_came None old j (sound_in p o.old old at.sound s.1.0 s.1.1) x
    dropped_came y e (GivesNone line j old) s x = given_came None old j (sound_in p o.old old at.sound s.0 s.1) x
    dropped_came y e (Ends (Undefined cause line) old) s x = tt
    dropped_came y e (Ends OutOfTurns old) s x = x
    dropped_came y e (Ends (Exit status) old) s x = x

  -- ---- tests

  module _ (n : ℕ) (t : Label p.scene n) (b : Low) (h : Front p.scene.body.pieces b.pieces b.entries) where
    passed_tested : (is : Bool) (old : c.World) (j : ℕ) → IsSoundIn p.scene old → PassedBy is p.scene o.start o.turns (length a.slots) b h n t o.map o.old o.world old j → Tested is p o (low_at p.scene n t) b old j
    passed_tested true old j sound x = passed_came (low_at p.scene n t) t.front old j sound x
    passed_tested false old j sound x = passed_came b h old j sound x

    pub went_tested : (when : Bool) (r : Result) → IsSoundResult p.scene.unit o.old r → WentTo p.scene o.start o.turns (length a.slots) when b h n t o.map o.old o.world r → CameTested p o (low_at p.scene n t) b (jumps when) r
    went_tested when (Gives v j old) s x =
        subst (λ (is : Bool). Tested (jumps when is) p o (low_at p.scene n t) b old j) (sym (ap is_true x.1.0 ∙ is_true_truth x.0))
        (passed_tested (jumps when x.0) old j (sound_in p o.old old at.sound s.1.0 s.1.1) x.1.1)
    went_tested when (GivesNone line j old) s x = tt
    went_tested when (Ends (Undefined cause line) old) s x = tt
    went_tested when (Ends OutOfTurns old) s x = x
    went_tested when (Ends (Exit status) old) s x = x

module _ (evals : EvalStaysSound) (p : Activation) (frame : HasFrame p) (x : CoreTree) (tame : IsTame x) where
  pub expression_is_lowered : (y : Ways) (e : Ending) (a : Low) → p.locals ≤ length a.slots → (r : Lowered) → IsPerformed p.scene p.layout x a r → IsFinal p r.low → LoweredStmt p y e (stmt.Expression x) a r.low
  expression_is_lowered y e a le r performed final Start i o k at =
      dropped_came p frame o a k at le r.low final.front r.value y e (eval (context p.scene.unit p.scene.lowered.order) x k o.old)
      (sound_result p.scene p.locals frame.body evals x tame k o.old at.sound)
      (performed o.start o.turns at.front final.front o.map o.old at.values o.world k final.slots at.stands at.sound at.wholes)
  expression_is_lowered y e a le r performed final (At l) i o k at = no_label i

  pub tests_are_tests : (n : ℕ) (when : Bool) (a b : Low) → p.locals ≤ length a.slots → IsTested p.scene p.layout x n when a b → IsFinal p b → (t : Label p.scene n) → TestIsLowered p (jumps when) x (low_at p.scene n t) a b
  tests_are_tests n when a b le tested final t o k at =
      went_tested p frame o a k at le n t b final.front when (test (context p.scene.unit p.scene.lowered.order) x k o.old)
      (asked_sound p.scene.unit o.old (type_of x) (line_of x) (eval (context p.scene.unit p.scene.lowered.order) x k o.old) (sound_result p.scene p.locals frame.body evals x tame k o.old at.sound))
      (tested o.start o.turns at.front final.front t o.map o.old at.values o.world k (line_of x) final.slots at.stands at.sound at.wholes)
