-- The end of a function's body.
use Rattle.std.specs.Prelude.{◌≡◌, ◌≤◌, ℕ, ◌+◌, nat_lt, Bool, true, false, None, List, [], ◌∷◌, length}
use Rattle.std.proofs.Common.{refl, sym, ap, subst, ◌∙◌, arith}
use Rattle.std.proofs.lemmas.Bool.{ltb-true, ltb-false}
use Rattle.op_forest.specs.declared.op.Op.TheVariants as op
use Rattle.op_forest.specs.declared.suffix.Suffix.TheVariants.{I}
use Rattle.forests.specs.Budgets.{with_left, with_calls}
use Rattle.forests.specs.Meaning.{call_of}
use Rattle.forests.proofs.lemmas.OneRoot.{end_of_roots}
use Rattle.forests.specs.Words.{unknown}
use Rattle.dag_forest.specs.Meaning.{Through, Runs}
use Rattle.dag_forest.specs.Schedules.{in_turn}
use Rattle.dag_seam.specs.SplitLaws.{TurnsMean}
use Rattle.c_runs.specs.Outcomes.{Undefined, OutOfTurns, Exit, Out, Next, Break, Continue, Return, Goto, Over}
use Rattle.c_runs.specs.Run.{context}
use Rattle.c_runs.specs.Soundness.{EvalStaysSound}
use Rattle.c_runs.specs.Statements.{Start, exec}
use Rattle.c_match.proofs.lemmas.Growing.{grown_refl}
use Rattle.c_rows_agree.specs.Typed.{head, constant_i}
use Rattle.piece_runs.specs.Pieces.{Piece, OfBlock}
use Rattle.piece_runs.specs.Reaches.{acting, roots_in, run_from, tail_at, keeps_in, Finishes}
use Rattle.piece_runs.proofs.lemmas.Tails.{behind_same}
use Rattle.lowered_forms.specs.Lows.{Low, ended}
use Rattle.lowered_statements.specs.Bodies.{Body}
use Rattle.lowered_statements.specs.FunctionBodies.{no_exits}
use Rattle.lowered_statements.specs.Functions.{Function, label_at}
use Rattle.lowered_statements.specs.Returns.{end_by}
use Rattle.lowered_statements.specs.Statements.{StmtTree, low_s}
use Rattle.lowered_labels.specs.Used.{IsOwn, GoesWithin}
use Rattle.c_straight_agree.specs.Narrow.{CharsAreNarrow, ShortsAreNarrow}
use Rattle.c_straight_agree.proofs.lemmas.Finals.{back_steps, finished}
use Rattle.c_tests_agree.specs.Tested.{AreMarkedOnce, Label, low_at}
use Rattle.c_stmt_agreement.specs.Comings.{Activation, HasFrame, Origin, Ways, Ending, Returned, IsNoValue, CameFrom}
use Rattle.c_stmt_agreement.specs.Laws.{IsFinal}
use Rattle.c_stmt_agreement.specs.LoweredStmt.{StandsAt}
use Rattle.c_stmt_agreement.proofs.lemmas.Rebasing.{onward, stands_onward, returned_on}
use Rattle.c_stmts_agree.specs.FunctionBodies.{CameBack}
use Rattle.c_stmts_agree.specs.Parts.{PartsAgree}
use Rattle.c_stmts_agree.specs.Tables.{HasTables}
use Rattle.c_stmts_agree.specs.Ways.{IsBehind, AreWays, IsEnding}
use Rattle.c_stmts_agree.proofs.lemmas.Backing.{room_stated}
use Rattle.c_stmts_agree.proofs.lemmas.Induction.{statement_agrees}
use Rattle.c_stmts_agree.proofs.lemmas.Returning.{nothing_returned}

-- ---- a block with which the body ends

enough : (turns steps k : ℕ) → 1 + turns ≤ steps + k → turns ≤ steps + k
enough turns steps k h = omega (arith, h)

module _ (means : TurnsMean) (p : Activation) (frame : HasFrame p) (o : Origin) (a : Low) (k : ℕ) (at : StandsAt p o a k) (is : p.scene.body.pieces ≡ (ended a).pieces) where
  abbrev block : List Piece
  block = OfBlock a.slots a.entries ∷ []

  tail_is : tail_at p.scene.body a.pieces a.entries at.front ≡ block
  tail_is = behind_same a.pieces (tail_at p.scene.body a.pieces a.entries at.front) block (sym at.front.is ∙ is)

  -- the run goes on to its end, which is a step
  ends_off : Finishes o.start o.turns None o.world k
  ends_off =
      let g = p.scene.body in
      let m = at.stands.stands.reaches.arrives 1 in
      let split = frame.body.split a.pieces [] a.slots a.entries is in
      let runs = subst (λ (ps : List Piece). Runs (acting g) (keeps_in g ps) (in_turn a.entries 0 []) (λ n. false) (λ n. unknown) m.inside at.stands.stands.reaches.first (Through at.values (with_left 1 o.world))) tail_is m.block in
      record {
        steps = m.steps;
        is =
            m.runs ∙ ap (λ (ps : List Piece). run_from g ps m.inside at.stands.stands.reaches.first) tail_is
            ∙ means a.slots a.entries split.split g.program g.setting split.more split.frame (roots_in g g.pieces) [] m.inside at.stands.stands.reaches.first (Through at.values (with_left 1 o.world)) runs
            ∙ end_of_roots (with_calls g.setting (call_of g.program)) (roots_in g g.pieces) 0 o.world;
        paid = enough o.turns m.steps k m.paid;
      }

  ends_without : (gives : Bool) → gives ≡ false → Returned p o (IsNoValue gives) o.old k
  ends_without gives e = record {
    map = o.map;
    grown = grown_refl o.map;
    word = None;
    world = o.world;
    finishes = ends_off;
    matches = at.stands.stands.matches;
    left = λ place lt private none. refl;
    given = λ q. absurd (let f = sym q ∙ e in let never : ⊥ = cc in never);
  }

-- ---- the whole body

-- behind the last statement
module _ (chars : CharsAreNarrow) (shorts : ShortsAreNarrow) (means : TurnsMean) (p : Activation) (frame : HasFrame p) (l : Low) (le : p.locals ≤ length l.slots) where
  last_final : (zero : Bool) → p.scene.body.pieces ≡ (ended (end_by zero l)).pieces → IsFinal p l
  last_final true is = (back_steps p.scene.body.pieces).acts_one (head op.Ret I) (constant_i 0) l (finished p.scene.body.pieces (end_by true l) [] is)
  last_final false is = finished p.scene.body.pieces l [] is

  returned_at_end : (zero : Bool) → p.scene.body.pieces ≡ (ended (end_by zero l)).pieces → (gives : Bool) → gives ≡ zero → (o : Origin) (k : ℕ) → StandsAt p o l k → Returned p o (IsNoValue gives) o.old k
  returned_at_end true is gives e o k at = nothing_returned chars shorts means p frame true o k l gives e at le (finished p.scene.body.pieces (end_by true l) [] is)
  returned_at_end false is gives e o k at = ends_without means p frame o l k at is gives e

  came_back : (y : Ways) (e : Ending) (o : Origin) (zero : Bool) → p.scene.body.pieces ≡ (ended (end_by zero l)).pieces → e.gives_zero ≡ zero → (r : Out) → CameFrom p y e o l r → CameBack p e o r
  came_back y e o zero is same (Next k old) x =
      returned_on p o l old k x (IsNoValue e.gives_zero) old k (returned_at_end zero is e.gives_zero same (onward p o l old k x) k (stands_onward p o l old k x))
  came_back y e o zero is same (Break k old) x = tt
  came_back y e o zero is same (Continue k old) x = tt
  came_back y e o zero is same (Return v line k old) x = x
  came_back y e o zero is same (Goto m k old) x = tt
  came_back y e o zero is same (Over (Undefined cause line) old) x = tt
  came_back y e o zero is same (Over OutOfTurns old) x = x
  came_back y e o zero is same (Over (Exit status) old) x = x

-- the places behind the function's labels
module _ (p : Activation) (f : Function) (there : (n : ℕ) → IsOwn f n → Label p.scene (label_at f n)) where
  abbrev nowhere : Low
  nowhere = record { pieces = []; entries = []; slots = []; labels = 0 }

  abbrev place_by : (n : ℕ) (b : Bool) → nat_lt (label_at f n) (length f.labels) ≡ b → Low
  place_by n true e = low_at p.scene (label_at f n) (there n (ltb-true (label_at f n) (length f.labels) e))
  place_by n false e = nowhere

  begins_by : (n : ℕ) (b : Bool) (e : nat_lt (label_at f n) (length f.labels) ≡ b) → (place_by n b e).entries ≡ []
  begins_by n true e = refl
  begins_by n false e = refl

  behind_by : (n : ℕ) (b : Bool) (e : nat_lt (label_at f n) (length f.labels) ≡ b) → IsOwn f n → IsBehind p.scene (label_at f n) (place_by n b e)
  behind_by n true e own = (there n (ltb-true (label_at f n) (length f.labels) e), refl)
  behind_by n false e own = absurd (let le = ltb-false (label_at f n) (length f.labels) e in let lt = own in let never : ⊥ = omega (arith, le, lt) in never)

  abbrev ways : Ways
  ways = record { breaks = nowhere; continues = nowhere; labels = λ n. place_by n (nat_lt (label_at f n) (length f.labels)) refl }

  are_ways : AreWays p f no_exits ways false false
  are_ways = record {
    breaking = λ e. absurd (let never : ⊥ = cc in never);
    continuing = λ e. absurd (let never : ⊥ = cc in never);
    labelled = λ n own. behind_by n (nat_lt (label_at f n) (length f.labels)) refl own;
    begins = λ n. begins_by n (nat_lt (label_at f n) (length f.labels)) refl;
  }

  pub body_agrees : CharsAreNarrow → ShortsAreNarrow → TurnsMean → EvalStaysSound → HasFrame p → AreMarkedOnce p.scene.body → (e : Ending) → IsEnding f e → (t : StmtTree) → PartsAgree p f e t → GoesWithin f false false t → (b : Body) → p.locals ≤ length b.low.slots → HasTables p f (low_s f no_exits t b)
      → p.scene.body.pieces ≡ (ended (end_by f.gives_zero (low_s f no_exits t b).low)).pieces → (o : Origin) (k : ℕ) → StandsAt p o b.low k → CameBack p e o (exec (context p.scene.unit p.scene.lowered.order) t Start k o.old)
  body_agrees chars shorts means evals frame once e ending t h within b le tables is o k at =
      let l = (low_s f no_exits t b).low in
      came_back chars shorts means p frame l (room_stated p.locals f no_exits t b le) ways e o f.gives_zero is ending.zero (exec (context p.scene.unit p.scene.lowered.order) t Start k o.old)
      (statement_agrees chars shorts means evals p frame once f e ending t h no_exits ways false false are_ways within b le tables (last_final chars shorts means p frame l (room_stated p.locals f no_exits t b le) f.gives_zero is) Start tt o k at)
