-- Returns.
use Rattle.std.specs.Prelude.{◌≡◌, ◌≤◌, ℕ, ◌+◌, Bool, true, false, Option, Some, None, List, [], ◌∷◌, ◌++◌, length}
use Rattle.std.proofs.Common.{true≢false, refl, sym, ap, subst, ◌∙◌, arith}
use Rattle.objects.specs.declared.value.Value.{Value}
use Rattle.objects.specs.declared.value.Value.TheVariants.{Number}
use Rattle.op_forest.specs.declared.op.Op.TheVariants as op
use Rattle.op_forest.specs.declared.suffix.Suffix.TheVariants.{I, V}
use Rattle.op_forest.specs.Nodes.{Head}
use Rattle.forests.specs.Actions.{Action, Moved, effect_of}
use Rattle.forests.specs.Budgets.{with_left}
use Rattle.forests.specs.Rows.{acts}
use Rattle.forests.specs.Words.{Word, Plain}
use Rattle.forests.specs.Worlds.{World, Effect, End}
use Rattle.dag_forest.specs.declared.act.Act.TheVariants.{Acts}
use Rattle.dag_forest.specs.declared.entry.Entry.{Entry}
use Rattle.dag_forest.specs.declared.entry.Entry.TheVariants as entry
use Rattle.dag_forest.specs.declared.kids.Kids.TheVariants as kids
use Rattle.dag_forest.specs.declared.parts.Parts.{Parts}
use Rattle.dag_forest.specs.Meaning.{Keeps, is_end, Leaves, Acted, Ends, RunsBehind, Runs}
use Rattle.dag_forest.specs.Schedules.{head_of, operands}
use Rattle.dag_forest.specs.Tally.{node_count}
use Rattle.dag_seam.specs.SplitLaws.{TurnsMean}
use Rattle.dag_seam.specs.Turns.{made_of}
use Rattle.dag_seam.proofs.lemmas.Turns.{root_goes_on}
use Rattle.c_meaning.specs.CoreTrees.{line_of}
use Rattle.c_meaning.specs.StmtTrees as stmt
use Rattle.c_meaning.specs.Types.{is_record}
use Rattle.c_meaning.specs.Values.{CoreTree}
use Rattle.c_runs.specs.Expressions.{eval}
use Rattle.c_runs.specs.Outcomes.{Undefined, OutOfTurns, Exit, Result, Gives, GivesNone, Ends as EndsSo, Return, then_do}
use Rattle.c_runs.specs.Run.{context}
use Rattle.c_runs.specs.Soundness.{IsSoundResult, EvalStaysSound}
use Rattle.c_runs.specs.Statements.{Start, At}
use Rattle.c_match.specs.Ranges.{Map}
use Rattle.c_match.proofs.lemmas.Growing.{grown_refl}
use Rattle.c_rows_agree.specs.Templates.{Template}
use Rattle.c_rows_agree.specs.Typed.{Typed, head, constant_i, as_i}
use Rattle.c_rows_agree.proofs.lemmas.Suffixes.{i_gives}
use Rattle.piece_runs.specs.Pieces.{Front}
use Rattle.piece_runs.specs.Reaches.{acting, keeps_at, Finishes}
use Rattle.piece_runs.proofs.lemmas.Ended.{over_is_reached}
use Rattle.lowered_forms.specs.Asked.{with_kids}
use Rattle.lowered_forms.specs.Expressions.{low_e}
use Rattle.lowered_forms.specs.Lows.{Low, acted_one}
use Rattle.lowered_forms.proofs.lemmas.NodesOf.{values_have_nodes}
use Rattle.lowered_forms.proofs.lemmas.WithinTemplates.{HasIn, as_i_in}
use Rattle.lowered_statements.specs.Functions.{Function}
use Rattle.lowered_statements.specs.Returns.{return_row, given_by, nothing_given}
use Rattle.c_straight_agree.specs.Agreement.{HasValue, CameTo}
use Rattle.c_straight_agree.specs.Narrow.{CharsAreNarrow, ShortsAreNarrow}
use Rattle.c_straight_agree.specs.Settled.{seen}
use Rattle.c_straight_agree.proofs.lemmas.At.{At as OpenAt, at_of}
use Rattle.c_straight_agree.proofs.lemmas.Coming.{operand_settled, fewer_taken}
use Rattle.c_straight_agree.proofs.lemmas.Finals.{back_steps}
use Rattle.c_straight_agree.proofs.lemmas.Parts.{sound_result}
use Rattle.c_straight_agree.proofs.lemmas.SettledTemplates.{as_i_set}
use Rattle.c_stmt_agreement.specs.Comings.{Activation, HasFrame, Origin, Ways, Ending, Returned, IsWordOf, IsNoValue, ReturnedValue, CameFrom}
use Rattle.c_stmt_agreement.specs.Laws.{IsFinal}
use Rattle.c_stmt_agreement.specs.LoweredStmt.{StandsAt, LoweredStmt}
use Rattle.c_stmt_agreement.proofs.lemmas.Expressions.{sound_in, given_came}
use Rattle.c_stmt_agreement.proofs.lemmas.Rebasing.{onward, stands_onward, returned_on}
use Rattle.c_stmt_agreement.proofs.lemmas.Roots.{keeps, behind, root, StandsBefore, root_front, stands_before}
use Rattle.c_stmt_agreement.proofs.lemmas.Sequences.{no_label}
use Rattle.c_stmts_agree.specs.Parts.{ValueAgrees}
use Rattle.c_stmts_agree.proofs.lemmas.Backing.{room_lowered}

-- ---- a root that returns

enough : (turns steps k : ℕ) → 1 + turns ≤ steps + k → turns ≤ steps + k
enough turns steps k h = omega (arith, h)

module _ (means : TurnsMean) (p : Activation) (frame : HasFrame p) (o : Origin) (k : ℕ) (a : Low) (es : List Entry) (keep : Keeps) (f : Front p.scene.body.pieces a.pieces es) (values : ℕ → Word) (w : World) (st : OpenAt p.scene o.start o.turns a.pieces a.slots keep k o.map o.old es f values w)
    (x : Parts) (v : Option Word) (act : acts p.scene.body.setting.environment (head_of x) (operands x.kids values) w.objects ≡ Moved (End v)) where
  ends_so : Runs (acting p.scene.body) keep (Acts x ∷ []) (made_of es) values 1 w (Ends v (with_left 0 w))
  ends_so =
      subst (λ (e : Effect). Acted e (Ends v (with_left 0 w)) (λ q. Leaves (is_end x) keep (made_of es) w q.world × RunsBehind false (acting p.scene.body) keep [] (made_of es) values q.left q.world (Ends v (with_left 0 w))))
      (sym (ap (λ (z : Action). effect_of (acting p.scene.body).call z (with_left 0 w)) act))
      refl

  pub finished : Front p.scene.body.pieces a.pieces (es ++ entry.Root x ∷ []) → Finishes o.start o.turns v w k
  finished front =
      let over = over_is_reached means p.scene.body frame.body.split o.start o.turns a.pieces es (entry.Root x ∷ []) (Acts x ∷ []) f front values w k (root_goes_on es st.none_waits x) st.reaches 1 (Ends v (with_left 0 w)) tt
      (subst (λ (ks : Keeps). Runs (acting p.scene.body) ks (Acts x ∷ []) (made_of es) values 1 w (Ends v (with_left 0 w))) (sym st.keeps_is) ends_so) in
      record { steps = over.steps; is = over.is; paid = enough o.turns over.steps k over.paid }

-- ---- a root over an operand

abbrev giving : Head
giving = head op.Ret I

module _ (chars : CharsAreNarrow) (shorts : ShortsAreNarrow) (means : TurnsMean) (p : Activation) (frame : HasFrame p) (o : Origin) (k : ℕ) (l : Low) (at : StandsAt p o l k) (le : p.locals ≤ length l.slots) (t : Template) (u : Word) (final : IsFinal p (acted_one giving t l)) where
  abbrev front : Front p.scene.body.pieces l.pieces (behind p o l k at giving t)
  front = root_front p o l k at giving t chars shorts frame le final.front

  pub word_returned : (given : Map → Option Word → Type 0) → given o.map (Some u) → StandsBefore p o l k at giving t u front → Returned p o given o.old k
  word_returned given is x = record {
    map = o.map;
    grown = grown_refl o.map;
    word = Some u;
    world = x.world;
    finishes =
        finished means p frame o k l (behind p o l k at giving t) (keeps p o l k at giving t) front x.values x.world x.stands (root p o l k at giving t) (Some u) (x.acts (Moved (End (Some u))) refl) final.front;
    matches = x.stands.matches;
    left = λ place lt private none. x.left place lt private (fewer_taken p.scene p.locals (length l.slots) place le none);
    given = is;
  }

module _ (chars : CharsAreNarrow) (shorts : ShortsAreNarrow) (means : TurnsMean) (p : Activation) (frame : HasFrame p) where
  -- ---- without a value

  pub nothing_returned : (is : Bool) (o : Origin) (k : ℕ) (l : Low) (gives : Bool) → gives ≡ is → StandsAt p o l k → p.locals ≤ length l.slots → IsFinal p (nothing_given is l) → Returned p o (IsNoValue gives) o.old k
  nothing_returned true o k l gives e at le final =
      word_returned chars shorts means p frame o k l at le (constant_i 0) (Plain (Number 0)) final (IsNoValue gives) (λ q. refl)
      (stands_before p o l k at giving (constant_i 0) chars shorts frame le (Plain (Number 0)) tt tt refl (root_front p o l k at giving (constant_i 0) chars shorts frame le final.front))
  nothing_returned false o k l gives e at le final =
      let keep = keeps_at p.scene.body l.pieces l.entries at.front in
      record {
        map = o.map;
        grown = grown_refl o.map;
        word = None;
        world = o.world;
        finishes = finished means p frame o k l l.entries keep at.front at.values o.world (at_of p.scene o.start o.turns l at.front o.map o.old at.values o.world k at.stands) (with_kids (head op.Ret V) kids.Zero) None refl final.front;
        matches = at.stands.stands.matches;
        left = λ place lt private none. refl;
        given = λ q. absurd (true≢false (sym q ∙ e));
      }

  pub empty_return_agrees : (f : Function) (e : Ending) → e.gives_zero ≡ f.gives_zero → (y : Ways) (l : Low) → p.locals ≤ length l.slots → IsFinal p (return_row f None l) → LoweredStmt p y e (stmt.Return None) l (return_row f None l)
  empty_return_agrees f e zero y l le final Start i o k at = nothing_returned f.gives_zero o k l e.gives_zero zero at le final
  empty_return_agrees f e zero y l le final (At m) i o k at = no_label i

  -- ---- with a scalar

  given_returned : (o : Origin) (k : ℕ) (l : Low) (at : StandsAt p o l k) → p.locals ≤ length l.slots → (a : Typed) (v : Value) → HasIn (node_count l.entries) a → HasValue p.scene a o.map at.values o.world v → IsFinal p (acted_one giving (as_i a) l)
      → Returned p o (IsWordOf v) o.old k
  given_returned o k l at le a v within has final =
      let ks = keeps p o l k at giving (as_i a) in
      let scene = seen p.scene.body o.map at.values o.world in
      word_returned chars shorts means p frame o k l at le (as_i a) has.holds.word final (IsWordOf v) has.holds.is
      (stands_before p o l k at giving (as_i a) chars shorts frame le has.holds.word (as_i_in (node_count l.entries) a.suffix a.tree within)
      (as_i_set ks scene a.suffix a.tree (operand_settled ks p.scene a o.map at.values o.world v has))
      (i_gives scene a.suffix a.tree has.holds.word has.holds.gives)
      (root_front p o l k at giving (as_i a) chars shorts frame le final.front))

  module _ (y : Ways) (e : Ending) (plain : e.copy ≡ None) (o : Origin) (a : Low) (k : ℕ) (at : StandsAt p o a k) (le : p.locals ≤ length a.slots) (l : Low) (h : Front p.scene.body.pieces l.pieces l.entries) (room : p.locals ≤ length l.slots) (x : Typed)
      (within : HasIn (node_count l.entries) x) (final : IsFinal p (acted_one giving (as_i x) l)) (b : Low) (line : ℕ) where
    value_returned : (r : Result) → IsSoundResult p.scene.unit o.old r → CameTo p.scene o.start o.turns a l h x o.map o.old at.values o.world r → CameFrom p y e o b (then_do r (λ v k1 w1. Return (Some v) line k1 w1))
    value_returned (Gives v j old) s c1 =
        let came = given_came p frame o a k at le l h x (Some v) old j (sound_in p o.old old at.sound s.1.0 s.1.1) c1 in
        let on = onward p o l old j came in
        subst (λ (to : Option Value). ReturnedValue p e to o v old j) (sym plain)
        (returned_on p o l old j came (IsWordOf v) old j (given_returned on j l (stands_onward p o l old j came) room x v within c1.has final))
    value_returned (GivesNone m j old) s c1 = tt
    value_returned (EndsSo (Undefined cause m) old) s c1 = tt
    value_returned (EndsSo OutOfTurns old) s c1 = c1
    value_returned (EndsSo (Exit status) old) s c1 = c1

  module _ (evals : EvalStaysSound) (f : Function) (e : Ending) (plain : e.copy ≡ None) (x : CoreTree) (v : ValueAgrees p f x) (y : Ways) (l : Low) (le : p.locals ≤ length l.slots) where
    scalar_by : (is : Bool) → is ≡ false → IsFinal p (given_by is f (low_e f.context x l).value (low_e f.context x l).low) → LoweredStmt p y e (stmt.Return (Some x)) l (given_by is f (low_e f.context x l).value (low_e f.context x l).low)
    scalar_by true is final n i o k at = absurd (true≢false is)
    scalar_by false is final Start i o k at =
        let r = low_e f.context x l in
        let back = (back_steps p.scene.body.pieces).acts_one giving (as_i r.value) r.low final in
        value_returned y e plain o l k at le r.low back.front (room_lowered p.locals f.context x l le) r.value (values_have_nodes f.context x l at.stands.block).value final (given_by false f r.value r.low) (line_of x)
        (eval (context p.scene.unit p.scene.lowered.order) x k o.old)
        (sound_result p.scene p.locals frame.body evals x v.tame k o.old at.sound)
        (v.lowered l le o.start o.turns at.front back.front o.map o.old at.values o.world k back.slots at.stands at.sound at.wholes)
    scalar_by false is final (At m) i o k at = no_label i

    pub scalar_return_agrees : is_record f.result ≡ false → IsFinal p (return_row f (Some x) l) → LoweredStmt p y e (stmt.Return (Some x)) l (return_row f (Some x) l)
    scalar_return_agrees is final = scalar_by (is_record f.result) is final
