-- Where blocks end.
use Rattle.std.specs.Prelude.{◌≡◌, ◌≤◌, ℕ, suc, ◌+◌, false, Option, Some, List, [], ◌∷◌, ◌++◌}
use Rattle.std.proofs.Common.{refl, sym, ap, ◌∙◌, subst, append_assoc, arith}
use Rattle.op_forest.specs.declared.frame.Slot.{Slot}
use Rattle.op_forest.specs.Labels.{behind}
use Rattle.op_forest.specs.Nodes.{Node}
use Rattle.forests.specs.Bodies.{at_label}
use Rattle.forests.specs.Budgets.{with_left}
use Rattle.forests.specs.OneRoot.{runs_in}
use Rattle.forests.proofs.lemmas.OneRoot.{one_root}
use Rattle.forests.specs.Words.{Word, unknown}
use Rattle.forests.specs.Worlds.{World, Point, Outcome}
use Rattle.dag_forest.specs.declared.act.Act.{Act}
use Rattle.dag_forest.specs.declared.entry.Entry.{Entry}
use Rattle.dag_forest.specs.Meaning.{Keeps, Ran, Through, Jumps, Ends, Exited, Out, Runs}
use Rattle.dag_forest.specs.Meant.{ended_by}
use Rattle.dag_forest.specs.Schedules.{in_turn}
use Rattle.dag_forest.specs.Tally.{node_count}
use Rattle.dag_seam.specs.Laws.{GoesOn}
use Rattle.dag_seam.specs.Ran.{IsOver}
use Rattle.dag_seam.specs.SplitLaws.{TurnsMean, Lacks}
use Rattle.dag_seam.specs.Turns.{made_of, waiting_behind}
use Rattle.dag_seam.proofs.lemmas.Behind.{behind_first}
use Rattle.dag_seam.proofs.lemmas.Runs.{block_runs, runs_stop}
use Rattle.dag_seam.proofs.lemmas.Turns.{turns_append}
use Rattle.piece_runs.specs.Pieces.{Piece, OfBlock, Mark, label_root, Front}
use Rattle.piece_runs.specs.Reaches.{BodyRun, acting, roots_in, run_from, tail_at, keeps_in, keeps_at, Reaches}
use Rattle.piece_runs.specs.Laws.{ActTo, AreSplit, over_in, Comes}
use Rattle.piece_runs.proofs.lemmas.Tails.{tails_are_same, keeps_are_same, tail_is, roots_append}
use Rattle.piece_runs.proofs.lemmas.Reached.{all_paid}

-- ---- one block's trees

-- a run that is over doesn't look at what stands behind the block
over_same : (run : List Node → Point → Outcome) (whole rest other : List Node) (r : Ran) → IsOver r → ended_by run whole rest r ≡ ended_by run whole other r
over_same run whole rest other (Through values p) over = absurd over
over_same run whole rest other (Jumps l p) over = refl
over_same run whole rest other (Ends v p) over = refl
over_same run whole rest other (Exited status w) over = refl
over_same run whole rest other (Out w) over = refl

-- a label is a step, and nothing else
label_goes : (g : BodyRun) (l : ℕ) (ps : List Piece) (left : ℕ) (w : World) → run_from g (Mark l ∷ ps) (suc left) w ≡ run_from g ps left w
label_goes g l ps left w = one_root g.program g.setting (roots_in g g.pieces) (label_root l) (roots_in g ps) left w

module _ (means : TurnsMean) (g : BodyRun) (split : AreSplit g) where
  block_means : (done rest : List Piece) (before : List Slot) (es : List Entry) → g.pieces ≡ done ++ OfBlock before es ∷ rest → (left : ℕ) (w : World) (r : Ran)
      → Runs (acting g) (keeps_in g (OfBlock before es ∷ rest)) (in_turn es 0 []) (λ m. false) (λ m. unknown) left w r
      → run_from g (OfBlock before es ∷ rest) left w ≡ ended_by (runs_in g.program g.setting (roots_in g g.pieces)) (roots_in g g.pieces) (roots_in g rest) r
  block_means done rest before es is left w r h =
      let s = split done rest before es is in
      means before es s.split g.program g.setting s.more s.frame (roots_in g g.pieces) (roots_in g rest) left w r h

  -- ---- the run is over

  pub over_is_reached : (start : ℕ → Outcome) (turns : ℕ) (done : List Piece) (es fs : List Entry) (acts : List Act) (f : Front g.pieces done es) (h : Front g.pieces done (es ++ fs)) → (values : ℕ → Word) (w : World) (k : ℕ) → GoesOn es fs acts → Reaches g start turns done es f values w k
      → (inside : ℕ) (r : Ran) → IsOver r → Runs (acting g) (keeps_at g done es f) acts (made_of es) values inside w r → Comes start turns k inside (over_in g r)
  over_is_reached start turns done es fs acts f h values w k on reached inside r over run =
      let m = reached.arrives inside in
      let tail = tails_are_same g done es (es ++ fs) f h in
      let front = block_runs (acting g) (keeps_at g done es f) es fs acts m.inside reached.first values inside w r on m.block run in
      let more = runs_stop (acting g) (keeps_at g done es f) (in_turn (es ++ fs) 0 []) (in_turn h.more (0 + node_count (es ++ fs)) (waiting_behind (es ++ fs) 0 [])) (λ n. false) (λ n. unknown) m.inside reached.first r over front in
      let all = subst (λ (xs : List Act). Runs (acting g) (keeps_at g done es f) xs (λ n. false) (λ n. unknown) m.inside reached.first r) (sym (turns_append (es ++ fs) h.more 0 [])) more in
      let block = subst (λ (keeps : Keeps). Runs (acting g) keeps (in_turn ((es ++ fs) ++ h.more) 0 []) (λ n. false) (λ n. unknown) m.inside reached.first r) (keeps_are_same g done es (es ++ fs) f h) all in
      record {
        steps = m.steps;
        paid = m.paid;
        is =
            m.runs ∙ ap (λ (ps : List Piece). run_from g ps m.inside reached.first) tail
            ∙ block_means done h.rest h.before ((es ++ fs) ++ h.more) h.is m.inside reached.first r block
            ∙ over_same (runs_in g.program g.setting (roots_in g g.pieces)) (roots_in g g.pieces) (roots_in g h.rest) [] r over;
      }

  -- ---- the block is finished

  -- the run comes behind it
  finished : (start : ℕ → Outcome) (turns : ℕ) (done ps : List Piece) (es : List Entry) (before : List Slot) (f : Front g.pieces done es) (h : Front g.pieces (done ++ OfBlock before es ∷ ps) []) (values : ℕ → Word) (w : World) (k : ℕ)
      → Reaches g start turns done es f values w k → (left : ℕ) → Comes start turns k left (run_from g (ps ++ tail_at g (done ++ OfBlock before es ∷ ps) [] h) left w)
  finished start turns done ps es before f h values w k reached left =
      let m = reached.arrives left in
      let tail = tail_is g done (OfBlock before es ∷ ps) es [] f h in
      let block = subst (λ (qs : List Piece). Runs (acting g) (keeps_in g qs) (in_turn es 0 []) (λ n. false) (λ n. unknown) m.inside reached.first (Through values (with_left left w))) tail m.block in
      record {
        steps = m.steps;
        paid = m.paid;
        is =
            m.runs ∙ ap (λ (qs : List Piece). run_from g qs m.inside reached.first) tail
            ∙ block_means done (ps ++ tail_at g (done ++ OfBlock before es ∷ ps) [] h) before es (f.is ∙ ap (λ (qs : List Piece). done ++ qs) tail) m.inside reached.first (Through values (with_left left w)) block;
      }

  pub next_is_reached : (start : ℕ → Outcome) (turns : ℕ) (done : List Piece) (es : List Entry) (before : List Slot) (f : Front g.pieces done es) (h : Front g.pieces (done ++ OfBlock before es ∷ []) []) (values : ℕ → Word) (w : World) (k : ℕ)
      → Reaches g start turns done es f values w k → Reaches g start turns (done ++ OfBlock before es ∷ []) [] h (λ m. unknown) w k
  next_is_reached start turns done es before f h values w k reached = record {
    first = w;
    arrives = λ left.
        let c = finished start turns done [] es before f h values w k reached left in
        record { steps = c.steps; inside = left; paid = c.paid; runs = c.is; block = refl };
  }

  step_paid : (left turns steps k j : ℕ) → k ≤ suc j → suc left + turns ≤ steps + k → left + turns ≤ steps + j
  step_paid left turns steps k j x y = omega (arith, x, y)

  pub label_is_reached : (start : ℕ → Outcome) (turns : ℕ) (done : List Piece) (es : List Entry) (before : List Slot) (label : ℕ) (f : Front g.pieces done es) (h : Front g.pieces (done ++ OfBlock before es ∷ Mark label ∷ []) []) (values : ℕ → Word) (w : World) (k j : ℕ)
      → k ≤ suc j → Reaches g start turns done es f values w k → Reaches g start turns (done ++ OfBlock before es ∷ Mark label ∷ []) [] h (λ m. unknown) w j
  label_is_reached start turns done es before label f h values w k j le reached = record {
    first = w;
    arrives = λ left.
        let c = finished start turns done (Mark label ∷ []) es before f h values w k reached (suc left) in
        record {
          steps = c.steps;
          inside = left;
          paid = step_paid left turns c.steps k j le c.paid;
          runs = c.is ∙ label_goes g label (tail_at g (done ++ OfBlock before es ∷ Mark label ∷ []) [] h) left w;
          block = refl;
        };
  }

  -- ---- a jump

  behind_label : (label : ℕ) (ps : List Piece) (t : Front g.pieces (ps ++ Mark label ∷ []) []) → Lacks label (roots_in g ps) → behind label (roots_in g g.pieces) ≡ Some (roots_in g (tail_at g (ps ++ Mark label ∷ []) [] t))
  behind_label label ps t lacks =
      ap (λ (ts : List Node). behind label ts)
      (ap (λ (qs : List Piece). roots_in g qs) (t.is ∙ append_assoc ps (Mark label ∷ []) (tail_at g (ps ++ Mark label ∷ []) [] t))
      ∙ roots_append g.setting.environment.order g.setting.environment.home ps (Mark label ∷ tail_at g (ps ++ Mark label ∷ []) [] t))
      ∙ behind_first label (roots_in g ps) (label_root label) (roots_in g (tail_at g (ps ++ Mark label ∷ []) [] t)) lacks refl

  pub jump_is_reached : (start : ℕ → Outcome) (turns : ℕ) (done : List Piece) (es fs : List Entry) (acts : List Act) (f : Front g.pieces done es) (h : Front g.pieces done (es ++ fs)) → (values : ℕ → Word) (w world : World) (k j : ℕ) → GoesOn es fs acts → Reaches g start turns done es f values w k
      → (label : ℕ) (ps : List Piece) (t : Front g.pieces (ps ++ Mark label ∷ []) []) → Lacks label (roots_in g ps) → ActTo g done es f acts values w k j (λ left. Jumps label (with_left left world))
      → Reaches g start turns (ps ++ Mark label ∷ []) [] t (λ m. unknown) world j
  jump_is_reached start turns done es fs acts f h values w world k j on reached label ps t lacks go = record {
    first = world;
    arrives = λ left.
        let n = go left in
        let c = over_is_reached start turns done es fs acts f h values w k on reached n.0 (Jumps label (with_left left world)) tt n.2 in
        record {
          steps = c.steps;
          inside = left;
          paid = all_paid left turns n.0 c.steps k j n.1 c.paid;
          runs = c.is ∙ ap (λ (o : Option (List Node)). at_label o (λ ts. runs_in g.program g.setting (roots_in g g.pieces) ts (with_left left world))) (behind_label label ps t lacks);
          block = refl;
        };
  }
