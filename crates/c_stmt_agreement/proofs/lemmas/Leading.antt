-- Where labels and jumps lead, with a step that pays for a turn.
use Rattle.std.specs.Prelude.{◌≡◌, ◌≤◌, ℕ, suc, List, [], ◌∷◌, ◌++◌, length}
use Rattle.std.proofs.Common.{refl, sym, subst, ◌∙◌, arith, append_assoc}
use Rattle.forests.specs.Actions.{Moved}
use Rattle.forests.specs.Budgets.{with_left}
use Rattle.forests.specs.Words.{Label as LabelWord, unknown}
use Rattle.forests.specs.Worlds.{To}
use Rattle.dag_forest.specs.declared.act.Act.TheVariants.{Acts}
use Rattle.dag_forest.specs.declared.entry.Entry.TheVariants as entry
use Rattle.dag_forest.specs.Meaning.{Keeps, Jumps, Runs}
use Rattle.dag_seam.specs.SplitLaws.{TurnsMean}
use Rattle.dag_seam.specs.Turns.{made_of}
use Rattle.dag_seam.proofs.lemmas.Turns.{root_goes_on}
use Rattle.c_match.proofs.lemmas.Growing.{grown_refl}
use Rattle.piece_runs.specs.Pieces.{Piece, OfBlock, Mark, Front}
use Rattle.piece_runs.specs.Reaches.{acting, Reaches}
use Rattle.piece_runs.proofs.lemmas.Ended.{label_is_reached, jump_is_reached}
use Rattle.lowered_forms.specs.Lows.{Low, jumped, marked}
use Rattle.c_straight_agree.specs.Narrow.{CharsAreNarrow, ShortsAreNarrow}
use Rattle.c_straight_agree.proofs.lemmas.Coming.{fewer_taken}
use Rattle.c_straight_agree.proofs.lemmas.Wholes.{wholes_left}
use Rattle.c_tests_agree.specs.Tested.{AreMarkedOnce, Label, low_at}
use Rattle.c_tests_agree.proofs.lemmas.Branching.{ended_front, jumps_so, block_begins}
use Rattle.c_tests_agree.proofs.lemmas.Jumping.{jump, address, own_label}
use Rattle.c_stmt_agreement.specs.Comings.{Activation, HasFrame, Origin}
use Rattle.c_stmt_agreement.specs.Laws.{IsFinal}
use Rattle.c_stmt_agreement.specs.LoweredStmt.{StandsAt, Leads}
use Rattle.c_stmt_agreement.proofs.lemmas.Paying.{both_more, reaches_paid}
use Rattle.c_stmt_agreement.proofs.lemmas.Roots.{keeps, behind, root, StandsBefore, root_front, stands_before}
use Rattle.c_stmt_agreement.proofs.lemmas.Results.{result_left, opens_left}

-- ---- a label

module _ (means : TurnsMean) (p : Activation) (frame : HasFrame p) (n : ℕ) (a : Low) where
  reached_at : (o : Origin) (ps qs : List Piece) (k : ℕ) → ps ≡ qs → ((h : Front p.scene.body.pieces qs []) → Reaches p.scene.body o.start (suc o.turns) qs [] h (λ m. unknown) o.world k)
      → (h : Front p.scene.body.pieces ps []) → Reaches p.scene.body o.start (suc o.turns) ps [] h (λ m. unknown) o.world k
  reached_at o ps qs k e go = subst (λ (rs : List Piece). (h : Front p.scene.body.pieces rs []) → Reaches p.scene.body o.start (suc o.turns) rs [] h (λ m. unknown) o.world k) (sym e) go

  mark_reached : (o : Origin) (k : ℕ) → StandsAt p o a k → (h : Front p.scene.body.pieces (marked n a).pieces []) → Reaches p.scene.body o.start (suc o.turns) (marked n a).pieces [] h (λ m. unknown) o.world k
  mark_reached o k at h =
      reached_at o (marked n a).pieces (a.pieces ++ OfBlock a.slots a.entries ∷ Mark n ∷ []) k (append_assoc a.pieces (OfBlock a.slots a.entries ∷ []) (Mark n ∷ []))
      (λ g. label_is_reached means p.scene.body frame.body.split o.start (suc o.turns) a.pieces a.entries a.slots n at.front g at.values o.world (suc k) k (omega arith)
      (reaches_paid p.scene.body o.start o.turns (suc o.turns) a.pieces a.entries at.front at.values o.world k (suc k) (both_more o.turns k) at.stands.stands.reaches)) h

  pub marks_lead : IsFinal p (marked n a) → Leads p a (marked n a)
  marks_lead final o k at = record {
    front = final.front;
    passed = record {
      later = o.map;
      grown = grown_refl o.map;
      others = λ m. unknown;
      world = o.world;
      stands =
          block_begins p.scene o.start (suc o.turns) (marked n a).pieces (marked n a).slots a.labels final.front final.slots o.map o.old o.world k (mark_reached o k at final.front)
          at.stands.stands.matches at.stands.stands.frame at.stands.free at.stands.ready;
      alike = refl;
      left = λ place lt private none. refl;
      private = λ place lt private. private;
    };
    sound = at.sound;
    wholes = at.wholes;
    result = at.result;
    opens = at.opens;
  }

-- ---- a jump

module _ (chars : CharsAreNarrow) (shorts : ShortsAreNarrow) (means : TurnsMean) (p : Activation) (frame : HasFrame p) (once : AreMarkedOnce p.scene.body) (n : ℕ) (a : Low) (le : p.locals ≤ length a.slots) (t : Label p.scene n) where
  jump_reached : (o : Origin) (k : ℕ) (at : StandsAt p o a k) (h : Front p.scene.body.pieces (jumped n a).pieces [])
      → (x : StandsBefore p o a k at jump (address n) (LabelWord p.scene.body.setting.environment.home.function n)
      (root_front p o a k at jump (address n) chars shorts frame le (ended_front p.scene.body.pieces a.pieces a.slots (behind p o a k at jump (address n) ++ entry.Root (root p o a k at jump (address n)) ∷ []) h)))
      → Reaches p.scene.body o.start (suc o.turns) (t.before ++ Mark n ∷ []) [] t.front (λ m. unknown) x.world k
  jump_reached o k at h x =
      let gs = behind p o a k at jump (address n) in
      let r = root p o a k at jump (address n) in
      let front = ended_front p.scene.body.pieces a.pieces a.slots (gs ++ entry.Root r ∷ []) h in
      let f = root_front p o a k at jump (address n) chars shorts frame le front in
      let function = p.scene.body.setting.environment.home.function in
      let act = x.acts (Moved (To n)) (own_label function n) in
      jump_is_reached means p.scene.body frame.body.split o.start (suc o.turns) a.pieces gs (entry.Root r ∷ []) (Acts r ∷ []) f front x.values x.world x.world (suc k) k
      (root_goes_on gs x.stands.none_waits r)
      (reaches_paid p.scene.body o.start o.turns (suc o.turns) a.pieces gs f x.values x.world k (suc k) (both_more o.turns k) x.stands.reaches)
      n t.before t.front
      (once t.before (OfBlock t.front.before t.front.more ∷ t.front.rest) n (t.front.is ∙ append_assoc t.before (Mark n ∷ []) (OfBlock t.front.before t.front.more ∷ t.front.rest)))
      (λ left. (
        suc left,
        omega arith,
        subst (λ (ks : Keeps). Runs (acting p.scene.body) ks (Acts r ∷ []) (made_of gs) x.values (suc left) x.world (Jumps n (with_left left x.world))) (sym x.stands.keeps_is)
            (jumps_so means p.scene once p.locals frame.body o.start o.turns a.pieces a.slots (keeps p o a k at jump (address n)) k o.map o.old gs f x.values x.world x.stands r n act left),
      ))

  pub jumps_lead : IsFinal p (jumped n a) → Leads p a (low_at p.scene n t)
  jumps_lead final o k at =
      let gs = behind p o a k at jump (address n) in
      let r = root p o a k at jump (address n) in
      let front = ended_front p.scene.body.pieces a.pieces a.slots (gs ++ entry.Root r ∷ []) final.front in
      let f = root_front p o a k at jump (address n) chars shorts frame le front in
      let function = p.scene.body.setting.environment.home.function in
      let x = stands_before p o a k at jump (address n) chars shorts frame le (LabelWord function n) tt tt refl f in
      record {
        front = t.front;
        passed = record {
          later = o.map;
          grown = grown_refl o.map;
          others = λ m. unknown;
          world = x.world;
          stands =
              block_begins p.scene o.start (suc o.turns) (t.before ++ Mark n ∷ []) t.slots t.labels t.front t.split o.map o.old x.world k (jump_reached o k at final.front x)
              x.stands.matches x.stands.frame x.stands.free x.ready;
          alike = x.alike;
          left = λ place lt private none. x.left place lt private (fewer_taken p.scene p.locals (length a.slots) place le none);
          private = λ place lt private. private;
        };
        sound = at.sound;
        wholes = wholes_left p.scene p.layout frame.laid o.map o.old o.world x.world at.stands.stands.frame.others x.alike (length a.slots) x.left at.wholes;
        result = result_left p frame o.map o.map (grown_refl o.map) o.old o.world x.world at.stands.stands.frame.others x.alike (length a.slots) x.left at.result;
        opens = opens_left p o.world x.world x.alike at.opens;
      }
