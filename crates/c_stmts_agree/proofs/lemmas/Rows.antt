-- Statements by their parts' lowering: jumps, choices and loops.
use Rattle.std.specs.Prelude.{◌≡◌, ◌≤◌, ℕ, suc, Bool, true, false, Option, Some, None, length}
use Rattle.std.proofs.Common.{refl, sym, subst}
use Rattle.c_meaning.specs.StmtTrees as stmt
use Rattle.c_meaning.specs.Values.{CoreTree}
use Rattle.c_runs.specs.Expressions.{test}
use Rattle.c_runs.specs.Outcomes.{Result}
use Rattle.c_runs.specs.Run.{context}
use Rattle.c_runs.specs.Soundness.{EvalStaysSound}
use Rattle.c_runs.specs.Statements.{Start, At, last_and_test}
use Rattle.c_runs.specs.Worlds as c
use Rattle.dag_seam.specs.SplitLaws.{TurnsMean}
use Rattle.lowered_forms.specs.Expressions.{low_e, low_test}
use Rattle.lowered_forms.specs.Lows.{Low, jumped, marked, with_label}
use Rattle.lowered_statements.specs.Bodies.{Body, with_low, on_low}
use Rattle.lowered_statements.specs.Functions.{Function, Exits}
use Rattle.lowered_statements.specs.Rows.{dropped, maybe_dropped, maybe_tested, last_and_test as lowered_last, one_way, two_ways, choice_by}
use Rattle.lowered_statements.specs.Statements.{StmtTree, is_nothing, low_s}
use Rattle.lowered_labels.specs.Used.{GoesWithin}
use Rattle.c_straight_agree.specs.Narrow.{CharsAreNarrow, ShortsAreNarrow}
use Rattle.c_straight_agree.proofs.lemmas.Finals.{finals_go_back, test_finals_go_back}
use Rattle.c_tests_agree.specs.Tested.{AreMarkedOnce, Label, low_at, jumps}
use Rattle.c_stmt_agreement.specs.Comings.{Activation, HasFrame, Ways, Ending}
use Rattle.c_stmt_agreement.specs.Laws.{IsFinal, TestIsLowered, Looped, drop_of, MaybeTestIsLowered}
use Rattle.c_stmt_agreement.specs.LoweredStmt.{LoweredStmt, LoweredTest, ComesTo, Leads}
use Rattle.c_stmt_agreement.proofs.lemmas.Choices.{choice_is_lowered}
use Rattle.c_stmt_agreement.proofs.lemmas.Expressions.{expression_is_lowered, tests_are_tests}
use Rattle.c_stmt_agreement.proofs.lemmas.ForLoops.{for_is_lowered, last_is_lowered}
use Rattle.c_stmt_agreement.proofs.lemmas.Leading.{marks_lead, jumps_lead}
use Rattle.c_stmt_agreement.proofs.lemmas.Loops.{while_is_lowered, do_is_lowered}
use Rattle.c_stmt_agreement.proofs.lemmas.Paying.{came_unpaid}
use Rattle.c_stmt_agreement.proofs.lemmas.Rebasing.{came_itself}
use Rattle.c_stmt_agreement.proofs.lemmas.Sequences.{nothing_is_lowered}
use Rattle.c_stmts_agree.specs.Parts.{EffectAgrees, TestAgrees, MaybeAgrees, MaybeTestAgrees}
use Rattle.c_stmts_agree.specs.Tables.{HasTables}
use Rattle.c_stmts_agree.specs.Ways.{IsBehind, AreWays}
use Rattle.c_stmts_agree.proofs.lemmas.Backing.{statement_back, statement_has, mark_back, jump_back, label_back, room_marked, room_jumped, room_lowered, room_tested, room_stated}
use Rattle.c_stmts_agree.proofs.lemmas.Places.{label_here, behind_mark, Moves, relabels}

-- ---- where a statement begins

pub enters : (p : Activation) (y : Ways) (e : Ending) (t : StmtTree) (a b d : Low) → Moves p a b → LoweredStmt p y e t b d → LoweredStmt p y e t a d
enters p y e t a b d moves h Start i o k at = h Start i o k (moves o k at)
enters p y e t a b d moves h (At l) i o k at = h (At l) i o k at

pub leads_from : (p : Activation) (a b d : Low) → Moves p a b → Leads p b d → Leads p a d
leads_from p a b d moves h o k at = h o k (moves o k at)

-- a step that nothing is bought for
pub unpaid : (p : Activation) (a b : Low) → Leads p a b → ComesTo p a b
unpaid p a b leads o k at = came_unpaid p o b o.old k (leads o k at)

-- ---- parts of a statement

abbrev pub StatementAgrees : Activation → Function → Ending → StmtTree → Type 0
StatementAgrees p f e t =
    (x : Exits) (y : Ways) (breaks continues : Bool) → AreWays p f x y breaks continues → GoesWithin f breaks continues t → (b : Body) → p.locals ≤ length b.low.slots → HasTables p f (low_s f x t b)
    → IsFinal p (low_s f x t b).low → LoweredStmt p y e t b.low (low_s f x t b).low

-- what stands between two repetitions of a loop, lowered as a test to the start of the body
pub record Between (p : Activation) (does : ℕ → c.World → Result) (row : ℕ → Low → Low) : Type 0 where
  pub tests : (n : ℕ) (l : Low) → p.locals ≤ length l.slots → IsFinal p (row n l) → (t : Label p.scene n) → LoweredTest p (λ v. v) does (low_at p.scene n t) l (row n l)
  pub back : (n : ℕ) (l : Low) → IsFinal p (row n l) → IsFinal p l

module _ (chars : CharsAreNarrow) (shorts : ShortsAreNarrow) (means : TurnsMean) (evals : EvalStaysSound) (p : Activation) (frame : HasFrame p) (once : AreMarkedOnce p.scene.body) (f : Function) (e : Ending) where
  -- ---- jumps, expressions and tests

  -- to a place behind a label
  pub jump_leads : (n : ℕ) (l d : Low) → p.locals ≤ length l.slots → IsFinal p (jumped n l) → IsBehind p.scene n d → Leads p l d
  jump_leads n l d le final h = subst (λ (a : Low). Leads p l a) (sym h.1) (jumps_lead chars shorts means p frame once n l le h.0 final)

  pub value_is_dropped : (x : CoreTree) → EffectAgrees p f x → (y : Ways) (l : Low) → p.locals ≤ length l.slots → IsFinal p (dropped f x l) → LoweredStmt p y e (stmt.Expression x) l (dropped f x l)
  value_is_dropped x v y l le final = expression_is_lowered evals p frame x v.tame y e l le (low_e f.context x l) (v.performed l le) final

  test_is_lowered : (x : CoreTree) → TestAgrees p f x → (n : ℕ) (when : Bool) (l : Low) → p.locals ≤ length l.slots → IsFinal p (low_test f.context x n when l) → (t : Label p.scene n)
      → TestIsLowered p (jumps when) x (low_at p.scene n t) l (low_test f.context x n when l)
  test_is_lowered x v n when l le final t = tests_are_tests evals p frame x v.tame n when l (low_test f.context x n when l) le (v.tested n when l le) final t

  maybe_is_dropped : (x : Option CoreTree) → MaybeAgrees p f x → (y : Ways) (l : Low) → p.locals ≤ length l.slots → IsFinal p (maybe_dropped f x l) → LoweredStmt p y e (drop_of x) l (maybe_dropped f x l)
  maybe_is_dropped None v y l le final = nothing_is_lowered p y e l
  maybe_is_dropped (Some x) v y l le final = value_is_dropped x v y l le final

  maybe_drop_back : (x : Option CoreTree) (l : Low) → IsFinal p (maybe_dropped f x l) → IsFinal p l
  maybe_drop_back None l final = final
  maybe_drop_back (Some x) l final = finals_go_back p.scene.body.pieces f.context x l final

  maybe_drop_room : (x : Option CoreTree) (l : Low) → p.locals ≤ length l.slots → p.locals ≤ length (maybe_dropped f x l).slots
  maybe_drop_room None l le = le
  maybe_drop_room (Some x) l le = room_lowered p.locals f.context x l le

  maybe_is_tested : (x : Option CoreTree) → MaybeTestAgrees p f x → (n : ℕ) (l : Low) → p.locals ≤ length l.slots → IsFinal p (maybe_tested f x n l) → (t : Label p.scene n) → MaybeTestIsLowered p x (low_at p.scene n t) l (maybe_tested f x n l)
  maybe_is_tested None v n l le final t = unpaid p l (low_at p.scene n t) (jumps_lead chars shorts means p frame once n l le t final)
  maybe_is_tested (Some x) v n l le final t = test_is_lowered x v n true l le final t

  maybe_test_back : (x : Option CoreTree) (n : ℕ) (l : Low) → IsFinal p (maybe_tested f x n l) → IsFinal p l
  maybe_test_back None n l final = jump_back p.scene.body.pieces n l final
  maybe_test_back (Some x) n l final = test_finals_go_back p.scene.body.pieces f.context x n true l final

  -- ---- choices

  nothing_is : (t : StmtTree) → is_nothing t ≡ true → t ≡ stmt.Nothing
  nothing_is stmt.Nothing is = refl
  nothing_is t is = absurd (let never : ⊥ = cc in never)

  module _ (x : CoreTree) (v : TestAgrees p f x) (t u : StmtTree) (first : StatementAgrees p f e t) (second : StatementAgrees p f e u) (z : Exits) (y : Ways) (breaks continues : Bool) (ways : AreWays p f z y breaks continues)
      (within_t : GoesWithin f breaks continues t) (within_u : GoesWithin f breaks continues u) where
    -- with nothing on the second way
    one_is_lowered : (n : ℕ) (b : Body) → p.locals ≤ length b.low.slots → HasTables p f (one_way f x (λ b1. low_s f z t b1) n b) → IsFinal p (one_way f x (λ b1. low_s f z t b1) n b).low
        → LoweredStmt p y e (stmt.If x t stmt.Nothing) b.low (one_way f x (λ b1. low_s f z t b1) n b).low
    one_is_lowered n b le tables final =
        let l1 = low_test f.context x n false b.low in
        let b2 = low_s f z t (with_low l1 b) in
        let end = marked n b2.low in
        let final2 = mark_back p.scene.body.pieces n b2.low final in
        let final1 = statement_back p.scene.body.pieces f z t (with_low l1 b) final2 in
        choice_is_lowered p y e x t stmt.Nothing b.low l1 b2.low end end end
        (test_is_lowered x v n false b.low le final1 (label_here p.scene n b2.low final))
        (first z y breaks continues ways within_t (with_low l1 b) (room_tested p.locals f.context x n false b.low le) tables final2)
        (unpaid p b2.low end (marks_lead means p frame n b2.low final))
        (nothing_is_lowered p y e end)
        (λ o k at. came_itself p o end k at)

    -- the second way stands behind a label
    two_are_lowered : (m n : ℕ) (b : Body) → p.locals ≤ length b.low.slots → HasTables p f (two_ways f x (λ b1. low_s f z t b1) (λ b1. low_s f z u b1) m n b)
        → IsFinal p (two_ways f x (λ b1. low_s f z t b1) (λ b1. low_s f z u b1) m n b).low
        → LoweredStmt p y e (stmt.If x t u) b.low (two_ways f x (λ b1. low_s f z t b1) (λ b1. low_s f z u b1) m n b).low
    two_are_lowered m n b le tables final =
        let l1 = low_test f.context x m false b.low in
        let b2 = low_s f z t (with_low l1 b) in
        let l3 = jumped n b2.low in
        let b4 = with_low (marked m l3) b2 in
        let b5 = low_s f z u b4 in
        let end = marked n b5.low in
        let final5 = mark_back p.scene.body.pieces n b5.low final in
        let final4 = statement_back p.scene.body.pieces f z u b4 final5 in
        let final3 = mark_back p.scene.body.pieces m l3 final4 in
        let final2 = jump_back p.scene.body.pieces n b2.low final3 in
        let final1 = statement_back p.scene.body.pieces f z t (with_low l1 b) final2 in
        let le1 = room_tested p.locals f.context x m false b.low le in
        let le2 = room_stated p.locals f z t (with_low l1 b) le1 in
        choice_is_lowered p y e x t u b.low l1 b2.low b4.low b5.low end
        (test_is_lowered x v m false b.low le final1 (label_here p.scene m l3 final4))
        (first z y breaks continues ways within_t (with_low l1 b) le1 (statement_has p f z u b4 tables) final2)
        (unpaid p b2.low end (jump_leads n b2.low end le2 final3 (behind_mark p.scene n b5.low final)))
        (second z y breaks continues ways within_u b4 (room_marked p.locals m l3 (room_jumped p.locals n b2.low le2)) tables final5)
        (unpaid p b5.low end (marks_lead means p frame n b5.low final))

    choice_by_agrees : (is : Bool) → is_nothing u ≡ is → (b : Body) → p.locals ≤ length b.low.slots → HasTables p f (choice_by is f x (λ b1. low_s f z t b1) (λ b1. low_s f z u b1) b)
        → IsFinal p (choice_by is f x (λ b1. low_s f z t b1) (λ b1. low_s f z u b1) b).low
        → LoweredStmt p y e (stmt.If x t u) b.low (choice_by is f x (λ b1. low_s f z t b1) (λ b1. low_s f z u b1) b).low
    choice_by_agrees true is b le tables final =
        let b1 = on_low (λ l. with_label l) b in
        let low = (one_way f x (λ b2. low_s f z t b2) b.low.labels b1).low in
        subst (λ (w : StmtTree). LoweredStmt p y e (stmt.If x t w) b.low low) (sym (nothing_is u is))
        (enters p y e (stmt.If x t stmt.Nothing) b.low b1.low low (relabels p b.low (suc b.low.labels)) (one_is_lowered b.low.labels b1 le tables final))
    choice_by_agrees false is b le tables final =
        let b1 = on_low (λ l. with_label (with_label l)) b in
        let low = (two_ways f x (λ b2. low_s f z t b2) (λ b2. low_s f z u b2) b.low.labels (suc b.low.labels) b1).low in
        enters p y e (stmt.If x t u) b.low b1.low low (relabels p b.low (suc (suc b.low.labels))) (two_are_lowered b.low.labels (suc b.low.labels) b1 le tables final)

    pub choice_agrees : (b : Body) → p.locals ≤ length b.low.slots → HasTables p f (low_s f z (stmt.If x t u) b) → IsFinal p (low_s f z (stmt.If x t u) b).low → LoweredStmt p y e (stmt.If x t u) b.low (low_s f z (stmt.If x t u) b).low
    choice_agrees b le tables final = choice_by_agrees (is_nothing u) refl b le tables final

  -- ---- loops

  -- the places of a loop, whose body begins behind its first label
  module _ (does : ℕ → c.World → Result) (row : ℕ → Low → Low) (between : Between p does row) (t : StmtTree) (body : StatementAgrees p f e t) (z : Exits) (y : Ways) (breaks continues : Bool) (ways : AreWays p f z y breaks continues) (within : GoesWithin f true true t) (n : ℕ) (b : Body)
      (le : p.locals ≤ length b.low.slots) where
    abbrev pub exits : Exits
    exits = record { breaks = suc (suc n); continues = suc n }

    abbrev pub top : Body
    top = with_low (marked n b.low) b

    abbrev pub behind : Body
    behind = low_s f exits t top

    abbrev pub next : Low
    next = marked (suc n) behind.low

    abbrev pub last : Low
    last = row n next

    abbrev pub end : Low
    end = marked (suc (suc n)) last

    module _ (tables : HasTables p f behind) (final : IsFinal p end) where
      last_final : IsFinal p last
      last_final = mark_back p.scene.body.pieces (suc (suc n)) last final

      next_final : IsFinal p next
      next_final = between.back n next last_final

      behind_final : IsFinal p behind.low
      behind_final = mark_back p.scene.body.pieces (suc n) behind.low next_final

      pub top_final : IsFinal p top.low
      top_final = statement_back p.scene.body.pieces f exits t top behind_final

      top_room : p.locals ≤ length top.low.slots
      top_room = room_marked p.locals n b.low le

      pub next_room : p.locals ≤ length next.slots
      next_room = room_marked p.locals (suc n) behind.low (room_stated p.locals f exits t top top_room)

      inner : AreWays p f exits (record { breaks = end; continues = next; labels = y.labels }) true true
      inner = record {
        breaking = λ is. behind_mark p.scene (suc (suc n)) last final;
        continuing = λ is. behind_mark p.scene (suc n) behind.low next_final;
        labelled = ways.labelled;
        begins = ways.begins;
      }

      pub looped : Looped p y e t top.low behind.low next end
      looped = record {
        begins = refl;
        body = body exits (record { breaks = end; continues = next; labels = y.labels }) true true inner within top top_room tables behind_final;
        leads = marks_lead means p frame (suc n) behind.low next_final;
      }

      pub tested : LoweredTest p (λ v. v) does top.low next last
      tested = between.tests n next next_room last_final (label_here p.scene n b.low top_final)

      pub ends : ComesTo p last end
      ends = unpaid p last end (marks_lead means p frame (suc (suc n)) last final)

      pub next_is_behind : IsBehind p.scene (suc n) next
      next_is_behind = behind_mark p.scene (suc n) behind.low next_final

  -- a test
  tested_between : (x : CoreTree) → TestAgrees p f x → Between p (λ k w. test (context p.scene.unit p.scene.lowered.order) x k w) (λ n l. low_test f.context x n true l)
  tested_between x v = record {
    tests = λ n l le final t. test_is_lowered x v n true l le final t;
    back = λ n l final. test_finals_go_back p.scene.body.pieces f.context x n true l final;
  }

  module _ (x : CoreTree) (v : TestAgrees p f x) (t : StmtTree) (body : StatementAgrees p f e t) (z : Exits) (y : Ways) (breaks continues : Bool) (ways : AreWays p f z y breaks continues) (within : GoesWithin f true true t) (b : Body) (le : p.locals ≤ length b.low.slots) where
    abbrev asks : ℕ → c.World → Result
    asks k w = test (context p.scene.unit p.scene.lowered.order) x k w

    abbrev row : ℕ → Low → Low
    row n l = low_test f.context x n true l

    pub while_agrees : HasTables p f (low_s f z (stmt.While x t) b) → IsFinal p (low_s f z (stmt.While x t) b).low → LoweredStmt p y e (stmt.While x t) b.low (low_s f z (stmt.While x t) b).low
    while_agrees tables final =
        let n = b.low.labels in
        let b1 = on_low (λ l. with_label (with_label (with_label l))) b in
        let b2 = on_low (λ l. jumped (suc n) l) b1 in
        let between = tested_between x v in
        let le2 = room_jumped p.locals (suc n) b1.low le in
        let at_top = top (λ k w. asks k w) (λ m l. row m l) between t body z y breaks continues ways within n b2 le2 in
        let after = behind (λ k w. asks k w) (λ m l. row m l) between t body z y breaks continues ways within n b2 le2 in
        let at_next = next (λ k w. asks k w) (λ m l. row m l) between t body z y breaks continues ways within n b2 le2 in
        let at_last = last (λ k w. asks k w) (λ m l. row m l) between t body z y breaks continues ways within n b2 le2 in
        let at_end = end (λ k w. asks k w) (λ m l. row m l) between t body z y breaks continues ways within n b2 le2 in
        let begin = mark_back p.scene.body.pieces n b2.low (top_final (λ k w. asks k w) (λ m l. row m l) between t body z y breaks continues ways within n b2 le2 tables final) in
        enters p y e (stmt.While x t) b.low b1.low at_end (relabels p b.low (suc (suc (suc n))))
        (while_is_lowered p y e x t b1.low at_top.low after.low at_next at_last at_end
        (looped (λ k w. asks k w) (λ m l. row m l) between t body z y breaks continues ways within n b2 le2 tables final)
        (jump_leads (suc n) b1.low at_next le begin (next_is_behind (λ k w. asks k w) (λ m l. row m l) between t body z y breaks continues ways within n b2 le2 tables final))
        (tested (λ k w. asks k w) (λ m l. row m l) between t body z y breaks continues ways within n b2 le2 tables final)
        (ends (λ k w. asks k w) (λ m l. row m l) between t body z y breaks continues ways within n b2 le2 tables final))

    pub do_agrees : HasTables p f (low_s f z (stmt.Do t x) b) → IsFinal p (low_s f z (stmt.Do t x) b).low → LoweredStmt p y e (stmt.Do t x) b.low (low_s f z (stmt.Do t x) b).low
    do_agrees tables final =
        let n = b.low.labels in
        let b1 = on_low (λ l. with_label (with_label (with_label l))) b in
        let between = tested_between x v in
        let at_top = top (λ k w. asks k w) (λ m l. row m l) between t body z y breaks continues ways within n b1 le in
        let after = behind (λ k w. asks k w) (λ m l. row m l) between t body z y breaks continues ways within n b1 le in
        let at_next = next (λ k w. asks k w) (λ m l. row m l) between t body z y breaks continues ways within n b1 le in
        let at_last = last (λ k w. asks k w) (λ m l. row m l) between t body z y breaks continues ways within n b1 le in
        let at_end = end (λ k w. asks k w) (λ m l. row m l) between t body z y breaks continues ways within n b1 le in
        enters p y e (stmt.Do t x) b.low b1.low at_end (relabels p b.low (suc (suc (suc n))))
        (do_is_lowered p y e x t b1.low at_top.low after.low at_next at_last at_end
        (looped (λ k w. asks k w) (λ m l. row m l) between t body z y breaks continues ways within n b1 le tables final)
        (marks_lead means p frame n b1.low (top_final (λ k w. asks k w) (λ m l. row m l) between t body z y breaks continues ways within n b1 le tables final))
        (tested (λ k w. asks k w) (λ m l. row m l) between t body z y breaks continues ways within n b1 le tables final)
        (ends (λ k w. asks k w) (λ m l. row m l) between t body z y breaks continues ways within n b1 le tables final))

  -- ---- for

  -- the last part and the test behind it, of which this label is the place
  last_between : (y : Ways) (x last : Option CoreTree) → MaybeTestAgrees p f x → MaybeAgrees p f last → (here : ℕ)
      → Between p (λ k w. last_and_test (context p.scene.unit p.scene.lowered.order) last x k w) (λ n l. lowered_last f x last here n l)
  last_between y x last v d here = record { tests = λ n l le final t. tests n l le final t; back = λ n l final. back n l final }
    where
      back : (n : ℕ) (l : Low) → IsFinal p (lowered_last f x last here n l) → IsFinal p l
      back n l final =
          maybe_drop_back last l (mark_back p.scene.body.pieces here (maybe_dropped f last l) (maybe_test_back x n (marked here (maybe_dropped f last l)) final))

      tests : (n : ℕ) (l : Low) → p.locals ≤ length l.slots → IsFinal p (lowered_last f x last here n l) → (t : Label p.scene n)
          → LoweredTest p (λ v1. v1) (λ k w. last_and_test (context p.scene.unit p.scene.lowered.order) last x k w) (low_at p.scene n t) l (lowered_last f x last here n l)
      tests n l le final t =
          let l1 = maybe_dropped f last l in
          let at_here = marked here l1 in
          let final1 = maybe_test_back x n at_here final in
          let le1 = maybe_drop_room last l le in
          last_is_lowered p y e last x (low_at p.scene n t) l l1 at_here (lowered_last f x last here n l)
          (maybe_is_dropped last d y l le (mark_back p.scene.body.pieces here l1 final1))
          (unpaid p l1 at_here (marks_lead means p frame here l1 final1))
          (maybe_is_tested x v n at_here (room_marked p.locals here l1 le1) final t)

  module _ (first x last : Option CoreTree) (v1 : MaybeAgrees p f first) (v : MaybeTestAgrees p f x) (v2 : MaybeAgrees p f last) (t : StmtTree) (body : StatementAgrees p f e t) (z : Exits) (y : Ways) (breaks continues : Bool) (ways : AreWays p f z y breaks continues)
      (within : GoesWithin f true true t) (b : Body) (le : p.locals ≤ length b.low.slots) where
    abbrev goes : ℕ → c.World → Result
    goes k w = last_and_test (context p.scene.unit p.scene.lowered.order) last x k w

    pub for_agrees : HasTables p f (low_s f z (stmt.For first x last t) b) → IsFinal p (low_s f z (stmt.For first x last t) b).low → LoweredStmt p y e (stmt.For first x last t) b.low (low_s f z (stmt.For first x last t) b).low
    for_agrees tables final =
        let l0 = maybe_dropped f first b.low in
        let n = l0.labels in
        let b1 = with_low (with_label (with_label (with_label (with_label l0)))) b in
        let here = suc (suc (suc n)) in
        let b2 = on_low (λ l. jumped here l) b1 in
        let between = last_between y x last v v2 here in
        let le0 = maybe_drop_room first b.low le in
        let le2 = room_jumped p.locals here b1.low le0 in
        let at_top = top (λ k w. goes k w) (λ m l. lowered_last f x last here m l) between t body z y breaks continues ways within n b2 le2 in
        let after = behind (λ k w. goes k w) (λ m l. lowered_last f x last here m l) between t body z y breaks continues ways within n b2 le2 in
        let at_next = next (λ k w. goes k w) (λ m l. lowered_last f x last here m l) between t body z y breaks continues ways within n b2 le2 in
        let l3 = maybe_dropped f last at_next in
        let at_here = marked here l3 in
        let at_last = maybe_tested f x n at_here in
        let at_end = marked (suc (suc n)) at_last in
        let final_last = mark_back p.scene.body.pieces (suc (suc n)) at_last final in
        let final_here = maybe_test_back x n at_here final_last in
        let final_top = top_final (λ k w. goes k w) (λ m l. lowered_last f x last here m l) between t body z y breaks continues ways within n b2 le2 tables final in
        let begin = mark_back p.scene.body.pieces n b2.low final_top in
        let final0 = label_back p.scene.body.pieces l0 b1.low.labels (jump_back p.scene.body.pieces here b1.low begin) in
        let le3 = maybe_drop_room last at_next (next_room (λ k w. goes k w) (λ m l. lowered_last f x last here m l) between t body z y breaks continues ways within n b2 le2 tables final) in
        for_is_lowered p y e first x last t b.low l0 at_here at_top.low after.low at_next at_last at_end
        (maybe_is_dropped first v1 y b.low le final0)
        (leads_from p l0 b1.low at_here (relabels p l0 b1.low.labels) (jump_leads here b1.low at_here le0 begin (behind_mark p.scene here l3 final_here)))
        (maybe_is_tested x v n at_here (room_marked p.locals here l3 le3) final_last (label_here p.scene n b2.low final_top))
        (looped (λ k w. goes k w) (λ m l. lowered_last f x last here m l) between t body z y breaks continues ways within n b2 le2 tables final)
        (tested (λ k w. goes k w) (λ m l. lowered_last f x last here m l) between t body z y breaks continues ways within n b2 le2 tables final)
        (ends (λ k w. goes k w) (λ m l. lowered_last f x last here m l) between t body z y breaks continues ways within n b2 le2 tables final)
