-- Statements agree, by induction over them.
use Rattle.std.specs.Prelude.{◌≡◌, ◌≤◌, ℕ, Bool, true, false, IfSome, Option, Some, None, List, length}
use Rattle.std.proofs.Common.{refl}
use Rattle.std.specs.List.{AllByRecursion}
use Rattle.c_meaning.specs.declared.core_stmt.CoreCase.{CoreCase}
use Rattle.c_meaning.specs.StmtTrees as stmt
use Rattle.c_meaning.specs.Types.{is_record}
use Rattle.c_meaning.specs.Units.{are_among, is_among, labels}
use Rattle.c_meaning.specs.Values.{CoreTree}
use Rattle.c_runs.specs.Soundness.{EvalStaysSound}
use Rattle.dag_seam.specs.SplitLaws.{TurnsMean}
use Rattle.lowered_forms.specs.Lows.{Low, jumped, marked}
use Rattle.lowered_statements.specs.Bodies.{Body, with_low}
use Rattle.lowered_statements.specs.Functions.{Function, Exits, label_at}
use Rattle.lowered_statements.specs.Returns.{return_row}
use Rattle.lowered_statements.specs.Statements.{StmtTree, StmtTrees, low_s, low_all}
use Rattle.lowered_labels.specs.Used.{IsOwn, GoesWithin, AllGoWithin}
use Rattle.c_straight_agree.specs.Narrow.{CharsAreNarrow, ShortsAreNarrow}
use Rattle.c_tests_agree.specs.Tested.{AreMarkedOnce}
use Rattle.c_stmt_agreement.specs.Comings.{Activation, HasFrame, Ways, Ending}
use Rattle.c_stmt_agreement.specs.Laws.{IsFinal}
use Rattle.c_stmt_agreement.specs.LoweredStmt.{LoweredStmt, LoweredStmts, ComesTo}
use Rattle.c_stmt_agreement.proofs.lemmas.Blocks.{block_is_lowered}
use Rattle.c_stmt_agreement.proofs.lemmas.Choices.{came_there}
use Rattle.c_stmt_agreement.proofs.lemmas.Leading.{marks_lead}
use Rattle.c_stmt_agreement.proofs.lemmas.Sequences.{nothing_is_lowered, no_statement_is_lowered, break_is_lowered, continue_is_lowered, goto_is_lowered, label_is_lowered, sequence_is_lowered}
use Rattle.c_stmt_agreement.proofs.lemmas.Switches.{switch_is_lowered}
use Rattle.c_stmts_agree.specs.Parts.{ReturnAgreesBy, SearchAgrees, PartsAgree, AllPartsAgree, search_row, search_end}
use Rattle.c_stmts_agree.specs.Tables.{HasTables}
use Rattle.c_stmts_agree.specs.Ways.{IsBehind, AreWays, IsEnding}
use Rattle.c_stmts_agree.proofs.lemmas.Backing.{statement_back, sequence_back, statement_has, sequence_has, mark_back, room_marked, room_stated, room_searched}
use Rattle.c_stmts_agree.proofs.lemmas.Places.{label_here, behind_mark, moves_behind, moves_come}
use Rattle.c_stmts_agree.proofs.lemmas.Returning.{empty_return_agrees, scalar_return_agrees}
use Rattle.c_stmts_agree.proofs.lemmas.Rows.{enters, unpaid, StatementAgrees, jump_leads, value_is_dropped, choice_agrees, while_agrees, do_agrees, for_agrees}

-- where one place leads to another one, it comes to any that is the same
then_comes : (p : Activation) (a b d : Low) → ComesTo p a b → ComesTo p b d → ComesTo p a d
then_comes p a b d comes more o k at = came_there p o b d more o.old k (comes o k at)

module _ (chars : CharsAreNarrow) (shorts : ShortsAreNarrow) (means : TurnsMean) (evals : EvalStaysSound) (p : Activation) (frame : HasFrame p) (once : AreMarkedOnce p.scene.body) (f : Function) (e : Ending) (ending : IsEnding f e) where
  -- ---- returns

  return_by : (x : CoreTree) (is : Bool) → is_record f.result ≡ is → ReturnAgreesBy is p f e x → (y : Ways) (l : Low) → p.locals ≤ length l.slots → IsFinal p (return_row f (Some x) l) → LoweredStmt p y e (stmt.Return (Some x)) l (return_row f (Some x) l)
  return_by x true is h y l le final = h y l le final
  return_by x false is h y l le final = scalar_return_agrees chars shorts means p frame evals f e (ending.copy is) x h y l le is final

  -- ---- labels

  label_agrees : (n : ℕ) (t : StmtTree) (x : Exits) (y : Ways) (b : Body) → IsBehind p.scene (label_at f n) (y.labels n) → IsFinal p (low_s f x (stmt.Label n t) b).low
      → LoweredStmt p y e t (marked (label_at f n) b.low) (low_s f x (stmt.Label n t) b).low → LoweredStmt p y e (stmt.Label n t) b.low (low_s f x (stmt.Label n t) b).low
  label_agrees n t x y b own final h =
      let m = label_at f n in
      let here = marked m b.low in
      let b1 = with_low here b in
      let final1 = statement_back p.scene.body.pieces f x t b1 final in
      let mine = behind_mark p.scene m b.low final1 in
      label_is_lowered p y e n t b.low (low_s f x t b1).low
      (then_comes p b.low here (y.labels n) (unpaid p b.low here (marks_lead means p frame m b.low final1)) (moves_come p here (y.labels n) (moves_behind p once m here (y.labels n) mine own)))
      (enters p y e t (y.labels n) here (low_s f x t b1).low (moves_behind p once m (y.labels n) here own mine) h)

  -- ---- switches

  switch_agrees : (v : CoreTree) (cases : List CoreCase) (default : Option ℕ) (t : StmtTree) → SearchAgrees p f v cases default → are_among cases (labels t) ≡ true → IfSome default (λ n. is_among n (labels t) ≡ true)
      → StatementAgrees p f e t → (x : Exits) (y : Ways) (breaks continues : Bool) → AreWays p f x y breaks continues
      → AllByRecursion (λ c. IsOwn f c.label) cases → IfSome default (IsOwn f) → GoesWithin f true continues t → (b : Body) → p.locals ≤ length b.low.slots → HasTables p f (low_s f x (stmt.Switch v cases default t) b) → IsFinal p (low_s f x (stmt.Switch v cases default t) b).low → LoweredStmt p y e (stmt.Switch v cases default t) b.low (low_s f x (stmt.Switch v cases default t) b).low
  switch_agrees v cases default t search among with_default h x y breaks continues ways own own_default within b le tables final =
      let n = search_end f v b in
      let b1 = search_row f v cases default b in
      let exits : Exits = record { breaks = n; continues = x.continues } in
      let b2 = low_s f exits t b1 in
      let end = marked n b2.low in
      let final2 = mark_back p.scene.body.pieces n b2.low final in
      let final1 = statement_back p.scene.body.pieces f exits t b1 final2 in
      let inside : Ways = record { breaks = end; continues = y.continues; labels = y.labels } in
      let inner : AreWays p f exits inside true continues = record { breaking = λ is. behind_mark p.scene n b2.low final; continuing = ways.continuing; labelled = ways.labelled; begins = ways.begins } in
      switch_is_lowered p y e end t b1.low b2.low
      (h exits inside true continues inner within b1 (room_searched p.locals f v cases default b le) tables final2)
      (unpaid p b2.low end (marks_lead means p frame n b2.low final))
      cases default among with_default v b.low
      (search own own_default y ways.labelled b le (statement_has p f exits t b1 tables) final1 (label_here p.scene n b2.low final))

  -- ---- the induction

  mutual
    pub statement_agrees : (t : StmtTree) → PartsAgree p f e t → (x : Exits) (y : Ways) (breaks continues : Bool) → AreWays p f x y breaks continues → GoesWithin f breaks continues t → (b : Body) → p.locals ≤ length b.low.slots → HasTables p f (low_s f x t b) → IsFinal p (low_s f x t b).low
        → LoweredStmt p y e t b.low (low_s f x t b).low
    statement_agrees stmt.Nothing h x y breaks continues ways within b le tables final = nothing_is_lowered p y e b.low
    statement_agrees (stmt.Expression v) h x y breaks continues ways within b le tables final = value_is_dropped chars shorts means evals p frame once f e v h y b.low le final
    statement_agrees (stmt.Initialise local clears places) h x y breaks continues ways within b le tables final = h y b.low le final
    statement_agrees (stmt.Block first locals ts) h x y breaks continues ways within b le tables final =
        block_is_lowered p y e ts b.low (low_all f x ts b).low ways.begins (sequence_agrees ts h x y breaks continues ways within b le tables final) first locals
    statement_agrees (stmt.If v t u) h x y breaks continues ways within b le tables final =
        choice_agrees chars shorts means evals p frame once f e v h.0 t u (statement_agrees t h.1.0) (statement_agrees u h.1.1) x y breaks continues ways within.0 within.1 b le tables final
    statement_agrees (stmt.While v t) h x y breaks continues ways within b le tables final =
        while_agrees chars shorts means evals p frame once f e v h.0 t (statement_agrees t h.1) x y breaks continues ways within b le tables final
    statement_agrees (stmt.Do t v) h x y breaks continues ways within b le tables final =
        do_agrees chars shorts means evals p frame once f e v h.1 t (statement_agrees t h.0) x y breaks continues ways within b le tables final
    statement_agrees (stmt.For first test last t) h x y breaks continues ways within b le tables final =
        for_agrees chars shorts means evals p frame once f e first test last h.0 h.1.0 h.1.1.0 t (statement_agrees t h.1.1.1) x y breaks continues ways within b le tables final
    statement_agrees (stmt.Switch v cases default t) h x y breaks continues ways within b le tables final =
        switch_agrees v cases default t h.0 h.1.0 h.1.1.0 (statement_agrees t h.1.1.1) x y breaks continues ways within.0.0 within.0.1 within.1 b le tables final
    statement_agrees (stmt.Label n t) h x y breaks continues ways within b le tables final =
        label_agrees n t x y b (ways.labelled n within.0) final
        (statement_agrees t h x y breaks continues ways within.1 (with_low (marked (label_at f n) b.low) b) (room_marked p.locals (label_at f n) b.low le) tables final)
    statement_agrees (stmt.Goto n) h x y breaks continues ways within b le tables final =
        goto_is_lowered p y e n b.low (jumped (label_at f n) b.low) (jump_leads chars shorts means evals p frame once f e (label_at f n) b.low (y.labels n) le final (ways.labelled n within))
    statement_agrees stmt.Break h x y breaks continues ways within b le tables final =
        break_is_lowered p y e b.low (jumped x.breaks b.low) (unpaid p b.low y.breaks (jump_leads chars shorts means evals p frame once f e x.breaks b.low y.breaks le final (ways.breaking within)))
    statement_agrees stmt.Continue h x y breaks continues ways within b le tables final =
        continue_is_lowered p y e b.low (jumped x.continues b.low) (jump_leads chars shorts means evals p frame once f e x.continues b.low y.continues le final (ways.continuing within))
    statement_agrees (stmt.Return None) h x y breaks continues ways within b le tables final = empty_return_agrees chars shorts means p frame f e ending.zero y b.low le final
    statement_agrees (stmt.Return (Some v)) h x y breaks continues ways within b le tables final = return_by v (is_record f.result) refl h y b.low le final

    pub sequence_agrees : (ts : StmtTrees) → AllPartsAgree p f e ts → (x : Exits) (y : Ways) (breaks continues : Bool) → AreWays p f x y breaks continues → AllGoWithin f breaks continues ts → (b : Body) → p.locals ≤ length b.low.slots → HasTables p f (low_all f x ts b) → IsFinal p (low_all f x ts b).low
        → LoweredStmts p y e ts b.low (low_all f x ts b).low
    sequence_agrees stmt.NoStmt h x y breaks continues ways within b le tables final = no_statement_is_lowered p y e b.low
    sequence_agrees (stmt.Stmts t ts) h x y breaks continues ways within b le tables final =
        let b1 = low_s f x t b in
        sequence_is_lowered p y e t ts b.low b1.low (low_all f x ts b1).low
        (statement_agrees t h.0 x y breaks continues ways within.0 b le (sequence_has p f x ts b1 tables) (sequence_back p.scene.body.pieces f x ts b1 final))
        (sequence_agrees ts h.1 x y breaks continues ways within.1 b1 (room_stated p.locals f x t b le) tables final)
