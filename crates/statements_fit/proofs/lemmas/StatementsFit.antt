-- What statements are lowered to fits.
use Rattle.std.specs.Prelude.{List, slice_get}
use Rattle.op_forest.specs.declared.frame.Slot.{Slot}
use Rattle.c_meaning.specs.StmtTrees as stmt
use Rattle.lowered_forms.specs.Lows.{marked}
use Rattle.lowered_fit.specs.States.{IsFitState, IsWider, IsFitAfter, FitsContext}
use Rattle.lowered_fit.proofs.lemmas.Operands.{after_behind, jumped_fits, marked_fits}
use Rattle.lowered_statements.specs.Bodies.{Body, with_low}
use Rattle.lowered_statements.specs.Functions.{Function, Exits, label_at}
use Rattle.lowered_statements.specs.Statements.{StmtTree, StmtTrees, is_nothing, low_s, low_all}
use Rattle.statements_fit.specs.Statements.{FitsStmt, FitsStmts}
use Rattle.statements_fit.proofs.lemmas.Filling.{initialised_fits}
use Rattle.statements_fit.proofs.lemmas.Rows.{dropped_fits, return_fits, choice_fits, while_fits, do_fits, for_fits, switch_fits}

module _ (f : Function) (slots : List Slot) (places : FitsContext f.context slots) where
  mutual
    pub statement_fits : (y : Exits) (t : StmtTree) → FitsStmt f slots t → (b : Body) → IsWider slots b.low.slots → IsFitState b.low → IsFitAfter b.low (low_s f y t b).low
    statement_fits y stmt.Nothing k b w h = record { state = h; wide = λ z e. e }
    statement_fits y (stmt.Expression e) k b w h = dropped_fits f slots places e k b.low w h
    statement_fits y (stmt.Initialise local clears ps) k b w h = initialised_fits f slots places local (slice_get f.locals local) clears ps b.low k w h
    statement_fits y (stmt.Block first locals ts) k b w h = statements_fit_all y ts k b w h
    statement_fits y (stmt.If e t u) k b w h =
        choice_fits f slots places (is_nothing u) e k.0 (λ d. low_s f y t d) (λ d. low_s f y u d) (λ d i j. statement_fits y t k.1 d i j) (λ d i j. statement_fits y u k.2 d i j) b w h
    statement_fits y (stmt.While e t) k b w h = while_fits f slots places e k.0 (λ x d. low_s f x t d) (λ x d i j. statement_fits x t k.1 d i j) b w h
    statement_fits y (stmt.Do t e) k b w h = do_fits f slots places e k.1 (λ x d. low_s f x t d) (λ x d i j. statement_fits x t k.0 d i j) b w h
    statement_fits y (stmt.For first test last t) k b w h =
        for_fits f slots places first test last k.0 k.1 k.2 (λ x d. low_s f x t d) (λ x d i j. statement_fits x t k.3 d i j) b w h
    statement_fits y (stmt.Switch e cases default t) k b w h =
        switch_fits f slots places e k.0 cases default k.1 (λ x d. low_s f x t d) (λ x d i j. statement_fits x t k.2 d i j) y b w h
    statement_fits y (stmt.Label n t) k b w h =
        let m = with_low (marked (label_at f n) b.low) b in
        let a = marked_fits (label_at f n) b.low h in
        after_behind b.low m.low (low_s f y t m).low a.wide (statement_fits y t k m (λ z e. a.wide z (w z e)) a.state)
    statement_fits y (stmt.Goto n) k b w h = jumped_fits (label_at f n) b.low h
    statement_fits y stmt.Break k b w h = jumped_fits y.breaks b.low h
    statement_fits y stmt.Continue k b w h = jumped_fits y.continues b.low h
    statement_fits y (stmt.Return e) k b w h = return_fits f slots places e k b.low w h

    statements_fit_all : (y : Exits) (ts : StmtTrees) → FitsStmts f slots ts → (b : Body) → IsWider slots b.low.slots → IsFitState b.low → IsFitAfter b.low (low_all f y ts b).low
    statements_fit_all y stmt.NoStmt k b w h = record { state = h; wide = λ z e. e }
    statements_fit_all y (stmt.Stmts t ts) k b w h =
        let m = low_s f y t b in
        let a = statement_fits y t k.0 b w h in
        after_behind b.low m.low (low_all f y ts m).low a.wide (statements_fit_all y ts k.1 m (λ z e. a.wide z (w z e)) a.state)

pub statements_fit : (f : Function) (slots : List Slot) (y : Exits) (t : StmtTree) (b : Body) → FitsContext f.context slots → FitsStmt f slots t → IsWider slots b.low.slots → IsFitState b.low
    → IsFitAfter b.low (low_s f y t b).low
statements_fit f slots y t b c k w h = statement_fits f slots c y t k b w h
