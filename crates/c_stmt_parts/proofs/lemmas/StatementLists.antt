-- Statements one behind the other: what came of the front of the list, and what is left.
use Rattle.std.proofs.Common.{◌≡◌, ℕ, ◌+◌, ◌<◌, ◌≤◌, List, [], ◌∷◌, ◌++◌, length, get_or, drop, map, refl, sym, ap, ◌∙◌, subst}
use Rattle.std.specs.Prelude.{Result, Ok, Err, IsErrAnd}
use Rattle.c_ast.specs.Trees.{StatementTrees}
use Rattle.c_ast.specs.UnitViews.{statements_of}
use Rattle.c_ast.specs.declared.statement.Statement.{Statement}
use Rattle.c_symbols.specs.Scoping.{Scoping}
use Rattle.c_types.specs.CType.{CType}
use Rattle.c_types.specs.Table.{Table}
use Rattle.c_meaning.specs.State.{State}
use Rattle.c_meaning.specs.StmtTrees.{StmtOf, StmtsOf, NoStmt, Stmts}
use Rattle.c_meaning.specs.Typing.{Outcome, Fine, then_do}
use Rattle.c_meaning.specs.declared.core_stmt.CoreStmt.{CoreStmt}
use Rattle.c_values.specs.declared.check_fault.CheckFault.{CheckFault}
use Rattle.c_check_expr.specs.Keeps.{Keeps}
use Rattle.c_check_expr.specs.Known.{AreSymbolsIn, state_of}
use Rattle.c_check_expr.proofs.lemmas.Walking.{passed, walk_stop}
use Rattle.c_check_expr.proofs.lemmas.WalkLists.{Going, folded, going_ends, going_on, going_starts, going_stops, then_fine, then_same, then_then}
use Rattle.c_check_expr.specs.Walks.{Walks}
use Rattle.c_check_decl.specs.Declares.{stmt_in}
use Rattle.c_units.specs.Bodies.{Typed, Within as WithinTrees, all_typed_stmts, done, joined, typed_stmt}
use Rattle.c_units.specs.Statements.{Around as AroundTrees}
use Rattle.c_stmt_parts.specs.declared.around.Within.{Within}
use Rattle.c_stmt_parts.specs.declared.body.Body.{Body}
use Rattle.c_stmt_parts.specs.BodiesSeen.{IsBodyIn, body_in, within_in}
use Rattle.c_stmt_parts.proofs.lemmas.BodiesStay.{statements_later, statements_stay, within_stays}
use Rattle.c_stmt_parts.specs.StatementsIn.{AreCodesIn, AreStmtsBelow, WalksStmt, WalksStmts, codes_in, statement_in, statements_in, stmts_in, with_body}
use Rattle.c_stmt_parts.specs.StatementsSeen.{statement_seen}
use Rattle.c_stmt_parts.proofs.lemmas.StatementWalks.{with_err}

-- ---- statements behind others

abbrev then_stmts : StmtsOf CType → StmtsOf CType → StmtsOf CType
then_stmts NoStmt ys = ys
then_stmts (Stmts s ss) ys = Stmts s (then_stmts ss ys)

then_none : (ss : StmtsOf CType) → then_stmts ss NoStmt ≡ ss
then_none NoStmt = refl
then_none (Stmts s ss) = ap (Stmts s) (then_none ss)

then_one : (ss : StmtsOf CType) (s : StmtOf CType) (ys : StmtsOf CType) → then_stmts (then_stmts ss (Stmts s NoStmt)) ys ≡ then_stmts ss (Stmts s ys)
then_one NoStmt s ys = refl
then_one (Stmts x ss) s ys = ap (Stmts x) (then_one ss s ys)

one_behind : (t : Table) (ss : List CoreStmt) (s : CoreStmt) → stmts_in t (ss ++ s ∷ []) ≡ then_stmts (stmts_in t ss) (Stmts (stmt_in t s) NoStmt)
one_behind t [] s = refl
one_behind t (x ∷ ss) s = ap (Stmts (stmt_in t x)) (one_behind t ss s)

pub below_behind : (n : ℕ) (xs ys : List CoreStmt) → AreStmtsBelow n xs → AreStmtsBelow n ys → AreStmtsBelow n (xs ++ ys)
below_behind n [] ys i j = j
below_behind n (x ∷ xs) ys i j = (i.0, below_behind n xs ys i.1 j)

-- ---- a list by steps

abbrev trees : List Statement → StatementTrees
trees xs = statements_of (map statement_seen xs)

abbrev behind : Typed (StmtsOf CType) → Typed (StmtsOf CType) → Typed (StmtsOf CType)
behind p q = done q.body (then_stmts p.code q.code)

module _ (f : WithinTrees) (around : AroundTrees) where
  abbrev step : State → Typed (StmtsOf CType) → Statement → Outcome (Typed (StmtsOf CType))
  step s p x = then_do (typed_stmt f around s p.body (statement_seen x)) (λ m t. Fine m (done t.body (then_stmts p.code (Stmts t.code NoStmt))))

  -- what is typed of all of them, behind what came of others
  statements_folded : (s : State) (p : Typed (StmtsOf CType)) (xs : List Statement) → folded step s p xs ≡ then_do (all_typed_stmts f around s p.body (trees xs)) (λ u q. Fine u (behind p q))
  statements_folded s p [] = ap (λ c. Fine s (done p.body c)) (sym (then_none p.code))
  statements_folded s p (x ∷ xs) =
      then_then (typed_stmt f around s p.body (statement_seen x)) (λ m t. Fine m (done t.body (then_stmts p.code (Stmts t.code NoStmt)))) (λ m u. folded step m u xs)
      ∙ then_same (typed_stmt f around s p.body (statement_seen x)) (λ m t. folded step m (done t.body (then_stmts p.code (Stmts t.code NoStmt))) xs) (λ m t. then_do (all_typed_stmts f around m t.body (trees xs)) (λ u q. Fine u (behind p (joined t q))))
      (λ m t. statements_folded m (done t.body (then_stmts p.code (Stmts t.code NoStmt))) xs
      ∙ then_same (all_typed_stmts f around m t.body (trees xs)) (λ u q. Fine u (done q.body (then_stmts (then_stmts p.code (Stmts t.code NoStmt)) q.code))) (λ u q. Fine u (behind p (joined t q))) (λ u q. ap (λ c. Fine u (done q.body c)) (then_one p.code t.code q.code)))
      ∙ sym (then_then (typed_stmt f around s p.body (statement_seen x)) (λ m t. then_do (all_typed_stmts f around m t.body (trees xs)) (λ u q. Fine u (joined t q))) (λ u q. Fine u (behind p q))
      ∙ then_same (typed_stmt f around s p.body (statement_seen x)) (λ m t. then_do (then_do (all_typed_stmts f around m t.body (trees xs)) (λ u q. Fine u (joined t q))) (λ u q. Fine u (behind p q)))
      (λ m t. then_do (all_typed_stmts f around m t.body (trees xs)) (λ u q. Fine u (behind p (joined t q))))
      (λ m t. then_then (all_typed_stmts f around m t.body (trees xs)) (λ u q. Fine u (joined t q)) (λ u q. Fine u (behind p q))))

-- ---- the loop

unfoldable pub StatementsGoing : Within → AroundTrees → Scoping → Table → Body → List Statement → Scoping → Table → Body → List CoreStmt → List Statement → Type 0
StatementsGoing w around r a x list s t y codes left = Going codes_in AreCodesIn (step (within_in a w) around) (all_typed_stmts (within_in a w) around (state_of r a) (body_in a x) (trees list)) r a s t (y, codes) left

module _ (w : Within) (around : AroundTrees) (r : Scoping) (a : Table) (x : Body) (list : List Statement) where
  abbrev f : WithinTrees
  f = within_in a w

  abbrev whole : Outcome (Typed (StmtsOf CType))
  whole = all_typed_stmts f around (state_of r a) (body_in a x) (trees list)

  pub statements_start : AreSymbolsIn (length a.forms) r.symbols → IsBodyIn (length a.forms) x → StatementsGoing w around r a x list r a x [] list
  unfolding StatementsGoing
  statements_start i k =
      going_starts codes_in AreCodesIn (step f around) whole r a (x, []) list i (k, tt)
      (sym (statements_folded f around (state_of r a) (codes_in a (x, [])) list ∙ then_fine whole))

  module _ (s : Scoping) (t : Table) (y : Body) (codes : List CoreStmt) (k : ℕ) (item : Statement) (l : k < length list) (is : item ≡ get_or list k item) (going : StatementsGoing w around r a x list s t y codes (drop k list)) (below : w.result < length a.forms) (extended : Keeps r a s t) where
    one_same : statement_in (within_in t w) around s t (body_in t y) (statement_seen item) ≡ typed_stmt f around (state_of s t) (body_in t y) (statement_seen item)
    unfolding statement_in
    one_same = ap (λ (g : WithinTrees). typed_stmt g around (state_of s t) (body_in t y) (statement_seen item)) (within_stays a t extended.extends w below)

    one_more : (u : Scoping) (c : Table) (z : Body) (code : CoreStmt) → AreStmtsBelow (length t.forms) codes → WalksStmt (typed_stmt f around (state_of s t) (body_in t y) (statement_seen item)) s t u c z (Ok code)
        → Walks codes_in AreCodesIn (step f around (state_of s t) (codes_in t (y, codes)) item) s t u c (Ok (z, codes ++ code ∷ []))
    one_more u c z code i h =
        record {
          ok = ap (λ o. then_do o (λ m v. Fine m (done v.body (then_stmts (stmts_in t codes) (Stmts v.code NoStmt))))) h.ok
              ∙ ap (λ v. Fine (state_of u c) (done (body_in c z) (then_stmts v (Stmts (stmt_in c code) NoStmt)))) (sym (statements_stay t c h.keeps.extends codes i))
              ∙ ap (λ v. Fine (state_of u c) (done (body_in c z) v)) (sym (one_behind c codes code));
          err = tt;
          within = (h.within.0, below_behind (length c.forms) codes (code ∷ []) (statements_later t c h.keeps.extends codes i) (h.within.1, tt));
          keeps = h.keeps;
        }

    pub statements_on : (u : Scoping) (c : Table) (z : Body) (code : CoreStmt) (more : List CoreStmt) → more ≡ codes ++ code ∷ [] → WalksStmt (statement_in (within_in t w) around s t (body_in t y) (statement_seen item)) s t u c z (Ok code) → StatementsGoing w around r a x list u c z more (drop (k + 1) list)
    unfolding StatementsGoing
    statements_on u c z code more e h =
        subst (λ v. Going codes_in AreCodesIn (step f around) whole r a u c (z, v) (drop (k + 1) list)) (sym e)
        (going_on codes_in AreCodesIn (step f around) whole r a s u t c (y, codes) (z, codes ++ code ∷ []) list k item l is going
        (one_more u c z code going.within.1 (subst (λ o. WalksStmt o s t u c z (Ok code)) one_same h)))

    pub statements_stop : (u : Scoping) (c : Table) (z : Body) (d : CheckFault) (q : Result (List CoreStmt) CheckFault) → IsErrAnd q (λ e. e ≡ d) → WalksStmt (statement_in (within_in t w) around s t (body_in t y) (statement_seen item)) s t u c z (Err d)
        → WalksStmts (statements_in f around r a (body_in a x) (trees list)) r a u c z q
    unfolding StatementsGoing statements_in
    statements_stop u c z d q g h =
        passed (with_body z q) (with_err _ z q g) (going_stops codes_in AreCodesIn (step f around) whole r a s u t c (y, codes) list k item d l is going
        (walk_stop codes_in AreCodesIn (typed_stmt f around (state_of s t) (body_in t y) (statement_seen item)) (λ m v. Fine m (done v.body (then_stmts (stmts_in t codes) (Stmts v.code NoStmt)))) s u t c d
        (subst (λ o. WalksStmt o s t u c z (Err d)) one_same h)))

  pub statements_end : (s : Scoping) (t : Table) (y : Body) (codes : List CoreStmt) (k : ℕ) → length list ≤ k → StatementsGoing w around r a x list s t y codes (drop k list) → WalksStmts (statements_in f around r a (body_in a x) (trees list)) r a s t y (Ok codes)
  unfolding StatementsGoing statements_in
  statements_end s t y codes k l g = going_ends codes_in AreCodesIn (step f around) whole r a s t (y, codes) list k l g
