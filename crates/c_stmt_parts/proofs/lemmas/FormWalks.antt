-- A statement by its form; and those with no statement and no expression in them.
use Rattle.std.proofs.Common.{◌≡◌, ℕ, List, length, refl, sym, ap, ◌∙◌, subst}
use Rattle.std.specs.Prelude.{Result, Ok, Err, IfOk, IfErr, OnOk}
use Rattle.c_ast.specs.Trees.{NoExpr, StatementTree, Expression, Goto, Continue, Break}
use Rattle.c_ast.specs.declared.statement.Statement.{Statement, out-Statement}
use Rattle.c_ast.specs.declared.statement.StatementForm.{StatementForm}
use Rattle.c_symbols.specs.Scoping.{Scoping}
use Rattle.c_types.specs.CType.{CType}
use Rattle.c_types.specs.Table.{Table, type_at}
use Rattle.c_meaning.specs.StmtTrees.{StmtOf, stmt_of}
use Rattle.c_meaning.specs.StmtTrees as code
use Rattle.c_meaning.specs.declared.core_stmt.CoreStmt.{CoreStmt}
use Rattle.c_meaning.specs.declared.core_stmt.CoreStmt.TheVariants as stmt
use Rattle.c_values.specs.Stays.{grows_itself}
use Rattle.c_values.specs.declared.check_fault.CheckFault.{CheckFault}
use Rattle.c_check_expr.specs.Known.{AreSymbolsIn, state_of}
use Rattle.c_check_expr.specs.Kept.{keeps_itself}
use Rattle.c_check_expr.proofs.lemmas.Walking.{walk_as}
use Rattle.c_meaning.specs.Typing.{Fine}
use Rattle.c_check_decl.specs.Declares.{stmt_in}
use Rattle.c_units.specs.Bodies.{Body as BodyTrees, Typed, Within as WithinTrees, at_stmt, done, goto}
use Rattle.c_units.specs.Statements.{Around as AroundTrees, StmtNode}
use Rattle.c_units.specs.Statements as node
use Rattle.c_stmt_parts.specs.declared.around.Within.{Within}
use Rattle.c_stmt_parts.specs.declared.body.Body.{Body}
use Rattle.c_stmt_parts.specs.Asked.{IsSound, IsToldAt}
use Rattle.c_stmt_parts.specs.BodiesSeen.{IsBodyIn, body_in, within_in}
use Rattle.c_stmt_parts.proofs.lemmas.StatementLayers.{break_seen, break_within, continue_seen, continue_within, nothing_seen, nothing_within}
use Rattle.c_stmt_parts.specs.StatementsIn.{IsCodeIn, WalksStmt, statement_in}
use Rattle.c_stmt_parts.specs.StatementsSeen.{statement_form_seen, statement_parts, statement_seen}
use Rattle.c_stmt_parts.proofs.lemmas.StatementNodes.{break_is, continue_is, goto_is, is_goto_within, nothing_is}
use Rattle.c_stmt_parts.proofs.lemmas.StatementWalks.{node_fine, node_told}

pub statement_as : (f : WithinTrees) (around : AroundTrees) (b : BodyTrees) {s u : Scoping} {a c : Table} (x : Body) (r : Result CoreStmt CheckFault) (v : Statement) (form : StatementForm) (tree : StatementTree) → (out-Statement v).form ≡ form → statement_form_seen form (out-Statement v).line ≡ tree
    → WalksStmt (statement_in f around s a b tree) s a u c x r → WalksStmt (statement_in f around s a b (statement_seen v)) s a u c x r
statement_as f around b {s = s} {u = u} {a = a} {c = c} x r v form tree h k w =
    subst (λ t. WalksStmt (statement_in f around s a b t) s a u c x r) (sym (statement_parts v ∙ ap (λ g. statement_form_seen g (out-Statement v).line) h ∙ k)) w

-- ---- leaves

leaf_walk : (line : ℕ) (n : StmtNode) (tree : StmtOf CType) (full : CoreStmt) (s : Scoping) (a : Table) (x : Body) → AreSymbolsIn (length a.forms) s.symbols → IsBodyIn (length a.forms) x → stmt_in a full ≡ tree → IsCodeIn (length a.forms) (x, full) → (r : Result CoreStmt CheckFault)
    → IfOk r (λ v. v ≡ full) → OnOk r ((t : Table) → IsSound t line n) → IfErr r (λ e. (t : Table) → IsToldAt t line n e) → WalksStmt (at_stmt (state_of s a) line n (done (body_in a x) tree)) s a s a x r
leaf_walk line n tree full s a x known within e i (Ok v) ok sound told =
    subst (λ y. WalksStmt (at_stmt (state_of s a) line n (done (body_in a x) tree)) s a s a x (Ok y)) (sym ok)
    (node_fine line n (done (body_in a x) tree) x full known (grows_itself a) (sound a) (ap (done (body_in a x)) (sym e)) i)
leaf_walk line n tree full s a x known within e i (Err d) ok sound told = node_told d line n (done (body_in a x) tree) x (Err d) refl known (grows_itself a) (told a)

module _ (f : WithinTrees) (around : AroundTrees) (s : Scoping) (a : Table) (x : Body) (line : ℕ) (known : AreSymbolsIn (length a.forms) s.symbols) (within : IsBodyIn (length a.forms) x) where
  pub break_walk : (r : Result CoreStmt CheckFault) → IfOk r (λ v. v ≡ stmt.Break) → OnOk r ((t : Table) → IsSound t line (node.Break around)) → IfErr r (λ e. (t : Table) → IsToldAt t line (node.Break around) e) → WalksStmt (statement_in f around s a (body_in a x) (Break line)) s a s a x r
  break_walk r ok sound told = walk_as _ _ (break_is f around s a (body_in a x) line) (leaf_walk line (node.Break around) code.Break stmt.Break s a x known within (break_seen a) (within, break_within (length a.forms)) r ok sound told)

  pub continue_walk : (r : Result CoreStmt CheckFault) → IfOk r (λ v. v ≡ stmt.Continue) → OnOk r ((t : Table) → IsSound t line (node.Continue around)) → IfErr r (λ e. (t : Table) → IsToldAt t line (node.Continue around) e) → WalksStmt (statement_in f around s a (body_in a x) (Continue line)) s a s a x r
  continue_walk r ok sound told = walk_as _ _ (continue_is f around s a (body_in a x) line) (leaf_walk line (node.Continue around) code.Continue stmt.Continue s a x known within (continue_seen a) (within, continue_within (length a.forms)) r ok sound told)

  pub nothing_walk : WalksStmt (statement_in f around s a (body_in a x) (Expression line NoExpr)) s a s a x (Ok stmt.Nothing)
  nothing_walk =
      record {
        ok = nothing_is f around s a (body_in a x) line ∙ ap (λ c. Fine (state_of s a) (done (body_in a x) c)) (sym (nothing_seen a));
        err = tt;
        within = (within, nothing_within (length a.forms));
        keeps = keeps_itself s a known;
      }

-- a goto, which has no node
pub goto_walk : (w : Within) (around : AroundTrees) (s : Scoping) (a : Table) (x y : Body) (line : ℕ) (name : List ℕ) (full : CoreStmt) → AreSymbolsIn (length a.forms) s.symbols → IsBodyIn (length a.forms) y → ((t : Table) → done (body_in t y) (stmt_in t full) ≡ goto (within_in t w) (body_in t x) name)
    → WalksStmt (statement_in (within_in a w) around s a (body_in a x) (Goto line name)) s a s a y (Ok full)
goto_walk w around s a x y line name full known within e =
    record {
      ok = goto_is (within_in a w) around s a (body_in a x) line name ∙ ap (Fine (state_of s a)) (sym (e a));
      err = tt;
      within = (within, is_goto_within (type_at a) (stmt_of full) _ (length a.forms) (ap (λ (t : Typed (StmtOf CType)). t.code) (e a)));
      keeps = keeps_itself s a known;
    }
