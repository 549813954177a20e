-- Statements of one expression: an expression that is evaluated, and what is returned.
use Rattle.std.proofs.Common.{◌≡◌, ℕ, ◌<◌, Option, None, length, sym, ap, subst}
use Rattle.std.specs.Prelude.{Result, Ok, Err, IsErrAnd}
use Rattle.c_ast.specs.Seen.{maybe_expr_seen}
use Rattle.c_ast.specs.declared.expr.Expr.{Expr}
use Rattle.c_ast.specs.Trees.{AnExpr, Expression, ExprTree, MaybeExpr, Return}
use Rattle.c_symbols.specs.Scoping.{Scoping}
use Rattle.c_types.specs.Table.{Table, Grows, type_at}
use Rattle.c_meaning.specs.CoreTrees.{CoreOf, IsIn}
use Rattle.c_meaning.specs.StmtTrees.{IsSomeIn}
use Rattle.c_meaning.specs.StmtTrees as code
use Rattle.c_meaning.specs.Values.{value}
use Rattle.c_meaning.specs.declared.core_stmt.CoreStmt.{CoreStmt}
use Rattle.c_meaning.specs.declared.core_stmt.CoreStmt.TheVariants as stmt
use Rattle.c_values.specs.Stays.{extends_on}
use Rattle.c_values.specs.declared.check_fault.CheckFault.{CheckFault}
use Rattle.c_check_expr.specs.Known.{AreSymbolsIn}
use Rattle.c_check_expr.specs.PartsSeen.{IsSizeIn, size_seen}
use Rattle.c_check_expr.specs.TypedIn.{expr_in, maybe_expr_in}
use Rattle.c_check_expr.specs.Walks.{Walks, core}
use Rattle.c_units.specs.Bodies.{done, returned}
use Rattle.c_units.specs.Statements.{Around as AroundTrees}
use Rattle.c_units.specs.Statements as node
use Rattle.c_stmt_parts.specs.declared.around.Within.{Within}
use Rattle.c_stmt_parts.specs.declared.body.Body.{Body}
use Rattle.c_stmt_parts.specs.Asked.{IsSound, IsToldAt, maybe_core}
use Rattle.c_stmt_parts.specs.BodiesSeen.{IsBodyIn, body_in, within_in}
use Rattle.c_stmt_parts.specs.StatementsIn.{WalksStmt, statement_in}
use Rattle.c_stmt_parts.proofs.lemmas.FormWalks.{nothing_walk}
use Rattle.c_stmt_parts.proofs.lemmas.HeadWalks.{maybe_walk}
use Rattle.c_stmt_parts.proofs.lemmas.StatementNodes.{evaluate_is, expression_code, expression_code_within, return_code, return_code_within, return_is}
use Rattle.c_stmt_parts.proofs.lemmas.StatementWalks.{single_goes, single_stops, single_told}

-- ---- an expression

module _ (w : Within) (around : AroundTrees) (s : Scoping) (a : Table) (x : Body) (line : ℕ) (e : ExprTree) where
  pub evaluate_stops : {u : Scoping} {c : Table} {d : CheckFault} (r : Result CoreStmt CheckFault) → IsErrAnd r (λ y. y ≡ d) → Walks core IsIn (expr_in s a e) s a u c (Err d) → WalksStmt (statement_in (within_in a w) around s a (body_in a x) (Expression line (AnExpr e))) s a u c x r
  evaluate_stops r h p = single_stops (expr_in s a e) line (λ m. node.Expression m) (λ m. done (body_in a x) (code.Expression (value m))) (evaluate_is (within_in a w) around s a (body_in a x) line e) x r h p

  module _ {m : Scoping} {t : Table} {v : CoreOf ℕ} (first : Walks core IsIn (expr_in s a e) s a m t (Ok v)) where
    pub evaluate_told : {q : Table} (d : CheckFault) (r : Result CoreStmt CheckFault) → IsErrAnd r (λ y. y ≡ d) → Grows t q → IsToldAt t line (node.Expression (core t v)) d → WalksStmt (statement_in (within_in a w) around s a (body_in a x) (Expression line (AnExpr e))) s a m q x r
    evaluate_told d r h g told = single_told (expr_in s a e) line (λ m. node.Expression m) (λ m. done (body_in a x) (code.Expression (value m))) (evaluate_is (within_in a w) around s a (body_in a x) line e) first d x r h g told

    pub evaluate_goes : {q : Table} (i : IsBodyIn (length a.forms) x) (full : CoreOf ℕ) → Grows t q → IsSound t line (node.Expression (core t v)) → core q full ≡ value (core t v) → IsIn (length q.forms) full → WalksStmt (statement_in (within_in a w) around s a (body_in a x) (Expression line (AnExpr e))) s a m q x (Ok (stmt.Expression full))
    evaluate_goes {q = q} i full g sound k within =
        let h = extends_on a t q first.keeps.extends g.extends in
        single_goes (expr_in s a e) line (λ m. node.Expression m) (λ m. done (body_in a x) (code.Expression (value m))) (evaluate_is (within_in a w) around s a (body_in a x) line e) first x (stmt.Expression full) g sound
        (expression_code a q h x i (value (core t v)) full k) (expression_code_within a q h x i full within)

-- no expression
pub evaluate_none : (w : Within) (around : AroundTrees) (s : Scoping) (a : Table) (x : Body) (line : ℕ) (e : Option Expr) → e ≡ None → AreSymbolsIn (length a.forms) s.symbols → IsBodyIn (length a.forms) x
    → WalksStmt (statement_in (within_in a w) around s a (body_in a x) (Expression line (maybe_expr_seen e))) s a s a x (Ok stmt.Nothing)
evaluate_none w around s a x line e h known within =
    subst (λ m. WalksStmt (statement_in (within_in a w) around s a (body_in a x) (Expression line m)) s a s a x (Ok stmt.Nothing)) (sym (ap maybe_expr_seen h)) (nothing_walk (within_in a w) around s a x line known within)

-- ---- what is returned

module _ (w : Within) (around : AroundTrees) (s : Scoping) (a : Table) (x : Body) (line : ℕ) (e : MaybeExpr) where
  pub return_stops : {u : Scoping} {c : Table} {d : CheckFault} (r : Result CoreStmt CheckFault) → IsErrAnd r (λ y. y ≡ d) → Walks size_seen IsSizeIn (maybe_expr_in s a e) s a u c (Err d) → WalksStmt (statement_in (within_in a w) around s a (body_in a x) (Return line e)) s a u c x r
  return_stops r h p = single_stops (maybe_expr_in s a e) line (λ m. node.Return (type_at a w.result) m) (λ m. done (body_in a x) (code.Return (returned (type_at a w.result) m))) (return_is (within_in a w) around s a (body_in a x) line e) x r h p

  module _ {m : Scoping} {t : Table} {v : Option (CoreOf ℕ)} (below : w.result < length a.forms) (first : Walks size_seen IsSizeIn (maybe_expr_in s a e) s a m t (Ok v)) where
    same : type_at t w.result ≡ type_at a w.result
    same = first.keeps.extends.types_stay w.result below

    pub return_told : {q : Table} (d : CheckFault) (r : Result CoreStmt CheckFault) → IsErrAnd r (λ y. y ≡ d) → Grows t q → IsToldAt t line (node.Return (type_at t w.result) (maybe_core t v)) d → WalksStmt (statement_in (within_in a w) around s a (body_in a x) (Return line e)) s a m q x r
    return_told d r h g told =
        single_told (maybe_expr_in s a e) line (λ m. node.Return (type_at a w.result) m) (λ m. done (body_in a x) (code.Return (returned (type_at a w.result) m))) (return_is (within_in a w) around s a (body_in a x) line e) (maybe_walk (Ok v) first) d x r h g
        (subst (λ to. IsToldAt t line (node.Return to (maybe_core t v)) d) same told)

    pub return_goes : {q : Table} (i : IsBodyIn (length a.forms) x) (full : Option (CoreOf ℕ)) → Grows t q → IsSound t line (node.Return (type_at t w.result) (maybe_core t v)) → maybe_core q full ≡ returned (type_at t w.result) (maybe_core t v) → IsSomeIn (length q.forms) full
        → WalksStmt (statement_in (within_in a w) around s a (body_in a x) (Return line e)) s a m q x (Ok (stmt.Return full))
    return_goes {q = q} i full g sound k within =
        let h = extends_on a t q first.keeps.extends g.extends in
        single_goes (maybe_expr_in s a e) line (λ m. node.Return (type_at a w.result) m) (λ m. done (body_in a x) (code.Return (returned (type_at a w.result) m))) (return_is (within_in a w) around s a (body_in a x) line e) (maybe_walk (Ok v) first) x (stmt.Return full) g
        (subst (λ to. IsSound t line (node.Return to (maybe_core t v))) same sound)
        (return_code a q h x i (returned (type_at a w.result) (maybe_core t v)) full (subst (λ to. maybe_core q full ≡ returned to (maybe_core t v)) same k)) (return_code_within a q h x i full within)
