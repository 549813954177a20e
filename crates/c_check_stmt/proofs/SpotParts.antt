-- Statements with one part before a statement, at the place where they stand.
use Rattle.std.proofs.Common.{◌≡◌, ℕ, List}
use Rattle.c_ast.specs.Seen.{expr_seen, maybe_expr_seen}
use Rattle.c_ast.specs.Trees.{Case, Default, For, If, Label, Switch, While}
use Rattle.c_ast.specs.declared.expr.Expr.{Expr}
use Rattle.c_ast.specs.declared.statement.Statement.{Statement}
use Rattle.std.specs.Prelude.{Option}
use Rattle.c_symbols.specs.Scoping.{Scoping}
use Rattle.c_types.specs.Table.{Table}
use Rattle.c_meaning.specs.Values.{CoreTree}
use Rattle.c_units.specs.Bodies.{in_loop, in_switch}
use Rattle.c_stmt_parts.specs.declared.around.Around.{Around}
use Rattle.c_stmt_parts.specs.declared.body.Body.{Body}
use Rattle.c_stmt_parts.specs.BodiesSeen.{around_seen, body_in, within_in}
use Rattle.c_stmt_parts.specs.Heads.{Heads}
use Rattle.c_stmt_parts.specs.StatementsIn.{statement_in}
use Rattle.c_stmt_parts.specs.StatementsSeen.{statement_seen}
use Rattle.c_stmt_parts.proofs.lemmas.StatementNodes.{case_parts, default_parts, for_parts, if_parts, labelled_parts, switch_parts, while_parts}
use Rattle.c_stmt_parts.proofs.lemmas.StatementWalks.{Parts}
use Rattle.c_check_stmt.specs.declared.spot.Spot.{Spot}

module _ (p : Spot) (s : Scoping) (a : Table) (x : Body) (st : Statement) where
  abbrev pub labelled_at : (name : List ℕ) → Parts ℕ p.within.now a (statement_in (within_in a p.within.now) (around_seen p.around) s a (body_in a x) (Label p.line name (statement_seen st)))
  labelled_at name = labelled_parts p.within.now (around_seen p.around) s a x p.line (statement_seen st) name

  abbrev pub default_at : Parts ℕ p.within.now a (statement_in (within_in a p.within.now) (around_seen p.around) s a (body_in a x) (Default p.line (statement_seen st)))
  default_at = default_parts p.within.now (around_seen p.around) s a x p.line (statement_seen st)

  abbrev pub for_at : (inner : Around) (b c d : Option Expr) → around_seen inner ≡ in_loop (around_seen p.around) → Parts Heads p.within.now a (statement_in (within_in a p.within.now) (around_seen p.around) s a (body_in a x) (For p.line (maybe_expr_seen b) (maybe_expr_seen c) (maybe_expr_seen d) (statement_seen st)))
  for_at inner b c d k = for_parts p.within.now (around_seen p.around) s a x p.line (statement_seen st) (around_seen inner) (maybe_expr_seen b) (maybe_expr_seen c) (maybe_expr_seen d) k

  module _ (e : Expr) where
    abbrev pub case_at : Parts CoreTree p.within.now a (statement_in (within_in a p.within.now) (around_seen p.around) s a (body_in a x) (Case p.line (expr_seen e) (statement_seen st)))
    case_at = case_parts p.within.now (around_seen p.around) s a x p.line (expr_seen e) (statement_seen st)

    abbrev pub if_at : Parts CoreTree p.within.now a (statement_in (within_in a p.within.now) (around_seen p.around) s a (body_in a x) (If p.line (expr_seen e) (statement_seen st)))
    if_at = if_parts p.within.now (around_seen p.around) s a x p.line (expr_seen e) (statement_seen st)

    abbrev pub while_at : (inner : Around) → around_seen inner ≡ in_loop (around_seen p.around) → Parts CoreTree p.within.now a (statement_in (within_in a p.within.now) (around_seen p.around) s a (body_in a x) (While p.line (expr_seen e) (statement_seen st)))
    while_at inner k = while_parts p.within.now (around_seen p.around) s a x p.line (expr_seen e) (statement_seen st) (around_seen inner) k

    abbrev pub switch_at : (inner : Around) → around_seen inner ≡ in_switch (around_seen p.around) → Parts CoreTree p.within.now a (statement_in (within_in a p.within.now) (around_seen p.around) s a (body_in a x) (Switch p.line (expr_seen e) (statement_seen st)))
    switch_at inner k = switch_parts p.within.now (around_seen p.around) s a x p.line (expr_seen e) (statement_seen st) (around_seen inner) k
