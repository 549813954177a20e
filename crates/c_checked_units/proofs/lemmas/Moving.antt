-- The expressions of a unit over a table whose types keep the limits move pointers by elements that are no larger than objects.
use Rattle.std.proofs.Common.{ℕ, List, [], ◌∷◌, map}
use Rattle.std.specs.Prelude.{IfSome, Option, Some, None}
use Rattle.c_types.specs.CType.{CType}
use Rattle.c_types.specs.Table.{type_in, types}
use Rattle.c_meaning.specs.declared.core_expr.Change.TheVariants as change
use Rattle.c_meaning.specs.declared.core_expr.CoreKind.{CoreKind}
use Rattle.c_meaning.specs.declared.core_expr.CoreKind.TheVariants as kind
use Rattle.c_meaning.specs.CoreTrees.{CoreOf, Core, CoresOf, NoCore, Cores, all_seen, seen}
use Rattle.c_meaning.specs.Each.{EachExpr, EachExprs, EachIs, EachKinds}
use Rattle.c_meaning.specs.Fits.{AllFit, IsRow}
use Rattle.c_meaning.specs.StmtTrees.{ArePlacesIn, AreStmtsIn, FilledOf, IsSomeIn, IsStmtIn, StmtOf, StmtsOf, maybe_seen, place_seen, stmt_seen, stmts_seen}
use Rattle.c_meaning.specs.StmtTrees as stmt
use Rattle.c_meaning.specs.Units.{CoreUnit, IsExpr, IsLeaf, unit_seen}
use Rattle.c_checked_units.specs.Laws.{KeepsLimits}
use Rattle.c_checked_units.specs.Moves.{AllMoveByObjects, MovesByObjects}
use Rattle.c_checked_units.proofs.lemmas.Targets.{pointed_small}

module _ (u : CoreUnit) (limits : KeepsLimits u.types) (locals : List CType) where
  abbrev known : ℕ → CType
  known = type_in (types u.types)

  abbrev IsRowIn : CoreKind → CType → CoresOf CType → Type 0
  IsRowIn = IsRow (IsLeaf (unit_seen u) locals) (unit_seen u).tags

  kind_moves : (what : CoreKind) (of : ℕ) (kids : CoresOf ℕ) → IsRowIn what (known of) (all_seen known kids) → MovesByObjects what
  kind_moves (kind.Move size back) of NoCore r = absurd r
  kind_moves (kind.Move size back) of (Cores a NoCore) r = absurd r
  kind_moves (kind.Move size back) of (Cores a (Cores b NoCore)) r = pointed_small u.types limits of size r.1.0
  kind_moves (kind.Move size back) of (Cores a (Cores b (Cores c cs))) r = absurd r
  kind_moves (kind.Difference size) of NoCore r = absurd r
  kind_moves (kind.Difference size) of (Cores a NoCore) r = absurd r
  kind_moves (kind.Difference size) of (Cores (Core what other line kids) (Cores b NoCore)) r = pointed_small u.types limits other size r.1.1.1
  kind_moves (kind.Difference size) of (Cores a (Cores b (Cores c cs))) r = absurd r
  kind_moves (kind.Change (change.Pointer size back)) of NoCore r = absurd r
  kind_moves (kind.Change (change.Pointer size back)) of (Cores a NoCore) r = absurd r
  kind_moves (kind.Change (change.Pointer size back)) of (Cores (Core what other line kids) (Cores b NoCore)) r = pointed_small u.types limits other size r.1.1.1.0
  kind_moves (kind.Change (change.Pointer size back)) of (Cores a (Cores b (Cores c cs))) r = absurd r
  kind_moves (kind.Change (change.Arithmetic op signed)) of kids r = tt
  kind_moves (kind.Postfix (change.Pointer size back)) of NoCore r = absurd r
  kind_moves (kind.Postfix (change.Pointer size back)) of (Cores a NoCore) r = absurd r
  kind_moves (kind.Postfix (change.Pointer size back)) of (Cores (Core what other line kids) (Cores b NoCore)) r = pointed_small u.types limits other size r.1.1.1.0
  kind_moves (kind.Postfix (change.Pointer size back)) of (Cores a (Cores b (Cores c cs))) r = absurd r
  kind_moves (kind.Postfix (change.Arithmetic op signed)) of kids r = tt
  kind_moves what of kids r = tt

  mutual
    pub expr_moves : (c : CoreOf ℕ) → IsExpr (unit_seen u) locals (seen known c) → AllMoveByObjects (seen known c)
    expr_moves (Core what of line kids) f = (kind_moves what of kids f.1.1, kids_move kids f.0)

    kids_move : (cs : CoresOf ℕ) → AllFit (IsLeaf (unit_seen u) locals) (unit_seen u).tags (all_seen known cs) → EachKinds MovesByObjects (all_seen known cs)
    kids_move NoCore f = tt
    kids_move (Cores c cs) f = (expr_moves c f.0, kids_move cs f.1)

  -- ---- statements

  abbrev IsPlace : FilledOf CType → Type 0
  IsPlace p = IsExpr (unit_seen u) locals p.value

  abbrev PlaceMoves : FilledOf CType → Type 0
  PlaceMoves p = AllMoveByObjects p.value

  places_move : (ps : List (FilledOf ℕ)) → EachIs IsPlace (map (place_seen known) ps) → EachIs PlaceMoves (map (place_seen known) ps)
  places_move [] h = tt
  places_move (p ∷ ps) h = (expr_moves p.value h.0, places_move ps h.1)

  maybe_moves : (e : Option (CoreOf ℕ)) → IfSome (maybe_seen known e) (IsExpr (unit_seen u) locals) → IfSome (maybe_seen known e) AllMoveByObjects
  maybe_moves None h = tt
  maybe_moves (Some e) h = expr_moves e h

  mutual
    pub stmt_moves : (s : StmtOf ℕ) → EachExpr (IsExpr (unit_seen u) locals) IsPlace (stmt_seen known s) → EachExpr AllMoveByObjects PlaceMoves (stmt_seen known s)
    stmt_moves stmt.Nothing h = tt
    stmt_moves (stmt.Expression e) h = expr_moves e h
    stmt_moves (stmt.Initialise local zero ps) h = places_move ps h
    stmt_moves (stmt.Block first locals ss) h = stmts_move ss h
    stmt_moves (stmt.If e s t) h = (expr_moves e h.0, (stmt_moves s h.1.0, stmt_moves t h.1.1))
    stmt_moves (stmt.While e s) h = (expr_moves e h.0, stmt_moves s h.1)
    stmt_moves (stmt.Do s e) h = (stmt_moves s h.0, expr_moves e h.1)
    stmt_moves (stmt.For a b c s) h = (maybe_moves a h.0, (maybe_moves b h.1.0, (maybe_moves c h.1.1.0, stmt_moves s h.1.1.1)))
    stmt_moves (stmt.Switch e cases default s) h = (expr_moves e h.0, stmt_moves s h.1)
    stmt_moves (stmt.Label n s) h = stmt_moves s h
    stmt_moves (stmt.Goto n) h = tt
    stmt_moves stmt.Break h = tt
    stmt_moves stmt.Continue h = tt
    stmt_moves (stmt.Return e) h = maybe_moves e h

    stmts_move : (ss : StmtsOf ℕ) → EachExprs (IsExpr (unit_seen u) locals) IsPlace (stmts_seen known ss) → EachExprs AllMoveByObjects PlaceMoves (stmts_seen known ss)
    stmts_move stmt.NoStmt h = tt
    stmts_move (stmt.Stmts s ss) h = (stmt_moves s h.0, stmts_move ss h.1)
