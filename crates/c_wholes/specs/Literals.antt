-- The string literals of trees over places, whatever types stand there.
use Rattle.std.specs.Prelude.{ℕ, Option, List, map}
use Rattle.c_types.specs.CType.{CType, Void, basic}
use Rattle.c_meaning.specs.declared.filled_place.FilledPlace.{FilledPlace}
use Rattle.c_meaning.specs.declared.core_stmt.CoreStmt.{CoreStmt}
use Rattle.c_meaning.specs.CoreTrees.{CoreOf, seen, all_seen, cores_of}
use Rattle.c_meaning.specs.StmtTrees.{filled_of, maybe_seen, place_seen, stmt_of, stmt_seen, stmts_of, stmts_seen}
use Rattle.c_units.specs.Wholes.{literals, all_literals, some_literals, place_literals, stmt_literals, stmts_literals}

-- one type, whatever stands at a place
abbrev pub blank : ℕ → CType
blank id = basic Void

-- those of an expression
abbrev pub texts_of_expr : CoreOf ℕ → List (List ℕ)
texts_of_expr c = literals (seen blank c)

-- those of expressions in order
abbrev pub texts_of_exprs : List (CoreOf ℕ) → List (List ℕ)
texts_of_exprs cs = all_literals (all_seen blank (cores_of cs))

-- those of an expression, if there is one
abbrev pub texts_of_some : Option (CoreOf ℕ) → List (List ℕ)
texts_of_some e = some_literals (maybe_seen blank e)

-- those of the places of an object
abbrev pub texts_of_places : List FilledPlace → List (List ℕ)
texts_of_places ps = place_literals (map (λ p. place_seen blank (filled_of p)) ps)

-- those of a statement
abbrev pub texts_of_stmt : CoreStmt → List (List ℕ)
texts_of_stmt s = stmt_literals (stmt_seen blank (stmt_of s))

-- those of statements in order
abbrev pub texts_of_stmts : List CoreStmt → List (List ℕ)
texts_of_stmts ss = stmts_literals (stmts_seen blank (stmts_of (map stmt_of ss)))
