-- What places for the copies of calls make of a tree, over a table of types: where trees had these types, and the locals before and
-- after.
use Rattle.std.specs.Prelude.{◌≡◌, ℕ, Option, List, [], ◌++◌, length, map}
use Rattle.c_types.specs.Table.{Table, type_at, AreBelow}
use Rattle.c_types.specs.CType.{CType}
use Rattle.c_meaning.specs.declared.filled_place.FilledPlace.{FilledPlace}
use Rattle.c_meaning.specs.declared.core_stmt.CoreForHead.{CoreForHead}
use Rattle.c_meaning.specs.declared.core_stmt.CoreStmt.{CoreStmt}
use Rattle.c_meaning.specs.Copies.{LocalAt, all_copied, copied, maybe, expressions, all_expressions, copies_in, copies_in_all, all_copies}
use Rattle.c_meaning.specs.CoreTrees.{CoreOf, NoCore, Cores, IsIn, AreIn, seen, all_seen, cores_of}
use Rattle.c_meaning.specs.StmtTrees.{FilledOf, StmtOf, StmtsOf, ArePlacesIn, IsSomeIn, IsStmtIn, AreStmtsIn, filled_of, maybe_seen, place_seen, stmt_of, stmt_seen, stmts_of, stmts_seen}
use Rattle.c_meaning.specs.Values.{CoreTree, CoreTrees}
use Rattle.c_units.specs.Wholes.{placed, all_placed, some_placed, placed_places, placed_stmt, placed_stmts}

-- locals of these types stand behind the others
pub record HasTypes (t : Table) (more : List CType) (before after : List ℕ) : Type 0 where
  pub types : map (type_at t) after ≡ map (type_at t) before ++ more
  pub within : AreBelow (length t.forms) after

-- the types of a call's copies: the arguments', then its result's
abbrev pub call_types : CType → CoreTrees → List CType
call_types of NoCore = []
call_types of (Cores f arguments) = all_copied arguments ++ copied of

-- locals for these copies stand behind the others
abbrev pub Grows : Table → List LocalAt → List ℕ → List ℕ → Type 0
Grows t more before after = HasTypes t (map (λ (l : LocalAt). l.of) more) before after

-- what a tree is now, the copies of its calls, and that its types stand in the table
pub record Placing (t : Table) (before after : List ℕ) (same : Type 0) (more : List LocalAt) (within : Type 0) : Type 0 where
  pub means : same
  pub grows : Grows t more before after
  pub is_in : within

-- the tree is the first one, with places
abbrev pub IsPlaced : Table → List ℕ → List ℕ → CoreTree → CoreOf ℕ → Type 0
IsPlaced t before after c d = Placing t before after (seen (type_at t) d ≡ placed (length before) c) (copies_in c) (IsIn (length t.forms) d)

-- the expressions are the first ones, with places
abbrev pub ArePlaced : Table → List ℕ → List ℕ → CoreTrees → List (CoreOf ℕ) → Type 0
ArePlaced t before after cs ds = Placing t before after (all_seen (type_at t) (cores_of ds) ≡ all_placed (length before) cs) (copies_in_all cs) (AreIn (length t.forms) (cores_of ds))

-- the same of an expression, if there is one
abbrev pub IsSomePlaced : Table → List ℕ → List ℕ → Option CoreTree → Option (CoreOf ℕ) → Type 0
IsSomePlaced t before after c d = Placing t before after (maybe_seen (type_at t) d ≡ some_placed (length before) c) (all_copies (maybe c)) (IsSomeIn (length t.forms) d)

-- the same of the three parts of a `for`'s head, one behind the other, each made whole
pub record IsHeadPlaced (t : Table) (before after : List ℕ) (whole : Option CoreTree → Option CoreTree) (old new : CoreForHead) : Type 0 where
  pub behind_first : List ℕ
  pub behind_test : List ℕ
  pub first : IsSomePlaced t before behind_first (whole (maybe_seen (type_at t) old.first)) new.first
  pub test : IsSomePlaced t behind_first behind_test (whole (maybe_seen (type_at t) old.test)) new.test
  pub last : IsSomePlaced t behind_test after (whole (maybe_seen (type_at t) old.last)) new.last

-- the same of the places of an object
abbrev pub ArePlacesPlaced : Table → List ℕ → List ℕ → List (FilledOf CType) → List FilledPlace → Type 0
ArePlacesPlaced t before after ps qs = Placing t before after (map (λ q. place_seen (type_at t) (filled_of q)) qs ≡ placed_places (length before) ps) (all_copies (map (λ (p : FilledOf CType). p.value) ps)) (ArePlacesIn (length t.forms) (map filled_of qs))

-- the same of a statement
abbrev pub IsStmtPlaced : Table → List ℕ → List ℕ → StmtOf CType → CoreStmt → Type 0
IsStmtPlaced t before after s u = Placing t before after (stmt_seen (type_at t) (stmt_of u) ≡ placed_stmt (length before) s) (all_copies (expressions s)) (IsStmtIn (length t.forms) (stmt_of u))

-- the same of statements in order
abbrev pub AreStmtsPlaced : Table → List ℕ → List ℕ → StmtsOf CType → List CoreStmt → Type 0
AreStmtsPlaced t before after ss us = Placing t before after (stmts_seen (type_at t) (stmts_of (map stmt_of us)) ≡ placed_stmts (length before) ss) (all_copies (all_expressions ss)) (AreStmtsIn (length t.forms) (stmts_of (map stmt_of us)))
