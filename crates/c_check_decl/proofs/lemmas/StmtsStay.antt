-- What stays of checked statements when a table grows.
use Rattle.std.proofs.Common.{◌≡◌, ℕ, ◌≤◌, Option, Some, None, List, [], ◌∷◌, length, map, refl, ap, arith}
use Rattle.c_types.specs.Table.{Table, Extends, type_at}
use Rattle.c_meaning.specs.CoreTrees.{CoreOf}
use Rattle.c_meaning.specs.StmtTrees.{FilledOf, StmtOf, Nothing, Expression, Initialise, Block, If, While, Do, For, Switch, Label, Goto, Break, Continue, Return, StmtsOf, NoStmt, Stmts, maybe_seen, place_seen, stmt_seen, stmts_seen, ArePlacesIn, IsSomeIn, IsStmtIn, AreStmtsIn}
use Rattle.c_values.specs.Stays.{in_more, longer, seen_stays}

-- ---- they are seen the same over the later table

pub places_stay : (a b : Table) → Extends a b → (ps : List (FilledOf ℕ)) → ArePlacesIn (length a.forms) ps → map (place_seen (type_at b)) ps ≡ map (place_seen (type_at a)) ps
places_stay a b h [] i = refl
places_stay a b h (p ∷ ps) i = rw (h.types_stay p.of i.0.0, seen_stays a b h p.value i.0.1, places_stay a b h ps i.1) refl

pub maybe_stays : (a b : Table) → Extends a b → (o : Option (CoreOf ℕ)) → IsSomeIn (length a.forms) o → maybe_seen (type_at b) o ≡ maybe_seen (type_at a) o
maybe_stays a b h None i = refl
maybe_stays a b h (Some c) i = ap Some (seen_stays a b h c i)

mutual
  pub stmt_stays : (a b : Table) → Extends a b → (s : StmtOf ℕ) → IsStmtIn (length a.forms) s → stmt_seen (type_at b) s ≡ stmt_seen (type_at a) s
  stmt_stays a b h Nothing i = refl
  stmt_stays a b h (Expression e) i = rw (seen_stays a b h e i) refl
  stmt_stays a b h (Initialise local zero ps) i = rw (places_stay a b h ps i) refl
  stmt_stays a b h (Block first locals ss) i = rw (stmts_stay a b h ss i) refl
  stmt_stays a b h (If e s t) i = rw (seen_stays a b h e i.0, stmt_stays a b h s i.1.0, stmt_stays a b h t i.1.1) refl
  stmt_stays a b h (While e s) i = rw (seen_stays a b h e i.0, stmt_stays a b h s i.1) refl
  stmt_stays a b h (Do s e) i = rw (stmt_stays a b h s i.0, seen_stays a b h e i.1) refl
  stmt_stays a b h (For x y z s) i = rw (maybe_stays a b h x i.0, maybe_stays a b h y i.1.0, maybe_stays a b h z i.1.1.0, stmt_stays a b h s i.1.1.1) refl
  stmt_stays a b h (Switch e cases default s) i = rw (seen_stays a b h e i.0, stmt_stays a b h s i.1) refl
  stmt_stays a b h (Label n s) i = rw (stmt_stays a b h s i) refl
  stmt_stays a b h (Goto n) i = refl
  stmt_stays a b h Break i = refl
  stmt_stays a b h Continue i = refl
  stmt_stays a b h (Return e) i = rw (maybe_stays a b h e i) refl

  pub stmts_stay : (a b : Table) → Extends a b → (ss : StmtsOf ℕ) → AreStmtsIn (length a.forms) ss → stmts_seen (type_at b) ss ≡ stmts_seen (type_at a) ss
  stmts_stay a b h NoStmt i = refl
  stmts_stay a b h (Stmts s ss) i = rw (stmt_stays a b h s i.0, stmts_stay a b h ss i.1) refl

-- ---- their types stay below the end of the table

places_in_more : (n m : ℕ) → n ≤ m → (ps : List (FilledOf ℕ)) → ArePlacesIn n ps → ArePlacesIn m ps
places_in_more n m l [] i = tt
places_in_more n m l (p ∷ ps) i = ((let b = i.0.0 in omega arith, in_more n m l p.value i.0.1), places_in_more n m l ps i.1)

some_in_more : (n m : ℕ) → n ≤ m → (o : Option (CoreOf ℕ)) → IsSomeIn n o → IsSomeIn m o
some_in_more n m l None i = tt
some_in_more n m l (Some c) i = in_more n m l c i

mutual
  pub stmt_in_more : (n m : ℕ) → n ≤ m → (s : StmtOf ℕ) → IsStmtIn n s → IsStmtIn m s
  stmt_in_more n m l Nothing i = tt
  stmt_in_more n m l (Expression e) i = in_more n m l e i
  stmt_in_more n m l (Initialise local zero ps) i = places_in_more n m l ps i
  stmt_in_more n m l (Block first locals ss) i = stmts_in_more n m l ss i
  stmt_in_more n m l (If e s t) i = (in_more n m l e i.0, (stmt_in_more n m l s i.1.0, stmt_in_more n m l t i.1.1))
  stmt_in_more n m l (While e s) i = (in_more n m l e i.0, stmt_in_more n m l s i.1)
  stmt_in_more n m l (Do s e) i = (stmt_in_more n m l s i.0, in_more n m l e i.1)
  stmt_in_more n m l (For x y z s) i = (some_in_more n m l x i.0, (some_in_more n m l y i.1.0, (some_in_more n m l z i.1.1.0, stmt_in_more n m l s i.1.1.1)))
  stmt_in_more n m l (Switch e cases default s) i = (in_more n m l e i.0, stmt_in_more n m l s i.1)
  stmt_in_more n m l (Label label s) i = stmt_in_more n m l s i
  stmt_in_more n m l (Goto label) i = tt
  stmt_in_more n m l Break i = tt
  stmt_in_more n m l Continue i = tt
  stmt_in_more n m l (Return e) i = some_in_more n m l e i

  pub stmts_in_more : (n m : ℕ) → n ≤ m → (ss : StmtsOf ℕ) → AreStmtsIn n ss → AreStmtsIn m ss
  stmts_in_more n m l NoStmt i = tt
  stmts_in_more n m l (Stmts s ss) i = (stmt_in_more n m l s i.0, stmts_in_more n m l ss i.1)

pub stmt_later : (a b : Table) → Extends a b → (s : StmtOf ℕ) → IsStmtIn (length a.forms) s → IsStmtIn (length b.forms) s
stmt_later a b h s i = stmt_in_more (length a.forms) (length b.forms) (longer a b h) s i
