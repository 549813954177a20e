-- The expressions of a checked function's statements, each with what is known of it.
use Rattle.std.proofs.Common.{◌≤◌, ◌+◌, ◌++◌, sym, subst, arith}
use Rattle.std.specs.Prelude.{IfSome, ℕ, Option, Some, None, List, [], ◌∷◌, drop, map}
use Rattle.c_types.specs.CType.{CType}
use Rattle.c_meaning.specs.Copies.{LocalAt, all_copies, all_expressions, copies_in, expressions, locals_from, maybe}
use Rattle.c_meaning.specs.Each.{EachExpr, EachExprs, EachIs}
use Rattle.c_meaning.specs.Laws.{CopiesAreLocals, IsLocalOf}
use Rattle.c_meaning.specs.StmtTrees.{FilledOf, StmtOf, StmtsOf}
use Rattle.c_meaning.specs.StmtTrees as stmt
use Rattle.c_meaning.specs.Units.{AreFilled, AreStmts, FunctionTree, IsExpr, IsFunction, IsReturned, IsStmt, IsTest, IsValue, UnitTree, declared, function_copies}
use Rattle.c_meaning.specs.Values.{CoreTree}
use Rattle.c_core_fits.proofs.lemmas.Lists.{each_left, each_right}
use Rattle.c_checked_units.specs.Checked.{HasOwnCopies, IsOwnCopy}

-- ---- they fit

module _ (u : UnitTree) (f : FunctionTree) (ns : List ℕ) where
  abbrev pub PlaceFits : FilledOf CType → Type 0
  PlaceFits p = IsExpr u f.locals p.value

  places_fit : (size : ℕ) (ps : List (FilledOf CType)) → AreFilled u f.locals size ps → EachIs PlaceFits ps
  places_fit size [] h = tt
  places_fit size (p ∷ ps) h = (h.0.0, places_fit size ps h.1)

  maybe_value : (e : Option CoreTree) → IfSome e (IsValue u f.locals) → IfSome e (IsExpr u f.locals)
  maybe_value None h = tt
  maybe_value (Some e) h = h.0

  maybe_test : (e : Option CoreTree) → IfSome e (IsTest u f.locals) → IfSome e (IsExpr u f.locals)
  maybe_test None h = tt
  maybe_test (Some e) h = h.0.0

  maybe_returned : (e : Option CoreTree) → IsReturned u f e → IfSome e (IsExpr u f.locals)
  maybe_returned None h = tt
  maybe_returned (Some e) h = h.0.0

  mutual
    pub exprs_fit : (s : StmtOf CType) → IsStmt u f ns s → EachExpr (IsExpr u f.locals) PlaceFits s
    exprs_fit stmt.Nothing h = tt
    exprs_fit (stmt.Expression e) h = h.0
    exprs_fit (stmt.Initialise local zero ps) h = places_fit h.2.0 ps h.2.2
    exprs_fit (stmt.Block first locals ss) h = all_fit ss h.1
    exprs_fit (stmt.If e s t) h = (h.0.0.0, (exprs_fit s h.1.0, exprs_fit t h.1.1))
    exprs_fit (stmt.While e s) h = (h.0.0.0, exprs_fit s h.1)
    exprs_fit (stmt.Do s e) h = (exprs_fit s h.0, h.1.0.0)
    exprs_fit (stmt.For a b c s) h = (maybe_value a h.0, (maybe_test b h.1.0, (maybe_value c h.1.1.0, exprs_fit s h.1.1.1)))
    exprs_fit (stmt.Switch e cases default s) h = (h.0.0, exprs_fit s h.1.1.1.1.1)
    exprs_fit (stmt.Label n s) h = exprs_fit s h
    exprs_fit (stmt.Goto n) h = tt
    exprs_fit stmt.Break h = tt
    exprs_fit stmt.Continue h = tt
    exprs_fit (stmt.Return e) h = maybe_returned e h

    all_fit : (ss : StmtsOf CType) → AreStmts u f ns ss → EachExprs (IsExpr u f.locals) PlaceFits ss
    all_fit stmt.NoStmt h = tt
    all_fit (stmt.Stmts s ss) h = (exprs_fit s h.0, all_fit ss h.1)

-- ---- two facts of each together

module _ (P Q R : CoreTree → Type 0) (A B C : FilledOf CType → Type 0) (join : (e : CoreTree) → P e → Q e → R e) (join_at : (p : FilledOf CType) → A p → B p → C p) where
  places_join : (ps : List (FilledOf CType)) → EachIs A ps → EachIs B ps → EachIs C ps
  places_join [] h k = tt
  places_join (p ∷ ps) h k = (join_at p h.0 k.0, places_join ps h.1 k.1)

  maybe_join : (e : Option CoreTree) → IfSome e P → IfSome e Q → IfSome e R
  maybe_join None h k = tt
  maybe_join (Some e) h k = join e h k

  mutual
    pub exprs_join : (s : StmtOf CType) → EachExpr P A s → EachExpr Q B s → EachExpr R C s
    exprs_join stmt.Nothing h k = tt
    exprs_join (stmt.Expression e) h k = join e h k
    exprs_join (stmt.Initialise local zero ps) h k = places_join ps h k
    exprs_join (stmt.Block first locals ss) h k = all_join ss h k
    exprs_join (stmt.If e s t) h k = (join e h.0 k.0, (exprs_join s h.1.0 k.1.0, exprs_join t h.1.1 k.1.1))
    exprs_join (stmt.While e s) h k = (join e h.0 k.0, exprs_join s h.1 k.1)
    exprs_join (stmt.Do s e) h k = (exprs_join s h.0 k.0, join e h.1 k.1)
    exprs_join (stmt.For a b c s) h k = (maybe_join a h.0 k.0, (maybe_join b h.1.0 k.1.0, (maybe_join c h.1.1.0 k.1.1.0, exprs_join s h.1.1.1 k.1.1.1)))
    exprs_join (stmt.Switch e cases default s) h k = (join e h.0 k.0, exprs_join s h.1 k.1)
    exprs_join (stmt.Label n s) h k = exprs_join s h k
    exprs_join (stmt.Goto n) h k = tt
    exprs_join stmt.Break h k = tt
    exprs_join stmt.Continue h k = tt
    exprs_join (stmt.Return e) h k = maybe_join e h k

    all_join : (ss : StmtsOf CType) → EachExprs P A ss → EachExprs Q B ss → EachExprs R C ss
    all_join stmt.NoStmt h k = tt
    all_join (stmt.Stmts s ss) h k = (exprs_join s h.0 k.0, all_join ss h.1 k.1)

-- ---- what holds of each in a list of them

module _ (Q : CoreTree → Type 0) where
  places_each : (ps : List (FilledOf CType)) → EachIs Q (map (λ (p : FilledOf CType). p.value) ps) → EachIs (λ (p : FilledOf CType). Q p.value) ps
  places_each [] h = tt
  places_each (p ∷ ps) h = (h.0, places_each ps h.1)

  maybe_each : (e : Option CoreTree) → EachIs Q (maybe e) → IfSome e Q
  maybe_each None h = tt
  maybe_each (Some e) h = h.0

  mutual
    pub exprs_each : (s : StmtOf CType) → EachIs Q (expressions s) → EachExpr Q (λ p. Q p.value) s
    exprs_each stmt.Nothing h = tt
    exprs_each (stmt.Expression e) h = h.0
    exprs_each (stmt.Initialise local zero ps) h = places_each ps h
    exprs_each (stmt.Block first locals ss) h = all_each ss h
    exprs_each (stmt.If e s t) h = (h.0, (exprs_each s (each_left Q (expressions s) (expressions t) h.1), exprs_each t (each_right Q (expressions s) (expressions t) h.1)))
    exprs_each (stmt.While e s) h = (h.0, exprs_each s h.1)
    exprs_each (stmt.Do s e) h = (exprs_each s (each_left Q (expressions s) (e ∷ []) h), (each_right Q (expressions s) (e ∷ []) h).0)
    exprs_each (stmt.For a b c s) h =
        let first = maybe a ++ maybe b in
        let k = each_left Q (first ++ maybe c) (expressions s) h in
        let l = each_left Q first (maybe c) k in
        (maybe_each a (each_left Q (maybe a) (maybe b) l), (maybe_each b (each_right Q (maybe a) (maybe b) l), (maybe_each c (each_right Q first (maybe c) k), exprs_each s (each_right Q (first ++ maybe c) (expressions s) h))))
    exprs_each (stmt.Switch e cases default s) h = (h.0, exprs_each s h.1)
    exprs_each (stmt.Label n s) h = exprs_each s h
    exprs_each (stmt.Goto n) h = tt
    exprs_each stmt.Break h = tt
    exprs_each stmt.Continue h = tt
    exprs_each (stmt.Return e) h = maybe_each e h

    all_each : (ss : StmtsOf CType) → EachIs Q (all_expressions ss) → EachExprs Q (λ p. Q p.value) ss
    all_each stmt.NoStmt h = tt
    all_each (stmt.Stmts s ss) h = (exprs_each s (each_left Q (expressions s) (all_expressions ss) h), all_each ss (each_right Q (expressions s) (all_expressions ss) h))

-- ---- copies

copies_each : (f : FunctionTree) (es : List CoreTree) → EachIs (IsOwnCopy f) (all_copies es) → EachIs (HasOwnCopies f) es
copies_each f [] h = tt
copies_each f (e ∷ es) h = (each_left (IsOwnCopy f) (copies_in e) (all_copies es) h, copies_each f es (each_right (IsOwnCopy f) (copies_in e) (all_copies es) h))

locals_behind : (m n : ℕ) (ts : List CType) → m ≤ n → EachIs (λ (l : LocalAt). m ≤ l.place) (locals_from n ts)
locals_behind m n [] h = tt
locals_behind m n (t ∷ ts) h = (h, locals_behind m (n + 1) ts (omega (arith, h)))

own_copies : (f : FunctionTree) (ls : List LocalAt) → EachIs (IsLocalOf f.locals) ls → EachIs (λ (l : LocalAt). f.parameters ≤ l.place) ls → EachIs (IsOwnCopy f) ls
own_copies f [] h k = tt
own_copies f (l ∷ ls) h k = (record { local = h.0; behind = k.0 }, own_copies f ls h.1 k.1)

pub exprs_copy : CopiesAreLocals → (u : UnitTree) (f : FunctionTree) → IsFunction u f → EachExpr (HasOwnCopies f) (λ p. HasOwnCopies f p.value) f.body
exprs_copy locals u f h =
    exprs_each (HasOwnCopies f) f.body
    (copies_each f (expressions f.body)
    (own_copies f (function_copies f) (locals u f h)
    (subst (EachIs (λ (l : LocalAt). f.parameters ≤ l.place)) (sym h.copies) (locals_behind f.parameters (declared f) (drop (declared f) f.locals) (omega arith)))))
