-- In a unit that is made whole each built-in function that is named is one that the unit doesn't define.
use Rattle.std.proofs.Common.{◌≡◌, ℕ, ◌+◌, List, [], ◌∷◌, length, refl}
use Rattle.std.specs.Prelude.{IfSome, Option, Some, None}
use Rattle.c_types.specs.CType.{CType}
use Rattle.c_types.specs.Layout.{Tag}
use Rattle.c_meaning.specs.declared.built_in.BuiltIn.{BuiltIn}
use Rattle.c_meaning.specs.declared.core_expr.CoreKind.{CoreKind}
use Rattle.c_meaning.specs.declared.core_expr.CoreKind.TheVariants as kind
use Rattle.c_meaning.specs.Copies.{own_copies}
use Rattle.c_meaning.specs.CoreTrees.{Core, NoCore, Cores}
use Rattle.c_meaning.specs.Each.{EachExpr, EachExprs, EachIs, EachKinds}
use Rattle.c_meaning.specs.Fits.{AllFit, Fits, IsOpenLeaf, IsRow}
use Rattle.c_meaning.specs.State.{State}
use Rattle.c_meaning.specs.StmtTrees.{FilledOf, StmtOf, StmtsOf}
use Rattle.c_meaning.specs.StmtTrees as stmt
use Rattle.c_meaning.specs.Units.{FunctionTree, UnitTree}
use Rattle.c_meaning.specs.Values.{CoreTree, CoreTrees}
use Rattle.c_units.specs.Ends.{built_in_of}
use Rattle.c_units.specs.Externals.{Parts}
use Rattle.c_units.specs.Functions.{DefinedFunction}
use Rattle.c_units.specs.Wholes.{all_placed, all_whole, copies, function_from, object_from, or_built_in, or_object, or_symbol, placed, placed_kind, placed_places, placed_stmt, placed_stmts, some_copies, some_placed, some_whole, stands_for, stmt_copies, whole, whole_functions, whole_kind, whole_places, whole_stmt, whole_stmts}
use Rattle.c_fits.specs.OpenPlaces.{AreOpenFilled}
use Rattle.c_unit_fits.specs.OpenStmts.{AreOpenStmts, IsOpenReturned, IsOpenStmt, IsOpenTest, IsOpenValue}
use Rattle.c_unit_fits.specs.OpenUnits.{IsOpenDefined}
use Rattle.c_runs.specs.Calls.{built_in_at, built_in_number}
use Rattle.c_checked_units.specs.Checked.{NamesBuiltIn, NamesBuiltIns}

-- ---- what a symbol stands for

module _ (u : UnitTree) (s : State) (p : Parts) (stands : (id : ℕ) (b : BuiltIn) → function_from 0 p.functions id ≡ None → object_from 0 p.objects id ≡ None → built_in_of s id ≡ Some b → built_in_at u (built_in_number u b) ≡ Some b) where
  symbol_names : (id : ℕ) → NamesBuiltIn u (stands_for s p id)
  symbol_names id = by (function_from 0 p.functions id) refl
    where
      by_name : (o : Option BuiltIn) → function_from 0 p.functions id ≡ None → object_from 0 p.objects id ≡ None → built_in_of s id ≡ o → NamesBuiltIn u (or_symbol o id)
      by_name (Some b) e g h = stands id b e g h
      by_name None e g h = tt

      by_object : (o : Option ℕ) → function_from 0 p.functions id ≡ None → object_from 0 p.objects id ≡ o → NamesBuiltIn u (or_built_in s o id)
      by_object (Some n) e g = tt
      by_object None e g = by_name (built_in_of s id) e g refl

      by : (o : Option ℕ) → function_from 0 p.functions id ≡ o → NamesBuiltIn u (or_object s p o id)
      by (Some n) e = tt
      by None e = by_object (object_from 0 p.objects id) e refl

  -- ---- expressions that are made whole

  abbrev meant : ℕ → CoreKind
  meant = stands_for s p

  kind_names : (tags : List Tag) (texts : List (List ℕ)) (what : CoreKind) (of : CType) (kids : CoreTrees) → IsRow IsOpenLeaf tags what of kids → NamesBuiltIn u (whole_kind meant texts what)
  kind_names tags texts (kind.Symbol id) of kids r = symbol_names id
  kind_names tags texts (kind.BuiltIn b) of NoCore r = absurd r
  kind_names tags texts (kind.BuiltIn b) of (Cores c cs) r = absurd r
  kind_names tags texts what of kids r = tt

  mutual
    expr_names : (tags : List Tag) (texts : List (List ℕ)) (c : CoreTree) → Fits IsOpenLeaf tags c → NamesBuiltIns u (whole meant texts c)
    expr_names tags texts (Core what of line kids) f = (kind_names tags texts what of kids f.1.1, kids_name tags texts kids f.0)

    kids_name : (tags : List Tag) (texts : List (List ℕ)) (cs : CoreTrees) → AllFit IsOpenLeaf tags cs → EachKinds (NamesBuiltIn u) (all_whole meant texts cs)
    kids_name tags texts NoCore f = tt
    kids_name tags texts (Cores c cs) f = (expr_names tags texts c f.0, kids_name tags texts cs f.1)

  abbrev pub PlaceNames : FilledOf CType → Type 0
  PlaceNames p = NamesBuiltIns u p.value

  places_name : (tags : List Tag) (texts : List (List ℕ)) (size : ℕ) (ps : List (FilledOf CType)) → AreOpenFilled tags size ps → EachIs PlaceNames (whole_places meant texts ps)
  places_name tags texts size [] h = tt
  places_name tags texts size (p ∷ ps) h = (expr_names tags texts p.value h.0.0, places_name tags texts size ps h.1)

  value_names : (tags : List Tag) (texts : List (List ℕ)) (e : Option CoreTree) → IfSome e (IsOpenValue tags) → IfSome (some_whole meant texts e) (NamesBuiltIns u)
  value_names tags texts None h = tt
  value_names tags texts (Some e) h = expr_names tags texts e h.0

  test_names : (tags : List Tag) (texts : List (List ℕ)) (e : Option CoreTree) → IfSome e (IsOpenTest tags) → IfSome (some_whole meant texts e) (NamesBuiltIns u)
  test_names tags texts None h = tt
  test_names tags texts (Some e) h = expr_names tags texts e h.0.0

  returned_names : (tags : List Tag) (texts : List (List ℕ)) (result : CType) (e : Option CoreTree) → IsOpenReturned tags result e → IfSome (some_whole meant texts e) (NamesBuiltIns u)
  returned_names tags texts result None h = tt
  returned_names tags texts result (Some e) h = expr_names tags texts e h.0.0

  mutual
    stmt_names : (tags : List Tag) (texts : List (List ℕ)) (result : CType) (t : StmtOf CType) → IsOpenStmt tags result t → EachExpr (NamesBuiltIns u) PlaceNames (whole_stmt meant texts t)
    stmt_names tags texts result stmt.Nothing h = tt
    stmt_names tags texts result (stmt.Expression e) h = expr_names tags texts e h.0
    stmt_names tags texts result (stmt.Initialise local zero ps) h = places_name tags texts h.1.0 ps h.1.2
    stmt_names tags texts result (stmt.Block first locals ss) h = stmts_name tags texts result ss h
    stmt_names tags texts result (stmt.If e t w) h = (expr_names tags texts e h.0.0.0, (stmt_names tags texts result t h.1.0, stmt_names tags texts result w h.1.1))
    stmt_names tags texts result (stmt.While e t) h = (expr_names tags texts e h.0.0.0, stmt_names tags texts result t h.1)
    stmt_names tags texts result (stmt.Do t e) h = (stmt_names tags texts result t h.0, expr_names tags texts e h.1.0.0)
    stmt_names tags texts result (stmt.For a b c t) h = (value_names tags texts a h.0, (test_names tags texts b h.1.0, (value_names tags texts c h.1.1.0, stmt_names tags texts result t h.1.1.1)))
    stmt_names tags texts result (stmt.Switch e cases default t) h = (expr_names tags texts e h.0.0, stmt_names tags texts result t h.1.1)
    stmt_names tags texts result (stmt.Label n t) h = stmt_names tags texts result t h
    stmt_names tags texts result (stmt.Goto n) h = tt
    stmt_names tags texts result stmt.Break h = tt
    stmt_names tags texts result stmt.Continue h = tt
    stmt_names tags texts result (stmt.Return e) h = returned_names tags texts result e h

    stmts_name : (tags : List Tag) (texts : List (List ℕ)) (result : CType) (ts : StmtsOf CType) → AreOpenStmts tags result ts → EachExprs (NamesBuiltIns u) PlaceNames (whole_stmts meant texts ts)
    stmts_name tags texts result stmt.NoStmt h = tt
    stmts_name tags texts result (stmt.Stmts t ts) h = (stmt_names tags texts result t h.0, stmts_name tags texts result ts h.1)

  -- ---- calls that name their copies

  placed_kind_names : (n : ℕ) (what : CoreKind) → NamesBuiltIn u what → NamesBuiltIn u (placed_kind n what)
  placed_kind_names n (kind.Call m) h = tt
  placed_kind_names n what h = h

  mutual
    placed_names : (n : ℕ) (c : CoreTree) → NamesBuiltIns u c → NamesBuiltIns u (placed n c)
    placed_names n (Core what of line kids) h = (placed_kind_names n what h.0, all_placed_name (n + length (own_copies what of kids)) kids h.1)

    all_placed_name : (n : ℕ) (cs : CoreTrees) → EachKinds (NamesBuiltIn u) cs → EachKinds (NamesBuiltIn u) (all_placed n cs)
    all_placed_name n NoCore h = tt
    all_placed_name n (Cores c cs) h = (placed_names n c h.0, all_placed_name (n + copies c) cs h.1)

  placed_places_name : (n : ℕ) (ps : List (FilledOf CType)) → EachIs PlaceNames ps → EachIs PlaceNames (placed_places n ps)
  placed_places_name n [] h = tt
  placed_places_name n (p ∷ ps) h = (placed_names n p.value h.0, placed_places_name (n + copies p.value) ps h.1)

  some_placed_names : (n : ℕ) (e : Option CoreTree) → IfSome e (NamesBuiltIns u) → IfSome (some_placed n e) (NamesBuiltIns u)
  some_placed_names n None h = tt
  some_placed_names n (Some e) h = placed_names n e h

  mutual
    placed_stmt_names : (n : ℕ) (t : StmtOf CType) → EachExpr (NamesBuiltIns u) PlaceNames t → EachExpr (NamesBuiltIns u) PlaceNames (placed_stmt n t)
    placed_stmt_names n stmt.Nothing h = tt
    placed_stmt_names n (stmt.Expression e) h = placed_names n e h
    placed_stmt_names n (stmt.Initialise local zero ps) h = placed_places_name n ps h
    placed_stmt_names n (stmt.Block first locals ts) h = placed_stmts_name n ts h
    placed_stmt_names n (stmt.If e t w) h = (placed_names n e h.0, (placed_stmt_names (n + copies e) t h.1.0, placed_stmt_names (n + copies e + stmt_copies t) w h.1.1))
    placed_stmt_names n (stmt.While e t) h = (placed_names n e h.0, placed_stmt_names (n + copies e) t h.1)
    placed_stmt_names n (stmt.Do t e) h = (placed_stmt_names n t h.0, placed_names (n + stmt_copies t) e h.1)
    placed_stmt_names n (stmt.For a b c t) h =
        (some_placed_names n a h.0, (some_placed_names (n + some_copies a) b h.1.0, (some_placed_names (n + some_copies a + some_copies b) c h.1.1.0, placed_stmt_names (n + some_copies a + some_copies b + some_copies c) t h.1.1.1)))
    placed_stmt_names n (stmt.Switch e cases default t) h = (placed_names n e h.0, placed_stmt_names (n + copies e) t h.1)
    placed_stmt_names n (stmt.Label l t) h = placed_stmt_names n t h
    placed_stmt_names n (stmt.Goto l) h = tt
    placed_stmt_names n stmt.Break h = tt
    placed_stmt_names n stmt.Continue h = tt
    placed_stmt_names n (stmt.Return e) h = some_placed_names n e h

    placed_stmts_name : (n : ℕ) (ts : StmtsOf CType) → EachExprs (NamesBuiltIns u) PlaceNames ts → EachExprs (NamesBuiltIns u) PlaceNames (placed_stmts n ts)
    placed_stmts_name n stmt.NoStmt h = tt
    placed_stmts_name n (stmt.Stmts t ts) h = (placed_stmt_names n t h.0, placed_stmts_name (n + stmt_copies t) ts h.1)

  -- ---- functions

  abbrev pub FunctionNames : FunctionTree → Type 0
  FunctionNames f = EachExpr (NamesBuiltIns u) PlaceNames f.body

  pub functions_name : (tags : List Tag) (texts : List (List ℕ)) (fs : List DefinedFunction) → EachIs (IsOpenDefined tags) fs → EachIs FunctionNames (whole_functions meant texts fs)
  functions_name tags texts [] h = tt
  functions_name tags texts (f ∷ fs) h =
      (placed_stmt_names (length f.function.locals) (whole_stmt meant texts f.function.body) (stmt_names tags texts _ f.function.body h.0.body), functions_name tags texts fs h.1)
