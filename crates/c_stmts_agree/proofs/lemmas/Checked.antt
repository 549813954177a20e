-- The parts of checked statements agree where their expressions do.
use Rattle.std.specs.Prelude.{◌≡◌, ℕ, Bool, true, false, IfSome, Option, Some, None, List, [], ◌∷◌}
use Rattle.std.proofs.Common.{true≢false, refl, sym}
use Rattle.c_types.specs.CType.{CType, Plain, Array}
use Rattle.c_types.specs.Compatible.{compatible}
use Rattle.c_meaning.specs.declared.core_expr.CoreKind.TheVariants as kind
use Rattle.c_meaning.specs.CoreTrees.{Core, NoCore, Cores, type_of, what_of}
use Rattle.c_meaning.specs.Each.{EachIs, EachExpr, EachExprs}
use Rattle.c_meaning.specs.Rows.{result_type}
use Rattle.c_meaning.specs.StmtTrees as stmt
use Rattle.c_meaning.specs.StmtTrees.{FilledOf}
use Rattle.c_meaning.specs.Types.{is_void, is_array, is_record}
use Rattle.c_meaning.specs.Units.{FunctionTree, UnitTree, text_type, IsExpr, IsString, IsFor, AreFilled, IsTest, IsReturned, IsStmt, AreStmts}
use Rattle.c_meaning.specs.Values.{CoreTree}
use Rattle.lowered_statements.specs.Functions.{Function}
use Rattle.lowered_statements.specs.Statements.{StmtTree, StmtTrees}
use Rattle.c_straight_agree.specs.Parts.{is_unused}
use Rattle.c_straight_agree.proofs.lemmas.Used.{valued_alike, whole_valued, promoted_valued, valued_is_used, scalar_is_used}
use Rattle.c_stmt_agreement.specs.Comings.{Activation, Ending}
use Rattle.c_stmts_agree.specs.CheckedParts.{ExpressionAgrees, PlaceAgrees, ExpressionIsKnown, PlaceIsKnown, HasWordCases, AllHaveWordCases, OthersAgree}
use Rattle.c_stmts_agree.specs.Parts.{TestAgrees, ReturnAgreesBy, MaybeAgrees, MaybeTestAgrees, PartsAgree, AllPartsAgree}

-- ---- expressions whose values are used

array_valued : (t of : CType) → is_array of ≡ true → compatible t of ≡ true → is_void t ≡ false
array_valued (Array a n) of is e = refl
array_valued (Plain q k) (Array a n) is e = absurd (true≢false (sym e))
array_valued (Plain q k) (Plain p j) is e = absurd (true≢false (sym is))

-- one that fills a place: of a whole scalar or structure, or a string
string_valued : (u : UnitTree) (locals : List CType) (of : CType) (count : Option ℕ) (x : CoreTree) → IsExpr u locals x → IsString u.texts of count (what_of x) → is_void (type_of x) ≡ false
string_valued u locals of None (Core what t line kids) checked string = absurd string
string_valued u locals of (Some n) (Core (kind.Text k) t line NoCore) checked string = array_valued t (text_type checked.1.1.0) refl checked.1.1.2
string_valued u locals of (Some n) (Core (kind.Text k) t line (Cores a cs)) checked string = absurd checked.1.1
string_valued u locals of (Some n) (Core what t line kids) checked string = absurd string

filled_is_used : (u : UnitTree) (locals : List CType) (of : CType) (x : CoreTree) → IsExpr u locals x → IsFor u of x → is_unused x ≡ false
filled_is_used u locals (Plain q k) x checked fills = valued_is_used x (valued_alike (type_of x) (Plain q k) fills.1.1 (whole_valued u.tags (Plain q k) fills.1.0))
filled_is_used u locals (Array of count) x checked fills = valued_is_used x (string_valued u locals of count x checked fills)

module _ (p : Activation) (f : Function) (e : Ending) (u : UnitTree) (g : FunctionTree) (others : OthersAgree p f e u g) (ns : List ℕ) where
  maybe_agrees : (x : Option CoreTree) → IfSome x (ExpressionIsKnown p f) → MaybeAgrees p f x
  maybe_agrees None h = tt
  maybe_agrees (Some x) h = h.effect

  test_agrees : (x : CoreTree) → IsTest u g.locals x → ExpressionIsKnown p f x → TestAgrees p f x
  test_agrees x checked h = (h.agrees (scalar_is_used x checked.1)).test

  maybe_test_agrees : (x : Option CoreTree) → IfSome x (IsTest u g.locals) → IfSome x (ExpressionIsKnown p f) → MaybeTestAgrees p f x
  maybe_test_agrees None checked h = tt
  maybe_test_agrees (Some x) checked h = test_agrees x checked h

  returned_agrees : (x : CoreTree) → IsReturned u g (Some x) → ExpressionIsKnown p f x → ExpressionAgrees p f x
  returned_agrees x checked h = h.agrees (valued_is_used x (valued_alike (type_of x) (result_type g.of) checked.1.1 checked.1.0))

  return_agrees : (x : CoreTree) (is : Bool) → is_record f.result ≡ is → IsReturned u g (Some x) → ExpressionIsKnown p f x → ReturnAgreesBy is p f e x
  return_agrees x true is checked h = others.structures x checked is (returned_agrees x checked h)
  return_agrees x false is checked h = (returned_agrees x checked h).value

  places_agree : (size : ℕ) (places : List (FilledOf CType)) → AreFilled u g.locals size places → EachIs (PlaceIsKnown p f) places → EachIs (PlaceAgrees p f) places
  places_agree size [] checked h = tt
  places_agree size (x ∷ xs) checked h = (h.0.agrees (filled_is_used u g.locals x.of x.value checked.0.0 checked.0.1.0), places_agree size xs checked.1 h.1)

  mutual
    pub parts_agree : (t : StmtTree) → IsStmt u g ns t → HasWordCases t → EachExpr (ExpressionIsKnown p f) (PlaceIsKnown p f) t → PartsAgree p f e t
    parts_agree stmt.Nothing c w h = tt
    parts_agree (stmt.Expression x) c w h = h.effect
    parts_agree (stmt.Initialise local clears places) c w h = others.initialisers local clears places c (places_agree c.2.0 places c.2.2 h)
    parts_agree (stmt.Block first locals ts) c w h = all_agree ts c.1 w h
    parts_agree (stmt.If x t v) c w h = (test_agrees x c.0 h.0, (parts_agree t c.1.0 w.0 h.1.0, parts_agree v c.1.1 w.1 h.1.1))
    parts_agree (stmt.While x t) c w h = (test_agrees x c.0 h.0, parts_agree t c.1 w h.1)
    parts_agree (stmt.Do t x) c w h = (parts_agree t c.0 w h.0, test_agrees x c.1 h.1)
    parts_agree (stmt.For a b d t) c w h = (maybe_agrees a h.0, (maybe_test_agrees b c.1.0 h.1.0, (maybe_agrees d h.1.1.0, parts_agree t c.1.1.1 w h.1.1.1)))
    parts_agree (stmt.Switch x cases default t) c w h =
        (others.searches x cases default c.0 c.1.0 c.1.1.0 w.0 (h.0.agrees (valued_is_used x (promoted_valued (type_of x) c.1.0))), (c.1.1.1.0, (c.1.1.1.1.0, parts_agree t c.1.1.1.1.1 w.1 h.1)))
    parts_agree (stmt.Label n t) c w h = parts_agree t c w h
    parts_agree (stmt.Goto n) c w h = tt
    parts_agree stmt.Break c w h = tt
    parts_agree stmt.Continue c w h = tt
    parts_agree (stmt.Return None) c w h = tt
    parts_agree (stmt.Return (Some x)) c w h = return_agrees x (is_record f.result) refl c h

    all_agree : (ts : StmtTrees) → AreStmts u g ns ts → AllHaveWordCases ts → EachExprs (ExpressionIsKnown p f) (PlaceIsKnown p f) ts → AllPartsAgree p f e ts
    all_agree stmt.NoStmt c w h = tt
    all_agree (stmt.Stmts t ts) c w h = (parts_agree t c.0 w.0 h.0, all_agree ts c.1 w.1 h.1)
