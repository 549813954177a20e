-- What the names and string literals of a unit become when it is made whole is there.
use Rattle.std.proofs.Common.{◌≡◌, ℕ, ◌+◌, Bool, true, false, not, ◌||◌, List, [], ◌∷◌, ◌++◌, length, refl, sym, subst, arith, eq-eqb}
use Rattle.std.specs.Prelude.{IfSome, Option, Some, None, is_some, slice_get}
use Rattle.c_types.specs.CType.{CType}
use Rattle.c_types.specs.Compatible.{compatible}
use Rattle.c_meaning.specs.declared.built_in.BuiltIn.{BuiltIn}
use Rattle.c_meaning.specs.declared.core_expr.CoreKind.{CoreKind}
use Rattle.c_meaning.specs.declared.core_expr.CoreKind.TheVariants as kind
use Rattle.c_meaning.specs.CoreTrees.{Core, NoCore, Cores}
use Rattle.c_meaning.specs.Declarations.{or_zero}
use Rattle.c_meaning.specs.Each.{EachIs}
use Rattle.c_meaning.specs.Fits.{AllFit, Fits, IsOpenLeaf}
use Rattle.c_meaning.specs.State.{State}
use Rattle.c_meaning.specs.StmtTrees.{FilledOf, StmtOf, Nothing, Expression, Initialise, Block, If, While, Do, For, Switch, Label, Goto, Break, Continue, Return, StmtsOf, NoStmt, Stmts}
use Rattle.c_meaning.specs.Units.{FunctionTree, IsLeaf, text_type}
use Rattle.c_meaning.specs.Values.{CoreTree, CoreTrees}
use Rattle.c_units.specs.Ends.{all_uses, built_in_of, is_defined_in, is_nothing_in, place_uses, some_uses, stmt_uses, stmts_uses, uses}
use Rattle.c_units.specs.Externals.{Parts}
use Rattle.c_units.specs.Functions.{place_in}
use Rattle.c_units.specs.Wholes.{all_literals, function_from, literals, object_from, or_built_in, or_object, or_symbol, place_literals, some_literals, stands_for, stmt_literals, stmts_literals, texts_of, whole_function, whole_unit}
use Rattle.c_fits.specs.OpenPlaces.{AreOpenFilled}
use Rattle.c_fits.proofs.lemmas.Booleans.{never}
use Rattle.c_unit_fits.specs.OpenStmts.{AreOpenStmts, IsOpenReturned, IsOpenStmt, IsOpenTest, IsOpenValue}
use Rattle.c_whole_fits.specs.There.{AllAreThere, NamesAreThere, PlacesAreThere, StmtIsThere, StmtsAreThere}
use Rattle.c_typing_steps.specs.Names.{EachName, EachNameIn, EachNameInAll, EachNameOf, EachNameStored}
use Rattle.c_linked_names.specs.LinkedNames.{IfSymbol, SymbolFits}
use Rattle.c_local_names.specs.LocalNames.{AllFillOwn, FillsOwn, IfLocal}
use Rattle.c_core_fits.proofs.lemmas.Found.{IsKnown, function_found, no_function, no_object, object_found, whole_function_at, whole_object_at}
use Rattle.c_core_fits.proofs.lemmas.Lists.{each_left, each_right}
use Rattle.c_core_fits.proofs.lemmas.Texts.{IsText}

-- ---- symbols

module _ (s : State) (p : Parts) (locals : List CType) where
  some_function : (n id : ℕ) (of : CType) → function_from 0 p.functions id ≡ Some n → SymbolFits s p id of → IsLeaf (whole_unit s p) locals (kind.Function n) of
  some_function n id of e h =
      let f = function_found 0 p.functions id n e in
      let z : f.0 ≡ n = let g = f.1 in omega (arith, g) in
      let x : FunctionTree = whole_function (stands_for s p) (texts_of p) f.2.0.function in
      (x, subst (λ k. slice_get (whole_unit s p).functions k ≡ Some x) z (whole_function_at (stands_for s p) (texts_of p) p.functions f.0 f.2.0 f.2.1), h.functions f.0 f.2.0 f.2.1 f.2.2)

  some_object : (n id : ℕ) (of : CType) → object_from 0 p.objects id ≡ Some n → SymbolFits s p id of → IsLeaf (whole_unit s p) locals (kind.Object n) of
  some_object n id of e h =
      let o = object_found 0 p.objects id n e in
      let z : o.0 ≡ n = let g = o.1 in omega (arith, g) in
      let a = whole_object_at s (stands_for s p) (texts_of p) 0 p.objects o.0 o.2.0 o.2.1 in
      (a.0, subst (λ k. slice_get (whole_unit s p).objects k ≡ Some a.0) z a.1, subst (λ t. compatible of t ≡ true) (sym a.2) (h.objects o.0 o.2.0 o.2.1 o.2.2))

  not_defined : (id : ℕ) → function_from 0 p.functions id ≡ None → object_from 0 p.objects id ≡ None → is_defined_in p id ≡ false
  not_defined id f o = rw (no_function 0 p.functions id f, no_object 0 p.objects id o) refl

  built_in_there : (id : ℕ) (of : CType) → is_defined_in p id ≡ false → SymbolFits s p id of → is_nothing_in s p id ≡ false → (b : Option BuiltIn) → built_in_of s id ≡ b → IsLeaf (whole_unit s p) locals (or_symbol b id) of
  built_in_there id of d h k (Some b) e = h.built_in b d e
  built_in_there id of d h k None e = never (subst (λ (b : Option BuiltIn). not (is_some b) ≡ false) e (subst (λ x. not (x || is_some (built_in_of s id)) ≡ false) d k))

  object_there : (id : ℕ) (of : CType) → function_from 0 p.functions id ≡ None → SymbolFits s p id of → is_nothing_in s p id ≡ false → (n : Option ℕ) → object_from 0 p.objects id ≡ n → IsLeaf (whole_unit s p) locals (or_built_in s n id) of
  object_there id of f h k (Some n) e = some_object n id of e h
  object_there id of f h k None e = built_in_there id of (not_defined id f e) h k (built_in_of s id) refl

  function_there : (id : ℕ) (of : CType) → SymbolFits s p id of → is_nothing_in s p id ≡ false → (n : Option ℕ) → function_from 0 p.functions id ≡ n → IsLeaf (whole_unit s p) locals (or_object s p n id) of
  function_there id of h k (Some n) e = some_function n id of e h
  function_there id of h k None e = object_there id of e h k (object_from 0 p.objects id) refl

  pub symbol_there : (id : ℕ) (of : CType) → SymbolFits s p id of → is_nothing_in s p id ≡ false → IsLeaf (whole_unit s p) locals (stands_for s p id) of
  symbol_there id of h k = function_there id of h k (function_from 0 p.functions id) refl

  -- ---- string literals

  text_compatible : (bytes : List ℕ) → compatible (text_type bytes) (text_type bytes) ≡ true
  text_compatible bytes = eq-eqb (length bytes + 1) (length bytes + 1) refl

  pub literal_there : (bytes : List ℕ) (of : CType) → of ≡ text_type bytes → IsText (texts_of p) bytes → IsLeaf (whole_unit s p) locals (kind.Text (or_zero (place_in (texts_of p) bytes))) of
  literal_there bytes of e h = (bytes, h, subst (λ t. compatible t (text_type bytes) ≡ true) (sym e) (text_compatible bytes))

  -- ---- expressions

  abbrev AreKnown : List (ℕ × ℕ) → Type 0
  AreKnown = EachIs (IsKnown s p)

  abbrev AreTexts : List (List ℕ) → Type 0
  AreTexts = EachIs (IsText (texts_of p))

  abbrev leaf : CoreKind → CType → Type 0
  leaf = IsLeaf (whole_unit s p) locals

  module _ (own : List CType) (more : (place : ℕ) (register : Bool) (of : CType) → IfLocal own (kind.Local place register) of → leaf (kind.Local place register) of) where
    mutual
      pub names_there : (c : CoreTree) → Fits IsOpenLeaf s.tags c → EachName (IfSymbol s p) c → EachName (IfLocal own) c → AreKnown (uses c) → AreTexts (literals c) → NamesAreThere leaf (stands_for s p) (texts_of p) c
      names_there (Core (kind.Symbol id) of line NoCore) f h l k t = (symbol_there id of h.0 k.0, tt)
      names_there (Core (kind.Symbol id) of line (Cores c cs)) f h l k t = absurd f.1.1
      names_there (Core (kind.Literal bytes) of line NoCore) f h l k t = (literal_there bytes of f.1.1 t.0, tt)
      names_there (Core (kind.Literal bytes) of line (Cores c cs)) f h l k t = absurd f.1.1
      names_there (Core (kind.Local place register) of line kids) f h l k t = (more place register of l.0, all_names_there kids f.0 h.1 l.1 k t)
      names_there (Core what of line kids) f h l k t = (tt, all_names_there kids f.0 h.1 l.1 k t)

      all_names_there : (cs : CoreTrees) → AllFit IsOpenLeaf s.tags cs → EachNameOf (IfSymbol s p) cs → EachNameOf (IfLocal own) cs → AreKnown (all_uses cs) → AreTexts (all_literals cs) → AllAreThere leaf (stands_for s p) (texts_of p) cs
      all_names_there NoCore f h l k t = tt
      all_names_there (Cores c cs) f h l k t = (
        names_there c f.0 h.0 l.0 (each_left (IsKnown s p) (uses c) (all_uses cs) k) (each_left (IsText (texts_of p)) (literals c) (all_literals cs) t),
        all_names_there cs f.1 h.1 l.1 (each_right (IsKnown s p) (uses c) (all_uses cs) k) (each_right (IsText (texts_of p)) (literals c) (all_literals cs) t),
      )

    pub places_there : (size : ℕ) (ps : List (FilledOf CType)) → AreOpenFilled s.tags size ps → EachNameStored (IfSymbol s p) ps → EachNameStored (IfLocal own) ps → AreKnown (place_uses ps) → AreTexts (place_literals ps)
        → PlacesAreThere leaf (stands_for s p) (texts_of p) ps
    places_there size [] f h l k t = tt
    places_there size (x ∷ xs) f h l k t = (
      names_there x.value f.0.0 h.0 l.0 (each_left (IsKnown s p) (uses x.value) (place_uses xs) k) (each_left (IsText (texts_of p)) (literals x.value) (place_literals xs) t),
      places_there size xs f.1 h.1 l.1 (each_right (IsKnown s p) (uses x.value) (place_uses xs) k) (each_right (IsText (texts_of p)) (literals x.value) (place_literals xs) t),
    )

-- ---- statements of a function with these locals and more

module _ (s : State) (p : Parts) (f : FunctionTree) (own : List CType) (more : (i : ℕ) (of : CType) → slice_get own i ≡ Some of → slice_get f.locals i ≡ Some of) where
  local_there : (place : ℕ) (register : Bool) (of : CType) → IfLocal own (kind.Local place register) of → IsLeaf (whole_unit s p) f.locals (kind.Local place register) of
  local_there place register of h = (h.0, more place h.0 h.1, h.2)

  abbrev AreThere : CoreTree → Type 0
  AreThere c = NamesAreThere (IsLeaf (whole_unit s p) f.locals) (stands_for s p) (texts_of p) c

  -- a part, of whose names all is known
  part_there : (c : CoreTree) → Fits IsOpenLeaf s.tags c → EachName (IfSymbol s p) c → EachName (IfLocal own) c → EachIs (IsKnown s p) (uses c) → EachIs (IsText (texts_of p)) (literals c) → AreThere c
  part_there = names_there s p f.locals own local_there

  value_there : (c : Option CoreTree) → IfSome c (IsOpenValue s.tags) → IfSome c (EachName (IfSymbol s p)) → IfSome c (EachName (IfLocal own)) → EachIs (IsKnown s p) (some_uses c) → EachIs (IsText (texts_of p)) (some_literals c) → IfSome c AreThere
  value_there (Some c) o h l k t = part_there c o.0 h l k t
  value_there None o h l k t = tt

  test_there : (c : Option CoreTree) → IfSome c (IsOpenTest s.tags) → IfSome c (EachName (IfSymbol s p)) → IfSome c (EachName (IfLocal own)) → EachIs (IsKnown s p) (some_uses c) → EachIs (IsText (texts_of p)) (some_literals c) → IfSome c AreThere
  test_there (Some c) o h l k t = part_there c o.0.0 h l k t
  test_there None o h l k t = tt

  returned_there : (result : CType) (c : Option CoreTree) → IsOpenReturned s.tags result c → IfSome c (EachName (IfSymbol s p)) → IfSome c (EachName (IfLocal own)) → EachIs (IsKnown s p) (some_uses c) → EachIs (IsText (texts_of p)) (some_literals c) → IfSome c AreThere
  returned_there result (Some c) o h l k t = part_there c o.0.0 h l k t
  returned_there result None o h l k t = tt

  -- what is known of two parts
  known_left : (xs ys : List (ℕ × ℕ)) → EachIs (IsKnown s p) (xs ++ ys) → EachIs (IsKnown s p) xs
  known_left xs ys = each_left (IsKnown s p) xs ys

  known_right : (xs ys : List (ℕ × ℕ)) → EachIs (IsKnown s p) (xs ++ ys) → EachIs (IsKnown s p) ys
  known_right xs ys = each_right (IsKnown s p) xs ys

  texts_left : (xs ys : List (List ℕ)) → EachIs (IsText (texts_of p)) (xs ++ ys) → EachIs (IsText (texts_of p)) xs
  texts_left xs ys = each_left (IsText (texts_of p)) xs ys

  texts_right : (xs ys : List (List ℕ)) → EachIs (IsText (texts_of p)) (xs ++ ys) → EachIs (IsText (texts_of p)) ys
  texts_right xs ys = each_right (IsText (texts_of p)) xs ys

  mutual
    pub stmt_there : (result : CType) (st : StmtOf CType) → IsOpenStmt s.tags result st → EachNameIn (IfSymbol s p) st → EachNameIn (IfLocal own) st → FillsOwn s.tags own st → EachIs (IsKnown s p) (stmt_uses st) → EachIs (IsText (texts_of p)) (stmt_literals st)
        → StmtIsThere (whole_unit s p) f (stands_for s p) (texts_of p) st
    stmt_there result Nothing o h l w k t = tt
    stmt_there result (Expression e) o h l w k t = part_there e o.0 h l k t
    stmt_there result (Initialise local zero ps) o h l w k t = (
      (w.0, more local w.0 w.1, w.2),
      places_there s p f.locals own local_there o.1.0 ps o.1.2 h l k t,
    )
    stmt_there result (Block first locals ss) o h l w k t = stmts_there result ss o h l w k t
    stmt_there result (If e a b) o h l w k t =
        let k1 = known_left (uses e ++ stmt_uses a) (stmt_uses b) k in
        let t1 = texts_left (literals e ++ stmt_literals a) (stmt_literals b) t in (
          part_there e o.0.0.0 h.0 l.0 (known_left (uses e) (stmt_uses a) k1) (texts_left (literals e) (stmt_literals a) t1),
          (
            stmt_there result a o.1.0 h.1.0 l.1.0 w.0 (known_right (uses e) (stmt_uses a) k1) (texts_right (literals e) (stmt_literals a) t1),
            stmt_there result b o.1.1 h.1.1 l.1.1 w.1 (known_right (uses e ++ stmt_uses a) (stmt_uses b) k) (texts_right (literals e ++ stmt_literals a) (stmt_literals b) t),
          ),
        )
    stmt_there result (While e a) o h l w k t = (
      part_there e o.0.0.0 h.0 l.0 (known_left (uses e) (stmt_uses a) k) (texts_left (literals e) (stmt_literals a) t),
      stmt_there result a o.1 h.1 l.1 w (known_right (uses e) (stmt_uses a) k) (texts_right (literals e) (stmt_literals a) t),
    )
    stmt_there result (Do a e) o h l w k t = (
      stmt_there result a o.0 h.0 l.0 w (known_left (stmt_uses a) (uses e) k) (texts_left (stmt_literals a) (literals e) t),
      part_there e o.1.0.0 h.1 l.1 (known_right (stmt_uses a) (uses e) k) (texts_right (stmt_literals a) (literals e) t),
    )
    stmt_there result (For a b c d) o h l w k t =
        let k2 = known_left (some_uses a ++ some_uses b ++ some_uses c) (stmt_uses d) k in
        let k1 = known_left (some_uses a ++ some_uses b) (some_uses c) k2 in
        let t2 = texts_left (some_literals a ++ some_literals b ++ some_literals c) (stmt_literals d) t in
        let t1 = texts_left (some_literals a ++ some_literals b) (some_literals c) t2 in (
          value_there a o.0 h.0 l.0 (known_left (some_uses a) (some_uses b) k1) (texts_left (some_literals a) (some_literals b) t1),
          (
            test_there b o.1.0 h.1.0 l.1.0 (known_right (some_uses a) (some_uses b) k1) (texts_right (some_literals a) (some_literals b) t1),
            (
              value_there c o.1.1.0 h.1.1.0 l.1.1.0 (known_right (some_uses a ++ some_uses b) (some_uses c) k2) (texts_right (some_literals a ++ some_literals b) (some_literals c) t2),
              stmt_there result d o.1.1.1 h.1.1.1 l.1.1.1 w (known_right (some_uses a ++ some_uses b ++ some_uses c) (stmt_uses d) k) (texts_right (some_literals a ++ some_literals b ++ some_literals c) (stmt_literals d) t),
            ),
          ),
        )
    stmt_there result (Switch e cases default a) o h l w k t = (
      part_there e o.0.0 h.0 l.0 (known_left (uses e) (stmt_uses a) k) (texts_left (literals e) (stmt_literals a) t),
      stmt_there result a o.1.1 h.1 l.1 w (known_right (uses e) (stmt_uses a) k) (texts_right (literals e) (stmt_literals a) t),
    )
    stmt_there result (Label n a) o h l w k t = stmt_there result a o h l w k t
    stmt_there result (Goto n) o h l w k t = tt
    stmt_there result Break o h l w k t = tt
    stmt_there result Continue o h l w k t = tt
    stmt_there result (Return e) o h l w k t = returned_there result e o h l k t

    stmts_there : (result : CType) (ss : StmtsOf CType) → AreOpenStmts s.tags result ss → EachNameInAll (IfSymbol s p) ss → EachNameInAll (IfLocal own) ss → AllFillOwn s.tags own ss → EachIs (IsKnown s p) (stmts_uses ss) → EachIs (IsText (texts_of p)) (stmts_literals ss)
        → StmtsAreThere (whole_unit s p) f (stands_for s p) (texts_of p) ss
    stmts_there result NoStmt o h l w k t = tt
    stmts_there result (Stmts a ss) o h l w k t = (
      stmt_there result a o.0 h.0 l.0 w.0 (known_left (stmt_uses a) (stmts_uses ss) k) (texts_left (stmt_literals a) (stmts_literals ss) t),
      stmts_there result ss o.1 h.1 l.1 w.1 (known_right (stmt_uses a) (stmts_uses ss) k) (texts_right (stmt_literals a) (stmts_literals ss) t),
    )
