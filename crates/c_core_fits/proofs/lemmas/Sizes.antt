-- The copies of structures that calls pass and give have sizes.
use Rattle.std.proofs.Common.{◌≡◌, ℕ, ◌+◌, Bool, true, false, not, ◌&&◌, ◌||◌, List, [], ◌∷◌, ◌++◌, map, refl, sym}
use Rattle.std.specs.Prelude.{IfSome, Option, Some, None, if◌then◌else◌}
use Rattle.c_types.specs.CType.{CType, Plain, Array, Simple, Pointer, Function, Structure, Union, Enumeration, CTypes, NoType, And, Parameters, Open, Listed, unqualified}
use Rattle.c_types.specs.Layout.{Tag}
use Rattle.c_meaning.specs.declared.core_expr.CoreKind.{CoreKind}
use Rattle.c_meaning.specs.declared.core_expr.CoreKind.TheVariants as kind
use Rattle.c_meaning.specs.Copies.{LocalAt, all_copied, all_copies, all_expressions, copied, copies_in, copies_in_all, expressions, locals_from, maybe, own_copies}
use Rattle.c_meaning.specs.CoreTrees.{Core, NoCore, Cores, type_of}
use Rattle.c_meaning.specs.Each.{EachIs}
use Rattle.c_meaning.specs.Fits.{AllFit, AreArguments, AreListed, AreOpen, Fits, IsGiven, IsOpenLeaf, IsRow, is_whole}
use Rattle.c_meaning.specs.Rows.{parameters_type}
use Rattle.c_meaning.specs.StmtTrees.{FilledOf, StmtOf, Nothing, Expression, Initialise, Block, If, While, Do, For, Switch, Label, Goto, Break, Continue, Return, StmtsOf, NoStmt, Stmts}
use Rattle.c_meaning.specs.Types.{has_size, is_record, is_scalar, target}
use Rattle.c_meaning.specs.Values.{CoreTree, CoreTrees}
use Rattle.c_units.specs.Wholes.{copied_types}
use Rattle.c_fits.proofs.lemmas.Booleans.{never}
use Rattle.c_fits.proofs.lemmas.DeclaredFits.{each_join}
use Rattle.c_fits.specs.OpenDeclares.{IsOpenLocal}
use Rattle.c_fits.specs.OpenPlaces.{AreOpenFilled}
use Rattle.c_unit_fits.specs.OpenStmts.{AreOpenStmts, IsOpenReturned, IsOpenStmt, IsOpenTest, IsOpenValue}
use Rattle.c_core_fits.proofs.lemmas.Copies.{copies_join, types_at}

module _ (tags : List Tag) where
  -- a structure's size, where it is whole
  record_size : (t : CType) → is_whole tags t ≡ true → is_record t ≡ true → has_size tags (unqualified t) ≡ true
  record_size (Plain q (Structure n)) h e = h
  record_size (Plain q (Union n)) h e = h
  record_size (Plain q (Simple b)) h e = never (sym e)
  record_size (Plain q (Pointer b)) h e = never (sym e)
  record_size (Plain q (Function r ps)) h e = never (sym e)
  record_size (Plain q (Enumeration n)) h e = never (sym e)
  record_size (Array t n) h e = never (sym e)

  given_whole : (t : CType) → IsGiven tags t → is_record t ≡ true → is_whole tags t ≡ true
  given_whole t h e = by (is_scalar t) (is_record t) (has_size tags t) h e
    where
      by : (a b c : Bool) → (b && not c) ≡ false → b ≡ true → (a || (b && c)) ≡ true
      by true b c h e = refl
      by false true true h e = refl
      by false true false h e = never h
      by false false c h e = never (sym e)

  copied_sized : (t : CType) → (is_record t ≡ true → is_whole tags t ≡ true) → EachIs (IsOpenLocal tags) (copied t)
  copied_sized t h = by (is_record t) refl
    where
      by : (b : Bool) → is_record t ≡ b → EachIs (IsOpenLocal tags) (if b then unqualified t ∷ [] else [])
      by true e = (record_size t (h e) e, tt)
      by false e = tt

  open_sized : (vs : CoreTrees) → AreOpen tags vs → EachIs (IsOpenLocal tags) (all_copied vs)
  open_sized NoCore h = tt
  open_sized (Cores v vs) h = each_join (IsOpenLocal tags) (copied (type_of v)) (all_copied vs) (copied_sized (type_of v) (λ e. h.0)) (open_sized vs h.1.1)

  listed_sized : (ps : CTypes) (more : Bool) (vs : CoreTrees) → AreListed tags ps more vs → EachIs (IsOpenLocal tags) (all_copied vs)
  listed_sized NoType more NoCore h = tt
  listed_sized NoType more (Cores v vs) h = open_sized (Cores v vs) h.1
  listed_sized (And p ps) more NoCore h = absurd h
  listed_sized (And p ps) more (Cores v vs) h =
      each_join (IsOpenLocal tags) (copied (type_of v)) (all_copied vs) (copied_sized (type_of v) (λ e. h.0)) (listed_sized ps more vs h.1.1)

  arguments_sized : (ps : Parameters) (vs : CoreTrees) → AreArguments tags ps vs → EachIs (IsOpenLocal tags) (all_copied vs)
  arguments_sized Open vs h = open_sized vs h
  arguments_sized (Listed ps more) vs h = listed_sized ps more vs h

  -- a copy has a size
  abbrev IsSized : LocalAt → Type 0
  IsSized l = IsOpenLocal tags l.of

  from_sized : (n : ℕ) (ts : List CType) → EachIs (IsOpenLocal tags) ts → EachIs IsSized (locals_from n ts)
  from_sized n [] h = tt
  from_sized n (t ∷ ts) h = (h.0, from_sized (n + 1) ts h.1)

  own_sized : (what : CoreKind) (of : CType) (kids : CoreTrees) → IsRow IsOpenLeaf tags what of kids → EachIs IsSized (own_copies what of kids)
  own_sized (kind.Call before) of NoCore h = tt
  own_sized (kind.Call before) of (Cores f vs) h =
      from_sized before (all_copied vs ++ copied of)
      (each_join (IsOpenLocal tags) (all_copied vs) (copied of) (arguments_sized (parameters_type (target (type_of f))) vs h.1.1.1.1) (copied_sized of (given_whole of h.1.1.1.0)))
  own_sized what of kids h = tt

  mutual
    pub copies_sized : (c : CoreTree) → Fits IsOpenLeaf tags c → EachIs IsSized (copies_in c)
    copies_sized (Core what of line kids) h = each_join IsSized (own_copies what of kids) (copies_in_all kids) (own_sized what of kids h.1.1) (all_copies_sized kids h.0)

    all_copies_sized : (cs : CoreTrees) → AllFit IsOpenLeaf tags cs → EachIs IsSized (copies_in_all cs)
    all_copies_sized NoCore h = tt
    all_copies_sized (Cores c cs) h = each_join IsSized (copies_in c) (copies_in_all cs) (copies_sized c h.0) (all_copies_sized cs h.1)

  -- ---- those of statements

  abbrev AreSized : List CoreTree → Type 0
  AreSized cs = EachIs IsSized (all_copies cs)

  first_sized : (c : CoreTree) (cs : List CoreTree) → Fits IsOpenLeaf tags c → AreSized cs → AreSized (c ∷ cs)
  first_sized c cs h k = each_join IsSized (copies_in c) (all_copies cs) (copies_sized c h) k

  both_sized : (cs ds : List CoreTree) → AreSized cs → AreSized ds → AreSized (cs ++ ds)
  both_sized cs ds h k = rw (copies_join cs ds) (each_join IsSized (all_copies cs) (all_copies ds) h k)

  value_sized : (c : Option CoreTree) → IfSome c (IsOpenValue tags) → AreSized (maybe c)
  value_sized (Some c) h = first_sized c [] h.0 tt
  value_sized None h = tt

  test_sized : (c : Option CoreTree) → IfSome c (IsOpenTest tags) → AreSized (maybe c)
  test_sized (Some c) h = first_sized c [] h.0.0 tt
  test_sized None h = tt

  returned_sized : (result : CType) (c : Option CoreTree) → IsOpenReturned tags result c → AreSized (maybe c)
  returned_sized result (Some c) h = first_sized c [] h.0.0 tt
  returned_sized result None h = tt

  places_sized : (size : ℕ) (ps : List (FilledOf CType)) → AreOpenFilled tags size ps → AreSized (map (λ (p : FilledOf CType). p.value) ps)
  places_sized size [] h = tt
  places_sized size (p ∷ ps) h = first_sized p.value (map (λ (p : FilledOf CType). p.value) ps) h.0.0 (places_sized size ps h.1)

  mutual
    pub stmt_sized : (result : CType) (s : StmtOf CType) → IsOpenStmt tags result s → AreSized (expressions s)
    stmt_sized result Nothing h = tt
    stmt_sized result (Expression e) h = first_sized e [] h.0 tt
    stmt_sized result (Initialise local zero ps) h = places_sized h.1.0 ps h.1.2
    stmt_sized result (Block first locals ss) h = stmts_sized result ss h
    stmt_sized result (If e s t) h =
        first_sized e (expressions s ++ expressions t) h.0.0.0 (both_sized (expressions s) (expressions t) (stmt_sized result s h.1.0) (stmt_sized result t h.1.1))
    stmt_sized result (While e s) h = first_sized e (expressions s) h.0.0.0 (stmt_sized result s h.1)
    stmt_sized result (Do s e) h = both_sized (expressions s) (e ∷ []) (stmt_sized result s h.0) (first_sized e [] h.1.0.0 tt)
    stmt_sized result (For a b c s) h =
        both_sized (maybe a ++ maybe b ++ maybe c) (expressions s)
        (both_sized (maybe a ++ maybe b) (maybe c) (both_sized (maybe a) (maybe b) (value_sized a h.0) (test_sized b h.1.0)) (value_sized c h.1.1.0)) (stmt_sized result s h.1.1.1)
    stmt_sized result (Switch e cases default s) h = first_sized e (expressions s) h.0.0 (stmt_sized result s h.1.1)
    stmt_sized result (Label n s) h = stmt_sized result s h
    stmt_sized result (Goto n) h = tt
    stmt_sized result Break h = tt
    stmt_sized result Continue h = tt
    stmt_sized result (Return e) h = returned_sized result e h

    stmts_sized : (result : CType) (ss : StmtsOf CType) → AreOpenStmts tags result ss → AreSized (all_expressions ss)
    stmts_sized result NoStmt h = tt
    stmts_sized result (Stmts s ss) h = both_sized (expressions s) (all_expressions ss) (stmt_sized result s h.0) (stmts_sized result ss h.1)

  types_sized : (ls : List LocalAt) → EachIs IsSized ls → EachIs (IsOpenLocal tags) (types_at ls)
  types_sized [] h = tt
  types_sized (l ∷ ls) h = (h.0, types_sized ls h.1)

  -- so the locals behind a function's own have sizes
  pub copied_types_sized : (result : CType) (s : StmtOf CType) → IsOpenStmt tags result s → EachIs (IsOpenLocal tags) (copied_types s)
  copied_types_sized result s h = types_sized (all_copies (expressions s)) (stmt_sized result s h)
