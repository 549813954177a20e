-- Statements that fit and have their shape do so when they are made whole.
use Rattle.std.proofs.Common.{◌≡◌, ℕ, List, refl, ◌∙◌}
use Rattle.std.specs.Prelude.{◌+◌, IfSome, Option, Some, None, length}
use Rattle.c_types.specs.CType.{CType}
use Rattle.c_meaning.specs.declared.core_expr.CoreKind.{CoreKind}
use Rattle.c_meaning.specs.Rows.{result_type}
use Rattle.c_meaning.specs.StmtTrees.{StmtOf, Nothing, Expression, Initialise, Block, If, While, Do, For, Switch, Label, Goto, Break, Continue, Return, StmtsOf, NoStmt, Stmts}
use Rattle.c_meaning.specs.Units.{AreStmts, FunctionTree, IsLeaf, IsReturned, IsStmt, IsTest, IsValue, UnitTree, all_labels, labels}
use Rattle.c_meaning.specs.Values.{CoreTree}
use Rattle.c_units.specs.Wholes.{copies, placed, placed_stmt, placed_stmts, some_copies, some_placed, some_whole, stmt_copies, whole, whole_stmt, whole_stmts}
use Rattle.c_unit_fits.specs.OpenStmts.{AreOpenStmts, IsOpenReturned, IsOpenStmt, IsOpenTest, IsOpenValue}
use Rattle.c_unit_fits.specs.Shapes.{AreShaped, IsShaped}
use Rattle.c_whole_fits.specs.There.{IsMeant, NamesAreThere, StmtIsThere, StmtsAreThere}
use Rattle.c_whole_fits.proofs.lemmas.Placed.{placed_type, placed_value}
use Rattle.c_whole_fits.proofs.lemmas.Stored.{placed_expr, placed_of, whole_of}
use Rattle.c_whole_fits.proofs.lemmas.Wholes.{whole_fits, whole_type, whole_value}

-- ---- labels

mutual
  pub whole_labels : (meant : ℕ → CoreKind) (texts : List (List ℕ)) (s : StmtOf CType) → labels (whole_stmt meant texts s) ≡ labels s
  whole_labels meant texts (Block first locals ss) = all_whole_labels meant texts ss
  whole_labels meant texts (If e s t) = rw (whole_labels meant texts s, whole_labels meant texts t) refl
  whole_labels meant texts (While e s) = whole_labels meant texts s
  whole_labels meant texts (Do s e) = whole_labels meant texts s
  whole_labels meant texts (For a b c s) = whole_labels meant texts s
  whole_labels meant texts (Switch e cases default s) = whole_labels meant texts s
  whole_labels meant texts (Label n s) = rw (whole_labels meant texts s) refl
  whole_labels meant texts s = refl

  all_whole_labels : (meant : ℕ → CoreKind) (texts : List (List ℕ)) (ss : StmtsOf CType) → all_labels (whole_stmts meant texts ss) ≡ all_labels ss
  all_whole_labels meant texts NoStmt = refl
  all_whole_labels meant texts (Stmts s ss) = rw (whole_labels meant texts s, all_whole_labels meant texts ss) refl

mutual
  pub placed_labels : (n : ℕ) (s : StmtOf CType) → labels (placed_stmt n s) ≡ labels s
  placed_labels n (Block first locals ss) = all_placed_labels n ss
  placed_labels n (If e s t) = rw (placed_labels (n + copies e) s, placed_labels (n + copies e + stmt_copies s) t) refl
  placed_labels n (While e s) = placed_labels (n + copies e) s
  placed_labels n (Do s e) = placed_labels n s
  placed_labels n (For a b c s) = placed_labels (n + some_copies a + some_copies b + some_copies c) s
  placed_labels n (Switch e cases default s) = placed_labels (n + copies e) s
  placed_labels n (Label l s) = rw (placed_labels n s) refl
  placed_labels n s = refl

  all_placed_labels : (n : ℕ) (ss : StmtsOf CType) → all_labels (placed_stmts n ss) ≡ all_labels ss
  all_placed_labels n NoStmt = refl
  all_placed_labels n (Stmts s ss) = rw (placed_labels n s, all_placed_labels (n + stmt_copies s) ss) refl

-- ---- made whole

module _ (u : UnitTree) (f : FunctionTree) (meant : ℕ → CoreKind) (texts : List (List ℕ)) (p : IsMeant (IsLeaf u f.locals) meant) where
  whole_is_value : (c : CoreTree) → IsOpenValue u.tags c → NamesAreThere (IsLeaf u f.locals) meant texts c → IsValue u f.locals (whole meant texts c)
  whole_is_value c h t = (whole_fits (IsLeaf u f.locals) meant texts u.tags p c h.0 t, whole_value (IsLeaf u f.locals) meant texts u.tags p c h.0 t ∙ h.1)

  whole_is_test : (c : CoreTree) → IsOpenTest u.tags c → NamesAreThere (IsLeaf u f.locals) meant texts c → IsTest u f.locals (whole meant texts c)
  whole_is_test c h t = (whole_is_value c h.0 t, rw (whole_type meant texts c) h.1)

  whole_maybe_value : (c : Option CoreTree) → IfSome c (IsOpenValue u.tags) → IfSome c (NamesAreThere (IsLeaf u f.locals) meant texts) → IfSome (some_whole meant texts c) (IsValue u f.locals)
  whole_maybe_value (Some c) h t = whole_is_value c h t
  whole_maybe_value None h t = tt

  whole_maybe_test : (c : Option CoreTree) → IfSome c (IsOpenTest u.tags) → IfSome c (NamesAreThere (IsLeaf u f.locals) meant texts) → IfSome (some_whole meant texts c) (IsTest u f.locals)
  whole_maybe_test (Some c) h t = whole_is_test c h t
  whole_maybe_test None h t = tt

  whole_returned : (c : Option CoreTree) → IsOpenReturned u.tags (result_type f.of) c → IfSome c (NamesAreThere (IsLeaf u f.locals) meant texts) → IsReturned u f (some_whole meant texts c)
  whole_returned (Some c) h t = (whole_is_value c h.0 t, (h.1.0, rw (whole_type meant texts c) h.1.1))
  whole_returned None h t = tt

  mutual
    pub whole_stmt_fits : (ns : List ℕ) (s : StmtOf CType) → IsOpenStmt u.tags (result_type f.of) s → IsShaped (length f.locals) ns s → StmtIsThere u f meant texts s → IsStmt u f ns (whole_stmt meant texts s)
    whole_stmt_fits ns Nothing h k t = tt
    whole_stmt_fits ns (Expression e) h k t = whole_is_value e h t
    whole_stmt_fits ns (Initialise local zero ps) h k t = let o = t.0 in (o.0, o.1, whole_of u f.locals meant texts p o.0 ps o.2 t.1)
    whole_stmt_fits ns (Block first locals ss) h k t = (k.0, whole_stmts_fit ns ss h k.1 t)
    whole_stmt_fits ns (If e s r) h k t = (whole_is_test e h.0 t.0, (whole_stmt_fits ns s h.1.0 k.0 t.1.0, whole_stmt_fits ns r h.1.1 k.1 t.1.1))
    whole_stmt_fits ns (While e s) h k t = (whole_is_test e h.0 t.0, whole_stmt_fits ns s h.1 k t.1)
    whole_stmt_fits ns (Do s e) h k t = (whole_stmt_fits ns s h.0 k t.0, whole_is_test e h.1 t.1)
    whole_stmt_fits ns (For a b c s) h k t =
        (whole_maybe_value a h.0 t.0, (whole_maybe_test b h.1.0 t.1.0, (whole_maybe_value c h.1.1.0 t.1.1.0, whole_stmt_fits ns s h.1.1.1 k t.1.1.1)))
    whole_stmt_fits ns (Switch e cases default s) h k t = (
      whole_is_value e h.0 t.0,
      (
        rw (whole_type meant texts e) h.1.0,
        (k.0, rw (whole_labels meant texts s) (k.1.0, (k.1.1.0, whole_stmt_fits ns s h.1.1 k.1.1.1 t.1))),
      ),
    )
    whole_stmt_fits ns (Label n s) h k t = whole_stmt_fits ns s h k t
    whole_stmt_fits ns (Goto n) h k t = k
    whole_stmt_fits ns Break h k t = tt
    whole_stmt_fits ns Continue h k t = tt
    whole_stmt_fits ns (Return e) h k t = whole_returned e h t

    pub whole_stmts_fit : (ns : List ℕ) (ss : StmtsOf CType) → AreOpenStmts u.tags (result_type f.of) ss → AreShaped (length f.locals) ns ss → StmtsAreThere u f meant texts ss → AreStmts u f ns (whole_stmts meant texts ss)
    whole_stmts_fit ns NoStmt h k t = tt
    whole_stmts_fit ns (Stmts s ss) h k t = (whole_stmt_fits ns s h.0 k.0 t.0, whole_stmts_fit ns ss h.1 k.1 t.1)

-- ---- with places of copies

module _ (u : UnitTree) (f : FunctionTree) where
  placed_is_value : (n : ℕ) (c : CoreTree) → IsValue u f.locals c → IsValue u f.locals (placed n c)
  placed_is_value n c h = (placed_expr u f.locals n c h.0, placed_value (IsLeaf u f.locals) u.tags (λ i m of e. e) n c h.0 ∙ h.1)

  placed_is_test : (n : ℕ) (c : CoreTree) → IsTest u f.locals c → IsTest u f.locals (placed n c)
  placed_is_test n c h = (placed_is_value n c h.0, rw (placed_type n c) h.1)

  placed_maybe_value : (n : ℕ) (c : Option CoreTree) → IfSome c (IsValue u f.locals) → IfSome (some_placed n c) (IsValue u f.locals)
  placed_maybe_value n (Some c) h = placed_is_value n c h
  placed_maybe_value n None h = tt

  placed_maybe_test : (n : ℕ) (c : Option CoreTree) → IfSome c (IsTest u f.locals) → IfSome (some_placed n c) (IsTest u f.locals)
  placed_maybe_test n (Some c) h = placed_is_test n c h
  placed_maybe_test n None h = tt

  placed_returned : (n : ℕ) (c : Option CoreTree) → IsReturned u f c → IsReturned u f (some_placed n c)
  placed_returned n (Some c) h = (placed_is_value n c h.0, (h.1.0, rw (placed_type n c) h.1.1))
  placed_returned n None h = tt

  mutual
    pub placed_stmt_fits : (n : ℕ) (ns : List ℕ) (s : StmtOf CType) → IsStmt u f ns s → IsStmt u f ns (placed_stmt n s)
    placed_stmt_fits n ns Nothing h = tt
    placed_stmt_fits n ns (Expression e) h = placed_is_value n e h
    placed_stmt_fits n ns (Initialise local zero ps) h = (h.0, h.1, placed_of u f.locals n h.0 ps h.2)
    placed_stmt_fits n ns (Block first locals ss) h = (h.0, placed_stmts_fit n ns ss h.1)
    placed_stmt_fits n ns (If e s t) h =
        (placed_is_test n e h.0, (placed_stmt_fits (n + copies e) ns s h.1.0, placed_stmt_fits (n + copies e + stmt_copies s) ns t h.1.1))
    placed_stmt_fits n ns (While e s) h = (placed_is_test n e h.0, placed_stmt_fits (n + copies e) ns s h.1)
    placed_stmt_fits n ns (Do s e) h = (placed_stmt_fits n ns s h.0, placed_is_test (n + stmt_copies s) e h.1)
    placed_stmt_fits n ns (For a b c s) h = (
      placed_maybe_value n a h.0,
      (
        placed_maybe_test (n + some_copies a) b h.1.0,
        (
          placed_maybe_value (n + some_copies a + some_copies b) c h.1.1.0,
          placed_stmt_fits (n + some_copies a + some_copies b + some_copies c) ns s h.1.1.1,
        ),
      ),
    )
    placed_stmt_fits n ns (Switch e cases default s) h = (
      placed_is_value n e h.0,
      (
        rw (placed_type n e) h.1.0,
        (h.1.1.0, rw (placed_labels (n + copies e) s) (h.1.1.1.0, (h.1.1.1.1.0, placed_stmt_fits (n + copies e) ns s h.1.1.1.1.1))),
      ),
    )
    placed_stmt_fits n ns (Label l s) h = placed_stmt_fits n ns s h
    placed_stmt_fits n ns (Goto l) h = h
    placed_stmt_fits n ns Break h = tt
    placed_stmt_fits n ns Continue h = tt
    placed_stmt_fits n ns (Return e) h = placed_returned n e h

    pub placed_stmts_fit : (n : ℕ) (ns : List ℕ) (ss : StmtsOf CType) → AreStmts u f ns ss → AreStmts u f ns (placed_stmts n ss)
    placed_stmts_fit n ns NoStmt h = tt
    placed_stmts_fit n ns (Stmts s ss) h = (placed_stmt_fits n ns s h.0, placed_stmts_fit (n + stmt_copies s) ns ss h.1)
