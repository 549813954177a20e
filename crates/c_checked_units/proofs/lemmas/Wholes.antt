-- A statement that is made whole and whose calls name their copies has the same cases, and its jumps stand where they stood.
use Rattle.std.proofs.Common.{◌≤◌, ℕ, Bool, true, false, List, [], ◌∷◌, ◌+◌, length, sym, subst}
use Rattle.c_types.specs.CType.{CType}
use Rattle.c_meaning.specs.declared.core_expr.CoreKind.{CoreKind}
use Rattle.c_meaning.specs.Each.{EachIs}
use Rattle.c_meaning.specs.StmtTrees.{StmtOf, StmtsOf}
use Rattle.c_meaning.specs.StmtTrees as stmt
use Rattle.c_units.specs.Functions.{DefinedFunction}
use Rattle.c_units.specs.Wholes.{copies, placed_stmt, placed_stmts, some_copies, stmt_copies, whole_functions, whole_stmt, whole_stmts}
use Rattle.c_whole_fits.proofs.lemmas.Statements.{placed_labels, whole_labels}
use Rattle.c_stmts_agree.specs.CheckedParts.{AllHaveWordCases, HasWordCases}
use Rattle.c_stmts_agree.specs.Jumps.{AllStayWithin, StaysWithin}
use Rattle.c_checked_units.specs.Checked.{AllHaveOwnCases, HasOwnCases, HasOwnJumps}
use Rattle.c_checked_units.proofs.lemmas.Places.{IsOwnJumps}

-- ---- names and string literals

mutual
  whole_cases : (meant : ℕ → CoreKind) (texts : List (List ℕ)) (s : StmtOf CType) → HasWordCases s → HasWordCases (whole_stmt meant texts s)
  whole_cases meant texts (stmt.Block first locals ss) h = all_whole_cases meant texts ss h
  whole_cases meant texts (stmt.If e s t) h = (whole_cases meant texts s h.0, whole_cases meant texts t h.1)
  whole_cases meant texts (stmt.While e s) h = whole_cases meant texts s h
  whole_cases meant texts (stmt.Do s e) h = whole_cases meant texts s h
  whole_cases meant texts (stmt.For a b c s) h = whole_cases meant texts s h
  whole_cases meant texts (stmt.Switch e cases default s) h = (h.0, whole_cases meant texts s h.1)
  whole_cases meant texts (stmt.Label n s) h = whole_cases meant texts s h
  whole_cases meant texts s h = tt

  all_whole_cases : (meant : ℕ → CoreKind) (texts : List (List ℕ)) (ss : StmtsOf CType) → AllHaveWordCases ss → AllHaveWordCases (whole_stmts meant texts ss)
  all_whole_cases meant texts stmt.NoStmt h = tt
  all_whole_cases meant texts (stmt.Stmts s ss) h = (whole_cases meant texts s h.0, all_whole_cases meant texts ss h.1)

mutual
  whole_stays : (meant : ℕ → CoreKind) (texts : List (List ℕ)) (p q : Bool) (s : StmtOf CType) → StaysWithin p q s → StaysWithin p q (whole_stmt meant texts s)
  whole_stays meant texts p q (stmt.Block first locals ss) h = all_whole_stay meant texts p q ss h
  whole_stays meant texts p q (stmt.If e s t) h = (whole_stays meant texts p q s h.0, whole_stays meant texts p q t h.1)
  whole_stays meant texts p q (stmt.While e s) h = whole_stays meant texts true true s h
  whole_stays meant texts p q (stmt.Do s e) h = whole_stays meant texts true true s h
  whole_stays meant texts p q (stmt.For a b c s) h = whole_stays meant texts true true s h
  whole_stays meant texts p q (stmt.Switch e cases default s) h = whole_stays meant texts true q s h
  whole_stays meant texts p q (stmt.Label n s) h = whole_stays meant texts p q s h
  whole_stays meant texts p q stmt.Break h = h
  whole_stays meant texts p q stmt.Continue h = h
  whole_stays meant texts p q s h = tt

  all_whole_stay : (meant : ℕ → CoreKind) (texts : List (List ℕ)) (p q : Bool) (ss : StmtsOf CType) → AllStayWithin p q ss → AllStayWithin p q (whole_stmts meant texts ss)
  all_whole_stay meant texts p q stmt.NoStmt h = tt
  all_whole_stay meant texts p q (stmt.Stmts s ss) h = (whole_stays meant texts p q s h.0, all_whole_stay meant texts p q ss h.1)

mutual
  whole_labelled : (meant : ℕ → CoreKind) (texts : List (List ℕ)) (s : StmtOf CType) → HasOwnCases s → HasOwnCases (whole_stmt meant texts s)
  whole_labelled meant texts (stmt.Block first locals ss) h = all_whole_labelled meant texts ss h
  whole_labelled meant texts (stmt.If e s t) h = (whole_labelled meant texts s h.0, whole_labelled meant texts t h.1)
  whole_labelled meant texts (stmt.While e s) h = whole_labelled meant texts s h
  whole_labelled meant texts (stmt.Do s e) h = whole_labelled meant texts s h
  whole_labelled meant texts (stmt.For a b c s) h = whole_labelled meant texts s h
  whole_labelled meant texts (stmt.Switch e cases default s) h = (subst (λ (ls : List ℕ). length cases ≤ length ls) (sym (whole_labels meant texts s)) h.0, whole_labelled meant texts s h.1)
  whole_labelled meant texts (stmt.Label n s) h = whole_labelled meant texts s h
  whole_labelled meant texts s h = tt

  all_whole_labelled : (meant : ℕ → CoreKind) (texts : List (List ℕ)) (ss : StmtsOf CType) → AllHaveOwnCases ss → AllHaveOwnCases (whole_stmts meant texts ss)
  all_whole_labelled meant texts stmt.NoStmt h = tt
  all_whole_labelled meant texts (stmt.Stmts s ss) h = (whole_labelled meant texts s h.0, all_whole_labelled meant texts ss h.1)

-- ---- copies

mutual
  placed_cases : (n : ℕ) (s : StmtOf CType) → HasWordCases s → HasWordCases (placed_stmt n s)
  placed_cases n (stmt.Block first locals ss) h = all_placed_cases n ss h
  placed_cases n (stmt.If e s t) h = (placed_cases (n + copies e) s h.0, placed_cases (n + copies e + stmt_copies s) t h.1)
  placed_cases n (stmt.While e s) h = placed_cases (n + copies e) s h
  placed_cases n (stmt.Do s e) h = placed_cases n s h
  placed_cases n (stmt.For a b c s) h = placed_cases (n + some_copies a + some_copies b + some_copies c) s h
  placed_cases n (stmt.Switch e cases default s) h = (h.0, placed_cases (n + copies e) s h.1)
  placed_cases n (stmt.Label l s) h = placed_cases n s h
  placed_cases n s h = tt

  all_placed_cases : (n : ℕ) (ss : StmtsOf CType) → AllHaveWordCases ss → AllHaveWordCases (placed_stmts n ss)
  all_placed_cases n stmt.NoStmt h = tt
  all_placed_cases n (stmt.Stmts s ss) h = (placed_cases n s h.0, all_placed_cases (n + stmt_copies s) ss h.1)

mutual
  placed_stays : (n : ℕ) (p q : Bool) (s : StmtOf CType) → StaysWithin p q s → StaysWithin p q (placed_stmt n s)
  placed_stays n p q (stmt.Block first locals ss) h = all_placed_stay n p q ss h
  placed_stays n p q (stmt.If e s t) h = (placed_stays (n + copies e) p q s h.0, placed_stays (n + copies e + stmt_copies s) p q t h.1)
  placed_stays n p q (stmt.While e s) h = placed_stays (n + copies e) true true s h
  placed_stays n p q (stmt.Do s e) h = placed_stays n true true s h
  placed_stays n p q (stmt.For a b c s) h = placed_stays (n + some_copies a + some_copies b + some_copies c) true true s h
  placed_stays n p q (stmt.Switch e cases default s) h = placed_stays (n + copies e) true q s h
  placed_stays n p q (stmt.Label l s) h = placed_stays n p q s h
  placed_stays n p q stmt.Break h = h
  placed_stays n p q stmt.Continue h = h
  placed_stays n p q s h = tt

  all_placed_stay : (n : ℕ) (p q : Bool) (ss : StmtsOf CType) → AllStayWithin p q ss → AllStayWithin p q (placed_stmts n ss)
  all_placed_stay n p q stmt.NoStmt h = tt
  all_placed_stay n p q (stmt.Stmts s ss) h = (placed_stays n p q s h.0, all_placed_stay (n + stmt_copies s) p q ss h.1)

mutual
  placed_labelled : (n : ℕ) (s : StmtOf CType) → HasOwnCases s → HasOwnCases (placed_stmt n s)
  placed_labelled n (stmt.Block first locals ss) h = all_placed_labelled n ss h
  placed_labelled n (stmt.If e s t) h = (placed_labelled (n + copies e) s h.0, placed_labelled (n + copies e + stmt_copies s) t h.1)
  placed_labelled n (stmt.While e s) h = placed_labelled (n + copies e) s h
  placed_labelled n (stmt.Do s e) h = placed_labelled n s h
  placed_labelled n (stmt.For a b c s) h = placed_labelled (n + some_copies a + some_copies b + some_copies c) s h
  placed_labelled n (stmt.Switch e cases default s) h = (subst (λ (ls : List ℕ). length cases ≤ length ls) (sym (placed_labels (n + copies e) s)) h.0, placed_labelled (n + copies e) s h.1)
  placed_labelled n (stmt.Label l s) h = placed_labelled n s h
  placed_labelled n s h = tt

  all_placed_labelled : (n : ℕ) (ss : StmtsOf CType) → AllHaveOwnCases ss → AllHaveOwnCases (placed_stmts n ss)
  all_placed_labelled n stmt.NoStmt h = tt
  all_placed_labelled n (stmt.Stmts s ss) h = (placed_labelled n s h.0, all_placed_labelled (n + stmt_copies s) ss h.1)

-- ---- functions

pub functions_own : (meant : ℕ → CoreKind) (texts : List (List ℕ)) (fs : List DefinedFunction) → EachIs IsOwnJumps fs → EachIs HasOwnJumps (whole_functions meant texts fs)
functions_own meant texts [] h = tt
functions_own meant texts (f ∷ fs) h = (
  record {
    cases = placed_cases _ (whole_stmt meant texts f.function.body) (whole_cases meant texts f.function.body h.0.cases);
    labelled = placed_labelled _ (whole_stmt meant texts f.function.body) (whole_labelled meant texts f.function.body h.0.labelled);
    jumps = placed_stays _ false false (whole_stmt meant texts f.function.body) (whole_stays meant texts false false f.function.body h.0.jumps);
  },
  functions_own meant texts fs h.1,
)
