-- Typed statements: the numbers of cases are words, each case is a label of its own, and each `break` and `continue` stands in what it leaves or goes on with.
use Rattle.std.proofs.Common.{◌≡◌, ◌<◌, ◌≤◌, ◌^◌, ◌+◌, ℕ, Bool, true, false, ◌||◌, List, [], ◌∷◌, ◌++◌, length, refl, sym, ap, subst, arith}
use Rattle.std.specs.Prelude.{ℤ, pos, negsuc, unsigned_abs, Option, Some, None, if◌then◌else◌}
use Rattle.std.specs.Int.{int_rem_euclid}
use Rattle.std.proofs.lemmas.List.{length-append}
use Rattle.std.proofs.lemmas.Nat.{mod_below}
use Rattle.c_ast.specs.Trees.{NoExpr, AnExpr, BlockTree, Block, DeclarationTree, DeclaratorTree, ExternalTree, Function, Declares, Empty, StatementTree, Label, Case, Default, Expression, Compound, If, IfElse, Switch, While, Do, For, Goto, Continue, Break, Return, StatementTrees, NoStatements, Statements}
use Rattle.c_types.specs.CType.{CType}
use Rattle.c_meaning.specs.declared.core_stmt.CoreCase.{CoreCase}
use Rattle.c_meaning.specs.Constants.{fold}
use Rattle.c_meaning.specs.Each.{EachIs}
use Rattle.c_meaning.specs.Linkage.{with_count}
use Rattle.c_meaning.specs.State.{State, entered}
use Rattle.c_meaning.specs.StmtTrees.{Initialise, StmtOf, StmtsOf}
use Rattle.c_meaning.specs.Units.{all_labels, is_among, labels, numbers}
use Rattle.c_units.specs.Bodies.{Body, Typed, Within, case_number, in_loop, in_switch, marked, number_of, stands_in, stmts_behind, with_case, with_cases, with_declared, with_default, with_number}
use Rattle.c_units.specs.BodiesRelation.{TypesBlock, TypesStmt, TypesStmts}
use Rattle.c_units.specs.Definitions.{names_of, own_step}
use Rattle.c_units.specs.Externals.{Parts}
use Rattle.c_units.specs.Functions.{DefinedFunction, TypedFunction, nowhere, parameter_types, started, with_all_listed, within}
use Rattle.c_units.specs.Statements.{Around}
use Rattle.c_units.specs.Statements as node
use Rattle.c_units.specs.UnitsRelation.{TypesExternal, TypesExternals, TypesFunction}
use Rattle.c_fits.proofs.lemmas.Booleans.{not_false}
use Rattle.c_fits.proofs.lemmas.DeclaredFits.{each_join}
use Rattle.c_unit_fits.proofs.lemmas.Fills.{AreFills, declarations_fill, fills_label}
use Rattle.c_unit_fits.proofs.lemmas.Values.{stmt_unbroken}
use Rattle.switch_tables.specs.Cases.{AreWords}
use Rattle.c_stmts_agree.specs.CheckedParts.{AllHaveWordCases, HasWordCases}
use Rattle.c_stmts_agree.specs.Jumps.{AllStayWithin, StaysWithin}
use Rattle.c_checked_units.specs.Checked.{AllHaveOwnCases, HasOwnCases, HasOwnJumps}

-- ---- the numbers of cases

rest_word : (z : ℤ) → unsigned_abs (int_rem_euclid z (pos (2 ^ 32))) < 2 ^ 32
rest_word (pos a) = mod_below a (2 ^ 32) (omega arith)
rest_word (negsuc a) = omega arith

one_more : (cs : List CoreCase) (c : CoreCase) → AreWords cs → c.number < 2 ^ 32 → AreWords (cs ++ c ∷ [])
one_more [] c h l = (l, tt)
one_more (d ∷ cs) c h l = (h.0, one_more cs c h.1 l)

number_words : (label : ℕ) (z : Option ℤ) (cs : List CoreCase) → AreWords cs → AreWords (with_number label (number_of z) cs)
number_words label None cs h = h
number_words label (Some z) cs h = by (is_among (unsigned_abs (int_rem_euclid z (pos (2 ^ 32)))) (numbers cs))
  where
    c : CoreCase
    c = record { number = unsigned_abs (int_rem_euclid z (pos (2 ^ 32))); label = label }

    by : (b : Bool) → AreWords (if b then cs else cs ++ c ∷ [])
    by true = h
    by false = one_more cs c h (rest_word z)

stands_words : (a : Around) (b : Body) (cases : List CoreCase) (default : Option ℕ) → AreWords b.cases → AreWords cases → AreWords (stands_in a b cases default).cases
stands_words a b cases default h k = by a.switch
  where
    by : (s : Bool) → AreWords (stands_in (record { loop = a.loop; switch = s }) b cases default).cases
    by true = k
    by false = h

-- ---- how many they are

number_more : (label : ℕ) (z : Option ℕ) (cs : List CoreCase) → length (with_number label z cs) ≤ length cs + 1
number_more label None cs = omega arith
number_more label (Some n) cs = by (is_among n (numbers cs))
  where
    c : CoreCase
    c = record { number = n; label = label }

    by : (b : Bool) → length (if b then cs else cs ++ c ∷ []) ≤ length cs + 1
    by true = omega arith
    by false = let l = length-append cs (c ∷ []) in omega (arith, l)

stands_more : (a : Around) (b : Body) (cases : List CoreCase) (default : Option ℕ) → length cases ≤ length b.cases + 1 → length (stands_in a b cases default).cases ≤ length b.cases + 1
stands_more a b cases default h = by a.switch
  where
    by : (s : Bool) → length (stands_in (record { loop = a.loop; switch = s }) b cases default).cases ≤ length b.cases + 1
    by true = h
    by false = omega arith

-- ---- a statement

-- where a `break` may stand
abbrev breaks : Around → Bool
breaks a = a.switch || a.loop

-- what a body has behind a statement in which these labels stand, and whose cases and jumps are so
pub record Placed (b : Body) (ls : List ℕ) (Cases Few Jumps : Type 0) (after : Body) : Type 0 where
  pub words : AreWords b.cases → AreWords after.cases
  pub count : length after.cases ≤ length b.cases + length ls
  pub cases : Cases
  pub few : Few
  pub jumps : Jumps

abbrev pub IsPlaced : Around → Body → Typed (StmtOf CType) → Type 0
IsPlaced a b t = Placed b (labels t.code) (HasWordCases t.code) (HasOwnCases t.code) (StaysWithin (breaks a) a.loop t.code) t.body

abbrev pub ArePlaced : Around → Body → Typed (StmtsOf CType) → Type 0
ArePlaced a b t = Placed b (all_labels t.code) (AllHaveWordCases t.code) (AllHaveOwnCases t.code) (AllStayWithin (breaks a) a.loop t.code) t.body

-- without labels, cases and jumps
plain : (b after : Body) → after.cases ≡ b.cases → Placed b [] (Unit {0}) (Unit {0}) (Unit {0}) after
plain b after e = record { words = λ w. subst AreWords (sym e) w; count = (let l = ap length e in omega (arith, l)); cases = tt; few = tt; jumps = tt }

-- behind a label, from a body with one case more at most
from : {Cases Few Jumps : Type 0} (b c after : Body) (n : ℕ) (ls : List ℕ) → (AreWords b.cases → AreWords c.cases) → length c.cases ≤ length b.cases + 1 → Placed c ls Cases Few Jumps after → Placed b (n ∷ ls) Cases Few Jumps after
from b c after n ls f more h = record { words = λ w. h.words (f w); count = (let l = h.count in omega (arith, l, more)); cases = h.cases; few = h.few; jumps = h.jumps }

or_always : (p : Bool) → (p || true) ≡ true
or_always true = refl
or_always false = refl

-- in a loop both may stand
looped : (a : Around) (b : Body) (t : Typed (StmtOf CType)) → IsPlaced (in_loop a) b t → Placed b (labels t.code) (HasWordCases t.code) (HasOwnCases t.code) (StaysWithin true true t.code) t.body
looped a b t h = record { words = h.words; count = h.count; cases = h.cases; few = h.few; jumps = subst (λ p. StaysWithin p true t.code) (or_always a.switch) h.jumps }

switched_placed : (a : Around) (b : Body) (t : Typed (StmtOf CType)) → IsPlaced (in_switch a) (with_cases [] None b) t
    → Placed b (labels t.code) (AreWords t.body.cases × HasWordCases t.code) ((length t.body.cases ≤ length (labels t.code)) × HasOwnCases t.code) (StaysWithin true a.loop t.code) (with_cases b.cases b.default t.body)
switched_placed a b t h = record { words = λ w. w; count = omega arith; cases = (h.words tt, h.cases); few = ((let l = h.count in omega (arith, l)), h.few); jumps = h.jumps }

both : {A B C D E F : Type 0} (b c d : Body) (ls ks : List ℕ) → Placed b ls A C E c → Placed c ks B D F d → Placed b (ls ++ ks) (A × B) (C × D) (E × F) d
both b c d ls ks h k =
    record {
      words = λ w. k.words (h.words w);
      count = (let l = length-append ls ks in let p = h.count in let q = k.count in omega (arith, l, p, q));
      cases = (h.cases, k.cases);
      few = (h.few, k.few);
      jumps = (h.jumps, k.jumps);
    }

-- ---- blocks

fills_words : (fs : List (StmtOf CType)) (ss : StmtsOf CType) → AreFills fs → AllHaveWordCases ss → AllHaveWordCases (stmts_behind fs ss)
fills_words [] ss h k = k
fills_words (Initialise place zero places ∷ fs) ss h k = (tt, fills_words fs ss h.1 k)
fills_words (f ∷ fs) ss h k = absurd h.0

fills_few : (fs : List (StmtOf CType)) (ss : StmtsOf CType) → AreFills fs → AllHaveOwnCases ss → AllHaveOwnCases (stmts_behind fs ss)
fills_few [] ss h k = k
fills_few (Initialise place zero places ∷ fs) ss h k = (tt, fills_few fs ss h.1 k)
fills_few (f ∷ fs) ss h k = absurd h.0

fills_stay : (p q : Bool) (fs : List (StmtOf CType)) (ss : StmtsOf CType) → AreFills fs → AllStayWithin p q ss → AllStayWithin p q (stmts_behind fs ss)
fills_stay p q [] ss h k = k
fills_stay p q (Initialise place zero places ∷ fs) ss h k = (tt, fills_stay p q fs ss h.1 k)
fills_stay p q (f ∷ fs) ss h k = absurd h.0

-- ---- the induction

mutual
  pub stmt_placed : (f : Within) (a : Around) (s : State) (b : Body) (st : StatementTree) (u : State) (t : Typed (StmtOf CType)) → TypesStmt f a s b st u t → IsPlaced a b t
  stmt_placed f a s b (Label l name st) u t h =
      subst (IsPlaced a b) h.3.1.1 (from b (marked b) h.1.body b.marks (labels h.1.code) (λ w. w) (omega arith) (stmt_placed f a s (marked b) st h.0 h.1 h.2))
  stmt_placed f a s b (Case l e st) u t h =
      subst (IsPlaced a b) h.3.3.1.1
      (from b (with_case a b h.1) h.3.1.body b.marks (labels h.3.1.code) (λ w. stands_words a b (with_number b.marks (case_number h.1) b.cases) b.default w (number_words b.marks (fold h.1) b.cases w))
      (stands_more a b (with_number b.marks (case_number h.1) b.cases) b.default (number_more b.marks (case_number h.1) b.cases))
      (stmt_placed f a h.0 (with_case a b h.1) st h.3.0 h.3.1 h.3.2))
  stmt_placed f a s b (Default l st) u t h =
      subst (IsPlaced a b) h.3.1.1 (from b (with_default a b) h.1.body b.marks (labels h.1.code) (λ w. stands_words a b b.cases _ w w) (stands_more a b b.cases _ (omega arith)) (stmt_placed f a s (with_default a b) st h.0 h.1 h.2))
  stmt_placed f a s b (Expression l NoExpr) u t h = subst (IsPlaced a b) h.1 (plain b b refl)
  stmt_placed f a s b (Expression l (AnExpr e)) u t h = subst (IsPlaced a b) h.3.1.1 (plain b b refl)
  stmt_placed f a s b (Compound l block) u t h = subst (IsPlaced a b) h.3.1 (block_placed f a (entered s) b block h.0 h.1 h.2)
  stmt_placed f a s b (If l e st) u t h =
      subst (IsPlaced a b) h.3.3.1.1 (both b h.3.1.body h.3.1.body (labels h.3.1.code) [] (stmt_placed f a h.0 b st h.3.0 h.3.1 h.3.2) (plain h.3.1.body h.3.1.body refl))
  stmt_placed f a s b (IfElse l e st su) u t h =
      subst (IsPlaced a b) h.3.3.3.1.1
      (both b h.3.1.body h.3.3.1.body (labels h.3.1.code) (labels h.3.3.1.code) (stmt_placed f a h.0 b st h.3.0 h.3.1 h.3.2) (stmt_placed f a h.3.0 h.3.1.body su h.3.3.0 h.3.3.1 h.3.3.2))
  stmt_placed f a s b (Switch l e st) u t h =
      subst (IsPlaced a b) h.3.3.1.1 (switched_placed a b h.3.1 (stmt_placed f (in_switch a) h.0 (with_cases [] None b) st h.3.0 h.3.1 h.3.2))
  stmt_placed f a s b (While l e st) u t h = subst (IsPlaced a b) h.3.3.1.1 (looped a b h.3.1 (stmt_placed f (in_loop a) h.0 b st h.3.0 h.3.1 h.3.2))
  stmt_placed f a s b (Do l st e) u t h = subst (IsPlaced a b) h.3.3.1.1 (looped a b h.1 (stmt_placed f (in_loop a) s b st h.0 h.1 h.2))
  stmt_placed f a s b (For l first test last st) u t h =
      let k = h.3.3.3 in subst (IsPlaced a b) k.3.1.1 (looped a b k.1 (stmt_placed f (in_loop a) h.3.3.0 b st k.0 k.1 k.2))
  stmt_placed f a s b (Goto l name) u t h = subst (IsPlaced a b) h.1 (plain b _ refl)
  stmt_placed f a s b (Continue l) u t h =
      subst (IsPlaced a b) h.1.1 (record { words = λ w. w; count = omega arith; cases = tt; few = tt; jumps = not_false a.loop (stmt_unbroken s l (node.Continue a) h.0 49) })
  stmt_placed f a s b (Break l) u t h =
      subst (IsPlaced a b) h.1.1 (record { words = λ w. w; count = omega arith; cases = tt; few = tt; jumps = not_false (breaks a) (stmt_unbroken s l (node.Break a) h.0 49) })
  stmt_placed f a s b (Return l e) u t h = subst (IsPlaced a b) h.3.1.1 (plain b b refl)

  stmts_placed : (f : Within) (a : Around) (s : State) (b : Body) (ss : StatementTrees) (u : State) (t : Typed (StmtsOf CType)) → TypesStmts f a s b ss u t → ArePlaced a b t
  stmts_placed f a s b NoStatements u t h = subst (ArePlaced a b) h.1 (plain b b refl)
  stmts_placed f a s b (Statements st more) u t h =
      subst (ArePlaced a b) h.3.3.1 (both b h.1.body h.3.1.body (labels h.1.code) (all_labels h.3.1.code) (stmt_placed f a s b st h.0 h.1 h.2) (stmts_placed f a h.0 h.1.body more h.3.0 h.3.1 h.3.2))

  block_placed : (f : Within) (a : Around) (s : State) (b : Body) (block : BlockTree) (u : State) (t : Typed (StmtOf CType)) → TypesBlock f a s b block u t → IsPlaced a b t
  block_placed f a s b (Block l ds ss) u t h =
      let i = stmts_placed f a h.0 (with_declared b h.1) ss h.3.0 h.3.1 h.3.2 in
      let g = declarations_fill s ds h.0 h.1 h.2 in
      subst (IsPlaced a b) h.3.3.1
      (record {
        words = i.words;
        count = (let l = ap length (fills_label h.1.fills h.3.1.code g) in let n = i.count in omega (arith, l, n));
        cases = fills_words h.1.fills h.3.1.code g i.cases;
        few = fills_few h.1.fills h.3.1.code g i.few;
        jumps = fills_stay (breaks a) a.loop h.1.fills h.3.1.code g i.jumps;
      })

-- ---- of each function

abbrev pub IsOwnJumps : DefinedFunction → Type 0
IsOwnJumps f = HasOwnJumps f.function

function_placed : (s : State) (line : ℕ) (specs : _) (d : DeclaratorTree) (olds : List DeclarationTree) (body : BlockTree) (u : State) (f : TypedFunction) → TypesFunction s line specs d olds body u f → IsOwnJumps f.function
function_placed s line specs d olds body u f h =
    let i = h.3.3.2 in
    let n = h.3.1 in
    let v = with_all_listed i.0 line 0 (names_of (own_step n.steps)) in
    let ps = parameter_types v (own_step n.steps) in
    let b = block_placed (within n body) nowhere (with_count v (length ps)) (started ps) body i.3.0 i.3.1 i.3.2 in
    subst (λ (f : TypedFunction). IsOwnJumps f.function) h.3.3.3.1
    (subst (λ (f : TypedFunction). IsOwnJumps f.function) i.3.3.1.1 (record { cases = b.cases; labelled = b.few; jumps = b.jumps }))

external_placed : (s : State) (p : Parts) (x : ExternalTree) (u : State) (q : Parts) → TypesExternal s p x u q → EachIs IsOwnJumps p.functions → EachIs IsOwnJumps q.functions
external_placed s p (Function l specs d olds body) u q h k =
    subst (λ (q : Parts). EachIs IsOwnJumps q.functions) h.3.1
    (each_join IsOwnJumps p.functions (h.1.function ∷ []) k (function_placed s l specs d olds body h.0 h.1 h.2, tt))
external_placed s p (Declares l d) u q h k = subst (λ (q : Parts). EachIs IsOwnJumps q.functions) h.3.1 k
external_placed s p (Empty l) u q h k = subst (λ (q : Parts). EachIs IsOwnJumps q.functions) h.1 k

pub externals_placed : (s : State) (p : Parts) (xs : List ExternalTree) (u : State) (q : Parts) → TypesExternals s p xs u q → EachIs IsOwnJumps p.functions → EachIs IsOwnJumps q.functions
externals_placed s p [] u q h k = subst (λ (q : Parts). EachIs IsOwnJumps q.functions) h.1 k
externals_placed s p (x ∷ xs) u q h k = externals_placed h.0 h.1 xs u q h.3 (external_placed s p x h.0 h.1 h.2 k)
