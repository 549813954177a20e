-- Labels of typed statements are numbered by how many stand before them, and the locals of blocks are the next, each in the order of
-- the text.
use Rattle.std.proofs.Common.{◌≡◌, ℕ, suc, ◌+◌, Bool, true, false, ◌&&◌, List, [], ◌∷◌, ◌++◌, length, refl, sym, ap, subst, ◌∙◌, arith}
use Rattle.std.specs.Prelude.{◌==◌, Option, None}
use Rattle.std.specs.List.{range_with_len}
use Rattle.std.proofs.lemmas.List.{length-append}
use Rattle.c_ast.specs.Trees.{NoExpr, AnExpr, StatementTree, Label, Case, Default, Expression, Compound, If, IfElse, Switch, While, Do, For, Goto, Continue, Break, Return, StatementTrees, NoStatements, Statements, BlockTree, Block}
use Rattle.c_types.specs.CType.{CType}
use Rattle.c_meaning.specs.BlockLocals.{declared_in, all_declared_in, are_next, all_are_next}
use Rattle.c_meaning.specs.Declarations.{Declares}
use Rattle.c_meaning.specs.State.{State, entered}
use Rattle.c_meaning.specs.StmtTrees.{StmtOf, StmtsOf}
use Rattle.c_meaning.specs.Units.{labels, all_labels}
use Rattle.c_units.specs.Statements.{Around}
use Rattle.c_units.specs.Bodies.{Body, Typed, Within, labelled, marked, stands_in, stmts_behind, with_case, with_cases, with_declared, with_default}
use Rattle.c_units.specs.BodiesRelation.{TypesStmt, TypesStmts, TypesBlock}
use Rattle.c_units.specs.Marks.{marks, all_marks, block_marks}
use Rattle.c_fits.proofs.lemmas.Booleans.{and_true, or_left}
use Rattle.c_unit_fits.proofs.lemmas.Ranges.{ranges_join, same_number}
use Rattle.c_unit_fits.proofs.lemmas.Fills.{AreFills, declarations_fill, fills_declared, fills_label, fills_next}

-- what a body has behind parts with so many labels and locals
pub record Numbered (b : Body) (n : ℕ) (ls : List ℕ) (declared : ℕ) (next : Bool) (after : Body) : Type 0 where
  pub labels : ls ≡ range_with_len b.marks n
  pub marks : after.marks ≡ b.marks + n
  pub follow : next ≡ true
  pub locals : length after.locals ≡ length b.locals + declared
  pub lost : after.lost ≡ false → b.lost ≡ false

abbrev pub IsNumbered : Body → ℕ → Typed (StmtOf CType) → Type 0
IsNumbered b n t = Numbered b n (labels t.code) (declared_in t.code) (are_next (length b.locals) t.code) t.body

abbrev pub AreNumbered : Body → ℕ → Typed (StmtsOf CType) → Type 0
AreNumbered b n t = Numbered b n (all_labels t.code) (all_declared_in t.code) (all_are_next (length b.locals) t.code) t.body

-- ---- parts

-- without labels and locals
unmarked : (b : Body) → Numbered b 0 [] 0 true b
unmarked b = record { labels = refl; marks = omega arith; follow = refl; locals = omega arith; lost = λ e. e }

-- a label before a statement, from a body that has one more
with_label : (b c : Body) (n : ℕ) (t : Typed (StmtOf CType)) → c.marks ≡ b.marks + 1 → c.locals ≡ b.locals → c.lost ≡ b.lost → IsNumbered c n t → IsNumbered b (suc n) (labelled b t)
with_label b c n t e f g h =
    record {
      labels = ap (λ xs. b.marks ∷ xs) (h.labels ∙ ap (λ k. range_with_len k n) e);
      marks = let m = h.marks in omega (arith, m, e);
      follow = subst (λ (ls : List CType). are_next (length ls) t.code ≡ true) f h.follow;
      locals = h.locals ∙ ap (λ (ls : List CType). length ls + declared_in t.code) f;
      lost = λ k. sym g ∙ h.lost k;
    }

-- a statement, and another one behind it
both : (b c d : Body) (n m : ℕ) (ls ks : List ℕ) (i j : ℕ) (p : Bool) (q : ℕ → Bool) → Numbered b n ls i p c → Numbered c m ks j (q (length c.locals)) d → Numbered b (n + m) (ls ++ ks) (i + j) (p && q (length b.locals + i)) d
both b c d n m ls ks i j p q h k =
    record {
      labels = rw (h.labels, k.labels, h.marks) (ranges_join b.marks n m);
      marks = let a = h.marks in let e = k.marks in omega (arith, a, e);
      follow = and_true p (q (length b.locals + i)) h.follow (ap q (sym h.locals) ∙ k.follow);
      locals = let a = h.locals in let e = k.locals in omega (arith, a, e);
      lost = λ e. h.lost (k.lost e);
    }

nothing_behind : (xs : List ℕ) → xs ++ [] ≡ xs
nothing_behind [] = refl
nothing_behind (x ∷ xs) = ap (λ ys. x ∷ ys) (nothing_behind xs)

-- with nothing behind it
alone : (b : Body) (n : ℕ) (ls : List ℕ) (i : ℕ) (p : Bool) (c : Body) → Numbered b n ls i p c → Numbered b n (ls ++ []) (i + 0) (p && true) c
alone b n ls i p c h =
    record {
      labels = nothing_behind ls ∙ h.labels;
      marks = h.marks;
      follow = and_true p true h.follow refl;
      locals = let a = h.locals in omega (arith, a);
      lost = h.lost;
    }

-- cases of their own don't count
inner_cases : (b : Body) (n : ℕ) (t : Typed (StmtOf CType)) → IsNumbered (with_cases [] None b) n t → Numbered b n (labels t.code) (declared_in t.code) (are_next (length b.locals) t.code) (with_cases b.cases b.default t.body)
inner_cases b n t h = record { labels = h.labels; marks = h.marks; follow = h.follow; locals = h.locals; lost = h.lost }

-- ---- cases and defaults

pub stands_marks : (a : Around) (b : Body) (cases : _) (default : Option ℕ) → (stands_in a b cases default).marks ≡ b.marks + 1
stands_marks a b cases default = by a.switch
  where
    by : (s : Bool) → (stands_in (record { loop = a.loop; switch = s }) b cases default).marks ≡ b.marks + 1
    by true = refl
    by false = refl

stands_locals : (a : Around) (b : Body) (cases : _) (default : Option ℕ) → (stands_in a b cases default).locals ≡ b.locals
stands_locals a b cases default = by a.switch
  where
    by : (s : Bool) → (stands_in (record { loop = a.loop; switch = s }) b cases default).locals ≡ b.locals
    by true = refl
    by false = refl

stands_lost : (a : Around) (b : Body) (cases : _) (default : Option ℕ) → (stands_in a b cases default).lost ≡ b.lost
stands_lost a b cases default = by a.switch
  where
    by : (s : Bool) → (stands_in (record { loop = a.loop; switch = s }) b cases default).lost ≡ b.lost
    by true = refl
    by false = refl

-- ---- blocks

block_numbered : (b : Body) (what : Declares) (n : ℕ) (t : Typed (StmtsOf CType)) → AreFills what.fills → AreNumbered (with_declared b what) n t
    → Numbered b n (all_labels (stmts_behind what.fills t.code)) (length what.locals + all_declared_in (stmts_behind what.fills t.code)) ((length b.locals == length b.locals) && all_are_next (length b.locals + length what.locals) (stmts_behind what.fills t.code)) t.body
block_numbered b what n t f h =
    record {
      labels = fills_label what.fills t.code f ∙ h.labels;
      marks = h.marks;
      follow =
          and_true (length b.locals == length b.locals) (all_are_next (length b.locals + length what.locals) (stmts_behind what.fills t.code)) (same_number (length b.locals))
          (fills_next (length b.locals + length what.locals) what.fills t.code f ∙ subst (λ k. all_are_next k t.code ≡ true) (length-append b.locals what.locals) h.follow);
      locals =
          let a = h.locals in
          let d = fills_declared what.fills t.code f in
          let e = length-append b.locals what.locals in
          omega (arith, a, d, e);
      lost = h.lost;
    }

-- ---- the induction

mutual
  pub stmt_numbered : (f : Within) (a : Around) (s : State) (b : Body) (st : StatementTree) (u : State) (t : Typed (StmtOf CType)) → TypesStmt f a s b st u t → IsNumbered b (marks st) t
  stmt_numbered f a s b (Label l name st) u t h =
      subst (IsNumbered b (suc (marks st))) h.3.1.1 (with_label b (marked b) (marks st) h.1 refl refl refl (stmt_numbered f a s (marked b) st h.0 h.1 h.2))
  stmt_numbered f a s b (Case l e st) u t h =
      let i = stmt_numbered f a h.0 (with_case a b h.1) st h.3.0 h.3.1 h.3.2 in
      subst (IsNumbered b (suc (marks st))) h.3.3.1.1 (with_label b (with_case a b h.1) (marks st) h.3.1 (stands_marks a b _ _) (stands_locals a b _ _) (stands_lost a b _ _) i)
  stmt_numbered f a s b (Default l st) u t h =
      let i = stmt_numbered f a s (with_default a b) st h.0 h.1 h.2 in
      subst (IsNumbered b (suc (marks st))) h.3.1.1 (with_label b (with_default a b) (marks st) h.1 (stands_marks a b _ _) (stands_locals a b _ _) (stands_lost a b _ _) i)
  stmt_numbered f a s b (Expression l NoExpr) u t h = subst (IsNumbered b 0) h.1 (unmarked b)
  stmt_numbered f a s b (Expression l (AnExpr e)) u t h = subst (IsNumbered b 0) h.3.1.1 (unmarked b)
  stmt_numbered f a s b (Compound l block) u t h = subst (IsNumbered b (block_marks block)) h.3.1 (block_is_numbered f a (entered s) b block h.0 h.1 h.2)
  stmt_numbered f a s b (If l e st) u t h =
      let i = stmt_numbered f a h.0 b st h.3.0 h.3.1 h.3.2 in
      subst (IsNumbered b (marks st)) h.3.3.1.1 (alone b (marks st) (labels h.3.1.code) (declared_in h.3.1.code) (are_next (length b.locals) h.3.1.code) h.3.1.body i)
  stmt_numbered f a s b (IfElse l e st su) u t h =
      let i = stmt_numbered f a h.0 b st h.3.0 h.3.1 h.3.2 in
      let j = stmt_numbered f a h.3.0 h.3.1.body su h.3.3.0 h.3.3.1 h.3.3.2 in
      subst (IsNumbered b (marks st + marks su)) h.3.3.3.1.1 (both b h.3.1.body h.3.3.1.body (marks st) (marks su) (labels h.3.1.code) (labels h.3.3.1.code) (declared_in h.3.1.code) (declared_in h.3.3.1.code) (are_next (length b.locals) h.3.1.code) (λ k. are_next k h.3.3.1.code) i j)
  stmt_numbered f a s b (Switch l e st) u t h =
      subst (IsNumbered b (marks st)) h.3.3.1.1 (inner_cases b (marks st) h.3.1 (stmt_numbered f _ h.0 (with_cases [] None b) st h.3.0 h.3.1 h.3.2))
  stmt_numbered f a s b (While l e st) u t h = subst (IsNumbered b (marks st)) h.3.3.1.1 (stmt_numbered f _ h.0 b st h.3.0 h.3.1 h.3.2)
  stmt_numbered f a s b (Do l st e) u t h = subst (IsNumbered b (marks st)) h.3.3.1.1 (stmt_numbered f _ s b st h.0 h.1 h.2)
  stmt_numbered f a s b (For l first test last st) u t h =
      let k = h.3.3.3 in subst (IsNumbered b (marks st)) k.3.1.1 (stmt_numbered f _ h.3.3.0 b st k.0 k.1 k.2)
  stmt_numbered f a s b (Goto l name) u t h =
      subst (IsNumbered b 0) h.1 (record { labels = refl; marks = omega arith; follow = refl; locals = omega arith; lost = λ e. or_left b.lost _ e })
  stmt_numbered f a s b (Continue l) u t h = subst (IsNumbered b 0) h.1.1 (unmarked b)
  stmt_numbered f a s b (Break l) u t h = subst (IsNumbered b 0) h.1.1 (unmarked b)
  stmt_numbered f a s b (Return l e) u t h = subst (IsNumbered b 0) h.3.1.1 (unmarked b)

  pub stmts_numbered : (f : Within) (a : Around) (s : State) (b : Body) (ss : StatementTrees) (u : State) (t : Typed (StmtsOf CType)) → TypesStmts f a s b ss u t → AreNumbered b (all_marks ss) t
  stmts_numbered f a s b NoStatements u t h = subst (AreNumbered b 0) h.1 (unmarked b)
  stmts_numbered f a s b (Statements st more) u t h =
      let i = stmt_numbered f a s b st h.0 h.1 h.2 in
      let j = stmts_numbered f a h.0 h.1.body more h.3.0 h.3.1 h.3.2 in
      subst (AreNumbered b (marks st + all_marks more)) h.3.3.1 (both b h.1.body h.3.1.body (marks st) (all_marks more) (labels h.1.code) (all_labels h.3.1.code) (declared_in h.1.code) (all_declared_in h.3.1.code) (are_next (length b.locals) h.1.code) (λ k. all_are_next k h.3.1.code) i j)

  pub block_is_numbered : (f : Within) (a : Around) (s : State) (b : Body) (block : BlockTree) (u : State) (t : Typed (StmtOf CType)) → TypesBlock f a s b block u t → IsNumbered b (block_marks block) t
  block_is_numbered f a s b (Block l ds ss) u t h =
      subst (IsNumbered b (all_marks ss)) h.3.3.1
      (block_numbered b h.1 (all_marks ss) h.3.1 (declarations_fill s ds h.0 h.1 h.2) (stmts_numbered f a h.0 (with_declared b h.1) ss h.3.0 h.3.1 h.3.2))
