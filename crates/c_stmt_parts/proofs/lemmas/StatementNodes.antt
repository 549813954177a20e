-- Each statement's node, and the code that it becomes.
use Rattle.std.proofs.Common.{◌≡◌, ℕ, Option, None, List, [], length, refl, sym, ap, ◌∙◌, subst}
use Rattle.std.specs.Global.{Box}
use Rattle.c_ast.specs.Trees.{ExprTree, MaybeExpr, NoExpr, AnExpr, StatementTree, Label, Case, Default, Expression, If, IfElse, Switch, While, Do, For, Goto, Continue, Break, Return}
use Rattle.c_symbols.specs.Scoping.{Scoping}
use Rattle.c_types.specs.CType.{CType}
use Rattle.c_types.specs.Table.{Table, Extends}
use Rattle.c_meaning.specs.CoreTrees.{CoreOf, IsIn}
use Rattle.c_meaning.specs.StmtTrees.{StmtOf, IsSomeIn, IsStmtIn, stmt_of, stmt_seen}
use Rattle.c_meaning.specs.StmtTrees as code
use Rattle.c_meaning.specs.Typing.{Fine, then_do, typed}
use Rattle.c_meaning.specs.Values.{CoreTree, value}
use Rattle.c_meaning.specs.declared.core_stmt.CoreStmt.{CoreStmt}
use Rattle.c_meaning.specs.declared.core_stmt.CoreStmt.TheVariants as stmt
use Rattle.c_check_expr.specs.Known.{state_of}
use Rattle.c_check_expr.specs.TypedIn.{expr_in, maybe_expr_in}
use Rattle.c_check_expr.specs.Walks.{core}
use Rattle.c_check_decl.specs.Declares.{stmt_in}
use Rattle.c_check_decl.proofs.lemmas.StmtsStay.{stmt_later, stmt_stays}
use Rattle.c_units.specs.Bodies.{Body as BodyTrees, Within as WithinTrees, at_stmt, done, goto, in_loop, in_switch, is_case_again, is_default_again, labelled, marked, maybe_value, on_code, returned, stands_again, switched, typed_stmt, with_case, with_cases, with_default}
use Rattle.c_units.specs.Statements.{Around as AroundTrees}
use Rattle.c_units.specs.Statements as node
use Rattle.c_stmt_parts.specs.declared.around.Within.{Within}
use Rattle.c_stmt_parts.specs.declared.body.Body.{Body}
use Rattle.c_stmt_parts.specs.Asked.{maybe_core}
use Rattle.c_stmt_parts.specs.Heads.{Heads, head_typed_in}
use Rattle.c_stmt_parts.specs.BodiesSeen.{IsBodyIn, body_in, within_in}
use Rattle.c_stmt_parts.proofs.lemmas.BodiesStay.{body_later, body_stays}
use Rattle.c_stmt_parts.proofs.lemmas.StatementLayers.{expression_seen, expression_within, return_seen, return_within}
use Rattle.c_stmt_parts.specs.StatementsIn.{IsCodeIn, code_in, statement_in}
use Rattle.c_stmt_parts.proofs.lemmas.HeadWalks.{head_then}
use Rattle.c_stmt_parts.proofs.lemmas.StatementWalks.{Parts}

-- ---- code beside what the function has

done_same : {b d : BodyTrees} {s u : StmtOf CType} → b ≡ d → s ≡ u → done b s ≡ done d u
done_same h k = rw (h, k) refl

-- what a function has is seen the same over the later table
pub beside : (c q : Table) → Extends c q → (y : Body) (full : CoreStmt) (tree : StmtOf CType) → IsBodyIn (length c.forms) y → stmt_in q full ≡ tree → done (body_in c y) tree ≡ code_in q (y, full)
beside c q h y full tree i e = done_same (sym (body_stays c q h y i)) (sym e)

-- so is a statement in a place of its own
pub in_box : (c q : Table) → Extends c q → (s : CoreStmt) (b : Box CoreStmt) → IsStmtIn (length c.forms) (stmt_of s) → b.value ≡ s → stmt_in q b.value ≡ stmt_in c s
in_box c q h s b i e = ap (stmt_in q) e ∙ stmt_stays c q h (stmt_of s) i

pub box_later : (c q : Table) → Extends c q → (s : CoreStmt) (b : Box CoreStmt) → IsStmtIn (length c.forms) (stmt_of s) → b.value ≡ s → IsStmtIn (length q.forms) (stmt_of b.value)
box_later c q h s b i e = subst (λ v. IsStmtIn (length q.forms) (stmt_of v)) (sym e) (stmt_later c q h (stmt_of s) i)

-- ---- typing, one layer of it

module _ (f : WithinTrees) (around : AroundTrees) (s : Scoping) (a : Table) (b : BodyTrees) (line : ℕ) (e : ExprTree) (st : StatementTree) where
  pub while_is : (inner : AroundTrees) → inner ≡ in_loop around → statement_in f around s a b (While line e st) ≡ then_do (expr_in s a e) (λ m c. then_do (typed_stmt f inner m b st) (λ u t. at_stmt u line (node.Test c) (on_code (code.While (value c)) t)))
  unfolding statement_in expr_in
  while_is inner k = ap (λ i. then_do (typed (state_of s a) e) (λ m c. then_do (typed_stmt f i m b st) (λ u t. at_stmt u line (node.Test c) (on_code (code.While (value c)) t)))) (sym k)

  pub if_is : statement_in f around s a b (If line e st) ≡ then_do (expr_in s a e) (λ m c. then_do (typed_stmt f around m b st) (λ u t. at_stmt u line (node.Test c) (done t.body (code.If (value c) t.code code.Nothing))))
  unfolding statement_in expr_in
  if_is = refl

  pub do_is : (inner : AroundTrees) → inner ≡ in_loop around → statement_in f around s a b (Do line st e) ≡ then_do {T = ℕ} (Fine (state_of s a) 0) (λ m n. then_do (typed_stmt f inner m b st) (λ u t. then_do (typed u e) (λ v c. at_stmt v line (node.Test c) (on_code (λ x. code.Do x (value c)) t))))
  unfolding statement_in
  do_is inner k = ap (λ i. then_do (typed_stmt f i (state_of s a) b st) (λ u t. then_do (typed u e) (λ v c. at_stmt v line (node.Test c) (on_code (λ x. code.Do x (value c)) t)))) (sym k)

  pub switch_is : (inner : AroundTrees) → inner ≡ in_switch around → statement_in f around s a b (Switch line e st) ≡ then_do (expr_in s a e) (λ m c. then_do (typed_stmt f inner m (with_cases [] None b) st) (λ u t. at_stmt u line (node.Switch c) (switched b c t)))
  unfolding statement_in expr_in
  switch_is inner k = ap (λ i. then_do (typed (state_of s a) e) (λ m c. then_do (typed_stmt f i m (with_cases [] None b) st) (λ u t. at_stmt u line (node.Switch c) (switched b c t)))) (sym k)

  pub case_is : statement_in f around s a b (Case line e st) ≡ then_do (expr_in s a e) (λ m c. then_do (typed_stmt f around m (with_case around b c) st) (λ u t. at_stmt u line (node.Case c around (is_case_again around b c)) (labelled b t)))
  unfolding statement_in expr_in
  case_is = refl

  -- the other branch of an `if` comes behind the first
  pub if_else_is : (other : StatementTree) → statement_in f around s a b (IfElse line e st other) ≡ then_do (expr_in s a e) (λ m c. then_do (typed_stmt f around m b st) (λ u t. then_do (typed_stmt f around u t.body other) (λ v x. at_stmt v line (node.Test c) (done x.body (code.If (value c) t.code x.code)))))
  unfolding statement_in expr_in
  if_else_is other = refl

module _ (f : WithinTrees) (around : AroundTrees) (s : Scoping) (a : Table) (b : BodyTrees) (line : ℕ) (st : StatementTree) where
  pub labelled_is : (name : List ℕ) → statement_in f around s a b (Label line name st) ≡ then_do {T = ℕ} (Fine (state_of s a) 0) (λ m n. then_do (typed_stmt f around m (marked b) st) (λ u t. at_stmt u line (node.Label (stands_again f b name)) (labelled b t)))
  unfolding statement_in
  labelled_is name = refl

  pub default_is : statement_in f around s a b (Default line st) ≡ then_do {T = ℕ} (Fine (state_of s a) 0) (λ m n. then_do (typed_stmt f around m (with_default around b) st) (λ u t. at_stmt u line (node.Default around (is_default_again around b)) (labelled b t)))
  unfolding statement_in
  default_is = refl

  pub for_is : (inner : AroundTrees) (x y z : MaybeExpr) → inner ≡ in_loop around → statement_in f around s a b (For line x y z st) ≡ then_do (head_typed_in s a x y z) (λ m h. then_do (typed_stmt f inner m b st) (λ u t. at_stmt u line (node.For h.0 h.1 h.2) (on_code (code.For (maybe_value h.0) (maybe_value h.1) (maybe_value h.2)) t)))
  unfolding statement_in
  for_is inner x y z k =
      head_then s a x y z (λ m h. then_do (typed_stmt f (in_loop around) m b st) (λ u t. at_stmt u line (node.For h.0 h.1 h.2) (on_code (code.For (maybe_value h.0) (maybe_value h.1) (maybe_value h.2)) t)))
      ∙ ap (λ i. then_do (head_typed_in s a x y z) (λ m h. then_do (typed_stmt f i m b st) (λ u t. at_stmt u line (node.For h.0 h.1 h.2) (on_code (code.For (maybe_value h.0) (maybe_value h.1) (maybe_value h.2)) t)))) (sym k)

module _ (f : WithinTrees) (around : AroundTrees) (s : Scoping) (a : Table) (b : BodyTrees) (line : ℕ) where
  pub return_is : (v : MaybeExpr) → statement_in f around s a b (Return line v) ≡ then_do (maybe_expr_in s a v) (λ m c. at_stmt m line (node.Return f.result c) (done b (code.Return (returned f.result c))))
  unfolding statement_in maybe_expr_in
  return_is v = refl

  pub evaluate_is : (e : ExprTree) → statement_in f around s a b (Expression line (AnExpr e)) ≡ then_do (expr_in s a e) (λ m c. at_stmt m line (node.Expression c) (done b (code.Expression (value c))))
  unfolding statement_in expr_in
  evaluate_is e = refl

  pub nothing_is : statement_in f around s a b (Expression line NoExpr) ≡ Fine (state_of s a) (done b code.Nothing)
  unfolding statement_in
  nothing_is = refl

  pub goto_is : (name : List ℕ) → statement_in f around s a b (Goto line name) ≡ Fine (state_of s a) (goto f b name)
  unfolding statement_in
  goto_is name = refl

  pub break_is : statement_in f around s a b (Break line) ≡ at_stmt (state_of s a) line (node.Break around) (done b code.Break)
  unfolding statement_in
  break_is = refl

  pub continue_is : statement_in f around s a b (Continue line) ≡ at_stmt (state_of s a) line (node.Continue around) (done b code.Continue)
  unfolding statement_in
  continue_is = refl

-- ---- those with one part and one statement

module _ (w : Within) (around : AroundTrees) (s : Scoping) (a : Table) (x : Body) (line : ℕ) (e : ExprTree) (st : StatementTree) where
  abbrev pub while_parts : (inner : AroundTrees) → inner ≡ in_loop around → Parts CoreTree w a (statement_in (within_in a w) around s a (body_in a x) (While line e st))
  while_parts inner k = record { o = expr_in s a e; inner = inner; before = λ c. body_in a x; st = st; line = line; node = λ c. node.Test c; make = λ c t. on_code (code.While (value c)) t; is = while_is (within_in a w) around s a (body_in a x) line e st inner k }

  abbrev pub if_parts : Parts CoreTree w a (statement_in (within_in a w) around s a (body_in a x) (If line e st))
  if_parts = record { o = expr_in s a e; inner = around; before = λ c. body_in a x; st = st; line = line; node = λ c. node.Test c; make = λ c t. done t.body (code.If (value c) t.code code.Nothing); is = if_is (within_in a w) around s a (body_in a x) line e st }

  abbrev pub switch_parts : (inner : AroundTrees) → inner ≡ in_switch around → Parts CoreTree w a (statement_in (within_in a w) around s a (body_in a x) (Switch line e st))
  switch_parts inner k = record { o = expr_in s a e; inner = inner; before = λ c. with_cases [] None (body_in a x); st = st; line = line; node = λ c. node.Switch c; make = λ c t. switched (body_in a x) c t; is = switch_is (within_in a w) around s a (body_in a x) line e st inner k }

  abbrev pub case_parts : Parts CoreTree w a (statement_in (within_in a w) around s a (body_in a x) (Case line e st))
  case_parts = record { o = expr_in s a e; inner = around; before = λ c. with_case around (body_in a x) c; st = st; line = line; node = λ c. node.Case c around (is_case_again around (body_in a x) c); make = λ c t. labelled (body_in a x) t; is = case_is (within_in a w) around s a (body_in a x) line e st }

module _ (w : Within) (around : AroundTrees) (s : Scoping) (a : Table) (x : Body) (line : ℕ) (st : StatementTree) where
  abbrev pub labelled_parts : (name : List ℕ) → Parts ℕ w a (statement_in (within_in a w) around s a (body_in a x) (Label line name st))
  labelled_parts name =
      record {
        o = Fine (state_of s a) 0;
        inner = around;
        before = λ n. marked (body_in a x);
        st = st;
        line = line;
        node = λ n. node.Label (stands_again (within_in a w) (body_in a x) name);
        make = λ n t. labelled (body_in a x) t;
        is = labelled_is (within_in a w) around s a (body_in a x) line st name;
      }

  abbrev pub default_parts : Parts ℕ w a (statement_in (within_in a w) around s a (body_in a x) (Default line st))
  default_parts =
      record {
        o = Fine (state_of s a) 0;
        inner = around;
        before = λ n. with_default around (body_in a x);
        st = st;
        line = line;
        node = λ n. node.Default around (is_default_again around (body_in a x));
        make = λ n t. labelled (body_in a x) t;
        is = default_is (within_in a w) around s a (body_in a x) line st;
      }

  abbrev pub for_parts : (inner : AroundTrees) (x1 x2 x3 : MaybeExpr) → inner ≡ in_loop around → Parts Heads w a (statement_in (within_in a w) around s a (body_in a x) (For line x1 x2 x3 st))
  for_parts inner x1 x2 x3 k =
      record {
        o = head_typed_in s a x1 x2 x3;
        inner = inner;
        before = λ h. body_in a x;
        st = st;
        line = line;
        node = λ h. node.For h.0 h.1 h.2;
        make = λ h t. on_code (code.For (maybe_value h.0) (maybe_value h.1) (maybe_value h.2)) t;
        is = for_is (within_in a w) around s a (body_in a x) line st inner x1 x2 x3 k;
      }

-- ---- what those without a statement become

module _ (a q : Table) (h : Extends a q) (x : Body) (i : IsBodyIn (length a.forms) x) where
  pub expression_code : (v : CoreTree) (e : CoreOf ℕ) → core q e ≡ v → done (body_in a x) (code.Expression v) ≡ code_in q (x, stmt.Expression e)
  expression_code v e k = beside a q h x (stmt.Expression e) (code.Expression v) i (expression_seen q e ∙ ap code.Expression k)

  pub expression_code_within : (e : CoreOf ℕ) → IsIn (length q.forms) e → IsCodeIn (length q.forms) (x, stmt.Expression e)
  expression_code_within e k = (body_later a q h x i, expression_within (length q.forms) e k)

  pub return_code : (v : Option CoreTree) (e : Option (CoreOf ℕ)) → maybe_core q e ≡ v → done (body_in a x) (code.Return v) ≡ code_in q (x, stmt.Return e)
  return_code v e k = beside a q h x (stmt.Return e) (code.Return v) i (return_seen q e ∙ ap code.Return k)

  pub return_code_within : (e : Option (CoreOf ℕ)) → IsSomeIn (length q.forms) e → IsCodeIn (length q.forms) (x, stmt.Return e)
  return_code_within e k = (body_later a q h x i, return_within (length q.forms) e k)

-- what is seen as a goto has no types
pub is_goto_within : {U : Type 0} (known : ℕ → U) (s : StmtOf ℕ) (n k : ℕ) → stmt_seen known s ≡ code.Goto n → IsStmtIn k s
is_goto_within known code.Nothing n k e = tt
is_goto_within known (code.Expression x) n k e = absurd (cc)
is_goto_within known (code.Initialise l z ps) n k e = absurd (cc)
is_goto_within known (code.Block l m ss) n k e = absurd (cc)
is_goto_within known (code.If x s u) n k e = absurd (cc)
is_goto_within known (code.While x s) n k e = absurd (cc)
is_goto_within known (code.Do s x) n k e = absurd (cc)
is_goto_within known (code.For x y z s) n k e = absurd (cc)
is_goto_within known (code.Switch x cs d s) n k e = absurd (cc)
is_goto_within known (code.Label l s) n k e = absurd (cc)
is_goto_within known (code.Goto l) n k e = tt
is_goto_within known code.Break n k e = tt
is_goto_within known code.Continue n k e = tt
is_goto_within known (code.Return x) n k e = absurd (cc)
