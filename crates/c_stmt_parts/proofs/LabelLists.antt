-- Labels of statements in order: those of the first statements, and then those of the others.
use Rattle.std.proofs.Common.{◌≡◌, ℕ, suc, ◌+◌, ◌<◌, Bool, true, false, List, [], ◌∷◌, ◌++◌, length, get_or, drop, map, inl, inr, refl, sym, ap, ◌∙◌, arith}
use Rattle.std.specs.Prelude.{Option, Some, None, ◌⊎◌, if◌then◌else◌, is_some}
use Rattle.std.specs.Global.{Box}
use Rattle.std.proofs.lemmas.List.{append-nil, at_drop_more}
use Rattle.c_ast.specs.declared.expr.Expr.{Expr}
use Rattle.c_ast.specs.Trees.{StatementTree, StatementTrees}
use Rattle.c_ast.specs.UnitViews.{statements_of}
use Rattle.c_ast.specs.declared.statement.Statement.{Statement, out-Statement}
use Rattle.c_ast.specs.declared.statement.StatementForm.{StatementForm}
use Rattle.c_ast.specs.declared.statement.StatementForm.TheVariants as form
use Rattle.c_symbols.specs.Scoping.{symbol_named}
use Rattle.c_units.specs.Marks.{all_labels, all_marks, firsts, labels, marks}
use Rattle.c_stmt_parts.specs.ElseLabels.{else_labels, else_marks}
use Rattle.c_stmt_parts.specs.StatementsSeen.{form_break, form_continue, form_expression, form_goto, form_if, form_if_else, form_return, statement_form_seen, statement_parts, statement_seen}

-- ---- names with their numbers

pub firsts_behind : (before xs ys : List (List ℕ × ℕ)) → firsts before (xs ++ ys) ≡ firsts (firsts before xs) ys
firsts_behind before [] ys = refl
firsts_behind before (x ∷ xs) ys = firsts_behind (if is_some (symbol_named before x.0) then before else before ++ x ∷ []) xs ys

pub known_label : (before : List (List ℕ × ℕ)) (name : List ℕ) (n : ℕ) → is_some (symbol_named before name) ≡ true → before ≡ firsts before ((name, n) ∷ [])
known_label before name n h = ap (λ (b : Bool). if b then before else before ++ (name, n) ∷ []) (sym h)

pub new_label : (before : List (List ℕ × ℕ)) (name : List ℕ) (n : ℕ) → is_some (symbol_named before name) ≡ false → before ++ (name, n) ∷ [] ≡ firsts before ((name, n) ∷ [])
new_label before name n h = ap (λ (b : Bool). if b then before else before ++ (name, n) ∷ []) (sym h)

pub unnamed : (o : Option ℕ) → is_some o ≡ false → o ≡ None
unnamed None h = refl
unnamed (Some x) h = absurd (cc)

-- ---- statements in order

abbrev seen_all : List Statement → StatementTrees
seen_all ss = statements_of (map statement_seen ss)

labels_at : (found : List (List ℕ × ℕ)) (n : ℕ) (ss : List Statement) (i : ℕ) (s : Statement) → i < length ss → s ≡ get_or ss i s → firsts found (all_labels n (seen_all (drop i ss))) ≡ firsts (firsts found (labels n (statement_seen s))) (all_labels (n + marks (statement_seen s)) (seen_all (drop (i + 1) ss)))
labels_at found n ss i s l e =
    at_drop_more (λ xs. firsts found (all_labels n (seen_all xs))) ss i s l
    ∙ ap (λ x. firsts found (all_labels n (seen_all (x ∷ drop (i + 1) ss)))) (sym e)
    ∙ firsts_behind found (labels n (statement_seen s)) (all_labels (n + marks (statement_seen s)) (seen_all (drop (i + 1) ss)))

pub labels_more : (found more : List (List ℕ × ℕ)) (n m : ℕ) (ss : List Statement) (i : ℕ) (s : Statement) → i < length ss → s ≡ get_or ss i s → more ≡ firsts found (labels n (statement_seen s)) → m ≡ n + marks (statement_seen s)
    → firsts more (all_labels m (seen_all (drop (i + 1) ss))) ≡ firsts found (all_labels n (seen_all (drop i ss)))
labels_more found more n m ss i s l e f g = rw (f, g) (sym (labels_at found n ss i s l e))

pub marks_more : (n m : ℕ) (ss : List Statement) (i : ℕ) (s : Statement) → i < length ss → s ≡ get_or ss i s → m ≡ n + marks (statement_seen s) → m + all_marks (seen_all (drop (i + 1) ss)) ≡ n + all_marks (seen_all (drop i ss))
marks_more n m ss i s l e g =
    let h : all_marks (seen_all (drop i ss)) ≡ marks (statement_seen s) + all_marks (seen_all (drop (i + 1) ss)) =
    at_drop_more (λ xs. all_marks (seen_all xs)) ss i s l ∙ ap (λ x. all_marks (seen_all (x ∷ drop (i + 1) ss))) (sym e)
    in
    omega arith

-- ---- one statement, as its form tells

seen_by : (v : Statement) (f : StatementForm) (tree : StatementTree) → (out-Statement v).form ≡ f → statement_form_seen f (out-Statement v).line ≡ tree → statement_seen v ≡ tree
seen_by v f tree e h = statement_parts v ∙ ap (λ x. statement_form_seen x (out-Statement v).line) e ∙ h

module _ (v : Statement) (f : StatementForm) (tree : StatementTree) (e : (out-Statement v).form ≡ f) (h : statement_form_seen f (out-Statement v).line ≡ tree) where
  -- none
  leaf_labels : (found : List (List ℕ × ℕ)) (n : ℕ) → labels n tree ≡ [] → found ≡ firsts found (labels n (statement_seen v))
  leaf_labels found n z = ap (firsts found) (sym (ap (labels n) (seen_by v f tree e h) ∙ z))

  leaf_marks : (n : ℕ) → marks tree ≡ 0 → n ≡ n + marks (statement_seen v)
  leaf_marks n z = let k : marks (statement_seen v) ≡ 0 = ap marks (seen_by v f tree e h) ∙ z in omega arith

  -- those of a block
  pub block_labels_are : (found new ls : List (List ℕ × ℕ)) (n : ℕ) → labels n tree ≡ ls → new ≡ firsts found ls → new ≡ firsts found (labels n (statement_seen v))
  block_labels_are found new ls n z g = g ∙ ap (firsts found) (sym (ap (labels n) (seen_by v f tree e h) ∙ z))

  pub block_marks_are : (n m k : ℕ) → marks tree ≡ k → m ≡ n + k → m ≡ n + marks (statement_seen v)
  block_marks_are n m k z g = g ∙ ap (λ (x : ℕ). n + x) (sym (ap marks (seen_by v f tree e h) ∙ z))

  -- those of the statement inside
  module _ (x y : Statement) (same : statement_seen x ≡ statement_seen y) where
    pub inner_labels : (found new : List (List ℕ × ℕ)) (n : ℕ) → labels n tree ≡ labels n (statement_seen y) → new ≡ firsts found (labels n (statement_seen x)) → new ≡ firsts found (labels n (statement_seen v))
    inner_labels found new n z g = g ∙ ap (firsts found) (ap (labels n) same ∙ sym z ∙ sym (ap (labels n) (seen_by v f tree e h)))

    pub inner_marks : (n m : ℕ) → marks tree ≡ marks (statement_seen y) → m ≡ n + marks (statement_seen x) → m ≡ n + marks (statement_seen v)
    inner_marks n m z g = g ∙ ap (λ (k : ℕ). n + k) (ap marks same ∙ sym z ∙ sym (ap marks (seen_by v f tree e h)))

    -- with one more before them
    pub next_labels : (found new : List (List ℕ × ℕ)) (n m : ℕ) → labels n tree ≡ labels (suc n) (statement_seen y) → m ≡ n + 1 → new ≡ firsts found (labels m (statement_seen x)) → new ≡ firsts found (labels n (statement_seen v))
    next_labels found new n m z k g =
        let l : m ≡ suc n = omega arith in
        g ∙ ap (firsts found) (ap (λ (i : ℕ). labels i (statement_seen x)) l ∙ ap (labels (suc n)) same ∙ sym z ∙ sym (ap (labels n) (seen_by v f tree e h)))

    pub next_marks : (n m k : ℕ) → marks tree ≡ suc (marks (statement_seen y)) → m ≡ n + 1 → k ≡ m + marks (statement_seen x) → k ≡ n + marks (statement_seen v)
    next_marks n m k z i g =
        let a : marks (statement_seen v) ≡ suc (marks (statement_seen y)) = ap marks (seen_by v f tree e h) ∙ z in
        let b : marks (statement_seen x) ≡ marks (statement_seen y) = ap marks same in
        omega arith

    -- behind a label
    pub labelled_labels : (found mid new : List (List ℕ × ℕ)) (n m : ℕ) (name own : List ℕ) → labels n tree ≡ (name, n) ∷ labels (suc n) (statement_seen y) → own ≡ name → mid ≡ firsts found ((own, n) ∷ []) → m ≡ n + 1 → new ≡ firsts mid (labels m (statement_seen x))
        → new ≡ firsts found (labels n (statement_seen v))
    labelled_labels found mid new n m name own z o d k g =
        let l : m ≡ suc n = omega arith in
        g ∙ ap (λ ls. firsts ls (labels m (statement_seen x))) (d ∙ ap (λ (w : List ℕ). firsts found ((w, n) ∷ [])) o)
        ∙ ap (firsts (firsts found ((name, n) ∷ []))) (ap (λ (i : ℕ). labels i (statement_seen x)) l ∙ ap (labels (suc n)) same)
        ∙ ap (firsts found) (sym z ∙ sym (ap (labels n) (seen_by v f tree e h)))

-- ---- a statement in which none stands

abbrev IsPlain : StatementForm → Type 0
IsPlain f = ((x : Option Expr) × (f ≡ form.Expression x)) ⊎ (((x : List ℕ) × (f ≡ form.Goto x)) ⊎ ((f ≡ form.Continue) ⊎ ((f ≡ form.Break) ⊎ ((x : Option Expr) × (f ≡ form.Return x)))))

pub plain_labels : (found : List (List ℕ × ℕ)) (n : ℕ) (v : Statement) → IsPlain (out-Statement v).form → found ≡ firsts found (labels n (statement_seen v))
plain_labels found n v (inl h) = leaf_labels v _ _ h.1 (form_expression h.0 (out-Statement v).line) found n refl
plain_labels found n v (inr (inl h)) = leaf_labels v _ _ h.1 (form_goto h.0 (out-Statement v).line) found n refl
plain_labels found n v (inr (inr (inl h))) = leaf_labels v _ _ h (form_continue (out-Statement v).line) found n refl
plain_labels found n v (inr (inr (inr (inl h)))) = leaf_labels v _ _ h (form_break (out-Statement v).line) found n refl
plain_labels found n v (inr (inr (inr (inr h)))) = leaf_labels v _ _ h.1 (form_return h.0 (out-Statement v).line) found n refl

pub plain_marks : (n : ℕ) (v : Statement) → IsPlain (out-Statement v).form → n ≡ n + marks (statement_seen v)
plain_marks n v (inl h) = leaf_marks v _ _ h.1 (form_expression h.0 (out-Statement v).line) n refl
plain_marks n v (inr (inl h)) = leaf_marks v _ _ h.1 (form_goto h.0 (out-Statement v).line) n refl
plain_marks n v (inr (inr (inl h))) = leaf_marks v _ _ h (form_continue (out-Statement v).line) n refl
plain_marks n v (inr (inr (inr (inl h)))) = leaf_marks v _ _ h (form_break (out-Statement v).line) n refl
plain_marks n v (inr (inr (inr (inr h)))) = leaf_marks v _ _ h.1 (form_return h.0 (out-Statement v).line) n refl

-- ---- an `if`, perhaps with an `else`

if_labels : (v : Statement) (e : Box Expr) (s : Box Statement) (o : Option (Box Statement)) (n : ℕ) → (out-Statement v).form ≡ form.If e s o → labels n (statement_seen v) ≡ labels n (statement_seen s.value) ++ else_labels (n + marks (statement_seen s.value)) o
if_labels v e s None n i = ap (labels n) (seen_by v _ _ i (form_if e s (out-Statement v).line)) ∙ sym (append-nil (labels n (statement_seen s.value)))
if_labels v e s (Some u) n i = ap (labels n) (seen_by v _ _ i (form_if_else e s u (out-Statement v).line))

if_marks : (v : Statement) (e : Box Expr) (s : Box Statement) (o : Option (Box Statement)) → (out-Statement v).form ≡ form.If e s o → marks (statement_seen v) ≡ marks (statement_seen s.value) + else_marks o
if_marks v e s None i = let k : marks (statement_seen v) ≡ marks (statement_seen s.value) = ap marks (seen_by v _ _ i (form_if e s (out-Statement v).line)) in omega arith
if_marks v e s (Some u) i = ap marks (seen_by v _ _ i (form_if_else e s u (out-Statement v).line))

module _ (v : Statement) (e : Box Expr) (s : Box Statement) (o : Option (Box Statement)) (i : (out-Statement v).form ≡ form.If e s o) (x : Statement) (same : statement_seen x ≡ statement_seen s.value) where
  pub both_labels : (found mid new : List (List ℕ × ℕ)) (n m : ℕ) → mid ≡ firsts found (labels n (statement_seen x)) → m ≡ n + marks (statement_seen x) → new ≡ firsts mid (else_labels m o) → new ≡ firsts found (labels n (statement_seen v))
  both_labels found mid new n m d k g =
      g ∙ ap (λ ls. firsts ls (else_labels m o)) (d ∙ ap (λ u. firsts found (labels n u)) same)
      ∙ ap (λ (j : ℕ). firsts (firsts found (labels n (statement_seen s.value))) (else_labels j o)) (k ∙ ap (λ u. n + marks u) same)
      ∙ sym (firsts_behind found (labels n (statement_seen s.value)) (else_labels (n + marks (statement_seen s.value)) o))
      ∙ ap (firsts found) (sym (if_labels v e s o n i))

  pub both_marks : (n m k : ℕ) → m ≡ n + marks (statement_seen x) → k ≡ m + else_marks o → k ≡ n + marks (statement_seen v)
  both_marks n m k h g =
      let a : marks (statement_seen v) ≡ marks (statement_seen s.value) + else_marks o = if_marks v e s o i in
      let b : marks (statement_seen x) ≡ marks (statement_seen s.value) = ap marks same in
      omega arith
