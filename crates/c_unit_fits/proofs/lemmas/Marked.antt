-- The cases of a switch and its default have labels that stand in its body, and no number stands twice.
use Rattle.std.proofs.Common.{◌≡◌, ℕ, ◌+◌, ◌<◌, ◌≤◌, Bool, true, false, List, [], ◌∷◌, ◌++◌, refl, sym, subst, arith}
use Rattle.std.specs.Prelude.{IfSome, Option, Some, None}
use Rattle.std.specs.List.{range_with_len}
use Rattle.c_ast.specs.Trees.{NoExpr, AnExpr, StatementTree, Label, Case, Default, Expression, Compound, If, IfElse, Switch, While, Do, For, Goto, Continue, Break, Return, StatementTrees, NoStatements, Statements, BlockTree, Block}
use Rattle.c_types.specs.CType.{CType}
use Rattle.c_meaning.specs.declared.core_stmt.CoreCase.{CoreCase}
use Rattle.c_meaning.specs.State.{State, entered}
use Rattle.c_meaning.specs.StmtTrees.{StmtOf, StmtsOf}
use Rattle.c_meaning.specs.Units.{are_among, are_apart, is_among, labels, numbers}
use Rattle.c_meaning.specs.Values.{CoreTree}
use Rattle.c_units.specs.Bodies.{Body, Typed, Within, case_number, marked, or_label, stands_in, with_case, with_cases, with_declared, with_default, with_number}
use Rattle.c_units.specs.BodiesRelation.{TypesStmt, TypesStmts, TypesBlock}
use Rattle.c_units.specs.Statements.{Around}
use Rattle.c_fits.proofs.lemmas.Booleans.{and_true}
use Rattle.c_fits.proofs.lemmas.Values.{chosen_by}
use Rattle.c_unit_fits.proofs.lemmas.Numbered.{IsNumbered, stmt_numbered}
use Rattle.c_unit_fits.proofs.lemmas.Ranges.{among_range, apart_push}

-- a label is one of these
abbrev IsBetween : ℕ → ℕ → ℕ → Type 0
IsBetween low high m = (low ≤ m) × (m < high)

abbrev AreBetween : ℕ → ℕ → List CoreCase → Type 0
AreBetween low high [] = Unit {0}
AreBetween low high (c ∷ cs) = IsBetween low high c.label × AreBetween low high cs

-- the cases and the default so far have labels from this one on
pub record Marked (low : ℕ) (b : Body) : Type 0 where
  pub cases : AreBetween low b.marks b.cases
  pub apart : are_apart (numbers b.cases) ≡ true
  pub default : IfSome b.default (IsBetween low b.marks)
  pub from : low ≤ b.marks

-- ---- more labels

between_more : (low n m : ℕ) (cs : List CoreCase) → n ≤ m → AreBetween low n cs → AreBetween low m cs
between_more low n m [] l h = tt
between_more low n m (c ∷ cs) l h = ((h.0.0, let k = h.0.1 in omega (arith, k, l)), between_more low n m cs l h.1)

some_more : (low n m : ℕ) (o : Option ℕ) → n ≤ m → IfSome o (IsBetween low n) → IfSome o (IsBetween low m)
some_more low n m (Some k) l h = (h.0, let j = h.1 in omega (arith, j, l))
some_more low n m None l h = tt

between_push : (low high : ℕ) (cs : List CoreCase) (c : CoreCase) → AreBetween low high cs → IsBetween low high c.label → AreBetween low high (cs ++ c ∷ [])
between_push low high [] c h k = (k, tt)
between_push low high (x ∷ cs) c h k = (h.0, between_push low high cs c h.1 k)

numbers_push : (cs : List CoreCase) (c : CoreCase) → numbers (cs ++ c ∷ []) ≡ numbers cs ++ c.number ∷ []
numbers_push [] c = refl
numbers_push (x ∷ cs) c = rw (numbers_push cs c)

-- ---- a case and a default

with_number_apart : (label : ℕ) (o : Option ℕ) (cs : List CoreCase) → are_apart (numbers cs) ≡ true → are_apart (numbers (with_number label o cs)) ≡ true
with_number_apart label None cs h = h
with_number_apart label (Some n) cs h =
    chosen_by (λ (ds : List CoreCase). are_apart (numbers ds) ≡ true) (is_among n (numbers cs)) cs (cs ++ record { number = n; label = label } ∷ []) (λ e. h)
    (λ e. rw (numbers_push cs (record { number = n; label = label })) (apart_push (numbers cs) n h e))

with_number_between : (low high label : ℕ) (o : Option ℕ) (cs : List CoreCase) → AreBetween low high cs → IsBetween low high label → AreBetween low high (with_number label o cs)
with_number_between low high label None cs h k = h
with_number_between low high label (Some n) cs h k =
    chosen_by (AreBetween low high) (is_among n (numbers cs)) cs (cs ++ record { number = n; label = label } ∷ []) (λ e. h) (λ e. between_push low high cs (record { number = n; label = label }) h k)

-- the next label, in a switch or not
stands_marked : (low : ℕ) (a : Around) (b : Body) (cases : List CoreCase) (default : Option ℕ) → Marked low b → AreBetween low (b.marks + 1) cases → are_apart (numbers cases) ≡ true → IfSome default (IsBetween low (b.marks + 1))
    → Marked low (stands_in a b cases default)
stands_marked low a b cases default h c p d = by a.switch
  where
    by : (s : Bool) → Marked low (stands_in (record { loop = a.loop; switch = s }) b cases default)
    by true = record { cases = c; apart = p; default = d; from = let l = h.from in omega (arith, l) }
    by false =
        record {
          cases = between_more low b.marks (b.marks + 1) b.cases (omega arith) h.cases;
          apart = h.apart;
          default = some_more low b.marks (b.marks + 1) b.default (omega arith) h.default;
          from = let l = h.from in omega (arith, l);
        }

marked_marked : (low : ℕ) (b : Body) → Marked low b → Marked low (marked b)
marked_marked low b h =
    record {
      cases = between_more low b.marks (b.marks + 1) b.cases (omega arith) h.cases;
      apart = h.apart;
      default = some_more low b.marks (b.marks + 1) b.default (omega arith) h.default;
      from = let l = h.from in omega (arith, l);
    }

next_between : (low : ℕ) (b : Body) → Marked low b → IsBetween low (b.marks + 1) b.marks
next_between low b h = (h.from, omega arith)

case_marked : (low : ℕ) (a : Around) (b : Body) (e : CoreTree) → Marked low b → Marked low (with_case a b e)
case_marked low a b e h =
    stands_marked low a b (with_number b.marks (case_number e) b.cases) b.default h
    (with_number_between low (b.marks + 1) b.marks (case_number e) b.cases (between_more low b.marks (b.marks + 1) b.cases (omega arith) h.cases) (next_between low b h))
    (with_number_apart b.marks (case_number e) b.cases h.apart) (some_more low b.marks (b.marks + 1) b.default (omega arith) h.default)

or_label_between : (low : ℕ) (b : Body) (o : Option ℕ) → IfSome o (IsBetween low b.marks) → Marked low b → IfSome (or_label o b.marks) (IsBetween low (b.marks + 1))
or_label_between low b (Some n) d h = some_more low b.marks (b.marks + 1) (Some n) (omega arith) d
or_label_between low b None d h = next_between low b h

default_marked : (low : ℕ) (a : Around) (b : Body) → Marked low b → Marked low (with_default a b)
default_marked low a b h =
    stands_marked low a b b.cases (or_label b.default b.marks) h (between_more low b.marks (b.marks + 1) b.cases (omega arith) h.cases) h.apart (or_label_between low b b.default h.default h)

-- a switch begins without cases, and behind it those around have theirs again
pub switch_marked : (b : Body) → Marked b.marks (with_cases [] None b)
switch_marked b = record { cases = tt; apart = refl; default = tt; from = omega arith }

again_marked : (low : ℕ) (b c : Body) → Marked low b → b.marks ≤ c.marks → Marked low (with_cases b.cases b.default c)
again_marked low b c h l =
    record {
      cases = between_more low b.marks c.marks b.cases l h.cases;
      apart = h.apart;
      default = some_more low b.marks c.marks b.default l h.default;
      from = let k = h.from in omega (arith, k, l);
    }

-- ---- the induction

mutual
  pub stmt_marked : (f : Within) (a : Around) (s : State) (b : Body) (st : StatementTree) (u : State) (t : Typed (StmtOf CType)) → TypesStmt f a s b st u t → (low : ℕ) → Marked low b → Marked low t.body
  stmt_marked f a s b (Label l name st) u t h low k = subst (λ (t : Typed (StmtOf CType)). Marked low t.body) h.3.1.1 (stmt_marked f a s (marked b) st h.0 h.1 h.2 low (marked_marked low b k))
  stmt_marked f a s b (Case l e st) u t h low k = subst (λ (t : Typed (StmtOf CType)). Marked low t.body) h.3.3.1.1 (stmt_marked f a h.0 (with_case a b h.1) st h.3.0 h.3.1 h.3.2 low (case_marked low a b h.1 k))
  stmt_marked f a s b (Default l st) u t h low k = subst (λ (t : Typed (StmtOf CType)). Marked low t.body) h.3.1.1 (stmt_marked f a s (with_default a b) st h.0 h.1 h.2 low (default_marked low a b k))
  stmt_marked f a s b (Expression l NoExpr) u t h low k = subst (λ (t : Typed (StmtOf CType)). Marked low t.body) h.1 k
  stmt_marked f a s b (Expression l (AnExpr e)) u t h low k = subst (λ (t : Typed (StmtOf CType)). Marked low t.body) h.3.1.1 k
  stmt_marked f a s b (Compound l block) u t h low k = subst (λ (t : Typed (StmtOf CType)). Marked low t.body) h.3.1 (block_marked f a (entered s) b block h.0 h.1 h.2 low k)
  stmt_marked f a s b (If l e st) u t h low k = subst (λ (t : Typed (StmtOf CType)). Marked low t.body) h.3.3.1.1 (stmt_marked f a h.0 b st h.3.0 h.3.1 h.3.2 low k)
  stmt_marked f a s b (IfElse l e st su) u t h low k =
      subst (λ (t : Typed (StmtOf CType)). Marked low t.body) h.3.3.3.1.1
      (stmt_marked f a h.3.0 h.3.1.body su h.3.3.0 h.3.3.1 h.3.3.2 low (stmt_marked f a h.0 b st h.3.0 h.3.1 h.3.2 low k))
  stmt_marked f a s b (Switch l e st) u t h low k =
      let i = stmt_numbered f _ h.0 (with_cases [] None b) st h.3.0 h.3.1 h.3.2 in
      let m = i.marks in
      subst (λ (t : Typed (StmtOf CType)). Marked low t.body) h.3.3.1.1 (again_marked low b h.3.1.body k (omega (arith, m)))
  stmt_marked f a s b (While l e st) u t h low k = subst (λ (t : Typed (StmtOf CType)). Marked low t.body) h.3.3.1.1 (stmt_marked f _ h.0 b st h.3.0 h.3.1 h.3.2 low k)
  stmt_marked f a s b (Do l st e) u t h low k = subst (λ (t : Typed (StmtOf CType)). Marked low t.body) h.3.3.1.1 (stmt_marked f _ s b st h.0 h.1 h.2 low k)
  stmt_marked f a s b (For l first test last st) u t h low k =
      let g = h.3.3.3 in subst (λ (t : Typed (StmtOf CType)). Marked low t.body) g.3.1.1 (stmt_marked f _ h.3.3.0 b st g.0 g.1 g.2 low k)
  stmt_marked f a s b (Goto l name) u t h low k = subst (λ (t : Typed (StmtOf CType)). Marked low t.body) h.1 (record { cases = k.cases; apart = k.apart; default = k.default; from = k.from })
  stmt_marked f a s b (Continue l) u t h low k = subst (λ (t : Typed (StmtOf CType)). Marked low t.body) h.1.1 k
  stmt_marked f a s b (Break l) u t h low k = subst (λ (t : Typed (StmtOf CType)). Marked low t.body) h.1.1 k
  stmt_marked f a s b (Return l e) u t h low k = subst (λ (t : Typed (StmtOf CType)). Marked low t.body) h.3.1.1 k

  stmts_marked : (f : Within) (a : Around) (s : State) (b : Body) (ss : StatementTrees) (u : State) (t : Typed (StmtsOf CType)) → TypesStmts f a s b ss u t → (low : ℕ) → Marked low b → Marked low t.body
  stmts_marked f a s b NoStatements u t h low k = subst (λ (t : Typed (StmtsOf CType)). Marked low t.body) h.1 k
  stmts_marked f a s b (Statements st more) u t h low k =
      subst (λ (t : Typed (StmtsOf CType)). Marked low t.body) h.3.3.1
      (stmts_marked f a h.0 h.1.body more h.3.0 h.3.1 h.3.2 low (stmt_marked f a s b st h.0 h.1 h.2 low k))

  block_marked : (f : Within) (a : Around) (s : State) (b : Body) (block : BlockTree) (u : State) (t : Typed (StmtOf CType)) → TypesBlock f a s b block u t → (low : ℕ) → Marked low b → Marked low t.body
  block_marked f a s b (Block l ds ss) u t h low k =
      subst (λ (t : Typed (StmtOf CType)). Marked low t.body) h.3.3.1
      (stmts_marked f a h.0 (with_declared b h.1) ss h.3.0 h.3.1 h.3.2 low (record { cases = k.cases; apart = k.apart; default = k.default; from = k.from }))

-- ---- what stands in the body of a switch

between_among : (low n : ℕ) (cs : List CoreCase) → AreBetween low (low + n) cs → are_among cs (range_with_len low n) ≡ true
between_among low n [] h = refl
between_among low n (c ∷ cs) h = and_true (is_among c.label (range_with_len low n)) (are_among cs (range_with_len low n)) (among_range low n c.label h.0.0 h.0.1) (between_among low n cs h.1)

some_among : (low n : ℕ) (o : Option ℕ) → IfSome o (IsBetween low (low + n)) → IfSome o (λ m. is_among m (range_with_len low n) ≡ true)
some_among low n (Some m) h = among_range low n m h.0 h.1
some_among low n None h = tt

pub switch_cases : (b : Body) (n : ℕ) (t : Typed (StmtOf CType)) → IsNumbered b n t → Marked b.marks t.body → are_among t.body.cases (labels t.code) ≡ true
switch_cases b n t h k = subst (λ ls. are_among t.body.cases ls ≡ true) (sym h.labels) (between_among b.marks n t.body.cases (subst (λ m. AreBetween b.marks m t.body.cases) h.marks k.cases))

pub switch_default : (b : Body) (n : ℕ) (t : Typed (StmtOf CType)) → IsNumbered b n t → Marked b.marks t.body → IfSome t.body.default (λ m. is_among m (labels t.code) ≡ true)
switch_default b n t h k =
    subst (λ ls. IfSome t.body.default (λ m. is_among m ls ≡ true)) (sym h.labels) (some_among b.marks n t.body.default (subst (λ m. IfSome t.body.default (IsBetween b.marks m)) h.marks k.default))
