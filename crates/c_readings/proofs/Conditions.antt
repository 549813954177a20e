-- Readers of expressions in statements are exact: before a sign, in parentheses, and these before a statement.
use Rattle.std.proofs.Common.{◌≡◌, ◌≤◌, ℕ, max, false, None, List, ◌∷◌, refl, arith}
use Rattle.c_ast.specs.InForce.{InForce}
use Rattle.c_ast.specs.Lexemes.{Name, Sign}
use Rattle.c_ast.specs.Marks.{Mark, Tok, IsSign, is_sign}
use Rattle.c_ast.specs.ExprMarks as marks
use Rattle.c_ast.specs.UnitMarks.{statement}
use Rattle.c_ast.specs.Trees.{ExprTree, MaybeExpr, NoExpr, AnExpr, StatementTree}
use Rattle.c_ast.specs.Levels.{Parts, FitsMaybe, FitsStatement}
use Rattle.c_ast.specs.Heights.{height, maybe_height, statement_height}
use Rattle.c_ast.specs.Reach.{goes_on, goes_on_whole, link_of}
use Rattle.c_readings.specs.Reading.{State, Read, gives, bind, answer, tail, beyond, one_sign, name_then}
use Rattle.c_readings.specs.Readers.{Readers}
use Rattle.c_readings.specs.StatementReaders.{low_expression, maybe_before, condition, behind_colon, guarded, name_before}
use Rattle.c_readings.specs.Exact.{RunsOn, Finds, IsPiece, Exact, FitsAt, nothing_more}
use Rattle.c_readings.proofs.Steps.{Yields, bind_yields, if_yields, exact_yields, exact_by, nothing_ends, nothing_stops, name_yields, sign_taken, sign_yields, taken_used, iff_same, iff_then, token_iff, bind_finds, asked_yes, asked_no, first_finds, sign_finds, sign_next, beyond_runs}
use Rattle.c_readings.proofs.Operators.{stops_whole_at}
use Rattle.c_readings.proofs.Firsts.{starts_expr, no_sign}
use Rattle.c_readings.proofs.Lows.{EachExact, low_exact}

-- ---- marks

-- an expression or none, and the sign
abbrev pub before : ℕ → MaybeExpr → List Mark → List Mark
before k e r = marks.maybe_expr e (Tok (Sign k) ∷ r)

abbrev pub FitsWhole : MaybeExpr → Type 0
FitsWhole e = FitsMaybe e 0

-- no expression goes on with the sign or begins with it
abbrev pub EndsExpr : ℕ → Type 0
EndsExpr k = (link_of (Sign k) ≡ None) × (is_sign 45 (Sign k) ≡ false) × ((names : InForce) → starts_expr names (Sign k) ≡ false)

pub semicolon_ends : EndsExpr 32
semicolon_ends = (refl, refl, λ names. refl)

pub parenthesis_ends : EndsExpr 3
parenthesis_ends = (refl, refl, λ names. refl)

-- an expression in parentheses
abbrev pub in_parentheses : ExprTree → List Mark → List Mark
in_parentheses e r = Tok (Sign 2) ∷ marks.expr e (Tok (Sign 3) ∷ r)

-- that and a statement
abbrev pub guard : ExprTree × StatementTree → List Mark → List Mark
guard p r = in_parentheses p.0 (statement p.1 r)

abbrev pub FitsGuard : ExprTree × StatementTree → Type 0
FitsGuard p = Parts p.0 × FitsStatement p.1

abbrev pub guard_height : ExprTree × StatementTree → ℕ
guard_height p = max (height p.0) (statement_height p.1)

abbrev pub colon_then : StatementTree → List Mark → List Mark
colon_then x r = Tok (Sign 31) ∷ statement x r

-- a name, and the sign
abbrev pub named_then : ℕ → List ℕ → List Mark → List Mark
named_then k name r = Tok (Name name) ∷ Tok (Sign k) ∷ r

-- any name will do, and it is of no height
abbrev pub FitsAny : List ℕ → Type 0
FitsAny name = Unit {0}

abbrev pub no_height : List ℕ → ℕ
no_height name = 0

-- ---- names

pub name_before_exact : (k limit : ℕ) → Exact (named_then k) FitsAny nothing_more no_height limit 2 (λ s. name_before k s)
name_before_exact k limit =
    exact_by (named_then k) FitsAny nothing_more no_height limit 2 (λ s. name_before k s)
    (λ s. name_yields s (λ n t. one_sign k t (λ u. gives n u)) _ (λ n us h.
    sign_yields k record { names = s.names; rest = us } (λ u. gives n u) _ (λ i. record {
      fits = tt;
      low = omega arith;
      ends = nothing_ends n (tail us);
      used = let a = taken_used s.rest us (Name n) h in let b = taken_used us (tail us) (Sign k) i in omega arith;
      runs = λ r. token_iff (Name n) (Tok (Sign k) ∷ r) s us h (token_iff (Sign k) r record { names = s.names; rest = us } (tail us) i iff_same);
    })))
    (λ s n r f l c h.
    first_finds (Name n) (Tok (Sign k) ∷ r) r s (name_then (λ m t. one_sign k t (λ u. gives m u))) n h (λ t g.
    sign_finds k r r t (λ u. gives n u) n g (λ i. (refl, i))))

module _ (R : ℕ → Readers) (e : EachExact R) (n : ℕ) where
  -- ---- expressions

  -- an expression that may have a comma
  pub low_expression_exact : Exact marks.expr Parts goes_on_whole height n 1 (low_expression R n)
  unfolding low_expression
  low_expression_exact = low_exact marks.expr Parts goes_on_whole height (R n).limit 1 (R n).whole (e n).0.whole n (e n).1

  -- an expression of a `case`
  pub low_piece_exact : Exact marks.expr (FitsAt 2) (goes_on 2) height n 1 ((R n).piece 2)
  low_piece_exact = low_exact marks.expr (FitsAt 2) (goes_on 2) height (R n).limit 1 ((R n).piece 2) ((e n).0.piece 2 (omega arith) (omega arith)) n (e n).1

  before_yields : (k : ℕ) (s : State) → Yields (maybe_before R n k s) (IsPiece (before k) FitsWhole nothing_more maybe_height n 1 s)
  unfolding maybe_before
  before_yields k s =
      if_yields (answer (IsSign k) s) _ _ _
      (λ a. let h = sign_taken k s.rest a in record {
        fits = tt;
        low = omega arith;
        ends = nothing_ends NoExpr (tail s.rest);
        used = let u = taken_used s.rest (tail s.rest) (Sign k) h in omega arith;
        runs = λ r. token_iff (Sign k) r s (tail s.rest) h iff_same;
      })
      (λ a. bind_yields (low_expression R n s) _ _ _ (exact_yields _ _ _ _ _ _ _ low_expression_exact s) (λ x t h.
      sign_yields k t (λ u. gives (AnExpr x) u) _ (λ i. record {
        fits = (omega arith, h.fits);
        low = h.low;
        ends = nothing_ends (AnExpr x) (tail t.rest);
        used = let u = taken_used t.rest (tail t.rest) (Sign k) i in let v = h.used in omega arith;
        runs = λ r. iff_then (h.runs (Tok (Sign k) ∷ r)) (token_iff (Sign k) r t (tail t.rest) i iff_same);
      })))

  before_found : (k : ℕ) → EndsExpr k → (s : State) (x : MaybeExpr) (r : List Mark) → FitsWhole x → maybe_height x ≤ n → RunsOn (before k x r) s → Finds (maybe_before R n k s) x r
  unfolding maybe_before
  before_found k d s NoExpr r f l h = asked_yes (IsSign k) s _ _ NoExpr r (sign_next k r s h) (refl, beyond_runs (Sign k) r s h)
  before_found k d s (AnExpr x) r f l h =
      asked_no (IsSign k) s _ _ (AnExpr x) r (no_sign k x (Tok (Sign k) ∷ r) s (d.2 s.names) f.1 h)
      (bind_finds (low_expression R n s) x (Tok (Sign k) ∷ r) r _ (AnExpr x) (low_expression_exact.found s x (Tok (Sign k) ∷ r) f.1 l (stops_whole_at x (Sign k) r d.0 d.1) h) (λ t g.
      sign_finds k r r t (λ u. gives (AnExpr x) u) (AnExpr x) g (λ i. (refl, i))))

  pub maybe_before_exact : (k : ℕ) → EndsExpr k → Exact (before k) FitsWhole nothing_more maybe_height n 1 (maybe_before R n k)
  maybe_before_exact k d = exact_by (before k) FitsWhole nothing_more maybe_height n 1 (maybe_before R n k) (before_yields k) (λ s x r f l c h. before_found k d s x r f l h)

  condition_yields : (s : State) → Yields (condition R n s) (IsPiece in_parentheses Parts nothing_more height n 3 s)
  unfolding condition
  condition_yields s =
      sign_yields 2 s (λ t. bind (low_expression R n t) (λ x u. one_sign 3 u (λ v. gives x v))) _ (λ a.
      bind_yields (low_expression R n (beyond s)) _ _ _ (exact_yields _ _ _ _ _ _ _ low_expression_exact (beyond s)) (λ x t h.
      sign_yields 3 t (λ v. gives x v) _ (λ i. record {
        fits = h.fits;
        low = h.low;
        ends = nothing_ends x (tail t.rest);
        used = let u = taken_used s.rest (tail s.rest) (Sign 2) a in let v = h.used in let z = taken_used t.rest (tail t.rest) (Sign 3) i in omega arith;
        runs = λ r. token_iff (Sign 2) (marks.expr x (Tok (Sign 3) ∷ r)) s (tail s.rest) a (iff_then (h.runs (Tok (Sign 3) ∷ r)) (token_iff (Sign 3) r t (tail t.rest) i iff_same));
      })))

  condition_found : (s : State) (x : ExprTree) (r : List Mark) → Parts x → height x ≤ n → RunsOn (in_parentheses x r) s → Finds (condition R n s) x r
  unfolding condition
  condition_found s x r f l h =
      sign_finds 2 (marks.expr x (Tok (Sign 3) ∷ r)) r s (λ t. bind (low_expression R n t) (λ x u. one_sign 3 u (λ v. gives x v))) x h (λ g.
      bind_finds (low_expression R n (beyond s)) x (Tok (Sign 3) ∷ r) r _ x (low_expression_exact.found (beyond s) x (Tok (Sign 3) ∷ r) f l (stops_whole_at x (Sign 3) r refl refl) g) (λ t i.
      sign_finds 3 r r t (λ v. gives x v) x i (λ j. (refl, j))))

  pub condition_exact : Exact in_parentheses Parts nothing_more height n 3 (condition R n)
  condition_exact = exact_by in_parentheses Parts nothing_more height n 3 (condition R n) condition_yields (λ s x r f l c h. condition_found s x r f l h)

  -- ---- before a statement

  module _ (inner : State → Read StatementTree) (i : Exact statement FitsStatement nothing_more statement_height n 1 inner) where
    guarded_yields : (s : State) → Yields (guarded R n inner s) (IsPiece guard FitsGuard nothing_more guard_height n 4 s)
    unfolding guarded
    guarded_yields s =
        bind_yields (condition R n s) _ _ _ (condition_yields s) (λ x t h.
        bind_yields (inner t) _ _ _ (exact_yields _ _ _ _ _ _ inner i t) (λ y u k.
        let a = h.low in
        let b = k.low in
        let c = h.used in
        let d = k.used in
        record {
          fits = (h.fits, k.fits);
          low = omega arith;
          ends = nothing_ends {A = ExprTree × StatementTree} (x, y) u.rest;
          used = omega arith;
          runs = λ r. iff_then (h.runs (statement y r)) (k.runs r);
        }))

    guarded_found : (s : State) (p : ExprTree × StatementTree) (r : List Mark) → FitsGuard p → guard_height p ≤ n → RunsOn (guard p r) s → Finds (guarded R n inner s) p r
    unfolding guarded
    guarded_found s p r f l h =
        bind_finds (condition R n s) p.0 (statement p.1 r) r _ p (condition_found s p.0 (statement p.1 r) f.0 (omega arith) h) (λ t g.
        bind_finds (inner t) p.1 r r _ p (i.found t p.1 r f.1 (omega arith) (nothing_stops p.1 r) g) (λ u j. (refl, j)))

    pub guarded_exact : Exact guard FitsGuard nothing_more guard_height n 4 (guarded R n inner)
    guarded_exact = exact_by guard FitsGuard nothing_more guard_height n 4 (guarded R n inner) guarded_yields (λ s p r f l c h. guarded_found s p r f l h)

module _ (n : ℕ) (inner : State → Read StatementTree) (i : Exact statement FitsStatement nothing_more statement_height n 1 inner) where
  colon_yields : (s : State) → Yields (behind_colon inner s) (IsPiece colon_then FitsStatement nothing_more statement_height n 2 s)
  unfolding behind_colon
  colon_yields s =
      sign_yields 31 s (λ t. bind (inner t) (λ x u. gives x u)) _ (λ a.
      bind_yields (inner (beyond s)) _ _ _ (exact_yields _ _ _ _ _ _ inner i (beyond s)) (λ x t h. record {
        fits = h.fits;
        low = h.low;
        ends = nothing_ends x t.rest;
        used = let u = taken_used s.rest (tail s.rest) (Sign 31) a in let v = h.used in omega arith;
        runs = λ r. token_iff (Sign 31) (statement x r) s (tail s.rest) a (h.runs r);
      }))

  colon_found : (s : State) (x : StatementTree) (r : List Mark) → FitsStatement x → statement_height x ≤ n → RunsOn (colon_then x r) s → Finds (behind_colon inner s) x r
  unfolding behind_colon
  colon_found s x r f l h =
      sign_finds 31 (statement x r) r s (λ t. bind (inner t) (λ x u. gives x u)) x h (λ g.
      bind_finds (inner (beyond s)) x r r _ x (i.found (beyond s) x r f l (nothing_stops x r) g) (λ t j. (refl, j)))

  pub behind_colon_exact : Exact colon_then FitsStatement nothing_more statement_height n 2 (behind_colon inner)
  behind_colon_exact = exact_by colon_then FitsStatement nothing_more statement_height n 2 (behind_colon inner) colon_yields (λ s x r f l c h. colon_found s x r f l h)
