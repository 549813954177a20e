-- Readers of what stands behind a keyword that begins a statement, both ways.
use Rattle.std.proofs.Common.{◌≡◌, ◌≤◌, ◌↔◌, ℕ, suc, false, None, List, ◌∷◌, length, refl, sym, subst, arith}
use Rattle.c_ast.specs.Lexemes.{Keyword, Sign}
use Rattle.c_ast.specs.Marks.{Mark, Tok, Here, Ask, IsKeyword, IsLabel, is_keyword}
use Rattle.c_ast.specs.ExprMarks.{expr}
use Rattle.c_ast.specs.UnitMarks.{statement}
use Rattle.c_ast.specs.Trees.{ExprTree, MaybeExpr, StatementTree, Case, Default, If, IfElse, Switch, While, Do, For, Goto, Continue, Break, Return}
use Rattle.c_ast.specs.Levels.{FitsStatement}
use Rattle.c_ast.specs.Heights.{maybe_height, statement_height}
use Rattle.c_readings.specs.Reading.{State, Read, gives, bind, answer, tail, beyond, one_sign}
use Rattle.c_readings.specs.Readers.{Readers}
use Rattle.c_readings.specs.StatementReaders.{StatementWord, CaseWord, DefaultWord, IfWord, SwitchWord, WhileWord, DoWord, ForWord, GotoWord, ContinueWord, BreakWord, ReturnWord, maybe_before, condition, behind_colon, guarded, name_before, labelled, if_behind, do_behind, for_behind, by_word, by_maybe_word, statement_above}
use Rattle.c_readings.specs.Exact.{RunsOn, Finds, IsPiece, Exact, nothing_more}
use Rattle.c_readings.proofs.Lows.{EachExact}
use Rattle.c_readings.proofs.Steps.{Yields, bind_yields, if_yields, exact_yields, nothing_stops, sign_yields, taken_used, iff_same, iff_then, token_iff, asked_iff, bind_finds, asked_yes, asked_no, here_finds, sign_finds, beyond_runs, first_is_at}
use Rattle.c_readings.proofs.Operators.{stops_at}
use Rattle.c_readings.proofs.StatementWords.{number_of, keyword_taken, keyword_no_label, word_next}
use Rattle.c_readings.proofs.Conditions.{before, FitsWhole, EndsExpr, semicolon_ends, parenthesis_ends, in_parentheses, guard, FitsGuard, guard_height, colon_then, named_then, FitsAny, no_height, name_before_exact, low_piece_exact, maybe_before_exact, condition_exact, guarded_exact, behind_colon_exact}

-- ---- what is read is so

-- a statement that begins with the word, on this line, stands from s on, its word before it
pub record IsBehindWord (n line : ℕ) (k : StatementWord) (s : State) (x : StatementTree) (t : State) : Type 0 where
  pub fits : FitsStatement x
  pub low : statement_height x ≤ suc n
  pub used : length t.rest ≤ length s.rest
  pub runs : (r : List Mark) → (m : List Mark) × (statement x r ≡ Here line ∷ Tok (Keyword (number_of k)) ∷ m) × (RunsOn m s ↔ RunsOn r t)

-- one thing alone stands behind the word
alone_yields : {A : Type 0} (spelled : A → List Mark → List Mark) (Fits : A → Type 0) (high : A → ℕ) (n least : ℕ) (read : State → Read A) → Exact spelled Fits nothing_more high n least read → (line : ℕ) (k : StatementWord) (f : A → StatementTree) → ((x : A) → Fits x → FitsStatement (f x)) → ((x : A) → high x ≤ n → statement_height (f x) ≤ suc n) → ((x : A) (r : List Mark) → statement (f x) r ≡ Here line ∷ Tok (Keyword (number_of k)) ∷ spelled x r) → (s : State) → Yields (bind (read s) (λ x t. gives (f x) t)) (IsBehindWord n line k s)
alone_yields spelled Fits high n least read e line k f fits low same s =
    bind_yields (read s) _ _ _ (exact_yields spelled Fits nothing_more high n least read e s) (λ x t h.
    record { fits = fits x h.fits; low = low x h.low; used = let u = h.used in omega arith; runs = λ r. (spelled x r, same x r, h.runs r) })

-- a semicolon alone
semicolon_yields : (n line : ℕ) (k : StatementWord) (x : StatementTree) → FitsStatement x → statement_height x ≤ suc n → ((r : List Mark) → statement x r ≡ Here line ∷ Tok (Keyword (number_of k)) ∷ Tok (Sign 32) ∷ r) → (s : State) → Yields (one_sign 32 s (λ t. gives x t)) (IsBehindWord n line k s)
semicolon_yields n line k x f l same s =
    sign_yields 32 s (λ t. gives x t) _ (λ a.
    record { fits = f; low = l; used = let u = taken_used s.rest (tail s.rest) (Sign 32) a in omega arith; runs = λ r. (Tok (Sign 32) ∷ r, same r, token_iff (Sign 32) r s (tail s.rest) a iff_same) })

-- behind `for (`
abbrev for_then : (ℕ → Readers) → ℕ → (State → Read StatementTree) → ℕ → State → Read StatementTree
for_then R n inner line s =
    bind (maybe_before R n 32 s) (λ a t. bind (maybe_before R n 32 t) (λ b u. bind (maybe_before R n 3 u) (λ c v. bind (inner v) (λ x z. gives (For line a b c x) z))))

module _ (R : ℕ → Readers) (e : EachExact R) (n : ℕ) (inner : State → Read StatementTree) (i : Exact statement FitsStatement nothing_more statement_height n 1 inner) where
  inner_yields : (s : State) → Yields (inner s) (IsPiece statement FitsStatement nothing_more statement_height n 1 s)
  inner_yields s = exact_yields _ _ _ _ _ _ inner i s

  before_yields : (k : ℕ) (d : EndsExpr k) (s : State) → Yields (maybe_before R n k s) (IsPiece (before k) FitsWhole nothing_more maybe_height n 1 s)
  before_yields k d s = exact_yields _ _ _ _ _ _ (maybe_before R n k) (maybe_before_exact R e n k d) s

  guarded_yields : (s : State) → Yields (guarded R n inner s) (IsPiece guard FitsGuard nothing_more guard_height n 4 s)
  guarded_yields s = exact_yields _ _ _ _ _ _ (guarded R n inner) (guarded_exact R e n inner i) s

  colon_yields : (s : State) → Yields (behind_colon inner s) (IsPiece colon_then FitsStatement nothing_more statement_height n 2 s)
  colon_yields s = exact_yields _ _ _ _ _ _ (behind_colon inner) (behind_colon_exact n inner i) s

  case_yields : (line : ℕ) (s : State) → Yields (by_word R n inner line CaseWord s) (IsBehindWord n line CaseWord s)
  case_yields line s =
      bind_yields ((R n).piece 2 s) _ _ _ (exact_yields _ _ _ _ _ _ _ (low_piece_exact R e n) s) (λ a t h.
      bind_yields (behind_colon inner t) _ _ _ (colon_yields t) (λ x u k.
      let p = h.low in
      let q = k.low in
      let c = h.used in
      let d = k.used in
      record {
        fits = (h.fits.0, h.fits.1, k.fits);
        low = omega arith;
        used = omega arith;
        runs = λ r. (expr a (colon_then x r), refl, iff_then (h.runs (colon_then x r)) (k.runs r));
      }))

  choice_yields : (line : ℕ) (s : State) → Yields (by_word R n inner line IfWord s) (IsBehindWord n line IfWord s)
  unfolding if_behind
  choice_yields line s =
      bind_yields (guarded R n inner s) _ _ _ (guarded_yields s) (λ p t h.
      let b = h.low in
      let c = h.used in
      if_yields (answer (IsKeyword 9) t) _ _ _
      (λ a. let q = keyword_taken 9 t.rest a in
      bind_yields (inner (beyond t)) _ _ _ (inner_yields (beyond t)) (λ y u k.
      let d = k.low in
      let f = k.used in
      let g = taken_used t.rest (tail t.rest) (Keyword 9) q in
      record {
        fits = (h.fits.0, h.fits.1, k.fits);
        low = omega arith;
        used = omega arith;
        runs = λ r. let m : List Mark = Tok (Keyword 9) ∷ statement y r in (guard p m, refl, iff_then (h.runs m) (token_iff (Keyword 9) (statement y r) t (tail t.rest) q (k.runs r)));
      }))
      (λ a. record {
        fits = h.fits;
        low = omega arith;
        used = omega arith;
        runs = λ r. (guard p (Ask (IsKeyword 9) false ∷ r), refl, iff_then (h.runs (Ask (IsKeyword 9) false ∷ r)) (asked_iff (IsKeyword 9) false r t a iff_same));
      }))

  do_yields : (line : ℕ) (s : State) → Yields (by_word R n inner line DoWord s) (IsBehindWord n line DoWord s)
  unfolding do_behind
  do_yields line s =
      bind_yields (inner s) _ _ _ (inner_yields s) (λ x t h.
      if_yields (answer (IsKeyword 31) t) _ None _
      (λ a. let q = keyword_taken 31 t.rest a in
      bind_yields (condition R n (beyond t)) _ _ _ (exact_yields _ _ _ _ _ _ _ (condition_exact R e n) (beyond t)) (λ c u k.
      sign_yields 32 u (λ v. gives (Do line x c) v) _ (λ j.
      let b = h.low in
      let d = k.low in
      let f = h.used in
      let g = k.used in
      let o = taken_used t.rest (tail t.rest) (Keyword 31) q in
      let p = taken_used u.rest (tail u.rest) (Sign 32) j in
      record {
        fits = (h.fits, k.fits);
        low = omega arith;
        used = omega arith;
        runs = λ r. let m : List Mark = in_parentheses c (Tok (Sign 32) ∷ r) in (statement x (Tok (Keyword 31) ∷ m), refl, iff_then (h.runs (Tok (Keyword 31) ∷ m)) (token_iff (Keyword 31) m t (tail t.rest) q (iff_then (k.runs (Tok (Sign 32) ∷ r)) (token_iff (Sign 32) r u (tail u.rest) j iff_same))));
      })))
      (λ a. tt))

  for_yields : (line : ℕ) (s : State) → Yields (by_word R n inner line ForWord s) (IsBehindWord n line ForWord s)
  unfolding for_behind
  for_yields line s =
      sign_yields 2 s (for_then R n inner line) _ (λ q.
      bind_yields (maybe_before R n 32 (beyond s)) _ _ _ (before_yields 32 semicolon_ends (beyond s)) (λ a t ha.
      bind_yields (maybe_before R n 32 t) _ _ _ (before_yields 32 semicolon_ends t) (λ b u hb.
      bind_yields (maybe_before R n 3 u) _ _ _ (before_yields 3 parenthesis_ends u) (λ c v hc.
      bind_yields (inner v) _ _ _ (inner_yields v) (λ x z hx.
      let la = ha.low in
      let lb = hb.low in
      let lc = hc.low in
      let lx = hx.low in
      let ua = ha.used in
      let ub = hb.used in
      let uc = hc.used in
      let ux = hx.used in
      let us = taken_used s.rest (tail s.rest) (Sign 2) q in
      record {
        fits = (ha.fits, hb.fits, hc.fits, hx.fits);
        low = omega arith;
        used = omega arith;
        runs = λ r.
            let mc : List Mark = before 3 c (statement x r) in
            let mb : List Mark = before 32 b mc in
            let ma : List Mark = before 32 a mb in
            (Tok (Sign 2) ∷ ma, refl, token_iff (Sign 2) ma s (tail s.rest) q (iff_then (ha.runs mb) (iff_then (hb.runs mc) (iff_then (hc.runs (statement x r)) (hx.runs r)))));
      })))))

  pub by_word_yields : (line : ℕ) (k : StatementWord) (s : State) → Yields (by_word R n inner line k s) (IsBehindWord n line k s)
  by_word_yields line CaseWord s = case_yields line s
  by_word_yields line DefaultWord s = alone_yields colon_then FitsStatement statement_height n 2 (behind_colon inner) (behind_colon_exact n inner i) line DefaultWord (λ x. Default line x) (λ x f. f) (λ x l. omega arith) (λ x r. refl) s
  by_word_yields line IfWord s = choice_yields line s
  by_word_yields line SwitchWord s = alone_yields guard FitsGuard guard_height n 4 (guarded R n inner) (guarded_exact R e n inner i) line SwitchWord (λ p. Switch line p.0 p.1) (λ p f. f) (λ p l. omega arith) (λ p r. refl) s
  by_word_yields line WhileWord s = alone_yields guard FitsGuard guard_height n 4 (guarded R n inner) (guarded_exact R e n inner i) line WhileWord (λ p. While line p.0 p.1) (λ p f. f) (λ p l. omega arith) (λ p r. refl) s
  by_word_yields line DoWord s = do_yields line s
  by_word_yields line ForWord s = for_yields line s
  by_word_yields line GotoWord s = alone_yields (named_then 32) FitsAny no_height n 2 (λ t. name_before 32 t) (name_before_exact 32 n) line GotoWord (λ a. Goto line a) (λ a f. f) (λ a l. omega arith) (λ a r. refl) s
  by_word_yields line ContinueWord s = semicolon_yields n line ContinueWord (Continue line) tt (omega arith) (λ r. refl) s
  by_word_yields line BreakWord s = semicolon_yields n line BreakWord (Break line) tt (omega arith) (λ r. refl) s
  by_word_yields line ReturnWord s = alone_yields (before 32) FitsWhole maybe_height n 1 (maybe_before R n 32) (maybe_before_exact R e n 32 semicolon_ends) line ReturnWord (λ a. Return line a) (λ a f. f) (λ a l. omega arith) (λ a r. refl) s

-- ---- what stands there is read

-- a statement that begins with the word is read where the rest of it is
word_found : (R : ℕ → Readers) (n : ℕ) (inner : State → Read StatementTree) (l : ℕ) (k : StatementWord) (x : StatementTree) (m r : List Mark) (s : State) → RunsOn (Here l ∷ Tok (Keyword (number_of k)) ∷ m) s → (RunsOn m (beyond s) → Finds (by_word R n inner l k (beyond s)) x r) → Finds (statement_above R n inner s) x r
unfolding statement_above
word_found R n inner l k x m r s h g =
    asked_no IsLabel s (labelled inner s) _ x r (keyword_no_label (number_of k) m s h.1)
    (subst (λ o. Finds (by_maybe_word R n inner o s) x r) (sym (word_next k m s h.1))
    (here_finds l (Tok (Keyword (number_of k)) ∷ m) r s (λ j. by_word R n inner j k (beyond s)) x h (λ j. g (beyond_runs (Keyword (number_of k)) m s j))))

-- one thing alone stands behind the word
alone_found : {A : Type 0} (spelled : A → List Mark → List Mark) (Fits : A → Type 0) (high : A → ℕ) (n least : ℕ) (read : State → Read A) → Exact spelled Fits nothing_more high n least read → (f : A → StatementTree) (x : A) (r : List Mark) (s : State) → Fits x → high x ≤ n → RunsOn (spelled x r) s → Finds (bind (read s) (λ y t. gives (f y) t)) (f x) r
alone_found spelled Fits high n least read e f x r s p l h = bind_finds (read s) x r r (λ y t. gives (f y) t) (f x) (e.found s x r p l (nothing_stops x r) h) (λ t g. (refl, g))

module _ (R : ℕ → Readers) (e : EachExact R) (n : ℕ) (inner : State → Read StatementTree) (i : Exact statement FitsStatement nothing_more statement_height n 1 inner) where
  -- it stands there and is read where it fits and is low enough
  abbrev Found : StatementTree → Type 0
  Found x = (r : List Mark) (s : State) → FitsStatement x → statement_height x ≤ suc n → RunsOn (statement x r) s → Finds (statement_above R n inner s) x r

  -- the last thing of a statement is one
  inner_found : (x : StatementTree) (f : StatementTree → StatementTree) (r : List Mark) (s : State) → FitsStatement x → statement_height x ≤ n → RunsOn (statement x r) s → Finds (bind (inner s) (λ y t. gives (f y) t)) (f x) r
  inner_found x f r s p l h = alone_found statement FitsStatement statement_height n 1 inner i f x r s p l h

  colon_found : (x : StatementTree) (f : StatementTree → StatementTree) (r : List Mark) (s : State) → FitsStatement x → statement_height x ≤ n → RunsOn (colon_then x r) s → Finds (bind (behind_colon inner s) (λ y t. gives (f y) t)) (f x) r
  colon_found x f r s p l h = alone_found colon_then FitsStatement statement_height n 2 (behind_colon inner) (behind_colon_exact n inner i) f x r s p l h

  guard_found : (p : ExprTree × StatementTree) (f : ExprTree × StatementTree → StatementTree) (r : List Mark) (s : State) → FitsGuard p → guard_height p ≤ n → RunsOn (guard p r) s → Finds (bind (guarded R n inner s) (λ q t. gives (f q) t)) (f p) r
  guard_found p f r s q l h = alone_found guard FitsGuard guard_height n 4 (guarded R n inner) (guarded_exact R e n inner i) f p r s q l h

  pub case_found : (l : ℕ) (a : ExprTree) (x : StatementTree) → Found (Case l a x)
  case_found l a x r s f k h =
      word_found R n inner l CaseWord (Case l a x) (expr a (colon_then x r)) r s h (λ g.
      bind_finds ((R n).piece 2 (beyond s)) a (colon_then x r) r _ (Case l a x) ((low_piece_exact R e n).found (beyond s) a (colon_then x r) (f.0, f.1) (omega arith) (stops_at a 2 (Sign 31) (statement x r) refl) g) (λ t j.
      colon_found x (λ y. Case l a y) r t f.2 (omega arith) j))

  pub default_found : (l : ℕ) (x : StatementTree) → Found (Default l x)
  default_found l x r s f k h = word_found R n inner l DefaultWord (Default l x) (colon_then x r) r s h (λ g. colon_found x (λ y. Default l y) r (beyond s) f (omega arith) g)

  pub if_found : (l : ℕ) (a : ExprTree) (x : StatementTree) → Found (If l a x)
  unfolding if_behind
  if_found l a x r s f k h =
      let m : List Mark = Ask (IsKeyword 9) false ∷ r in
      let p : ExprTree × StatementTree = (a, x) in
      word_found R n inner l IfWord (If l a x) (guard p m) r s h (λ g.
      bind_finds (guarded R n inner (beyond s)) p m r _ (If l a x) ((guarded_exact R e n inner i).found (beyond s) p m f (omega arith) (nothing_stops p m) g) (λ t j.
      asked_no (IsKeyword 9) t _ _ (If l a x) r j.0 (refl, j.1)))

  pub if_else_found : (l : ℕ) (a : ExprTree) (x y : StatementTree) → Found (IfElse l a x y)
  unfolding if_behind
  if_else_found l a x y r s f k h =
      let m : List Mark = Tok (Keyword 9) ∷ statement y r in
      let p : ExprTree × StatementTree = (a, x) in
      word_found R n inner l IfWord (IfElse l a x y) (guard p m) r s h (λ g.
      bind_finds (guarded R n inner (beyond s)) p m r _ (IfElse l a x y) ((guarded_exact R e n inner i).found (beyond s) p m (f.0, f.1) (omega arith) (nothing_stops p m) g) (λ t j.
      asked_yes (IsKeyword 9) t _ _ (IfElse l a x y) r (first_is_at (is_keyword 9) (Keyword 9) (statement y r) t j)
      (inner_found y (λ z. IfElse l a x z) r (beyond t) f.2 (omega arith) (beyond_runs (Keyword 9) (statement y r) t j))))

  pub switch_found : (l : ℕ) (a : ExprTree) (x : StatementTree) → Found (Switch l a x)
  switch_found l a x r s f k h = word_found R n inner l SwitchWord (Switch l a x) (guard (a, x) r) r s h (λ g. guard_found (a, x) (λ p. Switch l p.0 p.1) r (beyond s) f (omega arith) g)

  pub while_found : (l : ℕ) (a : ExprTree) (x : StatementTree) → Found (While l a x)
  while_found l a x r s f k h = word_found R n inner l WhileWord (While l a x) (guard (a, x) r) r s h (λ g. guard_found (a, x) (λ p. While l p.0 p.1) r (beyond s) f (omega arith) g)

  pub do_found : (l : ℕ) (x : StatementTree) (a : ExprTree) → Found (Do l x a)
  unfolding do_behind
  do_found l x a r s f k h =
      let c : List Mark = in_parentheses a (Tok (Sign 32) ∷ r) in
      let m : List Mark = Tok (Keyword 31) ∷ c in
      word_found R n inner l DoWord (Do l x a) (statement x m) r s h (λ g.
      bind_finds (inner (beyond s)) x m r _ (Do l x a) (i.found (beyond s) x m f.0 (omega arith) (nothing_stops x m) g) (λ t j.
      asked_yes (IsKeyword 31) t _ None (Do l x a) r (first_is_at (is_keyword 31) (Keyword 31) c t j)
      (bind_finds (condition R n (beyond t)) a (Tok (Sign 32) ∷ r) r _ (Do l x a) ((condition_exact R e n).found (beyond t) a (Tok (Sign 32) ∷ r) f.1 (omega arith) (nothing_stops a (Tok (Sign 32) ∷ r)) (beyond_runs (Keyword 31) c t j)) (λ u p.
      sign_finds 32 r r u (λ v. gives (Do l x a) v) (Do l x a) p (λ q. (refl, q))))))

  pub for_found : (l : ℕ) (a b c : MaybeExpr) (x : StatementTree) → Found (For l a b c x)
  unfolding for_behind
  for_found l a b c x r s f k h =
      let z : StatementTree = For l a b c x in
      let mc : List Mark = before 3 c (statement x r) in
      let mb : List Mark = before 32 b mc in
      let ma : List Mark = before 32 a mb in
      word_found R n inner l ForWord z (Tok (Sign 2) ∷ ma) r s h (λ g.
      sign_finds 2 ma r (beyond s) (for_then R n inner l) z g (λ g1.
      bind_finds (maybe_before R n 32 (beyond (beyond s))) a mb r _ z ((maybe_before_exact R e n 32 semicolon_ends).found (beyond (beyond s)) a mb f.0 (omega arith) (nothing_stops a mb) g1) (λ t g2.
      bind_finds (maybe_before R n 32 t) b mc r _ z ((maybe_before_exact R e n 32 semicolon_ends).found t b mc f.1 (omega arith) (nothing_stops b mc) g2) (λ u g3.
      bind_finds (maybe_before R n 3 u) c (statement x r) r _ z ((maybe_before_exact R e n 3 parenthesis_ends).found u c (statement x r) f.2 (omega arith) (nothing_stops c (statement x r)) g3) (λ v g4.
      inner_found x (λ y. For l a b c y) r v f.3 (omega arith) g4)))))

  pub goto_found : (l : ℕ) (a : List ℕ) → Found (Goto l a)
  goto_found l a r s f k h = word_found R n inner l GotoWord (Goto l a) (named_then 32 a r) r s h (λ g. alone_found (named_then 32) FitsAny no_height n 2 (λ t. name_before 32 t) (name_before_exact 32 n) (λ b. Goto l b) a r (beyond s) tt (omega arith) g)

  pub continue_found : (l : ℕ) → Found (Continue l)
  continue_found l r s f k h = word_found R n inner l ContinueWord (Continue l) (Tok (Sign 32) ∷ r) r s h (λ g. sign_finds 32 r r (beyond s) (λ t. gives (Continue l) t) (Continue l) g (λ j. (refl, j)))

  pub break_found : (l : ℕ) → Found (Break l)
  break_found l r s f k h = word_found R n inner l BreakWord (Break l) (Tok (Sign 32) ∷ r) r s h (λ g. sign_finds 32 r r (beyond s) (λ t. gives (Break l) t) (Break l) g (λ j. (refl, j)))

  pub return_found : (l : ℕ) (a : MaybeExpr) → Found (Return l a)
  return_found l a r s f k h = word_found R n inner l ReturnWord (Return l a) (before 32 a r) r s h (λ g. alone_found (before 32) FitsWhole maybe_height n 1 (maybe_before R n 32) (maybe_before_exact R e n 32 semicolon_ends) (λ b. Return l b) a r (beyond s) f (omega arith) g)
