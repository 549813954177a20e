-- Readers of statements are exact, where those of declarations are.
use Rattle.std.proofs.Common.{◌≡◌, ◌≤◌, ℕ, zero, suc, true, false, Option, Some, None, List, [], ◌∷◌, refl, sym, ap, subst, arith}
use Rattle.c_ast.specs.InForce.{InForce}
use Rattle.c_ast.specs.Lexemes.{Lexeme, Name, Keyword, Integer, Character, Text, Sign, Placed}
use Rattle.c_ast.specs.Marks.{Mark, Tok, Here, Ask, Open, IsSign, IsLabel, first_is, first_two, is_name, is_sign, lexemes}
use Rattle.c_ast.specs.UnitMarks as marks
use Rattle.c_ast.specs.Trees.{MaybeExpr, NoExpr, AnExpr, StatementTree, Label, Case, Default, Expression, Compound, If, IfElse, Switch, While, Do, For, Goto, Continue, Break, Return, BlockTree, Block}
use Rattle.c_ast.specs.Levels.{FitsDeclarations, FitsStatement, FitsBlock}
use Rattle.c_ast.specs.Heights.{maybe_height, declarations_height, statement_height, block_height}
use Rattle.c_readings.specs.Reading.{State, Read, gives, bind, answer, here, tail, beyond, open_state}
use Rattle.c_readings.specs.Readers.{Readers}
use Rattle.c_readings.specs.DeclarationReaders.{declarations}
use Rattle.c_readings.specs.StatementReaders.{StatementWord, word_as, word_at, maybe_before, name_before, labelled, by_word, block_inside, compound, evaluate, by_maybe_word, statement_above, statement}
use Rattle.c_readings.specs.Exact.{RunsOn, Finds, IsPiece, Exact, nothing_more}
use Rattle.c_readings.proofs.Lows.{EachExact}
use Rattle.c_readings.proofs.Steps.{Yields, yields_also, bind_yields, if_yields, exact_yields, exact_by, nothing_ends, nothing_stops, Takes, same_number, sign_taken, taken_used, taken_left, iff_then, iff_path, here_iff, token_iff, asked_iff, bind_finds, asked_yes, asked_no, here_is, here_finds, sign_next, beyond_runs, first_is_at}
use Rattle.c_readings.proofs.Firsts.{starts_expr, expr_first, no_sign}
use Rattle.c_readings.proofs.Rounds.{nothing_exact}
use Rattle.c_readings.proofs.Conditions.{before, FitsWhole, semicolon_ends, named_then, name_before_exact, maybe_before_exact}
use Rattle.c_readings.proofs.Blocks.{inside, FitsOn, block_inside_exact}
use Rattle.c_readings.proofs.StatementWords.{number_of, word_taken}
use Rattle.c_readings.proofs.Worded.{IsBehindWord, by_word_yields, case_found, default_found, if_found, if_else_found, switch_found, while_found, do_found, for_found, goto_found, continue_found, break_found, return_found}

-- ---- what is read is so

abbrev IsStatement : ℕ → State → StatementTree → State → Type 0
IsStatement n s x t = IsPiece marks.statement FitsStatement nothing_more statement_height n 1 s x t

with_word : (n : ℕ) (s : State) (k : StatementWord) (x : StatementTree) (t : State) → Takes s.rest (Keyword (number_of k)) (tail s.rest) → IsBehindWord n (here s) k (beyond s) x t → IsStatement (suc n) s x t
with_word n s k x t h b = record {
  fits = b.fits;
  low = b.low;
  ends = nothing_ends x t.rest;
  used = let u = taken_used s.rest (tail s.rest) (Keyword (number_of k)) h in let v = b.used in omega arith;
  runs = λ r. let m = b.runs r in iff_then (iff_path (marks.statement x r) (Here (here s) ∷ Tok (Keyword (number_of k)) ∷ m.0) s m.1) (here_iff (Tok (Keyword (number_of k)) ∷ m.0) s (taken_left s.rest (tail s.rest) (Keyword (number_of k)) h) (token_iff (Keyword (number_of k)) m.0 s (tail s.rest) h m.2));
}

-- a block stands where its inside stands behind `{`
with_brace : (n : ℕ) (s : State) (x : BlockTree) (t : State) → answer (IsSign 4) s ≡ true → IsPiece inside (FitsOn (here s)) nothing_more block_height n 1 (open_state (beyond s)) x t → IsStatement n s (Compound (here s) x) t
with_brace n s (Block l ds ss) t a h =
    let k = sign_taken 4 s.rest a in
    let left = taken_left s.rest (tail s.rest) (Sign 4) k in
    record {
      fits = h.fits.1;
      low = h.low;
      ends = nothing_ends (Compound (here s) (Block l ds ss)) t.rest;
      used = let u = taken_used s.rest (tail s.rest) (Sign 4) k in let v = h.used in omega arith;
      runs = λ r.
          let m : List Mark = Open ∷ inside (Block l ds ss) r in
          let o : List Mark = Here (here s) ∷ Tok (Sign 4) ∷ m in
          iff_then (iff_path (marks.statement (Compound (here s) (Block l ds ss)) r) (Here (here s) ∷ o) s (ap (λ j. Here (here s) ∷ Here j ∷ Tok (Sign 4) ∷ m) h.fits.0)) (here_iff o s left (here_iff (Tok (Sign 4) ∷ m) s left (token_iff (Sign 4) m s (tail s.rest) k (h.runs r))));
    }

-- ---- what begins no statement with a keyword

-- a token that begins an expression is no such keyword
starts_no_word : (names : InForce) (l : Lexeme) → starts_expr names l ≡ true → word_as l ≡ None
starts_no_word names (Name n) h = refl
starts_no_word names (Keyword k) h = ap word_as (ap Keyword (same_number k 22 h))
starts_no_word names (Integer v k) h = refl
starts_no_word names (Character v) h = refl
starts_no_word names (Text b) h = refl
starts_no_word names (Sign k) h = refl

expr_no_word : (names : InForce) (ts : List Placed) → first_is (starts_expr names) (lexemes ts) ≡ true → word_at ts ≡ None
expr_no_word names [] h = refl
expr_no_word names (t ∷ ts) h = starts_no_word names t.lexeme h

-- neither a keyword nor a brace begins an expression or none before a semicolon
evaluate_begins : (x : MaybeExpr) (r : List Mark) (s : State) → FitsWhole x → RunsOn (before 32 x r) s → (word_at s.rest ≡ None) × (answer (IsSign 4) s ≡ false)
evaluate_begins NoExpr r s f h = (ap word_at h.2, first_is_at (is_sign 4) (Sign 32) r s h)
evaluate_begins (AnExpr x) r s f h = (expr_no_word s.names s.rest (expr_first x (Tok (Sign 32) ∷ r) s f.1 h), no_sign 4 x (Tok (Sign 32) ∷ r) s refl f.1 h)

module _ (R : ℕ → Readers) (e : EachExact R) (n : ℕ) (ds : Exact marks.declarations FitsDeclarations nothing_more declarations_height n 0 (declarations R n)) (inner : State → Read StatementTree) (i : Exact marks.statement FitsStatement nothing_more statement_height n 1 inner) where
  labelled_yields : (s : State) → answer IsLabel s ≡ true → Yields (labelled inner s) (IsStatement (suc n) s)
  unfolding labelled
  labelled_yields s a =
      bind_yields (name_before 31 s) _ _ _ (exact_yields _ _ _ _ _ _ _ (name_before_exact 31 n) s) (λ m t h.
      bind_yields (inner t) _ _ _ (exact_yields _ _ _ _ _ _ inner i t) (λ x u k.
      let c = h.used in
      let d = k.used in
      let l = k.low in
      record {
        fits = k.fits;
        low = omega arith;
        ends = nothing_ends (Label (here s) m x) u.rest;
        used = omega arith;
        runs = λ r. let o : List Mark = named_then 31 m (marks.statement x r) in here_iff (Ask IsLabel true ∷ o) s (omega arith) (asked_iff IsLabel true o s a (iff_then (h.runs (marks.statement x r)) (k.runs r)));
      }))

  compound_yields : (s : State) → answer (IsSign 4) s ≡ true → Yields (compound R n inner s) (IsStatement (suc n) s)
  unfolding compound
  compound_yields s a =
      bind_yields (block_inside R n inner (here s) (open_state (beyond s))) _ _ _ (exact_yields _ _ _ _ _ _ _ (block_inside_exact R n ds inner i (here s)) (open_state (beyond s))) (λ x t h.
      with_brace (suc n) s x t a h)

  evaluate_yields : (s : State) → answer IsLabel s ≡ false → Yields (evaluate R n s) (IsStatement (suc n) s)
  unfolding evaluate
  evaluate_yields s a =
      bind_yields (maybe_before R n 32 s) _ _ _ (exact_yields _ _ _ _ _ _ _ (maybe_before_exact R e n 32 semicolon_ends) s) (λ x t h.
      let c = h.used in
      let l = h.low in
      record {
        fits = h.fits;
        low = omega arith;
        ends = nothing_ends (Expression (here s) x) t.rest;
        used = omega arith;
        runs = λ r. here_iff (Ask IsLabel false ∷ before 32 x r) s (omega arith) (asked_iff IsLabel false (before 32 x r) s a (h.runs r));
      })

  by_maybe_yields : (s : State) (o : Option StatementWord) → answer IsLabel s ≡ false → word_at s.rest ≡ o → Yields (by_maybe_word R n inner o s) (IsStatement (suc n) s)
  by_maybe_yields s (Some k) a h = yields_also (by_word R n inner (here s) k (beyond s)) _ _ (by_word_yields R e n inner i (here s) k (beyond s)) (λ x t b. with_word n s k x t (word_taken s.rest k h) b)
  by_maybe_yields s None a h = if_yields (answer (IsSign 4) s) _ _ _ (λ b. compound_yields s b) (λ b. evaluate_yields s a)

  statement_yields : (s : State) → Yields (statement_above R n inner s) (IsStatement (suc n) s)
  unfolding statement_above
  statement_yields s = if_yields (answer IsLabel s) _ _ _ (λ a. labelled_yields s a) (λ a. by_maybe_yields s (word_at s.rest) a refl)

  -- ---- what stands there is read

  labelled_found : (l : ℕ) (m : List ℕ) (x : StatementTree) (r : List Mark) (s : State) → FitsStatement x → statement_height x ≤ n → RunsOn (marks.statement (Label l m x) r) s → Finds (statement_above R n inner s) (Label l m x) r
  unfolding statement_above labelled
  labelled_found l m x r s f k h =
      let o : List Mark = named_then 31 m (marks.statement x r) in
      asked_yes IsLabel s _ (by_maybe_word R n inner (word_at s.rest) s) (Label l m x) r h.1.0
      (here_finds l (Ask IsLabel true ∷ o) r s (λ j. bind (name_before 31 s) (λ a t. bind (inner t) (λ y u. gives (Label j a y) u))) (Label l m x) h (λ g.
      bind_finds (name_before 31 s) m (marks.statement x r) r _ (Label l m x) ((name_before_exact 31 n).found s m (marks.statement x r) tt (omega arith) (nothing_stops m (marks.statement x r)) g.1) (λ t j.
      bind_finds (inner t) x r r _ (Label l m x) (i.found t x r f k (nothing_stops x r) j) (λ u q. (refl, q)))))

  -- a block is no label, and no keyword begins it
  compound_found : (l : ℕ) (x : BlockTree) (r : List Mark) (s : State) → FitsBlock x → block_height x ≤ suc n → RunsOn (marks.statement (Compound l x) r) s → Finds (statement_above R n inner s) (Compound l x) r
  unfolding statement_above compound
  compound_found l (Block b xs ys) r s f k h =
      let x : BlockTree = Block b xs ys in
      let m : List Mark = Open ∷ inside x r in
      let g : RunsOn (Tok (Sign 4) ∷ m) s = h.1.1 in
      asked_no IsLabel s (labelled inner s) _ (Compound l x) r (ap (λ ts. first_two is_name (is_sign 31) (lexemes ts)) g.2)
      (subst (λ o. Finds (by_maybe_word R n inner o s) (Compound l x) r) (sym (ap word_at g.2))
      (asked_yes (IsSign 4) s (compound R n inner s) (evaluate R n s) (Compound l x) r (sign_next 4 m s g)
      (bind_finds (block_inside R n inner (here s) (open_state (beyond s))) x r r _ (Compound l x) ((block_inside_exact R n ds inner i (here s)).found (open_state (beyond s)) x r (sym (here_is b (Tok (Sign 4) ∷ m) s h.1), f) k (nothing_stops x r) (beyond_runs (Sign 4) m s g)) (λ t j.
      (ap (λ a. Compound a x) (here_is l (marks.block x r) s h), j)))))

  evaluate_found : (l : ℕ) (x : MaybeExpr) (r : List Mark) (s : State) → FitsWhole x → maybe_height x ≤ n → RunsOn (marks.statement (Expression l x) r) s → Finds (statement_above R n inner s) (Expression l x) r
  unfolding statement_above evaluate
  evaluate_found l x r s f k h =
      let b = evaluate_begins x r s f h.1.1 in
      asked_no IsLabel s (labelled inner s) _ (Expression l x) r h.1.0
      (subst (λ o. Finds (by_maybe_word R n inner o s) (Expression l x) r) (sym b.0)
      (asked_no (IsSign 4) s (compound R n inner s) (evaluate R n s) (Expression l x) r b.1
      (bind_finds (maybe_before R n 32 s) x r r _ (Expression l x) ((maybe_before_exact R e n 32 semicolon_ends).found s x r f k (nothing_stops x r) h.1.1) (λ t j.
      (ap (λ a. Expression a x) (here_is l (Ask IsLabel false ∷ before 32 x r) s h), j)))))

  statement_found : (s : State) (x : StatementTree) (r : List Mark) → FitsStatement x → statement_height x ≤ suc n → RunsOn (marks.statement x r) s → Finds (statement_above R n inner s) x r
  statement_found s (Label l m x) r f k h = labelled_found l m x r s f (omega arith) h
  statement_found s (Case l a x) r f k h = case_found R e n inner i l a x r s f k h
  statement_found s (Default l x) r f k h = default_found R e n inner i l x r s f k h
  statement_found s (Expression l x) r f k h = evaluate_found l x r s f (omega arith) h
  statement_found s (Compound l x) r f k h = compound_found l x r s f k h
  statement_found s (If l a x) r f k h = if_found R e n inner i l a x r s f k h
  statement_found s (IfElse l a x y) r f k h = if_else_found R e n inner i l a x y r s f k h
  statement_found s (Switch l a x) r f k h = switch_found R e n inner i l a x r s f k h
  statement_found s (While l a x) r f k h = while_found R e n inner i l a x r s f k h
  statement_found s (Do l x a) r f k h = do_found R e n inner i l x a r s f k h
  statement_found s (For l a b c x) r f k h = for_found R e n inner i l a b c x r s f k h
  statement_found s (Goto l a) r f k h = goto_found R e n inner i l a r s f k h
  statement_found s (Continue l) r f k h = continue_found R e n inner i l r s f k h
  statement_found s (Break l) r f k h = break_found R e n inner i l r s f k h
  statement_found s (Return l a) r f k h = return_found R e n inner i l a r s f k h

  -- one node more
  pub statement_above_exact : Exact marks.statement FitsStatement nothing_more statement_height (suc n) 1 (statement_above R n inner)
  statement_above_exact = exact_by marks.statement FitsStatement nothing_more statement_height (suc n) 1 (statement_above R n inner) statement_yields (λ s x r f k c h. statement_found s x r f k h)

-- ---- up to each limit

statement_height_some : (x : StatementTree) → 1 ≤ statement_height x
statement_height_some (Label l m x) = omega arith
statement_height_some (Case l a x) = omega arith
statement_height_some (Default l x) = omega arith
statement_height_some (Expression l a) = omega arith
statement_height_some (Compound l (Block b xs ys)) = omega arith
statement_height_some (If l a x) = omega arith
statement_height_some (IfElse l a x y) = omega arith
statement_height_some (Switch l a x) = omega arith
statement_height_some (While l a x) = omega arith
statement_height_some (Do l x a) = omega arith
statement_height_some (For l a b c x) = omega arith
statement_height_some (Goto l a) = omega arith
statement_height_some (Continue l) = omega arith
statement_height_some (Break l) = omega arith
statement_height_some (Return l a) = omega arith

pub statement_exact : (R : ℕ → Readers) → EachExact R → ((n : ℕ) → Exact marks.declarations FitsDeclarations nothing_more declarations_height n 0 (declarations R n)) → (n : ℕ) → Exact marks.statement FitsStatement nothing_more statement_height n 1 (statement R n)
unfolding statement
statement_exact R e ds zero = nothing_exact marks.statement FitsStatement nothing_more statement_height 1 (statement R zero) statement_height_some (λ s. refl)
statement_exact R e ds (suc n) = statement_above_exact R e n (ds n) (λ s. statement R n s) (statement_exact R e ds n)
