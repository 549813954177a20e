-- Readers of blocks are exact, where those of declarations and of statements are.
use Rattle.std.proofs.Common.{◌≡◌, ◌≤◌, ◌+◌, not, ℕ, suc, Bool, true, false, List, [], ◌∷◌, length, refl, sym, ap, ◌∙◌, subst, arith}
use Rattle.c_ast.specs.Lexemes.{Sign}
use Rattle.c_ast.specs.Marks.{Mark, Tok, Close, IsSign}
use Rattle.c_ast.specs.UnitMarks as marks
use Rattle.c_ast.specs.Trees.{DeclarationTree, StatementTree, StatementTrees, NoStatements, Statements, BlockTree, Block}
use Rattle.c_ast.specs.UnitViews.{statements_of}
use Rattle.c_ast.specs.Levels.{FitsDeclarations, FitsStatement, FitsStatements, FitsBlock}
use Rattle.c_ast.specs.Heights.{declarations_height, statement_height, statements_height, block_height}
use Rattle.c_readings.specs.Reading.{State, Read, gives, answer, tail, beyond, close_state, all_of}
use Rattle.c_readings.specs.Readers.{Readers}
use Rattle.c_readings.specs.DeclarationReaders.{declarations}
use Rattle.c_readings.specs.StatementReaders.{block_inside}
use Rattle.c_readings.specs.Exact.{RunsOn, Finds, IsPiece, Exact, nothing_more}
use Rattle.c_readings.proofs.Steps.{Yields, yields, bind_yields, exact_yields, exact_by, nothing_ends, nothing_stops, Takes, sign_yields, taken_used, iff_same, iff_then, token_iff, asked_iff, bind_finds, sign_finds, sign_next}
use Rattle.c_readings.proofs.Lists.{Every, Fit, EndsAt, IsItem, IsList, many_yields, many_finds}
use Rattle.c_readings.proofs.Firsts.{not_not}
use Rattle.c_readings.proofs.Records.{no_brace}

-- ---- statements up to a brace

-- before each of them no brace is next
abbrev row : Bool → List StatementTree → List Mark → List Mark
row b xs r = marks.statements (statements_of xs) r

abbrev FitsLow : ℕ → StatementTree → Type 0
FitsLow n x = Fit FitsStatement statement_height n x

abbrev AreStatements : ℕ → State → List StatementTree → State → Type 0
AreStatements n s xs t = IsList row (FitsLow n) (EndsAt nothing_more) (λ b u. no_brace u) true s xs t

statements_fit : (n : ℕ) (xs : List StatementTree) → Every (FitsLow n) xs → FitsStatements (statements_of xs) × (statements_height (statements_of xs) ≤ n)
statements_fit n [] h = (tt, omega arith)
statements_fit n (x ∷ xs) h = let k = statements_fit n xs h.1 in let l = h.0.1 in let m = k.1 in ((h.0.0, k.0), omega arith)

abbrev statement_list : StatementTrees → List StatementTree
statement_list NoStatements = []
statement_list (Statements x xs) = x ∷ statement_list xs

statement_list_of : (xs : StatementTrees) → statements_of (statement_list xs) ≡ xs
statement_list_of NoStatements = refl
statement_list_of (Statements x xs) = ap (Statements x) (statement_list_of xs)

statements_are_fit : (n : ℕ) (xs : StatementTrees) → FitsStatements xs → statements_height xs ≤ n → Every (FitsLow n) (statement_list xs)
statements_are_fit n NoStatements f l = tt
statements_are_fit n (Statements x xs) f l = ((f.0, omega arith), statements_are_fit n xs f.1 (omega arith))

module _ (n : ℕ) (inner : State → Read StatementTree) (i : Exact marks.statement FitsStatement nothing_more statement_height n 1 inner) where
  statement_item : (b : Bool) (s : State) (x : StatementTree) (t : State) → no_brace s ≡ true → IsPiece marks.statement FitsStatement nothing_more statement_height n 1 s x t → IsItem row (FitsLow n) (EndsAt nothing_more) (λ b x. b) b s x t
  statement_item b s x t a h = record {
    kept = (h.fits, h.low);
    ends = h.ends;
    used = h.used;
    runs = λ xs r. asked_iff (IsSign 5) false (marks.statement x (row b xs r)) s (not_not (answer (IsSign 5) s) a) (h.runs (row b xs r));
  }

  statements_yields : (s : State) → Yields (all_of (λ b u. no_brace u) (λ b u. inner u) (λ b x. b) true s) (AreStatements n s)
  statements_yields s =
      many_yields row (FitsLow n) (EndsAt nothing_more) (λ b u. no_brace u) (λ b u. inner u) (λ b x. b)
      (λ b t r a. iff_same)
      (λ b t a. yields (inner t) _ (λ x u k. statement_item b t x u a (i.piece t x u k)))
      (length s.rest + 1) true s

  -- behind the last of them the brace is next
  statements_found : (s : State) (xs : List StatementTree) (r : List Mark) → Every (FitsLow n) xs → RunsOn (marks.statements (statements_of xs) (Tok (Sign 5) ∷ r)) s → Finds (all_of (λ b u. no_brace u) (λ b u. inner u) (λ b x. b) true s) xs (Tok (Sign 5) ∷ r)
  statements_found s xs r f h =
      let end : List Mark = Tok (Sign 5) ∷ r in
      many_finds (λ b ys. row b ys end) (Every (FitsLow n)) end (λ b u. no_brace u) (λ b u. inner u) (λ b x. b)
      (λ b t k. (ap not (sign_next 5 r t k), k))
      (λ b t x ys q k. (ap not k.0, q.1, i.found t x (row b ys end) q.0.0 q.0.1 (nothing_stops x (row b ys end)) k.1))
      (λ b t x u a k. (i.piece t x u k).used)
      (length s.rest + 1) true s xs (omega arith) f h

-- ---- blocks

-- behind `{`, where the scope is open
abbrev pub inside : BlockTree → List Mark → List Mark
inside (Block l ds ss) r = marks.declarations ds (marks.statements ss (Tok (Sign 5) ∷ Close ∷ r))

-- it fits, and is that on this line
abbrev pub FitsOn : ℕ → BlockTree → Type 0
FitsOn line (Block l ds ss) = (l ≡ line) × FitsBlock (Block l ds ss)

module _ (R : ℕ → Readers) (n : ℕ) (ds : Exact marks.declarations FitsDeclarations nothing_more declarations_height n 0 (declarations R n)) (inner : State → Read StatementTree) (i : Exact marks.statement FitsStatement nothing_more statement_height n 1 inner) (line : ℕ) where
  inside_by : (s : State) (xs : List DeclarationTree) (t : State) (ys : List StatementTree) (u : State) → IsPiece marks.declarations FitsDeclarations nothing_more declarations_height n 0 s xs t → AreStatements n t ys u → Takes u.rest (Sign 5) (tail u.rest) → IsPiece inside (FitsOn line) nothing_more block_height (suc n) 1 s (Block line xs (statements_of ys)) (close_state false (beyond u))
  inside_by s xs t ys u h k j =
      let f = statements_fit n ys k.kept in
      let l = h.low in
      let m = f.1 in
      record {
        fits = (refl, (h.fits, f.0));
        low = omega arith;
        ends = nothing_ends (Block line xs (statements_of ys)) (tail u.rest);
        used = let a = h.used in let b = k.used in let c = taken_used u.rest (tail u.rest) (Sign 5) j in omega arith;
        runs = λ r. let end : List Mark = Tok (Sign 5) ∷ Close ∷ r in iff_then (h.runs (row true ys end)) (iff_then (k.runs end) (token_iff (Sign 5) (Close ∷ r) u (tail u.rest) j iff_same));
      }

  inside_yields : (s : State) → Yields (block_inside R n inner line s) (IsPiece inside (FitsOn line) nothing_more block_height (suc n) 1 s)
  unfolding block_inside
  inside_yields s =
      bind_yields (declarations R n s) _ _ _ (exact_yields _ _ _ _ _ _ (declarations R n) ds s) (λ xs t h.
      bind_yields (all_of (λ b u. no_brace u) (λ b u. inner u) (λ b x. b) true t) _ _ _ (statements_yields n inner i t) (λ ys u k.
      sign_yields 5 u (λ v. gives (Block line xs (statements_of ys)) (close_state false v)) _ (λ j. inside_by s xs t ys u h k j)))

  inside_list_found : (s : State) (xs : List DeclarationTree) (ys : List StatementTree) (r : List Mark) → FitsDeclarations xs → declarations_height xs ≤ n → Every (FitsLow n) ys → RunsOn (inside (Block line xs (statements_of ys)) r) s → Finds (block_inside R n inner line s) (Block line xs (statements_of ys)) r
  unfolding block_inside
  inside_list_found s xs ys r f l g h =
      let z : BlockTree = Block line xs (statements_of ys) in
      let end : List Mark = Tok (Sign 5) ∷ Close ∷ r in
      bind_finds (declarations R n s) xs (row true ys end) r _ z (ds.found s xs (row true ys end) f l (nothing_stops xs (row true ys end)) h) (λ t k.
      bind_finds (all_of (λ b u. no_brace u) (λ b u. inner u) (λ b x. b) true t) ys end r _ z (statements_found n inner i t ys (Close ∷ r) g k) (λ u m.
      sign_finds 5 (Close ∷ r) r u (λ v. gives (Block line xs (statements_of ys)) (close_state false v)) z m (λ q. (refl, q))))

  inside_found : (s : State) (x : BlockTree) (r : List Mark) → FitsOn line x → block_height x ≤ suc n → RunsOn (inside x r) s → Finds (block_inside R n inner line s) x r
  inside_found s (Block l xs ys) r f h k =
      let e : Block line xs (statements_of (statement_list ys)) ≡ Block l xs ys = ap (λ m. Block m xs (statements_of (statement_list ys))) (sym f.0) ∙ ap (Block l xs) (statement_list_of ys) in
      subst (λ x. Finds (block_inside R n inner line s) x r) e
      (inside_list_found s xs (statement_list ys) r f.1.0 (omega arith) (statements_are_fit n ys f.1.1 (omega arith)) (subst (λ zs. RunsOn (inside (Block line xs zs) r) s) (sym (statement_list_of ys)) k))

  -- what stands in braces is read, and nothing else, where the line of `{` is told
  pub block_inside_exact : Exact inside (FitsOn line) nothing_more block_height (suc n) 1 (block_inside R n inner line)
  block_inside_exact = exact_by inside (FitsOn line) nothing_more block_height (suc n) 1 (block_inside R n inner line) inside_yields (λ s x r f l c h. inside_found s x r f l h)
