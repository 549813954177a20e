-- Readers of what stands behind a declared name are exact.
use Rattle.std.proofs.Common.{◌≡◌, ◌≤◌, ◌+◌, not, ◌||◌, ℕ, Bool, true, false, List, [], ◌∷◌, length, refl, sym, ap, ◌∙◌, subst, arith}
use Rattle.c_ast.specs.Lexemes.{Sign}
use Rattle.c_ast.specs.Marks.{Mark, Tok, Open, Put, IsSuffix, IsSign, first_is, is_sign, lexemes}
use Rattle.c_ast.specs.ExprMarks as marks
use Rattle.c_ast.specs.Levels.{IsSome, FitsMaybe, FitsSuffixes, FitsSuffix, FitsParameter}
use Rattle.c_ast.specs.Heights.{height, maybe_height, parameters_height, suffix_height, suffixes_height, parameter_height}
use Rattle.c_ast.specs.Reach.{goes_on}
use Rattle.c_ast.specs.Views.{suffixes_of}
use Rattle.c_ast.specs.Trees.{ExprTree, MaybeExpr, NoExpr, AnExpr, SuffixTree, ArraySuffix, Prototype, NameList, NoParameters, SuffixTrees, NoSuffixes, Suffixes, ParameterTrees, NoParameter, Parameters}
use Rattle.c_readings.specs.Reading.{State, Read, gives, bind, answer, ask, here, beyond, tail, one_sign, open_state, close_state, all_of}
use Rattle.c_readings.specs.Readers.{Readers, size, is_plain, name_list, parameter, parameters, parameter_list, suffix, suffixes}
use Rattle.c_readings.specs.Exact.{RunsOn, Finds, IsPiece, Exact, AreExact, FitsAt, nothing_more}
use Rattle.c_readings.proofs.Steps.{Yields, yields, exact_by, nothing_ends, nothing_stops, bind_yields, if_yields, sign_yields, Takes, sign_taken, taken_used, close_rest, iff_same, iff_then, here_iff, token_iff, asked_iff, close_iff, bind_finds, if_finds_yes, if_finds_no, asked_yes, asked_no, here_finds, sign_finds, sign_next, beyond_runs, first_is_at, first_is_plain}
use Rattle.c_readings.proofs.Lists.{Every, Fit, IsList, many_yields, many_finds}
use Rattle.c_readings.proofs.Operators.{stops_at}
use Rattle.c_readings.proofs.Firsts.{no_sign}
use Rattle.c_readings.proofs.ParameterLists.{IsNames, names_yields, names_found, IsParameters, parameters_exact, parameter_no_sign, parameter_not_plain}

module _ (R : Readers) (e : AreExact R) (p : Exact marks.parameter FitsParameter nothing_more parameter_height R.limit 1 (parameter R)) where
  -- a suffix from a state before its `[` or `(`
  abbrev IsSuffixAt : Bool → State → SuffixTree → State → Type 0
  IsSuffixAt own s x t = IsPiece (marks.suffix own) FitsSuffix nothing_more suffix_height R.limit 1 s x t

  no_size : (own : Bool) (s : State) → Takes s.rest (Sign 0) (tail s.rest) → Takes (tail s.rest) (Sign 1) (tail (tail s.rest)) → IsSuffixAt own s (ArraySuffix (here s) NoExpr) (beyond (beyond s))
  no_size own s k j =
      let u = taken_used s.rest (tail s.rest) (Sign 0) k in
      let v = taken_used (tail s.rest) (tail (tail s.rest)) (Sign 1) j in record {
        fits = tt;
        low = omega arith;
        ends = nothing_ends (ArraySuffix (here s) NoExpr) (tail (tail s.rest));
        used = omega arith;
        runs = λ r.
            here_iff (Tok (Sign 0) ∷ Tok (Sign 1) ∷ r) s (omega arith)
            (token_iff (Sign 0) (Tok (Sign 1) ∷ r) s (tail s.rest) k
            (token_iff (Sign 1) r (beyond s) (tail (tail s.rest)) j iff_same));
      }

  one_size : (own : Bool) (s : State) (i : ExprTree) (t : State) → Takes s.rest (Sign 0) (tail s.rest) → IsPiece marks.expr (FitsAt 2) (goes_on 2) height R.limit 1 (beyond s) i t → Takes t.rest (Sign 1) (tail t.rest) → IsSuffixAt own s (ArraySuffix (here s) (AnExpr i)) (beyond t)
  one_size own s i t k h j =
      let u = taken_used s.rest (tail s.rest) (Sign 0) k in
      let v = taken_used t.rest (tail t.rest) (Sign 1) j in
      let w = h.used in record {
        fits = h.fits;
        low = h.low;
        ends = nothing_ends (ArraySuffix (here s) (AnExpr i)) (tail t.rest);
        used = omega arith;
        runs = λ r.
            here_iff (Tok (Sign 0) ∷ marks.expr i (Tok (Sign 1) ∷ r)) s (omega arith)
            (token_iff (Sign 0) (marks.expr i (Tok (Sign 1) ∷ r)) s (tail s.rest) k
            (iff_then (h.runs (Tok (Sign 1) ∷ r)) (token_iff (Sign 1) r t (tail t.rest) j iff_same)));
      }

  pub size_yields : (own : Bool) (s : State) → Takes s.rest (Sign 0) (tail s.rest) → Yields (size R (here s) (beyond s)) (IsSuffixAt own s)
  unfolding size
  size_yields own s k =
      let E = e.piece 2 (omega arith) (omega arith) in
      if_yields (answer (IsSign 1) (beyond s)) _ _ (IsSuffixAt own s)
      (λ a. no_size own s k (sign_taken 1 (tail s.rest) a))
      (λ a. bind_yields (R.piece 2 (beyond s)) _ (IsPiece marks.expr (FitsAt 2) (goes_on 2) height R.limit 1 (beyond s)) (IsSuffixAt own s) (yields (R.piece 2 (beyond s)) _ (E.piece (beyond s))) (λ i t h.
      sign_yields 1 t (λ u. gives (ArraySuffix (here s) (AnExpr i)) u) (IsSuffixAt own s) (λ j. one_size own s i t k h j)))

  -- a suffix whose `)` ends a scope, from a state before its `(`
  abbrev IsClosedAt : Bool → State → SuffixTree → State → Type 0
  IsClosedAt own s x u = IsSuffixAt own s x (close_state own u)

  closed_used : (own : Bool) (u : State) (n : ℕ) → length u.rest ≤ n → length (close_state own u).rest ≤ n
  closed_used own u n h = subst (λ ts. length ts ≤ n) (sym (close_rest own u)) h

  no_parameters : (own : Bool) (s : State) → Takes s.rest (Sign 2) (tail s.rest) → Takes (tail s.rest) (Sign 3) (tail (tail s.rest)) → IsClosedAt own s (NoParameters (here s)) (beyond (open_state (beyond s)))
  no_parameters own s k j =
      let u = taken_used s.rest (tail s.rest) (Sign 2) k in
      let v = taken_used (tail s.rest) (tail (tail s.rest)) (Sign 3) j in
      let t : State = beyond (open_state (beyond s)) in
      let c = closed_used own t (length (tail (tail s.rest))) (omega arith) in record {
        fits = tt;
        low = omega arith;
        ends = nothing_ends (NoParameters (here s)) (close_state own t).rest;
        used = omega arith;
        runs = λ r.
            here_iff (Tok (Sign 2) ∷ Open ∷ Tok (Sign 3) ∷ marks.closed_then own r) s (omega arith)
            (token_iff (Sign 2) (Open ∷ Tok (Sign 3) ∷ marks.closed_then own r) s (tail s.rest) k
            (token_iff (Sign 3) (marks.closed_then own r) (open_state (beyond s)) (tail (tail s.rest)) j (close_iff own r t)));
      }

  some_names : (own : Bool) (s : State) (ns : List (List ℕ)) (t : State) → Takes s.rest (Sign 2) (tail s.rest) → IsNames (open_state (beyond s)) ns t → IsClosedAt own s (NameList (here s) ns) t
  some_names own s ns t k h =
      let u = taken_used s.rest (tail s.rest) (Sign 2) k in
      let w = h.used in
      let c = closed_used own t (length t.rest) (omega arith) in record {
        fits = h.fits;
        low = omega arith;
        ends = nothing_ends (NameList (here s) ns) (close_state own t).rest;
        used = omega arith;
        runs = λ r.
            here_iff (Tok (Sign 2) ∷ Open ∷ marks.names_then ns (marks.closed_then own r)) s (omega arith)
            (token_iff (Sign 2) (Open ∷ marks.names_then ns (marks.closed_then own r)) s (tail s.rest) k
            (iff_then (h.runs (marks.closed_then own r)) (close_iff own r t)));
      }

  some_parameters : (own : Bool) (s : State) (ps : ParameterTrees × Bool) (t : State) → Takes s.rest (Sign 2) (tail s.rest) → IsParameters R p (open_state (beyond s)) ps t → IsClosedAt own s (Prototype (here s) ps.0 ps.1) t
  some_parameters own s ps t k h =
      let u = taken_used s.rest (tail s.rest) (Sign 2) k in
      let w = h.used in
      let c = closed_used own t (length t.rest) (omega arith) in record {
        fits = h.fits;
        low = h.low;
        ends = nothing_ends (Prototype (here s) ps.0 ps.1) (close_state own t).rest;
        used = omega arith;
        runs = λ r.
            here_iff (Tok (Sign 2) ∷ Open ∷ marks.parameters ps.0 ps.1 (marks.closed_then own r)) s (omega arith)
            (token_iff (Sign 2) (Open ∷ marks.parameters ps.0 ps.1 (marks.closed_then own r)) s (tail s.rest) k
            (iff_then (h.runs (marks.closed_then own r)) (close_iff own r t)));
      }

  list_yields : (own : Bool) (s : State) → Takes s.rest (Sign 2) (tail s.rest) → Yields (parameter_list R (here s) (open_state (beyond s))) (IsClosedAt own s)
  unfolding parameter_list
  list_yields own s k =
      let v : State = open_state (beyond s) in
      if_yields (answer (IsSign 3) v) _ _ (IsClosedAt own s)
      (λ a. no_parameters own s k (sign_taken 3 (tail s.rest) a))
      (λ b. if_yields (first_is (is_plain v.names) (lexemes v.rest)) _ _ (IsClosedAt own s)
      (λ a. bind_yields (name_list v) _ (IsNames v) (IsClosedAt own s) (names_yields v a) (λ ns t h. some_names own s ns t k h))
      (λ a. bind_yields (parameters R v) _ (IsParameters R p v) (IsClosedAt own s) (yields (parameters R v) _ ((parameters_exact R p).piece v)) (λ ps t h. some_parameters own s ps t k h)))

  suffix_yields : (own : Bool) (s : State) → Yields (suffix R own s) (IsSuffixAt own s)
  unfolding suffix
  suffix_yields own s =
      if_yields (answer (IsSign 0) s) _ _ (IsSuffixAt own s)
      (λ a. size_yields own s (sign_taken 0 s.rest a))
      (λ b. sign_yields 2 s (λ t. bind (parameter_list R (here s) (open_state t)) (λ x u. gives x (close_state own u))) (IsSuffixAt own s) (λ k.
      bind_yields (parameter_list R (here s) (open_state (beyond s))) _ (IsClosedAt own s) (IsSuffixAt own s) (list_yields own s k) (λ x u h. h)))

  -- ---- each suffix that stands there is read

  size_found : (l : ℕ) (x : MaybeExpr) (r : List Mark) (s : State) → FitsMaybe x 2 → maybe_height x ≤ R.limit → RunsOn (marks.maybe_expr x (Tok (Sign 1) ∷ r)) s → Finds (size R l s) (ArraySuffix l x) r
  unfolding size
  size_found l NoExpr r s f w h = asked_yes (IsSign 1) s _ _ (ArraySuffix l NoExpr) r (sign_next 1 r s h) (refl, beyond_runs (Sign 1) r s h)
  size_found l (AnExpr i) r s f w h =
      asked_no (IsSign 1) s _ _ (ArraySuffix l (AnExpr i)) r (no_sign 1 i (Tok (Sign 1) ∷ r) s refl f.1 h)
      (bind_finds (R.piece 2 s) i (Tok (Sign 1) ∷ r) r _ (ArraySuffix l (AnExpr i)) ((e.piece 2 (omega arith) (omega arith)).found s i (Tok (Sign 1) ∷ r) f w (stops_at i 2 (Sign 1) r refl) h) (λ t g.
      sign_finds 1 r r t (λ u. gives (ArraySuffix l (AnExpr i)) u) (ArraySuffix l (AnExpr i)) g (λ j. (refl, j))))

  no_parameters_found : (l : ℕ) (r : List Mark) (s : State) → RunsOn (Tok (Sign 3) ∷ r) s → Finds (parameter_list R l s) (NoParameters l) r
  unfolding parameter_list
  no_parameters_found l r s h = asked_yes (IsSign 3) s _ _ (NoParameters l) r (sign_next 3 r s h) (refl, beyond_runs (Sign 3) r s h)

  some_names_found : (l : ℕ) (ns : List (List ℕ)) (r : List Mark) (s : State) → IsSome ns → RunsOn (marks.names_then ns r) s → Finds (parameter_list R l s) (NameList l ns) r
  unfolding parameter_list
  some_names_found l [] r s f h = absurd f
  some_names_found l (n ∷ ns) r s f h =
      let m : List Mark = Put n false ∷ marks.more_names_then ns r in
      asked_no (IsSign 3) s _ _ (NameList l (n ∷ ns)) r (first_is_plain (is_sign 3) n m s h)
      (if_finds_yes (first_is (is_plain s.names) (lexemes s.rest)) _ _ (NameList l (n ∷ ns)) r (first_is_plain (is_plain s.names) n m s h ∙ ap not h.0)
      (bind_finds (name_list s) (n ∷ ns) r r _ (NameList l (n ∷ ns)) (names_found s n ns r h) (λ t g. (refl, g))))

  some_parameters_found : (l : ℕ) (ps : ParameterTrees) (more : Bool) (r : List Mark) (s : State) → FitsSuffix (Prototype l ps more) → parameters_height ps ≤ R.limit → RunsOn (marks.parameters ps more r) s → Finds (parameter_list R l s) (Prototype l ps more) r
  unfolding parameter_list
  some_parameters_found l NoParameter more r s f w h = absurd f.0
  some_parameters_found l (Parameters q qs) more r s f w h =
      let m = marks.more_parameters qs more r in
      let z : ParameterTrees × Bool = (Parameters q qs, more) in
      asked_no (IsSign 3) s _ _ (Prototype l (Parameters q qs) more) r (parameter_no_sign 3 q m s h)
      (if_finds_no (first_is (is_plain s.names) (lexemes s.rest)) _ _ (Prototype l (Parameters q qs) more) r (parameter_not_plain q m s h)
      (bind_finds (parameters R s) z r r _ (Prototype l (Parameters q qs) more) ((parameters_exact R p).found s z r f w (nothing_stops z r) h) (λ t g. (refl, g))))

  -- the reader of a suffix on this line
  abbrev suffix_on : ℕ → Bool → State → Read SuffixTree
  suffix_on line own s = ask (IsSign 0) s (size R line (beyond s)) (one_sign 2 s (λ t. bind (parameter_list R line (open_state t)) (λ x u. gives x (close_state own u))))

  list_found : (own : Bool) (l : ℕ) (x : SuffixTree) (m r : List Mark) (s : State) → RunsOn (Tok (Sign 2) ∷ Open ∷ m) s → (RunsOn m (open_state (beyond s)) → Finds (parameter_list R l (open_state (beyond s))) x (marks.closed_then own r)) → Finds (suffix_on l own s) x r
  list_found own l x m r s h f =
      asked_no (IsSign 0) s _ _ x r (first_is_at (is_sign 0) (Sign 2) (Open ∷ m) s h)
      (sign_finds 2 (Open ∷ m) r s (λ t. bind (parameter_list R l (open_state t)) (λ x u. gives x (close_state own u))) x h (λ g.
      bind_finds (parameter_list R l (open_state (beyond s))) x (marks.closed_then own r) r _ x (f g) (λ u j. (refl, (close_iff own r u).0 j))))

  suffix_found : (own : Bool) (x : SuffixTree) (r : List Mark) (s : State) → FitsSuffix x → suffix_height x ≤ R.limit → RunsOn (marks.suffix own x r) s → Finds (suffix R own s) x r
  unfolding suffix
  suffix_found own (ArraySuffix l i) r s f w h =
      let m = marks.maybe_expr i (Tok (Sign 1) ∷ r) in
      here_finds l (Tok (Sign 0) ∷ m) r s (λ line. suffix_on line own s) (ArraySuffix l i) h (λ k.
      asked_yes (IsSign 0) s _ _ (ArraySuffix l i) r (sign_next 0 m s k) (size_found l i r (beyond s) f w (beyond_runs (Sign 0) m s k)))
  suffix_found own (Prototype l ps more) r s f w h =
      let m = marks.parameters ps more (marks.closed_then own r) in
      here_finds l (Tok (Sign 2) ∷ Open ∷ m) r s (λ line. suffix_on line own s) (Prototype l ps more) h (λ k.
      list_found own l (Prototype l ps more) m r s k (λ g. some_parameters_found l ps more (marks.closed_then own r) (open_state (beyond s)) f w g))
  suffix_found own (NameList l ns) r s f w h =
      let m = marks.names_then ns (marks.closed_then own r) in
      here_finds l (Tok (Sign 2) ∷ Open ∷ m) r s (λ line. suffix_on line own s) (NameList l ns) h (λ k.
      list_found own l (NameList l ns) m r s k (λ g. some_names_found l ns (marks.closed_then own r) (open_state (beyond s)) f g))
  suffix_found own (NoParameters l) r s f w h =
      let m : List Mark = Tok (Sign 3) ∷ marks.closed_then own r in
      here_finds l (Tok (Sign 2) ∷ Open ∷ m) r s (λ line. suffix_on line own s) (NoParameters l) h (λ k.
      list_found own l (NoParameters l) m r s k (λ g. no_parameters_found l (marks.closed_then own r) (open_state (beyond s)) g))

  suffix_exact : (own : Bool) → Exact (marks.suffix own) FitsSuffix nothing_more suffix_height R.limit 1 (suffix R own)
  suffix_exact own = exact_by (marks.suffix own) FitsSuffix nothing_more suffix_height R.limit 1 (suffix R own) (suffix_yields own) (λ s x r f w c h. suffix_found own x r s f w h)

  -- ---- lists of suffixes, of which the first alone may be the declared name's own

  abbrev suffixes_then : Bool → List SuffixTree → List Mark → List Mark
  suffixes_then own xs r = marks.suffixes own (suffixes_of xs) r

  abbrev AnyState : SuffixTree → State → Type 0
  AnyState x t = Unit {0}

  abbrev Others : Bool → State → List SuffixTree → State → Type 0
  Others own s xs t = IsList suffixes_then (Fit FitsSuffix suffix_height R.limit) AnyState (λ own t. answer IsSuffix t) own s xs t

  abbrev IsSuffixes : Bool → State → SuffixTrees → State → Type 0
  IsSuffixes own s x t = IsPiece (marks.suffixes own) FitsSuffixes nothing_more suffixes_height R.limit 0 s x t

  trees_fit : (xs : List SuffixTree) → Every (Fit FitsSuffix suffix_height R.limit) xs → FitsSuffixes (suffixes_of xs) × (suffixes_height (suffixes_of xs) ≤ R.limit)
  trees_fit [] h = (tt, omega arith)
  trees_fit (x ∷ xs) h = let k = trees_fit xs h.1 in ((h.0.0, k.0), omega arith)

  each_fits : (xs : List SuffixTree) → FitsSuffixes (suffixes_of xs) → suffixes_height (suffixes_of xs) ≤ R.limit → Every (Fit FitsSuffix suffix_height R.limit) xs
  each_fits [] f l = tt
  each_fits (x ∷ xs) f l = ((f.0, omega arith), each_fits xs f.1 (omega arith))

  suffix_list_of : (x : SuffixTrees) → (xs : List SuffixTree) × (suffixes_of xs ≡ x)
  suffix_list_of NoSuffixes = ([], refl)
  suffix_list_of (Suffixes x xs) = let k = suffix_list_of xs in (x ∷ k.0, ap (λ ys. Suffixes x ys) k.1)

  suffixes_yields : (own : Bool) (s : State) → Yields (suffixes R own s) (IsSuffixes own s)
  unfolding suffixes
  suffixes_yields own s =
      bind_yields (all_of (λ own t. answer IsSuffix t) (λ own t. suffix R own t) (λ own x. false) own s) _ (Others own s) (IsSuffixes own s)
      (many_yields suffixes_then (Fit FitsSuffix suffix_height R.limit) AnyState (λ own t. answer IsSuffix t) (λ own t. suffix R own t) (λ own x. false)
      (λ own t r a. asked_iff IsSuffix false r t a iff_same)
      (λ own t a. yields (suffix R own t) _ (λ x u k. let h = (suffix_exact own).piece t x u k in record {
        kept = (h.fits, h.low);
        ends = tt;
        used = h.used;
        runs = λ xs r. h.runs (suffixes_then false xs r);
      }))
      (length s.rest + 1) own s)
      (λ xs t h. let f = trees_fit xs h.kept in let w = h.used in record {
        fits = f.0;
        low = f.1;
        ends = nothing_ends (suffixes_of xs) t.rest;
        used = omega arith;
        runs = h.runs;
      })

  suffix_first : (own : Bool) (x : SuffixTree) (r : List Mark) (s : State) → RunsOn (marks.suffix own x r) s → answer IsSuffix s ≡ true
  suffix_first own (ArraySuffix l i) r s h = first_is_at (λ t. is_sign 0 t || is_sign 2 t) (Sign 0) (marks.maybe_expr i (Tok (Sign 1) ∷ r)) s h.1
  suffix_first own (Prototype l ps more) r s h = first_is_at (λ t. is_sign 0 t || is_sign 2 t) (Sign 2) (Open ∷ marks.parameters ps more (marks.closed_then own r)) s h.1
  suffix_first own (NameList l ns) r s h = first_is_at (λ t. is_sign 0 t || is_sign 2 t) (Sign 2) (Open ∷ marks.names_then ns (marks.closed_then own r)) s h.1
  suffix_first own (NoParameters l) r s h = first_is_at (λ t. is_sign 0 t || is_sign 2 t) (Sign 2) (Open ∷ Tok (Sign 3) ∷ marks.closed_then own r) s h.1

  listed_found : (own : Bool) (xs : List SuffixTree) (r : List Mark) (s : State) → FitsSuffixes (suffixes_of xs) → suffixes_height (suffixes_of xs) ≤ R.limit → RunsOn (suffixes_then own xs r) s → Finds (suffixes R own s) (suffixes_of xs) r
  unfolding suffixes
  listed_found own xs r s f w h =
      bind_finds (all_of (λ own t. answer IsSuffix t) (λ own t. suffix R own t) (λ own x. false) own s) xs r r _ (suffixes_of xs)
      (many_finds (λ own ys. suffixes_then own ys r) (Every (Fit FitsSuffix suffix_height R.limit)) r (λ own t. answer IsSuffix t) (λ own t. suffix R own t) (λ own x. false)
      (λ own t k. (k.0, k.1))
      (λ own t x ys q k. (suffix_first own x (suffixes_then false ys r) t k, q.1, suffix_found own x (suffixes_then false ys r) t q.0.0 q.0.1 k))
      (λ own t x u a k. ((suffix_exact own).piece t x u k).used)
      (length s.rest + 1) own s xs (omega arith) (each_fits xs f w) h)
      (λ t g. (refl, g))

  suffixes_found : (own : Bool) (x : SuffixTrees) (r : List Mark) (s : State) → FitsSuffixes x → suffixes_height x ≤ R.limit → RunsOn (marks.suffixes own x r) s → Finds (suffixes R own s) x r
  suffixes_found own x r s f w h =
      let k = suffix_list_of x in
      let P : SuffixTrees → Type 0 = λ y. FitsSuffixes y → suffixes_height y ≤ R.limit → RunsOn (marks.suffixes own y r) s → Finds (suffixes R own s) y r in
      subst P k.1 (listed_found own k.0 r s) f w h

  pub suffixes_exact : (own : Bool) → Exact (marks.suffixes own) FitsSuffixes nothing_more suffixes_height R.limit 0 (suffixes R own)
  suffixes_exact own = exact_by (marks.suffixes own) FitsSuffixes nothing_more suffixes_height R.limit 0 (suffixes R own) (suffixes_yields own) (λ s x r f w c h. suffixes_found own x r s f w h)
