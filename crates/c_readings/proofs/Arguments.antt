-- Readers of expressions between commas are exact.
use Rattle.std.proofs.Common.{◌≡◌, ◌≤◌, ◌+◌, ◌↔◌, ℕ, false, List, [], ◌∷◌, length, refl, sym, ap, ◌∙◌, subst, arith}
use Rattle.c_ast.specs.Lexemes.{Sign}
use Rattle.c_ast.specs.Marks.{Mark, Tok, IsSign, is_sign}
use Rattle.c_ast.specs.ExprMarks as marks
use Rattle.c_ast.specs.Levels.{AllAssign}
use Rattle.c_ast.specs.Heights.{height, tallest}
use Rattle.c_ast.specs.Reach.{goes_on}
use Rattle.c_ast.specs.Trees.{ExprTree, ExprTrees, NoExprs, Exprs}
use Rattle.c_ast.specs.Views.{exprs_of}
use Rattle.c_readings.specs.Reading.{State, gives, bind, answer, tail, beyond, one_sign, commas}
use Rattle.c_readings.specs.Readers.{Readers, some_commas, arguments}
use Rattle.c_readings.specs.Exact.{RunsOn, Finds, Stops, IsPiece, Exact, AreExact, FitsAt, nothing_more}
use Rattle.c_readings.proofs.Steps.{Yields, yields, read_so, bind_yields, if_yields, sign_yields, sign_taken, taken_used, iff_same, iff_then, iff_path, token_iff, bind_finds, sign_finds, asked_yes, asked_no, sign_next, first_is_at, beyond_runs}
use Rattle.c_readings.proofs.Lists.{Every, Last, Fit, listed, IsListed, commas_yields, commas_finds, stops_in_list, last_of_more}
use Rattle.c_readings.proofs.Operators.{stops_at, goes_none}
use Rattle.c_readings.proofs.Firsts.{no_sign}
use Rattle.c_readings.proofs.Links.{ends_never}

-- ---- lists of expressions

abbrev pub list_of : ExprTrees → List ExprTree
list_of NoExprs = []
list_of (Exprs e es) = e ∷ list_of es

pub list_is : (es : ExprTrees) → exprs_of (list_of es) ≡ es
list_is NoExprs = refl
list_is (Exprs e es) = ap (Exprs e) (list_is es)

-- each is of level 1, and low enough
abbrev pub FitsList : ℕ → List ExprTree → Type 0
FitsList limit xs = Every (Fit (FitsAt 1) height limit) xs

pub all_assign : (limit : ℕ) (xs : List ExprTree) → FitsList limit xs → AllAssign (exprs_of xs)
all_assign limit [] f = tt
all_assign limit (x ∷ xs) f = (f.0.0.0, f.0.0.1, all_assign limit xs f.1)

pub tallest_low : (limit : ℕ) (xs : List ExprTree) → FitsList limit xs → tallest (exprs_of xs) ≤ limit
tallest_low limit [] f = omega arith
tallest_low limit (x ∷ xs) f = let h = f.0.1 in omega (arith, h, tallest_low limit xs f.1)

pub fits_list : (limit : ℕ) (es : ExprTrees) → AllAssign es → tallest es ≤ limit → FitsList limit (list_of es)
fits_list limit NoExprs f h = tt
fits_list limit (Exprs e es) f h = (((f.0, f.1), omega arith), fits_list limit es f.2 (omega arith))

-- expressions with commas between
abbrev pub separated : List ExprTree → List Mark → List Mark
separated [] r = r
separated (x ∷ xs) r = marks.expr x (listed marks.expr xs r)

more_sequence_marks : (xs : List ExprTree) (r : List Mark) → marks.more_sequence (exprs_of xs) r ≡ listed marks.expr xs r
more_sequence_marks [] r = refl
more_sequence_marks (x ∷ xs) r = ap (λ m. Tok (Sign 45) ∷ marks.expr x m) (more_sequence_marks xs r)

pub sequence_marks : (xs : List ExprTree) (r : List Mark) → marks.sequence (exprs_of xs) r ≡ separated xs r
sequence_marks [] r = refl
sequence_marks (x ∷ xs) r = ap (marks.expr x) (more_sequence_marks xs r)

more_argument_marks : (xs : List ExprTree) (r : List Mark) → marks.more_arguments (exprs_of xs) r ≡ listed marks.expr xs (Tok (Sign 3) ∷ r)
more_argument_marks [] r = refl
more_argument_marks (x ∷ xs) r = ap (λ m. Tok (Sign 45) ∷ marks.expr x m) (more_argument_marks xs r)

argument_marks : (xs : List ExprTree) (r : List Mark) → marks.arguments (exprs_of xs) r ≡ separated xs (Tok (Sign 3) ∷ r)
argument_marks [] r = refl
argument_marks (x ∷ xs) r = ap (marks.expr x) (more_argument_marks xs r)

-- ---- readers of them

pub behind_commas_yields : (R : Readers) → AreExact R → (s : State) → Yields (commas (R.piece 1) s) (IsListed marks.expr (FitsAt 1) (goes_on 1) height R.limit (λ b t. answer (IsSign 45) t) s)
behind_commas_yields R e s = commas_yields marks.expr (FitsAt 1) (goes_on 1) height R.limit 1 (R.piece 1) (e.piece 1 (omega arith) (omega arith)) s

pub behind_commas_found : (R : Readers) → AreExact R → (s : State) (xs : List ExprTree) (r : List Mark) → FitsList R.limit xs → Last (λ x. Stops (goes_on 1) x r) xs → ((s : State) → RunsOn r s → answer (IsSign 45) s ≡ false) → RunsOn (listed marks.expr xs r) s → Finds (commas (R.piece 1) s) xs r
behind_commas_found R e s xs r f l n g = commas_finds marks.expr (FitsAt 1) (goes_on 1) height R.limit 1 (R.piece 1) r (e.piece 1 (omega arith) (omega arith)) (λ x. goes_none x 1 (Sign 45) refl) n s xs (f, l) g

abbrev IsSeparated : ℕ → State → List ExprTree → State → Type 0
IsSeparated limit s xs t = FitsList limit xs × (length t.rest + 1 ≤ length s.rest) × ((r : List Mark) → RunsOn (separated xs r) s ↔ RunsOn r t)

some_yields : (R : Readers) → AreExact R → (s : State) → Yields (some_commas (R.piece 1) s) (IsSeparated R.limit s)
some_yields R e s =
    bind_yields (R.piece 1 s) (λ x t. bind (commas (R.piece 1) t) (λ xs u. gives (x ∷ xs) u)) _ (IsSeparated R.limit s) (yields (R.piece 1 s) _ ((e.piece 1 (omega arith) (omega arith)).piece s)) (λ x t p.
    bind_yields (commas (R.piece 1) t) (λ xs u. gives (x ∷ xs) u) _ (IsSeparated R.limit s) (behind_commas_yields R e t) (λ xs u k.
    (((p.fits, p.low), k.kept), omega (arith, p.used, k.used), λ r. iff_then (p.runs (listed marks.expr xs r)) (k.runs r))))

last_all : {A : Type 0} (P : A → Type 0) (xs : List A) → ((x : A) → P x) → Last P xs
last_all P [] h = tt
last_all P (x ∷ []) h = h x
last_all P (x ∷ y ∷ ys) h = last_all P (y ∷ ys) h

abbrev Args : Readers → State → ExprTrees → State → Type 0
Args R s es t = IsPiece marks.arguments AllAssign nothing_more tallest R.limit 1 s es t

arguments_yields : (R : Readers) → AreExact R → (s : State) → Yields (arguments R s) (Args R s)
unfolding arguments
arguments_yields R e s =
    if_yields (answer (IsSign 3) s) (gives NoExprs (beyond s)) (bind (some_commas (R.piece 1) s) (λ es t. one_sign 3 t (λ u. gives (exprs_of es) u))) (Args R s)
    (λ a. let n = sign_taken 3 s.rest a in record {
      fits = tt;
      low = omega arith;
      ends = ends_never nothing_more NoExprs (tail s.rest) (λ l. refl);
      used = omega (arith, taken_used s.rest (tail s.rest) (Sign 3) n);
      runs = λ r. token_iff (Sign 3) r s (tail s.rest) n iff_same;
    })
    (λ a. bind_yields (some_commas (R.piece 1) s) (λ es t. one_sign 3 t (λ u. gives (exprs_of es) u)) (IsSeparated R.limit s) (Args R s) (some_yields R e s) (λ xs t p.
    sign_yields 3 t (λ u. gives (exprs_of xs) u) (Args R s) (λ n. record {
      fits = all_assign R.limit xs p.0;
      low = tallest_low R.limit xs p.0;
      ends = ends_never nothing_more (exprs_of xs) (tail t.rest) (λ l. refl);
      used = omega (arith, p.1, taken_used t.rest (tail t.rest) (Sign 3) n);
      runs = λ r. iff_then (iff_path _ _ s (argument_marks xs r)) (iff_then (p.2 (Tok (Sign 3) ∷ r)) (token_iff (Sign 3) r t (tail t.rest) n iff_same));
    })))

arguments_found : (R : Readers) → AreExact R → (s : State) (es : ExprTrees) (r : List Mark) → AllAssign es → tallest es ≤ R.limit → RunsOn (marks.arguments es r) s → Finds (arguments R s) es r
unfolding arguments
arguments_found R e s NoExprs r f h g = asked_yes (IsSign 3) s _ _ NoExprs r (sign_next 3 r s g) (refl, beyond_runs (Sign 3) r s g)
arguments_found R e s (Exprs x es) r f h g =
    let w = fits_list R.limit (Exprs x es) f h in
    let l : Last (λ y. Stops (goes_on 1) y (Tok (Sign 3) ∷ r)) (x ∷ list_of es) = last_all _ (x ∷ list_of es) (λ y. stops_at y 1 (Sign 3) r refl) in
    let m : RunsOn (separated (x ∷ list_of es) (Tok (Sign 3) ∷ r)) s = subst (λ y. RunsOn y s) (ap (λ y. marks.arguments y r) (sym (list_is (Exprs x es))) ∙ argument_marks (x ∷ list_of es) r) g in
    asked_no (IsSign 3) s _ _ (Exprs x es) r (no_sign 3 x (marks.more_arguments es r) s refl f.1 g)
    (bind_finds (some_commas (R.piece 1) s) (x ∷ list_of es) (Tok (Sign 3) ∷ r) r (λ ys t. one_sign 3 t (λ u. gives (exprs_of ys) u)) (Exprs x es)
    (bind_finds (R.piece 1 s) x (listed marks.expr (list_of es) (Tok (Sign 3) ∷ r)) (Tok (Sign 3) ∷ r) (λ y t. bind (commas (R.piece 1) t) (λ ys u. gives (y ∷ ys) u)) (x ∷ list_of es) ((e.piece 1 (omega arith) (omega arith)).found s x (listed marks.expr (list_of es) (Tok (Sign 3) ∷ r)) w.0.0 w.0.1 (stops_in_list marks.expr (goes_on 1) (Tok (Sign 3) ∷ r) x (list_of es) (goes_none x 1 (Sign 45) refl) l) m) (λ t u.
    bind_finds (commas (R.piece 1) t) (list_of es) (Tok (Sign 3) ∷ r) (Tok (Sign 3) ∷ r) (λ ys v. gives (x ∷ ys) v) (x ∷ list_of es) (behind_commas_found R e t (list_of es) (Tok (Sign 3) ∷ r) w.1 (last_of_more _ x (list_of es) l) (λ v i. first_is_at (is_sign 45) (Sign 3) r v i) u) (λ v i. (refl, i))))
    (λ t u. sign_finds 3 r r t (λ v. gives (exprs_of (x ∷ list_of es)) v) (Exprs x es) u (λ v. (ap (Exprs x) (list_is es), v))))

pub arguments_exact : (R : Readers) → AreExact R → Exact marks.arguments AllAssign nothing_more tallest R.limit 1 (arguments R)
arguments_exact R e = record {
  piece = λ s x t h. read_so (arguments R s) (Args R s) x t (arguments_yields R e s) h;
  found = λ s x r f h st g. arguments_found R e s x r f h g;
}
