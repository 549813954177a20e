-- Readers of enumerators are exact.
use Rattle.std.proofs.Common.{◌≡◌, ◌≤◌, ℕ, Bool, false, List, [], ◌∷◌, refl, ap, arith}
use Rattle.c_ast.specs.Lexemes.{Lexeme, Name, Sign, Placed}
use Rattle.c_ast.specs.InForce.{put}
use Rattle.c_ast.specs.Marks.{Mark, Tok, Put, IsSign, is_sign}
use Rattle.c_ast.specs.ExprMarks as marks
use Rattle.c_ast.specs.Trees.{MaybeExpr, EnumeratorTree, Enumerator, EnumeratorTrees, NoEnumerators, Enumerators}
use Rattle.c_ast.specs.Views.{enumerators_of}
use Rattle.c_ast.specs.Levels.{FitsEnumerator, FitsEnumerators, OneEnumerator}
use Rattle.c_ast.specs.Heights.{enumerator_height, enumerators_height}
use Rattle.c_readings.specs.Reading.{State, gives, answer, here, bind, name_then}
use Rattle.c_readings.specs.Readers.{Readers, piece_behind, enumerator, enumerators}
use Rattle.c_readings.specs.Exact.{RunsOn, Finds, Stops, IsPiece, Exact, AreExact, nothing_more}
use Rattle.c_readings.proofs.Steps.{Yields, bind_yields, exact_yields, exact_by, Takes, past, name_yields, taken_used, here_iff, token_iff, bind_finds, here_is, first_finds, first_is_at, taken_left}
use Rattle.c_readings.proofs.Lists.{Every, Fit, listed}
use Rattle.c_readings.proofs.Operators.{Closer}
use Rattle.c_readings.proofs.Records.{maybe_goes_on, maybe_stops, IsBehind, piece_behind_exact}
use Rattle.c_readings.proofs.Braces.{in_braces_exact}

-- ---- one enumerator

abbrev pub enumerator_goes_on : EnumeratorTree → Lexeme → Bool
enumerator_goes_on (Enumerator l n v) t = maybe_goes_on v t

abbrev pub IsEnumerator : Readers → State → EnumeratorTree → State → Type 0
IsEnumerator R s x t = IsPiece marks.enumerator FitsEnumerator enumerator_goes_on enumerator_height R.limit 1 s x t

-- its name is in force
abbrev declared : List ℕ → State → State
declared n u = record { names = put u.names n false; rest = u.rest }

enumerator_by : (R : Readers) (s : State) (n : List ℕ) (us : List Placed) (v : MaybeExpr) (u : State) → Takes s.rest (Name n) us → IsBehind R 34 (past s us) v u → IsEnumerator R s (Enumerator (here s) n v) (declared n u)
enumerator_by R s n us v u h k = record {
  fits = k.fits;
  low = k.low;
  ends = k.ends;
  used = let a = taken_used s.rest us (Name n) h in let b = k.used in omega arith;
  runs = λ r. here_iff (Tok (Name n) ∷ marks.expr_behind 34 v (Put n false ∷ r)) s (taken_left s.rest us (Name n) h) (token_iff (Name n) (marks.expr_behind 34 v (Put n false ∷ r)) s us h (k.runs (Put n false ∷ r)));
}

enumerator_yields : (R : Readers) → AreExact R → (s : State) → Yields (enumerator R s) (IsEnumerator R s)
unfolding enumerator
enumerator_yields R e s =
    name_yields s (λ n t. bind (piece_behind R 34 t) (λ v u. gives (Enumerator (here s) n v) (declared n u))) (IsEnumerator R s) (λ n us h.
    bind_yields (piece_behind R 34 (past s us)) _ _ _ ((exact_yields _ _ _ _ _ _ _ (piece_behind_exact R e 34)) (past s us)) (λ v u k. enumerator_by R s n us v u h k))

enumerator_found : (R : Readers) → AreExact R → (s : State) (x : EnumeratorTree) (r : List Mark) → FitsEnumerator x → enumerator_height x ≤ R.limit → Stops enumerator_goes_on x r → RunsOn (marks.enumerator x r) s → Finds (enumerator R s) x r
unfolding enumerator
enumerator_found R e s (Enumerator l n v) r f w c h =
    let line = here_is l (Tok (Name n) ∷ marks.expr_behind 34 v (Put n false ∷ r)) s h in
    first_finds (Name n) (marks.expr_behind 34 v (Put n false ∷ r)) r s (name_then (λ n t. bind (piece_behind R 34 t) (λ v u. gives (Enumerator (here s) n v) (declared n u)))) (Enumerator l n v) h.1 (λ t g.
    bind_finds (piece_behind R 34 t) v (Put n false ∷ r) r _ (Enumerator l n v) ((piece_behind_exact R e 34).found t v (Put n false ∷ r) f w c g) (λ u i.
    (ap (λ k. Enumerator k n v) line, i)))

pub enumerator_exact : (R : Readers) → AreExact R → Exact marks.enumerator FitsEnumerator enumerator_goes_on enumerator_height R.limit 1 (enumerator R)
enumerator_exact R e = exact_by marks.enumerator FitsEnumerator enumerator_goes_on enumerator_height R.limit 1 (enumerator R) (enumerator_yields R e) (enumerator_found R e)

enumerator_stops : (x : EnumeratorTree) (r : List Mark) → Closer r → Stops enumerator_goes_on x r
enumerator_stops (Enumerator l n v) r c = maybe_stops v r c

-- it begins with no sign
enumerator_no_brace : (x : EnumeratorTree) (m : List Mark) (s : State) → RunsOn (marks.enumerator x m) s → answer (IsSign 5) s ≡ false
enumerator_no_brace (Enumerator l n v) m s h = first_is_at (is_sign 5) (Name n) (marks.expr_behind 34 v (Put n false ∷ m)) s h.1

-- ---- enumerators

abbrev pub spelled_with : EnumeratorTrees × Bool → List Mark → List Mark
spelled_with p r = marks.enumerators p.0 p.1 r

abbrev pub FitsSomeEnumerators : EnumeratorTrees × Bool → Type 0
FitsSomeEnumerators p = OneEnumerator p.0 × FitsEnumerators p.0

abbrev pub enumerators_high : EnumeratorTrees × Bool → ℕ
enumerators_high p = enumerators_height p.0

more_enumerators_listed : (es : List EnumeratorTree) (comma : Bool) (r : List Mark) → marks.more_enumerators (enumerators_of es) comma r ≡ listed marks.enumerator es (marks.end_then comma r)
more_enumerators_listed [] comma r = refl
more_enumerators_listed (e ∷ es) comma r = ap (λ m. Tok (Sign 45) ∷ marks.enumerator e m) (more_enumerators_listed es comma r)

enumerators_fit : (n : ℕ) (es : List EnumeratorTree) → Every (Fit FitsEnumerator enumerator_height n) es → FitsEnumerators (enumerators_of es) × (enumerators_height (enumerators_of es) ≤ n)
enumerators_fit n [] h = (tt, omega arith)
enumerators_fit n (e ∷ es) h = let k = enumerators_fit n es h.1 in let l = h.0.1 in let m = k.1 in ((h.0.0, k.0), omega arith)

abbrev enumerator_list : EnumeratorTrees → List EnumeratorTree
enumerator_list NoEnumerators = []
enumerator_list (Enumerators e es) = e ∷ enumerator_list es

enumerator_list_of : (es : EnumeratorTrees) → enumerators_of (enumerator_list es) ≡ es
enumerator_list_of NoEnumerators = refl
enumerator_list_of (Enumerators e es) = ap (Enumerators e) (enumerator_list_of es)

enumerators_are_fit : (n : ℕ) (es : EnumeratorTrees) → FitsEnumerators es → enumerators_height es ≤ n → Every (Fit FitsEnumerator enumerator_height n) (enumerator_list es)
enumerators_are_fit n NoEnumerators f l = tt
enumerators_are_fit n (Enumerators x xs) f l = ((f.0, omega arith), enumerators_are_fit n xs f.1 (omega arith))

enumerators_listed : (n : ℕ) (es : EnumeratorTrees) → OneEnumerator es × FitsEnumerators es → enumerators_height es ≤ n → (x : EnumeratorTree) × (xs : List EnumeratorTree) × (enumerators_of (x ∷ xs) ≡ es) × Every (Fit FitsEnumerator enumerator_height n) (x ∷ xs)
enumerators_listed n NoEnumerators f l = absurd f.0
enumerators_listed n (Enumerators x xs) f l = (x, enumerator_list xs, enumerator_list_of (Enumerators x xs), enumerators_are_fit n (Enumerators x xs) f.1 l)

pub enumerators_exact : (R : Readers) → AreExact R → Exact spelled_with FitsSomeEnumerators nothing_more enumerators_high R.limit 1 (enumerators R)
unfolding enumerators
enumerators_exact R e =
    in_braces_exact marks.enumerator marks.enumerator FitsEnumerator enumerator_goes_on enumerator_height R.limit (enumerator R) (enumerator_exact R e) (enumerator_exact R e) enumerator_stops (λ x m s f h. enumerator_no_brace x m s h)
    enumerators_of marks.enumerators (λ es. OneEnumerator es × FitsEnumerators es) enumerators_height
    (λ x xs comma r. ap (marks.enumerator x) (more_enumerators_listed xs comma r))
    (λ x xs h. let k = enumerators_fit R.limit (x ∷ xs) h in ((tt, k.0), k.1))
    (enumerators_listed R.limit)
