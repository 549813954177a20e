-- Readers of initialisers are exact.
use Rattle.std.proofs.Common.{◌≡◌, ◌≤◌, ℕ, zero, suc, Bool, true, false, Option, Some, None, List, [], ◌∷◌, refl, ap, arith}
use Rattle.c_ast.specs.Lexemes.{Lexeme, Sign, Placed}
use Rattle.c_ast.specs.Marks.{Mark, Tok, Ask, IsSign, is_sign}
use Rattle.c_ast.specs.ExprMarks.{expr, end_then}
use Rattle.c_ast.specs.UnitMarks as marks
use Rattle.c_ast.specs.Trees.{ExprTree, InitialiserTree, ByExpr, Braced, InitialiserTrees, NoInitialisers, Initialisers}
use Rattle.c_ast.specs.UnitViews.{initialisers_of}
use Rattle.c_ast.specs.Levels.{OneInitialiser, FitsInitialiser, FitsInitialisers, FitsOption}
use Rattle.c_ast.specs.Heights.{height, initialiser_height, initialisers_height, option_height}
use Rattle.c_ast.specs.Reach.{goes_on}
use Rattle.c_readings.specs.Reading.{State, Read, answer, here, beyond, tail}
use Rattle.c_readings.specs.Readers.{Readers}
use Rattle.c_readings.specs.Exact.{RunsOn, Finds, Ends, Stops, IsPiece, Exact, FitsAt, nothing_more}
use Rattle.c_readings.specs.DeclarationReaders.{initialisers, initialiser_above, initialiser, maybe_initialiser}
use Rattle.c_readings.specs.UnitExact.{goes_on_initialiser}
use Rattle.c_readings.proofs.Steps.{Yields, bind_yields, if_yields, exact_yields, exact_by, sign_taken, taken_used, here_iff, token_iff, asked_iff, iff_same, bind_finds, asked_yes, asked_no, here_is, sign_next, beyond_runs, first_is_at, asked_exact, nothing_stops}
use Rattle.c_readings.proofs.Lists.{Every, Fit, listed}
use Rattle.c_readings.proofs.Operators.{Closer, stops}
use Rattle.c_readings.proofs.Firsts.{no_sign}
use Rattle.c_readings.proofs.Braces.{in_braces_exact}
use Rattle.c_readings.proofs.Lows.{EachExact, low_exact}
use Rattle.c_readings.proofs.Rounds.{nothing_exact}

-- an operator is not next
pub initialiser_stops : (x : InitialiserTree) (r : List Mark) → Closer r → Stops goes_on_initialiser x r
initialiser_stops (ByExpr l e) r c = stops e 1 r c
initialiser_stops (Braced l is comma) r c = λ t h. refl

-- it begins with no `}`
initialiser_no_brace : (x : InitialiserTree) (m : List Mark) (s : State) → FitsInitialiser x → RunsOn (marks.initialiser x m) s → answer (IsSign 5) s ≡ false
initialiser_no_brace (ByExpr l e) m s f h = no_sign 5 e m s refl f.1 h.1.1
initialiser_no_brace (Braced l is comma) m s f h = first_is_at (is_sign 5) (Sign 4) (marks.initialisers is comma m) s h.1

initialiser_height_some : (x : InitialiserTree) → 1 ≤ initialiser_height x
initialiser_height_some (ByExpr l e) = omega arith
initialiser_height_some (Braced l is comma) = omega arith

-- ---- lists in braces

-- behind a comma it is asked whether the list ends
abbrev another : InitialiserTree → List Mark → List Mark
another i r = Ask (IsSign 5) false ∷ marks.initialiser i r

abbrev FitsSome : InitialiserTrees → Type 0
FitsSome is = OneInitialiser is × FitsInitialisers is

more_listed : (is : List InitialiserTree) (comma : Bool) (r : List Mark) → marks.more_initialisers (initialisers_of is) comma r ≡ listed another is (end_then comma r)
more_listed [] comma r = refl
more_listed (i ∷ is) comma r = ap (λ m. Tok (Sign 45) ∷ another i m) (more_listed is comma r)

initialisers_fit : (n : ℕ) (is : List InitialiserTree) → Every (Fit FitsInitialiser initialiser_height n) is → FitsInitialisers (initialisers_of is) × (initialisers_height (initialisers_of is) ≤ n)
initialisers_fit n [] h = (tt, omega arith)
initialisers_fit n (i ∷ is) h = let k = initialisers_fit n is h.1 in let l = h.0.1 in let m = k.1 in ((h.0.0, k.0), omega arith)

abbrev initialiser_list : InitialiserTrees → List InitialiserTree
initialiser_list NoInitialisers = []
initialiser_list (Initialisers i is) = i ∷ initialiser_list is

initialiser_list_of : (is : InitialiserTrees) → initialisers_of (initialiser_list is) ≡ is
initialiser_list_of NoInitialisers = refl
initialiser_list_of (Initialisers i is) = ap (Initialisers i) (initialiser_list_of is)

initialisers_are_fit : (n : ℕ) (is : InitialiserTrees) → FitsInitialisers is → initialisers_height is ≤ n → Every (Fit FitsInitialiser initialiser_height n) (initialiser_list is)
initialisers_are_fit n NoInitialisers f l = tt
initialisers_are_fit n (Initialisers x xs) f l = ((f.0, omega arith), initialisers_are_fit n xs f.1 (omega arith))

initialisers_listed : (n : ℕ) (is : InitialiserTrees) → FitsSome is → initialisers_height is ≤ n → (x : InitialiserTree) × (xs : List InitialiserTree) × (initialisers_of (x ∷ xs) ≡ is) × Every (Fit FitsInitialiser initialiser_height n) (x ∷ xs)
initialisers_listed n NoInitialisers f l = absurd f.0
initialisers_listed n (Initialisers x xs) f l = (x, initialiser_list xs, initialiser_list_of (Initialisers x xs), initialisers_are_fit n (Initialisers x xs) f.1 l)

abbrev AreInitialisers : ℕ → State → InitialiserTrees × Bool → State → Type 0
AreInitialisers n s p t = IsPiece (λ p r. marks.initialisers p.0 p.1 r) (λ p. FitsSome p.0) nothing_more (λ p. initialisers_height p.0) n 1 s p t

initialisers_exact : (n : ℕ) (item : State → Read InitialiserTree) → Exact marks.initialiser FitsInitialiser goes_on_initialiser initialiser_height n 1 item → Exact (λ p r. marks.initialisers p.0 p.1 r) (λ p. FitsSome p.0) nothing_more (λ p. initialisers_height p.0) n 1 (initialisers item)
unfolding initialisers
initialisers_exact n item e =
    in_braces_exact marks.initialiser another FitsInitialiser goes_on_initialiser initialiser_height n item e
    (asked_exact (IsSign 5) false marks.initialiser FitsInitialiser goes_on_initialiser initialiser_height n 1 item e initialiser_no_brace)
    initialiser_stops (λ x m s f h. h.0)
    initialisers_of marks.initialisers FitsSome initialisers_height
    (λ x xs comma r. ap (marks.initialiser x) (more_listed xs comma r))
    (λ x xs h. let k = initialisers_fit n (x ∷ xs) h in ((tt, k.0), k.1))
    (initialisers_listed n)

-- ---- initialisers

-- nothing goes on from a list in braces
braced_ends : (l : ℕ) (is : InitialiserTrees) (comma : Bool) (ts : List Placed) → Ends goes_on_initialiser (Braced l is comma) ts
braced_ends l is comma [] = tt
braced_ends l is comma (t ∷ ts) = refl

module _ (R : ℕ → Readers) (e : EachExact R) (n : ℕ) where
  value_exact : Exact expr (FitsAt 1) (goes_on 1) height n 1 ((R n).piece 1)
  value_exact = low_exact expr (FitsAt 1) (goes_on 1) height (R n).limit 1 ((R n).piece 1) ((e n).0.piece 1 (omega arith) (omega arith)) n (e n).1

  -- one level above the items
  module _ (item : State → Read InitialiserTree) (i : Exact marks.initialiser FitsInitialiser goes_on_initialiser initialiser_height n 1 item) where
    abbrev IsInitialiser : State → InitialiserTree → State → Type 0
    IsInitialiser s x t = IsPiece marks.initialiser FitsInitialiser goes_on_initialiser initialiser_height (suc n) 1 s x t

    by_expr : (s : State) (x : ExprTree) (t : State) → answer (IsSign 4) s ≡ false → IsPiece expr (FitsAt 1) (goes_on 1) height n 1 s x t → IsInitialiser s (ByExpr (here s) x) t
    by_expr s x t a h =
        let u = h.used in
        let l = h.low in
        record {
          fits = h.fits;
          low = omega arith;
          ends = h.ends;
          used = u;
          runs = λ r. here_iff (Ask (IsSign 4) false ∷ expr x r) s (omega arith) (asked_iff (IsSign 4) false (expr x r) s a (h.runs r));
        }

    in_braces : (s : State) (p : InitialiserTrees × Bool) (t : State) → answer (IsSign 4) s ≡ true → AreInitialisers n (beyond s) p t → IsInitialiser s (Braced (here s) p.0 p.1) t
    in_braces s p t a h =
        let k = sign_taken 4 s.rest a in
        let u = taken_used s.rest (tail s.rest) (Sign 4) k in
        let v = h.used in
        let l = h.low in
        record {
          fits = h.fits;
          low = omega arith;
          ends = braced_ends (here s) p.0 p.1 t.rest;
          used = omega arith;
          runs = λ r. here_iff (Tok (Sign 4) ∷ marks.initialisers p.0 p.1 r) s (omega arith) (token_iff (Sign 4) (marks.initialisers p.0 p.1 r) s (tail s.rest) k (h.runs r));
        }

    above_yields : (s : State) → Yields (initialiser_above R n item s) (IsInitialiser s)
    above_yields s =
        if_yields (answer (IsSign 4) s) _ _ (IsInitialiser s)
        (λ a. bind_yields (initialisers item (beyond s)) _ (AreInitialisers n (beyond s)) _ (exact_yields _ _ _ _ n 1 (initialisers item) (initialisers_exact n item i) (beyond s)) (λ p t h. in_braces s p t a h))
        (λ a. bind_yields ((R n).piece 1 s) _ _ _ (exact_yields _ _ _ _ _ _ _ value_exact s) (λ x t h. by_expr s x t a h))

    above_found : (s : State) (x : InitialiserTree) (r : List Mark) → FitsInitialiser x → initialiser_height x ≤ suc n → Stops goes_on_initialiser x r → RunsOn (marks.initialiser x r) s → Finds (initialiser_above R n item s) x r
    above_found s (ByExpr l x) r f k c h =
        asked_no (IsSign 4) s _ _ (ByExpr l x) r h.1.0
        (bind_finds ((R n).piece 1 s) x r r _ (ByExpr l x) (value_exact.found s x r f (omega arith) c h.1.1) (λ t g.
        (ap (λ j. ByExpr j x) (here_is l (Ask (IsSign 4) false ∷ expr x r) s h), g)))
    above_found s (Braced l is comma) r f k c h =
        asked_yes (IsSign 4) s _ _ (Braced l is comma) r (sign_next 4 (marks.initialisers is comma r) s h.1)
        (bind_finds (initialisers item (beyond s)) (is, comma) r r _ (Braced l is comma) ((initialisers_exact n item i).found (beyond s) (is, comma) r f (omega arith) (nothing_stops {A = InitialiserTrees × Bool} (is, comma) r) (beyond_runs (Sign 4) (marks.initialisers is comma r) s h.1)) (λ t g.
        (ap (λ j. Braced j is comma) (here_is l (Tok (Sign 4) ∷ marks.initialisers is comma r) s h), g)))

    above_exact : Exact marks.initialiser FitsInitialiser goes_on_initialiser initialiser_height (suc n) 1 (initialiser_above R n item)
    above_exact = exact_by marks.initialiser FitsInitialiser goes_on_initialiser initialiser_height (suc n) 1 (initialiser_above R n item) above_yields above_found

pub initialiser_exact : (R : ℕ → Readers) → EachExact R → (n : ℕ) → Exact marks.initialiser FitsInitialiser goes_on_initialiser initialiser_height n 1 (initialiser R n)
unfolding initialiser
initialiser_exact R e zero = nothing_exact marks.initialiser FitsInitialiser goes_on_initialiser initialiser_height 1 (initialiser R zero) initialiser_height_some (λ s. refl)
initialiser_exact R e (suc n) = above_exact R e n (λ t. initialiser R n t) (initialiser_exact R e n)

-- ---- an initialiser that may be left out

-- the next token goes on from the initialiser, if there is one
abbrev pub option_goes_on : Option InitialiserTree → Lexeme → Bool
option_goes_on None t = false
option_goes_on (Some i) t = goes_on_initialiser i t

-- an operator is not next
pub option_stops : (i : Option InitialiserTree) (r : List Mark) → Closer r → Stops option_goes_on i r
option_stops None r c = λ t h. refl
option_stops (Some i) r c = initialiser_stops i r c

none_ends : (ts : List Placed) → Ends option_goes_on None ts
none_ends [] = tt
none_ends (t ∷ ts) = refl

abbrev pub IsOption : ℕ → State → Option InitialiserTree → State → Type 0
IsOption n s x t = IsPiece marks.maybe_initialiser FitsOption option_goes_on option_height n 0 s x t

module _ (R : ℕ → Readers) (e : EachExact R) (n : ℕ) where
  maybe_yields : (s : State) → Yields (maybe_initialiser R n s) (IsOption n s)
  unfolding maybe_initialiser
  maybe_yields s =
      if_yields (answer (IsSign 34) s) _ _ (IsOption n s)
      (λ a. bind_yields (initialiser R n (beyond s)) _ _ _ (exact_yields _ _ _ _ n 1 (initialiser R n) (initialiser_exact R e n) (beyond s)) (λ x t h. record {
        fits = h.fits;
        low = h.low;
        ends = h.ends;
        used = let u = taken_used s.rest (tail s.rest) (Sign 34) (sign_taken 34 s.rest a) in let v = h.used in omega arith;
        runs = λ r. token_iff (Sign 34) (marks.initialiser x r) s (tail s.rest) (sign_taken 34 s.rest a) (h.runs r);
      }))
      (λ a. record { fits = tt; low = omega arith; ends = none_ends s.rest; used = omega arith; runs = λ r. asked_iff (IsSign 34) false r s a iff_same })

  maybe_found : (s : State) (x : Option InitialiserTree) (r : List Mark) → FitsOption x → option_height x ≤ n → Stops option_goes_on x r → RunsOn (marks.maybe_initialiser x r) s → Finds (maybe_initialiser R n s) x r
  unfolding maybe_initialiser
  maybe_found s None r f l c h = asked_no (IsSign 34) s _ _ None r h.0 (refl, h.1)
  maybe_found s (Some i) r f l c h =
      asked_yes (IsSign 34) s _ _ (Some i) r (sign_next 34 (marks.initialiser i r) s h)
      (bind_finds (initialiser R n (beyond s)) i r r _ (Some i) ((initialiser_exact R e n).found (beyond s) i r f l c (beyond_runs (Sign 34) (marks.initialiser i r) s h)) (λ t g. (refl, g)))

  pub maybe_initialiser_exact : Exact marks.maybe_initialiser FitsOption option_goes_on option_height n 0 (maybe_initialiser R n)
  maybe_initialiser_exact = exact_by marks.maybe_initialiser FitsOption option_goes_on option_height n 0 (maybe_initialiser R n) maybe_yields maybe_found
