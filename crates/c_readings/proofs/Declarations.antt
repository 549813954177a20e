-- Readers of declarations are exact.
use Rattle.std.proofs.Common.{◌≡◌, ◌≤◌, ◌+◌, ℕ, max, zero, suc, Bool, true, false, Option, List, [], ◌∷◌, length, refl, sym, ap, ◌∙◌, subst, arith}
use Rattle.c_ast.specs.Lexemes.{Lexeme, Sign}
use Rattle.c_ast.specs.Marks.{Mark, Tok, Here, IsSign, IsDeclaration, is_sign}
use Rattle.c_ast.specs.ExprMarks as expr_marks
use Rattle.c_ast.specs.ExprMarks.{declared_name, has_typedef, put_then}
use Rattle.c_ast.specs.UnitMarks as marks
use Rattle.c_ast.specs.Trees.{SpecifiersTree, DeclaratorTree, InitialiserTree, InitTree, DeclarationTree}
use Rattle.c_ast.specs.Levels.{FitsSpecifiers, FitsOption, FitsInit, FitsInits, FitsDeclaration, FitsDeclarations}
use Rattle.c_ast.specs.Heights.{specifiers_height, declarator_height, option_height, init_height, inits_height, declaration_height, declarations_height}
use Rattle.c_readings.specs.Reading.{State, gives, answer, here, beyond, tail, forget_state, put_state, commas}
use Rattle.c_readings.specs.Readers.{Readers, specifiers}
use Rattle.c_readings.specs.Exact.{RunsOn, Finds, Stops, IsPiece, Exact, FitsFree, nothing_more, where_left}
use Rattle.c_readings.specs.DeclarationReaders.{maybe_initialiser, low_specifiers, whole_declarator, init_behind, init, inits_behind, inits, declaration, declarations}
use Rattle.c_readings.proofs.Steps.{Yields, bind_yields, if_yields, yields, yields_also, exact_yields, exact_by, nothing_ends, nothing_stops, Takes, sign_taken, sign_yields, taken_used, iff_same, iff_then, iff_path, here_iff, token_iff, asked_iff, put_iff, put_rest, bind_finds, asked_yes, asked_no, here_is, sign_finds, sign_next, beyond_runs, first_is_at}
use Rattle.c_readings.proofs.Lists.{Every, Fit, EndsAt, IsItem, IsList, IsListed, listed, many_yields, many_finds, commas_yields, commas_finds, last_stops}
use Rattle.c_readings.proofs.Operators.{Closer, closer}
use Rattle.c_readings.proofs.Fronts.{named_used}
use Rattle.c_readings.proofs.Lows.{EachExact, low_exact}
use Rattle.c_readings.proofs.Specifiers.{specifiers_exact}
use Rattle.c_readings.proofs.Rounds.{nothing_exact}
use Rattle.c_readings.proofs.Initialisers.{IsOption, option_goes_on, option_stops, maybe_initialiser_exact}

pub low_specifiers_exact : (R : ℕ → Readers) → EachExact R → (n : ℕ) → Exact expr_marks.specifiers FitsSpecifiers nothing_more specifiers_height n 1 (low_specifiers R n)
unfolding low_specifiers
low_specifiers_exact R e n = low_exact expr_marks.specifiers FitsSpecifiers nothing_more specifiers_height (R n).limit 1 (specifiers (R n)) (specifiers_exact (R n) (e n).0) n (e n).1

-- ---- what is said of pieces of each kind

abbrev pub IsWhole : ℕ → Bool → State → DeclaratorTree → State → Type 0
IsWhole n typedef s d t = IsPiece (λ x r. marks.whole_declarator x typedef r) (FitsFree false) nothing_more declarator_height n 1 s d t

-- the next token goes on from the initialiser, if there is one
abbrev pub init_goes_on : InitTree → Lexeme → Bool
init_goes_on i t = option_goes_on i.initialiser t

abbrev IsInit : ℕ → Bool → State → InitTree → State → Type 0
IsInit n typedef s i t = IsPiece (marks.init typedef) FitsInit init_goes_on init_height n 1 s i t

-- what stands behind the first declarator of a declaration
abbrev pub rest_of : Bool → List InitTree → List Mark → List Mark
rest_of typedef [] r = r
rest_of typedef (i ∷ is) r = marks.maybe_initialiser i.initialiser (marks.more_inits typedef is r)

-- the first declarator is d and stands on the line, and the rest fits
abbrev pub FitsRest : ℕ → DeclaratorTree → List InitTree → Type 0
FitsRest line d [] = ⊥
FitsRest line d (i ∷ is) = (i.line ≡ line) × (i.declarator ≡ d) × FitsOption i.initialiser × FitsInits is

abbrev pub rest_height : List InitTree → ℕ
rest_height [] = 0
rest_height (i ∷ is) = max (option_height i.initialiser) (inits_height is)

abbrev pub IsRest : ℕ → Bool → ℕ → DeclaratorTree → State → List InitTree → State → Type 0
IsRest n typedef line d s is t = IsPiece (rest_of typedef) (FitsRest line d) nothing_more rest_height n 1 s is t

abbrev pub AreInits : ℕ → Bool → State → List InitTree → State → Type 0
AreInits n typedef s is t = IsPiece (marks.inits typedef) FitsInits nothing_more inits_height n 1 s is t

abbrev IsDeclarationAbove : ℕ → State → DeclarationTree → State → Type 0
IsDeclarationAbove n s x t = IsPiece marks.declaration FitsDeclaration nothing_more declaration_height (suc n) 1 s x t

abbrev initialised : ℕ → DeclaratorTree → Option InitialiserTree → InitTree
initialised line d o = record { line = line; declarator = d; initialiser = o }

-- ---- lists of declarators

more_inits_listed : (typedef : Bool) (is : List InitTree) (r : List Mark) → marks.more_inits typedef is r ≡ listed (marks.init typedef) is (Tok (Sign 32) ∷ r)
more_inits_listed typedef [] r = refl
more_inits_listed typedef (i ∷ is) r = ap (λ m. Tok (Sign 45) ∷ marks.init typedef i m) (more_inits_listed typedef is r)

inits_fit : (n : ℕ) (is : List InitTree) → Every (Fit FitsInit init_height n) is → FitsInits is × (inits_height is ≤ n)
inits_fit n [] h = (tt, omega arith)
inits_fit n (i ∷ is) h = let k = inits_fit n is h.1 in let l = h.0.1 in let m = k.1 in ((h.0.0, k.0), omega arith)

inits_are_fit : (n : ℕ) (is : List InitTree) → FitsInits is → inits_height is ≤ n → Every (Fit FitsInit init_height n) is
inits_are_fit n [] f l = tt
inits_are_fit n (i ∷ is) f l = ((f.0, omega arith), inits_are_fit n is f.1 (omega arith))

comma_no_init : (i : InitTree) → init_goes_on i (Sign 45) ≡ false
comma_no_init i = option_stops i.initialiser (Tok (Sign 45) ∷ []) (closer (Sign 45) [] refl) (Sign 45) refl

-- behind an initialiser comes a comma or `;`
inits_close : (typedef : Bool) (is : List InitTree) (r : List Mark) → Closer (marks.more_inits typedef is r)
inits_close typedef [] r = closer (Sign 32) r refl
inits_close typedef (i ∷ is) r = closer (Sign 45) (marks.init typedef i (marks.more_inits typedef is r)) refl

-- a tree with this first declarator
first_same : (line : ℕ) (d : DeclaratorTree) (i : InitTree) → i.line ≡ line → i.declarator ≡ d → initialised line d i.initialiser ≡ i
first_same line d i p q = ap (λ l. initialised l d i.initialiser) (sym p) ∙ ap (λ x. initialised i.line x i.initialiser) (sym q)

first_by : (n : ℕ) (typedef : Bool) (s : State) (d : DeclaratorTree) (t : State) (o : Option InitialiserTree) (is : List InitTree) (u : State) → answer (IsSign 32) s ≡ false → IsWhole n typedef s d t → IsRest n typedef (here s) d t (initialised (here s) d o ∷ is) u → AreInits n typedef s (initialised (here s) d o ∷ is) u
first_by n typedef s d t o is u a h k =
    let b = h.used in
    let c = k.used in
    let l = h.low in
    let m = k.low in
    record {
      fits = ((h.fits.0, h.fits.1, k.fits.2), k.fits.3);
      low = omega arith;
      ends = k.ends;
      used = omega arith;
      runs = λ r.
          let rest : List Mark = marks.maybe_initialiser o (marks.more_inits typedef is r) in
          asked_iff (IsSign 32) false (Here (here s) ∷ marks.whole_declarator d typedef rest) s a (here_iff (marks.whole_declarator d typedef rest) s (omega arith) (iff_then (h.runs rest) (k.runs r)));
    }

-- the first declarator and what is behind it are the declarators of a declaration
pub inits_by : (n : ℕ) (typedef : Bool) (s : State) (d : DeclaratorTree) (t : State) (is : List InitTree) (u : State) → answer (IsSign 32) s ≡ false → IsWhole n typedef s d t → IsRest n typedef (here s) d t is u → AreInits n typedef s is u
inits_by n typedef s d t [] u a h k = absurd k.fits
inits_by n typedef s d t (i ∷ is) u a h k =
    let p = first_same (here s) d i k.fits.0 k.fits.1 in
    subst (λ j. AreInits n typedef s (j ∷ is) u) p (first_by n typedef s d t i.initialiser is u a h (subst (λ j. IsRest n typedef (here s) d t (j ∷ is) u) (sym p) k))

module _ (R : ℕ → Readers) (e : EachExact R) (n : ℕ) where
  -- ---- declarators

  low_declarator_exact : Exact (expr_marks.declarator false true) (FitsFree false) nothing_more declarator_height n 0 (λ s. where_left s.rest ((R n).declarator false true s))
  low_declarator_exact = low_exact (expr_marks.declarator false true) (FitsFree false) nothing_more declarator_height (R n).limit 0 (λ s. where_left s.rest ((R n).declarator false true s)) ((e n).0.declarator false true) n (e n).1

  whole_by : (typedef : Bool) (s : State) (d : DeclaratorTree) (t : State) → IsPiece (expr_marks.declarator false true) (FitsFree false) nothing_more declarator_height n 0 (forget_state s) d t → IsWhole n typedef s d (put_state (declared_name d) typedef t)
  whole_by typedef s d t h = record {
    fits = h.fits;
    low = h.low;
    ends = nothing_ends d (put_state (declared_name d) typedef t).rest;
    used = subst (λ us. length us + 1 ≤ length s.rest) (sym (put_rest (declared_name d) typedef t)) (named_used true d (forget_state s) t h.fits.0 h.runs);
    runs = λ r. iff_then (h.runs (put_then (declared_name d) typedef r)) (put_iff (declared_name d) typedef r t);
  }

  whole_yields : (typedef : Bool) (s : State) → Yields (whole_declarator R n typedef s) (IsWhole n typedef s)
  unfolding whole_declarator
  whole_yields typedef s =
      bind_yields (where_left s.rest ((R n).declarator false true (forget_state s))) _ _ _ (exact_yields _ _ _ _ _ _ _ low_declarator_exact (forget_state s)) (λ d t h. whole_by typedef s d t h)

  whole_found : (typedef : Bool) (s : State) (d : DeclaratorTree) (r : List Mark) → FitsFree false d → declarator_height d ≤ n → RunsOn (marks.whole_declarator d typedef r) s → Finds (whole_declarator R n typedef s) d r
  unfolding whole_declarator
  whole_found typedef s d r f l h =
      let m : List Mark = put_then (declared_name d) typedef r in
      bind_finds (where_left s.rest ((R n).declarator false true (forget_state s))) d m r _ d (low_declarator_exact.found (forget_state s) d m f l (nothing_stops d m) h) (λ t g.
      (refl, (put_iff (declared_name d) typedef r t).0 g))

  pub whole_declarator_exact : (typedef : Bool) → Exact (λ d r. marks.whole_declarator d typedef r) (FitsFree false) nothing_more declarator_height n 1 (whole_declarator R n typedef)
  whole_declarator_exact typedef = exact_by (λ d r. marks.whole_declarator d typedef r) (FitsFree false) nothing_more declarator_height n 1 (whole_declarator R n typedef) (whole_yields typedef) (λ s d r f l c h. whole_found typedef s d r f l h)

  -- ---- an initialiser, or none, behind a declarator

  behind_yields : (line : ℕ) (d : DeclaratorTree) (s : State) → Yields (init_behind R n line d s) (λ i t. (i.line ≡ line) × (i.declarator ≡ d) × IsOption n s i.initialiser t)
  unfolding init_behind
  behind_yields line d s =
      bind_yields (maybe_initialiser R n s) _ (IsOption n s) _ (exact_yields _ _ _ _ _ _ _ (maybe_initialiser_exact R e n) s) (λ o t h. (refl, refl, h))

  behind_found : (line : ℕ) (d : DeclaratorTree) (s : State) (o : Option InitialiserTree) (r : List Mark) → FitsOption o → option_height o ≤ n → Stops option_goes_on o r → RunsOn (marks.maybe_initialiser o r) s → Finds (init_behind R n line d s) (initialised line d o) r
  unfolding init_behind
  behind_found line d s o r f l c h =
      bind_finds (maybe_initialiser R n s) o r r _ (initialised line d o) ((maybe_initialiser_exact R e n).found s o r f l c h) (λ t g. (refl, g))

  -- ---- a declarator and its initialiser

  init_by : (typedef : Bool) (s : State) (d : DeclaratorTree) (t : State) (o : Option InitialiserTree) (u : State) → IsWhole n typedef s d t → IsOption n t o u → IsInit n typedef s (initialised (here s) d o) u
  init_by typedef s d t o u h k =
      let a = h.used in
      let b = k.used in
      let l = h.low in
      let m = k.low in
      record {
        fits = (h.fits.0, h.fits.1, k.fits);
        low = omega arith;
        ends = k.ends;
        used = omega arith;
        runs = λ r. here_iff (marks.whole_declarator d typedef (marks.maybe_initialiser o r)) s (omega arith) (iff_then (h.runs (marks.maybe_initialiser o r)) (k.runs r));
      }

  init_yields : (typedef : Bool) (s : State) → Yields (init R n typedef s) (IsInit n typedef s)
  unfolding init
  init_yields typedef s =
      bind_yields (whole_declarator R n typedef s) _ (IsWhole n typedef s) _ (whole_yields typedef s) (λ d t h.
      yields_also (init_behind R n (here s) d t) _ (IsInit n typedef s) (behind_yields (here s) d t) (λ i u k.
      subst (λ j. IsInit n typedef s j u) (first_same (here s) d i k.0 k.1) (init_by typedef s d t i.initialiser u h k.2)))

  init_found : (typedef : Bool) (s : State) (i : InitTree) (r : List Mark) → FitsInit i → init_height i ≤ n → Stops init_goes_on i r → RunsOn (marks.init typedef i r) s → Finds (init R n typedef s) i r
  unfolding init
  init_found typedef s i r f l c h =
      let m : List Mark = marks.maybe_initialiser i.initialiser r in
      bind_finds (whole_declarator R n typedef s) i.declarator m r _ i (whole_found typedef s i.declarator m (f.0, f.1) (omega arith) h.1) (λ t g.
      subst (λ j. Finds (init_behind R n j i.declarator t) i r) (sym (here_is i.line (marks.whole_declarator i.declarator typedef m) s h)) (behind_found i.line i.declarator t i.initialiser r f.2 (omega arith) c g))

  pub init_exact : (typedef : Bool) → Exact (marks.init typedef) FitsInit init_goes_on init_height n 1 (init R n typedef)
  init_exact typedef = exact_by (marks.init typedef) FitsInit init_goes_on init_height n 1 (init R n typedef) (init_yields typedef) (init_found typedef)

  -- ---- the rest of a declaration, behind its first declarator

  abbrev AreMore : Bool → State → List InitTree → State → Type 0
  AreMore typedef s is t = IsListed (marks.init typedef) FitsInit init_goes_on init_height n (λ b v. answer (IsSign 45) v) s is t

  rest_by : (typedef : Bool) (line : ℕ) (d : DeclaratorTree) (s : State) (i : InitTree) (t : State) (is : List InitTree) (u : State) → (i.line ≡ line) × (i.declarator ≡ d) × IsOption n s i.initialiser t → AreMore typedef t is u → Takes u.rest (Sign 32) (tail u.rest) → IsRest n typedef line d s (i ∷ is) (beyond u)
  rest_by typedef line d s i t is u h k z =
      let f = inits_fit n is k.kept in
      let l = h.2.low in
      let m = f.1 in
      let a = h.2.used in
      let b = k.used in
      let c = taken_used u.rest (tail u.rest) (Sign 32) z in
      record {
        fits = (h.0, h.1, h.2.fits, f.0);
        low = omega arith;
        ends = nothing_ends (i ∷ is) (tail u.rest);
        used = omega arith;
        runs = λ r.
            let end : List Mark = Tok (Sign 32) ∷ r in
            iff_then (iff_path (marks.maybe_initialiser i.initialiser (marks.more_inits typedef is r)) (marks.maybe_initialiser i.initialiser (listed (marks.init typedef) is end)) s (ap (marks.maybe_initialiser i.initialiser) (more_inits_listed typedef is r)))
            (iff_then (h.2.runs (listed (marks.init typedef) is end)) (iff_then (k.runs end) (token_iff (Sign 32) r u (tail u.rest) z iff_same)));
      }

  rest_yields : (typedef : Bool) (line : ℕ) (d : DeclaratorTree) (s : State) → Yields (inits_behind R n typedef line d s) (IsRest n typedef line d s)
  unfolding inits_behind
  rest_yields typedef line d s =
      bind_yields (init_behind R n line d s) _ _ _ (behind_yields line d s) (λ i t h.
      bind_yields (commas (init R n typedef) t) _ (AreMore typedef t) _ (commas_yields (marks.init typedef) FitsInit init_goes_on init_height n 1 (init R n typedef) (init_exact typedef) t) (λ is u k.
      sign_yields 32 u (gives (i ∷ is)) (IsRest n typedef line d s) (λ z. rest_by typedef line d s i t is u h k z)))

  rest_found : (typedef : Bool) (line : ℕ) (d : DeclaratorTree) (s : State) (o : Option InitialiserTree) (is : List InitTree) (r : List Mark) → FitsOption o → option_height o ≤ n → FitsInits is → inits_height is ≤ n → RunsOn (marks.maybe_initialiser o (marks.more_inits typedef is r)) s → Finds (inits_behind R n typedef line d s) (initialised line d o ∷ is) r
  unfolding inits_behind
  rest_found typedef line d s o is r f l g m h =
      let end : List Mark = Tok (Sign 32) ∷ r in
      let x : List InitTree = initialised line d o ∷ is in
      bind_finds (init_behind R n line d s) (initialised line d o) (marks.more_inits typedef is r) r _ x (behind_found line d s o (marks.more_inits typedef is r) f l (option_stops o (marks.more_inits typedef is r) (inits_close typedef is r)) h) (λ t k.
      bind_finds (commas (init R n typedef) t) is end r _ x (commas_finds (marks.init typedef) FitsInit init_goes_on init_height n 1 (init R n typedef) end (init_exact typedef) comma_no_init (λ u j. first_is_at (is_sign 45) (Sign 32) r u j) t is (inits_are_fit n is g m, last_stops init_goes_on end is (λ i. option_stops i.initialiser end (closer (Sign 32) r refl))) (subst (λ j. RunsOn j t) (more_inits_listed typedef is r) k)) (λ u k.
      sign_finds 32 r r u (gives x) x k (λ j. (refl, j))))

  rest_all_found : (typedef : Bool) (line : ℕ) (d : DeclaratorTree) (s : State) (is : List InitTree) (r : List Mark) → FitsRest line d is → rest_height is ≤ n → RunsOn (rest_of typedef is r) s → Finds (inits_behind R n typedef line d s) is r
  rest_all_found typedef line d s [] r f l h = absurd f
  rest_all_found typedef line d s (i ∷ is) r f l h = subst (λ j. Finds (inits_behind R n typedef line d s) (j ∷ is) r) (first_same line d i f.0 f.1) (rest_found typedef line d s i.initialiser is r f.2 (omega arith) f.3 (omega arith) h)

  pub inits_behind_exact : (typedef : Bool) (line : ℕ) (d : DeclaratorTree) → Exact (rest_of typedef) (FitsRest line d) nothing_more rest_height n 1 (inits_behind R n typedef line d)
  inits_behind_exact typedef line d = exact_by (rest_of typedef) (FitsRest line d) nothing_more rest_height n 1 (inits_behind R n typedef line d) (rest_yields typedef line d) (λ s is r f l c h. rest_all_found typedef line d s is r f l h)

  -- ---- the declarators of a declaration

  no_inits : (typedef : Bool) (s : State) → answer (IsSign 32) s ≡ true → AreInits n typedef s [] (beyond s)
  no_inits typedef s a =
      let z = sign_taken 32 s.rest a in
      record {
        fits = tt;
        low = omega arith;
        ends = nothing_ends {A = List InitTree} [] (tail s.rest);
        used = let u = taken_used s.rest (tail s.rest) (Sign 32) z in omega arith;
        runs = λ r. token_iff (Sign 32) r s (tail s.rest) z iff_same;
      }

  inits_yields : (typedef : Bool) (s : State) → Yields (inits R n typedef s) (AreInits n typedef s)
  unfolding inits
  inits_yields typedef s =
      if_yields (answer (IsSign 32) s) _ _ (AreInits n typedef s)
      (λ a. no_inits typedef s a)
      (λ a. bind_yields (whole_declarator R n typedef s) _ _ _ (whole_yields typedef s) (λ d t h.
      yields_also (inits_behind R n typedef (here s) d t) _ (AreInits n typedef s) (rest_yields typedef (here s) d t) (λ is u k. inits_by n typedef s d t is u a h k)))

  inits_found : (typedef : Bool) (s : State) (is : List InitTree) (r : List Mark) → FitsInits is → inits_height is ≤ n → RunsOn (marks.inits typedef is r) s → Finds (inits R n typedef s) is r
  unfolding inits
  inits_found typedef s [] r f l h = asked_yes (IsSign 32) s _ _ [] r (sign_next 32 r s h) (refl, beyond_runs (Sign 32) r s h)
  inits_found typedef s (i ∷ is) r f l h =
      let m : List Mark = marks.maybe_initialiser i.initialiser (marks.more_inits typedef is r) in
      asked_no (IsSign 32) s _ _ (i ∷ is) r h.0
      (bind_finds (whole_declarator R n typedef s) i.declarator m r _ (i ∷ is) (whole_found typedef s i.declarator m (f.0.0, f.0.1) (omega arith) h.1.1) (λ t g.
      subst (λ j. Finds (inits_behind R n typedef j i.declarator t) (i ∷ is) r) (sym (here_is i.line (marks.whole_declarator i.declarator typedef m) s h.1)) (rest_found typedef i.line i.declarator t i.initialiser is r f.0.2 (omega arith) f.1 (omega arith) g)))

  pub inits_exact : (typedef : Bool) → Exact (marks.inits typedef) FitsInits nothing_more inits_height n 1 (inits R n typedef)
  inits_exact typedef = exact_by (marks.inits typedef) FitsInits nothing_more inits_height n 1 (inits R n typedef) (inits_yields typedef) (λ s is r f l c h. inits_found typedef s is r f l h)

  -- ---- one declaration

  declaration_by : (s : State) (ss : SpecifiersTree) (t : State) (is : List InitTree) (u : State) → IsPiece expr_marks.specifiers FitsSpecifiers nothing_more specifiers_height n 1 s ss t → AreInits n (has_typedef ss) t is u → IsDeclarationAbove n s record { line = here s; specifiers = ss; declarators = is } u
  declaration_by s ss t is u h k =
      let a = h.used in
      let b = k.used in
      let l = h.low in
      let m = k.low in
      record {
        fits = (h.fits, k.fits);
        low = omega arith;
        ends = nothing_ends {A = DeclarationTree} record { line = here s; specifiers = ss; declarators = is } u.rest;
        used = omega arith;
        runs = λ r. here_iff (expr_marks.specifiers ss (marks.inits (has_typedef ss) is r)) s (omega arith) (iff_then (h.runs (marks.inits (has_typedef ss) is r)) (k.runs r));
      }

  declaration_yields : (s : State) → Yields (declaration R (suc n) s) (IsDeclarationAbove n s)
  unfolding declaration
  declaration_yields s =
      bind_yields (low_specifiers R n s) _ _ _ (exact_yields _ _ _ _ _ _ _ (low_specifiers_exact R e n) s) (λ ss t h.
      bind_yields (inits R n (has_typedef ss) t) _ _ _ (inits_yields (has_typedef ss) t) (λ is u k. declaration_by s ss t is u h k))

  declaration_found : (s : State) (x : DeclarationTree) (r : List Mark) → FitsDeclaration x → declaration_height x ≤ suc n → RunsOn (marks.declaration x r) s → Finds (declaration R (suc n) s) x r
  unfolding declaration
  declaration_found s x r f l h =
      let m : List Mark = marks.inits (has_typedef x.specifiers) x.declarators r in
      let line = here_is x.line (expr_marks.specifiers x.specifiers m) s h in
      bind_finds (low_specifiers R n s) x.specifiers m r _ x ((low_specifiers_exact R e n).found s x.specifiers m f.0 (omega arith) (nothing_stops x.specifiers m) h.1) (λ t g.
      bind_finds (inits R n (has_typedef x.specifiers) t) x.declarators r r _ x (inits_found (has_typedef x.specifiers) t x.declarators r f.1 (omega arith) g) (λ u k.
      (ap (λ j. record { line = j; specifiers = x.specifiers; declarators = x.declarators }) line, k)))

-- ---- declarations

declaration_height_some : (x : DeclarationTree) → 1 ≤ declaration_height x
declaration_height_some x = omega arith

pub declaration_exact : (R : ℕ → Readers) → EachExact R → (n : ℕ) → Exact marks.declaration FitsDeclaration nothing_more declaration_height n 1 (declaration R n)
unfolding declaration
declaration_exact R e zero = nothing_exact marks.declaration FitsDeclaration nothing_more declaration_height 1 (declaration R zero) declaration_height_some (λ s. refl)
declaration_exact R e (suc n) =
    exact_by marks.declaration FitsDeclaration nothing_more declaration_height (suc n) 1 (declaration R (suc n)) (declaration_yields R e n) (λ s x r f l c h. declaration_found R e n s x r f l h)

declarations_fit : (n : ℕ) (ds : List DeclarationTree) → Every (Fit FitsDeclaration declaration_height n) ds → FitsDeclarations ds × (declarations_height ds ≤ n)
declarations_fit n [] h = (tt, omega arith)
declarations_fit n (d ∷ ds) h = let k = declarations_fit n ds h.1 in let l = h.0.1 in let m = k.1 in ((h.0.0, k.0), omega arith)

declarations_are_fit : (n : ℕ) (ds : List DeclarationTree) → FitsDeclarations ds → declarations_height ds ≤ n → Every (Fit FitsDeclaration declaration_height n) ds
declarations_are_fit n [] f l = tt
declarations_are_fit n (d ∷ ds) f l = ((f.0, omega arith), declarations_are_fit n ds f.1 (omega arith))

module _ (R : ℕ → Readers) (e : EachExact R) (n : ℕ) where
  abbrev AreDeclarations : State → List DeclarationTree → State → Type 0
  AreDeclarations s ds t = IsPiece marks.declarations FitsDeclarations nothing_more declarations_height n 0 s ds t

  -- the next one, where one is next
  abbrev IsNext : Bool → State → DeclarationTree → State → Type 0
  IsNext b s d t = IsItem (λ (b : Bool). marks.declarations) (Fit FitsDeclaration declaration_height n) (EndsAt nothing_more) (λ b x. b) b s d t

  next_by : (b : Bool) (s : State) (d : DeclarationTree) (t : State) → answer IsDeclaration s ≡ true → IsPiece marks.declaration FitsDeclaration nothing_more declaration_height n 1 s d t → IsNext b s d t
  next_by b s d t a h = record { kept = (h.fits, h.low); ends = h.ends; used = h.used; runs = λ ds r. asked_iff IsDeclaration true (marks.declaration d (marks.declarations ds r)) s a (h.runs (marks.declarations ds r)) }

  declarations_by : (s : State) (ds : List DeclarationTree) (t : State) → IsList (λ (b : Bool). marks.declarations) (Fit FitsDeclaration declaration_height n) (EndsAt nothing_more) (λ b u. answer IsDeclaration u) true s ds t → AreDeclarations s ds t
  declarations_by s ds t h =
      let f = declarations_fit n ds h.kept in
      let u = h.used in
      record { fits = f.0; low = f.1; ends = nothing_ends ds t.rest; used = omega arith; runs = h.runs }

  declarations_yields : (s : State) → Yields (declarations R n s) (AreDeclarations s)
  unfolding declarations
  declarations_yields s =
      yields_also (declarations R n s) _ (AreDeclarations s)
      (many_yields (λ (b : Bool). marks.declarations) (Fit FitsDeclaration declaration_height n) (EndsAt nothing_more) (λ b t. answer IsDeclaration t) (λ b t. declaration R n t) (λ b x. b)
      (λ b t r a. asked_iff IsDeclaration false r t a iff_same)
      (λ b t a. yields (declaration R n t) _ (λ d u k. next_by b t d u a ((declaration_exact R e n).piece t d u k)))
      (length s.rest + 1) true s)
      (λ ds t h. declarations_by s ds t h)

  declarations_found : (s : State) (ds : List DeclarationTree) (r : List Mark) → FitsDeclarations ds → declarations_height ds ≤ n → RunsOn (marks.declarations ds r) s → Finds (declarations R n s) ds r
  unfolding declarations
  declarations_found s ds r f l h =
      many_finds (λ (b : Bool) xs. marks.declarations xs r) (Every (Fit FitsDeclaration declaration_height n)) r (λ b t. answer IsDeclaration t) (λ b t. declaration R n t) (λ b x. b)
      (λ b t k. k)
      (λ b t d xs q k. (k.0, q.1, (declaration_exact R e n).found t d (marks.declarations xs r) q.0.0 q.0.1 (nothing_stops d (marks.declarations xs r)) k.1))
      (λ b t d u a k. ((declaration_exact R e n).piece t d u k).used)
      (length s.rest + 1) true s ds (omega arith) (declarations_are_fit n ds f l) h

  pub declarations_exact : Exact marks.declarations FitsDeclarations nothing_more declarations_height n 0 (declarations R n)
  declarations_exact = exact_by marks.declarations FitsDeclarations nothing_more declarations_height n 0 (declarations R n) declarations_yields (λ s ds r f l c h. declarations_found s ds r f l h)
