-- Readers of the lists behind a declared name are exact: names, parameters, and sizes.
use Rattle.std.proofs.Common.{◌≡◌, ◌≤◌, ◌+◌, ◌↔◌, not, ℕ, Bool, true, false, List, [], ◌∷◌, length, refl, sym, ap, ◌∙◌, subst, arith}
use Rattle.c_ast.specs.Lexemes.{Lexeme, Name, Keyword, Integer, Character, Text, Sign, Placed}
use Rattle.c_ast.specs.InForce.{InForce, is_typedef}
use Rattle.c_ast.specs.Marks.{Mark, Tok, Plain, Put, IsSpecifier, IsSign, first_is, is_sign, is_specifier, lexemes}
use Rattle.c_ast.specs.ExprMarks as marks
use Rattle.c_ast.specs.Levels.{IsSome, OneParameter, FitsParameters, FitsParameter}
use Rattle.c_ast.specs.Heights.{parameter_height, parameters_height}
use Rattle.c_ast.specs.Views.{parameters_of}
use Rattle.c_ast.specs.Trees.{ParameterTree, Parameter, ParameterTrees, NoParameter, Parameters}
use Rattle.c_readings.specs.Reading.{State, Read, gives, answer, ask, tail, beyond, one_sign, name_then, all_of}
use Rattle.c_readings.specs.Readers.{Readers, is_plain, some_commas, parameter_name, name_list, parameter, goes_on_without, parameters}
use Rattle.c_readings.specs.Exact.{RunsOn, Finds, IsPiece, Exact, nothing_more}
use Rattle.c_readings.proofs.Steps.{Yields, exact_yields, exact_by, nothing_ends, nothing_stops, bind_yields, if_yields, name_yields, sign_yields, Takes, sign_taken, taken_used, iff_same, iff_then, iff_path, token_iff, bind_finds, asked_yes, asked_no, first_finds, sign_finds, sign_next, beyond_runs, first_is_at}
use Rattle.c_readings.proofs.Lists.{Every, IsListed, listed, Fit, IsBegun, begun, last_stops, listed_yields, listed_finds, some_commas_yields, some_commas_finds, without_comma, without_yes, without_no_comma, without_sign}
use Rattle.c_readings.proofs.Firsts.{not_first, specifier_no_sign, specifiers_next}

-- ---- lists of names

abbrev named : List ℕ → List Mark → List Mark
named n r = Tok (Name n) ∷ Put n false ∷ r

abbrev AnyName : List ℕ → Type 0
AnyName n = Unit {0}

abbrev pub no_height : {A : Type 0} → A → ℕ
no_height x = 0

name_exact : Exact named AnyName nothing_more no_height 0 1 parameter_name
unfolding parameter_name
name_exact = exact_by named AnyName nothing_more no_height 0 1 parameter_name
    (λ s. name_yields s _ (IsPiece named AnyName nothing_more no_height 0 1 s) (λ n us k.
    let u = taken_used s.rest us (Name n) k in record {
      fits = tt;
      low = omega arith;
      ends = nothing_ends n us;
      used = omega arith;
      runs = λ r. token_iff (Name n) (Put n false ∷ r) s us k iff_same;
    }))
    (λ s n r f l c h. first_finds (Name n) (Put n false ∷ r) r s (name_then _) n h (λ t g. (refl, g)))

more_names : (ns : List (List ℕ)) (r : List Mark) → marks.more_names_then ns r ≡ listed named ns (Tok (Sign 3) ∷ r)
more_names [] r = refl
more_names (n ∷ ns) r = ap (λ m. Tok (Sign 45) ∷ Tok (Name n) ∷ Put n false ∷ m) (more_names ns r)

pub not_it : (b : Bool) → not b ≡ true → b ≡ false
not_it true h = absurd cc
not_it false h = refl

-- the first is no typedef name
plain_first : (names : InForce) (n : List ℕ) (ts us : List Placed) → first_is (is_plain names) (lexemes ts) ≡ true → Takes ts (Name n) us → is_typedef names n ≡ false
plain_first names n ts us h k = not_it (is_typedef names n) (sym (ap (λ vs. first_is (is_plain names) (lexemes vs)) k.1) ∙ h)

-- where the first token is plain, it is the same to ask for a name
plain_token : (n : List ℕ) (m : List Mark) (s : State) → first_is (is_plain s.names) (lexemes s.rest) ≡ true → RunsOn (Plain n ∷ m) s ↔ RunsOn (Tok (Name n) ∷ m) s
plain_token n m s a = (λ h. (h.1, h.2, h.3, h.4), λ h. (plain_first s.names n s.rest h.1 a (h.0, h.2), h.0, h.1, h.2, h.3))

names_begun : (ns : List (List ℕ)) (r : List Mark) (s : State) → IsSome ns → first_is (is_plain s.names) (lexemes s.rest) ≡ true → RunsOn (marks.names_then ns r) s ↔ RunsOn (begun named ns (Tok (Sign 3) ∷ r)) s
names_begun [] r s f a = absurd f
names_begun (n ∷ ns) r s f a =
    iff_then (plain_token n (Put n false ∷ marks.more_names_then ns r) s a)
    (iff_path (named n (marks.more_names_then ns r)) (begun named (n ∷ ns) (Tok (Sign 3) ∷ r)) s (ap (named n) (more_names ns r)))

abbrev pub IsNames : State → List (List ℕ) → State → Type 0
IsNames s ns t = IsPiece marks.names_then IsSome nothing_more no_height 0 2 s ns t

pub names_yields : (s : State) → first_is (is_plain s.names) (lexemes s.rest) ≡ true → Yields (name_list s) (IsNames s)
unfolding name_list
names_yields s a =
    bind_yields (some_commas parameter_name s) _ (IsBegun named AnyName nothing_more no_height 0 1 s) (IsNames s)
    (some_commas_yields named AnyName nothing_more no_height 0 1 parameter_name name_exact s) (λ ns t h.
    sign_yields 3 t (λ u. gives ns u) (IsNames s) (λ k.
    let u = taken_used t.rest (tail t.rest) (Sign 3) k in
    let w = h.used in record {
      fits = h.some;
      low = omega arith;
      ends = nothing_ends ns (tail t.rest);
      used = omega arith;
      runs = λ r. iff_then (names_begun ns r s h.some a) (iff_then (h.runs (Tok (Sign 3) ∷ r)) (token_iff (Sign 3) r t (tail t.rest) k iff_same));
    }))

every_name : (ns : List (List ℕ)) → Every (Fit AnyName no_height 0) ns
every_name [] = tt
every_name (n ∷ ns) = ((tt, omega arith), every_name ns)

pub names_found : (s : State) (n : List ℕ) (ns : List (List ℕ)) (r : List Mark) → RunsOn (marks.names_then (n ∷ ns) r) s → Finds (name_list s) (n ∷ ns) r
unfolding name_list
names_found s n ns r h =
    let m : List Mark = Tok (Sign 3) ∷ r in
    bind_finds (some_commas parameter_name s) (n ∷ ns) m r _ (n ∷ ns)
    (some_commas_finds named AnyName nothing_more no_height 0 1 parameter_name m name_exact (λ x. refl) (λ u k. first_is_at (is_sign 45) (Sign 3) r u k) s n ns
    (every_name (n ∷ ns), last_stops nothing_more m (n ∷ ns) (λ x. nothing_stops x m))
    (subst (λ v. RunsOn (named n v) s) (more_names ns r) (h.1, h.2, h.3, h.4)))
    (λ u k. sign_finds 3 r r u (λ v. gives (n ∷ ns) v) (n ∷ ns) k (λ i. (refl, i)))

-- ---- a parameter begins with a specifier

-- which is no name but a typedef name
not_plain : (names : InForce) (l : Lexeme) → is_specifier names false l ≡ true → is_plain names l ≡ false
not_plain names (Name n) h = ap not h
not_plain names (Keyword j) h = refl
not_plain names (Integer v j) h = refl
not_plain names (Character v) h = refl
not_plain names (Text b) h = refl
not_plain names (Sign j) h = refl

parameter_first : (p : ParameterTree) (r : List Mark) (s : State) → RunsOn (marks.parameter p r) s → answer (IsSpecifier false) s ≡ true
parameter_first (Parameter l ss d) r s h = specifiers_next ss _ s h.1

pub parameter_no_sign : (k : ℕ) (p : ParameterTree) (r : List Mark) (s : State) → RunsOn (marks.parameter p r) s → answer (IsSign k) s ≡ false
parameter_no_sign k p r s h = specifier_no_sign s.names false k (lexemes s.rest) (parameter_first p r s h)

pub parameter_not_plain : (p : ParameterTree) (r : List Mark) (s : State) → RunsOn (marks.parameter p r) s → first_is (is_plain s.names) (lexemes s.rest) ≡ false
parameter_not_plain p r s h = not_first (is_specifier s.names false) (is_plain s.names) (lexemes s.rest) (not_plain s.names) (parameter_first p r s h)

-- ---- lists of parameters

abbrev pub parameters_then : ParameterTrees × Bool → List Mark → List Mark
parameters_then p r = marks.parameters p.0 p.1 r

abbrev pub FitsSome : ParameterTrees × Bool → Type 0
FitsSome p = OneParameter p.0 × FitsParameters p.0

abbrev pub tallest : ParameterTrees × Bool → ℕ
tallest p = parameters_height p.0

more_listed : (ps : List ParameterTree) (more : Bool) (r : List Mark) → marks.more_parameters (parameters_of ps) more r ≡ listed marks.parameter ps (marks.dots_then more r)
more_listed [] more r = refl
more_listed (p ∷ ps) more r = ap (λ m. Tok (Sign 45) ∷ marks.parameter p m) (more_listed ps more r)

trees_fit : (limit : ℕ) (ps : List ParameterTree) → Every (Fit FitsParameter parameter_height limit) ps → FitsParameters (parameters_of ps) × (parameters_height (parameters_of ps) ≤ limit)
trees_fit limit [] h = (tt, omega arith)
trees_fit limit (p ∷ ps) h = let k = trees_fit limit ps h.1 in ((h.0.0, k.0), omega arith)

each_fits : (limit : ℕ) (ps : List ParameterTree) → FitsParameters (parameters_of ps) → parameters_height (parameters_of ps) ≤ limit → Every (Fit FitsParameter parameter_height limit) ps
each_fits limit [] f l = tt
each_fits limit (p ∷ ps) f l = ((f.0, omega arith), each_fits limit ps f.1 (omega arith))

parameter_list_of : (ps : ParameterTrees) → (xs : List ParameterTree) × (parameters_of xs ≡ ps)
parameter_list_of NoParameter = ([], refl)
parameter_list_of (Parameters p ps) = let k = parameter_list_of ps in (p ∷ k.0, ap (λ qs. Parameters p qs) k.1)

-- `, ...` or nothing more, and `)`
abbrev dots_or_end : ParameterTrees → State → Read (ParameterTrees × Bool)
dots_or_end ps u = ask (IsSign 45) u (one_sign 33 (beyond u) (λ v. one_sign 3 v (λ w. gives (ps, true) w))) (one_sign 3 u (λ v. gives (ps, false) v))

dots_found : (ps : ParameterTrees) (more : Bool) (r : List Mark) (u : State) → RunsOn (marks.dots_then more r) u → Finds (dots_or_end ps u) (ps, more) r
dots_found ps true r u h =
    asked_yes (IsSign 45) u _ _ (ps, true) r (sign_next 45 (Tok (Sign 33) ∷ Tok (Sign 3) ∷ r) u h)
    (sign_finds 33 (Tok (Sign 3) ∷ r) r (beyond u) (λ v. one_sign 3 v (λ w. gives (ps, true) w)) (ps, true) (beyond_runs (Sign 45) (Tok (Sign 33) ∷ Tok (Sign 3) ∷ r) u h) (λ i.
    sign_finds 3 r r (beyond (beyond u)) (λ w. gives (ps, true) w) (ps, true) i (λ j. (refl, j))))
dots_found ps false r u h =
    asked_no (IsSign 45) u _ _ (ps, false) r (first_is_at (is_sign 45) (Sign 3) r u h)
    (sign_finds 3 r r u (λ v. gives (ps, false) v) (ps, false) h (λ j. (refl, j)))

dots_stop : (more : Bool) (r : List Mark) (u : State) → RunsOn (marks.dots_then more r) u → goes_on_without 33 u ≡ false
dots_stop true r u h =
    without_sign 33 u (sign_next 45 (Tok (Sign 33) ∷ Tok (Sign 3) ∷ r) u h)
    (sign_next 33 (Tok (Sign 3) ∷ r) (beyond u) (beyond_runs (Sign 45) (Tok (Sign 33) ∷ Tok (Sign 3) ∷ r) u h))
dots_stop false r u h = without_no_comma 33 u (first_is_at (is_sign 45) (Sign 3) r u h)

module _ (R : Readers) (e : Exact marks.parameter FitsParameter nothing_more parameter_height R.limit 1 (parameter R)) where
  abbrev pub IsParameters : State → ParameterTrees × Bool → State → Type 0
  IsParameters s p t = IsPiece parameters_then FitsSome nothing_more tallest R.limit 2 s p t

  abbrev MoreParameters : State → List ParameterTree → State → Type 0
  MoreParameters t ps u = IsListed marks.parameter FitsParameter nothing_more parameter_height R.limit (λ b v. goes_on_without 33 v) t ps u

  parameters_piece : (s t : State) (p : ParameterTree) (ps : List ParameterTree) (u v : State) (more : Bool) → IsPiece marks.parameter FitsParameter nothing_more parameter_height R.limit 1 s p t → MoreParameters t ps u → length v.rest + 1 ≤ length u.rest → ((r : List Mark) → RunsOn (marks.dots_then more r) u ↔ RunsOn r v) → IsParameters s (parameters_of (p ∷ ps), more) v
  parameters_piece s t p ps u v more h k w g =
      let f = trees_fit R.limit ps k.kept in
      let a = h.used in
      let b = k.used in
      let c = h.low in record {
        fits = (tt, (h.fits, f.0));
        low = omega arith;
        ends = nothing_ends {A = ParameterTrees × Bool} (parameters_of (p ∷ ps), more) v.rest;
        used = omega arith;
        runs = λ r.
            iff_then (h.runs (marks.more_parameters (parameters_of ps) more r))
            (iff_then (iff_path (marks.more_parameters (parameters_of ps) more r) (listed marks.parameter ps (marks.dots_then more r)) t (more_listed ps more r))
            (iff_then (k.runs (marks.dots_then more r)) (g r)));
      }

  parameters_yields : (s : State) → Yields (parameters R s) (IsParameters s)
  unfolding parameters
  parameters_yields s =
      bind_yields (parameter R s) _ (IsPiece marks.parameter FitsParameter nothing_more parameter_height R.limit 1 s) (IsParameters s) (exact_yields marks.parameter FitsParameter nothing_more parameter_height R.limit 1 (parameter R) e s) (λ p t h.
      bind_yields (all_of (λ b u. goes_on_without 33 u) (λ b u. parameter R (beyond u)) (λ b x. b) true t) _ (MoreParameters t) (IsParameters s)
      (listed_yields marks.parameter FitsParameter nothing_more parameter_height R.limit 1 (parameter R) (λ b u. goes_on_without 33 u) e (λ b u a. without_comma 33 u a) t) (λ ps u k.
      if_yields (answer (IsSign 45) u) _ _ (IsParameters s)
      (λ a. let i = sign_taken 45 u.rest a in
      sign_yields 33 (beyond u) (λ v. one_sign 3 v (λ w. gives (parameters_of (p ∷ ps), true) w)) (IsParameters s) (λ j.
      sign_yields 3 (beyond (beyond u)) (λ w. gives (parameters_of (p ∷ ps), true) w) (IsParameters s) (λ l.
      let x = taken_used u.rest (tail u.rest) (Sign 45) i in
      let y = taken_used (tail u.rest) (tail (tail u.rest)) (Sign 33) j in
      let z = taken_used (tail (tail u.rest)) (tail (tail (tail u.rest))) (Sign 3) l in
      parameters_piece s t p ps u (beyond (beyond (beyond u))) true h k (omega arith) (λ r.
      token_iff (Sign 45) (Tok (Sign 33) ∷ Tok (Sign 3) ∷ r) u (tail u.rest) i
      (token_iff (Sign 33) (Tok (Sign 3) ∷ r) (beyond u) (tail (tail u.rest)) j
      (token_iff (Sign 3) r (beyond (beyond u)) (tail (tail (tail u.rest))) l iff_same))))))
      (λ a. sign_yields 3 u (λ v. gives (parameters_of (p ∷ ps), false) v) (IsParameters s) (λ l.
      let z = taken_used u.rest (tail u.rest) (Sign 3) l in
      parameters_piece s t p ps u (beyond u) false h k (omega arith) (λ r. token_iff (Sign 3) r u (tail u.rest) l iff_same)))))

  listed_found : (s : State) (p : ParameterTree) (ps : List ParameterTree) (more : Bool) (r : List Mark) → FitsParameters (parameters_of (p ∷ ps)) → parameters_height (parameters_of (p ∷ ps)) ≤ R.limit → RunsOn (marks.parameters (parameters_of (p ∷ ps)) more r) s → Finds (parameters R s) (parameters_of (p ∷ ps), more) r
  unfolding parameters
  listed_found s p ps more r f l h =
      let m = marks.more_parameters (parameters_of ps) more r in
      let z : ParameterTrees × Bool = (parameters_of (p ∷ ps), more) in
      bind_finds (parameter R s) p m r _ z (e.found s p m f.0 (omega arith) (nothing_stops p m) h) (λ t g.
      bind_finds (all_of (λ b u. goes_on_without 33 u) (λ b u. parameter R (beyond u)) (λ b x. b) true t) ps (marks.dots_then more r) r _ z
      (listed_finds marks.parameter FitsParameter nothing_more parameter_height R.limit 1 (parameter R) (λ b u. goes_on_without 33 u) (marks.dots_then more r) e (λ b u a. without_comma 33 u a) (λ x. refl)
      (λ b u x n d k. without_yes 33 u (sign_next 45 (marks.parameter x n) u k) (parameter_no_sign 33 x n (beyond u) (beyond_runs (Sign 45) (marks.parameter x n) u k)))
      (λ b u k. dots_stop more r u k) t ps (each_fits R.limit ps f.1 (omega arith), last_stops nothing_more (marks.dots_then more r) ps (λ x. nothing_stops x (marks.dots_then more r))) (subst (λ n. RunsOn n t) (more_listed ps more r) g))
      (λ u k. dots_found (parameters_of (p ∷ ps)) more r u k))

  parameters_found : (s : State) (ps : ParameterTrees) (more : Bool) (r : List Mark) → OneParameter ps → FitsParameters ps → parameters_height ps ≤ R.limit → RunsOn (marks.parameters ps more r) s → Finds (parameters R s) (ps, more) r
  parameters_found s NoParameter more r o f l h = absurd o
  parameters_found s (Parameters p ps) more r o f l h =
      let k = parameter_list_of ps in
      let P : ParameterTrees → Type 0 = λ qs. FitsParameters (Parameters p qs) → parameters_height (Parameters p qs) ≤ R.limit → RunsOn (marks.parameters (Parameters p qs) more r) s → Finds (parameters R s) (Parameters p qs, more) r in
      subst P k.1 (listed_found s p k.0 more r) f l h

  pub parameters_exact : Exact parameters_then FitsSome nothing_more tallest R.limit 2 (parameters R)
  parameters_exact = exact_by parameters_then FitsSome nothing_more tallest R.limit 2 (parameters R) parameters_yields (λ s x r f l c h. parameters_found s x.0 x.1 r f.0 f.1 l h)
