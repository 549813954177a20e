-- Readers of declarators are exact.
use Rattle.std.proofs.Common.{◌≡◌, ◌≤◌, ◌==◌, ◌↔◌, ◌&&◌, not, ℕ, suc, Bool, true, false, Some, None, List, [], ◌∷◌, length, refl, ap, ◌∙◌, subst, arith}
use Rattle.c_ast.specs.declared.specifier.Qualifier.{Qualifier}
use Rattle.c_ast.specs.Lexemes.{Lexeme, Name, Keyword, Integer, Character, Text, Sign, Placed}
use Rattle.c_ast.specs.Marks.{Mark, Tok, IsCore, next_line}
use Rattle.c_ast.specs.ExprMarks as marks
use Rattle.c_ast.specs.ExprMarks.{is_own}
use Rattle.c_ast.specs.Levels.{FitsParameter, FitsCore, FitsSuffixes, has_name}
use Rattle.c_ast.specs.Heights.{declarator_height, core_height, suffixes_height, parameter_height}
use Rattle.c_ast.specs.Trees.{DeclaratorTree, Declarator, CoreTree, Named, Inner, Omitted, SuffixTrees}
use Rattle.c_readings.specs.Reading.{State, Read, gives, answer, here, tail, beyond, with_first}
use Rattle.c_readings.specs.Readers.{Readers, parameter, pointers_on, core_by, core, suffixes, declarator_behind, declarator_above}
use Rattle.c_readings.specs.Exact.{RunsOn, Finds, IsPiece, Exact, AreExact, FitsFree, nothing_more, where_left}
use Rattle.c_readings.proofs.Steps.{same_number, Yields, yields, exact_by, nothing_ends, nothing_stops, read_so, bind_yields, if_yields, first_yields, sign_yields, Takes, past, taken_used, iff_same, iff_then, here_iff, token_iff, asked_iff, bind_finds, if_finds_yes, if_finds_no, first_finds, here_finds, sign_finds, is_left}
use Rattle.c_readings.proofs.Pointers.{pointers_run, pointers_used, pointers_read}
use Rattle.c_readings.proofs.ParameterLists.{not_it}
use Rattle.c_readings.proofs.Suffixes.{suffixes_exact}

-- ---- where a token is left

left_yields : {A : Type 0} (ts : List Placed) (o : Read A) (Q : A → State → Type 0) → (1 ≤ length ts → Yields o Q) → Yields (where_left ts o) Q
left_yields [] o Q h = tt
left_yields (t ∷ ts) o Q h = h (omega arith)

left_found : {A : Type 0} (ts : List Placed) (o : Read A) (x : A) (r : List Mark) → Finds (where_left ts o) x r → Finds o x r
left_found [] o x r f = absurd f
left_found (t ∷ ts) o x r f = f

found_left : {A : Type 0} (ts : List Placed) (l : ℕ) (o : Read A) (x : A) (r : List Mark) → next_line ts ≡ Some l → Finds o x r → Finds (where_left ts o) x r
found_left [] l o x r h f = absurd cc
found_left (t ∷ ts) l o x r h f = f

-- ---- the declared name

abbrev FitsCoreFree : Bool → CoreTree → Type 0
FitsCoreFree true c = FitsCore c
FitsCoreFree false c = (has_name c ≡ true) × FitsCore c

named_fits : (free : Bool) (n : List ℕ) → FitsCoreFree free (Named n)
named_fits true n = tt
named_fits false n = (refl, tt)

inner_fits : (free : Bool) (d : DeclaratorTree) → FitsFree free d → FitsCoreFree free (Inner d)
inner_fits true d f = f
inner_fits false d f = f

asked_then_iff : {X : Type 0} (free b : Bool) (m : List Mark) (s : State) → (free ≡ true → answer IsCore s ≡ b) → (RunsOn m s ↔ X) → (RunsOn (marks.asked_then free b m) s ↔ X)
asked_then_iff true b m s h f = asked_iff IsCore b m s (h refl) f
asked_then_iff false b m s h f = f

it_is : (b : Bool) → not b ≡ false → b ≡ true
it_is true h = refl
it_is false h = absurd cc

module _ (R : Readers) (e : AreExact R) where
  abbrev IsCoreAt : Bool → Bool → State → CoreTree → State → Type 0
  IsCoreAt free outer s c t = IsPiece (marks.core free outer) (FitsCoreFree free) nothing_more core_height R.limit 0 s c t

  abbrev IsInner : Bool → Bool → State → DeclaratorTree → State → Type 0
  IsInner free outer s d t = IsPiece (marks.declarator free outer) (FitsFree free) nothing_more declarator_height R.limit 0 s d t

  -- a declarator behind which a token is left
  inner_yields : (free outer : Bool) (s : State) → Yields (R.declarator free outer s) (λ d t. 1 ≤ length t.rest → IsInner free outer s d t)
  inner_yields free outer s =
      yields (R.declarator free outer s) _ (λ d t k w.
      let n = e.no_longer free outer s d t k in
      (e.declarator free outer).piece s d t (is_left s.rest (R.declarator free outer s) (omega arith) ∙ k))

  inner_piece : (free outer : Bool) (s : State) (us : List Placed) (d : DeclaratorTree) (t : State) → (free ≡ true → answer IsCore s ≡ true) → Takes s.rest (Sign 2) us → IsInner free outer (past s us) d t → Takes t.rest (Sign 3) (tail t.rest) → IsCoreAt free outer s (Inner d) (beyond t)
  inner_piece free outer s us d t a k h j =
      let u = taken_used s.rest us (Sign 2) k in
      let v = taken_used t.rest (tail t.rest) (Sign 3) j in
      let w = h.used in record {
        fits = inner_fits free d h.fits;
        low = h.low;
        ends = nothing_ends (Inner d) (tail t.rest);
        used = omega arith;
        runs = λ r.
            asked_then_iff free true (Tok (Sign 2) ∷ marks.declarator free outer d (Tok (Sign 3) ∷ r)) s a
            (token_iff (Sign 2) (marks.declarator free outer d (Tok (Sign 3) ∷ r)) s us k
            (iff_then (h.runs (Tok (Sign 3) ∷ r)) (token_iff (Sign 3) r t (tail t.rest) j iff_same)));
      }

  core_by_yields : (free outer : Bool) (l : Lexeme) (s : State) (us : List Placed) → (free ≡ true → answer IsCore s ≡ true) → Takes s.rest l us → Yields (core_by R free outer l (past s us)) (IsCoreAt free outer s)
  core_by_yields free outer (Name n) s us a k =
      let u = taken_used s.rest us (Name n) k in record {
        fits = named_fits free n;
        low = omega arith;
        ends = nothing_ends (Named n) us;
        used = omega arith;
        runs = λ r. asked_then_iff free true (Tok (Name n) ∷ r) s a (token_iff (Name n) r s us k iff_same);
      }
  core_by_yields free outer (Sign j) s us a k =
      if_yields (j == 2) _ None (IsCoreAt free outer s)
      (λ b. bind_yields (R.declarator free outer (past s us)) _ (λ d t. 1 ≤ length t.rest → IsInner free outer (past s us) d t) (IsCoreAt free outer s) (inner_yields free outer (past s us)) (λ d t h.
      sign_yields 3 t (λ u. gives (Inner d) u) (IsCoreAt free outer s) (λ i.
      let u = taken_used t.rest (tail t.rest) (Sign 3) i in
      inner_piece free outer s us d t a (subst (λ n. Takes s.rest (Sign n) us) (same_number j 2 b) k) (h (omega arith)) i)))
      (λ b. tt)
  core_by_yields free outer (Keyword j) s us a k = tt
  core_by_yields free outer (Integer v j) s us a k = tt
  core_by_yields free outer (Character v) s us a k = tt
  core_by_yields free outer (Text b) s us a k = tt

  core_yields : (free outer : Bool) (s : State) → Yields (core R free outer s) (IsCoreAt free outer s)
  unfolding core
  core_yields true outer s =
      if_yields (not (answer IsCore s)) _ _ (IsCoreAt true outer s)
      (λ a. record {
        fits = tt;
        low = omega arith;
        ends = nothing_ends Omitted s.rest;
        used = omega arith;
        runs = λ r. asked_iff IsCore false r s (not_it (answer IsCore s) a) iff_same;
      })
      (λ a. first_yields s (core_by R true outer) (IsCoreAt true outer s) (λ l us k. core_by_yields true outer l s us (λ b. it_is (answer IsCore s) a) k))
  core_yields false outer s = first_yields s (core_by R false outer) (IsCoreAt false outer s) (λ l us k. core_by_yields false outer l s us (λ b. absurd cc) k)

  inner_found : (free outer : Bool) (d : DeclaratorTree) (r : List Mark) (s : State) → FitsFree free d → declarator_height d ≤ R.limit → RunsOn (Tok (Sign 2) ∷ marks.declarator free outer d (Tok (Sign 3) ∷ r)) s → Finds (with_first s (core_by R free outer)) (Inner d) r
  inner_found free outer d r s f w h =
      let m : List Mark = Tok (Sign 3) ∷ r in
      first_finds (Sign 2) (marks.declarator free outer d m) r s (core_by R free outer) (Inner d) h (λ t g.
      bind_finds (R.declarator free outer t) d m r _ (Inner d) (left_found t.rest (R.declarator free outer t) d m ((e.declarator free outer).found t d m f w (nothing_stops d m) g)) (λ u k.
      sign_finds 3 r r u (λ v. gives (Inner d) v) (Inner d) k (λ i. (refl, i))))

  core_found : (free outer : Bool) (c : CoreTree) (r : List Mark) (s : State) → FitsCoreFree free c → core_height c ≤ R.limit → RunsOn (marks.core free outer c r) s → Finds (core R free outer s) c r
  unfolding core
  core_found true outer (Named n) r s f w h = if_finds_no (not (answer IsCore s)) _ _ (Named n) r (ap not h.0) (first_finds (Name n) r r s (core_by R true outer) (Named n) h.1 (λ t g. (refl, g)))
  core_found false outer (Named n) r s f w h = first_finds (Name n) r r s (core_by R false outer) (Named n) h (λ t g. (refl, g))
  core_found true outer (Inner d) r s f w h = if_finds_no (not (answer IsCore s)) _ _ (Inner d) r (ap not h.0) (inner_found true outer d r s f w h.1)
  core_found false outer (Inner d) r s f w h = inner_found false outer d r s f w h
  core_found true outer Omitted r s f w h = if_finds_yes (not (answer IsCore s)) _ _ Omitted r (ap not h.0) (refl, h.1)
  core_found false outer Omitted r s f w h = let k : false ≡ true = f.0 in absurd cc

-- ---- declarators

fits_so : (free : Bool) (l : ℕ) (ps : List (List Qualifier)) (c : CoreTree) (ss : SuffixTrees) → FitsCoreFree free c → FitsSuffixes ss → FitsFree free (Declarator l ps c ss)
fits_so true l ps c ss f g = (f, g)
fits_so false l ps c ss f g = (f.0, (f.1, g))

core_fits : (free : Bool) (l : ℕ) (ps : List (List Qualifier)) (c : CoreTree) (ss : SuffixTrees) → FitsFree free (Declarator l ps c ss) → FitsCoreFree free c × FitsSuffixes ss
core_fits true l ps c ss f = f
core_fits false l ps c ss f = ((f.0, f.1.0), f.1.1)

module _ (R : Readers) (e : AreExact R) (p : Exact marks.parameter FitsParameter nothing_more parameter_height R.limit 1 (parameter R)) where
  abbrev IsDeclarator : Bool → Bool → State → DeclaratorTree → State → Type 0
  IsDeclarator free outer s x t = IsPiece (marks.declarator free outer) (FitsFree free) nothing_more declarator_height (suc R.limit) 0 s x t

  above_yields : (free outer : Bool) (s : State) → Yields (declarator_above R free outer s) (λ x t. (length t.rest ≤ length s.rest) × (1 ≤ length s.rest → IsDeclarator free outer s x t))
  unfolding declarator_above
  above_yields free outer s =
      let ps = (pointers_on s.rest).0 in
      let v = past s (pointers_on s.rest).1 in
      let Q : DeclaratorTree → State → Type 0 = λ x t. (length t.rest ≤ length s.rest) × (1 ≤ length s.rest → IsDeclarator free outer s x t) in
      bind_yields (core R free outer v) _ (IsCoreAt R e free outer v) Q (core_yields R e free outer v) (λ c t h.
      let own = outer && is_own c in
      bind_yields (suffixes R own t) _ (IsPiece (marks.suffixes own) FitsSuffixes nothing_more suffixes_height R.limit 0 t) Q (yields (suffixes R own t) _ ((suffixes_exact R e p own).piece t)) (λ ss u k.
      let a = pointers_used s.rest in
      let b = h.used in
      let d = k.used in
      let i = h.low in
      let j = k.low in (
        omega arith,
        λ w. record {
          fits = fits_so free (here s) ps c ss h.fits k.fits;
          low = omega arith;
          ends = nothing_ends (Declarator (here s) ps c ss) u.rest;
          used = omega arith;
          runs = λ r.
              here_iff (marks.pointers_then ps (marks.core free outer c (marks.suffixes own ss r))) s w
              (iff_then (pointers_run s (marks.core free outer c (marks.suffixes own ss r)))
              (iff_then (h.runs (marks.suffixes own ss r)) (k.runs r)));
        },
      )))

  above_found : (free outer : Bool) (x : DeclaratorTree) (r : List Mark) (s : State) → FitsFree free x → declarator_height x ≤ suc R.limit → RunsOn (marks.declarator free outer x r) s → Finds (where_left s.rest (declarator_above R free outer s)) x r
  unfolding declarator_above
  above_found free outer (Declarator l ps c ss) r s f w h =
      let own = outer && is_own c in
      let m = marks.core free outer c (marks.suffixes own ss r) in
      let z = Declarator l ps c ss in
      let g = core_fits free l ps c ss f in
      found_left s.rest l (declarator_above R free outer s) z r h.0
      (here_finds l (marks.pointers_then ps m) r s (λ line. declarator_behind R free outer line (pointers_on s.rest) s.names) z h (λ k.
      let q = pointers_read ps m s k in
      bind_finds (core R free outer (past s (pointers_on s.rest).1)) c (marks.suffixes own ss r) r _ z (core_found R e free outer c (marks.suffixes own ss r) (past s (pointers_on s.rest).1) g.0 (omega arith) q.1) (λ t i.
      bind_finds (suffixes R own t) ss r r _ z ((suffixes_exact R e p own).found t ss r g.1 (omega arith) (nothing_stops ss r) i) (λ u j.
      (ap (λ xs. Declarator l xs c ss) q.0, j)))))

  pub declarator_above_exact : (free outer : Bool) → Exact (marks.declarator free outer) (FitsFree free) nothing_more declarator_height (suc R.limit) 0 (λ s. where_left s.rest (declarator_above R free outer s))
  declarator_above_exact free outer =
      exact_by (marks.declarator free outer) (FitsFree free) nothing_more declarator_height (suc R.limit) 0 (λ s. where_left s.rest (declarator_above R free outer s))
      (λ s. left_yields s.rest (declarator_above R free outer s) (IsDeclarator free outer s) (λ w.
      yields (declarator_above R free outer s) _ (λ x t k. (read_so (declarator_above R free outer s) _ x t (above_yields free outer s) k).1 w)))
      (λ s x r f w c h. above_found free outer x r s f w h)

  pub declarator_above_no_longer : (free outer : Bool) (s : State) (x : DeclaratorTree) (t : State) → declarator_above R free outer s ≡ Some (x, t) → length t.rest ≤ length s.rest
  declarator_above_no_longer free outer s x t k = (read_so (declarator_above R free outer s) _ x t (above_yields free outer s) k).0
