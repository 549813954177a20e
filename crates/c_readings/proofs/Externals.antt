-- Readers of external declarations are exact, where those of their parts are.
use Rattle.std.proofs.Common.{◌≡◌, ◌≤◌, ◌<◌, ◌+◌, ◌-◌, ◌==◌, ◌↔◌, if◌then◌else◌, nat_lt, ℕ, zero, suc, Bool, true, false, Option, Some, None, List, [], ◌∷◌, length, refl, sym, ap, ◌∙◌, subst, arith}
use Rattle.std.proofs.lemmas.Bool.{or_left, or_right}
use Rattle.std.proofs.lemmas.Bool.Decides.{nat_tests}
use Rattle.c_ast.specs.Lexemes.{Name, Sign}
use Rattle.c_ast.specs.Marks.{Mark, Tok, Here, Reopen, IsSign, IsSpecifier, is_sign, lexemes}
use Rattle.c_ast.specs.ExprMarks as expr_marks
use Rattle.c_ast.specs.ExprMarks.{has_typedef, declared_name, is_own}
use Rattle.c_ast.specs.UnitMarks as marks
use Rattle.c_ast.specs.UnitMarks.{maybe_typedef}
use Rattle.c_ast.specs.Levels.{FitsSpecifiers, FitsMaybeSpecifiers, FitsInits, FitsDeclaration, FitsDeclarations, FitsBlock, FitsExternal, is_named}
use Rattle.c_ast.specs.Heights.{specifiers_height, maybe_specifiers_height, declarator_height, declaration_height, declarations_height, block_height, external_height, inits_height}
use Rattle.c_ast.specs.Trees.{SpecifiersTree, DeclaratorTree, Declarator, Named, Inner, Omitted, InitialiserTree, InitTree, DeclarationTree, BlockTree, Block, ExternalTree, Function, Declares, Empty}
use Rattle.c_readings.specs.Reading.{State, Read, gives, bind, answer, ask, here, tail, beyond, reopen_state, forget_state}
use Rattle.c_readings.specs.Readers.{Readers}
use Rattle.c_readings.specs.Exact.{RunsOn, Finds, IsPiece, Exact, FitsFree, nothing_more}
use Rattle.c_readings.specs.DeclarationReaders.{low_specifiers, whole_declarator, inits_behind, declarations}
use Rattle.c_readings.specs.StatementReaders.{block_inside, statement}
use Rattle.c_readings.specs.UnitReaders.{function_body, function, declares, declares_none, is_declaring, external_by, external_behind, maybe_specifiers, external}
use Rattle.c_readings.proofs.Steps.{Yields, bind_yields, if_yields, exact_yields, exact_by, yields_also, nothing_ends, nothing_stops, Takes, sign_taken, sign_yields, taken_used, iff_same, iff_then, here_iff, token_iff, asked_iff, bind_finds, if_finds_yes, if_finds_no, asked_yes, asked_no, here_is, here_finds, sign_finds, sign_next, beyond_runs, first_is_at, some_same}
use Rattle.c_readings.proofs.Operators.{or_none}
use Rattle.c_readings.proofs.Firsts.{specifier_no_sign, specifiers_next}
use Rattle.c_readings.proofs.Rounds.{nothing_exact}
use Rattle.c_readings.proofs.Parts.{declared, Parts}
use Rattle.c_readings.proofs.Declarations.{rest_of, FitsRest, rest_height}
use Rattle.c_readings.proofs.Blocks.{inside, FitsOn}

-- ---- a function's body

abbrev IsBody : ℕ → State → BlockTree → State → Type 0
IsBody n s b t = IsPiece marks.function_body FitsBlock nothing_more block_height n 1 s b t

-- its line is that of the brace
body_by : (n : ℕ) (s : State) (b : BlockTree) (t : State) → Takes s.rest (Sign 4) (tail s.rest) → IsPiece inside (FitsOn (here s)) nothing_more block_height (suc n) 1 (beyond s) b t → IsBody (suc n) s b t
body_by n s (Block l ds ss) t k h =
    let u = taken_used s.rest (tail s.rest) (Sign 4) k in
    let v = h.used in
    let w = h.low in
    record {
      fits = h.fits.1;
      low = omega arith;
      ends = nothing_ends (Block l ds ss) t.rest;
      used = omega arith;
      runs = λ r.
          let m : List Mark = inside (Block l ds ss) r in
          subst (λ j. RunsOn (Here j ∷ Tok (Sign 4) ∷ m) s ↔ RunsOn r t) (sym h.fits.0) (here_iff (Tok (Sign 4) ∷ m) s (omega arith) (token_iff (Sign 4) m s (tail s.rest) k (h.runs r)));
    }

body_found : (R : ℕ → Readers) (n : ℕ) → Parts R n → (s : State) (b : BlockTree) (r : List Mark) → FitsBlock b → block_height b ≤ suc n → RunsOn (marks.function_body b r) s → Finds (function_body R (suc n) s) b r
unfolding function_body
body_found R n p s (Block l ds ss) r f w h =
    sign_finds 4 (inside (Block l ds ss) r) r s (λ t. block_inside R n (statement R n) (here s) t) (Block l ds ss) h.1 (λ g.
    (p.block (here s)).found (beyond s) (Block l ds ss) r (sym (here_is l (Tok (Sign 4) ∷ inside (Block l ds ss) r) s h), f) (omega arith) (nothing_stops (Block l ds ss) r) g)

body_yields : (R : ℕ → Readers) (n : ℕ) → Parts R n → (s : State) → Yields (function_body R (suc n) s) (IsBody (suc n) s)
unfolding function_body
body_yields R n p s =
    sign_yields 4 s (λ t. block_inside R n (statement R n) (here s) t) (IsBody (suc n) s) (λ k.
    yields_also (block_inside R n (statement R n) (here s) (beyond s)) (IsPiece inside (FitsOn (here s)) nothing_more block_height (suc n) 1 (beyond s)) (IsBody (suc n) s) (exact_yields inside (FitsOn (here s)) nothing_more block_height (suc n) 1 (block_inside R n (statement R n) (here s)) (p.block (here s)) (beyond s)) (λ b t h.
    body_by n s b t k h))

block_height_some : (b : BlockTree) → 1 ≤ block_height b
block_height_some (Block l ds ss) = omega arith

no_body : (R : ℕ → Readers) (s : State) → function_body R zero s ≡ None
unfolding function_body
no_body R s = refl

body_exact : (R : ℕ → Readers) (n : ℕ) → ((m : ℕ) → m ≤ n → Parts R m) → Exact marks.function_body FitsBlock nothing_more block_height n 1 (function_body R n)
body_exact R zero p = nothing_exact marks.function_body FitsBlock nothing_more block_height 1 (function_body R zero) block_height_some (no_body R)
body_exact R (suc n) p =
    let q = p n (omega arith) in
    exact_by marks.function_body FitsBlock nothing_more block_height (suc n) 1 (function_body R (suc n)) (body_yields R n q) (λ s b r f w c h. body_found R n q s b r f w h)

-- ---- the tokens that tell a function from a declaration

-- behind a function's declarator comes a declaration of parameters, or its body
behind_function : (k : ℕ) → (4 == k) ≡ false → (ps : List DeclarationTree) (b : BlockTree) (r : List Mark) (s : State) → RunsOn (marks.declarations ps (marks.function_body b r)) s → answer (IsSign k) s ≡ false
behind_function k e [] (Block l ds ss) r s h = first_is_at (is_sign k) (Sign 4) (inside (Block l ds ss) r) s h.1.1 ∙ e
behind_function k e (d ∷ ds) b r s h = specifier_no_sign s.names false k (lexemes s.rest) (specifiers_next d.specifiers (marks.inits (has_typedef d.specifiers) d.declarators (marks.declarations ds (marks.function_body b r))) s h.1.1)

-- so a declaration doesn't go on there
no_declaring : (ps : List DeclarationTree) (b : BlockTree) (r : List Mark) (s : State) → RunsOn (Reopen ∷ marks.declarations ps (marks.function_body b r)) s → is_declaring s ≡ false
no_declaring ps b r s h =
    let u : State = reopen_state s in
    or_none (answer (IsSign 34) s) _ (behind_function 34 refl ps b r u h)
    (or_none (answer (IsSign 45) s) (answer (IsSign 32) s) (behind_function 45 refl ps b r u h) (behind_function 32 refl ps b r u h))

-- behind a declarator in a declaration comes `=`, a comma or `;`
does_declare : (typedef : Bool) (o : Option InitialiserTree) (is : List InitTree) (r : List Mark) (s : State) → RunsOn (marks.maybe_initialiser o (marks.more_inits typedef is r)) s → is_declaring s ≡ true
does_declare typedef (Some i) is r s h = or_left (answer (IsSign 34) s) _ (sign_next 34 (marks.initialiser i (marks.more_inits typedef is r)) s h)
does_declare typedef None [] r s h = or_right (answer (IsSign 34) s) _ (or_right (answer (IsSign 45) s) _ (sign_next 32 r s h.1))
does_declare typedef None (i ∷ is) r s h = or_right (answer (IsSign 34) s) _ (or_left (answer (IsSign 45) s) _ (sign_next 45 (marks.init typedef i (marks.more_inits typedef is r)) s h.1))

-- a declarator with a name begins with the name, `*` or `(`
named_no_sign : (k : ℕ) → (11 == k) ≡ false → (2 == k) ≡ false → (d : DeclaratorTree) (r : List Mark) (s : State) → is_named d ≡ true → RunsOn (expr_marks.declarator false true d r) s → answer (IsSign k) s ≡ false
named_no_sign k e f (Declarator l (qs ∷ ps) c ss) r s m h = first_is_at (is_sign k) (Sign 11) (expr_marks.qualifiers_then qs (expr_marks.pointers_then ps (expr_marks.core false true c (expr_marks.suffixes (is_own c) ss r)))) s h.1 ∙ e
named_no_sign k e f (Declarator l [] (Named n) ss) r s m h = first_is_at (is_sign k) (Name n) (expr_marks.suffixes true ss r) s h.1.1
named_no_sign k e f (Declarator l [] (Inner d) ss) r s m h = first_is_at (is_sign k) (Sign 2) (expr_marks.declarator false true d (Tok (Sign 3) ∷ expr_marks.suffixes (is_own (Inner d)) ss r)) s h.1.1 ∙ f
named_no_sign k e f (Declarator l [] Omitted ss) r s m h = let g : false ≡ true = m in absurd cc

-- so `;` isn't next where a declarator with a name stands
no_end : (typedef : Bool) (d : DeclaratorTree) (r : List Mark) (s : State) → is_named d ≡ true → RunsOn (declared typedef d r) s → answer (IsSign 32) s ≡ false
no_end typedef d r s m h = named_no_sign 32 refl refl d (expr_marks.put_then (declared_name d) typedef r) (forget_state s) m h

-- ---- specifiers, or none

abbrev SpecifiersTo : ℕ → State → Option SpecifiersTree → State → Type 0
SpecifiersTo n s o t = IsPiece marks.maybe_specifiers FitsMaybeSpecifiers nothing_more maybe_specifiers_height n 0 s o t

maybe_specifiers_yield : (R : ℕ → Readers) (n : ℕ) → Parts R n → (s : State) → Yields (maybe_specifiers R n s) (SpecifiersTo n s)
unfolding maybe_specifiers
maybe_specifiers_yield R n p s =
    if_yields (answer (IsSpecifier false) s) _ _ (SpecifiersTo n s)
    (λ a. bind_yields (low_specifiers R n s) _ _ (SpecifiersTo n s) (exact_yields expr_marks.specifiers FitsSpecifiers nothing_more specifiers_height n 1 (low_specifiers R n) p.specifiers s) (λ ss t h.
    record { fits = h.fits; low = h.low; ends = nothing_ends (Some ss) t.rest; used = let u = h.used in omega arith; runs = h.runs }))
    (λ a. record { fits = tt; low = omega arith; ends = nothing_ends {A = Option SpecifiersTree} None s.rest; used = omega arith; runs = λ r. asked_iff (IsSpecifier false) false r s a iff_same })

maybe_specifiers_found : (R : ℕ → Readers) (n : ℕ) → Parts R n → (s : State) (o : Option SpecifiersTree) (r : List Mark) → FitsMaybeSpecifiers o → maybe_specifiers_height o ≤ n → RunsOn (marks.maybe_specifiers o r) s → Finds (maybe_specifiers R n s) o r
unfolding maybe_specifiers
maybe_specifiers_found R n p s None r f w h = asked_no (IsSpecifier false) s _ _ None r h.0 (refl, h.1)
maybe_specifiers_found R n p s (Some ss) r f w h =
    asked_yes (IsSpecifier false) s _ _ (Some ss) r (specifiers_next ss r s h)
    (bind_finds (low_specifiers R n s) ss r r _ (Some ss) (p.specifiers.found s ss r f w (nothing_stops ss r) h) (λ t g. (refl, g)))

-- ---- external declarations

-- a lone `;` isn't the first
abbrev pub FitsAfter : Bool → ExternalTree → Type 0
FitsAfter first (Function l o d ps b) = FitsExternal (Function l o d ps b)
FitsAfter first (Declares l d) = FitsExternal (Declares l d)
FitsAfter first (Empty l) = first ≡ false

-- with their first declarator they fit
from_fits : (line : ℕ) (d : DeclaratorTree) (is : List InitTree) → FitsFree false d → FitsRest line d is → FitsInits is
from_fits line d [] g f = absurd f
from_fits line d (i ∷ is) g f = let k = subst (FitsFree false) (sym f.1) g in ((k.0, k.1, f.2), f.3)

-- with this line and declarator it is the same
same_init : (line : ℕ) (d : DeclaratorTree) (i : InitTree) → i.line ≡ line → i.declarator ≡ d → record { line = line; declarator = d; initialiser = i.initialiser } ≡ i
same_init line d i e f = ap (λ l. record { line = l; declarator = d; initialiser = i.initialiser }) (sym e) ∙ ap (λ x. record { line = i.line; declarator = x; initialiser = i.initialiser }) (sym f)

module _ (R : ℕ → Readers) (n : ℕ) (p : Parts R n) (q : Parts R (n - 1)) (body : Exact marks.function_body FitsBlock nothing_more block_height n 1 (function_body R n)) where
  abbrev IsDeclared : Bool → State → DeclaratorTree → State → Type 0
  IsDeclared typedef s d t = IsPiece (declared typedef) (FitsFree false) nothing_more declarator_height n 1 s d t

  abbrev IsExternal : Bool → State → ExternalTree → State → Type 0
  IsExternal first s x t = IsPiece marks.external (FitsAfter first) nothing_more external_height (suc n) 1 s x t

  -- ---- what is read is so

  -- from s on stand specifiers or none, behind them at t a declarator, and behind that at u a function's rest
  function_by : (first : Bool) (s : State) (o : Option SpecifiersTree) (t : State) (d : DeclaratorTree) (u : State) (ps : List DeclarationTree) (v : State) (b : BlockTree) (w : State) → SpecifiersTo n s o t → IsDeclared (maybe_typedef o) t d u → IsPiece marks.declarations FitsDeclarations nothing_more declarations_height n 0 (reopen_state u) ps v → IsBody n v b w → IsExternal first s (Function (here s) o d ps b) w
  function_by first s o t d u ps v b w h k i j =
      let hu = h.used in
      let ku = k.used in
      let iu = i.used in
      let ju = j.used in
      let hl = h.low in
      let kl = k.low in
      let il = i.low in
      let jl = j.low in
      record {
        fits = (h.fits, k.fits.0, k.fits.1, i.fits, j.fits);
        low = omega arith;
        ends = nothing_ends (Function (here s) o d ps b) w.rest;
        used = omega arith;
        runs = λ r.
            let m : List Mark = Reopen ∷ marks.declarations ps (marks.function_body b r) in
            here_iff (marks.maybe_specifiers o (declared (maybe_typedef o) d m)) s (omega arith) (iff_then (h.runs (declared (maybe_typedef o) d m)) (iff_then (k.runs m) (iff_then (i.runs (marks.function_body b r)) (j.runs r))));
      }

  function_yields : (first : Bool) (s : State) (o : Option SpecifiersTree) (t : State) (d : DeclaratorTree) (u : State) → SpecifiersTo n s o t → IsDeclared (maybe_typedef o) t d u → Yields (function R n (here s) o d u) (IsExternal first s)
  unfolding function
  function_yields first s o t d u h k =
      bind_yields (declarations R n (reopen_state u)) _ _ (IsExternal first s) (exact_yields marks.declarations FitsDeclarations nothing_more declarations_height n 0 (declarations R n) p.declarations (reopen_state u)) (λ ps v i.
      bind_yields (function_body R n v) _ _ (IsExternal first s) (exact_yields marks.function_body FitsBlock nothing_more block_height n 1 (function_body R n) body v) (λ b w j.
      function_by first s o t d u ps v b w h k i j))

  -- behind specifiers the declarators run up to u
  declares_by : (first : Bool) (s : State) (ss : SpecifiersTree) (t : State) (is : List InitTree) (u : State) → SpecifiersTo n s (Some ss) t → specifiers_height ss < n → inits_height is < n → FitsInits is → length u.rest + 1 ≤ length t.rest → ((r : List Mark) → RunsOn (marks.inits (has_typedef ss) is r) t ↔ RunsOn r u) → IsExternal first s (Declares (here s) record { line = here s; specifiers = ss; declarators = is }) u
  declares_by first s ss t is u h a b f w g =
      let x : DeclarationTree = record { line = here s; specifiers = ss; declarators = is } in
      let v = h.used in
      record {
        fits = (h.fits, f);
        low = omega (arith, a, b);
        ends = nothing_ends (Declares (here s) x) u.rest;
        used = omega arith;
        runs = λ r. here_iff (marks.declaration x r) s (omega arith) (here_iff (expr_marks.specifiers ss (marks.inits (has_typedef ss) is r)) s (omega arith) (iff_then (h.runs (marks.inits (has_typedef ss) is r)) (g r)));
      }

  declares_none_yields : (first : Bool) (s : State) (o : Option SpecifiersTree) (t : State) → answer (IsSign 32) t ≡ true → SpecifiersTo n s o t → Yields (declares_none n (here s) o (beyond t)) (IsExternal first s)
  declares_none_yields first s None t a h = tt
  declares_none_yields first s (Some ss) t a h =
      let k = sign_taken 32 t.rest a in
      let u = taken_used t.rest (tail t.rest) (Sign 32) k in
      if_yields (nat_lt (specifiers_height ss) n) _ _ (IsExternal first s)
      (λ l.
      let m : specifiers_height ss < n = grind (arith, nat_tests) in
      declares_by first s ss t [] (beyond t) h m (omega (arith, m)) tt (omega arith) (λ r. token_iff (Sign 32) r t (tail t.rest) k iff_same))
      (λ l. tt)

  -- behind a first declarator at t the others run up to u
  inits_run : (typedef : Bool) (s : State) (d : DeclaratorTree) (t : State) (is : List InitTree) (u : State) → answer (IsSign 32) s ≡ false → IsDeclared typedef s d t → IsPiece (rest_of typedef) (FitsRest (here s) d) nothing_more rest_height (n - 1) 1 t is u → (r : List Mark) → RunsOn (marks.inits typedef is r) s ↔ RunsOn r u
  inits_run typedef s d t [] u a h k r = absurd k.fits
  inits_run typedef s d t (i ∷ is) u a h k r =
      let v = h.used in
      let w = k.used in
      let m : List Mark = declared typedef d (rest_of typedef (i ∷ is) r) in
      subst (λ x. RunsOn (marks.inits typedef (x ∷ is) r) s ↔ RunsOn r u) (same_init (here s) d i k.fits.0 k.fits.1)
      (asked_iff (IsSign 32) false (Here (here s) ∷ m) s a (here_iff m s (omega arith) (iff_then (h.runs (rest_of typedef (i ∷ is) r)) (k.runs r))))

  -- with a first declarator that is low enough, and others
  inits_low : (d : DeclaratorTree) (line : ℕ) (is : List InitTree) → FitsRest line d is → declarator_height d < n → rest_height is ≤ n - 1 → inits_height is < n
  inits_low d line [] f a b = absurd f
  inits_low d line (i ∷ is) f a b =
      let c : declarator_height i.declarator < n = subst (λ x. declarator_height x < n) (sym f.1) a in
      omega (arith, b, c)

  declares_yields : (first : Bool) (s : State) (o : Option SpecifiersTree) (t : State) (d : DeclaratorTree) (u : State) → answer (IsSign 32) t ≡ false → SpecifiersTo n s o t → IsDeclared (maybe_typedef o) t d u → Yields (declares R n (here s) o (here t) d u) (IsExternal first s)
  declares_yields first s None t d u a h k = tt
  declares_yields first s (Some ss) t d u a h k =
      let typedef : Bool = has_typedef ss in
      if_yields (nat_lt (specifiers_height ss) n) _ _ (IsExternal first s)
      (λ l. if_yields (nat_lt (declarator_height d) n) _ _ (IsExternal first s)
      (λ m. bind_yields (inits_behind R (n - 1) typedef (here t) d u) _ _ (IsExternal first s) (exact_yields (rest_of typedef) (FitsRest (here t) d) nothing_more rest_height (n - 1) 1 (inits_behind R (n - 1) typedef (here t) d) (q.inits typedef (here t) d) u) (λ is v i.
      let b : specifiers_height ss < n = grind (arith, nat_tests) in
      let c : declarator_height d < n = grind (arith, nat_tests) in
      declares_by first s ss t is v h b (inits_low d (here t) is i.fits c i.low) (from_fits (here t) d is k.fits i.fits) (let x = k.used in let y = i.used in omega arith) (inits_run typedef t d u is v a k i)))
      (λ m. tt))
      (λ l. tt)

  external_by_yields : (first : Bool) (s : State) (o : Option SpecifiersTree) (t : State) (d : DeclaratorTree) (u : State) → answer (IsSign 32) t ≡ false → SpecifiersTo n s o t → IsDeclared (maybe_typedef o) t d u → Yields (external_by R n (here s) o (here t) d u) (IsExternal first s)
  unfolding external_by
  external_by_yields first s o t d u a h k =
      if_yields (is_declaring u) _ _ (IsExternal first s)
      (λ b. declares_yields first s o t d u a h k)
      (λ b. function_yields first s o t d u h k)

  external_behind_yields : (first : Bool) (s : State) (o : Option SpecifiersTree) (t : State) → SpecifiersTo n s o t → Yields (external_behind R n (here s) o t) (IsExternal first s)
  unfolding external_behind
  external_behind_yields first s o t h =
      let typedef : Bool = maybe_typedef o in
      if_yields (answer (IsSign 32) t) _ _ (IsExternal first s)
      (λ a. declares_none_yields first s o t a h)
      (λ a. bind_yields (whole_declarator R n typedef t) _ _ (IsExternal first s) (exact_yields (declared typedef) (FitsFree false) nothing_more declarator_height n 1 (whole_declarator R n typedef) (p.declarator typedef) t) (λ d u k.
      external_by_yields first s o t d u a h k))

  empty_yields : (first : Bool) (s : State) → Takes s.rest (Sign 32) (tail s.rest) → Yields (if first then None else gives (Empty (here s)) (beyond s)) (IsExternal first s)
  empty_yields first s k =
      let u = taken_used s.rest (tail s.rest) (Sign 32) k in
      if_yields first None (gives (Empty (here s)) (beyond s)) (IsExternal first s)
      (λ a. tt)
      (λ a. record {
        fits = a;
        low = omega arith;
        ends = nothing_ends (Empty (here s)) (tail s.rest);
        used = omega arith;
        runs = λ r. here_iff (Tok (Sign 32) ∷ r) s (omega arith) (token_iff (Sign 32) r s (tail s.rest) k iff_same);
      })

  external_yields : (first : Bool) (s : State) → Yields (external R (suc n) first s) (IsExternal first s)
  unfolding external
  external_yields first s =
      if_yields (answer (IsSign 32) s) _ _ (IsExternal first s)
      (λ a. empty_yields first s (sign_taken 32 s.rest a))
      (λ a. bind_yields (maybe_specifiers R n s) _ (SpecifiersTo n s) (IsExternal first s) (maybe_specifiers_yield R n p s) (λ o t h. external_behind_yields first s o t h))

  -- ---- what stands there is read

  function_found : (l : ℕ) (o : Option SpecifiersTree) (d : DeclaratorTree) (ps : List DeclarationTree) (b : BlockTree) (r : List Mark) (s : State) → FitsDeclarations ps → FitsBlock b → declarations_height ps ≤ n → block_height b ≤ n → RunsOn (Reopen ∷ marks.declarations ps (marks.function_body b r)) s → Finds (function R n l o d s) (Function l o d ps b) r
  unfolding function
  function_found l o d ps b r s f g w v h =
      let m : List Mark = marks.function_body b r in
      bind_finds (declarations R n (reopen_state s)) ps m r _ (Function l o d ps b) (p.declarations.found (reopen_state s) ps m f w (nothing_stops ps m) h) (λ t k.
      bind_finds (function_body R n t) b r r _ (Function l o d ps b) (body.found t b r g v (nothing_stops b r) k) (λ u i. (refl, i)))

  inits_found : (l : ℕ) (ss : SpecifiersTree) (i : InitTree) (is : List InitTree) (r : List Mark) (s : State) → FitsInits (i ∷ is) → declaration_height record { line = l; specifiers = ss; declarators = i ∷ is } ≤ n → RunsOn (rest_of (has_typedef ss) (i ∷ is) r) s → Finds (external_by R n l (Some ss) i.line i.declarator s) (Declares l record { line = l; specifiers = ss; declarators = i ∷ is }) r
  unfolding external_by
  inits_found l ss i is r s f w h =
      let typedef : Bool = has_typedef ss in
      let z : ExternalTree = Declares l record { line = l; specifiers = ss; declarators = i ∷ is } in
      let a : specifiers_height ss < n = omega (arith, w) in
      let b : declarator_height i.declarator < n = omega (arith, w) in
      if_finds_yes (is_declaring s) _ _ z r (does_declare typedef i.initialiser is r s h)
      (if_finds_yes (nat_lt (specifiers_height ss) n) _ _ z r (grind (arith, nat_tests))
      (if_finds_yes (nat_lt (declarator_height i.declarator) n) _ _ z r (grind (arith, nat_tests))
      (bind_finds (inits_behind R (n - 1) typedef i.line i.declarator s) (i ∷ is) r r _ z ((q.inits typedef i.line i.declarator).found s (i ∷ is) r (refl, refl, f.0.2, f.1) (omega (arith, w)) (nothing_stops (i ∷ is) r) h) (λ t g. (refl, g)))))

  declaration_found : (l : ℕ) (ss : SpecifiersTree) (is : List InitTree) (r : List Mark) (s : State) → FitsInits is → declaration_height record { line = l; specifiers = ss; declarators = is } ≤ n → RunsOn (marks.inits (has_typedef ss) is r) s → Finds (external_behind R n l (Some ss) s) (Declares l record { line = l; specifiers = ss; declarators = is }) r
  unfolding external_behind
  declaration_found l ss [] r s f w h =
      let z : ExternalTree = Declares l record { line = l; specifiers = ss; declarators = [] } in
      let a : specifiers_height ss < n = omega (arith, w) in
      asked_yes (IsSign 32) s _ _ z r (sign_next 32 r s h) (if_finds_yes (nat_lt (specifiers_height ss) n) _ _ z r (grind (arith, nat_tests)) (refl, beyond_runs (Sign 32) r s h))
  declaration_found l ss (i ∷ is) r s f w h =
      let typedef : Bool = has_typedef ss in
      let m : List Mark = rest_of typedef (i ∷ is) r in
      let z : ExternalTree = Declares l record { line = l; specifiers = ss; declarators = i ∷ is } in
      asked_no (IsSign 32) s _ _ z r h.0
      (here_finds i.line (declared typedef i.declarator m) r s (λ line. bind (whole_declarator R n typedef s) (λ d t. external_by R n l (Some ss) line d t)) z h.1 (λ k.
      bind_finds (whole_declarator R n typedef s) i.declarator m r _ z ((p.declarator typedef).found s i.declarator m (f.0.0, f.0.1) (omega arith) (nothing_stops i.declarator m) k) (λ t g.
      inits_found l ss i is r t f w g)))

  function_behind_found : (l : ℕ) (o : Option SpecifiersTree) (d : DeclaratorTree) (ps : List DeclarationTree) (b : BlockTree) (r : List Mark) (s : State) → FitsExternal (Function l o d ps b) → external_height (Function l o d ps b) ≤ suc n → RunsOn (declared (maybe_typedef o) d (Reopen ∷ marks.declarations ps (marks.function_body b r))) s → Finds (external_behind R n l o s) (Function l o d ps b) r
  unfolding external_behind external_by
  function_behind_found l o d ps b r s f w h =
      let typedef : Bool = maybe_typedef o in
      let m : List Mark = Reopen ∷ marks.declarations ps (marks.function_body b r) in
      asked_no (IsSign 32) s _ _ (Function l o d ps b) r (no_end typedef d m s f.1 h)
      (bind_finds (whole_declarator R n typedef s) d m r _ (Function l o d ps b) ((p.declarator typedef).found s d m (f.1, f.2) (omega arith) (nothing_stops d m) h) (λ t k.
      if_finds_no (is_declaring t) _ _ (Function l o d ps b) r (no_declaring ps b r t k) (function_found l o d ps b r t f.3 f.4 (omega arith) (omega arith) k)))

  -- a function begins with no `;`
  function_no_end : (o : Option SpecifiersTree) (d : DeclaratorTree) (m : List Mark) (s : State) → is_named d ≡ true → RunsOn (marks.maybe_specifiers o (declared (maybe_typedef o) d m)) s → answer (IsSign 32) s ≡ false
  function_no_end None d m s f h = no_end false d m s f h.1
  function_no_end (Some ss) d m s f h = specifier_no_sign s.names false 32 (lexemes s.rest) (specifiers_next ss (declared (has_typedef ss) d m) s h)

  -- where the line that it stands on is told
  abbrev external_at : Bool → State → ℕ → Read ExternalTree
  external_at first s line = ask (IsSign 32) s (if first then None else gives (Empty line) (beyond s)) (bind (maybe_specifiers R n s) (λ o t. external_behind R n line o t))

  function_at_found : (first : Bool) (l : ℕ) (o : Option SpecifiersTree) (d : DeclaratorTree) (ps : List DeclarationTree) (b : BlockTree) (r : List Mark) (s : State) → FitsExternal (Function l o d ps b) → external_height (Function l o d ps b) ≤ suc n → RunsOn (marks.maybe_specifiers o (declared (maybe_typedef o) d (Reopen ∷ marks.declarations ps (marks.function_body b r)))) s → Finds (external_at first s l) (Function l o d ps b) r
  function_at_found first l o d ps b r s f w h =
      let m : List Mark = Reopen ∷ marks.declarations ps (marks.function_body b r) in
      let a : List Mark = declared (maybe_typedef o) d m in
      asked_no (IsSign 32) s _ _ (Function l o d ps b) r (function_no_end o d m s f.1 h)
      (bind_finds (maybe_specifiers R n s) o a r _ (Function l o d ps b) (maybe_specifiers_found R n p s o a f.0 (omega arith) h) (λ t g.
      function_behind_found l o d ps b r t f w g))

  declares_at_found : (first : Bool) (l : ℕ) (d : DeclarationTree) (r : List Mark) (s : State) → d.line ≡ l → FitsDeclaration d → declaration_height d ≤ n → RunsOn (marks.declaration d r) s → Finds (external_at first s l) (Declares l d) r
  declares_at_found first l d r s e f w h =
      let ss : SpecifiersTree = d.specifiers in
      let m : List Mark = marks.inits (has_typedef ss) d.declarators r in
      subst (λ j. Finds (external_at first s l) (Declares l record { line = j; specifiers = ss; declarators = d.declarators }) r) (sym e)
      (asked_no (IsSign 32) s _ _ (Declares l record { line = l; specifiers = ss; declarators = d.declarators }) r (specifier_no_sign s.names false 32 (lexemes s.rest) (specifiers_next ss m s h.1))
      (bind_finds (maybe_specifiers R n s) (Some ss) m r _ (Declares l record { line = l; specifiers = ss; declarators = d.declarators }) (maybe_specifiers_found R n p s (Some ss) m f.0 (omega arith) h.1) (λ t g.
      declaration_found l ss d.declarators r t f.1 w g)))

  external_found : (first : Bool) (s : State) (x : ExternalTree) (r : List Mark) → FitsAfter first x → external_height x ≤ suc n → RunsOn (marks.external x r) s → Finds (external R (suc n) first s) x r
  unfolding external
  external_found first s (Function l o d ps b) r f w h =
      here_finds l (marks.maybe_specifiers o (declared (maybe_typedef o) d (Reopen ∷ marks.declarations ps (marks.function_body b r)))) r s (external_at first s) (Function l o d ps b) h (λ k. function_at_found first l o d ps b r s f w k)
  external_found first s (Declares l d) r f w h =
      let e : d.line ≡ l = some_same d.line l (sym h.1.0 ∙ h.0) in
      here_finds l (marks.declaration d r) r s (external_at first s) (Declares l d) h (λ k. declares_at_found first l d r s e f (omega arith) k)
  external_found first s (Empty l) r f w h =
      here_finds l (Tok (Sign 32) ∷ r) r s (external_at first s) (Empty l) h (λ k.
      asked_yes (IsSign 32) s _ _ (Empty l) r (sign_next 32 r s k) (if_finds_no first None (gives (Empty l) (beyond s)) (Empty l) r f (refl, beyond_runs (Sign 32) r s k)))

  -- one node above its parts
  above_exact : (first : Bool) → Exact marks.external (FitsAfter first) nothing_more external_height (suc n) 1 (external R (suc n) first)
  above_exact first = exact_by marks.external (FitsAfter first) nothing_more external_height (suc n) 1 (external R (suc n) first) (external_yields first) (λ s x r f w c h. external_found first s x r f w h)

external_height_some : (x : ExternalTree) → 1 ≤ external_height x
external_height_some (Function l o d ps b) = omega arith
external_height_some (Declares l d) = omega arith
external_height_some (Empty l) = omega arith

no_external : (R : ℕ → Readers) (first : Bool) (s : State) → external R zero first s ≡ None
unfolding external
no_external R first s = refl

-- first: no unit's external declaration stands before it
pub external_exact : (R : ℕ → Readers) (n : ℕ) → ((m : ℕ) → m ≤ n → Parts R m) → (first : Bool) → Exact marks.external (FitsAfter first) nothing_more external_height n 1 (external R n first)
external_exact R zero p first = nothing_exact marks.external (FitsAfter first) nothing_more external_height 1 (external R zero first) external_height_some (no_external R first)
external_exact R (suc n) p first = above_exact R n (p n (omega arith)) (p (n - 1) (omega arith)) (body_exact R n (λ m w. p m (omega arith))) first
