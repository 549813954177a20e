-- The pointers that begin a declarator, with their qualifiers, and what stands behind them.
use Rattle.std.proofs.Common.{◌≡◌, ◌≤◌, ◌==◌, ◌↔◌, if◌then◌else◌, ◌||◌, ℕ, zero, suc, Bool, true, false, Option, Some, None, List, [], ◌∷◌, length, refl, sym, ap, ◌∙◌, subst, arith}
use Rattle.c_ast.specs.declared.specifier.Qualifier.{Qualifier}
use Rattle.c_ast.specs.declared.specifier.Qualifier.TheVariants as qualifier
use Rattle.c_ast.specs.Lexemes.{Lexeme, Name, Keyword, Integer, Character, Text, Sign, Placed}
use Rattle.c_ast.specs.InForce.{InForce}
use Rattle.c_ast.specs.Operators.{qualifier_word}
use Rattle.c_ast.specs.Marks.{Mark, IsQualifier, IsSign, Runs, first_is, is_sign, is_keyword, lexemes}
use Rattle.c_ast.specs.ExprMarks.{qualifiers_then, pointers_then}
use Rattle.c_readings.specs.Reading.{State, tail}
use Rattle.c_readings.specs.Readers.{qualifier_of, qualified_by, qualifiers_on, pointers_in, pointers_on}
use Rattle.c_readings.specs.Exact.{RunsOn}
use Rattle.c_readings.proofs.Steps.{same_number, sign_taken, taken_used, past, iff_same, iff_then, token_iff, asked_iff, beyond_runs, first_is_at}

-- ---- qualifiers

-- what the two tests of a keyword give
abbrev chosen : (b c : Bool) → Option Qualifier
chosen b c = if b then Some qualifier.Const else (if c then Some qualifier.Volatile else None)

chosen_word : (b c : Bool) (k : ℕ) (q : Qualifier) → (b ≡ true → k ≡ 4) → (c ≡ true → k ≡ 30) → chosen b c ≡ Some q → k ≡ qualifier_word q
chosen_word true c k q f g h = let e : qualifier.Const ≡ q = cc in f refl ∙ ap qualifier_word e
chosen_word false true k q f g h = let e : qualifier.Volatile ≡ q = cc in g refl ∙ ap qualifier_word e
chosen_word false false k q f g h = absurd cc

none_chosen : (b c : Bool) → chosen b c ≡ None → (b || c) ≡ false
none_chosen true c h = absurd cc
none_chosen false true h = absurd cc
none_chosen false false h = refl

choose_none : (b c : Bool) → (b || c) ≡ false → chosen b c ≡ None
choose_none true c h = absurd cc
choose_none false true h = absurd cc
choose_none false false h = refl

is_qualifier : (l : Lexeme) (q : Qualifier) → qualifier_of l ≡ Some q → l ≡ Keyword (qualifier_word q)
is_qualifier (Keyword k) q h = ap Keyword (chosen_word (k == 4) (k == 30) k q (same_number k 4) (same_number k 30) h)
is_qualifier (Name n) q h = absurd cc
is_qualifier (Integer v k) q h = absurd cc
is_qualifier (Character v) q h = absurd cc
is_qualifier (Text b) q h = absurd cc
is_qualifier (Sign k) q h = absurd cc

no_qualifier : (l : Lexeme) → qualifier_of l ≡ None → (is_keyword 4 l || is_keyword 30 l) ≡ false
no_qualifier (Keyword k) h = none_chosen (k == 4) (k == 30) h
no_qualifier (Name n) h = refl
no_qualifier (Integer v k) h = refl
no_qualifier (Character v) h = refl
no_qualifier (Text b) h = refl
no_qualifier (Sign k) h = refl

not_qualifier : (l : Lexeme) → (is_keyword 4 l || is_keyword 30 l) ≡ false → qualifier_of l ≡ None
not_qualifier (Keyword k) h = choose_none (k == 4) (k == 30) h
not_qualifier (Name n) h = refl
not_qualifier (Integer v k) h = refl
not_qualifier (Character v) h = refl
not_qualifier (Text b) h = refl
not_qualifier (Sign k) h = refl

qualified_iff : (o : Option Qualifier) (t : Placed) (ts : List Placed) (more : List Qualifier × List Placed) (names : InForce) (r : List Mark) → qualifier_of t.lexeme ≡ o → (Runs (qualifiers_then more.0 r) names ts ↔ Runs r names more.1) → Runs (qualifiers_then (qualified_by o more (t ∷ ts)).0 r) names (t ∷ ts) ↔ Runs r names (qualified_by o more (t ∷ ts)).1
qualified_iff None t ts more names r e f = asked_iff IsQualifier false r record { names = names; rest = t ∷ ts } (no_qualifier t.lexeme e) iff_same
qualified_iff (Some q) t ts more names r e f =
    token_iff (Keyword (qualifier_word q)) (qualifiers_then more.0 r) record { names = names; rest = t ∷ ts } ts
    (t.line, ap (λ l. record { lexeme = l; line = t.line } ∷ ts) (is_qualifier t.lexeme q e)) f

qualifiers_iff : (ts : List Placed) (names : InForce) (r : List Mark) → Runs (qualifiers_then (qualifiers_on ts).0 r) names ts ↔ Runs r names (qualifiers_on ts).1
unfolding qualifiers_on
qualifiers_iff [] names r = asked_iff IsQualifier false r record { names = names; rest = [] } refl iff_same
qualifiers_iff (t ∷ ts) names r = qualified_iff (qualifier_of t.lexeme) t ts (qualifiers_on ts) names r refl (qualifiers_iff ts names r)

qualified_shorter : (o : Option Qualifier) (t : Placed) (ts : List Placed) (more : List Qualifier × List Placed) → length more.1 ≤ length ts → length (qualified_by o more (t ∷ ts)).1 ≤ length (t ∷ ts)
qualified_shorter None t ts more h = omega arith
qualified_shorter (Some q) t ts more h = omega arith

qualifiers_shorter : (ts : List Placed) → length (qualifiers_on ts).1 ≤ length ts
unfolding qualifiers_on
qualifiers_shorter [] = omega arith
qualifiers_shorter (t ∷ ts) = qualified_shorter (qualifier_of t.lexeme) t ts (qualifiers_on ts) (qualifiers_shorter ts)

qualifiers_found : (qs : List Qualifier) (r : List Mark) (names : InForce) (ts : List Placed) → Runs (qualifiers_then qs r) names ts → (qualifiers_on ts).0 ≡ qs
unfolding qualifiers_on
qualifiers_found [] r names [] h = refl
qualifiers_found [] r names (t ∷ ts) h = ap (λ o. (qualified_by o (qualifiers_on ts) (t ∷ ts)).0) (not_qualifier t.lexeme h.0)
qualifiers_found (qualifier.Const ∷ qs) r names ts h = ap (λ us. (qualifiers_on us).0) h.2 ∙ ap (λ xs. qualifier.Const ∷ xs) (qualifiers_found qs r names h.1 h.3)
qualifiers_found (qualifier.Volatile ∷ qs) r names ts h = ap (λ us. (qualifiers_on us).0) h.2 ∙ ap (λ xs. qualifier.Volatile ∷ xs) (qualifiers_found qs r names h.1 h.3)

-- ---- pointers

-- what is read where a `*` is next, or isn't
abbrev pointed : Bool → List Qualifier → List (List Qualifier) × List Placed → List Placed → List (List Qualifier) × List Placed
pointed b q p ts = if b then (q ∷ p.0, p.1) else ([], ts)

pointed_iff : (b : Bool) (q : List Qualifier × List Placed) (p : List (List Qualifier) × List Placed) (ts : List Placed) (names : InForce) (r : List Mark) → first_is (is_sign 11) (lexemes ts) ≡ b → (Runs (qualifiers_then q.0 (pointers_then p.0 r)) names (tail ts) ↔ Runs (pointers_then p.0 r) names q.1) → (b ≡ true → Runs (pointers_then p.0 r) names q.1 ↔ Runs r names p.1) → Runs (pointers_then (pointed b q.0 p ts).0 r) names ts ↔ Runs r names (pointed b q.0 p ts).1
pointed_iff true q p ts names r h f g = token_iff (Sign 11) (qualifiers_then q.0 (pointers_then p.0 r)) record { names = names; rest = ts } (tail ts) (sign_taken 11 ts h) (iff_then f (g refl))
pointed_iff false q p ts names r h f g = asked_iff (IsSign 11) false r record { names = names; rest = ts } h iff_same

-- behind a `*` and its qualifiers less is left
less_left : (m : ℕ) (ts : List Placed) → length ts ≤ suc m → first_is (is_sign 11) (lexemes ts) ≡ true → length (qualifiers_on (tail ts)).1 ≤ m
less_left m ts w h = let e = taken_used ts (tail ts) (Sign 11) (sign_taken 11 ts h) in let d = qualifiers_shorter (tail ts) in omega arith

pointers_iff : (m : ℕ) (ts : List Placed) (names : InForce) (r : List Mark) → length ts ≤ m → Runs (pointers_then (pointers_in m ts).0 r) names ts ↔ Runs r names (pointers_in m ts).1
unfolding pointers_in
pointers_iff zero [] names r w = asked_iff (IsSign 11) false r record { names = names; rest = [] } refl iff_same
pointers_iff zero (t ∷ ts) names r w = absurd (omega arith)
pointers_iff (suc m) ts names r w =
    pointed_iff (first_is (is_sign 11) (lexemes ts)) (qualifiers_on (tail ts)) (pointers_in m (qualifiers_on (tail ts)).1) ts names r refl
    (qualifiers_iff (tail ts) names (pointers_then (pointers_in m (qualifiers_on (tail ts)).1).0 r))
    (λ h. pointers_iff m (qualifiers_on (tail ts)).1 names r (less_left m ts w h))

pointed_shorter : (b : Bool) (q : List Qualifier) (p : List (List Qualifier) × List Placed) (ts : List Placed) → (b ≡ true → length p.1 ≤ length ts) → length (pointed b q p ts).1 ≤ length ts
pointed_shorter true q p ts h = h refl
pointed_shorter false q p ts h = omega arith

pointers_shorter : (m : ℕ) (ts : List Placed) → length (pointers_in m ts).1 ≤ length ts
unfolding pointers_in
pointers_shorter zero ts = omega arith
pointers_shorter (suc m) ts =
    pointed_shorter (first_is (is_sign 11) (lexemes ts)) (qualifiers_on (tail ts)).0 (pointers_in m (qualifiers_on (tail ts)).1) ts (λ h.
    let e = taken_used ts (tail ts) (Sign 11) (sign_taken 11 ts h) in
    let d = qualifiers_shorter (tail ts) in
    let g = pointers_shorter m (qualifiers_on (tail ts)).1 in omega arith)

pointers_found : (m : ℕ) (ps : List (List Qualifier)) (r : List Mark) (names : InForce) (ts : List Placed) → length ts ≤ m → Runs (pointers_then ps r) names ts → (pointers_in m ts).0 ≡ ps
unfolding pointers_in
pointers_found zero [] r names ts w h = refl
pointers_found zero (qs ∷ ps) r names ts w h = let e = taken_used ts h.1 (Sign 11) (h.0, h.2) in absurd (omega arith)
pointers_found (suc m) [] r names ts w h = ap (λ b. (pointed b (qualifiers_on (tail ts)).0 (pointers_in m (qualifiers_on (tail ts)).1) ts).0) h.0
pointers_found (suc m) (qs ∷ ps) r names ts w h =
    let s : State = record { names = names; rest = ts } in
    let a : first_is (is_sign 11) (lexemes ts) ≡ true = first_is_at (is_sign 11) (Sign 11) (qualifiers_then qs (pointers_then ps r)) s h in
    let g = beyond_runs (Sign 11) (qualifiers_then qs (pointers_then ps r)) s h in
    let q = qualifiers_found qs (pointers_then ps r) names (tail ts) g in
    let k = (qualifiers_iff (tail ts) names (pointers_then ps r)).0 (subst (λ xs. Runs (qualifiers_then xs (pointers_then ps r)) names (tail ts)) (sym q) g) in
    ap (λ b. (pointed b (qualifiers_on (tail ts)).0 (pointers_in m (qualifiers_on (tail ts)).1) ts).0) a
    ∙ ap (λ xs. xs ∷ (pointers_in m (qualifiers_on (tail ts)).1).0) q
    ∙ ap (λ xs. qs ∷ xs) (pointers_found m ps r names (qualifiers_on (tail ts)).1 (less_left m ts w a) k)

-- the pointers that are read stand there
pub pointers_run : (s : State) (r : List Mark) → RunsOn (pointers_then (pointers_on s.rest).0 r) s ↔ RunsOn r (past s (pointers_on s.rest).1)
pointers_run s r = pointers_iff (length s.rest) s.rest s.names r (omega arith)

pub pointers_used : (ts : List Placed) → length (pointers_on ts).1 ≤ length ts
pointers_used ts = pointers_shorter (length ts) ts

-- those that stand there are read
pub pointers_read : (ps : List (List Qualifier)) (r : List Mark) (s : State) → RunsOn (pointers_then ps r) s → ((pointers_on s.rest).0 ≡ ps) × RunsOn r (past s (pointers_on s.rest).1)
pointers_read ps r s h =
    let e = pointers_found (length s.rest) ps r s.names s.rest (omega arith) h in
    (e, (pointers_run s r).0 (subst (λ xs. RunsOn (pointers_then xs r) s) (sym e) h))
