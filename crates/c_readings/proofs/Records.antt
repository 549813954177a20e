-- Readers of members of records are exact.
use Rattle.std.proofs.Common.{◌≡◌, ◌≤◌, ◌+◌, ℕ, Bool, true, false, not, None, List, [], ◌∷◌, length, refl, sym, ap, ◌∙◌, subst, arith}
use Rattle.c_ast.specs.Lexemes.{Lexeme, Sign, Placed}
use Rattle.c_ast.specs.Marks.{Mark, Tok, IsSign, IsDeclarator, is_sign, lexemes}
use Rattle.c_ast.specs.ExprMarks as marks
use Rattle.c_ast.specs.Trees.{ExprTree, MaybeExpr, NoExpr, AnExpr, FieldTree, Field, FieldTrees, NoFields, Fields, MemberTree, Members, MemberTrees, NoMembers, MoreMembers, DeclaratorTree, MaybeDeclarator, NoDeclarator, ADeclarator}
use Rattle.c_ast.specs.Views.{fields_of, members_of}
use Rattle.c_ast.specs.Levels.{IsSome, FitsMaybe, FitsNamed, FitsField, FitsFields, OneField, OneOfBoth, FitsMember, FitsMembers, OneMember}
use Rattle.c_ast.specs.Heights.{maybe_height, maybe_declarator_height, declarator_height, field_height, fields_height, member_height, members_height}
use Rattle.c_ast.specs.Reach.{goes_on}
use Rattle.c_readings.specs.Reading.{State, Read, gives, answer, here, beyond, tail, all_of}
use Rattle.c_readings.specs.Readers.{Readers, piece_behind, maybe_declarator, one_of_both, some_commas, field, fields, members}
use Rattle.c_readings.specs.Exact.{RunsOn, Finds, Ends, Stops, IsPiece, Exact, AreExact, FitsFree, nothing_more}
use Rattle.c_readings.proofs.Steps.{Yields, yields, bind_yields, if_yields, both_yield, exact_yields, exact_by, nothing_ends, nothing_stops, Takes, sign_taken, sign_yields, taken_used, some_left, iff_same, iff_then, iff_path, here_iff, token_iff, asked_iff, bind_finds, if_finds_yes, asked_yes, asked_no, here_is, sign_finds, sign_next, beyond_runs, first_is_at, is_left}
use Rattle.c_readings.proofs.Lists.{Every, Fit, IsBegun, begun, listed, row, IsRow, some_commas_yields, some_commas_finds, last_stops, row_yields, row_finds}
use Rattle.c_readings.proofs.Operators.{Closer, closer, stops}
use Rattle.c_readings.proofs.Firsts.{specifier_no_sign, specifiers_next}

-- ---- an expression behind a sign

-- the next token goes on from the expression, if there is one
abbrev pub maybe_goes_on : MaybeExpr → Lexeme → Bool
maybe_goes_on NoExpr l = false
maybe_goes_on (AnExpr e) l = goes_on 2 e l

abbrev pub FitsBehind : MaybeExpr → Type 0
FitsBehind w = FitsMaybe w 2

abbrev pub IsBehind : Readers → ℕ → State → MaybeExpr → State → Type 0
IsBehind R k s w t = IsPiece (marks.expr_behind k) FitsBehind maybe_goes_on maybe_height R.limit 0 s w t

none_ends : (ts : List Placed) → Ends maybe_goes_on NoExpr ts
none_ends [] = tt
none_ends (t ∷ ts) = refl

an_expr_ends : (e : ExprTree) (ts : List Placed) → Ends (goes_on 2) e ts → Ends maybe_goes_on (AnExpr e) ts
an_expr_ends e [] h = tt
an_expr_ends e (t ∷ ts) h = h

behind_yields : (R : Readers) → AreExact R → (k : ℕ) (s : State) → Yields (piece_behind R k s) (IsBehind R k s)
unfolding piece_behind
behind_yields R e k s =
    if_yields (answer (IsSign k) s) _ _ (IsBehind R k s)
    (λ a. bind_yields (R.piece 2 (beyond s)) _ _ _ (exact_yields marks.expr _ (goes_on 2) _ R.limit 1 (R.piece 2) (e.piece 2 (omega arith) (omega arith)) (beyond s)) (λ x t h. record {
      fits = h.fits;
      low = h.low;
      ends = an_expr_ends x t.rest h.ends;
      used = let u = taken_used s.rest (tail s.rest) (Sign k) (sign_taken k s.rest a) in let v = h.used in omega arith;
      runs = λ r. token_iff (Sign k) (marks.expr x r) s (tail s.rest) (sign_taken k s.rest a) (h.runs r);
    }))
    (λ a. record { fits = tt; low = omega arith; ends = none_ends s.rest; used = omega arith; runs = λ r. asked_iff (IsSign k) false r s a iff_same })

behind_found : (R : Readers) → AreExact R → (k : ℕ) (s : State) (w : MaybeExpr) (r : List Mark) → FitsBehind w → maybe_height w ≤ R.limit → Stops maybe_goes_on w r → RunsOn (marks.expr_behind k w r) s → Finds (piece_behind R k s) w r
unfolding piece_behind
behind_found R e k s NoExpr r f l c h = asked_no (IsSign k) s _ _ NoExpr r h.0 (refl, h.1)
behind_found R e k s (AnExpr x) r f l c h =
    asked_yes (IsSign k) s _ _ (AnExpr x) r (sign_next k (marks.expr x r) s h)
    (bind_finds (R.piece 2 (beyond s)) x r r _ (AnExpr x) ((e.piece 2 (omega arith) (omega arith)).found (beyond s) x r f l c (beyond_runs (Sign k) (marks.expr x r) s h)) (λ u i. (refl, i)))

pub piece_behind_exact : (R : Readers) → AreExact R → (k : ℕ) → Exact (marks.expr_behind k) FitsBehind maybe_goes_on maybe_height R.limit 0 (piece_behind R k)
piece_behind_exact R e k = exact_by (marks.expr_behind k) FitsBehind maybe_goes_on maybe_height R.limit 0 (piece_behind R k) (behind_yields R e k) (behind_found R e k)

-- an operator is not next
pub maybe_stops : (w : MaybeExpr) (r : List Mark) → Closer r → Stops maybe_goes_on w r
maybe_stops NoExpr r c = λ l h. refl
maybe_stops (AnExpr e) r c = stops e 2 r c

-- ---- a declarator that may be left out

abbrev pub MaybeFits : Bool → MaybeDeclarator → Type 0
MaybeFits free NoDeclarator = Unit {0}
MaybeFits free (ADeclarator d) = FitsFree free d

abbrev pub IsMaybe : Readers → Bool → State → MaybeDeclarator → State → Type 0
IsMaybe R free s d t = IsPiece (marks.maybe_declarator free) (MaybeFits free) nothing_more maybe_declarator_height R.limit 0 s d t

declarator_yields : (R : Readers) → AreExact R → (free : Bool) (s : State) → 1 ≤ length s.rest → Yields (R.declarator free false s) (IsPiece (marks.declarator free false) (FitsFree free) nothing_more declarator_height R.limit 0 s)
declarator_yields R e free s h = yields (R.declarator free false s) _ (λ x t k. (e.declarator free false).piece s x t (is_left s.rest (R.declarator free false s) h ∙ k))

declarator_found : (R : Readers) → AreExact R → (free : Bool) (s : State) (d : DeclaratorTree) (r : List Mark) → 1 ≤ length s.rest → FitsFree free d → declarator_height d ≤ R.limit → RunsOn (marks.declarator free false d r) s → Finds (R.declarator free false s) d r
declarator_found R e free s d r h f l k = subst (λ o. Finds o d r) (is_left s.rest (R.declarator free false s) h) ((e.declarator free false).found s d r f l (nothing_stops d r) k)

maybe_yields : (R : Readers) → AreExact R → (free : Bool) (s : State) → Yields (maybe_declarator R free s) (IsMaybe R free s)
unfolding maybe_declarator
maybe_yields R e free s =
    if_yields (answer IsDeclarator s) _ _ (IsMaybe R free s)
    (λ a. bind_yields (R.declarator free false s) _ _ _ (declarator_yields R e free s (some_left _ s.rest a)) (λ x t h. record {
      fits = h.fits;
      low = h.low;
      ends = nothing_ends (ADeclarator x) t.rest;
      used = h.used;
      runs = λ r. asked_iff IsDeclarator true (marks.declarator free false x r) s a (h.runs r);
    }))
    (λ a. record { fits = tt; low = omega arith; ends = nothing_ends NoDeclarator s.rest; used = omega arith; runs = λ r. asked_iff IsDeclarator false r s a iff_same })

maybe_found : (R : Readers) → AreExact R → (free : Bool) (s : State) (d : MaybeDeclarator) (r : List Mark) → MaybeFits free d → maybe_declarator_height d ≤ R.limit → RunsOn (marks.maybe_declarator free d r) s → Finds (maybe_declarator R free s) d r
unfolding maybe_declarator
maybe_found R e free s NoDeclarator r f l h = asked_no IsDeclarator s _ _ NoDeclarator r h.0 (refl, h.1)
maybe_found R e free s (ADeclarator d) r f l h =
    asked_yes IsDeclarator s _ _ (ADeclarator d) r h.0
    (bind_finds (R.declarator free false s) d r r _ (ADeclarator d) (declarator_found R e free s d r (some_left _ s.rest h.0) f l h.1) (λ u i. (refl, i)))

pub maybe_declarator_exact : (R : Readers) → AreExact R → (free : Bool) → Exact (marks.maybe_declarator free) (MaybeFits free) nothing_more maybe_declarator_height R.limit 0 (maybe_declarator R free)
maybe_declarator_exact R e free = exact_by (marks.maybe_declarator free) (MaybeFits free) nothing_more maybe_declarator_height R.limit 0 (maybe_declarator R free) (maybe_yields R e free) (λ s d r f l c h. maybe_found R e free s d r f l h)

-- ---- fields

abbrev pub field_goes_on : FieldTree → Lexeme → Bool
field_goes_on (Field l d w) t = maybe_goes_on w t

abbrev pub IsField : Readers → State → FieldTree → State → Type 0
IsField R s x t = IsPiece marks.field FitsField field_goes_on field_height R.limit 0 s x t

-- a token is there where one of them is
abbrev pub DeclaratorLeft : State → MaybeDeclarator → State → Type 0
DeclaratorLeft s NoDeclarator t = Unit {0}
DeclaratorLeft s (ADeclarator d) t = 1 ≤ length s.rest

abbrev pub ExprLeft : State → MaybeExpr → State → Type 0
ExprLeft s NoExpr t = Unit {0}
ExprLeft s (AnExpr e) t = 1 ≤ length s.rest

any_yields : {A : Type 0} (o : Read A) (P : A → State → Type 0) → ((x : A) (t : State) → P x t) → Yields o P
any_yields o P h = yields o P (λ x t e. h x t)

declarator_left : (R : Readers) (s : State) → Yields (maybe_declarator R false s) (DeclaratorLeft s)
unfolding maybe_declarator
declarator_left R s =
    if_yields (answer IsDeclarator s) _ _ (DeclaratorLeft s)
    (λ a. bind_yields (R.declarator false false s) _ (λ x t. Unit {0}) _ (any_yields _ _ (λ x t. tt)) (λ x t h. some_left _ s.rest a))
    (λ a. tt)

expr_left : (R : Readers) (k : ℕ) (s : State) → Yields (piece_behind R k s) (ExprLeft s)
unfolding piece_behind
expr_left R k s =
    if_yields (answer (IsSign k) s) _ _ (ExprLeft s)
    (λ a. bind_yields (R.piece 2 (beyond s)) _ (λ x t. Unit {0}) _ (any_yields _ _ (λ x t. tt)) (λ x t h. some_left _ s.rest a))
    (λ a. tt)

field_left : (d : MaybeDeclarator) (w : MaybeExpr) (s t u : State) → one_of_both d w ≡ true → length t.rest + 0 ≤ length s.rest → DeclaratorLeft s d t → ExprLeft t w u → 1 ≤ length s.rest
field_left NoDeclarator NoExpr s t u b h k m = absurd cc
field_left NoDeclarator (AnExpr e) s t u b h k m = omega arith
field_left (ADeclarator d) w s t u b h k m = k

fits_named : (d : MaybeDeclarator) → MaybeFits false d → FitsNamed d
fits_named NoDeclarator f = tt
fits_named (ADeclarator d) f = f

named_fits : (d : MaybeDeclarator) → FitsNamed d → MaybeFits false d
named_fits NoDeclarator f = tt
named_fits (ADeclarator d) f = f

one_is : (d : MaybeDeclarator) (w : MaybeExpr) → one_of_both d w ≡ true → OneOfBoth d w
one_is NoDeclarator NoExpr h = absurd cc
one_is NoDeclarator (AnExpr e) h = tt
one_is (ADeclarator d) w h = tt

is_one : (d : MaybeDeclarator) (w : MaybeExpr) → OneOfBoth d w → one_of_both d w ≡ true
is_one NoDeclarator NoExpr h = absurd h
is_one NoDeclarator (AnExpr e) h = refl
is_one (ADeclarator d) w h = refl

field_by : (R : Readers) (s : State) (d : MaybeDeclarator) (t : State) (w : MaybeExpr) (u : State) → IsMaybe R false s d t → IsBehind R 31 t w u → one_of_both d w ≡ true → 1 ≤ length s.rest → IsField R s (Field (here s) d w) u
field_by R s d t w u h k b l =
    let hu = h.used in
    let ku = k.used in
    let hl = h.low in
    let kl = k.low in
    record {
      fits = (one_is d w b, fits_named d h.fits, k.fits);
      low = omega arith;
      ends = k.ends;
      used = omega arith;
      runs = λ r. here_iff (marks.maybe_declarator false d (marks.expr_behind 31 w r)) s l (iff_then (h.runs (marks.expr_behind 31 w r)) (k.runs r));
    }

field_yields : (R : Readers) → AreExact R → (s : State) → Yields (field R s) (IsField R s)
unfolding field
field_yields R e s =
    bind_yields (maybe_declarator R false s) _ _ _ (both_yield _ _ _ (maybe_yields R e false s) (declarator_left R s)) (λ d t h.
    bind_yields (piece_behind R 31 t) _ _ _ (both_yield _ _ _ (behind_yields R e 31 t) (expr_left R 31 t)) (λ w u k.
    if_yields (one_of_both d w) _ _ (IsField R s) (λ b. field_by R s d t w u h.0 k.0 b (field_left d w s t u b h.0.used h.1 k.1)) (λ b. tt)))

field_found : (R : Readers) → AreExact R → (s : State) (x : FieldTree) (r : List Mark) → FitsField x → field_height x ≤ R.limit → Stops field_goes_on x r → RunsOn (marks.field x r) s → Finds (field R s) x r
unfolding field
field_found R e s (Field l d w) r f v c h =
    let line = here_is l (marks.maybe_declarator false d (marks.expr_behind 31 w r)) s h in
    bind_finds (maybe_declarator R false s) d (marks.expr_behind 31 w r) r _ (Field l d w) (maybe_found R e false s d (marks.expr_behind 31 w r) (named_fits d f.1) (omega arith) h.1) (λ t g.
    bind_finds (piece_behind R 31 t) w r r _ (Field l d w) (behind_found R e 31 t w r f.2 (omega arith) c g) (λ u i.
    if_finds_yes (one_of_both d w) (gives (Field (here s) d w) u) None (Field l d w) r (is_one d w f.0) (ap (λ n. Field n d w) line, i)))

pub field_exact : (R : Readers) → AreExact R → Exact marks.field FitsField field_goes_on field_height R.limit 0 (field R)
field_exact R e = exact_by marks.field FitsField field_goes_on field_height R.limit 0 (field R) (field_yields R e) (field_found R e)

comma_no_field : (x : FieldTree) → field_goes_on x (Sign 45) ≡ false
comma_no_field (Field l d NoExpr) = refl
comma_no_field (Field l d (AnExpr e)) = stops e 2 (Tok (Sign 45) ∷ []) (closer (Sign 45) [] refl) (Sign 45) refl

field_stops : (x : FieldTree) (r : List Mark) → Closer r → Stops field_goes_on x r
field_stops (Field l d w) r c = maybe_stops w r c

-- ---- lists of fields

abbrev pub FitsSomeFields : FieldTrees → Type 0
FitsSomeFields fs = OneField fs × FitsFields fs

abbrev pub fields_end : List Mark → List Mark
fields_end r = Tok (Sign 32) ∷ r

more_fields_listed : (fs : List FieldTree) (r : List Mark) → marks.more_fields (fields_of fs) r ≡ listed marks.field fs (fields_end r)
more_fields_listed [] r = refl
more_fields_listed (f ∷ fs) r = ap (λ m. Tok (Sign 45) ∷ marks.field f m) (more_fields_listed fs r)

fields_begun : (fs : List FieldTree) (r : List Mark) → marks.fields (fields_of fs) r ≡ begun marks.field fs (fields_end r)
fields_begun [] r = refl
fields_begun (f ∷ fs) r = ap (marks.field f) (more_fields_listed fs r)

some_fields : (fs : List FieldTree) → IsSome fs → OneField (fields_of fs)
some_fields [] h = absurd h
some_fields (f ∷ fs) h = tt

fields_fit : (n : ℕ) (fs : List FieldTree) → Every (Fit FitsField field_height n) fs → FitsFields (fields_of fs) × (fields_height (fields_of fs) ≤ n)
fields_fit n [] h = (tt, omega arith)
fields_fit n (f ∷ fs) h = let k = fields_fit n fs h.1 in let l = h.0.1 in let m = k.1 in ((h.0.0, k.0), omega arith)

abbrev field_list : FieldTrees → List FieldTree
field_list NoFields = []
field_list (Fields f fs) = f ∷ field_list fs

field_list_of : (fs : FieldTrees) → fields_of (field_list fs) ≡ fs
field_list_of NoFields = refl
field_list_of (Fields f fs) = ap (Fields f) (field_list_of fs)

fields_are_fit : (n : ℕ) (fs : FieldTrees) → FitsFields fs → fields_height fs ≤ n → Every (Fit FitsField field_height n) (field_list fs)
fields_are_fit n NoFields f l = tt
fields_are_fit n (Fields x xs) f l = ((f.0, omega arith), fields_are_fit n xs f.1 (omega arith))

abbrev pub AreFields : Readers → State → FieldTrees → State → Type 0
AreFields R s fs t = IsPiece marks.fields FitsSomeFields nothing_more fields_height R.limit 1 s fs t

fields_by : (R : Readers) (s : State) (fs : List FieldTree) (t : State) → IsBegun marks.field FitsField field_goes_on field_height R.limit 0 s fs t → Takes t.rest (Sign 32) (tail t.rest) → AreFields R s (fields_of fs) (beyond t)
fields_by R s fs t h k =
    let f = fields_fit R.limit fs h.kept in
    record {
      fits = (some_fields fs h.some, f.0);
      low = f.1;
      ends = nothing_ends (fields_of fs) (tail t.rest);
      used = let u = taken_used t.rest (tail t.rest) (Sign 32) k in let v = h.used in omega arith;
      runs = λ r. iff_then (iff_path (marks.fields (fields_of fs) r) (begun marks.field fs (fields_end r)) s (fields_begun fs r)) (iff_then (h.runs (fields_end r)) (token_iff (Sign 32) r t (tail t.rest) k iff_same));
    }

fields_yields : (R : Readers) → AreExact R → (s : State) → Yields (fields R s) (AreFields R s)
unfolding fields
fields_yields R e s =
    bind_yields (some_commas (field R) s) _ _ _ (some_commas_yields marks.field FitsField field_goes_on field_height R.limit 0 (field R) (field_exact R e) s) (λ fs t h.
    sign_yields 32 t (gives (fields_of fs)) (AreFields R s) (λ k. fields_by R s fs t h k))

fields_found : (R : Readers) → AreExact R → (s : State) (f : FieldTree) (fs : List FieldTree) (r : List Mark) → Every (Fit FitsField field_height R.limit) (f ∷ fs) → RunsOn (marks.field f (marks.more_fields (fields_of fs) r)) s → Finds (fields R s) (fields_of (f ∷ fs)) r
unfolding fields
fields_found R e s f fs r k h =
    let end : List Mark = fields_end r in
    bind_finds (some_commas (field R) s) (f ∷ fs) end r _ (fields_of (f ∷ fs)) (some_commas_finds marks.field FitsField field_goes_on field_height R.limit 0 (field R) end (field_exact R e) comma_no_field (λ t g. first_is_at (is_sign 45) (Sign 32) r t g) s f fs (k, last_stops field_goes_on end (f ∷ fs) (λ x. field_stops x end (closer (Sign 32) r refl))) (subst (λ m. RunsOn (marks.field f m) s) (more_fields_listed fs r) h)) (λ t g.
    sign_finds 32 r r t (gives (fields_of (f ∷ fs))) (fields_of (f ∷ fs)) g (λ i. (refl, i)))

fields_all_found : (R : Readers) → AreExact R → (s : State) (fs : FieldTrees) (r : List Mark) → FitsSomeFields fs → fields_height fs ≤ R.limit → RunsOn (marks.fields fs r) s → Finds (fields R s) fs r
fields_all_found R e s NoFields r f l h = absurd f.0
fields_all_found R e s (Fields x xs) r f l h =
    subst (λ y. Finds (fields R s) (Fields x y) r) (field_list_of xs)
    (fields_found R e s x (field_list xs) r (fields_are_fit R.limit (Fields x xs) f.1 l) (subst (λ y. RunsOn (marks.field x (marks.more_fields y r)) s) (sym (field_list_of xs)) h))

pub fields_exact : (R : Readers) → AreExact R → Exact marks.fields FitsSomeFields nothing_more fields_height R.limit 1 (fields R)
fields_exact R e = exact_by marks.fields FitsSomeFields nothing_more fields_height R.limit 1 (fields R) (fields_yields R e) (λ s fs r f l c h. fields_all_found R e s fs r f l h)

-- ---- members

abbrev pub FitsSomeMembers : MemberTrees → Type 0
FitsSomeMembers ms = OneMember ms × FitsMembers ms

abbrev pub brace_end : List Mark → List Mark
brace_end r = Tok (Sign 5) ∷ r

-- no brace is next
abbrev pub no_brace : State → Bool
no_brace s = not (answer (IsSign 5) s)

member_no_brace : (x : MemberTree) (r : List Mark) (s : State) → RunsOn (marks.member x r) s → no_brace s ≡ true
member_no_brace (Members l ss fs) r s h = ap not (specifier_no_sign s.names false 5 (lexemes s.rest) (specifiers_next ss (marks.fields fs r) s h.1))

members_row : (ms : List MemberTree) (r : List Mark) → marks.members (members_of ms) r ≡ row marks.member ms (brace_end r)
members_row [] r = refl
members_row (m ∷ ms) r = ap (marks.member m) (members_row ms r)

members_fit : (n : ℕ) (ms : List MemberTree) → Every (Fit FitsMember member_height n) ms → FitsMembers (members_of ms) × (members_height (members_of ms) ≤ n)
members_fit n [] h = (tt, omega arith)
members_fit n (m ∷ ms) h = let k = members_fit n ms h.1 in let l = h.0.1 in let i = k.1 in ((h.0.0, k.0), omega arith)

abbrev member_list : MemberTrees → List MemberTree
member_list NoMembers = []
member_list (MoreMembers m ms) = m ∷ member_list ms

member_list_of : (ms : MemberTrees) → members_of (member_list ms) ≡ ms
member_list_of NoMembers = refl
member_list_of (MoreMembers m ms) = ap (MoreMembers m) (member_list_of ms)

members_are_fit : (n : ℕ) (ms : MemberTrees) → FitsMembers ms → members_height ms ≤ n → Every (Fit FitsMember member_height n) (member_list ms)
members_are_fit n NoMembers f l = tt
members_are_fit n (MoreMembers x xs) f l = ((f.0, omega arith), members_are_fit n xs f.1 (omega arith))

abbrev pub AreMembers : Readers → State → MemberTrees → State → Type 0
AreMembers R s ms t = IsPiece marks.members FitsSomeMembers nothing_more members_height R.limit 1 s ms t

abbrev pub IsMember : Readers → State → MemberTree → State → Type 0
IsMember R s m t = IsPiece marks.member FitsMember nothing_more member_height R.limit 1 s m t

members_by : (R : Readers) (s : State) (m : MemberTree) (t : State) (ms : List MemberTree) (u : State) → IsMember R s m t → IsRow marks.member FitsMember nothing_more member_height R.limit (λ b v. no_brace v) t ms u → Takes u.rest (Sign 5) (tail u.rest) → AreMembers R s (members_of (m ∷ ms)) (beyond u)
members_by R s m t ms u h k i =
    let f = members_fit R.limit ms k.kept in
    let l = h.low in
    let g = f.1 in
    record {
      fits = (tt, (h.fits, f.0));
      low = omega arith;
      ends = nothing_ends (members_of (m ∷ ms)) (tail u.rest);
      used = let a = taken_used u.rest (tail u.rest) (Sign 5) i in let b = h.used in let c = k.used in omega arith;
      runs = λ r. iff_then (iff_path (marks.member m (marks.members (members_of ms) r)) (marks.member m (row marks.member ms (brace_end r))) s (ap (marks.member m) (members_row ms r))) (iff_then (h.runs (row marks.member ms (brace_end r))) (iff_then (k.runs (brace_end r)) (token_iff (Sign 5) r u (tail u.rest) i iff_same)));
    }

members_yields : (R : Readers) → AreExact R → (s : State) → Yields (members R s) (AreMembers R s)
unfolding members
members_yields R e s =
    bind_yields (R.member s) _ _ _ (exact_yields marks.member FitsMember nothing_more member_height R.limit 1 R.member e.member s) (λ m t h.
    bind_yields (all_of (λ b u. no_brace u) (λ b u. R.member u) (λ b x. b) true t) _ _ _ (row_yields marks.member FitsMember nothing_more member_height R.limit R.member (λ b v. no_brace v) e.member t) (λ ms u k.
    sign_yields 5 u (gives (members_of (m ∷ ms))) (AreMembers R s) (λ i. members_by R s m t ms u h k i)))

members_found : (R : Readers) → AreExact R → (s : State) (m : MemberTree) (ms : List MemberTree) (r : List Mark) → Every (Fit FitsMember member_height R.limit) (m ∷ ms) → RunsOn (marks.member m (marks.members (members_of ms) r)) s → Finds (members R s) (members_of (m ∷ ms)) r
unfolding members
members_found R e s m ms r k h =
    let end : List Mark = brace_end r in
    bind_finds (R.member s) m (row marks.member ms end) r _ (members_of (m ∷ ms)) (e.member.found s m (row marks.member ms end) k.0.0 k.0.1 (nothing_stops m (row marks.member ms end)) (subst (λ x. RunsOn (marks.member m x) s) (members_row ms r) h)) (λ t g.
    bind_finds (all_of (λ b u. no_brace u) (λ b u. R.member u) (λ b x. b) true t) ms end r _ (members_of (m ∷ ms)) (row_finds marks.member FitsMember member_height R.limit R.member (λ b v. no_brace v) end e.member (λ b s x y f j. member_no_brace x y s j) (λ b s j. ap not (sign_next 5 r s j)) t ms k.1 g) (λ u i.
    sign_finds 5 r r u (gives (members_of (m ∷ ms))) (members_of (m ∷ ms)) i (λ j. (refl, j))))

members_all_found : (R : Readers) → AreExact R → (s : State) (ms : MemberTrees) (r : List Mark) → FitsSomeMembers ms → members_height ms ≤ R.limit → RunsOn (marks.members ms r) s → Finds (members R s) ms r
members_all_found R e s NoMembers r f l h = absurd f.0
members_all_found R e s (MoreMembers x xs) r f l h =
    subst (λ y. Finds (members R s) (MoreMembers x y) r) (member_list_of xs)
    (members_found R e s x (member_list xs) r (members_are_fit R.limit (MoreMembers x xs) f.1 l) (subst (λ y. RunsOn (marks.member x (marks.members y r)) s) (sym (member_list_of xs)) h))

pub members_exact : (R : Readers) → AreExact R → Exact marks.members FitsSomeMembers nothing_more members_height R.limit 1 (members R)
members_exact R e = exact_by marks.members FitsSomeMembers nothing_more members_height R.limit 1 (members R) (members_yields R e) (λ s ms r f l c h. members_all_found R e s ms r f l h)
