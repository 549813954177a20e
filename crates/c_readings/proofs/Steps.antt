-- Steps of reading, both ways: what is read is so (Yields), and what stands there is read (Finds).
use Rattle.std.proofs.Common.{◌≡◌, ◌≤◌, ◌+◌, ◌==◌, ◌↔◌, if◌then◌else◌, ℕ, Bool, true, false, Option, Some, None, List, [], ◌∷◌, length, refl, sym, ap, ◌∙◌, subst, arith}
use Rattle.std.proofs.lemmas.Bool.Decides.{nat_tests}
use Rattle.c_ast.specs.Lexemes.{Lexeme, Name, Keyword, Integer, Character, Text, Sign, Placed}
use Rattle.c_ast.specs.InForce.{InForce, put, is_typedef}
use Rattle.c_ast.specs.Marks.{Test, IsSign, Mark, Tok, Plain, Typed, Here, Ask, Put, Open, Close, Keep, Reopen, Forget, Runs, lexemes, next_line, next, first_is, is_sign}
use Rattle.c_ast.specs.ExprMarks.{put_then, closed_then}
use Rattle.c_readings.specs.Reading.{State, Read, bind, answer, ask, line_of, here, tail, beyond, on_first, with_first, one_sign, name_then, one_name, put_state, close_state}
use Rattle.c_readings.specs.Exact.{RunsOn, Finds, Ends, Stops, IsPiece, Exact, nothing_more, where_left}

-- ---- what was read is so

abbrev pub Yields : {A : Type 0} → Read A → (A → State → Type 0) → Type 0
Yields None P = Unit {0}
Yields (Some p) P = P p.0 p.1

pub yields : {A : Type 0} (o : Read A) (P : A → State → Type 0) → ((x : A) (t : State) → o ≡ Some (x, t) → P x t) → Yields o P
yields None P h = tt
yields (Some p) P h = h p.0 p.1 refl

pub read_so : {A : Type 0} (o : Read A) (P : A → State → Type 0) (x : A) (t : State) → Yields o P → o ≡ Some (x, t) → P x t
read_so o P x t h e = subst (λ p. Yields p P) e h

pub bind_yields : {A B : Type 0} (o : Read A) (k : A → State → Read B) (P : A → State → Type 0) (Q : B → State → Type 0) → Yields o P → ((x : A) (t : State) → P x t → Yields (k x t) Q) → Yields (bind o k) Q
bind_yields None k P Q h g = tt
bind_yields (Some p) k P Q h g = g p.0 p.1 h

pub if_yields : {B : Type 0} (b : Bool) (p q : Read B) (Q : B → State → Type 0) → (b ≡ true → Yields p Q) → (b ≡ false → Yields q Q) → Yields (if b then p else q) Q
if_yields true p q Q f g = f refl
if_yields false p q Q f g = g refl

pub yields_also : {A : Type 0} (o : Read A) (P Q : A → State → Type 0) → Yields o P → ((x : A) (t : State) → P x t → Q x t) → Yields o Q
yields_also None P Q h g = tt
yields_also (Some p) P Q h g = g p.0 p.1 h

pub both_yield : {A : Type 0} (o : Read A) (P Q : A → State → Type 0) → Yields o P → Yields o Q → Yields o (λ x t. P x t × Q x t)
both_yield None P Q h k = tt
both_yield (Some p) P Q h k = (h, k)

-- an exact reader yields pieces
pub exact_yields : {A : Type 0} (spelled : A → List Mark → List Mark) (Fits : A → Type 0) (goes_on : A → Lexeme → Bool) (high : A → ℕ) (limit least : ℕ) (read : State → Read A) → Exact spelled Fits goes_on high limit least read → (s : State) → Yields (read s) (IsPiece spelled Fits goes_on high limit least s)
exact_yields spelled Fits goes_on high limit least read e s = yields (read s) _ (λ x t h. e.piece s x t h)

pub exact_by : {A : Type 0} (spelled : A → List Mark → List Mark) (Fits : A → Type 0) (goes_on : A → Lexeme → Bool) (high : A → ℕ) (limit least : ℕ) (read : State → Read A) → ((s : State) → Yields (read s) (IsPiece spelled Fits goes_on high limit least s)) → ((s : State) (x : A) (r : List Mark) → Fits x → high x ≤ limit → Stops goes_on x r → RunsOn (spelled x r) s → Finds (read s) x r) → Exact spelled Fits goes_on high limit least read
exact_by spelled Fits goes_on high limit least read y f = record { piece = λ s x t h. read_so (read s) _ x t (y s) h; found = f }

pub nothing_ends : {A : Type 0} (x : A) (ts : List Placed) → Ends nothing_more x ts
nothing_ends x [] = tt
nothing_ends x (t ∷ ts) = refl

pub nothing_stops : {A : Type 0} (x : A) (r : List Mark) → Stops nothing_more x r
nothing_stops x r = λ l e. refl

-- the token l is next, and us stand behind it
abbrev pub Takes : List Placed → Lexeme → List Placed → Type 0
Takes ts l us = (line : ℕ) × (ts ≡ record { lexeme = l; line = line } ∷ us)

-- the state behind the next token, with so much left
abbrev pub past : State → List Placed → State
past s ts = record { names = s.names; rest = ts }

on_first_yields : {B : Type 0} (ts : List Placed) (names : InForce) (f : Lexeme → State → Read B) (Q : B → State → Type 0) → ((l : Lexeme) (us : List Placed) → Takes ts l us → Yields (f l record { names = names; rest = us }) Q) → Yields (on_first ts names f) Q
on_first_yields [] names f Q h = tt
on_first_yields (t ∷ ts) names f Q h = h t.lexeme ts (t.line, refl)

pub first_yields : {B : Type 0} (s : State) (f : Lexeme → State → Read B) (Q : B → State → Type 0) → ((l : Lexeme) (us : List Placed) → Takes s.rest l us → Yields (f l (past s us)) Q) → Yields (with_first s f) Q
first_yields s f Q h = on_first_yields s.rest s.names f Q h

name_then_yields : {B : Type 0} (f : List ℕ → State → Read B) (l : Lexeme) (s : State) (Q : B → State → Type 0) → ((n : List ℕ) → l ≡ Name n → Yields (f n s) Q) → Yields (name_then f l s) Q
name_then_yields f (Name n) s Q h = h n refl
name_then_yields f (Sign j) s Q h = tt
name_then_yields f (Keyword k) s Q h = tt
name_then_yields f (Integer v k) s Q h = tt
name_then_yields f (Character v) s Q h = tt
name_then_yields f (Text b) s Q h = tt

pub name_yields : {B : Type 0} (s : State) (f : List ℕ → State → Read B) (Q : B → State → Type 0) → ((n : List ℕ) (us : List Placed) → Takes s.rest (Name n) us → Yields (f n (past s us)) Q) → Yields (one_name s f) Q
name_yields s f Q h = first_yields s (name_then f) Q (λ l us k. name_then_yields f l (past s us) Q (λ n e. h n us (subst (λ m. Takes s.rest m us) e k)))

pub same_number : (j k : ℕ) → (j == k) ≡ true → j ≡ k
same_number j k h = grind (arith, nat_tests)

sign_is : (k : ℕ) (l : Lexeme) → is_sign k l ≡ true → l ≡ Sign k
sign_is k (Sign j) h = ap Sign (same_number j k h)
sign_is k (Name n) h = absurd cc
sign_is k (Keyword j) h = absurd cc
sign_is k (Integer v j) h = absurd cc
sign_is k (Character v) h = absurd cc
sign_is k (Text b) h = absurd cc

-- a sign that is asked for is next
pub sign_taken : (k : ℕ) (ts : List Placed) → first_is (is_sign k) (lexemes ts) ≡ true → Takes ts (Sign k) (tail ts)
sign_taken k [] h = absurd cc
sign_taken k (t ∷ ts) h = (t.line, ap (λ l. record { lexeme = l; line = t.line } ∷ ts) (sign_is k t.lexeme h))

pub sign_yields : {B : Type 0} (k : ℕ) (s : State) (f : State → Read B) (Q : B → State → Type 0) → (Takes s.rest (Sign k) (tail s.rest) → Yields (f (beyond s)) Q) → Yields (one_sign k s f) Q
sign_yields k s f Q h = if_yields (answer (IsSign k) s) (f (beyond s)) None Q (λ a. h (sign_taken k s.rest a)) (λ a. tt)

pub taken_used : (ts us : List Placed) (l : Lexeme) → Takes ts l us → length ts ≡ length us + 1
taken_used ts us l h = ap length h.1 ∙ (omega arith)

pub taken_left : (ts us : List Placed) (l : Lexeme) → Takes ts l us → 1 ≤ length ts
taken_left ts us l h = let u = taken_used ts us l h in omega arith

-- a question that is answered yes is asked of a token
pub some_left : (is : Lexeme → Bool) (ts : List Placed) → first_is is (lexemes ts) ≡ true → 1 ≤ length ts
some_left is [] h = absurd cc
some_left is (t ∷ ts) h = omega arith

-- where a token is left, what is read there is what is read
pub is_left : {A : Type 0} (ts : List Placed) (o : Read A) → 1 ≤ length ts → where_left ts o ≡ o
is_left [] o h = absurd (omega arith)
is_left (t ∷ ts) o h = refl

pub some_same : {A : Type 0} (a b : A) → Some a ≡ Some b → a ≡ b
some_same a b e = cc

-- ---- marks that run

pub iff_same : {A : Type 0} → A ↔ A
iff_same = (λ a. a, λ a. a)

pub iff_then : {A B C : Type 0} → (A ↔ B) → (B ↔ C) → (A ↔ C)
iff_then f g = (λ a. g.0 (f.0 a), λ c. f.1 (g.1 c))

pub iff_path : (a b : List Mark) (s : State) → a ≡ b → RunsOn a s ↔ RunsOn b s
iff_path a b s e = (λ h. subst (λ m. RunsOn m s) e h, λ h. subst (λ m. RunsOn m s) (sym e) h)

line_known : (ts : List Placed) → 1 ≤ length ts → next_line ts ≡ Some (line_of ts)
line_known [] h = absurd (omega arith)
line_known (t ∷ ts) h = refl

pub here_iff : {X : Type 0} (m : List Mark) (s : State) → 1 ≤ length s.rest → (RunsOn m s ↔ X) → (RunsOn (Here (here s) ∷ m) s ↔ X)
here_iff m s h f = (λ a. f.0 a.1, λ x. (line_known s.rest h, f.1 x))

same_rest : (ts us vs : List Placed) (l : Lexeme) → Takes ts l us → Takes ts l vs → vs ≡ us
same_rest ts us vs l h k = let e : record { lexeme = l; line = k.0 } ∷ vs ≡ record { lexeme = l; line = h.0 } ∷ us = sym k.1 ∙ h.1 in ap tail e

pub token_iff : {X : Type 0} (l : Lexeme) (m : List Mark) (s : State) (us : List Placed) → Takes s.rest l us → (RunsOn m (past s us) ↔ X) → (RunsOn (Tok l ∷ m) s ↔ X)
token_iff l m s us h f = (λ a. f.0 (subst (λ ts. Runs m s.names ts) (same_rest s.rest us a.1 l h (a.0, a.2)) a.3), λ x. (h.0, us, h.1, f.1 x))

pub plain_iff : {X : Type 0} (n : List ℕ) (m : List Mark) (s : State) (us : List Placed) → is_typedef s.names n ≡ false → Takes s.rest (Name n) us → (RunsOn m (past s us) ↔ X) → (RunsOn (Plain n ∷ m) s ↔ X)
plain_iff n m s us e h f = (λ a. f.0 (subst (λ ts. Runs m s.names ts) (same_rest s.rest us a.2 (Name n) h (a.1, a.3)) a.4), λ x. (e, h.0, us, h.1, f.1 x))

pub typed_iff : {X : Type 0} (n : List ℕ) (m : List Mark) (s : State) (us : List Placed) → is_typedef s.names n ≡ true → Takes s.rest (Name n) us → (RunsOn m (past s us) ↔ X) → (RunsOn (Typed n ∷ m) s ↔ X)
typed_iff n m s us e h f = (λ a. f.0 (subst (λ ts. Runs m s.names ts) (same_rest s.rest us a.2 (Name n) h (a.1, a.3)) a.4), λ x. (e, h.0, us, h.1, f.1 x))

pub asked_iff : {X : Type 0} (t : Test) (b : Bool) (m : List Mark) (s : State) → answer t s ≡ b → (RunsOn m s ↔ X) → (RunsOn (Ask t b ∷ m) s ↔ X)
asked_iff t b m s h f = (λ a. f.0 a.1, λ x. (h, f.1 x))

pub put_iff : (o : Option (List ℕ)) (typedef : Bool) (r : List Mark) (s : State) → RunsOn (put_then o typedef r) s ↔ RunsOn r (put_state o typedef s)
put_iff None typedef r s = iff_same
put_iff (Some n) typedef r s = iff_same

pub close_iff : (own : Bool) (r : List Mark) (s : State) → RunsOn (closed_then own r) s ↔ RunsOn r (close_state own s)
close_iff true r s = iff_same
close_iff false r s = iff_same

-- what comes into force or ends takes no token
pub put_rest : (o : Option (List ℕ)) (typedef : Bool) (s : State) → (put_state o typedef s).rest ≡ s.rest
put_rest None typedef s = refl
put_rest (Some n) typedef s = refl

pub close_rest : (own : Bool) (s : State) → (close_state own s).rest ≡ s.rest
close_rest true s = refl
close_rest false s = refl

-- ---- what stands there is read

pub bind_finds : {A B : Type 0} (o : Read A) (x : A) (m r : List Mark) (k : A → State → Read B) (z : B) → Finds o x m → ((s : State) → RunsOn m s → Finds (k x s) z r) → Finds (bind o k) z r
bind_finds None x m r k z f g = absurd f
bind_finds (Some p) x m r k z f g = subst (λ y. Finds (k y p.1) z r) (sym f.0) (g p.1 f.1)

-- the same, where the rest rests on what was read
pub read_finds : {A B : Type 0} (o : Read A) (x : A) (m r : List Mark) (k : A → State → Read B) (z : B) → Finds o x m → ((t : State) → o ≡ Some (x, t) → RunsOn m t → Finds (k x t) z r) → Finds (bind o k) z r
read_finds None x m r k z f g = absurd f
read_finds (Some p) x m r k z f g = subst (λ y. Finds (k y p.1) z r) (sym f.0) (g p.1 (ap (λ y. Some (y, p.1)) f.0) f.1)

-- what is found is what is read
pub found_read : {A : Type 0} (o : Read A) (x : A) (r : List Mark) → Finds o x r → (t : State) × (o ≡ Some (x, t))
found_read None x r f = absurd f
found_read (Some p) x r f = (p.1, ap (λ y. Some (y, p.1)) f.0)

pub if_finds_yes : {B : Type 0} (b : Bool) (p q : Read B) (z : B) (r : List Mark) → b ≡ true → Finds p z r → Finds (if b then p else q) z r
if_finds_yes b p q z r h f = subst (λ c. Finds (if c then p else q) z r) (sym h) f

pub if_finds_no : {B : Type 0} (b : Bool) (p q : Read B) (z : B) (r : List Mark) → b ≡ false → Finds q z r → Finds (if b then p else q) z r
if_finds_no b p q z r h f = subst (λ c. Finds (if c then p else q) z r) (sym h) f

pub asked_yes : {B : Type 0} (t : Test) (s : State) (p q : Read B) (z : B) (r : List Mark) → answer t s ≡ true → Finds p z r → Finds (ask t s p q) z r
asked_yes t s p q z r h f = if_finds_yes (answer t s) p q z r h f

pub asked_no : {B : Type 0} (t : Test) (s : State) (p q : Read B) (z : B) (r : List Mark) → answer t s ≡ false → Finds q z r → Finds (ask t s p q) z r
asked_no t s p q z r h f = if_finds_no (answer t s) p q z r h f

pub first_finds : {B : Type 0} (l : Lexeme) (m r : List Mark) (s : State) (f : Lexeme → State → Read B) (z : B) → RunsOn (Tok l ∷ m) s → ((t : State) → RunsOn m t → Finds (f l t) z r) → Finds (with_first s f) z r
first_finds l m r s f z h g = subst (λ ts. Finds (on_first ts s.names f) z r) (sym h.2) (g (past s h.1) h.3)

pub typed_finds : {B : Type 0} (n : List ℕ) (m r : List Mark) (s : State) (f : Lexeme → State → Read B) (z : B) → RunsOn (Typed n ∷ m) s → ((t : State) → RunsOn m t → Finds (f (Name n) t) z r) → Finds (with_first s f) z r
typed_finds n m r s f z h g = subst (λ ts. Finds (on_first ts s.names f) z r) (sym h.3) (g (past s h.2) h.4)

here_of : (line : ℕ) (ts : List Placed) → next_line ts ≡ Some line → line_of ts ≡ line
here_of line [] e = absurd cc
here_of line (t ∷ ts) e = cc

-- the line of what is next is that of the mark
pub here_is : (l : ℕ) (m : List Mark) (s : State) → RunsOn (Here l ∷ m) s → here s ≡ l
here_is l m s h = here_of l s.rest h.0

pub here_finds : {B : Type 0} (l : ℕ) (m r : List Mark) (s : State) (f : ℕ → Read B) (z : B) → RunsOn (Here l ∷ m) s → (RunsOn m s → Finds (f l) z r) → Finds (f (here s)) z r
here_finds l m r s f z h g = subst (λ n. Finds (f n) z r) (sym (here_is l m s h)) (g h.1)

-- ---- what a run says of the next token

-- behind a token the marks behind it run
pub beyond_runs : (l : Lexeme) (m : List Mark) (s : State) → RunsOn (Tok l ∷ m) s → RunsOn m (beyond s)
beyond_runs l m s h = subst (λ ts. Runs m s.names (tail ts)) (sym h.2) h.3

pub first_is_at : (is : Lexeme → Bool) (l : Lexeme) (m : List Mark) (s : State) → RunsOn (Tok l ∷ m) s → first_is is (lexemes s.rest) ≡ is l
first_is_at is l m s h = ap (λ ts. first_is is (lexemes ts)) h.2

pub first_is_plain : (is : Lexeme → Bool) (n : List ℕ) (m : List Mark) (s : State) → RunsOn (Plain n ∷ m) s → first_is is (lexemes s.rest) ≡ is (Name n)
first_is_plain is n m s h = ap (λ ts. first_is is (lexemes ts)) h.3

same_self : (k : ℕ) → (k == k) ≡ true
same_self k = grind (arith, nat_tests)

-- a sign among the marks is the one that is next
pub sign_next : (k : ℕ) (m : List Mark) (s : State) → RunsOn (Tok (Sign k) ∷ m) s → answer (IsSign k) s ≡ true
sign_next k m s h = first_is_at (is_sign k) (Sign k) m s h ∙ same_self k

pub sign_finds : {B : Type 0} (k : ℕ) (m r : List Mark) (s : State) (f : State → Read B) (z : B) → RunsOn (Tok (Sign k) ∷ m) s → (RunsOn m (beyond s) → Finds (f (beyond s)) z r) → Finds (one_sign k s f) z r
sign_finds k m r s f z h g = asked_yes (IsSign k) s (f (beyond s)) None z r (sign_next k m s h) (g (beyond_runs (Sign k) m s h))

same_first : {A : Type 0} {a b : A} {xs ys : List A} → a ∷ xs ≡ b ∷ ys → a ≡ b
same_first e = cc

-- a token that is next is the next one among the marks
pub next_runs : (ms : List Mark) (names : InForce) (t : Placed) (ts : List Placed) → Runs ms names (t ∷ ts) → next ms ≡ Some t.lexeme
next_runs [] names t ts h = absurd cc
next_runs (Tok l ∷ ms) names t ts h = ap (λ (p : Placed). Some p.lexeme) (sym (same_first h.2))
next_runs (Plain n ∷ ms) names t ts h = ap (λ (p : Placed). Some p.lexeme) (sym (same_first h.3))
next_runs (Typed n ∷ ms) names t ts h = ap (λ (p : Placed). Some p.lexeme) (sym (same_first h.3))
next_runs (Here l ∷ ms) names t ts h = next_runs ms names t ts h.1
next_runs (Ask q b ∷ ms) names t ts h = next_runs ms names t ts h.1
next_runs (Put n k ∷ ms) names t ts h = next_runs ms (put names n k) t ts h
next_runs (Open ∷ ms) names t ts h = next_runs ms _ t ts h
next_runs (Close ∷ ms) names t ts h = next_runs ms _ t ts h
next_runs (Keep ∷ ms) names t ts h = next_runs ms _ t ts h
next_runs (Reopen ∷ ms) names t ts h = next_runs ms _ t ts h
next_runs (Forget ∷ ms) names t ts h = next_runs ms _ t ts h

fails_on : (is : Lexeme → Bool) (m : List Mark) (names : InForce) (ts : List Placed) → ((l : Lexeme) → next m ≡ Some l → is l ≡ false) → Runs m names ts → first_is is (lexemes ts) ≡ false
fails_on is m names [] g h = refl
fails_on is m names (t ∷ ts) g h = g t.lexeme (next_runs m names t ts h)

-- a test on the first token that fails on what is next among the marks
pub fails_next : (is : Lexeme → Bool) (m : List Mark) (s : State) → ((l : Lexeme) → next m ≡ Some l → is l ≡ false) → RunsOn m s → first_is is (lexemes s.rest) ≡ false
fails_next is m s g h = fails_on is m s.names s.rest g h

-- ---- a question before a tree

-- where what begins the tree answers the question so, it may be asked before it
pub asked_exact : {A : Type 0} (t : Test) (b : Bool) (spelled : A → List Mark → List Mark) (Fits : A → Type 0) (goes_on : A → Lexeme → Bool) (high : A → ℕ) (limit least : ℕ) (read : State → Read A) → Exact spelled Fits goes_on high limit least read → ((x : A) (m : List Mark) (s : State) → Fits x → RunsOn (spelled x m) s → answer t s ≡ b) → Exact (λ x r. Ask t b ∷ spelled x r) Fits goes_on high limit least read
asked_exact t b spelled Fits goes_on high limit least read e begins = record {
  piece = λ s x u k. let h = e.piece s x u k in record {
    fits = h.fits;
    low = h.low;
    ends = h.ends;
    used = h.used;
    runs = λ r. (λ a. (h.runs r).0 a.1, λ a. let m = (h.runs r).1 a in (begins x r s h.fits m, m));
  };
  found = λ s x r f l c h. e.found s x r f l c h.1;
}
