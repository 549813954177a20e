-- Lists of items that are read one after another.
use Rattle.std.proofs.Common.{◌≡◌, ◌≤◌, ◌+◌, ◌↔◌, ◌&&◌, not, ℕ, zero, suc, Bool, true, false, Some, List, [], ◌∷◌, length, refl, sym, subst, ap, arith}
use Rattle.c_ast.specs.Lexemes.{Lexeme, Sign, Placed}
use Rattle.c_ast.specs.Marks.{Mark, Tok, IsSign, next, first_is, is_sign, lexemes}
use Rattle.c_ast.specs.Levels.{IsSome}
use Rattle.c_readings.specs.Readers.{some_commas, goes_on_without}
use Rattle.c_readings.specs.Reading.{State, Read, answer, tail, beyond, many, all_of, commas}
use Rattle.c_readings.specs.Exact.{RunsOn, Finds, Ends, Stops, IsPiece, Exact, nothing_more}
use Rattle.c_readings.proofs.Steps.{Yields, yields, exact_yields, nothing_stops, bind_yields, if_yields, sign_taken, taken_used, iff_same, iff_then, token_iff, bind_finds, read_finds, if_finds_yes, if_finds_no, sign_next, beyond_runs, some_same}

-- ---- what is said of each item, and of the last

abbrev pub Every : {A : Type 0} → (A → Type 0) → List A → Type 0
Every P [] = Unit {0}
Every P (x ∷ xs) = P x × Every P xs

abbrev pub Last : {A : Type 0} → (A → Type 0) → List A → Type 0
Last P [] = Unit {0}
Last P (x ∷ []) = P x
Last P (x ∷ y ∷ ys) = Last P (y ∷ ys)

pub last_of_more : {A : Type 0} (P : A → Type 0) (x : A) (xs : List A) → Last P (x ∷ xs) → Last P xs
last_of_more P x [] h = tt
last_of_more P x (y ∷ ys) h = h

pub last_behind : {A : Type 0} (P : A → Type 0) (x : A) (xs : List A) → P x → Last P xs → Last P (x ∷ xs)
last_behind P x [] h k = h
last_behind P x (y ∷ ys) h k = k

-- ---- lists with a test before each item
-- spelled b xs r: the marks of the items xs where b stood before them, and r behind

-- from s on stands the item x, and behind it t
pub record IsItem {A B : Type 0} (spelled : B → List A → List Mark → List Mark) (P : A → Type 0) (E : A → State → Type 0) (next : B → A → B) (b : B) (s : State) (x : A) (t : State) : Type 0 where
  pub kept : P x
  pub ends : E x t
  pub used : length t.rest + 1 ≤ length s.rest
  pub runs : (xs : List A) (r : List Mark) → RunsOn (spelled b (x ∷ xs) r) s ↔ RunsOn (spelled (next b x) xs r) t

-- where there are no items, nothing was read
abbrev pub NoneRead : {A : Type 0} → List A → State → State → Type 0
NoneRead [] s t = t ≡ s
NoneRead (x ∷ xs) s t = Unit {0}

-- from s on stand the items xs, and behind them t, where the test fails
pub record IsList {A B : Type 0} (spelled : B → List A → List Mark → List Mark) (P : A → Type 0) (E : A → State → Type 0) (go : B → State → Bool) (b : B) (s : State) (xs : List A) (t : State) : Type 0 where
  pub kept : Every P xs
  pub ends : Last (λ x. E x t) xs
  pub none : NoneRead xs s t
  pub stopped : (c : B) × (go c t ≡ false)
  pub used : length t.rest + length xs ≤ length s.rest
  pub runs : (r : List Mark) → RunsOn (spelled b xs r) s ↔ RunsOn r t

ends_before : {A : Type 0} (E : A → State → Type 0) (x : A) (xs : List A) (t u : State) → E x t → NoneRead xs t u → Last (λ y. E y u) xs → Last (λ y. E y u) (x ∷ xs)
ends_before E x [] t u h e k = subst (E x) (sym e) h
ends_before E x (y ∷ ys) t u h e k = k

used_before : {A : Type 0} (x : A) (xs : List A) (ss ts us : List Placed) → length ts + 1 ≤ length ss → length us + length xs ≤ length ts → length us + length (x ∷ xs) ≤ length ss
used_before x xs ss ts us h k = omega arith

item_before : {A B : Type 0} (spelled : B → List A → List Mark → List Mark) (P : A → Type 0) (E : A → State → Type 0) (go : B → State → Bool) (next : B → A → B) (b : B) (s : State) (x : A) (t : State) (xs : List A) (u : State) → IsItem spelled P E next b s x t → IsList spelled P E go (next b x) t xs u → IsList spelled P E go b s (x ∷ xs) u
item_before spelled P E go next b s x t xs u h k = record {
  kept = (h.kept, k.kept);
  ends = ends_before E x xs t u h.ends k.none k.ends;
  none = tt;
  stopped = k.stopped;
  used = used_before x xs s.rest t.rest u.rest h.used k.used;
  runs = λ r. iff_then (h.runs xs r) (k.runs r);
}

no_items : {A B : Type 0} (spelled : B → List A → List Mark → List Mark) (P : A → Type 0) (E : A → State → Type 0) (go : B → State → Bool) (b : B) (s : State) → go b s ≡ false → ((r : List Mark) → RunsOn (spelled b [] r) s ↔ RunsOn r s) → IsList spelled P E go b s [] s
no_items spelled P E go b s h k = record { kept = tt; ends = tt; none = refl; stopped = (b, h); used = omega arith; runs = k }

-- a list whose items are read soundly is read soundly
pub many_yields : {A B : Type 0} (spelled : B → List A → List Mark → List Mark) (P : A → Type 0) (E : A → State → Type 0) (go : B → State → Bool) (item : B → State → Read A) (next : B → A → B) → ((b : B) (s : State) (r : List Mark) → go b s ≡ false → RunsOn (spelled b [] r) s ↔ RunsOn r s) → ((b : B) (s : State) → go b s ≡ true → Yields (item b s) (IsItem spelled P E next b s)) → (n : ℕ) (b : B) (s : State) → Yields (many go item next n b s) (IsList spelled P E go b s)
unfolding many
many_yields spelled P E go item next done more zero b s = tt
many_yields spelled P E go item next done more (suc n) b s =
    if_yields (go b s) _ _ (IsList spelled P E go b s)
    (λ a. bind_yields (item b s) _ (IsItem spelled P E next b s) _ (more b s a) (λ x t h.
    bind_yields (many go item next n (next b x) t) _ (IsList spelled P E go (next b x) t) _ (many_yields spelled P E go item next done more n (next b x) t) (λ xs u k.
    item_before spelled P E go next b s x t xs u h k)))
    (λ a. no_items spelled P E go b s a (λ r. done b s r a))

-- a list that stands there is read, where each item that stands there is and uses up tokens; Q b: of items behind b
pub many_finds_from : {A B : Type 0} (spelled : B → List A → List Mark) (Q : B → List A → Type 0) (r : List Mark) (go : B → State → Bool) (item : B → State → Read A) (next : B → A → B) → ((b : B) (s : State) → RunsOn (spelled b []) s → (go b s ≡ false) × RunsOn r s) → ((b : B) (s : State) (x : A) (xs : List A) → Q b (x ∷ xs) → RunsOn (spelled b (x ∷ xs)) s → (go b s ≡ true) × Q (next b x) xs × Finds (item b s) x (spelled (next b x) xs)) → ((b : B) (s : State) (x : A) (t : State) → go b s ≡ true → item b s ≡ Some (x, t) → length t.rest + 1 ≤ length s.rest) → (n : ℕ) (b : B) (s : State) (xs : List A) → length s.rest + 1 ≤ n → Q b xs → RunsOn (spelled b xs) s → Finds (many go item next n b s) xs r
unfolding many
many_finds_from spelled Q r go item next done more uses zero b s xs w q h = absurd (omega arith)
many_finds_from spelled Q r go item next done more uses (suc n) b s [] w q h =
    let d = done b s h in
    if_finds_no (go b s) _ _ [] r d.0 (refl, d.1)
many_finds_from spelled Q r go item next done more uses (suc n) b s (x ∷ xs) w q h =
    let m = more b s x xs q h in
    if_finds_yes (go b s) _ _ (x ∷ xs) r m.0
    (read_finds (item b s) x (spelled (next b x) xs) r _ (x ∷ xs) m.2 (λ t e g.
    let v = uses b s x t m.0 e in
    bind_finds (many go item next n (next b x) t) xs r r _ (x ∷ xs) (many_finds_from spelled Q r go item next done more uses n (next b x) t xs (omega arith) m.1 g) (λ u i. (refl, i))))

-- the same, where what is known of the items doesn't rest on what stood before
pub many_finds : {A B : Type 0} (spelled : B → List A → List Mark) (Q : List A → Type 0) (r : List Mark) (go : B → State → Bool) (item : B → State → Read A) (next : B → A → B) → ((b : B) (s : State) → RunsOn (spelled b []) s → (go b s ≡ false) × RunsOn r s) → ((b : B) (s : State) (x : A) (xs : List A) → Q (x ∷ xs) → RunsOn (spelled b (x ∷ xs)) s → (go b s ≡ true) × Q xs × Finds (item b s) x (spelled (next b x) xs)) → ((b : B) (s : State) (x : A) (t : State) → go b s ≡ true → item b s ≡ Some (x, t) → length t.rest + 1 ≤ length s.rest) → (n : ℕ) (b : B) (s : State) (xs : List A) → length s.rest + 1 ≤ n → Q xs → RunsOn (spelled b xs) s → Finds (many go item next n b s) xs r
many_finds spelled Q r go item next done more uses n b s xs w q h = many_finds_from spelled (λ b. Q) r go item next done more uses n b s xs w q h

-- the first item, if there is one
abbrev pub First : {A : Type 0} → (A → Type 0) → List A → Type 0
First P [] = Unit {0}
First P (x ∷ xs) = P x

-- what the reader of items yields for the first is so of the list's first
pub many_first : {A B : Type 0} (P : A → Type 0) (go : B → State → Bool) (item : B → State → Read A) (next : B → A → B) (n : ℕ) (b : B) (s : State) → Yields (item b s) (λ x t. P x) → Yields (many go item next n b s) (λ xs t. First P xs)
unfolding many
many_first P go item next zero b s h = tt
many_first P go item next (suc n) b s h =
    if_yields (go b s) _ _ (λ xs t. First P xs)
    (λ a. bind_yields (item b s) _ (λ x t. P x) _ h (λ x t k.
    bind_yields (many go item next n (next b x) t) _ (λ xs u. Unit {0}) _ (yields (many go item next n (next b x) t) _ (λ xs u e. tt)) (λ xs u i. k)))
    (λ a. tt)

-- ---- one item after another, with nothing between

abbrev pub row : {A : Type 0} → (A → List Mark → List Mark) → List A → List Mark → List Mark
row f [] r = r
row f (x ∷ xs) r = f x (row f xs r)

-- ---- an item for each comma

abbrev pub listed : {A : Type 0} → (A → List Mark → List Mark) → List A → List Mark → List Mark
listed f [] r = r
listed f (x ∷ xs) r = Tok (Sign 45) ∷ f x (listed f xs r)

-- each fits and is low enough
abbrev pub Fit : {A : Type 0} → (A → Type 0) → (A → ℕ) → ℕ → A → Type 0
Fit Fits high limit x = Fits x × (high x ≤ limit)

abbrev pub EndsAt : {A : Type 0} → (A → Lexeme → Bool) → A → State → Type 0
EndsAt goes_on x t = Ends goes_on x t.rest

-- some items, with commas between
abbrev pub IsListed : {A : Type 0} → (A → List Mark → List Mark) → (A → Type 0) → (A → Lexeme → Bool) → (A → ℕ) → ℕ → (Bool → State → Bool) → State → List A → State → Type 0
IsListed f Fits goes_on high limit go s xs t = IsList (λ (b : Bool). listed f) (Fit Fits high limit) (EndsAt goes_on) go true s xs t

comma_used : (ss ts : List Placed) (least : ℕ) → first_is (is_sign 45) (lexemes ss) ≡ true → length ts + least ≤ length (tail ss) → length ts + 1 ≤ length ss
comma_used ss ts least a h = let u = taken_used ss (tail ss) (Sign 45) (sign_taken 45 ss a) in omega arith

comma_item : {A : Type 0} (f : A → List Mark → List Mark) (Fits : A → Type 0) (goes_on : A → Lexeme → Bool) (high : A → ℕ) (limit least : ℕ) (b : Bool) (s : State) (x : A) (t : State) → answer (IsSign 45) s ≡ true → IsPiece f Fits goes_on high limit least (beyond s) x t → IsItem (λ (b : Bool). listed f) (Fit Fits high limit) (EndsAt goes_on) (λ b x. b) b s x t
comma_item f Fits goes_on high limit least b s x t a h =
    let k = sign_taken 45 s.rest a in
    let u = taken_used s.rest (tail s.rest) (Sign 45) k in
    let v = h.used in
    record {
      kept = (h.fits, h.low);
      ends = h.ends;
      used = omega arith;
      runs = λ xs r. token_iff (Sign 45) (f x (listed f xs r)) s (tail s.rest) k (h.runs (listed f xs r));
    }

-- a list with commas is read soundly, where a comma is asked for before each item
pub listed_yields : {A : Type 0} (f : A → List Mark → List Mark) (Fits : A → Type 0) (goes_on : A → Lexeme → Bool) (high : A → ℕ) (limit least : ℕ) (item : State → Read A) (go : Bool → State → Bool) → Exact f Fits goes_on high limit least item → ((b : Bool) (s : State) → go b s ≡ true → answer (IsSign 45) s ≡ true) → (s : State) → Yields (all_of go (λ b t. item (beyond t)) (λ b x. b) true s) (IsListed f Fits goes_on high limit go s)
listed_yields f Fits goes_on high limit least item go e c s =
    many_yields (λ (b : Bool). listed f) (Fit Fits high limit) (EndsAt goes_on) go (λ b t. item (beyond t)) (λ b x. b)
    (λ b s r h. iff_same)
    (λ b s a. yields (item (beyond s)) _ (λ x t k. comma_item f Fits goes_on high limit least b s x t (c b s a) (e.piece (beyond s) x t k)))
    (length s.rest + 1) true s

pub commas_yields : {A : Type 0} (f : A → List Mark → List Mark) (Fits : A → Type 0) (goes_on : A → Lexeme → Bool) (high : A → ℕ) (limit least : ℕ) (item : State → Read A) → Exact f Fits goes_on high limit least item → (s : State) → Yields (commas item s) (IsListed f Fits goes_on high limit (λ b t. answer (IsSign 45) t) s)
commas_yields f Fits goes_on high limit least item e s = listed_yields f Fits goes_on high limit least item (λ b t. answer (IsSign 45) t) e (λ b s a. a) s

-- the items of a list fit, and what is behind it doesn't go on from the last
abbrev pub Fitting : {A : Type 0} → (A → Type 0) → (A → Lexeme → Bool) → (A → ℕ) → ℕ → List Mark → List A → Type 0
Fitting Fits goes_on high limit r xs = Every (Fit Fits high limit) xs × Last (λ x. Stops goes_on x r) xs

fitting_behind : {A : Type 0} (Fits : A → Type 0) (goes_on : A → Lexeme → Bool) (high : A → ℕ) (limit : ℕ) (r : List Mark) (x : A) (xs : List A) → Fitting Fits goes_on high limit r (x ∷ xs) → Fitting Fits goes_on high limit r xs
fitting_behind Fits goes_on high limit r x xs h = (h.0.1, last_of_more (λ y. Stops goes_on y r) x xs h.1)

-- neither does a comma, so none of the items goes on
pub stops_in_list : {A : Type 0} (f : A → List Mark → List Mark) (goes_on : A → Lexeme → Bool) (r : List Mark) (x : A) (xs : List A) → goes_on x (Sign 45) ≡ false → Last (λ y. Stops goes_on y r) (x ∷ xs) → Stops goes_on x (listed f xs r)
stops_in_list f goes_on r x [] c h = h
stops_in_list f goes_on r x (y ∷ ys) c h = λ l e. subst (λ o. goes_on x o ≡ false) (some_same (Sign 45) l e) c

-- a list with commas that stands there is read, where the test says so before each item and not behind them
pub listed_finds : {A : Type 0} (f : A → List Mark → List Mark) (Fits : A → Type 0) (goes_on : A → Lexeme → Bool) (high : A → ℕ) (limit least : ℕ) (item : State → Read A) (go : Bool → State → Bool) (r : List Mark) → Exact f Fits goes_on high limit least item → ((b : Bool) (s : State) → go b s ≡ true → answer (IsSign 45) s ≡ true) → ((x : A) → goes_on x (Sign 45) ≡ false) → ((b : Bool) (s : State) (x : A) (m : List Mark) → Fits x → RunsOn (Tok (Sign 45) ∷ f x m) s → go b s ≡ true) → ((b : Bool) (s : State) → RunsOn r s → go b s ≡ false) → (s : State) (xs : List A) → Fitting Fits goes_on high limit r xs → RunsOn (listed f xs r) s → Finds (all_of go (λ b t. item (beyond t)) (λ b x. b) true s) xs r
listed_finds f Fits goes_on high limit least item go r e c d goes stops s xs q h =
    many_finds (λ (b : Bool) ys. listed f ys r) (Fitting Fits goes_on high limit r) r go (λ b t. item (beyond t)) (λ b x. b)
    (λ b s k. (stops b s k, k))
    (λ b s x ys p k. (goes b s x (listed f ys r) p.0.0.0 k, fitting_behind Fits goes_on high limit r x ys p, e.found (beyond s) x (listed f ys r) p.0.0.0 p.0.0.1 (stops_in_list f goes_on r x ys (d x) p.1) (beyond_runs (Sign 45) (f x (listed f ys r)) s k)))
    (λ b s x t a k. comma_used s.rest t.rest least (c b s a) (e.piece (beyond s) x t k).used)
    (length s.rest + 1) true s xs (omega arith) q h

pub commas_finds : {A : Type 0} (f : A → List Mark → List Mark) (Fits : A → Type 0) (goes_on : A → Lexeme → Bool) (high : A → ℕ) (limit least : ℕ) (item : State → Read A) (r : List Mark) → Exact f Fits goes_on high limit least item → ((x : A) → goes_on x (Sign 45) ≡ false) → ((s : State) → RunsOn r s → answer (IsSign 45) s ≡ false) → (s : State) (xs : List A) → Fitting Fits goes_on high limit r xs → RunsOn (listed f xs r) s → Finds (commas item s) xs r
commas_finds f Fits goes_on high limit least item r e d stops s xs q h =
    listed_finds f Fits goes_on high limit least item (λ b t. answer (IsSign 45) t) r e (λ b s a. a) d (λ b s x m p k. sign_next 45 (f x m) s k) (λ b s k. stops s k) s xs q h

-- ---- at least one item, with commas between

abbrev pub begun : {A : Type 0} → (A → List Mark → List Mark) → List A → List Mark → List Mark
begun f [] r = r
begun f (x ∷ xs) r = f x (listed f xs r)

pub record IsBegun {A : Type 0} (f : A → List Mark → List Mark) (Fits : A → Type 0) (goes_on : A → Lexeme → Bool) (high : A → ℕ) (limit least : ℕ) (s : State) (xs : List A) (t : State) : Type 0 where
  pub some : IsSome xs
  pub kept : Every (Fit Fits high limit) xs
  pub ends : Last (λ x. EndsAt goes_on x t) xs
  pub stopped : answer (IsSign 45) t ≡ false
  pub used : length t.rest + least ≤ length s.rest
  pub runs : (r : List Mark) → RunsOn (begun f xs r) s ↔ RunsOn r t

begin_used : {A : Type 0} (xs : List A) (ss ts us : List Placed) (least : ℕ) → length ts + least ≤ length ss → length us + length xs ≤ length ts → length us + least ≤ length ss
begin_used xs ss ts us least h k = omega arith

begin : {A : Type 0} (f : A → List Mark → List Mark) (Fits : A → Type 0) (goes_on : A → Lexeme → Bool) (high : A → ℕ) (limit least : ℕ) (s : State) (x : A) (t : State) (xs : List A) (u : State) → IsPiece f Fits goes_on high limit least s x t → IsListed f Fits goes_on high limit (λ b v. answer (IsSign 45) v) t xs u → IsBegun f Fits goes_on high limit least s (x ∷ xs) u
begin f Fits goes_on high limit least s x t xs u h k = record {
  some = tt;
  kept = ((h.fits, h.low), k.kept);
  ends = ends_before (EndsAt goes_on) x xs t u h.ends k.none k.ends;
  stopped = k.stopped.1;
  used = begin_used xs s.rest t.rest u.rest least h.used k.used;
  runs = λ r. iff_then (h.runs (listed f xs r)) (k.runs r);
}

pub some_commas_yields : {A : Type 0} (f : A → List Mark → List Mark) (Fits : A → Type 0) (goes_on : A → Lexeme → Bool) (high : A → ℕ) (limit least : ℕ) (item : State → Read A) → Exact f Fits goes_on high limit least item → (s : State) → Yields (some_commas item s) (IsBegun f Fits goes_on high limit least s)
some_commas_yields f Fits goes_on high limit least item e s =
    bind_yields (item s) _ (IsPiece f Fits goes_on high limit least s) _ (exact_yields f Fits goes_on high limit least item e s) (λ x t h.
    bind_yields (commas item t) _ (IsListed f Fits goes_on high limit (λ b v. answer (IsSign 45) v) t) _ (commas_yields f Fits goes_on high limit least item e t) (λ xs u k.
    begin f Fits goes_on high limit least s x t xs u h k))

pub some_commas_finds : {A : Type 0} (f : A → List Mark → List Mark) (Fits : A → Type 0) (goes_on : A → Lexeme → Bool) (high : A → ℕ) (limit least : ℕ) (item : State → Read A) (r : List Mark) → Exact f Fits goes_on high limit least item → ((x : A) → goes_on x (Sign 45) ≡ false) → ((s : State) → RunsOn r s → answer (IsSign 45) s ≡ false) → (s : State) (x : A) (xs : List A) → Fitting Fits goes_on high limit r (x ∷ xs) → RunsOn (f x (listed f xs r)) s → Finds (some_commas item s) (x ∷ xs) r
some_commas_finds f Fits goes_on high limit least item r e d stops s x xs q h =
    bind_finds (item s) x (listed f xs r) r _ (x ∷ xs) (e.found s x (listed f xs r) q.0.0.0 q.0.0.1 (stops_in_list f goes_on r x xs (d x) q.1) h) (λ t g.
    bind_finds (commas item t) xs r r _ (x ∷ xs) (commas_finds f Fits goes_on high limit least item r e d stops t xs (fitting_behind Fits goes_on high limit r x xs q) g) (λ u i. (refl, i)))

-- where nothing goes on from any item, a list stops at each token
pub last_stops : {A : Type 0} (goes_on : A → Lexeme → Bool) (r : List Mark) (xs : List A) → ((x : A) → Stops goes_on x r) → Last (λ x. Stops goes_on x r) xs
last_stops goes_on r [] h = tt
last_stops goes_on r (x ∷ xs) h = last_behind (λ y. Stops goes_on y r) x xs (h x) (last_stops goes_on r xs h)

-- ---- one item after another, up to a sign

row_item : {A : Type 0} (f : A → List Mark → List Mark) (Fits : A → Type 0) (goes_on : A → Lexeme → Bool) (high : A → ℕ) (limit : ℕ) (b : Bool) (s : State) (x : A) (t : State) → IsPiece f Fits goes_on high limit 1 s x t → IsItem (λ (b : Bool). row f) (Fit Fits high limit) (EndsAt goes_on) (λ b x. b) b s x t
row_item f Fits goes_on high limit b s x t h = record { kept = (h.fits, h.low); ends = h.ends; used = h.used; runs = λ xs r. h.runs (row f xs r) }

abbrev pub IsRow : {A : Type 0} → (A → List Mark → List Mark) → (A → Type 0) → (A → Lexeme → Bool) → (A → ℕ) → ℕ → (Bool → State → Bool) → State → List A → State → Type 0
IsRow f Fits goes_on high limit go s xs t = IsList (λ (b : Bool). row f) (Fit Fits high limit) (EndsAt goes_on) go true s xs t

pub row_yields : {A : Type 0} (f : A → List Mark → List Mark) (Fits : A → Type 0) (goes_on : A → Lexeme → Bool) (high : A → ℕ) (limit : ℕ) (item : State → Read A) (go : Bool → State → Bool) → Exact f Fits goes_on high limit 1 item → (s : State) → Yields (all_of go (λ b t. item t) (λ b x. b) true s) (IsRow f Fits goes_on high limit go s)
row_yields f Fits goes_on high limit item go e s =
    many_yields (λ (b : Bool). row f) (Fit Fits high limit) (EndsAt goes_on) go (λ b t. item t) (λ b x. b)
    (λ b s r h. iff_same)
    (λ b s a. yields (item s) _ (λ x t k. row_item f Fits goes_on high limit b s x t (e.piece s x t k)))
    (length s.rest + 1) true s

pub row_finds : {A : Type 0} (f : A → List Mark → List Mark) (Fits : A → Type 0) (high : A → ℕ) (limit : ℕ) (item : State → Read A) (go : Bool → State → Bool) (r : List Mark) → Exact f Fits nothing_more high limit 1 item → ((b : Bool) (s : State) (x : A) (m : List Mark) → Fits x → RunsOn (f x m) s → go b s ≡ true) → ((b : Bool) (s : State) → RunsOn r s → go b s ≡ false) → (s : State) (xs : List A) → Every (Fit Fits high limit) xs → RunsOn (row f xs r) s → Finds (all_of go (λ b t. item t) (λ b x. b) true s) xs r
row_finds f Fits high limit item go r e goes stops s xs q h =
    many_finds (λ (b : Bool) ys. row f ys r) (Every (Fit Fits high limit)) r go (λ b t. item t) (λ b x. b)
    (λ b s k. (stops b s k, k))
    (λ b s x ys p k. (goes b s x (row f ys r) p.0.0 k, p.1, e.found s x (row f ys r) p.0.0 p.0.1 (nothing_stops x (row f ys r)) k))
    (λ b s x t a k. (e.piece s x t k).used)
    (length s.rest + 1) true s xs (omega arith) q h

-- ---- lists that a sign behind a comma ends

and_first : (a b : Bool) → (a && b) ≡ true → a ≡ true
and_first true b h = refl
and_first false b h = h

pub without_comma : (k : ℕ) (s : State) → goes_on_without k s ≡ true → answer (IsSign 45) s ≡ true
without_comma k s h = and_first (answer (IsSign 45) s) _ h

-- behind a comma the list goes on, unless this sign is next there
pub without_yes : (k : ℕ) (s : State) → answer (IsSign 45) s ≡ true → answer (IsSign k) (beyond s) ≡ false → goes_on_without k s ≡ true
without_yes k s h g = subst (λ a. (a && not (answer (IsSign k) (beyond s))) ≡ true) (sym h) (ap not g)

pub without_no_comma : (k : ℕ) (s : State) → answer (IsSign 45) s ≡ false → goes_on_without k s ≡ false
without_no_comma k s h = ap (λ a. a && not (answer (IsSign k) (beyond s))) h

pub without_sign : (k : ℕ) (s : State) → answer (IsSign 45) s ≡ true → answer (IsSign k) (beyond s) ≡ true → goes_on_without k s ≡ false
without_sign k s h g = subst (λ a. (a && not (answer (IsSign k) (beyond s))) ≡ false) (sym h) (ap not g)
