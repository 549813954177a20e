-- Readers of what stands behind `struct`, `union` and `enum`: a tag, a list in braces, or both.
use Rattle.std.proofs.Common.{◌≡◌, ◌≤◌, ◌↔◌, ℕ, false, Option, Some, None, List, [], ◌∷◌, length, refl, sym, ap, subst, arith}
use Rattle.c_ast.specs.Lexemes.{Lexeme, Name, Keyword, Integer, Character, Text, Sign, Placed}
use Rattle.c_ast.specs.Marks.{Mark, Tok, Ask, IsSign}
use Rattle.c_ast.specs.ExprMarks as marks
use Rattle.c_ast.specs.Trees.{SpecifierTree}
use Rattle.c_readings.specs.Reading.{State, Read, gives, answer, ask, beyond, tail, bind}
use Rattle.c_readings.specs.Readers.{tag, tag_on, tag_or, bare}
use Rattle.c_readings.specs.Exact.{RunsOn, Finds, IsPiece, Exact, nothing_more}
use Rattle.c_readings.proofs.Steps.{Yields, bind_yields, if_yields, exact_yields, nothing_stops, Takes, past, sign_taken, taken_used, token_iff, bind_finds, asked_yes, asked_no, sign_next, beyond_runs, some_same}

-- ---- a tag

tag_or_yields : {B : Type 0} (l : Lexeme) (s t : State) (F : Option (List ℕ) × State → Read B) (Q : B → State → Type 0) → Yields (F (None, s)) Q → ((n : List ℕ) → l ≡ Name n → Yields (F (Some n, t)) Q) → Yields (F (tag_or l s t)) Q
tag_or_yields (Name n) s t F Q f g = g n refl
tag_or_yields (Keyword k) s t F Q f g = f
tag_or_yields (Integer v k) s t F Q f g = f
tag_or_yields (Character v) s t F Q f g = f
tag_or_yields (Text b) s t F Q f g = f
tag_or_yields (Sign k) s t F Q f g = f

tag_on_yields : {B : Type 0} (ts : List Placed) (s : State) (F : Option (List ℕ) × State → Read B) (Q : B → State → Type 0) → Yields (F (None, s)) Q → ((n : List ℕ) (us : List Placed) → Takes ts (Name n) us → Yields (F (Some n, past s us)) Q) → Yields (F (tag_on ts s)) Q
tag_on_yields [] s F Q f g = f
tag_on_yields (t ∷ ts) s F Q f g = tag_or_yields t.lexeme s (past s ts) F Q f (λ n e. g n ts (t.line, ap (λ l. record { lexeme = l; line = t.line } ∷ ts) e))

-- no name is taken, or the one that is next
pub tag_yields : {B : Type 0} (s : State) (F : Option (List ℕ) × State → Read B) (Q : B → State → Type 0) → Yields (F (None, s)) Q → ((n : List ℕ) (us : List Placed) → Takes s.rest (Name n) us → Yields (F (Some n, past s us)) Q) → Yields (F (tag s)) Q
tag_yields s F Q f g = tag_on_yields s.rest s F Q f g

no_tag : (k : ℕ) (m : List Mark) (s : State) → RunsOn (Tok (Sign k) ∷ m) s → tag s ≡ (None, s)
no_tag k m s h = ap (λ ts. tag_on ts s) h.2

one_tag : (n : List ℕ) (m : List Mark) (s : State) (h : RunsOn (Tok (Name n) ∷ m) s) → tag s ≡ (Some n, past s h.1)
one_tag n m s h = ap (λ ts. tag_on ts s) h.2

-- ---- a tag, a list in braces, or both

abbrev pub tagged : {X : Type 0} → (State → Read X) → (Option (List ℕ) → X → SpecifierTree) → (List ℕ → SpecifierTree) → Option (List ℕ) × State → Read SpecifierTree
tagged body make alone p = ask (IsSign 4) p.1 (bind (body (beyond p.1)) (λ x t. gives (make p.0 x) t)) (bare p.0 alone p.1)

-- from s on stands a list in braces, perhaps with a tag before it
pub record IsTagged {X : Type 0} (f : X → List Mark → List Mark) (Fits : X → Type 0) (high : X → ℕ) (limit : ℕ) (s : State) (name : Option (List ℕ)) (x : X) (t : State) : Type 0 where
  pub fits : Fits x
  pub low : high x ≤ limit
  pub used : length t.rest ≤ length s.rest
  pub runs : (r : List Mark) → RunsOn (marks.tag_then name (Tok (Sign 4) ∷ f x r)) s ↔ RunsOn r t

untagged : {X : Type 0} (f : X → List Mark → List Mark) (Fits : X → Type 0) (high : X → ℕ) (limit : ℕ) (s : State) (x : X) (t : State) → Takes s.rest (Sign 4) (tail s.rest) → IsPiece f Fits nothing_more high limit 1 (beyond s) x t → IsTagged f Fits high limit s None x t
untagged f Fits high limit s x t h k = record {
  fits = k.fits;
  low = k.low;
  used = let u = taken_used s.rest (tail s.rest) (Sign 4) h in let v = k.used in omega arith;
  runs = λ r. token_iff (Sign 4) (f x r) s (tail s.rest) h (k.runs r);
}

tagged_by : {X : Type 0} (f : X → List Mark → List Mark) (Fits : X → Type 0) (high : X → ℕ) (limit : ℕ) (s : State) (n : List ℕ) (us : List Placed) (x : X) (t : State) → Takes s.rest (Name n) us → IsTagged f Fits high limit (past s us) None x t → IsTagged f Fits high limit s (Some n) x t
tagged_by f Fits high limit s n us x t h k = record {
  fits = k.fits;
  low = k.low;
  used = let u = taken_used s.rest us (Name n) h in let v = k.used in omega arith;
  runs = λ r. token_iff (Name n) (Tok (Sign 4) ∷ f x r) s us h (k.runs r);
}

bare_yields : (o : Option (List ℕ)) (alone : List ℕ → SpecifierTree) (s : State) (Q : SpecifierTree → State → Type 0) → ((n : List ℕ) → o ≡ Some n → Q (alone n) s) → Yields (bare o alone s) Q
bare_yields None alone s Q h = tt
bare_yields (Some n) alone s Q h = h n refl

braces_yields : {X : Type 0} (f : X → List Mark → List Mark) (Fits : X → Type 0) (high : X → ℕ) (limit : ℕ) (body : State → Read X) (make : Option (List ℕ) → X → SpecifierTree) (alone : List ℕ → SpecifierTree) (Q : SpecifierTree → State → Type 0) → Exact f Fits nothing_more high limit 1 body → (name : Option (List ℕ)) (s : State) → ((x : X) (t : State) → IsTagged f Fits high limit s None x t → Q (make name x) t) → ((n : List ℕ) → answer (IsSign 4) s ≡ false → name ≡ Some n → Q (alone n) s) → Yields (tagged body make alone (name, s)) Q
braces_yields f Fits high limit body make alone Q e name s g h =
    if_yields (answer (IsSign 4) s) _ _ Q
    (λ a. bind_yields (body (beyond s)) _ _ Q (exact_yields f Fits nothing_more high limit 1 body e (beyond s)) (λ x t k. g x t (untagged f Fits high limit s x t (sign_taken 4 s.rest a) k)))
    (λ a. bare_yields name alone s Q (λ n i. h n a i))

none_some : (n : List ℕ) (C : Type 0) → None ≡ Some n → C
none_some n C e = absurd cc

pub tagged_yields : {X : Type 0} (f : X → List Mark → List Mark) (Fits : X → Type 0) (high : X → ℕ) (limit : ℕ) (body : State → Read X) (make : Option (List ℕ) → X → SpecifierTree) (alone : List ℕ → SpecifierTree) (Q : SpecifierTree → State → Type 0) → Exact f Fits nothing_more high limit 1 body → (s : State) → ((name : Option (List ℕ)) (x : X) (t : State) → IsTagged f Fits high limit s name x t → Q (make name x) t) → ((n : List ℕ) (us : List Placed) → Takes s.rest (Name n) us → answer (IsSign 4) (past s us) ≡ false → Q (alone n) (past s us)) → Yields (tagged body make alone (tag s)) Q
tagged_yields f Fits high limit body make alone Q e s g h =
    tag_yields s (tagged body make alone) Q
    (braces_yields f Fits high limit body make alone Q e None s (λ x t k. g None x t k) (λ n a i. none_some n _ i))
    (λ n us k. braces_yields f Fits high limit body make alone Q e (Some n) (past s us) (λ x t i. g (Some n) x t (tagged_by f Fits high limit s n us x t k i)) (λ m a i. subst (λ j. Q (alone j) (past s us)) (some_same n m i) (h n us k a)))

braces_found : {X : Type 0} (f : X → List Mark → List Mark) (Fits : X → Type 0) (high : X → ℕ) (limit : ℕ) (body : State → Read X) (make : Option (List ℕ) → X → SpecifierTree) (alone : List ℕ → SpecifierTree) → Exact f Fits nothing_more high limit 1 body → (name : Option (List ℕ)) (x : X) (r : List Mark) (s : State) → Fits x → high x ≤ limit → RunsOn (Tok (Sign 4) ∷ f x r) s → Finds (tagged body make alone (name, s)) (make name x) r
braces_found f Fits high limit body make alone e name x r s g l h =
    asked_yes (IsSign 4) s _ _ (make name x) r (sign_next 4 (f x r) s h)
    (bind_finds (body (beyond s)) x r r _ (make name x) (e.found (beyond s) x r g l (nothing_stops x r) (beyond_runs (Sign 4) (f x r) s h)) (λ t i. (refl, i)))

pub tagged_found : {X : Type 0} (f : X → List Mark → List Mark) (Fits : X → Type 0) (high : X → ℕ) (limit : ℕ) (body : State → Read X) (make : Option (List ℕ) → X → SpecifierTree) (alone : List ℕ → SpecifierTree) → Exact f Fits nothing_more high limit 1 body → (name : Option (List ℕ)) (x : X) (r : List Mark) (s : State) → Fits x → high x ≤ limit → RunsOn (marks.tag_then name (Tok (Sign 4) ∷ f x r)) s → Finds (tagged body make alone (tag s)) (make name x) r
tagged_found f Fits high limit body make alone e None x r s g l h =
    subst (λ p. Finds (tagged body make alone p) (make None x) r) (sym (no_tag 4 (f x r) s h)) (braces_found f Fits high limit body make alone e None x r s g l h)
tagged_found f Fits high limit body make alone e (Some n) x r s g l h =
    subst (λ p. Finds (tagged body make alone p) (make (Some n) x) r) (sym (one_tag n (Tok (Sign 4) ∷ f x r) s h)) (braces_found f Fits high limit body make alone e (Some n) x r (past s h.1) g l h.3)

pub alone_found : {X : Type 0} (body : State → Read X) (make : Option (List ℕ) → X → SpecifierTree) (alone : List ℕ → SpecifierTree) (n : List ℕ) (r : List Mark) (s : State) → RunsOn (Tok (Name n) ∷ Ask (IsSign 4) false ∷ r) s → Finds (tagged body make alone (tag s)) (alone n) r
alone_found body make alone n r s h =
    subst (λ p. Finds (tagged body make alone p) (alone n) r) (sym (one_tag n (Ask (IsSign 4) false ∷ r) s h)) (asked_no (IsSign 4) (past s h.1) _ _ (alone n) r h.3.0 (refl, h.3.1))
