-- Trees of few names at the front of tokens.
use Rattle.std.proofs.Common.{◌≡◌, ◌<◌, ◌≤◌, ℕ, ◌+◌, ◌-◌, zero, suc, List, [], ◌∷◌, ◌++◌, length, length-append, take, drop, get_or, Some, refl, sym, ap, ◌∙◌, subst, arith, add-one}
use Rattle.std.specs.Prelude.{◌≢◌, slice_get}
use Rattle.std.proofs.lemmas.Option.{none-some, same_Some}
use Rattle.std.proofs.lemmas.List.{take-append-drop, take-map, drop-map, length-map, length-drop, length-take-le}
use Rattle.lcc_text.specs.Stops.{next}
use Rattle.lburg_lines.specs.declared.token.Sign.TheVariants.{Open, Close, Comma}
use Rattle.lburg_lines.specs.declared.token.Token.{Token}
use Rattle.lburg_lines.specs.Tokens.{Tok, Word, Number, Negative, Template, Keyword, Mark, Bound, Wrong, view, views}
use Rattle.lburg_lines.specs.NamedTree.{MNamed, Alone, Over, Both, tree_then, names_in}
use Rattle.lburg_lines.specs.Readings.{Ends, TreeStops}
use Rattle.lburg_faults.specs.Lines.{words_in}
use Rattle.lburg_faults.specs.Uses.{root_of, operands_of}
use Rattle.lburg_faults.specs.Using.{UsedAt, NotUsedAt}
use Rattle.lburg_faults.proofs.RulePatterns.{first_dropped}
use Rattle.lburg_faults.proofs.RuleTokens.{view_at}

-- ---- names among tokens

word_first : (t : Tok) (ts : List Tok) → words_in (t ∷ ts) ≡ words_in (t ∷ []) + words_in ts
word_first (Word n) ts = omega arith
word_first (Number n) ts = omega arith
word_first (Negative n) ts = omega arith
word_first (Template n) ts = omega arith
word_first (Keyword n) ts = omega arith
word_first (Mark n) ts = omega arith
word_first (Bound n) ts = omega arith
word_first Wrong ts = omega arith

-- one token more
pub words_more : (ts : List Tok) (n : ℕ) (t : Tok) → slice_get ts n ≡ Some t → words_in (take (n + 1) ts) ≡ words_in (take n ts) + words_in (t ∷ [])
words_more ts n t e = rw add-one (more ts n t e) where
  more : (ts : List Tok) (n : ℕ) (t : Tok) → slice_get ts n ≡ Some t → words_in (take (suc n) ts) ≡ words_in (take n ts) + words_in (t ∷ [])
  more [] n t e = absurd (none-some t e)
  more (u ∷ ts) zero t e = let h : words_in (u ∷ []) ≡ words_in (t ∷ []) = ap (λ (x : Tok). words_in (x ∷ [])) (same_Some u t e) in omega arith
  more (u ∷ ts) (suc n) t e =
      let a = word_first u (take (suc n) ts) in
      let b = word_first u (take n ts) in
      let c = more ts n t e in
      omega arith

words_append : (xs ys : List Tok) → words_in (xs ++ ys) ≡ words_in xs + words_in ys
words_append [] ys = omega arith
words_append (t ∷ xs) ys =
    let a = word_first t (xs ++ ys) in
    let b = word_first t xs in
    let c = words_append xs ys in
    omega arith

-- fewer tokens have no more names
words_fewer : (ts : List Tok) (n : ℕ) → words_in (take n ts) ≤ words_in ts
words_fewer ts n =
    let e = words_append (take n ts) (drop n ts) in
    let f : words_in (take n ts ++ drop n ts) ≡ words_in ts = ap words_in (take-append-drop n ts) in
    omega arith

-- ---- trees

then_append : (t : MNamed) (x y : List Tok) → tree_then t x ++ y ≡ tree_then t (x ++ y)
then_append (Alone n) x y = refl
then_append (Over n a) x y = ap (λ (l : List Tok). Word n ∷ (Mark Open ∷ l)) (then_append a (Mark Close ∷ x) y)
then_append (Both n a b) x y =
    ap (λ (l : List Tok). Word n ∷ (Mark Open ∷ l)) (then_append a (Mark Comma ∷ tree_then b (Mark Close ∷ x)) y ∙ ap (λ (l : List Tok). tree_then a (Mark Comma ∷ l)) (then_append b (Mark Close ∷ x) y))

words_then : (t : MNamed) (x : List Tok) → words_in (tree_then t x) ≡ names_in t + words_in x
words_then (Alone n) x = omega arith
words_then (Over n a) x = let h = words_then a (Mark Close ∷ x) in omega arith
words_then (Both n a b) x =
    let h = words_then a (Mark Comma ∷ tree_then b (Mark Close ∷ x)) in
    let k = words_then b (Mark Close ∷ x) in
    omega arith

-- the tokens of the tree alone
pub own : (t : MNamed) (x : List Tok) → tree_then t x ≡ tree_then t [] ++ x
own t x = sym (then_append t [] x)

-- a tree begins with its name
pub root_first : (t : MNamed) (x : List Tok) → slice_get (tree_then t x) 0 ≡ Some (Word (root_of t))
root_first (Alone n) x = refl
root_first (Over n a) x = refl
root_first (Both n a b) x = refl

-- what is behind is shorter
pub then_longer : (t : MNamed) (x : List Tok) → length x < length (tree_then t x)
then_longer (Alone n) x = omega arith
then_longer (Over n a) x = let h = then_longer a (Mark Close ∷ x) in omega arith
then_longer (Both n a b) x =
    let h = then_longer a (Mark Comma ∷ tree_then b (Mark Close ∷ x)) in
    let k = then_longer b (Mark Close ∷ x) in
    omega arith

-- ---- the tokens before the 17th name

take_short : (xs ys : List Tok) (k : ℕ) → length xs ≤ k → take k (xs ++ ys) ≡ xs ++ take (k - length xs) ys
take_short [] ys k h = ap (λ (n : ℕ). take n ys) (let e : k ≡ k - 0 = omega arith in e)
take_short (x ∷ xs) ys zero h = absurd (omega arith)
take_short (x ∷ xs) ys (suc k) h = ap (λ (l : List Tok). x ∷ l) (take_short xs ys k (omega arith) ∙ ap (λ (n : ℕ). xs ++ take n ys) (let e : k - length xs ≡ suc k - length (x ∷ xs) = omega arith in e))

take_long : (xs ys : List Tok) (k : ℕ) → k ≤ length xs → take k (xs ++ ys) ≡ take k xs
take_long [] ys zero h = zero_taken ys where
  zero_taken : (ys : List Tok) → take 0 ys ≡ []
  zero_taken [] = refl
  zero_taken (y ∷ ys) = refl
take_long [] ys (suc k) h = absurd (omega arith)
take_long (x ∷ xs) ys zero h = refl
take_long (x ∷ xs) ys (suc k) h = ap (λ (l : List Tok). x ∷ l) (take_long xs ys k (omega arith))

ends_take : (t : MNamed) (x : List Tok) (j : ℕ) → Ends t x → Ends t (take j x)
ends_take (Alone n) [] zero h = λ e. cc
ends_take (Alone n) [] (suc j) h = λ e. cc
ends_take (Alone n) (y ∷ x) zero h = λ e. cc
ends_take (Alone n) (y ∷ x) (suc j) h = h
ends_take (Over n a) x j h = tt
ends_take (Both n a b) x j h = tt

-- the front of these tokens up to the 17th name
pub record IsFew (here : List Tok) (k : ℕ) : Type 0 where
  pub within : k ≤ length here
  pub few : words_in (take k here) ≤ 16
  pub next : k < length here → 16 < words_in (take (k + 1) here)

-- it has each small tree with what ends it
small_within : (t : MNamed) (rest : List Tok) (k : ℕ) → names_in t ≤ 16 → IsFew (tree_then t rest) k → length (tree_then t []) ≤ k
small_within t rest k h f =
    let L = length (tree_then t []) in
    let e = own t rest in
    let n = ap length e in
    let m = length-append (tree_then t []) rest in
    let bad : k < length (tree_then t []) → ⊥ = λ l.
    (let w = f.next (omega arith) in
    let a : take (k + 1) (tree_then t rest) ≡ take (k + 1) (tree_then t []) = ap (λ (x : List Tok). take (k + 1) x) e ∙ take_long (tree_then t []) rest (k + 1) (omega arith) in
    let b = ap words_in a in
    let c = words_fewer (tree_then t []) (k + 1) in
    let d = words_then t [] in
    omega arith) in
    omega (arith, bad)

pub few_then : (t : MNamed) (rest : List Tok) (k : ℕ) → names_in t ≤ 16 → Ends t rest → IsFew (tree_then t rest) k → (after : List Tok) × Ends t after × (take k (tree_then t rest) ≡ tree_then t after)
few_then t rest k h e f =
    let l = small_within t rest k h f in
    let j = k - length (tree_then t []) in
    (take j rest, ends_take t rest j e, ap (λ (x : List Tok). take k x) (own t rest) ∙ take_short (tree_then t []) rest k l ∙ then_append t [] (take j rest))

-- behind it stands the 17th name, or nothing
behind_few : (here : List Tok) (k : ℕ) → IsFew here k → next (drop k here) ≢ Some (Mark Open)
behind_few here k f e =
    let s = dropped here k e in
    let a = words_more here k (Mark Open) s in
    let l : k < length here = within here k (Mark Open) s in
    let n = f.next l in
    let m = f.few in
    omega arith where
      dropped : (ts : List Tok) (k : ℕ) → next (drop k ts) ≡ Some (Mark Open) → slice_get ts k ≡ Some (Mark Open)
      dropped [] zero e = absurd cc
      dropped [] (suc k) e = absurd cc
      dropped (t ∷ ts) zero e = e
      dropped (t ∷ ts) (suc k) e = dropped ts k e

      within : (ts : List Tok) (k : ℕ) (t : Tok) → slice_get ts k ≡ Some t → k < length ts
      within [] k t e = absurd (none-some t e)
      within (u ∷ ts) zero t e = omega arith
      within (u ∷ ts) (suc k) t e = let h = within ts k t e in omega arith

ends_behind : (t : MNamed) (x y : List Tok) → Ends t x → next y ≢ Some (Mark Open) → Ends t (x ++ y)
ends_behind (Alone n) [] y h k = k
ends_behind (Alone n) (z ∷ x) y h k = h
ends_behind (Over n a) x y h k = tt
ends_behind (Both n a b) x y h k = tt

-- ---- the use at a place

pub counted_more : (ts : List Token) (n : ℕ) (d : Token) (names more : ℕ) → n < length ts → words_in (take n (views ts)) ≡ names → more ≡ words_in (view (get_or ts n d) ∷ []) → words_in (take (n + 1) (views ts)) ≡ names + more
counted_more ts n d names more l e f =
    let h = words_more (views ts) n (view (get_or ts n d)) (view_at ts n d (get_or ts n d) l refl) in
    omega arith

pub few_of : (here : List Token) (k : ℕ) → k ≤ length here → words_in (take k (views here)) ≤ 16 → (k < length here → 16 < words_in (take (k + 1) (views here))) → IsFew (views here) k
few_of here k l f n = record {
  within = (let e = length-map here view in omega arith);
  few = f;
  next = λ h. n (let e = length-map here view in omega arith);
}

-- a tree that was read
pub use_found : (ts here few rest : List Token) (t : MNamed) (place k last : ℕ) → place < length ts → here ≡ drop place ts → few ≡ take k here → IsFew (views here) k → views few ≡ tree_then t (views rest) → Ends t (views rest) → length rest < length few → last ≡ place + (length few - length rest - 1) → UsedAt (views ts) place last (operands_of t)
use_found ts here few rest t place k last le eh ef f parse ends short el l name e p w =
    let behind = drop k (views here) in
    let vh : drop place (views ts) ≡ views here = drop-map view place ts ∙ ap views (sym eh) in
    let vf : views few ≡ take k (views here) = ap views ef ∙ sym (take-map view k here) in
    let start : drop place l.tokens ≡ views here = ap (λ (x : List Tok). drop place x) e ∙ vh in
    let tokens : drop place l.tokens ≡ tree_then t (views rest ++ behind) = start ∙ sym (take-append-drop k (views here)) ∙ ap (λ (x : List Tok). x ++ behind) (sym vf ∙ parse) ∙ then_append t (views rest) behind in
    let first : slice_get (drop place (views ts)) 0 ≡ Some (Word name) = ap (λ (x : List Tok). slice_get x 0) (first_dropped (views ts) place (Word name) w) in
    let root : slice_get (drop place l.tokens) 0 ≡ Some (Word (root_of t)) = ap (λ (x : List Tok). slice_get x 0) tokens ∙ root_first t (views rest ++ behind) in
    let same : Word (root_of t) ≡ Word name = same_Some _ _ (sym root ∙ ap (λ (x : List Tok). slice_get (drop place x) 0) e ∙ first) in
    record {
      in_pattern = p;
      tree = t;
      rest = views rest ++ behind;
      tokens = tokens;
      ends = ends_behind t (views rest) behind ends (behind_few (views here) k f);
      small = (let a = f.few in let b = ap words_in (sym vf ∙ parse) in let d = words_then t (views rest) in omega arith);
      name_is = (let s = same in cc);
      operands_are = refl;
      last_is = (
          let a = length-append (views rest) behind in
          let b = length-map rest view in
          let d : length behind ≡ length (views here) - k = length-drop k (views here) in
          let g = length-map here view in
          let h : length here ≡ length ts - place = ap length eh ∙ length-drop place ts in
          let i : length few ≡ k = ap length ef ∙ length-take-le k here (let q = f.within in omega arith) in
          let j : length l.tokens ≡ length ts = ap length e ∙ length-map ts view in
          let m = f.within in
          omega arith);
    }

-- no tree was read
pub use_missing : (ts here few : List Token) (place k : ℕ) → here ≡ drop place ts → few ≡ take k here → IsFew (views here) k → (stop : List Tok) → TreeStops (views few) stop → NotUsedAt (views ts) place
use_missing ts here few place k eh ef f stop s l last n name e u =
    let vh : drop place (views ts) ≡ views here = drop-map view place ts ∙ ap views (sym eh) in
    let vf : views few ≡ take k (views here) = ap views ef ∙ sym (take-map view k here) in
    let at : views here ≡ tree_then u.tree u.rest = sym vh ∙ ap (λ (x : List Tok). drop place x) (sym e) ∙ u.tokens in
    let P : List Tok → Type 0 = λ x. IsFew x k in
    let r = few_then u.tree u.rest k u.small u.ends (subst P at f) in
    s.stuck u.tree r.0 stop r.1 (sym s.parts ∙ vf ∙ ap (λ (x : List Tok). take k x) at ∙ r.2) refl
