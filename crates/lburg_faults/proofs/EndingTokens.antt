-- Templates among tokens, and a token of a list within a front of it.
use Rattle.std.proofs.Common.{◌≡◌, ◌<◌, ◌+◌, ℕ, zero, suc, true, false, List, [], ◌∷◌, ◌++◌, length, take, drop, get_or, Some, refl, sym, ap, ◌∙◌, subst, arith, append_assoc, add-one}
use Rattle.std.specs.Prelude.{slice_get, option_map}
use Rattle.std.proofs.lemmas.Option.{none-some, slice_get-map, slice_get-get_or}
use Rattle.std.proofs.lemmas.List.{take-append-drop}
use Rattle.lburg_lines.specs.declared.token.Sign.TheVariants.{Open, Close, Comma}
use Rattle.lburg_lines.specs.declared.token.Token.{Token}
use Rattle.lburg_lines.specs.Tokens.{Tok, view, views, Word, Number, Negative, Template, Keyword, Mark, Bound, Wrong}
use Rattle.lburg_lines.specs.NamedTree.{MNamed, Alone, Over, Both, tree_then}
use Rattle.lburg_faults.specs.Lines.{has_template}

-- ---- a token of a list

pub get_take : {T : Type 0} (xs : List T) (n i : ℕ) → i < n → slice_get (take n xs) i ≡ slice_get xs i
get_take {T} [] zero i h = refl
get_take {T} [] (suc n) i h = refl
get_take {T} (x ∷ xs) zero i h = absurd (omega arith)
get_take {T} (x ∷ xs) (suc n) zero h = refl
get_take {T} (x ∷ xs) (suc n) (suc i) h = get_take xs n i (omega arith)

pub get_append : {T : Type 0} (xs ys : List T) (i : ℕ) (x : T) → slice_get xs i ≡ Some x → slice_get (xs ++ ys) i ≡ Some x
get_append {T} [] ys i x h = absurd (none-some x h)
get_append {T} (y ∷ xs) ys zero x h = h
get_append {T} (y ∷ xs) ys (suc i) x h = get_append xs ys i x h

pub get_front : {T : Type 0} (xs ys : List T) (i : ℕ) → i < length xs → slice_get (xs ++ ys) i ≡ slice_get xs i
get_front {T} [] ys i h = absurd (omega arith)
get_front {T} (y ∷ xs) ys zero h = refl
get_front {T} (y ∷ xs) ys (suc i) h = get_front xs ys i (omega arith)

pub get_last : {T : Type 0} (xs : List T) (y : T) (i : ℕ) → i ≡ length xs → slice_get (xs ++ y ∷ []) i ≡ Some y
get_last {T} [] y zero h = refl
get_last {T} [] y (suc i) h = absurd (omega arith)
get_last {T} (x ∷ xs) y zero h = absurd (omega arith)
get_last {T} (x ∷ xs) y (suc i) h = get_last xs y i (omega arith)

pub view_at : (ts : List Token) (i : ℕ) (d : Token) → i < length ts → slice_get (views ts) i ≡ Some (view (get_or ts i d))
view_at ts i d h = slice_get-map view ts i ∙ ap (option_map view) (slice_get-get_or ts i d h)

-- ---- templates

pub template_front : (xs ys : List Tok) → has_template (xs ++ ys) ≡ false → has_template xs ≡ false
template_front [] ys h = refl
template_front (Template b ∷ xs) ys h = absurd cc
template_front (Word b ∷ xs) ys h = template_front xs ys h
template_front (Number b ∷ xs) ys h = template_front xs ys h
template_front (Negative b ∷ xs) ys h = template_front xs ys h
template_front (Keyword b ∷ xs) ys h = template_front xs ys h
template_front (Mark b ∷ xs) ys h = template_front xs ys h
template_front (Bound b ∷ xs) ys h = template_front xs ys h
template_front (Wrong ∷ xs) ys h = template_front xs ys h

pub template_append : (xs ys : List Tok) → has_template xs ≡ false → has_template (xs ++ ys) ≡ has_template ys
template_append [] ys h = refl
template_append (Template b ∷ xs) ys h = absurd cc
template_append (Word b ∷ xs) ys h = template_append xs ys h
template_append (Number b ∷ xs) ys h = template_append xs ys h
template_append (Negative b ∷ xs) ys h = template_append xs ys h
template_append (Keyword b ∷ xs) ys h = template_append xs ys h
template_append (Mark b ∷ xs) ys h = template_append xs ys h
template_append (Bound b ∷ xs) ys h = template_append xs ys h
template_append (Wrong ∷ xs) ys h = template_append xs ys h

-- a front of tokens without a template has none
pub template_take : (xs : List Tok) (n : ℕ) → has_template xs ≡ false → has_template (take n xs) ≡ false
template_take xs n h = template_front (take n xs) (drop n xs) (ap has_template (take-append-drop n xs) ∙ h)

pub take_one : (ts : List Tok) (i : ℕ) (t : Tok) → slice_get ts i ≡ Some t → take (i + 1) ts ≡ take i ts ++ t ∷ []
take_one [] i t h = absurd (none-some t h)
take_one (u ∷ ts) zero t h = let e : u ≡ t = cc in ap (λ (x : Tok). x ∷ []) e
take_one (u ∷ ts) (suc i) t h = let e = rw add-one at (take_one ts i t h) in rw add-one (ap (λ (l : List Tok). u ∷ l) e)

pub plain_more : (ts : List Tok) (i : ℕ) (t : Tok) → slice_get ts i ≡ Some t → has_template (take i ts) ≡ false → has_template (t ∷ []) ≡ false → has_template (take (i + 1) ts) ≡ false
plain_more ts i t h p q = ap has_template (take_one ts i t h) ∙ template_append (take i ts) (t ∷ []) p ∙ q

first_template : (t : Tok) (ts : List Tok) → has_template (t ∷ []) ≡ true → has_template (t ∷ ts) ≡ true
first_template (Template b) ts h = refl
first_template (Word b) ts h = absurd cc
first_template (Number b) ts h = absurd cc
first_template (Negative b) ts h = absurd cc
first_template (Keyword b) ts h = absurd cc
first_template (Mark b) ts h = absurd cc
first_template (Bound b) ts h = absurd cc
first_template Wrong ts h = absurd cc

later_template : (t : Tok) (ts : List Tok) → has_template ts ≡ true → has_template (t ∷ ts) ≡ true
later_template (Template b) ts h = refl
later_template (Word b) ts h = h
later_template (Number b) ts h = h
later_template (Negative b) ts h = h
later_template (Keyword b) ts h = h
later_template (Mark b) ts h = h
later_template (Bound b) ts h = h
later_template Wrong ts h = h

-- a template is among the tokens before each place behind it
pub template_at : (ts : List Tok) (i q : ℕ) (t : Tok) → slice_get ts i ≡ Some t → has_template (t ∷ []) ≡ true → i < q → has_template (take q ts) ≡ true
template_at [] i q t h p m = absurd (none-some t h)
template_at (u ∷ ts) i zero t h p m = absurd (omega arith)
template_at (u ∷ ts) zero (suc q) t h p m = let e : t ≡ u = cc in first_template u (take q ts) (subst (λ (x : Tok). has_template (x ∷ []) ≡ true) e p)
template_at (u ∷ ts) (suc i) (suc q) t h p m = later_template u (take q ts) (template_at ts i q t h p (omega arith))

-- and among all of them
pub template_within : (ts : List Tok) (i : ℕ) (t : Tok) → slice_get ts i ≡ Some t → has_template (t ∷ []) ≡ true → has_template ts ≡ true
template_within [] i t h p = absurd (none-some t h)
template_within (u ∷ ts) zero t h p = let e : t ≡ u = cc in first_template u ts (subst (λ (x : Tok). has_template (x ∷ []) ≡ true) e p)
template_within (u ∷ ts) (suc i) t h p = later_template u ts (template_within ts i t h p)

-- ---- trees

-- the tokens of a tree alone
abbrev pub tree_tokens : MNamed → List Tok
tree_tokens (Alone n) = Word n ∷ []
tree_tokens (Over n a) = Word n ∷ (Mark Open ∷ (tree_tokens a ++ Mark Close ∷ []))
tree_tokens (Both n a b) = Word n ∷ (Mark Open ∷ (tree_tokens a ++ Mark Comma ∷ (tree_tokens b ++ Mark Close ∷ [])))

pub tree_parts : (t : MNamed) (rest : List Tok) → tree_then t rest ≡ tree_tokens t ++ rest
tree_parts (Alone n) rest = refl
tree_parts (Over n a) rest =
    ap (λ (l : List Tok). Word n ∷ (Mark Open ∷ l)) (tree_parts a (Mark Close ∷ rest) ∙ sym (append_assoc (tree_tokens a) (Mark Close ∷ []) rest))
tree_parts (Both n a b) rest =
    let inner : tree_then b (Mark Close ∷ rest) ≡ (tree_tokens b ++ Mark Close ∷ []) ++ rest = tree_parts b (Mark Close ∷ rest) ∙ sym (append_assoc (tree_tokens b) (Mark Close ∷ []) rest) in
    ap (λ (l : List Tok). Word n ∷ (Mark Open ∷ l)) (tree_parts a (Mark Comma ∷ tree_then b (Mark Close ∷ rest)) ∙ ap (λ (l : List Tok). tree_tokens a ++ Mark Comma ∷ l) inner ∙ sym (append_assoc (tree_tokens a) (Mark Comma ∷ (tree_tokens b ++ Mark Close ∷ [])) rest))

pub tree_plain : (t : MNamed) → has_template (tree_tokens t) ≡ false
tree_plain (Alone n) = refl
tree_plain (Over n a) = template_append (tree_tokens a) (Mark Close ∷ []) (tree_plain a)
tree_plain (Both n a b) = template_append (tree_tokens a) (Mark Comma ∷ (tree_tokens b ++ Mark Close ∷ [])) (tree_plain a) ∙ template_append (tree_tokens b) (Mark Close ∷ []) (tree_plain b)

-- the last token of a tree is its only one, a name, or closes a parenthesis
pub tree_last : (t : MNamed) → (front : List Tok) × (last : Tok) × (tree_tokens t ≡ front ++ last ∷ []) × ((n : List ℕ) → last ≡ Word n → (front ≡ []) × (t ≡ Alone n))
tree_last (Alone n) = ([], Word n, refl, λ m e. (let f : n ≡ m = cc in (refl, ap Alone f)))
tree_last (Over n a) = (Word n ∷ (Mark Open ∷ tree_tokens a), Mark Close, refl, λ m e. absurd cc)
tree_last (Both n a b) =
    (Word n ∷ (Mark Open ∷ (tree_tokens a ++ Mark Comma ∷ tree_tokens b)), Mark Close, ap (λ (l : List Tok). Word n ∷ (Mark Open ∷ l)) (sym (append_assoc (tree_tokens a) (Mark Comma ∷ tree_tokens b) (Mark Close ∷ []))), λ m e. absurd cc)
