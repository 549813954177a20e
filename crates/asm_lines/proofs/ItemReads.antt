-- What the readers of items find.
use Rattle.std.proofs.Common.{◌≡◌, ◌<◌, ◌≤◌, ◌+◌, ◌-◌, ℕ, Option, Some, None, List, [], ◌∷◌, ◌++◌, length, drop, refl, sym, ap, subst, append_assoc, arith}
use Rattle.std.proofs.lemmas.List.{length-map, length-drop}
use Rattle.asm_lines.specs.declared.token.Token.{Token}
use Rattle.asm_lines.specs.Tokens.{Spaced, view, views}
use Rattle.asm_lines.specs.Numbers.{MLink, LinksThen, AreLinks, IsSum, NoLink}
use Rattle.asm_lines.specs.Operands.{NameThen, CommaThen, PlaceThen, Listed}
use Rattle.asm_lines.proofs.Suffixes.{IsBehind, behind_all, behind_one, behind_next, behind_behind, behind_at, behind_short}
use Rattle.asm_lines.proofs.NumberReads.{number_behind}
use Rattle.asm_lines.proofs.OneOperand.{ReadsOnce, one_comma, comma_no_link, no_end_comma}

-- ---- what stands behind an item

links_then_behind : (ls : List MLink) (ts rest : List Spaced) → LinksThen ls ts rest → IsBehind ts rest
links_then_behind [] ts rest h = behind_all ts rest h
links_then_behind (l ∷ ls) [] rest h = absurd h
links_then_behind (l ∷ ls) (t ∷ ts) rest h =
    behind_one t ts rest (behind_behind ts h.1.0 rest (number_behind ts h.1.0 _ (l.number, h.1.1, h.1.2, refl)) (links_then_behind ls h.1.0 rest h.1.3))

links_behind : (ts rest : List Spaced) (from n : ℕ) → AreLinks ts from n rest → IsBehind ts rest
links_behind ts rest from n h = links_then_behind h.0 ts rest h.1

pub sum_behind : (ts rest : List Spaced) (n : ℕ) → IsSum ts n rest → IsBehind ts rest
sum_behind ts rest n h = behind_behind ts h.1 rest (number_behind ts h.1 h.0 h.2) (links_behind h.1 rest h.0 n h.3)

name_behind : (ts rest : List Spaced) (n : List ℕ) → NameThen ts n rest → IsBehind ts rest
name_behind [] rest n h = absurd h
name_behind (t ∷ ts) rest n h = behind_one t ts rest (behind_all ts rest h.1)

pub place_behind : (ts rest : List Spaced) (n : Option (List ℕ)) (k : ℕ) → PlaceThen ts n k rest → IsBehind ts rest
place_behind ts rest (Some n) k h = behind_behind ts h.0 rest (name_behind ts h.0 n h.1) (links_behind h.0 rest 0 k h.2)
place_behind ts rest None k h = sum_behind ts rest k h

comma_next : (ts rest : List Spaced) → CommaThen ts rest → (t : Spaced) × (ts ≡ t ∷ rest)
comma_next [] rest h = absurd h
comma_next (t ∷ ts) rest h = (t, ap (λ (l : List Spaced). t ∷ l) h.1)

-- what is left behind an item and a comma
pub left_at : (tokens left rest : List Token) (mid : List Spaced) (at : ℕ) → left ≡ drop at tokens → IsBehind (views left) mid → CommaThen mid (views rest) → views (drop (length tokens - length rest) tokens) ≡ views rest
left_at tokens left rest mid at d b h =
    let k = comma_next mid (views rest) h in
    behind_at tokens left rest at d (behind_behind (views left) mid (views rest) b (behind_next k.0 mid (views rest) (views rest) k.1 (behind_all (views rest) (views rest) refl)))

-- and it is shorter
pub left_length : (tokens left rest : List Token) (mid : List Spaced) (at : ℕ) → left ≡ drop at tokens → at ≤ length tokens → IsBehind (views left) mid → CommaThen mid (views rest) → length rest + at < length tokens
left_length tokens left rest mid at d l b h =
    let k = comma_next mid (views rest) h in
    let s = behind_short (views left) mid b in
    let e = ap (λ (i : List Token). length i) d in
    let f = ap (λ (i : List Spaced). length i) k.1 in
    omega (arith, length-drop at tokens, length-map left view, length-map rest view)

pub no_views : (tokens : List Token) → (tokens ≡ [] → ⊥) → views tokens ≡ [] → ⊥
no_views [] h e = h refl
no_views (t ∷ ts) h e = cc

pub empty_views : (tokens : List Token) → length tokens ≡ 0 → views tokens ≡ []
empty_views [] e = refl
empty_views (t ∷ ts) e = absurd (omega arith)

-- ---- items, one after another

-- items that were found, and what is left
pub record Found {A : Type 0} (Item : List Spaced → A → List Spaced → Type 0) (ts : List Spaced) (found : List A) (left : List Spaced) : Type 0 where
  pub ahead : (more : List A) → Listed Item left more → Listed Item ts (found ++ more)
  pub back : (all : List A) → Listed Item ts all → (more : List A) × Listed Item left more

-- the same at what the tokens behind a place are
pub found_here : {A : Type 0} (Item : List Spaced → A → List Spaced → Type 0) (ts : List Spaced) (found : List A) (tokens left : List Token) (at : ℕ) → left ≡ drop at tokens → Found Item ts found (views (drop at tokens)) → Found Item ts found (views left)
found_here {A} Item ts found tokens left at e f = let P : List Token → Type 0 = λ l. Found Item ts found (views l) in subst P (sym e) f

item_before : {A : Type 0} (Item : List Spaced → A → List Spaced → Type 0) (left mid behind : List Spaced) (a : A) (more : List A) → Item left a mid → CommaThen mid behind → Listed Item behind more → Listed Item left (a ∷ more)
item_before {A} Item left mid behind a [] p k h = absurd h
item_before {A} Item left mid behind a (b ∷ more) p k h = (mid, behind, p, k, h)

items_behind : {A : Type 0} (Item : List Spaced → A → List Spaced → Type 0) (left mid behind : List Spaced) (a : A) (more : List A) → ReadsOnce Item → Item left a mid → NoLink mid → CommaThen mid behind → Listed Item left more → (others : List A) × Listed Item behind others
items_behind {A} Item left mid behind a [] once p g k h = absurd h
items_behind {A} Item left mid behind a (b ∷ []) once p g k h = absurd (no_end_comma mid behind (once left mid [] a b p g h tt).1 k)
items_behind {A} Item left mid behind a (b ∷ d ∷ more) once p g k h =
    let e = once left h.0 mid b a h.2 (comma_no_link h.0 h.1 h.3) p g in
    let P : List Spaced → Type 0 = λ l. CommaThen l h.1 in
    let f = one_comma mid h.1 behind (subst P e.1 h.3) k in
    let Q : List Spaced → Type 0 = λ l. Listed Item l (d ∷ more) in
    (d ∷ more, subst Q f h.4)

pub found_more : {A : Type 0} (Item : List Spaced → A → List Spaced → Type 0) (ts left mid behind new : List Spaced) (found now : List A) (a : A) → ReadsOnce Item → Found Item ts found left → Item left a mid → NoLink mid → CommaThen mid behind → new ≡ behind → now ≡ found ++ a ∷ [] → Found Item ts now new
found_more {A} Item ts left mid behind new found now a once f p g k e i =
    rw (e, i) (record {
      ahead = λ more h. (let P : List A → Type 0 = λ l. Listed Item ts l in subst P (sym (append_assoc found (a ∷ []) more)) (f.ahead (a ∷ more) (item_before Item left mid behind a more p k h)));
      back = λ all h. (let q = f.back all h in items_behind Item left mid behind a q.0 once p g k q.1);
    })

pub found_last : {A : Type 0} (Item : List Spaced → A → List Spaced → Type 0) (ts left mid : List Spaced) (found now : List A) (a : A) → Found Item ts found left → Item left a mid → mid ≡ [] → now ≡ found ++ a ∷ [] → Listed Item ts now
found_last {A} Item ts left mid found now a f p e i =
    let P : List Spaced → Type 0 = λ l. Item left a l in
    rw i (f.ahead (a ∷ []) (subst P e p))

no_item : {A : Type 0} (Item : List Spaced → A → List Spaced → Type 0) (left : List Spaced) (more : List A) → ((a : A) (rest : List Spaced) → Item left a rest → NoLink rest → ⊥) → Listed Item left more → ⊥
no_item {A} Item left [] k h = h
no_item {A} Item left (b ∷ []) k h = k b [] h tt
no_item {A} Item left (b ∷ d ∷ more) k h = k b h.0 h.2 (comma_no_link h.0 h.1 h.3)

-- no item stands next
pub no_found_item : {A : Type 0} (Item : List Spaced → A → List Spaced → Type 0) (ts left : List Spaced) (found : List A) → Found Item ts found left → ((a : A) (rest : List Spaced) → Item left a rest → NoLink rest → ⊥) → (all : List A) → Listed Item ts all → ⊥
no_found_item {A} Item ts left found f k all h = let q = f.back all h in no_item Item left q.0 k q.1

no_comma : {A : Type 0} (Item : List Spaced → A → List Spaced → Type 0) (left mid : List Spaced) (a : A) (more : List A) → ReadsOnce Item → Item left a mid → NoLink mid → (mid ≡ [] → ⊥) → ((rest : List Spaced) → CommaThen mid rest → ⊥) → Listed Item left more → ⊥
no_comma {A} Item left mid a [] once p g e k h = h
no_comma {A} Item left mid a (b ∷ []) once p g e k h = e (once left mid [] a b p g h tt).1
no_comma {A} Item left mid a (b ∷ d ∷ more) once p g e k h =
    let i = once left h.0 mid b a h.2 (comma_no_link h.0 h.1 h.3) p g in
    let P : List Spaced → Type 0 = λ l. CommaThen l h.1 in
    k h.1 (subst P i.1 h.3)

-- something else than a comma stands behind an item
pub no_found_comma : {A : Type 0} (Item : List Spaced → A → List Spaced → Type 0) (ts left mid : List Spaced) (found : List A) (a : A) → ReadsOnce Item → Found Item ts found left → Item left a mid → NoLink mid → (mid ≡ [] → ⊥) → ((rest : List Spaced) → CommaThen mid rest → ⊥) → (all : List A) → Listed Item ts all → ⊥
no_found_comma {A} Item ts left mid found a once f p g e k all h = let q = f.back all h in no_comma Item left mid a q.0 once p g e k q.1
