-- Labels and uses among the entries of a map, whose keys are their names.
use Rattle.std.proofs.Common.{◌≡◌, ◌≢◌, ℕ, ◌+◌, zero, suc, Bool, true, false, cond, List, [], ◌∷◌, ◌++◌, length, Option, Some, None, refl, sym, ap, subst, ◌∙◌, append_assoc, arith}
use Rattle.std.specs.Prelude.{slice_get, position, is_some}
use Rattle.std.specs.Borrow.{Bor}
use Rattle.std.specs.Str.{bytes_eq}
use Rattle.std.specs.Map.{lookup, keys_of}
use Rattle.std.proofs.lemmas.List.{map-append}
use Rattle.std.proofs.lemmas.List.Elements.{All-cons, All-nil, All-head, All-tail}
use Rattle.std.proofs.lemmas.Slice.Eq.{bytes_eq-Decides}
use Rattle.std.proofs.lemmas.Bool.Decides.{same_from_decides, Decides-like}
use Rattle.lcc_text.proofs.lemmas.Keys.{now, place_now}
use Rattle.lcc_text.proofs.lemmas.Places.{place_some}
use Rattle.indexmap.specs.IndexMap.{IndexMap, insert_entry}
use Rattle.indexmap.proofs.CallerLemmas.{insert_entry-new}
use Rattle.asm_text.specs.declared.place.Place.{Place}
use Rattle.asm_text.specs.Entries.{labels_in, uses_in}
use Rattle.asm_text.specs.Made.{is_used, with_use, label_at}
use Rattle.asm_text.specs.Makes.{label_names, IsNew}
use Rattle.asm_text.specs.Paired.{paired}
use Rattle.asm_text.specs.Program.{MLabel, place_of}
use Rattle.asm_text.specs.Uses.{use_of, used_names}

abbrev pub Labelled : Type 0
Labelled = Bor (List ℕ) × Place

abbrev pub Used : Type 0
Used = Bor (List ℕ) × ℕ

-- the test for a name among keys
abbrev pub is_key : List ℕ → Bor (List ℕ) → Bool
is_key name k = bytes_eq name k.now

same : (a b : List ℕ) → bytes_eq a b ≡ true → a ≡ b
same a b h = (bytes_eq-Decides a b).0 h

itself : (a : List ℕ) → bytes_eq a a ≡ true
itself a = (bytes_eq-Decides a a).1 refl

turned : (a b : List ℕ) → bytes_eq a b ≡ bytes_eq b a
turned a b = same_from_decides (bytes_eq a b) (bytes_eq b a) (bytes_eq-Decides a b) (Decides-like (bytes_eq b a) sym sym (bytes_eq-Decides b a))

none_of : {A : Type 0} (o : Option A) → is_some o ≡ false → o ≡ None
none_of None h = refl
none_of (Some x) h = absurd cc

missed : {A : Type 0} (b : Bool) (x : A) (o : Option A) → is_some (cond b (Some x) o) ≡ false → (b ≡ false) × (is_some o ≡ false)
missed true x o h = absurd cc
missed false x o h = (refl, h)

unlike : (a b : List ℕ) → bytes_eq a b ≡ false → b ≢ a
unlike a b h e = let f : bytes_eq a b ≡ true = subst (λ (x : List ℕ). bytes_eq a x ≡ true) (sym e) (itself a) in cc

found : {A : Type 0} (b : Bool) (x : A) (o : Option A) → is_some (cond b (Some x) o) ≡ true → b ≡ false → is_some o ≡ true
found true x o h e = absurd cc
found false x o h e = h

-- a new name goes last
pub entries_more : {X S : Type 0} (m : IndexMap (Bor (List ℕ)) X S) (more : List (Bor (List ℕ) × X)) (name : Bor (List ℕ)) (x : X) → is_some (lookup (is_key name.now) m.entries) ≡ false → more ≡ insert_entry (λ a b. bytes_eq a.now b.now) m.entries name x → more ≡ m.entries ++ (name, x) ∷ []
entries_more m more name x h e = e ∙ insert_entry-new (λ a b. bytes_eq a.now b.now) m name x (none_of (lookup (is_key name.now) m.entries) h)

-- ---- labels

-- what is found at a name is its label's place
pub place_at : (name : List ℕ) (es : List Labelled) → lookup (is_key name) es ≡ place_of (labels_in es) name
place_at name [] = refl
place_at name (e ∷ es) = rw (turned name e.0.now, place_at name es) refl

-- a name at which nothing is found is new
pub new_at : (name : List ℕ) (es : List Labelled) → is_some (lookup (is_key name) es) ≡ false → IsNew (label_names (labels_in es)) name
new_at name [] h = All-nil (λ n. n ≢ name)
new_at name (e ∷ es) h =
    let f = missed (bytes_eq name e.0.now) e.1 (lookup (is_key name) es) h in
    All-cons (λ n. n ≢ name) e.0.now (label_names (labels_in es)) (unlike name e.0.now f.0) (new_at name es f.1)

-- one at which something is found isn't
pub known_at : (name : List ℕ) (es : List Labelled) → is_some (lookup (is_key name) es) ≡ true → IsNew (label_names (labels_in es)) name → ⊥
known_at name [] h k = cc
known_at name (e ∷ es) h k = settled (bytes_eq name e.0.now) refl (λ i. known_at name es i (All-tail (λ n. n ≢ name) e.0.now (label_names (labels_in es)) k)) where
  settled : (b : Bool) → bytes_eq name e.0.now ≡ b → (is_some (lookup (is_key name) es) ≡ true → ⊥) → ⊥
  settled true g rest = All-head (λ n. n ≢ name) e.0.now (label_names (labels_in es)) k (sym (same name e.0.now g))
  settled false g rest = rest (found (bytes_eq name e.0.now) e.1 (lookup (is_key name) es) h g)

pub labels_more : (es more : List Labelled) (name : Bor (List ℕ)) (place : Place) → more ≡ es ++ (name, place) ∷ [] → labels_in more ≡ labels_in es ++ label_at place name.now ∷ []
labels_more es more name place e = ap labels_in e ∙ map-append (λ (x : Labelled). label_at x.1 x.0.now) es ((name, place) ∷ [])

-- ---- uses

pub unused_at : (name : List ℕ) (es : List Used) → is_some (lookup (is_key name) es) ≡ false → is_used (uses_in es) name ≡ false
unused_at name [] h = refl
unused_at name (e ∷ es) h =
    let f = missed (bytes_eq name e.0.now) e.1 (lookup (is_key name) es) h in
    rw (turned e.0.now name, f.0, unused_at name es f.1) refl

pub used_at : (name : List ℕ) (es : List Used) → is_some (lookup (is_key name) es) ≡ true → is_used (uses_in es) name ≡ true
used_at name [] h = absurd cc
used_at name (e ∷ es) h = settled (bytes_eq name e.0.now) refl (used_at name es) where
  settled : (b : Bool) → bytes_eq name e.0.now ≡ b → (is_some (lookup (is_key name) es) ≡ true → is_used (uses_in es) name ≡ true) → is_used (uses_in (e ∷ es)) name ≡ true
  settled true g rest = rw (turned e.0.now name, g) refl
  settled false g rest = rw (turned e.0.now name, g) (rest (found (bytes_eq name e.0.now) e.1 (lookup (is_key name) es) h g))

pub names_in : (es : List Used) → used_names (uses_in es) ≡ now (keys_of es)
names_in [] = refl
names_in (e ∷ es) = ap (λ (ns : List (List ℕ)). e.0.now ∷ ns) (names_in es)

-- the name stands at its place
pub named_at : (name : List ℕ) (es : List Used) (i : ℕ) → position (is_key name) (keys_of es) ≡ Some i → slice_get (used_names (uses_in es)) i ≡ Some name
named_at name es i h = rw (names_in es) (place_some (now (keys_of es)) name i (sym (place_now name (keys_of es)) ∙ h))

-- a name that is used changes nothing
pub with_known : (line : ℕ) (name : List ℕ) (es : List Used) → is_some (lookup (is_key name) es) ≡ true → with_use line (uses_in es) name ≡ uses_in es
with_known line name es h = rw (used_at name es h) refl

-- a new one goes last
pub with_new : (line : ℕ) (name : Bor (List ℕ)) (es more : List Used) → is_some (lookup (is_key name.now) es) ≡ false → more ≡ es ++ (name, line) ∷ [] → uses_in more ≡ with_use line (uses_in es) name.now
with_new line name es more h e = rw (unused_at name.now es h) (ap uses_in e ∙ map-append (λ (x : Used). use_of x.0.now x.1) es ((name, line) ∷ []))

last_at : (xs : List (List ℕ)) (x : List ℕ) (n : ℕ) → n ≡ length xs → slice_get (xs ++ x ∷ []) n ≡ Some x
last_at [] x zero e = refl
last_at [] x (suc n) e = absurd (omega arith)
last_at (y ∷ xs) x zero e = absurd (omega arith)
last_at (y ∷ xs) x (suc n) e = last_at xs x n (omega arith)

pub new_number : (line n : ℕ) (name : Bor (List ℕ)) (es more : List Used) → n ≡ length es → more ≡ es ++ (name, line) ∷ [] → slice_get (used_names (uses_in more)) n ≡ Some name.now
new_number line n name es more h e =
    let f : used_names (uses_in more) ≡ used_names (uses_in es) ++ name.now ∷ [] = ap (λ l. used_names (uses_in l)) e ∙ names_more es in
    rw f (last_at (used_names (uses_in es)) name.now n (h ∙ sym (long es)))
  where
    names_more : (es : List Used) → used_names (uses_in (es ++ (name, line) ∷ [])) ≡ used_names (uses_in es) ++ name.now ∷ []
    names_more [] = refl
    names_more (x ∷ es) = ap (λ (ns : List (List ℕ)). x.0.now ∷ ns) (names_more es)

    long : (es : List Used) → length (used_names (uses_in es)) ≡ length es
    long [] = refl
    long (x ∷ es) = ap suc (long es)

pub no_place : (o : Option ℕ) → ((i : ℕ) → o ≡ Some i → ⊥) → is_some o ≡ false
no_place None h = refl
no_place (Some i) h = absurd (h i refl)

-- ---- tables of them

paired_more : (places : List Place) (names : List (List ℕ)) (place : Place) (name : List ℕ) → length places ≡ length names → paired label_at (places ++ place ∷ []) (names ++ name ∷ []) ≡ paired label_at places names ++ label_at place name ∷ []
paired_more [] [] place name e = refl
paired_more [] (n ∷ names) place name e = absurd (omega arith)
paired_more (p ∷ places) [] place name e = absurd (omega arith)
paired_more (p ∷ places) (n ∷ names) place name e = ap (λ (ls : List MLabel). label_at p n ∷ ls) (paired_more places names place name (omega arith))

-- one label more, from those that are left
pub labels_step : (places : List Place) (names : List (List ℕ)) (e : Labelled) (before left : List Labelled) → length places ≡ length names → before ≡ e ∷ left → paired label_at (places ++ e.1 ∷ []) (names ++ e.0.now ∷ []) ++ labels_in left ≡ paired label_at places names ++ labels_in before
labels_step places names e before left h b = rw (paired_more places names e.1 e.0.now h, b) (append_assoc (paired label_at places names) (label_at e.1 e.0.now ∷ []) (labels_in left))
