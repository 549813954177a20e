-- What a look among bindings finds, by the number of the name.
use Rattle.std.proofs.Common.{◌≡◌, ℕ, ◌<◌, ◌≤◌, Bool, true, false, cond, eqb, List, [], ◌∷◌, ◌++◌, length, map, reverse, get_or, Option, Some, None, refl, sym, ap, subst, ◌∙◌, ⊎_elim, arith}
use Rattle.std.specs.Prelude.{Vec, position, slice_get, is_some}
use Rattle.std.specs.declared.alloc.Global.{Global}
use Rattle.std.specs.List.{position_or_len, IsDistinct}
use Rattle.std.specs.Str.{bytes_eq}
use Rattle.std.specs.Map.{keys_of}
use Rattle.std.proofs.lemmas.List.{map-append, reverse-append, length-map, get_or-map}
use Rattle.std.proofs.lemmas.Option.{slice_get-get_or}
use Rattle.std.proofs.lemmas.List.Sums.{fails_before_first}
use Rattle.std.proofs.lemmas.List.Quantifiers.{position-Some}
use Rattle.std.proofs.lemmas.Map.Keys.{apart_from_distinct}
use Rattle.std.proofs.lemmas.Bool.{eq-eqb, ne_eqb, lt-ltb, cases_lt, cases_order, false_from_ne_true}
use Rattle.std.proofs.lemmas.Slice.Eq.{bytes_eq-Decides}
use Rattle.indexmap.specs.IndexMap.{IndexMap, get_by, insert_entry}
use Rattle.indexmap.proofs.CallerLemmas.{insert_entry-new}
use Rattle.c_ast.specs.InForce.{Binding, look_in}
use Rattle.names_in_force.specs.declared.bound.Bound.{Bound}
use Rattle.names_in_force.specs.Numbered.{Known, names_in, named, made, HaveNames}
use Rattle.names_in_force.proofs.Numbering.{have_reverse}

pub map_reverse : {X Y : Type 0} (f : X → Y) (xs : List X) → map f (reverse xs) ≡ reverse (map f xs)
map_reverse f [] = refl
map_reverse f (x ∷ xs) =
    ap (map f) (reverse-append (x ∷ []) xs) ∙ map-append f (reverse xs) (x ∷ []) ∙ ap (λ ys. ys ++ f x ∷ []) (map_reverse f xs) ∙ sym (reverse-append (f x ∷ []) (map f xs))

-- ---- a look by the number

look_made : (known : Known) (bs : List Bound) (name : List ℕ) (i : ℕ) → HaveNames known bs → ((m : ℕ) → m < length known → bytes_eq (get_or (names_in known) m []) name ≡ eqb m i)
    → look_in (map (named (names_in known)) bs) name false ≡ made bs i
look_made known [] name i h same = refl
look_made known (b ∷ bs) name i h same =
    ap (λ (c : Bool). cond c b.typedef (look_in (map (named (names_in known)) bs) name false)) (same b.number h.0)
    ∙ ap (λ (x : Bool). cond (eqb b.number i) b.typedef x) (look_made known bs name i h.1 same)

look_nothing : (known : Known) (bs : List Bound) (name : List ℕ) → HaveNames known bs → ((m : ℕ) → m < length known → bytes_eq (get_or (names_in known) m []) name ≡ false)
    → look_in (map (named (names_in known)) bs) name false ≡ false
look_nothing known [] name h other = refl
look_nothing known (b ∷ bs) name h other =
    ap (λ (c : Bool). cond c b.typedef (look_in (map (named (names_in known)) bs) name false)) (other b.number h.0)
    ∙ look_nothing known bs name h.1 other

-- ---- the number of a name

abbrev Test : Type 0
Test = Vec ℕ Global → Bool

abbrev Is : List ℕ → Test
Is name k = bytes_eq name k.items

abbrev same_key : Vec ℕ Global → Vec ℕ Global → Bool
same_key a b = bytes_eq a.items b.items

key_name : (known : Known) (m : ℕ) (d : Vec ℕ Global × Bool) → m < length known → get_or (names_in known) m [] ≡ (get_or (keys_of known) m d.0).items
key_name known m d l =
    get_or-map (λ (e : Vec ℕ Global × Bool). e.0.items) known m d [] l
    ∙ ap (λ (k : Vec ℕ Global). k.items) (sym (get_or-map (λ (e : Vec ℕ Global × Bool). e.0) known m d d.0 l))

aside : (b : Bool) (i : ℕ) → b ≡ true → cond b (Some i) None ≡ None → ⊥
aside b i e h = let P : Bool → Type 0 = λ x. cond x (Some i) None ≡ None in let k = subst P e h in cc

-- no key is the name where it has no place
none_is : (ks : List (Vec ℕ Global)) (name : List ℕ) (m : ℕ) (d : Vec ℕ Global) → position (Is name) ks ≡ None → m < length ks → bytes_eq name (get_or ks m d).items ≡ false
none_is ks name m d h l = ⊎_elim
    (λ (k : position_or_len (Is name) ks < length ks). absurd (aside _ _ (lt-ltb _ _ k) h))
    (λ (k : length ks ≤ position_or_len (Is name) ks). fails_before_first (Is name) ks m d (omega arith))
    (cases_lt (position_or_len (Is name) ks) (length ks))

turned : (a b : List ℕ) → bytes_eq a b ≡ false → bytes_eq b a ≡ false
turned a b h = false_from_ne_true (bytes_eq b a) (λ t. (let e : b ≡ a = (bytes_eq-Decides b a).0 t in let u : bytes_eq a b ≡ true = (bytes_eq-Decides a b).1 (sym e) in cc))

-- of keys that differ, the one at its place alone is the name
one_is : (ks : List (Vec ℕ Global)) (name : List ℕ) (i m : ℕ) (d : Vec ℕ Global) → position (Is name) ks ≡ Some i → IsDistinct same_key ks → m < length ks → bytes_eq (get_or ks m d).items name ≡ eqb m i
one_is ks name i m d h u l =
    let p = position-Some (Is name) ks i d h in
    let n : name ≡ (get_or ks i d).items = (bytes_eq-Decides name (get_or ks i d).items).0 p.1 in
    ⊎_elim
    (λ (e : m ≡ i). (bytes_eq-Decides (get_or ks m d).items name).1 (ap (λ (k : ℕ). (get_or ks k d).items) e ∙ sym n) ∙ sym (eq-eqb m i e))
    (⊎_elim
    (λ (below : m < i). turned name (get_or ks m d).items (p.2 m below) ∙ sym (ne_eqb m i (λ e. omega arith)))
    (λ (above : i < m). ap (bytes_eq (get_or ks m d).items) n ∙ turned (get_or ks i d).items (get_or ks m d).items (apart_from_distinct same_key ks i m d u above l) ∙ sym (ne_eqb m i (λ e. omega arith))))
    (cases_order m i)

pub place_is : (known : Known) (name : List ℕ) (i : ℕ) → position (Is name) (keys_of known) ≡ Some i → i < length known → slice_get (names_in known) i ≡ Some name
place_is [] name i at l = absurd (omega arith)
place_is (e ∷ es) name i at l =
    let p = position-Some (Is name) (keys_of (e ∷ es)) i e.0 at in
    slice_get-get_or (names_in (e ∷ es)) i [] (omega (arith, length-map (e ∷ es) (λ (x : Vec ℕ Global × Bool). x.0.items)))
    ∙ ap (λ (n : List ℕ). Some n) (key_name (e ∷ es) i e l ∙ sym ((bytes_eq-Decides name (get_or (keys_of (e ∷ es)) i e.0).items).0 p.1))

-- a name that no key is gets a key behind the others
pub entered : {S : Type 0} (m : IndexMap (Vec ℕ Global) Bool S) (v : Vec ℕ Global) (name : List ℕ) → v.items ≡ name → false ≡ is_some (get_by (Is name) m) → insert_entry same_key m.entries v false ≡ m.entries ++ (v, false) ∷ []
entered m v name i h = insert_entry-new same_key m v false (subst (λ (n : List ℕ). get_by (Is n) m ≡ None) (sym i) (by (get_by (Is name) m) h)) where
  by : (o : Option Bool) → false ≡ is_some o → o ≡ None
  by None e = refl
  by (Some b) e = let x : false ≡ true = e in cc

-- ---- the look among all bindings

pub found_made : (known : Known) (bound : List Bound) (name : List ℕ) (i : ℕ) → HaveNames known bound → position (Is name) (keys_of known) ≡ Some i → IsDistinct same_key (keys_of known)
    → look_in (reverse (map (named (names_in known)) bound)) name false ≡ made (reverse bound) i
found_made known bound name i h at u =
    ap (λ (bs : List Binding). look_in bs name false) (sym (map_reverse (named (names_in known)) bound))
    ∙ look_made known (reverse bound) name i (have_reverse known bound h) (by known at u)
  where
    by : (known : Known) → position (Is name) (keys_of known) ≡ Some i → IsDistinct same_key (keys_of known) → (m : ℕ) → m < length known → bytes_eq (get_or (names_in known) m []) name ≡ eqb m i
    by [] at u m l = absurd (omega arith)
    by (e ∷ es) at u m l =
        ap (λ (n : List ℕ). bytes_eq n name) (key_name (e ∷ es) m e l)
        ∙ one_is (keys_of (e ∷ es)) name i m e.0 at u (omega (arith, length-map (e ∷ es) (λ (x : Vec ℕ Global × Bool). x.0)))

pub found_nothing : (known : Known) (bound : List Bound) (name : List ℕ) → HaveNames known bound → position (Is name) (keys_of known) ≡ None
    → look_in (reverse (map (named (names_in known)) bound)) name false ≡ false
found_nothing known bound name h at =
    ap (λ (bs : List Binding). look_in bs name false) (sym (map_reverse (named (names_in known)) bound))
    ∙ look_nothing known (reverse bound) name (have_reverse known bound h) (by known at)
  where
    by : (known : Known) → position (Is name) (keys_of known) ≡ None → (m : ℕ) → m < length known → bytes_eq (get_or (names_in known) m []) name ≡ false
    by [] at m l = absurd (omega arith)
    by (e ∷ es) at m l =
        ap (λ (n : List ℕ). bytes_eq n name) (key_name (e ∷ es) m e l)
        ∙ turned name _ (none_is (keys_of (e ∷ es)) name m e.0 at (omega (arith, length-map (e ∷ es) (λ (x : Vec ℕ Global × Bool). x.0))))
