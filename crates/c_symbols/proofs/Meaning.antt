-- What names mean by their places: looks, new names and writes.
use Rattle.std.proofs.Common.{◌≡◌, ℕ, zero, suc, ◌<◌, Bool, true, false, cond, List, [], ◌∷◌, ◌++◌, length, get_or, Option, Some, None, refl, sym, ap, subst, ◌∙◌, arith}
use Rattle.std.specs.Prelude.{Vec, position, is_some}
use Rattle.std.specs.Str.{bytes_eq}
use Rattle.std.specs.Map.{keys_of, lookup}
use Rattle.std.specs.declared.alloc.Global.{Global}
use Rattle.std.proofs.lemmas.Bool.{false_from_ne_true}
use Rattle.std.proofs.lemmas.List.Quantifiers.{position-Some}
use Rattle.std.proofs.lemmas.Slice.Eq.{bytes_eq-Decides}
use Rattle.indexmap.specs.IndexMap.{IndexMap, get_by, insert_entry}
use Rattle.indexmap.specs.Layout.{set_value_at}
use Rattle.indexmap.proofs.CallerLemmas.{insert_entry-new}
use Rattle.c_symbols.specs.Meanings.{IsAt, MeanTheSame, Meant, meaning, meant_in}

abbrev Entries : Type 0
Entries = List (Vec ℕ Global × Option ℕ)

abbrev Is : List ℕ → Vec ℕ Global → Bool
Is name k = bytes_eq name k.items

-- ---- looks

abbrev joined : Option (Option ℕ) → Option ℕ
joined (Some m) = m
joined None = None

meaning_lookup : (es : Entries) (name : List ℕ) → joined (lookup (Is name) es) ≡ meaning (meant_in es) name
meaning_lookup [] name = refl
meaning_lookup (e ∷ es) name = by (bytes_eq name e.0.items) (meaning_lookup es name)
  where
    by : (b : Bool) → joined (lookup (Is name) es) ≡ meaning (meant_in es) name → joined (cond b (Some e.1) (lookup (Is name) es)) ≡ cond b e.1 (meaning (meant_in es) name)
    by true h = refl
    by false h = h

pub looked_up : (es : Entries) (name : List ℕ) (m : Option ℕ) → Some m ≡ lookup (Is name) es → m ≡ meaning (meant_in es) name
looked_up es name m h = ap joined h ∙ meaning_lookup es name

pub looked_none : (es : Entries) (name : List ℕ) → None ≡ lookup (Is name) es → None ≡ meaning (meant_in es) name
looked_none es name h = ap joined h ∙ meaning_lookup es name

at_first : (es : Entries) (name : List ℕ) (i : ℕ) (d : Vec ℕ Global) → i < length es → bytes_eq name (get_or (keys_of es) i d).items ≡ true
    → ((k : ℕ) → k < i → bytes_eq name (get_or (keys_of es) k d).items ≡ false) → IsAt (meant_in es) name i
at_first [] name i d l t f = absurd (omega arith)
at_first (e ∷ es) name zero d l t f = t
at_first (e ∷ es) name (suc i) d l t f = (f 0 (omega arith), at_first es name i d (omega arith) t (λ k m. f (suc k) (omega arith)))

pub position_at : (es : Entries) (name : List ℕ) (i : ℕ) → i < length es → position (Is name) (keys_of es) ≡ Some i → IsAt (meant_in es) name i
position_at [] name i l h = absurd (omega arith)
position_at (e ∷ es) name i l h = let p = position-Some (Is name) (keys_of (e ∷ es)) i e.0 h in at_first (e ∷ es) name i e.0 l p.1 p.2

-- ---- a new name, which means nothing

pub entered : {S : Type 0} (m : IndexMap (Vec ℕ Global) (Option ℕ) S) (v : Vec ℕ Global) (name : List ℕ) → v.items ≡ name → false ≡ is_some (get_by (Is name) m)
    → (insert_entry (λ a b. bytes_eq a.items b.items) m.entries v None ≡ m.entries ++ (v, None) ∷ []) × (lookup (Is v.items) m.entries ≡ None)
entered m v name i h =
    let a : get_by (Is v.items) m ≡ None = subst (λ (n : List ℕ). get_by (Is n) m ≡ None) (sym i) (by (get_by (Is name) m) h) in
    (insert_entry-new (λ a b. bytes_eq a.items b.items) m v None a, a)
  where
    by : (o : Option (Option ℕ)) → false ≡ is_some o → o ≡ None
    by None e = refl
    by (Some b) e = let x : false ≡ true = e in cc

pub new_at : (es : Entries) (v : Vec ℕ Global) → lookup (Is v.items) es ≡ None → IsAt (meant_in (es ++ (v, None) ∷ [])) v.items (length es)
new_at [] v h = (bytes_eq-Decides v.items v.items).1 refl
new_at (e ∷ es) v h = by (bytes_eq v.items e.0.items) refl h (new_at es v)
  where
    by : (b : Bool) → bytes_eq v.items e.0.items ≡ b → cond b (Some e.1) (lookup (Is v.items) es) ≡ None → (lookup (Is v.items) es ≡ None → IsAt (meant_in (es ++ (v, None) ∷ [])) v.items (length es)) → IsAt (meant_in (e ∷ (es ++ (v, None) ∷ []))) v.items (suc (length es))
    by true is h rest = let x : Some e.1 ≡ None = h in cc
    by false is h rest = (is, rest h)

either_way : (b : Bool) (m : Option ℕ) → cond b m m ≡ m
either_way true m = refl
either_way false m = refl

new_meaning : (es : Entries) (v : Vec ℕ Global) (name : List ℕ) → meaning (meant_in (es ++ (v, None) ∷ [])) name ≡ meaning (meant_in es) name
new_meaning [] v name = either_way (bytes_eq name v.items) None
new_meaning (e ∷ es) v name = ap (cond (bytes_eq name e.0.items) e.1) (new_meaning es v name)

new_places : (es : Entries) (v : Vec ℕ Global) (name : List ℕ) (place : ℕ) → IsAt (meant_in es) name place → IsAt (meant_in (es ++ (v, None) ∷ [])) name place
new_places [] v name place h = elim h [ ]
new_places (e ∷ es) v name zero h = h
new_places (e ∷ es) v name (suc place) h = (h.0, new_places es v name place h.1)

pub new_same : (es : Entries) (v : Vec ℕ Global) → MeanTheSame (meant_in es) (meant_in (es ++ (v, None) ∷ []))
new_same es v = record { meanings = new_meaning es v; places = new_places es v }

-- ---- the same meanings

pub same_refl : (a : Meant) → MeanTheSame a a
same_refl a = record { meanings = λ name. refl; places = λ name place h. h }

pub same_trans : (a b c : Meant) → MeanTheSame a b → MeanTheSame b c → MeanTheSame a c
same_trans a b c h k = record {
  meanings = λ name. k.meanings name ∙ h.meanings name;
  places = λ name place at. k.places name place (h.places name place at);
}

-- ---- a write

pub meant_set : (es : Entries) (i : ℕ) (w : Option ℕ) → meant_in (set_value_at es i w) ≡ set_value_at (meant_in es) i w
meant_set [] i w = refl
meant_set (e ∷ es) zero w = refl
meant_set (e ∷ es) (suc i) w = ap (λ (ms : Meant). (e.0.items, e.1) ∷ ms) (meant_set es i w)

pub length-meant : (es : Entries) → length (meant_in es) ≡ length es
length-meant [] = refl
length-meant (e ∷ es) = ap suc (length-meant es)

pub at_below : (meant : Meant) (name : List ℕ) (place : ℕ) → IsAt meant name place → place < length meant
at_below [] name place h = elim h [ ]
at_below (e ∷ meant) name zero h = omega arith
at_below (e ∷ meant) name (suc place) h = let l = at_below meant name place h.1 in omega arith

pub at_set : (meant : Meant) (i : ℕ) (w : Option ℕ) (name : List ℕ) (place : ℕ) → IsAt meant name place → IsAt (set_value_at meant i w) name place
at_set [] i w name place h = elim h [ ]
at_set (e ∷ meant) zero w name zero h = h
at_set (e ∷ meant) zero w name (suc place) h = h
at_set (e ∷ meant) (suc i) w name zero h = h
at_set (e ∷ meant) (suc i) w name (suc place) h = (h.0, at_set meant i w name place h.1)

turned : (a b : List ℕ) → bytes_eq a b ≡ false → bytes_eq b a ≡ false
turned a b h = false_from_ne_true (bytes_eq b a) (λ t. (let e : b ≡ a = (bytes_eq-Decides b a).0 t in let u : bytes_eq a b ≡ true = (bytes_eq-Decides a b).1 (sym e) in cc))

-- it gives this name alone another meaning
pub meaning_set : (meant : Meant) (y : List ℕ) (place : ℕ) (w : Option ℕ) (name : List ℕ) → IsAt meant y place → meaning (set_value_at meant place w) name ≡ cond (bytes_eq name y) w (meaning meant name)
meaning_set [] y place w name h = elim h [ ]
meaning_set (e ∷ meant) y zero w name h =
    subst (λ (z : List ℕ). cond (bytes_eq name e.0) w (meaning meant name) ≡ cond (bytes_eq name z) w (cond (bytes_eq name e.0) e.1 (meaning meant name))) (sym ((bytes_eq-Decides y e.0).0 h)) (by (bytes_eq name e.0))
  where
    by : (b : Bool) → cond b w (meaning meant name) ≡ cond b w (cond b e.1 (meaning meant name))
    by true = refl
    by false = refl
meaning_set (e ∷ meant) y (suc place) w name h = ap (cond (bytes_eq name e.0) e.1) (meaning_set meant y place w name h.1) ∙ by (bytes_eq name e.0) refl
  where
    other : bytes_eq name e.0 ≡ true → bytes_eq name y ≡ false
    other t = subst (λ (z : List ℕ). bytes_eq z y ≡ false) (sym ((bytes_eq-Decides name e.0).0 t)) (turned y e.0 h.0)

    by : (b : Bool) → bytes_eq name e.0 ≡ b → cond b e.1 (cond (bytes_eq name y) w (meaning meant name)) ≡ cond (bytes_eq name y) w (cond b e.1 (meaning meant name))
    by true t = ap (λ (c : Bool). cond c w e.1) (sym (other t))
    by false t = refl
