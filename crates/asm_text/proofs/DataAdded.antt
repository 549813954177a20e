-- Data that are added, and their size.
use Rattle.std.proofs.Common.{◌≡◌, ◌<◌, ◌+◌, ◌-◌, ℕ, List, [], ◌∷◌, ◌++◌, length, map, take, get_or, Option, Result, Ok, Err, refl, sym, ap, ◌∙◌, subst, inl, inr, append_assoc, arith}
use Rattle.std.specs.Prelude.{IfErr}
use Rattle.std.proofs.lemmas.List.{map-append, map_more, take-map}
use Rattle.std.proofs.lemmas.List.Sums.{sum_by-append, sum_by-cons, sum_by_push, sum_by-take-le}
use Rattle.std.specs.Result.{IsErrAnd}
use Rattle.asm_text.specs.declared.asm_fault.AsmFault.{AsmFault}
use Rattle.asm_text.specs.declared.datum.Datum.{Datum}
use Rattle.asm_text.specs.declared.datum.Datum.TheVariants.{Byte, Half, Word, Named, Zeros}
use Rattle.asm_text.specs.Added.{with_data, with_words, IsDataFault}
use Rattle.asm_text.specs.Made.{Made, Use, word_datum, with_use, with_uses}
use Rattle.asm_text.specs.Names.{datum_with, name_in, names_of_items}
use Rattle.asm_text.specs.Program.{MDatum, size_of, data_size}

module _ {A B : Type 0} where
  size_with : (f : A → B) (d : Datum A) → size_of (datum_with f d) ≡ size_of d
  size_with f (Byte n) = refl
  size_with f (Half n) = refl
  size_with f (Word n) = refl
  size_with f (Named name n) = refl
  size_with f (Zeros n) = refl

  -- names have no part in the size
  pub data_size_with : (f : A → B) (ds : List (Datum A)) → data_size (map (datum_with f) ds) ≡ data_size ds
  data_size_with f [] = refl
  data_size_with f (d ∷ ds) =
      sum_by-cons size_of (datum_with f d) (map (datum_with f) ds) ∙ ap (λ (n : ℕ). n + data_size (map (datum_with f) ds)) (size_with f d) ∙ ap (λ (n : ℕ). size_of d + n) (data_size_with f ds) ∙ sym (sum_by-cons size_of d ds)

  -- a datum that has no room behind others goes past the limit
  pub no_room : (f g : A → B) (seen : List (Datum B)) (ds : List (Datum A)) (d : Datum A) → map (datum_with f) ds ≡ seen → 33554432 < data_size ds + size_of d → 33554432 < data_size (seen ++ datum_with g d ∷ [])
  no_room f g seen ds d e h =
      let a = sum_by_push size_of seen (datum_with g d) in
      let b : data_size seen ≡ data_size ds = ap data_size (sym e) ∙ data_size_with f ds in
      let s = size_with g d in
      omega arith

-- ---- one after another

-- data that go past the limit on the way do so at the end
pub past_more : {X : Type 0} (f : X → MDatum) (old : List MDatum) (xs : List X) (i : ℕ) (d : X) → i < length xs → 33554432 < data_size ((old ++ map f (take i xs)) ++ f (get_or xs i d) ∷ []) → 33554432 < data_size (old ++ map f xs)
past_more {X} f old xs i d h k =
    let e = ap data_size (append_assoc old (map f (take i xs)) (f (get_or xs i d) ∷ [])) in
    let g = ap (λ (ds : List MDatum). data_size (old ++ ds)) (sym (map_more f xs i d h)) in
    let a = sum_by-append size_of old (map f (take (i + 1) xs)) in
    let b = sum_by-append size_of old (map f xs) in
    let s = sum_by-take-le size_of (map f xs) (i + 1) in
    let t = ap data_size (take-map f (i + 1) xs) in
    omega (arith, e, g, a, b, s, t, k)

pub data_more : (m : Made) (ds es : List MDatum) → with_data (with_data m ds) es ≡ with_data m (ds ++ es)
data_more m ds es = ap (λ (l : List MDatum). record m { datums = l }) (append_assoc m.datums ds es)

-- so does the fault that tells it
pub fault_more : {X : Type 0} (f : X → MDatum) (line : ℕ) (m now : Made) (xs : List X) (i : ℕ) (d : X) (e : AsmFault) → i < length xs → now.datums ≡ m.datums ++ map f (take i xs) → IsDataFault line (with_data now (f (get_or xs i d) ∷ [])) e → IsDataFault line (with_data m (map f xs)) e
fault_more f line m now xs i d e h s k = elim k [
  | inl a ↦ inl a
  | inr b ↦ (let P : List MDatum → Type 0 = λ ds. 33554432 < data_size (ds ++ f (get_or xs i d) ∷ []) in inr (b.0, past_more f m.datums xs i d h (subst P s b.1)))
]

-- what a `?` hands on
pub handed_on : {T : Type 0} (r : Result T AsmFault) (e : AsmFault) (P : AsmFault → Type 0) → IsErrAnd r (λ y. y ≡ e) → P e → IfErr r P
handed_on (Ok x) e P h p = absurd h
handed_on (Err y) e P h p = subst P (sym h) p

-- ---- words and their names

names_more : (line : ℕ) (us : List Use) (a b : List (List ℕ)) → with_uses line (with_uses line us a) b ≡ with_uses line us (a ++ b)
names_more line us [] b = refl
names_more line us (n ∷ a) b = names_more line (with_use line us n) a b

items_names : (xs ys : List (Option (List ℕ) × ℕ)) → names_of_items (xs ++ ys) ≡ names_of_items xs ++ names_of_items ys
items_names [] ys = refl
items_names (x ∷ xs) ys = ap (λ (ns : List (List ℕ)). name_in x.0 ++ ns) (items_names xs ys) ∙ sym (append_assoc (name_in x.0) (names_of_items xs) (names_of_items ys))

pub words_more : (m : Made) (line : ℕ) (xs ys : List (Option (List ℕ) × ℕ)) → with_words (with_words m line xs) line ys ≡ with_words m line (xs ++ ys)
words_more m line xs ys =
    let d = append_assoc m.datums (map word_datum xs) (map word_datum ys) ∙ ap (λ (l : List MDatum). m.datums ++ l) (sym (map-append word_datum xs ys)) in
    let u = names_more line m.uses (names_of_items xs) (names_of_items ys) ∙ ap (λ (l : List (List ℕ)). with_uses line m.uses l) (sym (items_names xs ys)) in
    ap (λ (l : List MDatum). record m { datums = l; uses = with_uses line (with_uses line m.uses (names_of_items xs)) (names_of_items ys) }) d ∙ ap (λ (l : List Use). record m { datums = m.datums ++ map word_datum (xs ++ ys); uses = l }) u
