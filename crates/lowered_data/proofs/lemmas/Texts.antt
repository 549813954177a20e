-- The texts in a lowered unit that begins with the initial data.
use Rattle.std.specs.Prelude.{◌≡◌, ℕ, zero, suc, ◌+◌, List, [], ◌∷◌, ◌++◌, length, flat_map, replicate, slice_get}
use Rattle.std.proofs.Common.{refl, sym, ap, subst, ◌∙◌, arith}
use Rattle.std.proofs.lemmas.List.{map-append}
use Rattle.std.proofs.lemmas.Option.{slice_get_within}
use Rattle.lcc_base.specs.declared.order.Order.{Order}
use Rattle.lcc_base.specs.declared.order.Order.TheVariants.{Big, Little}
use Rattle.objects.specs.declared.byte.Byte.{Byte}
use Rattle.objects.specs.declared.byte.Byte.TheVariants.{Bits}
use Rattle.objects.specs.declared.value.Value.{Value}
use Rattle.objects.specs.Bytes.{known_bytes, part_bytes}
use Rattle.objects.specs.Objects.{Object}
use Rattle.op_forest.specs.declared.lowered.Datum.{Datum}
use Rattle.op_forest.specs.declared.lowered.Datum.TheVariants as datum
use Rattle.op_forest.specs.declared.lowered.LoweredObject.{LoweredObject}
use Rattle.op_forest.specs.Lowered.{LoweredUnit}
use Rattle.forests.specs.Units.{bytes_in}
use Rattle.forests.specs.Words.{Word}
use Rattle.c_match_worlds.specs.Texts.{HasTexts}
use Rattle.c_meaning.specs.Units.{UnitTree}
use Rattle.c_runs.specs.Worlds.{objects}
use Rattle.lowered_data.specs.Data.{Image, image, IsDatumOf, AreDataOf, HasHome}
use Rattle.lowered_data.specs.Initial.{IsInitialData, text_object}
use Rattle.lowered_data.proofs.lemmas.Standing.{front_there, one_there, home_at, some_is}

-- ---- items of known bytes

-- known bytes that are two lists one behind the other
record Split (ns : List ℕ) (front rest : List (Byte Value)) : Type 0 where
  first : List ℕ
  second : List ℕ
  front_is : front ≡ known_bytes first
  rest_is : rest ≡ known_bytes second
  all : ns ≡ first ++ second

split : (ns : List ℕ) (front rest : List (Byte Value)) → known_bytes ns ≡ front ++ rest → Split ns front rest
split ns [] rest e = record { first = []; second = ns; front_is = refl; rest_is = sym e; all = refl }
split [] (b ∷ front) rest e = absurd (let never : ⊥ = cc in never)
split (n ∷ ns) (b ∷ front) rest e =
    let head : b ≡ Bits 255 n = cc in
    let tail : known_bytes ns ≡ front ++ rest = cc in
    let s = split ns front rest tail in
    record {
      first = n ∷ s.first;
      second = s.second;
      front_is = ap (λ (x : Byte Value). x ∷ front) head ∙ ap (λ (bs : List (Byte Value)). Bits 255 n ∷ bs) s.front_is;
      rest_is = s.rest_is;
      all = ap (λ (ms : List ℕ). n ∷ ms) s.all;
    }

same_numbers : (ns ms : List ℕ) → known_bytes {V = Value} ns ≡ known_bytes ms → ns ≡ ms
same_numbers [] [] e = refl
same_numbers [] (m ∷ ms) e = absurd (let never : ⊥ = cc in never)
same_numbers (n ∷ ns) [] e = absurd (let never : ⊥ = cc in never)
same_numbers (n ∷ ns) (m ∷ ms) e =
    let head : n ≡ m = cc in
    let tail : known_bytes {V = Value} ns ≡ known_bytes ms = cc in
    ap (λ (i : ℕ). i ∷ ns) head ∙ ap (λ (is : List ℕ). m ∷ is) (same_numbers ns ms tail)

are_zeros : (ns : List ℕ) (n : ℕ) → known_bytes {V = Value} ns ≡ replicate n (Bits 255 0) → replicate n (Bits 255 0) ≡ known_bytes {V = Word} ns
are_zeros [] zero e = refl
are_zeros [] (suc n) e = absurd (let never : ⊥ = cc in never)
are_zeros (m ∷ ms) zero e = absurd (let never : ⊥ = cc in never)
are_zeros (m ∷ ms) (suc n) e =
    let head : m ≡ 0 = cc in
    let tail : known_bytes {V = Value} ms ≡ replicate n (Bits 255 0) = cc in
    ap (λ (bs : List (Byte Word)). Bits 255 0 ∷ bs) (are_zeros ms n tail) ∙ ap (λ (i : ℕ). Bits 255 i ∷ known_bytes {V = Word} ms) (sym head)

no_parts : (ns : List ℕ) (order : Order) (v : Value) → known_bytes ns ≡ part_bytes order v → ⊥
no_parts [] Big v e = cc
no_parts [] Little v e = cc
no_parts (n ∷ ns) Big v e = cc
no_parts (n ∷ ns) Little v e = cc

item_known : (m : Image) (l : LoweredUnit) (d : Datum) (ns : List ℕ) → IsDatumOf m d (known_bytes ns) → bytes_in l d ≡ known_bytes ns
item_known m l (datum.Bytes bytes) ns h = ap (λ (is : List ℕ). known_bytes {V = Word} is) (sym (same_numbers ns bytes h))
item_known m l (datum.Name name offset) ns h = absurd (no_parts ns m.order h.0 h.2)
item_known m l (datum.Label function label) ns h = absurd h
item_known m l (datum.Zero n) ns h = are_zeros ns n h

items_known : (m : Image) (l : LoweredUnit) (ds : List Datum) (ns : List ℕ) (cs : List (Byte Value)) → cs ≡ known_bytes ns → AreDataOf m ds cs → flat_map (bytes_in l) ds ≡ known_bytes ns
items_known m l [] [] cs e h = refl
items_known m l [] (n ∷ ns) cs e h = absurd (let never : ⊥ = cc in never)
items_known m l (d ∷ ds) ns cs e h =
    let s = split ns h.0 h.1 (sym e ∙ h.2) in
    ap (λ (bs : List (Byte Word)). bs ++ flat_map (bytes_in l) ds) (item_known m l d s.first (subst (λ (bs : List (Byte Value)). IsDatumOf m d bs) s.front_is h.3))
    ∙ ap (λ (bs : List (Byte Word)). known_bytes s.first ++ bs) (items_known m l ds s.second h.1 s.rest_is h.4)
    ∙ sym (map-append (λ (i : ℕ). Bits 255 i) s.first s.second)
    ∙ ap (λ (is : List ℕ). known_bytes {V = Word} is) (sym s.all)

-- ---- texts

pub texts_stand : (u : UnitTree) (order : Order) (data_of behind : List LoweredObject) (d : IsInitialData u order data_of) (l : LoweredUnit) → l.objects ≡ data_of ++ behind → HasTexts l (length u.objects) u.texts
texts_stand u order data_of behind d l begins n text is =
    let place = length u.objects + n in
    let m = image u order (objects d.world) in
    let there = d.texts n text is in
    let many = d.many in
    let o = one_there data_of place (omega (arith, slice_get_within (objects d.world) place (text_object place text) there, many)) in
    let home : HasHome m place o.0 = home_at m 0 place place data_of o.0 d.homes o.1 (omega arith) in
    let same : home.object ≡ text_object place text = some_is home.object (text_object place text) (sym home.there ∙ there) in
    record {
      object = o.0;
      there = ap (λ (os : List LoweredObject). slice_get os place) begins ∙ front_there data_of behind place o.0 o.1;
      constant = home.is.constant ∙ ap (λ (x : Object). x.constant) same;
      holds = items_known m l o.0.items (text ++ 0 ∷ []) home.object.bytes (ap (λ (x : Object). x.bytes) same) home.is.items;
    }
