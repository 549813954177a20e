-- Names one behind the other in one buffer.
use Rattle.std.proofs.Common.{◌≡◌, ◌≤◌, ℕ, zero, suc, ◌+◌, ◌-◌, List, [], ◌∷◌, ◌++◌, length, take, drop, Some, refl, sym, ap, ◌∙◌, subst, arith, length-append, length-drop}
use Rattle.std.specs.Prelude.{slice_get}
use Rattle.std.proofs.lemmas.List.{take_all, drop-drop, take-append-le, drop-append-le}
use Rattle.std.proofs.Math.ListN.{drop_of_length-le}
use Rattle.std.proofs.lemmas.Option.{none-some, same_Some}
use Rattle.asm_text.specs.NameTable.{names_behind, AreEnds, StartsAt}

pub names_count : (s : ℕ) (es bs : List ℕ) → length (names_behind s es bs) ≡ length es
names_count s [] bs = refl
names_count s (e ∷ es) bs = ap suc (names_count e es (drop (e - s) bs))

last_name : (s e : ℕ) (bs name : List ℕ) → bs ≡ [] → e ≡ s + (length bs + length name) → take (e - s) (bs ++ name) ≡ name
last_name s e [] name h k = take_all (e - s) name (omega arith)
last_name s e (b ∷ bs) name h k = absurd cc

last_end : (s e : ℕ) (bs name : List ℕ) → bs ≡ [] → e ≡ s + (length bs + length name) → AreEnds s (e ∷ []) (bs ++ name)
last_end s e [] name h k =
    let w : e ≤ s + length name = omega arith in
    (omega arith, w, drop_of_length-le name (omega arith))
last_end s e (b ∷ bs) name h k = absurd cc

-- one name more
pub names_more : (s e : ℕ) (es bs name : List ℕ) → AreEnds s es bs → e ≡ s + (length bs + length name) → names_behind s (es ++ e ∷ []) (bs ++ name) ≡ names_behind s es bs ++ name ∷ []
names_more s e [] bs name h k = ap (λ (n : List ℕ). n ∷ []) (last_name s e bs name h k)
names_more s e (a ∷ es) bs name h k =
    let le : a - s ≤ length bs = omega (arith, h.0, h.1) in
    let n = names_more a e es (drop (a - s) bs) name h.2 (omega (arith, length-drop (a - s) bs, h.0, h.1)) in
    rw (take-append-le (a - s) bs name le, drop-append-le (a - s) bs name le, n) refl

pub ends_more : (s e : ℕ) (es bs name : List ℕ) → AreEnds s es bs → e ≡ s + (length bs + length name) → AreEnds s (es ++ e ∷ []) (bs ++ name)
ends_more s e [] bs name h k = last_end s e bs name h k
ends_more s e (a ∷ es) bs name h k =
    let le : a - s ≤ length bs = omega (arith, h.0, h.1) in
    let n = ends_more a e es (drop (a - s) bs) name h.2 (omega (arith, length-drop (a - s) bs, h.0, h.1)) in
    (h.0, omega (arith, h.1, length-append bs name), subst (AreEnds a (es ++ e ∷ [])) (sym (drop-append-le (a - s) bs name le)) n)

-- the name of a number stands from the end of the one before to its own
pub record NameStands (s a b n : ℕ) (es bs : List ℕ) : Type 0 where
  pub start : s ≤ a
  pub rises : a ≤ b
  pub within : b ≤ s + length bs
  pub is : slice_get (names_behind s es bs) n ≡ Some (take (b - a) (drop (a - s) bs))

first_name : (s a b e : ℕ) (es bs : List ℕ) → AreEnds s (e ∷ es) bs → a ≡ s → e ≡ b → NameStands s a b zero (e ∷ es) bs
first_name s a b e es bs h p q = record {
  start = omega arith;
  rises = omega (arith, h.0);
  within = omega (arith, h.1);
  is = (let z : a - s ≡ 0 = omega arith in let w : e - s ≡ b - a = omega arith in rw (z, w) refl);
}

starts_behind : (s e a : ℕ) (es : List ℕ) (n : ℕ) → slice_get (e ∷ es) n ≡ Some a → StartsAt e es n a
starts_behind s e a es zero h = sym (same_Some e a h)
starts_behind s e a es (suc n) h = h

pub name_stands : (s a b n : ℕ) (es bs : List ℕ) → AreEnds s es bs → StartsAt s es n a → slice_get es n ≡ Some b → NameStands s a b n es bs
name_stands s a b n [] bs h p q = absurd (none-some b q)
name_stands s a b zero (e ∷ es) bs h p q = first_name s a b e es bs h p (same_Some e b q)
name_stands s a b (suc n) (e ∷ es) bs h p q =
    let r = name_stands e a b n es (drop (e - s) bs) h.2 (starts_behind s e a es n p) q in
    let d = length-drop (e - s) bs in
    let begin = r.start in
    let z : (e - s) + (a - e) ≡ a - s = omega (arith, h.0) in
    record {
      start = omega (arith, h.0);
      rises = r.rises;
      within = omega (arith, h.0, h.1, r.within);
      is = r.is ∙ ap (λ (l : List ℕ). Some (take (b - a) l)) (drop-drop (a - e) (e - s) bs ∙ ap (λ (i : ℕ). drop i bs) z);
    }
