-- Entries and slots that point at each other, as entries move.
use Rattle.std.proofs.Common.{ℕ, zero, suc, ◌≡◌, ◌≢◌, ◌+◌, ◌<◌, List, ◌∷◌, Option, Some, None, length, get_or, set, replicate, refl, sym, ap, ◌∙◌, subst, ⊎_elim, arith}
use Rattle.std.proofs.lemmas.Bool.{cases_eq}
use Rattle.std.proofs.lemmas.List.{get_or-set_same, get_or-set_other, length-set, get_or-map, ext_get_or, length-map}
use Rattle.place_queue.specs.declared.key.Key.{Key}
use Rattle.place_queue.specs.declared.heap.Entry.{Entry}
use Rattle.place_queue.specs.Keys.{key_of, entry_at, key_at, keys_of, keys_with}
use Rattle.place_queue.specs.Linked.{IsSettled, AreLinked, AreLinkedBut}

-- an entry is read where it was written, and any other entry is as before
pub entry_here : (es : List Entry) (i : ℕ) (e : Entry) → i < length es → entry_at (set es i e) i ≡ e
entry_here es i e h = get_or-set_same es i e _ h

pub entry_else : (es : List Entry) (i k : ℕ) (e : Entry) → k ≢ i → entry_at (set es i e) k ≡ entry_at es k
entry_else es i k e h = get_or-set_other es i k e _ h

-- what is settled stays so, where another place's slot is written and the entry is the same
pub stays : (es fs : List Entry) (slots : List ℕ) (keys : List (Option Key)) (q s k : ℕ) → entry_at fs k ≡ entry_at es k → (entry_at es k).place ≢ q → IsSettled es slots keys k → IsSettled fs (set slots q s) keys k
stays es fs slots keys q s k e p h = record {
  place = rw (e, length-set) h.place;
  slot = rw e (get_or-set_other slots q (entry_at es k).place s 0 p ∙ h.slot);
  key = rw e h.key;
}

-- an entry that is written is settled
settles : (es : List Entry) (slots : List ℕ) (keys : List (Option Key)) (i : ℕ) (e : Entry) → i < length es → e.place < length slots → get_or keys e.place None ≡ Some (key_of e) → IsSettled (set es i e) (set slots e.place (i + 1)) keys i
settles es slots keys i e l p k =
    let here = entry_here es i e l in record {
      place = rw (here, length-set) p;
      slot = rw here (get_or-set_same slots e.place (i + 1) 0 p);
      key = rw here k;
    }

module _ (es : List Entry) (slots : List ℕ) (keys : List (Option Key)) (i : ℕ) (e : Entry) (h : AreLinkedBut es slots keys i e) where
  -- the entry is written into the hole
  pub filled : AreLinked (set es i e) (set slots e.place (i + 1)) keys
  filled = record {
    long = h.long ∙ sym (length-set slots e.place (i + 1));
    settled = λ k l. ⊎_elim
        (λ (same : k ≡ i). subst (IsSettled (set es i e) (set slots e.place (i + 1)) keys) (sym same) (settles es slots keys i e h.inside h.place h.key))
        (λ (other : k ≢ i). let m : k < length es = omega (arith, length-set es i e) in stays es (set es i e) slots keys e.place (i + 1) k (entry_else es i k e other) (h.other k m other) (h.settled k m other))
        (cases_eq k i);
    idle = λ q z. ⊎_elim
        (λ (same : q ≡ e.place). absurd (omega (arith, z, ap (λ r. get_or (set slots e.place (i + 1)) r 0) same, get_or-set_same slots e.place (i + 1) 0 h.place)))
        (λ (other : q ≢ e.place). h.idle q other (sym (get_or-set_other slots e.place q (i + 1) 0 other) ∙ z))
        (cases_eq q e.place);
    found = λ q k z. ⊎_elim
        (λ (same : q ≡ e.place).
        let here : k ≡ i = omega (arith, z, ap (λ r. get_or (set slots e.place (i + 1)) r 0) same, get_or-set_same slots e.place (i + 1) 0 h.place) in
        (omega (arith, length-set es i e, h.inside), ap (λ n. (entry_at (set es i e) n).place) here ∙ ap (λ (x : Entry). x.place) (entry_here es i e h.inside) ∙ sym same))
        (λ (other : q ≢ e.place).
        let f = h.found q k other (sym (get_or-set_other slots e.place q (i + 1) 0 other) ∙ z) in
        (omega (arith, length-set es i e, f.0), ap (λ (x : Entry). x.place) (entry_else es i k e f.1) ∙ f.2))
        (cases_eq q e.place);
  }

  module _ (j : ℕ) (in' : j < length es) (apart : j ≢ i) where
    -- the entry at j moves into the hole, and leaves one behind
    pub moved : AreLinkedBut (set es i (entry_at es j)) (set slots (entry_at es j).place (i + 1)) keys j e
    moved =
        let x : Entry = entry_at es j in
        let was = h.settled j in' apart in
        let long = length-set es i x in
        let here : get_or (set slots x.place (i + 1)) x.place 0 ≡ i + 1 = get_or-set_same slots x.place (i + 1) 0 was.place in
        record {
          long = h.long ∙ sym (length-set slots x.place (i + 1));
          few = omega (arith, long, length-set slots x.place (i + 1), h.few);
          inside = omega (arith, long);
          place = omega (arith, length-set slots x.place (i + 1), h.place);
          key = h.key;
          settled = λ k l n. ⊎_elim
              (λ (same : k ≡ i). subst (IsSettled (set es i x) (set slots x.place (i + 1)) keys) (sym same) (settles es slots keys i x h.inside was.place was.key))
              (λ (differs : k ≢ i).
              let m : k < length es = omega (arith, long) in
              let there = h.settled k m differs in
              stays es (set es i x) slots keys x.place (i + 1) k (entry_else es i k x differs)
              (λ p. n (omega (arith, there.slot, was.slot, ap (λ q. get_or slots q 0) p))) there)
              (cases_eq k i);
          other = λ k l n. ⊎_elim
              (λ (same : k ≡ i). λ p. h.other j in' apart (sym (ap (λ (y : Entry). y.place) (ap (entry_at (set es i x)) same ∙ entry_here es i x h.inside)) ∙ p))
              (λ (differs : k ≢ i). λ p. h.other k (omega (arith, long)) differs (sym (ap (λ (y : Entry). y.place) (entry_else es i k x differs)) ∙ p))
              (cases_eq k i);
          idle = λ q n z. ⊎_elim
              (λ (same : q ≡ x.place). absurd (omega (arith, z, ap (λ r. get_or (set slots x.place (i + 1)) r 0) same, here)))
              (λ (differs : q ≢ x.place). h.idle q n (sym (get_or-set_other slots x.place q (i + 1) 0 differs) ∙ z))
              (cases_eq q x.place);
          found = λ q k n z. ⊎_elim
              (λ (same : q ≡ x.place).
              let k_is : k ≡ i = omega (arith, z, ap (λ r. get_or (set slots x.place (i + 1)) r 0) same, here) in
              (omega (arith, long, h.inside), omega arith, ap (λ (y : Entry). y.place) (ap (entry_at (set es i x)) k_is ∙ entry_here es i x h.inside) ∙ sym same))
              (λ (differs : q ≢ x.place).
              let f = h.found q k n (sym (get_or-set_other slots x.place q (i + 1) 0 differs) ∙ z) in
              (omega (arith, long, f.0), λ e. differs (sym f.2 ∙ ap (λ m. (entry_at es m).place) e), ap (λ (y : Entry). y.place) (entry_else es i k x f.1) ∙ f.2))
              (cases_eq q x.place);
        }

-- what a slot leads to is the key that its place waits with
key_found : (es : List Entry) (slots : List ℕ) (keys : List (Option Key)) → AreLinked es slots keys → (q s : ℕ) → get_or slots q 0 ≡ s → key_at es s ≡ get_or keys q None
key_found es slots keys h q zero z = sym (h.idle q z)
key_found es slots keys h q (suc k) z =
    let f = h.found q k (omega (arith, z)) in
    sym (subst (λ p. get_or keys p None ≡ Some (key_of (entry_at es k))) f.1 (h.settled k f.0).key)

-- the keys are those that the slots lead to
pub keys_are : (es : List Entry) (slots : List ℕ) (keys : List (Option Key)) → AreLinked es slots keys → keys_of es slots ≡ keys
keys_are es slots keys h =
    let long = length-map slots (key_at es) in
    ext_get_or None (keys_of es slots) keys (long ∙ sym h.long)
    (λ q l. get_or-map (key_at es) slots q 0 None (omega (arith, long)) ∙ key_found es slots keys h q (get_or slots q 0) refl)

-- and so once the entry is written into the hole
pub keys_are_with : (es : List Entry) (slots : List ℕ) (keys : List (Option Key)) (i : ℕ) (e : Entry) → AreLinkedBut es slots keys i e → keys_with es slots i e ≡ keys
keys_are_with es slots keys i e h = keys_are (set es i e) (set slots e.place (i + 1)) keys (filled es slots keys i e h)

-- so the keys that are wanted are those that come about
pub with_keys : (es : List Entry) (slots : List ℕ) (keys : List (Option Key)) (i : ℕ) (e : Entry) → AreLinkedBut es slots keys i e → AreLinkedBut es slots (keys_with es slots i e) i e
with_keys es slots keys i e h = subst (λ ks. AreLinkedBut es slots ks i e) (sym (keys_are_with es slots keys i e h)) h

-- where each slot is 0 no place waits
pub none_waits : (es : List Entry) (n : ℕ) → keys_of es (replicate n 0) ≡ replicate n None
none_waits es zero = refl
none_waits es (suc n) = ap (λ ks. None ∷ ks) (none_waits es n)
