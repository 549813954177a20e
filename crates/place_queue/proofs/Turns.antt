-- Where an entry is added, put in the stead of another or taken.
use Rattle.std.proofs.Common.{ℕ, zero, suc, ◌≡◌, ◌≢◌, ◌+◌, ◌-◌, ◌/◌, ◌<◌, ◌≤◌, ◌^◌, List, Option, Some, None, length, get_or, set, take, ◌++◌, refl, sym, ap, ◌∙◌, subst, ⊎_elim, arith}
use Rattle.std.proofs.lemmas.Bool.{cases_eq}
use Rattle.std.proofs.lemmas.Option.{none-some, same_Some}
use Rattle.std.proofs.lemmas.List.{get_or-set_same, get_or-set_other, get_or-take, length-set, length-take-le, length-append, take_at}
use Rattle.place_queue.specs.declared.key.Key.{Key}
use Rattle.place_queue.specs.declared.heap.Entry.{Entry}
use Rattle.place_queue.specs.Keys.{key_of, entry_at, keys_of, keys_in}
use Rattle.place_queue.specs.Heap.{LeqEntry, IsHeap}
use Rattle.place_queue.specs.Linked.{IsSettled, AreLinked, AreLinkedBut}
use Rattle.place_queue.specs.IsQueue.{IsQueue}
use Rattle.place_queue.specs.Leq.{Leq}
use Rattle.place_queue.proofs.Holes.{chain, same}
use Rattle.place_queue.proofs.Links.{stays, keys_are}

-- what is settled stays so, where another place's slot or key is written
pub rekeyed : (es fs : List Entry) (slots : List ℕ) (keys : List (Option Key)) (q k : ℕ) (x : Option Key) → entry_at fs k ≡ entry_at es k → (entry_at es k).place ≢ q → IsSettled es slots keys k → IsSettled fs slots (set keys q x) k
rekeyed es fs slots keys q k x e p h = record {
  place = rw e h.place;
  slot = rw e h.slot;
  key = rw e (get_or-set_other keys q (entry_at es k).place x None p ∙ h.key);
}

module _ (es : List Entry) (slots : List ℕ) (keys : List (Option Key)) (h : AreLinked es slots keys) where
  -- two entries have two places
  pub distinct : (j k : ℕ) → j < length es → k < length es → j ≢ k → (entry_at es j).place ≢ (entry_at es k).place
  distinct j k a b n = λ e. n (omega (arith, (h.settled j a).slot, (h.settled k b).slot, ap (λ q. get_or slots q 0) e))

  -- an entry is put in the stead of that of its place
  pub replaced : (i : ℕ) (e : Entry) → i < length es → (entry_at es i).place ≡ e.place → length es ≤ length slots → AreLinkedBut es slots (set keys e.place (Some (key_of e))) i e
  replaced i e l p few =
      let within : e.place < length slots = omega (arith, p, (h.settled i l).place) in
      let apart : (k : ℕ) → k < length es → k ≢ i → (entry_at es k).place ≢ e.place = λ k m n s. distinct k i m l n (s ∙ sym p) in
      record {
        long = length-set keys e.place (Some (key_of e)) ∙ h.long;
        few = few;
        inside = l;
        place = within;
        key = get_or-set_same keys e.place (Some (key_of e)) None (omega (arith, within, h.long));
        settled = λ k m n. rekeyed es es slots keys e.place k (Some (key_of e)) refl (apart k m n) (h.settled k m);
        other = apart;
        idle = λ q n z. get_or-set_other keys e.place q (Some (key_of e)) None n ∙ h.idle q z;
        found = λ q k n z. let f = h.found q k z in (f.0, λ s. n (sym f.1 ∙ ap (λ m. (entry_at es m).place) s ∙ p), f.1);
      }

-- the first entries of a list
module _ (es : List Entry) (n : ℕ) where
  pub first_of : (k : ℕ) → k < n → entry_at (take n es) k ≡ entry_at es k
  first_of k l = get_or-take n es k _ l

  pub many_of : n ≤ length es → length (take n es) ≡ n
  many_of l = length-take-le n es l

-- the same entry is among the first n and among one more
pub one_more : (es : List Entry) (n k : ℕ) → k < n → entry_at (take (n + 1) es) k ≡ entry_at (take n es) k
one_more es n k l = first_of es (n + 1) k (omega arith) ∙ sym (first_of es n k l)

module _ (es : List Entry) (slots : List ℕ) (keys : List (Option Key)) (n : ℕ) (in' : n < length es) where
  -- an entry is added at the end
  pub added : (e : Entry) → AreLinked (take n es) slots keys → n < length slots → e.place < length slots → get_or slots e.place 0 ≡ 0 → AreLinkedBut (take (n + 1) es) slots (set keys e.place (Some (key_of e))) n e
  added e h few within free =
      let len = many_of es n (omega arith) in
      let longer = many_of es (n + 1) (omega arith) in
      let apart : (k : ℕ) → k < length (take n es) → (entry_at (take n es) k).place ≢ e.place = λ k m s. omega (arith, free, (h.settled k m).slot, ap (λ q. get_or slots q 0) s) in
      let below : (k : ℕ) → k < length (take (n + 1) es) → k ≢ n → k < length (take n es) = λ k m o. omega arith in
      record {
        long = length-set keys e.place (Some (key_of e)) ∙ h.long;
        few = omega arith;
        inside = omega arith;
        place = within;
        key = get_or-set_same keys e.place (Some (key_of e)) None (omega (arith, h.long));
        settled = λ k m o. let b = below k m o in rekeyed (take n es) (take (n + 1) es) slots keys e.place k (Some (key_of e)) (one_more es n k (omega arith)) (apart k b) (h.settled k b);
        other = λ k m o. let b = below k m o in λ s. apart k b (sym (ap (λ (x : Entry). x.place) (one_more es n k (omega arith))) ∙ s);
        idle = λ q o z. get_or-set_other keys e.place q (Some (key_of e)) None o ∙ h.idle q z;
        found = λ q k o z. let f = h.found q k z in (omega (arith, f.0), omega (arith, f.0), ap (λ (x : Entry). x.place) (one_more es n k (omega (arith, f.0))) ∙ f.1);
      }

-- the first entry goes, and the last one is to stand in its stead
module _ (es : List Entry) (slots : List ℕ) (keys : List (Option Key)) (h : AreLinked es slots keys) (first : Entry) (first_is : entry_at es 0 ≡ first) (some : 0 < length es) where
  first_slot : (first.place < length slots) × (get_or slots first.place 0 ≡ 1)
  first_slot =
      let s = h.settled 0 some in
      (subst (λ (x : Entry). x.place < length slots) first_is s.place, subst (λ (x : Entry). get_or slots x.place 0 ≡ 1) first_is (omega (arith, s.slot)))

  not_first : (k : ℕ) → k < length es → k ≢ 0 → (entry_at es k).place ≢ first.place
  not_first k l n s = distinct es slots keys h k 0 l some n (s ∙ sym (ap (λ (x : Entry). x.place) first_is))

  stays_settled : (fs : List Entry) (k : ℕ) → k < length es → k ≢ 0 → entry_at fs k ≡ entry_at es k → IsSettled fs (set slots first.place 0) (set keys first.place None) k
  stays_settled fs k l n e =
      let apart = not_first k l n in
      stays fs fs slots (set keys first.place None) first.place 0 k refl (λ s. apart (sym (ap (λ (x : Entry). x.place) e) ∙ s))
      (rekeyed es fs slots keys first.place k None e apart (h.settled k l))

  now_idle : (q : ℕ) → get_or (set slots first.place 0) q 0 ≡ 0 → get_or (set keys first.place None) q None ≡ None
  now_idle q z = ⊎_elim
      (λ (s : q ≡ first.place). ap (λ r. get_or (set keys first.place None) r None) s ∙ get_or-set_same keys first.place None None (omega (arith, first_slot.0, h.long)))
      (λ (n : q ≢ first.place). get_or-set_other keys first.place q None None n ∙ h.idle q (sym (get_or-set_other slots first.place q 0 0 n) ∙ z))
      (cases_eq q first.place)

  still_found : (q k : ℕ) → get_or (set slots first.place 0) q 0 ≡ k + 1 → (k < length es) × (k ≢ 0) × ((entry_at es k).place ≡ q)
  still_found q k z = ⊎_elim
      (λ (s : q ≡ first.place). absurd (omega (arith, z, ap (λ r. get_or (set slots first.place 0) r 0) s, get_or-set_same slots first.place 0 0 first_slot.0)))
      (λ (n : q ≢ first.place).
      let f = h.found q k (sym (get_or-set_other slots first.place q 0 0 n) ∙ z) in
      (f.0, λ k_is. n (sym f.1 ∙ ap (λ (x : Entry). x.place) (ap (entry_at es) k_is ∙ first_is)), f.1))
      (cases_eq q first.place)

  pub emptied : (fs : List Entry) → length es ≡ 1 → length fs ≡ 0 → AreLinked fs (set slots first.place 0) (set keys first.place None)
  emptied fs one none = record {
    long = length-set keys first.place None ∙ h.long ∙ sym (length-set slots first.place 0);
    settled = λ k l. absurd (omega arith);
    idle = now_idle;
    found = λ q k z. let f = still_found q k z in absurd (f.1 (omega (arith, f.0)));
  }

  module _ (fs : List Entry) (last : Entry) (n : ℕ) (more : length es ≡ n + 1) (len : length fs ≡ n) (kept : (k : ℕ) → k < n → entry_at fs k ≡ entry_at es k) (last_is : entry_at es n ≡ last) where
    -- an entry but for the first and the last has a place of its own
    not_last : (k : ℕ) → k < n → (entry_at es k).place ≢ last.place
    not_last k l s = distinct es slots keys h k n (omega arith) (omega arith) (omega arith) (s ∙ sym (ap (λ (x : Entry). x.place) last_is))

    pub turned : 0 < n → n ≤ length slots → AreLinkedBut fs (set slots first.place 0) (set keys first.place None) 0 last
    turned pos few =
        let slots_len = length-set slots first.place 0 in
        let end = h.settled n (omega arith) in
        let apart : last.place ≢ first.place = λ s. not_first n (omega arith) (omega arith) (ap (λ (x : Entry). x.place) last_is ∙ s) in
        record {
          long = length-set keys first.place None ∙ h.long ∙ sym slots_len;
          few = omega arith;
          inside = omega arith;
          place = omega (arith, slots_len, subst (λ (x : Entry). x.place < length slots) last_is end.place);
          key = get_or-set_other keys first.place last.place None None apart ∙ subst (λ (x : Entry). get_or keys x.place None ≡ Some (key_of x)) last_is end.key;
          settled = λ k l o. stays_settled fs k (omega arith) o (kept k (omega arith));
          other = λ k l o. λ s. not_last k (omega arith) (sym (ap (λ (x : Entry). x.place) (kept k (omega arith))) ∙ s);
          idle = λ q o z. now_idle q z;
          found = λ q k o z.
              let f = still_found q k z in
              let differs : k ≢ n = λ k_is. o (sym f.2 ∙ ap (λ (x : Entry). x.place) (ap (entry_at es) k_is ∙ last_is)) in
              let below : k < n = omega (arith, f.0, differs) in
              (omega arith, f.1, ap (λ (x : Entry). x.place) (kept k below) ∙ f.2);
        }

-- the root is the least
root : (es : List Entry) → IsHeap es → (fuel k : ℕ) → k ≤ fuel → k < length es → LeqEntry (entry_at es 0) (entry_at es k)
root es h zero k a b = same (entry_at es 0) (entry_at es k) (entry_at es 0) (entry_at es 0) refl (ap (entry_at es) (omega arith)) (omega arith, λ _. omega arith)
root es h (suc fuel) k a b = ⊎_elim
    (λ (z : k ≡ 0). same (entry_at es 0) (entry_at es k) (entry_at es 0) (entry_at es 0) refl (ap (entry_at es) z) (omega arith, λ _. omega arith))
    (λ (n : k ≢ 0).
    let p = (k - 1) / 2 in
    chain (entry_at es 0) (entry_at es p) (entry_at es k) (root es h fuel p (omega arith) (omega arith)) (h p k (record { first = omega arith; last = omega arith; inside = b })))
    (cases_eq k 0)

key_by_slot : (es : List Entry) (slots : List ℕ) (keys : List (Option Key)) → AreLinked es slots keys → (q s : ℕ) (k : Key) → get_or slots q 0 ≡ s → get_or keys q None ≡ Some k → (j : ℕ) × (j < length es) × (key_of (entry_at es j) ≡ k)
key_by_slot es slots keys h q zero k z e = absurd (none-some k (sym (h.idle q z) ∙ e))
key_by_slot es slots keys h q (suc j) k z e =
    let f = h.found q j (omega (arith, z)) in
    (j, f.0, same_Some _ _ (sym (h.settled j f.0).key ∙ ap (λ p. get_or keys p None) f.1 ∙ e))

-- a place that waits has an entry, and the root is no greater
pub least_waits : (es : List Entry) (slots : List ℕ) (keys : List (Option Key)) → IsHeap es → AreLinked es slots keys → (q : ℕ) (k : Key) → get_or keys q None ≡ Some k → Leq (key_of (entry_at es 0)) k
least_waits es slots keys h l q k e =
    let w = key_by_slot es slots keys l q (get_or slots q 0) k refl e in
    subst (Leq (key_of (entry_at es 0))) w.2 (root es h w.0 w.0 (omega arith) w.1)

-- a heap and entries behind it
pub joined : (es rest : List Entry) (slots : List ℕ) (keys : List (Option Key)) (n : ℕ) → length es ≡ n → length (es ++ rest) ≡ length slots → length slots < 2 ^ 32 - 1 → IsHeap es → AreLinked es slots keys → IsQueue (es ++ rest) slots n × (keys_in (es ++ rest) slots n ≡ keys)
joined es rest slots keys n a b c h l =
    let cut : take n (es ++ rest) ≡ es = take_at es rest n a in
    let keys_is : keys_of es slots ≡ keys = keys_are es slots keys l in (
      record {
        long = b;
        few = c;
        within = omega (arith, length-append es rest);
        heap = subst IsHeap (sym cut) h;
        linked = subst (λ fs. AreLinked fs slots (keys_of fs slots)) (sym cut) (subst (AreLinked es slots) (sym keys_is) l);
      },
      ap (λ fs. keys_of fs slots) cut ∙ keys_is,
    )
