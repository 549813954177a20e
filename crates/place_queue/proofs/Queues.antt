-- What the parts of a queue are as an entry is added, put in the stead of another or taken.
use Rattle.std.proofs.Common.{ℕ, ◌≡◌, ◌+◌, ◌-◌, ◌^◌, ◌<◌, ◌≤◌, ◌++◌, List, Option, Some, None, length, get_or, set, take, drop, sym, ◌∙◌, subst, arith}
use Rattle.std.proofs.lemmas.List.{length-append, length-drop, length-set}
use Rattle.place_queue.specs.declared.key.Key.{Key}
use Rattle.place_queue.specs.declared.heap.Entry.{Entry}
use Rattle.place_queue.specs.Heap.{IsHeap, HasHole, IsAbove}
use Rattle.place_queue.specs.IsQueue.{IsQueue}
use Rattle.place_queue.specs.Keys.{key_of, entry_at, keys_in, keys_with}
use Rattle.place_queue.specs.Leq.{Leq}
use Rattle.place_queue.specs.Linked.{AreLinked, AreLinkedBut}
use Rattle.place_queue.proofs.Holes.{chain, same}
use Rattle.place_queue.proofs.Links.{keys_are_with, with_keys, keys_are}
use Rattle.place_queue.proofs.Room.{room}
use Rattle.place_queue.proofs.Turns.{first_of, many_of, one_more, replaced, added, emptied, turned, least_waits, joined}

-- the entries of a part of a list
module _ (es : List Entry) (slots : List ℕ) (n : ℕ) (q : IsQueue es slots n) where
  count : length (take n es) ≡ n
  count = many_of es n q.within

  -- the places that an entry may have for its first time
  module _ (e : Entry) (within : e.place < length slots) (free : get_or slots e.place 0 ≡ 0) where
    pub more_room : n < length es
    more_room = omega (arith, count, q.long, room (take n es) slots (keys_in es slots n) e.place q.linked within free)

    pub end_hole : HasHole (take (n + 1) es) n
    end_hole =
        let longer : length (take (n + 1) es) ≡ n + 1 = many_of es (n + 1) (omega (arith, more_room)) in
        record {
          ordered = λ p k c p_not k_not.
              let k_in : k < n = omega (arith, c.inside) in
              let p_in : p < n = omega (arith, c.first) in
              same (entry_at (take (n + 1) es) p) (entry_at (take (n + 1) es) k) (entry_at (take n es) p) (entry_at (take n es) k)
              (one_more es n p p_in) (one_more es n k k_in)
              (q.heap p k (record { first = c.first; last = c.last; inside = omega (arith, count) }));
          across = λ p k c d. absurd (omega (arith, d.first, d.inside));
        }

    end_linked : AreLinkedBut (take (n + 1) es) slots (set (keys_in es slots n) e.place (Some (key_of e))) n e
    end_linked = added es slots (keys_in es slots n) n more_room e q.linked (omega (arith, more_room, q.long)) within free

    pub end_links : AreLinkedBut (take (n + 1) es) slots (keys_with (take (n + 1) es) slots n e) n e
    end_links = with_keys (take (n + 1) es) slots (set (keys_in es slots n) e.place (Some (key_of e))) n e end_linked

    pub end_keys : keys_with (take (n + 1) es) slots n e ≡ set (keys_in es slots n) e.place (Some (key_of e))
    end_keys = keys_are_with (take (n + 1) es) slots (set (keys_in es slots n) e.place (Some (key_of e))) n e end_linked

  -- the entry at i gives way to one of its place that is no greater
  module _ (e : Entry) (i : ℕ) (here : get_or slots e.place 0 ≡ i + 1) where
    found : (i < length (take n es)) × ((entry_at (take n es) i).place ≡ e.place)
    found = q.linked.found e.place i here

    pub its_hole : HasHole (take n es) i
    its_hole = record {
      ordered = λ p k c p_not k_not. q.heap p k c;
      across = λ p k c d. chain (entry_at (take n es) p) (entry_at (take n es) i) (entry_at (take n es) k) (q.heap p i c) (q.heap i k d);
    }

    pub its_above : ((old : Key) → get_or (keys_in es slots n) e.place None ≡ Some old → Leq (key_of e) old) → IsAbove (take n es) i e
    its_above lower = λ k c.
        let x : Entry = entry_at (take n es) i in
        let less = lower (key_of x) (subst (λ p. get_or (keys_in es slots n) p None ≡ Some (key_of x)) found.1 (q.linked.settled i found.0).key) in
        chain e x (entry_at (take n es) k) less (q.heap i k c)

    its_linked : AreLinkedBut (take n es) slots (set (keys_in es slots n) e.place (Some (key_of e))) i e
    its_linked = replaced (take n es) slots (keys_in es slots n) q.linked i e found.0 found.1 (omega (arith, count, q.within, q.long))

    pub its_links : AreLinkedBut (take n es) slots (keys_with (take n es) slots i e) i e
    its_links = with_keys (take n es) slots (set (keys_in es slots n) e.place (Some (key_of e))) i e its_linked

    pub its_keys : keys_with (take n es) slots i e ≡ set (keys_in es slots n) e.place (Some (key_of e))
    its_keys = keys_are_with (take n es) slots (set (keys_in es slots n) e.place (Some (key_of e))) i e its_linked

  -- the first entry is taken
  module _ (some : 0 < n) where
    first_is : entry_at (take n es) 0 ≡ entry_at es 0
    first_is = first_of es n 0 some

    in' : 0 < length (take n es)
    in' = omega (arith, count)

    pub first_key : get_or (keys_in es slots n) (entry_at es 0).place None ≡ Some (key_of (entry_at es 0))
    first_key = subst (λ (x : Entry). get_or (keys_in es slots n) x.place None ≡ Some (key_of x)) first_is (q.linked.settled 0 in').key

    pub first_least : (m : ℕ) (k : Key) → get_or (keys_in es slots n) m None ≡ Some k → Leq (key_of (entry_at es 0)) k
    first_least m k e = subst (λ x. Leq (key_of x) k) first_is (least_waits (take n es) slots (keys_in es slots n) q.heap q.linked m k e)

    rest_linked : n - 1 ≡ 0 → AreLinked (take (n - 1) es) (set slots (entry_at es 0).place 0) (set (keys_in es slots n) (entry_at es 0).place None)
    rest_linked z = emptied (take n es) slots (keys_in es slots n) q.linked (entry_at es 0) first_is in' (take (n - 1) es) (omega (arith, count)) (many_of es (n - 1) (omega (arith, q.within)) ∙ z)

    -- with no other entry the queue is empty
    pub last_taken : n - 1 ≤ 0 → IsQueue es (set slots (entry_at es 0).place 0) (n - 1)
    last_taken z =
        let none : n - 1 ≡ 0 = omega arith in
        let l = rest_linked none in
        let len : length (take (n - 1) es) ≡ n - 1 = many_of es (n - 1) (omega (arith, q.within)) in
        record {
          long = q.long ∙ sym (length-set slots (entry_at es 0).place 0);
          few = omega (arith, length-set slots (entry_at es 0).place 0, q.few);
          within = omega (arith, q.within);
          heap = λ p k c. absurd (omega (arith, len, c.inside));
          linked = subst (AreLinked (take (n - 1) es) (set slots (entry_at es 0).place 0)) (sym (keys_are (take (n - 1) es) (set slots (entry_at es 0).place 0) _ l)) l;
        }

    pub last_keys : n - 1 ≤ 0 → keys_in es (set slots (entry_at es 0).place 0) (n - 1) ≡ set (keys_in es slots n) (entry_at es 0).place None
    last_keys z = keys_are (take (n - 1) es) (set slots (entry_at es 0).place 0) _ (rest_linked (omega arith))

    module _ (more : 0 < n - 1) where
      turned_linked : AreLinkedBut (take (n - 1) es) (set slots (entry_at es 0).place 0) (set (keys_in es slots n) (entry_at es 0).place None) 0 (entry_at es (n - 1))
      turned_linked =
          turned (take n es) slots (keys_in es slots n) q.linked (entry_at es 0) first_is in' (take (n - 1) es) (entry_at es (n - 1)) (n - 1) (omega (arith, count)) (many_of es (n - 1) (omega (arith, q.within)))
          (λ k l. first_of es (n - 1) k l ∙ sym (first_of es n k (omega arith))) (first_of es n (n - 1) (omega arith)) more (omega (arith, q.within, q.long))

      pub turned_links : AreLinkedBut (take (n - 1) es) (set slots (entry_at es 0).place 0) (keys_with (take (n - 1) es) (set slots (entry_at es 0).place 0) 0 (entry_at es (n - 1))) 0 (entry_at es (n - 1))
      turned_links = with_keys (take (n - 1) es) (set slots (entry_at es 0).place 0) _ 0 (entry_at es (n - 1)) turned_linked

      pub turned_keys : keys_with (take (n - 1) es) (set slots (entry_at es 0).place 0) 0 (entry_at es (n - 1)) ≡ set (keys_in es slots n) (entry_at es 0).place None
      turned_keys = keys_are_with (take (n - 1) es) (set slots (entry_at es 0).place 0) _ 0 (entry_at es (n - 1)) turned_linked

-- how a heap that was moved about comes back into its queue
pub back : (es fs : List Entry) (slots ts : List ℕ) (keys ks : List (Option Key)) (m : ℕ) → m ≤ length es → length es ≡ length slots → length slots < 2 ^ 32 - 1 → length fs ≡ length (take m es) → length ts ≡ length slots → IsHeap fs → AreLinked fs ts keys → keys ≡ ks → IsQueue (fs ++ drop m es) ts m × (keys_in (fs ++ drop m es) ts m ≡ ks)
back es fs slots ts keys ks m le long few a b h l e =
    let len = many_of es m le in
    joined fs (drop m es) ts ks m (a ∙ len) (omega (arith, length-append fs (drop m es), length-drop m es)) (omega arith) h (subst (AreLinked fs ts) e l)
