-- Where a place doesn't wait, there are fewer entries than places.
use Rattle.std.proofs.Common.{ℕ, zero, suc, ◌≡◌, ◌≢◌, ◌+◌, ◌<◌, ◌≤◌, List, [], ◌∷◌, Option, length, get_or, set, min, ap, ◌∙◌, arith}
use Rattle.std.specs.List.{sum_by}
use Rattle.std.proofs.lemmas.List.{get_or-set_other, length-set}
use Rattle.std.proofs.lemmas.List.Sums.{sum_by-cons, sum_by-set}
use Rattle.place_queue.specs.declared.key.Key.{Key}
use Rattle.place_queue.specs.declared.heap.Entry.{Entry}
use Rattle.place_queue.specs.Linked.{AreLinked}

-- how many slots are in use
abbrev used : List ℕ → ℕ
used slots = sum_by (λ s. min 1 s) slots

used-le : (slots : List ℕ) → used slots ≤ length slots
used-le [] = omega arith
used-le (s ∷ slots) = omega (arith, used-le slots, sum_by-cons (λ (s : ℕ). min 1 s) s slots)

-- slots that hold the first n numbers from 1 on are at least n
many : (n : ℕ) (slots : List ℕ) → ((k : ℕ) → k < n → (q : ℕ) × (q < length slots) × (get_or slots q 0 ≡ k + 1)) → n ≤ used slots
many zero slots h = omega arith
many (suc n) slots h =
    let last = h n (omega arith) in
    let rest = many n (set slots last.0 0) (λ k l.
    let one = h k (omega arith) in
    let apart : one.0 ≢ last.0 = λ e. omega (arith, one.2, last.2, ap (λ q. get_or slots q 0) e) in
    (one.0, omega (arith, length-set slots last.0 0, one.1), get_or-set_other slots last.0 one.0 0 0 apart ∙ one.2)) in
    omega (arith, rest, last.2, sum_by-set (λ s. min 1 s) slots last.0 0 0 last.1)

pub room : (es : List Entry) (slots : List ℕ) (keys : List (Option Key)) (q : ℕ) → AreLinked es slots keys → q < length slots → get_or slots q 0 ≡ 0 → length es < length slots
room es slots keys q h l free =
    let some = many (length es) slots (λ k m. let s = h.settled k m in (_, s.place, s.slot)) in
    omega (arith, some, free, sum_by-set (λ s. min 1 s) slots q 1 0 l, used-le (set slots q 1), length-set slots q 1)
