-- The rooms of nodes: their numbers, no two of which are one.
use Rattle.std.proofs.Common.{◌≡◌, ⊎_elim, ℕ, ◌<◌, ◌≤◌, Bool, true, false, Option, Some, None, List, [], ◌∷◌, inl, inr, sym, ap, ◌∙◌, arith}
use Rattle.std.specs.Prelude.{◌⊎◌, ◌&&◌, not}
use Rattle.std.proofs.lemmas.Bool.{cases_eq}
use Rattle.std.proofs.lemmas.Option.{none-some, same_Some}
use Rattle.dag_forest.specs.declared.parts.Parts.{Parts}
use Rattle.dag_forest.specs.Schedules.{Act, Made, Acts, at}
use Rattle.dag_forest.specs.Choice.{Room, room_by, next_by, is_wanted, reads_by, chosen, rooms_to}
use Rattle.dag_forest.proofs.lemmas.Maps.{at_new, at_old}

abbrev Rooms : Type 0
Rooms = ℕ → Option Room

-- a map with one value more
pub at_case : (rest : Rooms) (n m : ℕ) (k : Option Room) (r : Room) → at rest n k m ≡ Some r → ((m ≡ n) × (k ≡ Some r)) ⊎ (rest m ≡ Some r)
at_case rest n m k r e = ⊎_elim
    (λ q. inl (q, sym (ap (at rest n k) q ∙ at_new rest n k) ∙ e))
    (λ q. inr (sym (at_old rest n k m q) ∙ e))
    (cases_eq m n)

-- the rooms from number t up to number u
abbrev Between : ℕ → ℕ → Rooms → Type 0
Between t u rooms = (m : ℕ) (r : Room) → rooms m ≡ Some r → (t ≤ r.number) × (r.number < u)

between_made : (w : Bool) (x : Parts) (rest : Rooms) (n t u : ℕ) → next_by w t ≤ u → Between (next_by w t) u rest → Between t u (at rest n (room_by w x t))
between_made false x rest n t u l h m r e = ⊎_elim (λ q. absurd (none-some r q.1)) (λ q. h m r q) (at_case rest n m None r e)
between_made true x rest n t u l h m r e = ⊎_elim
    (λ q. let z : t ≡ r.number = ap (λ (y : Room). y.number) (same_Some _ r q.1) in (omega (arith, z), omega (arith, z, l)))
    (λ q. let z = h m r q in (omega (arith, z.0), z.1))
    (at_case rest n m (room_by true x t) r e)

pub grows : (xs : List Act) (reads : ℕ → Bool) (t : ℕ) → t ≤ rooms_to xs reads t
grows [] reads t = omega arith
grows (Made n x ∷ as') reads t = by (is_wanted as' reads n x) (rooms_to (Made n x ∷ as') reads t) (grows as' (at reads n (not (is_wanted as' reads n x) && reads_by reads x)) (next_by (is_wanted as' reads n x) t))
  where
    by : (w : Bool) (u : ℕ) → next_by w t ≤ u → t ≤ u
    by false u h = h
    by true u h = omega (arith, h)
grows (Acts x ∷ as') reads t = grows as' reads t

pub between : (xs : List Act) (reads : ℕ → Bool) (t : ℕ) → Between t (rooms_to xs reads t) (chosen xs reads t)
between [] reads t = λ m r e. absurd (none-some r e)
between (Made n x ∷ as') reads t =
    let w = is_wanted as' reads n x in
    let reads' = at reads n (not w && reads_by reads x) in
    between_made w x (chosen as' reads' (next_by w t)) n t (rooms_to as' reads' (next_by w t)) (grows as' reads' (next_by w t)) (between as' reads' (next_by w t))
between (Acts x ∷ as') reads t = between as' reads t

-- no two nodes have rooms of one number
abbrev pub Apart : Rooms → Type 0
Apart rooms = (m p : ℕ) (r q : Room) → rooms m ≡ Some r → rooms p ≡ Some q → r.number ≡ q.number → m ≡ p

apart_made : (w : Bool) (x : Parts) (rest : Rooms) (n t u : ℕ) → Between (next_by w t) u rest → Apart rest → Apart (at rest n (room_by w x t))
apart_made false x rest n t u h d m p r q a b e = ⊎_elim (λ z. absurd (none-some r z.1)) (λ z. ⊎_elim (λ y. absurd (none-some q y.1)) (λ y. d m p r q z y e) (at_case rest n p None q b)) (at_case rest n m None r a)
apart_made true x rest n t u h d m p r q a b e = ⊎_elim
    (λ z. ⊎_elim
    (λ y. z.0 ∙ sym y.0)
    (λ y. let f = h p q y in let g : t ≡ r.number = ap (λ (v : Room). v.number) (same_Some _ r z.1) in absurd (omega (arith, f.0, g, e)))
    (at_case rest n p (room_by true x t) q b))
    (λ z. ⊎_elim
    (λ y. let f = h m r z in let g : t ≡ q.number = ap (λ (v : Room). v.number) (same_Some _ q y.1) in absurd (omega (arith, f.0, g, e)))
    (λ y. d m p r q z y e)
    (at_case rest n p (room_by true x t) q b))
    (at_case rest n m (room_by true x t) r a)

pub apart : (xs : List Act) (reads : ℕ → Bool) (t : ℕ) → Apart (chosen xs reads t)
apart [] reads t = λ m p r q a b e. absurd (none-some r a)
apart (Made n x ∷ as') reads t =
    let w = is_wanted as' reads n x in
    let reads' = at reads n (not w && reads_by reads x) in
    apart_made w x (chosen as' reads' (next_by w t)) n t (rooms_to as' reads' (next_by w t)) (between as' reads' (next_by w t)) (apart as' reads' (next_by w t))
apart (Acts x ∷ as') reads t = apart as' reads t
