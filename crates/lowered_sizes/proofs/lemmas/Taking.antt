-- Between two states: at most so many slots beside the temporaries of the finished blocks, and so many labels more.
use Rattle.std.specs.Prelude.{◌≡◌, ◌≤◌, ℕ, zero, suc, ◌+◌, ◌-◌, ℤ, List, [], ◌∷◌, ◌++◌, length}
use Rattle.std.proofs.Common.{arith, ap, length-append}
use Rattle.op_forest.specs.Frames.{lowest}
use Rattle.dag_forest.specs.NewSlots.{slot_below, slots_below}
use Rattle.dag_forest.specs.Split.{room_count}
use Rattle.piece_runs.specs.Pieces.{Piece, OfBlock, Mark}
use Rattle.lowered_forms.specs.Lows.{Low, ended, with_slot}
use Rattle.lowered_forms.specs.Sizes.{pieces_rooms, other_slots}
use Rattle.lowered_sizes.specs.Counted.{Counts}

pub record Takes (m n : ℕ) (a b : Low) : Type 0 where
  pub slots : other_slots b ≤ other_slots a + m
  pub labels : b.labels ≤ a.labels + n

pub below_are : (low : ℤ) (n : ℕ) → length (slots_below low n) ≡ n
below_are low zero = omega arith
below_are low (suc n) = let h = below_are low n in let e = length-append (slots_below low n) (slot_below low n ∷ []) in omega (arith, h, e)

rooms_append : (ps qs : List Piece) → pieces_rooms (ps ++ qs) ≡ pieces_rooms ps + pieces_rooms qs
rooms_append [] qs = omega arith
rooms_append (OfBlock before es ∷ ps) qs = let h = rooms_append ps qs in omega (arith, h)
rooms_append (Mark n ∷ ps) qs = rooms_append ps qs

-- a block that is finished has its temporaries itself
ended_slots : (l : Low) → other_slots (ended l) ≤ other_slots l
ended_slots l =
    let a = length-append l.slots (slots_below (lowest l.slots) (room_count l.entries)) in
    let b = below_are (lowest l.slots) (room_count l.entries) in
    let c = rooms_append l.pieces (OfBlock l.slots l.entries ∷ []) in
    by (length l.slots) (room_count l.entries) (pieces_rooms l.pieces) (length (ended l).slots) (pieces_rooms (ended l).pieces) (omega (arith, a, b)) (omega (arith, c))
  where
    by : (n r m p q : ℕ) → p ≡ n + r → q ≡ m + r → p - q ≤ n - m
    by n r m p q e d = omega (arith, e, d)

marked_slots : (n : ℕ) (l : Low) → pieces_rooms (l.pieces ++ Mark n ∷ []) ≡ pieces_rooms l.pieces
marked_slots n l = let h = rooms_append l.pieces (Mark n ∷ []) in omega (arith, h)

slot_taken : (l : Low) → other_slots (with_slot l) ≤ other_slots l + 1
slot_taken l = let a = length-append l.slots (slot_below (lowest l.slots) 0 ∷ []) in by (length l.slots) (pieces_rooms l.pieces) (length (with_slot l).slots) (omega (arith, a))
  where
    by : (n m p : ℕ) → p ≡ n + 1 → p - m ≤ (n - m) + 1
    by n m p e = omega (arith, e)

pub takes_counts : Counts Takes
takes_counts = record {
  same = λ l. record { slots = omega arith; labels = omega arith };
  joins = λ m n p q a b c x y. record { slots = (let e = x.slots in let f = y.slots in omega (arith, e, f)); labels = (let e = x.labels in let f = y.labels in omega (arith, e, f)) };
  weakens = λ m n p q a b h g x. record { slots = (let e = x.slots in omega (arith, e, h)); labels = (let e = x.labels in omega (arith, e, g)) };
  asks = λ t l. record { slots = omega arith; labels = omega arith };
  acts = λ r l. record { slots = omega arith; labels = omega arith };
  acts_one = λ h t l. record { slots = omega arith; labels = omega arith };
  ends = λ l. record { slots = (let e = ended_slots l in omega (arith, e)); labels = omega arith };
  marks = λ n l. record { slots = (let e = ended_slots l in let d = ap (λ r. length (ended l).slots - r) (marked_slots n (ended l)) in omega (arith, e, d)); labels = omega arith };
  slot = λ l. record { slots = slot_taken l; labels = omega arith };
  label = λ l. record { slots = omega arith; labels = omega arith };
}

-- ---- sums

pub joined : {m n p q : ℕ} {a b c : Low} → Takes m n a b → Takes p q b c → Takes (m + p) (n + q) a c
joined {m} {n} {p} {q} {a} {b} {c} x y = takes_counts.joins m n p q a b c x y

pub at_most : {m n : ℕ} {a b : Low} (p q : ℕ) → Takes m n a b → m ≤ p → n ≤ q → Takes p q a b
at_most {m} {n} {a} {b} p q x g h = takes_counts.weakens m n p q a b g h x
