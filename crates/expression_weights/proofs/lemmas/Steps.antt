-- What each step adds at most: to what is lowered, and to the nodes of the open block.
use Rattle.std.proofs.Common.{◌≡◌, ℕ, zero, suc, ◌+◌, ◌-◌, ◌≤◌, Bool, true, false, ℤ, List, [], ◌∷◌, ◌++◌, refl, sym, ap, ◌∙◌, subst, arith, length-append}
use Rattle.std.specs.Prelude.{Option, Some, None, length}
use Rattle.op_forest.specs.Frames.{lowest}
use Rattle.op_forest.specs.declared.frame.Slot.{Slot}
use Rattle.dag_forest.specs.declared.act.Act.{Act}
use Rattle.dag_forest.specs.declared.entry.Entry.{Entry}
use Rattle.dag_forest.specs.declared.entry.Entry.TheVariants as entry
use Rattle.dag_forest.specs.declared.kids.Kids.TheVariants as kids
use Rattle.dag_forest.specs.declared.parts.Parts.{Parts}
use Rattle.dag_forest.specs.NewSlots.{slot_below, slots_below}
use Rattle.dag_forest.specs.Split.{room_count}
use Rattle.dag_forest.specs.Tally.{node_count, AreFormed, keys_of, key_behind}
use Rattle.dag_sizes.specs.Weights.{weight, weight_of}
use Rattle.piece_runs.specs.Pieces.{Piece, OfBlock, Mark}
use Rattle.c_rows_agree.specs.Templates.{Template, Given, Leaf, One, Two, Root}
use Rattle.lowered_forms.specs.Asked.{Asked, key_place, found_or_new, asked_parts, with_kids, asked, rooted, rooted_one}
use Rattle.lowered_forms.specs.Calls.{call_stored}
use Rattle.lowered_forms.specs.Lows.{Low, with_entries, acted, acted_one, ended, marked, with_slot, with_label}
use Rattle.lowered_forms.specs.Sizes.{pieces_weight, pieces_rooms, other_slots, weight_by}
use Rattle.expression_weights.specs.Prices.{acts_in, Costs}
use Rattle.expression_weights.specs.Templates.{Priced, Asks}
use Rattle.expression_weights.specs.Weighs.{Weighs, AreFormedPieces, IsFormed}
use Rattle.expression_weights.specs.Rises.{Risen, Rises}
use Rattle.expression_weights.proofs.lemmas.Priced.{weight_below}
use Rattle.expression_weights.proofs.lemmas.Blocks.{count_value, dropped, costs_more, with_root}
use Rattle.expression_weights.proofs.lemmas.Templates.{asked_formed, root_formed, asked_got, rooted_costs, rooted_one_costs, asks_got}
use Rattle.expression_weights.proofs.lemmas.Calls.{call_costs}

-- ---- a bound is one

append_none : (xs : List Act) → xs ++ [] ≡ xs
append_none [] = refl
append_none (x ∷ xs) = ap (λ z. x ∷ z) (append_none xs)

pub block_weight : (es : List Entry) (b : ℕ) → Costs es (λ m. 0) b → weight es ≤ b
block_weight es b h =
    let e : weight es ≡ weight_of (acts_in es) (λ m. false) = ap (λ z. weight_of (acts_in es ++ z) (λ m. false)) h.free ∙ ap (λ z. weight_of z (λ m. false)) (append_none (acts_in es)) in
    let l = weight_below h.light (acts_in es) (λ m. false) h.may in
    let f = h.below in
    omega (arith, e, l, f)

pub bounds_hold : (w : ℕ) (l : Low) → Weighs w l → weight_by l.entries l ≤ w
bounds_hold w l h = let a = block_weight l.entries h.cost h.block in let b = h.all in omega (arith, a, b)

empty_costs : Costs [] (λ m. 0) 0
empty_costs = record { light = λ m. false; free = refl; may = tt; below = omega arith; none = λ m l. refl; known = tt }

pub empty_weighs : (labels : ℕ) → Weighs 0 (record { pieces = []; entries = []; slots = []; labels = labels })
empty_weighs labels = record { cost = 0; block = empty_costs; all = omega arith }

-- ---- pieces

weights_append : (ps qs : List Piece) → pieces_weight (ps ++ qs) ≡ pieces_weight ps + pieces_weight qs
weights_append [] qs = omega arith
weights_append (OfBlock before es ∷ ps) qs = let h = weights_append ps qs in omega (arith, h)
weights_append (Mark n ∷ ps) qs = let h = weights_append ps qs in omega (arith, h)

rooms_append : (ps qs : List Piece) → pieces_rooms (ps ++ qs) ≡ pieces_rooms ps + pieces_rooms qs
rooms_append [] qs = omega arith
rooms_append (OfBlock before es ∷ ps) qs = let h = rooms_append ps qs in omega (arith, h)
rooms_append (Mark n ∷ ps) qs = rooms_append ps qs

formed_pieces : (ps qs : List Piece) → AreFormedPieces (ps ++ qs) → AreFormedPieces ps × AreFormedPieces qs
formed_pieces [] qs h = (tt, h)
formed_pieces (OfBlock before es ∷ ps) qs h = let r = formed_pieces ps qs h.1 in ((h.0, r.0), r.1)
formed_pieces (Mark n ∷ ps) qs h = formed_pieces ps qs h

below_are : (low : ℤ) (n : ℕ) → length (slots_below low n) ≡ n
below_are low zero = omega arith
below_are low (suc n) = let h = below_are low n in let e = length-append (slots_below low n) (slot_below low n ∷ []) in omega (arith, h, e)

ended_slots : (l : Low) → other_slots (ended l) ≤ other_slots l
ended_slots l =
    let a = length-append l.slots (slots_below (lowest l.slots) (room_count l.entries)) in
    let b = below_are (lowest l.slots) (room_count l.entries) in
    let c = rooms_append l.pieces (OfBlock l.slots l.entries ∷ []) in
    by (length l.slots) (room_count l.entries) (pieces_rooms l.pieces) (length (ended l).slots) (pieces_rooms (ended l).pieces) (omega (arith, a, b)) (omega (arith, c))
  where
    by : (n r m p q : ℕ) → p ≡ n + r → q ≡ m + r → p - q ≤ n - m
    by n r m p q e d = omega (arith, e, d)

slot_taken : (l : Low) → other_slots (with_slot l) ≤ other_slots l + 1
slot_taken l = let a = length-append l.slots (slot_below (lowest l.slots) 0 ∷ []) in by (length l.slots) (pieces_rooms l.pieces) (length (with_slot l).slots) (omega (arith, a))
  where
    by : (n m p : ℕ) → p ≡ n + 1 → p - m ≤ (n - m) + 1
    by n m p e = omega (arith, e)

-- ---- steps

-- What weighs at most w before weighs at most so much more behind, if the blocks are formed then.
pub record Raises (n : ℕ) (a b : Low) : Type 0 where
  pub formed : IsFormed b → IsFormed a
  pub weighs : IsFormed b → (w : ℕ) → Weighs w a → Weighs (w + n) b

pub weighs_more : (v w : ℕ) (l : Low) → v ≤ w → Weighs v l → Weighs w l
weighs_more v w l le h = record { cost = h.cost; block = h.block; all = (let a = h.all in omega (arith, a, le)) }

-- the open block alone goes on
goes_on : (n : ℕ) (l : Low) (es : List Entry) → (AreFormed es 0 → AreFormed l.entries 0) → (AreFormed es 0 → (b : ℕ) → Costs l.entries (λ m. 0) b → Costs es (λ m. 0) (b + n)) → Raises n l (with_entries es l)
goes_on n l es back costs = record {
  formed = λ f. record { open_ = back f.open_; pieces = f.pieces };
  weighs = λ f w h. record { cost = h.cost + n; block = costs f.open_ h.cost h.block; all = (let a = h.all in omega (arith, a)) };
}

ended_raises : (l : Low) → Raises 0 l (ended l)
ended_raises l = record {
  formed = λ f. let r = formed_pieces l.pieces (OfBlock l.slots l.entries ∷ []) f.pieces in record { open_ = r.1.0; pieces = r.0 };
  weighs = λ f w h. record {
    cost = 0;
    block = empty_costs;
    all = (let a = h.all in let b = block_weight l.entries h.cost h.block in let c = weights_append l.pieces (OfBlock l.slots l.entries ∷ []) in let d = ended_slots l in omega (arith, a, b, c, d));
  };
}

marked_raises : (n : ℕ) (l : Low) → Raises 1 l (marked n l)
marked_raises n l = record {
  formed = λ f. let r = formed_pieces (ended l).pieces (Mark n ∷ []) f.pieces in (ended_raises l).formed (record { open_ = tt; pieces = r.0 });
  weighs = λ f w h.
      let r = formed_pieces (ended l).pieces (Mark n ∷ []) f.pieces in
      let e = (ended_raises l).weighs (record { open_ = tt; pieces = r.0 }) w h in
      let a = e.all in
      let c = weights_append (ended l).pieces (Mark n ∷ []) in
      let d = rooms_append (ended l).pieces (Mark n ∷ []) in
      let s = same_slots (length (ended l).slots) (pieces_rooms (ended l).pieces) (pieces_rooms ((ended l).pieces ++ Mark n ∷ [])) (omega (arith, d)) in
      record { cost = e.cost; block = e.block; all = omega (arith, a, c, s) };
}
  where
    same_slots : (p m q : ℕ) → q ≡ m → p - q ≡ p - m
    same_slots p m q e = ap (λ z. p - z) e

pub raises_rises : Rises Raises
raises_rises = record {
  same = λ l. record { formed = λ f. f; weighs = λ f w h. weighs_more w (w + 0) l (omega arith) h };
  joins = λ m n a b c x y. record {
    formed = λ f. x.formed (y.formed f);
    weighs = λ f w h. weighs_more ((w + m) + n) (w + (m + n)) c (omega arith) (y.weighs f (w + m) (x.weighs (y.formed f) w h));
  };
  weakens = λ m n a b le x. record { formed = x.formed; weighs = λ f w h. weighs_more (w + m) (w + n) b (omega (arith, le)) (x.weighs f w h) };
  asks = λ k t l p. goes_on k l (asked t l.entries).entries (λ f. asked_formed t l.entries f) (λ f b h. asks_got k t l.entries b f p h);
  acts = λ i j r l p q. goes_on (suc (i + j)) l (rooted r l.entries)
      (λ f.
      let p1 = asked r.left l.entries in
      let q1 = asked r.right p1.entries in
      asked_formed r.left l.entries (asked_formed r.right p1.entries (root_formed q1.entries (with_kids r.head (kids.Two p1.node q1.node)) f).0))
      (λ f b h. rooted_costs i j r l.entries b f p q h);
  acts_one = λ i x t l p. goes_on (suc i) l (rooted_one x t l.entries)
      (λ f. let p1 = asked t l.entries in asked_formed t l.entries (root_formed p1.entries (with_kids x (kids.One p1.node)) f).0)
      (λ f b h. rooted_one_costs i x t l.entries b f p h);
  calls = λ i z f l p. goes_on (18 + i) l (rooted (call_stored z f) l.entries)
      (λ g.
      let r = call_stored z f in
      let p1 = asked r.left l.entries in
      let q1 = asked r.right p1.entries in
      asked_formed r.left l.entries (asked_formed r.right p1.entries (root_formed q1.entries (with_kids r.head (kids.Two p1.node q1.node)) g).0))
      (λ g b h. call_costs i z f l.entries b g p h);
  alone = λ x l. goes_on 1 l (l.entries ++ entry.Root (with_kids x kids.Zero) ∷ []) (λ f. (root_formed l.entries (with_kids x kids.Zero) f).0)
      (λ f b h. with_root l.entries (with_kids x kids.Zero) (λ m. 0) b (λ m. refl) h);
  ends = ended_raises;
  marks = marked_raises;
  slot = λ l. record {
    formed = λ f. record { open_ = f.open_; pieces = f.pieces };
    weighs = λ f w h. record { cost = h.cost; block = h.block; all = (let a = h.all in let s = slot_taken l in omega (arith, a, s)) };
  };
  label = λ l. record {
    formed = λ f. record { open_ = f.open_; pieces = f.pieces };
    weighs = λ f w h. record { cost = h.cost; block = h.block; all = (let a = h.all in omega (arith, a)) };
  };
}
