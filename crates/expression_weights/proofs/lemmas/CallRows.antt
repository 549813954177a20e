-- What the steps of calls add: for each operand at most what saves it, copies it or passes it; and for the call and its value.
use Rattle.std.specs.Prelude.{ℤ, pos, negsuc, Option, Some, None, ◌≤◌, ℕ, suc, ◌+◌, Bool, true, false, refl, List, [], ◌∷◌, ◌++◌, slice_get}
use Rattle.std.proofs.Common.{arith}
use Rattle.op_forest.specs.declared.op.Op.TheVariants as op
use Rattle.op_forest.specs.declared.suffix.Suffix.{Suffix}
use Rattle.op_forest.specs.declared.suffix.Suffix.TheVariants.{C, S, I, U, P, B, V}
use Rattle.c_types.specs.CType.{CType}
use Rattle.c_meaning.specs.CoreTrees.{type_of}
use Rattle.c_meaning.specs.Types.{is_void, is_pointer, is_record}
use Rattle.c_runs.specs.Places.{size_of, align_of}
use Rattle.c_rows_agree.specs.Templates.{Template}
use Rattle.c_rows_agree.specs.Typed.{Typed, head, as_i_from, as_p}
use Rattle.c_rows_agree.specs.Integers.{number}
use Rattle.c_pointers_agree.specs.Pointers.{call_head}
use Rattle.lowered_forms.specs.Accesses.{copy_root}
use Rattle.lowered_forms.specs.Calls.{Passed, all_held, passed_by, with_argument, held_for, word_passed, all_passed, called, call_stored, result_suffix, scalar_given, given_by, made}
use Rattle.lowered_forms.specs.Contexts.{Context}
use Rattle.lowered_forms.specs.Lows.{Low, acted, with_slot, slot_offset}
use Rattle.lowered_forms.specs.Places.{address_at, is_passed_whole, local_by, local_place}
use Rattle.lowered_forms.specs.Straight.{straight}
use Rattle.lowered_forms.specs.Values.{Lowered, Part, held, slot_read}
use Rattle.expression_weights.specs.Rises.{Risen, Rises}
use Rattle.expression_weights.specs.Templates.{Priced, Asks}
use Rattle.expression_weights.proofs.lemmas.Templates.{priced_more}
use Rattle.expression_weights.proofs.lemmas.Operations.{PricedAt, as_i_at, p_priced, local_priced, local_asks, slot_asks, leaf_value}
use Rattle.expression_weights.proofs.lemmas.Operands.{Comes, save_price, save_most, Holds, held_holds, placed_comes, none_rises}
use Rattle.expression_weights.proofs.lemmas.Rows.{copied_rises}

-- what operands that are there may still add: each once it is saved, and where it is passed
abbrev pub to_pass : List Typed → ℕ
to_pass [] = 0
to_pass (v ∷ vs) = (save_price v.tree + 13) + to_pass vs

abbrev pub AllPriced : List Typed → Type 0
AllPriced [] = Unit {0}
AllPriced (v ∷ vs) = PricedAt 10 v × AllPriced vs

-- words alone
abbrev words : List Typed → ℕ
words [] = 0
words (v ∷ vs) = 13 + words vs

words_less : (vs : List Typed) → words vs ≤ to_pass vs
words_less [] = omega arith
words_less (v ∷ vs) = let h = words_less vs in omega (arith, h)

with_last : (vs : List Typed) (v : Typed) → to_pass (vs ++ v ∷ []) ≤ to_pass vs + (save_price v.tree + 13)
with_last [] v = omega arith
with_last (w ∷ vs) v = let h = with_last vs v in omega (arith, h)

last_priced : (vs : List Typed) (v : Typed) → AllPriced vs → PricedAt 10 v → AllPriced (vs ++ v ∷ [])
last_priced [] v h g = (g, tt)
last_priced (w ∷ vs) v h g = (h.0, last_priced vs v h.1 g)

address_none : (z : ℤ) → save_price (address_at z).tree ≤ 0
address_none (pos m) = omega arith
address_none (negsuc m) = omega arith

saves_none : (b : Bool) (z : Option ℤ) → save_price (local_by b z).tree ≤ 0
saves_none true None = omega arith
saves_none false None = omega arith
saves_none true (Some z) = omega arith
saves_none false (Some z) = address_none z

place_unsaved : (s : Context) (n : ℕ) (of : CType) → save_price (local_place s n of).tree ≤ 0
place_unsaved s n of = saves_none (is_passed_whole s n of) (slice_get s.places n)

module _ (R : Risen) (k : Rises R) where
  -- so much is added, and so much may still be
  pub record Passes (m nodes : ℕ) (l : Low) (p : Passed) : Type 0 where
    pub cost : ℕ
    pub rises : R (cost + m) l p.low
    pub left : cost + to_pass p.values ≤ nodes
    pub values : AllPriced p.values

  all_held_passes : (b : Bool) (n : ℕ) (vs : List Typed) (l : Low) → AllPriced vs → Passes 0 (to_pass vs) l (all_held b n vs l)
  all_held_passes b n [] l h = record { cost = 0; rises = k.same l; left = omega arith; values = tt }
  all_held_passes b n (v ∷ vs) l h =
      let r = held b v l in
      let c = held_holds R k b v l h.0 in
      let t = all_held_passes b n vs r.low h.1 in
      record {
        cost = c.cost + t.cost;
        rises = k.weakens (c.cost + (t.cost + 0)) ((c.cost + t.cost) + 0) l _ (omega arith) (k.joins c.cost (t.cost + 0) l r.low _ c.rises t.rises);
        left = (let x = c.left in let y = t.left in omega (arith, x, y));
        values = (c.value, t.values);
      }

  -- the argument behind the operands
  passed_passes : (b : Bool) (s : Context) (of : CType) (m : ℕ) (p : Passed) (l : Low) (r : Lowered) → AllPriced p.values → Comes R k m l r
      → Passes m (to_pass p.values + 39) l (passed_by b s of p r)
  passed_passes true s of m p l r h c =
      let place = local_place s p.next of in
      let g = local_priced (is_passed_whole s p.next of) (slice_get s.places p.next) in
      record {
        cost = 26;
        rises = k.weakens (m + 26) (26 + m) l _ (omega arith) (k.joins m 26 l r.low _ c.rises (copied_rises R k (size_of s.unit.tags of) (align_of s.unit.tags of) place r.value r.low g c.value));
        left = (let x = with_last p.values place in let y = place_unsaved s p.next of in omega (arith, x, y));
        values = last_priced p.values place h g;
      }
  passed_passes false s of m p l r h c = record {
    cost = 0;
    rises = k.weakens m (0 + m) l r.low (omega arith) c.rises;
    left = (let x = with_last p.values r.value in let y = save_most r.value.tree in omega (arith, x, y));
    values = last_priced p.values r.value h c.value;
  }

  pub argument_passes : (m : ℕ) (s : Context) (a : Part) → ((l : Low) → Comes R k m l (a.value l)) → (p : Passed) → AllPriced p.values
      → Passes m (to_pass p.values + 39) p.low (with_argument s a (held_for a p))
  argument_passes m s a f p h =
      let q = held_for a p in
      let x = all_held_passes (straight a.tree) p.next p.values p.low h in
      let y = passed_passes (is_record (type_of a.tree)) s (type_of a.tree) m q q.low (a.value q.low) x.values (f q.low) in
      record {
        cost = x.cost + y.cost;
        rises = k.weakens ((x.cost + 0) + (y.cost + m)) ((x.cost + y.cost) + m) p.low _ (omega arith) (k.joins (x.cost + 0) (y.cost + m) p.low q.low _ x.rises y.rises);
        left = (let u = x.left in let v = y.left in omega (arith, u, v));
        values = y.values;
      }

  -- ---- the call

  word_rises : (x : Suffix) (t : Template) (l : Low) → Priced 10 t → R 13 l (word_passed x t l)
  word_rises C t l h = k.acts_one 12 (head op.Arg I) (as_i_from C t) l (as_i_at 10 C t (omega arith) h)
  word_rises S t l h = k.acts_one 12 (head op.Arg I) (as_i_from S t) l (as_i_at 10 S t (omega arith) h)
  word_rises I t l h = k.acts_one 12 (head op.Arg I) (as_i_from I t) l (as_i_at 10 I t (omega arith) h)
  word_rises U t l h = k.acts_one 12 (head op.Arg I) (as_i_from U t) l (as_i_at 10 U t (omega arith) h)
  word_rises P t l h = k.acts_one 12 (head op.Arg P) t l (priced_more 10 12 t (omega arith) h)
  word_rises B t l h = k.acts_one 12 (head op.Arg I) (as_i_from B t) l (as_i_at 10 B t (omega arith) h)
  word_rises V t l h = k.acts_one 12 (head op.Arg I) (as_i_from V t) l (as_i_at 10 V t (omega arith) h)

  words_rise : (vs : List Typed) (l : Low) → AllPriced vs → R (words vs) l (all_passed vs l)
  words_rise [] l h = k.same l
  words_rise (v ∷ vs) l h = k.joins 13 (words vs) l (word_passed v.suffix v.tree l) _ (word_rises v.suffix v.tree l h.0) (words_rise vs (word_passed v.suffix v.tree l) h.1)

  called_rises : (f : Typed) (vs : List Typed) (l : Low) → PricedAt 10 f → AllPriced vs → R (words vs + 13) l (called f (all_passed vs l))
  called_rises f vs l g h = k.joins (words vs) 13 l (all_passed vs l) _ (words_rise vs l h) (k.acts_one 12 (call_head false) (as_p f) (all_passed vs l) (p_priced f g))

  scalar_comes : (of : CType) (f : Typed) (vs : List Typed) (l : Low) → PricedAt 10 f → AllPriced vs → Comes R k (words vs + 33) l (scalar_given of f vs l)
  scalar_comes of f vs l g h =
      let l1 = with_slot l in
      let l2 = all_passed vs l1 in
      let z = slot_offset l in
      let l3 = acted (call_stored z f) l2 in
      let r = placed_comes R k 2 (slot_read (result_suffix (is_pointer of)) z) l3 (slot_asks (result_suffix (is_pointer of)) z) in
      record {
        rises = k.weakens (1 + (words vs + (30 + 2))) (words vs + 33) l _ (omega arith)
            (k.joins 1 (words vs + (30 + 2)) l l1 _ (k.slot l) (k.joins (words vs) (30 + 2) l1 l2 _ (words_rise vs l1 h) (k.joins 30 2 l2 l3 _ (k.calls 12 z f l2 (p_priced f g)) r.rises)));
        value = r.value;
      }

  given_comes : (b void : Bool) (s : Context) (of : CType) (n : ℕ) (f : Typed) (vs : List Typed) (l : Low) → PricedAt 10 f → AllPriced vs → Comes R k (words vs + 33) l (given_by b void s of n f vs l)
  given_comes true void s of n f vs l g h =
      let place = local_place s n of in
      let ws = place ∷ vs in
      let l1 = called f (all_passed ws l) in
      let r = placed_comes R k 2 place l1 (local_asks (is_passed_whole s n of) (slice_get s.places n)) in
      record {
        rises = k.weakens (((13 + words vs) + 13) + 2) (words vs + 33) l _ (omega arith)
            (k.joins ((13 + words vs) + 13) 2 l l1 _ (called_rises f ws l g (local_priced (is_passed_whole s n of) (slice_get s.places n), h)) r.rises);
        value = r.value;
      }
  given_comes false true s of n f vs l g h = record { rises = k.weakens (words vs + 13) (words vs + 33) l _ (omega arith) (called_rises f vs l g h); value = leaf_value true 0 }
  given_comes false false s of n f vs l g h = scalar_comes of f vs l g h

  pub made_comes : (s : Context) (of : CType) (n : ℕ) (vs : List Typed) (l : Low) → AllPriced vs → Comes R k (to_pass vs + 20) l (made s of n vs l)
  made_comes s of n [] l h = record { rises = none_rises R k (to_pass [] + 20) l; value = leaf_value true 0 }
  made_comes s of n (f ∷ vs) l h =
      let c = given_comes (is_record of) (is_void of) s of n f vs l h.0 h.1 in
      record { rises = k.weakens (words vs + 33) (to_pass (f ∷ vs) + 20) l _ (let e = words_less vs in omega (arith, e)) c.rises; value = c.value }
