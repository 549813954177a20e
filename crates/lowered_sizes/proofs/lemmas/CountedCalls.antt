-- What the steps of calls count: at most one slot for each operand, which may have to wait for the arguments behind it, and one for the value.
use Rattle.std.specs.Prelude.{◌≤◌, ℕ, ◌+◌, Bool, true, false, List, [], ◌∷◌, ◌++◌}
use Rattle.std.proofs.Common.{arith}
use Rattle.op_forest.specs.declared.op.Op.TheVariants as op
use Rattle.op_forest.specs.declared.suffix.Suffix.{Suffix}
use Rattle.op_forest.specs.declared.suffix.Suffix.TheVariants.{C, S, I, U, P, B, V}
use Rattle.c_types.specs.CType.{CType}
use Rattle.c_meaning.specs.CoreTrees.{type_of}
use Rattle.c_meaning.specs.Types.{is_void, is_pointer, is_record}
use Rattle.c_runs.specs.Places.{size_of, align_of}
use Rattle.c_rows_agree.specs.Templates.{Template}
use Rattle.c_rows_agree.specs.Typed.{Typed, head, as_i_from, as_p}
use Rattle.c_pointers_agree.specs.Pointers.{call_head}
use Rattle.lowered_forms.specs.Accesses.{copy_root}
use Rattle.lowered_forms.specs.Calls.{Passed, all_held, passed_by, with_argument, held_for, word_passed, all_passed, called, call_stored, result_suffix, scalar_given, given_by, made}
use Rattle.lowered_forms.specs.Contexts.{Context}
use Rattle.lowered_forms.specs.Lows.{Low, acted, with_slot, slot_offset}
use Rattle.lowered_forms.specs.Places.{local_place}
use Rattle.lowered_forms.specs.Straight.{straight}
use Rattle.lowered_forms.specs.Values.{Lowered, Part, held, slot_read}
use Rattle.lowered_sizes.specs.Counted.{Counted, Counts}
use Rattle.lowered_sizes.proofs.lemmas.Counting.{is_node, one_node, ahead, behind, placed_counts, held_holds}

-- how many of the operands are nodes of the open block
abbrev pub node_values : List Typed → ℕ
node_values [] = 0
node_values (v ∷ vs) = is_node v.tree + node_values vs

nodes_with : (vs : List Typed) (v : Typed) → node_values (vs ++ v ∷ []) ≤ node_values vs + 1
nodes_with [] v = let h = one_node v.tree in omega (arith, h)
nodes_with (w ∷ vs) v = let h = nodes_with vs v in omega (arith, h)

module _ (R : Counted) (k : Counts R) where
  -- with so many slots operands are passed, and so many may still have to be saved
  pub record Passes (m n : ℕ) (nodes : ℕ) (l : Low) (p : Passed) : Type 0 where
    pub slots : ℕ
    pub counts : R (slots + m) n l p.low
    pub left : slots + node_values p.values ≤ nodes

  all_held_passes : (b : Bool) (n : ℕ) (vs : List Typed) (l : Low) → Passes 0 0 (node_values vs) l (all_held b n vs l)
  all_held_passes b n [] l = record { slots = 0; counts = k.same l; left = omega arith }
  all_held_passes b n (v ∷ vs) l =
      let r = held b v l in
      let h = held_holds R k b v l in
      let t = all_held_passes b n vs r.low in
      record {
        slots = h.slots + t.slots;
        counts = k.weakens (h.slots + (t.slots + 0)) (0 + 0) ((h.slots + t.slots) + 0) 0 l _ (omega arith) (omega arith) (k.joins h.slots 0 (t.slots + 0) 0 l r.low _ h.counts t.counts);
        left = (let x = h.left in let y = t.left in omega (arith, x, y));
      }

  passed_counts : (b : Bool) (s : Context) (of : CType) (p : Passed) (r : Lowered) → R 0 0 r.low (passed_by b s of p r).low
  passed_counts true s of p r = k.acts (copy_root (size_of s.unit.tags of) (align_of s.unit.tags of) (local_place s p.next of) r.value) r.low
  passed_counts false s of p r = k.same r.low

  passed_nodes : (b : Bool) (s : Context) (of : CType) (p : Passed) (r : Lowered) → node_values (passed_by b s of p r).values ≤ node_values p.values + 1
  passed_nodes true s of p r = nodes_with p.values (local_place s p.next of)
  passed_nodes false s of p r = nodes_with p.values r.value

  pub argument_passes : (m n : ℕ) (s : Context) (a : Part) → ((l : Low) → R m n l (a.value l).low) → (p : Passed)
      → Passes m n (node_values p.values + 1) p.low (with_argument s a (held_for a p))
  argument_passes m n s a f p =
      let q = held_for a p in
      let h = all_held_passes (straight a.tree) p.next p.values p.low in
      let r = a.value q.low in
      let e = passed_nodes (is_record (type_of a.tree)) s (type_of a.tree) q r in
      record {
        slots = h.slots;
        counts = k.weakens ((h.slots + 0) + m) (0 + n) (h.slots + m) n p.low _ (omega arith) (omega arith)
            (k.joins (h.slots + 0) 0 m n p.low q.low _ h.counts (behind R k m n q.low r.low _ (f q.low) (passed_counts (is_record (type_of a.tree)) s (type_of a.tree) q r)));
        left = (let x = h.left in omega (arith, x, e));
      }

  -- ---- the call

  word_counts : (x : Suffix) (t : Template) (l : Low) → R 0 0 l (word_passed x t l)
  word_counts C t l = k.acts_one (head op.Arg I) (as_i_from C t) l
  word_counts S t l = k.acts_one (head op.Arg I) (as_i_from S t) l
  word_counts I t l = k.acts_one (head op.Arg I) (as_i_from I t) l
  word_counts U t l = k.acts_one (head op.Arg I) (as_i_from U t) l
  word_counts P t l = k.acts_one (head op.Arg P) t l
  word_counts B t l = k.acts_one (head op.Arg I) (as_i_from B t) l
  word_counts V t l = k.acts_one (head op.Arg I) (as_i_from V t) l

  words_count : (vs : List Typed) (l : Low) → R 0 0 l (all_passed vs l)
  words_count [] l = k.same l
  words_count (v ∷ vs) l = ahead R k 0 0 l (word_passed v.suffix v.tree l) _ (word_counts v.suffix v.tree l) (words_count vs (word_passed v.suffix v.tree l))

  called_counts : (f : Typed) (vs : List Typed) (l : Low) → R 0 0 l (called f (all_passed vs l))
  called_counts f vs l = ahead R k 0 0 l (all_passed vs l) _ (words_count vs l) (k.acts_one (call_head false) (as_p f) (all_passed vs l))

  scalar_counts : (of : CType) (f : Typed) (vs : List Typed) (l : Low) → R 1 0 l (scalar_given of f vs l).low
  scalar_counts of f vs l =
      let l1 = with_slot l in
      let l2 = all_passed vs l1 in
      let l3 = acted (call_stored (slot_offset l) f) l2 in
      behind R k 1 0 l l1 _ (k.slot l)
      (ahead R k 0 0 l1 l2 _ (words_count vs l1)
      (ahead R k 0 0 l2 l3 _ (k.acts (call_stored (slot_offset l) f) l2) (placed_counts R k (slot_read (result_suffix (is_pointer of)) (slot_offset l)) l3)))

  one_more : (l m : Low) → R 0 0 l m → R 1 0 l m
  one_more l m h = k.weakens 0 0 1 0 l m (omega arith) (omega arith) h

  given_counts : (b void : Bool) (s : Context) (of : CType) (n : ℕ) (f : Typed) (vs : List Typed) (l : Low) → R 1 0 l (given_by b void s of n f vs l).low
  given_counts true void s of n f vs l =
      let ws = local_place s n of ∷ vs in
      one_more l _ (ahead R k 0 0 l (called f (all_passed ws l)) _ (called_counts f ws l) (placed_counts R k (local_place s n of) (called f (all_passed ws l))))
  given_counts false true s of n f vs l = one_more l _ (called_counts f vs l)
  given_counts false false s of n f vs l = scalar_counts of f vs l

  pub made_counts : (s : Context) (of : CType) (n : ℕ) (vs : List Typed) (l : Low) → R 1 0 l (made s of n vs l).low
  made_counts s of n [] l = one_more l l (k.same l)
  made_counts s of n (f ∷ vs) l = given_counts (is_record of) (is_void of) s of n f vs l
