-- What initialisers add: zeros by a loop and bytes behind it, and for each place its value and a string with zeros behind it.
use Rattle.std.specs.Prelude.{◌≡◌, refl, ◌≤◌, ℕ, zero, suc, ◌+◌, ◌-◌, ◌*◌, ◌/◌, ◌%◌, min, ℤ, pos, nat_lt, nat_le, Bool, true, false, Option, Some, None, List, [], ◌∷◌, length, get_or, slice_get}
use Rattle.std.proofs.Common.{arith}
use Rattle.std.proofs.lemmas.Bool.{leb-true}
use Rattle.objects.specs.declared.operators.Binary.TheVariants as binary
use Rattle.objects.specs.declared.operators.Comparison.TheVariants as comparison
use Rattle.objects.specs.declared.width.Width.{Width}
use Rattle.objects.specs.declared.width.Width.TheVariants.{One, Four}
use Rattle.objects.specs.Values.{bytes_in}
use Rattle.op_forest.specs.declared.suffix.Suffix.TheVariants.{I}
use Rattle.c_types.specs.CType.{CType, Array}
use Rattle.c_meaning.specs.declared.core_expr.CoreKind.{CoreKind}
use Rattle.c_meaning.specs.declared.core_expr.CoreKind.TheVariants as kind
use Rattle.c_meaning.specs.CoreTrees.{parts, what_of}
use Rattle.c_meaning.specs.StmtTrees.{FilledOf}
use Rattle.c_meaning.specs.Types.{is_array, is_record}
use Rattle.c_meaning.specs.Values.{CoreTree}
use Rattle.c_runs.specs.Places.{size_of, align_of, spot_filled}
use Rattle.c_rows_agree.specs.Integers.{number, binary_of}
use Rattle.c_rows_agree.specs.Places.{stored_as}
use Rattle.c_rows_agree.specs.Typed.{Typed}
use Rattle.c_pointers_agree.specs.Pointers.{name, moved}
use Rattle.lowering_limits.specs.Nodes.{filled_nodes}
use Rattle.lowered_forms.specs.Accesses.{copy_root}
use Rattle.lowered_forms.specs.Contexts.{Context, text_name}
use Rattle.lowered_forms.specs.Expressions.{low_e, low_test}
use Rattle.lowered_forms.specs.Lows.{Low, acted, marked, with_label, with_slot, slot_offset}
use Rattle.lowered_forms.specs.Places.{further, is_passed_whole, local_place}
use Rattle.lowered_forms.specs.Values.{slot_read, stored_in}
use Rattle.lowered_statements.specs.Functions.{Function}
use Rattle.lowered_statements.specs.Initialisers.{part_at, text_copied, text_filled, filled_by, filled, all_filled, zeroed_whole, initialised_as, initialised}
use Rattle.lowered_statements.specs.Zeroing.{zeroed_at, zeroed_each, zeroed_next, zeroed_up_to, zeroed_in_turn, zeroed_by, zeroed}
use Rattle.expression_weights.specs.Rises.{Risen, Rises}
use Rattle.expression_weights.proofs.lemmas.Expressions.{price_is, value_comes, test_rises}
use Rattle.expression_weights.proofs.lemmas.Operands.{number_stored}
use Rattle.expression_weights.proofs.lemmas.Operations.{PricedAt, further_priced, moved_priced, binary_priced, slot_priced, leaf_value, local_priced}
use Rattle.statement_weights.proofs.lemmas.Stores.{joined, at_most, stores, keeps, copies, writes, compares}

at_most_four : (n : ℕ) → nat_le n 4 ≡ true → n ≤ 4
at_most_four n e = leb-true n 4 e

remainder_is_small : (n : ℕ) → n % 4 ≤ 3
remainder_is_small n = omega arith

module _ (R : Risen) (k : Rises R) where
  pub none : (n : ℕ) (l : Low) → R n l l
  none n l = k.weakens 0 n l l (omega arith) (k.same l)

  -- ---- expressions and tests

  pub value_adds : (s : Context) (e : CoreTree) (l : Low) → R (69 * parts e) l (low_e s e l).low
  value_adds s e l = let d = price_is e in at_most R k (69 * parts e) (value_comes R k s e l).rises (omega (arith, d))

  pub test_adds : (s : Context) (e : CoreTree) (n : ℕ) (when : Bool) (l : Low) → R (69 * parts e) l (low_test s e n when l)
  test_adds s e n when l = let d = price_is e in at_most R k (69 * parts e) (test_rises R k s e n when l) (omega (arith, d))

  -- ---- zeros

  zero_adds : (base : Typed) (w : Width) (from : ℕ) (l : Low) → PricedAt 10 base → R 29 l (zeroed_at base w from l)
  zero_adds base w from l h =
      stores R k 14 10 w (further true from base) (number true 0) l (omega arith) (omega arith) (further_priced true from base h) (leaf_value true 0)

  each_adds : (base : Typed) (w : Width) (from n : ℕ) (l : Low) → PricedAt 10 base → R (29 * n) l (zeroed_each base w from n l)
  each_adds base w from zero l h = k.same l
  each_adds base w from (suc n) l h =
      at_most R k (29 * suc n) (joined R k (zero_adds base w from l h) (each_adds base w (from + bytes_in w) n (zeroed_at base w from l) h)) (omega arith)

  next_adds : (base : Typed) (w : Width) (z : ℤ) (l : Low) → PricedAt 10 base → R 71 l (zeroed_next base w z l)
  next_adds base w z l h =
      let p = moved 1 false base (slot_read I z) in
      let l1 = acted (stored_as w p (number true 0)) l in
      let v = binary_of binary.Add true (slot_read I z) (number true (bytes_in w)) in
      joined R k (stores R k 27 10 w p (number true 0) l (omega arith) (omega arith) (moved_priced 1 false base (slot_read I z) h (slot_priced I z)) (leaf_value true 0))
      (keeps R k 25 z v l1 (omega arith) (binary_priced binary.Add true (slot_read I z) (number true (bytes_in w)) (slot_priced I z) (leaf_value true (bytes_in w))))

  up_to_adds : (base : Typed) (w : Width) (to : ℕ) (z : ℤ) (top : ℕ) (l : Low) → PricedAt 10 base → R 97 l (zeroed_up_to base w to z top l)
  up_to_adds base w to z top l h =
      let l1 = marked top l in
      joined R k (k.marks top l) (joined R k (next_adds base w z l1 h) (compares R k comparison.Less true true top to z (zeroed_next base w z l1)))

  in_turn_adds : (base : Typed) (w : Width) (from to : ℕ) (l : Low) → PricedAt 10 base → R 101 l (zeroed_in_turn base w from to l)
  in_turn_adds base w from to l h =
      let l1 = with_slot l in
      let l2 = stored_in (slot_offset l) (number true from) l1 in
      joined R k (k.slot l)
      (joined R k (number_stored R k (slot_offset l) from l1) (joined R k (k.label l2) (up_to_adds base w to (slot_offset l) l.labels (with_label l2) h)))

  zeroed_by_adds : (few : Bool) (base : Typed) (w : Width) (from n : ℕ) (l : Low) → (few ≡ true → n ≤ 4) → PricedAt 10 base
      → R 116 l (zeroed_by few base w from n l)
  zeroed_by_adds true base w from n l le h = let m = le refl in at_most R k 116 (each_adds base w from n l h) (omega (arith, m))
  zeroed_by_adds false base w from n l le h = at_most R k 116 (in_turn_adds base w from (from + n * bytes_in w) l h) (omega arith)

  zeroed_adds : (base : Typed) (w : Width) (from n : ℕ) (l : Low) → PricedAt 10 base → R 116 l (zeroed base w from n l)
  zeroed_adds base w from n l h = zeroed_by_adds (nat_le n 4) base w from n l (at_most_four n) h

  -- ---- initialisers

  text_copied_adds : (base text : Typed) (offset bytes room : ℕ) (l : Low) → PricedAt 10 base → PricedAt 10 text
      → R 146 l (text_copied base text offset bytes room l)
  text_copied_adds base text offset bytes room l h g =
      let r = copy_root bytes 1 (part_at room offset base) text in
      joined R k (copies R k bytes 1 (part_at room offset base) text l (further_priced (nat_lt 0 room) offset base h) g)
      (zeroed_adds base One (offset + bytes) (room - bytes) (acted r l) h)

  text_adds : (f : Function) (base : Typed) (offset : ℕ) (of : CType) (what : CoreKind) (l : Low) → PricedAt 10 base
      → R 146 l (text_filled f base offset of what l)
  text_adds f base offset (Array of (Some room)) (kind.Text n) l h =
      text_copied_adds base (name (text_name f.context.unit n) (pos 0)) offset (min room (length (get_or f.context.unit.texts n []) + 1)) room l h (refl, omega arith)
  text_adds f base offset of what l h = none 146 l

  filled_by_adds : (array whole : Bool) (f : Function) (base : Typed) (p : FilledOf CType) (v : Typed) (l : Low) → PricedAt 10 base → PricedAt 10 v
      → R 146 l (filled_by array whole f base p v l)
  filled_by_adds true whole f base p v l h g = text_adds f base p.offset p.of (what_of p.value) l h
  filled_by_adds false true f base p v l h g =
      let size = size_of f.context.unit.tags p.of in
      at_most R k 146
      (copies R k size (align_of f.context.unit.tags p.of) (part_at size p.offset base) v l (further_priced (nat_lt 0 size) p.offset base h) g) (omega arith)
  filled_by_adds false false f base p v l h g =
      at_most R k 146 (writes R k f.context.order (spot_filled p) (further true p.offset base) v l (further_priced true p.offset base h) g) (omega arith)

  filled_adds : (f : Function) (base : Typed) (p : FilledOf CType) (l : Low) → PricedAt 10 base → R (69 * parts p.value + 90) l (filled f base p l)
  filled_adds f base p l h =
      let r = low_e f.context p.value l in
      let c = value_comes R k f.context p.value l in
      let d = price_is p.value in
      at_most R k (69 * parts p.value + 90) (joined R k c.rises (filled_by_adds (is_array p.of) (is_record p.of) f base p r.value r.low h c.value)) (omega (arith, d))

  all_filled_adds : (f : Function) (base : Typed) (ps : List (FilledOf CType)) (l : Low) → PricedAt 10 base → R (203 * filled_nodes ps) l (all_filled f base ps l)
  all_filled_adds f base [] l h = k.same l
  all_filled_adds f base (p ∷ ps) l h =
      let e = price_is p.value in
      at_most R k (203 * filled_nodes (p ∷ ps)) (joined R k (filled_adds f base p l h) (all_filled_adds f base ps (filled f base p l) h)) (omega (arith, e))

  whole_adds : (clears : Bool) (base : Typed) (size : ℕ) (l : Low) → PricedAt 10 base → R 203 l (zeroed_whole clears base size l)
  whole_adds true base size l h =
      let l1 = zeroed base Four 0 (size / 4) l in
      let r = remainder_is_small size in
      at_most R k 203 (joined R k (zeroed_adds base Four 0 (size / 4) l h) (each_adds base One (4 * (size / 4)) (size % 4) l1 h)) (omega (arith, r))
  whole_adds false base size l h = none 203 l

  initialised_as_adds : (f : Function) (n : ℕ) (of : Option CType) (clears : Bool) (ps : List (FilledOf CType)) (l : Low)
      → R (203 * (1 + filled_nodes ps)) l (initialised_as f n of clears ps l)
  initialised_as_adds f n None clears ps l = none (203 * (1 + filled_nodes ps)) l
  initialised_as_adds f n (Some of) clears ps l =
      let base = local_place f.context n of in
      let size = size_of f.context.unit.tags of in
      let h = local_priced (is_passed_whole f.context n of) (slice_get f.context.places n) in
      at_most R k (203 * (1 + filled_nodes ps)) (joined R k (whole_adds clears base size l h) (all_filled_adds f base ps (zeroed_whole clears base size l) h)) (omega arith)

  pub initialised_adds : (f : Function) (n : ℕ) (clears : Bool) (ps : List (FilledOf CType)) (l : Low)
      → R (203 * (1 + filled_nodes ps)) l (initialised f n clears ps l)
  initialised_adds f n clears ps l = initialised_as_adds f n (slice_get f.locals n) clears ps l
