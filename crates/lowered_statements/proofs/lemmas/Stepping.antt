-- What each step keeps, the parts of statements keep that stand in no search: zeros, initialisers, returns and jumps.
use Rattle.std.specs.Prelude.{ℕ, zero, suc, ◌+◌, ◌-◌, ◌*◌, ◌/◌, ◌%◌, min, ℤ, pos, nat_le, Bool, true, false, Option, Some, None, List, [], ◌∷◌, length, get_or, slice_get}
use Rattle.objects.specs.declared.operators.Binary.TheVariants as binary
use Rattle.objects.specs.declared.operators.Comparison.TheVariants as comparison
use Rattle.objects.specs.declared.width.Width.{Width}
use Rattle.objects.specs.declared.width.Width.TheVariants.{One, Four}
use Rattle.objects.specs.Values.{bytes_in}
use Rattle.op_forest.specs.declared.op.Op.TheVariants as op
use Rattle.op_forest.specs.declared.suffix.Suffix.TheVariants.{I, P, V}
use Rattle.op_forest.specs.declared.sym.Sym.TheVariants as sym
use Rattle.c_types.specs.CType.{CType, Array}
use Rattle.c_meaning.specs.declared.core_expr.CoreKind.{CoreKind}
use Rattle.c_meaning.specs.declared.core_expr.CoreKind.TheVariants as kind
use Rattle.c_meaning.specs.CoreTrees.{what_of}
use Rattle.c_meaning.specs.StmtTrees.{FilledOf}
use Rattle.c_meaning.specs.Types.{is_array, is_record}
use Rattle.c_meaning.specs.Values.{CoreTree}
use Rattle.c_runs.specs.Places.{size_of, align_of, spot_filled, is_field}
use Rattle.c_rows_agree.specs.Integers.{number, binary_of, compared}
use Rattle.c_rows_agree.specs.Places.{stored_as}
use Rattle.c_rows_agree.specs.Templates.{Leaf, Root}
use Rattle.c_rows_agree.specs.Typed.{Typed, head, head_with}
use Rattle.c_pointers_agree.specs.Pointers.{name, moved}
use Rattle.lowered_forms.specs.Accesses.{copy_root, written_by}
use Rattle.lowered_forms.specs.Contexts.{Context, text_name}
use Rattle.lowered_forms.specs.Expressions.{low_e, low_test}
use Rattle.lowered_forms.specs.Lows.{Low, acted, acted_one, jumped, marked, with_label, with_slot, slot_offset}
use Rattle.lowered_forms.specs.Places.{further, local_place}
use Rattle.lowered_forms.specs.Steps.{Relation, Steps, Jumps}
use Rattle.lowered_forms.specs.Values.{slot_read, stored_in}
use Rattle.lowered_forms.proofs.lemmas.Induction.{value_steps, test_steps}
use Rattle.lowered_forms.proofs.lemmas.Stepping.{then_steps, branched_steps, stores_uncounted}
use Rattle.lowered_statements.specs.Bodies.{Body, with_low}
use Rattle.lowered_statements.specs.Functions.{Function}
use Rattle.lowered_statements.specs.Initialisers.{part_at, text_copied, text_filled, filled_by, filled, all_filled, zeroed_whole, initialised_as, initialised}
use Rattle.lowered_statements.specs.Steps.{BodyRelation, BodySteps}
use Rattle.lowered_statements.specs.Zeroing.{zeroed_at, zeroed_each, zeroed_next, zeroed_up_to, zeroed_in_turn, zeroed_by, zeroed}

-- ---- steps of a body that makes no table are steps of what is lowered

abbrev pub lows : BodyRelation → List (List ℕ) → Relation
lows R ts n a b = R (record { low = a; tables = ts }) (record { low = b; tables = ts })

pub low_steps : (R : BodyRelation) → BodySteps R → (ts : List (List ℕ)) → Steps (lows R ts)
low_steps R k ts = record {
  same = λ l. k.same (record { low = l; tables = ts });
  joins = λ m n a b c x y. k.joins (record { low = a; tables = ts }) (record { low = b; tables = ts }) (record { low = c; tables = ts }) x y;
  weakens = λ m n a b h x. x;
  asks = λ t l. k.asks t (record { low = l; tables = ts });
  acts = λ r l. k.acts r (record { low = l; tables = ts });
  acts_one = λ h t l. k.acts_one h t (record { low = l; tables = ts });
  slot = λ l. k.slot (record { low = l; tables = ts });
}

pub low_jumps : (R : BodyRelation) → BodySteps R → (ts : List (List ℕ)) → Jumps (lows R ts)
low_jumps R k ts = record {
  uncounted = λ m n a b x. x;
  ends = λ l. k.ends (record { low = l; tables = ts });
  marks = λ n l. k.marks n (record { low = l; tables = ts });
  label = λ l. k.label (record { low = l; tables = ts });
}

-- ---- expressions and tests

pub value_step : (R : BodyRelation) → BodySteps R → (s : Context) (e : CoreTree) (b : Body) → R b (with_low (low_e s e b.low).low b)
value_step R k s e b = value_steps (lows R b.tables) (low_steps R k b.tables) s e (λ h. low_jumps R k b.tables) b.low

pub test_step : (R : BodyRelation) → BodySteps R → (s : Context) (e : CoreTree) (n : ℕ) (when : Bool) (b : Body) → R b (with_low (low_test s e n when b.low) b)
test_step R k s e n when b = test_steps (lows R b.tables) (low_steps R k b.tables) (low_jumps R k b.tables) s e n when b.low

-- ---- roots and jumps

module _ (R : Relation) (k : Steps R) (j : Jumps R) where
  root_step : (r : Root) (l : Low) → R 0 l (acted r l)
  root_step r l = j.uncounted 1 0 l (acted r l) (k.acts r l)

  pub jump_step : (n : ℕ) (l : Low) → R 0 l (jumped n l)
  jump_step n l =
      let h = head op.Jump V in
      let t = Leaf (head_with op.Addrg P (sym.Label n) None) in
      then_steps R k l (acted_one h t l) (jumped n l) (j.uncounted 1 0 l (acted_one h t l) (k.acts_one h t l)) (j.ends (acted_one h t l))

  -- ---- zeros

  pub each_step : (base : Typed) (w : Width) (from n : ℕ) (l : Low) → R 0 l (zeroed_each base w from n l)
  each_step base w from zero l = k.same l
  each_step base w from (suc n) l =
      then_steps R k l (zeroed_at base w from l) _ (root_step (stored_as w (further true from base) (number true 0)) l) (each_step base w (from + bytes_in w) n (zeroed_at base w from l))

  next_step : (base : Typed) (w : Width) (z : ℤ) (l : Low) → R 0 l (zeroed_next base w z l)
  next_step base w z l =
      let r = stored_as w (moved 1 false base (slot_read I z)) (number true 0) in
      then_steps R k l (acted r l) _ (root_step r l) (stores_uncounted R k j z (binary_of binary.Add true (slot_read I z) (number true (bytes_in w))) (acted r l))

  up_to_step : (base : Typed) (w : Width) (to : ℕ) (z : ℤ) (top : ℕ) (l : Low) → R 0 l (zeroed_up_to base w to z top l)
  up_to_step base w to z top l =
      then_steps R k l (marked top l) _ (j.marks top l)
      (then_steps R k (marked top l) (zeroed_next base w z (marked top l)) _ (next_step base w z (marked top l))
      (branched_steps R k j (compared comparison.Less true true top (slot_read I z) (number true to)) (zeroed_next base w z (marked top l))))

  in_turn_step : (base : Typed) (w : Width) (from to : ℕ) (l : Low) → R 0 l (zeroed_in_turn base w from to l)
  in_turn_step base w from to l =
      let l1 = with_slot l in
      let l2 = stored_in (slot_offset l) (number true from) l1 in
      then_steps R k l l1 _ (k.slot l)
      (then_steps R k l1 l2 _ (stores_uncounted R k j (slot_offset l) (number true from) l1)
      (then_steps R k l2 (with_label l2) _ (j.label l2) (up_to_step base w to (slot_offset l) l.labels (with_label l2))))

  zeroed_by_step : (few : Bool) (base : Typed) (w : Width) (from n : ℕ) (l : Low) → R 0 l (zeroed_by few base w from n l)
  zeroed_by_step true base w from n l = each_step base w from n l
  zeroed_by_step false base w from n l = in_turn_step base w from (from + n * bytes_in w) l

  pub zeroed_step : (base : Typed) (w : Width) (from n : ℕ) (l : Low) → R 0 l (zeroed base w from n l)
  zeroed_step base w from n l = zeroed_by_step (nat_le n 4) base w from n l

  -- ---- initialisers

  text_copied_step : (base text : Typed) (offset bytes room : ℕ) (l : Low) → R 0 l (text_copied base text offset bytes room l)
  text_copied_step base text offset bytes room l =
      then_steps R k l (acted (copy_root bytes 1 (part_at room offset base) text) l) _ (root_step (copy_root bytes 1 (part_at room offset base) text) l) (zeroed_step base One (offset + bytes) (room - bytes) (acted (copy_root bytes 1 (part_at room offset base) text) l))

  text_step : (f : Function) (base : Typed) (offset : ℕ) (of : CType) (what : CoreKind) (l : Low) → R 0 l (text_filled f base offset of what l)
  text_step f base offset (Array of (Some room)) (kind.Text n) l = text_copied_step base (name (text_name f.context.unit n) (pos 0)) offset (min room (length (get_or f.context.unit.texts n []) + 1)) room l
  text_step f base offset of what l = k.same l

  pub filled_by_step : (array whole : Bool) (f : Function) (base : Typed) (p : FilledOf CType) (v : Typed) (l : Low) → R 0 l (filled_by array whole f base p v l)
  filled_by_step true whole f base p v l = text_step f base p.offset p.of (what_of p.value) l
  filled_by_step false true f base p v l = root_step (copy_root (size_of f.context.unit.tags p.of) (align_of f.context.unit.tags p.of) (part_at (size_of f.context.unit.tags p.of) p.offset base) v) l
  filled_by_step false false f base p v l =
      root_step (written_by (is_field (spot_filled p)) false f.context.order (spot_filled p) (further true p.offset base) v) l

  pub filled_step : (f : Function) (base : Typed) (p : FilledOf CType) (l : Low) → R 0 l (filled f base p l)
  filled_step f base p l =
      let r = low_e f.context p.value l in
      then_steps R k l r.low _ (j.uncounted _ 0 l r.low (value_steps R k f.context p.value (λ h. j) l)) (filled_by_step (is_array p.of) (is_record p.of) f base p r.value r.low)

  pub all_filled_step : (f : Function) (base : Typed) (ps : List (FilledOf CType)) (l : Low) → R 0 l (all_filled f base ps l)
  all_filled_step f base [] l = k.same l
  all_filled_step f base (p ∷ ps) l =
      then_steps R k l (filled f base p l) _ (filled_step f base p l) (all_filled_step f base ps (filled f base p l))

  pub whole_step : (clears : Bool) (base : Typed) (size : ℕ) (l : Low) → R 0 l (zeroed_whole clears base size l)
  whole_step true base size l =
      let l1 = zeroed base Four 0 (size / 4) l in
      then_steps R k l l1 _ (zeroed_step base Four 0 (size / 4) l) (each_step base One (4 * (size / 4)) (size % 4) l1)
  whole_step false base size l = k.same l

  initialised_as_step : (f : Function) (n : ℕ) (of : Option CType) (clears : Bool) (ps : List (FilledOf CType)) (l : Low) → R 0 l (initialised_as f n of clears ps l)
  initialised_as_step f n None clears ps l = k.same l
  initialised_as_step f n (Some of) clears ps l =
      let base = local_place f.context n of in
      let l1 = zeroed_whole clears base (size_of f.context.unit.tags of) l in
      then_steps R k l l1 _ (whole_step clears base (size_of f.context.unit.tags of) l) (all_filled_step f base ps l1)

  pub initialised_step : (f : Function) (n : ℕ) (clears : Bool) (ps : List (FilledOf CType)) (l : Low) → R 0 l (initialised f n clears ps l)
  initialised_step f n clears ps l = initialised_as_step f n (slice_get f.locals n) clears ps l
