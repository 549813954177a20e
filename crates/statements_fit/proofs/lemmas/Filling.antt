-- Zeros and values in objects.
use Rattle.std.specs.Prelude.{◌≡◌, ◌≤◌, ◌<◌, ℕ, zero, suc, ◌+◌, ◌-◌, ◌*◌, ◌/◌, ◌%◌, ◌^◌, min, nat_lt, nat_le, ℤ, pos, Bool, true, false, Option, Some, None, IfSome, List, [], ◌∷◌, length, get_or}
use Rattle.std.proofs.Common.{refl, subst, arith}
use Rattle.std.proofs.lemmas.Bool.{ltb-true}
use Rattle.objects.specs.declared.operators.Binary.TheVariants as binary
use Rattle.objects.specs.declared.operators.Comparison.TheVariants as comparison
use Rattle.objects.specs.declared.width.Width.{Width}
use Rattle.objects.specs.declared.width.Width.TheVariants.{One, Two, Four}
use Rattle.objects.specs.Values.{bytes_in}
use Rattle.op_forest.specs.declared.frame.Slot.{Slot}
use Rattle.op_forest.specs.declared.suffix.Suffix.TheVariants.{I}
use Rattle.forests.specs.WellFormed.{LiesInOne}
use Rattle.c_types.specs.CType.{CType, Array}
use Rattle.c_meaning.specs.declared.core_expr.CoreKind.{CoreKind}
use Rattle.c_meaning.specs.declared.core_expr.CoreKind.TheVariants as kind
use Rattle.c_meaning.specs.CoreTrees.{what_of}
use Rattle.c_meaning.specs.Each.{EachIs}
use Rattle.c_meaning.specs.StmtTrees.{FilledOf}
use Rattle.c_meaning.specs.Types.{is_array, is_record}
use Rattle.c_runs.specs.Places.{size_of, align_of, spot_filled}
use Rattle.c_rows_agree.specs.Integers.{number, binary_of, compared}
use Rattle.c_rows_agree.specs.Places.{stored_as}
use Rattle.c_rows_agree.specs.Typed.{Typed}
use Rattle.c_pointers_agree.specs.Pointers.{name, moved}
use Rattle.lowered_forms.specs.Accesses.{copy_root, copied, written}
use Rattle.lowered_forms.specs.Contexts.{text_name}
use Rattle.lowered_forms.specs.Expressions.{low_e}
use Rattle.lowered_forms.specs.Lows.{Low, acted, branched, marked, with_label, with_slot, slot_offset}
use Rattle.lowered_forms.specs.Places.{further, local_place}
use Rattle.lowered_forms.specs.Values.{slot_read, stored_in}
use Rattle.lowered_fit.specs.Fitted.{FitsTyped}
use Rattle.lowered_fit.specs.States.{IsFitState, IsWider, IsFitAfter, standing_in, bare, HasRoom, FitsContext}
use Rattle.lowered_fit.proofs.lemmas.AccessesFit.{copy_fits, written_goes}
use Rattle.lowered_fit.proofs.lemmas.ExpressionsFit.{value_fits}
use Rattle.lowered_fit.proofs.lemmas.Operands.{Goes, goes_nowhere, goes_on, goes_after, after_behind, acted_goes, stored_goes, branched_fits, marked_fits, label_fits, slot_goes, slot_lies, slot_fits, operand_typed, typed_still, no_keys}
use Rattle.lowered_fit.proofs.lemmas.PlacesFit.{number_fits, name_fits, place_fits, within_further, any_room, wider_room}
use Rattle.lowered_fit.proofs.lemmas.RowsFit.{store_fits, binary_fits, move_fits, comparison_fits}
use Rattle.lowered_statements.specs.Functions.{Function}
use Rattle.lowered_statements.specs.Initialisers.{part_at, text_copied, text_filled, filled_by, filled, all_filled, zeroed_whole, initialised_as}
use Rattle.lowered_statements.specs.Zeroing.{zeroed_at, zeroed_each, zeroed_next, zeroed_up_to, zeroed_in_turn, zeroed_by, zeroed}
use Rattle.statements_fit.specs.Statements.{LiesWithin, FillsWithin, FitsFilled, FitsInitialised}

-- ---- the place that is filled: it finds no node, and so many of its bytes are in slots

pub record IsBase (slots : List Slot) (bytes : ℕ) (base : Typed) : Type 0 where
  pub fits : FitsTyped (bare slots) base
  pub room : HasRoom slots bytes base.tree

module _ (slots : List Slot) (bytes : ℕ) (base : Typed) (small : bytes < 2 ^ 32) (is : IsBase slots bytes base) where
  base_in : (l : Low) → IsWider slots l.slots → FitsTyped (standing_in l) base
  base_in l w = typed_still (bare slots) (standing_in l) base (no_keys _) w is.fits

  -- a place inside it, or right behind it where nothing is stored
  further_in : (b : Bool) (by : ℕ) (l : Low) → (b ≡ true → by < bytes) → by ≤ bytes → IsWider slots l.slots → FitsTyped (standing_in l) (further b by base)
  further_in b by l lt le w = (within_further (standing_in l) bytes by b base lt (omega (arith, le, small)) (base_in l w) (wider_room slots l.slots bytes base.tree w is.room)).fits

  part_in : (size offset : ℕ) (l : Low) → offset + size ≤ bytes → IsWider slots l.slots → FitsTyped (standing_in l) (part_at size offset base)
  part_in size offset l le w = further_in (nat_lt 0 size) offset l (λ e. let h = ltb-true 0 size e in omega (arith, h, le)) (omega (arith, le)) w

  -- ---- zeros

  zero_goes : (w : Width) (from : ℕ) (l : Low) → from < bytes → IsWider slots l.slots → IsFitState l → Goes l (zeroed_at base w from l)
  zero_goes w from l lt wide h =
      let g = standing_in l in
      let to = further true from base in
      acted_goes (stored_as w to (number true 0)) l h
      (store_fits g to (number true 0) (further_in true from l (λ e. lt) (omega (arith, lt)) wide) (number_fits g true 0 (omega arith)) w)

  some_bytes : (w : Width) → 1 ≤ bytes_in w
  some_bytes One = omega arith
  some_bytes Two = omega arith
  some_bytes Four = omega arith

  few_bytes : (w : Width) → bytes_in w ≤ 4
  few_bytes One = omega arith
  few_bytes Two = omega arith
  few_bytes Four = omega arith

  each_goes : (w : Width) (from n : ℕ) (l : Low) → from + n * bytes_in w ≤ bytes → IsWider slots l.slots → IsFitState l → Goes l (zeroed_each base w from n l)
  each_goes w from zero l le wide h = goes_nowhere l h
  each_goes w from (suc n) l le wide h =
      let some = some_bytes w in
      let m = zeroed_at base w from l in
      let g = zero_goes w from l (less n (bytes_in w) from bytes some le) wide h in
      goes_on l m (zeroed_each base w (from + bytes_in w) n m) g (each_goes w (from + bytes_in w) n m (next n (bytes_in w) from bytes le) (λ z e. g.wide z (wide z e)) g.state)
    where
      less : (n b from bytes : ℕ) → 1 ≤ b → from + suc n * b ≤ bytes → from < bytes
      less n b from bytes some le = omega (arith, some, le)

      next : (n b from bytes : ℕ) → from + suc n * b ≤ bytes → (from + b) + n * b ≤ bytes
      next n b from bytes le = omega (arith, le)

  next_goes : (w : Width) (z : ℤ) (l : Low) → LiesInOne l.slots z → IsWider slots l.slots → IsFitState l → Goes l (zeroed_next base w z l)
  next_goes w z l lies wide h =
      let g = standing_in l in
      let few = few_bytes w in
      let index = slot_read I z in
      let to = moved 1 false base index in
      let i = slot_fits g I z lies in
      let a = acted_goes (stored_as w to (number true 0)) l h
      (store_fits g to (number true 0) (move_fits g base index (base_in l wide) i 1 false (omega arith)) (number_fits g true 0 (omega arith)) w) in
      let m = acted (stored_as w to (number true 0)) l in
      let k = standing_in m in
      let lies1 = a.wide z lies in
      let v = binary_of binary.Add true index (number true (bytes_in w)) in
      let f = binary_fits k index (number true (bytes_in w)) (slot_fits k I z lies1) (number_fits k true (bytes_in w) (omega (arith, few))) binary.Add true in
      goes_on l m (zeroed_next base w z l) a (stored_goes z v m a.state lies1 f)

  up_to_fits : (w : Width) (to : ℕ) (z : ℤ) (top : ℕ) (l : Low) → to ≤ bytes → LiesInOne l.slots z → IsWider slots l.slots → IsFitState l → IsFitAfter l (zeroed_up_to base w to z top l)
  up_to_fits w to z top l le lies wide h =
      let l1 = marked top l in
      let a = marked_fits top l h in
      let l2 = zeroed_next base w z l1 in
      let c = next_goes w z l1 (a.wide z lies) (λ y e. a.wide y (wide y e)) a.state in
      let g = standing_in l2 in
      let test = compared comparison.Less true true top (slot_read I z) (number true to) in
      let f = comparison_fits g (slot_read I z) (number true to) (slot_fits g I z (c.wide z (a.wide z lies))) (number_fits g true to (omega (arith, le, small))) comparison.Less true true top in
      after_behind l l2 (branched test l2) (λ y e. c.wide y (a.wide y e)) (branched_fits test l2 c.state f)

  in_turn_fits : (w : Width) (from to : ℕ) (l : Low) → from ≤ bytes → to ≤ bytes → IsWider slots l.slots → IsFitState l → IsFitAfter l (zeroed_in_turn base w from to l)
  in_turn_fits w from to l le lt wide h =
      let l1 = with_slot l in
      let z = slot_offset l in
      let a = slot_goes l h in
      let l2 = stored_in z (number true from) l1 in
      let c = stored_goes z (number true from) l1 a.state (slot_lies l) (number_fits (standing_in l1) true from (omega (arith, le, small))) in
      let wide2 : IsWider l.slots l2.slots = λ y e. c.wide y (a.wide y e) in
      after_behind l (with_label l2) (zeroed_in_turn base w from to l) wide2
      (up_to_fits w to z l.labels (with_label l2) lt (c.wide z (slot_lies l)) (λ y e. wide2 y (wide y e)) (label_fits l2 c.state))

  zeroed_by_fits : (few : Bool) (w : Width) (from n : ℕ) (l : Low) → from + n * bytes_in w ≤ bytes → IsWider slots l.slots → IsFitState l → IsFitAfter l (zeroed_by few base w from n l)
  zeroed_by_fits true w from n l le wide h = goes_after l (zeroed_each base w from n l) (each_goes w from n l le wide h)
  zeroed_by_fits false w from n l le wide h = in_turn_fits w from (from + n * bytes_in w) l (begins from (n * bytes_in w) bytes le) le wide h
    where
      begins : (from m bytes : ℕ) → from + m ≤ bytes → from ≤ bytes
      begins from m bytes le = omega (arith, le)

  zeroed_fits : (w : Width) (from n : ℕ) (l : Low) → from + n * bytes_in w ≤ bytes → IsWider slots l.slots → IsFitState l → IsFitAfter l (zeroed base w from n l)
  zeroed_fits w from n l le wide h = zeroed_by_fits (nat_le n 4) w from n l le wide h

  pub whole_fits : (clears : Bool) (l : Low) → IsWider slots l.slots → IsFitState l → IsFitAfter l (zeroed_whole clears base bytes l)
  whole_fits false l wide h = record { state = h; wide = λ z e. e }
  whole_fits true l wide h =
      let l1 = zeroed base Four 0 (bytes / 4) l in
      let a = zeroed_fits Four 0 (bytes / 4) l (omega arith) wide h in
      let g = each_goes One (4 * (bytes / 4)) (bytes % 4) l1 (omega arith) (λ z e. a.wide z (wide z e)) a.state in
      after_behind l l1 (zeroed_whole true base bytes l) a.wide (goes_after l1 (zeroed_whole true base bytes l) g)

  -- ---- values

  text_copied_fits : (text : Typed) (offset size room : ℕ) (l : Low) → size ≤ room → offset + room ≤ bytes → FitsTyped (standing_in l) text → IsWider slots l.slots → IsFitState l
      → IsFitAfter l (text_copied base text offset size room l)
  text_copied_fits text offset size room l few le t wide h =
      let to = part_at room offset base in
      let g = acted_goes (copy_root size 1 to text) l h (copy_fits (standing_in l) size 1 to text (part_in room offset l le wide) t) in
      let m = acted (copy_root size 1 to text) l in
      after_behind l m (text_copied base text offset size room l) g.wide
      (zeroed_fits One (offset + size) (room - size) m (omega (arith, few, le)) (λ z e. g.wide z (wide z e)) g.state)

  nothing_filled : (l : Low) → IsFitState l → IsFitAfter l l
  nothing_filled l h = record { state = h; wide = λ z e. e }

module _ (f : Function) (slots : List Slot) (places : FitsContext f.context slots) (bytes : ℕ) (base : Typed) (small : bytes < 2 ^ 32) (is : IsBase slots bytes base) where
  text_fits : (offset : ℕ) (of : CType) (what : CoreKind) (l : Low) → FillsWithin f.context.unit.tags bytes offset of → IsWider slots l.slots → IsFitState l
      → IsFitAfter l (text_filled f base offset of what l)
  text_fits offset (Array of (Some room)) (kind.Text n) l le wide h =
      let text = name (text_name f.context.unit n) (pos 0) in
      let size = min room (length (get_or f.context.unit.texts n []) + 1) in
      text_copied_fits slots bytes base small is text offset size room l (omega arith) le (name_fits (standing_in l) (text_name f.context.unit n) (pos 0)) wide h
  text_fits offset of what l le wide h = nothing_filled slots bytes base small is l h

  within_by : (of : CType) (offset : ℕ) → is_array of ≡ false → FillsWithin f.context.unit.tags bytes offset of → LiesWithin f.context.unit.tags (is_record of) bytes offset of
  within_by (Array of (Some room)) offset e h = let no : ⊥ = cc in absurd no
  within_by of offset e h = h

  by_fits : (array whole : Bool) (p : FilledOf CType) (v : Typed) (l : Low) → is_array p.of ≡ array → is_record p.of ≡ whole → FitsFilled f.context slots bytes p → FitsTyped (standing_in l) v
      → IsWider slots l.slots → IsFitState l → IsFitAfter l (filled_by array whole f base p v l)
  by_fits true whole p v l a r k t wide h = text_fits p.offset p.of (what_of p.value) l k.lies wide h
  by_fits false true p v l a r k t wide h =
      let tags = f.context.unit.tags in
      let to = part_at (size_of tags p.of) p.offset base in
      let lies : LiesWithin tags true bytes p.offset p.of = subst (λ b. LiesWithin tags b bytes p.offset p.of) r (within_by p.of p.offset a k.lies) in
      goes_after l (copied tags p.of to v l)
      (acted_goes (copy_root (size_of tags p.of) (align_of tags p.of) to v) l h
      (copy_fits (standing_in l) (size_of tags p.of) (align_of tags p.of) to v (part_in slots bytes base small is (size_of tags p.of) p.offset l lies wide) t))
  by_fits false false p v l a r k t wide h =
      let tags = f.context.unit.tags in
      let to = further true p.offset base in
      let lies : LiesWithin tags false bytes p.offset p.of = subst (λ b. LiesWithin tags b bytes p.offset p.of) r (within_by p.of p.offset a k.lies) in
      goes_after l (written false f.context.order (spot_filled p) to v l)
      (written_goes false f.context.order (spot_filled p) to v l k.unit h (further_in slots bytes base small is true p.offset l (λ e. lies) (omega (arith, lies)) wide) t)

  filled_fits : (p : FilledOf CType) (l : Low) → FitsFilled f.context slots bytes p → IsWider slots l.slots → IsFitState l → IsFitAfter l (filled f base p l)
  filled_fits p l k wide h =
      let r = low_e f.context p.value l in
      let c = value_fits f.context slots places p.value k.fits l wide h in
      after_behind l r.low (filled f base p l) c.wide
      (by_fits (is_array p.of) (is_record p.of) p r.value r.low refl refl k (operand_typed (standing_in r.low) r.value c.value) (λ z e. c.wide z (wide z e)) c.state)

  all_filled_fit : (ps : List (FilledOf CType)) (l : Low) → EachIs (FitsFilled f.context slots bytes) ps → IsWider slots l.slots → IsFitState l → IsFitAfter l (all_filled f base ps l)
  all_filled_fit [] l k wide h = record { state = h; wide = λ z e. e }
  all_filled_fit (p ∷ ps) l k wide h =
      let m = filled f base p l in
      let a = filled_fits p l k.0 wide h in
      after_behind l m (all_filled f base ps m) a.wide (all_filled_fit ps m k.1 (λ z e. a.wide z (wide z e)) a.state)

pub initialised_fits : (f : Function) (slots : List Slot) → FitsContext f.context slots → (n : ℕ) (o : Option CType) (clears : Bool) (ps : List (FilledOf CType)) (l : Low)
    → IfSome o (FitsInitialised f.context slots n ps) → IsWider slots l.slots → IsFitState l → IsFitAfter l (initialised_as f n o clears ps l)
initialised_fits f slots places n None clears ps l k wide h = record { state = h; wide = λ z e. e }
initialised_fits f slots places n (Some of) clears ps l k wide h =
    let base = local_place f.context n of in
    let bytes = size_of f.context.unit.tags of in
    let is : IsBase slots bytes base = record { fits = place_fits f.context slots (bare slots) n of places (λ z e. e); room = any_room f.context slots n of k.local } in
    let m = zeroed_whole clears base bytes l in
    let a = whole_fits slots bytes base k.small is clears l wide h in
    after_behind l m (all_filled f base ps m) a.wide (all_filled_fit f slots places bytes base k.small is ps m k.filled (λ z e. a.wide z (wide z e)) a.state)
