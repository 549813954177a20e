-- What expressions and tests are lowered to fits.
use Rattle.std.specs.Prelude.{◌<◌, ℕ, ◌-◌, ◌^◌, nat_lt, not, Bool, true, false, pos, List}
use Rattle.std.proofs.Common.{arith}
use Rattle.op_forest.specs.declared.frame.Slot.{Slot}
use Rattle.c_types.specs.CType.{CType}
use Rattle.c_meaning.specs.declared.core_expr.Conversion.TheVariants as to
use Rattle.c_meaning.specs.declared.core_expr.CoreKind.{CoreKind}
use Rattle.c_meaning.specs.declared.core_expr.CoreKind.TheVariants as kind
use Rattle.c_meaning.specs.CoreTrees.{Core, NoCore, Cores, type_of}
use Rattle.c_meaning.specs.Scalars.{is_signed}
use Rattle.c_meaning.specs.Types.{is_pointer, is_record}
use Rattle.c_meaning.specs.Values.{CoreTree, CoreTrees}
use Rattle.c_runs.specs.Places.{spot_of}
use Rattle.c_pointers_agree.specs.Pointers.{name, moved_among, difference}
use Rattle.c_rows_agree.specs.Integers.{number, converted_to, as_pointer, unary_of, binary_of}
use Rattle.c_rows_agree.specs.Typed.{Typed}
use Rattle.lowered_forms.specs.Accesses.{read}
use Rattle.lowered_forms.specs.Calls.{Passed, with_argument, held_for, with_arguments, first_passed}
use Rattle.lowered_forms.specs.Changes.{assigned_by, changed_at, new_given, old_given}
use Rattle.lowered_forms.specs.Contexts.{Context, function_name, object_name, text_name, built_in_name}
use Rattle.lowered_forms.specs.Expressions.{comma_from, plain_row, tested_row, row, low_e, low_test, parts_of}
use Rattle.lowered_forms.specs.Lows.{Low}
use Rattle.lowered_forms.specs.Places.{local_place, room_of, further}
use Rattle.lowered_forms.specs.Values.{Lowered, Part, nothing, placed}
use Rattle.lowered_forms.proofs.lemmas.Going.{straight_goes_on}
use Rattle.lowered_fit.specs.Fitted.{Standing, FitsTyped}
use Rattle.lowered_fit.specs.States.{IsFitState, IsWider, IsFitAfter, standing_in, bare, HasRoom, IsFitResult, FitsContext, FitsCore, FitsCores}
use Rattle.lowered_fit.proofs.lemmas.AccessesFit.{GivesFit, LiesInUnit, unary_fits, place_read_fits, assigned_by_fits, new_fits, old_fits, changed_at_fits}
use Rattle.lowered_fit.proofs.lemmas.CallsFit.{PassedFits, argument_fits, made_fits}
use Rattle.lowered_fit.proofs.lemmas.Operands.{front_keeps, is_placed, just_placed, operand_typed, bare_operand, no_room, result_behind}
use Rattle.lowered_fit.proofs.lemmas.PartsFit.{PartFits, two_fit, comparison_test_fits, value_test_fits, and_fits, or_fits, truth_fits, conditional_fits}
use Rattle.lowered_fit.proofs.lemmas.PlacesFit.{number_fits, name_fits, place_fits, place_room, goes_further}
use Rattle.lowered_fit.proofs.lemmas.RowsFit.{converted_fits, pointer_fits, binary_fits, move_fits, difference_fits}

abbrev part : Context → CoreTree → Part
part s c = record { tree = c; value = λ l. low_e s c l; test = λ n when l. low_test s c n when l }

-- ---- operands of any room

no_more_room : (m : ℕ) (l : Low) (r : Lowered) → IsFitResult m l r → IsFitResult 0 l r
no_more_room m l r c = record { state = c.state; wide = c.wide; value = c.value; room = no_room r.low.slots r.value.tree }

-- what has no node, and a value that isn't a place
still : (m : ℕ) (a : Typed) (l : Low) → IsFitState l → FitsTyped (bare l.slots) a → HasRoom l.slots m a.tree → IsFitResult m l (record { value = a; low = l })
still m a l b h r = record { state = b; wide = λ z e. e; value = bare_operand (standing_in l) a h; room = r }

nothing_fits : (m : ℕ) (l : Low) → IsFitState l → IsFitResult m l (nothing l)
nothing_fits m l b = still m (number true 0) l b (number_fits (bare l.slots) true 0 (omega arith)) tt

-- ---- what is asked of a place's bit-field

module _ (s : Context) (slots : List Slot) (places : FitsContext s slots) where
  spot_lies : (a : CoreTree) → FitsCore s slots a → LiesInUnit (spot_of a)
  spot_lies (Core (kind.Member offset first width) of line kids) h = h.0.1
  spot_lies (Core what of line kids) h = omega arith

  -- ---- parts

  abbrev PartFitsHere : CoreTree → Type 0
  PartFitsHere c = PartFits slots (room_of s c) (part s c)

  abbrev PartsFit : CoreTrees → Type 0
  PartsFit NoCore = Unit {0}
  PartsFit (Cores c cs) = PartFitsHere c × PartsFit cs

  one_fits : (a : CoreTree) → PartFitsHere a → (go : Typed → Typed) → ((g : Standing) (v : Typed) → FitsTyped g v → FitsTyped g (go v)) → (l : Low) → IsWider slots l.slots → IsFitState l
      → IsFitResult 0 l (placed (go (low_e s a l).value) (low_e s a l).low)
  one_fits a f go h l w b =
      let r = low_e s a l in
      let c = f.value l w b in
      let g = standing_in r.low in
      result_behind 0 l r.low (placed (go r.value) r.low) c.wide (just_placed (go r.value) r.low c.state (h g r.value (operand_typed g r.value c.value))).result

  -- an operation over two parts, which asks for nodes alone
  both_fit : (a b : CoreTree) → PartFitsHere a → PartFitsHere b → (go : Typed → Typed → Typed) → ((g : Standing) (x y : Typed) → FitsTyped g x → FitsTyped g y → FitsTyped g (go x y))
      → GivesFit (λ x y l. placed (go x y) l)
  both_fit a b f g go h x y l st p q = (just_placed (go x y) l st (h (standing_in l) x y p q)).result

  among_fits : (size : ℕ) (back left : Bool) (g : Standing) (x y : Typed) → size < 2 ^ 32 → FitsTyped g x → FitsTyped g y → FitsTyped g (moved_among size back left x y)
  among_fits size back true g x y small h k = move_fits g x y h k size back small
  among_fits size back false g x y small h k = move_fits g y x k h size back small

  comma_fits : (a : CoreTree) (cs : CoreTrees) → PartFitsHere a → PartsFit cs → (l : Low) → IsWider slots l.slots → IsFitState l → IsFitResult 0 l (comma_from (part s a) (parts_of s cs) l)
  comma_fits a NoCore f h l w b = no_more_room (room_of s a) l (low_e s a l) (f.value l w b)
  comma_fits a (Cores c cs) f h l w b =
      let m = (low_e s a l).low in
      let x = f.value l w b in
      result_behind 0 l m (comma_from (part s c) (parts_of s cs) m) x.wide (comma_fits c cs h.0 h.1 m (λ z e. x.wide z (w z e)) x.state)

  arguments_fit : (cs : CoreTrees) → PartsFit cs → (l : Low) (p : Passed) → IsWider slots l.slots → PassedFits l p → PassedFits l (with_arguments s (parts_of s cs) p)
  arguments_fit NoCore h l p w c = c
  arguments_fit (Cores a cs) h l p w c =
      arguments_fit cs h.1 l (with_argument s (part s a) (held_for (part s a) p)) w (argument_fits s slots places (room_of s a) (part s a) h.0 l p w c)

  call_fits : (of : CType) (n : ℕ) (f : CoreTree) (cs : CoreTrees) → PartFitsHere f → PartsFit cs → (l : Low) → IsWider slots l.slots → IsFitState l
      → IsFitResult 0 l (plain_row s (kind.Call n) of (parts_of s (Cores f cs)) l)
  call_fits of n f cs g h l w b =
      let c = g.value l w b in
      let p = first_passed n (low_e s f l) in
      let q = with_arguments s (parts_of s cs) p in
      let d = arguments_fit cs h l p w (record { state = c.state; wide = c.wide; values = (c.value, tt) }) in
      result_behind 0 l q.low (plain_row s (kind.Call n) of (parts_of s (Cores f cs)) l) d.wide
      (made_fits s slots places of q.next q.values q.low (λ z e. d.wide z (w z e)) d.state d.values)

  member_fits : (offset : ℕ) (a : CoreTree) → offset < 2 ^ 32 → PartFitsHere a → (l : Low) → IsWider slots l.slots → IsFitState l
      → IsFitResult (room_of s a - offset) l (placed (further (nat_lt offset (room_of s a)) offset (low_e s a l).value) (low_e s a l).low)
  member_fits offset a small f l w b =
      let r = low_e s a l in
      let c = f.value l w b in
      let g = standing_in r.low in
      let p = further (nat_lt offset (room_of s a)) offset r.value in
      let x = goes_further g (room_of s a) offset r.value small (operand_typed g r.value c.value) c.room in
      result_behind (room_of s a - offset) l r.low (placed p r.low) c.wide (is_placed (room_of s a - offset) p r.low c.state x.fits x.left).result

  -- ---- the rows

  plain_fits : (what : CoreKind) (of : CType) (line : ℕ) (kids : CoreTrees) → FitsCore s slots (Core what of line kids) → PartsFit kids → (l : Low) → IsWider slots l.slots → IsFitState l
      → IsFitResult (room_of s (Core what of line kids)) l (plain_row s what of (parts_of s kids) l)
  plain_fits (kind.Local n register) of line NoCore k h l w b =
      (is_placed (room_of s (Core (kind.Local n register) of line NoCore)) (local_place s n of) l b (place_fits s slots (standing_in l) n of places w) (place_room s slots l.slots n of w k.0)).result
  plain_fits (kind.Object n) of line NoCore k h l w b = still _ (name (object_name s.unit n) (pos 0)) l b (name_fits (bare l.slots) (object_name s.unit n) (pos 0)) tt
  plain_fits (kind.Text n) of line NoCore k h l w b = still _ (name (text_name s.unit n) (pos 0)) l b (name_fits (bare l.slots) (text_name s.unit n) (pos 0)) tt
  plain_fits (kind.Function n) of line NoCore k h l w b = still _ (name (function_name s.unit n) (pos 0)) l b (name_fits (bare l.slots) (function_name s.unit n) (pos 0)) tt
  plain_fits (kind.BuiltIn c) of line NoCore k h l w b = still _ (name (built_in_name s.unit c) (pos 0)) l b (name_fits (bare l.slots) (built_in_name s.unit c) (pos 0)) tt
  plain_fits (kind.Number n) of line NoCore k h l w b =
      still _ (number (is_signed of) n) l b (number_fits (bare l.slots) (is_signed of) n k.0) (no_room l.slots (number (is_signed of) n).tree)
  plain_fits kind.Pointed of line (Cores a NoCore) k h l w b = no_more_room (room_of s a) l (low_e s a l) (h.0.value l w b)
  plain_fits (kind.Member offset first width) of line (Cores a NoCore) k h l w b = member_fits offset a k.0.0 h.0 l w b
  plain_fits kind.Read of line (Cores a NoCore) k h l w b = one_fits a h.0 (λ p. read s.order (spot_of a) p) (λ g p f. place_read_fits g s.order (spot_of a) p f) l w b
  plain_fits kind.Address of line (Cores a NoCore) k h l w b = no_more_room (room_of s a) l (low_e s a l) (h.0.value l w b)
  plain_fits kind.First of line (Cores a NoCore) k h l w b = no_more_room (room_of s a) l (low_e s a l) (h.0.value l w b)
  plain_fits (kind.Convert to.Void) of line (Cores a NoCore) k h l w b =
      let c = h.0.value l w b in
      result_behind 0 l (low_e s a l).low (nothing (low_e s a l).low) c.wide (nothing_fits 0 (low_e s a l).low c.state)
  plain_fits (kind.Convert to.Pointer) of line (Cores a NoCore) k h l w b = one_fits a h.0 as_pointer (λ g v f. pointer_fits g v v f f) l w b
  plain_fits (kind.Convert (to.Integer x)) of line (Cores a NoCore) k h l w b = one_fits a h.0 (λ v. converted_to x v) (λ g v f. converted_fits g v v f f x) l w b
  plain_fits (kind.Unary o) of line (Cores a NoCore) k h l w b = one_fits a h.0 (λ v. unary_of o v) (λ g v f. unary_fits g o v f) l w b
  plain_fits (kind.Binary o signed) of line (Cores a (Cores c NoCore)) k h l w b =
      two_fit slots (room_of s a) (room_of s c) (part s a) (part s c) h.0 h.1.0 (λ x y m. placed (binary_of o signed x y) m)
      (both_fit a c h.0 h.1.0 (λ x y. binary_of o signed x y) (λ g x y p q. binary_fits g x y p q o signed)) l w b
  plain_fits (kind.Move size back) of line (Cores a (Cores c NoCore)) k h l w b =
      two_fit slots (room_of s a) (room_of s c) (part s a) (part s c) h.0 h.1.0 (λ x y m. placed (moved_among size back (is_pointer (type_of a)) x y) m)
      (both_fit a c h.0 h.1.0 (λ x y. moved_among size back (is_pointer (type_of a)) x y) (λ g x y p q. among_fits size back (is_pointer (type_of a)) g x y k.0 p q)) l w b
  plain_fits (kind.Difference size) of line (Cores a (Cores c NoCore)) k h l w b =
      two_fit slots (room_of s a) (room_of s c) (part s a) (part s c) h.0 h.1.0 (λ x y m. placed (difference size x y) m)
      (both_fit a c h.0 h.1.0 (λ x y. difference size x y) (λ g x y p q. difference_fits g x y p q size k.0)) l w b
  plain_fits kind.Conditional of line (Cores a (Cores c (Cores d NoCore))) k h l w b =
      conditional_fits slots (room_of s c) (room_of s d) of (part s a) (part s c) (part s d) h.0.test h.1.0 h.1.1.0 l w b
  plain_fits kind.Comma of line (Cores a cs) k h l w b = comma_fits a cs h.0 h.1 l w b
  plain_fits kind.Assign of line (Cores a (Cores c NoCore)) k h l w b =
      two_fit slots (room_of s a) (room_of s c) (part s a) (part s c) h.0 h.1.0 (λ p v m. assigned_by (is_record of) s of (spot_of a) p v m)
      (assigned_by_fits (is_record of) s of (spot_of a) (spot_lies a k.1.0)) l w b
  plain_fits (kind.Change by) of line (Cores a (Cores c NoCore)) k h l w b =
      two_fit slots (room_of s a) (room_of s c) (part s a) (part s c) h.0 h.1.0 (λ p v m. changed_at s.order by (spot_of a) new_given p v m)
      (changed_at_fits s.order by (spot_of a) new_given k.0 (new_fits s.order (spot_of a) (spot_lies a k.1.0))) l w b
  plain_fits (kind.Postfix by) of line (Cores a (Cores c NoCore)) k h l w b =
      two_fit slots (room_of s a) (room_of s c) (part s a) (part s c) h.0 h.1.0 (λ p v m. changed_at s.order by (spot_of a) old_given p v m)
      (changed_at_fits s.order by (spot_of a) old_given k.0 (old_fits s.order (spot_of a) (spot_lies a k.1.0))) l w b
  plain_fits (kind.Call n) of line (Cores f cs) k h l w b = call_fits of n f cs h.0 h.1 l w b
  plain_fits what of line kids k h l w b = nothing_fits (room_of s (Core what of line kids)) l b

  tested_fits : (what : CoreKind) (of : CType) (line : ℕ) (kids : CoreTrees) → FitsCore s slots (Core what of line kids) → PartsFit kids → (n : ℕ) (when : Bool) (l : Low) → IsWider slots l.slots → IsFitState l
      → IsFitAfter l (tested_row s what of (parts_of s kids) n when l)
  tested_fits kind.Not of line (Cores a NoCore) k h n when l w b = h.0.test n (not when) l w b
  tested_fits kind.And of line (Cores a (Cores c NoCore)) k h n when l w b = and_fits slots (part s a) (part s c) h.0.test h.1.0.test n when l w b
  tested_fits kind.Or of line (Cores a (Cores c NoCore)) k h n when l w b = or_fits slots (part s a) (part s c) h.0.test h.1.0.test n when l w b
  tested_fits (kind.Compare o signed) of line (Cores a (Cores c NoCore)) k h n when l w b =
      comparison_test_fits slots (room_of s a) (room_of s c) o signed (part s a) (part s c) h.0 h.1.0 n when l w b
  tested_fits what of line kids k h n when l w b =
      value_test_fits slots (room_of s (Core what of line kids)) (λ m. plain_row s what of (parts_of s kids) m) l (plain_fits what of line kids k h l w b) n when

  row_fits : (what : CoreKind) (of : CType) (line : ℕ) (kids : CoreTrees) → FitsCore s slots (Core what of line kids) → PartsFit kids → (l : Low) → IsWider slots l.slots → IsFitState l
      → IsFitResult (room_of s (Core what of line kids)) l (row s what of (parts_of s kids) l)
  row_fits kind.Not of line kids k h l w b = truth_fits slots (λ n when m. tested_row s kind.Not of (parts_of s kids) n when m) (λ n when m v c. tested_fits kind.Not of line kids k h n when m v c) l w b
  row_fits kind.And of line kids k h l w b = truth_fits slots (λ n when m. tested_row s kind.And of (parts_of s kids) n when m) (λ n when m v c. tested_fits kind.And of line kids k h n when m v c) l w b
  row_fits kind.Or of line kids k h l w b = truth_fits slots (λ n when m. tested_row s kind.Or of (parts_of s kids) n when m) (λ n when m v c. tested_fits kind.Or of line kids k h n when m v c) l w b
  row_fits (kind.Compare o signed) of line kids k h l w b =
      truth_fits slots (λ n when m. tested_row s (kind.Compare o signed) of (parts_of s kids) n when m) (λ n when m v c. tested_fits (kind.Compare o signed) of line kids k h n when m v c) l w b
  row_fits what of line kids k h l w b = plain_fits what of line kids k h l w b

  -- ---- the induction

  mutual
    pub value_fits : (e : CoreTree) → FitsCore s slots e → (l : Low) → IsWider slots l.slots → IsFitState l → IsFitResult (room_of s e) l (low_e s e l)
    value_fits (Core what of line kids) k l w b = row_fits what of line kids k (parts_fit kids k.1) l w b

    pub test_fits : (e : CoreTree) → FitsCore s slots e → (n : ℕ) (when : Bool) (l : Low) → IsWider slots l.slots → IsFitState l → IsFitAfter l (low_test s e n when l)
    test_fits (Core what of line kids) k n when l w b = tested_fits what of line kids k (parts_fit kids k.1) n when l w b

    parts_fit : (cs : CoreTrees) → FitsCores s slots cs → PartsFit cs
    parts_fit NoCore k = tt
    parts_fit (Cores c cs) k = (
      record {
        value = λ l w b. value_fits c k.0 l w b;
        keeps = λ e l. front_keeps l.entries (low_e s c l).low.entries (straight_goes_on s c e l).entries;
        test = λ n when l w b. test_fits c k.0 n when l w b;
      },
      parts_fit cs k.1,
    )

pub expressions_fit : (s : Context) (slots : List Slot) (e : CoreTree) (l : Low) → FitsContext s slots → FitsCore s slots e → IsWider slots l.slots → IsFitState l → IsFitResult (room_of s e) l (low_e s e l)
expressions_fit s slots e l c k w b = value_fits s slots c e k l w b

pub tests_fit : (s : Context) (slots : List Slot) (e : CoreTree) (n : ℕ) (when : Bool) (l : Low) → FitsContext s slots → FitsCore s slots e → IsWider slots l.slots → IsFitState l → IsFitAfter l (low_test s e n when l)
tests_fit s slots e n when l c k w b = test_fits s slots c e k n when l w b
