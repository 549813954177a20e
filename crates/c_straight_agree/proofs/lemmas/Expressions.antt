-- Expressions that are neither tests nor conditionals nor calls are lowered where their parts are; and so straight ones are.
use Rattle.std.specs.Prelude.{◌≡◌, ◌≤◌, ℕ, ◌-◌, pos, nat_lt, ◌&&◌, ◌||◌, ℤ, Bool, true, false, Option, Some, None, Ok, length, slice_get, if◌then◌else◌}
use Rattle.std.proofs.Common.{true≢false, refl, sym, ap, subst, arith}
use Rattle.objects.specs.declared.value.Value.TheVariants.{Number, Function}
use Rattle.objects.specs.Pointers.{moved, subtracted}
use Rattle.objects.specs.Arithmetic.{unary_value, binary_value}
use Rattle.objects.specs.Conversions.{converted}
use Rattle.dag_forest.specs.Tally.{node_count}
use Rattle.c_types.specs.CType.{CType}
use Rattle.c_meaning.specs.declared.core_expr.Change.{Change}
use Rattle.c_meaning.specs.declared.core_expr.Conversion.TheVariants as to
use Rattle.c_meaning.specs.declared.core_expr.CoreKind.{CoreKind}
use Rattle.c_meaning.specs.declared.core_expr.CoreKind.TheVariants as kind
use Rattle.c_meaning.specs.CoreTrees.{Core, NoCore, Cores, type_of, line_of}
use Rattle.c_meaning.specs.Scalars.{is_signed}
use Rattle.c_meaning.specs.Types.{is_pointer, is_record}
use Rattle.c_meaning.specs.Values.{CoreTree, CoreTrees}
use Rattle.c_runs.specs.Calls.{built_in_number}
use Rattle.c_runs.specs.Expressions as does
use Rattle.c_runs.specs.Outcomes.{Result, Gives, GivesNone, then_drop, gives, either}
use Rattle.c_runs.specs.Places.{place_of_object, place_of_text, spot_of}
use Rattle.c_runs.specs.Places as place
use Rattle.c_runs.specs.Run.{context}
use Rattle.c_runs.specs.Soundness.{IsTame, AreTame, EvalStaysSound}
use Rattle.c_runs.specs.Worlds as c
use Rattle.c_rows_agree.specs.Integers.{number, converted_to, as_pointer, unary_of, binary_of}
use Rattle.c_rows_agree.specs.Places.{loaded_pointer}
use Rattle.c_rows_agree.specs.Typed.{Typed}
use Rattle.c_pointers_agree.specs.Held.{HoldsShort}
use Rattle.c_pointers_agree.specs.Pointers.{name, moved_among, difference}
use Rattle.c_pointers_agree.proofs.lemmas.Moves.{member_agrees}
use Rattle.c_pointers_agree.proofs.lemmas.Short.{operand_sound}
use Rattle.piece_runs.specs.Reaches.{keeps_at}
use Rattle.c_expr_agreement.specs.Scenes.{Scene}
use Rattle.lowered_forms.specs.Accesses.{read, kept, written_by, copy_root}
use Rattle.lowered_forms.specs.Changes as low_change
use Rattle.lowered_forms.specs.Contexts.{Context, function_name, object_name, text_name, built_in_name}
use Rattle.lowered_forms.specs.Expressions.{comma_from, plain_row, row, low_e, parts_of}
use Rattle.lowered_forms.specs.Lows.{Low, acted}
use Rattle.lowered_forms.specs.Places.{address_at, local_by, local_place, is_passed_whole, room_of, further}
use Rattle.lowered_forms.specs.Straight.{straight, all_straight, goes_on}
use Rattle.lowered_forms.specs.Values.{Lowered, with_value, nothing, placed}
use Rattle.lowered_forms.proofs.lemmas.Adding.{lowering_adds}
use Rattle.lowered_forms.proofs.lemmas.Fronts.{front_itself}
use Rattle.lowered_forms.proofs.lemmas.WithinTemplates.{as_p_in, converted_in, unary_in, binary_in, among_in, difference_in, further_in, local_in, read_in}
use Rattle.c_straight_agree.specs.Agreement.{CameTo, IsLowered, ArePartsOf, CallsAreLowered}
use Rattle.c_straight_agree.specs.Extends.{Extends}
use Rattle.c_straight_agree.specs.Layouts.{FrameLayout, context_in, IsLaidOut, IsFair, AreFair, is_call, has_call, have_calls}
use Rattle.c_straight_agree.specs.Narrow.{CharsAreNarrow, ShortsAreNarrow}
use Rattle.c_straight_agree.specs.Parts.{IsPerformedPart, is_plain, IsLoweredPart, EachTree, AreLoweredParts}
use Rattle.c_straight_agree.specs.Settled.{seen}
use Rattle.c_straight_agree.specs.Standing.{IsBody}
use Rattle.c_straight_agree.proofs.lemmas.Assigning.{scalars_are_assigned}
use Rattle.c_straight_agree.proofs.lemmas.Changing.{changes_are_given, old_values_are_given}
use Rattle.c_straight_agree.proofs.lemmas.Coming.{operand_settled, joins}
use Rattle.c_straight_agree.proofs.lemmas.Copying.{wholes_are_copied}
use Rattle.c_straight_agree.proofs.lemmas.Extending.{extends_itself, extends_joins, placed_extends, acted_extends, grows_later, later_extends}
use Rattle.c_straight_agree.proofs.lemmas.Finals.{finals_go_back}
use Rattle.c_straight_agree.proofs.lemmas.Kept.{front_length}
use Rattle.c_straight_agree.proofs.lemmas.Leaves.{place_came, number_has, nothing_has, function_has, object_has, text_has, address_has, whole_holds, whole_settled, local_is, whole_is}
use Rattle.c_straight_agree.proofs.lemmas.Members.{fewer_at, HasRoom, member_holds, further_room, placed_room, address_room, none_room, never_local}
use Rattle.c_straight_agree.proofs.lemmas.Parts.{result, part, gives_came, GoesOne, GoesOneOf, GoesTwo, Results, TwoCome, lowered_part, one_of_comes, one_comes, two_come, computes_one, computes_two, sound_result, drops_sound, slots_later}
use Rattle.c_straight_agree.proofs.lemmas.Performing.{performed_part}
use Rattle.c_straight_agree.proofs.lemmas.Placing.{value_came, placed_came}
use Rattle.c_straight_agree.proofs.lemmas.Reading.{IsInUnit, reads_compute}
use Rattle.c_straight_agree.proofs.lemmas.Rows.{unary_computes, conversion_computes, pointer_computes, binary_computes, move_computes, difference_computes}
use Rattle.c_straight_agree.proofs.lemmas.SettledTemplates.{further_set}
use Rattle.c_straight_agree.proofs.lemmas.Wholes.{wholes_stay}

-- ---- what is known of parts

spot_is_in_unit : (e : CoreTree) → IsTame e → IsInUnit (spot_of e)
spot_is_in_unit (Core (kind.Member offset first width) of line kids) tame = tame.0
spot_is_in_unit (Core what of line kids) tame = omega arith

both_true : (a b : Bool) → (a && b) ≡ true → (a ≡ true) × (b ≡ true)
both_true true b e = (refl, e)
both_true false b e = absurd (true≢false (sym e))

or_first : (a b : Bool) → a ≡ true → (a || b) ≡ true
or_first true b e = refl
or_first false b e = absurd (true≢false (sym e))

or_second : (a b : Bool) → b ≡ true → (a || b) ≡ true
or_second true b e = refl
or_second false b e = e

number_room : (s : Scene) (room : ℕ) (signed : Bool) (n : ℕ) → HasRoom s room (number signed n).tree
number_room s room true n = λ lt is z e. absurd (let never : ⊥ = cc in never)
number_room s room false n = λ lt is z e. absurd (let never : ⊥ = cc in never)

module _ (s : Scene) (y : FrameLayout) (laid : IsLaidOut s y) where
  local_room : (n : ℕ) (of t : CType) (l : Low) → slice_get y.types n ≡ Some t → place.size_of s.unit.tags of ≤ place.size_of s.unit.tags t → (b : Bool) → HasRoom s (if b then 0 else place.size_of s.unit.tags of) (placed (local_by b (slice_get y.places n)) l).value.tree
  local_room n of t l typed le true = none_room s (placed (local_by true (slice_get y.places n)) l).value.tree
  local_room n of t l typed le false =
      let at = laid.places n t typed in
      let size = place.size_of s.unit.tags of in
      placed_room s size (local_by false (slice_get y.places n)) l
      (subst (λ (o : Option ℤ). HasRoom s size (local_by false o).tree) (sym at.1) (address_room s at.0 size (fewer_at s at.0 size (place.size_of s.unit.tags t) le at.2)))

  -- the place of a structure that is in a slot has so many bytes behind it there
  place_has_room : (e : CoreTree) → is_record (type_of e) ≡ true → IsFair s y e → (l : Low) → HasRoom s (room_of (context_in s y) e) (low_e (context_in s y) e l).value.tree
  place_has_room (Core (kind.Local n register) of line NoCore) whole fair l = local_room n of fair.0.0 l fair.0.1 (fair.0.3 whole) (is_passed_whole (context_in s y) n of)
  place_has_room (Core (kind.Local n register) of line (Cores a cs)) whole fair l = number_room s _ true 0
  place_has_room (Core (kind.Object n) of line NoCore) whole fair l = never_local s (object_name s.unit n) (pos 0) _
  place_has_room (Core (kind.Object n) of line (Cores a cs)) whole fair l = number_room s _ true 0
  place_has_room (Core (kind.Text n) of line NoCore) whole fair l = never_local s (text_name s.unit n) (pos 0) _
  place_has_room (Core (kind.Text n) of line (Cores a cs)) whole fair l = number_room s _ true 0
  place_has_room (Core (kind.Member offset first width) of line NoCore) whole fair l = number_room s _ true 0
  place_has_room (Core (kind.Member offset first width) of line (Cores a NoCore)) whole fair l =
      let x = context_in s y in
      let p = low_e x a l in
      let b = nat_lt offset (room_of x a) in
      placed_room s (room_of x a - offset) (further b offset p.value) p.low (further_room s (room_of x a) offset b p.value (place_has_room a fair.0 fair.1.0 l))
  place_has_room (Core (kind.Member offset first width) of line (Cores a (Cores b cs))) whole fair l = number_room s _ true 0
  place_has_room (Core what of line kids) whole fair l = none_room s (low_e (context_in s y) (Core what of line kids) l).value.tree

module _ (chars : CharsAreNarrow) (shorts : ShortsAreNarrow) (evals : EvalStaysSound) (s : Scene) (locals : ℕ) (body : IsBody s locals) (y : FrameLayout) (laid : IsLaidOut s y) where
  abbrev x : Context
  x = context_in s y

  -- ---- rows of one part

  -- as it is
  value_goes : GoesOne s locals body (λ p l. with_value p l) (λ v k old. Gives v k old)
  value_goes m le p in_p v start turns f h map old values w k slots st sound sv hv = value_came s locals body chars shorts start turns m le f map old values w k st v p h hv

  member_goes : (a : CoreTree) (offset line : ℕ) → GoesOneOf s locals body (λ p. HasRoom s (room_of x a) p.tree) (λ p l. placed (further (nat_lt offset (room_of x a)) offset p) l) (λ v k old. gives (moved (c.objects old) v (pos offset)) line k old)
  member_goes a offset line m le p in_p known v start turns f h map old values w k slots st sound sv hv =
      let b = nat_lt offset (room_of x a) in
      let out = placed (further b offset p) m in
      let keeps = keeps_at s.body m.pieces m.entries f in
      let here = seen s.body map values w in
      gives_came (moved (c.objects old) v (pos offset)) s start turns m out.low h out.value map old values w line k old
      (λ u is.
      let short : HoldsShort here (c.objects old) = record { held = st.stands.matches.held; short = sound.short } in
      placed_came s locals body chars shorts start turns m le f map old values w k st u (further b offset p) (further_in (node_count m.entries) b offset p in_p) (further_set keeps here b offset p (operand_settled keeps s p map values w v hv))
      (member_holds s y laid map values w (c.objects old) short offset p v u hv.holds is (member_agrees here (c.objects old) offset p v u short (operand_sound old.storage.made v sv).0 hv.holds is) (room_of x a) known) h)

  -- a part whose value isn't used
  pub dropped : (a : CoreTree) → IsPerformedPart s locals y a → (l : Low) → locals ≤ length l.slots → Results s locals body y l (nothing (low_e x a l).low) (λ k old. then_drop (result s a k old) (λ k1 w1. GivesNone 0 k1 w1))
  dropped a pa l le start turns f h map before values first k slots st sound wholes =
      let l1 = (low_e x a l).low in
      let p = (low_e x a l).value in
      drops_sound s start turns l l1 l1 h h p (number true 0) map before values first sound (result s a k before) (λ k1 w1. GivesNone 0 k1 w1) (sound_result s locals body evals a pa.tame k before sound)
      (pa.performed l le start turns f h map before values first k slots st sound wholes)
      (λ k1 old1 so one. record { later = one.later; grown = one.grown; others = one.others; world = one.world; stands = one.stands; alike = one.alike; left = one.left; private = one.private; kept = one.kept; has = nothing_has s locals body y laid start turns l1 h one.later old1 one.others one.world k1 one.stands so })

  -- ---- the comma

  abbrev comma : CoreTree → CoreTrees → CoreTree
  comma a cs = Core kind.Comma (type_of a) 0 (Cores a cs)

  -- what becomes of its value, which is the last one's
  module _ (view : Result → Result) (through : (r : Result) (go : ℕ → c.World → Result) → view (then_drop r go) ≡ then_drop r (λ k w. view (go k w))) where
    abbrev pub AreInComma : CoreTree → CoreTrees → Type 0
    AreInComma a NoCore = (l : Low) → locals ≤ length l.slots → Results s locals body y l (low_e x a l) (λ k old. view (result s a k old))
    AreInComma a (Cores b cs) = IsPerformedPart s locals y a × AreInComma b cs

    pub comma_comes : (a : CoreTree) (cs : CoreTrees) → AreInComma a cs → (l : Low) → locals ≤ length l.slots
        → Results s locals body y l (comma_from (part x a) (parts_of x cs) l) (λ k old. view (does.comma_from (record { tree = a; does = λ k1 w1. result s a k1 w1 }) (does.parts_of (context s.unit s.lowered.order) cs) k old))
    comma_comes a NoCore ps l le start turns f h map before values first k slots st sound wholes = ps l le start turns f h map before values first k slots st sound wholes
    comma_comes a (Cores b cs) ps l le start turns f h map before values first k slots st sound wholes =
        let l1 = (low_e x a l).low in
        let p = (low_e x a l).value in
        let r = comma_from (part x b) (parts_of x cs) l1 in
        let x1 = lowering_adds x a l in
        let x2 = lowering_adds x (comma b cs) l1 in
        let last = finals_go_back s.body.pieces x (comma b cs) l1 (record { front = h; slots = slots }) in
        let rest : ℕ → c.World → Result = λ k1 w1. does.comma_from (record { tree = b; does = λ k2 w2. result s b k2 w2 }) (does.parts_of (context s.unit s.lowered.order) cs) k1 w1 in
        subst (λ (z : Result). CameTo s start turns l r.low h r.value map before values first z) (sym (through (result s a k before) rest))
        (drops_sound s start turns l l1 r.low last.front h p r.value map before values first sound (result s a k before) (λ k1 w1. view (rest k1 w1)) (sound_result s locals body evals a ps.0.tame k before sound)
        (ps.0.performed l le start turns f last.front map before values first k last.slots st sound wholes)
        (λ k1 old1 so one.
        joins s start turns l l1 r.low last.front h p r.value map before values first None old1 k1 (front_length l.slots l1.slots x1.slots)
        (grows_later l l1 r.low x1 x2.pieces (λ e. later_extends l1 r.low r.low.pieces x2 (front_itself r.low.pieces) e)) one (view (rest k1 old1))
        (comma_comes b cs ps.1 l1 (slots_later s locals body l l1 x1.slots le) start turns last.front h one.later old1 one.others one.world k1 slots one.stands so
        (wholes_stay s y laid start turns l l1 f last.front p map before values first k st None old1 k1 one wholes))))

  -- it is given where all are lowered
  all_in_comma : (a : CoreTree) (cs : CoreTrees) → IsLoweredPart s locals y a → AreLoweredParts s locals y cs → AreInComma (λ r. r) (λ r go. refl) a cs
  all_in_comma a NoCore pa ps = pa.lowered
  all_in_comma a (Cores b cs) pa ps = (performed_part s locals y a pa, all_in_comma b cs ps.0 ps.1)

  -- ---- assignments and changes

  assigned_goes : (of : CType) (a : CoreTree) → IsTame a → (from_line line : ℕ) (b : Bool)
      → GoesTwo s locals body (λ p v l. low_change.assigned_by b x of (spot_of a) p v l)
      (λ p v k w. either b (λ k3 w3. does.assigned_whole (context s.unit s.lowered.order) of from_line line p v k3 w3) (λ k3 w3. does.assigned_scalar (context s.unit s.lowered.order) (spot_of a) line p v k3 w3) k w)
  unfolding context
  assigned_goes of a tame from_line line true = wholes_are_copied s locals body chars shorts of from_line line
  assigned_goes of a tame from_line line false = scalars_are_assigned s locals body chars shorts (spot_of a) (spot_is_in_unit a tame) line

  assigned_extends : (b : Bool) (of : CType) (a : CoreTree) (p v : Typed) (l : Low) → Extends l (low_change.assigned_by b x of (spot_of a) p v l).low
  assigned_extends true of a p v l =
      let r = copy_root (place.size_of s.unit.tags of) (place.align_of s.unit.tags of) p v in
      extends_joins l (acted r l) _ (acted_extends r l) (placed_extends p (acted r l))
  assigned_extends false of a p v l =
      extends_joins l (placed (kept (spot_of a) v) l).low _ (placed_extends (kept (spot_of a) v) l)
      (acted_extends (written_by (place.is_field (spot_of a)) true s.lowered.order (spot_of a) p v) (placed (kept (spot_of a) v) l).low)

  changed_extends : (by : Change) (a : CoreTree) (p v : Typed) (l : Low) → Extends l (low_change.changed_at s.lowered.order by (spot_of a) low_change.new_given p v l).low × Extends l (low_change.changed_at s.lowered.order by (spot_of a) low_change.old_given p v l).low
  changed_extends by a p v l =
      let z = spot_of a in
      let o = placed (read s.lowered.order z p) l in
      let n = placed (low_change.changed by z o.value v) o.low in
      let k = placed (kept z n.value) n.low in
      let two = extends_joins l o.low n.low (placed_extends (read s.lowered.order z p) l) (placed_extends (low_change.changed by z o.value v) o.low) in (
        extends_joins l n.low _ two (extends_joins n.low k.low _ (placed_extends (kept z n.value) n.low) (acted_extends (written_by (place.is_field z) true s.lowered.order z p n.value) k.low)),
        extends_joins l n.low _ two (acted_extends (written_by (place.is_field z) false s.lowered.order z p n.value) n.low),
      )

  -- ---- the rows

  local_lowered : (n : ℕ) (register : Bool) (of t : CType) (line : ℕ) (l : Low) → locals ≤ length l.slots → slice_get y.types n ≡ Some t → (b : Bool) → is_passed_whole x n of ≡ b → is_passed_whole x n t ≡ b
      → Results s locals body y l (placed (local_place x n of) l) (λ k old. result s (Core (kind.Local n register) of line NoCore) k old)
  local_lowered n register of t line l le typed false is whole =
      let at = laid.places n t typed in
      let z = at.0 in
      subst (λ (a : Typed). Results s locals body y l (placed a l) (λ k old. result s (Core (kind.Local n register) of line NoCore) k old)) (sym (local_is s y n of z is at.1))
      (λ start turns f q map before values first k slots st sound wholes.
      let out = placed (address_at z) l in
      place_came (slice_get before.locals n) s start turns l out.low q out.value map before values first line k before
      (λ p e.
      let has = address_has s locals body y laid start turns l f map before values first k st sound n t z p typed whole at.1 e in
      placed_came s locals body chars shorts start turns l le f map before values first k st p (address_at z) (local_in (node_count l.entries) false (Some z)) (operand_settled (keeps_at s.body l.pieces l.entries f) s (address_at z) map values first p has) has.holds q))
  local_lowered n register of t line l le typed true is whole =
      let at = laid.places n t typed in
      let z = at.0 in
      subst (λ (a : Typed). Results s locals body y l (placed a l) (λ k old. result s (Core (kind.Local n register) of line NoCore) k old)) (sym (whole_is s y n of z is at.1))
      (λ start turns f q map before values first k slots st sound wholes.
      let a = loaded_pointer (address_at z) in
      let out = placed a l in
      place_came (slice_get before.locals n) s start turns l out.low q out.value map before values first line k before
      (λ p e.
      placed_came s locals body chars shorts start turns l le f map before values first k st p a (local_in (node_count l.entries) true (Some z)) (whole_settled s locals body y laid start turns l f map before values first k st sound n t z p typed whole at.1 wholes)
      (whole_holds s locals body y laid start turns l f map before values first k st sound n t z p typed whole at.1 wholes e) q))

  same_whole : (n : ℕ) (of t : CType) → is_record of ≡ is_record t → is_passed_whole x n t ≡ is_passed_whole x n of
  same_whole n of t e = ap (λ (b : Bool). nat_lt n y.parameters && b) (sym e)

  -- an expression that is neither a test nor a conditional nor a call, where these expressions of two parts are lowered
  module _ (Is : CoreTree → Type 0) (two : TwoCome s locals body evals y laid Is) where
    pub plain_lowered : (what : CoreKind) (of : CType) (line : ℕ) (kids : CoreTrees) → is_plain what ≡ true → IsTame (Core what of line kids) → IsFair s y (Core what of line kids) → AreLoweredParts s locals y kids → EachTree Is kids → (l : Low) → locals ≤ length l.slots
        → Results s locals body y l (plain_row x what of (parts_of x kids) l) (λ k old. result s (Core what of line kids) k old)
    unfolding context
    plain_lowered (kind.Local n register) of line NoCore plain tame fair ps is l le = local_lowered n register of fair.0.0 line l le fair.0.1 (is_passed_whole x n of) refl (same_whole n of fair.0.0 fair.0.2)
    plain_lowered (kind.Object n) of line NoCore plain tame fair ps is l le = λ start turns f q map before values first k slots st sound wholes.
        let a = name (object_name s.unit n) (pos 0) in
        place_came (place_of_object s.unit n (slice_get s.unit.objects n)) s start turns l l q a map before values first line k before
        (λ p e. value_came s locals body chars shorts start turns l le f map before values first k st p a q (object_has s locals body y laid start turns l f map before values first k st sound n p e))
    plain_lowered (kind.Text n) of line NoCore plain tame fair ps is l le = λ start turns f q map before values first k slots st sound wholes.
        let a = name (text_name s.unit n) (pos 0) in
        place_came (place_of_text s.unit n (slice_get s.unit.texts n)) s start turns l l q a map before values first line k before
        (λ p e. value_came s locals body chars shorts start turns l le f map before values first k st p a q (text_has s locals body y laid start turns l f map before values first k st sound n p e))
    plain_lowered (kind.Function n) of line NoCore plain tame fair ps is l le = λ start turns f q map before values first k slots st sound wholes.
        value_came s locals body chars shorts start turns l le f map before values first k st (Function n) (name (function_name s.unit n) (pos 0)) q
        (function_has s locals body y laid start turns l f map before values first k st sound (function_name s.unit n) n (laid.functions n fair.0))
    plain_lowered (kind.BuiltIn b) of line NoCore plain tame fair ps is l le = λ start turns f q map before values first k slots st sound wholes.
        value_came s locals body chars shorts start turns l le f map before values first k st (Function (built_in_number s.unit b)) (name (built_in_name s.unit b) (pos 0)) q
        (function_has s locals body y laid start turns l f map before values first k st sound (built_in_name s.unit b) (built_in_number s.unit b) fair.0)
    plain_lowered (kind.Number n) of line NoCore plain tame fair ps is l le = λ start turns f q map before values first k slots st sound wholes.
        value_came s locals body chars shorts start turns l le f map before values first k st (Number n) (number (is_signed of) n) q
        (number_has s locals body y laid start turns l f map before values first k st sound (is_signed of) n tame.0)
    plain_lowered (kind.Member offset first width) of line (Cores a NoCore) plain tame fair ps is l le =
        one_of_comes s locals body evals y laid (λ p. HasRoom s (room_of x a) p.tree) a ps.0 (λ l1. place_has_room s y laid a fair.0 fair.1.0 l1) (λ p l1. placed (further (nat_lt offset (room_of x a)) offset p) l1) (λ p l1. placed_extends (further (nat_lt offset (room_of x a)) offset p) l1) _ (member_goes a offset line) l le
    plain_lowered kind.Pointed of line (Cores a NoCore) plain tame fair ps is l le = one_comes s locals body evals y laid a ps.0 (λ p l1. with_value p l1) (λ p l1. extends_itself l1) (λ v k old. Gives v k old) value_goes l le
    plain_lowered kind.Address of line (Cores a NoCore) plain tame fair ps is l le = one_comes s locals body evals y laid a ps.0 (λ p l1. with_value p l1) (λ p l1. extends_itself l1) (λ v k old. Gives v k old) value_goes l le
    plain_lowered kind.First of line (Cores a NoCore) plain tame fair ps is l le = one_comes s locals body evals y laid a ps.0 (λ p l1. with_value p l1) (λ p l1. extends_itself l1) (λ v k old. Gives v k old) value_goes l le
    plain_lowered kind.Read of line (Cores a NoCore) plain tame fair ps is l le =
        one_comes s locals body evals y laid a ps.0 (λ p l1. placed (read s.lowered.order (spot_of a) p) l1) (λ p l1. placed_extends (read s.lowered.order (spot_of a) p) l1) _
        (computes_one s locals body chars shorts (λ p. read s.lowered.order (spot_of a) p) (λ os p. place.held s.lowered.order (spot_of a) os p) line (λ n p g. read_in n s.lowered.order (spot_of a) p g) (reads_compute s locals body (spot_of a) (spot_is_in_unit a tame.1.0))) l le
    plain_lowered (kind.Convert to.Void) of line (Cores a NoCore) plain tame fair ps is l le = dropped a (performed_part s locals y a ps.0) l le
    plain_lowered (kind.Convert to.Pointer) of line (Cores a NoCore) plain tame fair ps is l le =
        one_comes s locals body evals y laid a ps.0 (λ p l1. placed (as_pointer p) l1) (λ p l1. placed_extends (as_pointer p) l1) _
        (computes_one s locals body chars shorts as_pointer (λ os v. Ok v) line (λ n p g. as_p_in n p.suffix p.tree g) (pointer_computes s locals body)) l le
    plain_lowered (kind.Convert (to.Integer z)) of line (Cores a NoCore) plain tame fair ps is l le =
        one_comes s locals body evals y laid a ps.0 (λ p l1. placed (converted_to z p) l1) (λ p l1. placed_extends (converted_to z p) l1) _
        (computes_one s locals body chars shorts (λ p. converted_to z p) (λ os v. converted z v) (line_of a) (λ n p g. converted_in n z.width z.signed p g) (conversion_computes s locals body z)) l le
    plain_lowered (kind.Unary o) of line (Cores a NoCore) plain tame fair ps is l le =
        one_comes s locals body evals y laid a ps.0 (λ p l1. placed (unary_of o p) l1) (λ p l1. placed_extends (unary_of o p) l1) _
        (computes_one s locals body chars shorts (λ p. unary_of o p) (λ os v. unary_value o v) line (λ n p g. unary_in n o p g) (unary_computes s locals body o)) l le
    plain_lowered (kind.Binary o signed) of line (Cores a (Cores b NoCore)) plain tame fair ps is l le =
        two a b ps.0 ps.1.0 is.1.0 (λ p q l1. placed (binary_of o signed p q) l1) (λ p q l1. placed_extends (binary_of o signed p q) l1) _
        (computes_two s locals body chars shorts (λ p q. binary_of o signed p q) (λ os v u. binary_value signed o v u) line (λ n p q g i. binary_in n o signed p q g i) (binary_computes s locals body o signed)) l le
    plain_lowered (kind.Move size back) of line (Cores a (Cores b NoCore)) plain tame fair ps is l le =
        two a b ps.0 ps.1.0 is.1.0 (λ p q l1. placed (moved_among size back (is_pointer (type_of a)) p q) l1) (λ p q l1. placed_extends (moved_among size back (is_pointer (type_of a)) p q) l1) _
        (computes_two s locals body chars shorts (λ p q. moved_among size back (is_pointer (type_of a)) p q) (λ os v u. does.moved_among size back (type_of a) (type_of b) os v u) line (λ n p q g i. among_in n size back (is_pointer (type_of a)) p q g i) (move_computes s locals body size back (type_of a) (type_of b) fair.0)) l le
    plain_lowered (kind.Difference size) of line (Cores a (Cores b NoCore)) plain tame fair ps is l le =
        two a b ps.0 ps.1.0 is.1.0 (λ p q l1. placed (difference size p q) l1) (λ p q l1. placed_extends (difference size p q) l1) _
        (computes_two s locals body chars shorts (λ p q. difference size p q) (λ os v u. subtracted os size v u) line (λ n p q g i. difference_in n size p q g i) (difference_computes s locals body size fair.0)) l le
    plain_lowered kind.Comma of line (Cores a cs) plain tame fair ps is l le = comma_comes (λ r. r) (λ r go. refl) a cs (all_in_comma a cs ps.0 ps.1) l le
    plain_lowered kind.Assign of line (Cores a (Cores b NoCore)) plain tame fair ps is l le =
        two a b ps.0 ps.1.0 is.1.0 (λ p q l1. low_change.assigned_by (is_record of) x of (spot_of a) p q l1) (λ p q l1. assigned_extends (is_record of) of a p q l1) _
        (assigned_goes of a tame.1.0 (line_of b) line (is_record of)) l le
    plain_lowered (kind.Change by) of line (Cores a (Cores b NoCore)) plain tame fair ps is l le =
        two a b ps.0 ps.1.0 is.1.0 (λ p q l1. low_change.changed_at s.lowered.order by (spot_of a) low_change.new_given p q l1) (λ p q l1. (changed_extends by a p q l1).0) _
        (changes_are_given s locals body chars shorts evals (spot_of a) (spot_is_in_unit a tame.1.0) line by fair.0 (type_of b)) l le
    plain_lowered (kind.Postfix by) of line (Cores a (Cores b NoCore)) plain tame fair ps is l le =
        two a b ps.0 ps.1.0 is.1.0 (λ p q l1. low_change.changed_at s.lowered.order by (spot_of a) low_change.old_given p q l1) (λ p q l1. (changed_extends by a p q l1).1) _
        (old_values_are_given s locals body chars shorts evals (spot_of a) (spot_is_in_unit a tame.1.0) line by fair.0 (type_of b)) l le
    plain_lowered (kind.Compare o signed) of line kids plain tame fair ps is l le = absurd (true≢false (sym plain))
    plain_lowered kind.Not of line kids plain tame fair ps is l le = absurd (true≢false (sym plain))
    plain_lowered kind.And of line kids plain tame fair ps is l le = absurd (true≢false (sym plain))
    plain_lowered kind.Or of line kids plain tame fair ps is l le = absurd (true≢false (sym plain))
    plain_lowered kind.Conditional of line kids plain tame fair ps is l le = absurd (true≢false (sym plain))
    plain_lowered (kind.Call n) of line kids plain tame fair ps is l le = absurd (true≢false (sym plain))
    plain_lowered what of line kids plain tame fair ps is l le = λ start turns f q map before values first k slots st sound wholes. tt

    plain_is_row : (what : CoreKind) (of : CType) (kids : CoreTrees) → is_plain what ≡ true → (l : Low) → plain_row x what of (parts_of x kids) l ≡ row x what of (parts_of x kids) l
    plain_is_row (kind.Compare o signed) of kids plain l = absurd (true≢false (sym plain))
    plain_is_row kind.Not of kids plain l = absurd (true≢false (sym plain))
    plain_is_row kind.And of kids plain l = absurd (true≢false (sym plain))
    plain_is_row kind.Or of kids plain l = absurd (true≢false (sym plain))
    plain_is_row what of kids plain l = refl

    pub row_lowered : (what : CoreKind) (of : CType) (line : ℕ) (kids : CoreTrees) → is_plain what ≡ true → IsTame (Core what of line kids) → IsFair s y (Core what of line kids) → AreLoweredParts s locals y kids → EachTree Is kids → (l : Low) → locals ≤ length l.slots
        → IsLowered s y (Core what of line kids) l (low_e x (Core what of line kids) l)
    row_lowered what of line kids plain tame fair ps is l le =
        subst (λ (r : Lowered). IsLowered s y (Core what of line kids) l r) (plain_is_row what of kids plain l) (plain_lowered what of line kids plain tame fair ps is l le)

  -- ---- the induction

  -- what is straight and no call
  straight_is_plain : (what : CoreKind) → goes_on what ≡ true → is_call what ≡ false → is_plain what ≡ true
  straight_is_plain (kind.Compare o signed) h e = absurd (true≢false (sym h))
  straight_is_plain kind.Not h e = absurd (true≢false (sym h))
  straight_is_plain kind.And h e = absurd (true≢false (sym h))
  straight_is_plain kind.Or h e = absurd (true≢false (sym h))
  straight_is_plain kind.Conditional h e = absurd (true≢false (sym h))
  straight_is_plain (kind.Call n) h e = absurd (true≢false e)
  straight_is_plain what h e = refl

  are_straight : (cs : CoreTrees) → all_straight cs ≡ true → EachTree (λ e. straight e ≡ true) cs
  are_straight NoCore h = tt
  are_straight (Cores e cs) h = let q = both_true (straight e) (all_straight cs) h in (q.0, are_straight cs q.1)

  are_lowered : (cs : CoreTrees) → ArePartsOf s locals y cs → AreLoweredParts s locals y cs
  are_lowered NoCore ps = tt
  are_lowered (Cores e cs) ps = (lowered_part s locals body y e ps.0, are_lowered cs ps.1)

  kind_lowered : (what : CoreKind) (of : CType) (line : ℕ) (kids : CoreTrees) → goes_on what ≡ true → all_straight kids ≡ true → IsTame (Core what of line kids) → IsFair s y (Core what of line kids) → (is_call what ≡ true → CallsAreLowered s locals y) → ArePartsOf s locals y kids → (l : Low) → locals ≤ length l.slots → (b : Bool) → is_call what ≡ b
      → IsLowered s y (Core what of line kids) l (low_e x (Core what of line kids) l)
  kind_lowered (kind.Call n) of line kids h g tame fair calls ps l le b e = calls refl n of line kids g tame fair ps l le
  kind_lowered what of line kids h g tame fair calls ps l le true e = absurd (true≢false (sym e))
  kind_lowered what of line kids h g tame fair calls ps l le false e =
      row_lowered (λ z. straight z ≡ true) (two_come s locals body evals y laid) what of line kids (straight_is_plain what h e) tame fair (are_lowered kids ps) (are_straight kids g) l le

  mutual
    pub straight_is_lowered : (e : CoreTree) → straight e ≡ true → IsTame e → IsFair s y e → (has_call e ≡ true → CallsAreLowered s locals y) → (l : Low) → locals ≤ length l.slots → IsLowered s y e l (low_e x e l)
    straight_is_lowered (Core what of line kids) h tame fair calls l le =
        let q = both_true (goes_on what) (all_straight kids) h in
        kind_lowered what of line kids q.0 q.1 tame fair (λ e. calls (or_first (is_call what) (have_calls kids) e)) (parts_are kids q.1 tame.1 fair.1 (λ e. calls (or_second (is_call what) (have_calls kids) e))) l le (is_call what) refl

    parts_are : (cs : CoreTrees) → all_straight cs ≡ true → AreTame cs → AreFair s y cs → (have_calls cs ≡ true → CallsAreLowered s locals y) → ArePartsOf s locals y cs
    parts_are NoCore h tame fair calls = tt
    parts_are (Cores e cs) h tame fair calls =
        let q = both_true (straight e) (all_straight cs) h in (
          record { goes_on = q.0; tame = tame.0; lowered = λ l le. straight_is_lowered e q.0 tame.0 fair.0 (λ i. calls (or_first (has_call e) (have_calls cs) i)) l le },
          parts_are cs q.1 tame.1 fair.1 (λ i. calls (or_second (has_call e) (have_calls cs) i)),
        )
