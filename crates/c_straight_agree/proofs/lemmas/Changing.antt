-- Places that are read, changed and written.
use Rattle.std.specs.Prelude.{◌≡◌, ◌≤◌, ℕ, Bool, true, false, Some, Ok, Err, List, length, Result as Checked, if◌then◌else◌}
use Rattle.std.proofs.Common.{refl, subst, arith}
use Rattle.lcc_base.specs.declared.cause.Cause.{Cause}
use Rattle.lcc_base.specs.declared.order.Order.{Order}
use Rattle.objects.specs.declared.purpose.Purpose.TheVariants.{Assignment}
use Rattle.objects.specs.declared.value.Value.{Value}
use Rattle.objects.specs.Accesses.{read_cause, bytes_through, read, field_read}
use Rattle.objects.proofs.lemmas.AccessLaws.{unless_same}
use Rattle.objects.specs.Arithmetic.{binary_value}
use Rattle.objects.specs.Conversions.{as_type}
use Rattle.objects.specs.Fields.{field_in}
use Rattle.objects.specs.Objects.{Object as Old}
use Rattle.forests.specs.Words.{Word}
use Rattle.forests.specs.Worlds.{World, Outcome}
use Rattle.dag_forest.specs.Tally.{node_count}
use Rattle.c_types.specs.CType.{CType}
use Rattle.c_meaning.specs.declared.core_expr.Change.{Change}
use Rattle.c_meaning.specs.declared.core_expr.Change.TheVariants as change
use Rattle.c_meaning.specs.Scalars.{scalar_of}
use Rattle.c_runs.specs.Expressions as does
use Rattle.c_runs.specs.Outcomes.{Gives, if_fine, stores, mapped}
use Rattle.c_runs.specs.Places.{Spot, is_field, field_of}
use Rattle.c_runs.specs.Places as place
use Rattle.c_runs.specs.Soundness.{IsSoundValue, EvalStaysSound}
use Rattle.c_runs.specs.Worlds as c
use Rattle.c_match.specs.Ranges.{Map}
use Rattle.c_match.specs.Values.{StaysInside}
use Rattle.c_rows_agree.specs.Typed.{Typed, Holds}
use Rattle.c_rows_agree.proofs.lemmas.Operators.{change_holds}
use Rattle.c_pointers_agree.proofs.lemmas.Moves.{elements_move}
use Rattle.c_pointers_agree.proofs.lemmas.Short.{operand_sound}
use Rattle.piece_runs.specs.Pieces.{Front}
use Rattle.piece_runs.specs.Reaches.{keeps_at}
use Rattle.c_expr_agreement.specs.Scenes.{Scene}
use Rattle.lowered_forms.specs.Accesses as low
use Rattle.lowered_forms.specs.Changes as low_change
use Rattle.lowered_forms.specs.Later.{IsFront}
use Rattle.lowered_forms.specs.Lows.{Low}
use Rattle.lowered_forms.specs.Values.{Lowered, then_low, placed}
use Rattle.lowered_forms.proofs.lemmas.WithinTemplates.{HasIn, read_in, changed_in}
use Rattle.c_straight_agree.specs.Agreement.{HasValue, CameTo}
use Rattle.c_straight_agree.specs.Extends.{Extends}
use Rattle.c_straight_agree.specs.Lasting.{LastingValue}
use Rattle.c_straight_agree.specs.Layouts.{IsSmallChange}
use Rattle.c_straight_agree.specs.Narrow.{CharsAreNarrow, ShortsAreNarrow}
use Rattle.c_straight_agree.specs.Settled.{seen}
use Rattle.c_straight_agree.specs.Standing.{IsBody, Standing, IsSoundIn}
use Rattle.c_straight_agree.proofs.lemmas.Assigning.{fine_came, word_of_value, placed_in, both, still, lasts, in_later, assigned_came}
use Rattle.c_straight_agree.proofs.lemmas.Coming.{operand_settled}
use Rattle.c_straight_agree.proofs.lemmas.Extending.{extends_joins, placed_extends, acted_extends, extends_slots, front_back}
use Rattle.c_straight_agree.proofs.lemmas.Lasting.{lasting_settled}
use Rattle.c_straight_agree.proofs.lemmas.Parts.{GoesTwo}
use Rattle.c_straight_agree.proofs.lemmas.Placing.{placed_came}
use Rattle.c_straight_agree.proofs.lemmas.Reading.{if_none_is, IsInUnit, reads_compute, read_is_sound}
use Rattle.c_straight_agree.proofs.lemmas.SettledTemplates.{changed_set}
use Rattle.c_straight_agree.proofs.lemmas.Storing.{written_came}

-- ---- the new value

mapped_ok : {A B : Type 0} (f : A → B) (r : Checked A Cause) (b : B) → mapped f r ≡ Ok b → (a : A) × (r ≡ Ok a) × (f a ≡ b)
mapped_ok f (Ok a) b e = (a, refl, cc)
mapped_ok f (Err cause) b e = absurd (let never : ⊥ = cc in never)

-- what was read stays in its object
field_stays : (order : Order) (x : Spot) (os : List Old) (p v : Value) → field_read order (field_of x) os p ≡ Ok v → StaysInside v
field_stays order x os p v e = subst StaysInside (unless_same _ _ v (if_none_is (read_cause os p 4 4) (field_in order (field_of x) (bytes_through os p 4)) v e).1) tt

module _ (s : Scene) (locals : ℕ) (body : IsBody s locals) (evals : EvalStaysSound) (x : Spot) where
  held_by : (t : Bool) (old : c.World) (p v : Value) → IsSoundIn s old → IsSoundValue old.storage.made p → (if t then field_read s.lowered.order (field_of x) (c.objects old) p else read s.lowered.order (scalar_of x.of) (c.objects old) p) ≡ Ok v → StaysInside v
  held_by true old p v sound sp e = field_stays s.lowered.order x (c.objects old) p v e
  held_by false old p v sound sp e = (operand_sound old.storage.made v (read_is_sound s locals body evals x.of old p v sound.sound sp e)).0

  held_stays : (old : c.World) (p v : Value) → IsSoundIn s old → IsSoundValue old.storage.made p → place.held s.lowered.order x (c.objects old) p ≡ Ok v → StaysInside v
  held_stays old p v sound sp e = held_by (is_field x) old p v sound sp e

  module _ (t : CType) (map : Map) (old : c.World) (values : ℕ → Word) (w : World) (start : ℕ → Outcome) (turns : ℕ) (m : Low) (f : Front s.body.pieces m.pieces m.entries) (k : ℕ) (st : Standing s start turns m f map old values w k) (sound : IsSoundIn s old) (a b : Typed) (v u z : Value) (inside : StaysInside v) (su : IsSoundValue old.storage.made u) (h : HasValue s a map values w v) (g : HasValue s b map values w u) where
    changed_holds : (by : Change) → IsSmallChange by → does.changed by x t (c.objects old) v u ≡ Ok z → Holds (seen s.body map values w) (low_change.changed by x a b) z
    changed_holds (change.Arithmetic o signed) small e =
        let r = mapped_ok (as_type (scalar_of x.of)) (binary_value signed o v u) z e in
        subst (λ (y : Value). Holds (seen s.body map values w) (low_change.changed (change.Arithmetic o signed) x a b) y) r.2
        (change_holds (seen s.body map values w) (scalar_of x.of) o signed a b v u r.0 (word_of_value map v h.holds.word h.word h.holds.is) (operand_sound old.storage.made u su).1 h.holds g.holds r.1)
    changed_holds (change.Pointer size back) small e =
        elements_move (seen s.body map values w) (c.objects old) size back t a b v u z (record { held = st.stands.matches.held; short = sound.short }) small inside (operand_sound old.storage.made u su).1 h.holds g.holds e

-- ---- read, changed and written

module _ (s : Scene) (locals : ℕ) (body : IsBody s locals) (chars : CharsAreNarrow) (shorts : ShortsAreNarrow) (evals : EvalStaysSound) (x : Spot) (unit : IsInUnit x) (line : ℕ) where
  -- what is given once a place is written
  abbrev GivesBehind : (Typed → Typed → Typed → Low → Lowered) → (Value → Value → Value) → Type 0
  GivesBehind give gives =
      (m : Low) → locals ≤ length m.slots → (a o b : Typed) → HasIn (node_count m.entries) a → HasIn (node_count m.entries) o → HasIn (node_count m.entries) b → (p v u : Value) (start : ℕ → Outcome) (turns : ℕ) (f : Front s.body.pieces m.pieces m.entries) (h : Front s.body.pieces (give a o b m).low.pieces (give a o b m).low.entries)
      (map : Map) (old : c.World) (values : ℕ → Word) (w : World) (k : ℕ) → IsFront (give a o b m).low.slots h.before → Standing s start turns m f map old values w k → IsSoundIn s old → IsSoundValue old.storage.made p
      → LastingValue s locals (length m.slots) a map values w p → HasValue s o map values w v → HasValue s b map values w u
      → CameTo s start turns m (give a o b m).low h (give a o b m).value map old values w (stores (place.stored Assignment s.lowered.order x u (c.objects old) p) (gives v u) line k old)

  slots_on : {n i j : ℕ} → n ≤ i → i ≤ j → n ≤ j
  slots_on p q = omega (arith, p, q)

  changes_go : (by : Change) → IsSmallChange by → (t : CType) (give : Typed → Typed → Typed → Low → Lowered) (gives : Value → Value → Value) → ((a o b : Typed) (l : Low) → Extends l (give a o b l).low) → GivesBehind give gives
      → GoesTwo s locals body (λ a b l. then_low (placed (low.read s.lowered.order x a) l) (λ o l1. then_low (placed (low_change.changed by x o b) l1) (λ n l2. give a o n l2)))
      (λ p u k old. if_fine (place.held s.lowered.order x (c.objects old) p) line old (λ v. if_fine (does.changed by x t (c.objects old) v u) line old (λ z. stores (place.stored Assignment s.lowered.order x z (c.objects old) p) (gives v z) line k old)))
  changes_go by small t give gives further goes m le a b in_a in_b p u start turns f h map old values w k slots st sound sp su ha hb =
      let o = placed (low.read s.lowered.order x a) m in
      let n = placed (low_change.changed by x o.value b) o.low in
      let r = give a o.value n.value n.low in
      let x1 = placed_extends (low.read s.lowered.order x a) m in
      let x2 = placed_extends (low_change.changed by x o.value b) o.low in
      let x3 = further a o.value n.value n.low in
      let x23 = extends_joins o.low n.low r.low x2 x3 in
      let h2 = front_back s.body.pieces n.low r.low x3 h in
      let h1 = front_back s.body.pieces o.low n.low x2 h2 in
      let in_read = read_in (node_count m.entries) s.lowered.order x a in_a in
      fine_came (place.held s.lowered.order x (c.objects old) p) s start turns m r.low h r.value map old values w line old (λ v. if_fine (does.changed by x t (c.objects old) v u) line old (λ z. stores (place.stored Assignment s.lowered.order x z (c.objects old) p) (gives v z) line k old))
      (λ v is.
      let y = reads_compute s locals body x unit m le a p v start turns f map old values w k st sound sp ha.holds (lasting_settled s locals body m f st.slots (length m.slots) (omega arith) map values w a p ha) is in
      let one = placed_came s locals body chars shorts start turns m le f map old values w k st v (low.read s.lowered.order x a) in_read y.1 y.0 h1 in
      let ha1 = lasts s locals body chars shorts start turns m o.low x1 f h1 o.value map old values w k st (Some v) old k one a p in_a ha in
      let hb1 = still s locals body chars shorts start turns m o.low x1 h1 o.value map old values w (Some v) old k one b u in_b hb in
      let in_o = placed_in (low.read s.lowered.order x a) m start turns s f map old values w k st in_read in
      let in_b1 = in_later s locals body chars shorts m o.low x1 b in_b in
      let in_a1 = in_later s locals body chars shorts m o.low x1 a in_a in
      let le1 = slots_on le (extends_slots m o.low x1) in
      let in_changed = changed_in (node_count o.low.entries) by x o.value b in_o in_b1 in
      both s locals body chars shorts start turns m o.low r.low x1 x23 h1 h o.value r.value map old values w (Some v) old k one (if_fine (does.changed by x t (c.objects old) v u) line old (λ z. stores (place.stored Assignment s.lowered.order x z (c.objects old) p) (gives v z) line k old))
      (fine_came (does.changed by x t (c.objects old) v u) s start turns o.low r.low h r.value one.later old one.others one.world line old (λ z. stores (place.stored Assignment s.lowered.order x z (c.objects old) p) (gives v z) line k old)
      (λ z is2.
      let keeps = keeps_at s.body o.low.pieces o.low.entries h1 in
      let here = seen s.body one.later one.others one.world in
      let holds = changed_holds s locals body evals x t one.later old one.others one.world start turns o.low h1 k one.stands sound o.value b v u z (held_stays s locals body evals x old p v sound sp is) su one.has hb1 by small is2 in
      let set = changed_set keeps here by x o.value b (operand_settled keeps s o.value one.later one.others one.world v one.has) (operand_settled keeps s b one.later one.others one.world u hb1) in
      let two = placed_came s locals body chars shorts start turns o.low le1 h1 one.later old one.others one.world k one.stands z (low_change.changed by x o.value b) in_changed set holds h2 in
      both s locals body chars shorts start turns o.low n.low r.low x2 x3 h2 h n.value r.value one.later old one.others one.world (Some z) old k two (stores (place.stored Assignment s.lowered.order x z (c.objects old) p) (gives v z) line k old)
      (goes n.low (slots_on le1 (extends_slots o.low n.low x2)) a o.value n.value (in_later s locals body chars shorts o.low n.low x2 a in_a1) (in_later s locals body chars shorts o.low n.low x2 o.value in_o)
      (placed_in (low_change.changed by x o.value b) o.low start turns s h1 one.later old one.others one.world k one.stands in_changed) p v z start turns h2 h two.later old two.others two.world k slots two.stands sound sp
      (lasts s locals body chars shorts start turns o.low n.low x2 h1 h2 n.value one.later old one.others one.world k one.stands (Some z) old k two a p in_a1 ha1)
      (still s locals body chars shorts start turns o.low n.low x2 h2 n.value one.later old one.others one.world (Some z) old k two o.value v in_o one.has)
      two.has))))

  -- the new value is given, or the old one
  new_goes : GivesBehind (λ a o b l. low_change.new_given s.lowered.order x a o b l) (λ v z. does.new_value x v z)
  new_goes m le a o b in_a in_o in_b p v u start turns f h map old values w k slots st sound sp ha ho hb =
      fine_came (place.stored Assignment s.lowered.order x u (c.objects old) p) s start turns m (low.assigned s.lowered.order x a b m).low h (low.assigned s.lowered.order x a b m).value map old values w line old (λ os. Gives (place.kept x u) k (c.with_objects old os))
      (λ new is. assigned_came s locals body chars shorts x unit m le a b in_a in_b p u start turns f h map old values w k slots st ha hb new is)

  old_goes : GivesBehind (λ a o b l. low_change.old_given s.lowered.order x a o b l) (λ v z. does.old_value x v z)
  old_goes m le a o b in_a in_o in_b p v u start turns f h map old values w k slots st sound sp ha ho hb =
      fine_came (place.stored Assignment s.lowered.order x u (c.objects old) p) s start turns m (low.written false s.lowered.order x a b m) h o map old values w line old (λ os. Gives v k (c.with_objects old os))
      (λ new is. written_came s locals body chars shorts x unit false m le a b in_a in_b p u start turns f map old values w k st Assignment tt ha.holds (lasting_settled s locals body m f st.slots (length m.slots) (omega arith) map values w a p ha) hb new is o v in_o ho h)

  pub changes_are_given : (by : Change) → IsSmallChange by → (t : CType)
      → GoesTwo s locals body (λ a b l. low_change.changed_at s.lowered.order by x low_change.new_given a b l)
      (λ p u k old. if_fine (place.held s.lowered.order x (c.objects old) p) line old (λ v. if_fine (does.changed by x t (c.objects old) v u) line old (λ z. stores (place.stored Assignment s.lowered.order x z (c.objects old) p) (does.new_value x v z) line k old)))
  changes_are_given by small t =
      changes_go by small t (λ a o b l. low_change.new_given s.lowered.order x a o b l) (λ v z. does.new_value x v z)
      (λ a o b l. extends_joins l (placed (low.kept x b) l).low (low.assigned s.lowered.order x a b l).low (placed_extends (low.kept x b) l) (acted_extends (low.written_by (is_field x) true s.lowered.order x a b) (placed (low.kept x b) l).low)) new_goes

  pub old_values_are_given : (by : Change) → IsSmallChange by → (t : CType)
      → GoesTwo s locals body (λ a b l. low_change.changed_at s.lowered.order by x low_change.old_given a b l)
      (λ p u k old. if_fine (place.held s.lowered.order x (c.objects old) p) line old (λ v. if_fine (does.changed by x t (c.objects old) v u) line old (λ z. stores (place.stored Assignment s.lowered.order x z (c.objects old) p) (does.old_value x v z) line k old)))
  old_values_are_given by small t =
      changes_go by small t (λ a o b l. low_change.old_given s.lowered.order x a o b l) (λ v z. does.old_value x v z)
      (λ a o b l. acted_extends (low.written_by (is_field x) false s.lowered.order x a b) l) old_goes
