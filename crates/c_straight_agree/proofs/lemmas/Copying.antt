-- Structures that are copied to a place which may be written for this purpose, and that are assigned.
use Rattle.std.specs.Prelude.{◌≡◌, ◌≤◌, ℕ, Option, Some, None, Ok, List, length, Result as Checked}
use Rattle.std.proofs.Common.{refl, sym, ap, subst, arith}
use Rattle.lcc_base.specs.declared.cause.Cause.{Cause}
use Rattle.objects.specs.declared.purpose.Purpose.{Purpose}
use Rattle.objects.specs.declared.purpose.Purpose.TheVariants.{Assignment}
use Rattle.objects.specs.declared.value.Value.{Value}
use Rattle.objects.specs.Accesses.{read_cause, write_cause, bytes_through, stored_through}
use Rattle.objects.proofs.lemmas.AccessLaws.{unless_none}
use Rattle.objects.specs.Copies.{or_cause, copy_cause}
use Rattle.objects.specs.Copies as object
use Rattle.objects.specs.Objects.{Object as Old}
use Rattle.forests.specs.Actions.{changed}
use Rattle.forests.specs.Words.{Word}
use Rattle.forests.specs.Worlds.{World, Outcome}
use Rattle.dag_forest.specs.Tally.{node_count}
use Rattle.c_types.specs.CType.{CType}
use Rattle.c_types.specs.Layout.{Tag}
use Rattle.c_runs.specs.Outcomes.{Gives, if_fine, stores}
use Rattle.c_runs.specs.Places.{size_of, align_of}
use Rattle.c_runs.specs.Places as place
use Rattle.c_runs.specs.Worlds as c
use Rattle.c_match.specs.Held.{IsAlignment, IsOpenTo}
use Rattle.c_match.specs.Ranges.{Map}
use Rattle.c_match.proofs.lemmas.Growing.{grown_refl}
use Rattle.c_match_worlds.specs.Matches.{Matches}
use Rattle.c_match_objects.proofs.lemmas.Copied.{copy_goes}
use Rattle.c_rows_agree.specs.Places.{IsStored}
use Rattle.c_rows_agree.specs.Templates as template
use Rattle.c_rows_agree.specs.Typed.{Typed, Holds}
use Rattle.c_rows_agree.proofs.lemmas.Suffixes.{p_gives}
use Rattle.piece_runs.specs.Pieces.{Front}
use Rattle.piece_runs.specs.Reaches.{keeps_at}
use Rattle.c_expr_agreement.specs.Scenes.{Scene, InFrame}
use Rattle.lowered_forms.specs.Accesses.{copy_root, copied}
use Rattle.lowered_forms.specs.Later.{IsFront}
use Rattle.lowered_forms.specs.Lows.{Low, acted}
use Rattle.lowered_forms.specs.Values.{placed}
use Rattle.lowered_forms.proofs.lemmas.WithinTemplates.{HasIn, as_p_in}
use Rattle.c_straight_agree.specs.Agreement.{HasValue, Came}
use Rattle.c_straight_agree.specs.Narrow.{CharsAreNarrow, ShortsAreNarrow}
use Rattle.c_straight_agree.specs.Settled.{seen, IsSettled}
use Rattle.c_straight_agree.specs.Standing.{IsBody, Standing}
use Rattle.c_straight_agree.specs.Stores.{IsStoring}
use Rattle.c_straight_agree.proofs.lemmas.Aligned.{types_are_aligned}
use Rattle.c_straight_agree.proofs.lemmas.Assigning.{fine_came, both, lasts, in_later}
use Rattle.c_straight_agree.proofs.lemmas.Coming.{operand_settled, value_stays}
use Rattle.c_straight_agree.proofs.lemmas.Extending.{placed_extends, acted_extends, extends_slots, front_back}
use Rattle.c_straight_agree.proofs.lemmas.Lasting.{lasting_settled}
use Rattle.c_straight_agree.proofs.lemmas.Near.{near_holds}
use Rattle.c_straight_agree.proofs.lemmas.Opens.{open_stays}
use Rattle.c_straight_agree.proofs.lemmas.Parts.{GoesTwo}
use Rattle.c_straight_agree.proofs.lemmas.Placing.{placed_came, stored_came}
use Rattle.c_straight_agree.proofs.lemmas.Reading.{if_none_is, reads_apart}
use Rattle.c_straight_agree.proofs.lemmas.SettledTemplates.{copy_left_set, copy_right_set}
use Rattle.c_straight_agree.proofs.lemmas.Storing.{store_is_kept}

none_first : (a b : Option Cause) → or_cause a b ≡ None → a ≡ None
none_first None b e = refl
none_first (Some c) b e = absurd (let never : ⊥ = cc in never)

none_rest : (a b : Option Cause) → or_cause a b ≡ None → b ≡ None
none_rest None b e = e
none_rest (Some c) b e = absurd (let never : ⊥ = cc in never)

-- where a structure is copied to may be written
pub target_written : (purpose : Purpose) (os new : List Old) (v p : Value) (size align : ℕ) → object.copied purpose os v p size align ≡ Ok new → write_cause purpose os p size align ≡ None
target_written purpose os new v p size align e =
    none_first (write_cause purpose os p size align) _ (none_rest (read_cause os v size align) _ (unless_none (copy_cause purpose os v p size align) (stored_through os p (bytes_through os v size)) new e))

-- what is copied may be read
source_read : (purpose : Purpose) (os new : List Old) (v p : Value) (size align : ℕ) → object.copied purpose os v p size align ≡ Ok new → read_cause os v size align ≡ None
source_read purpose os new v p size align e = none_first (read_cause os v size align) _ (unless_none (copy_cause purpose os v p size align) (stored_through os p (bytes_through os v size)) new e)

module _ (s : Scene) (locals : ℕ) (body : IsBody s locals) (size align : ℕ) (aligned : IsAlignment align) (m : Low) (le : locals ≤ length m.slots) (f : Front s.body.pieces m.pieces m.entries) (behind : IsFront m.slots f.before) (map : Map) (old : c.World) (values : ℕ → Word) (w : World) (matches : Matches s.lowered s.own map old w) (frame : InFrame s.frame map old w)
    (a b : Typed) (p v : Value) (h : Holds (seen s.body map values w) a p) (set : IsSettled (keeps_at s.body m.pieces m.entries f) (seen s.body map values w) a.tree) (g : HasValue s b map values w v) (purpose : Purpose) (opens : IsOpenTo purpose map w.objects p) (new : List Old) (is : object.copied purpose (c.objects old) v p size align ≡ Ok new) where
  abbrev here : template.Scene
  here = seen s.body map values w

  copy_stored : IsStored here (c.objects old) new (copy_root size align a b)
  copy_stored =
      let y = copy_goes map (c.objects old) new w.objects purpose v p g.holds.word h.word size align matches.held g.holds.is h.is aligned opens is in
      record {
        after = y.0;
        acts = record { first = h.word; second = g.holds.word; left = p_gives here a.suffix a.tree h.word h.gives; right = (g.holds.word, p_gives here b.suffix b.tree g.holds.word g.holds.gives, refl); does = ap changed y.1 };
        kept = y.2;
      }

  pub copies : IsStoring s (length m.slots) (keeps_at s.body m.pieces m.entries f) map old (c.with_objects old new) values w (copy_root size align a b)
      × (IsSettled (keeps_at s.body m.pieces m.entries f) here (copy_root size align a b).left × IsSettled (keeps_at s.body m.pieces m.entries f) here (copy_root size align a b).right)
  copies =
      let keeps = keeps_at s.body m.pieces m.entries f in
      let readable = source_read purpose (c.objects old) new v p size align is in
      let left = copy_left_set keeps here size align a b set in
      let right = copy_right_set keeps here size align a b (operand_settled keeps s b map values w v g) (reads_apart s locals body m le f behind map old values w matches frame b v size align g.holds readable) in
      (store_is_kept s locals body m le f behind map old values w matches frame new (copy_root size align a b) left right copy_stored, (left, right))

-- the root that copies is done, and an operand that waits has its value still
pub copied_came : (s : Scene) (locals : ℕ) (body : IsBody s locals) (tags : List Tag) (of : CType) → CharsAreNarrow → ShortsAreNarrow → (m : Low) → locals ≤ length m.slots → (a b : Typed) → HasIn (node_count m.entries) a → HasIn (node_count m.entries) b → (p v : Value) (start : ℕ → Outcome) (turns : ℕ) (f : Front s.body.pieces m.pieces m.entries) (map : Map) (old : c.World) (values : ℕ → Word) (w : World) (k : ℕ)
    → Standing s start turns m f map old values w k → (purpose : Purpose) → IsOpenTo purpose map w.objects p → Holds (seen s.body map values w) a p → IsSettled (keeps_at s.body m.pieces m.entries f) (seen s.body map values w) a.tree → HasValue s b map values w v → (new : List Old) → place.assigned purpose tags of (c.objects old) v p ≡ Ok new
    → (waiting : Typed) (u : Value) → HasIn (node_count m.entries) waiting → HasValue s waiting map values w u
    → (h : Front s.body.pieces (copied tags of a b m).pieces (copied tags of a b m).entries) → Came s start turns m (copied tags of a b m) h waiting map old values w (Some u) (c.with_objects old new) k
copied_came s locals body tags of chars shorts m le a b in_a in_b p v start turns f map old values w k st purpose opens ha set_a hb new is waiting u in_u hu h =
    let n = node_count m.entries in
    let size = size_of tags of in
    let align = align_of tags of in
    let keeps = keeps_at s.body m.pieces m.entries f in
    let now = copies s locals body size align (types_are_aligned tags of) m le f st.slots map old values w st.stands.matches st.stands.frame a b p v ha set_a hb purpose opens new is in
    stored_came s locals body chars shorts start turns m le f map old values w k st u (copy_root size align a b) refl (c.with_objects old new) (as_p_in n a.suffix a.tree in_a) (as_p_in n b.suffix b.tree in_b) now.1.0 now.1.1
    (λ others world near matches frame.
    let y = near_holds keeps s.body map n values others w world near a p in_a set_a ha in
    (copies s locals body size align (types_are_aligned tags of) m le f st.slots map old others world matches frame a b p v y.0 y.1
    (value_stays s map map (grown_refl map) values others w world near.alike n near.kept b v in_b hb) purpose (open_stays purpose map map w.objects world.objects p ha.word ha.is (grown_refl map) near.alike opens) new is).0)
    waiting in_u hu h

abbrev fine : Value → Checked Value Cause
fine v = Ok v

fine_same : (v u : Value) → fine v ≡ fine u → v ≡ u
fine_same v u e = cc

module _ (s : Scene) (locals : ℕ) (body : IsBody s locals) (chars : CharsAreNarrow) (shorts : ShortsAreNarrow) (of : CType) where
  slots_on : {n i j : ℕ} → n ≤ i → i ≤ j → n ≤ j
  slots_on p q = omega (arith, p, q)

  pub wholes_are_copied : (from_line line : ℕ) → GoesTwo s locals body (λ a b l. placed a (copied s.unit.tags of a b l))
      (λ p v k old. if_fine (place.source s.unit.tags of (c.objects old) v) from_line old (λ z. stores (place.assigned Assignment s.unit.tags of (c.objects old) z p) p line k old))
  wholes_are_copied from_line line m le a b in_a in_b p v start turns f h map old values w k slots st sound sp sv ha hb =
      let size = size_of s.unit.tags of in
      let align = align_of s.unit.tags of in
      let r = copy_root size align a b in
      let m1 = acted r m in
      let x1 = acted_extends r m in
      let x2 = placed_extends a m1 in
      let out = placed a m1 in
      let h1 = front_back s.body.pieces m1 out.low x2 h in
      fine_came (place.source s.unit.tags of (c.objects old) v) s start turns m out.low h out.value map old values w from_line old (λ z. stores (place.assigned Assignment s.unit.tags of (c.objects old) z p) p line k old)
      (λ z is.
      let source = if_none_is (read_cause (c.objects old) v size align) (Ok v) z is in
      let same = fine_same v z source.1 in
      fine_came (place.assigned Assignment s.unit.tags of (c.objects old) z p) s start turns m out.low h out.value map old values w line old (λ os. Gives p k (c.with_objects old os))
      (λ new is2.
      let copied_is = subst (λ (y : Value). place.assigned Assignment s.unit.tags of (c.objects old) y p ≡ Ok new) (sym same) is2 in
      let set_a = lasting_settled s locals body m f st.slots (length m.slots) (omega arith) map values w a p ha in
      let one = copied_came s locals body s.unit.tags of chars shorts m le a b in_a in_b p v start turns f map old values w k st Assignment tt ha.holds set_a hb new copied_is b v in_b hb h1 in
      let la = lasts s locals body chars shorts start turns m m1 x1 f h1 b map old values w k st (Some v) (c.with_objects old new) k one a p in_a ha in
      let two = placed_came s locals body chars shorts start turns m1 (slots_on le (extends_slots m m1 x1)) h1 one.later (c.with_objects old new) one.others one.world k one.stands p a (in_later s locals body chars shorts m m1 x1 a in_a)
      (lasting_settled s locals body m1 h1 one.stands.slots (length m1.slots) (omega arith) one.later one.others one.world a p la) la.holds h in
      both s locals body chars shorts start turns m m1 out.low x1 x2 h1 h b out.value map old values w (Some v) (c.with_objects old new) k one (Gives p k (c.with_objects old new)) two))
