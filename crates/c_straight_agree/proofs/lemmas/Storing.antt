-- Scalars and bit-fields that C writes are written.
use Rattle.std.specs.Prelude.{◌≡◌, ◌≤◌, ℕ, ◌&&◌, Bool, true, false, Some, None, Ok, List, [], ◌∷◌, length, if◌then◌else◌}
use Rattle.std.proofs.Common.{refl, subst}
use Rattle.lcc_base.specs.declared.cause.Cause.TheVariants.{PointerNumber}
use Rattle.lcc_base.specs.declared.order.Order.{Order}
use Rattle.objects.specs.declared.purpose.Purpose.{Purpose}
use Rattle.objects.specs.declared.value.Value.{Value}
use Rattle.objects.specs.declared.width.Width.{Width}
use Rattle.objects.specs.declared.width.Width.TheVariants as width
use Rattle.objects.specs.Accesses.{write_cause, written, field_written}
use Rattle.objects.proofs.lemmas.AccessLaws.{unless_none}
use Rattle.objects.specs.Causes.{first_cause, is_no_number, is_narrowed}
use Rattle.objects.specs.Objects.{Object as Old}
use Rattle.objects.specs.Values.{bytes_in}
use Rattle.op_forest.specs.declared.op.Op.TheVariants as op
use Rattle.op_forest.specs.declared.suffix.Suffix.{Suffix}
use Rattle.op_forest.specs.declared.suffix.Suffix.TheVariants.{C, S, I, U, P, B, V}
use Rattle.forests.specs.Sound.{AreSoundObjects}
use Rattle.forests.specs.SoundRows.{IsSoundAction}
use Rattle.forests.proofs.lemmas.SoundRows.{acts_sound}
use Rattle.forests.specs.Words.{Word}
use Rattle.forests.specs.Worlds.{World, Outcome}
use Rattle.dag_forest.specs.Meaning.{Keeps}
use Rattle.dag_forest.specs.Tally.{node_count}
use Rattle.c_meaning.specs.Scalars.{scalar_of}
use Rattle.c_runs.specs.Places.{Spot, is_field, field_of}
use Rattle.c_runs.specs.Places as place
use Rattle.c_runs.specs.Worlds as c
use Rattle.c_match.specs.Held.{IsOpenTo}
use Rattle.c_match.specs.Ranges.{Map}
use Rattle.c_match.proofs.lemmas.Growing.{grown_refl}
use Rattle.c_match_worlds.specs.Matches.{Matches}
use Rattle.c_match_worlds.proofs.lemmas.Keeping.{store_keeps}
use Rattle.c_rows_agree.specs.Places.{HoldsObjects, IsStored, word_stored, stored_by}
use Rattle.c_rows_agree.specs.Templates.{Root}
use Rattle.c_rows_agree.specs.Templates as template
use Rattle.c_rows_agree.specs.Typed.{Typed, Holds, as_p}
use Rattle.c_rows_agree.proofs.lemmas.Fields.{field_stored_holds}
use Rattle.c_rows_agree.proofs.lemmas.Scalars.{scalar_stored}
use Rattle.piece_runs.specs.Pieces.{Front}
use Rattle.piece_runs.specs.Reaches.{keeps_at}
use Rattle.c_expr_agreement.specs.Scenes.{Scene, InFrame}
use Rattle.lowered_forms.specs.Accesses.{written_by}
use Rattle.lowered_forms.specs.Accesses as low
use Rattle.lowered_forms.specs.Later.{IsFront}
use Rattle.lowered_forms.specs.Lows.{Low}
use Rattle.lowered_forms.proofs.lemmas.WithinTemplates.{HasIn, written_left, written_right}
use Rattle.c_straight_agree.specs.Agreement.{HasValue, Came}
use Rattle.c_straight_agree.specs.Narrow.{CharsAreNarrow, ShortsAreNarrow}
use Rattle.c_straight_agree.specs.Settled.{seen, IsSettled}
use Rattle.c_straight_agree.specs.Standing.{IsBody, Standing}
use Rattle.c_straight_agree.specs.Stores.{IsStoring}
use Rattle.c_straight_agree.proofs.lemmas.Coming.{operand_settled, value_stays}
use Rattle.c_straight_agree.proofs.lemmas.Near.{gives_word, near_holds}
use Rattle.c_straight_agree.proofs.lemmas.Opens.{open_stays}
use Rattle.c_straight_agree.proofs.lemmas.Placing.{stored_came}
use Rattle.c_straight_agree.proofs.lemmas.Reading.{if_none_is, written_is_read, kept_is_private, reads_apart, IsInUnit, width_some}
use Rattle.c_straight_agree.proofs.lemmas.SettledTemplates.{ReadsApart, written_left_set, written_right_set}

-- ---- a store of C's

module _ (s : Scene) (locals : ℕ) (body : IsBody s locals) (m : Low) (le : locals ≤ length m.slots) (f : Front s.body.pieces m.pieces m.entries) (behind : IsFront m.slots f.before) (map : Map) (old : c.World) (values : ℕ → Word) (w : World) (matches : Matches s.lowered s.own map old w) (frame : InFrame s.frame map old w) where
  abbrev keeps : Keeps
  keeps = keeps_at s.body m.pieces m.entries f

  -- keeps worlds matching
  pub store_is_kept : (new : List Old) (r : Root) → IsSettled keeps (seen s.body map values w) r.left → IsSettled keeps (seen s.body map values w) r.right → IsStored (seen s.body map values w) (c.objects old) new r
      → IsStoring s (length m.slots) keeps map old (c.with_objects old new) values w r
  store_is_kept new r left right stored =
      let k1 = seen s.body map values w in
      let os = matches.sound.objects in
      let first = gives_word k1 keeps os body.words r.left stored.acts.first left stored.acts.left in
      let second = gives_word k1 keeps os body.words r.right stored.acts.second right stored.acts.right in
      let sound : AreSoundObjects stored.after = subst IsSoundAction stored.acts.does (acts_sound s.body.setting.environment r.head w.objects body.words os (stored.acts.first ∷ stored.acts.second ∷ []) (first, (second, tt))) in
      record {
        after = stored.after;
        acts = stored.acts;
        matches = store_keeps s.lowered s.own map old w new stored.after matches stored.kept sound;
        locals = refl;
        left = λ place lt private none. stored.kept.left place lt private;
        private = stored.kept.private;
        kept = λ n t is. let p = kept_is_private s locals body m le f behind map old values w matches frame n t is in stored.kept.left t.object p.0 p.1;
      }

  -- ---- scalars and bit-fields

  module _ (x : Spot) (unit : IsInUnit x) (shared : Bool) (a b : Typed) (p v : Value) (purpose : Purpose) (opens : IsOpenTo purpose map w.objects p) (h : Holds (seen s.body map values w) a p) (set : IsSettled keeps (seen s.body map values w) a.tree) (g : HasValue s b map values w v) (new : List Old) where
    abbrev here : template.Scene
    here = seen s.body map values w

    abbrev here_held : HoldsObjects here (c.objects old)
    here_held = record { held = matches.held; sound = matches.sound.objects }

    abbrev order : Order
    order = s.body.setting.environment.order

    apart_so : (size : ℕ) → write_cause purpose (c.objects old) p size size ≡ None → ReadsApart keeps here a
    apart_so size none = reads_apart s locals body m le f behind map old values w matches frame a p size size h (written_is_read purpose (c.objects old) p size size none)

    written_so : (t : Bool) → is_field x ≡ t → (if t then field_written purpose order (field_of x) v (c.objects old) p else written purpose order (scalar_of x.of).width v (c.objects old) p) ≡ Ok new
        → IsStored here (c.objects old) new (written_by t shared order x a b) × ReadsApart keeps here a
    written_so true is e = (
      field_stored_holds here (c.objects old) new purpose (field_of x) (shared && (field_of x).signed) a b p v here_held opens (width_some x.width is) unit h g.holds e,
      apart_so 4 (unless_none (write_cause purpose (c.objects old) p 4 4) _ new (if_none_is (first_cause ((is_no_number v, PointerNumber) ∷ [])) _ new e).1),
    )
    written_so false is e =
        let size = bytes_in (scalar_of x.of).width in (
          scalar_stored here (c.objects old) new purpose (scalar_of x.of).width a b p v here_held opens h g.holds e,
          apart_so size (unless_none (write_cause purpose (c.objects old) p size size) _ new (if_none_is (first_cause ((is_narrowed (scalar_of x.of).width v, PointerNumber) ∷ [])) _ new e).1),
        )

    settled_by : (z : Order) → ReadsApart keeps here a → IsSettled keeps here (written_by (is_field x) shared z x a b).left × IsSettled keeps here (written_by (is_field x) shared z x a b).right
    settled_by z apart =
        let second = operand_settled keeps s b map values w v g in
        (written_left_set keeps here (is_field x) shared z x a b set, written_right_set keeps here (is_field x) shared z x a b set second apart)

    storing_so : place.stored purpose order x v (c.objects old) p ≡ Ok new → IsStoring s (length m.slots) keeps map old (c.with_objects old new) values w (written_by (is_field x) shared order x a b) × ReadsApart keeps here a
    storing_so e =
        let y = written_so (is_field x) refl e in
        let set = settled_by order y.1 in
        (store_is_kept new (written_by (is_field x) shared order x a b) set.0 set.1 y.0, y.1)

    -- the root that writes is settled, and stores
    pub writes : place.stored purpose s.lowered.order x v (c.objects old) p ≡ Ok new
        → IsStoring s (length m.slots) keeps map old (c.with_objects old new) values w (written_by (is_field x) shared s.lowered.order x a b) × (IsSettled keeps here (written_by (is_field x) shared s.lowered.order x a b).left × IsSettled keeps here (written_by (is_field x) shared s.lowered.order x a b).right)
    writes e =
        let y = subst (λ (z : Order). place.stored purpose z x v (c.objects old) p ≡ Ok new → IsStoring s (length m.slots) keeps map old (c.with_objects old new) values w (written_by (is_field x) shared z x a b) × ReadsApart keeps here a) body.order storing_so e in
        (y.0, settled_by s.lowered.order y.1)

pub word_head : (y : Suffix) (a t : template.Template) → (word_stored y a t).head.operator.op ≡ op.Asgn
word_head C a t = refl
word_head S a t = refl
word_head I a t = refl
word_head U a t = refl
word_head P a t = refl
word_head B a t = refl
word_head V a t = refl

stored_head : (t shared : Bool) (z : Order) (x : Spot) (a b : Typed) → (written_by t shared z x a b).head.operator.op ≡ op.Asgn
stored_head true shared z x a b = refl
stored_head false shared z x a b = by_width (scalar_of x.of).width b
  where
    by_width : (n : Width) (y : Typed) → (stored_by n (as_p a) y).head.operator.op ≡ op.Asgn
    by_width width.One y = refl
    by_width width.Two y = refl
    by_width width.Four y = word_head y.suffix (as_p a) y.tree

-- ---- the write, before what waits

module _ (s : Scene) (locals : ℕ) (body : IsBody s locals) (chars : CharsAreNarrow) (shorts : ShortsAreNarrow) where
  pub written_came : (x : Spot) → IsInUnit x → (shared : Bool) (m : Low) → locals ≤ length m.slots → (a b : Typed) → HasIn (node_count m.entries) a → HasIn (node_count m.entries) b → (p v : Value) (start : ℕ → Outcome) (turns : ℕ) (f : Front s.body.pieces m.pieces m.entries) (map : Map) (old : c.World) (values : ℕ → Word) (w : World) (k : ℕ)
      → Standing s start turns m f map old values w k → (purpose : Purpose) → IsOpenTo purpose map w.objects p → Holds (seen s.body map values w) a p → IsSettled (keeps_at s.body m.pieces m.entries f) (seen s.body map values w) a.tree → HasValue s b map values w v → (new : List Old) → place.stored purpose s.lowered.order x v (c.objects old) p ≡ Ok new
      → (waiting : Typed) (u : Value) → HasIn (node_count m.entries) waiting → HasValue s waiting map values w u
      → (h : Front s.body.pieces (low.written shared s.lowered.order x a b m).pieces (low.written shared s.lowered.order x a b m).entries)
      → Came s start turns m (low.written shared s.lowered.order x a b m) h waiting map old values w (Some u) (c.with_objects old new) k
  written_came x unit shared m le a b in_a in_b p v start turns f map old values w k st purpose opens ha set_a hb new is waiting u in_u hu h =
      let n = node_count m.entries in
      let keeps = keeps_at s.body m.pieces m.entries f in
      let r = written_by (is_field x) shared s.lowered.order x a b in
      let now = writes s locals body m le f st.slots map old values w st.stands.matches st.stands.frame x unit shared a b p v purpose opens ha set_a hb new is in
      stored_came s locals body chars shorts start turns m le f map old values w k st u r (stored_head (is_field x) shared s.lowered.order x a b) (c.with_objects old new)
      (written_left n (is_field x) shared s.lowered.order x a b in_a) (written_right n (is_field x) shared s.lowered.order x a b in_a in_b) now.1.0 now.1.1
      (λ others world near matches frame.
      let y = near_holds keeps s.body map n values others w world near a p in_a set_a ha in
      (writes s locals body m le f st.slots map old others world matches frame x unit shared a b p v purpose (open_stays purpose map map w.objects world.objects p ha.word ha.is (grown_refl map) near.alike opens) y.0 y.1
      (value_stays s map map (grown_refl map) values others w world near.alike n near.kept b v in_b hb) new is).0)
      waiting in_u hu h
