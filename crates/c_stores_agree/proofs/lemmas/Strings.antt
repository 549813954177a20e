-- The text's bytes copied to a place in a local, as roots of a body.
use Rattle.std.specs.Prelude.{◌≡◌, ◌≤◌, ◌<◌, ℕ, ◌+◌, pos, nat_lt, Option, Some, None, List, [], ◌∷◌, ◌++◌, length, flat_map, slice_get, take}
use Rattle.std.proofs.Common.{refl, sym, ap, subst, ◌∙◌, arith}
use Rattle.std.proofs.lemmas.Option.{slice_get_within}
use Rattle.lcc_base.specs.declared.cause.Cause.TheVariants.{Outside, Misaligned, Dead}
use Rattle.objects.specs.declared.byte.Byte.{Byte}
use Rattle.objects.specs.declared.purpose.Purpose.TheVariants.{Initialisation}
use Rattle.objects.specs.declared.value.ObjectName.{ObjectName}
use Rattle.objects.specs.declared.value.Value.{Value}
use Rattle.objects.specs.declared.value.Value.TheVariants.{Pointer}
use Rattle.objects.specs.Accesses.{read_cause, write_cause, stored_through}
use Rattle.objects.specs.Bytes.{known_bytes}
use Rattle.objects.specs.Causes.{is_outside, is_misaligned, is_dead}
use Rattle.objects.specs.Objects.{Object as Old}
use Rattle.forests.specs.Accesses.{block_copied}
use Rattle.forests.specs.Actions.{changed}
use Rattle.forests.specs.Words.{Word, Plain}
use Rattle.forests.specs.Worlds.{World, Outcome}
use Rattle.dag_forest.specs.Tally.{node_count}
use Rattle.c_meaning.specs.Filling.{characters}
use Rattle.c_meaning.specs.Numbers.{IsText}
use Rattle.c_runs.specs.Places.{static_place, place_of_text}
use Rattle.c_runs.specs.Worlds as c
use Rattle.c_match.specs.Held.{IsOpenTo}
use Rattle.c_match.specs.Ranges.{Range, Map}
use Rattle.c_match.specs.Values.{IsValue}
use Rattle.c_match.proofs.lemmas.Growing.{grown_refl}
use Rattle.c_match_objects.proofs.lemmas.Reached.{not_before, three_false}
use Rattle.c_match_worlds.specs.Matches.{Matches, name_in, object_in}
use Rattle.c_match_worlds.specs.Texts.{IsTextAt}
use Rattle.c_pointers_agree.specs.Pointers.{name}
use Rattle.c_pointers_agree.proofs.lemmas.OwnObjects.{own_text_lives}
use Rattle.c_rows_agree.specs.Places.{IsStored}
use Rattle.c_rows_agree.specs.Templates as template
use Rattle.c_rows_agree.specs.Typed.{Typed, Holds}
use Rattle.c_rows_agree.proofs.lemmas.Suffixes.{p_gives}
use Rattle.piece_runs.specs.Pieces.{Front}
use Rattle.piece_runs.specs.Reaches.{keeps_at}
use Rattle.c_expr_agreement.specs.Scenes.{Scene, InFrame}
use Rattle.lowered_forms.specs.Accesses.{copy_root}
use Rattle.lowered_forms.specs.Contexts.{text_name}
use Rattle.lowered_forms.specs.Later.{IsFront}
use Rattle.lowered_forms.specs.Lows.{Low, acted}
use Rattle.lowered_forms.proofs.lemmas.WithinTemplates.{HasIn, as_p_in}
use Rattle.c_straight_agree.specs.Agreement.{HasValue, Came}
use Rattle.c_straight_agree.specs.Layouts.{FrameLayout, IsLaidOut}
use Rattle.c_straight_agree.specs.Narrow.{CharsAreNarrow, ShortsAreNarrow}
use Rattle.c_straight_agree.specs.Settled.{seen, IsSettled}
use Rattle.c_straight_agree.specs.Standing.{IsBody, Standing, IsSoundIn}
use Rattle.c_straight_agree.specs.Stores.{IsStoring}
use Rattle.c_straight_agree.proofs.lemmas.Coming.{operand_settled, value_stays}
use Rattle.c_straight_agree.proofs.lemmas.Leaves.{text_has}
use Rattle.c_straight_agree.proofs.lemmas.Near.{near_holds}
use Rattle.c_straight_agree.proofs.lemmas.Opens.{open_stays}
use Rattle.c_straight_agree.proofs.lemmas.Placing.{stored_came}
use Rattle.c_straight_agree.proofs.lemmas.Putting.{each_at}
use Rattle.c_straight_agree.proofs.lemmas.Reading.{reads_apart}
use Rattle.c_straight_agree.proofs.lemmas.SettledTemplates.{copy_left_set, copy_right_set}
use Rattle.c_straight_agree.proofs.lemmas.Storing.{store_is_kept}
use Rattle.c_stores_agree.proofs.lemmas.Copies.{IsLocked, IsCopied, known_bytes_go}
use Rattle.c_stores_agree.proofs.lemmas.Texts.{characters_small, length_characters, text_known}

whole_range : (map : Map) (place : ℕ) (r s : Range) → map place ≡ Some r → map place ≡ Some s → r ≡ s
whole_range map place r s e f = cc

module _ (s : Scene) (locals : ℕ) (body : IsBody s locals) (k : ℕ) (bytes : List ℕ) (is : slice_get s.unit.texts k ≡ Some bytes) (text : IsTextAt s.lowered (length s.unit.objects + k) bytes) (own : length s.unit.objects + k < s.own) where
  abbrev place : ℕ
  place = length s.unit.objects + k

  -- C's pointer to the text, its name's operand, and the object of forests
  abbrev pub text_place : Value
  text_place = static_place place (length bytes + 1)

  abbrev pub text_operand : Typed
  text_operand = name (text_name s.unit k) (pos 0)

  abbrev text_object : ObjectName
  text_object = name_in s.lowered place

  pub is_text_place : place_of_text s.unit k (slice_get s.unit.texts k) ≡ Some text_place
  is_text_place = ap (λ (o : Option (List ℕ)). place_of_text s.unit k o) is

  text_word : (map : Map) (old : c.World) (w : World) → Matches s.lowered s.own map old w → (u : Word) → IsValue map text_place u → u ≡ Plain (Pointer text_object 0)
  text_word map old w matches u v =
      let same : v.0 ≡ record { object = text_object; start = 0 } = whole_range map place v.0 (record { object = text_object; start = 0 }) v.1 (matches.whole place own) in
      v.2 ∙ ap (λ (r : Range). Plain (Pointer r.object (r.start + 0))) same

  -- ---- so many bytes of it

  module _ (n : ℕ) (fits : n ≤ length bytes + 1) where
    abbrev some : List ℕ
    some = characters n bytes

    text_locked : (map : Map) (old : c.World) (w : World) → Matches s.lowered s.own map old w → IsLocked w.objects text_object n some
    text_locked map old w matches = record {
      home = object_in s.lowered place text.object;
      lives = matches.constants place text.object own text.there text.constant;
      constant = text.constant;
      long = length_characters n bytes;
      begins = ap (λ (bs : List (Byte Word)). take n bs) text.holds ∙ text_known n bytes fits;
      small = characters_small n bytes (each_at IsText s.unit.texts k bytes body.tame.texts is);
    }

    -- C may read them
    pub text_reads : (old : c.World) → IsSoundIn s old → read_cause (c.objects old) text_place n 1 ≡ None
    text_reads old sound =
        let lives = own_text_lives s.unit old k text_place sound.sound is_text_place in
        three_false (is_outside n text_place) (is_misaligned 1 text_place) (is_dead (c.objects old) text_place) Outside Misaligned Dead (not_before (length bytes + 1) (0 + n) (omega (arith, fits))) refl lives.0

    abbrev with_text : List Old → Value → List Old
    with_text os p = stored_through os p (known_bytes some)

    module _ (m : Low) (le : locals ≤ length m.slots) (f : Front s.body.pieces m.pieces m.entries) (behind : IsFront m.slots f.before) (map : Map) (old : c.World) (values : ℕ → Word) (w : World) (matches : Matches s.lowered s.own map old w) (frame : InFrame s.frame map old w) (readable : read_cause (c.objects old) text_place n 1 ≡ None)
        (a : Typed) (p : Value) (h : Holds (seen s.body map values w) a p) (set : IsSettled (keeps_at s.body m.pieces m.entries f) (seen s.body map values w) a.tree) (g : HasValue s text_operand map values w text_place) (opens : IsOpenTo Initialisation map w.objects p) (writable : write_cause Initialisation (c.objects old) p n 1 ≡ None) where
      abbrev here : template.Scene
      here = seen s.body map values w

      abbrev b : Typed
      b = text_operand

      abbrev new : List Old
      new = with_text (c.objects old) p

      word_is : g.holds.word ≡ Plain (Pointer text_object 0)
      word_is = text_word map old w matches g.holds.word g.holds.is

      goes : IsCopied map (c.objects old) new w.objects n (Plain (Pointer text_object 0)) h.word
      goes = known_bytes_go map (c.objects old) w.objects matches.held text_object n some (text_locked map old w matches) text_place p h.word (subst (λ (u : Word). IsValue map text_place u) word_is g.holds.is) h.is opens readable writable

      text_stored : IsStored here (c.objects old) new (copy_root n 1 a b)
      text_stored = record {
        after = goes.after;
        acts = record {
          first = h.word;
          second = g.holds.word;
          left = p_gives here a.suffix a.tree h.word h.gives;
          right = (g.holds.word, p_gives here b.suffix b.tree g.holds.word g.holds.gives, refl);
          does = ap changed (ap (λ (u : Word). block_copied n 1 w.objects u h.word) word_is ∙ goes.copies);
        };
        kept = goes.kept;
      }

      pub text_copies : IsStoring s (length m.slots) (keeps_at s.body m.pieces m.entries f) map old (c.with_objects old new) values w (copy_root n 1 a b)
          × (IsSettled (keeps_at s.body m.pieces m.entries f) here (copy_root n 1 a b).left × IsSettled (keeps_at s.body m.pieces m.entries f) here (copy_root n 1 a b).right)
      text_copies =
          let keeps = keeps_at s.body m.pieces m.entries f in
          let left = copy_left_set keeps here n 1 a b set in
          let right = copy_right_set keeps here n 1 a b (operand_settled keeps s b map values w text_place g) (reads_apart s locals body m le f behind map old values w matches frame b text_place n 1 g.holds readable) in
          (store_is_kept s locals body m le f behind map old values w matches frame new (copy_root n 1 a b) left right text_stored, (left, right))

    -- ---- the root is done

    module _ (chars : CharsAreNarrow) (shorts : ShortsAreNarrow) (y : FrameLayout) (laid : IsLaidOut s y) (m : Low) (le : locals ≤ length m.slots) (a : Typed) (in_a : HasIn (node_count m.entries) a) (p : Value) (start : ℕ → Outcome) (turns : ℕ) (f : Front s.body.pieces m.pieces m.entries) (map : Map) (old : c.World) (values : ℕ → Word) (w : World) (j : ℕ)
        (st : Standing s start turns m f map old values w j) (sound : IsSoundIn s old) (opens : IsOpenTo Initialisation map w.objects p) (ha : Holds (seen s.body map values w) a p) (set_a : IsSettled (keeps_at s.body m.pieces m.entries f) (seen s.body map values w) a.tree) (writable : write_cause Initialisation (c.objects old) p n 1 ≡ None)
        (h : Front s.body.pieces (acted (copy_root n 1 a text_operand) m).pieces (acted (copy_root n 1 a text_operand) m).entries) where
      pub text_came : Came s start turns m (acted (copy_root n 1 a text_operand) m) h text_operand map old values w (Some text_place) (c.with_objects old (with_text (c.objects old) p)) j
      text_came =
          let i = node_count m.entries in
          let keeps = keeps_at s.body m.pieces m.entries f in
          let r = copy_root n 1 a text_operand in
          let new = with_text (c.objects old) p in
          let readable = text_reads old sound in
          let hb = text_has s locals body y laid start turns m f map old values w j st sound k text_place is_text_place in
          let now = text_copies m le f st.slots map old values w st.stands.matches st.stands.frame readable a p ha set_a hb opens writable in
          stored_came s locals body chars shorts start turns m le f map old values w j st text_place r refl (c.with_objects old new) (as_p_in i a.suffix a.tree in_a) tt now.1.0 now.1.1
          (λ others world near matches frame.
          let z = near_holds keeps s.body map i values others w world near a p in_a set_a ha in
          (text_copies m le f st.slots map old others world matches frame readable a p z.0 z.1 (value_stays s map map (grown_refl map) values others w world near.alike i near.kept text_operand text_place tt hb) (open_stays Initialisation map map w.objects world.objects p ha.word ha.is (grown_refl map) near.alike opens) writable).0)
          text_operand tt hb h
