-- What a way of a conditional comes to is kept in a slot, and read behind both ways.
use Rattle.std.specs.Prelude.{◌≡◌, ◌≤◌, ◌<◌, ℕ, ◌^◌, ℤ, true, Option, None, List, length}
use Rattle.std.proofs.Common.{refl, sym, subst, arith}
use Rattle.objects.specs.declared.value.Value.{Value}
use Rattle.objects.specs.declared.value.Value.TheVariants.{Number}
use Rattle.op_forest.specs.declared.suffix.Suffix.TheVariants.{I, P}
use Rattle.forests.specs.Words.{Word, Plain, IsWord}
use Rattle.forests.specs.Worlds.{World, Outcome}
use Rattle.dag_forest.specs.Meaning.{Keeps}
use Rattle.dag_forest.specs.Tally.{node_count}
use Rattle.c_runs.specs.Worlds as c
use Rattle.c_match.specs.Ranges.{Map}
use Rattle.c_match.proofs.lemmas.Growing.{grown_refl}
use Rattle.c_rows_agree.specs.Integers.{number, as_pointer}
use Rattle.c_rows_agree.specs.Templates as template
use Rattle.c_rows_agree.specs.Typed.{Typed, as_i}
use Rattle.c_rows_agree.proofs.lemmas.Suffixes.{i_constant, i_gives, p_gives}
use Rattle.piece_runs.specs.Pieces.{Piece, Front}
use Rattle.piece_runs.specs.Reaches.{keeps_at}
use Rattle.c_expr_agreement.specs.Scenes.{Scene, InFrame}
use Rattle.lowered_forms.specs.Conditionals.{Sort, Nothing, Word as ASort, Place, kept_in, sort_read}
use Rattle.lowered_forms.specs.Later.{IsFront}
use Rattle.lowered_forms.specs.Lows.{Low}
use Rattle.lowered_forms.specs.Values.{Lowered, placed, slot_read, stored_in}
use Rattle.lowered_forms.proofs.lemmas.Stepping.{stored_steps}
use Rattle.lowered_forms.proofs.lemmas.WithinTemplates.{HasIn, as_i_in, as_p_in}
use Rattle.c_straight_agree.specs.Agreement.{HasResult, Came}
use Rattle.c_straight_agree.specs.Finals.{Final}
use Rattle.c_straight_agree.specs.Layouts.{FrameLayout, IsLaidOut}
use Rattle.c_straight_agree.specs.Narrow.{CharsAreNarrow, ShortsAreNarrow}
use Rattle.c_straight_agree.specs.Settled.{seen, IsSettled}
use Rattle.c_straight_agree.specs.Standing.{IsBody, Standing}
use Rattle.c_straight_agree.proofs.lemmas.At.{at_of, at_front, standing_of}
use Rattle.c_straight_agree.proofs.lemmas.Coming.{word_settled}
use Rattle.c_straight_agree.proofs.lemmas.Finals.{back, back_steps}
use Rattle.c_straight_agree.proofs.lemmas.SettledTemplates.{as_i_set, as_p_set}
use Rattle.c_slots_agree.specs.Slots.{IsSlotAt, SlotHolds}
use Rattle.c_tests_agree.proofs.lemmas.Joining.{Between}
use Rattle.c_choices_agree.proofs.lemmas.Finishing.{StandsFor, stands_later, word_of, word_came}
use Rattle.c_choices_agree.proofs.lemmas.Passing.{between_itself, between_stored}
use Rattle.c_choices_agree.proofs.lemmas.Slots.{SlotLaws}

-- ---- what is kept

-- nothing, where there is no value; else a slot holds a word that stands for it, if C gives it
abbrev pub InSlot : Scene → ℕ → Map → World → Option Value → Type 0
InSlot s i map w v = (u : Word) × (IsWord u × (SlotHolds s i u w × StandsFor map v u))

abbrev pub IsKept : Scene → ℕ → Sort → Map → World → Option Value → Type 0
IsKept s i Nothing map w v = v ≡ None
IsKept s i ASort map w v = InSlot s i map w v
IsKept s i Place map w v = InSlot s i map w v

-- before it is kept
abbrev pub kept_final : (all : List Piece) (sort : Sort) (z : ℤ) (r : Lowered) → Final all (kept_in sort z r) → Final all r.low
kept_final all Nothing z r g = g
kept_final all ASort z r g = stored_steps (back all) (back_steps all) z (record { tree = as_i r.value; suffix = I }) r.low g
kept_final all Place z r g = stored_steps (back all) (back_steps all) z (as_pointer r.value) r.low g

pub kept_slots : (sort : Sort) (z : ℤ) (r : Lowered) → (kept_in sort z r).slots ≡ r.low.slots
kept_slots Nothing z r = refl
kept_slots ASort z r = refl
kept_slots Place z r = refl

pub kept_pieces : (sort : Sort) (z : ℤ) (r : Lowered) → (kept_in sort z r).pieces ≡ r.low.pieces
kept_pieces Nothing z r = refl
kept_pieces ASort z r = refl
kept_pieces Place z r = refl

-- The run stands where it is kept. Nothing of C has changed.
pub record KeptBehind (s : Scene) (i : ℕ) (start : ℕ → Outcome) (turns : ℕ) (m : Low) (q : Front s.body.pieces m.pieces m.entries) (map : Map) (old : c.World) (first : World) (k : ℕ) (Is : World → Type 0) : Type 0 where
  pub others : ℕ → Word
  pub world : World
  pub stands : Standing s start turns m q map old others world k
  pub between : Between s i map old first map old world
  pub is : Is world

module _ (chars : CharsAreNarrow) (shorts : ShortsAreNarrow) (laws : SlotLaws) (s : Scene) (locals : ℕ) (body : IsBody s locals) (y : FrameLayout) (laid : IsLaidOut s y) (i : ℕ) (z : ℤ) (at : IsSlotAt s i z) (le : locals ≤ i) (start : ℕ → Outcome) (turns : ℕ) where
  abbrev all : List Piece
  all = s.body.pieces

  -- ---- it is stored

  module _ (map : Map) (old : c.World) (values : ℕ → Word) (w : World) (k : ℕ) (v : Option Value) where
    stored_kept : (m : Low) (g : Front all m.pieces m.entries) → Standing s start turns m g map old values w k → i < length m.slots → (a : Typed) (u : Word) → HasIn (node_count m.entries) a → IsSettled (keeps_at s.body m.pieces m.entries g) (seen s.body map values w) a.tree
        → template.Gives (seen s.body map values w) a.tree u → IsWord u → StandsFor map v u → (q : Front all (stored_in z a m).pieces (stored_in z a m).entries) → KeptBehind s i start turns (stored_in z a m) q map old w k (λ x. InSlot s i map x v)
    stored_kept m g st less a u within settled gives word stands q =
        let one = laws.stored s locals body laid.frame start turns m g map old values w k st i z at le less a u within settled gives q in
        record { others = one.others; world = one.world; stands = one.stands; between = between_stored s start turns i u m (stored_in z a m) q map old values w k one; is = (u, (word, (one.holds, stands))) }

    pub kept_comes : (sort : Sort) (r : Lowered) (g : Final all (kept_in sort z r)) → Standing s start turns r.low (kept_final all sort z r g).front map old values w k → i < length r.low.slots → HasIn (node_count r.low.entries) r.value → HasResult s r.value map values w v → (sort ≡ Nothing → v ≡ None)
        → KeptBehind s i start turns (kept_in sort z r) g.front map old w k (λ x. IsKept s i sort map x v)
    kept_comes Nothing r g st less within has none = record { others = values; world = w; stands = st; between = between_itself s i map old w; is = none refl }
    kept_comes ASort r g st less within has none =
        let f = (kept_final all ASort z r g).front in
        let h = word_of s r.value map values w v has in
        let keeps = keeps_at s.body r.low.pieces r.low.entries f in
        let here = seen s.body map values w in
        stored_kept r.low f st less (record { tree = as_i r.value; suffix = I }) h.0.word (as_i_in (node_count r.low.entries) r.value.suffix r.value.tree within) (as_i_set keeps here r.value.suffix r.value.tree (word_settled keeps s r.value map values w h.0))
        (i_gives here r.value.suffix r.value.tree h.0.word h.0.gives) h.0.is h.1 g.front
    kept_comes Place r g st less within has none =
        let f = (kept_final all Place z r g).front in
        let h = word_of s r.value map values w v has in
        let keeps = keeps_at s.body r.low.pieces r.low.entries f in
        let here = seen s.body map values w in
        stored_kept r.low f st less (as_pointer r.value) h.0.word (as_p_in (node_count r.low.entries) r.value.suffix r.value.tree within) (as_p_set keeps here r.value.suffix r.value.tree (word_settled keeps s r.value map values w h.0))
        (p_gives here r.value.suffix r.value.tree h.0.word h.0.gives) h.0.is h.1 g.front

  -- ---- it stays

  slot_stays : (more : ℕ) → i < more → (map : Map) (old : c.World) (w : World) (later : Map) (new : c.World) (world : World) → InFrame s.frame map old w → Between s more map old w later new world → (v : Option Value) → InSlot s i map w v → InSlot s i later world v
  slot_stays more less map old w later new world frame between v h = (h.0, (h.1.0, (laws.stay s locals body i more z at le less map old w world frame between.alike between.left h.0 h.1.1.0, stands_later map later v h.0 between.grown h.1.1.1)))

  pub kept_stays : (sort : Sort) (more : ℕ) → i < more → (map : Map) (old : c.World) (w : World) (later : Map) (new : c.World) (world : World) → InFrame s.frame map old w → Between s more map old w later new world → (v : Option Value) → IsKept s i sort map w v → IsKept s i sort later world v
  kept_stays Nothing more less map old w later new world frame between v h = h
  kept_stays ASort more less map old w later new world frame between v h = slot_stays more less map old w later new world frame between v h
  kept_stays Place more less map old w later new world frame between v h = slot_stays more less map old w later new world frame between v h

  -- ---- it is read

  module _ (m : Low) (less : i < length m.slots) (f : Front all m.pieces m.entries) (behind : IsFront m.slots f.before) (map : Map) (old : c.World) (values : ℕ → Word) (w : World) (k : ℕ) (st : Standing s start turns m f map old values w k) (v : Option Value) where
    abbrev keeps : Keeps
    keeps = keeps_at s.body m.pieces m.entries f

    le_slots : locals ≤ length m.slots
    le_slots = omega (arith, le, less)

    no_value : v ≡ None → (h : Front all m.pieces m.entries) → Came s start turns m m h (number true 0) map old values w v old k
    no_value none h =
        record {
          later = map;
          grown = grown_refl map;
          others = values;
          world = w;
          stands = standing_of s start turns m h map old values w k keeps (at_front s start turns m.pieces m.slots keeps k map old m.entries f h values w (at_of s start turns m f map old values w k st)) st.ready;
          alike = refl;
          left = λ place lt private none. refl;
          private = λ place lt private. private;
          kept = λ g n lt. refl;
          has = subst (λ (o : Option Value). HasResult s (number true 0) map values w o) (sym none) (record { word = Plain (Number 0); gives = i_constant (seen s.body map values w) 0 small; is = small; waits = tt });
        }
      where
        small : 0 < 2 ^ 32
        small = omega arith

    pub kept_read : (sort : Sort) → IsKept s i sort map w v → (h : Front all (placed (sort_read sort z) m).low.pieces (placed (sort_read sort z) m).low.entries) → Came s start turns m (placed (sort_read sort z) m).low h (placed (sort_read sort z) m).value map old values w v old k
    kept_read Nothing kept h = no_value kept h
    kept_read ASort kept h =
        let r = laws.reads s locals body laid.frame i z at m f behind less map values w kept.0 kept.1.1.0 I in
        word_came chars shorts s locals body start turns m le_slots f map old values w k st I (slot_read I z).tree tt r.1 kept.0 r.0 kept.1.0 v kept.1.1.1 h
    kept_read Place kept h =
        let r = laws.reads s locals body laid.frame i z at m f behind less map values w kept.0 kept.1.1.0 P in
        word_came chars shorts s locals body start turns m le_slots f map old values w k st P (slot_read P z).tree tt r.1 kept.0 r.0 kept.1.0 v kept.1.1.1 h

-- what is read is in the block behind
pub read_pieces : (sort : Sort) (z : ℤ) (m : Low) → (placed (sort_read sort z) m).low.pieces ≡ m.pieces
read_pieces Nothing z m = refl
read_pieces ASort z m = refl
read_pieces Place z m = refl
