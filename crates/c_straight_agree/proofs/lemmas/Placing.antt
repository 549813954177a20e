-- A template that has a value becomes an operand that has it; and a root that stores acts.
use Rattle.std.specs.Prelude.{◌≡◌, ◌≤◌, ℕ, ◌+◌, Some, List, length}
use Rattle.std.proofs.Common.{refl, ap, arith}
use Rattle.std.proofs.lemmas.Option.{slice_get_within}
use Rattle.objects.specs.declared.value.Value.{Value}
use Rattle.op_forest.specs.declared.frame.Slot.{Slot}
use Rattle.op_forest.specs.declared.op.Op.TheVariants as op
use Rattle.op_forest.specs.declared.suffix.Suffix.{Suffix}
use Rattle.forests.specs.Words.{Word}
use Rattle.forests.specs.Worlds.{World, Outcome}
use Rattle.dag_forest.specs.declared.entry.Entry.{Entry}
use Rattle.dag_forest.specs.Meaning.{Keeps, Temporary}
use Rattle.dag_forest.specs.Tally.{node_count}
use Rattle.c_runs.specs.Worlds as c
use Rattle.c_match.specs.Ranges.{Map}
use Rattle.c_match.proofs.lemmas.Growing.{grown_refl}
use Rattle.c_match_worlds.specs.Matches.{Matches}
use Rattle.c_rows_agree.specs.Templates.{Template, Given, Leaf, One, Two, Root}
use Rattle.c_rows_agree.specs.Typed.{Typed, Holds}
use Rattle.piece_runs.specs.Pieces.{Piece, Front}
use Rattle.piece_runs.specs.Reaches.{keeps_at}
use Rattle.c_expr_agreement.specs.Scenes.{Scene, InFrame}
use Rattle.lowered_forms.specs.Asked.{asked}
use Rattle.lowered_forms.specs.Blocks.{IsWithin}
use Rattle.lowered_forms.specs.Later.{IsFront}
use Rattle.lowered_forms.specs.Lows.{Low, with_entries, acted}
use Rattle.lowered_forms.specs.Values.{placed_tree, placed}
use Rattle.c_straight_agree.specs.Agreement.{HasValue, IsTaken, IsLeftBut, Came}
use Rattle.c_straight_agree.specs.Narrow.{CharsAreNarrow, ShortsAreNarrow}
use Rattle.c_straight_agree.specs.Settled.{seen, IsLone, IsSettled, IsNear}
use Rattle.c_straight_agree.specs.Standing.{IsBody, Standing}
use Rattle.c_straight_agree.specs.Stores.{IsStoring}
use Rattle.c_straight_agree.proofs.lemmas.Acting.{root_is_stored}
use Rattle.c_straight_agree.proofs.lemmas.AskedTemplates.{template_answers}
use Rattle.c_straight_agree.proofs.lemmas.At.{at_of, standing_of, at_front, ready_still}
use Rattle.c_straight_agree.proofs.lemmas.Coming.{value_stays}
use Rattle.c_straight_agree.proofs.lemmas.Kept.{any_slot}
use Rattle.c_straight_agree.proofs.lemmas.Near.{gives_word}

module _ (s : Scene) (locals : ℕ) (body : IsBody s locals) where
  -- what the lowering doesn't take is no temporary
  pub lone_by : (slots : List Slot) (done : List Piece) (es : List Entry) (f : Front s.body.pieces done es) → IsFront slots f.before → (place : ℕ) → (IsTaken s (length slots) place → ⊥) → IsLone (keeps_at s.body done es f) place
  lone_by slots done es f behind place none m t e same =
      let x = (any_slot s locals body slots done es f behind m t e).1 in
      let object : t.object ≡ s.body.setting.environment.home.place + x.number = ap (λ (z : Temporary). z.object) x.is in
      let l = slice_get_within s.body.setting.environment.home.slots x.number x.slot x.there in
      let b = x.behind in
      none ((omega (arith, object, same, b), omega (arith, object, same, l)))

  module _ (chars : CharsAreNarrow) (shorts : ShortsAreNarrow) (start : ℕ → Outcome) (turns : ℕ) (m : Low) (le : locals ≤ length m.slots) (f : Front s.body.pieces m.pieces m.entries) (map : Map) (old : c.World) (values : ℕ → Word) (w : World) (k : ℕ) (st : Standing s start turns m f map old values w k) where
    abbrev keeps : Keeps
    keeps = keeps_at s.body m.pieces m.entries f

    left_near : (n : ℕ) (others : ℕ → Word) (world : World) → IsNear keeps n values others w world → IsLeftBut s (length m.slots) map (c.objects old) w.objects world.objects
    left_near n others world near place lt private none = near.same place (lone_by m.slots m.pieces m.entries f st.slots place none)

    module _ (u : Value) where
      -- as it is
      pub stays_placed : (x : Suffix) (t : Template) → (h : Front s.body.pieces m.pieces m.entries) → HasValue s (record { tree = t; suffix = x }) map values w u → Came s start turns m m h (record { tree = t; suffix = x }) map old values w (Some u) old k
      stays_placed x t h has = record {
        later = map;
        grown = grown_refl map;
        others = values;
        world = w;
        stands = standing_of s start turns m h map old values w k keeps (at_front s start turns m.pieces m.slots keeps k map old m.entries f h values w (at_of s start turns m f map old values w k st)) st.ready;
        alike = refl;
        left = λ place lt private none. refl;
        private = λ place lt private. private;
        kept = λ g n lt. refl;
        has = has;
      }

      pub value_came : (a : Typed) → (h : Front s.body.pieces m.pieces m.entries) → HasValue s a map values w u → Came s start turns m m h a map old values w (Some u) old k
      value_came a h has = stays_placed a.suffix a.tree h has

      -- as a node
      node_placed : (x : Suffix) (t : Template) → IsWithin (node_count m.entries) t → IsSettled keeps (seen s.body map values w) t → Holds (seen s.body map values w) (record { tree = t; suffix = x }) u
          → (h : Front s.body.pieces m.pieces (asked t m.entries).entries) → Came s start turns m (with_entries (asked t m.entries).entries m) h (record { tree = Given (asked t m.entries).node; suffix = x }) map old values w (Some u) old k
      node_placed x t within settled holds h =
          let a = template_answers chars shorts s locals body start turns m.pieces m.slots le keeps k map old t m.entries f values w (at_of s start turns m f map old values w k st) within settled holds.word holds.gives h in
          record {
            later = map;
            grown = grown_refl map;
            others = a.others;
            world = a.world;
            stands = standing_of s start turns (with_entries (asked t m.entries).entries m) h map old a.others a.world k keeps a.stands (ready_still s w a.world k a.near.arguments st.ready);
            alike = a.near.alike;
            left = left_near (node_count m.entries) a.others a.world a.near;
            private = λ place lt private. private;
            kept = λ g n lt. a.near.kept n lt;
            has = record {
              holds = record { word = holds.word; gives = a.has; is = holds.is };
              word = gives_word (seen s.body map values w) keeps st.stands.matches.sound.objects body.words t holds.word settled holds.gives;
              waits = tt;
            };
          }

      placed_by : (x : Suffix) (t : Template) → IsWithin (node_count m.entries) t → IsSettled keeps (seen s.body map values w) t → Holds (seen s.body map values w) (record { tree = t; suffix = x }) u
          → (h : Front s.body.pieces (placed_tree x t m).low.pieces (placed_tree x t m).low.entries) → Came s start turns m (placed_tree x t m).low h (placed_tree x t m).value map old values w (Some u) old k
      placed_by x (Given n) within settled holds h = stays_placed x (Given n) h (record { holds = holds; word = gives_word (seen s.body map values w) keeps st.stands.matches.sound.objects body.words (Given n) holds.word settled holds.gives; waits = tt })
      placed_by x (Leaf y) within settled holds h = stays_placed x (Leaf y) h (record { holds = holds; word = gives_word (seen s.body map values w) keeps st.stands.matches.sound.objects body.words (Leaf y) holds.word settled holds.gives; waits = settled })
      placed_by x (One y a) within settled holds h = node_placed x (One y a) within settled holds h
      placed_by x (Two y a b) within settled holds h = node_placed x (Two y a b) within settled holds h

      pub placed_came : (a : Typed) → IsWithin (node_count m.entries) a.tree → IsSettled keeps (seen s.body map values w) a.tree → Holds (seen s.body map values w) a u
          → (h : Front s.body.pieces (placed a m).low.pieces (placed a m).low.entries) → Came s start turns m (placed a m).low h (placed a m).value map old values w (Some u) old k
      placed_came a within settled holds h = placed_by a.suffix a.tree within settled holds h

      -- ---- roots

      -- an operand that waits has its value behind a root that stores
      pub stored_came : (r : Root) → r.head.operator.op ≡ op.Asgn → (new : c.World) → IsWithin (node_count m.entries) r.left → IsWithin (node_count m.entries) r.right → IsSettled keeps (seen s.body map values w) r.left → IsSettled keeps (seen s.body map values w) r.right
          → ((others : ℕ → Word) (world : World) → IsNear keeps (node_count m.entries) values others w world → Matches s.lowered s.own map old world → InFrame s.frame map old world → IsStoring s (length m.slots) keeps map old new others world r)
          → (a : Typed) → IsWithin (node_count m.entries) a.tree → HasValue s a map values w u
          → (h : Front s.body.pieces (acted r m).pieces (acted r m).entries) → Came s start turns m (acted r m) h a map old values w (Some u) new k
      stored_came r store new within_a within_b settled_a settled_b storing a within has h =
          let y = root_is_stored chars shorts s locals body start turns m.pieces m.slots le keeps k map old new r store m.entries f values w (at_of s start turns m f map old values w k st) within_a within_b settled_a settled_b storing (λ place none. lone_by m.slots m.pieces m.entries f st.slots place none) h in
          let n = node_count m.entries in
          record {
            later = map;
            grown = grown_refl map;
            others = y.others;
            world = y.stored;
            stands = standing_of s start turns (acted r m) h map new y.others y.stored k keeps y.stands (ready_still s w y.stored k y.arguments st.ready);
            alike = y.alike;
            left = λ place lt private none. y.left place lt private none;
            private = λ place lt private. y.storing.private place private;
            kept = λ g i lt. y.near.kept i lt;
            has = value_stays s map map (grown_refl map) values y.others w y.stored y.alike n (λ i lt. y.near.kept i lt) a u within has;
          }
