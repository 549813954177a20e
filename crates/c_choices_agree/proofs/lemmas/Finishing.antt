-- A slot is read behind a label, for what an expression comes to.
use Rattle.std.specs.Prelude.{◌≡◌, ◌≤◌, ℕ, Option, Some, None, length}
use Rattle.std.proofs.Common.{refl, sym, subst}
use Rattle.objects.specs.declared.value.Value.{Value}
use Rattle.op_forest.specs.declared.suffix.Suffix.{Suffix}
use Rattle.forests.specs.Words.{Word, IsWord}
use Rattle.forests.specs.Worlds.{World, Outcome}
use Rattle.dag_forest.specs.Meaning.{Keeps}
use Rattle.dag_forest.specs.Tally.{node_count}
use Rattle.c_runs.specs.Worlds as c
use Rattle.c_match.specs.Ranges.{Map, Grown}
use Rattle.c_match.specs.Values.{IsValue}
use Rattle.c_match.proofs.lemmas.Growing.{value_grows, grown_refl}
use Rattle.c_rows_agree.specs.Templates.{Template, Given, Gives}
use Rattle.c_rows_agree.specs.Typed.{Typed}
use Rattle.piece_runs.specs.Pieces.{Front}
use Rattle.piece_runs.specs.Reaches.{keeps_at}
use Rattle.c_expr_agreement.specs.Scenes.{Scene}
use Rattle.lowered_forms.specs.Asked.{asked}
use Rattle.lowered_forms.specs.Blocks.{IsWithin}
use Rattle.lowered_forms.specs.Lows.{Low, with_entries}
use Rattle.c_straight_agree.specs.Agreement.{HasResult, HasWord, Came}
use Rattle.c_straight_agree.specs.Narrow.{CharsAreNarrow, ShortsAreNarrow}
use Rattle.c_straight_agree.specs.Settled.{seen, IsSettled}
use Rattle.c_straight_agree.specs.Standing.{IsBody, Standing}
use Rattle.c_straight_agree.proofs.lemmas.AskedTemplates.{template_answers}
use Rattle.c_straight_agree.proofs.lemmas.At.{at_of, standing_of, ready_still}
use Rattle.c_straight_agree.proofs.lemmas.Placing.{lone_by}

-- a word stands for a value, if there is one
abbrev pub StandsFor : Map → Option Value → Word → Type 0
StandsFor map None u = Unit {0}
StandsFor map (Some v) u = IsValue map v u

pub has_result : (s : Scene) (a : Typed) (map : Map) (values : ℕ → Word) (w : World) (v : Option Value) (u : Word) → (h : HasWord s a map values w) → h.word ≡ u → StandsFor map v u → HasResult s a map values w v
has_result s a map values w None u h e is = h
has_result s a map values w (Some v) u h e is = record { holds = record { word = h.word; gives = h.gives; is = subst (IsValue map v) (sym e) is }; word = h.is; waits = h.waits }

-- what it stands for goes with maps that grow
pub stands_later : (map later : Map) (v : Option Value) (u : Word) → Grown map later → StandsFor map v u → StandsFor later v u
stands_later map later None u grown is = tt
stands_later map later (Some v) u grown is = value_grows map later v u grown is

-- an operand has a word that stands for what C gives
pub word_of : (s : Scene) (a : Typed) (map : Map) (values : ℕ → Word) (w : World) (v : Option Value) → HasResult s a map values w v → (h : HasWord s a map values w) × StandsFor map v h.word
word_of s a map values w None h = (h, tt)
word_of s a map values w (Some v) h = (record { word = h.holds.word; gives = h.holds.gives; is = h.word; waits = h.waits }, h.holds.is)

-- A template that gives a word becomes a node that has it.
module _ (chars : CharsAreNarrow) (shorts : ShortsAreNarrow) (s : Scene) (locals : ℕ) (body : IsBody s locals) (start : ℕ → Outcome) (turns : ℕ) (m : Low) (le : locals ≤ length m.slots) (f : Front s.body.pieces m.pieces m.entries) (map : Map) (old : c.World) (values : ℕ → Word) (w : World) (k : ℕ) (st : Standing s start turns m f map old values w k) where
  abbrev keeps : Keeps
  keeps = keeps_at s.body m.pieces m.entries f

  pub word_came : (x : Suffix) (t : Template) → IsWithin (node_count m.entries) t → IsSettled keeps (seen s.body map values w) t → (u : Word) → Gives (seen s.body map values w) t u → IsWord u → (v : Option Value) → StandsFor map v u
      → (h : Front s.body.pieces m.pieces (asked t m.entries).entries) → Came s start turns m (with_entries (asked t m.entries).entries m) h (record { tree = Given (asked t m.entries).node; suffix = x }) map old values w v old k
  word_came x t within settled u gives word v is h =
      let a = template_answers chars shorts s locals body start turns m.pieces m.slots le keeps k map old t m.entries f values w (at_of s start turns m f map old values w k st) within settled u gives h in
      record {
        later = map;
        grown = grown_refl map;
        others = a.others;
        world = a.world;
        stands = standing_of s start turns (with_entries (asked t m.entries).entries m) h map old a.others a.world k keeps a.stands (ready_still s w a.world k a.near.arguments st.ready);
        alike = a.near.alike;
        left = λ place lt private none. a.near.same place (lone_by s locals body m.slots m.pieces m.entries f st.slots place none);
        private = λ place lt private. private;
        kept = λ g n lt. a.near.kept n lt;
        has = has_result s (record { tree = Given (asked t m.entries).node; suffix = x }) map a.others a.world v u (record { word = u; gives = a.has; is = word; waits = tt }) refl is;
      }
