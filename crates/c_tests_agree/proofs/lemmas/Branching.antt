-- A root that jumps acts behind its operands: the run stands at its label, or in the block that follows.
use Rattle.std.specs.Prelude.{◌≡◌, ◌≤◌, ℕ, suc, Bool, true, false, List, [], ◌∷◌, ◌++◌, length}
use Rattle.std.proofs.Common.{refl, sym, ap, subst, ◌∙◌, arith, append_assoc, append-nil}
use Rattle.op_forest.specs.declared.frame.Slot.{Slot}
use Rattle.forests.specs.Actions as action
use Rattle.forests.specs.Actions.{Action, effect_of}
use Rattle.forests.specs.Alike.{AreAlike}
use Rattle.forests.specs.Bodies.{does}
use Rattle.forests.specs.Budgets.{with_left}
use Rattle.forests.specs.Rows.{acts}
use Rattle.forests.specs.Words.{Word, unknown}
use Rattle.forests.specs.Worlds.{World, Effect, Outcome, Move, Next, To, Went}
use Rattle.dag_forest.specs.declared.act.Act.TheVariants.{Acts}
use Rattle.dag_forest.specs.declared.entry.Entry.{Entry}
use Rattle.dag_forest.specs.declared.entry.Entry.TheVariants as entry
use Rattle.dag_forest.specs.declared.kids.Kids.TheVariants as kids
use Rattle.dag_forest.specs.declared.parts.Parts.{Parts}
use Rattle.dag_forest.specs.Meaning.{Keeps, is_end, Leaves, Acted, Through, Jumps, RunsBehind, Runs}
use Rattle.dag_forest.specs.Schedules.{head_of, operands}
use Rattle.dag_forest.specs.Split.{split_frame}
use Rattle.dag_forest.specs.Tally.{node_count}
use Rattle.dag_seam.specs.SplitLaws.{TurnsMean}
use Rattle.dag_seam.specs.Turns.{made_of}
use Rattle.dag_seam.proofs.lemmas.Opening.{none_open}
use Rattle.dag_seam.proofs.lemmas.Turns.{root_goes_on}
use Rattle.c_runs.specs.Worlds as c
use Rattle.c_match.specs.Ranges.{Map}
use Rattle.c_match.proofs.lemmas.Growing.{grown_refl}
use Rattle.c_match_worlds.specs.Matches.{Matches}
use Rattle.c_rows_agree.specs.Integers.{move_where}
use Rattle.c_rows_agree.specs.Templates as template
use Rattle.c_rows_agree.specs.Templates.{Root}
use Rattle.c_rows_agree.proofs.lemmas.Once.{gives_once}
use Rattle.piece_runs.specs.Pieces.{Piece, OfBlock, Mark, Front}
use Rattle.piece_runs.specs.Reaches.{acting, keeps_at, Reaches}
use Rattle.piece_runs.proofs.lemmas.Ended.{next_is_reached, jump_is_reached}
use Rattle.piece_runs.proofs.lemmas.Reached.{entries_are_reached}
use Rattle.c_expr_agreement.specs.Scenes.{Scene, InFrame}
use Rattle.lowered_forms.specs.Asked.{with_kids, asked}
use Rattle.lowered_forms.specs.Blocks.{IsWithin}
use Rattle.lowered_forms.specs.Later.{IsFront}
use Rattle.lowered_forms.specs.Lows.{Low, branched}
use Rattle.lowered_forms.proofs.lemmas.Blocks.{asked_there, within_more}
use Rattle.lowered_forms.proofs.lemmas.Fronts.{front_itself, front_before, asked_adds}
use Rattle.lowered_forms.proofs.lemmas.Pending.{empty_block}
use Rattle.c_straight_agree.specs.Agreement.{IsLeftBut}
use Rattle.c_straight_agree.specs.Narrow.{CharsAreNarrow, ShortsAreNarrow}
use Rattle.c_straight_agree.specs.Settled.{seen, IsSettled, IsNear}
use Rattle.c_straight_agree.specs.Standing.{IsBody, AreFree, IsReady, Standing}
use Rattle.c_straight_agree.proofs.lemmas.AskedTemplates.{template_answers}
use Rattle.c_straight_agree.proofs.lemmas.At.{At, at_of, front_of, ready_still}
use Rattle.c_straight_agree.proofs.lemmas.Mild.{same_words, acts_on_two}
use Rattle.c_straight_agree.proofs.lemmas.Near.{near_itself, near_joins, near_gives, near_settled}
use Rattle.c_straight_agree.proofs.lemmas.Placing.{lone_by}
use Rattle.c_tests_agree.specs.Tested.{AreMarkedOnce, Label, jumps, PassedBy}

-- ---- moves

abbrev pub move_by : Bool → ℕ → Move
move_by true n = To n
move_by false n = Next

move_is : (when is : Bool) (n : ℕ) → move_where when is n ≡ move_by (jumps when is) n
move_is true true n = refl
move_is true false n = refl
move_is false true n = refl
move_is false false n = refl

-- ---- fronts

-- a block that is finished, before another one
pub ended_front : (all done : List Piece) (before : List Slot) (es : List Entry) → Front all (done ++ OfBlock before es ∷ []) [] → Front all done es
ended_front all done before es h = record {
  more = [];
  before = before;
  rest = OfBlock h.before h.more ∷ h.rest;
  is =
      h.is ∙ append_assoc done (OfBlock before es ∷ []) (OfBlock h.before h.more ∷ h.rest)
      ∙ ap (λ (gs : List Entry). done ++ OfBlock before gs ∷ OfBlock h.before h.more ∷ h.rest) (sym (append-nil es));
}

pub ended_slots : (all : List Piece) (done : List Piece) (before : List Slot) (es : List Entry) (h : Front all (done ++ OfBlock before es ∷ []) []) → IsFront before (ended_front all done before es h).before
unfolding ended_front
ended_slots all done before es h = front_itself before

-- ---- a block begins

module _ (s : Scene) (start : ℕ → Outcome) (turns : ℕ) where
  pub block_begins : (ps : List Piece) (slots : List Slot) (labels : ℕ) (h : Front s.body.pieces ps []) → IsFront slots h.before → (map : Map) (old : c.World) (w : World) (k : ℕ)
      → Reaches s.body start turns ps [] h (λ m. unknown) w k → Matches s.lowered s.own map old w → InFrame s.frame map old w → AreFree s.body w → IsReady s w k
      → Standing s start turns (record { pieces = ps; entries = []; slots = slots; labels = labels }) h map old (λ m. unknown) w k
  block_begins ps slots labels h behind map old w k reaches matches frame free ready = record {
    stands = record { reaches = reaches; matches = matches; frame = frame; nodes = none_open (acting s.body) (keeps_at s.body ps [] h) (λ m. unknown) w };
    block = empty_block;
    none_waits = refl;
    slots = behind;
    free = free;
    ready = ready;
  }

-- ---- one root

module _ (means : TurnsMean) (s : Scene) (once : AreMarkedOnce s.body) (locals : ℕ) (body : IsBody s locals) (start : ℕ → Outcome) (turns : ℕ) (done : List Piece) (slots : List Slot) (keeps : Keeps) (k : ℕ) (map : Map) (old : c.World)
    (es : List Entry) (f : Front s.body.pieces done es) (values : ℕ → Word) (w : World) (st : At s start turns done slots keeps k map old es f values w) (x : Parts) where
  moves_so : (mv : Move) → acts s.body.setting.environment (head_of x) (operands x.kids values) w.objects ≡ action.Moved mv
      → (left : ℕ) → does (acting s.body) (head_of x) (operands x.kids values) (with_left left w) ≡ Went [] (with_left left w) mv
  moves_so mv act left = ap (λ (z : Action). effect_of (acting s.body).call z (with_left left w)) act

  still : (b : Bool) → Leaves b keeps (made_of es) w w
  still true = λ m t made kept. refl
  still false = λ o. refl

  goes_so : acts s.body.setting.environment (head_of x) (operands x.kids values) w.objects ≡ action.Moved Next
      → (left : ℕ) → Runs (acting s.body) keeps (Acts x ∷ []) (made_of es) values (suc left) w (Through values (with_left left w))
  goes_so act left =
      subst (λ (e : Effect). Acted e (Through values (with_left left w)) (λ p. Leaves (is_end x) keeps (made_of es) w p.world × RunsBehind false (acting s.body) keeps [] (made_of es) values p.left p.world (Through values (with_left left w)))) (sym (moves_so Next act left))
      (still (is_end x), refl)

  pub jumps_so : (n : ℕ) → acts s.body.setting.environment (head_of x) (operands x.kids values) w.objects ≡ action.Moved (To n)
      → (left : ℕ) → Runs (acting s.body) keeps (Acts x ∷ []) (made_of es) values (suc left) w (Jumps n (with_left left w))
  jumps_so n act left =
      subst (λ (e : Effect). Acted e (Jumps n (with_left left w)) (λ p. Leaves (is_end x) keeps (made_of es) w p.world × RunsBehind false (acting s.body) keeps [] (made_of es) values p.left p.world (Jumps n (with_left left w)))) (sym (moves_so (To n) act left))
      refl

  module _ (h : Front s.body.pieces (done ++ OfBlock slots (es ++ entry.Root x ∷ []) ∷ []) []) where
    abbrev behind : Front s.body.pieces done (es ++ entry.Root x ∷ [])
    behind = ended_front s.body.pieces done slots (es ++ entry.Root x ∷ []) h

    -- it isn't taken: the next block begins
    pub next_reached : acts s.body.setting.environment (head_of x) (operands x.kids values) w.objects ≡ action.Moved Next
        → Reaches s.body start turns (done ++ OfBlock slots (es ++ entry.Root x ∷ []) ∷ []) [] h (λ m. unknown) w k
    next_reached act =
        next_is_reached means s.body body.split start turns done (es ++ entry.Root x ∷ []) slots behind h values w k
        (entries_are_reached s.body start turns done es (entry.Root x ∷ []) (Acts x ∷ []) f behind values values w w k k (root_goes_on es st.none_waits x) st.reaches
        (λ left. (suc left, omega arith, subst (λ (ks : Keeps). Runs (acting s.body) ks (Acts x ∷ []) (made_of es) values (suc left) w (Through values (with_left left w))) (sym st.keeps_is) (goes_so act left))))

    -- it is taken: the run is at the label
    pub label_reached : (n : ℕ) (t : Label s n) → acts s.body.setting.environment (head_of x) (operands x.kids values) w.objects ≡ action.Moved (To n)
        → Reaches s.body start turns (t.before ++ Mark n ∷ []) [] t.front (λ m. unknown) w k
    label_reached n t act =
        jump_is_reached means s.body body.split start turns done es (entry.Root x ∷ []) (Acts x ∷ []) f behind values w w k k (root_goes_on es st.none_waits x) st.reaches n t.before t.front
        (once t.before (OfBlock t.front.before t.front.more ∷ t.front.rest) n (t.front.is ∙ append_assoc t.before (Mark n ∷ []) (OfBlock t.front.before t.front.more ∷ t.front.rest)))
        (λ left. (suc left, omega arith, subst (λ (ks : Keeps). Runs (acting s.body) ks (Acts x ∷ []) (made_of es) values (suc left) w (Jumps n (with_left left w))) (sym st.keeps_is) (jumps_so n act left)))

    pub passed_by : IsReady s w k → (labels n : ℕ) (t : Label s n) (first : World) → AreAlike first.objects w.objects → (from : ℕ) → IsLeftBut s from map (c.objects old) first.objects w.objects → IsFront (split_frame slots (es ++ entry.Root x ∷ [])) h.before
        → (b : Bool) → acts s.body.setting.environment (head_of x) (operands x.kids values) w.objects ≡ action.Moved (move_by b n)
        → PassedBy b s start turns from (record { pieces = done ++ OfBlock slots (es ++ entry.Root x ∷ []) ∷ []; entries = []; slots = split_frame slots (es ++ entry.Root x ∷ []); labels = labels }) h n t map old first old k
    passed_by ready labels n t first alike from left split false act = record {
      later = map;
      grown = grown_refl map;
      others = λ m. unknown;
      world = w;
      stands = block_begins s start turns (done ++ OfBlock slots (es ++ entry.Root x ∷ []) ∷ []) (split_frame slots (es ++ entry.Root x ∷ [])) labels h split map old w k (next_reached act) st.matches st.frame st.free ready;
      alike = alike;
      left = left;
      private = λ place lt private. private;
    }
    passed_by ready labels n t first alike from left split true act = record {
      later = map;
      grown = grown_refl map;
      others = λ m. unknown;
      world = w;
      stands = block_begins s start turns (t.before ++ Mark n ∷ []) t.slots t.labels t.front t.split map old w k (label_reached n t act) st.matches st.frame st.free ready;
      alike = alike;
      left = left;
      private = λ place lt private. private;
    }

-- ---- with its operands

module _ (chars : CharsAreNarrow) (shorts : ShortsAreNarrow) (means : TurnsMean) (s : Scene) (once : AreMarkedOnce s.body) (locals : ℕ) (body : IsBody s locals) (start : ℕ → Outcome) (turns : ℕ) (m : Low) (le : locals ≤ length m.slots) (f : Front s.body.pieces m.pieces m.entries)
    (map : Map) (old : c.World) (values : ℕ → Word) (w : World) (k : ℕ) (st : Standing s start turns m f map old values w k) (r : Root) where
  abbrev keeps : Keeps
  keeps = keeps_at s.body m.pieces m.entries f

  pub branch_comes : (when is : Bool) (label : ℕ) → IsWithin (node_count m.entries) r.left → IsWithin (node_count m.entries) r.right → IsSettled keeps (seen s.body map values w) r.left → IsSettled keeps (seen s.body map values w) r.right
      → ((others : ℕ → Word) (world : World) → IsNear keeps (node_count m.entries) values others w world → Matches s.lowered s.own map old world → InFrame s.frame map old world → template.Acts (seen s.body map others world) r (action.Moved (move_where when is label)))
      → (h : Front s.body.pieces (branched r m).pieces (branched r m).entries) → IsFront (branched r m).slots h.before → (t : Label s label) → PassedBy (jumps when is) s start turns (length m.slots) (branched r m) h label t map old w old k
  branch_comes when is label within_a within_b settled_a settled_b moving h slots t =
      let es = m.entries in
      let at = at_of s start turns m f map old values w k st in
      let first = asked r.left es in
      let fs = first.entries in
      let second = asked r.right fs in
      let gs = second.entries in
      let x = with_kids r.head (kids.Two first.node second.node) in
      let there = asked_there r.left es at.block within_a in
      let later_b = within_more (node_count es) (node_count fs) r.right there.others within_b in
      let there_b = asked_there r.right fs there.block later_b in
      let behind = ended_front s.body.pieces m.pieces m.slots (gs ++ entry.Root x ∷ []) h in
      let g = front_of s.body.pieces m.pieces gs (gs ++ entry.Root x ∷ []) (front_before gs (entry.Root x ∷ [])) behind in
      let g0 = front_of s.body.pieces m.pieces fs gs (asked_adds r.right fs).front g in
      let now = moving values w (near_itself keeps (node_count es) values w) at.matches at.frame in
      let a = template_answers chars shorts s locals body start turns m.pieces m.slots le keeps k map old r.left es f values w at within_a settled_a now.first now.left g0 in
      let settled = near_settled keeps s.body map map (node_count es) values a.others w a.world a.near r.right now.second within_b settled_b now.right in
      let gives = near_gives keeps s.body map map (node_count es) values a.others w a.world a.near r.right now.second within_b settled_b now.right in
      let b = template_answers chars shorts s locals body start turns m.pieces m.slots le keeps k map old r.right fs g0 a.others a.world a.stands later_b settled now.second gives g in
      let near = near_joins keeps (node_count es) (node_count fs) values a.others b.others w a.world b.world there.others a.near b.near in
      let then = moving b.others b.world near b.stands.matches b.stands.frame in
      let k1 = seen s.body map b.others b.world in
      let left = near_gives keeps s.body map map (node_count es) values b.others w b.world near r.left now.first within_a settled_a now.left in
      let right = near_gives keeps s.body map map (node_count es) values b.others w b.world near r.right now.second within_b settled_b now.right in
      let first_is = same_words (b.others first.node) now.first then.first (same_words (b.others first.node) (a.others first.node) now.first (b.near.kept first.node there.below) a.has) (gives_once k1 r.left now.first then.first left then.left) in
      let second_is = same_words (b.others second.node) now.second then.second b.has (gives_once k1 r.right now.second then.second right then.right) in
      let act = acts_on_two s.body.setting.environment r.head b.world.objects (b.others first.node) (b.others second.node) then.first then.second (action.Moved (move_where when is label)) first_is second_is then.does in
      passed_by means s once locals body start turns m.pieces m.slots keeps k map old gs g b.others b.world b.stands x h (ready_still s w b.world k near.arguments st.ready) m.labels label t w near.alike (length m.slots)
      (λ place lt private none. near.same place (lone_by s locals body m.slots m.pieces m.entries f st.slots place none))
      slots (jumps when is) (act ∙ ap action.Moved (move_is when is label))
