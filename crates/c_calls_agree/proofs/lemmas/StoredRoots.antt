-- A root that stores a call's value in a slot, with its operands; and the slot is read.
use Rattle.std.specs.Prelude.{◌≡◌, ◌≤◌, ◌<◌, ℕ, ℤ, true, Option, Some, None, List, [], ◌∷◌, ◌++◌, length}
use Rattle.std.proofs.Common.{refl, sym, ap, subst, ◌∙◌, arith, append_assoc}
use Rattle.objects.specs.declared.value.Value.{Value}
use Rattle.objects.specs.declared.value.Value.TheVariants.{Pointer, Function}
use Rattle.op_forest.specs.declared.op.Op.TheVariants as op
use Rattle.op_forest.specs.declared.suffix.Suffix.{Suffix}
use Rattle.op_forest.specs.declared.suffix.Suffix.TheVariants.{I}
use Rattle.op_forest.specs.Frames.{IsFrame}
use Rattle.op_forest.specs.Nodes.{Head}
use Rattle.forests.specs.Alike.{AreAlike}
use Rattle.forests.specs.Words.{Word, Plain, IsWord}
use Rattle.forests.specs.Worlds.{World, Outcome}
use Rattle.dag_forest.specs.declared.entry.Entry.{Entry}
use Rattle.dag_forest.specs.declared.entry.Entry.TheVariants as entry
use Rattle.dag_forest.specs.declared.kids.Kids.TheVariants as kids
use Rattle.dag_forest.specs.Meaning.{Keeps}
use Rattle.dag_forest.specs.Schedules.{at}
use Rattle.dag_forest.specs.Split.{slot_name}
use Rattle.dag_forest.specs.Tally.{keys_of, node_count}
use Rattle.dag_forest.proofs.lemmas.Maps.{at_old}
use Rattle.dag_seam.specs.SplitLaws.{TurnsMean}
use Rattle.c_runs.specs.Outcomes.{Undefined, OutOfTurns, Exit, Result, Gives, GivesNone, Ends}
use Rattle.c_runs.specs.Worlds as c
use Rattle.c_match.specs.Left.{IsPrivate}
use Rattle.c_match.specs.Ranges.{Map, Grown}
use Rattle.c_match.proofs.lemmas.Growing.{grown_refl}
use Rattle.c_match_worlds.specs.Matches.{Matches}
use Rattle.c_agreement.specs.Called.{AreValues}
use Rattle.c_rows_agree.specs.Templates.{Template, Given, One, Gives as GivesWord}
use Rattle.c_rows_agree.specs.Typed.{Typed, head, as_p}
use Rattle.c_rows_agree.proofs.lemmas.Suffixes.{p_gives}
use Rattle.c_pointers_agree.specs.Pointers.{local, call_head}
use Rattle.piece_runs.specs.Pieces.{Front}
use Rattle.piece_runs.specs.Reaches.{keeps_at, Stops}
use Rattle.c_expr_agreement.specs.LoweredExpr.{Left}
use Rattle.c_expr_agreement.specs.Scenes.{Scene}
use Rattle.lowered_forms.specs.Asked.{found_or_new, with_kids, asked, rooted}
use Rattle.lowered_forms.specs.Blocks.{IsBlock, IsWithin}
use Rattle.lowered_forms.specs.Calls.{call_stored}
use Rattle.lowered_forms.specs.Lows.{Low, with_entries, acted}
use Rattle.lowered_forms.specs.Values.{placed_tree}
use Rattle.lowered_forms.proofs.lemmas.Blocks.{asked_there, within_more, rooted_there}
use Rattle.lowered_forms.proofs.lemmas.Fronts.{front_before, asked_adds}
use Rattle.lowered_forms.proofs.lemmas.WithinTemplates.{as_p_in}
use Rattle.c_straight_agree.specs.Agreement.{HasResult, IsLeftBut, Came}
use Rattle.c_straight_agree.specs.Lasting.{LastingValue}
use Rattle.c_straight_agree.specs.Narrow.{CharsAreNarrow, ShortsAreNarrow}
use Rattle.c_straight_agree.specs.Settled.{seen, IsSettled, IsNear}
use Rattle.c_straight_agree.specs.Standing.{IsBody, Standing}
use Rattle.c_straight_agree.proofs.lemmas.AskedTemplates.{template_answers}
use Rattle.c_straight_agree.proofs.lemmas.At.{At, at_of, front_of, standing_of, ready_still}
use Rattle.c_straight_agree.proofs.lemmas.Lasting.{lasting_settled}
use Rattle.c_straight_agree.proofs.lemmas.Mild.{same_words}
use Rattle.c_straight_agree.proofs.lemmas.Near.{near_joins, near_gives, near_settled, gives_word}
use Rattle.c_straight_agree.proofs.lemmas.Placing.{lone_by}
use Rattle.c_straight_agree.proofs.lemmas.Putting.{alike_length}
use Rattle.c_straight_agree.proofs.lemmas.SettledTemplates.{as_p_set}
use Rattle.c_slots_agree.specs.Slots.{IsSlotAt, SlotHolds}
use Rattle.c_slots_agree.proofs.lemmas.Reads.{address_gives}
use Rattle.c_slots_agree.proofs.lemmas.Storing.{first_so_many}
use Rattle.c_calls_agree.specs.Given.{IsCallGiven, CallReturned, CallCame}
use Rattle.c_calls_agree.specs.Passing.{Passing}
use Rattle.c_calls_agree.proofs.lemmas.NewCalls.{call_is_new}
use Rattle.c_calls_agree.proofs.lemmas.StoredCalls.{stored_exits, stored_stops, stored_behind}
use Rattle.c_calls_agree.proofs.lemmas.Words.{at_passing}

-- ---- what stands behind the root

-- The run stands there, and the slot holds the word of what was given. What held nothing of C is as it was, but for the slot and those behind it.
pub record CallStored (s : Scene) (start : ℕ → Outcome) (turns number : ℕ) (l m : Low) (h : Front s.body.pieces m.pieces m.entries) (map : Map) (before : c.World) (values : ℕ → Word) (first : World) (v : Option Value) (old : c.World) (k : ℕ) : Type 0 where
  pub later : Map
  pub grown : Grown map later
  pub others : ℕ → Word
  pub world : World
  pub stands : Standing s start turns m h later old others world k
  pub alike : AreAlike first.objects world.objects
  pub left : IsLeftBut s number map (c.objects before) first.objects world.objects
  pub private : (place : ℕ) → IsPrivate map (c.objects before) place → IsPrivate later (c.objects old) place
  pub kept : (n : ℕ) → n < node_count l.entries → others n ≡ values n
  pub word : Word
  pub is_word : IsWord word
  pub given : IsCallGiven None later v word
  pub holds : SlotHolds s number word world

abbrev pub StoredTo : (s : Scene) → (ℕ → Outcome) → ℕ → ℕ → Low → (m : Low) → Front s.body.pieces m.pieces m.entries → Map → c.World → (ℕ → Word) → World → Result → Type 0
StoredTo s start turns number l m h map before values first (Gives v k old) = CallStored s start turns number l m h map before values first (Some v) old k
StoredTo s start turns number l m h map before values first (GivesNone line k old) = CallStored s start turns number l m h map before values first None old k
StoredTo s start turns number l m h map before values first (Ends (Undefined cause line) old) = Unit {0}
StoredTo s start turns number l m h map before values first (Ends OutOfTurns old) = Stops start turns old.trace
StoredTo s start turns number l m h map before values first (Ends (Exit status) old) = Left s start map status old

-- ---- the root

module _ (chars : CharsAreNarrow) (shorts : ShortsAreNarrow) (means : TurnsMean) (s : Scene) (locals : ℕ) (body : IsBody s locals) (frame : IsFrame s.body.setting.environment.home.slots) (start : ℕ → Outcome) (turns : ℕ) (m : Low) (le : locals ≤ length m.slots) (f : Front s.body.pieces m.pieces m.entries) (map : Map) (old : c.World) (values : ℕ → Word) (w : World) (k : ℕ) (vs : List Value)
    (st : Passing s start turns m f map old values w k vs) (g : Typed) (function : ℕ) (within : IsWithin (node_count m.entries) g.tree) (has : LastingValue s locals (length m.slots) g map values w (Function function))
    (number : ℕ) (offset : ℤ) (slot_at : IsSlotAt s number offset) (behind : locals ≤ number) (before : number < length m.slots) where
  abbrev keeps : Keeps
  keeps = keeps_at s.body m.pieces m.entries f

  abbrev with_call : List Entry → ℕ → ℕ → List Entry
  with_call es a b = es ++ entry.Value (with_kids (call_head true) (kids.One b)) ∷ entry.Root (with_kids (head op.Asgn I) (kids.Two a (length (keys_of es)))) ∷ []

  module _ (es : List Entry) (front : Front s.body.pieces m.pieces es) (others : ℕ → Word) (world : World) (there : At s start turns m.pieces m.slots keeps k map old es front others world) (a b : ℕ) (a_below : a < node_count es) (b_below : b < node_count es)
      (address : others a ≡ Plain (Pointer (slot_name s.body.setting.environment.home number) 0)) (is : others b ≡ Plain (Function function)) (near : IsNear keeps (node_count m.entries) values others w world) (more : node_count m.entries ≤ node_count es)
      (h : Front s.body.pieces m.pieces (with_call es a b)) (block : IsBlock (with_call es a b)) where
    abbrev after : Low
    after = with_entries (with_call es a b) m

    behind_call : (v : Option Value) (j : ℕ) (new : c.World) → CallReturned s map old world k function None v j new → CallStored s start turns number m after h map old values w v new j
    behind_call v j new r =
        let few = first_so_many number m.slots (omega (arith, before)) in
        let count : length few.0 ≡ number = few.2 in
        let y = stored_behind means s locals body start turns m.pieces m.slots le keeps k map old es front others world there a b function number offset slot_at before a_below b_below address is few.0 count (omega (arith, count, behind)) None v j new r h block in
        record {
          later = r.later;
          grown = r.grown;
          others = at others (node_count es) r.word;
          world = y.world;
          stands = standing_of s start turns after h r.later new (at others (node_count es) r.word) y.world j keeps y.stands
              (record { arguments = y.arguments; callees = λ i lt there1. st.callees i (let l = r.fewer in omega (arith, lt, l)) there1 });
          alike = near.alike ∙ y.alike;
          left = λ place lt private none.
              y.left place (let l = alike_length w.objects world.objects near.alike in omega (arith, lt, l)) private none
              ∙ near.same place (lone_by s locals body m.slots m.pieces m.entries f st.slots place (λ taken. none ((let t = taken.0 in omega (arith, t, before)), taken.1)));
          private = r.private;
          kept = λ n lt. at_old others (node_count es) r.word n (λ same. let never : ⊥ = omega (arith, lt, more, same) in never) ∙ near.kept n lt;
          word = r.word;
          is_word = r.is_word;
          given = r.given;
          holds = y.holds;
        }

    made_by : (r : Result) → CallCame s map old world k function None r → StoredTo s start turns number m after h map old values w r
    made_by (Gives v j new) came = behind_call (Some v) j new came
    made_by (GivesNone line j new) came = behind_call None j new came
    made_by (Ends (Undefined cause line) new) came = tt
    made_by (Ends OutOfTurns new) came = stored_stops means s locals body start turns m.pieces m.slots le keeps k map old es front others world there a b function number offset slot_at before a_below b_below address is h new came
    made_by (Ends (Exit status) new) came = record {
      later = came.later;
      grown = came.grown;
      world = came.world;
      leaves = stored_exits means s locals body start turns m.pieces m.slots le keeps k map old es front others world there a b function number offset slot_at before a_below b_below address is h status new came;
      matches = came.matches;
    }

  -- the entries that it adds, behind its operands
  root_is : (es : List Entry) → rooted (call_stored offset g) es ≡ (let a = asked (local offset).tree es in let b = asked (as_p g) a.entries in with_call b.entries a.node b.node)
  root_is es =
      let a = asked (local offset).tree es in
      let b = asked (as_p g) a.entries in
      let x = with_kids (call_head true) (kids.One b.node) in
      ap (λ (o : Option ℕ). (found_or_new o x b.entries).entries ++ entry.Root (with_kids (head op.Asgn I) (kids.Two a.node (found_or_new o x b.entries).node)) ∷ []) (call_is_new b.entries x refl)
      ∙ append_assoc b.entries (entry.Value x ∷ []) (entry.Root (with_kids (head op.Asgn I) (kids.Two a.node (length (keys_of b.entries)))) ∷ [])

  pub root_is_stored : (r : Result) → ((world : World) → AreAlike w.objects world.objects → Matches s.lowered s.own map old world → AreValues map vs world.arguments → CallCame s map old world k function None r)
      → (h : Front s.body.pieces m.pieces (rooted (call_stored offset g) m.entries)) → StoredTo s start turns number m (acted (call_stored offset g) m) h map old values w r
  root_is_stored r come =
      let es = m.entries in
      let here = seen s.body map values w in
      let name = slot_name s.body.setting.environment.home number in
      let left = (local offset).tree in
      let right = as_p g in
      let first = asked left es in
      let fs = first.entries in
      let second = asked right fs in
      let gs = second.entries in
      let inside = as_p_in (node_count es) g.suffix g.tree within in
      let settled = as_p_set keeps here g.suffix g.tree (lasting_settled s locals body m f st.slots (length m.slots) (omega arith) map values w g (Function function) has) in
      let gives = p_gives here g.suffix g.tree has.holds.word has.holds.gives in
      let there = asked_there left es st.block tt in
      let later_b = within_more (node_count es) (node_count fs) right there.others inside in
      let there_b = asked_there right fs there.block later_b in
      let blocks = (rooted_there (call_stored offset g) es st.block tt inside).0 in
      subst (λ (zs : List Entry). (h : Front s.body.pieces m.pieces zs) → StoredTo s start turns number m (with_entries zs m) h map old values w r) (sym (root_is es))
      (λ h.
      let all = with_call gs first.node second.node in
      let g1 = front_of s.body.pieces m.pieces gs all (front_before gs (entry.Value (with_kids (call_head true) (kids.One second.node)) ∷ entry.Root (with_kids (head op.Asgn I) (kids.Two first.node (length (keys_of gs)))) ∷ [])) h in
      let g0 = front_of s.body.pieces m.pieces fs gs (asked_adds right fs).front g1 in
      let a = template_answers chars shorts s locals body start turns m.pieces m.slots le keeps k map old left es f values w (at_passing s start turns m f map old values w k vs st) tt tt (Plain (Pointer name 0)) (address_gives s frame number offset slot_at map values w.objects) g0 in
      let settled_b = near_settled keeps s.body map map (node_count es) values a.others w a.world a.near right has.holds.word inside settled gives in
      let gives_b = near_gives keeps s.body map map (node_count es) values a.others w a.world a.near right has.holds.word inside settled gives in
      let b = template_answers chars shorts s locals body start turns m.pieces m.slots le keeps k map old right fs g0 a.others a.world a.stands later_b settled_b has.holds.word gives_b g1 in
      let near = near_joins keeps (node_count es) (node_count fs) values a.others b.others w a.world b.world there.others a.near b.near in
      let below : first.node < node_count gs = (let p = there.below in let q = there_b.others in omega (arith, p, q)) in
      made_by gs g1 b.others b.world b.stands first.node second.node below there_b.below (same_words (b.others first.node) (a.others first.node) (Plain (Pointer name 0)) (b.near.kept first.node there.below) a.has) (b.has ∙ has.holds.is) near (let p = there.others in let q = there_b.others in omega (arith, p, q)) h
      (subst IsBlock (root_is es) blocks) r
      (come b.world near.alike b.stands.matches (subst (λ (ws : List Word). AreValues map vs ws) (sym near.arguments) st.words)))

-- ---- a template that gives a word becomes a node that has it

result_has : (s : Scene) (x : Suffix) (n : ℕ) (map : Map) (values : ℕ → Word) (w : World) (v : Option Value) (u : Word) → values n ≡ u → IsWord u → IsCallGiven None map v u → HasResult s (record { tree = Given n; suffix = x }) map values w v
result_has s x n map values w None u e word given = record { word = u; gives = e; is = word; waits = tt }
result_has s x n map values w (Some v) u e word given = record { holds = record { word = u; gives = e; is = given }; word = word; waits = tt }

module _ (chars : CharsAreNarrow) (shorts : ShortsAreNarrow) (s : Scene) (locals : ℕ) (body : IsBody s locals) (start : ℕ → Outcome) (turns : ℕ) (m : Low) (le : locals ≤ length m.slots) (f : Front s.body.pieces m.pieces m.entries) (map : Map) (old : c.World) (values : ℕ → Word) (w : World) (k : ℕ) (st : Standing s start turns m f map old values w k)
    (v : Option Value) (u : Word) (given : IsCallGiven None map v u) where
  pub word_came : (x : Suffix) (y : Head) (t : Template) → IsWithin (node_count m.entries) t → IsSettled (keeps_at s.body m.pieces m.entries f) (seen s.body map values w) (One y t) → GivesWord (seen s.body map values w) (One y t) u
      → (h : Front s.body.pieces m.pieces (asked (One y t) m.entries).entries) → Came s start turns m (placed_tree x (One y t) m).low h (placed_tree x (One y t) m).value map old values w v old k
  word_came x y t within settled gives h =
      let keeps = keeps_at s.body m.pieces m.entries f in
      let a = template_answers chars shorts s locals body start turns m.pieces m.slots le keeps k map old (One y t) m.entries f values w (at_of s start turns m f map old values w k st) within settled u gives h in
      record {
        later = map;
        grown = grown_refl map;
        others = a.others;
        world = a.world;
        stands = standing_of s start turns (with_entries (asked (One y t) m.entries).entries m) h map old a.others a.world k keeps a.stands (ready_still s w a.world k a.near.arguments st.ready);
        alike = a.near.alike;
        left = λ place lt private none. a.near.same place (lone_by s locals body m.slots m.pieces m.entries f st.slots place none);
        private = λ place lt private. private;
        kept = λ g n lt. a.near.kept n lt;
        has = result_has s x (asked (One y t) m.entries).node map a.others a.world v u a.has (gives_word (seen s.body map values w) keeps st.stands.matches.sound.objects body.words (One y t) u settled gives) given;
      }
