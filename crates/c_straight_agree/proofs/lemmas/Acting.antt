-- A root that stores acts behind its operands, and the run stands behind it.
use Rattle.std.specs.Prelude.{◌≡◌, ◌≤◌, ℕ, suc, Bool, true, false, ◌||◌, Some, List, [], ◌∷◌, ◌++◌, length, slice_get, Option}
use Rattle.std.proofs.Common.{refl, sym, ap, subst, ◌∙◌, arith}
use Rattle.objects.specs.declared.value.Value.{Value}
use Rattle.op_forest.specs.declared.frame.Slot.{Slot}
use Rattle.op_forest.specs.declared.op.Op.{Op}
use Rattle.op_forest.specs.declared.op.Op.TheVariants as op
use Rattle.forests.specs.Actions as action
use Rattle.forests.specs.Actions.{Action, effect_of}
use Rattle.forests.specs.Alike.{AreAlike}
use Rattle.forests.specs.Bodies.{does}
use Rattle.forests.specs.Budgets.{with_left}
use Rattle.forests.specs.Kept.{Kept}
use Rattle.forests.proofs.lemmas.Kept.{does_kept, calls_kept}
use Rattle.forests.specs.Objects.{Object}
use Rattle.forests.specs.Rows.{acts}
use Rattle.forests.specs.Words.{Word}
use Rattle.forests.specs.Worlds.{World, Effect, Outcome, Next, Went, with_objects}
use Rattle.dag_forest.specs.declared.act.Act.TheVariants.{Acts}
use Rattle.dag_forest.specs.declared.entry.Entry.{Entry}
use Rattle.dag_forest.specs.declared.entry.Entry.TheVariants as entry
use Rattle.dag_forest.specs.declared.kids.Kids.TheVariants as kids
use Rattle.dag_forest.specs.declared.parts.Parts.{Parts}
use Rattle.dag_forest.specs.Entries.{is_write, is_call}
use Rattle.dag_forest.specs.Meaning.{Keeps, Temporary, is_end, Leaves, Acted, Through, RunsBehind, Runs}
use Rattle.dag_forest.specs.Schedules.{head_of, operands}
use Rattle.dag_forest.specs.Tally.{node_count}
use Rattle.dag_seam.specs.Turns.{made_of}
use Rattle.dag_seam.proofs.lemmas.Opening.{root_acts}
use Rattle.dag_seam.proofs.lemmas.Turns.{root_goes_on}
use Rattle.c_agreement.specs.Called.{AreValues}
use Rattle.c_runs.specs.Worlds as c
use Rattle.c_match.specs.Left.{IsPrivate}
use Rattle.c_match.specs.Ranges.{Map}
use Rattle.c_match_worlds.specs.Matches.{Matches}
use Rattle.c_rows_agree.specs.Templates.{Root}
use Rattle.c_rows_agree.proofs.lemmas.Once.{gives_once}
use Rattle.piece_runs.specs.Pieces.{Piece, Front}
use Rattle.piece_runs.specs.Reaches.{acting}
use Rattle.piece_runs.proofs.lemmas.Reached.{entries_are_reached}
use Rattle.piece_runs.proofs.lemmas.Tails.{keeps_are_same}
use Rattle.c_expr_agreement.specs.Scenes.{Scene, InFrame}
use Rattle.lowered_forms.specs.Asked.{with_kids, asked, rooted}
use Rattle.lowered_forms.specs.Blocks.{IsBlock, IsWithin}
use Rattle.lowered_forms.proofs.lemmas.Blocks.{asked_there, within_more, rooted_there}
use Rattle.lowered_forms.proofs.lemmas.Fronts.{front_before, asked_adds}
use Rattle.c_straight_agree.specs.Agreement.{IsTaken, IsLeftBut}
use Rattle.c_straight_agree.specs.Narrow.{CharsAreNarrow, ShortsAreNarrow}
use Rattle.c_straight_agree.specs.Settled.{seen, IsLone, IsSettled, IsNear}
use Rattle.c_straight_agree.specs.Standing.{IsBody}
use Rattle.c_straight_agree.specs.Stores.{IsStoring}
use Rattle.c_straight_agree.proofs.lemmas.AskedTemplates.{template_answers}
use Rattle.c_straight_agree.proofs.lemmas.At.{At, front_of, behind_same}
use Rattle.c_straight_agree.proofs.lemmas.Mild.{same_words, acts_on_two}
use Rattle.c_straight_agree.proofs.lemmas.Near.{near_itself, near_joins, near_gives, near_settled}
use Rattle.c_straight_agree.proofs.lemmas.Putting.{alike_length, still_free, frame_stays}

-- ---- one root

module _ (s : Scene) (start : ℕ → Outcome) (turns : ℕ) (done : List Piece) (slots : List Slot) (keeps : Keeps) (k : ℕ) (map : Map) (old new : c.World) (es : List Entry) (f : Front s.body.pieces done es) (values : ℕ → Word) (w : World) (st : At s start turns done slots keeps k map old es f values w) (x : Parts) (first second : Word)
    (after : List Object) (store : x.operator.op ≡ op.Asgn) (act : acts s.body.setting.environment (head_of x) (operands x.kids values) w.objects ≡ action.Stored after) where
  abbrev stored : World
  stored = with_objects w after

  acts_so : (left : ℕ) → does (acting s.body) (head_of x) (operands x.kids values) (with_left left w) ≡ Went [] (with_left left stored) Next
  acts_so left = ap (λ (z : Action). effect_of (acting s.body).call z (with_left left w)) act

  pub root_alike : AreAlike w.objects after
  root_alike =
      let kept = subst (Kept w) (acts_so 0) (does_kept (acting s.body) (calls_kept s.body.program) (head_of x) (operands x.kids values) (with_left 0 w)) in
      sym kept.shapes

  ends_so : is_end x ≡ true
  ends_so = ap (λ (o : Op). is_write o || is_call o) store

  module _ (same : (m : ℕ) (t : Temporary) → keeps m ≡ Some t → slice_get after t.object ≡ slice_get w.objects t.object) where
    leaves_so : Leaves (is_end x) keeps (made_of es) w stored
    leaves_so = subst (λ (b : Bool). Leaves b keeps (made_of es) w stored) (sym ends_so) (λ m t made kept. same m t kept)

    runs_so : (left : ℕ) → Runs (acting s.body) keeps (Acts x ∷ []) (made_of es) values (suc left) w (Through values (with_left left stored))
    runs_so left =
        subst (λ (e : Effect). Acted e (Through values (with_left left stored)) (λ p. Leaves (is_end x) keeps (made_of es) w p.world × RunsBehind false (acting s.body) keeps [] (made_of es) values p.left p.world (Through values (with_left left stored)))) (sym (acts_so left))
        (leaves_so, refl)

    -- the run stands behind it
    pub root_stands : (h : Front s.body.pieces done (es ++ entry.Root x ∷ [])) → IsBlock (es ++ entry.Root x ∷ []) → Matches s.lowered s.own map new stored → new.locals ≡ old.locals
        → ((place : ℕ) → IsPrivate map (c.objects old) place → IsPrivate map (c.objects new) place)
        → At s start turns done slots keeps k map new (es ++ entry.Root x ∷ []) h values stored
    root_stands h block matches locals private =
        let on = root_goes_on es st.none_waits x in
        record {
          block = block;
          none_waits = on.1;
          behind = behind_same s.body slots done es (es ++ entry.Root x ∷ []) f h st.behind;
          reaches = entries_are_reached s.body start turns done es (entry.Root x ∷ []) (Acts x ∷ []) f h values values w stored k k on st.reaches
              (λ left. (suc left, omega arith, subst (λ (ks : Keeps). Runs (acting s.body) ks (Acts x ∷ []) (made_of es) values (suc left) w (Through values (with_left left stored))) (sym st.keeps_is) (runs_so left)));
          matches = matches;
          frame = record {
            locals = subst (λ (vs : List Value). AreValues map vs s.frame.addresses) (sym locals) st.frame.locals;
            others = frame_stays s map map old new w stored root_alike private st.frame.others;
          };
          opened = root_acts (acting s.body) keeps (calls_kept s.body.program) es values w st.opened x 0 [] (with_left 0 stored) Next (acts_so 0) leaves_so;
          free = still_free s w stored root_alike st.free;
          keeps_is = sym (keeps_are_same s.body done es (es ++ entry.Root x ∷ []) f h) ∙ st.keeps_is;
        }

-- ---- with its operands

alike_joins : (a b c : List Object) → AreAlike a b → AreAlike b c → AreAlike a c
alike_joins a b c p q = p ∙ q

same_objects : (a b c : Option Object) → a ≡ b → b ≡ c → a ≡ c
same_objects a b c p q = p ∙ q

-- The run stands behind the root. Before it the world was this one, with temporaries of its operands.
pub record Stored (s : Scene) (start : ℕ → Outcome) (turns : ℕ) (done : List Piece) (slots : List Slot) (keeps : Keeps) (k : ℕ) (map : Map) (old new : c.World) (n : ℕ) (values : ℕ → Word) (w : World) (r : Root) (es : List Entry) (h : Front s.body.pieces done es) : Type 0 where
  pub others : ℕ → Word
  pub world : World
  pub near : IsNear keeps n values others w world
  pub storing : IsStoring s (length slots) keeps map old new others world r
  pub stored : World
  pub writes : stored.objects ≡ storing.after
  pub alike : AreAlike w.objects stored.objects
  pub arguments : stored.arguments ≡ w.arguments
  pub left : IsLeftBut s (length slots) map (c.objects old) w.objects stored.objects
  pub stands : At s start turns done slots keeps k map new es h others stored

module _ (chars : CharsAreNarrow) (shorts : ShortsAreNarrow) (s : Scene) (locals : ℕ) (body : IsBody s locals) (start : ℕ → Outcome) (turns : ℕ) (done : List Piece) (slots : List Slot) (le : locals ≤ length slots) (keeps : Keeps) (k : ℕ) (map : Map) (old new : c.World) where
  pub root_is_stored : (r : Root) → r.head.operator.op ≡ op.Asgn → (es : List Entry) (f : Front s.body.pieces done es) (values : ℕ → Word) (w : World) → At s start turns done slots keeps k map old es f values w
      → IsWithin (node_count es) r.left → IsWithin (node_count es) r.right → IsSettled keeps (seen s.body map values w) r.left → IsSettled keeps (seen s.body map values w) r.right
      → ((others : ℕ → Word) (world : World) → IsNear keeps (node_count es) values others w world → Matches s.lowered s.own map old world → InFrame s.frame map old world → IsStoring s (length slots) keeps map old new others world r)
      → ((place : ℕ) → (IsTaken s (length slots) place → ⊥) → IsLone keeps place)
      → (h : Front s.body.pieces done (rooted r es)) → Stored s start turns done slots keeps k map old new (node_count es) values w r (rooted r es) h
  root_is_stored r store es f values w st within_a within_b settled_a settled_b storing lone h =
      let first = asked r.left es in
      let fs = first.entries in
      let second = asked r.right fs in
      let gs = second.entries in
      let x = with_kids r.head (kids.Two first.node second.node) in
      let there = asked_there r.left es st.block within_a in
      let later_b = within_more (node_count es) (node_count fs) r.right there.others within_b in
      let there_b = asked_there r.right fs there.block later_b in
      let g = front_of s.body.pieces done gs (gs ++ entry.Root x ∷ []) (front_before gs (entry.Root x ∷ [])) h in
      let g0 = front_of s.body.pieces done fs gs (asked_adds r.right fs).front g in
      let now = storing values w (near_itself keeps (node_count es) values w) st.matches st.frame in
      let m = template_answers chars shorts s locals body start turns done slots le keeps k map old r.left es f values w st within_a settled_a now.acts.first now.acts.left g0 in
      let settled = near_settled keeps s.body map map (node_count es) values m.others w m.world m.near r.right now.acts.second within_b settled_b now.acts.right in
      let gives = near_gives keeps s.body map map (node_count es) values m.others w m.world m.near r.right now.acts.second within_b settled_b now.acts.right in
      let n = template_answers chars shorts s locals body start turns done slots le keeps k map old r.right fs g0 m.others m.world m.stands later_b settled now.acts.second gives g in
      let near = near_joins keeps (node_count es) (node_count fs) values m.others n.others w m.world n.world there.others m.near n.near in
      let then = storing n.others n.world near n.stands.matches n.stands.frame in
      let k1 = seen s.body map n.others n.world in
      let left = near_gives keeps s.body map map (node_count es) values n.others w n.world near r.left now.acts.first within_a settled_a now.acts.left in
      let right = near_gives keeps s.body map map (node_count es) values n.others w n.world near r.right now.acts.second within_b settled_b now.acts.right in
      let first_is = same_words (n.others first.node) now.acts.first then.acts.first (same_words (n.others first.node) (m.others first.node) now.acts.first (n.near.kept first.node there.below) m.has) (gives_once k1 r.left now.acts.first then.acts.first left then.acts.left) in
      let second_is = same_words (n.others second.node) now.acts.second then.acts.second n.has (gives_once k1 r.right now.acts.second then.acts.second right then.acts.right) in
      let act = acts_on_two s.body.setting.environment r.head n.world.objects (n.others first.node) (n.others second.node) then.acts.first then.acts.second (action.Stored then.after) first_is second_is then.acts.does in
      let alike = root_alike s start turns done slots keeps k map old new gs g n.others n.world n.stands x then.acts.first then.acts.second then.after store act in
      record {
        others = n.others;
        world = n.world;
        near = near;
        storing = then;
        stored = with_objects n.world then.after;
        writes = refl {a = then.after};
        alike = alike_joins w.objects n.world.objects then.after near.alike alike;
        arguments = near.arguments;
        left = λ place lt private none.
            same_objects (slice_get then.after place) (slice_get n.world.objects place) (slice_get w.objects place) (then.left place (let l = alike_length w.objects n.world.objects near.alike in omega (arith, lt, l)) private none) (near.same place (lone place none));
        stands = root_stands s start turns done slots keeps k map old new gs g n.others n.world n.stands x then.acts.first then.acts.second then.after store act then.kept h (rooted_there r es st.block within_a within_b).0 then.matches then.locals then.private;
      }
