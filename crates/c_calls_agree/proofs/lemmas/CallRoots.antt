-- A root that calls, and what the run comes to behind it.
use Rattle.std.specs.Prelude.{◌≡◌, ◌≤◌, ◌<◌, ◌⊎◌, ℕ, suc, ◌+◌, false, Option, Some, None, List, [], ◌∷◌, ◌++◌, length}
use Rattle.std.proofs.Common.{⊎_elim, refl, sym, ap, subst, ◌∙◌, arith}
use Rattle.objects.specs.declared.value.Value.{Value}
use Rattle.objects.specs.declared.value.Value.TheVariants.{Function}
use Rattle.op_forest.specs.declared.frame.Slot.{Slot}
use Rattle.forests.specs.Actions as action
use Rattle.forests.specs.Actions.{Action, effect_of, handed}
use Rattle.forests.specs.Alike.{AreAlike}
use Rattle.forests.specs.Bodies.{does}
use Rattle.forests.specs.Budgets.{with_left}
use Rattle.forests.specs.Functions.{Program}
use Rattle.forests.specs.Further.{Further}
use Rattle.forests.specs.Kept.{Kept}
use Rattle.forests.proofs.lemmas.Kept.{does_kept, calls_kept}
use Rattle.forests.specs.Meaning.{call_of}
use Rattle.forests.proofs.lemmas.OneRoot.{calls_further}
use Rattle.forests.specs.Words.{Word, Plain}
use Rattle.forests.specs.Worlds.{World, Effect, Outcome, Next, Went, then_do}
use Rattle.dag_forest.specs.declared.act.Act.TheVariants.{Acts}
use Rattle.dag_forest.specs.declared.entry.Entry.{Entry}
use Rattle.dag_forest.specs.declared.entry.Entry.TheVariants as entry
use Rattle.dag_forest.specs.declared.kids.Kids.TheVariants as kids
use Rattle.dag_forest.specs.declared.parts.Parts.{Parts}
use Rattle.dag_forest.specs.Meaning.{Keeps, Temporary, is_end, Leaves, Acted, Ran, Through, Exited, Out, RunsBehind, Runs}
use Rattle.dag_forest.specs.Schedules.{head_of, operands}
use Rattle.dag_forest.specs.Tally.{node_count}
use Rattle.dag_seam.specs.SplitLaws.{TurnsMean}
use Rattle.dag_seam.specs.Turns.{made_of}
use Rattle.dag_seam.proofs.lemmas.Opening.{root_acts}
use Rattle.dag_seam.proofs.lemmas.Turns.{root_goes_on}
use Rattle.c_runs.specs.Outcomes.{Undefined, OutOfTurns, Exit, Result, Gives, GivesNone, Ends}
use Rattle.c_runs.specs.Worlds as c
use Rattle.c_match.specs.Left.{IsPrivate}
use Rattle.c_match.specs.Ranges.{Map, Grown}
use Rattle.c_match.proofs.lemmas.Growing.{value_grows}
use Rattle.c_match_worlds.specs.Matches.{Matches}
use Rattle.c_agreement.specs.Called.{AreValues}
use Rattle.c_rows_agree.specs.Typed.{Typed, as_p}
use Rattle.c_rows_agree.proofs.lemmas.Suffixes.{p_gives}
use Rattle.c_pointers_agree.specs.Pointers.{call_head}
use Rattle.piece_runs.specs.Pieces.{Piece, Front}
use Rattle.piece_runs.specs.Reaches.{acting, keeps_at, Stops, Leaves as LeavesRun}
use Rattle.piece_runs.proofs.lemmas.Ended.{over_is_reached}
use Rattle.piece_runs.proofs.lemmas.Reached.{entries_are_reached}
use Rattle.piece_runs.proofs.lemmas.Tails.{keeps_are_same}
use Rattle.c_expr_agreement.specs.Scenes.{Scene}
use Rattle.lowered_forms.specs.Asked.{with_kids, asked}
use Rattle.lowered_forms.specs.Blocks.{IsBlock, IsWithin}
use Rattle.lowered_forms.specs.Calls.{called}
use Rattle.lowered_forms.specs.Lows.{Low, with_entries}
use Rattle.lowered_forms.proofs.lemmas.Blocks.{rooted_one_there}
use Rattle.lowered_forms.proofs.lemmas.Fronts.{front_before}
use Rattle.lowered_forms.proofs.lemmas.WithinTemplates.{as_p_in}
use Rattle.c_straight_agree.specs.Agreement.{HasWord, Came, CameTo, without_value}
use Rattle.c_straight_agree.specs.Lasting.{LastingValue}
use Rattle.c_straight_agree.specs.Narrow.{CharsAreNarrow, ShortsAreNarrow}
use Rattle.c_straight_agree.specs.Settled.{seen, IsNear}
use Rattle.c_straight_agree.specs.Standing.{IsBody}
use Rattle.c_straight_agree.proofs.lemmas.AskedTemplates.{template_answers}
use Rattle.c_straight_agree.proofs.lemmas.At.{At, front_of, behind_same, standing_of}
use Rattle.c_straight_agree.proofs.lemmas.Lasting.{lasting_settled}
use Rattle.c_straight_agree.proofs.lemmas.Kept.{any_slot}
use Rattle.c_straight_agree.proofs.lemmas.Mild.{acts_on_one}
use Rattle.c_straight_agree.proofs.lemmas.Placing.{lone_by}
use Rattle.c_straight_agree.proofs.lemmas.Putting.{alike_length, slot_is_private, still_free, frame_stays}
use Rattle.c_straight_agree.proofs.lemmas.SettledTemplates.{as_p_set}
use Rattle.c_calls_agree.specs.Given.{CallReturned, CallExited, CallStopped, NoneLeft, CallCame}
use Rattle.c_calls_agree.specs.Laws.{CallRootsAreMade}
use Rattle.c_calls_agree.specs.Passing.{Passing}
use Rattle.c_calls_agree.proofs.lemmas.Words.{at_passing}

-- ---- calls with more steps

pub call_goes_on : (g : Program) (name steps left : ℕ) (w world : World) (word : Word) → call_of g name (with_left steps w) ≡ Went (word ∷ []) (with_left 0 world) Next → call_of g name (with_left (steps + left) w) ≡ Went (word ∷ []) (with_left left world) Next
call_goes_on g name steps left w world word e =
    let h : Further steps left (Went (word ∷ []) (with_left 0 world) Next) (call_of g name (with_left (steps + left) w)) =
    subst (λ (z : Effect). Further steps left z (call_of g name (with_left (steps + left) w))) e (calls_further g (suc steps) left name (with_left steps w) (omega arith)) in
    let none : 0 + left ≡ left = omega arith in
    h.1 ∙ ap (λ (n : ℕ). Went (word ∷ []) (with_left n world) Next) none

pub values_grow : (map later : Map) → Grown map later → (vs : List Value) (ws : List Word) → AreValues map vs ws → AreValues later vs ws
values_grow map later grown [] [] h = tt
values_grow map later grown [] (w ∷ ws) h = absurd h
values_grow map later grown (v ∷ vs) [] h = absurd h
values_grow map later grown (v ∷ vs) (w ∷ ws) h = (value_grows map later v w grown h.0, values_grow map later grown vs ws h.1)

-- ---- a temporary holds nothing of C

pub temporary_is_private : (s : Scene) (locals : ℕ) → IsBody s locals → (start : ℕ → Outcome) (turns : ℕ) (done : List Piece) (slots : List Slot) → locals ≤ length slots → (keeps : Keeps) (k : ℕ) (map : Map) (old : c.World) (es : List Entry) (f : Front s.body.pieces done es) (values : ℕ → Word) (w : World)
    → At s start turns done slots keeps k map old es f values w → (m : ℕ) (t : Temporary) → keeps m ≡ Some t → (t.object < length w.objects) × IsPrivate map (c.objects old) t.object
temporary_is_private s locals body start turns done slots le keeps k map old es f values w st m t kept =
    let slot = (any_slot s locals body slots done es f st.behind m t (ap (λ (z : Keeps). z m) st.keeps_is ∙ kept)).1 in
    subst (λ (place : ℕ). (place < length w.objects) × IsPrivate map (c.objects old) place) (sym (ap (λ (z : Temporary). z.object) slot.is)) (slot_is_private s locals body slots le map old slot.number slot.slot w st.frame slot.behind slot.there)

-- ---- one root

module _ (means : TurnsMean) (s : Scene) (locals : ℕ) (body : IsBody s locals) (start : ℕ → Outcome) (turns : ℕ) (done : List Piece) (slots : List Slot) (le : locals ≤ length slots) (keeps : Keeps) (k : ℕ) (map : Map) (old : c.World) (es : List Entry) (f : Front s.body.pieces done es) (values : ℕ → Word) (w : World)
    (st : At s start turns done slots keeps k map old es f values w) (node function : ℕ) (is : values node ≡ Plain (Function function)) where
  abbrev x : Parts
  x = with_kids (call_head false) (kids.One node)

  calls_so : (left : ℕ) → does (acting s.body) (head_of x) (operands x.kids values) (with_left left w) ≡ then_do (call_of s.body.program function (with_left left w)) (λ ws p. handed false ws p)
  calls_so left = ap (λ (z : Action). effect_of (acting s.body).call z (with_left left w)) (acts_on_one s.body.setting.environment (call_head false) w.objects (values node) (Plain (Function function)) (action.Called false function) is refl)

  -- ---- it returns

  module _ (place v : Option Value) (j : ℕ) (new : c.World) (r : CallReturned s map old w k function place v j new) where
    returns_so : (left : ℕ) → does (acting s.body) (head_of x) (operands x.kids values) (with_left (r.steps + left) w) ≡ Went [] (with_left left r.world) Next
    returns_so left = calls_so (r.steps + left) ∙ ap (λ (e : Effect). then_do e (λ ws p. handed false ws p)) (call_goes_on s.body.program function r.steps left w r.world r.word r.runs)

    still : Leaves (is_end x) keeps (made_of es) w r.world
    still = λ m t made kept. let p = temporary_is_private s locals body start turns done slots le keeps k map old es f values w st m t kept in r.left t.object p.0 p.1

    pub call_alike : AreAlike w.objects r.world.objects
    call_alike =
        let kept = subst (Kept w) (returns_so 0) (does_kept (acting s.body) (calls_kept s.body.program) (head_of x) (operands x.kids values) (with_left (r.steps + 0) w)) in
        sym kept.shapes

    runs_so : (left : ℕ) → Runs (acting s.body) keeps (Acts x ∷ []) (made_of es) values (suc (r.steps + left)) w (Through values (with_left left r.world))
    runs_so left =
        subst (λ (e : Effect). Acted e (Through values (with_left left r.world)) (λ p. Leaves (is_end x) keeps (made_of es) w p.world × RunsBehind false (acting s.body) keeps [] (made_of es) values p.left p.world (Through values (with_left left r.world)))) (sym (returns_so left))
        (still, refl)

    -- the run stands behind it
    pub call_stands : (h : Front s.body.pieces done (es ++ entry.Root x ∷ [])) → IsBlock (es ++ entry.Root x ∷ []) → At s start turns done slots keeps j r.later new (es ++ entry.Root x ∷ []) h values r.world
    call_stands h block =
        let on = root_goes_on es st.none_waits x in
        record {
          block = block;
          none_waits = on.1;
          behind = behind_same s.body slots done es (es ++ entry.Root x ∷ []) f h st.behind;
          reaches = entries_are_reached s.body start turns done es (entry.Root x ∷ []) (Acts x ∷ []) f h values values w r.world k j on st.reaches
              (λ left. (suc (r.steps + left), (let l = r.paid in omega (arith, l)), subst (λ (ks : Keeps). Runs (acting s.body) ks (Acts x ∷ []) (made_of es) values (suc (r.steps + left)) w (Through values (with_left left r.world))) (sym st.keeps_is) (runs_so left)));
          matches = r.matches;
          frame = record {
            locals = subst (λ (vs : List Value). AreValues r.later vs s.frame.addresses) (sym r.locals) (values_grow map r.later r.grown old.locals s.frame.addresses st.frame.locals);
            others = frame_stays s map r.later old new w r.world call_alike r.private st.frame.others;
          };
          opened = root_acts (acting s.body) keeps (calls_kept s.body.program) es values w st.opened x (r.steps + 0) [] (with_left 0 r.world) Next (returns_so 0) still;
          free = still_free s w r.world call_alike st.free;
          keeps_is = sym (keeps_are_same s.body done es (es ++ entry.Root x ∷ []) f h) ∙ st.keeps_is;
        }

  -- ---- it ends the run

  module _ (h : Front s.body.pieces done (es ++ entry.Root x ∷ [])) where
    ended_so : (inside : ℕ) (r : Ran) → Runs (acting s.body) keeps (Acts x ∷ []) (made_of es) values inside w r → Runs (acting s.body) (keeps_at s.body done es f) (Acts x ∷ []) (made_of es) values inside w r
    ended_so inside r runs = subst (λ (ks : Keeps). Runs (acting s.body) ks (Acts x ∷ []) (made_of es) values inside w r) (sym st.keeps_is) runs

    pub call_exits : (status : ℕ) (new : c.World) → (r : CallExited s map w function status new) → LeavesRun start status r.world
    call_exits status new r =
        let e = calls_so r.steps ∙ ap (λ (z : Effect). then_do z (λ ws p. handed false ws p)) r.runs in
        let runs = subst (λ (z : Effect). Acted z (Exited status r.world) (λ p. Leaves (is_end x) keeps (made_of es) w p.world × RunsBehind false (acting s.body) keeps [] (made_of es) values p.left p.world (Exited status r.world))) (sym e) refl in
        let o = over_is_reached means s.body body.split start turns done es (entry.Root x ∷ []) (Acts x ∷ []) f h values w k (root_goes_on es st.none_waits x) st.reaches (suc r.steps) (Exited status r.world) tt (ended_so (suc r.steps) (Exited status r.world) runs) in
        record { steps = o.steps; is = o.is }

    pub call_stops : (new : c.World) → CallStopped s w k function new ⊎ NoneLeft w k new → Stops start turns new.trace
    call_stops new ends = ⊎_elim
        (λ r.
        let e = calls_so r.steps ∙ ap (λ (z : Effect). then_do z (λ ws p. handed false ws p)) r.runs in
        let runs = subst (λ (z : Effect). Acted z (Out r.world) (λ p. Leaves (is_end x) keeps (made_of es) w p.world × RunsBehind false (acting s.body) keeps [] (made_of es) values p.left p.world (Out r.world))) (sym e) refl in
        let o = over_is_reached means s.body body.split start turns done es (entry.Root x ∷ []) (Acts x ∷ []) f h values w k (root_goes_on es st.none_waits x) st.reaches (suc r.steps) (Out r.world) tt (ended_so (suc r.steps) (Out r.world) runs) in
        record { steps = o.steps; world = r.world; is = o.is; paid = (let a = o.paid in let b = r.paid in omega (arith, a, b)); seen = r.seen })
        (λ r.
        let o = over_is_reached means s.body body.split start turns done es (entry.Root x ∷ []) (Acts x ∷ []) f h values w k (root_goes_on es st.none_waits x) st.reaches 0 (Out w) tt (ended_so 0 (Out w) refl) in
        record { steps = o.steps; world = w; is = o.is; paid = (let a = o.paid in let b = r.0 in omega (arith, a, b)); seen = r.1 })
        ends

-- ---- with its operand

module _ (chars : CharsAreNarrow) (shorts : ShortsAreNarrow) (means : TurnsMean) (s : Scene) (locals : ℕ) (body : IsBody s locals) (start : ℕ → Outcome) (turns : ℕ) (m : Low) (le : locals ≤ length m.slots) (f : Front s.body.pieces m.pieces m.entries) (map : Map) (old : c.World) (values : ℕ → Word) (w : World) (k : ℕ) (vs : List Value)
    (st : Passing s start turns m f map old values w k vs) (g : Typed) (function : ℕ) (within : IsWithin (node_count m.entries) g.tree) (has : LastingValue s locals (length m.slots) g map values w (Function function)) where
  abbrev keeps : Keeps
  keeps = keeps_at s.body m.pieces m.entries f

  module _ (es : List Entry) (front : Front s.body.pieces m.pieces es) (others : ℕ → Word) (world : World) (at : At s start turns m.pieces m.slots keeps k map old es front others world) (node : ℕ) (is : others node ≡ Plain (Function function)) (near : IsNear keeps (node_count m.entries) values others w world)
      (h : Front s.body.pieces m.pieces (es ++ entry.Root (with_kids (call_head false) (kids.One node)) ∷ [])) (block : IsBlock (es ++ entry.Root (with_kids (call_head false) (kids.One node)) ∷ [])) (a : Typed) (has_word : (later : Map) (others : ℕ → Word) (world : World) → HasWord s a later others world) where
    abbrev after : Low
    after = with_entries (es ++ entry.Root (with_kids (call_head false) (kids.One node)) ∷ []) m

    behind_call : (place v : Option Value) (j : ℕ) (new : c.World) → CallReturned s map old world k function place v j new → Came s start turns m after h a map old values w None new j
    behind_call place v j new r =
        let alike = call_alike means s locals body start turns m.pieces m.slots le keeps k map old es front others world at node function is place v j new r in
        record {
          later = r.later;
          grown = r.grown;
          others = others;
          world = r.world;
          stands = standing_of s start turns after h r.later new others r.world j keeps (call_stands means s locals body start turns m.pieces m.slots le keeps k map old es front others world at node function is place v j new r h block)
              (record { arguments = r.arguments; callees = λ i lt there. st.callees i (let l = r.fewer in omega (arith, lt, l)) there });
          alike = near.alike ∙ alike;
          left = λ p lt private none.
              r.left p (let l = alike_length w.objects world.objects near.alike in omega (arith, lt, l)) private
              ∙ near.same p (lone_by s locals body m.slots m.pieces m.entries f st.slots p none);
          private = λ p lt private. r.private p private;
          kept = λ grows n lt. near.kept n lt;
          has = has_word r.later others r.world;
        }

    made_by : (place : Option Value) (r : Result) → CallCame s map old world k function place r → CameTo s start turns m after h a map old values w (without_value r)
    made_by place (Gives v j new) came = behind_call place (Some v) j new came
    made_by place (GivesNone line j new) came = behind_call place None j new came
    made_by place (Ends (Undefined cause line) new) came = tt
    made_by place (Ends OutOfTurns new) came = call_stops means s locals body start turns m.pieces m.slots le keeps k map old es front others world at node function is h new came
    made_by place (Ends (Exit status) new) came = record {
      later = came.later;
      grown = came.grown;
      world = came.world;
      leaves = call_exits means s locals body start turns m.pieces m.slots le keeps k map old es front others world at node function is h status new came;
      matches = came.matches;
    }

  pub root_is_made : (place : Option Value) (r : Result) → ((world : World) → AreAlike w.objects world.objects → Matches s.lowered s.own map old world → AreValues map vs world.arguments → CallCame s map old world k function place r)
      → (h : Front s.body.pieces (called g m).pieces (called g m).entries) (a : Typed) → ((later : Map) (others : ℕ → Word) (world : World) → HasWord s a later others world) → CameTo s start turns m (called g m) h a map old values w (without_value r)
  root_is_made place r come h a has_word =
      let here = seen s.body map values w in
      let t = as_p g in
      let gs = (asked t m.entries).entries in
      let node = (asked t m.entries).node in
      let at = at_passing s start turns m f map old values w k vs st in
      let inside = as_p_in (node_count m.entries) g.suffix g.tree within in
      let settled = as_p_set keeps here g.suffix g.tree (lasting_settled s locals body m f st.slots (length m.slots) (omega arith) map values w g (Function function) has) in
      let front = front_of s.body.pieces m.pieces gs (gs ++ entry.Root (with_kids (call_head false) (kids.One node)) ∷ []) (front_before gs (entry.Root (with_kids (call_head false) (kids.One node)) ∷ [])) h in
      let n = template_answers chars shorts s locals body start turns m.pieces m.slots le keeps k map old t m.entries f values w at inside settled has.holds.word (p_gives here g.suffix g.tree has.holds.word has.holds.gives) front in
      made_by gs front n.others n.world n.stands node (n.has ∙ has.holds.is) n.near h (rooted_one_there (call_head false) t m.entries st.block inside).0 a has_word place r
      (come n.world n.near.alike n.stands.matches (subst (λ (ws : List Word). AreValues map vs ws) (sym n.near.arguments) st.words))

pub call_roots_are_made : CharsAreNarrow → ShortsAreNarrow → TurnsMean → CallRootsAreMade
call_roots_are_made chars shorts means s locals body program start turns m le f map old values w k vs st g function within has place r come h a has_word =
    root_is_made chars shorts means s locals body start turns m le f map old values w k vs st g function within has place r come h a has_word
