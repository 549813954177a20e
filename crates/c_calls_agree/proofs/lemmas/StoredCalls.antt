-- A call whose value is stored in a slot by the root behind it.
use Rattle.std.specs.Prelude.{◌≡◌, ◌≤◌, ◌<◌, ◌⊎◌, ℕ, suc, ◌+◌, ◌==◌, ◌||◌, ℤ, true, false, Option, Some, None, List, [], ◌∷◌, ◌++◌, length, slice_get, is_none}
use Rattle.std.proofs.Common.{⊎_elim, refl, sym, ap, subst, ◌∙◌, arith, append_assoc}
use Rattle.std.proofs.lemmas.Bool.{eq-eqb}
use Rattle.std.proofs.lemmas.Option.{slice_get_within}
use Rattle.lcc_base.specs.declared.cause.Cause.{Cause}
use Rattle.objects.specs.declared.value.Value.{Value}
use Rattle.objects.specs.declared.value.Value.TheVariants.{Pointer, Function}
use Rattle.op_forest.specs.declared.frame.Slot.{Slot}
use Rattle.op_forest.specs.declared.op.Op.TheVariants as op
use Rattle.op_forest.specs.declared.suffix.Suffix.TheVariants.{I}
use Rattle.forests.specs.Actions as action
use Rattle.forests.specs.Actions.{Action, effect_of, changed, handed}
use Rattle.forests.specs.Alike.{AreAlike}
use Rattle.forests.specs.Bodies.{does}
use Rattle.forests.specs.Budgets.{with_left}
use Rattle.forests.specs.Kept.{Kept}
use Rattle.forests.proofs.lemmas.Kept.{calls_kept}
use Rattle.forests.specs.Meaning.{call_of}
use Rattle.forests.specs.Objects.{stored_through}
use Rattle.forests.specs.Rows.{acts}
use Rattle.forests.specs.WordBytes.{word_bytes}
use Rattle.forests.proofs.lemmas.WordLaws.{stored_elsewhere, word_is_read}
use Rattle.forests.specs.Words.{Word, Plain}
use Rattle.forests.specs.Worlds.{World, Effect, Outcome, Next, Went, then_do}
use Rattle.dag_forest.specs.declared.act.Act.TheVariants.{Made, Acts}
use Rattle.dag_forest.specs.declared.entry.Entry.{Entry}
use Rattle.dag_forest.specs.declared.entry.Entry.TheVariants as entry
use Rattle.dag_forest.specs.declared.kids.Kids.TheVariants as kids
use Rattle.dag_forest.specs.declared.kind.Kind.TheVariants.{Signed}
use Rattle.dag_forest.specs.declared.parts.Parts.{Parts}
use Rattle.dag_forest.specs.Meaning.{Keeps, Temporary, IsTemporary, IsThere, Same, Ran, Through, Exited, Out, Runs}
use Rattle.dag_forest.specs.Schedules.{at, head_of, operands, is_in, kids_list}
use Rattle.dag_forest.specs.Slots.{slot_temporary}
use Rattle.dag_forest.specs.Split.{slot_name}
use Rattle.dag_forest.specs.Tally.{keys_of, node_count}
use Rattle.dag_seam.specs.Laws.{GoesOn}
use Rattle.dag_seam.specs.SplitLaws.{TurnsMean}
use Rattle.dag_seam.specs.Turns.{made_of}
use Rattle.dag_seam.proofs.lemmas.Keys.{count_keys}
use Rattle.dag_seam.proofs.lemmas.Opening.{call_holds}
use Rattle.dag_forest.proofs.lemmas.Maps.{at_new, at_old}
use Rattle.dag_seam.proofs.lemmas.Turns.{call_goes_on as goes_on_call}
use Rattle.dag_seam.proofs.lemmas.Within.{or_left, or_right}
use Rattle.c_runs.specs.Worlds as c
use Rattle.c_match.specs.Left.{IsPrivate}
use Rattle.c_match.specs.Ranges.{Map}
use Rattle.c_match_worlds.specs.Matches.{Matches}
use Rattle.c_agreement.specs.Called.{AreValues}
use Rattle.c_rows_agree.specs.Typed.{head}
use Rattle.c_pointers_agree.specs.Pointers.{call_head}
use Rattle.piece_runs.specs.Pieces.{Piece, Front}
use Rattle.piece_runs.specs.Reaches.{acting, keeps_at, Stops, Leaves as LeavesRun}
use Rattle.piece_runs.proofs.lemmas.Ended.{over_is_reached}
use Rattle.piece_runs.proofs.lemmas.Reached.{entries_are_reached}
use Rattle.piece_runs.proofs.lemmas.Tails.{keeps_are_same}
use Rattle.c_expr_agreement.specs.Scenes.{Scene, InFrame}
use Rattle.lowered_forms.specs.Asked.{with_kids}
use Rattle.lowered_forms.specs.Blocks.{IsBlock}
use Rattle.c_straight_agree.specs.Agreement.{IsTaken, IsLeftBut}
use Rattle.c_straight_agree.specs.Standing.{IsBody, AreFree}
use Rattle.c_straight_agree.proofs.lemmas.At.{At, front_of, behind_same}
use Rattle.c_straight_agree.proofs.lemmas.Kept.{any_slot, last_slot}
use Rattle.c_straight_agree.proofs.lemmas.Mild.{acts_on_one, acts_on_two}
use Rattle.c_straight_agree.proofs.lemmas.Putting.{still_free, frame_stays, put_in, put_alike, put_matches, put_frame}
use Rattle.c_slots_agree.specs.Slots.{IsSlotAt, SlotHolds}
use Rattle.c_slots_agree.proofs.lemmas.Storing.{word_into}
use Rattle.c_calls_agree.specs.Given.{CallReturned, CallExited, CallStopped, NoneLeft}
use Rattle.c_calls_agree.proofs.lemmas.CallRoots.{call_goes_on, values_grow, temporary_is_private}
use Rattle.c_calls_agree.proofs.lemmas.NewCalls.{plain_call, kept_call, exited_call, stopped_call, no_step_call, root_shares, root_steps}

used_second : (n a m : ℕ) → m ≡ n → is_in n (a ∷ m ∷ []) ≡ true
used_second n a m same = or_right (n == a) ((n == m) || false) (or_left (n == m) false (eq-eqb n m (sym same)))

-- ---- what stands behind a call and the root that stores its value

-- The run stands there, the slot holds the word, and what held nothing of C is as it was, but for the slot and those behind it.
pub record StoredBehind (s : Scene) (start : ℕ → Outcome) (turns : ℕ) (done : List Piece) (slots : List Slot) (keeps : Keeps) (j : ℕ) (before later : Map) (old new : c.World) (es : List Entry) (h : Front s.body.pieces done es) (others : ℕ → Word) (w : World) (number : ℕ) (word : Word) : Type 0 where
  pub world : World
  pub stands : At s start turns done slots keeps j later new es h others world
  pub alike : AreAlike w.objects world.objects
  pub left : IsLeftBut s number before (c.objects old) w.objects world.objects
  pub arguments : world.arguments ≡ []
  pub holds : SlotHolds s number word world

-- ---- a call and the root behind it

module _ (means : TurnsMean) (s : Scene) (locals : ℕ) (body : IsBody s locals) (start : ℕ → Outcome) (turns : ℕ) (done : List Piece) (slots : List Slot) (le : locals ≤ length slots) (keeps : Keeps) (k : ℕ) (map : Map) (old : c.World) (es : List Entry) (f : Front s.body.pieces done es) (values : ℕ → Word) (w : World)
    (st : At s start turns done slots keeps k map old es f values w) (first second function number : ℕ) (offset : ℤ) (slot_at : IsSlotAt s number offset) (before : number < length slots) (first_below : first < node_count es) (second_below : second < node_count es)
    (address : values first ≡ Plain (Pointer (slot_name s.body.setting.environment.home number) 0)) (is : values second ≡ Plain (Function function)) where
  abbrev call_node : Parts
  call_node = with_kids (call_head true) (kids.One second)

  abbrev x : Parts
  x = with_kids (head op.Asgn I) (kids.Two first (length (keys_of es)))

  abbrev n : ℕ
  n = node_count es

  abbrev both : List Entry
  both = es ++ entry.Value call_node ∷ entry.Root x ∷ []

  used : is_in n (kids_list x.kids) ≡ true
  used = used_second n first (length (keys_of es)) (count_keys es)

  on : GoesOn es (entry.Value call_node ∷ entry.Root x ∷ []) (Made n call_node ∷ Acts x ∷ [])
  on = goes_on_call es st.none_waits call_node x refl used

  calls_so : (left : ℕ) → does (acting s.body) (head_of call_node) (operands call_node.kids values) (with_left left w) ≡ then_do (call_of s.body.program function (with_left left w)) (λ ws p. handed true ws p)
  calls_so left = ap (λ (z : Action). effect_of (acting s.body).call z (with_left left w)) (acts_on_one s.body.setting.environment (call_head true) w.objects (values second) (Plain (Function function)) (action.Called true function) is refl)

  -- no temporary is in the slot
  elsewhere : (m : ℕ) (t : Temporary) → keeps m ≡ Some t → t.object ≡ s.body.setting.environment.home.place + number → ⊥
  elsewhere m t kept same =
      let slot = (any_slot s locals body slots done es f st.behind m t (ap (λ (z : Keeps). z m) st.keeps_is ∙ kept)).1 in
      let object : t.object ≡ s.body.setting.environment.home.place + slot.number = ap (λ (z : Temporary). z.object) slot.is in
      let b = slot.behind in
      omega (arith, object, same, b, before)

  -- ---- it ends the run

  module _ (h : Front s.body.pieces done both) where
    at_front : (inside : ℕ) (r : Ran) → Runs (acting s.body) keeps (Made n call_node ∷ Acts x ∷ []) (made_of es) values inside w r → Runs (acting s.body) (keeps_at s.body done es f) (Made n call_node ∷ Acts x ∷ []) (made_of es) values inside w r
    at_front inside r runs = subst (λ (ks : Keeps). Runs (acting s.body) ks (Made n call_node ∷ Acts x ∷ []) (made_of es) values inside w r) (sym st.keeps_is) runs

    pub stored_exits : (status : ℕ) (new : c.World) → (r : CallExited s map w function status new) → LeavesRun start status r.world
    stored_exits status new r =
        let e = calls_so r.steps ∙ ap (λ (z : Effect). then_do z (λ ws p. handed true ws p)) r.runs in
        let runs = exited_call (keeps n) (acting s.body) keeps (made_of es) (head_of call_node) (operands call_node.kids values) r.steps w (Exited status r.world) _ status r.world e refl in
        let o = over_is_reached means s.body body.split start turns done es (entry.Value call_node ∷ entry.Root x ∷ []) (Made n call_node ∷ Acts x ∷ []) f h values w k on st.reaches (suc r.steps) (Exited status r.world) tt (at_front (suc r.steps) (Exited status r.world) runs) in
        record { steps = o.steps; is = o.is }

    pub stored_stops : (new : c.World) → CallStopped s w k function new ⊎ NoneLeft w k new → Stops start turns new.trace
    stored_stops new ends = ⊎_elim
        (λ r.
        let e = calls_so r.steps ∙ ap (λ (z : Effect). then_do z (λ ws p. handed true ws p)) r.runs in
        let runs = stopped_call (keeps n) (acting s.body) keeps (made_of es) (head_of call_node) (operands call_node.kids values) r.steps w (Out r.world) _ r.world e refl in
        let o = over_is_reached means s.body body.split start turns done es (entry.Value call_node ∷ entry.Root x ∷ []) (Made n call_node ∷ Acts x ∷ []) f h values w k on st.reaches (suc r.steps) (Out r.world) tt (at_front (suc r.steps) (Out r.world) runs) in
        record { steps = o.steps; world = r.world; is = o.is; paid = (let a = o.paid in let b = r.paid in omega (arith, a, b)); seen = r.seen })
        (λ r.
        let runs = no_step_call (keeps n) (acting s.body) keeps (made_of es) (head_of call_node) (operands call_node.kids values) w (Out w) _ refl in
        let o = over_is_reached means s.body body.split start turns done es (entry.Value call_node ∷ entry.Root x ∷ []) (Made n call_node ∷ Acts x ∷ []) f h values w k on st.reaches 0 (Out w) tt (at_front 0 (Out w) runs) in
        record { steps = o.steps; world = w; is = o.is; paid = (let a = o.paid in let b = r.0 in omega (arith, a, b)); seen = r.1 })
        ends

  -- ---- it returns

  module _ (few : List Slot) (count : length few ≡ number) (few_le : locals ≤ length few) (place v : Option Value) (j : ℕ) (new : c.World) (r : CallReturned s map old w k function place v j new) where
    abbrev others : ℕ → Word
    others = at values n r.word

    returns_so : (left : ℕ) → does (acting s.body) (head_of call_node) (operands call_node.kids values) (with_left (r.steps + left) w) ≡ Went (r.word ∷ []) (with_left left r.world) Next
    returns_so left = calls_so (r.steps + left) ∙ ap (λ (e : Effect). then_do e (λ ws p. handed true ws p)) (call_goes_on s.body.program function r.steps left w r.world r.word r.runs)

    still : Same keeps (made_of es) w r.world
    still m t made kept = let p = temporary_is_private s locals body start turns done slots le keeps k map old es f values w st m t kept in r.left t.object p.0 p.1

    call_alike : AreAlike w.objects r.world.objects
    call_alike =
        let kept = subst (Kept w) r.runs (calls_kept s.body.program function (with_left r.steps w)) in
        sym kept.shapes

    frame_behind : InFrame s.frame r.later new r.world
    frame_behind = record {
      locals = subst (λ (vs : List Value). AreValues r.later vs s.frame.addresses) (sym r.locals) (values_grow map r.later r.grown old.locals s.frame.addresses st.frame.locals);
      others = frame_stays s map r.later old new w r.world call_alike r.private st.frame.others;
    }

    -- the slot is written in a world behind it
    module _ (now : World) (matches : Matches s.lowered s.own r.later new now) (frame : InFrame s.frame r.later new now) (free : AreFree s.body now) where
      abbrev end : World
      end = put_in s locals body few few_le r.later new Signed number offset r.word now

      same_slot : length few ≤ number
      same_slot = omega (arith, count)

      writes_so : acts s.body.setting.environment (head_of x) (operands x.kids others) now.objects ≡ action.Stored (stored_through now.objects (Pointer (slot_name s.body.setting.environment.home number) 0) (word_bytes s.body.setting.environment.order r.word))
      writes_so =
          let name = slot_name s.body.setting.environment.home number in
          let address_is : others first ≡ Plain (Pointer name 0) = at_old values n r.word first (λ same. let never : ⊥ = omega (arith, first_below, same) in never) ∙ address in
          let word_is : others (length (keys_of es)) ≡ r.word = ap others (count_keys es) ∙ at_new values n r.word in
          acts_on_two s.body.setting.environment (head op.Asgn I) now.objects (others first) (others (length (keys_of es))) (Plain (Pointer name 0)) r.word _ address_is word_is
          (ap changed (word_into s.body.setting.environment name r.word now.objects (free number slot_at.slot slot_at.there slot_at.size)))

      acts_so : (left : ℕ) → does (acting s.body) (head_of x) (operands x.kids others) (with_left left now) ≡ Went [] (with_left left end) Next
      acts_so left = ap (λ (z : Action). effect_of (acting s.body).call z (with_left left now)) writes_so

      leaves : Same keeps (at (made_of es) n true) now end
      leaves m t made kept = stored_elsewhere now.objects (s.body.setting.environment.home.place + number) 0 (word_bytes s.body.setting.environment.order r.word) t.object (elsewhere m t kept)

      holds : SlotHolds s number r.word end
      holds = word_is_read s.body.setting.environment.order r.word now.objects end.objects (Plain (Pointer (slot_name s.body.setting.environment.home number) 0)) r.is_word (word_into s.body.setting.environment (slot_name s.body.setting.environment.home number) r.word now.objects (free number slot_at.slot slot_at.there slot_at.size))

      -- the run stands there
      stands_so : AreAlike w.objects now.objects → (inside : ℕ → ℕ) → ((left : ℕ) → left + k ≤ inside left + j) → ((left : ℕ) → Runs (acting s.body) keeps (Made n call_node ∷ Acts x ∷ []) (made_of es) values (inside left) w (Through others (with_left left end)))
          → (h : Front s.body.pieces done both) → IsBlock both → At s start turns done slots keeps j r.later new both h others end
      stands_so alike inside paid runs h block =
          let all = alike ∙ put_alike s locals body few few_le r.later new Signed number offset slot_at.slot same_slot slot_at.there r.word r.is_word now frame in
          record {
            block = block;
            none_waits = on.1;
            behind = behind_same s.body slots done es both f h st.behind;
            reaches = entries_are_reached s.body start turns done es (entry.Value call_node ∷ entry.Root x ∷ []) (Made n call_node ∷ Acts x ∷ []) f h values others w end k j on st.reaches
                (λ left. (inside left, paid left, subst (λ (ks : Keeps). Runs (acting s.body) ks (Made n call_node ∷ Acts x ∷ []) (made_of es) values (inside left) w (Through others (with_left left end))) (sym st.keeps_is) (runs left)));
            matches = put_matches s locals body few few_le r.later new Signed number offset slot_at.slot same_slot slot_at.there r.word r.is_word now frame matches;
            frame = put_frame s locals body few few_le r.later new Signed number offset slot_at.slot same_slot slot_at.there r.word r.is_word now frame;
            opened = call_holds (acting s.body) keeps es st.block.formed values w st.opened call_node x second_below refl used r.word end all;
            free = still_free s w end all st.free;
            keeps_is = sym (keeps_are_same s.body done es both f h) ∙ st.keeps_is;
          }

      -- what is behind it
      behind_so : AreAlike w.objects now.objects → ((p : ℕ) → p < length w.objects → IsPrivate map (c.objects old) p → (IsTaken s number p → ⊥) → slice_get now.objects p ≡ slice_get w.objects p) → now.arguments ≡ [] → (h : Front s.body.pieces done both)
          → At s start turns done slots keeps j r.later new both h others end → StoredBehind s start turns done slots keeps j map r.later old new both h others w number r.word
      behind_so alike left arguments h at = record {
        world = end;
        stands = at;
        alike = alike ∙ put_alike s locals body few few_le r.later new Signed number offset slot_at.slot same_slot slot_at.there r.word r.is_word now frame;
        left = λ p lt private none.
            stored_elsewhere now.objects (s.body.setting.environment.home.place + number) 0 (word_bytes s.body.setting.environment.order r.word) p
            (λ e. none ((omega (arith, e), let l = slice_get_within s.body.setting.environment.home.slots number slot_at.slot slot_at.there in omega (arith, e, l))))
            ∙ left p lt private none;
        arguments = arguments;
        holds = holds;
      }

    -- the call has no temporary: the root shares its step
    stored_plain : keeps n ≡ None → (h : Front s.body.pieces done both) → IsBlock both → StoredBehind s start turns done slots keeps j map r.later old new both h others w number r.word
    stored_plain none h block =
        let free = still_free s w r.world call_alike st.free in
        behind_so r.world r.matches frame_behind free call_alike (λ p lt private taken. r.left p lt private) r.arguments h
        (stands_so r.world r.matches frame_behind free call_alike (λ left. suc (r.steps + left)) (λ left. let l = r.paid in omega (arith, l))
        (λ left. plain_call (keeps n) (acting s.body) keeps (made_of es) (head_of call_node) (operands call_node.kids values) (r.steps + left) w (Through others (with_left left (end r.world r.matches frame_behind free))) _ r.word (with_left left r.world) none (returns_so left) still
        (root_shares (keeps n) (acting s.body) keeps x (at (made_of es) n true) others left r.world (end r.world r.matches frame_behind free) none (acts_so r.world r.matches frame_behind free left) (leaves r.world r.matches frame_behind free)))
        h block)

    -- it is kept, which takes a step
    stored_kept : (t : Temporary) → keeps n ≡ Some t → (h : Front s.body.pieces done both) → IsBlock both → StoredBehind s start turns done slots keeps j map r.later old new both h others w number r.word
    stored_kept t e h block =
        let home = s.body.setting.environment.home in
        let with_call = es ++ entry.Value call_node ∷ [] in
        let g = front_of s.body.pieces done with_call both (record { more = entry.Root x ∷ []; is = sym (append_assoc es (entry.Value call_node ∷ []) (entry.Root x ∷ [])) }) h in
        let keeps_there : keeps_at s.body done with_call g ≡ keeps = sym (keeps_are_same s.body done es with_call f g) ∙ st.keeps_is in
        let slot = last_slot s locals body slots done es call_node g (behind_same s.body slots done es with_call f g st.behind) t (ap (λ (ks : Keeps). ks n) keeps_there ∙ e) in
        let temporary = slot_temporary s.body.setting.environment.order Signed (slot_name home slot.number) slot.offset in
        let kept : keeps n ≡ Some temporary = e ∙ ap (λ (z : Temporary). Some z) slot.is in
        let law = subst (IsTemporary (acting s.body)) slot.is slot.law in
        let free = still_free s w r.world call_alike st.free in
        let there : IsThere temporary r.world = ap (λ (o : Option Cause). is_none o) (free slot.number slot.slot slot.there slot.size) in
        let now = put_in s locals body slots le r.later new Signed slot.number slot.offset r.word r.world in
        let matches = put_matches s locals body slots le r.later new Signed slot.number slot.offset slot.slot slot.behind slot.there r.word r.is_word r.world frame_behind r.matches in
        let frame = put_frame s locals body slots le r.later new Signed slot.number slot.offset slot.slot slot.behind slot.there r.word r.is_word r.world frame_behind in
        let alike = call_alike ∙ law.shape r.word r.world in
        let free_now = still_free s w now alike st.free in
        behind_so now matches frame free_now alike
        (λ p lt private none.
        law.others r.word r.world p (λ same. none (let b = slot.behind in let l = slice_get_within home.slots slot.number slot.slot slot.there in (omega (arith, same, b, before), omega (arith, same, l))))
        ∙ r.left p lt private)
        r.arguments h
        (stands_so now matches frame free_now alike (λ left. suc (r.steps + suc left)) (λ left. let l = r.paid in omega (arith, l))
        (λ left. kept_call (keeps n) (acting s.body) keeps (made_of es) (head_of call_node) (operands call_node.kids values) (r.steps + suc left) w (Through others (with_left left (end now matches frame free_now))) _ temporary r.word (with_left (suc left) r.world) kept (returns_so (suc left)) still r.is_word there
        (root_steps (keeps n) (acting s.body) keeps x (at (made_of es) n true) others left now (end now matches frame free_now) temporary kept (acts_so now matches frame free_now left) (leaves now matches frame free_now)))
        h block)

    stored_by : (o : Option Temporary) → keeps n ≡ o → (h : Front s.body.pieces done both) → IsBlock both → StoredBehind s start turns done slots keeps j map r.later old new both h others w number r.word
    stored_by None e h block = stored_plain e h block
    stored_by (Some t) e h block = stored_kept t e h block

    pub stored_behind : (h : Front s.body.pieces done both) → IsBlock both → StoredBehind s start turns done slots keeps j map r.later old new both h others w number r.word
    stored_behind h block = stored_by (keeps n) refl h block
