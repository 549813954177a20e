-- The value of a switch is stored in a slot, and its search leads to where C goes.
use Rattle.std.specs.Prelude.{◌≡◌, ◌≤◌, ◌<◌, ℕ, suc, ◌^◌, ℤ, Bool, true, IfSome, Option, Some, None, List, length}
use Rattle.std.specs.List.{AllByRecursion}
use Rattle.std.proofs.Common.{sym, ap, subst, ◌∙◌, arith}
use Rattle.std.proofs.lemmas.Simd.{map-map}
use Rattle.objects.specs.declared.value.Value.{Value}
use Rattle.objects.specs.declared.value.Value.TheVariants.{Number, Pointer, Function as FunctionValue}
use Rattle.forests.specs.Words.{Word}
use Rattle.dag_forest.specs.Tally.{node_count}
use Rattle.dag_seam.specs.SplitLaws.{TurnsMean}
use Rattle.c_meaning.specs.declared.core_stmt.CoreCase.{CoreCase}
use Rattle.c_meaning.specs.CoreTrees.{type_of}
use Rattle.c_meaning.specs.Scalars.{is_signed}
use Rattle.c_meaning.specs.Units.{are_apart, numbers}
use Rattle.c_meaning.specs.Values.{CoreTree}
use Rattle.c_runs.specs.Expressions.{eval}
use Rattle.c_runs.specs.Outcomes.{Undefined, OutOfTurns, Exit, Result, Gives, GivesNone, Ends}
use Rattle.c_runs.specs.Run.{context}
use Rattle.c_runs.specs.Soundness.{EvalStaysSound, IsSoundResult}
use Rattle.c_runs.specs.Statements.{chosen}
use Rattle.c_runs.specs.Worlds as c
use Rattle.c_match.proofs.lemmas.Growing.{grown_refl}
use Rattle.switch_tables.specs.Cases.{AreWords}
use Rattle.switch_tables.specs.Laws.{IsTable}
use Rattle.switch_tables.specs.Searches.{Search, search_over}
use Rattle.switch_tables.specs.Tables.{tables_of}
use Rattle.switch_tables.proofs.lemmas.Searching.{each_is_searched}
use Rattle.switch_tables.proofs.lemmas.TableParts.{are_tables}
use Rattle.piece_runs.specs.Reaches.{keeps_at}
use Rattle.lowered_forms.specs.Expressions.{low_e}
use Rattle.lowered_forms.specs.Lows.{Low, with_label, slot_offset, with_slot}
use Rattle.lowered_forms.specs.Values.{Lowered, stored_in}
use Rattle.lowered_forms.proofs.lemmas.NodesOf.{values_have_nodes}
use Rattle.lowered_forms.proofs.lemmas.Stepping.{stored_steps}
use Rattle.lowered_forms.proofs.lemmas.WithinTemplates.{HasIn}
use Rattle.lowered_statements.specs.Bodies.{Body, with_low}
use Rattle.lowered_statements.specs.Functions.{Function, label_at, label_or, placed_case, placed_cases}
use Rattle.lowered_statements.specs.Searches.{Choice}
use Rattle.lowered_statements.proofs.lemmas.Choosing.{chosen_is_found}
use Rattle.lowered_labels.specs.Used.{IsOwn}
use Rattle.c_straight_agree.specs.Agreement.{HasValue, CameTo}
use Rattle.c_straight_agree.specs.Agreement as expression
use Rattle.c_straight_agree.specs.Narrow.{CharsAreNarrow, ShortsAreNarrow}
use Rattle.c_straight_agree.proofs.lemmas.Coming.{operand_settled}
use Rattle.c_straight_agree.proofs.lemmas.Finals.{back, back_steps, back_jumps}
use Rattle.c_straight_agree.proofs.lemmas.Parts.{sound_result}
use Rattle.c_slots_agree.specs.Slots.{IsSlotAt, SlotHolds}
use Rattle.c_tests_agree.specs.Tested.{AreMarkedOnce, Label, low_at}
use Rattle.c_choices_agree.proofs.lemmas.Passing.{with_slot_stands, one_slot}
use Rattle.c_choices_agree.proofs.lemmas.Slots.{SlotLaws}
use Rattle.c_stmt_agreement.specs.Comings.{Activation, HasFrame, Origin, Ways}
use Rattle.c_stmt_agreement.specs.Laws.{IsFinal, chosen_place, CameByValue, CameChosen, LoweredSearch}
use Rattle.c_stmt_agreement.specs.LoweredStmt.{StandsAt}
use Rattle.c_stmt_agreement.proofs.lemmas.Expressions.{sound_in, passed_came, given_came}
use Rattle.c_stmt_agreement.proofs.lemmas.Rebasing.{onward, stands_onward, came_on}
use Rattle.c_stmts_agree.specs.Parts.{ValueAgrees, search_row, search_end}
use Rattle.c_stmts_agree.specs.Tables.{HasTables}
use Rattle.c_stmts_agree.specs.Ways.{IsBehind}
use Rattle.c_stmts_agree.proofs.lemmas.Backing.{room_lowered}
use Rattle.c_stmts_agree.proofs.lemmas.Places.{relabels}
use Rattle.c_searches_agree.specs.Jumps.{ComesHolding}
use Rattle.c_searches_agree.proofs.lemmas.Holding.{HeldAt, held_on, moves_holding}
use Rattle.c_searches_agree.proofs.lemmas.Jumping.{jumps_lead}
use Rattle.c_searches_agree.proofs.lemmas.Labels.{tables_have, placed_have, each_follows, chosen_is_own, are_good}
use Rattle.c_searches_agree.proofs.lemmas.Searching.{IsGood, search_goes}
use Rattle.c_searches_agree.proofs.lemmas.Ways.{search_back}

-- the tables of a switch whose cases' numbers are words, and apart
tables_are_whole : (f : Function) (cases : List CoreCase) → AreWords cases → are_apart (numbers cases) ≡ true → (signed : Bool) (number : ℕ) → AllByRecursion (IsTable signed) (tables_of signed number (placed_cases f cases))
tables_are_whole f cases words apart signed number =
    are_tables signed (placed_cases f cases) number (placed_have f (λ c. c.number < 2 ^ 32) cases words) (ap are_apart (map-map (λ c. c.number) (placed_case f) cases) ∙ apart)

module _ (chars : CharsAreNarrow) (shorts : ShortsAreNarrow) (means : TurnsMean) (evals : EvalStaysSound) (laws : SlotLaws) (p : Activation) (frame : HasFrame p) (once : AreMarkedOnce p.scene.body) (f : Function) (x : CoreTree) (cases : List CoreCase) (default : Option ℕ)
    (value : ValueAgrees p f x) (words : AreWords cases) (apart : are_apart (numbers cases) ≡ true) where
  module _ (own : AllByRecursion (λ c. IsOwn f c.label) cases) (own_default : IfSome default (IsOwn f)) (y : Ways) (labelled : (n : ℕ) → IsOwn f n → IsBehind p.scene (label_at f n) (y.labels n)) (b : Body) (le : p.locals ≤ length b.low.slots)
      (tables : HasTables p f (search_row f x cases default b)) (final : IsFinal p (search_row f x cases default b).low) (t : Label p.scene (search_end f x b)) where
    abbrev r : Lowered
    r = low_e f.context x b.low

    abbrev i : ℕ
    i = length r.low.slots

    abbrev z : ℤ
    z = slot_offset r.low

    abbrev choice : Choice
    choice = record { slot = z; signed = is_signed (type_of x); default = label_or f r.low.labels default }

    abbrev stored : Low
    stored = stored_in z r.value (with_slot r.low)

    abbrev b1 : Body
    b1 = with_low (with_label stored) b

    abbrev tree : Search
    tree = search_over (tables_of choice.signed choice.default (placed_cases f cases))

    abbrev end : Low
    end = low_at p.scene (search_end f x b) t

    le_slots : p.locals ≤ i
    le_slots = room_lowered p.locals f.context x b.low le

    less : i < length (with_slot r.low).slots
    less = let e = one_slot r.low in omega (arith, e)

    final_stored : IsFinal p stored
    final_stored = (back_jumps p.scene.body.pieces).label stored (search_back p f choice i 0 tree b1 final)

    final_slot : IsFinal p (with_slot r.low)
    final_slot = stored_steps (back p.scene.body.pieces) (back_steps p.scene.body.pieces) z r.value (with_slot r.low) final_stored

    final_value : IsFinal p r.low
    final_value = (back_steps p.scene.body.pieces).slot r.low final_slot

    at : IsSlotAt p.scene i z
    at = laws.taken p.scene p.locals frame.body r.low r.low.pieces r.low.entries final_slot.front final_slot.slots

    -- ---- the search

    label_for : (d : Option ℕ) → IfSome d (IsOwn f) → Label p.scene (label_or f r.low.labels d)
    label_for None mine = t
    label_for (Some q) mine = (labelled q mine).0

    good : AllByRecursion (IsGood p f choice) (tables_of choice.signed choice.default (placed_cases f cases))
    good =
        are_good p f choice (λ table whole. jumps_lead chars shorts means laws.reads p frame once f choice table whole) (tables_of choice.signed choice.default (placed_cases f cases)) (tables_are_whole f cases words apart choice.signed choice.default)
        (tables_have (λ l. Label p.scene l) choice.signed (placed_cases f cases) choice.default
        (placed_have f (λ d. Label p.scene d.label) cases (each_follows (λ d. IsOwn f d.label) (λ d. Label p.scene (label_at f d.label)) (λ d mine. (labelled d.label mine).0) cases own))
        (label_for default own_default))

    choice_goes : (n : ℕ) (d : Option ℕ) → IfSome d (IsOwn f) → ((l : Label p.scene (label_or f r.low.labels d)) → ComesHolding p i n b1.low (low_at p.scene (label_or f r.low.labels d) l)) → ComesHolding p i n b1.low (chosen_place y end d)
    choice_goes n None mine h = h t
    choice_goes n (Some q) mine h = subst (ComesHolding p i n b1.low) (sym (labelled q mine).1) (h (labelled q mine).0)

    number_goes : (n : ℕ) → n < 2 ^ 32 → ComesHolding p i n b1.low (chosen_place y end (chosen cases default n))
    number_goes n word =
        choice_goes n (chosen cases default n) (chosen_is_own f cases default n own own_default)
        (λ l.
        search_goes chars shorts means laws p frame once f choice i n at le_slots word (label_for default own_default) tree (each_is_searched (IsGood p f choice) (tables_of choice.signed choice.default (placed_cases f cases)) good) b1 less tables final
        (label_or f r.low.labels (chosen cases default n)) (chosen_is_found f choice.signed cases default r.low.labels n words apart word) l)

    -- ---- the value

    stored_held : (o : Origin) (k n : ℕ) (here : StandsAt p o r.low k) → HasIn (node_count r.low.entries) r.value → HasValue p.scene r.value o.map here.values o.world (Number n) → HeldAt p i n o stored k
    stored_held o k n here within has =
        let st = with_slot_stands p.scene o.start o.turns r.low here.front o.map o.old here.values o.world k here.stands final_slot in
        let keeps = keeps_at p.scene.body r.low.pieces r.low.entries here.front in
        let one =
        laws.stored p.scene p.locals frame.body frame.laid.frame o.start o.turns (with_slot r.low) here.front o.map o.old here.values o.world k st i z at le_slots less r.value has.holds.word within
        (operand_settled keeps p.scene r.value o.map here.values o.world (Number n) has) has.holds.gives final_stored.front
        in
        record {
          came =
              passed_came p frame o r.low k here le_slots stored final_stored.front o.old k here.sound
              (record { later = o.map; grown = grown_refl o.map; others = one.others; world = one.world; stands = one.stands; alike = one.alike; left = one.left; private = λ place lt private. private });
          holds = subst (λ (u : Word). SlotHolds p.scene i u one.world) has.holds.is one.holds;
        }

    module _ (o : Origin) (k : ℕ) (here : StandsAt p o b.low k) where
      value_chosen : (v : Value) (j : ℕ) (old : c.World) → IsSoundResult p.scene.unit o.old (Gives v j old) → expression.Came p.scene o.start o.turns b.low r.low final_value.front r.value o.map o.old here.values o.world (Some v) old j → CameByValue p y o end cases default old j v
      value_chosen (Number n) j old s one =
          let came = given_came p frame o b.low k here le r.low final_value.front r.value (Some (Number n)) old j (sound_in p o.old old here.sound s.1.0 s.1.1) one in
          let on = onward p o r.low old j came in
          let to = chosen_place y end (chosen cases default n) in
          came_on p o r.low old j came o.turns to old j
          (held_on p i n on stored to j (stored_held on j n (stands_onward p o r.low old j came) (values_have_nodes f.context x b.low here.stands.block).value one.has)
          (moves_holding p i n stored b1.low to (relabels p stored (suc stored.labels)) (number_goes n s.0)))
      value_chosen (Pointer object offset) j old s one = tt
      value_chosen (FunctionValue g) j old s one = tt

      result_chosen : (q : Result) → IsSoundResult p.scene.unit o.old q → CameTo p.scene o.start o.turns b.low r.low final_value.front r.value o.map o.old here.values o.world q → CameChosen p y o end cases default q
      result_chosen (Gives v j old) s one = value_chosen v j old s one
      result_chosen (GivesNone line j old) s one = tt
      result_chosen (Ends (Undefined cause line) old) s one = tt
      result_chosen (Ends OutOfTurns old) s one = one
      result_chosen (Ends (Exit status) old) s one = one

    pub searches_agree : LoweredSearch p y x cases default b.low end
    searches_agree o k here =
        result_chosen o k here (eval (context p.scene.unit p.scene.lowered.order) x k o.old) (sound_result p.scene p.locals frame.body evals x value.tame k o.old here.sound)
        (value.lowered b.low le o.start o.turns here.front final_value.front o.map o.old here.values o.world k final_value.slots here.stands here.sound here.wholes)
