-- Calls that give structures: before the argument words stands that of the address of the object for the result, which is the call's value.
use Rattle.std.specs.Prelude.{◌≡◌, ◌≤◌, ◌<◌, ℕ, ℤ, pos, negsuc, Bool, true, false, Some, None, List, [], ◌∷◌, length, slice_get, if◌then◌else◌}
use Rattle.std.proofs.Common.{refl, sym, ap, subst, ◌∙◌, arith}
use Rattle.objects.specs.declared.value.Value.{Value}
use Rattle.objects.specs.declared.value.Value.TheVariants.{Number, Pointer, Function}
use Rattle.forests.specs.Words.{Word}
use Rattle.forests.specs.Worlds.{World, Outcome}
use Rattle.dag_forest.specs.Tally.{node_count}
use Rattle.dag_seam.specs.SplitLaws.{TurnsMean}
use Rattle.c_types.specs.CType.{CType, unqualified}
use Rattle.c_meaning.specs.Copies.{locals_from}
use Rattle.c_meaning.specs.Types.{is_record}
use Rattle.c_runs.specs.Calls.{Argument}
use Rattle.c_runs.specs.Expressions.{call_by, result_place}
use Rattle.c_runs.specs.Locals.{LocalIsObject}
use Rattle.c_runs.specs.Outcomes.{Result, Gives, GivesNone, Ends}
use Rattle.c_runs.specs.Run.{context}
use Rattle.c_runs.specs.Worlds as c
use Rattle.c_match.specs.Ranges.{Map, Grown}
use Rattle.c_match.proofs.lemmas.Growing.{grown_refl}
use Rattle.c_rows_agree.specs.Typed.{Typed, as_p}
use Rattle.c_pointers_agree.specs.Pointers.{call_head}
use Rattle.piece_runs.specs.Pieces.{Front}
use Rattle.c_expr_agreement.specs.Scenes.{Scene}
use Rattle.lowered_forms.specs.Calls.{all_passed, called, whole_given}
use Rattle.lowered_forms.specs.Contexts.{Context}
use Rattle.lowered_forms.specs.Lows.{Low}
use Rattle.lowered_forms.specs.Places.{address_at, local_place}
use Rattle.lowered_forms.specs.Values.{Lowered, with_value, placed}
use Rattle.lowered_forms.proofs.lemmas.Blocks.{within_more}
use Rattle.lowered_forms.proofs.lemmas.WithinTemplates.{local_in}
use Rattle.c_straight_agree.specs.Agreement.{HasValue, Came, CameTo, without_value}
use Rattle.c_straight_agree.specs.Layouts.{FrameLayout, context_in, IsLaidOut, HoldsWholes}
use Rattle.c_straight_agree.specs.Narrow.{CharsAreNarrow, ShortsAreNarrow}
use Rattle.c_straight_agree.specs.Standing.{IsBody, Standing, IsSoundIn}
use Rattle.c_straight_agree.proofs.lemmas.Extending.{extends_nodes, extends_slots, front_back}
use Rattle.c_straight_agree.proofs.lemmas.Lasting.{lasting_more, lasting_stays, lasting_value}
use Rattle.c_straight_agree.proofs.lemmas.Leaves.{address_has, address_word, address_later, local_is}
use Rattle.c_straight_agree.proofs.lemmas.Opens.{opens_stay}
use Rattle.c_straight_agree.proofs.lemmas.Parts.{slots_later}
use Rattle.c_calls_agree.specs.Laws.{AreWithin, HasCopies}
use Rattle.c_calls_agree.specs.Passing.{HaveValues}
use Rattle.c_calls_agree.specs.Programs.{IsProgram}
use Rattle.c_calls_agree.proofs.lemmas.Arguments.{values_of, GoesAll}
use Rattle.c_calls_agree.proofs.lemmas.CallRoots.{root_is_made}
use Rattle.c_calls_agree.proofs.lemmas.Calls.{root_extends, made_as, words_then}
use Rattle.c_calls_agree.proofs.lemmas.Copies.{AreEvaluated, not_passed_whole, place_for}
use Rattle.c_calls_agree.proofs.lemmas.Making.{called_so, by_value, standing_passes, GivesOnly, structure_given, whole_call_comes}
use Rattle.c_calls_agree.proofs.lemmas.Words.{words_extend, words_are_passed}

address_is_placed : (z : ℤ) (l : Low) → placed (address_at z) l ≡ with_value (address_at z) l
address_is_placed (pos n) l = refl
address_is_placed (negsuc n) l = refl

-- where nothing but the place comes of the call, and an operand has it, whatever follows
module _ (s : Scene) (start : ℕ → Outcome) (turns : ℕ) (l m : Low) (h : Front s.body.pieces m.pieces m.entries) (a : Typed) (map : Map) (before : c.World) (values : ℕ → Word) (first : World) (p : Value) (has : (later : Map) → Grown map later → (others : ℕ → Word) (world : World) → HasValue s a later others world p) where
  came_with : (v : Value) (old : c.World) (k : ℕ) → v ≡ p → Came s start turns l m h a map before values first None old k → Came s start turns l m h a map before values first (Some v) old k
  came_with v old k same x = record {
    later = x.later;
    grown = x.grown;
    others = x.others;
    world = x.world;
    stands = x.stands;
    alike = x.alike;
    left = x.left;
    private = x.private;
    kept = x.kept;
    has = subst (λ (u : Value). HasValue s a x.later x.others x.world u) (sym same) (has x.later x.grown x.others x.world);
  }

  came_at_place : (r : Result) → GivesOnly p r → CameTo s start turns l m h a map before values first (without_value r) → CameTo s start turns l m h a map before values first r
  came_at_place (Gives v k old) same x = came_with v old k same x
  came_at_place (GivesNone line k old) same x = x
  came_at_place (Ends how old) same x = x

module _ (chars : CharsAreNarrow) (shorts : ShortsAreNarrow) (means : TurnsMean) (s : Scene) (locals : ℕ) (body : IsBody s locals) (program : IsProgram s) (each : LocalIsObject) (y : FrameLayout) (laid : IsLaidOut s y) (of : CType) (line : ℕ) (whole : is_record of ≡ true) where
  abbrev x : Context
  x = context_in s y

  abbrev copied_if : Bool → List CType
  copied_if b = if b then unqualified of ∷ [] else []

  result_copies : (n : ℕ) (b : Bool) → b ≡ true → HasCopies y (locals_from n (copied_if b)) → (slice_get y.types n ≡ Some (unqualified of)) × (y.parameters ≤ n)
  result_copies n true e h = h.0
  result_copies n false e h = absurd (let never : ⊥ = cc in never)

  place_is : (vs : List Value) (n : ℕ) → result_place of vs n ≡ slice_get vs n
  place_is vs n = ap (λ (b : Bool). if b then slice_get vs n else None) whole

  -- the address of the object at this place is passed first
  module _ (function n : ℕ) (m : Low) (le : locals ≤ length m.slots) (g : Typed) (as' : List Typed) (within : AreWithin (node_count m.entries) (g ∷ as')) (copies : HasCopies y (locals_from n (copied_if (is_record of)))) (xs : List Argument) (start : ℕ → Outcome) (turns : ℕ) (f : Front s.body.pieces m.pieces m.entries)
      (map : Map) (old : c.World) (values : ℕ → Word) (w : World) (k : ℕ) (st : Standing s start turns m f map old values w k) (sound : IsSoundIn s old) (wholes : HoldsWholes s y w) (evaluated : AreEvaluated s old xs) (have : HaveValues s locals (length m.slots) (g ∷ as') map values w (Function function ∷ values_of xs)) where
    place_passed : (z : ℤ) → slice_get y.places n ≡ Some z → (p : Value) → slice_get old.locals n ≡ Some p → (typed : slice_get y.types n ≡ Some (unqualified of)) → y.parameters ≤ n
        → (h : Front s.body.pieces (called g (all_passed (address_at z ∷ as') m)).pieces (called g (all_passed (address_at z ∷ as') m)).entries)
        → CameTo s start turns m (called g (all_passed (address_at z ∷ as') m)) h (address_at z) map old values w (called_so s of line n xs k old function)
    place_passed z at p there typed behind h =
        let to = address_at z in
        let m1 = all_passed (to ∷ as') m in
        let q = called g m1 in
        let x1 = words_extend (to ∷ as') m in
        let x2 = root_extends (call_head false) (as_p g) m1 in
        let h1 = front_back s.body.pieces m1 q x2 h in
        let count = node_count m.entries in
        let not_passed = not_passed_whole s y n (unqualified of) behind in
        let has_to = address_has s locals body y laid start turns m f map old values w k st sound n (unqualified of) z p typed not_passed at there in
        let passed = words_are_passed chars shorts s locals body start turns m le f map old values w k [] (standing_passes s start turns m f map old values w k st) (to ∷ as') (p ∷ values_of xs) (local_in count false (Some z), within.1)
        (lasting_value s locals (length m.slots) to map values w p has_to, have.1) h1 in
        let has =
        lasting_more s locals (length m.slots) (length m1.slots) (extends_slots m m1 x1) g map passed.others passed.world (Function function)
        (lasting_stays s locals body (length m.slots) (length m.slots) (omega arith) map map (grown_refl map) old values passed.others w passed.world st.stands.frame passed.alike passed.left count passed.kept g (Function function) within.0 have.0) in
        let r = called_so s of line n xs k old function in
        let result = place_is old.locals n ∙ there in
        came_at_place s start turns m q h to map old values w p (λ later grown others world. address_later s locals body y laid start turns m f map old values w k st sound n (unqualified of) z p typed not_passed at there later grown others world) r
        (structure_given s of line n xs k old function p whole result)
        (words_then s start turns m m1 q x1 x2 h1 h to map old values w k (p ∷ values_of xs) passed (without_value r)
        (root_is_made chars shorts means s locals body start turns m1 (slots_later s locals body m m1 x1.slots le) h1 map old passed.others passed.world k (p ∷ values_of xs) passed.stands g function (within_more count (node_count m1.entries) g.tree (extends_nodes m m1 x1) within.0) has (Some p) r
        (λ world alike matches words.
        whole_call_comes s locals body program each y laid of line n copies xs k old sound evaluated map st.stands.frame.locals passed.stands.callees function p result world
        (opens_stay s.frame.addresses w.objects world.objects (passed.alike ∙ alike) wholes.opens) matches words) h to
        (λ later others world. address_word s locals body y laid start turns m f map old values w k st sound n (unqualified of) z p typed not_passed at there later others world)))

    structure_comes : (h : Front s.body.pieces (whole_given (local_place x n of) g as' m).low.pieces (whole_given (local_place x n of) g as' m).low.entries)
        → CameTo s start turns m (whole_given (local_place x n of) g as' m).low h (whole_given (local_place x n of) g as' m).value map old values w (called_so s of line n xs k old function)
    structure_comes =
        let copy = result_copies n (is_record of) whole copies in
        let at = laid.places n (unqualified of) copy.0 in
        let z = at.0 in
        let place = place_for each s y laid old sound n of copy.0 in
        let r = called_so s of line n xs k old function in
        subst (λ (to : Typed). (h : Front s.body.pieces (whole_given to g as' m).low.pieces (whole_given to g as' m).low.entries) → CameTo s start turns m (whole_given to g as' m).low h (whole_given to g as' m).value map old values w r)
        (sym (local_is s y n of z (not_passed_whole s y n of copy.1) at.1))
        (subst (λ (o : Lowered). (h : Front s.body.pieces o.low.pieces o.low.entries) → CameTo s start turns m o.low h o.value map old values w r) (sym (address_is_placed z (called g (all_passed (address_at z ∷ as') m))))
        (λ h. place_passed z at.1 place.copy place.there copy.0 copy.1 h))

  pub structure_goes : (void : Bool) (callee : Value) → GoesAll s locals body y of (λ n ps l. made_as true void x of n ps l) (λ n xs k old. call_by (context s.unit s.lowered.order) of line callee n xs k old) callee
  structure_goes void callee n m le [] within copies xs start turns f h map old values w k slots st sound wholes evaluated have = absurd have
  structure_goes void (Number i) n m le (g ∷ as') within copies xs start turns f h map old values w k slots st sound wholes evaluated have = tt
  structure_goes void (Pointer object offset) n m le (g ∷ as') within copies xs start turns f h map old values w k slots st sound wholes evaluated have = tt
  structure_goes void (Function function) n m le (g ∷ as') within copies xs start turns f h map old values w k slots st sound wholes evaluated have =
      subst (λ (r : Result). CameTo s start turns m (whole_given (local_place x n of) g as' m).low h (whole_given (local_place x n of) g as' m).value map old values w r) (sym (by_value s of line n xs k old function))
      (structure_comes function n m le g as' within copies xs start turns f map old values w k st sound wholes evaluated have h)
