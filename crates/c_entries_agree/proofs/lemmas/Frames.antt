-- The frame of a call.
use Rattle.std.specs.Prelude.{◌≡◌, ◌≤◌, ◌<◌, ℕ, zero, suc, ◌+◌, ◌*◌, ℤ, pos, negsuc, ◌+ℤ◌, nat_lt, ◌&&◌, Bool, true, false, Option, Some, None, List, [], ◌∷◌, ◌++◌, length, slice_get}
use Rattle.std.proofs.Common.{true≢false, refl, sym, ap, subst, ◌∙◌, arith, length-append}
use Rattle.std.proofs.lemmas.Bool.{and_parts}
use Rattle.std.proofs.lemmas.Int.{ints}
use Rattle.std.proofs.lemmas.Option.{same_Some, slice_get_within}
use Rattle.objects.specs.declared.value.ObjectName.{ObjectName}
use Rattle.objects.specs.declared.value.Value.{Value}
use Rattle.objects.specs.declared.value.Value.TheVariants.{Pointer, Function}
use Rattle.op_forest.specs.declared.frame.Slot.{Slot}
use Rattle.op_forest.specs.declared.lowered.LoweredFunction.{LoweredFunction}
use Rattle.op_forest.specs.Frames.{IsFrame}
use Rattle.op_forest.specs.Lowered.{LoweredUnit}
use Rattle.op_forest.specs.Units.{body_of, function_of, object_place, built_in_named}
use Rattle.forests.specs.Addresses.{Home}
use Rattle.forests.specs.Functions.{value_or, home_in}
use Rattle.forests.proofs.lemmas.SoundUnits.{program_sound}
use Rattle.forests.specs.Units.{value_by, value_of}
use Rattle.forests.specs.Words.{Word, Plain}
use Rattle.forests.specs.Worlds.{World}
use Rattle.dag_forest.specs.declared.entry.Entry.{Entry}
use Rattle.dag_forest.specs.Split.{split_frame}
use Rattle.c_types.specs.CType.{CType, Plain as Of, Array, unqualified}
use Rattle.c_meaning.specs.Each.{EachIs}
use Rattle.c_meaning.specs.Rows.{result_type, parameters_type}
use Rattle.c_meaning.specs.Types.{is_record}
use Rattle.c_meaning.specs.Units.{FunctionTree, UnitTree}
use Rattle.c_runs.specs.Calls.{Call, fits, arguments_fit, result_fits, own_parameters, is_open}
use Rattle.c_runs.specs.Places.{size_of}
use Rattle.c_runs.specs.Soundness.{UnitsAreTame}
use Rattle.c_match.specs.Ranges.{Map}
use Rattle.c_agreement.specs.Pairs.{own_count}
use Rattle.piece_runs.specs.Laws.{IsSplit, AreSplit}
use Rattle.piece_runs.specs.Pieces.{Piece, OfBlock, Mark}
use Rattle.c_pointers_agree.specs.Pointers.{argument_name, slot_name}
use Rattle.c_expr_agreement.specs.Scenes.{Scene}
use Rattle.lowered_forms.specs.Contexts.{function_name, object_name, text_name}
use Rattle.lowered_forms.specs.Later.{IsFront}
use Rattle.lowered_forms.specs.Places.{is_passed_whole}
use Rattle.lowered_statements.specs.Framed.{AreFramed, IsFramed, FunctionsHaveFrames}
use Rattle.lowered_statements.specs.FunctionBodies.{low_f}
use Rattle.lowered_statements.specs.Later.{FunctionsAdd}
use Rattle.lowered_statements.specs.Layouts.{first_word, hidden_words, words_of, layout}
use Rattle.c_straight_agree.specs.Layouts.{FrameLayout, context_in, address_of, IsRoomAt, IsWordPlace, IsLaidOut}
use Rattle.c_straight_agree.specs.Standing.{IsAmong, IsBody}
use Rattle.c_straight_agree.proofs.lemmas.Checked.{types_whole}
use Rattle.c_straight_agree.proofs.lemmas.Kept.{front_length}
use Rattle.c_stmt_agreement.specs.Comings.{HasFrame}
use Rattle.c_entries_agree.specs.Standpoints.{Standpoint, InSlot, InWord, AsPassed, standpoints, local_address, local_addresses, others_of}
use Rattle.c_entries_agree.specs.Lowered.{IsFunctionLowering, IsLoweringOf}
use Rattle.c_entries_agree.specs.Activations.{scene_of, frame_layout, activation}
use Rattle.c_entries_agree.specs.Laws.{IsCallOf}
use Rattle.c_entries_agree.proofs.lemmas.Above.{one_there, objects_live}
use Rattle.c_entries_agree.proofs.lemmas.Addresses.{slot_address, word_address, one_address, is_passed, standpoint_passed}
use Rattle.c_entries_agree.proofs.lemmas.Others.{IsElsewhere, IsNoWord, other_there, slots_elsewhere, words_elsewhere, passed_word, hidden_word}
use Rattle.c_entries_agree.proofs.lemmas.Places.{IsSlotOf, StandsIn, AllStand, StandsOne, all_stand_on, one_stands, locals_stand}

framed_at : (slots : List Slot) (done rest : List Piece) (before : List Slot) (es : List Entry) → AreFramed slots (done ++ OfBlock before es ∷ rest) → IsFront (split_frame before es) slots
framed_at slots [] rest before es h = h.0.1
framed_at slots (OfBlock b fs ∷ done) rest before es h = framed_at slots done rest before es h.1
framed_at slots (Mark n ∷ done) rest before es h = framed_at slots done rest before es h

unqualified_whole : (t : CType) → is_record (unqualified t) ≡ is_record t
unqualified_whole (Of q k) = refl
unqualified_whole (Array of n) = refl

no_value : (v : Value) → None ≡ Some v → ⊥
no_value v e = cc

one_hidden : (whole : Bool) → whole ≡ true → 0 < hidden_words whole
one_hidden true e = omega arith
one_hidden false e = absurd (true≢false (sym e))

module _ (u : UnitTree) (l : LoweredUnit) (f : FunctionTree) (a : Call) (map : Map) (w : World) (is : IsCallOf u l f a map w) (x : IsFunctionLowering u l a.function f) where
  abbrev pub home : Home
  home = home_in a.function (body_of x.function) w

  abbrev pub scene : Scene
  scene = scene_of u l a.function f x w

  abbrev pub stands_at : List Standpoint
  stands_at = standpoints u.tags f

  abbrev pub laid : FrameLayout
  laid = frame_layout u l a.function f x

  -- ---- what the call fits

  pub fit : fits f a ≡ true
  fit = ap (λ (g : FunctionTree). fits g a) (same_Some f is.called.tree (sym is.defined ∙ is.called.defined)) ∙ is.called.fitting

  pub result_whole : is_record (result_type f.of) ≡ is_record a.of
  result_whole = sym (unqualified_whole (result_type f.of)) ∙ types_whole (unqualified (result_type f.of)) a.of (and_parts (result_fits (result_type f.of) a.of) (arguments_fit (is_open (parameters_type f.of)) (own_parameters f) a.arguments) fit).0

  -- a place for a result is that of a structure
  pub result_is_whole : (v : Value) → a.result ≡ Some v → is_record (result_type f.of) ≡ true
  result_is_whole v e = by_whole (is_record (result_type f.of)) refl
    where
      by_whole : (b : Bool) → is_record (result_type f.of) ≡ b → b ≡ true
      by_whole true h = refl
      by_whole false h = absurd (no_value v (sym (is.called.plain (sym result_whole ∙ h)) ∙ e))

  module _ (frames : FunctionsHaveFrames) (adds : FunctionsAdd) (tame : UnitsAreTame) where
    -- ---- slots

    pub slots_front : IsFront (layout u.tags f).slots home.slots
    slots_front = let g = (adds u l.order a.function x.tables f).low.slots in record { more = g.more; is = x.slots ∙ g.is }

    pub longer : length (layout u.tags f).slots ≤ length home.slots
    longer = front_length (layout u.tags f).slots home.slots slots_front

    pub is_frame : IsFrame home.slots
    is_frame = subst IsFrame (sym x.slots) (frames u l.order a.function x.tables f).frame

    pub all_in_layout : AllStand (layout u.tags f).slots home.words u.tags f.locals stands_at (layout u.tags f).places
    all_in_layout = subst (λ (n : ℕ). AllStand (layout u.tags f).slots n u.tags f.locals stands_at (layout u.tags f).places) (sym x.words) (locals_stand u.tags f)

    pub all_stand : AllStand home.slots home.words u.tags f.locals stands_at (layout u.tags f).places
    all_stand = subst (λ (ss : List Slot). AllStand ss home.words u.tags f.locals stands_at (layout u.tags f).places) (sym slots_front.is) (all_stand_on (layout u.tags f).slots slots_front.more home.words u.tags f.locals stands_at (layout u.tags f).places all_in_layout)

    -- ---- blocks are split

    blocks_split : AreSplit scene.body
    blocks_split done rest before es e =
        let front = framed_at (low_f u l.order a.function x.tables f).low.slots done rest before es (subst (AreFramed (low_f u l.order a.function x.tables f).low.slots) e (frames u l.order a.function x.tables f).blocks) in
        record { split = x.split done rest before es e; more = front.more; frame = x.slots ∙ front.is }

    pub is_body : IsBody scene (length (layout u.tags f).slots)
    is_body = record {
      split = blocks_split;
      tame = tame u is.checked;
      order = refl;
      words = program_sound l;
      above = objects_live u l map a.world w is.called.passed.world is.called.worlds;
      hidden = λ i le lt. other_there home stands_at i (omega (arith, lt)) (slots_elsewhere home (layout u.tags f).slots home.words u.tags i le lt f.locals stands_at (layout u.tags f).places all_in_layout);
    }

    -- ---- words

    pub word_place : (n : ℕ) → n < home.words → EachIs (IsNoWord n) stands_at → IsWordPlace scene (pos (4 * n))
    word_place n lt none =
        let same : home.place + (length home.slots + n) ≡ home.place + length home.slots + n = omega arith in
        record {
          name = argument_name home n;
          offset = 0;
          is = word_address home n lt;
          behind = omega arith;
          among = subst (λ (m : ℕ). IsAmong m (others_of home stands_at)) same
              (other_there home stands_at (length home.slots + n) (omega (arith, lt)) (words_elsewhere home (layout u.tags f).slots home.words u.tags longer n f.locals stands_at (layout u.tags f).places all_in_layout none));
        }

    pub result_place : (v : Value) → a.result ≡ Some v → IsWordPlace scene (pos 0)
    result_place v e =
        let some = one_hidden (is_record (result_type f.of)) (result_is_whole v e) in
        let words = x.words in
        word_place 0 (omega (arith, some, words)) (hidden_word u.tags f some)

    -- ---- locals

    pub one : (n : ℕ) (of : CType) → slice_get f.locals n ≡ Some of → StandsOne home.slots home.words u.tags n of stands_at (layout u.tags f).places
    one n of e = one_stands home.slots home.words u.tags f.locals stands_at (layout u.tags f).places n of all_stand e

    room_at : (of : CType) (h : Standpoint) (z : ℤ) → StandsIn home.slots home.words u.tags of h z → IsRoomAt scene z (size_of u.tags of)
    room_at of (InSlot n) z s =
        let size = size_of u.tags of in
        let fits_in = s.fits in
        subst (λ (y : ℤ). IsRoomAt scene y size) (sym s.low)
        (record { number = n; slot = s.slot; start = 0; there = s.there; is = sym s.low ∙ s.is ∙ (let e : s.slot.offset ≡ s.slot.offset +ℤ pos 0 = omega (arith, ints) in e); fits = omega (arith, fits_in) })
    room_at of (InWord n) z s = subst (λ (y : ℤ). IsRoomAt scene y (size_of u.tags of)) (sym s.0) tt
    room_at of (AsPassed n) z s = subst (λ (y : ℤ). IsRoomAt scene y (size_of u.tags of)) (sym s.0) tt

    value_some : (o : Option Word) (v : Word) → o ≡ Some v → o ≡ Some (value_or o)
    value_some None v e = absurd (let never : ⊥ = cc in never)
    value_some (Some x) v e = refl

    address_at_stand : (of : CType) (h : Standpoint) (z : ℤ) → is_passed h ≡ false → StandsIn home.slots home.words u.tags of h z → address_of home z ≡ Some (local_address home w.arguments h z)
    address_at_stand of (InSlot n) z not s = value_some (address_of home z) (Plain (Pointer (slot_name home n s.slot) 0)) (slot_address home is_frame n (size_of u.tags of) z s)
    address_at_stand of (InWord n) z not s = value_some (address_of home z) (Plain (Pointer (argument_name home n) 0)) (ap (address_of home) s.0 ∙ word_address home n s.1)
    address_at_stand of (AsPassed n) z not s = absurd (true≢false not)

    -- one that isn't passed by its address stands at the start of one of the call's objects
    pub record OwnAt (z : ℤ) : Type 0 where
      pub number : ℕ
      pub name : ObjectName
      pub within : number < length home.slots + home.words
      pub named : name.place ≡ home.place + number
      pub is_at : address_of home z ≡ Some (Plain (Pointer name 0))

    own_at : (of : CType) (h : Standpoint) (z : ℤ) → is_passed h ≡ false → StandsIn home.slots home.words u.tags of h z → OwnAt z
    own_at of (InSlot n) z not s = record { number = n; name = slot_name home n s.slot; within = (let lt = slice_get_within home.slots n s.slot s.there in omega (arith, lt)); named = refl; is_at = slot_address home is_frame n (size_of u.tags of) z s }
    own_at of (InWord n) z not s = record { number = length home.slots + n; name = argument_name home n; within = (let lt = s.1 in omega (arith, lt)); named = omega arith; is_at = ap (address_of home) s.0 ∙ word_address home n s.1 }
    own_at of (AsPassed n) z not s = absurd (true≢false not)

    pub own_address : (n : ℕ) (of : CType) (z : ℤ) → slice_get f.locals n ≡ Some of → is_passed_whole (context_in scene laid) n of ≡ false → slice_get (layout u.tags f).places n ≡ Some z → OwnAt z
    own_address n of z typed whole placed =
        let s = one n of typed in
        subst OwnAt (same_Some s.place z (sym s.placed ∙ placed)) (own_at of s.stands s.place (standpoint_passed u.tags f n of s.stands typed s.listed ∙ whole) s.is)

    pub address_there : (n : ℕ) (of : CType) (z : ℤ) (v : Word) → slice_get f.locals n ≡ Some of → is_passed_whole (context_in scene laid) n of ≡ false → slice_get (layout u.tags f).places n ≡ Some z → slice_get (local_addresses home w.arguments stands_at (layout u.tags f).places) n ≡ Some v
        → address_of home z ≡ Some v
    address_there n of z v typed whole placed listed =
        let s = one n of typed in
        let at : s.place ≡ z = same_Some s.place z (sym s.placed ∙ placed) in
        let word : local_address home w.arguments s.stands s.place ≡ v = same_Some (local_address home w.arguments s.stands s.place) v (sym (one_address home w.arguments stands_at (layout u.tags f).places n s.stands s.place s.listed s.placed) ∙ listed) in
        ap (address_of home) (sym at) ∙ address_at_stand of s.stands s.place (standpoint_passed u.tags f n of s.stands typed s.listed ∙ whole) s.is ∙ ap (λ (y : Word). Some y) word

    whole_by : (n : ℕ) (of : CType) (h : Standpoint) (z : ℤ) → is_passed h ≡ true → slice_get stands_at n ≡ Some h → StandsIn home.slots home.words u.tags of h z → IsWordPlace scene z
    whole_by n of (InSlot j) z e listed s = absurd (true≢false (sym e))
    whole_by n of (InWord j) z e listed s = absurd (true≢false (sym e))
    whole_by n of (AsPassed j) z e listed s = subst (IsWordPlace scene) (sym s.0) (word_place j s.1 (passed_word u.tags f n j listed))

    whole_there : (n : ℕ) (of : CType) (z : ℤ) → slice_get f.locals n ≡ Some of → is_passed_whole (context_in scene laid) n of ≡ true → slice_get (layout u.tags f).places n ≡ Some z → IsWordPlace scene z
    whole_there n of z typed whole placed =
        let s = one n of typed in
        subst (IsWordPlace scene) (same_Some s.place z (sym s.placed ∙ placed)) (whole_by n of s.stands s.place (standpoint_passed u.tags f n of s.stands typed s.listed ∙ whole) s.listed s.is)

    pub function_there : (n : ℕ) → n < length u.functions → value_of l (function_name u n) ≡ Some (Function n)
    function_there n lt =
        let g = one_there u.functions n lt in
        ap (λ (o : Option LoweredFunction). value_by l n o (object_place l n) (built_in_named l n)) (is.lowered.functions n g.0 g.1).named

    pub is_laid : IsLaidOut scene laid
    is_laid = record {
      types = refl;
      frame = is_frame;
      places = λ n of e. (let s = one n of e in (s.place, s.placed, room_at of s.stands s.place s.is));
      addresses = address_there;
      wholes = whole_there;
      functions = function_there;
      objects = λ n lt. (omega (arith, lt), is.lowered.objects n lt);
      texts = λ n lt. (omega (arith, lt), is.lowered.texts n lt);
    }

    pub calls_have_frames : HasFrame (activation u l a.function f x a w)
    calls_have_frames = record { body = is_body; laid = is_laid; result = result_place }
