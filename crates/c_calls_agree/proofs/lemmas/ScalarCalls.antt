-- Calls that give scalars.
use Rattle.std.specs.Prelude.{◌≡◌, ◌≤◌, ◌<◌, ℕ, ◌+◌, ℤ, Bool, true, false, Option, Some, None, List, [], ◌∷◌, length}
use Rattle.std.proofs.Common.{refl, sym, subst, ◌∙◌, arith, length-append}
use Rattle.objects.specs.declared.value.Value.{Value}
use Rattle.objects.specs.declared.value.Value.TheVariants.{Number, Pointer, Function}
use Rattle.op_forest.specs.declared.suffix.Suffix.{Suffix}
use Rattle.op_forest.specs.declared.suffix.Suffix.TheVariants.{I, P}
use Rattle.op_forest.specs.declared.op.Op.TheVariants as op
use Rattle.op_forest.specs.Frames.{IsFrame, lowest}
use Rattle.dag_forest.specs.NewSlots.{slot_below}
use Rattle.forests.specs.Words.{Word}
use Rattle.forests.specs.Worlds.{World, Outcome}
use Rattle.dag_forest.specs.Tally.{node_count}
use Rattle.dag_seam.specs.SplitLaws.{TurnsMean}
use Rattle.c_types.specs.CType.{CType}
use Rattle.c_meaning.specs.Types.{is_record, is_pointer}
use Rattle.c_runs.specs.Expressions.{call_by}
use Rattle.c_runs.specs.Run.{context}
use Rattle.c_runs.specs.Outcomes.{Undefined, OutOfTurns, Exit, Result, Gives, GivesNone, Ends}
use Rattle.c_runs.specs.Locals.{LocalIsObject}
use Rattle.c_runs.specs.Worlds as c
use Rattle.c_match.specs.Ranges.{Map}
use Rattle.c_match.proofs.lemmas.Growing.{grown_refl, grown_trans}
use Rattle.c_rows_agree.specs.Templates.{Gives as GivesWord}
use Rattle.c_rows_agree.specs.Typed.{Typed, head}
use Rattle.c_pointers_agree.specs.Pointers.{local}
use Rattle.piece_runs.specs.Pieces.{Front}
use Rattle.piece_runs.specs.Reaches.{keeps_at}
use Rattle.c_expr_agreement.specs.Scenes.{Scene}
use Rattle.lowered_forms.specs.Calls.{all_passed, call_stored, result_suffix}
use Rattle.lowered_forms.specs.Later.{IsFront}
use Rattle.lowered_forms.specs.Lows.{Low, acted, slot_offset, with_slot}
use Rattle.lowered_forms.specs.Values.{Lowered, placed, slot_read}
use Rattle.lowered_forms.proofs.lemmas.Blocks.{within_more}
use Rattle.c_straight_agree.specs.Agreement.{Came, CameTo}
use Rattle.c_straight_agree.specs.Extends.{Extends}
use Rattle.c_straight_agree.specs.Layouts.{FrameLayout, context_in, IsLaidOut}
use Rattle.c_straight_agree.specs.Narrow.{CharsAreNarrow, ShortsAreNarrow}
use Rattle.c_straight_agree.specs.Settled.{seen, IsSettled}
use Rattle.c_straight_agree.specs.Standing.{IsBody, Standing}
use Rattle.c_straight_agree.proofs.lemmas.At.{at_of, at_front}
use Rattle.c_straight_agree.proofs.lemmas.Extending.{placed_extends, acted_extends, extends_nodes, extends_slots, extends_grows, front_back, slots_back}
use Rattle.c_straight_agree.proofs.lemmas.Lasting.{lasting_more, lasting_stays}
use Rattle.c_straight_agree.proofs.lemmas.Opens.{opens_stay}
use Rattle.c_straight_agree.proofs.lemmas.Putting.{alike_length}
use Rattle.c_slots_agree.specs.Slots.{IsSlotAt}
use Rattle.c_slots_agree.proofs.lemmas.Reads.{slots_are_read}
use Rattle.c_slots_agree.proofs.lemmas.Taken.{slots_are_taken}
use Rattle.c_calls_agree.specs.Passing.{Passing, PassedTo}
use Rattle.c_calls_agree.specs.Programs.{IsProgram}
use Rattle.c_calls_agree.proofs.lemmas.Arguments.{values_of, GoesAll}
use Rattle.c_calls_agree.proofs.lemmas.Calls.{made_as}
use Rattle.c_calls_agree.proofs.lemmas.Making.{called_so, by_value, standing_passes, plain_call_comes}
use Rattle.c_calls_agree.proofs.lemmas.StoredRoots.{CallStored, StoredTo, root_is_stored, word_came}
use Rattle.c_calls_agree.proofs.lemmas.Words.{passing_at, words_extend, have_more, words_are_passed}

-- ---- a slot more

-- the same state, before a block that is split behind one slot more
slot_passes : (s : Scene) (start : ℕ → Outcome) (turns : ℕ) (l : Low) (f h : Front s.body.pieces l.pieces l.entries) (map : Map) (old : c.World) (values : ℕ → Word) (w : World) (k : ℕ) → IsFront (with_slot l).slots h.before
    → Standing s start turns l f map old values w k → Passing s start turns (with_slot l) h map old values w k []
slot_passes s start turns l f h map old values w k behind st =
    let keeps = keeps_at s.body l.pieces l.entries f in
    let at = at_front s start turns l.pieces l.slots keeps k map old l.entries f h values w (at_of s start turns l f map old values w k st) in
    let passing = standing_passes s start turns l f map old values w k st in
    passing_at s start turns (with_slot l) h map old values w k [] keeps
    (record { block = at.block; none_waits = at.none_waits; behind = behind; reaches = at.reaches; matches = at.matches; frame = at.frame; opened = at.opened; free = at.free; keeps_is = at.keeps_is })
    passing.words passing.callees

-- ---- argument words, the call in its slot, and the slot that is read

module _ (s : Scene) (start : ℕ → Outcome) (turns : ℕ) (l m p q : Low) (few : length l.slots ≤ length m.slots) (nodes : node_count l.entries ≤ node_count m.entries) (x : Extends m p) (y : Extends p q) (g : Front s.body.pieces m.pieces m.entries) (e : Front s.body.pieces p.pieces p.entries) (h : Front s.body.pieces q.pieces q.entries) (a : Typed)
    (map : Map) (old : c.World) (values : ℕ → Word) (w : World) (k : ℕ) (vs : List Value) (n : Low) (entries : node_count n.entries ≡ node_count l.entries) (slots : length l.slots ≤ length n.slots) (one : PassedTo s start turns n m g map old values w k vs) (v : Option Value) (new : c.World) (j : ℕ)
    (two : CallStored s start turns (length l.slots) m p e map old one.others one.world v new j) (three : Came s start turns p q h a two.later new two.others two.world v new j) where
  longer : (place : ℕ) → place < length w.objects → place < length one.world.objects
  longer place lt = let c1 = alike_length w.objects one.world.objects one.alike in omega (arith, lt, c1)

  longer_still : (place : ℕ) → place < length w.objects → place < length two.world.objects
  longer_still place lt = let c1 = alike_length one.world.objects two.world.objects two.alike in let c2 = longer place lt in omega (arith, c1, c2)

  pub all_came : Came s start turns l q h a map old values w v new j
  all_came = record {
    later = three.later;
    grown = grown_trans map two.later three.later two.grown three.grown;
    others = three.others;
    world = three.world;
    stands = three.stands;
    alike = one.alike ∙ two.alike ∙ three.alike;
    left = λ place lt private none.
        three.left place (longer_still place lt) (two.private place private) (λ taken. none ((let t = taken.0 in let c1 = extends_slots m p x in omega (arith, t, c1, few)), taken.1))
        ∙ two.left place (longer place lt) private none
        ∙ one.left place lt private (λ taken. none ((let t = taken.0 in omega (arith, t, slots)), taken.1));
    private = λ place lt private. three.private place (longer_still place lt) (two.private place private);
    kept = λ grows i lt.
        three.kept (extends_grows p q y) i (let c1 = extends_nodes m p x in omega (arith, lt, nodes, c1))
        ∙ two.kept i (omega (arith, lt, nodes))
        ∙ one.kept i (omega (arith, lt, entries));
    has = three.has;
  }

module _ (chars : CharsAreNarrow) (shorts : ShortsAreNarrow) (s : Scene) (locals : ℕ) (body : IsBody s locals) (frame : IsFrame s.body.setting.environment.home.slots) (start : ℕ → Outcome) (turns : ℕ) (p : Low) (le : locals ≤ length p.slots) (number : ℕ) (offset : ℤ) (slot_at : IsSlotAt s number offset) (before : number < length p.slots)
    (m : Low) (e : Front s.body.pieces p.pieces p.entries) (map : Map) (old : c.World) (values : ℕ → Word) (w : World) (v : Option Value) (new : c.World) (j : ℕ) (stored : CallStored s start turns number m p e map old values w v new j) where
  read_by : (x : Suffix) → GivesWord (seen s.body stored.later stored.others stored.world) (slot_read x offset).tree stored.word × IsSettled (keeps_at s.body p.pieces p.entries e) (seen s.body stored.later stored.others stored.world) (slot_read x offset).tree
  read_by x = slots_are_read s locals body frame number offset slot_at p e stored.stands.slots before stored.later stored.others stored.world stored.word stored.holds x

  pub slot_came : (pointer : Bool) → (h : Front s.body.pieces (placed (slot_read (result_suffix pointer) offset) p).low.pieces (placed (slot_read (result_suffix pointer) offset) p).low.entries)
      → Came s start turns p (placed (slot_read (result_suffix pointer) offset) p).low h (placed (slot_read (result_suffix pointer) offset) p).value stored.later new stored.others stored.world v new j
  slot_came true h =
      let read = read_by P in
      word_came chars shorts s locals body start turns p le e stored.later new stored.others stored.world j stored.stands v stored.word stored.given P (head op.Indir P) (local offset).tree tt read.1 read.0 h
  slot_came false h =
      let read = read_by I in
      word_came chars shorts s locals body start turns p le e stored.later new stored.others stored.world j stored.stands v stored.word stored.given I (head op.Indir I) (local offset).tree tt read.1 read.0 h

-- ---- calls that give scalars

module _ (chars : CharsAreNarrow) (shorts : ShortsAreNarrow) (means : TurnsMean) (s : Scene) (locals : ℕ) (body : IsBody s locals) (program : IsProgram s) (each : LocalIsObject) (y : FrameLayout) (laid : IsLaidOut s y) (of : CType) (line : ℕ) (plain : is_record of ≡ false) where
  abbrev frame : IsFrame s.body.setting.environment.home.slots
  frame = laid.frame

  module _ (start : ℕ → Outcome) (turns : ℕ) (l l0 m p : Low) (pointer : Bool) (offset : ℤ) (few : length l.slots ≤ length m.slots) (nodes : node_count l.entries ≤ node_count m.entries) (x : Extends m p) (entries : node_count l0.entries ≡ node_count l.entries) (slots : length l.slots ≤ length l0.slots)
      (g : Front s.body.pieces m.pieces m.entries) (e : Front s.body.pieces p.pieces p.entries) (h : Front s.body.pieces (placed (slot_read (result_suffix pointer) offset) p).low.pieces (placed (slot_read (result_suffix pointer) offset) p).low.entries)
      (le : locals ≤ length p.slots) (slot_at : IsSlotAt s (length l.slots) offset) (before : length l.slots < length p.slots) (map : Map) (old : c.World) (values : ℕ → Word) (w : World) (k : ℕ) (vs : List Value) (one : PassedTo s start turns l0 m g map old values w k vs) where
    abbrev result : Lowered
    result = placed (slot_read (result_suffix pointer) offset) p

    finish_value : (v : Option Value) (new : c.World) (j : ℕ) → CallStored s start turns (length l.slots) m p e map old one.others one.world v new j → Came s start turns l result.low h result.value map old values w v new j
    finish_value v new j two =
        all_came s start turns l m p result.low few nodes x (placed_extends (slot_read (result_suffix pointer) offset) p) g e h result.value map old values w k vs l0 entries slots one v new j two
        (slot_came chars shorts s locals body frame start turns p le (length l.slots) offset slot_at before m e map old one.others one.world v new j two pointer h)

    finish : (r : Result) → StoredTo s start turns (length l.slots) m p e map old one.others one.world r → CameTo s start turns l result.low h result.value map old values w r
    finish (Gives v j new) two = finish_value (Some v) new j two
    finish (GivesNone line1 j new) two = finish_value None new j two
    finish (Ends (Undefined cause line1) new) two = tt
    finish (Ends OutOfTurns new) two = two
    finish (Ends (Exit status) new) two = two

  pub scalar_goes : (callee : Value) → GoesAll s locals body y of (λ n ps l. made_as false false (context_in s y) of n ps l) (λ n xs k old. call_by (context s.unit s.lowered.order) of line callee n xs k old) callee
  scalar_goes callee n m le [] within copies xs start turns f h map old values w k slots st sound wholes evaluated have = absurd have
  scalar_goes (Number i) n m le (g ∷ as') within copies xs start turns f h map old values w k slots st sound wholes evaluated have = tt
  scalar_goes (Pointer object offset) n m le (g ∷ as') within copies xs start turns f h map old values w k slots st sound wholes evaluated have = tt
  scalar_goes (Function function) n m le (g ∷ as') within copies xs start turns f h map old values w k slots st sound wholes evaluated have =
      let l0 = with_slot m in
      let z = slot_offset m in
      let number = length m.slots in
      let m1 = all_passed as' l0 in
      let p = acted (call_stored z g) m1 in
      let a = slot_read (result_suffix (is_pointer of)) z in
      let q = (placed a p).low in
      let x1 = words_extend as' l0 in
      let x2 = acted_extends (call_stored z g) m1 in
      let x3 = placed_extends a p in
      let h2 = front_back s.body.pieces p q x3 h in
      let s2 = slots_back s.body.pieces p q x3 h slots in
      let h1 = front_back s.body.pieces m1 p x2 h2 in
      let s1 = slots_back s.body.pieces m1 p x2 h2 s2 in
      let h0 = front_back s.body.pieces l0 m1 x1 h1 in
      let s0 = slots_back s.body.pieces l0 m1 x1 h1 s1 in
      let one_more : length l0.slots ≡ number + 1 = length-append m.slots (slot_below (lowest m.slots) 0 ∷ []) in
      let more = extends_slots l0 m1 x1 in
      let more2 = extends_slots m1 p x2 in
      let le0 : locals ≤ length l0.slots = omega (arith, le, one_more) in
      let le1 : locals ≤ length m1.slots = omega (arith, le0, more) in
      let le2 : locals ≤ length p.slots = omega (arith, le1, more2) in
      let slot_at = slots_are_taken s locals body m m.pieces m.entries h0 s0 in
      let passed = words_are_passed chars shorts s locals body start turns l0 le0 h0 map old values w k [] (slot_passes s start turns m f h0 map old values w k s0 st) as' (values_of xs) within.1
      (have_more s locals number (length l0.slots) (omega (arith, one_more)) as' map values w (values_of xs) have.1) h1 in
      let count = node_count m.entries in
      let has =
      lasting_more s locals (length l0.slots) (length m1.slots) more g map passed.others passed.world (Function function)
      (lasting_stays s locals body (length l0.slots) (length l0.slots) (omega arith) map map (grown_refl map) old values passed.others w passed.world st.stands.frame passed.alike passed.left count passed.kept g (Function function) within.0
      (lasting_more s locals number (length l0.slots) (omega (arith, one_more)) g map values w (Function function) have.0)) in
      let r = called_so s of line n xs k old function in
      let before : number < length m1.slots = omega (arith, one_more, more) in
      let before2 : number < length p.slots = omega (arith, before, more2) in
      let stored = root_is_stored chars shorts means s locals body frame start turns m1 le1 h1 map old passed.others passed.world k (values_of xs) passed.stands g function (within_more count (node_count m1.entries) g.tree (extends_nodes l0 m1 x1) within.0) has number z slot_at le before r
      (λ world alike matches words.
      plain_call_comes s locals body program each y laid of line n copies xs k old sound evaluated map st.stands.frame.locals passed.stands.callees function plain world
      (opens_stay s.frame.addresses w.objects world.objects (passed.alike ∙ alike) wholes.opens) matches words) h2 in
      subst (λ (y : Result). CameTo s start turns m q h (placed a p).value map old values w y) (sym (by_value s of line n xs k old function))
      (finish start turns m l0 m1 p (is_pointer of) z (omega (arith, before)) (extends_nodes l0 m1 x1) x2 refl (omega (arith, one_more)) h1 h2 h le2 slot_at before2 map old values w k (values_of xs) passed r stored)
