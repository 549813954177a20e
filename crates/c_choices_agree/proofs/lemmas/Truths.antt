-- A test's truth as a number in a slot.
use Rattle.std.specs.Prelude.{◌≡◌, ◌≤◌, ◌<◌, ℕ, ◌+◌, ◌^◌, ℤ, Bool, true, false, Some, Ok, Err, List, length, Result as Checked}
use Rattle.std.proofs.Common.{true≢false, refl, sym, ap, subst, ◌∙◌, arith, length-append}
use Rattle.lcc_base.specs.declared.cause.Cause.{Cause}
use Rattle.objects.specs.declared.value.Value.{Value}
use Rattle.objects.specs.declared.value.Value.TheVariants.{Number}
use Rattle.op_forest.specs.declared.suffix.Suffix.TheVariants.{I}
use Rattle.forests.specs.Words.{Word, Plain, unknown}
use Rattle.forests.specs.Worlds.{World, Outcome}
use Rattle.dag_seam.specs.SplitLaws.{TurnsMean}
use Rattle.c_types.specs.CType.{CType}
use Rattle.c_meaning.specs.declared.core_expr.CoreKind.{CoreKind}
use Rattle.c_meaning.specs.declared.core_expr.CoreKind.TheVariants as kind
use Rattle.c_meaning.specs.CoreTrees.{Core, NoCore, Cores, type_of}
use Rattle.c_meaning.specs.Values.{CoreTree, CoreTrees}
use Rattle.c_runs.specs.Expressions.{holds, compared_by}
use Rattle.c_runs.specs.Outcomes.{Undefined, OutOfTurns, Exit, Result, Gives, GivesNone, Ends, then_give, truth, tells, gives, mapped, either, is_true, branch}
use Rattle.c_runs.specs.Worlds as c
use Rattle.c_match.specs.Ranges.{Map}
use Rattle.c_rows_agree.specs.Integers.{number}
use Rattle.c_rows_agree.specs.Typed.{Typed}
use Rattle.c_rows_agree.proofs.lemmas.Suffixes.{i_constant}
use Rattle.piece_runs.specs.Pieces.{Piece, Front}
use Rattle.piece_runs.specs.Reaches.{keeps_at}
use Rattle.c_expr_agreement.specs.LoweredExpr.{GrowsTo}
use Rattle.c_expr_agreement.specs.Scenes.{Scene}
use Rattle.lowered_forms.specs.Contexts.{Context}
use Rattle.lowered_forms.specs.Expressions.{is_test, row_by, low_e, low_test, parts_of}
use Rattle.lowered_forms.specs.Later.{IsFront}
use Rattle.lowered_forms.specs.Lows.{Low, marked, with_label, with_slot, slot_offset}
use Rattle.lowered_forms.specs.Tests.{truth_of}
use Rattle.lowered_forms.specs.Values.{Lowered, placed, slot_read, stored_in}
use Rattle.lowered_forms.proofs.lemmas.Adding.{testing_adds}
use Rattle.lowered_forms.proofs.lemmas.Fronts.{front_before}
use Rattle.lowered_forms.proofs.lemmas.Stepping.{placed_steps, stored_steps}
use Rattle.c_straight_agree.specs.Agreement.{IsLowered, Came, CameTo}
use Rattle.c_straight_agree.specs.Finals.{Final}
use Rattle.c_straight_agree.specs.Layouts.{FrameLayout, context_in, IsLaidOut, HoldsWholes}
use Rattle.c_straight_agree.specs.Narrow.{CharsAreNarrow, ShortsAreNarrow}
use Rattle.c_straight_agree.specs.Settled.{seen}
use Rattle.c_straight_agree.specs.Standing.{place_of, IsBody, Standing, IsSoundIn}
use Rattle.c_straight_agree.proofs.lemmas.Finals.{back, back_steps, back_jumps, test_finals_go_back}
use Rattle.c_straight_agree.proofs.lemmas.Parts.{result}
use Rattle.c_straight_agree.proofs.lemmas.SettledTemplates.{number_set}
use Rattle.c_straight_agree.proofs.lemmas.Wholes.{wholes_left}
use Rattle.c_slots_agree.specs.Laws.{SlotStored}
use Rattle.c_slots_agree.specs.Slots.{IsSlotAt, SlotHolds}
use Rattle.c_tests_agree.specs.Connectives.{IsTestedAnywhere}
use Rattle.c_tests_agree.specs.Tested.{Label, jumps, PassedBy, WentTo, asked_at}
use Rattle.c_tests_agree.proofs.lemmas.Comparing.{comparison_of, truths_alike}
use Rattle.c_tests_agree.proofs.lemmas.Joining.{Between, between_passed, between_joins}
use Rattle.c_tests_agree.proofs.lemmas.Marking.{with_label_stands, label_here, mark_stands}
use Rattle.c_tests_agree.proofs.lemmas.Truths.{told_so}
use Rattle.c_tests_agree.proofs.lemmas.Valuing.{slots_more}
use Rattle.c_choices_agree.specs.Truths.{TruthsAreLowered}
use Rattle.c_choices_agree.proofs.lemmas.Finishing.{word_came}
use Rattle.c_choices_agree.proofs.lemmas.Passing.{with_slot_stands, one_slot, between_stored, marked_is_new, came_behind}
use Rattle.c_choices_agree.proofs.lemmas.Slots.{SlotLaws}

-- ---- tests of C give truths

abbrev IsTruth : Result → Type 0
IsTruth (Gives v k w) = (is : Bool) × (v ≡ truth is)
IsTruth (GivesNone line k w) = ⊥
IsTruth (Ends how w) = Unit {0}

then_truth : (r : Result) (go : Value → ℕ → c.World → Result) → ((v : Value) (k : ℕ) (w : c.World) → IsTruth (go v k w)) → IsTruth (then_give r go)
then_truth (Gives v k w) go h = h v k w
then_truth (GivesNone line k w) go h = tt
then_truth (Ends how w) go h = tt

told_truth : (checked : Checked Bool Cause) (line k : ℕ) (w : c.World) → IsTruth (tells checked line k w)
told_truth (Ok b) line k w = (b, refl)
told_truth (Err cause) line k w = tt

mapped_truth : (checked : Checked Bool Cause) (line k : ℕ) (w : c.World) → IsTruth (gives (mapped truth checked) line k w)
mapped_truth (Ok b) line k w = (b, refl)
mapped_truth (Err cause) line k w = tt

either_truth : (b : Bool) (go other : ℕ → c.World → Result) → ((k : ℕ) (w : c.World) → IsTruth (go k w)) → ((k : ℕ) (w : c.World) → IsTruth (other k w)) → (k : ℕ) (w : c.World) → IsTruth (either b go other k w)
either_truth true go other f g k w = f k w
either_truth false go other f g k w = g k w

asked_truth : (s : Scene) (e : CoreTree) (line k : ℕ) (w : c.World) → IsTruth (asked_at s e line k w)
asked_truth s e line k w = then_truth (result s e k w) (λ v j x. tells (holds (type_of e) (c.objects x) v) line j x) (λ v j x. told_truth (holds (type_of e) (c.objects x) v) line j x)

fixed_truth : (b : Bool) (k : ℕ) (w : c.World) → IsTruth (Gives (truth b) k w)
fixed_truth b k w = (b, refl)

abbrev fixed : Bool → ℕ → c.World → Result
fixed b k w = Gives (truth b) k w

-- whatever parts it has
row_truth : (s : Scene) (what : CoreKind) (of : CType) (line : ℕ) (kids : CoreTrees) → is_test what ≡ true → (k : ℕ) (w : c.World) → IsTruth (result s (Core what of line kids) k w)
row_truth s kind.Not of line NoCore e k w = tt
row_truth s kind.Not of line (Cores a NoCore) e k w =
    then_truth (asked_at s a line k w) (λ v j x. branch v (λ i z. fixed false i z) (λ i z. fixed true i z) j x)
    (λ v j x. either_truth (is_true v) (λ i z. fixed false i z) (λ i z. fixed true i z) (λ i z. fixed_truth false i z) (λ i z. fixed_truth true i z) j x)
row_truth s kind.Not of line (Cores a (Cores b cs)) e k w = tt
row_truth s kind.And of line NoCore e k w = tt
row_truth s kind.And of line (Cores a NoCore) e k w = tt
row_truth s kind.And of line (Cores a (Cores b NoCore)) e k w =
    then_truth (asked_at s a line k w) (λ v j x. branch v (λ i z. asked_at s b line i z) (λ i z. fixed false i z) j x)
    (λ v j x. either_truth (is_true v) (λ i z. asked_at s b line i z) (λ i z. fixed false i z) (λ i z. asked_truth s b line i z) (λ i z. fixed_truth false i z) j x)
row_truth s kind.And of line (Cores a (Cores b (Cores d cs))) e k w = tt
row_truth s kind.Or of line NoCore e k w = tt
row_truth s kind.Or of line (Cores a NoCore) e k w = tt
row_truth s kind.Or of line (Cores a (Cores b NoCore)) e k w =
    then_truth (asked_at s a line k w) (λ v j x. branch v (λ i z. fixed true i z) (λ i z. asked_at s b line i z) j x)
    (λ v j x. either_truth (is_true v) (λ i z. fixed true i z) (λ i z. asked_at s b line i z) (λ i z. fixed_truth true i z) (λ i z. asked_truth s b line i z) j x)
row_truth s kind.Or of line (Cores a (Cores b (Cores d cs))) e k w = tt
row_truth s (kind.Compare o signed) of line NoCore e k w = tt
row_truth s (kind.Compare o signed) of line (Cores a NoCore) e k w = tt
row_truth s (kind.Compare o signed) of line (Cores a (Cores b NoCore)) e k w =
    then_truth (result s a k w) (λ v j x. then_give (result s b j x) (λ u i z. gives (compared_by (type_of a) signed o (c.objects z) v u) line i z))
    (λ v j x. then_truth (result s b j x) (λ u i z. gives (compared_by (type_of a) signed o (c.objects z) v u) line i z) (λ u i z. mapped_truth (comparison_of (type_of a) signed o (c.objects z) v u) line i z))
row_truth s (kind.Compare o signed) of line (Cores a (Cores b (Cores d cs))) e k w = tt
row_truth s what of line kids e k w = absurd (true≢false (sym e))

-- ---- from what a test comes to, to what its value comes to

module _ (s : Scene) (start : ℕ → Outcome) (turns : ℕ) (l m p : Low) (f : Front s.body.pieces m.pieces m.entries) (h : Front s.body.pieces p.pieces p.entries) (a : Typed) (n : ℕ) (t : Label s n) (map : Map) (before : c.World) (values : ℕ → Word) (first world : World) (from : ℕ) where
  gave_truth : (is : Bool) (r : Result) (k : ℕ) (old : c.World) → r ≡ Gives (truth is) k old → WentTo s start turns from false m f n t map before world r → PassedBy (jumps false is) s start turns from m f n t map before world old k
  gave_truth is r k old e went =
      let w = subst (λ (x : Result). WentTo s start turns from false m f n t map before world x) e went in
      subst (λ (b : Bool). PassedBy (jumps false b) s start turns from m f n t map before world old k) (truths_alike is w.0 w.1.0) w.1.1

  truth_goes : (of : CType) (line : ℕ) (r : Result) → IsTruth r → WentTo s start turns from false m f n t map before world (then_give r (λ v k w. tells (holds of (c.objects w) v) line k w))
      → ((is : Bool) (k : ℕ) (old : c.World) → PassedBy (jumps false is) s start turns from m f n t map before world old k → Came s start turns l p h a map before values first (Some (truth is)) old k)
      → CameTo s start turns l p h a map before values first r
  truth_goes of line (Gives v k old) is went next =
      subst (λ (x : Value). Came s start turns l p h a map before values first (Some x) old k) (sym is.1)
      (next is.0 k old (gave_truth is.0 (tells (holds of (c.objects old) v) line k old) k old (ap (λ (x : Value). tells (holds of (c.objects old) x) line k old) is.1 ∙ told_so of is.0 line k old) went))
  truth_goes of line (GivesNone l1 k old) is went next = absurd is
  truth_goes of line (Ends (Undefined cause l1) old) is went next = tt
  truth_goes of line (Ends OutOfTurns old) is went next = went
  truth_goes of line (Ends (Exit status) old) is went next = went

-- ---- the slot

module _ (chars : CharsAreNarrow) (shorts : ShortsAreNarrow) (means : TurnsMean) (laws : SlotLaws) (s : Scene) (locals : ℕ) (body : IsBody s locals) (y : FrameLayout) (laid : IsLaidOut s y) (e : CoreTree) (tested : IsTestedAnywhere s locals y e) (l : Low) (le : locals ≤ length l.slots) where
  abbrev x : Context
  x = context_in s y

  abbrev all : List Piece
  all = s.body.pieces

  abbrev z : ℤ
  z = slot_offset l

  abbrev i : ℕ
  i = length l.slots

  abbrev begun : Low
  begun = with_label (with_slot l)

  -- 0 is stored, the test follows, then 1 is stored
  abbrev zeroed : Low
  zeroed = stored_in z (number true 0) begun

  abbrev asked_then : Low
  asked_then = low_test x e l.labels false zeroed

  abbrev set : Low
  set = stored_in z (number true 1) asked_then

  abbrev ended : Low
  ended = marked l.labels set

  abbrev out : Lowered
  out = placed (slot_read I z) ended

  slots_begun : length begun.slots ≡ i + 1
  slots_begun = one_slot l

  slots_asked : length zeroed.slots ≤ length asked_then.slots
  slots_asked = slots_more zeroed asked_then (testing_adds x e l.labels false zeroed).slots

  slots_ended : length asked_then.slots ≤ length ended.slots
  slots_ended = slots_more set ended (front_before set.slots _)

  pieces_more : length l.pieces ≤ length set.pieces
  pieces_more =
      let p = (testing_adds x e l.labels false zeroed).pieces in
      let a = ap (λ (ps : List Piece). length ps) p.is in
      let b = length-append l.pieces p.more in
      omega (arith, a, b)

  never_grows : GrowsTo (place_of l) (place_of out.low) → ⊥
  never_grows g = marked_is_new l set out.low l.labels pieces_more refl g

  small : (n : ℕ) → n ≤ 1 → n < 2 ^ 32
  small n h = omega (arith, h)

  module _ (start : ℕ → Outcome) (turns : ℕ) (f : Front all l.pieces l.entries) (h : Front all out.low.pieces out.low.entries) (slots : IsFront out.low.slots h.before) (map : Map) (before : c.World) (values : ℕ → Word) (first : World) (k : ℕ)
      (st : Standing s start turns l f map before values first k) (sound : IsSoundIn s before) (wholes : HoldsWholes s y first) where
    final_ended : Final all ended
    final_ended = placed_steps (back all) (back_steps all) (slot_read I z) ended (record { front = h; slots = slots })

    final_set : Final all set
    final_set = (back_jumps all).marks l.labels set final_ended

    final_asked : Final all asked_then
    final_asked = stored_steps (back all) (back_steps all) z (number true 1) asked_then final_set

    final_zeroed : Final all zeroed
    final_zeroed = test_finals_go_back all x e l.labels false zeroed final_asked

    final_begun : Final all begun
    final_begun = stored_steps (back all) (back_steps all) z (number true 0) begun final_zeroed

    final_slot : Final all (with_slot l)
    final_slot = (back_jumps all).label (with_slot l) final_begun

    at : IsSlotAt s i z
    at = laws.taken s locals body l l.pieces l.entries final_slot.front final_slot.slots

    begins : Standing s start turns begun f map before values first k
    begins = with_label_stands s start turns (with_slot l) f map before values first k (with_slot_stands s start turns l f map before values first k st final_slot)

    -- a number is stored
    stored_number : (n : ℕ) → n < 2 ^ 32 → (m : Low) (g : Front all m.pieces m.entries) (q : Front all (stored_in z (number true n) m).pieces (stored_in z (number true n) m).entries) (mp : Map) (old : c.World) (vs : ℕ → Word) (w : World) (j : ℕ)
        → Standing s start turns m g mp old vs w j → i < length m.slots → SlotStored s start turns i (Plain (Number n)) m (stored_in z (number true n) m) q mp old vs w j
    stored_number n lt m g q mp old vs w j stands less =
        laws.stored s locals body laid.frame start turns m g mp old vs w j stands i z at le less (number true n) (Plain (Number n)) tt (number_set (keeps_at s.body m.pieces m.entries g) (seen s.body mp vs w) true n) (i_constant (seen s.body mp vs w) n lt) q

    -- it is what the expression comes to
    read_number : (is : Bool) (n : ℕ) → n < 2 ^ 32 → truth is ≡ Number n → (later : Map) (old : c.World) (others : ℕ → Word) (world : World) (j : ℕ) → Standing s start turns ended final_ended.front later old others world j → Between s i map before first later old world
        → SlotHolds s i (Plain (Number n)) world → Came s start turns l out.low h out.value map before values first (Some (truth is)) old j
    read_number is n lt same later old others world j stands between holds =
        let less : i < length ended.slots = (let a = slots_begun in let b = slots_asked in let d = slots_ended in omega (arith, a, b, d)) in
        let r = laws.reads s locals body laid.frame i z at ended final_ended.front final_ended.slots less later others world (Plain (Number n)) holds I in
        let le1 : locals ≤ length ended.slots = (let a = le in omega (arith, a, less)) in
        came_behind s start turns l out.low h out.value map before values first later old others world between ended (omega (arith, less)) never_grows (Some (truth is)) old j
        (subst (λ (v : Value). Came s start turns ended out.low h out.value later old others world (Some v) old j) (sym same)
        (word_came chars shorts s locals body start turns ended le1 final_ended.front later old others world j stands I (slot_read I z).tree tt r.1 (Plain (Number n)) r.0 lt (Some (Number n)) refl h))

    label : Label s l.labels
    label = label_here s l.labels set final_ended.front final_ended.slots

    zero_stored : SlotStored s start turns i (Plain (Number 0)) begun zeroed final_zeroed.front map before values first k
    zero_stored = stored_number 0 (small 0 (omega arith)) begun f final_zeroed.front map before values first k begins (let a = slots_begun in omega (arith, a))

    abbrev cleared : World
    cleared = zero_stored.world

    cleared_between : Between s i map before first map before cleared
    cleared_between = between_stored s start turns i (Plain (Number 0)) begun zeroed final_zeroed.front map before values first k zero_stored

    less_zeroed : i < length zeroed.slots
    less_zeroed = let a = slots_begun in omega (arith, a)

    -- behind the test
    truth_came : (is : Bool) (j : ℕ) (old : c.World) → PassedBy (jumps false is) s start turns (length zeroed.slots) asked_then final_asked.front l.labels label map before cleared old j → Came s start turns l out.low h out.value map before values first (Some (truth is)) old j
    unfolding label final_ended
    truth_came false j old passed =
        let both = between_joins s i (length zeroed.slots) (omega (arith, less_zeroed)) map before first map before cleared cleared_between passed.later old passed.world (between_passed s start turns (length zeroed.slots) ended final_ended.front map before cleared old j passed) in
        read_number false 0 (small 0 (omega arith)) refl passed.later old passed.others passed.world j passed.stands both
        (laws.stay s locals body i (length zeroed.slots) z at le less_zeroed map before cleared passed.world zero_stored.stands.stands.frame passed.alike passed.left (Plain (Number 0)) zero_stored.holds)
    truth_came true j old passed =
        let both = between_joins s i (length zeroed.slots) (omega (arith, less_zeroed)) map before first map before cleared cleared_between passed.later old passed.world (between_passed s start turns (length zeroed.slots) asked_then final_asked.front map before cleared old j passed) in
        let less : i < length asked_then.slots = (let a = less_zeroed in let b = slots_asked in omega (arith, a, b)) in
        let one = stored_number 1 (small 1 (omega arith)) asked_then final_asked.front final_set.front passed.later old passed.others passed.world j passed.stands less in
        let all_three = between_joins s i i (omega arith) map before first passed.later old passed.world both passed.later old one.world (between_stored s start turns i (Plain (Number 1)) asked_then set final_set.front passed.later old passed.others passed.world j one) in
        read_number true 1 (small 1 (omega arith)) refl passed.later old (λ m. unknown) one.world j (mark_stands means s locals body start turns l.labels set final_set.front final_ended.front final_ended.slots passed.later old one.others one.world j one.stands) all_three one.holds

    truth_comes : (of : CType) (line : ℕ) → IsTruth (result s e k before) → ((w : WentTo s start turns (length zeroed.slots) false asked_then final_asked.front l.labels label map before cleared (then_give (result s e k before) (λ v k1 w1. tells (holds of (c.objects w1) v) line k1 w1))) → CameTo s start turns l out.low h out.value map before values first (result s e k before))
    truth_comes of line is w = truth_goes s start turns l asked_then out.low final_asked.front h out.value l.labels label map before values first cleared (length zeroed.slots) of line (result s e k before) is w truth_came

    asked_went : (line : ℕ) → WentTo s start turns (length zeroed.slots) false asked_then final_asked.front l.labels label map before cleared (asked_at s e line k before)
    asked_went line =
        tested zeroed (let a = less_zeroed in omega (arith, le, a)) l.labels false start turns final_zeroed.front final_asked.front label map before zero_stored.others cleared k line final_asked.slots zero_stored.stands sound
        (wholes_left s y laid map before first cleared st.stands.frame.others zero_stored.alike i zero_stored.left wholes)

-- ---- the law

test_is : (x : Context) (what : CoreKind) (of : CType) (line : ℕ) (kids : CoreTrees) → is_test what ≡ true → (l : Low) → low_e x (Core what of line kids) l ≡ truth_of (λ n when l1. low_test x (Core what of line kids) n when l1) l
test_is x what of line kids e l = ap (λ (b : Bool). row_by b x what of (parts_of x kids) l) e

pub truths_are_lowered : CharsAreNarrow → ShortsAreNarrow → TurnsMean → SlotLaws → TruthsAreLowered
truths_are_lowered chars shorts means laws s locals y body laid what of line kids e tested l le =
    subst (λ (r : Lowered). IsLowered s y (Core what of line kids) l r) (sym (test_is (context_in s y) what of line kids e l))
    (λ start turns f h map before values first k slots st sound wholes.
    truth_comes chars shorts means laws s locals body y laid (Core what of line kids) tested l le start turns f h slots map before values first k st sound wholes of line (row_truth s what of line kids e k before)
    (asked_went chars shorts means laws s locals body y laid (Core what of line kids) tested l le start turns f h slots map before values first k st sound wholes line))
