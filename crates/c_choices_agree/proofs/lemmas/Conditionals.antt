-- Conditionals are lowered.
use Rattle.std.specs.Prelude.{◌≡◌, ◌≤◌, ◌<◌, ℕ, suc, ℤ, ◌||◌, Bool, true, false, Option, Some, None, List, [], ◌∷◌, ◌++◌, length}
use Rattle.std.proofs.Common.{true≢false, refl, sym, ap, subst, ◌∙◌, arith, length-append}
use Rattle.objects.specs.declared.value.Value.{Value}
use Rattle.op_forest.specs.declared.frame.Slot.{Slot}
use Rattle.forests.specs.Words.{Word, unknown}
use Rattle.forests.specs.Worlds.{World, Outcome}
use Rattle.dag_forest.specs.Tally.{node_count}
use Rattle.dag_seam.specs.SplitLaws.{TurnsMean}
use Rattle.c_meaning.specs.declared.core_expr.CoreKind.TheVariants as kind
use Rattle.c_meaning.specs.CoreTrees.{Core, NoCore, Cores, line_of}
use Rattle.c_meaning.specs.Types.{is_void, is_pointer, is_record}
use Rattle.c_meaning.specs.Values.{CoreTree}
use Rattle.c_runs.specs.Outcomes.{Undefined, OutOfTurns, Exit, Result, Gives, GivesNone, Ends, then_give, truth, is_true, branch}
use Rattle.c_runs.specs.Soundness.{EvalStaysSound}
use Rattle.c_runs.specs.Worlds as c
use Rattle.c_match.specs.Ranges.{Map}
use Rattle.c_rows_agree.specs.Typed.{Typed}
use Rattle.piece_runs.specs.Pieces.{Piece, OfBlock, Mark, Front}
use Rattle.c_expr_agreement.specs.LoweredExpr.{GrowsTo}
use Rattle.c_expr_agreement.specs.Scenes.{Scene}
use Rattle.lowered_forms.specs.Conditionals.{Sort, Nothing, sort_by, sort_of, kept_in, sort_read}
use Rattle.lowered_forms.specs.Contexts.{Context}
use Rattle.lowered_forms.specs.Expressions.{low_e, low_test}
use Rattle.lowered_forms.specs.Later.{IsFront, IsLater}
use Rattle.lowered_forms.specs.Lows.{Low, acted_one, marked, jumped, with_label, with_slot, slot_offset}
use Rattle.lowered_forms.specs.Values.{Lowered, placed}
use Rattle.lowered_forms.proofs.lemmas.Adding.{lowering_adds, testing_adds}
use Rattle.lowered_forms.proofs.lemmas.Fronts.{front_before}
use Rattle.lowered_forms.proofs.lemmas.NodesOf.{values_have_nodes}
use Rattle.lowered_forms.proofs.lemmas.Stepping.{placed_steps}
use Rattle.lowered_forms.proofs.lemmas.WithinTemplates.{HasIn}
use Rattle.c_straight_agree.specs.Agreement.{Came, CameTo, without_value}
use Rattle.c_straight_agree.specs.Finals.{Final}
use Rattle.c_straight_agree.specs.Layouts.{FrameLayout, context_in, IsLaidOut, HoldsWholes}
use Rattle.c_straight_agree.specs.Narrow.{CharsAreNarrow, ShortsAreNarrow}
use Rattle.c_straight_agree.specs.Standing.{place_of, IsBody, Standing, IsSoundIn}
use Rattle.c_straight_agree.proofs.lemmas.Finals.{back, back_steps, back_jumps, finals_go_back, test_finals_go_back}
use Rattle.c_straight_agree.proofs.lemmas.Parts.{result, Results}
use Rattle.c_straight_agree.proofs.lemmas.Performing.{give_without, either_without, none_without}
use Rattle.c_straight_agree.proofs.lemmas.Wholes.{wholes_left}
use Rattle.c_slots_agree.specs.Slots.{IsSlotAt}
use Rattle.c_tests_agree.specs.Connectives.{IsTestPart}
use Rattle.c_tests_agree.specs.Laws.{JumpsAreTaken}
use Rattle.c_tests_agree.specs.Tested.{AreMarkedOnce, Label, jumps, Passed, PassedBy, WentTo, asked_at}
use Rattle.c_tests_agree.proofs.lemmas.Following.{sound_asked}
use Rattle.c_tests_agree.proofs.lemmas.Joining.{Between, between_came, between_passed, between_joins}
use Rattle.c_tests_agree.proofs.lemmas.Jumping.{jump, address}
use Rattle.c_tests_agree.proofs.lemmas.Marking.{with_label_stands, label_here, mark_stands}
use Rattle.c_tests_agree.proofs.lemmas.Valuing.{slots_more}
use Rattle.c_choices_agree.specs.Conditionals.{ConditionalsAreLowered, VoidConditionalsArePerformed}
use Rattle.c_choices_agree.proofs.lemmas.Keeping.{IsKept, kept_final, kept_slots, kept_pieces, KeptBehind, kept_comes, kept_stays, kept_read, read_pieces}
use Rattle.c_choices_agree.proofs.lemmas.Passing.{with_slot_stands, one_slot, between_itself, marked_is_new, came_behind, came_map}
use Rattle.c_choices_agree.proofs.lemmas.Slots.{SlotLaws}

-- ---- one of two ways

module _ (s : Scene) (start : ℕ → Outcome) (turns : ℕ) (l m p : Low) (f : Front s.body.pieces m.pieces m.entries) (h : Front s.body.pieces p.pieces p.entries) (a : Typed) (n : ℕ) (t : Label s n) (map : Map) (before : c.World) (values : ℕ → Word) (first : World) (from : ℕ) where
  -- what a test comes to, and what follows it
  went_came : (r : Result) (go : Value → ℕ → c.World → Result) → WentTo s start turns from false m f n t map before first r
      → ((is : Bool) (k : ℕ) (old : c.World) → r ≡ Gives (truth is) k old → PassedBy (jumps false is) s start turns from m f n t map before first old k → CameTo s start turns l p h a map before values first (go (truth is) k old))
      → CameTo s start turns l p h a map before values first (then_give r go)
  went_came (Gives v k old) go one next =
      subst (λ (x : Value). CameTo s start turns l p h a map before values first (go x k old)) (sym one.1.0)
      (next one.0 k old (ap (λ (x : Value). Gives x k old) one.1.0) one.1.1)
  went_came (GivesNone line k old) go one next = absurd one
  went_came (Ends (Undefined cause line) old) go one next = tt
  went_came (Ends OutOfTurns old) go one next = one
  went_came (Ends (Exit status) old) go one next = one

-- ---- how slots and pieces grow

record Longer (l m : Low) : Type 0 where
  pub slots : length l.slots ≤ length m.slots
  pub pieces : length l.pieces ≤ length m.pieces

longer_joins : (l m n : Low) → Longer l m → Longer m n → Longer l n
longer_joins l m n f g = record { slots = (let a = f.slots in let b = g.slots in omega (arith, a, b)); pieces = (let a = f.pieces in let b = g.pieces in omega (arith, a, b)) }

longer_later : (l m : Low) → IsLater l m → Longer l m
longer_later l m h = record {
  slots = slots_more l m h.slots;
  pieces = (let a = ap (λ (ps : List Piece). length ps) h.pieces.is in let b = length-append l.pieces h.pieces.more in omega (arith, a, b));
}

longer_jumped : (n : ℕ) (l : Low) → Longer l (jumped n l)
longer_jumped n l = record { slots = slots_more l (jumped n l) (front_before l.slots _); pieces = (let a = length-append l.pieces (OfBlock l.slots (acted_one jump (address n) l).entries ∷ []) in omega (arith, a)) }

longer_marked : (n : ℕ) (l : Low) → Longer l (marked n l)
longer_marked n l = record {
  slots = slots_more l (marked n l) (front_before l.slots _);
  pieces = (let a = length-append l.pieces (OfBlock l.slots l.entries ∷ []) in let b = length-append (l.pieces ++ OfBlock l.slots l.entries ∷ []) (Mark n ∷ []) in omega (arith, a, b));
}

longer_kept : (sort : Sort) (z : ℤ) (r : Lowered) → Longer r.low (kept_in sort z r)
longer_kept sort z r = record {
  slots = (let a = ap (λ (ss : List Slot). length ss) (kept_slots sort z r) in omega (arith, a));
  pieces = (let a = ap (λ (ps : List Piece). length ps) (kept_pieces sort z r) in omega (arith, a));
}

module _ (chars : CharsAreNarrow) (shorts : ShortsAreNarrow) (means : TurnsMean) (evals : EvalStaysSound) (laws : SlotLaws) (jumping : JumpsAreTaken) (s : Scene) (once : AreMarkedOnce s.body) (locals : ℕ) (body : IsBody s locals) (y : FrameLayout) (laid : IsLaidOut s y) (a b c1 : CoreTree)
    (pa : IsTestPart s locals y a) (view : Result → Result) (pb : (l : Low) → locals ≤ length l.slots → Results s locals body y l (low_e (context_in s y) b l) (λ k old. view (result s b k old))) (pc : (l : Low) → locals ≤ length l.slots → Results s locals body y l (low_e (context_in s y) c1 l) (λ k old. view (result s c1 k old)))
    (sort : Sort) (none : sort ≡ Nothing → (r : Result) (v : Value) (j : ℕ) (new : c.World) → view r ≡ Gives v j new → ⊥) (l : Low) (le : locals ≤ length l.slots) where
  abbrev x : Context
  x = context_in s y

  abbrev all : List Piece
  all = s.body.pieces

  abbrev z : ℤ
  z = slot_offset l

  abbrev i : ℕ
  i = length l.slots

  -- the labels before the second way, and behind it
  abbrev second : ℕ
  second = l.labels

  abbrev end : ℕ
  end = suc l.labels

  abbrev begun : Low
  begun = with_label (with_label (with_slot l))

  abbrev chosen : Low
  chosen = low_test x a second false begun

  abbrev way : Lowered
  way = low_e x b chosen

  abbrev way_kept : Low
  way_kept = kept_in sort z way

  abbrev left : Low
  left = jumped end way_kept

  abbrev other_begun : Low
  other_begun = marked second left

  abbrev other : Lowered
  other = low_e x c1 other_begun

  abbrev other_kept : Low
  other_kept = kept_in sort z other

  abbrev joined : Low
  joined = marked end other_kept

  abbrev out : Lowered
  out = placed (sort_read sort z) joined

  -- ---- slots and pieces

  abbrev Later : Low → Type 0
  Later m = Longer begun m

  later_chosen : Later chosen
  later_chosen = longer_later begun chosen (testing_adds x a second false begun)

  later_way : Later way.low
  later_way = longer_joins begun chosen way.low later_chosen (longer_later chosen way.low (lowering_adds x b chosen))

  later_kept : Later way_kept
  later_kept = longer_joins begun way.low way_kept later_way (longer_kept sort z way)

  later_left : Later left
  later_left = longer_joins begun way_kept left later_kept (longer_jumped end way_kept)

  later_second : Later other_begun
  later_second = longer_joins begun left other_begun later_left (longer_marked second left)

  later_other : Later other.low
  later_other = longer_joins begun other_begun other.low later_second (longer_later other_begun other.low (lowering_adds x c1 other_begun))

  later_both : Later other_kept
  later_both = longer_joins begun other.low other_kept later_other (longer_kept sort z other)

  later_joined : Later joined
  later_joined = longer_joins begun other_kept joined later_both (longer_marked end other_kept)

  less : (m : Low) → Later m → i < length m.slots
  less m h = let a = one_slot l in let b = h.slots in omega (arith, a, b)

  enough : (m : Low) → Later m → locals ≤ length m.slots
  enough m h = let a = less m h in omega (arith, le, a)

  never_grows : GrowsTo (place_of l) (place_of out.low) → ⊥
  never_grows g = marked_is_new l other_kept out.low end later_both.pieces (read_pieces sort z joined) g

  -- ---- what the blocks come to be

  module _ (start : ℕ → Outcome) (turns : ℕ) (f : Front all l.pieces l.entries) (h : Front all out.low.pieces out.low.entries) (slots : IsFront out.low.slots h.before) where
    final_joined : Final all joined
    final_joined = placed_steps (back all) (back_steps all) (sort_read sort z) joined (record { front = h; slots = slots })

    final_both : Final all other_kept
    final_both = (back_jumps all).marks end other_kept final_joined

    final_other : Final all other.low
    final_other = kept_final all sort z other final_both

    final_second : Final all other_begun
    final_second = finals_go_back all x c1 other_begun final_other

    final_left : Final all left
    final_left = (back_jumps all).marks second left final_second

    final_kept : Final all way_kept
    final_kept = (back_steps all).acts_one jump (address end) way_kept ((back_jumps all).ends (acted_one jump (address end) way_kept) final_left)

    final_way : Final all way.low
    final_way = kept_final all sort z way final_kept

    final_chosen : Final all chosen
    final_chosen = finals_go_back all x b chosen final_way

    final_begun : Final all begun
    final_begun = test_finals_go_back all x a second false begun final_chosen

    final_slot : Final all (with_slot l)
    final_slot = (back_jumps all).label (with_slot l) ((back_jumps all).label (with_label (with_slot l)) final_begun)

    at : IsSlotAt s i z
    at = laws.taken s locals body l l.pieces l.entries final_slot.front final_slot.slots

    past : Label s second
    past = label_here s second left final_second.front final_second.slots

    behind : Label s end
    behind = label_here s end other_kept final_joined.front final_joined.slots

    -- ---- behind both ways

    module _ (map : Map) (before : c.World) (values : ℕ → Word) (first : World) where
      -- what is kept is read
      finish : (later : Map) (old : c.World) (others : ℕ → Word) (world : World) (j : ℕ) → Standing s start turns joined final_joined.front later old others world j → Between s i map before first later old world → (v : Option Value) → IsKept s i sort later world v
          → Came s start turns l out.low h out.value map before values first v old j
      finish later old others world j stands between v kept =
          came_behind s start turns l out.low h out.value map before values first later old others world between joined (let n = less joined later_joined in omega (arith, n)) never_grows v old j
          (kept_read chars shorts laws s locals body y laid i z at le start turns joined (less joined later_joined) final_joined.front final_joined.slots later old others world j stands v sort kept h)

      -- ---- the first way

      module _ (mid : Map) (old : c.World) (others : ℕ → Word) (world : World) (between : Between s i map before first mid old world) where
        kept_jumps : (v : Option Value) (later : Map) (new : c.World) (world1 : World) (j : ℕ) → Between s i map before first later new world1
            → KeptBehind s i start turns way_kept final_kept.front later new world1 j (λ w. IsKept s i sort later w v) → Came s start turns l out.low h out.value map before values first v new j
        unfolding final_joined behind
        kept_jumps v later new world1 j both kept =
            let more = length way_kept.slots in
            let two = between_joins s i i (omega arith) map before first later new world1 both later new kept.world kept.between in
            let gone = jumping s locals body once start turns way_kept (enough way_kept later_kept) final_kept.front later new kept.others kept.world j kept.stands end final_left.front final_left.slots behind in
            let last = between_passed s start turns more joined final_joined.front later new kept.world new j gone in
            let three = between_joins s i more (let n = less way_kept later_kept in omega (arith, n)) map before first later new kept.world two gone.later new gone.world last in
            finish gone.later new gone.others gone.world j gone.stands three v (kept_stays chars shorts laws s locals body y laid i z at le start turns sort more (less way_kept later_kept) later new kept.world gone.later new gone.world kept.stands.stands.frame last v kept.is)

        way_comes : (v : Option Value) (new : c.World) (j : ℕ) → (sort ≡ Nothing → v ≡ None) → HasIn (node_count way.low.entries) way.value → Came s start turns chosen way.low final_way.front way.value mid old others world v new j → Came s start turns l out.low h out.value map before values first v new j
        unfolding final_way
        way_comes v new j none within came =
            let lower = length chosen.slots in
            let one = between_joins s i lower (let n = less chosen later_chosen in omega (arith, n)) map before first mid old world between came.later new came.world (between_came s start turns chosen way.low final_way.front way.value mid old others world v new j came) in
            kept_jumps v came.later new came.world j one
            (kept_comes chars shorts laws s locals body y laid i z at le start turns came.later new came.others came.world j v sort way final_kept came.stands (less way.low later_way) within came.has none)

        other_comes : (v : Option Value) (new : c.World) (j : ℕ) → (sort ≡ Nothing → v ≡ None) → HasIn (node_count other.low.entries) other.value → Came s start turns other_begun other.low final_other.front other.value mid old others world v new j → Came s start turns l out.low h out.value map before values first v new j
        unfolding final_other
        other_comes v new j none within came =
            let lower = length other_begun.slots in
            let one = between_joins s i lower (let n = less other_begun later_second in omega (arith, n)) map before first mid old world between came.later new came.world (between_came s start turns other_begun other.low final_other.front other.value mid old others world v new j came) in
            let kept = kept_comes chars shorts laws s locals body y laid i z at le start turns came.later new came.others came.world j v sort other final_both came.stands (less other.low later_other) within came.has none in
            let two = between_joins s i i (omega arith) map before first came.later new came.world one came.later new kept.world kept.between in
            finish came.later new (λ m. unknown) kept.world j (mark_stands means s locals body start turns end other_kept final_both.front final_joined.front final_joined.slots came.later new kept.others kept.world j kept.stands) two v kept.is

    -- ---- both

    module _ (map : Map) (before : c.World) (values : ℕ → Word) (first : World) (k : ℕ) (st : Standing s start turns l f map before values first k) (sound : IsSoundIn s before) (wholes : HoldsWholes s y first) where
      begins : Standing s start turns begun f map before values first k
      begins =
          with_label_stands s start turns (with_label (with_slot l)) f map before values first k
          (with_label_stands s start turns (with_slot l) f map before values first k (with_slot_stands s start turns l f map before values first k st final_slot))

      from_begun : i ≤ length begun.slots
      from_begun = let a = one_slot l in omega (arith, a)

      chosen_between : (m : Low) (g : Front all m.pieces m.entries) (old : c.World) (j : ℕ) → (p : Passed s start turns (length begun.slots) m g map before first old j) → Between s i map before first p.later old p.world
      chosen_between m g old j p = between_joins s i (length begun.slots) from_begun map before first map before first (between_itself s i map before first) p.later old p.world (between_passed s start turns (length begun.slots) m g map before first old j p)

      no_value : (r : Result) (v : Value) (m : ℕ) (new : c.World) → view r ≡ Gives v m new → sort ≡ Nothing → Some v ≡ None
      no_value r v m new is empty = absurd (none empty r v m new is)

      one_way : (is : Bool) (j : ℕ) (old : c.World) → IsSoundIn s old → PassedBy (jumps false is) s start turns (length begun.slots) chosen final_chosen.front second past map before first old j
          → CameTo s start turns l out.low h out.value map before values first (branch (truth is) (λ k1 w1. view (result s b k1 w1)) (λ k1 w1. view (result s c1 k1 w1)) j old)
      unfolding past final_second
      one_way true j old so p =
          let between = chosen_between chosen final_chosen.front old j p in
          came_map s start turns l out.low h out.value map before values first p.later old p.others p.world between chosen way.low final_way.front way.value (view (result s b j old))
          (pb chosen (enough chosen later_chosen) start turns final_chosen.front final_way.front p.later old p.others p.world j final_way.slots p.stands so (wholes_left s y laid map before first p.world st.stands.frame.others between.alike i between.left wholes))
          (λ v m new is came. way_comes map before values first p.later old p.others p.world between (Some v) new m (no_value (result s b j old) v m new is) (values_have_nodes x b chosen p.stands.block).value came)
          (λ line m new is came. way_comes map before values first p.later old p.others p.world between None new m (λ e. refl) (values_have_nodes x b chosen p.stands.block).value came)
      one_way false j old so p =
          let between = chosen_between other_begun final_second.front old j p in
          came_map s start turns l out.low h out.value map before values first p.later old p.others p.world between other_begun other.low final_other.front other.value (view (result s c1 j old))
          (pc other_begun (enough other_begun later_second) start turns final_second.front final_other.front p.later old p.others p.world j final_other.slots p.stands so (wholes_left s y laid map before first p.world st.stands.frame.others between.alike i between.left wholes))
          (λ v m new is came. other_comes map before values first p.later old p.others p.world between (Some v) new m (no_value (result s c1 j old) v m new is) (values_have_nodes x c1 other_begun p.stands.block).value came)
          (λ line m new is came. other_comes map before values first p.later old p.others p.world between None new m (λ e. refl) (values_have_nodes x c1 other_begun p.stands.block).value came)

      conditional_comes : CameTo s start turns l out.low h out.value map before values first (then_give (asked_at s a (line_of a) k before) (λ v k1 w1. branch v (λ k2 w2. view (result s b k2 w2)) (λ k2 w2. view (result s c1 k2 w2)) k1 w1))
      conditional_comes =
          went_came s start turns l chosen out.low final_chosen.front h out.value second past map before values first (length begun.slots) (asked_at s a (line_of a) k before) (λ v k1 w1. branch v (λ k2 w2. view (result s b k2 w2)) (λ k2 w2. view (result s c1 k2 w2)) k1 w1)
          (pa.tested begun (let a = from_begun in omega (arith, le, a)) second false start turns f final_chosen.front past map before values first k (line_of a) final_chosen.slots begins sound wholes)
          (λ is j old e p. one_way is j old (sound_asked s locals body evals a pa.tame (line_of a) k j (truth is) before old sound e) p)

-- ---- the laws

nothing_is_void : (v w : Bool) → sort_by v w ≡ Nothing → v ≡ true
nothing_is_void true w e = refl
nothing_is_void false true e = absurd (let never : ⊥ = cc in never)
nothing_is_void false false e = absurd (let never : ⊥ = cc in never)

pub conditionals_are_lowered : CharsAreNarrow → ShortsAreNarrow → TurnsMean → EvalStaysSound → SlotLaws → JumpsAreTaken → ConditionalsAreLowered
conditionals_are_lowered chars shorts means evals laws jumping s locals y body once laid of line a b c1 valued pa pb pc l le start turns f h map before values first k slots st sound wholes =
    let empty : sort_of of ≡ Nothing → is_void of ≡ true = nothing_is_void (is_void of) (is_pointer of || is_record of) in
    conditional_comes chars shorts means evals laws jumping s once locals body y laid a b c1 pa (λ r. r) pb.lowered pc.lowered (sort_of of) (λ e r v j new is. true≢false (sym (empty e) ∙ valued)) l le start turns f h slots map before values first k st sound wholes

pub void_conditionals_are_performed : CharsAreNarrow → ShortsAreNarrow → TurnsMean → EvalStaysSound → SlotLaws → JumpsAreTaken → VoidConditionalsArePerformed
void_conditionals_are_performed chars shorts means evals laws jumping s locals y body once laid of line a b c1 void pa pb pc l le start turns f h map before values first k slots st sound wholes =
    let x = context_in s y in
    let e = Core kind.Conditional of line (Cores a (Cores b (Cores c1 NoCore))) in
    subst (λ (r : Result). CameTo s start turns l (low_e x e l).low h (low_e x e l).value map before values first r)
    (sym (give_without (asked_at s a (line_of a) k before) (λ v k1 w1. branch v (λ k2 w2. result s b k2 w2) (λ k2 w2. result s c1 k2 w2) k1 w1)
    (λ v k1 w1. branch v (λ k2 w2. without_value (result s b k2 w2)) (λ k2 w2. without_value (result s c1 k2 w2)) k1 w1)
    (λ v k1 w1. either_without (is_true v) (λ k2 w2. result s b k2 w2) (λ k2 w2. result s c1 k2 w2) _ _ k1 w1 refl refl)))
    (conditional_comes chars shorts means evals laws jumping s once locals body y laid a b c1 pa without_value pb.performed pc.performed (sort_of of) (λ e1 r v j new is. none_without r v j new is) l le start turns f h slots map before values first k st sound wholes)
