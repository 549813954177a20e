-- The places of a local are filled one behind the other, behind zeros where they are said.
use Rattle.std.specs.Prelude.{◌≡◌, ◌≤◌, ◌<◌, ℕ, zero, suc, ◌+◌, ◌*◌, ◌/◌, ◌%◌, ◌==◌, min, nat_lt, ◌&&◌, ◌||◌, pos, Bool, true, false, if◌then◌else◌, Option, Some, None, Result as Checked, Ok, Err, List, [], ◌∷◌, length, get_or, slice_get}
use Rattle.std.proofs.Common.{true≢false, refl, sym, ap, subst, ◌∙◌, arith}
use Rattle.lcc_base.specs.declared.cause.Cause.{Cause}
use Rattle.lcc_base.specs.declared.order.Order.{Order}
use Rattle.objects.specs.declared.purpose.Purpose.TheVariants.{Initialisation}
use Rattle.objects.specs.declared.value.Value.{Value}
use Rattle.objects.specs.declared.value.Value.TheVariants.{Number, Pointer, Function as FunctionValue}
use Rattle.objects.specs.declared.width.Width.{Width}
use Rattle.objects.specs.declared.width.Width.TheVariants as width
use Rattle.objects.specs.declared.value.ObjectName.{ObjectName}
use Rattle.objects.specs.Accesses.{zeroed as zero_object}
use Rattle.objects.specs.Objects.{Object as Old}
use Rattle.objects.specs.Pointers.{place_after}
use Rattle.dag_forest.specs.Tally.{node_count}
use Rattle.dag_seam.specs.SplitLaws.{TurnsMean}
use Rattle.c_types.specs.CType.{CType, Plain, Array, Kind, Simple, Void, Char, SignedChar, UnsignedChar, Short, UnsignedShort, Int, Unsigned, Long, UnsignedLong, Structure, Union, Enumeration}
use Rattle.c_types.specs.CType as ctype
use Rattle.c_types.specs.Layout.{Tag, extent, size_or_zero, times}
use Rattle.c_meaning.specs.declared.core_expr.CoreKind.{CoreKind}
use Rattle.c_meaning.specs.declared.core_expr.CoreKind.TheVariants as kind
use Rattle.c_meaning.specs.CoreTrees.{line_of, what_of}
use Rattle.c_meaning.specs.Each.{EachIs}
use Rattle.c_meaning.specs.Fits.{is_whole}
use Rattle.c_meaning.specs.StmtTrees as stmt
use Rattle.c_meaning.specs.StmtTrees.{FilledOf}
use Rattle.c_meaning.specs.Types.{is_array, is_record, is_record_kind, is_scalar, has_size}
use Rattle.c_meaning.specs.Units.{UnitTree, IsString, IsFilled, AreFilled, AreOf, size_bytes}
use Rattle.c_meaning.specs.Values.{CoreTree}
use Rattle.c_runs.specs.Expressions.{eval}
use Rattle.c_runs.specs.Outcomes.{Undefined, OutOfTurns, Exit, Result, Gives, GivesNone, Ends as EndsSo, Out, then_do, if_done}
use Rattle.c_runs.specs.Places.{size_of, is_field, spot_filled, stored, assigned, spelled}
use Rattle.c_runs.specs.Soundness.{Outline, outlines, IsSoundResult, IsObjectOf, AreObjectsOf, EvalStaysSound, ExecStaysSound}
use Rattle.c_runs.specs.Statements.{Start, At, fill, string_of, zeroed_at, initialised as begun}
use Rattle.c_runs.specs.Statements as does
use Rattle.c_runs.specs.Worlds as c
use Rattle.c_rows_agree.specs.Typed.{Typed}
use Rattle.piece_runs.specs.Pieces.{Front}
use Rattle.lowered_forms.specs.Contexts.{Context}
use Rattle.lowered_forms.specs.Expressions.{low_e}
use Rattle.lowered_forms.specs.Contexts.{text_name}
use Rattle.lowered_forms.specs.Lows.{Low}
use Rattle.lowered_forms.specs.Values.{Lowered}
use Rattle.lowered_forms.specs.Places.{further, local_place}
use Rattle.lowered_forms.proofs.lemmas.NodesOf.{values_have_nodes}
use Rattle.lowered_forms.proofs.lemmas.WithinTemplates.{HasIn}
use Rattle.lowered_statements.specs.Functions.{Function}
use Rattle.lowered_statements.specs.Initialisers.{part_at, text_copied, text_filled, filled_by, filled, all_filled, zeroed_whole, initialised_at, initialised_as, initialised}
use Rattle.lowered_statements.specs.Zeroing.{zeroed}
use Rattle.lowered_statements.proofs.lemmas.Adding.{goes_on, adding_steps}
use Rattle.lowered_statements.proofs.lemmas.Stepping.{lows, low_steps, low_jumps, zeroed_step, each_step, filled_by_step, filled_step, all_filled_step, whole_step}
use Rattle.c_choices_agree.proofs.lemmas.Slots.{SlotLaws}
use Rattle.c_straight_agree.specs.Agreement.{HasValue, CameTo}
use Rattle.c_straight_agree.specs.Layouts.{context_in}
use Rattle.c_straight_agree.specs.Narrow.{CharsAreNarrow, ShortsAreNarrow}
use Rattle.c_straight_agree.specs.Standing.{IsSoundIn}
use Rattle.c_straight_agree.proofs.lemmas.Finals.{back, back_steps, back_jumps}
use Rattle.c_straight_agree.proofs.lemmas.Parts.{sound_result}
use Rattle.c_tests_agree.specs.Tested.{AreMarkedOnce}
use Rattle.c_stmt_agreement.specs.Comings.{Activation, HasFrame, Origin, Ways, Ending, Came, CameFrom}
use Rattle.c_stmt_agreement.specs.Laws.{IsFinal}
use Rattle.c_stmt_agreement.specs.LoweredStmt.{StandsAt, LoweredStmt}
use Rattle.c_stmt_agreement.proofs.lemmas.Expressions.{sound_in, given_came}
use Rattle.c_stmt_agreement.proofs.lemmas.Rebasing.{onward, stands_onward, came_itself, came_on, from_on}
use Rattle.c_stmt_agreement.proofs.lemmas.Sequences.{no_label}
use Rattle.c_stmts_agree.specs.Parts.{ValueAgrees}
use Rattle.c_stmts_agree.proofs.lemmas.Backing.{room, room_lowered}
use Rattle.c_stores_agree.specs.Initialisers.{PlainInitialisersAgree}
use Rattle.c_stores_agree.proofs.lemmas.Bases.{IsBase, part_is_place, local_is_base}
use Rattle.c_stores_agree.proofs.lemmas.Places.{assigned_is_moved, stored_is_moved}
use Rattle.c_stores_agree.proofs.lemmas.Stores.{setting, same_order, same_unit, filled_sound, spot_stored, structure_stored}
use Rattle.c_stores_agree.proofs.lemmas.Zeroing.{each_zeroed, zeroed_came}
use Rattle.c_stores_agree.proofs.lemmas.Zeros.{zeros, IsFree, first_free, bytes_free, cleared, cleared_on, whole_cleared}

-- ---- the sizes of places

scalar_size : (q : ℕ) (k : Kind) → is_scalar (Plain q k) ≡ true → (tags : List Tag) → 1 ≤ size_of tags (Plain q k)
scalar_size q (Simple Void) e tags = absurd (true≢false (sym e))
scalar_size q (Simple Char) e tags = omega arith
scalar_size q (Simple SignedChar) e tags = omega arith
scalar_size q (Simple UnsignedChar) e tags = omega arith
scalar_size q (Simple Short) e tags = omega arith
scalar_size q (Simple UnsignedShort) e tags = omega arith
scalar_size q (Simple Int) e tags = omega arith
scalar_size q (Simple Unsigned) e tags = omega arith
scalar_size q (Simple Long) e tags = omega arith
scalar_size q (Simple UnsignedLong) e tags = omega arith
scalar_size q (ctype.Pointer to) e tags = omega arith
scalar_size q (ctype.Function result parameters) e tags = absurd (true≢false (sym e))
scalar_size q (Structure number) e tags = absurd (true≢false (sym e))
scalar_size q (Union number) e tags = absurd (true≢false (sym e))
scalar_size q (Enumeration number) e tags = omega arith

whole_scalar : (scalar record_ has : Bool) → (scalar || (record_ && has)) ≡ true → record_ ≡ false → scalar ≡ true
whole_scalar true r h e f = refl
whole_scalar false true h e f = absurd (let never : ⊥ = cc in never)
whole_scalar false false h e f = absurd (let never : ⊥ = cc in never)

less_so : (m n : ℕ) → nat_lt m n ≡ true → m < n
less_so m n e = grind (arith, e)

-- a bit-field takes its unit, any other place what its type does
taken_size : (tags : List Tag) (of : CType) (n width : ℕ) → (if width == 0 then (extent tags of).size else Some 4) ≡ Some n → 1 ≤ size_of tags of → 1 ≤ n
taken_size tags of n width e some = by (width == 0) e
  where
    by : (t : Bool) → (if t then (extent tags of).size else Some 4) ≡ Some n → 1 ≤ n
    by true f = let same : size_of tags of ≡ n = ap (λ (o : Option ℕ). size_or_zero o) f in omega (arith, same, some)
    by false f = let same : 4 ≡ n = cc in omega (arith, same)

-- ---- one place

abbrev pub at_place : CType → ℕ → ℕ → ℕ → CoreTree → FilledOf CType
at_place of offset first width value = record { of = of; offset = offset; first = first; width = width; value = value }

abbrev pub with_context : Context → Function → Function
with_context x f = record { context = x; locals = f.locals; result = f.result; gives_zero = f.gives_zero; labels = f.labels; tables = f.tables }

module _ (chars : CharsAreNarrow) (shorts : ShortsAreNarrow) (means : TurnsMean) (execs : ExecStaysSound) (laws : SlotLaws) (p : Activation) (frame : HasFrame p) (once : AreMarkedOnce p.scene.body) (n : ℕ) (of : CType) (base : Typed) (is : IsBase p n of base)
    (size : ℕ) (sized : size_of p.scene.unit.tags of ≡ size) (f0 : Function) where
  abbrev pub f : Function
  f = with_context (context_in p.scene p.layout) f0

  -- Where a value of C is stored in a place of the local, the run comes behind what the place is filled with.
  abbrev pub PlaceCame : FilledOf CType → Type 0
  PlaceCame x =
      (o : Origin) (k : ℕ) (l : Low) (at : StandsAt p o l k) → p.locals ≤ length l.slots → (a : Typed) (v : Value) → HasIn (node_count l.entries) a → HasValue p.scene a o.map at.values o.world v → (b : Value) → slice_get o.old.locals n ≡ Some b
      → (new : List Old) → does.filled (setting p) x (place_after b (pos x.offset)) v (c.objects o.old) ≡ Ok new
      → ((t : CType) (first width : ℕ) (os : List Old) → first + width ≤ 32 → does.filled (setting p) (at_place t x.offset first width x.value) (place_after b (pos x.offset)) v (c.objects o.old) ≡ Ok os → IsSoundIn p.scene (c.with_objects o.old os))
      → IsFinal p (filled_by (is_array x.of) (is_record x.of) f base x a l) → Came p o (filled_by (is_array x.of) (is_record x.of) f base x a l) (c.with_objects o.old new) k

  -- ---- a structure, a scalar, a bit-field

  module _ (q : ℕ) (k0 : Kind) (offset first width : ℕ) (value : CoreTree) (bytes : ℕ) (sizes : size_bytes p.scene.unit.tags (at_place (Plain q k0) offset first width value) ≡ Some bytes) (inside : offset + bytes ≤ size) (unit : first + width ≤ 32) where
    abbrev y : FilledOf CType
    y = at_place (Plain q k0) offset first width value

    some_there : 1 ≤ size_of p.scene.unit.tags (Plain q k0) → suc offset ≤ size_of p.scene.unit.tags of
    some_there some = let many = taken_size p.scene.unit.tags (Plain q k0) bytes width sizes some in omega (arith, many, inside, sized)

    by_kind : (whole : Bool) → is_record_kind k0 ≡ whole → (whole ≡ false → 1 ≤ size_of p.scene.unit.tags (Plain q k0)) → (o : Origin) (k : ℕ) (l : Low) (at : StandsAt p o l k) → p.locals ≤ length l.slots → (a : Typed) (v : Value) → HasIn (node_count l.entries) a → HasValue p.scene a o.map at.values o.world v
        → (b : Value) → slice_get o.old.locals n ≡ Some b → (new : List Old)
        → (if whole then assigned Initialisation (setting p).unit.tags (Plain q k0) (c.objects o.old) v (place_after b (pos offset)) else stored Initialisation (setting p).order (spot_filled y) v (c.objects o.old) (place_after b (pos offset))) ≡ Ok new
        → IsSoundIn p.scene (c.with_objects o.old new) → IsFinal p (filled_by false whole f base y a l) → Came p o (filled_by false whole f base y a l) (c.with_objects o.old new) k
    by_kind true e some o k l at le a v within has b there new assigns sound final =
        let tags = p.scene.unit.tags in
        let n0 = size_of tags (Plain q k0) in
        let so : assigned Initialisation tags (Plain q k0) (c.objects o.old) v (place_after b (pos offset)) ≡ Ok new =
        ap (λ (z : UnitTree). assigned Initialisation z.tags (Plain q k0) (c.objects o.old) v (place_after b (pos offset))) (sym (same_unit p.scene.unit p.scene.lowered.order)) ∙ assigns in
        let place = part_is_place p frame n of base is o k l at b there offset (assigned_is_moved Initialisation tags (Plain q k0) v (c.objects o.old) b offset new so) (nat_lt 0 n0) (λ z. let lt = less_so 0 n0 z in some_there (omega (arith, lt))) in
        (structure_stored chars shorts p frame o k l at le (part_at n0 offset base) a (place_after b (pos offset)) v place within has new sound tags (Plain q k0) so final.front).came
    by_kind false e some o k l at le a v within has b there new stores sound final =
        let so : stored Initialisation p.scene.lowered.order (spot_filled y) v (c.objects o.old) (place_after b (pos offset)) ≡ Ok new =
        ap (λ (z : Order). stored Initialisation z (spot_filled y) v (c.objects o.old) (place_after b (pos offset))) (sym (same_order p.scene.unit p.scene.lowered.order)) ∙ stores in
        let place = part_is_place p frame n of base is o k l at b there offset (stored_is_moved Initialisation p.scene.lowered.order (spot_filled y) v (c.objects o.old) b offset new so) true (λ z. some_there (some refl)) in
        (spot_stored chars shorts p frame o k l at le (further true offset base) a (place_after b (pos offset)) v place within has new sound (spot_filled y) unit so final.front).came

    value_place : is_whole p.scene.unit.tags (Plain q k0) ≡ true → PlaceCame y
    value_place whole o k l at le a v within has b there new fills sound final =
        by_kind (is_record_kind k0) refl (λ e. scalar_size q k0 (whole_scalar (is_scalar (Plain q k0)) (is_record_kind k0) (has_size p.scene.unit.tags (Plain q k0)) whole e) p.scene.unit.tags) o k l at le a v within has b there new fills
        (sound (Plain q k0) first width new unit fills) final

  -- ---- any place

  -- where strings come so that are of this kind
  module _ (IsOf : FilledOf CType → Type 0) (strings : (x : FilledOf CType) → is_array x.of ≡ true → (locals : List CType) → IsFilled p.scene.unit locals size x → IsOf x → PlaceCame x) where
    place_by : (t : CType) (offset first width : ℕ) (value : CoreTree) → (locals : List CType) → IsFilled p.scene.unit locals size (at_place t offset first width value) → IsOf (at_place t offset first width value) → PlaceCame (at_place t offset first width value)
    place_by (Array el count) offset first width value locals h kind = strings (at_place (Array el count) offset first width value) refl locals h kind
    place_by (Plain q k0) offset first width value locals h kind = value_place q k0 offset first width value h.1.1.1.0 h.1.1.1.1 h.1.1.1.2 h.1.1.0.within h.1.0.1.0

    place_came : (x : FilledOf CType) (locals : List CType) → IsFilled p.scene.unit locals size x → IsOf x → PlaceCame x
    place_came x locals h kind = place_by x.of x.offset x.first x.width x.value locals h kind

  -- ---- one place, with its value

  filled_back : (x : FilledOf CType) (a : Typed) (l : Low) → IsFinal p (filled_by (is_array x.of) (is_record x.of) f base x a l) → IsFinal p l
  filled_back x a l final = filled_by_step (back p.scene.body.pieces) (back_steps p.scene.body.pieces) (back_jumps p.scene.body.pieces) (is_array x.of) (is_record x.of) f base x a l final

  all_back : (xs : List (FilledOf CType)) (l : Low) → IsFinal p (all_filled f base xs l) → IsFinal p l
  all_back xs l final = all_filled_step (back p.scene.body.pieces) (back_steps p.scene.body.pieces) (back_jumps p.scene.body.pieces) f base xs l final

  -- slots are added alone
  filled_room : (x : FilledOf CType) (l : Low) → p.locals ≤ length l.slots → p.locals ≤ length (filled f base x l).slots
  filled_room x l le = room p.locals l (filled f base x l) (filled_step (lows goes_on []) (low_steps goes_on adding_steps []) (low_jumps goes_on adding_steps []) f base x l).low.slots le

  zeroed_room : (w : Width) (from m : ℕ) (l : Low) → p.locals ≤ length l.slots → p.locals ≤ length (zeroed base w from m l).slots
  zeroed_room w from m l le = room p.locals l (zeroed base w from m l) (zeroed_step (lows goes_on []) (low_steps goes_on adding_steps []) (low_jumps goes_on adding_steps []) base w from m l).low.slots le

  whole_room : (l : Low) → p.locals ≤ length l.slots → p.locals ≤ length (zeroed_whole true base size l).slots
  whole_room l le = room p.locals l (zeroed_whole true base size l) (whole_step (lows goes_on []) (low_steps goes_on adding_steps []) (low_jumps goes_on adding_steps []) true base size l).low.slots le

  -- ---- all places

  module _ (IsOf : FilledOf CType → Type 0) (strings : (x : FilledOf CType) → is_array x.of ≡ true → (locals : List CType) → IsFilled p.scene.unit locals size x → IsOf x → PlaceCame x) (evals : EvalStaysSound) (y : Ways) (e : Ending) (locals : List CType) where
    module _ (x : FilledOf CType) (h : IsFilled p.scene.unit locals size x) (is_of : IsOf x) (agrees : ValueAgrees p f x.value) (o : Origin) (k : ℕ) (l : Low) (at : StandsAt p o l k) (le : p.locals ≤ length l.slots) (end : Low) (b : Value) (there : slice_get o.old.locals n ≡ Some b) (next : ℕ → c.World → Out)
        (rest : (o2 : Origin) (j : ℕ) → slice_get o2.old.locals n ≡ Some b → StandsAt p o2 (filled f base x l) j → CameFrom p y e o2 end (next j o2.old)) (final : IsFinal p (filled f base x l)) where
      abbrev r : Lowered
      r = low_e f.context x.value l

      value_final : IsFinal p r.low
      value_final = filled_back x r.value r.low final

      store_by : (v : Value) (j : ℕ) (old : c.World) → eval (setting p) x.value k o.old ≡ Gives v j old → IsSoundResult p.scene.unit o.old (Gives v j old) → CameTo p.scene o.start o.turns l r.low value_final.front r.value o.map o.old at.values o.world (Gives v j old)
          → (q : Checked (List Old) Cause) → does.filled (setting p) x (place_after b (pos x.offset)) v (c.objects old) ≡ q → CameFrom p y e o end (if_done q (line_of x.value) old (λ os. next j (c.with_objects old os)))
      store_by v j old gives s c1 (Ok new) fills =
          let m = filled f base x l in
          let w = c.with_objects old new in
          let came = given_came p frame o l k at le r.low value_final.front r.value (Some v) old j (sound_in p o.old old at.sound s.1.0 s.1.1) c1 in
          let o1 = onward p o r.low old j came in
          let kept : slice_get old.locals n ≡ Some b = ap (λ (vs : List Value). slice_get vs n) s.1.1.locals ∙ there in
          let one =
          place_came IsOf strings x locals h is_of o1 j r.low (stands_onward p o r.low old j came) (room_lowered p.locals f.context x.value l le) r.value v (values_have_nodes f.context x.value l at.stands.block).value c1.has b kept new fills
          (λ t first width os unit fills_so.
          let after = filled_sound execs p frame n (at_place t x.offset first width x.value) unit agrees.tame o.old k b there at.sound.sound v j old gives os fills_so in
          sound_in p o.old (c.with_objects old os) at.sound after.0 after.1) final in
          from_on p o r.low old j came y e end (next j w) (from_on p o1 m w j one y e end (next j w) (rest (onward p o1 m w j one) j kept (stands_onward p o1 m w j one)))
      store_by v j old gives s c1 (Err cause) fills = tt

      value_by : (q : Result) → eval (setting p) x.value k o.old ≡ q → IsSoundResult p.scene.unit o.old q → CameTo p.scene o.start o.turns l r.low value_final.front r.value o.map o.old at.values o.world q
          → CameFrom p y e o end (then_do q (λ v k1 w1. if_done (does.filled (setting p) x (place_after b (pos x.offset)) v (c.objects w1)) (line_of x.value) w1 (λ os. next k1 (c.with_objects w1 os))))
      value_by (Gives v j old) given s c1 = store_by v j old given s c1 (does.filled (setting p) x (place_after b (pos x.offset)) v (c.objects old)) refl
      value_by (GivesNone m j old) given s c1 = tt
      value_by (EndsSo (Undefined cause m) old) given s c1 = tt
      value_by (EndsSo OutOfTurns old) given s c1 = c1
      value_by (EndsSo (Exit status) old) given s c1 = c1

      place_goes : CameFrom p y e o end (then_do (eval (setting p) x.value k o.old) (λ v k1 w1. if_done (does.filled (setting p) x (place_after b (pos x.offset)) v (c.objects w1)) (line_of x.value) w1 (λ os. next k1 (c.with_objects w1 os))))
      place_goes =
          value_by (eval (setting p) x.value k o.old) refl (sound_result p.scene p.locals frame.body evals x.value agrees.tame k o.old at.sound)
          (agrees.lowered l le o.start o.turns at.front value_final.front o.map o.old at.values o.world k value_final.slots at.stands at.sound at.wholes)

    fills_all : (xs : List (FilledOf CType)) → AreFilled p.scene.unit locals size xs → EachIs IsOf xs → EachIs (λ (x : FilledOf CType). ValueAgrees p f x.value) xs → (o : Origin) (k : ℕ) (l : Low) → StandsAt p o l k → p.locals ≤ length l.slots → IsFinal p (all_filled f base xs l) → (b : Value) → slice_get o.old.locals n ≡ Some b
        → CameFrom p y e o (all_filled f base xs l) (fill (setting p) b xs k o.old)
    fills_all [] h d g o k l at le final b there = came_itself p o l k at
    fills_all (x ∷ xs) h d g o k l at le final b there =
        let m = filled f base x l in
        place_goes x h.0 d.0 g.0 o k l at le (all_filled f base (x ∷ xs) l) b there (λ j w. fill (setting p) b xs j w)
        (λ o2 j kept at2. fills_all xs h.1 d.1 g.1 o2 j m at2 (filled_room x l le) final b kept) (all_back xs m final)

    -- ---- behind zeros, or not

    zeros_came : (o : Origin) (k : ℕ) (l : Low) → StandsAt p o l k → p.locals ≤ length l.slots → IsFinal p (zeroed_whole true base size l) → (name : ObjectName) → slice_get o.old.locals n ≡ Some (Pointer name 0) → name.size ≡ size → (new : List Old) → zero_object (c.objects o.old) name ≡ Ok new
        → Came p o (zeroed_whole true base size l) (c.with_objects o.old new) k
    zeros_came o k l at le final name there same new clears =
        let b = Pointer name 0 in
        let words = size / 4 in
        let some = size % 4 in
        let mid = zeroed base width.Four 0 words l in
        let whole = whole_cleared (c.objects o.old) new name clears in
        let parts : size ≡ words * 4 + some = omega arith in
        let free : IsFree (c.objects o.old) (place_after b (pos 0)) (words * 4 + some) 4 = subst (λ (i : ℕ). IsFree (c.objects o.old) (place_after b (pos 0)) i 4) (same ∙ parts) whole.0 in
        let final_mid = each_step (back p.scene.body.pieces) (back_steps p.scene.body.pieces) (back_jumps p.scene.body.pieces) base width.One (4 * words) some mid final in
        let le_all : words * 4 + some ≤ size_of p.scene.unit.tags of = omega (arith, parts, sized) in
        let one = zeroed_came chars shorts means execs laws p frame once n of base is width.Four 0 words o k l at le b there (omega (arith, le_all)) (first_free (c.objects o.old) b 0 (words * 4) some 4 free) final_mid in
        let os = cleared (c.objects o.old) b 0 (words * 4) in
        let o1 = onward p o mid (c.with_objects o.old os) k one in
        let swap : 4 * words ≡ 0 + words * 4 = omega arith in
        let single : some * 1 ≡ some = omega arith in
        let rest : IsFree os (place_after b (pos (4 * words))) (some * 1) 1 =
        subst (λ (i : ℕ). IsFree os (place_after b (pos i)) (some * 1) 1) (sym swap) (subst (λ (i : ℕ). IsFree os (place_after b (pos (0 + words * 4))) i 1) (sym single) (bytes_free (c.objects o.old) b 0 (words * 4) some 4 (zeros (words * 4)) free)) in
        let two = each_zeroed chars shorts execs p frame n of base is width.One b some (4 * words) o1 k mid (stands_onward p o mid (c.with_objects o.old os) k one) (zeroed_room width.Four 0 words l le) there (omega (arith, le_all, swap, single)) rest final in
        let end_is : cleared os b (4 * words) (some * 1) ≡ new =
        ap (λ (i : ℕ). cleared os b i (some * 1)) swap ∙ ap (λ (i : ℕ). cleared os b (0 + words * 4) i) single ∙ cleared_on (c.objects o.old) b 0 (words * 4) some 4 free
        ∙ ap (λ (i : ℕ). cleared (c.objects o.old) b 0 i) (sym (same ∙ parts)) ∙ whole.1 in
        subst (λ (z : List Old). Came p o (zeroed_whole true base size l) (c.with_objects o.old z) k) end_is
        (came_on p o mid (c.with_objects o.old os) k one o.turns (zeroed_whole true base size l) (c.with_objects o.old (cleared os b (4 * words) (some * 1))) k two)

    module _ (xs : List (FilledOf CType)) (h : AreFilled p.scene.unit locals size xs) (d : EachIs IsOf xs) (g : EachIs (λ (x : FilledOf CType). ValueAgrees p f x.value) xs) where
      cleared_by : (o : Origin) (k : ℕ) (l : Low) (at : StandsAt p o l k) → p.locals ≤ length l.slots → IsFinal p (initialised_at f base size true xs l) → (name : ObjectName) → slice_get o.old.locals n ≡ Some (Pointer name 0) → name.size ≡ size → (r : Checked (List Old) Cause) → zero_object (c.objects o.old) name ≡ r
          → CameFrom p y e o (initialised_at f base size true xs l) (if_done r 0 o.old (λ os. fill (setting p) (Pointer name 0) xs k (c.with_objects o.old os)))
      cleared_by o k l at le final name there same (Ok new) clears =
          let mid = zeroed_whole true base size l in
          let old1 = c.with_objects o.old new in
          let one = zeros_came o k l at le (all_back xs mid final) name there same new clears in
          from_on p o mid old1 k one y e (initialised_at f base size true xs l) (fill (setting p) (Pointer name 0) xs k old1)
          (fills_all xs h d g (onward p o mid old1 k one) k mid (stands_onward p o mid old1 k one) (whole_room l le) final (Pointer name 0) there)
      cleared_by o k l at le final name there same (Err cause) clears = tt

      pub begins : (clears : Bool) (o : Origin) (k : ℕ) (l : Low) (at : StandsAt p o l k) → p.locals ≤ length l.slots → IsFinal p (initialised_at f base size clears xs l) → (b : Value) → slice_get o.old.locals n ≡ Some b → IsObjectOf (outlines (c.objects o.old)) (size_of p.scene.unit.tags of) b
          → CameFrom p y e o (initialised_at f base size clears xs l) (begun (setting p) (Some b) clears xs k o.old)
      begins false o k l at le final b there is_object = fills_all xs h d g o k l at le final b there
      begins true o k l at le final (Pointer name offset) there is_object =
          let there0 : slice_get o.old.locals n ≡ Some (Pointer name 0) = subst (λ (i : ℕ). slice_get o.old.locals n ≡ Some (Pointer name i)) is_object.0 there in
          subst (λ (i : ℕ). CameFrom p y e o (initialised_at f base size true xs l) (begun (setting p) (Some (Pointer name i)) true xs k o.old)) (sym is_object.0)
          (cleared_by o k l at le final name there0 (is_object.1.0 ∙ sized) (zero_object (c.objects o.old) name) refl)
      begins true o k l at le final (Number i) there is_object = absurd is_object
      begins true o k l at le final (FunctionValue i) there is_object = absurd is_object

-- ---- a local of a function

local_is_object : (tags : List Tag) (lives : List Outline) (ts : List CType) (vs : List Value) (n : ℕ) (t : CType) (b : Value) → AreObjectsOf tags lives ts vs → slice_get ts n ≡ Some t → slice_get vs n ≡ Some b → IsObjectOf lives (size_of tags t) b
local_is_object tags lives [] [] n t b h e f = absurd (let never : ⊥ = cc in never)
local_is_object tags lives [] (v ∷ vs) n t b h e f = absurd h
local_is_object tags lives (u ∷ ts) [] n t b h e f = absurd h
local_is_object tags lives (u ∷ ts) (v ∷ vs) zero t b h e f =
    let same : u ≡ t = cc in
    let value : v ≡ b = cc in
    subst (λ (x : Value). IsObjectOf lives (size_of tags t) x) value (subst (λ (x : CType). IsObjectOf lives (size_of tags x) v) same h.0)
local_is_object tags lives (u ∷ ts) (v ∷ vs) (suc n) t b h e f = local_is_object tags lives ts vs n t b h.1 e f

pub sized_by : (p : Activation) (of : CType) (locals : List CType) (xs : List (FilledOf CType)) → (h : AreOf p.scene.unit locals of xs) → size_of p.scene.unit.tags of ≡ h.0
sized_by p of locals xs h = ap (λ (o : Option ℕ). size_or_zero o) h.1

module _ (chars : CharsAreNarrow) (shorts : ShortsAreNarrow) (means : TurnsMean) (evals : EvalStaysSound) (execs : ExecStaysSound) (laws : SlotLaws) (p : Activation) (frame : HasFrame p) (once : AreMarkedOnce p.scene.body) (e : Ending) (n : ℕ) (of : CType)
    (typed : slice_get p.layout.types n ≡ Some of) (locals : List CType) (xs : List (FilledOf CType)) (filled_xs : AreOf p.scene.unit locals of xs) where
  abbrev place : Typed
  place = local_place (context_in p.scene p.layout) n of

  abbrev sized : size_of p.scene.unit.tags of ≡ filled_xs.0
  sized = sized_by p of locals xs filled_xs

  -- where its locals are laid out so
  module _ (f0 : Function) (listed : slice_get f0.locals n ≡ Some of) where
    abbrev here : Function
    here = with_context (context_in p.scene p.layout) f0

    abbrev row : Bool → Low → Low
    row clears l = initialised_at here place filled_xs.0 clears xs l

    row_is : (clears : Bool) (l : Low) → initialised here n clears xs l ≡ row clears l
    row_is clears l = ap (λ (q : Option CType). initialised_as here n q clears xs l) listed ∙ ap (λ (i : ℕ). initialised_at here place i clears xs l) sized

    module _ (IsOf : FilledOf CType → Type 0) (strings : (x : FilledOf CType) → is_array x.of ≡ true → (own : List CType) → IsFilled p.scene.unit own filled_xs.0 x → IsOf x → PlaceCame chars shorts means execs laws p frame once n of place (local_is_base p frame n of typed) filled_xs.0 sized f0 x)
        (kinds : EachIs IsOf xs) (agree : EachIs (λ (x : FilledOf CType). ValueAgrees p here x.value) xs) (y : Ways) (clears : Bool) (l : Low) (le : p.locals ≤ length l.slots) where
      started : IsFinal p (row clears l) → (o : Origin) (k : ℕ) → StandsAt p o l k → (q : Option Value) → slice_get o.old.locals n ≡ q → CameFrom p y e o (row clears l) (begun (setting p) q clears xs k o.old)
      started final o k at None there = tt
      started final o k at (Some b) there =
          let types : slice_get p.scene.frame.types n ≡ Some of = ap (λ (ts : List CType). slice_get ts n) frame.laid.types ∙ typed in
          begins chars shorts means execs laws p frame once n of place (local_is_base p frame n of typed) filled_xs.0 sized f0 IsOf strings evals y e locals xs filled_xs.2 kinds agree clears o k l at le final b there
          (local_is_object p.scene.unit.tags (outlines (c.objects o.old)) p.scene.frame.types o.old.locals n of b at.sound.locals types there)

      goes : IsFinal p (row clears l) → LoweredStmt p y e (stmt.Initialise n clears xs) l (row clears l)
      goes final Start i o k at = started final o k at (slice_get o.old.locals n) refl
      goes final (At m) i o k at = no_label i

      pub here_agrees : IsFinal p (initialised here n clears xs l) → LoweredStmt p y e (stmt.Initialise n clears xs) l (initialised here n clears xs l)
      here_agrees final = subst (λ (m : Low). LoweredStmt p y e (stmt.Initialise n clears xs) l m) (sym (row_is clears l)) (goes (subst (λ (m : Low). IsFinal p m) (row_is clears l) final))

abbrev pub Agree : Activation → Ending → ℕ → List (FilledOf CType) → Function → Type 0
Agree p e n xs f =
    EachIs (λ (x : FilledOf CType). ValueAgrees p f x.value) xs → (y : Ways) (clears : Bool) (l : Low) → p.locals ≤ length l.slots → IsFinal p (initialised f n clears xs l) → LoweredStmt p y e (stmt.Initialise n clears xs) l (initialised f n clears xs l)

-- with places that no string fills
pub plain_initialiser_agrees : CharsAreNarrow → ShortsAreNarrow → TurnsMean → EvalStaysSound → ExecStaysSound → SlotLaws → PlainInitialisersAgree
plain_initialiser_agrees chars shorts means evals execs laws p frame once f e n of local locals xs filled_xs plain agree clears y l le final =
    let same : with_context (context_in p.scene p.layout) f ≡ f = ap (λ (x : Context). with_context x f) (sym local.context) in
    subst (λ (g : Function). Agree p e n xs g) same
    (λ values ways zeros_first low room last.
    here_agrees chars shorts means evals execs laws p frame once e n of local.typed locals xs filled_xs f local.listed (λ (x : FilledOf CType). is_array x.of ≡ false) (λ x array own h kind. absurd (true≢false (sym array ∙ kind))) plain values ways zeros_first low room last)
    agree y clears l le final
