-- Places of a local that strings fill.
use Rattle.std.specs.Prelude.{◌≡◌, ◌≤◌, ◌<◌, ℕ, zero, suc, ◌+◌, ◌-◌, ◌*◌, ◌==◌, pos, nat_lt, true, if◌then◌else◌, Option, Some, None, Ok, List, [], ◌∷◌, length, get_or, slice_get}
use Rattle.std.proofs.Common.{true≢false, refl, sym, ap, subst, ◌∙◌, arith}
use Rattle.std.proofs.lemmas.List.{length-replicate}
use Rattle.std.proofs.lemmas.Option.{get_or_from_slice_get, slice_get_within}
use Rattle.lcc_base.specs.declared.cause.Cause.{Cause}
use Rattle.objects.specs.declared.byte.Byte.{Byte}
use Rattle.objects.specs.declared.byte.Byte.TheVariants.{Bits}
use Rattle.objects.specs.declared.purpose.Purpose.TheVariants.{Initialisation}
use Rattle.objects.specs.declared.value.Value.{Value}
use Rattle.objects.specs.declared.width.Width.TheVariants as width
use Rattle.objects.specs.Accesses.{write_cause, bytes_written, stored_through}
use Rattle.objects.proofs.lemmas.AccessLaws.{unless_none, unless_same}
use Rattle.objects.specs.Bytes.{known_bytes}
use Rattle.objects.specs.Causes.{unless}
use Rattle.objects.specs.Objects.{Object as Old}
use Rattle.objects.specs.Pointers.{place_after}
use Rattle.dag_seam.specs.SplitLaws.{TurnsMean}
use Rattle.c_types.specs.BitFields.{is_field_type}
use Rattle.c_types.specs.CType.{CType, Plain, Array, Simple, Char, SignedChar, UnsignedChar}
use Rattle.c_types.specs.Layout.{Tag, extent, times}
use Rattle.c_meaning.specs.declared.core_expr.CoreKind.{CoreKind}
use Rattle.c_meaning.specs.declared.core_expr.CoreKind.TheVariants as kind
use Rattle.c_meaning.specs.CoreTrees.{Core}
use Rattle.c_meaning.specs.Each.{EachIs}
use Rattle.c_meaning.specs.Filling.{characters, is_char}
use Rattle.c_meaning.specs.StmtTrees.{FilledOf}
use Rattle.c_meaning.specs.Types.{is_array}
use Rattle.c_meaning.specs.Units.{UnitTree, IsFilled, IsString}
use Rattle.c_meaning.specs.Values.{CoreTree, CoreTrees}
use Rattle.c_runs.specs.Places.{size_of}
use Rattle.c_runs.specs.Soundness.{EvalStaysSound, ExecStaysSound}
use Rattle.c_runs.specs.Statements as does
use Rattle.c_runs.specs.Worlds as c
use Rattle.c_match_worlds.specs.Texts.{HasTexts, IsTextAt}
use Rattle.c_rows_agree.specs.Typed.{Typed}
use Rattle.lowered_forms.specs.Accesses.{copy_root}
use Rattle.lowered_forms.specs.Contexts.{Context}
use Rattle.lowered_forms.specs.Lows.{Low, acted}
use Rattle.lowered_forms.specs.Places.{local_place}
use Rattle.lowered_statements.specs.Functions.{Function}
use Rattle.lowered_statements.specs.Initialisers.{part_at, text_copied, text_filled}
use Rattle.lowered_statements.proofs.lemmas.Stepping.{zeroed_step}
use Rattle.c_choices_agree.proofs.lemmas.Slots.{SlotLaws}
use Rattle.c_straight_agree.specs.Layouts.{context_in}
use Rattle.c_straight_agree.specs.Narrow.{CharsAreNarrow, ShortsAreNarrow}
use Rattle.c_straight_agree.specs.Standing.{IsSoundIn}
use Rattle.c_straight_agree.proofs.lemmas.Extending.{acted_extends, extends_slots}
use Rattle.c_straight_agree.proofs.lemmas.Finals.{back, back_steps, back_jumps}
use Rattle.c_tests_agree.specs.Tested.{AreMarkedOnce}
use Rattle.c_stmt_agreement.specs.Comings.{Activation, HasFrame, Origin, Came}
use Rattle.c_stmt_agreement.specs.Laws.{IsFinal}
use Rattle.c_stmt_agreement.specs.LoweredStmt.{StandsAt}
use Rattle.c_stmt_agreement.proofs.lemmas.Rebasing.{onward, stands_onward, came_on}
use Rattle.c_stores_agree.specs.Initialisers.{InitialisersAgree}
use Rattle.c_stores_agree.proofs.lemmas.Bases.{IsPlace, IsBase, part_is_place, local_is_base}
use Rattle.c_stores_agree.proofs.lemmas.Filling.{Agree, PlaceCame, at_place, here_agrees, sized_by, with_context}
use Rattle.c_stores_agree.proofs.lemmas.Places.{written_is_moved}
use Rattle.c_stores_agree.proofs.lemmas.Stores.{setting, same_unit, stored_from}
use Rattle.c_stores_agree.proofs.lemmas.Strings.{text_operand, text_place, text_came}
use Rattle.c_stores_agree.proofs.lemmas.Texts.{count, within_text, within_room, length_characters, filled_so, length_known}
use Rattle.c_stores_agree.proofs.lemmas.Zeroing.{zeroed_came}
use Rattle.c_stores_agree.proofs.lemmas.Zeros.{IsFree, free_writes, writes_free, first_free, bytes_free, zeros, cleared, stored_behind}

-- ---- the sizes of arrays of characters

char_size : (tags : List Tag) (el : CType) → is_char el ≡ true → (extent tags el).size ≡ Some 1
char_size tags (Plain q (Simple Char)) e = refl
char_size tags (Plain q (Simple SignedChar)) e = refl
char_size tags (Plain q (Simple UnsignedChar)) e = refl
char_size tags t e = absurd (true≢false (sym e))

array_bytes : (tags : List Tag) (el : CType) (room bytes : ℕ) → is_char el ≡ true → (extent tags (Array el (Some room))).size ≡ Some bytes → room ≡ bytes
array_bytes tags el room bytes e f = let same : Some (room * 1) ≡ Some bytes = sym (ap (λ (o : Option ℕ). times (Some room) o) (char_size tags el e)) ∙ f in let is : room * 1 ≡ bytes = cc in omega (arith, is)

-- none is a bit-field
string_size : (tags : List Tag) (el : CType) (room bits bytes : ℕ) → is_char el ≡ true → (0 < bits → is_field_type (Array el (Some room)) ≡ true) → (if bits == 0 then (extent tags (Array el (Some room))).size else Some 4) ≡ Some bytes → room ≡ bytes
string_size tags el room zero bytes e field f = array_bytes tags el room bytes e f
string_size tags el room (suc n) bytes e field f = absurd (true≢false (sym (field (omega arith))))

less_so : (m n : ℕ) → nat_lt m n ≡ true → m < n
less_so m n e = grind (arith, e)

module _ (chars : CharsAreNarrow) (shorts : ShortsAreNarrow) (means : TurnsMean) (execs : ExecStaysSound) (laws : SlotLaws) (p : Activation) (frame : HasFrame p) (texts : HasTexts p.scene.lowered (length p.scene.unit.objects) p.scene.unit.texts) (once : AreMarkedOnce p.scene.body) (n : ℕ) (of : CType) (base : Typed) (is : IsBase p n of base)
    (size : ℕ) (sized : size_of p.scene.unit.tags of ≡ size) (f0 : Function) where
  module _ (el : CType) (room k : ℕ) (bytes : List ℕ) (known : slice_get p.scene.unit.texts k ≡ Some bytes) (read : get_or p.scene.unit.texts k [] ≡ bytes) (long : length bytes ≤ room) (offset first bits : ℕ) (vt : CType) (line : ℕ) (kids : CoreTrees) (inside : offset + room ≤ size) (unit : first + bits ≤ 32) where
    abbrev value : CoreTree
    value = Core (kind.Text k) vt line kids

    abbrev x : FilledOf CType
    x = at_place (Array el (Some room)) offset first bits value

    abbrev some : ℕ
    some = count room bytes

    abbrev rest : ℕ
    rest = room - some

    text : IsTextAt p.scene.lowered (length p.scene.unit.objects + k) bytes
    text = texts k bytes known

    own : length p.scene.unit.objects + k < p.scene.own
    own = (frame.laid.texts k (slice_get_within p.scene.unit.texts k bytes known)).0

    -- what C stores there, for an array of any length
    spelled_is : (i : ℕ) (to v : Value) (os : List Old) → does.filled (setting p) (at_place (Array el (Some i)) offset first bits value) to v os ≡ bytes_written Initialisation (characters i bytes) os to
    spelled_is i to v os =
        ap (λ (z : UnitTree). bytes_written Initialisation (characters i (get_or z.texts k [])) os to) (same_unit p.scene.unit p.scene.lowered.order)
        ∙ ap (λ (bs : List ℕ). bytes_written Initialisation (characters i bs) os to) read

    written_so : (i : ℕ) (to : Value) (os : List Old) → write_cause Initialisation os to i 1 ≡ None → bytes_written Initialisation (characters i bytes) os to ≡ Ok (stored_through os to (known_bytes (characters i bytes)))
    written_so i to os e =
        ap (λ (m : ℕ). unless (write_cause Initialisation os to m 1) (stored_through os to (known_bytes (characters i bytes)))) (length_characters i bytes)
        ∙ ap (λ (z : Option Cause). unless z (stored_through os to (known_bytes (characters i bytes)))) e

    all_of : some + rest ≡ room
    all_of = let le = within_room room bytes in omega (arith, le)

    module _ (o : Origin) (j : ℕ) (l : Low) (at : StandsAt p o l j) (le : p.locals ≤ length l.slots) (b : Value) (there : slice_get o.old.locals n ≡ Some b) (new : List Old) (fills : bytes_written Initialisation (characters room bytes) (c.objects o.old) (place_after b (pos offset)) ≡ Ok new)
        (sound : (os : List Old) → bytes_written Initialisation (characters some bytes) (c.objects o.old) (place_after b (pos offset)) ≡ Ok os → IsSoundIn p.scene (c.with_objects o.old os)) (final : IsFinal p (text_copied base (text_operand p.scene p.locals frame.body k bytes known text own) offset some room l)) where
      abbrev q : Value
      q = place_after b (pos offset)

      abbrev b_text : Typed
      b_text = text_operand p.scene p.locals frame.body k bytes known text own

      writable : write_cause Initialisation (c.objects o.old) q room 1 ≡ None
      writable =
          subst (λ (m : ℕ). write_cause Initialisation (c.objects o.old) q m 1 ≡ None) (length_characters room bytes)
          (unless_none (write_cause Initialisation (c.objects o.old) q (length (characters room bytes)) 1) (stored_through (c.objects o.old) q (known_bytes (characters room bytes))) new fills)

      is_new : stored_through (c.objects o.old) q (known_bytes (characters room bytes)) ≡ new
      is_new = unless_same (write_cause Initialisation (c.objects o.old) q (length (characters room bytes)) 1) (stored_through (c.objects o.old) q (known_bytes (characters room bytes))) new fills

      free : IsFree (c.objects o.old) q (some + rest) 1
      free = subst (λ (m : ℕ). IsFree (c.objects o.old) q m 1) (sym all_of) (writes_free (c.objects o.old) q room 1 writable)

      first_writable : write_cause Initialisation (c.objects o.old) q some 1 ≡ None
      first_writable = free_writes (c.objects o.old) q some 1 (first_free (c.objects o.old) b offset some rest 1 free)

      to_there : IsPlace p o j l at (part_at room offset base) q
      to_there = part_is_place p frame n of base is o j l at b there offset (written_is_moved Initialisation (c.objects o.old) b offset room 1 writable) (nat_lt 0 room) (λ z. let lt = less_so 0 room z in omega (arith, lt, inside, sized))

      -- the text's bytes
      abbrev os1 : List Old
      os1 = stored_through (c.objects o.old) q (known_bytes (characters some bytes))

      abbrev old1 : c.World
      old1 = c.with_objects o.old os1

      abbrev mid : Low
      mid = acted (copy_root some 1 (part_at room offset base) b_text) l

      mid_final : IsFinal p mid
      mid_final = zeroed_step (back p.scene.body.pieces) (back_steps p.scene.body.pieces) (back_jumps p.scene.body.pieces) base width.One (offset + some) rest mid final

      one : Came p o mid old1 j
      one =
          (stored_from chars shorts p frame o j l at le mid mid_final.front b_text (Some (text_place p.scene p.locals frame.body k bytes known text own)) old1 (sound os1 (written_so some q (c.objects o.old) first_writable))
          (text_came p.scene p.locals frame.body k bytes known text own some (within_text room bytes) chars shorts p.layout frame.laid l le (part_at room offset base) to_there.within q o.start o.turns at.front o.map o.old at.values o.world j at.stands at.sound to_there.opens to_there.holds to_there.settled first_writable mid_final.front)).came

      -- and zeros
      single : rest * 1 ≡ rest
      single = omega arith

      rest_free : IsFree os1 (place_after b (pos (offset + some))) (rest * 1) 1
      rest_free = subst (λ (i : ℕ). IsFree os1 (place_after b (pos (offset + some))) i 1) (sym single) (bytes_free (c.objects o.old) b offset some rest 1 (known_bytes (characters some bytes)) free)

      end_is : cleared os1 b (offset + some) (rest * 1) ≡ new
      end_is =
          let bs : List (Byte Value) = known_bytes (characters some bytes) in
          let count_is : length bs ≡ some = length_known Value some bytes in
          ap (λ (i : ℕ). cleared os1 b (offset + some) i) single
          ∙ ap (λ (i : ℕ). stored_through os1 (place_after b (pos (offset + i))) (zeros rest)) (sym count_is)
          ∙ stored_behind (c.objects o.old) b offset rest 1 bs (zeros rest) (length-replicate rest (Bits 255 0)) (subst (λ (i : ℕ). IsFree (c.objects o.old) q (i + rest) 1) (sym count_is) free)
          ∙ ap (λ (cs : List (Byte Value)). stored_through (c.objects o.old) q cs) (sym (filled_so room bytes long))
          ∙ is_new

      le_mid : p.locals ≤ length mid.slots
      le_mid = let more = extends_slots l mid (acted_extends (copy_root some 1 (part_at room offset base) b_text) l) in omega (arith, le, more)

      string_came : Came p o (text_copied base b_text offset some room l) (c.with_objects o.old new) j
      string_came =
          let two = zeroed_came chars shorts means execs laws p frame once n of base is width.One (offset + some) rest (onward p o mid old1 j one) j mid (stands_onward p o mid old1 j one) le_mid b there (let all = all_of in omega (arith, all, inside, sized, single)) rest_free final in
          subst (λ (z : List Old). Came p o (text_copied base b_text offset some room l) (c.with_objects o.old z) j) end_is
          (came_on p o mid old1 j one o.turns (text_copied base b_text offset some room l) (c.with_objects o.old (cleared os1 b (offset + some) (rest * 1))) j two)

    pub text_place_came : PlaceCame chars shorts means execs laws p frame once n of base is size sized f0 x
    text_place_came o j l at le a v within has b there new fills sound final =
        let here : Low → Type 0 = λ m. IsFinal p m → Came p o m (c.with_objects o.old new) j in
        let operand = text_operand p.scene p.locals frame.body k bytes known text own in
        let same : text_copied base operand offset some room l ≡ text_filled (with_context (context_in p.scene p.layout) f0) base offset (Array el (Some room)) (kind.Text k) l =
        ap (λ (bs : List ℕ). text_copied base operand offset (count room bs) room l) (sym read) in
        subst here same
        (λ last.
        string_came o j l at le b there new (sym (spelled_is room (place_after b (pos offset)) v (c.objects o.old)) ∙ fills)
        (λ os w. sound (Array el (Some some)) first bits os unit (spelled_is some (place_after b (pos offset)) v (c.objects o.old) ∙ w)) last)
        final

  -- ---- any place that a string fills

  by_kind : (el : CType) (count_of : Option ℕ) (what : CoreKind) (offset first bits : ℕ) (vt : CType) (line : ℕ) (kids : CoreTrees) (all : ℕ) → IsString p.scene.unit.texts el count_of what → first + bits ≤ 32 → (0 < bits → is_field_type (Array el count_of) ≡ true)
      → (if bits == 0 then (extent p.scene.unit.tags (Array el count_of)).size else Some 4) ≡ Some all → offset + all ≤ size
      → PlaceCame chars shorts means execs laws p frame once n of base is size sized f0 (at_place (Array el count_of) offset first bits (Core what vt line kids))
  by_kind el (Some room) (kind.Text k) offset first bits vt line kids all h unit field sizes inside =
      let whole : room ≡ all = string_size p.scene.unit.tags el room bits all h.0 field sizes in
      text_place_came el room k h.1.0 h.1.1 (get_or_from_slice_get p.scene.unit.texts k h.1.0 [] h.1.1) h.1.2 offset first bits vt line kids (omega (arith, whole, inside)) unit
  by_kind el count_of what offset first bits vt line kids all h unit field sizes inside = absurd h

  pub string_place : (x : FilledOf CType) → is_array x.of ≡ true → (locals : List CType) → IsFilled p.scene.unit locals size x → Unit {0} → PlaceCame chars shorts means execs laws p frame once n of base is size sized f0 x
  string_place x array locals h any = by_type x.of x.offset x.first x.width x.value array h
    where
      by_type : (t : CType) (offset first bits : ℕ) (c : CoreTree) → is_array t ≡ true → IsFilled p.scene.unit locals size (at_place t offset first bits c) → PlaceCame chars shorts means execs laws p frame once n of base is size sized f0 (at_place t offset first bits c)
      by_type (Array el count_of) offset first bits (Core what vt line kids) e g = by_kind el count_of what offset first bits vt line kids g.1.1.1.0 g.1.0 g.1.1.0.within g.1.1.0.of g.1.1.1.1 g.1.1.1.2
      by_type (Plain q z) offset first bits c e g = absurd (true≢false (sym e))

-- ---- a local's initialiser

every : (xs : List (FilledOf CType)) → EachIs (λ (x : FilledOf CType). Unit {0}) xs
every [] = tt
every (x ∷ xs) = (tt, every xs)

pub initialiser_agrees : CharsAreNarrow → ShortsAreNarrow → TurnsMean → EvalStaysSound → ExecStaysSound → SlotLaws → InitialisersAgree
initialiser_agrees chars shorts means evals execs laws p frame texts once f e n of local locals xs filled_xs agree clears y l le final =
    let same : with_context (context_in p.scene p.layout) f ≡ f = ap (λ (x : Context). with_context x f) (sym local.context) in
    subst (λ (g : Function). Agree p e n xs g) same
    (λ values ways zeros_first low room last.
    here_agrees chars shorts means evals execs laws p frame once e n of local.typed locals xs filled_xs f local.listed (λ (x : FilledOf CType). Unit {0})
    (string_place chars shorts means execs laws p frame texts once n of (local_place (context_in p.scene p.layout) n of) (local_is_base p frame n of local.typed) filled_xs.0 (sized_by p of locals xs filled_xs) f) (every xs) values ways zeros_first low room last)
    agree y clears l le final
