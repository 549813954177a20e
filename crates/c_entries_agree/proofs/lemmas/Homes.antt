-- The slots and words of a call are homes of its locals, when it is opened.
use Rattle.std.specs.Prelude.{◌≡◌, ◌≤◌, ◌<◌, ◌^◌, ℕ, zero, suc, ◌+◌, ◌*◌, ℤ, pos, not, Bool, true, false, Option, Some, None, Ok, List, [], ◌∷◌, ◌++◌, length, map as mapped, option_map, take, drop, replicate, slice_get}
use Rattle.std.proofs.Common.{true≢false, refl, sym, ap, subst, ◌∙◌, arith}
use Rattle.std.proofs.lemmas.List.{length-map, length-replicate}
use Rattle.std.proofs.lemmas.Bool.{and_parts}
use Rattle.std.proofs.lemmas.Option.{slice_get-map, slice_get_within}
use Rattle.lcc_base.specs.declared.order.Order.{Order}
use Rattle.objects.specs.declared.byte.Byte.{Byte}
use Rattle.objects.specs.declared.purpose.Purpose.TheVariants.{Initialisation}
use Rattle.objects.specs.declared.value.ObjectName.{ObjectName}
use Rattle.objects.specs.declared.value.Value.{Value}
use Rattle.objects.specs.declared.value.Value.TheVariants.{Number, Pointer, Function}
use Rattle.objects.specs.declared.width.Width.{Width}
use Rattle.objects.specs.declared.width.Width.TheVariants.{Four}
use Rattle.objects.specs.Bytes.{unknown_byte}
use Rattle.objects.specs.Conversions.{converted}
use Rattle.objects.specs.Scalars.{scalar_bytes}
use Rattle.objects.specs.Values.{bytes_in}
use Rattle.op_forest.specs.declared.frame.Slot.{Slot}
use Rattle.op_forest.specs.Frames.{IsFrame}
use Rattle.op_forest.specs.Callees.{Body}
use Rattle.op_forest.specs.Lowered.{LoweredUnit}
use Rattle.forests.specs.Addresses.{Home}
use Rattle.forests.specs.Functions.{slot_bytes, own_bytes, entered, home_in, value_or}
use Rattle.forests.specs.Objects.{Object}
use Rattle.forests.specs.WordBytes.{word_bytes}
use Rattle.forests.specs.Words.{Word, Plain}
use Rattle.forests.specs.Worlds.{World}
use Rattle.c_types.specs.CType.{CType}
use Rattle.c_types.specs.Constness.{is_const}
use Rattle.c_types.specs.Layout.{Tag}
use Rattle.c_meaning.specs.Each.{EachIs}
use Rattle.c_meaning.specs.Fits.{is_whole}
use Rattle.c_meaning.specs.Scalars.{scalar_of}
use Rattle.c_meaning.specs.Types.{is_record}
use Rattle.c_runs.specs.Calls.{Argument, arguments_fit, expected}
use Rattle.c_runs.specs.Locals.{ArePassed}
use Rattle.c_runs.specs.Places.{size_of}
use Rattle.c_runs.specs.Soundness.{Outline, outlines, IsSoundValue, IsObjectOf}
use Rattle.objects.specs.Objects.{Object as Old}
use Rattle.c_match.specs.Held.{IsOpenTo}
use Rattle.c_match.specs.Left.{IsPrivate}
use Rattle.c_match.specs.Ranges.{Range, Map, Grown}
use Rattle.c_match.specs.Values.{IsValue}
use Rattle.c_match.specs.Bytes.{AreBytesOf}
use Rattle.c_match.specs.Held.{AreHeld}
use Rattle.c_match.proofs.lemmas.Growing.{value_grows}
use Rattle.c_match.proofs.lemmas.Words.{word_has_bytes}
use Rattle.c_match_objects.proofs.lemmas.Lifetimes.{slot_holds}
use Rattle.c_match_objects.proofs.lemmas.StoredScalars.{word_count}
use Rattle.c_match_worlds.proofs.lemmas.Calling.{homes_made}
use Rattle.c_agreement.specs.Called.{IsOpenCopy}
use Rattle.c_pointers_agree.specs.Pointers.{argument_name, slot_name}
use Rattle.c_pointers_agree.proofs.lemmas.Short.{object_at}
use Rattle.dag_seam.proofs.lemmas.Acts.{get_left}
use Rattle.lowered_statements.specs.Layouts.{is_narrow}
use Rattle.c_straight_agree.specs.Layouts.{address_of}
use Rattle.c_entries_agree.specs.Standpoints.{Standpoint, InSlot, InWord, AsPassed, parameter_stands, slot_behind, slot_behind_all, parameters_stand, others_stand, local_address, local_addresses}
use Rattle.c_entries_agree.proofs.lemmas.Addresses.{slot_address, word_address}
use Rattle.c_entries_agree.proofs.lemmas.Beginnings.{Beginning, Made, Passed}
use Rattle.c_entries_agree.proofs.lemmas.Given.{beginning_by, beginning, parameter_beginnings, local_beginnings, IsGivenBy, AreGiven, word_given}
use Rattle.c_entries_agree.proofs.lemmas.Holding.{IsHome, IsThere, MayStand, AllMay}
use Rattle.c_entries_agree.proofs.lemmas.Kinds.{narrow_is_scalar, narrow_size, wide_width, four_bytes, argument_whole}
use Rattle.c_entries_agree.proofs.lemmas.Places.{IsSlotOf, StandsIn, AllStand}

get_right : {A : Type 0} (xs ys : List A) (n : ℕ) (y : A) → slice_get ys n ≡ Some y → slice_get (xs ++ ys) (length xs + n) ≡ Some y
get_right [] ys n y e = ap (slice_get ys) (let z : 0 + n ≡ n = omega arith in z) ∙ e
get_right (x ∷ xs) ys n y e = ap (slice_get (x ∷ (xs ++ ys))) (let z : suc (length xs) + n ≡ suc (length xs + n) = omega arith in z) ∙ get_right xs ys n y e

value_is : (o : Option Word) (v : Word) → o ≡ Some v → value_or o ≡ v
value_is None v e = absurd (let never : ⊥ = cc in never)
value_is (Some x) v e = cc

-- ---- argument words

-- a word for each argument, from a number on, which stands for its value
abbrev pub AreWordsFrom : Map → List Word → ℕ → List Argument → Type 0
AreWordsFrom map words n [] = Unit {0}
AreWordsFrom map words n (x ∷ xs) = ((u : Word) × (slice_get words n ≡ Some u) × IsValue map x.value u) × AreWordsFrom map words (suc n) xs

module _ (l : LoweredUnit) (name : ℕ) (body : Body) (w : World) (past : length l.objects ≤ length w.objects) where
  abbrev pub home : Home
  home = home_in name body w

  abbrev pub opened : World
  opened = entered l.order name body w

  -- ---- what is made

  pub slot_made : (n : ℕ) (s : Slot) → slice_get home.slots n ≡ Some s → slice_get opened.objects (home.place + n) ≡ Some (record { made = w.made + n; constant = false; bytes = slot_bytes s })
  slot_made n s e = homes_made w l.order name body n (slot_bytes s) (get_left (mapped slot_bytes home.slots) (mapped (word_bytes l.order) w.arguments) n (slot_bytes s) (slice_get-map slot_bytes home.slots n ∙ ap (option_map slot_bytes) e))

  pub word_made : (n : ℕ) (u : Word) → slice_get w.arguments n ≡ Some u → slice_get opened.objects (home.place + length home.slots + n) ≡ Some (record { made = w.made + (length home.slots + n); constant = false; bytes = word_bytes l.order u })
  word_made n u e =
      let at : home.place + length home.slots + n ≡ length w.objects + (length home.slots + n) = omega arith in
      ap (slice_get opened.objects) at
      ∙ homes_made w l.order name body (length home.slots + n) (word_bytes l.order u)
      (subst (λ (i : ℕ). slice_get (own_bytes l.order body w.arguments) (i + n) ≡ Some (word_bytes l.order u)) (length-map home.slots slot_bytes)
      (get_right (mapped slot_bytes home.slots) (mapped (word_bytes l.order) w.arguments) n (word_bytes l.order u) (slice_get-map (word_bytes l.order) w.arguments n ∙ ap (option_map (word_bytes l.order)) e)))

  -- ---- slots

  module _ (frame : IsFrame home.slots) (tags : List Tag) (first : Map) (lives : List Old) where
    slot_home : (constant : Bool) (size n : ℕ) (z : ℤ) (least : ℕ) → size ≤ least → IsSlotOf home.slots n least z → MayStand l home first lives opened (Made constant (replicate size unknown_byte)) (InSlot n) (local_address home w.arguments (InSlot n) z)
    slot_home constant size n z least le s =
        let count = length-replicate s.slot.size (unknown_byte {V = Word}) in
        let fits_in = s.fits in
        record {
          home = record { made = w.made + n; constant = false; bytes = slot_bytes s.slot };
          there = slot_made n s.slot s.there;
          open_home = refl;
          past = omega (arith, past);
          stands = λ more grown. slot_holds more size s.slot.size (omega (arith, le, fits_in));
          room = (let one = length-replicate size (unknown_byte {V = Value}) in omega (arith, one, count, le, fits_in));
          word_is = value_is (address_of home z) (Plain (Pointer (slot_name home n s.slot) 0)) (slot_address home frame n least z s) ∙ ap (λ (m : ℕ). Plain (Pointer (record { place = home.place + n; made = w.made + n; size = m }) 0)) (sym count);
        }

    locals_may : (slot : ℕ) (us : List CType) (zs : List ℤ) → AllStand home.slots home.words tags us (others_stand slot us) zs → AllMay l home first lives opened (local_beginnings tags us) (others_stand slot us) (local_addresses home w.arguments (others_stand slot us) zs)
    locals_may slot [] [] s = tt
    locals_may slot [] (z ∷ zs) s = absurd s
    locals_may slot (t ∷ us) [] s = absurd s
    locals_may slot (t ∷ us) (z ∷ zs) s = (slot_home (is_const t) (size_of tags t) slot z (size_of tags t) (omega arith) s.0, locals_may (suc slot) us zs s.1)

    -- ---- parameters

    module _ (made : ℕ) (held : AreHeld first lives w.objects) where
      -- what is known of an argument
      pub record IsFitting (t : CType) (x : Argument) : Type 0 where
        pub whole : is_whole tags t ≡ true
        pub passed : is_record t ≡ true → IsObjectOf (outlines lives) (size_of tags t) x.value
        pub opens : is_record t ≡ true → IsOpenTo Initialisation first w.objects x.value
        pub sound : IsSoundValue made x.value

      abbrev pub AllFit : List CType → List Argument → Type 0
      AllFit [] xs = Unit {0}
      AllFit (t ∷ ts) [] = Unit {0}
      AllFit (t ∷ ts) (x ∷ xs) = IsFitting t x × AllFit ts xs

      -- ---- a structure

      -- the home of an object of C lives
      pub home_lives : (v : Value) (size : ℕ) → IsObjectOf (outlines lives) size v → (u : Word) → IsValue first v u → (name : ObjectName) (offset : ℕ) → u ≡ Plain (Pointer name offset) → name.place < length w.objects
      home_lives (Pointer o x) size is u value name offset e =
          let y = object_at lives o.place (record { made = o.made; size = size }) is.1.1 in
          let h = held.held o.place y.0 y.1 in
          let named : y.0.made ≡ o.made = ap (λ (i : Outline). i.made) y.2 in
          let one : h.range ≡ value.0 = same_range (sym h.is ∙ ap first named ∙ value.1) in
          let at : name ≡ value.0.object = (let f = sym e ∙ value.2 in cc) in
          subst (λ (i : ObjectName). i.place < length w.objects) (sym at) (subst (λ (r : Range). r.object.place < length w.objects) one (slice_get_within w.objects h.range.object.place h.held.home h.held.there))
        where
          same_range : {a b : Range} → Some a ≡ Some b → a ≡ b
          same_range e = cc
      home_lives (Number n) size is u value name offset e = absurd is
      home_lives (Function n) size is u value name offset e = absurd is

      pub same_before : (place : ℕ) → place < length w.objects → slice_get opened.objects place ≡ slice_get w.objects place
      same_before place lt = before w.objects _ place lt
        where
          before : {A : Type 0} (xs ys : List A) (n : ℕ) → n < length xs → slice_get (xs ++ ys) n ≡ slice_get xs n
          before [] ys n lt = absurd (let never : ⊥ = omega (arith, lt) in never)
          before (x ∷ xs) ys zero lt = refl
          before (x ∷ xs) ys (suc n) lt = before xs ys n (omega (arith, lt))

      copy_there : (v : Value) (size : ℕ) (u : Word) → IsObjectOf (outlines lives) size v → IsOpenTo Initialisation first w.objects v → IsValue first v u → IsThere first lives opened v u
      copy_there (Pointer o x) size u is opens value = record {
        name = o;
        offset = x;
        size = size;
        is = refl;
        living = is.1.1;
        value = value;
        opens = λ r at e f. opens r at e (sym (same_before r.object.place (home_lives (Pointer o x) size is (Plain (Pointer r.object (r.start + x))) (r, e, refl) r.object (r.start + x) refl)) ∙ f);
      }
      copy_there (Number n) size u is opens value = absurd is
      copy_there (Function f) size u is opens value = absurd is

      -- ---- one parameter

      small_number : (v : Value) → IsSoundValue made v → (n : ℕ) → v ≡ Number n → n < 2 ^ 32
      small_number v sound n e = subst (IsSoundValue made) e sound

      word_home : (t : CType) (v : Value) (x : Argument) (n : ℕ) (u : Word) → n < home.words → slice_get w.arguments n ≡ Some u → IsValue first x.value u → (scalar_of t).width ≡ Four → v ≡ x.value
          → IsHome l first opened (scalar_bytes l.order (scalar_of t).width v) (home.place + length home.slots + n) (value_or (address_of home (pos (4 * n))))
      word_home t v x n u lt e value four same =
          let bytes : scalar_bytes l.order (scalar_of t).width v ≡ scalar_bytes l.order Four x.value = ap (λ (i : Width). scalar_bytes l.order i v) four ∙ ap (scalar_bytes l.order Four) same in
          let count = word_count l.order u in
          let four_long = four_bytes l.order x.value in
          let made_at : home.made + length home.slots + n ≡ w.made + (length home.slots + n) = omega arith in
          record {
            home = record { made = w.made + (length home.slots + n); constant = false; bytes = word_bytes l.order u };
            there = word_made n u e;
            open_home = refl;
            past = omega (arith, past);
            stands = λ more grown. subst (λ (bs : List (Byte Value)). AreBytesOf more bs (word_bytes l.order u)) (sym bytes) (word_has_bytes more l.order x.value u (value_grows first more x.value u grown value));
            room = subst (λ (bs : List (Byte Value)). length bs ≤ length (word_bytes l.order u)) (sym bytes) (omega (arith, count, four_long));
            word_is =
                value_is (address_of home (pos (4 * n))) (Plain (Pointer (argument_name home n) 0)) (word_address home n lt)
                ∙ ap (λ (m : ℕ). Plain (Pointer (record { place = home.place + length home.slots + n; made = m; size = 4 }) 0)) made_at
                ∙ ap (λ (m : ℕ). Plain (Pointer (record { place = home.place + length home.slots + n; made = w.made + (length home.slots + n); size = m }) 0)) (sym count);
          }

      parameter_may : (t : CType) (x : Argument) (v : Value) (slot word : ℕ) (z : ℤ) (whole narrow : Bool) → is_record t ≡ whole → is_narrow tags t ≡ narrow → IsFitting t x → IsGivenBy whole t x v → (u : Word) → slice_get w.arguments word ≡ Some u → IsValue first x.value u
          → StandsIn home.slots home.words tags t (parameter_stands whole narrow slot word) z
          → MayStand l home first lives opened (beginning_by whole (not narrow) l.order t v) (parameter_stands whole narrow slot word) (local_address home w.arguments (parameter_stands whole narrow slot word) z)
      parameter_may t x v slot word z true narrow r n f given u e value s =
          subst (IsThere first lives opened v) (sym (value_is (slice_get w.arguments word) u e))
          (subst (λ (y : Value). IsThere first lives opened y u) (sym given) (copy_there x.value (size_of tags t) u (f.passed r) (f.opens r) value))
      parameter_may t x v slot word z false true r n f given u e value s =
          slot_home (is_const t) (bytes_in (scalar_of t).width) slot z (size_of tags t) (let size = narrow_size tags t f.whole n in omega (arith, size)) s
      parameter_may t x v slot word z false false r n f given u e value s =
          let four = wide_width tags t f.whole r n in
          subst (λ (y : ℤ). IsHome l first opened (scalar_bytes l.order (scalar_of t).width v) (home.place + length home.slots + word) (value_or (address_of home y))) (sym s.0)
          (word_home t v x word u s.1 e value four (word_given (scalar_of t) x.value v four (small_number x.value f.sound) given))

      pub parameters_may : (ts us : List CType) (xs : List Argument) (vs : List Value) (slot word : ℕ) (zs : List ℤ) → AllFit ts xs → AreGiven ts xs vs → AreWordsFrom first w.arguments word xs
          → AllStand home.slots home.words tags (ts ++ us) (parameters_stand tags slot word ts ++ others_stand (slot_behind_all tags slot ts) us) zs
          → AllMay l home first lives opened (parameter_beginnings false tags l.order ts vs ++ local_beginnings tags us) (parameters_stand tags slot word ts ++ others_stand (slot_behind_all tags slot ts) us)
          (local_addresses home w.arguments (parameters_stand tags slot word ts ++ others_stand (slot_behind_all tags slot ts) us) zs)
      parameters_may [] us xs [] slot word zs fit given words s = locals_may slot us zs s
      parameters_may [] us xs (v ∷ vs) slot word zs fit given words s = absurd given
      parameters_may (t ∷ ts) us [] vs slot word zs fit given words s = absurd given
      parameters_may (t ∷ ts) us (x ∷ xs) [] slot word zs fit given words s = absurd given
      parameters_may (t ∷ ts) us (x ∷ xs) (v ∷ vs) slot word [] fit given words s = absurd s
      parameters_may (t ∷ ts) us (x ∷ xs) (v ∷ vs) slot word (z ∷ zs) fit given words s = (
        parameter_may t x v slot word z (is_record t) (is_narrow tags t) refl refl fit.0 given.0 words.0.0 words.0.1 words.0.2 s.0,
        parameters_may ts us xs vs (slot_behind (is_narrow tags t) slot) (suc word) zs fit.1 given.1 words.1 s.1,
      )
