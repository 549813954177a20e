-- Narrow parameters are stored, one behind the other.
use Rattle.std.specs.Prelude.{◌≡◌, ◌≤◌, ◌<◌, ℕ, zero, suc, ◌+◌, ◌*◌, nat_lt, ◌&&◌, ◌||◌, not, ℤ, pos, Bool, true, false, Option, Some, None, Ok, List, [], ◌∷◌, ◌++◌, length, take, replicate, slice_get}
use Rattle.std.proofs.Common.{true≢false, refl, sym, ap, subst, ◌∙◌, arith, append_assoc, length-append}
use Rattle.std.proofs.lemmas.List.{length-replicate}
use Rattle.std.proofs.lemmas.Option.{slice_get_within}
use Rattle.lcc_base.specs.Traces.{Opened}
use Rattle.objects.specs.declared.purpose.Purpose.TheVariants.{Initialisation}
use Rattle.objects.specs.declared.value.ObjectName.{ObjectName}
use Rattle.objects.specs.declared.byte.Byte.{Byte}
use Rattle.objects.specs.declared.value.Value.{Value}
use Rattle.objects.specs.declared.value.Value.TheVariants.{Pointer}
use Rattle.objects.specs.Bytes.{unknown_byte}
use Rattle.objects.specs.Objects.{Object as Old, stored}
use Rattle.objects.specs.Scalars.{scalar_bytes}
use Rattle.objects.specs.Values.{bytes_in}
use Rattle.op_forest.specs.Lowered.{LoweredUnit}
use Rattle.op_forest.specs.Units.{body_of}
use Rattle.forests.specs.Accesses.{word_read}
use Rattle.forests.specs.Addresses.{Home}
use Rattle.forests.specs.Alike.{AreAlike}
use Rattle.forests.proofs.lemmas.Alike.{word_read_alike}
use Rattle.forests.specs.Objects.{Object}
use Rattle.forests.specs.Words.{Word, Plain}
use Rattle.forests.specs.Worlds.{World, Outcome}
use Rattle.c_types.specs.CType.{CType}
use Rattle.c_types.specs.Constness.{is_const}
use Rattle.c_meaning.specs.Each.{EachIs}
use Rattle.c_meaning.specs.Fits.{is_whole}
use Rattle.c_meaning.specs.Scalars.{scalar_of}
use Rattle.c_meaning.specs.Types.{is_record}
use Rattle.c_meaning.specs.Units.{FunctionTree, UnitTree}
use Rattle.c_runs.specs.Calls.{Argument, Call, own_parameters}
use Rattle.c_runs.specs.Soundness.{outlines, UnitsAreTame}
use Rattle.c_runs.specs.Worlds as c
use Rattle.c_match.specs.Held.{IsOpenTo}
use Rattle.c_match.specs.Left.{IsPrivate}
use Rattle.c_match.specs.Ranges.{Range, Map, Grown}
use Rattle.c_match.specs.Values.{IsValue}
use Rattle.c_match.proofs.lemmas.Growing.{grown_refl, grown_trans, value_grows}
use Rattle.piece_runs.specs.Pieces.{Front}
use Rattle.c_pointers_agree.specs.Pointers.{argument_name, slot_name}
use Rattle.c_expr_agreement.specs.Scenes.{Scene}
use Rattle.lowered_forms.specs.Later.{IsFront}
use Rattle.lowered_forms.specs.Lows.{Low, acted}
use Rattle.lowered_forms.specs.Places.{address_at, is_passed_whole, local_by}
use Rattle.c_rows_agree.specs.Places.{stored_as}
use Rattle.c_rows_agree.specs.Templates.{Root}
use Rattle.op_forest.specs.declared.frame.Slot.{Slot}
use Rattle.objects.specs.declared.width.Width.{Width}
use Rattle.lowered_statements.specs.Framed.{FunctionsHaveFrames}
use Rattle.lowered_statements.specs.FunctionBodies.{parameter_stored, parameters_stored, word_passed}
use Rattle.lowered_statements.specs.Functions.{Function}
use Rattle.lowered_statements.specs.Later.{FunctionsAdd}
use Rattle.lowered_statements.specs.Layouts.{is_narrow, layout}
use Rattle.c_straight_agree.specs.Agreement.{IsTaken, IsLeftBut, Came}
use Rattle.c_straight_agree.specs.Finals.{Final}
use Rattle.c_straight_agree.specs.Layouts.{context_in, address_of}
use Rattle.c_straight_agree.specs.Narrow.{CharsAreNarrow, ShortsAreNarrow}
use Rattle.c_straight_agree.specs.Standing.{IsAmong, Standing}
use Rattle.c_straight_agree.proofs.lemmas.Finals.{back_steps}
use Rattle.c_straight_agree.proofs.lemmas.Putting.{each_at, alike_length}
use Rattle.c_entries_agree.specs.Activations.{lowering, scene_of, frame_layout, opened_world, start_of}
use Rattle.c_entries_agree.specs.Laws.{IsCallOf}
use Rattle.c_entries_agree.specs.Lowered.{IsFunctionLowering}
use Rattle.c_entries_agree.specs.Standpoints.{standpoints}
use Rattle.c_entries_agree.proofs.lemmas.Beginnings.{Beginning, Made, begin_all, filled, fills, its_name, its_local, its_outline}
use Rattle.c_entries_agree.proofs.lemmas.Frames.{OwnAt, is_body, is_laid, one, own_address, address_there}
use Rattle.c_entries_agree.proofs.lemmas.Given.{beginning_by, parameter_beginnings, IsGivenBy, AreGiven, IsNarrow, narrow_given}
use Rattle.c_entries_agree.proofs.lemmas.Homes.{AreWordsFrom}
use Rattle.c_entries_agree.proofs.lemmas.Kinds.{narrow_is_scalar, narrow_width}
use Rattle.c_entries_agree.proofs.lemmas.Places.{StandsOne}
use Rattle.c_entries_agree.proofs.lemmas.Storing.{still_open, word_at, parameter_came}

module _ (u : UnitTree) (l : LoweredUnit) (f : FunctionTree) (a : Call) (map : Map) (w : World) (is : IsCallOf u l f a map w) (x : IsFunctionLowering u l a.function f) (frames : FunctionsHaveFrames) (adds : FunctionsAdd) (tame : UnitsAreTame) where
  abbrev s : Scene
  s = scene_of u l a.function f x w

  abbrev home : Home
  home = s.body.setting.environment.home

  abbrev g : Function
  g = lowering u l a.function f x

  abbrev slots : ℕ
  slots = length (layout u.tags f).slots

  abbrev first : c.World
  first = c.entered (Opened a.function) a.world

  -- the objects of the call may be written
  abbrev pub AreHomesOpen : World → Type 0
  AreHomesOpen v = (i : ℕ) (y : Object) → i < length home.slots + home.words → slice_get v.objects (home.place + i) ≡ Some y → y.constant ≡ false

  -- argument words that hold no local are as they were passed
  abbrev pub AreWordsKept : World → Type 0
  AreWordsKept v = (j : ℕ) (q : Word) → slice_get w.arguments j ≡ Some q → IsAmong (home.place + (length home.slots + j)) s.frame.others → word_read l.order v.objects (Plain (Pointer (argument_name home j) 0)) ≡ Some q

  -- from one world of both to another
  pub record Filled (m : Low) (before : Map) (old : c.World) (v : World) (k : ℕ) (new : c.World) : Type 0 where
    pub front : Front s.body.pieces m.pieces m.entries
    pub later : Map
    pub values : ℕ → Word
    pub world : World
    pub stands : Standing s (start_of u l a.function f x w) k m front later new values world k
    pub grown : Grown before later
    pub alike : AreAlike v.objects world.objects
    pub left : IsLeftBut s slots before (c.objects old) v.objects world.objects
    pub private : (place : ℕ) → place < length v.objects → IsPrivate before (c.objects old) place → IsPrivate later (c.objects new) place

  module _ (k : ℕ) where
    same_world : (m : Low) (before : Map) (old new : c.World) (v : World) (values : ℕ → Word) (front : Front s.body.pieces m.pieces m.entries) → Standing s (start_of u l a.function f x w) k m front before old values v k → old ≡ new → Filled m before old v k new
    same_world m before old new v values front st e = subst (Filled m before old v k) e (record {
      front = front;
      later = before;
      values = values;
      world = v;
      stands = st;
      grown = grown_refl before;
      alike = refl;
      left = λ place lt private none. refl;
      private = λ place lt private. private;
    })

    joined : (m n : Low) (before : Map) (old mid new : c.World) (v : World) → (p : Filled m before old v k mid) → Filled n p.later mid p.world k new → Filled n before old v k new
    joined m n before old mid new v p q =
        let count = alike_length v.objects p.world.objects p.alike in
        record {
          front = q.front;
          later = q.later;
          values = q.values;
          world = q.world;
          stands = q.stands;
          grown = grown_trans before p.later q.later p.grown q.grown;
          alike = p.alike ∙ q.alike;
          left = λ place lt private none. q.left place (omega (arith, lt, count)) (p.private place lt private) none ∙ p.left place lt private none;
          private = λ place lt private. q.private place (omega (arith, lt, count)) (p.private place lt private);
        }

    homes_open : (v world : World) → AreAlike v.objects world.objects → AreHomesOpen v → AreHomesOpen world
    homes_open v world alike h i y lt e = still_open v.objects world.objects alike (home.place + i) (λ z there. h i z lt there) y e

    pub words_kept : (m : Low) (before : Map) (old new : c.World) (v : World) (values : ℕ → Word) (front : Front s.body.pieces m.pieces m.entries) → Standing s (start_of u l a.function f x w) k m front before old values v k → (n : Low) (p : Filled n before old v k new) → AreWordsKept v → AreWordsKept p.world
    words_kept m before old new v values front st n p h j q e among =
        let at : home.place + (length home.slots + j) ≡ home.place + length home.slots + j = omega arith in
        let there = each_at (λ place. (place < length v.objects) × IsPrivate before (c.objects old) place) s.frame.others among.0 (home.place + (length home.slots + j)) st.stands.frame.others among.1 in
        let same = p.left (home.place + (length home.slots + j)) there.0 there.1 (λ taken. let r = taken.1 in let never : ⊥ = omega (arith, r) in never) in
        sym (word_read_alike l.order v.objects p.world.objects (argument_name home j) 0 p.alike (ap (slice_get v.objects) (sym at) ∙ sym same ∙ ap (slice_get p.world.objects) at)) ∙ h j q e among

    module _ (chars : CharsAreNarrow) (shorts : ShortsAreNarrow) where
      and_off : (b r : Bool) → r ≡ false → (b && r) ≡ false
      and_off true r e = e
      and_off false r e = refl

      -- ---- one parameter

      module _ (t : CType) (y : Argument) (v : Value) (n word : ℕ) (done rest : List Beginning) (m : Low) (room : slots ≤ length m.slots) (before : Map) (world : World) (values : ℕ → Word) (front : Front s.body.pieces m.pieces m.entries) (counted : length done ≡ n) (typed : slice_get f.locals n ≡ Some t) (whole : is_whole u.tags t ≡ true)
          (grown : Grown map before) (opens : AreHomesOpen world) (kept : AreWordsKept world) (q : Word) (passed : slice_get w.arguments word ≡ Some q) (value : IsValue map y.value q) (within : word < home.words) (among : IsAmong (home.place + (length home.slots + word)) s.frame.others) where
        abbrev wd : Width
        wd = (scalar_of t).width

        abbrev unknown : List (Byte Value)
        unknown = replicate (bytes_in wd) unknown_byte

        abbrev bytes : List (Byte Value)
        bytes = scalar_bytes l.order wd v

        abbrev old : c.World
        old = begin_all (done ++ Made (is_const t) unknown ∷ rest) first

        module _ (narrow : is_narrow u.tags t ≡ true) (given : IsGivenBy false t y v) (st : Standing s (start_of u l a.function f x w) k m front before old values world k) where
          scalar : is_passed_whole (context_in s (frame_layout u l a.function f x)) n t ≡ false
          scalar = and_off (nat_lt n f.parameters) (is_record t) (narrow_is_scalar u.tags t whole narrow)

          place : StandsOne home.slots home.words u.tags n t (standpoints u.tags f) (layout u.tags f).places
          place = one u l f a map w is x frames adds tame n t typed

          how : IsNarrow l.order (scalar_of t) y.value v
          how = narrow_given l.order (scalar_of t) y.value v (narrow_width u.tags t whole narrow) given

          as_long : length bytes ≡ length unknown
          as_long = how.count ∙ sym (length-replicate (bytes_in wd) (unknown_byte {V = Value}))

          abbrev name : ObjectName
          name = its_name done rest (is_const t) bytes unknown first as_long

          listed : slice_get old.locals n ≡ Some (Pointer name 0)
          listed = subst (λ (i : ℕ). slice_get old.locals i ≡ Some (Pointer name 0)) (let e : 0 + length done ≡ n = (let c1 = counted in omega (arith, c1)) in e) (its_local done rest (is_const t) bytes unknown first as_long)

          fits_in : bytes_in wd ≤ name.size
          fits_in = let count = length-replicate (bytes_in wd) (unknown_byte {V = Value}) in omega (arith, count)

          same_range : {p r : Range} → Some p ≡ Some r → p ≡ r
          same_range e = cc

          same_object : (p q : ObjectName) (i j : ℕ) → Plain (Pointer p i) ≡ Plain (Pointer q j) → p ≡ q
          same_object p q i j e = cc

          open_at : (own : OwnAt u l f a map w is x frames adds tame place.place) (qq : Word) → address_of home place.place ≡ Some qq → IsValue before (Pointer name 0) qq → IsOpenTo Initialisation before world.objects (Pointer name 0)
          open_at own qq at value r object e there =
              let one : value.0 ≡ r = same_range (sym value.1 ∙ e) in
              let word : Plain (Pointer own.name 0) ≡ qq = same_word (sym own.is_at ∙ at) in
              let named : own.name ≡ value.0.object = same_object own.name value.0.object 0 (value.0.start + 0) (word ∙ value.2) in
              let at_place : r.object.place ≡ home.place + own.number = ap (λ (p : Range). p.object.place) (sym one) ∙ ap (λ (p : ObjectName). p.place) (sym named) ∙ own.named in
              opens own.number object own.within (ap (slice_get world.objects) (sym at_place) ∙ there)
            where
              same_word : {p r : Word} → Some p ≡ Some r → p ≡ r
              same_word e = cc

          opened_slot : IsOpenTo Initialisation before world.objects (Pointer name 0)
          opened_slot =
              let own = own_address u l f a map w is x frames adds tame n t place.place typed scalar place.placed in
              let at = word_at before old.locals s.frame.addresses n (Pointer name 0) st.stands.frame.locals listed in
              open_at own at.word (address_there u l f a map w is x frames adds tame n t place.place at.word typed scalar place.placed at.there) at.is

          abbrev root : Root
          root = stored_as wd (address_at place.place) (word_passed word)

          came : (h : Front s.body.pieces (acted root m).pieces (acted root m).entries) → Came s (start_of u l a.function f x w) k m (acted root m) h (address_at place.place) before old values world (Some (Pointer name 0)) (c.with_objects old (stored (c.objects old) name.place 0 (scalar_bytes l.order wd y.value))) k
          came h =
              parameter_came chars shorts s slots (is_body u l f a map w is x frames adds tame) (frame_layout u l a.function f x) (is_laid u l f a map w is x frames adds tame) m room (start_of u l a.function f x w) k front before old values world k st
              n word t place.place typed scalar place.placed name listed (its_outline done rest (is_const t) bytes unknown first as_long) wd fits_in y.value how.narrowed q (value_grows map before y.value q grown value) within (kept word q passed among) opened_slot h

          -- C's object is filled
          new_is : c.with_objects old (stored (c.objects old) name.place 0 (scalar_bytes l.order wd y.value)) ≡ begin_all (done ++ Made (is_const t) bytes ∷ rest) first
          new_is = ap (λ (bs : List (Byte Value)). filled name.place bs old) (sym how.bytes) ∙ sym (fills done rest (is_const t) bytes unknown first as_long)

          root_is : acted root m ≡ parameter_stored true g n word t m
          root_is = ap (λ (z : Option ℤ). acted (stored_as wd (local_by false z) (word_passed word)) m) (sym place.placed)

          root_filled : Final s.body.pieces (acted root m) → Filled (acted root m) before old world k (begin_all (done ++ Made (is_const t) bytes ∷ rest) first)
          root_filled final =
              let r = came final.front in
              subst (Filled (acted root m) before old world k) new_is
              (record {
                front = final.front;
                later = r.later;
                values = r.others;
                world = r.world;
                stands = r.stands;
                grown = r.grown;
                alike = r.alike;
                left = λ at lt private none. r.left at lt private (λ taken. none (taken_sooner at taken));
                private = r.private;
              })
            where
              taken_sooner : (at : ℕ) → IsTaken s (length m.slots) at → IsTaken s slots at
              taken_sooner at taken = ((let p = taken.0 in let le = room in omega (arith, p, le)), taken.1)

          pub one_stored : Final s.body.pieces (parameter_stored true g n word t m) → Filled (parameter_stored true g n word t m) before old world k (begin_all (done ++ Made (is_const t) bytes ∷ rest) first)
          one_stored final = subst (λ (e : Low). Filled e before old world k (begin_all (done ++ Made (is_const t) bytes ∷ rest) first)) root_is (root_filled (subst (Final s.body.pieces) (sym root_is) final))

        -- by whether it is narrow
        pub one_filled : (narrow : Bool) → is_narrow u.tags t ≡ narrow → IsGivenBy (is_record t) t y v → Standing s (start_of u l a.function f x w) k m front before (begin_all (done ++ beginning_by (is_record t) (not narrow) l.order t v ∷ rest) first) values world k
            → Final s.body.pieces (parameter_stored narrow g n word t m) → Filled (parameter_stored narrow g n word t m) before (begin_all (done ++ beginning_by (is_record t) (not narrow) l.order t v ∷ rest) first) world k (begin_all (done ++ beginning_by (is_record t) true l.order t v ∷ rest) first)
        one_filled true is_so given st final =
            let r = narrow_is_scalar u.tags t whole is_so in
            let given_so : IsGivenBy false t y v = subst (λ (b : Bool). IsGivenBy b t y v) r given in
            let st_so = subst (λ (b : Bool). Standing s (start_of u l a.function f x w) k m front before (begin_all (done ++ beginning_by b false l.order t v ∷ rest) first) values world k) r st in
            subst (λ (b : Bool). Filled (parameter_stored true g n word t m) before (begin_all (done ++ beginning_by b false l.order t v ∷ rest) first) world k (begin_all (done ++ beginning_by b true l.order t v ∷ rest) first)) (sym r)
            (one_stored is_so given_so st_so final)
        one_filled false is_so given st final = same_world m before _ _ world values front st refl

      -- ---- all of them

      abbrev AllWhole : List CType → Type 0
      AllWhole ts = EachIs (λ t. is_whole u.tags t ≡ true) ts

      -- the words of narrow ones are among the other objects
      abbrev pub AreOthers : ℕ → List CType → Type 0
      AreOthers word [] = Unit {0}
      AreOthers word (t ∷ ts) = (is_narrow u.tags t ≡ true → IsAmong (home.place + (length home.slots + word)) s.frame.others) × AreOthers (suc word) ts

      one_slots : (narrow : Bool) (n word : ℕ) (t : CType) (m : Low) → (parameter_stored narrow g n word t m).slots ≡ m.slots
      one_slots true n word t m = refl
      one_slots false n word t m = refl

      one_back : (narrow : Bool) (n word : ℕ) (t : CType) (m : Low) → Final s.body.pieces (parameter_stored narrow g n word t m) → Final s.body.pieces m
      one_back true n word t m final = (back_steps s.body.pieces).acts (stored_as (scalar_of t).width (local_by false (slice_get g.context.places n)) (word_passed word)) m final
      one_back false n word t m final = final

      pub all_back : (n word : ℕ) (ts : List CType) (m : Low) → Final s.body.pieces (parameters_stored g n word ts m) → Final s.body.pieces m
      all_back n word [] m final = final
      all_back n word (t ∷ ts) m final = one_back (is_narrow u.tags t) n word t m (all_back (suc n) (suc word) ts (parameter_stored (is_narrow u.tags t) g n word t m) final)

      -- a parameter that isn't narrow needs no word
      one_by : (t : CType) (y : Argument) (v : Value) (n word : ℕ) (done rest : List Beginning) (m : Low) (room : slots ≤ length m.slots) (before : Map) (world : World) (values : ℕ → Word) (front : Front s.body.pieces m.pieces m.entries) → length done ≡ n → slice_get f.locals n ≡ Some t → is_whole u.tags t ≡ true
          → Grown map before → AreHomesOpen world → AreWordsKept world → (q : Word) → slice_get w.arguments word ≡ Some q → IsValue map y.value q → word < home.words → (narrow : Bool) → (narrow ≡ true → IsAmong (home.place + (length home.slots + word)) s.frame.others)
          → is_narrow u.tags t ≡ narrow → IsGivenBy (is_record t) t y v → Standing s (start_of u l a.function f x w) k m front before (begin_all (done ++ beginning_by (is_record t) (not narrow) l.order t v ∷ rest) first) values world k
          → Final s.body.pieces (parameter_stored narrow g n word t m) → Filled (parameter_stored narrow g n word t m) before (begin_all (done ++ beginning_by (is_record t) (not narrow) l.order t v ∷ rest) first) world k (begin_all (done ++ beginning_by (is_record t) true l.order t v ∷ rest) first)
      one_by t y v n word done rest m room before world values front counted typed whole grown opens kept q passed value within true among is_so given st final =
          one_filled t y v n word done rest m room before world values front counted typed whole grown opens kept q passed value within (among refl) true is_so given st final
      one_by t y v n word done rest m room before world values front counted typed whole grown opens kept q passed value within false among is_so given st final = same_world m before _ _ world values front st refl

      pub all_filled : (ts : List CType) (ys : List Argument) (vs : List Value) (n word : ℕ) (done rest : List Beginning) (m : Low) → slots ≤ length m.slots → (before : Map) (world : World) (values : ℕ → Word) (front : Front s.body.pieces m.pieces m.entries) → length done ≡ n
          → ((i : ℕ) (t : CType) → slice_get ts i ≡ Some t → slice_get f.locals (n + i) ≡ Some t) → AllWhole ts → Grown map before → AreHomesOpen world → AreWordsKept world → AreWordsFrom map w.arguments word ys → word + length ts ≤ home.words → AreOthers word ts → AreGiven ts ys vs
          → Standing s (start_of u l a.function f x w) k m front before (begin_all (done ++ (parameter_beginnings false u.tags l.order ts vs ++ rest)) first) values world k → Final s.body.pieces (parameters_stored g n word ts m)
          → Filled (parameters_stored g n word ts m) before (begin_all (done ++ (parameter_beginnings false u.tags l.order ts vs ++ rest)) first) world k (begin_all (done ++ (parameter_beginnings true u.tags l.order ts vs ++ rest)) first)
      all_filled [] ys [] n word done rest m room before world values front counted typed whole grown opens kept words within among given st final = same_world m before _ _ world values front st refl
      all_filled [] ys (v ∷ vs) n word done rest m room before world values front counted typed whole grown opens kept words within among given st final = absurd given
      all_filled (t ∷ ts) [] vs n word done rest m room before world values front counted typed whole grown opens kept words within among given st final = absurd given
      all_filled (t ∷ ts) (y ∷ ys) [] n word done rest m room before world values front counted typed whole grown opens kept words within among given st final = absurd given
      all_filled (t ∷ ts) (y ∷ ys) (v ∷ vs) n word done rest m room before world values front counted typed whole grown opens kept words within among given st final =
          let narrow = is_narrow u.tags t in
          let behind = parameter_beginnings false u.tags l.order ts vs ++ rest in
          let next = parameter_stored narrow g n word t m in
          let b = beginning_by (is_record t) true l.order t v in
          let here : slice_get f.locals n ≡ Some t = ap (slice_get f.locals) (let e : n ≡ n + 0 = omega arith in e) ∙ typed 0 t refl in
          let old = begin_all (done ++ beginning_by (is_record t) (not narrow) l.order t v ∷ behind) first in
          let p = one_by t y v n word done behind m room before world values front counted here whole.0 grown opens kept words.0.0 words.0.1 words.0.2 (omega (arith, within)) narrow among.0 refl given.0 st (all_back (suc n) (suc word) ts next final) in
          let more : length (done ++ b ∷ []) ≡ suc n = length-append done (b ∷ []) ∙ (let e = counted in omega (arith, e)) in
          let mid : begin_all (done ++ b ∷ behind) first ≡ begin_all ((done ++ b ∷ []) ++ behind) first = ap (λ (bs : List Beginning). begin_all bs first) (sym (append_assoc done (b ∷ []) behind)) in
          let last : begin_all ((done ++ b ∷ []) ++ (parameter_beginnings true u.tags l.order ts vs ++ rest)) first ≡ begin_all (done ++ b ∷ (parameter_beginnings true u.tags l.order ts vs ++ rest)) first =
          ap (λ (bs : List Beginning). begin_all bs first) (append_assoc done (b ∷ []) (parameter_beginnings true u.tags l.order ts vs ++ rest)) in
          let r = all_filled ts ys vs (suc n) (suc word) (done ++ b ∷ []) rest next (subst (λ (ss : List Slot). slots ≤ length ss) (sym (one_slots narrow n word t m)) room) p.later p.world p.values p.front more
          (λ i z e. ap (slice_get f.locals) (let q : suc n + i ≡ n + suc i = omega arith in q) ∙ typed (suc i) z e) whole.1 (grown_trans map before p.later grown p.grown) (homes_open world p.world p.alike opens)
          (words_kept m before old (begin_all (done ++ b ∷ behind) first) world values front st next p kept) words.1 (omega (arith, within)) among.1 given.1
          (subst (λ (v1 : c.World). Standing s (start_of u l a.function f x w) k next p.front p.later v1 p.values p.world k) mid p.stands) final in
          joined next (parameters_stored g (suc n) (suc word) ts next) before old (begin_all (done ++ b ∷ behind) first) (begin_all (done ++ b ∷ (parameter_beginnings true u.tags l.order ts vs ++ rest)) first) world p
          (subst (λ (v1 : c.World). Filled (parameters_stored g (suc n) (suc word) ts next) p.later v1 p.world k (begin_all (done ++ b ∷ (parameter_beginnings true u.tags l.order ts vs ++ rest)) first)) (sym mid)
          (subst (λ (v1 : c.World). Filled (parameters_stored g (suc n) (suc word) ts next) p.later (begin_all ((done ++ b ∷ []) ++ behind) first) p.world k v1) last r))
