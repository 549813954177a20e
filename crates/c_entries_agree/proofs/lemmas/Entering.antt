-- A call of a lowered function comes to stand before the body's first statement.
use Rattle.std.specs.Prelude.{◌≡◌, ◌≤◌, ◌<◌, ◌^◌, ℕ, zero, suc, ◌+◌, ◌*◌, nat_lt, ◌&&◌, ℤ, pos, Bool, true, false, Option, Some, None, List, [], ◌∷◌, ◌++◌, length, map as mapped, take, drop, replicate, slice_get}
use Rattle.std.proofs.Common.{true≢false, refl, sym, ap, subst, ◌∙◌, arith}
use Rattle.std.proofs.lemmas.Bool.{and_parts}
use Rattle.std.proofs.lemmas.List.{length-map, length-replicate, take-append-drop}
use Rattle.std.proofs.lemmas.Option.{same_Some, slice_get_within}
use Rattle.lcc_base.specs.declared.order.Order.{Order}
use Rattle.lcc_base.specs.declared.order.Order.TheVariants.{Little, Big}
use Rattle.lcc_base.specs.Traces.{Opened}
use Rattle.objects.specs.declared.purpose.Purpose.TheVariants.{Initialisation}
use Rattle.objects.specs.declared.value.ObjectName.{ObjectName}
use Rattle.objects.specs.declared.value.Value.{Value}
use Rattle.objects.specs.declared.value.Value.TheVariants.{Number, Pointer, Function}
use Rattle.objects.specs.declared.width.Width.{Width}
use Rattle.objects.specs.declared.width.Width.TheVariants.{One, Two, Four}
use Rattle.objects.specs.Bytes.{unknown_byte}
use Rattle.objects.specs.Objects.{Object as Old}
use Rattle.objects.specs.Scalars.{scalar_bytes}
use Rattle.op_forest.specs.declared.frame.Slot.{Slot}
use Rattle.op_forest.specs.declared.op.Op.TheVariants as op
use Rattle.op_forest.specs.declared.suffix.Suffix.TheVariants.{I}
use Rattle.op_forest.specs.Lowered.{LoweredUnit}
use Rattle.op_forest.specs.Units.{body_of}
use Rattle.forests.specs.Accesses.{word_read}
use Rattle.forests.specs.Addresses.{Home}
use Rattle.forests.specs.Alike.{AreAlike}
use Rattle.forests.specs.Functions.{value_or}
use Rattle.forests.specs.Objects.{Object}
use Rattle.forests.specs.Words.{Word, Plain, Label, Partly, unknown}
use Rattle.forests.specs.Worlds.{World}
use Rattle.c_types.specs.CType.{CType}
use Rattle.c_types.specs.Constness.{is_const}
use Rattle.c_types.specs.Layout.{Tag}
use Rattle.c_meaning.specs.Each.{EachIs}
use Rattle.c_meaning.specs.Fits.{is_whole}
use Rattle.c_meaning.specs.Rows.{result_type, parameters_type}
use Rattle.c_meaning.specs.Scalars.{scalar_of}
use Rattle.c_meaning.specs.Types.{is_record}
use Rattle.c_meaning.specs.Units.{FunctionTree, UnitTree}
use Rattle.c_runs.specs.Calls.{Argument, Call, arguments_fit, result_fits, expected, is_open, own_parameters}
use Rattle.c_runs.specs.Locals.{ArePassed, FittingIsPassed, CheckedCallsHaveLocals, IfOpen, body_start}
use Rattle.c_runs.specs.Outcomes.{Out, Next}
use Rattle.c_runs.specs.Places.{size_of}
use Rattle.c_runs.specs.Soundness.{Outline, outlines, IsSoundValue, IsObjectOf, IsSound, AreLocalsOf, UnitsAreTame}
use Rattle.c_runs.specs.Worlds as c
use Rattle.c_match.specs.Held.{IsOpenTo}
use Rattle.c_match.specs.Left.{IsPrivate}
use Rattle.c_match.specs.Ranges.{Range, Map, Grown}
use Rattle.c_match.specs.Values.{IsValue}
use Rattle.c_match.proofs.lemmas.Growing.{grown_refl, grown_trans, value_grows}
use Rattle.c_match_worlds.specs.Matches.{Matches}
use Rattle.c_match_worlds.proofs.lemmas.Calling.{call_opens}
use Rattle.c_agreement.specs.Agrees.{ComesWith}
use Rattle.c_agreement.specs.Called.{AreValues, behind_hidden, passed_values, IsOpenCopy}
use Rattle.c_agreement.specs.Pairs.{own_count}
use Rattle.c_pointers_agree.specs.Held.{AreShort}
use Rattle.c_pointers_agree.specs.Pointers.{argument_name}
use Rattle.c_pointers_agree.proofs.lemmas.Short.{short_kept, short_grows}
use Rattle.piece_runs.specs.Pieces.{Front, Piece}
use Rattle.piece_runs.proofs.lemmas.Reached.{start_is_reached}
use Rattle.c_rows_agree.specs.Integers.{number}
use Rattle.c_rows_agree.specs.Typed.{constant_i, head}
use Rattle.c_expr_agreement.specs.Scenes.{Scene, InFrame}
use Rattle.lowered_forms.specs.Lows.{Low, ended}
use Rattle.lowered_forms.specs.Places.{is_passed_whole}
use Rattle.lowered_statements.specs.Framed.{FunctionsHaveFrames}
use Rattle.lowered_statements.specs.FunctionBodies.{begun, no_exits, parameters_stored}
use Rattle.lowered_statements.specs.Functions.{Function as Lowering}
use Rattle.lowered_statements.specs.Later.{FunctionsAdd}
use Rattle.lowered_statements.specs.Layouts.{is_narrow, first_word, hidden_words, layout}
use Rattle.lowered_statements.specs.Returns.{end_by}
use Rattle.lowered_statements.specs.Statements.{low_s}
use Rattle.c_straight_agree.specs.Agreement.{IsTaken}
use Rattle.c_straight_agree.specs.Finals.{Final}
use Rattle.c_straight_agree.specs.Layouts.{context_in, address_of, HoldAddresses, HoldsWholes, IsOpenAt}
use Rattle.c_straight_agree.specs.Narrow.{CharsAreNarrow, ShortsAreNarrow}
use Rattle.c_straight_agree.specs.Standing.{IsAmong, Standing, IsSoundIn}
use Rattle.c_straight_agree.proofs.lemmas.Finals.{back_steps, finished}
use Rattle.c_straight_agree.proofs.lemmas.Putting.{each_at, each_map}
use Rattle.c_straight_agree.proofs.lemmas.Wholes.{wholes_left}
use Rattle.c_tests_agree.proofs.lemmas.Branching.{block_begins}
use Rattle.c_stmt_agreement.specs.Comings.{Activation, HoldsPlace, HoldsResult, AreOpen}
use Rattle.c_stmt_agreement.specs.LoweredStmt.{StandsAt}
use Rattle.c_stmts_agree.proofs.lemmas.Backing.{statement_back}
use Rattle.c_entries_agree.specs.Activations.{lowering, scene_of, frame_layout, activation, opened_world, first_body, start_of, Enters}
use Rattle.c_entries_agree.specs.Laws.{IsCallOf, CallsEnter}
use Rattle.c_entries_agree.specs.Lowered.{IsFunctionLowering, HasRoom}
use Rattle.c_entries_agree.specs.Standpoints.{Standpoint, InSlot, InWord, AsPassed, slot_behind_all, standpoints, local_address, local_addresses, is_home}
use Rattle.c_entries_agree.proofs.lemmas.Above.{one_there, objects_live}
use Rattle.c_entries_agree.proofs.lemmas.Addresses.{word_address, one_address, is_passed, standpoint_passed}
use Rattle.c_entries_agree.proofs.lemmas.Beginnings.{Beginning, Made, Passed, begin, begin_all, passed_outlines, lives_itself, all_live}
use Rattle.c_entries_agree.proofs.lemmas.Clear.{standpoints_clear, all_of_frame, all_free, before_is_none}
use Rattle.c_entries_agree.proofs.lemmas.Counting.{is_function, none_is_plain, words_there}
use Rattle.c_entries_agree.proofs.lemmas.Filling.{Filled, AreOthers, all_filled, all_back, words_kept}
use Rattle.c_entries_agree.proofs.lemmas.Frames.{fit, result_whole, result_is_whole, longer, is_frame, all_in_layout, all_stand, is_body, is_laid, one}
use Rattle.c_entries_agree.proofs.lemmas.Given.{Started, body_starts, parameter_beginnings, local_beginnings, all_beginnings, beginning, beginning_by, AreGiven}
use Rattle.c_entries_agree.proofs.lemmas.Holding.{Begun, IsHome, IsThere, MayStand, AllMay, all_begin}
use Rattle.c_entries_agree.proofs.lemmas.Homes.{AreWordsFrom, AllFit, home_lives, same_before, parameters_may}
use Rattle.c_entries_agree.proofs.lemmas.Kinds.{argument_whole}
use Rattle.c_entries_agree.proofs.lemmas.Opening.{homes_open, opened_count, slots_free, words_hold}
use Rattle.c_entries_agree.proofs.lemmas.Others.{other_there, others_are, words_elsewhere, unheld_word, hidden_word}
use Rattle.c_entries_agree.proofs.lemmas.Places.{StandsIn, AllStand, each_drop}
use Rattle.c_entries_agree.proofs.lemmas.Storing.{still_open}
use Rattle.c_entries_agree.proofs.lemmas.Stored.{stored_slots}

-- ---- argument words

words_from : (map : Map) (xs : List Argument) (all ws : List Word) (n : ℕ) → ((i : ℕ) → slice_get all (n + i) ≡ slice_get ws i) → AreValues map (mapped (λ (x : Argument). x.value) xs) ws → AreWordsFrom map all n xs
words_from map [] all ws n at h = tt
words_from map (x ∷ xs) all [] n at h = absurd h
words_from map (x ∷ xs) all (q ∷ ws) n at h = (
  (q, ap (slice_get all) (let e : n ≡ n + 0 = omega arith in e) ∙ at 0, h.0),
  words_from map xs all ws (suc n) (λ i. ap (slice_get all) (let e : suc n + i ≡ n + suc i = omega arith in e) ∙ at (suc i)) h.1,
)

behind_first : (map : Map) (o : Option Value) (whole : Bool) (xs : List Argument) (ws : List Word) → (o ≡ None → whole ≡ false) → ((v : Value) → o ≡ Some v → whole ≡ true) → AreValues map (behind_hidden o (mapped (λ (x : Argument). x.value) xs)) ws → AreWordsFrom map ws (hidden_words whole) xs
behind_first map None true xs ws none some h = absurd (true≢false (none refl))
behind_first map None false xs ws none some h = words_from map xs ws ws 0 (λ i. ap (slice_get ws) (let e : 0 + i ≡ i = omega arith in e)) h
behind_first map (Some v) true xs [] none some h = absurd h
behind_first map (Some v) true xs (q ∷ ws) none some h = words_from map xs (q ∷ ws) ws 1 (λ i. ap (slice_get (q ∷ ws)) (let e : 1 + i ≡ suc i = omega arith in e)) h.1
behind_first map (Some v) false xs ws none some h = absurd (true≢false (sym (some v refl)))

first_passed : (map : Map) (v : Value) (vs : List Value) (ws : List Word) → AreValues map (v ∷ vs) ws → (q : Word) × (slice_get ws 0 ≡ Some q) × IsValue map v q
first_passed map v vs [] h = absurd h
first_passed map v vs (q ∷ ws) h = (q, refl, h.0)

-- ---- short objects

number_short : (order : Order) (w : Width) (n : ℕ) → length (scalar_bytes order w (Number n)) ≤ 4
number_short Little One n = omega arith
number_short Big One n = omega arith
number_short Little Two n = omega arith
number_short Big Two n = omega arith
number_short Little Four n = omega arith
number_short Big Four n = omega arith

bytes_short : (order : Order) (w : Width) (v : Value) → length (scalar_bytes order w v) ≤ 4
bytes_short order w (Number n) = number_short order w n
bytes_short Little w (Pointer o x) = omega arith
bytes_short Big w (Pointer o x) = omega arith
bytes_short Little w (Function f) = omega arith
bytes_short Big w (Function f) = omega arith

abbrev IsShort : Beginning → Type 0
IsShort (Made constant bytes) = length bytes < 2 ^ 31
IsShort (Passed constant copy) = Unit {0}

lone_short : (x : Old) → length x.bytes < 2 ^ 31 → AreShort (x ∷ [])
lone_short x lt zero y e = subst (λ (z : Old). length z.bytes < 2 ^ 31) (let same : x ≡ y = cc in same) lt
lone_short x lt (suc n) y e = absurd (let never : ⊥ = cc in never)

one_short : (b : Beginning) (w : c.World) → IsShort b → AreShort (c.objects w) → AreShort (c.objects (begin b w))
one_short (Made constant bytes) w lt h = short_grows (c.objects w) (record { made = w.storage.made; constant = constant; bytes = bytes } ∷ []) h (lone_short (record { made = w.storage.made; constant = constant; bytes = bytes }) lt)
one_short (Passed constant copy) w lt h = short_kept (c.objects w) (c.objects (begin (Passed constant copy) w)) (passed_outlines (c.objects w) copy constant) h

all_short : (bs : List Beginning) (w : c.World) → EachIs IsShort bs → AreShort (c.objects w) → AreShort (c.objects (begin_all bs w))
all_short [] w lt h = h
all_short (b ∷ bs) w lt h = all_short bs (begin b w) lt.1 (one_short b w lt.0 h)

parameter_short : (order : Order) (t : CType) (v : Value) (whole : Bool) → IsShort (beginning_by whole true order t v)
parameter_short order t v true = tt
parameter_short order t v false = let le = bytes_short order (scalar_of t).width v in omega (arith, le)

locals_short : (tags : List Tag) (us : List CType) → EachIs (HasRoom tags) us → EachIs IsShort (local_beginnings tags us)
locals_short tags [] room = tt
locals_short tags (t ∷ us) room = ((let n = length-replicate (size_of tags t) (unknown_byte {V = Value}) in let lt = room.0 in omega (arith, n, lt)), locals_short tags us room.1)

beginnings_short : (tags : List Tag) (order : Order) (ts us : List CType) (vs : List Value) → EachIs (HasRoom tags) us → EachIs IsShort (parameter_beginnings true tags order ts vs ++ local_beginnings tags us)
beginnings_short tags order [] us vs room = locals_short tags us room
beginnings_short tags order (t ∷ ts) us [] room = locals_short tags us room
beginnings_short tags order (t ∷ ts) us (v ∷ vs) room = (parameter_short order t v (is_record t), beginnings_short tags order ts us vs room)

-- ---- addresses that may be written

open_later : (a b : List Object) → AreAlike a b → (u : Word) → IsOpenAt a u → IsOpenAt b u
open_later a b alike (Plain (Pointer name offset)) h = λ y e. still_open a b alike name.place h y e
open_later a b alike (Plain (Number n)) h = tt
open_later a b alike (Plain (Function f)) h = tt
open_later a b alike (Label f n) h = tt
open_later a b alike (Partly mask bits) h = tt

module _ (l : LoweredUnit) (home : Home) (map : Map) (lives : List Old) (w : World) where
  one_open : (b : Beginning) (h : Standpoint) (u : Word) → MayStand l home map lives w b h u → IsOpenAt w.objects u
  one_open (Made constant bytes) (InSlot n) u i = home_open u (home.place + n) i
    where
      home_open : (v : Word) (place : ℕ) → IsHome l map w bytes place v → IsOpenAt w.objects v
      home_open v place j = subst (IsOpenAt w.objects) (sym j.word_is) (λ y e. ap (λ (z : Object). z.constant) (same_Some y j.home (sym e ∙ j.there)) ∙ j.open_home)
  one_open (Made constant bytes) (InWord n) u i = home_open u (home.place + length home.slots + n) i
    where
      home_open : (v : Word) (place : ℕ) → IsHome l map w bytes place v → IsOpenAt w.objects v
      home_open v place j = subst (IsOpenAt w.objects) (sym j.word_is) (λ y e. ap (λ (z : Object). z.constant) (same_Some y j.home (sym e ∙ j.there)) ∙ j.open_home)
  one_open (Made constant bytes) (AsPassed n) u i = absurd i
  one_open (Passed constant copy) (InSlot n) u i = absurd i
  one_open (Passed constant copy) (InWord n) u i = absurd i
  one_open (Passed constant copy) (AsPassed n) u i = copy_open (subst (λ (v : Value). IsValue map v u) i.is i.value) (subst (IsOpenTo Initialisation map w.objects) i.is i.opens)
    where
      copy_open : IsValue map (Pointer i.name i.offset) u → IsOpenTo Initialisation map w.objects (Pointer i.name i.offset) → IsOpenAt w.objects u
      copy_open value opens = subst (IsOpenAt w.objects) (sym value.2) (λ y e. opens value.0 y value.1 e)

  all_open : (bs : List Beginning) (hs : List Standpoint) (us : List Word) → AllMay l home map lives w bs hs us → EachIs (IsOpenAt w.objects) us
  all_open [] [] [] h = tt
  all_open [] [] (u ∷ us) h = absurd h
  all_open [] (g ∷ hs) us h = absurd h
  all_open (b ∷ bs) [] us h = absurd h
  all_open (b ∷ bs) (g ∷ hs) [] h = absurd h
  all_open (b ∷ bs) (g ∷ hs) (u ∷ us) h = (one_open b g u h.0, all_open bs hs us h.1)

-- ---- lists

take_get : {A : Type 0} (n : ℕ) (xs : List A) (i : ℕ) (x : A) → slice_get (take n xs) i ≡ Some x → slice_get xs i ≡ Some x
take_get zero xs i x e = absurd (let never : ⊥ = cc in never)
take_get (suc n) [] i x e = absurd (let never : ⊥ = cc in never)
take_get (suc n) (y ∷ ys) zero x e = e
take_get (suc n) (y ∷ ys) (suc i) x e = take_get n ys i x e

same_front : {A : Type 0} (xs ys : List A) (n : ℕ) → n < length xs → slice_get (xs ++ ys) n ≡ slice_get xs n
same_front [] ys n lt = absurd (let never : ⊥ = omega (arith, lt) in never)
same_front (x ∷ xs) ys zero lt = refl
same_front (x ∷ xs) ys (suc n) lt = same_front xs ys n (omega (arith, lt))

no_less : (n : ℕ) → n ≤ n
no_less n = omega arith

last_back : (all : List Piece) (zero : Bool) (l : Low) → all ≡ (ended (end_by zero l)).pieces → Final all l
last_back all true l e = (back_steps all).acts_one (head op.Ret I) (constant_i 0) l (finished all (end_by true l) [] e)
last_back all false l e = finished all l [] e

open_so : (P : c.World → Type 0) (o : Out) (i : ℕ) (old : c.World) → o ≡ Next i old → IfOpen o P → P old
open_so P o i old e h = subst (λ (r : Out). IfOpen r P) e h

-- ---- the call

module _ (chars : CharsAreNarrow) (shorts : ShortsAreNarrow) (frames : FunctionsHaveFrames) (adds : FunctionsAdd) (tame : UnitsAreTame) (begins_so : CheckedCallsHaveLocals) (fitting : FittingIsPassed)
    (u : UnitTree) (l : LoweredUnit) (f : FunctionTree) (a : Call) (map : Map) (w : World) (is : IsCallOf u l f a map w) (x : IsFunctionLowering u l a.function f)
    (k : ℕ) (callees : (j : ℕ) → j < k → (callee : ℕ) → callee < length u.functions → ComesWith u l callee j) (i : ℕ) (old : c.World) (starts : body_start u l.order f a.function a.arguments k a.world ≡ Next i old) where
  abbrev s : Scene
  s = scene_of u l a.function f x w

  abbrev home : Home
  home = s.body.setting.environment.home

  abbrev first : c.World
  first = c.entered (Opened a.function) a.world

  abbrev opened : World
  opened = opened_world u l a.function f x w

  abbrev hs : List Standpoint
  hs = standpoints u.tags f

  abbrev zs : List ℤ
  zs = (layout u.tags f).places

  abbrev us : List Word
  us = local_addresses home w.arguments hs zs

  abbrev g : Lowering
  g = lowering u l a.function f x

  begins : Started u l.order f a.function a.arguments k a.world i old
  begins = body_starts u l.order f a.function a.arguments k a.world i old starts

  abbrev vs : List Value
  vs = begins.values

  abbrev full : List Beginning
  full = all_beginnings true u.tags l.order f vs

  abbrev prepared : c.World
  prepared = begin_all (all_beginnings false u.tags l.order f vs) first

  past : length l.objects ≤ length w.objects
  past = objects_live u l map a.world w is.called.passed.world is.called.worlds

  opens : Matches l (own_count u) map first opened × ((place : ℕ) → length w.objects ≤ place → IsPrivate map (c.objects a.world) place)
  opens = let h = call_opens l (own_count u) map a.world w l.order a.function (body_of x.function) is.called.worlds in (h.0, h.2)

  stand : AllStand home.slots home.words u.tags f.locals hs zs
  stand = all_stand u l f a map w is x frames adds tame

  -- ---- arguments

  abbrev by_definition : Bool
  by_definition = is_open (parameters_type f.of)

  fits_all : arguments_fit by_definition (own_parameters f) a.arguments ≡ true
  fits_all = (and_parts (result_fits (result_type f.of) a.of) (arguments_fit by_definition (own_parameters f) a.arguments) (fit u l f a map w is x)).1

  abbrev Fitting : List CType → List Argument → Type 0
  Fitting ts xs = AllFit l a.function (body_of x.function) w past (is_frame u l f a map w is x frames adds tame) u.tags map (c.objects a.world) a.world.storage.made is.called.worlds.held ts xs

  all_fit : (ts : List CType) (xs : List Argument) → arguments_fit by_definition ts xs ≡ true → EachIs (λ t. is_whole u.tags t ≡ true) ts → ArePassed u.tags (outlines (c.objects a.world)) ts xs → EachIs (IsOpenCopy map w.objects) xs → EachIs (λ (y : Argument). IsSoundValue a.world.storage.made y.value) xs → Fitting ts xs
  all_fit [] xs h whole passed open_copies sound = tt
  all_fit (t ∷ ts) [] h whole passed open_copies sound = tt
  all_fit (t ∷ ts) (y ∷ xs) h whole passed open_copies sound =
      let parts = and_parts _ (arguments_fit by_definition ts xs) h in (
        record { whole = whole.0; passed = passed.0; opens = λ r. open_copies.0 (sym (argument_whole by_definition t y.of parts.0) ∙ r); sound = sound.0 },
        all_fit ts xs parts.1 whole.1 passed.1 open_copies.1 sound.1,
      )

  fit_so : Fitting (own_parameters f) a.arguments
  fit_so =
      all_fit (own_parameters f) a.arguments fits_all (is_function u l f a map w is x).parameters
      (fitting u.tags (outlines (c.objects a.world)) by_definition (own_parameters f) a.arguments fits_all is.called.passed.copies) is.called.copies is.called.passed.values

  words : AreWordsFrom map w.arguments (first_word f) a.arguments
  words = behind_first map a.result (is_record (result_type f.of)) a.arguments w.arguments (none_is_plain u l f a map w is x) (λ v e. result_is_whole u l f a map w is x v e) is.called.words

  may : AllMay l home map (c.objects a.world) opened (all_beginnings false u.tags l.order f vs) hs us
  may =
      parameters_may l a.function (body_of x.function) w past (is_frame u l f a map w is x frames adds tame) u.tags map (c.objects a.world) a.world.storage.made is.called.worlds.held (own_parameters f) (drop f.parameters f.locals) a.arguments vs 0 (first_word f) zs fit_so begins.are words
      (subst (λ (ts : List CType). AllStand home.slots home.words u.tags ts hs zs) (sym (take-append-drop f.parameters f.locals)) stand)

  -- ---- C's objects begin

  begun_all : Begun l (own_count u) home opened hs us map first prepared
  begun_all =
      all_begin l (own_count u) home opened map (c.objects a.world) (all_beginnings false u.tags l.order f vs) hs us map first (grown_refl map) (lives_itself (c.objects a.world)) opens.0
      (standpoints_clear home u.tags f (all_of_frame home u.tags f.locals hs zs stand)) (all_free home map (c.objects a.world) (λ place le. opens.1 place le) hs) may

  counted : length opened.objects ≡ length w.objects + (length home.slots + home.words)
  counted = opened_count l a.function (body_of x.function) w past ∙ (let e = words_there u l f a map w is x in omega (arith, e))

  frame : InFrame s.frame begun_all.later prepared opened
  frame = record {
    locals = begun_all.values [] tt;
    others = others_are (λ (place : ℕ). (place < length opened.objects) × IsPrivate begun_all.later (c.objects prepared) place) home hs
        (λ n lt none. ((let e = counted in omega (arith, e, lt)), begun_all.hides (home.place + n) (opens.1 (home.place + n) (omega arith)) none));
  }

  -- ---- the run begins

  abbrev low : Low
  low = (begun g (layout u.tags f)).low

  final : Final s.body.pieces (first_body u l a.function f x).low
  final = statement_back s.body.pieces g no_exits f.body (first_body u l a.function f x) (last_back s.body.pieces g.gives_zero (low_s g no_exits f.body (first_body u l a.function f x)).low refl)

  begin_final : Final s.body.pieces low
  begin_final = all_back u l f a map w is x frames adds tame k chars shorts 0 (first_word f) (own_parameters f) low final

  begin_stands : Standing s (start_of u l a.function f x w) k low begin_final.front begun_all.later prepared (λ m. unknown) opened k
  begin_stands =
      block_begins s (start_of u l a.function f x w) k [] (layout u.tags f).slots low.labels begin_final.front begin_final.slots begun_all.later prepared opened k (start_is_reached s.body begin_final.front opened k) begun_all.matches frame
      (slots_free l a.function (body_of x.function) w past) (record { arguments = refl; callees = callees })

  -- ---- narrow parameters are stored

  others_from : (word : ℕ) (ts : List CType) → ((n : ℕ) (t : CType) → slice_get ts n ≡ Some t → is_narrow u.tags t ≡ true → IsAmong (home.place + (length home.slots + (word + n))) s.frame.others) → AreOthers u l f a map w is x frames adds tame k chars shorts word ts
  others_from word [] h = tt
  others_from word (t ∷ ts) h = (
    λ e. subst (λ (n : ℕ). IsAmong (home.place + (length home.slots + n)) s.frame.others) (let z : word + 0 ≡ word = omega arith in z) (h 0 t refl e),
    others_from (suc word) ts (λ n v e narrow. subst (λ (m : ℕ). IsAmong (home.place + (length home.slots + m)) s.frame.others) (let z : word + suc n ≡ suc word + n = omega arith in z) (h (suc n) v e narrow)),
  )

  taken_few : {A : Type 0} (n : ℕ) (ys : List A) → length (take n ys) ≤ n
  taken_few zero ys = omega arith
  taken_few (suc n) [] = omega arith
  taken_few (suc n) (y ∷ ys) = let h = taken_few n ys in omega (arith, h)

  enough : first_word f + length (own_parameters f) ≤ home.words
  enough = let few = taken_few f.parameters f.locals in let e = x.words in omega (arith, few, e)

  narrow_other : (n : ℕ) (t : CType) → slice_get (own_parameters f) n ≡ Some t → is_narrow u.tags t ≡ true → IsAmong (home.place + (length home.slots + (first_word f + n))) s.frame.others
  narrow_other n t e narrow =
      let lt = slice_get_within (own_parameters f) n t e in
      let le = enough in
      other_there home hs (length home.slots + (first_word f + n)) (omega (arith, lt, le))
      (words_elsewhere home (layout u.tags f).slots home.words u.tags (longer u l f a map w is x frames adds tame) (first_word f + n) f.locals hs zs (all_in_layout u l f a map w is x frames adds tame) (unheld_word u.tags f n t e (λ r q. true≢false (sym narrow ∙ q))))

  filled : Filled u l f a map w is x frames adds tame (first_body u l a.function f x).low begun_all.later prepared opened k (begin_all full first)
  filled =
      all_filled u l f a map w is x frames adds tame k chars shorts (own_parameters f) a.arguments vs 0 (first_word f) [] (local_beginnings u.tags (drop f.parameters f.locals)) low (no_less (length (layout u.tags f).slots)) begun_all.later opened (λ m. unknown) begin_final.front refl
      (λ n t e. ap (slice_get f.locals) (let z : 0 + n ≡ n = omega arith in z) ∙ take_get f.parameters f.locals n t e) (is_function u l f a map w is x).parameters begun_all.grown (λ n y lt e. homes_open l a.function (body_of x.function) w past n y e)
      (λ j q e among. words_hold l a.function (body_of x.function) w past is.called.worlds.sound.arguments j q e) words enough (others_from (first_word f) (own_parameters f) narrow_other) begins.are begin_stands final

  -- ---- the state

  abbrev p : Activation
  p = activation u l a.function f x a w

  full_is : begin_all full first ≡ old
  full_is = sym begins.world

  checked_so : IsSound u old × AreLocalsOf u.tags f.locals old
  checked_so =
      open_so (λ v. IsSound u v × AreLocalsOf u.tags f.locals v) (body_start u l.order f a.function a.arguments k a.world) i old starts
      (begins_so u l.order f a k (is_function u l f a map w is x) (fit u l f a map w is x) is.called.passed)

  sound_so : IsSoundIn s old
  sound_so = record {
    sound = checked_so.0;
    locals = checked_so.1;
    short = subst (λ (v : c.World). AreShort (c.objects v)) full_is (all_short full first (beginnings_short u.tags l.order (own_parameters f) (drop f.parameters f.locals) vs (each_drop (HasRoom u.tags) f.parameters f.locals is.room)) is.called.short);
  }

  -- words of structures
  value_there : (n : ℕ) → n < home.words → (v : Word) → value_or (slice_get w.arguments n) ≡ v → slice_get w.arguments n ≡ Some v
  value_there n lt v e =
      let q = one_there w.arguments n (let h = words_there u l f a map w is x in omega (arith, lt, h)) in
      q.1 ∙ ap (λ (y : Word). Some y) (ap value_or (sym q.1) ∙ e)

  whole_held : (h : Standpoint) (z : ℤ) (of : CType) (b v : Word) → is_passed h ≡ true → StandsIn home.slots home.words u.tags of h z → address_of home z ≡ Some b → local_address home w.arguments h z ≡ v → word_read l.order opened.objects b ≡ Some v
  whole_held (InSlot n) z of b v e h at word = absurd (true≢false (sym e))
  whole_held (InWord n) z of b v e h at word = absurd (true≢false (sym e))
  whole_held (AsPassed n) z of b v e h at word =
      let here : Plain (Pointer (argument_name home n) 0) ≡ b = same_Some (Plain (Pointer (argument_name home n) 0)) b (sym (word_address home n h.1) ∙ ap (address_of home) (sym h.0) ∙ at) in
      ap (word_read l.order opened.objects) (sym here) ∙ words_hold l a.function (body_of x.function) w past is.called.worlds.sound.arguments n v (value_there n h.1 v word)

  addresses_first : HoldAddresses s (frame_layout u l a.function f x) opened
  addresses_first n of z b v typed whole placed at listed =
      let o = one u l f a map w is x frames adds tame n of typed in
      let place : o.place ≡ z = same_Some o.place z (sym o.placed ∙ placed) in
      let word : local_address home w.arguments o.stands o.place ≡ v = same_Some (local_address home w.arguments o.stands o.place) v (sym (one_address home w.arguments hs zs n o.stands o.place o.listed o.placed) ∙ listed) in
      whole_held o.stands o.place of b v (standpoint_passed u.tags f n of o.stands typed o.listed ∙ whole) o.is (ap (address_of home) place ∙ at) word

  wholes_first : HoldsWholes s (frame_layout u l a.function f x) opened
  wholes_first = record {
    words = addresses_first;
    opens = all_open l home map (c.objects a.world) opened (all_beginnings false u.tags l.order f vs) hs us may;
  }

  wholes_so : HoldsWholes s (frame_layout u l a.function f x) filled.world
  wholes_so = wholes_left s (frame_layout u l a.function f x) (is_laid u l f a map w is x frames adds tame) begun_all.later prepared opened filled.world frame.others filled.alike (length (layout u.tags f).slots) filled.left wholes_first

  -- the hidden word
  one_hidden : (whole : Bool) → whole ≡ true → 0 < hidden_words whole
  one_hidden true e = omega arith
  one_hidden false e = absurd (true≢false (sym e))

  grown_all : Grown map filled.later
  grown_all = grown_trans map begun_all.later filled.later begun_all.grown filled.grown

  same_range : {y z : Range} → Some y ≡ Some z → y ≡ z
  same_range e = cc

  pointer_open : (name : ObjectName) (offset : ℕ) (q : Word) (size : ℕ) → IsObjectOf (outlines (c.objects a.world)) size (Pointer name offset) → IsValue map (Pointer name offset) q → IsOpenTo Initialisation map w.objects (Pointer name offset)
      → (r : Range) (y : Object) → filled.later name.made ≡ Some r → slice_get filled.world.objects r.object.place ≡ Some y → y.constant ≡ false
  pointer_open name offset q size object value can r y e there =
      let one_range : value.0 ≡ r = same_range (sym (grown_all name.made value.0 value.1) ∙ e) in
      let lt : value.0.object.place < length w.objects =
      home_lives l a.function (body_of x.function) w past (is_frame u l f a map w is x frames adds tame) u.tags map (c.objects a.world) a.world.storage.made is.called.worlds.held (Pointer name offset) size object q value value.0.object (value.0.start + offset) value.2 in
      let before = same_before l a.function (body_of x.function) w past (is_frame u l f a map w is x frames adds tame) u.tags map (c.objects a.world) a.world.storage.made is.called.worlds.held value.0.object.place lt in
      still_open opened.objects filled.world.objects filled.alike value.0.object.place (λ z f1. can value.0 z value.1 (sym before ∙ f1)) y (ap (λ (t : Range). slice_get filled.world.objects t.object.place) one_range ∙ there)

  result_open : (v : Value) (q : Word) (size : ℕ) → IsObjectOf (outlines (c.objects a.world)) size v → IsValue map v q → IsOpenTo Initialisation map w.objects v → IsOpenTo Initialisation filled.later filled.world.objects v
  result_open (Pointer name offset) q size object value can = λ r y e there. pointer_open name offset q size object value can r y e there
  result_open (Number n) q size object value can = absurd object
  result_open (Function n) q size object value can = absurd object

  result_so : HoldsResult p filled.later filled.world
  result_so v b e at =
      let whole = result_is_whole u l f a map w is x v e in
      let some = one_hidden (is_record (result_type f.of)) whole in
      let words_are = x.words in
      let lt : 0 < home.words = omega (arith, some, words_are) in
      let q = first_passed map v (mapped (λ (y : Argument). y.value) a.arguments) w.arguments (subst (λ (o : Option Value). AreValues map (behind_hidden o (mapped (λ (y : Argument). y.value) a.arguments)) w.arguments) e is.called.words) in
      let given = is.called.passed.result (sym (result_whole u l f a map w is x) ∙ whole) in
      let same_place : given.0 ≡ v = same_Some given.0 v (sym given.1 ∙ e) in
      let here : Plain (Pointer (argument_name home 0) 0) ≡ b = same_Some (Plain (Pointer (argument_name home 0) 0)) b (sym (word_address home 0 lt) ∙ at) in
      let among = other_there home hs (length home.slots + 0) (omega (arith, lt)) (words_elsewhere home (layout u.tags f).slots home.words u.tags (longer u l f a map w is x frames adds tame) 0 f.locals hs zs (all_in_layout u l f a map w is x frames adds tame) (hidden_word u.tags f some)) in
      record {
        word = q.0;
        is = value_grows map filled.later v q.0 grown_all q.2;
        opens = result_open v q.0 (size_of u.tags a.of) (subst (IsObjectOf (outlines (c.objects a.world)) (size_of u.tags a.of)) same_place given.2) q.2 (is.called.result v e);
        holds =
            ap (word_read l.order filled.world.objects) (sym here)
            ∙ words_kept u l f a map w is x frames adds tame k low begun_all.later prepared (begin_all full first) opened (λ m. unknown) begin_final.front begin_stands (first_body u l a.function f x).low filled
            (λ j r f1 other. words_hold l a.function (body_of x.function) w past is.called.worlds.sound.arguments j r f1) 0 q.0 q.1 among;
      }

  opens_so : AreOpen p filled.world
  opens_so = each_map (IsOpenAt opened.objects) (IsOpenAt filled.world.objects) us (λ v h. open_later opened.objects filled.world.objects filled.alike v h) (all_open l home map (c.objects a.world) opened (all_beginnings false u.tags l.order f vs) hs us may)

  stands_so : StandsAt p (record { start = start_of u l a.function f x w; turns = k; map = filled.later; old = old; world = filled.world }) (first_body u l a.function f x).low k
  stands_so = record {
    front = filled.front;
    values = filled.values;
    stands = subst (λ (v : c.World). Standing s (start_of u l a.function f x w) k (first_body u l a.function f x).low filled.front filled.later v filled.values filled.world k) full_is filled.stands;
    sound = sound_so;
    wholes = wholes_so;
    result = result_so;
    opens = opens_so;
  }

  left_so : (place : ℕ) → place < length w.objects → IsPrivate map (c.objects a.world) place → (slice_get filled.world.objects place ≡ slice_get w.objects place) × IsPrivate filled.later (c.objects old) place
  left_so place lt private =
      let before = same_before l a.function (body_of x.function) w past (is_frame u l f a map w is x frames adds tame) u.tags map (c.objects a.world) a.world.storage.made is.called.worlds.held place lt in
      let hidden = begun_all.hides place private (before_is_none home place lt hs) in
      let longer_now : place < length opened.objects = (let e = counted in omega (arith, e, lt)) in (
        filled.left place longer_now hidden (λ taken. let le = taken.0 in let never : ⊥ = omega (arith, le, lt) in never) ∙ before,
        subst (λ (v : c.World). IsPrivate filled.later (c.objects v) place) full_is (filled.private place longer_now hidden),
      )

  lives_so : (place : ℕ) → place < length (c.objects a.world) → slice_get (outlines (c.objects old)) place ≡ slice_get (outlines (c.objects a.world)) place
  lives_so place lt =
      let h = all_live full first in
      let count = outlines_count (c.objects a.world) in
      subst (λ (v : c.World). slice_get (outlines (c.objects v)) place ≡ slice_get (outlines (c.objects a.world)) place) full_is
      (ap (λ (os : List Outline). slice_get os place) h.is ∙ same_front (outlines (c.objects a.world)) h.more place (omega (arith, count, lt)))
    where
      outlines_count : (os : List Old) → length (outlines os) ≡ length os
      outlines_count [] = refl
      outlines_count (y ∷ ys) = ap suc (outlines_count ys)

  pub enters : (i ≡ k) × Enters u l a.function f x a map w k old
  enters = (begins.turns, record { later = filled.later; world = filled.world; stands = stands_so; grown = grown_all; left = left_so; lives = lives_so })
