-- The call of the first operand with the others, where these are there.
use Rattle.std.specs.Prelude.{◌≡◌, ◌<◌, ℕ, zero, suc, Bool, true, false, Option, Some, None, Result as Checked, Ok, Err, List, [], ◌∷◌, length, slice_get, if◌then◌else◌}
use Rattle.std.proofs.Common.{true≢false, refl, sym, ap, subst, ◌∙◌}
use Rattle.std.proofs.lemmas.Option.{none-some}
use Rattle.lcc_base.specs.declared.cause.Cause.{Cause}
use Rattle.lcc_base.specs.declared.cause.Cause.TheVariants.{CallMismatch}
use Rattle.lcc_base.specs.declared.order.Order.{Order}
use Rattle.lcc_base.specs.Traces.{Closed}
use Rattle.objects.specs.declared.purpose.Purpose.TheVariants.{Initialisation}
use Rattle.objects.specs.declared.value.Value.{Value}
use Rattle.objects.specs.declared.value.Value.TheVariants.{Function}
use Rattle.forests.specs.Objects.{Object}
use Rattle.forests.specs.Words.{Word}
use Rattle.forests.specs.Worlds.{World, Outcome}
use Rattle.c_types.specs.CType.{CType, unqualified}
use Rattle.c_types.specs.Layout.{Tag}
use Rattle.c_meaning.specs.declared.built_in.BuiltIn.{BuiltIn}
use Rattle.c_meaning.specs.Copies.{locals_from, copied}
use Rattle.c_meaning.specs.Each.{EachIs}
use Rattle.c_meaning.specs.Types.{is_record}
use Rattle.c_meaning.specs.Units.{FunctionTree, UnitTree}
use Rattle.c_runs.specs.Calls.{Argument, Call, Setting, fits, built_in_fits, function_at, built_in_at, called_by, provided, handed, returned}
use Rattle.c_runs.specs.Expressions.{call_by, result_place}
use Rattle.c_runs.specs.Locals.{IsPassedCall, LocalIsObject}
use Rattle.c_runs.specs.Outcomes.{Result, Gives, GivesNone, Ends, Out, Next, Break, Continue, Return, Goto, Over, undefined, if_fine, either, spend}
use Rattle.c_runs.specs.Places.{assigned, size_of}
use Rattle.c_runs.specs.Run.{context, setting, body_run, function_run, calls_below, call}
use Rattle.c_runs.specs.Soundness.{outlines, IsObjectOf}
use Rattle.c_runs.specs.Worlds as c
use Rattle.c_match.specs.Held.{IsOpenTo}
use Rattle.c_match.specs.Ranges.{Map}
use Rattle.c_match_worlds.specs.Matches.{Matches}
use Rattle.c_agreement.specs.Agrees.{ComesWith}
use Rattle.c_agreement.specs.Called.{AreValues, behind_hidden, passed_values}
use Rattle.piece_runs.specs.Pieces.{Front}
use Rattle.c_expr_agreement.specs.Scenes.{Scene}
use Rattle.lowered_forms.specs.Lows.{Low}
use Rattle.c_straight_agree.specs.Layouts.{FrameLayout, IsLaidOut, IsOpenAt}
use Rattle.c_straight_agree.specs.Standing.{IsBody, Standing, IsSoundIn}
use Rattle.c_calls_agree.specs.Given.{CallCame}
use Rattle.c_calls_agree.specs.Laws.{HasCopies}
use Rattle.c_calls_agree.specs.Passing.{Passing}
use Rattle.c_calls_agree.specs.Programs.{IsProgram}
use Rattle.c_calls_agree.proofs.lemmas.Arguments.{values_of}
use Rattle.c_calls_agree.proofs.lemmas.BuiltIns.{built_in_gives_no_record}
use Rattle.c_calls_agree.proofs.lemmas.Callees.{context_calls, calls_come}
use Rattle.c_calls_agree.proofs.lemmas.Copies.{place_for, local_is_open, AreEvaluated, copies_are_open}

-- ---- the call as C makes it

-- by a function's value
abbrev pub made_call : CType → ℕ → ℕ → List Argument → c.World → ℕ → Call
made_call of line n xs w f = record { function = f; arguments = xs; of = of; result = result_place of w.locals n; line = line; world = w }

abbrev pub called_so : Scene → CType → ℕ → ℕ → List Argument → ℕ → c.World → ℕ → Result
called_so s of line n xs k w f = called_by (context s.unit s.lowered.order) (function_at s.unit f) (built_in_at s.unit f) (made_call of line n xs w f) k w

pub by_value : (s : Scene) (of : CType) (line n : ℕ) (xs : List Argument) (k : ℕ) (w : c.World) (f : ℕ) → call_by (context s.unit s.lowered.order) of line (Function f) n xs k w ≡ called_so s of line n xs k w f
unfolding context
by_value s of line n xs k w f = refl

no_place : (of : CType) (vs : List Value) (n : ℕ) → is_record of ≡ false → result_place of vs n ≡ None
no_place of vs n plain = ap (λ (b : Bool). if b then slice_get vs n else None) plain

-- ---- a call that gives a structure gives the place of its object

-- no other value comes of it
abbrev pub GivesOnly : Value → Result → Type 0
GivesOnly p (Gives v k w) = v ≡ p
GivesOnly p (GivesNone line k w) = Unit {0}
GivesOnly p (Ends how w) = Unit {0}

fine_only : {A : Type 0} (p : Value) (checked : Checked A Cause) (line : ℕ) (w : c.World) (go : A → Result) → ((a : A) → GivesOnly p (go a)) → GivesOnly p (if_fine checked line w go)
fine_only p (Ok a) line w go h = h a
fine_only p (Err cause) line w go h = tt

spent_only : (p : Value) (k : ℕ) (w : c.World) (go : ℕ → Result) → ((j : ℕ) → GivesOnly p (go j)) → GivesOnly p (spend k w go)
spent_only p zero w go h = tt
spent_only p (suc k) w go h = h k

module _ (tags : List Tag) (a : Call) (p : Value) (result : a.result ≡ Some p) where
  handed_only : (v : Value) (line k : ℕ) (w : c.World) → GivesOnly p (handed tags a.of a.result v line k a.world w)
  handed_only v line k w =
      subst (λ (o : Option Value). GivesOnly p (handed tags a.of o v line k a.world w)) (sym result)
      (fine_only p (assigned Initialisation tags a.of (c.objects w) v p) line w (λ os. Gives p k (c.left_behind Closed a.world (c.with_objects w os))) (λ os. refl))

  returned_only : (o : Out) → GivesOnly p (returned tags a o)
  returned_only (Next k w) = tt
  returned_only (Return None line k w) = tt
  returned_only (Return (Some v) line k w) = handed_only v line k w
  returned_only (Break k w) = tt
  returned_only (Continue k w) = tt
  returned_only (Goto l k w) = tt
  returned_only (Over h w) = tt

run_only : (s : Setting) (o : Option FunctionTree) (a : Call) (k : ℕ) (p : Value) → a.result ≡ Some p → GivesOnly p (function_run s o a k)
run_only s None a k p result = tt
run_only s (Some f) a k p result = returned_only s.unit.tags a p result (body_run s f a.function a.arguments k a.world)

call_only : (u : UnitTree) (order : Order) (k : ℕ) (a : Call) (p : Value) → a.result ≡ Some p → GivesOnly p (call u order k a)
unfolding call
call_only u order k a p result = run_only (setting u order (λ k1 b. calls_below u order k k1 b)) (slice_get u.functions a.function) a k p result

module _ (s : Scene) (a : Call) (whole : is_record a.of ≡ true) (p : Value) (result : a.result ≡ Some p) (k : ℕ) where
  own_only : (f : FunctionTree) (fit : Bool) → GivesOnly p (either fit (λ k1 w1. spend k1 w1 (λ k2. (context s.unit s.lowered.order).calls k2 a)) (λ k1 w1. undefined CallMismatch a.line w1) k a.world)
  own_only f false = tt
  own_only f true = spent_only p k a.world (λ k2. (context s.unit s.lowered.order).calls k2 a) (λ j. subst (GivesOnly p) (sym (context_calls s.unit s.lowered.order j a)) (call_only s.unit s.lowered.order j a p result))

  -- no built-in function gives one
  built_only : (b : BuiltIn) (fit : Bool) → built_in_fits b a.of a.arguments ≡ fit → GivesOnly p (either fit (λ k1 w1. spend k1 w1 (λ k2. provided b a k2)) (λ k1 w1. undefined CallMismatch a.line w1) k a.world)
  built_only b false fit = tt
  built_only b true fit = absurd (true≢false (sym whole ∙ built_in_gives_no_record b a.of a.arguments fit))

  called_only : (o : Option FunctionTree) (b : Option BuiltIn) → GivesOnly p (called_by (context s.unit s.lowered.order) o b a k a.world)
  called_only (Some f) b = own_only f (fits f a)
  called_only None (Some b) = built_only b (built_in_fits b a.of a.arguments) refl
  called_only None None = tt

pub structure_given : (s : Scene) (of : CType) (line n : ℕ) (xs : List Argument) (k : ℕ) (w : c.World) (f : ℕ) (p : Value) → is_record of ≡ true → result_place of w.locals n ≡ Some p → GivesOnly p (called_so s of line n xs k w f)
structure_given s of line n xs k w f p whole result = called_only s (made_call of line n xs w f) whole p result k (function_at s.unit f) (built_in_at s.unit f)

-- ---- a state before an expression is one before argument words

pub standing_passes : (s : Scene) (start : ℕ → Outcome) (turns : ℕ) (l : Low) (f : Front s.body.pieces l.pieces l.entries) (map : Map) (old : c.World) (values : ℕ → Word) (w : World) (k : ℕ) → Standing s start turns l f map old values w k → Passing s start turns l f map old values w k []
standing_passes s start turns l f map old values w k st = record {
  stands = st.stands;
  block = st.block;
  none_waits = st.none_waits;
  slots = st.slots;
  free = st.free;
  words = subst (λ (ws : List Word). AreValues map [] ws) (sym st.ready.arguments) tt;
  callees = st.ready.callees;
}

-- ---- what C's call comes to is what forests' does

module _ (s : Scene) (locals : ℕ) (body : IsBody s locals) (program : IsProgram s) (each : LocalIsObject) (y : FrameLayout) (laid : IsLaidOut s y) (of : CType) (line n : ℕ) (copies : HasCopies y (locals_from n (copied of))) (xs : List Argument) (k : ℕ) (old : c.World) (sound : IsSoundIn s old) (evaluated : AreEvaluated s old xs) (map : Map) (addresses : AreValues map old.locals s.frame.addresses)
    (callees : (j : ℕ) → j < k → (function : ℕ) → function < length s.unit.functions → ComesWith s.unit s.lowered function j) (f : ℕ) where
  abbrev a : Call
  a = made_call of line n xs old f

  abbrev copied_if : Bool → List CType
  copied_if b = if b then unqualified of ∷ [] else []

  result_by : (b : Bool) → HasCopies y (locals_from n (copied_if b)) → b ≡ true → (v : Value) × ((if b then slice_get old.locals n else None) ≡ Some v) × IsObjectOf (outlines (c.objects old)) (size_of s.unit.tags of) v
  result_by true h whole = let place = place_for each s y laid old sound n of h.0.0 in (place.copy, place.there, place.object)
  result_by false h whole = absurd (true≢false (sym whole))

  is_passed : IsPassedCall s.unit a
  is_passed = record { world = sound.sound; values = evaluated.sound; copies = evaluated.copies; result = result_by (is_record of) copies }

  result_open : (b : Bool) (objects : List Object) → EachIs (IsOpenAt objects) s.frame.addresses → (v : Value) → (if b then slice_get old.locals n else None) ≡ Some v → IsOpenTo Initialisation map objects v
  result_open true objects opens v is = local_is_open map old.locals s.frame.addresses objects addresses opens n v is
  result_open false objects opens v is = absurd (none-some v is)

  pub call_comes : (world : World) → EachIs (IsOpenAt world.objects) s.frame.addresses → Matches s.lowered s.own map old world → AreValues map (passed_values a) world.arguments → CallCame s map old world k f a.result (called_so s of line n xs k old f)
  call_comes world opens matches words =
      calls_come s locals body program map world k a callees is_passed (λ plain. no_place of old.locals n plain) sound.short matches words
      (copies_are_open map old.locals s.frame.addresses world.objects addresses opens xs evaluated.locals) (result_open (is_record of) world.objects opens)

  -- without a structure as its result
  pub plain_call_comes : is_record of ≡ false → (world : World) → EachIs (IsOpenAt world.objects) s.frame.addresses → Matches s.lowered s.own map old world → AreValues map (values_of xs) world.arguments → CallCame s map old world k f None (called_so s of line n xs k old f)
  plain_call_comes plain world opens matches words =
      let none = no_place of old.locals n plain in
      subst (λ (place : Option Value). CallCame s map old world k f place (called_so s of line n xs k old f)) none
      (call_comes world opens matches (subst (λ (o : Option Value). AreValues map (behind_hidden o (values_of xs)) world.arguments) (sym none) words))

  -- and with one, at its place
  pub whole_call_comes : (p : Value) → result_place of old.locals n ≡ Some p → (world : World) → EachIs (IsOpenAt world.objects) s.frame.addresses → Matches s.lowered s.own map old world → AreValues map (p ∷ values_of xs) world.arguments → CallCame s map old world k f (Some p) (called_so s of line n xs k old f)
  whole_call_comes p is world opens matches words =
      subst (λ (place : Option Value). CallCame s map old world k f place (called_so s of line n xs k old f)) is
      (call_comes world opens matches (subst (λ (o : Option Value). AreValues map (behind_hidden o (values_of xs)) world.arguments) (sym is) words))
