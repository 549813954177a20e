-- A call that begins alike in both comes to the same.
use Rattle.std.specs.Prelude.{◌≡◌, ◌≤◌, ◌<◌, ℕ, zero, suc, Bool, true, false, Option, Some, None, IfSome, [], ◌∷◌, length, slice_get}
use Rattle.std.proofs.Common.{refl, sym, ap, subst, ◌∙◌, arith, inl, inr}
use Rattle.std.proofs.lemmas.Option.{slice_get_within}
use Rattle.objects.specs.declared.purpose.Purpose.TheVariants.{Initialisation}
use Rattle.objects.specs.declared.value.Value.{Value}
use Rattle.forests.specs.Budgets.{with_left}
use Rattle.forests.specs.Functions.{Program}
use Rattle.forests.specs.Meaning.{call_of}
use Rattle.forests.specs.Sound.{IsSoundEffect}
use Rattle.forests.proofs.lemmas.SoundRuns.{calls_sound}
use Rattle.forests.proofs.lemmas.SoundUnits.{program_sound}
use Rattle.forests.specs.Units.{program_of}
use Rattle.forests.specs.Words.{Word}
use Rattle.forests.specs.Worlds.{World, Next}
use Rattle.lcc_base.specs.declared.order.Order.{Order}
use Rattle.c_meaning.specs.declared.built_in.BuiltIn.{BuiltIn}
use Rattle.c_meaning.specs.Each.{EachIs}
use Rattle.c_meaning.specs.Types.{is_record}
use Rattle.c_meaning.specs.Units.{FunctionTree, UnitTree}
use Rattle.c_runs.specs.Calls.{Call, fits, built_in_at, built_in_fits, function_at, called_by, provided}
use Rattle.lcc_base.specs.declared.cause.Cause.TheVariants.{CallMismatch}
use Rattle.c_runs.specs.Laws.{Falls}
use Rattle.c_runs.specs.Locals.{IsPassedCall}
use Rattle.c_runs.specs.Outcomes.{Undefined, OutOfTurns, Exit, Result, Gives, GivesNone, Ends, undefined, either, spend}
use Rattle.c_runs.specs.Run.{call, context}
use Rattle.c_runs.specs.Soundness.{IsSoundValue, IsSoundResult, Keeps, IsTameUnit}
use Rattle.c_runs.specs.Worlds as c
use Rattle.c_runs.proofs.lemmas.AlikeCalls.{here, calls_act}
use Rattle.c_runs.proofs.lemmas.SoundCalls.{call_sound}
use Rattle.c_match.specs.Held.{IsOpenTo}
use Rattle.c_match.specs.Ranges.{Map}
use Rattle.c_match_worlds.specs.Matches.{Matches}
use Rattle.c_pointers_agree.specs.Held.{AreShort}
use Rattle.c_agreement.specs.Agrees.{ComesWith}
use Rattle.c_agreement.specs.Called.{AreValues, passed_values, IsOpenCopy, IsCalled}
use Rattle.c_agreement.specs.CameTo.{CameTo, Returns}
use Rattle.c_agreement.specs.Pairs.{CallPair, pair_of}
use Rattle.c_agreement.specs.Results.{IsCallResult}
use Rattle.c_expr_agreement.specs.Scenes.{Scene}
use Rattle.c_straight_agree.specs.Standing.{IsBody}
use Rattle.c_calls_agree.specs.Given.{IsCallGiven, CallReturned, CallCame}
use Rattle.c_calls_agree.specs.Laws.{CallsCome}
use Rattle.c_calls_agree.specs.Programs.{IsProgram}
use Rattle.c_calls_agree.proofs.lemmas.BuiltIns.{passed_plain, provided_comes, built_in_gives_no_record}
use Rattle.c_calls_agree.proofs.lemmas.Returning.{none_waits_behind, private_stays, object_is_sound}

-- ---- calls in a context

pub context_calls : (u : UnitTree) (order : Order) (j : ℕ) (a : Call) → (context u order).calls j a ≡ call u order j a
unfolding context
context_calls u order j a = refl

call_falls : (u : UnitTree) (order : Order) (j : ℕ) (a : Call) → Falls j (call u order j a)
call_falls u order j a = ((calls_act here u order (suc j)).alike j a (omega arith)).falls

result_by : (u : UnitTree) (a : Call) (b : Bool) → is_record a.of ≡ b → IsPassedCall u a → (is_record a.of ≡ false → a.result ≡ None) → (o : Option Value) → a.result ≡ o → IfSome o (IsSoundValue a.world.storage.made)
result_by u a b e passed plain None is = tt
result_by u a true e passed plain (Some v) is =
    let r = passed.result e in
    let same : r.0 ≡ v = some_same (sym r.1 ∙ is) in
    subst (λ (z : Value). IsSoundValue a.world.storage.made z) same (object_is_sound a.world.storage.made _ a.world.storage.objects r.0 passed.world.objects r.2)
  where
    some_same : {x y : Value} → Some x ≡ Some y → x ≡ y
    some_same h = cc
result_by u a false e passed plain (Some v) is = absurd (let none = plain e in let never : ⊥ = cc in never)

call_is_sound : (u : UnitTree) (order : Order) → IsTameUnit u → (j : ℕ) (a : Call) → IsPassedCall u a → (is_record a.of ≡ false → a.result ≡ None) → IsSoundResult u a.world (call u order j a)
call_is_sound u order tame j a passed plain = (call_sound u order tame j a (record { arguments = passed.values; result = result_by u a (is_record a.of) refl passed plain a.result refl; world = passed.world })).by

-- ---- what was given

given_by : (p : CallPair) (map : Map) (v : Option Value) (w : Word) → IsCallResult p map v w → IsCallGiven p.source.result map v w
given_by p map None w h = tt
given_by p map (Some v) w h = h

module _ (s : Scene) (locals : ℕ) (body : IsBody s locals) (program : IsProgram s) (map : Map) (w : World) (a : Call) (passed : IsPassedCall s.unit a) (plain : is_record a.of ≡ false → a.result ≡ None) (short : AreShort (c.objects a.world)) (matches : Matches s.lowered s.own map a.world w) (words : AreValues map (passed_values a) w.arguments)
    (copies : EachIs (IsOpenCopy map w.objects) a.arguments) (open_result : (v : Value) → a.result ≡ Some v → IsOpenTo Initialisation map w.objects v) where
  abbrev pair : CallPair
  pair = pair_of s.unit s.lowered a map w

  is_called : (f : FunctionTree) → slice_get s.unit.functions a.function ≡ Some f → fits f a ≡ true → IsCalled pair
  is_called f there fit = record {
    tree = f;
    defined = there;
    fitting = fit;
    passed = passed;
    plain = plain;
    short = short;
    worlds = subst (λ (n : ℕ). Matches s.lowered n map a.world w) program.own matches;
    words = words;
    copies = copies;
    result = open_result;
  }

  in_program : (steps : ℕ) → call_of s.body.program a.function (with_left steps w) ≡ call_of (program_of s.lowered) a.function (with_left steps w)
  in_program steps = ap (λ (g : Program). call_of g a.function (with_left steps w)) program.is

  returned : (j i : ℕ) (v : Option Value) (new : c.World) → Returns pair j v i new → Keeps a.world new → i ≤ j → CallReturned s map a.world w (suc j) a.function a.result v i new
  returned j i v new r keeps fewer =
      let runs = in_program r.steps ∙ r.runs in
      let sound = subst IsSoundEffect r.runs (calls_sound (program_of s.lowered) (program_sound s.lowered) a.function (with_left r.steps w) matches.sound) in
      record {
        steps = r.steps;
        word = r.word;
        world = r.world;
        runs = runs;
        paid = (let l = r.paid in omega (arith, l));
        fewer = omega (arith, fewer);
        later = r.returned.later.map;
        grown = r.returned.later.grown;
        matches = subst (λ (n : ℕ). Matches s.lowered n r.returned.later.map new r.world) (sym program.own) r.returned.later.matches;
        locals = keeps.locals;
        given = given_by pair r.returned.later.map v r.word r.returned.value;
        is_word = sound.0.0;
        left = r.returned.left;
        private = λ p private. private_stays map r.returned.later.map r.returned.later.grown (c.objects a.world) (c.objects new) w.objects matches.held keeps.lives p private;
        arguments = none_waits_behind s.body.program a.function (with_left r.steps w) (r.word ∷ []) (with_left 0 r.world) Next runs;
      }

  called_comes : (j : ℕ) (r : Result) → CameTo pair j r → IsSoundResult s.unit a.world r → Falls j r → CallCame s map a.world w (suc j) a.function a.result r
  called_comes j (Gives v i new) h sound falls = returned j i (Some v) new h sound.1.1 falls
  called_comes j (GivesNone line i new) h sound falls = returned j i None new h sound.1 falls
  called_comes j (Ends (Undefined cause line) new) h sound falls = tt
  called_comes j (Ends OutOfTurns new) h sound falls = inl (record { steps = h.steps; world = h.world; runs = in_program h.steps ∙ h.runs; paid = (let l = h.paid in omega (arith, l)); seen = h.seen })
  called_comes j (Ends (Exit status) new) h sound falls = record {
    steps = h.steps;
    world = h.world;
    runs = in_program h.steps ∙ h.runs;
    later = h.later.map;
    grown = h.later.grown;
    matches = subst (λ (n : ℕ). Matches s.lowered n h.later.map new h.world) (sym program.own) h.later.matches;
  }

  -- ---- one of the unit's functions

  own_comes : (f : FunctionTree) → slice_get s.unit.functions a.function ≡ Some f → (fit : Bool) → fits f a ≡ fit → (k : ℕ) → ((j : ℕ) → j < k → (function : ℕ) → function < length s.unit.functions → ComesWith s.unit s.lowered function j)
      → CallCame s map a.world w k a.function a.result (either fit (λ k1 w1. spend k1 w1 (λ k2. (context s.unit s.lowered.order).calls k2 a)) (λ k1 w1. undefined CallMismatch a.line w1) k a.world)
  own_comes f there false fit k callees = tt
  own_comes f there true fit zero callees = inr (refl, matches.trace)
  own_comes f there true fit (suc j) callees =
      subst (λ (r : Result). CallCame s map a.world w (suc j) a.function a.result r) (sym (context_calls s.unit s.lowered.order j a))
      (called_comes j (call s.unit s.lowered.order j a) (callees j (omega arith) a.function (slice_get_within s.unit.functions a.function f there) a map w refl (is_called f there fit))
      (call_is_sound s.unit s.lowered.order body.tame j a passed plain) (call_falls s.unit s.lowered.order j a))

  -- ---- a built-in one

  built_in_comes : (b : BuiltIn) → built_in_at s.unit a.function ≡ Some b → (fit : Bool) → built_in_fits b a.of a.arguments ≡ fit → (k : ℕ)
      → CallCame s map a.world w k a.function a.result (either fit (λ k1 w1. spend k1 w1 (λ k2. provided b a k2)) (λ k1 w1. undefined CallMismatch a.line w1) k a.world)
  built_in_comes b is false fit k = tt
  built_in_comes b is true fit zero = inr (refl, matches.trace)
  built_in_comes b is true fit (suc j) =
      let none = plain (built_in_gives_no_record b a.of a.arguments fit) in
      provided_comes s program map w a matches none (passed_plain a map w.arguments none words) j b is fit

  comes_by : (k : ℕ) → ((j : ℕ) → j < k → (function : ℕ) → function < length s.unit.functions → ComesWith s.unit s.lowered function j) → (o : Option FunctionTree) (b : Option BuiltIn) → function_at s.unit a.function ≡ o → built_in_at s.unit a.function ≡ b
      → CallCame s map a.world w k a.function a.result (called_by (context s.unit s.lowered.order) o b a k a.world)
  comes_by k callees (Some f) b there is = own_comes f there (fits f a) refl k callees
  comes_by k callees None (Some b) there is = built_in_comes b is (built_in_fits b a.of a.arguments) refl k
  comes_by k callees None None there is = tt

pub calls_come : CallsCome
calls_come s locals body program map w k a callees passed plain short matches words copies open_result =
    comes_by s locals body program map w a passed plain short matches words copies open_result k callees (function_at s.unit a.function) (built_in_at s.unit a.function) refl refl
