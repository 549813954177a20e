-- A function that writes a byte in both agrees: it needs a turn, and writes it then.
use Rattle.std.specs.Prelude.{◌≡◌, ◌≤◌, ℕ, zero, suc, ◌+◌, ◌==◌, true, false, Option, None, List, [], ◌∷◌, length, nat_eq, map as mapped, slice_get, refl}
use Rattle.std.proofs.Common.{sym, ap, ◌∙◌, subst, arith}
use Rattle.std.proofs.lemmas.Option.{same_Some}
use Rattle.std.proofs.lemmas.Bool.{and_parts}
use Rattle.lcc_base.specs.Traces.{Wrote, Opened, Closed}
use Rattle.lcc_base.specs.declared.order.Order.{Order}
use Rattle.objects.specs.declared.value.Value.{Value}
use Rattle.op_forest.specs.Callees.{Body}
use Rattle.forests.specs.Budgets.{with_left}
use Rattle.forests.specs.Functions.{entered, left_behind}
use Rattle.forests.specs.Meaning.{call_of}
use Rattle.forests.specs.Units.{program_of}
use Rattle.forests.specs.Words.{Word, unknown}
use Rattle.forests.specs.Worlds.{World, with_event, Next, Went, Unfinished}
use Rattle.c_types.specs.CType.{CType, Plain as Of, Array, Void, Simple, Pointer, Function, Structure, Union, Enumeration, basic}
use Rattle.c_types.specs.Compatible.{compatible}
use Rattle.c_meaning.specs.Types.{is_record}
use Rattle.c_meaning.specs.Units.{FunctionTree}
use Rattle.c_runs.specs.Calls.{Argument, Call, fits}
use Rattle.c_runs.specs.Outcomes.{OutOfTurns, Result, GivesNone, Ends}
use Rattle.c_runs.specs.Run.{call, calls_below, setting, function_run}
use Rattle.c_runs.specs.Worlds as c
use Rattle.c_match.specs.Ranges.{Map}
use Rattle.c_match_worlds.specs.Matches.{Matches}
use Rattle.c_match_worlds.proofs.lemmas.Calling.{call_opens, call_closes, call_leaves}
use Rattle.c_match_worlds.proofs.lemmas.Keeping.{event_keeps}
use Rattle.c_agreement.specs.Pairs.{pair_of, own_count}
use Rattle.c_agreement.specs.Called.{AreValues, behind_hidden, passed_values, IsCalled}
use Rattle.c_agreement.specs.Results.{Returned}
use Rattle.c_agreement.specs.CameTo.{CameTo}
use Rattle.c_agreement.specs.Agrees.{Comes, Agrees}
use Rattle.c_agreement.proofs.lemmas.Ahead.{coming_suffices}
use Rattle.c_agreement.proofs.examples.SmallUnits.{writing, source, calls_with, target}
use Rattle.c_agreement.proofs.examples.Three.{false_and, no_arguments, no_words, if_true}

-- ---- what a call that fits passes

void_is_plain : (t : CType) → compatible (basic Void) t ≡ true → is_record t ≡ false
void_is_plain (Array of n) h = refl
void_is_plain (Of q (Simple b)) h = refl
void_is_plain (Of q (Pointer to)) h = refl
void_is_plain (Of q (Function result parameters)) h = refl
void_is_plain (Of q (Structure n)) h = absurd (false_and (nat_eq 0 q) h)
void_is_plain (Of q (Union n)) h = absurd (false_and (nat_eq 0 q) h)
void_is_plain (Of q (Enumeration n)) h = refl

writing_fits : (a : Call) (map : Map) (w : World) → a.function ≡ 1 → IsCalled (pair_of source target a map w) → fits writing a ≡ true
writing_fits a map w e h =
    let tree : writing ≡ h.tree = same_Some _ _ (sym (ap (λ (n : ℕ). slice_get source.functions n) e) ∙ h.defined) in
    ap (λ (f : FunctionTree). fits f a) tree ∙ h.fitting

no_argument_words : (a : Call) (map : Map) (w : World) → a.function ≡ 1 → IsCalled (pair_of source target a map w) → w.arguments ≡ []
no_argument_words a map w e h =
    let fit = writing_fits a map w e h in
    let none : a.result ≡ None = h.plain (void_is_plain a.of (and_parts _ _ fit).0) in
    let empty : a.arguments ≡ [] = no_arguments false a.arguments (and_parts _ _ fit).1 in
    let passed : passed_values a ≡ [] = ap (λ (x : Option Value). behind_hidden x (mapped (λ (y : Argument). y.value) a.arguments)) none ∙ ap (λ (xs : List Argument). behind_hidden None (mapped (λ (x : Argument). x.value) xs)) empty in
    no_words map w.arguments (subst (λ (vs : List Value). AreValues map vs w.arguments) passed h.words)

-- ---- the two calls

abbrev old_entered : Call → c.World
old_entered a = c.entered (Opened a.function) a.world

abbrev old_written : Call → c.World
old_written a = c.with_event (old_entered a) (Wrote 65)

source_waits : (order : Order) (a : Call) → a.function ≡ 1 → call source order 0 a ≡ Ends OutOfTurns (old_entered a)
unfolding call
source_waits order a e = ap (λ (x : Option FunctionTree). function_run (setting source order (λ k1 b. calls_below source order 0 k1 b)) x a 0) (ap (λ (n : ℕ). slice_get source.functions n) e)

source_writes : (order : Order) (a : Call) (k : ℕ) → a.function ≡ 1 → call source order (suc k) a ≡ GivesNone a.line k (c.left_behind Closed a.world (old_written a))
unfolding call
source_writes order a k e = ap (λ (x : Option FunctionTree). function_run (setting source order (λ k1 b. calls_below source order (suc k) k1 b)) x a (suc k)) (ap (λ (n : ℕ). slice_get source.functions n) e)

abbrev body : Body
body = record { words = 0; slots = []; roots = calls_with 4 65 }

abbrev new_entered : ℕ → World → World
new_entered n w = entered target.order n body w

abbrev new_written : ℕ → World → World
new_written n w = with_event (new_entered n w) (Wrote 65)

target_waits : (n : ℕ) (w : World) → n ≡ 1 → w.arguments ≡ [] → call_of (program_of target) n (with_left 0 w) ≡ Unfinished (new_entered n w)
target_waits n w e none =
    subst (λ (m : ℕ). call_of (program_of target) m (with_left 0 w) ≡ Unfinished (new_entered m w)) (sym e)
    (if_true (length w.arguments == 0) _ _ (ap (λ (ws : List Word). length ws == 0) none))

target_writes : (n : ℕ) (w : World) → n ≡ 1 → w.arguments ≡ [] → call_of (program_of target) n (with_left 3 w) ≡ Went (unknown ∷ []) (with_left 0 (left_behind w (new_written n w))) Next
target_writes n w e none =
    subst (λ (m : ℕ). call_of (program_of target) m (with_left 3 w) ≡ Went (unknown ∷ []) (with_left 0 (left_behind w (new_written m w))) Next) (sym e)
    (if_true (length w.arguments == 0) _ _ (ap (λ (ws : List Word). length ws == 0) none))

-- ---- they agree

entered_match : (a : Call) (map : Map) (w : World) → Matches target (own_count source) map a.world w → Matches target (own_count source) map (old_entered a) (new_entered a.function w)
entered_match a map w m = (call_opens target (own_count source) map a.world w target.order a.function body m).0

returned : (a : Call) (map : Map) (w : World) → a.function ≡ 1 → Matches target (own_count source) map a.world w
    → Returned (pair_of source target a map w) None (c.left_behind Closed a.world (old_written a)) unknown (left_behind w (new_written a.function w))
returned a map w e m =
    let written = event_keeps target (own_count source) map (old_entered a) (new_entered a.function w) (Wrote 65) (entered_match a map w m) in
    record {
      later = record {
        map = map;
        grown = λ n r is. is;
        matches = call_closes target (own_count source) map map a.world (old_written a) w (new_written a.function w) m written (λ n r is. is) (λ p lt. refl);
      };
      value = λ same. absurd (let one_is_none : ◌≡◌ {A = ℕ} 1 0 = sym e ∙ same in let never : ⊥ = omega (arith, one_is_none) in never);
      left = call_leaves map map a.world (old_entered a) w (new_written a.function w) target.order a.function body (λ place lt h. refl) (λ place lt h. h);
    }

two_more : (k : ℕ) → suc k ≤ 3 + k
two_more k = omega arith

writing_comes : Comes source target 1
writing_comes zero a map w e h =
    subst (λ (r : Result). CameTo (pair_of source target a map w) 0 r) (sym (source_waits target.order a e))
    (record { steps = 0; world = new_entered a.function w; runs = target_waits a.function w e (no_argument_words a map w e h); paid = omega arith; seen = (entered_match a map w h.worlds).trace })
writing_comes (suc k) a map w e h =
    subst (λ (r : Result). CameTo (pair_of source target a map w) (suc k) r) (sym (source_writes target.order a k e))
    (record {
      steps = 3;
      word = unknown;
      world = left_behind w (new_written a.function w);
      runs = target_writes a.function w e (no_argument_words a map w e h);
      paid = two_more k;
      returned = returned a map w e h.worlds;
    })

writing_agrees : Agrees source target 1
writing_agrees = coming_suffices source target 1 writing_comes
