-- A function that returns 3 in both agrees, whatever lives and whoever calls it.
use Rattle.std.specs.Prelude.{◌≡◌, ◌≤◌, ℕ, suc, ◌+◌, ◌==◌, Bool, true, false, Option, Some, None, List, [], ◌∷◌, ◌&&◌, length, nat_eq, map as mapped, slice_get, refl, if◌then◌else◌}
use Rattle.std.proofs.Common.{true≢false, sym, ap, ◌∙◌, subst, arith}
use Rattle.std.proofs.lemmas.Option.{same_Some}
use Rattle.std.proofs.lemmas.Bool.{and_parts}
use Rattle.lcc_base.specs.Traces.{Opened, Closed}
use Rattle.lcc_base.specs.declared.order.Order.{Order}
use Rattle.objects.specs.declared.value.Value.{Value}
use Rattle.objects.specs.declared.value.Value.TheVariants.{Number}
use Rattle.op_forest.specs.Callees.{Body}
use Rattle.forests.specs.Budgets.{with_left}
use Rattle.forests.specs.Functions.{entered, left_behind}
use Rattle.forests.specs.Meaning.{call_of}
use Rattle.forests.specs.Units.{program_of}
use Rattle.forests.specs.Words.{Word, Plain}
use Rattle.forests.specs.Worlds.{World, Next, Went}
use Rattle.c_types.specs.CType.{CType, Plain as Of, Array, Simple, Pointer, Function, Structure, Union, Enumeration}
use Rattle.c_types.specs.Compatible.{compatible}
use Rattle.c_meaning.specs.Types.{is_record}
use Rattle.c_meaning.specs.Units.{FunctionTree}
use Rattle.c_runs.specs.Calls.{Argument, Call, arguments_fit, fits, handed}
use Rattle.c_runs.specs.Outcomes.{Result, Gives}
use Rattle.c_runs.specs.Run.{call, calls_below, setting, function_run}
use Rattle.c_runs.specs.Samples.{int}
use Rattle.c_runs.specs.Worlds as c
use Rattle.c_match.specs.Ranges.{Map}
use Rattle.c_match_worlds.specs.Matches.{Matches}
use Rattle.c_match_worlds.proofs.lemmas.Calling.{call_opens, call_closes, call_leaves}
use Rattle.c_agreement.specs.Pairs.{pair_of, own_count}
use Rattle.c_agreement.specs.Called.{AreValues, behind_hidden, passed_values, IsCalled}
use Rattle.c_agreement.specs.Results.{IsGiven, Returned}
use Rattle.c_agreement.specs.CameTo.{CameTo}
use Rattle.c_agreement.specs.Agrees.{Comes, Agrees}
use Rattle.c_agreement.specs.Told.{is_undefined, IsTold}
use Rattle.c_agreement.proofs.lemmas.Sentences.{agreeing_is_told}
use Rattle.c_agreement.proofs.lemmas.Ahead.{coming_suffices}
use Rattle.c_agreement.proofs.examples.SmallUnits.{three, source, gives_back, target}

-- ---- what a call that fits passes

pub false_and : (b : Bool) → (b && false) ≡ true → ⊥
false_and b h = true≢false (sym (and_parts b false h).1)

int_is_plain : (t : CType) → compatible int t ≡ true → is_record t ≡ false
int_is_plain (Array of n) h = refl
int_is_plain (Of q (Simple b)) h = refl
int_is_plain (Of q (Pointer to)) h = refl
int_is_plain (Of q (Function result parameters)) h = refl
int_is_plain (Of q (Structure n)) h = absurd (false_and (nat_eq 0 q) h)
int_is_plain (Of q (Union n)) h = absurd (false_and (nat_eq 0 q) h)
int_is_plain (Of q (Enumeration n)) h = refl

pub no_arguments : (old : Bool) (xs : List Argument) → arguments_fit old [] xs ≡ true → xs ≡ []
no_arguments old [] h = refl
no_arguments old (x ∷ xs) h = absurd (let never : ⊥ = cc in never)

pub no_words : (map : Map) (ws : List Word) → AreValues map [] ws → ws ≡ []
no_words map [] h = refl
no_words map (w ∷ ws) h = absurd h

-- ---- the two calls

source_is : (order : Order) (a : Call) (k : ℕ) → a.function ≡ 0 → a.result ≡ None → call source order k a ≡ Gives (Number 3) k (c.left_behind Closed a.world (c.entered (Opened a.function) a.world))
unfolding call
source_is order a k e r =
    ap (λ (x : Option FunctionTree). function_run (setting source order (λ k1 b. calls_below source order k k1 b)) x a k) (ap (λ (n : ℕ). slice_get source.functions n) e)
    ∙ ap (λ (x : Option Value). handed source.tags a.of x (Number 3) 1 k a.world (c.entered (Opened a.function) a.world)) r

abbrev body : Body
body = record { words = 0; slots = []; roots = gives_back 3 }

pub if_true : {A : Type 0} (b : Bool) (x y : A) → b ≡ true → (if b then x else y) ≡ x
if_true true x y h = refl
if_true false x y h = absurd (let never : ⊥ = cc in never)

target_is : (n left : ℕ) (w : World) → n ≡ 0 → w.arguments ≡ [] → call_of (program_of target) n (with_left (suc left) w) ≡ Went (Plain (Number 3) ∷ []) (with_left left (left_behind w (entered target.order n body w))) Next
target_is n left w e none =
    subst (λ (m : ℕ). call_of (program_of target) m (with_left (suc left) w) ≡ Went (Plain (Number 3) ∷ []) (with_left left (left_behind w (entered target.order m body w))) Next) (sym e)
    (if_true (length w.arguments == 0) _ _ (ap (λ (ws : List Word). length ws == 0) none))

-- ---- they agree

returned : (a : Call) (map : Map) (w : World) → a.result ≡ None → Matches target (own_count source) map a.world w
    → Returned (pair_of source target a map w) (Some (Number 3)) (c.left_behind Closed a.world (c.entered (Opened a.function) a.world)) (Plain (Number 3)) (left_behind w (entered target.order a.function body w))
returned a map w none m =
    let opens = call_opens target (own_count source) map a.world w target.order a.function body m in
    record {
      later = record {
        map = map;
        grown = λ n r e. e;
        matches = call_closes target (own_count source) map map a.world (c.entered (Opened a.function) a.world) w (entered target.order a.function body w) m opens.0 (λ n r e. e) (λ p lt. refl);
      };
      value = subst (λ (x : Option Value). IsGiven x map (Number 3) (Plain (Number 3))) (sym none) refl;
      left = call_leaves map map a.world (c.entered (Opened a.function) a.world) w (entered target.order a.function body w) target.order a.function body (λ place lt h. refl) (λ place lt h. h);
    }

three_fits : (a : Call) (map : Map) (w : World) → a.function ≡ 0 → IsCalled (pair_of source target a map w) → fits three a ≡ true
three_fits a map w e h =
    let tree : three ≡ h.tree = same_Some _ _ (sym (ap (λ (n : ℕ). slice_get source.functions n) e) ∙ h.defined) in
    ap (λ (f : FunctionTree). fits f a) tree ∙ h.fitting

one_more : (k : ℕ) → k ≤ 1 + k
one_more k = omega arith

three_comes : Comes source target 0
three_comes k a map w e h =
    let fit = three_fits a map w e h in
    let none : a.result ≡ None = h.plain (int_is_plain a.of (and_parts _ _ fit).0) in
    let empty : a.arguments ≡ [] = no_arguments true a.arguments (and_parts _ _ fit).1 in
    let passed : passed_values a ≡ [] = ap (λ (x : Option Value). behind_hidden x (mapped (λ (y : Argument). y.value) a.arguments)) none ∙ ap (λ (xs : List Argument). behind_hidden None (mapped (λ (x : Argument). x.value) xs)) empty in
    let words : w.arguments ≡ [] = no_words map w.arguments (subst (λ (vs : List Value). AreValues map vs w.arguments) passed h.words) in
    subst (λ (r : Result). CameTo (pair_of source target a map w) k r) (sym (source_is target.order a k e none))
    (record {
      steps = 1;
      word = Plain (Number 3);
      world = left_behind w (entered target.order a.function body w);
      runs = target_is a.function 0 w e words;
      paid = one_more k;
      returned = returned a map w none h.worlds;
    })

three_agrees : Agrees source target 0
three_agrees = coming_suffices source target 0 three_comes

-- its call is never undefined, so all is told of it
three_is_told : (a : Call) (map : Map) (w : World) → a.function ≡ 0 → IsCalled (pair_of source target a map w) → IsTold (pair_of source target a map w)
three_is_told a map w e h = agreeing_is_told source target 0 three_agrees a map w e h (λ k. ap is_undefined (source_is target.order a k e (h.plain (int_is_plain a.of (and_parts _ _ (three_fits a map w e h)).0))))
