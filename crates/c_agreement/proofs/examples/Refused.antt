-- Forests that don't agree.
use Rattle.std.specs.Prelude.{◌≡◌, ◌≤◌, ℕ, zero, suc, true, false, Option, Some, None, List, [], ◌∷◌, refl}
use Rattle.std.proofs.Common.{true≢false, sym, ap, ◌∙◌, subst, arith}
use Rattle.std.proofs.lemmas.Option.{same_Some}
use Rattle.lcc_base.specs.Traces.{Wrote, Opened, Closed, Event}
use Rattle.objects.specs.declared.value.Value.{Value}
use Rattle.objects.specs.declared.value.Value.TheVariants.{Number}
use Rattle.objects.specs.declared.byte.Byte.{Byte}
use Rattle.objects.specs.declared.byte.Byte.TheVariants.{Bits}
use Rattle.op_forest.specs.Lowered.{LoweredUnit}
use Rattle.forests.specs.Budgets.{with_left}
use Rattle.forests.specs.Objects.{Object}
use Rattle.forests.specs.Words.{Word, Plain, unknown}
use Rattle.forests.specs.Worlds.{World, Point, Next, Went, Unfinished}
use Rattle.c_meaning.specs.Units.{FunctionTree}
use Rattle.c_runs.specs.Below.{below}
use Rattle.c_runs.specs.Calls.{Call, fits}
use Rattle.c_runs.specs.Outcomes.{OutOfTurns, Result, Gives, GivesNone, Ends}
use Rattle.c_runs.specs.Run.{call, calls_below, context}
use Rattle.c_runs.specs.Samples.{int}
use Rattle.c_runs.specs.Statements.{rounds, loop}
use Rattle.c_agreement.specs.Pairs.{pair_of, source_run, target_run}
use Rattle.c_agreement.specs.Called.{passed_values, IsCalled}
use Rattle.c_agreement.specs.Agrees.{Agrees}
use Rattle.c_agreement.specs.Results.{Later, IsCallResult, Returned}
use Rattle.c_agreement.specs.CameTo.{Returns, GoesOn, CameTo}
use Rattle.c_agreement.specs.Behind.{IsBehind}
use Rattle.c_agreement.specs.Shown.{IsShownIn}
use Rattle.c_agreement.proofs.lemmas.Ends.{same_point}
use Rattle.c_agreement.proofs.examples.SmallUnits.{source, target, three, old, new, call_to, gives_back, calls_with, lowered_of, pair_at}
use Rattle.c_agreement.proofs.examples.SmallCalls.{old_seen, new_with, main_called}

-- main gives 4, write writes another byte, leave returns, and turn returns
abbrev wrong : LoweredUnit
wrong = lowered_of (gives_back 4) (calls_with 4 66) [] []

abbrev record_of : ℕ → ℕ → Object
record_of known bits = record { made = 0; constant = false; bytes = Bits known bits ∷ [] }

-- ---- another value

main_gives : (k : ℕ) → source_run (pair_at wrong 0) k ≡ Gives (Number 3) k (old_seen (Opened 0 ∷ Closed ∷ []))
unfolding context call calls_below below
main_gives k = refl

four_is_given : (steps : ℕ) (word : Word) (world : World) → target_run (pair_at wrong 0) steps ≡ Went (word ∷ []) (with_left 0 world) Next → word ≡ Plain (Number 4)
four_is_given zero word world e = absurd (let never : ⊥ = cc in never)
four_is_given (suc n) word world e = cc

apart : {m n : ℕ} → Plain (Number m) ≡ Plain (Number n) → m ≡ n
apart e = cc

same_value : {k j m n : ℕ} → ◌≡◌ {A = List (Byte Word)} (Bits k m ∷ []) (Bits j n ∷ []) → m ≡ n
same_value e = cc

same_bits : {k j m n : ℕ} → Some (record_of k m) ≡ Some (record_of j n) → m ≡ n
same_bits e = same_value (ap (λ (x : Object). x.bytes) (same_Some _ _ e))

another_value : (k : ℕ) → CameTo (pair_at wrong 0) k (source_run (pair_at wrong 0) k) → ⊥
another_value k h =
    let r : Returns (pair_at wrong 0) k _ k _ = subst (λ (x : Result). CameTo (pair_at wrong 0) k x) (main_gives k) h in
    let e = sym (four_is_given r.steps r.word r.world r.runs) ∙ r.returned.value in
    let same = apart e in
    let never : ⊥ = omega (arith, same) in never

-- so main doesn't agree
no_agreement : Agrees source wrong 0 → ⊥
no_agreement h = another_value 0 (h.came 0 (call_to 0) (λ m. None) new refl (main_called (gives_back 4) (calls_with 4 66) [] []))

-- main gives 0 where it gives no value, and no other word
main_without_value : IsCallResult (pair_at wrong 0) (λ m. None) None (Plain (Number 1)) → ⊥
main_without_value h = let same = apart (h refl) in let never : ⊥ = omega (arith, same) in never

-- ---- another byte

write_gives : source_run (pair_at wrong 1) 1 ≡ GivesNone 9 0 (old_seen (Opened 1 ∷ Wrote 65 ∷ Closed ∷ []))
unfolding context call calls_below below
write_gives = refl

other_is_written : (steps : ℕ) (word : Word) (world : World) → target_run (pair_at wrong 1) steps ≡ Went (word ∷ []) (with_left 0 world) Next → world.trace ≡ Opened 1 ∷ Wrote 66 ∷ Closed ∷ []
other_is_written zero word world e = absurd (let never : ⊥ = cc in never)
other_is_written (suc zero) word world e = absurd (let never : ⊥ = cc in never)
other_is_written (suc (suc zero)) word world e = absurd (let never : ⊥ = cc in never)
other_is_written (suc (suc (suc n))) word world e = sym (ap (λ (p : Point). p.world.trace) (same_point e))

same_byte : {m n : ℕ} {a b c d : Event} → (a ∷ Wrote m ∷ b ∷ []) ≡ (c ∷ Wrote n ∷ d ∷ []) → m ≡ n
same_byte e = cc

another_byte : CameTo (pair_at wrong 1) 1 (source_run (pair_at wrong 1) 1) → ⊥
another_byte h =
    let r : Returns (pair_at wrong 1) 1 _ 0 _ = subst (λ (x : Result). CameTo (pair_at wrong 1) 1 x) write_gives h in
    let e = sym (other_is_written r.steps r.word r.world r.runs) ∙ r.returned.later.matches.trace in
    let same : ◌≡◌ {A = ℕ} 66 65 = same_byte e in
    let never : ⊥ = omega (arith, same) in never

-- ---- an end where C goes on

turn_goes_on : source_run (pair_at wrong 3) 2 ≡ Ends OutOfTurns (old_seen (Opened 3 ∷ []))
unfolding context call calls_below below rounds loop
turn_goes_on = refl

it_ends : (steps : ℕ) (world : World) → 2 ≤ steps → target_run (pair_at wrong 3) steps ≡ Unfinished world → ⊥
it_ends zero world le e = let never : ⊥ = omega arith in never
it_ends (suc n) world le e = let never : ⊥ = cc in never

an_end : CameTo (pair_at wrong 3) 2 (source_run (pair_at wrong 3) 2) → ⊥
an_end h =
    let r : GoesOn (pair_at wrong 3) 2 _ = subst (λ (x : Result). CameTo (pair_at wrong 3) 2 x) turn_goes_on h in
    it_ends r.steps r.world r.paid r.runs

-- in the other direction, too
not_behind : IsBehind (pair_at wrong 3) (target_run (pair_at wrong 3) 2) (source_run (pair_at wrong 3) 2) → ⊥
not_behind h = subst (λ (x : Result). IsBehind (pair_at wrong 3) (target_run (pair_at wrong 3) 2) x) turn_goes_on h

-- ---- calls that don't begin alike

-- an argument word too many
too_many_words : IsCalled (pair_of source target (call_to 0) (λ m. None) (new_with (unknown ∷ []) [])) → ⊥
too_many_words h = h.words

-- and one for a call that doesn't fit
abbrev call_with : Option Value → Call
call_with result = record { function = 0; arguments = record { value = Number 5; of = int; line = 1 } ∷ []; of = int; result = result; line = 1; world = old }

too_many_arguments : IsCalled (pair_of source target (call_with None) (λ m. None) (new_with (Plain (Number 5) ∷ []) [])) → ⊥
too_many_arguments h =
    let same : three ≡ h.tree = same_Some _ _ h.defined in
    let fit : false ≡ true = ap (λ (f : FunctionTree). fits f (call_with None)) same ∙ h.fitting in
    true≢false (sym fit)

-- the object for a result stands before the arguments
first_passed : passed_values (call_with (Some (Number 9))) ≡ Number 9 ∷ Number 5 ∷ []
first_passed = refl

-- ---- ends that don't stand for C's

-- an object that holds nothing of C is changed
abbrev with_byte : ℕ → World
with_byte bits = record { objects = record_of 255 bits ∷ []; made = 1; arguments = []; input = []; trace = [] }

private_is_changed : Returned (pair_of source target (call_to 0) (λ m. None) (with_byte 1)) (Some (Number 3)) old (Plain (Number 3)) (with_byte 2) → ⊥
private_is_changed h =
    let e = h.left 0 (omega arith) (λ p x r f g i. let never : ⊥ = cc in never) in
    let same : ◌≡◌ {A = ℕ} 2 1 = same_bits e in
    let never : ⊥ = omega (arith, same) in never

-- more was seen
seen_more : Later (pair_at target 0) (old_seen (Closed ∷ [])) new → ⊥
seen_more h = let e = h.matches.trace in let never : ⊥ = cc in never

-- ---- traces

-- output that C's doesn't have
more_written : IsShownIn (Wrote 65 ∷ []) [] → ⊥
more_written h = let e = h.output in let never : ⊥ = cc in never

-- what is written in between is less
less_written : IsShownIn (Opened 1 ∷ Wrote 65 ∷ []) (Opened 1 ∷ Wrote 65 ∷ Closed ∷ [])
less_written = record { rest = []; output = refl; moment = Opened 1 ∷ []; reached = (Wrote 65 ∷ Closed ∷ [], refl); open_calls = λ before. refl }
