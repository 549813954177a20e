-- What is said of a function that agrees, for each call that is never undefined.
use Rattle.std.specs.Prelude.{◌≡◌, ℕ, false, Option, Some, None, List, [], ◌∷◌, refl}
use Rattle.std.proofs.Common.{sym, subst}
use Rattle.lcc_base.specs.Prefixes.{Starts, starts_refl, output_starts}
use Rattle.lcc_base.specs.Traces.{Event}
use Rattle.objects.specs.declared.value.Value.{Value}
use Rattle.forests.specs.Worlds.{Next, To, End, Effect, Went, Exits, Unfinished, Stuck}
use Rattle.c_runs.specs.Laws.{world_of}
use Rattle.c_runs.specs.Outcomes.{Undefined, OutOfTurns, Exit, Result, Gives, GivesNone, Ends}
use Rattle.c_runs.specs.Worlds as c
use Rattle.c_agreement.specs.Pairs.{CallPair, pair_of, source_run, target_run}
use Rattle.c_agreement.specs.CameTo.{Returns, CameTo}
use Rattle.c_agreement.specs.Behind.{IsBehindReturn, IsBehindExit, IsBehindTurns, IsBehind}
use Rattle.c_agreement.specs.Shown.{trace_of, IsShownIn}
use Rattle.c_agreement.specs.Told.{is_undefined, HasReturned, HasExited, EndAlike, ComesAsFar, IsOver}
use Rattle.c_agreement.specs.Laws.{BehindIsShown, AgreeingIsTold}
use Rattle.c_agreement.proofs.lemmas.Ahead.{over_return, over_exit}

-- ---- traces

starts_shown : (a b : List Event) → Starts a b → IsShownIn a b
starts_shown a b h = let out = output_starts a b h in record { rest = out.0; output = out.1; moment = a; reached = h; open_calls = λ before. refl }

same_shown : (a b : List Event) → a ≡ b → IsShownIn a b
same_shown a b e = subst (λ (x : List Event). IsShownIn a x) e (starts_shown a a (starts_refl a))

return_shown : (s : CallPair) (v : Option Value) (old : c.World) (e : Effect) → IsBehindReturn s v old e → IsShownIn (trace_of e) old.trace
return_shown s v old (Went [] p mv) h = absurd h
return_shown s v old (Went (word ∷ []) p Next) h = same_shown p.world.trace old.trace h.later.matches.trace
return_shown s v old (Went (word ∷ []) p (To l)) h = absurd h
return_shown s v old (Went (word ∷ []) p (End x)) h = absurd h
return_shown s v old (Went (word ∷ other ∷ words) p mv) h = absurd h
return_shown s v old (Exits status w) h = absurd h
return_shown s v old (Unfinished w) h = starts_shown w.trace old.trace h
return_shown s v old Stuck h = absurd h

exit_shown : (s : CallPair) (status : ℕ) (old : c.World) (e : Effect) → IsBehindExit s status old e → IsShownIn (trace_of e) old.trace
exit_shown s status old (Went ws p mv) h = absurd h
exit_shown s status old (Exits other w) h = same_shown w.trace old.trace h.1.matches.trace
exit_shown s status old (Unfinished w) h = starts_shown w.trace old.trace h
exit_shown s status old Stuck h = absurd h

going_shown : (old : c.World) (e : Effect) → IsBehindTurns old e → IsShownIn (trace_of e) old.trace
going_shown old (Went ws p mv) h = absurd h
going_shown old (Exits other w) h = absurd h
going_shown old (Unfinished w) h = starts_shown w.trace old.trace h
going_shown old Stuck h = absurd h

shown_by : (s : CallPair) (e : Effect) (r : Result) → is_undefined r ≡ false → IsBehind s e r → IsShownIn (trace_of e) (world_of r).trace
shown_by s e (Gives v turns old) d h = return_shown s (Some v) old e h
shown_by s e (GivesNone line turns old) d h = return_shown s None old e h
shown_by s e (Ends (Undefined cause line) old) d h = absurd (let never : ⊥ = cc in never)
shown_by s e (Ends OutOfTurns old) d h = going_shown old e h
shown_by s e (Ends (Exit status) old) d h = exit_shown s status old e h

pub behind_is_shown : BehindIsShown
behind_is_shown s m r d h = shown_by s (target_run s m) r d h

-- ---- the sentences

comes_to_return : (s : CallPair) (k : ℕ) (v : Option Value) (turns : ℕ) (old : c.World) → Returns s k v turns old → (m : ℕ) × HasReturned s v old (target_run s m)
comes_to_return s k v turns old r = (r.steps, subst (λ (x : Effect). HasReturned s v old x) (sym r.runs) r.returned)

comes_as_far : (s : CallPair) (k : ℕ) (r : Result) → is_undefined r ≡ false → CameTo s k r → (m : ℕ) × ComesAsFar s (target_run s m) r
comes_as_far s k (Gives v turns old) d h = comes_to_return s k (Some v) turns old h
comes_as_far s k (GivesNone line turns old) d h = comes_to_return s k None turns old h
comes_as_far s k (Ends (Undefined cause line) old) d h = absurd (let never : ⊥ = cc in never)
comes_as_far s k (Ends OutOfTurns old) d h = (h.steps, (h.world, h.runs, subst (λ (x : List Event). Starts x h.world.trace) h.seen (starts_refl h.world.trace)))
comes_as_far s k (Ends (Exit status) old) d h = (h.steps, subst (λ (x : Effect). HasExited s status old x) (sym h.runs) (refl, h.later))

never_stuck : (s : CallPair) (e : Effect) (r : Result) → is_undefined r ≡ false → IsBehind s e r → e ≡ Stuck → ⊥
never_stuck s e (Gives v turns old) d h is = subst (λ (x : Effect). IsBehindReturn s (Some v) old x) is h
never_stuck s e (GivesNone line turns old) d h is = subst (λ (x : Effect). IsBehindReturn s None old x) is h
never_stuck s e (Ends (Undefined cause line) old) d h is = let never : ⊥ = cc in never
never_stuck s e (Ends OutOfTurns old) d h is = subst (λ (x : Effect). IsBehindTurns old x) is h
never_stuck s e (Ends (Exit status) old) d h is = subst (λ (x : Effect). IsBehindExit s status old x) is h

not_over : (old : c.World) (e : Effect) → IsOver e → IsBehindTurns old e → ⊥
not_over old (Went ws p mv) over h = h
not_over old (Exits status w) over h = h
not_over old (Unfinished w) over h = over
not_over old Stuck over h = over

end_alike : (s : CallPair) (e : Effect) (r : Result) → is_undefined r ≡ false → IsOver e → IsBehind s e r → EndAlike s e r
end_alike s e (Gives v turns old) d over h = over_return s (Some v) old e over h
end_alike s e (GivesNone line turns old) d over h = over_return s None old e over h
end_alike s e (Ends (Undefined cause line) old) d over h = absurd (let never : ⊥ = cc in never)
end_alike s e (Ends OutOfTurns old) d over h = absurd (not_over old e over h)
end_alike s e (Ends (Exit status) old) d over h = over_exit s status old e over h

pub agreeing_is_told : AgreeingIsTold
agreeing_is_told u l function h a map w is called d =
    let s = pair_of u l a map w in
    record {
      forth = λ k. comes_as_far s k (source_run s k) (d k) (h.came k a map w is called);
      unstuck = λ m. never_stuck s (target_run s m) (source_run s m) (d m) (h.behind m a map w is called);
      shown = λ m. (m, shown_by s (target_run s m) (source_run s m) (d m) (h.behind m a map w is called));
      back = λ m over. (m, end_alike s (target_run s m) (source_run s m) (d m) over (h.behind m a map w is called));
    }
