-- What the call of forests comes to is ahead of where it is with fewer steps.
use Rattle.std.specs.Prelude.{◌≡◌, ℕ, ◌-◌, Option, Some, None, List, [], ◌∷◌, refl}
use Rattle.std.proofs.Common.{⊎_elim, sym, ap, ◌∙◌, subst, arith}
use Rattle.std.proofs.lemmas.Bool.{cases_lt}
use Rattle.lcc_base.specs.Prefixes.{Starts}
use Rattle.lcc_base.specs.Traces.{Event}
use Rattle.objects.specs.declared.value.Value.{Value}
use Rattle.forests.specs.Begun.{Begins}
use Rattle.forests.specs.Budgets.{with_left}
use Rattle.forests.specs.Further.{Further}
use Rattle.forests.specs.Words.{Word}
use Rattle.forests.specs.Worlds.{World, Point, Move, Next, To, End, Effect, Went, Exits, Unfinished, Stuck}
use Rattle.c_runs.specs.Outcomes.{Undefined, OutOfTurns, Exit, Gives, GivesNone, Ends}
use Rattle.c_runs.specs.Worlds as c
use Rattle.c_agreement.specs.Pairs.{CallPair, pair_of, source_run, target_run}
use Rattle.c_agreement.specs.Results.{Later, Returned}
use Rattle.c_agreement.specs.CameTo.{Returns, ExitsWith}
use Rattle.c_agreement.specs.Behind.{IsBehindReturn, IsBehindExit, IsBehindTurns}
use Rattle.c_agreement.specs.Told.{HasReturned, HasExited, IsOver}
use Rattle.c_agreement.specs.Laws.{ComingIsAhead, EndsAreAlike, ComingSuffices}
use Rattle.c_agreement.proofs.lemmas.Ends.{same_words, same_point, same_move, run_later}

-- an effect with these values and this move
went_as : (P : Effect → Type 0) (word : Word) (ws : List Word) (p : Point) (mv : Move) → ws ≡ word ∷ [] → mv ≡ Next → P (Went (word ∷ []) p Next) → P (Went ws p mv)
went_as P word ws p mv words move h = subst (λ (x : List Word). P (Went x p mv)) (sym words) (subst (λ (x : Move). P (Went (word ∷ []) p x)) (sym move) h)

same_world : {p q : Point} → p ≡ q → q.world ≡ p.world
same_world e = ap (λ (x : Point). x.world) (sym e)

-- what a run that goes on has seen, a longer one has begun with
begun : (w : World) (e f : Effect) → e ≡ f → Begins w.trace e → Begins w.trace f
begun w e f is h = subst (λ (x : Effect). Begins w.trace x) is h

seen_in : (w : World) (a b : List Event) → a ≡ b → Starts w.trace a → Starts w.trace b
seen_in w a b e h = subst (λ (x : List Event). Starts w.trace x) e h

-- ---- before the end

before_return : (s : CallPair) (v : Option Value) (old : c.World) (word : Word) (world : World) (m d left : ℕ) (e f : Effect) → Returned s v old word world → f ≡ Went (word ∷ []) (with_left left world) Next → Further m d e f → IsBehindReturn s v old e
before_return s v old word world m d left (Went ws p mv) f r is h =
    let e = sym h.1 ∙ is in
    went_as (λ (x : Effect). IsBehindReturn s v old x) word ws p mv (same_words e) (same_move e) (subst (λ (x : World). Returned s v old word x) (same_world (same_point e)) r)
before_return s v old word world m d left (Exits status w) f r is h = absurd (let never : ⊥ = cc in never)
before_return s v old word world m d left (Unfinished w) f r is h = seen_in w _ _ r.later.matches.trace (begun w f _ is h.1)
before_return s v old word world m d left Stuck f r is h = absurd (let never : ⊥ = cc in never)

same_status : {a b : ℕ} {w x : World} → Exits a w ≡ Exits b x → a ≡ b
same_status e = cc

same_end : {a b : ℕ} {w x : World} → Exits a w ≡ Exits b x → x ≡ w
same_end e = cc

before_exit : (s : CallPair) (status : ℕ) (old : c.World) (world : World) (m d : ℕ) (e f : Effect) → Later s old world → f ≡ Exits status world → Further m d e f → IsBehindExit s status old e
before_exit s status old world m d (Went ws p mv) f l is h = absurd (let e = h.1 in let never : ⊥ = cc in never)
before_exit s status old world m d (Exits other w) f l is h = let e = sym h ∙ is in (same_status e, subst (λ (x : World). Later s old x) (same_end e) l)
before_exit s status old world m d (Unfinished w) f l is h = seen_in w _ _ l.matches.trace (begun w f _ is h.1)
before_exit s status old world m d Stuck f l is h = absurd (let never : ⊥ = cc in never)

before_going : (old : c.World) (world : World) (m d : ℕ) (e f : Effect) → world.trace ≡ old.trace → f ≡ Unfinished world → Further m d e f → IsBehindTurns old e
before_going old world m d (Went ws p mv) f seen is h = absurd (let e = h.1 in let never : ⊥ = cc in never)
before_going old world m d (Exits status w) f seen is h = absurd (let never : ⊥ = cc in never)
before_going old world m d (Unfinished w) f seen is h = seen_in w _ _ seen (begun w f _ is h.1)
before_going old world m d Stuck f seen is h = absurd (let never : ⊥ = cc in never)

-- ---- behind the end

behind_return : (s : CallPair) (v : Option Value) (old : c.World) (word : Word) (world : World) (m d left : ℕ) (e f : Effect) → Returned s v old word world → e ≡ Went (word ∷ []) (with_left left world) Next → Further m d e f → HasReturned s v old f
behind_return s v old word world m d left e f r is h =
    let g = subst (λ (x : Effect). Further m d x f) is h in subst (λ (x : Effect). HasReturned s v old x) (sym g.1) r

behind_exit : (s : CallPair) (status : ℕ) (old : c.World) (world : World) (m d : ℕ) (e f : Effect) → Later s old world → e ≡ Exits status world → Further m d e f → HasExited s status old f
behind_exit s status old world m d e f l is h =
    let g = subst (λ (x : Effect). Further m d x f) is h in subst (λ (x : Effect). HasExited s status old x) (sym g) (refl, l)

return_is_behind : (s : CallPair) (v : Option Value) (old : c.World) (e : Effect) → HasReturned s v old e → IsBehindReturn s v old e
return_is_behind s v old (Went [] p mv) h = absurd h
return_is_behind s v old (Went (word ∷ []) p Next) h = h
return_is_behind s v old (Went (word ∷ []) p (To l)) h = absurd h
return_is_behind s v old (Went (word ∷ []) p (End x)) h = absurd h
return_is_behind s v old (Went (word ∷ other ∷ words) p mv) h = absurd h
return_is_behind s v old (Exits status w) h = absurd h
return_is_behind s v old (Unfinished w) h = absurd h
return_is_behind s v old Stuck h = absurd h

exit_is_behind : (s : CallPair) (status : ℕ) (old : c.World) (e : Effect) → HasExited s status old e → IsBehindExit s status old e
exit_is_behind s status old (Went ws p mv) h = absurd h
exit_is_behind s status old (Exits other w) h = h
exit_is_behind s status old (Unfinished w) h = absurd h
exit_is_behind s status old Stuck h = absurd h

-- ---- with any number of steps

return_behind : (s : CallPair) (k : ℕ) (v : Option Value) (turns : ℕ) (old : c.World) (m : ℕ) → Returns s k v turns old → IsBehindReturn s v old (target_run s m)
return_behind s k v turns old m r = ⊎_elim
    (λ lt. return_is_behind s v old _ (behind_return s v old r.word r.world r.steps (m - r.steps) 0 _ _ r.returned r.runs (run_later s r.steps m (omega (arith, lt)))))
    (λ ge. before_return s v old r.word r.world m (r.steps - m) 0 _ _ r.returned r.runs (run_later s m r.steps ge))
    (cases_lt r.steps m)

exit_behind : (s : CallPair) (status : ℕ) (old : c.World) (m : ℕ) → ExitsWith s status old → IsBehindExit s status old (target_run s m)
exit_behind s status old m r = ⊎_elim
    (λ lt. exit_is_behind s status old _ (behind_exit s status old r.world r.steps (m - r.steps) _ _ r.later r.runs (run_later s r.steps m (omega (arith, lt)))))
    (λ ge. before_exit s status old r.world m (r.steps - m) _ _ r.later r.runs (run_later s m r.steps ge))
    (cases_lt r.steps m)

pub coming_is_ahead : ComingIsAhead
coming_is_ahead s k m (Gives v turns old) r le = return_behind s k (Some v) turns old m r
coming_is_ahead s k m (GivesNone line turns old) r le = return_behind s k None turns old m r
coming_is_ahead s k m (Ends (Undefined cause line) old) r le = tt
coming_is_ahead s k m (Ends OutOfTurns old) r le = before_going old r.world m (r.steps - m) _ _ r.seen r.runs (run_later s m r.steps (let paid = r.paid in omega (arith, le, paid)))
coming_is_ahead s k m (Ends (Exit status) old) r le = exit_behind s status old m r

pub coming_suffices : ComingSuffices
coming_suffices u l function h = record { came = h; behind = λ m a map w is called. let s = pair_of u l a map w in coming_is_ahead s m m (source_run s m) (h m a map w is called) (omega arith) }

-- ---- where both are over

pub over_return : (s : CallPair) (v : Option Value) (old : c.World) (e : Effect) → IsOver e → IsBehindReturn s v old e → HasReturned s v old e
over_return s v old (Went [] p mv) over h = absurd h
over_return s v old (Went (word ∷ []) p Next) over h = h
over_return s v old (Went (word ∷ []) p (To l)) over h = absurd h
over_return s v old (Went (word ∷ []) p (End x)) over h = absurd h
over_return s v old (Went (word ∷ other ∷ words) p mv) over h = absurd h
over_return s v old (Exits status w) over h = absurd h
over_return s v old (Unfinished w) over h = absurd over
over_return s v old Stuck over h = absurd over

pub over_exit : (s : CallPair) (status : ℕ) (old : c.World) (e : Effect) → IsOver e → IsBehindExit s status old e → HasExited s status old e
over_exit s status old (Went ws p mv) over h = absurd h
over_exit s status old (Exits other w) over h = h
over_exit s status old (Unfinished w) over h = absurd over
over_exit s status old Stuck over h = absurd over

pub ends_are_alike : EndsAreAlike
ends_are_alike s k m (Gives v turns old) r end over = over_return s (Some v) old _ over (return_behind s k (Some v) turns old m r)
ends_are_alike s k m (GivesNone line turns old) r end over = over_return s None old _ over (return_behind s k None turns old m r)
ends_are_alike s k m (Ends (Undefined cause line) old) r end over = absurd end
ends_are_alike s k m (Ends OutOfTurns old) r end over = absurd end
ends_are_alike s k m (Ends (Exit status) old) r end over = over_exit s status old _ over (exit_behind s status old m r)
