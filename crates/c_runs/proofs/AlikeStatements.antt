-- The same of statements: two settings whose calls do alike do alike.
use Rattle.std.specs.Prelude.{◌≡◌, ℕ, ◌<◌, ◌≤◌, ◌+◌, ◌==◌, zero, suc, pos, Bool, true, false, Option, Some, None, List, [], ◌∷◌, ◌++◌, slice_get, Result as Checked, Ok, Err, refl}
use Rattle.std.proofs.Common.{ap, sym, ◌∙◌, arith, subst}
use Rattle.lcc_base.specs.declared.cause.Cause.{Cause}
use Rattle.lcc_base.specs.Prefixes.{Starts, starts_refl}
use Rattle.lcc_base.specs.Traces.{Event}
use Rattle.objects.specs.declared.value.Value.{Value}
use Rattle.objects.specs.declared.value.Value.TheVariants.{Number, Pointer, Function}
use Rattle.objects.specs.Objects.{Object}
use Rattle.objects.specs.Pointers.{place_after}
use Rattle.c_types.specs.CType.{CType}
use Rattle.c_meaning.specs.declared.core_stmt.CoreCase.{CoreCase}
use Rattle.c_meaning.specs.CoreTrees.{line_of}
use Rattle.c_meaning.specs.StmtTrees.{FilledOf, StmtOf, StmtsOf}
use Rattle.c_meaning.specs.StmtTrees as stmt
use Rattle.c_meaning.specs.Values.{CoreTree}
use Rattle.c_runs.specs.Worlds.{World, objects, with_objects}
use Rattle.c_runs.specs.Outcomes.{How, Undefined, OutOfTurns, Exit, Result, Gives, GivesNone, Ends, Out, Next, Break, Continue, Return, Goto, Over, then_do, then_go, then_next, looped, switched, spent, catch, either, branch, is_true, truth, if_done}
use Rattle.c_runs.specs.Below.{below}
use Rattle.c_runs.specs.Calls.{Call, Setting}
use Rattle.c_runs.specs.Expressions.{eval, test}
use Rattle.c_runs.specs.Statements.{Entry, Start, At, round, rounds, loop, loop_between, loop_behind, jumps, jump, maybe_dropped, maybe_test, last_and_test, chosen, to_case, switch_on, filled, fill, zeroed_at, initialised, has, any_has, exec, exec_all}
use Rattle.c_runs.specs.Laws.{FallsOut, world_after, behind}
use Rattle.c_runs.proofs.lemmas.Equations.{rounds_are, jumps_are}
use Rattle.c_runs.proofs.Growing.{Grows, GrowsAct, GrowsOut, GrowsOuts, do_grows, go_grows, next_grows, looped_grows, switched_grows, spent_grows, either_grows, done_grows, catch_grows, if_grows}
use Rattle.c_runs.proofs.Alike.{Ahead, Cut, EndsAlike, Goes, Acts, CallsAct, with_calls, acts_less, drop_acts, asked_acts, eval_acts}

-- cut off for want of turns: without more there too, with more no less is shown
abbrev pub CutOut : ℕ → List Event → World → Out → Type 0
CutOut zero before w q = q ≡ Over OutOfTurns (behind before w)
CutOut (suc m) before w q = Starts (before ++ w.trace) (world_after q).trace

abbrev pub OversAlike : Ahead → How → World → Out → Type 0
OversAlike g (Undefined cause line) w q = q ≡ Over (Undefined cause line) (behind g.before w)
OversAlike g OutOfTurns w q = CutOut g.more g.before w q
OversAlike g (Exit status) w q = q ≡ Over (Exit status) (behind g.before w)

abbrev pub OutsAlike : Ahead → Out → Out → Type 0
OutsAlike g (Next k w) q = q ≡ Next (k + g.more) (behind g.before w)
OutsAlike g (Break k w) q = q ≡ Break (k + g.more) (behind g.before w)
OutsAlike g (Continue k w) q = q ≡ Continue (k + g.more) (behind g.before w)
OutsAlike g (Return v line k w) q = q ≡ Return v line (k + g.more) (behind g.before w)
OutsAlike g (Goto l k w) q = q ≡ Goto l (k + g.more) (behind g.before w)
OutsAlike g (Over how w) q = OversAlike g how w q

pub record GoesOut (g : Ahead) (k : ℕ) (o q : Out) : Type 0 where
  pub falls : FallsOut k o
  pub alike : OutsAlike g o q

pub record ActsOut (g : Ahead) (n : ℕ) (act bet : ℕ → World → Out) : Type 0 where
  pub alike : (k : ℕ) (w : World) → k ≤ n → GoesOut g k (act k w) (bet (k + g.more) (behind g.before w))
  pub grows : GrowsOuts bet

-- ---- turns

falls_less : (j k : ℕ) (o : Out) → j ≤ k → FallsOut j o → FallsOut k o
falls_less j k (Next i w) h l = omega (arith, l)
falls_less j k (Break i w) h l = omega (arith, l)
falls_less j k (Continue i w) h l = omega (arith, l)
falls_less j k (Return v line i w) h l = omega (arith, l)
falls_less j k (Goto m i w) h l = omega (arith, l)
falls_less j k (Over how w) h l = tt

goes_less : (g : Ahead) (j k : ℕ) (o q : Out) → j ≤ k → GoesOut g j o q → GoesOut g k o q
goes_less g j k o q h x = record { falls = falls_less j k o h x.falls; alike = x.alike }

pub outs_less : (g : Ahead) (j n : ℕ) (act bet : ℕ → World → Out) → j ≤ n → ActsOut g n act bet → ActsOut g j act bet
outs_less g j n act bet h a = record { alike = λ k w l. a.alike k w (omega (arith, h, l)); grows = a.grows }

-- ---- ends pass

cut_from : (f : Result → Out) → ((how : How) (w : World) → f (Ends how w) ≡ Over how w) → ((es : List Event) (q : Result) → Grows es q → GrowsOut es (f q)) → (m : ℕ) (before : List Event) (w : World) (q : Result) → Cut m before w q → CutOut m before w (f q)
cut_from f p s zero before w q h = ap f h ∙ p OutOfTurns (behind before w)
cut_from f p s (suc m) before w q h = (s (before ++ w.trace) q (record { by = h })).by

ends_from : (f : Result → Out) → ((how : How) (w : World) → f (Ends how w) ≡ Over how w) → ((es : List Event) (q : Result) → Grows es q → GrowsOut es (f q)) → (g : Ahead) (how : How) (w : World) (q : Result) → EndsAlike g how w q → OversAlike g how w (f q)
ends_from f p s g (Undefined cause line) w q h = ap f h ∙ p (Undefined cause line) (behind g.before w)
ends_from f p s g OutOfTurns w q h = cut_from f p s g.more g.before w q h
ends_from f p s g (Exit status) w q h = ap f h ∙ p (Exit status) (behind g.before w)

cut_by : (f : Out → Out) → ((how : How) (w : World) → f (Over how w) ≡ Over how w) → ((es : List Event) (q : Out) → GrowsOut es q → GrowsOut es (f q)) → (m : ℕ) (before : List Event) (w : World) (q : Out) → CutOut m before w q → CutOut m before w (f q)
cut_by f p s zero before w q h = ap f h ∙ p OutOfTurns (behind before w)
cut_by f p s (suc m) before w q h = (s (before ++ w.trace) q (record { by = h })).by

overs_by : (f : Out → Out) → ((how : How) (w : World) → f (Over how w) ≡ Over how w) → ((es : List Event) (q : Out) → GrowsOut es q → GrowsOut es (f q)) → (g : Ahead) (how : How) (w : World) (q : Out) → OversAlike g how w q → OversAlike g how w (f q)
overs_by f p s g (Undefined cause line) w q h = ap f h ∙ p (Undefined cause line) (behind g.before w)
overs_by f p s g OutOfTurns w q h = cut_by f p s g.more g.before w q h
overs_by f p s g (Exit status) w q h = ap f h ∙ p (Exit status) (behind g.before w)

-- ---- combinators

do_goes : (g : Ahead) (k : ℕ) (r q : Result) (go to : Value → ℕ → World → Out) → Goes g k r q → ((v : Value) → ActsOut g k (go v) (to v)) → GoesOut g k (then_do r go) (then_do q to)
do_goes g k (Gives v j w) q go to h a = subst (λ x. GoesOut g k (go v j w) (then_do x to)) (sym h.alike) (goes_less g j k (go v j w) (to v (j + g.more) (behind g.before w)) h.falls ((a v).alike j w h.falls))
do_goes g k (GivesNone line j w) q go to h a = subst (λ x. GoesOut g k (then_do (GivesNone line j w) go) (then_do x to)) (sym h.alike) (record { falls = tt; alike = refl })
do_goes g k (Ends how w) q go to h a =
    record { falls = tt; alike = ends_from (λ x. then_do x to) (λ h1 w1. refl) (λ es x b. do_grows es x to b (λ v. (a v).grows)) g how w q h.alike }

go_goes : (g : Ahead) (k : ℕ) (r q : Result) (go to : ℕ → World → Out) → Goes g k r q → ActsOut g k go to → GoesOut g k (then_go r go) (then_go q to)
go_goes g k (Gives v j w) q go to h a = subst (λ x. GoesOut g k (go j w) (then_go x to)) (sym h.alike) (goes_less g j k (go j w) (to (j + g.more) (behind g.before w)) h.falls (a.alike j w h.falls))
go_goes g k (GivesNone line j w) q go to h a = subst (λ x. GoesOut g k (go j w) (then_go x to)) (sym h.alike) (goes_less g j k (go j w) (to (j + g.more) (behind g.before w)) h.falls (a.alike j w h.falls))
go_goes g k (Ends how w) q go to h a =
    record { falls = tt; alike = ends_from (λ x. then_go x to) (λ h1 w1. refl) (λ es x b. go_grows es x to b a.grows) g how w q h.alike }

next_goes : (g : Ahead) (k : ℕ) (o q : Out) (go to : ℕ → World → Out) → GoesOut g k o q → ActsOut g k go to → GoesOut g k (then_next o go) (then_next q to)
next_goes g k (Next j w) q go to h a = subst (λ x. GoesOut g k (go j w) (then_next x to)) (sym h.alike) (goes_less g j k (go j w) (to (j + g.more) (behind g.before w)) h.falls (a.alike j w h.falls))
next_goes g k (Break j w) q go to h a = record { falls = h.falls; alike = ap (λ x. then_next x to) h.alike }
next_goes g k (Continue j w) q go to h a = record { falls = h.falls; alike = ap (λ x. then_next x to) h.alike }
next_goes g k (Return v line j w) q go to h a = record { falls = h.falls; alike = ap (λ x. then_next x to) h.alike }
next_goes g k (Goto l j w) q go to h a = record { falls = h.falls; alike = ap (λ x. then_next x to) h.alike }
next_goes g k (Over how w) q go to h a =
    record { falls = tt; alike = overs_by (λ x. then_next x to) (λ h1 w1. refl) (λ es x b. next_grows es x to b a.grows) g how w q h.alike }

looped_goes : (g : Ahead) (k : ℕ) (o q : Out) (go to : ℕ → World → Out) → GoesOut g k o q → ActsOut g k go to → GoesOut g k (looped o go) (looped q to)
looped_goes g k (Next j w) q go to h a = subst (λ x. GoesOut g k (go j w) (looped x to)) (sym h.alike) (goes_less g j k (go j w) (to (j + g.more) (behind g.before w)) h.falls (a.alike j w h.falls))
looped_goes g k (Break j w) q go to h a = record { falls = h.falls; alike = ap (λ x. looped x to) h.alike }
looped_goes g k (Continue j w) q go to h a = subst (λ x. GoesOut g k (go j w) (looped x to)) (sym h.alike) (goes_less g j k (go j w) (to (j + g.more) (behind g.before w)) h.falls (a.alike j w h.falls))
looped_goes g k (Return v line j w) q go to h a = record { falls = h.falls; alike = ap (λ x. looped x to) h.alike }
looped_goes g k (Goto l j w) q go to h a = record { falls = h.falls; alike = ap (λ x. looped x to) h.alike }
looped_goes g k (Over how w) q go to h a =
    record { falls = tt; alike = overs_by (λ x. looped x to) (λ h1 w1. refl) (λ es x b. looped_grows es x to b a.grows) g how w q h.alike }

switched_goes : (g : Ahead) (k : ℕ) (o q : Out) → GoesOut g k o q → GoesOut g k (switched o) (switched q)
switched_goes g k (Next j w) q h = record { falls = h.falls; alike = ap switched h.alike }
switched_goes g k (Break j w) q h = record { falls = h.falls; alike = ap switched h.alike }
switched_goes g k (Continue j w) q h = record { falls = h.falls; alike = ap switched h.alike }
switched_goes g k (Return v line j w) q h = record { falls = h.falls; alike = ap switched h.alike }
switched_goes g k (Goto l j w) q h = record { falls = h.falls; alike = ap switched h.alike }
switched_goes g k (Over how w) q h = record { falls = tt; alike = overs_by switched (λ h1 w1. refl) switched_grows g how w q h.alike }

pub done_goes : {A : Type 0} (g : Ahead) (k : ℕ) (c : Checked A Cause) (line : ℕ) (w : World) (go to : A → Out) → ((a : A) → GoesOut g k (go a) (to a)) → GoesOut g k (if_done c line w go) (if_done c line (behind g.before w) to)
done_goes g k (Ok a) line w go to h = h a
done_goes g k (Err cause) line w go to h = record { falls = tt; alike = refl }

cut_spends : (m : ℕ) (before : List Event) (w : World) (to : ℕ → Out) → ((j : ℕ) → GrowsOut (behind before w).trace (to j)) → CutOut m before w (spent m (behind before w) to)
cut_spends zero before w to s = refl
cut_spends (suc m) before w to s = (s m).by

spent_goes : (g : Ahead) (k : ℕ) (w : World) (go to : ℕ → Out) → ((j : ℕ) → j < k → GoesOut g k (go j) (to (j + g.more))) → ((j : ℕ) → GrowsOut (behind g.before w).trace (to j)) → GoesOut g k (spent k w go) (spent (k + g.more) (behind g.before w) to)
spent_goes g zero w go to h s =
    let e : g.more ≡ zero + g.more = omega arith in
    record { falls = tt; alike = subst (λ j. CutOut g.more g.before w (spent j (behind g.before w) to)) e (cut_spends g.more g.before w to s) }
spent_goes g (suc k) w go to h s =
    let e : suc (k + g.more) ≡ suc k + g.more = omega arith in
    subst (λ j. GoesOut g (suc k) (go k) (spent j (behind g.before w) to)) e (h k (omega arith))

-- one of two, where both have the same world
pub choice_goes : (g : Ahead) (k : ℕ) (b : Bool) (go to other rest : ℕ → World → Out) (j : ℕ) (w : World) → GoesOut g k (go j w) (to (j + g.more) (behind g.before w)) → GoesOut g k (other j w) (rest (j + g.more) (behind g.before w)) → GoesOut g k (either b go other j w) (either b to rest (j + g.more) (behind g.before w))
choice_goes g k true go to other rest j w h i = h
choice_goes g k false go to other rest j w h i = i

catch_goto : (g : Ahead) (k : ℕ) (within : ℕ → Bool) (l j : ℕ) (w : World) (go to : ℕ → ℕ → World → Out) → j ≤ k → ((i : ℕ) (w1 : World) → i < k → GoesOut g i (go l i w1) (to l (i + g.more) (behind g.before w1))) → GrowsOuts (to l) → GoesOut g k (catch within (Goto l j w) go) (catch within (Goto l (j + g.more) (behind g.before w)) to)
catch_goto g k within l j w go to b h s =
    choice_goes g k (within l) (λ k1 w1. spent k1 w1 (λ k2. go l k2 w1)) (λ k1 w1. spent k1 w1 (λ k2. to l k2 w1)) (λ k1 w1. Goto l k1 w1) (λ k1 w1. Goto l k1 w1) j w
    (goes_less g j k (spent j w (λ k2. go l k2 w)) (spent (j + g.more) (behind g.before w) (λ k2. to l k2 (behind g.before w))) b
    (spent_goes g j w (λ k2. go l k2 w) (λ k2. to l k2 (behind g.before w)) (λ i c. goes_less g i j (go l i w) (to l (i + g.more) (behind g.before w)) (omega (arith, c)) (h i w (omega (arith, b, c)))) (λ i. s i (behind g.before w))))
    (record { falls = b; alike = refl })

-- a caught goto goes on with fewer turns
catch_goes : (g : Ahead) (k : ℕ) (within : ℕ → Bool) (o q : Out) (go to : ℕ → ℕ → World → Out) → GoesOut g k o q → ((l i : ℕ) (w : World) → i < k → GoesOut g i (go l i w) (to l (i + g.more) (behind g.before w))) → ((l : ℕ) → GrowsOuts (to l)) → GoesOut g k (catch within o go) (catch within q to)
catch_goes g k within (Next j w) q go to h a s = record { falls = h.falls; alike = ap (λ x. catch within x to) h.alike }
catch_goes g k within (Break j w) q go to h a s = record { falls = h.falls; alike = ap (λ x. catch within x to) h.alike }
catch_goes g k within (Continue j w) q go to h a s = record { falls = h.falls; alike = ap (λ x. catch within x to) h.alike }
catch_goes g k within (Return v line j w) q go to h a s = record { falls = h.falls; alike = ap (λ x. catch within x to) h.alike }
catch_goes g k within (Goto l j w) q go to h a s = subst (λ x. GoesOut g k (catch within (Goto l j w) go) (catch within x to)) (sym h.alike) (catch_goto g k within l j w go to h.falls (a l) (s l))
catch_goes g k within (Over how w) q go to h a s =
    record { falls = tt; alike = overs_by (λ x. catch within x to) (λ h1 w1. refl) (λ es x b. catch_grows es within x to b s) g how w q h.alike }

-- ---- acts

do_acts : (g : Ahead) (n : ℕ) (act bet : ℕ → World → Result) (go to : Value → ℕ → World → Out) → Acts g n act bet → ((v : Value) → ActsOut g n (go v) (to v)) → ActsOut g n (λ k w. then_do (act k w) go) (λ k w. then_do (bet k w) to)
do_acts g n act bet go to h a = record {
  alike = λ k w l. do_goes g k (act k w) (bet (k + g.more) (behind g.before w)) go to (h.alike k w l) (λ v. outs_less g k n (go v) (to v) l (a v));
  grows = λ k w. do_grows w.trace (bet k w) to (h.grows k w) (λ v. (a v).grows);
}

go_acts : (g : Ahead) (n : ℕ) (act bet : ℕ → World → Result) (go to : ℕ → World → Out) → Acts g n act bet → ActsOut g n go to → ActsOut g n (λ k w. then_go (act k w) go) (λ k w. then_go (bet k w) to)
go_acts g n act bet go to h a = record {
  alike = λ k w l. go_goes g k (act k w) (bet (k + g.more) (behind g.before w)) go to (h.alike k w l) (outs_less g k n go to l a);
  grows = λ k w. go_grows w.trace (bet k w) to (h.grows k w) a.grows;
}

pub next_acts : (g : Ahead) (n : ℕ) (act bet go to : ℕ → World → Out) → ActsOut g n act bet → ActsOut g n go to → ActsOut g n (λ k w. then_next (act k w) go) (λ k w. then_next (bet k w) to)
next_acts g n act bet go to h a = record {
  alike = λ k w l. next_goes g k (act k w) (bet (k + g.more) (behind g.before w)) go to (h.alike k w l) (outs_less g k n go to l a);
  grows = λ k w. next_grows w.trace (bet k w) to (h.grows k w) a.grows;
}

looped_acts : (g : Ahead) (n : ℕ) (act bet go to : ℕ → World → Out) → ActsOut g n act bet → ActsOut g n go to → ActsOut g n (λ k w. looped (act k w) go) (λ k w. looped (bet k w) to)
looped_acts g n act bet go to h a = record {
  alike = λ k w l. looped_goes g k (act k w) (bet (k + g.more) (behind g.before w)) go to (h.alike k w l) (outs_less g k n go to l a);
  grows = λ k w. looped_grows w.trace (bet k w) to (h.grows k w) a.grows;
}

switched_acts : (g : Ahead) (n : ℕ) (act bet : ℕ → World → Out) → ActsOut g n act bet → ActsOut g n (λ k w. switched (act k w)) (λ k w. switched (bet k w))
switched_acts g n act bet h = record {
  alike = λ k w l. switched_goes g k (act k w) (bet (k + g.more) (behind g.before w)) (h.alike k w l);
  grows = λ k w. switched_grows w.trace (bet k w) (h.grows k w);
}

pub either_acts : (g : Ahead) (n : ℕ) (b : Bool) (go to other rest : ℕ → World → Out) → ActsOut g n go to → ActsOut g n other rest → ActsOut g n (λ k w. either b go other k w) (λ k w. either b to rest k w)
either_acts g n b go to other rest h a = record {
  alike = λ k w l. choice_goes g k b go to other rest k w (h.alike k w l) (a.alike k w l);
  grows = λ k w. either_grows w.trace b to rest k w (h.grows k w) (a.grows k w);
}

branch_acts : (g : Ahead) (n : ℕ) (v : Value) (go to other rest : ℕ → World → Out) → ActsOut g n go to → ActsOut g n other rest → ActsOut g n (λ k w. branch v go other k w) (λ k w. branch v to rest k w)
branch_acts g n v go to other rest h a = either_acts g n (is_true v) go to other rest h a

next_act : (g : Ahead) (n : ℕ) → ActsOut g n (λ k w. Next k w) (λ k w. Next k w)
next_act g n = record { alike = λ k w l. record { falls = omega arith; alike = refl }; grows = λ k w. record { by = starts_refl w.trace } }

break_act : (g : Ahead) (n : ℕ) → ActsOut g n (λ k w. Break k w) (λ k w. Break k w)
break_act g n = record { alike = λ k w l. record { falls = omega arith; alike = refl }; grows = λ k w. record { by = starts_refl w.trace } }

continue_act : (g : Ahead) (n : ℕ) → ActsOut g n (λ k w. Continue k w) (λ k w. Continue k w)
continue_act g n = record { alike = λ k w l. record { falls = omega arith; alike = refl }; grows = λ k w. record { by = starts_refl w.trace } }

goto_act : (g : Ahead) (n l : ℕ) → ActsOut g n (λ k w. Goto l k w) (λ k w. Goto l k w)
goto_act g n l = record { alike = λ k w h. record { falls = omega arith; alike = refl }; grows = λ k w. record { by = starts_refl w.trace } }

return_act : (g : Ahead) (n : ℕ) (v : Option Value) (line : ℕ) → ActsOut g n (λ k w. Return v line k w) (λ k w. Return v line k w)
return_act g n v line = record { alike = λ k w l. record { falls = omega arith; alike = refl }; grows = λ k w. record { by = starts_refl w.trace } }

over_act : (g : Ahead) (n : ℕ) (cause : Cause) (line : ℕ) → ActsOut g n (λ k w. Over (Undefined cause line) w) (λ k w. Over (Undefined cause line) w)
over_act g n cause line = record { alike = λ k w l. record { falls = tt; alike = refl }; grows = λ k w. record { by = starts_refl w.trace } }

-- what is checked in the objects, which then are others
filled_acts : (g : Ahead) (n : ℕ) (c : List Object → Checked (List Object) Cause) (line : ℕ) (go to : ℕ → World → Out) → ActsOut g n go to → ActsOut g n (λ k w. if_done (c (objects w)) line w (λ os. go k (with_objects w os))) (λ k w. if_done (c (objects w)) line w (λ os. to k (with_objects w os)))
filled_acts g n c line go to h = record {
  alike = λ k w l. done_goes g k (c (objects w)) line w (λ os. go k (with_objects w os)) (λ os. to (k + g.more) (with_objects (behind g.before w) os)) (λ os. h.alike k (with_objects w os) l);
  grows = λ k w. done_grows w.trace (c (objects w)) line w (λ os. to k (with_objects w os)) (starts_refl w.trace) (λ os. record { by = (h.grows k (with_objects w os)).by });
}

-- ---- loops

round_acts : (g : Ahead) (n : ℕ) (body bet : ℕ → World → Out) (between among : ℕ → World → Result) (again to : ℕ → World → Out) → ActsOut g n body bet → Acts g n between among → ActsOut g n again to → ActsOut g n (λ k w. looped (body k w) (λ k2 w2. then_do (between k2 w2) (λ v k3 w3. branch v (λ k4 w4. again k4 w4) (λ k4 w4. Next k4 w4) k3 w3))) (λ k w. looped (bet k w) (λ k2 w2. then_do (among k2 w2) (λ v k3 w3. branch v (λ k4 w4. to k4 w4) (λ k4 w4. Next k4 w4) k3 w3)))
round_acts g n body bet between among again to B T A =
    looped_acts g n body bet _ _ B (do_acts g n between among _ _ T (λ v. branch_acts g n v again to _ _ A (next_act g n)))

round_grows : (body : ℕ → World → Out) (between : ℕ → World → Result) (again : ℕ → World → Out) → GrowsOuts body → GrowsAct between → GrowsOuts again → GrowsOuts (λ k w. round body between again k w)
round_grows body between again B T A k w =
    spent_grows k w _ (λ k1. looped_grows w.trace (body k1 w) _ (B k1 w) (λ k2 w2. do_grows w2.trace (between k2 w2) _ (T k2 w2) (λ v k3 w3. either_grows w3.trace (is_true v) _ _ k3 w3 (A k3 w3) (record { by = starts_refl w3.trace }))))

rounds_grow : (body : ℕ → World → Out) (between : ℕ → World → Result) → GrowsOuts body → GrowsAct between → (m : ℕ) → GrowsOuts (λ k w. rounds body between m k w)
unfolding rounds below
rounds_grow body between B T zero k w = record { by = starts_refl w.trace }
rounds_grow body between B T (suc m) k w =
    if_grows w.trace (k == m) (round body between (λ k1 w1. rounds body between m k1 w1) k w) (rounds body between m k w)
    (round_grows body between (λ k1 w1. rounds body between m k1 w1) B T (rounds_grow body between B T m) k w)
    (rounds_grow body between B T m k w)

loop_grows : (body : ℕ → World → Out) (between : ℕ → World → Result) → GrowsOuts body → GrowsAct between → GrowsOuts (λ k w. loop body between k w)
unfolding loop
loop_grows body between B T k w = round_grows body between (λ k1 w1. rounds body between k k1 w1) B T (rounds_grow body between B T k) k w

-- one repetition, where those that follow have fewer turns
round_goes : (g : Ahead) (k : ℕ) (body bet : ℕ → World → Out) (between among : ℕ → World → Result) (again to : ℕ → World → Out) → ActsOut g k body bet → Acts g k between among → ((j : ℕ) (w : World) → j < k → GoesOut g j (again j w) (to (j + g.more) (behind g.before w))) → GrowsOuts to → (w : World) → GoesOut g k (round body between again k w) (round bet among to (k + g.more) (behind g.before w))
round_goes g k body bet between among again to B T A s w =
    spent_goes g k w _ _
    (λ j h. goes_less g j k _ _ (omega (arith, h))
    ((round_acts g j body bet between among again to (outs_less g j k body bet (omega (arith, h)) B) (acts_less g j k between among (omega (arith, h)) T) (record { alike = λ i w1 b. A i w1 (omega (arith, h, b)); grows = s })).alike j w (omega arith)))
    (λ j. looped_grows (behind g.before w).trace (bet j (behind g.before w)) _ (B.grows j (behind g.before w)) (λ k2 w2. do_grows w2.trace (among k2 w2) _ (T.grows k2 w2) (λ v k3 w3. either_grows w3.trace (is_true v) _ _ k3 w3 (s k3 w3) (record { by = starts_refl w3.trace }))))

loop_goes : (g : Ahead) (n : ℕ) (body bet : ℕ → World → Out) (between among : ℕ → World → Result) → ActsOut g n body bet → Acts g n between among → (m k : ℕ) (w : World) → k ≤ n → k ≤ m → GoesOut g k (loop body between k w) (loop bet among (k + g.more) (behind g.before w))
unfolding loop
loop_goes g n body bet between among B T zero k w l b =
    round_goes g k body bet between among (λ k1 w1. rounds body between k k1 w1) (λ k1 w1. rounds bet among (k + g.more) k1 w1) (outs_less g k n body bet l B) (acts_less g k n between among l T)
    (λ j w1 h. absurd (omega (arith, h, b))) (rounds_grow bet among B.grows T.grows (k + g.more)) w
loop_goes g n body bet between among B T (suc m) k w l b =
    round_goes g k body bet between among (λ k1 w1. rounds body between k k1 w1) (λ k1 w1. rounds bet among (k + g.more) k1 w1) (outs_less g k n body bet l B) (acts_less g k n between among l T)
    (λ j w1 h. subst (λ x. GoesOut g j (rounds body between k j w1) x) (sym (rounds_are bet among (k + g.more) (j + g.more) (behind g.before w1) (omega (arith, h))))
    (subst (λ x. GoesOut g j x (loop bet among (j + g.more) (behind g.before w1))) (sym (rounds_are body between k j w1 h)) (loop_goes g n body bet between among B T m j w1 (omega (arith, h, l)) (omega (arith, h, b)))))
    (rounds_grow bet among B.grows T.grows (k + g.more)) w

loop_acts : (g : Ahead) (n : ℕ) (body bet : ℕ → World → Out) (between among : ℕ → World → Result) → ActsOut g n body bet → Acts g n between among → ActsOut g n (λ k w. loop body between k w) (λ k w. loop bet among k w)
loop_acts g n body bet between among B T = record {
  alike = λ k w l. loop_goes g n body bet between among B T k k w l (omega arith);
  grows = loop_grows bet among B.grows T.grows;
}

between_acts : (g : Ahead) (n : ℕ) (body bet : ℕ → World → Out) (between among : ℕ → World → Result) → ActsOut g n body bet → Acts g n between among → ActsOut g n (λ k w. loop_between body between k w) (λ k w. loop_between bet among k w)
between_acts g n body bet between among B T = do_acts g n between among _ _ T (λ v. branch_acts g n v (λ k w. loop body between k w) (λ k w. loop bet among k w) _ _ (loop_acts g n body bet between among B T) (next_act g n))

behind_acts : (g : Ahead) (n : ℕ) (act bet body bodies : ℕ → World → Out) (between among : ℕ → World → Result) → ActsOut g n act bet → ActsOut g n body bodies → Acts g n between among → ActsOut g n (λ k w. loop_behind (act k w) body between) (λ k w. loop_behind (bet k w) bodies among)
behind_acts g n act bet body bodies between among E B T = looped_acts g n act bet _ _ E (between_acts g n body bodies between among B T)

-- ---- gotos

jumps_grow : (within : ℕ → Bool) (body : ℕ → ℕ → World → Out) → ((l : ℕ) → GrowsOuts (body l)) → (m l : ℕ) → GrowsOuts (λ k w. jumps within body m l k w)
unfolding jumps below
jumps_grow within body B zero l k w = record { by = starts_refl w.trace }
jumps_grow within body B (suc m) l k w =
    if_grows w.trace (k == m) (catch within (body l k w) (λ i k1 w1. jumps within body m i k1 w1)) (jumps within body m l k w)
    (catch_grows w.trace within (body l k w) (λ i k1 w1. jumps within body m i k1 w1) (B l k w) (λ i. jumps_grow within body B m i))
    (jumps_grow within body B m l k w)

jump_grows : (within : ℕ → Bool) (body : ℕ → ℕ → World → Out) → ((l : ℕ) → GrowsOuts (body l)) → (l : ℕ) → GrowsOuts (λ k w. jump within body l k w)
unfolding jump
jump_grows within body B l k w = catch_grows w.trace within (body l k w) (λ i k1 w1. jumps within body k i k1 w1) (B l k w) (λ i. jumps_grow within body B k i)

jump_goes : (g : Ahead) (n : ℕ) (within : ℕ → Bool) (body bet : ℕ → ℕ → World → Out) → ((l : ℕ) → ActsOut g n (body l) (bet l)) → (m l k : ℕ) (w : World) → k ≤ n → k ≤ m → GoesOut g k (jump within body l k w) (jump within bet l (k + g.more) (behind g.before w))
unfolding jump
jump_goes g n within body bet B zero l k w h b =
    catch_goes g k within (body l k w) (bet l (k + g.more) (behind g.before w)) (λ i k1 w1. jumps within body k i k1 w1) (λ i k1 w1. jumps within bet (k + g.more) i k1 w1) ((B l).alike k w h)
    (λ i j w1 c. absurd (omega (arith, b, c))) (jumps_grow within bet (λ i. (B i).grows) (k + g.more))
jump_goes g n within body bet B (suc m) l k w h b =
    catch_goes g k within (body l k w) (bet l (k + g.more) (behind g.before w)) (λ i k1 w1. jumps within body k i k1 w1) (λ i k1 w1. jumps within bet (k + g.more) i k1 w1) ((B l).alike k w h)
    (λ i j w1 c. subst (λ x. GoesOut g j (jumps within body k i j w1) x) (sym (jumps_are within bet (k + g.more) i (j + g.more) (behind g.before w1) (omega (arith, c))))
    (subst (λ x. GoesOut g j x (jump within bet i (j + g.more) (behind g.before w1))) (sym (jumps_are within body k i j w1 c)) (jump_goes g n within body bet B m i j w1 (omega (arith, c, h)) (omega (arith, c, b)))))
    (jumps_grow within bet (λ i. (B i).grows) (k + g.more))

block_acts : (g : Ahead) (n : ℕ) (within : ℕ → Bool) (act bet : ℕ → World → Out) (body bodies : ℕ → ℕ → World → Out) → ActsOut g n act bet → ((l : ℕ) → ActsOut g n (body l) (bodies l)) → ActsOut g n (λ k w. catch within (act k w) (λ l k1 w1. jump within body l k1 w1)) (λ k w. catch within (bet k w) (λ l k1 w1. jump within bodies l k1 w1))
block_acts g n within act bet body bodies A B = record {
  alike = λ k w h. catch_goes g k within (act k w) (bet (k + g.more) (behind g.before w)) (λ l k1 w1. jump within body l k1 w1) (λ l k1 w1. jump within bodies l k1 w1) (A.alike k w h)
      (λ l i w1 c. jump_goes g n within body bodies B i l i w1 (omega (arith, c, h)) (omega arith)) (jump_grows within bodies (λ i. (B i).grows));
  grows = λ k w. catch_grows w.trace within (bet k w) (λ l k1 w1. jump within bodies l k1 w1) (A.grows k w) (jump_grows within bodies (λ i. (B i).grows));
}

-- ---- parts of statements

test_acts : (g : Ahead) (n : ℕ) (s : Setting) (d : ℕ → Call → Result) → CallsAct g n s.calls d → (x : CoreTree) → Acts g n (λ k w. test s x k w) (λ k w. test (with_calls s d) x k w)
test_acts g n s d C x = asked_acts g n x (λ k1 w1. eval s x k1 w1) (λ k1 w1. eval (with_calls s d) x k1 w1) (line_of x) (eval_acts g n s d C x)

always_acts : (g : Ahead) (n : ℕ) → Acts g n (λ k w. Gives (truth true) k w) (λ k w. Gives (truth true) k w)
always_acts g n = record { alike = λ k w l. record { falls = omega arith; alike = refl }; grows = λ k w. record { by = starts_refl w.trace } }

maybe_acts : (g : Ahead) (n : ℕ) (s : Setting) (d : ℕ → Call → Result) → CallsAct g n s.calls d → (x : Option CoreTree) → Acts g n (λ k w. maybe_test s x k w) (λ k w. maybe_test (with_calls s d) x k w)
maybe_acts g n s d C None = always_acts g n
maybe_acts g n s d C (Some x) = test_acts g n s d C x

last_acts : (g : Ahead) (n : ℕ) (s : Setting) (d : ℕ → Call → Result) → CallsAct g n s.calls d → (x y : Option CoreTree) → Acts g n (λ k w. last_and_test s x y k w) (λ k w. last_and_test (with_calls s d) x y k w)
last_acts g n s d C None y = maybe_acts g n s d C y
last_acts g n s d C (Some x) y = drop_acts g n (λ k w. eval s x k w) (λ k w. eval (with_calls s d) x k w) _ _ (eval_acts g n s d C x) (maybe_acts g n s d C y)

dropped_acts : (g : Ahead) (n : ℕ) (s : Setting) (d : ℕ → Call → Result) → CallsAct g n s.calls d → (x : Option CoreTree) (go to : ℕ → World → Out) → ActsOut g n go to → ActsOut g n (λ k w. maybe_dropped s x k w go) (λ k w. maybe_dropped (with_calls s d) x k w to)
dropped_acts g n s d C None go to h = h
dropped_acts g n s d C (Some x) go to h = go_acts g n (λ k w. eval s x k w) (λ k w. eval (with_calls s d) x k w) go to (eval_acts g n s d C x) h

case_acts : (g : Ahead) (n : ℕ) (l : Option ℕ) (body bet : ℕ → ℕ → World → Out) → ((l : ℕ) → ActsOut g n (body l) (bet l)) → ActsOut g n (λ k w. to_case l body k w) (λ k w. to_case l bet k w)
case_acts g n None body bet B = next_act g n
case_acts g n (Some l) body bet B = switched_acts g n (body l) (bet l) (B l)

switch_acts : (g : Ahead) (n : ℕ) (v : Value) (cases : List CoreCase) (default : Option ℕ) (body bet : ℕ → ℕ → World → Out) (line : ℕ) → ((l : ℕ) → ActsOut g n (body l) (bet l)) → ActsOut g n (λ k w. switch_on v cases default body line k w) (λ k w. switch_on v cases default bet line k w)
switch_acts g n (Number m) cases default body bet line B = case_acts g n (chosen cases default m) body bet B
switch_acts g n (Pointer o x) cases default body bet line B = over_act g n _ line
switch_acts g n (Function f) cases default body bet line B = over_act g n _ line

pub fill_acts : (g : Ahead) (n : ℕ) (s : Setting) (d : ℕ → Call → Result) → CallsAct g n s.calls d → (base : Value) (ps : List (FilledOf CType)) → ActsOut g n (λ k w. fill s base ps k w) (λ k w. fill (with_calls s d) base ps k w)
fill_acts g n s d C base [] = next_act g n
fill_acts g n s d C base (p ∷ ps) =
    do_acts g n (λ k w. eval s p.value k w) (λ k w. eval (with_calls s d) p.value k w) _ _ (eval_acts g n s d C p.value)
    (λ v. filled_acts g n (λ os. filled s p (place_after base (pos p.offset)) v os) (line_of p.value) (λ k w. fill s base ps k w) (λ k w. fill (with_calls s d) base ps k w) (fill_acts g n s d C base ps))

initialised_goes : (g : Ahead) (n : ℕ) (s : Setting) (d : ℕ → Call → Result) → CallsAct g n s.calls d → (base : Option Value) (clear : Bool) (ps : List (FilledOf CType)) → ActsOut g n (λ k w. initialised s base clear ps k w) (λ k w. initialised (with_calls s d) base clear ps k w)
initialised_goes g n s d C None clear ps = over_act g n _ 0
initialised_goes g n s d C (Some base) false ps = fill_acts g n s d C base ps
initialised_goes g n s d C (Some base) true ps = filled_acts g n (λ os. zeroed_at base os) 0 (λ k w. fill s base ps k w) (λ k w. fill (with_calls s d) base ps k w) (fill_acts g n s d C base ps)

initialised_acts : (g : Ahead) (n : ℕ) (s : Setting) (d : ℕ → Call → Result) → CallsAct g n s.calls d → (local : ℕ) (clear : Bool) (ps : List (FilledOf CType)) → ActsOut g n (λ k w. initialised s (slice_get w.locals local) clear ps k w) (λ k w. initialised (with_calls s d) (slice_get w.locals local) clear ps k w)
initialised_acts g n s d C local clear ps = record {
  alike = λ k w l. (initialised_goes g n s d C (slice_get w.locals local) clear ps).alike k w l;
  grows = λ k w. (initialised_goes g n s d C (slice_get w.locals local) clear ps).grows k w;
}

-- ---- all statements

mutual
  pub exec_acts : (g : Ahead) (n : ℕ) (s : Setting) (d : ℕ → Call → Result) → CallsAct g n s.calls d → (t : StmtOf CType) (e : Entry) → ActsOut g n (λ k w. exec s t e k w) (λ k w. exec (with_calls s d) t e k w)
  exec_acts g n s d C stmt.Nothing e = next_act g n
  exec_acts g n s d C (stmt.Expression x) e = go_acts g n (λ k w. eval s x k w) (λ k w. eval (with_calls s d) x k w) _ _ (eval_acts g n s d C x) (next_act g n)
  exec_acts g n s d C (stmt.Initialise local clear ps) e = initialised_acts g n s d C local clear ps
  exec_acts g n s d C (stmt.Block first locals ts) e =
      block_acts g n (any_has ts) (λ k w. exec_all s ts e k w) (λ k w. exec_all (with_calls s d) ts e k w) (λ m k w. exec_all s ts (At m) k w) (λ m k w. exec_all (with_calls s d) ts (At m) k w) (all_act g n s d C ts e) (λ m. all_act g n s d C ts (At m))
  exec_acts g n s d C (stmt.If x t y) Start = do_acts g n (λ k w. test s x k w) (λ k w. test (with_calls s d) x k w) _ _ (test_acts g n s d C x) (λ v. branch_acts g n v (λ k w. exec s t Start k w) (λ k w. exec (with_calls s d) t Start k w) (λ k w. exec s y Start k w) (λ k w. exec (with_calls s d) y Start k w) (exec_acts g n s d C t Start) (exec_acts g n s d C y Start))
  exec_acts g n s d C (stmt.If x t y) (At l) = either_acts g n (has t l) (λ k w. exec s t (At l) k w) (λ k w. exec (with_calls s d) t (At l) k w) (λ k w. exec s y (At l) k w) (λ k w. exec (with_calls s d) y (At l) k w) (exec_acts g n s d C t (At l)) (exec_acts g n s d C y (At l))
  exec_acts g n s d C (stmt.While x t) Start = between_acts g n (λ k w. exec s t Start k w) (λ k w. exec (with_calls s d) t Start k w) (λ k w. test s x k w) (λ k w. test (with_calls s d) x k w) (exec_acts g n s d C t Start) (test_acts g n s d C x)
  exec_acts g n s d C (stmt.While x t) (At l) = behind_acts g n (λ k w. exec s t (At l) k w) (λ k w. exec (with_calls s d) t (At l) k w) (λ k w. exec s t Start k w) (λ k w. exec (with_calls s d) t Start k w) (λ k w. test s x k w) (λ k w. test (with_calls s d) x k w) (exec_acts g n s d C t (At l)) (exec_acts g n s d C t Start) (test_acts g n s d C x)
  exec_acts g n s d C (stmt.Do t x) Start = loop_acts g n (λ k w. exec s t Start k w) (λ k w. exec (with_calls s d) t Start k w) (λ k w. test s x k w) (λ k w. test (with_calls s d) x k w) (exec_acts g n s d C t Start) (test_acts g n s d C x)
  exec_acts g n s d C (stmt.Do t x) (At l) = behind_acts g n (λ k w. exec s t (At l) k w) (λ k w. exec (with_calls s d) t (At l) k w) (λ k w. exec s t Start k w) (λ k w. exec (with_calls s d) t Start k w) (λ k w. test s x k w) (λ k w. test (with_calls s d) x k w) (exec_acts g n s d C t (At l)) (exec_acts g n s d C t Start) (test_acts g n s d C x)
  exec_acts g n s d C (stmt.For x y z t) Start =
      dropped_acts g n s d C x _ _ (do_acts g n (λ k w. maybe_test s y k w) (λ k w. maybe_test (with_calls s d) y k w) _ _ (maybe_acts g n s d C y)
      (λ v. branch_acts g n v _ _ _ _ (loop_acts g n (λ k w. exec s t Start k w) (λ k w. exec (with_calls s d) t Start k w) (λ k w. last_and_test s z y k w) (λ k w. last_and_test (with_calls s d) z y k w) (exec_acts g n s d C t Start) (last_acts g n s d C z y)) (next_act g n)))
  exec_acts g n s d C (stmt.For x y z t) (At l) = behind_acts g n (λ k w. exec s t (At l) k w) (λ k w. exec (with_calls s d) t (At l) k w) (λ k w. exec s t Start k w) (λ k w. exec (with_calls s d) t Start k w) (λ k w. last_and_test s z y k w) (λ k w. last_and_test (with_calls s d) z y k w) (exec_acts g n s d C t (At l)) (exec_acts g n s d C t Start) (last_acts g n s d C z y)
  exec_acts g n s d C (stmt.Switch x cases default t) Start = do_acts g n (λ k w. eval s x k w) (λ k w. eval (with_calls s d) x k w) _ _ (eval_acts g n s d C x) (λ v. switch_acts g n v cases default (λ l k w. exec s t (At l) k w) (λ l k w. exec (with_calls s d) t (At l) k w) (line_of x) (λ l. exec_acts g n s d C t (At l)))
  exec_acts g n s d C (stmt.Switch x cases default t) (At l) = switched_acts g n (λ k w. exec s t (At l) k w) (λ k w. exec (with_calls s d) t (At l) k w) (exec_acts g n s d C t (At l))
  exec_acts g n s d C (stmt.Label m t) Start = exec_acts g n s d C t Start
  exec_acts g n s d C (stmt.Label m t) (At l) = either_acts g n (l == m) (λ k w. exec s t Start k w) (λ k w. exec (with_calls s d) t Start k w) (λ k w. exec s t (At l) k w) (λ k w. exec (with_calls s d) t (At l) k w) (exec_acts g n s d C t Start) (exec_acts g n s d C t (At l))
  exec_acts g n s d C (stmt.Goto m) e = goto_act g n m
  exec_acts g n s d C stmt.Break e = break_act g n
  exec_acts g n s d C stmt.Continue e = continue_act g n
  exec_acts g n s d C (stmt.Return None) e = return_act g n None 0
  exec_acts g n s d C (stmt.Return (Some x)) e = do_acts g n (λ k w. eval s x k w) (λ k w. eval (with_calls s d) x k w) _ _ (eval_acts g n s d C x) (λ v. return_act g n (Some v) (line_of x))

  pub all_act : (g : Ahead) (n : ℕ) (s : Setting) (d : ℕ → Call → Result) → CallsAct g n s.calls d → (ts : StmtsOf CType) (e : Entry) → ActsOut g n (λ k w. exec_all s ts e k w) (λ k w. exec_all (with_calls s d) ts e k w)
  all_act g n s d C stmt.NoStmt e = next_act g n
  all_act g n s d C (stmt.Stmts t ts) Start = next_acts g n (λ k w. exec s t Start k w) (λ k w. exec (with_calls s d) t Start k w) (λ k w. exec_all s ts Start k w) (λ k w. exec_all (with_calls s d) ts Start k w) (exec_acts g n s d C t Start) (all_act g n s d C ts Start)
  all_act g n s d C (stmt.Stmts t ts) (At l) =
      either_acts g n (has t l) _ _ (λ k w. exec_all s ts (At l) k w) (λ k w. exec_all (with_calls s d) ts (At l) k w)
      (next_acts g n (λ k w. exec s t (At l) k w) (λ k w. exec (with_calls s d) t (At l) k w) (λ k w. exec_all s ts Start k w) (λ k w. exec_all (with_calls s d) ts Start k w) (exec_acts g n s d C t (At l)) (all_act g n s d C ts Start))
      (all_act g n s d C ts (At l))
