-- Lemmas: a run with more steps: what is over stays, with the rest of the steps; what was unfinished has begun with the same
-- trace; what is stuck stays.
use Rattle.std.specs.Prelude.{◌≡◌, ℕ, zero, suc, ◌+◌, ◌<◌, ◌≤◌, ◌==◌, Bool, true, false, Option, Some, None, List, [], ◌∷◌, length, if◌then◌else◌}
use Rattle.std.proofs.Common.{refl, sym, ap, ◌∙◌, subst, arith}
use Rattle.op_forest.specs.Nodes.{Head, Node, Leaf, One, Two}
use Rattle.forests.specs.Words.{Word, Plain}
use Rattle.forests.specs.Worlds.{World, Point, Move, Next, To, End, Effect, Went, Exits, Unfinished, Stuck, then_do, Outcome, Finished, Exited, Going, Failed, goes}
use Rattle.op_forest.specs.Labels.{behind}
use Rattle.op_forest.specs.Callees.{Body, BuiltIn, Putchar, Getchar, Exit, Callee, Defined, Provided, Missing}
use Rattle.objects.specs.declared.value.Value.TheVariants.{Number}
use Rattle.forests.specs.Bodies.{Setting, does, evaluate, at_label, follow, act}
use Rattle.forests.specs.Functions.{Program, entered, answered, put_character, get_character, exit_with, provided, setting_of, call_by}
use Rattle.forests.specs.Meaning.{counted_run, counted_call, call_of}
use Rattle.forests.specs.Budgets.{with_left, with_more, with_calls}
use Rattle.forests.specs.Actions.{Calls, Action, Gave, Stored, Passed, Called, Moved, Meaningless, handed, effect_of}
use Rattle.forests.specs.Rows.{acts}
use Rattle.forests.specs.Begun.{Begins, BeginsIn, CallsGrow}
use Rattle.forests.proofs.lemmas.Begun.{then_begins, handed_begins, goes_begins, follow_begins, answered_begins, does_begins, evaluate_begins, counted_begins, counted_call_begins}
use Rattle.forests.specs.Further.{Further, FurtherIn, CallsFurther}

further_more : (left less d : ℕ) (e1 e2 : Effect) → less ≤ left → Further less d e1 e2 → Further left d e1 e2
further_more left less d (Went ws p mv) e2 le h = (omega (arith, h.0, le), h.1)
further_more left less d (Exits status w) e2 le h = h
further_more left less d (Unfinished w) e2 le h = h
further_more left less d Stuck e2 le h = h

further_in_more : (left less d : ℕ) (e1 e2 : Outcome) → less ≤ left → FurtherIn less d e1 e2 → FurtherIn left d e1 e2
further_in_more left less d (Finished v p) e2 le h = (omega (arith, h.0, le), h.1)
further_in_more left less d (Exited status w) e2 le h = h
further_in_more left less d (Going w) e2 le h = h
further_in_more left less d Failed e2 le h = h

then_further : (left d : ℕ) (e1 e2 : Effect) (go1 go2 : List Word → Point → Effect) → Further left d e1 e2 → ((ws : List Word) (p : Point) → p.left ≤ left → Further p.left d (go1 ws p) (go2 ws (with_more d p))) → ((ws : List Word) (p : Point) → Begins p.world.trace (go2 ws p)) → Further left d (then_do e1 go1) (then_do e2 go2)
then_further left d (Went ws p Next) e2 go1 go2 h next grow = subst (λ e. Further left d (go1 ws p) (then_do e go2)) (sym h.1) (further_more left p.left d (go1 ws p) (go2 ws (with_more d p)) h.0 (next ws p h.0))
then_further left d (Went ws p (To l)) e2 go1 go2 h next grow = ap (λ e. then_do e go2) h.1
then_further left d (Went ws p (End v)) e2 go1 go2 h next grow = ap (λ e. then_do e go2) h.1
then_further left d (Exits status w) e2 go1 go2 h next grow = ap (λ e. then_do e go2) h
then_further left d (Unfinished w) e2 go1 go2 h next grow = (λ z. ap (λ e. then_do e go2) (h.0 z), then_begins w.trace e2 go2 h.1 grow)
then_further left d Stuck e2 go1 go2 h next grow = ap (λ e. then_do e go2) h

goes_further : (left d : ℕ) (e1 e2 : Effect) (go1 go2 : List Word → Point → Move → Outcome) → Further left d e1 e2 → ((ws : List Word) (p : Point) (mv : Move) → p.left ≤ left → FurtherIn p.left d (go1 ws p mv) (go2 ws (with_more d p) mv)) → ((ws : List Word) (p : Point) (mv : Move) → BeginsIn p.world.trace (go2 ws p mv)) → FurtherIn left d (goes e1 go1) (goes e2 go2)
goes_further left d (Went ws p mv) e2 go1 go2 h next grow = subst (λ e. FurtherIn left d (go1 ws p mv) (goes e go2)) (sym h.1) (further_in_more left p.left d (go1 ws p mv) (go2 ws (with_more d p) mv) h.0 (next ws p mv h.0))
goes_further left d (Exits status w) e2 go1 go2 h next grow = ap (λ e. goes e go2) h
goes_further left d (Unfinished w) e2 go1 go2 h next grow = (λ z. ap (λ e. goes e go2) (h.0 z), goes_begins w.trace e2 go2 h.1 grow)
goes_further left d Stuck e2 go1 go2 h next grow = ap (λ e. goes e go2) h

label_further : (left d : ℕ) (x : Option (List Node)) (go1 go2 : List Node → Outcome) → ((ts : List Node) → FurtherIn left d (go1 ts) (go2 ts)) → FurtherIn left d (at_label x go1) (at_label x go2)
label_further left d None go1 go2 h = refl
label_further left d (Some ts) go1 go2 h = h ts

follow_further : (d : ℕ) (whole rest : List Node) (mv : Move) (p : Point) (go1 go2 : List Node → Outcome) → ((ts : List Node) → FurtherIn p.left d (go1 ts) (go2 ts)) → FurtherIn p.left d (follow whole rest mv p go1) (follow whole rest mv (with_more d p) go2)
follow_further d whole rest Next p go1 go2 h = h rest
follow_further d whole rest (To l) p go1 go2 h = label_further p.left d (behind l whole) go1 go2 h
follow_further d whole rest (End v) p go1 go2 h = (omega arith, refl)

answered_further : (left d : ℕ) (before : World) (r1 r2 : Outcome) → FurtherIn left d r1 r2 → Further left d (answered before r1) (answered before r2)
answered_further left d before (Finished v p) r2 h = (h.0, ap (answered before) h.1)
answered_further left d before (Exited status w) r2 h = ap (answered before) h
answered_further left d before (Going w) r2 h = (λ z. ap (answered before) (h.0 z), answered_begins w.trace before r2 h.1)
answered_further left d before Failed r2 h = ap (answered before) h

if_further : (left d : ℕ) (b : Bool) (e1 e2 : Effect) → Further left d e1 e2 → Further left d (if b then e1 else Stuck) (if b then e2 else Stuck)
if_further left d true e1 e2 h = h
if_further left d false e1 e2 h = refl

handed_further : (d : ℕ) (valued : Bool) (ws : List Word) (p : Point) → Further p.left d (handed valued ws p) (handed valued ws (with_more d p))
handed_further d valued [] p = refl
handed_further d true (w ∷ ws) p = (omega arith, refl)
handed_further d false (w ∷ ws) p = (omega arith, refl)

action_further : (c1 c2 : Calls) (d : ℕ) (x : Action) (p : Point) → ((name : ℕ) → Further p.left d (c1 name p) (c2 name (with_more d p))) → Further p.left d (effect_of c1 x p) (effect_of c2 x (with_more d p))
action_further c1 c2 d (Gave v) p h = (omega arith, refl)
action_further c1 c2 d (Stored objects) p h = (omega arith, refl)
action_further c1 c2 d (Passed w) p h = (omega arith, refl)
action_further c1 c2 d (Called valued f) p h = then_further p.left d (c1 f p) (c2 f (with_more d p)) (λ ws q. handed valued ws q) (λ ws q. handed valued ws q) (h f) (λ ws q le. handed_further d valued ws q) (λ ws q. handed_begins valued ws q)
action_further c1 c2 d (Moved mv) p h = (omega arith, refl)
action_further c1 c2 d Meaningless p h = refl

put_further : (d : ℕ) (ws : List Word) (p : Point) → Further p.left d (put_character ws p) (put_character ws (with_more d p))
put_further d (Plain (Number n) ∷ []) p = (omega arith, refl)
put_further d ws p = refl

get_further : (d : ℕ) (ws : List Word) (input : List ℕ) (p : Point) → Further p.left d (get_character ws input p) (get_character ws input (with_more d p))
get_further d [] [] p = (omega arith, refl)
get_further d [] (byte ∷ rest) p = (omega arith, refl)
get_further d ws input p = refl

exit_further : (d : ℕ) (ws : List Word) (p : Point) → Further p.left d (exit_with ws p) (exit_with ws (with_more d p))
exit_further d (Plain (Number n) ∷ []) p = refl
exit_further d ws p = refl

provided_further : (d : ℕ) (b : BuiltIn) (p : Point) → Further p.left d (provided b p) (provided b (with_more d p))
provided_further d Putchar p = put_further d p.world.arguments p
provided_further d Getchar p = get_further d p.world.arguments p.world.input p
provided_further d Exit p = exit_further d p.world.arguments p

-- a body under calls, and the same body under calls with d steps more
module _ (s : Setting) (c1 c2 : Calls) (bound d : ℕ) (calls : CallsFurther bound d c1 c2) (grow : CallsGrow c2) where
  does_further : (h : Head) (ws : List Word) (p : Point) → p.left < bound → Further p.left d (does (with_calls s c1) h ws p) (does (with_calls s c2) h ws (with_more d p))
  does_further h ws p lt = action_further c1 c2 d (acts s.environment h ws p.world.objects) p (λ name. calls name p lt)

  evaluate_further : (t : Node) (p : Point) → p.left < bound → Further p.left d (evaluate (with_calls s c1) t p) (evaluate (with_calls s c2) t (with_more d p))
  evaluate_further (Leaf h) p lt = does_further h [] p lt
  evaluate_further (One h a) p lt = then_further p.left d _ _ _ _ (evaluate_further a p lt)
      (λ xs p1 le. does_further h xs p1 (omega (arith, le, lt)))
      (λ xs p1. does_begins (with_calls s c2) grow h xs p1)
  evaluate_further (Two h a b) p lt = then_further p.left d _ _ _ _ (evaluate_further a p lt)
      (λ xs p1 le. then_further p1.left d _ _ _ _ (evaluate_further b p1 (omega (arith, le, lt))) (λ ys p2 l2. does_further h _ p2 (omega (arith, l2, le, lt))) (λ ys p2. does_begins (with_calls s c2) grow h _ p2))
      (λ xs p1. then_begins p1.world.trace _ _ (evaluate_begins (with_calls s c2) grow b p1) (λ ys p2. does_begins (with_calls s c2) grow h _ p2))

  pub act_further : (whole : List Node) (t : Node) (rest : List Node) (p : Point) (go1 go2 : List Node → Point → Outcome) → p.left < bound → ((ts : List Node) (p1 : Point) → p1.left ≤ p.left → FurtherIn p1.left d (go1 ts p1) (go2 ts (with_more d p1))) → ((ts : List Node) (p1 : Point) → BeginsIn p1.world.trace (go2 ts p1)) → FurtherIn p.left d (act (with_calls s c1) whole t rest p go1) (act (with_calls s c2) whole t rest (with_more d p) go2)
  act_further whole t rest p go1 go2 lt next more = goes_further p.left d _ _ _ _ (evaluate_further t p lt)
      (λ ws p1 mv le. follow_further d whole rest mv p1 _ _ (λ ts. next ts p1 le))
      (λ ws p1 mv. follow_begins whole rest mv p1 _ (λ ts. more ts p1))

  none_left : (m : ℕ) (whole ts : List Node) (w : World) → counted_run (suc m) (with_calls s c2) whole ts (with_left zero w) ≡ Going w → FurtherIn zero d (Going w) (counted_run (suc m) (with_calls s c2) whole ts (with_left (zero + d) w))
  none_left m whole ts w is = (
    λ z. let e : zero + d ≡ zero = omega (arith, z) in ap (λ x. counted_run (suc m) (with_calls s c2) whole ts (with_left x w)) e ∙ is,
    counted_begins (with_calls s c2) grow (suc m) whole ts (with_left (zero + d) w),
  )

  one_taken : (left : ℕ) (e1 : Outcome) (e2 : ℕ → Outcome) → FurtherIn left d e1 (e2 (suc (left + d))) → FurtherIn (suc left) d e1 (e2 (suc left + d))
  one_taken left e1 e2 h =
      let e : suc (left + d) ≡ suc left + d = omega arith in
      further_in_more (suc left) left d e1 (e2 (suc left + d)) (omega arith) (subst (λ x. FurtherIn left d e1 (e2 x)) e h)

  -- the run of a body, with fuel above the steps that are left
  pub counted_further : (n m : ℕ) (whole ts : List Node) (left : ℕ) (w : World) → left ≤ bound → left < n → left + d < m → FurtherIn left d (counted_run n (with_calls s c1) whole ts (with_left left w)) (counted_run m (with_calls s c2) whole ts (with_left (left + d) w))
  counted_further zero m whole ts left w lb ln lm = absurd (omega (arith, ln))
  counted_further (suc n) zero whole ts left w lb ln lm = absurd (omega (arith, lm))
  counted_further (suc n) (suc m) whole [] zero w lb ln lm = none_left m whole [] w refl
  counted_further (suc n) (suc m) whole (t ∷ ts) zero w lb ln lm = none_left m whole (t ∷ ts) w refl
  counted_further (suc n) (suc m) whole [] (suc left) w lb ln lm =
      one_taken left (Finished None (with_left left w)) (λ x. counted_run (suc m) (with_calls s c2) whole [] (with_left x w)) (omega arith, refl)
  counted_further (suc n) (suc m) whole (t ∷ ts) (suc left) w lb ln lm =
      one_taken left _ (λ x. counted_run (suc m) (with_calls s c2) whole (t ∷ ts) (with_left x w)) (act_further whole t ts (with_left left w) _ _ (omega (arith, lb))
      (λ js p le. counted_further n m whole js p.left p.world (omega (arith, le, lb)) (omega (arith, le, ln)) (omega (arith, le, lm)))
      (λ js p. counted_begins (with_calls s c2) grow m whole js p))

-- a call, given that the run of its body is further
pub call_by_further : (g : Program) (run1 run2 : Setting → List Node → Point → Outcome) (c1 c2 : Calls) (name : ℕ) (c : Callee) (d : ℕ) (p : Point) → ((f : Body) (w : World) → FurtherIn p.left d (run1 (setting_of g c1 name f p.world) f.roots (with_left p.left w)) (run2 (setting_of g c2 name f p.world) f.roots (with_left (p.left + d) w))) → Further p.left d (call_by g run1 c1 name c p) (call_by g run2 c2 name c (with_more d p))
call_by_further g run1 run2 c1 c2 name (Defined f) d p h =
    if_further p.left d (length p.world.arguments == f.words) _ _ (answered_further p.left d p.world _ _ (h f (entered g.order name f p.world)))
call_by_further g run1 run2 c1 c2 name (Provided b) d p h = provided_further d b p
call_by_further g run1 run2 c1 c2 name Missing d p h = refl

pub counted_call_further : (g : Program) (n m name d : ℕ) (p : Point) → p.left < n → p.left + d < m → Further p.left d (counted_call g n name p) (counted_call g m name (with_more d p))
counted_call_further g zero m name d p ln lm = absurd (omega (arith, ln))
counted_call_further g (suc n) zero name d p ln lm = absurd (omega (arith, lm))
counted_call_further g (suc n) (suc m) name d p ln lm =
    let calls : CallsFurther p.left d (counted_call g n) (counted_call g m) = λ other q lt. counted_call_further g n m other d q (omega (arith, lt, ln)) (omega (arith, lt, lm)) in
    call_by_further g (λ s roots p1. counted_run (suc n) s roots roots p1) (λ s roots p1. counted_run (suc m) s roots roots p1) (counted_call g n) (counted_call g m) name (g.callee name) d p
    (λ f w. counted_further (setting_of g (counted_call g n) name f p.world) (counted_call g n) (counted_call g m) p.left d calls (counted_call_begins g m) (suc n) (suc m) f.roots f.roots p.left w (omega arith) ln lm)

pub call_further : (g : Program) (name left d : ℕ) (w : World) → Further left d (call_of g name (record { left = left; world = w })) (call_of g name (record { left = left + d; world = w }))
call_further g name left d w = counted_call_further g (suc left) (suc (left + d)) name d (with_left left w) (omega arith) (omega arith)
