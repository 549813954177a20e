-- The unit of a program means what the program does: each statement that prints is two root steps, and the return is one.
-- ---- expressions
use Rattle.std.specs.Prelude.{◌≡◌, ℕ, zero, suc, ◌%◌, ◌^◌, ◌<◌, ◌≤◌, pos, true, Some, None, List, [], ◌∷◌, ◌++◌, map, length, flat_map, refl}
use Rattle.std.specs.List.{AllByRecursion}
use Rattle.std.proofs.Common.{sym, ap, ◌∙◌, subst, append_assoc, append-nil, arith}
use Rattle.std.proofs.Math.Nat.{mod-eq_of_lt}
use Rattle.first_form.specs.declared.expression.Operator.TheVariants as sign
use Rattle.first_form.specs.Expression.{MExpression, Constant, Negated, Combined, Enclosed}
use Rattle.first_form.specs.FirstProgram.{MProgram}
use Rattle.first_form.specs.Grammar.{Derives}
use Rattle.first_form.specs.FirstForm.{IsExpression}
use Rattle.first_form.specs.Meaning.{value}
use Rattle.op_forest.specs.declared.op.Op.TheVariants as op
use Rattle.op_forest.specs.Nodes.{Node, One}
use Rattle.forests.specs.Words.{Word, Plain}
use Rattle.objects.specs.declared.value.Value.TheVariants.{Number, Function}
use Rattle.lcc_base.specs.Traces.{Event, Wrote, Opened, Closed, output_of, depth_of}
use Rattle.forests.specs.Worlds.{World, Point, Move, Next, Went, then_do, Outcome, Finished, Exited, Going, Failed, goes}
use Rattle.forests.specs.Bodies.{Setting, does, evaluate, follow, act}
use Rattle.forests.specs.Actions.{handed, gave, effect_of}
use Rattle.forests.specs.Addresses.{moved_from}
use Rattle.op_forest.specs.Callees.{Provided, Putchar}
use Rattle.forests.specs.Functions.{Program, answered, setting_of, call_by}
use Rattle.forests.specs.Meaning.{counted_run, counted_call, call_of}
use Rattle.forests.specs.Budgets.{with_left, with_calls}
use Rattle.lcc_base.specs.Prefixes.{Starts, starts_trans, output_starts, depth_starts}
use Rattle.forests.specs.OneRoot.{runs_in}
use Rattle.forests.proofs.lemmas.OneRoot.{one_call, one_root, no_steps}
use Rattle.forests.specs.Units.{program_of, start_world}
use Rattle.op_forest.specs.Units.{body_of}
use Rattle.first_forest.specs.FirstForest.{expression_node, int_head, putchar_node, print_roots, return_root, roots_of, main_of, unit_of}
use Rattle.first_forest.specs.Meaning.{main_run, IsRun, IsOver, trace_of, IsMeant}

low_bits : (n : ℕ) → n ≤ 2147483647 → n % 2 ^ 32 ≡ n
low_bits n h = let l : n < 2 ^ 32 = omega arith in mod-eq_of_lt l

-- an expression gives its value, and nothing is done
pub node_value : (s : Setting) (level : ℕ) (e : MExpression) (q : Point) → Derives level e → evaluate s (expression_node e) q ≡ Went (Plain (Number (value e)) ∷ []) q Next
node_value s level (Constant n) q h = ap (λ x. Went (Plain (Number x) ∷ []) q Next) (low_bits n h)
node_value s level (Negated e) q h = ap (λ x. then_do x (λ xs p1. does s (int_head op.Neg) xs p1)) (node_value s 2 e q h)
node_value s level (Combined sign.Add a b) q h =
    ap (λ x. then_do x (λ xs p1. then_do (evaluate s (expression_node b) p1) (λ ys p2. does s (int_head op.Add) (xs ++ ys) p2))) (node_value s _ a q h.1)
    ∙ ap (λ x. then_do x (λ ys p2. does s (int_head op.Add) (Plain (Number (value a)) ∷ ys) p2)) (node_value s _ b q h.2)
node_value s level (Combined sign.Subtract a b) q h =
    ap (λ x. then_do x (λ xs p1. then_do (evaluate s (expression_node b) p1) (λ ys p2. does s (int_head op.Sub) (xs ++ ys) p2))) (node_value s _ a q h.1)
    ∙ ap (λ x. then_do x (λ ys p2. does s (int_head op.Sub) (Plain (Number (value a)) ∷ ys) p2)) (node_value s _ b q h.2)
node_value s level (Combined sign.Multiply a b) q h =
    ap (λ x. then_do x (λ xs p1. then_do (evaluate s (expression_node b) p1) (λ ys p2. does s (int_head op.Mul) (xs ++ ys) p2))) (node_value s _ a q h.1)
    ∙ ap (λ x. then_do x (λ ys p2. does s (int_head op.Mul) (Plain (Number (value a)) ∷ ys) p2)) (node_value s _ b q h.2)
node_value s level (Enclosed e) q h = node_value s 0 e q h

-- ---- roots

-- a world without objects
abbrev world_at : List ℕ → List Word → List Event → World
world_at input arguments trace = record { objects = []; made = 0; arguments = arguments; input = input; trace = trace }

-- where a run goes on behind a root
abbrev going_on : List Node → List Node → (List Node → Point → Outcome) → List Word → Point → Move → Outcome
going_on whole rest go ws q move = follow whole rest move q (λ ts. go ts q)

argument_step : (s : Setting) (whole rest : List Node) (e : MExpression) (q : Point) (go : List Node → Point → Outcome) → Derives 0 e → act s whole (One (int_head op.Arg) (expression_node e)) rest q go ≡ go rest (with_left q.left (record q.world { arguments = q.world.arguments ++ Plain (Number (value e)) ∷ [] }))
argument_step s whole rest e q go h = ap (λ x. goes (then_do x (λ xs p1. does s (int_head op.Arg) xs p1)) (going_on whole rest go)) (node_value s 0 e q h)

return_step : (s : Setting) (whole rest : List Node) (e : MExpression) (q : Point) (go : List Node → Point → Outcome) → Derives 0 e → act s whole (return_root e) rest q go ≡ Finished (Some (Plain (Number (value e)))) q
return_step s whole rest e q go h = ap (λ x. goes (then_do x (λ xs p1. does s (int_head op.Ret) xs p1)) (going_on whole rest go)) (node_value s 0 e q h)

-- a call of `putchar`
putchar_call : (g : Program) (left v : ℕ) (input : List ℕ) (trace : List Event) → g.callee 1 ≡ Provided Putchar → call_of g 1 (with_left left (world_at input (Plain (Number v) ∷ []) trace)) ≡ Went (Plain (Number (v % 256)) ∷ []) (with_left left (world_at input [] (trace ++ Wrote (v % 256) ∷ []))) Next
putchar_call g left v input trace e =
    ap (λ c. call_by g (λ s roots p1. counted_run (suc left) s roots roots p1) (counted_call g left) 1 c (with_left left (world_at input (Plain (Number v) ∷ []) trace))) e

call_step : (g : Program) (s : Setting) (whole rest : List Node) (left v : ℕ) (input : List ℕ) (trace : List Event) (go : List Node → Point → Outcome) → s.environment.global 1 ≡ Some (Function 1) → g.callee 1 ≡ Provided Putchar → act (with_calls s (call_of g)) whole (One (int_head op.Call) putchar_node) rest (with_left left (world_at input (Plain (Number v) ∷ []) trace)) go ≡ go rest (with_left left (world_at input [] (trace ++ Wrote (v % 256) ∷ [])))
call_step g s whole rest left v input trace go name callee =
    ap (λ x. goes (then_do (effect_of (call_of g) (gave (moved_from [] x (pos 0))) (with_left left (world_at input (Plain (Number v) ∷ []) trace))) (λ xs p1. does (with_calls s (call_of g)) (int_head op.Call) xs p1)) (going_on whole rest go)) name
    ∙ ap (λ x. goes (then_do x (λ ws p1. handed true ws p1)) (going_on whole rest go)) (putchar_call g left v input trace callee)

-- ---- bodies

abbrev body : List MExpression → MExpression → List Node
body es r = flat_map print_roots es ++ return_root r ∷ []

abbrev byte_of : MExpression → ℕ
byte_of e = value e % 256

-- what is seen of these statements
abbrev events : List MExpression → List Event
events es = map (λ e. Wrote (byte_of e)) es

some_roots : (es : List MExpression) (r : MExpression) → 0 < length (body es r)
some_roots [] r = omega arith
some_roots (e ∷ es) r = omega arith

-- With so many steps for so many roots, this is seen in the end, and this value returned. What isn't over had too few
-- steps.
abbrev IsSoFar : ℕ → ℕ → List Event → ℕ → Outcome → Type 0
IsSoFar roots steps all v (Finished x q) = (x ≡ Some (Plain (Number v))) × (q.world.trace ≡ all)
IsSoFar roots steps all v (Exited status w) = ⊥
IsSoFar roots steps all v (Going w) = (steps < roots) × Starts w.trace all
IsSoFar roots steps all v Failed = ⊥

so_more : (roots steps more_roots more_steps v : ℕ) (seen all : List Event) (o : Outcome) → (steps < roots → more_steps < more_roots) → seen ≡ all → IsSoFar roots steps seen v o → IsSoFar more_roots more_steps all v o
so_more roots steps more_roots more_steps v seen all (Finished x q) l e h = (h.0, h.1 ∙ e)
so_more roots steps more_roots more_steps v seen all (Exited status w) l e h = h
so_more roots steps more_roots more_steps v seen all (Going w) l e h = (l h.0, subst (Starts w.trace) e h.1)
so_more roots steps more_roots more_steps v seen all Failed l e h = h

module _ (g : Program) (s : Setting) (name : s.environment.global 1 ≡ Some (Function 1)) (callee : g.callee 1 ≡ Provided Putchar) (whole : List Node) (input : List ℕ) where
  abbrev from : ℕ → List Word → List Event → List Node → Outcome
  from steps arguments trace ts = runs_in g s whole ts (with_left steps (world_at input arguments trace))

  return_run : (r : MExpression) (steps : ℕ) (trace : List Event) → IsExpression r → from (suc steps) [] trace (return_root r ∷ []) ≡ Finished (Some (Plain (Number (value r)))) (with_left steps (world_at input [] trace))
  return_run r steps trace h =
      let q = with_left steps (world_at input [] trace) in
      one_root g s whole (return_root r) [] steps (world_at input [] trace)
      ∙ return_step (with_calls s (call_of g)) whole [] r q (λ js p. runs_in g s whole js p) h.0

  argument_run : (e : MExpression) (rest : List Node) (steps : ℕ) (trace : List Event) → IsExpression e → from (suc steps) [] trace (One (int_head op.Arg) (expression_node e) ∷ rest) ≡ from steps (Plain (Number (value e)) ∷ []) trace rest
  argument_run e rest steps trace h =
      let q = with_left steps (world_at input [] trace) in
      one_root g s whole (One (int_head op.Arg) (expression_node e)) rest steps (world_at input [] trace)
      ∙ argument_step (with_calls s (call_of g)) whole rest e q (λ js p. runs_in g s whole js p) h.0

  call_run : (v : ℕ) (rest : List Node) (steps : ℕ) (trace : List Event) → from (suc steps) (Plain (Number v) ∷ []) trace (One (int_head op.Call) putchar_node ∷ rest) ≡ from steps [] (trace ++ Wrote (v % 256) ∷ []) rest
  call_run v rest steps trace =
      one_root g s whole (One (int_head op.Call) putchar_node) rest steps (world_at input (Plain (Number v) ∷ []) trace)
      ∙ call_step g s whole rest steps v input trace (λ js p. runs_in g s whole js p) name callee

  body_so_far : (es : List MExpression) (r : MExpression) (steps : ℕ) (trace : List Event) → AllByRecursion IsExpression es → IsExpression r → IsSoFar (length (body es r)) steps (trace ++ events es) (value r) (from steps [] trace (body es r))
  body_so_far es r zero trace h k =
      subst (IsSoFar (length (body es r)) zero (trace ++ events es) (value r)) (sym (no_steps (with_calls s (call_of g)) whole (body es r) (world_at input [] trace)))
      (some_roots es r, (events es, refl))
  body_so_far [] r (suc steps) trace h k =
      subst (IsSoFar 1 (suc steps) (trace ++ []) (value r)) (sym (return_run r steps trace k)) (refl, sym (append-nil trace))
  body_so_far (e ∷ es) r (suc zero) trace h k =
      let stop = argument_run e (One (int_head op.Call) putchar_node ∷ body es r) zero trace h.0 ∙ no_steps (with_calls s (call_of g)) whole (One (int_head op.Call) putchar_node ∷ body es r) (world_at input (Plain (Number (value e)) ∷ []) trace) in
      subst (IsSoFar (length (body (e ∷ es) r)) 1 (trace ++ events (e ∷ es)) (value r)) (sym stop)
      ((let l : 1 < length (body (e ∷ es) r) = omega (arith, some_roots es r) in l), (events (e ∷ es), refl))
  body_so_far (e ∷ es) r (suc (suc steps)) trace h k =
      let on = argument_run e (One (int_head op.Call) putchar_node ∷ body es r) (suc steps) trace h.0 ∙ call_run (value e) (body es r) steps trace in
      subst (IsSoFar (length (body (e ∷ es) r)) (suc (suc steps)) (trace ++ events (e ∷ es)) (value r)) (sym on)
      (so_more (length (body es r)) steps (length (body (e ∷ es) r)) (suc (suc steps)) (value r) ((trace ++ Wrote (byte_of e) ∷ []) ++ events es) (trace ++ events (e ∷ es)) _
      (λ l. omega (arith, l))
      (append_assoc trace (Wrote (byte_of e) ∷ []) (events es))
      (body_so_far es r steps (trace ++ Wrote (byte_of e) ∷ []) h.1 k))

-- ---- the whole

-- what is seen of a program before its end
abbrev opened : List MExpression → List Event
opened es = Opened 0 ∷ events es

closed_output : (es : List MExpression) → output_of (events es ++ Closed ∷ []) ≡ map byte_of es
closed_output [] = refl
closed_output (e ∷ es) = ap (λ z. byte_of e ∷ z) (closed_output es)

open_output : (es : List MExpression) → output_of (events es) ≡ map byte_of es
open_output [] = refl
open_output (e ∷ es) = ap (λ z. byte_of e ∷ z) (open_output es)

closed_depth : (room : ℕ → ℕ) (es : List MExpression) → depth_of room (0 ∷ []) (events es ++ Closed ∷ []) ≤ room 0
closed_depth room [] = omega arith
closed_depth room (e ∷ es) = let h = closed_depth room es in omega (arith, h)

whole_depth : (room : ℕ → ℕ) (es : List MExpression) → depth_of room [] (opened es ++ Closed ∷ []) ≤ room 0
whole_depth room es = let h = closed_depth room es in omega (arith, h)

part_depth : (room : ℕ → ℕ) (es : List MExpression) (trace : List Event) → Starts trace (opened es ++ Closed ∷ []) → depth_of room [] trace ≤ room 0
part_depth room es trace h =
    let a = depth_starts room [] trace (opened es ++ Closed ∷ []) h in
    let b = whole_depth room es in
    omega (arith, a, b)

before_end : (es : List MExpression) (trace : List Event) → Starts trace (opened es) → Starts trace (opened es ++ Closed ∷ [])
before_end es trace h = starts_trans trace (opened es) (opened es ++ Closed ∷ []) h (Closed ∷ [], refl)

at_end : (es : List MExpression) (trace : List Event) → trace ≡ opened es → Starts (trace ++ Closed ∷ []) (opened es ++ Closed ∷ [])
at_end es trace e = ([], append-nil (trace ++ Closed ∷ []) ∙ ap (λ z. z ++ Closed ∷ []) e)

module _ (p : MProgram) (before : World) (steps : ℕ) where
  abbrev IsSo : Outcome → Type 0
  IsSo = IsSoFar (length (roots_of p)) steps (opened p.prints) (value p.result)

  answer_run : (o : Outcome) → IsSo o → IsRun p (answered before o)
  answer_run (Finished None q) h = absurd (let e = h.0 in cc)
  answer_run (Finished (Some w) q) h = (
    (let e : w ≡ Plain (Number (value p.result)) = (let f = h.0 in cc) in ap (λ z. z ∷ []) e),
    refl,
    ap (λ z. output_of (z ++ Closed ∷ [])) h.1 ∙ closed_output p.prints,
  )
  answer_run (Exited status w) h = h
  answer_run (Going w) h =
      let o = output_starts w.trace (opened p.prints) h.1 in
      (o.0, o.1 ∙ open_output p.prints)
  answer_run Failed h = h

  answer_over : (o : Outcome) → IsSo o → length (roots_of p) ≤ steps → IsOver (answered before o)
  answer_over (Finished x q) h le = tt
  answer_over (Exited status w) h le = h
  answer_over (Going w) h le = absurd (omega (arith, h.0, le))
  answer_over Failed h le = h

  answer_depth : (room : ℕ → ℕ) (o : Outcome) → IsSo o → depth_of room [] (trace_of (answered before o)) ≤ room 0
  answer_depth room (Finished x q) h = part_depth room p.prints (q.world.trace ++ Closed ∷ []) (at_end p.prints q.world.trace h.1)
  answer_depth room (Exited status w) h = absurd h
  answer_depth room (Going w) h = part_depth room p.prints w.trace (before_end p.prints w.trace h.1)
  answer_depth room Failed h = absurd h

module _ (p : MProgram) (input : List ℕ) where
  abbrev program : Program
  program = program_of (unit_of p)

  abbrev inside : Setting
  inside = setting_of program (call_of program) 0 (body_of (main_of p)) (start_world (unit_of p) input)

  abbrev outcome : ℕ → Outcome
  outcome steps = runs_in program inside (roots_of p) (roots_of p) (with_left steps (world_at input [] (Opened 0 ∷ [])))

  main_answers : (steps : ℕ) → main_run p input steps ≡ answered (start_world (unit_of p) input) (outcome steps)
  main_answers steps = one_call program 0 (with_left steps (start_world (unit_of p) input))

  outcome_so_far : (steps : ℕ) → AllByRecursion IsExpression p.prints → IsExpression p.result → IsSoFar (length (roots_of p)) steps (opened p.prints) (value p.result) (outcome steps)
  outcome_so_far steps h k = body_so_far program inside refl refl (roots_of p) input p.prints p.result steps (Opened 0 ∷ []) h k

pub meant : (p : MProgram) (input : List ℕ) → AllByRecursion IsExpression p.prints → IsExpression p.result → IsMeant p input
meant p input h k = record {
  runs = λ steps. subst (IsRun p) (sym (main_answers p input steps)) (answer_run p (start_world (unit_of p) input) steps (outcome p input steps) (outcome_so_far p input steps h k));
  ends = λ steps le. subst IsOver (sym (main_answers p input steps)) (answer_over p (start_world (unit_of p) input) steps (outcome p input steps) (outcome_so_far p input steps h k) le);
  depth = λ room steps. subst (λ e. depth_of room [] (trace_of e) ≤ room 0) (sym (main_answers p input steps)) (answer_depth p (start_world (unit_of p) input) steps room (outcome p input steps) (outcome_so_far p input steps h k));
}
