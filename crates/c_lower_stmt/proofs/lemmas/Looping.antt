-- Loops.
use Rattle.std.specs.Prelude.{ℕ, true, Option}
use Rattle.c_meaning.specs.Values.{CoreTree}
use Rattle.lowered_forms.specs.Expressions.{low_test}
use Rattle.lowered_forms.specs.Lows.{Low, jumped, marked, with_label}
use Rattle.lowered_statements.specs.Bodies.{Body, on_low, with_low}
use Rattle.lowered_statements.specs.Functions.{Function, Exits}
use Rattle.lowered_statements.specs.Rows.{do_row, for_row, last_and_test, maybe_dropped, while_row}
use Rattle.lowering_steps.specs.declared.state.State.{State}
use Rattle.statement_steps.specs.declared.progress.Progress.{Progress}
use Rattle.statement_steps.specs.Progresses.{Goes, Does}
use Rattle.statement_steps.proofs.lemmas.Going.{body_as, with_state, state_shows}
use Rattle.c_lower_stmt.specs.declared.loops.Turns.{Turns}
use Rattle.c_lower_stmt.specs.Ways.{HasTurns}
use Rattle.c_lower_stmt.proofs.lemmas.Choosing.{TakesLabel, GoesBy}

abbrev pub exits_at : Turns → Exits
exits_at x = record { breaks = x.end; continues = x.next }

-- the body from its label on, up to where `continue` goes
abbrev pub turned : (Exits → Body → Body) → Turns → Body → Body
turned body x b = on_low (λ l. marked x.next l) (body (exits_at x) (on_low (λ l. marked x.top l) b))

pub turns : (body : Exits → Body → Body) (x : Turns) (p : Progress) (s : State) (q : Progress) (t : State) → GoesBy (λ l. marked x.top l) p.state s → Does (λ b. body (exits_at x) b) (with_state p s) q
    → GoesBy (λ l. marked x.next l) q.state t → Does (λ b. turned body x b) p (with_state q t)
turns body x p s q t top d next = record {
  is = λ b h.
      let l1 = marked x.top b.low in
      let c = d.is (with_low l1 b) (state_shows p s b l1 h (top b.low h.low)) in
      let y : Body = body (exits_at x) (with_low l1 b) in
      state_shows q t y (marked x.next y.low) c (next y.low c.low);
}

abbrev with_three : Low → Low
with_three l = with_label (with_label (with_label l))

-- ---- `while`

abbrev between : Function → CoreTree → Turns → Low → Low
between f e x l = marked x.end (low_test f.context e x.top true l)

abbrev while_at : Function → CoreTree → (Exits → Body → Body) → Turns → Body → Body
while_at f e body x b = on_low (λ l. between f e x l) (turned body x (on_low (λ l. jumped x.next (with_three l)) b))

pub while_goes : (f : Function) (e : CoreTree) (body : Exits → Body → Body) (x : Turns) (p : Progress) (s t : State) (q : Progress) (u : State)
    → HasTurns p.state x s → GoesBy (λ l. jumped x.next l) s t → Does (λ b. turned body x b) (with_state p t) q → Goes (λ l. between f e x l) q.state u
    → Does (λ b. while_row f e body b) p (with_state q u)
while_goes f e body x p s t q u new jump turn rest = record {
  is = λ b h.
      let a = new.is b.low h.low in
      let l1 = jumped x.next (with_three b.low) in
      let c = turn.is (with_low l1 b) (state_shows p t b l1 h (jump (with_three b.low) a.1)) in
      let y : Body = turned body x (with_low l1 b) in
      body_as (with_state q u) (with_low (between f e x y.low) y) (while_row f e body b) (λ i. while_at f e body (a.0 i) b)
      (state_shows q u y (between f e x y.low) c (rest.is y.low c.low));
}

-- ---- `do`

abbrev do_at : Function → CoreTree → (Exits → Body → Body) → Turns → Body → Body
do_at f e body x b = on_low (λ l. between f e x l) (turned body x (on_low (λ l. with_three l) b))

pub do_goes : (f : Function) (e : CoreTree) (body : Exits → Body → Body) (x : Turns) (p : Progress) (s : State) (q : Progress) (u : State)
    → HasTurns p.state x s → Does (λ b. turned body x b) (with_state p s) q → Goes (λ l. between f e x l) q.state u
    → Does (λ b. do_row f e body b) p (with_state q u)
do_goes f e body x p s q u new turn rest = record {
  is = λ b h.
      let a = new.is b.low h.low in
      let l1 = with_three b.low in
      let c = turn.is (with_low l1 b) (state_shows p s b l1 h a.1) in
      let y : Body = turned body x (with_low l1 b) in
      body_as (with_state q u) (with_low (between f e x y.low) y) (do_row f e body b) (λ i. do_at f e body (a.0 i) b)
      (state_shows q u y (between f e x y.low) c (rest.is y.low c.low));
}

-- ---- `for`

abbrev behind_last : Function → Option CoreTree → Option CoreTree → ℕ → Turns → Low → Low
behind_last f test last here x l = marked x.end (last_and_test f test last here x.top l)

abbrev for_at : Function → Option CoreTree → Option CoreTree → Option CoreTree → (Exits → Body → Body) → Turns → ℕ → Body → Body
for_at f first test last body x here b =
    on_low (λ l. behind_last f test last here x l) (turned body x (on_low (λ l. jumped here (with_label (with_three (maybe_dropped f first l)))) b))

pub record GoesFor (f : Function) (first test last : Option CoreTree) (body : Exits → Body → Body) (x : Turns) (here : ℕ) (p : Progress) (s s1 t v : State) (q : Progress) (u : State) : Type 0 where
  pub begin : Goes (λ l. maybe_dropped f first l) p.state s
  pub new : HasTurns s x s1
  pub label : TakesLabel here s1 t
  pub jump : GoesBy (λ l. jumped here l) t v
  pub turn : Does (λ b. turned body x b) (with_state p v) q
  pub rest : Goes (λ l. behind_last f test last here x l) q.state u

pub for_goes : (f : Function) (first test last : Option CoreTree) (body : Exits → Body → Body) (x : Turns) (here : ℕ) (p : Progress) (s s1 t v : State) (q : Progress) (u : State)
    → GoesFor f first test last body x here p s s1 t v q u → Does (λ b. for_row f first test last body b) p (with_state q u)
for_goes f first test last body x here p s s1 t v q u k = record {
  is = λ b h.
      let l0 = maybe_dropped f first b.low in
      let a = k.new.is l0 (k.begin.is b.low h.low) in
      let n = k.label (with_three l0) a.1 in
      let l1 = jumped here (with_label (with_three l0)) in
      let c = k.turn.is (with_low l1 b) (state_shows p v b l1 h (k.jump (with_label (with_three l0)) n.1)) in
      let y : Body = turned body x (with_low l1 b) in
      body_as (with_state q u) (with_low (behind_last f test last here x y.low) y) (for_row f first test last body b) (λ i. for_at f first test last body (a.0 i) (n.0 i) b)
      (state_shows q u y (behind_last f test last here x y.low) c (k.rest.is y.low c.low));
}
