-- One plain instruction does what it acts, and goes on with what stands behind it.
use Rattle.std.specs.Prelude.{◌≡◌, ℕ, suc, ◌==◌, List, [], ◌∷◌, Bool, true, false, if◌then◌else◌, refl}
use Rattle.std.proofs.Common.{arith, ap, ◌∙◌}
use Rattle.std.proofs.lemmas.Bool.{eq-eqb, or_parts, cond-true, cond-false}
use Rattle.forests.specs.Words.{Word}
use Rattle.forests.specs.Worlds.{Next, Effect, Went, Exits, Unfinished, Stuck, goes}
use Rattle.forests.specs.Bodies.{Setting}
use Rattle.vcode.specs.declared.operand.Operand.{Operand}
use Rattle.vcode.specs.Machines.{Machine, Kind, Plain, Mark, Load, Store, Copy, writes_one}
use Rattle.vcode.specs.Execution.{State, executed, effect, by_kind, moved, reads, written, without, with_value, state_by, first_of, rest_of}
use Rattle.vcode.specs.VirtualCode.{among, results}
use Rattle.vcode.specs.RuleSets.{Gets, WhenWent, WhenNext}

plain_acts : (k : Kind) (e : Effect) (rs : List Word) (st : State) → k ≡ Plain → by_kind k e rs st ≡ e
plain_acts Plain e rs st h = refl
plain_acts (Mark l) e rs st h = absurd cc
plain_acts (Load z) e rs st h = absurd cc
plain_acts (Store z) e rs st h = absurd cc
plain_acts Copy e rs st h = absurd cc

-- a register that isn't written keeps its value
abbrev KeepsAt : ℕ → List Operand → Type 0
KeepsAt q os = (ws : List Word) (f : ℕ → Word) → among q (results os) ≡ false → written os ws f q ≡ f q

keeps_by : (b : Bool) (r q : ℕ) (os : List Operand) (ws : List Word) (f : ℕ → Word) → KeepsAt q os → among q (if b then r ∷ results os else results os) ≡ false → (if b then written os (rest_of ws) (with_value f r (first_of ws)) else written os ws f) q ≡ f q
keeps_by true r q os ws f keeps h =
    let e = or_parts (q == r) (among q (results os)) h in
    keeps (rest_of ws) (with_value f r (first_of ws)) e.1 ∙ cond-false (q == r) (first_of ws) (f q) e.0
keeps_by false r q os ws f keeps h = keeps ws f h

keeps_at : (q : ℕ) (os : List Operand) → KeepsAt q os
keeps_at q [] ws f h = refl
keeps_at q (o ∷ os) ws f h = keeps_by o.written o.reg q os ws f (keeps_at q os) h

without_none : (lost : ℕ → Bool) (f : ℕ → Word) (q : ℕ) → lost q ≡ false → without lost f q ≡ f q
without_none lost f q h = cond-false (lost q) _ (f q) h

-- the one operand that is written has the value
pub written_first : (to : ℕ) (os : List Operand) (w : Word) (f : ℕ → Word) → results os ≡ [] → written (writes_one to ∷ os) (w ∷ []) f to ≡ w
written_first to os w f h =
    keeps_at to os [] (with_value f to w) (ap (among to) h) ∙ cond-true (to == to) w (f to) (eq-eqb to to refl)

module _ {I : Type 0} (m : Machine I) (s : Setting) (whole rest : List I) (st : State) where
  effect_is : (i : I) (e : Effect) → m.kind i ≡ Plain → m.acts s i (reads (m.operands i) st.registers) st.point ≡ e → effect m s i st ≡ e
  effect_is i e k h = plain_acts (m.kind i) _ _ st k ∙ h

  pub nothing_gets : (ws : List Word) (holds : (ℕ → Word) → List Word → Type 0) (kept : ℕ → Type 0) → holds st.registers ws → Gets m s whole [] rest st (Went ws st.point Next) holds kept
  nothing_gets ws holds kept h = record {
    state = st;
    by = λ k. (k, omega arith, refl);
    keeps = λ q virtual k. refl;
    gives = (refl, h);
  }

  -- given what it acts: registers that it doesn't write keep their values, and what is to hold does
  pub one_gets : (i : I) (e : Effect) (holds : (ℕ → Word) → List Word → Type 0) (kept : ℕ → Type 0) → m.kind i ≡ Plain → m.acts s i (reads (m.operands i) st.registers) st.point ≡ e → ((q : ℕ) → kept q → among q (results (m.operands i)) ≡ false) → WhenWent e (λ ws p mv. WhenNext mv (holds (written (m.operands i) ws (without (m.loses i) st.registers)) ws)) → Gets m s whole (i ∷ []) rest st e holds kept
  one_gets i (Went ws p mv) holds kept k h unwritten gives = record {
    state = state_by m i st ws p;
    by = λ n. (suc n, omega arith, ap (λ e. goes e (λ vs p1 mv1. moved m whole rest mv1 p1 (λ js. executed m s whole n js (state_by m i st vs p1)))) (effect_is i (Went ws p mv) k h));
    keeps = λ q virtual kept_q. keeps_at q (m.operands i) ws (without (m.loses i) st.registers) (unwritten q kept_q) ∙ without_none (m.loses i) st.registers q (m.loses-machine i q virtual);
    gives = (refl, gives);
  }
  one_gets i (Exits status w) holds kept k h unwritten gives = record {
    state = st;
    by = λ n. (suc n, omega arith, ap (λ e. goes e (λ vs p1 mv1. moved m whole rest mv1 p1 (λ js. executed m s whole n js (state_by m i st vs p1)))) (effect_is i (Exits status w) k h));
    keeps = λ q virtual kept_q. refl;
    gives = tt;
  }
  one_gets i (Unfinished w) holds kept k h unwritten gives = record {
    state = st;
    by = λ n. (suc n, omega arith, ap (λ e. goes e (λ vs p1 mv1. moved m whole rest mv1 p1 (λ js. executed m s whole n js (state_by m i st vs p1)))) (effect_is i (Unfinished w) k h));
    keeps = λ q virtual kept_q. refl;
    gives = tt;
  }
  one_gets i Stuck holds kept k h unwritten gives = record {
    state = st;
    by = λ n. (suc n, omega arith, ap (λ e. goes e (λ vs p1 mv1. moved m whole rest mv1 p1 (λ js. executed m s whole n js (state_by m i st vs p1)))) (effect_is i Stuck k h));
    keeps = λ q virtual kept_q. refl;
    gives = tt;
  }
