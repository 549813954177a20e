-- Steps of a lowering one behind the other, with the marks that they use.
use Rattle.std.specs.Prelude.{◌≡◌, Bool, List, [], ◌++◌}
use Rattle.std.proofs.Common.{sym, ap, ◌∙◌, subst}
use Rattle.std.proofs.lemmas.List.{append_assoc}
use Rattle.dag_forest.specs.declared.entry.Entry.{Entry}
use Rattle.c_rows_agree.specs.Typed.{Typed}
use Rattle.lowered_forms.specs.Lows.{Low, with_entries}
use Rattle.lowered_forms.specs.Values.{Lowered, then_low}
use Rattle.lowering_steps.specs.declared.operand.Operand.{Operand}
use Rattle.lowering_steps.specs.declared.state.State.{State}
use Rattle.lowering_steps.specs.Asking.{Acts}
use Rattle.lowering_steps.specs.Operands.{typed_of}
use Rattle.lowering_steps.specs.States.{Comes, Shows}
use Rattle.lowering_steps.proofs.lemmas.Stating.{with_block, block_shows, acts_shows}
use Rattle.lowering_acts.specs.Gives.{Gives}
use Rattle.c_lower_expr.specs.Lowering.{LowersTo, Lowers}

-- ---- the same step in other words

pub comes_as : (s : State) (v : Operand) (r q : Lowered) → r ≡ q → Comes s v r → Comes s v q
comes_as s v r q e c = subst (λ x. Comes s v x) e c

pub shows_as : (s : State) (l m : Low) → l ≡ m → Shows s l → Shows s m
shows_as s l m e h = subst (λ x. Shows s x) e h

pub to_as : (step next : Low → Lowered) (used : List Bool) (s : State) (ms : List Bool) (v : Operand) (t : State) (ns : List Bool)
    → ((l : Low) → step l ≡ next l) → LowersTo step used s ms v t ns → LowersTo next used s ms v t ns
to_as step next used s ms v t ns e a = record { is = λ l rest h m. let x = a.is l rest h m in (comes_as t v (step l) (next l) (e l) x.0, x.1) }

pub used_as : (step : Low → Lowered) (used more : List Bool) (s : State) (ms : List Bool) (v : Operand) (t : State) (ns : List Bool)
    → used ≡ more → LowersTo step used s ms v t ns → LowersTo step more s ms v t ns
used_as step used more s ms v t ns e a = subst (λ us. LowersTo step us s ms v t ns) e a

pub does_as : (step next : Low → Low) (used : List Bool) (s : State) (ms : List Bool) (t : State) (ns : List Bool)
    → ((l : Low) → step l ≡ next l) → Lowers step used s ms t ns → Lowers next used s ms t ns
does_as step next used s ms t ns e a = record { is = λ l rest h m. let x = a.is l rest h m in (shows_as t (step l) (next l) (e l) x.0, x.1) }

pub does_used : (step : Low → Low) (used more : List Bool) (s : State) (ms : List Bool) (t : State) (ns : List Bool)
    → used ≡ more → Lowers step used s ms t ns → Lowers step more s ms t ns
does_used step used more s ms t ns e a = subst (λ us. Lowers step us s ms t ns) e a

-- ---- steps of the open block use none

pub gives_comes : (s : State) (l : Low) (step : Low → Lowered) (v : Operand) (es : List Entry) → Shows s l → Gives s.block step v es → Comes (with_block s es) v (step l)
gives_comes s l step v es h g = record { low = with_entries es l; is = g.is l (sym h.block); shows = block_shows s l es h }

pub gives_to : (step : Low → Lowered) (s : State) (ms : List Bool) (v : Operand) (es : List Entry) → Gives s.block step v es → LowersTo step [] s ms v (with_block s es) ms
gives_to step s ms v es g = record { is = λ l rest h m. (gives_comes s l step v es h g, m) }

-- ---- one behind the other

pub used_both : (used more ms rest : List Bool) → ms ≡ (used ++ more) ++ rest → ms ≡ used ++ (more ++ rest)
used_both used more ms rest e = e ∙ append_assoc used more rest

pub does_both : (step next : Low → Low) (used more : List Bool) (s m t : State) (ms ns os : List Bool)
    → Lowers step used s ms m ns → Lowers next more m ns t os → Lowers (λ l. next (step l)) (used ++ more) s ms t os
does_both step next used more s m t ms ns os a b = record {
  is = λ l rest h e.
      let x = a.is l (more ++ rest) h (used_both used more ms rest e) in
      b.is (step l) rest x.0 x.1;
}

-- where all marks are those of the first
pub then_act : (step : Low → Lowered) (next : Typed → Low → Low) (used : List Bool) (s m : State) (ms ns : List Bool) (v : Operand) (es : List Entry)
    → LowersTo step used s ms v m ns → Acts m.block (λ l. next (typed_of v) l) es → Lowers (λ l. next (step l).value (step l).low) used s ms (with_block m es) ns
then_act step next used s m ms ns v es a b = record {
  is = λ l rest h e.
      let x = a.is l rest h e in (
        shows_as (with_block m es) (next (typed_of v) x.0.low) (next (step l).value (step l).low) (sym (ap (λ (r : Lowered). next r.value r.low) x.0.is))
            (acts_shows m x.0.low (λ l1. next (typed_of v) l1) es x.0.shows b),
        x.1,
      );
}

pub then_give : (step : Low → Lowered) (next : Typed → Low → Lowered) (used : List Bool) (s m : State) (ms ns : List Bool) (v w : Operand) (es : List Entry)
    → LowersTo step used s ms v m ns → Gives m.block (λ l. next (typed_of v) l) w es → LowersTo (λ l. then_low (step l) next) used s ms w (with_block m es) ns
then_give step next used s m ms ns v w es a b = record {
  is = λ l rest h e.
      let x = a.is l rest h e in (
        comes_as (with_block m es) w (next (typed_of v) x.0.low) (then_low (step l) next) (sym (ap (λ r. then_low r next) x.0.is))
            (gives_comes m x.0.low (λ l1. next (typed_of v) l1) w es x.0.shows b),
        x.1,
      );
}

-- a step of the whole state, behind others
pub then_all : (step next : Low → Low) (used : List Bool) (s m t : State) (ms ns : List Bool)
    → Lowers step used s ms m ns → ((l : Low) → Shows m l → Shows t (next l)) → Lowers (λ l. next (step l)) used s ms t ns
then_all step next used s m t ms ns a f = record { is = λ l rest h e. let x = a.is l rest h e in (f (step l) x.0, x.1) }
