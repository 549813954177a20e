-- Traces only grow: what follows shows all that was seen.
use Rattle.std.specs.Prelude.{ℕ, zero, suc, Bool, true, false, List, [], ◌∷◌, ◌++◌, Result as Checked, Ok, Err, refl}
use Rattle.lcc_base.specs.declared.cause.Cause.{Cause}
use Rattle.lcc_base.specs.Prefixes.{Starts, starts_refl, starts_trans}
use Rattle.lcc_base.specs.Traces.{Event, Closed}
use Rattle.objects.specs.declared.value.Value.{Value}
use Rattle.c_runs.specs.Worlds.{World}
use Rattle.c_runs.specs.Outcomes.{Result, Gives, GivesNone, Ends, Out, Next, Break, Continue, Return, Goto, Over, then_give, then_drop, then_do, then_go, then_next, looped, switched, spend, spent, catch, either, if_fine, if_done}
use Rattle.c_runs.specs.Laws.{world_of, world_after}

-- the trace behind begins with these events
pub record Grows (es : List Event) (r : Result) : Type 0 where
  pub by : Starts es (world_of r).trace

abbrev pub GrowsAct : (ℕ → World → Result) → Type 0
GrowsAct act = (k : ℕ) (w : World) → Grows w.trace (act k w)

pub record GrowsOut (es : List Event) (o : Out) : Type 0 where
  pub by : Starts es (world_after o).trace

abbrev pub GrowsOuts : (ℕ → World → Out) → Type 0
GrowsOuts act = (k : ℕ) (w : World) → GrowsOut w.trace (act k w)

pub further : (es : List Event) (w : World) (r : Result) → Starts es w.trace → Grows w.trace r → Grows es r
further es w r h g = record { by = starts_trans es w.trace (world_of r).trace h g.by }

pub further_out : (es : List Event) (w : World) (o : Out) → Starts es w.trace → GrowsOut w.trace o → GrowsOut es o
further_out es w o h g = record { by = starts_trans es w.trace (world_after o).trace h g.by }

-- ---- expressions

pub give_grows : (es : List Event) (r : Result) (go : Value → ℕ → World → Result) → Grows es r → ((v : Value) → GrowsAct (go v)) → Grows es (then_give r go)
give_grows es (Gives v k w) go h g = further es w (go v k w) h.by (g v k w)
give_grows es (GivesNone line k w) go h g = record { by = h.by }
give_grows es (Ends how w) go h g = record { by = h.by }

pub drop_grows : (es : List Event) (r : Result) (go : ℕ → World → Result) → Grows es r → GrowsAct go → Grows es (then_drop r go)
drop_grows es (Gives v k w) go h g = further es w (go k w) h.by (g k w)
drop_grows es (GivesNone line k w) go h g = further es w (go k w) h.by (g k w)
drop_grows es (Ends how w) go h g = record { by = h.by }

pub fine_grows : {A : Type 0} (es : List Event) (c : Checked A Cause) (line : ℕ) (w : World) (go : A → Result) → Starts es w.trace → ((a : A) → Grows es (go a)) → Grows es (if_fine c line w go)
fine_grows es (Ok a) line w go h g = g a
fine_grows es (Err cause) line w go h g = record { by = h }

pub spend_grows : (k : ℕ) (w : World) (go : ℕ → Result) → ((j : ℕ) → Grows w.trace (go j)) → Grows w.trace (spend k w go)
spend_grows zero w go g = record { by = starts_refl w.trace }
spend_grows (suc k) w go g = g k

-- ---- statements

pub do_grows : (es : List Event) (r : Result) (go : Value → ℕ → World → Out) → Grows es r → ((v : Value) → GrowsOuts (go v)) → GrowsOut es (then_do r go)
do_grows es (Gives v k w) go h g = further_out es w (go v k w) h.by (g v k w)
do_grows es (GivesNone line k w) go h g = record { by = h.by }
do_grows es (Ends how w) go h g = record { by = h.by }

pub go_grows : (es : List Event) (r : Result) (go : ℕ → World → Out) → Grows es r → GrowsOuts go → GrowsOut es (then_go r go)
go_grows es (Gives v k w) go h g = further_out es w (go k w) h.by (g k w)
go_grows es (GivesNone line k w) go h g = further_out es w (go k w) h.by (g k w)
go_grows es (Ends how w) go h g = record { by = h.by }

pub next_grows : (es : List Event) (o : Out) (go : ℕ → World → Out) → GrowsOut es o → GrowsOuts go → GrowsOut es (then_next o go)
next_grows es (Next k w) go h g = further_out es w (go k w) h.by (g k w)
next_grows es (Break k w) go h g = h
next_grows es (Continue k w) go h g = h
next_grows es (Return v line k w) go h g = h
next_grows es (Goto l k w) go h g = h
next_grows es (Over how w) go h g = h

pub looped_grows : (es : List Event) (o : Out) (go : ℕ → World → Out) → GrowsOut es o → GrowsOuts go → GrowsOut es (looped o go)
looped_grows es (Next k w) go h g = further_out es w (go k w) h.by (g k w)
looped_grows es (Break k w) go h g = record { by = h.by }
looped_grows es (Continue k w) go h g = further_out es w (go k w) h.by (g k w)
looped_grows es (Return v line k w) go h g = h
looped_grows es (Goto l k w) go h g = h
looped_grows es (Over how w) go h g = h

pub switched_grows : (es : List Event) (o : Out) → GrowsOut es o → GrowsOut es (switched o)
switched_grows es (Next k w) h = h
switched_grows es (Break k w) h = record { by = h.by }
switched_grows es (Continue k w) h = h
switched_grows es (Return v line k w) h = h
switched_grows es (Goto l k w) h = h
switched_grows es (Over how w) h = h

pub spent_grows : (k : ℕ) (w : World) (go : ℕ → Out) → ((j : ℕ) → GrowsOut w.trace (go j)) → GrowsOut w.trace (spent k w go)
spent_grows zero w go g = record { by = starts_refl w.trace }
spent_grows (suc k) w go g = g k

pub either_grows : (es : List Event) (b : Bool) (go other : ℕ → World → Out) (k : ℕ) (w : World) → GrowsOut es (go k w) → GrowsOut es (other k w) → GrowsOut es (either b go other k w)
either_grows es true go other k w h g = h
either_grows es false go other k w h g = g

pub done_grows : {A : Type 0} (es : List Event) (c : Checked A Cause) (line : ℕ) (w : World) (go : A → Out) → Starts es w.trace → ((a : A) → GrowsOut es (go a)) → GrowsOut es (if_done c line w go)
done_grows es (Ok a) line w go h g = g a
done_grows es (Err cause) line w go h g = record { by = h }

pub catch_grows : (es : List Event) (within : ℕ → Bool) (o : Out) (go : ℕ → ℕ → World → Out) → GrowsOut es o → ((l : ℕ) → GrowsOuts (go l)) → GrowsOut es (catch within o go)
catch_grows es within (Next k w) go h g = h
catch_grows es within (Break k w) go h g = h
catch_grows es within (Continue k w) go h g = h
catch_grows es within (Return v line k w) go h g = h
catch_grows es within (Goto l k w) go h g =
    either_grows es (within l) (λ k1 w1. spent k1 w1 (λ k2. go l k2 w1)) (λ k1 w1. Goto l k1 w1) k w
    (further_out es w (spent k w (λ k2. go l k2 w)) h.by (spent_grows k w (λ k2. go l k2 w) (λ j. g l j w))) h
catch_grows es within (Over how w) go h g = h

pub if_grows : (es : List Event) (b : Bool) (x y : Out) → GrowsOut es x → GrowsOut es y → GrowsOut es (elim b as (λ c. Out) [ true ↦ x | false ↦ y ])
if_grows es true x y h g = h
if_grows es false x y h g = g

-- a call is over: one event more
pub closed_grows : (es fs : List Event) → Starts es fs → Starts es (fs ++ Closed ∷ [])
closed_grows es fs h = starts_trans es fs (fs ++ Closed ∷ []) h (Closed ∷ [], refl)
