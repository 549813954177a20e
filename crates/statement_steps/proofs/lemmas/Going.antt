-- Steps one behind the other.
use Rattle.std.specs.Prelude.{◌≡◌, List, Result, Ok, Err, OnOk}
use Rattle.std.proofs.Common.{subst}
use Rattle.c_rows_agree.specs.Templates.{Root}
use Rattle.dag_forest.specs.declared.entry.Entry.{Entry}
use Rattle.lowered_forms.specs.Lows.{Low, acted, branched, ended}
use Rattle.lowered_statements.specs.Bodies.{Body, on_low, with_low}
use Rattle.lowering_steps.specs.declared.state.State.{State}
use Rattle.lowering_steps.specs.Asking.{Acts}
use Rattle.lowering_steps.specs.States.{Shows}
use Rattle.lowering_steps.proofs.lemmas.Stating.{with_block, acts_shows}
use Rattle.statement_steps.specs.declared.progress.Progress.{Progress}
use Rattle.statement_steps.specs.Progresses.{ShowsBody, Goes, Does}

pub shows_as : (s : State) (l m : Low) → l ≡ m → Shows s l → Shows s m
shows_as s l m e h = subst (λ x. Shows s x) e h

pub body_as : (p : Progress) (b c : Body) → b ≡ c → ShowsBody p b → ShowsBody p c
body_as p b c e h = subst (λ x. ShowsBody p x) e h

-- ---- states

pub goes_same : (s : State) → Goes (λ l. l) s s
goes_same s = record { is = λ l h. h }

pub goes_as : (f g : Low → Low) (s t : State) → ((l : Low) → f l ≡ g l) → Goes f s t → Goes g s t
goes_as f g s t e a = record { is = λ l h. shows_as t (f l) (g l) (e l) (a.is l h) }

pub goes_then : (f g : Low → Low) (s t u : State) → Goes f s t → Goes g t u → Goes (λ l. g (f l)) s u
goes_then f g s t u a b = record { is = λ l h. b.is (f l) (a.is l h) }

pub goes_by : (f : Low → Low) (s t : State) → ((l : Low) → Shows s l → Shows t (f l)) → Goes f s t
goes_by f s t h = record { is = h }

-- a step of the open block
pub acts_goes : (f : Low → Low) (s : State) (es : List Entry) → Acts s.block f es → Goes f s (with_block s es)
acts_goes f s es a = record { is = λ l h. acts_shows s l f es h a }

pub goes_acts : (f g : Low → Low) (s t : State) (es : List Entry) → Goes f s t → Acts t.block g es → Goes (λ l. g (f l)) s (with_block t es)
goes_acts f g s t es a b = goes_then f g s t (with_block t es) a (acts_goes g t es b)

-- where the last step may be refused
pub goes_ok : {T E : Type 0} (r : Result T E) (f : Low → Low) (s t : State) → ((l : Low) → Shows s l → OnOk r (Shows t (f l))) → OnOk r (Goes f s t)
goes_ok (Ok x) f s t h = record { is = h }
goes_ok (Err e) f s t h = tt

-- a root that may jump, and the end of its block
pub branches_ok : {T E : Type 0} (r : Result T E) (a b : Root) (s : State) (es : List Entry) (t : State) → a ≡ b → Acts s.block (λ l. acted a l) es
    → ((l : Low) → Shows (with_block s es) l → OnOk r (Shows t (ended l))) → OnOk r (Goes (λ l. branched b l) s t)
branches_ok r a b s es t e act h =
    let k = subst (λ (x : Root). Acts s.block (λ l. acted x l) es) e act in
    goes_ok r (λ l. branched b l) s t (λ l shows. h (acted b l) (acts_shows s l (λ m. acted b m) es shows k))

-- ---- bodies

-- with another state
abbrev pub with_state : Progress → State → Progress
with_state p s = record { state = s; tables = p.tables }

pub state_shows : (p : Progress) (s : State) (b : Body) (l : Low) → ShowsBody p b → Shows s l → ShowsBody (with_state p s) (with_low l b)
state_shows p s b l h k = record { low = k; tables = h.tables }

pub does_same : (p : Progress) → Does (λ b. b) p p
does_same p = record { is = λ b h. h }

pub does_as : (f g : Body → Body) (p q : Progress) → ((b : Body) → f b ≡ g b) → Does f p q → Does g p q
does_as f g p q e a = record { is = λ b h. body_as q (f b) (g b) (e b) (a.is b h) }

pub does_then : (f g : Body → Body) (p q r : Progress) → Does f p q → Does g q r → Does (λ b. g (f b)) p r
does_then f g p q r a b = record { is = λ x h. b.is (f x) (a.is x h) }

pub goes_does : (f : Low → Low) (p : Progress) (s : State) → Goes f p.state s → Does (λ b. on_low f b) p (with_state p s)
goes_does f p s a = record { is = λ b h. state_shows p s b (f b.low) h (a.is b.low h.low) }

pub does_goes : (f : Body → Body) (g : Low → Low) (p q : Progress) (s : State) → Does f p q → Goes g q.state s → Does (λ b. on_low g (f b)) p (with_state q s)
does_goes f g p q s a b = does_then f (λ x. on_low g x) p q (with_state q s) a (goes_does g q s b)
