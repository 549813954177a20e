-- Choices by a test, and switches.
use Rattle.std.specs.Prelude.{◌≡◌, ℕ, suc, ℤ, Bool, true, false, Option, List}
use Rattle.std.proofs.Common.{sym, ap, ◌∙◌, subst}
use Rattle.c_meaning.specs.declared.core_stmt.CoreCase.{CoreCase}
use Rattle.c_meaning.specs.CoreTrees.{type_of}
use Rattle.c_meaning.specs.Scalars.{is_signed}
use Rattle.c_meaning.specs.Values.{CoreTree}
use Rattle.dag_forest.specs.declared.entry.Entry.{Entry}
use Rattle.lowered_forms.specs.Contexts.{Context}
use Rattle.lowered_forms.specs.Expressions.{low_e, low_test}
use Rattle.lowered_forms.specs.Lows.{Low, jumped, marked, slot_offset, with_label, with_slot}
use Rattle.lowered_forms.specs.Values.{Lowered, stored_in}
use Rattle.lowered_statements.specs.Bodies.{Body, on_low, with_low}
use Rattle.lowered_statements.specs.Functions.{Function, Exits, label_at, label_or, placed_cases}
use Rattle.lowered_statements.specs.Rows.{choice_by, chosen_by, one_way, two_ways, switch_row, switched}
use Rattle.lowered_statements.specs.Searches.{Choice}
use Rattle.lowered_statements.specs.Statements.{StmtTree, low_s}
use Rattle.lowering_steps.specs.declared.operand.Operand.{Operand}
use Rattle.lowering_steps.specs.declared.state.State.{State}
use Rattle.lowering_steps.specs.Asking.{Acts}
use Rattle.lowering_steps.specs.Operands.{typed_of}
use Rattle.lowering_steps.specs.States.{Shows}
use Rattle.lowering_steps.proofs.lemmas.Stating.{with_block, acts_shows}
use Rattle.statement_steps.specs.declared.progress.Progress.{Progress}
use Rattle.statement_steps.specs.Progresses.{Does}
use Rattle.statement_steps.proofs.lemmas.Going.{body_as, does_as, with_state, state_shows}
use Rattle.c_lower_stmt.specs.Ways.{IsKept, KeepsValue, kept}
use Rattle.c_lower_stmt.proofs.lemmas.Rows.{ComesTo}

abbrev pub TakesLabel : ℕ → State → State → Type 0
TakesLabel n s t = (l : Low) → Shows s l → (n ≡ l.labels) × Shows t (with_label l)

abbrev pub GoesBy : (Low → Low) → State → State → Type 0
GoesBy step s t = (l : Low) → Shows s l → Shows t (step l)

-- a statement behind a label
pub behind_label : (f : Function) (y : Exits) (t : StmtTree) (n m : ℕ) (p : Progress) (s : State) (q : Progress)
    → n ≡ label_at f m → GoesBy (λ l. marked n l) p.state s → Does (λ b. low_s f y t b) (with_state p s) q
    → Does (λ b. low_s f y t (on_low (λ l. marked (label_at f m) l) b)) p q
behind_label f y t n m p s q e mark does = record {
  is = λ b h.
      let l1 = marked n b.low in
      body_as q (low_s f y t (with_low l1 b)) (low_s f y t (on_low (λ l. marked (label_at f m) l) b))
      (λ i. low_s f y t (with_low (marked (e i) b.low) b))
      (does.is (with_low l1 b) (state_shows p s b l1 h (mark b.low h.low)));
}

-- a jump to a label of the program
pub jumps_there : (f : Function) (n m : ℕ) (p : Progress) (s : State)
    → n ≡ label_at f m → GoesBy (λ l. jumped n l) p.state s → Does (λ b. on_low (λ l. jumped (label_at f m) l) b) p (with_state p s)
jumps_there f n m p s e jump = record {
  is = λ b h.
      body_as (with_state p s) (with_low (jumped n b.low) b) (on_low (λ l. jumped (label_at f m) l) b) (λ i. with_low (jumped (e i) b.low) b)
      (state_shows p s b (jumped n b.low) h (jump b.low h.low));
}

-- ---- by a test

pub record TakesOne (f : Function) (e : CoreTree) (then : Body → Body) (end : ℕ) (p : Progress) (s t : State) (q : Progress) (u : State) : Type 0 where
  pub label : TakesLabel end p.state s
  pub test : GoesBy (λ l. low_test f.context e end false l) s t
  pub way : Does then (with_state p t) q
  pub mark : GoesBy (λ l. marked end l) q.state u

pub takes_one : (f : Function) (e : CoreTree) (then : Body → Body) (end : ℕ) (p : Progress) (s t : State) (q : Progress) (u : State) → TakesOne f e then end p s t q u
    → Does (λ b. one_way f e then b.low.labels (on_low (λ l. with_label l) b)) p (with_state q u)
takes_one f e then end p s t q u k = record {
  is = λ b h.
      let a = k.label b.low h.low in
      let l1 = low_test f.context e end false (with_label b.low) in
      let c = k.way.is (with_low l1 b) (state_shows p t b l1 h (k.test (with_label b.low) a.1)) in
      let x : Body = then (with_low l1 b) in
      body_as (with_state q u) (with_low (marked end x.low) x) (one_way f e then b.low.labels (on_low (λ l. with_label l) b))
      (λ i. one_way f e then (a.0 i) (on_low (λ l. with_label l) b))
      (state_shows q u x (marked end x.low) c (k.mark x.low c.low));
}

pub record TakesTwo (f : Function) (e : CoreTree) (then otherwise : Body → Body) (second end : ℕ) (p : Progress) (s s1 t : State) (q : Progress) (u v : State) (r : Progress) (w : State) : Type 0 where
  pub label : TakesLabel second p.state s
  pub other : TakesLabel end s s1
  pub test : GoesBy (λ l. low_test f.context e second false l) s1 t
  pub first : Does then (with_state p t) q
  pub jump : GoesBy (λ l. jumped end l) q.state u
  pub mark : GoesBy (λ l. marked second l) u v
  pub rest : Does otherwise (with_state q v) r
  pub last : GoesBy (λ l. marked end l) r.state w

pub takes_two : (f : Function) (e : CoreTree) (then otherwise : Body → Body) (second end : ℕ) (p : Progress) (s s1 t : State) (q : Progress) (u v : State) (r : Progress) (w : State)
    → TakesTwo f e then otherwise second end p s s1 t q u v r w
    → Does (λ b. two_ways f e then otherwise b.low.labels (suc b.low.labels) (on_low (λ l. with_label (with_label l)) b)) p (with_state r w)
takes_two f e then otherwise second end p s s1 t q u v r w k = record {
  is = λ b h.
      let a = k.label b.low h.low in
      let o = k.other (with_label b.low) a.1 in
      let l1 = low_test f.context e second false (with_label (with_label b.low)) in
      let c = k.first.is (with_low l1 b) (state_shows p t b l1 h (k.test (with_label (with_label b.low)) o.1)) in
      let x : Body = then (with_low l1 b) in
      let l2 = marked second (jumped end x.low) in
      let d = k.rest.is (with_low l2 x) (state_shows q v x l2 c (k.mark (jumped end x.low) (k.jump x.low c.low))) in
      let z : Body = otherwise (with_low l2 x) in
      body_as (with_state r w) (with_low (marked end z.low) z) (two_ways f e then otherwise b.low.labels (suc b.low.labels) (on_low (λ l. with_label (with_label l)) b))
      (λ i. two_ways f e then otherwise (a.0 i) (o.0 i) (on_low (λ l. with_label (with_label l)) b))
      (state_shows r w z (marked end z.low) d (k.last z.low d.low));
}

pub takes_by : (b : Bool) (f : Function) (e : CoreTree) (then otherwise : Body → Body) (p q : Progress) → b ≡ true
    → Does (λ x. one_way f e then x.low.labels (on_low (λ l. with_label l) x)) p q → Does (λ x. choice_by b f e then otherwise x) p q
takes_by b f e then otherwise p q is d = does_as _ _ p q (λ x. sym (ap (λ c. choice_by c f e then otherwise x) is)) d

pub takes_both : (b : Bool) (f : Function) (e : CoreTree) (then otherwise : Body → Body) (p q : Progress) → b ≡ false
    → Does (λ x. two_ways f e then otherwise x.low.labels (suc x.low.labels) (on_low (λ l. with_label (with_label l)) x)) p q → Does (λ x. choice_by b f e then otherwise x) p q
takes_both b f e then otherwise p q is d = does_as _ _ p q (λ x. sym (ap (λ c. choice_by c f e then otherwise x) is)) d

-- ---- by a number

abbrev choice_in : ℤ → Bool → ℕ → Choice
choice_in slot signed default = record { slot = slot; signed = signed; default = default }

abbrev exits_in : ℕ → Exits → Exits
exits_in end y = record { breaks = end; continues = y.continues }

-- its value waits in a slot, and there is a label for its end
pub keeps_value : (x : Context) (e : CoreTree) (z : ℤ) (end : ℕ) (v : Operand) (s t u : State) (es : List Entry) (w : State)
    → ComesTo (λ l. low_e x e l) s v t → ((l : Low) → Shows t l → (z ≡ slot_offset l) × Shows u (with_slot l)) → Acts u.block (λ l. stored_in z (typed_of v) l) es → TakesLabel end (with_block u es) w
    → KeepsValue x e s z end w
keeps_value x e z end v s t u es w comes slot act label = record {
  is = λ l h.
      let k = comes l h in
      let a = slot k.low k.shows in
      let l1 = stored_in z (typed_of v) (with_slot k.low) in
      let b = label l1 (acts_shows u (with_slot k.low) (λ m. stored_in z (typed_of v) m) es a.1 act) in
      subst (λ (r : Lowered). IsKept r z end w) (sym k.is)
      (record { slot_is = a.0; end_is = b.0; shows = subst (λ (y : ℤ). Shows w (with_label (stored_in y (typed_of v) (with_slot k.low)))) a.0 b.1 });
}

pub record Switches (f : Function) (e : CoreTree) (cases : List CoreCase) (default : Option ℕ) (body : Exits → Body → Body) (y : Exits)
    (slot : ℤ) (signed : Bool) (end other : ℕ) (p : Progress) (s : State) (q r : Progress) (t : State) : Type 0 where
  pub sign : signed ≡ is_signed (type_of e)
  pub value : KeepsValue f.context e p.state slot end s
  pub label : other ≡ label_or f end default
  pub search : Does (λ b. chosen_by f (choice_in slot signed other) (placed_cases f cases) b) (with_state p s) q
  pub rest : Does (λ b. body (exits_in end y) b) q r
  pub mark : GoesBy (λ l. marked end l) r.state t

pub switches : (f : Function) (e : CoreTree) (cases : List CoreCase) (default : Option ℕ) (body : Exits → Body → Body) (y : Exits)
    (slot : ℤ) (signed : Bool) (end other : ℕ) (p : Progress) (s : State) (q r : Progress) (t : State)
    → Switches f e cases default body y slot signed end other p s q r t → Does (λ b. switch_row f e cases default body y b) p (with_state r t)
switches f e cases default body y slot signed end other p s q r t k = record {
  is = λ b h.
      let a = k.value.is b.low h.low in
      let v = low_e f.context e b.low in
      let l1 = kept v in
      let c = k.search.is (with_low l1 b) (state_shows p s b l1 h a.shows) in
      let x : Body = chosen_by f (choice_in slot signed other) (placed_cases f cases) (with_low l1 b) in
      let d = k.rest.is x c in
      let z : Body = body (exits_in end y) x in
      body_as (with_state r t) (with_low (marked end z.low) z) (switch_row f e cases default body y b)
      ((λ i. switched f (choice_in slot signed (k.label i)) (placed_cases f cases) body y end (with_low l1 b))
      ∙ (λ i. switched f (choice_in (a.slot_is i) (k.sign i) (label_or f (a.end_is i) default)) (placed_cases f cases) body y (a.end_is i) (with_low l1 b)))
      (state_shows r t z (marked end z.low) d (k.mark z.low d.low));
}
