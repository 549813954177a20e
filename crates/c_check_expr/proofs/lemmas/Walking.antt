-- Walks one behind the other: what is typed of parts in order, and then of the construct.
use Rattle.std.proofs.Common.{◌≡◌, ℕ, length, refl, sym, ap, ◌∙◌, subst}
use Rattle.std.specs.Prelude.{Result, Ok, Err, IfOk, IfErr, IsErrAnd}
use Rattle.std.proofs.lemmas.Int.{to_z-of_z}
use Rattle.c_symbols.specs.Scoping.{Scoping}
use Rattle.c_types.specs.Table.{Table, Grows, tags}
use Rattle.c_meaning.specs.CoreTrees.{CoreOf, IsIn}
use Rattle.c_meaning.specs.Nodes.{ExprNode}
use Rattle.c_meaning.specs.State.{State}
use Rattle.c_meaning.specs.Typing.{Outcome, Fine, at_expr, then_do}
use Rattle.c_values.specs.declared.check_fault.CheckFault.{CheckFault}
use Rattle.c_values.specs.declared.check_fault.CheckFault.TheVariants.{Constraint, Limit, Memory}
use Rattle.c_check_expr.specs.AtNode.{Becomes, IsRefused, Tells}
use Rattle.c_check_expr.specs.Keeps.{Keeps}
use Rattle.c_check_expr.specs.Known.{AreSymbolsIn, state_of}
use Rattle.c_check_expr.specs.Walks.{Walks, core}
use Rattle.c_check_expr.specs.SymbolsStay.{state_stays}
use Rattle.c_check_expr.specs.Kept.{keeps_grown, keeps_itself, keeps_on}

pub ruleset signed_rules = (to_z-of_z)

-- ---- outcomes

-- a fault of the first part is that of the whole
pub tells_first : {T U : Type 0} (f : CheckFault) (o : Outcome T) (next : State → T → Outcome U) → Tells f o → Tells f (then_do o next)
tells_first (Constraint n l) o next h = rw h refl
tells_first (Limit w l) o next h = rw h refl
tells_first Memory o next h = tt

pub tells_same : {T : Type 0} (f : CheckFault) (o p : Outcome T) → o ≡ p → Tells f p → Tells f o
tells_same f o p e h = subst (λ x. Tells f x) (sym e) h

-- ---- walks

-- the same outcome, said otherwise
pub walk_as : {V T : Type 0} {view : Table → V → T} {IsWithin : ℕ → V → Type 0} (o p : Outcome T) {s u : Scoping} {a b : Table} {r : Result V CheckFault} → p ≡ o → Walks view IsWithin o s a u b r → Walks view IsWithin p s a u b r
walk_as {view = view} {IsWithin = IsWithin} o p {s = s} {u = u} {a = a} {b = b} {r = r} e w = subst (λ x. Walks view IsWithin x s a u b r) (sym e) w

-- a value that is known without any walk
pub walk_none : {V T : Type 0} (view : Table → V → T) (IsWithin : ℕ → V → Type 0) (s : Scoping) (a : Table) (v : V) → AreSymbolsIn (length a.forms) s.symbols → IsWithin (length a.forms) v → Walks view IsWithin (Fine (state_of s a) (view a v)) s a s a (Ok v)
walk_none view IsWithin s a v i w = record { ok = refl; err = tt; within = w; keeps = keeps_itself s a i }

-- want of memory
pub walk_memory : {V T : Type 0} (view : Table → V → T) (IsWithin : ℕ → V → Type 0) (o : Outcome T) (s u : Scoping) (a b : Table) → Keeps s a u b → Walks view IsWithin o s a u b (Err Memory)
walk_memory view IsWithin o s u a b k = record { ok = tt; err = tt; within = tt; keeps = k }

-- the first part has a fault
pub walk_stop : {V W T U : Type 0} {view : Table → V → T} {IsWithin : ℕ → V → Type 0} (other : Table → W → U) (AreWithin : ℕ → W → Type 0) (o : Outcome T) (next : State → T → Outcome U) (s u : Scoping) (a b : Table) (e : CheckFault) → Walks view IsWithin o s a u b (Err e) → Walks other AreWithin (then_do o next) s a u b (Err e)
walk_stop other AreWithin o next s u a b e w = record { ok = tt; err = tells_first e o next w.err; within = tt; keeps = w.keeps }

-- the first part is fine, and what comes behind it
then_ok : {W T U : Type 0} (other : Table → W → U) (o : Outcome T) (next : State → T → Outcome U) (m : State) (t : T) (u : State) (b : Table) → o ≡ Fine m t → (r : Result W CheckFault) → IfOk r (λ v. next m t ≡ Fine u (other b v)) → IfOk r (λ v. then_do o next ≡ Fine u (other b v))
then_ok other o next m t u b e (Ok v) h = rw e h
then_ok other o next m t u b e (Err f) h = tt

then_err : {W T U : Type 0} (o : Outcome T) (next : State → T → Outcome U) (m : State) (t : T) → o ≡ Fine m t → (r : Result W CheckFault) → IfErr r (λ f. Tells f (next m t)) → IfErr r (λ f. Tells f (then_do o next))
then_err o next m t e (Ok v) h = tt
then_err o next m t e (Err f) h = tells_same f (then_do o next) (next m t) (rw e refl) h

pub walk_then : {V W T U : Type 0} {view : Table → V → T} {IsWithin : ℕ → V → Type 0} (other : Table → W → U) (AreWithin : ℕ → W → Type 0) (o : Outcome T) (next : State → T → Outcome U) (s m u : Scoping) (a b c : Table) (v : V) (r : Result W CheckFault)
    → Walks view IsWithin o s a m b (Ok v) → Walks other AreWithin (next (state_of m b) (view b v)) m b u c r → Walks other AreWithin (then_do o next) s a u c r
walk_then {view = view} other AreWithin o next s m u a b c v r w x =
    record {
      ok = then_ok other o next (state_of m b) (view b v) (state_of u c) c w.ok r x.ok;
      err = then_err o next (state_of m b) (view b v) w.ok r x.err;
      within = x.within;
      keeps = keeps_on s m u a b c w.keeps x.keeps;
    }

-- ---- nodes

becomes : (s : Scoping) (a b : Table) (line : ℕ) (n : ExprNode) → state_of s b ≡ state_of s a → (r : Result (CoreOf ℕ) CheckFault) → IfOk r (λ c. Becomes a line n b c) → IfOk r (λ c. at_expr (state_of s a) line n ≡ Fine (state_of s b) (core b c))
becomes s a b line n e (Ok c) h = h (state_of s a) refl ∙ ap (λ x. Fine x (core b c)) (sym e)
becomes s a b line n e (Err f) h = tt

refused : (s : Scoping) (a : Table) (line : ℕ) (n : ExprNode) → (r : Result (CoreOf ℕ) CheckFault) → IfErr r (λ f. IsRefused a line n f) → IfErr r (λ f. Tells f (at_expr (state_of s a) line n))
refused s a line n (Ok c) h = tt
refused s a line n (Err f) h = h (state_of s a) refl

-- a node whose parts are checked
pub walk_node : (s : Scoping) (a b : Table) (line : ℕ) (n : ExprNode) (r : Result (CoreOf ℕ) CheckFault) → AreSymbolsIn (length a.forms) s.symbols → Grows a b
    → IfOk r (λ c. Becomes a line n b c) → IfErr r (λ f. IsRefused a line n f) → IfOk r (λ c. IsIn (length b.forms) c) → Walks core IsIn (at_expr (state_of s a) line n) s a s b r
walk_node s a b line n r i g ok err within =
    record {
      ok = becomes s a b line n (state_stays s a b g i) r ok;
      err = refused s a line n r err;
      within = within;
      keeps = keeps_grown s a b i g;
    }

node_ok : {V T : Type 0} (view : Table → V → T) (node : State → Outcome T) (s u : State) (b d : Table) (r : Result V CheckFault) → s.tags ≡ tags b → u ≡ s → IfOk r (λ v. (s : State) → s.tags ≡ tags b → node s ≡ Fine s (view d v)) → IfOk r (λ v. node s ≡ Fine u (view d v))
node_ok view node s u b d (Ok v) e g h = h s e ∙ ap (λ x. Fine x (view d v)) (sym g)
node_ok view node s u b d (Err f) e g h = tt

node_err : {V T : Type 0} (node : State → Outcome T) (s : State) (b : Table) (r : Result V CheckFault) → s.tags ≡ tags b → IfErr r (λ e. (s : State) → s.tags ≡ tags b → Tells e (node s)) → IfErr r (λ e. Tells e (node s))
node_err node s b (Ok f) e h = tt
node_err node s b (Err f) e h = h s e

-- a node of any kind whose parts are checked, which looks at no names
pub walk_grown : {V T : Type 0} (view : Table → V → T) (IsWithin : ℕ → V → Type 0) (node : State → Outcome T) (u : Scoping) (b d : Table) (r : Result V CheckFault) → AreSymbolsIn (length b.forms) u.symbols → Grows b d
    → IfOk r (λ v. (s : State) → s.tags ≡ tags b → node s ≡ Fine s (view d v)) → IfErr r (λ e. (s : State) → s.tags ≡ tags b → Tells e (node s)) → IfOk r (IsWithin (length d.forms)) → Walks view IsWithin (node (state_of u b)) u b u d r
walk_grown view IsWithin node u b d r i g ok err within =
    record {
      ok = node_ok view node (state_of u b) (state_of u d) b d r refl (state_stays u b d g i) ok;
      err = node_err node (state_of u b) b r refl err;
      within = within;
      keeps = keeps_grown u b d i g;
    }

-- ---- parts in order, and what comes behind them

-- what a call answers is passed on
pub passed : {V T : Type 0} {view : Table → V → T} {IsWithin : ℕ → V → Type 0} {o : Outcome T} {s u : Scoping} {a b : Table} {e : CheckFault} (r : Result V CheckFault) → IsErrAnd r (λ d. d ≡ e) → Walks view IsWithin o s a u b (Err e) → Walks view IsWithin o s a u b r
passed (Ok v) h w = absurd h
passed {view = view} {IsWithin = IsWithin} {o = o} {s = s} {u = u} {a = a} {b = b} (Err d) h w = subst (λ x. Walks view IsWithin o s a u b (Err x)) (sym h) w

pub first_stops : {V W T U : Type 0} {view : Table → V → T} {IsWithin : ℕ → V → Type 0} {s u : Scoping} {a b : Table} {e : CheckFault} (other : Table → W → U) (AreWithin : ℕ → W → Type 0) (o : Outcome T) (next : State → T → Outcome U) (r : Result W CheckFault)
    → IsErrAnd r (λ d. d ≡ e) → Walks view IsWithin o s a u b (Err e) → Walks other AreWithin (then_do o next) s a u b r
first_stops {s = s} {u = u} {a = a} {b = b} {e = e} other AreWithin o next r h w = passed r h (walk_stop other AreWithin o next s u a b e w)

pub second_stops : {V X W T Y U : Type 0} {view : Table → V → T} {IsWithin : ℕ → V → Type 0} {second : Table → X → Y} {IsSecond : ℕ → X → Type 0} {s m u : Scoping} {a b c : Table} {v : V} {e : CheckFault} (other : Table → W → U) (AreWithin : ℕ → W → Type 0) (o : Outcome T) (p : State → T → Outcome Y) (next : State → T → Y → Outcome U) (r : Result W CheckFault)
    → IsErrAnd r (λ d. d ≡ e) → Walks view IsWithin o s a m b (Ok v) → Walks second IsSecond (p (state_of m b) (view b v)) m b u c (Err e) → Walks other AreWithin (then_do o (λ m x. then_do (p m x) (λ u y. next u x y))) s a u c r
second_stops {view = view} {s = s} {m = m} {u = u} {a = a} {b = b} {c = c} {v = v} {e = e} other AreWithin o p next r h w x =
    passed r h (walk_then other AreWithin o (λ m x. then_do (p m x) (λ u y. next u x y)) s m u a b c v (Err e) w
    (walk_stop other AreWithin (p (state_of m b) (view b v)) (λ u y. next u (view b v) y) m u b c e x))

pub both_go : {V X W T Y U : Type 0} {view : Table → V → T} {IsWithin : ℕ → V → Type 0} {second : Table → X → Y} {IsSecond : ℕ → X → Type 0} {s m u z : Scoping} {a b c d : Table} {v : V} {x : X} {r : Result W CheckFault} (other : Table → W → U) (AreWithin : ℕ → W → Type 0) (o : Outcome T) (p : State → T → Outcome Y) (next : State → T → Y → Outcome U)
    → Walks view IsWithin o s a m b (Ok v) → Walks second IsSecond (p (state_of m b) (view b v)) m b u c (Ok x) → view c v ≡ view b v → Walks other AreWithin (next (state_of u c) (view c v) (second c x)) u c z d r
    → Walks other AreWithin (then_do o (λ m x. then_do (p m x) (λ u y. next u x y))) s a z d r
both_go {view = view} {second = second} {s = s} {m = m} {u = u} {z = z} {a = a} {b = b} {c = c} {d = d} {v = v} {x = x} {r = r} other AreWithin o p next w w2 e w3 =
    walk_then other AreWithin o (λ m x. then_do (p m x) (λ u y. next u x y)) s m z a b d v r w
    (walk_then other AreWithin (p (state_of m b) (view b v)) (λ u y. next u (view b v) y) m u z b c d x r w2
    (subst (λ t. Walks other AreWithin (next (state_of u c) t (second c x)) u c z d r) e w3))

pub memory_stops : {V T : Type 0} (view : Table → V → T) (IsWithin : ℕ → V → Type 0) (o : Outcome T) (s u : Scoping) (a b : Table) (r : Result V CheckFault) → IsErrAnd r (λ d. d ≡ Memory) → Keeps s a u b → Walks view IsWithin o s a u b r
memory_stops view IsWithin o s u a b r h k = passed r h (walk_memory view IsWithin o s u a b k)
