-- A call that a block is asked for is a new node: it is equal to no other one. And how it is made, with the root behind it.
use Rattle.std.specs.Prelude.{◌≡◌, ℕ, suc, Bool, true, false, Option, Some, None, List, [], ◌∷◌, fold, length, slice_get}
use Rattle.std.proofs.Common.{⊎_elim, true≢false, refl, sym, ap, subst, ◌∙◌, arith}
use Rattle.std.proofs.lemmas.Option.{none-some}
use Rattle.op_forest.specs.declared.op.Op.{Op}
use Rattle.op_forest.specs.declared.op.Op.TheVariants as op
use Rattle.op_forest.specs.Nodes.{Head}
use Rattle.forests.specs.Bodies.{Setting, does}
use Rattle.forests.specs.Budgets.{with_left}
use Rattle.forests.specs.Words.{Word}
use Rattle.forests.specs.Worlds.{World, Point, at_world, Effect, Next, Went, Exits, Unfinished}
use Rattle.dag_forest.specs.declared.act.Act.TheVariants.{Acts}
use Rattle.dag_forest.specs.declared.entry.Entry.{Entry}
use Rattle.dag_forest.specs.declared.entry.Entry.TheVariants.{Value, Root}
use Rattle.dag_forest.specs.declared.key.Key.{Key}
use Rattle.dag_forest.specs.declared.parts.Parts.{Parts}
use Rattle.dag_forest.specs.Entries.{is_call}
use Rattle.dag_forest.specs.Keys.{key_at, mark_of}
use Rattle.dag_forest.specs.Meaning.{Temporary, Keeps, IsThere, CanKeep, Same, Leaves, is_end, is_handing, Handed, Acted, Ran, Through, Exited, Out, MadeRuns, RunsBehind}
use Rattle.dag_forest.specs.Schedules.{head_of, operands}
use Rattle.dag_forest.specs.Tally.{Tally, with_entry, none, tally, keys_of, key_behind}
use Rattle.dag_seam.proofs.lemmas.Keys.{last_get, within}
use Rattle.lowered_forms.specs.Asked.{key_place}
use Rattle.lowered_forms.proofs.lemmas.KeyPlaces.{found_there}

-- ---- keys of calls

-- a call's mark is its number
record AreNumbered (t : Tally) : Type 0 where
  marks : (m : ℕ) (k : Key) → slice_get t.keys m ≡ Some k → is_call k.parts.operator.op ≡ true → k.mark ≡ m

call_mark : (o : Op) (stretch count : ℕ) → is_call o ≡ true → mark_of o stretch count ≡ count
call_mark op.Call stretch count h = refl
call_mark o stretch count h = absurd (true≢false (sym h))

numbered_value : (t : Tally) (x : Parts) → AreNumbered t → AreNumbered (with_entry t (Value x))
numbered_value t x h = record {
  marks = λ m k is calls. ⊎_elim
      (λ q. h.marks m k q calls)
      (λ q. ap (λ (z : Key). z.mark) (sym q.1) ∙ call_mark x.operator.op t.stretch (length t.keys) (ap (λ (z : Key). is_call z.parts.operator.op) q.1 ∙ calls) ∙ sym q.0)
      (last_get t.keys (key_at t.stretch (length t.keys) x) m k is);
}

numbered_from : (es : List Entry) (t : Tally) → AreNumbered t → AreNumbered (fold with_entry t es)
numbered_from [] t h = h
numbered_from (Value x ∷ es) t h = numbered_from es (with_entry t (Value x)) (numbered_value t x h)
numbered_from (Root x ∷ es) t h = numbered_from es (with_entry t (Root x)) (record { marks = h.marks })

are_numbered : (es : List Entry) → AreNumbered (tally es)
are_numbered es = numbered_from es none (record { marks = λ m k is. absurd (none-some k is) })

new_by : (es : List Entry) (x : Parts) → is_call x.operator.op ≡ true → (o : Option ℕ) → key_place (key_behind es x) (keys_of es) 0 ≡ o → o ≡ None
new_by es x calls None e = refl
new_by es x calls (Some m) e =
    let there = found_there (key_behind es x) (keys_of es) m e in
    let mark = (are_numbered es).marks m (key_behind es x) there calls in
    let own = call_mark x.operator.op (tally es).stretch (length (keys_of es)) calls in
    let lt = within (keys_of es) m (key_behind es x) there in
    absurd (omega (arith, mark, own, lt))

pub call_is_new : (es : List Entry) (x : Parts) → is_call x.operator.op ≡ true → key_place (key_behind es x) (keys_of es) 0 ≡ None
call_is_new es x calls = new_by es x calls (key_place (key_behind es x) (keys_of es) 0) refl

-- ---- how a call is made

module _ (kept : Option Temporary) (s : Setting) (keeps : Keeps) (made : ℕ → Bool) (h : Head) (ws : List Word) (left : ℕ) (w : World) (r : Ran) (go : Word → Point → Type 0) where
  -- it has no temporary
  pub plain_call : (v : Word) (p : Point) → kept ≡ None → does s h ws (with_left left w) ≡ Went (v ∷ []) p Next → Same keeps made w p.world → go v p → MadeRuns true kept s keeps made h ws (suc left) w r go
  plain_call v p is e same g =
      subst (λ (z : Option Temporary). MadeRuns true z s keeps made h ws (suc left) w r go) (sym is)
      (subst (λ (z : Effect). Handed z r (λ u q. Same keeps made w q.world × go u q)) (sym e) (same, g))

  -- it is kept
  pub kept_call : (t : Temporary) (v : Word) (p : Point) → kept ≡ Some t → does s h ws (with_left left w) ≡ Went (v ∷ []) p Next → Same keeps made w p.world → CanKeep t v → IsThere t p.world → go v (at_world p (t.put v p.world)) → MadeRuns true kept s keeps made h ws (suc left) w r go
  kept_call t v p is e same can there g =
      subst (λ (z : Option Temporary). MadeRuns true z s keeps made h ws (suc left) w r go) (sym is)
      (subst (λ (z : Effect). Handed z r (λ u q. Same keeps made w q.world × CanKeep t u × IsThere t q.world × go u (at_world q (t.put u q.world)))) (sym e) (same, can, there, g))

  -- it ends the run
  pub exited_call : (status : ℕ) (end : World) → does s h ws (with_left left w) ≡ Exits status end → r ≡ Exited status end → MadeRuns true kept s keeps made h ws (suc left) w r go
  exited_call status end e is = by kept
    where
      by : (z : Option Temporary) → MadeRuns true z s keeps made h ws (suc left) w r go
      by None = subst (λ (z : Effect). Handed z r (λ u q. Same keeps made w q.world × go u q)) (sym e) is
      by (Some t) = subst (λ (z : Effect). Handed z r (λ u q. Same keeps made w q.world × CanKeep t u × IsThere t q.world × go u (at_world q (t.put u q.world)))) (sym e) is

  pub stopped_call : (end : World) → does s h ws (with_left left w) ≡ Unfinished end → r ≡ Out end → MadeRuns true kept s keeps made h ws (suc left) w r go
  stopped_call end e is = by kept
    where
      by : (z : Option Temporary) → MadeRuns true z s keeps made h ws (suc left) w r go
      by None = subst (λ (z : Effect). Handed z r (λ u q. Same keeps made w q.world × go u q)) (sym e) is
      by (Some t) = subst (λ (z : Effect). Handed z r (λ u q. Same keeps made w q.world × CanKeep t u × IsThere t q.world × go u (at_world q (t.put u q.world)))) (sym e) is

-- there is no step for it
pub no_step_call : (kept : Option Temporary) (s : Setting) (keeps : Keeps) (made : ℕ → Bool) (h : Head) (ws : List Word) (w : World) (r : Ran) (go : Word → Point → Type 0) → r ≡ Out w → MadeRuns true kept s keeps made h ws 0 w r go
no_step_call None s keeps made h ws w r go is = is
no_step_call (Some t) s keeps made h ws w r go is = is

-- ---- the root behind it

module _ (kept : Option Temporary) (s : Setting) (keeps : Keeps) (x : Parts) (made : ℕ → Bool) (values : ℕ → Word) (left : ℕ) (w after : World) where
  pub root_shares : kept ≡ None → does s (head_of x) (operands x.kids values) (with_left left w) ≡ Went [] (with_left left after) Next → Leaves (is_end x) keeps made w after
      → RunsBehind (is_handing true kept) s keeps (Acts x ∷ []) made values left w (Through values (with_left left after))
  root_shares is e leaves =
      subst (λ (z : Option Temporary). RunsBehind (is_handing true z) s keeps (Acts x ∷ []) made values left w (Through values (with_left left after))) (sym is)
      (subst (λ (z : Effect). Acted z (Through values (with_left left after)) (λ p. Leaves (is_end x) keeps made w p.world × RunsBehind false s keeps [] made values p.left p.world (Through values (with_left left after)))) (sym e) (leaves, refl))

  pub root_steps : (t : Temporary) → kept ≡ Some t → does s (head_of x) (operands x.kids values) (with_left left w) ≡ Went [] (with_left left after) Next → Leaves (is_end x) keeps made w after
      → RunsBehind (is_handing true kept) s keeps (Acts x ∷ []) made values (suc left) w (Through values (with_left left after))
  root_steps t is e leaves =
      subst (λ (z : Option Temporary). RunsBehind (is_handing true z) s keeps (Acts x ∷ []) made values (suc left) w (Through values (with_left left after))) (sym is)
      (subst (λ (z : Effect). Acted z (Through values (with_left left after)) (λ p. Leaves (is_end x) keeps made w p.world × RunsBehind false s keeps [] made values p.left p.world (Through values (with_left left after)))) (sym e) (leaves, refl))
