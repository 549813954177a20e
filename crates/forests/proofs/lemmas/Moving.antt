-- Lemmas: where a tree's run may go on: behind it; with a return at its root to the caller; with a comparison or a jump at its
-- root at a label.
use Rattle.std.proofs.Common.{◌≡◌, ℕ, Bool, true, false, IsFalse, Option, List, [], ◌∷◌, ◌++◌, refl, sym, subst, ◌∙◌, true≢false}
use Rattle.op_forest.specs.declared.op.Op.{Op}
use Rattle.op_forest.specs.declared.op.Op.TheVariants as op
use Rattle.op_forest.specs.Nodes.{Head, Node, Leaf, One, Two, head_of}
use Rattle.op_forest.specs.Signature.{moves}
use Rattle.forests.specs.Words.{Word}
use Rattle.forests.specs.Objects.{Object}
use Rattle.forests.specs.Worlds.{Point, Move, Next, To, End, Effect, Went, Exits, Unfinished, Stuck, then_do}
use Rattle.forests.specs.Actions.{Calls, Action, Gave, Stored, Passed, Called, Moved, Meaningless, handed, effect_of}
use Rattle.forests.specs.Rows.{acts}
use Rattle.forests.specs.EachRow.{jumps, IsOfKinds}
use Rattle.forests.proofs.lemmas.EachRow.{each_row}
use Rattle.forests.specs.Bodies.{Setting, does, evaluate}
use Rattle.forests.specs.Moving.{Goes, IsNext, IsNoJump}

-- the action, where it moves, moves so
abbrev Moves : (Move → Type 0) → Action → Type 0
Moves M (Gave v) = Unit {0}
Moves M (Stored objects) = Unit {0}
Moves M (Passed w) = Unit {0}
Moves M (Called valued f) = Unit {0}
Moves M (Moved mv) = M mv
Moves M Meaningless = Unit {0}

pub goes_to : (M : Move → Type 0) (e : Effect) (ws : List Word) (p : Point) (mv : Move) → Goes M e → e ≡ Went ws p mv → M mv
goes_to M e ws p mv h is = subst (λ x. Goes M x) is h

then_goes : (M : Move → Type 0) (e : Effect) (go : List Word → Point → Effect) → ((ws : List Word) (p : Point) → Goes M (go ws p)) → Goes M (then_do e go)
then_goes M (Went ws p Next) go h = h ws p
then_goes M (Went ws p (To l)) go h = tt
then_goes M (Went ws p (End v)) go h = tt
then_goes M (Exits status w) go h = tt
then_goes M (Unfinished w) go h = tt
then_goes M Stuck go h = tt

handed_goes : (M : Move → Type 0) → M Next → (valued : Bool) (ws : List Word) (p : Point) → Goes M (handed valued ws p)
handed_goes M next valued [] p = tt
handed_goes M next true (w ∷ ws) p = next
handed_goes M next false (w ∷ ws) p = next

module _ (M : Move → Type 0) (next : M Next) where
  action_goes : (call : Calls) (x : Action) (p : Point) → Moves M x → Goes M (effect_of call x p)
  action_goes call (Gave v) p h = next
  action_goes call (Stored objects) p h = next
  action_goes call (Passed w) p h = next
  action_goes call (Called valued f) p h = then_goes M (call f p) (λ ws p1. handed valued ws p1) (λ ws p1. handed_goes M next valued ws p1)
  action_goes call (Moved mv) p h = h
  action_goes call Meaningless p h = tt

  moves_by_kinds : (objects : List Object) → IsOfKinds (Moves M) objects
  moves_by_kinds objects = record { value = λ w. tt; stored = λ p bytes. tt; passed = λ w. tt; call = λ valued f. tt; next = next; nothing = tt }

  does_goes : (s : Setting) (h : Head) (ws : List Word) (p : Point) → ((v : Option Word) → h.operator.op ≡ op.Ret → M (End v)) → ((l : ℕ) → jumps h.operator.op ≡ true → M (To l)) → Goes M (does s h ws p)
  does_goes s h ws p end to =
      action_goes s.call (acts s.environment h ws p.world.objects) p (each_row (Moves M) p.world.objects (moves_by_kinds p.world.objects) s.environment h ws end to)

  evaluate_goes : (s : Setting) (t : Node) (p : Point) → ((v : Option Word) → (head_of t).operator.op ≡ op.Ret → M (End v)) → ((l : ℕ) → jumps (head_of t).operator.op ≡ true → M (To l)) → Goes M (evaluate s t p)
  evaluate_goes s (Leaf h) p end to = does_goes s h [] p end to
  evaluate_goes s (One h a) p end to = then_goes M (evaluate s a p) (λ xs p1. does s h xs p1) (λ xs p1. does_goes s h xs p1 end to)
  evaluate_goes s (Two h a b) p end to =
      then_goes M (evaluate s a p) (λ xs p1. then_do (evaluate s b p1) (λ ys p2. does s h (xs ++ ys) p2))
      (λ xs p1. then_goes M (evaluate s b p1) (λ ys p2. does s h (xs ++ ys) p2) (λ ys p2. does_goes s h (xs ++ ys) p2 end to))

return_moves : (o : Op) → o ≡ op.Ret → moves o ≡ true
return_moves o is = subst (λ (x : Op). moves x ≡ true) (sym is) refl

jump_moves : (o : Op) → jumps o ≡ true → moves o ≡ true
jump_moves op.Eq h = refl
jump_moves op.Ne h = refl
jump_moves op.Lt h = refl
jump_moves op.Le h = refl
jump_moves op.Gt h = refl
jump_moves op.Ge h = refl
jump_moves op.Jump h = refl
jump_moves o h = absurd (let never : ⊥ = cc in never)

-- a tree whose root is no return, comparison or jump goes on behind it
pub evaluate_next : (s : Setting) (t : Node) (p : Point) → IsFalse (moves (head_of t).operator.op) → Goes IsNext (evaluate s t p)
evaluate_next s t p still =
    evaluate_goes IsNext refl s t p
    (λ v is. absurd (true≢false (sym (return_moves (head_of t).operator.op is) ∙ still)))
    (λ l is. absurd (true≢false (sym (jump_moves (head_of t).operator.op is) ∙ still)))

-- one whose root is no comparison or jump doesn't go on at a label
pub no_jump : (s : Setting) (t : Node) (p : Point) → IsFalse (jumps (head_of t).operator.op) → Goes IsNoJump (evaluate s t p)
no_jump s t p still = evaluate_goes IsNoJump tt s t p (λ v is. tt) (λ l is. absurd (true≢false (sym is ∙ still)))
