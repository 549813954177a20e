-- The instructions of generated code keep the laws of a machine.
use Rattle.std.specs.Prelude.{◌≡◌, ℕ, zero, suc, ◌<◌, ◌≤◌, List, [], ◌∷◌, Bool, true, false, Option, Some, None, length, refl}
use Rattle.std.proofs.Common.{arith}
use Rattle.objects.specs.declared.operators.Unary.TheVariants.{Negate}
use Rattle.objects.specs.declared.value.Value.TheVariants.{Number, Pointer, Function}
use Rattle.forests.specs.Words.{Word}
use Rattle.forests.specs.Words as word
use Rattle.forests.specs.Worlds.{Point, Move, Next, To, End, Effect, Went, Exits, Unfinished, Stuck, then_do}
use Rattle.forests.specs.Actions.{Calls, Action, Gave, Stored, Passed, Called, Moved, Meaningless, gave, handed, effect_of}
use Rattle.forests.specs.Bodies.{Setting}
use Rattle.forests.specs.Numbers.{of_one, of_two}
use Rattle.forests.specs.Rows.{called}
use Rattle.vcode.specs.Machines.{Mark, Plain, with_register, WritesNothing}
use Rattle.frame_code.specs.declared.instr.Instr.{Instr}
use Rattle.frame_code.specs.declared.instr.Instr.TheVariants as instr
use Rattle.frame_code.specs.declared.instr.Source.TheVariants as source
use Rattle.frame_code.specs.Instructions.{operands, kind, moves, shape, combined, with_none, with_one, with_two, word_of_name, does_with, acts, rename}

past_one : (n : ℕ) → suc n < 1 → ⊥
past_one n h = omega arith

past_two : (n : ℕ) → suc (suc n) < 2 → ⊥
past_two n h = omega arith

past_three : (n : ℕ) → suc (suc (suc n)) < 3 → ⊥
past_three n h = omega arith

pub few : (i : Instr) → length (operands i) ≤ 3
few (instr.LoadNumber to n) = omega arith
few (instr.Binary op to from (source.Register r)) = omega arith
few (instr.Binary op to from (source.Number n)) = omega arith
few (instr.Negate to from) = omega arith
few (instr.Argument from) = omega arith
few (instr.Call to name) = omega arith
few (instr.Return from) = omega arith
few (instr.Copy to from) = omega arith
few (instr.LoadSlot to slot) = omega arith
few (instr.StoreSlot from slot) = omega arith

pub rename-operands : (i : Instr) (n r : ℕ) → n < length (operands i) → operands (rename i n r) ≡ with_register (operands i) n r
rename-operands (instr.LoadNumber to n) zero r h = refl
rename-operands (instr.LoadNumber to n) (suc k) r h = absurd (past_one k h)
rename-operands (instr.Binary op to from operand) zero r h = refl
rename-operands (instr.Binary op to from operand) (suc zero) r h = refl
rename-operands (instr.Binary op to from (source.Register q)) (suc (suc zero)) r h = refl
rename-operands (instr.Binary op to from (source.Register q)) (suc (suc (suc k))) r h = absurd (past_three k h)
rename-operands (instr.Binary op to from (source.Number n)) (suc (suc k)) r h = absurd (past_two k h)
rename-operands (instr.Negate to from) zero r h = refl
rename-operands (instr.Negate to from) (suc zero) r h = refl
rename-operands (instr.Negate to from) (suc (suc k)) r h = absurd (past_two k h)
rename-operands (instr.Argument from) zero r h = refl
rename-operands (instr.Argument from) (suc k) r h = absurd (past_one k h)
rename-operands (instr.Call to name) zero r h = refl
rename-operands (instr.Call to name) (suc k) r h = absurd (past_one k h)
rename-operands (instr.Return from) zero r h = refl
rename-operands (instr.Return from) (suc k) r h = absurd (past_one k h)
rename-operands (instr.Copy to from) zero r h = refl
rename-operands (instr.Copy to from) (suc zero) r h = refl
rename-operands (instr.Copy to from) (suc (suc k)) r h = absurd (past_two k h)
rename-operands (instr.LoadSlot to slot) zero r h = refl
rename-operands (instr.LoadSlot to slot) (suc k) r h = absurd (past_one k h)
rename-operands (instr.StoreSlot from slot) zero r h = refl
rename-operands (instr.StoreSlot from slot) (suc k) r h = absurd (past_one k h)

-- what renaming keeps
pub record Keeps (i j : Instr) : Type 0 where
  pub shape_same : shape j ≡ shape i
  pub kind_same : kind j ≡ kind i
  pub moves_same : moves j ≡ moves i
  pub acts_same : (s : Setting) → acts s j ≡ acts s i

pub kept : (i : Instr) (n r : ℕ) → Keeps i (rename i n r)
kept (instr.LoadNumber to n) k r = record { shape_same = refl; kind_same = refl; moves_same = refl; acts_same = λ s. refl }
kept (instr.Binary op to from operand) zero r = record { shape_same = refl; kind_same = refl; moves_same = refl; acts_same = λ s. refl }
kept (instr.Binary op to from operand) (suc zero) r = record { shape_same = refl; kind_same = refl; moves_same = refl; acts_same = λ s. refl }
kept (instr.Binary op to from (source.Register q)) (suc (suc k)) r = record { shape_same = refl; kind_same = refl; moves_same = refl; acts_same = λ s. refl }
kept (instr.Binary op to from (source.Number n)) (suc (suc k)) r = record { shape_same = refl; kind_same = refl; moves_same = refl; acts_same = λ s. refl }
kept (instr.Negate to from) zero r = record { shape_same = refl; kind_same = refl; moves_same = refl; acts_same = λ s. refl }
kept (instr.Negate to from) (suc k) r = record { shape_same = refl; kind_same = refl; moves_same = refl; acts_same = λ s. refl }
kept (instr.Argument from) k r = record { shape_same = refl; kind_same = refl; moves_same = refl; acts_same = λ s. refl }
kept (instr.Call to name) k r = record { shape_same = refl; kind_same = refl; moves_same = refl; acts_same = λ s. refl }
kept (instr.Return from) k r = record { shape_same = refl; kind_same = refl; moves_same = refl; acts_same = λ s. refl }
kept (instr.Copy to from) zero r = record { shape_same = refl; kind_same = refl; moves_same = refl; acts_same = λ s. refl }
kept (instr.Copy to from) (suc k) r = record { shape_same = refl; kind_same = refl; moves_same = refl; acts_same = λ s. refl }
kept (instr.LoadSlot to slot) k r = record { shape_same = refl; kind_same = refl; moves_same = refl; acts_same = λ s. refl }
kept (instr.StoreSlot from slot) k r = record { shape_same = refl; kind_same = refl; moves_same = refl; acts_same = λ s. refl }

pub no_mark : (i : Instr) (l : ℕ) → kind i ≡ Mark l → ⊥
no_mark (instr.LoadNumber to n) l e = cc
no_mark (instr.Binary op to from operand) l e = cc
no_mark (instr.Negate to from) l e = cc
no_mark (instr.Argument from) l e = cc
no_mark (instr.Call to name) l e = cc
no_mark (instr.Return from) l e = cc
no_mark (instr.Copy to from) l e = cc
no_mark (instr.LoadSlot to slot) l e = cc
no_mark (instr.StoreSlot from slot) l e = cc

pub moves-plain : (i : Instr) → moves i ≡ true → kind i ≡ Plain
moves-plain (instr.LoadNumber to n) e = refl
moves-plain (instr.Binary op to from operand) e = refl
moves-plain (instr.Negate to from) e = refl
moves-plain (instr.Argument from) e = refl
moves-plain (instr.Call to name) e = refl
moves-plain (instr.Return from) e = refl
moves-plain (instr.Copy to from) e = absurd cc
moves-plain (instr.LoadSlot to slot) e = absurd cc
moves-plain (instr.StoreSlot from slot) e = absurd cc

pub moves-writes : (i : Instr) → moves i ≡ true → WritesNothing (operands i)
moves-writes (instr.LoadNumber to n) e = absurd cc
moves-writes (instr.Binary op to from operand) e = absurd cc
moves-writes (instr.Negate to from) e = absurd cc
moves-writes (instr.Argument from) e = (refl, tt)
moves-writes (instr.Call to name) e = absurd cc
moves-writes (instr.Return from) e = (refl, tt)
moves-writes (instr.Copy to from) e = absurd cc
moves-writes (instr.LoadSlot to slot) e = absurd cc
moves-writes (instr.StoreSlot from slot) e = (refl, tt)

-- whatever it gives, it goes on behind it
abbrev pub Stays : Effect → Type 0
Stays e = (ws : List Word) (p : Point) (mv : Move) → e ≡ Went ws p mv → mv ≡ Next

stuck_stays : Stays Stuck
stuck_stays ws p mv e = absurd cc

same_move : {xs ys : List Word} {x y : Point} {p q : Move} → Went xs x p ≡ Went ys y q → p ≡ Next → q ≡ Next
same_move e h = cc

next_stays : (ws : List Word) (p : Point) → Stays (Went ws p Next)
next_stays ws p vs q mv e = same_move e refl

-- the action goes on behind it, wherever it has a meaning
abbrev StaysBehind : Action → Type 0
StaysBehind (Gave v) = Unit {0}
StaysBehind (Stored objects) = Unit {0}
StaysBehind (Passed w) = Unit {0}
StaysBehind (Called valued f) = Unit {0}
StaysBehind (Moved mv) = mv ≡ Next
StaysBehind Meaningless = Unit {0}

handed_stays : (valued : Bool) (ws : List Word) (p : Point) → Stays (handed valued ws p)
handed_stays valued [] p = stuck_stays
handed_stays true (w ∷ ws) p = next_stays _ p
handed_stays false (w ∷ ws) p = next_stays _ p

answer_stays : (valued : Bool) (e : Effect) → Stays (then_do e (λ ws p. handed valued ws p))
answer_stays valued (Went ws p Next) = handed_stays valued ws p
answer_stays valued (Went ws p (To l)) = stuck_stays
answer_stays valued (Went ws p (End v)) = stuck_stays
answer_stays valued (Exits status w) = λ ws p mv e. absurd cc
answer_stays valued (Unfinished w) = λ ws p mv e. absurd cc
answer_stays valued Stuck = stuck_stays

effect_stays : (call : Calls) (a : Action) (p : Point) → StaysBehind a → Stays (effect_of call a p)
effect_stays call (Gave v) p h = next_stays _ p
effect_stays call (Stored objects) p h = next_stays _ _
effect_stays call (Passed w) p h = next_stays _ _
effect_stays call (Called valued f) p h = answer_stays valued (call f p)
effect_stays call (Moved mv) p h = λ ws q mv2 e. same_move e h
effect_stays call Meaningless p h = stuck_stays

gave_stays : (v : Option Word) → StaysBehind (gave v)
gave_stays None = tt
gave_stays (Some w) = tt

called_stays : (w : Word) → StaysBehind (called true w)
called_stays (word.Plain (Number n)) = tt
called_stays (word.Plain (Pointer object offset)) = tt
called_stays (word.Plain (Function f)) = tt
called_stays (word.Label f l) = tt
called_stays (word.Partly mask bits) = tt

none_stays : (a : Action) (xs : List Word) → StaysBehind a → StaysBehind (with_none a xs)
none_stays a [] h = h
none_stays a (x ∷ xs) h = tt

one_read_stays : (f : Word → Action) (xs : List Word) → ((x : Word) → StaysBehind (f x)) → StaysBehind (with_one f xs)
one_read_stays f [] h = tt
one_read_stays f (x ∷ []) h = h x
one_read_stays f (x ∷ y ∷ xs) h = tt

two_read_stays : (f : Word → Word → Action) (xs : List Word) → ((x y : Word) → StaysBehind (f x y)) → StaysBehind (with_two f xs)
two_read_stays f [] h = tt
two_read_stays f (x ∷ []) h = tt
two_read_stays f (x ∷ y ∷ []) h = h x y
two_read_stays f (x ∷ y ∷ z ∷ xs) h = tt

does_stays : (s : Setting) (i : Instr) (rs : List Word) → moves i ≡ false → StaysBehind (does_with s i rs)
does_stays s (instr.LoadNumber to n) rs h = none_stays _ rs tt
does_stays s (instr.Binary op to from (source.Register r)) rs h = two_read_stays _ rs (λ x y. gave_stays (of_two true (combined op) x y))
does_stays s (instr.Binary op to from (source.Number n)) rs h = one_read_stays _ rs (λ x. gave_stays (of_two true (combined op) x (word.Plain (Number n))))
does_stays s (instr.Negate to from) rs h = one_read_stays _ rs (λ x. gave_stays (of_one Negate x))
does_stays s (instr.Argument from) rs h = one_read_stays _ rs (λ x. tt)
does_stays s (instr.Call to name) rs h = none_stays _ rs (called_stays (word_of_name s name))
does_stays s (instr.Return from) rs h = absurd cc
does_stays s (instr.Copy to from) rs h = tt
does_stays s (instr.LoadSlot to slot) rs h = tt
does_stays s (instr.StoreSlot from slot) rs h = tt

pub stays : (s : Setting) (i : Instr) (rs ws : List Word) (p p' : Point) (mv : Move) → moves i ≡ false → acts s i rs p ≡ Went ws p' mv → mv ≡ Next
stays s i rs ws p p' mv h e = effect_stays s.call (does_with s i rs) p (does_stays s i rs h) ws p' mv e
