-- Blocks, lists and objects that are entered.
use Rattle.std.proofs.Common.{◌≡◌, ℕ, ◌+◌, ◌<◌, ◌≤◌, List, [], ◌∷◌, ◌-◌, length, get_or, subst, take, drop, refl, sym, ap, ◌∙◌, arith, Bor}
use Rattle.std.specs.Prelude.{Bool, false, Option, Result as Checked, Ok, Err, IfOk, slice_get}
use Rattle.std.proofs.lemmas.List.{take_rest}
use Rattle.lcc_base.specs.declared.memory.Memory.{Memory as NoMemory}
use Rattle.c_types.specs.CType.{CType}
use Rattle.c_filling.specs.Filled.{seen_places}
use Rattle.std.specs.Global.{Box}
use Rattle.c_meaning.specs.CoreTrees.{CoreOf}
use Rattle.c_meaning.specs.declared.core_stmt.CoreForHead.{CoreForHead}
use Rattle.c_meaning.specs.declared.core_stmt.CoreStmt.{CoreStmt}
use Rattle.c_meaning.specs.declared.core_stmt.CoreStmt.TheVariants as form
use Rattle.c_meaning.specs.declared.filled_place.FilledPlace.{FilledPlace}
use Rattle.c_meaning.specs.StmtTrees.{FilledOf, StmtOf, StmtsOf, Block, For, While, maybe_seen, stmt_of}
use Rattle.c_runs.specs.Outcomes.{either, then_next}
use Rattle.c_runs.specs.Statements.{Entry, Start, At, exec, exec_all, has, initialised, maybe_dropped}
use Rattle.c_runs.specs.Worlds.{World as RunWorld}
use Rattle.c_worlds.specs.declared.program.Program.{Program}
use Rattle.c_worlds.specs.Programs.{known, stmt_tree}
use Rattle.c_worlds.specs.Shown.{shown}
use Rattle.c_eval.specs.declared.focus.Focus.{Focus}
use Rattle.c_eval.specs.declared.focus.Focus.TheVariants as at
use Rattle.c_eval.specs.declared.frame.Frame.TheVariants as on
use Rattle.c_eval.specs.declared.machine.Machine.{Machine}
use Rattle.c_eval.specs.Ends.{OfStatement}
use Rattle.c_eval.specs.Frames.{frames}
use Rattle.c_eval.specs.Loops.{repeated_by, test_of}
use Rattle.c_eval.specs.Stacks.{statement, statements}
use Rattle.c_eval.specs.States.{ends, own}
use Rattle.c_eval.specs.Steps.{IsBelow, Meets}
use Rattle.c_eval.specs.Weights.{places_of, statements_of, weight_places, weight_s, weight_ss, weights}
use Rattle.c_eval.proofs.Acts.{meets_behind, pushed}
use Rattle.c_eval.proofs.Forms.{all_trees, all_weighed, is_block, is_for, is_initialise, is_while, places_seen, places_weighed}

-- ---- steps that are left

-- a larger bound holds, too
pub below_more : (n m : ℕ) (old new : Machine) (r : Checked Focus NoMemory) → n ≤ m → IfOk r (λ focus. IsBelow n old new focus) → IfOk r (λ focus. IsBelow m old new focus)
below_more n m old new (Ok focus) l h = omega arith
below_more n m old new (Err e) l h = tt

pub places_weigh : (ps : List FilledPlace) (n : ℕ) → 1 + n < 1 + weight_places (places_of ps) + n
places_weigh [] n = omega arith
places_weigh (x ∷ xs) n = omega arith

-- ---- lists

rest_is : (x : CoreStmt) (xs : List CoreStmt) → take (length (x ∷ xs) - 1) (drop 1 (x ∷ xs)) ≡ xs
rest_is x xs = take_rest (x ∷ xs) 1

first_lacks : (p : Program) (first : CoreStmt) (xs : List CoreStmt) (l k : ℕ) (w : RunWorld) → has (statement p first) l ≡ false → exec_all (own p) (statements p xs) (At l) k w ≡ exec_all (own p) (statements p (first ∷ xs)) (At l) k w
first_lacks p first xs l k w e =
    ap (λ b. either b (λ k1 w1. then_next (exec (own p) (statement p first) (At l) k1 w1) (λ k2 w2. exec_all (own p) (statements p xs) Start k2 w2)) (λ k1 w1. exec_all (own p) (statements p xs) (At l) k1 w1) k w) (sym e)

-- the label stands behind the first
pub lacks_meets : (p : Program) (ss : List CoreStmt) (first : CoreStmt) (l k : ℕ) (w : RunWorld) → 1 ≤ length ss → first ≡ get_or ss 0 first → has (statement p first) l ≡ false
    → exec_all (own p) (statements p (take (length ss - 1) (drop 1 ss))) (At l) k w ≡ exec_all (own p) (statements p ss) (At l) k w
lacks_meets p [] first l k w h i e = absurd (omega arith)
lacks_meets p (x ∷ xs) first l k w h i e =
    ap (λ (zs : List CoreStmt). exec_all (own p) (statements p zs) (At l) k w) (rest_is x xs)
    ∙ first_lacks p x xs l k w (ap (λ (y : CoreStmt). has (statement p y) l) (sym i) ∙ e)

pub rest_lighter : (ss : List CoreStmt) → 1 ≤ length ss → weight_ss (statements_of (take (length ss - 1) (drop 1 ss))) ≤ weight_ss (statements_of ss)
rest_lighter [] h = absurd (omega (arith, h))
rest_lighter (x ∷ xs) h = subst (λ (zs : List CoreStmt). weight_ss (statements_of zs) ≤ weight_ss (statements_of (x ∷ xs))) (sym (rest_is x xs)) (omega arith)

-- ---- blocks

block_is : (p : Program) (s : CoreStmt) (ss : List CoreStmt) (first locals : ℕ) → s ≡ form.Block first locals ss → statement p s ≡ Block first locals (statements p ss)
block_is p s ss first locals h =
    ap (λ (y : CoreStmt). statement p y) h ∙ ap (λ (y : StmtOf ℕ). stmt_tree p y) (is_block first locals ss) ∙ ap (λ (tr : StmtsOf CType). Block first locals tr) (sym (all_trees p ss))

pub block_starts : (p : Program) (old new : Machine) (s : CoreStmt) (xs : List CoreStmt) (ss zs : Bor (List CoreStmt)) (first locals : ℕ) → s ≡ form.Block first locals xs → ss.now ≡ xs → zs.now ≡ xs
    → frames new.stack ≡ on.Catch ss ∷ frames old.stack → new.world ≡ old.world → new.turns ≡ old.turns → Meets p old (λ k w. OfStatement (exec (own p) (statement p s) Start k w)) new (at.List zs)
block_starts p old new s xs ss zs first locals h i j f w n =
    pushed p old new (λ k w. OfStatement (exec (own p) (statement p s) Start k w)) (at.List zs) (on.Catch ss) f w n
    (λ below fs k x. ap (λ (ys : List CoreStmt). ends p below (on.Catch ss ∷ fs) (OfStatement (exec_all (own p) (statements p ys) Start k x))) (j ∙ sym i)
    ∙ ap (λ (y : StmtOf CType). ends p below fs (OfStatement (exec (own p) y Start k x))) (sym (block_is p s ss.now first locals (h ∙ ap (λ (ys : List CoreStmt). form.Block first locals ys) (sym i)))))

pub block_at : (p : Program) (old new : Machine) (s : CoreStmt) (xs : List CoreStmt) (ss zs : Bor (List CoreStmt)) (first locals l : ℕ) → s ≡ form.Block first locals xs → ss.now ≡ xs → zs.now ≡ xs
    → frames new.stack ≡ on.Catch ss ∷ frames old.stack → new.world ≡ old.world → new.turns ≡ old.turns → Meets p old (λ k w. OfStatement (exec (own p) (statement p s) (At l) k w)) new (at.ListAt zs l)
block_at p old new s xs ss zs first locals l h i j f w n =
    pushed p old new (λ k w. OfStatement (exec (own p) (statement p s) (At l) k w)) (at.ListAt zs l) (on.Catch ss) f w n
    (λ below fs k x. ap (λ (ys : List CoreStmt). ends p below (on.Catch ss ∷ fs) (OfStatement (exec_all (own p) (statements p ys) (At l) k x))) (j ∙ sym i)
    ∙ ap (λ (y : StmtOf CType). ends p below fs (OfStatement (exec (own p) y (At l) k x))) (sym (block_is p s ss.now first locals (h ∙ ap (λ (ys : List CoreStmt). form.Block first locals ys) (sym i)))))

block_weighs : (s : CoreStmt) (ss : List CoreStmt) (first locals : ℕ) → s ≡ form.Block first locals ss → weight_s (stmt_of s) ≡ 4 + weight_ss (statements_of ss)
block_weighs s ss first locals h = ap (λ (y : CoreStmt). weight_s (stmt_of y)) h ∙ ap weight_s (is_block first locals ss) ∙ ap (λ (tr : StmtsOf ℕ). 4 + weight_ss tr) (sym (all_weighed ss))

pub block_is_less : (old new : Machine) (s : CoreStmt) (xs : List CoreStmt) (ss zs : Bor (List CoreStmt)) (first locals : ℕ) → s ≡ form.Block first locals xs → zs.now ≡ xs → frames new.stack ≡ on.Catch ss ∷ frames old.stack
    → 1 + weight_ss (statements_of zs.now) + weights (frames new.stack) < 1 + weight_s (stmt_of s) + weights (frames old.stack)
block_is_less old new s xs ss zs first locals h i f =
    let x : weights (frames new.stack) ≡ 1 + weights (frames old.stack) = ap weights f in
    let y : weight_s (stmt_of s) ≡ 4 + weight_ss (statements_of zs.now) = block_weighs s zs.now first locals (h ∙ ap (λ (ys : List CoreStmt). form.Block first locals ys) (sym i)) in
    omega arith

-- ---- loops

while_tree : (p : Program) (x : StmtOf ℕ) (e : CoreOf ℕ) (b : StmtOf ℕ) (k : ℕ) (w : RunWorld) → x ≡ While e b → exec (own p) (stmt_tree p x) Start k w ≡ repeated_by (own p) (stmt_tree p x) (test_of (own p) (stmt_tree p x) k w)
while_tree p x e b k w h = rw h refl

pub while_starts : (p : Program) (old new : Machine) (s : CoreStmt) (e : CoreOf ℕ) (b : Box CoreStmt) (r : Checked Focus NoMemory) → s ≡ form.While e b
    → IfOk r (λ focus. Meets p old (λ k w. OfStatement (repeated_by (own p) (statement p s) (test_of (own p) (statement p s) k w))) new focus)
    → IfOk r (λ focus. Meets p old (λ k w. OfStatement (exec (own p) (statement p s) Start k w)) new focus)
while_starts p old new s e b r h m =
    meets_behind p old old new (λ k w. OfStatement (exec (own p) (statement p s) Start k w)) (λ k w. OfStatement (repeated_by (own p) (statement p s) (test_of (own p) (statement p s) k w))) r refl refl refl
    (λ k t. ap OfStatement (while_tree p (stmt_of s) e (stmt_of b.value) k (shown old.world t) (ap stmt_of h ∙ is_while e b))) m

for_tree : (p : Program) (x : StmtOf ℕ) (a y z : Option (CoreOf ℕ)) (b : StmtOf ℕ) (k : ℕ) (w : RunWorld) → x ≡ For a y z b
    → exec (own p) (stmt_tree p x) Start k w ≡ maybe_dropped (own p) (maybe_seen (known p) a) k w (λ k1 w1. repeated_by (own p) (stmt_tree p x) (test_of (own p) (stmt_tree p x) k1 w1))
for_tree p x a y z b k w h = rw h refl

pub for_starts : (p : Program) (old new : Machine) (s : CoreStmt) (head : Box CoreForHead) (b : Box CoreStmt) (x : CoreForHead) (r : Checked Focus NoMemory) → s ≡ form.For head b → x ≡ head.value
    → IfOk r (λ focus. Meets p old (λ k w. OfStatement (maybe_dropped (own p) (maybe_seen (known p) x.first) k w (λ k1 w1. repeated_by (own p) (statement p s) (test_of (own p) (statement p s) k1 w1)))) new focus)
    → IfOk r (λ focus. Meets p old (λ k w. OfStatement (exec (own p) (statement p s) Start k w)) new focus)
for_starts p old new s head b x r h e m =
    meets_behind p old old new (λ k w. OfStatement (exec (own p) (statement p s) Start k w))
    (λ k w. OfStatement (maybe_dropped (own p) (maybe_seen (known p) x.first) k w (λ k1 w1. repeated_by (own p) (statement p s) (test_of (own p) (statement p s) k1 w1)))) r refl refl refl
    (λ k t. ap OfStatement (for_tree p (stmt_of s) head.value.first head.value.test head.value.last (stmt_of b.value) k (shown old.world t) (ap stmt_of h ∙ is_for head b)
    ∙ ap (λ (z : CoreForHead). maybe_dropped (own p) (maybe_seen (known p) z.first) k (shown old.world t) (λ k1 w1. repeated_by (own p) (statement p s) (test_of (own p) (statement p s) k1 w1))) (sym e))) m

-- ---- objects

initialise_is : (p : Program) (s : CoreStmt) (local : ℕ) (zero : Bool) (places slice : List FilledPlace) (e : Entry) (k : ℕ) (w : RunWorld) → s ≡ form.Initialise local zero places → slice ≡ places
    → exec (own p) (statement p s) e k w ≡ initialised (own p) (slice_get w.locals local) zero (seen_places p slice) k w
initialise_is p s local zero places slice e k w h i =
    ap (λ (y : CoreStmt). exec (own p) (statement p y) e k w) h
    ∙ ap (λ (y : StmtOf ℕ). exec (own p) (stmt_tree p y) e k w) (is_initialise local zero places)
    ∙ ap (λ (ps : List (FilledOf CType)). initialised (own p) (slice_get w.locals local) zero ps k w) (sym (places_seen p places))
    ∙ ap (λ (ps : List FilledPlace). initialised (own p) (slice_get w.locals local) zero (seen_places p ps) k w) (sym i)

pub object_starts : (p : Program) (old new : Machine) (s : CoreStmt) (local : ℕ) (zero : Bool) (places slice : List FilledPlace) (e : Entry) (r : Checked Focus NoMemory) → s ≡ form.Initialise local zero places → slice ≡ places
    → IfOk r (λ focus. Meets p old (λ k w. OfStatement (initialised (own p) (slice_get w.locals local) zero (seen_places p slice) k w)) new focus)
    → IfOk r (λ focus. Meets p old (λ k w. OfStatement (exec (own p) (statement p s) e k w)) new focus)
object_starts p old new s local zero places slice e r h i m =
    meets_behind p old old new (λ k w. OfStatement (exec (own p) (statement p s) e k w)) (λ k w. OfStatement (initialised (own p) (slice_get w.locals local) zero (seen_places p slice) k w)) r refl refl refl
    (λ k t. ap OfStatement (initialise_is p s local zero places slice e k (shown old.world t) h i)) m

pub object_is_less : (old new : Machine) (s : CoreStmt) (local : ℕ) (zero : Bool) (places slice : List FilledPlace) (r : Checked Focus NoMemory) → s ≡ form.Initialise local zero places → slice ≡ places
    → IfOk r (λ focus. IsBelow (4 + weight_places (places_of slice)) old new focus) → IfOk r (λ focus. IsBelow (1 + weight_s (stmt_of s)) old new focus)
object_is_less old new s local zero places slice r h i m =
    let e : weight_s (stmt_of s) ≡ 4 + weight_places (places_of slice) =
    ap (λ (y : CoreStmt). weight_s (stmt_of y)) h ∙ ap weight_s (is_initialise local zero places) ∙ ap (λ (ps : List (FilledOf ℕ)). 4 + weight_places ps) (sym (places_weighed places)) ∙ ap (λ (ps : List FilledPlace). 4 + weight_places (places_of ps)) (sym i) in
    below_more (4 + weight_places (places_of slice)) (1 + weight_s (stmt_of s)) old new r (omega arith) m
