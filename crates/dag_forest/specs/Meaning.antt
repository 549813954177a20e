-- The meaning of what a block does, over the worlds of forests: each node has the value that its operator gives where it is
-- made, and the roots act in order. Some nodes are kept in temporaries when they are made, which is a root step; nothing
-- else touches a temporary, or there is no run. A call that isn't kept is made in the root right behind it, and shares its
-- step.
use Rattle.std.specs.Prelude.{◌≡◌, ℕ, zero, suc, ◌||◌, Bool, true, false, Option, Some, None, List, [], ◌∷◌, slice_get}
use Rattle.op_forest.specs.Nodes.{Head}
use Rattle.op_forest.specs.Nodes.{Node as Tree}
use Rattle.forests.specs.Words.{Word, IsWord, narrow}
use Rattle.forests.specs.Worlds.{World, Point, at_world, Next, To, End, Effect, Went, Exits, Unfinished, Stuck}
use Rattle.forests.specs.Bodies.{Setting, does}
use Rattle.forests.specs.Bodies.{evaluate}
use Rattle.forests.specs.Budgets.{with_left}
use Rattle.forests.specs.Alike.{AreAlike}
use Rattle.dag_forest.specs.Entries.{is_call, is_read, is_write}
use Rattle.dag_forest.specs.declared.parts.Parts.{Parts}
use Rattle.dag_forest.specs.Schedules.{Act, Made, Acts, head_of, operands, at}

-- what a temporary can keep: any word, or a number of so many bits
pub data Content : Type 0 where
  WholeWord : Content
  LowBits : (bits : ℕ) → Content

abbrev pub IsOf : Content → Word → Type 0
IsOf WholeWord v = IsWord v
IsOf (LowBits bits) v = (n : ℕ) × (v ≡ narrow bits n)

-- A temporary: its object, what it can keep, the tree that reads it, the root that stores a tree in it, whether it may be
-- written in a world, and the world in which it has a value.
pub record Temporary : Type 0 where
  pub object : ℕ
  pub content : Content
  pub read : Tree
  pub store : Tree → Tree
  pub is_there : World → Bool
  pub put : Word → World → World

abbrev pub Keeps : Type 0
Keeps = ℕ → Option Temporary

abbrev pub IsThere : Temporary → World → Type 0
IsThere t w = t.is_there w ≡ true

abbrev pub CanKeep : Temporary → Word → Type 0
CanKeep t v = IsOf t.content v

-- what the rows of operators make of a temporary
pub record IsTemporary (s : Setting) (t : Temporary) : Type 0 where
  pub reads : (v : Word) (w : World) (p : Point) → CanKeep t v → IsThere t w → slice_get p.world.objects t.object ≡ slice_get (t.put v w).objects t.object → evaluate s t.read p ≡ Went (v ∷ []) p Next
  pub stores : (tree : Tree) (v : Word) (p p1 : Point) → evaluate s tree p ≡ Went (v ∷ []) p1 Next → CanKeep t v → IsThere t p1.world → evaluate s (t.store tree) p ≡ Went [] (at_world p1 (t.put v p1.world)) Next
  pub exits : (tree : Tree) (p : Point) (status : ℕ) (w : World) → evaluate s tree p ≡ Exits status w → evaluate s (t.store tree) p ≡ Exits status w
  pub unfinished : (tree : Tree) (p : Point) (w : World) → evaluate s tree p ≡ Unfinished w → evaluate s (t.store tree) p ≡ Unfinished w
  pub others : (v : Word) (w : World) (o : ℕ) → (o ≡ t.object → ⊥) → slice_get (t.put v w).objects o ≡ slice_get w.objects o
  pub shape : (v : Word) (w : World) → AreAlike w.objects (t.put v w).objects

-- all objects are the same but the temporaries of nodes that aren't made yet
abbrev pub SameBut : Keeps → (ℕ → Bool) → World → World → Type 0
SameBut keeps made w w1 = (o : ℕ) → ((m : ℕ) (t : Temporary) → made m ≡ false → keeps m ≡ Some t → o ≡ t.object → ⊥) → slice_get w1.objects o ≡ slice_get w.objects o

-- the temporaries of the nodes that are made are the same
abbrev pub Same : Keeps → (ℕ → Bool) → World → World → Type 0
Same keeps made w w1 = (m : ℕ) (t : Temporary) → made m ≡ true → keeps m ≡ Some t → slice_get w1.objects t.object ≡ slice_get w.objects t.object

-- how far a block is
pub data Ran : Type 0 where
  Through : (values : ℕ → Word) (point : Point) → Ran
  Jumps : (label : ℕ) (point : Point) → Ran
  Ends : (value : Option Word) (point : Point) → Ran
  Exited : (status : ℕ) (world : World) → Ran
  Out : (world : World) → Ran

-- A node that is no call has this value now: wherever the same objects live, of the same sizes, and for a read as long as
-- none of them changes but a later node's temporary.
abbrev pub HasNow : Bool → Setting → Keeps → (ℕ → Bool) → Head → List Word → World → Word → Type 0
HasNow true s keeps made h ws w v = (p : Point) → AreAlike w.objects p.world.objects → SameBut keeps made w p.world → does s h ws p ≡ Went (v ∷ []) p Next
HasNow false s keeps made h ws w v = (p : Point) → AreAlike w.objects p.world.objects → does s h ws p ≡ Went (v ∷ []) p Next

abbrev pub spent : ℕ → Type 0 → (ℕ → Type 0) → Type 0
spent zero out go = out
spent (suc s) out go = go s

-- a call hands its value
abbrev pub Handed : Effect → Ran → (Word → Point → Type 0) → Type 0
Handed (Went (v ∷ []) p Next) r go = go v p
Handed (Went vs p mv) r go = ⊥
Handed (Exits status w) r go = r ≡ Exited status w
Handed (Unfinished w) r go = r ≡ Out w
Handed Stuck r go = ⊥

-- a root goes on
abbrev pub Acted : Effect → Ran → (Point → Type 0) → Type 0
Acted (Went vs p Next) r go = go p
Acted (Went vs p (To l)) r go = r ≡ Jumps l p
Acted (Went vs p (End v)) r go = r ≡ Ends v p
Acted (Exits status w) r go = r ≡ Exited status w
Acted (Unfinished w) r go = r ≡ Out w
Acted Stuck r go = ⊥

-- a root that writes or calls
abbrev pub is_end : Parts → Bool
is_end x = is_write x.operator.op || is_call x.operator.op

-- a root that ends no stretch leaves all objects as they are, any other the temporaries
abbrev pub Leaves : Bool → Keeps → (ℕ → Bool) → World → World → Type 0
Leaves true keeps made w w1 = Same keeps made w w1
Leaves false keeps made w w1 = (o : ℕ) → slice_get w1.objects o ≡ slice_get w.objects o

-- whether a node is a call that isn't kept
abbrev pub is_handing : Bool → Option Temporary → Bool
is_handing true None = true
is_handing true (Some t) = false
is_handing false o = false

-- a value is kept, which takes a step; a call takes one as well
abbrev pub MadeRuns : Bool → Option Temporary → Setting → Keeps → (ℕ → Bool) → Head → List Word → ℕ → World → Ran → (Word → Point → Type 0) → Type 0
MadeRuns false None s keeps made h ws left w r go = (v : Word) × HasNow (is_read h.operator.op) s keeps made h ws w v × go v (with_left left w)
MadeRuns false (Some t) s keeps made h ws left w r go = spent left (r ≡ Out w) (λ l. (v : Word) × HasNow (is_read h.operator.op) s keeps made h ws w v × CanKeep t v × IsThere t w × go v (with_left l (t.put v w)))
MadeRuns true None s keeps made h ws left w r go = spent left (r ≡ Out w) (λ l. Handed (does s h ws (with_left l w)) r (λ v p. Same keeps made w p.world × go v p))
MadeRuns true (Some t) s keeps made h ws left w r go = spent left (r ≡ Out w) (λ l. Handed (does s h ws (with_left l w)) r (λ v p. Same keeps made w p.world × CanKeep t v × IsThere t p.world × go v (at_world p (t.put v p.world))))

-- a root behind a call that isn't kept shares its step
abbrev pub stepped : Bool → ℕ → Type 0 → (ℕ → Type 0) → Type 0
stepped true left out go = go left
stepped false left out go = spent left out go

-- The acts do so behind a call that isn't kept, which a root has to follow, or behind anything else.
abbrev pub RunsBehind : Bool → Setting → Keeps → List Act → (ℕ → Bool) → (ℕ → Word) → ℕ → World → Ran → Type 0
RunsBehind false s keeps [] made values left w r = r ≡ Through values (with_left left w)
RunsBehind true s keeps [] made values left w r = ⊥
RunsBehind false s keeps (Made n x ∷ as') made values left w r = MadeRuns (is_call x.operator.op) (keeps n) s keeps made (head_of x) (operands x.kids values) left w r (λ v p. RunsBehind (is_handing (is_call x.operator.op) (keeps n)) s keeps as' (at made n true) (at values n v) p.left p.world r)
RunsBehind true s keeps (Made n x ∷ as') made values left w r = ⊥
RunsBehind handed s keeps (Acts x ∷ as') made values left w r = stepped handed left (r ≡ Out w) (λ l. Acted (does s (head_of x) (operands x.kids values) (with_left l w)) r (λ p. Leaves (is_end x) keeps made w p.world × RunsBehind false s keeps as' made values p.left p.world r))

-- From the values of the nodes that are made the acts do so, with so many root steps.
abbrev pub Runs : Setting → Keeps → List Act → (ℕ → Bool) → (ℕ → Word) → ℕ → World → Ran → Type 0
Runs s keeps as' made values left w r = RunsBehind false s keeps as' made values left w r
