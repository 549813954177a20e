-- What blocks do in a world of a few objects, worked out by hand; and blocks that have no run there.
use Rattle.std.specs.Prelude.{◌≡◌, refl, ℕ, zero, suc, pos, negsuc, ◌==◌, Bool, true, false, Option, Some, None, List, [], ◌∷◌, replicate, slice_get, if◌then◌else◌}
use Rattle.std.specs.Int.{int_wrap}
use Rattle.std.proofs.Common.{sym, ap, ◌∙◌, true≢false, subst, arith}
use Rattle.lcc_base.specs.declared.order.Order.TheVariants.{Little}
use Rattle.objects.specs.declared.byte.Byte.{Byte}
use Rattle.objects.specs.declared.value.ObjectName.{ObjectName}
use Rattle.objects.specs.declared.value.Value.{Value}
use Rattle.objects.specs.declared.value.Value.TheVariants.{Number, Pointer, Function}
use Rattle.objects.specs.Bytes.{unknown_byte}
use Rattle.op_forest.specs.declared.op.Op.TheVariants as op
use Rattle.op_forest.specs.declared.suffix.Suffix.TheVariants.{I, U, P}
use Rattle.op_forest.specs.Nodes.{Head, Leaf}
use Rattle.op_forest.specs.Nodes.{One as OneTree, Two as TwoTree}
use Rattle.forests.specs.Words.{Word, Plain, unknown}
use Rattle.forests.specs.WordBytes.{word_bytes}
use Rattle.forests.specs.Objects.{Object}
use Rattle.forests.specs.Worlds.{World, Point, Next, Went, Stuck, gives}
use Rattle.forests.specs.Actions.{Gave, gave, effect_of}
use Rattle.forests.specs.Addresses.{Home}
use Rattle.forests.specs.Rows.{acts}
use Rattle.forests.specs.Bodies.{Setting, does}
use Rattle.forests.specs.Budgets.{with_left}
use Rattle.forests.specs.Alike.{AreAlike, touches_memory}
use Rattle.forests.proofs.lemmas.Alike.{acts_alike, word_read_alike}
use Rattle.dag_forest.specs.declared.entry.Entry.{Entry}
use Rattle.dag_forest.specs.declared.kids.Kids.TheVariants.{One, Two}
use Rattle.dag_forest.specs.declared.kind.Kind.TheVariants.{Signed}
use Rattle.dag_forest.specs.Schedules.{acts_of, at, head_of}
use Rattle.dag_forest.specs.Meaning.{Temporary, Keeps, Same, SameBut, Ran, Through, Runs}
use Rattle.dag_forest.specs.Slots.{slot_temporary}
use Rattle.dag_forest.specs.Split.{split_trees}
use Rattle.dag_forest.specs.BlockExamples.{over, constant, read, call, address, doubled, distance, assigned, nothing_kept, second_kept}

-- ---- a world of x, y and a slot of the frame at -4, each of 4 bytes

abbrev name : ℕ → ObjectName
name n = record { place = n; made = n; size = 4 }

abbrev object : ℕ → List (Byte Word) → Object
object n bytes = record { made = n; constant = false; bytes = bytes }

abbrev holding : ℕ → List (Byte Word)
holding n = word_bytes Little (Plain (Number n))

abbrev nothing_known : List (Byte Word)
nothing_known = replicate 4 unknown_byte

abbrev world_of : List Object → World
world_of objects = record { objects = objects; made = 3; arguments = []; input = []; trace = [] }

-- x holds 7
abbrev world : World
world = world_of (object 0 (holding 7) ∷ object 1 nothing_known ∷ object 2 nothing_known ∷ [])

abbrev global : ℕ → Option Value
global zero = Some (Pointer (name 0) 0)
global (suc zero) = Some (Pointer (name 1) 0)
global (suc (suc n)) = Some (Function (suc (suc n)))

abbrev home : Home
home = record { function = 2; place = 2; made = 2; slots = record { offset = negsuc 3; size = 4 } ∷ []; words = 0 }

-- each function gives 9
abbrev setting : Setting
setting = record { call = λ f p. gives (Plain (Number 9)) p; environment = record { global = global; order = Little; home = home } }

abbrev slot : Temporary
slot = slot_temporary Little Signed (name 2) (negsuc 3)

-- what a block does from a world on, with so many root steps
abbrev RunsFrom : Keeps → List Entry → ℕ → World → Ran → Type 0
RunsFrom keeps es left w r = Runs setting keeps (acts_of es) (λ m. false) (λ m. unknown) left w r

abbrev pointer : ℕ → ℕ → Word
pointer n offset = Plain (Pointer (name n) offset)

-- ---- what has a value now

-- what an operator gives that touches no memory, it gives wherever the same objects live
given : (h : Head) (ws : List Word) (w : World) (v : Word) → (touches_memory h.operator.op ≡ true → ⊥) → acts setting.environment h ws w.objects ≡ Gave v → (p : Point) → AreAlike w.objects p.world.objects → does setting h ws p ≡ Went (v ∷ []) p Next
given h ws w v touches e p like = ap (λ a. effect_of setting.call a p) (acts_alike setting.environment h ws p.world.objects w.objects (sym like) touches ∙ e)

no : (false ≡ true) → ⊥
no e = true≢false (sym e)

-- the slot is object 2
kept_is : (n : ℕ) (t : Temporary) → second_kept slot n ≡ Some t → t.object ≡ 2
kept_is n t e = by (n == 1) e
  where
    by : (b : Bool) → (if b then Some slot else None) ≡ Some t → t.object ≡ 2
    by true q = let same : slot ≡ t = cc in ap (λ (u : Temporary). u.object) (sym same)
    by false q = let never : ⊥ = cc in absurd never

-- where nothing changes but object 2, x is read alike
x_now : (made : ℕ → Bool) (p : Point) → AreAlike world.objects p.world.objects → SameBut (second_kept slot) made world p.world → does setting (head_of (read 0)) (pointer 0 0 ∷ []) p ≡ Went (Plain (Number 7) ∷ []) p Next
x_now made p like same =
    ap (λ o. effect_of setting.call (gave o) p)
    (word_read_alike Little p.world.objects world.objects (name 0) 0 (sym like) (same 0 (λ m t un is e. let two : 0 ≡ 2 = e ∙ kept_is m t is in let never : ⊥ = cc in never)))

-- ---- runs

-- a node that isn't kept has a value now, and the rest runs
node : {P Q : Word → Type 0} (v : Word) → P v → Q v → (v : Word) × P v × Q v
node v now rest = (v, now, rest)

abbrev stored : World
stored = world_of (object 0 (holding 7) ∷ object 1 nothing_known ∷ object 2 (holding 7) ∷ [])

abbrev added : World
added = world_of (object 0 (holding 7) ∷ object 1 (holding 14) ∷ object 2 (holding 7) ∷ [])

abbrev sums : ℕ → Word
sums = at (at (at (at (λ m. unknown) 0 (pointer 0 0)) 1 (Plain (Number 7))) 2 (pointer 1 0)) 3 (Plain (Number 14))

slot_stays : Same (second_kept slot) (at (at (at (at (λ m. false) 0 true) 1 true) 2 true) 3 true) stored added
slot_stays m t made is = subst (λ (o : ℕ). slice_get added.objects o ≡ slice_get stored.objects o) (sym (kept_is m t is)) refl

-- x is kept in the slot, which is one step, and y is stored, which is another
doubled_runs : RunsFrom (second_kept slot) (doubled (pos 0)) 2 world (Through sums (with_left 0 added))
doubled_runs =
    node (pointer 0 0) (given (head_of (address 0 (pos 0))) [] world (pointer 0 0) no refl) (
      Plain (Number 7),
      x_now (at (λ m. false) 0 true),
      omega arith,
      refl,
      node (pointer 1 0) (given (head_of (address 1 (pos 0))) [] stored (pointer 1 0) no refl)
          (node (Plain (Number 14)) (given (head_of (over op.Add I (Two 1 1))) (Plain (Number 7) ∷ Plain (Number 7) ∷ []) stored (Plain (Number 14)) no refl)
          (slot_stays, refl)),
    )

abbrev measured : World
measured = world_of (object 0 (holding 7) ∷ object 1 (holding 4) ∷ object 2 nothing_known ∷ [])

abbrev distances : ℕ → Word
distances = at (at (at (at (at (at (at (at (at (λ m. unknown) 0 (pointer 0 0)) 1 (Plain (Number 4))) 2 (pointer 0 4)) 3 (pointer 0 4)) 4 (Plain (Number 4))) 5 (pointer 0 0)) 6 (Plain (Number 4))) 7 (Plain (Number 4))) 8 (pointer 1 0)

none_kept : (made : ℕ → Bool) (w w1 : World) → Same nothing_kept made w w1
none_kept made w w1 m t is_made is = let never : ⊥ = cc in absurd never

four_apart : acts setting.environment (head_of (over op.Sub U (Two 2 5))) (pointer 0 4 ∷ pointer 0 0 ∷ []) world.objects ≡ Gave (Plain (Number 4))
unfolding int_wrap
four_apart = refl

-- pointers moved forth and back and subtracted: y is 4
distance_runs : RunsFrom nothing_kept (distance (pos 4)) 1 world (Through distances (with_left 0 measured))
distance_runs =
    node (pointer 0 0) (given (head_of (address 0 (pos 0))) [] world (pointer 0 0) no refl)
    (node (Plain (Number 4)) (given (head_of (constant (pos 4))) [] world (Plain (Number 4)) no refl)
    (node (pointer 0 4) (given (head_of (over op.Add P (Two 0 1))) (pointer 0 0 ∷ Plain (Number 4) ∷ []) world (pointer 0 4) no refl)
    (node (pointer 0 4) (given (head_of (address 0 (pos 4))) [] world (pointer 0 4) no refl)
    (node (Plain (Number 4)) (given (head_of (constant (pos 4))) [] world (Plain (Number 4)) no refl)
    (node (pointer 0 0) (given (head_of (over op.Sub P (Two 3 4))) (pointer 0 4 ∷ Plain (Number 4) ∷ []) world (pointer 0 0) no refl)
    (node (Plain (Number 4)) (given (head_of (over op.Sub U (Two 2 5))) (pointer 0 4 ∷ pointer 0 0 ∷ []) world (Plain (Number 4)) no four_apart)
    (node (Plain (Number 4)) (given (head_of (over op.Cvu I (One 6))) (Plain (Number 4) ∷ []) world (Plain (Number 4)) no refl)
    (node (pointer 1 0) (given (head_of (address 1 (pos 0))) [] world (pointer 1 0) no refl)
    (none_kept _ world measured, refl)))))))))

abbrev answered : World
answered = world_of (object 0 (holding 9) ∷ object 1 nothing_known ∷ object 2 nothing_known ∷ [])

abbrev answers : ℕ → Word
answers = at (at (at (λ m. unknown) 0 (pointer 0 0)) 1 (Plain (Function 2))) 2 (Plain (Number 9))

-- a call that is handed to its root shares its step
assigned_runs : RunsFrom nothing_kept assigned 1 world (Through answers (with_left 0 answered))
assigned_runs =
    node (pointer 0 0) (given (head_of (address 0 (pos 0))) [] world (pointer 0 0) no refl)
    (node (Plain (Function 2)) (given (head_of (address 2 (pos 0))) [] world (Plain (Function 2)) no refl)
    (none_kept _ world world, (none_kept _ world answered, refl)))

-- and it is one tree
assigned_tree : split_trees Little home [] assigned []
    ≡ TwoTree (head_of (over op.Asgn I (Two 0 2))) (Leaf (head_of (address 0 (pos 0)))) (OneTree (head_of (call 1)) (Leaf (head_of (address 2 (pos 0))))) ∷ []
assigned_tree = refl

-- ---- no runs

-- 5 bytes behind the first one of x there is no address
behind_x : (r : Ran) → RunsFrom (second_kept slot) (doubled (pos 5)) 2 world r → ⊥
behind_x r h = let stuck : Stuck ≡ Went (h.0 ∷ []) (with_left 2 world) Next = h.1 (with_left 2 world) refl in let never : ⊥ = cc in never

-- and where x doesn't live there is none
nowhere : (r : Ran) → RunsFrom (second_kept slot) (doubled (pos 0)) 2 (world_of []) r → ⊥
nowhere r h = let stuck : Stuck ≡ Went (h.0 ∷ []) (with_left 2 (world_of [])) Next = h.1 (with_left 2 (world_of [])) refl in let never : ⊥ = cc in never
