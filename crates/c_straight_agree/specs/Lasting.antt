-- Operands that wait while blocks end: a node of the open block, an address or a constant, as other operands that wait, or what a slot of the frame is read for, in
-- which a value was saved.
-- Source: Fraser and Hanson, A Retargetable C Compiler, chapters 5 and 12.
use Rattle.std.specs.Prelude.{◌≡◌, ◌≤◌, ◌<◌, ℕ, Some, List, [], slice_get}
use Rattle.objects.specs.declared.value.Value.{Value}
use Rattle.objects.specs.declared.value.Value.TheVariants.{Pointer}
use Rattle.op_forest.specs.declared.frame.Slot.{Slot}
use Rattle.op_forest.specs.declared.op.Op.TheVariants as op
use Rattle.op_forest.specs.Nodes.{Head}
use Rattle.forests.specs.Actions.{Gave}
use Rattle.forests.specs.Objects.{Object}
use Rattle.forests.specs.Rows.{acts}
use Rattle.forests.specs.Words.{Word, Plain, IsWord}
use Rattle.forests.specs.Worlds.{World}
use Rattle.dag_forest.specs.Split.{slot_name}
use Rattle.c_match.specs.Ranges.{Map}
use Rattle.c_rows_agree.specs.Templates.{Template, Given, Leaf, One, Two}
use Rattle.c_rows_agree.specs.Typed.{Typed, Holds}
use Rattle.c_expr_agreement.specs.Scenes.{Scene}
use Rattle.c_straight_agree.specs.Settled.{seen, IsMild}

-- the address of a slot, whatever objects hold: one of the first so many, behind those of the locals
pub record IsSlotLeaf (s : Scene) (locals slots : ℕ) (h : Head) : Type 0 where
  pub number : ℕ
  pub slot : Slot
  pub behind : locals ≤ number
  pub before : number < slots
  pub there : slice_get s.body.setting.environment.home.slots number ≡ Some slot
  pub mild : IsMild h.operator.op ⊥
  pub gives : (objects : List Object) → acts s.body.setting.environment h [] objects ≡ Gave (Plain (Pointer (slot_name s.body.setting.environment.home number) 0))

abbrev pub IsSlotAddress : Scene → ℕ → ℕ → Template → Type 0
IsSlotAddress s locals slots (Leaf h) = IsSlotLeaf s locals slots h
IsSlotAddress s locals slots t = ⊥

abbrev pub Lasts : Scene → ℕ → ℕ → Template → Type 0
Lasts s locals slots (Given n) = Unit {0}
Lasts s locals slots (Leaf h) = IsMild h.operator.op ⊥
Lasts s locals slots (One h a) = (h.operator.op ≡ op.Indir) × IsSlotAddress s locals slots a
Lasts s locals slots (Two h a b) = ⊥

-- It has the value, where nodes have these values, in this world; and so it does behind whatever writes neither the first slots, so many, nor the nodes.
pub record LastingValue (s : Scene) (locals slots : ℕ) (a : Typed) (map : Map) (values : ℕ → Word) (w : World) (v : Value) : Type 0 where
  pub holds : Holds (seen s.body map values w) a v
  pub word : IsWord holds.word
  pub lasts : Lasts s locals slots a.tree
