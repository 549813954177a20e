-- Templates whose values don't change where temporaries of their block are written: what their operators take is a word, no operator calls or writes,
-- and each one that reads does so at a place that is no temporary's.
-- Source: Fraser and Hanson, A Retargetable C Compiler, chapters 5 and 12.
use Rattle.std.specs.Prelude.{◌≡◌, ◌<◌, ℕ, Some, slice_get}
use Rattle.objects.specs.declared.value.ObjectName.{ObjectName}
use Rattle.objects.specs.declared.value.Value.TheVariants.{Pointer}
use Rattle.op_forest.specs.declared.op.Op.{Op}
use Rattle.op_forest.specs.declared.op.Op.TheVariants as op
use Rattle.forests.specs.Alike.{AreAlike}
use Rattle.forests.specs.Words.{Word, Plain, IsWord}
use Rattle.forests.specs.Worlds.{World}
use Rattle.dag_forest.specs.Meaning.{Temporary, Keeps}
use Rattle.c_match.specs.Ranges.{Map}
use Rattle.c_rows_agree.specs.Templates.{Template, Given, Leaf, One, Two, Scene, Gives}
use Rattle.piece_runs.specs.Reaches.{BodyRun}

-- what templates over the nodes of an open block are read in: the nodes' values, and a world
abbrev pub seen : BodyRun → Map → (ℕ → Word) → World → Scene
seen g map values w = record { map = map; environment = g.setting.environment; objects = w.objects; values = values }

-- ---- places that are no temporary's

-- an object, by its place
abbrev pub IsLone : Keeps → ℕ → Type 0
IsLone keeps place = (m : ℕ) (t : Temporary) → keeps m ≡ Some t → t.object ≡ place → ⊥

-- the object that a word points into, if it does
abbrev pub IsApart : Keeps → Word → Type 0
IsApart keeps w = (name : ObjectName) (offset : ℕ) → w ≡ Plain (Pointer name offset) → IsLone keeps name.place

-- ---- templates

-- an operator is no call, and writes nothing; if it reads, this is so
abbrev pub IsMild : Op → Type 0 → Type 0
IsMild op.Indir read = read
IsMild op.Asgn read = ⊥
IsMild op.Call read = ⊥
IsMild o read = Unit {0}

abbrev pub IsSettled : Keeps → Scene → Template → Type 0
IsSettled keeps k (Given n) = IsWord (k.values n)
IsSettled keeps k (Leaf h) = IsMild h.operator.op ⊥
IsSettled keeps k (One h a) = IsSettled keeps k a × IsMild h.operator.op ((x : Word) → Gives k a x → IsApart keeps x)
IsSettled keeps k (Two h a b) = IsSettled keeps k a × (IsSettled keeps k b × IsMild h.operator.op ⊥)

-- The first nodes, so many, have the same values; the same objects live; all but temporaries are as they were; and no argument word is passed.
pub record IsNear (keeps : Keeps) (n : ℕ) (values others : ℕ → Word) (w v : World) : Type 0 where
  pub kept : (m : ℕ) → m < n → others m ≡ values m
  pub alike : AreAlike w.objects v.objects
  pub same : (place : ℕ) → IsLone keeps place → slice_get v.objects place ≡ slice_get w.objects place
  pub arguments : v.arguments ≡ w.arguments
