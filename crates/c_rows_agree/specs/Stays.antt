-- What an operator gives of its operands' values is what it does at each point where the same objects live; a read, where the object that it
-- reads is the same, too.
use Rattle.std.specs.Prelude.{◌≡◌, ℕ, true, List, [], ◌∷◌, slice_get}
use Rattle.objects.specs.declared.value.ObjectName.{ObjectName}
use Rattle.objects.specs.declared.value.Value.TheVariants.{Pointer}
use Rattle.op_forest.specs.declared.op.Op.TheVariants as op
use Rattle.op_forest.specs.Nodes.{Head}
use Rattle.forests.specs.Actions.{Gave}
use Rattle.forests.specs.Alike.{AreAlike, touches_memory}
use Rattle.forests.specs.Bodies.{Setting, does}
use Rattle.forests.specs.Objects.{Object}
use Rattle.forests.specs.Rows.{acts}
use Rattle.forests.specs.Words.{Word, Plain}
use Rattle.forests.specs.Worlds.{Point, Next, Went}

abbrev pub OperatorsStay : Type 0
OperatorsStay =
    (s : Setting) (h : Head) (ws : List Word) (objects : List Object) (p : Point) (v : Word)
    → (touches_memory h.operator.op ≡ true → ⊥) → AreAlike objects p.world.objects → acts s.environment h ws objects ≡ Gave v
    → does s h ws p ≡ Went (v ∷ []) p Next

-- the object into which a word points is the same in both
abbrev pub IsSameAt : Word → List Object → List Object → Type 0
IsSameAt w a b = (name : ObjectName) (offset : ℕ) → w ≡ Plain (Pointer name offset) → slice_get a name.place ≡ slice_get b name.place

abbrev pub ReadsStay : Type 0
ReadsStay =
    (s : Setting) (h : Head) (w : Word) (objects : List Object) (p : Point) (v : Word)
    → h.operator.op ≡ op.Indir → AreAlike objects p.world.objects → IsSameAt w objects p.world.objects → acts s.environment h (w ∷ []) objects ≡ Gave v
    → does s h (w ∷ []) p ≡ Went (v ∷ []) p Next
