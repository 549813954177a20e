-- The types of a table pass no limit; and what is told where the type of an operand's value is too deep.
use Rattle.std.proofs.Common.{◌≡◌, ℕ, ◌<◌, true, length, sym, ap, ◌∙◌, true≢false}
use Rattle.std.specs.Prelude.{Option, Some, None, IfSome, is_some, nat_lt}
use Rattle.lcc_base.specs.declared.which.Which.TheVariants as which
use Rattle.c_types.specs.declared.extent.Extent.{Extent}
use Rattle.c_types.specs.CType.{CType, Plain, Array, depth, qualify}
use Rattle.c_types.specs.Facts.{IsOfObjects, IsWithin}
use Rattle.c_types.specs.Layout.{known}
use Rattle.c_types.specs.Table.{Table, tags, type_at}
use Rattle.c_meaning.specs.Constraints.{constraints, first_broken, some_deep, types_formed}
use Rattle.c_meaning.specs.CoreTrees.{CoreOf, Core, IsIn, seen, type_of}
use Rattle.c_meaning.specs.Nodes.{ExprNode, Expression}
use Rattle.c_meaning.specs.State.{State}
use Rattle.c_meaning.specs.Types.{target}
use Rattle.c_meaning.specs.Typing.{Outcome, at_expr}
use Rattle.c_meaning.specs.Values.{CoreTree}
use Rattle.c_values.specs.TooDeep.{IsTooDeep}
use Rattle.c_check_expr.specs.AtNode.{Tells}
use Rattle.c_values.specs.declared.check_fault.CheckFault.{CheckFault}
use Rattle.c_values.specs.declared.check_fault.CheckFault.TheVariants.{Constraint, Limit, Memory}
use Rattle.c_values.specs.declared.value_type.QualifiedType.{QualifiedType}
use Rattle.c_values.specs.Valued.{qualified_in}
use Rattle.c_check_expr.proofs.NodeLimits.{AreSmall, IsShallow, IsSmall, depth_passed, depth_qualify, node_passed, within_shallow, within_small}
use Rattle.c_values.proofs.lemmas.Qualified.{extent_qualify}

-- what the table says of its types
abbrev pub AreLimited : Table → Type 0
AreLimited t = (id : ℕ) → id < length t.forms → IsWithin (known (tags t)) (type_at t id)

pub small_at : (s : State) (t : Table) → s.tags ≡ tags t → AreLimited t → (id : ℕ) → id < length t.forms → IsSmall s.tags (type_at t id)
small_at s t h w id l = within_small s.tags (type_at t id) (rw h (w id l))

pub shallow_at : (t : Table) → AreLimited t → (id : ℕ) → id < length t.forms → IsShallow (type_at t id)
shallow_at t w id l = within_shallow (tags t) (type_at t id) (w id l)

-- the type of an expression whose parts stand in the table
pub small_in : (s : State) (t : Table) → s.tags ≡ tags t → AreLimited t → (c : CoreOf ℕ) → IsIn (length t.forms) c → IsSmall s.tags (type_of (seen (type_at t) c))
small_in s t h w (Core what of line kids) i = small_at s t h w of i.0

pub shallow_in : (t : Table) → AreLimited t → (c : CoreOf ℕ) → IsIn (length t.forms) c → IsShallow (type_of (seen (type_at t) c))
shallow_in t w (Core what of line kids) i = shallow_at t w of i.0

-- ---- answers that tell of another outcome, or of too great a depth

pub same_told : (e : CheckFault) (a b : Outcome CoreTree) → a ≡ b → Tells e b → Tells e a
same_told (Constraint number line) a b h t = h ∙ t
same_told (Limit limit line) a b h t = h ∙ t
same_told Memory a b h t = tt

-- a type that is formed is too deep
pub deep_told : (s : State) (line : ℕ) (n : ExprNode) (e : CheckFault) (t : CType) → IsTooDeep e line t → first_broken constraints s (Expression n) ≡ None → AreSmall s.tags (types_formed s line (Expression n)) → (nat_lt 500 (depth t) ≡ true → some_deep (types_formed s line (Expression n)) ≡ true) → Tells e (at_expr s line n)
deep_told s line n (Constraint number place) t d b m f = absurd d
deep_told s line n (Limit limit place) t d b m f = rw (d.0, d.1.0) (node_passed s line which.Depth n b (depth_passed s line n m (f d.1.1)))
deep_told s line n Memory t d b m f = tt

-- ---- what a pointer points to

objects_qualify : (k : ℕ → Extent) (q : ℕ) (t : CType) → IsOfObjects k t → IsOfObjects k (qualify q t)
objects_qualify k q (Plain p kind) h = tt
objects_qualify k q (Array of n) h = ap (λ (e : Extent). is_some e.size) (extent_qualify k q of) ∙ h

-- a type of a table under further qualifiers
pub qualified_within : (k : ℕ → Extent) (q : ℕ) (t : CType) → IsWithin k t → IsWithin k (qualify q t)
qualified_within k q t h =
    record {
      shallow = rw (depth_qualify q t) (h.shallow);
      bounded = rw (extent_qualify k q t) (h.bounded);
      objects = objects_qualify k q t h.objects;
    }

pub within_in : (t : Table) → AreLimited t → (p : QualifiedType) → p.of < length t.forms → IsWithin (known (tags t)) (qualified_in t p)
within_in t w p l = qualified_within (known (tags t)) p.qualifiers.0 (type_at t p.of) (w p.of l)

pub within_target : (t : Table) (o : Option QualifiedType) (u : CType) → AreLimited t → IfSome o (λ p. u ≡ qualified_in t p) → IfSome o (λ p. p.of < length t.forms) → is_some o ≡ true → IsWithin (known (tags t)) u
within_target t (Some p) u w e l h = rw e (within_in t w p l)
within_target t None u w e l h = absurd (true≢false (sym h))

pub target_within : (s : State) (t : Table) (u v : CType) → s.tags ≡ tags t → u ≡ v → IsWithin (known (tags t)) (target u) → IsWithin (known s.tags) (target v)
target_within s t u v h e w = rw (h, ← e) w
