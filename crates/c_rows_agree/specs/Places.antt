-- Scalars and bit-fields read and written at a place, as templates over its pointer's and the value's.
-- Source: ISO/IEC 9899:1990, 6.3.16 and 6.5.2.1; Fraser and Hanson, A Retargetable C Compiler, chapter 5 (INDIR, ASGN).
use Rattle.std.specs.Prelude.{◌-◌, ◌^◌, Bool, true, false, List}
use Rattle.lcc_base.specs.declared.order.Order.{Order}
use Rattle.objects.specs.declared.field.Field.{Field}
use Rattle.objects.specs.declared.width.Scalar.{Scalar}
use Rattle.objects.specs.declared.width.Width.{Width}
use Rattle.objects.specs.declared.width.Width.TheVariants as width
use Rattle.objects.specs.Fields.{shift_of}
use Rattle.objects.specs.Objects.{Object as Old}
use Rattle.op_forest.specs.declared.op.Op.TheVariants as op
use Rattle.op_forest.specs.declared.suffix.Suffix.{Suffix}
use Rattle.op_forest.specs.declared.suffix.Suffix.TheVariants.{C, S, I, U, P}
use Rattle.forests.specs.Actions.{Stored}
use Rattle.forests.specs.Objects.{Object}
use Rattle.forests.specs.Sound.{AreSoundObjects}
use Rattle.c_match.specs.Held.{AreHeld}
use Rattle.c_match_objects.specs.Accesses.{IsKept}
use Rattle.c_match_fields.specs.FieldReads.{above_of}
use Rattle.c_match_fields.specs.Fields.{other_bits}
use Rattle.c_rows_agree.specs.Templates.{Template, Scene, Root, Acts}
use Rattle.c_rows_agree.specs.Typed.{Typed, head, over, over_two, constant_i, constant_u, as_i_from, as_i, as_u, as_p, suffix_by}
use Rattle.c_rows_agree.specs.Integers.{narrow_from}

-- ---- the objects of a scene

-- they hold these of C
pub record HoldsObjects (k : Scene) (old : List Old) : Type 0 where
  pub held : AreHeld k.map old k.objects
  pub sound : AreSoundObjects k.objects

-- and once the root has acted, those of C after a store
pub record IsStored (k : Scene) (old new : List Old) (r : Root) : Type 0 where
  pub after : List Object
  pub acts : Acts k r (Stored after)
  pub kept : IsKept k.map old new k.objects after

-- ---- scalars

abbrev pub loaded_by : Width → Bool → Template → Typed
loaded_by width.One signed a = record { tree = over op.Cvc (suffix_by signed) (over op.Indir C a); suffix = suffix_by signed }
loaded_by width.Two signed a = record { tree = over op.Cvs (suffix_by signed) (over op.Indir S a); suffix = suffix_by signed }
loaded_by width.Four signed a = record { tree = over op.Indir I a; suffix = I }

-- an integer, and a pointer, at a place
abbrev pub loaded : Scalar → Typed → Typed
loaded s a = loaded_by s.width s.signed (as_p a)

abbrev pub loaded_pointer : Typed → Typed
loaded_pointer a = record { tree = over op.Indir P (as_p a); suffix = P }

abbrev pub word_stored : Suffix → Template → Template → Root
word_stored P a t = record { head = head op.Asgn P; left = a; right = t }
word_stored s a t = record { head = head op.Asgn I; left = a; right = as_i_from s t }

abbrev pub stored_by : Width → Template → Typed → Root
stored_by width.One a b = record { head = head op.Asgn C; left = a; right = narrow_from b.suffix C b.tree }
stored_by width.Two a b = record { head = head op.Asgn S; left = a; right = narrow_from b.suffix S b.tree }
stored_by width.Four a b = word_stored b.suffix a b.tree

-- a value written as a scalar of so many bytes
abbrev pub stored_as : Width → Typed → Typed → Root
stored_as w a b = stored_by w (as_p a) b

-- ---- bit-fields

-- the unit at a place
abbrev pub unit_at : Typed → Template
unit_at a = over op.Indir I (as_p a)

-- Where it is stored again it is read as a pointer, which has the same word: two nodes that are used once, where one that is used for
-- the field's value too would need a temporary.
abbrev pub unit_stored : Typed → Template
unit_stored a = over op.Cvp U (over op.Indir P (as_p a))

-- the field's bits raised to the top of the unit's word, and lowered with their sign or without
abbrev pub raised : Order → Field → Template → Template
raised order f unit = over_two op.Lsh I unit (constant_i (above_of order f))

abbrev pub lowered_by : Bool → Field → Template → Typed
lowered_by true f t = record { tree = over_two op.Rsh I t (constant_i (32 - f.width)); suffix = I }
lowered_by false f t = record { tree = over_two op.Rsh U (over op.Cvi U t) (constant_i (32 - f.width)); suffix = U }

abbrev pub field_loaded : Order → Field → Typed → Typed
field_loaded order f a = lowered_by f.signed f (raised order f (unit_at a))

-- a value's bits at the top of a word; or at its bottom, among zeros
abbrev pub at_top : Field → Typed → Template
at_top f b = over_two op.Lsh I (as_i b) (constant_i (32 - f.width))

abbrev pub masked : Field → Typed → Template
masked f b = over_two op.Band U (as_u b) (constant_u (2 ^ f.width - 1))

-- the value that the field has then
abbrev pub field_value_by : Bool → Field → Typed → Typed
field_value_by true f b = lowered_by true f (at_top f b)
field_value_by false f b = record { tree = masked f b; suffix = U }

abbrev pub field_value : Field → Typed → Typed
field_value f b = field_value_by f.signed f b

-- its bits in the unit, by way of the top or of the bottom of a word: the value's way shares the first step with it
abbrev pub field_bits : Bool → Order → Field → Typed → Template
field_bits true order f b = over_two op.Rsh U (over op.Cvi U (at_top f b)) (constant_i (32 - f.width - shift_of order f))
field_bits false order f b = over_two op.Lsh U (masked f b) (constant_i (shift_of order f))

-- the unit without the field's bits, and with new ones
abbrev pub unit_with : Order → Field → Typed → Template → Template
unit_with order f a bits = over_two op.Bor U (over_two op.Band U (unit_stored a) (constant_u (other_bits order f))) bits

abbrev pub field_stored : Bool → Order → Field → Typed → Typed → Root
field_stored top order f a b = record { head = head op.Asgn I; left = as_p a; right = over op.Cvu I (unit_with order f a (field_bits top order f b)) }
