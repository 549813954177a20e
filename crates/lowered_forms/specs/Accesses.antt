-- Scalars, bit-fields and structures read and written at places.
-- Source: ISO/IEC 9899:1990, 6.3.16, 6.5.2.1; Fraser and Hanson, A Retargetable C Compiler, chapter 5 (INDIR, ASGN).
use Rattle.std.specs.Prelude.{ℕ, Bool, true, false, ◌&&◌, None, List}
use Rattle.lcc_base.specs.declared.order.Order.{Order}
use Rattle.objects.specs.declared.width.Scalar.{Scalar}
use Rattle.op_forest.specs.declared.op.Op.TheVariants as op
use Rattle.op_forest.specs.declared.suffix.Suffix.TheVariants.{B}
use Rattle.op_forest.specs.declared.sym.Sym.TheVariants as sym
use Rattle.c_types.specs.CType.{CType}
use Rattle.c_types.specs.Layout.{Tag}
use Rattle.c_meaning.specs.Scalars.{scalar_of}
use Rattle.c_meaning.specs.Types.{is_pointer}
use Rattle.c_runs.specs.Places.{Spot, is_field, field_of, size_of, align_of}
use Rattle.c_rows_agree.specs.Templates.{Root}
use Rattle.c_rows_agree.specs.Typed.{Typed, head_with, over, as_p}
use Rattle.c_rows_agree.specs.Places.{loaded, loaded_pointer, stored_as, field_loaded, field_value, field_stored}
use Rattle.lowered_forms.specs.Lows.{Low, acted}
use Rattle.lowered_forms.specs.Values.{Lowered, with_value, then_low, placed}

-- ---- reads

abbrev pub scalar_read : Bool → Scalar → Typed → Typed
scalar_read true x p = loaded_pointer p
scalar_read false x p = loaded x p

abbrev pub read_by : Bool → Order → Spot → Typed → Typed
read_by true order x p = field_loaded order (field_of x) p
read_by false order x p = scalar_read (is_pointer x.of) (scalar_of x.of) p

-- what a place holds
abbrev pub read : Order → Spot → Typed → Typed
read order x p = read_by (is_field x) order x p

-- ---- writes

-- the value that a place has once this one is written there
abbrev pub kept_by : Bool → Spot → Typed → Typed
kept_by true x v = field_value (field_of x) v
kept_by false x v = v

abbrev pub kept : Spot → Typed → Typed
kept x v = kept_by (is_field x) x v

-- a bit-field's value shares its first step with the bits that are stored
abbrev pub written_by : Bool → Bool → Order → Spot → Typed → Typed → Root
written_by true shared order x p v = field_stored (shared && (field_of x).signed) order (field_of x) p v
written_by false shared order x p v = stored_as (scalar_of x.of).width p v

-- a value is written at a place
abbrev pub written : Bool → Order → Spot → Typed → Typed → Low → Low
written shared order x p v l = acted (written_by (is_field x) shared order x p v) l

-- and is the value that the place has then
abbrev pub assigned : Order → Spot → Typed → Typed → Low → Lowered
assigned order x p v l = then_low (placed (kept x v) l) (λ u l1. with_value u (written true order x p v l1))

-- ---- structures

abbrev pub copy_root : ℕ → ℕ → Typed → Typed → Root
copy_root size align to from = record { head = head_with op.Asgn B (sym.Block size align) None; left = as_p to; right = over op.Indir B (as_p from) }

-- the bytes of a type are copied from one place to another
abbrev pub copied : List Tag → CType → Typed → Typed → Low → Low
copied tags of to from l = acted (copy_root (size_of tags of) (align_of tags of) to from) l
