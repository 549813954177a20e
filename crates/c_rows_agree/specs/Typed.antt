-- Templates with the suffixes of their values. An integer of C, of any width and sign, has suffix I or U, and its word is the number modulo
-- 2^32; a pointer has suffix P. Conversions between these three suffixes keep each word.
-- Source: Fraser and Hanson, A Retargetable C Compiler, chapter 5 (conversions); ISO/IEC 9899:1990, 6.2.1.2 and 6.3.4.
use Rattle.std.specs.Prelude.{ℕ, ℤ, pos, Bool, true, false, Option, Some, None}
use Rattle.objects.specs.declared.value.Value.{Value}
use Rattle.objects.specs.Arithmetic.{signed_of}
use Rattle.op_forest.specs.declared.op.Op.{Op}
use Rattle.op_forest.specs.declared.op.Op.TheVariants as op
use Rattle.op_forest.specs.declared.suffix.Suffix.{Suffix}
use Rattle.op_forest.specs.declared.suffix.Suffix.TheVariants.{I, U, P}
use Rattle.op_forest.specs.declared.sym.Sym.{Sym}
use Rattle.op_forest.specs.declared.sym.Sym.TheVariants as sym
use Rattle.op_forest.specs.Nodes.{Head}
use Rattle.forests.specs.Words.{Word}
use Rattle.c_match.specs.Values.{IsValue}
use Rattle.c_rows_agree.specs.Templates.{Template, Leaf, One, Two, Scene, Gives}

-- ---- operators

abbrev pub head_with : Op → Suffix → Sym → Option ℤ → Head
head_with o s x z = record { operator = record { op = o; suffix = s }; sym = x; value = z }

-- one without a symbol or a constant
abbrev pub head : Op → Suffix → Head
head o s = head_with o s sym.Nothing None

abbrev pub over : Op → Suffix → Template → Template
over o s a = One (head o s) a

abbrev pub over_two : Op → Suffix → Template → Template → Template
over_two o s a b = Two (head o s) a b

-- numbers as constants
abbrev pub constant_i : ℕ → Template
constant_i n = Leaf (head_with op.Cnst I sym.Nothing (Some (signed_of n)))

abbrev pub constant_u : ℕ → Template
constant_u n = Leaf (head_with op.Cnst U sym.Nothing (Some (pos n)))

-- ---- values of C

pub record Typed : Type 0 where
  pub tree : Template
  pub suffix : Suffix

-- the template's word stands for the value
pub record Holds (k : Scene) (a : Typed) (v : Value) : Type 0 where
  pub word : Word
  pub gives : Gives k a.tree word
  pub is : IsValue k.map v word

-- ---- the suffix that a consumer asks for

abbrev pub as_i_from : Suffix → Template → Template
as_i_from U t = over op.Cvu I t
as_i_from P t = over op.Cvu I (over op.Cvp U t)
as_i_from s t = t

abbrev pub as_u_from : Suffix → Template → Template
as_u_from I t = over op.Cvi U t
as_u_from P t = over op.Cvp U t
as_u_from s t = t

abbrev pub as_p_from : Suffix → Template → Template
as_p_from I t = over op.Cvu P (over op.Cvi U t)
as_p_from U t = over op.Cvu P t
as_p_from s t = t

abbrev pub as_i : Typed → Template
as_i a = as_i_from a.suffix a.tree

abbrev pub as_u : Typed → Template
as_u a = as_u_from a.suffix a.tree

abbrev pub as_p : Typed → Template
as_p a = as_p_from a.suffix a.tree

-- the suffix of operators on signed or unsigned numbers
abbrev pub suffix_by : Bool → Suffix
suffix_by true = I
suffix_by false = U

abbrev pub as_by : Bool → Typed → Template
as_by true a = as_i a
as_by false a = as_u a
