-- Examples of expressions that fit their kinds, and of such as don't.
use Rattle.std.specs.Prelude.{◌≡◌, refl, ℕ, codes, true, false, Option, Some, None}
use Rattle.std.proofs.Common.{arith, inl, inr}
use Rattle.c_ast.specs.declared.operator.BinaryOperator.TheVariants as binary
use Rattle.c_ast.specs.declared.operator.AssignOperator.TheVariants as assign
use Rattle.objects.specs.declared.operators.Binary.TheVariants as operator
use Rattle.c_types.specs.CType.{Unsigned, Array, basic}
use Rattle.c_types.specs.Members.{MemberAt}
use Rattle.c_types.specs.BitFields.{IsInUnit}
use Rattle.c_meaning.specs.declared.core_expr.Change.TheVariants as change
use Rattle.c_meaning.specs.declared.core_expr.CoreKind.TheVariants as kind
use Rattle.c_meaning.specs.CoreTrees.{Core, one, two, three}
use Rattle.c_meaning.specs.Types.{pointer_to}
use Rattle.c_meaning.specs.Values.{CoreTree, value}
use Rattle.c_meaning.specs.Nodes as node
use Rattle.c_meaning.specs.Rows.{row}
use Rattle.c_meaning.specs.Fits.{Fits, IsOpenLeaf}
use Rattle.c_meaning.specs.Samples.{sample, int, struct_s, struct_open, x, f, a, s, p, byte, to_open, constant, unsigned_constant, select, local, pointed, giving, called, taking, taking_more}

abbrev Fit : CoreTree → Type 0
Fit c = Fits IsOpenLeaf sample.tags c

-- ---- places and values

x_fits : Fit x
x_fits = (tt, (refl, tt))

read_of_x : Fit (value x)
read_of_x = ((x_fits, tt), (refl, (refl, (refl, refl))))

one_fits : Fit (constant 1)
one_fits = (tt, (refl, refl))

-- x + 1
sum_of_values : Fit (row sample 1 (node.Binary binary.Add x (constant 1)))
sum_of_values = ((read_of_x, (one_fits, tt)), (refl, (refl, ((refl, refl), (refl, refl)))))

-- nothing is read where the places themselves are operands
sum_of_places : Fit (Core (kind.Binary operator.Add true) int 1 (two x x)) → ⊥
sum_of_places h = let e : false ≡ true = h.1.0 in cc

read_of_a_value : Fit (Core kind.Read int 1 (one (constant 1))) → ⊥
read_of_a_value h = let e : false ≡ true = h.1.1.0 in cc

address_of_a_value : Fit (Core kind.Address (pointer_to int) 1 (one (constant 1))) → ⊥
address_of_a_value h = let e : false ≡ true = h.1.1.0 in cc

-- ---- assignments and conditionals

-- x = 1
scalar_assigned : Fit (row sample 1 (node.Assign assign.Plain x (constant 1)))
scalar_assigned = ((x_fits, (one_fits, tt)), (refl, (refl, (refl, (refl, refl)))))

s_fits : Fit s
s_fits = (tt, (refl, tt))

-- s = s
structure_assigned : Fit (row sample 1 (node.Assign assign.Plain s s))
structure_assigned = ((s_fits, (s_fits, tt)), (refl, (refl, (refl, (refl, refl)))))

array_assigned : Fit (Core kind.Assign (Array int (Some 3)) 1 (two a a)) → ⊥
array_assigned h = let e : false ≡ true = h.1.1.1.0 in cc

-- *to_open = *to_open, whose structure is not complete
open_structure_assigned : Fit (Core kind.Assign struct_open 1 (two (pointed to_open) (pointed to_open))) → ⊥
open_structure_assigned h = let e : false ≡ true = h.1.1.1.0 in cc

-- 1 ? s : s
structure_chosen : Fit (row sample 1 (node.Conditional (constant 1) s s))
structure_chosen = ((one_fits, (s_fits, (s_fits, tt))), (refl, (refl, (refl, (refl, refl)))))

open_structure_chosen : Fit (Core kind.Conditional struct_open 1 (three (constant 1) (pointed to_open) (pointed to_open))) → ⊥
open_structure_chosen h = let e : false ≡ true = h.1.1.1.0 in cc

-- ---- calls

f_fits : Fit (value f)
f_fits = (((tt, (refl, tt)), tt), (refl, (refl, refl)))

-- f(1)
as_many_arguments : Fit (row sample 1 (node.Call f (one (constant 1))))
as_many_arguments = ((f_fits, (one_fits, tt)), (refl, (refl, (refl, (refl, (refl, (refl, (refl, tt))))))))

too_few_arguments : Fit (Core (kind.Call 0) int 1 (one (value f))) → ⊥
too_few_arguments h = h.1.1.1.1.1.1

too_many_arguments : Fit (Core (kind.Call 0) int 1 (three (value f) (constant 1) (constant 1))) → ⊥
too_many_arguments h = let e : false ≡ true = h.1.1.1.1.1.1.1.1.0 in cc

argument_of_another_type : Fit (Core (kind.Call 0) int 1 (two (value f) (unsigned_constant 1))) → ⊥
argument_of_another_type h = let e : basic Unsigned ≡ int = h.1.1.1.1.1.1.1.0 in cc

more_fits : Fit (value taking_more)
more_fits = (((tt, (refl, tt)), tt), (refl, (refl, (refl, refl))))

-- more arguments than parameters, where `...` stands behind them
further_arguments : Fit (row sample 1 (node.Call taking_more (two (constant 1) (constant 1))))
further_arguments = ((more_fits, (one_fits, (one_fits, tt))), (refl, (refl, (refl, (refl, (refl, (refl, (refl, (refl, (refl, (refl, tt)))))))))))

-- a structure is passed and given as it is
structure_passed : Fit (row sample 1 (node.Call (taking struct_s) (one s)))
structure_passed = (((((tt, (refl, tt)), tt), (refl, (refl, (refl, refl)))), (s_fits, tt)), (refl, (refl, (refl, (refl, (refl, (refl, (refl, tt))))))))

structure_given : Fit (called struct_s)
structure_given = (((((tt, (refl, tt)), tt), (refl, (refl, (refl, refl)))), tt), (refl, (refl, (refl, (refl, (refl, tt))))))

open_structure_given : Fit (Core (kind.Call 0) struct_open 1 (one (value (giving struct_open)))) → ⊥
open_structure_given h = let e : true ≡ false = h.1.1.1.1.1.0 in cc

-- ---- changes

abbrev word : CoreTree
word = local (basic Unsigned)

word_fits : Fit word
word_fits = (tt, (refl, tt))

-- an unsigned word and an int meet at unsigned int
changed_at_the_usual_type : Fit (row sample 1 (node.Assign assign.Add word (constant 1)))
changed_at_the_usual_type =
    ((word_fits, (((one_fits, tt), (refl, (refl, inr (refl, refl)))), tt)), (refl, (refl, (refl, (refl, ((refl, refl), (refl, refl)))))))

changed_at_int : Fit (Core (kind.Change (change.Arithmetic operator.Add true)) (basic Unsigned) 1 (two word (constant 1))) → ⊥
changed_at_int h = let e : basic Unsigned ≡ int = h.1.1.1.1.1.1.0 in cc

-- a shift has the sign of the place's promoted value, whatever the count is
shifted_by_its_own_sign : Fit (row sample 1 (node.Assign assign.ShiftRight word (constant 1)))
shifted_by_its_own_sign = ((word_fits, (one_fits, tt)), (refl, (refl, (refl, (refl, ((refl, refl), refl))))))

shifted_by_the_sign_of_the_count : Fit (Core (kind.Change (change.Arithmetic operator.ShiftRight true)) (basic Unsigned) 1 (two word (constant 1))) → ⊥
shifted_by_the_sign_of_the_count h = let e : false ≡ true = h.1.1.1.1.1.1 in cc

byte_fits : Fit byte
byte_fits = (tt, (refl, tt))

-- an unsigned char is promoted to int
narrow_shifted : Fit (row sample 1 (node.Assign assign.ShiftRight byte (constant 1)))
narrow_shifted = ((byte_fits, (one_fits, tt)), (refl, (refl, (refl, (refl, ((refl, refl), refl))))))

-- ---- pointers and members

p_fits : Fit (value p)
p_fits = (((tt, (refl, tt)), tt), (refl, (refl, (refl, refl))))

-- p + 1
moved_by_one : Fit (row sample 1 (node.Binary binary.Add p (constant 1)))
moved_by_one = ((p_fits, (one_fits, tt)), (refl, (refl, (refl, inl (refl, (refl, refl))))))

abbrev no_size : Option ℕ
no_size = None

-- elements of an incomplete type have no size
moved_over_open_structures : Fit (Core (kind.Move 0 false) (pointer_to struct_open) 1 (two (value to_open) (constant 1))) → ⊥
moved_over_open_structures h = let e : no_size ≡ Some 0 = h.1.1.1.0 in cc

abbrev bits : ℕ → ℕ → MemberAt
bits first width = record { of = basic Unsigned; offset = 4; first = first; width = width }

-- s.b has 3 bits
bit_field : Fit (select s (codes "b"))
bit_field = ((s_fits, tt), (refl, (refl, (codes "b", bits 0 3, refl, (refl, (refl, (refl, (record { of = λ h. refl; within = omega arith }, refl))))))))

bits_past_their_unit : IsInUnit (bits 30 5) → ⊥
bits_past_their_unit h = omega (arith, h.within)
