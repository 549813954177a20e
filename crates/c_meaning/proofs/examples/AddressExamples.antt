-- Examples of address constants.
use Rattle.std.specs.Prelude.{◌≡◌, refl, ℕ, pos, codes, Option, Some, None, List, [], ◌∷◌}
use Rattle.c_ast.specs.declared.class.IntKind.TheVariants as int_kind
use Rattle.c_ast.specs.declared.operator.BinaryOperator.TheVariants as binary
use Rattle.c_ast.specs.declared.operator.MemberOperator.TheVariants as member
use Rattle.c_ast.specs.declared.operator.PrefixOperator.TheVariants as prefix
use Rattle.c_ast.specs.declared.specifier.BasicType.TheVariants as word
use Rattle.c_ast.specs.declared.specifier.RecordKind.TheVariants as record_kind
use Rattle.c_ast.specs.declared.specifier.Storage.TheVariants as class
use Rattle.c_ast.specs.Trees.{ExprTree, Name, Integer, Text, Index, Member, Prefix, Binary, Cast, TypeNamed, Specified, SpecifierTree, Basic, RecordTag, NoSpecifiers, Specifiers, ADeclarator, Declarator, Omitted, NoSuffixes}
use Rattle.c_types.specs.CType.{Array}
use Rattle.c_meaning.specs.State.{State}
use Rattle.c_meaning.specs.Types.{pointer_to}
use Rattle.c_meaning.specs.Values.{CoreTree, value}
use Rattle.c_meaning.specs.Constants.{fold}
use Rattle.c_meaning.specs.Constraints.{fault_at}
use Rattle.c_meaning.specs.Typing.{Outcome, Fine, Bad, typed}
use Rattle.c_meaning.specs.Samples.{sample, int, struct_s}
use Rattle.c_meaning.specs.Linkage.{with_name}
use Rattle.c_meaning.specs.AddressConstants.{Address, pointer_address}

-- ---- addresses in the function, behind `extern struct s whole; extern int row[], *to;`

abbrev here : State
here =
    with_name
    (with_name
    (with_name sample 1 (Some class.Extern) (codes "whole") struct_s)
    1 (Some class.Extern) (codes "row") (Array int None))
    1 (Some class.Extern) (codes "to") (pointer_to int)

abbrev address_in : Outcome CoreTree → Option Address
address_in (Fine s c) = pointer_address s.tags (value c)
address_in (Bad f) = None

-- what the value of an expression is, if that is an address constant
abbrev address : ExprTree → Option Address
address e = address_in (typed here e)

-- so far in an object of a size
abbrev at : ℕ → ℕ → Option Address
at size offset = Some (record { size = size; offset = pos offset })

-- ---- expressions

abbrev x : ExprTree
x = Name 1 (codes "x")

abbrev whole : ExprTree
whole = Name 1 (codes "whole")

abbrev row : ExprTree
row = Name 1 (codes "row")

abbrev to : ExprTree
to = Name 1 (codes "to")

abbrev g : ExprTree
g = Name 1 (codes "g")

abbrev ab : ExprTree
ab = Text 1 (codes "ab" ∷ [])

abbrev number : ℕ → ExprTree
number k = Integer 1 k int_kind.Int

abbrev minus : ℕ → ExprTree
minus k = Prefix 1 prefix.Minus (number k)

abbrev address_of : ExprTree → ExprTree
address_of e = Prefix 1 prefix.Address e

abbrev pointed : ExprTree → ExprTree
pointed e = Prefix 1 prefix.Indirect e

abbrev sum : ExprTree → ExprTree → ExprTree
sum e f = Binary 1 binary.Add e f

abbrev less : ExprTree → ExprTree → ExprTree
less e f = Binary 1 binary.Subtract e f

-- the member `list` of the structure s, two ints at its offset 8
abbrev list : ExprTree
list = Member 1 member.Dot whole (codes "list")

abbrev cast : SpecifierTree → ExprTree → ExprTree
cast specifier e = Cast 1 (TypeNamed 1 (Specified 1 (Specifiers specifier NoSpecifiers)) (ADeclarator (Declarator 1 ([] ∷ []) Omitted NoSuffixes))) e

-- (char *)e
abbrev to_char : ExprTree → ExprTree
to_char e = cast (Basic 1 word.Char) e

-- ((struct s *)0)->name
abbrev nowhere : List ℕ → ExprTree
nowhere name = Member 1 member.Arrow (cast (RecordTag 1 record_kind.Struct (codes "s")) (number 0)) name

-- ---- objects and their parts

-- &whole
an_object : address (address_of whole) ≡ at 16 0
unfolding fold fault_at
an_object = refl

-- &x
a_local_object : address (address_of x) ≡ None
unfolding fold fault_at
a_local_object = refl

-- whole.list
an_array : address list ≡ at 16 8
unfolding fold fault_at
an_array = refl

-- &whole.list[1]
an_element : address (address_of (Index 1 list (number 1))) ≡ at 16 12
unfolding fold fault_at
an_element = refl

-- &*(whole.list + 1)
what_is_pointed_to : address (address_of (pointed (sum list (number 1)))) ≡ at 16 12
unfolding fold fault_at
what_is_pointed_to = refl

-- &(&whole)->list
a_member_of_what_is_pointed_to : address (address_of (Member 1 member.Arrow (address_of whole) (codes "list"))) ≡ at 16 8
unfolding fold fault_at
a_member_of_what_is_pointed_to = refl

-- to
a_pointer_that_is_read : address to ≡ None
unfolding fold fault_at
a_pointer_that_is_read = refl

-- &*to
an_address_that_is_read : address (address_of (pointed to)) ≡ None
unfolding fold fault_at
an_address_that_is_read = refl

-- &to
where_a_pointer_stands : address (address_of to) ≡ at 4 0
unfolding fold fault_at
where_a_pointer_stands = refl

-- ---- forwards and backwards, inside the whole object

-- whole.list + 2
to_the_end : address (sum list (number 2)) ≡ at 16 16
unfolding fold fault_at
to_the_end = refl

-- whole.list + 3
past_the_end : address (sum list (number 3)) ≡ None
unfolding fold fault_at
past_the_end = refl

-- whole.list - 2
to_the_start : address (less list (number 2)) ≡ at 16 0
unfolding fold fault_at
to_the_start = refl

-- whole.list - 3
before_the_start : address (less list (number 3)) ≡ None
unfolding fold fault_at
before_the_start = refl

-- whole.list + -2
backwards_by_a_sum : address (sum list (minus 2)) ≡ at 16 0
unfolding fold fault_at
backwards_by_a_sum = refl

-- whole.list + -3
before_the_start_by_a_sum : address (sum list (minus 3)) ≡ None
unfolding fold fault_at
before_the_start_by_a_sum = refl

-- whole.list - -2
forwards_by_a_difference : address (less list (minus 2)) ≡ at 16 16
unfolding fold fault_at
forwards_by_a_difference = refl

-- whole.list + 3 - 1
past_the_end_and_back : address (less (sum list (number 3)) (number 1)) ≡ None
unfolding fold fault_at
past_the_end_and_back = refl

-- 1 + "ab"
a_number_before_the_pointer : address (sum (number 1) ab) ≡ at 3 1
unfolding fold fault_at
a_number_before_the_pointer = refl

-- (char *)&whole + 5
at_another_type : address (sum (to_char (address_of whole)) (number 5)) ≡ at 16 5
unfolding fold fault_at
at_another_type = refl

-- ---- arrays of unknown size

-- row + 5
in_an_array_of_unknown_size : address (sum row (number 5)) ≡ at 16777216 20
unfolding fold fault_at
in_an_array_of_unknown_size = refl

-- row - 1
before_an_array_of_unknown_size : address (less row (number 1)) ≡ None
unfolding fold fault_at
before_an_array_of_unknown_size = refl

-- ---- functions and numbers

-- g
a_function : address g ≡ at 0 0
unfolding fold fault_at
a_function = refl

-- *g
a_function_pointed_to : address (pointed g) ≡ at 0 0
unfolding fold fault_at
a_function_pointed_to = refl

-- (char *)g + 0
a_function_not_moved : address (sum (to_char g) (number 0)) ≡ at 0 0
unfolding fold fault_at
a_function_not_moved = refl

-- (char *)g + 1
a_function_moved : address (sum (to_char g) (number 1)) ≡ None
unfolding fold fault_at
a_function_moved = refl

-- (char *)8 + 0
a_number_not_moved : address (sum (to_char (number 8)) (number 0)) ≡ at 0 0
unfolding fold fault_at
a_number_not_moved = refl

-- (char *)8 + 1
a_number_moved : address (sum (to_char (number 8)) (number 1)) ≡ None
unfolding fold fault_at
a_number_moved = refl

-- &((struct s *)0)->m
the_first_member_of_nothing : address (address_of (nowhere (codes "m"))) ≡ at 0 0
unfolding fold fault_at
the_first_member_of_nothing = refl

-- &((struct s *)0)->list
a_later_member_of_nothing : address (address_of (nowhere (codes "list"))) ≡ None
unfolding fold fault_at
a_later_member_of_nothing = refl
