-- Constants and addresses, worked out by hand.
use Rattle.std.specs.Prelude.{◌≡◌, ℕ, ℤ, pos, negsuc, Option, Some, None, [], refl}
use Rattle.lcc_base.specs.declared.order.Order.TheVariants.{Big}
use Rattle.op_forest.specs.declared.op.Op.TheVariants as op
use Rattle.op_forest.specs.declared.suffix.Suffix.{Suffix}
use Rattle.op_forest.specs.declared.suffix.Suffix.TheVariants.{C, S, I, U, P}
use Rattle.op_forest.specs.declared.sym.Sym.TheVariants as sym
use Rattle.forests.specs.Words.{Label, Partly}
use Rattle.forests.specs.Actions.{Action, Gave, Meaningless}
use Rattle.forests.proofs.Samples.{number, minus_one, table, slot, argument, at, function, does_with}

abbrev constant : Suffix → Option ℤ → Action
constant x v = does_with Big op.Cnst x sym.Nothing v []

-- a char has 8 bits that are known, a short 16
char_of_minus_two : constant C (Some (negsuc 1)) ≡ Gave (Partly 255 254)
char_of_minus_two = refl

short_of_minus_two : constant S (Some (negsuc 1)) ≡ Gave (Partly 65535 65534)
short_of_minus_two = refl

no_char : constant C None ≡ Meaningless
no_char = refl

no_short : constant S None ≡ Meaningless
no_short = refl

int_of_minus_one : constant I (Some (negsuc 0)) ≡ Gave minus_one
int_of_minus_one = refl

least_int : constant I (Some (negsuc 2147483647)) ≡ Gave (number 2147483648)
least_int = refl

greatest_unsigned : constant U (Some (pos 4294967295)) ≡ Gave minus_one
greatest_unsigned = refl

null_pointer : constant P (Some (pos 0)) ≡ Gave (number 0)
null_pointer = refl

no_pointer : constant P None ≡ Meaningless
no_pointer = refl

abbrev global : ℕ → ℤ → Action
global name offset = does_with Big op.Addrg P (sym.Global name offset) None []

abbrev local : ℤ → Action
local offset = does_with Big op.Addrl P sym.Nothing (Some offset) []

abbrev parameter : ℤ → Action
parameter offset = does_with Big op.Addrf P sym.Nothing (Some offset) []

-- behind a name, up to the end of its object; a function isn't moved
name_itself : global 0 (pos 0) ≡ Gave (at table 0)
name_itself = refl

end_of_object : global 0 (pos 4) ≡ Gave (at table 4)
end_of_object = refl

past_the_end : global 0 (pos 5) ≡ Meaningless
past_the_end = refl

before_the_start : global 0 (negsuc 0) ≡ Meaningless
before_the_start = refl

function_itself : global 1 (pos 0) ≡ Gave (function 1)
function_itself = refl

function_moved : global 1 (pos 4) ≡ Meaningless
function_moved = refl

no_such_name : global 2 (pos 0) ≡ Meaningless
no_such_name = refl

own_label : does_with Big op.Addrg P (sym.Label 3) None [] ≡ Gave (Label 5 3)
own_label = refl

no_symbol : does_with Big op.Addrg P sym.Nothing None [] ≡ Meaningless
no_symbol = refl

-- the slot's bytes are those from -8 to -1
first_of_slot : local (negsuc 7) ≡ Gave (at slot 0)
first_of_slot = refl

last_of_slot : local (negsuc 0) ≡ Gave (at slot 7)
last_of_slot = refl

top_of_frame : local (pos 0) ≡ Meaningless
top_of_frame = refl

below_the_slot : local (negsuc 8) ≡ Meaningless
below_the_slot = refl

-- the only parameter word has 4 bytes
first_of_word : parameter (pos 0) ≡ Gave (at argument 0)
first_of_word = refl

last_of_word : parameter (pos 3) ≡ Gave (at argument 3)
last_of_word = refl

behind_the_words : parameter (pos 4) ≡ Meaningless
behind_the_words = refl

before_the_words : parameter (negsuc 0) ≡ Meaningless
before_the_words = refl
