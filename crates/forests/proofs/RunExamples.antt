-- Small functions run, worked out by hand.
use Rattle.std.specs.Prelude.{◌≡◌, ℕ, zero, suc, ℤ, pos, negsuc, true, ◌==◌, Option, Some, None, List, [], ◌∷◌, refl, if◌then◌else◌}
use Rattle.lcc_base.specs.declared.order.Order.TheVariants.{Little}
use Rattle.objects.specs.declared.value.Value.{Value}
use Rattle.objects.specs.declared.value.Value.TheVariants.{Number, Pointer, Function}
use Rattle.op_forest.specs.declared.frame.Slot.{Slot}
use Rattle.op_forest.specs.declared.op.Op.TheVariants as op
use Rattle.op_forest.specs.declared.suffix.Suffix.TheVariants.{I, U, P, V}
use Rattle.op_forest.specs.declared.sym.Sym.TheVariants as sym
use Rattle.op_forest.specs.Callees.{Callee, Defined, Provided, Missing, Putchar}
use Rattle.op_forest.specs.Nodes.{Node, Leaf, One, Two}
use Rattle.lcc_base.specs.Traces.{output_of}
use Rattle.forests.specs.Words.{Word, Plain, Label, unknown}
use Rattle.forests.specs.WordBytes.{word_bytes}
use Rattle.forests.specs.Worlds.{Point, Effect, Went, Exits, Unfinished, Stuck}
use Rattle.forests.specs.Functions.{Program}
use Rattle.forests.specs.Meaning.{call_of}
use Rattle.forests.specs.Nested.{calls_at}
use Rattle.forests.proofs.Samples.{head}

abbrev constant : ℕ → Node
constant n = Leaf (head op.Cnst I sym.Nothing (Some (pos n)))

abbrev local : ℤ → Node
local offset = Leaf (head op.Addrl P sym.Nothing (Some offset))

abbrev parameter : ℤ → Node
parameter offset = Leaf (head op.Addrf P sym.Nothing (Some offset))

abbrev global : ℕ → Node
global name = Leaf (head op.Addrg P (sym.Global name (pos 0)) None)

abbrev load : Node → Node
load a = One (head op.Indir I sym.Nothing None) a

abbrev store : Node → Node → Node
store a b = Two (head op.Asgn I sym.Nothing None) a b

abbrev add : Node → Node → Node
add a b = Two (head op.Add I sym.Nothing None) a b

abbrev pass : Node → Node
pass a = One (head op.Arg I sym.Nothing None) a

abbrev call : ℕ → Node
call name = One (head op.Call I sym.Nothing None) (global name)

abbrev gives_back : Node → Node
gives_back a = One (head op.Ret I sym.Nothing None) a

abbrev label : ℕ → Node
label l = Leaf (head op.Label V (sym.Label l) None)

abbrev body : ℕ → List Slot → List Node → Callee
body words slots roots = Defined (record { words = words; slots = slots; roots = roots })

abbrev slot : ℤ → ℕ → Slot
slot offset size = record { offset = offset; size = size }

-- i from 3 down to 1 is added to a sum, at -8; 65 more than the sum is printed; the sum is given back
abbrev sums : Callee
sums =
    body 0 (slot (negsuc 7) 4 ∷ slot (negsuc 3) 4 ∷ [])
    (store (local (negsuc 7)) (constant 0)
    ∷ store (local (negsuc 3)) (constant 3)
    ∷ label 1
    ∷ store (local (negsuc 7)) (add (load (local (negsuc 7))) (load (local (negsuc 3))))
    ∷ store (local (negsuc 3)) (add (load (local (negsuc 3))) (Leaf (head op.Cnst I sym.Nothing (Some (negsuc 0)))))
    ∷ Two (head op.Gt I (sym.Label 1) None) (load (local (negsuc 3))) (constant 0)
    ∷ pass (add (constant 65) (load (local (negsuc 7))))
    ∷ call 1
    ∷ gives_back (load (local (negsuc 7)))
    ∷ [])

-- its parameter and one more
abbrev increments : Callee
increments = body 1 [] (gives_back (add (load (parameter (pos 0))) (constant 1)) ∷ [])

abbrev to_word : Node → Node
to_word a = One (head op.Cvu I sym.Nothing None) (One (head op.Cvp U sym.Nothing None) a)

abbrev to_pointer : Node → Node
to_pointer a = One (head op.Cvu P sym.Nothing None) (One (head op.Cvi U sym.Nothing None) a)

-- the address of its own slot
abbrev gives_local : Callee
gives_local = body 0 (slot (negsuc 3) 4 ∷ []) (store (local (negsuc 3)) (constant 5) ∷ gives_back (to_word (local (negsuc 3))) ∷ [])

-- no value
abbrev gives_nothing : Callee
gives_nothing = body 0 [] []

abbrev calls_with_one : Callee
calls_with_one = body 0 [] (pass (constant 41) ∷ gives_back (call 2) ∷ [])

abbrev calls_with_none : Callee
calls_with_none = body 0 [] (gives_back (call 2) ∷ [])

abbrev loads_local : Callee
loads_local = body 0 [] (gives_back (load (to_pointer (call 3))) ∷ [])

abbrev asks_nothing : Callee
asks_nothing = body 0 [] (gives_back (call 4) ∷ [])

abbrev compares_nothing : Callee
compares_nothing = body 0 [] (label 1 ∷ Two (head op.Eq I (sym.Label 1) None) (call 4) (constant 0) ∷ [])

-- a jump through a table that holds the address of its label 2
abbrev jumps_by_table : Callee
jumps_by_table = body 0 [] (One (head op.Jump V sym.Nothing None) (One (head op.Indir P sym.Nothing None) (global 20)) ∷ gives_back (constant 1) ∷ label 2 ∷ gives_back (constant 2) ∷ [])

abbrev callee : ℕ → Callee
callee zero = sums
callee (suc zero) = Provided Putchar
callee (suc (suc zero)) = increments
callee (suc (suc (suc zero))) = gives_local
callee (suc (suc (suc (suc zero)))) = gives_nothing
callee (suc (suc (suc (suc (suc zero))))) = calls_with_one
callee (suc (suc (suc (suc (suc (suc zero)))))) = calls_with_none
callee (suc (suc (suc (suc (suc (suc (suc zero))))))) = loads_local
callee (suc (suc (suc (suc (suc (suc (suc (suc zero)))))))) = asks_nothing
callee (suc (suc (suc (suc (suc (suc (suc (suc (suc zero))))))))) = compares_nothing
callee (suc (suc (suc (suc (suc (suc (suc (suc (suc (suc zero)))))))))) = jumps_by_table
callee n = Missing

-- name 20 is the table, each other one a function
abbrev value : ℕ → Option Value
value n = if n == 20 then Some (Pointer (record { place = 0; made = 0; size = 4 }) 0) else Some (Function n)

abbrev program : Program
program = record { callee = callee; global = value; order = Little }

abbrev start : ℕ → Point
start left = record {
  left = left;
  world = record { objects = record { made = 0; constant = true; bytes = word_bytes Little (Label 10 2) } ∷ []; made = 1; arguments = []; input = []; trace = [] };
}

abbrev runs : ℕ → ℕ → Effect
runs name left = call_of program name (start left)

abbrev values : Effect → List Word
values (Went ws p mv) = ws
values (Exits status w) = []
values (Unfinished w) = []
values Stuck = []

abbrev steps_left : Effect → ℕ
steps_left (Went ws p mv) = p.left
steps_left (Exits status w) = 0
steps_left (Unfinished w) = 0
steps_left Stuck = 0

abbrev seen : Effect → List ℕ
seen (Went ws p mv) = output_of p.world.trace
seen (Exits status w) = output_of w.trace
seen (Unfinished w) = output_of w.trace
seen Stuck = []

-- the sum is 6, and 71 is G; 15 roots act
gives_six : values (runs 0 20) ≡ Plain (Number 6) ∷ []
gives_six = refl

prints_g : seen (runs 0 20) ≡ 71 ∷ []
prints_g = refl

takes_fifteen : steps_left (runs 0 20) ≡ 5
takes_fifteen = refl

has_not_printed : seen (runs 0 12) ≡ []
has_not_printed = refl

passes_argument : values (runs 5 9) ≡ Plain (Number 42) ∷ []
passes_argument = refl

lacks_argument : runs 6 9 ≡ Stuck
lacks_argument = refl

-- the callee's slot is past its lifetime
loads_dead : runs 7 9 ≡ Stuck
loads_dead = refl

gives_unknown : values (runs 8 9) ≡ unknown ∷ []
gives_unknown = refl

uses_unknown : runs 9 9 ≡ Stuck
uses_unknown = refl

jumps_to_two : values (runs 10 9) ≡ Plain (Number 2) ∷ []
jumps_to_two = refl

no_such_function : runs 11 9 ≡ Stuck
no_such_function = refl

with_budget : values (calls_at program 20 0 (start 0)) ≡ Plain (Number 6) ∷ []
with_budget = refl
