-- Examples of what blocks do, and of which nodes have to be kept. What some of them do in a world of a few objects stands in
-- proofs/RunExamples.
use Rattle.std.specs.Prelude.{◌≡◌, refl, ℕ, ℤ, pos, negsuc, ◌==◌, false, Some, None, List, [], ◌∷◌, if◌then◌else◌}
use Rattle.std.proofs.Common.{true≢false, ap}
use Rattle.op_forest.specs.declared.op.Op.{Op}
use Rattle.op_forest.specs.declared.op.Op.TheVariants as op
use Rattle.op_forest.specs.declared.suffix.Suffix.{Suffix}
use Rattle.op_forest.specs.declared.suffix.Suffix.TheVariants.{I, U, P}
use Rattle.op_forest.specs.declared.sym.Sym.TheVariants as sym
use Rattle.dag_forest.specs.declared.entry.Entry.{Entry}
use Rattle.dag_forest.specs.declared.entry.Entry.TheVariants.{Value, Root}
use Rattle.dag_forest.specs.declared.kids.Kids.{Kids}
use Rattle.dag_forest.specs.declared.kids.Kids.TheVariants.{Zero, One, Two}
use Rattle.dag_forest.specs.declared.kind.Kind.TheVariants.{Signed}
use Rattle.dag_forest.specs.declared.parts.Parts.{Parts}
use Rattle.dag_forest.specs.Schedules.{Made, Acts, acts_of}
use Rattle.dag_forest.specs.Meaning.{Temporary, Keeps}
use Rattle.dag_forest.specs.Emission.{Lost, Holds}
use Rattle.dag_forest.specs.Choice.{chosen}

abbrev pub over : Op → Suffix → Kids → Parts
over o x kids = record { operator = record { op = o; suffix = x }; kids = kids; sym = sym.Nothing; constant = None }

abbrev pub constant : ℤ → Parts
constant z = record { operator = record { op = op.Cnst; suffix = I }; kids = Zero; sym = sym.Nothing; constant = Some z }

-- a local object of 4 bytes, and the function of name 0
abbrev place : Parts
place = record { operator = record { op = op.Addrl; suffix = P }; kids = Zero; sym = sym.Nothing; constant = Some (negsuc 3) }

abbrev function : Parts
function = record { operator = record { op = op.Addrg; suffix = P }; kids = Zero; sym = sym.Global 0 (pos 0); constant = None }

abbrev pub read : ℕ → Parts
read a = over op.Indir I (One a)

abbrev pub call : ℕ → Parts
call f = over op.Call I (One f)

abbrev pub write : ℕ → ℕ → Entry
write a b = Root (over op.Asgn I (Two a b))

abbrev return : ℕ → Entry
return a = Root (over op.Ret I (One a))

abbrev pub nothing_kept : Keeps
nothing_kept n = None

-- the second node is kept
abbrev pub second_kept : Temporary → Keeps
second_kept t n = if n == 1 then Some t else None

-- the object of a name, and so many bytes behind
abbrev pub address : ℕ → ℤ → Parts
address n by = record { operator = record { op = op.Addrg; suffix = P }; kids = Zero; sym = sym.Global n by; constant = None }

-- ---- in which order

-- int x; .. x + x
sum : acts_of (Value place ∷ Value (read 0) ∷ Value (over op.Add I (Two 1 1)) ∷ return 2 ∷ [])
    ≡ Made 0 place ∷ Made 1 (read 0) ∷ Made 2 (over op.Add I (Two 1 1)) ∷ Acts (over op.Ret I (One 2)) ∷ []
sum = refl

-- a call that is made before a write and returned behind it acts behind it
call_waits : acts_of (Value function ∷ Value (call 0) ∷ Value place ∷ Value (constant (pos 1)) ∷ write 2 3 ∷ return 1 ∷ [])
    ≡ Made 0 function ∷ Made 2 place ∷ Made 3 (constant (pos 1)) ∷ Acts (over op.Asgn I (Two 2 3)) ∷ Made 1 (call 0) ∷ Acts (over op.Ret I (One 1)) ∷ []
call_waits = refl

-- what stands above a call waits with it
sum_waits : acts_of (Value function ∷ Value (call 0) ∷ Value (over op.Neg I (One 1)) ∷ Value place ∷ Value (constant (pos 1)) ∷ write 3 4 ∷ return 2 ∷ [])
    ≡ Made 0 function ∷ Made 3 place ∷ Made 4 (constant (pos 1)) ∷ Acts (over op.Asgn I (Two 3 4)) ∷ Made 1 (call 0) ∷ Made 2 (over op.Neg I (One 1)) ∷ Acts (over op.Ret I (One 2)) ∷ []
sum_waits = refl

-- two calls below one root act in the order in which they were made, one behind it later
calls_in_order : acts_of (Value function ∷ Value (call 0) ∷ Value (call 0) ∷ Value (call 0) ∷ Value (over op.Add I (Two 3 1)) ∷ Value place ∷ write 5 4 ∷ return 2 ∷ [])
    ≡ Made 0 function ∷ Made 5 place ∷ Made 1 (call 0) ∷ Made 3 (call 0) ∷ Made 4 (over op.Add I (Two 3 1)) ∷ Acts (over op.Asgn I (Two 5 4)) ∷ Made 2 (call 0) ∷ Acts (over op.Ret I (One 2)) ∷ []
calls_in_order = refl

-- a read that nothing uses isn't made, nor what only it uses
unused_read : acts_of (Value place ∷ Value (read 0) ∷ Value (constant (pos 1)) ∷ return 2 ∷ [])
    ≡ Made 2 (constant (pos 1)) ∷ Acts (over op.Ret I (One 2)) ∷ []
unused_read = refl

-- y = x + x, where y has the name 1 and x lies so many bytes behind the object of name 0
abbrev pub doubled : ℤ → List Entry
doubled by = Value (address 0 by) ∷ Value (read 0) ∷ Value (address 1 (pos 0)) ∷ Value (over op.Add I (Two 1 1)) ∷ Root (over op.Asgn I (Two 2 3)) ∷ []

doubled_in_turn : acts_of (doubled (pos 0))
    ≡ Made 0 (address 0 (pos 0)) ∷ Made 1 (read 0) ∷ Made 2 (address 1 (pos 0)) ∷ Made 3 (over op.Add I (Two 1 1)) ∷ Acts (over op.Asgn I (Two 2 3)) ∷ []
doubled_in_turn = refl

-- y = (p + n) - (q - 4), where p points to the first byte of an object and q 4 bytes behind it
abbrev pub distance : ℤ → List Entry
distance n =
    Value (address 0 (pos 0)) ∷ Value (constant n) ∷ Value (over op.Add P (Two 0 1)) ∷ Value (address 0 (pos 4)) ∷ Value (constant (pos 4)) ∷ Value (over op.Sub P (Two 3 4))
    ∷ Value (over op.Sub U (Two 2 5)) ∷ Value (over op.Cvu I (One 6)) ∷ Value (address 1 (pos 0)) ∷ Root (over op.Asgn I (Two 8 7)) ∷ []

-- x = f(), where x and f have the names 0 and 2
abbrev pub assigned : List Entry
assigned = Value (address 0 (pos 0)) ∷ Value (address 2 (pos 0)) ∷ Value (call 1) ∷ write 0 2 ∷ []

-- ---- what is kept

-- the call is handed to the root, and has no room
handed_call : chosen (acts_of assigned) (λ m. false) 0 2 ≡ None
handed_call = refl

-- where the call is an operand of another node, it has one
kept_call : chosen (acts_of (Value place ∷ Value function ∷ Value (call 1) ∷ Value (over op.Neg I (One 2)) ∷ write 0 3 ∷ [])) (λ m. false) 0 2 ≡ Some (record { number = 0; kind = Signed })
kept_call = refl

-- so does the first of two calls that are a root's operands, and one that is used again behind its root
first_call : chosen (acts_of (Value function ∷ Value (call 0) ∷ Value (call 0) ∷ Root (over op.Lt I (Two 1 2)) ∷ [])) (λ m. false) 0 1 ≡ Some (record { number = 0; kind = Signed })
first_call = refl

second_call : chosen (acts_of (Value function ∷ Value (call 0) ∷ Value (call 0) ∷ Root (over op.Lt I (Two 1 2)) ∷ [])) (λ m. false) 0 2 ≡ None
second_call = refl

abbrev used_again : List Entry
used_again = Value place ∷ Value function ∷ Value (call 1) ∷ write 0 2 ∷ return 2 ∷ []

call_again : chosen (acts_of used_again) (λ m. false) 0 2 ≡ Some (record { number = 0; kind = Signed })
call_again = refl

-- without a room the call stands in its root alone
call_in_root : Holds nothing_kept (acts_of assigned) (λ n. Lost)
call_in_root = (tt, (tt, (tt, ((refl, (λ e. true≢false (ap (λ n. n == 0) e)), tt), tt))))

call_nowhere_else : Holds nothing_kept (acts_of used_again) (λ n. Lost) → ⊥
call_nowhere_else h = h.1.1.1.1.0

-- x is read, written, and the value read before is returned
abbrev read_before_a_write : List Entry
read_before_a_write = Value place ∷ Value (read 0) ∷ Value (constant (pos 1)) ∷ write 0 2 ∷ return 1 ∷ []

-- the read doesn't stand behind the write
stale : Holds nothing_kept (acts_of read_before_a_write) (λ n. Lost) → ⊥
stale h = h.1.1.1.1.0

kept_before : (t : Temporary) → Holds (second_kept t) (acts_of read_before_a_write) (λ n. Lost)
kept_before t = (tt, (tt, (tt, (tt, (tt, tt)))))

-- x is read behind the write
read_behind : Holds nothing_kept (acts_of (Value place ∷ Value (constant (pos 1)) ∷ write 0 1 ∷ Value (read 0) ∷ return 2 ∷ [])) (λ n. Lost)
read_behind = (tt, (tt, (tt, (tt, (tt, tt)))))

-- an address stands anywhere
address_twice : Holds nothing_kept (acts_of (Value place ∷ Value (constant (pos 1)) ∷ write 0 1 ∷ write 0 1 ∷ [])) (λ n. Lost)
address_twice = (tt, (tt, (tt, (tt, tt))))
