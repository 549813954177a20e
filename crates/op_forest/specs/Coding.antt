-- A node as a list that gives it back: its nodes, operands first.
use Rattle.std.specs.Prelude.{◌≡◌, ℕ, zero, suc, Option, None, ℤ, List, [], ◌∷◌, refl}
use Rattle.std.proofs.Common.{ap, ◌∙◌}
use Rattle.std.specs.Coded.{Coded, code_by, coded×, coded_ℕ, coded_ℤ, coded_list, coded_option}
use Rattle.op_forest.specs.declared.op.Op.TheVariants as op
use Rattle.op_forest.specs.declared.suffix.Suffix.TheVariants as suffix
use Rattle.op_forest.specs.declared.operator.Operator.{Operator}
use Rattle.op_forest.specs.declared.sym.Sym.{Sym}
use Rattle.op_forest.specs.declared.sym.Sym.TheVariants as sym
use Rattle.op_forest.specs.contracts.operator.Operator as operator_contract
use Rattle.op_forest.specs.contracts.sym.Sym as sym_contract
use Rattle.op_forest.specs.Nodes.{Head, Node, Leaf, One, Two}

-- a node's arity, operator, symbol and constant
abbrev Entry : Type 0
Entry = ℕ × (Operator × (Sym × Option ℤ))

abbrev entry : ℕ → Head → Entry
entry n h = (n, (h.operator, (h.sym, h.value)))

abbrev head_in : Entry → Head
head_in e = record { operator = e.1.0; sym = e.1.1.0; value = e.1.1.1 }

abbrev pub written : Node → List Entry → List Entry
written (Leaf h) rest = entry 0 h ∷ rest
written (One h a) rest = written a (entry 1 h ∷ rest)
written (Two h a b) rest = written a (written b (entry 2 h ∷ rest))

-- one node, put on the stack of what was read before
abbrev put : ℕ → Head → List Node → List Node
put zero h stack = Leaf h ∷ stack
put (suc n) h [] = []
put (suc n) h (a ∷ []) = One h a ∷ []
put (suc zero) h (b ∷ a ∷ stack) = One h b ∷ (a ∷ stack)
put (suc (suc n)) h (b ∷ a ∷ stack) = Two h a b ∷ stack

abbrev read_back : List Entry → List Node → List Node
read_back [] stack = stack
read_back (e ∷ es) stack = read_back es (put e.0 (head_in e) stack)

abbrev top : List Node → Node
top [] = Leaf (record { operator = record { op = op.Cnst; suffix = suffix.C }; sym = sym.Nothing; value = None })
top (t ∷ ts) = t

one_put : (h : Head) (a : Node) (stack : List Node) → put 1 h (a ∷ stack) ≡ One h a ∷ stack
one_put h a [] = refl
one_put h a (b ∷ stack) = refl

read_written : (t : Node) (rest : List Entry) (stack : List Node) → read_back (written t rest) stack ≡ read_back rest (t ∷ stack)
read_written (Leaf h) rest stack = refl
read_written (One h a) rest stack =
    read_written a (entry 1 h ∷ rest) stack ∙ ap (read_back rest) (one_put h a stack)
read_written (Two h a b) rest stack =
    read_written a (written b (entry 2 h ∷ rest)) stack ∙ read_written b (entry 2 h ∷ rest) (a ∷ stack)

abbrev to_list : Node → List Entry
to_list t = written t []

abbrev from_list : List Entry → Node
from_list es = top (read_back es [])

pub back : (t : Node) → from_list (to_list t) ≡ t
back t = ap top (read_written t [] [])

abbrev pub node_code : Coded Node
node_code = code_by (List Entry) (coded_list (coded× coded_ℕ (coded× operator_contract.the_row.coded (coded× sym_contract.the_row.coded (coded_option coded_ℤ))))) to_list from_list back
