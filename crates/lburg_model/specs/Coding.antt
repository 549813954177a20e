-- A tree as a list that gives it back: its nodes, operands first.
use Rattle.std.specs.Prelude.{◌≡◌, ℕ, zero, suc, Option, None, ℤ, List, [], ◌∷◌, refl}
use Rattle.std.proofs.Common.{ap, ◌∙◌}
use Rattle.std.specs.Coded.{Coded, code_by, coded×, coded_ℕ, coded_ℤ, coded_list, coded_option}
use Rattle.lburg_model.specs.Tree.{MTree, TLeaf, TOne, TTwo}

-- a node's arity, operator and constant
abbrev Entry : Type 0
Entry = ℕ × (ℕ × Option ℤ)

abbrev pub written : MTree → List Entry → List Entry
written (TLeaf op v) rest = (0, (op, v)) ∷ rest
written (TOne op v a) rest = written a ((1, (op, v)) ∷ rest)
written (TTwo op v a b) rest = written a (written b ((2, (op, v)) ∷ rest))

-- one node, put on the stack of what was read before
abbrev put : ℕ → ℕ → Option ℤ → List MTree → List MTree
put zero op v stack = TLeaf op v ∷ stack
put (suc n) op v [] = []
put (suc n) op v (a ∷ []) = TOne op v a ∷ []
put (suc zero) op v (b ∷ a ∷ stack) = TOne op v b ∷ (a ∷ stack)
put (suc (suc n)) op v (b ∷ a ∷ stack) = TTwo op v a b ∷ stack

abbrev read_back : List Entry → List MTree → List MTree
read_back [] stack = stack
read_back (e ∷ es) stack = read_back es (put e.0 e.1.0 e.1.1 stack)

abbrev top : List MTree → MTree
top [] = TLeaf 0 None
top (t ∷ ts) = t

one_put : (op : ℕ) (v : Option ℤ) (a : MTree) (stack : List MTree) → put 1 op v (a ∷ stack) ≡ TOne op v a ∷ stack
one_put op v a [] = refl
one_put op v a (b ∷ stack) = refl

read_written : (t : MTree) (rest : List Entry) (stack : List MTree) → read_back (written t rest) stack ≡ read_back rest (t ∷ stack)
read_written (TLeaf op v) rest stack = refl
read_written (TOne op v a) rest stack =
    read_written a ((1, (op, v)) ∷ rest) stack ∙ ap (read_back rest) (one_put op v a stack)
read_written (TTwo op v a b) rest stack =
    read_written a (written b ((2, (op, v)) ∷ rest)) stack ∙ read_written b ((2, (op, v)) ∷ rest) (a ∷ stack)

abbrev to_list : MTree → List Entry
to_list t = written t []

abbrev from_list : List Entry → MTree
from_list es = top (read_back es [])

pub back : (t : MTree) → from_list (to_list t) ≡ t
back t = ap top (read_written t [] [])

abbrev pub tree_code : Coded MTree
tree_code = code_by (List Entry) (coded_list (coded× coded_ℕ (coded× coded_ℕ (coded_option coded_ℤ)))) to_list from_list back
