-- The operands of a node against those that its operator takes.
use Rattle.std.proofs.Common.{◌≡◌, ◌↔◌, IsTrue, Bool, false, ℤ, Option, List, [], ◌∷◌, refl, sym, ap, ◌∙◌, subst₂, true≢false}
use Rattle.op_forest.specs.declared.operator.Operator.{Operator}
use Rattle.op_forest.specs.declared.suffix.Suffix.{Suffix}
use Rattle.op_forest.specs.declared.sym.Sym.{Sym}
use Rattle.op_forest.specs.Nodes.{Head, Node, One, Two, head_of, kids_of}
use Rattle.op_forest.specs.NodeParts.{under, node_of}
use Rattle.op_forest.specs.Signature.{takes}
use Rattle.forests.specs.WellFormed.{AreOperands, IsOperand, op_of, suffix_of}

pub head_of-under : (h : Head) (kids : List Node) → head_of (under h kids) ≡ h
head_of-under h [] = refl
head_of-under h (a ∷ []) = refl
head_of-under h (a ∷ b ∷ rest) = refl

-- the operator of a node of parts
pub operator_of-node : (o : Operator) (x : Sym) (v : Option ℤ) (kids : List Node) (t : Node) → node_of o x v kids ≡ t → (head_of t).operator ≡ o
operator_of-node o x v kids t e = ap (λ n. (head_of n).operator) (sym e) ∙ ap (λ h. h.operator) (head_of-under (record { operator = o; sym = x; value = v }) kids)

-- operands of suffixes that are known, whatever node they stand at
module _ (t : Node) (o : Operator) (same : (head_of t).operator ≡ o) (r : Bool) where
  of_lists : (ss : List Suffix) (ks : List Node) → ss ≡ takes o.op o.suffix → kids_of t ≡ ks → IsTrue r ↔ AreOperands ss ks → IsTrue r ↔ AreOperands (takes (op_of t) (suffix_of t)) (kids_of t)
  of_lists ss ks e k f = subst₂ (λ (xs : List Suffix) (ys : List Node). IsTrue r ↔ AreOperands xs ys) (e ∙ ap (λ p. takes p.op p.suffix) (sym same)) (sym k) f

  pub one_fits : (h : Head) (a : Node) (s : Suffix) → s ∷ [] ≡ takes o.op o.suffix → t ≡ One h a → IsTrue r ↔ IsOperand s a → IsTrue r ↔ AreOperands (takes (op_of t) (suffix_of t)) (kids_of t)
  one_fits h a s e k f = of_lists (s ∷ []) (a ∷ []) e (ap kids_of k) ((λ x. (f.0 x, tt)), (λ x. f.1 x.0))

  pub two_fit : (h : Head) (a b : Node) (s u : Suffix) → s ∷ u ∷ [] ≡ takes o.op o.suffix → t ≡ Two h a b → IsOperand s a → IsTrue r ↔ IsOperand u b → IsTrue r ↔ AreOperands (takes (op_of t) (suffix_of t)) (kids_of t)
  two_fit h a b s u e k fits f = of_lists (s ∷ u ∷ []) (a ∷ b ∷ []) e (ap kids_of k) ((λ x. (fits, (f.0 x, tt))), (λ x. f.1 x.1.0))

  pub first_unfit : (h : Head) (a b : Node) (s u : Suffix) → s ∷ u ∷ [] ≡ takes o.op o.suffix → t ≡ Two h a b → IsTrue r ↔ IsOperand s a → r ≡ false → IsTrue r ↔ AreOperands (takes (op_of t) (suffix_of t)) (kids_of t)
  first_unfit h a b s u e k f wrong = of_lists (s ∷ u ∷ []) (a ∷ b ∷ []) e (ap kids_of k) ((λ x. absurd (true≢false (sym x ∙ wrong))), (λ x. f.1 x.0))
