-- What each node of a well-formed forest's roots has, where their operators have rules.
use Rattle.std.proofs.Common.{◌≡◌, ℕ, zero, suc, List, [], ◌∷◌, Some, refl}
use Rattle.std.specs.Prelude.{slice_get}
use Rattle.std.specs.List.{AllByRecursion}
use Rattle.std.proofs.lemmas.List.Elements.{recursion_from_All}
use Rattle.op_forest.specs.declared.forest.Forest.{Forest}
use Rattle.op_forest.specs.Nodes.{Node, Leaf, One, Two}
use Rattle.op_forest.specs.EachNode.{AtEachNode}
use Rattle.forests.specs.WellFormed.{HasKind, HasKinds, IsWellFormed}
use Rattle.forests.specs.HasRules.{HasRule, IsRuled, HasRules}

pub each_both : (P Q R : Node → Type 0) → ((t : Node) → P t → Q t → R t) → (t : Node) → AtEachNode P t → AtEachNode Q t → AtEachNode R t
each_both P Q R go (Leaf h) p q = go (Leaf h) p q
each_both P Q R go (One h a) p q = (go (One h a) p.0 q.0, each_both P Q R go a p.1 q.1)
each_both P Q R go (Two h a b) p q = (go (Two h a b) p.0 q.0, each_both P Q R go a p.1 q.1, each_both P Q R go b p.2 q.2)

pub each_root : (P Q R : Node → Type 0) → ((t : Node) → P t → Q t → R t) → (ts : List Node) → AllByRecursion P ts → AllByRecursion Q ts → AllByRecursion R ts
each_root P Q R go [] p q = tt
each_root P Q R go (t ∷ ts) p q = (go t p.0 q.0, each_root P Q R go ts p.1 q.1)

-- what holds at each place holds of each
each_placed : (P : Node → Type 0) (ts : List Node) → ((place : ℕ) (t : Node) → slice_get ts place ≡ Some t → P t) → AllByRecursion P ts
each_placed P [] h = tt
each_placed P (t ∷ ts) h = (h zero t refl, each_placed P ts (λ place u e. h (suc place) u e))

-- a node with what its operator needs, and with a rule
pub record IsCovered (t : Node) : Type 0 where
  pub kind : HasKind t
  pub rule : HasRule t

abbrev pub AreCovered : List Node → Type 0
AreCovered = AllByRecursion (AtEachNode IsCovered)

covered_root : (t : Node) → HasKinds t → IsRuled t → AtEachNode IsCovered t
covered_root t k r = each_both HasKind HasRule IsCovered (λ u kind rule. record { kind = kind; rule = rule }) t k r.each

pub covered_roots : (f : Forest) → IsWellFormed f → HasRules f.roots → AreCovered f.roots
covered_roots f w r =
    each_root HasKinds IsRuled (AtEachNode IsCovered) covered_root f.roots (each_placed HasKinds f.roots (λ place t e. (w.good place t e).fit.kinds)) (recursion_from_All IsRuled f.roots r)
