-- What a unit's symbols and items are tested by: how many names it has, and where the labels of its functions stand.
-- Source: Fraser and Hanson, A Retargetable C Compiler, chapter 5.
use Rattle.std.specs.Prelude.{◌≡◌, ℕ, ◌==◌, nat_eq, Option, Some, None, IsSome, List, [], ◌∷◌, length, if◌then◌else◌}
use Rattle.indexmap.specs.IndexMap.{get}
use Rattle.op_forest.specs.declared.lowered.LoweredFunction.{LoweredFunction}
use Rattle.op_forest.specs.declared.lowered.LoweredObject.{LoweredObject}
use Rattle.op_forest.specs.declared.lowered.Datum.{Datum}
use Rattle.op_forest.specs.declared.sym.Sym.{Sym}
use Rattle.op_forest.specs.EachNode.{AtEachNode}
use Rattle.op_forest.specs.Lowered.{HasLabel, IsDatumOf, IsFunctionOf, IsKnown, IsObjectOf, LoweredUnit}
use Rattle.op_forest.specs.Nodes.{Node, head_of}
use Rattle.whole_lowered.specs.declared.labels.Labels.{Labels}

-- each label that has a place is one of the roots
abbrev pub HasLabels : List Node → (ℕ → Option ℕ) → Type 0
HasLabels roots places = (l : ℕ) → IsSome (places l) → HasLabel roots l

-- the place of a label once one more is noted, if there is one
abbrev pub noted : Option ℕ → ℕ → Option ℕ → ℕ → Option ℕ
noted None root before l = before
noted (Some k) root before l = if k == l then Some root else before

-- these are the places of labels of functions, of one behind the other
abbrev pub AreLabelsOf : List LoweredFunction → List Labels → Type 0
AreLabelsOf [] [] = Unit {0}
AreLabelsOf (f ∷ fs) (m ∷ ms) = HasLabels f.forest.roots (get nat_eq m.places) × AreLabelsOf fs ms
AreLabelsOf fs ms = ⊥

-- ---- in each unit with so many names

abbrev pub KnowsSymbol : ℕ → (ℕ → Option ℕ) → Sym → Type 0
KnowsSymbol names places x = (u : LoweredUnit) (roots : List Node) → names ≡ length u.names → HasLabels roots places → IsKnown u roots x

abbrev pub KnowsTree : ℕ → (ℕ → Option ℕ) → Node → Type 0
KnowsTree names places t = (u : LoweredUnit) (roots : List Node) → names ≡ length u.names → HasLabels roots places → AtEachNode (λ n. IsKnown u roots (head_of n).sym) t

abbrev pub KnowsFunction : ℕ → LoweredFunction → Type 0
KnowsFunction names f = (u : LoweredUnit) → names ≡ length u.names → IsFunctionOf u f

-- whose functions have labels at these places
abbrev pub KnowsDatum : ℕ → List Labels → Datum → Type 0
KnowsDatum names labels d = (u : LoweredUnit) → names ≡ length u.names → AreLabelsOf u.functions labels → IsDatumOf u d

abbrev pub KnowsObject : ℕ → List Labels → LoweredObject → Type 0
KnowsObject names labels o = (u : LoweredUnit) → names ≡ length u.names → AreLabelsOf u.functions labels → IsObjectOf u o
