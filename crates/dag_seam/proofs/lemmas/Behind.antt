-- The roots behind a label.
use Rattle.std.proofs.Common.{◌≡◌, ℕ, Option, Some, None, List, [], ◌∷◌, ◌++◌, refl, ap, ◌∙◌}
use Rattle.std.specs.Prelude.{if◌then◌else◌}
use Rattle.std.proofs.lemmas.Bool.{eq-eqb, ne_eqb}
use Rattle.op_forest.specs.Labels.{behind, behind_by, label_of}
use Rattle.op_forest.specs.Nodes.{Node as Tree}
use Rattle.dag_seam.specs.SplitLaws.{Lacks}

pass_by : (o : Option ℕ) (l : ℕ) (rest : List Tree) (later : Option (List Tree)) → (o ≡ Some l → ⊥) → behind_by o l rest later ≡ later
pass_by None l rest later ne = refl
pass_by (Some k) l rest later ne = ap (λ b. if b then Some rest else later) (ne_eqb k l (λ e. ne (ap (λ z. Some z) e)))

stop_by : (l : ℕ) (rest : List Tree) (later : Option (List Tree)) → behind_by (Some l) l rest later ≡ Some rest
stop_by l rest later = ap (λ b. if b then Some rest else later) (eq-eqb l l refl)

pub behind_first : (l : ℕ) (before : List Tree) (t : Tree) (rest : List Tree) → Lacks l before → label_of t ≡ Some l → behind l (before ++ t ∷ rest) ≡ Some rest
behind_first l [] t rest none is = ap (λ z. behind_by z l rest (behind l rest)) is ∙ stop_by l rest (behind l rest)
behind_first l (u ∷ us) t rest none is = pass_by (label_of u) l (us ++ t ∷ rest) (behind l (us ++ t ∷ rest)) none.0 ∙ behind_first l us t rest none.1 is
