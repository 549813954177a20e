-- The last step of a declarator, which makes its type of what the steps before it make.
use Rattle.std.proofs.Common.{◌≡◌, ℕ, List, [], ◌∷◌, ◌++◌, refl, ap, ◌∙◌, subst}
use Rattle.c_types.specs.CType.{CType}
use Rattle.c_types.specs.Table.{Table}
use Rattle.c_meaning.specs.TypeRows.{formed, formed_by}
use Rattle.c_check_expr.specs.declared.parts.Step.{Step}
use Rattle.c_check_expr.specs.PartsSeen.{AreStepsIn, IsStepIn, step_seen, steps_seen}

formed_last : (u : CType) (t : Table) (ps : List Step) (p : Step) → formed u (steps_seen t (ps ++ p ∷ [])) ≡ formed_by (step_seen t p) (formed u (steps_seen t ps))
formed_last u t [] p = refl
formed_last u t (q ∷ ps) p = formed_last (formed_by (step_seen t q) u) t ps p

pub formed_split : (u : CType) (t : Table) (xs ps : List Step) (p : Step) → xs ≡ ps ++ p ∷ [] → formed u (steps_seen t xs) ≡ formed_by (step_seen t p) (formed u (steps_seen t ps))
formed_split u t xs ps p e = ap (λ qs. formed u (steps_seen t qs)) e ∙ formed_last u t ps p

last_in : (n : ℕ) (ps : List Step) (p : Step) → AreStepsIn n (ps ++ p ∷ []) → IsStepIn n p × AreStepsIn n ps
last_in n [] p h = (h.0, tt)
last_in n (q ∷ ps) p h = let r = last_in n ps p h.1 in (r.0, (h.0, r.1))

pub split_in : (n : ℕ) (xs ps : List Step) (p : Step) → xs ≡ ps ++ p ∷ [] → AreStepsIn n xs → IsStepIn n p × AreStepsIn n ps
split_in n xs ps p e h = last_in n ps p (subst (AreStepsIn n) e h)
