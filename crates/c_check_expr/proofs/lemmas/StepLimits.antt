-- The limits that the types pass which steps form are those of the steps.
use Rattle.std.proofs.Common.{◌≡◌, Bool, true, false, List, [], ◌∷◌, refl}
use Rattle.std.specs.Prelude.{◌||◌, nat_lt}
use Rattle.c_types.specs.CType.{CType, depth}
use Rattle.c_types.specs.Layout.{Tag, extent}
use Rattle.c_meaning.specs.Constraints.{extents, formings, some_deep, some_large, some_many, some_nested}
use Rattle.c_meaning.specs.Nodes.{Step}
use Rattle.c_meaning.specs.TypeConstraints.{some_step}
use Rattle.c_meaning.specs.TypeRows.{formed_by}
use Rattle.c_check_expr.specs.StepFaults.{is_deep_step, is_large_step, is_many_step}

pub large_steps : (tags : List Tag) (t : CType) (ps : List Step) → some_large (extents tags (formings t ps)) ≡ some_step (is_large_step tags) t ps
large_steps tags t [] = refl
large_steps tags t (p ∷ ps) = rw (large_steps tags (formed_by p t) ps) refl

both_or : (a x b y z : Bool) → (x || y) ≡ z → ((a || x) || (b || y)) ≡ ((a || b) || z)
both_or true x b y z h = refl
both_or false x false y z h = h
both_or false true true y z h = refl
both_or false false true y z h = refl

pub deep_steps : (tags : List Tag) (t : CType) (ps : List Step) → (some_nested (extents tags (formings t ps)) || some_deep (formings t ps)) ≡ some_step (is_deep_step tags) t ps
deep_steps tags t [] = refl
deep_steps tags t (p ∷ ps) =
    let u = formed_by p t in
    both_or (nat_lt 500 (extent tags u).nesting) (some_nested (extents tags (formings u ps))) (nat_lt 500 (depth u)) (some_deep (formings u ps)) (some_step (is_deep_step tags) u ps) (deep_steps tags u ps)

pub many_steps : (t : CType) (ps : List Step) → some_many ps ≡ some_step is_many_step t ps
many_steps t [] = refl
many_steps t (p ∷ ps) = rw (many_steps (formed_by p t) ps) refl
