-- Steps of a declarator in order: a test of each over the type that it is made from.
use Rattle.std.proofs.Common.{◌≡◌, ℕ, suc, ◌+◌, ◌<◌, ◌≤◌, Bool, true, false, List, [], ◌∷◌, drop, get_or, length, refl, sym, ap, ◌∙◌, subst, arith}
use Rattle.std.specs.Prelude.{◌||◌, Option, Some, None}
use Rattle.std.proofs.lemmas.List.{drop_all, drop_more}
use Rattle.c_types.specs.CType.{CType}
use Rattle.c_types.specs.Layout.{Tag}
use Rattle.c_types.specs.Table.{Extends, Grows, Table, tags}
use Rattle.c_meaning.specs.CoreTrees.{CoreOf}
use Rattle.c_meaning.specs.Nodes as node
use Rattle.c_meaning.specs.TypeConstraints.{some_step}
use Rattle.c_meaning.specs.TypeRows.{formed, formed_by}
use Rattle.c_values.specs.declared.check_fault.CheckFault.{CheckFault}
use Rattle.c_values.specs.declared.check_fault.CheckFault.TheVariants.{Constraint, Limit, Memory}
use Rattle.c_check_expr.specs.declared.parts.NamedParameter.{NamedParameter}
use Rattle.c_check_expr.specs.declared.parts.Step.{Step}
use Rattle.c_check_expr.specs.declared.parts.Step.TheVariants as step
use Rattle.c_check_expr.specs.PartsSeen.{AreParametersIn, AreStepsIn, IsSizeIn, IsStepIn, parameters_seen, size_seen, step_seen, steps_seen}
use Rattle.c_check_expr.specs.StepFaults.{IsPassedDepth, is_deep_step}
use Rattle.c_values.specs.Stays.{in_later, longer, seen_stays}

left_false : (a b : Bool) → (a || b) ≡ false → a ≡ false
left_false true b h = absurd (cc)
left_false false b h = refl

right_false : (a b : Bool) → (a || b) ≡ false → b ≡ false
right_false true b h = absurd (cc)
right_false false b h = h

-- what is left of the steps is the next one and what is behind it
pub next_step : (ps : List Step) (i : ℕ) (p : Step) → i < length ps → p ≡ get_or ps i p → drop i ps ≡ p ∷ drop (i + 1) ps
next_step ps i p w g = drop_more ps i p w ∙ ap (λ (q : Step). q ∷ drop (i + 1) ps) (sym g)

pub step_in : (n : ℕ) (ps : List Step) (i : ℕ) (p : Step) → i < length ps → p ≡ get_or ps i p → AreStepsIn n (drop i ps) → IsStepIn n p
step_in n ps i p w g h = let k : AreStepsIn n (p ∷ drop (i + 1) ps) = subst (AreStepsIn n) (next_step ps i p w g) h in k.0

pub steps_in : (n : ℕ) (ps : List Step) (i : ℕ) (p : Step) → i < length ps → p ≡ get_or ps i p → AreStepsIn n (drop i ps) → AreStepsIn n (drop (i + 1) ps)
steps_in n ps i p w g h = let k : AreStepsIn n (p ∷ drop (i + 1) ps) = subst (AreStepsIn n) (next_step ps i p w g) h in k.1

-- a test of the steps from a type on, which is that of all of them
module _ (test : CType → node.Step → Bool) (t : Table) (whole : Bool) (ps : List Step) (i : ℕ) (u : CType) (h : whole ≡ some_step test u (steps_seen t (drop i ps))) where
  at_step : (p : Step) → i < length ps → p ≡ get_or ps i p → whole ≡ (test u (step_seen t p) || some_step test (formed_by (step_seen t p) u) (steps_seen t (drop (i + 1) ps)))
  at_step p w g = h ∙ ap (λ qs. some_step test u (steps_seen t qs)) (next_step ps i p w g)

  -- the next one meets it
  pub met : (p : Step) → i < length ps → p ≡ get_or ps i p → test u (step_seen t p) ≡ true → true ≡ whole
  met p w g e = sym (at_step p w g ∙ ap (λ b. b || some_step test (formed_by (step_seen t p) u) (steps_seen t (drop (i + 1) ps))) e)

  -- it does not, so that what is behind it counts
  pub passed_on : (p : Step) → i < length ps → p ≡ get_or ps i p → test u (step_seen t p) ≡ false → whole ≡ some_step test (formed_by (step_seen t p) u) (steps_seen t (drop (i + 1) ps))
  passed_on p w g e = at_step p w g ∙ ap (λ b. b || some_step test (formed_by (step_seen t p) u) (steps_seen t (drop (i + 1) ps))) e

  -- none is left
  pub not_met : length ps ≤ i → false ≡ whole
  not_met w = sym (h ∙ ap (λ qs. some_step test u (steps_seen t qs)) (drop_all i ps w))

-- a function has as many parameters however their types are seen
pub length-parameters_seen : (t : Table) (ps : List NamedParameter) → length (parameters_seen t ps) ≡ length ps
length-parameters_seen t [] = refl
length-parameters_seen t (p ∷ ps) = ap suc (length-parameters_seen t ps)

-- no step meets a test: the next one does not, and none behind it
module _ (test : CType → node.Step → Bool) (t : Table) (ps : List Step) (i : ℕ) (u : CType) (p : Step) (w : i < length ps) (g : p ≡ get_or ps i p) (h : some_step test u (steps_seen t (drop i ps)) ≡ false) where
  neither : (test u (step_seen t p) || some_step test (formed_by (step_seen t p) u) (steps_seen t (drop (i + 1) ps))) ≡ false
  neither = sym (ap (λ qs. some_step test u (steps_seen t qs)) (next_step ps i p w g)) ∙ h

  pub next_fails : test u (step_seen t p) ≡ false
  next_fails = left_false (test u (step_seen t p)) _ neither

  pub others_fail : some_step test (formed_by (step_seen t p) u) (steps_seen t (drop (i + 1) ps)) ≡ false
  others_fail = right_false (test u (step_seen t p)) _ neither

-- all that is formed from a type is what is formed from what the next step makes of it
pub formed_next : (t : Table) (ps : List Step) (i : ℕ) (u : CType) (p : Step) → i < length ps → p ≡ get_or ps i p → formed u (steps_seen t (drop i ps)) ≡ formed (formed_by (step_seen t p) u) (steps_seen t (drop (i + 1) ps))
formed_next t ps i u p w g = ap (λ qs. formed u (steps_seen t qs)) (next_step ps i p w g)

-- ---- a table that grows

size_stays : (old new : Table) → Extends old new → (size : Option (CoreOf ℕ)) → IsSizeIn (length old.forms) size → size_seen new size ≡ size_seen old size
size_stays old new h None i = refl
size_stays old new h (Some c) i = ap Some (seen_stays old new h c i)

size_in_later : (old new : Table) → Extends old new → (size : Option (CoreOf ℕ)) → IsSizeIn (length old.forms) size → IsSizeIn (length new.forms) size
size_in_later old new h None i = tt
size_in_later old new h (Some c) i = in_later old new h c i

parameters_stay : (old new : Table) → Extends old new → (ps : List NamedParameter) → AreParametersIn (length old.forms) ps → parameters_seen new ps ≡ parameters_seen old ps
parameters_stay old new h [] i = refl
parameters_stay old new h (p ∷ ps) i = rw (h.types_stay p.of i.0, parameters_stay old new h ps i.1) refl

parameters_in_more : (n m : ℕ) → n ≤ m → (ps : List NamedParameter) → AreParametersIn n ps → AreParametersIn m ps
parameters_in_more n m l [] i = tt
parameters_in_more n m l (p ∷ ps) i = (let b = i.0 in omega arith, parameters_in_more n m l ps i.1)

pub step_stays : (old new : Table) → Extends old new → (p : Step) → IsStepIn (length old.forms) p → step_seen new p ≡ step_seen old p
step_stays old new h (step.Pointer qualifiers) i = refl
step_stays old new h (step.Array size) i = ap node.ToArray (size_stays old new h size i)
step_stays old new h (step.Function parameters more scope) i = ap (λ ps. node.ToFunction ps more scope) (parameters_stay old new h parameters i)
step_stays old new h (step.Named names) i = refl
step_stays old new h step.Open i = refl

pub step_in_later : (old new : Table) → Extends old new → (p : Step) → IsStepIn (length old.forms) p → IsStepIn (length new.forms) p
step_in_later old new h (step.Pointer qualifiers) i = tt
step_in_later old new h (step.Array size) i = size_in_later old new h size i
step_in_later old new h (step.Function parameters more scope) i = parameters_in_more (length old.forms) (length new.forms) (longer old new h) parameters i
step_in_later old new h (step.Named names) i = tt
step_in_later old new h step.Open i = tt

-- a test of a step in the later table is the one in the earlier table
pub test_stays : (test : List Tag → CType → node.Step → Bool) (old new : Table) → Grows old new → (u : CType) (p : Step) → IsStepIn (length old.forms) p → test (tags new) u (step_seen new p) ≡ test (tags old) u (step_seen old p)
test_stays test old new g u p i = ap (λ k. test k u (step_seen new p)) g.tags_same ∙ ap (test (tags old) u) (step_stays old new g.extends p i)

-- ---- what is told of the next step is told of all

still_deep : (e : CheckFault) (line : ℕ) (b c : Bool) → (b ≡ true → c ≡ true) → IsPassedDepth e line b → IsPassedDepth e line c
still_deep (Constraint number place) line b c h k = k
still_deep (Limit limit place) line b c h k = (k.0, (k.1.0, h k.1.1))
still_deep Memory line b c h k = tt

pub all_deep : (old new : Table) (whole : Bool) (ps : List Step) (i : ℕ) (u : CType) (p : Step) (e : CheckFault) (line : ℕ) → Grows old new → AreStepsIn (length old.forms) (drop i ps) → i < length ps → p ≡ get_or ps i p →
    whole ≡ some_step (is_deep_step (tags old)) u (steps_seen old (drop i ps)) → IsPassedDepth e line (is_deep_step (tags new) u (step_seen new p)) → IsPassedDepth e line whole
all_deep old new whole ps i u p e line g r w q h d =
    let k = test_stays is_deep_step old new g u p (step_in (length old.forms) ps i p w q r) in
    still_deep e line (is_deep_step (tags new) u (step_seen new p)) whole (λ x. sym (met (is_deep_step (tags old)) old whole ps i u h p w q (sym k ∙ x))) d
