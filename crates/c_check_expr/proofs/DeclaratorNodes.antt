-- What is told at the node of a declarator: what is told of its steps.
use Rattle.std.proofs.Common.{◌≡◌, ℕ, true, false, List, refl, ap, ◌∙◌}
use Rattle.std.specs.Prelude.{Option, Some, None, if◌then◌else◌}
use Rattle.c_types.specs.CType.{CType}
use Rattle.c_types.specs.Layout.{Tag}
use Rattle.c_meaning.specs.Constraints.{Fault, Breaks, broken_or, fault_at}
use Rattle.c_meaning.specs.Nodes.{Node, Step, Typing, Declarator, ParameterDeclarator}
use Rattle.c_meaning.specs.State.{State}
use Rattle.c_meaning.specs.TypeConstraints.{is_taken}
use Rattle.c_meaning.specs.Typing.{Fine, at, unless}
use Rattle.c_values.specs.declared.check_fault.CheckFault.{CheckFault}
use Rattle.c_values.specs.declared.check_fault.CheckFault.TheVariants.{Constraint, Limit, Memory}
use Rattle.c_check_expr.specs.AtNode.{Tells}
use Rattle.c_check_expr.specs.StepFaults.{IsFault, steps_broken, steps_fault, steps_passed}
use Rattle.c_check_expr.proofs.lemmas.StepLimits.{deep_steps, large_steps, many_steps}

-- ---- the node

pub declarator_fault : (s : State) (line : ℕ) (base : CType) (ps : List Step) → fault_at s line (Typing (Declarator base ps)) ≡ steps_fault s.tags line base ps
unfolding fault_at
declarator_fault s line base ps = rw (large_steps s.tags base ps, deep_steps s.tags base ps, many_steps base ps) refl

taken_or : (line : ℕ) (name : Option (List ℕ)) (s : State) (base : CType) (ps : List Step) →
    fault_at s line (Typing (ParameterDeclarator name base ps)) ≡ broken_or line (if is_taken s name then Some 5 else steps_broken s.tags base ps) (steps_passed s.tags base ps)
unfolding fault_at
taken_or line name s base ps = rw (large_steps s.tags base ps, deep_steps s.tags base ps, many_steps base ps) refl

-- a parameter's name stands in the scope
pub taken_fault : (s : State) (line : ℕ) (name : Option (List ℕ)) (base : CType) (ps : List Step) → is_taken s name ≡ true →
    fault_at s line (Typing (ParameterDeclarator name base ps)) ≡ Some (Breaks 5 line)
taken_fault s line name base ps e = taken_or line name s base ps ∙ ap (λ b. broken_or line (if b then Some 5 else steps_broken s.tags base ps) (steps_passed s.tags base ps)) e

-- it does not
pub free_fault : (s : State) (line : ℕ) (name : Option (List ℕ)) (base : CType) (ps : List Step) → is_taken s name ≡ false →
    fault_at s line (Typing (ParameterDeclarator name base ps)) ≡ steps_fault s.tags line base ps
free_fault s line name base ps e = taken_or line name s base ps ∙ ap (λ b. broken_or line (if b then Some 5 else steps_broken s.tags base ps) (steps_passed s.tags base ps)) e

-- ---- what comes of a node

pub fine_at : {T : Type 0} (s : State) (line : ℕ) (n : Node) (behind : State) (x : T) → fault_at s line n ≡ None → at s line n behind x ≡ Fine behind x
fine_at s line n behind x h = ap (λ f. unless f behind x) h

pub told_at : {T : Type 0} (s : State) (line : ℕ) (n : Node) (behind : State) (x : T) (f : Option Fault) (e : CheckFault) → fault_at s line n ≡ f → IsFault e f → Tells e (at s line n behind x)
told_at s line n behind x f (Constraint number place) h k = ap (λ f. unless f behind x) (h ∙ k)
told_at s line n behind x f (Limit limit place) h k = ap (λ f. unless f behind x) (h ∙ k)
told_at s line n behind x f Memory h k = tt

-- the fault of a declarator in each state with these definitions
pub declared_in : (s : State) (tags : List Tag) (line : ℕ) (base : CType) (ps : List Step) → s.tags ≡ tags → fault_at s line (Typing (Declarator base ps)) ≡ steps_fault tags line base ps
declared_in s tags line base ps h = declarator_fault s line base ps ∙ ap (λ k. steps_fault k line base ps) h
