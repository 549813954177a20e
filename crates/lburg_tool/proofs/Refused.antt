-- The refusal that the error of a read tells is that of the first fault.
use Rattle.std.proofs.Common.{◌≡◌, ◌⊎◌, inl, inr, ℕ, List, sym, ap, ◌∙◌}
use Rattle.std.specs.Prelude.{Result, Ok, Err, IfErr, IsErrOf, IsErrAnd}
use Rattle.lburg_faults.specs.declared.desc_fault.DescFault.{DescFault}
use Rattle.lburg_faults.specs.declared.desc_fault.DescFault.TheVariants as description
use Rattle.lburg_faults.specs.FirstFault.{FirstFault}
use Rattle.lburg_model.specs.Description.{MDescription}
use Rattle.lburg_trees.specs.declared.tree_fault.TreeFault.{TreeFault}
use Rattle.lburg_trees.specs.declared.tree_fault.TreeFault.TheVariants as tree
use Rattle.lburg_trees.specs.FirstFault.{FirstFault as FirstTreeFault}
use Rattle.outcomes.specs.declared.outcome.Refusal.{Refusal}
use Rattle.lburg_tool.specs.declared.text_fault.TextFault.{TextFault}
use Rattle.lburg_tool.specs.declared.text_fault.TextFault.TheVariants.{Refused, Memory}
use Rattle.lburg_tool.specs.TextFaults.{of_description, of_trees}
use Rattle.lburg_tool.specs.Cover.{RefusesDescription, RefusesTail}

-- what is refused isn't want of memory
pub never_refused : {T : Type 0} (result : Result T TextFault) (why : Refusal) → IfErr result (λ e. e ≡ Memory) → IsErrOf result (Refused why) → ⊥
never_refused (Ok x) why h told = let is : Ok x ≡ Err (Refused why) = told in cc
never_refused (Err e) why h told = let memory : e ≡ Memory = h in cc

-- the answer that is given is the refusal that is told
given : {T : Type 0} (result : Result T TextFault) (gives : TextFault) (why : Refusal) → IsErrAnd result (λ e. e ≡ gives) → IsErrOf result (Refused why) → gives ≡ Refused why
given (Ok x) gives why h told = absurd h
given (Err e) gives why h told = let same : e ≡ gives = h in cc

not_memory : (why : Refusal) → Memory ≡ Refused why → ⊥
not_memory why same = cc

pub description_told : {T : Type 0} (result : Result T TextFault) (text : List ℕ) (f : DescFault) (why : Refusal) → (f ≡ description.Memory) ⊎ FirstFault text f → IsErrAnd result (λ e. e ≡ of_description f) → IsErrOf result (Refused why) → RefusesDescription text why
description_told result text f why (inl memory) gives told = absurd (not_memory why (sym (ap of_description memory) ∙ given result (of_description f) why gives told))
description_told result text f why (inr first) gives told = (f, first, given result (of_description f) why gives told)

pub tail_told : {T : Type 0} (result : Result T TextFault) (d : MDescription) (text : List ℕ) (f : TreeFault) (why : Refusal) → (f ≡ tree.Memory) ⊎ FirstTreeFault d text f → IsErrAnd result (λ e. e ≡ of_trees f) → IsErrOf result (Refused why) → RefusesTail d text why
tail_told result d text f why (inl memory) gives told = absurd (not_memory why (sym (ap of_trees memory) ∙ given result (of_trees f) why gives told))
tail_told result d text f why (inr first) gives told = (f, first, given result (of_trees f) why gives told)
