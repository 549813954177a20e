-- What is told at a statement's node: a constraint that it breaks, and else what its expressions' values pass.
use Rattle.std.proofs.Common.{◌≡◌, ℕ, Bool, true, false, List, refl, sym, ap, ◌∙◌, subst}
use Rattle.std.specs.Prelude.{Option, Some, None, ◌||◌, not, if◌then◌else◌, is_none, IfErr, IsErrAnd, Result, Ok, Err}
use Rattle.c_types.specs.CType.{CType}
use Rattle.c_types.specs.Conversions.{is_integer}
use Rattle.c_types.specs.Layout.{Tag}
use Rattle.c_types.specs.Table.{Table, tags}
use Rattle.c_meaning.specs.Constants.{fold}
use Rattle.c_meaning.specs.Constraints.{Fault, broken_or}
use Rattle.c_meaning.specs.NodeConstraints.{first_of}
use Rattle.c_meaning.specs.Postorder.{or_else}
use Rattle.c_meaning.specs.State.{State}
use Rattle.c_meaning.specs.Types.{is_scalar}
use Rattle.c_meaning.specs.Values.{CoreTree, value_type}
use Rattle.c_values.specs.declared.check_fault.CheckFault.{CheckFault}
use Rattle.c_values.specs.declared.check_fault.CheckFault.TheVariants.{Constraint, Limit, Memory}
use Rattle.c_check_expr.specs.StepFaults.{IsFault}
use Rattle.c_units.specs.Statements.{Around, StmtNode, is_nothing, stmt_constraints, stmt_fault, values_fault}
use Rattle.c_units.specs.Statements as node
use Rattle.c_stmt_parts.specs.Asked.{IsSound, IsToldAt, maybe_test_broken, return_broken, test_broken}

fault_is : (s : State) (line : ℕ) (n : StmtNode) (b : Option ℕ) (f : Option Fault) → first_of stmt_constraints s n ≡ b → values_fault s.tags n ≡ f → stmt_fault s line n ≡ or_else (broken_or line b None) f
unfolding stmt_fault
fault_is s line n b f h k = ap (λ x. or_else (broken_or line x None) (values_fault s.tags n)) h ∙ ap (or_else (broken_or line b None)) k

-- a node whose constraints look at the tags alone
module _ (t : Table) (line : ℕ) (n : StmtNode) (broken : List Tag → Option ℕ) (first : (s : State) → first_of stmt_constraints s n ≡ broken s.tags) where
  first_at : (s : State) (b : Option ℕ) → s.tags ≡ tags t → broken (tags t) ≡ b → first_of stmt_constraints s n ≡ b
  first_at s b h e = first s ∙ ap broken h ∙ e

  values_at : (s : State) → s.tags ≡ tags t → values_fault s.tags n ≡ values_fault (tags t) n
  values_at s h = ap (λ g. values_fault g n) h

  pub sound_by : broken (tags t) ≡ None → values_fault (tags t) n ≡ None → IsSound t line n
  sound_by b v = λ s h. fault_is s line n None None (first_at s None h b) (values_at s h ∙ v)

  pub broken_by : (k : ℕ) → broken (tags t) ≡ Some k → IsToldAt t line n (Constraint k line)
  broken_by k b = λ s h. fault_is s line n (Some k) (values_fault s.tags n) (first_at s (Some k) h b) refl

  pub limit_by : (e : CheckFault) → broken (tags t) ≡ None → IsFault e (values_fault (tags t) n) → IsToldAt t line n e
  limit_by e b v = λ s h. subst (λ f. IsFault e f) (sym (fault_is s line n None (values_fault (tags t) n) (first_at s None h b) (values_at s h))) v

-- ---- tests

abbrev asked : Bool → Bool → Option ℕ
asked a b = if a then Some 46 else if not b then Some 47 else None

abbrev told : Bool → Bool → Option ℕ
told a b = if a then Some 46 else if b then None else Some 47

two_tests : (a b : Bool) → asked a b ≡ told a b
two_tests true b = refl
two_tests false true = refl
two_tests false false = refl

pub test_first : (e : CoreTree) (s : State) → first_of stmt_constraints s (node.Test e) ≡ test_broken s.tags e
test_first e s = two_tests (is_nothing s.tags (value_type e)) (is_scalar (value_type e))

pub for_first : (a b c : Option CoreTree) (s : State) → first_of stmt_constraints s (node.For a b c) ≡ maybe_test_broken s.tags b
for_first a None c s = refl
for_first a (Some e) c s = two_tests (is_nothing s.tags (value_type e)) (is_scalar (value_type e))

pub evaluate_first : (e : CoreTree) (s : State) → first_of stmt_constraints s (node.Expression e) ≡ None
evaluate_first e s = refl

abbrev pub switch_broken : List Tag → CoreTree → Option ℕ
switch_broken tags e = if is_nothing tags (value_type e) then Some 46 else if is_integer (value_type e) then None else Some 47

pub switch_first : (e : CoreTree) (s : State) → first_of stmt_constraints s (node.Switch e) ≡ switch_broken s.tags e
switch_first e s = two_tests (is_nothing s.tags (value_type e)) (is_integer (value_type e))

pub switch_nothing : (tags : List Tag) (e : CoreTree) → is_nothing tags (value_type e) ≡ true → switch_broken tags e ≡ Some 46
switch_nothing tags e h = rw h refl

pub switch_other : (tags : List Tag) (e : CoreTree) → is_nothing tags (value_type e) ≡ false → is_integer (value_type e) ≡ false → switch_broken tags e ≡ Some 47
switch_other tags e h k = rw (h, k) refl

pub switch_fine : (tags : List Tag) (e : CoreTree) → is_nothing tags (value_type e) ≡ false → is_integer (value_type e) ≡ true → switch_broken tags e ≡ None
switch_fine tags e h k = rw (h, k) refl

-- ---- what is returned

abbrev pub maybe_return_broken : List Tag → CType → Option CoreTree → Option ℕ
maybe_return_broken tags result None = None
maybe_return_broken tags result (Some e) = return_broken tags result e

pub return_first : (result : CType) (e : Option CoreTree) (s : State) → first_of stmt_constraints s (node.Return result e) ≡ maybe_return_broken s.tags result e
return_first result None s = refl
return_first result (Some e) s = refl

-- ---- labels, cases and jumps

abbrev pub told_if : ℕ → Bool → Option ℕ
told_if k b = if b then Some k else None

pub label_first : (again : Bool) (s : State) → first_of stmt_constraints s (node.Label again) ≡ told_if 50 again
label_first again s = refl

pub break_first : (a : Around) (s : State) → first_of stmt_constraints s (node.Break a) ≡ told_if 49 (not (a.switch || a.loop))
break_first a s = refl

pub continue_first : (a : Around) (s : State) → first_of stmt_constraints s (node.Continue a) ≡ told_if 49 (not a.loop)
continue_first a s = refl

abbrev pub place_broken : Bool → Bool → Option ℕ
place_broken bad switch = if bad then Some 48 else told_if 49 (not switch)

pub case_first : (e : CoreTree) (a : Around) (again : Bool) (s : State) → first_of stmt_constraints s (node.Case e a again) ≡ place_broken (is_none (fold e) || again) a.switch
case_first e a again s = refl

pub default_first : (a : Around) (again : Bool) (s : State) → first_of stmt_constraints s (node.Default a again) ≡ place_broken again a.switch
default_first a again s = refl

pub nothing_or : (b again : Bool) → again ≡ true → (b || again) ≡ true
nothing_or true again h = refl
nothing_or false again h = h

-- ---- faults that are handed on

pub handed_on : {T : Type 0} (r : Result T CheckFault) (e : CheckFault) (P : CheckFault → Type 0) → IsErrAnd r (λ y. y ≡ e) → P e → IfErr r P
handed_on (Ok x) e P is h = tt
handed_on (Err y) e P is h = subst P (sym is) h

pub second_told : (e : CheckFault) (f g : Option Fault) → f ≡ None → IsFault e g → IsFault e (or_else f g)
second_told e f g h k = subst (λ (x : Option Fault). IsFault e (or_else x g)) (sym h) k

pub first_told : (e : CheckFault) (f g : Option Fault) → IsFault e f → IsFault e (or_else f g)
first_told (Constraint number place) f g h = ap (λ x. or_else x g) h
first_told (Limit limit place) f g h = ap (λ x. or_else x g) h
first_told Memory f g h = tt

pub none_told : (f g : Option Fault) → f ≡ None → g ≡ None → or_else f g ≡ None
none_told f g h k = ap (λ x. or_else x g) h ∙ k
