-- What is told at the node of a parameter.
use Rattle.std.proofs.Common.{◌≡◌, ℕ, Bool, true, false, List, length, refl, sym, ap, ◌∙◌}
use Rattle.std.specs.Prelude.{◌||◌, Option, Some, None, nat_lt, if◌then◌else◌}
use Rattle.lcc_base.specs.declared.which.Which.{Which}
use Rattle.lcc_base.specs.declared.which.Which.TheVariants as which
use Rattle.c_ast.specs.declared.specifier.Storage.{Storage}
use Rattle.c_symbols.specs.Scoping.{Scoping}
use Rattle.c_types.specs.CType.{CType, Plain, Array, Simple, Pointer, Function, Structure, Union, Enumeration, depth}
use Rattle.c_types.specs.Layout.{extent}
use Rattle.c_types.specs.Table.{Grows, Table, is_above, type_at}
use Rattle.c_meaning.specs.Constraints.{Breaks, broken_or, fault_at, passed_fault}
use Rattle.c_meaning.specs.Nodes.{NamedParameter, Parameter, Typing}
use Rattle.c_meaning.specs.State.{State}
use Rattle.c_meaning.specs.Types.{is_function, pointer_to}
use Rattle.c_meaning.specs.TypeRows.{adjusted, with_parameter}
use Rattle.c_meaning.specs.Typing.{Fine, Outcome}
use Rattle.c_values.specs.declared.check_fault.CheckFault.{CheckFault}
use Rattle.c_values.specs.declared.check_fault.CheckFault.TheVariants.{Constraint, Limit, Memory}
use Rattle.c_check_expr.specs.declared.parameters.ParameterSpot.{ParameterSpot}
use Rattle.c_values.specs.TooDeep.{IsTooDeep}
use Rattle.c_check_expr.specs.Keeps.{Keeps}
use Rattle.c_check_expr.specs.Known.{AreSymbolsIn, state_of}
use Rattle.c_check_expr.specs.ParameterNode.{parameter_at}
use Rattle.c_check_expr.specs.StepFaults.{IsFault, is_deep, parameter_broken}
use Rattle.c_check_expr.proofs.DeclaratorNodes.{fine_at}
use Rattle.c_check_expr.proofs.NodeLimits.{IsSmall}
use Rattle.c_check_expr.specs.SymbolsStay.{state_stays, symbols_in_later}

-- a function becomes a pointer to it
pub function_adjusted : (t : CType) → is_function t ≡ true → adjusted t ≡ pointer_to t
function_adjusted (Plain q (Function r ps)) h = refl
function_adjusted (Plain q (Simple b)) h = absurd (cc)
function_adjusted (Plain q (Pointer to)) h = absurd (cc)
function_adjusted (Plain q (Structure n)) h = absurd (cc)
function_adjusted (Plain q (Union n)) h = absurd (cc)
function_adjusted (Plain q (Enumeration n)) h = absurd (cc)
function_adjusted (Array of n) h = absurd (cc)

-- ---- the node

or_none : (a : Bool) → (a || false) ≡ a
or_none true = refl
or_none false = refl

abbrev parameter_passed : State → CType → Option Which
parameter_passed s t = if is_above (extent s.tags t).size then Some which.Object else if is_deep s.tags t then Some which.Depth else None

parameter_fault : (s : State) (line : ℕ) (classes : List Storage) (name : Option (List ℕ)) (of : CType) (alone : Bool) →
    fault_at s line (Typing (Parameter classes name of alone)) ≡ broken_or line (parameter_broken classes name of alone) (parameter_passed s (adjusted of))
unfolding fault_at
parameter_fault s line classes name of alone =
    let t = adjusted of in
    rw (or_none (is_above (extent s.tags t).size), or_none (nat_lt 500 (extent s.tags t).nesting), or_none (nat_lt 500 (depth t))) refl

module _ (s : State) (line : ℕ) (classes : List Storage) (name : Option (List ℕ)) (of : CType) (alone : Bool) where
  pub broken_parameter : (number : ℕ) → parameter_broken classes name of alone ≡ Some number → fault_at s line (Typing (Parameter classes name of alone)) ≡ Some (Breaks number line)
  broken_parameter number h = parameter_fault s line classes name of alone ∙ ap (λ b. broken_or line b (parameter_passed s (adjusted of))) h

  -- no constraint is broken, and nothing is large or nested
  unbroken : parameter_broken classes name of alone ≡ None → IsSmall s.tags (adjusted of) →
      fault_at s line (Typing (Parameter classes name of alone)) ≡ passed_fault line (if nat_lt 500 (depth (adjusted of)) then Some which.Depth else None)
  unbroken h m =
      parameter_fault s line classes name of alone ∙ ap (λ b. broken_or line b (parameter_passed s (adjusted of))) h
      ∙ ap (λ b. passed_fault line (if b then Some which.Object else if is_deep s.tags (adjusted of) then Some which.Depth else None)) m.size
      ∙ ap (λ b. passed_fault line (if b || nat_lt 500 (depth (adjusted of)) then Some which.Depth else None)) m.nesting

  pub deep_parameter : (e : CheckFault) → parameter_broken classes name of alone ≡ None → IsSmall s.tags (adjusted of) → IsTooDeep e line (adjusted of) → IsFault e (fault_at s line (Typing (Parameter classes name of alone)))
  deep_parameter (Constraint number place) h m d = absurd d
  deep_parameter (Limit limit place) h m d = rw (unbroken h m, d.1.1, d.0, d.1.0) refl
  deep_parameter Memory h m d = tt

  pub fine_parameter : parameter_broken classes name of alone ≡ None → IsSmall s.tags (adjusted of) → nat_lt 500 (depth (adjusted of)) ≡ false → fault_at s line (Typing (Parameter classes name of alone)) ≡ None
  fine_parameter h m d = unbroken h m ∙ ap (λ b. passed_fault line (if b then Some which.Depth else None)) d

-- ---- what is kept

pub same_kept : (s : Scoping) (old new : Table) → Grows old new → AreSymbolsIn (length old.forms) s.symbols → Keeps s old s new
same_kept s old new g i = record { outer = refl; extends = g.extends; symbols = symbols_in_later old new g.extends s.symbols i }

pub later_kept : (s n : Scoping) (old new : Table) → Grows old new → Keeps s new n new → Keeps s old n new
later_kept s n old new g k = record { outer = k.outer; extends = g.extends; symbols = k.symbols }

-- the node is fine, and the parameter's name is in force, with its type in a later table
module _ (s n : Scoping) (old new : Table) (spot : ParameterSpot) (classes : List Storage) (name : Option (List ℕ)) (of : CType) (id : ℕ) where
  named_later : Grows old new → AreSymbolsIn (length old.forms) s.symbols → state_of n new ≡ with_parameter (state_of s new) spot.line spot.index classes name (type_at new id) →
      state_of n new ≡ with_parameter (state_of s old) spot.line spot.index classes name (type_at new id)
  named_later g i h = h ∙ ap (λ (k : State). with_parameter k spot.line spot.index classes name (type_at new id)) (state_stays s old new g i)

  abbrev becomes : State → CType → Outcome NamedParameter
  becomes k t = Fine k (record { name = name; of = t })

  pub parameter_becomes : Grows old new → AreSymbolsIn (length old.forms) s.symbols → state_of n new ≡ with_parameter (state_of s new) spot.line spot.index classes name (type_at new id) → type_at new id ≡ adjusted of →
      fault_at (state_of s old) spot.line (Typing (Parameter classes name of spot.alone)) ≡ None → parameter_at (state_of s old) spot classes name of ≡ becomes (state_of n new) (type_at new id)
  parameter_becomes g i h e f =
      fine_at (state_of s old) spot.line (Typing (Parameter classes name of spot.alone)) (with_parameter (state_of s old) spot.line spot.index classes name (adjusted of)) (record { name = name; of = adjusted of }) f
      ∙ ap (λ (t : CType). becomes (with_parameter (state_of s old) spot.line spot.index classes name t) t) (sym e)
      ∙ ap (λ (k : State). becomes k (type_at new id)) (sym (named_later g i h))
