-- The constraints and limits of a definition's declarator, as the checks of its parts tell them.
use Rattle.std.proofs.Common.{◌≡◌, ℕ, Bool, true, false, refl, sym, ap, ◌∙◌}
use Rattle.std.specs.Prelude.{◌||◌, not, Option, Some, None, if◌then◌else◌}
use Rattle.lcc_base.specs.declared.which.Which.{Which}
use Rattle.lcc_base.specs.declared.which.Which.TheVariants as which
use Rattle.c_symbols.specs.Scoping.{Scoping, symbol_named}
use Rattle.c_types.specs.Table.{Table, tags}
use Rattle.c_meaning.specs.Constraints.{extents, formings, some_deep, some_many, some_nested}
use Rattle.c_meaning.specs.Declarations.{Name, is_declared_again, is_declared_otherwise, is_defined, is_typedef}
use Rattle.c_meaning.specs.NodeConstraints.{first_of}
use Rattle.c_meaning.specs.State.{State}
use Rattle.c_meaning.specs.TypeConstraints.{is_bad_element, is_bad_result, is_bad_size, some_step}
use Rattle.c_meaning.specs.Units.{are_different}
use Rattle.c_check_expr.specs.Known.{state_of}
use Rattle.c_check_expr.specs.StepFaults.{is_deep_step, is_large_step, is_many_step, steps_passed}
use Rattle.c_check_expr.proofs.lemmas.StepLimits.{deep_steps, large_steps, many_steps}
use Rattle.c_units.specs.Definitions.{Definition, definition_constraints, definition_limit, has_many_names, names_of, or_which, own_step}
use Rattle.c_check_function.specs.declared.heading.Heading.{Heading}
use Rattle.c_check_function.specs.Headings.{heading_seen, own_broken, steps_broken}

-- ---- constraints

abbrev told : Bool → Bool → Bool → Bool → Option ℕ → Option ℕ
told typedef again otherwise defined rest = if typedef then Some 3 else if again then Some 5 else if otherwise then Some 6 else if defined then Some 7 else rest

-- nothing is told where no part tells anything
rest_fits : (a b c d : Bool) (r : Option ℕ) → told a b c d r ≡ None → r ≡ None
rest_fits true b c d r h = absurd (cc)
rest_fits false true c d r h = absurd (cc)
rest_fits false false true d r h = absurd (cc)
rest_fits false false false true r h = absurd (cc)
rest_fits false false false false r h = h

pub element_fits : (a b : Bool) (r : Option ℕ) → (if a then Some 13 else if b then Some 14 else r) ≡ None → b ≡ false
element_fits true b r h = absurd (cc)
element_fits false true r h = absurd (cc)
element_fits false false r h = refl

module _ (s : Scoping) (t : Table) (h : Heading) where
  abbrev st : State
  st = state_of s t

  abbrev n : Definition
  n = heading_seen t h

  first_is : first_of definition_constraints st n
      ≡ told (is_typedef h.class) (is_declared_again st (Name n.naming) || not (are_different (names_of (own_step n.steps)))) (is_declared_otherwise st (Name n.naming)) (is_defined st (symbol_named s.links h.name)) (steps_broken (tags t) n.base n.steps)
  first_is = refl

  pub first_told : (a b c d e : Bool) (r : Option ℕ) → a ≡ is_typedef h.class → b ≡ is_declared_again st (Name n.naming) → c ≡ are_different (names_of (own_step n.steps)) → d ≡ is_declared_otherwise st (Name n.naming) → e ≡ is_defined st (symbol_named s.links h.name) → r ≡ steps_broken (tags t) n.base n.steps
      → told a (b || not c) d e r ≡ first_of definition_constraints st n
  first_told a b c d e r f g h k l m = rw (f, g, h, k, l, m) (sym first_is)

  pub elements_fit : first_of definition_constraints st n ≡ None → some_step (is_bad_element (tags t)) n.base n.steps ≡ false
  elements_fit e =
      let rest = rest_fits (is_typedef h.class) (is_declared_again st (Name n.naming) || not (are_different (names_of (own_step n.steps)))) (is_declared_otherwise st (Name n.naming)) (is_defined st (symbol_named s.links h.name)) (steps_broken (tags t) n.base n.steps) e in
      element_fits (some_step is_bad_size n.base n.steps) (some_step (is_bad_element (tags t)) n.base n.steps) (if some_step is_bad_result n.base n.steps then Some 15 else own_broken (tags t) n.base n.steps) rest

-- ---- limits

abbrev passes : Bool → Bool → Bool → Option Which
passes large deep many = if large then Some which.Object else if deep then Some which.Depth else if many then Some which.Parameters else None

passes_is : (a b c d : Bool) → or_which (if a then Some which.Object else if b then Some which.Depth else None) (c || d) ≡ (if a then Some which.Object else if b then Some which.Depth else if c then Some which.Parameters else if d then Some which.Parameters else None)
passes_is true b c d = refl
passes_is false true c d = refl
passes_is false false true d = refl
passes_is false false false true = refl
passes_is false false false false = refl

-- the limits of its steps, and then that on the names
or_names : (a b c d : Bool) → (if a then Some which.Object else if b then Some which.Depth else if c then Some which.Parameters else if d then Some which.Parameters else None) ≡ or_which (passes a b c) d
or_names true b c d = refl
or_names false true c d = refl
or_names false false true d = refl
or_names false false false true = refl
or_names false false false false = refl

pub limit_is : (s : State) (n : Definition) → definition_limit s n ≡ or_which (steps_passed s.tags n.base n.steps) (has_many_names (own_step n.steps))
limit_is s n =
    ap (λ (b : Bool). or_which (if b then Some which.Object else if some_nested (extents s.tags (formings n.base n.steps)) || some_deep (formings n.base n.steps) then Some which.Depth else None) (some_many n.steps || has_many_names (own_step n.steps))) (large_steps s.tags n.base n.steps)
    ∙ ap (λ (b : Bool). or_which (if some_step (is_large_step s.tags) n.base n.steps then Some which.Object else if b then Some which.Depth else None) (some_many n.steps || has_many_names (own_step n.steps))) (deep_steps s.tags n.base n.steps)
    ∙ ap (λ b. or_which (if some_step (is_large_step s.tags) n.base n.steps then Some which.Object else if some_step (is_deep_step s.tags) n.base n.steps then Some which.Depth else None) (b || has_many_names (own_step n.steps))) (many_steps n.base n.steps)
    ∙ passes_is (some_step (is_large_step s.tags) n.base n.steps) (some_step (is_deep_step s.tags) n.base n.steps) (some_step is_many_step n.base n.steps) (has_many_names (own_step n.steps))
    ∙ or_names (some_step (is_large_step s.tags) n.base n.steps) (some_step (is_deep_step s.tags) n.base n.steps) (some_step is_many_step n.base n.steps) (has_many_names (own_step n.steps))
