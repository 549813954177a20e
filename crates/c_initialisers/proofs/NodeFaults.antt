-- What is told at an initialiser's node: the constraint that it breaks first, else the limit that its types pass.
use Rattle.std.proofs.Common.{◌≡◌, ℕ, Bool, true, false, Option, Some, None, List, [], ◌∷◌, refl, sym, ap, ◌∙◌, subst}
use Rattle.std.specs.Prelude.{◌||◌, nat_lt, if◌then◌else◌}
use Rattle.lcc_base.specs.declared.which.Which.{Which}
use Rattle.lcc_base.specs.declared.which.Which.TheVariants as which
use Rattle.c_types.specs.CType.{CType, depth}
use Rattle.c_types.specs.Layout.{Tag, extent}
use Rattle.c_types.specs.Table.{is_above}
use Rattle.c_meaning.specs.Constraints.{Breaks, Passes, extents, some_deep, some_large, some_nested}
use Rattle.c_meaning.specs.Initialising.{InitNode, at_init, init_constraints, init_fault, init_types}
use Rattle.c_meaning.specs.NodeConstraints.{first_of, passed_by}
use Rattle.c_meaning.specs.State.{State}
use Rattle.c_meaning.specs.Typing.{Fine, Bad}
use Rattle.c_values.specs.declared.check_fault.CheckFault.{CheckFault}
use Rattle.c_values.specs.declared.check_fault.CheckFault.TheVariants.{Constraint, Limit, Memory}
use Rattle.c_check_expr.specs.AtNode.{Tells}
use Rattle.c_check_expr.specs.Completed.{IsPassed}

module _ {T : Type 0} (s : State) (line : ℕ) (n : InitNode) (x : T) where
  pub node_breaks : (number : ℕ) → first_of init_constraints s n ≡ Some number → at_init s line n x ≡ Bad (Breaks number line)
  unfolding init_fault
  node_breaks number h = rw h refl

  pub node_fine : first_of init_constraints s n ≡ None → passed_by s.tags (init_types n) ≡ None → at_init s line n x ≡ Fine s x
  unfolding init_fault
  node_fine h k = rw (h, k) refl

  node_passes : (w : Which) → first_of init_constraints s n ≡ None → passed_by s.tags (init_types n) ≡ Some w → at_init s line n x ≡ Bad (Passes w line)
  unfolding init_fault
  node_passes w h k = rw (h, k) refl

  pub node_told : (e : CheckFault) → first_of init_constraints s n ≡ None → IsPassed e line (passed_by s.tags (init_types n)) → Tells e (at_init s line n x)
  node_told (Constraint m l) h k = absurd k
  node_told (Limit w l) h k = node_passes w h k.0 ∙ ap (λ m. Bad (Passes w m)) (sym k.1)
  node_told Memory h k = tt

-- ---- limits of a type before others

abbrev passed : Bool → Bool → Option Which
passed large deep = if large then Some which.Object else if deep then Some which.Depth else None

none_passed : (l m n o d e : Bool) → passed (l || false) ((n || false) || (d || false)) ≡ None → passed m (o || e) ≡ None → passed (l || m) ((n || o) || (d || e)) ≡ None
none_passed true m n o d e h k = absurd (cc)
none_passed false true n o d e h k = absurd (cc)
none_passed false false true o d e h k = absurd (cc)
none_passed false false false true d e h k = absurd (cc)
none_passed false false false false true e h k = absurd (cc)
none_passed false false false false false true h k = absurd (cc)
none_passed false false false false false false h k = refl

first_passed : (w : Which) (l m n o d e : Bool) → passed (l || false) ((n || false) || (d || false)) ≡ Some w → passed m (o || e) ≡ None → passed (l || m) ((n || o) || (d || e)) ≡ Some w
first_passed w true m n o d e h k = h
first_passed w false true n o d e h k = absurd (cc)
first_passed w false false true o d e h k = h
first_passed w false false false true d e h k = absurd (cc)
first_passed w false false false false true e h k = h
first_passed w false false false false false true h k = absurd (cc)
first_passed w false false false false false false h k = absurd (cc)

rest_passed : (w : Which) (m n o d e : Bool) → passed m (o || e) ≡ Some w → passed m ((n || o) || (d || e)) ≡ Some w
rest_passed w true n o d e h = h
rest_passed w false true true d e h = h
rest_passed w false false true d e h = h
rest_passed w false true false d true h = h
rest_passed w false false false true true h = h
rest_passed w false false false false true h = h
rest_passed w false n false d false h = absurd (cc)

module _ (tags : List Tag) (t : CType) (ts : List CType) where
  abbrev large : Bool
  large = is_above (extent tags t).size

  abbrev nested : Bool
  nested = nat_lt 500 (extent tags t).nesting

  abbrev deep : Bool
  deep = nat_lt 500 (depth t)

  pub passes_none : passed_by tags (t ∷ []) ≡ None → passed_by tags ts ≡ None → passed_by tags (t ∷ ts) ≡ None
  passes_none h k = none_passed large (some_large (extents tags ts)) nested (some_nested (extents tags ts)) deep (some_deep ts) h k

  pub passes_first : (e : CheckFault) (line : ℕ) → IsPassed e line (passed_by tags (t ∷ [])) → passed_by tags ts ≡ None → IsPassed e line (passed_by tags (t ∷ ts))
  passes_first (Constraint m l) line h k = absurd h
  passes_first (Limit w l) line h k = (first_passed w large (some_large (extents tags ts)) nested (some_nested (extents tags ts)) deep (some_deep ts) h.0 k, h.1)
  passes_first Memory line h k = tt

  rest_limit : (w : Which) → large ≡ false → passed_by tags ts ≡ Some w → passed_by tags (t ∷ ts) ≡ Some w
  rest_limit w l h = subst (λ b. passed (b || some_large (extents tags ts)) ((nested || some_nested (extents tags ts)) || (deep || some_deep ts)) ≡ Some w) (sym l) (rest_passed w (some_large (extents tags ts)) nested (some_nested (extents tags ts)) deep (some_deep ts) h)

  pub passes_rest : (e : CheckFault) (line : ℕ) → large ≡ false → IsPassed e line (passed_by tags ts) → IsPassed e line (passed_by tags (t ∷ ts))
  passes_rest (Constraint m k) line l h = absurd h
  passes_rest (Limit w k) line l h = (rest_limit w l h.0, h.1)
  passes_rest Memory line l h = tt
