-- Tests of a prototype's parameters, one behind the other.
use Rattle.std.proofs.Common.{◌≡◌, ℕ, ◌+◌, ◌<◌, ◌≤◌, false, List, ◌∷◌, length, get_or, drop, refl, sym, ap, ◌∙◌, subst}
use Rattle.std.specs.Prelude.{◌||◌, not, Option, Some, None, is_none, is_some}
use Rattle.std.proofs.lemmas.List.{at_drop_all, at_drop_more, drop_more}
use Rattle.c_types.specs.Layout.{Tag}
use Rattle.c_types.specs.Table.{Table, type_at}
use Rattle.c_meaning.specs.Types.{has_size}
use Rattle.c_check_expr.specs.declared.parts.NamedParameter.{NamedParameter}
use Rattle.c_check_expr.specs.PartsSeen.{AreParametersIn, parameters_seen}
use Rattle.c_units.specs.Definitions.{has_open_parameter, is_nameless}

pub nameless : (o : Option (List ℕ)) → is_none o ≡ not (is_some o)
nameless None = refl
nameless (Some x) = refl

module _ (ps : List NamedParameter) (i : ℕ) (p : NamedParameter) (l : i < length ps) (is : p ≡ get_or ps i p) where
  pub nameless_at : (t : Table) → is_nameless (parameters_seen t (drop i ps)) ≡ (is_none p.name || is_nameless (parameters_seen t (drop (i + 1) ps)))
  nameless_at t = at_drop_more (λ xs. is_nameless (parameters_seen t xs)) ps i p l ∙ ap (λ (x : NamedParameter). is_nameless (parameters_seen t (x ∷ drop (i + 1) ps))) (sym is)

  pub open_at : (tags : List Tag) (t : Table) → has_open_parameter tags (parameters_seen t (drop i ps)) ≡ (not (has_size tags (type_at t p.of)) || has_open_parameter tags (parameters_seen t (drop (i + 1) ps)))
  open_at tags t = at_drop_more (λ xs. has_open_parameter tags (parameters_seen t xs)) ps i p l ∙ ap (λ (x : NamedParameter). has_open_parameter tags (parameters_seen t (x ∷ drop (i + 1) ps))) (sym is)

  first_in : (n : ℕ) → AreParametersIn n (drop i ps) → AreParametersIn n (p ∷ drop (i + 1) ps)
  first_in n h = subst (AreParametersIn n) (drop_more ps i p l ∙ ap (λ (x : NamedParameter). x ∷ drop (i + 1) ps) (sym is)) h

  pub parameter_in : (n : ℕ) → AreParametersIn n (drop i ps) → p.of < n
  parameter_in n h = (first_in n h).0

  pub others_in : (n : ℕ) → AreParametersIn n (drop i ps) → AreParametersIn n (drop (i + 1) ps)
  others_in n h = (first_in n h).1

pub none_nameless : (t : Table) (ps : List NamedParameter) (i : ℕ) → length ps ≤ i → is_nameless (parameters_seen t (drop i ps)) ≡ false
none_nameless t ps i l = at_drop_all (λ xs. is_nameless (parameters_seen t xs)) ps i l

pub none_open : (tags : List Tag) (t : Table) (ps : List NamedParameter) (i : ℕ) → length ps ≤ i → has_open_parameter tags (parameters_seen t (drop i ps)) ≡ false
none_open tags t ps i l = at_drop_all (λ xs. has_open_parameter tags (parameters_seen t xs)) ps i l
