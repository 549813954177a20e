-- A steady operator's values depend on its operands' values alone, and so does what a pattern of such operators gives.
use Rattle.std.proofs.Common.{◌≡◌, ℕ, ◌==◌, true, Option, Some, None, List, [], ◌∷◌, refl, sym, subst, arith, ⊎_elim}
use Rattle.std.proofs.lemmas.Bool.{or_cases, eqb-true}
use Rattle.objects.specs.declared.operators.Unary.TheVariants.{Negate}
use Rattle.objects.specs.declared.operators.Binary.TheVariants as binary
use Rattle.op_forest.specs.declared.op.Op.{Op}
use Rattle.op_forest.specs.declared.op.Op.TheVariants as op
use Rattle.op_forest.specs.declared.suffix.Suffix.{Suffix}
use Rattle.op_forest.specs.declared.suffix.Suffix.TheVariants.{I}
use Rattle.op_forest.specs.Nodes.{Head, number_of}
use Rattle.op_forest.specs.NumberedOperators.{HasNumber}
use Rattle.op_forest.proofs.lemmas.NumberedOperators.{is_numbered}
use Rattle.forests.specs.Words.{Word}
use Rattle.forests.specs.Worlds.{Point, Next, Effect, Went, Stuck}
use Rattle.forests.specs.Actions.{effect_of, gave}
use Rattle.forests.specs.Numbers.{constant, of_one, of_two}
use Rattle.forests.specs.Rows.{leaf_row, unary_row, binary_row}
use Rattle.forests.specs.Bodies.{Setting, does}
use Rattle.vcode.specs.Patterns.{is_steady}

-- values, or no meaning
abbrev pub settled : Option (List Word) → (List Word → Effect) → Effect
settled None go = Stuck
settled (Some ws) go = go ws

abbrev pub Steadily : (Point → Effect) → Type 0
Steadily f = (e : Option (List Word)) × ((p : Point) → f p ≡ settled e (λ ws. Went ws p Next))

-- the steady operators
data IsSteady : Op → Suffix → Type 0 where
  Constant : IsSteady op.Cnst I
  Negative : IsSteady op.Neg I
  Sum : IsSteady op.Add I
  Difference : IsSteady op.Sub I
  Product : IsSteady op.Mul I

of_number : (h : Head) (n : ℕ) (o : Op) (x : Suffix) → HasNumber h n o x → (number_of h == n) ≡ true → IsSteady o x → IsSteady h.operator.op h.operator.suffix
of_number h n o x is same steady =
    let both = is (sym (eqb-true (number_of h) n same)) in
    subst (λ y. IsSteady h.operator.op y) (sym both.1) (subst (λ q. IsSteady q x) (sym both.0) steady)

steady_operator : (h : Head) → is_steady (number_of h) ≡ true → IsSteady h.operator.op h.operator.suffix
steady_operator h e =
    let n = number_of h in
    ⊎_elim (λ c. of_number h 3 op.Cnst I (is_numbered h 3 op.Cnst I (λ z. omega (arith, z)) refl) c Constant)
    (λ c. ⊎_elim (λ d. of_number h 37 op.Neg I (is_numbered h 37 op.Neg I (λ z. omega (arith, z)) refl) d Negative)
    (λ d. ⊎_elim (λ f. of_number h 39 op.Add I (is_numbered h 39 op.Add I (λ z. omega (arith, z)) refl) f Sum)
    (λ f. ⊎_elim (λ g. of_number h 42 op.Sub I (is_numbered h 42 op.Sub I (λ z. omega (arith, z)) refl) g Difference)
    (λ g. of_number h 45 op.Mul I (is_numbered h 45 op.Mul I (λ z. omega (arith, z)) refl) g Product)
    (or_cases (n == 42) (n == 45) f))
    (or_cases (n == 39) _ d))
    (or_cases (n == 37) _ c))
    (or_cases (n == 3) _ e)

module _ (s : Setting) (h : Head) where
  gave_steady : (v : Option Word) → Steadily (λ p. effect_of s.call (gave v) p)
  gave_steady None = (None, λ p. refl)
  gave_steady (Some w) = (Some (w ∷ []), λ p. refl)

  leaf_steady : {o : Op} {x : Suffix} → IsSteady o x → Steadily (λ p. effect_of s.call (leaf_row s.environment h p.world.objects o x) p)
  leaf_steady Constant = gave_steady (constant h.value)
  leaf_steady Negative = (None, λ p. refl)
  leaf_steady Sum = (None, λ p. refl)
  leaf_steady Difference = (None, λ p. refl)
  leaf_steady Product = (None, λ p. refl)

  unary_steady : (a : Word) {o : Op} {x : Suffix} → IsSteady o x → Steadily (λ p. effect_of s.call (unary_row s.environment h p.world.objects o x a) p)
  unary_steady a Constant = (None, λ p. refl)
  unary_steady a Negative = gave_steady (of_one Negate a)
  unary_steady a Sum = (None, λ p. refl)
  unary_steady a Difference = (None, λ p. refl)
  unary_steady a Product = (None, λ p. refl)

  binary_steady : (a b : Word) {o : Op} {x : Suffix} → IsSteady o x → Steadily (λ p. effect_of s.call (binary_row s.environment h p.world.objects o x a b) p)
  binary_steady a b Constant = (None, λ p. refl)
  binary_steady a b Negative = (None, λ p. refl)
  binary_steady a b Sum = gave_steady (of_two true binary.Add a b)
  binary_steady a b Difference = gave_steady (of_two true binary.Subtract a b)
  binary_steady a b Product = gave_steady (of_two true binary.Multiply a b)

  pub does_steady : (ws : List Word) → is_steady (number_of h) ≡ true → Steadily (does s h ws)
  does_steady [] e = leaf_steady (steady_operator h e)
  does_steady (a ∷ []) e = unary_steady a (steady_operator h e)
  does_steady (a ∷ b ∷ []) e = binary_steady a b (steady_operator h e)
  does_steady (a ∷ b ∷ c ∷ ws) e = (None, λ p. refl)
