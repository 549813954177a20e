-- Words of parts that aren't there, and the value of a constant over its types as mathematics has them.
use Rattle.std.proofs.Common.{◌≡◌, ℕ, ◌<◌, List, [], ◌∷◌, length, refl, sym, ap, arith}
use Rattle.std.specs.Prelude.{Bool, true, false, Option, Some, None, ℤ, pos, if◌then◌else◌}
use Rattle.std.specs.Option.{option_map}
use Rattle.objects.specs.Arithmetic.{signed_of}
use Rattle.c_types.specs.CType.{CType}
use Rattle.c_types.specs.Table.{Table, type_at}
use Rattle.c_meaning.specs.declared.core_expr.CoreKind.TheVariants as kind
use Rattle.c_meaning.specs.CoreTrees.{CoreOf, Core, CoresOf, NoCore, Cores, cores_of, type_of, seen, all_seen}
use Rattle.c_meaning.specs.Scalars.{is_signed}
use Rattle.c_meaning.specs.Constants.{is_constant, all_constant, word, first_word, second_word, third_word, number_in, fold}
use Rattle.c_values.specs.Folding.{has_sign, number_at, folded, IsTyped}

pub no_second : (kids : List (CoreOf ℕ)) → length kids < 2 → None ≡ second_word (cores_of kids)
no_second [] h = refl
no_second (a ∷ []) h = refl
no_second (a ∷ b ∷ kids) h = absurd (omega arith)

pub no_third : (kids : List (CoreOf ℕ)) → length kids < 3 → None ≡ third_word (cores_of kids)
no_third [] h = refl
no_third (a ∷ []) h = refl
no_third (a ∷ b ∷ []) h = refl
no_third (a ∷ b ∷ c ∷ kids) h = absurd (omega arith)

-- ---- whether an expression is constant, and its word, no type tells

mutual
  pub constant_seen : {T U : Type 0} (known : T → U) (c : CoreOf T) → is_constant (seen known c) ≡ is_constant c
  constant_seen known (Core (kind.Number n) of line kids) = refl
  constant_seen known (Core (kind.Convert conversion) of line kids) = rw (all_constant_seen known kids) refl
  constant_seen known (Core (kind.Unary op) of line kids) = all_constant_seen known kids
  constant_seen known (Core kind.Not of line kids) = all_constant_seen known kids
  constant_seen known (Core (kind.Binary op signed) of line kids) = all_constant_seen known kids
  constant_seen known (Core (kind.Compare op signed) of line kids) = all_constant_seen known kids
  constant_seen known (Core kind.And of line kids) = all_constant_seen known kids
  constant_seen known (Core kind.Or of line kids) = all_constant_seen known kids
  constant_seen known (Core kind.Conditional of line kids) = all_constant_seen known kids
  constant_seen known (Core what of line kids) = refl

  pub all_constant_seen : {T U : Type 0} (known : T → U) (cs : CoresOf T) → all_constant (all_seen known cs) ≡ all_constant cs
  all_constant_seen known NoCore = refl
  all_constant_seen known (Cores c cs) = rw (constant_seen known c, all_constant_seen known cs) refl

mutual
  pub word_seen : {T U : Type 0} (known : T → U) (c : CoreOf T) → word (seen known c) ≡ word c
  word_seen known (Core (kind.Number n) of line kids) = refl
  word_seen known (Core (kind.Convert conversion) of line kids) = rw (first_seen known kids) refl
  word_seen known (Core (kind.Unary op) of line kids) = rw (first_seen known kids) refl
  word_seen known (Core kind.Not of line kids) = rw (first_seen known kids) refl
  word_seen known (Core (kind.Binary op signed) of line kids) = rw (first_seen known kids, second_seen known kids) refl
  word_seen known (Core (kind.Compare op signed) of line kids) = rw (first_seen known kids, second_seen known kids) refl
  word_seen known (Core kind.And of line kids) = rw (first_seen known kids, second_seen known kids) refl
  word_seen known (Core kind.Or of line kids) = rw (first_seen known kids, second_seen known kids) refl
  word_seen known (Core kind.Conditional of line kids) = rw (first_seen known kids, second_seen known kids, third_seen known kids) refl
  word_seen known (Core what of line kids) = refl

  pub first_seen : {T U : Type 0} (known : T → U) (cs : CoresOf T) → first_word (all_seen known cs) ≡ first_word cs
  first_seen known NoCore = refl
  first_seen known (Cores c cs) = word_seen known c

  pub second_seen : {T U : Type 0} (known : T → U) (cs : CoresOf T) → second_word (all_seen known cs) ≡ second_word cs
  second_seen known NoCore = refl
  second_seen known (Cores c cs) = first_seen known cs

  pub third_seen : {T U : Type 0} (known : T → U) (cs : CoresOf T) → third_word (all_seen known cs) ≡ third_word cs
  third_seen known NoCore = refl
  third_seen known (Cores c cs) = second_seen known cs

pub type_seen : {T U : Type 0} (known : T → U) (c : CoreOf T) → type_of (seen known c) ≡ known (type_of c)
type_seen known (Core what of line kids) = refl

-- ---- the value over types by their places is that over types as mathematics has them

same_number : (t : CType) (of : ℕ) (n : ℕ) → is_signed t ≡ has_sign of → number_at of n ≡ number_in t n
same_number t of n e = ap (λ b. if b then signed_of n else pos n) (sym e)

same_value : (t : CType) (of : ℕ) (n : Option ℕ) → is_signed t ≡ has_sign of → option_map (number_at of) n ≡ option_map (number_in t) n
same_value t of None e = refl
same_value t of (Some n) e = ap Some (same_number t of n e)

where_true : (b : Bool) (x y : Option ℤ) → (b ≡ true → x ≡ y) → (if b then x else None) ≡ (if b then y else None)
where_true true x y h = h refl
where_true false x y h = refl

pub fold_seen : (t : Table) (c : CoreOf ℕ) → IsTyped t c → folded c ≡ fold (seen (type_at t) c)
unfolding fold
fold_seen t c h =
    rw (constant_seen (type_at t) c, type_seen (type_at t) c, word_seen (type_at t) c)
    (where_true (is_constant c) _ _ (λ e. same_value (type_at t (type_of c)) (type_of c) (word c) (h e)))
