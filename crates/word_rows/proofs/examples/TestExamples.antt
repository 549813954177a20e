-- What is compared, and functions whose addresses are or aren't their own.
use Rattle.std.specs.Prelude.{◌≡◌, ◌<◌, ◌⊎◌, ℕ, zero, suc, ◌+◌, ◌==◌, ◌||◌, Bool, true, false, Some, None, slice_get}
use Rattle.std.proofs.Common.{refl, sym, ap, inl, inr, subst, ◌∙◌, arith}
use Rattle.std.proofs.lemmas.Bool.{eqb-true}
use Rattle.objects.specs.declared.operators.Comparison.TheVariants.{Equal, Less}
use Rattle.objects.specs.declared.value.Value.TheVariants.{Number, Pointer, Function}
use Rattle.objects.specs.Arithmetic.{holds}
use Rattle.op_forest.specs.declared.op.Op.TheVariants as op
use Rattle.op_forest.specs.declared.suffix.Suffix.TheVariants.{I, U}
use Rattle.forests.specs.Words.{Plain}
use Rattle.forests.specs.Objects.{Object}
use Rattle.forests.specs.Numbers.{equal, unsigned_are}
use Rattle.word_rows.specs.Comparisons.{AreApart, IsAmong}
use Rattle.word_rows.specs.Rows.{test_of}
use Rattle.word_rows.proofs.lemmas.Numbers.{none_some, some_is}
use Rattle.word_rows.proofs.examples.RowExamples.{places, map, name, objects}

-- the function 7 at 64; that of 9 is where the object lies
abbrev known : ℕ → Bool
known f = f == 7

address : (f : ℕ) → known f ≡ true → map.function f ≡ 64
address f k = ap map.function (eqb-true f 7 k)

apart : AreApart map objects known
apart = record {
  one = λ f g k l e. eqb-true f 7 k ∙ sym (eqb-true g 7 l);
  some = λ f k. subst (λ (n : ℕ). 0 < n) (sym (address f k)) (omega arith);
  off = λ f o a x k e at. inl (subst (λ (n : ℕ). n < a) (sym (address f k)) (low o a x e at));
}
  where
    low : (o a : ℕ) (x : Object) → slice_get objects o ≡ Some x → map.object x.made ≡ Some a → 64 < a
    low zero a x e at =
        let made : 0 ≡ x.made = ap (λ (y : Object). y.made) (some_is _ x e) in
        let q = some_is 4096 a (ap places made ∙ at) in
        omega (arith, q)
    low (suc o) a x e at = absurd (none_some x e)

abbrev both : ℕ → Bool
both f = (f == 7) || (f == 9)

not_apart : AreApart map objects both → ⊥
not_apart a = sides (a.off 9 0 4096 _ refl refl refl)
  where
    sides : (4096 < 4096) ⊎ (4096 + 8 < 4096) → ⊥
    sides (inl l) = omega (arith, l)
    sides (inr l) = omega (arith, l)

among : IsAmong known (Plain (Function 7))
among = refl

not_among : IsAmong known (Plain (Function 9)) → ⊥
not_among e = cc

-- ---- comparisons

two_places : equal objects (Plain (Pointer name 1)) (Plain (Pointer name 2)) ≡ Some false
two_places = refl

their_numbers : holds false Equal 4097 4098 ≡ false
their_numbers = refl

no_null : equal objects (Plain (Pointer name 0)) (Plain (Number 0)) ≡ Some false
no_null = refl

-- another number than 0 isn't compared with a pointer, and a function isn't ordered
not_compared : equal objects (Plain (Pointer name 0)) (Plain (Number 5)) ≡ None
not_compared = refl

not_ordered : unsigned_are objects Less (Plain (Function 7)) (Plain (Function 7)) ≡ None
not_ordered = refl

signed_test : test_of op.Lt I ≡ Some (record { signed = true; by = Less })
signed_test = refl

no_test : test_of op.Eq U ≡ None
no_test = refl
