-- Types that are compatible with one that stands under qualifiers: part by part of what a step makes.
use Rattle.std.proofs.Common.{◌≡◌, ℕ, true, false, sym, ap, ◌∙◌, eq-eqb, max, arith}
use Rattle.std.specs.Prelude.{◌&&◌, nat_eq, bit_or, Option, Some, None, IfSome, IfNone}
use Rattle.std.specs.Int.{bit_at}
use Rattle.std.proofs.lemmas.Nat.Bits.{bit_at_or, bit_at-zero, same_from_bits}
use Rattle.c_types.specs.CType.{CType, Plain, Array, Pointer, Function, Parameters, qualify}
use Rattle.c_types.specs.Compatible.{compatible, lengths_fit, parameters_compatible}
use Rattle.c_types.proofs.lemmas.Qualifying.{qualify_none}
use Rattle.c_types.specs.Table.{Table}
use Rattle.c_types.specs.declared.qualifiers.Qualifiers.{Qualifiers}
use Rattle.c_check_decl.specs.Fitting.{Fits, FitsNone, under}
use Rattle.c_check_decl.proofs.JoinedTests.{and_false, and_true}

none_or : (a : ℕ) → bit_or 0 a ≡ a
none_or a = same_from_bits (bit_or 0 a) a (λ i. (let e : bit_at (bit_or 0 a) i ≡ max (bit_at 0 i) (bit_at a i) = bit_at_or 0 a i in let z : bit_at 0 i ≡ 0 = bit_at-zero i in omega (arith, e, z)))

-- ---- pointers

pub pointer_fits : (own q : ℕ) (u to base : CType) → u ≡ Plain 0 (Pointer to) → own ≡ q → compatible (Plain own (Pointer base)) (qualify q u) ≡ compatible base (qualify 0 to)
pointer_fits own q u to base e g =
    ap (λ z. compatible (Plain own (Pointer base)) (qualify q z)) e ∙ ap (λ z. nat_eq own z && compatible base to) (none_or q)
    ∙ ap (λ z. z && compatible base to) (eq-eqb own q g) ∙ ap (compatible base) (sym (qualify_none to))

-- ---- arrays

pub element_fits : (n m : Option ℕ) (q : ℕ) (u of base : CType) → u ≡ Array of m → lengths_fit n m ≡ true → compatible (Array base n) (qualify q u) ≡ compatible base (qualify q of)
element_fits n m q u of base e g = ap (λ z. compatible (Array base n) (qualify q z)) e ∙ ap (λ z. compatible base (qualify q of) && z) g ∙ and_true _

pub element_differs : (n m : Option ℕ) (q : ℕ) (u of base : CType) → u ≡ Array of m → lengths_fit n m ≡ false → compatible (Array base n) (qualify q u) ≡ false
element_differs n m q u of base e g = ap (λ z. compatible (Array base n) (qualify q z)) e ∙ ap (λ z. compatible base (qualify q of) && z) g ∙ and_false _

-- ---- functions

pub result_fits : (ps qs : Parameters) (q : ℕ) (u r base : CType) → u ≡ Plain 0 (Function r qs) → q ≡ 0 → parameters_compatible ps qs ≡ true → compatible (Plain 0 (Function base ps)) (qualify q u) ≡ compatible base (qualify 0 r)
result_fits ps qs q u r base e g h =
    ap (λ z. compatible (Plain 0 (Function base ps)) (qualify q z)) e ∙ ap (λ z. nat_eq 0 z && (compatible base r && parameters_compatible ps qs)) (none_or q)
    ∙ ap (λ z. z && (compatible base r && parameters_compatible ps qs)) (eq-eqb 0 q (sym g)) ∙ ap (λ z. compatible base r && z) h ∙ and_true _ ∙ ap (compatible base) (sym (qualify_none r))

pub result_differs : (ps qs : Parameters) (q : ℕ) (u r base : CType) → u ≡ Plain 0 (Function r qs) → parameters_compatible ps qs ≡ false → compatible (Plain 0 (Function base ps)) (qualify q u) ≡ false
result_differs ps qs q u r base e h =
    ap (λ z. compatible (Plain 0 (Function base ps)) (qualify q z)) e ∙ ap (λ z. nat_eq 0 (bit_or 0 q) && (compatible base r && z)) h
    ∙ ap (λ z. nat_eq 0 (bit_or 0 q) && z) (and_false (compatible base r)) ∙ and_false _

-- ---- the same type at another place

module _ (t : Table) (step made : CType → CType) (of base : ℕ × Qualifiers) (e : under t of ≡ under t base) (s : step ≡ made) where
  pub some_under : (r : Option (ℕ × Qualifiers)) → IfSome r (Fits t made base) → IfSome r (Fits t step of)
  some_under None h = tt
  some_under (Some inner) h = λ b. ap (λ f. compatible (f b) (under t of)) s ∙ ap (compatible (made b)) e ∙ h b

  pub none_under : (r : Option (ℕ × Qualifiers)) → IfNone r (FitsNone t made base) → IfNone r (FitsNone t step of)
  none_under None h = λ b. ap (λ f. compatible (f b) (under t of)) s ∙ ap (compatible (made b)) e ∙ h b
  none_under (Some inner) h = tt
