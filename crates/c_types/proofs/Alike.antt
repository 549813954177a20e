-- Compatible types one by one: what their parts give, and how much there is of them.
use Rattle.std.proofs.Common.{◌≡◌, ℕ, zero, suc, ◌+◌, ◌<◌, ◌≤◌, Bool, true, false, List, [], ◌∷◌, length, drop, get_or, max, refl, sym, ap, ◌∙◌, true≢false, drop_of_length-le, arith}
use Rattle.std.specs.Prelude.{Some, None, Option, ◌&&◌, nat_eq, bit_or}
use Rattle.std.specs.Int.{bit_at}
use Rattle.std.proofs.lemmas.Bool.Decides.{nat_tests}
use Rattle.std.proofs.lemmas.List.{drop_more}
use Rattle.std.proofs.lemmas.Nat.Bits.{bit_at_or, bit_at-zero, same_from_bits}
use Rattle.c_types.specs.declared.type_form.TypeForm.{TypeForm}
use Rattle.c_types.specs.declared.type_form.TypeForm.TheVariants as form
use Rattle.c_types.specs.CType.{CType, Plain, Array, Kind, Simple, Pointer, Function, Structure, Union, Enumeration, Parameters, Open, Listed, CTypes, NoType, And, kind_of, qualify, unqualified, weight, all_weight}
use Rattle.c_types.specs.Compatible.{basic_place, compatible, kinds_compatible, parameters_compatible, all_compatible, kind_compatible, lengths_fit, same_flag}
use Rattle.c_types.specs.Readings.{is_array}
use Rattle.c_types.specs.Table.{formed, is_qualified, is_tagged, type_in, types_in}
use Rattle.c_types.specs.Keeps.{is_formed}
use Rattle.c_types.proofs.Bare.{IsBare}
use Rattle.c_types.proofs.lemmas.Qualifying.{qualify_none}

none_or : (a : ℕ) → bit_or 0 a ≡ a
none_or a = same_from_bits (bit_or 0 a) a (λ i. (let e : bit_at (bit_or 0 a) i ≡ max (bit_at 0 i) (bit_at a i) = bit_at_or 0 a i in let z : bit_at 0 i ≡ 0 = bit_at-zero i in omega (arith, e, z)))

pub and_false : (b : Bool) → (b && false) ≡ false
and_false true = refl
and_false false = refl

pub and_true : (b : Bool) → (b && true) ≡ b
and_true true = refl
and_true false = refl

-- ---- weights

pub weight_qualify : (q : ℕ) (s : CType) → weight (qualify q s) ≡ weight s
weight_qualify q (Plain p k) = refl
weight_qualify q (Array of n) = ap (λ z. 1 + z) (weight_qualify q of)

pub weight_under : (p q : ℕ) (s u : CType) → qualify p s ≡ qualify q u → weight s ≡ weight u
weight_under p q s u e = sym (weight_qualify p s) ∙ ap weight e ∙ weight_qualify q u

pub weight_bare : (s : CType) → weight (unqualified s) ≡ weight s
weight_bare (Plain q k) = refl
weight_bare (Array of n) = refl

-- a parameter isn't above all of them
pub weight_among : (ts : List CType) (ids : List ℕ) (i d : ℕ) → i < length ids → weight (unqualified (type_in ts (get_or ids i d))) ≤ all_weight (types_in ts ids)
weight_among ts [] i d l = absurd (omega arith)
weight_among ts (id ∷ ids) zero d l = omega arith
weight_among ts (id ∷ ids) (suc i) d l = let h = weight_among ts ids i d (omega arith) in omega arith

-- ---- under qualifiers

pub compatible_kinds : (p q : ℕ) (s u : CType) → IsBare s → IsBare u → is_array s ≡ false → compatible (qualify p s) (qualify q u) ≡ (nat_eq p q && kind_compatible (kind_of s) u)
compatible_kinds p q (Plain a k) (Plain b l) h g n =
    let x : bit_or a p ≡ p = ap (λ z. bit_or z p) h ∙ none_or p in
    let y : bit_or b q ≡ q = ap (λ z. bit_or z q) g ∙ none_or q in
    ap (λ z. nat_eq z (bit_or b q) && kinds_compatible k l) x ∙ ap (λ z. nat_eq p z && kinds_compatible k l) y
compatible_kinds p q (Plain a k) (Array of m) h g n = sym (and_false (nat_eq p q))
compatible_kinds p q (Array of m) u h g n = absurd (true≢false n)

pub compatible_arrays : (p q : ℕ) (s u of other : CType) (n m : Option ℕ) → s ≡ Array of n → u ≡ Array other m → compatible (qualify p s) (qualify q u) ≡ (compatible (qualify p of) (qualify q other) && lengths_fit n m)
compatible_arrays p q s u of other n m e g = ap (λ z. compatible (qualify p z) (qualify q u)) e ∙ ap (λ z. compatible (qualify p (Array of n)) (qualify q z)) g

-- ---- a type and itself

same_place : (n : ℕ) → nat_eq n n ≡ true
same_place n = grind (arith, nat_tests)

lengths_itself : (n : Option ℕ) → lengths_fit n n ≡ true
lengths_itself None = refl
lengths_itself (Some n) = same_place n

flag_itself : (b : Bool) → same_flag b b ≡ true
flag_itself true = refl
flag_itself false = refl

both : (a b : Bool) → a ≡ true → b ≡ true → (a && b) ≡ true
both true b h i = i
both false b h i = absurd (true≢false (sym h))

mutual
  pub compatible_itself : (s : CType) → compatible s s ≡ true
  compatible_itself (Plain q k) = both (nat_eq q q) (kinds_compatible k k) (same_place q) (kinds_itself k)
  compatible_itself (Array of n) = both (compatible of of) (lengths_fit n n) (compatible_itself of) (lengths_itself n)

  kinds_itself : (k : Kind) → kinds_compatible k k ≡ true
  kinds_itself (Simple b) = same_place (basic_place b)
  kinds_itself (Pointer to) = compatible_itself to
  kinds_itself (Function r ps) = both (compatible r r) (parameters_compatible ps ps) (compatible_itself r) (parameters_itself ps)
  kinds_itself (Structure n) = same_place n
  kinds_itself (Union n) = same_place n
  kinds_itself (Enumeration n) = same_place n

  parameters_itself : (ps : Parameters) → parameters_compatible ps ps ≡ true
  parameters_itself Open = refl
  parameters_itself (Listed ps more) = both (same_flag more more) (all_compatible ps ps) (flag_itself more) (all_itself ps)

  all_itself : (ps : CTypes) → all_compatible ps ps ≡ true
  all_itself NoType = refl
  all_itself (And p ps) = both (compatible p p) (all_compatible ps ps) (compatible_itself p) (all_itself ps)

-- two types that are one under equal qualifiers
pub compatible_same : (p q : ℕ) (s u : CType) → nat_eq p q ≡ true → s ≡ u → compatible (qualify p s) (qualify q u) ≡ true
compatible_same p q s u e g =
    let h : p ≡ q = grind (arith, nat_tests) in
    ap (λ z. compatible (qualify z s) (qualify q u)) h ∙ ap (λ z. compatible (qualify q z) (qualify q u)) g ∙ compatible_itself (qualify q u)

-- ---- forms

-- what is no basic type, no array, no pointer, no function and not qualified
pub tagged_rest : (ts : List CType) (n : ℕ) (f : TypeForm) → is_formed f ≡ true → is_qualified f ≡ false → is_array (formed ts n f) ≡ false → ((to : ℕ) → f ≡ form.Pointer to → ⊥) → ((r : ℕ) (ps : Option (List ℕ)) (m : Bool) → f ≡ form.Function r ps m → ⊥) → is_tagged f ≡ true
tagged_rest ts n form.Void u q a p h = absurd (true≢false (sym u))
tagged_rest ts n form.Char u q a p h = absurd (true≢false (sym u))
tagged_rest ts n form.SignedChar u q a p h = absurd (true≢false (sym u))
tagged_rest ts n form.UnsignedChar u q a p h = absurd (true≢false (sym u))
tagged_rest ts n form.Short u q a p h = absurd (true≢false (sym u))
tagged_rest ts n form.UnsignedShort u q a p h = absurd (true≢false (sym u))
tagged_rest ts n form.Int u q a p h = absurd (true≢false (sym u))
tagged_rest ts n form.Unsigned u q a p h = absurd (true≢false (sym u))
tagged_rest ts n form.Long u q a p h = absurd (true≢false (sym u))
tagged_rest ts n form.UnsignedLong u q a p h = absurd (true≢false (sym u))
tagged_rest ts n (form.Pointer to) u q a p h = absurd (p to refl)
tagged_rest ts n (form.Array of m) u q a p h = absurd (true≢false a)
tagged_rest ts n (form.Function r ps m) u q a p h = absurd (h r ps m refl)
tagged_rest ts n form.Structure u q a p h = refl
tagged_rest ts n form.Union u q a p h = refl
tagged_rest ts n (form.Enumeration ms) u q a p h = refl
tagged_rest ts n (form.Qualified of z) u q a p h = absurd (true≢false q)

pub pointers : (s u a b : CType) (p q : ℕ) → s ≡ Plain 0 (Pointer a) → u ≡ Plain 0 (Pointer b) → p ≡ 0 → q ≡ 0 → compatible (qualify p a) (qualify q b) ≡ kind_compatible (kind_of s) u
pointers s u a b p q e g z y =
    ap (λ x. compatible (qualify x a) (qualify q b)) z ∙ ap (λ x. compatible (qualify 0 a) (qualify x b)) y
    ∙ ap (λ x. compatible x (qualify 0 b)) (qualify_none a) ∙ ap (compatible a) (qualify_none b)
    ∙ sym (ap (λ x. kind_compatible (kind_of x) u) e ∙ ap (kind_compatible (Pointer a)) g)

pub functions : (s u a b : CType) (ps qs : Parameters) (p q : ℕ) → s ≡ Plain 0 (Function a ps) → u ≡ Plain 0 (Function b qs) → p ≡ 0 → q ≡ 0 → (compatible (qualify p a) (qualify q b) && parameters_compatible ps qs) ≡ kind_compatible (kind_of s) u
functions s u a b ps qs p q e g z y =
    let k = parameters_compatible ps qs in
    ap (λ x. compatible (qualify x a) (qualify q b) && k) z ∙ ap (λ x. compatible (qualify 0 a) (qualify x b) && k) y
    ∙ ap (λ x. compatible x (qualify 0 b) && k) (qualify_none a) ∙ ap (λ x. compatible a x && k) (qualify_none b)
    ∙ sym (ap (λ x. kind_compatible (kind_of x) u) e ∙ ap (kind_compatible (Function a ps)) g)

-- ---- lists of parameters

pub numbers_differ : (ts : List CType) (a b : List ℕ) → (length a ≡ length b → ⊥) → all_compatible (types_in ts a) (types_in ts b) ≡ false
numbers_differ ts [] [] n = absurd (n refl)
numbers_differ ts [] (y ∷ b) n = refl
numbers_differ ts (x ∷ a) [] n = refl
numbers_differ ts (x ∷ a) (y ∷ b) n =
    let h = numbers_differ ts a b (λ e. n (ap suc e)) in
    ap (λ z. compatible (unqualified (type_in ts x)) (unqualified (type_in ts y)) && z) h ∙ and_false (compatible (unqualified (type_in ts x)) (unqualified (type_in ts y)))

pub all_step : (ts : List CType) (a b : List ℕ) (i d e : ℕ) → i < length a → i < length b →
    all_compatible (types_in ts (drop i a)) (types_in ts (drop i b)) ≡ (compatible (unqualified (type_in ts (get_or a i d))) (unqualified (type_in ts (get_or b i e))) && all_compatible (types_in ts (drop (i + 1) a)) (types_in ts (drop (i + 1) b)))
all_step ts a b i d e l m =
    ap (λ (xs : List ℕ). all_compatible (types_in ts xs) (types_in ts (drop i b))) (drop_more a i d l)
    ∙ ap (λ (xs : List ℕ). all_compatible (types_in ts (get_or a i d ∷ drop (i + 1) a)) (types_in ts xs)) (drop_more b i e m)

pub all_end : (ts : List CType) (a b : List ℕ) (i : ℕ) → length a ≤ i → length b ≤ i → all_compatible (types_in ts (drop i a)) (types_in ts (drop i b)) ≡ true
all_end ts a b i l m = ap (λ (xs : List ℕ). all_compatible (types_in ts xs) (types_in ts (drop i b))) (drop_of_length-le a {i = i} l) ∙ ap (λ (xs : List ℕ). all_compatible NoType (types_in ts xs)) (drop_of_length-le b {i = i} m)

-- ---- what stands under the qualifiers of two types

pub under_kinds : (p0 q0 p q : ℕ) (s0 u0 s u : CType) → qualify p0 s0 ≡ qualify p s → qualify q0 u0 ≡ qualify q u → IsBare s → IsBare u → is_array s ≡ false →
    compatible (qualify p0 s0) (qualify q0 u0) ≡ (nat_eq p q && kind_compatible (kind_of s) u)
under_kinds p0 q0 p q s0 u0 s u e g h i n = ap (λ z. compatible z (qualify q0 u0)) e ∙ ap (compatible (qualify p s)) g ∙ compatible_kinds p q s u h i n

pub under_arrays : (p0 q0 p q : ℕ) (s0 u0 s u of other : CType) (n m : Option ℕ) → qualify p0 s0 ≡ qualify p s → qualify q0 u0 ≡ qualify q u → s ≡ Array of n → u ≡ Array other m →
    compatible (qualify p0 s0) (qualify q0 u0) ≡ (compatible (qualify p of) (qualify q other) && lengths_fit n m)
under_arrays p0 q0 p q s0 u0 s u of other n m e g h i = ap (λ z. compatible z (qualify q0 u0)) e ∙ ap (compatible (qualify p s)) g ∙ compatible_arrays p q s u of other n m h i
