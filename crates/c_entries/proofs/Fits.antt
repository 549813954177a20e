-- Arguments that fit parameters.
use Rattle.std.proofs.Common.{◌≡◌, ◌≢◌, ℕ, zero, suc, ◌+◌, ◌≤◌, Bool, true, false, ◌&&◌, List, [], ◌∷◌, length, drop, take, map, refl, sym, ap, ◌∙◌, arith}
use Rattle.std.specs.Prelude.{Some, None, slice_get, bit_or, min, nat_eq}
use Rattle.std.proofs.lemmas.List.{drop_all, drop_min, drop-map, take_min, take-map}
use Rattle.std.proofs.lemmas.Bool.Decides.{nat_tests}
use Rattle.std.proofs.lemmas.Nat.{le_or_r}
use Rattle.objects.specs.declared.value.Value.{Value}
use Rattle.c_types.specs.CType.{Char, CType, Plain, Array, Kind, Simple, Pointer, Function, Structure, Union, Enumeration, basic, qualify, unqualified}
use Rattle.c_types.specs.Compatible.{compatible}
use Rattle.c_types.specs.Table.{Table, type_at}
use Rattle.c_meaning.specs.Types.{is_pointer, pointer_to}
use Rattle.c_runs.specs.Calls.{arguments_fit, expected, int}
use Rattle.c_runs.specs.Run.{argv, main_arguments}
use Rattle.c_entries.specs.declared.argument.Argument.{Argument as PassedArgument}
use Rattle.c_entries.specs.Arguments.{arguments_seen}
use Rattle.c_entries.proofs.Passed.{drop_at, drop_past}
use Rattle.c_worlds.specs.declared.program.Program.{Program}
use Rattle.c_worlds.specs.Programs.{known}

second : (a : Bool) {b : Bool} → b ≡ false → (a && b) ≡ false
second true e = e
second false e = refl

-- ---- lists

-- the arguments from a place on fit the parameters from there on
abbrev pub fit_from : Program → Bool → List ℕ → List PassedArgument → ℕ → Bool
fit_from p old ids ps n = arguments_fit old (map (known p) (drop n ids)) (arguments_seen p (drop n ps))

pub fits_at : (p : Program) (old : Bool) (ids : List ℕ) (ps : List PassedArgument) (n id : ℕ) (a : PassedArgument) → slice_get ids n ≡ Some id → slice_get ps n ≡ Some a
    → fit_from p old ids ps n ≡ (compatible (expected old (known p id)) (unqualified (known p a.of)) && fit_from p old ids ps (n + 1))
fits_at p old ids ps n id a e f =
    ap (λ (is : List ℕ). arguments_fit old (map (known p) is) (arguments_seen p (drop n ps))) (drop_at ids n id e)
    ∙ ap (λ (bs : List PassedArgument). arguments_fit old (map (known p) (id ∷ drop (n + 1) ids)) (arguments_seen p bs)) (drop_at ps n a f)

pub none_at : (p : Program) (old : Bool) (ids : List ℕ) (ps : List PassedArgument) (n id : ℕ) → slice_get ids n ≡ Some id → slice_get ps n ≡ None → fit_from p old ids ps n ≡ false
none_at p old ids ps n id e f =
    ap (λ (is : List ℕ). arguments_fit old (map (known p) is) (arguments_seen p (drop n ps))) (drop_at ids n id e)
    ∙ ap (λ (bs : List PassedArgument). arguments_fit old (map (known p) (id ∷ drop (n + 1) ids)) (arguments_seen p bs)) (drop_past ps n f)

same_suc : (a b : ℕ) → nat_eq a b ≡ nat_eq (suc a) (suc b)
same_suc a b = grind (arith, nat_tests)

none_left : (m : ℕ) → false ≡ nat_eq 0 (suc m)
none_left m = grind (arith, nat_tests)

rest_fits : (p : Program) (old : Bool) (ps : List PassedArgument) (n : ℕ) → n ≤ length ps → arguments_fit old [] (arguments_seen p (drop n ps)) ≡ nat_eq n (length ps)
rest_fits p old [] n h = let e : n ≡ 0 = omega arith in rw e refl
rest_fits p old (a ∷ ps) zero h = none_left (length ps)
rest_fits p old (a ∷ ps) (suc n) h = rest_fits p old ps n (omega arith) ∙ same_suc n (length ps)

pub fits_last : (p : Program) (old : Bool) (ids : List ℕ) (ps : List PassedArgument) (n : ℕ) → n ≡ length ids → n ≤ length ps → fit_from p old ids ps n ≡ nat_eq (length ids) (length ps)
fits_last p old ids ps n e h =
    ap (λ (is : List ℕ). arguments_fit old (map (known p) is) (arguments_seen p (drop n ps))) (drop_all n ids (omega arith))
    ∙ rest_fits p old ps n h
    ∙ ap (λ (m : ℕ). nat_eq m (length ps)) e

-- by a test of the code
pub fits_by : (p : Program) (old : Bool) (ids : List ℕ) (ps : List PassedArgument) (n id : ℕ) (a : PassedArgument) (ts : Table) (fits known_fits : Bool) → ts ≡ p.core.now.types → fits ≡ compatible (expected old (type_at ts id)) (unqualified (type_at ts a.of)) → fits ≡ known_fits
    → slice_get ids n ≡ Some id → slice_get ps n ≡ Some a → fit_from p old ids ps n ≡ (known_fits && fit_from p old ids ps (n + 1))
fits_by p old ids ps n id a ts fits known_fits e f g h i =
    fits_at p old ids ps n id a h i ∙ ap (λ (b : Bool). b && fit_from p old ids ps (n + 1)) (same_test ∙ g)
  where
    same_test : compatible (expected old (known p id)) (unqualified (known p a.of)) ≡ fits
    same_test = rw (f, e) refl

-- ---- the arguments of main

-- with qualifiers a type isn't compatible with one that has none
some_or : (a b : ℕ) → b ≢ 0 → nat_eq (bit_or a b) 0 ≡ false
some_or a b h = let l = le_or_r a b in grind (arith, nat_tests)

pub not_compatible : (q : ℕ) (t : CType) (k : Kind) → q ≢ 0 → false ≡ compatible (qualify q t) (Plain 0 k)
not_compatible q (Plain p a) k h = rw (some_or p q h) refl
not_compatible q (Array of n) k h = refl

pub qualified_differs : (n q : ℕ) (t u : CType) (k : Kind) → n ≡ q → n ≢ 0 → u ≡ qualify q t → false ≡ compatible u (Plain 0 k)
qualified_differs n q t u k e h f = rw f (not_compatible q t k (λ z. h (e ∙ z)))

pub no_pointer : (q : ℕ) (t to : CType) → is_pointer t ≡ false → false ≡ compatible (qualify q t) (Plain 0 (Pointer to))
no_pointer q (Array of n) to h = refl
no_pointer q (Plain p (Simple b)) to h = sym (second (nat_eq (bit_or p q) 0) refl)
no_pointer q (Plain p (Pointer u)) to h = absurd (cc)
no_pointer q (Plain p (Function of ps)) to h = sym (second (nat_eq (bit_or p q) 0) refl)
no_pointer q (Plain p (Structure n)) to h = sym (second (nat_eq (bit_or p q) 0) refl)
no_pointer q (Plain p (Union n)) to h = sym (second (nat_eq (bit_or p q) 0) refl)
no_pointer q (Plain p (Enumeration n)) to h = sym (second (nat_eq (bit_or p q) 0) refl)

pub no_pointer_expected : (q : ℕ) (old : Bool) (t : CType) → is_pointer t ≡ false → false ≡ compatible (expected old (qualify q t)) argv
no_pointer_expected q old (Plain p (Pointer to)) e = absurd (cc)
no_pointer_expected q false (Array of n) e = refl
no_pointer_expected q false (Plain p (Simple b)) e = refl
no_pointer_expected q false (Plain p (Function of ps)) e = refl
no_pointer_expected q false (Plain p (Structure n)) e = refl
no_pointer_expected q false (Plain p (Union n)) e = refl
no_pointer_expected q false (Plain p (Enumeration n)) e = refl
no_pointer_expected q true (Array of n) e = refl
no_pointer_expected q true (Plain p (Simple b)) e = refl
no_pointer_expected q true (Plain p (Function of ps)) e = refl
no_pointer_expected q true (Plain p (Structure n)) e = refl
no_pointer_expected q true (Plain p (Union n)) e = refl
no_pointer_expected q true (Plain p (Enumeration n)) e = refl

pub pointer_under : (q : ℕ) (old : Bool) (t to : CType) → t ≡ Plain 0 (Pointer to) → compatible (expected old (qualify q t)) argv ≡ compatible to (pointer_to (basic Char))
pointer_under q true t to e = rw e refl
pointer_under q false t to e = rw e refl

pub bare_pointer_under : (q : ℕ) (t to : CType) → q ≡ 0 → t ≡ Plain 0 (Pointer to) → compatible (qualify q t) (pointer_to (basic Char)) ≡ compatible to (basic Char)
bare_pointer_under q t to e h = rw (e, h) refl

pub not_two : (old : Bool) (g : ℕ → CType) (ids : List ℕ) (place : Value) → length ids ≢ 2 → false ≡ arguments_fit old (map g ids) (main_arguments place)
not_two old g [] place h = refl
not_two old g (a ∷ []) place h = sym (second (compatible (expected old (g a)) int) refl)
not_two old g (a ∷ b ∷ []) place h = absurd (h refl)
not_two old g (a ∷ b ∷ c ∷ ids) place h = sym (second (compatible (expected old (g a)) int) (second (compatible (expected old (g b)) argv) refl))

-- ---- parameters are the first locals

pub first_types : {A : Type 0} (g : ℕ → A) (ids : List ℕ) (m n : ℕ) → n ≡ min (length ids) m → map g (take n ids) ≡ take m (map g ids)
first_types g ids m n e =
    let k : n ≡ min m (length ids) = omega arith in
    rw (k, take_min m ids) (sym (take-map g m ids))

pub other_types : {A : Type 0} (g : ℕ → A) (ids : List ℕ) (m n : ℕ) → n ≡ min (length ids) m → map g (drop n ids) ≡ drop m (map g ids)
other_types g ids m n e =
    let k : n ≡ min m (length ids) = omega arith in
    rw (k, drop_min m ids) (sym (drop-map g m ids))
