-- An example: what is known in the function of the samples is sound.
use Rattle.std.proofs.Common.{◌≡◌, ℕ, zero, suc, ◌<◌, ◌≤◌, Bool, true, false, List, [], ◌∷◌, get_or, refl, subst, arith}
use Rattle.std.specs.Prelude.{◌==◌, Some, if◌then◌else◌}
use Rattle.std.specs.Str.{bytes_eq}
use Rattle.std.proofs.lemmas.Bool.Decides.{nat_tests}
use Rattle.c_types.specs.Members.{is_defined}
use Rattle.c_meaning.specs.Samples.{sample}
use Rattle.c_meaning.specs.State.{Known, nothing_known}
use Rattle.c_symbols.specs.Scoping.{symbol_named}
use Rattle.c_fits.specs.Sound.{IsNumbered, IsSound, has_elements, is_enumerator, is_of}
use Rattle.c_fits.proofs.lemmas.Lists.{some_id}

-- what holds of all these and of what is known of nothing holds wherever one looks
abbrev AllAre : (Known → Type 0) → List Known → Type 0
AllAre P [] = Unit {0}
AllAre P (x ∷ xs) = P x × AllAre P xs

everywhere : (P : Known → Type 0) (xs : List Known) → P nothing_known → AllAre P xs → (id : ℕ) → P (get_or xs id nothing_known)
everywhere P [] d h id = d
everywhere P (x ∷ xs) d h zero = h.0
everywhere P (x ∷ xs) d h (suc i) = everywhere P xs d h.1 i

-- the numbers from 5 on are yet to be given
later : (n m : ℕ) → 5 ≤ n → m < 5 → (n == m) ≡ false
later n m l k = grind (arith, nat_tests)

later_undefined : (n : ℕ) → 5 ≤ n → is_defined sample.tags n ≡ false
later_undefined n l = rw (later n 2 l (omega arith), later n 1 l (omega arith), later n 0 l (omega arith))

abbrev IsOther : ℕ → Known → Type 0
IsOther n k = is_of n k.of ≡ false

later_unmentioned : (n : ℕ) → 5 ≤ n → (id : ℕ) → IsOther n (get_or sample.symbols id nothing_known)
later_unmentioned n l =
    everywhere (IsOther n) sample.symbols refl (
      later n 0 l (omega arith),
      (
        later n 1 l (omega arith),
        (later n 2 l (omega arith), (later n 3 l (omega arith), (refl, (refl, (refl, (refl, (refl, (refl, (refl, (refl, (refl, (refl, (refl, tt))))))))))))),
      ),
    )

-- the symbols of all these names are no enumerators
abbrev AreOther : List (List ℕ × ℕ) → List Known → Type 0
AreOther [] symbols = Unit {0}
AreOther (n ∷ ns) symbols = (is_enumerator (get_or symbols n.1 nothing_known).class ≡ false) × AreOther ns symbols

named_other : (ns : List (List ℕ × ℕ)) (symbols : List Known) (name : List ℕ) (id : ℕ) → AreOther ns symbols → symbol_named ns name ≡ Some id → is_enumerator (get_or symbols id nothing_known).class ≡ false
named_other [] symbols name id h e = absurd (let none : ⊥ = cc in none)
named_other (n ∷ ns) symbols name id h e = by (bytes_eq name n.0) e (named_other ns symbols name id h.1)
  where
    by : (b : Bool) → (if b then Some n.1 else symbol_named ns name) ≡ Some id → (symbol_named ns name ≡ Some id → is_enumerator (get_or symbols id nothing_known).class ≡ false) → is_enumerator (get_or symbols id nothing_known).class ≡ false
    by true e k = subst (λ i. is_enumerator (get_or symbols i nothing_known).class ≡ false) (some_id n.1 id e) h.0
    by false e k = k e

pub sample_is_sound : IsSound sample
sample_is_sound =
    record {
      fields = refl;
      once = (refl, (refl, (refl, tt)));
      sizes = ((refl, tt), ((refl, tt), ((refl, (refl, (refl, tt))), tt)));
      arrays = everywhere (λ (k : Known). has_elements sample.tags k.of ≡ true) sample.symbols refl (refl, (refl, (refl, (refl, (refl, (refl, (refl, (refl, (refl, (refl, (refl, (refl, (refl, (refl, (refl, tt)))))))))))))));
      enumerators = everywhere IsNumbered sample.symbols tt (tt, (tt, (tt, (tt, (refl, (tt, (tt, (tt, (tt, (tt, (tt, (tt, (tt, (tt, (tt, tt)))))))))))))));
      names = (omega arith, (omega arith, tt));
      scopes = ((omega arith, (omega arith, (omega arith, (omega arith, (omega arith, (omega arith, (omega arith, (omega arith, tt)))))))), tt);
      links = (omega arith, (omega arith, (omega arith, (omega arith, (omega arith, tt)))));
      linked = λ name id e. named_other sample.links sample.symbols name id (refl, (refl, (refl, (refl, (refl, tt))))) e;
      fresh = λ n l. record { undefined = later_undefined n l; unmentioned = later_unmentioned n l };
    }
