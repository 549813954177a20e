-- A member's place noted under its name.
use Rattle.std.proofs.Common.{◌≡◌, ℕ, Bool, true, false, cond, List, [], ◌∷◌, ◌++◌, refl, sym, ap, ◌∙◌, true≢false, arith}
use Rattle.std.specs.Prelude.{◌≢◌, Some, None, Option, Vec, is_some, length, nat_eq, if◌then◌else◌}
use Rattle.std.specs.Str.{bytes_eq}
use Rattle.std.specs.Map.{lookup}
use Rattle.std.proofs.lemmas.Bool.Decides.{nat_tests}
use Rattle.std.proofs.lemmas.Slice.Eq.{bytes_eq-Decides}
use Rattle.std.specs.declared.alloc.Global.{Global}
use Rattle.c_types.specs.declared.type_form.MemberPlace.{MemberPlace}
use Rattle.c_types.specs.Facts.{or_place, noted}

or_none : (k : Option MemberPlace) → k ≡ or_place k None
or_none None = refl
or_none (Some p) = refl

-- without a name nothing is noted
pub noted_nameless : (p : MemberPlace) (asked : List ℕ) (known : Option MemberPlace) → asked ≢ [] → known ≡ noted [] p asked known
noted_nameless p [] known n = absurd (n refl)
noted_nameless p (a ∷ asked) known n = or_none known

-- nor under a name that has a place
pub noted_again : (es : List (Vec ℕ Global × MemberPlace)) (name : List ℕ) (p : MemberPlace) (asked : List ℕ) → is_some (lookup (λ (k : Vec ℕ Global). bytes_eq name k.items) es) ≡ true →
    lookup (λ (k : Vec ℕ Global). bytes_eq asked k.items) es ≡ noted name p asked (lookup (λ (k : Vec ℕ Global). bytes_eq asked k.items) es)
noted_again es name p asked h = by (bytes_eq asked name) refl
  where
    place : List ℕ → Option MemberPlace
    place n = lookup (λ (k : Vec ℕ Global). bytes_eq n k.items) es

    there : (o : Option MemberPlace) → is_some o ≡ true → o ≡ or_place o (Some p)
    there None i = absurd (true≢false (sym i))
    there (Some q) i = refl

    by : (b : Bool) → bytes_eq asked name ≡ b → place asked ≡ noted name p asked (place asked)
    by true e =
        let s : asked ≡ name = (bytes_eq-Decides asked name).0 e in
        there (place asked) (ap (λ n. is_some (place n)) s ∙ h) ∙ sym (ap (λ (b : Bool). or_place (place asked) (if b then Some p else None)) e)
    by false e = or_none (place asked) ∙ sym (ap (λ (b : Bool). or_place (place asked) (if b then Some p else None)) e)

-- a name without a place gets it
pub noted_new : (es : List (Vec ℕ Global × MemberPlace)) (v : Vec ℕ Global) (name : List ℕ) (p : MemberPlace) (asked : List ℕ) → v.items ≡ name →
    lookup (λ (k : Vec ℕ Global). bytes_eq asked k.items) (es ++ (v, p) ∷ []) ≡ noted name p asked (lookup (λ (k : Vec ℕ Global). bytes_eq asked k.items) es)
noted_new [] v name p asked e = ap (λ (n : List ℕ). cond (bytes_eq asked n) (Some p) None) e
noted_new (x ∷ es) v name p asked e = by (bytes_eq asked x.0.items) (noted_new es v name p asked e)
  where
    rest : Option MemberPlace
    rest = lookup (λ (k : Vec ℕ Global). bytes_eq asked k.items) es

    more : Option MemberPlace
    more = lookup (λ (k : Vec ℕ Global). bytes_eq asked k.items) (es ++ (v, p) ∷ [])

    by : (b : Bool) → more ≡ noted name p asked rest → cond b (Some x.1) more ≡ noted name p asked (cond b (Some x.1) rest)
    by true h = refl
    by false h = h

pub no_items : (xs : List ℕ) → nat_eq (length xs) 0 ≡ true → xs ≡ []
no_items [] h = refl
no_items (x ∷ xs) h = let l : length (x ∷ xs) ≡ 0 = grind (arith, nat_tests) in absurd (omega arith)
