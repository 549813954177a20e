-- Names that are lowered, and one that isn't.
use Rattle.std.specs.Prelude.{◌≡◌, ℕ, codes, List, [], ◌∷◌, ◌++◌}
use Rattle.std.proofs.Common.{true≢false, ⊎_elim, inl, inr, refl, ap, ◌∙◌}
use Rattle.lcc_text.specs.declared.class.Class.TheVariants.{Digit}
use Rattle.lcc_text.specs.Classes.{in_class}
use Rattle.lowered_names.specs.UnitNames.{IsIdentifier, IsNameOf}

main_stays : IsNameOf (codes "main") (codes "main")
main_stays = inl ((refl, (refl, (refl, (refl, (refl, tt))))), refl)

-- a static object of a block, even one whose name with its number would be a label
label_is_none : IsNameOf (codes "L.3") (codes "L.s3")
label_is_none = inr (record { front = codes "L"; digits = codes "3"; identifier = (refl, (refl, tt)); each = (refl, tt); is = refl; becomes = refl })

-- no name begins with a digit
digit_first : (b : ℕ) (front rest : List ℕ) → IsIdentifier (b ∷ front) → 51 ∷ codes "x" ≡ b ∷ (front ++ rest) → ⊥
digit_first b front rest h e = let q : 51 ≡ b = cc in true≢false (ap (in_class Digit) q ∙ h.0)

static_first : (front digits : List ℕ) → IsIdentifier front → codes "3x" ≡ front ++ (codes "." ++ digits) → ⊥
static_first [] digits h e = absurd h
static_first (b ∷ front) digits h e = digit_first b front (codes "." ++ digits) h e

digits_begin_none : (lowered : List ℕ) → IsNameOf (codes "3x") lowered → ⊥
digits_begin_none lowered h = ⊎_elim (λ a. true≢false a.0.0) (λ a. static_first a.front a.digits a.identifier a.is) h
