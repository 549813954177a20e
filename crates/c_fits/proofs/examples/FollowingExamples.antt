-- Examples: what is known behind a part follows what was known before it where a structure came in between, and not where a parameter
-- did, which extends it.
use Rattle.std.proofs.Common.{◌≡◌, ℕ, [], length, refl, ap}
use Rattle.std.specs.Prelude.{codes, Option, Some, None}
use Rattle.c_types.specs.CType.{Char, Int, CType, basic}
use Rattle.c_meaning.specs.Samples.{int, sample}
use Rattle.c_meaning.specs.State.{Known, State, counted}
use Rattle.c_meaning.specs.TypeRows.{parameter_known, with_parameter}
use Rattle.c_fits.specs.Sound.{Extends, Follows, StaysLocal}
use Rattle.c_fits.proofs.lemmas.Following.{counted_follows}
use Rattle.c_fits.proofs.lemmas.Types.{parameter_extends}
use Rattle.c_fits.proofs.examples.SoundExamples.{sample_is_sound}

structure_came : Follows sample (counted sample)
structure_came = counted_follows sample sample_is_sound

abbrev with_p : State
with_p = with_parameter sample 1 0 [] (Some (codes "p")) int

parameter_extends_it : Extends sample with_p
parameter_extends_it = parameter_extends sample 1 0 [] (Some (codes "p")) int sample_is_sound (λ n u. refl) refl

no_parameter : Follows sample with_p → ⊥
no_parameter f = let e : ◌≡◌ {A = Option ℕ} None (Some (length sample.symbols)) = f.before (codes "p") (length sample.symbols) refl refl in absurd (let none : ⊥ = cc in none)

-- a parameter of this type
abbrev of_type : CType → Known
of_type t = parameter_known sample 1 0 [] t

same_type : StaysLocal (of_type int) (of_type int)
same_type e = refl

other_type : StaysLocal (of_type (basic Int)) (of_type (basic Char)) → ⊥
other_type h = let e : basic Char ≡ basic Int = ap (λ (k : Known). k.of) (h refl) in absurd (let none : ⊥ = cc in none)
