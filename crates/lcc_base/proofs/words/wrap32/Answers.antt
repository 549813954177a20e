use Rattle.std.proofs.Common.{◌≡◌, pos, ◌^◌, ap, ◌∙◌, rules}
use Rattle.std.specs.Int.{int_wrap, int_rem_euclid, cast_signed, w32, w64}
use Rattle.std.specs.Int.RustNames.{FitsSigned, unsigned_abs}
use Rattle.std.proofs.lemmas.Int.{to_z-of_z}
use Rattle.lcc_base.proofs.words.wrap32.Goals as goal

pub returns-clause-wrapped : goal.returns-clause-wrapped
unfolding int_wrap
returns-clause-wrapped c =
    let rest = c.rem_euclid.result in
    let wide : FitsSigned w64 rest = search rules in
    let narrow : FitsSigned w32 c.cast_signed.result = search rules in
    let remainder : rest ≡ int_rem_euclid c.args.n (pos (2 ^ 32)) = c.rem_euclid.ensures.value ∙ ap (λ z. int_rem_euclid z (pos (2 ^ 32))) (to_z-of_z w64 c.args.n c.ranges.n) in
    to_z-of_z w32 c.cast_signed.result narrow ∙ c.cast_signed.ensures ∙ ap (λ z. cast_signed w32 (unsigned_abs z)) (to_z-of_z w64 rest wide ∙ remainder)
