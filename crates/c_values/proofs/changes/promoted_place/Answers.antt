use Rattle.std.proofs.Common.{◌≡◌, false, sym, ap, ◌∙◌, arith}
use Rattle.std.specs.Prelude.{true}
use Rattle.std.proofs.lemmas.Bool.Decides.{nat_tests}
use Rattle.c_types.specs.Conversions.{is_integer, promoted}
use Rattle.c_types.specs.Table.{type_at}
use Rattle.c_meaning.specs.CoreTrees.{seen, type_of}
use Rattle.c_meaning.specs.Values.{is_narrow, width_of}
use Rattle.c_values.proofs.Changing.{place_wide}
use Rattle.c_values.specs.Stays.{type_seen}
use Rattle.c_values.proofs.changes.promoted_place.Goals as goal
use Rattle.c_values.proofs.changes.promoted_place.Goals.{else-width-gt0-via-then-width-gt0+else-width-lt32, else-width-gt0-via-else-width-gt0}

pub returns-else-width-gt0-clause-means : goal.returns-else-width-gt0-clause-means
returns-else-width-gt0-clause-means c =
    let t = c.args.types.now in
    let a = seen (type_at t) c.args.a.now in
    let e : type_of a ≡ type_at t (type_of c.args.a.now) = type_seen (type_at t) c.args.a.now in
    let i : is_integer (type_of a) ≡ true = ap is_integer e ∙ c.requires.integer in
    let n : is_narrow c.width-width.result ≡ false = elim c.else-width-gt0.branch [
      | else-width-gt0-via-then-width-gt0+else-width-lt32 w ↦ grind (arith, nat_tests)
      | else-width-gt0-via-else-width-gt0 w ↦ grind (arith, nat_tests)
    ] in
    let m : is_narrow (width_of a) ≡ false = ap is_narrow (sym (c.width-width.ensures t)) ∙ n in
    ap (type_at t) c.basic_type-else-width-gt0.ensures.is ∙ c.promote-promoted.ensures.means ∙ ap (λ z. promoted (type_at t (type_of z))) c.a.view_is ∙ ap promoted (sym e) ∙ sym (place_wide a c.requires.place i m)
