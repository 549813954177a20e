use Rattle.std.proofs.Common.{rules, w64, SFits, ◌≡◌, sym, ap, ◌∙◌}
use Rattle.std.proofs.Math.Facts.{to_z-of_z}
use Rattle.std.specs.Prelude.{Some}
use Rattle.c_types.specs.Table.{type_at}
use Rattle.c_meaning.specs.CoreTrees.{type_of}
use Rattle.c_meaning.specs.Scalars.{is_signed}
use Rattle.c_values.proofs.Lower.{fold_no_word, fold_none, fold_some}
use Rattle.c_values.proofs.constants.constant_value.Goals as goal

pub returns-in-Some : goal.returns-in-Some
returns-in-Some c =
    let t = c.args.types.now in
    let e = c.args.e.now in
    let g : c.scalar.result.signed ≡ is_signed (type_at t (type_of e)) = search rules in
    let fits : SFits w64 c.integer_of.result = search rules in
    ap Some (to_z-of_z {w = w64} {z = c.integer_of.result} fits)
    ∙ fold_some t e c.in-Some.n c.scalar.result.signed c.integer_of.result (sym c.is_constant.ensures ∙ c.if-is_constant.true) (sym c.word.ensures ∙ c.in-Some.is) g c.integer_of.ensures

pub returns-in-None : goal.returns-in-None
returns-in-None c = fold_no_word c.args.types.now c.args.e.now (sym c.is_constant.ensures ∙ c.if-is_constant.true) (sym c.word.ensures ∙ c.in-None.is)

pub returns-else-is_constant : goal.returns-else-is_constant
returns-else-is_constant c = fold_none c.args.types.now c.args.e.now (sym c.is_constant.ensures ∙ c.if-is_constant.false)
