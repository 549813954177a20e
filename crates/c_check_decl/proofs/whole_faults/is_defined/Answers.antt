use Rattle.std.proofs.Common.{pos, refl, sym, ap, ◌∙◌, rules, arith}
use Rattle.std.specs.Prelude.{None, Some}
use Rattle.std.proofs.lemmas.Int.{to_z-of_z}
use lib.Signed.{lt_z}
use mir.Syntax.{w64}
use mir.Val.{SFits}
use Rattle.c_types.specs.Table.{types}
use Rattle.c_meaning.specs.State.{nothing_known}
use Rattle.c_check_expr.specs.Known.{known_of, state_of}
use Rattle.c_check_expr.proofs.lemmas.KnownSymbols.{known_nowhere, known_there}
use Rattle.c_check_decl.proofs.NameTests.{above_zero, defined_told}
use Rattle.c_check_decl.proofs.whole_faults.is_defined.Goals as goal

pub returns-in-Some-value : goal.returns-in-Some-value
returns-in-Some-value c t =
    let s = c.args.scopes.now in
    let n = c.in-Some-value.n in
    let y = c.symbol.result.now in
    let f : SFits w64 n = search rules in
    ap (lt_z (pos 0)) (to_z-of_z w64 n f) ∙ above_zero n
    ∙ sym (defined_told (state_of s t) c.args.id c.in-Some.id (known_of (types t) y) (Some n) c.in-Some.is (known_there (types t) s.symbols c.in-Some.id y c.symbol.ensures) c.in-Some-value.is)

pub returns-in-None : goal.returns-in-None
returns-in-None c t =
    let s = c.args.scopes.now in
    let y = c.symbol.result.now in
    sym (defined_told (state_of s t) c.args.id c.in-Some.id (known_of (types t) y) None c.in-Some.is (known_there (types t) s.symbols c.in-Some.id y c.symbol.ensures) c.in-None.is)

pub returns-in_default : goal.returns-in_default
returns-in_default c t =
    let s = c.args.scopes.now in
    sym (defined_told (state_of s t) c.args.id c.in-Some.id nothing_known None c.in-Some.is (known_nowhere (types t) s.symbols c.in-Some.id (omega arith)) refl)
