use Rattle.std.proofs.Common.{ap, sym, ◌∙◌}
use Rattle.c_types.specs.CType.{CType, Char, Pointer, basic}
use Rattle.c_types.specs.Compatible.{compatible}
use Rattle.c_types.specs.Table.{type_at}
use Rattle.c_meaning.specs.Types.{pointer_to}
use Rattle.c_entries.proofs.Fits.{bare_pointer_under, no_pointer, qualified_differs}
use Rattle.c_entries.proofs.fitting.is_of_chars.Goals as goal

pub returns-then-number-ne0 : goal.returns-then-number-ne0
returns-then-number-ne0 c =
    let b = c.unqualified-base in
    let t = c.args.types.now in
    qualified_differs c.number.result b.result.1.0 (type_at t b.result.0) (type_at t c.args.id) (Pointer (basic Char)) c.number.ensures c.if-number-ne0.true b.ensures.means

pub returns-in-Some : goal.returns-in-Some
returns-in-Some c =
    let b = c.unqualified-base in
    let t = c.args.types.now in
    c.is_char.ensures
    ∙ sym (bare_pointer_under b.result.1.0 (type_at t b.result.0) (type_at t c.in-Some.to) (sym c.number.ensures ∙ c.if-number-ne0.false) c.in-Some.ensures.some)
    ∙ ap (λ (u : CType). compatible u (pointer_to (basic Char))) (sym b.ensures.means)

pub returns-in-None : goal.returns-in-None
returns-in-None c =
    let b = c.unqualified-base in
    no_pointer b.result.1.0 (type_at c.args.types.now b.result.0) (basic Char) c.in-None.ensures.none
    ∙ ap (λ (u : CType). compatible u (pointer_to (basic Char))) (sym b.ensures.means)
