use Rattle.c_types.specs.CType.{Char, Simple}
use Rattle.c_types.specs.Table.{type_at}
use Rattle.c_entries.proofs.Fits.{qualified_differs}
use Rattle.c_entries.proofs.fitting.is_char.Goals as goal

pub returns-then-number-ne0 : goal.returns-then-number-ne0
returns-then-number-ne0 c =
    let b = c.unqualified-base in
    let t = c.args.types.now in
    qualified_differs c.number.result b.result.1.0 (type_at t b.result.0) (type_at t c.args.id) (Simple Char) c.number.ensures c.if-number-ne0.true b.ensures.means
