use Rattle.std.proofs.Common.{sym, ap, ◌∙◌}
use Rattle.c_types.specs.Table.{type_at}
use Rattle.c_meaning.specs.Constants.{is_plain_void_pointer}
use Rattle.c_values.proofs.Lower.{void_pointer_under}
use Rattle.c_values.proofs.nulls.is_plain_void_pointer.Goals as goal

pub returns-then-number-ne0 : goal.returns-then-number-ne0
returns-then-number-ne0 c =
    let b = c.unqualified-base in
    void_pointer_under b.result.1.0 (type_at c.args.types.now b.result.0) (λ e. c.if-number-ne0.true (c.number.ensures ∙ e)) ∙ ap is_plain_void_pointer (sym b.ensures.means)
