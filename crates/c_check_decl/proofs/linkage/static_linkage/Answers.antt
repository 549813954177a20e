use Rattle.std.proofs.Common.{Bool, sym, ap, ◌∙◌}
use Rattle.std.specs.Prelude.{if◌then◌else◌}
use Rattle.c_meaning.specs.Linkage.{Alone, Internal}
use Rattle.c_check_decl.proofs.linkage.static_linkage.Goals as goal

pub returns-then-is_outside : goal.returns-then-is_outside
returns-then-is_outside c t = sym (ap (λ (b : Bool). if b then Internal else Alone) (sym (c.is_outside.ensures t) ∙ c.if-is_outside.true))

pub returns-else-is_outside : goal.returns-else-is_outside
returns-else-is_outside c t = sym (ap (λ (b : Bool). if b then Internal else Alone) (sym (c.is_outside.ensures t) ∙ c.if-is_outside.false))
