use Rattle.std.proofs.Common.{ℕ, List, subst, ◌∙◌}
use Rattle.std.specs.Prelude.{Contains, IfSome}
use Rattle.c_types.proofs.Pairs.{Pair, found_entry}
use Rattle.c_types.proofs.notes.Composites.get.Goals as goal

pub returns : goal.returns
returns c =
    subst (λ (es : List (Pair × ℕ)). IfSome c.copied.result (λ id. Contains es ((c.args.a, c.args.b), id))) c.self.view_is
    (found_entry c.self.inside.made.entries (c.args.a, c.args.b) c.copied.result (c.copied.ensures ∙ c.get.ensures.value))
