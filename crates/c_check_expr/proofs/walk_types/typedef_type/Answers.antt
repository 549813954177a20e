use Rattle.std.proofs.Common.{ℕ, Option, sym, ap, ◌∙◌}
use Rattle.c_meaning.specs.Typing.{named_type}
use Rattle.c_check_expr.specs.Known.{state_of}
use Rattle.c_check_expr.proofs.walk_types.typedef_type.Goals as goal

pub returns-in-Some-clause-means : goal.returns-in-Some-clause-means
returns-in-Some-clause-means c = c.symbol_type.ensures.means ∙ ap (λ (o : Option ℕ). named_type (state_of c.args.scopes.now c.args.types.now) o) (sym c.in-Some.is ∙ c.find.ensures.means)

pub returns-in-None-clause-means : goal.returns-in-None-clause-means
returns-in-None-clause-means c = rw c.basic_type.ensures.is (c.basic_type.ensures.means ∙ ap (λ (o : Option ℕ). named_type (state_of c.args.scopes.now c.args.types.now) o) (sym c.in-None.is ∙ c.find.ensures.means))
