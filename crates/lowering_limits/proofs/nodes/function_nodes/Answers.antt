use Rattle.std.proofs.Common.{◌+◌, ap, sym, ◌∙◌}
use Rattle.lowering_limits.specs.Nodes.{nodes_of}
use Rattle.lowering_limits.proofs.Seen.{function_nodes_are, if_ok_as}
use Rattle.lowering_limits.proofs.nodes.function_nodes.Goals as goal

pub returns : goal.returns
returns c = if_ok_as c.of_statement.result (λ n e t. e ∙ ap (λ m. m + nodes_of c.args.f.now.body) c.from.ensures ∙ sym (function_nodes_are t c.args.f.now)) c.of_statement.ensures
