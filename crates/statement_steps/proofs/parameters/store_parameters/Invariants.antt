use Rattle.std.proofs.Common.{drop, map}
use Rattle.lowering_acts.specs.Sites.{type_in}
use Rattle.statement_steps.specs.Functions.{function_of}
use Rattle.statement_steps.proofs.lemmas.Storing.{StoresLeft}
use Rattle.statement_steps.proofs.parameters.store_parameters.Given as goal

abbrev pub invariant-loop-of : goal.invariant-loop-of
invariant-loop-of l =
    StoresLeft (function_of l.f) l.first (map (type_in l.f.site) l.parameters) l.fn.block l.place l.word (map (type_in l.f.site) (drop l.of-index l.parameters)) l.block
