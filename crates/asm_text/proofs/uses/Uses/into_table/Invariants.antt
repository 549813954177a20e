use Rattle.std.proofs.Common.{◌≡◌, ◌++◌, map}
use Rattle.asm_text.specs.Uses.{used_names}
use Rattle.asm_text.proofs.uses.Uses.into_table.Given as goal

abbrev pub invariant-loop-name : goal.invariant-loop-name
invariant-loop-name l = l.names ++ map (λ k. k.now) l.name-iterator ≡ used_names l.fn.self
