use Rattle.std.proofs.Common.{drop}
use Rattle.c_worlds.specs.Programs.{unit_of}
use Rattle.c_lower_unit.proofs.lemmas.Adding.{Left, functions_in}
use Rattle.c_lower_unit.proofs.functions.lower_functions.Given as goal

abbrev pub invariant-loop-f : goal.invariant-loop-f
invariant-loop-f l = Left (unit_of l.program) l.program.order l.fn.objects (functions_in l.program (drop l.f-index l.functions)) l.into
