use Rattle.std.proofs.Common.{drop}
use Rattle.lowering_acts.specs.Sites.{type_in}
use Rattle.lowering_steps.specs.Operands.{typed_of}
use Rattle.statement_steps.specs.Functions.{function_of}
use Rattle.c_lower_stmt.proofs.lemmas.Listing.{FillsLeft, places_in}
use Rattle.c_lower_stmt.proofs.initialising.fill_all.Given as goal

abbrev pub invariant-loop-place : goal.invariant-loop-place
invariant-loop-place l = FillsLeft (function_of l.f) (typed_of l.base) (places_in (type_in l.f.site) l.places) l.fn.into (places_in (type_in l.f.site) (drop l.place-index l.places)) l.into
