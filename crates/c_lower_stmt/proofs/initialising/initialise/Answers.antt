use Rattle.std.proofs.Common.{length, refl, sym, ◌∙◌}
use Rattle.std.proofs.lemmas.Bool.{ltb-true}
use Rattle.std.proofs.lemmas.Option.{slice_get_read}
use Rattle.std.proofs.lemmas.Result.{IfOk-weaker}
use Rattle.c_types.specs.Table.{tags, type_at}
use Rattle.c_runs.specs.Places.{size_of}
use Rattle.lowering_acts.specs.Sites.{type_in}
use Rattle.lowering_steps.specs.Operands.{typed_of}
use Rattle.statement_steps.specs.Functions.{function_of}
use Rattle.c_lower_stmt.proofs.lemmas.Listing.{initialises, places_in}
use Rattle.c_lower_stmt.proofs.initialising.initialise.Goals as goal

pub returns : goal.returns
returns c =
    let f = c.args.f.now in let k = type_in f.site in let xs = f.locals.now in let n = c.args.local in let id = c.in-Some.of.now in
    let found = c.in-Some.ensures.lookup in
    IfOk-weaker c.fill_all.result _ _
    (λ u d. initialises (function_of f) k xs n id c.args.zero (typed_of c.in_ok-base.base) c.size-size.result (places_in k c.args.places.now) c.args.into.now c.zero_whole.new.into c.fill_all.new.into
    refl (slice_get_read xs (length xs) n id refl (ltb-true n (length xs) (sym found.0)) found.1)
    c.in_ok-base.ensures (c.size-size.ensures ∙ (λ i. size_of (tags (c.types.ensures i)) (type_at (c.types.ensures i) id))) c.in_ok-zero_whole.ensures d)
    c.fill_all.ensures
