use Rattle.std.proofs.Common.{drop}
use Rattle.std.proofs.lemmas.List.{drop_all}
use Rattle.lowering_acts.specs.Sites.{type_in}
use Rattle.lowering_steps.specs.Operands.{typed_of}
use Rattle.statement_steps.specs.Functions.{function_of}
use Rattle.c_lower_stmt.proofs.lemmas.Listing.{fills_begin, fills_end, fills_go_on, places_in}
use Rattle.c_lower_stmt.proofs.initialising.fill_all.Goals as goal

pub loop-place-init : goal.loop-place-init
loop-place-init c = fills_begin (function_of c.args.f.now) (typed_of c.args.base) (places_in (type_in c.args.f.now.site) c.args.places.now) c.args.into.now

pub loop-place-preserved : goal.loop-place-preserved
loop-place-preserved c =
    let f = c.args.f.now in let k = type_in f.site in
    fills_go_on (function_of f) (typed_of c.args.base) k (places_in k c.args.places.now) c.args.places.now c.loop-place.place-index c.place-item.result c.args.into.now c.loop-place.into c.fill.new.into c.loop-place-test.true c.place-item.is c.loop-place.invariant c.in_ok-fill.ensures

pub returns : goal.returns
returns c =
    let f = c.args.f.now in let k = type_in f.site in
    fills_end (function_of f) (typed_of c.args.base) k (places_in k c.args.places.now) (drop c.loop-place.place-index c.args.places.now) c.args.into.now c.loop-place.into (drop_all c.loop-place.place-index c.args.places.now c.loop-place-test.false) c.loop-place.invariant
