use Rattle.std.proofs.Common.{refl, sym, ◌∙◌}
use Rattle.c_check_unit.proofs.MainPlaces.{main_end, main_here, main_next}
use Rattle.c_check_unit.proofs.whole.main_place.Goals as goal

pub loop-place-init : goal.loop-place-init
loop-place-init c = λ t. refl

pub returns-then-is_main : goal.returns-then-is_main
returns-then-is_main c = main_here c.args.functions.now c.loop-place.place c.index-functions-place.result c.number_of.result c.loop-place-test.true c.index-functions-place.is (sym c.is_main.ensures ∙ c.if-is_main.true) c.loop-place.invariant c.number_of.ensures

pub loop-place-preserved : goal.loop-place-preserved
loop-place-preserved c = λ t. main_next t c.args.functions.now c.loop-place.place c.index-functions-place.result c.loop-place-test.true c.index-functions-place.is (sym c.is_main.ensures ∙ c.if-is_main.false) ∙ c.loop-place.invariant t

pub returns : goal.returns
returns c = λ t. main_end t c.args.functions.now c.loop-place.place c.loop-place-test.false (c.loop-place.invariant t)
