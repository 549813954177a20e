use Rattle.std.proofs.Common.{sym, rules, ◌≡◌, List, ◌∷◌, ◌++◌, length, map, ap, ◌∙◌, subst}
use Rattle.std.specs.Vec.Iter.{into_iter_items}
use Rattle.c_meaning.specs.declared.core_unit.CoreFunction.{CoreFunction}
use Rattle.c_meaning.specs.Each.{EachIs}
use Rattle.c_meaning.specs.Units.{IsFunctionIn as IsPlacedIn, function_seen}
use Rattle.c_standings.specs.StandingLists.{meant}
use Rattle.c_types.specs.Table.{types}
use Rattle.c_unit_parts.specs.PartsIn.{AreFunctionsIn, IsFunctionIn, function_in}
use Rattle.c_units.specs.Wholes.{whole_functions}
use Rattle.c_check_unit.proofs.MadeLists.{each_behind, functions_end, functions_turn, locals_below}
use Rattle.c_check_unit.proofs.made.made_functions.Goals as goal

-- the next function, and those behind it
taken : {n : _} {items rest : List _} {f : _} → items ≡ f ∷ rest → AreFunctionsIn n items → IsFunctionIn n f × AreFunctionsIn n rest
taken {n = n} s h = subst (AreFunctionsIn n) s h

pub whole_function-requires-clause-of : goal.whole_function-requires-clause-of
whole_function-requires-clause-of c = (taken c.in-Some.ensures.steps.0 c.loop-f.invariant.within).0.of

pub whole_function-requires-clause-locals : goal.whole_function-requires-clause-locals
whole_function-requires-clause-locals c = locals_below _ _ (taken c.in-Some.ensures.steps.0 c.loop-f.invariant.within).0.locals

pub whole_function-requires-clause-body : goal.whole_function-requires-clause-body
whole_function-requires-clause-body c = (taken c.in-Some.ensures.steps.0 c.loop-f.invariant.within).0.body

pub loop-f-preserved : goal.loop-f-preserved
loop-f-preserved c =
    let t = c.args.types.now in
    let s = c.in-Some.ensures.steps.0 in
    record {
      is = ap (λ (l : List CoreFunction). map (function_seen (types t)) l ++ whole_functions (meant c.args.standings.now) c.args.texts.now (map (function_in t) (into_iter_items c.next.new.self))) c.in_ok-push.ensures.ok
          ∙ functions_turn t (meant c.args.standings.now) c.args.texts.now c.loop-f.list c.in_ok-function.function c.in-Some.f (into_iter_items c.next.new.self) (into_iter_items c.loop-f.f-iterator) _ s c.in_ok-function.ensures.whole c.loop-f.invariant.is;
      made =
          subst (EachIs (IsPlacedIn (length t.forms))) (sym c.in_ok-push.ensures.ok)
          (each_behind (IsPlacedIn (length t.forms)) c.loop-f.list c.in_ok-function.function c.loop-f.invariant.made (c.in_ok-function.ensures.of, (c.in_ok-function.ensures.locals, c.in_ok-function.ensures.body)));
      within = (taken s c.loop-f.invariant.within).1;
    }

pub returns-clause-is : goal.returns-clause-is
returns-clause-is c =
    let none : length (into_iter_items c.loop-f.f-iterator) ≡ 0 = search rules in
    functions_end c.args.types.now (meant c.args.standings.now) c.args.texts.now c.loop-f.list (into_iter_items c.loop-f.f-iterator) _ none c.loop-f.invariant.is
