use Rattle.std.proofs.Common.{ℕ, ◌≤◌, ◌++◌, List, drop, length, map, sym, subst, ap, ◌∙◌, arith}
use Rattle.std.proofs.lemmas.List.{append-nil, at_drop_all}
use Rattle.c_symbols.specs.Scoping.{AreBelow}
use Rattle.c_values.specs.Stays.{grows_on}
use Rattle.c_check_decl.specs.Declares.{defined_in}
use Rattle.c_check_expr.specs.Kept.{below_later}
use Rattle.c_check_expr.specs.Known.{state_of}
use Rattle.c_units.specs.Ends.{open_fault, tentative, tentative_objects}
use Rattle.c_unit_ends.proofs.AtPlaces.{name_below, symbol_in}
use Rattle.c_unit_ends.proofs.FaultsTold.{told_on, told_same}
use Rattle.c_unit_ends.proofs.TentativeNames.{added_here, no_object_here, objects_later, one_object, passes_here, told_here}
use Rattle.c_unit_ends.proofs.tentative.add_tentative.Goals as goal

pub symbol-symbol-requires : goal.symbol-symbol-requires
symbol-symbol-requires c =
    let n = length c.args.scopes.now.symbols in
    name_below n c.links-links.result.now c.loop-place.place _ (subst (AreBelow n) (sym c.links-links.ensures) c.names_are_declared.ensures.links) c.entry-id.ensures

pub defined-requires : goal.defined-requires
defined-requires c =
    below_later c.args.types.now c.loop-place.types c.loop-place.invariant.grows.extends c.symbol-symbol.result.now.of
    (symbol_in (length c.args.types.now.forms) c.args.scopes.now.symbols c.entry-id.result.1 c.symbol-symbol.result.now c.requires.symbols c.symbol-symbol.ensures)

pub returns-in_err-object-clause-told : goal.returns-in_err-object-clause-told
returns-in_err-object-clause-told c =
    let sc = c.args.scopes.now in
    let s = state_of sc c.args.types.now in
    let ns = c.links-links.result.now in
    let i = c.loop-place.place in
    let f = c.in_err-object.field-0.0 in
    told_on c.from_residual.result f (open_fault s (tentative s sc.links)) c.from_residual.ensures.1
    (told_same f (open_fault s (tentative s (drop i ns))) (open_fault s (tentative s sc.links)) (ap (λ ms. open_fault s (tentative s ms)) (sym c.links-links.ensures) ∙ sym c.loop-place.invariant.told)
    (told_here sc c.args.types.now c.loop-place.types c.loop-place.invariant.grows ns i (c.entry-id.result.0.now, c.entry-id.result.1) c.symbol-symbol.result.now c.entry-id.ensures c.symbol-symbol.ensures c.requires.symbols (sym c.if-not-is_tentative.ensures) f c.in_err-object.ensures.told))

pub loop-place-preserved-then-not-is_tentative : goal.loop-place-preserved-then-not-is_tentative
loop-place-preserved-then-not-is_tentative c =
    let sc = c.args.scopes.now in
    let s = state_of sc c.args.types.now in
    let b = c.loop-place.types in
    let ns = c.links-links.result.now in
    let i = c.loop-place.place in
    let same = no_object_here sc c.args.types.now b c.loop-place.invariant.grows ns i (c.entry-id.result.0.now, c.entry-id.result.1) c.symbol-symbol.result.now c.entry-id.ensures c.symbol-symbol.ensures c.requires.symbols (sym c.if-not-is_tentative.ensures) in
    record {
      is = ap (λ xs. map (defined_in b) c.loop-place.objects ++ tentative_objects s xs) (sym same) ∙ c.loop-place.invariant.is;
      told = ap (open_fault s) (sym same) ∙ c.loop-place.invariant.told;
      within = c.loop-place.invariant.within;
      grows = c.loop-place.invariant.grows;
    }

pub loop-place-preserved : goal.loop-place-preserved
loop-place-preserved c =
    let sc = c.args.scopes.now in
    let a = c.args.types.now in
    let s = state_of sc a in
    let b = c.loop-place.types in
    let d = c.defined.new.types in
    let ns = c.links-links.result.now in
    let i = c.loop-place.place in
    let n : List ℕ × ℕ = (c.entry-id.result.0.now, c.entry-id.result.1) in
    let y = c.symbol-symbol.result.now in
    let made = c.in_ok-object.ensures in
    let h = sym c.if-not-is_tentative.ensures in
    record {
      is = added_here sc a b c.loop-place.invariant.grows ns i n y c.entry-id.ensures c.symbol-symbol.ensures c.requires.symbols h d c.loop-place.objects c.push.new.self c.in_ok-object.object made.grows.extends c.loop-place.invariant.within c.in_ok-push.ensures.ok made.is ∙ c.loop-place.invariant.is;
      told = passes_here sc a b c.loop-place.invariant.grows ns i n y c.entry-id.ensures c.symbol-symbol.ensures c.requires.symbols h made.size ∙ c.loop-place.invariant.told;
      within = one_object (length d.forms) c.loop-place.objects c.push.new.self c.in_ok-object.object c.in_ok-push.ensures.ok (objects_later b d made.grows.extends c.loop-place.objects c.loop-place.invariant.within) made.within;
      grows = grows_on a b d c.loop-place.invariant.grows made.grows;
    }

pub returns-clause-is : goal.returns-clause-is
returns-clause-is c =
    let sc = c.args.scopes.now in
    let s = state_of sc c.args.types.now in
    let ns = c.links-links.result.now in
    let l : length ns ≤ c.loop-place.place = omega (arith, c.loop-place-test.false, c.len-place-end.ensures) in
    let xs = map (defined_in c.loop-place.types) c.loop-place.objects in
    sym (append-nil xs) ∙ sym (at_drop_all (λ (zs : List (List ℕ × ℕ)). xs ++ tentative_objects s (tentative s zs)) ns c.loop-place.place l) ∙ c.loop-place.invariant.is
    ∙ ap (λ ms. map (defined_in c.args.types.now) c.args.objects.now ++ tentative_objects s (tentative s ms)) c.links-links.ensures

pub returns-clause-sound : goal.returns-clause-sound
returns-clause-sound c =
    let sc = c.args.scopes.now in
    let s = state_of sc c.args.types.now in
    let ns = c.links-links.result.now in
    let l : length ns ≤ c.loop-place.place = omega (arith, c.loop-place-test.false, c.len-place-end.ensures) in
    ap (λ ms. open_fault s (tentative s ms)) (sym c.links-links.ensures) ∙ sym c.loop-place.invariant.told ∙ at_drop_all (λ (zs : List (List ℕ × ℕ)). open_fault s (tentative s zs)) ns c.loop-place.place l
