use Rattle.std.proofs.Common.{◌≡◌, ℕ, ◌+◌, ◌*◌, ◌<◌, ◌≤◌, ◌++◌, ◌∷◌, [], true, List, length, drop, get_or, refl, sym, ap, ◌∙◌, subst, arith}
use Rattle.std.proofs.lemmas.Result.{IfOk-weaker}
use Rattle.std.specs.Prelude.{None, Option}
use Rattle.c_types.specs.declared.type_form.TypeForm.TheVariants as form
use Rattle.c_types.specs.CType.{CType, Parameters, Plain, Pointer, Function, qualify, unqualified, weight, parameters_weight}
use Rattle.c_types.specs.Compatible.{compatible}
use Rattle.c_types.specs.Composite.{all_composite, composite, parameters_composite}
use Rattle.c_types.specs.Facts.{first_compatible, first_composite, function_of, items_of}
use Rattle.c_types.specs.Table.{AreBelow, form_refusal, parameters_in, type_at, type_in, types, types_in}
use Rattle.c_types.proofs.Alike.{weight_among, weight_bare, weight_qualify, weight_under}
use Rattle.c_types.proofs.Below.{below_at}
use Rattle.c_types.proofs.Composed.{all_composed, below_drop, below_push, grows_itself, grows_twice, joined, longer, made_among, more_weight, one_composed, one_made, pointers_composed, results_composed, same_parameters, same_types, still_below, still_made, still_some_below, under_kinds, under_same}
use Rattle.c_types.proofs.Limits.{array_fits, elements_alike, first_alike, function_fits, kinds_alike, lists_alike, lists_stay, none_alike, one_alike, pointer_fits, pointers_alike, results_alike, under_alike}
use Rattle.c_types.proofs.type_table.TypeTable.+composite.Goals as goal

-- ---- all of the parameters

pub all_composite-parameter_composite-requires : goal.all_composite-parameter_composite-requires
all_composite-parameter_composite-requires t c =
    let T = c.args.self.now in
    let L = c.loop-i.self in
    let g = c.loop-i.invariant.grows in
    let a = c.args.a.now in
    let x = get_or a c.loop-i.i 0 in
    let l : x < length T.forms = below_at (length T.forms) a c.loop-i.i 0 c.requires.a c.loop-i-test.true in
    let w = weight_among (types T) a c.loop-i.i 0 c.loop-i-test.true in
    let e : weight (type_at L x) ≡ weight (unqualified (type_in (types T) x)) = ap weight (g.extends.types_stay x l) ∙ sym (weight_bare (type_at T x)) in
    let d = c.decreases in
    let f : 7 * weight (type_at L x) + 4 < t = omega (arith, w, e, d) in
    let m = longer T L g in
    let b = c.args.b.now in
    let k : first_compatible (unqualified (type_at L x)) (types_in (types L) (drop c.loop-i.i b)) ≡ true =
    ap (λ (s : CType). first_compatible (unqualified s) (types_in (types L) (drop c.loop-i.i b))) (g.extends.types_stay x l)
    ∙ ap (first_compatible (unqualified (type_at T x))) (same_types T L g (drop c.loop-i.i b) (below_drop (length T.forms) b c.loop-i.i c.requires.b))
    ∙ one_alike (types T) a b c.loop-i.i 0 c.loop-i-test.true c.requires.compatible in
    (f, (omega (arith, l, m), (still_below T L g b c.requires.b, (k, c.loop-i.invariant.made))))

pub all_composite-returns-in_err-id-clause-grows : goal.all_composite-returns-in_err-id-clause-grows
all_composite-returns-in_err-id-clause-grows t c = grows_twice c.args.self.now c.loop-i.self c.parameter_composite.new.self c.loop-i.invariant.grows c.parameter_composite.ensures.grows

pub all_composite-returns-in_err-push-clause-grows : goal.all_composite-returns-in_err-push-clause-grows
all_composite-returns-in_err-push-clause-grows t c = grows_twice c.args.self.now c.loop-i.self c.parameter_composite.new.self c.loop-i.invariant.grows c.parameter_composite.ensures.grows

pub all_composite-loop-i-preserved : goal.all_composite-loop-i-preserved
all_composite-loop-i-preserved t c =
    let T = c.args.self.now in
    let L = c.loop-i.self in
    let N = c.parameter_composite.new.self in
    let v = c.loop-i.invariant in
    let g = c.parameter_composite.ensures.grows in
    let a = c.args.a.now in
    let b = c.args.b.now in
    let i = c.loop-i.i in
    let x = get_or a i 0 in
    let ids = c.loop-i.ids.items in
    let id = c.in_ok-id.id in
    let l : x < length T.forms = below_at (length T.forms) a i 0 c.requires.a c.loop-i-test.true in
    let m : unqualified (type_at N id) ≡ first_composite (unqualified (type_at T x)) (types_in (types T) (drop i b)) =
    c.in_ok-id.ensures.means ∙ ap (λ (s : CType). first_composite (unqualified s) (types_in (types L) (drop i b))) (v.grows.extends.types_stay x l)
    ∙ ap (first_composite (unqualified (type_at T x))) (same_types T L v.grows (drop i b) (below_drop (length T.forms) b i c.requires.b)) in
    let p : c.push.new.self.items ≡ ids ++ id ∷ [] = c.in_ok-push.ensures.items in
    record {
      grows = grows_twice T L N v.grows g;
      made = c.parameter_composite.ensures.made;
      below = subst (AreBelow (length N.forms)) (sym p) (below_push (length N.forms) ids id (still_below L N g ids v.below) c.in_ok-id.ensures.within);
      means = subst (λ (xs : List ℕ). joined (types_in (types N) xs) (all_composite (types_in (types T) (drop (i + 1) a)) (types_in (types T) (drop (i + 1) b))) ≡ all_composite (types_in (types T) a) (types_in (types T) b)) (sym p)
          (one_composed T L N a b ids i 0 id g v.below c.loop-i-test.true m v.means);
    }

pub all_composite-returns-clause-means : goal.all_composite-returns-clause-means
all_composite-returns-clause-means t c =
    let l : length c.args.a.now ≤ c.loop-i.i = (let f = c.loop-i-test.false in omega arith) in
    all_composed c.args.self.now c.loop-i.self c.args.a.now c.args.b.now c.loop-i.ids.items c.loop-i.i l c.loop-i.invariant.means

-- ---- two types under qualifiers

pub composite_under-returns-then-x-y-clause-means : goal.composite_under-returns-then-x-y-clause-means
composite_under-returns-then-x-y-clause-means t c =
    let T = c.args.self.now in
    let x = c.under-x.result in
    let y = c.under-y.result in
    let k = under_same c.args.a.1.0 c.args.b.1.0 x.1.0 y.1.0 (type_at T c.args.a.0) (type_at T c.args.b.0) (type_at T x.0) (type_at T y.0) c.under-x.ensures.means c.under-y.ensures.means (ap (type_at T) c.if-x-y.true) in
    IfOk-weaker c.qualified.result _ _ (λ id h. h ∙ k) c.qualified.ensures.means

pub composite_under-composite_under-requires : goal.composite_under-composite_under-requires
composite_under-composite_under-requires t c =
    let T = c.args.self.now in
    let x = c.under-x.result in
    let e = weight_under c.args.a.1.0 x.1.0 (type_at T c.args.a.0) (type_at T x.0) c.under-x.ensures.means in
    let f : weight (type_at T x.0) ≡ 1 + weight (type_at T c.in-Some.of) = ap weight c.in-Some.ensures.some in
    let d = c.decreases in
    let g : 7 * weight (type_at T c.in-Some.of) + 3 < t = omega (arith, e, f, d) in
    let y = c.under-y.result in
    let h = under_alike c.args.a.1.0 c.args.b.1.0 x.1.0 y.1.0 (type_at T c.args.a.0) (type_at T c.args.b.0) (type_at T x.0) (type_at T y.0) c.under-x.ensures.means c.under-y.ensures.means c.requires.compatible in
    let k = elements_alike x.1.0 y.1.0 (type_at T x.0) (type_at T y.0) (type_at T c.in-Some.of) (type_at T c.in-Some-array_of.other) c.in-Some.length c.in-Some-array_of.count c.in-Some.ensures.some c.in-Some-array_of.ensures.some h in
    (g, (c.in-Some.ensures.place, (c.in-Some-array_of.ensures.place, (k, c.requires.made))))

pub composite_under-array_place-requires-clause-accepted : goal.composite_under-array_place-requires-clause-accepted
composite_under-array_place-requires-clause-accepted t c =
    let T = c.args.self.now in
    let M = c.composite_under.new.self in
    let x = c.under-x.result in
    let y = c.under-y.result in
    let id = c.in_ok-of-in-Some-array_of.of in
    let h = under_alike c.args.a.1.0 c.args.b.1.0 x.1.0 y.1.0 (type_at T c.args.a.0) (type_at T c.args.b.0) (type_at T x.0) (type_at T y.0) c.under-x.ensures.means c.under-y.ensures.means c.requires.compatible in
    subst (λ (n : Option ℕ). form_refusal M (form.Array id n) ≡ None) (sym c.known_length.ensures)
    (array_fits T M c.composite_under.ensures.grows x.1.0 y.1.0 (type_at T x.0) (type_at T y.0) (type_at T c.in-Some.of) (type_at T c.in-Some-array_of.other) c.in-Some.length c.in-Some-array_of.count id
    c.in-Some.ensures.some c.in-Some-array_of.ensures.some c.under-x.ensures.limits c.under-y.ensures.limits h c.in_ok-of-in-Some-array_of.ensures.means)

pub composite_under-noted_composite-requires : goal.composite_under-noted_composite-requires
composite_under-noted_composite-requires t c =
    let T = c.args.self.now in
    let x = c.under-x.result in
    let e = weight_under c.args.a.1.0 x.1.0 (type_at T c.args.a.0) (type_at T x.0) c.under-x.ensures.means in
    let d = c.decreases in
    let g : 7 * weight (type_at T x.0) + 2 < t = omega (arith, e, d) in
    let y = c.under-y.result in
    let k = kinds_alike x.1.0 y.1.0 (type_at T x.0) (type_at T y.0) c.in-None.ensures.none (under_alike c.args.a.1.0 c.args.b.1.0 x.1.0 y.1.0 (type_at T c.args.a.0) (type_at T c.args.b.0) (type_at T x.0) (type_at T y.0) c.under-x.ensures.means c.under-y.ensures.means c.requires.compatible) in
    (g, (c.under-x.ensures.within, (c.under-y.ensures.within, (c.under-x.ensures.form, (c.under-y.ensures.form, (c.in-None.ensures.none, (k, (c.under-x.ensures.limits.shallow, (c.under-y.ensures.limits.shallow, c.requires.made)))))))))

pub composite_under-returns-in_ok-of-in-Some-array_of-clause-grows : goal.composite_under-returns-in_ok-of-in-Some-array_of-clause-grows
composite_under-returns-in_ok-of-in-Some-array_of-clause-grows t c = grows_twice c.args.self.now c.composite_under.new.self c.array_place.new.self c.composite_under.ensures.grows c.array_place.ensures.grows

pub composite_under-returns-in_ok-id-in-None-clause-means : goal.composite_under-returns-in_ok-id-in-None-clause-means
composite_under-returns-in_ok-id-in-None-clause-means t c =
    let T = c.args.self.now in
    let x = c.under-x.result in
    let y = c.under-y.result in
    let k = ap (qualify x.1.0) c.in_ok-id-in-None.ensures.means ∙ under_kinds c.args.a.1.0 c.args.b.1.0 x.1.0 y.1.0 (type_at T c.args.a.0) (type_at T c.args.b.0) (type_at T x.0) (type_at T y.0) c.under-x.ensures.means c.under-y.ensures.means c.in-None.ensures.none in
    IfOk-weaker c.qualified-in-None.result _ _ (λ id h. h ∙ k) c.qualified-in-None.ensures.means

pub composite_under-returns-in_ok-id-in-None-clause-grows : goal.composite_under-returns-in_ok-id-in-None-clause-grows
composite_under-returns-in_ok-id-in-None-clause-grows t c = grows_twice c.args.self.now c.noted_composite.new.self c.qualified-in-None.new.self c.noted_composite.ensures.grows c.qualified-in-None.ensures.grows

pub composite_under-returns-then-x-y-clause-made : goal.composite_under-returns-then-x-y-clause-made
composite_under-returns-then-x-y-clause-made t c = still_made c.args.self.now c.qualified.new.self c.qualified.ensures.grows c.args.made.now c.requires.made

pub composite_under-returns-in_ok-of-in-Some-array_of-clause-made : goal.composite_under-returns-in_ok-of-in-Some-array_of-clause-made
composite_under-returns-in_ok-of-in-Some-array_of-clause-made t c = still_made c.composite_under.new.self c.array_place.new.self c.array_place.ensures.grows c.composite_under.new.made c.composite_under.ensures.made

pub composite_under-returns-in_ok-id-in-None-clause-made : goal.composite_under-returns-in_ok-id-in-None-clause-made
composite_under-returns-in_ok-id-in-None-clause-made t c = still_made c.noted_composite.new.self c.qualified-in-None.new.self c.qualified-in-None.ensures.grows c.noted_composite.new.made c.noted_composite.ensures.made

-- ---- a composite that may be noted

pub noted_composite-returns-in-Some : goal.noted_composite-returns-in-Some
noted_composite-returns-in-Some t c =
    let m = made_among c.args.self.now c.args.made.now c.args.x c.args.y c.in-Some.id c.requires.made c.in-Some.ensures in
    record { means = m.means; within = m.within; grows = grows_itself c.args.self.now; made = c.requires.made }

pub noted_composite-returns-in_ok-id-in-None-clause-made : goal.noted_composite-returns-in_ok-id-in-None-clause-made
noted_composite-returns-in_ok-id-in-None-clause-made t c =
    one_made c.args.self.now c.kinds_composite.new.self c.kinds_composite.ensures.grows c.kinds_composite.new.made c.note.new.self c.args.x c.args.y c.in_ok-id-in-None.id c.kinds_composite.ensures.made c.requires.x c.requires.y c.in_ok-id-in-None.ensures.within c.in_ok-id-in-None.ensures.means c.note.ensures

-- ---- two functions

pub functions_composite-composite_under-requires : goal.functions_composite-composite_under-requires
functions_composite-composite_under-requires t c =
    let T = c.args.self.now in
    let a = c.args.a in
    let b = c.args.b in
    let f : weight (function_of T a) ≡ 1 + (weight (type_at T a.result) + parameters_weight (parameters_in (types T) (items_of a.parameters) a.more)) = refl in
    let d = c.decreases in
    let g : 7 * weight (type_at T a.result) + 3 < t = omega (arith, f, d) in
    let k = none_alike c.none.result.0 c.none-2.result.0 (type_at T a.result) (type_at T b.result) c.none.ensures c.none-2.ensures (results_alike (type_at T a.result) (type_at T b.result) (parameters_in (types T) (items_of a.parameters) a.more) (parameters_in (types T) (items_of b.parameters) b.more) c.requires.compatible) in
    (g, (c.requires.a.0, (c.requires.b.0, (k, c.requires.made))))

pub functions_composite-returns-clause-made : goal.functions_composite-returns-clause-made
functions_composite-returns-clause-made t c = still_made c.parameters_composite.new.self c.function_place.new.self c.function_place.ensures.grows c.parameters_composite.new.made c.parameters_composite.ensures.made

pub functions_composite-parameters_composite-requires : goal.functions_composite-parameters_composite-requires
functions_composite-parameters_composite-requires t c =
    let T = c.args.self.now in
    let M = c.composite_under.new.self in
    let g = c.composite_under.ensures.grows in
    let ps = items_of c.args.a.parameters in
    let e : parameters_weight (parameters_in (types M) ps true) ≡ parameters_weight (parameters_in (types T) ps c.args.a.more) = ap parameters_weight (same_parameters T M g ps true c.requires.a.1) ∙ more_weight (types T) ps true c.args.a.more in
    let f : weight (function_of T c.args.a) ≡ 1 + (weight (type_at T c.args.a.result) + parameters_weight (parameters_in (types T) ps c.args.a.more)) = refl in
    let d = c.decreases in
    let h : 7 * parameters_weight (parameters_in (types M) ps true) + 6 < t = omega (arith, e, f, d) in
    let qs = items_of c.args.b.parameters in
    let l = lists_alike T (type_at T c.args.a.result) (type_at T c.args.b.result) ps qs c.args.a.more c.args.b.more c.requires.compatible in
    let k = lists_stay T M g ps qs c.requires.a.1 c.requires.b.1 l in
    (h, (still_some_below T M g ps c.requires.a.1, (still_some_below T M g qs c.requires.b.1, (k, c.composite_under.ensures.made))))

pub functions_composite-returns-in_err-parameters-clause-grows : goal.functions_composite-returns-in_err-parameters-clause-grows
functions_composite-returns-in_err-parameters-clause-grows t c = grows_twice c.args.self.now c.composite_under.new.self c.parameters_composite.new.self c.composite_under.ensures.grows c.parameters_composite.ensures.grows

pub functions_composite-function_place-requires-clause-accepted : goal.functions_composite-function_place-requires-clause-accepted
functions_composite-function_place-requires-clause-accepted t c =
    let T = c.args.self.now in
    let M = c.composite_under.new.self in
    let P = c.parameters_composite.new.self in
    let a = c.args.a in
    let b = c.args.b in
    let g = c.composite_under.ensures.grows in
    let of = c.in_ok-of.of in
    let r : type_at P of ≡ composite (type_at T a.result) (type_at T b.result) =
    c.parameters_composite.ensures.grows.extends.types_stay of c.in_ok-of.ensures.within ∙ c.in_ok-of.ensures.means ∙ results_composed (type_at T a.result) (type_at T b.result) c.none.result.0 c.none-2.result.0 c.none.ensures c.none-2.ensures in
    let os = items_of c.in_ok-parameters.parameters in
    let q : parameters_in (types P) os c.more_of-more.result ≡ parameters_composite (parameters_in (types T) (items_of a.parameters) a.more) (parameters_in (types T) (items_of b.parameters) b.more) =
    ap (parameters_in (types P) os) c.more_of-more.ensures ∙ c.in_ok-parameters.ensures.means a.more b.more
    ∙ ap (λ (z : Parameters). parameters_composite z (parameters_in (types M) (items_of b.parameters) b.more)) (same_parameters T M g (items_of a.parameters) a.more c.requires.a.1)
    ∙ ap (parameters_composite (parameters_in (types T) (items_of a.parameters) a.more)) (same_parameters T M g (items_of b.parameters) b.more c.requires.b.1) in
    let k = ap (λ (z : CType). Plain 0 (Function z (parameters_in (types P) os c.more_of-more.result))) r ∙ ap (λ (z : Parameters). Plain 0 (Function (composite (type_at T a.result) (type_at T b.result)) z)) q in
    function_fits P (function_of T a) (function_of T b) of os c.more_of-more.result c.requires.first c.requires.second k

pub functions_composite-returns-clause-means : goal.functions_composite-returns-clause-means
functions_composite-returns-clause-means t c =
    let T = c.args.self.now in
    let M = c.composite_under.new.self in
    let P = c.parameters_composite.new.self in
    let a = c.args.a in
    let b = c.args.b in
    let g = c.composite_under.ensures.grows in
    let of = c.in_ok-of.of in
    let r : type_at P of ≡ composite (type_at T a.result) (type_at T b.result) =
    c.parameters_composite.ensures.grows.extends.types_stay of c.in_ok-of.ensures.within ∙ c.in_ok-of.ensures.means ∙ results_composed (type_at T a.result) (type_at T b.result) c.none.result.0 c.none-2.result.0 c.none.ensures c.none-2.ensures in
    let os = items_of c.in_ok-parameters.parameters in
    let q : parameters_in (types P) os c.more_of-more.result ≡ parameters_composite (parameters_in (types T) (items_of a.parameters) a.more) (parameters_in (types T) (items_of b.parameters) b.more) =
    ap (parameters_in (types P) os) c.more_of-more.ensures ∙ c.in_ok-parameters.ensures.means a.more b.more
    ∙ ap (λ (z : Parameters). parameters_composite z (parameters_in (types M) (items_of b.parameters) b.more)) (same_parameters T M g (items_of a.parameters) a.more c.requires.a.1)
    ∙ ap (parameters_composite (parameters_in (types T) (items_of a.parameters) a.more)) (same_parameters T M g (items_of b.parameters) b.more c.requires.b.1) in
    let k = ap (λ (z : CType). Plain 0 (Function z (parameters_in (types P) os c.more_of-more.result))) r ∙ ap (λ (z : Parameters). Plain 0 (Function (composite (type_at T a.result) (type_at T b.result)) z)) q in
    IfOk-weaker c.function_place.result _ _ (λ id h. h ∙ k) c.function_place.ensures.means

pub functions_composite-returns-clause-grows : goal.functions_composite-returns-clause-grows
functions_composite-returns-clause-grows t c =
    grows_twice c.args.self.now c.parameters_composite.new.self c.function_place.new.self
    (grows_twice c.args.self.now c.composite_under.new.self c.parameters_composite.new.self c.composite_under.ensures.grows c.parameters_composite.ensures.grows) c.function_place.ensures.grows

-- ---- two pointers

pub kinds_composite-composite_under-requires : goal.kinds_composite-composite_under-requires
kinds_composite-composite_under-requires t c =
    let T = c.args.self.now in
    let f : weight (type_at T c.args.x) ≡ 1 + weight (type_at T c.in-Some.to) = ap weight c.in-Some.ensures.some in
    let d = c.decreases in
    let g : 7 * weight (type_at T c.in-Some.to) + 3 < t = omega (arith, f, d) in
    let k = none_alike c.none.result.0 c.none-in-Some-pointer_to.result.0 (type_at T c.in-Some.to) (type_at T c.in-Some-pointer_to.other) c.none.ensures c.none-in-Some-pointer_to.ensures
    (pointers_alike (type_at T c.args.x) (type_at T c.args.y) (type_at T c.in-Some.to) (type_at T c.in-Some-pointer_to.other) c.in-Some.ensures.some c.in-Some-pointer_to.ensures.some c.requires.compatible) in
    (g, (c.in-Some.ensures.place, (c.in-Some-pointer_to.ensures.place, (k, c.requires.made))))

pub kinds_composite-form_place-requires-clause-accepted : goal.kinds_composite-form_place-requires-clause-accepted
kinds_composite-form_place-requires-clause-accepted t c =
    let T = c.args.self.now in
    let a = type_at T c.in-Some.to in
    let b = type_at T c.in-Some-pointer_to.other in
    pointer_fits c.composite_under.new.self (type_at T c.args.x) (type_at T c.args.y) a b c.in_ok-to-in-Some-pointer_to.to c.in-Some.ensures.some c.in-Some-pointer_to.ensures.some c.requires.first c.requires.second
    (c.in_ok-to-in-Some-pointer_to.ensures.means ∙ results_composed a b c.none.result.0 c.none-in-Some-pointer_to.result.0 c.none.ensures c.none-in-Some-pointer_to.ensures)

pub kinds_composite-returns-in_ok-to-in-Some-pointer_to-clause-means : goal.kinds_composite-returns-in_ok-to-in-Some-pointer_to-clause-means
kinds_composite-returns-in_ok-to-in-Some-pointer_to-clause-means t c =
    let T = c.args.self.now in
    let k = ap (λ (z : CType). Plain 0 (Pointer z)) c.in_ok-to-in-Some-pointer_to.ensures.means
    ∙ pointers_composed (type_at T c.args.x) (type_at T c.args.y) (type_at T c.in-Some.to) (type_at T c.in-Some-pointer_to.other) c.none.result.0 c.none-in-Some-pointer_to.result.0 c.in-Some.ensures.some c.in-Some-pointer_to.ensures.some c.none.ensures c.none-in-Some-pointer_to.ensures in
    IfOk-weaker c.form_place.result _ _ (λ id h. h ∙ k) c.form_place.ensures.means

pub kinds_composite-returns-in_ok-to-in-Some-pointer_to-clause-grows : goal.kinds_composite-returns-in_ok-to-in-Some-pointer_to-clause-grows
kinds_composite-returns-in_ok-to-in-Some-pointer_to-clause-grows t c = grows_twice c.args.self.now c.composite_under.new.self c.form_place.new.self c.composite_under.ensures.grows c.form_place.ensures.grows

pub kinds_composite-returns-in_ok-to-in-Some-pointer_to-clause-made : goal.kinds_composite-returns-in_ok-to-in-Some-pointer_to-clause-made
kinds_composite-returns-in_ok-to-in-Some-pointer_to-clause-made t c = still_made c.composite_under.new.self c.form_place.new.self c.form_place.ensures.grows c.composite_under.new.made c.composite_under.ensures.made

-- ---- a parameter

pub parameter_composite-parameter-b-requires : goal.parameter_composite-parameter-b-requires
parameter_composite-parameter-b-requires t c = below_at (length c.args.self.now.forms) c.args.b.now c.args.i 0 c.requires.b c.if-i-b.true

pub parameter_composite-composite_under-requires : goal.parameter_composite-composite_under-requires
parameter_composite-composite_under-requires t c =
    let T = c.args.self.now in
    let p = c.parameter-a.result in
    let e : weight (type_at T p.0) ≡ weight (type_at T c.args.a) = sym (weight_qualify p.1.0 (type_at T p.0)) ∙ ap weight c.parameter-a.ensures.means ∙ weight_bare (type_at T c.args.a) in
    let d = c.decreases in
    let g : 7 * weight (type_at T p.0) + 3 < t = omega (arith, e, d) in
    let q = c.parameter-b.result in
    let h = first_alike (types T) (unqualified (type_at T c.args.a)) c.args.b.now c.args.i 0 c.if-i-b.true c.requires.compatible in
    let k : compatible (qualify p.1.0 (type_at T p.0)) (qualify q.1.0 (type_at T q.0)) ≡ true =
    ap (λ (z : CType). compatible z (qualify q.1.0 (type_at T q.0))) c.parameter-a.ensures.means ∙ ap (compatible (unqualified (type_at T c.args.a))) c.parameter-b.ensures.means ∙ h in
    (g, (c.parameter-a.ensures.within, (c.parameter-b.ensures.within, (k, c.requires.made))))
