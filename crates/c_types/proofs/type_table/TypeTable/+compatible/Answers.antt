use Rattle.std.proofs.Common.{◌≡◌, ℕ, ◌+◌, ◌*◌, ◌<◌, ◌≤◌, true, false, List, length, drop, get_or, sym, ap, ◌∙◌, subst, eq-eqb, ne_eqb, arith}
use Rattle.std.specs.Prelude.{◌&&◌, nat_eq, Option}
use Rattle.std.proofs.lemmas.List.Elements.{All-contains}
use Rattle.std.proofs.lemmas.Option.{get_or_from_slice_get}
use Rattle.c_types.specs.declared.type_form.TypeForm.TheVariants as form
use Rattle.c_types.specs.CType.{CType, Plain, Pointer, Function, kind_of, qualify, unqualified, weight, parameters_weight, all_weight}
use Rattle.c_types.specs.Compatible.{all_compatible, compatible, kind_compatible, lengths_fit, parameters_compatible}
use Rattle.c_types.specs.Facts.{IsFound}
use Rattle.c_types.specs.Readings.{is_array}
use Rattle.c_types.specs.Table.{AreBelow, AreSomeBelow, IsOver, form_at, formed, number_at, parameters_in, type_at, type_in, types, types_in}
use Rattle.c_types.proofs.Alike.{all_end, all_step, and_false, compatible_same, functions, numbers_differ, pointers, tagged_rest, under_arrays, under_kinds, weight_among, weight_qualify, weight_under}
use Rattle.c_types.proofs.Bare.{bare_at, formed_beyond, means_at}
use Rattle.c_types.proofs.Below.{below_at, some_below_more}
use Rattle.c_types.proofs.Pairs.{still_all}
use Rattle.c_types.proofs.type_table.TypeTable.+compatible.Goals as goal

-- ---- all of the parameters

pub are_all_compatible-returns-then-a-b-clause-is : goal.are_all_compatible-returns-then-a-b-clause-is
are_all_compatible-returns-then-a-b-clause-is t c = sym (numbers_differ (types c.args.self.now) c.args.a.now c.args.b.now c.if-a-b.true)

pub are_all_compatible-parameter-requires : goal.are_all_compatible-parameter-requires
are_all_compatible-parameter-requires t c = below_at (length c.args.self.now.forms) c.args.a.now c.loop-i.i 0 c.requires.a c.loop-i-test.true

pub are_all_compatible-parameter-requires-in-loop-i : goal.are_all_compatible-parameter-requires-in-loop-i
are_all_compatible-parameter-requires-in-loop-i t c = below_at (length c.args.self.now.forms) c.args.b.now c.loop-i.i 0 c.requires.b (let l = c.loop-i-test.true in let e = c.if-a-b.false in omega arith)

pub are_all_compatible-are_compatible-requires : goal.are_all_compatible-are_compatible-requires
are_all_compatible-are_compatible-requires t c =
    let T = c.args.self.now in
    let w = weight_among (types T) c.args.a.now c.loop-i.i 0 c.loop-i-test.true in
    let p = c.parameter.result in
    let e : weight (type_at T p.0) ≡ weight (unqualified (type_in (types T) (get_or c.args.a.now c.loop-i.i 0))) = sym (weight_qualify p.1.0 (type_at T p.0)) ∙ ap weight c.parameter.ensures.means in
    let d = c.decreases in
    let g : 5 * weight (type_at T p.0) + 2 < t = omega (arith, w, e, d) in
    (g, (c.parameter.ensures.within, (c.parameter-in-loop-i.ensures.within, c.loop-i.invariant.found)))

pub are_all_compatible-returns-then-not-are_compatible-clause-is : goal.are_all_compatible-returns-then-not-are_compatible-clause-is
are_all_compatible-returns-then-not-are_compatible-clause-is t c =
    let T = c.args.self.now in
    let i = c.loop-i.i in
    let a = c.args.a.now in
    let b = c.args.b.now in
    let p = c.parameter.result in
    let q = c.parameter-in-loop-i.result in
    let u = unqualified (type_in (types T) (get_or a i 0)) in
    let v = unqualified (type_in (types T) (get_or b i 0)) in
    let rest = all_compatible (types_in (types T) (drop (i + 1) a)) (types_in (types T) (drop (i + 1) b)) in
    let m : i < length b = (let l = c.loop-i-test.true in let e = c.if-a-b.false in omega arith) in
    let f : compatible u v ≡ false =
    sym (ap (λ (z : CType). compatible z (qualify q.1.0 (type_at T q.0))) c.parameter.ensures.means ∙ ap (compatible u) c.parameter-in-loop-i.ensures.means)
    ∙ sym c.are_compatible.ensures.is ∙ c.if-not-are_compatible.true in
    sym (ap (λ z. z && rest) f) ∙ sym (all_step (types T) a b i 0 0 c.loop-i-test.true m) ∙ c.loop-i.invariant.all

pub are_all_compatible-returns-clause-is : goal.are_all_compatible-returns-clause-is
are_all_compatible-returns-clause-is t c =
    let l : length c.args.a.now ≤ c.loop-i.i = (let f = c.loop-i-test.false in omega arith) in
    let m : length c.args.b.now ≤ c.loop-i.i = (let e = c.if-a-b.false in omega (arith, l, e)) in
    sym (all_end (types c.args.self.now) c.args.a.now c.args.b.now c.loop-i.i l m) ∙ c.loop-i.invariant.all

-- ---- two types under qualifiers

pub are_compatible-are_compatible-requires : goal.are_compatible-are_compatible-requires
are_compatible-are_compatible-requires t c =
    let T = c.args.self.now in
    let x = c.under-x.result in
    let e = weight_under c.args.a.1.0 x.1.0 (type_at T c.args.a.0) (type_at T x.0) c.under-x.ensures.means in
    let f : weight (type_at T x.0) ≡ 1 + weight (type_at T c.in-Some.of) = ap weight c.in-Some.ensures.some in
    let d = c.decreases in
    let g : 5 * weight (type_at T c.in-Some.of) + 2 < t = omega (arith, e, f, d) in
    (g, (c.in-Some.ensures.place, (c.in-Some-array_of.ensures.place, c.requires.found)))

pub are_compatible-are_found_compatible-requires : goal.are_compatible-are_found_compatible-requires
are_compatible-are_found_compatible-requires t c =
    let T = c.args.self.now in
    let x = c.under-x.result in
    let e = weight_under c.args.a.1.0 x.1.0 (type_at T c.args.a.0) (type_at T x.0) c.under-x.ensures.means in
    let d = c.decreases in
    let g : 5 * weight (type_at T x.0) + 1 < t = omega (arith, e, d) in
    (g, (c.under-x.ensures.within, (c.under-y.ensures.within, (c.under-x.ensures.form, (c.under-y.ensures.form, (c.in-None.ensures.none, (c.if-x-y.false, c.requires.found)))))))

pub are_compatible-returns-else-lengths_fit-clause-is : goal.are_compatible-returns-else-lengths_fit-clause-is
are_compatible-returns-else-lengths_fit-clause-is t c =
    let T = c.args.self.now in
    let x = c.under-x.result in
    let y = c.under-y.result in
    let k = compatible (qualify x.1.0 (type_at T c.in-Some.of)) (qualify y.1.0 (type_at T c.in-Some-array_of.other)) in
    let f : lengths_fit c.in-Some.count c.in-Some-array_of.others ≡ false = sym c.lengths_fit.ensures ∙ c.if-lengths_fit.false in
    c.if-lengths_fit.false ∙ sym (under_arrays c.args.a.1.0 c.args.b.1.0 x.1.0 y.1.0 (type_at T c.args.a.0) (type_at T c.args.b.0) (type_at T x.0) (type_at T y.0) (type_at T c.in-Some.of) (type_at T c.in-Some-array_of.other) c.in-Some.count c.in-Some-array_of.others
    c.under-x.ensures.means c.under-y.ensures.means c.in-Some.ensures.some c.in-Some-array_of.ensures.some ∙ ap (λ z. k && z) f ∙ and_false k)

pub are_compatible-returns-then-x-y-clause-is : goal.are_compatible-returns-then-x-y-clause-is
are_compatible-returns-then-x-y-clause-is t c =
    let T = c.args.self.now in
    let x = c.under-x.result in
    let y = c.under-y.result in
    let n : x.1.0 ≡ y.1.0 = sym c.number.ensures ∙ c.if-number.true ∙ c.number-in-None.ensures in
    eq-eqb x.0 y.0 c.if-x-y.true
    ∙ sym (ap (λ z. compatible z (qualify c.args.b.1.0 (type_at T c.args.b.0))) c.under-x.ensures.means ∙ ap (compatible (qualify x.1.0 (type_at T x.0))) c.under-y.ensures.means
    ∙ compatible_same x.1.0 y.1.0 (type_at T x.0) (type_at T y.0) (eq-eqb x.1.0 y.1.0 n) (ap (type_at T) c.if-x-y.true))

pub are_compatible-returns-else-x-y-clause-is : goal.are_compatible-returns-else-x-y-clause-is
are_compatible-returns-else-x-y-clause-is t c =
    let T = c.args.self.now in
    let i = c.self.inside in
    let x = c.under-x.result in
    let y = c.under-y.result in
    let n : nat_eq x.1.0 y.1.0 ≡ true = eq-eqb x.1.0 y.1.0 (sym c.number.ensures ∙ c.if-number.true ∙ c.number-in-None.ensures) in
    let k = kind_compatible (kind_of (type_at T x.0)) (type_at T y.0) in
    let s = bare_at i.basic i.formed.entries i.definitions.entries T c.self.invariant c.self.view_is x.0 c.under-x.ensures.within c.under-x.ensures.form in
    let u = bare_at i.basic i.formed.entries i.definitions.entries T c.self.invariant c.self.view_is y.0 c.under-y.ensures.within c.under-y.ensures.form in
    c.are_found_compatible.ensures.is ∙ sym (under_kinds c.args.a.1.0 c.args.b.1.0 x.1.0 y.1.0 (type_at T c.args.a.0) (type_at T c.args.b.0) (type_at T x.0) (type_at T y.0) c.under-x.ensures.means c.under-y.ensures.means s u c.in-None.ensures.none ∙ ap (λ z. z && k) n)

pub are_compatible-returns-else-number-clause-is : goal.are_compatible-returns-else-number-clause-is
are_compatible-returns-else-number-clause-is t c =
    let T = c.args.self.now in
    let i = c.self.inside in
    let x = c.under-x.result in
    let y = c.under-y.result in
    let n : nat_eq x.1.0 y.1.0 ≡ false = ne_eqb x.1.0 y.1.0 (λ e. c.if-number.false (c.number.ensures ∙ e ∙ sym c.number-in-None.ensures)) in
    let k = kind_compatible (kind_of (type_at T x.0)) (type_at T y.0) in
    let s = bare_at i.basic i.formed.entries i.definitions.entries T c.self.invariant c.self.view_is x.0 c.under-x.ensures.within c.under-x.ensures.form in
    let u = bare_at i.basic i.formed.entries i.definitions.entries T c.self.invariant c.self.view_is y.0 c.under-y.ensures.within c.under-y.ensures.form in
    ne_eqb c.number.result c.number-in-None.result c.if-number.false
    ∙ sym (under_kinds c.args.a.1.0 c.args.b.1.0 x.1.0 y.1.0 (type_at T c.args.a.0) (type_at T c.args.b.0) (type_at T x.0) (type_at T y.0) c.under-x.ensures.means c.under-y.ensures.means s u c.in-None.ensures.none ∙ ap (λ z. z && k) n)

-- ---- a pair that may be noted

pub are_found_compatible-returns-then-has-clause-is : goal.are_found_compatible-returns-then-has-clause-is
are_found_compatible-returns-then-has-clause-is t c =
    sym (All-contains (IsFound c.args.self.now) c.args.found.now (c.args.a, c.args.b) c.requires.found (c.has.ensures c.if-has.true))

pub are_found_compatible-returns-clause-found : goal.are_found_compatible-returns-clause-found
are_found_compatible-returns-clause-found t c =
    let h : IsFound c.args.self.now (c.args.a, c.args.b) = sym c.are_kinds_compatible.ensures.is ∙ c.if-not-are_kinds_compatible.false in
    still_all (IsFound c.args.self.now) c.are_kinds_compatible.new.found c.note.new.self (c.args.a, c.args.b) c.are_kinds_compatible.ensures.found h c.note.ensures

-- ---- two kinds

pub are_kinds_compatible-are_compatible-requires : goal.are_kinds_compatible-are_compatible-requires
are_kinds_compatible-are_compatible-requires t c =
    let T = c.args.self.now in
    let e : type_at T c.args.a ≡ Plain 0 (Pointer (type_at T c.in-Pointer.to)) = c.form.ensures.means ∙ ap (formed (types T) (number_at T c.args.a)) c.in-Pointer.is in
    let f : weight (type_at T c.args.a) ≡ 1 + weight (type_at T c.in-Pointer.to) = ap weight e in
    let o : c.in-Pointer.to < c.args.a = subst (IsOver c.args.a) c.in-Pointer.is c.form.ensures.over in
    let d = c.decreases in
    let g : 5 * weight (type_at T c.in-Pointer.to) + 2 < t = omega (arith, f, d) in
    (g, ((let l = c.requires.a in omega (arith, o, l)), (c.in-Some.ensures.place, c.requires.found)))

pub are_kinds_compatible-are_compatible-requires-in-Some-function_of : goal.are_kinds_compatible-are_compatible-requires-in-Some-function_of
are_kinds_compatible-are_compatible-requires-in-Some-function_of t c =
    let T = c.args.self.now in
    let x = c.in-Function in
    let e : type_at T c.args.a ≡ Plain 0 (Function (type_at T x.of) (parameters_in (types T) x.parameters x.more)) = c.form.ensures.means ∙ ap (formed (types T) (number_at T c.args.a)) x.is in
    let f : weight (type_at T c.args.a) ≡ 1 + (weight (type_at T x.of) + parameters_weight (parameters_in (types T) x.parameters x.more)) = ap weight e in
    let o = subst (IsOver c.args.a) x.is c.form.ensures.over in
    let d = c.decreases in
    let g : 5 * weight (type_at T x.of) + 2 < t = omega (arith, f, d) in
    (g, ((let l = c.requires.a in let k = o.0 in omega (arith, k, l)), (c.in-Some-function_of.ensures.place, c.requires.found)))

pub are_kinds_compatible-are_parameters_compatible-requires : goal.are_kinds_compatible-are_parameters_compatible-requires
are_kinds_compatible-are_parameters_compatible-requires t c =
    let T = c.args.self.now in
    let x = c.in-Function in
    let e : type_at T c.args.a ≡ Plain 0 (Function (type_at T x.of) (parameters_in (types T) x.parameters x.more)) = c.form.ensures.means ∙ ap (formed (types T) (number_at T c.args.a)) x.is in
    let f : weight (type_at T c.args.a) ≡ 1 + (weight (type_at T x.of) + parameters_weight (parameters_in (types T) x.parameters x.more)) = ap weight e in
    let o = subst (IsOver c.args.a) x.is c.form.ensures.over in
    let d = c.decreases in
    let g : 5 * parameters_weight (parameters_in (types T) x.parameters x.more) + 4 < t = omega (arith, f, d) in
    (g, (some_below_more c.args.a (length T.forms) (let l = c.requires.a in omega arith) x.parameters o.1, (c.in-Some-function_of.ensures.places, c.are_compatible-in-Some-function_of.ensures.found)))

pub are_kinds_compatible-is_tag_compatible-requires : goal.are_kinds_compatible-is_tag_compatible-requires
are_kinds_compatible-is_tag_compatible-requires t c =
    let T = c.args.self.now in
    let i = c.self.inside in
    let a = c.args.a in
    let r = get_or_from_slice_get T.forms a c.form.result.now form.Void c.form.ensures.form in
    let b : 10 ≤ a = (let l = c.if-a-lt-BASIC.false in omega arith) in
    let u = formed_beyond i.basic i.formed.entries i.definitions.entries T c.self.invariant c.self.view_is a c.requires.a b in
    let n : is_array (formed (types T) (number_at T a) (form_at T a)) ≡ false = ap is_array (sym (means_at i.basic i.formed.entries i.definitions.entries T c.self.invariant c.self.view_is a c.requires.a)) ∙ c.requires.kind in
    record {
      a = c.requires.a;
      b = c.requires.b;
      tag = tagged_rest (types T) (number_at T a) (form_at T a) u c.requires.plain n (λ to e. c.in_default.not-Pointer to (sym r ∙ e)) (λ f ps m e. c.in_default.not-Function f ps m (sym r ∙ e));
      bare = c.requires.bare;
      apart = c.requires.apart;
    }

pub are_kinds_compatible-returns-in-Some-clause-is : goal.are_kinds_compatible-returns-in-Some-clause-is
are_kinds_compatible-returns-in-Some-clause-is t c =
    let T = c.args.self.now in
    let e : type_at T c.args.a ≡ Plain 0 (Pointer (type_at T c.in-Pointer.to)) = c.form.ensures.means ∙ ap (formed (types T) (number_at T c.args.a)) c.in-Pointer.is in
    c.are_compatible.ensures.is ∙ pointers (type_at T c.args.a) (type_at T c.args.b) (type_at T c.in-Pointer.to) (type_at T c.in-Some.other) c.none.result.0 c.none-in-Some.result.0 e c.in-Some.ensures.some c.none.ensures c.none-in-Some.ensures

pub are_kinds_compatible-returns-then-are_compatible-clause-is : goal.are_kinds_compatible-returns-then-are_compatible-clause-is
are_kinds_compatible-returns-then-are_compatible-clause-is t c =
    let T = c.args.self.now in
    let x = c.in-Function in
    let y = c.in-Some-function_of in
    let ps = parameters_in (types T) x.parameters x.more in
    let qs = parameters_in (types T) y.others.now y.and_more in
    let e : type_at T c.args.a ≡ Plain 0 (Function (type_at T x.of) ps) = c.form.ensures.means ∙ ap (formed (types T) (number_at T c.args.a)) x.is in
    let b = functions (type_at T c.args.a) (type_at T c.args.b) (type_at T x.of) (type_at T y.other) ps qs c.none-in-Some-function_of.result.0 c.none-in-Some-function_of-2.result.0 e y.ensures.some c.none-in-Some-function_of.ensures c.none-in-Some-function_of-2.ensures in
    let h = sym c.are_compatible-in-Some-function_of.ensures.is ∙ c.if-are_compatible.true in
    c.are_parameters_compatible.ensures.is ∙ sym (ap (λ z. z && parameters_compatible ps qs) h) ∙ b

pub are_kinds_compatible-returns-else-are_compatible-clause-is : goal.are_kinds_compatible-returns-else-are_compatible-clause-is
are_kinds_compatible-returns-else-are_compatible-clause-is t c =
    let T = c.args.self.now in
    let x = c.in-Function in
    let y = c.in-Some-function_of in
    let ps = parameters_in (types T) x.parameters x.more in
    let qs = parameters_in (types T) y.others.now y.and_more in
    let e : type_at T c.args.a ≡ Plain 0 (Function (type_at T x.of) ps) = c.form.ensures.means ∙ ap (formed (types T) (number_at T c.args.a)) x.is in
    let b = functions (type_at T c.args.a) (type_at T c.args.b) (type_at T x.of) (type_at T y.other) ps qs c.none-in-Some-function_of.result.0 c.none-in-Some-function_of-2.result.0 e y.ensures.some c.none-in-Some-function_of.ensures c.none-in-Some-function_of-2.ensures in
    let h = sym c.are_compatible-in-Some-function_of.ensures.is ∙ c.if-are_compatible.false in
    c.if-are_compatible.false ∙ sym (ap (λ z. z && parameters_compatible ps qs) h) ∙ b

-- ---- parameters

pub are_parameters_compatible-are_all_compatible-requires : goal.are_parameters_compatible-are_all_compatible-requires
are_parameters_compatible-are_all_compatible-requires t c =
    let T = c.args.self.now in
    let a = c.as_slice-then-more-and_more in
    let b = c.as_slice-then-more-and_more-2 in
    let n = length T.forms in
    let e : parameters_weight (parameters_in (types T) c.args.a.now c.args.more) ≡ all_weight (types_in (types T) a.result.now) =
    ap (λ (o : Option (List ℕ)). parameters_weight (parameters_in (types T) o c.args.more)) c.in-Some-Some.is-0 ∙ ap (λ (ids : List ℕ). all_weight (types_in (types T) ids)) (sym a.ensures) in
    let d = c.decreases in
    let g : 5 * all_weight (types_in (types T) a.result.now) + 3 < t = omega (arith, e, d) in
    let h : AreBelow n a.result.now = subst (AreBelow n) (sym a.ensures) (subst (AreSomeBelow n) c.in-Some-Some.is-0 c.requires.a) in
    let k : AreBelow n b.result.now = subst (AreBelow n) (sym b.ensures) (subst (AreSomeBelow n) c.in-Some-Some.is-1 c.requires.b) in
    (g, (h, (k, c.requires.found)))
