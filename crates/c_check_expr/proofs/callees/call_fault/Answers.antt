use Rattle.std.proofs.Common.{◌≡◌, true, refl, sym, ap, ◌∙◌}
use Rattle.c_types.specs.Table.{tags, type_at}
use Rattle.c_meaning.specs.CoreTrees.{all_seen, cores_of, seen}
use Rattle.c_meaning.specs.Types.{is_pointer, target}
use Rattle.c_meaning.specs.Values.{value_type, values}
use Rattle.c_check_expr.proofs.CallNodes.{call_known}
use Rattle.c_values.proofs.lemmas.ManyValues.{count_seen, count_values}
use Rattle.c_check_expr.proofs.callees.call_fault.Goals as goal

pub returns-then-not-are_as_many-clause-is : goal.returns-then-not-are_as_many-clause-is
returns-then-not-are_as_many-clause-is c =
    let t = c.args.types.now in
    let k = type_at t in
    let f = seen k c.args.f.now in
    let cs = all_seen k (cores_of c.args.arguments.now) in
    let found = c.in-Some.ensures.function in
    let p : is_pointer (value_type f) ≡ true = ap is_pointer (sym c.value_type.ensures.is) ∙ c.in-Some.ensures.pointer in
    let e = ap target (sym c.value_type.ensures.is) ∙ found.1 in
    let m = c.are_as_many.ensures t (values cs) (count_values cs ∙ count_seen k c.args.arguments.now) in
    sym
    (call_known (tags t) f cs found.0 _ _ c.is_open_record.result c.are_as_many.result _ p e c.is_open_record.ensures m refl
    ∙ rw (c.if-is_open_record.false, c.if-not-are_as_many.true) refl)

pub returns-then-not-fit-clause-is : goal.returns-then-not-fit-clause-is
returns-then-not-fit-clause-is c =
    let t = c.args.types.now in
    let k = type_at t in
    let f = seen k c.args.f.now in
    let cs = all_seen k (cores_of c.args.arguments.now) in
    let found = c.in-Some.ensures.function in
    let p : is_pointer (value_type f) ≡ true = ap is_pointer (sym c.value_type.ensures.is) ∙ c.in-Some.ensures.pointer in
    let e = ap target (sym c.value_type.ensures.is) ∙ found.1 in
    let m = c.are_as_many.ensures t (values cs) (count_values cs ∙ count_seen k c.args.arguments.now) in
    sym
    (call_known (tags t) f cs found.0 _ _ c.is_open_record.result c.are_as_many.result c.fit.result p e c.is_open_record.ensures m (c.fit.ensures c.in-Some.more)
    ∙ rw (c.if-is_open_record.false, c.if-not-are_as_many.false, c.if-not-fit.true) refl)

pub returns-else-not-fit-clause-is : goal.returns-else-not-fit-clause-is
returns-else-not-fit-clause-is c =
    let t = c.args.types.now in
    let k = type_at t in
    let f = seen k c.args.f.now in
    let cs = all_seen k (cores_of c.args.arguments.now) in
    let found = c.in-Some.ensures.function in
    let p : is_pointer (value_type f) ≡ true = ap is_pointer (sym c.value_type.ensures.is) ∙ c.in-Some.ensures.pointer in
    let e = ap target (sym c.value_type.ensures.is) ∙ found.1 in
    let m = c.are_as_many.ensures t (values cs) (count_values cs ∙ count_seen k c.args.arguments.now) in
    sym
    (call_known (tags t) f cs found.0 _ _ c.is_open_record.result c.are_as_many.result c.fit.result p e c.is_open_record.ensures m (c.fit.ensures c.in-Some.more)
    ∙ rw (c.if-is_open_record.false, c.if-not-are_as_many.false, c.if-not-fit.false) refl)
