use Rattle.std.proofs.Common.{refl, sym, ap, ◌∙◌, ◌<◌, ◌≤◌, length, arith}
use Rattle.std.specs.Prelude.{option_map}
use Rattle.c_types.specs.CType.{qualify}
use Rattle.c_types.specs.Table.{type_at}
use Rattle.c_meaning.specs.Nodes as node
use Rattle.c_meaning.specs.TypeRows.{specified as row}
use Rattle.c_meaning.specs.Typing.{Fine}
use Rattle.c_check_expr.specs.Counted.{classes_among}
use Rattle.c_check_expr.specs.PartsSeen.{parts_seen}
use Rattle.c_check_expr.proofs.SpecifierLists.{classes_broken, floating_broken, none_broken, said, type_broken}
use Rattle.c_check_expr.proofs.TypeNodes.{node_breaks, node_fine}
use Rattle.c_check_expr.proofs.specifiers.specified.Goals as goal

pub returns-then-has_floating-clause-err : goal.returns-then-has_floating-clause-err
returns-then-has_floating-clause-err c = λ s h.
    let t = c.args.types.now in
    let ps = c.args.parts.now in
    node_breaks s c.args.line (node.Specifiers (parts_seen t ps)) s (row (parts_seen t ps)) 1 (floating_broken s t ps (sym c.has_floating.ensures ∙ c.if-has_floating.true))

pub returns-in_default-clause-err : goal.returns-in_default-clause-err
returns-in_default-clause-err c = λ s h.
    let t = c.args.types.now in
    let ps = c.args.parts.now in
    let a = sym c.formed_type.ensures.means ∙ ap (option_map (type_at t)) c.in_default.is in
    node_breaks s c.args.line (node.Specifiers (parts_seen t ps)) s (row (parts_seen t ps)) 2 (type_broken s t ps (sym c.has_floating.ensures ∙ c.if-has_floating.false) a)

pub returns-then-len-gt1-clause-err : goal.returns-then-len-gt1-clause-err
returns-then-len-gt1-clause-err c = λ s h.
    let t = c.args.types.now in
    let ps = c.args.parts.now in
    let a = sym c.formed_type.ensures.means ∙ ap (option_map (type_at t)) c.in-Some.is in
    let e = ap length c.in_ok-classes.ensures in
    let l : 1 < length (classes_among ps) = omega (arith, e, c.len.ensures, c.if-len-gt1.true) in
    node_breaks s c.args.line (node.Specifiers (parts_seen t ps)) s (row (parts_seen t ps)) 3 (classes_broken s t ps (type_at t c.in-Some.of) (sym c.has_floating.ensures ∙ c.if-has_floating.false) a l)

pub returns-clause-ok : goal.returns-clause-ok
returns-clause-ok c = λ s h.
    let t = c.args.types.now in
    let ps = c.args.parts.now in
    let a = sym c.formed_type.ensures.means ∙ ap (option_map (type_at t)) c.in-Some.is in
    let e = ap length c.in_ok-classes.ensures in
    let l : length (classes_among ps) ≤ 1 = omega (arith, e, c.len.ensures, c.if-len-gt1.false) in
    let f = none_broken s t ps (type_at t c.in-Some.of) (sym c.has_floating.ensures ∙ c.if-has_floating.false) a l in
    let o = c.in_ok-of.ensures.means ∙ ap (λ q. qualify q (type_at t c.in-Some.of)) c.qualifiers.ensures in
    node_fine s c.args.line (node.Specifiers (parts_seen t ps)) s (row (parts_seen t ps)) f refl
    ∙ ap (Fine s) (said t ps c.in_ok-classes.classes (type_at t c.in-Some.of) (type_at c.qualified.new.self c.in_ok-of.of) c.in_ok-classes.ensures a o)
