use Rattle.std.proofs.Common.{[], ◌∷◌, ◌++◌, ◌+◌, ap, sym, ◌∙◌, drop}
use Rattle.std.specs.Prelude.{is_some}
use Rattle.c_symbols.specs.Scoping.{symbol_named}
use Rattle.c_check_function.proofs.DifferentNames.{differ_at_first, differ_behind, no_name, none_left, stands_again, stands_first}
use Rattle.c_check_function.proofs.name_lists.are_different.Goals as goal

pub loop-name-init : goal.loop-name-init
loop-name-init c = ap (λ before. differ_behind before c.args.names.now) c.new-seen.ensures ∙ differ_at_first c.args.names.now

pub returns-then-is_some : goal.returns-then-is_some
returns-then-is_some c =
    sym (stands_again c.loop-name.seen c.args.names.now c.loop-name.name-index c.name-item.result c.loop-name-test.true c.name-item.is
    (ap (λ n. is_some (symbol_named c.loop-name.seen n)) (sym c.as_slice.ensures) ∙ ap is_some (sym c.find.ensures) ∙ sym c.is_some.ensures ∙ c.if-is_some.true))
    ∙ c.loop-name.invariant

pub loop-name-preserved : goal.loop-name-preserved
loop-name-preserved c =
    let seen = c.loop-name.seen in
    let name = c.name-item.result in
    let new = no_name (symbol_named seen name) (ap (λ n. is_some (symbol_named seen n)) (sym c.as_slice.ensures) ∙ ap is_some (sym c.find.ensures) ∙ sym c.is_some.ensures ∙ c.if-is_some.false) in
    ap (λ before. differ_behind before (drop (c.loop-name.name-index + 1) c.args.names.now)) (c.in_ok-add.ensures.ok ∙ ap (λ n. seen ++ (n, 0) ∷ []) c.as_slice-in-loop-name.ensures)
    ∙ stands_first seen c.args.names.now c.loop-name.name-index name c.loop-name-test.true c.name-item.is new ∙ c.loop-name.invariant

pub returns : goal.returns
returns c = sym (none_left c.loop-name.seen c.args.names.now c.loop-name.name-index c.loop-name-test.false) ∙ c.loop-name.invariant
