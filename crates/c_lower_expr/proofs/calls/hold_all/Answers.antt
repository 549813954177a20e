use Rattle.std.proofs.Common.{◌<◌, ◌≤◌, arith, rules, length, ◌∙◌}
use Rattle.std.proofs.lemmas.List.{drop_all, take_all, length-set}
use Rattle.lowered_forms.specs.Calls.{all_held}
use Rattle.c_lower_expr.specs.Passing.{all_typed}
use Rattle.c_lower_expr.proofs.lemmas.Holding.{hold_begins, hold_goes, hold_goes_on}
use Rattle.c_lower_expr.proofs.calls.hold_all.Goals as goal

pub loop-i-init : goal.loop-i-init
loop-i-init c = ((λ n l h. hold_begins c.args.is_straight n c.args.into.now c.args.values.now.items l h), search rules)

pub loop-i-preserved : goal.loop-i-preserved
loop-i-preserved c =
    let h = c.loop-i.invariant in
    let lt : c.loop-i.i < length c.loop-i.values.items = omega (arith, h.1, c.len-i-end.ensures, c.args.values.now.ok.0) in (
      (λ n m s. hold_goes_on c.args.is_straight n c.loop-i.into c.hold.new.self (all_held c.args.is_straight n (all_typed c.args.values.now.items) m) c.loop-i.values.items c.loop-i.i c.index.result.now c.in_ok-kept.kept lt c.index.ensures (h.0 n m s) c.in_ok-kept.ensures),
      length-set c.loop-i.values.items c.loop-i.i c.in_ok-kept.kept ∙ h.1,
    )

pub returns : goal.returns
returns c =
    let h = c.loop-i.invariant in
    let ge : length c.loop-i.values.items ≤ c.loop-i.i = omega (arith, h.1, c.len-i-end.ensures, c.args.values.now.ok.0) in
    λ n l s. hold_goes c.args.is_straight n c.loop-i.into (all_held c.args.is_straight n (all_typed c.args.values.now.items) l) c.loop-i.values.items c.loop-i.i (drop_all c.loop-i.i c.loop-i.values.items ge) (take_all c.loop-i.i c.loop-i.values.items ge) (h.0 n l s)
