use Rattle.std.proofs.Common.{Bool, refl, sym, ap, ◌∙◌, subst}
use Rattle.std.specs.Prelude.{not}
use Rattle.std.proofs.lemmas.Result.{IfErr-weaker, on_ok_weaker}
use Rattle.c_units.specs.Statements as node
use Rattle.c_stmt_parts.specs.Asked.{IsToldAt}
use Rattle.c_stmt_parts.specs.BodiesSeen.{around_seen}
use Rattle.c_stmt_parts.proofs.NodeFaults.{broken_by, default_first, place_broken, sound_by, told_if}
use Rattle.c_stmt_parts.proofs.leaves.default.Goals as goal

pub returns-then-again-clause-told : goal.returns-then-again-clause-told
returns-then-again-clause-told c =
    let a = around_seen c.args.around in
    λ t. broken_by t c.args.line (node.Default a c.args.again) (λ g. place_broken c.args.again a.switch) (default_first a c.args.again) 48 (ap (λ (b : Bool). place_broken b a.switch) c.if-again.true)

pub returns-clause-sound : goal.returns-clause-sound
returns-clause-sound c =
    let a = around_seen c.args.around in
    on_ok_weaker c.in_switch.result
    (λ e t. sound_by t c.args.line (node.Default a c.args.again) (λ g. place_broken c.args.again a.switch) (default_first a c.args.again) (ap (λ (b : Bool). place_broken b a.switch) c.if-again.false ∙ ap (λ (b : Bool). told_if 49 (not b)) e) refl)
    c.in_switch.ensures.ok

pub returns-clause-told : goal.returns-clause-told
returns-clause-told c =
    let a = around_seen c.args.around in
    IfErr-weaker c.in_switch.result _ _
    (λ f h t. subst (λ z. IsToldAt t c.args.line (node.Default a c.args.again) z) (sym h.0)
    (broken_by t c.args.line (node.Default a c.args.again) (λ g. place_broken c.args.again a.switch) (default_first a c.args.again) 49 (ap (λ (b : Bool). place_broken b a.switch) c.if-again.false ∙ ap (λ (b : Bool). told_if 49 (not b)) h.1)))
    c.in_switch.ensures.err
