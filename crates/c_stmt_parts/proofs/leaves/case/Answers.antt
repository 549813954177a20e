use Rattle.std.proofs.Common.{◌≡◌, Bool, true, false, refl, sym, ap, ◌∙◌, subst}
use Rattle.std.specs.Prelude.{◌||◌, not, is_none}
use Rattle.std.proofs.lemmas.Result.{IfErr-weaker, on_ok_weaker}
use Rattle.c_meaning.specs.Constants.{fold}
use Rattle.c_check_expr.specs.Walks.{core}
use Rattle.c_units.specs.Statements as node
use Rattle.c_stmt_parts.specs.Asked.{IsToldAt}
use Rattle.c_stmt_parts.specs.BodiesSeen.{around_seen}
use Rattle.c_stmt_parts.proofs.NodeFaults.{broken_by, case_first, nothing_or, place_broken, sound_by, told_if}
use Rattle.c_stmt_parts.proofs.leaves.case.Goals.{then-again-via-then-again, then-again-via-else-again+then-is_none}
use Rattle.c_stmt_parts.proofs.leaves.case.Goals as goal

pub returns-then-again-clause-told : goal.returns-then-again-clause-told
returns-then-again-clause-told c =
    let t = c.args.types.now in
    let a = around_seen c.args.around in
    let x = core t c.args.e.now in
    let bad : (is_none (fold x) || c.args.again) ≡ true = elim c.then-again.branch [ then-again-via-then-again w ↦ nothing_or (is_none (fold x)) c.args.again w.if-again.true | then-again-via-else-again+then-is_none w ↦ ap (λ (b : Bool). b || c.args.again) (ap is_none (sym w.constant_value.ensures) ∙ ap not w.is_none.ensures ∙ ap (λ (b : Bool). not (not b)) w.if-is_none.true) ] in
    broken_by t c.args.line (node.Case x a c.args.again) (λ g. place_broken (is_none (fold x) || c.args.again) a.switch) (case_first x a c.args.again) 48 (ap (λ (b : Bool). place_broken b a.switch) bad)

pub returns-clause-sound : goal.returns-clause-sound
returns-clause-sound c =
    let t = c.args.types.now in
    let a = around_seen c.args.around in
    let x = core t c.args.e.now in
    let good : (is_none (fold x) || c.args.again) ≡ false = ap (λ (b : Bool). b || c.args.again) (ap is_none (sym c.constant_value.ensures) ∙ ap not c.is_none.ensures ∙ ap (λ (b : Bool). not (not b)) c.if-is_none.false) ∙ c.if-again.false in
    on_ok_weaker c.in_switch.result
    (λ e. sound_by t c.args.line (node.Case x a c.args.again) (λ g. place_broken (is_none (fold x) || c.args.again) a.switch) (case_first x a c.args.again) (ap (λ (b : Bool). place_broken b a.switch) good ∙ ap (λ (b : Bool). told_if 49 (not b)) e) refl)
    c.in_switch.ensures.ok

pub returns-clause-told : goal.returns-clause-told
returns-clause-told c =
    let t = c.args.types.now in
    let a = around_seen c.args.around in
    let x = core t c.args.e.now in
    let good : (is_none (fold x) || c.args.again) ≡ false = ap (λ (b : Bool). b || c.args.again) (ap is_none (sym c.constant_value.ensures) ∙ ap not c.is_none.ensures ∙ ap (λ (b : Bool). not (not b)) c.if-is_none.false) ∙ c.if-again.false in
    IfErr-weaker c.in_switch.result _ _
    (λ f h. subst (λ z. IsToldAt t c.args.line (node.Case x a c.args.again) z) (sym h.0)
    (broken_by t c.args.line (node.Case x a c.args.again) (λ g. place_broken (is_none (fold x) || c.args.again) a.switch) (case_first x a c.args.again) 49 (ap (λ (b : Bool). place_broken b a.switch) good ∙ ap (λ (b : Bool). told_if 49 (not b)) h.1)))
    c.in_switch.ensures.err
