use Rattle.std.proofs.Common.{◌+◌, List, sym, ap, ◌∙◌, subst}
use Rattle.std.proofs.lemmas.Result.{IfOk-weaker}
use Rattle.std.proofs.lemmas.List.{take-map}
use Rattle.std.proofs.lemmas.Option.{slice_get_within}
use Rattle.lburg_lines.specs.Tokens.{Tok, view, views}
use Rattle.lburg_faults.specs.Grammatical.{IsEnding}
use Rattle.lburg_faults.proofs.EndingNodes.{of_rules}
use Rattle.lburg_faults.proofs.EndingParts.{front_ending, limit_ending, Alone, alone_none, alone_small, alone_limit}
use Rattle.lburg_faults.proofs.ending.rule_ending.Goals as goal

pub returns-in-None-clause-small : goal.returns-in-None-clause-small
returns-in-None-clause-small c =
    IfOk-weaker c.line_ending.result (IsEnding (of_rules (views c.args.tokens.now))) (Alone (of_rules (views c.args.tokens.now))) (λ e h. alone_none c.args.tokens.now e h c.in-None.ensures.none) c.line_ending.ensures

pub returns-then-end-place-clause-ends : goal.returns-then-end-place-clause-ends
returns-then-end-place-clause-ends c =
    let s = ap views c.split_at.ensures.front ∙ sym (take-map view (c.in-Some.place + 1) c.args.tokens.now) in
    let is = subst (λ (l : List Tok). IsEnding (of_rules l) c.in_ok-end-in-Some.end) s c.in_ok-end-in-Some.ensures in
    front_ending (views c.args.tokens.now) c.in-Some.place c.in_ok-end-in-Some.end (slice_get_within _ c.in-Some.place _ c.in-Some.ensures.some.0.2) c.if-end-place.true is

pub returns-then-end-place-clause-small : goal.returns-then-end-place-clause-small
returns-then-end-place-clause-small c = alone_small (of_rules (views c.args.tokens.now)) c.in-Some.place c.in_ok-end-in-Some.end c.in-Some.ensures.some.1 c.if-end-place.true

pub returns-else-end-place-clause-ends : goal.returns-else-end-place-clause-ends
returns-else-end-place-clause-ends c =
    let s = ap views c.split_at.ensures.front ∙ sym (take-map view (c.in-Some.place + 1) c.args.tokens.now) in
    let is = subst (λ (l : List Tok). IsEnding (of_rules l) c.in_ok-end-in-Some.end) s c.in_ok-end-in-Some.ensures in
    limit_ending (views c.args.tokens.now) c.in-Some.place c.in_ok-end-in-Some.end c.in-Some.ensures.some.0 c.if-end-place.false is

pub returns-else-end-place-clause-small : goal.returns-else-end-place-clause-small
returns-else-end-place-clause-small c = alone_limit (of_rules (views c.args.tokens.now)) c.in-Some.place c.in-Some.ensures.some.1
