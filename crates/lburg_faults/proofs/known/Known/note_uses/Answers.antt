use Rattle.std.proofs.Common.{◌≡◌, max, refl, arith, ◌∙◌}
use Rattle.lburg_lines.specs.Tokens.{views}
use Rattle.lburg_faults.proofs.RuleLine.{IsPatternEnd}
use Rattle.lburg_faults.proofs.RuleArities.{uses_start, uses_more, none_differs, one_differs, uses_known}
use Rattle.lburg_faults.proofs.known.Known.note_uses.Goals as goal

pub loop-place-init : goal.loop-place-init
loop-place-init c = record {
  noted = uses_start (views c.args.tokens.now) c.args.bound c.args.self.now;
  within = omega arith;
  terminals = refl;
  numbers = refl;
  nonterminals = refl;
  start = refl;
  rules = refl;
}

pub loop-place-preserved : goal.loop-place-preserved
loop-place-preserved c = record {
  noted = uses_more (views c.args.tokens.now) c.args.bound c.pattern_end-place-end.result c.loop-place.place c.args.self.now c.loop-place.self c.note_token_use.new.self.arities.items c.loop-place.least c.lesser-least.result c.in_ok-last.last c.loop-place.invariant.noted c.loop-place.auto.place (omega arith) c.pattern_end-place-end.ensures.none c.loop-place.invariant.terminals c.in_ok-last.ensures.gives c.lesser-least.ensures.some c.lesser-least.ensures.none;
  within = omega arith;
  terminals = c.in_ok-last.ensures.terminals ∙ c.loop-place.invariant.terminals;
  numbers = c.in_ok-last.ensures.numbers ∙ c.loop-place.invariant.numbers;
  nonterminals = c.in_ok-last.ensures.nonterminals ∙ c.loop-place.invariant.nonterminals;
  start = c.in_ok-last.ensures.start ∙ c.loop-place.invariant.start;
  rules = c.in_ok-last.ensures.rules ∙ c.loop-place.invariant.rules;
}

pub returns-then-least-bound-clause-scanned : goal.returns-then-least-bound-clause-scanned
returns-then-least-bound-clause-scanned c =
    let end : IsPatternEnd (views c.args.tokens.now) c.args.bound c.pattern_end-place-end.result = record { within = c.pattern_end-place-end.ensures.within; none = c.pattern_end-place-end.ensures.none; behind = c.pattern_end-place-end.ensures.behind } in
    let at : c.loop-place.place ≡ max 2 c.pattern_end-place-end.result = omega arith in
    λ s l w t i ts b. none_differs (views c.args.tokens.now) c.args.bound c.pattern_end-place-end.result c.loop-place.place c.args.self.now c.loop-place.self.arities.items c.loop-place.least c.loop-place.invariant.noted at end c.if-least-bound.true s l w t i ts

pub returns-then-least-bound-clause-known : goal.returns-then-least-bound-clause-known
returns-then-least-bound-clause-known c =
    let end : IsPatternEnd (views c.args.tokens.now) c.args.bound c.pattern_end-place-end.result = record { within = c.pattern_end-place-end.ensures.within; none = c.pattern_end-place-end.ensures.none; behind = c.pattern_end-place-end.ensures.behind } in
    let at : c.loop-place.place ≡ max 2 c.pattern_end-place-end.result = omega arith in
    λ e. uses_known (views c.args.tokens.now) c.args.bound c.pattern_end-place-end.result c.loop-place.place c.args.self.now c.loop-place.self c.loop-place.least c.loop-place.invariant.noted at end c.loop-place.invariant.terminals c.loop-place.invariant.numbers c.loop-place.invariant.nonterminals c.loop-place.invariant.start c.loop-place.invariant.rules

pub returns-clause-scanned : goal.returns-clause-scanned
returns-clause-scanned c =
    let end : IsPatternEnd (views c.args.tokens.now) c.args.bound c.pattern_end-place-end.result = record { within = c.pattern_end-place-end.ensures.within; none = c.pattern_end-place-end.ensures.none; behind = c.pattern_end-place-end.ensures.behind } in
    let at : c.loop-place.place ≡ max 2 c.pattern_end-place-end.result = omega arith in
    λ s l w t i ts b. one_differs (views c.args.tokens.now) c.args.bound c.pattern_end-place-end.result c.loop-place.place c.args.self.now c.loop-place.self.arities.items c.loop-place.least c.loop-place.invariant.noted at end c.if-least-bound.false s l w t i ts
