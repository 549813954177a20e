use Rattle.std.proofs.Common.{◌≡◌, ◌∙◌, ◌+◌, true, false, List, refl, ap, sym, subst, arith}
use denote.Enum.Bare.{sameb}
use Rattle.lburg_lines.specs.declared.section.Section.{Section}
use Rattle.lburg_lines.specs.declared.section.Section.TheVariants.{Head, Prologue, Declarations, Rules, Tail}
use Rattle.lburg_lines.specs.contracts.section.Section as section
use Rattle.lburg_lines.specs.declared.token.Token.{Token}
use Rattle.lburg_lines.specs.Tokens.{views}
use Rattle.lburg_lines.specs.Sections.{section_behind}
use Rattle.lburg_trees.proofs.Tails.{Before, at_start, line_more, in_tail, no_tail}
use Rattle.lburg_trees.proofs.tail.tail_of.Goals as goal

is_tail : (s : Section) → true ≡ sameb section.the_type s Tail → s ≡ Tail
is_tail Head e = absurd cc
is_tail Prologue e = absurd cc
is_tail Declarations e = absurd cc
is_tail Rules e = absurd cc
is_tail Tail e = refl

not_tail : (s : Section) → false ≡ sameb section.the_type s Tail → s ≡ Tail → ⊥
not_tail s e f = let P : Section → Type 0 = λ z. false ≡ sameb section.the_type z Tail in let g = subst P f e in cc

pub loop-line-init : goal.loop-line-init
loop-line-init c = record { lines = at_start c.args.text.now; within = omega arith }

pub returns-then-eq-clause-is : goal.returns-then-eq-clause-is
returns-then-eq-clause-is c =
    let e = c.if-eq.ensures in
    in_tail c.args.text.now c.loop-line.section c.loop-line.rest.now c.loop-line.before c.loop-line.invariant.lines (is_tail c.loop-line.section e)

pub loop-line-preserved : goal.loop-line-preserved
loop-line-preserved c =
    let e = c.if-eq.ensures in
    let ts = c.in_ok-found.found.items in
    let b = line_more c.args.text.now c.loop-line.section c.loop-line.rest.now c.in-Some.line.now c.in-Some.behind.now (views ts) c.loop-line.before c.loop-line.invariant.lines (not_tail c.loop-line.section e) c.in-Some.ensures.some c.in_ok-found.ensures in
    let s : section_behind c.loop-line.section (views ts) ≡ c.behind-section.result = ap (λ (l : List Token). section_behind c.loop-line.section (views l)) (sym c.deref.ensures.value) ∙ sym c.behind-section.ensures in
    let w = c.loop-line.invariant.within in
    let h = c.in-Some.ensures.shorter in
    record { lines = subst (λ (z : Section). Before c.args.text.now z c.in-Some.behind.now (c.loop-line.before + 1)) s b; within = omega arith }

pub returns-clause-is : goal.returns-clause-is
returns-clause-is c = no_tail c.args.text.now c.loop-line.section c.loop-line.rest.now c.loop-line.before c.loop-line.invariant.lines c.in_default.ensures.none
