use Rattle.std.proofs.Common.{◌≤◌, List, length, refl, inr, sym, subst, ◌∙◌, arith}
use Rattle.std.specs.Prelude.{All}
use Rattle.std.proofs.lemmas.List.{take_all}
use Rattle.asm_text.specs.Addresses.{IsKnown}
use Rattle.asm_text.specs.Made.{Use}
use Rattle.asm_text.specs.Uses.{use_of}
use Rattle.asm_text.proofs.UsesKnown.{address_more, known_more, first_unknown}
use Rattle.asm_text.proofs.finishing.addresses.Goals as goal

pub returns-in_default-clause-fault : goal.returns-in_default-clause-fault
returns-in_default-clause-fault c =
    let l = c.loop-number in
    let u = use_of c.at-line.result.0.now c.at-line.result.1 in
    inr (u.line, refl, first_unknown c.args.labels.now c.args.uses.now l.number u c.at-line.ensures (sym c.address.ensures ∙ c.in_default.is) l.invariant.known)

pub loop-number-preserved : goal.loop-number-preserved
loop-number-preserved c =
    let l = c.loop-number in
    let u = use_of c.at-line.result.0.now c.at-line.result.1 in
    let here = sym c.address.ensures ∙ c.in-Some.is in
    record {
      addressed = address_more c.args.labels.now c.args.uses.now l.number u c.at-line.ensures c.in-Some.address l.found.items c.push.new.self.items here l.invariant.addressed c.in_ok-push.ensures.items;
      known = known_more c.args.labels.now c.args.uses.now l.number u c.at-line.ensures c.in-Some.address here l.invariant.known;
    }

pub returns-clause-known : goal.returns-clause-known
returns-clause-known c =
    let P : List Use → Type 0 = λ us. All (λ u. IsKnown c.args.labels.now u.name) us in
    let h : length c.args.uses.now ≤ c.loop-number.number = omega arith in
    subst P (take_all c.loop-number.number c.args.uses.now h) c.loop-number.invariant.known
