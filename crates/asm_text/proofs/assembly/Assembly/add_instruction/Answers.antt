use Rattle.std.proofs.Common.{◌≡◌, ◌<◌, length, sym, ap, ◌∙◌, subst, arith}
use Rattle.std.specs.Prelude.{IfSome, Some, slice_get}
use Rattle.asm_lines.specs.Statements.{instruction_with}
use Rattle.asm_text.specs.Added.{with_names, with_code}
use Rattle.asm_text.specs.Made.{Made}
use Rattle.asm_text.specs.MadeTable.{made_view}
use Rattle.asm_text.specs.Names.{name_at}
use Rattle.asm_text.specs.Uses.{used_names}
use Rattle.asm_text.proofs.CodeAdded.{now, numbered, number_below, name_used, table_code, view_code, same_length}
use Rattle.asm_text.proofs.assembly.Assembly.add_instruction.Goals as goal

pub invariant_of-self-in_err-push : goal.invariant_of-self-in_err-push
invariant_of-self-in_err-push c =
    let old = c.self-2.inside in
    let us = old.uses in
    let P : Made → Type 0 = λ m. IfSome c.name_of.result (λ x. slice_get (used_names m.uses) c.in_ok-number.number ≡ Some x.now) in
    let at = subst P (sym c.self-2.view_is) c.in_ok-number.ensures.number in
    let same = same_length c.self.inside.code.items old.code.items (name_at (used_names c.self.inside.uses)) (name_at (used_names us)) c.args.self.now.code (ap (λ (m : Made). m.code) c.self.view_is) (ap (λ (m : Made). m.code) (c.self-2.view_is ∙ c.in_ok-number.ensures.made)) in
    let few : length old.code.items < 4194304 = omega arith in
    table_code old.code.items c.push_named.new.code.items (instruction_with (λ _. c.in_ok-number.number) c.args.instruction.now) old.datums.items old.size us c.in_ok-push_named.ensures.ok few (number_below us c.in_ok-number.number c.args.instruction.now c.name_of.result c.name_of.ensures at) c.self-2.invariant

pub invariant_of-self-2 : goal.invariant_of-self-2
invariant_of-self-2 c =
    let old = c.self-2.inside in
    let us = old.uses in
    let P : Made → Type 0 = λ m. IfSome c.name_of.result (λ x. slice_get (used_names m.uses) c.in_ok-number.number ≡ Some x.now) in
    let at = subst P (sym c.self-2.view_is) c.in_ok-number.ensures.number in
    let same = same_length c.self.inside.code.items old.code.items (name_at (used_names c.self.inside.uses)) (name_at (used_names us)) c.args.self.now.code (ap (λ (m : Made). m.code) c.self.view_is) (ap (λ (m : Made). m.code) (c.self-2.view_is ∙ c.in_ok-number.ensures.made)) in
    let few : length old.code.items < 4194304 = omega arith in
    table_code old.code.items c.push_named.new.code.items (instruction_with (λ _. c.in_ok-number.number) c.args.instruction.now) old.datums.items old.size us c.in_ok-push_named.ensures.ok few (number_below us c.in_ok-number.number c.args.instruction.now c.name_of.result c.name_of.ensures at) c.self-2.invariant

pub returns-clause-made : goal.returns-clause-made
returns-clause-made c =
    let old = c.self-2.inside in
    let us = old.uses in
    let n = c.in_ok-number.number in
    let i = c.args.instruction.now in
    let o = c.name_of.result in
    let P : Made → Type 0 = λ m. IfSome o (λ x. slice_get (used_names m.uses) n ≡ Some x.now) in
    let at = subst P (sym c.self-2.view_is) c.in_ok-number.ensures.number in
    let seen = made_view old.section old.code.items old.numbers.items old.datums.items old.labels us in
    let new = instruction_with now i in
    view_code old.section old.code.items c.push_named.new.code.items (instruction_with (λ _. n) i) old.numbers.items c.push.new.self.items c.args.line old.datums.items old.labels us c.in_ok-push_named.ensures.ok c.in_ok-push.ensures.items
    ∙ ap (λ j. with_code seen c.args.line j) (numbered us n i o c.name_of.ensures at)
    ∙ ap (λ m. with_code m c.args.line new) (c.self-2.view_is ∙ c.in_ok-number.ensures.made)
    ∙ ap (λ ns. with_code (with_names c.args.self.now c.args.line ns) c.args.line new) (sym (name_used us n i o c.name_of.ensures at))
