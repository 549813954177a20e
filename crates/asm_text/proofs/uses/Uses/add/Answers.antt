use Rattle.std.proofs.Common.{◌≡◌, List, sym, ap, subst, ◌∙◌, Some}
use Rattle.std.specs.Prelude.{slice_get, is_some}
use Rattle.std.proofs.lemmas.Result.{IfOk-weaker}
use Rattle.asm_text.specs.Made.{Use, with_use}
use Rattle.asm_text.specs.Uses.{used_names}
use Rattle.asm_text.proofs.Entries.{entries_more, no_place, named_at, with_known, with_new, new_number}
use Rattle.asm_text.proofs.uses.Uses.add.Goals as goal

pub returns-in-Some-clause-uses : goal.returns-in-Some-clause-uses
returns-in-Some-clause-uses c =
    let P : List Use → Type 0 = λ us. us ≡ with_use c.args.line us c.args.name.now in
    let e = subst P c.self.view_is (sym (with_known c.args.line c.args.name.now c.self.inside.lines.entries (sym c.get_index_of.ensures.found ∙ ap is_some c.in-Some.is))) in
    IfOk-weaker c.number_at.result (λ n. n ≡ c.in-Some.place) (λ n. c.args.self.now ≡ with_use c.args.line c.args.self.now c.args.name.now) (λ n h. e) c.number_at.ensures

pub returns-in-Some-clause-number : goal.returns-in-Some-clause-number
returns-in-Some-clause-number c =
    let P : List Use → Type 0 = λ us. slice_get (used_names us) c.in-Some.place ≡ Some c.args.name.now in
    let e = subst P c.self.view_is (named_at c.args.name.now c.self.inside.lines.entries c.in-Some.place (sym c.get_index_of.ensures.index ∙ c.in-Some.is)) in
    IfOk-weaker c.number_at.result (λ n. n ≡ c.in-Some.place) (λ n. slice_get (used_names c.args.self.now) n ≡ Some c.args.name.now) (λ n h. ap (λ i. slice_get (used_names c.args.self.now) i) h ∙ e) c.number_at.ensures

pub returns-clause-uses : goal.returns-clause-uses
returns-clause-uses c =
    let old = c.self.inside.lines in
    let none = sym c.get_index_of.ensures.found ∙ no_place c.get_index_of.result c.in_default.not-Some in
    let e = entries_more old c.insert.new.self.entries c.args.name c.args.line none c.in_ok-insert.ensures.entries in
    with_new c.args.line c.args.name old.entries c.insert.new.self.entries none e ∙ ap (λ us. with_use c.args.line us c.args.name.now) c.self.view_is

pub returns-clause-number : goal.returns-clause-number
returns-clause-number c =
    let old = c.self.inside.lines in
    let none = sym c.get_index_of.ensures.found ∙ no_place c.get_index_of.result c.in_default.not-Some in
    let e = entries_more old c.insert.new.self.entries c.args.name c.args.line none c.in_ok-insert.ensures.entries in
    new_number c.args.line c.in_ok-number.number c.args.name old.entries c.insert.new.self.entries (c.in_ok-number.ensures ∙ c.len.ensures.len) e
