use Rattle.std.proofs.Common.{◌≡◌, List, [], ◌∷◌, ℕ, sym, ap, ◌∙◌}
use Rattle.std.specs.Prelude.{option_map}
use Rattle.std.specs.Borrow.{Bor}
use Rattle.std.proofs.lemmas.Result.{IfOk-weaker}
use Rattle.asm_text.specs.Added.{with_names}
use Rattle.asm_text.specs.Made.{with_use}
use Rattle.asm_text.specs.MadeTable.{made_view}
use Rattle.asm_text.specs.Names.{name_in}
use Rattle.asm_text.proofs.Growing.{Grows, grows_call, table_kept, view_kept}
use Rattle.asm_text.proofs.assembly.Assembly.use_name.Goals as goal

pub invariant_of-self : goal.invariant_of-self
invariant_of-self c =
    let old = c.self.inside in
    table_kept old.uses c.add.new.self (grows_call c.add.result c.args.line old.uses c.add.new.self c.in-Some.name.now c.add.ensures.uses c.add.ensures.unchanged) old.code.items old.datums.items old.size c.self.invariant

pub returns-in-Some-clause-made : goal.returns-in-Some-clause-made
returns-in-Some-clause-made c =
    let old = c.self.inside in
    let name = c.in-Some.name.now in
    let more = c.add.new.self in
    let g : Grows old.uses more = grows_call c.add.result c.args.line old.uses more name c.add.ensures.uses c.add.ensures.unchanged in
    let seen = made_view old.section old.code.items old.numbers.items old.datums.items old.labels old.uses in
    let e = view_kept old.uses more g old.section old.code.items old.numbers.items old.datums.items old.labels old.size c.self.invariant in
    IfOk-weaker c.add.result (λ n. more ≡ with_use c.args.line old.uses name) (λ n. made_view old.section old.code.items old.numbers.items old.datums.items old.labels more ≡ with_names c.args.self.now c.args.line (name_in (option_map (λ (x : Bor (List ℕ)). x.now) c.args.name))) (λ n h. e ∙ ap (λ us. record seen { uses = us }) h ∙ ap (λ m. with_names m c.args.line (name ∷ [])) c.self.view_is ∙ ap (λ o. with_names c.args.self.now c.args.line (name_in (option_map (λ (x : Bor (List ℕ)). x.now) o))) (sym c.in-Some.is)) c.add.ensures.uses
