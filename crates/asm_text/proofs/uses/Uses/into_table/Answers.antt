use Rattle.std.proofs.Common.{List, ℕ, ◌++◌, sym, ap, ◌∙◌}
use Rattle.lcc_text.proofs.lemmas.Keys.{now}
use Rattle.asm_text.specs.Uses.{used_names}
use Rattle.asm_text.proofs.Entries.{names_in}
use Rattle.asm_text.proofs.uses.Uses.into_table.Goals as goal

pub loop-name-init : goal.loop-name-init
loop-name-init c =
    let es = c.self.inside.lines.entries in
    ap (λ (ns : List (List ℕ)). ns ++ now c.into_iter-name-iterator.result) c.new-names.ensures ∙ ap now (c.into_iter-name-iterator.ensures.into_iter_gives ∙ c.keys-name-items.ensures.rest) ∙ sym (names_in es) ∙ ap used_names c.self.view_is
