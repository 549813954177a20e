use Rattle.std.proofs.Common.{length, sym, ap, ◌∙◌}
use Rattle.asm_text.proofs.NameTables.{names_count}
use Rattle.asm_text.proofs.name_table.NameTable.len.Goals as goal

pub returns : goal.returns
returns c = c.len.ensures ∙ (c.self.inside.ends.ok.0 ∙ (sym (names_count 0 c.self.inside.ends.items c.self.inside.bytes.items) ∙ ap length c.self.view_is))
