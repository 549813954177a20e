use Rattle.std.proofs.Common.{length, sym, ap, ◌∙◌, arith}
use Rattle.asm_text.proofs.NameTables.{names_count}
use Rattle.asm_text.proofs.name_table.NameTable.name.Goals as goal

pub name_in-requires-clause-number : goal.name_in-requires-clause-number
name_in-requires-clause-number c =
    let e = sym (names_count 0 c.self.inside.ends.items c.self.inside.bytes.items) ∙ ap length c.self.view_is in
    rw c.deref.ensures.value (omega arith)
