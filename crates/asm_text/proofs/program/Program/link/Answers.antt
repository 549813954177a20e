use Rattle.std.proofs.Common.{◌≡◌, List, ℕ, length, map, drop, ◌∙◌, subst}
use Rattle.asm_lines.specs.declared.instruction.Instruction.{Instruction}
use Rattle.asm_lines.specs.Statements.{instruction_with}
use Rattle.asm_text.specs.declared.datum.Datum.{Datum}
use Rattle.asm_text.specs.Linked.{address_in, linked_name, all_bytes}
use Rattle.asm_text.specs.ProgramTable.{program_view}
use Rattle.asm_text.proofs.LinkedNames.{code_placed, data_placed}
use Rattle.asm_text.proofs.program.Program.link.Goals as goal

pub returns-clause-code : goal.returns-clause-code
returns-clause-code c =
    let p = c.self.inside in
    let view = program_view p.used p.code.items p.numbers.items p.data.items p.label_names p.places.items in
    let P : List (Instruction ℕ) → Type 0 = λ code. c.link_code.new.code ≡ map (instruction_with (address_in c.deref-3.result.now)) code in
    let placed = code_placed (linked_name view.labels) p.used p.code.items c.link_code.new.code (drop (length c.link_code.new.code) p.code.items) c.deref-3.result.now p.code.len p.code.ok.0 (c.deref-3.ensures.value ∙ c.self.invariant.known) c.self.invariant.code_named (subst P c.deref_mut.ensures.value c.link_code.ensures) in
    rw (← c.self.view_is) placed

pub returns-clause-data : goal.returns-clause-data
returns-clause-data c =
    let p = c.self.inside in
    let view = program_view p.used p.code.items p.numbers.items p.data.items p.label_names p.places.items in
    let P : List (Datum ℕ) → Type 0 = λ datums. c.in_ok-data.data.items ≡ all_bytes c.args.order (address_in c.deref.result.now) datums in
    let placed = data_placed c.args.order (linked_name view.labels) p.used p.data.items c.in_ok-data.data.items c.deref.result.now (c.deref.ensures.value ∙ c.self.invariant.known) c.self.invariant.data_named (subst P c.deref-2.ensures.value c.in_ok-data.ensures) in
    rw (← c.self.view_is) placed
