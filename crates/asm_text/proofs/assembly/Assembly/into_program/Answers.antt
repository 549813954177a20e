use Rattle.std.proofs.Common.{ap, subst, ◌∙◌}
use Rattle.std.specs.Prelude.{All}
use Rattle.asm_text.specs.Addresses.{IsKnown}
use Rattle.asm_text.specs.Made.{Made}
use Rattle.asm_text.specs.Makes.{program_of}
use Rattle.asm_text.proofs.ProgramMade.{program_seen, program_table}
use Rattle.asm_text.proofs.assembly.Assembly.into_program.Goals as goal

pub invariant_of-result : goal.invariant_of-result
invariant_of-result c =
    let a = c.self.inside in
    let t = c.in_ok-label_names in
    program_table a.code.items a.numbers.items a.datums.items a.labels a.uses c.in_ok-used.used t.label_names t.places.items c.in_ok-used.ensures t.ensures a.size c.in_ok-addresses.addresses.items c.main_of-main.result c.self.invariant c.in_ok-addresses.ensures.found c.main_of-main.ensures

pub returns-clause-program : goal.returns-clause-program
returns-clause-program c =
    let a = c.self.inside in
    let t = c.in_ok-label_names in
    program_seen a.code.items a.numbers.items a.datums.items a.labels a.uses c.in_ok-used.used t.label_names t.places.items c.in_ok-used.ensures t.ensures a.section ∙ ap program_of c.self.view_is

pub returns-clause-known : goal.returns-clause-known
returns-clause-known c =
    let P : Made → Type 0 = λ m. All (λ u. IsKnown m.labels u.name) m.uses in
    subst P c.self.view_is c.in_ok-addresses.ensures.known
