use Rattle.std.proofs.Common.{refl, inr, ap, arith}
use Rattle.asm_text.specs.Made.{Made}
use Rattle.asm_text.specs.Names.{name_at}
use Rattle.asm_text.specs.Uses.{used_names}
use Rattle.asm_text.proofs.DataAdded.{no_room}
use Rattle.asm_text.proofs.assembly.Assembly.add_datum.Goals as goal

pub returns-then-size-self-clause-fault : goal.returns-then-size-self-clause-fault
returns-then-size-self-clause-fault c =
    let old = c.self.inside in
    inr (refl, no_room (name_at (used_names old.uses)) (name_at (used_names c.args.self.now.uses)) c.args.self.now.datums old.datums.items c.args.datum (ap (λ (m : Made). m.datums) c.self.view_is) (omega arith))
