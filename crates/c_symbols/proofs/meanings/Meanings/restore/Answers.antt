use Rattle.std.proofs.Common.{◌+◌, length, drop, get_or, sym, ap, ◌∙◌, arith}
use Rattle.std.specs.Prelude.{None}
use Rattle.std.proofs.lemmas.List.{drop_all}
use Rattle.indexmap.specs.Layout.{length-set_value_at}
use Rattle.c_symbols.specs.declared.hidden.Hidden.{Hidden}
use Rattle.c_symbols.specs.Meanings.{Meant}
use Rattle.c_symbols.specs.Hiding.{restored}
use Rattle.c_symbols.proofs.Steps.{place_at, restored_step}
use Rattle.c_symbols.proofs.meanings.Meanings.restore.Goals as goal

abbrev absent : Hidden
absent = record { place = 0; before = None }

pub set-requires : goal.set-requires
set-requires c =
    let l = c.loop-old in
    let p = place_at c.args.self.now c.args.hidden.now l.old-index absent c.requires (omega arith) in
    omega (arith, p, l.invariant.length)

pub loop-old-preserved : goal.loop-old-preserved
loop-old-preserved c =
    let l = c.loop-old in
    let x = get_or c.args.hidden.now l.old-index absent in
    record {
      length = ap (λ (m : Meant). length m) c.set.ensures ∙ length-set_value_at l.self x.place x.before ∙ l.invariant.length;
      rest = ap (λ (m : Meant). restored m (drop (l.old-index + 1) c.args.hidden.now)) c.set.ensures
          ∙ sym (restored_step l.self c.args.hidden.now l.old-index absent (omega arith)) ∙ l.invariant.rest;
    }

pub returns : goal.returns
returns c =
    let l = c.loop-old in
    sym (ap (restored l.self) (drop_all l.old-index c.args.hidden.now (omega arith))) ∙ l.invariant.rest
