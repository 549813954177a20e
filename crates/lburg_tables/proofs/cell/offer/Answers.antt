use Rattle.std.proofs.Common.{List, Option, IsTrue, false, refl, sym, subst, arith}
use Rattle.lburg_tables.specs.Row.{Beats, Offered, Placed}
use Rattle.lburg_tables.specs.declared.cell.Cell.{Cell}
use Rattle.lburg_tables.specs.RowOf.{row_of}
use Rattle.lburg_tables.proofs.lemmas.RowLaws.{seen_set, declined_at, beats_not, beats_none, beats_greater}
use Rattle.lburg_tables.proofs.cell.offer.Goals.{else-old-new-via-then-old-new+then-is_at_most+else-old-ne0, else-old-new-via-then-old-new+else-is_at_most, else-old-new-via-else-old-new}
use Rattle.lburg_tables.proofs.cell.offer.Goals as goal

pub returns-then-old-ne0-clause-offered : goal.returns-then-old-ne0-clause-offered
returns-then-old-ne0-clause-offered c = declined_at c.args.row.now c.args.n _ c.args.new c.requires.within c.if-old-ne0.true (c.if-is_at_most.ensures.0 refl)

pub returns-then-old-ne0-clause-stored : goal.returns-then-old-ne0-clause-stored
returns-then-old-ne0-clause-stored c = (λ no. absurd (let h : IsTrue false = no in cc), λ beats. absurd (beats_not c.args.row.now c.args.n _ c.args.new c.requires.within c.if-old-ne0.true (c.if-is_at_most.ensures.0 refl) beats))

pub returns-clause-offered : goal.returns-clause-offered
returns-clause-offered c =
    let row = c.args.row.now in
    let n = c.args.n in
    let new = c.args.new in
    let beats : Beats (row_of row) n new = elim c.else-old-new.branch [
      | else-old-new-via-then-old-new+then-is_at_most+else-old-ne0 w ↦ beats_none row n _ new c.requires.within w.if-old-ne0.false
      | else-old-new-via-then-old-new+else-is_at_most w ↦ beats_greater row n _ new c.requires.within (λ le. let no : IsTrue false = w.if-is_at_most.ensures.1 le in cc)
      | else-old-new-via-else-old-new w ↦ beats_greater row n (record { cost = 0; count = 0; rule = 0 }) new c.requires.within (λ le. let least = le.0 in let less = w.if-old-new.false in absurd (omega arith))
    ] in
    let Row : List (Option Cell) → Type 0 = λ x. Offered (row_of row) n new x in
    subst Row (sym (seen_set row n new c.requires.some)) (Placed beats)
