use Rattle.std.proofs.Common.{◌≡◌, ◌-◌, get_or, arith}
use Rattle.std.proofs.lemmas.Option.{slice_get-get_or}
use Rattle.asm_text.proofs.NameTables.{NameStands, name_stands}
use Rattle.asm_text.proofs.name_table.name_in.Goals as goal
use Rattle.asm_text.proofs.name_table.name_in.Goals.{After-start_of-start}

stands : (c : After-start_of-start) → NameStands 0 c.start_of-start.result (get_or c.args.ends.now c.args.number 0) c.args.number c.args.ends.now c.args.bytes.now
stands c = name_stands 0 c.start_of-start.result (get_or c.args.ends.now c.args.number 0) c.args.number c.args.ends.now c.args.bytes.now c.requires.ends c.start_of-start.ensures (slice_get-get_or c.args.ends.now c.args.number 0 c.requires.number)

pub slice_bounds-result-count : goal.slice_bounds-result-count
slice_bounds-result-count c = (stands (goal.at.slice_bounds-result-count c).After-start_of-start).rises

pub slice_bounds-result-start : goal.slice_bounds-result-start
slice_bounds-result-start c =
    let s = stands (goal.at.slice_bounds-result-start c).After-start_of-start in
    omega (arith, s.rises, s.within)

pub slice_bounds-result-end : goal.slice_bounds-result-end
slice_bounds-result-end c =
    let s = stands (goal.at.slice_bounds-result-end c).After-start_of-start in
    omega (arith, s.rises, s.within)

pub returns : goal.returns
returns c =
    let s = stands (goal.at.returns c).After-start_of-start in
    let z : c.start_of-start.result - 0 ≡ c.start_of-start.result = omega arith in
    rw z at s.is
