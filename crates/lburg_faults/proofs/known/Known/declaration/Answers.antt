use Rattle.std.proofs.Common.{refl}
use Rattle.std.proofs.lemmas.Result.{IfOk-weaker, IfErr-weaker}
use Rattle.lburg_lines.specs.Sections.{TokenLine}
use Rattle.lburg_lines.specs.Tokens.{views}
use Rattle.lburg_lines.specs.Grammar.{line_of}
use Rattle.lburg_faults.proofs.EndingParts.{ending_begun}
use Rattle.lburg_faults.proofs.EndingMain.{whole_line}
use Rattle.lburg_faults.proofs.EndingNotes.{declaration_found, declaration_fails}
use Rattle.lburg_faults.proofs.known.Known.declaration.Goals as goal

pub returns-clause-found : goal.returns-clause-found
returns-clause-found c =
    IfOk-weaker c.ended.result _ _ (λ line h s k n set.
    let l : TokenLine = record { section = c.args.here.now.section; tokens = views c.args.tokens.now } in
    let e = c.in_ok-end.end in
    let is = c.in_ok-end.ensures in
    let scanned = c.in_ok-found.ensures.scanned s l k set.terminals c.requires refl (ending_begun l e is) in
    let whole = whole_line l e line is h.1 in
    let known = c.in_ok-found.ensures.known h.0 s l k set.terminals (set.early c.requires) n c.requires refl (line_of line, whole.1) whole.0 in
    declaration_found s l e line c.in_ok-found.found _ c.requires is h.0 h.1 scanned known) c.ended.ensures.ok

pub returns-clause-fault : goal.returns-clause-fault
returns-clause-fault c =
    IfErr-weaker c.ended.result _ _ (λ err h s k n set.
    let l : TokenLine = record { section = c.args.here.now.section; tokens = views c.args.tokens.now } in
    let e = c.in_ok-end.end in
    let is = c.in_ok-end.ensures in
    declaration_fails s l e c.in_ok-found.found err c.requires is (c.in_ok-found.ensures.scanned s l k set.terminals c.requires refl (ending_begun l e is)) h) c.ended.ensures.err
