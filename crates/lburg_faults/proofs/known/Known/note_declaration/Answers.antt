use Rattle.std.proofs.Common.{sym, ◌∙◌, subst}
use Rattle.std.specs.Prelude.{codes}
use Rattle.lburg_lines.specs.Tokens.{views}
use Rattle.lburg_faults.specs.Declaring.{NotesWhole}
use Rattle.lburg_faults.proofs.DeclareNotes.{scans_terms, notes_terms, notes_other, notes_blank, keyword_first, keyword_other}
use Rattle.lburg_faults.proofs.known.Known.note_declaration.Goals as goal

pub returns-then-bound-eq0-clause-known : goal.returns-then-bound-eq0-clause-known
returns-then-bound-eq0-clause-known c = λ _.
    subst (NotesWhole c.args.self.now c.args.self.now c.args.here.now.text.now c.args.here.now.number (views c.args.tokens.now)) (sym c.if-bound-eq0.true) (notes_blank c.args.self.now c.args.here.now.text.now c.args.here.now.number (views c.args.tokens.now))

pub returns-then-is_some-clause-scanned : goal.returns-then-is_some-clause-scanned
returns-then-is_some-clause-scanned c =
    let k = keyword_first c.after_keyword.result (λ x. views x.now) (views c.args.tokens.now) c.as_slice.result.now (codes "term") c.as_slice.ensures (sym c.is_some.ensures ∙ c.if-is_some.true) c.after_keyword.ensures.some in
    scans_terms c.declare_terms.result c.args.self.now c.args.here.now.text.now (views c.args.tokens.now) k.0 c.args.bound k.1 c.declare_terms.ensures.fails c.declare_terms.ensures.fit

pub returns-then-is_some-clause-known : goal.returns-then-is_some-clause-known
returns-then-is_some-clause-known c =
    let k = keyword_first c.after_keyword.result (λ x. views x.now) (views c.args.tokens.now) c.as_slice.result.now (codes "term") c.as_slice.ensures (sym c.is_some.ensures ∙ c.if-is_some.true) c.after_keyword.ensures.some in
    notes_terms c.declare_terms.result c.args.self.now c.declare_terms.new.self c.args.here.now.text.now c.args.here.now.number (views c.args.tokens.now) k.0 c.args.bound k.1 c.declare_terms.ensures.fit c.declare_terms.ensures.adds

pub returns-clause-known : goal.returns-clause-known
returns-clause-known c = λ _.
    notes_other c.args.self.now c.args.here.now.text.now c.args.here.now.number (views c.args.tokens.now) c.args.bound (
      keyword_other c.after_keyword.result (views c.args.tokens.now) c.as_slice.result.now (codes "term") c.as_slice.ensures (sym c.is_some.ensures ∙ c.if-is_some.false) c.after_keyword.ensures.none,
      keyword_other c.after_keyword-2.result (views c.args.tokens.now) c.as_slice-2.result.now (codes "start") c.as_slice-2.ensures (sym c.is_some-2.ensures ∙ c.if-is_some-2.false) c.after_keyword-2.ensures.none,
    )
