use Rattle.std.proofs.Common.{◌≡◌, ℕ, ◌++◌, ◌∷◌, List, [], length, sym, ap, subst, ◌∙◌, append_assoc, arith, rules}
use Rattle.std.proofs.lemmas.List.{map_push, append-nil, length_push}
use Rattle.std.proofs.lemmas.Bool.{false≢true}
use Rattle.lcc_text.specs.Lines.{lines_of}
use Rattle.lburg_lines.specs.declared.section.Section.{Section}
use Rattle.lburg_lines.specs.declared.section.Section.TheVariants.{Head, Tail}
use Rattle.lburg_lines.specs.Tokens.{views}
use Rattle.lburg_lines.specs.Sections.{section_behind, TokenLine, AreLinesFrom}
use Rattle.lburg_faults.specs.declared.section_line.SectionLine.{SectionLine}
use Rattle.lburg_faults.specs.Reads.{lines_view}
use Rattle.lburg_faults.proofs.TextLines.{no_more, at_tail, one_more}
use Rattle.lburg_faults.proofs.section_line.section_lines.Goals as goal

pub returns-then-eq-clause-are : goal.returns-then-eq-clause-are
returns-then-eq-clause-are c =
    let e : c.loop-line.section ≡ Tail = search rules in
    rw (← append-nil (lines_view c.loop-line.lines.items)) (c.loop-line.invariant.are [] (at_tail c.loop-line.section (lines_of c.loop-line.rest.now) e))

pub returns-clause-are : goal.returns-clause-are
returns-clause-are c =
    let e : lines_of c.loop-line.rest.now ≡ [] = c.in_default.ensures.none in
    let P : List (List ℕ) → Type 0 = λ x. AreLinesFrom c.loop-line.section x [] in
    rw (← append-nil (lines_view c.loop-line.lines.items)) (c.loop-line.invariant.are [] (subst P (sym e) (no_more c.loop-line.section)))

pub loop-line-preserved : goal.loop-line-preserved
loop-line-preserved c =
    let n : c.loop-line.section ≡ Tail → ⊥ = λ e. (let g = rw e at c.if-eq.ensures in false≢true g) in
    let v : views c.in_ok-tokens.tokens.items ≡ views c.deref.result.now = ap views (sym c.deref.ensures.value) in
    let tokens = views c.in_ok-tokens.tokens.items in
    let here : TokenLine = record { section = c.loop-line.section; tokens = tokens } in
    let b : c.behind-next.result ≡ section_behind c.loop-line.section tokens = c.behind-next.ensures ∙ ap (section_behind c.loop-line.section) (sym v) in
    let e : lines_view c.push.new.self.items ≡ lines_view c.loop-line.lines.items ++ here ∷ [] = rw c.in_ok-push.ensures.items (map_push _ c.loop-line.lines.items _) in
    record {
      few = (let m = ap length c.in_ok-push.ensures.items in omega (arith, m, length_push {X = SectionLine}, c.in-Some.ensures.shorter, c.loop-line.invariant.few));
      are = λ all h.
          let P : Section → Type 0 = λ s. AreLinesFrom s (lines_of c.in-Some.behind.now) all in
          let Q : List (List ℕ) → Type 0 = λ x. AreLinesFrom c.loop-line.section x (here ∷ all) in
          let R : List TokenLine → Type 0 = λ x. AreLinesFrom Head (lines_of c.args.text.now) x in
          let m = one_more c.loop-line.section c.in-Some.line.now (lines_of c.in-Some.behind.now) tokens all n c.in_ok-tokens.ensures (subst P b h) in
          let f : lines_view c.loop-line.lines.items ++ here ∷ all ≡ lines_view c.push.new.self.items ++ all = sym (append_assoc (lines_view c.loop-line.lines.items) (here ∷ []) all) ∙ ap (λ x. x ++ all) (sym e) in
          subst R f (c.loop-line.invariant.are (here ∷ all) (subst Q (sym c.in-Some.ensures.some) m));
    }
