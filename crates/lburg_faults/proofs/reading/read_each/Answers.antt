use Rattle.std.proofs.Common.{◌≡◌, ◌≤◌, ◌+◌, slice_index_or, ℕ, List, length, take, Some, refl, sym, ap, subst, ◌∙◌, inl, inr, arith}
use Rattle.std.specs.Prelude.{slice_get, option_map}
use Rattle.std.proofs.lemmas.List.{length-map, length-take-le, take_all}
use Rattle.std.proofs.lemmas.Option.{slice_get-map, slice_get_read}
use Rattle.std.proofs.lemmas.Result.{err_from_is_err_and}
use Rattle.lburg_lines.specs.Grammar.{line_of}
use Rattle.lburg_lines.specs.Sections.{TokenLine}
use Rattle.lburg_faults.specs.Setting.{Setting}
use Rattle.lburg_faults.specs.Terminals.{declared_in, names_of}
use Rattle.lburg_faults.specs.Knowing.{Knows}
use Rattle.lburg_faults.specs.FirstFault.{setting_of}
use Rattle.lburg_faults.specs.Reads.{line_view, lines_view, AreRulesOf}
use Rattle.lburg_faults.specs.declared.section_line.SectionLine.{SectionLine}
use Rattle.lburg_faults.proofs.TextLines.{setting_is}
use Rattle.lburg_faults.proofs.TextFirst.{FineUpTo, take_next, fine_more, none_stands, first_in_line}
use Rattle.lburg_faults.proofs.TextWritten.{rules_of_more}
use Rattle.lburg_faults.proofs.reading.read_each.Goals as goal

there : (ls : List SectionLine) (i : ℕ) (l : SectionLine) → i + 1 ≤ length ls → l ≡ slice_index_or ls i l → slice_get (lines_view ls) i ≡ Some (line_view l)
there ls i l h e = slice_get-map line_view ls i ∙ ap (option_map line_view) (slice_get_read ls (length ls) i l refl (omega arith) e)

before_count : (ls : List SectionLine) (i : ℕ) → i ≤ length ls → length (take i (lines_view ls)) ≡ i
before_count ls i h = length-take-le i (lines_view ls) (rw length-map h)

pub returns-in_err-line-clause-fault : goal.returns-in_err-line-clause-fault
returns-in_err-line-clause-fault c =
    let p = err_from_is_err_and c.from_residual.result c.from_residual.ensures.1 in
    let ls = c.args.lines.now in
    let all = lines_view ls in
    let i = c.loop-i.i in
    let l = c.index-lines-i.result in
    let h : i + 1 ≤ length ls = omega arith in
    let t = there ls i l h c.index-lines-i.is in
    let n = before_count ls i (omega arith) in
    let s : Setting = setting_of all (take i all) in
    let e = c.in_err-line.ensures.fault s c.loop-i.invariant.knows (omega arith) (setting_is c.args.text.now all i (line_view l) c.requires.lines t) in
    rw (p.1, p.2) (elim e [
      | inl m ↦ inl m
      | inr f ↦ inr (first_in_line all i (line_view l) f.0 f.1 _ c.loop-i.invariant.fine t f.2 f.3)
    ])

pub loop-i-preserved : goal.loop-i-preserved
loop-i-preserved c =
    let ls = c.args.lines.now in
    let all = lines_view ls in
    let i = c.loop-i.i in
    let l = c.index-lines-i.result in
    let h : i + 1 ≤ length ls = omega arith in
    let t = there ls i l h c.index-lines-i.is in
    let n = before_count ls i (omega arith) in
    let s : Setting = setting_of all (take i all) in
    let e = c.in_ok-line.ensures.found s c.loop-i.invariant.knows (omega arith) (setting_is c.args.text.now all i (line_view l) c.requires.lines t) in
    let k = take_next all i (line_view l) t in
    let P : List TokenLine → Type 0 = λ x. Knows (names_of (declared_in all)) x c.read_one.new.known in
    let Q : List TokenLine → Type 0 = λ x. AreRulesOf x c.add.new.self in
    record {
      fine = fine_more all i (line_view l) c.loop-i.invariant.fine t e.1;
      knows = subst P (sym k) e.2;
      rules_of = subst Q (sym k) (rules_of_more (take i all) (line_view l) (line_of c.in_ok-line.line) c.loop-i.rules c.add.new.self (i + 1) c.loop-i.invariant.rules_of e.0 c.in_ok-add.ensures.ok (omega arith));
    }

pub returns-clause-read : goal.returns-clause-read
returns-clause-read c =
    let ls = c.args.lines.now in
    let all = lines_view ls in
    let m : length all ≡ length ls = length-map ls line_view in
    let e : c.loop-i.i ≡ length all = omega arith in
    let k : take c.loop-i.i all ≡ all = take_all c.loop-i.i all (omega arith) in
    let F : ℕ → Type 0 = λ n. FineUpTo all n in
    let P : List TokenLine → Type 0 = λ x. Knows (names_of (declared_in all)) x c.loop-i.known in
    let Q : List TokenLine → Type 0 = λ x. AreRulesOf x c.loop-i.rules in
    record {
      none = none_stands all (subst F e c.loop-i.invariant.fine);
      knows = subst P k c.loop-i.invariant.knows;
      rules_of = subst Q k c.loop-i.invariant.rules_of;
    }
