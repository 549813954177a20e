use Rattle.std.proofs.Common.{◌≡◌, ℕ, ◌==◌, Bool, true, false, List, [], length, refl, sym, ap, subst, inl, inr, arith}
use Rattle.std.specs.Vec.{vec_len}
use Rattle.std.proofs.lemmas.Bool.Decides.{nat_tests}
use Rattle.std.proofs.lemmas.List.{nil_from_length}
use Rattle.std.proofs.lemmas.Result.{err_from_is_err_and}
use Rattle.lcc_text.specs.Lines.{lines_of}
use Rattle.lburg_lines.specs.declared.section.Section.TheVariants.{Head}
use Rattle.lburg_lines.specs.Sections.{AreLinesFrom}
use Rattle.lburg_faults.specs.declared.section_line.SectionLine.{SectionLine}
use Rattle.lburg_faults.specs.Terminals.{declared_in, names_of}
use Rattle.lburg_faults.specs.Reads.{lines_view}
use Rattle.lburg_faults.proofs.TextAll.{same_length, no_rule_fault, unruled_fault, is_checked}
use Rattle.lburg_faults.proofs.reading.read_checked.Goals as goal

lines_are : (text : List ℕ) (ls ms : List SectionLine) → ls ≡ ms → AreLinesFrom Head (lines_of text) (lines_view ms) → AreLinesFrom Head (lines_of text) (lines_view ls)
lines_are text ls ms e p = let P : List SectionLine → Type 0 = λ x. AreLinesFrom Head (lines_of text) (lines_view x) in subst P (sym e) p

emptied : (len n : ℕ) (b : Bool) → b ≡ (len == 0) → n ≡ len → b ≡ true → n ≡ 0
emptied len n b e f g = grind (arith, nat_tests)

filled : (len n : ℕ) (b : Bool) → b ≡ (len == 0) → n ≡ len → b ≡ false → n ≡ 0 → ⊥
filled len n b e f g h = grind (arith, nat_tests)

pub read_each-requires-clause-fresh : goal.read_each-requires-clause-fresh
read_each-requires-clause-fresh c = c.new-known.ensures (names_of (declared_in (lines_view c.deref.result.now)))

pub returns-in_err-rules-clause-fault : goal.returns-in_err-rules-clause-fault
returns-in_err-rules-clause-fault c =
    let p = err_from_is_err_and c.from_residual-in_err-rules.result c.from_residual-in_err-rules.ensures.1 in
    let q = lines_are c.args.text.now c.deref.result.now c.in_ok-lines.lines.items c.deref.ensures.value c.in_ok-lines.ensures.are in
    rw (p.1, p.2) (elim c.in_err-rules.ensures.fault [
      | inl m ↦ inl m
      | inr f ↦ inr (record { lines = lines_view c.deref.result.now; are = q; first = inl f })
    ])

pub returns-then-is_empty-clause-fault : goal.returns-then-is_empty-clause-fault
returns-then-is_empty-clause-fault c =
    let q = lines_are c.args.text.now c.deref.result.now c.in_ok-lines.lines.items c.deref.ensures.value c.in_ok-lines.ensures.are in
    let v = c.in_ok-rules.rules.lines in
    let n : length v.items ≡ vec_len v = omega (arith, v.ok.0) in
    let e = nil_from_length v.items (emptied (vec_len v) (length v.items) c.is_empty.result c.is_empty.ensures n c.if-is_empty.true) in
    inr (no_rule_fault c.args.text.now (lines_view c.deref.result.now) c.in_ok-rules.rules c.read_each.new.known c.last_line.result q c.in_ok-rules.ensures.read e c.last_line.ensures)

pub check_ruled-requires : goal.check_ruled-requires
check_ruled-requires c = same_length (lines_view c.deref.result.now) c.in_ok-rules.rules c.read_each.new.known c.in_ok-rules.ensures.read

pub returns-in_err-check_ruled-clause-fault : goal.returns-in_err-check_ruled-clause-fault
returns-in_err-check_ruled-clause-fault c =
    let p = err_from_is_err_and c.from_residual-in_err-check_ruled.result c.from_residual-in_err-check_ruled.ensures.1 in
    let q = lines_are c.args.text.now c.deref.result.now c.in_ok-lines.lines.items c.deref.ensures.value c.in_ok-lines.ensures.are in
    let a = c.in_ok-rules.ensures.read in
    let v = c.in_ok-rules.rules.lines in
    let n : length v.items ≡ vec_len v = omega (arith, v.ok.0) in
    let h : v.items ≡ [] → ⊥ = λ e. filled (vec_len v) (length v.items) c.is_empty.result c.is_empty.ensures n c.if-is_empty.false (ap length e) in
    rw (p.1, p.2) (elim c.in_err-check_ruled.ensures.fault [
      | inl m ↦ inl m
      | inr f ↦ inr (unruled_fault c.args.text.now (lines_view c.deref.result.now) c.in_ok-rules.rules c.read_each.new.known _ q a h (f (lines_view c.deref.result.now) a))
    ])

pub returns-clause-found : goal.returns-clause-found
returns-clause-found c =
    let q = lines_are c.args.text.now c.deref.result.now c.in_ok-lines.lines.items c.deref.ensures.value c.in_ok-lines.ensures.are in
    let a = c.in_ok-rules.ensures.read in
    let v = c.in_ok-rules.rules.lines in
    let n : length v.items ≡ vec_len v = omega (arith, v.ok.0) in
    let h : v.items ≡ [] → ⊥ = λ e. filled (vec_len v) (length v.items) c.is_empty.result c.is_empty.ensures n c.if-is_empty.false (ap length e) in
    is_checked c.args.text.now (lines_view c.deref.result.now) c.in_ok-rules.rules c.read_each.new.known _ q a h (c.in_ok-check_ruled.ensures.ruled (lines_view c.deref.result.now) a) refl refl refl c.start_name.ensures refl
