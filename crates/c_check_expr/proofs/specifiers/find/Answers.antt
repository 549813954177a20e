use Rattle.std.proofs.Common.{◌≡◌, ℕ, ◌<◌, Bool, true, false, List, [], length, get_or, drop, ◌+◌, refl, sym, ◌∙◌}
use Rattle.std.specs.Prelude.{Some, if◌then◌else◌}
use Rattle.std.proofs.lemmas.List.{at_drop_more}
use Rattle.c_check_expr.specs.Counted.{are_equal, meant_in}
use Rattle.c_check_expr.proofs.SpecifierLists.{equal_numbers}
use Rattle.c_check_expr.proofs.specifiers.find.Goals as goal

-- what the row at a place gives
step : (rs : List (List ℕ × ℕ)) (ns : List ℕ) (i : ℕ) (r : List ℕ × ℕ) (b : Bool) → i < length rs → are_equal ns (get_or rs i r).0 ≡ b →
    meant_in (drop i rs) ns ≡ (if b then Some (get_or rs i r).1 else meant_in (drop (i + 1) rs) ns)
step rs ns i r b l e = at_drop_more (λ qs. meant_in qs ns) rs i r l ∙ rw e refl

pub returns-then-eq : goal.returns-then-eq
returns-then-eq c =
    let rs = c.args.table.now in
    let ns = c.args.counts.now in
    let i = c.loop-words.words-index in
    let e = equal_numbers ns (get_or rs i ([], 0)).0 ∙ sym c.eq.ensures ∙ c.if-eq.true in
    sym (step rs ns i ([], 0) true c.loop-words-test.true e) ∙ c.loop-words.invariant

pub loop-words-preserved : goal.loop-words-preserved
loop-words-preserved c =
    let rs = c.args.table.now in
    let ns = c.args.counts.now in
    let i = c.loop-words.words-index in
    let e = equal_numbers ns (get_or rs i ([], 0)).0 ∙ sym c.eq.ensures ∙ c.if-eq.false in
    sym (step rs ns i ([], 0) false c.loop-words-test.true e) ∙ c.loop-words.invariant
