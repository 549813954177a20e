-- Tables of lines: where the names grow, and one line more.
use Rattle.std.proofs.Common.{◌≡◌, ◌<◌, ◌≤◌, ◌+◌, ℕ, suc, List, [], ◌∷◌, ◌++◌, length, map, take, drop, refl, sym, subst, ap, ◌∙◌, arith, length-append}
use Rattle.std.proofs.lemmas.List.{length-map, take_all, take_at, take-append-le, drop-append-le, drop_all}
use Rattle.std.proofs.lemmas.List.Elements.{All-head, All-tail, All-take, All-drop, All-append, All-push, All-weaker}
use Rattle.std.specs.Prelude.{All}
use Rattle.asm_text.specs.declared.lines.Line.{Line}
use Rattle.asm_lines.specs.Statements.{MStatement, told_by}
use Rattle.asm_text.specs.Grown.{HasGrown, AddsLabels}
use Rattle.asm_text.specs.IsPrefix.{IsPrefix}
use Rattle.asm_text.specs.Lines.{MLine}
use Rattle.asm_text.specs.LineTable.{lines_behind, numbers_in, AreLabelCounts, AreLineTable}
use Rattle.asm_text.specs.Names.{name_at}
use Rattle.asm_text.specs.ProgramTable.{AreBelow}
use Rattle.asm_text.proofs.GrownNames.{grown_more, below_grown, names_grown}
use Rattle.asm_text.proofs.OtherNames.{names_same, told_same}

-- ---- more names

module _ (old new : List (List ℕ)) (g : HasGrown old new) where
  abbrev Named : Line → Type 0
  Named line = AreBelow (length old) (numbers_in line.statement)

  -- the lines are the same
  pub lines_grown : (number : ℕ) (labels : List ℕ) (lines : List Line) → AreBelow (length old) labels → All Named lines → lines_behind new number labels lines ≡ lines_behind old number labels lines
  lines_grown number labels [] h k = refl
  lines_grown number labels (line ∷ lines) h k =
      let own = take line.labels labels in
      let l = names_same (name_at new) (name_at old) own (names_grown old new own g (All-take (λ n. n < length old) line.labels labels h)) in
      let s = told_same (name_at new) (name_at old) line.statement (names_grown old new (numbers_in line.statement) g (All-head Named line lines k)) in
      let r = lines_grown (number + 1) (drop line.labels labels) lines (All-drop (λ n. n < length old) line.labels labels h) (All-tail Named line lines k) in
      rw (l, s, r) refl

  pub table_grown : (labels : List ℕ) (lines : List Line) → AreLineTable old labels lines → AreLineTable new labels lines
  table_grown labels lines t = record {
    named = below_grown old new labels g t.named;
    statements = All-weaker Named (λ (l : Line). AreBelow (length new) (numbers_in l.statement)) (λ l. below_grown old new (numbers_in l.statement) g) lines t.statements;
    counts = t.counts;
  }

-- ---- one line more

pub lines_count : (names : List (List ℕ)) (number : ℕ) (labels : List ℕ) (lines : List Line) → length (lines_behind names number labels lines) ≡ length lines
lines_count names number labels [] = refl
lines_count names number labels (line ∷ lines) = ap suc (lines_count names (number + 1) (drop line.labels labels) lines)

abbrev line_with : List (List ℕ) → MStatement → ℕ → MLine
line_with labels s number = record { labels = labels; statement = s; number = number }

abbrev line_of : List (List ℕ) → List ℕ → Line → ℕ → MLine
line_of names labels line number = line_with (map (name_at names) labels) (told_by (name_at names) line.statement) number

pub counts_more : (labels more : List ℕ) (lines : List Line) (line : Line) → AreLabelCounts labels lines → line.labels ≡ length more → AreLabelCounts (labels ++ more) (lines ++ line ∷ [])
counts_more labels more [] line c e =
    let a : labels ++ more ≡ more = ap (λ (l : List ℕ). l ++ more) c in
    (omega (arith, ap length a), drop_all line.labels (labels ++ more) (omega (arith, ap length a)))
counts_more labels more (first ∷ lines) line c e =
    (omega (arith, c.0, length-append labels more), subst (λ (ls : List ℕ). AreLabelCounts ls (lines ++ line ∷ [])) (sym (drop-append-le first.labels labels more c.0)) (counts_more (drop first.labels labels) more lines line c.1 e))

pub lines_more : (names : List (List ℕ)) (number : ℕ) (labels more : List ℕ) (lines : List Line) (line : Line) → AreLabelCounts labels lines → line.labels ≡ length more → lines_behind names number (labels ++ more) (lines ++ line ∷ []) ≡ lines_behind names number labels lines ++ line_of names more line (number + length lines) ∷ []
lines_more names number labels more [] line c e =
    let a : labels ++ more ≡ more = ap (λ (l : List ℕ). l ++ more) c in
    let t : take line.labels (labels ++ more) ≡ more = take_all line.labels (labels ++ more) (omega (arith, ap length a)) ∙ a in
    let n : number ≡ number + 0 = omega arith in
    ap (λ (ls : List ℕ). line_of names ls line number ∷ []) t ∙ ap (λ (k : ℕ). line_of names more line k ∷ []) n
lines_more names number labels more (first ∷ lines) line c e =
    let t = take-append-le first.labels labels more c.0 in
    let d = drop-append-le first.labels labels more c.0 in
    let r = lines_more names (number + 1) (drop first.labels labels) more lines line c.1 e in
    let n : number + 1 + length lines ≡ number + length (first ∷ lines) = omega arith in
    ap (λ (ls : List ℕ). line_of names ls first number ∷ lines_behind names (number + 1) (drop first.labels (labels ++ more)) (lines ++ line ∷ [])) t ∙ ap (λ (ls : List ℕ). line_of names (take first.labels labels) first number ∷ lines_behind names (number + 1) ls (lines ++ line ∷ [])) d ∙ ap (λ (ms : List MLine). line_of names (take first.labels labels) first number ∷ ms) r ∙ ap (λ (k : ℕ). line_of names (take first.labels labels) first number ∷ (lines_behind names (number + 1) (drop first.labels labels) lines ++ line_of names more line k ∷ [])) n

module _ (names : List (List ℕ)) (old new : List ℕ) (before after : List Line) (labels : List (List ℕ)) (line : Line) (a : AddsLabels names old new labels) (t : AreLineTable names old before) (e : after ≡ before ++ line ∷ []) (n : line.labels ≡ length labels) where
  counted : line.labels ≡ length a.more
  counted = n ∙ ap length (sym a.same) ∙ length-map a.more (name_at names)

  table_more : AreBelow (length names) (numbers_in line.statement) → AreLineTable names new after
  table_more h = record {
    named = subst (λ (ls : List ℕ). AreBelow (length names) ls) (sym a.adds) (All-append (λ n. n < length names) old a.more t.named a.below);
    statements = subst (λ (ls : List Line). All (λ (l : Line). AreBelow (length names) (numbers_in l.statement)) ls) (sym e) (All-push (λ (l : Line). AreBelow (length names) (numbers_in l.statement)) before line t.statements h);
    counts = subst (λ (ls : List Line). AreLabelCounts new ls) (sym e) (subst (λ (ls : List ℕ). AreLabelCounts ls (before ++ line ∷ [])) (sym a.adds) (counts_more old a.more before line t.counts counted));
  }

  view_more : lines_behind names 1 new after ≡ lines_behind names 1 old before ++ record { labels = labels; statement = told_by (name_at names) line.statement; number = length (lines_behind names 1 old before) + 1 } ∷ []
  view_more =
      let seen = lines_behind names 1 old before in
      let k : 1 + length before ≡ length seen + 1 = omega (arith, lines_count names 1 old before) in
      ap (λ (ls : List ℕ). lines_behind names 1 ls after) a.adds ∙ ap (λ (ls : List Line). lines_behind names 1 (old ++ a.more) ls) e ∙ lines_more names 1 old a.more before line t.counts counted ∙ ap (λ (ls : List (List ℕ)). seen ++ line_with ls (told_by (name_at names) line.statement) (1 + length before) ∷ []) a.same ∙ ap (λ (m : ℕ). seen ++ line_with labels (told_by (name_at names) line.statement) m ∷ []) k

-- ---- the line that was added, when the names had grown twice

module _ (first mid last : List (List ℕ)) (old new : List ℕ) (before after : List Line) (labels : List (List ℕ)) (line : Line) (g : HasGrown first mid) (h : HasGrown mid last) (t : AreLineTable first old before) (a : AddsLabels last old new labels) (e : after ≡ before ++ line ∷ []) (n : line.labels ≡ length labels) (b : AreBelow (length mid) (numbers_in line.statement)) where
  pub table_pushed : AreLineTable last new after
  table_pushed = table_more last old new before after labels line a (table_grown first last (grown_more first mid last g h) old before t) e n (below_grown mid last (numbers_in line.statement) h b)

  pub view_pushed : (m : MStatement) (seen : List MLine) → told_by (name_at mid) line.statement ≡ m → lines_behind first 1 old before ≡ seen → lines_behind last 1 new after ≡ seen ++ record { labels = labels; statement = m; number = length seen + 1 } ∷ []
  view_pushed m seen f v =
      let grown = grown_more first mid last g h in
      let w = lines_grown first last grown 1 old before t.named t.statements ∙ v in
      let s = told_same (name_at last) (name_at mid) line.statement (names_grown mid last (numbers_in line.statement) h b) ∙ f in
      view_more last old new before after labels line a (table_grown first last grown old before t) e n ∙ ap (λ (ms : List MLine). ms ++ line_with labels (told_by (name_at last) line.statement) (length ms + 1) ∷ []) w ∙ ap (λ (k : MStatement). seen ++ line_with labels k (length seen + 1) ∷ []) s

-- ---- the lines as they were, when labels were added and taken away again

pub view_kept : (first last : List (List ℕ)) (old new back : List ℕ) (before after : List Line) (seen : List MLine) → HasGrown first last → AreLineTable first old before → IsPrefix old new → back ≡ take (length old) new → after ≡ before → lines_behind first 1 old before ≡ seen → lines_behind last 1 back after ≡ seen
view_kept first last old new back before after seen g t p b e v =
    let k : back ≡ old = b ∙ ap (take (length old)) (sym p.1) ∙ take_at old p.0 (length old) refl in
    ap (λ (ls : List ℕ). lines_behind last 1 ls after) k ∙ ap (λ (ls : List Line). lines_behind last 1 old ls) e ∙ lines_grown first last g 1 old before t.named t.statements ∙ v
