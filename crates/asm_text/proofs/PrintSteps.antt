-- The steps of loops that print.
use Rattle.std.proofs.Common.{◌≡◌, ◌<◌, ◌≤◌, ◌+◌, ◌-◌, ℕ, zero, suc, Some, List, [], ◌∷◌, ◌++◌, length, map, take, drop, get_or, refl, sym, subst, ap, ◌∙◌, append_assoc, arith, length-drop}
use Rattle.std.proofs.lemmas.List.{at_drop_more, drop_more, take_more, take_all, map_more}
use Rattle.std.proofs.lemmas.List.Elements.{All-push, All-tail, All-drop}
use Rattle.std.proofs.lemmas.Option.{get_or_from_slice_get}
use Rattle.std.specs.Prelude.{All, slice_get}
use Rattle.asm_lines.specs.declared.statement.Item.{Item}
use Rattle.asm_lines.specs.declared.statement.Statement.{Statement}
use Rattle.asm_lines.specs.declared.statement.Statement.TheVariants as statement
use Rattle.asm_lines.specs.Printed.{printed_label, printed_statement}
use Rattle.asm_lines.specs.Statements.{told_by, Global}
use Rattle.asm_text.specs.declared.lines.Line.{Line}
use Rattle.asm_text.specs.LineBack.{IsLabelBack, IsStatementBack, IsLineBack}
use Rattle.asm_text.specs.LineTable.{lines_behind, numbers_of_items, numbers_in, AreLabelCounts, AreLineTable}
use Rattle.asm_text.specs.Lines.{MLine}
use Rattle.asm_text.specs.Names.{name_at, name_in}
use Rattle.asm_text.specs.Printed.{labels_text, line_text, lines_text}
use Rattle.asm_text.specs.ProgramTable.{AreBelow}
use Rattle.asm_text.proofs.LineTables.{lines_count}
use Rattle.asm_text.proofs.ReadBack.{line_back}
use Rattle.asm_text.proofs.Split.{All-left, All-right}

-- ---- items

pub item_below : (count : ℕ) (items : List (Item ℕ)) (i : ℕ) (d : Item ℕ) → i < length items → AreBelow count (numbers_of_items items) → AreBelow count (name_in (get_or items i d).name)
item_below count [] i d l h = absurd (omega arith)
item_below count (item ∷ items) zero d l h = All-left (λ n. n < count) (name_in item.name) (numbers_of_items items) h
item_below count (item ∷ items) (suc i) d l h =
    item_below count items i d (omega arith) (All-right (λ n. n < count) (name_in item.name) (numbers_of_items items) h)

-- ---- a name that is seen from outside

pub global_told : (names : List (List ℕ)) (s : Statement ℕ) (n : ℕ) (name : List ℕ) → s ≡ statement.Global n → slice_get names n ≡ Some name → told_by (name_at names) s ≡ Global name
global_told names s n name e h =
    ap (λ (s : Statement ℕ). told_by (name_at names) s) e ∙ ap (λ (l : List ℕ). Global l) (get_or_from_slice_get names n name [] h)

-- ---- labels

pub label_text : (f : ℕ → List ℕ) (now new full : List ℕ) (labels : List ℕ) (i d : ℕ) → i < length labels → now ++ labels_text (map f (drop i labels)) ≡ full → new ≡ now ++ printed_label (f (get_or labels i d)) → new ++ labels_text (map f (drop (i + 1) labels)) ≡ full
label_text f now new full labels i d l h e =
    let rest = labels_text (map f (drop (i + 1) labels)) in
    let label = printed_label (f (get_or labels i d)) in
    let a : labels_text (map f (drop i labels)) ≡ label ++ rest = at_drop_more (λ (ls : List ℕ). labels_text (map f ls)) labels i d l in
    ap (λ (t : List ℕ). t ++ rest) e ∙ append_assoc now label rest ∙ ap (λ (t : List ℕ). now ++ t) (sym a) ∙ h

pub label_more : (f : ℕ → List ℕ) (labels : List ℕ) (i d : ℕ) → i < length labels → All IsLabelBack (map f (take i labels)) → IsLabelBack (f (get_or labels i d)) → All IsLabelBack (map f (take (i + 1) labels))
label_more f labels i d l h p =
    subst (λ (ns : List (List ℕ)). All IsLabelBack ns) (sym (map_more f labels i d l)) (All-push IsLabelBack (map f (take i labels)) (f (get_or labels i d)) h p)

pub label_all : (f : ℕ → List ℕ) (labels : List ℕ) (i : ℕ) → length labels ≤ i → All IsLabelBack (map f (take i labels)) → All IsLabelBack (map f labels)
label_all f labels i l h = subst (λ (ns : List ℕ). All IsLabelBack (map f ns)) (take_all i labels l) h

-- ---- lines

-- the line at a place of a list, and what stands behind it
place : {A : Type 0} (xs : List A) (i : ℕ) (x : A) (rest : List A) → drop i xs ≡ x ∷ rest → (i < length xs) × (get_or xs i x ≡ x) × (drop (i + 1) xs ≡ rest)
place {A} xs i x rest e =
    let l : i < length xs = omega (arith, ap length e, length-drop i xs) in
    let m : get_or xs i x ∷ drop (i + 1) xs ≡ x ∷ rest = sym (drop_more xs i x l) ∙ e in
    (l, cc, cc)

module _ (names : List (List ℕ)) (rest own behind : List ℕ) (lines : List Line) (i : ℕ) (line : Line) (l : i < length lines) (is : line ≡ get_or lines i line) (t : AreLineTable names rest (drop i lines)) (f : own ≡ take line.labels rest) (g : behind ≡ drop line.labels rest) where
  abbrev tail : List Line
  tail = drop (i + 1) lines

  table : AreLineTable names rest (line ∷ tail)
  table = subst (λ (ls : List Line). AreLineTable names rest ls) (drop_more lines i line l ∙ ap (λ (x : Line). x ∷ tail) (sym is)) t

  pub table_next : AreLineTable names behind tail
  table_next = record {
    named = subst (λ (ls : List ℕ). AreBelow (length names) ls) (sym g) (All-drop (λ n. n < length names) line.labels rest table.named);
    statements = All-tail (λ (l : Line). AreBelow (length names) (numbers_in l.statement)) line tail table.statements;
    counts = subst (λ (ls : List ℕ). AreLabelCounts ls tail) (sym g) table.counts.1;
  }

  -- the line that is printed
  abbrev pub line_now : MLine
  line_now = record { labels = map (name_at names) own; statement = told_by (name_at names) line.statement; number = 1 + i }

  module _ (seen : List MLine) (h : lines_behind names (1 + i) rest (drop i lines) ≡ drop i seen) where
    first : drop i seen ≡ line_now ∷ lines_behind names (1 + (i + 1)) behind tail
    first =
        let n : 1 + i + 1 ≡ 1 + (i + 1) = omega arith in
        sym h ∙ ap (lines_behind names (1 + i) rest) (drop_more lines i line l ∙ ap (λ (x : Line). x ∷ tail) (sym is)) ∙ ap (λ (ls : List ℕ). let m : MLine = record { labels = map (name_at names) ls; statement = told_by (name_at names) line.statement; number = 1 + i } in m ∷ lines_behind names (1 + i + 1) (drop line.labels rest) tail) (sym f) ∙ ap (λ (ls : List ℕ). line_now ∷ lines_behind names (1 + i + 1) ls tail) (sym g) ∙ ap (λ (k : ℕ). line_now ∷ lines_behind names k behind tail) n

    at_place : (i < length seen) × (get_or seen i line_now ≡ line_now) × (drop (i + 1) seen ≡ lines_behind names (1 + (i + 1)) behind tail)
    at_place = place seen i line_now (lines_behind names (1 + (i + 1)) behind tail) first

    pub left_next : lines_behind names (1 + (i + 1)) behind tail ≡ drop (i + 1) seen
    left_next = sym at_place.2

    pub text_next : (now mid new full : List ℕ) → now ++ lines_text (drop i seen) ≡ full → mid ≡ now ++ labels_text line_now.labels → new ≡ mid ++ printed_statement line_now.statement → new ++ lines_text (drop (i + 1) seen) ≡ full
    text_next now mid new full h e k =
        let behind = lines_text (drop (i + 1) seen) in
        let a : lines_text (drop i seen) ≡ line_text line_now ++ behind = ap lines_text first ∙ ap (λ (ms : List MLine). line_text line_now ++ lines_text ms) (sym at_place.2) in
        let b : new ≡ now ++ line_text line_now = k ∙ ap (λ (t : List ℕ). t ++ printed_statement line_now.statement) e ∙ append_assoc now (labels_text line_now.labels) (printed_statement line_now.statement) in
        ap (λ (t : List ℕ). t ++ behind) b ∙ append_assoc now (line_text line_now) behind ∙ ap (λ (t : List ℕ). now ++ t) (sym a) ∙ h

    pub back_next : All IsLineBack (take i seen) → All IsLabelBack line_now.labels → IsStatementBack line_now.statement → All IsLineBack (take (i + 1) seen)
    back_next h k p =
        let e = take_more seen i line_now at_place.0 ∙ ap (λ (m : MLine). take i seen ++ m ∷ []) at_place.1 in
        subst (λ (ms : List MLine). All IsLineBack ms) (sym e) (All-push IsLineBack (take i seen) line_now h (line_back line_now k p))

pub back_all : (names : List (List ℕ)) (labels : List ℕ) (lines : List Line) (i : ℕ) → length lines ≤ i → All IsLineBack (take i (lines_behind names 1 labels lines)) → All IsLineBack (lines_behind names 1 labels lines)
back_all names labels lines i l h =
    let seen = lines_behind names 1 labels lines in
    let n : length seen ≤ i = omega (arith, lines_count names 1 labels lines) in
    subst (λ (ms : List MLine). All IsLineBack ms) (take_all i seen n) h
