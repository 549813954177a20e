-- The lines of a tail, and the trees that they spell.
use Rattle.std.proofs.Common.{◌≡◌, ◌≤◌, ◌<◌, ◌⊎◌, ℕ, zero, suc, ◌+◌, List, [], ◌∷◌, ◌++◌, length, drop, Some, refl, sym, ap, ◌∙◌, subst, inl, inr, arith, append_assoc, length-append, add-one}
use Rattle.std.specs.Prelude.{slice_get}
use Rattle.std.proofs.lemmas.Option.{same_Some, none-some, slice_get_within}
use Rattle.std.proofs.lemmas.List.{append-nil}
use Rattle.lcc_text.specs.Lines.{lines_of}
use Rattle.lcc_text.specs.Firsts.{Place, NotBehind}
use Rattle.lburg_lines.specs.declared.section.Section.{Section}
use Rattle.lburg_lines.specs.declared.section.Section.TheVariants.{Head, Prologue, Declarations, Rules, Tail}
use Rattle.lburg_lines.specs.Tokens.{Tok}
use Rattle.lburg_lines.specs.Spelling.{Spells}
use Rattle.lburg_lines.specs.Sections.{SpellsIn, section_behind, TokenLine, AreLinesFrom}
use Rattle.lburg_model.specs.Tree.{MTree, TLeaf, TOne, TTwo}
use Rattle.lburg_model.specs.Description.{MDescription, IsDescription}
use Rattle.lburg_trees.specs.declared.row.Row.{Row}
use Rattle.lburg_trees.specs.declared.tree_fault.TreeFault.{TreeFault}
use Rattle.lburg_trees.specs.declared.tree_fault.TreeFault.TheVariants as fault
use Rattle.lburg_trees.specs.declared.stop.Stop.{Stop}
use Rattle.lburg_trees.specs.declared.stop.Stop.TheVariants.{Memory, Fault}
use Rattle.lburg_trees.specs.TailTree.{MTail, Alone, Over, Both}
use Rattle.lburg_trees.specs.Rows.{Stands, row_number}
use Rattle.lburg_trees.specs.FirstFault.{IsTailOf, StandsIn, FirstFault, told}
use Rattle.lburg_trees.specs.TailText.{TreeMeans, IsTree, IsLineOf, AreTrees}
use Rattle.lburg_trees.specs.Reading.{IsFineLine, AreFine, FailsAt, LineFails}
use Rattle.lburg_trees.proofs.Trees.{same_tree, ends_nil}
use Rattle.lburg_trees.proofs.Moves.{tree_long}
use Rattle.lburg_trees.proofs.Fine.{one_terminal}
use Rattle.lburg_trees.proofs.Operands.{compared}
use Rattle.lburg_trees.proofs.Whole.{blank_fine, tree_fine}

-- what the laws of the crate of lines say
abbrev pub OneSpelling : Type 0
OneSpelling = (ts us : List Tok) (bytes : List ℕ) → Spells ts bytes → Spells us bytes → ts ≡ us

abbrev pub OneText : Type 0
OneText = (section : Section) (lines : List (List ℕ)) (a b : List TokenLine) → AreLinesFrom section lines a → AreLinesFrom section lines b → a ≡ b

-- ---- a list from a place on

drop_zero : (l : List (List ℕ)) → drop 0 l ≡ l
drop_zero [] = refl
drop_zero (x ∷ l) = refl

pub dropped : (xs ys : List (List ℕ)) (k : ℕ) (x : List ℕ) → drop k xs ≡ x ∷ ys → (slice_get xs k ≡ Some x) × (drop (k + 1) xs ≡ ys)
dropped xs ys k x e = let r = by_one xs ys k x e in (r.0, ap (λ (i : ℕ). drop i xs) (add-one k) ∙ r.1) where
  by_one : (xs ys : List (List ℕ)) (k : ℕ) (x : List ℕ) → drop k xs ≡ x ∷ ys → (slice_get xs k ≡ Some x) × (drop (suc k) xs ≡ ys)
  by_one [] ys zero x e = absurd cc
  by_one [] ys (suc k) x e = absurd cc
  by_one (z ∷ xs) ys zero x e = let f : z ≡ x = cc in let g : xs ≡ ys = cc in (ap (λ (w : List ℕ). Some w) f, drop_zero xs ∙ g)
  by_one (z ∷ xs) ys (suc k) x e = by_one xs ys k x e

pub drop_end : (xs : List (List ℕ)) (k : ℕ) → drop k xs ≡ [] → length xs ≤ k
drop_end [] k e = omega arith
drop_end (x ∷ xs) zero e = absurd cc
drop_end (x ∷ xs) (suc k) e = let h = drop_end xs k e in omega arith

-- ---- where the tail begins

-- The lines so far, and how those of what is left go on.
pub record Before (text : List ℕ) (section : Section) (rest : List ℕ) (before : ℕ) : Type 0 where
  pub done : List TokenLine
  pub many : before ≡ length done
  pub left : drop before (lines_of text) ≡ lines_of rest
  pub whole : (others : List TokenLine) → AreLinesFrom section (lines_of rest) others → AreLinesFrom Head (lines_of text) (done ++ others)

pub at_start : (text : List ℕ) → Before text Head text 0
at_start text = record { done = []; many = refl; left = drop_zero (lines_of text); whole = λ others h. h }

one_line : (section : Section) (line : List ℕ) (lines : List (List ℕ)) (tokens : List Tok) (others : List TokenLine) → (section ≡ Tail → ⊥) → SpellsIn section tokens line → AreLinesFrom (section_behind section tokens) lines others → AreLinesFrom section (line ∷ lines) (record { section = section; tokens = tokens } ∷ others)
one_line Head line lines tokens others h s a = (tokens, others, s, refl, a)
one_line Prologue line lines tokens others h s a = (tokens, others, s, refl, a)
one_line Declarations line lines tokens others h s a = (tokens, others, s, refl, a)
one_line Rules line lines tokens others h s a = (tokens, others, s, refl, a)
one_line Tail line lines tokens others h s a = absurd (h refl)

pub line_more : (text : List ℕ) (section : Section) (rest line behind : List ℕ) (tokens : List Tok) (before : ℕ) → Before text section rest before → (section ≡ Tail → ⊥) → lines_of rest ≡ line ∷ lines_of behind → SpellsIn section tokens line → Before text (section_behind section tokens) behind (before + 1)
line_more text section rest line behind tokens before b h e s =
    let this : TokenLine = record { section = section; tokens = tokens } in
    let r = dropped (lines_of text) (lines_of behind) before line (b.left ∙ e) in
    let m = b.many in
    let l = length-append b.done (this ∷ []) in
    record {
      done = b.done ++ this ∷ [];
      many = omega arith;
      left = r.1;
      whole = λ others a.
          subst (λ (z : List TokenLine). AreLinesFrom Head (lines_of text) z) (sym (append_assoc b.done (this ∷ []) others)) (
          b.whole (this ∷ others) (subst (λ (z : List (List ℕ)). AreLinesFrom section z (this ∷ others)) (sym e) (one_line section line (lines_of behind) tokens others h s a))
          );
    }

tail_at : (text : List ℕ) (section : Section) (rest : List ℕ) (before : ℕ) → Before text section rest before → AreLinesFrom section (lines_of rest) [] → IsTailOf text before (lines_of rest)
tail_at text section rest before b a = record {
  described = b.done;
  are = subst (λ (z : List TokenLine). AreLinesFrom Head (lines_of text) z) (append-nil b.done) (b.whole [] a);
  before_is = b.many;
  lines_are = sym b.left;
}

pub in_tail : (text : List ℕ) (section : Section) (rest : List ℕ) (before : ℕ) → Before text section rest before → section ≡ Tail → IsTailOf text before (lines_of rest)
in_tail text section rest before b e = tail_at text section rest before b (subst (λ (s : Section). AreLinesFrom s (lines_of rest) []) (sym e) (none (lines_of rest))) where
  none : (lines : List (List ℕ)) → AreLinesFrom Tail lines []
  none lines = refl

none_left : (section : Section) → AreLinesFrom section [] []
none_left Head = refl
none_left Prologue = refl
none_left Declarations = refl
none_left Rules = refl
none_left Tail = refl

pub no_tail : (text : List ℕ) (section : Section) (rest : List ℕ) (before : ℕ) → Before text section rest before → lines_of rest ≡ [] → IsTailOf text before (lines_of rest)
no_tail text section rest before b e = tail_at text section rest before b (subst (λ (l : List (List ℕ)). AreLinesFrom section l []) (sym e) (none_left section))

-- a text has one tail
pub one_tail : (text : List ℕ) (n m : ℕ) (xs ys : List (List ℕ)) → OneText → IsTailOf text n xs → IsTailOf text m ys → (n ≡ m) × (xs ≡ ys)
one_tail text n m xs ys law a b =
    let e = law Head (lines_of text) a.described b.described a.are b.are in
    let f : n ≡ m = a.before_is ∙ ap length e ∙ sym b.before_is in
    (f, a.lines_are ∙ ap (λ (k : ℕ). drop k (lines_of text)) f ∙ sym b.lines_are)

-- ---- trees, line by line

pub trees_before : (d : MDescription) (line : List ℕ) (lines rest : List (List ℕ)) (here more : List MTree) → rest ≡ line ∷ lines → IsLineOf d line here → AreTrees d lines more → AreTrees d rest (here ++ more)
trees_before d line lines rest here more e l h = subst (λ (ls : List (List ℕ)). AreTrees d ls (here ++ more)) (sym e) (here, more, l, refl, h)

-- one line more has no fault
pub fine_more : (d : MDescription) (lines : List (List ℕ)) (line : List ℕ) (k : ℕ) → AreFine d lines k → slice_get lines k ≡ Some line → IsFineLine d line → AreFine d lines (k + 1)
fine_more d lines line k fine here is i other l e =
    elim (compared i k) [
      | inl m ↦ fine i other m e
      | inr r ↦ elim r [
        | inl f ↦ subst (λ (z : List ℕ). IsFineLine d z) (same_Some line other (sym here ∙ ap (slice_get lines) (sym f) ∙ e)) is
        | inr m ↦ absurd (omega arith)
      ]
    ]

line_at : (d : MDescription) (lines : List (List ℕ)) (trees : List MTree) (i : ℕ) (line : List ℕ) → AreTrees d lines trees → slice_get lines i ≡ Some line → (here : List MTree) × IsLineOf d line here
line_at d [] trees i line a e = absurd (none-some line e)
line_at d (x ∷ lines) trees zero line a e = (a.0, subst (λ (z : List ℕ). IsLineOf d z a.0) (same_Some x line e) a.2)
line_at d (x ∷ lines) trees (suc i) line a e = line_at d lines a.1 i line a.4 e

fine_line : (d : MDescription) (line : List ℕ) (here : List MTree) → IsDescription d → IsLineOf d line here → IsFineLine d line
fine_line d line [] is h = ([], h, blank_fine d [] refl)
fine_line d line (t ∷ []) is h = (h.0, h.1, tree_fine d h.0 t is h.2)
fine_line d line (t ∷ u ∷ ts) is h = absurd h

-- a tail's trees have no fault
pub trees_fine : (d : MDescription) (lines : List (List ℕ)) (trees : List MTree) (many : ℕ) → IsDescription d → AreTrees d lines trees → AreFine d lines many
trees_fine d lines trees many is a i line l e = let h = line_at d lines trees i line a e in fine_line d line h.0 is h.1

-- ---- lines spell one list of trees

pub one_meaning : (d : MDescription) (w : MTail) (t u : MTree) → IsDescription d → TreeMeans d w t → TreeMeans d w u → t ≡ u
one_meaning d (Alone n c) (TLeaf op v) (TLeaf op2 v2) is m k =
    let o = one_terminal d op op2 m.0.0 k.0.0 n is.names (m.0.1, m.0.2) (k.0.1, k.0.2) in
    let e = o.0 in
    let f : v ≡ v2 = m.1 ∙ sym k.1 in
    cc
one_meaning d (Over n c a) (TOne op v t) (TOne op2 v2 t2) is m k =
    let o = one_terminal d op op2 m.0.0 k.0.0 n is.names (m.0.1, m.0.2) (k.0.1, k.0.2) in
    let e = o.0 in
    let f : v ≡ v2 = m.1 ∙ sym k.1 in
    let g = one_meaning d a t t2 is m.2 k.2 in
    cc
one_meaning d (Both n c a b) (TTwo op v t s) (TTwo op2 v2 t2 s2) is m k =
    let o = one_terminal d op op2 m.0.0 k.0.0 n is.names (m.0.1, m.0.2) (k.0.1, k.0.2) in
    let e = o.0 in
    let f : v ≡ v2 = m.1 ∙ sym k.1 in
    let g = one_meaning d a t t2 is m.2 k.2 in
    let h = one_meaning d b s s2 is m.3 k.3 in
    cc
one_meaning d (Alone n c) (TLeaf op v) (TOne op2 v2 t2) is m k = absurd k
one_meaning d (Alone n c) (TLeaf op v) (TTwo op2 v2 t2 s2) is m k = absurd k
one_meaning d (Alone n c) (TOne op v t) u is m k = absurd m
one_meaning d (Alone n c) (TTwo op v t s) u is m k = absurd m
one_meaning d (Over n c a) (TOne op v t) (TLeaf op2 v2) is m k = absurd k
one_meaning d (Over n c a) (TOne op v t) (TTwo op2 v2 t2 s2) is m k = absurd k
one_meaning d (Over n c a) (TLeaf op v) u is m k = absurd m
one_meaning d (Over n c a) (TTwo op v t s) u is m k = absurd m
one_meaning d (Both n c a b) (TTwo op v t s) (TLeaf op2 v2) is m k = absurd k
one_meaning d (Both n c a b) (TTwo op v t s) (TOne op2 v2 t2) is m k = absurd k
one_meaning d (Both n c a b) (TLeaf op v) u is m k = absurd m
one_meaning d (Both n c a b) (TOne op v t) u is m k = absurd m

one_tree : (d : MDescription) (tokens : List Tok) (t u : MTree) → IsDescription d → IsTree d tokens t → IsTree d tokens u → t ≡ u
one_tree d tokens t u is a b =
    let s = same_tree a.written b.written [] [] (ends_nil a.written) (ends_nil b.written) (sym a.tokens_are ∙ b.tokens_are) in
    one_meaning d b.written t u is (subst (λ (w : MTail). TreeMeans d w t) s.0 a.means) b.means

no_tree : (d : MDescription) (t : MTree) → IsTree d [] t → ⊥
no_tree d t a = let l = tree_long a.written [] in let e = ap length a.tokens_are in omega arith

same_line : (d : MDescription) (line : List ℕ) (xs ys : List MTree) → OneSpelling → IsDescription d → IsLineOf d line xs → IsLineOf d line ys → xs ≡ ys
same_line d line [] [] law is a b = refl
same_line d line [] (u ∷ []) law is a b = absurd (no_tree d u (subst (λ (z : List Tok). IsTree d z u) (law b.0 [] line b.1 a) b.2))
same_line d line (t ∷ []) [] law is a b = absurd (no_tree d t (subst (λ (z : List Tok). IsTree d z t) (law a.0 [] line a.1 b) a.2))
same_line d line (t ∷ []) (u ∷ []) law is a b = ap (λ (z : MTree). z ∷ []) (one_tree d b.0 t u is (subst (λ (z : List Tok). IsTree d z t) (law a.0 b.0 line a.1 b.1) a.2) b.2)
same_line d line xs (u ∷ u2 ∷ us) law is a b = absurd b
same_line d line (t ∷ t2 ∷ ts) ys law is a b = absurd a

pub same_trees : (d : MDescription) (lines : List (List ℕ)) (xs ys : List MTree) → OneSpelling → IsDescription d → AreTrees d lines xs → AreTrees d lines ys → xs ≡ ys
same_trees d [] xs ys law is a b = a ∙ sym b
same_trees d (line ∷ lines) xs ys law is a b =
    let e = same_line d line a.0 b.0 law is a.2 b.2 in
    let f = same_trees d lines a.1 b.1 law is a.4 b.4 in
    a.3 ∙ ap (λ (z : List MTree). z ++ a.1) e ∙ ap (λ (z : List MTree). b.0 ++ z) f ∙ sym b.3

-- ---- the first fault

-- a line that gave no tree, behind lines without a fault
pub line_fails : (d : MDescription) (before number : ℕ) (lines : List (List ℕ)) (k : ℕ) (line : List ℕ) (s : Stop) (f : TreeFault) → slice_get lines k ≡ Some line → AreFine d lines k → number ≡ before + k + 1 → LineFails d line s → (s ≡ Memory → f ≡ fault.Memory) → ((row : Row) (left : ℕ) → s ≡ Fault row left → f ≡ told row number) → (f ≡ fault.Memory) ⊎ FailsAt d before lines f
line_fails d before number lines k line Memory f there fine e h m t = inl (m refl)
line_fails d before number lines k line (Fault row left) f there fine e h m t =
    inr (record { index = k; line = line; there = there; tokens = h.0; place = h.1; spelled = h.2; which = row; fault = h.3; told_is = t row left refl ∙ ap (told row) e; fine = fine })

pub no_fault : (d : MDescription) (before : ℕ) (lines : List (List ℕ)) (many : ℕ) (p : Place) → OneSpelling → AreFine d lines many → (s : StandsIn d before lines p) → s.index < many → ⊥
no_fault d before lines many p law fine s l =
    let f = fine s.index s.line l s.there in
    f.2 s.which p.token (subst (λ (z : List Tok). Stands d s.which z p.token) (law s.tokens f.0 s.line s.spelled f.1) s.stands)

pub fine_none : (d : MDescription) (before : ℕ) (lines : List (List ℕ)) (p : Place) → OneSpelling → AreFine d lines (length lines) → StandsIn d before lines p → ⊥
fine_none d before lines p law fine s = no_fault d before lines (length lines) p law fine s (slice_get_within lines s.index s.line s.there)

first_is : (d : MDescription) (before : ℕ) (lines : List (List ℕ)) (f : TreeFault) (h : FailsAt d before lines f) → OneSpelling → (q : Place) → StandsIn d before lines q → NotBehind (record { line = before + h.index + 1; token = h.place; row = row_number h.which }) q
first_is d before lines f h law q s =
    let n = s.number in
    elim (compared h.index s.index) [
      | inl l ↦ inl (omega arith)
      | inr r ↦ elim r [
        | inr l ↦ absurd (no_fault d before lines h.index q law h.fine s l)
        | inl e ↦ (
            let same = same_Some h.line s.line (sym h.there ∙ ap (slice_get lines) e ∙ s.there) in
            let t = law s.tokens h.tokens h.line (subst (λ (z : List ℕ). Spells s.tokens z) (sym same) s.spelled) h.spelled in
            let k = h.fault.least s.which q.token (subst (λ (z : List Tok). Stands d s.which z q.token) t s.stands) in
            inr (omega arith, elim k [ inl l ↦ inl l | inr o ↦ inr (o.0, subst (λ (z : ℕ). row_number h.which ≤ z) (sym s.row_is) o.1) ])
            )
      ]
    ]

pub first_fault : (d : MDescription) (text : List ℕ) (before : ℕ) (lines : List (List ℕ)) (f : TreeFault) → OneSpelling → IsTailOf text before lines → FailsAt d before lines f → FirstFault d text f
first_fault d text before lines f law tail h = record {
  before = before;
  lines = lines;
  tail = tail;
  place = record { line = before + h.index + 1; token = h.place; row = row_number h.which };
  first = record {
    stands = record { index = h.index; line = h.line; there = h.there; number = refl; tokens = h.tokens; spelled = h.spelled; which = h.which; row_is = refl; stands = h.fault.stands };
    least = first_is d before lines f h law;
  };
  which = h.which;
  row_is = refl;
  told_is = h.told_is;
}
