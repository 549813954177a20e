-- A tail has one first fault at most, and a tail of trees has none.
use Rattle.std.proofs.Common.{◌≡◌, ◌+◌, ℕ, zero, suc, List, [], ◌∷◌, ◌++◌, length, drop, Some, refl, sym, ap, ◌∙◌, subst, inl, inr, arith, length-drop}
use Rattle.std.specs.Prelude.{slice_get}
use Rattle.std.proofs.lemmas.List.{append-nil}
use Rattle.std.proofs.lemmas.Option.{none-some, same_Some, slice_get_within}
use Rattle.lcc_text.specs.Lines.{lines_of}
use Rattle.lcc_text.specs.Firsts.{Place}
use Rattle.lcc_text.proofs.lemmas.Stopping.{stops_not}
use Rattle.lburg_lines.specs.declared.section.Section.TheVariants.{Head}
use Rattle.lburg_lines.specs.Tokens.{Tok}
use Rattle.lburg_lines.specs.Spelling.{Spells}
use Rattle.lburg_model.specs.declared.terminal.Terminal.{Terminal}
use Rattle.lburg_model.specs.Tree.{MTree}
use Rattle.lburg_model.specs.Description.{MDescription, AreDistinct, terminal_at, terminal_names}
use Rattle.lburg_trees.specs.declared.row.Row.{Row}
use Rattle.lburg_trees.specs.declared.row.Row.TheVariants.{BadTree, UnknownOp, WrongArity, TooLarge, TooHigh}
use Rattle.lburg_trees.specs.declared.tree_fault.TreeFault.{TreeFault}
use Rattle.lburg_trees.specs.TailTree.{IsTreeLine, tree_then}
use Rattle.lburg_trees.specs.Setting.{Before, nothing}
use Rattle.lburg_trees.specs.UnknownOp.{IsNamed}
use Rattle.lburg_trees.specs.Rows.{Means, Stands, row_number}
use Rattle.lburg_trees.specs.FirstFault.{IsTailOf, StandsIn, FirstFault, told}
use Rattle.lburg_trees.specs.TailText.{IsTree, IsLineOf, AreTrees, IsTail}
use Rattle.lburg_grammar.proofs.FaultNone.{OneText}
use Rattle.lburg_grammar.proofs.LawsPlaces.{firsts_alike}
use Rattle.lburg_grammar.proofs.LawsTrees.{ends_nil}
use Rattle.lburg_grammar.proofs.LawsMoves.{moved, tree_long, past}
use Rattle.lburg_grammar.proofs.LawsFine.{fine_then}

-- bytes spell one list of tokens
abbrev pub OneSpelling : Type 0
OneSpelling = (ts us : List Tok) (bytes : List ℕ) → Spells ts bytes → Spells us bytes → ts ≡ us

-- ---- descriptions with the same terminals

terminal_of : (d e : MDescription) (op : ℕ) → d.terminals ≡ e.terminals → terminal_at d op ≡ terminal_at e op
terminal_of d e zero h = refl
terminal_of d e (suc i) h = ap (λ (ts : List Terminal). slice_get ts i) h

named_in : (d e : MDescription) (op : ℕ) (t : Terminal) (name : List ℕ) → d.terminals ≡ e.terminals → IsNamed d op t name → IsNamed e op t name
named_in d e op t name h n = (sym (terminal_of d e op h) ∙ n.0, n.1)

row_in : (d e : MDescription) (row : Row) (tokens : List Tok) (place : ℕ) → d.terminals ≡ e.terminals → Stands d row tokens place → Stands e row tokens place
row_in d e BadTree tokens place h s = s
row_in d e UnknownOp tokens place h s = (s.0, s.1, λ op t n. s.2 op t (named_in e d op t s.0 (sym h) n))
row_in d e WrongArity tokens place h s = record {
  at = s.at;
  tree = s.tree;
  stands = s.stands;
  op = s.op;
  terminal = s.terminal;
  named = named_in d e s.op s.terminal _ h s.named;
  arity = s.arity;
  arity_is = s.arity_is;
  differs = s.differs;
}
row_in d e TooLarge tokens place h s = s
row_in d e TooHigh tokens place h s = s

stands_in : (d e : MDescription) (n m : ℕ) (xs ys : List (List ℕ)) (place : Place) → d.terminals ≡ e.terminals → n ≡ m → xs ≡ ys → StandsIn d n xs place → StandsIn e m ys place
stands_in d e n m xs ys place h same lines s = record {
  index = s.index;
  line = s.line;
  there = ap (λ (ls : List (List ℕ)). slice_get ls s.index) (sym lines) ∙ s.there;
  number = s.number ∙ ap (λ (k : ℕ). k + s.index + 1) same;
  tokens = s.tokens;
  spelled = s.spelled;
  which = s.which;
  row_is = s.row_is;
  stands = row_in d e s.which s.tokens place.token h s.stands;
}

-- ---- one first fault

same_row : (a b : Row) → row_number a ≡ row_number b → a ≡ b
same_row BadTree BadTree e = refl
same_row UnknownOp UnknownOp e = refl
same_row WrongArity WrongArity e = refl
same_row TooLarge TooLarge e = refl
same_row TooHigh TooHigh e = refl
same_row a b e = absurd (omega arith)

-- a text has one tail
one_tail : (text : List ℕ) (n m : ℕ) (xs ys : List (List ℕ)) → OneText → IsTailOf text n xs → IsTailOf text m ys → (n ≡ m) × (xs ≡ ys)
one_tail text n m xs ys law a b =
    let e = law Head (lines_of text) a.described b.described a.are b.are in
    let f : n ≡ m = a.before_is ∙ ap length e ∙ sym b.before_is in
    (f, a.lines_are ∙ ap (λ (k : ℕ). drop k (lines_of text)) f ∙ sym b.lines_are)

pub one_first : (text : List ℕ) (d e : MDescription) (f g : TreeFault) → OneText → d.terminals ≡ e.terminals → FirstFault d text f → FirstFault e text g → f ≡ g
one_first text d e f g law h x y =
    let t = one_tail text x.before y.before x.lines y.lines law x.tail y.tail in
    let there = λ (p : Place). stands_in d e x.before y.before x.lines y.lines p h t.0 t.1 in
    let back = λ (p : Place). stands_in e d y.before x.before y.lines x.lines p (sym h) (sym t.0) (sym t.1) in
    let a = firsts_alike (StandsIn d x.before x.lines) (StandsIn e y.before y.lines) x.place y.place there back x.first y.first in
    let r = same_row x.which y.which (sym x.row_is ∙ a.1 ∙ y.row_is) in
    x.told_is ∙ ap (λ (w : Row). told w x.place.line) r ∙ ap (told y.which) a.0 ∙ sym y.told_is

-- ---- a line that is blank or a tree has no fault

no_row : (d : MDescription) (b : Before) (row : Row) (p : ℕ) → Means d b row [] p → ⊥
no_row d b BadTree p m = m
no_row d b UnknownOp p m = let e = slice_get_within [] p _ m.1 in omega arith
no_row d b TooLarge p m = let e = slice_get_within [] p _ m.1 in omega arith
no_row d b TooHigh p m = let e = slice_get_within [] p _ m.0 in omega arith
no_row d b WrongArity p m =
    let e = ap length m.stands.parts in
    let f = length-drop {A = Tok} m.at [] in
    let g = tree_long m.tree m.stands.rest in
    omega arith

abbrev NoMeans : MDescription → List Tok → Type 0
NoMeans d tokens = (row : Row) (p : ℕ) → Means d nothing row tokens p → ⊥

-- a line of the grammar has only faults of names and counts
in_grammar : (d : MDescription) (tokens : List Tok) (row : Row) (p : ℕ) → IsTreeLine tokens → NoMeans d tokens → Stands d row tokens p → ⊥
in_grammar d tokens BadTree p is none s = stops_not IsTreeLine tokens s.0 s.1 is
in_grammar d tokens UnknownOp p is none s = none UnknownOp p s
in_grammar d tokens WrongArity p is none s = none WrongArity p s
in_grammar d tokens TooLarge p is none s = none TooLarge p s
in_grammar d tokens TooHigh p is none s = none TooHigh p s

no_means : (d : MDescription) (tokens : List Tok) (t : MTree) → AreDistinct (terminal_names d) → IsTree d tokens t → NoMeans d tokens
no_means d tokens t names k row p m =
    let w = k.written in
    let small = k.small in
    let low = k.low in
    let fine = fine_then d nothing w t [] [] names k.means (ends_nil w) (omega arith) (omega arith) tt in
    let e : tokens ≡ tree_then w [] ++ [] = k.tokens_are ∙ sym (append-nil (tree_then w [])) in
    let r = past d nothing (tree_then w []) [] row p fine (subst (λ (l : List Tok). Means d nothing row l p) e m) in
    no_row d (moved nothing (tree_then w [])) row r.0 r.2

fine_line : (d : MDescription) (line : List ℕ) (here : List MTree) (tokens : List Tok) (row : Row) (p : ℕ) → OneSpelling → AreDistinct (terminal_names d) → IsLineOf d line here → Spells tokens line → Stands d row tokens p → ⊥
fine_line d line [] tokens row p law names h spelled s =
    let e = law tokens [] line spelled h in
    in_grammar d [] row p (inl refl) (no_row d nothing) (subst (λ (l : List Tok). Stands d row l p) e s)
fine_line d line (t ∷ []) tokens row p law names h spelled s =
    let e = law tokens h.0 line spelled h.1 in
    let is : IsTreeLine h.0 = inr (h.2.written, h.2.numbers, h.2.tokens_are) in
    in_grammar d h.0 row p is (no_means d h.0 t names h.2) (subst (λ (l : List Tok). Stands d row l p) e s)
fine_line d line (t ∷ u ∷ ts) tokens row p law names h spelled s = h

line_at : (d : MDescription) (lines : List (List ℕ)) (trees : List MTree) (i : ℕ) (line : List ℕ) → AreTrees d lines trees → slice_get lines i ≡ Some line → (here : List MTree) × IsLineOf d line here
line_at d [] trees i line a e = absurd (none-some line e)
line_at d (x ∷ lines) trees zero line a e = (a.0, subst (λ (z : List ℕ). IsLineOf d z a.0) (same_Some x line e) a.2)
line_at d (x ∷ lines) trees (suc i) line a e = line_at d lines a.1 i line a.4 e

-- where no name is two terminals', a tail of trees has no fault
pub no_first : (text : List ℕ) (d e : MDescription) (trees : List MTree) (f : TreeFault) → OneText → OneSpelling → AreDistinct (terminal_names d) → d.terminals ≡ e.terminals → IsTail d trees text → FirstFault e text f → ⊥
no_first text d e trees f law spelling names h is x =
    let t = one_tail text x.before is.before x.lines is.lines law x.tail is.tail in
    let s = stands_in e d x.before is.before x.lines is.lines x.place (sym h) t.0 t.1 x.first.stands in
    let l = line_at d is.lines trees s.index s.line is.spelled s.there in
    fine_line d s.line l.0 s.tokens s.which x.place.token spelling names l.1 s.spelled s.stands
