-- A whole line: where its first fault stands, or that it has none.
use Rattle.std.proofs.Common.{◌≡◌, ◌≢◌, ◌≤◌, ◌<◌, ◌⊎◌, ℕ, ◌+◌, ◌-◌, List, [], ◌∷◌, ◌++◌, length, take, drop, None, refl, sym, ap, ◌∙◌, subst, inl, inr, arith, length-append, length-drop}
use Rattle.std.proofs.lemmas.Option.{slice_get_within}
use Rattle.std.proofs.lemmas.List.{append-nil, take-append-drop, length-take-le}
use Rattle.lcc_text.specs.Stops.{next, StopsAt}
use Rattle.lcc_text.proofs.lemmas.Stopping.{stops_not, stop_behind, one_stop}
use Rattle.lburg_lines.specs.Tokens.{Tok}
use Rattle.lburg_model.specs.Tree.{MTree}
use Rattle.lburg_model.specs.Description.{MDescription, IsDescription}
use Rattle.lburg_trees.specs.declared.row.Row.{Row}
use Rattle.lburg_trees.specs.declared.row.Row.TheVariants.{BadTree, UnknownOp, WrongArity, TooLarge, TooHigh}
use Rattle.lburg_trees.specs.declared.stop.Stop.{Stop}
use Rattle.lburg_trees.specs.declared.stop.Stop.TheVariants.{Memory, Fault}
use Rattle.lburg_trees.specs.TailTree.{MTail, Ends, IsTreeLine, tree_then}
use Rattle.lburg_trees.specs.Setting.{Before, nothing}
use Rattle.lburg_trees.specs.BadTree.{IsBadTree}
use Rattle.lburg_trees.specs.Rows.{Means, Stands, row_number}
use Rattle.lburg_trees.specs.TailText.{IsTree}
use Rattle.lburg_trees.specs.Reading.{ReadsTree, TreeStops, Fails, NoneBefore, StopsTree, IsLineFault, IsFine, LineStops}
use Rattle.lburg_trees.proofs.Trees.{same_tree, then_append, ends_next, ends_nil}
use Rattle.lburg_trees.proofs.Moves.{tree_long, moved, past}
use Rattle.lburg_trees.proofs.Fine.{fine_then}
use Rattle.lburg_trees.proofs.Operands.{compared}

-- ---- what follows of a place

abbrev Goes : Row → ℕ → Row → ℕ → Type 0
Goes row place other p = (place < p) ⊎ ((place ≡ p) × (row_number row ≤ row_number other))

some_row : (row : Row) → 1 ≤ row_number row
some_row BadTree = omega arith
some_row UnknownOp = omega arith
some_row WrongArity = omega arith
some_row TooLarge = omega arith
some_row TooHigh = omega arith

-- all the rows, where the one of the grammar and the others are known
all_rows : (d : MDescription) (tokens : List Tok) (row : Row) (place : ℕ) → ((p : ℕ) → IsBadTree tokens p → Goes row place BadTree p) → ((other : Row) (p : ℕ) → Means d nothing other tokens p → Goes row place other p) → (other : Row) (p : ℕ) → Stands d other tokens p → Goes row place other p
all_rows d tokens row place h k BadTree p s = h p s
all_rows d tokens row place h k UnknownOp p s = k UnknownOp p s
all_rows d tokens row place h k WrongArity p s = k WrongArity p s
all_rows d tokens row place h k TooLarge p s = k TooLarge p s
all_rows d tokens row place h k TooHigh p s = k TooHigh p s

-- ---- the grammar stops

bad_others : (d : MDescription) (tokens : List Tok) (place : ℕ) → NoneBefore d nothing tokens place → (other : Row) (p : ℕ) → Means d nothing other tokens p → Goes BadTree place other p
bad_others d tokens place none other p m =
    elim (compared place p) [
      | inl l ↦ inl l
      | inr r ↦ elim r [ inl e ↦ inr (e, some_row other) | inr l ↦ absurd (none other p l m) ]
    ]

bad_line : (d : MDescription) (tokens rest : List Tok) (left : ℕ) → length rest ≡ left → StopsAt IsTreeLine tokens rest → NoneBefore d nothing tokens (length tokens - left) → LineStops d tokens (Fault BadTree left)
bad_line d tokens rest left e s none =
    let long = ap length s.parts ∙ length-append s.front rest in
    let k : length tokens - left ≡ length s.front = omega arith in
    let none2 = subst (λ (z : ℕ). NoneBefore d nothing tokens z) k none in (
      length s.front,
      omega arith,
      record {
        stands = (rest, s, refl);
        least = all_rows d tokens BadTree (length s.front) (λ p h. inr (one_stop IsTreeLine tokens rest h.0 s h.1 ∙ h.2, omega arith)) (bad_others d tokens (length s.front) none2);
      },
    )

-- where nothing is left, the line is its front
no_rest : (tokens rest front more : List Tok) → tokens ≡ front ++ rest → front ++ more ≡ [] → next more ≡ next rest → tokens ≡ []
no_rest tokens [] [] [] e f g = e
no_rest tokens (x ∷ rest) [] [] e f g = absurd cc
no_rest tokens rest [] (x ∷ more) e f g = absurd cc
no_rest tokens rest (x ∷ front) more e f g = absurd cc

line_stuck : (tokens rest more : List Tok) (s : TreeStops tokens rest) → (tokens ≡ [] → ⊥) → IsTreeLine (s.front ++ more) → next more ≡ next rest → ⊥
line_stuck tokens rest more s some (inl e) f = some (no_rest tokens rest s.front more s.parts e f)
line_stuck tokens rest more s some (inr t) f = s.stuck t.0 [] more t.1 (ends_nil t.0) t.2 f

tree_line : (tokens rest : List Tok) → (tokens ≡ [] → ⊥) → TreeStops tokens rest → StopsAt IsTreeLine tokens rest
tree_line tokens rest some s = record {
  front = s.front;
  parts = s.parts;
  begun = (s.begun.1, inr (s.begun.0, s.begun.2, s.begun.3));
  stuck = λ more is e. line_stuck tokens rest more s some is e;
}

-- ---- a fault of names and counts

failed : (d : MDescription) (tokens : List Tok) (row : Row) (place : ℕ) → Fails d nothing row tokens place → Stands d row tokens place → IsLineFault d tokens row place
failed d tokens row place f s =
    let g = f.goes_on in
    let w = f.within in
    let long = length-take-le (place + 1) tokens (omega arith) in
    record {
      stands = s;
      least = all_rows d tokens row place (λ p h.
          (let b = stop_behind IsTreeLine tokens (take (place + 1) tokens) (drop (place + 1) tokens) g.1 h.0 (sym (take-append-drop (place + 1) tokens)) (inr (g.0, g.2, g.3)) h.1 in let e = h.2 in inl (omega arith))) f.least;
    }

pub line_stops : (d : MDescription) (tokens : List Tok) (s : Stop) → (tokens ≡ [] → ⊥) → StopsTree d nothing tokens s → LineStops d tokens s
line_stops d tokens Memory some h = tt
line_stops d tokens (Fault BadTree left) some h = bad_line d tokens h.0 left h.1 (tree_line tokens h.0 some h.2) h.3
line_stops d tokens (Fault UnknownOp left) some h = (h.0, h.1, failed d tokens UnknownOp h.0 h.2 h.2.means)
line_stops d tokens (Fault WrongArity left) some h = (h.0, h.1, failed d tokens WrongArity h.0 h.2 h.2.means)
line_stops d tokens (Fault TooLarge left) some h = (h.0, h.1, failed d tokens TooLarge h.0 h.2 h.2.means)
line_stops d tokens (Fault TooHigh left) some h = (h.0, h.1, failed d tokens TooHigh h.0 h.2 h.2.means)

-- ---- a tree, and more behind it

end_stuck : (w u : MTail) (more rest : List Tok) → Ends w rest → next rest ≢ None → next more ≡ next rest → tree_then w more ≡ tree_then u [] → ⊥
end_stuck w u more rest ends h f e =
    let s = same_tree w u more [] (ends_next w more rest f ends) (ends_nil u) e in
    h (sym f ∙ ap next s.1)

behind_stuck : (w : MTail) (more rest : List Tok) → Ends w rest → next rest ≢ None → IsTreeLine (tree_then w [] ++ more) → next more ≡ next rest → ⊥
behind_stuck w more rest ends h (inl e) f =
    let k = ap length (sym (then_append w [] more) ∙ e) in
    let l = tree_long w more in
    omega arith
behind_stuck w more rest ends h (inr t) f = end_stuck w t.0 more rest ends h f (sym (then_append w [] more) ∙ t.2)

pub more_behind : (d : MDescription) (tokens rest : List Tok) (t : MTree) → ReadsTree d nothing tokens rest t → next rest ≢ None → LineStops d tokens (Fault BadTree (length rest))
more_behind d tokens rest t r h =
    let w = r.written in
    bad_line d tokens rest (length rest) refl (
    record {
      front = tree_then w [];
      parts = r.parts ∙ sym (then_append w [] rest);
      begun = ([], inr (w, r.numbers, append-nil (tree_then w [])));
      stuck = λ more is f. behind_stuck w more rest r.ends h is f;
    }
    ) r.none

-- ---- the tree is the whole line

no_row : (d : MDescription) (b : Before) (row : Row) (p : ℕ) → Means d b row [] p → ⊥
no_row d b BadTree p m = m
no_row d b UnknownOp p m = let e = slice_get_within [] p _ m.1 in omega arith
no_row d b TooLarge p m = let e = slice_get_within [] p _ m.1 in omega arith
no_row d b TooHigh p m = let e = slice_get_within [] p _ m.0 in omega arith
no_row d b WrongArity p m =
    let e = ap length m.stands.parts in
    let f = length-drop {A = Tok} m.at [] in
    let g = tree_long m.tree m.stands.rest in
    omega arith

pub blank_fine : (d : MDescription) (tokens : List Tok) → tokens ≡ [] → IsFine d tokens
blank_fine d tokens e BadTree p s = stops_not IsTreeLine tokens s.0 s.1 (inl e)
blank_fine d tokens e UnknownOp p s = no_row d nothing UnknownOp p (subst (λ (l : List Tok). Means d nothing UnknownOp l p) e s)
blank_fine d tokens e WrongArity p s = no_row d nothing WrongArity p (subst (λ (l : List Tok). Means d nothing WrongArity l p) e s)
blank_fine d tokens e TooLarge p s = no_row d nothing TooLarge p (subst (λ (l : List Tok). Means d nothing TooLarge l p) e s)
blank_fine d tokens e TooHigh p s = no_row d nothing TooHigh p (subst (λ (l : List Tok). Means d nothing TooHigh l p) e s)

no_means : (d : MDescription) (tokens : List Tok) (t : MTree) (row : Row) (p : ℕ) → IsDescription d → IsTree d tokens t → Means d nothing row tokens p → ⊥
no_means d tokens t row p is k m =
    let w = k.written in
    let small = k.small in
    let low = k.low in
    let fine = fine_then d nothing w t [] [] is.names k.means (ends_nil w) (omega arith) (omega arith) tt in
    let e : tokens ≡ tree_then w [] ++ [] = k.tokens_are ∙ sym (append-nil (tree_then w [])) in
    let r = past d nothing (tree_then w []) [] row p fine (subst (λ (l : List Tok). Means d nothing row l p) e m) in
    no_row d (moved nothing (tree_then w [])) row r.0 r.2

pub tree_fine : (d : MDescription) (tokens : List Tok) (t : MTree) → IsDescription d → IsTree d tokens t → IsFine d tokens
tree_fine d tokens t is k BadTree p s = stops_not IsTreeLine tokens s.0 s.1 (inr (k.written, k.numbers, k.tokens_are))
tree_fine d tokens t is k UnknownOp p s = no_means d tokens t UnknownOp p is k s
tree_fine d tokens t is k WrongArity p s = no_means d tokens t WrongArity p is k s
tree_fine d tokens t is k TooLarge p s = no_means d tokens t TooLarge p is k s
tree_fine d tokens t is k TooHigh p s = no_means d tokens t TooHigh p is k s

pub whole_tree : (d : MDescription) (tokens rest : List Tok) (t : MTree) → ReadsTree d nothing tokens rest t → rest ≡ [] → IsTree d tokens t
whole_tree d tokens rest t r e =
    let small = r.small in
    let low = r.low in
    record {
      written = r.written;
      numbers = r.numbers;
      tokens_are = r.parts ∙ ap (tree_then r.written) e;
      means = r.means;
      small = omega arith;
      low = omega arith;
    }
