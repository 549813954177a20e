-- Labels that stand in statements.
use Rattle.std.proofs.Common.{◌≡◌, ℕ, ◌+◌, ◌<◌, List, [], ◌∷◌, ◌++◌, length, get_or, drop, refl, sym, ap, ◌∙◌}
use Rattle.std.specs.Prelude.{Bool, true, false, ◌==◌, ◌||◌}
use Rattle.std.proofs.lemmas.List.{at_drop_more}
use Rattle.std.specs.Global.{Box}
use Rattle.c_meaning.specs.CoreTrees.{CoreOf}
use Rattle.c_meaning.specs.StmtTrees.{StmtOf}
use Rattle.c_meaning.specs.declared.core_stmt.CoreStmt.{CoreStmt}
use Rattle.c_meaning.specs.declared.core_stmt.CoreStmt.TheVariants as stmt
use Rattle.c_meaning.specs.Units.{labels, all_labels, is_among}
use Rattle.c_runs.specs.Statements.{has, any_has}
use Rattle.c_worlds.specs.declared.program.Program.{Program}
use Rattle.c_worlds.specs.Programs.{stmt_tree}
use Rattle.c_eval.specs.Stacks.{statement, statements}
use Rattle.c_eval.proofs.Forms.{all_trees, is_block, is_if}

or_both : (a b c : Bool) → (a || (b || c)) ≡ ((a || b) || c)
or_both true b c = refl
or_both false b c = refl

-- among two lists
pub among_both : (n : ℕ) (xs ys : List ℕ) → is_among n (xs ++ ys) ≡ (is_among n xs || is_among n ys)
among_both n [] ys = refl
among_both n (x ∷ xs) ys = ap (λ b. (n == x) || b) (among_both n xs ys) ∙ or_both (n == x) (is_among n xs) (is_among n ys)

-- in the first of several statements, or in the others
pub any_has_more : (p : Program) (s : CoreStmt) (ss : List CoreStmt) (l : ℕ) → any_has (statements p (s ∷ ss)) l ≡ (has (statement p s) l || any_has (statements p ss) l)
any_has_more p s ss l = among_both l (labels (statement p s)) (all_labels (statements p ss))

or_here : (a b : Bool) → a ≡ true → (a || b) ≡ true
or_here true b e = refl
or_here false b e = absurd cc

or_beyond : (a b : Bool) → a ≡ false → (a || b) ≡ b
or_beyond true b e = absurd cc
or_beyond false b e = refl

-- one step on in a list of statements
pub found_here : (p : Program) (ss : List CoreStmt) (i : ℕ) (s : CoreStmt) (l : ℕ) → i < length ss → s ≡ get_or ss i s → has (statement p s) l ≡ true → any_has (statements p (drop i ss)) l ≡ true
found_here p ss i s l h e f =
    at_drop_more (λ (zs : List CoreStmt). any_has (statements p zs) l) ss i s h
    ∙ ap (λ (z : CoreStmt). any_has (statements p (z ∷ drop (i + 1) ss)) l) (sym e)
    ∙ any_has_more p s (drop (i + 1) ss) l
    ∙ or_here (has (statement p s) l) (any_has (statements p (drop (i + 1) ss)) l) f

pub found_beyond : (p : Program) (ss : List CoreStmt) (i : ℕ) (s : CoreStmt) (l : ℕ) → i < length ss → s ≡ get_or ss i s → has (statement p s) l ≡ false → any_has (statements p (drop (i + 1) ss)) l ≡ any_has (statements p (drop i ss)) l
found_beyond p ss i s l h e f =
    sym (at_drop_more (λ (zs : List CoreStmt). any_has (statements p zs) l) ss i s h
    ∙ ap (λ (z : CoreStmt). any_has (statements p (z ∷ drop (i + 1) ss)) l) (sym e)
    ∙ any_has_more p s (drop (i + 1) ss) l
    ∙ or_beyond (has (statement p s) l) (any_has (statements p (drop (i + 1) ss)) l) f)

-- ---- by form

pub has_in_block : (p : Program) (s : CoreStmt) (first locals : ℕ) (xs ys : List CoreStmt) (l : ℕ) → s ≡ stmt.Block first locals xs → ys ≡ xs → any_has (statements p ys) l ≡ has (statement p s) l
has_in_block p s first locals xs ys l h e =
    ap (λ (zs : List CoreStmt). any_has (statements p zs) l) e
    ∙ ap (λ ss. any_has ss l) (all_trees p xs)
    ∙ sym (ap (λ (x : CoreStmt). has (statement p x) l) h ∙ ap (λ (x : StmtOf ℕ). has (stmt_tree p x) l) (is_block first locals xs))

has_in_if : (p : Program) (s : CoreStmt) (e : Box (CoreOf ℕ)) (a b : Box CoreStmt) (l : ℕ) → s ≡ stmt.If e a b → has (statement p s) l ≡ (has (statement p a.value) l || has (statement p b.value) l)
has_in_if p s e a b l h =
    ap (λ (x : CoreStmt). has (statement p x) l) h ∙ ap (λ (x : StmtOf ℕ). has (stmt_tree p x) l) (is_if e a b)
    ∙ among_both l (labels (statement p a.value)) (labels (statement p b.value))

pub has_first : (p : Program) (s x : CoreStmt) (e : Box (CoreOf ℕ)) (a b : Box CoreStmt) (l : ℕ) (r : Bool) → s ≡ stmt.If e a b → x ≡ a.value → r ≡ has (statement p x) l → r ≡ true → r ≡ has (statement p s) l
has_first p s x e a b l r h i f t =
    t ∙ sym (has_in_if p s e a b l h ∙ or_here (has (statement p a.value) l) (has (statement p b.value) l) (sym (ap (λ (y : CoreStmt). has (statement p y) l) i) ∙ sym f ∙ t))

pub has_second : (p : Program) (s x y : CoreStmt) (e : Box (CoreOf ℕ)) (a b : Box CoreStmt) (l : ℕ) (q r : Bool) → s ≡ stmt.If e a b → x ≡ a.value → y ≡ b.value → q ≡ has (statement p x) l → q ≡ false → r ≡ has (statement p y) l → r ≡ has (statement p s) l
has_second p s x y e a b l q r h i j f t g =
    g ∙ ap (λ (z : CoreStmt). has (statement p z) l) j
    ∙ sym (has_in_if p s e a b l h ∙ or_beyond (has (statement p a.value) l) (has (statement p b.value) l) (sym (ap (λ (z : CoreStmt). has (statement p z) l) i) ∙ sym f ∙ t))
