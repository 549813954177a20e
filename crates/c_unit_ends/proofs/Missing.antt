-- The least line of names in order: of those of the first part, and then of those of the others.
use Rattle.std.proofs.Common.{◌≡◌, ℕ, ◌+◌, ◌<◌, List, [], ◌∷◌, ◌++◌, length, get_or, drop, refl, sym, ap, ◌∙◌}
use Rattle.std.specs.Prelude.{Option}
use Rattle.std.proofs.lemmas.List.{at_drop_more}
use Rattle.c_standings.specs.declared.Standing.{Standing}
use Rattle.c_meaning.specs.declared.core_stmt.CoreStmt.{CoreStmt}
use Rattle.c_meaning.specs.StmtTrees.{StmtOf, stmt_of}
use Rattle.c_unit_ends.specs.NameFaults.{missing_in, missing_with}
use Rattle.c_unit_ends.specs.Uses.{stmt_uses}

pub missing_behind : (xs : List (ℕ × Standing)) (found : Option ℕ) (us vs : List (ℕ × ℕ)) → missing_in xs found (us ++ vs) ≡ missing_in xs (missing_in xs found us) vs
missing_behind xs found [] vs = refl
missing_behind xs found (u ∷ us) vs = missing_behind xs (missing_with xs found u) us vs

pub missing_both : (xs : List (ℕ × Standing)) (found before new : Option ℕ) (us vs : List (ℕ × ℕ)) → before ≡ missing_in xs found us → new ≡ missing_in xs before vs → new ≡ missing_in xs found (us ++ vs)
missing_both xs found before new us vs e f = f ∙ ap (λ b. missing_in xs b vs) e ∙ sym (missing_behind xs found us vs)

-- one step on in a list of parts
pub missing_more : {A : Type 0} (xs : List (ℕ × Standing)) (part : A → List (ℕ × ℕ)) (all : List A → List (ℕ × ℕ)) (ys : List A) (i : ℕ) (y : A) (found new : Option ℕ) → i < length ys → y ≡ get_or ys i y
    → ((z : A) (zs : List A) → all (z ∷ zs) ≡ part z ++ all zs) → new ≡ missing_in xs found (part y) → missing_in xs new (all (drop (i + 1) ys)) ≡ missing_in xs found (all (drop i ys))
missing_more {A} xs part all ys i y found new l e s g =
    ap (λ f. missing_in xs f (all (drop (i + 1) ys))) g ∙ sym (missing_behind xs found (part y) (all (drop (i + 1) ys)))
    ∙ ap (missing_in xs found) (sym (s y (drop (i + 1) ys))) ∙ ap (λ (z : A). missing_in xs found (all (z ∷ drop (i + 1) ys))) e
    ∙ sym (at_drop_more (λ (zs : List A). missing_in xs found (all zs)) ys i y l)

-- a statement in a place of its own
pub missing_inside : (xs : List (ℕ × Standing)) (before new : Option ℕ) (x y : CoreStmt) → new ≡ missing_in xs before (stmt_uses (stmt_of x)) → x ≡ y → new ≡ missing_in xs before (stmt_uses (stmt_of y))
missing_inside xs before new x y f g = f ∙ ap (λ (s : CoreStmt). missing_in xs before (stmt_uses (stmt_of s))) g

-- a statement whose uses are these
pub missing_as : (xs : List (ℕ × Standing)) (found new : Option ℕ) (s form : CoreStmt) (tree : StmtOf ℕ) (us : List (ℕ × ℕ)) → s ≡ form → stmt_of form ≡ tree → stmt_uses tree ≡ us → new ≡ missing_in xs found us → new ≡ missing_in xs found (stmt_uses (stmt_of s))
missing_as xs found new s form tree us e f g h = h ∙ ap (missing_in xs found) (sym (ap (λ (x : CoreStmt). stmt_uses (stmt_of x)) e ∙ ap stmt_uses f ∙ g))
