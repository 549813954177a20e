-- A function's body has its shape: each label is known in it by the number that it has there.
use Rattle.std.proofs.Common.{◌≡◌, ℕ, suc, ◌+◌, ◌<◌, ◌≤◌, Bool, true, false, List, [], ◌∷◌, ◌++◌, length, sym, subst, arith, le_refl}
use Rattle.std.specs.Prelude.{Some, is_some, if◌then◌else◌}
use Rattle.std.specs.List.{range_with_len}
use Rattle.std.specs.Str.{bytes_eq}
use Rattle.c_ast.specs.Trees.{StatementTree, Label, Case, Default, Compound, If, IfElse, Switch, While, Do, For, StatementTrees, NoStatements, Statements, BlockTree, Block}
use Rattle.c_symbols.specs.Scoping.{symbol_named}
use Rattle.c_types.specs.CType.{CType}
use Rattle.c_types.specs.Table.{AreBelow}
use Rattle.c_meaning.specs.State.{State}
use Rattle.c_meaning.specs.StmtTrees.{StmtOf}
use Rattle.c_meaning.specs.Units.{are_apart, is_among}
use Rattle.c_meaning.specs.Units as units
use Rattle.c_units.specs.Bodies.{Typed}
use Rattle.c_units.specs.BodiesRelation.{TypesBlock}
use Rattle.c_units.specs.Definitions.{Definition}
use Rattle.c_units.specs.Functions.{nowhere, started, within}
use Rattle.c_units.specs.Marks.{marks, all_marks, block_marks, labels, all_labels, block_labels, firsts}
use Rattle.c_fits.proofs.lemmas.Lists.{some_id}
use Rattle.c_fits.proofs.lemmas.Values.{chosen_by}
use Rattle.c_unit_fits.specs.Shapes.{HasShape}
use Rattle.c_unit_fits.proofs.lemmas.Numbered.{block_is_numbered}
use Rattle.c_unit_fits.proofs.lemmas.Ranges.{among_range, range_apart, range_below}
use Rattle.c_unit_fits.proofs.lemmas.Shaped.{block_shaped}

-- the numbers of names are these
abbrev AreIn : ℕ → ℕ → List (List ℕ × ℕ) → Type 0
AreIn low high [] = Unit {0}
AreIn low high (x ∷ xs) = ((low ≤ x.1) × (x.1 < high)) × AreIn low high xs

in_join : (low high : ℕ) (xs ys : List (List ℕ × ℕ)) → AreIn low high xs → AreIn low high ys → AreIn low high (xs ++ ys)
in_join low high [] ys h k = k
in_join low high (x ∷ xs) ys h k = (h.0, in_join low high xs ys h.1 k)

in_more : (low high less more : ℕ) (xs : List (List ℕ × ℕ)) → less ≤ low → high ≤ more → AreIn low high xs → AreIn less more xs
in_more low high less more [] l k h = tt
in_more low high less more (x ∷ xs) l k h = ((let p = h.0.0 in omega (arith, p, l), let q = h.0.1 in omega (arith, q, k)), in_more low high less more xs l k h.1)

mutual
  labels_in : (n : ℕ) (s : StatementTree) → AreIn n (n + marks s) (labels n s)
  labels_in n (Label l name s) = ((omega arith, omega arith), in_more (suc n) (suc n + marks s) n (n + suc (marks s)) (labels (suc n) s) (omega arith) (omega arith) (labels_in (suc n) s))
  labels_in n (Case l e s) = in_more (suc n) (suc n + marks s) n (n + suc (marks s)) (labels (suc n) s) (omega arith) (omega arith) (labels_in (suc n) s)
  labels_in n (Default l s) = in_more (suc n) (suc n + marks s) n (n + suc (marks s)) (labels (suc n) s) (omega arith) (omega arith) (labels_in (suc n) s)
  labels_in n (Compound l b) = block_labels_in n b
  labels_in n (If l e s) = labels_in n s
  labels_in n (IfElse l e s t) =
      in_join n (n + (marks s + marks t)) (labels n s) (labels (n + marks s) t) (in_more n (n + marks s) n (n + (marks s + marks t)) (labels n s) (le_refl n) (omega arith) (labels_in n s))
      (in_more (n + marks s) ((n + marks s) + marks t) n (n + (marks s + marks t)) (labels (n + marks s) t) (omega arith) (omega arith) (labels_in (n + marks s) t))
  labels_in n (Switch l e s) = labels_in n s
  labels_in n (While l e s) = labels_in n s
  labels_in n (Do l s e) = labels_in n s
  labels_in n (For l a b c s) = labels_in n s
  labels_in n s = tt

  all_labels_in : (n : ℕ) (ss : StatementTrees) → AreIn n (n + all_marks ss) (all_labels n ss)
  all_labels_in n NoStatements = tt
  all_labels_in n (Statements s ss) =
      in_join n (n + (marks s + all_marks ss)) (labels n s) (all_labels (n + marks s) ss) (in_more n (n + marks s) n (n + (marks s + all_marks ss)) (labels n s) (le_refl n) (omega arith) (labels_in n s))
      (in_more (n + marks s) ((n + marks s) + all_marks ss) n (n + (marks s + all_marks ss)) (all_labels (n + marks s) ss) (omega arith) (omega arith) (all_labels_in (n + marks s) ss))

  block_labels_in : (n : ℕ) (b : BlockTree) → AreIn n (n + block_marks b) (block_labels n b)
  block_labels_in n (Block l ds ss) = all_labels_in n ss

firsts_in : (low high : ℕ) (before xs : List (List ℕ × ℕ)) → AreIn low high before → AreIn low high xs → AreIn low high (firsts before xs)
firsts_in low high before [] h k = h
firsts_in low high before (x ∷ xs) h k =
    firsts_in low high (if is_some (symbol_named before x.0) then before else before ++ x ∷ []) xs
    (chosen_by (AreIn low high) (is_some (symbol_named before x.0)) before (before ++ x ∷ []) (λ e. h) (λ e. in_join low high before (x ∷ []) h (k.0, tt))) k.1

named_in : (low high : ℕ) (xs : List (List ℕ × ℕ)) (name : List ℕ) (m : ℕ) → AreIn low high xs → symbol_named xs name ≡ Some m → (low ≤ m) × (m < high)
named_in low high [] name m h e = absurd (let none : ⊥ = cc in none)
named_in low high (x ∷ xs) name m h e = by (bytes_eq name x.0) e (named_in low high xs name m h.1)
  where
    by : (b : Bool) → (if b then Some x.1 else symbol_named xs name) ≡ Some m → (symbol_named xs name ≡ Some m → (low ≤ m) × (m < high)) → (low ≤ m) × (m < high)
    by true e k = subst (λ i. (low ≤ i) × (i < high)) (some_id x.1 m e) h.0
    by false e k = k e

-- each label of a body is among its numbers
label_found : (n : Definition) (body : BlockTree) (name : List ℕ) (m : ℕ) → symbol_named (within n body).labels name ≡ Some m → is_among m (range_with_len 0 (block_marks body)) ≡ true
label_found n body name m e =
    let k = named_in 0 (0 + block_marks body) (firsts [] (block_labels 0 body)) name m (firsts_in 0 (0 + block_marks body) [] (block_labels 0 body) tt (block_labels_in 0 body)) e in
    among_range 0 (block_marks body) m k.0 k.1

pub body_shape : (s u : State) (n : Definition) (ps : List CType) (body : BlockTree) (t : Typed (StmtOf CType)) → TypesBlock (within n body) nowhere s (started ps) body u t → t.body.lost ≡ false → HasShape (length ps) t
body_shape s u n ps body t h e =
    let i = block_is_numbered (within n body) nowhere s (started ps) body u t h in
    let m = i.marks in
    record {
      once = subst (λ ls. are_apart ls ≡ true) (sym i.labels) (range_apart 0 (block_marks body));
      low = subst (AreBelow t.body.marks) (sym i.labels) (range_below 0 (block_marks body) t.body.marks (omega (arith, m)));
      blocks = i.follow;
      all = sym i.locals;
      shaped = block_shaped (within n body) nowhere s (started ps) body u t h (length t.body.locals) (units.labels t.code) (λ name k g. subst (λ ls. is_among k ls ≡ true) (sym i.labels) (label_found n body name k g)) (le_refl (length t.body.locals)) e;
    }
