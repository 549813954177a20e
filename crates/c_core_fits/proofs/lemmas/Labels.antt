-- The labels of a unit's functions are numbered from 0 on, and a function has no more of them than statements.
use Rattle.std.proofs.Common.{◌≡◌, ℕ, zero, suc, ◌+◌, ◌≤◌, List, [], ◌∷◌, length, refl, sym, ap, subst, ◌∙◌, arith}
use Rattle.std.specs.List.{range_with_len}
use Rattle.std.proofs.lemmas.List.{length-append}
use Rattle.c_ast.specs.Trees.{DeclaratorTree, DeclarationTree, BlockTree, ExternalTree, Function, Declares, Empty}
use Rattle.c_types.specs.CType.{CType}
use Rattle.c_types.specs.Table.{AreBelow}
use Rattle.c_meaning.specs.Each.{EachIs}
use Rattle.c_meaning.specs.State.{State}
use Rattle.c_meaning.specs.StmtTrees.{StmtOf, Block, If, While, Do, For, Switch, Label, StmtsOf, NoStmt, Stmts}
use Rattle.c_meaning.specs.Linkage.{with_count}
use Rattle.c_meaning.specs.Units.{all_count, all_labels, count, labels}
use Rattle.c_units.specs.Definitions.{names_of, own_step}
use Rattle.c_units.specs.Externals.{Parts}
use Rattle.c_units.specs.Functions.{DefinedFunction, TypedFunction, nowhere, parameter_types, started, with_all_listed, within}
use Rattle.c_units.specs.Marks.{block_marks}
use Rattle.c_units.specs.UnitsRelation.{TypesExternal, TypesExternals, TypesFunction}
use Rattle.c_fits.proofs.lemmas.DeclaredFits.{each_join}
use Rattle.c_unit_fits.proofs.lemmas.Numbered.{block_is_numbered}
use Rattle.c_unit_fits.proofs.lemmas.Ranges.{range_below}

-- ---- how many

mutual
  labels_counted : (s : StmtOf CType) → length (labels s) ≤ count s
  labels_counted (Block first locals ss) = let i = all_labels_counted ss in omega (arith, i)
  labels_counted (If e s t) =
      let i = labels_counted s in
      let j = labels_counted t in
      let l = length-append (labels s) (labels t) in
      omega (arith, i, j, l)
  labels_counted (While e s) = let i = labels_counted s in omega (arith, i)
  labels_counted (Do s e) = let i = labels_counted s in omega (arith, i)
  labels_counted (For a b c s) = let i = labels_counted s in omega (arith, i)
  labels_counted (Switch e cases default s) = let i = labels_counted s in omega (arith, i)
  labels_counted (Label n s) = let i = labels_counted s in omega (arith, i)
  labels_counted s = omega arith

  all_labels_counted : (ss : StmtsOf CType) → length (all_labels ss) ≤ all_count ss
  all_labels_counted NoStmt = omega arith
  all_labels_counted (Stmts s ss) =
      let i = labels_counted s in
      let j = all_labels_counted ss in
      let l = length-append (labels s) (all_labels ss) in
      omega (arith, i, j, l)

range_length : (a n : ℕ) → length (range_with_len a n) ≡ n
range_length a zero = refl
range_length a (suc n) = ap suc (range_length (a + 1) n)

-- labels from 0 on
abbrev pub AreFromZero : List ℕ → Type 0
AreFromZero ls = (n : ℕ) × (ls ≡ range_with_len 0 n)

pub low_labels : (s : StmtOf CType) (top : ℕ) → AreFromZero (labels s) → count s ≤ top → AreBelow top (labels s)
low_labels s top h l =
    let c = labels_counted s in
    let e : length (labels s) ≡ h.0 = ap length h.1 ∙ range_length 0 h.0 in
    subst (AreBelow top) (sym h.1) (range_below 0 h.0 top (omega (arith, c, e, l)))

-- ---- of each function

abbrev pub IsLabelled : DefinedFunction → Type 0
IsLabelled f = AreFromZero (labels f.function.body)

function_labelled : (s : State) (line : ℕ) (specs : _) (d : DeclaratorTree) (olds : List DeclarationTree) (body : BlockTree) (u : State) (f : TypedFunction) → TypesFunction s line specs d olds body u f → IsLabelled f.function
function_labelled s line specs d olds body u f h =
    let i = h.3.3.2 in
    let n = h.3.1 in
    let v = with_all_listed i.0 line 0 (names_of (own_step n.steps)) in
    let ps = parameter_types v (own_step n.steps) in
    let b = block_is_numbered (within n body) nowhere (with_count v (length ps)) (started ps) body i.3.0 i.3.1 i.3.2 in
    subst (λ (f : TypedFunction). IsLabelled f.function) h.3.3.3.1
    (subst (λ (f : TypedFunction). IsLabelled f.function) i.3.3.1.1 (block_marks body, b.labels))

external_labelled : (s : State) (p : Parts) (x : ExternalTree) (u : State) (q : Parts) → TypesExternal s p x u q → EachIs IsLabelled p.functions → EachIs IsLabelled q.functions
external_labelled s p (Function l specs d olds body) u q h k =
    subst (λ (q : Parts). EachIs IsLabelled q.functions) h.3.1
    (each_join IsLabelled p.functions (h.1.function ∷ []) k (function_labelled s l specs d olds body h.0 h.1 h.2, tt))
external_labelled s p (Declares l d) u q h k = subst (λ (q : Parts). EachIs IsLabelled q.functions) h.3.1 k
external_labelled s p (Empty l) u q h k = subst (λ (q : Parts). EachIs IsLabelled q.functions) h.1 k

pub externals_labelled : (s : State) (p : Parts) (xs : List ExternalTree) (u : State) (q : Parts) → TypesExternals s p xs u q → EachIs IsLabelled p.functions → EachIs IsLabelled q.functions
externals_labelled s p [] u q h k = subst (λ (q : Parts). EachIs IsLabelled q.functions) h.1 k
externals_labelled s p (x ∷ xs) u q h k = externals_labelled h.0 h.1 xs u q h.3 (external_labelled s p x h.0 h.1 h.2 k)
