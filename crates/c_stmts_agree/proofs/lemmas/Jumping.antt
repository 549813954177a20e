-- The jumps of checked statements stay in their function.
use Rattle.std.specs.Prelude.{◌≡◌, ◌<◌, ℕ, suc, ◌==◌, ◌||◌, ◌&&◌, Bool, true, false, IfSome, Option, Some, None, List, [], ◌∷◌, ◌++◌, length, if◌then◌else◌}
use Rattle.std.proofs.Common.{refl, ap, ◌∙◌, arith}
use Rattle.std.proofs.lemmas.Bool.{eq-eqb}
use Rattle.std.specs.List.{AllByRecursion}
use Rattle.c_meaning.specs.declared.core_stmt.CoreCase.{CoreCase}
use Rattle.c_meaning.specs.StmtTrees as stmt
use Rattle.c_meaning.specs.Units.{FunctionTree, UnitTree, IsStmt, AreStmts, are_among, is_among, labels, all_labels}
use Rattle.lowered_statements.specs.Functions.{Function, place_in}
use Rattle.lowered_statements.specs.Statements.{StmtTree, StmtTrees}
use Rattle.lowered_labels.specs.Used.{IsOwn, GoesWithin, AllGoWithin}
use Rattle.c_stmt_agreement.proofs.lemmas.Sequences.{among_both}
use Rattle.c_stmts_agree.specs.Jumps.{StaysWithin, AllStayWithin}

-- ---- labels

or_true : (b : Bool) → (b || true) ≡ true
or_true true = refl
or_true false = refl

both_true : (a b : Bool) → (a && b) ≡ true → (a ≡ true) × (b ≡ true)
both_true true b e = (refl, e)
both_true false b e = absurd (let never : ⊥ = cc in never)

among_first : (n : ℕ) (ns ms : List ℕ) → is_among n ns ≡ true → is_among n (ns ++ ms) ≡ true
among_first n ns ms e = among_both n ns ms ∙ ap (λ (b : Bool). b || is_among n ms) e

among_second : (n : ℕ) (ns ms : List ℕ) → is_among n ms ≡ true → is_among n (ns ++ ms) ≡ true
among_second n ns ms e = among_both n ns ms ∙ ap (λ (b : Bool). is_among n ns || b) e ∙ or_true (is_among n ns)

own_among : (n : ℕ) (ns : List ℕ) → is_among n ns ≡ true → place_in n ns < length ns
own_among n [] e = absurd (let never : ⊥ = cc in never)
own_among n (m ∷ ms) e = by (n == m) (λ f. own_among n ms f) e
  where
    by : (b : Bool) → (is_among n ms ≡ true → place_in n ms < length ms) → (b || is_among n ms) ≡ true → (if b then 0 else suc (place_in n ms)) < suc (length ms)
    by true h f = omega arith
    by false h f = let lt = h f in omega (arith, lt)

module _ (f : Function) (u : UnitTree) (g : FunctionTree) where
  own : (n : ℕ) → is_among n f.labels ≡ true → IsOwn f n
  own n e = own_among n f.labels e

  cases_own : (ns : List ℕ) (cs : List CoreCase) → are_among cs ns ≡ true → ((n : ℕ) → is_among n ns ≡ true → is_among n f.labels ≡ true) → AllByRecursion (λ c. IsOwn f c.label) cs
  cases_own ns [] e h = tt
  cases_own ns (c ∷ cs) e h = let x = both_true (is_among c.label ns) (are_among cs ns) e in (own c.label (h c.label x.0), cases_own ns cs x.1 h)

  default_own : (ns : List ℕ) (default : Option ℕ) → IfSome default (λ n. is_among n ns ≡ true) → ((n : ℕ) → is_among n ns ≡ true → is_among n f.labels ≡ true) → IfSome default (IsOwn f)
  default_own ns None e h = tt
  default_own ns (Some n) e h = own n (h n e)

  mutual
    pub jumps_stay : (t : StmtTree) → IsStmt u g f.labels t → ((n : ℕ) → is_among n (labels t) ≡ true → is_among n f.labels ≡ true) → (breaks continues : Bool) → StaysWithin breaks continues t → GoesWithin f breaks continues t
    jumps_stay stmt.Nothing c h b k s = tt
    jumps_stay (stmt.Expression x) c h b k s = tt
    jumps_stay (stmt.Initialise local clears places) c h b k s = tt
    jumps_stay (stmt.Block first locals ts) c h b k s = all_stay ts c.1 h b k s
    jumps_stay (stmt.If x t v) c h b k s =
        (jumps_stay t c.1.0 (λ n e. h n (among_first n (labels t) (labels v) e)) b k s.0, jumps_stay v c.1.1 (λ n e. h n (among_second n (labels t) (labels v) e)) b k s.1)
    jumps_stay (stmt.While x t) c h b k s = jumps_stay t c.1 h true true s
    jumps_stay (stmt.Do t x) c h b k s = jumps_stay t c.0 h true true s
    jumps_stay (stmt.For first test last t) c h b k s = jumps_stay t c.1.1.1 h true true s
    jumps_stay (stmt.Switch x cases default t) c h b k s =
        ((cases_own (labels t) cases c.1.1.1.0 h, default_own (labels t) default c.1.1.1.1.0 h), jumps_stay t c.1.1.1.1.1 h true k s)
    jumps_stay (stmt.Label n t) c h b k s =
        (own n (h n (ap (λ (z : Bool). z || is_among n (labels t)) (eq-eqb n n refl))), jumps_stay t c (λ m e. h m (ap (λ (z : Bool). (m == n) || z) e ∙ or_true (m == n))) b k s)
    jumps_stay (stmt.Goto n) c h b k s = own n c
    jumps_stay stmt.Break c h b k s = s
    jumps_stay stmt.Continue c h b k s = s
    jumps_stay (stmt.Return x) c h b k s = tt

    all_stay : (ts : StmtTrees) → AreStmts u g f.labels ts → ((n : ℕ) → is_among n (all_labels ts) ≡ true → is_among n f.labels ≡ true) → (breaks continues : Bool) → AllStayWithin breaks continues ts → AllGoWithin f breaks continues ts
    all_stay stmt.NoStmt c h b k s = tt
    all_stay (stmt.Stmts t ts) c h b k s =
        (jumps_stay t c.0 (λ n e. h n (among_first n (labels t) (all_labels ts) e)) b k s.0, all_stay ts c.1 (λ n e. h n (among_second n (labels t) (all_labels ts) e)) b k s.1)
