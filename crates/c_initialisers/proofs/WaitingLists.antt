-- Stacks of what waits, whose last entry is the next.
use Rattle.std.proofs.Common.{◌≡◌, ℕ, ◌+◌, ◌<◌, List, [], ◌∷◌, ◌++◌, length, take, get_or, refl, sym, ap, ◌∙◌, add-one, arith, eqb-true}
use Rattle.std.proofs.Math.Seq.{take-suc}
use Rattle.std.specs.Prelude.{◌==◌, true, false, map}
use Rattle.c_types.specs.CType.{CType}
use Rattle.c_types.specs.Members.{MemberAt}
use Rattle.c_types.specs.Table.{Table}
use Rattle.c_meaning.specs.Filling.{Waiting, Whole, elements_begun}
use Rattle.c_meaning.specs.Initialising.{elements_stored, stored_elements}
use Rattle.c_meaning.specs.StmtTrees.{FilledOf}
use Rattle.c_initialisers.specs.Waiting.{AreEntriesIn, entries_in, waiting_in}
use Rattle.c_initialisers.specs.declared.waits.Waits.{Waits}
use Rattle.c_initialisers.proofs.Stacks.{IsSome, some_waits, waiting_append}

-- with one entry more
pub waiting_next : (t : Table) (ws : List Waits) (i : ℕ) (d : Waits) → i < length ws → waiting_in t (take (i + 1) ws) ≡ entries_in t (get_or ws i d) ++ waiting_in t (take i ws)
waiting_next t ws i d l = ap (λ k. waiting_in t (take k ws)) (add-one i) ∙ ap (waiting_in t) (take-suc ws i d l) ∙ waiting_append t (take i ws) (get_or ws i d ∷ [])

-- members don't count as elements that were begun
pub begun_under : (ms : List MemberAt) (ws : List Waiting) → elements_begun (map Whole ms ++ ws) ≡ elements_begun ws
begun_under [] ws = refl
begun_under (m ∷ ms) ws = begun_under ms ws

elements_of : (ws : List Waiting) (ps : List (FilledOf CType)) → IsSome ws → stored_elements ws ps ≡ elements_begun ws
elements_of [] ps h = absurd h
elements_of (w ∷ ws) ps h = refl

-- where an entry waits, the elements that were begun count
pub begun_counts : (t : Table) (ws : List Waits) (ps : List (FilledOf CType)) → AreEntriesIn t ws → false ≡ (length ws == 0) → stored_elements (waiting_in t ws) ps ≡ elements_begun (waiting_in t ws)
begun_counts t [] ps e h = absurd (cc)
begun_counts t (w ∷ ws) ps e h = elements_of (waiting_in t (w ∷ ws)) ps (some_waits t w ws e)

-- where none waits, the first place that is stored counts
pub none_counts : (t : Table) (ws : List Waits) (ps : List (FilledOf CType)) → true ≡ (length ws == 0) → stored_elements (waiting_in t ws) ps ≡ elements_stored ps
none_counts t [] ps h = refl
none_counts t (w ∷ ws) ps h = absurd (let e = eqb-true (length (w ∷ ws)) 0 (sym h) in omega (arith, e))
