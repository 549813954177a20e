-- Switches: the body is entered at the chosen label, and `break` comes to the end.
use Rattle.std.specs.Prelude.{◌≡◌, ℕ, ◌==◌, ◌&&◌, Bool, true, false, IfSome, Option, Some, None, List, [], ◌∷◌, if◌then◌else◌}
use Rattle.std.proofs.Common.{refl, sym}
use Rattle.objects.specs.declared.value.Value.{Value}
use Rattle.objects.specs.declared.value.Value.TheVariants.{Number, Pointer, Function}
use Rattle.c_types.specs.CType.{CType}
use Rattle.c_meaning.specs.declared.core_stmt.CoreCase.{CoreCase}
use Rattle.c_meaning.specs.CoreTrees.{line_of}
use Rattle.c_meaning.specs.StmtTrees.{StmtOf}
use Rattle.c_meaning.specs.StmtTrees as stmt
use Rattle.c_meaning.specs.Units.{are_among, is_among, labels}
use Rattle.c_meaning.specs.Values.{CoreTree}
use Rattle.c_runs.specs.Expressions.{eval}
use Rattle.c_runs.specs.Outcomes.{Undefined, OutOfTurns, Exit, Result, Gives, GivesNone, Ends, Out, Next, Break, Continue, Return, Goto, Over, switched, then_do}
use Rattle.c_runs.specs.Run.{context}
use Rattle.c_runs.specs.Statements.{Start, At, exec, has, chosen, to_case, switch_on}
use Rattle.c_runs.specs.Worlds as c
use Rattle.lowered_forms.specs.Lows.{Low}
use Rattle.c_stmt_agreement.specs.Comings.{Activation, Origin, Ways, Ending, Came, CameFrom}
use Rattle.c_stmt_agreement.specs.Laws.{chosen_place, CameByValue, CameChosen, LoweredSearch}
use Rattle.c_stmt_agreement.specs.LoweredStmt.{StandsAt, LoweredStmt, ComesTo}
use Rattle.c_stmt_agreement.proofs.lemmas.Choices.{came_there}
use Rattle.c_stmt_agreement.proofs.lemmas.Rebasing.{onward, stands_onward, from_on}

-- ---- the chosen label is one of the body's

both_true : (a b : Bool) → (a && b) ≡ true → (a ≡ true) × (b ≡ true)
both_true true b e = (refl, e)
both_true false b e = absurd (let never : ⊥ = cc in never)

same_label : {m n : ℕ} → Some m ≡ Some n → m ≡ n
same_label e = cc

default_is_among : (ns : List ℕ) (default : Option ℕ) (l : ℕ) → IfSome default (λ d. is_among d ns ≡ true) → default ≡ Some l → is_among l ns ≡ true
default_is_among ns None l h e = absurd (let never : ⊥ = cc in never)
default_is_among ns (Some d) l h e = let same : d ≡ l = same_label e in rw (sym same) h

one_is_among : (b : Bool) (ns : List ℕ) (m l : ℕ) (o : Option ℕ) → is_among m ns ≡ true → (o ≡ Some l → is_among l ns ≡ true) → (if b then Some m else o) ≡ Some l → is_among l ns ≡ true
one_is_among true ns m l o h g e = let same : m ≡ l = same_label e in rw (sym same) h
one_is_among false ns m l o h g e = g e

pub chosen_is_among : (ns : List ℕ) (cases : List CoreCase) (default : Option ℕ) (n l : ℕ) → are_among cases ns ≡ true → IfSome default (λ d. is_among d ns ≡ true) → chosen cases default n ≡ Some l → is_among l ns ≡ true
chosen_is_among ns [] default n l h g e = default_is_among ns default l g e
chosen_is_among ns (d ∷ cs) default n l h g e =
    let x = both_true (is_among d.label ns) (are_among cs ns) h in
    one_is_among (d.number == n) ns d.label l (chosen cs default n) x.0 (λ f. chosen_is_among ns cs default n l x.1 g f) e

-- ---- what comes behind the body

module _ (p : Activation) (y : Ways) (e : Ending) (b : Low) where
  abbrev inner : Ways
  inner = record { breaks = b; continues = y.continues; labels = y.labels }

  switched_comes : (o : Origin) (behind : Low) → ComesTo p behind b → (r : Out) → CameFrom p inner e o behind r → CameFrom p y e o b (switched r)
  switched_comes o behind comes (Next k old) x = came_there p o behind b comes old k x
  switched_comes o behind comes (Break k old) x = x
  switched_comes o behind comes (Continue k old) x = x
  switched_comes o behind comes (Return v line k old) x = x
  switched_comes o behind comes (Goto l k old) x = x
  switched_comes o behind comes (Over (Undefined cause line) old) x = tt
  switched_comes o behind comes (Over OutOfTurns old) x = x
  switched_comes o behind comes (Over (Exit status) old) x = x

  -- the body, from a label on
  module _ (t : StmtOf CType) (first behind : Low) (h : LoweredStmt p inner e t first behind) (comes : ComesTo p behind b) where
    body_comes : (l : ℕ) → has t l ≡ true → (o : Origin) (k : ℕ) → StandsAt p o (y.labels l) k → CameFrom p y e o b (switched (exec (context p.scene.unit p.scene.lowered.order) t (At l) k o.old))
    body_comes l i o k at = switched_comes o behind comes (exec (context p.scene.unit p.scene.lowered.order) t (At l) k o.old) (h (At l) i o k at)

    case_comes : (choice : Option ℕ) → ((l : ℕ) → choice ≡ Some l → has t l ≡ true) → (o : Origin) (old : c.World) (k : ℕ) → Came p o (chosen_place y b choice) old k
        → CameFrom p y e o b (to_case choice (λ l k2 w2. exec (context p.scene.unit p.scene.lowered.order) t (At l) k2 w2) k old)
    case_comes None i o old k x = x
    case_comes (Some l) i o old k x =
        from_on p o (y.labels l) old k x y e b (switched (exec (context p.scene.unit p.scene.lowered.order) t (At l) k old))
        (body_comes l (i l refl) (onward p o (y.labels l) old k x) k (stands_onward p o (y.labels l) old k x))

    module _ (cases : List CoreCase) (default : Option ℕ) (among : are_among cases (labels t) ≡ true) (with_default : IfSome default (λ d. is_among d (labels t) ≡ true)) where
      value_comes : (v : Value) (line : ℕ) (o : Origin) (old : c.World) (k : ℕ) → CameByValue p y o b cases default old k v
          → CameFrom p y e o b (switch_on v cases default (λ l k2 w2. exec (context p.scene.unit p.scene.lowered.order) t (At l) k2 w2) line k old)
      value_comes (Number n) line o old k x = case_comes (chosen cases default n) (λ l is. chosen_is_among (labels t) cases default n l among with_default is) o old k x
      value_comes (Pointer object offset) line o old k x = tt
      value_comes (Function g) line o old k x = tt

      result_comes : (line : ℕ) (o : Origin) (r : Result) → CameChosen p y o b cases default r
          → CameFrom p y e o b (then_do r (λ v k1 w1. switch_on v cases default (λ l k2 w2. exec (context p.scene.unit p.scene.lowered.order) t (At l) k2 w2) line k1 w1))
      result_comes line o (Gives v k old) x = value_comes v line o old k x
      result_comes line o (GivesNone l k old) x = tt
      result_comes line o (Ends (Undefined cause l) old) x = tt
      result_comes line o (Ends OutOfTurns old) x = x
      result_comes line o (Ends (Exit status) old) x = x

      pub switch_is_lowered : (x : CoreTree) (a : Low) → LoweredSearch p y x cases default a b → LoweredStmt p y e (stmt.Switch x cases default t) a b
      switch_is_lowered x a search Start i o k at = result_comes (line_of x) o (eval (context p.scene.unit p.scene.lowered.order) x k o.old) (search o k at)
      switch_is_lowered x a search (At l) i o k at = body_comes l i o k at
