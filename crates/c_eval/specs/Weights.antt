-- How many steps are left at most until a turn is spent.
use Rattle.std.specs.Prelude.{ℕ, ◌+◌, Option, Some, None, List, [], ◌∷◌}
use Rattle.c_meaning.specs.declared.core_stmt.CoreStmt.{CoreStmt as StmtValue}
use Rattle.c_meaning.specs.declared.filled_place.FilledPlace.{FilledPlace}
use Rattle.c_meaning.specs.CoreTrees.{CoreOf, Core, CoresOf, NoCore, Cores, cores_of}
use Rattle.c_meaning.specs.StmtTrees.{FilledOf, StmtOf, StmtsOf, NoStmt, Stmts, filled_of, stmt_of}
use Rattle.c_meaning.specs.StmtTrees as stmt
use Rattle.c_eval.specs.declared.focus.Focus.{Focus}
use Rattle.c_eval.specs.declared.focus.Focus.TheVariants as at
use Rattle.c_eval.specs.declared.frame.Frame.{Frame}
use Rattle.c_eval.specs.declared.frame.Frame.TheVariants as on

-- ---- expressions

abbrev mutual
  pub weight_e : {T : Type 0} → CoreOf T → ℕ
  weight_e (Core what of line kids) = 2 + weight_es kids

  pub weight_es : {T : Type 0} → CoresOf T → ℕ
  weight_es NoCore = 1
  weight_es (Cores c cs) = weight_e c + (4 + weight_es cs)

-- what is left of it behind its first part
abbrev pub weight_rest : {T : Type 0} → CoreOf T → ℕ
weight_rest (Core what of line NoCore) = 0
weight_rest (Core what of line (Cores c cs)) = weight_es cs

abbrev pub weight_maybe : {T : Type 0} → Option (CoreOf T) → ℕ
weight_maybe None = 0
weight_maybe (Some c) = weight_e c

abbrev pub weight_places : List (FilledOf ℕ) → ℕ
weight_places [] = 1
weight_places (p ∷ ps) = weight_e p.value + (4 + weight_places ps)

-- what is left of a list behind its first
abbrev pub weight_tail : {T : Type 0} → List (CoreOf T) → ℕ
weight_tail [] = 0
weight_tail (c ∷ cs) = weight_es (cores_of cs)

abbrev pub weight_places_tail : List (FilledOf ℕ) → ℕ
weight_places_tail [] = 0
weight_places_tail (p ∷ ps) = weight_places ps

abbrev pub places_of : List FilledPlace → List (FilledOf ℕ)
places_of [] = []
places_of (p ∷ ps) = filled_of p ∷ places_of ps

-- ---- statements

abbrev mutual
  pub weight_s : StmtOf ℕ → ℕ
  weight_s stmt.Nothing = 1
  weight_s (stmt.Expression e) = 4 + weight_e e
  weight_s (stmt.Initialise local zero ps) = 4 + weight_places ps
  weight_s (stmt.Block first locals ss) = 4 + weight_ss ss
  weight_s (stmt.If x s t) = 4 + (weight_e x + (weight_s s + weight_s t))
  weight_s (stmt.While x s) = 8 + (weight_e x + weight_s s)
  weight_s (stmt.Do s x) = 8 + (weight_s s + weight_e x)
  weight_s (stmt.For a b c s) = 16 + (weight_maybe a + (weight_maybe b + (weight_maybe c + weight_s s)))
  weight_s (stmt.Switch x cases default s) = 8 + (weight_e x + weight_s s)
  weight_s (stmt.Label l s) = 1 + weight_s s
  weight_s (stmt.Goto l) = 1
  weight_s stmt.Break = 1
  weight_s stmt.Continue = 1
  weight_s (stmt.Return x) = 4 + weight_maybe x

  pub weight_ss : StmtsOf ℕ → ℕ
  weight_ss NoStmt = 1
  weight_ss (Stmts s ss) = weight_s s + (4 + weight_ss ss)

abbrev pub statements_of : List StmtValue → StmtsOf ℕ
statements_of [] = NoStmt
statements_of (s ∷ ss) = Stmts (stmt_of s) (statements_of ss)

-- what stands between two repetitions of a loop
abbrev pub weight_between : StmtOf ℕ → ℕ
weight_between (stmt.While x s) = 4 + weight_e x
weight_between (stmt.Do s x) = 4 + weight_e x
weight_between (stmt.For a b c s) = 8 + (weight_maybe b + weight_maybe c)
weight_between s = 1

-- a loop's test
abbrev pub weight_test : StmtOf ℕ → ℕ
weight_test (stmt.While x s) = 2 + weight_e x
weight_test (stmt.Do s x) = 2 + weight_e x
weight_test (stmt.For a b c s) = 4 + weight_maybe b
weight_test s = 1

-- the body of a `switch`
abbrev pub weight_body : StmtOf ℕ → ℕ
weight_body (stmt.Switch x cases default s) = 4 + weight_s s
weight_body s = 1

-- ---- frames

abbrev pub weight_f : Frame → ℕ
weight_f (on.First e) = 3 + weight_rest e.now
weight_f (on.Second e v) = 1
weight_f (on.Right e) = 1
weight_f (on.Comma es) = 1 + weight_es (cores_of es.now)
weight_f (on.Argument es n) = 1 + weight_tail es.now
weight_f (on.Passed c v) = 1
weight_f (on.Called c v) = 1
weight_f (on.Activation c n objects base) = 1
weight_f on.Drop = 1
weight_f (on.Then ss) = 1 + weight_ss (statements_of ss.now)
weight_f (on.Catch ss) = 1
weight_f (on.Branch x s t) = 1 + (weight_s (stmt_of s.now) + weight_s (stmt_of t.now))
weight_f (on.Initial s) = 1 + weight_test (stmt_of s.now)
weight_f (on.Body s) = 1 + weight_between (stmt_of s.now)
weight_f (on.Last s) = 1 + weight_test (stmt_of s.now)
weight_f (on.Test s) = 1
weight_f (on.Switch s) = 1 + weight_body (stmt_of s.now)
weight_f on.Switched = 1
weight_f (on.Return x) = 1
weight_f (on.Fill ps base) = 2 + weight_places_tail (places_of ps.now)

abbrev pub weights : List Frame → ℕ
weights [] = 0
weights (f ∷ fs) = weight_f f + weights fs

abbrev pub weight : Focus → ℕ
weight (at.Eval e) = 1 + weight_e e.now
weight (at.Value v) = 1
weight (at.NoValue line) = 1
weight (at.Start s) = 1 + weight_s (stmt_of s.now)
weight (at.At s l) = 1 + weight_s (stmt_of s.now)
weight (at.List ss) = 1 + weight_ss (statements_of ss.now)
weight (at.ListAt ss l) = 1 + weight_ss (statements_of ss.now)
weight (at.Fill ps base) = 1 + weight_places (places_of ps.now)
weight at.Next = 1
weight at.Break = 1
weight at.Continue = 1
weight (at.Return v line) = 1
weight (at.Goto l) = 1
weight (at.Repeat s) = 0
weight (at.Jump ss l) = 0
weight (at.Invoke n) = 0
weight (at.Over how) = 0

-- 0 where the run is over
abbrev pub going : Focus → ℕ
going (at.Over how) = 0
going focus = 1
