-- What calls need of the program in which a body runs: it is the lowered unit's; and the built-in functions that the unit doesn't define are its own.
-- Source: ISO/IEC 9899:1990, 6.3.2.2 (calls), 7.9.7 (putchar, getchar), 7.10.4 (exit).
use Rattle.std.specs.Prelude.{◌≡◌, ℕ, Some}
use Rattle.op_forest.specs.Callees as callee
use Rattle.forests.specs.Units.{program_of}
use Rattle.c_meaning.specs.declared.built_in.BuiltIn.{BuiltIn}
use Rattle.c_meaning.specs.declared.built_in.BuiltIn.TheVariants.{Putchar, Getchar, Exit}
use Rattle.c_runs.specs.Calls.{built_in_at}
use Rattle.c_agreement.specs.Pairs.{own_count}
use Rattle.c_expr_agreement.specs.Scenes.{Scene}

-- a built-in function of C, as one of forests
abbrev pub provided_as : BuiltIn → callee.BuiltIn
provided_as Putchar = callee.Putchar
provided_as Getchar = callee.Getchar
provided_as Exit = callee.Exit

pub record IsProgram (s : Scene) : Type 0 where
  pub is : s.body.program ≡ program_of s.lowered
  pub own : s.own ≡ own_count s.unit
  pub provides : (n : ℕ) (b : BuiltIn) → built_in_at s.unit n ≡ Some b → s.body.program.callee n ≡ callee.Provided (provided_as b)
