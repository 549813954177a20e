-- Terminals that are found by the number of their names' bytes.
use Rattle.std.specs.Prelude.{◌≡◌, ◌<◌, ℕ, ◌+◌, ◌*◌, ◌-◌, ◌^◌, Option, Some, List, length, slice_get, ◌++◌}
use Rattle.lburg_model.specs.declared.terminal.Terminal.{Terminal}
use Rattle.lburg_model.specs.Description.{MDescription}
use Rattle.lburg_trees.specs.UnknownOp.{IsNamed}
use Rattle.lburg_trees.specs.declared.known.Known.{Known}
use Rattle.lburg_trees.specs.Words.{word_of}

-- it tells of this terminal
pub record IsOf (terminals : List Terminal) (k : Known) : Type 0 where
  pub terminal : Terminal
  pub place : ℕ
  pub there : slice_get terminals place ≡ Some terminal
  pub op_is : k.op ≡ place + 1
  pub arity_is : terminal.arity ≡ Some k.arity
  pub length_is : k.length ≡ length terminal.name
  pub short : k.length < 8
  pub word_is : k.word ≡ word_of terminal.name
  pub mask_is : k.mask ≡ 2 ^ (8 * k.length) - 1

-- each of them tells of a terminal
abbrev pub AreKnown : List Terminal → List (Option Known) → Type 0
AreKnown terminals table = (i : ℕ) (k : Known) → slice_get table i ≡ Some (Some k) → IsOf terminals k

-- the name of a terminal with this number of operands stands at the front
pub record ReadsName (d : MDescription) (bytes rest : List ℕ) (op arity : ℕ) : Type 0 where
  pub terminal : Terminal
  pub named : IsNamed d op terminal terminal.name
  pub arity_is : terminal.arity ≡ Some arity
  pub parts : bytes ≡ terminal.name ++ rest
