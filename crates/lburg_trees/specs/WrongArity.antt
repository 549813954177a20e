-- WrongArity: an operator has another number of operands than the rules use it with. It stands at the last token of its tree.
-- An operator that no rule uses may have any number of operands.
use Rattle.std.specs.Prelude.{◌≡◌, ◌≢◌, ℕ, suc, ◌+◌, Some, List, drop, length}
use Rattle.lburg_lines.specs.Tokens.{Tok}
use Rattle.lburg_model.specs.declared.terminal.Terminal.{Terminal}
use Rattle.lburg_model.specs.Description.{MDescription}
use Rattle.lburg_trees.specs.TailTree.{MTail, HasNumbers, Ends, tree_then, root_of, operands_of}
use Rattle.lburg_trees.specs.UnknownOp.{IsNamed}

-- a tree stands at the one place, and its last token at the other
pub record StandsTree (tokens : List Tok) (at last : ℕ) (tree : MTail) : Type 0 where
  pub rest : List Tok
  pub parts : drop at tokens ≡ tree_then tree rest
  pub numbers : HasNumbers tree
  pub ends : Ends tree rest
  pub last_is : suc last + length rest ≡ length tokens

pub record IsWrongArity (d : MDescription) (tokens : List Tok) (place : ℕ) : Type 0 where
  pub at : ℕ
  pub tree : MTail
  pub stands : StandsTree tokens at place tree
  pub op : ℕ
  pub terminal : Terminal
  pub named : IsNamed d op terminal (root_of tree)
  pub arity : ℕ
  pub arity_is : terminal.arity ≡ Some arity
  pub differs : operands_of tree ≢ arity
