-- An operand: a tree, and what stands behind it.
use Rattle.std.proofs.Common.{◌≡◌, ◌<◌, ◌⊎◌, ℕ, zero, suc, Bool, false, List, [], ◌++◌, length, Some, refl, sym, ap, ◌∙◌, inl, inr, arith}
use Rattle.std.specs.Prelude.{◌≢◌}
use Rattle.std.proofs.lemmas.Option.{same_Some}
use Rattle.std.proofs.lemmas.List.{append-nil}
use Rattle.lcc_text.specs.Stops.{next}
use Rattle.lburg_lines.specs.declared.token.Sign.TheVariants.{Close, Comma}
use Rattle.lburg_lines.specs.Tokens.{Tok, Mark}
use Rattle.lburg_model.specs.declared.terminal.Terminal.{Terminal}
use Rattle.lburg_model.specs.Tree.{MTree}
use Rattle.lburg_model.specs.Description.{MDescription}
use Rattle.lburg_trees.specs.declared.row.Row.TheVariants.{BadTree, UnknownOp, WrongArity, TooLarge, TooHigh}
use Rattle.lburg_trees.specs.declared.stop.Stop.{Stop}
use Rattle.lburg_trees.specs.declared.stop.Stop.TheVariants.{Memory, Fault}
use Rattle.lburg_trees.specs.TailTree.{tree_then}
use Rattle.lburg_trees.specs.Setting.{Before}
use Rattle.lburg_trees.specs.UnknownOp.{IsNamed}
use Rattle.lburg_trees.specs.TailText.{MayHave}
use Rattle.lburg_trees.specs.Reading.{ReadsTree, TreeStops, StopsTree, CountFits, IsBehind, OperandStops, StopsOperand}
use Rattle.lburg_trees.proofs.Trees.{same_tree, then_append, ends_next, ends_behind}

-- ---- the number of operands

-- an operator of this name may have as many operands as fit it
pub may_have : (d : MDescription) (op k : ℕ) (n : List ℕ) (t : Terminal) → IsNamed d op t n → CountFits d op k → MayHave d op n k
may_have d op k n t is f = (f.terminal, f.known, ap (λ (z : Terminal). z.name) (same_Some f.terminal t (sym f.known ∙ is.0)) ∙ is.1, f.fits)

-- ---- orders of places

pub compared : (a b : ℕ) → (a < b) ⊎ ((a ≡ b) ⊎ (b < a))
compared zero zero = inr (inl refl)
compared zero (suc b) = inl (omega arith)
compared (suc a) zero = inr (inr (omega arith))
compared (suc a) (suc b) =
    elim (compared a b) [
      | inl l ↦ inl (omega arith)
      | inr r ↦ elim r [ inl e ↦ inr (inl (ap (λ (k : ℕ). suc k) e)) | inr l ↦ inr (inr (omega arith)) ]
    ]

-- ---- what the reader of a tree says, for an operand

stops_operand : (last : Bool) (line rest : List Tok) → TreeStops line rest → OperandStops last line rest
stops_operand last line rest s = record {
  front = s.front;
  parts = s.parts;
  begun = s.begun;
  stuck = λ tree after more h k e f. s.stuck tree after more h (ends_behind last tree after k) e f;
}

pub as_operand : (d : MDescription) (b : Before) (last : Bool) (tokens : List Tok) (s : Stop) → StopsTree d b tokens s → StopsOperand d b last tokens s
as_operand d b last tokens Memory h = tt
as_operand d b last tokens (Fault BadTree left) h = (h.0, h.1, stops_operand last tokens h.0 h.2, h.3)
as_operand d b last tokens (Fault UnknownOp left) h = h
as_operand d b last tokens (Fault WrongArity left) h = h
as_operand d b last tokens (Fault TooLarge left) h = h
as_operand d b last tokens (Fault TooHigh left) h = h

-- ---- behind the tree neither a parenthesis closes nor a comma stands, where one may

not_behind : (last : Bool) (rest after : List Tok) → next after ≡ next rest → IsBehind last after → next rest ≢ Some (Mark Close) → (last ≡ false → next rest ≢ Some (Mark Comma)) → ⊥
not_behind last rest after e (inl k) h i = h (sym e ∙ k)
not_behind last rest after e (inr k) h i = i k.0 (sym e ∙ k.1)

pub nothing_behind : (d : MDescription) (b : Before) (last : Bool) (tokens rest : List Tok) (t : MTree) → ReadsTree d b tokens rest t → next rest ≢ Some (Mark Close) → (last ≡ false → next rest ≢ Some (Mark Comma)) → StopsOperand d b last tokens (Fault BadTree (length rest))
nothing_behind d b last tokens rest t r h i =
    let w = r.written in (
      rest,
      refl,
      record {
        front = tree_then w [];
        parts = r.parts ∙ sym (then_append w [] rest);
        begun = (w, [], r.numbers, append-nil (tree_then w []));
        stuck = λ tree after more n k e f.
            (let s = same_tree w tree more after (ends_next w more rest f r.ends) (ends_behind last tree after k) (sym (then_append w [] more) ∙ e) in not_behind last rest after (ap next (sym s.1) ∙ f) k h i);
      },
      r.none,
    )
