-- y = x + x fits an empty frame.
use Rattle.std.specs.Prelude.{◌≡◌, refl, zero, suc, pos, None, List, [], ◌∷◌, ◌++◌}
use Rattle.std.proofs.Common.{inl, arith, subst, ap, ◌∙◌}
use Rattle.op_forest.specs.declared.frame.Slot.{Slot}
use Rattle.op_forest.specs.declared.op.Op.TheVariants as op
use Rattle.op_forest.specs.declared.suffix.Suffix.TheVariants.{I, P, B, V}
use Rattle.op_forest.specs.declared.suffix.Suffix.{Suffix}
use Rattle.dag_forest.specs.declared.key.Key.{Key}
use Rattle.std.proofs.lemmas.Option.{none-some, same_Some}
use Rattle.op_forest.specs.declared.sym.Sym.TheVariants as sym
use Rattle.dag_forest.specs.declared.entry.Entry.TheVariants.{Root}
use Rattle.dag_forest.specs.declared.kids.Kids.TheVariants.{Zero, One}
use Rattle.dag_forest.specs.BlockExamples.{over, doubled}
use Rattle.dag_forest.specs.Split.{split_frame}
use Rattle.dag_forest.specs.Tally.{keys_of}
use Rattle.dag_seam.specs.Fitting.{Fits, FitsBlock, KeepsNoBlock, IsOwnLabel}

abbrev slots : List Slot
slots = split_frame [] (doubled (pos 0)) ++ []

fits : FitsBlock slots (doubled (pos 0))
fits = (
  record { fits = record { operator = omega arith; part = tt; operands = tt; local = λ e. let no : ⊥ = cc in absurd no }; value = refl },
  (
    record { fits = record { operator = omega arith; part = tt; operands = record { key = _; is = refl; value = refl; suffix = refl }; local = λ e. let no : ⊥ = cc in absurd no }; value = refl },
    (
      record { fits = record { operator = omega arith; part = tt; operands = tt; local = λ e. let no : ⊥ = cc in absurd no }; value = refl },
      (
        record { fits = record { operator = omega arith; part = tt; operands = (record { key = _; is = refl; value = refl; suffix = refl }, record { key = _; is = refl; value = refl; suffix = refl }); local = λ e. let no : ⊥ = cc in absurd no }; value = refl },
        (
          record { operator = omega arith; part = tt; operands = (record { key = _; is = refl; value = refl; suffix = refl }, record { key = _; is = refl; value = refl; suffix = refl }); local = λ e. let no : ⊥ = cc in absurd no },
          tt,
        ),
      ),
    ),
  ),
)

word_or_address : Suffix → Type 0
word_or_address I = Unit {0}
word_or_address P = Unit {0}
word_or_address x = ⊥

not_block : (x y : Suffix) → word_or_address y → y ≡ x → x ≡ B → ⊥
unfolding word_or_address
not_block x y h d e = subst word_or_address (d ∙ e) h

no_block : KeepsNoBlock (doubled (pos 0))
unfolding word_or_address
no_block zero r k room is e = not_block k.parts.operator.suffix _ tt (ap (λ (z : Key). z.parts.operator.suffix) (same_Some _ k is)) e
no_block (suc zero) r k room is e = not_block k.parts.operator.suffix _ tt (ap (λ (z : Key). z.parts.operator.suffix) (same_Some _ k is)) e
no_block (suc (suc zero)) r k room is e = not_block k.parts.operator.suffix _ tt (ap (λ (z : Key). z.parts.operator.suffix) (same_Some _ k is)) e
no_block (suc (suc (suc zero))) r k room is e = not_block k.parts.operator.suffix _ tt (ap (λ (z : Key). z.parts.operator.suffix) (same_Some _ k is)) e
no_block (suc (suc (suc (suc n)))) r k room is e = none-some k is

-- a sum of one operand doesn't
one_operand : Fits (keys_of (doubled (pos 0))) slots (over op.Add I (One 1)) → ⊥
one_operand h = h.operands

own : IsOwnLabel (Root (record { operator = record { op = op.Label; suffix = V }; kids = Zero; sym = sym.Label 3; constant = None }) ∷ []) 3
own = inl refl
