-- Comparisons and tests of numbers, as jumps.
use Rattle.std.specs.Prelude.{◌≡◌, ℕ, ◌==◌, ◌||◌, not, Bool, true, false, Some, None, [], ◌∷◌, Ok}
use Rattle.std.proofs.Common.{refl, sym, ap, ◌∙◌, arith}
use Rattle.lcc_base.specs.declared.cause.Cause.TheVariants.{PointerNumber}
use Rattle.objects.specs.declared.operators.Comparison.{Comparison}
use Rattle.objects.specs.declared.operators.Comparison.TheVariants as comparison
use Rattle.objects.specs.declared.value.Value.{Value}
use Rattle.objects.specs.declared.value.Value.TheVariants.{Number}
use Rattle.objects.proofs.lemmas.AccessLaws.{first_not, unless_none, unless_same}
use Rattle.objects.specs.Accesses.{number_or_zero}
use Rattle.objects.specs.Arithmetic.{is_less, holds, comparison_value, integer_tested}
use Rattle.objects.specs.Causes.{first_cause, is_no_number}
use Rattle.op_forest.specs.declared.suffix.Suffix.TheVariants.{I}
use Rattle.op_forest.specs.declared.sym.Sym.TheVariants as sym
use Rattle.forests.specs.Actions.{Moved}
use Rattle.forests.specs.Rows.{branched, acts}
use Rattle.forests.specs.Words.{Word, Plain}
use Rattle.c_rows_agree.specs.Templates.{Scene, Acts}
use Rattle.c_rows_agree.specs.Typed.{Typed, Holds, head_with, suffix_by}
use Rattle.c_rows_agree.specs.Integers.{jump_of, opposite, comparison_where, compares_signed, compared, jump_by_zero, tested, move_where}
use Rattle.c_rows_agree.proofs.lemmas.Conversions.{number_of_value, word_of_number}
use Rattle.c_rows_agree.proofs.lemmas.Operators.{neither}
use Rattle.c_rows_agree.proofs.lemmas.Suffixes.{i_gives, by_gives, i_constant}

-- ---- what holds where a comparison doesn't

twice_not : (b : Bool) → not (not b) ≡ b
twice_not true = refl
twice_not false = refl

opposite_holds : (signed : Bool) (o : Comparison) (x y : ℕ) → holds signed (opposite o) x y ≡ not (holds signed o x y)
opposite_holds signed comparison.Equal x y = refl
opposite_holds signed comparison.NotEqual x y = sym (twice_not (x == y))
opposite_holds signed comparison.Less x y = refl
opposite_holds signed comparison.LessEqual x y = sym (twice_not (is_less signed y x))
opposite_holds signed comparison.Greater x y = refl
opposite_holds signed comparison.GreaterEqual x y = sym (twice_not (is_less signed x y))

where_true : (b : Bool) (l : ℕ) → move_where false b l ≡ move_where true (not b) l
where_true true l = refl
where_true false l = refl

-- ---- a jump over two numbers

taken_where : (l : ℕ) (b : Bool) → branched (sym.Label l) (Some b) ≡ Moved (move_where true b l)
taken_where l true = refl
taken_where l false = refl

jump_row : (k : Scene) (o : Comparison) (signed : Bool) (l x y : ℕ) → acts k.environment (head_with (jump_of o) (suffix_by (compares_signed signed o)) (sym.Label l) None) (Plain (Number x) ∷ Plain (Number y) ∷ []) k.objects ≡ Moved (move_where true (holds signed o x y) l)
jump_row k comparison.Equal signed l x y = taken_where l (holds signed comparison.Equal x y)
jump_row k comparison.NotEqual signed l x y = taken_where l (holds signed comparison.NotEqual x y)
jump_row k comparison.Less true l x y = taken_where l (holds true comparison.Less x y)
jump_row k comparison.Less false l x y = taken_where l (holds false comparison.Less x y)
jump_row k comparison.LessEqual true l x y = taken_where l (holds true comparison.LessEqual x y)
jump_row k comparison.LessEqual false l x y = taken_where l (holds false comparison.LessEqual x y)
jump_row k comparison.Greater true l x y = taken_where l (holds true comparison.Greater x y)
jump_row k comparison.Greater false l x y = taken_where l (holds false comparison.Greater x y)
jump_row k comparison.GreaterEqual true l x y = taken_where l (holds true comparison.GreaterEqual x y)
jump_row k comparison.GreaterEqual false l x y = taken_where l (holds false comparison.GreaterEqual x y)

jump_where : (when : Bool) (k : Scene) (o : Comparison) (signed : Bool) (l x y : ℕ) → acts k.environment (head_with (jump_of (comparison_where when o)) (suffix_by (compares_signed signed (comparison_where when o))) (sym.Label l) None) (Plain (Number x) ∷ Plain (Number y) ∷ []) k.objects ≡ Moved (move_where when (holds signed o x y) l)
jump_where true k o signed l x y = jump_row k o signed l x y
jump_where false k o signed l x y =
    jump_row k (opposite o) signed l x y ∙ ap (λ (b : Bool). Moved (move_where true b l)) (opposite_holds signed o x y) ∙ ap Moved (sym (where_true (holds signed o x y) l))

-- ---- comparisons

pub comparison_holds : (k : Scene) (o : Comparison) (signed when truth : Bool) (l : ℕ) (a b : Typed) (v w : Value) → Holds k a v → Holds k b w → comparison_value signed o v w ≡ Ok truth → Acts k (compared o signed when l a b) (Moved (move_where when truth l))
comparison_holds k o signed when truth l a b v w h g e =
    let cause = first_cause ((is_no_number v || is_no_number w, PointerNumber) ∷ []) in
    let answer = holds signed o (number_or_zero v) (number_or_zero w) in
    let both = neither (is_no_number v) (is_no_number w) (first_not (is_no_number v || is_no_number w) PointerNumber [] (unless_none cause answer truth e)) in
    let n = number_of_value v both.0 in
    let m = number_of_value w both.1 in
    let x = word_of_number k.map v n.0 h.word n.1 h.is in
    let y = word_of_number k.map w m.0 g.word m.1 g.is in
    let is : holds signed o n.0 m.0 ≡ truth = ap (λ (z : Value). holds signed o n.0 (number_or_zero z)) (sym m.1) ∙ ap (λ (z : Value). holds signed o (number_or_zero z) (number_or_zero w)) (sym n.1) ∙ unless_same cause answer truth e in
    let as_signed = compares_signed signed (comparison_where when o) in
    let jump = head_with (jump_of (comparison_where when o)) (suffix_by as_signed) (sym.Label l) None in
    record {
      first = h.word;
      second = g.word;
      left = by_gives k as_signed a h.word h.gives;
      right = by_gives k as_signed b g.word g.gives;
      does =
          ap (λ (z : Word). acts k.environment jump (z ∷ g.word ∷ []) k.objects) x
          ∙ ap (λ (z : Word). acts k.environment jump (Plain (Number n.0) ∷ z ∷ []) k.objects) y
          ∙ jump_where when k o signed l n.0 m.0
          ∙ ap (λ (b : Bool). Moved (move_where when b l)) is;
    }

-- ---- tests

zero_row : (when : Bool) (k : Scene) (l x : ℕ) → acts k.environment (head_with (jump_by_zero when) I (sym.Label l) None) (Plain (Number x) ∷ Plain (Number 0) ∷ []) k.objects ≡ Moved (move_where when (not (x == 0)) l)
zero_row true k l x = taken_where l (not (x == 0))
zero_row false k l x = taken_where l (x == 0) ∙ ap (λ (b : Bool). Moved (move_where true b l)) (sym (twice_not (x == 0))) ∙ ap Moved (sym (where_true (not (x == 0)) l))

pub test_holds : (k : Scene) (when truth : Bool) (l : ℕ) (a : Typed) (v : Value) → Holds k a v → integer_tested v ≡ Ok truth → Acts k (tested when l a) (Moved (move_where when truth l))
test_holds k when truth l a v h e =
    let cause = first_cause ((is_no_number v, PointerNumber) ∷ []) in
    let answer = not (number_or_zero v == 0) in
    let n = number_of_value v (first_not (is_no_number v) PointerNumber [] (unless_none cause answer truth e)) in
    let x = word_of_number k.map v n.0 h.word n.1 h.is in
    let is : not (n.0 == 0) ≡ truth = ap (λ (z : Value). not (number_or_zero z == 0)) (sym n.1) ∙ unless_same cause answer truth e in
    let jump = head_with (jump_by_zero when) I (sym.Label l) None in
    record {
      first = h.word;
      second = Plain (Number 0);
      left = i_gives k a.suffix a.tree h.word h.gives;
      right = i_constant k 0 (omega arith);
      does =
          ap (λ (z : Word). acts k.environment jump (z ∷ Plain (Number 0) ∷ []) k.objects) x
          ∙ zero_row when k l n.0
          ∙ ap (λ (b : Bool). Moved (move_where when b l)) is;
    }
