-- The forest of a program is well formed: each argument is taken by the call behind it.
-- ---- expressions
use Rattle.std.specs.Prelude.{◌≡◌, ℕ, zero, suc, ◌≤◌, ◌<◌, ◌^◌, pos, FitsSigned, Some, None, List, [], ◌∷◌, ◌++◌, drop, flat_map, slice_get, refl}
use Rattle.std.specs.Int.{w32}
use Rattle.std.specs.List.{AllByRecursion}
use Rattle.std.proofs.Common.{arith, inl, subst}
use Rattle.std.proofs.lemmas.Int.{fits_signed_from_abs}
use Rattle.first_form.specs.declared.expression.Operator.TheVariants as sign
use Rattle.first_form.specs.Expression.{MExpression, Constant, Negated, Combined, Enclosed}
use Rattle.first_form.specs.Grammar.{Derives}
use Rattle.first_form.specs.FirstProgram.{MProgram}
use Rattle.first_form.specs.FirstForm.{IsExpression}
use Rattle.op_forest.specs.declared.forest.Forest.{Forest}
use Rattle.op_forest.specs.declared.frame.Slot.{Slot}
use Rattle.op_forest.specs.declared.op.Op.TheVariants as op
use Rattle.op_forest.specs.declared.suffix.Suffix.TheVariants.{I}
use Rattle.op_forest.specs.Labels.{label_of}
use Rattle.op_forest.specs.Nodes.{Node, One}
use Rattle.forests.specs.WellFormed.{HasArities, HasKinds, HasSlots, IsOperand, IsTaken, IsFit, IsGood, IsWellFormed, target_of}
use Rattle.first_forest.specs.FirstForest.{int_head, expression_node, putchar_node, print_roots, return_root, main_of}

expression_arities : (e : MExpression) → HasArities (expression_node e)
expression_arities (Constant n) = λ h. refl
expression_arities (Negated e) = (λ h. refl, expression_arities e)
expression_arities (Combined sign.Add a b) = (λ h. refl, expression_arities a, expression_arities b)
expression_arities (Combined sign.Subtract a b) = (λ h. refl, expression_arities a, expression_arities b)
expression_arities (Combined sign.Multiply a b) = (λ h. refl, expression_arities a, expression_arities b)
expression_arities (Enclosed e) = expression_arities e

-- an expression gives an int
gives_int : (e : MExpression) → IsOperand I (expression_node e)
gives_int (Constant n) = (refl, refl)
gives_int (Negated e) = (refl, refl)
gives_int (Combined sign.Add a b) = (refl, refl)
gives_int (Combined sign.Subtract a b) = (refl, refl)
gives_int (Combined sign.Multiply a b) = (refl, refl)
gives_int (Enclosed e) = gives_int e

constant_fits : (n : ℕ) → n ≤ 2147483647 → FitsSigned w32 (pos n)
constant_fits n h = fits_signed_from_abs w32 (pos n) (let l : n < 2 ^ 31 = omega arith in l)

expression_kinds : (level : ℕ) (e : MExpression) → Derives level e → HasKinds (expression_node e)
expression_kinds level (Constant n) h = record { operator = omega arith; part = (refl, constant_fits n h); operands = tt }
expression_kinds level (Negated e) h = (record { operator = omega arith; part = tt; operands = (gives_int e, tt) }, expression_kinds 2 e h)
expression_kinds level (Combined sign.Add a b) h = (record { operator = omega arith; part = tt; operands = (gives_int a, (gives_int b, tt)) }, expression_kinds _ a h.1, expression_kinds _ b h.2)
expression_kinds level (Combined sign.Subtract a b) h = (record { operator = omega arith; part = tt; operands = (gives_int a, (gives_int b, tt)) }, expression_kinds _ a h.1, expression_kinds _ b h.2)
expression_kinds level (Combined sign.Multiply a b) h = (record { operator = omega arith; part = tt; operands = (gives_int a, (gives_int b, tt)) }, expression_kinds _ a h.1, expression_kinds _ b h.2)
expression_kinds level (Enclosed e) h = expression_kinds 0 e h

expression_slots : (slots : List Slot) (e : MExpression) → HasSlots slots (expression_node e)
expression_slots slots (Constant n) = λ x. absurd cc
expression_slots slots (Negated e) = (λ x. absurd cc, expression_slots slots e)
expression_slots slots (Combined sign.Add a b) = (λ x. absurd cc, expression_slots slots a, expression_slots slots b)
expression_slots slots (Combined sign.Subtract a b) = (λ x. absurd cc, expression_slots slots a, expression_slots slots b)
expression_slots slots (Combined sign.Multiply a b) = (λ x. absurd cc, expression_slots slots a, expression_slots slots b)
expression_slots slots (Enclosed e) = expression_slots slots e

-- ---- roots

-- a root before these, which is no label, jumps to none and has no local
record IsPlain (t : Node) (behind : List Node) : Type 0 where
  arities : HasArities t
  fit : IsFit t (IsTaken behind)
  target : target_of t ≡ None
  label : label_of t ≡ None
  slots : (slots : List Slot) → HasSlots slots t

argument_plain : (e : MExpression) (rest : List Node) → IsExpression e → IsPlain (One (int_head op.Arg) (expression_node e)) (One (int_head op.Call) putchar_node ∷ rest)
argument_plain e rest h = record {
  arities = (λ l. refl, expression_arities e);
  fit = record {
    kinds = (record { operator = omega arith; part = tt; operands = (gives_int e, tt) }, expression_kinds 0 e h.0);
    argument = λ x. (λ y. cc, inl (inl refl));
  };
  target = refl;
  label = refl;
  slots = λ slots. (λ x. absurd cc, expression_slots slots e);
}

call_plain : (rest : List Node) → IsPlain (One (int_head op.Call) putchar_node) rest
call_plain rest = record {
  arities = (λ l. refl, λ l. refl);
  fit = record {
    kinds = (record { operator = omega arith; part = tt; operands = ((refl, refl), tt) }, record { operator = omega arith; part = tt; operands = tt });
    argument = λ x. absurd cc;
  };
  target = refl;
  label = refl;
  slots = λ slots. (λ x. absurd cc, λ x. absurd cc);
}

return_plain : (e : MExpression) → IsExpression e → IsPlain (return_root e) []
return_plain e h = record {
  arities = (λ l. refl, expression_arities e);
  fit = record {
    kinds = (record { operator = omega arith; part = tt; operands = (gives_int e, tt) }, expression_kinds 0 e h.0);
    argument = λ x. absurd cc;
  };
  target = refl;
  label = refl;
  slots = λ slots. (λ x. absurd cc, expression_slots slots e);
}

-- each of these roots is so before those behind it
abbrev ArePlain : List Node → Type 0
ArePlain [] = Unit {0}
ArePlain (t ∷ ts) = IsPlain t ts × ArePlain ts

statements_plain : (es : List MExpression) (r : MExpression) → AllByRecursion IsExpression es → IsExpression r → ArePlain (flat_map print_roots es ++ return_root r ∷ [])
statements_plain [] r h k = (return_plain r k, tt)
statements_plain (e ∷ es) r h k =
    (argument_plain e (flat_map print_roots es ++ return_root r ∷ []) h.0, (call_plain (flat_map print_roots es ++ return_root r ∷ []), statements_plain es r h.1 k))

-- ---- forests

plain_at : (ts : List Node) → ArePlain ts → (place : ℕ) (t : Node) → slice_get ts place ≡ Some t → IsPlain t (drop (suc place) ts)
plain_at [] h place t e = absurd (let never : ⊥ = cc in never)
plain_at (u ∷ us) h zero t e = let same : u ≡ t = cc in subst (λ x. IsPlain x us) same h.0
plain_at (u ∷ us) h (suc place) t e = plain_at us h.1 place t e

plain_good : (f : Forest) (place : ℕ) (t : Node) → IsPlain t (drop (suc place) f.roots) → IsGood f place t
plain_good f place t h = record {
  arities = h.arities;
  fit = h.fit;
  labels = record {
    target = λ l e. absurd (let none = h.target in let never : ⊥ = cc in never);
    once = λ l e. absurd (let none = h.label in let never : ⊥ = cc in never);
  };
  slots = h.slots f.frame;
}

pub well_formed : (p : MProgram) → AllByRecursion IsExpression p.prints → IsExpression p.result → IsWellFormed (main_of p).forest
well_formed p prints result =
    let f = (main_of p).forest in
    record { good = λ place t e. plain_good f place t (plain_at f.roots (statements_plain p.prints p.result prints result) place t e) }
