-- Calls: arguments as the parameters ask, or promoted.
use Rattle.std.proofs.Common.{◌≡◌, ℕ, Bool, true, false, ◌&&◌, List, refl, sym, ap, subst, ◌∙◌, inl, inr}
use Rattle.c_types.specs.CType.{Void, CType, Plain, Array, Simple, Pointer, Function, Structure, Union, Enumeration, Parameters, Open, Listed, CTypes, NoType, And, unqualified}
use Rattle.c_types.specs.Conversions.{is_integer, promoted}
use Rattle.c_types.specs.Layout.{Tag}
use Rattle.c_meaning.specs.CoreTrees.{NoCore, Cores, type_of}
use Rattle.c_meaning.specs.ExprConstraints.{all_assignable, all_passable, are_as_many, are_assignable, as_many, is_assignable, is_open_record, is_passable}
use Rattle.c_meaning.specs.Types.{has_size, is_function, is_pointer, is_record, is_scalar}
use Rattle.c_meaning.specs.Values.{CoreTree, CoreTrees, all_passed, converted, default_type, passed_open, passed_to, promoted_type}
use Rattle.c_meaning.specs.Fits.{AreArguments, AreListed, AreOpen, IsArgument, IsGiven, is_value, is_whole}
use Rattle.c_meaning.specs.Rows.{call, called, listed, parameters_type, result_type}
use Rattle.c_fits.proofs.lemmas.Booleans.{never, and_left, and_right, and_true, or_true}
use Rattle.c_fits.proofs.lemmas.Values.{IsPart, IsOperand, AreAllOperands, converted_type, converted_operand, operands_fit, operands_values}
use Rattle.c_fits.proofs.lemmas.Numbers.{promoted_type_is, promoted_bare, integer_scalar}
use Rattle.c_fits.proofs.lemmas.Assigned.{IsAssigned, assigned_as, bare_again, scalar_bare}

-- a scalar converted to a scalar type is an argument
pub scalar_argument : (tags : List Tag) (to : CType) (v : CoreTree) → is_scalar to ≡ true → is_whole tags (type_of (converted to v)) ≡ true
scalar_argument tags to v h = or_true (is_scalar (type_of (converted to v))) (is_record (type_of (converted to v)) && has_size tags (type_of (converted to v))) (inl (ap is_scalar (converted_type to v) ∙ h))

-- ---- to a parameter

pub passed_scalar : (to : CType) (v : CoreTree) → is_scalar to ≡ true → passed_to to v ≡ converted (unqualified to) v
passed_scalar (Plain q (Structure n)) v h = never (sym h)
passed_scalar (Plain q (Union n)) v h = never (sym h)
passed_scalar (Plain q k) v h = refl
passed_scalar (Array of n) v h = refl

pub passed_record : (to : CType) (v : CoreTree) → is_record to ≡ true → passed_to to v ≡ v
passed_record (Plain q (Structure n)) v h = refl
passed_record (Plain q (Union n)) v h = refl
passed_record (Plain q k) v h = never (sym h)
passed_record (Array of n) v h = never (sym h)

-- what is passed: an operand, an argument, and of the parameter's type
pub record IsPassed (tags : List Tag) (of : CType) (v : CoreTree) : Type 0 where
  pub operand : IsOperand tags v
  pub argument : IsArgument tags v
  pub type : unqualified (type_of v) ≡ unqualified of

pub passed : (tags : List Tag) (to : CType) (v : CoreTree) → IsOperand tags v → is_passable tags v ≡ true → is_assignable to v ≡ true → IsPassed tags to (passed_to to v)
passed tags to v o p h = by (assigned_as tags to v o.fits h)
  where
    by : IsAssigned to (type_of v) → IsPassed tags to (passed_to to v)
    by (inl k) =
        let s = scalar_bare to k.0 in
        let d : IsPassed tags to (converted (unqualified to) v) =
        record {
          operand = converted_operand tags (unqualified to) v o k.1 s (bare_again to);
          argument = scalar_argument tags (unqualified to) v s;
          type = ap unqualified (converted_type (unqualified to) v) ∙ bare_again to;
        }
        in
        subst (IsPassed tags to) (sym (passed_scalar to v k.0)) d
    by (inr k) =
        let d : IsPassed tags to v = record { operand = o; argument = p; type = k.1 } in
        subst (IsPassed tags to) (sym (passed_record to v k.0)) d

-- ---- without a parameter

pub record IsPassedOpen (tags : List Tag) (v : CoreTree) : Type 0 where
  pub operand : IsOperand tags v
  pub argument : IsArgument tags v
  pub type : promoted (type_of v) ≡ type_of v

-- a scalar at its default type
default_converted : (tags : List Tag) (v : CoreTree) (to : CType) → IsOperand tags v → is_scalar (type_of v) ≡ true → is_scalar to ≡ true → unqualified to ≡ to → promoted to ≡ to → IsPassedOpen tags (passed_to to v)
default_converted tags v to o s t bare p =
    let d : IsPassedOpen tags (converted to v) =
    record {
      operand = converted_operand tags to v o s t bare;
      argument = scalar_argument tags to v t;
      type = ap promoted (converted_type to v) ∙ p ∙ sym (converted_type to v);
    }
    in
    subst (IsPassedOpen tags) (sym (passed_scalar to v t ∙ ap (λ u. converted u v) bare)) d

number_passed : (tags : List Tag) (v : CoreTree) → IsOperand tags v → is_integer (type_of v) ≡ true → IsPassedOpen tags (passed_to (promoted_type v) v)
number_passed tags v o h =
    let u = promoted_type_is v h in
    default_converted tags v (promoted_type v) o (integer_scalar (type_of v) h) (integer_scalar (promoted_type v) u.0) (promoted_bare (promoted_type v) u) u.1

-- by the type of the value
passed_by : (tags : List Tag) (v : CoreTree) (t : CType) → type_of v ≡ t → IsOperand tags v → is_passable tags v ≡ true → IsPassedOpen tags (passed_to (default_type t v) v)
passed_by tags v (Plain q (Simple Void)) e o p = never (sym p ∙ passable)
  where
    passable : is_passable tags v ≡ false
    passable = rw e
passed_by tags v (Plain q (Simple b)) e o p = number_passed tags v o (ap is_integer e)
passed_by tags v (Plain q (Enumeration n)) e o p = number_passed tags v o (ap is_integer e)
passed_by tags v (Plain q (Pointer to)) e o p =
    let s : is_scalar (type_of v) ≡ true = ap is_scalar e in
    default_converted tags v (type_of v) o s s (o.bare s) (rw e)
passed_by tags v (Plain q (Structure n)) e o p = subst (IsPassedOpen tags) (sym (passed_record (type_of v) v (rw e))) (record { operand = o; argument = p; type = rw e })
passed_by tags v (Plain q (Union n)) e o p = subst (IsPassedOpen tags) (sym (passed_record (type_of v) v (rw e))) (record { operand = o; argument = p; type = rw e })
passed_by tags v (Plain q (Function r ps)) e o p = never (sym p ∙ passable)
  where
    passable : is_passable tags v ≡ false
    passable = rw e
passed_by tags v (Array of n) e o p = never (sym p ∙ passable)
  where
    passable : is_passable tags v ≡ false
    passable = rw e

pub passed_openly : (tags : List Tag) (v : CoreTree) → IsOperand tags v → is_passable tags v ≡ true → IsPassedOpen tags (passed_open v)
passed_openly tags v o p = passed_by tags v (type_of v) refl o p

-- ---- all arguments

pub all_operands : (tags : List Tag) (ps : CTypes) (vs : CoreTrees) → AreAllOperands tags vs → all_passable tags vs ≡ true → all_assignable ps vs ≡ true → AreAllOperands tags (all_passed ps vs)
all_operands tags NoType NoCore h p a = tt
all_operands tags (And t ps) NoCore h p a = tt
all_operands tags NoType (Cores v vs) h p a =
    let d = passed_openly tags v h.0 (and_left (is_passable tags v) (all_passable tags vs) p) in
    (d.operand, all_operands tags NoType vs h.1 (and_right (is_passable tags v) (all_passable tags vs) p) refl)
all_operands tags (And t ps) (Cores v vs) h p a =
    let d = passed tags t v h.0 (and_left (is_passable tags v) (all_passable tags vs) p) (and_left (is_assignable t v) (all_assignable ps vs) a) in
    (d.operand, all_operands tags ps vs h.1 (and_right (is_passable tags v) (all_passable tags vs) p) (and_right (is_assignable t v) (all_assignable ps vs) a))

pub all_open : (tags : List Tag) (vs : CoreTrees) → AreAllOperands tags vs → all_passable tags vs ≡ true → AreOpen tags (all_passed NoType vs)
all_open tags NoCore h p = tt
all_open tags (Cores v vs) h p =
    let d = passed_openly tags v h.0 (and_left (is_passable tags v) (all_passable tags vs) p) in
    (d.argument, (d.type, all_open tags vs h.1 (and_right (is_passable tags v) (all_passable tags vs) p)))

pub all_listed : (tags : List Tag) (ps : CTypes) (more : Bool) (vs : CoreTrees) → AreAllOperands tags vs → all_passable tags vs ≡ true → all_assignable ps vs ≡ true → as_many ps more vs ≡ true → AreListed tags ps more (all_passed ps vs)
all_listed tags NoType more NoCore h p a m = tt
all_listed tags NoType more (Cores v vs) h p a m = (m, all_open tags (Cores v vs) h p)
all_listed tags (And t ps) more NoCore h p a m = never (sym m)
all_listed tags (And t ps) more (Cores v vs) h p a m =
    let d = passed tags t v h.0 (and_left (is_passable tags v) (all_passable tags vs) p) (and_left (is_assignable t v) (all_assignable ps vs) a) in
    (d.argument, (d.type, all_listed tags ps more vs h.1 (and_right (is_passable tags v) (all_passable tags vs) p) (and_right (is_assignable t v) (all_assignable ps vs) a) m))

pub all_arguments : (tags : List Tag) (ps : Parameters) (vs : CoreTrees) → AreAllOperands tags vs → all_passable tags vs ≡ true → are_assignable ps vs ≡ true → are_as_many ps vs ≡ true → AreArguments tags ps (all_passed (listed ps) vs)
all_arguments tags Open vs h p a m = all_open tags vs h p
all_arguments tags (Listed ps more) vs h p a m = all_listed tags ps more vs h p a m

listed_assignable : (ps : Parameters) (vs : CoreTrees) → are_assignable ps vs ≡ true → all_assignable (listed ps) vs ≡ true
listed_assignable Open vs h = refl
listed_assignable (Listed ps more) vs h = h

-- ---- the call

given : (tags : List Tag) (t : CType) → is_open_record tags t ≡ false → IsGiven tags (unqualified t)
given tags (Plain q k) h = h
given tags (Array of n) h = h

pub call_part : (tags : List Tag) (line : ℕ) (f : CoreTree) (vs : CoreTrees) → IsOperand tags f → AreAllOperands tags vs → is_pointer (type_of f) ≡ true → is_function (called f) ≡ true
    → is_open_record tags (result_type (called f)) ≡ false → are_as_many (parameters_type (called f)) vs ≡ true → are_assignable (parameters_type (called f)) vs ≡ true → all_passable tags vs ≡ true
    → IsPart tags (call line f vs)
call_part tags line f vs o h p g r m a q =
    let ps = parameters_type (called f) in
    let all = all_operands tags (listed ps) vs h q (listed_assignable ps vs a) in
    record {
      fits = (
        (o.fits, operands_fit tags (all_passed (listed ps) vs) all),
        (
          and_true (is_value f) _ o.value (operands_values tags (all_passed (listed ps) vs) all),
          (p, (g, (refl, (given tags (result_type (called f)) r, all_arguments tags ps vs h q a m)))),
        ),
      );
      bare = λ e. bare_again (result_type (called f));
    }
