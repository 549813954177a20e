-- Functions of a unit that are lowered one behind the other.
use Rattle.std.specs.Prelude.{◌≡◌, ℕ, suc, ◌+◌, ◌<◌, List, [], ◌∷◌, ◌++◌, length, map, drop, get_or}
use Rattle.std.proofs.Common.{sym, ap, ◌∙◌, subst, arith, append-nil, append_assoc}
use Rattle.std.proofs.lemmas.List.{length-append}
use Rattle.lcc_base.specs.declared.order.Order.{Order}
use Rattle.op_forest.specs.declared.lowered.LoweredFunction.{LoweredFunction}
use Rattle.op_forest.specs.declared.lowered.LoweredObject.{LoweredObject}
use Rattle.c_meaning.specs.declared.core_unit.CoreFunction.{CoreFunction}
use Rattle.c_meaning.specs.Units.{FunctionTree, UnitTree}
use Rattle.c_worlds.specs.declared.program.Program.{Program}
use Rattle.c_worlds.specs.Programs.{unit_of}
use Rattle.lowered_statements.specs.FunctionBodies.{low_f}
use Rattle.lowered_units.specs.LoweredUnits.{AreLoweredFunctions, IsLoweredFunction}
use Rattle.lowered_units.specs.Tables.{all_tables, bodies, bodies_from, first_table, table_count, table_objects}
use Rattle.statement_steps.proofs.lemmas.Lists.{left_is}
use Rattle.c_lower_stmt.specs.Bodies.{function_in}
use Rattle.c_lower_unit.specs.declared.functions.Lowering.{Lowering}
use Rattle.c_lower_unit.specs.Lowerings.{AddsFunction, IsLowering}

-- these functions are left, from this number on, whose tables are named from this name on
pub record LeftFrom (u : UnitTree) (order : Order) (own : List LoweredObject) (number name : ℕ) (left : List FunctionTree) (l : Lowering) : Type 0 where
  pub number_is : number ≡ length l.functions
  pub name_is : name ≡ first_table u + l.tables
  pub functions : (gs : List LoweredFunction) → AreLoweredFunctions number left (bodies_from u order number name left) gs → AreLoweredFunctions 0 u.functions (bodies u order) (l.functions ++ gs)
  pub objects : own ++ all_tables 0 (first_table u) (bodies u order) ≡ l.objects ++ all_tables number name (bodies_from u order number name left)
  pub tables : table_count (bodies u order) ≡ l.tables + table_count (bodies_from u order number name left)

pub record Left (u : UnitTree) (order : Order) (own : List LoweredObject) (left : List FunctionTree) (l : Lowering) : Type 0 where
  pub number : ℕ
  pub name : ℕ
  pub are : LeftFrom u order own number name left l

pub none_yet : (u : UnitTree) (order : Order) (own : List LoweredObject) (l : Lowering) → l.functions ≡ [] → l.objects ≡ own → l.tables ≡ 0 → Left u order own u.functions l
none_yet u order own l nothing are none = record {
  number = 0;
  name = first_table u;
  are = record {
    number_is = sym (ap (λ (gs : List LoweredFunction). length gs) nothing);
    name_is = omega (arith, none);
    functions = λ gs h. subst (λ (fs : List LoweredFunction). AreLoweredFunctions 0 u.functions (bodies u order) (fs ++ gs)) (sym nothing) h;
    objects = ap (λ (os : List LoweredObject). os ++ all_tables 0 (first_table u) (bodies u order)) (sym are);
    tables = omega (arith, none);
  };
}

-- ---- one more

pub record Adds (u : UnitTree) (order : Order) (f : FunctionTree) (old new : Lowering) : Type 0 where
  pub function : LoweredFunction
  pub is : IsLoweredFunction (length old.functions) f (low_f u order (length old.functions) (first_table u + old.tables) f) function
  pub functions : new.functions ≡ old.functions ++ function ∷ []
  pub objects : new.objects ≡ old.objects ++ table_objects (length old.functions) (first_table u + old.tables) (low_f u order (length old.functions) (first_table u + old.tables) f).tables
  pub tables : new.tables ≡ old.tables + length (low_f u order (length old.functions) (first_table u + old.tables) f).tables

module _ (u : UnitTree) (order : Order) (own : List LoweredObject) (f : FunctionTree) (left : List FunctionTree) (old new : Lowering) where
  more_from : (number name : ℕ) → LeftFrom u order own number name (f ∷ left) old → number ≡ length old.functions → name ≡ first_table u + old.tables
      → (g : LoweredFunction) → IsLoweredFunction number f (low_f u order number name f) g → new.functions ≡ old.functions ++ g ∷ []
      → new.objects ≡ old.objects ++ table_objects number name (low_f u order number name f).tables → new.tables ≡ old.tables + length (low_f u order number name f).tables
      → Left u order own left new
  more_from number name h is_number is_name g is functions objects tables =
      let b = low_f u order number name f in
      let rest = bodies_from u order (suc number) (name + length b.tables) left in
      let many : length new.functions ≡ length old.functions + 1 = ap (λ (gs : List LoweredFunction). length gs) functions ∙ length-append old.functions (g ∷ []) in
      let count = h.tables in
      record {
        number = suc number;
        name = name + length b.tables;
        are = record {
          number_is = omega (arith, many, is_number);
          name_is = omega (arith, is_name, tables);
          functions = λ gs k.
              subst (λ (xs : List LoweredFunction). AreLoweredFunctions 0 u.functions (bodies u order) xs)
              (sym (append_assoc old.functions (g ∷ []) gs) ∙ ap (λ (xs : List LoweredFunction). xs ++ gs) (sym functions))
              (h.functions (g ∷ gs) (is, k));
          objects =
              h.objects
              ∙ sym (append_assoc old.objects (table_objects number name b.tables) (all_tables (suc number) (name + length b.tables) rest))
              ∙ ap (λ (os : List LoweredObject). os ++ all_tables (suc number) (name + length b.tables) rest) (sym objects);
          tables = omega (arith, count, tables);
        };
      }

  pub one_more : Left u order own (f ∷ left) old → Adds u order f old new → Left u order own left new
  one_more h a =
      let n = h.are.number_is in
      let m = h.are.name_is in
      more_from h.number h.name h.are n m a.function
      (subst (λ k. IsLoweredFunction k f (low_f u order k h.name f) a.function) (sym n) (subst (λ k. IsLoweredFunction (length old.functions) f (low_f u order (length old.functions) k f) a.function) (sym m) a.is))
      a.functions
      (a.objects ∙ (λ i. old.objects ++ table_objects (sym n i) (sym m i) (low_f u order (sym n i) (sym m i) f).tables))
      (a.tables ∙ (λ i. old.tables + length (low_f u order (sym n i) (sym m i) f).tables))

pub none_left : (u : UnitTree) (order : Order) (own : List LoweredObject) (l : Lowering) → Left u order own [] l
    → AreLoweredFunctions 0 u.functions (bodies u order) l.functions × (l.objects ≡ own ++ all_tables 0 (first_table u) (bodies u order)) × (l.tables ≡ table_count (bodies u order))
none_left u order own l h =
    let count = h.are.tables in (
      subst (λ (gs : List LoweredFunction). AreLoweredFunctions 0 u.functions (bodies u order) gs) (append-nil l.functions) (h.are.functions [] tt),
      sym (append-nil l.objects) ∙ sym h.are.objects,
      omega (arith, count),
    )

-- ---- of a program

abbrev pub functions_in : Program → List CoreFunction → List FunctionTree
functions_in p fs = map (function_in p) fs

pub goes_on : (p : Program) (own : List LoweredObject) (fs : List CoreFunction) (i : ℕ) (f : CoreFunction) (first : ℕ) (old new : Lowering) → i < length fs → f ≡ get_or fs i f → first ≡ first_table (unit_of p)
    → Left (unit_of p) p.order own (functions_in p (drop i fs)) old → AddsFunction p first f old new → Left (unit_of p) p.order own (functions_in p (drop (i + 1) fs)) new
goes_on p own fs i f first old new lt is name h a =
    let u = unit_of p in
    let b : AddsFunction p (first_table u) f old new = subst (λ n. AddsFunction p n f old new) name a in
    one_more u p.order own (function_in p f) (functions_in p (drop (i + 1) fs)) old new
    (subst (λ (xs : List CoreFunction). Left u p.order own (functions_in p xs) old) (left_is fs i f lt is) h)
    (record { function = b.function; is = b.is; functions = b.functions; objects = b.objects; tables = b.tables })

pub ends : (p : Program) (own : List LoweredObject) (left : List CoreFunction) (l : Lowering) → left ≡ [] → Left (unit_of p) p.order own (functions_in p left) l → IsLowering p own l
ends p own left l none h =
    let k = none_left (unit_of p) p.order own l (subst (λ (xs : List CoreFunction). Left (unit_of p) p.order own (functions_in p xs) l) none h) in
    record { functions = k.0; objects = k.1; tables = k.2 }
