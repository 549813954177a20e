-- Trees that store in slots and read them are well formed.
use Rattle.std.proofs.Common.{◌≡◌, ℕ, ◌≤◌, ℤ, true, true≢false, Some, None, List, refl, sym, arith}
use Rattle.std.proofs.lemmas.Option.{none-some}
use Rattle.op_forest.specs.declared.frame.Slot.{Slot}
use Rattle.op_forest.specs.declared.op.Op.{Op}
use Rattle.op_forest.specs.declared.op.Op.TheVariants as op
use Rattle.op_forest.specs.declared.suffix.Suffix.{Suffix}
use Rattle.op_forest.specs.declared.suffix.Suffix.TheVariants.{C, S, I, U, P, B, V}
use Rattle.op_forest.specs.Nodes.{head_of}
use Rattle.op_forest.specs.Nodes.{Node as Tree}
use Rattle.op_forest.specs.Nodes.{One as OneTree, Two as TwoTree}
use Rattle.op_forest.specs.Operators.{number}
use Rattle.op_forest.specs.Signature.{gives_value}
use Rattle.forests.specs.WellFormed.{op_of, HasArity, HasArities, HasKind, HasKinds, HasSlot, HasSlots, IsOperand, LiesInOne, label_by_address}
use Rattle.dag_forest.specs.Choice.{kind_of}
use Rattle.dag_forest.specs.Slots.{head, slot_address, slot_read, slot_store}
use Rattle.dag_seam.specs.Fitting.{IsFitTree}

-- a tree that is well formed, and gives a value of this suffix
pub record IsValueTree (slots : List Slot) (s : Suffix) (t : Tree) : Type 0 where
  pub arities : HasArities t
  pub kinds : HasKinds t
  pub locals : HasSlots slots t
  pub operand : IsOperand s t

-- no operator gives nothing and a value
pub no_void : (o : Op) → 1 ≤ number o V → gives_value o V ≡ true → ⊥
no_void op.Call l h = true≢false (sym h)
no_void op.Ret l h = true≢false (sym h)
no_void op.Jump l h = true≢false (sym h)
no_void op.Label l h = true≢false (sym h)
no_void o l h = omega (arith, l)

module _ (slots : List Slot) (offset : ℤ) (lies : LiesInOne slots offset) where
  address_kind : HasKind (slot_address offset)
  address_kind = record { operator = omega arith; part = (refl, tt); operands = tt }

  read_of : (s : Suffix) → HasKind (OneTree (head op.Indir s None) (slot_address offset)) → HasSlot slots (OneTree (head op.Indir s None) (slot_address offset)) → HasArity (OneTree (head op.Indir s None) (slot_address offset)) → IsOperand s (OneTree (head op.Indir s None) (slot_address offset)) → IsValueTree slots s (OneTree (head op.Indir s None) (slot_address offset))
  read_of s kind slot arity operand = record { arities = (arity, (λ l. refl)); kinds = (kind, address_kind); locals = (slot, (λ e. lies)); operand = operand }

  not_local : (op.Indir ≡ op.Addrl → ⊥) × (op.Asgn ≡ op.Addrl → ⊥) × (op.Cvi ≡ op.Addrl → ⊥) × (op.Cvu ≡ op.Addrl → ⊥)
  not_local = ((λ e. cc), (λ e. cc), (λ e. cc), (λ e. cc))

  read_c : IsValueTree slots C (OneTree (head op.Indir C None) (slot_address offset))
  read_c = read_of C (record { operator = omega arith; part = tt; operands = ((refl, refl), tt) }) (λ e. absurd (not_local.0 e)) (λ l. refl) (refl, refl)

  read_s : IsValueTree slots S (OneTree (head op.Indir S None) (slot_address offset))
  read_s = read_of S (record { operator = omega arith; part = tt; operands = ((refl, refl), tt) }) (λ e. absurd (not_local.0 e)) (λ l. refl) (refl, refl)

  read_i : IsValueTree slots I (OneTree (head op.Indir I None) (slot_address offset))
  read_i = read_of I (record { operator = omega arith; part = tt; operands = ((refl, refl), tt) }) (λ e. absurd (not_local.0 e)) (λ l. refl) (refl, refl)

  read_p : IsValueTree slots P (OneTree (head op.Indir P None) (slot_address offset))
  read_p = read_of P (record { operator = omega arith; part = tt; operands = ((refl, refl), tt) }) (λ e. absurd (not_local.0 e)) (λ l. refl) (refl, refl)

  pub read_fits : (s : Suffix) → (s ≡ B → ⊥) → (s ≡ V → ⊥) → IsValueTree slots s (slot_read (kind_of s) offset)
  read_fits C b v = read_c
  read_fits S b v = read_s
  read_fits I b v = read_i
  read_fits U b v = record {
    arities = ((λ l. refl), read_i.arities);
    kinds = (record { operator = omega arith; part = tt; operands = (read_i.operand, tt) }, read_i.kinds);
    locals = ((λ e. absurd (not_local.2 e)), read_i.locals);
    operand = (refl, refl);
  }
  read_fits P b v = read_p
  read_fits B b v = absurd (b refl)
  read_fits V b v = absurd (v refl)

  -- a read of a slot is no address of a label
  pub read_no_label : (s : Suffix) (l : ℕ) → label_by_address (op_of (slot_read (kind_of s) offset)) (head_of (slot_read (kind_of s) offset)).sym ≡ Some l → ⊥
  read_no_label C l e = none-some l e
  read_no_label S l e = none-some l e
  read_no_label I l e = none-some l e
  read_no_label U l e = none-some l e
  read_no_label P l e = none-some l e
  read_no_label B l e = none-some l e
  read_no_label V l e = none-some l e

  module _ (Is To : ℕ → Type 0) where
    store_of : (s : Suffix) (t : Tree) → IsValueTree slots s t → HasKind (TwoTree (head op.Asgn s None) (slot_address offset) t) → HasArity (TwoTree (head op.Asgn s None) (slot_address offset) t) → IsFitTree slots Is To (TwoTree (head op.Asgn s None) (slot_address offset) t)
    store_of s t h kind arity = record {
      arities = (arity, (λ l. refl), h.arities);
      kinds = (kind, address_kind, h.kinds);
      locals = ((λ e. absurd (not_local.1 e)), (λ e. lies), h.locals);
      label = λ l e. absurd (none-some l e);
      target = λ l e. absurd (none-some l e);
    }

    pub store_fits : (s : Suffix) → (s ≡ B → ⊥) → (s ≡ V → ⊥) → (t : Tree) → IsValueTree slots s t → IsFitTree slots Is To (slot_store (kind_of s) offset t)
    store_fits C b v t h = store_of C t h (record { operator = omega arith; part = tt; operands = ((refl, refl), (h.operand, tt)) }) (λ l. refl)
    store_fits S b v t h = store_of S t h (record { operator = omega arith; part = tt; operands = ((refl, refl), (h.operand, tt)) }) (λ l. refl)
    store_fits I b v t h = store_of I t h (record { operator = omega arith; part = tt; operands = ((refl, refl), (h.operand, tt)) }) (λ l. refl)
    store_fits U b v t h =
        let u : IsValueTree slots I (OneTree (head op.Cvu I None) t) = record {
          arities = ((λ l. refl), h.arities);
          kinds = (record { operator = omega arith; part = tt; operands = (h.operand, tt) }, h.kinds);
          locals = ((λ e. absurd (not_local.3 e)), h.locals);
          operand = (refl, refl);
        } in
        store_of I (OneTree (head op.Cvu I None) t) u (record { operator = omega arith; part = tt; operands = ((refl, refl), (u.operand, tt)) }) (λ l. refl)
    store_fits P b v t h = store_of P t h (record { operator = omega arith; part = tt; operands = ((refl, refl), (h.operand, tt)) }) (λ l. refl)
    store_fits B b v t h = absurd (b refl)
    store_fits V b v t h = absurd (v refl)
