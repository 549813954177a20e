-- What an instruction is once its virtual operands are temporaries.
use Rattle.std.proofs.Common.{◌≡◌, ℕ, zero, suc, ◌<◌, List, [], ◌∷◌, ◌++◌, length, Bool, true, false, refl, sym, ap, ◌∙◌, subst, arith, append_assoc, length-append}
use Rattle.std.specs.Prelude.{if◌then◌else◌}
use Rattle.forests.specs.Bodies.{Setting}
use Rattle.vcode.specs.declared.operand.Operand.{Operand}
use Rattle.vcode.specs.Machines.{Machine, with_register}
use Rattle.vcode.specs.VirtualCode.{is_virtual}
use Rattle.slot_allocator.specs.Slots.{renamed}

-- the operands with temporaries in place of virtual registers
abbrev pub to_temporaries : List ℕ → List Operand → List Operand
to_temporaries [] os = os
to_temporaries (t ∷ ts) [] = []
to_temporaries (t ∷ ts) (o ∷ os) = record { reg = if is_virtual o.reg then t else o.reg; written = o.written } ∷ to_temporaries ts os

-- another instruction with these operands, else the same
pub record Renames {I : Type 0} (m : Machine I) (i j : I) (os : List Operand) : Type 0 where
  pub operands : m.operands j ≡ os
  pub loses : m.loses j ≡ m.loses i
  pub kind : m.kind j ≡ m.kind i
  pub acts : (s : Setting) → m.acts s j ≡ m.acts s i

with_at : (front : List Operand) (o : Operand) (os : List Operand) (n t : ℕ) → length front ≡ n → with_register (front ++ (o ∷ os)) n t ≡ front ++ (record { reg = t; written = o.written } ∷ os)
with_at [] o os zero t e = refl
with_at [] o os (suc n) t e = absurd (omega (arith, e))
with_at (p ∷ front) o os zero t e = absurd (omega (arith, e))
with_at (p ∷ front) o os (suc n) t e = ap (λ xs. p ∷ xs) (with_at front o os n t (omega (arith, e)))

within : (front : List Operand) (o : Operand) (os : List Operand) (n : ℕ) → length front ≡ n → n < length (front ++ (o ∷ os))
within front o os n e = let l = length-append front (o ∷ os) in omega (arith, l, e)

one : {I : Type 0} (m : Machine I) (b : Bool) (n t : ℕ) (front os : List Operand) (o : Operand) (i : I) → m.operands i ≡ front ++ (o ∷ os) → length front ≡ n → Renames m i (if b then m.rename i n t else i) (front ++ (record { reg = if b then t else o.reg; written = o.written } ∷ os))
one m true n t front os o i e l =
    let w : n < length (m.operands i) = subst (λ xs. n < length xs) (sym e) (within front o os n l) in
    record {
      operands = m.rename-operands i n t w ∙ ap (λ xs. with_register xs n t) e ∙ with_at front o os n t l;
      loses = m.rename-loses i n t w;
      kind = m.rename-kind i n t w;
      acts = λ s. m.rename-acts s i n t w;
    }
one m false n t front os o i e l = record { operands = e; loses = refl; kind = refl; acts = λ s. refl }

renames_from : {I : Type 0} (m : Machine I) (n : ℕ) (ts : List ℕ) (front os : List Operand) (i : I) → m.operands i ≡ front ++ os → length front ≡ n → Renames m i (renamed m n ts os i) (front ++ to_temporaries ts os)
renames_from m n [] front os i e l = record { operands = e; loses = refl; kind = refl; acts = λ s. refl }
renames_from m n (t ∷ ts) front [] i e l = record { operands = e; loses = refl; kind = refl; acts = λ s. refl }
renames_from m n (t ∷ ts) front (o ∷ os) i e l =
    let p : Operand = record { reg = if is_virtual o.reg then t else o.reg; written = o.written } in
    let j = if is_virtual o.reg then m.rename i n t else i in
    let a = one m (is_virtual o.reg) n t front os o i e l in
    let longer : length (front ++ (p ∷ [])) ≡ suc n = let k = length-append front (p ∷ []) in omega (arith, k, l) in
    let b = renames_from m (suc n) ts (front ++ (p ∷ [])) os j (a.operands ∙ sym (append_assoc front (p ∷ []) os)) longer in
    record {
      operands = b.operands ∙ append_assoc front (p ∷ []) (to_temporaries ts os);
      loses = b.loses ∙ a.loses;
      kind = b.kind ∙ a.kind;
      acts = λ s. b.acts s ∙ a.acts s;
    }

pub renames : {I : Type 0} (m : Machine I) (ts : List ℕ) (i : I) → Renames m i (renamed m 0 ts (m.operands i) i) (to_temporaries ts (m.operands i))
renames m ts i = renames_from m 0 ts [] (m.operands i) i refl refl
