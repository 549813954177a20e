-- A store, and then the next instruction.
use Rattle.std.proofs.Common.{◌≡◌, ℕ, ◌-◌, Bool, true, false, List, length, refl, sym, subst, ap, ◌∙◌}
use Rattle.std.specs.Prelude.{if◌then◌else◌}
use Rattle.lcc_base.specs.declared.order.Order.{Order}
use Rattle.asm_lines.specs.declared.operator.StoreOp.{StoreOp}
use Rattle.asm_lines.specs.declared.operator.StoreOp.TheVariants as store
use Rattle.asm_text.specs.Addresses.{data_start, floor_of}
use Rattle.asm_text.specs.declared.running.Step.{Step}
use Rattle.asm_text.specs.declared.running.Step.TheVariants.{Went, Ended, Stuck, StackOut, Failed}
use Rattle.asm_text.specs.Runs.{MStep}
use Rattle.mips_machine.specs.State.{Cpu}
use Rattle.mips_machine.specs.Memory.{is_in_stack, with_bytes, store_bytes, store_size, stored}
use Rattle.mips_machine.specs.StepTable.{accesses, goes, next}
use Rattle.mips_machine.specs.Did.{Did}

-- the memory with these bytes at an address that is in the stack, or isn't
put : Bool → Cpu → ℕ → List ℕ → Cpu
put b cpu address new =
    if b then record cpu { stack = with_bytes cpu.stack (address - floor_of (length cpu.stack)) new }
    else record cpu { statics = with_bytes cpu.statics (address - data_start) new }

put-next : (b : Bool) (cpu : Cpu) (address : ℕ) (new : List ℕ) → put b (next cpu) address new ≡ next (put b cpu address new)
unfolding put
put-next true cpu address new = refl
put-next false cpu address new = refl

stored-next : (order : Order) (op : StoreOp) (cpu : Cpu) (address n : ℕ) → stored order (next cpu) op address n ≡ next (stored order cpu op address n)
unfolding put
stored-next order store.Byte cpu address n = put-next (is_in_stack cpu 1 address) cpu address (store_bytes order store.Byte n)
stored-next order store.Half cpu address n = put-next (is_in_stack cpu (length (store_bytes order store.Half n)) address) cpu address (store_bytes order store.Half n)
stored-next order store.Word cpu address n = put-next (is_in_stack cpu (length (store_bytes order store.Word n)) address) cpu address (store_bytes order store.Word n)

-- what only goes went
Did-goes : (next old new : Cpu) (result : Step) → Did (goes next) old new result → (result ≡ Went) × (next ≡ new)
Did-goes next old new Went h = (refl, cc)
Did-goes next old new (Ended status) h = absurd (cc)
Did-goes next old new (Stuck cause pc) h = absurd (cc)
Did-goes next old new (StackOut pc) h = absurd (cc)
Did-goes next old new Failed h = absurd h

-- what going on behind a store did, the store did
pub Did-stored : (order : Order) (op : StoreOp) (cpu put new : Cpu) (address n m : ℕ) (result : Step) → ((done : MStep Cpu) → accesses cpu (store_size op) address done ≡ done) → n ≡ m → put ≡ stored order cpu op address n → Did (goes (next put)) put new result → Did (accesses cpu (store_size op) address (goes (stored order (next cpu) op address m))) cpu new result
Did-stored order op cpu put new address n m result can same is h =
    let went = Did-goes (next put) put new result h in
    let e : accesses cpu (store_size op) address (goes (stored order (next cpu) op address m)) ≡ goes new =
    can (goes (stored order (next cpu) op address m))
    ∙ ap goes (stored-next order op cpu address m ∙ ap (λ (k : ℕ). next (stored order cpu op address k)) (sym same) ∙ ap next (sym is) ∙ went.1) in
    subst (λ (r : Step). Did (accesses cpu (store_size op) address (goes (stored order (next cpu) op address m))) cpu new r) (sym went.0) e
