-- The sets of registers that instructions of MIPS lose.
use Rattle.std.specs.Prelude.{◌≡◌, ℕ, ◌≤◌, false, length, refl}
use Rattle.std.proofs.Common.{◌∙◌, sym, ⊎_elim}
use Rattle.std.proofs.lemmas.Bool.{agree_below_at, cases_lt}
use Rattle.std.proofs.lemmas.List.{get_or_past, get_or-replicate, length-replicate}
use Rattle.vcode.specs.RegisterSets.{has, with_all, none}
use Rattle.vcode.specs.VirtualCode.{among}
use Rattle.frame_code.specs.declared.instr.Instr.{Instr}
use Rattle.frame_code.specs.declared.instr.Instr.TheVariants as instr
use Rattle.mips_rules.specs.Losses.{lost_at_calls, loses}
use Rattle.mips_rules.specs.Losses.{calls_lose_low}

pub none_has : (r : ℕ) → has none r ≡ false
none_has r = ⊎_elim (λ h. get_or-replicate 64 r false false h) (λ h. get_or_past none r false (above r h)) (cases_lt r 64)
  where
    above : (k : ℕ) → 64 ≤ k → length none ≤ k
    above k h = rw (length-replicate 64 false) h

lost_length : length (with_all none lost_at_calls) ≡ 64
lost_length = refl

pub lost_has : (r : ℕ) → has (with_all none lost_at_calls) r ≡ among r lost_at_calls
lost_has r = ⊎_elim (λ h. agree_below_at (λ k. has (with_all none lost_at_calls) k) (λ k. among k lost_at_calls) 64 r refl h) (λ h. past r h) (cases_lt r 64)
  where
    past : (k : ℕ) → 64 ≤ k → has (with_all none lost_at_calls) k ≡ among k lost_at_calls
    past k h = get_or_past (with_all none lost_at_calls) k false (rw lost_length h) ∙ sym (calls_lose_low k h)

pub others_lose_nothing : (i : Instr) → ((to name : ℕ) → i ≡ instr.Call to name → ⊥) → (r : ℕ) → loses i r ≡ false
others_lose_nothing (instr.LoadNumber to n) h r = refl
others_lose_nothing (instr.Binary op to from operand) h r = refl
others_lose_nothing (instr.Negate to from) h r = refl
others_lose_nothing (instr.Argument from) h r = refl
others_lose_nothing (instr.Call to name) h r = absurd (h to name refl)
others_lose_nothing (instr.Return from) h r = refl
others_lose_nothing (instr.Copy to from) h r = refl
others_lose_nothing (instr.LoadSlot to slot) h r = refl
others_lose_nothing (instr.StoreSlot from slot) h r = refl
