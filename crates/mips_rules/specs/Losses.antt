-- What the instructions lose on MIPS.
-- Source: Fraser and Hanson, A Retargetable C Compiler, chapter 16 (the calling convention).
use Rattle.std.specs.Prelude.{◌≡◌, ℕ, ◌<◌, ◌≤◌, ◌==◌, ◌||◌, List, [], ◌∷◌, Bool, true, false, refl}
use Rattle.std.proofs.Common.{arith}
use Rattle.std.proofs.lemmas.Bool.{ne_eqb}
use Rattle.vcode.specs.Machines.{nothing_lost}
use Rattle.vcode.specs.VirtualCode.{among}
use Rattle.frame_code.specs.declared.instr.Instr.{Instr}
use Rattle.frame_code.specs.Instructions.{Shape, LoadsNumber, Operates, Negates, HandsOver, Calls, Returns, Copies, LoadsSlot, StoresSlot, shape}
use Rattle.frame_code.specs.FrameMachine.{Losses}

-- $1 to $15, $24 and $25 are those that a called function needn't save, and $31 gets the place to return to
abbrev pub lost_at_calls : List ℕ
lost_at_calls = 1 ∷ 2 ∷ 3 ∷ 4 ∷ 5 ∷ 6 ∷ 7 ∷ 8 ∷ 9 ∷ 10 ∷ 11 ∷ 12 ∷ 13 ∷ 14 ∷ 15 ∷ 24 ∷ 25 ∷ 31 ∷ []

abbrev pub lost_by : Shape → ℕ → Bool
lost_by LoadsNumber = nothing_lost
lost_by (Operates op) = nothing_lost
lost_by Negates = nothing_lost
lost_by HandsOver = nothing_lost
lost_by Calls = λ r. among r lost_at_calls
lost_by Returns = nothing_lost
lost_by Copies = nothing_lost
lost_by LoadsSlot = nothing_lost
lost_by StoresSlot = nothing_lost

abbrev pub loses : Instr → ℕ → Bool
loses i = lost_by (shape i)

or_false : (b c : Bool) → b ≡ false → c ≡ false → (b || c) ≡ false
or_false true c e f = absurd cc
or_false false c e f = f

-- each of these registers is below 64
abbrev AllLow : List ℕ → Type 0
AllLow [] = Unit {0}
AllLow (q ∷ qs) = (q < 64) × AllLow qs

apart : (q r : ℕ) → q < 64 → 64 ≤ r → r ≡ q → ⊥
apart q r h g e = omega (arith, h, g, e)

not_among : (qs : List ℕ) (r : ℕ) → AllLow qs → 64 ≤ r → among r qs ≡ false
not_among [] r h g = refl
not_among (q ∷ qs) r h g = or_false (r == q) (among r qs) (ne_eqb r q (apart q r h.0 g)) (not_among qs r h.1 g)

low_calls : AllLow lost_at_calls
low_calls = (omega arith, (omega arith, (omega arith, (omega arith, (omega arith, (omega arith, (omega arith, (omega arith, (omega arith, (omega arith, (omega arith, (omega arith, (omega arith, (omega arith, (omega arith, (omega arith, (omega arith, (omega arith, tt))))))))))))))))))

pub calls_lose_low : (r : ℕ) → 64 ≤ r → among r lost_at_calls ≡ false
calls_lose_low r h = not_among lost_at_calls r low_calls h

pub lost_low : (x : Shape) (r : ℕ) → 64 ≤ r → lost_by x r ≡ false
lost_low LoadsNumber r h = refl
lost_low (Operates op) r h = refl
lost_low Negates r h = refl
lost_low HandsOver r h = refl
lost_low Calls r h = calls_lose_low r h
lost_low Returns r h = refl
lost_low Copies r h = refl
lost_low LoadsSlot r h = refl
lost_low StoresSlot r h = refl

abbrev pub mips_losses : Losses
mips_losses = record { loses = lost_by; scratch = nothing_lost; low = lost_low; load-loses = refl; store-loses = refl; copy-loses = refl }
