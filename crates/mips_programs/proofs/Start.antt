-- The start of the machine is where the call of the function main begins.
use Rattle.std.proofs.Common.{◌≡◌, ℕ, zero, suc, ◌+◌, ◌*◌, ◌^◌, ◌<◌, ◌≤◌, List, [], Option, Some, None, refl, sym, ap, subst, arith}
use Rattle.std.specs.Prelude.{slice_get, slice_index, slice_set, replicate}
use Rattle.std.proofs.lemmas.List.{length-replicate}
use Rattle.std.proofs.lemmas.Option.{none-some, same_Some}
use Rattle.lcc_base.specs.declared.order.Order.{Order}
use Rattle.op_forest.specs.Lowered.{LoweredUnit}
use Rattle.forests.specs.Units.{start_world}
use Rattle.vcode.specs.Maps.{Map}
use Rattle.asm_text.specs.Addresses.{code_start, end_at, floor_of}
use Rattle.mips_machine.specs.Run.{first_registers, first_cpu}
use Rattle.mips_programs.specs.Working.{Working}
use Rattle.mips_programs.specs.Matches.{IsBare, HasPlaces, Entry}
use Rattle.mips_programs.proofs.Steps.{small_set}
use Rattle.mips_programs.proofs.Keep.{bare_lies}

-- the machine at its start, with these bytes as data, where the label main stands at this place
abbrev pub at_start : List ℕ → ℕ → ℕ → List ℕ → Working
at_start statics stack main input = record { cpu = first_cpu statics stack main; printed = []; left = input }

abbrev address_or_none : Option ℕ → ℕ
address_or_none (Some address) = address
address_or_none None = 0

-- no object lies in memory, and functions have these addresses
abbrev pub start_map : (ℕ → Option ℕ) → Map
start_map places = record { object = λ o. None; function = λ name. address_or_none (places name); label = λ f l. 0 }

pub start_places : (places : ℕ → Option ℕ) → HasPlaces (start_map places) places
start_places places name address e = ap address_or_none e

pub start_bare : (places : ℕ → Option ℕ) → IsBare (start_map places)
start_bare places o = refl

replicated : (b n : ℕ) → 0 < b → (r : ℕ) → slice_index (replicate n 0) r < b
replicated b zero h r = h
replicated b (suc n) h zero = h
replicated b (suc n) h (suc r) = replicated b n h r

replicated_small : (b n : ℕ) → 0 < b → (x v : ℕ) → slice_get (replicate n 0) x ≡ Some v → v < b
replicated_small b zero h x v e = absurd (none-some v e)
replicated_small b (suc n) h zero v e = subst (λ y. y < b) (same_Some 0 v e) h
replicated_small b (suc n) h (suc x) v e = replicated_small b n h x v e

first_small : (r : ℕ) → slice_index first_registers r < 2 ^ 32
first_small =
    small_set (2 ^ 32) (slice_set (slice_set (replicate 32 0) 29 0x7ffe_ffe0) 31 end_at) 5 0x7ffe_fff8 (omega arith)
    (small_set (2 ^ 32) (slice_set (replicate 32 0) 29 0x7ffe_ffe0) 31 end_at (omega arith)
    (small_set (2 ^ 32) (replicate 32 0) 29 0x7ffe_ffe0 (omega arith) (replicated (2 ^ 32) 32 (omega arith))))

pub start_entry : (order : Order) (room : ℕ → ℕ) (map : Map) (u : LoweredUnit) (statics input : List ℕ) (stack name main : ℕ) → IsBare map → map.function name ≡ code_start + 4 * main → 4096 ≤ stack → stack ≤ 16777216 → Entry order room map [] name (start_world u input) (at_start statics stack main input)
start_entry order room map u statics input stack name main bare at low high = record {
  at = sym at;
  words = first_small;
  count = refl;
  within = subst (λ n. n ≤ 16777216) (sym (length-replicate stack 0)) high;
  low = subst (λ n. floor_of n ≤ 0x7ffe_ffe0) (sym (length-replicate stack 0)) (omega arith);
  high = omega arith;
  four = refl;
  small = replicated_small 256 stack (omega arith);
  shows = record { printed = refl; input = refl; lies = bare_lies map _ _ _ bare };
  passed = tt;
  kept = λ a k. absurd k;
  deep = omega arith;
}

-- the call of main returns to where a run ends
pub start_back : (statics : List ℕ) (stack main : ℕ) → slice_index (first_cpu statics stack main).registers 31 ≡ end_at
start_back statics stack main = refl
