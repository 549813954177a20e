-- The argument words of code, from a place on.
use Rattle.std.proofs.Common.{◌≡◌, ℕ, ◌+◌, ◌<◌, ◌≤◌, List, [], ◌∷◌, length, get_or, drop, max, sym, ap, ◌∙◌, subst, arith}
use Rattle.std.proofs.lemmas.List.{drop_more, drop_all}
use Rattle.frame_code.specs.declared.instr.Instr.{Instr}
use Rattle.frame_code.specs.declared.instr.Instr.TheVariants as instr
use Rattle.mips_target.specs.FunctionCode.{handed_behind, most_handed}

-- at most one more word is handed by an instruction
pub one_more : (k : ℕ) (i : Instr) → handed_behind k i ≤ k + 1
one_more k (instr.LoadNumber to n) = omega arith
one_more k (instr.Binary op to from x) = omega arith
one_more k (instr.Negate to from) = omega arith
one_more k (instr.Argument from) = omega arith
one_more k (instr.Call to name) = omega arith
one_more k (instr.Return from) = omega arith
one_more k (instr.Copy to from) = omega arith
one_more k (instr.LoadSlot to slot) = omega arith
one_more k (instr.StoreSlot from slot) = omega arith

-- the words that are handed first are among the most
pub handed_first : (k : ℕ) (is : List Instr) → k ≤ most_handed k is
handed_first k [] = omega arith
handed_first k (i ∷ is) = omega arith

passed : (most k h rest all : ℕ) → k ≤ most → h ≤ rest → max most (max k rest) ≡ all → max (max most h) rest ≡ all
passed most k h rest all le low e = omega (arith, le, low, e)

-- an instruction is passed
pub most_at : (code : List Instr) (n k most all : ℕ) (d : Instr) → n < length code → k ≤ most → max most (most_handed k (drop n code)) ≡ all → max (max most (handed_behind k (get_or code n d))) (most_handed (handed_behind k (get_or code n d)) (drop (n + 1) code)) ≡ all
most_at code n k most all d lt le e =
    passed most k (handed_behind k (get_or code n d)) (most_handed (handed_behind k (get_or code n d)) (drop (n + 1) code)) all le (handed_first (handed_behind k (get_or code n d)) (drop (n + 1) code)) (ap (λ is. max most (most_handed k is)) (sym (drop_more code n d lt)) ∙ e)

-- at the end
pub most_end : (code : List Instr) (n k most all : ℕ) → length code ≤ n → k ≤ most → max most (most_handed k (drop n code)) ≡ all → most ≡ all
most_end code n k most all long le e =
    let f : max most (most_handed k []) ≡ all = ap (λ is. max most (most_handed k is)) (sym (drop_all n code long)) ∙ e in omega (arith, f, le)

-- what holds of the words handed and of the most of them, behind one more instruction
pub record IsCounted (code : List Instr) (n k most all : ℕ) : Type 0 where
  pub few : k ≤ n
  pub least : k ≤ most
  pub all_is : max most (most_handed k (drop n code)) ≡ all

pub counted : (code : List Instr) (n k most all : ℕ) (d : Instr) (h more : ℕ) → n < length code → IsCounted code n k most all → h ≡ handed_behind k (get_or code n d) → more ≡ max most h → IsCounted code (n + 1) h more all
counted code n k most all d h more lt c e f = record {
  few = let a = one_more k (get_or code n d) in let b = c.few in omega (arith, a, b, e);
  least = omega (arith, f);
  all_is = subst (λ x. max x (most_handed h (drop (n + 1) code)) ≡ all) (sym f) (subst (λ y. max (max most y) (most_handed y (drop (n + 1) code)) ≡ all) (sym e) (most_at code n k most all d lt c.least c.all_is));
}
