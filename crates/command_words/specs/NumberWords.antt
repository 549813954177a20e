-- Options whose texts write numbers.
use Rattle.std.specs.Prelude.{◌≡◌, ◌≤◌, ℕ, List, length, Option, Some, None}
use Rattle.lcc_text.specs.declared.class.Class.TheVariants.{Digit}
use Rattle.lcc_text.specs.Classes.{in_class, AllIn}
use Rattle.lcc_text.specs.Decimal.{value_of}

-- one to ten decimal digits write a number of the range
pub record IsNumberIn (least most : ℕ) (text : List ℕ) (n : ℕ) : Type 0 where
  pub digits : AllIn (in_class Digit) text
  pub some : 1 ≤ length text
  pub few : length text ≤ 10
  pub value : n ≡ value_of text
  pub low : least ≤ n
  pub high : n ≤ most

-- an option's text writes a number of the range, or the option has its default
abbrev pub GivesNumber : ℕ → ℕ → ℕ → Option (List ℕ) → ℕ → Type 0
GivesNumber least most default (Some text) n = IsNumberIn least most text n
GivesNumber least most default None n = n ≡ default
