-- What a reader of lines knows of the terminals and of their uses.
use Rattle.std.specs.Prelude.{◌≡◌, ℕ, List, Some, length, slice_get}
use Rattle.lcc_text.specs.Names.{bytes_of}
use Rattle.lburg_lines.specs.Sections.{TokenLine}
use Rattle.lburg_faults.specs.declared.known.Known.{Known}
use Rattle.lburg_faults.specs.Terminals.{declared_in, names_of}
use Rattle.lburg_faults.specs.Limits.{AreDistinct}
use Rattle.lburg_faults.specs.Uses.{IsFirstUse}

-- what is known of terminals and their first uses is that of these lines
pub record KnowsUses (lines : List TokenLine) (k : Known) : Type 0 where
  pub names : bytes_of k.terminals ≡ names_of (declared_in lines)
  pub names_once : AreDistinct (bytes_of k.terminals)
  pub noted : length k.arities.items ≡ length (bytes_of k.terminals)
  pub arities : (i n : ℕ) (name : List ℕ) → slice_get (bytes_of k.terminals) i ≡ Some name → slice_get k.arities.items i ≡ Some (Some n) → IsFirstUse lines name n
  pub used : (i n : ℕ) (name : List ℕ) → slice_get (bytes_of k.terminals) i ≡ Some name → IsFirstUse lines name n → slice_get k.arities.items i ≡ Some (Some n)
