-- How what a loop of writes gave to a sink grows by one more write.
use Rattle.std.proofs.Common.{◌≡◌, ℕ, List, ◌++◌, take, drop, ap, sym, ◌∙◌, append_assoc, take-append-drop}
use Rattle.std.specs.declared.option.Option.{Option}
use Rattle.std.specs.Io.KnownBytes.{Appends}
use Rattle.std.proofs.KnownBytes.{Appends-trans}

-- the sink took the bytes of all that come before the rest
abbrev pub TookUpTo : Option (List ℕ) → Option (List ℕ) → List ℕ → List ℕ → Type 0
TookUpTo old new all rest = (front : List ℕ) × (all ≡ front ++ rest) × Appends old new front

-- it takes the first n bytes of the rest too
pub took_more : (old mid new : Option (List ℕ)) (all rest next : List ℕ) (n : ℕ) → TookUpTo old mid all rest → Appends mid new (take n rest) → next ≡ drop n rest → TookUpTo old new all next
took_more old mid new all rest next n (front, is, had) took e = (
  front ++ take n rest,
  is ∙ ap (λ l. front ++ l) (sym (take-append-drop n rest) ∙ ap (λ l. take n rest ++ l) (sym e)) ∙ sym (append_assoc front (take n rest) next),
  Appends-trans old mid new front (take n rest) had took,
)
