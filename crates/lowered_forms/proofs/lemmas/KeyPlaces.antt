-- Where a key stands among others, and that it stands nowhere else.
use Rattle.std.specs.Prelude.{◌≡◌, ℕ, zero, suc, ◌+◌, ◌==◌, ◌&&◌, ℤ, Bool, true, false, Option, Some, None, List, [], ◌∷◌, slice_get, if◌then◌else◌}
use Rattle.std.proofs.Common.{int_eq, true≢false, rules, refl, ap, sym, ◌∙◌, subst, arith}
use Rattle.std.specs.Cmp.Rules.{comparing}
use Rattle.std.specs.Option.{option_eq}
use denote.Enum.Bare.{true_same}
use Rattle.op_forest.specs.contracts.op.Op as op_contracts
use Rattle.op_forest.specs.contracts.suffix.Suffix as suffix_contracts
use Rattle.op_forest.specs.contracts.op.OpPartialEq.TheImpl as op_eq
use Rattle.op_forest.specs.contracts.suffix.SuffixPartialEq.TheImpl as suffix_eq
use Rattle.op_forest.specs.contracts.sym.SymPartialEq.TheImpl as sym_eq
use Rattle.op_forest.specs.declared.op.Op.{Op}
use Rattle.op_forest.specs.declared.suffix.Suffix.{Suffix}
use Rattle.op_forest.specs.declared.sym.Sym.{Sym}
use Rattle.dag_forest.specs.contracts.parts.PartsPartialEq.TheImpl as parts_eq
use Rattle.dag_forest.specs.contracts.kids.KidsPartialEq.TheImpl as kids_eq
use Rattle.dag_forest.specs.declared.key.Key.{Key}
use Rattle.dag_forest.specs.declared.kids.Kids.{Kids}
use Rattle.dag_forest.specs.declared.kids.Kids.TheVariants.{Zero, One, Two}
use Rattle.dag_forest.specs.declared.parts.Parts.{Parts}
use Rattle.std.proofs.lemmas.Option.{none-some, same_Some}
use Rattle.dag_forest.proofs.lemmas.Keys.{itself}
use Rattle.dag_forest.specs.SameKeys.{same_key}
use Rattle.dag_forest.specs.Tally.{IsFresh}
use Rattle.lowered_forms.specs.Asked.{is_same, key_place}

-- from one place on
abbrev pub StandsFrom : Key → List Key → ℕ → ℕ → Type 0
StandsFrom k xs i m = (j : ℕ) × (m ≡ i + j) × (slice_get xs j ≡ Some k)

found_by : (k x : Key) (xs : List Key) (i m : ℕ) (b : Bool) → is_same k x ≡ b → (key_place k xs (suc i) ≡ Some m → StandsFrom k xs (suc i) m) → (if b then Some i else key_place k xs (suc i)) ≡ Some m
    → StandsFrom k (x ∷ xs) i m
found_by k x xs i m true h go e = (0, (let f = same_Some i m e in omega (arith, f)), ap Some (sym (same_key k x h)))
found_by k x xs i m false h go e = let r = go e in (suc r.0, (let f = r.1 in omega (arith, f)), r.2)

found_from : (k : Key) (xs : List Key) (i m : ℕ) → key_place k xs i ≡ Some m → StandsFrom k xs i m
found_from k [] i m e = absurd (none-some m e)
found_from k (x ∷ xs) i m e = found_by k x xs i m (is_same k x) refl (λ f. found_from k xs (suc i) m f) e

pub found_there : (k : Key) (xs : List Key) (m : ℕ) → key_place k xs 0 ≡ Some m → slice_get xs m ≡ Some k
found_there k xs m e =
    let r = found_from k xs 0 m e in
    let f : r.0 ≡ m = omega (arith, r.1) in
    subst (λ n. slice_get xs n ≡ Some k) f r.2

missing_by : (k x : Key) (xs : List Key) (i : ℕ) (b : Bool) → is_same k x ≡ b → (if b then Some i else key_place k xs (suc i)) ≡ None → (b ≡ false) × (key_place k xs (suc i) ≡ None)
missing_by k x xs i true h e = absurd (none-some i (sym e))
missing_by k x xs i false h e = (refl, e)

missing_from : (k : Key) (xs : List Key) (i : ℕ) → key_place k xs i ≡ None → IsFresh xs k
missing_from k [] i e j f = absurd (none-some k f)
missing_from k (x ∷ xs) i e zero f =
    let r = missing_by k x xs i (is_same k x) refl e in
    let g : x ≡ k = same_Some x k f in
    absurd (true≢false (sym (subst (λ y. is_same k y ≡ true) (sym g) (itself k)) ∙ r.0))
missing_from k (x ∷ xs) i e (suc j) f = let r = missing_by k x xs i (is_same k x) refl e in missing_from k xs (suc i) r.1 j f

pub missing_is_fresh : (k : Key) (xs : List Key) → key_place k xs 0 ≡ None → IsFresh xs k
missing_is_fresh k xs e = missing_from k xs 0 e
