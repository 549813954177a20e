-- The places of names' symbols below their number: with further names and scopes, and of what is found.
use Rattle.std.proofs.Common.{◌≡◌, ◌+◌, ◌<◌, ◌≤◌, ℕ, Bool, true, false, List, [], ◌∷◌, ◌++◌, length, sym, ap, ◌∙◌, subst, arith}
use Rattle.std.specs.Prelude.{Err, IfOk, IfSome, None, Ok, OnErr, OnOk, Option, Result, Some, if◌then◌else◌}
use Rattle.std.proofs.lemmas.List.{length-append}
use Rattle.std.specs.Str.{bytes_eq}
use Rattle.c_symbols.specs.declared.symbol.Symbol.{Symbol}
use Rattle.c_symbols.specs.Extending.{below_more}
use Rattle.c_symbols.specs.Scoping.{AreAllBelow, AreBelow, IsDeclared, Scoping, found, or_else, symbol_named}

pub below_push : (n : ℕ) (ns : List (List ℕ × ℕ)) (x : List ℕ) (id : ℕ) → AreBelow n ns → id < n → AreBelow n (ns ++ (x, id) ∷ [])
below_push n [] x id h l = (l, tt)
below_push n (y ∷ ns) x id h l = (h.0, below_push n ns x id h.1 l)

pub all_below_push : (n : ℕ) (ss : List (List (List ℕ × ℕ))) (s : List (List ℕ × ℕ)) → AreAllBelow n ss → AreBelow n s → AreAllBelow n (ss ++ s ∷ [])
all_below_push n [] s h k = (k, tt)
all_below_push n (t ∷ ss) s h k = (h.0, all_below_push n ss s h.1 k)

last_below : (n : ℕ) (ss : List (List (List ℕ × ℕ))) (s : List (List ℕ × ℕ)) → AreAllBelow n (ss ++ s ∷ []) → AreAllBelow n ss × AreBelow n s
last_below n [] s h = (tt, h.0)
last_below n (t ∷ ss) s h = let r = last_below n ss s h.1 in ((h.0, r.0), r.1)

pub popped_below : (n : ℕ) (all ss : List (List (List ℕ × ℕ))) (s : List (List ℕ × ℕ)) → all ≡ ss ++ s ∷ [] → AreAllBelow n all → AreAllBelow n ss × AreBelow n s
popped_below n all ss s e h = last_below n ss s (subst (AreAllBelow n) e h)

either : (P : Option ℕ → Type 0) (b : Bool) (x y : Option ℕ) → P x → P y → P (if b then x else y)
either P true x y h k = h
either P false x y h k = k

pub named_within : (n : ℕ) (ns : List (List ℕ × ℕ)) (name : List ℕ) → AreBelow n ns → IfSome (symbol_named ns name) (λ i. i < n)
named_within n [] name h = tt
named_within n (x ∷ ns) name h = either (λ o. IfSome o (λ i. i < n)) (bytes_eq name x.0) (Some x.1) (symbol_named ns name) h.0 (named_within n ns name h.1)

or_within : (n : ℕ) (a b : Option ℕ) → IfSome a (λ i. i < n) → IfSome b (λ i. i < n) → IfSome (or_else a b) (λ i. i < n)
or_within n (Some i) b h k = h
or_within n None b h k = k

pub found_within : (n : ℕ) (ss : List (List (List ℕ × ℕ))) (name : List ℕ) → AreAllBelow n ss → IfSome (found ss name) (λ i. i < n)
found_within n [] name h = tt
found_within n (s ∷ ss) name h = or_within n (found ss name) (symbol_named s name) (found_within n ss name h.1) (named_within n s name h.0)

-- ---- what the scopes keep

pub declared_found : (s : Scoping) (name : List ℕ) → IsDeclared s → IfSome (found (s.outer ++ s.inner ∷ []) name) (λ i. i < length s.symbols)
declared_found s name h = found_within (length s.symbols) (s.outer ++ s.inner ∷ []) name (all_below_push (length s.symbols) s.outer s.inner h.outer h.inner)

-- a name that is declared in a scope, or isn't
pub one_declared : {E : Type 0} (r : Result ℕ E) (name : List ℕ) (old new : List (List ℕ × ℕ)) (before after : List Symbol) (x : Symbol) →
    IfOk r (λ id. id ≡ length before) → IfOk r (λ id. new ≡ old ++ (name, id) ∷ []) → OnOk r (after ≡ before ++ x ∷ []) → OnErr r (new ≡ old) → OnErr r (after ≡ before) →
    AreBelow (length before) old → (length before ≤ length after) × AreBelow (length after) new
one_declared (Ok id) name old new before after x p n s m t h =
    let l : length after ≡ length before + 1 = ap (λ (xs : List Symbol). length xs) s ∙ length-append before (x ∷ []) in
    let k : length before ≤ length after = omega (arith, l) in
    (k, subst (AreBelow (length after)) (sym n) (below_push (length after) old name id (below_more (length before) (length after) k old h) (omega (arith, l, p))))
one_declared (Err e) name old new before after x p n s m t h =
    let l : length after ≡ length before = ap (λ (xs : List Symbol). length xs) t in
    (omega (arith, l), subst (AreBelow (length after)) (sym m) (subst (λ k. AreBelow k old) (sym l) h))
