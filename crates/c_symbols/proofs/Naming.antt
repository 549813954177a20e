-- Names in scopes: what a map's entries give, a further name, and a further scope.
use Rattle.std.proofs.Common.{◌≡◌, ℕ, zero, suc, Bool, true, false, cond, List, [], ◌∷◌, ◌++◌, length, refl, sym, ap, ◌∙◌}
use Rattle.std.specs.Prelude.{Option, Some, None, Vec, slice_get, unwrap_or}
use Rattle.std.specs.Str.{bytes_eq}
use Rattle.std.specs.Map.{lookup}
use Rattle.std.specs.declared.alloc.Global.{Global}
use Rattle.c_symbols.specs.Scoping.{symbol_named, found, or_else}
use Rattle.c_symbols.specs.Entries.{names_in}

pub named_entries : (es : List (Vec ℕ Global × ℕ)) (name : List ℕ) → lookup (λ k. bytes_eq name k.items) es ≡ symbol_named (names_in es) name
named_entries [] name = refl
named_entries (e ∷ es) name = ap (cond (bytes_eq name e.0.items) (Some e.1)) (named_entries es name)

pub names_push : (es : List (Vec ℕ Global × ℕ)) (v : Vec ℕ Global) (id : ℕ) → names_in (es ++ (v, id) ∷ []) ≡ names_in es ++ (v.items, id) ∷ []
names_push [] v id = refl
names_push (e ∷ es) v id = ap (λ ns. (e.0.items, e.1) ∷ ns) (names_push es v id)

pub names_length : (es : List (Vec ℕ Global × ℕ)) → length (names_in es) ≡ length es
names_length [] = refl
names_length (e ∷ es) = ap suc (names_length es)

pub name_at : (es : List (Vec ℕ Global × ℕ)) (i : ℕ) (v : Vec ℕ Global) (id : ℕ) → Some (v, id) ≡ slice_get es i → slice_get (names_in es) i ≡ Some (v.items, id)
name_at [] i v id h = cc
name_at (e ∷ es) zero v id h = ap (λ (o : Option (Vec ℕ Global × ℕ)). slice_get (names_in (unwrap_or o e ∷ [])) 0) (sym h)
name_at (e ∷ es) (suc i) v id h = name_at es i v id h

pub named_push : (ns : List (List ℕ × ℕ)) (y : List ℕ) (id : ℕ) (name : List ℕ) → symbol_named (ns ++ (y, id) ∷ []) name ≡ or_else (symbol_named ns name) (cond (bytes_eq name y) (Some id) None)
named_push [] y id name = refl
named_push (n ∷ ns) y id name = ap (cond (bytes_eq name n.0) (Some n.1)) (named_push ns y id name) ∙ by (bytes_eq name n.0)
  where
    by : (b : Bool) → cond b (Some n.1) (or_else (symbol_named ns name) (cond (bytes_eq name y) (Some id) None)) ≡ or_else (cond b (Some n.1) (symbol_named ns name)) (cond (bytes_eq name y) (Some id) None)
    by true = refl
    by false = refl

pub found_append : (ss : List (List (List ℕ × ℕ))) (s : List (List ℕ × ℕ)) (name : List ℕ) → found (ss ++ s ∷ []) name ≡ or_else (symbol_named s name) (found ss name)
found_append [] s name = by (symbol_named s name)
  where
    by : (o : Option ℕ) → or_else None o ≡ or_else o None
    by None = refl
    by (Some i) = refl
found_append (t ∷ ss) s name = ap (λ o. or_else o (symbol_named t name)) (found_append ss s name) ∙ by (symbol_named s name)
  where
    by : (o : Option ℕ) → or_else (or_else o (found ss name)) (symbol_named t name) ≡ or_else o (or_else (found ss name) (symbol_named t name))
    by None = refl
    by (Some i) = refl
