-- What the scopes keep: when one begins or ends, and with a further name.
use Rattle.std.proofs.Common.{◌≡◌, ℕ, ◌+◌, ◌≤◌, Bool, true, false, cond, List, [], ◌∷◌, ◌++◌, length, Option, Some, None, refl, sym, ap, subst, ◌∙◌, arith}
use Rattle.std.specs.Str.{bytes_eq}
use Rattle.std.proofs.lemmas.List.{length-append, map_push}
use Rattle.std.proofs.lemmas.Slice.Eq.{bytes_eq-Decides}
use Rattle.indexmap.specs.Layout.{set_value_at}
use Rattle.c_symbols.specs.declared.hidden.Hidden.{Hidden}
use Rattle.c_symbols.specs.declared.open.Open.{Open}
use Rattle.c_symbols.specs.declared.symbol.Symbol.{Symbol}
use Rattle.c_symbols.specs.Meanings.{IsAt, MeanTheSame, Meant, meaning}
use Rattle.c_symbols.specs.Hiding.{AreKept, Hide, HideBehind, bound, names_of, restored, scoping}
use Rattle.c_symbols.specs.Extending.{all_below_more, below_more}
use Rattle.c_symbols.specs.Scoping.{AreAllBelow, AreBelow, IsDeclared, found, or_else, symbol_named}
use Rattle.c_symbols.proofs.Naming.{found_append, named_push}
use Rattle.c_symbols.proofs.Within.{all_below_push, below_push, popped_below}
use Rattle.c_symbols.proofs.Meaning.{at_set, meaning_set}
use Rattle.c_symbols.proofs.Hiding.{at_bound, at_restored, behind_last, behind_more, behind_push, bound_means, hide_more, hide_push, restored_means}

abbrev Names : Type 0
Names = List (List ℕ × ℕ)

abbrev pub of_scope : Open → Names
of_scope o = o.names

pub names_of_push : (os : List Open) (o : Open) → names_of (os ++ o ∷ []) ≡ names_of os ++ o.names ∷ []
names_of_push os o = map_push of_scope os o

-- what the innermost scope doesn't name means what it did around it
pub means_around : (a : Meant) (outer : List Open) (inner : Open) (links : Names) (symbols : List Symbol) → AreKept a outer inner links symbols
    → (name : List ℕ) → meaning a name ≡ or_else (symbol_named inner.names name) (found (names_of outer) name)
means_around a outer inner links symbols h name = h.newest name ∙ found_append (names_of outer) inner.names name

pub none_around : (a : Meant) (outer : List Open) (inner : Open) (links : Names) (symbols : List Symbol) → AreKept a outer inner links symbols
    → (name : List ℕ) → symbol_named inner.names name ≡ None → meaning a name ≡ found (names_of outer) name
none_around a outer inner links symbols h name none = means_around a outer inner links symbols h name ∙ ap (λ o. or_else o (found (names_of outer) name)) none

-- ---- the innermost scope ends

pub kept_closed : (a : Meant) (all os : List Open) (o inner : Open) (links : Names) (symbols : List Symbol) → all ≡ os ++ o ∷ []
    → AreKept a all inner links symbols → AreKept (restored a inner.hidden.items) os o links symbols
kept_closed a all os o inner links symbols e h =
    let n = length symbols in
    let names : names_of all ≡ names_of os ++ o.names ∷ [] = ap names_of e ∙ names_of_push os o in
    let below = popped_below n (names_of all) (names_of os) o.names names h.declared.outer in
    let new = restored a inner.hidden.items in
    let last = behind_last a [] os o (subst (HideBehind a []) e h.of_outer) in
    record {
      declared = record { outer = below.0; inner = below.1; links = h.declared.links };
      newest = λ name. restored_means a (found (names_of all)) inner.names inner.hidden.items h.of_inner (none_around a all inner links symbols h) name ∙ ap (λ (ss : List Names). found ss name) names;
      of_outer = behind_more a new (at_restored a inner.hidden.items) [] os last.0;
      of_inner = hide_more a new (found (names_of os)) (found (names_of os)) (at_restored a inner.hidden.items) (λ name. refl) o.names o.hidden.items last.1;
    }

-- ---- a scope begins

pub kept_opened : (a b : Meant) (os : List Open) (inner o : Open) (links : Names) (symbols : List Symbol)
    → MeanTheSame a b → Hide b (meaning a) o.names o.hidden.items → AreBelow (length symbols) o.names
    → AreKept a os inner links symbols → AreKept (bound b o.names o.hidden.items) (os ++ inner ∷ []) o links symbols
kept_opened a b os inner o links symbols same hide l h =
    let n = length symbols in
    let names : names_of (os ++ inner ∷ []) ≡ names_of os ++ inner.names ∷ [] = names_of_push os inner in
    let new = bound b o.names o.hidden.items in
    let stay = at_bound b o.names o.hidden.items in
    let around : (name : List ℕ) → meaning a name ≡ found (names_of (os ++ inner ∷ [])) name = λ name. h.newest name ∙ ap (λ (ss : List Names). found ss name) (sym names) in
    record {
      declared = record { outer = subst (AreAllBelow n) (sym names) (all_below_push n (names_of os) inner.names h.declared.outer h.declared.inner); inner = l; links = h.declared.links };
      newest = λ name. bound_means b (meaning a) o.names o.hidden.items hide name
          ∙ ap (or_else (symbol_named o.names name)) (same.meanings name ∙ around name)
          ∙ sym (found_append (names_of (os ++ inner ∷ [])) o.names name);
      of_outer = behind_push new [] os inner
          (behind_more a new (λ name place at. stay name place (same.places name place at)) [] os h.of_outer)
          (hide_more a new (found (names_of os)) (found (names_of os)) (λ name place at. stay name place (same.places name place at)) (λ name. refl) inner.names inner.hidden.items h.of_inner);
      of_inner = hide_more b new (meaning a) (found (names_of (os ++ inner ∷ []))) stay around o.names o.hidden.items hide;
    }

-- ---- a name gets a place

pub kept_same : (a b : Meant) (outer : List Open) (inner : Open) (links : Names) (symbols : List Symbol) → MeanTheSame a b → AreKept a outer inner links symbols → AreKept b outer inner links symbols
kept_same a b outer inner links symbols same h = record {
  declared = h.declared;
  newest = λ name. same.meanings name ∙ h.newest name;
  of_outer = behind_more a b same.places [] outer h.of_outer;
  of_inner = hide_more a b (found (names_of outer)) (found (names_of outer)) same.places (λ name. refl) inner.names inner.hidden.items h.of_inner;
}

pub kept_like : (a : Meant) (outer : List Open) (inner o : Open) (links : Names) (symbols more : List Symbol) → o.names ≡ inner.names → o.hidden.items ≡ inner.hidden.items → more ≡ symbols
    → AreKept a outer inner links symbols → AreKept a outer o links more
kept_like a outer inner o links symbols more names hidden same h =
    let around = found (names_of outer) in
    record {
      declared = subst (λ (xs : List Symbol). IsDeclared (scoping outer o links xs)) (sym same)
          (record { outer = h.declared.outer; inner = subst (AreBelow (length symbols)) (sym names) h.declared.inner; links = h.declared.links });
      newest = λ name. h.newest name ∙ ap (λ (ns : Names). found (names_of outer ++ ns ∷ []) name) (sym names);
      of_outer = h.of_outer;
      of_inner = subst (λ (hs : List Hidden). Hide a around o.names hs) (sym hidden) (subst (λ (ns : Names). Hide a around ns inner.hidden.items) (sym names) h.of_inner);
    }

-- ---- a name is declared in the innermost scope

pub kept_declared : (a : Meant) (outer : List Open) (inner o : Open) (links : Names) (symbols more : List Symbol) (y : List ℕ) (id : ℕ) (x : Hidden)
    → IsAt a y x.place → x.before ≡ meaning a y → symbol_named inner.names y ≡ None → o.names ≡ inner.names ++ (y, id) ∷ [] → o.hidden.items ≡ inner.hidden.items ++ x ∷ []
    → IsDeclared (scoping outer o links more) → AreKept a outer inner links symbols → AreKept (set_value_at a x.place (Some id)) outer o links more
kept_declared a outer inner o links symbols more y id x at before none names hidden declared h =
    let around = found (names_of outer) in
    let new = set_value_at a x.place (Some id) in
    let stay = at_set a x.place (Some id) in
    let old = hide_more a new around around stay (λ name. refl) inner.names inner.hidden.items h.of_inner in
    let pushed = hide_push new around inner.names inner.hidden.items y id x old (stay y x.place at) (before ∙ none_around a outer inner links symbols h y none) in
    record {
      declared = declared;
      newest = λ name. meaning_set a y x.place (Some id) name at
          ∙ ap (cond (bytes_eq name y) (Some id)) (means_around a outer inner links symbols h name)
          ∙ by name (bytes_eq name y) refl
          ∙ ap (λ o. or_else o (around name)) (sym (ap (λ (ns : Names). symbol_named ns name) names ∙ named_push inner.names y id name))
          ∙ sym (found_append (names_of outer) o.names name);
      of_outer = behind_more a new stay [] outer h.of_outer;
      of_inner = subst (λ (hs : List Hidden). Hide new around o.names hs) (sym hidden) (subst (λ (ns : Names). Hide new around ns (inner.hidden.items ++ x ∷ [])) (sym names) pushed);
    }
  where
    named : (name : List ℕ) → bytes_eq name y ≡ true → symbol_named inner.names name ≡ None
    named name t = subst (λ (z : List ℕ). symbol_named inner.names z ≡ None) (sym ((bytes_eq-Decides name y).0 t)) none

    other : (o rest : Option ℕ) → or_else o rest ≡ or_else (or_else o None) rest
    other None rest = refl
    other (Some i) rest = refl

    by : (name : List ℕ) (b : Bool) → bytes_eq name y ≡ b
        → cond b (Some id) (or_else (symbol_named inner.names name) (found (names_of outer) name)) ≡ or_else (or_else (symbol_named inner.names name) (cond b (Some id) None)) (found (names_of outer) name)
    by name true t = ap (λ o. or_else (or_else o (Some id)) (found (names_of outer) name)) (sym (named name t))
    by name false t = other (symbol_named inner.names name) (found (names_of outer) name)

pub declared_pushed : (outer : List Open) (inner o : Open) (links : Names) (symbols more : List Symbol) (y : List ℕ) (id : ℕ) (x : Symbol)
    → id ≡ length symbols → more ≡ symbols ++ x ∷ [] → o.names ≡ inner.names ++ (y, id) ∷ [] → IsDeclared (scoping outer inner links symbols) → IsDeclared (scoping outer o links more)
declared_pushed outer inner o links symbols more y id x p s names h =
    let l : length more ≡ length symbols + 1 = ap (λ (xs : List Symbol). length xs) s ∙ length-append symbols (x ∷ []) in
    let k : length symbols ≤ length more = omega (arith, l) in
    record {
      outer = all_below_more (length symbols) (length more) k (names_of outer) h.outer;
      inner = subst (AreBelow (length more)) (sym names) (below_push (length more) inner.names y id (below_more (length symbols) (length more) k inner.names h.inner) (omega (arith, l, p)));
      links = below_more (length symbols) (length more) k links h.links;
    }
