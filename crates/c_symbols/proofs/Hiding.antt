-- What names hide: with further names and scopes, and when names are bound or what they hid is given back.
use Rattle.std.proofs.Common.{◌≡◌, ℕ, Bool, true, false, cond, List, [], ◌∷◌, ◌++◌, length, Option, Some, None, refl, sym, ap, subst, ◌∙◌, arith}
use Rattle.std.specs.Str.{bytes_eq}
use Rattle.std.proofs.lemmas.List.{append_assoc, append-nil}
use Rattle.std.proofs.lemmas.Slice.Eq.{bytes_eq-Decides}
use Rattle.indexmap.specs.Layout.{set_value_at}
use Rattle.c_symbols.specs.declared.hidden.Hidden.{Hidden}
use Rattle.c_symbols.specs.declared.open.Open.{Open}
use Rattle.c_symbols.specs.Meanings.{IsAt, Meant, meaning}
use Rattle.c_symbols.specs.Hiding.{HavePlaces, Hide, HideBehind, bound, names_of, restored}
use Rattle.c_symbols.specs.Scoping.{found, or_else, symbol_named}
use Rattle.c_symbols.proofs.Meaning.{at_below, at_set, meaning_set}

abbrev Names : Type 0
Names = List (List ℕ × ℕ)

abbrev Means : Type 0
Means = List ℕ → Option ℕ

-- names keep their places
abbrev pub Stay : Meant → Meant → Type 0
Stay a b = (name : List ℕ) (place : ℕ) → IsAt a name place → IsAt b name place

-- ---- one scope

pub hide_more : (a b : Meant) (f g : Means) → Stay a b → ((name : List ℕ) → f name ≡ g name) → (ns : Names) (hs : List Hidden) → Hide a f ns hs → Hide b g ns hs
hide_more a b f g stay same [] [] h = tt
hide_more a b f g stay same [] (x ∷ hs) h = elim h [ ]
hide_more a b f g stay same (n ∷ ns) [] h = elim h [ ]
hide_more a b f g stay same (n ∷ ns) (x ∷ hs) h = ((stay n.0 x.place h.0.0, h.0.1 ∙ same n.0), hide_more a b f g stay same ns hs h.1)

pub hide_push : (a : Meant) (f : Means) (ns : Names) (hs : List Hidden) (name : List ℕ) (id : ℕ) (x : Hidden) → Hide a f ns hs → IsAt a name x.place → x.before ≡ f name → Hide a f (ns ++ (name, id) ∷ []) (hs ++ x ∷ [])
hide_push a f [] [] name id x h at is = ((at, is), tt)
hide_push a f [] (y ∷ hs) name id x h at is = elim h [ ]
hide_push a f (n ∷ ns) [] name id x h at is = elim h [ ]
hide_push a f (n ∷ ns) (y ∷ hs) name id x h at is = (h.0, hide_push a f ns hs name id x h.1 at is)

pub hide_places : (a : Meant) (f : Means) (ns : Names) (hs : List Hidden) → Hide a f ns hs → HavePlaces a hs
hide_places a f [] [] h = tt
hide_places a f [] (x ∷ hs) h = elim h [ ]
hide_places a f (n ∷ ns) [] h = elim h [ ]
hide_places a f (n ∷ ns) (x ∷ hs) h = (at_below a n.0 x.place h.0.0, hide_places a f ns hs h.1)

pub hide_length : (a : Meant) (f : Means) (ns : Names) (hs : List Hidden) → Hide a f ns hs → length hs ≡ length ns
hide_length a f [] [] h = refl
hide_length a f [] (x ∷ hs) h = elim h [ ]
hide_length a f (n ∷ ns) [] h = elim h [ ]
hide_length a f (n ∷ ns) (x ∷ hs) h = let l = hide_length a f ns hs h.1 in omega arith

-- ---- scopes in scopes

pub behind_more : (a b : Meant) → Stay a b → (around : List Names) (os : List Open) → HideBehind a around os → HideBehind b around os
behind_more a b stay around [] h = tt
behind_more a b stay around (o ∷ os) h = (hide_more a b (found around) (found around) stay (λ name. refl) o.names o.hidden.items h.0, behind_more a b stay (around ++ o.names ∷ []) os h.1)

pub behind_push : (a : Meant) (around : List Names) (os : List Open) (o : Open) → HideBehind a around os → Hide a (found (around ++ names_of os)) o.names o.hidden.items → HideBehind a around (os ++ o ∷ [])
behind_push a around [] o h k = (subst (λ (ss : List Names). Hide a (found ss) o.names o.hidden.items) (append-nil around) k, tt)
behind_push a around (p ∷ os) o h k =
    (h.0, behind_push a (around ++ p.names ∷ []) os o h.1 (subst (λ (ss : List Names). Hide a (found ss) o.names o.hidden.items) (sym (append_assoc around (p.names ∷ []) (names_of os))) k))

pub behind_last : (a : Meant) (around : List Names) (os : List Open) (o : Open) → HideBehind a around (os ++ o ∷ []) → HideBehind a around os × Hide a (found (around ++ names_of os)) o.names o.hidden.items
behind_last a around [] o h = (tt, subst (λ (ss : List Names). Hide a (found ss) o.names o.hidden.items) (sym (append-nil around)) h.0)
behind_last a around (p ∷ os) o h =
    let r = behind_last a (around ++ p.names ∷ []) os o h.1 in
    ((h.0, r.0), subst (λ (ss : List Names). Hide a (found ss) o.names o.hidden.items) (append_assoc around (p.names ∷ []) (names_of os)) r.1)

-- ---- names are bound

pub at_bound : (a : Meant) (ns : Names) (hs : List Hidden) → Stay a (bound a ns hs)
at_bound a [] hs name place at = at
at_bound a (n ∷ ns) [] name place at = at
at_bound a (n ∷ ns) (x ∷ hs) name place at = at_set (bound a ns hs) x.place (Some n.1) name place (at_bound a ns hs name place at)

pub bound_means : (a : Meant) (f : Means) (ns : Names) (hs : List Hidden) → Hide a f ns hs → (name : List ℕ) → meaning (bound a ns hs) name ≡ or_else (symbol_named ns name) (meaning a name)
bound_means a f [] [] h name = refl
bound_means a f [] (x ∷ hs) h name = elim h [ ]
bound_means a f (n ∷ ns) [] h name = elim h [ ]
bound_means a f (n ∷ ns) (x ∷ hs) h name =
    meaning_set (bound a ns hs) n.0 x.place (Some n.1) name (at_bound a ns hs n.0 x.place h.0.0)
    ∙ ap (cond (bytes_eq name n.0) (Some n.1)) (bound_means a f ns hs h.1 name)
    ∙ by (bytes_eq name n.0)
  where
    by : (b : Bool) → cond b (Some n.1) (or_else (symbol_named ns name) (meaning a name)) ≡ or_else (cond b (Some n.1) (symbol_named ns name)) (meaning a name)
    by true = refl
    by false = refl

-- ---- what was hidden is given back

pub at_restored : (a : Meant) (hs : List Hidden) → Stay a (restored a hs)
at_restored a [] name place at = at
at_restored a (x ∷ hs) name place at = at_restored (set_value_at a x.place x.before) hs name place (at_set a x.place x.before name place at)

pub restored_means : (a : Meant) (f : Means) (ns : Names) (hs : List Hidden) → Hide a f ns hs → ((name : List ℕ) → symbol_named ns name ≡ None → meaning a name ≡ f name) → (name : List ℕ) → meaning (restored a hs) name ≡ f name
restored_means a f [] [] h k name = k name refl
restored_means a f [] (x ∷ hs) h k name = elim h [ ]
restored_means a f (n ∷ ns) [] h k name = elim h [ ]
restored_means a f (n ∷ ns) (x ∷ hs) h k name =
    let b = set_value_at a x.place x.before in
    restored_means b f ns hs (hide_more a b f f (at_set a x.place x.before) (λ y. refl) ns hs h.1) (λ y none. meaning_set a n.0 x.place x.before y h.0.0 ∙ by y (bytes_eq y n.0) refl none) name
  where
    by : (y : List ℕ) (c : Bool) → bytes_eq y n.0 ≡ c → symbol_named ns y ≡ None → cond c x.before (meaning a y) ≡ f y
    by y true t none = h.0.1 ∙ ap f (sym ((bytes_eq-Decides y n.0).0 t))
    by y false t none = k y (ap (λ (c : Bool). cond c (Some n.1) (symbol_named ns y)) t ∙ none)
