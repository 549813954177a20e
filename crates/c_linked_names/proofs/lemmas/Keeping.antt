-- What is kept of names and symbols while a unit is typed: symbols keep their class, their types absorb those that they had, and
-- declarations of a name with linkage have types that the type of all of them absorbs.
use Rattle.std.proofs.Common.{◌≡◌, ◌⊎◌, ℕ, ◌<◌, ◌≤◌, Bool, true, false, not, List, [], ◌∷◌, ◌++◌, length, get_or, refl, sym, ap, subst, ◌∙◌, inl, inr, arith, le_trans, lt_of_lt_of_le}
use Rattle.std.specs.Prelude.{ℤ, unsigned_abs, Option, Some, None}
use Rattle.c_symbols.specs.declared.symbol.Storage.{Storage}
use Rattle.c_symbols.specs.declared.symbol.Storage.TheVariants as storage
use Rattle.c_symbols.specs.Scoping.{symbol_named}
use Rattle.c_meaning.specs.Each.{EachIs}
use Rattle.c_meaning.specs.State.{Known, State, known_at, nothing_known, place_here, place_of}
use Rattle.c_meaning.specs.Types.{is_function}
use Rattle.c_tree_names.specs.Names.{IsName, is_name}
use Rattle.c_units.specs.Ends.{is_link}
use Rattle.c_fits.proofs.lemmas.DeclaredFits.{each_join}
use Rattle.c_linked_names.proofs.lemmas.Absorbing.{Absorbs, absorbs_itself, absorbs_then}
use Rattle.c_linked_names.proofs.lemmas.Lists.{each_found, each_link, each_map, times_in}

-- a tag, and the count of a function's locals
abbrev pub is_tag : Storage → Bool
is_tag storage.Tag = true
is_tag c = false

-- the symbol of all declarations that the value of a declaration names
abbrev pub link_by : Storage → Option ℤ → Option ℕ
link_by storage.Auto v = None
link_by storage.Register v = None
link_by storage.Enumerator v = None
link_by storage.Tag v = None
link_by c None = None
link_by c (Some z) = Some (unsigned_abs z)

abbrev pub link_of : Known → Option ℕ
link_of k = link_by k.class k.value

-- ---- what is kept

-- a name with linkage, and the symbol of all its declarations
pub record IsLinked (s : State) (n : List ℕ × ℕ) : Type 0 where
  pub below : n.1 < length s.symbols
  pub name : IsName n.0
  pub named : symbol_named s.links n.0 ≡ Some n.1
  pub class : is_tag (known_at s n.1).class ≡ false

-- a name in a scope, and the symbol of its declaration: tags and the count alone have names that no identifier is, and a declaration
-- with linkage names the symbol of its name
pub record IsEntry (s : State) (n : List ℕ × ℕ) : Type 0 where
  pub below : n.1 < length s.symbols
  pub apart : is_link s.links n.1 ≡ false
  pub tag : is_tag (known_at s n.1).class ≡ not (is_name n.0)
  pub linked : (l : ℕ) → link_of (known_at s n.1) ≡ Some l → symbol_named s.links n.0 ≡ Some l

pub record IsRegular (s : State) : Type 0 where
  pub links : EachIs (IsLinked s) s.links
  pub once : (id : ℕ) → times_in s.links id ≤ 1
  pub outer : EachIs (EachIs (IsEntry s)) s.outer
  pub inner : EachIs (IsEntry s) s.inner
  pub bound : (id l : ℕ) → id < length s.symbols → is_link s.links id ≡ false → link_of (known_at s id) ≡ Some l → (is_link s.links l ≡ true) × Absorbs (known_at s l).of (known_at s id).of

-- symbols of the one state in the other
pub record Keeps (s u : State) : Type 0 where
  pub symbols : length s.symbols ≤ length u.symbols
  pub classes : (id : ℕ) → id < length s.symbols → (known_at u id).class ≡ (known_at s id).class
  pub types : (id : ℕ) → id < length s.symbols → is_tag (known_at s id).class ≡ false → Absorbs (known_at u id).of (known_at s id).of
  pub links : (id : ℕ) → id < length s.symbols → is_link u.links id ≡ is_link s.links id
  pub named : (name : List ℕ) (id : ℕ) → symbol_named s.links name ≡ Some id → symbol_named u.links name ≡ Some id
  pub values : (id : ℕ) → id < length s.symbols → is_link s.links id ≡ false → link_of (known_at u id) ≡ link_of (known_at s id)

pub keeps_itself : (s : State) → Keeps s s
keeps_itself s =
    record { symbols = omega arith; classes = λ id l. refl; types = λ id l c. absorbs_itself (known_at s id).of; links = λ id l. refl; named = λ name id e. e; values = λ id l e. refl }

pub keeps_then : (s t u : State) → Keeps s t → Keeps t u → Keeps s u
keeps_then s t u f g =
    record {
      symbols = le_trans f.symbols g.symbols;
      classes = λ id l. g.classes id (lt_of_lt_of_le l f.symbols) ∙ f.classes id l;
      types = λ id l c. absorbs_then (known_at u id).of (known_at t id).of (known_at s id).of (g.types id (lt_of_lt_of_le l f.symbols) (ap is_tag (f.classes id l) ∙ c)) (f.types id l c);
      links = λ id l. g.links id (lt_of_lt_of_le l f.symbols) ∙ f.links id l;
      named = λ name id e. g.named name id (f.named name id e);
      values = λ id l e. g.values id (lt_of_lt_of_le l f.symbols) (f.links id l ∙ e) ∙ f.values id l e;
    }

-- the same symbols and links
pub alike_keeps : (s u : State) → s.symbols ≡ u.symbols → s.links ≡ u.links → Keeps s u
alike_keeps s u e f =
    record {
      symbols = let l : length s.symbols ≡ length u.symbols = ap length e in omega (arith, l);
      classes = λ id l. ap (λ (ks : List Known). (get_or ks id nothing_known).class) (sym e);
      types = λ id l c. subst (λ (ks : List Known). Absorbs (get_or ks id nothing_known).of (known_at s id).of) e (absorbs_itself (known_at s id).of);
      links = λ id l. ap (λ ns. is_link ns id) (sym f);
      named = λ name id q. subst (λ ns. symbol_named ns name ≡ Some id) f q;
      values = λ id l q. ap (λ (ks : List Known). link_of (get_or ks id nothing_known)) (sym e);
    }

pub linked_keeps : (s u : State) → Keeps s u → (n : List ℕ × ℕ) → IsLinked s n → IsLinked u n
linked_keeps s u k n h = record { below = lt_of_lt_of_le h.below k.symbols; name = h.name; named = k.named n.0 n.1 h.named; class = ap is_tag (k.classes n.1 h.below) ∙ h.class }

pub entry_keeps : (s u : State) → Keeps s u → (n : List ℕ × ℕ) → IsEntry s n → IsEntry u n
entry_keeps s u k n h =
    record {
      below = lt_of_lt_of_le h.below k.symbols;
      apart = k.links n.1 h.below ∙ h.apart;
      tag = ap is_tag (k.classes n.1 h.below) ∙ h.tag;
      linked = λ l e. k.named n.0 l (h.linked l (sym (k.values n.1 h.below h.apart) ∙ e));
    }

pub scope_keeps : (s u : State) → Keeps s u → (ns : List (List ℕ × ℕ)) → EachIs (IsEntry s) ns → EachIs (IsEntry u) ns
scope_keeps s u k ns h = each_map (IsEntry s) (IsEntry u) (entry_keeps s u k) ns h

pub scopes_keep : (s u : State) → Keeps s u → (ss : List (List (List ℕ × ℕ))) → EachIs (EachIs (IsEntry s)) ss → EachIs (EachIs (IsEntry u)) ss
scopes_keep s u k ss h = each_map (EachIs (IsEntry s)) (EachIs (IsEntry u)) (scope_keeps s u k) ss h

-- the same symbols and links under other scopes, of entries
pub alike_regular : (s u : State) → s.symbols ≡ u.symbols → s.links ≡ u.links → IsRegular s → EachIs (EachIs (IsEntry s)) u.outer → EachIs (IsEntry s) u.inner → IsRegular u
alike_regular s u e f h o i =
    let k = alike_keeps s u e f in
    record {
      links = subst (EachIs (IsLinked u)) f (each_map (IsLinked s) (IsLinked u) (linked_keeps s u k) s.links h.links);
      once = λ id. subst (λ ns. times_in ns id ≤ 1) f (h.once id);
      outer = scopes_keep s u k u.outer o;
      inner = scope_keeps s u k u.inner i;
      bound = bound;
    }
  where
    at : (id l : ℕ) → (ks : List Known) → s.symbols ≡ ks → (ns : List (List ℕ × ℕ)) → s.links ≡ ns → id < length ks → is_link ns id ≡ false → link_of (get_or ks id nothing_known) ≡ Some l
        → (is_link ns l ≡ true) × Absorbs (get_or ks l nothing_known).of (get_or ks id nothing_known).of
    at id l ks p ns q =
        subst (λ (ks : List Known). id < length ks → is_link ns id ≡ false → link_of (get_or ks id nothing_known) ≡ Some l → (is_link ns l ≡ true) × Absorbs (get_or ks l nothing_known).of (get_or ks id nothing_known).of) p
        (subst (λ (ns : List (List ℕ × ℕ)). id < length s.symbols → is_link ns id ≡ false → link_of (known_at s id) ≡ Some l → (is_link ns l ≡ true) × Absorbs (known_at s l).of (known_at s id).of) q (h.bound id l))

    bound : (id l : ℕ) → id < length u.symbols → is_link u.links id ≡ false → link_of (known_at u id) ≡ Some l → (is_link u.links l ≡ true) × Absorbs (known_at u l).of (known_at u id).of
    bound id l = at id l u.symbols e u.links f

-- ---- look-ups

pub link_at : (s : State) (id : ℕ) → IsRegular s → is_link s.links id ≡ true → (name : List ℕ) × IsLinked s (name, id)
link_at s id h e = each_link (IsLinked s) s.links id h.links e

pub link_below : (s : State) (id : ℕ) → IsRegular s → is_link s.links id ≡ true → id < length s.symbols
link_below s id h e = (link_at s id h e).1.below

pub link_class : (s : State) (id : ℕ) → IsRegular s → is_link s.links id ≡ true → is_tag (known_at s id).class ≡ false
link_class s id h e = (link_at s id h e).1.class

pub entry_of : (s : State) (name : List ℕ) (id : ℕ) → IsRegular s → place_of s name ≡ Some id → IsEntry s (name, id)
entry_of s name id h e = each_found (IsEntry s) (s.outer ++ s.inner ∷ []) name id (each_join (EachIs (IsEntry s)) s.outer (s.inner ∷ []) h.outer (h.inner, tt)) e

-- ---- behind a part in the same scope, which adds functions alone to the names with linkage

pub record Steady (s u : State) : Type 0 where
  pub regular : IsRegular u
  pub keeps : Keeps s u
  pub outer : u.outer ≡ s.outer
  pub here : (name : List ℕ) (id : ℕ) → place_here s name ≡ Some id → place_here u name ≡ Some id
  pub same : (id : ℕ) → id < length s.symbols → is_tag (known_at s id).class ≡ false → known_at u id ≡ known_at s id
  pub new : (id : ℕ) → is_link u.links id ≡ true → (is_link s.links id ≡ true) ⊎ (is_function (known_at u id).of ≡ true)

pub steady_itself : (s : State) → IsRegular s → Steady s s
steady_itself s h = record { regular = h; keeps = keeps_itself s; outer = refl; here = λ name id e. e; same = λ id l c. refl; new = λ id e. inl e }

pub steady_then : (s t u : State) → Steady s t → Steady t u → Steady s u
steady_then s t u f g =
    record {
      regular = g.regular;
      keeps = keeps_then s t u f.keeps g.keeps;
      outer = g.outer ∙ f.outer;
      here = λ name id e. g.here name id (f.here name id e);
      same = λ id l c. g.same id (lt_of_lt_of_le l f.keeps.symbols) (ap is_tag (f.keeps.classes id l) ∙ c) ∙ f.same id l c;
      new = λ id e. by id (g.new id e);
    }
  where
    earlier : (id : ℕ) → is_link t.links id ≡ true → (is_link s.links id ≡ true) ⊎ (is_function (known_at t id).of ≡ true) → (is_link s.links id ≡ true) ⊎ (is_function (known_at u id).of ≡ true)
    earlier id e (inl q) = inl q
    earlier id e (inr q) = inr (ap (λ (k : Known). is_function k.of) (g.same id (link_below t id f.regular e) (link_class t id f.regular e)) ∙ q)

    by : (id : ℕ) → (is_link t.links id ≡ true) ⊎ (is_function (known_at u id).of ≡ true) → (is_link s.links id ≡ true) ⊎ (is_function (known_at u id).of ≡ true)
    by id (inl q) = earlier id q (f.new id q)
    by id (inr q) = inr q
