-- What steps keep: the scopes around the innermost one, the symbols of names, names with linkage, and what symbols mean, but for
-- a tag's, which may come to mean another enumeration. What they declare is a function, an enumerator or a tag.
use Rattle.std.proofs.Common.{◌≡◌, ◌⊎◌, ℕ, ◌<◌, ◌≤◌, Bool, true, false, List, [], ◌∷◌, ◌++◌, length, get_or, refl, sym, ap, subst, ◌∙◌, inl, inr, arith, le_trans, lt_of_lt_of_le}
use Rattle.std.specs.Prelude.{ℤ, pos, Option, Some, None, if◌then◌else◌}
use Rattle.std.specs.Str.{bytes_eq}
use Rattle.std.proofs.lemmas.List.{get_or_append_left, length-set}
use Rattle.c_ast.specs.declared.specifier.RecordKind.{RecordKind}
use Rattle.c_ast.specs.declared.specifier.Storage.{Storage as StorageClass}
use Rattle.c_symbols.specs.declared.symbol.Storage.{Storage}
use Rattle.c_symbols.specs.declared.symbol.Storage.TheVariants as storage
use Rattle.c_symbols.specs.Scoping.{found, or_else, symbol_named}
use Rattle.c_types.specs.CType.{CType}
use Rattle.c_meaning.specs.declared.core_expr.CoreKind.TheVariants as kind
use Rattle.c_meaning.specs.Declaring.{alone_at}
use Rattle.c_meaning.specs.Rows.{kind_meant}
use Rattle.c_meaning.specs.State.{Known, State, counted, declared, entered, external, known_at, left, level_of, link_or_next, nothing_known, place_here, place_of, replaced, with_function, with_link}
use Rattle.c_meaning.specs.TypeRows.{awaited, awaited_at, completed, enumerated, enumerated_at, enumeration_type, named_at, opened, opened_at, parameter_known, record_type, tag_key, tagged, with_parameter, with_tag}
use Rattle.c_fits.proofs.lemmas.Lists.{last_below, longer, named_append, seam, set_related, some_id}
use Rattle.c_typing_steps.specs.Names.{Stands}
use Rattle.c_typing_steps.specs.Steps.{Steps, Stay, Go, Call, Tag, Alone, Open, Await, Enumerate, Enumerator, Complete, Prototype, StepsInside, Plain, GoInside, Parameter}

-- ---- symbols and names with linkage

-- a symbol means what it meant, or it is a tag's
abbrev pub Means : Known → Known → Type 0
Means old new = (new ≡ old) ⊎ (new.class ≡ storage.Tag)

-- what is kept in a prototype's scope too
pub record KeepsSymbols (s u : State) : Type 0 where
  pub symbols : length s.symbols ≤ length u.symbols
  pub known : (id : ℕ) → id < length s.symbols → Means (known_at s id) (known_at u id)
  pub links : (name : List ℕ) (id : ℕ) → symbol_named s.links name ≡ Some id → symbol_named u.links name ≡ Some id

-- where symbols and links are the same
symbols_alike : (s u : State) → u.symbols ≡ s.symbols → u.links ≡ s.links → KeepsSymbols s u
symbols_alike s u e f =
    record { symbols = let l = ap (λ (ks : List Known). length ks) e in omega (arith, l); known = λ id l. inl (ap (λ (ks : List Known). get_or ks id nothing_known) e); links = λ name id g. ap (λ ns. symbol_named ns name) f ∙ g }

symbols_same : (s : State) → KeepsSymbols s s
symbols_same s = symbols_alike s s refl refl

means_then : (a b c : Known) → Means a b → Means b c → Means a c
means_then a b c (inl p) (inl q) = inl (q ∙ p)
means_then a b c (inr p) (inl q) = inr (ap (λ (k : Known). k.class) q ∙ p)
means_then a b c f (inr q) = inr q

symbols_then : (s t u : State) → KeepsSymbols s t → KeepsSymbols t u → KeepsSymbols s u
symbols_then s t u f g =
    record {
      symbols = le_trans f.symbols g.symbols;
      known = λ id l. means_then (known_at s id) (known_at t id) (known_at u id) (f.known id l) (g.known id (lt_of_lt_of_le l f.symbols));
      links = λ name id e. g.links name id (f.links name id e);
    }

declared_symbols : (s : State) (name : List ℕ) (k : Known) → KeepsSymbols s (declared s name k)
declared_symbols s name k = record { symbols = longer s.symbols k; known = λ id l. inl (get_or_append_left s.symbols (k ∷ []) nothing_known id l); links = λ n id e. e }

replaced_symbols : (s : State) (id : ℕ) (k : Known) → k.class ≡ storage.Tag → KeepsSymbols s (replaced s id k)
replaced_symbols s id k e =
    record {
      symbols = let l = length-set s.symbols id k in omega (arith, l);
      known = λ j l. set_related Means s.symbols id k nothing_known (λ x. inl refl) (inr e) j;
      links = λ name j g. g;
    }

-- ---- names in scopes

-- it is declared by a step of typing
abbrev pub is_stepped : Storage → Bool
is_stepped storage.Extern = true
is_stepped storage.Enumerator = true
is_stepped storage.Tag = true
is_stepped class = false

-- a symbol that was declared between two states, by steps of typing
pub record IsNew (s u : State) (id : ℕ) : Type 0 where
  pub from : length s.symbols ≤ id
  pub below : id < length u.symbols
  pub class : is_stepped (known_at u id).class ≡ true

pub record Keeps (s u : State) : Type 0 where
  pub symbols : KeepsSymbols s u
  pub outer : u.outer ≡ s.outer
  -- a name of the innermost scope keeps its symbol there
  pub here : (name : List ℕ) (id : ℕ) → place_here s name ≡ Some id → place_here u name ≡ Some id
  -- a name that is found stays so, or is declared anew in the innermost scope
  pub stays : (name : List ℕ) (id : ℕ) → place_of s name ≡ Some id → (place_of u name ≡ Some id) ⊎ ((j : ℕ) × (place_of u name ≡ Some j) × IsNew s u j)
  -- a name that is found behind was so before, or is a new one
  pub comes : (name : List ℕ) (id : ℕ) → place_of u name ≡ Some id → (place_of s name ≡ Some id) ⊎ IsNew s u id

-- ---- one behind the other

keeps_same : (s : State) → Keeps s s
keeps_same s = record { symbols = symbols_same s; outer = refl; here = λ name id e. e; stays = λ name id e. inl e; comes = λ name id e. inl e }

-- what was new before is so still, and what is new later is so from before
new_stays : (s t u : State) (id : ℕ) → KeepsSymbols t u → IsNew s t id → IsNew s u id
new_stays s t u id g n = record { from = n.from; below = lt_of_lt_of_le n.below g.symbols; class = by (g.known id n.below) }
  where
    by : Means (known_at t id) (known_at u id) → is_stepped (known_at u id).class ≡ true
    by (inl e) = ap (λ (k : Known). is_stepped k.class) e ∙ n.class
    by (inr e) = ap is_stepped e

new_before : (s t u : State) (id : ℕ) → KeepsSymbols s t → IsNew t u id → IsNew s u id
new_before s t u id f n = record { from = le_trans f.symbols n.from; below = n.below; class = n.class }

keeps_then : (s t u : State) → Keeps s t → Keeps t u → Keeps s u
keeps_then s t u f g =
    record {
      symbols = symbols_then s t u f.symbols g.symbols;
      outer = g.outer ∙ f.outer;
      here = λ name id e. g.here name id (f.here name id e);
      stays = λ name id e. stays name id (f.stays name id e);
      comes = λ name id e. comes name id (g.comes name id e);
    }
  where
    again : (name : List ℕ) (id : ℕ) → IsNew s t id → (place_of u name ≡ Some id) ⊎ ((j : ℕ) × (place_of u name ≡ Some j) × IsNew t u j) → (j : ℕ) × (place_of u name ≡ Some j) × IsNew s u j
    again name id n (inl e) = (id, e, new_stays s t u id g.symbols n)
    again name id n (inr p) = (p.0, p.1, new_before s t u p.0 f.symbols p.2)

    stays : (name : List ℕ) (id : ℕ) → (place_of t name ≡ Some id) ⊎ ((j : ℕ) × (place_of t name ≡ Some j) × IsNew s t j) → (place_of u name ≡ Some id) ⊎ ((j : ℕ) × (place_of u name ≡ Some j) × IsNew s u j)
    stays name id (inl e) = later (g.stays name id e)
      where
        later : (place_of u name ≡ Some id) ⊎ ((j : ℕ) × (place_of u name ≡ Some j) × IsNew t u j) → (place_of u name ≡ Some id) ⊎ ((j : ℕ) × (place_of u name ≡ Some j) × IsNew s u j)
        later (inl e) = inl e
        later (inr p) = inr (p.0, p.1, new_before s t u p.0 f.symbols p.2)
    stays name id (inr p) = inr (again name p.0 p.2 (g.stays name p.0 p.1))

    comes : (name : List ℕ) (id : ℕ) → (place_of t name ≡ Some id) ⊎ IsNew t u id → (place_of s name ≡ Some id) ⊎ IsNew s u id
    comes name id (inr n) = inr (new_before s t u id f.symbols n)
    comes name id (inl e) = earlier (f.comes name id e)
      where
        earlier : (place_of s name ≡ Some id) ⊎ IsNew s t id → (place_of s name ≡ Some id) ⊎ IsNew s u id
        earlier (inl e) = inl e
        earlier (inr n) = inr (new_stays s t u id g.symbols n)

-- ---- a further name

named_push : (ns : List (List ℕ × ℕ)) (m : List ℕ × ℕ) (name : List ℕ) → symbol_named (ns ++ m ∷ []) name ≡ or_else (symbol_named ns name) (symbol_named (m ∷ []) name)
named_push [] m name = refl
named_push (x ∷ xs) m name = by (bytes_eq name x.0) (named_push xs m name)
  where
    by : (b : Bool) → symbol_named (xs ++ m ∷ []) name ≡ or_else (symbol_named xs name) (symbol_named (m ∷ []) name) → (if b then Some x.1 else symbol_named (xs ++ m ∷ []) name) ≡ or_else (if b then Some x.1 else symbol_named xs name) (symbol_named (m ∷ []) name)
    by true e = refl
    by false e = e

else_else : (a b c : Option ℕ) → or_else (or_else a b) c ≡ or_else a (or_else b c)
else_else (Some i) b c = refl
else_else None b c = refl

found_push : (ss : List (List (List ℕ × ℕ))) (inner : List (List ℕ × ℕ)) (name : List ℕ) → found (ss ++ inner ∷ []) name ≡ or_else (symbol_named inner name) (found ss name)
found_push [] inner name = by (symbol_named inner name)
  where
    by : (o : Option ℕ) → o ≡ or_else o None
    by (Some i) = refl
    by None = refl
found_push (s ∷ ss) inner name = ap (λ o. or_else o (symbol_named s name)) (found_push ss inner name) ∙ else_else (symbol_named inner name) (found ss name) (symbol_named s name)

-- where a name is found behind a further declaration
place_declared : (s : State) (name : List ℕ) (k : Known) (x : List ℕ) → place_of (declared s name k) x ≡ or_else (or_else (place_here s x) (if bytes_eq x name then Some (length s.symbols) else None)) (found s.outer x)
place_declared s name k x = found_push s.outer (s.inner ++ (name, length s.symbols) ∷ []) x ∙ ap (λ o. or_else o (found s.outer x)) (named_push s.inner (name, length s.symbols) x)

declared_keeps : (s : State) (name : List ℕ) (k : Known) → is_stepped k.class ≡ true → Keeps s (declared s name k)
declared_keeps s name k c =
    record {
      symbols = declared_symbols s name k;
      outer = refl;
      here = λ x id e. named_append s.inner (name, length s.symbols) x id e;
      stays = λ x id e. stays x id (place_here s x) (bytes_eq x name) (sym (found_push s.outer s.inner x) ∙ e) (place_declared s name k x);
      comes = λ x id e. comes x id (place_here s x) (bytes_eq x name) (found_push s.outer s.inner x) (sym (place_declared s name k x) ∙ e);
    }
  where
    u : State
    u = declared s name k

    last : IsNew s u (length s.symbols)
    last = record { from = omega arith; below = last_below s.symbols k; class = ap (λ (k : Known). is_stepped k.class) (seam s.symbols k nothing_known) ∙ c }

    stays : (x : List ℕ) (id : ℕ) (o : Option ℕ) (b : Bool) → or_else o (found s.outer x) ≡ Some id → place_of u x ≡ or_else (or_else o (if b then Some (length s.symbols) else None)) (found s.outer x)
        → (place_of u x ≡ Some id) ⊎ ((j : ℕ) × (place_of u x ≡ Some j) × IsNew s u j)
    stays x id (Some i) b e p = inl (p ∙ e)
    stays x id None true e p = inr (length s.symbols, p, last)
    stays x id None false e p = inl (p ∙ e)

    comes : (x : List ℕ) (id : ℕ) (o : Option ℕ) (b : Bool) → place_of s x ≡ or_else o (found s.outer x) → or_else (or_else o (if b then Some (length s.symbols) else None)) (found s.outer x) ≡ Some id → (place_of s x ≡ Some id) ⊎ IsNew s u id
    comes x id (Some i) b p e = inl (p ∙ e)
    comes x id None true p e = inr (subst (IsNew s u) (some_id (length s.symbols) id e) last)
    comes x id None false p e = inl (p ∙ e)

-- where the scopes and the symbols of their names stay
scopes_keep : (s u : State) → KeepsSymbols s u → u.outer ≡ s.outer → u.inner ≡ s.inner → Keeps s u
scopes_keep s u k o i =
    record {
      symbols = k;
      outer = o;
      here = λ name id e. ap (λ ns. symbol_named ns name) i ∙ e;
      stays = λ name id e. inl (same name ∙ e);
      comes = λ name id e. inl (sym (same name) ∙ e);
    }
  where
    same : (name : List ℕ) → place_of u name ≡ place_of s name
    same name = ap (λ ss. found (ss ++ u.inner ∷ []) name) o ∙ ap (λ ns. found (s.outer ++ ns ∷ []) name) i

-- ---- each step

function_keeps : (s : State) (line : ℕ) (name : List ℕ) → Keeps s (with_function s line name)
function_keeps s line name =
    keeps_then s (with_link s name (symbol_named s.links name) (external line 0 None)) (with_function s line name) (linked (symbol_named s.links name))
    (declared_keeps (with_link s name (symbol_named s.links name) (external line 0 None)) name (external line (level_of s) (Some (pos (link_or_next s name)))) refl)
  where
    linked : (o : Option ℕ) → Keeps s (with_link s name o (external line 0 None))
    linked (Some id) = keeps_same s
    linked None =
        scopes_keep s (with_link s name None (external line 0 None))
        (record { symbols = longer s.symbols (external line 0 None); known = λ id l. inl (get_or_append_left s.symbols (external line 0 None ∷ []) nothing_known id l); links = λ n id e. named_append s.links (name, length s.symbols) n id e }) refl refl

counted_keeps : (s : State) → Keeps s (counted s)
counted_keeps s = scopes_keep s (counted s) (symbols_alike s (counted s) refl refl) refl refl

tag_keeps : (s : State) (line : ℕ) (tag : List ℕ) (of : CType) (value : Option ℤ) → Keeps s (with_tag s line tag of value).state
tag_keeps s line tag of value =
    keeps_then s (counted s) (with_tag s line tag of value).state (counted_keeps s) (declared_keeps (counted s) (tag_key tag) (tagged line (level_of s) of value) refl)

named_keeps : (s : State) (line : ℕ) (tag : List ℕ) (of : CType) (o : Option ℕ) → Keeps s (named_at s line tag of o).state
named_keeps s line tag of (Some id) = keeps_same s
named_keeps s line tag of None = tag_keeps s line tag of None

alone_keeps : (s : State) (line : ℕ) (k : RecordKind) (tag : List ℕ) (o : Option ℕ) → Keeps s (alone_at s line k tag o).state
alone_keeps s line k tag (Some id) = keeps_same s
alone_keeps s line k tag None = tag_keeps s line tag (record_type k s.count) None

opened_at_keeps : (s : State) (line : ℕ) (k : RecordKind) (tag : List ℕ) (o : Option ℕ) → Keeps s (opened_at s line k tag o).state
opened_at_keeps s line k tag (Some id) = keeps_same s
opened_at_keeps s line k tag None = tag_keeps s line tag (record_type k s.count) None

opened_keeps : (s : State) (line : ℕ) (k : RecordKind) (tag : Option (List ℕ)) → Keeps s (opened s line k tag).state
opened_keeps s line k None = counted_keeps s
opened_keeps s line k (Some tag) = opened_at_keeps s line k tag (place_here s (tag_key tag))

awaited_at_keeps : (s : State) (line : ℕ) (tag : List ℕ) (o : Option ℕ) → Keeps s (awaited_at s line tag o)
awaited_at_keeps s line tag (Some id) = keeps_same s
awaited_at_keeps s line tag None = tag_keeps s line tag (enumeration_type s.count) None

awaited_keeps : (s : State) (line : ℕ) (tag : Option (List ℕ)) → Keeps s (awaited s line tag)
awaited_keeps s line None = keeps_same s
awaited_keeps s line (Some tag) = awaited_at_keeps s line tag (place_here s (tag_key tag))

enumerated_at_keeps : (s : State) (line : ℕ) (tag : List ℕ) (o : Option ℕ) → Keeps s (enumerated_at s line tag o).state
enumerated_at_keeps s line tag None = tag_keeps s line tag (enumeration_type s.count) (Some (pos 0))
enumerated_at_keeps s line tag (Some id) =
    keeps_then s (counted s) (enumerated_at s line tag (Some id)).state (counted_keeps s)
    (scopes_keep (counted s) (enumerated_at s line tag (Some id)).state (replaced_symbols (counted s) id (tagged line (level_of s) (enumeration_type s.count) (Some (pos 0))) refl) refl refl)

enumerated_keeps : (s : State) (line : ℕ) (tag : Option (List ℕ)) → Keeps s (enumerated s line tag).state
enumerated_keeps s line None = counted_keeps s
enumerated_keeps s line (Some tag) = enumerated_at_keeps s line tag (place_here s (tag_key tag))

parameter_symbols : (s : State) (line place : ℕ) (classes : List StorageClass) (name : Option (List ℕ)) (of : CType) → KeepsSymbols s (with_parameter s line place classes name of)
parameter_symbols s line place classes None of = symbols_same s
parameter_symbols s line place classes (Some name) of = declared_symbols s name (parameter_known s line place classes of)

-- a prototype's scope is left
left_symbols : (s t : State) → KeepsSymbols (entered s) t → KeepsSymbols s (left s.outer s.inner t)
left_symbols s t f = record { symbols = f.symbols; known = f.known; links = f.links }

-- ---- all of them

mutual
  pub steps_keep : {s u : State} → Steps s u → Keeps s u
  steps_keep (Stay {s = s}) = keeps_same s
  steps_keep (Go {s = s} {t = t} {u = u} f g) = keeps_then s t u (steps_keep f) (steps_keep g)
  steps_keep (Call s line name is new fits) = function_keeps s line name
  steps_keep (Tag s line tag of) = named_keeps s line tag of (place_of s (tag_key tag))
  steps_keep (Alone s line k tag) = alone_keeps s line k tag (place_here s (tag_key tag))
  steps_keep (Open s line k tag) = opened_keeps s line k tag
  steps_keep (Await s line tag) = awaited_keeps s line tag
  steps_keep (Enumerate s line tag) = enumerated_keeps s line tag
  steps_keep (Enumerator s line name z is new) = declared_keeps s name _ refl
  steps_keep (Complete s k number members) = scopes_keep s (completed s k number members) (symbols_alike s (completed s k number members) refl refl) refl refl
  steps_keep (Prototype {s = s} {t = t} inside) = scopes_keep s (left s.outer s.inner t) (left_symbols s t (inside_keeps inside)) refl refl

  pub inside_keeps : {s u : State} → StepsInside s u → KeepsSymbols s u
  inside_keeps (Plain f) = (steps_keep f).symbols
  inside_keeps (GoInside {s = s} {t = t} {u = u} f g) = symbols_then s t u (inside_keeps f) (inside_keeps g)
  inside_keeps (Parameter s line place classes name of is) = parameter_symbols s line place classes name of

-- ---- local objects

new_local : (class : Storage) (value : Option ℤ) (id place : ℕ) (register : Bool) → is_stepped class ≡ true → kind.Local place register ≡ kind_meant class value id → ⊥
new_local storage.Extern value id place register e m = let never : ⊥ = cc in never
new_local storage.Enumerator value id place register e m = let never : ⊥ = cc in never
new_local storage.Tag value id place register e m = let never : ⊥ = cc in never
new_local class value id place register e m = absurd (let never : ⊥ = cc in never)

-- a name that means this local object
pub record IsLocal (s : State) (place : ℕ) (register : Bool) (of : CType) : Type 0 where
  pub name : List ℕ
  pub id : ℕ
  pub found : place_of s name ≡ Some id
  pub means : kind.Local place register ≡ kind_meant (known_at s id).class (known_at s id).value id
  pub type : of ≡ (known_at s id).of

-- a local object that an expression names was declared before it, where the names before it have symbols
pub local_stands : (s u : State) (place : ℕ) (register : Bool) (of : CType) → ((name : List ℕ) (id : ℕ) → place_of s name ≡ Some id → id < length s.symbols) → Stands s u (kind.Local place register) of → IsLocal s place register of
local_stands s u place register of below h = by ((steps_keep h.before).comes h.name h.id h.found)
  where
    old : place_of s h.name ≡ Some h.id → Means (known_at s h.id) (known_at h.at h.id) → IsLocal s place register of
    old e (inl k) =
        record { name = h.name; id = h.id; found = e; means = subst (λ (k : Known). kind.Local place register ≡ kind_meant k.class k.value h.id) k h.means; type = h.type ∙ ap (λ (k : Known). k.of) k }
    old e (inr t) = absurd (new_local (known_at h.at h.id).class (known_at h.at h.id).value h.id place register (ap is_stepped t) h.means)

    by : (place_of s h.name ≡ Some h.id) ⊎ IsNew s h.at h.id → IsLocal s place register of
    by (inl e) = old e ((steps_keep h.before).symbols.known h.id (below h.name h.id e))
    by (inr n) = absurd (new_local (known_at h.at h.id).class (known_at h.at h.id).value h.id place register n.class h.means)
