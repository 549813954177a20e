-- What a part of a unit makes of what is known, with the functions and objects that it defines and the names with linkage that it
-- declares: each has a type that the type of its symbol absorbs, and no name with linkage is defined twice.
use Rattle.std.proofs.Common.{◌≡◌, ◌⊎◌, ℕ, zero, suc, ◌+◌, ◌<◌, ◌≤◌, true, false, List, [], ◌∷◌, ◌++◌, length, get_or, refl, sym, ap, ◌∙◌, inl, inr, arith, lt_of_lt_of_le}
use Rattle.std.specs.Prelude.{◌==◌, Some}
use Rattle.std.proofs.lemmas.Bool.{cases_lt}
use Rattle.c_symbols.specs.Scoping.{symbol_named}
use Rattle.c_types.specs.CType.{CType}
use Rattle.c_meaning.specs.declared.core_expr.CoreKind.{CoreKind}
use Rattle.c_meaning.specs.declared.core_expr.CoreKind.TheVariants as kind
use Rattle.c_meaning.specs.Declarations.{Defined, Linked, is_definition}
use Rattle.c_meaning.specs.Each.{EachIs}
use Rattle.c_meaning.specs.State.{Known, State, known_at, nothing_known}
use Rattle.c_meaning.specs.Types.{is_function}
use Rattle.c_tree_names.specs.Names.{IsName}
use Rattle.c_typing_steps.specs.Names.{EachNameIn, EachNameStored}
use Rattle.c_typing_steps.proofs.lemmas.Names.{Implies, each_more_in, stored_more}
use Rattle.c_units.specs.Ends.{is_link}
use Rattle.c_units.specs.Externals.{Parts, no_parts}
use Rattle.c_units.specs.Functions.{DefinedFunction}
use Rattle.c_fits.proofs.lemmas.DeclaredFits.{each_join}
use Rattle.c_linked_names.proofs.lemmas.Absorbing.{Absorbs, TypeLaws, absorbed_function, absorbs_then}
use Rattle.c_linked_names.proofs.lemmas.Keeping.{IsRegular, Keeps, Steady, is_tag, keeps_itself, keeps_then, link_below, link_class}
use Rattle.c_linked_names.proofs.lemmas.Lists.{each_map, one_if}

-- ---- how often a symbol is defined

abbrev pub times_of : List Defined → ℕ → ℕ
times_of [] id = 0
times_of (o ∷ os) id = one_if (o.symbol == id) + times_of os id

abbrev pub times_among : List DefinedFunction → ℕ → ℕ
times_among [] id = 0
times_among (f ∷ fs) id = one_if (f.symbol == id) + times_among fs id

abbrev pub times : Parts → ℕ → ℕ
times p id = times_among p.functions id + times_of p.objects id

-- 1 where what the symbol tells is that it is defined
abbrev pub defined_at : State → ℕ → ℕ
defined_at s id = one_if (is_definition (known_at s id).value)

pub times_of_append : (xs ys : List Defined) (id : ℕ) → times_of (xs ++ ys) id ≡ times_of xs id + times_of ys id
times_of_append [] ys id = omega arith
times_of_append (x ∷ xs) ys id = let e = times_of_append xs ys id in omega (arith, e)

times_among_append : (xs ys : List DefinedFunction) (id : ℕ) → times_among (xs ++ ys) id ≡ times_among xs id + times_among ys id
times_among_append [] ys id = omega arith
times_among_append (x ∷ xs) ys id = let e = times_among_append xs ys id in omega (arith, e)

abbrev pub both : Parts → Parts → Parts
both p q = record { functions = p.functions ++ q.functions; objects = p.objects ++ q.objects; linked = p.linked ++ q.linked }

times_both : (p q : Parts) (id : ℕ) → times (both p q) id ≡ times p id + times q id
times_both p q id = let a = times_among_append p.functions q.functions id in let b = times_of_append p.objects q.objects id in omega (arith, a, b)

-- one of the declarations is of the symbol
abbrev pub Has : List Linked → ℕ → Type 0
Has [] id = ⊥
Has (d ∷ ds) id = (d.symbol ≡ id) ⊎ Has ds id

has_left : (xs ys : List Linked) (id : ℕ) → Has xs id → Has (xs ++ ys) id
has_left [] ys id h = absurd h
has_left (x ∷ xs) ys id (inl e) = inl e
has_left (x ∷ xs) ys id (inr h) = inr (has_left xs ys id h)

has_right : (xs ys : List Linked) (id : ℕ) → Has ys id → Has (xs ++ ys) id
has_right [] ys id h = h
has_right (x ∷ xs) ys id h = inr (has_right xs ys id h)

-- ---- what stands for what

-- a symbol stands with this type
pub record Meant (s : State) (id : ℕ) (of : CType) : Type 0 where
  pub below : id < length s.symbols
  pub class : is_tag (known_at s id).class ≡ false
  pub absorbed : Absorbs (known_at s id).of of

abbrev pub IfMeant : State → CoreKind → CType → Type 0
IfMeant s (kind.Symbol id) of = Meant s id of
IfMeant s what of = Unit {0}

pub record IsObject (s : State) (o : Defined) : Type 0 where
  pub meant : Meant s o.symbol o.object.of
  pub name : IsName o.object.name
  pub named : is_link s.links o.symbol ≡ true → symbol_named s.links o.object.name ≡ Some o.symbol
  pub places : EachNameStored (IfMeant s) o.object.places

pub record IsDefinedFunction (s : State) (f : DefinedFunction) : Type 0 where
  pub meant : Meant s f.symbol f.function.of
  pub named : symbol_named s.links f.function.name ≡ Some f.symbol
  pub body : EachNameIn (IfMeant s) f.function.body

abbrev pub IsDeclared : State → Linked → Type 0
IsDeclared s d = Meant s d.symbol d.of

pub meant_keeps : (s u : State) → Keeps s u → (id : ℕ) (of : CType) → Meant s id of → Meant u id of
meant_keeps s u k id of h =
    record { below = lt_of_lt_of_le h.below k.symbols; class = ap is_tag (k.classes id h.below) ∙ h.class; absorbed = absorbs_then (known_at u id).of (known_at s id).of of (k.types id h.below h.class) h.absorbed }

pub if_meant_keeps : (s u : State) → Keeps s u → Implies (IfMeant s) (IfMeant u)
if_meant_keeps s u k (kind.Symbol id) of h = meant_keeps s u k id of h
if_meant_keeps s u k what of h = tt

pub object_keeps : (s u : State) → Keeps s u → (o : Defined) → IsObject s o → IsObject u o
object_keeps s u k o h =
    record {
      meant = meant_keeps s u k o.symbol o.object.of h.meant;
      name = h.name;
      named = λ e. k.named o.object.name o.symbol (h.named (sym (k.links o.symbol h.meant.below) ∙ e));
      places = stored_more (IfMeant s) (IfMeant u) (if_meant_keeps s u k) o.object.places h.places;
    }

pub function_keeps : (s u : State) → Keeps s u → (f : DefinedFunction) → IsDefinedFunction s f → IsDefinedFunction u f
function_keeps s u k f h =
    record {
      meant = meant_keeps s u k f.symbol f.function.of h.meant;
      named = k.named f.function.name f.symbol h.named;
      body = each_more_in (IfMeant s) (IfMeant u) (if_meant_keeps s u k) f.function.body h.body;
    }

pub declared_keeps : (s u : State) → Keeps s u → (d : Linked) → IsDeclared s d → IsDeclared u d
declared_keeps s u k d h = meant_keeps s u k d.symbol d.of h

-- ---- a part

-- a symbol that is a link, if it is one that is known
abbrev pub IfKnown : State → ℕ → Type 0
IfKnown u id = id < length u.symbols → is_link u.links id ≡ true

pub record Goes (s u : State) (p : Parts) : Type 0 where
  pub regular : IsRegular u
  pub keeps : Keeps s u
  pub once : (id : ℕ) → IfKnown u id → times p id + defined_at s id ≤ defined_at u id
  pub new : (id : ℕ) → is_link u.links id ≡ true → (is_link s.links id ≡ true) ⊎ ((is_function (known_at u id).of ≡ true) ⊎ Has p.linked id)
  pub functions : EachIs (IsDefinedFunction u) p.functions
  pub objects : EachIs (IsObject u) p.objects
  pub linked : EachIs (IsDeclared u) p.linked

-- past the symbols nothing is defined
pub past_symbols : (ks : List Known) (id : ℕ) → length ks ≤ id → get_or ks id nothing_known ≡ nothing_known
past_symbols [] id l = refl
past_symbols (k ∷ ks) zero l = absurd (let z : ⊥ = omega (arith, l) in z)
past_symbols (k ∷ ks) (suc id) l = past_symbols ks id (omega (arith, l))

pub goes_itself : (s : State) → IsRegular s → Goes s s no_parts
goes_itself s h = record { regular = h; keeps = keeps_itself s; once = λ id e. omega arith; new = λ id e. inl e; functions = tt; objects = tt; linked = tt }

-- what is steady defines nothing
pub steady_defined : (s u : State) → IsRegular s → Steady s u → (id : ℕ) → IfKnown u id → defined_at s id ≤ defined_at u id
steady_defined s u h f id e = by (cases_lt id (length s.symbols))
  where
    by : (id < length s.symbols) ⊎ (length s.symbols ≤ id) → defined_at s id ≤ defined_at u id
    by (inr l) = let z : defined_at s id ≡ 0 = ap (λ (k : Known). one_if (is_definition k.value)) (past_symbols s.symbols id l) in omega (arith, z)
    by (inl l) =
        let z : defined_at u id ≡ defined_at s id = ap (λ (k : Known). one_if (is_definition k.value)) (f.same id l (link_class s id h (sym (f.keeps.links id l) ∙ e (lt_of_lt_of_le l f.keeps.symbols)))) in
        omega (arith, z)

module _ (types : TypeLaws) where
  -- a link of a function's type has one still
  pub function_still : (s u : State) → Keeps s u → (id : ℕ) → id < length s.symbols → is_tag (known_at s id).class ≡ false → is_function (known_at s id).of ≡ true → is_function (known_at u id).of ≡ true
  function_still s u k id l c e = absorbed_function types (known_at u id).of (known_at s id).of (k.types id l c) ∙ e

  pub goes_then : (s t u : State) (p q : Parts) → Goes s t p → Goes t u q → Goes s u (both p q)
  goes_then s t u p q f g =
      record {
        regular = g.regular;
        keeps = keeps_then s t u f.keeps g.keeps;
        once = λ id e. let a = f.once id (λ l. sym (g.keeps.links id l) ∙ e (lt_of_lt_of_le l g.keeps.symbols)) in let b = g.once id e in let c = times_both p q id in omega (arith, a, b, c);
        new = λ id e. later id (g.new id e);
        functions = each_join (IsDefinedFunction u) p.functions q.functions (each_map (IsDefinedFunction t) (IsDefinedFunction u) (function_keeps t u g.keeps) p.functions f.functions) g.functions;
        objects = each_join (IsObject u) p.objects q.objects (each_map (IsObject t) (IsObject u) (object_keeps t u g.keeps) p.objects f.objects) g.objects;
        linked = each_join (IsDeclared u) p.linked q.linked (each_map (IsDeclared t) (IsDeclared u) (declared_keeps t u g.keeps) p.linked f.linked) g.linked;
      }
    where
      earlier : (id : ℕ) → is_link t.links id ≡ true → (is_link s.links id ≡ true) ⊎ ((is_function (known_at t id).of ≡ true) ⊎ Has p.linked id) → (is_link s.links id ≡ true) ⊎ ((is_function (known_at u id).of ≡ true) ⊎ Has (p.linked ++ q.linked) id)
      earlier id e (inl h) = inl h
      earlier id e (inr (inl h)) = inr (inl (function_still t u g.keeps id (link_below t id f.regular e) (link_class t id f.regular e) h))
      earlier id e (inr (inr h)) = inr (inr (has_left p.linked q.linked id h))

      later : (id : ℕ) → (is_link t.links id ≡ true) ⊎ ((is_function (known_at u id).of ≡ true) ⊎ Has q.linked id) → (is_link s.links id ≡ true) ⊎ ((is_function (known_at u id).of ≡ true) ⊎ Has (p.linked ++ q.linked) id)
      later id (inl h) = earlier id h (f.new id h)
      later id (inr (inl h)) = inr (inl h)
      later id (inr (inr h)) = inr (inr (has_right p.linked q.linked id h))

  pub goes_steady : (s t u : State) (p : Parts) → Goes s t p → Steady t u → Goes s u p
  goes_steady s t u p f g =
      record {
        regular = g.regular;
        keeps = keeps_then s t u f.keeps g.keeps;
        once = λ id e. let a = f.once id (λ l. sym (g.keeps.links id l) ∙ e (lt_of_lt_of_le l g.keeps.symbols)) in let b = steady_defined t u f.regular g id e in omega (arith, a, b);
        new = λ id e. later id (g.new id e);
        functions = each_map (IsDefinedFunction t) (IsDefinedFunction u) (function_keeps t u g.keeps) p.functions f.functions;
        objects = each_map (IsObject t) (IsObject u) (object_keeps t u g.keeps) p.objects f.objects;
        linked = each_map (IsDeclared t) (IsDeclared u) (declared_keeps t u g.keeps) p.linked f.linked;
      }
    where
      earlier : (id : ℕ) → is_link t.links id ≡ true → (is_link s.links id ≡ true) ⊎ ((is_function (known_at t id).of ≡ true) ⊎ Has p.linked id) → (is_link s.links id ≡ true) ⊎ ((is_function (known_at u id).of ≡ true) ⊎ Has p.linked id)
      earlier id e (inl h) = inl h
      earlier id e (inr (inl h)) = inr (inl (function_still t u g.keeps id (link_below t id f.regular e) (link_class t id f.regular e) h))
      earlier id e (inr (inr h)) = inr (inr h)

      later : (id : ℕ) → (is_link t.links id ≡ true) ⊎ (is_function (known_at u id).of ≡ true) → (is_link s.links id ≡ true) ⊎ ((is_function (known_at u id).of ≡ true) ⊎ Has p.linked id)
      later id (inl h) = earlier id h (f.new id h)
      later id (inr h) = inr (inl h)

  pub steady_goes : (s u : State) → IsRegular s → Steady s u → Goes s u no_parts
  steady_goes s u h f = goes_steady s s u no_parts (goes_itself s h) f
