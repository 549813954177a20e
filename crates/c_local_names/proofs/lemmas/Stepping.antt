-- Steps of typing declare no local, and prototypes' parameters are left with their scopes.
use Rattle.std.proofs.Common.{◌≡◌, ℕ, List, refl, inr}
use Rattle.std.specs.Prelude.{ℤ, pos, Option, Some, None, IfSome}
use Rattle.c_ast.specs.declared.specifier.RecordKind.{RecordKind}
use Rattle.c_ast.specs.declared.specifier.Storage.{Storage}
use Rattle.c_symbols.specs.Scoping.{symbol_named}
use Rattle.c_types.specs.CType.{CType}
use Rattle.c_meaning.specs.Declaring.{alone_at}
use Rattle.c_meaning.specs.State.{State, declared, entered, external, left, level_of, link_or_next, place_here, place_of, with_function, with_link}
use Rattle.c_meaning.specs.State as state
use Rattle.c_meaning.specs.TypeRows.{awaited, awaited_at, enumerated, enumerated_at, enumeration_type, named_at, opened, opened_at, parameter_known, record_type, tag_key, tagged, with_parameter, with_tag}
use Rattle.c_tree_names.specs.Names.{IsName}
use Rattle.c_typing_steps.specs.Steps.{Steps, StepsInside, Stay, Go, Call, Tag, Alone, Open, Await, Enumerate, Enumerator, Complete, Prototype, Plain, GoInside, Parameter}
use Rattle.c_local_names.proofs.lemmas.Keeping.{Adds, Counted, Keeps, declared_adds, declared_keeps, entered_counted, left_adds, link_adds, not_counter, replaced_adds, same_adds, same_keeps, then_adds, then_keeps}
use Rattle.c_local_names.proofs.lemmas.Scopes.{name_some, named_has}

module _ (o : Option ℕ) where
  -- ---- one step

  function_adds : (s : State) (line : ℕ) (name : List ℕ) → IsName name → Counted o s → Adds o s (with_function s line name)
  function_adds s line name n h =
      let t : State = with_link s name (symbol_named s.links name) (external line 0 None) in
      let a = link_adds o s name (symbol_named s.links name) (external line 0 None) h refl in
      then_adds o s t (with_function s line name) a (declared_adds o t name (external line (level_of s) (Some (pos (link_or_next s name)))) a.keeps.counted (name_some name n) refl)

  counted_adds : (s : State) → Counted o s → Adds o s (state.counted s)
  counted_adds s h =
      record {
        keeps =
            record {
              counted = again;
              outer = refl;
              symbols = (same_keeps o s h).symbols;
              known = (same_keeps o s h).known;
              counter = λ c e. refl;
            };
        inner = (same_adds o s h).inner;
        here = λ name id e. e;
      }
    where
      again : Counted o (state.counted s)
      again = record { found = h.found; below = h.below; beside = h.beside; links_below = h.links_below; links_beside = h.links_beside; linked = h.linked }

  tag_adds : (s : State) (line : ℕ) (tag : List ℕ) (of : CType) (v : Option ℤ) → Counted o s → Adds o s (with_tag s line tag of v).state
  tag_adds s line tag of v h =
      let a = counted_adds s h in
      then_adds o s (state.counted s) (with_tag s line tag of v).state a (declared_adds o (state.counted s) (tag_key tag) (tagged line (level_of s) of v) a.keeps.counted refl refl)

  named_adds : (s : State) (line : ℕ) (tag : List ℕ) (of : CType) (p : Option ℕ) → Counted o s → Adds o s (named_at s line tag of p).state
  named_adds s line tag of (Some id) h = same_adds o s h
  named_adds s line tag of None h = tag_adds s line tag of None h

  alone_adds : (s : State) (line : ℕ) (k : RecordKind) (tag : List ℕ) (p : Option ℕ) → Counted o s → Adds o s (alone_at s line k tag p).state
  alone_adds s line k tag (Some id) h = same_adds o s h
  alone_adds s line k tag None h = tag_adds s line tag (record_type k s.count) None h

  opened_at_adds : (s : State) (line : ℕ) (k : RecordKind) (tag : List ℕ) (p : Option ℕ) → Counted o s → Adds o s (opened_at s line k tag p).state
  opened_at_adds s line k tag (Some id) h = same_adds o s h
  opened_at_adds s line k tag None h = tag_adds s line tag (record_type k s.count) None h

  opened_adds : (s : State) (line : ℕ) (k : RecordKind) (tag : Option (List ℕ)) → Counted o s → Adds o s (opened s line k tag).state
  opened_adds s line k None h = counted_adds s h
  opened_adds s line k (Some tag) h = opened_at_adds s line k tag (place_here s (tag_key tag)) h

  awaited_at_adds : (s : State) (line : ℕ) (tag : List ℕ) (p : Option ℕ) → Counted o s → Adds o s (awaited_at s line tag p)
  awaited_at_adds s line tag (Some id) h = same_adds o s h
  awaited_at_adds s line tag None h = tag_adds s line tag (enumeration_type s.count) None h

  awaited_adds : (s : State) (line : ℕ) (tag : Option (List ℕ)) → Counted o s → Adds o s (awaited s line tag)
  awaited_adds s line None h = same_adds o s h
  awaited_adds s line (Some tag) h = awaited_at_adds s line tag (place_here s (tag_key tag)) h

  enumerated_at_adds : (s : State) (line : ℕ) (tag : List ℕ) (p : Option ℕ) → place_here s (tag_key tag) ≡ p → Counted o s → Adds o s (enumerated_at s line tag p).state
  enumerated_at_adds s line tag None e h = tag_adds s line tag (enumeration_type s.count) (Some (pos 0)) h
  enumerated_at_adds s line tag (Some id) e h =
      let a = counted_adds s h in
      then_adds o s (state.counted s) (enumerated_at s line tag (Some id)).state a
      (replaced_adds o (state.counted s) id (tagged line (level_of s) (enumeration_type s.count) (Some (pos 0))) a.keeps.counted (inr refl) (not_counter o (tag_key tag) id (h.beside (tag_key tag) id (inr (named_has s.inner (tag_key tag) id e))) refl))

  enumerated_adds : (s : State) (line : ℕ) (tag : Option (List ℕ)) → Counted o s → Adds o s (enumerated s line tag).state
  enumerated_adds s line None h = counted_adds s h
  enumerated_adds s line (Some tag) h = enumerated_at_adds s line tag (place_here s (tag_key tag)) refl h

  parameter_keeps : (s : State) (line place : ℕ) (classes : List Storage) (name : Option (List ℕ)) (of : CType) → IfSome name IsName → Counted o s → Keeps o s (with_parameter s line place classes name of)
  parameter_keeps s line place classes None of n h = same_keeps o s h
  parameter_keeps s line place classes (Some name) of n h = declared_keeps o s name (parameter_known s line place classes of) h (name_some name n)

  defined_adds : (s : State) (tag : _) → Counted o s → Adds o s (state.defined s tag)
  defined_adds s tag h =
      record {
        keeps =
            record {
              counted = again;
              outer = refl;
              symbols = (same_keeps o s h).symbols;
              known = (same_keeps o s h).known;
              counter = λ c e. refl;
            };
        inner = (same_adds o s h).inner;
        here = λ name id e. e;
      }
    where
      again : Counted o (state.defined s tag)
      again = record { found = h.found; below = h.below; beside = h.beside; links_below = h.links_below; links_beside = h.links_beside; linked = h.linked }

  -- ---- all of them

  mutual
    pub steps_add : (s u : State) → Steps s u → Counted o s → Adds o s u
    steps_add s u Stay h = same_adds o s h
    steps_add s u (Go {t = t} first second) h = let a = steps_add s t first h in then_adds o s t u a (steps_add t u second a.keeps.counted)
    steps_add s u (Call x line name is new fits) h = function_adds s line name is h
    steps_add s u (Tag x line tag of) h = named_adds s line tag of (place_of s (tag_key tag)) h
    steps_add s u (Alone x line k tag) h = alone_adds s line k tag (place_here s (tag_key tag)) h
    steps_add s u (Open x line k tag) h = opened_adds s line k tag h
    steps_add s u (Await x line tag) h = awaited_adds s line tag h
    steps_add s u (Enumerate x line tag) h = enumerated_adds s line tag h
    steps_add s u (Enumerator x line name z is new) h = declared_adds o s name _ h (name_some name is) refl
    steps_add s u (Complete x k number members) h = defined_adds s _ h
    steps_add s u (Prototype {t = t} inside) h = left_adds o s t h (inside_keeps (entered s) t inside (entered_counted o s h))

    pub inside_keeps : (s u : State) → StepsInside s u → Counted o s → Keeps o s u
    inside_keeps s u (Plain steps) h = (steps_add s u steps h).keeps
    inside_keeps s u (GoInside {t = t} first second) h = let a = inside_keeps s t first h in then_keeps o s t u a (inside_keeps t u second a.counted)
    inside_keeps s u (Parameter x line place classes name of is) h = parameter_keeps s line place classes name of is h
