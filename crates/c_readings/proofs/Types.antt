-- Readers of specifiers, of type names, of parameters and of lines of members are exact.
use Rattle.std.proofs.Common.{◌≡◌, ◌≤◌, ◌+◌, suc, true, None, List, ap, length, refl, subst, sym, arith}
use Rattle.c_ast.specs.Marks.{Mark}
use Rattle.c_ast.specs.ExprMarks as marks
use Rattle.c_ast.specs.ExprMarks.{has_typedef, maybe_name}
use Rattle.c_ast.specs.Trees.{TypeNameTree, TypeNamed, SpecifiersTree, MaybeDeclarator, NoDeclarator, ADeclarator, ParameterTree, Parameter, MemberTree, Members, FieldTrees}
use Rattle.c_ast.specs.Levels.{FitsTypeName, FitsAbstract, FitsEither, FitsParameter, FitsMember}
use Rattle.c_ast.specs.Heights.{type_name_height, parameter_height, member_height}
use Rattle.c_readings.specs.Reading.{State, gives, here, put_state}
use Rattle.c_readings.specs.Readers.{Readers, specifiers, maybe_declarator, abstract_or_none, type_name, either, parameter, fields, member_above}
use Rattle.c_readings.specs.Exact.{RunsOn, Finds, IsPiece, Exact, AreExact, TypesAreExact, nothing_more}
use Rattle.c_readings.proofs.Steps.{Yields, bind_yields, if_yields, exact_yields, exact_by, nothing_ends, nothing_stops, iff_then, here_iff, put_iff, put_rest, bind_finds, if_finds_yes, here_is}
use Rattle.c_readings.proofs.Records.{MaybeFits, IsMaybe, maybe_declarator_exact, AreFields, fields_exact}
use Rattle.c_readings.proofs.Specifiers.{AreSpecifiers, specifiers_exact}

specifiers_yield : (R : Readers) → AreExact R → (s : State) → Yields (specifiers R s) (AreSpecifiers R s)
specifiers_yield R e s = exact_yields _ _ _ _ _ _ (specifiers R) (specifiers_exact R e) s

declarator_yields : (R : Readers) → AreExact R → (s : State) → Yields (maybe_declarator R true s) (IsMaybe R true s)
declarator_yields R e s = exact_yields _ _ _ _ _ _ (maybe_declarator R true) (maybe_declarator_exact R e true) s

-- ---- type names

fits_abstract : (d : MaybeDeclarator) → MaybeFits true d → abstract_or_none d ≡ true → FitsAbstract d
fits_abstract NoDeclarator f h = tt
fits_abstract (ADeclarator d) f h = (h, f)

abstract_fits : (d : MaybeDeclarator) → FitsAbstract d → MaybeFits true d × (abstract_or_none d ≡ true)
abstract_fits NoDeclarator f = (tt, refl)
abstract_fits (ADeclarator d) f = (f.1, f.0)

abbrev IsTypeName : Readers → State → TypeNameTree → State → Type 0
IsTypeName R s x t = IsPiece marks.type_name FitsTypeName nothing_more type_name_height R.limit 1 s x t

type_name_by : (R : Readers) (s : State) (ss : SpecifiersTree) (t : State) (d : MaybeDeclarator) (u : State) → AreSpecifiers R s ss t → IsMaybe R true t d u → abstract_or_none d ≡ true → IsTypeName R s (TypeNamed (here s) ss d) u
type_name_by R s ss t d u h k b =
    let l = h.low in
    let m = k.low in
    record {
      fits = (h.fits, fits_abstract d k.fits b);
      low = omega arith;
      ends = nothing_ends (TypeNamed (here s) ss d) u.rest;
      used = let a = h.used in let b = k.used in omega arith;
      runs = λ r. here_iff (marks.specifiers ss (marks.maybe_declarator true d r)) s (let a = h.used in omega arith) (iff_then (h.runs (marks.maybe_declarator true d r)) (k.runs r));
    }

type_name_yields : (R : Readers) → AreExact R → (s : State) → Yields (type_name R s) (IsTypeName R s)
unfolding type_name
type_name_yields R e s =
    bind_yields (specifiers R s) _ _ _ (specifiers_yield R e s) (λ ss t h.
    bind_yields (maybe_declarator R true t) _ _ _ (declarator_yields R e t) (λ d u k.
    if_yields (abstract_or_none d) _ _ (IsTypeName R s) (λ b. type_name_by R s ss t d u h k b) (λ b. tt)))

type_name_found : (R : Readers) → AreExact R → (s : State) (x : TypeNameTree) (r : List Mark) → FitsTypeName x → type_name_height x ≤ R.limit → RunsOn (marks.type_name x r) s → Finds (type_name R s) x r
unfolding type_name
type_name_found R e s (TypeNamed l ss d) r f w h =
    let m : List Mark = marks.maybe_declarator true d r in
    let line = here_is l (marks.specifiers ss m) s h in
    let g = abstract_fits d f.1 in
    bind_finds (specifiers R s) ss m r _ (TypeNamed l ss d) ((specifiers_exact R e).found s ss m f.0 (omega arith) (nothing_stops ss m) h.1) (λ t k.
    bind_finds (maybe_declarator R true t) d r r _ (TypeNamed l ss d) ((maybe_declarator_exact R e true).found t d r g.0 (omega arith) (nothing_stops d r) k) (λ u i.
    if_finds_yes (abstract_or_none d) (gives (TypeNamed (here s) ss d) u) None (TypeNamed l ss d) r g.1 (ap (λ n. TypeNamed n ss d) line, i)))

pub types_exact : (R : Readers) → AreExact R → TypesAreExact R
types_exact R e = record {
  specifiers = specifiers_exact R e;
  type_name = exact_by marks.type_name FitsTypeName nothing_more type_name_height R.limit 1 (type_name R) (type_name_yields R e) (λ s x r f l c h. type_name_found R e s x r f l h);
}

-- ---- parameters

fits_either : (d : MaybeDeclarator) → MaybeFits true d → either d ≡ true → FitsEither d
fits_either NoDeclarator f h = tt
fits_either (ADeclarator d) f h = (h, f)

either_fits : (d : MaybeDeclarator) → FitsEither d → MaybeFits true d × (either d ≡ true)
either_fits NoDeclarator f = (tt, refl)
either_fits (ADeclarator d) f = (f.1, f.0)

abbrev IsParameter : Readers → State → ParameterTree → State → Type 0
IsParameter R s x t = IsPiece marks.parameter FitsParameter nothing_more parameter_height R.limit 1 s x t

-- the state where its name is in force
abbrev declared : SpecifiersTree → MaybeDeclarator → State → State
declared ss d u = put_state (maybe_name d) (has_typedef ss) u

parameter_by : (R : Readers) (s : State) (ss : SpecifiersTree) (t : State) (d : MaybeDeclarator) (u : State) → AreSpecifiers R s ss t → IsMaybe R true t d u → either d ≡ true → IsParameter R s (Parameter (here s) ss d) (declared ss d u)
parameter_by R s ss t d u h k b =
    let l = h.low in
    let m = k.low in
    record {
      fits = (h.fits, fits_either d k.fits b);
      low = omega arith;
      ends = nothing_ends (Parameter (here s) ss d) (declared ss d u).rest;
      used = subst (λ us. length us + 1 ≤ length s.rest) (sym (put_rest (maybe_name d) (has_typedef ss) u)) (let a = h.used in let b = k.used in omega arith);
      runs = λ r.
          let m : List Mark = marks.put_then (maybe_name d) (has_typedef ss) r in
          here_iff (marks.specifiers ss (marks.maybe_declarator true d m)) s (let a = h.used in omega arith) (iff_then (h.runs (marks.maybe_declarator true d m)) (iff_then (k.runs m) (put_iff (maybe_name d) (has_typedef ss) r u)));
    }

parameter_yields : (R : Readers) → AreExact R → (s : State) → Yields (parameter R s) (IsParameter R s)
unfolding parameter
parameter_yields R e s =
    bind_yields (specifiers R s) _ _ _ (specifiers_yield R e s) (λ ss t h.
    bind_yields (maybe_declarator R true t) _ _ _ (declarator_yields R e t) (λ d u k.
    if_yields (either d) _ _ (IsParameter R s) (λ b. parameter_by R s ss t d u h k b) (λ b. tt)))

parameter_found : (R : Readers) → AreExact R → (s : State) (x : ParameterTree) (r : List Mark) → FitsParameter x → parameter_height x ≤ R.limit → RunsOn (marks.parameter x r) s → Finds (parameter R s) x r
unfolding parameter
parameter_found R e s (Parameter l ss d) r f w h =
    let p : List Mark = marks.put_then (maybe_name d) (has_typedef ss) r in
    let m : List Mark = marks.maybe_declarator true d p in
    let line = here_is l (marks.specifiers ss m) s h in
    let g = either_fits d f.1 in
    bind_finds (specifiers R s) ss m r _ (Parameter l ss d) ((specifiers_exact R e).found s ss m f.0 (omega arith) (nothing_stops ss m) h.1) (λ t k.
    bind_finds (maybe_declarator R true t) d p r _ (Parameter l ss d) ((maybe_declarator_exact R e true).found t d p g.0 (omega arith) (nothing_stops d p) k) (λ u i.
    if_finds_yes (either d) (gives (Parameter (here s) ss d) (declared ss d u)) None (Parameter l ss d) r g.1 (ap (λ n. Parameter n ss d) line, (put_iff (maybe_name d) (has_typedef ss) r u).0 i)))

pub parameter_exact : (R : Readers) → AreExact R → Exact marks.parameter FitsParameter nothing_more parameter_height R.limit 1 (parameter R)
parameter_exact R e = exact_by marks.parameter FitsParameter nothing_more parameter_height R.limit 1 (parameter R) (parameter_yields R e) (λ s x r f l c h. parameter_found R e s x r f l h)

-- ---- lines of members

abbrev IsMemberAbove : Readers → State → MemberTree → State → Type 0
IsMemberAbove R s x t = IsPiece marks.member FitsMember nothing_more member_height (suc R.limit) 1 s x t

member_by : (R : Readers) (s : State) (ss : SpecifiersTree) (t : State) (fs : FieldTrees) (u : State) → AreSpecifiers R s ss t → AreFields R t fs u → IsMemberAbove R s (Members (here s) ss fs) u
member_by R s ss t fs u h k =
    let l = h.low in
    let m = k.low in
    record {
      fits = (h.fits, k.fits.0, k.fits.1);
      low = omega arith;
      ends = nothing_ends (Members (here s) ss fs) u.rest;
      used = let a = h.used in let b = k.used in omega arith;
      runs = λ r. here_iff (marks.specifiers ss (marks.fields fs r)) s (let a = h.used in omega arith) (iff_then (h.runs (marks.fields fs r)) (k.runs r));
    }

member_yields : (R : Readers) → AreExact R → (s : State) → Yields (member_above R s) (IsMemberAbove R s)
unfolding member_above
member_yields R e s =
    bind_yields (specifiers R s) _ _ _ (specifiers_yield R e s) (λ ss t h.
    bind_yields (fields R t) _ _ _ (exact_yields _ _ _ _ _ _ (fields R) (fields_exact R e) t) (λ fs u k. member_by R s ss t fs u h k))

member_found : (R : Readers) → AreExact R → (s : State) (x : MemberTree) (r : List Mark) → FitsMember x → member_height x ≤ suc R.limit → RunsOn (marks.member x r) s → Finds (member_above R s) x r
unfolding member_above
member_found R e s (Members l ss fs) r f w h =
    let m : List Mark = marks.fields fs r in
    let line = here_is l (marks.specifiers ss m) s h in
    bind_finds (specifiers R s) ss m r _ (Members l ss fs) ((specifiers_exact R e).found s ss m f.0 (omega arith) (nothing_stops ss m) h.1) (λ t k.
    bind_finds (fields R t) fs r r (λ y u. gives (Members (here s) ss y) u) (Members l ss fs) ((fields_exact R e).found t fs r (f.1, f.2) (omega arith) (nothing_stops fs r) k) (λ u i.
    (ap (λ n. Members n ss fs) line, i)))

pub member_above_exact : (R : Readers) → AreExact R → Exact marks.member FitsMember nothing_more member_height (suc R.limit) 1 (member_above R)
member_above_exact R e = exact_by marks.member FitsMember nothing_more member_height (suc R.limit) 1 (member_above R) (member_yields R e) (λ s x r f l c h. member_found R e s x r f l h)
