-- Lists of parameters beside those of a function of the table, one by one.
use Rattle.std.proofs.Common.{◌≡◌, ℕ, zero, suc, ◌<◌, Bool, false, List, [], ◌∷◌, length, get_or, refl, ap, ◌∙◌, arith}
use Rattle.std.specs.Prelude.{◌&&◌}
use Rattle.c_types.specs.CType.{unqualified}
use Rattle.c_types.specs.Compatible.{all_compatible, all_kept, compatible}
use Rattle.c_types.specs.Table.{AreBelow, Table, type_at, types, types_in}
use Rattle.c_meaning.specs.TypeRows.{types_of}
use Rattle.c_check_expr.specs.declared.parts.NamedParameter.{NamedParameter}
use Rattle.c_check_expr.specs.PartsSeen.{AreParametersIn, parameters_seen}
use Rattle.c_check_decl.proofs.JoinedTests.{and_false}

-- ---- places

pub place_below : (n : ℕ) (ids : List ℕ) (i d : ℕ) → AreBelow n ids → i < length ids → get_or ids i d < n
place_below n [] i d h l = absurd (omega arith)
place_below n (id ∷ ids) zero d h l = h.0
place_below n (id ∷ ids) (suc i) d h l = place_below n ids i d h.1 (omega arith)

pub at_below : (n : ℕ) (ps : List NamedParameter) (i : ℕ) (d : NamedParameter) → AreParametersIn n ps → i < length ps → (get_or ps i d).of < n
at_below n [] i d h l = absurd (omega arith)
at_below n (p ∷ ps) zero d h l = h.0
at_below n (p ∷ ps) (suc i) d h l = at_below n ps i d h.1 (omega arith)

pub parameter_below : (n : ℕ) (ps : List NamedParameter) (i : ℕ) (p : NamedParameter) → AreParametersIn n ps → i < length ps → p ≡ get_or ps i p → p.of < n
parameter_below n ps i p h l e = (let b = at_below n ps i p h l in let g = ap (λ (q : NamedParameter). q.of) e in omega (arith, b, g))

-- ---- the promotions keep them

abbrev pub kept_from : Table → List NamedParameter → Bool
kept_from t ps = all_kept (types_of (parameters_seen t ps))

-- ---- they are compatible with those of a function

abbrev pub fit_from : Table → List NamedParameter → List ℕ → Bool
fit_from t ps ids = all_compatible (types_of (parameters_seen t ps)) (types_in (types t) ids)

pub numbers_differ : (t : Table) (ps : List NamedParameter) (ids : List ℕ) → (length ps ≡ length ids → ⊥) → fit_from t ps ids ≡ false
numbers_differ t [] [] n = absurd (n refl)
numbers_differ t [] (id ∷ ids) n = refl
numbers_differ t (p ∷ ps) [] n = refl
numbers_differ t (p ∷ ps) (id ∷ ids) n =
    let c = compatible (unqualified (type_at t p.of)) (unqualified (type_at t id)) in
    ap (λ z. c && z) (numbers_differ t ps ids (λ e. n (ap suc e))) ∙ and_false c
