-- The head of a `for`: its parts in order, each of which may be missing.
use Rattle.std.proofs.Common.{◌≡◌, ℕ, Option, Some, None, length, refl, sym, ap, ◌∙◌}
use Rattle.std.specs.Prelude.{Result, Ok, Err, IsErrAnd}
use Rattle.c_ast.specs.Trees.{MaybeExpr}
use Rattle.c_symbols.specs.Scoping.{Scoping}
use Rattle.c_types.specs.Table.{Table, Extends}
use Rattle.c_meaning.specs.CoreTrees.{CoreOf}
use Rattle.c_meaning.specs.State.{State}
use Rattle.c_meaning.specs.StmtTrees.{IsSomeIn}
use Rattle.c_meaning.specs.Typing.{Outcome, Fine, maybe_typed, then_do}
use Rattle.c_meaning.specs.Values.{CoreTree}
use Rattle.c_values.specs.Stays.{in_later}
use Rattle.c_values.specs.declared.check_fault.CheckFault.{CheckFault}
use Rattle.c_check_expr.specs.Kept.{keeps_itself}
use Rattle.c_check_expr.specs.Known.{state_of}
use Rattle.c_check_expr.specs.PartsSeen.{IsSizeIn, size_seen}
use Rattle.c_check_expr.specs.TypedIn.{maybe_expr_in}
use Rattle.c_check_expr.proofs.lemmas.Walking.{first_stops, walk_as, walk_then}
use Rattle.c_check_expr.proofs.lemmas.WalkLists.{then_same, then_then}
use Rattle.c_check_expr.specs.Walks.{Walks}
use Rattle.c_check_decl.proofs.lemmas.StmtsStay.{maybe_stays}
use Rattle.c_meaning.specs.declared.core_stmt.CoreForHead.{CoreForHead}
use Rattle.c_stmt_parts.specs.Asked.{maybe_core}
use Rattle.c_stmt_parts.specs.Heads.{Heads, IsHeadIn, head_in, head_typed_in}

-- ---- an expression that may be missing

core_is : (t : Table) (v : Option (CoreOf ℕ)) → size_seen t v ≡ maybe_core t v
core_is t None = refl
core_is t (Some c) = refl

some_in : (n : ℕ) (v : Option (CoreOf ℕ)) → IsSizeIn n v → IsSomeIn n v
some_in n None i = tt
some_in n (Some c) i = i

pub maybe_walk : {o : Outcome (Option CoreTree)} {s u : Scoping} {a b : Table} (r : Result (Option (CoreOf ℕ)) CheckFault) → Walks size_seen IsSizeIn o s a u b r → Walks maybe_core IsSomeIn o s a u b r
maybe_walk {u = u} {b = b} (Ok v) w = record { ok = w.ok ∙ ap (Fine (state_of u b)) (core_is b v); err = tt; within = some_in (length b.forms) v w.within; keeps = w.keeps }
maybe_walk (Err e) w = record { ok = tt; err = w.err; within = tt; keeps = w.keeps }

pub some_later : (a b : Table) → Extends a b → (v : Option (CoreOf ℕ)) → IsSomeIn (length a.forms) v → IsSomeIn (length b.forms) v
some_later a b h None i = tt
some_later a b h (Some c) i = in_later a b h c i

-- ---- the head

pub head_stays : (a b : Table) → Extends a b → (h : CoreForHead) → IsHeadIn (length a.forms) h → head_in b h ≡ head_in a h
head_stays a b e h i = rw (maybe_stays a b e h.first i.first, maybe_stays a b e h.test i.test, maybe_stays a b e h.last i.last) refl

pub head_later : (a b : Table) → Extends a b → (h : CoreForHead) → IsHeadIn (length a.forms) h → IsHeadIn (length b.forms) h
head_later a b e h i = record { first = some_later a b e h.first i.first; test = some_later a b e h.test i.test; last = some_later a b e h.last i.last }

abbrev third : Option CoreTree → Option CoreTree → State → Option CoreTree → Outcome Heads
third x y v z = Fine v (x, y, z)

abbrev second : MaybeExpr → Option CoreTree → State → Option CoreTree → Outcome Heads
second c x u y = then_do (maybe_typed u c) (third x y)

abbrev first : MaybeExpr → MaybeExpr → State → Option CoreTree → Outcome Heads
first b c m x = then_do (maybe_typed m b) (second c x)

-- what comes of each part goes on to what comes behind all of them
pub head_then : {U : Type 0} (s : Scoping) (t : Table) (a b c : MaybeExpr) (g : State → Heads → Outcome U)
    → then_do (maybe_typed (state_of s t) a) (λ m x. then_do (maybe_typed m b) (λ u y. then_do (maybe_typed u c) (λ v z. g v (x, y, z)))) ≡ then_do (head_typed_in s t a b c) g
unfolding head_typed_in
head_then s t a b c g =
    sym (then_then (maybe_typed (state_of s t) a) (first b c) g
    ∙ then_same (maybe_typed (state_of s t) a) (λ m x. then_do (first b c m x) g) (λ m x. then_do (maybe_typed m b) (λ u y. then_do (maybe_typed u c) (λ v z. g v (x, y, z))))
    (λ m x. then_then (maybe_typed m b) (second c x) g
    ∙ then_same (maybe_typed m b) (λ u y. then_do (second c x u y) g) (λ u y. then_do (maybe_typed u c) (λ v z. g v (x, y, z)))
    (λ u y. then_then (maybe_typed u c) (third x y) g)))

module _ (s : Scoping) (t : Table) (a b c : MaybeExpr) where
  head_is : head_typed_in s t a b c ≡ then_do (maybe_expr_in s t a) (first b c)
  unfolding head_typed_in maybe_expr_in
  head_is = refl

  second_is : (m : Scoping) (d : Table) (x : Option CoreTree) → first b c (state_of m d) x ≡ then_do (maybe_expr_in m d b) (second c x)
  unfolding maybe_expr_in
  second_is m d x = refl

  third_is : (u : Scoping) (d : Table) (x y : Option CoreTree) → second c x (state_of u d) y ≡ then_do (maybe_expr_in u d c) (third x y)
  unfolding maybe_expr_in
  third_is u d x y = refl

  pub head_stops : {u : Scoping} {d : Table} {e : CheckFault} (r : Result CoreForHead CheckFault) → IsErrAnd r (λ x. x ≡ e) → Walks size_seen IsSizeIn (maybe_expr_in s t a) s t u d (Err e) → Walks head_in IsHeadIn (head_typed_in s t a b c) s t u d r
  head_stops r h w = walk_as _ _ head_is (first_stops head_in IsHeadIn (maybe_expr_in s t a) (first b c) r h w)

  module _ {m : Scoping} {d : Table} {x : Option (CoreOf ℕ)} (one : Walks size_seen IsSizeIn (maybe_expr_in s t a) s t m d (Ok x)) where
    behind_one : {u : Scoping} {q : Table} (r : Result CoreForHead CheckFault) → Walks head_in IsHeadIn (first b c (state_of m d) (maybe_core d x)) m d u q r → Walks head_in IsHeadIn (head_typed_in s t a b c) s t u q r
    behind_one {u = u} {q = q} r w = walk_as _ _ head_is (walk_then head_in IsHeadIn (maybe_expr_in s t a) (first b c) s m u t d q x r (maybe_walk (Ok x) one) w)

    pub head_stops_second : {u : Scoping} {q : Table} {e : CheckFault} (r : Result CoreForHead CheckFault) → IsErrAnd r (λ y. y ≡ e) → Walks size_seen IsSizeIn (maybe_expr_in m d b) m d u q (Err e) → Walks head_in IsHeadIn (head_typed_in s t a b c) s t u q r
    head_stops_second r h w = behind_one r (walk_as _ _ (second_is m d (maybe_core d x)) (first_stops head_in IsHeadIn (maybe_expr_in m d b) (second c (maybe_core d x)) r h w))

    module _ {u : Scoping} {q : Table} {y : Option (CoreOf ℕ)} (two : Walks size_seen IsSizeIn (maybe_expr_in m d b) m d u q (Ok y)) where
      behind_two : {v : Scoping} {p : Table} (r : Result CoreForHead CheckFault) → Walks head_in IsHeadIn (second c (maybe_core d x) (state_of u q) (maybe_core q y)) u q v p r → Walks head_in IsHeadIn (head_typed_in s t a b c) s t v p r
      behind_two {v = v} {p = p} r w = behind_one r (walk_as _ _ (second_is m d (maybe_core d x)) (walk_then head_in IsHeadIn (maybe_expr_in m d b) (second c (maybe_core d x)) m u v d q p y r (maybe_walk (Ok y) two) w))

      pub head_stops_third : {v : Scoping} {p : Table} {e : CheckFault} (r : Result CoreForHead CheckFault) → IsErrAnd r (λ z. z ≡ e) → Walks size_seen IsSizeIn (maybe_expr_in u q c) u q v p (Err e) → Walks head_in IsHeadIn (head_typed_in s t a b c) s t v p r
      head_stops_third r h w = behind_two r (walk_as _ _ (third_is u q (maybe_core d x) (maybe_core q y)) (first_stops head_in IsHeadIn (maybe_expr_in u q c) (third (maybe_core d x) (maybe_core q y)) r h w))

      pub head_goes : {v : Scoping} {p : Table} {z : Option (CoreOf ℕ)} → Walks size_seen IsSizeIn (maybe_expr_in u q c) u q v p (Ok z) → Walks head_in IsHeadIn (head_typed_in s t a b c) s t v p (Ok (record { first = x; test = y; last = z }))
      head_goes {v = v} {p = p} {z = z} three =
          let i = some_later d q two.keeps.extends x (some_in (length d.forms) x one.within) in
          let j = some_in (length q.forms) y two.within in
          behind_two (Ok (record { first = x; test = y; last = z })) (walk_as _ _ (third_is u q (maybe_core d x) (maybe_core q y))
          (walk_then head_in IsHeadIn (maybe_expr_in u q c) (third (maybe_core d x) (maybe_core q y)) u v v q p p z (Ok (record { first = x; test = y; last = z })) (maybe_walk (Ok z) three)
          (record {
            ok = rw (maybe_stays q p three.keeps.extends x i, maybe_stays d q two.keeps.extends x (some_in (length d.forms) x one.within), maybe_stays q p three.keeps.extends y j) refl;
            err = tt;
            within = record { first = some_later q p three.keeps.extends x i; test = some_later q p three.keeps.extends y j; last = some_in (length p.forms) z three.within };
            keeps = keeps_itself v p three.keeps.symbols;
          })))
