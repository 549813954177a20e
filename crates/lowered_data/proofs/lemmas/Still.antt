-- Expressions that neither call nor change anything depend on the objects that live alone, and leave the world as it is.
use Rattle.std.specs.Prelude.{◌≡◌, ℕ, Bool, true, false, ◌&&◌, List, Option, Some, None, slice_get, pos, Result as Checked, Ok, Err}
use Rattle.std.proofs.Common.{refl, ap, sym, ◌∙◌}
use Rattle.lcc_base.specs.declared.cause.Cause.{Cause}
use Rattle.objects.specs.declared.value.Value.{Value}
use Rattle.objects.specs.declared.value.Value.TheVariants.{Function, Number}
use Rattle.objects.specs.Objects.{Object}
use Rattle.objects.specs.Arithmetic.{unary_value, binary_value}
use Rattle.objects.specs.Conversions.{converted}
use Rattle.objects.specs.Pointers.{moved, subtracted}
use Rattle.c_meaning.specs.declared.core_expr.CoreKind.TheVariants as kind
use Rattle.c_meaning.specs.declared.core_expr.Conversion.TheVariants as to
use Rattle.c_meaning.specs.CoreTrees.{Core, NoCore, Cores, type_of, line_of}
use Rattle.c_meaning.specs.Values.{CoreTree}
use Rattle.c_runs.specs.Worlds.{World, objects}
use Rattle.c_runs.specs.Outcomes.{Result, Gives, GivesNone, Ends, then_give, then_drop, gives, tells, truth, either, branch, is_true}
use Rattle.c_runs.specs.Places.{place_of_object, place_of_text}
use Rattle.c_runs.specs.Calls.{Setting, built_in_number}
use Rattle.c_runs.specs.Expressions.{eval, place, asked, holds, compared_by, moved_among}
use Rattle.lowered_data.specs.Still.{is_still}

-- the same in another world
abbrev pub in_world : World → Result → Result
in_world w (Gives v k x) = Gives v k w
in_world w (GivesNone line k x) = GivesNone line k w
in_world w (Ends how x) = Ends how w

-- in worlds of the same objects it gives the same, and each time leaves the world as it is
pub record IsStill (act : ℕ → World → Result) : Type 0 where
  pub by : (k : ℕ) (w x : World) → objects w ≡ objects x → act k x ≡ in_world x (act k w)

-- ---- combinators

world_is : (v : Value) (k : ℕ) (y w : World) → ◌≡◌ {A = Result} (Gives v k y) (Gives v k w) → y ≡ w
world_is v k y w e = cc

none_is : (line k : ℕ) (y w : World) → ◌≡◌ {A = Result} (GivesNone line k y) (GivesNone line k w) → y ≡ w
none_is line k y w e = cc

given : (w x : World) (r : Result) (go : Value → ℕ → World → Result) → objects w ≡ objects x → r ≡ in_world w r → ((v : Value) → IsStill (go v)) → then_give (in_world x r) go ≡ in_world x (then_give r go)
given w x (Gives v k y) go e s g = (g v).by k w x e ∙ ap (λ (z : World). in_world x (go v k z)) (sym (world_is v k y w s))
given w x (GivesNone line k y) go e s g = refl
given w x (Ends how y) go e s g = refl

give_still : (act : ℕ → World → Result) (go : Value → ℕ → World → Result) → IsStill act → ((v : Value) → IsStill (go v)) → IsStill (λ k w. then_give (act k w) go)
give_still act go a g = record { by = λ k w x e. ap (λ r. then_give r go) (a.by k w x e) ∙ given w x (act k w) go e (a.by k w w refl) g }

dropped : (w x : World) (r : Result) (go : ℕ → World → Result) → objects w ≡ objects x → r ≡ in_world w r → IsStill go → then_drop (in_world x r) go ≡ in_world x (then_drop r go)
dropped w x (Gives v k y) go e s g = g.by k w x e ∙ ap (λ (z : World). in_world x (go k z)) (sym (world_is v k y w s))
dropped w x (GivesNone line k y) go e s g = g.by k w x e ∙ ap (λ (z : World). in_world x (go k z)) (sym (none_is line k y w s))
dropped w x (Ends how y) go e s g = refl

drop_still : (act : ℕ → World → Result) (go : ℕ → World → Result) → IsStill act → IsStill go → IsStill (λ k w. then_drop (act k w) go)
drop_still act go a g = record { by = λ k w x e. ap (λ r. then_drop r go) (a.by k w x e) ∙ dropped w x (act k w) go e (a.by k w w refl) g }

value_still : (v : Value) → IsStill (λ k w. Gives v k w)
value_still v = record { by = λ k w x e. refl }

none_still : (line : ℕ) → IsStill (λ k w. GivesNone line k w)
none_still line = record { by = λ k w x e. refl }

given_one : (c : Checked Value Cause) (line k : ℕ) (w x : World) → gives c line k x ≡ in_world x (gives c line k w)
given_one (Ok v) line k w x = refl
given_one (Err cause) line k w x = refl

gives_still : (c : List Object → Checked Value Cause) (line : ℕ) → IsStill (λ k w. gives (c (objects w)) line k w)
gives_still c line = record { by = λ k w x e. ap (λ os. gives (c os) line k x) (sym e) ∙ given_one (c (objects w)) line k w x }

told_one : (c : Checked Bool Cause) (line k : ℕ) (w x : World) → tells c line k x ≡ in_world x (tells c line k w)
told_one (Ok b) line k w x = refl
told_one (Err cause) line k w x = refl

tells_still : (c : List Object → Checked Bool Cause) (line : ℕ) → IsStill (λ k w. tells (c (objects w)) line k w)
tells_still c line = record { by = λ k w x e. ap (λ os. tells (c os) line k x) (sym e) ∙ told_one (c (objects w)) line k w x }

place_still : (o : Option Value) (line : ℕ) → IsStill (λ k w. place o line k w)
place_still None line = record { by = λ k w x e. refl }
place_still (Some v) line = record { by = λ k w x e. refl }

either_still : (b : Bool) (go other : ℕ → World → Result) → IsStill go → IsStill other → IsStill (λ k w. either b go other k w)
either_still true go other g o = record { by = λ k w x e. g.by k w x e }
either_still false go other g o = record { by = λ k w x e. o.by k w x e }

branch_still : (v : Value) (go other : ℕ → World → Result) → IsStill go → IsStill other → IsStill (λ k w. branch v go other k w)
branch_still v go other g o = either_still (is_true v) go other g o

asked_still : (c : CoreTree) (act : ℕ → World → Result) (line : ℕ) → IsStill act → IsStill (λ k w. asked (record { tree = c; does = act }) line k w)
asked_still c act line a = give_still act (λ v k w. tells (holds (type_of c) (objects w) v) line k w) a (λ v. tells_still (λ os. holds (type_of c) os v) line)

two_still : (a b : ℕ → World → Result) (line : ℕ) (c : List Object → Value → Value → Checked Value Cause) → IsStill a → IsStill b → IsStill (λ k w. then_give (a k w) (λ v k1 w1. then_give (b k1 w1) (λ u k2 w2. gives (c (objects w2) v u) line k2 w2)))
two_still a b line c h g = give_still a (λ v k w. then_give (b k w) (λ u k2 w2. gives (c (objects w2) v u) line k2 w2)) h (λ v. give_still b (λ u k2 w2. gives (c (objects w2) v u) line k2 w2) g (λ u. gives_still (λ os. c os v u) line))

-- ---- trees

first : (a b : Bool) → (a && b) ≡ true → a ≡ true
first true b e = refl
first false b e = absurd (let never : ⊥ = cc in never)

rest : (a b : Bool) → (a && b) ≡ true → b ≡ true
rest true b e = e
rest false b e = absurd (let never : ⊥ = cc in never)

pub eval_still : (s : Setting) (c : CoreTree) → is_still c ≡ true → IsStill (λ k w. eval s c k w)
eval_still s (Core (kind.Object n) of line NoCore) h = place_still (place_of_object s.unit n (slice_get s.unit.objects n)) line
eval_still s (Core (kind.Text n) of line NoCore) h = place_still (place_of_text s.unit n (slice_get s.unit.texts n)) line
eval_still s (Core (kind.Function n) of line NoCore) h = value_still (Function n)
eval_still s (Core (kind.BuiltIn b) of line NoCore) h = value_still (Function (built_in_number s.unit b))
eval_still s (Core (kind.Number n) of line NoCore) h = value_still (Number n)
eval_still s (Core kind.Pointed of line (Cores a NoCore)) h = give_still _ _ (eval_still s a (first (is_still a) true h)) (λ p. value_still p)
eval_still s (Core (kind.Member offset bits width) of line (Cores a NoCore)) h = give_still _ _ (eval_still s a (first (is_still a) true h)) (λ p. gives_still (λ os. moved os p (pos offset)) line)
eval_still s (Core kind.Address of line (Cores a NoCore)) h = give_still _ _ (eval_still s a (first (is_still a) true h)) (λ p. value_still p)
eval_still s (Core kind.First of line (Cores a NoCore)) h = give_still _ _ (eval_still s a (first (is_still a) true h)) (λ p. value_still p)
eval_still s (Core (kind.Convert to.Void) of line (Cores a NoCore)) h = drop_still _ _ (eval_still s a (first (is_still a) true h)) (none_still 0)
eval_still s (Core (kind.Convert to.Pointer) of line (Cores a NoCore)) h = give_still _ _ (eval_still s a (first (is_still a) true h)) (λ p. value_still p)
eval_still s (Core (kind.Convert (to.Integer x)) of line (Cores a NoCore)) h = give_still _ _ (eval_still s a (first (is_still a) true h)) (λ v. gives_still (λ os. converted x v) (line_of a))
eval_still s (Core (kind.Unary op) of line (Cores a NoCore)) h = give_still _ _ (eval_still s a (first (is_still a) true h)) (λ v. gives_still (λ os. unary_value op v) line)
eval_still s (Core kind.Not of line (Cores a NoCore)) h = give_still _ _ (asked_still a _ line (eval_still s a (first (is_still a) true h))) (λ v. branch_still v _ _ (value_still (truth false)) (value_still (truth true)))
eval_still s (Core (kind.Binary op signed) of line (Cores a (Cores b NoCore))) h = two_still _ _ line (λ os v u. binary_value signed op v u) (eval_still s a (first (is_still a) (is_still b && true) h)) (eval_still s b (first (is_still b) true (rest (is_still a) (is_still b && true) h)))
eval_still s (Core (kind.Compare op signed) of line (Cores a (Cores b NoCore))) h = two_still _ _ line (λ os v u. compared_by (type_of a) signed op os v u) (eval_still s a (first (is_still a) (is_still b && true) h)) (eval_still s b (first (is_still b) true (rest (is_still a) (is_still b && true) h)))
eval_still s (Core (kind.Move size back) of line (Cores a (Cores b NoCore))) h = two_still _ _ line (λ os v u. moved_among size back (type_of a) (type_of b) os v u) (eval_still s a (first (is_still a) (is_still b && true) h)) (eval_still s b (first (is_still b) true (rest (is_still a) (is_still b && true) h)))
eval_still s (Core (kind.Difference size) of line (Cores a (Cores b NoCore))) h = two_still _ _ line (λ os v u. subtracted os size v u) (eval_still s a (first (is_still a) (is_still b && true) h)) (eval_still s b (first (is_still b) true (rest (is_still a) (is_still b && true) h)))
eval_still s (Core kind.And of line (Cores a (Cores b NoCore))) h = give_still _ _ (asked_still a _ line (eval_still s a (first (is_still a) (is_still b && true) h))) (λ v. branch_still v _ _ (asked_still b _ line (eval_still s b (first (is_still b) true (rest (is_still a) (is_still b && true) h)))) (value_still (truth false)))
eval_still s (Core kind.Or of line (Cores a (Cores b NoCore))) h = give_still _ _ (asked_still a _ line (eval_still s a (first (is_still a) (is_still b && true) h))) (λ v. branch_still v _ _ (value_still (truth true)) (asked_still b _ line (eval_still s b (first (is_still b) true (rest (is_still a) (is_still b && true) h)))))
eval_still s (Core kind.Conditional of line (Cores a (Cores b (Cores c NoCore)))) h =
    let others = rest (is_still a) (is_still b && (is_still c && true)) h in
    give_still _ _ (asked_still a _ (line_of a) (eval_still s a (first (is_still a) (is_still b && (is_still c && true)) h)))
    (λ v. branch_still v _ _ (eval_still s b (first (is_still b) (is_still c && true) others)) (eval_still s c (first (is_still c) true (rest (is_still b) (is_still c && true) others))))
eval_still s (Core (kind.Local n register) of line kids) h = absurd (let never : ⊥ = cc in never)
eval_still s (Core kind.Read of line kids) h = absurd (let never : ⊥ = cc in never)
eval_still s (Core kind.Comma of line kids) h = absurd (let never : ⊥ = cc in never)
eval_still s (Core kind.Assign of line kids) h = absurd (let never : ⊥ = cc in never)
eval_still s (Core (kind.Change by) of line kids) h = absurd (let never : ⊥ = cc in never)
eval_still s (Core (kind.Postfix by) of line kids) h = absurd (let never : ⊥ = cc in never)
eval_still s (Core (kind.Call n) of line kids) h = absurd (let never : ⊥ = cc in never)
eval_still s (Core what of line kids) h = record { by = λ k w x e. refl }
