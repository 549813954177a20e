-- What the loop over external declarations keeps, and how it ends.
use Rattle.std.proofs.Common.{◌≡◌, ◌++◌, ℕ, Bool, true, false, Option, None, Some, IfSome, IfNone, List, [], ◌∷◌, map, refl, sym, subst, ◌∙◌, arith}
use Rattle.std.specs.Option.{is_some}
use Rattle.c_ast.specs.Lexemes.{Placed}
use Rattle.c_ast.specs.Trees.{ExternalTree}
use Rattle.c_readings.specs.Reading.{State}
use Rattle.c_readings.specs.UnitReaders.{some_externals, is_left}
use Rattle.c_expr.specs.State.{MParser}
use Rattle.c_decl.specs.Going.{Goes}

-- ---- how many tokens they have at least, and whether the next is the first

abbrev pub least_of : {A : Type 0} → List A → ℕ
least_of [] = 0
least_of (x ∷ xs) = 1

abbrev pub FirstOf : {A : Type 0} → Bool → List A → Type 0
FirstOf b [] = b ≡ true
FirstOf b (x ∷ xs) = b ≡ false

pub first_of_none : {A : Type 0} (b : Bool) (xs : List A) → FirstOf b xs → b ≡ true → xs ≡ []
first_of_none b [] h e = refl
first_of_none b (x ∷ xs) h e = let g : true ≡ false = sym e ∙ h in absurd cc

pub some_of_first : {A : Type 0} (b : Bool) (xs : List A) → FirstOf b xs → b ≡ false → least_of xs ≡ 1
some_of_first b [] h e = let g : true ≡ false = sym h ∙ e in absurd cc
some_of_first b (x ∷ xs) h e = refl

pub one_more : {A : Type 0} (xs : List A) (x : A) → FirstOf false (xs ++ (x ∷ []))
one_more [] x = refl
one_more (y ∷ xs) x = refl

pub least_one : {A : Type 0} (xs : List A) (x : A) → least_of (xs ++ (x ∷ [])) ≡ 1
least_one [] x = refl
least_one (y ∷ xs) x = refl

-- an item more takes a token, so one was taken
pub goes_one_more : {A : Type 0} (xs : List A) (x : A) (p q r : MParser) → Goes (least_of xs) p q → Goes 1 q r → Goes (least_of (xs ++ (x ∷ []))) p r
goes_one_more xs x p q r g h = subst (λ (n : ℕ). Goes n p r) (sym (least_one xs x)) (h.0, h.1 ∙ g.1, h.2 ∙ g.2, omega (arith, g.3, h.3), omega (arith, g.4, h.4))

-- externals that are some make a unit
pub some_unit : (line : ℕ) (xs : List ExternalTree) (s : State) → least_of xs ≡ 1 → some_externals line xs s ≡ Some (record { line = line; externals = xs }, s)
some_unit line [] s h = absurd cc
some_unit line (x ∷ xs) s h = refl

pub no_unit : (line : ℕ) (xs : List ExternalTree) (s : State) → xs ≡ [] → some_externals line xs s ≡ None
no_unit line xs s e = rw e refl

pub least_map : {A B : Type 0} (f : A → B) (xs : List A) → least_of xs ≡ 1 → least_of (map f xs) ≡ 1
least_map f [] h = absurd cc
least_map f (x ∷ xs) h = refl

-- ---- whether a token is left

pub left_next : {V : Type 0} (f : V → Placed) (ts us : List Placed) (o : Option V) (b : Bool) → IfSome o (λ t. ts ≡ f t ∷ us) → IfNone o (ts ≡ []) → b ≡ is_some o → is_left ts ≡ b
left_next f ts us None b h k e = rw k (sym e)
left_next f ts us (Some t) b h k e = rw h (sym e)
