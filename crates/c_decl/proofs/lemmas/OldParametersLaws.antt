-- What the reader of old-style parameters gives, as lemmas for all readers that are made of it.
use Rattle.std.proofs.Common.{◌≡◌, ℕ, Bool, true, false, None, Some, List, refl, sym, ap, ◌∙◌}
use Rattle.c_ast.specs.Marks.{IsSpecifier}
use Rattle.c_ast.specs.Trees.{DeclarationTree}
use Rattle.c_readings.specs.Reading.{State, Read, answer, ask, bind, gives}
use Rattle.c_readings.specs.Readers.{readers}
use Rattle.c_readings.specs.DeclarationReaders as reader
use Rattle.c_decl.specs.OldParameters.{old_parameters}

abbrev pub ended : List DeclarationTree → State → Read (List DeclarationTree)
ended ds t = ask (IsSpecifier false) t None (gives ds t)

some_same : (p q : List DeclarationTree × State) → Some p ≡ Some q → p ≡ q
some_same p q e = cc

-- what was read, and that no specifier is behind it
ended_one : (b : Bool) (ds xs : List DeclarationTree) (u t : State) → answer (IsSpecifier false) u ≡ b → ended ds u ≡ Some (xs, t) → (ds ≡ xs) × (u ≡ t) × (b ≡ false)
ended_one true ds xs u t a h = let e : ended ds u ≡ None = rw a refl in let z : None ≡ Some (xs, t) = sym e ∙ h in absurd cc
ended_one false ds xs u t a h =
    let e : ended ds u ≡ Some (ds, u) = rw a refl in
    let q = some_same (ds, u) (xs, t) (sym e ∙ h) in
    (ap (λ (p : List DeclarationTree × State). p.0) q, ap (λ (p : List DeclarationTree × State). p.1) q, refl)

pub piece_by : (o : Read (List DeclarationTree)) (xs : List DeclarationTree) (t : State) → bind o ended ≡ Some (xs, t) → (o ≡ Some (xs, t)) × (answer (IsSpecifier false) t ≡ false)
piece_by None xs t h = absurd cc
piece_by (Some p) xs t h =
    let k = ended_one (answer (IsSpecifier false) p.1) p.0 xs p.1 t refl h in
    (ap (λ ds. Some (ds, p.1)) k.0 ∙ ap (λ u. Some (xs, u)) k.1, ap (answer (IsSpecifier false)) (sym k.1) ∙ k.2)

not_ended : (b : Bool) (ds : List DeclarationTree) (t : State) → answer (IsSpecifier false) t ≡ b → ended ds t ≡ None → answer (IsSpecifier false) t ≡ true
not_ended true ds t a h = a
not_ended false ds t a h = let e : ended ds t ≡ gives ds t = rw a refl in let z : gives ds t ≡ None = sym e ∙ h in absurd cc

behind : (o : Read (List DeclarationTree)) → bind o ended ≡ None → {A : Type 0} (k : List DeclarationTree → State → Read A) → ((ds : List DeclarationTree) (t : State) → answer (IsSpecifier false) t ≡ true → k ds t ≡ None) → bind o k ≡ None
behind None h k f = refl
behind (Some p) h k f = f p.0 p.1 (not_ended (answer (IsSpecifier false) p.1) p.0 p.1 refl h)

-- nothing is read where the declarations or what is behind them can't be, if that begins with no specifier
pub none_behind : (n : ℕ) (s : State) → old_parameters n s ≡ None → {A : Type 0} (k : List DeclarationTree → State → Read A) → ((ds : List DeclarationTree) (t : State) → answer (IsSpecifier false) t ≡ true → k ds t ≡ None) → bind (reader.declarations readers n s) k ≡ None
none_behind n s h k f = behind (reader.declarations readers n s) h k f
