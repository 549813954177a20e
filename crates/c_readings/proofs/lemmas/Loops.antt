-- Loops that read a list item by item: what was read so far, and what is left.
use Rattle.std.proofs.Common.{◌≡◌, ◌<◌, ◌+◌, ◌++◌, ℕ, zero, suc, length, Bool, true, false, None, Some, List, [], ◌∷◌, map, refl, sym, ap, ◌∙◌, arith}
use Rattle.std.proofs.lemmas.List.{append_assoc, append-nil, map-append}
use Rattle.c_ast.specs.Marks.{IsSign}
use Rattle.c_ast.specs.Signs.{comma_sign}
use Rattle.c_readings.specs.Reading.{State, Read, bind, gives, many, all_of, commas, answer, beyond}
use Rattle.c_readings.specs.Readers.{some_commas}

-- ---- readings one after another

pub bind_same : {A B : Type 0} (o : Read A) (f g : A → State → Read B) → ((x : A) (s : State) → f x s ≡ g x s) → bind o f ≡ bind o g
bind_same None f g h = refl
bind_same (Some p) f g h = h p.0 p.1

pub bind_again : {A B C : Type 0} (o : Read A) (f : A → State → Read B) (g : B → State → Read C) → bind (bind o f) g ≡ bind o (λ x s. bind (f x s) g)
bind_again None f g = refl
bind_again (Some p) f g = refl

-- o is what the items xs, those that are read from s on, and k behind them give
pub record Left {A B C : Type 0} (go : B → State → Bool) (item : B → State → Read A) (next : B → A → B) (k : List A → State → Read C) (o : Read C) (xs : List A) (b : B) (s : State) : Type 0 where
  pub bound : ℕ
  pub enough : length s.rest < bound
  pub is : o ≡ bind (many go item next bound b s) (λ ys t. k (xs ++ ys) t)

pub starts : {A B C : Type 0} (go : B → State → Bool) (item : B → State → Read A) (next : B → A → B) (k : List A → State → Read C) (o : Read C) (b : B) (s : State) → o ≡ bind (all_of go item next b s) k → Left go item next k o [] b s
starts go item next k o b s h = record { bound = length s.rest + 1; enough = omega arith; is = h }

-- behind a first item
pub starts_behind : {A B C : Type 0} (go : B → State → Bool) (item : B → State → Read A) (next : B → A → B) (k : List A → State → Read C) (o : Read C) (x : A) (b : B) (s : State) → o ≡ bind (all_of go item next b s) (λ ys t. k (x ∷ ys) t) → Left go item next k o (x ∷ []) b s
starts_behind go item next k o x b s h = record { bound = length s.rest + 1; enough = omega arith; is = h }

read_one : {A B : Type 0} (go : B → State → Bool) (item : B → State → Read A) (next : B → A → B) (m : ℕ) (b : B) (s : State) (x : A) (t : State) → go b s ≡ true → item b s ≡ Some (x, t) → many go item next (suc m) b s ≡ bind (many go item next m (next b x) t) (λ ys u. gives (x ∷ ys) u)
unfolding many
read_one go item next m b s x t g i = rw (g, i) refl

read_none : {A B : Type 0} (go : B → State → Bool) (item : B → State → Read A) (next : B → A → B) (m : ℕ) (b : B) (s : State) → go b s ≡ true → item b s ≡ None → many go item next (suc m) b s ≡ None
unfolding many
read_none go item next m b s g i = rw (g, i) refl

read_end : {A B : Type 0} (go : B → State → Bool) (item : B → State → Read A) (next : B → A → B) (m : ℕ) (b : B) (s : State) → go b s ≡ false → many go item next (suc m) b s ≡ Some ([], s)
unfolding many
read_end go item next m b s g = rw g refl

goes_with : {A B C : Type 0} (go : B → State → Bool) (item : B → State → Read A) (next : B → A → B) (k : List A → State → Read C) (o : Read C) (xs : List A) (b : B) (s : State) (m : ℕ) (x : A) (t : State) → length s.rest < m → o ≡ bind (many go item next m b s) (λ ys u. k (xs ++ ys) u) → go b s ≡ true → item b s ≡ Some (x, t) → length t.rest < length s.rest → Left go item next k o (xs ++ (x ∷ [])) (next b x) t
goes_with go item next k o xs b s zero x t w h g i l = absurd (omega (arith, w))
goes_with go item next k o xs b s (suc m) x t w h g i l = record {
  bound = m;
  enough = omega (arith, w, l);
  is =
      h
      ∙ ap (λ r. bind r (λ ys u. k (xs ++ ys) u)) (read_one go item next m b s x t g i)
      ∙ bind_again (many go item next m (next b x) t) (λ ys u. gives (x ∷ ys) u) (λ ys u. k (xs ++ ys) u)
      ∙ bind_same (many go item next m (next b x) t) (λ ys u. k (xs ++ (x ∷ ys)) u) (λ ys u. k ((xs ++ (x ∷ [])) ++ ys) u) (λ ys u. ap (λ zs. k zs u) (sym (append_assoc xs (x ∷ []) ys)));
}

-- an item more
pub goes : {A B C : Type 0} {go : B → State → Bool} {item : B → State → Read A} {next : B → A → B} {k : List A → State → Read C} {o : Read C} {xs : List A} {b : B} {s : State} {x : A} {t : State} → Left go item next k o xs b s → go b s ≡ true → item b s ≡ Some (x, t) → length t.rest < length s.rest → Left go item next k o (xs ++ (x ∷ [])) (next b x) t
goes {A} {B} {C} {go} {item} {next} {k} {o} {xs} {b} {s} {x} {t} h g i l = goes_with go item next k o xs b s h.bound x t h.enough h.is g i l

stops_with : {A B C : Type 0} (go : B → State → Bool) (item : B → State → Read A) (next : B → A → B) (k : List A → State → Read C) (o : Read C) (xs : List A) (b : B) (s : State) (m : ℕ) → length s.rest < m → o ≡ bind (many go item next m b s) (λ ys u. k (xs ++ ys) u) → go b s ≡ true → item b s ≡ None → o ≡ None
stops_with go item next k o xs b s zero w h g i = absurd (omega (arith, w))
stops_with go item next k o xs b s (suc m) w h g i = h ∙ ap (λ r. bind r (λ ys u. k (xs ++ ys) u)) (read_none go item next m b s g i)

-- an item that can't be read
pub stops : {A B C : Type 0} {go : B → State → Bool} {item : B → State → Read A} {next : B → A → B} {k : List A → State → Read C} {o : Read C} {xs : List A} {b : B} {s : State} → Left go item next k o xs b s → go b s ≡ true → item b s ≡ None → o ≡ None
stops {A} {B} {C} {go} {item} {next} {k} {o} {xs} {b} {s} h g i = stops_with go item next k o xs b s h.bound h.enough h.is g i

ends_with : {A B C : Type 0} (go : B → State → Bool) (item : B → State → Read A) (next : B → A → B) (k : List A → State → Read C) (o : Read C) (xs : List A) (b : B) (s : State) (m : ℕ) → length s.rest < m → o ≡ bind (many go item next m b s) (λ ys u. k (xs ++ ys) u) → go b s ≡ false → o ≡ k xs s
ends_with go item next k o xs b s zero w h g = absurd (omega (arith, w))
ends_with go item next k o xs b s (suc m) w h g = h ∙ ap (λ r. bind r (λ ys u. k (xs ++ ys) u)) (read_end go item next m b s g) ∙ ap (λ zs. k zs s) (append-nil xs)

-- no item more
pub ends : {A B C : Type 0} {go : B → State → Bool} {item : B → State → Read A} {next : B → A → B} {k : List A → State → Read C} {o : Read C} {xs : List A} {b : B} {s : State} → Left go item next k o xs b s → go b s ≡ false → o ≡ k xs s
ends {A} {B} {C} {go} {item} {next} {k} {o} {xs} {b} {s} h g = ends_with go item next k o xs b s h.bound h.enough h.is g

-- ---- lists with commas between

pub record CommasLeft {A C : Type 0} (item : State → Read A) (k : List A → State → Read C) (o : Read C) (xs : List A) (s : State) : Type 0 where
  pub left : Left (λ (b : Bool) t. answer (IsSign comma_sign) t) (λ (b : Bool) t. item (beyond t)) (λ (b : Bool) x. b) k o xs true s

pub commas_start : {A C : Type 0} (item : State → Read A) (k : List A → State → Read C) (o : Read C) (s : State) (x : A) (t : State) → o ≡ bind (some_commas item s) k → item s ≡ Some (x, t) → CommasLeft item k o (x ∷ []) t
commas_start item k o s x t h i = record {
  left = starts_behind (λ (b : Bool) u. answer (IsSign comma_sign) u) (λ (b : Bool) u. item (beyond u)) (λ (b : Bool) y. b) k o x true t
      (h
      ∙ ap (λ r. bind (bind r (λ y u. bind (commas item u) (λ ys v. gives (y ∷ ys) v))) k) i
      ∙ bind_again (commas item t) (λ ys u. gives (x ∷ ys) u) k);
}

-- from the first comma on
pub commas_on : {A C : Type 0} (item : State → Read A) (k : List A → State → Read C) (o : Read C) (s : State) (x : A) → o ≡ bind (commas item s) (λ ys u. k (x ∷ ys) u) → CommasLeft item k o (x ∷ []) s
commas_on item k o s x h = record {
  left = starts_behind (λ (b : Bool) u. answer (IsSign comma_sign) u) (λ (b : Bool) u. item (beyond u)) (λ (b : Bool) y. b) k o x true s h;
}

pub commas_go : {A C : Type 0} {item : State → Read A} {k : List A → State → Read C} {o : Read C} {xs : List A} {s : State} {x : A} {t : State} → CommasLeft item k o xs s → answer (IsSign comma_sign) s ≡ true → item (beyond s) ≡ Some (x, t) → length t.rest < length s.rest → CommasLeft item k o (xs ++ (x ∷ [])) t
commas_go h g i l = record { left = goes h.left g i l }

pub commas_stop : {A C : Type 0} {item : State → Read A} {k : List A → State → Read C} {o : Read C} {xs : List A} {s : State} → CommasLeft item k o xs s → answer (IsSign comma_sign) s ≡ true → item (beyond s) ≡ None → o ≡ None
commas_stop h g i = stops h.left g i

pub commas_end : {A C : Type 0} {item : State → Read A} {k : List A → State → Read C} {o : Read C} {xs : List A} {s : State} → CommasLeft item k o xs s → answer (IsSign comma_sign) s ≡ false → o ≡ k xs s
commas_end h g = ends h.left g

-- nothing is read where nothing is read with an item before it
pub before_none : {A : Type 0} (x : A) (o : Read (List A)) → bind o (λ xs s. gives (x ∷ xs) s) ≡ None → o ≡ None
before_none x None h = refl
before_none x (Some p) h = absurd cc

-- ---- items as trees

pub seen_more : {A B : Type 0} (f : A → B) (xs : List A) (x : A) → map f (xs ++ (x ∷ [])) ≡ map f xs ++ (f x ∷ [])
seen_more f xs x = map-append f xs (x ∷ [])

pub one_longer : {A : Type 0} (xs : List A) (x : A) → length (xs ++ (x ∷ [])) ≡ length xs + 1
one_longer [] x = refl
one_longer (y ∷ xs) x = grind (arith, one_longer xs x)
