-- Walks over lists: what is typed of the whole is what comes of the rest, given what came of the front.
use Rattle.std.proofs.Common.{◌≡◌, ℕ, ◌+◌, ◌<◌, ◌≤◌, List, [], ◌∷◌, ◌++◌, length, get_or, drop, refl, sym, ap, ◌∙◌, subst, append_assoc}
use Rattle.std.specs.Prelude.{Ok, Err}
use Rattle.std.proofs.lemmas.List.{append-nil, at_drop_more, at_drop_all, length-append}
use Rattle.c_symbols.specs.Scoping.{Scoping}
use Rattle.c_types.specs.Table.{Table, Extends}
use Rattle.c_meaning.specs.State.{State}
use Rattle.c_meaning.specs.Typing.{Outcome, Fine, Bad, then_do}
use Rattle.c_values.specs.declared.check_fault.CheckFault.{CheckFault}
use Rattle.c_check_expr.specs.Keeps.{Keeps}
use Rattle.c_check_expr.specs.Known.{AreSymbolsIn, state_of}
use Rattle.c_check_expr.specs.Walks.{Walks}
use Rattle.c_check_expr.specs.Kept.{keeps_itself, keeps_on}
use Rattle.c_check_expr.proofs.lemmas.Walking.{tells_first, tells_same, walk_stop}

-- ---- outcomes

pub then_same : {T U : Type 0} (o : Outcome T) (f g : State → T → Outcome U) → ((s : State) → (t : T) → f s t ≡ g s t) → then_do o f ≡ then_do o g
then_same (Fine s t) f g h = h s t
then_same (Bad x) f g h = refl

pub then_then : {T U W : Type 0} (o : Outcome T) (f : State → T → Outcome U) (g : State → U → Outcome W) → then_do (then_do o f) g ≡ then_do o (λ s t. then_do (f s t) g)
then_then (Fine s t) f g = refl
then_then (Bad x) f g = refl

pub then_fine : {T : Type 0} (o : Outcome T) → then_do o (λ s t. Fine s t) ≡ o
then_fine (Fine s t) = refl
then_fine (Bad x) = refl

-- ---- a list by steps, each over what came of those before

abbrev pub folded : {A T : Type 0} → (State → T → A → Outcome T) → State → T → List A → Outcome T
folded step s t [] = Fine s t
folded step s t (x ∷ xs) = then_do (step s t x) (λ m u. folded step m u xs)

-- some of the list is behind, and this is what came of it
pub record Going {A V T : Type 0} (view : Table → V → T) (IsWithin : ℕ → V → Type 0) (step : State → T → A → Outcome T) (whole : Outcome T) (old : Scoping) (before : Table) (s : Scoping) (t : Table) (done : V) (left : List A) : Type 0 where
  pub rest : whole ≡ folded step (state_of s t) (view t done) left
  pub within : IsWithin (length t.forms) done
  pub keeps : Keeps old before s t

-- ---- lists of what stands one behind the other

module _ {A T : Type 0} (one : ℕ → State → A → Outcome T) where
  abbrev pub each : ℕ → State → List A → Outcome (List T)
  each i s [] = Fine s []
  each i s (x ∷ xs) = then_do (one i s x) (λ m c. then_do (each (i + 1) m xs) (λ u cs. Fine u (c ∷ cs)))

  abbrev pub adds : State → List T → A → Outcome (List T)
  adds s done x = then_do (one (length done) s x) (λ m c. Fine m (done ++ c ∷ []))

  pub folded_each : (s : State) (done : List T) (i : ℕ) (xs : List A) → i ≡ length done → folded adds s done xs ≡ then_do (each i s xs) (λ m cs. Fine m (done ++ cs))
  folded_each s done i [] e = ap (Fine s) (sym (append-nil done))
  folded_each s done i (x ∷ xs) e =
      then_then (one (length done) s x) (λ m c. Fine m (done ++ c ∷ [])) (λ m u. folded adds m u xs)
      ∙ then_same (one (length done) s x) (λ m c. folded adds m (done ++ c ∷ []) xs) (λ m c. then_do (each (i + 1) m xs) (λ u cs. Fine u (done ++ (c ∷ cs))))
      (λ m c. folded_each m (done ++ c ∷ []) (i + 1) xs (rw (length-append, e) refl)
      ∙ then_same (each (i + 1) m xs) (λ u cs. Fine u ((done ++ c ∷ []) ++ cs)) (λ u cs. Fine u (done ++ (c ∷ cs))) (λ u cs. ap (Fine u) (append_assoc done (c ∷ []) cs)))
      ∙ sym (then_then (one i s x) (λ m c. then_do (each (i + 1) m xs) (λ u cs. Fine u (c ∷ cs))) (λ m cs. Fine m (done ++ cs))
      ∙ then_same (one i s x) (λ m c. then_do (then_do (each (i + 1) m xs) (λ u cs. Fine u (c ∷ cs))) (λ m cs. Fine m (done ++ cs))) (λ m c. then_do (each (i + 1) m xs) (λ u cs. Fine u (done ++ (c ∷ cs))))
      (λ m c. then_then (each (i + 1) m xs) (λ u cs. Fine u (c ∷ cs)) (λ m cs. Fine m (done ++ cs)))
      ∙ ap (λ n. then_do (one n s x) (λ m c. then_do (each (i + 1) m xs) (λ u cs. Fine u (done ++ (c ∷ cs))))) e)

  pub each_is : (s : State) (xs : List A) → each 0 s xs ≡ folded adds s [] xs
  each_is s xs = sym (folded_each s [] 0 xs refl ∙ then_fine (each 0 s xs))

-- ---- loops over lists

module _ {A V T : Type 0} (view : Table → V → T) (IsWithin : ℕ → V → Type 0) (step : State → T → A → Outcome T) (whole : Outcome T) (old : Scoping) (before : Table) where
  pub going_starts : (start : V) (xs : List A) → AreSymbolsIn (length before.forms) old.symbols → IsWithin (length before.forms) start → whole ≡ folded step (state_of old before) (view before start) xs
      → Going view IsWithin step whole old before old before start xs
  going_starts start xs i w e = record { rest = e; within = w; keeps = keeps_itself old before i }

  next_is : (s : Scoping) (t : Table) (done : V) (xs : List A) (i : ℕ) (x : A) → i < length xs → x ≡ get_or xs i x → Going view IsWithin step whole old before s t done (drop i xs)
      → whole ≡ then_do (step (state_of s t) (view t done) x) (λ m u. folded step m u (drop (i + 1) xs))
  next_is s t done xs i x l e g =
      g.rest ∙ at_drop_more (folded step (state_of s t) (view t done)) xs i x l ∙ ap (λ y. folded step (state_of s t) (view t done) (y ∷ drop (i + 1) xs)) (sym e)

  pub going_on : (s u : Scoping) (t b : Table) (done v : V) (xs : List A) (i : ℕ) (x : A) → i < length xs → x ≡ get_or xs i x → Going view IsWithin step whole old before s t done (drop i xs)
      → Walks view IsWithin (step (state_of s t) (view t done) x) s t u b (Ok v) → Going view IsWithin step whole old before u b v (drop (i + 1) xs)
  going_on s u t b done v xs i x l e g w =
      record {
        rest = next_is s t done xs i x l e g ∙ ap (λ o. then_do o (λ m u. folded step m u (drop (i + 1) xs))) w.ok;
        within = w.within;
        keeps = keeps_on old s u before t b g.keeps w.keeps;
      }

  pub going_stops : (s u : Scoping) (t b : Table) (done : V) (xs : List A) (i : ℕ) (x : A) (f : CheckFault) → i < length xs → x ≡ get_or xs i x → Going view IsWithin step whole old before s t done (drop i xs)
      → Walks view IsWithin (step (state_of s t) (view t done) x) s t u b (Err f) → Walks view IsWithin whole old before u b (Err f)
  going_stops s u t b done xs i x f l e g w =
      record {
        ok = tt;
        err = tells_same f whole (then_do (step (state_of s t) (view t done) x) (λ m u. folded step m u (drop (i + 1) xs))) (next_is s t done xs i x l e g) (tells_first f (step (state_of s t) (view t done) x) (λ m u. folded step m u (drop (i + 1) xs)) w.err);
        within = tt;
        keeps = keeps_on old s u before t b g.keeps w.keeps;
      }

  pub going_ends : (s : Scoping) (t : Table) (done : V) (xs : List A) (i : ℕ) → length xs ≤ i → Going view IsWithin step whole old before s t done (drop i xs) → Walks view IsWithin whole old before s t (Ok done)
  going_ends s t done xs i l g =
      record {
        ok = g.rest ∙ at_drop_all (folded step (state_of s t) (view t done)) xs i l;
        err = tt;
        within = g.within;
        keeps = g.keeps;
      }

-- ---- lists to which what comes of each is added

-- how a list is seen, by what is seen of its elements
pub record IsSeenAsList {V T : Type 0} (view : Table → V → T) (IsWithin : ℕ → V → Type 0) (views : Table → List V → List T) (AreWithin : ℕ → List V → Type 0) : Type 0 where
  pub pushed : (t : Table) (vs : List V) (v : V) → views t (vs ++ v ∷ []) ≡ views t vs ++ view t v ∷ []
  pub counted : (t : Table) (vs : List V) → length (views t vs) ≡ length vs
  pub stay : (a b : Table) → Extends a b → (vs : List V) → AreWithin (length a.forms) vs → views b vs ≡ views a vs
  pub within : (a b : Table) → Extends a b → (vs : List V) (v : V) → AreWithin (length a.forms) vs → IsWithin (length b.forms) v → AreWithin (length b.forms) (vs ++ v ∷ [])

module _ {A V T : Type 0} (view : Table → V → T) (IsWithin : ℕ → V → Type 0) (views : Table → List V → List T) (AreWithin : ℕ → List V → Type 0) (one : ℕ → State → A → Outcome T) (whole : Outcome (List T)) (old : Scoping) (before : Table) (known : IsSeenAsList view IsWithin views AreWithin) where
  pushes : (o : Outcome T) (s u : Scoping) (t b : Table) (done : List V) (v : V) → AreWithin (length t.forms) done → Walks view IsWithin o s t u b (Ok v)
      → Walks views AreWithin (then_do o (λ m c. Fine m (views t done ++ c ∷ []))) s t u b (Ok (done ++ v ∷ []))
  pushes o s u t b done v i w =
      record {
        ok = ap (λ p. then_do p (λ m c. Fine m (views t done ++ c ∷ []))) w.ok ∙ ap (λ vs. Fine (state_of u b) (vs ++ view b v ∷ [])) (sym (known.stay t b w.keeps.extends done i)) ∙ ap (Fine (state_of u b)) (sym (known.pushed b done v));
        err = tt;
        within = known.within t b w.keeps.extends done v i w.within;
        keeps = w.keeps;
      }

  pub push_on : (s u : Scoping) (t b : Table) (done : List V) (v : V) (xs : List A) (i : ℕ) (x : A) → i < length xs → x ≡ get_or xs i x → Going views AreWithin (adds one) whole old before s t done (drop i xs)
      → Walks view IsWithin (one (length done) (state_of s t) x) s t u b (Ok v) → Going views AreWithin (adds one) whole old before u b (done ++ v ∷ []) (drop (i + 1) xs)
  push_on s u t b done v xs i x l e g w =
      going_on views AreWithin (adds one) whole old before s u t b done (done ++ v ∷ []) xs i x l e g
      (pushes (one (length (views t done)) (state_of s t) x) s u t b done v g.within (subst (λ n. Walks view IsWithin (one n (state_of s t) x) s t u b (Ok v)) (sym (known.counted t done)) w))

  pub push_stops : (s u : Scoping) (t b : Table) (done : List V) (xs : List A) (i : ℕ) (x : A) (f : CheckFault) → i < length xs → x ≡ get_or xs i x → Going views AreWithin (adds one) whole old before s t done (drop i xs)
      → Walks view IsWithin (one (length done) (state_of s t) x) s t u b (Err f) → Walks views AreWithin whole old before u b (Err f)
  push_stops s u t b done xs i x f l e g w =
      going_stops views AreWithin (adds one) whole old before s u t b done xs i x f l e g
      (walk_stop views AreWithin (one (length (views t done)) (state_of s t) x) (λ m c. Fine m (views t done ++ c ∷ [])) s u t b f (subst (λ n. Walks view IsWithin (one n (state_of s t) x) s t u b (Err f)) (sym (known.counted t done)) w))
