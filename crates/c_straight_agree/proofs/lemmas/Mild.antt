-- Operators that neither call nor write.
use Rattle.std.specs.Prelude.{◌≡◌, ◌⊎◌, true, false, [], ◌∷◌, List}
use Rattle.std.proofs.Common.{true≢false, refl, sym, ap, inl, inr, ◌∙◌}
use Rattle.op_forest.specs.declared.op.Op.{Op}
use Rattle.op_forest.specs.declared.op.Op.TheVariants as op
use Rattle.op_forest.specs.Nodes.{Head}
use Rattle.forests.specs.Actions.{Action, Gave, Stored, Passed, Called, Moved, Meaningless, effect_of}
use Rattle.forests.specs.Addresses.{Environment}
use Rattle.forests.specs.Alike.{AreAlike, touches_memory}
use Rattle.forests.specs.Bodies.{Setting}
use Rattle.forests.specs.Objects.{Object}
use Rattle.forests.specs.Rows.{acts}
use Rattle.forests.specs.Words.{Word}
use Rattle.forests.specs.Worlds.{World, Point, Next, Stuck, Went}
use Rattle.dag_forest.specs.Entries.{is_call, is_read}
use Rattle.c_rows_agree.specs.Stays.{IsSameAt}
use Rattle.c_rows_agree.proofs.lemmas.Staying.{read_stays}
use Rattle.c_straight_agree.specs.Settled.{IsMild}

-- it reads, or doesn't touch memory
pub mild_cases : (o : Op) (P : Type 0) → IsMild o P → ((o ≡ op.Indir) × P) ⊎ ((touches_memory o ≡ true → ⊥) × (is_read o ≡ false))
mild_cases op.Indir P h = inl (refl, h)
mild_cases op.Asgn P h = absurd h
mild_cases op.Call P h = absurd h
mild_cases o P h = inr (λ e. true≢false (sym e), refl)

pub mild_still : (o : Op) → IsMild o ⊥ → touches_memory o ≡ true → ⊥
mild_still op.Indir h e = h
mild_still op.Asgn h e = h
mild_still op.Call h e = h
mild_still o h e = true≢false (sym e)

pub mild_unread : (o : Op) → IsMild o ⊥ → is_read o ≡ false
mild_unread op.Indir h = absurd h
mild_unread op.Asgn h = absurd h
mild_unread op.Call h = absurd h
mild_unread o h = refl

pub mild_no_call : (o : Op) (P : Type 0) → IsMild o P → is_call o ≡ false
mild_no_call op.Indir P h = refl
mild_no_call op.Asgn P h = absurd h
mild_no_call op.Call P h = absurd h
mild_no_call o P h = refl

pub mild_map : (o : Op) (P Q : Type 0) → (P → Q) → IsMild o P → IsMild o Q
mild_map op.Indir P Q f h = f h
mild_map op.Asgn P Q f h = h
mild_map op.Call P Q f h = h
mild_map o P Q f h = tt

-- ---- operands that are the same

pub same_words : (a b c : Word) → a ≡ b → b ≡ c → a ≡ c
same_words a b c p q = p ∙ q

pub acts_on_one : (e : Environment) (h : Head) (os : List Object) (a b : Word) (x : Action) → a ≡ b → acts e h (b ∷ []) os ≡ x → acts e h (a ∷ []) os ≡ x
acts_on_one e h os a b x p q = ap (λ (z : Word). acts e h (z ∷ []) os) p ∙ q

pub acts_on_two : (e : Environment) (h : Head) (os : List Object) (a b c d : Word) (x : Action) → a ≡ c → b ≡ d → acts e h (c ∷ d ∷ []) os ≡ x → acts e h (a ∷ b ∷ []) os ≡ x
acts_on_two e h os a b c d x p q r = ap (λ (z : Word). acts e h (z ∷ b ∷ []) os) p ∙ ap (λ (z : Word). acts e h (c ∷ z ∷ []) os) q ∙ r

-- ---- what a read gives, where its object is the same

gave_back : (x : Action) (p : Point) (v : Word) → effect_of (λ f q. Stuck) x p ≡ Went (v ∷ []) p Next → x ≡ Gave v
gave_back (Gave u) p v e = let same : u ≡ v = cc in ap Gave same
gave_back (Stored objects) p v e = absurd (let never : ⊥ = cc in never)
gave_back (Passed w) p v e = absurd (let never : ⊥ = cc in never)
gave_back (Called valued f) p v e = absurd (let never : ⊥ = cc in never)
gave_back (Moved mv) p v e = absurd (let never : ⊥ = cc in never)
gave_back Meaningless p v e = absurd (let never : ⊥ = cc in never)

pub read_gives : (e : Environment) (h : Head) (x v : Word) (w u : World) → h.operator.op ≡ op.Indir → AreAlike w.objects u.objects → IsSameAt x w.objects u.objects → acts e h (x ∷ []) w.objects ≡ Gave v → acts e h (x ∷ []) u.objects ≡ Gave v
read_gives e h x v w u read alike at is =
    let s : Setting = record { call = λ f q. Stuck; environment = e } in
    let p : Point = record { left = 0; world = u } in
    gave_back (acts e h (x ∷ []) u.objects) p v (read_stays s h x w.objects p v read alike at is)
