-- Truths of tests: as values they hold as they are; turned round; and what follows them.
use Rattle.std.specs.Prelude.{◌≡◌, ℕ, Bool, true, false, not, List, Ok, Err, Result as Checked, if◌then◌else◌}
use Rattle.std.proofs.Common.{refl, sym, ap, subst, ◌∙◌}
use Rattle.lcc_base.specs.declared.cause.Cause.{Cause}
use Rattle.objects.specs.declared.value.Value.{Value}
use Rattle.objects.specs.Arithmetic.{integer_tested}
use Rattle.objects.specs.Objects.{Object as Old}
use Rattle.objects.specs.Pointers as pointer
use Rattle.forests.specs.Worlds.{World, Outcome}
use Rattle.c_types.specs.CType.{CType}
use Rattle.c_meaning.specs.Types.{is_pointer}
use Rattle.c_runs.specs.Expressions.{holds, inverted}
use Rattle.c_runs.specs.Outcomes.{How, Undefined, OutOfTurns, Exit, Result, Gives, GivesNone, Ends, then_give, truth, tells, branch}
use Rattle.c_runs.specs.Worlds as c
use Rattle.c_match.specs.Ranges.{Map}
use Rattle.piece_runs.specs.Pieces.{Front}
use Rattle.c_expr_agreement.specs.Scenes.{Scene}
use Rattle.lowered_forms.specs.Lows.{Low}
use Rattle.c_tests_agree.specs.Tested.{Label, jumps, PassedBy, WentTo}

-- ---- as values

holds_by : (os : List Old) (is pointed : Bool) → (if pointed then pointer.tested os (truth is) else integer_tested (truth is)) ≡ Ok is
holds_by os true true = refl
holds_by os true false = refl
holds_by os false true = refl
holds_by os false false = refl

-- 1 or 0 holds as it is, of whatever type it is taken
pub holds_truth : (of : CType) (os : List Old) (is : Bool) → holds of os (truth is) ≡ Ok is
holds_truth of os is = holds_by os is (is_pointer of)

pub told_so : (of : CType) (is : Bool) (line k : ℕ) (old : c.World) → tells (holds of (c.objects old) (truth is)) line k old ≡ Gives (truth is) k old
told_so of is line k old = ap (λ (x : Checked Bool Cause). tells x line k old) (holds_truth of (c.objects old) is)

turned : (is : Bool) (k : ℕ) (old : c.World) → branch (truth is) (λ j w. Gives (truth false) j w) (λ j w. Gives (truth true) j w) k old ≡ Gives (truth (not is)) k old
turned true k old = refl
turned false k old = refl

jumps_turned : (when is : Bool) → jumps (not when) is ≡ jumps when (not is)
jumps_turned true true = refl
jumps_turned true false = refl
jumps_turned false true = refl
jumps_turned false false = refl

-- ---- what comes of a test

module _ (s : Scene) (start : ℕ → Outcome) (turns from : ℕ) (map : Map) (before : c.World) (first : World) where
  module _ (m p : Low) (h : Front s.body.pieces m.pieces m.entries) (q : Front s.body.pieces p.pieces p.entries) (n o : ℕ) (t : Label s n) (u : Label s o) (when also : Bool) where
    ends_alike : (how : How) (old : c.World) → WentTo s start turns from when m h n t map before first (Ends how old) → WentTo s start turns from also p q o u map before first (Ends how old)
    ends_alike (Undefined cause line) old one = tt
    ends_alike OutOfTurns old one = one
    ends_alike (Exit status) old one = one

    -- its truth is used by what follows
    pub went_then : (r : Result) (go : Value → ℕ → c.World → Result) → WentTo s start turns from when m h n t map before first r
        → ((is : Bool) (k : ℕ) (old : c.World) → r ≡ Gives (truth is) k old → PassedBy (jumps when is) s start turns from m h n t map before first old k → WentTo s start turns from also p q o u map before first (go (truth is) k old))
        → WentTo s start turns from also p q o u map before first (then_give r go)
    went_then (Gives v k old) go one next =
        subst (λ (x : Value). WentTo s start turns from also p q o u map before first (go x k old)) (sym one.1.0)
        (next one.0 k old (ap (λ (x : Value). Gives x k old) one.1.0) one.1.1)
    went_then (GivesNone line k old) go one next = absurd one
    went_then (Ends how old) go one next = ends_alike how old one

  module _ (m : Low) (h : Front s.body.pieces m.pieces m.entries) (n : ℕ) (t : Label s n) (when : Bool) where
    -- a truth that is a test's value is that of the value as a test
    pub went_told : (of : CType) (line : ℕ) (r : Result) → WentTo s start turns from when m h n t map before first r
        → WentTo s start turns from when m h n t map before first (then_give r (λ v k w. tells (holds of (c.objects w) v) line k w))
    went_told of line r one =
        went_then m m h h n n t t when when r (λ v k w. tells (holds of (c.objects w) v) line k w) one
        (λ is k old e passed. subst (λ (x : Result). WentTo s start turns from when m h n t map before first x) (sym (told_so of is line k old)) (is, (refl, passed)))

    -- what isn't so
    pub went_inverted : (r : Result) → WentTo s start turns from (not when) m h n t map before first r → WentTo s start turns from when m h n t map before first (inverted r)
    went_inverted r one =
        went_then m m h h n n t t (not when) when r (λ v k w. branch v (λ j x. Gives (truth false) j x) (λ j x. Gives (truth true) j x) k w) one
        (λ is k old e passed.
        subst (λ (x : Result). WentTo s start turns from when m h n t map before first x) (sym (turned is k old))
        (not is, (refl, subst (λ (b : Bool). PassedBy b s start turns from m h n t map before first old k) (jumps_turned when is) passed)))

-- ---- what was before

tells_gave : (checked : Checked Bool Cause) (line k j : ℕ) (w old : c.World) (v : Value) → tells checked line k w ≡ Gives v j old → (k ≡ j) × (w ≡ old)
tells_gave (Ok b) line k j w old v e = (cc, cc)
tells_gave (Err cause) line k j w old v e = absurd (let never : ⊥ = cc in never)

-- what was asked gave a value in the same world
pub asked_gave : (r : Result) (of : CType) (line j : ℕ) (v : Value) (old : c.World) → then_give r (λ x k w. tells (holds of (c.objects w) x) line k w) ≡ Gives v j old → (x : Value) × (r ≡ Gives x j old)
asked_gave (Gives x k w) of line j v old e =
    let same = tells_gave (holds of (c.objects w) x) line k j w old v e in
    (x, ap (λ (i : ℕ). Gives x i w) same.0 ∙ ap (λ (z : c.World). Gives x j z) same.1)
asked_gave (GivesNone l k w) of line j v old e = absurd (let never : ⊥ = cc in never)
asked_gave (Ends how w) of line j v old e = absurd (let never : ⊥ = cc in never)
