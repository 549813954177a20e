-- The runs of a call of forests with more and fewer steps.
use Rattle.std.specs.Prelude.{◌≡◌, ◌≤◌, ℕ, ◌+◌, ◌-◌, List, refl}
use Rattle.std.proofs.Common.{⊎_elim, sym, ap, ◌∙◌, subst, arith}
use Rattle.std.proofs.lemmas.Bool.{cases_lt}
use Rattle.forests.specs.Budgets.{with_left, with_more}
use Rattle.forests.specs.Further.{Further}
use Rattle.forests.proofs.lemmas.Further.{call_further}
use Rattle.forests.specs.Reached.{Reaches}
use Rattle.forests.specs.Units.{program_of}
use Rattle.forests.specs.Words.{Word}
use Rattle.forests.specs.Worlds.{World, Point, Move, Effect, Went, Exits, Unfinished, Stuck}
use Rattle.c_agreement.specs.Pairs.{CallPair, target_run}
use Rattle.c_agreement.specs.Told.{IsOver}
use Rattle.c_agreement.specs.Laws.{EndsOnce, StaysStuck}

-- ---- effects that are the same

pub same_words : {ws vs : List Word} {p q : Point} {m n : Move} → Went ws p m ≡ Went vs q n → ws ≡ vs
same_words e = cc

pub same_point : {ws vs : List Word} {p q : Point} {m n : Move} → Went ws p m ≡ Went vs q n → p ≡ q
same_point e = cc

pub same_move : {ws vs : List Word} {p q : Point} {m n : Move} → Went ws p m ≡ Went vs q n → m ≡ n
same_move e = cc

-- ---- more steps

pub run_further : (s : CallPair) (m d : ℕ) → Further m d (target_run s m) (target_run s (m + d))
run_further s m d = call_further (program_of s.lowered) s.source.function m d s.target

-- from so many steps to no fewer
pub run_later : (s : CallPair) (m n : ℕ) → m ≤ n → Further m (n - m) (target_run s m) (target_run s n)
run_later s m n le = let e : m + (n - m) ≡ n = omega (arith, le) in subst (λ k. Further m (n - m) (target_run s m) (target_run s k)) e (run_further s m (n - m))

-- ---- ends

-- an end with fewer steps is that with more
later_end : (m d : ℕ) (e f : Effect) → IsOver e → Further m d e f → Reaches e f
later_end m d (Went ws p mv) f over h = (p.left + d, h.1)
later_end m d (Exits status w) f over h = h
later_end m d (Unfinished w) f over h = absurd over
later_end m d Stuck f over h = absurd over

-- and the other way round
same_left : (ws : List Word) (p q : Point) (mv : Move) → p.world ≡ q.world → Went ws p mv ≡ Went ws (record q { left = p.left }) mv
same_left ws p q mv e = ap (λ (w : World). Went ws (with_left p.left w) mv) e

earlier_went : (ws vs : List Word) (p q : Point) (mv nv : Move) (d : ℕ) → Went vs q nv ≡ Went ws (with_more d p) mv → Went ws p mv ≡ Went vs (record q { left = p.left }) nv
earlier_went ws vs p q mv nv d e =
    let world : p.world ≡ q.world = sym (ap (λ (x : Point). x.world) (same_point e)) in
    same_left ws p q mv world ∙ ap (λ (x : List Word). Went x (with_left p.left q.world) mv) (sym (same_words e)) ∙ ap (λ (x : Move). Went vs (with_left p.left q.world) x) (sym (same_move e))

earlier_end : (m d : ℕ) (e f : Effect) → IsOver e → IsOver f → Further m d e f → Reaches f e
earlier_end m d (Went ws p mv) (Went vs q nv) x y h = (p.left, earlier_went ws vs p q mv nv d h.1)
earlier_end m d (Went ws p mv) (Exits status w) x y h = absurd (let never : ⊥ = (let g = h.1 in cc) in never)
earlier_end m d (Went ws p mv) (Unfinished w) x y h = absurd y
earlier_end m d (Went ws p mv) Stuck x y h = absurd y
earlier_end m d (Exits status w) f x y h = subst (λ (g : Effect). Reaches g (Exits status w)) (sym h) refl
earlier_end m d (Unfinished w) f x y h = absurd x
earlier_end m d Stuck f x y h = absurd x

pub ends_once : EndsOnce
ends_once s m n x y = ⊎_elim
    (λ lt. later_end m (n - m) _ _ x (run_later s m n (omega (arith, lt))))
    (λ ge. earlier_end n (m - n) _ _ y x (run_later s n m ge))
    (cases_lt m n)

stuck_further : (m d : ℕ) (e f : Effect) → e ≡ Stuck → Further m d e f → f ≡ Stuck
stuck_further m d e f is h = subst (λ (x : Effect). Further m d x f) is h

pub stays_stuck : StaysStuck
stays_stuck s m n le is = stuck_further m (n - m) _ _ is (run_later s m n le)
