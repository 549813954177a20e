-- The code that a derivation adds does what its node does, and its part stands for the node's value.
use Rattle.std.proofs.Common.{◌≡◌, ℕ, ◌+◌, ◌<◌, ◌≤◌, ⊎_elim, true, Option, List, [], ◌∷◌, ◌++◌, length, refl, sym, ap, ◌∙◌, subst, arith, append_assoc, append-nil, length-append}
use Rattle.std.proofs.lemmas.Bool.{false≢true, or_right, cases_Bool}
use Rattle.lburg_model.specs.Pattern.{MPattern, PHole, PLeaf, POne, PTwo}
use Rattle.lburg_model.specs.Derivation.{MDerivation}
use Rattle.op_forest.specs.Nodes.{Node}
use Rattle.forests.specs.Words.{Word}
use Rattle.forests.specs.Worlds.{Point, Move, Next, To, End, Effect, Went, Exits, Unfinished, Stuck, then_do, Outcome}
use Rattle.forests.specs.Bodies.{Setting}
use Rattle.forests.specs.Bodies.{evaluate}
use Rattle.forests.proofs.lemmas.Effects.{stuck_then}
use Rattle.forests.specs.Moving.{IsNext}
use Rattle.forests.proofs.lemmas.Moving.{goes_to, evaluate_next}
use Rattle.vcode.specs.Machines.{Machine}
use Rattle.vcode.specs.Execution.{State, executed}
use Rattle.vcode.specs.VirtualCode.{among}
use Rattle.vcode.specs.Patterns.{Meeting, pattern_effect, each_of, is_chain}
use Rattle.vcode.specs.RuleSets.{Rules, Stands, WhenNext, Gets, is_move, is_label, op_at, all_registers, AllStand, Obeys}
use Rattle.vcode.specs.Emission.{Emitted, EmittedAll, Emits, ByChain, ByRule, EmitsAll, Nothing, OneMore}
use Rattle.vcode.proofs.Splits.{met, met_both, each_both, splits}
use Rattle.vcode.proofs.Registers.{among_left, among_right, same_at, takes, take_all}

chain_effect : (s : Setting) (q : MPattern) (t : Node) (ws : List Word) (p : Point) → is_chain q ≡ true → pattern_effect s q t (ws ∷ []) p ≡ Went ws p Next
chain_effect s (PHole n) t ws p h = refl
chain_effect s (PLeaf op) t ws p h = absurd (false≢true h)
chain_effect s (POne op q) t ws p h = absurd (false≢true h)
chain_effect s (PTwo op q r) t ws p h = absurd (false≢true h)

went_not : (ws : List Word) (p : Point) (mv : Move) → Went ws p mv ≡ Stuck → ⊥
went_not ws p mv e = cc

to_not : (l : ℕ) → To l ≡ Next → ⊥
to_not l e = cc

end_not : (v : Option Word) → End v ≡ Next → ⊥
end_not v e = cc

-- where a tree doesn't go on behind its root, the root moves control
moves_at : (s : Setting) (t : Node) (p : Point) (ws : List Word) (p1 : Point) (mv : Move) → evaluate s t p ≡ Went ws p1 mv → (mv ≡ Next → ⊥) → is_move (op_at t) ≡ true
moves_at s t p ws p1 mv is away =
    ⊎_elim (λ moves. moves) (λ stays. absurd (away (goes_to IsNext (evaluate s t p) ws p1 mv (evaluate_next s t p stays) is)))
    (cases_Bool (is_move (op_at t)))

module _ (I P : Type 0) (m : Machine I) (rules : Rules I P) (obeys : Obeys m rules) (s : Setting) (whole : List I) where
  abbrev Held : P → (ℕ → Word) → List Word → Type 0
  Held p f ws = Stands (rules.means s p f) ws

  abbrev Below : ℕ → ℕ → Type 0
  Below n q = q < n

  less_kept : (code rest : List I) (st : State) (e : Effect) (p : P) (kept1 kept2 : ℕ → Type 0) → ((q : ℕ) → kept2 q → kept1 q) → Gets m s whole code rest st e (Held p) kept1 → Gets m s whole code rest st e (Held p) kept2
  less_kept code rest st e p kept1 kept2 less a = record { state = a.state; by = a.by; keeps = λ q h k. a.keeps q h (less q k); gives = a.gives }

  -- code whose effect ends the run, with code behind it
  left_out : (c1 c2 rest : List I) (st : State) (out : Outcome) → ((k : ℕ) → (j : ℕ) × (k + length c1 ≤ j) × (executed m s whole j (c1 ++ (c2 ++ rest)) st ≡ out)) → (k : ℕ) → (j : ℕ) × (k + length (c1 ++ c2) ≤ j) × (executed m s whole j ((c1 ++ c2) ++ rest) st ≡ out)
  left_out c1 c2 rest st out by k =
      let j = by (k + length c2) in
      (j.0, omega (arith, j.1, length-append c1 c2), ap (λ c. executed m s whole j.0 c st) (append_assoc c1 c2 rest) ∙ j.2)

  -- code, and then code that goes on from its values
  then_gets : (c1 c2 rest : List I) (st : State) (e : Effect) (go : List Word → Point → Effect) (p1 p2 : P) (kept1 kept2 : ℕ → Type 0) → ((q : ℕ) → kept2 q → kept1 q) → Gets m s whole c1 (c2 ++ rest) st e (Held p1) kept1 → (then_do e go ≡ Stuck → ⊥) → ((st1 : State) (ws : List Word) → Held p1 st1.registers ws → ((q : ℕ) → 64 ≤ q → kept1 q → st1.registers q ≡ st.registers q) → (go ws st1.point ≡ Stuck → ⊥) → Gets m s whole c2 rest st1 (go ws st1.point) (Held p2) kept2) → Gets m s whole (c1 ++ c2) rest st (then_do e go) (Held p2) kept2
  then_gets c1 c2 rest st (Went ws p Next) go p1 p2 kept1 kept2 less a ns b =
      let at = a.gives.0 in
      let x = subst (λ y. Gets m s whole c2 rest a.state (go ws y) (Held p2) kept2) at (b a.state ws a.gives.1 a.keeps (λ h. ns (ap (λ y. go ws y) (sym at) ∙ h))) in
      record {
        state = x.state;
        by = λ k. let j2 = x.by k in let j1 = a.by j2.0 in (j1.0, omega (arith, j1.1, j2.1, length-append c1 c2), ap (λ c. executed m s whole j1.0 c st) (append_assoc c1 c2 rest) ∙ j1.2 ∙ j2.2);
        keeps = λ q h k. x.keeps q h k ∙ a.keeps q h (less q k);
        gives = x.gives;
      }
  then_gets c1 c2 rest st (Went ws p (To l)) go p1 p2 kept1 kept2 less a ns b = absurd (ns refl)
  then_gets c1 c2 rest st (Went ws p (End v)) go p1 p2 kept1 kept2 less a ns b = absurd (ns refl)
  then_gets c1 c2 rest st (Exits status w) go p1 p2 kept1 kept2 less a ns b =
      record { state = a.state; by = λ k. left_out c1 c2 rest st _ a.by k; keeps = λ q h k. a.keeps q h (less q k); gives = tt }
  then_gets c1 c2 rest st (Unfinished w) go p1 p2 kept1 kept2 less a ns b =
      record { state = a.state; by = λ k. left_out c1 c2 rest st _ a.by k; keeps = λ q h k. a.keeps q h (less q k); gives = tt }
  then_gets c1 c2 rest st Stuck go p1 p2 kept1 kept2 less a ns b = absurd (ns refl)

  -- code, and no code behind it where it goes on elsewhere
  away_gets : (c1 c2 rest : List I) (st : State) (ws : List Word) (p : Point) (mv : Move) (p1 p2 : P) (kept1 kept2 : ℕ → Type 0) → ((q : ℕ) → kept2 q → kept1 q) → c2 ≡ [] → ((h : Type 0) → WhenNext mv h) → Gets m s whole c1 (c2 ++ rest) st (Went ws p mv) (Held p1) kept1 → Gets m s whole (c1 ++ c2) rest st (Went ws p mv) (Held p2) kept2
  away_gets c1 c2 rest st ws p mv p1 p2 kept1 kept2 less none away a =
      let b = subst (λ c. Gets m s whole c1 (c ++ rest) st (Went ws p mv) (Held p1) kept1) none a in
      subst (λ c. Gets m s whole c rest st (Went ws p mv) (Held p2) kept2) (sym (append-nil c1) ∙ ap (λ c. c1 ++ c) (sym none))
      (record { state = b.state; by = b.by; keeps = λ q h k. b.keeps q h (less q k); gives = (b.gives.0, away _) })

  -- a chain rule's code behind code that goes on from its values, and none behind code that goes on elsewhere
  chain_gets : (c1 c2 rest : List I) (st : State) (e : Effect) (p1 p2 : P) (kept1 kept2 : ℕ → Type 0) → ((q : ℕ) → kept2 q → kept1 q) → Gets m s whole c1 (c2 ++ rest) st e (Held p1) kept1 → (e ≡ Stuck → ⊥) → ((ws : List Word) (p : Point) (mv : Move) → e ≡ Went ws p mv → (mv ≡ Next → ⊥) → c2 ≡ []) → ((st1 : State) (ws : List Word) → Held p1 st1.registers ws → Gets m s whole c2 rest st1 (Went ws st1.point Next) (Held p2) kept2) → Gets m s whole (c1 ++ c2) rest st e (Held p2) kept2
  chain_gets c1 c2 rest st (Went ws p Next) p1 p2 kept1 kept2 less a ns silent b =
      then_gets c1 c2 rest st (Went ws p Next) (λ us y. Went us y Next) p1 p2 kept1 kept2 less a ns (λ st1 us held kept ns1. b st1 us held)
  chain_gets c1 c2 rest st (Went ws p (To l)) p1 p2 kept1 kept2 less a ns silent b = away_gets c1 c2 rest st ws p (To l) p1 p2 kept1 kept2 less (silent ws p (To l) refl (to_not l)) (λ h. tt) a
  chain_gets c1 c2 rest st (Went ws p (End v)) p1 p2 kept1 kept2 less a ns silent b = away_gets c1 c2 rest st ws p (End v) p1 p2 kept1 kept2 less (silent ws p (End v) refl (end_not v)) (λ h. tt) a
  chain_gets c1 c2 rest st (Exits status w) p1 p2 kept1 kept2 less a ns silent b =
      record { state = a.state; by = λ k. left_out c1 c2 rest st _ a.by k; keeps = λ q h k. a.keeps q h (less q k); gives = tt }
  chain_gets c1 c2 rest st (Unfinished w) p1 p2 kept1 kept2 less a ns silent b =
      record { state = a.state; by = λ k. left_out c1 c2 rest st _ a.by k; keeps = λ q h k. a.keeps q h (less q k); gives = tt }
  chain_gets c1 c2 rest st Stuck p1 p2 kept1 kept2 less a ns silent b = absurd (ns refl)

  stand_more : (ps : List P) (p : P) (f : ℕ → Word) (vs : List (List Word)) (ws : List Word) → AllStand rules s ps f vs → Held p f ws → AllStand rules s (ps ++ p ∷ []) f (vs ++ ws ∷ [])
  stand_more [] p f [] ws a h = (h, tt)
  stand_more [] p f (us ∷ vs) ws a h = absurd a
  stand_more (x ∷ ps) p f [] ws a h = absurd a
  stand_more (x ∷ ps) p f (us ∷ vs) ws a h = (a.0, stand_more ps p f vs ws a.1 h)

  stand_kept : (ps : List P) (f g : ℕ → Word) (vs : List (List Word)) → ((r : ℕ) → among r (all_registers rules ps) ≡ true → f r ≡ g r) → AllStand rules s ps g vs → AllStand rules s ps f vs
  stand_kept [] f g [] same a = tt
  stand_kept [] f g (ws ∷ vs) same a = absurd a
  stand_kept (p ∷ ps) f g [] same a = absurd a
  stand_kept (p ∷ ps) f g (ws ∷ vs) same a = (
    subst (λ v. Stands v ws) (sym (obeys.local s p f g (same_at (rules.registers p) f g (λ r h. same r (among_left r (rules.registers p) (all_registers rules ps) h))))) a.0,
    stand_kept ps f g vs (λ r h. same r (among_right r (rules.registers p) (all_registers rules ps) h)) a.1,
  )

  abbrev One : Node → ℕ → Emitted I P → Type 0
  One t n e = (rest : List I) (st : State) → (evaluate s t st.point ≡ Stuck → ⊥) → Gets m s whole e.code rest st (evaluate s t st.point) (Held e.part) (Below n)

  abbrev Each : List Meeting → ℕ → EmittedAll I P → Type 0
  Each ms n es = (code rest : List I) (st : State) (go : List (List Word) → Point → Effect) (p : P) → (each_of s (met ms) st.point go ≡ Stuck → ⊥) → ((st1 : State) (vs : List (List Word)) → AllStand rules s es.parts st1.registers vs → (go vs st1.point ≡ Stuck → ⊥) → Gets m s whole code rest st1 (go vs st1.point) (Held p) (Below n)) → Gets m s whole (es.code ++ code) rest st (each_of s (met ms) st.point go) (Held p) (Below n)

  mutual
    pub one_follows : {x : MDerivation} {t : Node} {n : ℕ} {e : Emitted I P} → Emits rules x t n e → 64 ≤ n → One t n e
    one_follows (ByChain {number} {row} {x} {t} {n} {e} one chain a) low rest st ns =
        let code = rules.code number t (e.part ∷ []) e.to in
        let part = rules.part number t (e.part ∷ []) e.to in
        let least = (takes m rules obeys one).low in
        chain_gets e.code code rest st (evaluate s t st.point) e.part part (Below n) (Below n) (λ q k. k) (one_follows one low (code ++ rest) st ns) ns
        (λ ws p mv is away. obeys.silent number row t (e.part ∷ []) e.to a chain (or_right (is_label (op_at t)) (is_move (op_at t)) (moves_at s t st.point ws p mv is away)))
        (λ st1 ws held.
        let is = chain_effect s row.pattern t ws st1.point chain in
        less_kept code rest st1 (Went ws st1.point Next) part (λ q. q ≡ e.to → ⊥) (Below n) (λ q below at. absurd (omega (arith, least, below, at)))
        (subst (λ ef. Gets m s whole code rest st1 ef (Held part) (λ q. q ≡ e.to → ⊥)) is
        (obeys.acts s whole rest st1 number row t (e.part ∷ []) e.to (ws ∷ []) a (held, tt) (λ h. went_not ws st1.point Next (sym is ∙ h)))))
    one_follows (ByRule {number} {row} {xs} {meetings} {t} {n} {es} all fits plain a) low rest st ns =
        let code = rules.code number t es.parts es.next in
        let part = rules.part number t es.parts es.next in
        let least = (take_all m rules obeys all).low in
        let split = splits s row.pattern t meetings st.point (obeys.ordered a.place row a.row_is) plain fits ns in
        subst (λ ef. Gets m s whole (es.code ++ code) rest st ef (Held part) (Below n)) (sym split)
        (all_follow all low code rest st (λ vs p. pattern_effect s row.pattern t vs p) part (λ h. ns (split ∙ h))
        (λ st1 vs stand ns1.
        less_kept code rest st1 (pattern_effect s row.pattern t vs st1.point) part (λ q. q ≡ es.next → ⊥) (Below n) (λ q below at. absurd (omega (arith, least, below, at)))
        (obeys.acts s whole rest st1 number row t es.parts es.next vs a stand ns1)))

    pub all_follow : {xs : List MDerivation} {ms : List Meeting} {n : ℕ} {es : EmittedAll I P} → EmitsAll rules xs ms n es → 64 ≤ n → Each ms n es
    all_follow (Nothing {n}) low code rest st go p ns b = b st [] tt ns
    all_follow (OneMore {xs} {meetings} {x} meeting {n} {es} {e} all one) low code rest st go p ns b =
        let t = meeting.1 in
        let taken = take_all m rules obeys all in
        let least = taken.low in
        let more : List (List Word) → Point → Effect = λ vs p1. then_do (evaluate s t p1) (λ ws p2. go (vs ++ ws ∷ []) p2) in
        let same : each_of s (met (meetings ++ meeting ∷ [])) st.point go ≡ each_of s (met meetings) st.point more = ap (λ ts. each_of s ts st.point go) (met_both meetings (meeting ∷ [])) ∙ each_both s (met meetings) (t ∷ []) st.point go in
        subst (λ ef. Gets m s whole ((es.code ++ e.code) ++ code) rest st ef (Held p) (Below n)) (sym same)
        (subst (λ c. Gets m s whole c rest st (each_of s (met meetings) st.point more) (Held p) (Below n)) (sym (append_assoc es.code e.code code))
        (all_follow all low (e.code ++ code) rest st more p (λ h. ns (same ∙ h))
        (λ st1 vs stand ns1.
        then_gets e.code code rest st1 (evaluate s t st1.point) (λ ws p2. go (vs ++ ws ∷ []) p2) e.part p (Below es.next) (Below n) (λ q below. omega (arith, below, least))
        (one_follows one (omega (arith, low, least)) (code ++ rest) st1 (stuck_then (evaluate s t st1.point) (λ ws p2. go (vs ++ ws ∷ []) p2) ns1)) ns1
        (λ st2 ws held kept ns2.
        b st2 (vs ++ ws ∷ [])
        (stand_more es.parts e.part st2.registers vs ws
        (stand_kept es.parts st2.registers st1.registers vs (λ r h. let c = taken.registers r h in let above = c.0 in kept r (omega (arith, low, above)) c.1) stand) held)
        ns2))))
