-- Where the reading of an operand stops, that of its tree stops.
use Rattle.std.proofs.Common.{◌≡◌, ◌≤◌, ◌<◌, ◌⊎◌, ℕ, suc, ◌+◌, ◌-◌, Bool, List, [], ◌∷◌, ◌++◌, length, take, refl, sym, ap, ◌∙◌, subst, inl, inr, append_assoc, arith, length-append}
use Rattle.std.proofs.lemmas.Option.{same_Some}
use Rattle.std.proofs.Math.Seq.{take-append-add}
use Rattle.lburg_lines.specs.declared.token.Sign.TheVariants.{Open, Close}
use Rattle.lburg_lines.specs.Tokens.{Tok, Word, Mark}
use Rattle.lburg_model.specs.declared.terminal.Terminal.{Terminal}
use Rattle.lburg_model.specs.Description.{MDescription}
use Rattle.lburg_trees.specs.declared.row.Row.{Row}
use Rattle.lburg_trees.specs.declared.row.Row.TheVariants.{BadTree, UnknownOp, WrongArity, TooLarge, TooHigh}
use Rattle.lburg_trees.specs.declared.stop.Stop.{Stop}
use Rattle.lburg_trees.specs.declared.stop.Stop.TheVariants.{Memory, Fault}
use Rattle.lburg_trees.specs.TailTree.{MTail, Ends, tree_then}
use Rattle.lburg_trees.specs.Setting.{Before}
use Rattle.lburg_trees.specs.UnknownOp.{IsNamed}
use Rattle.lburg_trees.specs.Rows.{Means}
use Rattle.lburg_trees.specs.Reading.{IsBehind, TreeStops, GoesOn, Fails, NoneBefore, StopsTree, OperandStops, StopsOperand}
use Rattle.lburg_trees.proofs.Trees.{same_tree, then_append, ends_next, ends_nil, ends_behind}
use Rattle.lburg_trees.proofs.Moves.{one, moved, WrongHere, Begins, Fine, split, past, later, ahead}
use Rattle.lburg_trees.proofs.Fine.{here_is}
use Rattle.lburg_trees.proofs.Contexts.{Context}

-- ---- a tree at the front, and where the line stops or fails

pub stops_no_tree : (d : MDescription) (tokens rest : List Tok) (p : ℕ) → TreeStops tokens rest → WrongHere d tokens p → ⊥
stops_no_tree d tokens rest p s w =
    s.stuck w.wrong.tree w.wrong.stands.rest rest w.wrong.stands.numbers w.wrong.stands.ends (sym s.parts ∙ here_is d tokens p w) refl

-- where a part of a tree and one token more go on to be a tree, the first tree ends behind them
more_than : (t u : MTail) (r more : List Tok) (k : ℕ) → Ends t r → 0 < length r → tree_then t (take (suc k) r) ++ more ≡ tree_then u [] → ⊥
more_than t u [] more k ends h e = omega arith
more_than t u (x ∷ r) more k ends h e =
    let s = same_tree t u (x ∷ (take k r ++ more)) [] (ends_next t (x ∷ (take k r ++ more)) (x ∷ r) refl ends) (ends_nil u) (sym (then_append t (x ∷ take k r) more) ∙ e) in
    let f = s.1 in
    cc

pub taken : (t : MTail) (r : List Tok) (k : ℕ) → take (length (tree_then t []) + k) (tree_then t r) ≡ tree_then t (take k r)
taken t r k = ap (take (length (tree_then t []) + k)) (sym (then_append t [] r)) ∙ take-append-add (tree_then t []) r k ∙ then_append t [] (take k r)

-- where a part of a line goes on to be a tree, it isn't longer than the tree at the front
goes_inside : (line : List Tok) (q : ℕ) (kid : MTail) (after : List Tok) → GoesOn line q → q < length line → line ≡ tree_then kid after → Ends kid after → q < length (tree_then kid [])
goes_inside line q kid after g w e ends =
    let long : length line ≡ length (tree_then kid []) + length after = ap length (e ∙ sym (then_append kid [] after)) ∙ length-append (tree_then kid []) after in
    let f : length (tree_then kid []) ≤ q → ⊥ =
    λ le. (
    let k : ℕ = q - length (tree_then kid []) in
    let n : q + 1 ≡ length (tree_then kid []) + suc k = omega arith in
    let t : take (q + 1) line ≡ tree_then kid (take (suc k) after) = ap (λ (z : ℕ). take z line) n ∙ ap (take (length (tree_then kid []) + suc k)) e ∙ taken kid after (suc k) in
    more_than kid g.0 after g.1 k ends (omega arith) (ap (λ (l : List Tok). l ++ g.1) (sym t) ∙ g.3)
    ) in
    omega (arith, f)

-- ---- faults of a line whose first tokens are a name and others without a fault

-- what is known of the name, and of the tokens behind it
pub record Passed (d : MDescription) (b behind : Before) (n : List ℕ) (pre line : List Tok) : Type 0 where
  pub op : ℕ
  pub terminal : Terminal
  pub named : IsNamed d op terminal n
  pub few : b.names < 65535
  pub fine : Fine d (one b (Word n)) pre line
  pub moves : moved (one b (Word n)) pre ≡ behind

only_wrong : (d : MDescription) (b : Before) (n : List ℕ) (x : List Tok) (op : ℕ) (t : Terminal) (row : Row) (p : ℕ) → IsNamed d op t n → b.names < 65535 → Begins d b row (Word n ∷ x) p → (row ≡ WrongArity) × WrongHere d (Word n ∷ x) p
only_wrong d b n x op t WrongArity p is few g = (refl, g)
only_wrong d b n x op t BadTree p is few g = absurd g
only_wrong d b n x op t UnknownOp p is few g = let f = same_Some (Word n) (Word g.1.0) g.1.1 in let e : n ≡ g.1.0 = cc in absurd (g.1.2 op t (is.0, is.1 ∙ e))
only_wrong d b n x op t TooLarge p is few g = let m = g.1.2 in absurd (omega arith)
only_wrong d b n x op t TooHigh p is few g = let f = same_Some (Word n) (Mark Open) g.1.0 in absurd cc

pub analysed : (d : MDescription) (b behind : Before) (n : List ℕ) (pre line : List Tok) (row : Row) (p : ℕ) → Passed d b behind n pre line → Means d b row (Word n ∷ (pre ++ line)) p → ((row ≡ WrongArity) × WrongHere d (Word n ∷ (pre ++ line)) p) ⊎ ((q : ℕ) × (p ≡ suc (length pre + q)) × Means d behind row line q)
analysed d b behind n pre line row p s m =
    elim (split d b row (Word n) (pre ++ line) p m) [
      | inl g ↦ inl (only_wrong d b n (pre ++ line) s.op s.terminal row p s.named s.few g)
      | inr h ↦ (
          let r = past d (one b (Word n)) pre line row h.0 s.fine h.2 in
          let e = r.1 in
          inr (r.0, h.1 ∙ ap (λ (k : ℕ). suc k) e, subst (λ (z : Before). Means d z row line r.0) s.moves r.2)
          )
    ]

pub none_passed : (d : MDescription) (b behind : Before) (n : List ℕ) (pre line : List Tok) (k : ℕ) → Passed d b behind n pre line → NoneBefore d behind line k → ((p : ℕ) → WrongHere d (Word n ∷ (pre ++ line)) p → p < suc (length pre + k) → ⊥) → NoneBefore d b (Word n ∷ (pre ++ line)) (suc (length pre + k))
none_passed d b behind n pre line k s none w row p lt m =
    elim (analysed d b behind n pre line row p s m) [
      | inl g ↦ w p g.1 lt
      | inr h ↦ (let e = h.1 in none row h.0 (omega arith) h.2)
    ]

-- ---- an operand in its tree

-- the operand in a tree of a wrong number of operands, which ends behind it
pub record Holds (last : Bool) (pre line : List Tok) (place : ℕ) : Type 0 where
  pub kid : MTail
  pub after : List Tok
  pub behind : IsBehind last after
  pub parts : line ≡ tree_then kid after
  pub later : suc (length pre + length line) < suc place + length after

pub holds : (d : MDescription) (n : List ℕ) (pre : List Tok) (last : Bool) (line : List Tok) (p : ℕ) → Context n pre last → WrongHere d (Word n ∷ (pre ++ line)) p → Holds last pre line p
holds d n pre last line p c w =
    let o = c.opens w.wrong.tree w.wrong.stands.rest line w.wrong.stands.numbers w.wrong.stands.ends (here_is d _ p w) in
    let long = length-append pre line in
    let end = w.wrong.stands.last_is in
    let more = o.5 in
    record { kid = o.0; after = o.1; behind = o.3; parts = o.4; later = omega arith }

-- what fails inside the operand stands before the last token of its tree
root_later : (d : MDescription) (n : List ℕ) (pre : List Tok) (last : Bool) (line : List Tok) (q p : ℕ) → Context n pre last → GoesOn line q → q < length line → WrongHere d (Word n ∷ (pre ++ line)) p → suc (length pre + q) < p
root_later d n pre last line q p c g within w =
    let h = holds d n pre last line p c w in
    let inside = goes_inside line q h.kid h.after g within h.parts (ends_behind last h.kid h.after h.behind) in
    let long : length line ≡ length (tree_then h.kid []) + length h.after = ap length (h.parts ∙ sym (then_append h.kid [] h.after)) ∙ length-append (tree_then h.kid []) h.after in
    let later = h.later in
    omega arith

pub lift_stops : (n : List ℕ) (pre : List Tok) (last : Bool) (line rest : List Tok) → Context n pre last → OperandStops last line rest → TreeStops (Word n ∷ (pre ++ line)) rest
lift_stops n pre last line rest c s =
    let t = s.begun.0 in
    let w = c.wraps t s.begun.2 in
    let more = s.begun.1 ++ Mark Close ∷ [] in
    record {
      front = Word n ∷ (pre ++ s.front);
      parts = ap (λ (l : List Tok). Word n ∷ l) (ap (λ (l : List Tok). pre ++ l) s.parts ∙ sym (append_assoc pre s.front rest));
      begun = (
        w.0,
        more,
        w.1,
        ap (λ (l : List Tok). Word n ∷ l) (append_assoc pre s.front more ∙ ap (λ (l : List Tok). pre ++ l) (sym (append_assoc s.front s.begun.1 (Mark Close ∷ [])) ∙ ap (λ (l : List Tok). l ++ Mark Close ∷ []) s.begun.3 ∙ then_append t [] (Mark Close ∷ []))) ∙ w.2,
      );
      stuck = λ whole after more h ends e f.
          (let o = c.opens whole after (s.front ++ more) h ends (ap (λ (l : List Tok). Word n ∷ l) (sym (append_assoc pre s.front more)) ∙ e) in s.stuck o.0 o.1 more o.2 o.3 o.4 f);
    }

lift_goes : (n : List ℕ) (pre : List Tok) (last : Bool) (line : List Tok) (q : ℕ) → Context n pre last → GoesOn line q → GoesOn (Word n ∷ (pre ++ line)) (suc (length pre + q))
lift_goes n pre last line q c g =
    let w = c.wraps g.0 g.2 in
    let more = g.1 ++ Mark Close ∷ [] in
    let e : suc (length pre + q) + 1 ≡ suc (length pre + (q + 1)) = omega arith in
    let t : take (suc (length pre + q) + 1) (Word n ∷ (pre ++ line)) ≡ Word n ∷ (pre ++ take (q + 1) line) =
    ap (λ (k : ℕ). take k (Word n ∷ (pre ++ line))) e ∙ ap (λ (l : List Tok). Word n ∷ l) (take-append-add pre line (q + 1)) in (
      w.0,
      more,
      w.1,
      ap (λ (l : List Tok). l ++ more) t ∙ ap (λ (l : List Tok). Word n ∷ l) (append_assoc pre (take (q + 1) line) more ∙ ap (λ (l : List Tok). pre ++ l) (sym (append_assoc (take (q + 1) line) g.1 (Mark Close ∷ [])) ∙ ap (λ (l : List Tok). l ++ Mark Close ∷ []) g.3 ∙ then_append g.0 [] (Mark Close ∷ []))) ∙ w.2,
    )

pub lift_fails : (d : MDescription) (b behind : Before) (n : List ℕ) (pre : List Tok) (last : Bool) (line : List Tok) (row : Row) (q : ℕ) → Context n pre last → Passed d b behind n pre line → Fails d behind row line q → Fails d b row (Word n ∷ (pre ++ line)) (suc (length pre + q))
lift_fails d b behind n pre last line row q c s f =
    let long = length-append pre line in
    let inside = f.within in
    record {
      within = omega arith;
      means = later d b row (Word n) (pre ++ line) (length pre + q) (ahead d (one b (Word n)) pre line row q (subst (λ (z : Before). Means d z row line q) (sym s.moves) f.means));
      goes_on = lift_goes n pre last line q c f.goes_on;
      least = λ other p m.
          elim (analysed d b behind n pre line other p s m) [
            | inl g ↦ inl (root_later d n pre last line q p c f.goes_on f.within g.1)
            | inr h ↦ (
                let e = h.1 in
                elim (f.least other h.0 h.2) [
                  | inl l ↦ inl (omega arith)
                  | inr o ↦ (let r = o.0 in inr (omega arith, o.1))
                ]
                )
          ];
    }

pub lift : (d : MDescription) (b behind : Before) (n : List ℕ) (pre : List Tok) (last : Bool) (line : List Tok) (s : Stop) → Context n pre last → Passed d b behind n pre line → StopsOperand d behind last line s → StopsTree d b (Word n ∷ (pre ++ line)) s
lift d b behind n pre last line Memory c k h = tt
lift d b behind n pre last line (Fault BadTree left) c k h =
    let stops = lift_stops n pre last line h.0 c h.2 in
    let place : ℕ = length line - left in
    let long = length-append pre line in
    let parts = ap length h.2.parts ∙ length-append h.2.front h.0 in
    let same = h.1 in
    let e : suc (length pre + place) ≡ length (Word n ∷ (pre ++ line)) - left = omega arith in
    (h.0, h.1, stops, subst (λ (z : ℕ). NoneBefore d b (Word n ∷ (pre ++ line)) z) e (none_passed d b behind n pre line place k h.3 (λ p w lt. stops_no_tree d _ h.0 p stops w)))
lift d b behind n pre last line (Fault UnknownOp left) c k h =
    let long = length-append pre line in let e = h.1 in (suc (length pre + h.0), omega arith, lift_fails d b behind n pre last line UnknownOp h.0 c k h.2)
lift d b behind n pre last line (Fault WrongArity left) c k h =
    let long = length-append pre line in let e = h.1 in (suc (length pre + h.0), omega arith, lift_fails d b behind n pre last line WrongArity h.0 c k h.2)
lift d b behind n pre last line (Fault TooLarge left) c k h =
    let long = length-append pre line in let e = h.1 in (suc (length pre + h.0), omega arith, lift_fails d b behind n pre last line TooLarge h.0 c k h.2)
lift d b behind n pre last line (Fault TooHigh left) c k h =
    let long = length-append pre line in let e = h.1 in (suc (length pre + h.0), omega arith, lift_fails d b behind n pre last line TooHigh h.0 c k h.2)
