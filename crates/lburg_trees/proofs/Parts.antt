-- A tree of its head and its operands.
use Rattle.std.proofs.Common.{◌≡◌, ◌≤◌, ◌<◌, ℕ, ◌+◌, ◌-◌, ℤ, true, false, List, [], ◌∷◌, ◌++◌, length, drop, Option, Some, refl, sym, ap, ◌∙◌, subst, inl, inr, arith}
use Rattle.std.specs.Prelude.{◌≢◌}
use Rattle.std.proofs.lemmas.Option.{same_Some}
use Rattle.lcc_text.specs.Stops.{next}
use Rattle.lburg_lines.specs.declared.token.Sign.TheVariants.{Open, Close, Comma}
use Rattle.lburg_lines.specs.declared.token.Token.{Token}
use Rattle.lburg_lines.specs.Tokens.{Tok, Word, Mark, view, views}
use Rattle.lburg_lines.specs.Numbers.{MNumber}
use Rattle.lburg_model.specs.Tree.{MTree, TOne, TTwo, nodes}
use Rattle.lburg_model.specs.Description.{MDescription, IsDescription}
use Rattle.lburg_trees.specs.declared.row.Row.TheVariants.{WrongArity}
use Rattle.lburg_trees.specs.declared.stop.Stop.{Stop}
use Rattle.lburg_trees.specs.declared.stop.Stop.TheVariants.{Fault}
use Rattle.lburg_trees.specs.TailTree.{MTail, Over, Both, constant_then, tree_then}
use Rattle.lburg_trees.specs.Setting.{Before, placed}
use Rattle.lburg_trees.specs.TailText.{TreeMeans, height}
use Rattle.lburg_trees.specs.Reading.{ReadsTree, StopsTree, NoneBefore, IsHead, CountFits, CountDiffers, IsBehind, ReadsOperand, StopsOperand, opened}
use Rattle.lburg_trees.proofs.Trees.{then_append, ends_close, ends_comma}
use Rattle.lburg_trees.proofs.Moves.{one, moved}
use Rattle.lburg_trees.proofs.Fine.{behind, fine_then, fine_constant, fine_open, fine_close, fine_comma, moved_constant, moved_then}
use Rattle.lburg_trees.proofs.Contexts.{first_pre, first_line, first_context, second_pre, second_line, second_context}
use Rattle.lburg_trees.proofs.Lifts.{Passed, lift}
use Rattle.lburg_trees.proofs.Operands.{may_have}
use Rattle.lburg_trees.proofs.Heads.{whole_none, whole_differs}

-- ---- what stands behind an operand

pub behind_token : (ts : List Token) (t : Tok) → next (views ts) ≡ Some t → views ts ≡ t ∷ views (drop 1 ts)
behind_token [] t e = absurd cc
behind_token (x ∷ ts) t e = ap (λ (z : Tok). z ∷ views (drop 0 ts)) (same_Some (view x) t e)

pub comma_next : (rest : List Tok) → IsBehind false rest → next rest ≢ Some (Mark Close) → next rest ≡ Some (Mark Comma)
comma_next rest (inl e) h = absurd (h e)
comma_next rest (inr e) h = e.1

pub close_next : (rest : List Tok) → IsBehind true rest → next rest ≡ Some (Mark Close)
close_next rest (inl e) = e
close_next rest (inr e) = let f = e.0 in absurd cc

-- ---- the first operand

first_passed : (d : MDescription) (b : Before) (op : ℕ) (value : Option ℤ) (n : List ℕ) (c : Option MNumber) (line : List Tok) → IsHead d b op value n c → b.opened < 499 → Passed d b (placed (b.opened + 1) (b.names + 1)) n (first_pre c) line
first_passed d b op value n c line h low = record {
  op = op;
  terminal = h.terminal;
  named = h.named;
  few = h.few;
  fine = fine_constant d (one b (Word n)) c (Mark Open ∷ []) line (fine_open d (one b (Word n)) [] line low tt);
  moves = moved_constant (one b (Word n)) c (Mark Open ∷ []);
}

pub first_stops : (d : MDescription) (b : Before) (op : ℕ) (value : Option ℤ) (n : List ℕ) (c : Option MNumber) (line : List Tok) (s : Stop) → IsHead d b op value n c → b.opened < 499 → StopsOperand d (placed (b.opened + 1) (b.names + 1)) false line s → StopsTree d b (opened n c line) s
first_stops d b op value n c line s h low k =
    subst (λ (l : List Tok). StopsTree d b l s) (first_line n c line) (lift d b (placed (b.opened + 1) (b.names + 1)) n (first_pre c) false line s (first_context n c h.numbers) (first_passed d b op value n c line h low) k)

-- one operand, behind which the parenthesis closes
abbrev one_pre : Option MNumber → MTail → List Tok
one_pre c w = constant_then c (Mark Open ∷ tree_then w (Mark Close ∷ []))

one_passed : (d : MDescription) (b : Before) (op : ℕ) (value : Option ℤ) (n : List ℕ) (c : Option MNumber) (w : MTail) (t : MTree) (rest : List Tok) → IsDescription d → IsHead d b op value n c → b.opened < 499 → TreeMeans d w t → b.names + 1 + nodes t ≤ 65535 → b.opened + 1 + height w ≤ 500 → Passed d b (moved (one b (Word n)) (one_pre c w)) n (one_pre c w) rest
one_passed d b op value n c w t rest is h low m small high =
    let inside = placed (b.opened + 1) (b.names + 1) in
    let kid = fine_then d inside w t (Mark Close ∷ []) rest is.names m (ends_close w rest) small high (fine_close d (behind inside t) [] rest tt) in
    record {
      op = op;
      terminal = h.terminal;
      named = h.named;
      few = h.few;
      fine = fine_constant d (one b (Word n)) c _ rest (fine_open d (one b (Word n)) _ rest low kid);
      moves = refl;
    }

one_parts : (d : MDescription) (b : Before) (n : List ℕ) (c : Option MNumber) (line rest after : List Tok) (t : MTree) → (r : ReadsOperand d b false line rest t) → rest ≡ Mark Close ∷ after → opened n c line ≡ tree_then (Over n c r.reads.written) after
one_parts d b n c line rest after t r e = ap (opened n c) (r.reads.parts ∙ ap (tree_then r.reads.written) e)

pub one_operand : (d : MDescription) (b : Before) (op : ℕ) (value : Option ℤ) (n : List ℕ) (c : Option MNumber) (line rest after : List Tok) (t : MTree) → IsDescription d → IsHead d b op value n c → b.opened < 499 → ReadsOperand d (placed (b.opened + 1) (b.names + 1)) false line rest t → rest ≡ Mark Close ∷ after → CountFits d op 1 → ReadsTree d b (opened n c line) after (TOne op value t)
one_operand d b op value n c line rest after t is h low r e fits =
    let w = r.reads.written in
    let m = r.reads.means in
    let parts = one_parts d _ n c line rest after t r e in
    let small = r.reads.small in
    let high = r.reads.low in
    let may = may_have d op 1 n h.terminal h.named fits in
    let passed = one_passed d b op value n c w t after is h low m small high in
    record {
      written = Over n c w;
      numbers = (h.numbers, r.reads.numbers);
      parts = parts;
      ends = tt;
      means = (may, h.value_is, m);
      small = omega arith;
      low = omega arith;
      none = subst (λ (l : List Tok). NoneBefore d b l (length l - length after)) (sym parts) (whole_none d b _ n (one_pre c w) after (Over n c w) op is.names may passed (then_append (Over n c w) [] after) tt);
    }

-- an operator that may not have one operand
pub one_differs : (d : MDescription) (b : Before) (op : ℕ) (value : Option ℤ) (n : List ℕ) (c : Option MNumber) (line rest after : List Tok) (t : MTree) → IsDescription d → IsHead d b op value n c → b.opened < 499 → ReadsOperand d (placed (b.opened + 1) (b.names + 1)) false line rest t → rest ≡ Mark Close ∷ after → CountDiffers d op 1 → StopsTree d b (opened n c line) (Fault WrongArity (length after + 1))
one_differs d b op value n c line rest after t is h low r e f =
    let w = r.reads.written in
    let passed = one_passed d b op value n c w t after is h low r.reads.means r.reads.small r.reads.low in
    subst (λ (l : List Tok). StopsTree d b l (Fault WrongArity (length after + 1))) (sym (one_parts d _ n c line rest after t r e)) (whole_differs d b _ n (one_pre c w) after (Over n c w) op h.terminal h.named f (h.numbers, r.reads.numbers) passed (then_append (Over n c w) []) tt)

-- ---- the second operand

second_passed : (d : MDescription) (b : Before) (op : ℕ) (value : Option ℤ) (n : List ℕ) (c : Option MNumber) (w : MTail) (t : MTree) (line : List Tok) → IsDescription d → IsHead d b op value n c → b.opened < 499 → TreeMeans d w t → b.names + 1 + nodes t ≤ 65535 → b.opened + 1 + height w ≤ 500 → Passed d b (placed (b.opened + 1) (b.names + 1 + nodes t)) n (second_pre c w) line
second_passed d b op value n c w t line is h low m small high =
    let inside = placed (b.opened + 1) (b.names + 1) in
    let kid = fine_then d inside w t (Mark Comma ∷ []) line is.names m (ends_comma w line) small high (fine_comma d (behind inside t) [] line tt) in
    record {
      op = op;
      terminal = h.terminal;
      named = h.named;
      few = h.few;
      fine = fine_constant d (one b (Word n)) c (Mark Open ∷ tree_then w (Mark Comma ∷ [])) line (fine_open d (one b (Word n)) (tree_then w (Mark Comma ∷ [])) line low kid);
      moves = moved_constant (one b (Word n)) c (Mark Open ∷ tree_then w (Mark Comma ∷ [])) ∙ moved_then d inside w t (Mark Comma ∷ []) m;
    }

pub second_stops : (d : MDescription) (b : Before) (op : ℕ) (value : Option ℤ) (n : List ℕ) (c : Option MNumber) (line rest others : List Tok) (t : MTree) (names : ℕ) (s : Stop) → IsDescription d → IsHead d b op value n c → b.opened < 499 → ReadsOperand d (placed (b.opened + 1) (b.names + 1)) false line rest t → rest ≡ Mark Comma ∷ others → names ≡ b.names + 1 + nodes t → StopsOperand d (placed (b.opened + 1) names) true others s → StopsTree d b (opened n c line) s
second_stops d b op value n c line rest others t names s is h low r e f k =
    let w = r.reads.written in
    let m = r.reads.means in
    let passed = second_passed d b op value n c w t others is h low m r.reads.small r.reads.low in
    let there = subst (λ (z : ℕ). StopsOperand d (placed (b.opened + 1) z) true others s) f k in
    let l = lift d b (placed (b.opened + 1) (b.names + 1 + nodes t)) n (second_pre c w) true others s (second_context n c w h.numbers r.reads.numbers) passed there in
    subst (λ (z : List Tok). StopsTree d b z s) (second_line n c w others ∙ ap (opened n c) (sym (r.reads.parts ∙ ap (tree_then w) e))) l

abbrev two_pre : Option MNumber → MTail → MTail → List Tok
two_pre c w v = constant_then c (Mark Open ∷ tree_then w (Mark Comma ∷ tree_then v (Mark Close ∷ [])))

two_passed : (d : MDescription) (b : Before) (op : ℕ) (value : Option ℤ) (n : List ℕ) (c : Option MNumber) (w v : MTail) (t u : MTree) (rest : List Tok) → IsDescription d → IsHead d b op value n c → b.opened < 499 → TreeMeans d w t → TreeMeans d v u → b.names + 1 + nodes t + nodes u ≤ 65535 → b.opened + 1 + height w ≤ 500 → b.opened + 1 + height v ≤ 500 → Passed d b (moved (one b (Word n)) (two_pre c w v)) n (two_pre c w v) rest
two_passed d b op value n c w v t u rest is h low m k small high high2 =
    let inside = placed (b.opened + 1) (b.names + 1) in
    let mid : List Tok = Mark Comma ∷ tree_then v (Mark Close ∷ []) in
    let kid2 = fine_then d (behind inside t) v u (Mark Close ∷ []) rest is.names k (ends_close v rest) small high2 (fine_close d (behind (behind inside t) u) [] rest tt) in
    let kid = fine_then d inside w t mid rest is.names m (ends_comma w (tree_then v (Mark Close ∷ []) ++ rest)) (omega arith) high (fine_comma d (behind inside t) (tree_then v (Mark Close ∷ [])) rest kid2) in
    record {
      op = op;
      terminal = h.terminal;
      named = h.named;
      few = h.few;
      fine = fine_constant d (one b (Word n)) c (Mark Open ∷ tree_then w mid) rest (fine_open d (one b (Word n)) (tree_then w mid) rest low kid);
      moves = refl;
    }

-- both operands, behind which the parenthesis closes
pub record ReadsBoth (d : MDescription) (b : Before) (line after : List Tok) (t u : MTree) : Type 0 where
  pub rest : List Tok
  pub others : List Tok
  pub rest2 : List Tok
  pub first : ReadsOperand d (placed (b.opened + 1) (b.names + 1)) false line rest t
  pub comma : rest ≡ Mark Comma ∷ others
  pub second : ReadsOperand d (placed (b.opened + 1) (b.names + 1 + nodes t)) true others rest2 u
  pub close : rest2 ≡ Mark Close ∷ after

pub both_read : (d : MDescription) (b : Before) (line rest others rest2 after : List Tok) (t u : MTree) (names : ℕ) → ReadsOperand d (placed (b.opened + 1) (b.names + 1)) false line rest t → rest ≡ Mark Comma ∷ others → names ≡ b.names + 1 + nodes t → ReadsOperand d (placed (b.opened + 1) names) true others rest2 u → rest2 ≡ Mark Close ∷ after → ReadsBoth d b line after t u
both_read d b line rest others rest2 after t u names r e f q g = record {
  rest = rest;
  others = others;
  rest2 = rest2;
  first = r;
  comma = e;
  second = subst (λ (z : ℕ). ReadsOperand d (placed (b.opened + 1) z) true others rest2 u) f q;
  close = g;
}

two_parts : (d : MDescription) (b : Before) (n : List ℕ) (c : Option MNumber) (line after : List Tok) (t u : MTree) → (r : ReadsBoth d b line after t u) → opened n c line ≡ tree_then (Both n c r.first.reads.written r.second.reads.written) after
two_parts d b n c line after t u r =
    let w = r.first.reads.written in
    let v = r.second.reads.written in
    ap (opened n c) (r.first.reads.parts ∙ ap (tree_then w) (r.comma ∙ ap (λ (l : List Tok). Mark Comma ∷ l) (r.second.reads.parts ∙ ap (tree_then v) r.close)))

both_passed : (d : MDescription) (b : Before) (op : ℕ) (value : Option ℤ) (n : List ℕ) (c : Option MNumber) (line after : List Tok) (t u : MTree) → IsDescription d → IsHead d b op value n c → b.opened < 499 → (r : ReadsBoth d b line after t u) → Passed d b (moved (one b (Word n)) (two_pre c r.first.reads.written r.second.reads.written)) n (two_pre c r.first.reads.written r.second.reads.written) after
both_passed d b op value n c line after t u is h low r =
    let small = r.second.reads.small in
    two_passed d b op value n c r.first.reads.written r.second.reads.written t u after is h low r.first.reads.means r.second.reads.means (omega arith) r.first.reads.low r.second.reads.low

pub two_operands : (d : MDescription) (b : Before) (op : ℕ) (value : Option ℤ) (n : List ℕ) (c : Option MNumber) (line after : List Tok) (t u : MTree) → IsDescription d → IsHead d b op value n c → b.opened < 499 → ReadsBoth d b line after t u → CountFits d op 2 → ReadsTree d b (opened n c line) after (TTwo op value t u)
two_operands d b op value n c line after t u is h low r fits =
    let w = r.first.reads.written in
    let v = r.second.reads.written in
    let parts = two_parts d b n c line after t u r in
    let small = r.second.reads.small in
    let high = r.first.reads.low in
    let high2 = r.second.reads.low in
    let may = may_have d op 2 n h.terminal h.named fits in
    record {
      written = Both n c w v;
      numbers = (h.numbers, r.first.reads.numbers, r.second.reads.numbers);
      parts = parts;
      ends = tt;
      means = (may, h.value_is, r.first.reads.means, r.second.reads.means);
      small = omega arith;
      low = omega arith;
      none = subst (λ (l : List Tok). NoneBefore d b l (length l - length after)) (sym parts) (whole_none d b _ n (two_pre c w v) after (Both n c w v) op is.names may (both_passed d b op value n c line after t u is h low r) (then_append (Both n c w v) [] after) tt);
    }

-- an operator that may not have two operands
pub two_differs : (d : MDescription) (b : Before) (op : ℕ) (value : Option ℤ) (n : List ℕ) (c : Option MNumber) (line after : List Tok) (t u : MTree) → IsDescription d → IsHead d b op value n c → b.opened < 499 → ReadsBoth d b line after t u → CountDiffers d op 2 → StopsTree d b (opened n c line) (Fault WrongArity (length after + 1))
two_differs d b op value n c line after t u is h low r f =
    let w = r.first.reads.written in
    let v = r.second.reads.written in
    subst (λ (l : List Tok). StopsTree d b l (Fault WrongArity (length after + 1))) (sym (two_parts d b n c line after t u r)) (whole_differs d b _ n (two_pre c w v) after (Both n c w v) op h.terminal h.named f (h.numbers, r.first.reads.numbers, r.second.reads.numbers) (both_passed d b op value n c line after t u is h low r) (then_append (Both n c w v) []) tt)
