-- The first fault of a line: of those that names have before the line's end by its grammar, or else that end.
use Rattle.std.proofs.Common.{◌≡◌, ◌≤◌, ℕ, subst, arith, inl, inr}
use Rattle.std.proofs.lemmas.Bool.{cases_lt}
use Rattle.lburg_lines.specs.Sections.{TokenLine}
use Rattle.lburg_faults.specs.declared.found.Found.{Found}
use Rattle.lburg_faults.specs.Lines.{IsRules}
use Rattle.lburg_faults.specs.Setting.{Setting}
use Rattle.lburg_faults.specs.LineFaults.{row_of}
use Rattle.lburg_faults.specs.Knowing.{NotRight}
use Rattle.lburg_faults.specs.Scans.{NameRows, UseRows, IsFirstOf}
use Rattle.lburg_faults.specs.LineEnds.{RuleRows}
use Rattle.lburg_faults.proofs.EndingUses.{name_first}

-- ---- places and rows in their order

pub not_right : (p r q z : ℕ) → p ≤ q → (p ≡ q → r ≤ z) → NotRight p r q z
not_right p r q z h k = elim (cases_lt p q) [
  | inl m ↦ inl m
  | inr m ↦ (let e : p ≡ q = omega arith in inr (e, k e))
]

right_place : (p r q z : ℕ) → NotRight p r q z → p ≤ q
right_place p r q z (inl h) = omega arith
right_place p r q z (inr h) = omega arith

-- ---- the first of two

pub name_before : (s : Setting) (l : TokenLine) (bound : ℕ) (a b : Found) → IsRules l → a.place ≤ b.place → IsFirstOf NameRows s l bound a → IsFirstOf UseRows s l bound b → IsFirstOf RuleRows s l bound a
name_before s l bound a b r h x y = record {
  within = x.within;
  stands = inl x.stands;
  least = λ other q st. elim st [
    | inl n ↦ x.least other q n
    | inr u ↦
        let k = right_place b.place (row_of b.fault) q (row_of other) (y.least other q u) in
        not_right a.place (row_of a.fault) q (row_of other) (omega arith) (λ e. name_first s l q a.fault other r (subst (λ (p : ℕ). NameRows a.fault s l p) e x.stands) u)
  ];
}
