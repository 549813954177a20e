-- The lines of a text as they are read, one behind the other.
use Rattle.std.proofs.Common.{◌≡◌, ℕ, ◌+◌, List, [], ◌∷◌, ◌++◌, length, refl, sym, ap, ◌∙◌, subst, arith, append_assoc, length-append}
use Rattle.lcc_text.specs.Lines.{lines_of}
use Rattle.asm_lines.specs.Spelling.{Spells}
use Rattle.asm_lines.specs.Tokens.{Spaced}
use Rattle.asm_text.specs.declared.asm_fault.AsmFault.{AsmFault}
use Rattle.asm_text.specs.FirstFault.{BeginsWith, Stands, StandsFirst}
use Rattle.asm_text.specs.Lines.{MLine, AreTokens, IsLine, AreLines}
use Rattle.asm_text.specs.Made.{Made, made_of, made_behind, nothing, with_line}
use Rattle.asm_text.specs.Makes.{IsAllowed, AreAllowed, IsWithinLimits, program_of}

-- so many lines were read, which make this, and those behind them are left
pub record HasRead (text : List ℕ) (count : ℕ) (behind : List (List ℕ)) (m : Made) : Type 0 where
  pub lines : List MLine
  pub begins : BeginsWith text lines behind
  pub count_is : count ≡ length lines
  pub made : m ≡ made_of lines

pub none_read : (text : List ℕ) → HasRead text 0 (lines_of text) nothing
none_read text = record {
  lines = [];
  begins = record { before = []; parts = refl; spelled = tt; allowed = tt; limits = (omega arith, omega arith) };
  count_is = refl;
  made = refl;
}

-- ---- one line more

made_more : (m : Made) (ls : List MLine) (l : MLine) → made_behind m (ls ++ l ∷ []) ≡ with_line (made_behind m ls) l
made_more m [] l = refl
made_more m (k ∷ ks) l = made_more (with_line m k) ks l

allowed_more : (m : Made) (ls : List MLine) (l : MLine) → AreAllowed m ls → IsAllowed (made_behind m ls) l → AreAllowed m (ls ++ l ∷ [])
allowed_more m [] l a h = (h, tt)
allowed_more m (k ∷ ks) l a h = (a.0, allowed_more (with_line m k) ks l a.1 h)

lines_more : (texts : List (List ℕ)) (number : ℕ) (ls : List MLine) (bytes : List ℕ) (l : MLine) → AreLines texts number ls → IsLine bytes (number + length ls) l → AreLines (texts ++ bytes ∷ []) number (ls ++ l ∷ [])
lines_more [] number [] bytes l a h = let P : ℕ → Type 0 = λ n. IsLine bytes n l in let e : number + 0 ≡ number = omega arith in (subst P e h, tt)
lines_more [] number (k ∷ ks) bytes l a h = absurd a
lines_more (t ∷ texts) number [] bytes l a h = absurd a
lines_more (t ∷ texts) number (k ∷ ks) bytes l a h =
    let P : ℕ → Type 0 = λ n. IsLine bytes n l in
    let e : number + length (k ∷ ks) ≡ number + 1 + length ks = omega arith in
    (a.0, lines_more texts (number + 1) ks bytes l a.1 (subst P e h))

pub read_more : (text : List ℕ) (count : ℕ) (bytes : List ℕ) (behind : List (List ℕ)) (m : Made) (tokens : List Spaced) (l : MLine) (new : Made) → HasRead text count (bytes ∷ behind) m → Spells tokens bytes → AreTokens tokens l → l.number ≡ count + 1 → IsAllowed m l → new ≡ with_line m l → IsWithinLimits (program_of new) → HasRead text (count + 1) behind new
read_more text count bytes behind m tokens l new r spelled are number allowed made limits =
    let k = r.count_is in
    let A : Made → Type 0 = λ x. IsAllowed x l in
    let same : new ≡ made_of (r.lines ++ l ∷ []) = made ∙ (ap (λ (x : Made). with_line x l) r.made ∙ sym (made_more nothing r.lines l)) in
    let L : Made → Type 0 = λ x. IsWithinLimits (program_of x) in
    record {
      lines = r.lines ++ l ∷ [];
      begins = record {
        before = r.begins.before ++ bytes ∷ [];
        parts = r.begins.parts ∙ sym (append_assoc r.begins.before (bytes ∷ []) behind);
        spelled = lines_more r.begins.before 1 r.lines bytes l r.begins.spelled (record { tokens = tokens; spelled = spelled; are = are; number_is = omega (arith, number, k) });
        allowed = allowed_more nothing r.lines l r.begins.allowed (subst A r.made allowed);
        limits = subst L same limits;
      };
      count_is = omega (arith, length-append r.lines (l ∷ []), k);
      made = same;
    }

-- a fault on the next line
pub fault_here : (text : List ℕ) (count : ℕ) (bytes : List ℕ) (behind : List (List ℕ)) (m : Made) (tokens : List Spaced) (f : AsmFault) → HasRead text count (bytes ∷ behind) m → Spells tokens bytes → Stands m tokens (count + 1) f → StandsFirst text f
fault_here text count bytes behind m tokens f r spelled stands =
    let M : Made → Type 0 = λ x. Stands x tokens (count + 1) f in
    let N : ℕ → Type 0 = λ n. Stands (made_of r.lines) tokens (n + 1) f in
    record {
      front = r.lines;
      bytes = bytes;
      behind = behind;
      begins = r.begins;
      tokens = tokens;
      spelled = spelled;
      stands = subst N r.count_is (subst M r.made stands);
    }
