-- Readings of trees from a state: the names in force, and the tokens that are left.
use Rattle.std.specs.Prelude.{ℕ, zero, suc, Bool, true, false, if◌then◌else◌, Option, Some, None, List, [], ◌∷◌, ◌+◌, length}
use Rattle.c_ast.specs.Lexemes.{Lexeme, Name, Keyword, Integer, Character, Text, Sign, Placed}
use Rattle.c_ast.specs.InForce.{InForce, put, opened, closed, closed_kept, reopened, forgotten}
use Rattle.c_ast.specs.Marks.{Test, IsSign, holds, lexemes}
use Rattle.c_ast.specs.Signs.{comma_sign}

pub record State : Type 0 where
  pub names : InForce
  pub rest : List Placed

-- what was read, and the state behind it; or nothing can be read
abbrev pub Read : Type 0 → Type 0
Read A = Option (A × State)

abbrev pub gives : {A : Type 0} → A → State → Read A
gives x s = Some (x, s)

-- one reading, and another behind it
abbrev pub bind : {A B : Type 0} → Read A → (A → State → Read B) → Read B
bind None k = None
bind (Some p) k = k p.0 p.1

-- ---- what is next

abbrev pub answer : Test → State → Bool
answer t s = holds t s.names (lexemes s.rest)

abbrev pub ask : {B : Type 0} → Test → State → Read B → Read B → Read B
ask t s p q = if answer t s then p else q

abbrev pub line_of : List Placed → ℕ
line_of [] = 0
line_of (t ∷ ts) = t.line

-- the line of what is next, 0 at the end
abbrev pub here : State → ℕ
here s = line_of s.rest

abbrev pub tail : List Placed → List Placed
tail [] = []
tail (t ∷ ts) = ts

-- behind the next token
abbrev pub beyond : State → State
beyond s = record { names = s.names; rest = tail s.rest }

abbrev pub on_first : {B : Type 0} → List Placed → InForce → (Lexeme → State → Read B) → Read B
on_first [] names f = None
on_first (t ∷ ts) names f = f t.lexeme record { names = names; rest = ts }

-- the next token, and what stands behind it
abbrev pub with_first : {B : Type 0} → State → (Lexeme → State → Read B) → Read B
with_first s f = on_first s.rest s.names f

-- this sign
abbrev pub one_sign : {B : Type 0} → ℕ → State → (State → Read B) → Read B
one_sign k s f = ask (IsSign k) s (f (beyond s)) None

abbrev pub name_then : {B : Type 0} → (List ℕ → State → Read B) → Lexeme → State → Read B
name_then f (Name n) s = f n s
name_then f (Sign j) s = None
name_then f (Keyword k) s = None
name_then f (Integer v k) s = None
name_then f (Character v) s = None
name_then f (Text b) s = None

-- a name
abbrev pub one_name : {B : Type 0} → State → (List ℕ → State → Read B) → Read B
one_name s f = with_first s (name_then f)

-- ---- what comes into force

abbrev pub put_state : Option (List ℕ) → Bool → State → State
put_state None typedef s = s
put_state (Some n) typedef s = record { names = put s.names n typedef; rest = s.rest }

abbrev pub open_state : State → State
open_state s = record { names = opened s.names; rest = s.rest }

-- a parameter list's scope ends
abbrev pub close_state : Bool → State → State
close_state true s = record { names = closed_kept s.names; rest = s.rest }
close_state false s = record { names = closed s.names; rest = s.rest }

-- no parameters' names are kept
abbrev pub forget_state : State → State
forget_state s = record { names = forgotten s.names; rest = s.rest }

-- the parameters' scope is open again
abbrev pub reopen_state : State → State
reopen_state s = record { names = reopened s.names; rest = s.rest }

-- ---- lists

-- one more item as long as the test says so, no more than so many; b tells what stood before
unfoldable pub many : {A B : Type 0} → (B → State → Bool) → (B → State → Read A) → (B → A → B) → ℕ → B → State → Read (List A)
many go item next zero b s = None
many go item next (suc m) b s =
    if go b s
    then bind (item b s) (λ x t. bind (many go item next m (next b x) t) (λ xs u. gives (x ∷ xs) u))
    else gives [] s

-- each item uses up tokens, so these are enough
abbrev pub all_of : {A B : Type 0} → (B → State → Bool) → (B → State → Read A) → (B → A → B) → B → State → Read (List A)
all_of go item next b s = many go item next (length s.rest + 1) b s

-- an item for each comma
abbrev pub commas : {A : Type 0} → (State → Read A) → State → Read (List A)
commas item s = all_of (λ b t. answer (IsSign comma_sign) t) (λ b t. item (beyond t)) (λ b x. b) true s
