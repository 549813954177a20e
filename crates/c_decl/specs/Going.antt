-- How a parser goes on over one part of a production, or breaks off in it.
-- Source: C89 2.1.1.2.
use Rattle.std.specs.Prelude.{◌≡◌, ◌≤◌, ◌+◌, ◌⊎◌, ℕ, length, None, Some}
use Rattle.c_readings.specs.Reading.{Read}
use Rattle.c_expr.specs.State.{MParser, ahead, line_at}
use Rattle.c_expr.specs.declared.syntax_fault.SyntaxFault.{SyntaxFault}
use Rattle.c_expr.specs.declared.syntax_fault.SyntaxFault.TheVariants.{NoParse, Memory, Lex}

-- so many tokens or more were taken, and no fault was answered
abbrev pub Goes : ℕ → MParser → MParser → Type 0
Goes least old new =
    (new.fault ≡ None) × (new.source ≡ old.source) × (new.tokens ≡ old.tokens)
    × (old.place + least ≤ new.place) × (length (ahead new).rest + least ≤ length (ahead old).rest)

-- a fault that a part of a production has: by the token at the place nothing goes on, or an allocation was refused
abbrev pub IsBreak : MParser → SyntaxFault → Type 0
IsBreak p (NoParse line) = line ≡ line_at p.tokens p.place
IsBreak p Memory = Unit {0}
IsBreak p (Lex fault) = ⊥

-- the fault was answered, and is kept
abbrev pub Breaks : MParser → MParser → SyntaxFault → Type 0
Breaks old new e =
    (new.fault ≡ Some e) × (new.source ≡ old.source) × (new.tokens ≡ old.tokens) × (old.place ≤ new.place) × IsBreak new e

-- an allocation was refused, or nothing can be read
abbrev pub Fails : {A : Type 0} → SyntaxFault → Read A → Type 0
Fails e o = (e ≡ Memory) ⊎ (o ≡ None)
