-- The terminals of the shipped description of MIPS, a line an operator: its name, its number, and how many operands it
-- has where a rule uses it.
-- Source: Fraser and Hanson, A Retargetable C Compiler, chapter 5, without floating point.
use Rattle.std.specs.Prelude.{ℕ, List, [], ◌∷◌, Some, None, codes}
use Rattle.lburg_model.specs.declared.terminal.Terminal.{Terminal}

abbrev pub unused : List ℕ → ℕ → Terminal
unused name number = record { name = name; number = number; arity = None }

abbrev pub used : List ℕ → ℕ → ℕ → Terminal
used name number arity = record { name = name; number = number; arity = Some arity }

abbrev pub terminals : List Terminal
terminals =
    unused (codes "CNSTC") 1
    ∷ unused (codes "CNSTS") 2
    ∷ used (codes "CNSTI") 3 0
    ∷ unused (codes "CNSTU") 4
    ∷ unused (codes "CNSTP") 5
    ∷ used (codes "ADDRGP") 6 0
    ∷ unused (codes "ADDRFP") 7
    ∷ unused (codes "ADDRLP") 8
    ∷ unused (codes "INDIRC") 9
    ∷ unused (codes "INDIRS") 10
    ∷ unused (codes "INDIRI") 11
    ∷ unused (codes "INDIRP") 12
    ∷ unused (codes "INDIRB") 13
    ∷ unused (codes "ASGNC") 14
    ∷ unused (codes "ASGNS") 15
    ∷ unused (codes "ASGNI") 16
    ∷ unused (codes "ASGNP") 17
    ∷ unused (codes "ASGNB") 18
    ∷ used (codes "ARGI") 19 1
    ∷ unused (codes "ARGP") 20
    ∷ used (codes "CALLI") 21 1
    ∷ unused (codes "CALLV") 22
    ∷ used (codes "RETI") 23 1
    ∷ unused (codes "RETV") 24
    ∷ unused (codes "CVCI") 25
    ∷ unused (codes "CVCU") 26
    ∷ unused (codes "CVSI") 27
    ∷ unused (codes "CVSU") 28
    ∷ unused (codes "CVIC") 29
    ∷ unused (codes "CVIS") 30
    ∷ unused (codes "CVIU") 31
    ∷ unused (codes "CVUC") 32
    ∷ unused (codes "CVUS") 33
    ∷ unused (codes "CVUI") 34
    ∷ unused (codes "CVUP") 35
    ∷ unused (codes "CVPU") 36
    ∷ used (codes "NEGI") 37 1
    ∷ unused (codes "BCOMU") 38
    ∷ used (codes "ADDI") 39 2
    ∷ unused (codes "ADDU") 40
    ∷ unused (codes "ADDP") 41
    ∷ used (codes "SUBI") 42 2
    ∷ unused (codes "SUBU") 43
    ∷ unused (codes "SUBP") 44
    ∷ used (codes "MULI") 45 2
    ∷ unused (codes "MULU") 46
    ∷ unused (codes "DIVI") 47
    ∷ unused (codes "DIVU") 48
    ∷ unused (codes "MODI") 49
    ∷ unused (codes "MODU") 50
    ∷ unused (codes "LSHI") 51
    ∷ unused (codes "LSHU") 52
    ∷ unused (codes "RSHI") 53
    ∷ unused (codes "RSHU") 54
    ∷ unused (codes "BANDU") 55
    ∷ unused (codes "BORU") 56
    ∷ unused (codes "BXORU") 57
    ∷ unused (codes "EQI") 58
    ∷ unused (codes "NEI") 59
    ∷ unused (codes "LTI") 60
    ∷ unused (codes "LTU") 61
    ∷ unused (codes "LEI") 62
    ∷ unused (codes "LEU") 63
    ∷ unused (codes "GTI") 64
    ∷ unused (codes "GTU") 65
    ∷ unused (codes "GEI") 66
    ∷ unused (codes "GEU") 67
    ∷ unused (codes "JUMPV") 68
    ∷ unused (codes "LABELV") 69
    ∷ []
