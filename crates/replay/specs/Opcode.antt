-- Script format: the opcodes by their numbers. Definitions only.
use Rattle.std.specs.Prelude.{◌≡◌, ℕ, ◌<◌, Bool, true, false, Result, MatchResult}
use Rattle.replay.specs.declared.opcode.Opcode.{Opcode}
use Rattle.replay.specs.declared.opcode.Opcode.TheVariants.{End, Play, Undo, Read, Lend, Count, Poke}
use Rattle.replay.specs.declared.opcode.UnknownOpcode.{UnknownOpcode}

abbrev pub number_of : Opcode → ℕ
number_of End = 0
number_of Play = 1
number_of Undo = 2
number_of Read = 3
number_of Lend = 4
number_of Count = 5
number_of Poke = 6

-- the call that the number stands for, or that it stands for none
abbrev pub Decodes : ℕ → Result Opcode UnknownOpcode → Type 0
Decodes n r = MatchResult r (λ o. number_of o ≡ n) (λ e. (e.0 ≡ n) × (6 < n))

-- how many numbers stand behind the opcode, before any byte data
abbrev pub arguments : Opcode → ℕ
arguments End = 0
arguments Play = 6
arguments Undo = 0
arguments Read = 1
arguments Lend = 4
arguments Count = 1
arguments Poke = 2

-- byte data, a record, stands behind a play's and a reading's
abbrev pub has_data : Opcode → Bool
has_data End = false
has_data Play = true
has_data Undo = false
has_data Read = true
has_data Lend = false
has_data Count = false
has_data Poke = false
