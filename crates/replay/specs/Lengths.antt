-- What was lent keeps its length, also where a script is broken off. Definitions only.
use Rattle.std.specs.Prelude.{◌≡◌, List, ℕ, length}
use Rattle.script_calls.specs.declared.Lent.{Lent}
use Rattle.replay.specs.declared.input.Input.{Input}
use Rattle.replay.specs.declared.output.Output.{Output}

-- of a surface and a journal by themselves
abbrev pub SameSizes : (surface journal surface_after journal_after : List ℕ) → Type 0
SameSizes surface journal surface_after journal_after =
    (length surface_after ≡ length surface) × (length journal_after ≡ length journal)

-- the same surface and journal still, and as long as they were
abbrev pub SameLent : Lent → Lent → Type 0
SameLent before after =
    (after.surface.ghost_name ≡ before.surface.ghost_name) × (after.journal.ghost_name ≡ before.journal.ghost_name)
    × SameSizes before.surface.now before.journal.now after.surface.now after.journal.now

-- the same buffer still, and as long as it was
abbrev pub SameInput : {R : Type 0} → Input R → Input R → Type 0
SameInput before after =
    (after.buffer.ghost_name ≡ before.buffer.ghost_name) × (length after.buffer.now ≡ length before.buffer.now)

abbrev pub SameOutput : {P : Type 0} → Output P → Output P → Type 0
SameOutput before after =
    (after.text.buffer.ghost_name ≡ before.text.buffer.ghost_name) × (length after.text.buffer.now ≡ length before.text.buffer.now)
