-- What is lent to a call, what a call answers and leaves, and statuses 1 and 2. Definitions only.
use Rattle.std.specs.Prelude.{ℕ, zero, suc, ◌*◌, ◌/◌, ◌%◌, Bool, not, ◌||◌, List, length, eqb, ltb}
use Rattle.words.specs.Status.{given, or_else}
use Rattle.journal.specs.Records.{stride}

-- the surface (document 01: the sheet), the journal's bytes, and "The count in use is a number beside the journal."
pub record Memory : Type 0 where
  pub surface : List ℕ
  pub journal : List ℕ
  pub used : ℕ

abbrev pub memory : (surface journal : List ℕ) (used : ℕ) → Memory
memory surface journal used = record { surface = surface; journal = journal; used = used }

-- a call's status, its number (of pixels drawn or restored), and what it leaves
pub record Outcome : Type 0 where
  pub status : ℕ
  pub number : ℕ
  pub after : Memory

abbrev pub outcome : (status number : ℕ) → Memory → Outcome
outcome status number after = record { status = status; number = number; after = after }

-- "Each returns its number and 0 pixels, and changes no lent memory and not the count in use."
abbrev pub settle : (status : ℕ) (before : Memory) (good : Outcome) → Outcome
settle zero before good = good
settle (suc k) before good = outcome (suc k) 0 before

-- 1: "sheet sides not 1..4,096, or pixels lent are not width·height"
unfoldable pub bad_surface : (width height pixels : ℕ) → Bool
bad_surface width height pixels = ltb width 1 || ltb 4096 width || ltb height 1 || ltb 4096 height || not (eqb pixels (width * height))

-- 2: "journal not a multiple of 12 bytes, over 20,000,000 records, or count in use above its records"
unfoldable pub bad_journal : (size used : ℕ) → Bool
bad_journal size used = not (eqb (size % stride) 0) || ltb 20000000 (size / stride) || ltb (size / stride) used

unfoldable pub surface_status : (width height pixels : ℕ) → ℕ
surface_status width height pixels = given 1 (bad_surface width height pixels) 0

unfoldable pub journal_status : (size used : ℕ) → ℕ
journal_status size used = given 2 (bad_journal size used) 0

unfoldable pub limits : (width height pixels size used : ℕ) → ℕ
limits width height pixels size used = or_else (surface_status width height pixels) (journal_status size used)

abbrev pub memory_status : (width height : ℕ) → Memory → ℕ
memory_status width height m = limits width height (length m.surface) (length m.journal) m.used

-- how many records the journal has
abbrev pub records : Memory → ℕ
records m = length m.journal / stride
