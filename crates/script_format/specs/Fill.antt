-- Script format: "journal byte k is (((S + k) mod 2^32) * 2654435761 mod 2^32) / 2^24, rounded down". Definitions only.
use Rattle.std.specs.Prelude.{ℕ, ◌+◌, ◌*◌, ◌/◌, ◌%◌}

abbrev pub fill_byte : (seed k : ℕ) → ℕ
fill_byte seed k = (seed + k) % 4294967296 * 2654435761 % 4294967296 / 16777216
