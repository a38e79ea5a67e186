-- What a line of output says. Definitions only.
use Rattle.std.specs.Prelude.{ℕ, ◌-◌, List, ◌++◌, length, replicate, Bool, true, false, codes, Option, Some}
use Rattle.std.specs.Fmt.{digits, ◌++?◌}

-- eight digits behind "0x", as in "0x0000ff00"; 48 is the digit 0
abbrev pub hex_text : ℕ → List ℕ
hex_text n = codes "0x" ++ (replicate (8 - length (digits 16 false n)) 48 ++ digits 16 false n)

abbrev pub truth_text : Bool → List ℕ
truth_text true = codes "yes"
truth_text false = codes "no"

-- the rest of the line, by what each of the two prints
abbrev pub compared_text : {T : Type 0} → (T → Option (List ℕ)) → (got should : T) → Option (List ℕ)
compared_text output got should = Some (codes ": ") ++? output got ++? Some (codes ", should be ") ++? output should
