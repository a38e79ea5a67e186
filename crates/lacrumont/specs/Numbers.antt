-- A reading as a row of numbers, for C. Definitions only.
use Rattle.std.specs.Prelude.{ℕ, Bool, cond, not, List, [], ◌∷◌, eqb}
use Rattle.reading.specs.declared.Reading.{Reading}

-- which picture is asked for: 0 is the source, all else the mask
abbrev pub asks_mask : ℕ → Bool
asks_mask mask = not (eqb mask 0)

-- all but the status, in the header's order
abbrev pub numbers_in : Reading → List ℕ
numbers_in r =
    r.header_at ∷ r.header_len ∷ r.view_at ∷ r.view_len ∷ r.width ∷ r.rows ∷ r.layout.bits ∷ r.layout.compression
    ∷ cond r.layout.top_down 1 0 ∷ r.layout.masks.red ∷ r.layout.masks.green ∷ r.layout.masks.blue ∷ r.layout.masks.alpha ∷ []
