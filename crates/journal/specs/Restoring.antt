-- Document 01: "A take-back restores the pixels from last to first". Definitions only.
use Rattle.std.specs.Prelude.{ℕ, Bool, false, ◌||◌, List, [], ◌∷◌, set, leb}
use Rattle.journal.specs.Drawing.{pixel_index}
use Rattle.journal.specs.Records.{Entry}

-- the surface with the pixels of these records restored, the last one first
unfoldable pub restored : (width : ℕ) → List Entry → List ℕ → List ℕ
restored width [] s = s
restored width (e ∷ es) s = set (restored width es s) (pixel_index width e.first e.second) e.third

-- does one of these records lie off the surface?
unfoldable pub any_off : (width height : ℕ) → List Entry → Bool
any_off width height [] = false
any_off width height (e ∷ es) = leb width e.first || leb height e.second || any_off width height es
