-- Drawing a list of points on a surface. What a pixel becomes is a parameter: records, formats and operations are not seen here.
-- Definitions only. Document 01: the sheet is the surface here.
use Rattle.std.specs.Prelude.{ℕ, ◌+◌, ◌*◌, List, [], ◌∷◌, get_or, set}
use Rattle.region.specs.Target.{Point}

-- "one 32-bit number a pixel, row by row from the top": where the pixel of a column and a row stands
abbrev pub pixel_index : (width x y : ℕ) → ℕ
pixel_index width x y = y * width + x

-- what a pixel becomes, from the old one and its column and row
abbrev pub Paint : Type 0
Paint = (old x y : ℕ) → ℕ

-- the surface with one pixel drawn
abbrev pub dot : (width : ℕ) → Paint → (x y : ℕ) → List ℕ → List ℕ
dot width paint x y s = set s (pixel_index width x y) (paint (get_or s (pixel_index width x y) 0) x y)

-- the surface with these points drawn, first to last
unfoldable pub drawn : (width : ℕ) → Paint → List Point → List ℕ → List ℕ
drawn width paint [] s = s
drawn width paint (p ∷ ps) s = drawn width paint ps (dot width paint p.x p.y s)

-- a play as far as surface and journal are concerned: the points that it draws, first to last, what each pixel becomes, and the record's
-- type
pub record Work : Type 0 where
  pub points : List Point
  pub paint : Paint
  pub kind : ℕ
