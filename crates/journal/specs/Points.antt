-- Lists of points, of any shape: the order of a drawing, in which no point comes twice, and what a list holds. Definitions only.
use Rattle.std.specs.Prelude.{◌≡◌, ℕ, ◌<◌}
use mathlib.Core.List.{List, [], ◌∷◌, Memᴰ}
use Rattle.region.specs.Target.{Point}
use Rattle.journal.specs.All.{All}
use Rattle.journal.specs.Drawing.{pixel_index, Paint}

-- the pixel of each stands behind pixel k
abbrev pub After : (width k : ℕ) → List Point → Type 0
After width k ps = All (λ (p : Point). k < pixel_index width p.x p.y) ps

-- each stands behind those before it
abbrev pub Ascends : (width : ℕ) → List Point → Type 0
Ascends width [] = Unit {0}
Ascends width (p ∷ ps) = After width (pixel_index width p.x p.y) ps × Ascends width ps

-- the point at column x and row y is one of them
abbrev pub Holds : List Point → (x y : ℕ) → Type 0
Holds ps x y = Memᴰ (record { x = x; y = y }) ps

-- two rules make the same of every old pixel at each of them
abbrev pub AgreeOn : (f g : Paint) → List Point → Type 0
AgreeOn f g ps = All (λ (p : Point). (old : ℕ) → f old p.x p.y ≡ g old p.x p.y) ps
