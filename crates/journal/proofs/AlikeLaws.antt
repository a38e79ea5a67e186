-- Two rules that agree on a list's points draw it alike and save it alike, point after point. Assumes nothing.
use mathlib.Core.Path.{◌≡◌, refl, ap, ◌∙◌}
use mathlib.Core.List.{List, [], ◌∷◌}
use Prim.Native.Nat.{ℕ, ◌+◌, ◌≤◌, ◌<◌}
use lib.ListN.{get_or, set}
use Rattle.region.specs.Target.{Point, row}
use Rattle.journal.specs.Drawing.{pixel_index, Paint, dot, drawn}
use Rattle.journal.specs.Points.{AgreeOn}
use Rattle.journal.specs.Records.{Entry, entry, saved}
use Rattle.journal.proofs.PointwiseLaws.{all_row}

module _ (w : ℕ) (f g : Paint) where
  first : (p : Point) (s : List ℕ) → ((old : ℕ) → f old p.x p.y ≡ g old p.x p.y) → dot w f p.x p.y s ≡ dot w g p.x p.y s
  first p s h = let i : ℕ = pixel_index w p.x p.y in ap (set s i) (h (get_or s i 0))

  pub drawn_alike : (ps : List Point) (s : List ℕ) → AgreeOn f g ps → drawn w f ps s ≡ drawn w g ps s
  unfolding drawn
  drawn_alike [] s h = refl
  drawn_alike (p ∷ ps) s h = drawn_alike ps (dot w f p.x p.y s) h.1 ∙ ap (drawn w g ps) (first p s h.0)

  pub saved_alike : (ps : List Point) (s : List ℕ) → AgreeOn f g ps → saved w f ps s ≡ saved w g ps s
  unfolding saved
  saved_alike [] s h = refl
  saved_alike (p ∷ ps) s h =
      ap (λ (l : List Entry). entry p.x p.y (get_or s (pixel_index w p.x p.y) 0) ∷ l)
      (saved_alike ps (dot w f p.x p.y s) h.1 ∙ ap (saved w g ps) (first p s h.0))

-- a row, by its columns
pub agree_row : (f g : Paint) (x n y : ℕ) → ((k old : ℕ) → x ≤ k → k < x + n → f old k y ≡ g old k y) → AgreeOn f g (row x n y)
agree_row f g x n y h = all_row _ x n y (λ k a b old. h k old a b)
