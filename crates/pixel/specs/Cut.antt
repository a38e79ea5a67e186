-- Document 02, item 10: "Show that no channel of format 0 passes 255, nor the alpha of format 1, and remove the cut there. It stays for the
-- colours of format 1." Over the definitions that the contracts cite; that it holds is `cut_where_needed` in proofs/CutLaws.antt.
use Rattle.std.specs.Prelude.{◌≡◌, ℕ, ◌^◌, ◌≤◌, ◌<◌}
use Rattle.pixel.specs.Round.{cut}
use Rattle.pixel.specs.Blend.{blend0, uncut1, blend1, blend_alpha1, alpha, red, green, blue, channelwise, over0, over1}

-- a pixel's four channels are what the two rules give: nothing of one spills into its neighbour, or past 32 bits
pub record Channels (pixel : ℕ) (on_alpha on_colour : (x y : ℕ) → ℕ) (s d : ℕ) : Type 0 where
  pub alpha_is : alpha pixel ≡ on_alpha (alpha s) (alpha d)
  pub red_is : red pixel ≡ on_colour (red s) (red d)
  pub green_is : green pixel ≡ on_colour (green s) (green d)
  pub blue_is : blue pixel ≡ on_colour (blue s) (blue d)
  pub fits : pixel < 2 ^ 32

-- document 01 to the letter: every channel is "rounded to nearest, then cut to 255 where above"
abbrev pub cut_over0 : (s d c : ℕ) → ℕ
cut_over0 s d c = channelwise (λ x y. cut (blend0 x y c)) (λ x y. cut (blend0 x y c)) s d

abbrev pub cut_over1 : (s d c : ℕ) → ℕ
cut_over1 s d c = channelwise (λ x y. cut (uncut1 x x y c)) (λ x y. cut (uncut1 x (alpha s) y c)) s d

pub record CutWhereNeeded : Type 0 where
  -- "no channel of format 0 passes 255, nor the alpha of format 1"
  pub format0 : (s d c : ℕ) → s ≤ 255 → d ≤ 255 → c ≤ 255 → blend0 s d c ≤ 255
  pub alpha1 : (a d c : ℕ) → a ≤ 255 → d ≤ 255 → c ≤ 255 → blend_alpha1 a d c ≤ 255
  -- "remove the cut there": with it they would be the same numbers
  pub format0_cut : (s d c : ℕ) → s ≤ 255 → d ≤ 255 → c ≤ 255 → cut (blend0 s d c) ≡ blend0 s d c
  pub alpha1_cut : (a d c : ℕ) → a ≤ 255 → d ≤ 255 → c ≤ 255 → cut (blend_alpha1 a d c) ≡ blend_alpha1 a d c
  -- "It stays for the colours of format 1": 255 with alpha 0, at c 255 on 255, is 510 without it
  pub colours1 : (s a d c : ℕ) → blend1 s a d c ≤ 255
  pub needed : uncut1 255 0 255 255 ≡ 510
  -- so of whole pixels document 01's cut is still true of every channel
  pub pixel0_cut : (s d c : ℕ) → c ≤ 255 → over0 s d c ≡ cut_over0 s d c
  pub pixel1_cut : (s d c : ℕ) → c ≤ 255 → over1 s d c ≡ cut_over1 s d c
  -- and each channel stays its own
  pub pixel0 : (s d c : ℕ) → c ≤ 255 → Channels (over0 s d c) (λ x y. blend0 x y c) (λ x y. blend0 x y c) s d
  pub pixel1 : (s d c : ℕ) → c ≤ 255 → Channels (over1 s d c) (λ x y. blend_alpha1 x y c) (λ x y. blend1 x (alpha s) y c) s d
