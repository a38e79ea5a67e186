-- A rounded mean of bytes is a byte, so the cut changes nothing there; and four bytes are put together without a carry. Assumes nothing.
use mathlib.Core.Path.{◌≡◌, refl}
use Prim.Native.Nat.{ℕ, ◌/◌, ◌%◌, ◌^◌, ◌≤◌, suc-le-suc}
use native.Mathlib.Omega.{arith}
use Rattle.pixel.specs.Round.{round_div, cut}
use Rattle.pixel.specs.Blend.{blend0, uncut1, blend1, blend_alpha1, alpha, red, green, blue, channelwise, over0, over1}
use Rattle.pixel.specs.Cut.{Channels, cut_over0, cut_over1, CutWhereNeeded}
use Rattle.pixel.proofs.BlendLaws.{parts0, alpha_parts1}

format0_upto : (s d c : ℕ) → s ≤ 255 → d ≤ 255 → c ≤ 255 → blend0 s d c ≤ 255
unfolding blend0 round_div
format0_upto s d c hs hd hc = omega (arith, parts0 (suc-le-suc hs) (suc-le-suc hd) (suc-le-suc hc))

alpha1_upto : (a d c : ℕ) → a ≤ 255 → d ≤ 255 → c ≤ 255 → blend_alpha1 a d c ≤ 255
unfolding blend_alpha1 uncut1 round_div
alpha1_upto a d c ha hd hc = omega (arith, alpha_parts1 (suc-le-suc ha) (suc-le-suc hd) (suc-le-suc hc))

colours1_upto : (s a d c : ℕ) → blend1 s a d c ≤ 255
unfolding blend1 cut
colours1_upto s a d c = omega arith

same : (n : ℕ) → n ≤ 255 → cut n ≡ n
unfolding cut
same n h = omega arith

-- a rule that makes a byte of two bytes
abbrev InByte : ((x y : ℕ) → ℕ) → Type 0
InByte f = (x y : ℕ) → x ≤ 255 → y ≤ 255 → f x y ≤ 255

-- a channel is a byte
upto : (n : ℕ) → n % 256 ≤ 255
upto n = omega arith

module _ (on_alpha on_colour : (x y : ℕ) → ℕ) (s d : ℕ) (ba : InByte on_alpha) (bc : InByte on_colour) where
  joined : Channels (channelwise on_alpha on_colour s d) on_alpha on_colour s d
  joined =
      let a = ba (alpha s) (alpha d) (upto _) (upto _) in
      let r = bc (red s) (red d) (upto _) (upto _) in
      let g = bc (green s) (green d) (upto _) (upto _) in
      let b = bc (blue s) (blue d) (upto _) (upto _) in
      record { alpha_is = omega arith; red_is = omega arith; green_is = omega arith; blue_is = omega arith; fits = omega arith }

module _ (s d c : ℕ) (h : c ≤ 255) where
  in_byte0 : InByte (λ x y. blend0 x y c)
  in_byte0 x y hx hy = format0_upto x y c hx hy h

  in_byte1 : InByte (λ x y. blend_alpha1 x y c)
  in_byte1 x y hx hy = alpha1_upto x y c hx hy h

  pixel0 : Channels (over0 s d c) (λ x y. blend0 x y c) (λ x y. blend0 x y c) s d
  unfolding over0
  pixel0 = joined (λ x y. blend0 x y c) (λ x y. blend0 x y c) s d in_byte0 in_byte0

  pixel1 : Channels (over1 s d c) (λ x y. blend_alpha1 x y c) (λ x y. blend1 x (alpha s) y c) s d
  unfolding over1
  pixel1 = joined (λ x y. blend_alpha1 x y c) (λ x y. blend1 x (alpha s) y c) s d in_byte1 (λ x y hx hy. colours1_upto x (alpha s) y c)

  channel0_cut : (m n : ℕ) → cut (blend0 (m % 256) (n % 256) c) ≡ blend0 (m % 256) (n % 256) c
  channel0_cut m n = same (blend0 (m % 256) (n % 256) c) (in_byte0 (m % 256) (n % 256) (upto m) (upto n))

  pixel0_cut : over0 s d c ≡ cut_over0 s d c
  unfolding over0
  pixel0_cut =
      rw (channel0_cut (s / 2 ^ 24) (d / 2 ^ 24), channel0_cut (s / 2 ^ 16) (d / 2 ^ 16), channel0_cut (s / 2 ^ 8) (d / 2 ^ 8), channel0_cut s d)

  pixel1_cut : over1 s d c ≡ cut_over1 s d c
  unfolding over1 blend1 blend_alpha1
  pixel1_cut = rw (same (blend_alpha1 (alpha s) (alpha d) c) (in_byte1 (alpha s) (alpha d) (upto _) (upto _)))

pub cut_where_needed : CutWhereNeeded
unfolding uncut1 round_div
cut_where_needed = record {
  format0 = format0_upto;
  alpha1 = alpha1_upto;
  format0_cut = λ s d c hs hd hc. same (blend0 s d c) (format0_upto s d c hs hd hc);
  alpha1_cut = λ a d c ha hd hc. same (blend_alpha1 a d c) (alpha1_upto a d c ha hd hc);
  colours1 = colours1_upto;
  needed = refl;
  pixel0_cut = pixel0_cut;
  pixel1_cut = pixel1_cut;
  pixel0 = pixel0;
  pixel1 = pixel1;
}
