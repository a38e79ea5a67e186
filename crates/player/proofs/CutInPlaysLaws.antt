-- A blend's constant alpha is a byte, and then a pixel with all its channels cut is the pixel that condition 2 gives. Assumes nothing.
use mathlib.Core.Path.{◌≡◌, ap, subst, ◌∙◌}
use mathlib.Core.List.{List}
use Prim.Native.Nat.{ℕ}
use Rattle.region.specs.declared.Target.{Target}
use Rattle.pixel.specs.Cut.{cut_over0, cut_over1}
use Rattle.pixel.proofs.CutLaws.{cut_where_needed}
use Rattle.composite.specs.declared.Rule.{Rule}
use Rattle.composite.specs.declared.Rule.TheVariants.{Blend0, Blend1}
use Rattle.composite.specs.Paints.{painted_by}
use Rattle.meaning.specs.Meaning.{Meaning, meaning_of, target_in}
use Rattle.meaning.proofs.ConstantAlphaLaws.{ConstantInByte, constant_in_byte}
use Rattle.player.specs.Pixels.{pixel, source_at, bit_at}
use Rattle.player.specs.CutInPlays.{Becomes, CutInPlays}
use Rattle.player.proofs.Conditions.{condition2}

-- the rule's own byte
constant_of : (rule : Rule) (s : List ℕ) (brush : ℕ) → (meaning_of s).rule brush ≡ rule → ConstantInByte rule
constant_of rule s brush e = subst ConstantInByte e (constant_in_byte s brush)

-- a rule that, at a constant alpha that is a byte, paints what `over` gives
by_rule : (rule : Rule) (over : (source old : ℕ) → ℕ)
    → (ConstantInByte rule → (source bit old : ℕ) → painted_by rule source bit old ≡ over source old) → Becomes rule over
by_rule rule over law w h p m z e x y c =
    let k : Meaning = meaning_of p.bytes in
    let t : Target = target_in w h k p.terms.clip in
    let old : ℕ = pixel w m.surface x y in
    ((condition2 w h p m).accepted z).pixels.inside x y c ∙ ap (λ (r : Rule). painted_by r (source_at k t x y) (bit_at k t x y) old) e
    ∙ law (constant_of rule p.bytes p.terms.brush e) (source_at k t x y) (bit_at k t x y) old

pub cut_in_plays : CutInPlays
cut_in_plays = record {
  constant0 = λ s brush c. constant_of (Blend0 c) s brush;
  constant1 = λ s brush c. constant_of (Blend1 c) s brush;
  format0 = λ c. by_rule (Blend0 c) (λ source old. cut_over0 source old c) (λ a source bit old. cut_where_needed.pixel0_cut source old c a);
  format1 = λ c. by_rule (Blend1 c) (λ source old. cut_over1 source old c) (λ a source bit old. cut_where_needed.pixel1_cut source old c a);
}
