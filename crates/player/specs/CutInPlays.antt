-- Document 02, item 10, of whole plays: condition 2 says "rounded once to nearest and cut to 255", and that is true of all four channels though
-- the definitions cut the colours of format 1 only. That it holds is `cut_in_plays` in proofs/CutInPlaysLaws.antt.
use Rattle.std.specs.Prelude.{◌≡◌, List, ℕ, ◌≤◌}
use Rattle.region.specs.Exact.{Covers}
use Rattle.pixel.specs.Cut.{cut_over0, cut_over1}
use Rattle.composite.specs.declared.Rule.{Rule}
use Rattle.composite.specs.declared.Rule.TheVariants.{Blend0, Blend1}
use Rattle.memory.specs.Memory.{Memory}
use Rattle.meaning.specs.Meaning.{meaning_of, target_in}
use Rattle.player.specs.Calls.{Play, play_outcome}
use Rattle.player.specs.Pixels.{pixel, source_at}

-- in every accepted play by `rule`, each pixel of the clipped target becomes `over` of its source pixel and its old pixel
abbrev pub Becomes : Rule → (over : (source old : ℕ) → ℕ) → Type 0
Becomes rule over =
    (width height : ℕ) (p : Play) (m : Memory)
    → (play_outcome width height p m).status ≡ 0 → (meaning_of p.bytes).rule p.terms.brush ≡ rule
    → (x y : ℕ) → Covers (target_in width height (meaning_of p.bytes) p.terms.clip) x y
    → pixel width (play_outcome width height p m).after.surface x y
    ≡ over (source_at (meaning_of p.bytes) (target_in width height (meaning_of p.bytes) p.terms.clip) x y) (pixel width m.surface x y)

pub record CutInPlays : Type 0 where
  -- a blend's constant alpha is a byte, as the claim on numbers asks: of every record, accepted or not, and of lists that are not bytes
  pub constant0 : (s : List ℕ) (brush c : ℕ) → (meaning_of s).rule brush ≡ Blend0 c → c ≤ 255
  pub constant1 : (s : List ℕ) (brush c : ℕ) → (meaning_of s).rule brush ≡ Blend1 c → c ≤ 255
  -- condition 2, with its cut
  pub format0 : (c : ℕ) → Becomes (Blend0 c) (λ source old. cut_over0 source old c)
  pub format1 : (c : ℕ) → Becomes (Blend1 c) (λ source old. cut_over1 source old c)
