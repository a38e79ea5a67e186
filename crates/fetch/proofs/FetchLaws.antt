-- A row whose depth and masks are known. Assumes nothing.
use mathlib.Core.Path.{◌≡◌, refl}
use mathlib.Core.Bool.{true, false, ◌&&◌}
use mathlib.Core.Logic.{◌≢◌}
use mathlib.Core.List.{List, []}
use Prim.Native.Nat.{ℕ, ◌*◌}
use lib.Dec.{eqb, leb, lit≤}
use lib.ListN.{length, get_or}
use native.Mathlib.Omega.{arith}
use borrow.Author.Tests.{eqb-true, lt-leb}
use Rattle.words.specs.Bytes.{le}
use Rattle.words.proofs.ChoiceLaws.{and_both}
use Rattle.words.proofs.FillLaws.{filled_by}
use Rattle.pixel.specs.Position.{is_depth}
use Rattle.pixel.proofs.PositionLaws.{on_depth}
use Rattle.dib.specs.declared.Masks.{Masks}
use Rattle.sample.specs.Stored.{stored}
use Rattle.sample.specs.Colour.{masked, shown}
use Rattle.fetch.specs.Fetched.{fetched, Fetches, WholeBytes}

-- what is left when the code has passed the other depths
pub last_depth : (b : ℕ) → is_depth b ≡ true → b ≢ 1 → b ≢ 4 → b ≢ 8 → b ≢ 16 → b ≢ 24 → b ≡ 32
last_depth b h n1 n4 n8 n16 n24 =
    on_depth (λ (d : ℕ). b ≡ d → b ≡ 32) (λ e. absurd (n1 e)) (λ e. absurd (n4 e)) (λ e. absurd (n8 e)) (λ e. absurd (n16 e))
    (λ e. absurd (n24 e)) (λ e. e) b h refl

-- up to 8 bits no mask is looked at
pub no_masks_lem : (bits b : ℕ) → bits ≡ b → (palette : List ℕ) (m other : Masks) (line columns : List ℕ) → leb b 8 ≡ true
    → (k : ℕ) → fetched b palette other line columns k ≡ fetched bits palette m line columns k
unfolding fetched shown
no_masks_lem bits b e palette m other line columns t k = rw (e, t)

-- above 8 bits no palette is looked at
pub no_palette : (bits : ℕ) (palette : List ℕ) (m : Masks) (line columns before after : List ℕ) → leb bits 8 ≡ false
    → Fetches bits [] m line columns before after → Fetches bits palette m line columns before after
unfolding fetched shown
no_palette bits palette m line columns before after e p = filled_by _ _ (length columns) before after (λ k h. same k) p
  where
    same : (k : ℕ) → fetched bits [] m line columns k ≡ fetched bits palette m line columns k
    same k = rw e

-- masks that were compared
pub same_masks_lem : (m k : Masks) → (eqb m.red k.red && (eqb m.green k.green && (eqb m.blue k.blue && eqb m.alpha k.alpha))) ≡ true → m ≡ k
same_masks_lem m k e =
    let r = and_both (eqb m.red k.red) _ e in
    let g = and_both (eqb m.green k.green) _ r.1 in
    let b = and_both (eqb m.blue k.blue) (eqb m.alpha k.alpha) g.1 in
    let red = eqb-true m.red k.red r.0 in
    let green = eqb-true m.green k.green g.0 in
    let blue = eqb-true m.blue k.blue b.0 in
    let alpha = eqb-true m.alpha k.alpha b.1 in
    λ i. record { red = red i; green = green i; blue = blue i; alpha = alpha i }

-- at 16 and at 32 bits the number is that of two and of four bytes, by the definition
pub two_bytes : WholeBytes 2
unfolding stored
two_bytes = record { some = lit≤ tt; few = lit≤ tt; number = λ row column. refl }

pub four_bytes : WholeBytes 4
unfolding stored
four_bytes = record { some = lit≤ tt; few = lit≤ tt; number = λ row column. refl }

-- whole bytes are shown by the masks alone
pub whole_shown : (bytes : ℕ) (m : Masks) (line columns : List ℕ) (k : ℕ) → WholeBytes bytes
    → masked m (le bytes line (get_or columns k 0 * bytes)) ≡ fetched (bytes * 8) [] m line columns k
unfolding fetched shown
whole_shown bytes m line columns k w =
    let above : leb (bytes * 8) 8 ≡ false = lt-leb (bytes * 8) 8 (omega (arith, w.some)) in
    rw (above, w.number line (get_or columns k 0)) refl
