-- What the tests of a header say of its numbers. Assumes nothing.
use mathlib.Core.Path.{◌≡◌, refl}
use mathlib.Core.Bool.{Bool, true, false, cond, not, ◌||◌}
use Prim.Native.Nat.{ℕ, ◌*◌, ◌^◌, ◌≤◌, min}
use native.Mathlib.Omega.{arith}
use native.Mathlib.Nat.{mul-le-mul}
use lib.Pow.{pow_mono}
use lib.Dec.{eqb, ltb, leb, lit≤}
use borrow.Author.Tests.{lt-ltb, le-ltb, ltb-true, ltb-false, leb-true, not-false}
use Rattle.pixel.specs.Position.{is_depth, row_length}
use Rattle.pixel.proofs.PositionLaws.{on_depth}
use Rattle.words.proofs.ChoiceLaws.{or_none, cond_upto}
use Rattle.dib.specs.declared.Header.{Header}
use Rattle.dib.specs.Header.{rows as rows_of, entries}
use Rattle.dib.specs.HeaderStatus.{bad_size, bad_compression, bad_extent, bad_colours, bad_fields, bad_header, bits_needed}

-- above one of two bounds is above the lower
pub or_min : (a b c : ℕ) → ltb (min a b) c ≡ (ltb a c || ltb b c)
or_min a b c = first (ltb a c) refl
  where
    second : ltb a c ≡ false → (t : Bool) → ltb b c ≡ t → ltb (min a b) c ≡ t
    second e true f = lt-ltb (min a b) c (omega (arith, ltb-true b c f))
    second e false f = le-ltb (min a b) c (omega (arith, ltb-false a c e, ltb-false b c f))

    first : (t : Bool) → ltb a c ≡ t → ltb (min a b) c ≡ (t || ltb b c)
    first true e = lt-ltb (min a b) c (omega (arith, ltb-true a c e))
    first false e = second e (ltb b c) refl

pub depth_bounds : (b : ℕ) → is_depth b ≡ true → (1 ≤ b) × (b ≤ 32)
depth_bounds b h =
    on_depth (λ (b : ℕ). (1 ≤ b) × (b ≤ 32)) (lit≤ tt, lit≤ tt) (lit≤ tt, lit≤ tt) (lit≤ tt, lit≤ tt) (lit≤ tt, lit≤ tt) (lit≤ tt, lit≤ tt)
    (lit≤ tt, lit≤ tt) b h

pub extent_bounds : (n : ℕ) → bad_extent n ≡ false → (1 ≤ n) × (n ≤ 16384)
extent_bounds n h = let p = or_none (ltb n 1) (ltb 16384 n) h in (ltb-false n 1 p.0, ltb-false 16384 n p.1)

pub colours_bounds : (c b : ℕ) → bad_colours c b ≡ false → (c ≤ 2 ^ b) × (c ≤ 256)
unfolding bad_colours
colours_bounds c b h = let p = or_none (ltb (2 ^ b) c) (ltb 256 c) h in (ltb-false (2 ^ b) c p.0, ltb-false 256 c p.1)

-- what status 8 leaves of a header's numbers
pub record Sound (h : Header) : Type 0 where
  pub size : bad_size h.size ≡ false
  pub depth : is_depth h.bits ≡ true
  pub compression : bad_compression h.compression h.bits ≡ false
  pub width : (1 ≤ h.width) × (h.width ≤ 16384)
  pub rows : (1 ≤ rows_of h) × (rows_of h ≤ 16384)
  pub colours : (h.colours ≤ 2 ^ h.bits) × (h.colours ≤ 256)

pub sound : (h : Header) → bad_fields h ≡ false → Sound h
unfolding bad_fields
sound h e =
    let g = or_none _ (bad_colours h.colours h.bits) e in
    let f = or_none _ (bad_extent (rows_of h)) g.0 in
    let w = or_none _ (bad_extent h.width) f.0 in
    let c = or_none _ (bad_compression h.compression h.bits) w.0 in
    let d = or_none _ (not (is_depth h.bits)) c.0 in
    let p = or_none (bad_size h.size) (not (eqb h.planes 1)) d.0 in
    record {
      size = p.0;
      depth = not-false _ d.1;
      compression = c.1;
      width = extent_bounds h.width w.1;
      rows = extent_bounds (rows_of h) f.1;
      colours = colours_bounds h.colours h.bits g.1;
    }

-- the rows of a picture within the limits take at most 2^30 bytes
pub row_small : (w b : ℕ) → w ≤ 16384 → b ≤ 32 → row_length w b ≤ 65536
unfolding row_length
row_small w b h l = omega (arith, mul-le-mul h l)

pub bits_small : (h : Header) → bad_fields h ≡ false → bits_needed h ≤ 65536 * 16384
unfolding bits_needed
bits_small h e =
    let s = sound h e in
    mul-le-mul (row_small h.width h.bits s.width.1 (depth_bounds h.bits s.depth).1) s.rows.1

-- ---- where the colour table stands, and its length

-- 2 ^ bits is at most 256 at 8 bits
pub full_table : (b : ℕ) → cond (leb b 8) (min (2 ^ b) 256) 0 ≡ cond (leb b 8) (2 ^ b) 0
full_table b = go (leb b 8) refl
  where
    go : (t : Bool) → leb b 8 ≡ t → cond t (min (2 ^ b) 256) 0 ≡ cond t (2 ^ b) 0
    go true e = let l = leb-true b 8 e in omega (arith, pow_mono l)
    go false e = refl

-- the table of a header that status 8 lets pass
pub entries_bound : (h : Header) → bad_fields h ≡ false → entries h ≤ 256
unfolding entries
entries_bound h e =
    let f = cond_upto (leb h.bits 8) (min (2 ^ h.bits) 256) 0 {n = 256} (omega arith) (lit≤ tt) in
    cond_upto (eqb h.colours 0) (cond (leb h.bits 8) (2 ^ h.bits) 0) h.colours (omega (arith, full_table h.bits)) (sound h e).colours.1

-- a header part that status 8 lets pass
pub passed_fields : (n : ℕ) (h : Header) → bad_header n h ≡ false → bad_fields h ≡ false
unfolding bad_header
passed_fields n h e = (or_none (bad_fields h) _ e).0
