-- Document 02, item 4: "work out each colour from eight and-terms over all 24 bits, one for each bit of the operation byte. Show that at each colour
-- bit the term numbered 4·brush + 2·source + target carries the operation byte's bit of that number and the other seven are 0."
-- That it holds is `and_terms` in proofs/AndTermLaws.antt. An and-term is a minterm: one row of the operation's truth table.
use Rattle.std.specs.Prelude.{◌≡◌, ◌≢◌, ℕ, zero, suc, ◌+◌, ◌*◌, ◌^◌, ◌<◌}
use Rattle.std.specs.Int.Bits.{bit_and, bit_or, bit_xor}
use Rattle.pixel.specs.Bits.{bit}
use Rattle.pixel.specs.Raster.{raster_index, raster}

-- bit i of the operation, 24 times
unfoldable pub spread_of : (op i : ℕ) → ℕ
spread_of op i = 0xFFFFFF * bit op i

-- a side of a term: the colour as it is where the term's number has a 1, complemented within 24 bits where it has a 0
unfoldable pub side_of : (digit colour : ℕ) → ℕ
side_of zero colour = bit_xor colour 0xFFFFFF
side_of (suc n) colour = colour

-- the and: a bit is 1 where it is 1 in all four
unfoldable pub and_of : (spread brush source target : ℕ) → ℕ
and_of spread brush source target = bit_and (bit_and (bit_and spread brush) source) target

-- term i; of the number i, 4 is the brush's digit, 2 the source's and 1 the target's
unfoldable pub term_of : (op i brush source target : ℕ) → ℕ
term_of op i brush source target = and_of (spread_of op i) (side_of (bit i 2) brush) (side_of (bit i 1) source) (side_of (bit i 0) target)

-- the or of terms 0 to 2^n − 1: of the lower half and of the upper
unfoldable pub or_of : (n : ℕ) → (ℕ → ℕ) → ℕ
or_of zero term = term 0
or_of (suc n) term = bit_or (or_of n term) (or_of n (λ i. term (2 ^ n + i)))

-- at colour bit k
pub record TermsAt (op brush source target k : ℕ) : Type 0 where
  -- "the term numbered 4·brush + 2·source + target": there is such a term
  pub numbered : raster_index brush source target k < 8
  -- "carries the operation byte's bit of that number"
  pub carries :
      let i = raster_index brush source target k in
      bit (term_of op i brush source target) k ≡ bit op i
  -- "and the other seven are 0"
  pub others : (i : ℕ) → i < 8 → i ≢ raster_index brush source target k → bit (term_of op i brush source target) k ≡ 0

pub record AndTerms : Type 0 where
  -- "work out each colour from eight and-terms"
  pub colour : (op brush source target : ℕ) → raster op brush source target ≡ or_of 3 (λ i. term_of op i brush source target)
  -- "over all 24 bits": a term has no others
  pub colour_bits : (op i brush source target : ℕ) → term_of op i brush source target < 2 ^ 24
  -- "at each colour bit"
  pub at_bit : (op brush source target k : ℕ) → k < 24 → TermsAt op brush source target k
