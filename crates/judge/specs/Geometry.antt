-- Document 01, refusal 12. Definitions only. Extents and corners are 32-bit words in two's complement.
use Rattle.std.specs.Prelude.{ℕ, ◌+◌, Bool, cond, not, ◌&&◌, ◌||◌, ltb}
use Rattle.words.specs.Bytes.{negative32, magnitude32}

-- an extent "without sign not 1..most"
abbrev pub bad_side : (most x : ℕ) → Bool
bad_side most x = ltb (magnitude32 x) 1 || ltb most (magnitude32 x)

-- a corner's coordinate "outside ±1,000,000"
abbrev pub far : ℕ → Bool
far x = ltb 1000000 (magnitude32 x)

-- "A negative extent covers the pixels before its corner: x + cx up to x − 1." Not inside columns 0 .. n - 1:
abbrev pub sticks_out : (x cx n : ℕ) → Bool
sticks_out x cx n = negative32 x || cond (negative32 cx) (ltb x (magnitude32 cx) || ltb n x) (ltb n (x + magnitude32 cx))

-- "target extent without sign not 1..4,096"; "the target's corner .. outside ±1,000,000"
abbrev pub bad_target : (x y cx cy : ℕ) → Bool
bad_target x y cx cy = bad_side 4096 cx || bad_side 4096 cy || far x || far y

-- "negative extent in 0x72 or 0x4E": in a type whose extents may not be negative; an absent source's are not looked at
abbrev pub bad_signs : (signed present : Bool) (cx cy cx_src cy_src : ℕ) → Bool
bad_signs signed present cx cy cx_src cy_src =
    not signed && (negative32 cx || negative32 cy || present && (negative32 cx_src || negative32 cy_src))

-- "present source extent without sign not 1..16,384"; its corner; "present source's rectangle not inside its picture"
abbrev pub bad_source : (x y cx cy width rows : ℕ) → Bool
bad_source x y cx cy width rows = bad_side 16384 cx || bad_side 16384 cy || far x || far y || sticks_out x cx width || sticks_out y cy rows

-- the corner of a mask
abbrev pub bad_corner : (x y : ℕ) → Bool
bad_corner x y = far x || far y
