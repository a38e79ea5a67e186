-- The journal's records as bytes, and lengths that drawing keeps. Assumes nothing.
use mathlib.Core.Path.{◌≡◌, refl, ap, ◌∙◌}
use mathlib.Core.List.{List, [], ◌∷◌, ◌++◌}
use Prim.Native.Nat.{ℕ, suc, ◌+◌, ◌*◌}
use native.Mathlib.Omega.{arith}
use native.Mathlib.Numerals.{towards_suc}
use lib.ListN.{length, get_or, length-set}
use lib.Seq.{sets}
use Rattle.words.specs.Bytes.{bytes32}
use Rattle.region.specs.Target.{Point}
use Rattle.journal.specs.Drawing.{pixel_index, Paint, dot, drawn}
use Rattle.journal.specs.Records.{stride, Entry, entry, entry_bytes, bytes_of, saved}

-- three numbers stored one behind the other are a record
pub three : (j j1 j2 j3 : List ℕ) (k a b c : ℕ) → j1 ≡ sets j k (bytes32 a) → j2 ≡ sets j1 (k + 4) (bytes32 b) → j3 ≡ sets j2 (k + 8) (bytes32 c)
    → j3 ≡ sets j k (entry_bytes a b c)
three j j1 j2 j3 k a b c p q r =
    r ∙ ap (λ (l : List ℕ). sets l (k + 8) (bytes32 c)) (q ∙ ap (λ (l : List ℕ). sets l (k + 4) (bytes32 b)) p) ∙ simp towards_suc

pub length_bytes : (es : List Entry) → length (bytes_of es) ≡ length es * stride
unfolding bytes_of
length_bytes [] = refl
length_bytes (e ∷ es) = omega (arith, length_bytes es)

pub bytes_append : (es fs : List Entry) → bytes_of (es ++ fs) ≡ bytes_of es ++ bytes_of fs
unfolding bytes_of
bytes_append [] fs = refl
bytes_append (e ∷ es) fs = ap (λ (l : List ℕ). entry_bytes e.first e.second e.third ++ l) (bytes_append es fs)

module _ (w : ℕ) (f : Paint) where
  pub length_drawn : (ps : List Point) (s : List ℕ) → length (drawn w f ps s) ≡ length s
  unfolding drawn
  length_drawn [] s = refl
  length_drawn (p ∷ ps) s = length_drawn ps (dot w f p.x p.y s) ∙ length-set s _ _

  pub length_saved : (ps : List Point) (s : List ℕ) → length (saved w f ps s) ≡ length ps
  unfolding saved
  length_saved [] s = refl
  length_saved (p ∷ ps) s = ap suc (length_saved ps (dot w f p.x p.y s))

  -- points drawn in two goes
  pub drawn_append : (ps qs : List Point) (s : List ℕ) → drawn w f (ps ++ qs) s ≡ drawn w f qs (drawn w f ps s)
  unfolding drawn
  drawn_append [] qs s = refl
  drawn_append (p ∷ ps) qs s = drawn_append ps qs (dot w f p.x p.y s)

  pub saved_append : (ps qs : List Point) (s : List ℕ) → saved w f (ps ++ qs) s ≡ saved w f ps s ++ saved w f qs (drawn w f ps s)
  unfolding drawn saved
  saved_append [] qs s = refl
  saved_append (p ∷ ps) qs s =
      ap (λ (l : List Entry). entry p.x p.y (get_or s (pixel_index w p.x p.y) 0) ∷ l) (saved_append ps qs (dot w f p.x p.y s))
