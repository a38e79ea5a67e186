-- What a play saved, read back from the journal and restored, gives the surface back. Assumes nothing.
use mathlib.Core.Path.{◌≡◌, refl, sym, ap, ◌∙◌}
use mathlib.Core.Bool.{false, ◌||◌}
use mathlib.Core.List.{List, [], ◌∷◌, ◌++◌, append_assoc}
use Prim.Native.Nat.{ℕ, zero, suc, ◌+◌, ◌*◌, ◌^◌, ◌≤◌, ◌<◌}
use native.Mathlib.Nat.{add-zero, suc-mul}
use native.Mathlib.Omega.{arith}
use lib.ListN.{length, get_or, set, take, drop, length-append, take-append-drop}
use lib.Seq.{set-set, set-get_or, sets, sets-eq, drop-drop, take_at, drop_at, take-take, length-take-le}
use lib.Dec.{leb}
use borrow.Author.Tests.{lt-leb}
use Rattle.words.specs.Bytes.{le32, bytes32}
use Rattle.words.proofs.ByteLaws.{le_drop, le32_bytes32}
use Rattle.words.proofs.ChoiceLaws.{or_by_second}
use Rattle.region.specs.Target.{Point}
use Rattle.journal.specs.All.{All}
use Rattle.journal.specs.Drawing.{pixel_index, Paint, dot, drawn}
use Rattle.journal.specs.Records.{mark, stride, Entry, entry, entry_bytes, bytes_of, saved, closing, entry_at, entries_at}
use Rattle.journal.specs.Restoring.{restored, any_off}
use Rattle.journal.proofs.RecordLaws.{length_bytes, bytes_append}

-- ---- restoring what was saved

pub restored_saved : (w : ℕ) (f : Paint) (ps : List Point) (s : List ℕ) → restored w (saved w f ps s) (drawn w f ps s) ≡ s
unfolding restored saved drawn
restored_saved w f [] s = refl
restored_saved w f (p ∷ ps) s =
    let k : ℕ = pixel_index w p.x p.y in
    ap (λ (r : List ℕ). set r k (get_or s k 0)) (restored_saved w f ps (dot w f p.x p.y s)) ∙ set-set s k _ _ ∙ set-get_or s k 0

-- ---- the records of points on the surface

pub record OnSurface (w h : ℕ) (p : Point) : Type 0 where
  pub column : p.x < w
  pub line : p.y < h

pub saved_on : (w h : ℕ) (f : Paint) (ps : List Point) (s : List ℕ) → All (OnSurface w h) ps → any_off w h (saved w f ps s) ≡ false
unfolding saved any_off
saved_on w h f [] s on = refl
saved_on w h f (p ∷ ps) s on =
    or_by_second (leb w p.x || leb h p.y) _
    (or_by_second (leb w p.x) (leb h p.y) (lt-leb w p.x on.0.column) (lt-leb h p.y on.0.line))
    (saved_on w h f ps (dot w f p.x p.y s) on.1)

-- ---- 32-bit numbers

abbrev pub Word : ℕ → Type 0
Word v = v < 2 ^ 32

-- a surface of 32-bit numbers, and a rule that keeps it one
abbrev pub PixelWords : List ℕ → Type 0
PixelWords s = (k : ℕ) → Word (get_or s k 0)

abbrev pub KeepsWords : Paint → Type 0
KeepsWords f = (old x y : ℕ) → Word old → Word (f old x y)

-- a record of three 32-bit numbers
pub record EntryWords (e : Entry) : Type 0 where
  pub first : Word e.first
  pub second : Word e.second
  pub third : Word e.third

-- drawing keeps them, and what is saved of points on the surface is such records
words_set : (s : List ℕ) (i v : ℕ) → PixelWords s → Word v → PixelWords (set s i v)
words_set [] i v hs hv k = hs k
words_set (x ∷ s) zero v hs hv zero = hv
words_set (x ∷ s) zero v hs hv (suc k) = hs (suc k)
words_set (x ∷ s) (suc i) v hs hv zero = hs zero
words_set (x ∷ s) (suc i) v hs hv (suc k) = words_set s i v (λ n. hs (suc n)) hv k

module _ (w : ℕ) (f : Paint) (keeps : KeepsWords f) where
  words_dot : (x y : ℕ) (s : List ℕ) → PixelWords s → PixelWords (dot w f x y s)
  words_dot x y s hs = words_set s (pixel_index w x y) _ hs (keeps (get_or s (pixel_index w x y) 0) x y (hs (pixel_index w x y)))

  pub words_drawn : (ps : List Point) (s : List ℕ) → PixelWords s → PixelWords (drawn w f ps s)
  unfolding drawn
  words_drawn [] s hs = hs
  words_drawn (p ∷ ps) s hs = words_drawn ps (dot w f p.x p.y s) (words_dot p.x p.y s hs)

  pub words_saved : (h : ℕ) (ps : List Point) (s : List ℕ) → w ≤ 2 ^ 32 → h ≤ 2 ^ 32 → All (OnSurface w h) ps → PixelWords s
      → All EntryWords (saved w f ps s)
  unfolding saved
  words_saved h [] s hw hh on hs = tt
  words_saved h (p ∷ ps) s hw hh on hs = (
    record { first = omega (arith, on.0.column); second = omega (arith, on.0.line); third = hs (pixel_index w p.x p.y) },
    words_saved h ps (dot w f p.x p.y s) hw hh on.1 (words_dot p.x p.y s hs),
  )

-- ---- records read back from bytes

-- a number that is stored at byte k
le32_back : (j : List ℕ) (k v : ℕ) (rest : List ℕ) → drop k j ≡ bytes32 v ++ rest → Word v → le32 j k ≡ v
le32_back j k v rest q b =
    ap (le32 j) (sym (add-zero k)) ∙ sym (le_drop 4 j k 0) ∙ ap (λ (l : List ℕ). le32 l 0) q ∙ le32_bytes32 v rest b

-- a record, number by number: only one that is asked for need be of 32 bits
module _ (j : List ℕ) (i a b c : ℕ) (rest : List ℕ) (q : drop (i * stride) j ≡ entry_bytes a b c ++ rest) where
  behind : (n : ℕ) → drop (i * stride + n) j ≡ drop n (entry_bytes a b c ++ rest)
  behind n = sym (drop-drop n (i * stride) j) ∙ ap (drop n) q

  pub first_back : Word a → (entry_at j i).first ≡ a
  first_back = le32_back j (i * stride) a (bytes32 b ++ bytes32 c ++ rest) q

  pub second_back : Word b → (entry_at j i).second ≡ b
  second_back = le32_back j (i * stride + 4) b (bytes32 c ++ rest) (behind 4)

  pub third_back : Word c → (entry_at j i).third ≡ c
  third_back = le32_back j (i * stride + 8) c rest (behind 8)

  pub entry_back : EntryWords (entry a b c) → entry_at j i ≡ entry a b c
  entry_back h = λ t. entry (first_back h.first t) (second_back h.second t) (third_back h.third t)

-- a closing record: its type need not be of 32 bits
pub closing_back : (j : List ℕ) (i count kind : ℕ) (rest : List ℕ) → drop (i * stride) j ≡ bytes_of (closing count kind ∷ []) ++ rest → Word count
    → ((entry_at j i).first ≡ mark) × ((entry_at j i).second ≡ count)
unfolding bytes_of
closing_back j i count kind rest q b =
    (first_back j i mark count kind rest q (omega arith), second_back j i mark count kind rest q b)

-- several records
pub entries_back : (es : List Entry) (j : List ℕ) (i : ℕ) (rest : List ℕ) → All EntryWords es → drop (i * stride) j ≡ bytes_of es ++ rest
    → entries_at j i (length es) ≡ es
unfolding bytes_of entries_at
entries_back [] j i rest h q = refl
entries_back (e ∷ es) j i rest h q =
    λ t. entry_back j i e.first e.second e.third (bytes_of es ++ rest) q h.0 t
    ∷ entries_back es j (suc i) rest h.1
    (ap (λ (k : ℕ). drop k j) (suc-mul i stride) ∙ behind j i e.first e.second e.third (bytes_of es ++ rest) q stride) t

-- ---- a journal whose first k bytes are known records

module _ (j : List ℕ) (k : ℕ) (a b : List Entry) where
  -- where the later ones stand
  pub front_drop : take k j ≡ bytes_of (a ++ b) → drop (length a * stride) j ≡ bytes_of b ++ drop k j
  front_drop q =
      ap (drop (length a * stride))
      (sym (take-append-drop k j) ∙ ap (λ (l : List ℕ). l ++ drop k j) (q ∙ bytes_append a b) ∙ append_assoc (bytes_of a) (bytes_of b) (drop k j))
      ∙ drop_at (bytes_of a) (bytes_of b ++ drop k j) (length a * stride) (length_bytes a)

  -- the earlier ones alone
  pub front_take : length a * stride ≤ k → take k j ≡ bytes_of (a ++ b) → take (length a * stride) j ≡ bytes_of a
  front_take le q =
      sym (take-take (length a * stride) k j le) ∙ ap (take (length a * stride)) (q ∙ bytes_append a b)
      ∙ take_at (bytes_of a) (bytes_of b) (length a * stride) (length_bytes a)

  -- more of them stored behind
  pub front_stored : (n : ℕ) → take k j ≡ bytes_of a → n ≡ k + length (bytes_of b) → n ≤ length j → take n (sets j k (bytes_of b)) ≡ bytes_of (a ++ b)
  front_stored n q e le =
      ap (take n) (sets-eq (bytes_of b) j k (omega arith))
      ∙ take_at (take k j ++ bytes_of b) _ n
      (length-append (take k j) (bytes_of b) ∙ ap (λ (i : ℕ). i + length (bytes_of b)) (length-take-le k j (omega arith)) ∙ sym e)
      ∙ ap (λ (l : List ℕ). l ++ bytes_of b) q ∙ sym (bytes_append a b)
