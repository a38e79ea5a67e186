-- A call that is split off the front of the bytes, with its data between two places of it: behind the data stand the bytes that were tested, and none behind the call. Assumes nothing.
use mathlib.Core.Path.{◌≡◌, sym, ap, ap₂, ◌∙◌}
use mathlib.Core.Logic.{◌⊎◌, inl, inr}
use mathlib.Core.List.{List, ◌++◌}
use Prim.Native.Nat.{ℕ, ◌+◌, ◌-◌, ◌≤◌, ◌<◌}
use native.Mathlib.Nat.{eq-zero-or-pos}
use native.Mathlib.Omega.{arith}
use lib.ListN.{length, get_or, take, drop, length-take, length-drop, get_or-eq_default}
use lib.Seq.{get_or-take}
use Rattle.std.proofs.lemmas.List.{get_or-drop, take-append-drop}
use Rattle.std.specs.List.{slice_range}
use Rattle.replay.specs.declared.frame.Frame.{Frame}
use Rattle.replay.specs.Found.{Found}

zeros_behind : (call : List ℕ) (to : ℕ)
    → ((k : ℕ) → k < length (slice_range call to (length call)) → get_or (slice_range call to (length call)) k 0 ≡ 0)
    → (k : ℕ) → to ≤ k → get_or call k 0 ≡ 0
zeros_behind call to zero k h = go (eq-zero-or-pos (length call - k))
  where
    go : (length call - k ≡ 0) ⊎ (0 < length call - k) → get_or call k 0 ≡ 0
    go (inl e) = get_or-eq_default call 0 (omega arith)
    go (inr more) =
        let many : length (slice_range call to (length call)) ≡ length call - to = simp (length-take, length-drop) (omega arith) in
        let at : to + (k - to) ≡ k = omega arith in
        ap (λ (j : ℕ). get_or call j 0) (sym at) ∙ sym (get_or-drop to call (k - to) 0)
        ∙ sym (get_or-take (length call - to) (drop to call) (k - to) 0 (omega arith)) ∙ zero (k - to) (omega arith)

pub found : (f : Frame) (s : List ℕ) (n from to : ℕ) → n ≤ length s → f.call.now ≡ take n s → f.rest.now ≡ drop n s → from ≤ to → to ≤ n
    → f.bytes.now ≡ slice_range f.call.now from to
    → ((k : ℕ) → k < length (slice_range f.call.now to (length f.call.now)) → get_or (slice_range f.call.now to (length f.call.now)) k 0 ≡ 0)
    → Found f s
found f s n from to fits call rest order within bytes zero =
    record {
      whole = sym (take-append-drop n s) ∙ sym (ap₂ (λ (a b : List ℕ). a ++ b) call rest);
      part = (from, bytes ∙ ap (λ (m : ℕ). take m (drop from f.call.now)) (sym many));
      zeros = λ k h. zeros_behind f.call.now to zero k (omega (arith, h, many));
    }
  where
    long : length f.call.now ≡ n
    long = ap length call ∙ simp (length-take) (omega arith)

    many : length f.bytes.now ≡ to - from
    many = ap length bytes ∙ simp (length-take, length-drop) (omega (arith, long))

-- without byte data the call ends where its data would begin
pub found_bare : (f : Frame) (s : List ℕ) (n : ℕ) → n ≤ length s → f.call.now ≡ take n s → f.rest.now ≡ drop n s
    → f.bytes.now ≡ slice_range f.call.now n (length f.call.now) → Found f s
found_bare f s n fits call rest bytes =
    found f s n n (length f.call.now) fits call rest (omega (arith, long)) (omega (arith, long)) bytes (λ k h. absurd (omega (arith, h, none)))
  where
    long : length f.call.now ≡ n
    long = ap length call ∙ simp (length-take) (omega arith)

    none : length (slice_range f.call.now (length f.call.now) (length f.call.now)) ≡ 0
    none = simp (length-take) (omega arith)
