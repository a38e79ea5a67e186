-- A call that was found at the front of some bytes. Definitions only.
use Rattle.std.specs.Prelude.{◌≡◌, ◌≤◌, ℕ, ◌+◌, List, ◌++◌, length, take, drop, get_or}
use Rattle.replay.specs.declared.frame.Frame.{Frame}

-- the call and what stands behind it are the bytes, and its byte data is a part of the call, with zeros alone behind it
pub record Found (f : Frame) (s : List ℕ) : Type 0 where
  pub whole : s ≡ f.call.now ++ f.rest.now
  pub part : (at : ℕ) × (f.bytes.now ≡ take (length f.bytes.now) (drop at f.call.now))
  pub zeros : (k : ℕ) → part.0 + length f.bytes.now ≤ k → get_or f.call.now k 0 ≡ 0
