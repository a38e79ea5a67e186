-- Two works of the same points and the same type, whose rules agree on these points, are one play: they draw the same, append the same
-- records and answer the same. Assumes nothing.
use mathlib.Core.Path.{◌≡◌}
use mathlib.Core.List.{List}
use Prim.Native.Nat.{ℕ}
use Rattle.journal.specs.Drawing.{Work}
use Rattle.journal.specs.Points.{AgreeOn}
use Rattle.journal.proofs.AlikeLaws.{drawn_alike, saved_alike}
use Rattle.memory.specs.Memory.{Memory}
use Rattle.memory.specs.Playing.{drawn_by, appended, played, full_status, play_of}

module _ (w : ℕ) (k k' : Work) (points : k.points ≡ k'.points) (kind : k.kind ≡ k'.kind)
    (agree : AgreeOn k.paint k'.paint k.points) where
  pub drawn_same : (s : List ℕ) → drawn_by w k s ≡ drawn_by w k' s
  drawn_same s = rw (drawn_alike w k.paint k'.paint k.points s agree, points)

  pub appended_same : (s : List ℕ) → appended w k s ≡ appended w k' s
  unfolding appended
  appended_same s = rw (saved_alike w k.paint k'.paint k.points s agree, points, kind)

  pub play_same : (h reading : ℕ) (m : Memory) → play_of w h reading k m ≡ play_of w h reading k' m
  unfolding play_of played full_status
  play_same h reading m = rw (drawn_same m.surface, appended_same m.surface, points)
