-- A turn of a row's loop, for every rule g by which the i-th pixel of a row becomes another. Assumes nothing.
use mathlib.Core.Path.{◌≡◌, sym, ap, ◌∙◌, subst}
use mathlib.Core.List.{List}
use Prim.Native.Nat.{ℕ, ◌+◌, ◌-◌, ◌*◌, ◌<◌}
use native.Mathlib.Nat.{add-sub_cancel_left}
use lib.ListN.{get_or, set}
use lib.Seq.{sets}
use Rattle.journal.specs.Drawing.{Paint}
use Rattle.journal.specs.Records.{stride, entry_bytes}
use Rattle.journal.proofs.RowLaws.{Row, row_turns}
use Rattle.composite.specs.declared.Rule.{Rule}
use Rattle.composite.specs.declared.Start.{Start}
use Rattle.composite.specs.Paints.{Painted, painted_by, row_paint}

-- the row's first pixel stands in column x
abbrev along : (g : (i old : ℕ) → ℕ) (x : ℕ) → Paint
along g x old column row = g (column - x) old

pub turns : (g : (i old : ℕ) → ℕ) (w at x n y : ℕ) (s₀ j₀ s j j1 : List ℕ) (i v : ℕ) → Row w (along g x) at x n y s₀ j₀ s j i → i < n
    → v ≡ g i (get_or s (y * w + x + i) 0) → j1 ≡ sets j ((at + i) * stride) (entry_bytes (x + i) y (get_or s (y * w + x + i) 0))
    → Row w (along g x) at x n y s₀ j₀ (set s (y * w + x + i) v) j1 (i + 1)
turns g w at x n y s₀ j₀ s j j1 i v r h ev ej =
    row_turns w (along g x) at x n y s₀ j₀ s j j1 i v r h
    (ev ∙ ap (λ (k : ℕ). g k (get_or s (y * w + x + i) 0)) (sym (add-sub_cancel_left x i))) ej

-- the same of a play's rule
pub rule_turns : (rule : Rule) (colours bits : List ℕ) (w at x n y : ℕ) (s₀ j₀ s j j1 : List ℕ) (i v : ℕ)
    → Row w (row_paint rule colours bits x) at x n y s₀ j₀ s j i → i < n
    → v ≡ painted_by rule (get_or colours i 0) (get_or bits i 0) (get_or s (y * w + x + i) 0)
    → j1 ≡ sets j ((at + i) * stride) (entry_bytes (x + i) y (get_or s (y * w + x + i) 0))
    → Row w (row_paint rule colours bits x) at x n y s₀ j₀ (set s (y * w + x + i) v) j1 (i + 1)
rule_turns rule colours bits = turns (λ i old. painted_by rule (get_or colours i 0) (get_or bits i 0) old)

-- a row painted by a rule that is known; a rule that asks for no bits paints the same whatever they are
pub painted_by_lem : (known rule : Rule) (w : ℕ) (p : Start) (colours bits s j s1 j1 : List ℕ) → rule ≡ known
    → Painted w p known colours bits s j s1 j1 → Painted w p rule colours bits s j s1 j1
painted_by_lem known rule w p colours bits s j s1 j1 e = subst (λ (u : Rule). Painted w p u colours bits s j s1 j1) (sym e)
