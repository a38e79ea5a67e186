-- The parts and the palette are those of the one reading that was asked for first, by the contracts of the three calls that take it.
use mathlib.Core.Path.{◌≡◌, ap, subst, ◌∙◌}
use Prim.Native.Nat.{ℕ}
use mathlib.Core.Bool.{Bool}
use mathlib.Core.List.{List}
use Rattle.std.specs.Borrow.{Bor}
use Rattle.words.specs.Part.{IsPart}
use Rattle.reading.specs.declared.Reading.{Reading}
use Rattle.reading.specs.Reading.{shown_palette, IsReading}
use Rattle.view.specs.declared.View.{View}
use Rattle.view.specs.declared.Whole.{Whole}
use Rattle.view.specs.View.{view_with, IsWhole}
use Rattle.view.proofs.read.Goals as goal

-- what the literals make
abbrev seen : Bor (List ℕ) → Reading → View
seen b x = record { bytes = b; width = x.width; rows = x.rows; layout = x.layout }

abbrev made : Reading → (header bytes : Bor (List ℕ)) → (palette : List ℕ) → Whole
made x h b p = record { status = x.status; header = h; view = seen b x; palette = p }

is_whole : (s : Bor (List ℕ)) (m : Bool) (x : Reading) (h b : Bor (List ℕ)) (p : List ℕ) → IsReading s.now m x
    → IsPart s h x.header_at x.header_len → IsPart s b x.view_at x.view_len → p ≡ shown_palette s.now x → IsWhole s m (made x h b p)
is_whole s m x h b p e eh eb ep = record {
  status = ap (λ (r : Reading). r.status) e.answer;
  header = subst (λ (r : Reading). IsPart s h r.header_at r.header_len) e.answer eh;
  view = record {
    bytes = subst (λ (r : Reading). IsPart s b r.view_at r.view_len) e.answer eb;
    numbers = ap (view_with b) e.answer;
  };
  palette = ep ∙ e.palette;
}

pub returns : goal.returns
returns c =
    is_whole c.args.s c.args.mask c.read-r.result _ _ _ c.read-r.ensures c.header_part-header.ensures c.view_part-bytes.ensures
    c.palette-palette.ensures
