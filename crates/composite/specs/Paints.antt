-- What a pixel becomes, by the play's rule. Definitions only.
use Rattle.std.specs.Prelude.{◌≡◌, cond, ℕ, ◌-◌, ◌<◌, List, length, get_or, eqb}
use Rattle.pixel.specs.Blend.{over0, over1}
use Rattle.pixel.specs.Raster.{raster_pixel}
use Rattle.region.specs.Target.{row}
use Rattle.journal.specs.Drawing.{Paint}
use Rattle.journal.specs.Records.{DrawnAndSaved}
use Rattle.composite.specs.declared.Start.{Start}
use Rattle.composite.specs.declared.Rule.{Rule}
use Rattle.composite.specs.declared.Rule.TheVariants.{Blend0, Blend1, Raster, Masked}

-- from the source pixel, the mask's bit and the old pixel: alpha format 0 or 1 at constant alpha c, a raster operation, or "the
-- foreground byte at mask bit 1, the background byte at 0"
abbrev pub painted_by : Rule → (source bit old : ℕ) → ℕ
painted_by (Blend0 c) source bit old = over0 source old c
painted_by (Blend1 c) source bit old = over1 source old c
painted_by (Raster op brush) source bit old = raster_pixel op brush source old
painted_by (Masked foreground background brush) source bit old =
    cond (eqb bit 1) (raster_pixel foreground brush source old) (raster_pixel background brush source old)

-- a row's source pixels and mask bits begin at column x
abbrev pub row_paint : Rule → (colours bits : List ℕ) (x : ℕ) → Paint
row_paint rule colours bits x old column row = painted_by rule (get_or colours (column - x) 0) (get_or bits (column - x) 0) old

-- this result of a closure, at each place of a row so long, is what the rule makes of its source pixel, the place's bit and its old pixel
abbrev pub Paints : (result_of : (i source old painted : ℕ) → Type 0) → Rule → (count : ℕ) (bits : List ℕ) → Type 0
Paints result_of rule count bits =
    (i source old painted : ℕ) → i < count → result_of i source old painted → painted ≡ painted_by rule source (get_or bits i 0) old

-- a row that starts so, painted: its pixels are drawn on the surface, and their old ones saved in the journal
abbrev pub Painted : (width : ℕ) → Start → Rule → (colours bits surface journal surface_after journal_after : List ℕ) → Type 0
Painted width p rule colours bits surface journal surface_after journal_after =
    DrawnAndSaved width p.at (row_paint rule colours bits p.x) (row p.x (length colours) p.y) surface journal surface_after journal_after
